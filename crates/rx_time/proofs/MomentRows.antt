-- The epochs, and the moments beside them.
use Rattle.std.specs.Prelude.{◌≡◌, pos, negsuc, Some, None, refl}
use Rattle.rx_time.specs.Moments.{filetime_moment, hfs_moment}

moments :
    ((filetime_moment 0).seconds ≡ negsuc 11644473599)  -- 1601, the tick in front of 1970, 1970, and its first second
    × ((filetime_moment 116444735999999999).seconds ≡ negsuc 0)  -- tick in front
    × ((filetime_moment 116444736000000000).seconds ≡ pos 0)  -- epoch of ticks
    × ((filetime_moment 116444736010000000).seconds ≡ pos 1)  -- first second
    × (hfs_moment 0 ≡ None)  -- none, the second behind 1904, and 1970
    × (hfs_moment 1 ≡ Some (record { seconds = negsuc 2082844798 }))  -- behind 1904
    × (hfs_moment 2082844800 ≡ Some (record { seconds = pos 0 }))  -- epoch of dates
moments = (refl, refl, refl, refl, refl, refl, refl)
