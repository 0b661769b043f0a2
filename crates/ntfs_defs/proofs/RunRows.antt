-- What the definitions say of some run lists, worked out by hand.
use Rattle.std.specs.Prelude.{◌≡◌, ℕ, ◌^◌, ◌-◌, List, [], ◌∷◌, ◌++◌, map, Some, None, Ok, Err, refl}
use Rattle.ntfs_defs.specs.declared.runs.Run.{Run}
use Rattle.ntfs_defs.specs.declared.fault.RunFault.TheVariants.{TooLong, Short, ZeroRun, Negative, Outside}
use Rattle.ntfs_defs.specs.WrittenRuns.{list_from, list_within, run_at, run_behind, run_with, offset_at}
use Rattle.bytes_defs.specs.Numbers.{number_at}
use Rattle.ntfs_defs.specs.Clusters.{cluster, virtual_clusters, Hole, Stored}
use Rattle.ntfs_defs.specs.DecodedRuns.{decoded_runs, checked_run, begin_of}

-- a run of clusters, and a hole
run : ℕ → ℕ → Run
run len first = record { len = len; cluster = Some first }

hole : ℕ → Run
hole len = record { len = len; cluster = None }

-- `unfolding computing` opens how run lists are read and checked
unfoldable computing : Unit {0}
unfolding run hole list_from list_within run_at run_behind run_with offset_at number_at checked_run begin_of
computing = tt

-- three fragments, each offset from the one in front
abbrev fragments : List ℕ
fragments =
    0x31 ∷ 0x38 ∷ 0x73 ∷ 0x25 ∷ 0x34
    ∷ 0x32 ∷ 0x14 ∷ 0x01 ∷ 0xE5 ∷ 0x11 ∷ 0x02
    ∷ 0x31 ∷ 0x42 ∷ 0xAA ∷ 0x00 ∷ 0x03
    ∷ 0x00 ∷ []

-- a hole between fragments keeps the begin that the next offset counts from
abbrev sparse : List ℕ
sparse =
    0x21 ∷ 0x14 ∷ 0x00 ∷ 0x01
    ∷ 0x11 ∷ 0x10 ∷ 0x18
    ∷ 0x11 ∷ 0x05 ∷ 0x15
    ∷ 0x01 ∷ 0x27
    ∷ 0x11 ∷ 0x20 ∷ 0x05
    ∷ 0x00 ∷ []

short_lists :
    (decoded_runs (2 ^ 40) (0x21 ∷ 0x18 ∷ 0x34 ∷ 0x56 ∷ 0x00 ∷ []) ≡ Ok (run 0x18 0x5634 ∷ []))  -- one fragment
    × (decoded_runs (2 ^ 40) fragments ≡ Ok (run 0x38 0x342573 ∷ run 0x114 0x363758 ∷ run 0x42 0x393802 ∷ []))  -- three fragments
    × (decoded_runs (2 ^ 40) sparse ≡ Ok (run 0x14 0x100 ∷ run 0x10 0x118 ∷ run 5 0x12D ∷ hole 0x27 ∷ run 0x20 0x132 ∷ []))  -- with a hole
    -- its virtual clusters: the first one, the last one of the first run, the first ones of the third run, of the hole and of the last run, the last one, and the one behind
    × (virtual_clusters sparse ≡ 0x70)
    -- sparse clusters
    × (map (cluster sparse) (0 ∷ 0x13 ∷ 0x24 ∷ 0x29 ∷ 0x50 ∷ 0x6F ∷ 0x70 ∷ []) ≡ Some (Stored 0x100) ∷ Some (Stored 0x113) ∷ Some (Stored 0x12D) ∷ Some Hole ∷ Some (Stored 0x132) ∷ Some (Stored 0x151) ∷ None ∷ [])
    × (decoded_runs (2 ^ 40) (0x11 ∷ 0x05 ∷ 0x0A ∷ 0x11 ∷ 0x02 ∷ 0xFB ∷ 0x00 ∷ []) ≡ Ok (run 5 10 ∷ run 2 5 ∷ []))  -- an offset below 0 leads back
    × (decoded_runs (2 ^ 40) (0x11 ∷ 0x05 ∷ 0x0A ∷ 0x11 ∷ 0x02 ∷ 0xF5 ∷ 0x00 ∷ []) ≡ Err (Negative 3))  -- back too far
    × (decoded_runs (2 ^ 40) (0x21 ∷ 0x18 ∷ 0x34 ∷ []) ≡ Err (Short 0))  -- cut offset
    × (decoded_runs (2 ^ 40) [] ≡ Err (Short 0))  -- no bytes
    × (decoded_runs (2 ^ 40) (0x11 ∷ 0x05 ∷ 0x0A ∷ []) ≡ Err (Short 3))  -- no last header
    × (decoded_runs (2 ^ 40) (0x11 ∷ 0x00 ∷ 0x05 ∷ 0x00 ∷ []) ≡ Err (ZeroRun 0))  -- no length
    × (decoded_runs (2 ^ 40) (0x10 ∷ 0x05 ∷ 0x00 ∷ []) ≡ Err (ZeroRun 0))  -- no length bytes are a length of 0
    × (decoded_runs (2 ^ 40) (0x19 ∷ 0x00 ∷ []) ≡ Err (TooLong 0))  -- nine length bytes
    × (decoded_runs (2 ^ 40) (0x91 ∷ []) ≡ Err (TooLong 0))  -- nine offset bytes
    -- 2^48 clusters are not too many, and one more is, also where it begins below 0
    × (decoded_runs (2 ^ 40) (0x07 ∷ 0 ∷ 0 ∷ 0 ∷ 0 ∷ 0 ∷ 0 ∷ 1 ∷ 0x00 ∷ []) ≡ Ok (hole (2 ^ 48) ∷ []))
    × (decoded_runs (2 ^ 40) (0x07 ∷ 0 ∷ 0 ∷ 0 ∷ 0 ∷ 0 ∷ 0 ∷ 1 ∷ 0x11 ∷ 0x01 ∷ 0xFF ∷ 0x00 ∷ []) ≡ Err (TooLong 8))  -- one more
    × (decoded_runs 7 (0x11 ∷ 0x02 ∷ 0x05 ∷ 0x00 ∷ []) ≡ Ok (run 2 5 ∷ []))  -- a run may end where the volume does
    × (decoded_runs 6 (0x11 ∷ 0x02 ∷ 0x05 ∷ 0x00 ∷ []) ≡ Err (Outside 0 5))  -- past the end
    × (decoded_runs 7 (0x11 ∷ 0x02 ∷ 0x05 ∷ 0x00 ∷ 0x19 ∷ []) ≡ Ok (run 2 5 ∷ []))  -- what stands behind the header 0 doesn't count
unfolding computing
short_lists = (refl, refl, refl, refl, refl, refl, refl, refl, refl, refl, refl, refl, refl, refl, refl, refl, refl, refl, refl)

-- offsets of eight bytes: the last cluster of the largest volume, one that leads past it, and one that leads below 0
abbrev far : List ℕ
far = 0x81 ∷ 0x01 ∷ 0xFF ∷ 0xFF ∷ 0xFF ∷ 0xFF ∷ 0xFF ∷ 0xFF ∷ 0xFF ∷ 0x7F ∷ []

long_numbers :
    (decoded_runs (2 ^ 63) (far ++ 0x00 ∷ []) ≡ Ok (run 1 (2 ^ 63 - 1) ∷ []))  -- far offset
    × (decoded_runs (2 ^ 63) (far ++ far) ≡ Err (Outside 10 (2 ^ 64 - 2)))  -- too far offset
    × (decoded_runs (2 ^ 63) (far ++ 0x81 ∷ 0x01 ∷ 0 ∷ 0 ∷ 0 ∷ 0 ∷ 0 ∷ 0 ∷ 0 ∷ 0x80 ∷ []) ≡ Err (Negative 10))  -- far back
    -- a length of eight bytes is unsigned
    × (decoded_runs (2 ^ 63) (0x08 ∷ 0xFF ∷ 0xFF ∷ 0xFF ∷ 0xFF ∷ 0xFF ∷ 0xFF ∷ 0xFF ∷ 0xFF ∷ 0x00 ∷ []) ≡ Err (TooLong 0))
    × (decoded_runs (2 ^ 40) (0x11 ∷ 0x80 ∷ 0x05 ∷ 0x00 ∷ []) ≡ Ok (run 128 5 ∷ []))  -- a length byte above 0x7F isn't below 0
unfolding computing
long_numbers = (refl, refl, refl, refl, refl)
