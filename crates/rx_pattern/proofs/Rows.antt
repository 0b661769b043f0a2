-- What the definitions say of some patterns, worked out by hand.
use Rattle.std.specs.Prelude.{◌≡◌, true, false, Ok, Err, [], ◌∷◌, codes, refl}
use lib.Utf8.{encode}
use Rattle.rx_pattern.specs.declared.class.Member.TheVariants.{Single, Between}
use Rattle.rx_pattern.specs.declared.item.Item.TheVariants.{Plain, Star, OneOf}
use Rattle.rx_pattern.specs.Match.{item_takes}
use Rattle.rx_pattern.specs.MatchTest.{is_match}
use Rattle.rx_pattern.specs.Reading.{read_pattern, items_past, members_past, before_closing}

star_reads : read_pattern (codes "f*3.dat") ≡ Ok (Plain 102 ∷ Star ∷ Plain 51 ∷ Plain 46 ∷ Plain 100 ∷ Plain 97 ∷ Plain 116 ∷ [])
unfolding items_past
star_reads = refl

stars_match :
    (is_match (Plain 102 ∷ Star ∷ Plain 51 ∷ Plain 46 ∷ Plain 100 ∷ Plain 97 ∷ Plain 116 ∷ []) (codes "f0013.dat") ≡ true)  -- star matches
    × (is_match (Plain 102 ∷ Star ∷ Plain 51 ∷ Plain 46 ∷ Plain 100 ∷ Plain 97 ∷ Plain 116 ∷ []) (codes "f0013.data") ≡ false)  -- star misses
    × (is_match (Star ∷ []) [] ≡ true)  -- star matches nothing
unfolding is_match
stars_match = (refl, refl, refl)

classes_read :
    (read_pattern (codes "[]]") ≡ Ok (OneOf record { negated = false; members = Single 93 ∷ [] } ∷ []))  -- bracket reads
    × (read_pattern (codes "[!a-c]") ≡ Ok (OneOf record { negated = true; members = Between 97 99 ∷ [] } ∷ []))  -- negated reads
    × (read_pattern (codes "[a-]") ≡ Ok (OneOf record { negated = false; members = Single 97 ∷ Single 45 ∷ [] } ∷ []))  -- last dash reads
    × (read_pattern (codes "[-a]") ≡ Ok (OneOf record { negated = false; members = Single 45 ∷ Single 97 ∷ [] } ∷ []))  -- first dash reads
    -- dash before bracket reads
    × (read_pattern (codes "[a-]]") ≡ Ok (OneOf record { negated = false; members = Single 97 ∷ Single 45 ∷ [] } ∷ Plain 93 ∷ []))
    × (read_pattern (codes "[]-a]") ≡ Ok (OneOf record { negated = false; members = Between 93 97 ∷ [] } ∷ []))  -- range from bracket reads
    × (read_pattern (codes "[--a]") ≡ Ok (OneOf record { negated = false; members = Between 45 97 ∷ [] } ∷ []))  -- range from dash reads
    × (read_pattern (codes "[!b-a]") ≡ Ok (OneOf record { negated = true; members = Between 98 97 ∷ [] } ∷ []))  -- empty range reads
unfolding items_past members_past before_closing
classes_read = (refl, refl, refl, refl, refl, refl, refl, refl)

classes_take :
    (item_takes (OneOf record { negated = true; members = Between 97 99 ∷ [] }) 100 ≡ true)  -- negated takes
    × (item_takes (OneOf record { negated = true; members = Between 97 99 ∷ [] }) 98 ≡ false)  -- negated leaves
    × (item_takes (OneOf record { negated = false; members = Between 93 97 ∷ [] }) 95 ≡ true)  -- range takes
    × (item_takes (OneOf record { negated = false; members = Between 98 97 ∷ [] }) 97 ≡ false)  -- empty range leaves
classes_take = (refl, refl, refl, refl)

empty_pattern_reads : read_pattern [] ≡ Ok []
unfolding items_past
empty_pattern_reads = refl

open_classes :
    (read_pattern (codes "x[]") ≡ Err 1)  -- empty class is open
    × (read_pattern (codes "[a") ≡ Err 0)  -- open class
    × (read_pattern (codes "[!]") ≡ Err 0)  -- negated bracket is open
    × (read_pattern (233 ∷ 91 ∷ []) ≡ Err 2)  -- the first character is `é`, of two bytes
    × (read_pattern (codes "[a][") ≡ Err 3)  -- second class is open
unfolding items_past members_past before_closing encode
open_classes = (refl, refl, refl, refl, refl)
