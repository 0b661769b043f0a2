-- The form of a journal.
use Rattle.std.specs.Prelude.{◌≡◌, ℕ, ◌+◌, ◌*◌, ◌/◌, ◌<◌, ◌≤◌, ◌==◌, ◌&&◌, All, Bool, codes, map, replicate, slice_index, sum_by, List, [], ◌∷◌, ◌++◌, length}
use Rattle.std.specs.List.{flat_map, list_all}
use Rattle.byteorder.specs.Endian.{little_bytes}
use Rattle.journal_defs.specs.declared.TheConstants.{OPEN_GATE, SET_MARK, HEADER_LEN, RANGE_LEN}
use Rattle.range_defs.specs.declared.Claim.{Claim}
use Rattle.rx_ranges.specs.PlanChecks.{listed_len}
use Rattle.rx_ranges.specs.declared.plan.ListKind.{ListKind}
use Rattle.rx_ranges.specs.declared.plan.ListKind.TheVariants.{File, Alias}
use Rattle.rx_ranges.specs.declared.plan.Listed.{Listed}
use Rattle.rx_ranges.specs.declared.plan.Plan.{Plan}

-- a number in n bytes, the lowest first
unfoldable pub little : ℕ → ℕ → List ℕ
little n number = little_bytes n number

-- how many groups so many ranges have: one for 64 of them, and the last may have fewer
abbrev pub group_count : ℕ → ℕ
group_count ranges = (ranges + 63) / 64

-- the bytes of a range: where it begins, its length, its rule, the byte that fills it, and three zeros
unfoldable pub range_bytes : Claim → List ℕ
range_bytes claim = little 8 claim.range.at ++ little 8 claim.range.len ++ little 4 claim.rule ++ claim.fill ∷ 0 ∷ 0 ∷ 0 ∷ []

-- the byte of a kind of line
abbrev pub kind_byte : ListKind → ℕ
kind_byte File = 1
kind_byte Alias = 2

-- the bytes of a line of the listing: its kind, its rule, the length of its path, and the path
unfoldable pub line_bytes : Listed → List ℕ
line_bytes line = kind_byte line.kind ∷ little 4 line.rule ++ little 2 (length line.path) ++ line.path

-- the bytes of all lines of a plan
abbrev pub listing_len : Plan → ℕ
listing_len plan = sum_by listed_len plan.listing

-- how many groups the ranges of a plan have
abbrev pub groups_of : Plan → ℕ
groups_of plan = group_count (length plan.ranges)

-- all bytes behind the header: the ranges, the listing, a mark for each group and the last mark
abbrev pub body_len : Plan → ℕ
body_len plan = RANGE_LEN * length plan.ranges + listing_len plan + (groups_of plan + 1)

-- how many bytes the journal of a plan has
abbrev pub journal_len : Plan → ℕ
journal_len plan = HEADER_LEN + body_len plan

-- the header behind the gate: the text, the image's length, how many ranges and lines there are, and the bytes of the
-- body and of the listing
unfoldable pub header_rest : Plan → List ℕ
header_rest plan =
    codes "DFRJ v1" ++ little 8 plan.image_len ++ little 4 (length plan.ranges) ++ little 4 (length plan.listing) ++ little 8 (body_len plan)
    ++ little 8 (listing_len plan)

-- the journal of a plan with this gate, these mark bytes, one for each group, and this last mark
unfoldable pub journal_bytes : ℕ → Plan → List ℕ → ℕ → List ℕ
journal_bytes gate plan marks last =
    gate ∷ header_rest plan ++ flat_map range_bytes plan.ranges ++ flat_map line_bytes plan.listing ++ marks ++ last ∷ []

-- a journal as it is first written: its gate is closed, and no mark is set
abbrev pub first_journal : Plan → List ℕ
first_journal plan = journal_bytes 0 plan (replicate (groups_of plan) 0) 0

-- a journal stands open
abbrev pub IsOpen : List ℕ → Type 0
IsOpen bytes = (41 ≤ length bytes) × (slice_index bytes 0 ≡ OPEN_GATE)

-- a mark is set
abbrev pub is_set : ℕ → Bool
is_set byte = byte == SET_MARK

-- all marks are set
abbrev pub is_complete : List Bool → Bool → Bool
is_complete groups last = list_all (λ mark. mark) groups && last

-- an open journal of a plan, with the marks of its groups and the last mark
pub record IsJournal (bytes : List ℕ) (plan : Plan) (groups : List Bool) (last : Bool) : Type 0 where
  pub mark_bytes : List ℕ
  pub last_byte : ℕ
  pub form : bytes ≡ journal_bytes OPEN_GATE plan mark_bytes last_byte
  pub each_group : length mark_bytes ≡ groups_of plan
  pub group_marks : map is_set mark_bytes ≡ groups
  pub last_mark : is_set last_byte ≡ last
  pub bytes_fit : All (λ byte. byte < 256) mark_bytes
  pub last_fits : last_byte < 256
