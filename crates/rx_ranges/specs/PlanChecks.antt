-- What a plan must be so that a journal can hold it.
use Rattle.std.specs.Prelude.{◌≡◌, ℕ, ◌+◌, ◌≤◌, All, length, sum_by}
use Rattle.std.specs.Str.{IsUtf8}
use Rattle.range_defs.specs.declared.Claim.{Claim}
use Rattle.range_defs.specs.declared.TheConstants.{LONGEST_IMAGE}
use Rattle.range_defs.specs.Claims.{IsFillMap}
use Rattle.rx_ranges.specs.Path.{IsPath}
use Rattle.rx_ranges.specs.declared.plan.ListKind.{ListKind}
use Rattle.rx_ranges.specs.declared.plan.ListKind.TheVariants.{File, Alias}
use Rattle.rx_ranges.specs.declared.plan.Listed.{Listed}
use Rattle.rx_ranges.specs.declared.plan.Plan.{Plan}
use Rattle.rx_ranges.specs.declared.plan.TheConstants.{MAX_RULE, MAX_RANGES, MAX_LISTED, MAX_LISTING_BYTES}

-- the number of a rule
abbrev pub IsRule : ℕ → Type 0
IsRule rule = (1 ≤ rule) × (rule ≤ MAX_RULE)

-- a claim of a rule inside an image of this length
abbrev pub IsClaimIn : ℕ → Claim → Type 0
IsClaimIn len claim = (claim.range.at + claim.range.len ≤ len) × IsRule claim.rule

-- a file is listed with its rule, and an alias with 0
abbrev pub HasListedRule : ListKind → ℕ → Type 0
HasListedRule File rule = IsRule rule
HasListedRule Alias rule = rule ≡ 0

-- a line of a listing
abbrev pub IsListed : Listed → Type 0
IsListed line = HasListedRule line.kind line.rule × IsPath line.path × IsUtf8 line.path

-- the bytes of a line in a journal: a byte for its kind, four for its rule, two for the length of its path, and the path
abbrev pub listed_len : Listed → ℕ
listed_len line = 7 + length line.path

-- a plan that a journal can hold
pub record IsPlan (plan : Plan) : Type 0 where
  pub in_reach : plan.image_len ≤ LONGEST_IMAGE
  pub few_ranges : length plan.ranges ≤ MAX_RANGES
  pub few_lines : length plan.listing ≤ MAX_LISTED
  pub short_listing : sum_by listed_len plan.listing ≤ MAX_LISTING_BYTES
  pub ranges : IsFillMap plan.ranges
  pub within : All (IsClaimIn plan.image_len) plan.ranges
  pub listed : All IsListed plan.listing
