use Rattle.std.proofs.Common.{◌≡◌, ℕ, List, is_some, ◌∙◌, ap}
use Rattle.std.proofs.lemmas.List.Elements.{All-map, All-same}
use Rattle.std.proofs.lemmas.Result.{IfOk-weaker}
use Rattle.range_defs.specs.declared.Range.{Range}
use Rattle.range_defs.specs.Claims.{painted, ranges_of}
use Rattle.range_defs.specs.Places.{covers, EndsInReach}
use Rattle.range_defs.proofs.ClaimLaws.{covers-claims}
use Rattle.rx_plan.proofs.filled_bytes.Goals as goal

pub from_ranges-requires : goal.from_ranges-requires
from_ranges-requires c =
    let fills = c.args.fills.now in
    let ranges_are = c.in_ok-ranges.ensures ∙ ap ranges_of c.items.ensures.items in
    All-same EndsInReach _ (ranges_of fills) ranges_are (All-map EndsInReach (λ claim. claim.range) fills c.items.ensures.reach)

pub returns : goal.returns
returns c =
    let fills = c.args.fills.now in
    let ranges = c.in_ok-ranges.ranges.items in
    let ranges_are : ranges ≡ ranges_of fills = c.in_ok-ranges.ensures ∙ ap ranges_of c.items.ensures.items in
    let bytes : (filled : List Range) → ((byte : ℕ) → covers filled byte ≡ covers ranges byte) → (byte : ℕ) → covers filled byte ≡ is_some (painted fills byte) =
    λ filled same byte. same byte ∙ ap (λ (list : List Range). covers list byte) ranges_are ∙ covers-claims fills byte in
    IfOk-weaker _ _ _ bytes c.from_ranges.ensures.bytes
