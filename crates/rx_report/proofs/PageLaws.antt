-- Laws of texts that go out in pages.
use Rattle.std.proofs.Common.{◌≡◌, ℕ, ◌+◌, ◌<◌, suc, Option, List, ◌++◌, length, take, drop, sym, ap, ◌∙◌, append_assoc, append-nil}
use Rattle.std.proofs.lemmas.List.{take_more}
use Rattle.std.proofs.lemmas.Grind.{flat_map-append}
use Rattle.std.specs.List.{flat_map, slice_index_or}
use Rattle.disk_defs.specs.Stream.{taken_with, TookPrefixOf}
use Rattle.disk_defs.proofs.StreamLaws.{taken_with-append, took_prefix-within, flat_map-around}
use Rattle.rx_report.specs.Pages.{TookAllBut}

-- what goes on from what waits goes on from the whole text
pub took-then : {before mid after : Option (List ℕ)} {waiting text left whole : List ℕ} (own : List ℕ) → TookAllBut before mid waiting text
    → TookAllBut mid after left (waiting ++ own) → text ++ own ≡ whole → TookAllBut before after left whole
took-then {before} {mid} {after} {waiting} {text} {left} {whole} own first second is = record {
  gone = first.gone ++ second.gone;
  taken = second.taken ∙ ap (λ taken. taken_with taken second.gone) first.taken ∙ taken_with-append before first.gone second.gone;
  whole = append_assoc first.gone second.gone left ∙ ap (λ rest. first.gone ++ rest) second.whole
      ∙ sym (append_assoc first.gone waiting own) ∙ ap (λ all. all ++ own) first.whole ∙ is;
}

-- and so do some first bytes of it
pub prefix-then : {before mid : Option (List ℕ)} {waiting text whole : List ℕ} (after : Option (List ℕ)) (own more : List ℕ)
    → TookAllBut before mid waiting text → TookPrefixOf mid after (waiting ++ own) → text ++ own ++ more ≡ whole → TookPrefixOf before after whole
prefix-then {before} {mid} {waiting} {text} {whole} after own more first some is =
    took_prefix-within before mid after first.gone (waiting ++ own) more whole first.taken some
    (sym (append_assoc first.gone (waiting ++ own) more) ∙ ap (λ all. all ++ more) (sym (append_assoc first.gone waiting own)
    ∙ ap (λ all. all ++ own) first.whole) ∙ is)

-- one line more
pub line-then : {X : Type 0} {before mid after : Option (List ℕ)} {waiting own left : List ℕ} (line : X → List ℕ) (items : List X) (i : ℕ) (d : X)
    (page : List ℕ) → i < length items → own ≡ line (slice_index_or items i d) → TookAllBut before mid waiting (page ++ flat_map line (take i items))
    → TookAllBut mid after left (waiting ++ own) → TookAllBut before after left (page ++ flat_map line (take (i + 1) items))
line-then {own} line items i d page low own_is first second =
    took-then own first second (simp (append_assoc, own_is, take_more items i d low, flat_map-append, append-nil))

-- some first bytes of one line more
pub line-stops : {X : Type 0} {before mid : Option (List ℕ)} {waiting own : List ℕ} (line : X → List ℕ) (items : List X) (i : ℕ) (d : X)
    (after : Option (List ℕ)) (page : List ℕ) → i < length items → own ≡ line (slice_index_or items i d)
    → TookAllBut before mid waiting (page ++ flat_map line (take i items)) → TookPrefixOf mid after (waiting ++ own)
    → TookPrefixOf before after (page ++ flat_map line items)
line-stops {own} line items i d after page low own_is first some =
    let so_far = flat_map line (take i items) in
    let more = flat_map line (drop (suc i) items) in
    let all = ap (λ text. so_far ++ (text ++ more)) own_is ∙ sym (flat_map-around line items i d low) in
    prefix-then after own more first some (simp append_assoc (ap (λ lines. page ++ lines) all))
