use Rattle.std.proofs.Common.{◌≡◌, ap, ◌∙◌, ◌∷◌, [], length}
use Rattle.journal_defs.specs.Form.{little}
use Rattle.journal_format.proofs.Fills.{fills_same, line_fills}
use Rattle.journal_format.proofs.piece.put_line.Goals as goal

pub returns : goal.returns
returns c =
    let path : c.as_bytes-path.result.now ≡ c.args.line.now.path = c.as_bytes-path.ensures.value ∙ c.as_str.ensures.text in
    line_fills c.args.line.now _ _ _ _ _ c.args.at c.args.place (fills_same _ _ _ _ _ _ (ap (λ kind. kind ∷ []) c.kind_byte.ensures) c.put.ensures) c.put_u32.ensures
    (fills_same _ _ _ _ _ _ (ap (λ path. little 2 (length path)) path) c.put_u16.ensures) (fills_same _ _ _ _ _ _ path c.put-2.ensures)
