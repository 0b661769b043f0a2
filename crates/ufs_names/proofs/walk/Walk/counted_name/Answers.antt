use Rattle.std.proofs.Common.{length, ap, sym, ◌∙◌, arith}
use Rattle.image_defs.specs.Ask.{Done}
use Rattle.ufs_volume_defs.specs.Names.{path_bytes}
use Rattle.ufs_names.proofs.WalkLaws.{too_many, too_many_bytes, one_more}
use Rattle.ufs_names.proofs.walk.Walk.counted_name.Goals as goal

pub returns-then-len-ge-MOST_NAMES-clause-settles : goal.returns-then-len-ge-MOST_NAMES-clause-settles
returns-then-len-ge-MOST_NAMES-clause-settles c =
    too_many c.args.self c.args.name c.requires.fits (omega (arith, ap (λ walk. length walk.names) c.self.view_is))

pub returns-then-self-as_str-gt-MOST_PATH_BYTES-clause-settles : goal.returns-then-self-as_str-gt-MOST_PATH_BYTES-clause-settles
returns-then-self-as_str-gt-MOST_PATH_BYTES-clause-settles c =
    let names = ap (λ walk. length walk.names) c.self.view_is in
    let bytes = ap (λ walk. path_bytes walk.names) c.self.view_is in
    let path = ap (λ name. length name.path) c.name.view_is in
    let text = ap length c.as_str.ensures.text in
    too_many_bytes c.args.self c.args.name c.requires.fits (omega (arith, names)) (omega (arith, names, bytes, path, text, c.self.invariant.0))

pub returns-clause-settles : goal.returns-clause-settles
returns-clause-settles c =
    let names = ap (λ walk. length walk.names) c.self.view_is in
    let bytes = ap (λ walk. path_bytes walk.names) c.self.view_is in
    let path = ap (λ name. length name.path) c.name.view_is in
    let text = ap length c.as_str.ensures.text in
    one_more c.args.self c.args.name c.requires.fits (omega (arith, names)) (omega (arith, names, bytes, path, text, c.self.invariant.0)) ∙ ap Done (sym c.in_ok-with_name.ensures)
