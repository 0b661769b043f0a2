use Rattle.std.proofs.Common.{◌+◌, [], length, arith, refl}
use Rattle.ufs_inode_defs.specs.Stream.{pointers_from}
use Rattle.ufs_blocks.proofs.StreamLaws.{direct_refused, short_stream, extended_covered, extended_placed}
use Rattle.ufs_blocks.proofs.streams.extended_blocks.Goals as goal

pub returns-in_err-laid-clause-settles : goal.returns-in_err-laid-clause-settles
returns-in_err-laid-clause-settles c =
    direct_refused c.args.sup.now c.args.inode.now.extsize (pointers_from (c.args.inode.now.at + 96) 8 c.args.inode.now.ext) [] (pointers_from (c.args.inode.now.at + 96) 8 c.args.inode.now.ext) c.args.runs c.from-size.result c.none_laid-none.result refl
    c.from-size.ensures c.none_laid-none.ensures c.from_residual.result c.in_err-laid.field-0.0 c.from_residual.ensures.0 c.from_residual.ensures.1 c.in_err-laid.ensures.settles

pub returns-clause-settles : goal.returns-clause-settles
returns-clause-settles c =
    short_stream c.args.sup.now c.args.inode.now.extsize (pointers_from (c.args.inode.now.at + 96) 8 c.args.inode.now.ext) (pointers_from (c.args.inode.now.at + 96) 8 c.args.inode.now.ext) c.args.runs c.from-size.result c.none_laid-none.result
    c.in_ok-laid.laid refl c.from-size.ensures c.none_laid-none.ensures c.in_ok-laid.ensures.settles

pub returns-clause-covered : goal.returns-clause-covered
returns-clause-covered c =
    extended_covered c.args.sup.now c.args.inode.now c.requires.sound c.requires.good c.args.runs (length c.args.inode.now.ext) c.from-size.result c.none_laid-none.result c.in_ok-laid.laid (omega arith) c.from-size.ensures c.none_laid-none.ensures
    c.in_ok-laid.ensures.gone c.in_ok-laid.ensures.way_after

pub returns-clause-placed : goal.returns-clause-placed
returns-clause-placed c = extended_placed c.args.sup.now c.args.inode.now c.requires.sound c.requires.good c.args.runs c.in_ok-laid.laid (omega arith) (returns-clause-settles c)
