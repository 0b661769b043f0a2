use Rattle.std.proofs.Common.{◌≡◌, IfSome, length, sym, subst, rules}
use Rattle.disk_defs.specs.Disk.{State, told_journal, ReadsFrom}
use Rattle.disk_defs.specs.declared.Area.TheVariants.{Journal}
use Rattle.journal_format.proofs.Gate.{told_open}
use Rattle.journal_format.proofs.open.stands_open.Goals as goal

pub returns-clause-told : goal.returns-clause-told
returns-clause-told g c =
    told_open (told_journal (g.S.Store.state c.args.store.now)) c.read_at.new.buf c.in_ok-len.field-0 c.if-branch-lt41.false
    (subst (λ size. IfSome (told_journal (g.S.Store.state c.args.store.now)) (λ bytes. length bytes ≡ size)) (sym c.in_ok-len.ensures.size) (g.met.S.Store.tells_its_sizes c.args.store.now Journal))
    (search rules)
    (subst (λ (state : State). ReadsFrom Journal 0 state c.read_at.new.buf) c.in_ok-len.ensures.same c.in_ok-read_at.ensures.bytes)
