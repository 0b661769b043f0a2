use Rattle.std.proofs.Common.{ap, refl}
use Rattle.disk_defs.specs.declared.Fault.{Fault}
use Rattle.disk_defs.specs.Story.{Write}
use Rattle.disk_defs.specs.Memory.{StoreInMemory}
use Rattle.rx_store.proofs.Written.{refused_change, state_changed}
use Rattle.rx_store.proofs.mem_store.MemStoreStore.write_at.Goals as goal

pub returns-clause-done : goal.returns-clause-done
returns-clause-done c =
    state_changed (Write c.args.area c.args.at c.args.bytes.now) c.self.inside.changes.story _ c.args.self.now
    (ap (λ (store : StoreInMemory). store.story) c.self.view_is) c.add_write.ensures.story c.requires

pub returns-in_err-begin_change-clause-only : goal.returns-in_err-begin_change-clause-only
returns-in_err-begin_change-clause-only c =
    refused_change {T = Unit {0}} {E = Fault} c.from_residual.result _ c.args.self.now c.self.inside.calls.failing.items c.self.inside.calls.made (Write c.args.area c.args.at c.args.bytes.now) _ c.self.view_is refl refl
    c.has_room-has_room.ensures c.in_err-begin_change.ensures.only
