use Rattle.std.proofs.Common.{ap, ◌∙◌, nat_lt, refl}
use Rattle.disk_defs.specs.declared.Fault.{Fault}
use Rattle.disk_defs.specs.Story.{Sync}
use Rattle.disk_defs.specs.Memory.{StoreInMemory}
use Rattle.rx_store.proofs.Written.{refused_change}
use Rattle.rx_store.proofs.mem_store.MemStoreStore.sync.Goals as goal

pub returns-in_err-begin_sync-clause-only : goal.returns-in_err-begin_sync-clause-only
returns-in_err-begin_sync-clause-only c =
    refused_change {T = Unit {0}} {E = Fault} c.from_residual.result _ c.args.self.now c.self.inside.calls.failing.items c.self.inside.calls.made (Sync) _ c.self.view_is refl refl
    (ap (nat_lt 0) (c.left-has_room.ensures ∙ ap (λ (store : StoreInMemory). store.room.changes) c.self.view_is)) c.in_err-begin_sync.ensures.only
