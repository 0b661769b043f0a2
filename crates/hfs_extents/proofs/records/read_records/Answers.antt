use Rattle.std.specs.Prelude.{◌≡◌, ◌≤◌, List, ◌∷◌, [], IfSome, Ok}
use Rattle.std.proofs.Common.{ap, sym, subst, ◌∙◌}
use Rattle.std.proofs.lemmas.List.Elements.{All-push}
use Rattle.range_defs.specs.declared.TheConstants.{LONGEST_IMAGE}
use Rattle.disk_defs.specs.Disk.{State, told_image}
use Rattle.hfs_btree.specs.Cursor.{rest_of}
use Rattle.hfs_btree.specs.Lent.{leaf}
use Rattle.hfs_defs.specs.Leaves.{followed_by}
use Rattle.hfs_defs.specs.Overflow.{overflow_records}
use Rattle.hfs_defs.specs.declared.forks.OverflowRecord.{OverflowRecord}
use Rattle.hfs_extents.specs.Extents.{AreNear}
use Rattle.hfs_extents.proofs.RecordLaws.{behind_told, more_told, near_told, refused_answers}
use Rattle.hfs_extents.proofs.records.read_records.Goals as goal

pub returns-in_err-overflow_record-clause-told : goal.returns-in_err-overflow_record-clause-told
returns-in_err-overflow_record-clause-told g c =
    let T : State → Type 0 = λ state. IfSome (told_image state) (λ image. rest_of image c.reading.leaves ≡ followed_by (leaf c.in-Some.lent ∷ []) (rest_of image c.next.follows.lender-at-none)) in
    let behind : T (g.S.Store.state c.args.store.now) =
    subst T c.reading.invariant.same
    (behind_told (told_image (g.S.Store.state c.reading.store)) c.reading.leaves c.next.follows.lender-at-none c.next.result c.in-Some.lent (c.in_ok-lent.was ∙ ap Ok c.in-Some.is) c.next.follows.holds-at-none.2) in
    refused_answers (told_image (g.S.Store.state c.args.store.now)) (λ image. overflow_records (rest_of image c.args.leaves)) (λ image. rest_of image c.reading.leaves) (λ image. rest_of image c.next.follows.lender-at-none)
    c.reading.records.items (leaf c.in-Some.lent) _ c.from_residual-in_err-overflow_record.result c.in_err-overflow_record.field-0.0 c.from_residual-in_err-overflow_record.ensures.0 c.from_residual-in_err-overflow_record.ensures.1
    c.in_err-overflow_record.ensures.refusals c.reading.invariant.told c.reading.invariant.leaves_near behind c.in_err-overflow_record.ensures.told

pub reading-preserved : goal.reading-preserved
reading-preserved g c =
    let T : State → Type 0 = λ state. IfSome (told_image state) (λ image. rest_of image c.reading.leaves ≡ followed_by (leaf c.in-Some.lent ∷ []) (rest_of image c.next.follows.lender-at-none)) in
    let behind : T (g.S.Store.state c.args.store.now) =
    subst T c.reading.invariant.same
    (behind_told (told_image (g.S.Store.state c.reading.store)) c.reading.leaves c.next.follows.lender-at-none c.next.result c.in-Some.lent (c.in_ok-lent.was ∙ ap Ok c.in-Some.is) c.next.follows.holds-at-none.2) in
    record {
      same = c.next.ensures.same ∙ c.reading.invariant.same;
      calm = c.in_ok-lent.ensures.counted ∙ c.reading.invariant.calm;
      pieces = c.next.follows.holds-at-none.1.0 ∙ c.reading.invariant.pieces;
      near =
          let P : List OverflowRecord → Type 0 = λ list. AreNear list in
          subst P (sym c.in_ok-push.ensures.items) (All-push (λ overflow. overflow.at ≤ LONGEST_IMAGE) c.reading.records.items c.in_ok-overflow_record.field-0 c.reading.invariant.near c.in_ok-overflow_record.ensures.near);
      leaves_near = near_told (told_image (g.S.Store.state c.args.store.now)) (λ image. rest_of image c.reading.leaves) (λ image. rest_of image c.next.follows.lender-at-none) (leaf c.in-Some.lent) c.reading.invariant.leaves_near behind;
      told =
          more_told (told_image (g.S.Store.state c.args.store.now)) (λ image. overflow_records (rest_of image c.args.leaves)) (λ image. rest_of image c.reading.leaves) (λ image. rest_of image c.next.follows.lender-at-none)
          c.reading.records.items c.push.new.self.items (leaf c.in-Some.lent) c.in_ok-overflow_record.field-0 c.reading.invariant.told c.reading.invariant.leaves_near behind
          c.in_ok-overflow_record.ensures.told c.in_ok-push.ensures.items;
    }
