-- Inodes as they are kept.
use Rattle.std.proofs.Common.{◌≡◌, ◌&&◌, Bool, true, refl, ap, sym, ◌∙◌}
use Rattle.std.specs.Cmp.Lexicographic.{pointwise}
use Rattle.std.specs.Ordering.{int_eq}
use Rattle.std.proofs.lemmas.Bool.{and_parts}
use Rattle.std.proofs.lemmas.Bool.Decides.{Decides-int_eq}
use Rattle.std.proofs.lemmas.Slice.Eq.{slice_eq-Decides}
use Rattle.ufs_inode_defs.specs.declared.inode.Inode.{Inode}
use Rattle.ufs_names.specs.declared.kept.Pointers.{Pointers}

-- the pointers of an inode
abbrev pub pointers_in : Inode → Pointers
pointers_in inode = record { ext = inode.ext; direct = inode.direct; indirect = inode.indirect }

-- pointers that compare as equal are
pub same_pointers : (a b : Pointers) (same : Bool) → same ≡ (pointwise int_eq a.ext b.ext && (pointwise int_eq a.direct b.direct && pointwise int_eq a.indirect b.indirect)) → same ≡ true → a ≡ b
same_pointers a b same is holds =
    let parts = and_parts _ _ (sym is ∙ holds) in
    let others = and_parts _ _ parts.1 in
    let ext = (slice_eq-Decides Decides-int_eq a.ext b.ext _ refl).0 parts.0 in
    let direct = (slice_eq-Decides Decides-int_eq a.direct b.direct _ refl).0 others.0 in
    let indirect = (slice_eq-Decides Decides-int_eq a.indirect b.indirect _ refl).0 others.1 in
    ap (λ list. record { ext = list; direct = a.direct; indirect = a.indirect }) ext
    ∙ ap (λ list. record { ext = b.ext; direct = list; indirect = a.indirect }) direct
    ∙ ap (λ list. record { ext = b.ext; direct = b.direct; indirect = list }) indirect

-- an inode is itself with the pointers that it has
pub with_its_own : (inode : Inode) (pointers : Pointers) → pointers_in inode ≡ pointers → record inode { ext = pointers.ext; direct = pointers.direct; indirect = pointers.indirect } ≡ inode
with_its_own inode pointers is = sym (ap (λ (own : Pointers). record inode { ext = own.ext; direct = own.direct; indirect = own.indirect }) is)
