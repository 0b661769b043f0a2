-- What an inode gives, test by test.
use Rattle.std.specs.Prelude.{◌≡◌, ℕ, ◌+◌, Bool, true, false, not, ◌==◌, Ok, Err, List, [], refl}
use Rattle.std.proofs.Common.{ap, sym, ◌∙◌}
use Rattle.std.proofs.lemmas.Bool.{ne_eqb}
use Rattle.std.proofs.lemmas.Bool.Decides.{Decides-eqb}
use Rattle.image_defs.specs.Ask.{Ask, Done, Stop, result_of, visits, check, ◌>>=◌}
use Rattle.image_defs.proofs.Results.{visits_bind_quiet}
use Rattle.fault_defs.specs.declared.Refusal.{Refusal}
use Rattle.fault_defs.specs.declared.Refusal.TheVariants.{Damaged, Unsupported}
use Rattle.fault_defs.specs.declared.Sort.TheVariants.{DeadInode, FileSize}
use Rattle.fault_defs.specs.declared.What.TheVariants.{Snapshot}
use Rattle.ufs_inode_defs.specs.Inode.{is_snapshot, is_too_long, is_ext_too_long, size_place, ext_size_place, flags_place, sound_inode, tested_inode}
use Rattle.ufs_inode_defs.specs.declared.superblock.Super.{Super}
use Rattle.ufs_inode_defs.specs.declared.inode.Inode.{Inode}

module _ (sup : Super) (inode : Inode) where
  -- the tests with these values
  tests : Bool → Bool → Bool → Bool → Ask Refusal (Unit {0})
  tests dead snapshot long ext_long =
      check (not dead) (Damaged DeadInode inode.at)
      >>= (λ _. check (not snapshot) (Unsupported Snapshot (flags_place sup inode))
      >>= (λ _. check (not long) (Damaged FileSize (size_place sup inode))
      >>= (λ _. check (not ext_long) (Damaged FileSize (ext_size_place inode)))))

  tested_so : (dead snapshot long ext_long : Bool) → (inode.mode == 0) ≡ dead → is_snapshot inode ≡ snapshot → is_too_long sup inode ≡ long → is_ext_too_long sup inode ≡ ext_long → sound_inode sup inode ≡ tests dead snapshot long ext_long
  unfolding sound_inode tests
  tested_so dead snapshot long ext_long a b c d =
      ap (λ t. tests t (is_snapshot inode) (is_too_long sup inode) (is_ext_too_long sup inode)) a
      ∙ ap (λ t. tests dead t (is_too_long sup inode) (is_ext_too_long sup inode)) b
      ∙ ap (λ t. tests dead snapshot t (is_ext_too_long sup inode)) c
      ∙ ap (tests dead snapshot long) d

  module _ (image : List ℕ) where
    stops : (e : Refusal) → sound_inode sup inode ≡ Stop e → result_of image (tested_inode sup inode) ≡ Err e
    stops e is = ap (λ ask. result_of image (ask >>= (λ _. Done inode))) is

    pub is_dead : inode.mode ≡ 0 → result_of image (tested_inode sup inode) ≡ Err (Damaged DeadInode inode.at)
    unfolding sound_inode tests
    is_dead dead = stops (Damaged DeadInode inode.at) (ap (λ t. tests t (is_snapshot inode) (is_too_long sup inode) (is_ext_too_long sup inode)) ((Decides-eqb inode.mode 0).1 dead))

    module _ (alive : inode.mode ≡ 0 → ⊥) where
      pub is_kept : (place : ℕ) → place ≡ flags_place sup inode → is_snapshot inode ≡ true → result_of image (tested_inode sup inode) ≡ Err (Unsupported Snapshot place)
      unfolding sound_inode tests
      is_kept place here b =
          stops (Unsupported Snapshot (flags_place sup inode))
          (ap (λ t. tests t (is_snapshot inode) (is_too_long sup inode) (is_ext_too_long sup inode)) (ne_eqb inode.mode 0 alive)
          ∙ ap (λ t. tests false t (is_too_long sup inode) (is_ext_too_long sup inode)) b)
          ∙ ap (λ at. Err (Unsupported Snapshot at)) (sym here)

      pub is_long : (place : ℕ) → place ≡ size_place sup inode → is_snapshot inode ≡ false → is_too_long sup inode ≡ true → result_of image (tested_inode sup inode) ≡ Err (Damaged FileSize place)
      unfolding sound_inode tests
      is_long place here b c =
          stops (Damaged FileSize (size_place sup inode))
          (ap (λ t. tests t (is_snapshot inode) (is_too_long sup inode) (is_ext_too_long sup inode)) (ne_eqb inode.mode 0 alive)
          ∙ ap (λ t. tests false t (is_too_long sup inode) (is_ext_too_long sup inode)) b
          ∙ ap (λ t. tests false false t (is_ext_too_long sup inode)) c)
          ∙ ap (λ at. Err (Damaged FileSize at)) (sym here)

      pub is_ext_long : is_snapshot inode ≡ false → is_too_long sup inode ≡ false → is_ext_too_long sup inode ≡ true → result_of image (tested_inode sup inode) ≡ Err (Damaged FileSize (inode.at + 92))
      unfolding tests
      is_ext_long b c d = stops (Damaged FileSize (inode.at + 92)) (tested_so false false false true (ne_eqb inode.mode 0 alive) b c d)

  pub is_sound : (inode.mode ≡ 0 → ⊥) → is_snapshot inode ≡ false → is_too_long sup inode ≡ false → is_ext_too_long sup inode ≡ false → sound_inode sup inode ≡ Done tt
  unfolding tests
  is_sound alive b c d = tested_so false false false false (ne_eqb inode.mode 0 alive) b c d

  pub passes : (image : List ℕ) → sound_inode sup inode ≡ Done tt → result_of image (tested_inode sup inode) ≡ Ok inode
  passes image is = ap (λ ask. result_of image (ask >>= (λ _. Done inode))) is

  quiet : (image : List ℕ) (dead snapshot long ext_long : Bool) → visits image (tests dead snapshot long ext_long) ≡ []
  unfolding tests
  quiet image true snapshot long ext_long = refl
  quiet image false true long ext_long = refl
  quiet image false false true ext_long = refl
  quiet image false false false true = refl
  quiet image false false false false = refl

  -- they look at nothing
  pub tests_look_nowhere : (image : List ℕ) → visits image (tested_inode sup inode) ≡ []
  unfolding sound_inode tests
  tests_look_nowhere image =
      visits_bind_quiet image (sound_inode sup inode) (λ _. Done inode) (λ _. refl) ∙ quiet image (inode.mode == 0) (is_snapshot inode) (is_too_long sup inode) (is_ext_too_long sup inode)
