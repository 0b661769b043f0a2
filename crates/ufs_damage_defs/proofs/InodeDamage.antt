-- What refuses an inode that is reached is wrong with it, and nothing is wrong with one that is read.
use Rattle.std.specs.Prelude.{◌≡◌, ◌⊎◌, ℕ, ◌*◌, ◌<◌, ◌==◌, Bool, true, false, not, ◌||◌, nat_lt, Result, Ok, Err, List, refl}
use Rattle.std.proofs.Common.{sym, ◌∙◌, subst, inl, inr, ⊎_elim, arith}
use Rattle.std.proofs.lemmas.Bool.{ltb-true, ltb-false, or_cases}
use Rattle.std.proofs.lemmas.Bool.Decides.{Decides-eqb}
use Rattle.image_defs.specs.Ask.{Done, result_of}
use Rattle.image_defs.proofs.Looks.{bind_refuses, check_refuses, check_gives}
use Rattle.fault_defs.specs.declared.Refusal.{Refusal}
use Rattle.fault_defs.specs.declared.Refusal.TheVariants.{NotThis, Damaged, Unsupported, Limit}
use Rattle.fault_defs.specs.declared.Sort.TheVariants.{InodeNumber, DeadInode, FileSize}
use Rattle.fault_defs.specs.declared.What.TheVariants.{Snapshot}
use Rattle.ufs_inode_defs.specs.Superblock.{block_size, has_inode}
use Rattle.ufs_inode_defs.specs.Inode.{stored_inode, is_snapshot, reach, is_too_long, is_ext_too_long, size_place, ext_size_place, flags_place, sound_inode, inode_at, inode_named}
use Rattle.ufs_inode_defs.specs.declared.superblock.Super.{Super}
use Rattle.ufs_inode_defs.specs.declared.inode.Inode.{Inode}
use Rattle.ufs_inode_defs.proofs.InodeLaws.{IsSoundInode, IsRead, inode_read}
use Rattle.ufs_damage_defs.specs.Damage.{IsReached, HasInode, IsFalseIn, NoInode, Dead, TooLong, ExtendedTooLong, IsUnsupportedIn, IsSnapshot, IsOverIn}
use Rattle.ufs_damage_defs.proofs.Walks.{failed}

-- what a refusal says of a volume with a sound superblock holds of it
abbrev pub IsWrongIn : List ℕ → Super → ℕ → Refusal → Type 0
IsWrongIn image sup volume NotThis = ⊥
IsWrongIn image sup volume (Damaged sort place) = IsFalseIn image sup sort place
IsWrongIn image sup volume (Unsupported what place) = IsUnsupportedIn image sup what place
IsWrongIn image sup volume (Limit bound most) = IsOverIn image sup volume bound most

it_is : (test : Bool) → not test ≡ false → test ≡ true
it_is true is = refl
it_is false is = absurd cc

pub both_ways : (test : Bool) → test ≡ true → test ≡ false → ⊥
both_ways test is not = absurd cc

done_never : (inode : Inode) (e : Refusal) → (let r : Result Inode Refusal = Ok inode in r ≡ Err e) → ⊥
done_never inode e same = absurd cc

module _ (image : List ℕ) (sup : Super) (volume : ℕ) where
  -- a stored inode that is refused
  stored_refused : (number : ℕ) (inode : Inode) (e : Refusal) → HasInode image sup number inode → result_of image (sound_inode sup inode) ≡ Err e → IsWrongIn image sup volume e
  unfolding sound_inode
  stored_refused number inode e has is =
      ⊎_elim
      (λ dead. subst (IsWrongIn image sup volume) dead.1 (Dead number inode has ((Decides-eqb inode.mode 0).0 (it_is (inode.mode == 0) dead.0))))
      (λ alive. ⊎_elim
      (λ snapshot. subst (IsWrongIn image sup volume) snapshot.1 (IsSnapshot number inode has (it_is (is_snapshot inode) snapshot.0)))
      (λ supported. ⊎_elim
      (λ long. subst (IsWrongIn image sup volume) long.1
      (TooLong number inode has
      (⊎_elim (λ far. inl (ltb-true 4611686018427387904 inode.size far)) (λ past. inr (ltb-true (reach sup) inode.size past))
      (or_cases (nat_lt 4611686018427387904 inode.size) (nat_lt (reach sup) inode.size) (it_is (is_too_long sup inode) long.0)))))
      (λ short.
      let last = failed image (not (is_ext_too_long sup inode)) (Damaged FileSize (ext_size_place inode)) e short.1 in
      subst (IsWrongIn image sup volume) last.1 (ExtendedTooLong number inode has (ltb-true (2 * block_size sup) inode.extsize (it_is (is_ext_too_long sup inode) last.0))))
      (check_refuses image (not (is_too_long sup inode)) (Damaged FileSize (size_place sup inode)) _ e supported.1))
      (check_refuses image (not (is_snapshot inode)) (Unsupported Snapshot (flags_place sup inode)) _ e alive.1))
      (check_refuses image (not (inode.mode == 0)) (Damaged DeadInode inode.at) _ e is)

  pub inode_refused : (number : ℕ) (e : Refusal) → HasInode image sup number (stored_inode image sup number) → result_of image (inode_at sup number) ≡ Err e → IsWrongIn image sup volume e
  unfolding inode_at
  inode_refused number e has is =
      let stored : Inode = stored_inode image sup number in
      ⊎_elim
      (λ first. stored_refused number stored e has first)
      (λ later. absurd (done_never stored e later.2))
      (bind_refuses image (sound_inode sup stored) (λ done. Done stored) e is)

  -- an inode that an entry names
  pub named_gives : (number place : ℕ) (inode : Inode) → result_of image (inode_named sup number place) ≡ Ok inode → (has_inode sup number ≡ true) × (result_of image (inode_at sup number) ≡ Ok inode)
  unfolding inode_named
  named_gives number place inode gives = check_gives image (has_inode sup number) (Damaged InodeNumber place) (λ inside. inode_at sup number) inode gives

  pub named_refused : (number place depth : ℕ) (path : List ℕ) (e : Refusal) → IsReached image sup number place depth path → result_of image (inode_named sup number place) ≡ Err e → IsWrongIn image sup volume e
  unfolding inode_named
  named_refused number place depth path e reached is =
      ⊎_elim
      (λ out. subst (IsWrongIn image sup volume) out.1 (NoInode number place depth path reached out.0))
      (λ inside. inode_refused number e (record { place = place; depth = depth; path = path; reached = reached; inside = inside.0; is = refl }) inside.1)
      (check_refuses image (has_inode sup number) (Damaged InodeNumber place) (λ inside. inode_at sup number) e is)

  -- an inode that is read is the stored one
  pub named_is : (number place : ℕ) (inode : Inode) → result_of image (inode_named sup number place) ≡ Ok inode → IsRead image sup number inode
  named_is number place inode gives = inode_read image sup number inode (named_gives number place inode gives).1

  -- nothing is wrong with it
  pub sound_of : (number : ℕ) (read inode : Inode) → IsRead image sup number read → HasInode image sup number inode → IsSoundInode sup inode
  sound_of number read inode is has = subst (IsSoundInode sup) (sym is.is ∙ has.is) is.sound

  pub not_dead : (inode : Inode) → IsSoundInode sup inode → inode.mode ≡ 0 → ⊥
  not_dead inode sound dead = both_ways (inode.mode == 0) ((Decides-eqb inode.mode 0).1 dead) sound.alive

  pub not_long : (inode : Inode) → IsSoundInode sup inode → (4611686018427387904 < inode.size) ⊎ (reach sup < inode.size) → ⊥
  not_long inode sound long = ⊎_elim (λ far. absurd (of_first far)) (λ past. absurd (of_second past)) long
    where
      short : (a b : Bool) → (a || b) ≡ false → (a ≡ false) × (b ≡ false)
      short true b is = absurd cc
      short false b is = (refl, is)

      parts : (nat_lt 4611686018427387904 inode.size ≡ false) × (nat_lt (reach sup) inode.size ≡ false)
      parts = short (nat_lt 4611686018427387904 inode.size) (nat_lt (reach sup) inode.size) sound.short

      of_first : 4611686018427387904 < inode.size → ⊥
      of_first far = let within = ltb-false 4611686018427387904 inode.size parts.0 in omega (arith, far, within)

      of_second : reach sup < inode.size → ⊥
      of_second past = let within = ltb-false (reach sup) inode.size parts.1 in omega (arith, past, within)

  pub not_extended_long : (inode : Inode) → IsSoundInode sup inode → 2 * block_size sup < inode.extsize → ⊥
  not_extended_long inode sound long = let within = ltb-false (2 * block_size sup) inode.extsize sound.ext_short in omega (arith, long, within)
