-- What one more name of a walk over directories says, and what it is refused for.
use Rattle.std.specs.Prelude.{◌≡◌, ℕ, suc, ◌+◌, ◌*◌, ◌<◌, ◌≤◌, Bool, true, false, not, ◌&&◌, nat_le, Result, Ok, Err, List, [], ◌∷◌, ◌++◌, length, refl}
use Rattle.std.specs.List.{All, AllPairs, Contains}
use Rattle.std.proofs.Common.{ap, sym, ◌∙◌, subst, arith, ⊎_elim, length-append}
use Rattle.std.proofs.lemmas.Bool.{leb-true, leb-false}
use Rattle.std.proofs.lemmas.List.Elements.{All-push, All-contains}
use Rattle.std.proofs.lemmas.List.Quantifiers.{all_pairs_push}
use Rattle.std.proofs.lemmas.List.Sums.{sum_by-append, sum_by-cons}
use Rattle.image_defs.specs.Ask.{result_of}
use Rattle.image_defs.proofs.Looks.{bind_gives, check_gives, bind_refuses, check_refuses}
use Rattle.rx_tree.specs.Path.{joined_path}
use Rattle.name_defs.specs.Texts.{bytes_text}
use Rattle.fault_defs.specs.declared.Refusal.{Refusal}
use Rattle.fault_defs.specs.declared.Refusal.TheVariants.{Damaged, Limit}
use Rattle.fault_defs.specs.declared.Sort.TheVariants.{DirTwice}
use Rattle.fault_defs.specs.declared.Bound.TheVariants.{Names, PathBytes, Path}
use Rattle.ufs_inode_defs.specs.Superblock.{block_size}
use Rattle.ufs_inode_defs.specs.Inode.{is_directory, inode_named}
use Rattle.ufs_inode_defs.specs.declared.superblock.Super.{Super}
use Rattle.ufs_inode_defs.specs.declared.inode.Inode.{Inode}
use Rattle.ufs_volume_defs.specs.Directory.{Entry, entries_of, leading_entries}
use Rattle.ufs_volume_defs.specs.Names.{Named, Walk, with_name, path_bytes, is_known, longest_path, most_names, most_path_bytes, counted_name, Block, name_by, found_name, entry_name, root_name}
use Rattle.ufs_damage_defs.specs.Damage.{HasBlock, block_bytes, HasEntry, IsGoodDirectory, IsReached, Through, IsGiven, AreApart, IsFalseIn, RootAgain, Twice, AreNames, LongPath, ManyNames, LongNames}
use Rattle.ufs_damage_defs.proofs.Walks.{same_value}
use Rattle.ufs_damage_defs.proofs.InodeDamage.{IsWrongIn, both_ways, named_gives, named_is, named_refused}
use Rattle.ufs_damage_defs.proofs.NameFacts.{in_cases, known_is, is_known-true, AreOnce, once_push}

and_false : (a b : Bool) → not (a && b) ≡ true → a ≡ true → b ≡ false
and_false true true is yes_a = absurd cc
and_false true false is yes_a = refl
and_false false b is yes_a = absurd cc

and_true : (a b : Bool) → not (a && b) ≡ false → (a ≡ true) × (b ≡ true)
and_true true true is = (refl, refl)
and_true true false is = absurd cc
and_true false b is = absurd cc

-- one more name within the limits
pub record IsCounted (walk : Walk) (name : Named) (after : Walk) : Type 0 where
  pub short : length name.path ≤ longest_path
  pub few : length walk.names + 1 ≤ most_names
  pub brief : path_bytes walk.names + length name.path ≤ most_path_bytes
  pub is : with_name walk name ≡ after

pub counted_gives : (image : List ℕ) (walk : Walk) (name : Named) (after : Walk) → result_of image (counted_name walk name) ≡ Ok after → IsCounted walk name after
unfolding counted_name
counted_gives image walk name after gives =
    let first = check_gives image (nat_le (length name.path) longest_path) (Limit Path longest_path) _ after gives in
    let second = check_gives image (nat_le (length walk.names + 1) most_names) (Limit Names most_names) _ after first.1 in
    let third = check_gives image (nat_le (path_bytes walk.names + length name.path) most_path_bytes) (Limit PathBytes most_path_bytes) _ after second.1 in
    record {
      short = leb-true (length name.path) longest_path first.0;
      few = leb-true (length walk.names + 1) most_names second.0;
      brief = leb-true (path_bytes walk.names + length name.path) most_path_bytes third.0;
      is = same_value {E = Refusal} (with_name walk name) after third.1;
    }

-- an entry whose inode is read, and which names no directory that has a name
pub record IsEntered (image : List ℕ) (sup : Super) (directory : Named) (block : Block) (walk : Walk) (entry : Entry) (after : Walk) : Type 0 where
  pub inode : Inode
  pub read : result_of image (inode_named sup entry.inode (block.at + entry.at)) ≡ Ok inode
  pub once : is_directory inode ≡ true → is_known entry.inode walk.names ≡ false
  pub counted : IsCounted walk (name_by sup directory block entry inode) after

pub entry_gives : (image : List ℕ) (sup : Super) (directory : Named) (block : Block) (walk : Walk) (entry : Entry) (after : Walk) → result_of image (entry_name sup directory block walk entry) ≡ Ok after
    → IsEntered image sup directory block walk entry after
unfolding entry_name
entry_gives image sup directory block walk entry after gives =
    let first = bind_gives image (inode_named sup entry.inode (block.at + entry.at)) (λ inode. found_name sup directory block walk entry inode) after gives in
    let second = check_gives image (not (is_directory first.0 && is_known entry.inode walk.names)) (Damaged DirTwice (block.at + entry.at)) (λ x. counted_name walk (name_by sup directory block entry first.0)) after first.2 in
    record {
      inode = first.0;
      read = first.1;
      once = and_false (is_directory first.0) (is_known entry.inode walk.names) second.0;
      counted = counted_gives image walk (name_by sup directory block entry first.0) after second.1;
    }

module _ (image : List ℕ) (sup : Super) (volume : ℕ) (root : Inode) where
  -- a name that is reached at a depth, whose inode was read
  pub record IsFound (depth : ℕ) (name : Named) : Type 0 where
    pub place : ℕ
    pub reached : IsReached image sup name.number place depth name.path
    pub read : result_of image (inode_named sup name.number place) ≡ Ok name.inode

  abbrev pub IsGivenBySome : Named → Type 0
  IsGivenBySome name = (place : ℕ) × IsGiven image sup name place

  -- the names of a walk: the root's, and those that entries of directories give, which were walked
  pub record IsWalk (walked : List ℕ) (names : List Named) : Type 0 where
    pub rest : List Named
    pub whole : names ≡ root_name root ∷ rest
    pub given : All IsGivenBySome rest
    pub apart : AllPairs AreApart rest
    pub once : AreOnce (λ n. ⊥) names
    pub from : All (λ name. Contains walked name.directory) rest

  -- where a walk stands in a directory: in front of a byte of its content
  abbrev pub IsBehind : ℕ → ℕ → List Named → Type 0
  IsBehind number offset rest = All (λ name. name.directory ≡ number → name.offset < offset) rest

  -- an entry of a good directory that was found
  pub record IsEntry (depth : ℕ) (directory : Named) (block : Block) (entry : Entry) : Type 0 where
    pub found : IsFound depth directory
    pub good : IsGoodDirectory image sup directory.inode
    pub has_block : HasBlock image sup directory.inode block.index block.at
    pub entries : List Entry
    pub read : entries_of sup.order (block_bytes image sup directory.inode block.index block.at) ≡ Ok entries
    pub among : Contains (leading_entries entries) entry

  module _ (depth : ℕ) (directory : Named) (block : Block) (entry : Entry) (is : IsEntry depth directory block entry) where
    place : ℕ
    place = block.at + entry.at

    has_entry : HasEntry image sup directory.inode (block.index * block_size sup + entry.at) (block.at + entry.at) entry
    has_entry = record { index = block.index; at = block.at; block = is.has_block; entries = is.entries; read = is.read; among = is.among; offset_is = refl; place_is = refl }

    -- it is reached
    pub reached : IsReached image sup entry.inode (block.at + entry.at) (suc depth) (joined_path directory.path (bytes_text entry.name))
    reached = Through directory.number is.found.place depth directory.path directory.inode (block.index * block_size sup + entry.at) (block.at + entry.at) entry is.found.reached is.found.read is.good has_entry

    pub given : (inode : Inode) → IsGiven image sup (name_by sup directory block entry inode) (block.at + entry.at)
    given inode = record {
      at = is.found.place;
      depth = depth;
      path = directory.path;
      directory = directory.inode;
      entry = entry;
      reached = is.found.reached;
      read = is.found.read;
      good = is.good;
      has = has_entry;
      number_is = refl;
      path_is = refl;
    }

    pub found : (inode : Inode) → result_of image (inode_named sup entry.inode (block.at + entry.at)) ≡ Ok inode → IsFound (suc depth) (name_by sup directory block entry inode)
    found inode read = record { place = block.at + entry.at; reached = reached; read = read }

    module _ (walked : List ℕ) (walk : Walk) (walks : IsWalk walked walk.names) (behind : IsBehind directory.number (block.index * block_size sup + entry.at) walks.rest) where
      -- with one more name
      apart_from : (inode : Inode) → AllPairs AreApart (walks.rest ++ name_by sup directory block entry inode ∷ [])
      apart_from inode =
          all_pairs_push AreApart walks.rest (name_by sup directory block entry inode) walks.apart
          (λ k d inside same_directory same_offset. let before = behind k d inside same_directory in omega (arith, before, same_offset))

      more_names : (inode : Inode) → AreNames image sup (walks.rest ++ name_by sup directory block entry inode ∷ [])
      more_names inode = record {
        given = All-push IsGivenBySome walks.rest (name_by sup directory block entry inode) walks.given (block.at + entry.at, given inode);
        apart = apart_from inode;
      }

      pub walks_on : (inode : Inode) → Contains walked directory.number → (is_directory inode ≡ true → is_known entry.inode walk.names ≡ false)
          → (next : IsWalk walked (walk.names ++ name_by sup directory block entry inode ∷ [])) × (next.rest ≡ walks.rest ++ name_by sup directory block entry inode ∷ [])
      walks_on inode has once =
          let name : Named = name_by sup directory block entry inode in (
            record {
              rest = walks.rest ++ name ∷ [];
              whole = ap (λ list. list ++ name ∷ []) walks.whole;
              given = All-push IsGivenBySome walks.rest name walks.given (block.at + entry.at, given inode);
              apart = apart_from inode;
              once = once_push (λ n. ⊥) walk.names name walks.once (λ is_one either. ⊎_elim (λ never. never) (λ known. both_ways (is_known entry.inode walk.names) (is_known-true entry.inode walk.names known) (once is_one)) either);
              from = All-push (λ n. Contains walked n.directory) walks.rest name walks.from has;
            },
            refl,
          )

      -- ---- what it is refused for

      twice : (inode : Inode) → result_of image (inode_named sup entry.inode (block.at + entry.at)) ≡ Ok inode → is_directory inode ≡ true → is_known entry.inode walk.names ≡ true
          → IsFalseIn image sup DirTwice (block.at + entry.at)
      twice inode read is_one known =
          let other = known_is entry.inode walk.names known in
          let P : List Named → Type 0 = λ names. Contains names other.name in
          ⊎_elim
          (λ is_root. RootAgain (name_by sup directory block entry inode) (block.at + entry.at) (given inode) (sym other.is ∙ ap (λ n. n.number) (sym is_root)))
          (λ among.
          let by = All-contains IsGivenBySome walks.rest other.name walks.given among in
          let before = All-contains (λ n. n.directory ≡ directory.number → n.offset < block.index * block_size sup + entry.at) walks.rest other.name behind among in
          let named = named_gives image sup volume entry.inode (block.at + entry.at) inode read in
          Twice (name_by sup directory block entry inode) other.name (block.at + entry.at) by.0 inode (given inode) by.1
          (λ same_directory same_offset. let front = before same_directory in omega (arith, front, same_offset))
          other.is
          (record { place = block.at + entry.at; depth = suc depth; path = joined_path directory.path (bytes_text entry.name); reached = reached; inside = named.0; is = (named_is image sup volume entry.inode (block.at + entry.at) inode read).is })
          is_one)
          (in_cases (root_name root) other.name walks.rest (subst P walks.whole other.among))

      counted_refused : (inode : Inode) (e : Refusal) → result_of image (counted_name walk (name_by sup directory block entry inode)) ≡ Err e → IsWrongIn image sup volume e
      unfolding counted_name
      counted_refused inode e refuses =
          let name : Named = name_by sup directory block entry inode in
          let names : List Named = walks.rest ++ name ∷ [] in
          let count : length walk.names ≡ suc (length walks.rest) = ap length walks.whole in
          let bytes : path_bytes walk.names ≡ 1 + path_bytes walks.rest = ap path_bytes walks.whole ∙ sum_by-cons (λ (n : Named). length n.path) (root_name root) walks.rest in
          let more : length names ≡ length walks.rest + 1 = length-append walks.rest (name ∷ []) in
          let sum : path_bytes names ≡ path_bytes walks.rest + path_bytes (name ∷ []) = sum_by-append (λ (n : Named). length n.path) walks.rest (name ∷ []) in
          ⊎_elim
          (λ long. subst (IsWrongIn image sup volume) long.1 (LongPath entry.inode (block.at + entry.at) (suc depth) name.path reached (leb-false (length name.path) longest_path long.0)))
          (λ short. ⊎_elim
          (λ many. subst (IsWrongIn image sup volume) many.1 (ManyNames names (more_names inode) (let over = leb-false (length walk.names + 1) most_names many.0 in omega (arith, over, count, more))))
          (λ few. ⊎_elim
          (λ much. subst (IsWrongIn image sup volume) much.1 (LongNames names (more_names inode) (let over = leb-false (path_bytes walk.names + length name.path) most_path_bytes much.0 in omega (arith, over, bytes, sum))))
          (λ brief. absurd (never (with_name walk name) brief.1))
          (check_refuses image (nat_le (path_bytes walk.names + length name.path) most_path_bytes) (Limit PathBytes most_path_bytes) _ e few.1))
          (check_refuses image (nat_le (length walk.names + 1) most_names) (Limit Names most_names) _ e short.1))
          (check_refuses image (nat_le (length name.path) longest_path) (Limit Path longest_path) _ e refuses)
        where
          never : (after : Walk) → (let r : Result Walk Refusal = Ok after in r ≡ Err e) → ⊥
          never after same = absurd cc

      pub entry_refused : (e : Refusal) → result_of image (entry_name sup directory block walk entry) ≡ Err e → IsWrongIn image sup volume e
      unfolding entry_name
      entry_refused e refuses =
          ⊎_elim
          (λ unread. named_refused image sup volume entry.inode (block.at + entry.at) (suc depth) (joined_path directory.path (bytes_text entry.name)) e reached unread)
          (λ read. ⊎_elim
          (λ again.
          let both = and_true (is_directory read.0) (is_known entry.inode walk.names) again.0 in
          subst (IsWrongIn image sup volume) again.1 (twice read.0 read.1 both.0 both.1))
          (λ once. counted_refused read.0 e once.1)
          (check_refuses image (not (is_directory read.0 && is_known entry.inode walk.names)) (Damaged DirTwice (block.at + entry.at)) (λ x. counted_name walk (name_by sup directory block entry read.0)) e read.2))
          (bind_refuses image (inode_named sup entry.inode (block.at + entry.at)) (λ inode. found_name sup directory block walk entry inode) e refuses)
