-- Nothing is wrong with a volume that is read.
use Rattle.std.specs.Prelude.{◌≡◌, ℕ, suc, ◌+◌, ◌%◌, ◌<◌, ◌≤◌, Bool, true, false, not, ◌&&◌, nat_le, Some, None, Ok, Err, List, [], length, map, refl}
use Rattle.std.specs.List.{All, Contains, flat_map}
use Rattle.std.proofs.Common.{ap, sym, ◌∙◌, subst, arith, ⊎_elim}
use Rattle.std.proofs.lemmas.Bool.{leb-true, ltb-true, cases_eq}
use Rattle.std.proofs.lemmas.List.Sums.{sum_by-cons}
use Rattle.std.proofs.lemmas.List.Elements.{All-contains, All-weaker, filter_passes}
use Rattle.range_defs.specs.declared.Range.{Range}
use Rattle.range_defs.specs.declared.TheConstants.{LONGEST_IMAGE}
use Rattle.bytes_defs.specs.declared.order.Order.{Order}
use Rattle.image_defs.specs.Ask.{Ask, Done, result_of, check, ◌>>=◌, ◌>>◌}
use Rattle.image_defs.proofs.Looks.{bind_gives, check_gives}
use Rattle.order_defs.proofs.DistinctLaws.{rising_numbers_law}
use Rattle.rx_tree.specs.Path.{joined_path}
use Rattle.name_defs.specs.Texts.{bytes_text}
use Rattle.fault_defs.specs.declared.Refusal.{Refusal}
use Rattle.fault_defs.specs.declared.Refusal.TheVariants.{NotThis, Damaged, Unsupported, Limit}
use Rattle.fault_defs.specs.declared.Sort.{Sort}
use Rattle.fault_defs.specs.declared.What.{What}
use Rattle.fault_defs.specs.declared.Bound.{Bound}
use Rattle.fault_defs.specs.declared.Bound.TheVariants.{Image}
use Rattle.ufs_inode_defs.specs.Superblock.{wrong_field, super_place, volume_super, has_inode}
use Rattle.ufs_inode_defs.specs.Inode.{stored_inode, is_directory, is_snapshot, inode_at}
use Rattle.ufs_inode_defs.specs.Blocks.{most_runs}
use Rattle.ufs_inode_defs.specs.declared.superblock.Super.{Super}
use Rattle.ufs_inode_defs.specs.declared.inode.Inode.{Inode}
use Rattle.ufs_inode_defs.proofs.InodeLaws.{IsSoundInode, inode_read}
use Rattle.ufs_volume_defs.specs.Directory.{Entry, entries_of, leads_on, leading_entries, is_used, is_dot}
use Rattle.ufs_volume_defs.specs.Names.{Named, Walk, path_bytes, names_directory, most_names, most_path_bytes, root_name, volume_names}
use Rattle.ufs_volume_defs.specs.Files.{Filed, named_files, numbers_of}
use Rattle.ufs_volume_defs.specs.Volume.{FoundVolume, files_below, volume_at}
use Rattle.ufs_damage_defs.specs.Damage.{HasSuper, HasBlock, block_bytes, HasEntry, IsGoodDirectory, IsReached, Root, Through, IsGiven, HasInode, IsFalseIn, NoDirectory, NoInode, Dead, TooLong, ExtendedTooLong, BadPointer, OtherSize, InHole, BadEntry, RootAgain, Twice, IsFalseAt, WrongField, FalseIn, IsUnsupportedIn, IsSnapshot, IsUnsupportedAt, UnsupportedIn, AreNames, Run, IsRun, AreRuns, IsOverIn, LongPath, ManyNames, LongNames, Deep, ManyRuns, IsOver, LongImage, OverIn, IsWrong}
use Rattle.ufs_damage_defs.proofs.Walks.{same_value}
use Rattle.ufs_damage_defs.proofs.SuperDamage.{super_read, super_sound}
use Rattle.ufs_damage_defs.proofs.InodeDamage.{both_ways, named_gives, named_is, sound_of, not_dead, not_long, not_extended_long}
use Rattle.ufs_damage_defs.proofs.NameFacts.{in_none, in_cases, in_head, once_same}
use Rattle.ufs_damage_defs.proofs.NameDamage.{IsSomewhere}
use Rattle.ufs_damage_defs.proofs.NameClosure.{IsNamedAt, IsWalkedIn, HasAllNames, all_names, same_inode}
use Rattle.ufs_damage_defs.proofs.FileDamage.{number_among, files_sound, files_counted}
use Rattle.ufs_damage_defs.proofs.Runs.{number_runs, runs_found}
use Rattle.ufs_damage_defs.proofs.Distinct.{distinct_of, distinct_few}
use Rattle.ufs_damage_defs.proofs.Matching.{HasMatch, fits}

-- an entry that leads on names an inode behind the first two
leads_used : (entries : List Entry) (entry : Entry) → Contains (leading_entries entries) entry → 1 < entry.inode
leads_used entries entry among =
    let leads : leads_on entry ≡ true = All-contains (λ (one : Entry). leads_on one ≡ true) (leading_entries entries) entry (filter_passes leads_on entries) among in
    ltb-true 1 entry.inode (first (is_used entry.inode) (not (is_dot entry.name)) leads)
  where
    first : (a b : Bool) → (a && b) ≡ true → a ≡ true
    first true b both = refl
    first false b both = absurd cc

reached_two : (image : List ℕ) (sup : Super) (number place depth : ℕ) (path : List ℕ) → IsReached image sup number place depth path → 1 < number
reached_two image sup number place depth path Root = omega arith
reached_two image sup number place depth path (Through from at d p directory offset pl entry reached read good has) = leads_used has.entries entry has.among

module _ (image : List ℕ) (sup : Super) (volume : ℕ) (sound : wrong_field sup ≡ None) (walk : Walk) (filed : Filed)
    (names_are : result_of image (volume_names sup) ≡ Ok walk) (files_are : result_of image (named_files sup volume walk.names) ≡ Ok filed) (all : HasAllNames image sup volume sound walk) where
  somewhere : (name : Named) → Contains walk.names name → IsSomewhere image sup volume all.root sound name
  somewhere name among = All-contains (IsSomewhere image sup volume all.root sound) walk.names name all.ended.at.all among

  -- what is reached lies above the depth at which the walk ended
  pub shallow : (number place depth : ℕ) (path : List ℕ) → IsReached image sup number place depth path → depth ≤ all.ended.last
  shallow number place depth path Root = omega arith
  shallow number place depth path (Through from at d p directory offset pl entry reached read good has) =
      let before = shallow from at d p reached in
      let named = all.ended.closed from at d p reached before in
      let inode = same_inode image sup volume sound all.root named.name (somewhere named.name named.among) from at directory named.number_is read in
      let is : names_directory named.name ≡ true = ap is_directory inode ∙ good.directory in
      ⊎_elim
      (λ same. absurd (in_none named.name (named.ahead is same)))
      (λ differ. omega (arith, before, differ))
      (cases_eq d all.ended.last)

  pub named_at : (number place depth : ℕ) (path : List ℕ) → IsReached image sup number place depth path → IsNamedAt image sup volume sound all.ended.last walk.names [] number depth path
  named_at number place depth path reached = all.ended.closed number place depth path reached (shallow number place depth path reached)

  -- each of it is read, and sound
  pub record IsFoundAs (number : ℕ) : Type 0 where
    pub name : Named
    pub among : Contains walk.names name
    pub is : name.number ≡ number
    pub inside : has_inode sup number ≡ true
    pub read : result_of image (inode_at sup number) ≡ Ok name.inode

  pub found_as : (number place depth : ℕ) (path : List ℕ) → IsReached image sup number place depth path → IsFoundAs number
  found_as number place depth path reached =
      let named = named_at number place depth path reached in
      let found = (somewhere named.name named.among).1 in
      let gives = named_gives image sup volume named.name.number found.place named.name.inode found.read in
      let H : ℕ → Type 0 = λ n. has_inode sup n ≡ true in
      let R : ℕ → Type 0 = λ n. result_of image (inode_at sup n) ≡ Ok named.name.inode in
      record { name = named.name; among = named.among; is = named.number_is; inside = subst H named.number_is gives.0; read = subst R named.number_is gives.1 }

  -- its number is that of a file
  pub number_is : (number place depth : ℕ) (path : List ℕ) → IsReached image sup number place depth path → Contains (numbers_of walk.names) number
  number_is number place depth path reached =
      let found = found_as number place depth path reached in
      let N : ℕ → Type 0 = λ n. Contains (map (λ (name : Named). name.number) walk.names) n in
      (rising_numbers_law (map (λ (name : Named). name.number) walk.names)).1.all number (subst N found.is (number_among found.name walk.names found.among))

  sound_inode : (number : ℕ) (inode : Inode) → HasInode image sup number inode → IsSoundInode sup inode
  sound_inode number inode has =
      let found = found_as number has.place has.depth has.path has.reached in
      sound_of image sup volume number found.name.inode inode (inode_read image sup number found.name.inode found.read) has

  -- a directory that is reached was walked
  pub record IsWalkedAs (number : ℕ) (inode : Inode) : Type 0 where
    pub name : Named
    pub among : Contains walk.names name
    pub is : name.number ≡ number
    pub inode_is : name.inode ≡ inode
    pub walked : IsWalkedIn image sup volume sound name walk.names

  pub walked_as : (number : ℕ) (inode : Inode) (place depth : ℕ) (path : List ℕ) → IsReached image sup number place depth path → stored_inode image sup number ≡ inode → is_directory inode ≡ true → IsWalkedAs number inode
  walked_as number inode place depth path reached stored is =
      let named = named_at number place depth path reached in
      let found = (somewhere named.name named.among).1 in
      let mine = (named_is image sup volume named.name.number found.place named.name.inode found.read).is in
      let S : ℕ → Type 0 = λ n. stored_inode image sup n ≡ named.name.inode in
      let inode_is : named.name.inode ≡ inode = sym (subst S named.number_is mine) ∙ stored in
      let directory : names_directory named.name ≡ true = ap is_directory inode_is ∙ is in
      let before = shallow number place depth path reached in
      record {
        name = named.name;
        among = named.among;
        is = named.number_is;
        inode_is = inode_is;
        walked =
            ⊎_elim
            (λ same. absurd (in_none named.name (named.ahead directory same)))
            (λ differ. named.walked directory (omega (arith, before, differ)))
            (cases_eq depth all.ended.last);
      }

  -- a name that an entry gives is among those of the walk
  record IsGivenAs (name : Named) : Type 0 where
    found : Named
    among : Contains walk.names found
    number : found.number ≡ name.number
    directory : found.directory ≡ name.directory
    offset : found.offset ≡ name.offset
    path : found.path ≡ name.path

  given_as : (name : Named) (place : ℕ) → IsGiven image sup name place → IsGivenAs name
  given_as name place given =
      let named = named_at name.directory given.at given.depth given.path given.reached in
      let inode = same_inode image sup volume sound all.root named.name (somewhere named.name named.among) name.directory given.at given.directory named.number_is given.read in
      let is : names_directory named.name ≡ true = ap is_directory inode ∙ given.good.directory in
      let before = shallow name.directory given.at given.depth given.path given.reached in
      let walked : IsWalkedIn image sup volume sound named.name walk.names =
      ⊎_elim (λ same. absurd (in_none named.name (named.ahead is same))) (λ differ. named.walked is (omega (arith, before, differ))) (cases_eq given.depth all.ended.last) in
      let E : Inode → Type 0 = λ i. HasEntry image sup i name.offset place given.entry in
      let has = walked.each_name name.offset place given.entry (subst E (sym inode) given.has) in
      record {
        found = has.name;
        among = has.among;
        number = has.number_is ∙ sym given.number_is;
        directory = has.from ∙ named.number_is;
        offset = has.offset_is;
        path = has.path_is ∙ ap (λ one. joined_path one (bytes_text given.entry.name)) named.path_is ∙ sym given.path_is;
      }

  -- a directory has one name
  one_name : (a b : Named) → Contains walk.names a → Contains walk.names b → a.number ≡ b.number → (inode : Inode) → stored_inode image sup b.number ≡ inode → is_directory inode ≡ true → a ≡ b
  one_name a b in_a in_b same inode stored is =
      once_same (λ n. ⊥) walk.names a b all.ended.at.walks.once in_a in_b (directory_of a in_a same) (directory_of b in_b refl) same
    where
      directory_of : (name : Named) → Contains walk.names name → name.number ≡ b.number → names_directory name ≡ true
      directory_of name among number =
          let found = (somewhere name among).1 in
          let mine = (named_is image sup volume name.number found.place name.inode found.read).is in
          let S : ℕ → Type 0 = λ n. stored_inode image sup n ≡ name.inode in
          ap is_directory (sym (subst S number mine) ∙ stored) ∙ is

  -- ---- nothing is damaged

  none_false : (sort : Sort) (place : ℕ) → IsFalseIn image sup sort place → ⊥
  none_false sort place (NoDirectory inode has not_one) =
      let root_is = (named_is image sup volume 2 (super_place sup) all.root all.has.read).is in
      both_ways (is_directory inode) (ap is_directory (sym has.is ∙ root_is) ∙ all.has.directory) not_one
  none_false sort place (NoInode number at depth path reached out) = both_ways (has_inode sup number) (found_as number at depth path reached).inside out
  none_false sort place (Dead number inode has dead) = not_dead image sup volume inode (sound_inode number inode has) dead
  none_false sort place (TooLong number inode has long) = not_long image sup volume inode (sound_inode number inode has) long
  none_false sort place (ExtendedTooLong number inode has long) = not_extended_long image sup volume inode (sound_inode number inode has) long
  none_false sort place (BadPointer number inode section at has among bad) =
      files_sound image sup volume sound walk.names filed files_are number inode section at (number_is number has.has.place has.has.depth has.has.path has.has.reached) has.read among bad
  none_false sort place (OtherSize number inode has is odd) =
      let walked = walked_as number inode has.has.place has.has.depth has.has.path has.has.reached has.has.is is in
      let W : Inode → Type 0 = λ i. i.size % 512 ≡ 0 in
      odd (subst W walked.inode_is walked.walked.good.whole)
  none_false sort place (InHole number inode has is pointers hole) =
      let walked = walked_as number inode has.has.place has.has.depth has.has.path has.has.reached has.has.is is in
      let W : Inode → Type 0 = λ i. IsGoodDirectory image sup i in
      (subst W walked.inode_is walked.walked.good).filled hole
  none_false sort place (BadEntry number index at entry_at inode has good there bad) =
      let walked = walked_as number inode has.has.place has.has.depth has.has.path has.has.reached has.has.is good.directory in
      let W : Inode → Type 0 = λ i. (index at entry_at : ℕ) → HasBlock image sup i index at → entries_of sup.order (block_bytes image sup i index at) ≡ Err entry_at → ⊥ in
      (subst W walked.inode_is walked.walked.entries) index at entry_at there bad
  none_false sort place (RootAgain name at given two) =
      let found = given_as name at given in
      let P : List Named → Type 0 = λ names. Contains names (root_name all.root) in
      let walks = all.ended.at.walks in
      let root_among : Contains walk.names (root_name all.root) = subst P (sym walks.whole) (in_head (root_name all.root) walks.rest) in
      let root_is = (named_is image sup volume 2 (super_place sup) all.root all.has.read).is in
      let same = one_name found.found (root_name all.root) found.among root_among (found.number ∙ two) all.root root_is all.has.directory in
      let none : name.directory ≡ 0 = sym found.directory ∙ ap (λ n. n.directory) same in
      let used = reached_two image sup name.directory given.at given.depth given.path given.reached in
      omega (arith, none, used)
  none_false sort place (Twice name other at other_at inode given other_given apart same has is) =
      let found = given_as name at given in
      let other_found = given_as other other_at other_given in
      let N : ℕ → Type 0 = λ n. stored_inode image sup n ≡ inode in
      let one = one_name other_found.found found.found other_found.among found.among (other_found.number ∙ same ∙ sym found.number) inode (subst N (sym found.number) has.is) is in
      apart (sym other_found.directory ∙ ap (λ n. n.directory) one ∙ found.directory) (sym other_found.offset ∙ ap (λ n. n.offset) one ∙ found.offset)

  none_unsupported : (what : What) (place : ℕ) → IsUnsupportedIn image sup what place → ⊥
  none_unsupported what place (IsSnapshot number inode has is) = both_ways (is_snapshot inode) is (sound_inode number inode has).supported

  -- ---- nothing is over a limit

  few_names : (names : List Named) → AreNames image sup names → (suc (length names) ≤ most_names) × (suc (path_bytes names) ≤ most_path_bytes)
  few_names names are =
      let walks = all.ended.at.walks in
      let rest : List Named = walks.rest in
      let matched : All (HasMatch rest) names =
      All-weaker (λ (name : Named). (place : ℕ) × IsGiven image sup name place) (HasMatch rest)
      (λ name given.
      let found = given_as name given.0 given.1 in
      let P : List Named → Type 0 = λ list. Contains list found.found in
      let used = reached_two image sup name.directory given.1.at given.1.depth given.1.path given.1.reached in
      ⊎_elim
      (λ same.
      let none : name.directory ≡ 0 = sym found.directory ∙ ap (λ n. n.directory) (sym same) in
      absurd (omega (arith, none, used)))
      (λ among. record { other = found.found; among = among; directory = found.directory; offset = found.offset; path = found.path })
      (in_cases (root_name all.root) found.found rest (subst P walks.whole found.among)))
      names are.given in
      let both = fits names rest are.apart matched in
      let few = both.0 in
      let brief = both.1 in
      let within = all.ended.within in
      let count : length walk.names ≡ suc (length rest) = ap length walks.whole in
      let bytes : path_bytes walk.names ≡ 1 + path_bytes rest = ap path_bytes walks.whole ∙ sum_by-cons (λ (n : Named). length n.path) (root_name all.root) rest in
      let most = within.few in
      let most_bytes = within.brief in
      (omega (arith, few, count, most), omega (arith, brief, bytes, most_bytes))

  few_runs : (runs : List Run) → AreRuns image sup runs → length runs ≤ most_runs
  few_runs runs are =
      let numbers : List ℕ = numbers_of walk.names in
      let within = distinct_few runs (flat_map (number_runs image sup) numbers) (distinct_of runs are.differ)
      (λ run among.
      let is = All-contains (IsRun image sup) runs run are.each among in
      let has = is.has.has in
      runs_found image sup numbers run is (number_is run.number has.place has.depth has.path has.reached)) in
      let counted = files_counted image sup volume sound walk.names filed files_are in
      omega (arith, within, counted)

  none_over : (bound : Bound) (most : ℕ) → IsOverIn image sup volume bound most → ⊥
  none_over bound most (LongPath number place depth path reached long) =
      let named = named_at number place depth path reached in
      let short = All-contains (λ (name : Named). length name.path ≤ 65535) walk.names named.name all.ended.within.short named.among in
      let same : length named.name.path ≡ length path = ap length named.path_is in
      omega (arith, short, long, same)
  none_over bound most (ManyNames names are many) = let within = (few_names names are).0 in omega (arith, within, many)
  none_over bound most (LongNames names are many) = let within = (few_names names are).1 in omega (arith, within, many)
  none_over bound most (Deep number place depth path reached is deep) =
      let before = shallow number place depth path reached in
      let last = all.ended.shallow in
      let named = named_at number place depth path reached in
      let found = (somewhere named.name named.among).1 in
      let mine = (named_is image sup volume named.name.number found.place named.name.inode found.read).is in
      let S : ℕ → Type 0 = λ n. stored_inode image sup n ≡ named.name.inode in
      let inode_is = subst S named.number_is mine in
      in_none named.name (named.ahead (ap is_directory (sym inode_is) ∙ is) (omega (arith, before, last, deep)))
  none_over bound most (ManyRuns runs are many) = let few = few_runs runs are in omega (arith, few, many)

-- ---- a volume that is read

pub record IsAccepted (orders : List Order) (image : List ℕ) (volume : Range) (number : ℕ) : Type 0 where
  pub sup : Super
  pub has : HasSuper orders image volume sup
  pub short : length image ≤ LONGEST_IMAGE
  pub walk : Walk
  pub names : result_of image (volume_names sup) ≡ Ok walk
  pub filed : Filed
  pub files : result_of image (named_files sup number walk.names) ≡ Ok filed

pub accepted : (orders : List Order) (image : List ℕ) (volume : Range) (number : ℕ) (found : FoundVolume) → result_of image (volume_at orders (length image) volume number) ≡ Ok found → IsAccepted orders image volume number
unfolding volume_at files_below
accepted orders image volume number found is =
    let sup = bind_gives image (volume_super orders volume) (λ sup. check (nat_le (length image) LONGEST_IMAGE) (Limit Image LONGEST_IMAGE) >> files_below sup number) found is in
    let done : Filed → Ask Refusal FoundVolume = λ filed. Done (record { superblock = sup.0; files = filed.files }) in
    let short = check_gives image (nat_le (length image) LONGEST_IMAGE) (Limit Image LONGEST_IMAGE) (λ short. files_below sup.0 number) found sup.2 in
    let walk = bind_gives image (volume_names sup.0) (λ walk. named_files sup.0 number walk.names >>= done) found short.1 in
    let filed = bind_gives image (named_files sup.0 number walk.0.names) done found walk.2 in
    record {
      sup = sup.0;
      has = sup.1;
      short = leb-true (length image) LONGEST_IMAGE short.0;
      walk = walk.0;
      names = walk.1;
      filed = filed.0;
      files = filed.1;
    }

module _ (orders : List Order) (image : List ℕ) (volume : Range) (number : ℕ) (ok : IsAccepted orders image volume number) where
  right : wrong_field ok.sup ≡ None
  right = super_sound orders image volume ok.sup ok.has

  -- the superblock that was read is the one
  same_super : (sup : Super) → HasSuper orders image volume sup → sup ≡ ok.sup
  same_super sup has = same_value {E = Refusal} sup ok.sup (sym has ∙ ok.has)

  false_at : (sort : Sort) (place : ℕ) → IsFalseAt orders image volume sort place → ⊥
  false_at sort place (WrongField version order at magic wrong) =
      let read = super_read orders image volume version order ok.sup magic ok.has in
      absurd (never at (sym read.0 ∙ wrong))
    where
      never : (at : ℕ) → None ≡ Some at → ⊥
      never at same = absurd cc
  false_at sort place (FalseIn sup kind at has wrong) =
      let P : Super → Type 0 = λ s. IsFalseIn image s sort place in
      none_false image ok.sup number right ok.walk ok.filed ok.names ok.files (all_names image ok.sup number right ok.walk ok.names) sort place (subst P (same_super sup has) wrong)

  unsupported_at : (what : What) (place : ℕ) → IsUnsupportedAt orders image volume what place → ⊥
  unsupported_at what place (UnsupportedIn sup kind at has wrong) =
      let P : Super → Type 0 = λ s. IsUnsupportedIn image s what place in
      none_unsupported image ok.sup number right ok.walk ok.filed ok.names ok.files (all_names image ok.sup number right ok.walk ok.names) what place (subst P (same_super sup has) wrong)

  over : (bound : Bound) (most : ℕ) → IsOver orders image volume number bound most → ⊥
  over bound most (LongImage long) = let short = ok.short in omega (arith, long, short)
  over bound most (OverIn sup kind limit has wrong) =
      let P : Super → Type 0 = λ s. IsOverIn image s number bound most in
      none_over image ok.sup number right ok.walk ok.filed ok.names ok.files (all_names image ok.sup number right ok.walk ok.names) bound most (subst P (same_super sup has) wrong)

  none_wrong : (e : Refusal) → IsWrong orders image volume number e → ⊥
  none_wrong NotThis wrong = wrong
  none_wrong (Damaged sort place) wrong = false_at sort place wrong
  none_wrong (Unsupported what place) wrong = unsupported_at what place wrong
  none_wrong (Limit bound most) wrong = over bound most wrong

pub volume_accepted : (orders : List Order) (image : List ℕ) (volume : Range) (number : ℕ) (found : FoundVolume) (e : Refusal) → result_of image (volume_at orders (length image) volume number) ≡ Ok found
    → IsWrong orders image volume number e → ⊥
volume_accepted orders image volume number found e is wrong = none_wrong orders image volume number (accepted orders image volume number found is) e wrong
