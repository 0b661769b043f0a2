-- Where a walk over the directories ends, it has a name for each inode that is reached, and nothing is wrong on the way.
use Rattle.std.specs.Prelude.{◌≡◌, ◌⊎◌, ℕ, zero, suc, ◌+◌, ◌*◌, ◌%◌, ◌<◌, ◌≤◌, true, ◌==◌, None, Result, Ok, Err, List, [], ◌∷◌, ◌++◌, length, drop, refl}
use Rattle.std.specs.List.{All, Contains, filter}
use Rattle.std.proofs.Common.{ap, sym, ◌∙◌, subst, arith, inl, inr, ⊎_elim, append_assoc, append-nil, length-append, lit≤}
use Rattle.std.proofs.lemmas.Bool.{cases_eq}
use Rattle.std.proofs.lemmas.Bool.Decides.{Decides-eqb}
use Rattle.std.proofs.lemmas.List.{append_cancel_left}
use Rattle.std.proofs.lemmas.List.Sums.{sum_by-append}
use Rattle.std.proofs.lemmas.List.Elements.{All-push, All-head, All-tail, All-weaker, All-contains, All-cons, All-nil, Contains-append_left, Contains-append_right, Contains-push}
use Rattle.image_defs.specs.Ask.{result_of, given, ◌>>=◌}
use Rattle.image_defs.specs.Through.{through}
use Rattle.image_defs.proofs.Looks.{bind_gives, check_gives, given_gives}
use Rattle.rx_tree.specs.Path.{joined_path}
use Rattle.name_defs.specs.Texts.{bytes_text}
use Rattle.fault_defs.specs.declared.Refusal.{Refusal}
use Rattle.fault_defs.specs.declared.Refusal.TheVariants.{Damaged}
use Rattle.fault_defs.specs.declared.Sort.TheVariants.{DirSize}
use Rattle.ufs_inode_defs.specs.Superblock.{block_size, wrong_field}
use Rattle.ufs_inode_defs.specs.Inode.{is_directory, size_place, inode_at, inode_named}
use Rattle.ufs_inode_defs.specs.Stream.{content_stream}
use Rattle.ufs_inode_defs.specs.Blocks.{runs_of, stream_blocks}
use Rattle.ufs_inode_defs.specs.declared.superblock.Super.{Super}
use Rattle.ufs_inode_defs.specs.declared.inode.Inode.{Inode}
use Rattle.ufs_volume_defs.specs.Directory.{Entry, entries_of, leading_entries}
use Rattle.ufs_volume_defs.specs.Names.{Named, Walk, with_runs, path_bytes, names_directory, longest_path, most_names, most_path_bytes, deepest, Block, name_by, entry_name, leading, block_names, directory_blocks, directory_names, directories_behind, names_below, root_inode, root_name, names_from, volume_names}
use Rattle.ufs_damage_defs.specs.Damage.{HasBlock, block_bytes, HasEntry, IsGoodDirectory, IsReached, Root, Through}
use Rattle.ufs_damage_defs.proofs.Walks.{same_value, not_both, Walks, through_walks}
use Rattle.ufs_damage_defs.proofs.InodeDamage.{named_gives}
use Rattle.ufs_damage_defs.proofs.DirectoryLaws.{blocks_are, block_among}
use Rattle.ufs_damage_defs.proofs.NameFacts.{in_head, in_filter, dropped}
use Rattle.ufs_damage_defs.proofs.NameSteps.{IsFound, entry_gives}
use Rattle.ufs_damage_defs.proofs.Contents.{pieces_place, good_of}
use Rattle.ufs_damage_defs.proofs.NameDamage.{IsSomewhere, IsAtDepth, depth_goes_on, at_root, HasRoot, root_gives}

-- names within the limits
pub record AreWithinLimits (names : List Named) : Type 0 where
  pub short : All (λ name. length name.path ≤ longest_path) names
  pub few : length names ≤ most_names
  pub brief : path_bytes names ≤ most_path_bytes

-- names that were found behind some, and what holds of them
pub record HoldsBehind (start : List Named) (F : List Named → Type 0) (walk : Walk) : Type 0 where
  pub more : List Named
  pub grown : walk.names ≡ start ++ more
  pub holds : F more

-- a walk has more names
abbrev pub HasMore : Walk → Walk → Type 0
HasMore before after = (more : List Named) × (after.names ≡ before.names ++ more)

-- with more names, it still holds
abbrev pub Stays : (List Named → Type 0) → Type 0
Stays F = (names more : List Named) → F names → F (names ++ more)

stays_behind : (start : List Named) (F : List Named → Type 0) → Stays F → (before after : Walk) → HasMore before after → HoldsBehind start F before → HoldsBehind start F after
stays_behind start F stays before after has holds = record {
  more = holds.more ++ has.0;
  grown = has.1 ∙ ap (λ names. names ++ has.0) holds.grown ∙ append_assoc start holds.more has.0;
  holds = stays holds.more has.0 holds.holds;
}

-- what holds of the names behind some holds of these
holds_of : (start : List Named) (F : List Named → Type 0) (walk : Walk) (more : List Named) → walk.names ≡ start ++ more → HoldsBehind start F walk → F more
holds_of start F walk more grown holds = subst F (append_cancel_left start holds.more more (sym holds.grown ∙ grown)) holds.holds

pub more_same : (walk : Walk) → HasMore walk walk
more_same walk = ([], sym (append-nil walk.names))

pub more_more : (first second third : Walk) → HasMore first second → HasMore second third → HasMore first third
more_more first second third one two = (one.0 ++ two.0, two.1 ∙ ap (λ names. names ++ two.0) one.1 ∙ append_assoc first.names one.0 two.0)

module _ (image : List ℕ) (sup : Super) (volume : ℕ) (sound : wrong_field sup ≡ None) where
  -- ---- what the walk makes of an entry, a block and a directory

  -- a name that an entry of a directory gives
  pub record HasNameOf (directory : Named) (offset : ℕ) (entry : Entry) (names : List Named) : Type 0 where
    pub name : Named
    pub among : Contains names name
    pub number_is : name.number ≡ entry.inode
    pub path_is : name.path ≡ joined_path directory.path (bytes_text entry.name)
    pub from : name.directory ≡ directory.number
    pub offset_is : name.offset ≡ offset

  record IsBlockIn (directory : Named) (block : Block) (names : List Named) : Type 0 where
    good : (place : ℕ) → entries_of sup.order (block_bytes image sup directory.inode block.index block.at) ≡ Err place → ⊥
    each_name : (entries : List Entry) (entry : Entry) → entries_of sup.order (block_bytes image sup directory.inode block.index block.at) ≡ Ok entries → Contains (leading_entries entries) entry
        → HasNameOf directory (block.index * block_size sup + entry.at) entry names

  pub record IsWalkedIn (directory : Named) (names : List Named) : Type 0 where
    pub good : IsGoodDirectory image sup directory.inode
    pub entries : (index at place : ℕ) → HasBlock image sup directory.inode index at → entries_of sup.order (block_bytes image sup directory.inode index at) ≡ Err place → ⊥
    pub each_name : (offset place : ℕ) (entry : Entry) → HasEntry image sup directory.inode offset place entry → HasNameOf directory offset entry names

  name_stays : (directory : Named) (offset : ℕ) (entry : Entry) → Stays (HasNameOf directory offset entry)
  name_stays directory offset entry names more has = record {
    name = has.name;
    among = Contains-append_left names more has.name has.among;
    number_is = has.number_is;
    path_is = has.path_is;
    from = has.from;
    offset_is = has.offset_is;
  }

  name_behind : (directory : Named) (offset : ℕ) (entry : Entry) (front names : List Named) → HasNameOf directory offset entry names → HasNameOf directory offset entry (front ++ names)
  name_behind directory offset entry front names has = record {
    name = has.name;
    among = Contains-append_right front names has.name has.among;
    number_is = has.number_is;
    path_is = has.path_is;
    from = has.from;
    offset_is = has.offset_is;
  }

  walked_stays : (directory : Named) → Stays (IsWalkedIn directory)
  walked_stays directory names more is = record {
    good = is.good;
    entries = is.entries;
    each_name = λ offset place entry has. name_stays directory offset entry names more (is.each_name offset place entry has);
  }

  walked_behind : (directory : Named) (front names : List Named) → IsWalkedIn directory names → IsWalkedIn directory (front ++ names)
  walked_behind directory front names is = record {
    good = is.good;
    entries = is.entries;
    each_name = λ offset place entry has. name_behind directory offset entry front names (is.each_name offset place entry has);
  }

  module _ (start : List Named) where
    -- a walk that began with some names, within the limits
    pub record IsBehindStart (walk : Walk) : Type 0 where
      pub more : List Named
      pub grown : walk.names ≡ start ++ more
      pub within : AreWithinLimits walk.names

    module _ (directory : Named) where
      entry_walks : (block : Block) → Walks image (entry_name sup directory block) IsBehindStart HasMore (λ entry. HoldsBehind start (HasNameOf directory (block.index * block_size sup + entry.at) entry))
      entry_walks block = record {
        same = more_same;
        more = more_more;
        stays = λ entry before after. stays_behind start (HasNameOf directory (block.index * block_size sup + entry.at) entry) (name_stays directory (block.index * block_size sup + entry.at) entry) before after;
        steps = λ entry walk after state gives.
            let entered = entry_gives image sup directory block walk entry after gives in
            let name : Named = name_by sup directory block entry entered.inode in
            let few = entered.counted.few in
            let brief = entered.counted.brief in
            let long : length (walk.names ++ name ∷ []) ≡ length walk.names + 1 = length-append walk.names (name ∷ []) in
            let bytes : path_bytes (walk.names ++ name ∷ []) ≡ path_bytes walk.names + path_bytes (name ∷ []) = sum_by-append (λ (n : Named). length n.path) walk.names (name ∷ []) in
            let one : path_bytes (name ∷ []) ≡ length name.path = omega arith in
            let P : Walk → Type 0 = λ w. IsBehindStart w × HasMore walk w × HoldsBehind start (HasNameOf directory (block.index * block_size sup + entry.at) entry) w in
            let grown : walk.names ++ name ∷ [] ≡ start ++ (state.more ++ name ∷ []) = ap (λ names. names ++ name ∷ []) state.grown ∙ append_assoc start state.more (name ∷ []) in
            subst P entered.counted.is (
              record {
                more = state.more ++ name ∷ [];
                grown = grown;
                within = record {
                  short = All-push (λ (n : Named). length n.path ≤ longest_path) walk.names name state.within.short entered.counted.short;
                  few = omega (arith, few, long);
                  brief = omega (arith, brief, bytes, one);
                };
              },
              (name ∷ [], refl),
              record {
                more = state.more ++ name ∷ [];
                grown = grown;
                holds = record { name = name; among = Contains-push state.more name; number_is = refl; path_is = refl; from = refl; offset_is = refl };
              },
            );
      }

      leading_gives : (at : ℕ) (read : Result (List Entry) ℕ) (leads : List Entry) → leading at read ≡ Ok leads → (entries : List Entry) × (read ≡ Ok entries) × (leading_entries entries ≡ leads)
      leading_gives at (Ok entries) leads is = (entries, refl, same_value {E = Refusal} (leading_entries entries) leads is)
      leading_gives at (Err place) leads is = absurd cc

      block_stays : (block : Block) → Stays (IsBlockIn directory block)
      block_stays block names more is = record {
        good = is.good;
        each_name = λ entries entry read among. name_stays directory (block.index * block_size sup + entry.at) entry names more (is.each_name entries entry read among);
      }

      block_walks : Walks image (block_names sup directory) IsBehindStart HasMore (λ block. HoldsBehind start (IsBlockIn directory block))
      unfolding block_names
      block_walks = record {
        same = more_same;
        more = more_more;
        stays = λ block before after. stays_behind start (IsBlockIn directory block) (block_stays block) before after;
        steps = λ block walk after state gives.
            let bytes : List ℕ = block_bytes image sup directory.inode block.index block.at in
            let step = given_gives image (leading block.at (entries_of sup.order bytes)) (λ leads. through (entry_name sup directory block) walk leads) after gives in
            let entries = leading_gives block.at (entries_of sup.order bytes) step.0 step.1 in
            let G : List Entry → Type 0 = λ leads. result_of image (through (entry_name sup directory block) walk leads) ≡ Ok after in
            let all = through_walks image (entry_name sup directory block) IsBehindStart HasMore (λ entry. HoldsBehind start (HasNameOf directory (block.index * block_size sup + entry.at) entry)) (entry_walks block)
            (leading_entries entries.0) walk after state (subst G (sym entries.2) step.2) in (
              all.0,
              all.1,
              record {
                more = all.0.more;
                grown = all.0.grown;
                holds = record {
                  good = λ place err. not_both entries.0 place (entries_of sup.order bytes) entries.1 err;
                  each_name = λ found entry read among.
                      let same : found ≡ entries.0 = same_value {E = ℕ} found entries.0 (sym read ∙ entries.1) in
                      let C : List Entry → Type 0 = λ list. Contains (leading_entries list) entry in
                      holds_of start (HasNameOf directory (block.index * block_size sup + entry.at) entry) after all.0.more all.0.grown
                      (All-contains (λ (one : Entry). HoldsBehind start (HasNameOf directory (block.index * block_size sup + one.at) one) after) (leading_entries entries.0) entry all.2 (subst C same among));
                };
              },
            );
      }

    -- a directory that was walked
    directory_walked : (directory : Named) → result_of image (inode_at sup directory.number) ≡ Ok directory.inode → is_directory directory.inode ≡ true → (walk after : Walk) → IsBehindStart walk
        → result_of image (directory_names sup walk directory) ≡ Ok after → IsBehindStart after × HasMore walk after × HoldsBehind start (IsWalkedIn directory) after
    unfolding directory_names
    directory_walked directory read is walk after state gives =
        let inode : Inode = directory.inode in
        let whole = check_gives image (inode.size % 512 == 0) (Damaged DirSize (size_place sup inode)) _ after gives in
        let laid = bind_gives image (stream_blocks sup (content_stream sup inode) walk.runs) (λ laid. given (directory_blocks sup inode laid.pieces) >>= (λ blocks. through (block_names sup directory) (with_runs walk (runs_of laid)) blocks)) after whole.1 in
        let blocks = given_gives image (directory_blocks sup inode laid.0.pieces) (λ blocks. through (block_names sup directory) (with_runs walk (runs_of laid.0)) blocks) after laid.2 in
        let good = good_of image sup sound directory.number inode walk.runs laid.0 blocks.0 read is ((Decides-eqb (inode.size % 512) 0).0 whole.0) laid.1 blocks.1 in
        let places = pieces_place image sup sound directory.number inode walk.runs laid.0 read laid.1 in
        let are = blocks_are sup inode laid.0.pieces blocks.0 blocks.1 in
        let many = are.1 in
        let begun : IsBehindStart (with_runs walk (runs_of laid.0)) = record { more = state.more; grown = state.grown; within = state.within } in
        let all = through_walks image (block_names sup directory) IsBehindStart HasMore (λ block. HoldsBehind start (IsBlockIn directory block)) (block_walks directory) blocks.0 (with_runs walk (runs_of laid.0)) after begun blocks.2 in
        let block_in : (index at : ℕ) → HasBlock image sup inode index at → IsBlockIn directory (record { index = index; at = at }) all.0.more =
        λ index at there.
        let below = there.below in
        let among : Contains blocks.0 (record { index = index; at = at }) = block_among sup inode laid.0.pieces blocks.0 0 index at are.0 (omega arith) (omega (arith, below, many)) (places index there.below ∙ there.there) in
        holds_of start (IsBlockIn directory (record { index = index; at = at })) after all.0.more all.0.grown
        (All-contains (λ (block : Block). HoldsBehind start (IsBlockIn directory block) after) blocks.0 (record { index = index; at = at }) all.2 among) in (
          all.0,
          all.1,
          record {
            more = all.0.more;
            grown = all.0.grown;
            holds = record {
              good = good;
              entries = λ index at place there err. (block_in index at there).good place err;
              each_name = λ offset place entry has.
                  let P : ℕ → Type 0 = λ n. HasNameOf directory n entry all.0.more in
                  subst P (sym has.offset_is) ((block_in has.index has.at has.block).each_name has.entries entry has.read has.among);
            };
          },
        )

  -- ---- depth by depth

  -- an inode that is reached at a depth has a name; a directory of the last depth is still to be walked, and one above it
  -- was walked
  pub record IsNamedAt (last : ℕ) (names directories : List Named) (number depth : ℕ) (path : List ℕ) : Type 0 where
    pub name : Named
    pub among : Contains names name
    pub number_is : name.number ≡ number
    pub path_is : name.path ≡ path
    pub ahead : names_directory name ≡ true → depth ≡ last → Contains directories name
    pub walked : names_directory name ≡ true → depth < last → IsWalkedIn name names

  abbrev pub IsClosed : ℕ → List Named → List Named → Type 0
  IsClosed last names directories =
      (number place depth : ℕ) (path : List ℕ) → IsReached image sup number place depth path → depth ≤ last → IsNamedAt last names directories number depth path

  module _ (root : Inode) where
    -- a directory that is reached is that of its name
    pub same_inode : (name : Named) → IsSomewhere image sup volume root sound name → (number place : ℕ) (inode : Inode) → name.number ≡ number → result_of image (inode_named sup number place) ≡ Ok inode → name.inode ≡ inode
    same_inode name found number place inode same read =
        let is = found.1 in
        let mine = (named_gives image sup volume name.number is.place name.inode is.read).1 in
        let P : ℕ → Type 0 = λ n. result_of image (inode_at sup n) ≡ Ok name.inode in
        same_value {E = Refusal} name.inode inode (sym (subst P same mine) ∙ (named_gives image sup volume number place inode read).1)

    module _ (last : ℕ) (walk after : Walk) (directories : List Named) (state : IsAtDepth image sup volume root sound last walk.names directories) (closed : IsClosed last walk.names directories)
        (more : List Named) (grown : after.names ≡ walk.names ++ more) (walked : All (λ directory. IsWalkedIn directory more) directories) where
      names_more : IsClosed (suc last) (walk.names ++ more) (filter names_directory more)
      names_more number place depth path reached within =
          ⊎_elim
          (λ shallow. above number place depth path reached shallow)
          (λ deep. below number place depth path reached deep)
          (cases_le depth last within)
        where
          cases_le : (a b : ℕ) → a ≤ suc b → (a ≤ b) ⊎ (a ≡ suc b)
          cases_le a b before = ⊎_elim (λ same. inr same) (λ differ. inl (omega (arith, before, differ))) (cases_eq a (suc b))

          above : (number place depth : ℕ) (path : List ℕ) → IsReached image sup number place depth path → depth ≤ last → IsNamedAt (suc last) (walk.names ++ more) (filter names_directory more) number depth path
          above number place depth path reached shallow =
              let was = closed number place depth path reached shallow in
              record {
                name = was.name;
                among = Contains-append_left walk.names more was.name was.among;
                number_is = was.number_is;
                path_is = was.path_is;
                ahead = λ is same. absurd (omega (arith, shallow, same));
                walked = λ is before.
                    ⊎_elim
                    (λ same. walked_behind was.name walk.names more (All-contains (λ (directory : Named). IsWalkedIn directory more) directories was.name walked (was.ahead is same)))
                    (λ differ. walked_stays was.name walk.names more (was.walked is (omega (arith, shallow, differ))))
                    (cases_eq depth last);
              }

          below : (number place depth : ℕ) (path : List ℕ) → IsReached image sup number place depth path → depth ≡ suc last → IsNamedAt (suc last) (walk.names ++ more) (filter names_directory more) number depth path
          below number place depth path Root deep = absurd (omega (arith, deep))
          below number place depth path (Through from at d p directory offset pl entry reached read good has) deep =
              let here : d ≡ last = omega (arith, deep) in
              let was = closed from at d p reached (omega (arith, here)) in
              let found = All-contains (IsSomewhere image sup volume root sound) walk.names was.name state.all was.among in
              let inode : was.name.inode ≡ directory = same_inode was.name found from at directory was.number_is read in
              let is : names_directory was.name ≡ true = ap is_directory inode ∙ good.directory in
              let E : Inode → Type 0 = λ i. HasEntry image sup i offset pl entry in
              let done = All-contains (λ (one : Named). IsWalkedIn one more) directories was.name walked (was.ahead is here) in
              let gives = done.each_name offset pl entry (subst E (sym inode) has) in
              record {
                name = gives.name;
                among = Contains-append_right walk.names more gives.name gives.among;
                number_is = gives.number_is;
                path_is = gives.path_is ∙ ap (λ one. joined_path one (bytes_text entry.name)) was.path_is;
                ahead = λ one same. in_filter names_directory gives.name more gives.among one;
                walked = λ one before. absurd (omega (arith, deep, before));
              }

    closed_deeper : (last : ℕ) (walk after : Walk) (directories : List Named) → IsAtDepth image sup volume root sound last walk.names directories → IsClosed last walk.names directories → AreWithinLimits walk.names
        → result_of image (through (directory_names sup) walk directories) ≡ Ok after → IsClosed (suc last) after.names (directories_behind (length walk.names) after.names) × AreWithinLimits after.names
    closed_deeper last walk after directories state closed within gives =
        let all = directories_walked directories walk after state.found state.are (record { more = []; grown = sym (append-nil walk.names); within = within }) gives in
        let more : List Named = all.0.more in
        let grown : after.names ≡ walk.names ++ more = all.0.grown in
        let behind : directories_behind (length walk.names) after.names ≡ filter names_directory more =
        ap (λ names. filter names_directory (drop (length walk.names) names)) grown ∙ ap (filter names_directory) (dropped walk.names more) in
        let N : List Named → Type 0 = λ names. IsClosed (suc last) names (directories_behind (length walk.names) after.names) in
        let D : List Named → Type 0 = λ ahead. IsClosed (suc last) (walk.names ++ more) ahead in (
          subst N (sym grown) (subst D (sym behind)
              (names_more last walk after directories state closed more grown
              (All-weaker (λ (directory : Named). HoldsBehind walk.names (IsWalkedIn directory) after) (λ directory. IsWalkedIn directory more) (λ directory holds. holds_of walk.names (IsWalkedIn directory) after more grown holds) directories all.2))),
          all.0.within,
        )
      where
        directories_walked : (left : List Named) (now end : Walk) → All (IsFound image sup volume root last) left → All (λ name. names_directory name ≡ true) left → IsBehindStart walk.names now
            → result_of image (through (directory_names sup) now left) ≡ Ok end → IsBehindStart walk.names end × HasMore now end × All (λ directory. HoldsBehind walk.names (IsWalkedIn directory) end) left
        directories_walked [] now end found are begun is =
            let P : Walk → Type 0 = λ w. IsBehindStart walk.names w × HasMore now w × All (λ directory. HoldsBehind walk.names (IsWalkedIn directory) w) [] in
            subst P (same_value {E = Refusal} now end is) (begun, more_same now, All-nil (λ (directory : Named). HoldsBehind walk.names (IsWalkedIn directory) now))
        directories_walked (directory ∷ left) now end found are begun is =
            let step = bind_gives image (directory_names sup now directory) (λ next. through (directory_names sup) next left) end is in
            let of = All-head (IsFound image sup volume root last) directory left found in
            let here = directory_walked walk.names directory (named_gives image sup volume directory.number of.place directory.inode of.read).1 (All-head (λ (name : Named). names_directory name ≡ true) directory left are) now step.0 begun step.1 in
            let later = directories_walked left step.0 end (All-tail (IsFound image sup volume root last) directory left found) (All-tail (λ (name : Named). names_directory name ≡ true) directory left are) here.0 step.2 in (
              later.0,
              more_more now step.0 end here.1 later.1,
              All-cons (λ (one : Named). HoldsBehind walk.names (IsWalkedIn one) end) directory left (stays_behind walk.names (IsWalkedIn directory) (walked_stays directory) step.0 end later.1 here.2) later.2,
            )

    -- where the walk has ended
    pub record HasEnded (names : List Named) : Type 0 where
      pub last : ℕ
      pub shallow : last ≤ suc deepest
      pub at : IsAtDepth image sup volume root sound last names []
      pub closed : IsClosed last names []
      pub within : AreWithinLimits names

    ends : (depths last : ℕ) (walk after : Walk) (directories : List Named) → last + depths ≡ suc deepest → IsAtDepth image sup volume root sound last walk.names directories → IsClosed last walk.names directories
        → AreWithinLimits walk.names → result_of image (names_below depths sup walk directories) ≡ Ok after → HasEnded after.names
    unfolding names_below
    ends depths last walk after [] total state closed within gives =
        let P : Walk → Type 0 = λ w. HasEnded w.names in
        subst P (same_value {E = Refusal} walk after gives) (record { last = last; shallow = omega (arith, total); at = state; closed = closed; within = within })
    ends zero last walk after (directory ∷ directories) total state closed within gives = absurd cc
    ends (suc depths) last walk after (directory ∷ directories) total state closed within gives =
        let step = bind_gives image (through (directory_names sup) walk (directory ∷ directories)) (λ next. names_below depths sup next (directories_behind (length walk.names) next.names)) after gives in
        let next = closed_deeper last walk step.0 (directory ∷ directories) state closed within step.1 in
        ends depths (suc last) step.0 after (directories_behind (length walk.names) step.0.names) (omega (arith, total))
        (depth_goes_on image sup volume root sound last walk step.0 (directory ∷ directories) state step.1) next.0 next.1 step.2

    closed_root : IsClosed 0 (root_name root ∷ []) (root_name root ∷ [])
    closed_root number place depth path Root within = record {
      name = root_name root;
      among = in_head (root_name root) [];
      number_is = refl;
      path_is = refl;
      ahead = λ is same. in_head (root_name root) [];
      walked = λ is before. absurd (omega (arith, before));
    }
    closed_root number place depth path (Through from at d p directory offset pl entry reached read good has) within = absurd (omega (arith, within))

    within_root : AreWithinLimits (root_name root ∷ [])
    within_root = record {
      short = All-cons (λ (name : Named). length name.path ≤ longest_path) (root_name root) [] (lit≤ tt) (All-nil (λ (name : Named). length name.path ≤ longest_path));
      few = lit≤ tt;
      brief = lit≤ tt;
    }

  pub record HasAllNames (walk : Walk) : Type 0 where
    pub root : Inode
    pub has : HasRoot image sup root
    pub ended : HasEnded root walk.names

  pub all_names : (walk : Walk) → result_of image (volume_names sup) ≡ Ok walk → HasAllNames walk
  unfolding volume_names
  all_names walk gives =
      let root = bind_gives image (root_inode sup) (names_from sup) walk gives in
      let has = root_gives image sup volume sound root.0 root.1 in
      let start : Walk = record { names = root_name root.0 ∷ []; runs = 0 } in
      record {
        root = root.0;
        has = has;
        ended =
            ends root.0 (suc deepest) 0 start walk (root_name root.0 ∷ []) (omega arith) (at_root image sup volume root.0 sound has.read has.directory) (closed_root root.0) (within_root root.0) root.2;
      }
