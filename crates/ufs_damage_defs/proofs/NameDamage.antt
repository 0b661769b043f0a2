-- What refuses a walk over directories is wrong with the volume.
use Rattle.std.specs.Prelude.{◌≡◌, ◌⊎◌, ℕ, zero, suc, ◌+◌, ◌*◌, ◌%◌, ◌<◌, ◌≤◌, true, ◌==◌, None, Result, Ok, Err, List, [], ◌∷◌, ◌++◌, length, drop, refl}
use Rattle.std.specs.List.{All, Contains, filter}
use Rattle.std.proofs.Common.{ap, sym, ◌∙◌, subst, arith, inr, ⊎_elim, append_assoc, append-nil}
use Rattle.std.proofs.lemmas.Bool.Decides.{Decides-eqb}
use Rattle.std.proofs.lemmas.List.Elements.{All-push, All-head, All-tail, All-cons, All-nil, All-weaker, All-filter, All-append, All-contains_itself, Contains-append_right, filter_passes}
use Rattle.image_defs.specs.Ask.{Ask, Done, result_of, check, given, ◌>>=◌}
use Rattle.image_defs.specs.Through.{through}
use Rattle.image_defs.proofs.Looks.{bind_gives, check_gives, given_gives, bind_refuses, check_refuses, given_refuses}
use Rattle.rx_ranges.specs.declared.pieces.Piece.{Piece}
use Rattle.piece_defs.specs.Places.{place_through}
use Rattle.fault_defs.specs.declared.Refusal.{Refusal}
use Rattle.fault_defs.specs.declared.Refusal.TheVariants.{Damaged, Limit}
use Rattle.fault_defs.specs.declared.Sort.TheVariants.{RootKind, DirSize, DirEntry}
use Rattle.fault_defs.specs.declared.Bound.TheVariants.{Depth}
use Rattle.ufs_inode_defs.specs.Superblock.{block_size, wrong_field, super_place}
use Rattle.ufs_inode_defs.specs.Inode.{is_directory, size_place, inode_named}
use Rattle.ufs_inode_defs.specs.Stream.{content_stream, block_count}
use Rattle.ufs_inode_defs.specs.Blocks.{Laid, runs_of, most_runs, stream_blocks}
use Rattle.ufs_inode_defs.specs.StreamLaws.{IsLaidOut}
use Rattle.ufs_inode_defs.specs.BlockPlace.{byte_place}
use Rattle.ufs_inode_defs.specs.declared.superblock.Super.{Super}
use Rattle.ufs_inode_defs.specs.declared.inode.Inode.{Inode}
use Rattle.ufs_inode_defs.proofs.BlockSteps.{HasPointers}
use Rattle.ufs_inode_defs.proofs.SoundSuper.{is_sound, has_pointers}
use Rattle.ufs_volume_defs.specs.Directory.{Entry, entries_of, leading_entries}
use Rattle.ufs_volume_defs.specs.Names.{Named, Walk, with_runs, names_directory, deepest, Block, name_by, entry_name, leading, block_names, directory_blocks, directory_names, directories_behind, names_below, root_inode, root_name, names_from, volume_names}
use Rattle.ufs_damage_defs.specs.Damage.{HasBlock, block_bytes, IsGoodDirectory, Root, HasSoundInode, NoDirectory, BadPointer, OtherSize, InHole, BadEntry, Deep}
use Rattle.ufs_damage_defs.proofs.Walks.{same_value, same_error, through_keeps, StopsAt, through_stops_at, Walks, through_walks}
use Rattle.ufs_damage_defs.proofs.StreamStops.{stream_sound}
use Rattle.ufs_damage_defs.proofs.StreamMaps.{HasShape}
use Rattle.ufs_damage_defs.proofs.StreamCounts.{StopsStream, AtPointer, AtRuns, stream_counted, stream_stops}
use Rattle.ufs_damage_defs.proofs.Visits.{stream_starts}
use Rattle.ufs_damage_defs.proofs.Runs.{part_laid, AreWalked, none_walked, walked_more, many_directories}
use Rattle.ufs_damage_defs.proofs.InodeDamage.{IsWrongIn, both_ways, named_gives, named_is, named_refused}
use Rattle.ufs_damage_defs.proofs.DirectoryLaws.{AreRising, leading_rise, AreBlocks, blocks_are, hole_of}
use Rattle.ufs_damage_defs.proofs.NameFacts.{in_none, in_cases, in_head, in_tail, IsKnown, known_more, AreOnce, once_behind, AreFresh, fresh_of, dropped}
use Rattle.ufs_damage_defs.proofs.NameSteps.{IsFound, IsGivenBySome, IsWalk, IsBehind, IsEntry, entry_gives, found as found_name, walks_on, entry_refused}
use Rattle.ufs_volume_defs.specs.Files.{content_section}
use Rattle.ufs_damage_defs.proofs.Contents.{wider, pieces_place, good_of, block_fits, directory_content}

-- ---- the walk

module _ (image : List ℕ) (sup : Super) (volume : ℕ) (root : Inode) (sound : wrong_field sup ≡ None) where
  pointers : HasPointers sup
  pointers = has_pointers sup (is_sound sup sound)

  -- a walk at a depth that began with some names: those that were found behind them
  pub record IsLevel (depth : ℕ) (walked : List ℕ) (start names : List Named) : Type 0 where
    pub walks : IsWalk image sup volume root walked names
    pub more : List Named
    pub grown : names ≡ start ++ more
    pub found : All (IsFound image sup volume root (suc depth)) more

  -- ---- in a directory

  module _ (depth : ℕ) (directory : Named) (of : IsFound image sup volume root depth directory) (good : IsGoodDirectory image sup directory.inode) (walked : List ℕ) (has : Contains walked directory.number) (start : List Named) where
    -- in a block, in front of some entries
    pub record InBlock (block : Block) (entries : List Entry) (left : List Entry) (walk : Walk) : Type 0 where
      pub level : IsLevel depth walked start walk.names
      pub bound : ℕ
      pub fits : bound ≤ block_size sup
      pub behind : IsBehind image sup volume root directory.number (block.index * block_size sup + bound) level.walks.rest
      pub rise : AreRising (block_size sup) bound left
      pub among : All (Contains (leading_entries entries)) left

    module _ (block : Block) (entries : List Entry) (there : HasBlock image sup directory.inode block.index block.at)
        (read : entries_of sup.order (block_bytes image sup directory.inode block.index block.at) ≡ Ok entries) where
      pub entry_is : (entry : Entry) (left : List Entry) (walk : Walk) → InBlock block entries (entry ∷ left) walk → IsEntry image sup volume root depth directory block entry
      entry_is entry left walk state = record {
        found = of;
        good = good;
        has_block = there;
        entries = entries;
        read = read;
        among = All-head (Contains (leading_entries entries)) entry left state.among;
      }

      pub in_front : (entry : Entry) (left : List Entry) (walk : Walk) (state : InBlock block entries (entry ∷ left) walk)
          → IsBehind image sup volume root directory.number (block.index * block_size sup + entry.at) state.level.walks.rest
      in_front entry left walk state =
          All-weaker (λ (name : Named). name.directory ≡ directory.number → name.offset < block.index * block_size sup + state.bound)
          (λ name. name.directory ≡ directory.number → name.offset < block.index * block_size sup + entry.at)
          (λ name before same. let front = before same in let from = state.rise.0 in omega (arith, front, from))
          state.level.walks.rest state.behind

      pub entry_goes_on : (entry : Entry) (left : List Entry) (walk after : Walk) → InBlock block entries (entry ∷ left) walk → result_of image (entry_name sup directory block walk entry) ≡ Ok after → InBlock block entries left after
      entry_goes_on entry left walk after state gives =
          let entered = entry_gives image sup directory block walk entry after gives in
          let name : Named = name_by sup directory block entry entered.inode in
          let is : IsEntry image sup volume root depth directory block entry = entry_is entry left walk state in
          let front = in_front entry left walk state in
          let next = walks_on image sup volume root depth directory block entry is walked walk state.level.walks front entered.inode has entered.once in
          let P : Walk → Type 0 = λ w. InBlock block entries left w in
          let B : List Named → Type 0 = λ rest. IsBehind image sup volume root directory.number (block.index * block_size sup + suc entry.at) rest in
          subst P entered.counted.is
          (record {
            level = record {
              walks = next.0;
              more = state.level.more ++ name ∷ [];
              grown = ap (λ list. list ++ name ∷ []) state.level.grown ∙ append_assoc start state.level.more (name ∷ []);
              found = All-push (IsFound image sup volume root (suc depth)) state.level.more name state.level.found (found_name image sup volume root depth directory block entry is entered.inode entered.read);
            };
            bound = suc entry.at;
            fits = let below = state.rise.1 in omega (arith, below);
            behind =
                subst B (sym next.1)
                (All-push (λ n. n.directory ≡ directory.number → n.offset < block.index * block_size sup + suc entry.at) state.level.walks.rest name
                (All-weaker (λ (n : Named). n.directory ≡ directory.number → n.offset < block.index * block_size sup + entry.at) (λ n. n.directory ≡ directory.number → n.offset < block.index * block_size sup + suc entry.at)
                (λ n before same. let one = before same in omega (arith, one)) state.level.walks.rest front)
                (λ same. omega arith));
            rise = state.rise.2;
            among = All-tail (Contains (leading_entries entries)) entry left state.among;
          })

      entry_stops : (e : Refusal) → StopsAt image (entry_name sup directory block) (InBlock block entries) e → IsWrongIn image sup volume e
      entry_stops e stops =
          entry_refused image sup volume root depth directory block stops.item (entry_is stops.item stops.rest stops.state stops.holds) walked stops.state stops.holds.level.walks
          (in_front stops.item stops.rest stops.state stops.holds) e stops.is

    -- in front of some blocks
    pub record AtBlocks (pieces : List Piece) (left : List Block) (walk : Walk) : Type 0 where
      pub level : IsLevel depth walked start walk.names
      pub first : ℕ
      pub are : AreBlocks sup pieces first left
      pub many : first + length left ≤ block_count sup directory.inode.size
      pub behind : IsBehind image sup volume root directory.number (first * block_size sup) level.walks.rest

    module _ (pieces : List Piece) (places : (index : ℕ) → index < block_count sup directory.inode.size → place_through pieces (index * block_size sup) ≡ byte_place image sup (content_stream sup directory.inode) (index * block_size sup)) where
      pub block_there : (block : Block) (left : List Block) (walk : Walk) → AtBlocks pieces (block ∷ left) walk → HasBlock image sup directory.inode block.index block.at
      block_there block left walk state =
          let many = state.many in
          let below : state.first < block_count sup directory.inode.size = omega (arith, many) in
          let P : ℕ → Type 0 = λ index. HasBlock image sup directory.inode index block.at in
          subst P (sym state.are.0) (record { below = below; there = sym (places state.first below) ∙ state.are.1 })

      pub in_block : (block : Block) (left : List Block) (walk : Walk) (entries : List Entry) → AtBlocks pieces (block ∷ left) walk
          → entries_of sup.order (block_bytes image sup directory.inode block.index block.at) ≡ Ok entries → InBlock block entries (leading_entries entries) walk
      in_block block left walk entries state read = record {
        level = state.level;
        bound = 0;
        fits = omega arith;
        behind =
            let index = state.are.0 in
            let same : state.first * block_size sup ≡ block.index * block_size sup + 0 = ap (λ n. n * block_size sup) (sym index) ∙ plus_none (block.index * block_size sup) in
            let P : ℕ → Type 0 = λ offset. IsBehind image sup volume root directory.number offset state.level.walks.rest in
            subst P same state.behind;
        rise = wider (length (block_bytes image sup directory.inode block.index block.at)) (block_size sup) 0 (leading_entries entries) (block_fits image sup sound directory.inode block.index block.at)
            (leading_rise sup.order (block_bytes image sup directory.inode block.index block.at) entries read);
        among = All-contains_itself (leading_entries entries);
      }
        where
          plus_none : (n : ℕ) → n ≡ n + 0
          plus_none n = omega arith

      pub leading_gives : (at : ℕ) (read : Result (List Entry) ℕ) (leads : List Entry) → leading at read ≡ Ok leads → (entries : List Entry) × (read ≡ Ok entries) × (leading_entries entries ≡ leads)
      leading_gives at (Ok entries) leads is = (entries, refl, same_value {E = Refusal} (leading_entries entries) leads is)
      leading_gives at (Err place) leads is = absurd cc

      leading_refuses : (at : ℕ) (read : Result (List Entry) ℕ) (e : Refusal) → leading at read ≡ Err e → (place : ℕ) × (read ≡ Err place) × (Damaged DirEntry (at + place) ≡ e)
      leading_refuses at (Ok entries) e is = absurd cc
      leading_refuses at (Err place) e is = (place, refl, same_error {X = List Entry} (Damaged DirEntry (at + place)) e is)

      pub block_goes_on : (block : Block) (left : List Block) (walk after : Walk) → AtBlocks pieces (block ∷ left) walk → result_of image (block_names sup directory walk block) ≡ Ok after → AtBlocks pieces left after
      unfolding block_names
      block_goes_on block left walk after state gives =
          let bytes : List ℕ = block_bytes image sup directory.inode block.index block.at in
          let step = given_gives image (leading block.at (entries_of sup.order bytes)) (λ leads. through (entry_name sup directory block) walk leads) after gives in
          let entries = leading_gives block.at (entries_of sup.order bytes) step.0 step.1 in
          let G : List Entry → Type 0 = λ leads. result_of image (through (entry_name sup directory block) walk leads) ≡ Ok after in
          let there = block_there block left walk state in
          let end = through_keeps image (entry_name sup directory block) (InBlock block entries.0) (entry_goes_on block entries.0 there entries.1) (leading_entries entries.0) walk after
          (in_block block left walk entries.0 state entries.1) (subst G (sym entries.2) step.2) in
          record {
            level = end.level;
            first = suc state.first;
            are = state.are.2;
            many = let many = state.many in omega (arith, many);
            behind =
                let index = state.are.0 in
                let next : suc state.first * block_size sup ≡ block.index * block_size sup + block_size sup = ap (λ n. suc n * block_size sup) (sym index) ∙ one_more block.index (block_size sup) in
                let fits = end.fits in
                All-weaker (λ (n : Named). n.directory ≡ directory.number → n.offset < block.index * block_size sup + end.bound) (λ n. n.directory ≡ directory.number → n.offset < suc state.first * block_size sup)
                (λ n before same. let one = before same in omega (arith, one, next, fits)) end.level.walks.rest end.behind;
          }
        where
          one_more : (n unit : ℕ) → suc n * unit ≡ n * unit + unit
          one_more n unit = omega arith

      block_stops : HasSoundInode image sup directory.number directory.inode → (e : Refusal) → StopsAt image (block_names sup directory) (AtBlocks pieces) e → IsWrongIn image sup volume e
      unfolding block_names
      block_stops has_inode e stops =
          let block : Block = stops.item in
          let bytes : List ℕ = block_bytes image sup directory.inode block.index block.at in
          let there = block_there block stops.rest stops.state stops.holds in
          ⊎_elim
          (λ bad.
          let place = leading_refuses block.at (entries_of sup.order bytes) e bad in
          subst (IsWrongIn image sup volume) place.2 (BadEntry directory.number block.index block.at place.0 directory.inode has_inode good there place.1))
          (λ read.
          let entries = leading_gives block.at (entries_of sup.order bytes) read.0 read.1 in
          let G : List Entry → Type 0 = λ leads. result_of image (through (entry_name sup directory block) stops.state leads) ≡ Err e in
          entry_stops block entries.0 there entries.1 e
          (through_stops_at image (entry_name sup directory block) (InBlock block entries.0) (entry_goes_on block entries.0 there entries.1) (leading_entries entries.0) stops.state e
          (in_block block stops.rest stops.state entries.0 stops.holds entries.1) (subst G (sym entries.2) read.2)))
          (given_refuses image (leading block.at (entries_of sup.order bytes)) (λ leads. through (entry_name sup directory block) stops.state leads) e stops.is)

  -- ---- over the directories of a depth

  -- in front of some directories
  pub record AtDirectories (depth : ℕ) (start : List Named) (left : List Named) (walk : Walk) : Type 0 where
    pub walked : List ℕ
    pub level : IsLevel depth walked start walk.names
    pub known : (n : ℕ) → Contains walked n → IsKnown n start
    pub fresh : AreFresh walked left
    pub found : All (IsFound image sup volume root depth) left
    pub are : All (λ name. names_directory name ≡ true) left
    pub in_start : All (Contains start) left

  -- of which the runs were counted
  record AreCounted (depth : ℕ) (start : List Named) (left : List Named) (walk : Walk) : Type 0 where
    at : AtDirectories depth start left walk
    counted : AreWalked image sup at.walked walk.runs
    few : walk.runs ≤ most_runs

  -- names in a directory's blocks leave the runs as they are
  entry_keeps : (directory : Named) (block : Block) → Walks image (entry_name sup directory block) (λ walk. Unit {0}) (λ walk after. walk.runs ≡ after.runs) (λ entry walk. Unit {0})
  entry_keeps directory block = record {
    same = λ walk. refl;
    more = λ walk next after first second. first ∙ second;
    stays = λ entry walk after same holds. tt;
    steps = λ entry walk after holds gives. (tt, ap (λ w. w.runs) (entry_gives image sup directory block walk entry after gives).counted.is, tt);
  }

  block_keeps : (directory : Named) → Walks image (block_names sup directory) (λ walk. Unit {0}) (λ walk after. walk.runs ≡ after.runs) (λ block walk. Unit {0})
  unfolding block_names
  block_keeps directory = record {
    same = λ walk. refl;
    more = λ walk next after first second. first ∙ second;
    stays = λ block walk after same holds. tt;
    steps = λ block walk after holds gives.
        let step = given_gives image (leading block.at (entries_of sup.order (block_bytes image sup directory.inode block.index block.at))) (λ leads. through (entry_name sup directory block) walk leads) after gives in
        let kept = through_walks image (entry_name sup directory block) (λ w. Unit {0}) (λ w next. w.runs ≡ next.runs) (λ entry w. Unit {0}) (entry_keeps directory block) step.0 walk after tt step.2 in
        (tt, kept.1, tt);
  }

  pub sound_inode_of : (depth : ℕ) (name : Named) → IsFound image sup volume root depth name → HasSoundInode image sup name.number name.inode
  sound_inode_of depth name found =
      let named = named_gives image sup volume name.number found.place name.inode found.read in
      record {
        has = record { place = found.place; depth = depth; path = name.path; reached = found.reached; inside = named.0; is = (named_is image sup volume name.number found.place name.inode found.read).is };
        read = named.1;
      }

  module _ (depth : ℕ) (start : List Named) (directory : Named) (left : List Named) (walk : Walk) (state : AtDirectories depth start (directory ∷ left) walk) where
    pub of : IsFound image sup volume root depth directory
    of = All-head (IsFound image sup volume root depth) directory left state.found

    pub is_one : is_directory directory.inode ≡ true
    is_one = All-head (λ (name : Named). names_directory name ≡ true) directory left state.are

    pub at_blocks : (laid : Laid) (blocks : List Block) (good : IsGoodDirectory image sup directory.inode) → directory_blocks sup directory.inode laid.pieces ≡ Ok blocks
        → AtBlocks depth directory of good (directory.number ∷ state.walked) (in_head directory.number state.walked) start laid.pieces blocks (with_runs walk (runs_of laid))
    at_blocks laid blocks good are =
        let all = blocks_are sup directory.inode laid.pieces blocks are in
        let many = all.1 in
        let walks = state.level.walks in
        record {
          level = record {
            walks = record {
              rest = walks.rest;
              whole = walks.whole;
              given = walks.given;
              apart = walks.apart;
              once = walks.once;
              from = All-weaker (λ (name : Named). Contains state.walked name.directory) (λ name. Contains (directory.number ∷ state.walked) name.directory) (λ name has. in_tail directory.number name.directory state.walked has) walks.rest walks.from;
            };
            more = state.level.more;
            grown = state.level.grown;
            found = state.level.found;
          };
          first = 0;
          are = all.0;
          many = omega (arith, many);
          behind =
              All-weaker (λ (name : Named). Contains state.walked name.directory) (λ name. name.directory ≡ directory.number → name.offset < 0 * block_size sup)
              (λ name has same. let P : ℕ → Type 0 = λ n. Contains state.walked n in absurd (state.fresh.0 (subst P same has)))
              walks.rest walks.from;
        }

    pub directory_goes_on : (after : Walk) → result_of image (directory_names sup walk directory) ≡ Ok after → AtDirectories depth start left after
    unfolding directory_names
    directory_goes_on after gives =
        let inode : Inode = directory.inode in
        let whole = check_gives image (inode.size % 512 == 0) (Damaged DirSize (size_place sup inode)) _ after gives in
        let laid = bind_gives image (stream_blocks sup (content_stream sup inode) walk.runs) (λ laid. given (directory_blocks sup inode laid.pieces) >>= (λ blocks. through (block_names sup directory) (with_runs walk (runs_of laid)) blocks)) after whole.1 in
        let blocks = given_gives image (directory_blocks sup inode laid.0.pieces) (λ blocks. through (block_names sup directory) (with_runs walk (runs_of laid.0)) blocks) after laid.2 in
        let has = sound_inode_of depth directory of in
        let good = good_of image sup sound directory.number inode walk.runs laid.0 blocks.0 has.read is_one ((Decides-eqb (inode.size % 512) 0).0 whole.0) laid.1 blocks.1 in
        let end = through_keeps image (block_names sup directory) (AtBlocks depth directory of good (directory.number ∷ state.walked) (in_head directory.number state.walked) start laid.0.pieces)
        (block_goes_on depth directory of good (directory.number ∷ state.walked) (in_head directory.number state.walked) start laid.0.pieces (pieces_place image sup sound directory.number inode walk.runs laid.0 has.read laid.1))
        blocks.0 (with_runs walk (runs_of laid.0)) after (at_blocks laid.0 blocks.0 good blocks.1) blocks.2 in
        record {
          walked = directory.number ∷ state.walked;
          level = end.level;
          known = λ n among.
              ⊎_elim
              (λ same. record { name = directory; among = All-head (Contains start) directory left state.in_start; is = same })
              (λ before. state.known n before)
              (in_cases directory.number n state.walked among);
          fresh = state.fresh.1;
          found = All-tail (IsFound image sup volume root depth) directory left state.found;
          are = All-tail (λ (name : Named). names_directory name ≡ true) directory left state.are;
          in_start = All-tail (Contains start) directory left state.in_start;
        }

  -- with the runs of a directory
  module _ (depth : ℕ) (start : List Named) (directory : Named) (left : List Named) (walk : Walk) (state : AreCounted depth start (directory ∷ left) walk) where
    has_inode : HasSoundInode image sup directory.number directory.inode
    has_inode = sound_inode_of depth directory (of depth start directory left walk state.at)

    directory_is : is_directory directory.inode ≡ true
    directory_is = is_one depth start directory left walk state.at

    content_laid : HasShape (content_stream sup directory.inode) × IsLaidOut image sup (content_stream sup directory.inode)
    content_laid = part_laid image sup directory.number directory.inode (content_section sup directory.inode) sound has_inode.read (directory_content sup directory.inode directory_is)

    walked_with : AreWalked image sup (directory.number ∷ state.at.walked) (walk.runs + length (stream_starts image sup (content_stream sup directory.inode)))
    walked_with = walked_more image sup state.at.walked walk.runs directory.number directory.inode state.counted state.at.fresh.0 has_inode directory_is

    counted_goes_on : (after : Walk) → result_of image (directory_names sup walk directory) ≡ Ok after → AreCounted depth start left after
    unfolding directory_names directory_goes_on
    counted_goes_on after gives =
        let inode : Inode = directory.inode in
        let whole = check_gives image (inode.size % 512 == 0) (Damaged DirSize (size_place sup inode)) _ after gives in
        let laid = bind_gives image (stream_blocks sup (content_stream sup inode) walk.runs) (λ laid. given (directory_blocks sup inode laid.pieces) >>= (λ blocks. through (block_names sup directory) (with_runs walk (runs_of laid)) blocks)) after whole.1 in
        let blocks = given_gives image (directory_blocks sup inode laid.0.pieces) (λ blocks. through (block_names sup directory) (with_runs walk (runs_of laid.0)) blocks) after laid.2 in
        let kept = (through_walks image (block_names sup directory) (λ w. Unit {0}) (λ w next. w.runs ≡ next.runs) (λ block w. Unit {0}) (block_keeps directory) blocks.0 (with_runs walk (runs_of laid.0)) after tt blocks.2).1 in
        let counted = stream_counted image sup (content_stream sup inode) pointers content_laid.0 walk.runs state.few laid.0 laid.1 (content_laid.1 walk.runs laid.0 laid.1).0 in
        let few = counted.1 in
        record {
          at = directory_goes_on depth start directory left walk state.at after gives;
          counted = subst (AreWalked image sup (directory.number ∷ state.at.walked)) (sym counted.0 ∙ kept) walked_with;
          few = omega (arith, few, kept);
        }

    stream_wrong : (e : Refusal) → StopsStream image sup (content_stream sup directory.inode) (walk.runs + length (stream_starts image sup (content_stream sup directory.inode))) e → IsWrongIn image sup volume e
    stream_wrong e (AtPointer place bad) = BadPointer directory.number directory.inode (content_section sup directory.inode) place has_inode (directory_content sup directory.inode directory_is) bad
    stream_wrong e (AtRuns many) =
        many_directories image sup pointers volume (directory.number ∷ state.at.walked) (walk.runs + length (stream_starts image sup (content_stream sup directory.inode))) walked_with many

    directory_stops : (e : Refusal) → result_of image (directory_names sup walk directory) ≡ Err e → IsWrongIn image sup volume e
    unfolding directory_names
    directory_stops e is =
        let inode : Inode = directory.inode in
        let has = has_inode in
        let found = of depth start directory left walk state.at in
        let rest : Laid → Ask Refusal Walk = λ laid. given (directory_blocks sup inode laid.pieces) >>= (λ blocks. through (block_names sup directory) (with_runs walk (runs_of laid)) blocks) in
        ⊎_elim
        (λ odd. subst (IsWrongIn image sup volume) odd.1 (OtherSize directory.number inode has directory_is (λ same. both_ways (inode.size % 512 == 0) ((Decides-eqb (inode.size % 512) 0).1 same) odd.0)))
        (λ whole. ⊎_elim
        (λ unlaid. stream_wrong e (stream_stops image sup (content_stream sup inode) pointers content_laid.0 walk.runs state.few e unlaid))
        (λ laid. ⊎_elim
        (λ no_blocks.
        let hole = hole_of sup inode laid.0.pieces e no_blocks in
        subst (IsWrongIn image sup volume) hole.3
        (InHole directory.number inode has directory_is (stream_sound image sup (content_stream sup inode) pointers walk.runs laid.0 laid.1)
        (record { index = hole.0; below = hole.1; none = sym (pieces_place image sup sound directory.number inode walk.runs laid.0 has.read laid.1 hole.0 hole.1) ∙ hole.2 })))
        (λ blocks.
        let good = good_of image sup sound directory.number inode walk.runs laid.0 blocks.0 has.read directory_is ((Decides-eqb (inode.size % 512) 0).0 whole.0) laid.1 blocks.1 in
        let places = pieces_place image sup sound directory.number inode walk.runs laid.0 has.read laid.1 in
        block_stops depth directory found good (directory.number ∷ state.at.walked) (in_head directory.number state.at.walked) start laid.0.pieces places has e
        (through_stops_at image (block_names sup directory) (AtBlocks depth directory found good (directory.number ∷ state.at.walked) (in_head directory.number state.at.walked) start laid.0.pieces)
        (block_goes_on depth directory found good (directory.number ∷ state.at.walked) (in_head directory.number state.at.walked) start laid.0.pieces places)
        blocks.0 (with_runs walk (runs_of laid.0)) e (at_blocks depth start directory left walk state.at laid.0 blocks.0 good blocks.1) blocks.2))
        (given_refuses image (directory_blocks sup inode laid.0.pieces) (λ blocks. through (block_names sup directory) (with_runs walk (runs_of laid.0)) blocks) e laid.2))
        (bind_refuses image (stream_blocks sup (content_stream sup inode) walk.runs) rest e whole.1))
        (check_refuses image (inode.size % 512 == 0) (Damaged DirSize (size_place sup inode)) (λ x. stream_blocks sup (content_stream sup inode) walk.runs >>= rest) e is)

  -- ---- depth by depth

  -- a name that is reached at some depth
  abbrev pub IsSomewhere : Named → Type 0
  IsSomewhere name = (depth : ℕ) × IsFound image sup volume root depth name

  -- in front of the directories of a depth
  pub record IsAtDepth (depth : ℕ) (names directories : List Named) : Type 0 where
    pub walked : List ℕ
    pub walks : IsWalk image sup volume root walked names
    pub known : (n : ℕ) → Contains walked n → IsKnown n names
    pub fresh : AreFresh walked directories
    pub found : All (IsFound image sup volume root depth) directories
    pub are : All (λ name. names_directory name ≡ true) directories
    pub in_names : All (Contains names) directories
    pub all : All IsSomewhere names

  pub at_directories : (depth : ℕ) (walk : Walk) (directories : List Named) → IsAtDepth depth walk.names directories → AtDirectories depth walk.names directories walk
  at_directories depth walk directories state = record {
    walked = state.walked;
    level = record { walks = state.walks; more = []; grown = sym (append-nil walk.names); found = All-nil (IsFound image sup volume root (suc depth)) };
    known = state.known;
    fresh = state.fresh;
    found = state.found;
    are = state.are;
    in_start = state.in_names;
  }

  deeper : (depth : ℕ) (walk after : Walk) → All IsSomewhere walk.names → AtDirectories depth walk.names [] after → IsAtDepth (suc depth) after.names (directories_behind (length walk.names) after.names)
  deeper depth walk after all state =
      let level = state.level in
      let more : List Named = level.more in
      let behind : directories_behind (length walk.names) after.names ≡ filter names_directory more =
      ap (λ names. filter names_directory (drop (length walk.names) names)) level.grown ∙ ap (filter names_directory) (dropped walk.names more) in
      let P : List Named → Type 0 = λ names. AreOnce (λ n. ⊥) names in
      let once : AreOnce (λ n. ⊥ ⊎ IsKnown n walk.names) more = once_behind (λ n. ⊥) walk.names more (subst P level.grown level.walks.once) in
      let K : List Named → Type 0 = λ directories. AreFresh state.walked directories × All (IsFound image sup volume root (suc depth)) directories × All (λ name. names_directory name ≡ true) directories × All (Contains after.names) directories in
      let N : List Named → Type 0 = λ names. All (Contains names) (filter names_directory more) in
      let in_more : All (Contains (walk.names ++ more)) more = All-weaker (Contains more) (Contains (walk.names ++ more)) (λ name has. Contains-append_right walk.names more name has) more (All-contains_itself more) in
      let ahead = subst K (sym behind) (
        fresh_of (λ n. ⊥ ⊎ IsKnown n walk.names) state.walked more once (λ n has. inr (state.known n has)),
        All-filter names_directory (IsFound image sup volume root (suc depth)) more level.found,
        filter_passes names_directory more,
        subst N (sym level.grown) (All-filter names_directory (Contains (walk.names ++ more)) more in_more),
      ) in
      record {
        walked = state.walked;
        walks = level.walks;
        known = λ n has. let M : List Named → Type 0 = λ names. IsKnown n names in subst M (sym level.grown) (known_more n walk.names more (state.known n has));
        fresh = ahead.0;
        found = ahead.1;
        are = ahead.2;
        in_names = ahead.3;
        all =
            let S : List Named → Type 0 = λ names. All IsSomewhere names in
            subst S (sym level.grown) (All-append IsSomewhere walk.names more all (All-weaker (IsFound image sup volume root (suc depth)) IsSomewhere (λ name found. (suc depth, found)) more level.found));
      }

  pub depth_goes_on : (depth : ℕ) (walk after : Walk) (directories : List Named) → IsAtDepth depth walk.names directories → result_of image (through (directory_names sup) walk directories) ≡ Ok after
      → IsAtDepth (suc depth) after.names (directories_behind (length walk.names) after.names)
  depth_goes_on depth walk after directories state gives =
      deeper depth walk after state.all
      (through_keeps image (directory_names sup) (AtDirectories depth walk.names) (λ directory left w next at is. directory_goes_on depth walk.names directory left w at next is) directories walk after (at_directories depth walk directories state) gives)

  -- in front of the directories of a depth, with the runs so far
  record IsCountedAt (depth : ℕ) (walk : Walk) (directories : List Named) : Type 0 where
    at : IsAtDepth depth walk.names directories
    counted : AreWalked image sup at.walked walk.runs
    few : walk.runs ≤ most_runs

  counted_directories : (depth : ℕ) (walk : Walk) (directories : List Named) → IsCountedAt depth walk directories → AreCounted depth walk.names directories walk
  unfolding at_directories
  counted_directories depth walk directories state = record { at = at_directories depth walk directories state.at; counted = state.counted; few = state.few }

  counted_deeper : (depth : ℕ) (walk after : Walk) (directories : List Named) → IsCountedAt depth walk directories → result_of image (through (directory_names sup) walk directories) ≡ Ok after
      → IsCountedAt (suc depth) after (directories_behind (length walk.names) after.names)
  unfolding deeper
  counted_deeper depth walk after directories state gives =
      let end = through_keeps image (directory_names sup) (AreCounted depth walk.names) (λ directory left w next here is. counted_goes_on depth walk.names directory left w here next is) directories walk after
      (counted_directories depth walk directories state) gives in
      record { at = deeper depth walk after state.at.all end.at; counted = end.counted; few = end.few }

  below_stops : (depths depth : ℕ) (walk : Walk) (directories : List Named) (e : Refusal) → depth + depths ≡ suc deepest → IsCountedAt depth walk directories
      → result_of image (names_below depths sup walk directories) ≡ Err e → IsWrongIn image sup volume e
  unfolding names_below
  below_stops depths depth walk [] e total state is = absurd cc
  below_stops zero depth walk (directory ∷ directories) e total state is =
      let found = All-head (IsFound image sup volume root depth) directory directories state.at.found in
      let same = (named_is image sup volume directory.number found.place directory.inode found.read).is in
      let P : Inode → Type 0 = λ inode. is_directory inode ≡ true in
      subst (IsWrongIn image sup volume) (same_error {X = Walk} (Limit Depth deepest) e is)
      (Deep directory.number found.place depth directory.path found.reached (subst P (sym same) (All-head (λ (name : Named). names_directory name ≡ true) directory directories state.at.are)) (omega (arith, total)))
  below_stops (suc depths) depth walk (directory ∷ directories) e total state is =
      ⊎_elim
      (λ here.
      let stops = through_stops_at image (directory_names sup) (AreCounted depth walk.names) (λ one left w next at gives. counted_goes_on depth walk.names one left w at next gives) (directory ∷ directories) walk e
      (counted_directories depth walk (directory ∷ directories) state) here in
      directory_stops depth walk.names stops.item stops.rest stops.state stops.holds e stops.is)
      (λ later.
      below_stops depths (suc depth) later.0 (directories_behind (length walk.names) later.0.names) e (omega (arith, total)) (counted_deeper depth walk later.0 (directory ∷ directories) state later.1) later.2)
      (bind_refuses image (through (directory_names sup) walk (directory ∷ directories)) (λ after. names_below depths sup after (directories_behind (length walk.names) after.names)) e is)

  -- where the walk ends, it has names of all depths
  below_gives : (depths depth : ℕ) (walk after : Walk) (directories : List Named) → IsAtDepth depth walk.names directories → result_of image (names_below depths sup walk directories) ≡ Ok after
      → (last : ℕ) × IsAtDepth last after.names []
  unfolding names_below
  below_gives depths depth walk after [] state gives = let P : Walk → Type 0 = λ w. (last : ℕ) × IsAtDepth last w.names [] in subst P (same_value {E = Refusal} walk after gives) (depth, state)
  below_gives zero depth walk after (directory ∷ directories) state gives = absurd cc
  below_gives (suc depths) depth walk after (directory ∷ directories) state gives =
      let step = bind_gives image (through (directory_names sup) walk (directory ∷ directories)) (λ next. names_below depths sup next (directories_behind (length walk.names) next.names)) after gives in
      below_gives depths (suc depth) step.0 after (directories_behind (length walk.names) step.0.names) (depth_goes_on depth walk step.0 (directory ∷ directories) state step.1) step.2

  -- in front of the root
  pub at_root : result_of image (inode_named sup 2 (super_place sup)) ≡ Ok root → is_directory root ≡ true → IsAtDepth 0 (root_name root ∷ []) (root_name root ∷ [])
  at_root read is =
      let found : IsFound image sup volume root 0 (root_name root) = record { place = super_place sup; reached = Root; read = read } in
      record {
        walked = [];
        walks = record {
          rest = [];
          whole = refl;
          given = All-nil (IsGivenBySome image sup volume root);
          apart = λ i j d before inside. absurd (omega (arith, inside));
          once = ((λ one never. never), tt);
          from = All-nil (λ (name : Named). Contains [] name.directory);
        };
        known = λ n has. absurd (in_none n has);
        fresh = ((λ has. in_none 2 has), tt);
        found = All-cons (IsFound image sup volume root 0) (root_name root) [] found (All-nil (IsFound image sup volume root 0));
        are = All-cons (λ (name : Named). names_directory name ≡ true) (root_name root) [] is (All-nil (λ (name : Named). names_directory name ≡ true));
        in_names = All-cons (Contains (root_name root ∷ [])) (root_name root) [] (in_head (root_name root) []) (All-nil (Contains (root_name root ∷ [])));
        all = All-cons IsSomewhere (root_name root) [] (0, found) (All-nil IsSomewhere);
      }

  counted_root : result_of image (inode_named sup 2 (super_place sup)) ≡ Ok root → is_directory root ≡ true → IsCountedAt 0 (record { names = root_name root ∷ []; runs = 0 }) (root_name root ∷ [])
  unfolding at_root
  counted_root read is = record { at = at_root read is; counted = none_walked image sup; few = omega arith }

-- ---- the names of a volume

-- the root of a volume is read, and is a directory
pub record HasRoot (image : List ℕ) (sup : Super) (root : Inode) : Type 0 where
  pub read : result_of image (inode_named sup 2 (super_place sup)) ≡ Ok root
  pub directory : is_directory root ≡ true

module _ (image : List ℕ) (sup : Super) (volume : ℕ) (sound : wrong_field sup ≡ None) where
  pub root_gives : (root : Inode) → result_of image (root_inode sup) ≡ Ok root → HasRoot image sup root
  unfolding root_inode
  root_gives root gives =
      let read = bind_gives image (inode_named sup 2 (super_place sup)) (λ inode. check (is_directory inode) (Damaged RootKind inode.at) >>= (λ x. Done inode)) root gives in
      let is = check_gives image (is_directory read.0) (Damaged RootKind read.0.at) (λ x. Done read.0) root read.2 in
      let P : Inode → Type 0 = λ inode. HasRoot image sup inode in
      subst P (same_value {E = Refusal} read.0 root is.1) (record { read = read.1; directory = is.0 })

  root_stops : (e : Refusal) → result_of image (root_inode sup) ≡ Err e → IsWrongIn image sup volume e
  unfolding root_inode
  root_stops e is =
      ⊎_elim
      (λ unread. named_refused image sup volume 2 (super_place sup) 0 (47 ∷ []) e Root unread)
      (λ read. ⊎_elim
      (λ file.
      let named = named_gives image sup volume 2 (super_place sup) read.0 read.1 in
      subst (IsWrongIn image sup volume) file.1
      (NoDirectory read.0 (record { place = super_place sup; depth = 0; path = 47 ∷ []; reached = Root; inside = named.0; is = (named_is image sup volume 2 (super_place sup) read.0 read.1).is }) file.0))
      (λ directory. absurd (never read.0 directory.1))
      (check_refuses image (is_directory read.0) (Damaged RootKind read.0.at) (λ x. Done read.0) e read.2))
      (bind_refuses image (inode_named sup 2 (super_place sup)) (λ inode. check (is_directory inode) (Damaged RootKind inode.at) >>= (λ x. Done inode)) e is)
    where
      never : (inode : Inode) → (let r : Result Inode Refusal = Ok inode in r ≡ Err e) → ⊥
      never inode same = absurd cc

  pub names_stop : (e : Refusal) → result_of image (volume_names sup) ≡ Err e → IsWrongIn image sup volume e
  unfolding volume_names
  names_stop e is =
      ⊎_elim
      (λ no_root. root_stops e no_root)
      (λ root.
      let has = root_gives root.0 root.1 in
      let walk : Walk = record { names = root_name root.0 ∷ []; runs = 0 } in
      below_stops image sup volume root.0 sound (suc deepest) 0 walk (root_name root.0 ∷ []) e (omega arith) (counted_root image sup volume root.0 sound has.read has.directory) root.2)
      (bind_refuses image (root_inode sup) (names_from sup) e is)

  -- the names that a walk found
  pub record HasNames (walk : Walk) : Type 0 where
    pub root : Inode
    pub has : HasRoot image sup root
    pub depth : ℕ
    pub at : IsAtDepth image sup volume root sound depth walk.names []

  pub names_give : (walk : Walk) → result_of image (volume_names sup) ≡ Ok walk → HasNames walk
  unfolding volume_names
  names_give walk gives =
      let root = bind_gives image (root_inode sup) (names_from sup) walk gives in
      let has = root_gives root.0 root.1 in
      let start : Walk = record { names = root_name root.0 ∷ []; runs = 0 } in
      let end = below_gives image sup volume root.0 sound (suc deepest) 0 start walk (root_name root.0 ∷ []) (at_root image sup volume root.0 sound has.read has.directory) root.2 in
      record { root = root.0; has = has; depth = end.0; at = end.1 }
