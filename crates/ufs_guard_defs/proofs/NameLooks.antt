-- A walk over the directories looks at inodes that are reached, at the content of directories, and at blocks of pointers.
use Rattle.std.specs.Prelude.{◌≡◌, ℕ, zero, suc, ◌+◌, ◌%◌, ◌==◌, ◌&&◌, pos, Bool, not, nat_le, None, Ok, List, [], ◌∷◌, length, refl}
use Rattle.std.specs.List.{Contains}
use Rattle.std.proofs.Common.{sym, ◌∙◌, subst}
use Rattle.std.proofs.lemmas.Bool.Decides.{Decides-eqb}
use Rattle.range_defs.specs.declared.Range.{Range}
use Rattle.image_defs.specs.Ask.{Ask, Done, Stop, result_of, check, given, ◌>>=◌}
use Rattle.image_defs.specs.Through.{through}
use Rattle.image_defs.specs.Looks.{LooksAt}
use Rattle.image_defs.proofs.Looks.{looks_nowhere, looks_done, looks_bind, looks_check, looks_look, looks_given}
use Rattle.image_defs.proofs.Results.{visits_check, result_given}
use Rattle.fault_defs.specs.declared.Refusal.{Refusal}
use Rattle.fault_defs.specs.declared.Refusal.TheVariants.{Damaged, Unsupported, Limit}
use Rattle.fault_defs.specs.declared.Sort.TheVariants.{InodeNumber, DeadInode, FileSize, DirSize, DirTwice, RootKind}
use Rattle.fault_defs.specs.declared.What.TheVariants.{Snapshot}
use Rattle.fault_defs.specs.declared.Bound.TheVariants.{Names, PathBytes, Path, Depth}
use Rattle.ufs_inode_defs.specs.Layout.{layout_of}
use Rattle.ufs_inode_defs.specs.Superblock.{block_size, wrong_field, super_place, inode_place, has_inode}
use Rattle.ufs_inode_defs.specs.Inode.{stored_inode, inode_of, is_directory, is_snapshot, is_too_long, is_ext_too_long, size_place, ext_size_place, flags_place, sound_inode, tested_inode, inode_at, inode_named}
use Rattle.ufs_inode_defs.specs.Stream.{Pointer, content_stream, content_len}
use Rattle.ufs_inode_defs.specs.Blocks.{Laid, runs_of, fragment_place, stream_blocks}
use Rattle.ufs_inode_defs.specs.declared.superblock.Super.{Super}
use Rattle.ufs_inode_defs.specs.declared.inode.Inode.{Inode}
use Rattle.ufs_inode_defs.proofs.SoundSuper.{is_sound, has_pointers}
use Rattle.ufs_volume_defs.specs.Directory.{Entry, entries_of, leading_entries}
use Rattle.ufs_volume_defs.specs.Names.{Named, Walk, with_name, with_runs, path_bytes, is_known, longest_path, most_names, most_path_bytes, deepest, counted_name, Block, name_by, found_name, entry_name, leading, block_names, directory_blocks, directory_names, directories_behind, names_below, root_inode, root_name, names_from, volume_names}
use Rattle.ufs_volume_defs.specs.Files.{Section, sections_of, content_section}
use Rattle.ufs_damage_defs.specs.StreamDamage.{IsUsed}
use Rattle.ufs_damage_defs.specs.Damage.{HasBlock, block_bytes, IsGoodDirectory, IsReached, Root, HasSoundInode}
use Rattle.ufs_damage_defs.proofs.NameFacts.{in_head}
use Rattle.ufs_damage_defs.proofs.NameSteps.{IsFound, IsEntry, reached}
use Rattle.ufs_damage_defs.proofs.Contents.{pieces_place, good_of, directory_content}
use Rattle.ufs_damage_defs.proofs.NameDamage.{InBlock, entry_is, entry_goes_on, AtBlocks, block_there, in_block, leading_gives, block_goes_on, AtDirectories, sound_inode_of, of, is_one, at_blocks, directory_goes_on, IsAtDepth, at_directories, depth_goes_on, at_root, root_gives}
use Rattle.ufs_guard_defs.proofs.StreamLooks.{stream_looks}

-- a walk over items looks where its steps do
pub looks_through : {E X S : Type 0} (Q : Range → Type 0) (image : List ℕ) (step : S → X → Ask E S) (P : List X → S → Type 0)
    → ((x : X) (rest : List X) (s after : S) → P (x ∷ rest) s → result_of image (step s x) ≡ Ok after → P rest after)
    → ((x : X) (rest : List X) (s : S) → P (x ∷ rest) s → LooksAt Q image (step s x)) → (items : List X) (start : S) → P items start → LooksAt Q image (through step start items)
looks_through Q image step P keeps looks [] start holds = looks_done Q image start
looks_through Q image step P keeps looks (x ∷ items) start holds =
    looks_bind Q image (step start x) (λ after. through step after items) (looks x items start holds)
    (λ after gives. looks_through Q image step P keeps looks items after (keeps x items start after holds gives))

-- a check alone looks nowhere
check_looks : {E : Type 0} (Q : Range → Type 0) (image : List ℕ) (test : Bool) (fault : E) → LooksAt Q image (check test fault)
check_looks Q image test fault = looks_nowhere Q image (check test fault) (visits_check image test fault)

-- where a program may look: at inodes that are reached, at blocks of directories, and at blocks of pointers
pub record MayLook (image : List ℕ) (sup : Super) (Q : Range → Type 0) : Type 0 where
  pub at_inode : (number place depth : ℕ) (path : List ℕ) → IsReached image sup number place depth path → Q (record { at = inode_place sup number; len = (layout_of sup.version).inode_len })
  pub at_block : (number index at : ℕ) (inode : Inode) → HasSoundInode image sup number inode → IsGoodDirectory image sup inode → HasBlock image sup inode index at
      → Q (record { at = at; len = content_len sup inode.size index })
  pub at_pointers : (number level first fragment : ℕ) (inode : Inode) (section : Section) (pointer : Pointer) → HasSoundInode image sup number inode → Contains (sections_of sup inode) section
      → IsUsed image sup section.stream (suc level) first pointer → pointer.value ≡ pos (suc fragment) → Q (record { at = fragment_place sup (suc fragment); len = block_size sup })

module _ (image : List ℕ) (sup : Super) (volume : ℕ) (sound : wrong_field sup ≡ None) (Q : Range → Type 0) (may : MayLook image sup Q) where
  sound_looks : (inode : Inode) → LooksAt Q image (sound_inode sup inode)
  unfolding sound_inode
  sound_looks inode =
      looks_check Q image (not (inode.mode == 0)) (Damaged DeadInode inode.at) _
      (λ alive. looks_check Q image (not (is_snapshot inode)) (Unsupported Snapshot (flags_place sup inode)) _
      (λ supported. looks_check Q image (not (is_too_long sup inode)) (Damaged FileSize (size_place sup inode)) _
      (λ short. check_looks Q image (not (is_ext_too_long sup inode)) (Damaged FileSize (ext_size_place inode)))))

  pub inode_looks : (number place depth : ℕ) (path : List ℕ) → IsReached image sup number place depth path → LooksAt Q image (inode_at sup number)
  unfolding inode_at
  inode_looks number place depth path reaches =
      looks_look Q image (inode_place sup number) ((layout_of sup.version).inode_len) (λ bytes. tested_inode sup (inode_of sup (inode_place sup number) bytes)) (may.at_inode number place depth path reaches)
      (looks_bind Q image (sound_inode sup (stored_inode image sup number)) (λ done. Done (stored_inode image sup number)) (sound_looks (stored_inode image sup number)) (λ done is. looks_done Q image (stored_inode image sup number)))

  named_looks : (number place depth : ℕ) (path : List ℕ) → IsReached image sup number place depth path → LooksAt Q image (inode_named sup number place)
  unfolding inode_named
  named_looks number place depth path reaches = looks_check Q image (has_inode sup number) (Damaged InodeNumber place) (λ inside. inode_at sup number) (λ inside. inode_looks number place depth path reaches)

  counted_looks : (walk : Walk) (name : Named) → LooksAt Q image (counted_name walk name)
  unfolding counted_name
  counted_looks walk name =
      looks_check Q image (nat_le (length name.path) longest_path) (Limit Path longest_path) _
      (λ short. looks_check Q image (nat_le (length walk.names + 1) most_names) (Limit Names most_names) _
      (λ few. looks_check Q image (nat_le (path_bytes walk.names + length name.path) most_path_bytes) (Limit PathBytes most_path_bytes) _ (λ brief. looks_done Q image (with_name walk name))))

  module _ (root : Inode) where
    entry_looks : (depth : ℕ) (directory : Named) (block : Block) (entry : Entry) (walk : Walk) → IsEntry image sup volume root depth directory block entry → LooksAt Q image (entry_name sup directory block walk entry)
    unfolding entry_name
    entry_looks depth directory block entry walk is =
        looks_bind Q image (inode_named sup entry.inode (block.at + entry.at)) (λ inode. found_name sup directory block walk entry inode)
        (named_looks entry.inode (block.at + entry.at) (suc depth) _ (reached image sup volume root depth directory block entry is))
        (λ inode read. looks_check Q image (not (is_directory inode && is_known entry.inode walk.names)) (Damaged DirTwice (block.at + entry.at)) (λ x. counted_name walk (name_by sup directory block entry inode))
        (λ once. counted_looks walk (name_by sup directory block entry inode)))

    module _ (depth : ℕ) (start : List Named) (directory : Named) (left : List Named) (walk : Walk) (state : AtDirectories image sup volume root sound depth start (directory ∷ left) walk) where
      abbrev found : IsFound image sup volume root depth directory
      found = of image sup volume root sound depth start directory left walk state

      abbrev has : HasSoundInode image sup directory.number directory.inode
      has = sound_inode_of image sup volume root sound depth directory found

      module _ (good : IsGoodDirectory image sup directory.inode) (laid : Laid)
          (gives : result_of image (stream_blocks sup (content_stream sup directory.inode) walk.runs) ≡ Ok laid) where
        abbrev AtBlock : List Block → Walk → Type 0
        AtBlock = AtBlocks image sup volume root sound depth directory found good (directory.number ∷ state.walked) (in_head directory.number state.walked) start laid.pieces

        block_looks : (block : Block) (rest : List Block) (now : Walk) → AtBlock (block ∷ rest) now → LooksAt Q image (block_names sup directory now block)
        unfolding block_names
        block_looks block rest now at =
            let bytes : List ℕ = block_bytes image sup directory.inode block.index block.at in
            let there : HasBlock image sup directory.inode block.index block.at =
            block_there image sup volume root sound depth directory found good (directory.number ∷ state.walked) (in_head directory.number state.walked) start laid.pieces
            (pieces_place image sup sound directory.number directory.inode walk.runs laid has.read gives) block rest now at in
            looks_look Q image block.at (content_len sup directory.inode.size block.index)
            (λ read. given (leading block.at (entries_of sup.order read)) >>= (λ leads. through (entry_name sup directory block) now leads))
            (may.at_block directory.number block.index block.at directory.inode has good there)
            (looks_bind Q image (given (leading block.at (entries_of sup.order bytes))) (λ leads. through (entry_name sup directory block) now leads) (looks_given Q image (leading block.at (entries_of sup.order bytes)))
            (λ leads is.
            let entries = leading_gives image sup volume root sound depth directory found good (directory.number ∷ state.walked) (in_head directory.number state.walked) start laid.pieces
            (pieces_place image sup sound directory.number directory.inode walk.runs laid has.read gives) block.at (entries_of sup.order bytes) leads (sym (result_given image (leading block.at (entries_of sup.order bytes))) ∙ is) in
            let L : List Entry → Type 0 = λ list. LooksAt Q image (through (entry_name sup directory block) now list) in
            subst L entries.2
            (looks_through Q image (entry_name sup directory block)
            (InBlock image sup volume root sound depth directory found good (directory.number ∷ state.walked) (in_head directory.number state.walked) start block entries.0)
            (entry_goes_on image sup volume root sound depth directory found good (directory.number ∷ state.walked) (in_head directory.number state.walked) start block entries.0 there entries.1)
            (λ entry more at_entry holds. entry_looks depth directory block entry at_entry
            (entry_is image sup volume root sound depth directory found good (directory.number ∷ state.walked) (in_head directory.number state.walked) start block entries.0 there entries.1 entry more at_entry holds))
            (leading_entries entries.0) now
            (in_block image sup volume root sound depth directory found good (directory.number ∷ state.walked) (in_head directory.number state.walked) start laid.pieces
            (pieces_place image sup sound directory.number directory.inode walk.runs laid has.read gives) block rest now entries.0 at entries.1))))

        blocks_look : (blocks : List Block) → directory_blocks sup directory.inode laid.pieces ≡ Ok blocks → LooksAt Q image (through (block_names sup directory) (with_runs walk (runs_of laid)) blocks)
        blocks_look blocks are =
            looks_through Q image (block_names sup directory) AtBlock
            (block_goes_on image sup volume root sound depth directory found good (directory.number ∷ state.walked) (in_head directory.number state.walked) start laid.pieces
            (pieces_place image sup sound directory.number directory.inode walk.runs laid has.read gives))
            block_looks blocks (with_runs walk (runs_of laid)) (at_blocks image sup volume root sound depth start directory left walk state laid blocks good are)

      directory_looks : LooksAt Q image (directory_names sup walk directory)
      unfolding directory_names
      directory_looks =
          let inode : Inode = directory.inode in
          let is = is_one image sup volume root sound depth start directory left walk state in
          let rest : Laid → Ask Refusal Walk = λ laid. given (directory_blocks sup inode laid.pieces) >>= (λ blocks. through (block_names sup directory) (with_runs walk (runs_of laid)) blocks) in
          looks_check Q image (inode.size % 512 == 0) (Damaged DirSize (size_place sup inode)) (λ x. stream_blocks sup (content_stream sup inode) walk.runs >>= rest)
          (λ whole. looks_bind Q image (stream_blocks sup (content_stream sup inode) walk.runs) rest
          (stream_looks image sup (content_stream sup inode) (has_pointers sup (is_sound sup sound)) Q
          (λ level first fragment pointer used leads. may.at_pointers directory.number level first fragment inode (content_section sup inode) pointer has (directory_content sup inode is) used leads) walk.runs)
          (λ laid gives. looks_bind Q image (given (directory_blocks sup inode laid.pieces)) (λ blocks. through (block_names sup directory) (with_runs walk (runs_of laid)) blocks)
          (looks_given Q image (directory_blocks sup inode laid.pieces))
          (λ blocks are_given.
          let are = sym (result_given image (directory_blocks sup inode laid.pieces)) ∙ are_given in
          let good = good_of image sup sound directory.number inode walk.runs laid blocks has.read is ((Decides-eqb (inode.size % 512) 0).0 whole) gives are in
          blocks_look good laid gives blocks are)))

    below_looks : (depths depth : ℕ) (walk : Walk) (directories : List Named) → IsAtDepth image sup volume root sound depth walk.names directories → LooksAt Q image (names_below depths sup walk directories)
    unfolding names_below
    below_looks depths depth walk [] state = looks_done Q image walk
    below_looks zero depth walk (directory ∷ directories) state = looks_nowhere Q image (Stop (Limit Depth deepest)) refl
    below_looks (suc depths) depth walk (directory ∷ directories) state =
        looks_bind Q image (through (directory_names sup) walk (directory ∷ directories)) (λ after. names_below depths sup after (directories_behind (length walk.names) after.names))
        (looks_through Q image (directory_names sup) (AtDirectories image sup volume root sound depth walk.names)
        (λ one left now next at gives. directory_goes_on image sup volume root sound depth walk.names one left now at next gives)
        (λ one left now at. directory_looks depth walk.names one left now at)
        (directory ∷ directories) walk (at_directories image sup volume root sound depth walk (directory ∷ directories) state))
        (λ after gives. below_looks depths (suc depth) after (directories_behind (length walk.names) after.names) (depth_goes_on image sup volume root sound depth walk after (directory ∷ directories) state gives))

  pub names_look : LooksAt Q image (volume_names sup)
  unfolding volume_names root_inode
  names_look =
      looks_bind Q image (root_inode sup) (names_from sup)
      (looks_bind Q image (inode_named sup 2 (super_place sup)) (λ inode. check (is_directory inode) (Damaged RootKind inode.at) >>= (λ x. Done inode)) (named_looks 2 (super_place sup) 0 (47 ∷ []) Root)
      (λ inode read. looks_check Q image (is_directory inode) (Damaged RootKind inode.at) (λ x. Done inode) (λ is. looks_done Q image inode)))
      (λ root gives.
      let has = root_gives image sup volume sound root gives in
      below_looks root (suc deepest) 0 (record { names = root_name root ∷ []; runs = 0 }) (root_name root ∷ []) (at_root image sup volume root sound has.read has.directory))
