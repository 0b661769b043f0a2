-- Each byte of a volume's guard is looked at.
use Rattle.std.specs.Prelude.{◌≡◌, ◌⊎◌, ℕ, zero, suc, ◌%◌, ◌==◌, pos, true, None, Ok, List, [], ◌∷◌, length, drop, refl}
use Rattle.std.specs.List.{All, Contains, filter}
use Rattle.std.proofs.Common.{ap, sym, ◌∙◌, subst, arith, inl, inr, ⊎_elim}
use Rattle.std.proofs.lemmas.List.Elements.{All-contains, All-weaker, All-append, All-cons, All-nil, All-contains_itself}
use Rattle.range_defs.specs.declared.Range.{Range}
use Rattle.range_defs.specs.Places.{covers}
use Rattle.bytes_defs.specs.Bytes.{part}
use Rattle.image_defs.specs.Ask.{Ask, Done, result_of, given, ◌>>=◌}
use Rattle.image_defs.specs.Through.{through}
use Rattle.image_defs.proofs.Looks.{bind_gives, check_gives, given_gives}
use Rattle.fault_defs.specs.declared.Refusal.{Refusal}
use Rattle.fault_defs.specs.declared.Refusal.TheVariants.{Damaged}
use Rattle.fault_defs.specs.declared.Sort.TheVariants.{DirSize}
use Rattle.ufs_inode_defs.specs.Layout.{layout_of}
use Rattle.ufs_inode_defs.specs.Superblock.{block_size, wrong_field, inode_place}
use Rattle.ufs_inode_defs.specs.Inode.{inode_of, size_place, tested_inode, inode_at}
use Rattle.ufs_inode_defs.specs.Stream.{Pointer, content_stream, content_len}
use Rattle.ufs_inode_defs.specs.Blocks.{Laid, runs_of, fragment_place, stream_blocks}
use Rattle.ufs_inode_defs.specs.declared.superblock.Super.{Super}
use Rattle.ufs_inode_defs.specs.declared.inode.Inode.{Inode}
use Rattle.ufs_inode_defs.proofs.SoundSuper.{is_sound, has_pointers}
use Rattle.ufs_volume_defs.specs.Directory.{entries_of}
use Rattle.ufs_volume_defs.specs.Names.{Named, Walk, with_runs, names_directory, deepest, Block, entry_name, leading, block_names, directory_blocks, directory_names, directories_behind, names_below, root_inode, root_name, names_from, volume_names}
use Rattle.ufs_volume_defs.specs.Files.{Section, sections_of, Parted, with_part, section_part, inode_parts, Filed, with_file, number_file, numbers_of, named_files}
use Rattle.ufs_damage_defs.specs.StreamDamage.{IsUsed}
use Rattle.ufs_damage_defs.specs.Damage.{HasBlock}
use Rattle.ufs_damage_defs.proofs.Walks.{same_value}
use Rattle.ufs_damage_defs.proofs.Seen.{IsWithin, within_first, within_next, within_check, within_given, within_look, IsStepOf, through_steps}
use Rattle.ufs_damage_defs.proofs.StreamStops.{pointers_seen}
use Rattle.ufs_damage_defs.proofs.DirectoryLaws.{blocks_are, block_among}
use Rattle.ufs_damage_defs.proofs.NameFacts.{in_none, in_head, in_filter, dropped}
use Rattle.ufs_damage_defs.proofs.NameSteps.{entry_gives}
use Rattle.ufs_damage_defs.proofs.Contents.{pieces_place}
use Rattle.ufs_damage_defs.proofs.NameClosure.{HasMore, more_same, more_more}
use Rattle.ufs_guard_defs.specs.Guard.{IsIn}

-- ---- the names of a walk grow

module _ (image : List ℕ) (sup : Super) where
  abbrev Grows : {X : Type 0} → (Walk → X → Ask Refusal Walk) → Type 0
  Grows {X} step = (x : X) (walk after : Walk) → result_of image (step walk x) ≡ Ok after → HasMore walk after

  through_grows : {X : Type 0} (step : Walk → X → Ask Refusal Walk) → Grows step → (items : List X) (start end : Walk) → result_of image (through step start items) ≡ Ok end → HasMore start end
  through_grows step grows [] start end gives = let P : Walk → Type 0 = λ w. HasMore start w in subst P (same_value {E = Refusal} start end gives) (more_same start)
  through_grows step grows (x ∷ items) start end gives =
      let first = bind_gives image (step start x) (λ after. through step after items) end gives in
      more_more start first.0 end (grows x start first.0 first.1) (through_grows step grows items first.0 end first.2)

  entry_grows : (directory : Named) (block : Block) → Grows (entry_name sup directory block)
  entry_grows directory block entry walk after gives =
      let entered = entry_gives image sup directory block walk entry after gives in
      let P : Walk → Type 0 = λ w. HasMore walk w in
      subst P entered.counted.is (_ ∷ [], refl)

  block_grows : (directory : Named) → Grows (block_names sup directory)
  unfolding block_names
  block_grows directory block walk after gives =
      let step = given_gives image (leading block.at (entries_of sup.order (part image block.at (content_len sup directory.inode.size block.index)))) (λ leads. through (entry_name sup directory block) walk leads) after gives in
      through_grows (entry_name sup directory block) (entry_grows directory block) step.0 walk after step.2

  directory_grows : Grows (directory_names sup)
  unfolding directory_names
  directory_grows directory walk after gives =
      let inode : Inode = directory.inode in
      let whole = check_gives image (inode.size % 512 == 0) (Damaged DirSize (size_place sup inode)) _ after gives in
      let laid = bind_gives image (stream_blocks sup (content_stream sup inode) walk.runs) (λ laid. given (directory_blocks sup inode laid.pieces) >>= (λ blocks. through (block_names sup directory) (with_runs walk (runs_of laid)) blocks)) after whole.1 in
      let blocks = given_gives image (directory_blocks sup inode laid.0.pieces) (λ blocks. through (block_names sup directory) (with_runs walk (runs_of laid.0)) blocks) after laid.2 in
      through_grows (block_names sup directory) (block_grows directory) blocks.0 (with_runs walk (runs_of laid.0)) after blocks.2

  -- ---- each directory of the names was walked

  module _ (ranges : List Range) where
    abbrev pub WasWalked : Named → Type 0
    WasWalked name = IsStepOf image ranges (directory_names sup) name

    below_walked : (depths : ℕ) (walk after : Walk) (directories : List Named) → All (λ name. names_directory name ≡ true → Contains directories name ⊎ WasWalked name) walk.names
        → result_of image (names_below depths sup walk directories) ≡ Ok after → IsWithin image ranges (names_below depths sup walk directories) → All (λ name. names_directory name ≡ true → WasWalked name) after.names
    unfolding names_below
    below_walked depths walk after [] known gives within =
        let P : Walk → Type 0 = λ w. All (λ name. names_directory name ≡ true → WasWalked name) w.names in
        subst P (same_value {E = Refusal} walk after gives)
        (All-weaker (λ (name : Named). names_directory name ≡ true → Contains [] name ⊎ WasWalked name) (λ name. names_directory name ≡ true → WasWalked name)
        (λ name known_one is. ⊎_elim (λ ahead. absurd (in_none name ahead)) (λ walked. walked) (known_one is)) walk.names known)
    below_walked zero walk after (directory ∷ directories) known gives within = absurd cc
    below_walked (suc depths) walk after (directory ∷ directories) known gives within =
        let dirs : List Named = directory ∷ directories in
        let next : Walk → Ask Refusal Walk = λ w. names_below depths sup w (directories_behind (length walk.names) w.names) in
        let step = bind_gives image (through (directory_names sup) walk dirs) next after gives in
        let walked = through_steps image ranges (directory_names sup) dirs walk step.0 step.1 (within_first image ranges (through (directory_names sup) walk dirs) next step.0 step.1 within) in
        let grown = through_grows (directory_names sup) directory_grows dirs walk step.0 step.1 in
        let more : List Named = grown.0 in
        let ahead : directories_behind (length walk.names) step.0.names ≡ filter names_directory more =
        ap (λ names. filter names_directory (drop (length walk.names) names)) grown.1 ∙ ap (filter names_directory) (dropped walk.names more) in
        let K : Named → Type 0 = λ name. names_directory name ≡ true → Contains (directories_behind (length walk.names) step.0.names) name ⊎ WasWalked name in
        let old : All K walk.names =
        All-weaker (λ (name : Named). names_directory name ≡ true → Contains dirs name ⊎ WasWalked name) K
        (λ name known_one is. ⊎_elim (λ among. inr (All-contains WasWalked dirs name walked among)) (λ was. inr was) (known_one is)) walk.names known in
        let new : All K more =
        All-weaker (Contains more) K
        (λ name among is. let C : List Named → Type 0 = λ list. Contains list name in inl (subst C (sym ahead) (in_filter names_directory name more among is))) more (All-contains_itself more) in
        let A : List Named → Type 0 = λ names. All K names in
        below_walked depths step.0 after (directories_behind (length walk.names) step.0.names) (subst A (sym grown.1) (All-append K walk.names more old new)) step.2
        (within_next image ranges (through (directory_names sup) walk dirs) next step.0 step.1 within)

    pub names_walked : (walk : Walk) → result_of image (volume_names sup) ≡ Ok walk → IsWithin image ranges (volume_names sup) → All (λ name. names_directory name ≡ true → WasWalked name) walk.names
    unfolding volume_names
    names_walked walk gives within =
        let root = bind_gives image (root_inode sup) (names_from sup) walk gives in
        let start : Walk = record { names = root_name root.0 ∷ []; runs = 0 } in
        let K : Named → Type 0 = λ name. names_directory name ≡ true → Contains (root_name root.0 ∷ []) name ⊎ WasWalked name in
        below_walked (suc deepest) start walk (root_name root.0 ∷ []) (All-cons K (root_name root.0) [] (λ is. inl (in_head (root_name root.0) [])) (All-nil K)) root.2
        (within_next image ranges (root_inode sup) (names_from sup) root.0 root.1 within)

  -- a block of a directory that was walked is looked at
  pub block_seen : (ranges : List Range) (sound : wrong_field sup ≡ None) (directory : Named) → result_of image (inode_at sup directory.number) ≡ Ok directory.inode → WasWalked ranges directory
      → (index at : ℕ) → HasBlock image sup directory.inode index at → (byte : ℕ) → IsIn at (content_len sup directory.inode.size index) byte → covers ranges byte ≡ true
  unfolding directory_names block_names
  block_seen ranges sound directory read walked index at there byte inside =
      let inode : Inode = directory.inode in
      let walk : Walk = walked.state in
      let after : Walk = walked.after in
      let rest : Laid → Ask Refusal Walk = λ laid. given (directory_blocks sup inode laid.pieces) >>= (λ blocks. through (block_names sup directory) (with_runs walk (runs_of laid)) blocks) in
      let whole = check_gives image (inode.size % 512 == 0) (Damaged DirSize (size_place sup inode)) (λ x. stream_blocks sup (content_stream sup inode) walk.runs >>= rest) after walked.gives in
      let w1 = within_check image ranges (inode.size % 512 == 0) (Damaged DirSize (size_place sup inode)) (λ x. stream_blocks sup (content_stream sup inode) walk.runs >>= rest) whole.0 walked.within in
      let laid = bind_gives image (stream_blocks sup (content_stream sup inode) walk.runs) rest after whole.1 in
      let w2 = within_next image ranges (stream_blocks sup (content_stream sup inode) walk.runs) rest laid.0 laid.1 w1 in
      let blocks_next : List Block → Ask Refusal Walk = λ blocks. through (block_names sup directory) (with_runs walk (runs_of laid.0)) blocks in
      let blocks = given_gives image (directory_blocks sup inode laid.0.pieces) blocks_next after laid.2 in
      let w3 = within_given image ranges (directory_blocks sup inode laid.0.pieces) blocks_next blocks.0 blocks.1 w2 in
      let places = pieces_place image sup sound directory.number inode walk.runs laid.0 read laid.1 in
      let are = blocks_are sup inode laid.0.pieces blocks.0 blocks.1 in
      let many = are.1 in
      let below = there.below in
      let among : Contains blocks.0 (record { index = index; at = at }) = block_among sup inode laid.0.pieces blocks.0 0 index at are.0 (omega arith) (omega (arith, below, many)) (places index there.below ∙ there.there) in
      let step = All-contains (IsStepOf image ranges (block_names sup directory)) blocks.0 (record { index = index; at = at })
      (through_steps image ranges (block_names sup directory) blocks.0 (with_runs walk (runs_of laid.0)) after blocks.2 w3) among in
      within_look image ranges at (content_len sup inode.size index)
      (λ bytes. given (leading at (entries_of sup.order bytes)) >>= (λ leads. through (entry_name sup directory (record { index = index; at = at })) step.state leads)) step.within byte inside.0 inside.1

-- ---- files

module _ (image : List ℕ) (sup : Super) (volume : ℕ) (ranges : List Range) (names : List Named) (filed : Filed) (gives : result_of image (named_files sup volume names) ≡ Ok filed)
    (within : IsWithin image ranges (named_files sup volume names)) where
  number_step : (number : ℕ) → Contains (numbers_of names) number → IsStepOf image ranges (number_file sup volume names) number
  unfolding named_files
  number_step number has =
      All-contains (IsStepOf image ranges (number_file sup volume names)) (numbers_of names) number
      (through_steps image ranges (number_file sup volume names) (numbers_of names) (record { files = []; runs = 0 }) filed gives within) has

  pub inode_seen : (number : ℕ) → Contains (numbers_of names) number → (byte : ℕ) → IsIn (inode_place sup number) ((layout_of sup.version).inode_len) byte → covers ranges byte ≡ true
  unfolding number_file inode_at
  inode_seen number has byte inside =
      let step = number_step number has in
      let rest : Inode → Ask Refusal Filed = λ inode. inode_parts sup step.state.runs inode >>= (λ parted. Done (with_file sup volume names step.state number inode parted)) in
      let read = bind_gives image (inode_at sup number) rest step.after step.gives in
      within_look image ranges (inode_place sup number) ((layout_of sup.version).inode_len) (λ bytes. tested_inode sup (inode_of sup (inode_place sup number) bytes))
      (within_first image ranges (inode_at sup number) rest read.0 read.1 step.within) byte inside.0 inside.1

  pub row_seen : (number level first fragment : ℕ) (inode : Inode) (section : Section) (pointer : Pointer) → wrong_field sup ≡ None → Contains (numbers_of names) number → result_of image (inode_at sup number) ≡ Ok inode
      → Contains (sections_of sup inode) section → IsUsed image sup section.stream (suc level) first pointer → pointer.value ≡ pos (suc fragment)
      → (byte : ℕ) → IsIn (fragment_place sup (suc fragment)) (block_size sup) byte → covers ranges byte ≡ true
  unfolding number_file inode_parts section_part
  row_seen number level first fragment inode section pointer sound has reads among used leads byte inside =
      let step = number_step number has in
      let done : Inode → Parted → Ask Refusal Filed = λ one parted. Done (with_file sup volume names step.state number one parted) in
      let rest : Inode → Ask Refusal Filed = λ one. inode_parts sup step.state.runs one >>= done one in
      let read = bind_gives image (inode_at sup number) rest step.after step.gives in
      let same : inode ≡ read.0 = same_value {E = Refusal} inode read.0 (sym reads ∙ read.1) in
      let w1 = within_next image ranges (inode_at sup number) rest read.0 read.1 step.within in
      let parted = bind_gives image (inode_parts sup step.state.runs read.0) (done read.0) step.after read.2 in
      let w2 = within_first image ranges (inode_parts sup step.state.runs read.0) (done read.0) parted.0 parted.1 w1 in
      let C : Inode → Type 0 = λ one. Contains (sections_of sup one) section in
      let part_step = All-contains (IsStepOf image ranges (section_part sup)) (sections_of sup read.0) section
      (through_steps image ranges (section_part sup) (sections_of sup read.0) (record { parts = []; runs = step.state.runs }) parted.0 parted.1 w2) (subst C same among) in
      let part_done : Laid → Ask Refusal Parted = λ laid. Done (with_part part_step.state section laid) in
      let laid = bind_gives image (stream_blocks sup section.stream part_step.state.runs) part_done part_step.after part_step.gives in
      pointers_seen image sup section.stream (has_pointers sup (is_sound sup sound)) ranges part_step.state.runs laid.0 laid.1
      (within_first image ranges (stream_blocks sup section.stream part_step.state.runs) part_done laid.0 laid.1 part_step.within) level first fragment pointer used leads byte inside.0 inside.1
