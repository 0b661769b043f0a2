-- The content of a directory: its blocks, where its pieces put them, and the part that it is.
use Rattle.std.specs.Prelude.{◌≡◌, ℕ, suc, ◌+◌, ◌*◌, ◌%◌, ◌<◌, ◌≤◌, Bool, true, false, ◌&&◌, ◌==◌, nat_lt, if◌then◌else◌, Some, None, Ok, List, [], ◌∷◌, ◌++◌, length, drop}
use Rattle.std.specs.List.{Contains}
use Rattle.std.proofs.Common.{ap, ◌∙◌, subst, arith, ⊎_elim}
use Rattle.std.proofs.lemmas.Bool.Decides.{Decides-eqb}
use Rattle.std.proofs.lemmas.Bool.{cases_eq}
use Rattle.std.proofs.lemmas.List.{length-take}
use Rattle.std.proofs.lemmas.List.Elements.{Contains-append_left}
use Rattle.bytes_defs.specs.Bytes.{part}
use Rattle.image_defs.specs.Ask.{result_of}
use Rattle.piece_defs.specs.Places.{place_through}
use Rattle.piece_defs.proofs.ThroughLaws.{through_law}
use Rattle.ufs_inode_defs.specs.Layout.{layout_of}
use Rattle.ufs_inode_defs.specs.Superblock.{block_size, wrong_field}
use Rattle.ufs_inode_defs.specs.Inode.{is_directory, is_link, type_bits, inode_at}
use Rattle.ufs_inode_defs.specs.Stream.{content_stream, block_count, content_len}
use Rattle.ufs_inode_defs.specs.Blocks.{Laid, stream_blocks}
use Rattle.ufs_inode_defs.specs.BlockPlace.{byte_place}
use Rattle.ufs_inode_defs.specs.declared.superblock.Super.{Super}
use Rattle.ufs_inode_defs.specs.declared.inode.Inode.{Inode}
use Rattle.ufs_inode_defs.proofs.BlockSteps.{block_begins}
use Rattle.ufs_inode_defs.proofs.SoundSuper.{is_sound, has_pointers}
use Rattle.ufs_inode_defs.proofs.StreamLaws.{stream_law}
use Rattle.ufs_volume_defs.specs.Directory.{Entry}
use Rattle.ufs_volume_defs.specs.Names.{Block, directory_blocks}
use Rattle.rx_tree.specs.declared.file.Kind.TheVariants.{File, Dir, Link, Other}
use Rattle.ufs_inode_defs.specs.Inode.{is_file}
use Rattle.ufs_volume_defs.specs.Files.{content_sections, extended_sections, sections_by, sections_of, content_section}
use Rattle.ufs_damage_defs.specs.Damage.{block_bytes, IsGoodDirectory}
use Rattle.ufs_damage_defs.proofs.StreamStops.{stream_sound}
use Rattle.ufs_damage_defs.proofs.DirectoryLaws.{AreRising, AreBlocks, blocks_are}
use Rattle.ufs_damage_defs.proofs.NameFacts.{in_head}

-- ---- a directory's content

pub wider : (end longer from : ℕ) (entries : List Entry) → end ≤ longer → AreRising end from entries → AreRising longer from entries
wider end longer from [] more rise = tt
wider end longer from (entry ∷ entries) more rise = let below = rise.1 in (rise.0, omega (arith, below, more), wider end longer (suc entry.at) entries more rise.2)

module _ (image : List ℕ) (sup : Super) (sound : wrong_field sup ≡ None) where
  -- where its pieces put a byte, it stands
  pub pieces_place : (number : ℕ) (inode : Inode) (runs : ℕ) (laid : Laid) → result_of image (inode_at sup number) ≡ Ok inode → result_of image (stream_blocks sup (content_stream sup inode) runs) ≡ Ok laid
      → (index : ℕ) → index < block_count sup inode.size → place_through laid.pieces (index * block_size sup) ≡ byte_place image sup (content_stream sup inode) (index * block_size sup)
  pieces_place number inode runs laid read gives index below =
      let are = ((stream_law image sup number inode sound read).content runs laid gives).0 in
      let some : 0 < block_size sup = (has_pointers sup (is_sound sup sound)).some_bytes in
      (through_law image (byte_place image sup (content_stream sup inode)) inode.size laid.pieces are).places (index * block_size sup) (block_begins inode.size (block_size sup) index some below)

  -- a directory whose blocks were found is good
  pub good_of : (number : ℕ) (inode : Inode) (runs : ℕ) (laid : Laid) (blocks : List Block) → result_of image (inode_at sup number) ≡ Ok inode → is_directory inode ≡ true → inode.size % 512 ≡ 0
      → result_of image (stream_blocks sup (content_stream sup inode) runs) ≡ Ok laid → directory_blocks sup inode laid.pieces ≡ Ok blocks → IsGoodDirectory image sup inode
  good_of number inode runs laid blocks read is whole gives are = record {
    directory = is;
    whole = whole;
    pointers = stream_sound image sup (content_stream sup inode) (has_pointers sup (is_sound sup sound)) runs laid gives;
    filled = λ hole.
        let all = blocks_are sup inode laid.pieces blocks are in
        let many = all.1 in
        absurd (never hole.index blocks 0 all.0 (omega arith) (let below = hole.below in omega (arith, below, many))
        (pieces_place number inode runs laid read gives hole.index hole.below ∙ hole.none));
  }
    where
      never : (index : ℕ) (blocks : List Block) (first : ℕ) → AreBlocks sup laid.pieces first blocks → first ≤ index → index < first + length blocks → place_through laid.pieces (index * block_size sup) ≡ None → ⊥
      never index [] first all from below none = omega (arith, from, below)
      never index (block ∷ blocks) first all from below none =
          ⊎_elim
          (λ same. let P : ℕ → Type 0 = λ n. place_through laid.pieces (n * block_size sup) ≡ Some block.at in not_some block.at (subst P same all.1) none)
          (λ differ. never index blocks (suc first) all.2 (omega (arith, from, differ)) (omega (arith, below)) none)
          (cases_eq first index)
        where
          not_some : (at : ℕ) → place_through laid.pieces (index * block_size sup) ≡ Some at → place_through laid.pieces (index * block_size sup) ≡ None → ⊥
          not_some at some nothing = absurd cc

  -- the bytes of a block are no more than a block has
  pub block_fits : (inode : Inode) (index at : ℕ) → length (block_bytes image sup inode index at) ≤ block_size sup
  unfolding part
  block_fits inode index at = let len = length-take (content_len sup inode.size index) (drop at image) in omega (arith, len)

-- ---- the content is a part of a directory

pub directory_content : (sup : Super) (inode : Inode) → is_directory inode ≡ true → Contains (sections_of sup inode) (content_section sup inode)
unfolding sections_of
directory_content sup inode is =
    let link : is_link inode ≡ false = no_link (type_bits inode) ((Decides-eqb (type_bits inode) 0x4000).0 is) in
    by_kind (is_directory inode) is (Contains-append_left (content_sections sup inode) (extended_sections inode) _ (by_link (is_link inode) link))
  where
    no_link : (bits : ℕ) → bits ≡ 0x4000 → (bits == 0xA000) ≡ false
    no_link bits same = ap (λ n. n == 0xA000) same

    by_link : (link : Bool) → link ≡ false
        → Contains (if link && nat_lt inode.size (layout_of sup.version).short_link then [] else (content_section sup inode ∷ [])) (content_section sup inode)
    by_link true same = absurd cc
    by_link false same = in_head (content_section sup inode) []

    by_kind : (directory : Bool) → directory ≡ true → Contains (content_sections sup inode ++ extended_sections inode) (content_section sup inode)
        → Contains (sections_by (if directory then Dir else (if is_file inode then File else (if is_link inode then Link else Other))) sup inode) (content_section sup inode)
    by_kind true same has = has
    by_kind false same has = absurd cc
