-- The parts of an inode, at each exit of the reader.
use Rattle.std.specs.Prelude.{◌≡◌, ℕ, Bool, true, false, not, ◌&&◌, ◌||◌, ◌==◌, if◌then◌else◌, codes, IsErr, IsErrAnd, Option, Result, Ok, Err, List, [], ◌∷◌, ◌++◌, refl}
use Rattle.std.proofs.Common.{ap, sym, ◌∙◌, subst}
use Rattle.range_defs.specs.declared.Range.{Range}
use Rattle.range_defs.specs.Places.{covers, IsRangeList}
use Rattle.range_defs.proofs.RangeLaws.{same_range_list}
use Rattle.image_defs.specs.Ask.{Ask, Done, ◌>>=◌}
use Rattle.image_reads.specs.Steps.{ReadsAs}
use Rattle.image_reads.proofs.Coming.{IsCome}
use Rattle.image_defs.specs.Through.{through}
use Rattle.image_reads.proofs.Steps.{begins, comes_to, comes_value, comes_fault, comes_done, comes_rest, ends_with}
use Rattle.rx_store.specs.declared.read_fault.ReadFault.{ReadFault}
use Rattle.rx_tree.specs.declared.part.Role.TheVariants as roles
use Rattle.rx_tree.specs.declared.file.Kind.{Kind}
use Rattle.rx_tree.specs.declared.file.Kind.TheVariants.{File, Dir, Link, Other, System}
use Rattle.fault_defs.specs.declared.Refusal.{Refusal}
use Rattle.ufs_inode_defs.specs.Inode.{is_directory, is_file, is_link, is_short_link}
use Rattle.ufs_inode_defs.specs.Stream.{content_stream, extended_stream}
use Rattle.ufs_inode_defs.specs.Blocks.{Laid, runs_of, stream_blocks}
use Rattle.ufs_inode_defs.specs.declared.superblock.Super.{Super}
use Rattle.ufs_inode_defs.specs.declared.inode.Inode.{Inode}
use Rattle.ufs_volume_defs.specs.Files.{Section, Parted, with_part, section_part, kind_of, sections_by, sections_of, inode_parts, content_section, extended_section}
use Rattle.ufs_blocks.specs.Sections.{has_parts, has_content, has_extended, extended_list}
use Rattle.ufs_blocks.specs.UnderWay.{Settles}
use Rattle.ufs_blocks.proofs.DirectLaws.{fault_settles}
use Rattle.ufs_blocks.proofs.WayLaws.{settles_as}
use Rattle.ufs_blocks.proofs.MappedLaws.{settles_first, settled_reads}

pub same_slack : (list slack : List Range) → IsRangeList list → IsRangeList slack → ((byte : ℕ) → covers list byte ≡ covers slack byte) → list ≡ slack
same_slack list slack kept canonical same = same_range_list list slack kept canonical same

-- ---- one part

pub parted_is : (parted after : Parted) (section : Section) (laid : Laid) (size : ℕ) → size ≡ section.stream.size
    → after.parts ≡ parted.parts ++ record { role = section.role; name = section.name; size = size; pieces = laid.pieces; slack = laid.slack; unreadable = false } ∷ [] → after.runs ≡ runs_of laid → with_part parted section laid ≡ after
parted_is parted after section laid size long parts runs =
    ap (λ n. record { parts = parted.parts ++ record { role = section.role; name = section.name; size = n; pieces = laid.pieces; slack = laid.slack; unreadable = false } ∷ []; runs = runs_of laid }) (sym long)
    ∙ ap (λ list. record { parts = list; runs = runs_of laid }) (sym parts)
    ∙ ap (λ n. record { parts = after.parts; runs = n }) (sym runs)

module _ (sup : Super) (parted : Parted) (section : Section) where
  section_settled : (laid : Laid) → stream_blocks sup section.stream parted.runs ≡ Done laid → section_part sup parted section ≡ Done (with_part parted section laid)
  unfolding section_part
  section_settled laid settled = ap (λ ask. ask >>= (λ found. Done (with_part parted section found))) settled

  section_refused : (fault : ReadFault) → (let stops : Result Laid ReadFault = Err fault in Settles stops (stream_blocks sup section.stream parted.runs)) → (let stops : Result Parted ReadFault = Err fault in Settles stops (section_part sup parted section))
  unfolding section_part
  section_refused fault settles = settles_first fault (stream_blocks sup section.stream parted.runs) (λ found. Done (with_part parted section found)) settles

  module _ (told : Option (List ℕ)) (before looked : List Range) where
    section_value : (laid : Laid) → ReadsAs told (stream_blocks sup section.stream parted.runs) before looked (Ok laid) → ReadsAs told (section_part sup parted section) before looked (Ok (with_part parted section laid))
    unfolding section_part
    section_value laid read =
        comes_done told (section_part sup parted section) before (with_part parted section laid) looked
        (comes_value told (section_part sup parted section) before told (stream_blocks sup section.stream parted.runs) (λ found. Done (with_part parted section found)) before refl (begins told (section_part sup parted section) before) laid looked read)

    section_fault : (fault : ReadFault) → (let stops : Result Laid ReadFault = Err fault in ReadsAs told (stream_blocks sup section.stream parted.runs) before looked stops)
        → (let stops : Result Parted ReadFault = Err fault in ReadsAs told (section_part sup parted section) before looked stops)
    unfolding section_part
    section_fault fault read =
        comes_fault told (section_part sup parted section) before told (stream_blocks sup section.stream parted.runs) (λ found. Done (with_part parted section found)) before refl (begins told (section_part sup parted section) before) fault looked looked read

-- ---- the extended area

module _ (sup : Super) (inode : Inode) (parted : Parted) (has : has_extended inode ≡ true) (count : ℕ) (is_count : count ≡ parted.runs) where
  extended_on : through (section_part sup) parted (extended_list inode) ≡ section_part sup parted (extended_section inode) >>= (λ after. Done after)
  extended_on = rw has refl

  pub extended_refused : (result : Result Parted ReadFault) (fault : ReadFault) → IsErr result → IsErrAnd result (λ other. other ≡ fault)
      → (let stops : Result Laid ReadFault = Err fault in Settles stops (stream_blocks sup (extended_stream inode) count)) → Settles result (through (section_part sup) parted (extended_list inode))
  extended_refused result fault fails passed settles =
      let stops : Result Parted ReadFault = Err fault in
      let first : Result Laid ReadFault = Err fault in
      let S : ℕ → Type 0 = λ n. Settles first (stream_blocks sup (extended_stream inode) n) in
      fault_settles result fault _ fails passed
      (settles_as stops _ _ extended_on (settles_first fault (section_part sup parted (extended_section inode)) (λ after. Done after) (section_refused sup parted (extended_section inode) fault (subst S is_count settles))))

  pub extended_settled : (laid : Laid) (after : Parted) (size : ℕ) → stream_blocks sup (extended_stream inode) count ≡ Done laid → size ≡ inode.extsize
      → after.parts ≡ parted.parts ++ record { role = roles.Other; name = codes "ext"; size = size; pieces = laid.pieces; slack = laid.slack; unreadable = false } ∷ [] → after.runs ≡ runs_of laid
      → through (section_part sup) parted (extended_list inode) ≡ Done after
  extended_settled laid after size settled long parts runs =
      extended_on
      ∙ ap (λ ask. ask >>= (λ found. Done found)) (section_settled sup parted (extended_section inode) laid (ap (λ n. stream_blocks sup (extended_stream inode) n) (sym is_count) ∙ settled))
      ∙ ap (λ found. Done found) (parted_is parted after (extended_section inode) laid size long parts runs)

-- ---- all parts

module _ (sup : Super) (inode : Inode) where
  by_kind : Kind → Bool → Bool → List Section
  by_kind Other short empty = []
  by_kind File short empty = (if short then [] else (content_section sup inode ∷ [])) ++ (if empty then [] else (extended_section inode ∷ []))
  by_kind Dir short empty = (if short then [] else (content_section sup inode ∷ [])) ++ (if empty then [] else (extended_section inode ∷ []))
  by_kind Link short empty = (if short then [] else (content_section sup inode ∷ [])) ++ (if empty then [] else (extended_section inode ∷ []))
  by_kind System short empty = (if short then [] else (content_section sup inode ∷ [])) ++ (if empty then [] else (extended_section inode ∷ []))

  kind_as : Bool → Bool → Bool → Kind
  kind_as directory file link = if directory then Dir else (if file then File else (if link then Link else Other))

  chosen : Bool → Bool → Bool → List Section
  chosen parts short empty =
      if parts && not short
      then content_section sup inode ∷ (if parts && not empty then extended_section inode ∷ [] else [])
      else (if parts && not empty then extended_section inode ∷ [] else [])

  either_way : (directory file link short empty : Bool) → by_kind (kind_as directory file link) short empty ≡ chosen (directory || (file || link)) short empty
  unfolding by_kind kind_as chosen
  either_way true file link true true = refl
  either_way true file link true false = refl
  either_way true file link false true = refl
  either_way true file link false false = refl
  either_way false true link true true = refl
  either_way false true link true false = refl
  either_way false true link false true = refl
  either_way false true link false false = refl
  either_way false false true true true = refl
  either_way false false true true false = refl
  either_way false false true false true = refl
  either_way false false true false false = refl
  either_way false false false short empty = refl

  by_kinds : (kind : Kind) → sections_by kind sup inode ≡ by_kind kind (is_short_link sup inode) (inode.extsize == 0)
  unfolding by_kind
  by_kinds Other = refl
  by_kinds File = refl
  by_kinds Dir = refl
  by_kinds Link = refl
  by_kinds System = refl

  sections_are : sections_of sup inode ≡ chosen (has_parts inode) (is_short_link sup inode) (inode.extsize == 0)
  unfolding sections_of kind_as
  sections_are = by_kinds (kind_of inode) ∙ either_way (is_directory inode) (is_file inode) (is_link inode) (is_short_link sup inode) (inode.extsize == 0)

  pub sections_none : has_content sup inode ≡ false → sections_of sup inode ≡ extended_list inode
  unfolding chosen
  sections_none none = sections_are ∙ rw none refl

  pub sections_some : has_content sup inode ≡ true → sections_of sup inode ≡ content_section sup inode ∷ extended_list inode
  unfolding chosen
  sections_some some = sections_are ∙ rw some refl

  module _ (runs : ℕ) (none : Parted) (is_none : none ≡ record { parts = []; runs = runs }) (told : Option (List ℕ)) (before : List Range) where
    pub bare_reads : (result : Result Parted ReadFault) → has_content sup inode ≡ false → Settles result (through (section_part sup) none (extended_list inode)) → ReadsAs told (inode_parts sup runs inode) before before result
    unfolding inode_parts
    bare_reads result bare settles =
        settled_reads told _ before result
        (settles_as result _ _ (ap (λ list. through (section_part sup) (record { parts = []; runs = runs }) list) (sections_none bare) ∙ ap (λ start. through (section_part sup) start (extended_list inode)) (sym is_none)) settles)

    module _ (some : has_content sup inode ≡ true) where
      behind : Parted → Ask Refusal Parted
      behind after = through (section_part sup) after (extended_list inode)

      parts_start : inode_parts sup runs inode ≡ section_part sup none (content_section sup inode) >>= behind
      unfolding inode_parts behind
      parts_start =
          ap (λ list. through (section_part sup) (record { parts = []; runs = runs }) list) (sections_some some)
          ∙ ap (λ start. section_part sup start (content_section sup inode) >>= (λ after. through (section_part sup) after (extended_list inode))) (sym is_none)

      come : IsCome told (inode_parts sup runs inode) before (section_part sup none (content_section sup inode) >>= behind) before
      come = comes_to told _ before (inode_parts sup runs inode) _ before parts_start (begins told (inode_parts sup runs inode) before)

      same_runs : none.runs ≡ runs
      same_runs = ap (λ one. one.runs) is_none

      pub content_fault : (looked : List Range) (result : Result Parted ReadFault) (fault : ReadFault) → IsErr result → IsErrAnd result (λ other. other ≡ fault)
          → (let stops : Result Laid ReadFault = Err fault in ReadsAs told (stream_blocks sup (content_stream sup inode) runs) before looked stops) → ReadsAs told (inode_parts sup runs inode) before looked result
      content_fault looked result fault fails passed read =
          let stops : Result Laid ReadFault = Err fault in
          let R : ℕ → Type 0 = λ n. ReadsAs told (stream_blocks sup (content_stream sup inode) n) before looked stops in
          ends_with told _ before looked result fault fails passed
          (comes_fault told _ before told (section_part sup none (content_section sup inode)) behind before refl come fault looked looked
          (section_fault sup none (content_section sup inode) told before looked fault (subst R (sym same_runs) read)))

      pub content_reads : (looked : List Range) (laid : Laid) (content : Parted) (size : ℕ) (result : Result Parted ReadFault) → ReadsAs told (stream_blocks sup (content_stream sup inode) runs) before looked (Ok laid) → size ≡ inode.size
          → content.parts ≡ none.parts ++ record { role = roles.Content; name = []; size = size; pieces = laid.pieces; slack = laid.slack; unreadable = false } ∷ [] → content.runs ≡ runs_of laid
          → Settles result (through (section_part sup) content (extended_list inode)) → ReadsAs told (inode_parts sup runs inode) before looked result
      unfolding behind
      content_reads looked laid content size result read long parts count settles =
          let R : ℕ → Type 0 = λ n. ReadsAs told (stream_blocks sup (content_stream sup inode) n) before looked (Ok laid) in
          let C : Parted → Type 0 = λ after. IsCome told (inode_parts sup runs inode) before (through (section_part sup) after (extended_list inode)) looked in
          let on = subst C (parted_is none content (content_section sup inode) laid size long parts count)
          (comes_value told _ before told (section_part sup none (content_section sup inode)) behind before refl come (with_part none (content_section sup inode) laid) looked
          (section_value sup none (content_section sup inode) told before looked laid (subst R (sym same_runs) read))) in
          comes_rest told _ before told (through (section_part sup) content (extended_list inode)) looked looked result refl on (settled_reads told (through (section_part sup) content (extended_list inode)) looked result settles)
