-- The runs of the parts of inodes, as one list.
use Rattle.std.specs.Prelude.{◌≡◌, ◌⊎◌, ℕ, ◌+◌, ◌<◌, Bool, true, false, ◌==◌, None, Ok, if◌then◌else◌, List, [], ◌∷◌, ◌++◌, length, map, codes, refl}
use Rattle.std.specs.List.{Contains, flat_map}
use Rattle.std.proofs.Common.{ap, sym, ◌∙◌, subst, inl, inr, arith, ⊎_elim}
use Rattle.std.proofs.lemmas.List.{length-map}
use Rattle.std.proofs.lemmas.List.Elements.{All-contains_itself, All-weaker, Contains-append_cases}
use Rattle.std.proofs.lemmas.List.Kept.{AllPairs-from_increasing}
use Rattle.image_defs.specs.Ask.{result_of}
use Rattle.order_defs.proofs.DistinctLaws.{rising_numbers_law}
use Rattle.fault_defs.specs.declared.Bound.TheVariants.{Runs}
use Rattle.rx_tree.specs.declared.part.Role.TheVariants as roles
use Rattle.rx_tree.specs.declared.file.Kind.{Kind}
use Rattle.rx_tree.specs.declared.file.Kind.TheVariants.{File, Dir, Link, Other, System}
use Rattle.ufs_inode_defs.specs.Layout.{layout_of, pointer_len}
use Rattle.ufs_inode_defs.specs.Superblock.{wrong_field, inode_place}
use Rattle.ufs_inode_defs.specs.Inode.{stored_inode, is_directory, is_short_link, inode_at}
use Rattle.ufs_inode_defs.specs.Stream.{Stream, content_stream, extended_stream}
use Rattle.ufs_inode_defs.specs.StreamLaws.{IsLaidOut}
use Rattle.ufs_inode_defs.specs.Blocks.{most_runs}
use Rattle.ufs_inode_defs.specs.declared.superblock.Super.{Super}
use Rattle.ufs_inode_defs.specs.declared.inode.Inode.{Inode}
use Rattle.ufs_inode_defs.proofs.BlockSteps.{HasPointers}
use Rattle.ufs_inode_defs.proofs.InodeLaws.{HasRows, has_rows, pointers_from-length, inode_read}
use Rattle.ufs_inode_defs.proofs.StreamLaws.{stream_law}
use Rattle.ufs_volume_defs.specs.Names.{Named}
use Rattle.ufs_volume_defs.specs.Files.{Section, kind_of, content_sections, extended_sections, sections_by, sections_of, numbers_of, content_section}
use Rattle.ufs_damage_defs.specs.StreamDamage.{Start}
use Rattle.ufs_damage_defs.specs.Damage.{Run, IsRun, HasSoundInode, IsOverIn, ManyRuns}
use Rattle.ufs_damage_defs.proofs.NameFacts.{in_none, in_cases}
use Rattle.ufs_damage_defs.proofs.Distinct.{AreDistinct, distinct_of, apart_of, distinct-append, in_map, of_map, distinct-map, in_flat_map, of_flat_map, length_more, distinct-flat_map}
use Rattle.ufs_damage_defs.proofs.Visits.{stream_starts, distinct_starts, starts_begin, starts_found}
use Rattle.ufs_damage_defs.proofs.StreamMaps.{HasShape}
use Rattle.ufs_damage_defs.proofs.Contents.{directory_content}

-- ---- the parts of an inode

module _ (sup : Super) (inode : Inode) where
  abbrev extended_part : Section
  extended_part = record { role = roles.Other; name = codes "ext"; stream = extended_stream inode }

  in_content : (section : Section) → Contains (content_sections sup inode) section → content_section sup inode ≡ section
  in_content section has = either (is_short_link sup inode) has
    where
      either : (short : Bool) → Contains (if short then [] else (content_section sup inode ∷ [])) section → content_section sup inode ≡ section
      either true has = absurd (in_none section has)
      either false has = ⊎_elim (λ same. same) (λ none. absurd (in_none section none)) (in_cases (content_section sup inode) section [] has)

  in_extended : (section : Section) → Contains (extended_sections inode) section → extended_part ≡ section
  in_extended section has = either (inode.extsize == 0) has
    where
      either : (none : Bool) → Contains (if none then [] else (extended_part ∷ [])) section → extended_part ≡ section
      either true has = absurd (in_none section has)
      either false has = ⊎_elim (λ same. same) (λ none. absurd (in_none section none)) (in_cases extended_part section [] has)

  both_distinct : AreDistinct (content_sections sup inode ++ extended_sections inode)
  both_distinct =
      distinct-append (content_sections sup inode) (extended_sections inode) (content (is_short_link sup inode)) (extended (inode.extsize == 0))
      (λ section front back. other_role (content_section sup inode) extended_part (in_content section front ∙ sym (in_extended section back)) refl refl)
    where
      content : (short : Bool) → AreDistinct (if short then [] else (content_section sup inode ∷ []))
      content true = tt
      content false = ((λ has. in_none (content_section sup inode) has), tt)

      extended : (none : Bool) → AreDistinct (if none then [] else (extended_part ∷ []))
      extended true = tt
      extended false = ((λ has. in_none extended_part has), tt)

      other_role : (a b : Section) → a ≡ b → a.role ≡ roles.Content → b.role ≡ roles.Other → ⊥
      other_role a b same first second = let role : a.role ≡ b.role = ap (λ s. s.role) same in absurd cc

  both_streams : (section : Section) → Contains (content_sections sup inode ++ extended_sections inode) section → (section.stream ≡ content_stream sup inode) ⊎ (section.stream ≡ extended_stream inode)
  both_streams section has =
      ⊎_elim
      (λ front. inl (sym (ap (λ s. s.stream) (in_content section front))))
      (λ back. inr (sym (ap (λ s. s.stream) (in_extended section back))))
      (Contains-append_cases (content_sections sup inode) (extended_sections inode) section has)

  sections_distinct : AreDistinct (sections_of sup inode)
  unfolding sections_of
  sections_distinct = by_kind (kind_of inode)
    where
      by_kind : (kind : Kind) → AreDistinct (sections_by kind sup inode)
      by_kind Other = tt
      by_kind File = both_distinct
      by_kind Dir = both_distinct
      by_kind Link = both_distinct
      by_kind System = both_distinct

  section_stream : (section : Section) → Contains (sections_of sup inode) section → (section.stream ≡ content_stream sup inode) ⊎ (section.stream ≡ extended_stream inode)
  unfolding sections_of
  section_stream section has = by_kind (kind_of inode) has
    where
      by_kind : (kind : Kind) → Contains (sections_by kind sup inode) section → (section.stream ≡ content_stream sup inode) ⊎ (section.stream ≡ extended_stream inode)
      by_kind Other has = absurd (in_none section has)
      by_kind File has = both_streams section has
      by_kind Dir has = both_streams section has
      by_kind Link has = both_streams section has
      by_kind System has = both_streams section has

  content_shape : HasRows inode → HasShape (content_stream sup inode)
  content_shape rows =
      let direct = pointers_from-length (inode.at + (layout_of sup.version).direct_at) (pointer_len sup.version) inode.direct ∙ rows.direct in
      let indirect = pointers_from-length (inode.at + (layout_of sup.version).indirect_at) (pointer_len sup.version) inode.indirect ∙ rows.indirect in
      record { few = omega (arith, direct); three = omega (arith, indirect); full = λ some. direct }

  extended_shape : HasRows inode → HasShape (extended_stream inode)
  extended_shape rows =
      let direct = pointers_from-length (inode.at + 96) 8 inode.ext ∙ rows.ext in
      record { few = omega (arith, direct); three = omega arith; full = λ some. absurd (omega (arith, some)) }

-- the streams of a sound inode have the shape of one, and are laid out
pub part_laid : (image : List ℕ) (sup : Super) (number : ℕ) (inode : Inode) (section : Section) → wrong_field sup ≡ None → result_of image (inode_at sup number) ≡ Ok inode → Contains (sections_of sup inode) section
    → HasShape section.stream × IsLaidOut image sup section.stream
part_laid image sup number inode section sound gives among =
    let rows : HasRows inode = subst HasRows (inode_read image sup number inode gives).is (has_rows sup (inode_place sup number) _) in
    let laid = stream_law image sup number inode sound gives in
    let P : Stream → Type 0 = λ stream. HasShape stream × IsLaidOut image sup stream in
    ⊎_elim
    (λ content. subst P (sym content) (content_shape sup inode rows, laid.content))
    (λ extended. subst P (sym extended) (extended_shape sup inode rows, laid.extended))
    (section_stream sup inode section among)

module _ (image : List ℕ) (sup : Super) where
  -- ---- the runs

  abbrev pub run_at : ℕ → Section → Start → Run
  run_at number section start = record { number = number; section = section; start = start }

  abbrev pub section_runs : ℕ → Section → List Run
  section_runs number section = map (run_at number section) (stream_starts image sup section.stream)

  abbrev pub inode_runs : ℕ → Inode → List Run
  inode_runs number inode = flat_map (section_runs number) (sections_of sup inode)

  abbrev pub number_runs : ℕ → List Run
  number_runs number = inode_runs number (stored_inode image sup number)

  abbrev pub directory_runs : ℕ → List Run
  directory_runs number = section_runs number (content_section sup (stored_inode image sup number))

  pub section_long : (number : ℕ) (section : Section) → length (section_runs number section) ≡ length (stream_starts image sup section.stream)
  section_long number section = length-map (stream_starts image sup section.stream) (run_at number section)

  -- they are those of the part
  of_section : (number : ℕ) (section : Section) (run : Run) → Contains (section_runs number section) run → (start : Start) × Contains (stream_starts image sup section.stream) start × (run_at number section start ≡ run)
  of_section number section run among = of_map (run_at number section) (stream_starts image sup section.stream) run among

  of_number : (number : ℕ) (run : Run) → Contains (number_runs number) run → run.number ≡ number
  of_number number run among =
      let section = of_flat_map (section_runs number) (sections_of sup (stored_inode image sup number)) run among in
      sym (ap (λ r. r.number) (of_section number section.0 run section.2).2)

  run_is : (number : ℕ) (inode : Inode) (section : Section) (run : Run) → HasSoundInode image sup number inode → Contains (sections_of sup inode) section → Contains (section_runs number section) run → IsRun image sup run
  run_is number inode section run has part among =
      let start = of_section number section run among in
      subst (IsRun image sup) start.2 (record { inode = inode; has = has; part = part; begins = starts_begin image sup section.stream start.0 start.1 })

  -- the inode of a number that is sound is the one that is stored
  stored : (number : ℕ) (inode : Inode) → HasSoundInode image sup number inode → HasSoundInode image sup number (stored_inode image sup number)
  stored number inode has = let P : Inode → Type 0 = λ i. HasSoundInode image sup number i in subst P (sym has.has.is) has

  number_run_is : (number : ℕ) (run : Run) → ((inode : Inode) × HasSoundInode image sup number inode) → Contains (number_runs number) run → IsRun image sup run
  number_run_is number run has among =
      let section = of_flat_map (section_runs number) (sections_of sup (stored_inode image sup number)) run among in
      run_is number (stored_inode image sup number) section.0 run (stored number has.0 has.1) section.1 section.2

  -- each run of numbers' parts is there
  pub runs_found : (numbers : List ℕ) (run : Run) → IsRun image sup run → Contains numbers run.number → Contains (flat_map number_runs numbers) run
  runs_found numbers run is among =
      let inode = is.inode in
      let starts : List Start = stream_starts image sup run.section.stream in
      let here : Contains (section_runs run.number run.section) run = in_map (run_at run.number run.section) starts run.start (starts_found image sup run.section.stream run.start is.begins) in
      let P : Inode → Type 0 = λ i. Contains (inode_runs run.number i) run in
      in_flat_map number_runs numbers run.number run among
      (subst P (sym is.has.has.is) (in_flat_map (section_runs run.number) (sections_of sup inode) run.section run is.part here))

  -- directories, and the runs of their contents
  pub record AreWalked (walked : List ℕ) (runs : ℕ) : Type 0 where
    pub count : runs ≡ length (flat_map directory_runs walked)
    pub distinct : AreDistinct walked
    pub sound : (number : ℕ) → Contains walked number → (inode : Inode) × HasSoundInode image sup number inode × (is_directory inode ≡ true)

  pub none_walked : AreWalked [] 0
  none_walked = record { count = refl; distinct = tt; sound = λ number among. absurd (in_none number among) }

  -- one more directory
  pub walked_more : (walked : List ℕ) (runs number : ℕ) (inode : Inode) → AreWalked walked runs → (Contains walked number → ⊥) → HasSoundInode image sup number inode → is_directory inode ≡ true
      → AreWalked (number ∷ walked) (runs + length (stream_starts image sup (content_stream sup inode)))
  walked_more walked runs number inode are fresh has is =
      let P : Inode → Type 0 = λ i. length (directory_runs number) ≡ length (stream_starts image sup (content_stream sup i)) in
      let same : length (directory_runs number) ≡ length (stream_starts image sup (content_stream sup inode)) = subst P has.has.is (section_long number (content_section sup (stored_inode image sup number))) in
      let all = length_more directory_runs number walked in
      let count = are.count in
      record {
        count = omega (arith, same, all, count);
        distinct = (fresh, are.distinct);
        sound = λ other among.
            let S : ℕ → Type 0 = λ n. (i : Inode) × HasSoundInode image sup n i × (is_directory i ≡ true) in
            ⊎_elim (λ first. subst S first (inode, has, is)) (λ behind. are.sound other behind) (in_cases number other walked among);
      }

  module _ (has : HasPointers sup) where
    section_distinct : (number : ℕ) (section : Section) → AreDistinct (section_runs number section)
    section_distinct number section = distinct-map (run_at number section) (stream_starts image sup section.stream) (λ a b same. ap (λ r. r.start) same) (distinct_starts image sup section.stream has)

    number_distinct : (number : ℕ) → AreDistinct (number_runs number)
    number_distinct number =
        distinct-flat_map (section_runs number) (sections_of sup (stored_inode image sup number)) (sections_distinct sup (stored_inode image sup number)) (section_distinct number)
        (λ a b run one other. ap (λ r. r.section) ((of_section number a run one).2 ∙ sym (of_section number b run other).2))

    -- ---- too many of them

    pub many_runs : (volume : ℕ) (numbers : List ℕ) → AreDistinct numbers → ((number : ℕ) → Contains numbers number → (inode : Inode) × HasSoundInode image sup number inode)
        → most_runs < length (flat_map number_runs numbers) → IsOverIn image sup volume Runs most_runs
    many_runs volume numbers distinct sound many =
        let runs : List Run = flat_map number_runs numbers in
        let in_runs : (run : Run) → Contains runs run → IsRun image sup run = λ run among.
        let number = of_flat_map number_runs numbers run among in
        number_run_is number.0 run (sound number.0 number.1) number.2 in
        ManyRuns runs
        (record {
          each = All-weaker (Contains runs) (IsRun image sup) in_runs runs (All-contains_itself runs);
          differ = apart_of runs (distinct-flat_map number_runs numbers distinct number_distinct (λ a b run one other. sym (of_number a run one) ∙ of_number b run other));
        })
        many

    pub many_directories : (volume : ℕ) (walked : List ℕ) (runs : ℕ) → AreWalked walked runs → most_runs < runs → IsOverIn image sup volume Runs most_runs
    many_directories volume walked runs are over =
        let all : List Run = flat_map directory_runs walked in
        let part : ℕ → Section = λ number. content_section sup (stored_inode image sup number) in
        let in_runs : (run : Run) → Contains all run → IsRun image sup run = λ run among.
        let found = of_flat_map directory_runs walked run among in
        let is = are.sound found.0 found.1 in
        run_is found.0 (stored_inode image sup found.0) (part found.0) run (stored found.0 is.0 is.1) (directory_content sup (stored_inode image sup found.0) (ap is_directory is.1.has.is ∙ is.2)) found.2 in
        let count = are.count in
        ManyRuns all
        (record {
          each = All-weaker (Contains all) (IsRun image sup) in_runs all (All-contains_itself all);
          differ =
              apart_of all
              (distinct-flat_map directory_runs walked are.distinct (λ n. section_distinct n (part n)) (λ a b run one other. ap (λ r. r.number) ((of_section a (part a) run one).2 ∙ sym (of_section b (part b) run other).2)));
        })
        (omega (arith, over, count))

-- the numbers of names rise
pub numbers_distinct : (names : List Named) → AreDistinct (numbers_of names)
numbers_distinct names =
    let numbers : List ℕ = map (λ (name : Named). name.number) names in
    distinct_of (numbers_of names) (λ i j d before inside same. let less = AllPairs-from_increasing (numbers_of names) (rising_numbers_law numbers).0 i j d before inside in omega (arith, less, same))
