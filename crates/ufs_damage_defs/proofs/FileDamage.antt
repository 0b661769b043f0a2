-- What refuses the files of a volume is a pointer that leads out, or more runs than the limit; where they are read, no pointer
-- does, and their runs are counted.
use Rattle.std.specs.Prelude.{◌≡◌, ℕ, ◌+◌, ◌<◌, ◌≤◌, None, Result, Ok, Err, List, [], ◌∷◌, length, map, refl}
use Rattle.std.specs.List.{All, Contains, flat_map}
use Rattle.std.proofs.Common.{sym, ◌∙◌, subst, arith, ⊎_elim}
use Rattle.std.proofs.lemmas.List.Elements.{All-head, All-tail, All-contains, All-contains_itself}
use Rattle.image_defs.specs.Ask.{Ask, Done, result_of, ◌>>=◌}
use Rattle.image_defs.proofs.Looks.{bind_gives, bind_refuses}
use Rattle.order_defs.proofs.DistinctLaws.{rising_numbers_law}
use Rattle.fault_defs.specs.declared.Refusal.{Refusal}
use Rattle.fault_defs.specs.declared.Bound.TheVariants.{Runs}
use Rattle.ufs_inode_defs.specs.Superblock.{wrong_field}
use Rattle.ufs_inode_defs.specs.Inode.{inode_at}
use Rattle.ufs_inode_defs.specs.Blocks.{most_runs, stream_blocks}
use Rattle.ufs_inode_defs.specs.declared.superblock.Super.{Super}
use Rattle.ufs_inode_defs.specs.declared.inode.Inode.{Inode}
use Rattle.ufs_inode_defs.proofs.BlockSteps.{HasPointers}
use Rattle.ufs_inode_defs.proofs.SoundSuper.{is_sound, has_pointers}
use Rattle.ufs_inode_defs.proofs.InodeLaws.{inode_read}
use Rattle.ufs_volume_defs.specs.Names.{Named, Walk}
use Rattle.ufs_volume_defs.specs.Files.{Section, sections_of, Parted, with_part, section_part, inode_parts, Filed, with_file, number_file, numbers_of, named_files}
use Rattle.ufs_damage_defs.specs.StreamDamage.{HasBadPointer}
use Rattle.ufs_damage_defs.specs.Damage.{HasSoundInode, BadPointer, IsOverIn}
use Rattle.ufs_damage_defs.proofs.Walks.{same_value, not_both, through_keeps, through_stops_at, Walks, through_walks}
use Rattle.ufs_damage_defs.proofs.Visits.{stream_starts}
use Rattle.ufs_damage_defs.proofs.StreamStops.{stream_sound}
use Rattle.ufs_damage_defs.proofs.StreamCounts.{StopsStream, AtPointer, AtRuns, stream_counted, stream_stops}
use Rattle.ufs_damage_defs.proofs.Runs.{section_runs, inode_runs, number_runs, section_long, part_laid, many_runs, numbers_distinct}
use Rattle.ufs_damage_defs.proofs.InodeDamage.{IsWrongIn, named_gives, named_is}
use Rattle.ufs_damage_defs.proofs.NameFacts.{IsKnown}
use Rattle.ufs_damage_defs.proofs.Distinct.{in_map, of_map, length_more}
use Rattle.ufs_damage_defs.proofs.NameDamage.{IsSomewhere, HasNames}

-- a number of a list of names is that of one of them
known_of : (number : ℕ) (names : List Named) → Contains (map (λ name. name.number) names) number → IsKnown number names
known_of number names has = let found = of_map (λ name. name.number) names number has in record { name = found.0; among = found.1; is = found.2 }

-- and each name's is one
pub number_among : (name : Named) (names : List Named) → Contains names name → Contains (map (λ one. one.number) names) name.number
number_among name names has = in_map (λ one. one.number) names name has

module _ (image : List ℕ) (sup : Super) (volume : ℕ) (sound : wrong_field sup ≡ None) where
  pointers : HasPointers sup
  pointers = has_pointers sup (is_sound sup sound)

  -- a number of a file is reached, and its inode is read
  pub file_number : (walk : Walk) → HasNames image sup volume sound walk → (number : ℕ) → Contains (numbers_of walk.names) number → (inode : Inode) × HasSoundInode image sup number inode
  file_number walk names number has =
      let known = known_of number walk.names ((rising_numbers_law (map (λ (name : Named). name.number) walk.names)).1.within number has) in
      let found = All-contains (IsSomewhere image sup volume names.root sound) walk.names known.name names.at.all known.among in
      let is = found.1 in
      let named = named_gives image sup volume known.name.number is.place known.name.inode is.read in
      let P : ℕ → Type 0 = λ n. HasSoundInode image sup n known.name.inode in (
        known.name.inode,
        subst P known.is
            (record {
              has = record { place = is.place; depth = found.0; path = known.name.path; reached = is.reached; inside = named.0; is = (named_is image sup volume known.name.number is.place known.name.inode is.read).is };
              read = named.1;
            }),
      )

  -- ---- the parts of an inode

  part_never : (parted : Parted) (e : Refusal) → (let r : Result Parted Refusal = Ok parted in r ≡ Err e) → ⊥
  part_never parted e same = absurd cc

  -- in front of some parts of an inode, with the runs of those
  record AtSections (number : ℕ) (inode : Inode) (total : ℕ) (left : List Section) (parted : Parted) : Type 0 where
    among : All (Contains (sections_of sup inode)) left
    sum : total ≡ parted.runs + length (flat_map (section_runs image sup number) left)
    few : parted.runs ≤ most_runs

  at_sections : (number : ℕ) (inode : Inode) (runs : ℕ) → runs ≤ most_runs → AtSections number inode (runs + length (inode_runs image sup number inode)) (sections_of sup inode) (record { parts = []; runs = runs })
  at_sections number inode runs few = record { among = All-contains_itself (sections_of sup inode); sum = refl; few = few }

  section_goes_on : (number : ℕ) (inode : Inode) (total : ℕ) → result_of image (inode_at sup number) ≡ Ok inode → (section : Section) (left : List Section) (parted after : Parted)
      → AtSections number inode total (section ∷ left) parted → result_of image (section_part sup parted section) ≡ Ok after → AtSections number inode total left after
  unfolding section_part
  section_goes_on number inode total read section left parted after state gives =
      let laid = bind_gives image (stream_blocks sup section.stream parted.runs) (λ laid. Done (with_part parted section laid)) after gives in
      let is = part_laid image sup number inode section sound read (All-head (Contains (sections_of sup inode)) section left state.among) in
      let counted = stream_counted image sup section.stream pointers is.0 parted.runs state.few laid.0 laid.1 (is.1 parted.runs laid.0 laid.1).0 in
      let count = counted.0 in
      let sum = state.sum in
      let long = section_long image sup number section in
      let all = length_more (section_runs image sup number) section left in
      let P : Parted → Type 0 = λ p. AtSections number inode total left p in
      subst P (same_value {E = Refusal} (with_part parted section laid.0) after laid.2)
      (record { among = All-tail (Contains (sections_of sup inode)) section left state.among; sum = omega (arith, sum, long, all, count); few = counted.1 })

  -- the runs of its parts are counted
  parts_counted : (number : ℕ) (inode : Inode) (runs : ℕ) (parted : Parted) → result_of image (inode_at sup number) ≡ Ok inode → runs ≤ most_runs → result_of image (inode_parts sup runs inode) ≡ Ok parted
      → (parted.runs ≡ runs + length (inode_runs image sup number inode)) × (parted.runs ≤ most_runs)
  unfolding inode_parts
  parts_counted number inode runs parted read few gives =
      let total : ℕ = runs + length (inode_runs image sup number inode) in
      let end = through_keeps image (section_part sup) (AtSections number inode total) (section_goes_on number inode total read) (sections_of sup inode) (record { parts = []; runs = runs }) parted (at_sections number inode runs few) gives in
      let sum = end.sum in
      (omega (arith, sum), end.few)

  parts_stop : (number : ℕ) (inode : Inode) (runs : ℕ) (e : Refusal) → HasSoundInode image sup number inode → runs ≤ most_runs → (most_runs < runs + length (inode_runs image sup number inode) → IsOverIn image sup volume Runs most_runs)
      → result_of image (inode_parts sup runs inode) ≡ Err e → IsWrongIn image sup volume e
  unfolding inode_parts section_part
  parts_stop number inode runs e has few over is =
      let total : ℕ = runs + length (inode_runs image sup number inode) in
      let stops = through_stops_at image (section_part sup) (AtSections number inode total) (section_goes_on number inode total has.read)
      (sections_of sup inode) (record { parts = []; runs = runs }) e (at_sections number inode runs few) is in
      let section : Section = stops.item in
      let laid_out = part_laid image sup number inode section sound has.read (All-head (Contains (sections_of sup inode)) section stops.rest stops.holds.among) in
      ⊎_elim
      (λ unlaid. wrong section stops.rest stops.state stops.holds e (stream_stops image sup section.stream pointers laid_out.0 stops.state.runs stops.holds.few e unlaid))
      (λ laid. absurd (part_never (with_part stops.state section laid.0) e laid.2))
      (bind_refuses image (stream_blocks sup section.stream stops.state.runs) (λ laid. Done (with_part stops.state section laid)) e stops.is)
    where
      wrong : (section : Section) (left : List Section) (parted : Parted) → AtSections number inode (runs + length (inode_runs image sup number inode)) (section ∷ left) parted → (e : Refusal)
          → StopsStream image sup section.stream (parted.runs + length (stream_starts image sup section.stream)) e → IsWrongIn image sup volume e
      wrong section left parted state e (AtPointer place bad) = BadPointer number inode section place has (All-head (Contains (sections_of sup inode)) section left state.among) bad
      wrong section left parted state e (AtRuns many) =
          let sum = state.sum in
          let long = section_long image sup number section in
          let all = length_more (section_runs image sup number) section left in
          over (omega (arith, many, sum, long, all))

  -- no pointer of a part that was read leads out
  abbrev AreSound : Inode → Type 0
  AreSound inode = (section : Section) (place : ℕ) → Contains (sections_of sup inode) section → HasBadPointer image sup section.stream place → ⊥

  section_walks : Walks image (section_part sup) (λ parted. Unit {0}) (λ before after. Unit {0}) (λ section parted. (place : ℕ) → HasBadPointer image sup section.stream place → ⊥)
  unfolding section_part
  section_walks = record {
    same = λ s. tt;
    more = λ s t u first second. tt;
    stays = λ section s t grows holds. holds;
    steps = λ section parted after holds gives.
        let laid = bind_gives image (stream_blocks sup section.stream parted.runs) (λ laid. Done (with_part parted section laid)) after gives in
        (tt, tt, stream_sound image sup section.stream pointers parted.runs laid.0 laid.1);
  }

  parts_sound : (inode : Inode) (runs : ℕ) (parted : Parted) → result_of image (inode_parts sup runs inode) ≡ Ok parted → AreSound inode
  unfolding inode_parts
  parts_sound inode runs parted gives section place among bad =
      let all = through_walks image (section_part sup) (λ one. Unit {0}) (λ before after. Unit {0}) (λ one found. (where_is : ℕ) → HasBadPointer image sup one.stream where_is → ⊥) section_walks
      (sections_of sup inode) (record { parts = []; runs = runs }) parted tt gives in
      All-contains (λ (one : Section). (where_is : ℕ) → HasBadPointer image sup one.stream where_is → ⊥) (sections_of sup inode) section all.2 among place bad

  -- ---- files

  file_never : (filed : Filed) (e : Refusal) → (let r : Result Filed Refusal = Ok filed in r ≡ Err e) → ⊥
  file_never filed e same = absurd cc

  -- in front of some numbers, with the runs of those
  record AtNumbers (numbers : List ℕ) (total : ℕ) (left : List ℕ) (filed : Filed) : Type 0 where
    among : All (Contains numbers) left
    sum : total ≡ filed.runs + length (flat_map (number_runs image sup) left)
    few : filed.runs ≤ most_runs

  at_numbers : (numbers : List ℕ) → AtNumbers numbers (length (flat_map (number_runs image sup) numbers)) numbers (record { files = []; runs = 0 })
  at_numbers numbers = record { among = All-contains_itself numbers; sum = omega arith; few = omega arith }

  number_goes_on : (names : List Named) (numbers : List ℕ) (total number : ℕ) (left : List ℕ) (filed after : Filed) → AtNumbers numbers total (number ∷ left) filed → result_of image (number_file sup volume names filed number) ≡ Ok after
      → AtNumbers numbers total left after
  unfolding number_file
  number_goes_on names numbers total number left filed after state gives =
      let read = bind_gives image (inode_at sup number) (λ inode. inode_parts sup filed.runs inode >>= (λ parted. Done (with_file sup volume names filed number inode parted))) after gives in
      let parted = bind_gives image (inode_parts sup filed.runs read.0) (λ parted. Done (with_file sup volume names filed number read.0 parted)) after read.2 in
      let R : Inode → Type 0 = λ inode. parted.0.runs ≡ filed.runs + length (inode_runs image sup number inode) in
      let counted = parts_counted number read.0 filed.runs parted.0 read.1 state.few parted.1 in
      let count : parted.0.runs ≡ filed.runs + length (number_runs image sup number) = subst R (sym (inode_read image sup number read.0 read.1).is) counted.0 in
      let sum = state.sum in
      let all = length_more (number_runs image sup) number left in
      let P : Filed → Type 0 = λ f. AtNumbers numbers total left f in
      subst P (same_value {E = Refusal} (with_file sup volume names filed number read.0 parted.0) after parted.2)
      (record { among = All-tail (Contains numbers) number left state.among; sum = omega (arith, sum, all, count); few = counted.1 })

  -- the runs of all files are counted
  pub files_counted : (names : List Named) (filed : Filed) → result_of image (named_files sup volume names) ≡ Ok filed → length (flat_map (number_runs image sup) (numbers_of names)) ≤ most_runs
  unfolding named_files
  files_counted names filed gives =
      let numbers : List ℕ = numbers_of names in
      let end = through_keeps image (number_file sup volume names) (AtNumbers numbers (length (flat_map (number_runs image sup) numbers))) (number_goes_on names numbers (length (flat_map (number_runs image sup) numbers)))
      numbers (record { files = []; runs = 0 }) filed (at_numbers numbers) gives in
      let sum = end.sum in
      let few = end.few in
      omega (arith, sum, few)

  pub files_stop : (walk : Walk) (e : Refusal) → HasNames image sup volume sound walk → result_of image (named_files sup volume walk.names) ≡ Err e → IsWrongIn image sup volume e
  unfolding named_files number_file
  files_stop walk e names is =
      let numbers : List ℕ = numbers_of walk.names in
      let total : ℕ = length (flat_map (number_runs image sup) numbers) in
      let stops = through_stops_at image (number_file sup volume walk.names) (AtNumbers numbers total) (number_goes_on walk.names numbers total) numbers (record { files = []; runs = 0 }) e (at_numbers numbers) is in
      let number : ℕ = stops.item in
      let filed : Filed = stops.state in
      let found = file_number walk names number (All-head (Contains numbers) number stops.rest stops.holds.among) in
      let rest : Inode → Ask Refusal Filed = λ inode. inode_parts sup filed.runs inode >>= (λ parted. Done (with_file sup volume walk.names filed number inode parted)) in
      let sum = stops.holds.sum in
      let all = length_more (number_runs image sup) number stops.rest in
      ⊎_elim
      (λ unread. absurd (not_both found.0 e (result_of image (inode_at sup number)) found.1.read unread))
      (λ read.
      let same : found.0 ≡ read.0 = same_value {E = Refusal} found.0 read.0 (sym found.1.read ∙ read.1) in
      let P : Inode → Type 0 = λ inode. HasSoundInode image sup number inode in
      let has : HasSoundInode image sup number read.0 = subst P same found.1 in
      let L : Inode → Type 0 = λ inode. length (number_runs image sup number) ≡ length (inode_runs image sup number inode) in
      let long : length (number_runs image sup number) ≡ length (inode_runs image sup number read.0) = subst L has.has.is refl in
      ⊎_elim
      (λ no_parts.
      parts_stop number read.0 filed.runs e has stops.holds.few
      (λ over. many_runs image sup pointers volume numbers (numbers_distinct walk.names) (file_number walk names) (omega (arith, over, sum, all, long))) no_parts)
      (λ parted. absurd (file_never (with_file sup volume walk.names filed number read.0 parted.0) e parted.2))
      (bind_refuses image (inode_parts sup filed.runs read.0) (λ parted. Done (with_file sup volume walk.names filed number read.0 parted)) e read.2))
      (bind_refuses image (inode_at sup number) rest e stops.is)

  -- the pointers of each file that was read are sound
  IsSoundNumber : ℕ → Type 0
  IsSoundNumber number = (inode : Inode) → result_of image (inode_at sup number) ≡ Ok inode → AreSound inode

  number_walks : (names : List Named) → Walks image (number_file sup volume names) (λ filed. Unit {0}) (λ before after. Unit {0}) (λ number filed. IsSoundNumber number)
  unfolding number_file IsSoundNumber
  number_walks names = record {
    same = λ s. tt;
    more = λ s t u first second. tt;
    stays = λ number s t grows holds. holds;
    steps = λ number filed after holds gives.
        let read = bind_gives image (inode_at sup number) (λ inode. inode_parts sup filed.runs inode >>= (λ parted. Done (with_file sup volume names filed number inode parted))) after gives in
        let parted = bind_gives image (inode_parts sup filed.runs read.0) (λ parted. Done (with_file sup volume names filed number read.0 parted)) after read.2 in (
          tt,
          tt,
          λ inode is.
              let same : read.0 ≡ inode = same_value {E = Refusal} read.0 inode (sym read.1 ∙ is) in
              subst AreSound same (parts_sound read.0 filed.runs parted.0 parted.1),
        );
  }

  pub files_sound : (names : List Named) (filed : Filed) → result_of image (named_files sup volume names) ≡ Ok filed → (number : ℕ) (inode : Inode) (section : Section) (place : ℕ) → Contains (numbers_of names) number
      → result_of image (inode_at sup number) ≡ Ok inode → Contains (sections_of sup inode) section → HasBadPointer image sup section.stream place → ⊥
  unfolding named_files IsSoundNumber
  files_sound names filed gives number inode section place has read among bad =
      let all = through_walks image (number_file sup volume names) (λ one. Unit {0}) (λ before after. Unit {0}) (λ one found. IsSoundNumber one) (number_walks names) (numbers_of names) (record { files = []; runs = 0 }) filed tt gives in
      All-contains IsSoundNumber (numbers_of names) number all.2 has inode read section place among bad
