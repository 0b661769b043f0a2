-- A write over bytes and behind them, and what is recorded of one.
use Rattle.std.proofs.Common.{◌≡◌, Bool, Result, OnErr, subst, ℕ, ◌+◌, ◌-◌, ◌≤◌, min, All, List, [], ◌∷◌, ◌++◌, length, take, drop, map, reverse, refl, ◌∙◌, ap, arith, length-append, length-drop}
use Rattle.std.proofs.lemmas.List.{reverse-append, map-append, take-append-le, take_all, drop_all, append-nil}
use Rattle.std.proofs.lemmas.List.Elements.{All-head, All-tail}
use Rattle.std.proofs.lemmas.Grind.{common_steps}
use Rattle.bytes_defs.specs.Bytes.{part}
use Rattle.disk_defs.specs.Story.{Held, Story, Change, Event, overwritten, Made, and_then}
use Rattle.disk_defs.specs.Disk.{state_told, state_after}
use Rattle.disk_defs.specs.Memory.{StoreInMemory, state_in_memory, IsRefused, has_room}
use Rattle.disk_defs.specs.Count.{one_more}
use Rattle.disk_defs.proofs.StreamLaws.{on_err}
use Rattle.disk_defs.proofs.StoryLaws.{MayChange, state_told_after}
use Rattle.disk_defs.specs.declared.Area.{Area}
use Rattle.disk_defs.specs.Story as story
use Rattle.rx_store.proofs.Taken.{take-length-drop}
use Rattle.rx_store.specs.Changes.{change_of, IsInLog, events_of}
use Rattle.rx_store.specs.declared.changes.Recorded.{Recorded}
use Rattle.rx_store.specs.declared.changes.Recorded.TheVariants.{Write, Cut, Sync}

drop-grown : (old piece : List ℕ) (at : ℕ) → at ≤ length old
    → drop (at + length piece) (old ++ drop (min (length piece) (length old - at)) piece) ≡ drop (at + length piece) old
drop-grown old piece at within = grind (arith, common_steps)

-- bytes that were made long enough for a write, and then written over, are written over at once
pub overwritten-grown : (old piece : List ℕ) (at : ℕ) → at ≤ length old
    → overwritten (old ++ drop (min (length piece) (length old - at)) piece) at piece ≡ overwritten old at piece
unfolding overwritten
overwritten-grown old piece at within =
    ap (λ front. front ++ (piece ++ drop (at + length piece) (old ++ drop (min (length piece) (length old - at)) piece))) (take-append-le at old _ within)
    ∙ ap (λ back. take at old ++ (piece ++ back)) (drop-grown old piece at within)

pub length-overwritten : (old piece : List ℕ) (at : ℕ) → at + length piece ≤ length old → length (overwritten old at piece) ≡ length old
unfolding overwritten
length-overwritten old piece at within = grind (arith, common_steps)

part-more : (log more : List ℕ) (from len : ℕ) → from + len ≤ length log → part (log ++ more) from len ≡ part log from len
unfolding part
part-more log more from len within = grind (arith, common_steps)

part-last : (log bytes : List ℕ) → part (log ++ bytes) (length log) (length bytes) ≡ bytes
unfolding part
part-last log bytes = grind (arith, common_steps)

-- what a vector holds after it was made long enough and its slice was written over
pub written_from : (old piece items slice new : List ℕ) (at len inside : ℕ) → at ≤ length old → inside ≡ min (length piece) (length old - at)
    → items ≡ old ++ take (length piece - inside) (drop inside piece) → slice ≡ items → len ≡ length items
    → new ≡ overwritten slice at piece → take len (new ++ drop (length new) items) ≡ overwritten old at piece
written_from old piece items slice new at len inside within inside_is items_are slice_is len_is new_is =
    let all : items ≡ old ++ drop (min (length piece) (length old - at)) piece =
    items_are ∙ ap (λ back. old ++ back) (take-length-drop inside piece) ∙ ap (λ n. old ++ drop n piece) inside_is in
    let fits : at + length piece ≤ length items =
    omega (arith, inside_is, ap length items_are ∙ length-append old (take (length piece - inside) (drop inside piece)), ap length (take-length-drop inside piece), length-drop inside piece) in
    let is : new ≡ overwritten items at piece = new_is ∙ ap (λ list. overwritten list at piece) slice_is in
    let same : length new ≡ length items = ap length is ∙ length-overwritten items piece at fits in
    let front : take len new ≡ new = take_all len new (omega (arith, same, len_is)) in
    let back : drop (length new) items ≡ [] = drop_all (length new) items (omega (arith, same)) in
    ap (λ back. take len (new ++ back)) back ∙ ap (take len) (append-nil new) ∙ front
    ∙ is ∙ ap (λ list. overwritten list at piece) all ∙ overwritten-grown old piece at within

-- one more record with more bytes in the log
events_of-before : (log more : List ℕ) (records : List Recorded) → All (IsInLog log) records
    → map (λ recorded. Made (change_of (log ++ more) recorded)) records ≡ map (λ recorded. Made (change_of log recorded)) records
events_of-before log more [] inside = refl
events_of-before log more (Write area at from len ∷ records) inside =
    ap (λ part. Made (story.Write area at part) ∷ map (λ recorded. Made (change_of (log ++ more) recorded)) records)
    (part-more log more from len (All-head (IsInLog log) (Write area at from len) records inside))
    ∙ ap (λ rest. Made (story.Write area at (part log from len)) ∷ rest)
    (events_of-before log more records (All-tail (IsInLog log) (Write area at from len) records inside))
events_of-before log more (Cut len ∷ records) inside =
    ap (λ rest. Made (story.Cut len) ∷ rest) (events_of-before log more records (All-tail (IsInLog log) (Cut len) records inside))
events_of-before log more (Sync ∷ records) inside =
    ap (λ rest. Made story.Sync ∷ rest) (events_of-before log more records (All-tail (IsInLog log) Sync records inside))

pub events_of-more : (log more : List ℕ) (records : List Recorded) (recorded : Recorded) → All (IsInLog log) records
    → events_of (log ++ more) (records ++ recorded ∷ []) ≡ Made (change_of (log ++ more) recorded) ∷ events_of log records
events_of-more log more records recorded inside =
    ap reverse (map-append (λ recorded. Made (change_of (log ++ more) recorded)) records (recorded ∷ []))
    ∙ reverse-append (map (λ recorded. Made (change_of (log ++ more) recorded)) records) (Made (change_of (log ++ more) recorded) ∷ [])
    ∙ ap (λ before. Made (change_of (log ++ more) recorded) ∷ reverse before) (events_of-before log more records inside)

abbrev told : Held → List Event → Story
told first events = record { first = first; events = events }

-- the past that is recorded after one more write
pub recorded_write : (first : Held) (log log' bytes : List ℕ) (records records' : List Recorded) (area : Area) (at from len : ℕ)
    → log' ≡ log ++ bytes → records' ≡ records ++ Write area at from len ∷ [] → from ≡ length log → len ≡ length bytes → All (IsInLog log) records
    → told first (events_of log' records') ≡ told first (Made (story.Write area at bytes) ∷ events_of log records)
recorded_write first log log' bytes records records' area at from len log_is records_are from_is len_is inside =
    let last : part (log ++ bytes) from len ≡ bytes = ap (λ place. part (log ++ bytes) place len) from_is ∙ ap (part (log ++ bytes) (length log)) len_is ∙ part-last log bytes in
    ap (told first) (ap (λ text. events_of text records') log_is ∙ ap (events_of (log ++ bytes)) records_are
    ∙ events_of-more log bytes records (Write area at from len) inside
    ∙ ap (λ written. Made (story.Write area at written) ∷ events_of log records) last)

-- a store in memory whose past has one more change is the store after that change
pub state_changed : (change : Change) (inside new : Story) (now : StoreInMemory) → inside ≡ now.story → new ≡ and_then (Made change) inside
    → MayChange change (state_in_memory now) → state_told new ≡ state_after change (state_in_memory now)
state_changed change inside new now inside_is new_is may =
    ap state_told (new_is ∙ ap (and_then (Made change)) inside_is) ∙ state_told_after change now.story may

-- a change that was refused, seen from the store
pub refused_change : {T E : Type 0} (result : Result T E) (inside now : StoreInMemory) (failing : List ℕ) (calls : ℕ) (change : Change) (answer : Bool)
    → inside ≡ now → failing ≡ inside.failing → calls ≡ inside.calls → answer ≡ has_room change now.room → IsRefused failing (one_more calls) answer
    → OnErr result (IsRefused now.failing (one_more now.calls) (has_room change now.room))
refused_change result inside now failing calls change answer is failing_is calls_is room refused =
    on_err result (subst (λ answer. IsRefused now.failing (one_more now.calls) answer) room
    (subst (λ call. IsRefused now.failing (one_more call) answer) (calls_is ∙ ap (λ (store : StoreInMemory). store.calls) is)
    (subst (λ list. IsRefused list (one_more calls) answer) (failing_is ∙ ap (λ (store : StoreInMemory). store.failing) is) refused)))
