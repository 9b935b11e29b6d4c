-- The threads that a hold concerns, and their counts.
use Rattle.std.proofs.Common.{
  ◌≡◌,
  ◌≤◌,
  ◌<◌,
  ℕ,
  suc,
  ◌+◌,
  ◌==◌,
  List,
  [],
  ◌∷◌,
  ◌++◌,
  map,
  length,
  take,
  drop,
  Bool,
  true,
  false,
  ◌||◌,
  refl,
  sym,
  ap,
  ◌∙◌,
  subst,
  arith,
  true≢false,
  eqb-true,
  ne_eqb,
  get_or,
  set,
  if◌then◌else◌,
  length-take,
}
use Rattle.std.proofs.lemmas.Bool.Decides.{nat_tests}
use Rattle.std.proofs.lemmas.List.{drop-append-le, length-set, reverse-append, take-append-drop, take-append-le, take_all, take_more}
use Rattle.std.specs.Prelude.{zero, Option, Some, None, slice_get, reverse}
use Rattle.std.specs.List.{list_any}
use Rattle.session_model.specs.declared.entry.Entry.{Entry}
use Rattle.session_model.specs.declared.entry.Entry.TheVariants as entry
use Rattle.session_model.specs.declared.event.Event.TheVariants.{Submit, Send, Take, Cancel, End}
use Rattle.session_seats.specs.declared.wakes.LaneSet.{LaneSet}
use Rattle.session_seats.specs.declared.wakes.LaneSet.TheVariants as lane_set
use Rattle.session_seats.specs.declared.wakes.Tide.{Tide}
use Rattle.session_seats.specs.declared.wakes.Waiter.{Waiter}
use Rattle.session_seats.specs.declared.wakes.Waiter.TheVariants as waiter
use Rattle.session_seats.specs.declared.wakes.WakeSet.{WakeSet}
use Rattle.session_seats.specs.Wakes.{
  ChangeCounts,
  answers_lane,
  concerns,
  count_of,
  count_or,
  counts_after,
  entries_concern,
  everybody,
  is_reply,
  is_request,
  lane_union,
  lanes_of,
  nobody,
  with_entry,
  next_count,
  raised_at,
  raised_if,
  raised_in,
  replied_lanes,
  submitter,
  wakes,
  wakes_at,
  wakes_lane,
  wakes_reader,
}

-- ---- A hold that concerns nobody

no_tide : (p q w : Bool) (s : WakeSet) → (if p then (if q then (if w then s else record s { reader = true })
    else record s { sender = true; reader = true }) else everybody) ≡ nobody
    → (p ≡ true) × (q ≡ true) × (w ≡ true) × (s ≡ nobody)
no_tide true true true s h = (refl, refl, refl, h)
no_tide true true false s h = absurd (true≢false (ap (λ (x : WakeSet). x.reader) h))
no_tide true false w s h = absurd (true≢false (ap (λ (x : WakeSet). x.reader) h))
no_tide false q w s h = absurd (true≢false (ap (λ (x : WakeSet). x.reader) h))

no_entry : (e : Entry) (past : List Entry) (s : WakeSet) → with_entry e past s ≡ nobody
    → (is_request e ≡ false) × (is_reply e ≡ false) × (s ≡ nobody)
no_entry (entry.Event (Submit o id r)) past s h = absurd (true≢false (ap (λ (x : WakeSet). x.sender) h))
no_entry (entry.Event Send) past s h = (refl, refl, h)
no_entry (entry.Event (Take id r)) past s h = absurd (true≢false (ap (λ (x : WakeSet). x.reader) h))
no_entry (entry.Event (Cancel lane)) past s h = (refl, refl, h)
no_entry (entry.Event (End lane call o)) past s h = (refl, refl, h)
no_entry (entry.Added lane call) past s h = (refl, refl, h)
no_entry (entry.LetGo lane) past s h = (refl, refl, h)
no_entry (entry.Kept fault) past s h = (refl, refl, h)

no_entries : (more past : List Entry) → entries_concern more past ≡ nobody
    → (list_any is_request more ≡ false) × (list_any is_reply more ≡ false)
no_entries [] past h = (refl, refl)
no_entries (e ∷ more) past h =
    let one = no_entry e (more ++ past) (entries_concern more past) h in
    let rest = no_entries more past one.2 in (λ i. one.0 i || rest.0 i, λ i. one.1 i || rest.1 i)

pub quiet : (before after : Tide) (more past : List Entry) → concerns before after more past ≡ nobody
    → (after.written ≡ before.written) × (after.stage ≡ before.stage) × (after.phase ≡ before.phase)
    × (list_any is_request more ≡ false) × (list_any is_reply more ≡ false)
quiet before after more past h =
    let t = no_tide (after.phase == before.phase) (after.stage == before.stage) (after.written == before.written)
    (entries_concern more past) h in
    let e = no_entries more past t.3 in (
      eqb-true after.written before.written t.2,
      eqb-true after.stage before.stage t.1,
      eqb-true after.phase before.phase t.0,
      e.0,
      e.1,
    )

-- ---- A hold that does not concern one thread

abbrev by_tests : Bool → Bool → Bool → WakeSet → WakeSet
by_tests p q w s = if p then (if q then (if w then s else record s { reader = true })
    else record s { sender = true; reader = true }) else everybody

no_sender : (p q w : Bool) (s : WakeSet) → (by_tests p q w s).sender ≡ false
    → (p ≡ true) × (q ≡ true) × (s.sender ≡ false)
no_sender true true true s h = (refl, refl, h)
no_sender true true false s h = (refl, refl, h)
no_sender true false w s h = absurd (true≢false h)
no_sender false q w s h = absurd (true≢false h)

no_reader : (p q w : Bool) (s : WakeSet) → (by_tests p q w s).reader ≡ false
    → (p ≡ true) × (q ≡ true) × (w ≡ true) × (s.reader ≡ false)
no_reader true true true s h = (refl, refl, refl, h)
no_reader true true false s h = absurd (true≢false h)
no_reader true false w s h = absurd (true≢false h)
no_reader false q w s h = absurd (true≢false h)

no_lane : (lane : ℕ) (p q w : Bool) (s : WakeSet) → wakes_lane lane (by_tests p q w s).lanes ≡ false
    → (p ≡ true) × (wakes_lane lane s.lanes ≡ false)
no_lane lane true true true s h = (refl, h)
no_lane lane true true false s h = (refl, h)
no_lane lane true false w s h = (refl, h)
no_lane lane false q w s h = absurd (true≢false h)

sender_entry : (e : Entry) (past : List Entry) (s : WakeSet) → (with_entry e past s).sender ≡ false
    → (is_request e ≡ false) × (s.sender ≡ false)
sender_entry (entry.Event (Submit o id r)) past s h = absurd (true≢false h)
sender_entry (entry.Event Send) past s h = (refl, h)
sender_entry (entry.Event (Take id r)) past s h = (refl, h)
sender_entry (entry.Event (Cancel lane)) past s h = (refl, h)
sender_entry (entry.Event (End lane call o)) past s h = (refl, h)
sender_entry (entry.Added lane call) past s h = (refl, h)
sender_entry (entry.LetGo lane) past s h = (refl, h)
sender_entry (entry.Kept fault) past s h = (refl, h)

reader_entry : (e : Entry) (past : List Entry) (s : WakeSet) → (with_entry e past s).reader ≡ false
    → (is_reply e ≡ false) × (s.reader ≡ false)
reader_entry (entry.Event (Submit o id r)) past s h = (refl, h)
reader_entry (entry.Event Send) past s h = (refl, h)
reader_entry (entry.Event (Take id r)) past s h = absurd (true≢false h)
reader_entry (entry.Event (Cancel lane)) past s h = (refl, h)
reader_entry (entry.Event (End lane call o)) past s h = (refl, h)
reader_entry (entry.Added lane call) past s h = (refl, h)
reader_entry (entry.LetGo lane) past s h = (refl, h)
reader_entry (entry.Kept fault) past s h = (refl, h)

one_of_two : (k a b : ℕ) (same : Bool) → same ≡ (a == b)
    → wakes_lane k (if same then lane_set.One a else lane_set.All) ≡ false
    → ((a == k) ≡ false) × ((b == k) ≡ false)
one_of_two k a b true is h =
    (h, subst (λ (j : ℕ). (j == k) ≡ false) (eqb-true a b (sym is)) h)
one_of_two k a b false is h = absurd (true≢false h)

neither : (k : ℕ) (a b : LaneSet) → wakes_lane k (lane_union a b) ≡ false
    → (wakes_lane k a ≡ false) × (wakes_lane k b ≡ false)
neither k lane_set.Empty b h = (refl, h)
neither k lane_set.All b h = absurd (true≢false h)
neither k (lane_set.One a) lane_set.Empty h = (h, refl)
neither k (lane_set.One a) lane_set.All h = absurd (true≢false h)
neither k (lane_set.One a) (lane_set.One b) h = one_of_two k a b (a == b) refl h

lane_entry : (k : ℕ) (e : Entry) (past : List Entry) (s : WakeSet) → wakes_lane k (with_entry e past s).lanes ≡ false
    → (wakes_lane k (replied_lanes e past) ≡ false) × (wakes_lane k s.lanes ≡ false)
lane_entry k (entry.Event (Submit o id r)) past s h = (refl, h)
lane_entry k (entry.Event Send) past s h = (refl, h)
lane_entry k (entry.Event (Take id r)) past s h = neither k (lanes_of (submitter id past)) s.lanes h
lane_entry k (entry.Event (Cancel lane)) past s h = (refl, h)
lane_entry k (entry.Event (End lane call o)) past s h = (refl, h)
lane_entry k (entry.Added lane call) past s h = (refl, h)
lane_entry k (entry.LetGo lane) past s h = (refl, h)
lane_entry k (entry.Kept fault) past s h = (refl, h)

sender_entries : (more past : List Entry) → (entries_concern more past).sender ≡ false
    → list_any is_request more ≡ false
sender_entries [] past h = refl
sender_entries (e ∷ more) past h =
    let one = sender_entry e (more ++ past) (entries_concern more past) h in
    let rest = sender_entries more past one.1 in λ i. one.0 i || rest i

reader_entries : (more past : List Entry) → (entries_concern more past).reader ≡ false
    → list_any is_reply more ≡ false
reader_entries [] past h = refl
reader_entries (e ∷ more) past h =
    let one = reader_entry e (more ++ past) (entries_concern more past) h in
    let rest = reader_entries more past one.1 in λ i. one.0 i || rest i

lane_entries : (k : ℕ) (more past : List Entry) → wakes_lane k (entries_concern more past).lanes ≡ false
    → answers_lane k more past ≡ false
lane_entries k [] past h = refl
lane_entries k (e ∷ more) past h =
    let one = lane_entry k e (more ++ past) (entries_concern more past) h in
    let rest = lane_entries k more past one.1 in λ i. one.0 i || rest i

pub sender_quiet : (before after : Tide) (more past : List Entry) → (concerns before after more past).sender ≡ false
    → (after.stage ≡ before.stage) × (after.phase ≡ before.phase) × (list_any is_request more ≡ false)
sender_quiet before after more past h =
    let t = no_sender (after.phase == before.phase) (after.stage == before.stage) (after.written == before.written)
    (entries_concern more past) h in (
      eqb-true after.stage before.stage t.1,
      eqb-true after.phase before.phase t.0,
      sender_entries more past t.2,
    )

pub reader_quiet : (before after : Tide) (more past : List Entry) → (concerns before after more past).reader ≡ false
    → (after.written ≡ before.written) × (after.stage ≡ before.stage) × (after.phase ≡ before.phase)
    × (list_any is_reply more ≡ false)
reader_quiet before after more past h =
    let t = no_reader (after.phase == before.phase) (after.stage == before.stage) (after.written == before.written)
    (entries_concern more past) h in (
      eqb-true after.written before.written t.2,
      eqb-true after.stage before.stage t.1,
      eqb-true after.phase before.phase t.0,
      reader_entries more past t.3,
    )

pub lane_quiet : (before after : Tide) (more past : List Entry) (lane : ℕ)
    → wakes_lane lane (concerns before after more past).lanes ≡ false
    → (after.phase ≡ before.phase) × (answers_lane lane more past ≡ false)
lane_quiet before after more past lane h =
    let t = no_lane lane (after.phase == before.phase) (after.stage == before.stage)
    (after.written == before.written) (entries_concern more past) h in (
      eqb-true after.phase before.phase t.0,
      lane_entries lane more past t.1,
    )

-- ---- Counts

abbrev raised_some : Bool → Option ℕ → Option ℕ
raised_some b None = None
raised_some b (Some n) = Some (raised_if b n)

get_none : (ns : List ℕ) (k : ℕ) → slice_get ns k ≡ raised_some false (slice_get ns k)
get_none [] k = refl
get_none (n ∷ ns) zero = refl
get_none (n ∷ ns) (suc k) = get_none ns k

get_all : (ns : List ℕ) (k : ℕ) → slice_get (map next_count ns) k ≡ raised_some true (slice_get ns k)
get_all [] k = refl
get_all (n ∷ ns) zero = refl
get_all (n ∷ ns) (suc k) = get_all ns k

zero_suc : (k : ℕ) → (0 == suc k) ≡ false
zero_suc k = ne_eqb 0 (suc k) (λ is. omega arith)

suc_zero : (j : ℕ) → (suc j == 0) ≡ false
suc_zero j = ne_eqb (suc j) 0 (λ is. omega arith)

suc_suc : (j k : ℕ) → (j == k) ≡ (suc j == suc k)
suc_suc j k = grind (arith, nat_tests)

get_one : (j : ℕ) (ns : List ℕ) (k : ℕ) → slice_get (raised_at j ns) k ≡ raised_some (j == k) (slice_get ns k)
get_one j [] k = refl
get_one zero (n ∷ ns) zero = refl
get_one zero (n ∷ ns) (suc k) =
    get_none ns k ∙ ap (λ (b : Bool). raised_some b (slice_get ns k)) (sym (zero_suc k))
get_one (suc j) (n ∷ ns) zero = ap (λ (b : Bool). Some (raised_if b n)) (sym (suc_zero j))
get_one (suc j) (n ∷ ns) (suc k) =
    get_one j ns k ∙ ap (λ (b : Bool). raised_some b (slice_get ns k)) (suc_suc j k)

get_in : (s : LaneSet) (ns : List ℕ) (k : ℕ) → slice_get (raised_in s ns) k
    ≡ raised_some (wakes_lane k s) (slice_get ns k)
get_in lane_set.Empty ns k = get_none ns k
get_in (lane_set.One lane) ns k = get_one lane ns k
get_in lane_set.All ns k = get_all ns k

lane_count : (found : Option ℕ) (lane count reader : ℕ) (s : WakeSet)
    → count_or (raised_some (wakes_lane lane s.lanes) found) (raised_if (wakes_reader count s) reader)
    ≡ raised_if (wakes_at found count lane s) (count_or found reader)
lane_count (Some n) lane count reader s = refl
lane_count None lane count reader s = refl

pub counts_up : (who : Waiter) (s : WakeSet) (g : ChangeCounts) → count_of who (counts_after s g)
    ≡ raised_if (wakes who g s) (count_of who g)
counts_up waiter.Sender s g = refl
counts_up waiter.Reader s g = refl
counts_up (waiter.Lane lane) s g =
    ap (λ (o : Option ℕ). count_or o (raised_if (wakes_reader (length g.lanes) s) g.reader))
    (get_in s.lanes g.lanes lane)
    ∙ lane_count (slice_get g.lanes lane) lane (length g.lanes) g.reader s

-- ---- The code of the counts

pub set_raised : (ns : List ℕ) (k x : ℕ) → k < length ns → get_or ns k 0 ≡ x → set ns k (next_count x) ≡ raised_at k ns
set_raised [] k x lt is = absurd (omega arith)
set_raised (n ∷ ns) zero x lt is = ap (λ (y : ℕ). next_count y ∷ ns) (sym is)
set_raised (n ∷ ns) (suc k) x lt is = ap (λ (l : List ℕ). n ∷ l) (set_raised ns k x (omega arith) is)

pub raised_beyond : (ns : List ℕ) (k : ℕ) → length ns ≤ k → ns ≡ raised_at k ns
raised_beyond [] k le = refl
raised_beyond (n ∷ ns) zero le = absurd (omega arith)
raised_beyond (n ∷ ns) (suc k) le = ap (λ (l : List ℕ). n ∷ l) (raised_beyond ns k (omega arith))

-- The counts before the place are raised, and the others are not yet.
pub record Raising (before now : List ℕ) (i : ℕ) : Type 0 where
  pub up : take i now ≡ map next_count (take i before)
  pub left : drop i now ≡ drop i before
  pub long : length now ≡ length before

raising_next : (before now : List ℕ) (i x : ℕ) → i < length now → get_or now i 0 ≡ x
    → take i now ≡ map next_count (take i before) → drop i now ≡ drop i before
    → (take (suc i) (set now i (next_count x)) ≡ map next_count (take (suc i) before))
    × (drop (suc i) (set now i (next_count x)) ≡ drop (suc i) before)
raising_next before [] i x lt is up left = absurd (omega arith)
raising_next before (n ∷ ns) zero x lt is up left =
    subst (λ (b : List ℕ). (next_count x ∷ [] ≡ map next_count (take 1 b)) × (ns ≡ drop 1 b)) left
    (ap (λ (y : ℕ). next_count y ∷ []) (sym is), refl)
raising_next [] (n ∷ ns) (suc i) x lt is up left =
    let none = ap (λ (l : List ℕ). length l) up in absurd (omega arith)
raising_next (b ∷ bs) (n ∷ ns) (suc i) x lt is up left =
    let head : n ≡ next_count b = ap (λ (l : List ℕ). get_or l 0 n) up in
    let tail : take i ns ≡ map next_count (take i bs) = ap (λ (l : List ℕ). drop 1 l) up in
    let next = raising_next bs ns i x (omega arith) is tail left in (λ j. head j ∷ next.0 j, next.1)

pub raising : (before now : List ℕ) (i x : ℕ) → i < length now → get_or now i 0 ≡ x → Raising before now i
    → Raising before (set now i (next_count x)) (i + 1)
raising before now i x lt is h =
    let next = raising_next before now i x lt is h.up h.left in
    let to : suc i ≡ i + 1 = omega arith in record {
      up = subst (λ (k : ℕ). take k (set now i (next_count x)) ≡ map next_count (take k before)) to next.0;
      left = subst (λ (k : ℕ). drop k (set now i (next_count x)) ≡ drop k before) to next.1;
      long = length-set now i (next_count x) ∙ h.long;
    }

pub raising_none : (before : List ℕ) → Raising before before 0
raising_none before = record { up = refl; left = refl; long = refl }

pub raising_all : (before now : List ℕ) (i : ℕ) → length before ≤ i → Raising before now i → now ≡ map next_count before
raising_all before now i le h =
    let far = h.long in
    sym (take_all i now (omega arith)) ∙ h.up ∙ ap (λ (l : List ℕ). map next_count l) (take_all i before le)

-- ---- The code of the entries

concerns_next : (journal : List Entry) (from place : ℕ) (x : Entry) → from ≤ place → place < length journal
    → x ≡ get_or journal place x
    → entries_concern (reverse (drop from (take (place + 1) journal))) (reverse (take from journal))
    ≡ with_entry x (reverse (take place journal))
    (entries_concern (reverse (drop from (take place journal))) (reverse (take from journal)))
concerns_next journal from place x low lt is =
    let old = reverse (take from journal) in
    let added = drop from (take place journal) in
    let size : from ≤ length (take place journal) = omega (arith, length-take place journal, low, lt) in
    let more : drop from (take (place + 1) journal) ≡ added ++ x ∷ [] =
    ap (λ (l : List Entry). drop from l) (take_more journal place x lt
    ∙ ap (λ (y : Entry). take place journal ++ y ∷ []) (sym is))
    ∙ drop-append-le from (take place journal) (x ∷ []) size in
    let first : take from journal ≡ take from (take place journal) =
    ap (λ (l : List Entry). take from l) (sym (take-append-drop place journal))
    ∙ take-append-le from (take place journal) (drop place journal) size in
    let whole : reverse added ++ old ≡ reverse (take place journal) =
    sym (reverse-append (take from journal) added)
    ∙ ap (λ (l : List Entry). reverse (l ++ added)) first
    ∙ ap (λ (l : List Entry). reverse l) (take-append-drop from (take place journal)) in
    ap (λ (l : List Entry). entries_concern l old) (ap (λ (l : List Entry). reverse l) more
    ∙ reverse-append added (x ∷ []))
    ∙ ap (λ (p : List Entry). with_entry x p (entries_concern (reverse added) old)) whole

pub concerns_step : (journal : List Entry) (from place : ℕ) (x : Entry) (r s : WakeSet) → from ≤ place
    → place < length journal → x ≡ get_or journal place x
    → s ≡ entries_concern (reverse (drop from (take place journal))) (reverse (take from journal))
    → r ≡ with_entry x (reverse (take place journal)) s
    → r ≡ entries_concern (reverse (drop from (take (place + 1) journal))) (reverse (take from journal))
concerns_step journal from place x r s low lt at was is =
    is
    ∙ ap (λ (z : WakeSet). with_entry x (reverse (take place journal)) z) was
    ∙ sym (concerns_next journal from place x low lt at)
