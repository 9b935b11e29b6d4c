-- A grant has one CLOSE at most, and where it has one, nothing holds it any more.
use Rattle.std.proofs.Common.{
  ◌≡◌,
  ◌≢◌,
  ◌<◌,
  ◌≤◌,
  ℕ,
  ◌+◌,
  ◌==◌,
  Bool,
  true,
  false,
  List,
  [],
  ◌∷◌,
  ◌++◌,
  Option,
  Some,
  None,
  refl,
  ap,
  sym,
  ◌∙◌,
  subst,
  arith,
  if◌then◌else◌,
  inl,
  inr,
}
use Rattle.std.specs.Prelude.{◌||◌, ◌&&◌, not, length, MatchOption}
use Rattle.std.specs.List.{list_any, count_by}
use Rattle.std.proofs.lemmas.Bool.{eq-eqb, or_cases, or_parts, or_left, or_right, both_ways, false_from_ne_true, cases_lt}
use Rattle.std.proofs.lemmas.Bool.Decides.{eqb_tells}
use Rattle.std.proofs.lemmas.List.Sums.{sum_by-cons}
use Rattle.std.proofs.lemmas.Option.{slice_get_past}
use Rattle.sftp_model.specs.declared.request.Request.{Request}
use Rattle.sftp_model.specs.declared.request.Request.TheVariants as request
use Rattle.sftp_model.specs.declared.slot.Site.{Site}
use Rattle.sftp_model.specs.declared.slot.Slot.{Slot}
use Rattle.sftp_model.specs.declared.slot.Slot.TheVariants.{Empty, File, Buffered}
use Rattle.sftp_model.specs.Slots.{slot_has, has_grant}
use Rattle.plan_model.specs.Moves.{Own, handle_of}
use Rattle.plan_model.specs.GoodMoves.{ClosesGrant}
use Rattle.plan_model.proofs.SlotLaws.{slot_held}
use Rattle.session_model.specs.declared.event.Owner.{Owner}
use Rattle.session_model.specs.declared.event.Owner.TheVariants as owner
use Rattle.session_model.specs.declared.event.Event.TheVariants.{Submit}
use Rattle.session_model.specs.declared.entry.Entry.{Entry}
use Rattle.session_model.specs.declared.entry.Entry.TheVariants as entry
use Rattle.session_model.specs.Readings.{count_submitted, answer, is_at, own, count_ended, last_cancel}
use Rattle.session_model.specs.Calls.{Setting, calls_added_to, call_at, current, site_of, held_by, held_site}
use Rattle.session_model.specs.Grants.{
  is_grant,
  is_asked_by,
  holds,
  is_held,
  is_one_of,
  is_due,
  grant_or,
  first_let_go,
  letting_go,
  next_due_at,
  next_due,
  closed_by,
  closes,
  is_close,
  with_closed,
  closed_grants,
}
use Rattle.session_model.specs.Journals.{IsJournal, MayCome, MustClose, cancelled_end}
use Rattle.session_model.proofs.CallLaws.{next_submit, own_submit}
use Rattle.session_model.specs.Closes.{closes_of}
use Rattle.session_model.proofs.GrantLaws.{first_passes, any_passes, any_where}
use Rattle.session_model.proofs.HolderLaws.{IsOwned, may_of, grant_stays, slots_owned, held_only, holds_back}
use Rattle.session_model.proofs.LetGoLaws.{granted_below}
use Rattle.session_model.proofs.PlannedLaws.{AsksClose, held_less, asks_close}
use Rattle.session_model.proofs.RequestLaws.{asked_other}

-- ---- grants that nothing holds

-- a grant that nothing holds
abbrev pub IsUnheld : Setting → List Entry → ℕ → Type 0
IsUnheld s past g = (is_grant past g ≡ true) × (is_held s past g ≡ false)

unheld_stays : (s : Setting) (past : List Entry) (e : Entry) (g : ℕ) → IsJournal s (e ∷ past) → IsUnheld s past g
    → IsUnheld s (e ∷ past) g
unheld_stays s past e g j l = (
  grant_stays s past e g j l.0,
  false_from_ne_true (is_held s (e ∷ past) g)
      (λ h. let who = any_where (holds s (e ∷ past) g) (length s.lanes) h in
      both_ways (is_held s past g) l.1 (any_passes (holds s past g) (length s.lanes) who.0 who.1.0
      (holds_back s past e g who.0 j l.0 who.1.1))),
)

-- what a lane asked for and holds no more, nothing holds
left_unheld : (s : Setting) (past : List Entry) (lane g : ℕ) → IsJournal s past → IsOwned past lane g
    → (has_grant (held_site s past lane) g ≡ true → ⊥) → IsUnheld s past g
left_unheld s past lane g j o left = (
  o.0,
  false_from_ne_true (is_held s past g)
      (λ h. let who = any_where (holds s past g) (length s.lanes) h in
      let only = held_only s past lane who.0 g j o who.1.1 in
      left (subst (λ (k : ℕ). has_grant (held_site s past k) g ≡ true) only.0 only.1)),
)

-- what stood in the slots of a lane that is being let go, nothing holds
letting_unheld : (s : Setting) (past : List Entry) (site : Site) (g : ℕ) → IsJournal s past → letting_go s past
    ≡ Some site → has_grant site g ≡ true → IsUnheld s past g
letting_unheld s [] site g j e h = absurd cc
letting_unheld s (entry.LetGo lane ∷ past) site g j e h =
    let now : List Entry = entry.LetGo lane ∷ past in
    let is : site_of s past lane ≡ site = cc in
    left_unheld s now lane g j (slots_owned s past lane g j.1 (ap (λ x. has_grant x g) is ∙ h))
    (λ held. let slot : has_grant (site_of s now lane) g ≡ true =
    held_less (current s now lane) (own now lane (count_ended now lane)) (site_of s now lane) g held in
    let none : false ≡ true = rw (eq-eqb lane lane refl) at slot in cc)
letting_unheld s (entry.Event (Submit owner.Close id r) ∷ past) site g j e h =
    unheld_stays s past (entry.Event (Submit owner.Close id r)) g j (letting_unheld s past site g j.1 e h)
letting_unheld s (_ ∷ past) site g j e h = absurd cc

-- ---- the grant that is to be closed

let_go_first : (gone : List (Option ℕ)) (slots : List Slot) (f g : ℕ)
    → (first_let_go gone slots ≡ Some g → (list_any (slot_has g) slots ≡ true) × (is_one_of gone g ≡ false))
    → grant_or (Some f) (λ k. list_any (slot_has k) slots || is_one_of gone k) (first_let_go gone slots) ≡ Some g
    → (((f == g) || list_any (slot_has g) slots) ≡ true) × (is_one_of gone g ≡ false)
let_go_first gone slots f g more e = by_test (list_any (slot_has f) slots || is_one_of gone f) refl e
  where
    by_test : (b : Bool) → (list_any (slot_has f) slots || is_one_of gone f) ≡ b
        → (if b then first_let_go gone slots else Some f) ≡ Some g → (((f == g) || list_any (slot_has g) slots) ≡ true)
        × (is_one_of gone g ≡ false)
    by_test true is h = let m = more h in (or_right (f == g) (list_any (slot_has g) slots) m.0, m.1)
    by_test false is h =
        let same : f ≡ g = cc in (
          or_left (f == g) (list_any (slot_has g) slots) (eq-eqb f g same),
          ap (is_one_of gone) (sym same)
              ∙ (or_parts (list_any (slot_has f) slots) (is_one_of gone f) is).1,
        )

let_go_passes : (gone : List (Option ℕ)) (slots : List Slot) (g : ℕ) → first_let_go gone slots ≡ Some g
    → (list_any (slot_has g) slots ≡ true) × (is_one_of gone g ≡ false)
let_go_passes gone [] g e = absurd cc
let_go_passes gone (Empty ∷ slots) g e = let_go_passes gone slots g e
let_go_passes gone (File file ∷ slots) g e = let_go_first gone slots file.grant g (let_go_passes gone slots g) e
let_go_passes gone (Buffered file buffer ∷ slots) g e = let_go_first gone slots file.grant g
    (let_go_passes gone slots g) e

next_due_parts : (grant held gone : Bool) → (grant && not held && not gone) ≡ true → (grant ≡ true) × (held ≡ false)
    × (gone ≡ false)
next_due_parts true false false e = (refl, refl, refl)
next_due_parts true false true e = absurd cc
next_due_parts true true gone e = absurd cc
next_due_parts false held gone e = absurd cc

next_due_unheld : (s : Setting) (past : List Entry) (g : ℕ) (x : Option Site) → IsJournal s past → letting_go s past ≡ x
    → next_due_at s past (closed_grants s past) x ≡ Some g → IsUnheld s past g
    × (is_one_of (closed_grants s past) g ≡ false)
next_due_unheld s past g (Some site) j is e = let p = let_go_passes (closed_grants s past) site.slots g e in
    (letting_unheld s past site g j is p.0, p.1)
next_due_unheld s past g None j is e =
    let p = next_due_parts (is_grant past g) (is_held s past g) (is_one_of (closed_grants s past) g)
    (first_passes (is_due s past (closed_grants s past)) (count_submitted past) g e).1 in ((p.0, p.1), p.2)

-- ---- what a CLOSE closes

-- a CLOSE that may come closes a grant that has none, bears its handle, and nothing holds the grant behind it
pub record IsClosing (s : Setting) (past : List Entry) (by : Owner) (id : ℕ) (handle : List ℕ) : Type 0 where
  pub grant : ℕ
  pub is : closes s past (closed_grants s past) by ≡ Some grant
  pub unclosed : is_one_of (closed_grants s past) grant ≡ false
  pub bears : handle_of (answer past grant) ≡ handle
  pub unheld : IsUnheld s (entry.Event (Submit by id (request.Close handle)) ∷ past) grant

own_closing : (s : Setting) (past : List Entry) (id : ℕ) (handle : List ℕ)
    → IsJournal s (entry.Event (Submit owner.Close id (request.Close handle)) ∷ past)
    → IsClosing s past owner.Close id handle
own_closing s past id handle j = by_due (last_cancel past) (next_due s past) refl j.0
  where
    e : Entry
    e = entry.Event (Submit owner.Close id (request.Close handle))

    by_due : (c g : Option ℕ) → next_due s past ≡ g → MatchOption c
        (MatchOption g (MayCome s past e) (λ grant. MustClose past grant e)) (λ l. e ≡ cancelled_end past l)
        → IsClosing s past owner.Close id handle
    by_due (Some l) g is h = absurd (cc h)
    by_due None None is may = absurd may
    by_due None (Some g) is must =
        let l = next_due_unheld s past g (letting_go s past) j.1 refl is in
        record { grant = g; is = is; unclosed = l.1; bears = cc (must.1.1); unheld = unheld_stays s past e g j l.0 }

added_none : (s : Setting) (past : List Entry) (lane : ℕ) → IsJournal s past → length s.lanes ≤ lane
    → calls_added_to past lane ≡ []
added_none s [] lane j le = refl
added_none s (entry.Added l c ∷ past) lane j le =
    let may = may_of s past (entry.Added l c) j.0 (λ g m. cc (m.1.1)) (λ k same. cc same) in
    let there : l < length s.lanes = may.0 in
    elim (eqb_tells l lane) [
      | inl t ↦ absurd (let same : l ≡ lane = t.1 in omega arith)
      | inr t ↦
          rw t.0 (added_none s past lane j.1 le)
    ]
added_none s (_ ∷ past) lane j le = added_none s past lane j.1 le

-- a lane that has a call is there
pub lane_there : (s : Setting) (past : List Entry) (lane : ℕ) → IsJournal s past → current s past lane ≢ None
    → lane < length s.lanes
lane_there s past lane j some =
    elim (cases_lt lane (length s.lanes)) [
      | inl lt ↦ lt
      | inr le ↦ absurd (some (rw (slice_get_past s.lanes lane le, added_none s past lane j le) refl))
    ]

call_closing : (s : Setting) (past : List Entry) (lane c id : ℕ) (handle : List ℕ)
    → IsJournal s (entry.Event (Submit (owner.Call lane c) id (request.Close handle)) ∷ past)
    → ((g : ℕ) → is_one_of (closed_grants s past) g ≡ true → IsUnheld s past g)
    → IsClosing s past (owner.Call lane c) id handle
call_closing s past lane c id handle j gone =
    let now : List Entry = entry.Event (Submit (owner.Call lane c) id (request.Close handle)) ∷ past in
    let may = next_submit s past lane c id (request.Close handle) j.0 in
    let n : ℕ = count_ended past lane in
    let site : Site = site_of s past lane in
    let a : AsksClose (current s past lane) site (own past lane n) (answer past) handle =
    asks_close (current s past lane) site s.facts (own past lane n) (answer past) handle may.1 in
    let w : ClosesGrant a.0 site (own past lane n) (answer past) handle = a.1.1 in
    let g : ℕ = w.grant in
    let stood : has_grant site g ≡ true = slot_held site.slots a.0 g w.stood in
    let o : IsOwned past lane g = slots_owned s past lane g j.1 stood in
    let held : has_grant (held_site s past lane) g ≡ true =
    ap (λ (x : Own). has_grant (held_by (current s past lane) x site) g) w.fresh
    ∙ ap (λ x. has_grant (held_by x [] site) g) a.1.0 ∙ stood in
    let there : lane < length s.lanes = lane_there s past lane j.1 (λ none. cc (a.1.0, none)) in
    let asks : ℕ × Request = (count_submitted past, request.Close handle) in
    let first : own now lane n ≡ asks ∷ [] =
    ap (λ (k : ℕ). own (entry.Event (Submit (owner.Call lane k) id (request.Close handle)) ∷ past) lane n) may.0
    ∙ own_submit past lane n id (request.Close handle) ∙ ap (λ (x : Own). x ++ asks ∷ []) w.fresh in
    record {
      grant = g;
      is = ap (λ (k : ℕ). closed_by (call_at s past lane k) site) may.0 ∙ ap (λ x. closed_by x site) a.1.0 ∙ w.stood;
      unclosed = false_from_ne_true (is_one_of (closed_grants s past) g)
          (λ h. both_ways (is_held s past g) (gone g h).1 (any_passes (holds s past g) (length s.lanes) lane there
          (or_left (has_grant (held_site s past lane) g) _ held)));
      bears = sym w.bears;
      unheld = left_unheld s now lane g j (
        o.0,
        (
          o.1.0,
          (
            o.1.1.0,
            ap (λ x. is_asked_by x lane o.1.0) (asked_other past (owner.Call lane c) id g (request.Close handle)
                (granted_below past g o.0)) ∙ o.1.1.1,
          ),
        ),
      )
          (λ h. both_ways _ w.last (sym (ap (λ (x : Own). has_grant (held_by (current s past lane) x site) g) first
          ∙ ap (λ x. has_grant (held_by x (asks ∷ []) site) g) a.1.0) ∙ h));
    }

pub closing : (s : Setting) (past : List Entry) (by : Owner) (id : ℕ) (handle : List ℕ)
    → IsJournal s (entry.Event (Submit by id (request.Close handle)) ∷ past)
    → ((g : ℕ) → is_one_of (closed_grants s past) g ≡ true → IsUnheld s past g) → IsClosing s past by id handle
closing s past (owner.Call lane c) id handle j gone = call_closing s past lane c id handle j gone
closing s past owner.Close id handle j gone = own_closing s past id handle j
closing s past owner.Setup id handle j gone =
    let may = may_of s past (entry.Event (Submit owner.Setup id (request.Close handle))) j.0 (λ g m. cc (m.1.1))
    (λ k same. cc same) in
    absurd (cc (may.2))

-- ---- the grants that have a CLOSE

one_more : (g k : ℕ) (gone : List (Option ℕ)) (P : Type 0) → (g ≡ k → P) → (is_one_of gone k ≡ true → P)
    → is_one_of (Some g ∷ gone) k ≡ true → P
one_more g k gone P here there e = elim (eqb_tells g k) [ inl t ↦ here t.1 | inr t ↦ there (rw t.0 at e) ]

gone_by : (s : Setting) (past : List Entry) (by : Owner) (id : ℕ) (r : Request) (k : ℕ)
    → IsJournal s (entry.Event (Submit by id r) ∷ past) → ((g : ℕ) → is_one_of (closed_grants s past) g ≡ true
    → IsUnheld s past g)
    → is_one_of (with_closed (is_close r) (closes s past (closed_grants s past) by) (closed_grants s past)) k ≡ true
    → IsUnheld s (entry.Event (Submit by id r) ∷ past) k
gone_by s past by id (request.Close handle) k j gone h =
    let e : Entry = entry.Event (Submit by id (request.Close handle)) in
    let c : IsClosing s past by id handle = closing s past by id handle j gone in
    one_more c.grant k (closed_grants s past) (IsUnheld s (e ∷ past) k)
    (λ same. subst (IsUnheld s (e ∷ past)) same c.unheld)
    (λ was. unheld_stays s past e k j (gone k was))
    (ap (λ x. is_one_of (x ∷ closed_grants s past) k) (sym c.is) ∙ h)
gone_by s past by id other k j gone h = unheld_stays s past (entry.Event (Submit by id other)) k j (gone k h)

-- a grant that has a CLOSE is one, and nothing holds it
pub gone_unheld : (s : Setting) (past : List Entry) (g : ℕ) → IsJournal s past → is_one_of (closed_grants s past) g
    ≡ true → IsUnheld s past g
gone_unheld s [] g j h = absurd cc
gone_unheld s (entry.Event (Submit by id r) ∷ past) g j h = gone_by s past by id r g j
    (λ k was. gone_unheld s past k j.1 was) h
gone_unheld s (e ∷ past) g j h = unheld_stays s past e g j (gone_unheld s past g j.1 h)

-- ---- how often

pub count_by-cons : {X : Type 0} (p : X → Bool) (x : X) (xs : List X) → count_by p (x ∷ xs)
    ≡ (if p x then 1 else 0) + count_by p xs
count_by-cons p x xs = sum_by-cons (λ y. if p y then 1 else 0) x xs

pub none_counted : (gone : List (Option ℕ)) (g : ℕ) → is_one_of gone g ≡ false → count_by (λ x. is_at x g) gone ≡ 0
none_counted [] g e = refl
none_counted (x ∷ gone) g e =
    let p = or_parts (is_at x g) (is_one_of gone g) e in
    let more : count_by (λ x. is_at x g) gone ≡ 0 = none_counted gone g p.1 in
    count_by-cons (λ y. is_at y g) x gone ∙ rw p.0 (omega arith)

pub some_counted : (gone : List (Option ℕ)) (g : ℕ) → is_one_of gone g ≡ true → 1 ≤ count_by (λ x. is_at x g) gone
some_counted [] g e = absurd cc
some_counted (x ∷ gone) g e =
    rw (count_by-cons (λ y. is_at y g) x gone) (elim (or_cases (is_at x g) (is_one_of gone g) e) [
      | inl here ↦ rw here (omega arith)
      | inr there ↦ (let more : 1 ≤ count_by (λ x. is_at x g) gone = some_counted gone g there in omega arith)
    ])

once_by : (s : Setting) (past : List Entry) (by : Owner) (id : ℕ) (r : Request) (k : ℕ)
    → IsJournal s (entry.Event (Submit by id r) ∷ past) → closes_of s past k ≤ 1
    → count_by (λ x. is_at x k) (with_closed (is_close r) (closes s past (closed_grants s past) by)
    (closed_grants s past)) ≤ 1
once_by s past by id (request.Close handle) k j was =
    let c : IsClosing s past by id handle = closing s past by id handle j (λ g. gone_unheld s past g j.1) in
    rw (c.is, count_by-cons (λ x. is_at x k) (Some c.grant) (closed_grants s past)) (elim (eqb_tells c.grant k) [
      | inl t ↦ rw t.0 (let none : closes_of s past k ≡ 0 = none_counted (closed_grants s past) k
          (ap (is_one_of (closed_grants s past)) (sym t.1) ∙ c.unclosed) in omega arith)
      | inr t ↦ rw t.0 (omega arith)
    ])
once_by s past by id other k j was = was

-- each grant has one CLOSE at most
pub closed_once : (s : Setting) (past : List Entry) (g : ℕ) → IsJournal s past → closes_of s past g ≤ 1
closed_once s [] g j = omega arith
closed_once s (entry.Event (Submit by id r) ∷ past) g j = once_by s past by id r g j (closed_once s past g j.1)
closed_once s (_ ∷ past) g j = closed_once s past g j.1
