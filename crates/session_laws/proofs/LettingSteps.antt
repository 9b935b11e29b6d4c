-- A lane is let go, slot by slot.
use Rattle.std.proofs.Common.{◌≡◌, ◌≢◌, ℕ, Bool, true, false, List, [], ◌∷◌, Option, Some, None, refl, ap, sym, ◌∙◌, subst, arith, inl, inr}
use Rattle.std.specs.Prelude.{◌||◌, ◌⊎◌, length, slice_get, ◌<◌, ◌≤◌, ◌^◌, ◌++◌}
use Rattle.std.specs.List.{list_any}
use Rattle.std.proofs.lemmas.Bool.{eq-eqb, or_left, or_right}
use Rattle.sftp_model.specs.declared.slot.Site.{Site}
use Rattle.sftp_model.specs.declared.slot.Slot.{Slot}
use Rattle.sftp_model.specs.declared.slot.Slot.TheVariants.{Empty, File, Buffered}
use Rattle.sftp_model.specs.Slots.{grant_of, has_grant, slot_has}
use Rattle.plan_runner.specs.declared.next.Running.{Running}
use Rattle.plan_runner.specs.Pending.{own_place}
use Rattle.session_model.specs.declared.entry.Entry.{Entry}
use Rattle.session_model.specs.Calls.{Setting, current, held_site, site_of}
use Rattle.session_model.specs.Grants.{closed_grants, holds, is_grant, is_one_of, is_unended_asker, next_due}
use Rattle.session_model.specs.Journals.{IsJournal, IsNext, close_of}
use Rattle.session_model.specs.Steady.{IsCancellableRun}
use Rattle.session_model.specs.Turns.{ClosesTo}
use Rattle.session_model.proofs.CallLaws.{may_next}
use Rattle.session_model.proofs.HolderLaws.{slots_owned}
use Rattle.session_model.proofs.LetGoLaws.{close_leaves, let_go_settled, site_held}
use Rattle.session_model.proofs.RunLaws.{good_plain}
use Rattle.session_laws.specs.Changes.{closed_lane, let_go_lane, with_lane}
use Rattle.session_laws.specs.Dues.{AreDueGrants}
use Rattle.session_laws.specs.Lanes.{AtTied, LaneTied, LaneValue, SessionTied, grant_places, ticket_places, Held}
use Rattle.session_laws.specs.Letting.{ReleasesSlots}
use Rattle.session_laws.specs.Places.{is_in, without_index}
use Rattle.session_laws.proofs.CloseLaws.{grant_index, grant_without}
use Rattle.session_laws.proofs.DueLaws.{dues_settled, settled_dues}
use Rattle.session_laws.proofs.LetGoTied.{rest_tied}
use Rattle.session_laws.proofs.LettingLaws.{letting_due, letting_end, letting_skip}
use Rattle.session_laws.proofs.PlaceLaws.{at_in, without_other}
use Rattle.session_laws.proofs.ReplyLaws.{let_go_closed_keeps, let_go_keeps}
use Rattle.session_laws.proofs.SessionLaws.{each_with}
use Rattle.session_laws.specs.Rest.{LaneAsks, opened_in, AtRest}
use Rattle.session_laws.specs.Ends.{let_go, StaysOpen, ClosesSlot, LettingGo}
use Rattle.session_laws.proofs.AskedLaws.{asks_on, granted_own, idle_asks, idle_transfers, none_own}
use Rattle.session_laws.proofs.BudgetLaws.{spends_with}
use Rattle.session_laws.proofs.CloseSteps.{Closing, closed_spends, closing}
use Rattle.session_laws.proofs.TransferLaws.{transfer_on}
use Rattle.session_model.specs.declared.entry.Entry.TheVariants as entry
use Rattle.sftp_core.specs.Core.{Core}
use Rattle.plan_runner.specs.Sound.{KeepsSite as Stays}
use Rattle.session_model.specs.Readings.{was_let_go}

-- ---- a lane without a call

-- it runs none, and has what it has between calls
pub at_rest : (s : Setting) (past : List Entry) (lane : ℕ) (v : LaneValue) (dues : List ℕ) → LaneTied s past lane v dues
    → current s past lane ≡ None → (v.running ≡ None) × (v.site ≡ site_of s past lane)
at_rest s past lane v dues l none = by_running v.running l.goes.runs
  where
    by_running : (x : Option Running) → AtTied s past lane x v.site → (x ≡ None) × (v.site ≡ site_of s past lane)
    by_running None t = (refl, t.1)
    by_running (Some r) t = absurd (t.2 none)

-- the session's CLOSEs change no call
calls_stay : (s : Setting) (before now : List Entry) (lane : ℕ) → ClosesTo s before now → current s now lane
    ≡ current s before lane
calls_stay s before [] lane e = ap (λ (p : List Entry). current s p lane) (sym e)
calls_stay s before (e ∷ past) lane (inl same) = ap (λ (p : List Entry). current s p lane) (sym same)
calls_stay s before (e ∷ past) lane (inr (due, rest)) = ap (λ (x : Entry). current s (x ∷ past) lane) due.1.1.1.1
    ∙ calls_stay s before past lane rest

this_lane : (lanes : ℕ → LaneValue) (lane : ℕ) (v : LaneValue) → with_lane lanes lane v lane ≡ v
this_lane lanes lane v = rw (eq-eqb lane lane refl) refl

-- a grant of its slots that it has no more has its CLOSE: no reply that it awaits brings a handle
slot_gone : (s : Setting) (past : List Entry) (lane g : ℕ) (v : LaneValue) → IsJournal s past
    → LaneTied s past lane v [] → current s past lane ≡ None → LaneAsks past lane v → has_grant v.site g ≡ true
    → is_in g (grant_places v.grants) ≡ false
    → is_one_of (closed_grants s past) g ≡ true
slot_gone s past lane g v j l none a has out = by_test (is_one_of (closed_grants s past) g) refl
  where
    bare : (v.running ≡ None) × (v.site ≡ site_of s past lane)
    bare = at_rest s past lane v [] l none

    in_site : has_grant (site_of s past lane) g ≡ true
    in_site = ap (λ (x : Site). has_grant x g) (sym bare.1) ∙ has

    holder : holds s past g lane ≡ true
    holder = or_left (has_grant (held_site s past lane) g) (is_unended_asker past lane g)
        (ap (λ (x : Site). has_grant x g) (site_held s past lane none) ∙ in_site)

    by_test : (b : Bool) → is_one_of (closed_grants s past) g ≡ b → b ≡ true
    by_test true is = refl
    by_test false is =
        absurd (let granted : is_grant past g ≡ true = (slots_owned s past lane g j in_site).0 in
        let ticket : is_in g (ticket_places v.tickets) ≡ true = l.holds.whole g granted is holder out in
        none_own v.running g (ap own_place bare.0) (granted_own s past lane g v j a ticket granted))

-- ---- all its slots are left

pub letting_begins :
    (s : Setting) (past : List Entry) (core : Core) (lanes : ℕ → LaneValue) (begun : ℕ → Bool) (lane : ℕ)
    → AtRest s past core lanes begun → lane < length s.lanes → current s past lane ≡ None → was_let_go past lane ≡ false
    → IsNext s past (entry.LetGo lane) × LettingGo s (entry.LetGo lane ∷ past) core
    (with_lane lanes lane (let_go_lane (lanes lane))) begun lane (lanes lane).site.slots
letting_begins s past core lanes begun lane r there over unlet =
    let e : Entry = entry.LetGo lane in
    let now : List Entry = e ∷ past in
    let b = r.between in
    let v : LaneValue = lanes lane in
    let l : LaneTied s past lane v [] = b.tied.each lane there in
    let a : LaneAsks past lane v = b.asks lane there in
    let bare : (v.running ≡ None) × (v.site ≡ site_of s past lane) = at_rest s past lane v [] l over in
    let next : IsNext s past e = may_next s past e b.good.calm r.settled (there, over, unlet) in
    let good : IsCancellableRun s now begun = good_plain s past begun e b.good next tt in
    let both = let_go_keeps s past core lanes lane b.tied there good.run in (
      next,
      record {
        good = good;
        site = site_of s past lane;
        letting = subst (λ (x : List Slot). ReleasesSlots s now (site_of s past lane) x)
            (ap (λ (x : Site). x.slots) (sym bare.1)) both.1;
        tied = subst (λ (x : LaneValue). SessionTied s now core (with_lane lanes lane (let_go_lane v))
            (grant_places x.grants)) (sym (this_lane lanes lane (let_go_lane v))) both.0;
        counted = record { waiting = b.counted.waiting; sent = b.counted.sent };
        asks = each_with (λ w x. LaneAsks now w x) lanes lane (let_go_lane v) (length s.lanes)
            (idle_asks now lane (let_go_lane v) refl (λ p has. transfer_on past now p (λ q below. refl)
            (idle_transfers past lane p v bare.0 a has)))
            (λ w lt ne. asks_on past now w (lanes w) (λ p below. refl) (b.tied.each w lt).goes.awaits (b.asks w lt));
        spends = spends_with s past now core core lanes lane (let_go_lane v) (λ l lt. refl) (sym bare.0) (omega arith)
            b.spends;
        gone = λ g has out. slot_gone s past lane g v b.good.run l over a has
            (ap (λ (x : LaneValue). is_in g (grant_places x.grants)) (sym (this_lane lanes lane (let_go_lane v)))
            ∙ out);
        from = past;
        plain = dues_settled s past b.due;
        over = over;
        closes = inl refl;
      },
    )

-- ---- one slot

has_its : (g : ℕ) (slot : Slot) → grant_of slot ≡ Some g → slot_has g slot ≡ true
has_its g Empty e = absurd cc
has_its g (File file) e = (let same : file.grant ≡ g = cc in eq-eqb file.grant g same)
has_its g (Buffered file buffer) e = (let same : file.grant ≡ g = cc in eq-eqb file.grant g same)

-- A slot whose grant stays open or has its CLOSE is passed.
pub slots_passed : (s : Setting) (past : List Entry) (core : Core) (lanes : ℕ → LaneValue) (begun : ℕ → Bool) (lane : ℕ)
    (slot : Slot) (rest : List Slot) → LettingGo s past core lanes begun lane (slot ∷ rest)
    → StaysOpen (lanes lane).grants slot rest
    → LettingGo s past core lanes begun lane rest
slots_passed s past core lanes begun lane slot rest l stays =
    record {
      good = l.good;
      site = l.site;
      letting = letting_skip s past l.site slot rest l.letting (λ g is. stays_or_gone g is (stays g is));
      tied = l.tied;
      counted = l.counted;
      asks = l.asks;
      spends = l.spends;
      gone = λ g has out. l.gone g (or_right (slot_has g slot) (list_any (slot_has g) rest) has) out;
      from = l.from;
      plain = l.plain;
      over = l.over;
      closes = l.closes;
    }
  where
    stays_or_gone : (g : ℕ) → grant_of slot ≡ Some g → (list_any (slot_has g) rest ≡ true)
        ⊎ (is_in g (grant_places (lanes lane).grants) ≡ false) →
        (list_any (slot_has g) rest || is_one_of (closed_grants s past) g) ≡ true
    stays_or_gone g is (inl later) = or_left (list_any (slot_has g) rest) (is_one_of (closed_grants s past) g) later
    stays_or_gone g is (inr out) = or_right (list_any (slot_has g) rest) (is_one_of (closed_grants s past) g)
        (l.gone g (or_left (slot_has g slot) (list_any (slot_has g) rest) (has_its g slot is)) out)

-- no call of the lane opened a grant
none_opened : (x : Option Running) (g : ℕ) → x ≡ None → opened_in x ≢ Some g
none_opened None g is = λ opened. cc opened
none_opened (Some r) g is = absurd cc

pub slots_closed :
    (s : Setting) (past : List Entry) (core : Core) (lanes : ℕ → LaneValue) (begun : ℕ → Bool) (lane k : ℕ)
    (g : Held) (slot : Slot) (rest : List Slot) → LettingGo s past core lanes begun lane (slot ∷ rest)
    → lane < length s.lanes
    → grant_of slot ≡ Some g.place → list_any (slot_has g.place) rest ≡ false → slice_get (lanes lane).grants k ≡ Some g
    → g.grant.id < 2 ^ 32 → ClosesSlot s past core lanes begun lane k g rest
slots_closed s past core lanes begun lane k g slot rest l there is none got small =
    let v : LaneValue = lanes lane in
    let gs : List ℕ = grant_places v.grants in
    let new : LaneValue = closed_lane v k in
    let tied : LaneTied s past lane v gs = l.tied.each lane there in
    let at_k : slice_get gs k ≡ Some g.place = grant_index v.grants k g got in
    let unclosed : is_one_of (closed_grants s past) g.place ≡ false =
    (tied.holds.holding g.place (at_in gs k g.place at_k)).1.0 in
    let unheld : (list_any (slot_has g.place) rest || is_one_of (closed_grants s past) g.place) ≡ false =
    rw (none, unclosed) refl in
    let due : next_due s past ≡ Some g.place = letting_due s past l.site slot rest g.place l.letting is unheld in
    let idle : v.running ≡ None = (at_rest s past lane v gs tied
    (calls_stay s (entry.LetGo lane ∷ l.from) past lane l.closes ∙ l.over)).0 in
    let c : Closing s past core lanes begun lane k g = closing s past core lanes gs begun lane k g l.good l.tied
    l.counted l.asks due there got small (none_opened v.running g.place idle) in
    let j : IsJournal s (close_of past g.place g.grant.id ∷ past) =
    subst (λ (e : Entry). IsJournal s (e ∷ past)) c.is c.good.run in
    let both = let_go_closed_keeps s past core lanes lane g.place k g.grant l.site slot rest l.tied there j l.letting is
    unheld got in
    record {
      due = due;
      must = c.must;
      next = c.next;
      letting = record {
        good = c.good;
        site = l.site;
        letting = subst (λ (e : Entry). ReleasesSlots s (e ∷ past) l.site rest) (sym c.is) both.1;
        tied = subst (λ (e : Entry). SessionTied s (e ∷ past) (let_go core g.grant) (with_lane lanes lane new)
            (grant_places (with_lane lanes lane new lane).grants)) (sym c.is)
            (subst (λ (x : LaneValue). SessionTied s (close_of past g.place g.grant.id ∷ past) (let_go core g.grant)
            (with_lane lanes lane new) (grant_places x.grants)) (sym (this_lane lanes lane new)) both.0);
        counted = c.counted;
        asks = c.asks;
        spends = closed_spends s past core lanes gs lane k g l.tied there got l.spends;
        gone = λ h has out. (let apart : h ≢ g.place = λ same. (let clash : false ≡ true = sym none
            ∙ (ap (λ (n : ℕ). list_any (slot_has n) rest) (sym same) ∙ has) in absurd cc) in
            let left : is_in h (without_index k gs) ≡ false = ap (is_in h) (sym (grant_without v.grants k))
            ∙ (ap (λ (x : LaneValue). is_in h (grant_places x.grants)) (sym (this_lane lanes lane new)) ∙ out) in
            let was : is_one_of (closed_grants s past) h ≡ true = l.gone h
            (or_right (slot_has h slot) (list_any (slot_has h) rest) has)
            (sym (without_other gs k g.place h at_k apart) ∙ left) in
            subst (λ (e : Entry). is_one_of (closed_grants s (e ∷ past)) h ≡ true) (sym c.is)
            ((close_leaves s past g.place g.grant.id).gone h was));
        from = l.from;
        plain = l.plain;
        over = l.over;
        closes = inr ((g.place, (due, c.must)), l.closes);
      };
    }

-- ---- no slot is left

pub letting_ends : (s : Setting) (past : List Entry) (core : Core) (lanes : ℕ → LaneValue) (begun : ℕ → Bool) (lane : ℕ)
    → LettingGo s past core lanes begun lane [] → AtRest s past core lanes begun
letting_ends s past core lanes begun lane l =
    let settled : next_due s past ≡ None = letting_end s past l.site l.letting in
    let due : AreDueGrants s past [] = settled_dues s past (let_go_settled s l.from past lane l.plain l.over l.closes
    settled) in
    record {
      between = record {
        good = l.good;
        due = due;
        tied = rest_tied s past core lanes (grant_places (lanes lane).grants) l.good.run due l.tied;
        counted = l.counted;
        asks = l.asks;
        spends = l.spends;
      };
      settled = settled;
    }
