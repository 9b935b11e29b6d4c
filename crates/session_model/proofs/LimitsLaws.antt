-- Until the limits came, nothing happened to a lane, and so the facts that plans go by decide nothing.
use Rattle.std.proofs.Common.{◌≡◌, ◌<◌, ◌≤◌, ◌==◌, ℕ, Bool, true, false, List, [], ◌∷◌, Option, Some, None, refl, ap, ◌∙◌, arith, if◌then◌else◌}
use Rattle.std.specs.Prelude.{◌&&◌}
use Rattle.sftp_model.specs.declared.reply.Reply.{Reply}
use Rattle.sftp_model.specs.declared.slot.Facts.{Facts}
use Rattle.sftp_model.specs.declared.slot.Site.{Site}
use Rattle.sftp_model.specs.Slots.{fresh_site}
use Rattle.session_model.specs.declared.event.Owner.TheVariants as owner
use Rattle.session_model.specs.declared.event.Event.TheVariants.{Submit, Send, Take, Cancel, End}
use Rattle.session_model.specs.declared.entry.Entry.{Entry}
use Rattle.session_model.specs.declared.entry.Entry.TheVariants as entry
use Rattle.session_model.specs.Readings.{count_submitted, count_sent, answer, bearer, is_at, last_cancel}
use Rattle.session_model.specs.Calls.{Setting, site_of}
use Rattle.session_model.specs.Grants.{is_granted, is_grant, is_due, first_let_go, letting_go, next_due_at, next_due, closed_grants}
use Rattle.session_model.specs.Journals.{IsJournal, IsNext, MayCome, MayTake, is_opened, is_session_open}
use Rattle.session_model.proofs.CallLaws.{may_next, next_may}
use Rattle.session_model.proofs.GrantLaws.{none_below}
use Rattle.session_model.proofs.RequestLaws.{sent_asked, answer_new}

-- the setting with other facts
abbrev pub with_facts : Setting → Facts → Setting
with_facts s facts = record { lanes = s.lanes; facts = facts; limits = s.limits; max_pending = s.max_pending }

abbrev pub IsBare : Option Site → Type 0
IsBare None = Unit {0}
IsBare (Some site) = site.slots ≡ fresh_site.slots

-- a journal in which nothing happened to a lane
pub record Unopened (past : List Entry) : Type 0 where
  pub calm : last_cancel past ≡ None
  pub few : count_submitted past ≤ 1
  pub silent : (place : ℕ) → answer past place ≡ None
  pub bare : (t : Setting) (lane : ℕ) → (site_of t past lane).slots ≡ fresh_site.slots
  pub letting : (t : Setting) → IsBare (letting_go t past)

not_next_due : (grant held gone : Bool) → grant ≡ false → (grant && held && gone) ≡ false
not_next_due true held gone e = absurd cc
not_next_due false held gone e = refl

bare_next_due : (t : Setting) (past : List Entry) (site : Option Site) → IsBare site
    → ((place : ℕ) → answer past place ≡ None) → next_due_at t past (closed_grants t past) site ≡ None
bare_next_due t past None bare silent =
    none_below (is_due t past (closed_grants t past)) (count_submitted past)
    (λ k lt. not_next_due (is_grant past k) _ _ (ap is_granted (silent k)))
bare_next_due t past (Some site) bare silent = ap (first_let_go (closed_grants t past)) bare

-- no grant is to be closed
pub unopened_settled : (t : Setting) (past : List Entry) → Unopened past → next_due t past ≡ None
unopened_settled t past u = bare_next_due t past (letting_go t past) (u.letting t) u.silent

before_opened : (limits b : Bool) (r : Reply) (old : Option Reply) → is_opened limits (if b then Some r else old)
    ≡ false → is_opened limits old ≡ false
before_opened false b r old e = absurd cc
before_opened true true r old e = absurd cc
before_opened true false r old e = e

opened_by_reply : (limits : Bool) (r : Reply) → is_opened limits (Some r) ≡ true
opened_by_reply true r = refl
opened_by_reply false r = refl

never : (b : Bool) → b ≡ true → b ≡ false → ⊥
never true yes_is no_is = absurd cc
never false yes_is no_is = absurd cc

-- a reply to the first request opens the session
taken_opens : (s : Setting) (past : List Entry) (id : ℕ) (r : Reply) → count_submitted past ≤ 1 → MayTake past id r
    → is_session_open s (entry.Event (Take id r) ∷ past) ≡ true
taken_opens s past id r few may =
    let below : may.0 < count_sent past = may.1.0.1 in
    let more : count_sent past ≤ count_submitted past = sent_asked past in
    let first : may.0 ≡ 0 = omega arith in
    let borne : bearer past id ≡ Some 0 = may.1.0.0 ∙ ap (λ (n : ℕ). Some n) first in
    ap (is_opened s.limits) (answer_new past id 0 r borne) ∙ opened_by_reply s.limits r

slots_still : (b : Bool) (site : Site) → site.slots ≡ fresh_site.slots
    → (if b then record { slots = fresh_site.slots; directory = site.directory } else site).slots ≡ fresh_site.slots
slots_still true site e = refl
slots_still false site e = e

unopened_more : (s : Setting) (past : List Entry) (e : Entry) → Unopened past → is_session_open s past ≡ false
    → is_session_open s (e ∷ past) ≡ false → MayCome s past e → Unopened (e ∷ past)
unopened_more s past (entry.Event (Submit (owner.Call lane call) id r)) u shut now may =
    absurd (never (is_session_open s past) may.3 shut)
unopened_more s past (entry.Event (Submit owner.Setup id r)) u shut now may =
    let none : count_submitted past ≡ 0 = may.1 in
    record { calm = refl; few = omega arith; silent = u.silent; bare = u.bare; letting = λ t. tt }
unopened_more s past (entry.Event (Submit owner.Close id r)) u shut now may = absurd may
unopened_more s past (entry.Event Send) u shut now may = record
    { calm = refl; few = u.few; silent = u.silent; bare = u.bare; letting = λ t. tt }
unopened_more s past (entry.Event (Take id r)) u shut now may =
    absurd (never (is_session_open s (entry.Event (Take id r) ∷ past)) (taken_opens s past id r u.few may.0) now)
unopened_more s past (entry.Event (Cancel lane)) u shut now may = absurd (never (is_session_open s past) may.2 shut)
unopened_more s past (entry.Event (End lane call o)) u shut now may = absurd (never (is_session_open s past) may.2 shut)
unopened_more s past (entry.Added lane c) u shut now may = record
    { calm = refl; few = u.few; silent = u.silent; bare = u.bare; letting = λ t. tt }
unopened_more s past (entry.LetGo lane) u shut now may =
    record {
      calm = refl;
      few = u.few;
      silent = u.silent;
      bare =
          λ t l. slots_still (lane == l) (site_of t past l) (u.bare t l);
      letting = λ t. u.bare t lane;
    }
unopened_more s past (entry.Kept fault) u shut now may = record
    { calm = refl; few = u.few; silent = u.silent; bare = u.bare; letting = λ t. tt }

shut_before : (s : Setting) (past : List Entry) (e : Entry) → is_session_open s (e ∷ past) ≡ false
    → is_session_open s past ≡ false
shut_before s past (entry.Event (Take id r)) e = before_opened s.limits (is_at (bearer past id) 0) r (answer past 0) e
shut_before s past (_) e = e

-- a run so far whose limits have not come
pub unopened : (s : Setting) (past : List Entry) → IsJournal s past → is_session_open s past ≡ false → Unopened past
unopened s [] j shut = record {
  calm = refl;
  few = omega arith;
  silent = λ place. refl;
  bare = λ t lane. refl;
  letting =
      λ t. tt;
}
unopened s (e ∷ past) j shut =
    let old : Unopened past = unopened s past j.1 (shut_before s past e shut) in
    unopened_more s past e old (shut_before s past e shut) shut
    (next_may s past e old.calm (unopened_settled s past old) j.0)

may_facts : (s : Setting) (facts : Facts) (past : List Entry) (e : Entry) → is_session_open s past ≡ false
    → MayCome s past e → MayCome (with_facts s facts) past e
may_facts s facts past (entry.Event (Submit (owner.Call lane call) id r)) shut may =
    absurd (never (is_session_open s past) may.3 shut)
may_facts s facts past (entry.Event (Submit owner.Setup id r)) shut may = may
may_facts s facts past (entry.Event (Submit owner.Close id r)) shut may = may
may_facts s facts past (entry.Event Send) shut may = may
may_facts s facts past (entry.Event (Take id r)) shut may = may
may_facts s facts past (entry.Event (Cancel lane)) shut may = absurd (never (is_session_open s past) may.2 shut)
may_facts s facts past (entry.Event (End lane call o)) shut may = absurd (never (is_session_open s past) may.2 shut)
may_facts s facts past (entry.Added lane c) shut may = may
may_facts s facts past (entry.LetGo lane) shut may = may
may_facts s facts past (entry.Kept fault) shut may = may

-- what may come next while the limits have not come may come with other facts too
pub next_facts : (s : Setting) (facts : Facts) (past : List Entry) (e : Entry) → IsJournal s past
    → is_session_open s past
    ≡ false → IsNext s past e → IsNext (with_facts s facts) past e
next_facts s facts past e j shut next =
    let u : Unopened past = unopened s past j shut in
    may_next (with_facts s facts) past e u.calm (unopened_settled (with_facts s facts) past u)
    (may_facts s facts past e shut (next_may s past e u.calm (unopened_settled s past u) next))

journal_at : (s : Setting) (facts : Facts) (past : List Entry) → IsJournal s past → is_session_open s past ≡ false
    → IsJournal (with_facts s facts) past
journal_at s facts [] j shut = tt
journal_at s facts (e ∷ past) j shut =
    let before : is_session_open s past ≡ false = shut_before s past e shut in
    (next_facts s facts past e j.1 before j.0, journal_at s facts past j.1 before)

-- a run so far whose limits have not come is one with other facts too
pub journal_facts : (s : Setting) (facts : Facts) (past : List Entry) → IsJournal s past → is_session_open s past
    ≡ false → IsJournal (with_facts s facts) past
journal_facts s facts past j shut = journal_at s facts past j shut

-- and so is one whose last entry brought them
pub told_facts : (s : Setting) (facts : Facts) (past : List Entry) (e : Entry) → IsJournal s (e ∷ past)
    → is_session_open s past
    ≡ false → IsJournal (with_facts s facts) (e ∷ past)
told_facts s facts past e j shut = (next_facts s facts past e j.1 shut j.0, journal_at s facts past j.1 shut)
