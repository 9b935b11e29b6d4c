-- How the readings of a lane's calls go on with one entry, and what a journal that is a run so far keeps of them.
use Rattle.std.proofs.Common.{
  append_assoc,
  ◌≡◌,
  ◌≢◌,
  ◌<◌,
  ◌==◌,
  ℕ,
  ◌+◌,
  Bool,
  true,
  false,
  List,
  [],
  ◌∷◌,
  ◌++◌,
  Option,
  Some,
  None,
  refl,
  ap,
  sym,
  ◌∙◌,
  arith,
  if◌then◌else◌,
  inl,
  inr,
}
use Rattle.std.specs.Prelude.{slice_get, ◌||◌, MatchOption}
use Rattle.std.specs.List.{list_any}
use Rattle.std.proofs.lemmas.Bool.Decides.{eqb_tells}
use Rattle.std.proofs.lemmas.Bool.{ne_eqb, eq-eqb}
use Rattle.sftp_model.specs.declared.outcome.Outcome.{Outcome}
use Rattle.sftp_model.specs.declared.request.Request.{Request}
use Rattle.sftp_model.specs.declared.reply.Reply.{Reply}
use Rattle.sftp_model.specs.declared.slot.Facts.{Facts}
use Rattle.sftp_model.specs.declared.slot.Move.{Move}
use Rattle.sftp_model.specs.declared.slot.Move.TheVariants.{Done}
use Rattle.sftp_model.specs.declared.slot.Site.{Site}
use Rattle.plan_model.specs.Moves.{Answers, Own}
use Rattle.plan_model.specs.declared.call.Call.{Call}
use Rattle.session_model.specs.declared.event.Owner.{Owner}
use Rattle.session_model.specs.declared.event.Owner.TheVariants as owner
use Rattle.session_model.specs.declared.event.Event.TheVariants.{Submit, Take, Cancel, End}
use Rattle.session_model.specs.declared.entry.Entry.{Entry}
use Rattle.session_model.specs.declared.entry.Entry.TheVariants as entry
use Rattle.session_model.specs.Readings.{count_submitted, asked_at, answer, own, is_by, count_ended, last_cancel}
use Rattle.session_model.specs.Calls.{Setting, calls_added_to, calls_of, lane_calls, call_at, current, left_by, site_of, site_left, move_at, move_of}
use Rattle.session_model.specs.Grants.{next_due, is_asked_by}
use Rattle.session_model.specs.Journals.{IsJournal, IsNext, MayCome, MustClose, cancelled_end}
use Rattle.plan_model.specs.CallPlans.{next}

-- ---- what may come next

pub next_by : (c g : Option ℕ) (P : Type 0) (Q R : ℕ → Type 0) → MatchOption c (MatchOption g P Q) R
    → ((n : ℕ) → Q n → ⊥) → ((n : ℕ) → R n → ⊥) → P
next_by None None P Q R h f e = h
next_by None (Some n) P Q R h f e = absurd (f n h)
next_by (Some n) g P Q R h f e = absurd (e n h)

next_at : (s : Setting) (past : List Entry) (e : Entry) (c g : Option ℕ) → last_cancel past ≡ c → next_due s past ≡ g
    → MatchOption c (MatchOption g (MayCome s past e) (λ grant. MustClose past grant e))
    (λ lane. e ≡ cancelled_end past lane) → IsNext s past e
next_at s past e c g ec eg h = rw (ec, eg) h

at_next : (s : Setting) (past : List Entry) (e : Entry) (c g : Option ℕ) → last_cancel past ≡ c → next_due s past ≡ g
    → IsNext s past e
    → MatchOption c (MatchOption g (MayCome s past e) (λ grant. MustClose past grant e))
    (λ lane. e ≡ cancelled_end past lane)
at_next s past e c g ec eg h = rw (ec, eg) at h

-- where nothing is due, what may come comes next, and nothing else
pub may_next : (s : Setting) (past : List Entry) (e : Entry) → last_cancel past ≡ None → next_due s past ≡ None
    → MayCome s past e → IsNext s past e
may_next s past e calm settled may = next_at s past e None None calm settled may

pub next_may : (s : Setting) (past : List Entry) (e : Entry) → last_cancel past ≡ None → next_due s past ≡ None
    → IsNext s past e → MayCome s past e
next_may s past e calm settled next = at_next s past e None None calm settled next

-- the CLOSE that is due comes next
pub due_next : (s : Setting) (past : List Entry) (g : ℕ) (e : Entry) → last_cancel past ≡ None → next_due s past
    ≡ Some g → MustClose past g e → IsNext s past e
due_next s past g e calm due must = next_at s past e None (Some g) calm due must

-- behind a Cancel its end comes next
pub cancelled_next : (s : Setting) (past : List Entry) (lane : ℕ)
    → IsNext s (entry.Event (Cancel lane) ∷ past) (cancelled_end (entry.Event (Cancel lane) ∷ past) lane)
cancelled_next s past lane = refl

-- a request that a call submits is the one that its lane's call asks
pub next_submit : (s : Setting) (past : List Entry) (lane call id : ℕ) (r : Request)
    → IsNext s past (entry.Event (Submit (owner.Call lane call) id r))
    → MayCome s past (entry.Event (Submit (owner.Call lane call) id r))
next_submit s past lane call id r h =
    next_by (last_cancel past) (next_due s past) _ (λ g. MustClose past g
    (entry.Event (Submit (owner.Call lane call) id r))) (λ l. entry.Event (Submit (owner.Call lane call) id r)
    ≡ cancelled_end past l) h
    (λ g m. cc (m.1.1)) (λ l e. cc e)

-- a reply that is taken is one to a sent, unanswered request
pub next_take : (s : Setting) (past : List Entry) (id : ℕ) (r : Reply) → IsNext s past (entry.Event (Take id r))
    → MayCome s past (entry.Event (Take id r))
next_take s past id r h =
    next_by (last_cancel past) (next_due s past) _ (λ g. MustClose past g (entry.Event (Take id r)))
    (λ l. entry.Event (Take id r) ≡ cancelled_end past l) h
    (λ g m. cc (m.1.1)) (λ l e. cc e)

-- ---- a call's requests

-- the call's own request joins those before it
pub own_submit : (past : List Entry) (lane call id : ℕ) (r : Request)
    → own (entry.Event (Submit (owner.Call lane call) id r) ∷ past) lane call ≡ own past lane call
    ++ (count_submitted past, r) ∷ []
own_submit past lane call id r = rw (eq-eqb lane lane refl, eq-eqb call call refl) refl

-- another's request does not
pub own_other : (past : List Entry) (by : Owner) (id : ℕ) (r : Request) (lane call : ℕ) → is_by by lane call ≡ false
    → own (entry.Event (Submit by id r) ∷ past) lane call ≡ own past lane call
own_other past by id r lane call e = rw e refl

-- a call that hasn't begun has no requests
pub own_fresh : (s : Setting) (past : List Entry) (lane call : ℕ) → IsJournal s past → count_ended past lane < call
    → own past lane call ≡ []
own_fresh s [] lane call j lt = refl
own_fresh s (entry.Event (Submit (owner.Call l c) id r) ∷ past) lane call j lt =
    let now : c ≡ count_ended past l = (next_submit s past l c id r j.0).0 in
    elim (eqb_tells l lane) [
      | inl t ↦ elim (eqb_tells c call) [
        | inl u ↦ absurd (let same : count_ended past l ≡ count_ended past lane = ap (count_ended past) t.1 in
            omega arith)
        | inr u ↦ rw (t.0, u.0) (own_fresh s past lane call j.1 lt)
      ]
      | inr t ↦ rw t.0 (own_fresh s past lane call j.1 lt)
    ]
own_fresh s (entry.Event (Submit owner.Setup id r) ∷ past) lane call j lt = own_fresh s past lane call j.1 lt
own_fresh s (entry.Event (Submit owner.Close id r) ∷ past) lane call j lt = own_fresh s past lane call j.1 lt
own_fresh s (entry.Event (End l c o) ∷ past) lane call j lt =
    elim (eqb_tells l lane) [
      | inl t ↦ (let more : count_ended past lane + 1 < call = rw t.0 at lt in
          own_fresh s past lane call j.1 (omega arith))
      | inr t ↦ own_fresh s past lane call j.1 (rw t.0 at lt)
    ]
own_fresh s (_ ∷ past) lane call j lt = own_fresh s past lane call j.1 lt

any_more : (p : ℕ × Request → Bool) (xs ys : Own) → list_any p (xs ++ ys) ≡ (list_any p xs || list_any p ys)
any_more p [] ys = refl
any_more p (x ∷ xs) ys = ap (λ (b : Bool). p x || b) (any_more p xs ys) ∙ or_assoc (p x) (list_any p xs) (list_any p ys)
  where
    or_assoc : (a b c : Bool) → (a || (b || c)) ≡ ((a || b) || c)
    or_assoc true b c = refl
    or_assoc false b c = refl

or_right : (a b : Bool) → b ≡ true → (a || b) ≡ true
or_right true b e = refl
or_right false b e = e

or_left : (a b : Bool) → a ≡ true → (a || b) ≡ true
or_left true b e = refl
or_left false b e = cc

-- a request at the place is one of these
abbrev pub has_place : Own → ℕ → Bool
has_place own place = list_any (λ (a : ℕ × Request). a.0 == place) own

-- the asker of a place has it among its own
pub asker_owns : (past : List Entry) (lane call place : ℕ) → is_asked_by (asked_at past place) lane call ≡ true
    → has_place (own past lane call) place ≡ true
asker_owns [] lane call place e = cc
asker_owns (entry.Event (Submit by i r) ∷ past) lane call place e =
    elim (eqb_tells place (count_submitted past)) [
      | inl t ↦ (let mine : is_by by lane call ≡ true = rw t.0 at e in
          rw mine (any_more (λ a. a.0 == place) (own past lane call) ((count_submitted past, r) ∷ [])
          ∙ or_right (has_place (own past lane call) place) _ (or_left (count_submitted past == place) false
          (eq-eqb (count_submitted past) place (sym t.1)))))
      | inr t ↦ by_owner (is_by by lane call) (asker_owns past lane call place (rw t.0 at e))
    ]
  where
    by_owner : (b : Bool) → has_place (own past lane call) place ≡ true
        → has_place (if b then own past lane call ++ (count_submitted past, r) ∷ [] else own past lane call) place
        ≡ true
    by_owner true h = any_more (λ a. a.0 == place) (own past lane call) ((count_submitted past, r) ∷ []) ∙ or_left _ _ h
    by_owner false h = h
asker_owns (_ ∷ past) lane call place e = asker_owns past lane call place e

-- ---- added calls

-- a call that is added is the lane's last
pub added_here : (s : Setting) (past : List Entry) (lane : ℕ) (c : Call) → lane_calls s (entry.Added lane c ∷ past) lane
    ≡ lane_calls s past lane ++ c ∷ []
added_here s past lane c = rw (eq-eqb lane lane refl) (sym (append_assoc (calls_of (slice_get s.lanes lane))
    (calls_added_to past lane) (c ∷ [])))

pub added_other : (s : Setting) (past : List Entry) (l lane : ℕ) (c : Call) → l ≢ lane
    → lane_calls s (entry.Added l c ∷ past) lane ≡ lane_calls s past lane
added_other s past l lane c ne = rw (ne_eqb l lane ne) refl

-- ---- ends

-- an end moves its lane on
pub ended_end : (past : List Entry) (lane call : ℕ) (o : Outcome)
    → count_ended (entry.Event (End lane call o) ∷ past) lane ≡ count_ended past lane + 1
ended_end past lane call o = rw (eq-eqb lane lane refl) refl

pub ended_other : (past : List Entry) (l call lane : ℕ) (o : Outcome) → l ≢ lane
    → count_ended (entry.Event (End l call o) ∷ past) lane ≡ count_ended past lane
ended_other past l call lane o ne = rw (ne_eqb l lane ne) refl

-- what an end leaves
pub site_end : (s : Setting) (past : List Entry) (lane call : ℕ) (o : Outcome)
    → site_of s (entry.Event (End lane call o) ∷ past) lane
    ≡ site_left (call_at s past lane call) (last_cancel past) (site_of s past lane) s.facts (own past lane call)
    (answer past)
site_end s past lane call o = rw (eq-eqb lane lane refl) refl

pub site_other : (s : Setting) (past : List Entry) (l call lane : ℕ) (o : Outcome) → l ≢ lane
    → site_of s (entry.Event (End l call o) ∷ past) lane ≡ site_of s past lane
site_other s past l call lane o ne = rw (ne_eqb l lane ne) refl

left_done : (c : Option Call) (n : Option ℕ) (at site : Site) (facts : Facts) (own : Own) (answers : Answers)
    (o : Outcome) → n ≡ None → move_at c at facts own answers ≡ Some (Done o site) → site_left c n at facts own answers
    ≡ site
left_done None n at site facts own answers o none e = absurd cc
left_done (Some c) (Some l) at site facts own answers o none e = absurd cc
left_done (Some c) None at site facts own answers o none e =
    let is : next c at facts own answers ≡ Done o site = cc e in ap (λ (m : Move). left_by m at) is

-- an end by the plan leaves what the plan leaves
pub end_site : (s : Setting) (past : List Entry) (lane : ℕ) (o : Outcome) (site : Site) → last_cancel past ≡ None
    → move_of s past lane ≡ Some (Done o site) → site_of s (entry.Event (End lane (count_ended past lane) o) ∷ past)
    lane
    ≡ site
end_site s past lane o site none e =
    site_end s past lane (count_ended past lane) o ∙ left_done (current s past lane) (last_cancel past)
    (site_of s past lane)
    site s.facts (own past lane (count_ended past lane)) (answer past) o none e

-- the next call of the lane has no requests yet
pub end_own : (s : Setting) (past : List Entry) (lane : ℕ) (o : Outcome) → IsJournal s past
    → own (entry.Event (End lane (count_ended past lane) o) ∷ past) lane (count_ended past lane + 1) ≡ []
end_own s past lane o j = own_fresh s past lane (count_ended past lane + 1) j (omega arith)
