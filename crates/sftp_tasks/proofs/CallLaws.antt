-- What a call of the shared session answers after one hold.
use Rattle.std.proofs.Common.{
  ◌≡◌,
  ℕ,
  ◌+◌,
  List,
  [],
  ◌∷◌,
  ◌++◌,
  length,
  refl,
  sym,
  ap,
  ◌∙◌,
  inl,
  inr,
  arith,
  Ok,
  Err,
  Some,
  None,
  IfOk,
  IfErr,
  IfSome,
  true,
  false,
  true≢false,
  append_assoc,
  length-append,
}
use Rattle.std.proofs.lemmas.List.{append_cancel_right}
use Rattle.std.specs.Prelude.{Bool, Option, Result}
use Rattle.plan_model.specs.declared.call.Call.{Call}
use Rattle.session_model.specs.declared.entry.Entry.{Entry}
use Rattle.session_model.specs.declared.entry.Entry.TheVariants as entry
use Rattle.session_seats.specs.declared.view.Receipt.{Receipt}
use Rattle.session_seats.specs.Holds.{Allowance, Applied, Hold}
use Rattle.session_seats.specs.Sights.{made_on, receipt}
use Rattle.session_seats.proofs.HoldLaws.{hold_map}
use Rattle.session_work.specs.Working.{LanesValue, past_of}
use Rattle.sftp_lanes.specs.Seen.{SessionValue}
use Rattle.sftp_model.specs.declared.error.Error.{Error}
use Rattle.sftp_model.specs.declared.error.Error.TheVariants as error
use Rattle.sftp_tasks.specs.declared.locked.Locked.{Locked}
use Rattle.sftp_tasks.specs.Calls.{AnswersSeat, BeginsWith, InOneHold, with_receipt}
use Rattle.sftp_tasks.specs.LockedEvents.{OfLane, SubmitsLaneCall, UnlessFault}
use Rattle.sftp_tasks.specs.Rounds.{Token}
use Rattle.sftp_tasks.specs.SessionEvents.{SubmitsCall}
use Rattle.sftp_tasks.specs.Shows.{shown_of}
use Rattle.sftp_tasks.proofs.EntryLaws.{steps_extended}

pub answers_of : {A X Y : Type 0} {test : Entry → Bool} {needs : Allowance}
    (Does : Locked → Locked → Result A Error → Type 0)
    (did : Result A Error) (copied : Result X Y) (old new : List Receipt) (m n : Token)
    → Hold shown_of (Applied shown_of test needs (λ y z. UnlessFault Does y z did) copied old new) m n
    → AnswersSeat Does old new (with_receipt did copied) m n
answers_of Does (Err e) copied old new m n h = hold_map shown_of m n h (inl h.did.does.0)
answers_of Does (Ok a) (Ok x) old new m n h = hold_map shown_of m n h (h.did.does.0, h.did.kept, h.did.does.1)
answers_of Does (Ok a) (Err y) old new m n h = hold_map shown_of m n h (inr (refl, (a, h.did.does.0)))

pub in_one_hold : {A X Y : Type 0} {test : Entry → Bool} {needs : Allowance}
    (Does : Locked → Locked → Result A Error → Type 0)
    (did : Result A Error) (copied : Result X Y) {old new : List Receipt} (m n : Token)
    → Hold shown_of (Applied shown_of test needs (λ y z. UnlessFault Does y z did) copied old new) m n
    → InOneHold Does (with_receipt did copied) m n
in_one_hold Does (Err e) copied m n h = hold_map shown_of m n h (inl h.did.does.0)
in_one_hold Does (Ok a) (Ok x) m n h = hold_map shown_of m n h h.did.does
in_one_hold Does (Ok a) (Err y) m n h = hold_map shown_of m n h (inr (refl, (a, h.did.does.0)))

pub settled_ok : {A X Y : Type 0} (a : A) (copied : Result X Y) (P : A → Type 0) → P a
    → IfOk (with_receipt (Ok a) copied) P
settled_ok a (Ok x) P p = p
settled_ok a (Err y) P p = tt

pub settled_err : {A X Y : Type 0} (a : A) (copied : Result X Y) (Q : Error → Type 0) → Q error.OutOfMemory
    → IfErr (with_receipt (Ok a) copied) Q
settled_err a (Ok x) Q q = tt
settled_err a (Err y) Q q = q

-- ---- the first new receipt

made_last : (k : ℕ) (a : Entry) (es : List Entry) → made_on k (es ++ a ∷ []) ≡ receipt k a ∷ made_on (k + 1) es
made_last k a [] = let zero : 0 + k ≡ k = omega arith in ap (λ (j : ℕ). receipt j a ∷ []) zero
made_last k a (e ∷ es) =
    let place : length (es ++ a ∷ []) + k ≡ length es + (k + 1) = omega (arith, length-append es (a ∷ [])) in
    λ i. made_last k a es i ++ receipt (place i) e ∷ []

-- the entry of the call came first
added_first : (lane : ℕ) (call : Call) (old new : SessionValue) (more : List Entry)
    → SubmitsCall lane call old new (Ok true)
    → past_of new.work ≡ more ++ past_of old.work → (es : List Entry) × (more ≡ es ++ entry.Added lane call ∷ [])
added_first lane call old new more h past =
    let mid = h.0 in
    let first : past_of mid.work ≡ entry.Added lane call ∷ past_of old.work = ap (λ (c : LanesValue). c.past) h.1.0.is
    in
    let stepped = (steps_extended mid.phase lane mid new h.1.1.0 h.1.1.1).past in
    let all : past_of new.work ≡ (stepped.0 ++ entry.Added lane call ∷ []) ++ past_of old.work =
    stepped.1 ∙ ap (λ (l : List Entry). stepped.0 ++ l) first ∙ sym
    (append_assoc stepped.0 (entry.Added lane call ∷ []) (past_of old.work)) in
    (stepped.0, append_cancel_right more (stepped.0 ++ entry.Added lane call ∷ []) (past_of old.work) (sym past ∙ all))

pub first_receipt : (lane : Option ℕ) (call : Call) (old new : List Receipt) (r : Result Bool Error) (m n : Token)
    → AnswersSeat (OfLane (SubmitsLaneCall call) false lane) old new r m n
    → IfOk r (λ did. did ≡ true → IfSome lane (λ l. BeginsWith l call old new))
first_receipt None call old new (Ok did) m n h = λ yes. tt
first_receipt None call old new (Err e) m n h = tt
first_receipt (Some l) call old new (Err e) m n h = tt
first_receipt (Some l) call old new (Ok false) m n h = λ yes. absurd (true≢false (sym yes))
first_receipt (Some l) call old new (Ok true) m n h = λ yes.
    let k = length (shown_of h.before).past in
    let split = added_first l call h.before.session h.after.session h.more h.did.0 h.past in (
      k,
      (
        made_on (k + 1) split.0,
        h.did.1 ∙ ap (λ (l : List Receipt). old ++ l)
            (ap (made_on k) split.1 ∙ made_last k (entry.Added l call) split.0),
      ),
    )
