-- The state of an id is what the journal's readings say of it.
use Rattle.std.proofs.Common.{◌≡◌, ◌≢◌, ◌<◌, ◌≤◌, ◌==◌, ℕ, Bool, true, false, List, [], ◌∷◌, Some, None, refl, ap, sym, ◌∙◌, subst, arith, inl, inr}
use Rattle.std.specs.Prelude.{nat_lt}
use Rattle.std.proofs.lemmas.Bool.Decides.{nat_tests, eqb_tells}
use Rattle.std.proofs.lemmas.Bool.{eq-eqb}
use Rattle.plan_model.specs.declared.call.Call.{Call}
use Rattle.sftp_model.specs.declared.error.Fault.{Fault}
use Rattle.sftp_model.specs.declared.outcome.Outcome.{Outcome}
use Rattle.sftp_model.specs.declared.request.Request.{Request}
use Rattle.sftp_model.specs.declared.reply.Reply.{Reply}
use Rattle.session_model.specs.declared.event.Owner.{Owner}
use Rattle.session_model.specs.declared.event.Event.TheVariants.{Submit, Send, Take, Cancel, End}
use Rattle.session_model.specs.declared.entry.Entry.{Entry}
use Rattle.session_model.specs.declared.entry.Entry.TheVariants as entry
use Rattle.session_model.specs.Readings.{AskedRequest, count_submitted, bearer, answer, is_at, place_awaiting, count_sent}
use Rattle.session_model.specs.Ids.{IdState, Free, Pending, Replied, id_state, now_sent, now_replied, ReadsId}
use Rattle.session_model.proofs.RequestLaws.{bearer_below, answer_beyond, sent_asked, asked_new, asked_other, not_at}

lt_true : (n m : ℕ) → n < m → nat_lt n m ≡ true
lt_true n m h = grind (arith, nat_tests)

lt_false : (n m : ℕ) → m ≤ n → nat_lt n m ≡ false
lt_false n m h = grind (arith, nat_tests)

submit_new : (past : List Entry) (by : Owner) (i id : ℕ) (r : Request) → (i == id) ≡ true
    → ReadsId (entry.Event (Submit by i r) ∷ past) id (Pending (count_submitted past)
    (record { by = by; id = i; request = r })
    false)
submit_new past by i id r e =
    let none : answer past (count_submitted past) ≡ None = answer_beyond past (count_submitted past) (omega arith) in
    let few : count_sent past ≤ count_submitted past = sent_asked past in
    (rw e refl, none, sym (lt_false (count_submitted past) (count_sent past) few), asked_new past by i r)

submit_old : (past : List Entry) (by : Owner) (i id : ℕ) (r : Request) (state : IdState) → (i == id) ≡ false
    → ReadsId past id state → ReadsId (entry.Event (Submit by i r) ∷ past) id state
submit_old past by i id r Free e s = rw e s
submit_old past by i id r (Pending p a b) e s = (
  rw e s.0,
  s.1,
  s.2,
  asked_other past by i p r (bearer_below past id p s.0) ∙ s.3,
)
submit_old past by i id r (Replied p a y) e s = (
  rw e s.0,
  s.1,
  asked_other past by i p r (bearer_below past id p s.0)
      ∙ s.2,
)

send_reads : (past : List Entry) (id : ℕ) (state : IdState) → ReadsId past id state
    → ReadsId (entry.Event Send ∷ past) id (now_sent state)
send_reads past id Free s = s
send_reads past id (Pending p a b) s = (
  s.0,
  s.1,
  sym (lt_true p (count_submitted past) (bearer_below past id p s.0)),
  s.3,
)
send_reads past id (Replied p a y) s = s

at_itself : (past : List Entry) (id p : ℕ) → bearer past id ≡ Some p → is_at (bearer past id) p ≡ true
at_itself past id p e = rw e (eq-eqb p p refl)

take_here : (past : List Entry) (id : ℕ) (y : Reply) (state : IdState) → ReadsId past id state
    → ReadsId (entry.Event (Take id y) ∷ past) id (now_replied y state)
take_here past id y Free s = s
take_here past id y (Pending p a b) s = (s.0, rw (at_itself past id p s.0) refl, s.3)
take_here past id y (Replied p a old) s = (s.0, rw (at_itself past id p s.0) refl, s.2)

take_other : (past : List Entry) (i id : ℕ) (y : Reply) (state : IdState) → i ≢ id → ReadsId past id state
    → ReadsId (entry.Event (Take i y) ∷ past) id state
take_other past i id y Free ne s = s
take_other past i id y (Pending p a b) ne s = (s.0, rw (not_at past i id p ne s.0) s.1, s.2, s.3)
take_other past i id y (Replied p a old) ne s = (s.0, rw (not_at past i id p ne s.0) s.1, s.2)

-- entries that are no request, Send or reply change nothing of it
cancel_reads : (past : List Entry) (lane id : ℕ) (state : IdState) → ReadsId past id state
    → ReadsId (entry.Event (Cancel lane) ∷ past) id state
cancel_reads past lane id Free s = s
cancel_reads past lane id (Pending p a b) s = s
cancel_reads past lane id (Replied p a y) s = s

end_reads : (past : List Entry) (lane call : ℕ) (o : Outcome) (id : ℕ) (state : IdState) → ReadsId past id state
    → ReadsId (entry.Event (End lane call o) ∷ past) id state
end_reads past lane call o id Free s = s
end_reads past lane call o id (Pending p a b) s = s
end_reads past lane call o id (Replied p a y) s = s

added_reads : (past : List Entry) (lane : ℕ) (c : Call) (id : ℕ) (state : IdState) → ReadsId past id state
    → ReadsId (entry.Added lane c ∷ past) id state
added_reads past lane c id Free s = s
added_reads past lane c id (Pending p a b) s = s
added_reads past lane c id (Replied p a y) s = s

let_go_reads : (past : List Entry) (lane id : ℕ) (state : IdState) → ReadsId past id state
    → ReadsId (entry.LetGo lane ∷ past) id state
let_go_reads past lane id Free s = s
let_go_reads past lane id (Pending p a b) s = s
let_go_reads past lane id (Replied p a y) s = s

kept_reads : (past : List Entry) (fault : Fault) (id : ℕ) (state : IdState) → ReadsId past id state
    → ReadsId (entry.Kept fault ∷ past) id state
kept_reads past fault id Free s = s
kept_reads past fault id (Pending p a b) s = s
kept_reads past fault id (Replied p a y) s = s

pub reads : (past : List Entry) (id : ℕ) → ReadsId past id (id_state past id)
reads [] id = refl
reads (entry.Event (Submit by i r) ∷ past) id =
    elim (eqb_tells i id) [
      | inl t ↦ rw t.0 (submit_new past by i id r t.0)
      | inr t ↦ rw t.0 (submit_old past by i id r (id_state past id) t.0 (reads past id))
    ]
reads (entry.Event Send ∷ past) id = send_reads past id (id_state past id) (reads past id)
reads (entry.Event (Take i y) ∷ past) id =
    elim (eqb_tells i id) [
      | inl t ↦ rw t.0 (let W : ℕ → Type 0 = λ k. ReadsId (entry.Event (Take k y) ∷ past) id
          (now_replied y (id_state past id)) in subst W (sym t.1)
          (take_here past id y (id_state past id) (reads past id)))
      | inr t ↦ rw t.0 (take_other past i id y (id_state past id) t.1 (reads past id))
    ]
reads (entry.Event (Cancel lane) ∷ past) id = cancel_reads past lane id (id_state past id) (reads past id)
reads (entry.Event (End lane call o) ∷ past) id = end_reads past lane call o id (id_state past id) (reads past id)
reads (entry.Added lane c ∷ past) id = added_reads past lane c id (id_state past id) (reads past id)
reads (entry.LetGo lane ∷ past) id = let_go_reads past lane id (id_state past id) (reads past id)
reads (entry.Kept fault ∷ past) id = kept_reads past fault id (id_state past id) (reads past id)

-- ---- what is free

-- no unanswered request bears the id
abbrev pub IsFreeState : IdState → Type 0
IsFreeState Free = Unit {0}
IsFreeState (Pending place a was_sent) = ⊥
IsFreeState (Replied place a r) = Unit {0}

free_by : (past : List Entry) (id : ℕ) (state : IdState) → ReadsId past id state → IsFreeState state
    → place_awaiting past id ≡ None
free_by past id Free s free = rw s refl
free_by past id (Pending p a b) s free = absurd free
free_by past id (Replied p a y) s free = rw s.0 (rw s.1 refl)

pub free_state : (past : List Entry) (id : ℕ) → IsFreeState (id_state past id) → place_awaiting past id ≡ None
free_state past id free = free_by past id (id_state past id) (reads past id) free

pending_by : (past : List Entry) (id p : ℕ) (a : AskedRequest) (b : Bool) (state : IdState) → ReadsId past id state
    → state ≡ Pending p a b → place_awaiting past id ≡ Some p
pending_by past id p a b Free s e = absurd cc
pending_by past id p a b (Replied q c y) s e = absurd cc
pending_by past id p a b (Pending q c d) s e = let same : q ≡ p = cc in rw s.0 (rw s.1 (ap (λ (n : ℕ). Some n) same))

pub pending_state : (past : List Entry) (id p : ℕ) (a : AskedRequest) (b : Bool) → id_state past id ≡ Pending p a b
    → place_awaiting past id ≡ Some p
pending_state past id p a b e = pending_by past id p a b (id_state past id) (reads past id) e
