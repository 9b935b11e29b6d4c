-- What a journal that is a run so far keeps of its requests and their ids.
use Rattle.std.proofs.Common.{◌≡◌, ℕ, Bool, true, false, List, [], ◌∷◌, Option, Some, None, ap, sym, subst, if◌then◌else◌, inl, inr}
use Rattle.std.specs.Prelude.{MatchOption}
use Rattle.std.proofs.lemmas.Bool.Decides.{eqb_tells}
use Rattle.sftp_model.specs.declared.request.Request.{Request}
use Rattle.sftp_model.specs.declared.reply.Reply.{Reply}
use Rattle.session_model.specs.declared.event.Owner.{Owner}
use Rattle.session_model.specs.declared.event.Owner.TheVariants as owner
use Rattle.session_model.specs.declared.event.Event.TheVariants.{Submit, Take}
use Rattle.session_model.specs.declared.entry.Entry.{Entry}
use Rattle.session_model.specs.declared.entry.Entry.TheVariants as entry
use Rattle.session_model.specs.Readings.{AskedRequest, count_submitted, asked_at, bearer, answer, is_at, place_awaiting, last_cancel}
use Rattle.session_model.specs.Calls.{Setting}
use Rattle.session_model.specs.Grants.{next_due}
use Rattle.session_model.specs.Journals.{IsJournal, IsNext, IsFree, MayCome, MustClose, cancelled_end}
use Rattle.session_model.proofs.RequestLaws.{is_awaiting}

may_free : (s : Setting) (past : List Entry) (by : Owner) (id : ℕ) (r : Request)
    → MayCome s past (entry.Event (Submit by id r)) → IsFree past id
may_free s past (owner.Call lane call) id r may = may.2
may_free s past owner.Setup id r may = may.3
may_free s past owner.Close id r may = absurd may

due_free : (past : List Entry) (g id : ℕ) (by : Owner) (r : Request) → MustClose past g (entry.Event (Submit by id r))
    → IsFree past id
due_free past g id by r must = let same : id ≡ must.0 = cc (must.1.1) in
    subst (λ (k : ℕ). IsFree past k) (sym same) must.1.0

free_by : (s : Setting) (past : List Entry) (by : Owner) (id : ℕ) (r : Request) (c g : Option ℕ)
    → MatchOption c (MatchOption g (MayCome s past (entry.Event (Submit by id r)))
    (λ grant. MustClose past grant (entry.Event (Submit by id r))))
    (λ lane. entry.Event (Submit by id r) ≡ cancelled_end past lane)
    → IsFree past id
free_by s past by id r (Some lane) g h = absurd cc
free_by s past by id r None (Some grant) h = due_free past grant id by r h
free_by s past by id r None None h = may_free s past by id r h

-- a request is submitted under a free id
pub submit_free : (s : Setting) (past : List Entry) (by : Owner) (id : ℕ) (r : Request)
    → IsNext s past (entry.Event (Submit by id r)) → IsFree past id
submit_free s past by id r h = free_by s past by id r (last_cancel past) (next_due s past) h

still_none : (b : Bool) (r : Reply) (old : Option Reply) → (if b then Some r else old) ≡ None → old ≡ None
still_none true r old e = absurd cc
still_none false r old e = e

-- an unanswered request is the last that bears its id
pub unanswered_borne : (s : Setting) (past : List Entry) (p : ℕ) (a : AskedRequest) → IsJournal s past → asked_at past p
    ≡ Some a → answer past p ≡ None → bearer past a.id ≡ Some p
unanswered_borne s [] p a j e none = absurd cc
unanswered_borne s (entry.Event (Submit by i r) ∷ past) p a j e none =
    elim (eqb_tells p (count_submitted past)) [
      | inl t ↦ (let is : Some (record { by = by; id = i; request = r }) ≡ Some a = rw t.0 at e in let same : i ≡ a.id =
          ap id_of is in
          elim (eqb_tells i a.id) [ inl u ↦ rw u.0 (ap (λ (n : ℕ). Some n) (sym t.1)) | inr u ↦ absurd (u.1 same) ])
      | inr t ↦ (let old : bearer past a.id ≡ Some p = unanswered_borne s past p a j.1 (rw t.0 at e) none in
          elim (eqb_tells i a.id) [
            | inl u ↦ absurd (let free : place_awaiting past a.id ≡ None =
                subst (λ (k : ℕ). place_awaiting past k ≡ None) u.1 (submit_free s past by i r j.0).1 in let taken =
                is_awaiting past a.id p old none in cc)
            | inr u ↦ rw u.0 old
          ])
    ]
  where
    id_of : Option AskedRequest → ℕ
    id_of None = 0
    id_of (Some a) = a.id
unanswered_borne s (entry.Event (Take id r) ∷ past) p a j e none =
    unanswered_borne s past p a j.1 e (still_none (is_at (bearer past id) p) r (answer past p) none)
unanswered_borne s (_ ∷ past) p a j e none = unanswered_borne s past p a j.1 e none

-- no two unanswered requests bear one id
pub unanswered_apart : (s : Setting) (past : List Entry) (p q : ℕ) (a b : AskedRequest) → IsJournal s past
    → asked_at past p ≡ Some a → answer past p ≡ None
    → asked_at past q ≡ Some b → answer past q ≡ None → a.id ≡ b.id → p ≡ q
unanswered_apart s past p q a b j e none f no_reply same =
    let first : bearer past b.id ≡ Some p = subst (λ (k : ℕ). bearer past k ≡ Some p) same
    (unanswered_borne s past p a j e none) in
    let second : bearer past b.id ≡ Some q = unanswered_borne s past q b j f no_reply in
    cc
