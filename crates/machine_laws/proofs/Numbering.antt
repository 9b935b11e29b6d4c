-- The handles of a journal are numbered by its grants.
use Rattle.std.proofs.Common.{
  ◌≡◌,
  ◌≢◌,
  ◌<◌,
  ℕ,
  suc,
  ◌+◌,
  Bool,
  true,
  false,
  List,
  [],
  ◌∷◌,
  Option,
  Some,
  None,
  is_none,
  refl,
  ap,
  sym,
  ◌∙◌,
  subst,
  arith,
  if◌then◌else◌,
  inl,
  inr,
}
use Rattle.std.proofs.lemmas.Bool.{cases_lt}
use Rattle.std.proofs.lemmas.Bool.Decides.{eqb_tells}
use Rattle.ssh_encoding.specs.Writing.{uint32}
use Rattle.sftp_model.specs.declared.config.Limits.{Limits}
use Rattle.sftp_model.specs.declared.reply.Reply.{Reply}
use Rattle.sftp_model.specs.declared.reply.Reply.TheVariants as reply
use Rattle.sftp_model.specs.declared.request.Request.{Request}
use Rattle.sftp_model.specs.declared.request.Request.TheVariants as request
use Rattle.sftp_model.specs.Answers.{is_handle}
use Rattle.machine_model.specs.TreeAnswers.{first_choice, limits_reply}
use Rattle.machine_model.proofs.ChangeLaws.{apply_leaves}
use Rattle.machine_tree.specs.Numbers.{numbered_handle}
use Rattle.machine_answers.specs.MachineState.{MAX_HANDLES}
use Rattle.session_model.specs.declared.event.Owner.{Owner}
use Rattle.session_model.specs.declared.event.Owner.TheVariants as owner
use Rattle.session_model.specs.declared.event.Event.TheVariants.{Submit}
use Rattle.session_model.specs.declared.entry.Entry.{Entry}
use Rattle.session_model.specs.declared.entry.Entry.TheVariants as entry
use Rattle.session_model.specs.Grants.{is_grant, is_granted}
use Rattle.session_model.specs.Readings.{AskedRequest, answer, count_submitted, count_below, count_unanswered}
use Rattle.session_model.specs.Served.{IsNumbered}
use Rattle.session_model.proofs.CountLaws.{count_none}
use Rattle.session_model.proofs.RequestLaws.{answer_beyond}
use Rattle.sftp_map_server.specs.Serving.{ServerState, is_query}
use Rattle.machine_laws.proofs.Sound.{FitsBy, IsSound}
use Rattle.machine_laws.proofs.Replying.{next_state, reply_to}
use Rattle.machine_laws.proofs.Owing.{state_of, due, due_new, due_old, due_there, query_by, tells_of}
use Rattle.machine_laws.proofs.Showing.{AnswersBy}
use Rattle.machine_laws.proofs.Serving.{Ran, after_query, called, done_at, fewer, moves, ran_all}

-- the reply came that is due
abbrev Came : Option Reply → Option (AskedRequest × Reply) → Type 0
Came r None = ⊥
Came r (Some w) = r ≡ Some w.1

came : (o : Option Reply) (w : Option (AskedRequest × Reply)) → o ≢ None → ((v : AskedRequest × Reply) × (w ≡ Some v))
    → AnswersBy o w → Came o w
came None w some there by = absurd (some refl)
came (Some r) None some there by = absurd by
came (Some r) (Some w) some there by = ap Some by

-- the handle of a HANDLE
is_number : (at : ServerState) (r : Request) (handle : List ℕ) → (done_at at r).0 ≡ reply.Handle handle → handle
    ≡ numbered_handle at.machine.grants
is_number at r handle e =
    let l = apply_leaves at.machine.tree at.machine.config r (first_choice at.choices)
    (numbered_handle at.machine.grants) in
    let granted : is_handle (done_at at r).0 ≡ true = ap is_handle e in
    let same : reply.Handle handle ≡ reply.Handle (numbered_handle at.machine.grants) = sym e ∙ l.named granted in
    cc same

-- the handles at the first places, and how many were granted there
record Numbered (d : ServerState) (full q : List Entry) : Type 0 where
  count : (state_of d q).machine.grants ≡ count_below (is_grant full) (count_submitted q)
  number : (p : ℕ) (handle : List ℕ) → p < count_submitted q → answer full p ≡ Some (reply.Handle handle) → handle
      ≡ numbered_handle (count_below (is_grant full) p)

no_handle : (limits : Option Limits) → is_handle (limits_reply limits) ≡ false
no_handle None = refl
no_handle (Some l) = refl

said_query : (at : ServerState) → reply_to at request.LimitsQuery ≡ limits_reply at.machine.config.limits
unfolding reply_to
said_query at = refl

-- one request more
record More (d : ServerState) (full q : List Entry) (at now : ServerState) : Type 0 where
  count : now.machine.grants ≡ (if is_grant full (count_submitted q) then 1 else 0) + at.machine.grants
  number : (handle : List ℕ) → answer full (count_submitted q) ≡ Some (reply.Handle handle) → handle
      ≡ numbered_handle at.machine.grants

grant_is : (full : List Entry) (p : ℕ) (r : Reply) → answer full p ≡ Some r → is_grant full p ≡ is_handle r
grant_is full p r e = ap is_granted e

counted_so : (b : Bool) (n : ℕ) → (if b then n + 1 else n) ≡ (if b then 1 else 0) + n
counted_so true n = omega arith
counted_so false n = omega arith

one_more : (d : ServerState) (full q : List Entry) (r : Request) → answer full (count_submitted q)
    ≡ Some (reply_to (state_of d q) r)
    → (b : Bool) → is_query r ≡ b → (b ≡ true → r ≡ request.LimitsQuery) → (state_of d q).machine.grants < MAX_HANDLES
    → More d full q (state_of d q) (next_state (state_of d q) r)
one_more d full q r e true query is small =
    let none : is_handle (reply_to (state_of d q) r) ≡ false =
    ap (λ (w : Request). is_handle (reply_to (state_of d q) w))
    (is refl) ∙ (ap is_handle (said_query (state_of d q)) ∙ no_handle (state_of d q).machine.config.limits) in
    let grant : is_grant full (count_submitted q) ≡ false = grant_is full (count_submitted q)
    (reply_to (state_of d q) r) e ∙ none in
    record {
      count = ap (λ (w : ServerState). w.machine.grants) (after_query (state_of d q) r (is refl))
          ∙ counted_so false (state_of d q).machine.grants ∙ ap (λ (b : Bool). (if b then 1 else 0) +
          (state_of d q).machine.grants) (sym grant);
      number = λ handle h. absurd (let same : Some (reply_to (state_of d q) r) ≡ Some (reply.Handle handle) = sym e ∙ h
          in let said : reply_to (state_of d q) r ≡ reply.Handle handle = cc same in let no_way : true ≡ false =
          sym (ap is_handle said) ∙ none in cc);
    }
one_more d full q r e false query is small =
    let at : ServerState = state_of d q in
    let m = moves at r query small in
    let grant : is_grant full (count_submitted q) ≡ is_handle (done_at at r).0 =
    grant_is full (count_submitted q) (reply_to at r) e ∙ ap is_handle m.said in
    record {
      count = m.grants ∙ (counted_so (is_handle (done_at at r).0) at.machine.grants
          ∙ ap (λ (b : Bool). (if b then 1 else 0) + at.machine.grants) (sym grant));
      number = λ handle h. is_number at r handle (let same : Some (reply_to at r) ≡ Some (reply.Handle handle) = sym e
          ∙ h in let said : reply_to at r ≡ reply.Handle handle = cc same in sym m.said ∙ said);
    }

asks_limits : (tells : Bool) (by : Owner) (r : Request) → FitsBy tells by r → is_query r ≡ true → r
    ≡ request.LimitsQuery
asks_limits tells owner.Setup r f e = f.0
asks_limits tells owner.Close r f e = absurd (let no_way : true ≡ false = sym e ∙ ap is_query f.1 in cc)
asks_limits tells (owner.Call lane call) r f e = absurd (let no_way : true ≡ false = sym e
    ∙ query_by tells (owner.Call lane call) r f in cc)

numbered_all : (d : ServerState) (full q : List Entry) → d.machine.grants ≡ 0 → d.machine.tree.handles ≡ []
    → IsSound (tells_of d) q → ((p : ℕ) → p < count_submitted q → Came (answer full p) (due d q p))
    → ((p : ℕ) → p < count_submitted q → AnswersBy (answer full p) (due d q p))
    → called q < MAX_HANDLES → Numbered d full q
numbered_all d full [] none closed s by answers few = record
    { count = none; number = λ p handle lt e. absurd (omega (arith, lt)) }
numbered_all d full (entry.Event (Submit by_owner id r) ∷ q) none closed s by answers few =
    let less = fewer q by_owner id r few in
    let old_answers : (p : ℕ) → p < count_submitted q → AnswersBy (answer full p) (due d q p) =
    λ p lt. subst (AnswersBy (answer full p)) (due_old d q by_owner id p r lt) (answers p (omega (arith, lt))) in
    let n : Numbered d full q = numbered_all d full q none closed s.2
    (λ p lt. subst (Came (answer full p)) (due_old d q by_owner id p r lt) (by p (omega (arith, lt)))) old_answers
    less in
    let ran : Ran d full _ (state_of d q) (called q) = ran_all d full q none closed s.2 old_answers less in
    let here : answer full (count_submitted q) ≡ Some (reply_to (state_of d q) r) =
    subst (Came (answer full (count_submitted q))) (due_new d q by_owner id r) (by (count_submitted q) (omega arith)) in
    let small : (state_of d q).machine.grants < MAX_HANDLES = let f = ran.few in omega (arith, f, less) in
    let m : More d full q (state_of d q) (next_state (state_of d q) r) =
    one_more d full q r here (is_query r) refl (asks_limits (tells_of d) by_owner r s.1) small in
    let next : count_submitted q + 1 ≡ suc (count_submitted q) = omega arith in
    record {
      count = m.count ∙ (ap (λ (k : ℕ). (if is_grant full (count_submitted q) then 1 else 0) + k) n.count
          ∙ ap (count_below (is_grant full)) (sym next));
      number = λ p handle lt e. elim (eqb_tells p (count_submitted q)) [
        | inl t ↦
            let is : p ≡ count_submitted q = t.1 in
            let there : answer full (count_submitted q) ≡ Some (reply.Handle handle) = ap (answer full) (sym is) ∙ e in
            m.number handle there ∙ (ap numbered_handle n.count ∙ ap
            (λ (k : ℕ). numbered_handle (count_below (is_grant full) k)) (sym is))
        | inr t ↦ n.number p handle (let ne : p ≢ count_submitted q = t.1 in let l : p < count_submitted q + 1 = lt in
            omega (arith, ne, l)) e
      ];
    }
numbered_all d full (_ ∷ q) none closed s by answers few = let n = numbered_all d full q none closed s by answers few in
    record { count = n.count; number = n.number }

as_number : (n : ℕ) → numbered_handle n ≡ uint32 n
unfolding uint32
as_number n = refl

not_none : (o : Option Reply) → is_none o ≡ false → o ≢ None
not_none None e = absurd cc
not_none (Some r) e = λ is. absurd cc

-- the handles of a journal whose requests are all answered
pub numbered_by : (d : ServerState) (past : List Entry) → d.machine.grants ≡ 0 → d.machine.tree.handles ≡ []
    → IsSound (tells_of d) past → ((p : ℕ) → AnswersBy (answer past p) (due d past p)) → called past < MAX_HANDLES
    → count_unanswered past ≡ 0 → IsNumbered past
numbered_by d past none closed s by few over place handle e =
    elim (cases_lt place (count_submitted past)) [
      | inl lt ↦
          let answered : (p : ℕ) → p < count_submitted past → Came (answer past p) (due d past p) =
          λ p l. came (answer past p) (due d past p) (not_none (answer past p)
          (count_none (λ q. is_none (answer past q)) (count_submitted past) over p l)) (due_there d past p l) (by p) in
          let n : Numbered d past past = numbered_all d past past none closed s answered (λ p l. by p) few in
          n.number place handle lt e ∙ as_number (count_below (is_grant past) place)
      | inr le ↦ absurd (let no_way : None ≡ Some (reply.Handle handle) = sym (answer_beyond past place le) ∙ e in cc)
    ]
