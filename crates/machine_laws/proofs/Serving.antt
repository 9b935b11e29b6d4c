-- The replies that were taken are those of one run of the machine.
use Rattle.std.proofs.Common.{
  ◌≡◌,
  ◌≢◌,
  ◌<◌,
  ◌≤◌,
  ◌==◌,
  ℕ,
  ◌+◌,
  Bool,
  true,
  false,
  List,
  [],
  ◌∷◌,
  ◌++◌,
  length,
  drop,
  Option,
  Some,
  None,
  refl,
  ap,
  sym,
  ◌∙◌,
  subst,
  arith,
  if◌then◌else◌,
  inl,
  inr,
  length-append,
}
use Rattle.std.specs.Prelude.{◌⊎◌}
use Rattle.std.specs.Int.{w32, from_be_bytes}
use Rattle.std.specs.Str.{bytes_eq}
use Rattle.std.proofs.lemmas.Bool.{ne_eqb}
use Rattle.std.proofs.lemmas.Bool.Decides.{eqb_tells}
use Rattle.std.proofs.lemmas.List.{append-nil, drop-drop}
use Rattle.std.proofs.lemmas.Nat.{from_be_bytes-to_be_bytes_4}
use Rattle.sftp_model.specs.declared.config.Choice.{Choice}
use Rattle.sftp_model.specs.declared.config.ServerConfig.{ServerConfig}
use Rattle.sftp_model.specs.declared.reply.Reply.{Reply}
use Rattle.sftp_model.specs.declared.reply.Reply.TheVariants as reply
use Rattle.sftp_model.specs.declared.request.Request.{Request}
use Rattle.sftp_model.specs.declared.request.Request.TheVariants as request
use Rattle.sftp_model.specs.Answers.{IsAfterHello, is_handle, may_answer, status}
use Rattle.machine_model.specs.FileTree.{FileTree, value_at_key, opened_at}
use Rattle.machine_model.specs.HandleRequests.{Answer}
use Rattle.machine_model.specs.TreeAnswers.{apply, first_choice, limits_reply}
use Rattle.machine_model.specs.declared.opened.Opened.{Opened}
use Rattle.machine_model.proofs.AnswerLaws.{tree_answers}
use Rattle.machine_model.proofs.GrantingLaws.{unopened_stays}
use Rattle.machine_tree.specs.Numbers.{numbered_handle}
use Rattle.machine_answers.specs.MachineState.{MAX_HANDLES, MachineState, answer as answer_of, after_answer, with_grant, with_tree}
use Rattle.session_model.specs.declared.event.Owner.{Owner}
use Rattle.session_model.specs.declared.event.Owner.TheVariants as owner
use Rattle.session_model.specs.declared.event.Event.TheVariants.{Submit, Send}
use Rattle.session_model.specs.declared.entry.Entry.{Entry}
use Rattle.session_model.specs.declared.entry.Entry.TheVariants as entry
use Rattle.session_model.specs.Readings.{AskedRequest, count_submitted, asked_at, answer}
use Rattle.session_model.specs.Served.{IsReply, MayGrant, ServesJournal, ServesAll, reply_to_query, requests_of, requests_sent, where_by_setup}
use Rattle.sftp_map_server.specs.Serving.{ServerState, is_query, after_choice}
use Rattle.machine_laws.proofs.Asking.{asks_handle}
use Rattle.machine_laws.proofs.Sound.{FitsBy, IsSound}
use Rattle.machine_laws.proofs.Replying.{call_after, call_query, next_config, next_state, reply_to}
use Rattle.machine_laws.proofs.Owing.{config_at, state_of, state_sent, due, due_new, due_old, tells_of}
use Rattle.machine_laws.proofs.Showing.{AnswersBy}

-- ---- handles

-- no handle that may still be granted is open
abbrev NewFrom : ℕ → FileTree → Type 0
NewFrom n tree = (k : ℕ) → n ≤ k → k < MAX_HANDLES → opened_at tree (numbered_handle k) ≡ None

number_one : (n k : ℕ) → n < MAX_HANDLES → k < MAX_HANDLES → numbered_handle n ≡ numbered_handle k → n ≡ k
number_one n k a b e = sym (from_be_bytes-to_be_bytes_4 n a)
    ∙ (ap (from_be_bytes w32) e ∙ from_be_bytes-to_be_bytes_4 k b)

-- ---- one request

-- the definition's answer, with the next number as its handle
abbrev pub done_at : ServerState → Request → Answer
done_at at r = apply at.machine.tree at.machine.config r (first_choice at.choices) (numbered_handle at.machine.grants)

-- the grants behind an answer
abbrev pub grants_behind : ℕ → Reply → ℕ
grants_behind n x = if is_handle x then n + 1 else n

-- where it granted the next handle, the one behind it is new, and else all that were
new_from : (at : ServerState) (r : Request) → at.machine.grants < MAX_HANDLES
    → NewFrom at.machine.grants at.machine.tree
    → NewFrom (grants_behind at.machine.grants (done_at at r).0) (done_at at r).1
new_from at r small new k le lt =
    unopened_stays at.machine.tree at.machine.config r (first_choice at.choices) (numbered_handle at.machine.grants)
    (numbered_handle k) (new k (by_test (is_handle (done_at at r).0) le) lt)
    (by_case (is_handle (done_at at r).0) refl)
  where
    by_test : (b : Bool) → (if b then at.machine.grants + 1 else at.machine.grants) ≤ k → at.machine.grants ≤ k
    by_test true h = omega (arith, h)
    by_test false h = h

    by_case : (b : Bool) → is_handle (done_at at r).0 ≡ b → (numbered_handle at.machine.grants ≢ numbered_handle k)
        ⊎ (is_handle (done_at at r).0 ≡ false)
    by_case false e = inr e
    by_case true e = inl (λ same. let is = number_one at.machine.grants k small lt same in
        let above : at.machine.grants + 1 ≤ k = subst (λ (b : Bool).
        (if b then at.machine.grants + 1 else at.machine.grants) ≤ k) e le in absurd (omega (arith, is, above)))

-- a request that asks for no handle is granted none
none_granted : (r : Request) (x : Reply) → asks_handle r ≡ false → may_answer r x ≡ true → is_handle x ≡ false
none_granted (request.OpenFile path flags attrs) (reply.Handle handle) e may = absurd cc
none_granted (request.Opendir path) (reply.Handle handle) e may = absurd cc
none_granted r (reply.Handle handle) e may = absurd cc
none_granted r x e may = refl

-- while there are handles left, the reply is the definition's
record Follows (state : MachineState) (x : Answer) (after : Reply × MachineState) : Type 0 where
  said : after.0 ≡ x.0
  tree : after.1.tree ≡ x.1
  grants : after.1.grants ≡ grants_behind state.grants x.0

follows : (state : MachineState) (x : Answer) → state.grants < MAX_HANDLES → Follows state x (after_answer state x)
follows state x lt = by_test (is_handle x.0) (state.grants == MAX_HANDLES) refl
    (ne_eqb state.grants MAX_HANDLES (λ e. omega (arith, e, lt)))
  where
    by_test : (a b : Bool) → is_handle x.0 ≡ a → b ≡ false → Follows state x
        (if a then (if b then (status 4, state) else (x.0, with_grant state x.1)) else (x.0, with_tree state x.1))
    by_test true true is e = absurd cc
    by_test true false is e = record { said = refl; tree = refl; grants = rw is refl }
    by_test false b is e = record { said = refl; tree = refl; grants = rw is refl }

-- ---- all requests

-- 1 for a request that asks for a handle
abbrev pub handles_asked : Request → ℕ
handles_asked r = if asks_handle r then 1 else 0

-- how many handles calls asked for
abbrev pub called : List Entry → ℕ
called [] = 0
called (entry.Event (Submit (owner.Call lane call) id r) ∷ past) = called past + handles_asked r
called (_ ∷ past) = called past

-- one request more
serves_more : (config : ServerConfig) (full : List Entry) (mid now : FileTree) (left : List Choice)
    (rs : List (ℕ × Request)) (m : FileTree) (choices : List Choice) (x : ℕ × Request) (handle : List ℕ)
    → ServesAll config full m choices rs mid → left ≡ drop (length rs) choices → MayGrant mid handle
    → IsReply (answer full x.0) (apply mid config x.1 (first_choice left) handle).0
    → now ≡ (apply mid config x.1 (first_choice left) handle).1 → ServesAll config full m choices (rs ++ x ∷ []) now
serves_more config full mid now left [] m choices x handle s is may reply e = (
  handle,
  (
    subst (λ (w : FileTree). MayGrant w handle) s may,
    subst (λ (w : List Choice). IsReply (answer full x.0) (apply m config x.1 (first_choice w) handle).0) is
        (subst (λ (w : FileTree). IsReply (answer full x.0) (apply w config x.1 (first_choice left) handle).0) s reply),
    e ∙ (ap (λ (w : FileTree). (apply w config x.1 (first_choice left) handle).1) s
        ∙ ap (λ (w : List Choice). (apply m config x.1 (first_choice w) handle).1) is),
  ),
)
serves_more config full mid now left (r ∷ rs) m choices x handle s is may reply e =
    let len : length (r ∷ rs) ≡ 1 + length rs = omega arith in (
      s.0,
      (
        s.1.0,
        s.1.1,
        serves_more config full mid now left rs _ (drop 1 choices) x handle s.1.2
            (is ∙ (ap (λ (k : ℕ). drop k choices) len ∙ sym (drop-drop (length rs) 1 choices))) may reply e,
      ),
    )

-- The machine's run over these requests gives the replies that were taken, and leaves this state with at most n grants.
pub record Ran (d : ServerState) (full : List Entry) (rs : List (ℕ × Request)) (at : ServerState) (n : ℕ) : Type 0 where
  pub serves : ServesAll d.machine.config full d.machine.tree d.choices rs at.machine.tree
  pub left : at.choices ≡ drop (length rs) d.choices
  pub new : NewFrom at.machine.grants at.machine.tree
  pub few : at.machine.grants ≤ n
  pub config : at.machine.config ≡ d.machine.config

is_reply : (o : Option Reply) (a : AskedRequest) (r : Reply) → AnswersBy o (Some (a, r)) → IsReply o r
is_reply None a r h = tt
is_reply (Some x) a r h = h

-- the state after a request of the machine
pub record Moves (at : ServerState) (r : Request) : Type 0 where
  pub said : reply_to at r ≡ (done_at at r).0
  pub tree : (next_state at r).machine.tree ≡ (done_at at r).1
  pub grants : (next_state at r).machine.grants ≡ grants_behind at.machine.grants (done_at at r).0
  pub choices : (next_state at r).choices ≡ drop 1 at.choices

parts : (at : ServerState) (r : Request) → is_query r ≡ false → (reply_to at r
    ≡ (answer_of at.machine r (first_choice at.choices)).0) × (next_state at r
    ≡ after_choice at (answer_of at.machine r (first_choice at.choices)).1)
unfolding reply_to next_state
parts at r e = rw e (refl, refl)

pub moves : (at : ServerState) (r : Request) → is_query r ≡ false → at.machine.grants < MAX_HANDLES → Moves at r
moves at r e lt =
    let f : Follows at.machine (done_at at r) (answer_of at.machine r (first_choice at.choices)) =
    follows at.machine (done_at at r) lt in
    let is = parts at r e in
    record {
      said = is.0 ∙ f.said;
      tree = ap (λ (w : ServerState). w.machine.tree) is.1 ∙ f.tree;
      grants = ap (λ (w : ServerState). w.machine.grants) is.1 ∙ f.grants;
      choices = ap (λ (w : ServerState). w.choices) is.1;
    }

ran_more : (d : ServerState) (full : List Entry) (rs : List (ℕ × Request)) (at : ServerState) (n more place : ℕ)
    (a : AskedRequest)
    (r : Request) → Ran d full rs at n → is_query r ≡ false → n < MAX_HANDLES
    → AnswersBy (answer full place) (Some (a, reply_to at r)) → grants_behind at.machine.grants (done_at at r).0 ≤ more
    → (next_state at r).machine.config ≡ at.machine.config → Ran d full (rs ++ (place, r) ∷ []) (next_state at r) more
ran_more d full rs at n more place a r ran query lt by few config =
    let less : at.machine.grants < MAX_HANDLES = let f = ran.few in omega (arith, f, lt) in
    let m = moves at r query less in
    let handle : List ℕ = numbered_handle at.machine.grants in
    let same : done_at at r ≡ apply at.machine.tree d.machine.config r (first_choice at.choices) handle =
    ap (λ (w : ServerConfig). apply at.machine.tree w r (first_choice at.choices) handle) ran.config in
    record {
      serves = serves_more d.machine.config full at.machine.tree (next_state at r).machine.tree at.choices rs
          d.machine.tree d.choices (place, r) handle ran.serves ran.left
          (omega arith, ran.new at.machine.grants (omega arith) less)
          (subst (IsReply (answer full place)) (m.said ∙ ap (λ (w : Answer). w.0) same)
          (is_reply (answer full place) a (reply_to at r) by))
          (m.tree ∙ ap (λ (w : Answer). w.1) same);
      left = m.choices ∙ (ap (λ (w : List Choice). drop 1 w) ran.left
          ∙ (drop-drop 1 (length rs) d.choices ∙ ap (λ (k : ℕ). drop k d.choices)
          (sym (length-append rs ((place, r) ∷ [])))));
      new = λ k le small. subst (λ (w : FileTree). opened_at w (numbered_handle k) ≡ None) (sym m.tree)
          (new_from at r less ran.new k (let g = m.grants in let l = le in omega (arith, g, l)) small);
      few = let g = m.grants in omega (arith, g, few);
      config = config ∙ ran.config;
    }

-- the grants grow by what was asked for alone
few_more : (at : ServerState) (r : Request) (n : ℕ) → IsAfterHello r → at.machine.grants ≤ n
    → grants_behind at.machine.grants (done_at at r).0 ≤ n + handles_asked r
few_more at r n after le =
    by_test (asks_handle r) (is_handle (done_at at r).0) (λ e. none_granted r (done_at at r).0 e
    (tree_answers at.machine.tree at.machine.config r (first_choice at.choices) (numbered_handle at.machine.grants)
    after).allowed)
  where
    by_test : (b c : Bool) → (b ≡ false → c ≡ false) → (if c then at.machine.grants + 1 else at.machine.grants) ≤ n +
        (if b then 1 else 0)
    by_test true true h = omega (arith, le)
    by_test true false h = omega (arith, le)
    by_test false true h = absurd (let no_way = h refl in cc)
    by_test false false h = omega (arith, le)

stays : (at : ServerState) → next_state at request.LimitsQuery ≡ at
unfolding next_state
stays at = refl

pub after_query : (at : ServerState) (r : Request) → r ≡ request.LimitsQuery → next_state at r ≡ at
after_query at r e = ap (next_state at) e ∙ stays at

pub fewer : (q : List Entry) (by : Owner) (id : ℕ) (r : Request)
    → called (entry.Event (Submit by id r) ∷ q) < MAX_HANDLES → called q < MAX_HANDLES
fewer q owner.Setup id r lt = lt
fewer q owner.Close id r lt = lt
fewer q (owner.Call lane call) id r lt = let l : called q + handles_asked r < MAX_HANDLES = lt in omega (arith, l)

-- all that was submitted
pub ran_all : (d : ServerState) (full q : List Entry) → d.machine.grants ≡ 0 → d.machine.tree.handles ≡ []
    → IsSound (tells_of d) q → ((p : ℕ) → p < count_submitted q → AnswersBy (answer full p) (due d q p))
    → called q < MAX_HANDLES
    → Ran d full (requests_of q) (state_of d q) (called q)
ran_all d full [] none closed s by few =
    record {
      serves = refl;
      left = refl;
      new = λ k le lt. ap (λ (w : List (List ℕ × Opened)). value_at_key bytes_eq w
          (numbered_handle k)) closed;
      few = omega (arith, none);
      config = refl;
    }
ran_all d full (entry.Event (Submit by id r) ∷ q) none closed s by_place few =
    by_case by s.1 (ran_all d full q none closed s.2 (λ p lt. subst (AnswersBy (answer full p))
    (due_old d q by id p r lt) (by_place p (omega (arith, lt)))) (fewer q by id r few))
    (subst (AnswersBy (answer full (count_submitted q))) (due_new d q by id r)
    (by_place (count_submitted q) (omega arith))) few
  where
    by_case : (by : Owner) → FitsBy (tells_of d) by r → Ran d full (requests_of q) (state_of d q) (called q)
        → AnswersBy (answer full (count_submitted q)) (Some (
          record { by = by; id = id; request = r },
          reply_to (state_of d q) r,
        ))
        → called (entry.Event (Submit by id r) ∷ q) < MAX_HANDLES
        → Ran d full (requests_of (entry.Event (Submit by id r) ∷ q)) (next_state (state_of d q) r)
        (called (entry.Event (Submit by id r) ∷ q))
    by_case owner.Setup f ran by lt =
        subst (λ (w : List (ℕ × Request)). Ran d full w (next_state (state_of d q) r) (called q))
        (sym (append-nil (requests_of q)))
        (subst (λ (w : ServerState). Ran d full (requests_of q) w (called q)) (sym (after_query (state_of d q) r f.0))
        ran)
    by_case owner.Close f ran by lt =
        let few : grants_behind (state_of d q).machine.grants (done_at (state_of d q) r).0 ≤ called q + handles_asked r
        =
        few_more (state_of d q) r (called q) (subst IsAfterHello (sym f.1) tt) ran.few in
        let none : handles_asked r ≡ 0 = ap handles_asked f.1 in
        ran_more d full (requests_of q) (state_of d q) (called q) (called q) (count_submitted q) _ r ran
        (ap is_query f.1) lt by
        (omega (arith, few, none)) (next_config (state_of d q) r)
    by_case (owner.Call lane call) f ran by lt =
        ran_more d full (requests_of q) (state_of d q) (called q) (called q + handles_asked r) (count_submitted q) _ r
        ran
        (call_query r f) (fewer q (owner.Call lane call) id r lt) by
        (few_more (state_of d q) r (called q) (call_after r f).1 ran.few) (next_config (state_of d q) r)
ran_all d full (_ ∷ q) none closed s by few = ran_all d full q none closed s by few

-- and so all that was sent
ran_sent : (d : ServerState) (full q : List Entry) → d.machine.grants ≡ 0 → d.machine.tree.handles ≡ []
    → IsSound (tells_of d) q → ((p : ℕ) → p < count_submitted q → AnswersBy (answer full p) (due d q p))
    → called q < MAX_HANDLES
    → ServesAll d.machine.config full d.machine.tree d.choices (requests_sent q) (state_sent d q).machine.tree
ran_sent d full [] none closed s by few = refl
ran_sent d full (entry.Event Send ∷ q) none closed s by few = (ran_all d full q none closed s by few).serves
ran_sent d full (entry.Event (Submit o id r) ∷ q) none closed s by few =
    ran_sent d full q none closed s.2 (λ p lt. subst (AnswersBy (answer full p)) (due_old d q o id p r lt)
    (by p (omega (arith, lt)))) (fewer q o id r few)
ran_sent d full (_ ∷ q) none closed s by few = ran_sent d full q none closed s by few

-- ---- the limits

said_limits : (at : ServerState) → reply_to at request.LimitsQuery ≡ limits_reply at.machine.config.limits
unfolding reply_to
said_limits at = refl

due_query : (d : ServerState) (past : List Entry) (p : ℕ) (a : AskedRequest) → IsSound (tells_of d) past
    → asked_at past p ≡ Some a
    → a.by ≡ owner.Setup → due d past p ≡ Some (a, limits_reply d.machine.config.limits)
due_query d [] p a s e setup = absurd cc
due_query d (entry.Event (Submit by id r) ∷ past) p a s e setup =
    elim (eqb_tells p (count_submitted past)) [
      | inl t ↦ (let is : Some (record { by = by; id = id; request = r }) ≡ Some a = rw t.0 at e in
          let same : (let w : AskedRequest = record { by = by; id = id; request = r } in w) ≡ a = cc is in
          let query : r ≡ request.LimitsQuery = asks_limits by (ap (λ (w : AskedRequest). w.by) same ∙ setup) s.1 in
          rw t.0 (ap (λ (w : Reply). let v : AskedRequest × Reply = (record { by = by; id = id; request = r }, w) in
          Some v)
          (ap (reply_to (state_of d past)) query ∙ (said_limits (state_of d past)
          ∙ ap (λ (c : ServerConfig). limits_reply c.limits) (config_at d past)))
          ∙ ap (λ (w : AskedRequest). let v : AskedRequest × Reply = (w, limits_reply d.machine.config.limits) in
          Some v) same))
      | inr t ↦ rw t.0 (due_query d past p a s.2 (rw t.0 at e) setup)
    ]
  where
    asks_limits : (by : Owner) → by ≡ owner.Setup → FitsBy (tells_of d) by r → r ≡ request.LimitsQuery
    asks_limits owner.Setup e f = f.0
    asks_limits owner.Close e f = absurd cc
    asks_limits (owner.Call lane call) e f = absurd cc
due_query d (_ ∷ past) p a s e setup = due_query d past p a s e setup

tells_by : (d : ServerState) (past : List Entry) (o : Option AskedRequest) → asked_at past 0 ≡ o
    → IsSound (tells_of d) past → AnswersBy (answer past 0) (due d past 0)
    → IsReply (reply_to_query o (answer past 0)) (limits_reply d.machine.config.limits)
tells_by d past None e s by = tt
tells_by d past (Some a) e s by = by_case a.by refl
  where
    by_case : (o : Owner) → a.by ≡ o → IsReply (where_by_setup o (answer past 0)) (limits_reply d.machine.config.limits)
    by_case owner.Setup is = is_reply (answer past 0) a (limits_reply d.machine.config.limits)
        (subst (AnswersBy (answer past 0)) (due_query d past 0 a s e is) by)
    by_case owner.Close is = tt
    by_case (owner.Call lane call) is = tt

-- a journal whose replies came as they were due is served
pub serves_by : (d : ServerState) (past : List Entry) → d.machine.grants ≡ 0 → d.machine.tree.handles ≡ []
    → IsSound (tells_of d) past → ((p : ℕ) → AnswersBy (answer past p) (due d past p)) → called past < MAX_HANDLES
    → ServesJournal d.machine.config d.choices d.machine.tree past (state_sent d past).machine.tree
serves_by d past none closed s by few = (
  ran_sent d past past none closed s (λ p lt. by p) few,
  tells_by d past (asked_at past 0) refl s (by 0),
)
