-- A journal whose trace a machine serves is served in the sense of sessions, while there are handles left.
use Rattle.std.proofs.Common.{
  ◌≡◌,
  ◌≢◌,
  ◌<◌,
  ◌≤◌,
  ◌==◌,
  ℕ,
  ◌+◌,
  Bool,
  true,
  false,
  List,
  [],
  ◌∷◌,
  ◌++◌,
  length,
  drop,
  Option,
  Some,
  None,
  refl,
  ap,
  sym,
  ◌∙◌,
  subst,
  arith,
  if◌then◌else◌,
  inl,
  inr,
  append_assoc,
  length-append,
}
use Rattle.std.specs.Prelude.{◌⊎◌}
use Rattle.std.specs.Int.{w32, from_be_bytes}
use Rattle.std.specs.Str.{bytes_eq}
use Rattle.std.proofs.lemmas.Bool.{cases_lt, ne_eqb}
use Rattle.std.proofs.lemmas.Bool.Decides.{eqb_tells}
use Rattle.std.proofs.lemmas.List.{append-nil, drop-drop}
use Rattle.std.proofs.lemmas.Nat.{from_be_bytes-to_be_bytes_4}
use Rattle.sftp_model.specs.declared.config.Choice.{Choice}
use Rattle.sftp_model.specs.declared.config.Limits.{Limits}
use Rattle.sftp_model.specs.declared.config.ServerConfig.{ServerConfig}
use Rattle.sftp_model.specs.declared.reply.Reply.{Reply}
use Rattle.sftp_model.specs.declared.request.Request.{Request}
use Rattle.sftp_model.specs.declared.request.Request.TheVariants as request
use Rattle.sftp_model.specs.Answers.{is_handle, status}
use Rattle.machine_model.specs.FileTree.{FileTree, value_at_key, opened_at}
use Rattle.machine_model.specs.HandleRequests.{Answer}
use Rattle.machine_model.specs.TreeAnswers.{apply, first_choice, limits_reply}
use Rattle.machine_model.specs.declared.opened.Opened.{Opened}
use Rattle.machine_model.proofs.GrantingLaws.{unopened_stays}
use Rattle.machine_tree.specs.Numbers.{numbered_handle}
use Rattle.machine_answers.specs.MachineState.{MAX_HANDLES, MachineState, answer as answer_of, after_answer, with_grant, with_tree}
use Rattle.session_model.specs.declared.event.Owner.{Owner}
use Rattle.session_model.specs.declared.event.Owner.TheVariants as owner
use Rattle.session_model.specs.declared.event.Event.TheVariants.{Submit, Send, Take, Cancel, End}
use Rattle.session_model.specs.declared.entry.Entry.{Entry}
use Rattle.session_model.specs.declared.entry.Entry.TheVariants as entry
use Rattle.session_model.specs.Calls.{Setting}
use Rattle.session_model.specs.Journals.{IsJournal}
use Rattle.session_model.specs.Readings.{AskedRequest, answer, count_submitted, asked_at, count_sent, trace_of, count_unanswered}
use Rattle.session_model.specs.Served.{IsReply, MayGrant, ServesJournal, ServesAll, TellsLimits, reply_to_query, requests_of, requests_sent, where_by_setup}
use Rattle.session_model.proofs.CallLaws.{next_take}
use Rattle.session_model.proofs.CountLaws.{some_unanswered}
use Rattle.session_model.proofs.RequestLaws.{answer_beyond, answer_other, sent_asked}
use Rattle.sftp_share.specs.declared.outcome.Replay.TheVariants as replay
use Rattle.sftp_share.specs.Replays.{choice_for, choices_after, is_uncounted, replay_from}
use Rattle.sftp_share.proofs.HelloLaws.{Asks, asks_next}
use Rattle.sftp_share.proofs.MachineRuns.{agrees, choices_at, left_at, machine_at, said_at}

-- ---- one request

-- no handle that may still be granted is open
abbrev NewFrom : ℕ → FileTree → Type 0
NewFrom n tree = (k : ℕ) → n ≤ k → k < MAX_HANDLES → opened_at tree (numbered_handle k) ≡ None

number_one : (n k : ℕ) → n < MAX_HANDLES → k < MAX_HANDLES → numbered_handle n ≡ numbered_handle k → n ≡ k
number_one n k a b e = sym (from_be_bytes-to_be_bytes_4 n a)
    ∙ (ap (from_be_bytes w32) e ∙ from_be_bytes-to_be_bytes_4 k b)

-- the definition's reply, with the next number as its handle
abbrev done_at : MachineState → List Choice → Request → Answer
done_at m choices r = apply m.tree m.config r (first_choice choices) (numbered_handle m.grants)

-- the grants after a reply
abbrev grants_behind : ℕ → Reply → ℕ
grants_behind n x = if is_handle x then n + 1 else n

-- if it granted the next handle, the one after it is new, and otherwise all that were
new_from : (m : MachineState) (choices : List Choice) (r : Request) → m.grants < MAX_HANDLES → NewFrom m.grants m.tree
    → NewFrom (grants_behind m.grants (done_at m choices r).0) (done_at m choices r).1
new_from m choices r small new k le lt =
    unopened_stays m.tree m.config r (first_choice choices) (numbered_handle m.grants) (numbered_handle k)
    (new k (by_test (is_handle (done_at m choices r).0) le) lt) (by_case (is_handle (done_at m choices r).0) refl)
  where
    by_test : (b : Bool) → (if b then m.grants + 1 else m.grants) ≤ k → m.grants ≤ k
    by_test true h = omega (arith, h)
    by_test false h = h

    by_case : (b : Bool) → is_handle (done_at m choices r).0 ≡ b
        → (numbered_handle m.grants ≢ numbered_handle k) ⊎ (is_handle (done_at m choices r).0 ≡ false)
    by_case false e = inr e
    by_case true e = inl (λ same. let is = number_one m.grants k small lt same in
        let above : m.grants + 1 ≤ k = subst (λ (b : Bool). (if b then m.grants + 1 else m.grants) ≤ k) e le in
        absurd (omega (arith, is, above)))

-- while there are handles left, the reply is the definition's
record Follows (state : MachineState) (x : Answer) (after : Reply × MachineState) : Type 0 where
  said : after.0 ≡ x.0
  tree : after.1.tree ≡ x.1
  grants : after.1.grants ≡ grants_behind state.grants x.0

follows : (state : MachineState) (x : Answer) → state.grants < MAX_HANDLES → Follows state x (after_answer state x)
follows state x lt = by_test (is_handle x.0) (state.grants == MAX_HANDLES) refl
    (ne_eqb state.grants MAX_HANDLES (λ e. omega (arith, e, lt)))
  where
    by_test : (a b : Bool) → is_handle x.0 ≡ a → b ≡ false → Follows state x
        (if a then (if b then (status 4, state) else (x.0, with_grant state x.1)) else (x.0, with_tree state x.1))
    by_test true true is e = absurd cc
    by_test true false is e = record { said = refl; tree = refl; grants = rw is refl }
    by_test false b is e = record { said = refl; tree = refl; grants = rw is refl }

-- the machine that is left has the same offers, and no fewer grants
record Stays (state : MachineState) (after : MachineState) : Type 0 where
  config : after.config ≡ state.config
  grants : state.grants ≤ after.grants

stays : (state : MachineState) (x : Answer) → Stays state (after_answer state x).1
stays state x = by_test (is_handle x.0) (state.grants == MAX_HANDLES)
  where
    by_test : (a b : Bool) → Stays state
        (let p : Reply × MachineState = if a then (if b then (status 4, state) else (x.0, with_grant state x.1)) else
        (x.0, with_tree state x.1) in p).1
    by_test true true = record { config = refl; grants = omega arith }
    by_test true false = record { config = refl; grants = omega arith }
    by_test false b = record { config = refl; grants = omega arith }

-- the query for limits returns them, and changes nothing
tells_them : (m : MachineState) → (limits : Option Limits) → after_answer m (limits_reply limits, m.tree)
    ≡ (limits_reply limits, m)
tells_them m None = refl
tells_them m (Some limits) = refl

answers_query : (m : MachineState) (choices : List Choice) →
    answer_of m request.LimitsQuery (choice_for request.LimitsQuery choices)
    ≡ (limits_reply m.config.limits, m)
answers_query m choices = tells_them m m.config.limits

-- ---- all requests

-- another request
serves_more : (config : ServerConfig) (full : List Entry) (mid now : FileTree) (left : List Choice)
    (rs : List (ℕ × Request)) (m : FileTree) (choices : List Choice) (x : ℕ × Request) (handle : List ℕ)
    → ServesAll config full m choices rs mid → left ≡ drop (length rs) choices → MayGrant mid handle
    → IsReply (answer full x.0) (apply mid config x.1 (first_choice left) handle).0
    → now ≡ (apply mid config x.1 (first_choice left) handle).1 → ServesAll config full m choices (rs ++ x ∷ []) now
serves_more config full mid now left [] m choices x handle s is may reply e = (
  handle,
  (
    subst (λ (w : FileTree). MayGrant w handle) s may,
    subst (λ (w : List Choice). IsReply (answer full x.0) (apply m config x.1 (first_choice w) handle).0) is
        (subst (λ (w : FileTree). IsReply (answer full x.0) (apply w config x.1 (first_choice left) handle).0) s reply),
    e ∙ (ap (λ (w : FileTree). (apply w config x.1 (first_choice left) handle).1) s
        ∙ ap (λ (w : List Choice). (apply m config x.1 (first_choice w) handle).1) is),
  ),
)
serves_more config full mid now left (r ∷ rs) m choices x handle s is may reply e =
    let len : length (r ∷ rs) ≡ 1 + length rs = omega arith in (
      s.0,
      (
        s.1.0,
        s.1.1,
        serves_more config full mid now left rs _ (drop 1 choices) x handle s.1.2
            (is ∙ (ap (λ (k : ℕ). drop k choices) len ∙ sym (drop-drop (length rs) 1 choices))) may reply e,
      ),
    )

module _ (first : MachineState) (choices : List Choice) (full : List Entry) where
  -- the replies to these requests are those of one run of the machine, which leaves this
  record Ran (rs : List (ℕ × Request)) (at : MachineState) (left : List Choice) : Type 0 where
    serves : ServesAll first.config full first.tree choices rs at.tree
    spent : left ≡ drop (length rs) choices
    new : NewFrom at.grants at.tree
    config : at.config ≡ first.config

  ran_more : (rs : List (ℕ × Request)) (at : MachineState) (left : List Choice) (place : ℕ) (r : Request)
      → Ran rs at left
      → is_uncounted r ≡ false → at.grants < MAX_HANDLES → IsReply (answer full place)
      (answer_of at r (choice_for r left)).0
      → Ran (rs ++ (place, r) ∷ []) (answer_of at r (choice_for r left)).1 (choices_after r left)
  ran_more rs at left place r ran plain less by =
      let handle : List ℕ = numbered_handle at.grants in
      let one : choice_for r left ≡ first_choice left = rw plain refl in
      let is : answer_of at r (choice_for r left) ≡ after_answer at (done_at at left r) = ap (answer_of at r) one in
      let f : Follows at (done_at at left r) (answer_of at r (choice_for r left)) =
      subst (Follows at (done_at at left r)) (sym is) (follows at (done_at at left r) less) in
      let stay : Stays at (answer_of at r (choice_for r left)).1 =
      subst (λ (p : Reply × MachineState). Stays at p.1) (sym is) (stays at (done_at at left r)) in
      let same : done_at at left r ≡ apply at.tree first.config r (first_choice left) handle =
      ap (λ (w : ServerConfig). apply at.tree w r (first_choice left) handle) ran.config in
      let dropped : choices_after r left ≡ drop 1 left = rw plain refl in
      record {
        serves = serves_more first.config full at.tree (answer_of at r (choice_for r left)).1.tree left rs first.tree
            choices
            (place, r) handle ran.serves ran.spent (omega arith, ran.new at.grants (omega arith) less)
            (subst (IsReply (answer full place)) (f.said ∙ ap (λ (w : Answer). w.0) same) by)
            (f.tree ∙ ap (λ (w : Answer). w.1) same);
        spent = dropped ∙ (ap (λ (w : List Choice). drop 1 w) ran.spent
            ∙ (drop-drop 1 (length rs) choices ∙ ap (λ (k : ℕ). drop k choices)
            (sym (length-append rs ((place, r) ∷ [])))));
        new = λ k le small. subst (λ (w : FileTree). opened_at w (numbered_handle k) ≡ None) (sym f.tree)
            (new_from at left r less ran.new k (let g = f.grants in let l = le in omega (arith, g, l)) small);
        config = stay.config ∙ ran.config;
      }

  -- the facts that each request keeps, whoever asked
  kept : (q : List Entry) (r : Request) → Stays (machine_at first choices q)
      (answer_of (machine_at first choices q) r (choice_for r (choices_at first choices q))).1
  kept q r = stays (machine_at first choices q) (apply (machine_at first choices q).tree
      (machine_at first choices q).config r
      (choice_for r (choices_at first choices q)) (numbered_handle (machine_at first choices q).grants))

  -- each request got the machine's reply to it
  abbrev AllAgree : Type 0
  AllAgree = (q after : List Entry) (by : Owner) (id : ℕ) (r : Request) → full ≡ after
      ++ entry.Event (Submit by id r) ∷ q
      → IsReply (answer full (count_submitted q)) (said_at first choices q r)

  further : (after q : List Entry) (e : Entry) → full ≡ after ++ e ∷ q → full ≡ (after ++ e ∷ []) ++ q
  further after q e is = is ∙ sym (append_assoc after (e ∷ []) q)

  ran_all : (s : Setting) (after q : List Entry) → first.grants ≡ 0 → first.tree.handles ≡ [] → full ≡ after ++ q
      → IsJournal s q → AllAgree
      → (machine_at first choices q).grants < MAX_HANDLES → Ran (requests_of q) (machine_at first choices q)
      (choices_at first choices q)
  ran_all s after [] none closed is j all few =
      record {
        serves = refl;
        spent = refl;
        new = λ k le lt. ap (λ (w : List (List ℕ × Opened)). value_at_key bytes_eq w (numbered_handle k)) closed;
        config = refl;
      }
  ran_all s after (entry.Event (Submit by id r) ∷ q) none closed is j all few =
      let old_few : (machine_at first choices q).grants < MAX_HANDLES = let k = (kept q r).grants in
      omega (arith, k, few) in
      by_case by (asks_next s q by id r j).1
      (ran_all s (after ++ entry.Event (Submit by id r) ∷ []) q none closed
      (further after q (entry.Event (Submit by id r)) is) j.1 all old_few)
      (all q after by id r is) old_few
    where
      at : MachineState
      at = machine_at first choices q

      left : List Choice
      left = choices_at first choices q

      by_case : (by : Owner) → Asks by r → Ran (requests_of q) (machine_at first choices q) (choices_at first choices q)
          → IsReply (answer full (count_submitted q)) (said_at first choices q r)
          → (machine_at first choices q).grants < MAX_HANDLES
          → Ran (requests_of (entry.Event (Submit by id r) ∷ q)) (answer_of (machine_at first choices q) r
          (choice_for r (choices_at first choices q))).1
          (choices_after r (choices_at first choices q))
      by_case owner.Setup query ran by small =
          let m : MachineState = machine_at first choices q in
          let c : List Choice = choices_at first choices q in
          let same : (answer_of m r (choice_for r c)).1 ≡ m =
          ap (λ (w : Request). (answer_of m w (choice_for w c)).1) query
          ∙ ap (λ (p : Reply × MachineState). p.1) (answers_query m c) in
          let still : choices_after r c ≡ c = ap (λ (w : Request). choices_after w c) query in
          subst (λ (w : List (ℕ × Request)). Ran w (answer_of m r (choice_for r c)).1 (choices_after r c))
          (sym (append-nil (requests_of q)))
          (subst (λ (w : MachineState). Ran (requests_of q) w (choices_after r c)) (sym same)
          (subst (λ (w : List Choice). Ran (requests_of q) m w) (sym still) ran))
      by_case owner.Close plain ran by small =
          ran_more (requests_of q) (machine_at first choices q) (choices_at first choices q) (count_submitted q) r ran
          plain small by
      by_case (owner.Call lane call) plain ran by small =
          ran_more (requests_of q) (machine_at first choices q) (choices_at first choices q) (count_submitted q) r ran
          plain small by
  ran_all s after (entry.Event Send ∷ q) none closed is j all few =
      ran_all s (after ++ entry.Event Send ∷ []) q none closed (further after q (entry.Event Send) is) j.1 all few
  ran_all s after (entry.Event (Take i x) ∷ q) none closed is j all few =
      ran_all s (after ++ entry.Event (Take i x) ∷ []) q none closed (further after q (entry.Event (Take i x)) is) j.1
      all few
  ran_all s after (entry.Event (Cancel lane) ∷ q) none closed is j all few =
      ran_all s (after ++ entry.Event (Cancel lane) ∷ []) q none closed (further after q (entry.Event (Cancel lane)) is)
      j.1 all few
  ran_all s after (entry.Event (End lane call o) ∷ q) none closed is j all few =
      ran_all s (after ++ entry.Event (End lane call o) ∷ []) q none closed
      (further after q (entry.Event (End lane call o)) is) j.1 all few
  ran_all s after (entry.Added lane c ∷ q) none closed is j all few =
      ran_all s (after ++ entry.Added lane c ∷ []) q none closed (further after q (entry.Added lane c) is) j.1 all few
  ran_all s after (entry.LetGo lane ∷ q) none closed is j all few =
      ran_all s (after ++ entry.LetGo lane ∷ []) q none closed (further after q (entry.LetGo lane) is) j.1 all few
  ran_all s after (entry.Kept fault ∷ q) none closed is j all few =
      ran_all s (after ++ entry.Kept fault ∷ []) q none closed (further after q (entry.Kept fault) is) j.1 all few

  offers_at : (q : List Entry) → (machine_at first choices q).config ≡ first.config
  offers_at [] = refl
  offers_at (entry.Event (Submit by id r) ∷ q) = (kept q r).config ∙ offers_at q
  offers_at (entry.Event Send ∷ q) = offers_at q
  offers_at (_ ∷ q) = offers_at q

  setup_asks : (by : Owner) (r : Request) → by ≡ owner.Setup → Asks by r → r ≡ request.LimitsQuery
  setup_asks owner.Setup r e a = a
  setup_asks owner.Close r e a = absurd cc
  setup_asks (owner.Call lane call) r e a = absurd cc

  -- the query for limits is first, and returned those of the machine
  query_told : (s : Setting) (after q : List Entry) (a : AskedRequest) → full ≡ after ++ q → IsJournal s q → AllAgree
      → asked_at q 0 ≡ Some a
      → a.by ≡ owner.Setup → IsReply (answer full 0) (limits_reply first.config.limits)
  query_told s after [] a is j all e setup = absurd cc
  query_told s after (entry.Event (Submit by id r) ∷ q) a is j all e setup =
      elim (eqb_tells 0 (count_submitted q)) [
        | inl t ↦
            let there : Some (record { by = by; id = id; request = r }) ≡ Some a = rw t.0 at e in
            let same : (let w : AskedRequest = record { by = by; id = id; request = r } in w) ≡ a = cc there in
            let query = setup_asks by r (ap (λ (w : AskedRequest). w.by) same ∙ setup) (asks_next s q by id r j).1 in
            let m : MachineState = machine_at first choices q in
            let told : said_at first choices q r ≡ limits_reply first.config.limits =
            ap (λ (w : Request). (answer_of m w (choice_for w (choices_at first choices q))).0) query
            ∙ (ap (λ (p : Reply × MachineState). p.0) (answers_query m (choices_at first choices q))
            ∙ ap (λ (w : ServerConfig). limits_reply w.limits) (offers_at q)) in
            subst (λ (k : ℕ). IsReply (answer full k) (limits_reply first.config.limits)) (sym t.1)
            (subst (IsReply (answer full (count_submitted q))) told (all q after by id r is))
        | inr t ↦ query_told s (after ++ entry.Event (Submit by id r) ∷ []) q a
            (further after q (entry.Event (Submit by id r)) is) j.1 all
            (rw t.0 at e) setup
      ]
  query_told s after (entry.Event Send ∷ q) a is j all e setup =
      query_told s (after ++ entry.Event Send ∷ []) q a (further after q (entry.Event Send) is) j.1 all e setup
  query_told s after (entry.Event (Take i x) ∷ q) a is j all e setup =
      query_told s (after ++ entry.Event (Take i x) ∷ []) q a (further after q (entry.Event (Take i x)) is) j.1 all e
      setup
  query_told s after (entry.Event (Cancel lane) ∷ q) a is j all e setup =
      query_told s (after ++ entry.Event (Cancel lane) ∷ []) q a (further after q (entry.Event (Cancel lane)) is) j.1
      all e setup
  query_told s after (entry.Event (End lane call o) ∷ q) a is j all e setup =
      query_told s (after ++ entry.Event (End lane call o) ∷ []) q a
      (further after q (entry.Event (End lane call o)) is) j.1 all e setup
  query_told s after (entry.Added lane c ∷ q) a is j all e setup =
      query_told s (after ++ entry.Added lane c ∷ []) q a (further after q (entry.Added lane c) is) j.1 all e setup
  query_told s after (entry.LetGo lane ∷ q) a is j all e setup =
      query_told s (after ++ entry.LetGo lane ∷ []) q a (further after q (entry.LetGo lane) is) j.1 all e setup
  query_told s after (entry.Kept fault ∷ q) a is j all e setup =
      query_told s (after ++ entry.Kept fault ∷ []) q a (further after q (entry.Kept fault) is) j.1 all e setup

  tells_by : (s : Setting) (o : Option AskedRequest) → asked_at full 0 ≡ o → IsJournal s full → AllAgree
      → IsReply (reply_to_query o (answer full 0)) (limits_reply first.config.limits)
  tells_by s None e j all = tt
  tells_by s (Some a) e j all = by_case a.by refl
    where
      by_case : (o : Owner) → a.by ≡ o → IsReply (where_by_setup o (answer full 0)) (limits_reply first.config.limits)
      by_case owner.Setup is = query_told s [] full a refl j all e is
      by_case owner.Close is = tt
      by_case (owner.Call lane call) is = tt

-- ---- requests that were sent

-- a request that was not sent is unanswered
none_beyond : (s : Setting) (past : List Entry) (p : ℕ) → IsJournal s past → count_sent past ≤ p → answer past p ≡ None
none_beyond s [] p j le = refl
none_beyond s (entry.Event Send ∷ past) p j le = answer_beyond past p le
none_beyond s (entry.Event (Take id r) ∷ past) p j le =
    let may = (next_take s past id r j.0).0 in
    let below = may.1.0.1 in
    answer_other past id may.0 p r may.1.0.0 (λ e. absurd (omega (arith, e, below, le))) ∙ none_beyond s past p j.1 le
none_beyond s (_ ∷ past) p j le = none_beyond s past p j.1 le

all_sent : (past : List Entry) → count_submitted past ≤ count_sent past → requests_sent past ≡ requests_of past
all_sent [] le = refl
all_sent (entry.Event (Submit by id r) ∷ past) le = let most = sent_asked past in absurd (omega (arith, le, most))
all_sent (entry.Event Send ∷ past) le = refl
all_sent (entry.Event (Take id r) ∷ past) le = all_sent past le
all_sent (_ ∷ past) le = all_sent past le

-- if nothing is unanswered, all was sent
sent_where_answered : (s : Setting) (past : List Entry) → IsJournal s past → count_unanswered past ≡ 0
    → requests_sent past ≡ requests_of past
sent_where_answered s past j none = elim (cases_lt (count_sent past) (count_submitted past)) [
  | inl lt ↦ (let some = some_unanswered past (count_sent past) lt
      (none_beyond s past (count_sent past) j (omega arith)) in absurd (omega (arith, some, none)))
  | inr le ↦ all_sent past le
]

-- ---- all together

-- One run of the machine answered all that a session asked, and leaves it so; it answered the query for limits with
-- its own.
pub serves_asked : (first : MachineState) (choices : List Choice) (s : Setting) (past : List Entry) (m : MachineState)
    → first.grants ≡ 0 → first.tree.handles ≡ [] → IsJournal s past → replay_from first choices 0 (trace_of past)
    ≡ replay.Serves m
    → m.grants < MAX_HANDLES
    → ServesAll first.config past first.tree choices (requests_of past) m.tree × TellsLimits first.config past
serves_asked first choices s past m none closed j e few =
    let left = left_at first choices past m e in
    let all : AllAgree first choices past = λ q after by id r is.
    subst (λ (w : List Entry). IsReply (answer w (count_submitted q)) (said_at first choices q r)) (sym is)
    (agrees first choices s q after by id r m (subst (IsJournal s) is j)
    (ap (λ (w : List Entry). replay_from first choices 0 (trace_of w)) (sym is) ∙ e)) in
    let ran = ran_all first choices past s [] past none closed refl j all
    (subst (λ (w : MachineState). w.grants < MAX_HANDLES) (sym left) few) in (
      subst (λ (w : MachineState). ServesAll first.config past first.tree choices (requests_of past) w.tree) left
          ran.serves,
      tells_by first choices past s (asked_at past 0) refl j all,
    )

-- and all that it sent, if nothing is unanswered
pub serves_sent : (first : MachineState) (choices : List Choice) (s : Setting) (past : List Entry) (m : MachineState)
    → first.grants ≡ 0 → first.tree.handles ≡ [] → IsJournal s past → replay_from first choices 0 (trace_of past)
    ≡ replay.Serves m
    → m.grants < MAX_HANDLES → count_unanswered past ≡ 0 → ServesJournal first.config choices first.tree past m.tree
serves_sent first choices s past m none closed j e few over =
    let a = serves_asked first choices s past m none closed j e few in (
      subst (λ (w : List (ℕ × Request)). ServesAll first.config past first.tree choices w m.tree)
          (sym (sent_where_answered s past j over)) a.0,
      a.1,
    )
