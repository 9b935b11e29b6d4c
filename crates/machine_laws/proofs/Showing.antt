-- A log that shows a journal, and is that of a server: what the server owes then.
use Rattle.std.proofs.Common.{
  ◌≡◌,
  ◌<◌,
  ◌≤◌,
  ℕ,
  Bool,
  true,
  false,
  not,
  List,
  [],
  ◌∷◌,
  ◌++◌,
  length,
  Option,
  Some,
  None,
  Ok,
  is_none,
  refl,
  ap,
  sym,
  ◌∙◌,
  subst,
  arith,
  if◌then◌else◌,
  inl,
  inr,
}
use Rattle.std.specs.Prelude.{◌&&◌}
use Rattle.std.proofs.lemmas.Bool.Decides.{eqb_tells}
use Rattle.std.proofs.lemmas.List.{append-nil}
use Rattle.ssh_encoding.specs.Writing.{string}
use Rattle.sftp_model.specs.declared.reply.Reply.{Reply}
use Rattle.sftp_model.specs.declared.request.Request.{Request}
use Rattle.sftp_model.specs.declared.request.Request.TheVariants as request
use Rattle.sftp_model.specs.Numbers.{MAX_BODY_LEN}
use Rattle.sftp_model.specs.Frames.{reply_body, reply_frame, request_body}
use Rattle.sftp_model.specs.ReplyReadings.{reply_at}
use Rattle.sftp_link.specs.declared.piece.Piece.{Piece}
use Rattle.sftp_link.specs.declared.piece.Piece.TheVariants.{Sent, Got}
use Rattle.sftp_link.specs.Log.{AllGot, SentOn}
use Rattle.sftp_wire.proofs.Lengths.{length-string}
use Rattle.machine_answers.specs.WaitingFrames.{WaitingFrames, with_next_picked}
use Rattle.session_model.specs.declared.event.Owner.{Owner}
use Rattle.session_model.specs.declared.event.Event.TheVariants.{Submit, Send, Take}
use Rattle.session_model.specs.declared.entry.Entry.{Entry}
use Rattle.session_model.specs.declared.entry.Entry.TheVariants as entry
use Rattle.session_model.specs.Calls.{Setting}
use Rattle.session_model.specs.Journals.{IsJournal, IsNext}
use Rattle.session_model.specs.Readings.{AskedRequest, answer, count_submitted, count_awaited, bearer, is_at, count_sent, unsent_bytes}
use Rattle.session_model.specs.Served.{IsPicked, is_query}
use Rattle.session_model.specs.Shown.{IsFrameOf, ShowsExchange, hello_frame}
use Rattle.session_model.proofs.CallLaws.{next_take}
use Rattle.session_model.proofs.CountLaws.{count_pos}
use Rattle.session_model.proofs.RequestLaws.{answer_beyond, asked_other, sent_asked}
use Rattle.sftp_map_server.specs.Serving.{AllShort, ServerState, GivesSome, IsServed, Replies, Server, both, nothing, fresh_server, step, told_bits, version_reply, with_said}
use Rattle.sftp_map_server.proofs.Bounds.{version_within}
use Rattle.session_driver.specs.ServingLinks.{IsAllowed, IsVersion}
use Rattle.sftp_map_server.proofs.Strings.{one_string}
use Rattle.machine_laws.proofs.Places.{mapped_same}
use Rattle.machine_laws.proofs.Feeding.{BeginsWhole, FedAll, StaysOpen, got_frame, got_front, sent_all, still_turned}
use Rattle.session_driver.proofs.ServingLaws.{one_frame}
use Rattle.machine_laws.proofs.Sound.{IsSound}
use Rattle.machine_laws.proofs.Replying.{IsGood, Says, body_some, greeted_at, hello_short, step_hello, version_back}
use Rattle.machine_laws.proofs.Owing.{
  Owes,
  both_nothing,
  due,
  due_old,
  due_says,
  frame_due,
  framed,
  frames_owed,
  itself,
  joined,
  one_reply,
  send_owes,
  stands,
  tells_of,
  unsent_bodies,
  unsent_is,
}
use Rattle.machine_laws.proofs.Picking.{Next, Ready, next_frame, next_ready}

-- ---- the hello

-- the first state of a server whose choices, limits and extensions fit, and whose tree is within its bounds
pub record IsFirst (f : ServerState) : Type 0 where
  pub fresh : f.greeted ≡ false
  pub good : IsGood (greeted_at f)
  pub known : f.machine.config.extensions.0 < 64

-- behind the hello VERSION is to be given
pub record Greeted (f : ServerState) (picks : List ℕ) (now : Server) : Type 0 where
  pub input : now.input ≡ []
  pub state : now.state ≡ greeted_at f
  pub output : now.output ≡ record {
    ready = reply_frame (version_reply f.machine.config) 0;
    waiting = [];
    picks =
        picks;
  }

abbrev nothing_waits : List ℕ → WaitingFrames
nothing_waits picks = record { ready = []; waiting = []; picks = picks }

hello_fed : (f : ServerState) (picks : List ℕ) (before now : Server) → IsFirst f → before ≡ fresh_server f picks
    → (before.input ≡ [] → (let b : List (List ℕ) = request_body (request.Init 3) 0 ∷ [] in AllShort b
    → StaysOpen before.state b → FedAll before b now)) → Greeted f picks now
hello_fed f picks before now first is feeds =
    let said = step_hello f first.fresh first.good.still in
    let here : before.state ≡ f = ap (λ (w : Server). w.state) is in
    let over : (step f (request_body (request.Init 3) 0)).1.over ≡ false =
    ap (λ (x : Replies × ServerState). x.1.over) said ∙ first.good.still in
    let fed = feeds (ap (λ (w : Server). w.input) is) (hello_short.0, hello_short.1, tt)
    (subst (λ (w : ServerState). StaysOpen w (request_body (request.Init 3) 0 ∷ [])) (sym here)
    (first.good.still, over))
    in
    record {
      input = fed.input;
      state = fed.state ∙ (ap (λ (w : ServerState). (step w (request_body (request.Init 3) 0)).1) here
          ∙ ap (λ (x : Replies × ServerState). x.1) said);
      output = fed.output ∙ (ap (λ (w : Server). with_said w.output
          (both (step w.state (request_body (request.Init 3) 0)).0 nothing)) is
          ∙ (ap (λ (x : Replies). with_said (nothing_waits picks) x)
          (both_nothing (step f (request_body (request.Init 3) 0)).0)
          ∙ ap (λ (x : Replies × ServerState). with_said (nothing_waits picks) x.0) said));
    }

-- the hello was sent
pub hello_sent : (f : ServerState) (picks : List ℕ) (log : List Piece) (now : Server) → IsFirst f
    → SentOn [] log hello_frame
    → IsServed (fresh_server f picks) log now → Greeted f picks now
hello_sent f picks log now first sent served =
    let h = sent_all (fresh_server f picks) now [] sent.0 hello_frame (request_body (request.Init 3) 0 ∷ []) sent.2
    (sym (append-nil (string (request_body (request.Init 3) 0))))
    (subst (λ (w : List Piece). IsServed (fresh_server f picks) w now) sent.1 served) in
    hello_fed f picks h.0 now first h.1.0 h.1.1

-- what is given then is VERSION
greeted_turned : (f : ServerState) (picks : List ℕ) (now : Server) → Greeted f picks now → with_next_picked now.output
    ≡ now.output
greeted_turned f picks now g =
    let some : 0 < length (reply_frame (version_reply f.machine.config) 0) = let l =
    length-string (reply_body (version_reply f.machine.config) 0) in omega (arith, l) in
    still_turned now.output (subst (λ (o : WaitingFrames). 0 < length o.ready) (sym g.output) some)

abbrev hello_whole : (f : ServerState) (picks : List ℕ) (now : Server) → Greeted f picks now → BeginsWhole now.output
hello_whole f picks now g = record {
  body = reply_body (version_reply f.machine.config) 0;
  rest = [];
  framed = ap (λ (o : WaitingFrames). o.ready) (greeted_turned f picks now g ∙ g.output)
      ∙ sym (append-nil (reply_frame (version_reply f.machine.config) 0));
  some = body_some (version_reply f.machine.config) 0;
  short = version_within f.machine.config 0;
}

pub hello_ready : (f : ServerState) (picks : List ℕ) (log : List Piece) (now : Server) → IsFirst f
    → SentOn [] log hello_frame
    → IsServed (fresh_server f picks) log now → Ready IsVersion now.output
hello_ready f picks log now first was_sent v =
    record {
      whole = hello_whole f picks now (hello_sent f picks log now first was_sent v);
      read = (None, version_reply f.machine.config);
      reads = version_back f.machine.config first.known;
      is_good = (record { 0 = told_bits f.machine.config.extensions.0 f.machine.config.limits }, refl);
    }

-- and VERSION was got
record Met (f : ServerState) (picks : List ℕ) (hello : Reply) (now : Server) : Type 0 where
  owes : Owes (greeted_at f) picks [] now
  version : hello ≡ version_reply f.machine.config

hello_got : (f : ServerState) (picks : List ℕ) (mid now : Server) (hello : Reply) (body : List ℕ) → IsFirst f
    → Greeted f picks mid → GivesSome mid (string body) now → length body ≤ MAX_BODY_LEN → reply_at body
    ≡ Ok (None, hello) → Met f picks hello now
hello_got f picks mid now hello body first greeted gives short reads =
    let v : List ℕ = reply_body (version_reply f.machine.config) 0 in
    let is : with_next_picked mid.output ≡ record {
      ready = reply_frame (version_reply f.machine.config) 0;
      waiting = [];
      picks =
          picks;
    } = greeted_turned f picks mid greeted ∙ greeted.output in
    let rows : string v ++ [] ≡ string body ++ now.output.ready = append-nil (string v)
    ∙ (sym (ap (λ (o : WaitingFrames). o.ready) is) ∙ gives.ready) in
    let parts = one_string v body [] now.output.ready (version_within f.machine.config 0) short rows in
    record {
      owes = record {
        ready = sym parts.1;
        waiting = gives.waiting ∙ ap (λ (o : WaitingFrames). o.waiting) is;
        picks_left = gives.picks ∙ ap (λ (o : WaitingFrames). o.picks) is;
        input = gives.input ∙ greeted.input;
        state = gives.state ∙ greeted.state;
      };
      version = (one_reply None None hello (version_reply f.machine.config)
          (sym reads ∙ (ap reply_at (sym parts.0) ∙ version_back f.machine.config first.known))).1;
    }

hello_met : (f : ServerState) (picks : List ℕ) (hello : Reply) (log : List Piece) (now : Server) → IsFirst f
    → ShowsExchange hello [] [] log → IsServed (fresh_server f picks) log now → Met f picks hello now
hello_met f picks hello log now first sh served =
    let got = sh.1.1.1.1 in
    let frame : IsFrameOf None hello sh.1.1.0 = sh.1.1.1.0 in
    let bytes : AllGot got.0 (string frame.body) = subst (AllGot got.0) frame.framed got.2 in
    let g = got_front (fresh_server f picks) now sh.0 got.0 (string frame.body) bytes (one_frame frame.body frame.short)
    (subst (λ (w : List Piece). IsServed (fresh_server f picks) w now) got.1 served) in
    let greeted = hello_sent f picks sh.0 g.0 first sh.1.0 g.1.0 in
    hello_got f picks g.0 now hello frame.body first greeted (got_frame g.0 now frame.body
    (g.1.1 (hello_whole f picks g.0 greeted))) frame.short frame.reads

-- ---- the journal

-- each reply that was taken is the one due to the request that bears its id
abbrev pub AreDue : ServerState → List Entry → Type 0
AreDue d [] = Unit {0}
AreDue d (entry.Event (Take id r) ∷ past) = ((p : ℕ) × ((bearer past id ≡ Some p)
    × ((a : AskedRequest) × (due d past p ≡ Some (a, r))))) × AreDue d past
AreDue d (_ ∷ past) = AreDue d past

-- what a log shows and a server served: what it owes, and the replies that were taken were the ones due, as they were
-- picked
pub record Served (d : ServerState) (picks : List ℕ) (past : List Entry) (now : Server) : Type 0 where
  pub owes : Owes d picks past now
  pub due : AreDue d past
  pub by_picks : IsPicked picks past

-- a request more leaves what is owed
submit_owes : (d : ServerState) (picks : List ℕ) (past : List Entry) (by : Owner) (id : ℕ) (r : Request) (now : Server)
    → Owes d picks past now → Owes d picks (entry.Event (Submit by id r) ∷ past) now
submit_owes d picks past by id r now o = record {
  ready = o.ready ∙ ap joined (sym (frames_stay itself));
  waiting = o.waiting ∙ sym (frames_stay not);
  picks_left = o.picks_left;
  input = o.input;
  state = o.state;
}
  where
    frames_stay : (test : Bool → Bool) → frames_owed test d (entry.Event (Submit by id r) ∷ past)
        ≡ frames_owed test d past
    frames_stay test =
        mapped_same (stands test (entry.Event (Submit by id r) ∷ past)) (stands test past)
        (frame_due d (entry.Event (Submit by id r) ∷ past)) (frame_due d past) (count_sent past)
        (λ p lt. let few = sent_asked past in let below : p < count_submitted past = omega (arith, lt, few) in (
          ap (λ (o : Option AskedRequest). is_none (answer past p) && test (is_query o))
              (asked_other past by id p r below),
          ap framed (due_old d past by id p r below),
        ))

-- the frame that was got is the one that was given next
take_served : (s : Setting) (d : ServerState) (picks : List ℕ) (past : List Entry) (mid now : Server) (body : List ℕ)
    (id : ℕ)
    (r : Reply) → IsGood d → IsSound (tells_of d) past → Served d picks past mid → Next d picks past mid.output
    → GivesSome mid (string body) now → length body ≤ MAX_BODY_LEN → reply_at body ≡ Ok (Some id, r)
    → Served d picks (entry.Event (Take id r) ∷ past) now
take_served s d picks past mid now body id r g sound v n gives short reads =
    let says : Says n.asked n.reply = due_says d past n.place (n.asked, n.reply) g sound n.due in
    let parts = one_string (reply_body n.reply n.asked.id) body n.rest now.output.ready says.short short
    (sym n.front ∙ gives.ready) in
    let both = one_reply (Some n.asked.id) (Some id) n.reply r (sym says.reads ∙ (ap reply_at parts.0 ∙ reads)) in
    let same : n.asked.id ≡ id = cc (both.0) in
    let taken_is : entry.Event (Take n.asked.id n.reply) ∷ past ≡ entry.Event (Take id r) ∷ past =
    (λ i. entry.Event (Take (same i) (both.1 i)) ∷ past) in
    subst (λ (w : List Entry). Served d picks w now) taken_is
    (record {
      owes = record {
        ready = sym parts.1 ∙ n.ready;
        waiting = gives.waiting ∙ n.waiting;
        picks_left = gives.picks ∙ n.picks_left;
        input = gives.input ∙ v.owes.input;
        state = gives.state ∙ v.owes.state;
      };
      due = ((n.place, (n.bears, (n.asked, n.due))), v.due);
      by_picks = (n.by_pick, v.by_picks);
    })

-- a reply is taken while a request that was sent is unanswered
awaited_some : (s : Setting) (past : List Entry) (id : ℕ) (r : Reply) → IsNext s past (entry.Event (Take id r))
    → 0 < count_awaited past
awaited_some s past id r next =
    let may = (next_take s past id r next).0 in
    count_pos (λ place. is_none (answer past place)) (count_sent past) may.0 may.1.0.1
    (ap (λ (o : Option Reply). is_none o) may.1.0.2)

pub shows_served : (s : Setting) (f : ServerState) (picks : List ℕ) (hello : Reply) (past : List Entry)
    (log : List Piece)
    (now : Server) → IsFirst f → IsJournal s past → IsSound (tells_of f) past → ShowsExchange hello past [] log
    → IsServed (fresh_server f picks) log now → Served (greeted_at f) picks past now
shows_served s f picks hello [] log now first j sound sh v =
    record { owes = (hello_met f picks hello log now first sh v).owes; due = tt; by_picks = tt }
shows_served s f picks hello (entry.Event Send ∷ past) log now first j sound sh v =
    let sends = sh.1.1 in
    let a = sent_all (fresh_server f picks) now sh.0 sends.0 (unsent_bytes past) (unsent_bodies past) sends.2
    (unsent_is past)
    (subst (λ (w : List Piece). IsServed (fresh_server f picks) w now) sends.1 v) in
    let o = shows_served s f picks hello past sh.0 a.0 first j.1 sound sh.1.0 a.1.0 in
    record {
      owes = send_owes s (greeted_at f) picks past a.0 now j.1 first.good sound o.owes a.1.1;
      due = o.due;
      by_picks = o.by_picks;
    }
shows_served s f picks hello (entry.Event (Take id r) ∷ past) log now first j sound sh v =
    let d : ServerState = greeted_at f in
    let frame : IsFrameOf (Some id) r sh.1.1.0 = sh.1.1.1.0 in
    let got = sh.1.1.1.1 in
    let bytes : AllGot got.0 (string frame.body) = subst (AllGot got.0) frame.framed got.2 in
    let g = got_front (fresh_server f picks) now sh.0 got.0 (string frame.body) bytes (one_frame frame.body frame.short)
    (subst (λ (w : List Piece). IsServed (fresh_server f picks) w now) got.1 v) in
    let o = shows_served s f picks hello past sh.0 g.0 first j.1 sound sh.1.0 g.1.0 in
    let n = next_frame s d picks past g.0 j.1 o.owes (awaited_some s past id r j.0) in
    take_served s d picks past g.0 now frame.body id r first.good sound o n
    (got_frame g.0 now frame.body (g.1.1 (next_ready s d picks past g.0.output j.1 first.good sound n).whole))
    frame.short frame.reads
shows_served s f picks hello (entry.Event (Submit by id r) ∷ past) log now first j sound sh v =
    let o = shows_served s f picks hello past log now first j.1 sound.2 sh v in
    record { owes = submit_owes (greeted_at f) picks past by id r now o.owes; due = o.due; by_picks = o.by_picks }
shows_served s f picks hello (_ ∷ past) log now first j sound sh v =
    let o = shows_served s f picks hello past log now first j.1 sound sh v in
    record {
      owes = record {
        ready = o.owes.ready;
        waiting = o.owes.waiting;
        picks_left = o.owes.picks_left;
        input =
            o.owes.input;
        state = o.owes.state;
      };
      due = o.due;
      by_picks = o.by_picks;
    }

served_behind : (first now : Server) (group log : List Piece) → IsServed first (group ++ log) now → (mid : Server)
    × IsServed first log mid
served_behind first now [] log s = (now, s)
served_behind first now (Sent bytes ∷ group) log s = served_behind first s.0 group log s.1
served_behind first now (Got bytes ∷ group) log s = served_behind first s.0 group log s.1

-- VERSION tells what the server offers
pub shows_version : (f : ServerState) (picks : List ℕ) (hello : Reply) (past : List Entry) (log : List Piece)
    (now : Server)
    → IsFirst f → ShowsExchange hello past [] log → IsServed (fresh_server f picks) log now → hello
    ≡ version_reply f.machine.config
shows_version f picks hello [] log now first sh v = (hello_met f picks hello log now first sh v).version
shows_version f picks hello (entry.Event Send ∷ past) log now first sh v =
    let sends = sh.1.1 in
    let m = served_behind (fresh_server f picks) now sends.0 sh.0
    (subst (λ (w : List Piece). IsServed (fresh_server f picks) w now)
    sends.1 v) in shows_version f picks hello past sh.0 m.0 first sh.1.0 m.1
shows_version f picks hello (entry.Event (Take id r) ∷ past) log now first sh v =
    let got = sh.1.1.1.1 in
    let m = served_behind (fresh_server f picks) now got.0 sh.0
    (subst (λ (w : List Piece). IsServed (fresh_server f picks) w now)
    got.1 v) in shows_version f picks hello past sh.0 m.0 first sh.1.0 m.1
shows_version f picks hello (_ ∷ past) log now first sh v = shows_version f picks hello past log now first sh v

-- ---- replies by places

-- the reply that was taken is the one that is due
abbrev pub AnswersBy : Option Reply → Option (AskedRequest × Reply) → Type 0
AnswersBy None w = Unit {0}
AnswersBy (Some r) None = ⊥
AnswersBy (Some r) (Some w) = r ≡ w.1

by_take : (b : Bool) (p q : ℕ) (a : AskedRequest) (r : Reply) (o : Option Reply) (f : ℕ → Option (AskedRequest × Reply))
    → (b ≡ true → p ≡ q) → f p ≡ Some (a, r) → AnswersBy o (f q) → AnswersBy (if b then Some r else o) (f q)
by_take true p q a r o f same e by = let is : f q ≡ Some (a, r) = ap f (sym (same refl)) ∙ e in
    subst (AnswersBy (Some r)) (sym is) refl
by_take false p q a r o f same e by = by

none_by : (w : Option (AskedRequest × Reply)) (o : Option Reply) → o ≡ None → AnswersBy o w
none_by w None e = tt
none_by w (Some r) e = absurd cc

at_is : (n p : ℕ) → is_at (Some n) p ≡ true → n ≡ p
at_is n p e = elim (eqb_tells n p) [ inl t ↦ t.1 | inr t ↦ absurd (let x : false ≡ true = sym t.0 ∙ e in cc) ]

-- each reply that was taken is the one that the machine's run gives to the request at its place
pub answers_by : (d : ServerState) (past : List Entry) (p : ℕ) → AreDue d past
    → AnswersBy (answer past p) (due d past p)
answers_by d [] p n = tt
answers_by d (entry.Event (Submit by id r) ∷ past) p n =
    elim (eqb_tells p (count_submitted past)) [
      | inl t ↦ none_by (due d (entry.Event (Submit by id r) ∷ past) p) (answer past p)
          (ap (answer past) t.1 ∙ answer_beyond past (count_submitted past) (omega arith))
      | inr t ↦ rw t.0 (answers_by d past p n)
    ]
answers_by d (entry.Event (Take id r) ∷ past) p n =
    let t = n.0 in
    by_take (is_at (bearer past id) p) t.0 p t.1.1.0 r (answer past p) (due d past)
    (λ e. at_is t.0 p (ap (λ (w : Option ℕ). is_at w p) (sym t.1.0) ∙ e)) t.1.1.1 (answers_by d past p n.1)
answers_by d (_ ∷ past) p n = answers_by d past p n

-- ---- what is given next

pub ready : (s : Setting) (f : ServerState) (picks : List ℕ) (hello : Reply) (past : List Entry) (log : List Piece)
    (now : Server) → IsFirst f → IsJournal s past → IsSound (tells_of f) past → ShowsExchange hello past [] log
    → IsServed (fresh_server f picks) log now → 0 < count_awaited past → Ready (IsAllowed past) now.output
ready s f picks hello past log now first j sound sh v some =
    let o = shows_served s f picks hello past log now first j sound sh v in
    next_ready s (greeted_at f) picks past now.output j first.good sound
    (next_frame s (greeted_at f) picks past now j o.owes some)
