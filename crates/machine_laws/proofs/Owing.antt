-- What a server owes, by the journal that its log shows.
use Rattle.std.proofs.Common.{
  ◌≡◌,
  ◌≢◌,
  ◌<◌,
  ◌≤◌,
  ◌==◌,
  ℕ,
  suc,
  ◌+◌,
  Bool,
  true,
  false,
  not,
  List,
  [],
  ◌∷◌,
  ◌++◌,
  length,
  drop,
  map,
  Option,
  Some,
  None,
  Result,
  Ok,
  is_some,
  is_none,
  refl,
  ap,
  sym,
  ◌∙◌,
  subst,
  arith,
  if◌then◌else◌,
  inl,
  inr,
}
use Rattle.std.specs.Prelude.{◌&&◌}
use Rattle.std.specs.List.{flat_map}
use Rattle.std.proofs.lemmas.Bool.Decides.{eqb_tells}
use Rattle.std.proofs.lemmas.Bool.{ne_eqb, eq-eqb}
use Rattle.std.proofs.lemmas.Grind.{flat_map-append}
use Rattle.std.proofs.lemmas.List.{append-nil, map-append}
use Rattle.ssh_encoding.specs.Writing.{string}
use Rattle.sftp_model.specs.declared.frame_error.FrameError.{FrameError}
use Rattle.sftp_model.specs.declared.reply.Reply.{Reply}
use Rattle.sftp_model.specs.declared.request.Request.{Request}
use Rattle.sftp_model.specs.declared.config.ServerConfig.{ServerConfig}
use Rattle.sftp_model.specs.Numbers.{MAX_BODY_LEN}
use Rattle.sftp_model.specs.Frames.{request_body, request_frame, reply_frame}
use Rattle.machine_answers.specs.WaitingFrames.{WaitingFrames}
use Rattle.session_model.specs.declared.event.Owner.{Owner}
use Rattle.session_model.specs.declared.event.Owner.TheVariants as owner
use Rattle.session_model.specs.declared.event.Event.TheVariants.{Submit, Send, Take}
use Rattle.session_model.specs.declared.entry.Entry.{Entry}
use Rattle.session_model.specs.declared.entry.Entry.TheVariants as entry
use Rattle.session_model.specs.Calls.{Setting}
use Rattle.session_model.specs.Journals.{IsJournal}
use Rattle.session_model.specs.Readings.{AskedRequest, answer, count_submitted, asked_at, count_sent, unsent_requests, unsent_bytes}
use Rattle.session_model.specs.Served.{is_query, is_setup, count_taken, those_below}
use Rattle.session_model.proofs.CallLaws.{next_take}
use Rattle.session_model.proofs.RequestLaws.{answer_beyond, answer_other, asked_new, asked_other, sent_asked}
use Rattle.sftp_map_server.specs.Serving.{
  AllShort,
  ServerState,
  Replies,
  Server,
  all_left,
  all_said,
  at_once,
  both,
  is_query as is_limits_query,
  later,
  nothing,
  step,
  with_said,
}
use Rattle.sftp_map_server.proofs.Strings.{pair_is}
use Rattle.machine_laws.proofs.Places.{below_split, between_more, between_none, between_same, those_between}
use Rattle.machine_laws.proofs.Feeding.{FedAll, StaysOpen, all_left-append, all_said-append, stays_more}
use Rattle.machine_laws.proofs.Sound.{FitsBy, IsSound}
use Rattle.machine_laws.proofs.Replying.{IsGood, Says, call_query, next_config, next_state, next_good, reply_to, request_short, said_to, says, step_fits}

-- ---- states

-- the state after all that was submitted
abbrev pub state_of : ServerState → List Entry → ServerState
state_of first [] = first
state_of first (entry.Event (Submit by id r) ∷ past) = next_state (state_of first past) r
state_of first (_ ∷ past) = state_of first past

-- and after all that was sent
abbrev pub state_sent : ServerState → List Entry → ServerState
state_sent first [] = first
state_sent first (entry.Event Send ∷ past) = state_of first past
state_sent first (_ ∷ past) = state_sent first past

abbrev pub tells_of : ServerState → Bool
tells_of d = is_some d.machine.config.limits

pub good_at : (d : ServerState) (past : List Entry) → IsGood d → IsGood (state_of d past)
good_at d [] g = g
good_at d (entry.Event (Submit by id r) ∷ past) g = next_good (state_of d past) r (good_at d past g)
good_at d (_ ∷ past) g = good_at d past g

pub config_at : (d : ServerState) (past : List Entry) → (state_of d past).machine.config ≡ d.machine.config
config_at d [] = refl
config_at d (entry.Event (Submit by id r) ∷ past) = next_config (state_of d past) r ∙ config_at d past
config_at d (_ ∷ past) = config_at d past

-- ---- replies by places

-- the request and the machine's reply, by the request's place
abbrev pub due : ServerState → List Entry → ℕ → Option (AskedRequest × Reply)
due first [] place = None
due first (entry.Event (Submit by id r) ∷ past) place = if place == count_submitted past then
    Some (record { by = by; id = id; request = r }, reply_to (state_of first past) r) else due first past place
due first (_ ∷ past) place = due first past place

pub due_asked : (d : ServerState) (past : List Entry) (p : ℕ) (w : AskedRequest × Reply) → due d past p ≡ Some w
    → asked_at past p ≡ Some w.0
due_asked d [] p w e = absurd cc
due_asked d (entry.Event (Submit by id r) ∷ past) p w e =
    elim (eqb_tells p (count_submitted past)) [
      | inl t ↦ (let is : Some (record { by = by; id = id; request = r }, reply_to (state_of d past) r) ≡ Some w =
          rw t.0 at e in
          let same : (record { by = by; id = id; request = r }, reply_to (state_of d past) r) ≡ w = cc is in
          rw t.0 (ap (λ (v : AskedRequest × Reply). Some v.0) same))
      | inr t ↦ rw t.0 (due_asked d past p w (rw t.0 at e))
    ]
due_asked d (_ ∷ past) p w e = due_asked d past p w e

pub due_says : (d : ServerState) (past : List Entry) (p : ℕ) (w : AskedRequest × Reply) → IsGood d
    → IsSound (tells_of d) past → due d past p ≡ Some w → Says w.0 w.1
due_says d [] p w g s e = absurd cc
due_says d (entry.Event (Submit by id r) ∷ past) p w g s e =
    elim (eqb_tells p (count_submitted past)) [
      | inl t ↦ (let is : Some (record { by = by; id = id; request = r }, reply_to (state_of d past) r) ≡ Some w =
          rw t.0 at e in
          let same : (record { by = by; id = id; request = r }, reply_to (state_of d past) r) ≡ w = cc is in
          subst (λ (v : AskedRequest × Reply). Says v.0 v.1) same
          (says (state_of d past) (tells_of d) by id r (good_at d past g)
          (ap (λ (c : ServerConfig). is_some c.limits) (config_at d past)) s.0 s.1))
      | inr t ↦ due_says d past p w g s.2 (rw t.0 at e)
    ]
due_says d (_ ∷ past) p w g s e = due_says d past p w g s e

pub due_old : (d : ServerState) (past : List Entry) (by : Owner) (id p : ℕ) (r : Request) → p < count_submitted past
    → due d (entry.Event (Submit by id r) ∷ past) p ≡ due d past p
due_old d past by id p r lt = rw (ne_eqb p (count_submitted past) (λ e. absurd (omega (arith, e, lt)))) refl

pub due_new : (d : ServerState) (past : List Entry) (by : Owner) (id : ℕ) (r : Request)
    → due d (entry.Event (Submit by id r) ∷ past) (count_submitted past)
    ≡ Some (record { by = by; id = id; request = r }, reply_to (state_of d past) r)
due_new d past by id r = rw (eq-eqb (count_submitted past) (count_submitted past) refl) refl

-- each request has a reply
pub due_there : (d : ServerState) (past : List Entry) (p : ℕ) → p < count_submitted past → (w : AskedRequest × Reply)
    × (due d past p ≡ Some w)
due_there d [] p lt = absurd (omega (arith, lt))
due_there d (entry.Event (Submit by id r) ∷ past) p lt =
    elim (eqb_tells p (count_submitted past)) [
      | inl t ↦ ((record { by = by; id = id; request = r }, reply_to (state_of d past) r), rw t.0 refl)
      | inr t ↦ (let small : p < count_submitted past + 1 = lt in let ne : p ≢ count_submitted past = t.1 in let h =
          due_there d past p (omega (arith, small, ne)) in (h.0, rw t.0 h.1))
    ]
due_there d (_ ∷ past) p lt = due_there d past p lt

-- ---- frames by places

-- the frame of the reply to the request at a place
abbrev pub framed : Option (AskedRequest × Reply) → List ℕ
framed None = []
framed (Some w) = reply_frame w.1 w.0.id

abbrev pub frame_due : ServerState → List Entry → ℕ → List ℕ
frame_due first past place = framed (due first past place)

-- the request at the place is unanswered, and that it is the query for limits passes a test
abbrev pub stands : (Bool → Bool) → List Entry → ℕ → Bool
stands test past place = is_none (answer past place) && test (is_query (asked_at past place))

-- it is the query
abbrev pub itself : Bool → Bool
itself b = b

-- the frames of the replies to those requests that were sent
abbrev pub frames_owed : (Bool → Bool) → ServerState → List Entry → List (List ℕ)
frames_owed test first past = map (frame_due first past) (those_below (stands test past) (count_sent past))

abbrev pub joined : List (List ℕ) → List ℕ
joined frames = flat_map (λ (frame : List ℕ). frame) frames

joined_more : (xs : List (List ℕ)) (x : List ℕ) → joined xs ++ x ≡ joined (xs ++ x ∷ [])
joined_more xs x = sym (flat_map-append (λ (frame : List ℕ). frame) xs (x ∷ [])
    ∙ ap (λ (w : List ℕ). joined xs ++ w) (append-nil x))

-- ---- what is unsent

-- the bodies of the requests behind the last Send
abbrev pub unsent_bodies : List Entry → List (List ℕ)
unsent_bodies [] = []
unsent_bodies (entry.Event Send ∷ past) = []
unsent_bodies (entry.Event (Submit by id r) ∷ past) = unsent_bodies past ++ request_body r id ∷ []
unsent_bodies (_ ∷ past) = unsent_bodies past

pub unsent_is : (past : List Entry) → unsent_bytes past ≡ flat_map string (unsent_bodies past)
unsent_is [] = refl
unsent_is (entry.Event Send ∷ past) = refl
unsent_is (entry.Event (Submit by id r) ∷ past) =
    flat_map-append (λ (p : ℕ × Request). request_frame p.1 p.0) (unsent_requests past) ((id, r) ∷ [])
    ∙ (ap (λ (w : List ℕ). w ++ (request_frame r id ++ [])) (unsent_is past)
    ∙ sym (flat_map-append string (unsent_bodies past) (request_body r id ∷ [])))
unsent_is (_ ∷ past) = unsent_is past

short_more : (bs : List (List ℕ)) (b : List ℕ) → AllShort bs → (0 < length b) × (length b ≤ MAX_BODY_LEN)
    → AllShort (bs ++ b ∷ [])
short_more [] b p q = (q.0, q.1, tt)
short_more (x ∷ bs) b p q = (p.0, p.1, short_more bs b p.2 q)

-- the frame, where it passes
abbrev frame_if : Bool → List ℕ → List (List ℕ)
frame_if b frame = if b then frame ∷ [] else []

-- the frames of the replies to the requests behind the last Send
abbrev unsent_frames : (Bool → Bool) → ServerState → List Entry → List (List ℕ)
unsent_frames test first [] = []
unsent_frames test first (entry.Event Send ∷ past) = []
unsent_frames test first (entry.Event (Submit by id r) ∷ past) = unsent_frames test first past
    ++ frame_if (test (is_setup by)) (reply_frame (reply_to (state_of first past) r) id)
unsent_frames test first (_ ∷ past) = unsent_frames test first past

-- the reply to the query is given at once, and the others wait
abbrev unsent_said : ServerState → List Entry → Replies
unsent_said first past = record {
  at_once = joined (unsent_frames itself first past);
  later =
      unsent_frames not first past;
}

-- the query is asked by the opening alone
pub query_by : (tells : Bool) (by : Owner) (r : Request) → FitsBy tells by r → is_limits_query r ≡ is_setup by
query_by tells owner.Setup r f = ap is_limits_query f.0
query_by tells owner.Close r f = ap is_limits_query f.1
query_by tells (owner.Call lane call) r f = call_query r f

said_more : (b : Bool) (frame : List ℕ) (x : List (List ℕ)) (y : List (List ℕ))
    → both (record { at_once = joined x; later = y }) (if b then at_once frame else later frame)
    ≡ record { at_once = joined (x ++ frame_if b frame); later = y ++ frame_if (not b) frame }
said_more true frame x y i = record { at_once = joined_more x frame i; later = y ++ [] }
said_more false frame x y i = record {
  at_once = (append-nil (joined x) ∙ ap joined (sym (append-nil x))) i;
  later = y
      ++ frame ∷ [];
}

said_next : (d : ServerState) (tells : Bool) (by : Owner) (id : ℕ) (r : Request) → FitsBy tells by r → said_to d r id
    ≡ (if is_setup by then at_once (reply_frame (reply_to d r) id) else later (reply_frame (reply_to d r) id))
unfolding said_to
said_next d tells by id r f = ap (λ (b : Bool). if b then at_once (reply_frame (reply_to d r) id) else
    later (reply_frame (reply_to d r) id)) (query_by tells by r f)

pub both_nothing : (a : Replies) → both a nothing ≡ a
both_nothing a i = record { at_once = append-nil a.at_once i; later = append-nil a.later i }

-- what is unsent would be answered so
record Unsent (d : ServerState) (past : List Entry) : Type 0 where
  said : all_said (state_sent d past) (unsent_bodies past) ≡ unsent_said d past
  left : all_left (state_sent d past) (unsent_bodies past) ≡ state_of d past
  stays : StaysOpen (state_sent d past) (unsent_bodies past)
  short : AllShort (unsent_bodies past)

unsent_owes : (d : ServerState) (past : List Entry) → IsGood d → IsSound (tells_of d) past → Unsent d past
unsent_owes d [] g s = record { said = refl; left = refl; stays = g.still; short = tt }
unsent_owes d (entry.Event Send ∷ past) g s = record {
  said = refl;
  left = refl;
  stays = (good_at d past g).still;
  short = tt;
}
unsent_owes d (entry.Event (Submit by id r) ∷ past) g s =
    let u : Unsent d past = unsent_owes d past g s.2 in
    let at : ServerState = state_of d past in
    let b : List ℕ = request_body r id in
    let is : step at b ≡ (said_to at r id, next_state at r) = step_fits at (tells_of d) by id r (good_at d past g) s.0
    s.1 in
    record {
      said = all_said-append (state_sent d past) (unsent_bodies past) (b ∷ [])
          ∙ (ap (λ (x : Replies). both x (all_said (all_left (state_sent d past) (unsent_bodies past)) (b ∷ []))) u.said
          ∙ (ap (λ (x : ServerState). both (unsent_said d past) (all_said x (b ∷ []))) u.left
          ∙ (ap (λ (x : Replies × ServerState). both (unsent_said d past) (both x.0 nothing)) is
          ∙ (ap (λ (x : Replies). both (unsent_said d past) x) (both_nothing (said_to at r id)
          ∙ said_next at (tells_of d) by id r s.1)
          ∙ said_more (is_setup by) (reply_frame (reply_to at r) id) (unsent_frames itself d past)
          (unsent_frames not d past)))));
      left = all_left-append (state_sent d past) (unsent_bodies past) (b ∷ [])
          ∙ (ap (λ (x : ServerState). (step x b).1) u.left ∙ ap (λ (x : Replies × ServerState). x.1) is);
      stays = stays_more (state_sent d past) (unsent_bodies past) b u.stays
          (ap (λ (x : ServerState). (step x b).1.over) u.left ∙ (ap (λ (x : Replies × ServerState). x.1.over) is
          ∙ (next_good at r (good_at d past g)).still));
      short = short_more (unsent_bodies past) b u.short (request_short (tells_of d) by r id s.1);
    }
unsent_owes d (_ ∷ past) g s = let u : Unsent d past = unsent_owes d past g s in
    record { said = u.said; left = u.left; stays = u.stays; short = u.short }

-- what wasn't sent is unanswered
none_beyond : (s : Setting) (past : List Entry) (p : ℕ) → IsJournal s past → count_sent past ≤ p → answer past p ≡ None
none_beyond s [] p j le = refl
none_beyond s (entry.Event Send ∷ past) p j le = answer_beyond past p le
none_beyond s (entry.Event (Take id r) ∷ past) p j le =
    let may = (next_take s past id r j.0).0 in
    let below = may.1.0.1 in
    answer_other past id may.0 p r may.1.0.0 (λ e. absurd (omega (arith, e, below, le))) ∙ none_beyond s past p j.1 le
none_beyond s (_ ∷ past) p j le = none_beyond s past p j.1 le

last_frame : (b : Bool) (h : ℕ → List ℕ) (n : ℕ) (frame : List ℕ) → h n ≡ frame → map h (if b then n ∷ [] else [])
    ≡ frame_if b frame
last_frame true h n frame e = ap (λ (x : List ℕ). x ∷ []) e
last_frame false h n frame e = refl

-- the frames by the places of what is unsent
between_frames : (test : Bool → Bool) (s : Setting) (d : ServerState) (past : List Entry) → IsJournal s past
    → map (frame_due d past) (those_between (stands test past) (count_sent past) (count_submitted past))
    ≡ unsent_frames test d past
between_frames test s d [] j = refl
between_frames test s d (entry.Event Send ∷ past) j = ap (λ (x : List ℕ). map (frame_due d past) x)
    (between_none (stands test past) (count_submitted past))
between_frames test s d (entry.Event (Submit by id r) ∷ past) j =
    let now : List Entry = entry.Event (Submit by id r) ∷ past in
    let n : ℕ = count_submitted past in
    let next : n + 1 ≡ suc n = omega arith in
    let here : stands test now n ≡ test (is_setup by) =
    ap (λ (o : Option Reply). is_none o && test (is_query (asked_at now n))) (answer_beyond past n (omega arith))
    ∙ ap (λ (o : Option AskedRequest). test (is_query o)) (asked_new past by id r) in
    ap (λ (k : ℕ). map (frame_due d now) (those_between (stands test now) (count_sent past) k)) next
    ∙ (ap (λ (x : List ℕ). map (frame_due d now) x) (between_more (stands test now) (count_sent past) n
    (sent_asked past))
    ∙ (map-append (frame_due d now) (those_between (stands test now) (count_sent past) n)
    (if stands test now n then n ∷ [] else [])
    ∙ (ap (λ (x : List (List ℕ)). x ++ map (frame_due d now) (if stands test now n then n ∷ [] else []))
    (between_same (stands test now) (stands test past) (frame_due d now) (frame_due d past) (count_sent past) n
    (λ p le lt. (
      ap (λ (o : Option AskedRequest). is_none (answer past p) && test (is_query o))
          (asked_other past by id p r lt),
      ap framed (due_old d past by id p r lt),
    ))
    ∙ between_frames test s d past j.1)
    ∙ ap (λ (x : List (List ℕ)). unsent_frames test d past ++ x)
    (ap (λ (b : Bool). map (frame_due d now) (if b then n ∷ [] else [])) here
    ∙ last_frame (test (is_setup by)) (frame_due d now) n (reply_frame (reply_to (state_of d past) r) id)
    (ap framed (due_new d past by id r))))))
between_frames test s d (entry.Event (Take id r) ∷ past) j =
    let may = (next_take s past id r j.0).0 in
    let below = may.1.0.1 in
    between_same (stands test (entry.Event (Take id r) ∷ past)) (stands test past) (frame_due d past) (frame_due d past)
    (count_sent past) (count_submitted past)
    (λ p le lt. (
      ap (λ (o : Option Reply). is_none o && test (is_query (asked_at past p)))
          (answer_other past id may.0 p r may.1.0.0 (λ e. absurd (omega (arith, e, below, le)))),
      refl,
    ))
    ∙ between_frames test s d past j.1
between_frames test s d (_ ∷ past) j = between_frames test s d past j.1

-- ---- what is owed

-- What is to be given is the frames of the replies to the requests that were sent and not answered, in their order,
-- that to the query at once; as many picks were used as replies were taken but for that one.
pub record Owes (first : ServerState) (picks : List ℕ) (past : List Entry) (now : Server) : Type 0 where
  pub ready : now.output.ready ≡ joined (frames_owed itself first past)
  pub waiting : now.output.waiting ≡ frames_owed not first past
  pub picks_left : now.output.picks ≡ drop (count_taken past) picks
  pub input : now.input ≡ []
  pub state : now.state ≡ state_sent first past

-- behind a Send
owed_more : (test : Bool → Bool) (s : Setting) (d : ServerState) (past : List Entry) → IsJournal s past
    → map (frame_due d past) (those_below (stands test past) (count_submitted past)) ≡ frames_owed test d past
    ++ unsent_frames test d past
owed_more test s d past j =
    ap (λ (x : List ℕ). map (frame_due d past) x) (below_split (stands test past) (count_sent past)
    (count_submitted past) (sent_asked past))
    ∙ (map-append (frame_due d past) (those_below (stands test past) (count_sent past))
    (those_between (stands test past) (count_sent past) (count_submitted past))
    ∙ ap (λ (x : List (List ℕ)). frames_owed test d past ++ x) (between_frames test s d past j))

pub send_owes : (s : Setting) (d : ServerState) (picks : List ℕ) (past : List Entry) (mid now : Server)
    → IsJournal s past
    → IsGood d → IsSound (tells_of d) past → Owes d picks past mid
    → (mid.input ≡ [] → AllShort (unsent_bodies past) → StaysOpen mid.state (unsent_bodies past)
    → FedAll mid (unsent_bodies past) now) → Owes d picks (entry.Event Send ∷ past) now
send_owes s d picks past mid now j g sound o feeds =
    let u : Unsent d past = unsent_owes d past g sound in
    let f : FedAll mid (unsent_bodies past) now = feeds o.input u.short
    (subst (λ (w : ServerState). StaysOpen w (unsent_bodies past)) (sym o.state) u.stays) in
    let said : all_said mid.state (unsent_bodies past) ≡ unsent_said d past =
    ap (λ (w : ServerState). all_said w (unsent_bodies past)) o.state ∙ u.said in
    let is : now.output ≡ with_said mid.output (unsent_said d past) = f.output
    ∙ ap (λ (w : Replies). with_said mid.output w) said in
    record {
      ready = ap (λ (w : WaitingFrames). w.ready) is
          ∙ (ap (λ (w : List ℕ). w ++ joined (unsent_frames itself d past)) o.ready
          ∙ (sym (flat_map-append (λ (frame : List ℕ). frame) (frames_owed itself d past) (unsent_frames itself d past))
          ∙ ap joined (sym (owed_more itself s d past j))));
      waiting = ap (λ (w : WaitingFrames). w.waiting) is ∙ (ap (λ (w : List (List ℕ)). w ++ unsent_frames not d past)
          o.waiting ∙ sym (owed_more not s d past j));
      picks_left = ap (λ (w : WaitingFrames). w.picks) is ∙ o.picks_left;
      input = f.input;
      state = f.state ∙ (ap (λ (w : ServerState). all_left w (unsent_bodies past)) o.state ∙ u.left);
    }

-- one body reads as one reply
pub one_reply : (i j : Option ℕ) (q r : Reply) → (let x : Result (Option ℕ × Reply) FrameError = Ok (i, q) in x)
    ≡ Ok (j, r) → (i ≡ j) × (q ≡ r)
one_reply i j q r e = let pairs : (i, q) ≡ (j, r) = cc e in pair_is i j q r pairs
