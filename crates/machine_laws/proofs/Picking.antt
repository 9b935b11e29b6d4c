-- Which reply a server gives next, and what it owes behind that.
use Rattle.std.proofs.Common.{
  ◌≡◌,
  ◌<◌,
  ◌==◌,
  ◌%◌,
  ℕ,
  zero,
  suc,
  Bool,
  true,
  false,
  not,
  List,
  [],
  ◌∷◌,
  ◌++◌,
  length,
  drop,
  map,
  Option,
  Some,
  None,
  Ok,
  is_none,
  refl,
  ap,
  sym,
  ◌∙◌,
  subst,
  arith,
}
use Rattle.std.specs.Prelude.{◌&&◌, slice_get, slice_index_or, MatchBool}
use Rattle.std.specs.List.{remove}
use Rattle.std.proofs.lemmas.Bool.Decides.{nat_tests}
use Rattle.std.proofs.lemmas.List.{append-nil, drop-drop, length-append, length-map}
use Rattle.std.proofs.lemmas.Nat.{mod_below}
use Rattle.sftp_wire.proofs.Lengths.{length-string}
use Rattle.sftp_model.specs.declared.reply.Reply.{Reply}
use Rattle.sftp_model.specs.Frames.{reply_body, reply_frame}
use Rattle.sftp_model.specs.ReplyReadings.{reply_at}
use Rattle.machine_answers.specs.WaitingFrames.{WaitingFrames, first_pick, with_next_picked}
use Rattle.session_model.specs.declared.event.Event.TheVariants.{Take}
use Rattle.session_model.specs.declared.entry.Entry.{Entry}
use Rattle.session_model.specs.declared.entry.Entry.TheVariants as entry
use Rattle.session_model.specs.Calls.{Setting}
use Rattle.session_model.specs.Journals.{IsJournal, MayReply}
use Rattle.session_model.specs.Readings.{AskedRequest, answer, asked_at, count_awaited, bearer, count_sent}
use Rattle.session_model.specs.Served.{bears_query, is_query, picked_place, count_taken, those_below}
use Rattle.session_model.proofs.CountLaws.{count_some}
use Rattle.session_model.proofs.JournalLaws.{unanswered_borne}
use Rattle.session_model.proofs.RequestLaws.{answer_new, answer_other, sent_asked}
use Rattle.sftp_map_server.specs.Serving.{ServerState, Server}
use Rattle.session_driver.specs.ServingLinks.{IsAllowed, Read}
use Rattle.machine_laws.proofs.Feeding.{BeginsWhole, still_turned}
use Rattle.machine_laws.proofs.Places.{Found, IsBut, first_found, found, map_remove, none_less, one_less}
use Rattle.machine_laws.proofs.Sound.{IsSound}
use Rattle.machine_laws.proofs.Replying.{IsGood, Says}
use Rattle.machine_laws.proofs.Owing.{Owes, due, due_asked, due_says, due_there, frame_due, framed, frames_owed, itself, joined, stands, tells_of}

-- ---- lists

pick_at : (n : ℕ) (picks : List ℕ) → first_pick (drop n picks) ≡ slice_index_or picks n 0
pick_at zero [] = refl
pick_at zero (p ∷ picks) = refl
pick_at (suc n) [] = refl
pick_at (suc n) (p ∷ picks) = pick_at n picks

get_there : {A : Type 0} (xs : List A) (i : ℕ) → i < length xs → (x : A) × (slice_get xs i ≡ Some x)
get_there [] i lt = absurd (omega (arith, lt))
get_there (x ∷ xs) zero lt = (x, refl)
get_there (x ∷ xs) (suc i) lt = get_there xs i (let l : suc i < suc (length xs) = lt in omega (arith, l))

index_mapped : (h : ℕ → List ℕ) (xs : List ℕ) (i p : ℕ) → slice_get xs i ≡ Some p → slice_index_or (map h xs) i [] ≡ h p
index_mapped h [] i p e = absurd cc
index_mapped h (x ∷ xs) zero p e = let is : x ≡ p = cc e in ap h is
index_mapped h (x ∷ xs) (suc i) p e = index_mapped h xs i p e

-- where no frame is being given and some wait, one is picked
turned_picks : (o : WaitingFrames) → o.ready ≡ [] → 0 < length o.waiting
    → with_next_picked o ≡ record {
      ready = slice_index_or o.waiting (first_pick o.picks % length o.waiting) [];
      waiting = remove o.waiting (first_pick o.picks % length o.waiting);
      picks = drop 1 o.picks;
    }
turned_picks o none some =
    let a : (length o.ready == 0) ≡ true = ap (λ (w : List ℕ). length w == 0) none in
    let b : (length o.waiting == 0) ≡ false = grind (arith, nat_tests) in
    rw (a, b) refl

-- ---- what is given next

-- The frame that is given next is that of the reply due to a request that was sent and isn't answered. Where the reply
-- is taken, what is left to be given is owed; and the place is that of the query, or the one that is picked.
pub record Next (d : ServerState) (picks : List ℕ) (past : List Entry) (output : WaitingFrames) : Type 0 where
  pub place : ℕ
  pub asked : AskedRequest
  pub reply : Reply
  pub due : due d past place ≡ Some (asked, reply)
  pub unanswered : answer past place ≡ None
  pub sent : place < count_sent past
  pub bears : bearer past asked.id ≡ Some place
  pub rest : List ℕ
  pub front : (with_next_picked output).ready ≡ reply_frame reply asked.id ++ rest
  pub ready : rest ≡ joined (frames_owed itself d (entry.Event (Take asked.id reply) ∷ past))
  pub waiting : (with_next_picked output).waiting ≡ frames_owed not d (entry.Event (Take asked.id reply) ∷ past)
  pub picks_left : (with_next_picked output).picks ≡ drop (count_taken (entry.Event (Take asked.id reply) ∷ past)) picks
  pub by_pick : MatchBool (bears_query past (bearer past asked.id)) (Unit {0})
      (bearer past asked.id ≡ picked_place picks past)

both_true : (a b : Bool) → (a && b) ≡ true → (a ≡ true) × (b ≡ true)
both_true true b e = (refl, e)
both_true false b e = absurd cc

is_none_is : (a : Option Reply) → is_none a ≡ true → a ≡ None
is_none_is None e = refl
is_none_is (Some r) e = absurd cc

not_is : (b : Bool) → not b ≡ true → b ≡ false
not_is true e = absurd cc
not_is false e = refl

-- one request fewer is unanswered
but_one : (test : Bool → Bool) (past : List Entry) (id p : ℕ) (r : Reply) → bearer past id ≡ Some p
    → IsBut (stands test past) p (stands test (entry.Event (Take id r) ∷ past))
but_one test past id p r bears = (
  ap (λ (o : Option Reply). is_none o && test (is_query (asked_at past p))) (answer_new past id p r bears),
  λ q ne. ap (λ (o : Option Reply). is_none o && test (is_query (asked_at past q)))
      (answer_other past id p q r bears ne),
)

-- the requests that don't pass the test are as before
not_there : (test : Bool → Bool) (past : List Entry) (p : ℕ) → test (is_query (asked_at past p)) ≡ false
    → stands test past p ≡ false
not_there test past p e = by_test (is_none (answer past p)) e
  where
    by_test : (b : Bool) → test (is_query (asked_at past p)) ≡ false → (b && test (is_query (asked_at past p))) ≡ false
    by_test true e = e
    by_test false e = refl

frame_some : (r : Reply) (id : ℕ) (rest : List ℕ) → 0 < length (reply_frame r id ++ rest)
frame_some r id rest = let a = length-append (reply_frame r id) rest in let b = length-string (reply_body r id) in
    omega (arith, a, b)

-- what there is of an unanswered request that was sent
record Standing (s : Setting) (d : ServerState) (past : List Entry) (p : ℕ) : Type 0 where
  asked : AskedRequest
  reply : Reply
  due : due d past p ≡ Some (asked, reply)
  bears : bearer past asked.id ≡ Some p

standing : (s : Setting) (d : ServerState) (past : List Entry) (p : ℕ) → IsJournal s past → p < count_sent past
    → answer past p ≡ None → Standing s d past p
standing s d past p j lt none =
    let few = sent_asked past in
    let w = due_there d past p (omega (arith, lt, few)) in
    record {
      asked = w.0.0;
      reply = w.0.1;
      due = w.1;
      bears = unanswered_borne s past p w.0.0 j
          (due_asked d past p w.0 w.1) none;
    }

-- the reply to the query is given at once
at_once_next : (s : Setting) (d : ServerState) (picks : List ℕ) (past : List Entry) (output : WaitingFrames) (p : ℕ)
    (later : List ℕ) → IsJournal s past
    → those_below (stands itself past) (count_sent past) ≡ p ∷ later → output.ready ≡ joined (frames_owed itself d past)
    → output.waiting ≡ frames_owed not d past → output.picks ≡ drop (count_taken past) picks → Next d picks past output
at_once_next s d picks past output p later j is ready waits left =
    let here : slice_get (those_below (stands itself past) (count_sent past)) 0 ≡ Some p =
    ap (λ (w : List ℕ). slice_get w 0) is in
    let f : Found (stands itself past) (count_sent past) p = found (stands itself past) (count_sent past) 0 p here in
    let parts = both_true (is_none (answer past p)) (is_query (asked_at past p)) f.passes in
    let none = is_none_is (answer past p) parts.0 in
    let w = standing s d past p j f.below none in
    let frame : frame_due d past p ≡ reply_frame w.reply w.asked.id = ap framed w.due in
    let rest : List ℕ = joined (map (frame_due d past) later) in
    let all : output.ready ≡ reply_frame w.reply w.asked.id ++ rest =
    ready ∙ (ap (λ (x : List ℕ). joined (map (frame_due d past) x)) is ∙ ap (λ (x : List ℕ). x ++ rest) frame) in
    let same : with_next_picked output ≡ output = still_turned output
    (subst (λ (x : List ℕ). 0 < length x) (sym all) (frame_some w.reply w.asked.id rest)) in
    let query : bears_query past (bearer past w.asked.id) ≡ true = ap (bears_query past) w.bears ∙ parts.1 in
    let fewer = but_one itself past w.asked.id p w.reply w.bears in
    let others = but_one not past w.asked.id p w.reply w.bears in
    record {
      place = p;
      asked = w.asked;
      reply = w.reply;
      due = w.due;
      unanswered = none;
      sent = f.below;
      bears = w.bears;
      rest = rest;
      front = ap (λ (o : WaitingFrames). o.ready) same ∙ all;
      ready = ap (λ (x : List ℕ). joined (map (frame_due d past) x))
          (sym (one_less (stands itself past) (stands itself (entry.Event (Take w.asked.id w.reply) ∷ past))
          (count_sent past)
          0 p fewer here ∙ ap (λ (x : List ℕ). remove x 0) is));
      waiting = ap (λ (o : WaitingFrames). o.waiting) same
          ∙ (waits ∙ ap (λ (x : List ℕ). map (frame_due d past) x)
          (sym (none_less (stands not past) (stands not (entry.Event (Take w.asked.id w.reply) ∷ past))
          (count_sent past) p
          (not_there not past p (ap not parts.1)) others)));
      picks_left = ap (λ (o : WaitingFrames). o.picks) same ∙ (left ∙ rw query refl);
      by_pick = rw query tt;
    }

-- another reply is picked
picked_next : (s : Setting) (d : ServerState) (picks : List ℕ) (past : List Entry) (output : WaitingFrames)
    → IsJournal s past
    → those_below (stands itself past) (count_sent past) ≡ [] →
    0 < length (those_below (stands not past) (count_sent past))
    → output.ready ≡ joined (frames_owed itself d past) → output.waiting ≡ frames_owed not d past → output.picks
    ≡ drop (count_taken past) picks → Next d picks past output
picked_next s d picks past output j empty some ready waits left =
    let places : List ℕ = those_below (stands not past) (count_sent past) in
    let count : length output.waiting ≡ length places = ap length waits ∙ length-map places (frame_due d past) in
    let nothing : output.ready ≡ [] = ready ∙ ap (λ (x : List ℕ). joined (map (frame_due d past) x)) empty in
    let is = turned_picks output nothing (omega (arith, count, some)) in
    let i : ℕ = slice_index_or picks (count_taken past) 0 % length places in
    let index : first_pick output.picks % length output.waiting ≡ i =
    ap (λ (x : List ℕ). first_pick x % length output.waiting) left
    ∙ (ap (λ (x : ℕ). x % length output.waiting) (pick_at (count_taken past) picks)
    ∙ ap (λ (x : ℕ). slice_index_or picks (count_taken past) 0 % x) count) in
    let there = get_there places i (mod_below (slice_index_or picks (count_taken past) 0) (length places) some) in
    let p : ℕ = there.0 in
    let f : Found (stands not past) (count_sent past) p = found (stands not past) (count_sent past) i p there.1 in
    let parts = both_true (is_none (answer past p)) (not (is_query (asked_at past p))) f.passes in
    let none = is_none_is (answer past p) parts.0 in
    let ordinary : is_query (asked_at past p) ≡ false = not_is (is_query (asked_at past p)) parts.1 in
    let w = standing s d past p j f.below none in
    let frame : slice_index_or (map (frame_due d past) places) i [] ≡ reply_frame w.reply w.asked.id =
    index_mapped (frame_due d past) places i p there.1 ∙ ap framed w.due in
    let query : bears_query past (bearer past w.asked.id) ≡ false = ap (bears_query past) w.bears ∙ ordinary in
    let fewer = but_one not past w.asked.id p w.reply w.bears in
    let others = but_one itself past w.asked.id p w.reply w.bears in
    record {
      place = p;
      asked = w.asked;
      reply = w.reply;
      due = w.due;
      unanswered = none;
      sent = f.below;
      bears = w.bears;
      rest = [];
      front = ap (λ (o : WaitingFrames). o.ready) is
          ∙ (ap (λ (x : ℕ). slice_index_or output.waiting x []) index
          ∙ (ap (λ (x : List (List ℕ)). slice_index_or x i []) waits
          ∙ (frame ∙ sym (append-nil (reply_frame w.reply w.asked.id)))));
      ready = ap (λ (x : List ℕ). joined (map (frame_due d past) x))
          (sym (none_less (stands itself past) (stands itself (entry.Event (Take w.asked.id w.reply) ∷ past))
          (count_sent past) p (not_there itself past p ordinary) others ∙ empty));
      waiting = ap (λ (o : WaitingFrames). o.waiting) is
          ∙ (ap (λ (x : ℕ). remove output.waiting x) index
          ∙ (ap (λ (x : List (List ℕ)). remove x i) waits
          ∙ (sym (map_remove (frame_due d past) places i)
          ∙ ap (λ (x : List ℕ). map (frame_due d past) x) (sym (one_less (stands not past)
          (stands not (entry.Event (Take w.asked.id w.reply) ∷ past)) (count_sent past) i p fewer there.1)))));
      picks_left = ap (λ (o : WaitingFrames). o.picks) is
          ∙ (ap (λ (x : List ℕ). drop 1 x) left ∙ (drop-drop 1 (count_taken past) picks ∙ rw query refl));
      by_pick = rw query (w.bears ∙ sym there.1);
    }

-- while a request that was sent is unanswered, there is a frame that is given next
pub next_frame : (s : Setting) (d : ServerState) (picks : List ℕ) (past : List Entry) (now : Server) → IsJournal s past
    → Owes d picks past now → 0 < count_awaited past → Next d picks past now.output
next_frame s d picks past now j o some =
    let q = count_some (λ place. is_none (answer past place)) (count_sent past) some in
    by_list (those_below (stands itself past) (count_sent past)) refl q.0 q.1.0 q.1.1
  where
    waits : (p : ℕ) → p < count_sent past → is_none (answer past p) ≡ true
        → those_below (stands itself past) (count_sent past) ≡ []
        → (b : Bool) → is_query (asked_at past p) ≡ b → 0 < length (those_below (stands not past) (count_sent past))
    waits p lt none empty true e =
        let h = first_found (stands itself past) (count_sent past) p lt
        (ap (λ (x : Bool). x && is_query (asked_at past p)) none ∙ e) in
        absurd (let no_way : [] ≡ h.0 ∷ h.1.0 = sym empty ∙ h.1.1 in cc)
    waits p lt none empty false e =
        let h = first_found (stands not past) (count_sent past) p lt
        (ap (λ (x : Bool). x && not (is_query (asked_at past p))) none ∙ ap not e) in
        subst (λ (x : List ℕ). 0 < length x) (sym h.1.1) (omega arith)

    by_list : (places : List ℕ) → those_below (stands itself past) (count_sent past) ≡ places → (p : ℕ)
        → p < count_sent past
        → is_none (answer past p) ≡ true → Next d picks past now.output
    by_list (p ∷ later) is q lt none = at_once_next s d picks past now.output p later j is o.ready o.waiting
        o.picks_left
    by_list [] is q lt none = picked_next s d picks past now.output j is
        (waits q lt none is (is_query (asked_at past q)) refl) o.ready o.waiting o.picks_left

-- ---- it is a reply that may be taken

-- what is given next begins with a whole frame, whose reply is good
pub record Ready (good : Read → Type 0) (output : WaitingFrames) : Type 0 where
  pub whole : BeginsWhole output
  pub read : Read
  pub reads : reply_at whole.body ≡ Ok read
  pub is_good : good read

pub next_ready : (s : Setting) (d : ServerState) (picks : List ℕ) (past : List Entry) (output : WaitingFrames)
    → IsJournal s past → IsGood d → IsSound (tells_of d) past → Next d picks past output → Ready (IsAllowed past) output
next_ready s d picks past output j g sound n =
    let says : Says n.asked n.reply = due_says d past n.place (n.asked, n.reply) g sound n.due in
    let asks : asked_at past n.place ≡ Some n.asked = due_asked d past n.place (n.asked, n.reply) n.due in
    let may : MayReply (asked_at past n.place) n.reply = subst (λ (a : Option AskedRequest). MayReply a n.reply)
    (sym asks) (says.may, says.goes) in
    record {
      whole = record {
        body = reply_body n.reply n.asked.id;
        rest = n.rest;
        framed = n.front;
        some = says.some;
        short =
            says.short;
      };
      read = (Some n.asked.id, n.reply);
      reads = says.reads;
      is_good = (n.asked.id, (n.reply, (refl, (n.place, ((n.bears, n.sent, n.unanswered), may)))));
    }
