-- The state of a machine after the requests of a journal; a trace that it serves has its replies.
use Rattle.std.proofs.Common.{◌≡◌, ℕ, Bool, true, false, List, [], ◌∷◌, ◌++◌, Option, Some, None, refl, ap, sym, ◌∙◌, subst, if◌then◌else◌, append_assoc}
use Rattle.sftp_model.specs.declared.config.Choice.{Choice}
use Rattle.sftp_model.specs.declared.reply.Reply.{Reply}
use Rattle.sftp_model.specs.declared.request.Request.{Request}
use Rattle.sftp_model.specs.Same.{reply_decides}
use Rattle.machine_answers.specs.MachineState.{MachineState, answer as answer_of}
use Rattle.session_model.specs.declared.event.Owner.{Owner}
use Rattle.session_model.specs.declared.event.Event.{Event}
use Rattle.session_model.specs.declared.event.Event.TheVariants.{Submit, Send, Take, Cancel, End}
use Rattle.session_model.specs.declared.entry.Entry.{Entry}
use Rattle.session_model.specs.declared.entry.Entry.TheVariants as entry
use Rattle.session_model.specs.Calls.{Setting}
use Rattle.session_model.specs.Journals.{IsJournal}
use Rattle.session_model.specs.Readings.{answer, count_submitted, trace_of}
use Rattle.session_model.specs.Served.{IsReply}
use Rattle.sftp_share.specs.declared.outcome.Replay.{Replay}
use Rattle.sftp_share.specs.declared.outcome.Replay.TheVariants.{Serves, Differs}
use Rattle.sftp_share.specs.Replays.{choice_for, choices_after, is_reply, replay_from, reply_in}
use Rattle.sftp_share.proofs.TraceReplies.{answered, in_order, in_order_is}

module _ (first : MachineState) (choices : List Choice) where
  -- the choices that are left
  abbrev pub choices_at : List Entry → List Choice
  choices_at [] = choices
  choices_at (entry.Event (Submit by id r) ∷ past) = choices_after r (choices_at past)
  choices_at (entry.Event Send ∷ past) = choices_at past
  choices_at (_ ∷ past) = choices_at past

  -- the machine
  abbrev pub machine_at : List Entry → MachineState
  machine_at [] = first
  machine_at (entry.Event (Submit by id r) ∷ past) = (answer_of (machine_at past) r (choice_for r (choices_at past))).1
  machine_at (entry.Event Send ∷ past) = machine_at past
  machine_at (_ ∷ past) = machine_at past

  -- its reply to a further request
  abbrev pub said_at : List Entry → Request → Reply
  said_at past r = (answer_of (machine_at past) r (choice_for r (choices_at past))).0

  -- it has continued to the later requests
  abbrev GoesOn : List Entry → List Event → MachineState → Type 0
  GoesOn q later m = replay_from (machine_at q) (choices_at q) (count_submitted q) later ≡ Serves m

  went : (b : Bool) (r : Replay) (place : ℕ) (x : Reply) (m : MachineState) → (if b then r else Differs place x)
      ≡ Serves m → (b ≡ true) × (r ≡ Serves m)
  went true r place x m e = (refl, e)
  went false r place x m e = absurd cc

  shifted : (q : List Entry) (e : Event) (later : List Event) (m : MachineState)
      → replay_from first choices 0 ((in_order q ++ e ∷ []) ++ later) ≡ Serves m
      → replay_from first choices 0 (in_order q ++ e ∷ later) ≡ Serves m
  shifted q e later m s = ap (replay_from first choices 0) (sym (append_assoc (in_order q) (e ∷ []) later)) ∙ s

  goes_on : (q : List Entry) (later : List Event) (m : MachineState) → replay_from first choices 0 (in_order q ++ later)
      ≡ Serves m → GoesOn q later m
  goes_on [] later m e = e
  goes_on (entry.Event (Submit by id r) ∷ q) later m e =
      (went (is_reply (reply_in id later) (said_at q r)) _ (count_submitted q) (said_at q r) m
      (goes_on q (Submit by id r ∷ later) m (shifted q (Submit by id r) later m e))).1
  goes_on (entry.Event Send ∷ q) later m e = goes_on q (Send ∷ later) m (shifted q Send later m e)
  goes_on (entry.Event (Take i x) ∷ q) later m e = goes_on q (Take i x ∷ later) m (shifted q (Take i x) later m e)
  goes_on (entry.Event (Cancel lane) ∷ q) later m e = goes_on q (Cancel lane ∷ later) m
      (shifted q (Cancel lane) later m e)
  goes_on (entry.Event (End lane call o) ∷ q) later m e = goes_on q (End lane call o ∷ later) m
      (shifted q (End lane call o) later m e)
  goes_on (entry.Added lane c ∷ q) later m e = goes_on q later m e
  goes_on (entry.LetGo lane ∷ q) later m e = goes_on q later m e
  goes_on (entry.Kept fault ∷ q) later m e = goes_on q later m e

  -- it is left as the last request leaves it
  pub left_at : (past : List Entry) (m : MachineState) → replay_from first choices 0 (trace_of past) ≡ Serves m
      → machine_at past ≡ m
  left_at past m e =
      let h : GoesOn past [] m = goes_on past [] m (ap (replay_from first choices 0)
      (no_more (in_order past) ∙ sym (in_order_is past)) ∙ e) in cc h
    where
      no_more : (xs : List Event) → xs ++ [] ≡ xs
      no_more [] = refl
      no_more (x ∷ xs) = ap (λ (w : List Event). x ∷ w) (no_more xs)

  is_same : (o : Option Reply) (r : Reply) → is_reply o r ≡ true → IsReply o r
  is_same None r e = tt
  is_same (Some x) r e = (reply_decides x r).0 e

  behind_in_order : (q after : List Entry) (e : Event) → in_order (after ++ entry.Event e ∷ q) ≡ in_order q
      ++ e ∷ in_order after
  behind_in_order q [] e = refl
  behind_in_order q (entry.Event x ∷ after) e =
      ap (λ (w : List Event). w ++ x ∷ []) (behind_in_order q after e)
      ∙ append_assoc (in_order q) (e ∷ in_order after) (x ∷ [])
  behind_in_order q (entry.Added lane c ∷ after) e = behind_in_order q after e
  behind_in_order q (entry.LetGo lane ∷ after) e = behind_in_order q after e
  behind_in_order q (entry.Kept fault ∷ after) e = behind_in_order q after e

  -- The reply that was taken to a request, if one was, is the machine's reply to it there.
  pub agrees : (s : Setting) (q after : List Entry) (by : Owner) (id : ℕ) (r : Request) (m : MachineState)
      → IsJournal s (after ++ entry.Event (Submit by id r) ∷ q)
      → replay_from first choices 0 (trace_of (after ++ entry.Event (Submit by id r) ∷ q)) ≡ Serves m
      → IsReply (answer (after ++ entry.Event (Submit by id r) ∷ q) (count_submitted q)) (said_at q r)
  agrees s q after by id r m j e =
      let order : trace_of (after ++ entry.Event (Submit by id r) ∷ q) ≡ in_order q ++ Submit by id r ∷ in_order after =
      in_order_is (after ++ entry.Event (Submit by id r) ∷ q) ∙ behind_in_order q after (Submit by id r) in
      let h = goes_on q (Submit by id r ∷ in_order after) m (ap (replay_from first choices 0) (sym order) ∙ e) in
      let w = went (is_reply (reply_in id (in_order after)) (said_at q r)) _ (count_submitted q) (said_at q r) m h in
      subst (λ (o : Option Reply). IsReply o (said_at q r)) (sym (answered by id r q s after j))
      (is_same (reply_in id (in_order after)) (said_at q r) w.0)
