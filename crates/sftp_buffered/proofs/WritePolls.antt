-- What a poll that writes does, by the plan of a deferred write.
use Rattle.std.proofs.Common.{
  ◌≡◌,
  ◌∙◌,
  sym,
  ap,
  subst,
  ℕ,
  Bool,
  true,
  false,
  List,
  [],
  Result,
  Ok,
  Err,
  inl,
  length,
  take,
  if◌then◌else◌,
}
use Rattle.std.specs.Prelude.{IfOk, IfErr, not, min, ◌==◌}
use Rattle.sftp_model.specs.Numbers.{SSH_FX_OK}
use Rattle.sftp_model.specs.Pieces.{joined_pieces}
use Rattle.sftp_model.specs.declared.error.Error.{Error}
use Rattle.sftp_model.specs.declared.error.Error.TheVariants as error
use Rattle.sftp_model.specs.declared.error.IoKind.TheVariants as kind
use Rattle.sftp_model.specs.declared.outcome.Outcome.TheVariants as outcome
use Rattle.sftp_model.specs.declared.reply.Reply.{Reply}
use Rattle.sftp_model.specs.declared.reply.Reply.TheVariants as reply
use Rattle.sftp_model.specs.declared.slot.Move.TheVariants.{Wait, Done}
use Rattle.plan_model.specs.Moves.{Answers, refuse_locally}
use Rattle.plan_model.specs.BufferPlans.{send_next, with_capacity}
use Rattle.sftp_core.specs.Core.{Core}
use Rattle.plan_state.proofs.Going.{short_any}
use Rattle.plan_state.specs.Calls.{IfOutOfMemory, IsUnfinished}
use Rattle.plan_state.specs.declared.submission.Asking.{Asking}
use Rattle.plan_state.specs.declared.poll.Poll.TheVariants as poll
use Rattle.sftp_file.specs.Files.{facts_of, file_at}
use Rattle.sftp_buffered.proofs.Holding.{parts_of}
use Rattle.sftp_buffered.specs.declared.writes.Window.{Window}
use Rattle.sftp_buffered.specs.Buffered.{CompatValue, DefersWrites, IsSound, buffer_of, lane_of}
use Rattle.sftp_buffered.specs.Polls.{PollsPlan, PlanWaits}
use Rattle.sftp_buffered.specs.Steps.{
  IsLeft,
  LooksAtOldest,
  with_oldest_settled,
  must_wait,
  oldest_polled,
  oldest_reply,
  status_value,
  without_oldest,
}
use Rattle.sftp_buffered.proofs.Resting.{rest_at, rest_freed}
use Rattle.sftp_buffered.specs.Writes.{HasRoom, IsWindowOpen, IsWindow, SendsWrites, SendsNoWrite, WritesBuffered, write_plan}
use Rattle.sftp_buffered.proofs.Sound.{sound_left, sound_looked, sound_send}
use Rattle.sftp_buffered.proofs.Windows.{window_left, window_looked, window_same, window_send}
use Rattle.sftp_buffered.proofs.Others.{others_left, others_looked, others_same, others_send}
use Rattle.sftp_buffered.proofs.Planning.{
  Oldest,
  has_oldest,
  full_looks,
  missing_waits,
  bad_ends,
  IsPartOf,
  goes_as,
  polls_result,
}

-- no STATUS is want of memory
pub status_memory : (r : Reply) → status_value r ≡ Err error.OutOfMemory → ⊥
status_memory (reply.Status code message language) is = by_code (code == SSH_FX_OK) is
  where
    by_code : (b : Bool) → (◌≡◌ {A = Result (Unit {0}) Error} (if b then Ok tt else
        Err (error.SftpError code message language)) (Err error.OutOfMemory)) → ⊥
    by_code true is = cc
    by_code false is = cc
status_memory other is = cc

-- the looks before the window
pub record MayWrite (bytes : List ℕ) (c : CompatValue) : Type 0 where
  pub may : c.file.writable ≡ true
  pub some : (length bytes == 0) ≡ false

window_waits : (bytes : List ℕ) (old new : Core) (p q : CompatValue) → MayWrite bytes p → IsSound old p
    → IsWindow old new p q poll.Pending → (answers : Answers) → DefersWrites old p answers
    → PlanWaits (write_plan bytes old p) answers old (IsLeft old new p q)
window_waits bytes old new p q m s w answers d =
    let o : Oldest p = has_oldest p (facts_of old) w.0 in
    record {
      place = o.write.place;
      waits = full_looks p (facts_of old) bytes [] answers old o m.may m.some s.counted w.0 d.writes
          ∙ missing_waits (oldest_reply old p.deferred) o.write.place _ w.1.0;
      unfailed = w.1.1;
      left = w.1.2;
    }

-- the window was full, and the oldest status isn't good
pub pending_writes : (Cut : Asking → Type 0) (bytes : List ℕ) (old new : Core) (p q : CompatValue) → MayWrite bytes p
    → IsSound old p
    → IsWindow old new p q poll.Pending → WritesBuffered Cut bytes old new p q poll.Pending
pending_writes Cut bytes old new p q m s w = record {
  polled = window_waits bytes old new p q m s w;
  sound =
      sound_left old new p q w.1.2 s;
  window = window_left (facts_of old).write_limit old new p q w.1.2;
  others = others_left old new p w.1.2.core;
  memory = tt;
}

refused_polls : (Cut : Asking → Type 0) (bytes : List ℕ) (old new : Core) (p q : CompatValue) (e : Error)
    → MayWrite bytes p → IsSound old p
    → must_wait (facts_of old) p ≡ true → LooksAtOldest old new p q (poll.Ready (Err e))
    → (answers : Answers) → DefersWrites old p answers
    → PollsPlan {V = ℕ} (PlanWaits (write_plan bytes old p) answers old (IsLeft old new p q)) (IsLeft old new p q) Cut
    (write_plan bytes old p) (λ k. outcome.Count k) answers old new p q (poll.Ready (Err e))
refused_polls Cut bytes old new p q (error.BackgroundTaskFailure fault) m s full w answers d =
    let o : Oldest p = has_oldest p (facts_of old) full in
    let waits : write_plan bytes old p [] answers ≡ Wait o.write.place =
    full_looks p (facts_of old) bytes [] answers old o m.may m.some s.counted full d.writes
    ∙ missing_waits (oldest_reply old p.deferred) o.write.place _ w.0 in
    (w.1, subst IsUnfinished (sym waits) tt, w.2)
refused_polls Cut bytes old new p q error.OutOfMemory m s full w answers d = absurd (status_memory w.reply w.refuses)
refused_polls Cut bytes old new p q e m s full w answers d =
    let o : Oldest p = has_oldest p (facts_of old) full in
    record {
      ends = full_looks p (facts_of old) bytes [] answers old o m.may m.some s.counted full d.writes
          ∙ bad_ends old new p q o.write.place _ e w;
      rest = rest_at old (oldest_polled old p.deferred) new p (without_oldest p) q (rest_freed true old p) w.core
          w.left;
    }

looked_memory : (old new : Core) (p q : CompatValue) (e : Error) (P : Type 0)
    → LooksAtOldest old new p q (poll.Ready (Err e)) → IfOutOfMemory {V = ℕ} (poll.Ready (Err e)) P
looked_memory old new p q error.OutOfMemory P w = absurd (status_memory w.reply w.refuses)
looked_memory old new p q other P w = tt

open_by : (core : Core) (c : CompatValue) (w : Window) → HasRoom (facts_of core) core c w → IsWindowOpen core c
open_by core c w room full = room.good (room.full ∙ full)

pub refused_writes : (Cut : Asking → Type 0) (bytes : List ℕ) (old new : Core) (p q : CompatValue) (e : Error)
    → MayWrite bytes p
    → IsSound old p → IsWindow old new p q (poll.Ready (Err e))
    → WritesBuffered Cut bytes old new p q (poll.Ready (Err e))
refused_writes Cut bytes old new p q e m s w = record {
  polled = refused_polls Cut bytes old new p q e m s w.0 w.1;
  sound =
      sound_looked old new p q e w.1 s;
  window = window_looked (facts_of old).write_limit old new p q e w.1;
  others = others_looked old new p q e w.1 s;
  memory = looked_memory old new p q e (IsWindowOpen old p) w.1;
}

-- the window has room, and a part was handed to a send
pub record SendsPart (Cut : Asking → Type 0) (bytes : List ℕ) (core : Core) (c : CompatValue) (w : Window)
    (parts : List (List ℕ)) (n : ℕ) : Type 0 where
  pub room : HasRoom (facts_of core) core c w
  pub len : n ≡ min (length bytes) w.len
  pub first : joined_pieces parts ≡ take n bytes
  pub cut : Cut (parts_of c parts)

sent_writes_here : (Cut : Asking → Type 0) (bytes : List ℕ) (old new : Core) (p q : CompatValue) (w : Window)
    (parts : List (List ℕ)) (n : ℕ)
    (result : Result ℕ Error) → MayWrite bytes p → IsSound old p → SendsPart Cut bytes old p w parts n
    → IfOk result (λ k. (k ≡ n) × SendsWrites w.is_full parts old new p q n)
    → IfErr result (SendsNoWrite w.is_full n old new p q)
    → WritesBuffered Cut bytes old new p q (poll.Ready result)
sent_writes_here Cut bytes old new p q w parts n result m s h ok err =
    let part : IsPartOf (facts_of old) bytes (with_oldest_settled w.is_full p) parts n =
    record { len = h.len ∙ ap (λ (k : ℕ). min (length bytes) k) h.room.len; first = h.first } in
    record {
      polled = λ answers d. polls_result Cut w.is_full (write_plan bytes old p) (facts_of old) bytes answers old new p q
          parts n result
          (goes_as w.is_full p (facts_of old) bytes answers old m.may m.some s.counted h.room.full d h.room.good) part
          h.room.good h.cut ok err;
      sound = sound_send w.is_full parts n old new p q result s h.room.good ok err;
      window = window_send w.is_full (facts_of old) parts (length bytes) n old new p q result part.len h.room.good ok
          err;
      others = others_send w.is_full parts n old new p q result s h.room.good ok err;
      memory = short_any (poll.Ready result) (IsWindowOpen old p) (open_by old p w h.room);
    }

pub sent_writes : (Cut : Asking → Type 0) (bytes : List ℕ) (old now new : Core) (p r q : CompatValue) (w : Window)
    (parts : List (List ℕ))
    (n : ℕ) (result : Result ℕ Error) → MayWrite bytes p → IsSound old p → IsLeft old now p r
    → SendsPart Cut bytes old p w parts n
    → IfOk result (λ k. (k ≡ n) × SendsWrites w.is_full parts now new r q n)
    → IfErr result (SendsNoWrite w.is_full n now new r q)
    → WritesBuffered Cut bytes old new p q (poll.Ready result)
sent_writes Cut bytes old now new p r q w parts n result m s l h ok err =
    sent_writes_here Cut bytes old new p q w parts n result m s h
    (subst (λ (x : CompatValue). IfOk result (λ k. (k ≡ n) × SendsWrites w.is_full parts old new x q n)) l.same
    (subst (λ (x : Core). IfOk result (λ k. (k ≡ n) × SendsWrites w.is_full parts x new r q n)) l.core ok))
    (subst (λ (x : CompatValue). IfErr result (SendsNoWrite w.is_full n old new x q)) l.same
    (subst (λ (x : Core). IfErr result (SendsNoWrite w.is_full n x new r q)) l.core err))

-- want of memory behind the window
pub short_writes : (Cut : Asking → Type 0) (bytes : List ℕ) (old new : Core) (p q : CompatValue) (w : Window)
    → IsSound old p → HasRoom (facts_of old) old p w → IsLeft old new p q
    → WritesBuffered Cut bytes old new p q (poll.Ready (Err error.OutOfMemory))
short_writes Cut bytes old new p q w s room l = record {
  polled = λ answers d. l;
  sound = sound_left old new p q l s;
  window =
      window_left (facts_of old).write_limit old new p q l;
  others = others_left old new p l.core;
  memory = open_by old p w room;
}

-- ---- before the window

pub unwritable_writes : (Cut : Asking → Type 0) (bytes : List ℕ) (core : Core) (c : CompatValue) → c.file.writable
    ≡ false → IsSound core c
    → WritesBuffered Cut bytes core core c c (poll.Ready (Err (error.IOError kind.NotWritable)))
unwritable_writes Cut bytes core c not_so s =
    record {
      polled = λ answers d. record {
        ends = (λ i. if not (not_so i) then refuse_locally kind.NotWritable (lane_of c) else if length bytes == 0 then
            Done (outcome.Count 0) (lane_of c)
            else with_capacity 0 (file_at c.file) (buffer_of c) (lane_of c) (facts_of core) answers
            (send_next 0 (file_at c.file) bytes (facts_of core) [] answers));
        rest = rest_freed false core c;
      };
      sound = s;
      window = window_same (facts_of core).write_limit c;
      others = others_same core c;
      memory = tt;
    }

pub empty_writes : (Cut : Asking → Type 0) (bytes : List ℕ) (core : Core) (c : CompatValue) → c.file.writable ≡ true
    → (length bytes == 0)
    ≡ true → IsSound core c → WritesBuffered Cut bytes core core c c (poll.Ready (Ok 0))
empty_writes Cut bytes core c may none s =
    record {
      polled = λ answers d. inl (record {
        ends = (λ i. if not (may i) then refuse_locally kind.NotWritable (lane_of c) else if none i then
            Done (outcome.Count 0) (lane_of c)
            else with_capacity 0 (file_at c.file) (buffer_of c) (lane_of c) (facts_of core) answers
            (send_next 0 (file_at c.file) bytes (facts_of core) [] answers));
        rest = rest_freed false core c;
      });
      sound = s;
      window = window_same (facts_of core).write_limit c;
      others = others_same core c;
      memory = tt;
    }
