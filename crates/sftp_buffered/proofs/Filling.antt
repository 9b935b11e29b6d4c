-- What a read into the buffer makes of the buffer and its core, and of its plan.
use Rattle.std.proofs.Common.{
  ◌≡◌,
  ◌≤◌,
  ◌<◌,
  ◌+◌,
  ◌^◌,
  ◌∙◌,
  refl,
  sym,
  ap,
  subst,
  arith,
  ℕ,
  Bool,
  true,
  false,
  List,
  [],
  ◌∷◌,
  ◌++◌,
  Option,
  Some,
  None,
  Result,
  Ok,
  Err,
  inl,
  inr,
  ◌==◌,
  length,
  if◌then◌else◌,
  length-append,
}
use Rattle.std.specs.Prelude.{max, ◌||◌}
use Rattle.std.proofs.lemmas.Bool.Decides.{nat_tests}
use Rattle.sftp_model.specs.Answers.{allows_reply, is_content}
use Rattle.sftp_model.specs.Numbers.{SSH_FX_EOF}
use Rattle.sftp_model.specs.declared.answers.Expected.TheVariants as expected
use Rattle.sftp_model.specs.declared.error.Error.{Error}
use Rattle.sftp_model.specs.declared.error.Error.TheVariants as error
use Rattle.sftp_model.specs.declared.error.Fault.{Fault}
use Rattle.sftp_model.specs.declared.error.IoKind.TheVariants as kind
use Rattle.sftp_model.specs.declared.reply.Reply.{Reply}
use Rattle.sftp_model.specs.declared.reply.Reply.TheVariants as reply
use Rattle.sftp_core.specs.Core.{Core, after_poll, record_at}
use Rattle.sftp_core.proofs.Elsewhere.{poll_elsewhere}
use Rattle.plan_state.specs.Asked.{HoldsTicket, SubmitsAsking}
use Rattle.plan_state.specs.Calls.{IfOutOfMemory}
use Rattle.plan_state.specs.Keeping.{KeepsHeld}
use Rattle.plan_state.specs.declared.submission.Asking.TheVariants.{Whole}
use Rattle.plan_state.specs.declared.poll.Poll.{Poll}
use Rattle.plan_state.specs.declared.poll.Poll.TheVariants as poll
use Rattle.plan_state.proofs.Going.{short_any}
use Rattle.plan_state.proofs.Keeping.{submitted_holds}
use Rattle.plan_state.proofs.OthersKept.{submitted_keeps}
use Rattle.sftp_buffered.specs.declared.file.DeferredWrite.{DeferredWrite}
use Rattle.sftp_buffered.specs.declared.file.ReadUnderWay.{ReadUnderWay}
use Rattle.sftp_buffered.specs.Buffered.{
  AreElsewhere,
  AreHeld,
  AreRising,
  CompatValue,
  IsCounted,
  IsHeldRead,
  IsOther,
  IsSound,
  LeavesOthers,
  len_of,
}
use Rattle.sftp_buffered.specs.Reads.{
  AwaitsFill,
  BeginsRead,
  CanReadOn,
  EndsFill,
  FillsBuffer,
  IsAllowedRead,
  LooksAtRead,
  TookRead,
  with_bytes_appended,
  end_of,
  fill_value,
  read_behind,
  with_read,
  without_read,
}
use Rattle.sftp_buffered.specs.Steps.{read_reply, read_taken}
use Rattle.sftp_buffered.proofs.Others.{others_left, others_polled, others_submitted}
use Rattle.sftp_buffered.proofs.Sound.{apart_read, held_but, sound_left}

-- ---- the reply that was taken

appended_reading : (r : Reply) (c : CompatValue) → (with_bytes_appended r c).reading ≡ c.reading
appended_reading (reply.Content bytes) c = refl
appended_reading (reply.Status code message language) c = refl
appended_reading (reply.Handle handle) c = refl
appended_reading (reply.Version version extensions) c = refl
appended_reading (reply.Names names) c = refl
appended_reading (reply.Attrs attrs) c = refl
appended_reading (reply.Extended content) c = refl

value_stops : (code : ℕ) (message language : List ℕ) (e : Error) (b : Bool)
    → (◌≡◌ {A = Result (Unit {0}) Error} (Err e) (if b then Ok tt else Err (error.SftpError code message language)))
    → e ≡ error.SftpError code message language
value_stops code message language e true is = absurd cc
value_stops code message language e false is = cc

-- it says no want of memory, and no fault
no_memory : (r : Reply) → Err error.OutOfMemory ≡ fill_value r → ⊥
no_memory (reply.Status code message language) is = (let same : error.OutOfMemory
    ≡ error.SftpError code message language = value_stops code message language error.OutOfMemory (code == SSH_FX_EOF)
    is in cc)
no_memory (reply.Content bytes) is = cc
no_memory other is = cc

no_fault : (r : Reply) (f : Fault) → Err (error.BackgroundTaskFailure f) ≡ fill_value r → ⊥
no_fault (reply.Status code message language) f is =
    (let same : error.BackgroundTaskFailure f ≡ error.SftpError code message language =
    value_stops code message language (error.BackgroundTaskFailure f) (code == SSH_FX_EOF) is in cc)
no_fault (reply.Content bytes) f is = cc
no_fault other f is = cc

took_value : (old new : Core) (p q : CompatValue) (value : Result (Unit {0}) Error) → TookRead old new p q value
    → AwaitsFill old new p q (poll.Ready value)
took_value old new p q (Ok u) t = t
took_value old new p q (Err error.OutOfMemory) t = absurd (no_memory t.reply t.says)
took_value old new p q (Err (error.BackgroundTaskFailure f)) t = absurd (no_fault t.reply f t.says)
took_value old new p q (Err e) t = t

took_at : (old new : Core) (p m q : CompatValue) (value : Result (Unit {0}) Error) (read : Option ReadUnderWay)
    → p.reading ≡ read → (read ≡ None → ⊥) → (r : Reply) → read_reply old read ≡ Some r → m ≡ with_bytes_appended r p
    → IsAllowedRead old read
    → value ≡ fill_value r → q ≡ without_read m → new ≡ read_taken old read → EndsFill old new p q (poll.Ready value)
took_at old new p m q value None is some r came made allowed says left core = absurd (some refl)
took_at old new p m q value (Some read) is some r came made allowed says left core =
    record {
      read = read;
      under_way = is;
      awaits = took_value old new p q value (record {
        read = read;
        under_way = is;
        reply = r;
        came = came;
        allowed = allowed r came;
        says = says;
        left = left ∙ ap without_read made;
        core = core;
      });
    }

pub took_by : (old new : Core) (p m q : CompatValue) (value : Result (Unit {0}) Error) → (p.reading ≡ None → ⊥)
    → LooksAtRead old p m (poll.Ready (Ok tt)) → IsAllowedRead old m.reading
    → ((r : Reply) → read_reply old m.reading ≡ Some r → value ≡ fill_value r) → q ≡ without_read m → new
    ≡ read_taken old m.reading → EndsFill old new p q (poll.Ready value)
took_by old new p m q value some looks allowed says left core =
    let same : m.reading ≡ p.reading = ap (λ (c : CompatValue). c.reading) looks.2 ∙ appended_reading looks.0 p in
    took_at old new p m q value p.reading refl some looks.0 looks.1 looks.2 (subst (IsAllowedRead old) same allowed)
    (says looks.0 (ap (read_reply old) same ∙ looks.1)) left (core ∙ ap (read_taken old) same)

-- ---- what holds afterwards

rising_more : (from : ℕ) (ds : List DeferredWrite) (to : ℕ) → AreRising from ds to → AreRising from ds (to + 1)
rising_more from [] to h = omega (arith, h)
rising_more from (d ∷ ds) to h = (h.0, rising_more (d.place + 1) ds to h.1)

rising_below : (from : ℕ) (ds : List DeferredWrite) (to : ℕ) → AreRising from ds to → from ≤ to
rising_below from [] to h = h
rising_below from (d ∷ ds) to h = (let below : d.place + 1 ≤ to = rising_below (d.place + 1) ds to h.1 in
    omega (arith, below, h.0))

pub rising_elsewhere : (from : ℕ) (ds : List DeferredWrite) (to : ℕ) → AreRising from ds to → AreElsewhere to ds
rising_elsewhere from [] to h = tt
rising_elsewhere from (d ∷ ds) to h = (
  let below : d.place + 1 ≤ to = rising_below (d.place + 1) ds to h.1 in λ same. omega (arith, below, same),
  rising_elsewhere (d.place + 1) ds to h.1,
)

held_all : (old new : Core) (ds : List DeferredWrite) → KeepsHeld old new → AreHeld old ds → AreHeld new ds
held_all old new [] k held = tt
held_all old new (d ∷ ds) k held = (k.holds d.ticket expected.Status held.0, held.1, held_all old new ds k held.2)

begun_sound : (old new : Core) (p : CompatValue) (len ticket : ℕ) → IsSound old p → end_of p + len < 2 ^ 64
    → SubmitsAsking old (Whole (read_behind p len)) ticket new → IsSound new (with_read p len ticket)
begun_sound old new p len ticket s fits submitted =
    record {
      held = record {
        writes = held_all old new p.deferred (submitted_keeps old new (Whole (read_behind p len)) ticket submitted)
            s.held.writes;
        read = submitted_holds old new (Whole (read_behind p len)) ticket (expected.Content len) submitted refl;
      };
      counted = record {
        pending = s.counted.pending;
        rising = rising_more 1 p.deferred p.place s.counted.rising;
        placed = (
          rising_below 1 p.deferred p.place s.counted.rising,
          omega arith,
          rising_elsewhere 1 p.deferred p.place s.counted.rising,
        );
        ends = fits;
        capacity = s.counted.capacity;
      };
    }

pub content_fits : (len : ℕ) (bytes : List ℕ) → (is_content len (reply.Content bytes) || false) ≡ true → length bytes ≤ len
content_fits len bytes fits = grind (arith, nat_tests)

pub content_some : (len : ℕ) (bytes : List ℕ) → (is_content len (reply.Content bytes) || false) ≡ true
    → 0 < length bytes
content_some len bytes fits = grind (arith, nat_tests)

ends_appended : (offset len : ℕ) (xs ys : List ℕ) → offset + length xs + len < 2 ^ 64 → length ys ≤ len
    → offset + length (xs ++ ys) + 0 < 2 ^ 64
ends_appended offset len xs ys ends fits = (let sum : length (xs ++ ys) ≡ length xs + length ys = length-append xs ys in
    omega (arith, sum, ends, fits))

less_ends : (a b : ℕ) → a + b < 2 ^ 64 → a + 0 < 2 ^ 64
less_ends a b ends = omega (arith, ends)

most_is : (a b : ℕ) → b ≤ max a b
most_is a b = omega arith

counted_without_read : (c : CompatValue) → IsCounted c → IsCounted (without_read c)
counted_without_read c k = record {
  pending = k.pending;
  rising = k.rising;
  placed = tt;
  ends =
      less_ends (end_of c) (len_of c.reading) k.ends;
  capacity = k.capacity;
}

counted_took : (c : CompatValue) (read : ReadUnderWay) (r : Reply) → c.reading ≡ Some read
    → allows_reply (expected.Content read.len) r ≡ true → IsCounted c
    → IsCounted (without_read (with_bytes_appended r c))
counted_took c read (reply.Content bytes) is allowed k =
    record {
      pending = k.pending;
      rising = k.rising;
      placed = tt;
      ends = ends_appended c.file.offset read.len c.buffered bytes
          (subst (λ (x : Option ReadUnderWay). c.file.offset + length c.buffered + len_of x < 2 ^ 64) is k.ends)
          (content_fits read.len bytes allowed);
      capacity = most_is c.capacity (length (c.buffered ++ bytes));
    }
counted_took c read (reply.Status code message language) is allowed k = counted_without_read c k
counted_took c read (reply.Handle handle) is allowed k = counted_without_read c k
counted_took c read (reply.Version version extensions) is allowed k = counted_without_read c k
counted_took c read (reply.Names names) is allowed k = counted_without_read c k
counted_took c read (reply.Attrs attrs) is allowed k = counted_without_read c k
counted_took c read (reply.Extended content) is allowed k = counted_without_read c k

pub appended_deferred : (r : Reply) (c : CompatValue) → (with_bytes_appended r c).deferred ≡ c.deferred
appended_deferred (reply.Content bytes) c = refl
appended_deferred (reply.Status code message language) c = refl
appended_deferred (reply.Handle handle) c = refl
appended_deferred (reply.Version version extensions) c = refl
appended_deferred (reply.Names names) c = refl
appended_deferred (reply.Attrs attrs) c = refl
appended_deferred (reply.Extended content) c = refl

took_sound : (old new : Core) (p q : CompatValue) (value : Result (Unit {0}) Error) → IsSound old p
    → TookRead old new p q value → IsSound new q
took_sound old new p q value s t =
    let read : HoldsTicket old t.read.ticket (expected.Content t.read.len) =
    subst (IsHeldRead old) t.under_way s.held.read in
    let writes : AreHeld (after_poll old t.read.ticket) p.deferred =
    held_but old (after_poll old t.read.ticket) t.read.ticket p.deferred
    (λ k. poll_elsewhere old t.read.ticket old.fault (record_at old t.read.ticket) k)
    (apart_read old t.read p.deferred read s.held.writes) s.held.writes in
    let next : IsSound (after_poll old t.read.ticket) (without_read (with_bytes_appended t.reply p)) = record {
      held = record {
        writes = subst (AreHeld (after_poll old t.read.ticket)) (sym (appended_deferred t.reply p))
            writes;
        read = tt;
      };
      counted = counted_took p t.read t.reply t.under_way t.allowed s.counted;
    } in
    subst (λ (x : CompatValue). IsSound new x) (sym t.left) (subst
    (λ (x : Core). IsSound x (without_read (with_bytes_appended t.reply p))) (sym t.core) next)

begins_sound : (len : ℕ) (old new : Core) (p q : CompatValue) (result : Poll (Result (Unit {0}) Error)) → IsSound old p
    → BeginsRead len old new p q result → IsSound new q
begins_sound len old new p q poll.Pending s b = subst (λ (x : CompatValue). IsSound new x) (sym b.3)
    (begun_sound old new p len b.1 s b.0 b.2)
begins_sound len old new p q (poll.Ready (Ok u)) s b = absurd b
begins_sound len old new p q (poll.Ready (Err error.OutOfMemory)) s b = sound_left old new p q b s
begins_sound len old new p q (poll.Ready (Err (error.BackgroundTaskFailure fault))) s b = sound_left old new p q b.2 s
begins_sound len old new p q (poll.Ready (Err (error.IOError kind.OffsetOverflow))) s b = sound_left old new p q b.1 s
begins_sound len old new p q (poll.Ready (Err other)) s b = absurd b

awaits_sound : (old new : Core) (p q : CompatValue) (result : Poll (Result (Unit {0}) Error)) → IsSound old p
    → AwaitsFill old new p q result → IsSound new q
awaits_sound old new p q poll.Pending s a = sound_left old new p q a.2 s
awaits_sound old new p q (poll.Ready (Ok u)) s a = took_sound old new p q (Ok u) s a
awaits_sound old new p q (poll.Ready (Err error.OutOfMemory)) s a = sound_left old new p q a.1 s
awaits_sound old new p q (poll.Ready (Err (error.BackgroundTaskFailure fault))) s a = sound_left old new p q a.2 s
awaits_sound old new p q (poll.Ready (Err e)) s a = took_sound old new p q (Err e) s a

pub fills_sound : (len : ℕ) (old new : Core) (p q : CompatValue) (result : Poll (Result (Unit {0}) Error))
    → IsSound old p → FillsBuffer len old new p q result → IsSound new q
fills_sound len old new p q result s (inl b) = begins_sound len old new p q result s b.begins
fills_sound len old new p q result s (inr e) = awaits_sound old new p q result s e.awaits

-- ---- what is left to others

took_others : (old new : Core) (p q : CompatValue) (value : Result (Unit {0}) Error) → IsSound old p
    → TookRead old new p q value → LeavesOthers old new p
took_others old new p q value s t =
    let read : HoldsTicket old t.read.ticket (expected.Content t.read.len) =
    subst (IsHeldRead old) t.under_way s.held.read in
    subst (λ (x : Core). LeavesOthers old x p) (sym t.core)
    (others_polled old t.read.ticket p read.counted (λ other apart. subst (IsOther other) t.under_way apart.read))

begins_others : (len : ℕ) (old new : Core) (p q : CompatValue) (result : Poll (Result (Unit {0}) Error))
    → BeginsRead len old new p q result → LeavesOthers old new p
begins_others len old new p q poll.Pending b = others_submitted old new (Whole (read_behind p len)) b.1 p b.2
begins_others len old new p q (poll.Ready (Ok u)) b = absurd b
begins_others len old new p q (poll.Ready (Err error.OutOfMemory)) b = others_left old new p b.core
begins_others len old new p q (poll.Ready (Err (error.BackgroundTaskFailure fault))) b = others_left old new p b.2.core
begins_others len old new p q (poll.Ready (Err (error.IOError kind.OffsetOverflow))) b = others_left old new p b.1.core
begins_others len old new p q (poll.Ready (Err other)) b = absurd b

awaits_others : (old new : Core) (p q : CompatValue) (result : Poll (Result (Unit {0}) Error)) → IsSound old p
    → AwaitsFill old new p q result → LeavesOthers old new p
awaits_others old new p q poll.Pending s a = others_left old new p a.2.core
awaits_others old new p q (poll.Ready (Ok u)) s a = took_others old new p q (Ok u) s a
awaits_others old new p q (poll.Ready (Err error.OutOfMemory)) s a = others_left old new p a.1.core
awaits_others old new p q (poll.Ready (Err (error.BackgroundTaskFailure fault))) s a = others_left old new p a.2.core
awaits_others old new p q (poll.Ready (Err e)) s a = took_others old new p q (Err e) s a

pub fills_others : (len : ℕ) (old new : Core) (p q : CompatValue) (result : Poll (Result (Unit {0}) Error))
    → IsSound old p → FillsBuffer len old new p q result → LeavesOthers old new p
fills_others len old new p q result s (inl b) = begins_others len old new p q result b.begins
fills_others len old new p q result s (inr e) = awaits_others old new p q result s e.awaits

-- ---- out of memory

awaits_memory : (old new : Core) (p q : CompatValue) (result : Poll (Result (Unit {0}) Error))
    → AwaitsFill old new p q result → IfOutOfMemory result (CanReadOn old p.reading)
awaits_memory old new p q poll.Pending a = tt
awaits_memory old new p q (poll.Ready (Ok u)) a = tt
awaits_memory old new p q (poll.Ready (Err error.OutOfMemory)) a = inr a.0
awaits_memory old new p q (poll.Ready (Err e)) a = tt

pub fills_memory : (len : ℕ) (old new : Core) (p q : CompatValue) (result : Poll (Result (Unit {0}) Error))
    → FillsBuffer len old new p q result → IfOutOfMemory result (CanReadOn old p.reading)
fills_memory len old new p q result (inl b) = short_any result (CanReadOn old p.reading) (inl b.none)
fills_memory len old new p q result (inr e) = awaits_memory old new p q result e.awaits

pub memory_as : (e : Error) (P : Type 0) → IfOutOfMemory {V = Unit {0}} (poll.Ready (Err e)) P
    → IfOutOfMemory {V = ℕ} (poll.Ready (Err e)) P
memory_as error.OutOfMemory P h = h
memory_as other P h = tt
