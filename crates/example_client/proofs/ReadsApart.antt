-- Whole reads in flight at once: their numbers, and what the calls of one leave to the others.
use Rattle.std.proofs.Common.{◌≡◌, List, ℕ, [], ◌∷◌, ◌++◌, false, true, refl, subst, sym, inl, inr}
use Rattle.std.specs.Prelude.{◌⊎◌, Some, None, Ok, Result}
use Rattle.bytes.specs.Filled.{Filled}
use Rattle.sftp_model.specs.declared.answers.Expected.{Expected}
use Rattle.sftp_model.specs.declared.answers.Expected.TheVariants as expected
use Rattle.sftp_model.specs.declared.error.Error.{Error}
use Rattle.sftp_model.specs.declared.slot.Site.{Site}
use Rattle.plan_model.specs.Moves.{Answers, Plan}
use Rattle.plan_model.specs.WindowPlans.{fs_read_next}
use Rattle.sftp_core.specs.Core.{Core, record_at}
use Rattle.sftp_core.specs.declared.id_record.IdRecord.{IdRecord}
use Rattle.sftp_core.specs.declared.id_record.IdRecord.TheVariants as record_of
use Rattle.plan_state.specs.Asked.{HoldsTicket, IsReady}
use Rattle.plan_state.specs.Calls.{IsHeldAt, IsNoneOfCall}
use Rattle.plan_state.specs.Keeping.{KeepsHeld, SparesOthers}
use Rattle.plan_state.specs.declared.poll.Poll.TheVariants.{Pending, Ready as PollReady}
use Rattle.plan_state.specs.declared.stage.Stage.{Stage}
use Rattle.plan_state.specs.declared.stage.Stage.TheVariants.{Ended, Ready, Unsent, Asked, Came}
use Rattle.plan_state.specs.declared.told.Told.TheVariants as told
use Rattle.plan_window.specs.declared.window.ReadAt.{ReadAt}
use Rattle.sftp_file.specs.Files.{facts_of}
use Rattle.sftp_fs.specs.Grants.{grant_meaning}
use Rattle.sftp_fs.specs.declared.grants.Granting.{Granting}
use Rattle.sftp_fs_read.specs.Tickets.{AreUnderWay, IsNoneOf}
use Rattle.sftp_fs_read.specs.WholeReads.{CancelsRead, FsReadValue, IsNoneOfRead, IsReadHeld, MayRead, ReadOn, ReadOpens, ReadsFrom, is_over, read_dropped}
use Rattle.sftp_fs_read.specs.declared.fs_read.Whole.{Whole}
use Rattle.sftp_fs_read.specs.declared.fs_read.Whole.TheVariants as whole
use Rattle.sftp_fs_read.proofs.ReadEnds.{read_still}
use Rattle.sftp_client.specs.declared.walk_entry.WalkEntry.{WalkEntry}
use Rattle.example_client.specs.Downloads.{AreApart, AreReadsHeld, IsApartFromAll, IsOneOf, IsOneOfCall, IsOneOfRead}
use Rattle.example_client.specs.declared.downloads.Reading.{Reading}

-- ---- a read's numbers are held

-- the core holds a grant or a ticket under the number
IsHeldUnder : Core → ℕ → Type 0
IsHeldUnder core id =
    ((handle : List ℕ) × ((users : ℕ) × (record_at core id ≡ Some (record_of.Granted handle users))))
    ⊎ ((kind : Expected) × HoldsTicket core id kind)

stage_held : (core : Core) (m : Granting) (stage : Stage) (id : ℕ) → IsHeldAt grant_meaning core m stage
    → IsOneOfCall stage id → IsHeldUnder core id
unfolding IsHeldUnder
stage_held core m (Asked ticket) id h is =
    inr (expected.Handle, subst (λ (n : ℕ). HoldsTicket core n expected.Handle) (sym is) h)
stage_held core m (Came (told.Granted g)) id h is =
    inl (g.handle, (1, subst (λ (n : ℕ). record_at core n ≡ Some (record_of.Granted g.handle 1)) (sym is) h.counted))
stage_held core m (Came (told.Reply r)) id h is = absurd is
stage_held core m Ended id h is = absurd is
stage_held core m Ready id h is = absurd is
stage_held core m (Unsent asking) id h is = absurd is

tickets_held : (core : Core) (reads : List ReadAt) (tickets : List ℕ) (id : ℕ) → AreUnderWay core reads tickets
    → IsOneOf id tickets → IsHeldUnder core id
unfolding IsHeldUnder
tickets_held core [] [] id h is = absurd is
tickets_held core (r ∷ rest) [] id h is = absurd is
tickets_held core [] (ticket ∷ later) id h is = absurd h
tickets_held core (r ∷ rest) (ticket ∷ later) id h (inl is) =
    inr (expected.Content r.len, subst (λ (n : ℕ). HoldsTicket core n (expected.Content r.len)) (sym is) h.0)
tickets_held core (r ∷ rest) (ticket ∷ later) id h (inr is) = tickets_held core rest later id h.2 is

one_held : (core : Core) (p : Whole) (id : ℕ) → IsReadHeld core p → IsOneOfRead p id → IsHeldUnder core id
unfolding IsHeldUnder
one_held core (whole.Opening call facts) id h is = stage_held core call.runner call.stage id h.0.held is
one_held core (whole.Open grant reads tickets) id h (inl is) =
    inl (grant.handle, (1, subst (λ (n : ℕ). record_at core n ≡ Some (record_of.Granted grant.handle 1)) (sym is) h.0))
one_held core (whole.Open grant reads tickets) id h (inr is) =
    tickets_held core reads.window.waiting tickets.items id h.1 is
one_held core whole.Ended id h is = absurd is

-- ---- reads that are apart

tickets_unless : (tickets : List ℕ) (id : ℕ) → (IsOneOf id tickets → ⊥) → IsNoneOf id tickets
tickets_unless [] id f = tt
tickets_unless (ticket ∷ later) id f = (λ is. f (inl is), tickets_unless later id (λ is. f (inr is)))

call_unless : (stage : Stage) (id : ℕ) → (IsOneOfCall stage id → ⊥) → IsNoneOfCall stage id
call_unless (Asked ticket) id f = f
call_unless (Came (told.Granted g)) id f = f
call_unless (Came (told.Reply r)) id f = tt
call_unless Ended id f = tt
call_unless Ready id f = tt
call_unless (Unsent asking) id f = tt

none_unless : (p : Whole) (id : ℕ) → (IsOneOfRead p id → ⊥) → IsNoneOfRead p id
none_unless (whole.Opening call facts) id f = call_unless call.stage id f
none_unless (whole.Open grant reads tickets) id f =
    (λ is. f (inl is), tickets_unless tickets.items id (λ is. f (inr is)))
none_unless whole.Ended id f = tt

tickets_clash : (tickets : List ℕ) (id : ℕ) → IsOneOf id tickets → IsNoneOf id tickets → ⊥
tickets_clash [] id is none = absurd is
tickets_clash (ticket ∷ later) id (inl is) none = none.0 is
tickets_clash (ticket ∷ later) id (inr is) none = tickets_clash later id is none.1

call_clash : (stage : Stage) (id : ℕ) → IsOneOfCall stage id → IsNoneOfCall stage id → ⊥
call_clash (Asked ticket) id is none = none is
call_clash (Came (told.Granted g)) id is none = none is
call_clash (Came (told.Reply r)) id is none = absurd is
call_clash Ended id is none = absurd is
call_clash Ready id is none = absurd is
call_clash (Unsent asking) id is none = absurd is

clash : (p : Whole) (id : ℕ) → IsOneOfRead p id → IsNoneOfRead p id → ⊥
clash (whole.Opening call facts) id is none = call_clash call.stage id is none
clash (whole.Open grant reads tickets) id (inl is) none = none.0 is
clash (whole.Open grant reads tickets) id (inr is) none = tickets_clash tickets.items id is none.1
clash whole.Ended id is none = absurd is

apart_back : (p q : Whole) → AreApart p q → AreApart q p
apart_back p q apart id one = none_unless q id (λ other. clash p id one (apart id other))

-- ---- one read over a change that spares its numbers

still_theirs : (old new : Core) (P Q : ℕ → Type 0) (id : ℕ) → SparesOthers old new P Q → P id → IsHeldUnder old id
    → Q id
unfolding IsHeldUnder
still_theirs old new P Q id s theirs (inl here) = (s.grants id here.0 here.1.0 theirs here.1.1).1
still_theirs old new P Q id s theirs (inr here) = (s.tickets id here.0 theirs here.1).1

stage_spared : (old new : Core) (P Q : ℕ → Type 0) (m : Granting) (stage : Stage) → SparesOthers old new P Q
    → ((id : ℕ) → IsOneOfCall stage id → P id) → IsHeldAt grant_meaning old m stage
    → IsHeldAt grant_meaning new m stage
stage_spared old new P Q m (Asked ticket) s f h = (s.tickets ticket expected.Handle (f ticket refl) h).0
stage_spared old new P Q m (Came (told.Granted g)) s f h =
    record {
      allowed = h.allowed;
      formed = h.formed;
      counted = (s.grants g.id g.handle 1 (f g.id refl) h.counted).0;
    }
stage_spared old new P Q m (Came (told.Reply r)) s f h =
    record { allowed = h.allowed; formed = h.formed; counted = tt }
stage_spared old new P Q m Ended s f h = h
stage_spared old new P Q m Ready s f h = h
stage_spared old new P Q m (Unsent asking) s f h = h

tickets_spared : (old new : Core) (P Q : ℕ → Type 0) (reads : List ReadAt) (tickets : List ℕ)
    → SparesOthers old new P Q → ((id : ℕ) → IsOneOf id tickets → P id) → AreUnderWay old reads tickets
    → AreUnderWay new reads tickets
tickets_spared old new P Q [] [] s f h = tt
tickets_spared old new P Q (r ∷ rest) [] s f h = absurd h
tickets_spared old new P Q [] (ticket ∷ later) s f h = absurd h
tickets_spared old new P Q (r ∷ rest) (ticket ∷ later) s f h = (
  (s.tickets ticket (expected.Content r.len) (f ticket (inl refl)) h.0).0,
  h.1,
  tickets_spared old new P Q rest later s (λ id is. f id (inr is)) h.2,
)

read_spared : (old new : Core) (P Q : ℕ → Type 0) (p : Whole) → SparesOthers old new P Q
    → ((id : ℕ) → IsOneOfRead p id → P id) → IsReadHeld old p → IsReadHeld new p
read_spared old new P Q (whole.Opening call facts) s f h = (
  record { over = h.0.over; held = stage_spared old new P Q call.runner call.stage s f h.0.held },
  h.1,
)
read_spared old new P Q (whole.Open grant reads tickets) s f h = (
  (s.grants grant.id grant.handle 1 (f grant.id (inl refl)) h.0).0,
  tickets_spared old new P Q reads.window.waiting tickets.items s (λ id is. f id (inr is)) h.1,
  h.2,
)
read_spared old new P Q whole.Ended s f h = tt

-- ---- the others

others_held : (old new : Core) (p : Whole) (Q : ℕ → Type 0) (reads : List Reading)
    → SparesOthers old new (IsNoneOfRead p) Q → IsApartFromAll p reads → AreReadsHeld old reads
    → AreReadsHeld new reads
others_held old new p Q [] s apart h = tt
others_held old new p Q (r ∷ later) s apart h = (
  h.0,
  (
    read_spared old new (IsNoneOfRead p) Q r.call.stage s apart.0 h.1.0,
    (h.1.1.0, others_held old new p Q later s apart.1 h.1.1.1),
  ),
)

others_apart : (old new : Core) (p q : Whole) (reads : List Reading)
    → SparesOthers old new (IsNoneOfRead p) (IsNoneOfRead q) → IsApartFromAll p reads → AreReadsHeld old reads
    → IsApartFromAll q reads
others_apart old new p q [] s apart h = tt
others_apart old new p q (r ∷ later) s apart h = (
  λ id one.
      still_theirs old new (IsNoneOfRead p) (IsNoneOfRead q) id s (apart.0 id one) (one_held old r.call.stage id h.1.0 one),
  others_apart old new p q later s apart.1 h.1.1.1,
)

pub reads_kept : (old new : Core) (reads : List Reading) → KeepsHeld old new → AreReadsHeld old reads
    → AreReadsHeld new reads
reads_kept old new [] k h = tt
reads_kept old new (r ∷ later) k h =
    (h.0, (read_still old new r.call.stage k h.1.0, (h.1.1.0, reads_kept old new later k h.1.1.1)))

-- ---- a read becomes the last one

apart_last : (p : Whole) (later : List Reading) (last : Reading) → IsApartFromAll p later
    → AreApart p last.call.stage → IsApartFromAll p (later ++ last ∷ [])
apart_last p [] last h one = (one, tt)
apart_last p (r ∷ later) last h one = (h.0, apart_last p later last h.1 one)

reads_more : (core : Core) (reads : List Reading) (last : Reading) → AreReadsHeld core reads
    → is_over last.call.stage ≡ false → IsReadHeld core last.call.stage → IsApartFromAll last.call.stage reads
    → AreReadsHeld core (reads ++ last ∷ [])
reads_more core [] last h over held apart = (over, (held, (tt, tt)))
reads_more core (r ∷ later) last h over held apart = (
  h.0,
  (
    h.1.0,
    (
      apart_last r.call.stage later last h.1.1.0 (apart_back last.call.stage r.call.stage apart.0),
      reads_more core later last h.1.1.1 over held apart.1,
    ),
  ),
)

new_apart : (old new : Core) (q : Whole) (reads : List Reading)
    → SparesOthers old new (λ id. Unit {0}) (IsNoneOfRead q) → AreReadsHeld old reads → IsApartFromAll q reads
new_apart old new q [] s h = tt
new_apart old new q (r ∷ later) s h = (
  λ id one.
      still_theirs old new (λ n. Unit {0}) (IsNoneOfRead q) id s tt (one_held old r.call.stage id h.1.0 one),
  new_apart old new q later s h.1.1.1,
)

-- a lane in which nothing is open
nowhere : Site
nowhere = record { slots = []; directory = [] }

read_begun : (site : Site) (plan : Plan) (answers : Answers) (old new : Core) (stage : Whole)
    → ReadOpens site plan answers old new stage → is_over stage ≡ false
read_begun site plan answers old new (whole.Opening call facts) h = refl
read_begun site plan answers old new (whole.Open grant reads tickets) h = absurd h
read_begun site plan answers old new whole.Ended h = absurd h

-- a read was started
pub reads_started : (old new : Core) (reads : List Reading) (file : WalkEntry) (call : FsReadValue)
    → ReadsFrom file.path [] old new (Ok call) → AreReadsHeld old reads
    → AreReadsHeld new (reads ++ record { file = file; call = call } ∷ [])
unfolding nowhere
reads_started old new reads file call starts h =
    reads_more new reads (record { file = file; call = call }) (reads_kept old new reads starts.keeps h)
    (read_begun nowhere (fs_read_next file.path None nowhere (facts_of old)) (λ place. None) old new call.stage
    (starts.starts nowhere (λ place. None) refl)) starts.held
    (new_apart old new call.stage reads starts.spares h)

-- the first read has no result yet
pub reads_waiting : (old new : Core) (reading : Reading) (after : FsReadValue) (later : List Reading)
    → AreReadsHeld old (reading ∷ later) → ReadOn old new reading.call.stage after.stage Pending
    → AreReadsHeld new (later ++ record { file = reading.file; call = after } ∷ [])
reads_waiting old new reading after later h polls =
    let p = reading.call.stage in
    reads_more new later (record { file = reading.file; call = after })
    (others_held old new p (IsNoneOfRead after.stage) later polls.spares h.1.1.0 h.1.1.1) polls.over polls.held
    (others_apart old new p after.stage later polls.spares h.1.1.0 h.1.1.1)

-- the first read returned a result, and then it was given up
pub reads_ended : (old mid new : Core) (reading : Reading) (ended : FsReadValue) (later : List Reading)
    (result : Result Filled Error) → AreReadsHeld old (reading ∷ later)
    → ReadOn old mid reading.call.stage ended.stage (PollReady result) → CancelsRead mid new ended.stage
    → AreReadsHeld new later
reads_ended old mid new reading ended later result h polls cancels =
    let p = reading.call.stage in
    others_held mid new ended.stage (λ id. Unit {0}) later cancels.spares
    (others_apart old mid p ended.stage later polls.spares h.1.1.0 h.1.1.1)
    (others_held old mid p (IsNoneOfRead ended.stage) later polls.spares h.1.1.0 h.1.1.1)

-- the first read was given up
pub reads_less : (old new : Core) (reading : Reading) (later : List Reading) → AreReadsHeld old (reading ∷ later)
    → CancelsRead old new reading.call.stage → AreReadsHeld new later
reads_less old new reading later h cancels =
    others_held old new reading.call.stage (λ id. Unit {0}) later cancels.spares h.1.1.0 h.1.1.1

-- a read that has returned its result leaves nothing to be given up
pub nothing_dropped : (old new : Core) (stage : Whole) → is_over stage ≡ true → CancelsRead old new stage → new ≡ old
nothing_dropped old new whole.Ended over cancels = cancels.core
nothing_dropped old new (whole.Opening call facts) over cancels = absurd cc
nothing_dropped old new (whole.Open grant reads tickets) over cancels = absurd cc

-- ---- what the first read may do

pub first_held : (core : Core) (reads later : List Reading) (reading : Reading) → AreReadsHeld core reads
    → reads ≡ reading ∷ later → IsReadHeld core reading.call.stage
first_held core reads later reading h is = (subst (λ (l : List Reading). AreReadsHeld core l) is h).1.0

pub may_read_first : (core : Core) (reading : Reading) (later : List Reading) → AreReadsHeld core (reading ∷ later)
    → IsReady core → MayRead core reading.call
may_read_first core reading later h ready = record { over = h.0; held = h.1.0; ready = ready }
