-- What a call asks next is within the range, but for a whole read, whose own requests tell that.
use Rattle.std.proofs.Common.{
  ◌≡◌,
  ◌+◌,
  ◌<◌,
  ◌≤◌,
  ◌^◌,
  ◌-◌,
  ◌==◌,
  ◌++◌,
  refl,
  arith,
  drop,
  length,
  ℕ,
  Bool,
  true,
  false,
  List,
  [],
  ◌∷◌,
  Option,
  Some,
  None,
  if◌then◌else◌,
}
use Rattle.std.specs.Prelude.{min, not}
use Rattle.std.proofs.lemmas.Bool.Decides.{nat_tests}
use Rattle.sftp_model.specs.declared.error.IoKind.TheVariants as kind
use Rattle.sftp_model.specs.declared.outcome.Outcome.TheVariants as outcome
use Rattle.sftp_model.specs.declared.reply.NameEntry.{NameEntry}
use Rattle.sftp_model.specs.declared.reply.Reply.{Reply}
use Rattle.sftp_model.specs.declared.reply.Reply.TheVariants as reply
use Rattle.sftp_model.specs.declared.request.Request.TheVariants as request
use Rattle.sftp_model.specs.declared.slot.Buffer.{Buffer}
use Rattle.sftp_model.specs.declared.slot.Facts.{Facts}
use Rattle.sftp_model.specs.declared.slot.FileAt.{FileAt}
use Rattle.sftp_model.specs.declared.slot.Move.{Move}
use Rattle.sftp_model.specs.declared.slot.Move.TheVariants.{Ask, Done}
use Rattle.sftp_model.specs.declared.slot.Site.{Site}
use Rattle.sftp_model.specs.declared.slot.Slot.{Slot}
use Rattle.sftp_model.specs.declared.slot.Slot.TheVariants.{Empty, File, Buffered}
use Rattle.sftp_model.specs.Answers.{is_end_of_file}
use Rattle.sftp_model.specs.Slots.{slot_at, with_slot}
use Rattle.plan_model.specs.BufferPlans.{ask_deferred, buffered_rest, flush_next, is_full, taken_out, with_capacity, with_deferred, without_reading}
use Rattle.plan_model.specs.FilePlans.{opened_move, opened_file}
use Rattle.plan_model.specs.GoodMoves.{ReadsWithin}
use Rattle.plan_model.specs.Moves.{Answers, ask_read, ask_write, further, handle_of, on_buffered, on_content, on_handle, on_status, overflows, refusal_move, refuse_locally}
use Rattle.plan_model.specs.TransferPlans.{FileKeeper, missing_next, part_len, rest_next}
use Rattle.plan_model.specs.WholePlans.{entries_next, nowhere, on_names, to_replace}
use Rattle.plan_runner.specs.declared.next.EndsBy.{EndsBy}
use Rattle.plan_runner.specs.declared.next.EndsBy.TheVariants as by
use Rattle.plan_runner.specs.declared.next.Running.{Running}
use Rattle.plan_runner.specs.declared.next.Running.TheVariants as running
use Rattle.plan_runner.specs.Buffers.{flushed_after, room_made, sent_next}
use Rattle.plan_runner.specs.Runners.{after, ended_by, keep_in, with_reply}
use Rattle.plan_runner.specs.Sound.{AsksWithin}

-- ---- moves

pub either_within : (facts : Facts) (b : Bool) (x y : Move) → ReadsWithin facts x → ReadsWithin facts y
    → ReadsWithin facts (if b then x else y)
either_within facts true x y h k = h
either_within facts false x y h k = k

pub refused_within : (facts : Facts) (y : Reply) (site : Site) → ReadsWithin facts (refusal_move y site)
refused_within facts (reply.Status code message language) site = tt
refused_within facts other site = tt

status_within : (facts : Facts) (y : Reply) (site : Site) (go : Move) → ReadsWithin facts go
    → ReadsWithin facts (on_status y site go)
status_within facts (reply.Status code message language) site go h =
    either_within facts (code == 0) go (refusal_move (reply.Status code message language) site) h tt
status_within facts other site go h = tt

content_within : (facts : Facts) (y : Reply) (site : Site) (ended : Move) (go : List ℕ → Move) → ReadsWithin facts ended
    → ((bytes : List ℕ) → ReadsWithin facts (go bytes)) → ReadsWithin facts (on_content y site ended go)
content_within facts (reply.Content bytes) site ended go h k = k bytes
content_within facts other site ended go h k = either_within facts (is_end_of_file other) ended
    (refusal_move other site) h (refused_within facts other site)

pub handle_within : (facts : Facts) (y : Reply) (site : Site) (go : List ℕ → Move)
    → ((handle : List ℕ) → ReadsWithin facts (go handle)) → ReadsWithin facts (on_handle y site go)
handle_within facts (reply.Handle handle) site go h = h handle
handle_within facts other site go h = refused_within facts other site

names_within : (facts : Facts) (y : Reply) (site : Site) (ended : Move) (go : List NameEntry → Move)
    → ReadsWithin facts ended → ((names : List NameEntry) → ReadsWithin facts (go names))
    → ReadsWithin facts (on_names y site ended go)
names_within facts (reply.Names []) site ended go h k = h
names_within facts (reply.Names (entry ∷ entries)) site ended go h k = k (entry ∷ entries)
names_within facts other site ended go h k = either_within facts (is_end_of_file other) ended (refusal_move other site)
    h (refused_within facts other site)

ended_within : (facts : Facts) (ends : EndsBy) (site : Site) (y : Reply) → ReadsWithin facts (ended_by ends site y)
ended_within facts by.Status site y = status_within facts y site (Done outcome.Done site) tt
ended_within facts by.Attributes site (reply.Attrs attrs) = tt
ended_within facts by.Attributes site other = refused_within facts other site
ended_within facts by.FirstName site (reply.Names (entry ∷ entries)) = tt
ended_within facts by.FirstName site other = refused_within facts other site

write_within : (facts : Facts) (file : FileAt) (bytes : List ℕ) (site : Site) (answers : Answers)
    → ReadsWithin facts (ask_write file bytes site answers)
write_within facts file bytes site answers =
    either_within facts (not file.writable) (refuse_locally kind.NotWritable site) _ tt
    (either_within facts (overflows file.offset (length bytes)) (refuse_locally kind.OffsetOverflow site)
    (Ask (request.Write (handle_of (answers file.grant)) file.offset bytes)) tt tt)

read_within : (facts : Facts) (file : FileAt) (len : ℕ) (site : Site) (answers : Answers) → len ≤ facts.read_len
    → ReadsWithin facts (ask_read file len site answers)
read_within facts file len site answers most =
    either_within facts (not file.readable) (refuse_locally kind.NotReadable site)
    (if overflows file.offset len then refuse_locally kind.OffsetOverflow site else read) tt
    (by_room (overflows file.offset len) refl)
  where
    read : Move
    read = Ask (request.Read (handle_of (answers file.grant)) file.offset len)

    by_room : (b : Bool) → overflows file.offset len ≡ b → ReadsWithin facts
        (if b then refuse_locally kind.OffsetOverflow site else read)
    by_room true e = tt
    by_room false e = (let ends : file.offset + len < 2 ^ 64 = grind (arith, nat_tests) in ends, most)

-- ---- the rest of a call

missing_within : (facts : Facts) (slot : ℕ) (file : FileAt) (got : List ℕ) (n : ℕ) (site : Site) (answers : Answers)
    → ReadsWithin facts (missing_next slot file got n site facts [] answers)
missing_within facts slot file got n site answers =
    either_within facts (n == 0) (Done (outcome.Bytes got) site) (ask_read file (min n facts.read_len) site answers) tt
    (read_within facts file (min n facts.read_len) site answers (omega arith))

rest_within : (facts : Facts) (keep : FileKeeper) (file : FileAt) (bytes : List ℕ) (site : Site) (answers : Answers)
    → ReadsWithin facts (rest_next keep file bytes site facts [] answers)
rest_within facts keep file bytes site answers = either_within facts (length bytes == 0) (Done outcome.Done site) _ tt
    (write_within facts file _ site answers)

entries_within : (facts : Facts) (handle : List ℕ) (got : List NameEntry) (bound : ℕ) (site : Site) (answers : Answers)
    → ReadsWithin facts (entries_next handle got bound site [] answers)
entries_within facts handle got bound site answers = either_within facts (bound == 0) (Done outcome.GivenUp site)
    (Ask (request.Readdir handle)) tt tt

abbrev pub none : Answers
none place = None

flush_within : (facts : Facts) (slot : ℕ) (file : FileAt) (buffer : Buffer) (site : Site) (writes : List (ℕ × ℕ))
    → ReadsWithin facts (flush_next slot file buffer site none writes)
flush_within facts slot file buffer site [] = tt
flush_within facts slot file buffer site (write ∷ writes) = tt

flushed_within : (facts : Facts) (slot : ℕ) (file : FileAt) (buffer : Buffer) (site : Site) (writes : List (ℕ × ℕ))
    (y : Reply) → ReadsWithin facts (flushed_after slot file buffer site writes y none)
flushed_within facts slot file buffer site [] y = tt
flushed_within facts slot file buffer site (write ∷ writes) y =
    status_within facts y (with_deferred slot file buffer site writes)
    (flush_next slot file buffer (with_deferred slot file buffer site writes) none writes)
    (flush_within facts slot file buffer (with_deferred slot file buffer site writes) writes)

sent_within : (facts : Facts) (slot : ℕ) (start : Option ℕ) (file : FileAt) (bytes : List ℕ) (buffer : Buffer)
    (site : Site) → ReadsWithin facts (sent_next slot start file bytes facts [] none buffer site)
sent_within facts slot None file bytes buffer site = write_within facts file _ site none
sent_within facts slot (Some done) file bytes buffer site = write_within facts file _ site none

room_within : (facts : Facts) (slot : ℕ) (start : Option ℕ) (file : FileAt) (bytes : List ℕ) (buffer : Buffer)
    (site : Site) (writes : List (ℕ × ℕ)) (y : Reply) → ReadsWithin facts
    (room_made slot file buffer site writes y (sent_next slot start file bytes facts [] none))
room_within facts slot start file bytes buffer site [] y = tt
room_within facts slot start file bytes buffer site (write ∷ writes) y =
    status_within facts y (with_deferred slot file buffer site writes)
    (sent_next slot start file bytes facts [] none (record buffer { deferred = writes })
    (with_deferred slot file buffer site writes))
    (sent_within facts slot start file bytes (record buffer { deferred = writes })
    (with_deferred slot file buffer site writes))

taken_within : (facts : Facts) (slot : ℕ) (file : FileAt) (buffer : Buffer) (site : Site) (writes : List (ℕ × ℕ))
    (go : Buffer → Site → Move) → ReadsWithin facts (go buffer site)
    → ReadsWithin facts (taken_out slot file buffer site none writes go)
taken_within facts slot file buffer site [] go h = h
taken_within facts slot file buffer site (write ∷ writes) go h = tt

left_within : (facts : Facts) (slot : ℕ) (bytes : List ℕ) (file : FileAt) (buffer : Buffer) (site : Site)
    → ReadsWithin facts (buffered_rest slot bytes file buffer site facts [] none)
left_within facts slot bytes file buffer site =
    either_within facts (length bytes == 0) (Done outcome.Done site) _ tt
    (either_within facts (not file.writable) (refuse_locally kind.NotWritable site)
    (with_capacity slot file buffer site facts none (ask_deferred file bytes facts none)) tt
    (either_within facts (is_full facts buffer) (taken_out slot file buffer site none buffer.deferred
    (ask_deferred file bytes facts none)) (ask_deferred file bytes facts none buffer site)
    (taken_within facts slot file buffer site buffer.deferred (ask_deferred file bytes facts none)
    (write_within facts file _ site none)) (write_within facts file _ site none)))

-- ---- by the call

pub replied_within : (facts : Facts) (site : Site) (y : Option Reply) (go : Reply → Move)
    → ((x : Reply) → ReadsWithin facts (go x)) → ReadsWithin facts (with_reply site y go)
replied_within facts site None go h = tt
replied_within facts site (Some x) go h = h x

held_within : (facts : Facts) (slot : Slot) (site : Site) (go : FileAt → Buffer → Move)
    → ((file : FileAt) (buffer : Buffer) → ReadsWithin facts (go file buffer))
    → ReadsWithin facts (on_buffered slot site go)
held_within facts Empty site go h = tt
held_within facts (File file) site go h = tt
held_within facts (Buffered file buffer) site go h = h file buffer

-- whether it is a whole read
abbrev pub reads_whole : Running → Bool
reads_whole (running.OpeningToRead place bound) = true
reads_whole (running.ReadingWhole grant bound window) = true
reads_whole other = false

by_call : (r : Running) (bytes : List ℕ) (site : Site) (facts : Facts) (y : Option Reply) → reads_whole r ≡ false
    → ReadsWithin facts (after r bytes site facts y [] none)
by_call (running.Ending place ends) bytes site facts y other =
    replied_within facts site y (ended_by ends site) (λ x. ended_within facts ends site x)
by_call (running.Opening place slot flags) bytes site facts y other =
    replied_within facts site y (opened_move slot flags site place) (λ x. handle_within facts x site _ (λ handle. tt))
by_call (running.Reading place slot file len) bytes site facts y other =
    replied_within facts site y _ (λ x. content_within facts x site (Done outcome.End site) _ tt (λ content. tt))
by_call (running.Gathering place slot file got left len) bytes site facts y other =
    replied_within facts site y _ (λ x. content_within facts x site (refuse_locally kind.UnexpectedEof site) _ tt
    (λ content. missing_within facts slot (further file (length content)) (got ++ content) (left - length content)
    (with_slot site slot (File (further file (length content)))) none))
by_call (running.Sending place slot file len) bytes site facts y other =
    replied_within facts site y _ (λ x. status_within facts x site _ tt)
by_call (running.Writing place slot file done) bytes site facts y other =
    replied_within facts site y _ (λ x. status_within facts x site _
    (rest_within facts (keep_in slot) (further file (part_len facts (drop done bytes)))
    (drop (part_len facts (drop done bytes)) (drop done bytes))
    (keep_in slot (further file (part_len facts (drop done bytes))) site) none))
by_call (running.OpeningToWrite place) bytes site facts y other =
    replied_within facts site y _ (λ x. handle_within facts x site _
    (λ handle. rest_within facts nowhere (opened_file to_replace place) bytes site none))
by_call (running.OpeningToRead place bound) bytes site facts y other = absurd cc
by_call (running.ReadingWhole grant bound window) bytes site facts y other = absurd cc
by_call (running.OpeningDirectory place bound) bytes site facts y other =
    replied_within facts site y _ (λ x. handle_within facts x site _
    (λ handle. entries_within facts [] [] bound site none))
by_call (running.Listing place grant got bound) bytes site facts y other =
    replied_within facts site y _ (λ x. names_within facts x site (Done (outcome.Names got) site) _ tt
    (λ names. entries_within facts [] (got ++ names) (bound - 1) site none))
by_call (running.Flushing slot) bytes site facts y other = held_within facts (slot_at site slot) site _
    (λ file buffer. replied_within facts site y _ (λ x. flushed_within facts slot file buffer site buffer.deferred x))
by_call (running.AwaitingRoom slot start) bytes site facts y other =
    held_within facts (slot_at site slot) site _ (λ file buffer. replied_within facts site y _
    (λ x. room_within facts slot start file bytes buffer site buffer.deferred x))
by_call (running.Deferred slot count) bytes site facts y other = tt
by_call (running.DeferringRest slot done) bytes site facts y other =
    held_within facts (slot_at site slot) site _ (λ file buffer. left_within facts slot (drop done bytes) file buffer
    site)
by_call (running.FillingBuffer slot n offset own) bytes site facts y other =
    held_within facts (slot_at site slot) site _ (λ file buffer. replied_within facts site y _
    (λ x. content_within facts x (without_reading slot file buffer site)
    (Done outcome.End (without_reading slot file buffer site)) _ tt (λ content. tt)))
by_call (running.Copying place from to source target len) bytes site facts y other =
    replied_within facts site y _ (λ x. status_within facts x site _ tt)

pub others_within : (r : Running) (bytes : List ℕ) (site : Site) (facts : Facts) (y : Option Reply) → reads_whole r
    ≡ false → AsksWithin facts (after r bytes site facts y)
others_within r bytes site facts y other = record { answers = none; within = by_call r bytes site facts y other }
