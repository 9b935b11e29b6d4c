-- Each frame that is taken lowers what a core still waits for, so that taking ends.
use Rattle.std.proofs.Common.{◌≡◌, ◌<◌, ◌+◌, ℕ, List, Bool, true, false, Option, Some, None, refl, ap, sym, ◌∙◌, subst, arith}
use Rattle.std.specs.Prelude.{Result, IsSome}
use Rattle.std.specs.FinMap as fin
use Rattle.sftp_model.specs.Answers.{allows_reply}
use Rattle.sftp_model.specs.declared.answers.Expected.{Expected}
use Rattle.sftp_model.specs.declared.answers.Expected.TheVariants as expected
use Rattle.sftp_model.specs.declared.frame_error.FrameError.{FrameError}
use Rattle.sftp_model.specs.declared.reply.Reply.{Reply}
use Rattle.sftp_model.specs.declared.reply.Reply.TheVariants as reply
use Rattle.sftp_core.specs.Core.{Core, record_at, awaited_of, core_after_drop, handed_out, unanswered_of}
use Rattle.sftp_core.specs.Info.{info_of}
use Rattle.sftp_core.specs.Table.{all_sent, asks_handle, handle_in_reply, count, is_owing, is_waiting, tally}
use Rattle.sftp_core.specs.Take.{Read, TakenFrom, core_with_answer, take_leaves, take_refusal, taken_in, wrong_at, wrong_in}
use Rattle.sftp_core.specs.declared.handshake.Handshake.{Handshake}
use Rattle.sftp_core.specs.declared.handshake.Handshake.TheVariants.{Greeting, Asking, Open}
use Rattle.sftp_core.specs.declared.id_record.IdRecord.{IdRecord}
use Rattle.sftp_core.specs.declared.id_record.IdRecord.TheVariants.{Waiting, Answered, Granted}
use Rattle.sftp_core.specs.declared.tokens.Taken.{Taken}
use Rattle.sftp_core.proofs.Counts.{count_owing_sent, count_unsent_sent, count_waiting_sent, waiting_split}
use Rattle.sftp_core.proofs.Tables.{count-insert_old, count-remove}

-- what is still to be answered: the requests without a reply, and the CLOSEs that may yet have to be queued
abbrev pub still_due : Core → ℕ
still_due core = count is_waiting core.table + count is_owing core.table

-- only a request that is answered by a handle may be answered by one
handle_asked : (e : Expected) (r : Reply) (h : List ℕ) → allows_reply e r ≡ true → handle_in_reply r ≡ Some h
    → asks_handle e ≡ true
handle_asked expected.Handle r h may is = refl
handle_asked expected.Version (reply.Handle handle) h may is = absurd cc
handle_asked (expected.Content len) (reply.Handle handle) h may is = absurd cc
handle_asked expected.Names (reply.Handle handle) h may is = absurd cc
handle_asked expected.FirstName (reply.Handle handle) h may is = absurd cc
handle_asked expected.Attrs (reply.Handle handle) h may is = absurd cc
handle_asked expected.Limits (reply.Handle handle) h may is = absurd cc
handle_asked expected.Status (reply.Handle handle) h may is = absurd cc
handle_asked e (reply.Version version extensions) h may is = absurd cc
handle_asked e (reply.Status code message language) h may is = absurd cc
handle_asked e (reply.Content bytes) h may is = absurd cc
handle_asked e (reply.Names names) h may is = absurd cc
handle_asked e (reply.Attrs attrs) h may is = absurd cc
handle_asked e (reply.Extended content) h may is = absurd cc

-- a wanted answer is kept, and the request waits no more
keeps_lower : (core : Core) (id : ℕ) (r : Reply) (e : Expected) → record_at core id ≡ Some (Waiting e true true)
    → still_due (core_with_answer core id r e true) < still_due core
keeps_lower core id r e is =
    let w = count-insert_old is_waiting core.table id (Answered e r) (Waiting e true true) is in
    let o = count-insert_old is_owing core.table id (Answered e r) (Waiting e true true) is in omega (arith, w, o)

-- an unwanted one is dropped, and the CLOSE of its handle queued
drops_lower : (core : Core) (id : ℕ) (r : Reply) (e : Expected) (b : Option (List ℕ)) → record_at core id
    ≡ Some (Waiting e true false)
    → allows_reply e r ≡ true → handle_in_reply r ≡ b → still_due (core_after_drop core id b) < still_due core
drops_lower core id r e (Some h) is may brings_it =
    let owes = handle_asked e r h may brings_it in
    let new = Waiting expected.Status false false in
    let w = count-insert_old is_waiting core.table id new (Waiting e true false) is in
    let o : count is_owing (fin.insert core.table id new) + tally is_owing (Waiting e true false)
    ≡ count is_owing core.table + 0 =
    count-insert_old is_owing core.table id new (Waiting e true false) is in
    let one : tally is_owing (Waiting e true false) ≡ 1 = rw owes refl in omega (arith, w, o, one)
drops_lower core id r e None is may brings_it =
    let w = count-remove is_waiting core.table id (Waiting e true false) is in
    let o = count-remove is_owing core.table id (Waiting e true false) is in omega (arith, w, o)

-- a reply that may answer lowers it
answer_lowers : (core : Core) (id : ℕ) (r : Reply) (p : Option IdRecord) → record_at core id ≡ p → wrong_at id r p
    ≡ None
    → still_due (take_leaves core id r p) < still_due core
answer_lowers core id r (Some (Waiting e true true)) is right = keeps_lower core id r e is
answer_lowers core id r (Some (Waiting e true false)) is right =
    drops_lower core id r e (handle_in_reply r) is (allowed right) refl
  where
    allowed : wrong_at id r (Some (Waiting e true false)) ≡ None → allows_reply e r ≡ true
    allowed none = grind (arith, none)
answer_lowers core id r (Some (Waiting e false wanted)) is right = absurd cc
answer_lowers core id r (Some (Answered e other)) is right = absurd cc
answer_lowers core id r (Some (Granted handle users)) is right = absurd cc
answer_lowers core id r None is right = absurd cc

by_id : (core : Core) (id : Option ℕ) (r : Reply) (phase : Handshake) → IsSome (info_of phase)
    → wrong_in core phase id r ≡ None
    → still_due (taken_in core phase id r) < still_due core
by_id core id r Greeting opened right = absurd cc
by_id core id r (Asking extensions) opened right = absurd cc
by_id core None r (Open info) opened right = absurd cc
by_id core (Some id) r (Open info) opened right = answer_lowers core id r (record_at core id) refl right

-- so does each frame that an open session takes
pub take_lowers : (core new : Core) (read : Result Read FrameError) (told : Taken) → IsSome (info_of core.phase)
    → take_refusal core read ≡ None → TakenFrom read told core new → still_due new < still_due core
take_lowers core new read told opened right taken =
    let no : wrong_in core core.phase taken.reading.0 taken.reading.1 ≡ None = ap (take_refusal core) (sym taken.reads)
    ∙ right in
    subst (λ (c : Core). still_due c < still_due core) (sym taken.leaves)
    (by_id core taken.reading.0 taken.reading.1 core.phase opened no)

-- a session that was open stays so
stays_in : (core : Core) (id : Option ℕ) (r : Reply) (phase : Handshake) → core.phase ≡ phase → IsSome (info_of phase)
    → (taken_in core phase id r).phase ≡ core.phase
stays_in core id r Greeting is opened = absurd cc
stays_in core id r (Asking extensions) is opened = absurd cc
stays_in core None r (Open info) is opened = refl
stays_in core (Some id) r (Open info) is opened = leaves (record_at core id)
  where
    kept : (e : Expected) (wanted : Bool) (b : Option (List ℕ)) → handle_in_reply r ≡ b
        → (core_with_answer core id r e wanted).phase ≡ core.phase
    kept e true b is = refl
    kept e false (Some h) is = rw is refl
    kept e false None is = rw is refl

    leaves : (p : Option IdRecord) → (take_leaves core id r p).phase ≡ core.phase
    leaves (Some (Waiting e sent wanted)) = kept e wanted (handle_in_reply r) refl
    leaves (Some (Answered e other)) = refl
    leaves (Some (Granted handle users)) = refl
    leaves None = refl

pub take_stays_open : (core new : Core) (read : Result Read FrameError) (told : Taken) → IsSome (info_of core.phase)
    → TakenFrom read told core new → IsSome (info_of new.phase)
take_stays_open core new read told opened taken =
    let same : new.phase ≡ core.phase = ap (λ (c : Core). c.phase) taken.leaves
    ∙ stays_in core taken.reading.0 taken.reading.1 core.phase refl opened in
    subst (λ (p : Handshake). IsSome (info_of p)) (sym same) opened

-- where all was handed out, what is unanswered is awaited
pub all_awaited : (core : Core) → IsSome (info_of core.phase) → unanswered_of core ≡ awaited_of (handed_out core)
all_awaited core opened =
    let split = waiting_split (all_sent core.table) in
    let none = count_unsent_sent core.table in
    let same = count_waiting_sent core.table in omega (arith, split, none, same)

pub hand_out_leaves : (core : Core) → still_due (handed_out core) ≡ still_due core
hand_out_leaves core = let w = count_waiting_sent core.table in let o = count_owing_sent core.table in
    omega (arith, w, o)

pub hand_out_waits : (core : Core) → unanswered_of (handed_out core) ≡ unanswered_of core
hand_out_waits core = let w = count_waiting_sent core.table in omega (arith, w)
