-- How reads of so many bytes go on.
use Rattle.std.proofs.Common.{◌≡◌, ◌∙◌, refl, sym, subst, ℕ, Bool, true, false, List, [], Some, Result, Ok, Err, if◌then◌else◌}
use Rattle.sftp_model.specs.declared.error.Error.TheVariants as error
use Rattle.sftp_model.specs.declared.error.IoKind.{IoKind}
use Rattle.sftp_model.specs.declared.outcome.Outcome.TheVariants as outcome
use Rattle.sftp_model.specs.declared.reply.Reply.TheVariants as reply
use Rattle.sftp_model.specs.declared.slot.Facts.{Facts}
use Rattle.sftp_model.specs.declared.slot.Move.{Move}
use Rattle.sftp_model.specs.declared.slot.Move.TheVariants.{Ask, Done}
use Rattle.plan_model.specs.Moves.{Answers, handle_of}
use Rattle.plan_model.specs.TransferPlans.{read_all_next}
use Rattle.plan_state.specs.declared.submission.Asking.{Asking}
use Rattle.plan_state.specs.Asked.{request_of}
use Rattle.sftp_core.specs.Core.{Core}
use Rattle.plan_state.specs.declared.stage.Stage.{Stage}
use Rattle.plan_state.specs.declared.stage.Stage.TheVariants.{Asked, Came, Ended, Ready, Unsent}
use Rattle.plan_state.specs.Calls.{CallValue, IsHeld, IsHeldAt, is_ended}
use Rattle.plan_state.specs.declared.poll.Poll.{Poll}
use Rattle.bytes.specs.Filled.{Filled}
use Rattle.plan_state.specs.Runners.{GoesBehind}
use Rattle.sftp_file.specs.Files.{IsHandleOfFile, FileValue, alone, file_at, one_slot}
use Rattle.sftp_file.specs.declared.whole_reads.ReadAllError.{ReadAllError}
use Rattle.sftp_file.specs.Gathers.{IsNextRead, ReadAllValue, ReadsAll, first_read, after_data, missing_from, next_len, next_read, read_all_left, reading_all, with_buffer}

-- the move of the plan where the runner stands
abbrev pub MovesAs : ReadAllValue → Answers → Move → Type 0
MovesAs m answers move = handle_of (answers m.file.grant) ≡ m.handle
    → missing_from m.file m.got m.missing m.facts [] answers ≡ move

-- a READ of what is missing behind the bytes that came
pub gathers_behind : (m mid next : ReadAllValue) (bytes : List ℕ) (asking : Asking) (w : Unit {0}) (answers : Answers)
    → mid ≡ after_data m bytes → IsNextRead mid next (Ok (Some asking)) → MovesAs mid answers (Ask (request_of asking))
    → handle_of (answers m.file.grant) ≡ m.handle → answers m.place ≡ Some (reply.Content bytes)
    → GoesBehind reading_all w (read_all_left m) answers asking next
gathers_behind m mid next bytes asking w answers is step goes knows came =
    let at : next ≡ record (after_data m bytes) { len = next_len mid } = step.0
    ∙ (λ i. record (is i) { len = next_len mid }) in
    let moves : MovesAs (after_data m bytes) answers (Ask (request_of asking)) =
    subst (λ (x : ReadAllValue). MovesAs x answers (Ask (request_of asking))) is goes in
    subst (λ (x : ReadAllValue). GoesBehind reading_all w (read_all_left m) answers asking x) (sym at) (record {
      asks = rw came (moves knows);
      rest = λ later. rw came refl;
      knows = knows;
    })

-- or it is refused before it is asked
pub gathers_refused : (m mid next : ReadAllValue) (bytes : List ℕ) (why : IoKind) (answers : Answers) → mid
    ≡ after_data m bytes
    → next ≡ mid → MovesAs mid answers (next_read mid (Err why)) → handle_of (answers m.file.grant) ≡ m.handle
    → answers m.place ≡ Some (reply.Content bytes)
    → read_all_left m [] answers ≡ Done (outcome.Refused (error.IOError why)) (one_slot next.file)
gathers_refused m mid next bytes why answers is same goes knows came =
    let at : next ≡ after_data m bytes = same ∙ is in
    let moves : MovesAs (after_data m bytes) answers (next_read (after_data m bytes) (Err why)) =
    subst (λ (x : ReadAllValue). MovesAs x answers (next_read x (Err why))) is goes in
    subst (λ (x : ReadAllValue). read_all_left m [] answers ≡ Done (outcome.Refused (error.IOError why))
    (one_slot x.file)) (sym at)
    (rw came (moves knows))

-- the first READ
pub first_read_behind : (f : FileValue) (facts : Facts) (n : ℕ) (m next : ReadAllValue) (asking : Asking)
    (answers : Answers)
    → m ≡ first_read f facts n → IsNextRead m next (Ok (Some asking)) → MovesAs m answers (Ask (request_of asking))
    → IsHandleOfFile f answers → GoesBehind reading_all tt (read_all_next 0 n (alone f) facts) answers asking next
first_read_behind f facts n m next asking answers is step goes brought =
    let at : next ≡ record (first_read f facts n) { len = next_len m } = step.0
    ∙ (λ i. record (is i) { len = next_len m }) in
    let moves : MovesAs (first_read f facts n) answers (Ask (request_of asking)) =
    subst (λ (x : ReadAllValue). MovesAs x answers (Ask (request_of asking))) is goes in
    subst (λ (x : ReadAllValue). GoesBehind reading_all tt (read_all_next 0 n (alone f) facts) answers asking x)
    (sym at) (record {
      asks = moves brought;
      rest = λ later. refl;
      knows = brought;
    })

-- refused before it is asked
pub first_read_refused : (f : FileValue) (facts : Facts) (n : ℕ) (m : ReadAllValue) (why : IoKind) (answers : Answers)
    → m ≡ first_read f facts n → MovesAs m answers (next_read m (Err why)) → IsHandleOfFile f answers
    → read_all_next 0 n (alone f) facts [] answers ≡ Done (outcome.Refused (error.IOError why)) (alone f)
first_read_refused f facts n m why answers is goes brought =
    let moves : MovesAs (first_read f facts n) answers (next_read (first_read f facts n) (Err why)) =
    subst (λ (x : ReadAllValue). MovesAs x answers (next_read x (Err why))) is goes in
    moves brought

-- other bytes make no difference to what a core needs of it
pub held_with : (core : Core) (m : ReadAllValue) (bytes : List ℕ) (stage : Stage) → IsHeldAt reading_all core m stage
    → IsHeldAt reading_all core (with_buffer m bytes) stage
held_with core m bytes Ended h = tt
held_with core m bytes Ready h = tt
held_with core m bytes (Unsent asking) h =
    (record { call = h.0.call; short = h.0.short; expects = h.0.expects; cut = tt }, refl)
held_with core m bytes (Asked ticket) h = h
held_with core m bytes (Came told) h = record { allowed = h.allowed; formed = h.formed; counted = h.counted }

-- a call stays one that may be polled on or given up, on the file where it stands
pub reads_held : (old new : Core) (p q : CallValue ReadAllValue) (before after : FileValue)
    (result : Poll (Result Filled ReadAllError))
    → ReadsAll old new p q before after result → IsHeld reading_all new q × (q.runner.file ≡ file_at after)
reads_held old new p q before after result h =
    subst (λ (x : CallValue ReadAllValue). IsHeld reading_all new x × (x.runner.file ≡ file_at after)) (sym h.left)
    (by_end (is_ended h.last.stage))
  where
    by_end : (b : Bool) → IsHeld reading_all new (if b then record h.last { runner = with_buffer h.last.runner [] } else
        h.last)
        × ((if b then record h.last { runner = with_buffer h.last.runner [] } else h.last).runner.file ≡ file_at after)
    by_end true = (held_with new h.last.runner [] h.last.stage h.stepped.held, h.moved.stands)
    by_end false = (h.stepped.held, h.moved.stands)
