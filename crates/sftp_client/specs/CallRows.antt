-- Worked rows of calls that run in one, each beside a near miss.
use Rattle.std.proofs.Common.{◌∙◌, arith, inl, inr, refl, sym}
use Rattle.std.specs.Prelude.{◌≡◌, ◌⊎◌, ◌<◌, ◌≤◌, ℕ, [], ◌∷◌, codes, None, Some, Result, Ok, Err, IsSome}
use Rattle.sftp_model.specs.declared.error.Error.{Error}
use Rattle.sftp_model.specs.declared.error.Error.TheVariants as error
use Rattle.sftp_core.specs.Core.{kept_of}
use Rattle.sftp_core.specs.Info.{MAX_IDS, info_of}
use Rattle.sftp_model.specs.declared.error.Fault.{Fault}
use Rattle.sftp_link.specs.Views.{LinkView}
use Rattle.sftp_file.specs.Slices.{IsCutOff}
use Rattle.sftp_client.specs.Calls.{IfIdLeft, IsCallable, IsUsable, IsUsableAfter, RunsInOne, StartsThenRuns}
use Rattle.sftp_client.specs.Sessions.{SftpValue}

-- If all ids are in use, nothing is started, and the error is that of memory.
pub no_id_left : {L C : Type 0} (Starts : SftpValue L → SftpValue L → Result C Error → Type 0) (old : SftpValue L)
    → MAX_IDS ≤ kept_of old.core → IfIdLeft Starts old old (Err error.OutOfMemory)
no_id_left Starts old all = inl (inl (record { all = all; error = refl; unchanged = refl }))

-- A kept fault is returned before anything is started.
pub fault_kept : {L C : Type 0} (Starts : SftpValue L → SftpValue L → Result C Error → Type 0) (old : SftpValue L)
    (fault : Fault) → old.core.fault ≡ Some fault → IfIdLeft Starts old old (Err (error.BackgroundTaskFailure fault))
fault_kept Starts old fault kept = inl (inr (kept, refl))

-- A call that was started is by its start.
pub id_left : {L C : Type 0} (Starts : SftpValue L → SftpValue L → Result C Error → Type 0) (old new : SftpValue L)
    (call : C) → IfIdLeft Starts old new (Ok call) → Starts old new (Ok call)
id_left Starts old new call h = h

-- An error may be that of the start; a value is that of a call that was started and run.
pub start_refused : {L C V : Type 0} (Starts : SftpValue L → SftpValue L → Result C Error → Type 0)
    (Runs : SftpValue L → SftpValue L → C → Result V Error → Type 0) (old new : SftpValue L) (e : Error)
    → Starts old new (Err e) → RunsInOne Starts Runs old new (Err e)
start_refused Starts Runs old new e h = inl h

pub value_of_run : {L C V : Type 0} (Starts : SftpValue L → SftpValue L → Result C Error → Type 0)
    (Runs : SftpValue L → SftpValue L → C → Result V Error → Type 0) (old new : SftpValue L) (value : V)
    → RunsInOne Starts Runs old new (Ok value) → StartsThenRuns Starts Runs old new (Ok value)
value_of_run Starts Runs old new value h = h

-- After a value the session may be used, and after a fault of the link its calls may still be made.
pub after_value : {L S : Type 0} (state : L → LinkView S) (new : SftpValue L) → IsUsableAfter {V = ℕ} state new (Ok 3)
    → IsUsable state new
after_value state new h = h

pub after_fault : {L S : Type 0} (state : L → LinkView S) (new : SftpValue L)
    → IsUsableAfter {V = ℕ} state new (Err error.LinkFault) → IsCallable state new
after_fault state new h = h

-- A session that keeps a fault may be called whatever its link counts.
pub kept_callable : {L S : Type 0} (state : L → LinkView S) (s : SftpValue L) (fault : Fault)
    → IsSome (info_of s.core.phase) → s.core.fault ≡ Some fault → IsCallable state s
kept_callable state s fault opened kept =
    record { opened = opened; alive = λ none. (let never : Some fault ≡ None = sym kept ∙ none in absurd cc) }

-- Of the pieces `abc` and `de`, four bytes are the first piece and a part of the second; five are both. The first piece
-- is not returned as the rest, since it fits whole.
pub part_of_a_piece : IsCutOff (codes "abc" ∷ codes "de" ∷ []) 4 (Some (4, 1, codes "d"))
part_of_a_piece = (refl, omega arith, omega arith, refl, inr (omega arith))

pub all_pieces : IsCutOff (codes "abc" ∷ codes "de" ∷ []) 9 (Some (5, 2, []))
all_pieces = (refl, omega arith, omega arith, refl, inl refl)

pub whole_piece_as_rest : IsCutOff (codes "abc" ∷ codes "de" ∷ []) 4 (Some (4, 0, codes "abcd")) → ⊥
whole_piece_as_rest h = neither h.4
  where
    neither : (◌≡◌ {A = ℕ} 0 2) ⊎ (4 < 3) → ⊥
    neither (inl same) = absurd (omega (arith, same))
    neither (inr less) = absurd (omega (arith, less))
