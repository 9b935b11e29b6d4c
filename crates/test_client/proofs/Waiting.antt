-- Reads of a number of bytes that may be given up.
use Rattle.std.proofs.Common.{◌≡◌, [], true, false, subst, sym}
use Rattle.std.specs.Prelude.{Bool, Result, if◌then◌else◌}
use Rattle.bytes.specs.Filled.{Filled}
use Rattle.sftp_core.specs.Core.{Core}
use Rattle.sftp_link.specs.Views.{LinkView}
use Rattle.plan_state.specs.Calls.{CallValue, IsHeld, is_ended}
use Rattle.plan_state.specs.declared.poll.Poll.{Poll}
use Rattle.sftp_file.specs.Files.{FileValue, file_at}
use Rattle.sftp_file.specs.Gathers.{ReadAllValue, ReadsAll, reading_all, with_buffer}
use Rattle.sftp_file.specs.declared.whole_reads.ReadAllError.{ReadAllError}
use Rattle.sftp_file.proofs.GatherLaws.{held_with, reads_held}
use Rattle.sftp_client.specs.Sessions.{SftpValue}
use Rattle.sftp_client.specs.WholeWaits.{HasWaitedBytes}

-- a read of so many bytes that was waited for may be given up
pub waited_held : {L S : Type 0} (state : L → LinkView S) (old new : SftpValue L) (p q : CallValue ReadAllValue)
    (before after : FileValue) (result : Result Filled ReadAllError)
    → HasWaitedBytes state old new p q before after result
    → IsHeld reading_all new.core q
waited_held state old new p q before after result h =
    subst (λ (x : CallValue ReadAllValue). IsHeld reading_all new.core x) (sym h.left) (by_end (is_ended h.last.stage))
  where
    by_end : (b : Bool) → IsHeld reading_all new.core (if b then
        record h.last { runner = with_buffer h.last.runner [] } else h.last)
    by_end true = held_with new.core h.last.runner [] h.last.stage h.waited.held
    by_end false = h.waited.held

-- a read of so many bytes that was polled may be given up
pub bytes_held : (old new : Core) (p q : CallValue ReadAllValue) (before after : FileValue)
    (result : Poll (Result Filled ReadAllError))
    → ReadsAll old new p q before after result → IsHeld reading_all new q × (q.runner.file ≡ file_at after)
bytes_held old new p q before after result h = reads_held old new p q before after result h
