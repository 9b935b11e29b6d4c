-- A status is right about which count of faults rose.
use Rattle.std.proofs.Common.{inl, inr, ℕ, Bool, true, false, refl, sym, subst}
use Rattle.std.specs.Prelude.{Option, Ok, Err}
use Rattle.program_shell.specs.declared.ending.Answered.TheVariants.{Done, Stopped, Refused}
use Rattle.program_shell.specs.declared.ending.ProgramFailure.TheVariants.{SourceFailed, SinkFailed, OutOfMemory, DialFailed}
use Rattle.program_shell.specs.Completed.{HasCause}
use Rattle.program_shell.specs.Ended.{End, SinkCause, SourceCause}
use Rattle.sftp_link.specs.Views.{SinkView, SourceView}
use Rattle.machine_halves.specs.Halves.{Halves}
use Rattle.sftp_share.specs.Ended.{ShareEnds, share_status}

source_has : (differs : Bool) (end : End) (before now : ℕ) → SourceCause end before now
    → HasCause 3 (share_status differs end) before now
source_has true (Ok Done) before now h = inr ((λ e. cc e), h)
source_has true (Ok Stopped) before now h = inr ((λ e. cc e), h)
source_has true (Ok Refused) before now h = inr ((λ e. cc e), h)
source_has true (Err SourceFailed) before now h = inl (refl, h)
source_has true (Err SinkFailed) before now h = inr ((λ e. cc e), h)
source_has true (Err OutOfMemory) before now h = inr ((λ e. cc e), h)
source_has true (Err DialFailed) before now h = inr ((λ e. cc e), h)
source_has false (Ok Done) before now h = inr ((λ e. cc e), h)
source_has false (Ok Stopped) before now h = inr ((λ e. cc e), h)
source_has false (Ok Refused) before now h = inr ((λ e. cc e), h)
source_has false (Err SourceFailed) before now h = inl (refl, h)
source_has false (Err SinkFailed) before now h = inr ((λ e. cc e), h)
source_has false (Err OutOfMemory) before now h = inr ((λ e. cc e), h)
source_has false (Err DialFailed) before now h = inr ((λ e. cc e), h)

sink_has : (differs : Bool) (end : End) (before now : ℕ) → SinkCause end before now
    → HasCause 4 (share_status differs end) before now
sink_has true (Ok Done) before now h = inr ((λ e. cc e), h)
sink_has true (Ok Stopped) before now h = inr ((λ e. cc e), h)
sink_has true (Ok Refused) before now h = inr ((λ e. cc e), h)
sink_has true (Err SourceFailed) before now h = inr ((λ e. cc e), h)
sink_has true (Err SinkFailed) before now h = inl (refl, h)
sink_has true (Err OutOfMemory) before now h = inr ((λ e. cc e), h)
sink_has true (Err DialFailed) before now h = inr ((λ e. cc e), h)
sink_has false (Ok Done) before now h = inr ((λ e. cc e), h)
sink_has false (Ok Stopped) before now h = inr ((λ e. cc e), h)
sink_has false (Ok Refused) before now h = inr ((λ e. cc e), h)
sink_has false (Err SourceFailed) before now h = inr ((λ e. cc e), h)
sink_has false (Err SinkFailed) before now h = inl (refl, h)
sink_has false (Err OutOfMemory) before now h = inr ((λ e. cc e), h)
sink_has false (Err DialFailed) before now h = inr ((λ e. cc e), h)

pub causes : (A B : Type 0) (before last : Option Halves) (status : ℕ) (from from_now : SourceView)
    (to to_now : SinkView)
    → ShareEnds A B before last status from from_now to to_now
    → HasCause 3 status from.faults from_now.faults × HasCause 4 status to.faults to_now.faults
causes A B before last status from from_now to to_now h = (
  subst (λ (n : ℕ). HasCause 3 n from.faults from_now.faults) (sym h.is)
      (source_has h.differs h.end from.faults from_now.faults h.source),
  subst (λ (n : ℕ). HasCause 4 n to.faults to_now.faults) (sym h.is)
      (sink_has h.differs h.end to.faults to_now.faults h.sink),
)
