-- The status says whether the replay of a run whose whole text was written differs.
use Rattle.std.proofs.Common.{◌≡◌, ◌⊎◌, inl, inr, ℕ, Bool, true, false, List, refl, sym, subst}
use Rattle.std.specs.Prelude.{◌≢◌, Option, Ok, Err}
use Rattle.program_shell.specs.declared.ending.Answered.TheVariants.{Done, Stopped, Refused}
use Rattle.program_shell.specs.declared.ending.ProgramFailure.TheVariants.{SourceFailed, SinkFailed, OutOfMemory, DialFailed}
use Rattle.program_shell.specs.Ended.{AnswersSource, End, GaveInput, ReadAs, WroteAnswer, WroteAll}
use Rattle.sftp_link.specs.Told.{IfLogged, WroteBytes}
use Rattle.sftp_link.specs.Views.{SinkView, SourceView}
use Rattle.script_grammar.specs.declared.script.Script.{Script}
use Rattle.script_grammar.specs.Scripts.{script_of}
use Rattle.machine_halves.specs.Halves.{Halves}
use Rattle.sftp_share.specs.Completed.{WroteRun}
use Rattle.sftp_share.specs.Ended.{ShareEnds, share_status}
use Rattle.sftp_share.specs.Shared.{RightShared}

-- ---- the status

-- 0 and 7 are of a run that ended
done_or_other : (differs : Bool) (end : End)
    → (end ≡ Ok Done) ⊎ ((share_status differs end ≢ 0) × (share_status differs end ≢ 7))
done_or_other true (Ok Done) = inl refl
done_or_other true (Ok Stopped) = inr ((λ e. cc e), (λ e. cc e))
done_or_other true (Ok Refused) = inr ((λ e. cc e), (λ e. cc e))
done_or_other true (Err SourceFailed) = inr ((λ e. cc e), (λ e. cc e))
done_or_other true (Err SinkFailed) = inr ((λ e. cc e), (λ e. cc e))
done_or_other true (Err OutOfMemory) = inr ((λ e. cc e), (λ e. cc e))
done_or_other true (Err DialFailed) = inr ((λ e. cc e), (λ e. cc e))
done_or_other false (Ok Done) = inl refl
done_or_other false (Ok Stopped) = inr ((λ e. cc e), (λ e. cc e))
done_or_other false (Ok Refused) = inr ((λ e. cc e), (λ e. cc e))
done_or_other false (Err SourceFailed) = inr ((λ e. cc e), (λ e. cc e))
done_or_other false (Err SinkFailed) = inr ((λ e. cc e), (λ e. cc e))
done_or_other false (Err OutOfMemory) = inr ((λ e. cc e), (λ e. cc e))
done_or_other false (Err DialFailed) = inr ((λ e. cc e), (λ e. cc e))

done_by_7 : (differs : Bool) (end : End) → 7 ≡ share_status differs end → end ≡ Ok Done
done_by_7 differs end e =
    elim (done_or_other differs end) [
      | inl done ↦ done
      | inr other ↦ absurd (other.1 (sym e))
    ]

done_by_0 : (differs : Bool) (end : End) → 0 ≡ share_status differs end → end ≡ Ok Done
done_by_0 differs end e =
    elim (done_or_other differs end) [
      | inl done ↦ done
      | inr other ↦ absurd (other.0 (sym e))
    ]

differs_by_7 : (differs : Bool) → 7 ≡ share_status differs (Ok Done) → differs ≡ true
differs_by_7 true e = refl
differs_by_7 false e = absurd cc

serves_by_0 : (differs : Bool) → 0 ≡ share_status differs (Ok Done) → differs ≡ false
serves_by_0 true e = absurd cc
serves_by_0 false e = refl

status_done : (differs : Bool) → (share_status differs (Ok Done) ≡ 0) ⊎ (share_status differs (Ok Done) ≡ 7)
status_done true = inr refl
status_done false = inl refl

-- ---- the text

-- the right text of a finished run is that of a run of the source's script
wrote_for : (A B : Type 0) (before last : Option Halves) (differs : Bool) (r : ReadAs Script) (bytes text : List ℕ)
    (from now : SourceView)
    (to to_now : SinkView) → script_of bytes ≡ r → GaveInput r bytes from now
    → RightShared A B before last differs r Done text
    → IfLogged (WroteBytes text) to.written to_now.written → WroteRun A B last differs from now to to_now
wrote_for A B before last differs (Ok script) bytes text from now to to_now e gave is wrote = record {
  script = script;
  gave = record { bytes = bytes; gave = gave; reads = e };
  text = text;
  is = is;
  wrote = wrote;
}
wrote_for A B before last differs (Err why) bytes text from now to to_now e gave is wrote = absurd is

wrote_run : (A B : Type 0) (before last : Option Halves) (differs : Bool) (from now : SourceView) (to to_now : SinkView)
    → WroteAll (AnswersSource script_of (RightShared A B before last differs) from now) Done to to_now
    → WroteRun A B last differs from now to to_now
wrote_run A B before last differs from now to to_now w =
    let a = w.is in
    wrote_for A B before last differs (script_of a.bytes) a.bytes w.text from now to to_now refl a.gave a.is w.wrote

-- if it ended so
run_of : (A B : Type 0) (before last : Option Halves) (differs told : Bool) (end : End) (from now : SourceView)
    (to to_now : SinkView)
    → end ≡ Ok Done → differs ≡ told
    → WroteAnswer (AnswersSource script_of (RightShared A B before last differs) from now) end to to_now
    → WroteRun A B last told from now to to_now
run_of A B before last differs told end from now to to_now done is w =
    subst (λ (b : Bool). WroteRun A B last b from now to to_now) is
    (wrote_run A B before last differs from now to to_now
    (subst (λ (x : End). WroteAnswer (AnswersSource script_of (RightShared A B before last differs) from now) x to
    to_now) done w))

-- ---- the laws

pub run_by_7 : (A B : Type 0) (before last : Option Halves) (from now : SourceView) (to to_now : SinkView)
    → ShareEnds A B before last 7 from now to to_now → WroteRun A B last true from now to to_now
run_by_7 A B before last from now to to_now h =
    let done = done_by_7 h.differs h.end h.is in
    run_of A B before last h.differs true h.end from now to to_now done
    (differs_by_7 h.differs (subst (λ (x : End). 7 ≡ share_status h.differs x) done h.is)) h.wrote

pub run_by_0 : (A B : Type 0) (before last : Option Halves) (from now : SourceView) (to to_now : SinkView)
    → ShareEnds A B before last 0 from now to to_now → WroteRun A B last false from now to to_now
run_by_0 A B before last from now to to_now h =
    let done = done_by_0 h.differs h.end h.is in
    run_of A B before last h.differs false h.end from now to to_now done
    (serves_by_0 h.differs (subst (λ (x : End). 0 ≡ share_status h.differs x) done h.is)) h.wrote

pub whole_by_0_or_7 : (A B : Type 0) (before last : Option Halves) (status : ℕ) (from now : SourceView)
    (to to_now : SinkView)
    → (h : ShareEnds A B before last status from now to to_now) → h.end ≡ Ok Done → (status ≡ 0) ⊎ (status ≡ 7)
whole_by_0_or_7 A B before last status from now to to_now h done =
    subst (λ (n : ℕ). (n ≡ 0) ⊎ (n ≡ 7)) (sym h.is)
    (subst (λ (x : End). (share_status h.differs x ≡ 0) ⊎ (share_status h.differs x ≡ 7)) (sym done)
    (status_done h.differs))
