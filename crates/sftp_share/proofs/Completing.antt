-- Without a fault of the source or the sink the program ends with what the source asks for, or out of memory.
use Rattle.std.proofs.Common.{◌≡◌, ◌<◌, inl, inr, ℕ, Bool, true, false, List, refl, ap, sym, ◌∙◌, subst, arith}
use Rattle.std.specs.Prelude.{Option, Some, None, Ok, Err, IfErr}
use Rattle.program_shell.specs.declared.ending.Answered.{Answered}
use Rattle.program_shell.specs.declared.ending.Answered.TheVariants.{Done, Stopped, Refused}
use Rattle.program_shell.specs.declared.ending.ProgramFailure.TheVariants.{SourceFailed, SinkFailed, OutOfMemory, DialFailed}
use Rattle.program_shell.specs.Completed.{CompletesSource, EndsFor}
use Rattle.program_shell.specs.Ended.{AnswersSource, End, GaveInput, GaveAll, ReadAs, SinkCause, SourceCause, WroteAnswer, read_limit}
use Rattle.program_shell.proofs.Reading.{read_is}
use Rattle.sftp_link.specs.Told.{IfLogged, ReadUpTo}
use Rattle.sftp_link.specs.Views.{SinkView, SourceView}
use Rattle.script_grammar.specs.declared.script.Script.{Script}
use Rattle.script_grammar.specs.Scripts.{script_of}
use Rattle.machine_halves.specs.Halves.{Halves}
use Rattle.sftp_share.specs.Completed.{IsSharedStatus}
use Rattle.sftp_share.specs.Ended.{PairAfter, ShareEnds, share_status}
use Rattle.sftp_share.specs.Shared.{RightShared}
use Rattle.sftp_share.proofs.Exits.{refuses_long}

-- ---- the bytes that a source had

told_all : (bytes had : List ℕ) (now : Option (List ℕ)) → IfLogged (GaveAll bytes) (Some had) now → had ≡ bytes
told_all bytes had None t = absurd t
told_all bytes had (Some now) t = t.0

told_read : (bytes had : List ℕ) (now : Option (List ℕ)) → IfLogged (ReadUpTo read_limit bytes) (Some had) now
    → script_of had ≡ script_of bytes
told_read bytes had None t = absurd t
told_read bytes had (Some now) t = read_is script_of bytes had now refuses_long t

-- it reads as the bytes that were read
had_is : (r : ReadAs Script) (bytes had : List ℕ) (from now : SourceView) → script_of bytes ≡ r
    → GaveInput r bytes from now
    → from.left ≡ Some had → script_of had ≡ r
had_is (Ok script) bytes had from now e g is =
    ap script_of (told_all bytes had now.left (subst (λ (l : Option (List ℕ)). IfLogged (GaveAll bytes) l now.left) is
    g)) ∙ e
had_is (Err why) bytes had from now e g is =
    told_read bytes had now.left (subst (λ (l : Option (List ℕ)). IfLogged (ReadUpTo read_limit bytes) l now.left) is g)
    ∙ e

-- ---- the status of an answer that was written whole

done_status : (differs : Bool) → IsSharedStatus (share_status differs (Ok Done))
done_status true = inr (inr refl)
done_status false = inl refl

stopped_status : (differs : Bool) → IsSharedStatus (share_status differs (Ok Stopped))
stopped_status true = inr (inl refl)
stopped_status false = inr (inl refl)

refused_status : (differs : Bool) → share_status differs (Ok Refused) ≡ 2
refused_status true = refl
refused_status false = refl

starved_status : (differs : Bool) → share_status differs (Err OutOfMemory) ≡ 5
starved_status true = refl
starved_status false = refl

answer_status : (A B : Type 0) (before last : Option Halves) (differs : Bool) (r : ReadAs Script) (answered : Answered)
    (text : List ℕ)
    → RightShared A B before last differs r answered text → EndsFor IsSharedStatus r
    (share_status differs (Ok answered))
answer_status A B before last differs (Ok script) Done text h = done_status differs
answer_status A B before last differs (Ok script) Stopped text h = stopped_status differs
answer_status A B before last differs (Ok script) Refused text h = absurd h
answer_status A B before last differs (Err why) Done text h = absurd h
answer_status A B before last differs (Err why) Stopped text h = absurd h
answer_status A B before last differs (Err why) Refused text h = refused_status differs

-- ---- each end

completes_so : (A B : Type 0) (before last : Option Halves) (differs : Bool) (end : End) (from now : SourceView)
    (to to_now : SinkView)
    → WroteAnswer (AnswersSource script_of (RightShared A B before last differs) from now) end to to_now
    → SourceCause end from.faults now.faults → SinkCause end to.faults to_now.faults → (end ≡ Err DialFailed → ⊥)
    → now.faults ≡ from.faults → to_now.faults ≡ to.faults
    → CompletesSource script_of IsSharedStatus (share_status differs end) from.left
completes_so A B before last differs (Ok answered) from now to to_now w source sink dial s k had is =
    let a = w.is in
    inl (subst (λ (r : ReadAs Script). EndsFor IsSharedStatus r (share_status differs (Ok answered)))
    (sym (had_is (script_of a.bytes) a.bytes had from now refl a.gave is))
    (answer_status A B before last differs (script_of a.bytes) answered w.text a.is))
completes_so A B before last differs (Err SourceFailed) from now to to_now w source sink dial s k had is =
    absurd (let rose : from.faults < now.faults = source in omega (arith, rose, s))
completes_so A B before last differs (Err SinkFailed) from now to to_now w source sink dial s k had is =
    absurd (let rose : to.faults < to_now.faults = sink in omega (arith, rose, k))
completes_so A B before last differs (Err OutOfMemory) from now to to_now w source sink dial s k had is =
    inr (starved_status differs)
completes_so A B before last differs (Err DialFailed) from now to to_now w source sink dial s k had is =
    absurd (dial refl)

undialled : (A B : Type 0) (before last : Option Halves) (status : ℕ) (from now : SourceView) (to to_now : SinkView)
    → (h : ShareEnds A B before last status from now to to_now) → h.end ≡ Err DialFailed → ⊥
undialled A B before last status from now to to_now h e = subst
    (λ (x : End). IfErr x (PairAfter A B before last from now)) e h.pair

pub completes : (A B : Type 0) (before last : Option Halves) (status : ℕ) (from now : SourceView) (to to_now : SinkView)
    → ShareEnds A B before last status from now to to_now → now.faults ≡ from.faults → to_now.faults ≡ to.faults
    → CompletesSource script_of IsSharedStatus status from.left
completes A B before last status from now to to_now h s k =
    subst (λ (n : ℕ). CompletesSource script_of IsSharedStatus n from.left) (sym h.is)
    (completes_so A B before last h.differs h.end from now to to_now h.wrote h.source h.sink
    (undialled A B before last status from now to to_now h) s k)
