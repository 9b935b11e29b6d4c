-- The end of the program with a script, at each of its exits.
use Rattle.std.proofs.Common.{◌≡◌, ℕ, Bool, false, List, inl, inr, refl}
use Rattle.std.specs.Prelude.{Option, Ok, Err}
use Rattle.program_shell.specs.declared.ending.Answered.{Answered}
use Rattle.program_shell.specs.declared.ending.Answered.TheVariants.{Done, Stopped, Refused}
use Rattle.program_shell.specs.declared.ending.ProgramFailure.{ProgramFailure}
use Rattle.program_shell.specs.declared.ending.ProgramFailure.TheVariants.{SourceFailed, SinkFailed, OutOfMemory, DialFailed}
use Rattle.program_shell.specs.Ended.{AnswersSource, End, EndsAtSink, GaveValue, IsOnlyAnswer, ReadAs}
use Rattle.program_shell.specs.Replies.{GivesBytes}
use Rattle.program_shell.proofs.Exits.{Read}
use Rattle.program_shell.proofs.Reading.{RefusesLong, gave, gave_value}
use Rattle.program_shell.proofs.Writing.{at_sink, just, nothing_new, source_stays, wrote_as}
use Rattle.sftp_link.specs.Views.{SinkView, SourceView}
use Rattle.script_grammar.specs.declared.script.Script.{Script}
use Rattle.script_grammar.specs.Scripts.{script_of}
use Rattle.machine_halves.specs.Halves.{Halves}
use Rattle.sftp_share.specs.Ended.{PairAfter, ShareEnds, share_status}
use Rattle.sftp_share.specs.Shared.{RightShared, RunsOutOfMemory}

-- bytes that are too long are no script
pub refuses_long : RefusesLong script_of
refuses_long bytes long = rw long refl

-- the source was not read
pub unread : (A B : Type 0) (why : ProgramFailure) (before : Option Halves) (from now : SourceView) (to : SinkView)
    → GivesBytes (Err why) from now
    → ShareEnds A B before before (share_status false (Err why)) from now to to
unread A B SourceFailed before from now to g = record {
  end = Err SourceFailed;
  differs = false;
  is = refl;
  wrote = nothing_new to.written;
  source = g.cause;
  sink = refl;
  pair = refl;
}
unread A B SinkFailed before from now to g = absurd (g.only.0 refl)
unread A B OutOfMemory before from now to g = record {
  end = Err OutOfMemory;
  differs = false;
  is = refl;
  wrote = inl (nothing_new to.written);
  source = g.cause;
  sink = refl;
  pair = inl refl;
}
unread A B DialFailed before from now to g = absurd (g.only.1 refl)

-- ---- the halves that the pair has back

-- a script that was read is one that the source gave
starves_given : (A B : Type 0) (before last : Option Halves) (bytes : List ℕ) (from now : SourceView)
    → Read bytes from now
    → RunsOutOfMemory A B (λ script. script_of bytes ≡ Ok script) before last
    → RunsOutOfMemory A B (λ script. GaveValue script_of script from now) before last
starves_given A B before last bytes from now t (inl same) = inl same
starves_given A B before last bytes from now t (inr h) = inr
    (h.0, gave_value script_of bytes h.0 from now refuses_long h.1 t, h.2)

-- the text that is right shows it
right_starves : (A B : Type 0) (before last : Option Halves) (differs : Bool) (r : ReadAs Script) (bytes text : List ℕ)
    (says : Answered)
    → script_of bytes ≡ r → RightShared A B before last differs r says text
    → RunsOutOfMemory A B (λ script. script_of bytes ≡ Ok script) before last
right_starves A B before last differs (Ok script) bytes text Done e h = inr (script, e, inl (h.report, h.run))
right_starves A B before last differs (Ok script) bytes text Stopped e h = inr (script, e, inr (h.why, h.stops))
right_starves A B before last differs (Ok script) bytes text Refused e h = absurd h
right_starves A B before last differs (Err why) bytes text Done e h = absurd h
right_starves A B before last differs (Err why) bytes text Stopped e h = absurd h
right_starves A B before last differs (Err why) bytes text Refused e h = inl h.1

-- ---- an answer

-- an allocation failed for it
pub starved : (A B : Type 0) (before last : Option Halves) (bytes : List ℕ) (from now : SourceView) (to : SinkView)
    → Read bytes from now
    → now.faults ≡ from.faults → RunsOutOfMemory A B (λ script. script_of bytes ≡ Ok script) before last
    → ShareEnds A B before last (share_status false (Err OutOfMemory)) from now to to
starved A B before last bytes from now to t same s = record {
  end = Err OutOfMemory;
  differs = false;
  is = refl;
  wrote = inl (nothing_new to.written);
  source = same;
  sink = refl;
  pair = starves_given A B before last bytes from now t s;
}

-- it was to be written
pub answered : (A B : Type 0) (before last : Option Halves) (differs : Bool) (bytes text : List ℕ) (says : Answered)
    (end : End)
    (from now : SourceView) (to to_now : SinkView) → Read bytes from now → now.faults ≡ from.faults
    → RightShared A B before last differs (script_of bytes) says text
    → EndsAtSink (IsOnlyAnswer says text) end to to_now
    → ShareEnds A B before last (share_status differs end) from now to to_now
answered A B before last differs bytes text says end from now to to_now t same r w =
    let whole = AnswersSource script_of (RightShared A B before last differs) from now in
    let all : whole says text = record { bytes = bytes; gave = gave script_of bytes from now refuses_long t; is = r } in
    record {
      end = end;
      differs = differs;
      is = refl;
      wrote = wrote_as (IsOnlyAnswer says text) whole (just whole says text all) end to to_now w.wrote;
      source = source_stays (IsOnlyAnswer says text) end to to_now from.faults now.faults w same;
      sink = w.cause;
      pair = at_sink (PairAfter A B before last from now) (IsOnlyAnswer says text) end to to_now w tt
          (starves_given A B before last bytes from now t (right_starves A B before last differs (script_of bytes) bytes
          text says refl r));
    }
