-- What was written of an answer, and where a program ends that only writes.
use Rattle.std.proofs.Common.{◌≡◌, ℕ, List, inl, inr, refl, sym, subst}
use Rattle.std.specs.Prelude.{Option, Some, None, Ok, Err, IfErr}
use Rattle.sftp_link.specs.Told.{IfLogged, LogsNothing}
use Rattle.sftp_link.specs.Views.{SinkView}
use Rattle.program_shell.specs.declared.ending.Answered.{Answered}
use Rattle.program_shell.specs.declared.ending.ProgramFailure.{ProgramFailure}
use Rattle.program_shell.specs.declared.ending.ProgramFailure.TheVariants.{SourceFailed, SinkFailed, OutOfMemory, DialFailed}
use Rattle.program_shell.specs.Ended.{DialCause, End, EndsAtSink, IsOnlyAnswer, SourceCause, WroteAnswer, WroteLess}

-- nothing more
pub nothing_new : (written : Option (List ℕ)) → IfLogged LogsNothing written written
nothing_new None = tt
nothing_new (Some bytes) = refl

less_as : (P Q : Answered → List ℕ → Type 0) → ((a : Answered) (t : List ℕ) → P a t → Q a t) → (before now : SinkView)
    → WroteLess P before now → WroteLess Q before now
less_as P Q f before now w = record {
  answered = w.answered;
  text = w.text;
  is = f w.answered w.text w.is;
  wrote =
      w.wrote;
}

-- what is right in one sense, and so in another
pub wrote_as : (P Q : Answered → List ℕ → Type 0) → ((a : Answered) (t : List ℕ) → P a t → Q a t) → (end : End)
    (before now : SinkView) → WroteAnswer P end before now → WroteAnswer Q end before now
wrote_as P Q f (Ok a) before now w = record { text = w.text; is = f a w.text w.is; wrote = w.wrote }
wrote_as P Q f (Err SourceFailed) before now w = w
wrote_as P Q f (Err SinkFailed) before now w = less_as P Q f before now w
wrote_as P Q f (Err OutOfMemory) before now (inl w) = inl w
wrote_as P Q f (Err OutOfMemory) before now (inr w) = inr (less_as P Q f before now w)
wrote_as P Q f (Err DialFailed) before now w = w

-- what is right for an answer is right for just this answer
pub just : (right : Answered → List ℕ → Type 0) (answered : Answered) (text : List ℕ) → right answered text
    → (a : Answered) (t : List ℕ) → IsOnlyAnswer answered text a t → right a t
just right answered text r a t only = subst (λ (x : Answered). right x t) (sym only.0)
    (subst (λ (y : List ℕ). right answered y) (sym only.1) r)

-- a count of the source, and of the dial, that stays where the program ended at the sink
pub source_stays : (right : Answered → List ℕ → Type 0) (end : End) (to to_now : SinkView) (before now : ℕ)
    → EndsAtSink right end to to_now → now ≡ before → SourceCause end before now
source_stays right (Ok a) to to_now before now w same = same
source_stays right (Err SourceFailed) to to_now before now w same = absurd (w.only.0 refl)
source_stays right (Err SinkFailed) to to_now before now w same = same
source_stays right (Err OutOfMemory) to to_now before now w same = same
source_stays right (Err DialFailed) to to_now before now w same = same

pub dial_stays : (right : Answered → List ℕ → Type 0) (end : End) (to to_now : SinkView) (before now : ℕ)
    → EndsAtSink right end to to_now → now ≡ before → DialCause end before now
dial_stays right (Ok a) to to_now before now w same = same
dial_stays right (Err SourceFailed) to to_now before now w same = same
dial_stays right (Err SinkFailed) to to_now before now w same = same
dial_stays right (Err OutOfMemory) to to_now before now w same = same
dial_stays right (Err DialFailed) to to_now before now w same = absurd (w.only.1 refl)

-- what holds of each failure that ends at the sink
pub at_sink : (P : ProgramFailure → Type 0) (right : Answered → List ℕ → Type 0) (end : End) (to to_now : SinkView)
    → EndsAtSink right end to to_now → P SinkFailed → P OutOfMemory → IfErr end P
at_sink P right (Ok a) to to_now w s m = tt
at_sink P right (Err SourceFailed) to to_now w s m = absurd (w.only.0 refl)
at_sink P right (Err SinkFailed) to to_now w s m = s
at_sink P right (Err OutOfMemory) to to_now w s m = m
at_sink P right (Err DialFailed) to to_now w s m = absurd (w.only.1 refl)

-- an answer that is right, and was written so far as the sink took it
pub right_at_sink : (right : Answered → List ℕ → Type 0) (answered : Answered) (text : List ℕ) (end : End)
    (before now : SinkView) → right answered text → EndsAtSink (IsOnlyAnswer answered text) end before now
    → EndsAtSink right end before now
right_at_sink right answered text end before now r w = record {
  wrote = wrote_as (IsOnlyAnswer answered text) right (just right answered text r) end before now w.wrote;
  cause = w.cause;
  only = w.only;
}
