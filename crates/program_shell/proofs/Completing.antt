-- Without a fault of the source or the sink a program ends with what is asked for, or for want of memory.
use Rattle.std.proofs.Common.{◌≡◌, ◌<◌, ◌⊎◌, inl, inr, ℕ, List, refl, ap, sym, ◌∙◌, subst, arith}
use Rattle.std.specs.Prelude.{Option, Some, None, Ok, Err}
use Rattle.sftp_link.specs.Told.{IfLogged, ReadUpTo}
use Rattle.sftp_link.specs.Views.{DialView, LastLink, SinkView, SourceView}
use Rattle.sftp_map_server.specs.Serving.{Serving}
use Rattle.program_shell.specs.declared.ending.Answered.{Answered}
use Rattle.program_shell.specs.declared.ending.Answered.TheVariants.{Done, Stopped, Refused}
use Rattle.program_shell.specs.declared.ending.ProgramFailure.TheVariants.{SourceFailed, SinkFailed, OutOfMemory, DialFailed}
use Rattle.program_shell.specs.Completed.{CompletesSource, EndsFor, IsLinkStatus, IsWhole}
use Rattle.program_shell.specs.Ended.{
  AnswersSource,
  End,
  EndsAtSink,
  EndsInMemory,
  EndsOverLink,
  GaveInput,
  GaveAll,
  ReadAs,
  RightInMemory,
  RightOverLink,
  read_limit,
  status_of,
}
use Rattle.program_shell.specs.Outside.{Outside}
use Rattle.program_shell.proofs.Reading.{RefusesLong, read_is}

-- ---- what a source had

told_all : (bytes had : List ℕ) (left_now : Option (List ℕ)) → IfLogged (GaveAll bytes) (Some had) left_now → had
    ≡ bytes
told_all bytes had None t = absurd t
told_all bytes had (Some now) t = t.0

told_read : {T : Type 0} (read : List ℕ → ReadAs T) (bytes had : List ℕ) (left_now : Option (List ℕ)) → RefusesLong read
    → IfLogged (ReadUpTo read_limit bytes) (Some had) left_now → read had ≡ read bytes
told_read read bytes had None long t = absurd t
told_read read bytes had (Some now) long t = read_is read bytes had now long t

had_is : {T : Type 0} (read : List ℕ → ReadAs T) (r : ReadAs T) (bytes had : List ℕ) (from now : SourceView)
    → RefusesLong read → read bytes ≡ r → GaveInput r bytes from now → from.left ≡ Some had → read had ≡ r
had_is read (Ok value) bytes had from now long e g is =
    ap read (told_all bytes had now.left (subst (λ (l : Option (List ℕ)). IfLogged (GaveAll bytes) l now.left) is g))
    ∙ e
had_is read (Err why) bytes had from now long e g is = told_read read bytes had now.left long
    (subst (λ (l : Option (List ℕ)). IfLogged (ReadUpTo read_limit bytes) l now.left) is g) ∙ e

-- a whole answer has a status for what the source had
answered_for : {T : Type 0} (read : List ℕ → ReadAs T) (right : ReadAs T → Answered → List ℕ → Type 0)
    (ends : ℕ → Type 0) (answered : Answered) (text : List ℕ) (from now : SourceView) → RefusesLong read
    → ((r : ReadAs T) → right r answered text → EndsFor ends r (status_of (Ok answered)))
    → AnswersSource read right from now answered text → CompletesSource read ends (status_of (Ok answered)) from.left
answered_for {T = T} read right ends answered text from now long f a had is =
    inl (subst (λ (r : ReadAs T). EndsFor ends r (status_of (Ok answered)))
    (sym (had_is read (read a.bytes) a.bytes had from now long refl a.gave is)) (f (read a.bytes) a.is))

-- ---- over a server in memory

memory_status : {T : Type 0} (right : Option Serving → T → List ℕ → Type 0) (kept : Option Serving) (r : ReadAs T)
    (answered : Answered) (text : List ℕ) → RightInMemory right kept r answered text
    → EndsFor IsWhole r (status_of (Ok answered))
memory_status right kept (Ok value) Done text h = refl
memory_status right kept (Ok value) Stopped text h = absurd h
memory_status right kept (Ok value) Refused text h = absurd h
memory_status right kept (Err why) Done text h = absurd h
memory_status right kept (Err why) Stopped text h = absurd h
memory_status right kept (Err why) Refused text h = refl

pub in_memory : {T : Type 0} (read : List ℕ → ReadAs T) (leaves : T → Serving → Type 0)
    (right : Option Serving → T → List ℕ → Type 0) (end : End) (kept : Option Serving) (from from_now : SourceView)
    (to to_now : SinkView) → RefusesLong read → EndsInMemory read leaves right end kept from from_now to to_now
    → from_now.faults ≡ from.faults → to_now.faults ≡ to.faults
    → CompletesSource read IsWhole (status_of end) from.left
in_memory read leaves right (Ok answered) kept from from_now to to_now long e s k had is =
    answered_for read (RightInMemory right kept) IsWhole answered e.wrote.text from from_now long
    (λ r. memory_status right kept r answered e.wrote.text) e.wrote.is had is
in_memory read leaves right (Err SourceFailed) kept from from_now to to_now long e s k had is =
    absurd (let rose : from.faults < from_now.faults = e.source in omega (arith, rose, s))
in_memory read leaves right (Err SinkFailed) kept from from_now to to_now long e s k had is =
    absurd (let rose : to.faults < to_now.faults = e.sink in omega (arith, rose, k))
in_memory read leaves right (Err OutOfMemory) kept from from_now to to_now long e s k had is = inr refl
in_memory read leaves right (Err DialFailed) kept from from_now to to_now long e s k had is = absurd e.left

-- ---- over a link

-- an answer over a link that isn't refused is one of a value
abbrev pub Unrefused : {T : Type 0} → (Option LastLink → T → Answered → List ℕ → Type 0) → Type 0
Unrefused {T = T} right = (last : Option LastLink) (value : T) (text : List ℕ) → right last value Refused text → ⊥

link_status : {T History : Type 0} (right : Option LastLink → T → Answered → List ℕ → Type 0)
    (dialled : List ℕ → History → History) (path : List ℕ) (dial dial_now : DialView History) (r : ReadAs T)
    (answered : Answered) (text : List ℕ) → Unrefused right
    → RightOverLink right dialled path dial dial_now r answered text
    → EndsFor IsLinkStatus r (status_of (Ok answered))
link_status right dialled path dial dial_now (Ok value) Done text un h = inl refl
link_status right dialled path dial dial_now (Ok value) Stopped text un h = inr (inl refl)
link_status right dialled path dial dial_now (Ok value) Refused text un h = absurd (un dial_now.last value text h.1)
link_status right dialled path dial dial_now (Err why) Done text un h = absurd h
link_status right dialled path dial dial_now (Err why) Stopped text un h = absurd h
link_status right dialled path dial dial_now (Err why) Refused text un h = refl

pub over_link : {T History : Type 0} (read : List ℕ → ReadAs T)
    (right : Option LastLink → T → Answered → List ℕ → Type 0) (dialled : List ℕ → History → History) (path : List ℕ)
    (end : End) (before now : Outside History) → RefusesLong read → Unrefused right
    → EndsOverLink read right dialled path end before now → now.source.faults ≡ before.source.faults
    → now.sink.faults ≡ before.sink.faults → CompletesSource read IsLinkStatus (status_of end) before.source.left
over_link read right dialled path (Ok answered) before now long un e s k had is =
    answered_for read (RightOverLink right dialled path before.dial now.dial) IsLinkStatus answered e.wrote.text
    before.source now.source long
    (λ r. link_status right dialled path before.dial now.dial r answered e.wrote.text un) e.wrote.is had is
over_link read right dialled path (Err SourceFailed) before now long un e s k had is =
    absurd (let rose : before.source.faults < now.source.faults = e.source_cause in omega (arith, rose, s))
over_link read right dialled path (Err SinkFailed) before now long un e s k had is =
    absurd (let rose : before.sink.faults < now.sink.faults = e.sink_cause in omega (arith, rose, k))
over_link read right dialled path (Err OutOfMemory) before now long un e s k had is = inr refl
over_link {T = T} read right dialled path (Err DialFailed) before now long un e s k had is =
    let gave = e.dial.0 in
    inl (subst (λ (r : ReadAs T). EndsFor IsLinkStatus r 6)
    (sym (had_is read (Ok gave.0) gave.1.bytes had before.source now.source long gave.1.reads gave.1.gave is))
    (inr (inr refl)))

-- ---- at the sink alone

pub at_sink : (right : Answered → List ℕ → Type 0) (n : ℕ) (end : End) (before now : SinkView)
    → ((answered : Answered) (text : List ℕ) → right answered text → status_of (Ok answered) ≡ n)
    → EndsAtSink right end before now → now.faults ≡ before.faults → (status_of end ≡ n) ⊎ (status_of end ≡ 5)
at_sink right n (Ok answered) before now f e k = inl (f answered e.wrote.text e.wrote.is)
at_sink right n (Err SourceFailed) before now f e k = absurd (e.only.0 refl)
at_sink right n (Err SinkFailed) before now f e k = absurd (let rose : before.faults < now.faults = e.cause in
    omega (arith, rose, k))
at_sink right n (Err OutOfMemory) before now f e k = inr refl
at_sink right n (Err DialFailed) before now f e k = absurd (e.only.1 refl)
