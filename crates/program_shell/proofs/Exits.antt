-- How a program ends with its source, at each of its exits.
use Rattle.std.proofs.Common.{◌≡◌, ℕ, List, inl, inr, refl, sym, subst}
use Rattle.std.specs.Prelude.{Option, Some, None, Result, Ok, Err, IfSome}
use Rattle.ssh_encoding.specs.declared.out_of_memory.OutOfMemory.{OutOfMemory as Starved}
use Rattle.sftp_link.specs.Told.{IfLogged, ReadUpTo}
use Rattle.sftp_link.specs.Views.{DialView, LastLink, SinkView, SourceView}
use Rattle.sftp_map_server.specs.Serving.{Serving}
use Rattle.program_shell.specs.declared.ending.Answered.{Answered}
use Rattle.program_shell.specs.declared.ending.Answered.TheVariants.{Done, Stopped, Refused}
use Rattle.program_shell.specs.declared.ending.ProgramFailure.{ProgramFailure}
use Rattle.program_shell.specs.declared.ending.ProgramFailure.TheVariants.{SourceFailed, SinkFailed, OutOfMemory, DialFailed}
use Rattle.program_shell.specs.Ended.{
  AnswersSource,
  DialsAfter,
  End,
  EndsAtSink,
  EndsInMemory,
  EndsOverLink,
  GaveValue,
  KeptInMemory,
  IsOnlyAnswer,
  ReadAs,
  RefusesLong,
  RightInMemory,
  RightOverLink,
  read_limit,
}
use Rattle.program_shell.specs.Outside.{Outside}
use Rattle.program_shell.specs.Replies.{GivesBytes, RepliesAt, RepliesInMemory}
use Rattle.program_shell.specs.declared.printed.Printed.{Printed}
use Rattle.program_shell.proofs.Reading.{gave, gave_value}
use Rattle.program_shell.proofs.Writing.{at_sink, dial_stays, just, nothing_new, source_stays, wrote_as}

-- what a source gives while it doesn't fail
abbrev pub Read : List ℕ → SourceView → SourceView → Type 0
Read bytes from now = IfLogged (ReadUpTo read_limit bytes) from.left now.left

none_kept : (P : Serving → Type 0) (kept : Option Serving) → kept ≡ None → IfSome kept P
none_kept P kept none = subst (λ (k : Option Serving). IfSome k P) (sym none) tt

pub some_kept : (P : Serving → Type 0) (kept : Option Serving) (server : Serving) → kept ≡ Some server → P server
    → IfSome kept P
some_kept P kept server is p = subst (λ (k : Option Serving). IfSome k P) (sym is) p

each_kept : (P Q : Serving → Type 0) (kept : Option Serving) → ((server : Serving) → P server → Q server)
    → IfSome kept P → IfSome kept Q
each_kept P Q None f h = tt
each_kept P Q (Some server) f h = f server h

-- ---- over a server in memory

-- a server of a value that a source gave
abbrev FromSource : {T : Type 0} → (List ℕ → ReadAs T) → (T → Serving → Type 0) → SourceView → SourceView → Serving → Type 0
FromSource {T = T} read leaves from now server =
    (value : T) × GaveValue read value from now × leaves value server

-- a server that is kept for the bytes is one of a value that the source gave
kept_from : {T : Type 0} (read : List ℕ → ReadAs T) (leaves : T → Serving → Type 0)
    (right : Option Serving → T → List ℕ → Type 0) (bytes : List ℕ) (r : Result Printed Starved)
    (kept : Option Serving) (from now : SourceView) → Read bytes from now
    → RepliesInMemory read leaves right bytes r kept → IfSome kept (FromSource read leaves from now)
kept_from {T = T} read leaves right bytes r kept from now t h =
    each_kept (λ server. (value : T) × (read bytes ≡ Ok value) × leaves value server)
    (FromSource read leaves from now) kept
    (λ server v. (v.0, gave_value read bytes v.0 from now h.long v.1 t, v.2)) h.left

-- the source was not read
pub memory_unread : {T : Type 0} (read : List ℕ → ReadAs T) (leaves : T → Serving → Type 0)
    (right : Option Serving → T → List ℕ → Type 0) (why : ProgramFailure) (kept : Option Serving)
    (from now : SourceView)
    (to : SinkView) → GivesBytes (Err why) from now → kept ≡ None
    → EndsInMemory read leaves right (Err why) kept from now to to
memory_unread read leaves right SourceFailed kept from now to g none =
    record { wrote = nothing_new to.written; left = none; source = g.cause; sink = refl }
memory_unread read leaves right SinkFailed kept from now to g none = absurd (g.only.0 refl)
memory_unread read leaves right OutOfMemory kept from now to g none = record {
  wrote = inl (nothing_new to.written);
  left = none_kept (FromSource read leaves from now) kept none;
  source = g.cause;
  sink = refl;
}
memory_unread read leaves right DialFailed kept from now to g none = absurd (g.only.1 refl)

-- there was no memory for the answer
pub memory_starved : {T : Type 0} (read : List ℕ → ReadAs T) (leaves : T → Serving → Type 0)
    (right : Option Serving → T → List ℕ → Type 0) (bytes : List ℕ) (e : Starved) (kept : Option Serving)
    (from now : SourceView) (to : SinkView) → Read bytes from now → now.faults ≡ from.faults
    → RepliesInMemory read leaves right bytes (Err e) kept
    → EndsInMemory read leaves right (Err OutOfMemory) kept from now to to
memory_starved read leaves right bytes e kept from now to t same r = record {
  wrote = inl (nothing_new to.written);
  left = kept_from read leaves right bytes (Err e) kept from now t r;
  source = same;
  sink = refl;
}

-- the answer was to be written
pub memory_answered : {T : Type 0} (read : List ℕ → ReadAs T) (leaves : T → Serving → Type 0)
    (right : Option Serving → T → List ℕ → Type 0) (bytes text : List ℕ) (reply : Printed) (end : End)
    (kept : Option Serving) (from now : SourceView) (to to_now : SinkView) → Read bytes from now
    → now.faults ≡ from.faults → RepliesInMemory read leaves right bytes (Ok reply) kept → text ≡ reply.text.items
    → EndsAtSink (IsOnlyAnswer reply.answered text) end to to_now
    → EndsInMemory read leaves right end kept from now to to_now
memory_answered read leaves right bytes text reply end kept from now to to_now t same r is w =
    let answered = reply.answered in
    let whole = AnswersSource read (RightInMemory right kept) from now in
    let all : whole answered text = record {
      bytes = bytes;
      gave = gave read bytes from now r.long t;
      is = subst (λ (x : List ℕ). RightInMemory right kept (read bytes) answered x) (sym is) r.ok;
    } in
    record {
      wrote = wrote_as (IsOnlyAnswer answered text) whole (just whole answered text all) end to to_now w.wrote;
      left = at_sink (λ why. KeptInMemory read leaves why kept from now) (IsOnlyAnswer answered text) end to to_now w tt
          (kept_from read leaves right bytes (Ok reply) kept from now t r);
      source = source_stays (IsOnlyAnswer answered text) end to to_now from.faults now.faults w same;
      sink = w.cause;
    }

-- ---- over a link

abbrev outside : {History : Type 0} → SourceView → SinkView → DialView History → Outside History
outside source sink dial = record { source = source; sink = sink; dial = dial }

-- the source was not read
pub link_unread : {T History : Type 0} (read : List ℕ → ReadAs T)
    (right : Option LastLink → T → Answered → List ℕ → Type 0) (dialled : List ℕ → History → History) (path : List ℕ)
    (why : ProgramFailure) (from now : SourceView) (to : SinkView) (dial : DialView History)
    → GivesBytes (Err why) from now
    → EndsOverLink read right dialled path (Err why) (outside from to dial) (outside now to dial)
link_unread read right dialled path SourceFailed from now to dial g =
    record { wrote = nothing_new to.written; dial = refl; source_cause = g.cause; sink_cause = refl; dial_cause = refl }
link_unread read right dialled path SinkFailed from now to dial g = absurd (g.only.0 refl)
link_unread read right dialled path OutOfMemory from now to dial g = record {
  wrote = inl (nothing_new to.written);
  dial = inl refl;
  source_cause = g.cause;
  sink_cause = refl;
  dial_cause = refl;
}
link_unread read right dialled path DialFailed from now to dial g = absurd (g.only.1 refl)

-- a value that was read to its end
read_whole : {T : Type 0} (read : List ℕ → ReadAs T) (bytes : List ℕ) (from now : SourceView) → RefusesLong read
    → Read bytes from now → (value : T) × (read bytes ≡ Ok value) → (value : T) × GaveValue read value from now
read_whole read bytes from now long t h = (h.0, gave_value read bytes h.0 from now long h.1 t)

-- there was no reply
pub link_unanswered : {T History : Type 0} (read : List ℕ → ReadAs T)
    (right : Option LastLink → T → Answered → List ℕ → Type 0) (dialled : List ℕ → History → History)
    (path bytes : List ℕ) (why : ProgramFailure) (from now : SourceView) (to : SinkView)
    (dial dial_now : DialView History)
    → Read bytes from now → now.faults ≡ from.faults
    → RepliesAt read right dialled path bytes (Err why) dial dial_now
    → EndsOverLink read right dialled path (Err why) (outside from to dial) (outside now to dial_now)
link_unanswered read right dialled path bytes SourceFailed from now to dial dial_now t same r =
    absurd (r.only.0 refl)
link_unanswered read right dialled path bytes SinkFailed from now to dial dial_now t same r =
    absurd (r.only.1 refl)
link_unanswered read right dialled path bytes OutOfMemory from now to dial dial_now t same r = record {
  wrote = inl (nothing_new to.written);
  dial = elim r.failed [
    | inl untouched ↦ inl untouched
    | inr after ↦ inr (read_whole read bytes from now r.long t after.0, after.1)
  ];
  source_cause = same;
  sink_cause = refl;
  dial_cause = r.cause;
}
link_unanswered read right dialled path bytes DialFailed from now to dial dial_now t same r = record {
  wrote = nothing_new to.written;
  dial = (read_whole read bytes from now r.long t r.failed.0, r.failed.1, r.failed.2);
  source_cause = same;
  sink_cause = refl;
  dial_cause = r.cause;
}

right_dialled : {T History : Type 0} (read : List ℕ → ReadAs T)
    (right : Option LastLink → T → Answered → List ℕ → Type 0) (dialled : List ℕ → History → History) (path : List ℕ)
    (r : ReadAs T) (bytes text : List ℕ) (answered : Answered) (from now : SourceView)
    (dial dial_now : DialView History) → RefusesLong read → read bytes ≡ r → Read bytes from now
    → RightOverLink right dialled path dial dial_now r answered text
    → DialsAfter dialled path ((value : T) × GaveValue read value from now) OutOfMemory dial dial_now
right_dialled read right dialled path (Ok value) bytes text answered from now dial dial_now long e t h =
    inr ((value, gave_value read bytes value from now long e t), h.0)
right_dialled read right dialled path (Err why) bytes text Done from now dial dial_now long e t h = absurd h
right_dialled read right dialled path (Err why) bytes text Stopped from now dial dial_now long e t h = absurd h
right_dialled read right dialled path (Err why) bytes text Refused from now dial dial_now long e t h = inl h.1

-- the answer was to be written
pub link_answered : {T History : Type 0} (read : List ℕ → ReadAs T)
    (right : Option LastLink → T → Answered → List ℕ → Type 0) (dialled : List ℕ → History → History)
    (path bytes text : List ℕ) (reply : Printed) (end : End) (from now : SourceView) (to to_now : SinkView)
    (dial dial_now : DialView History) → Read bytes from now → now.faults ≡ from.faults
    → RepliesAt read right dialled path bytes (Ok reply) dial dial_now → text ≡ reply.text.items
    → EndsAtSink (IsOnlyAnswer reply.answered text) end to to_now
    → EndsOverLink read right dialled path end (outside from to dial) (outside now to_now dial_now)
link_answered {T = T} read right dialled path bytes text reply end from now to to_now dial dial_now t same r is w =
    let answered = reply.answered in
    let whole = AnswersSource read (RightOverLink right dialled path dial dial_now) from now in
    let all : whole answered text = record {
      bytes = bytes;
      gave = gave read bytes from now r.long t;
      is = subst (λ (x : List ℕ). RightOverLink right dialled path dial dial_now (read bytes) answered x) (sym is) r.ok;
    } in
    record {
      wrote = wrote_as (IsOnlyAnswer answered text) whole (just whole answered text all) end to to_now w.wrote;
      dial = at_sink (λ why. DialsAfter dialled path ((value : T) × GaveValue read value from now) why dial dial_now)
          (IsOnlyAnswer answered text) end to to_now w tt
          (right_dialled read right dialled path (read bytes) bytes text answered from now dial dial_now r.long refl t
          all.is);
      source_cause = source_stays (IsOnlyAnswer answered text) end to to_now from.faults now.faults w same;
      sink_cause = w.cause;
      dial_cause = dial_stays (IsOnlyAnswer answered text) end to to_now dial.faults dial_now.faults w r.cause;
    }
