-- What a round is, of its holds.
use Rattle.std.proofs.Common.{◌≡◌, ℕ, List, [], refl, sym, subst, Ok, Err, None, true, false, true≢false}
use Rattle.std.specs.Prelude.{Bool, Option, Result}
use Rattle.session_model.specs.declared.entry.Entry.{Entry}
use Rattle.session_model.specs.declared.entry.Entry.TheVariants as entry
use Rattle.session_seats.specs.declared.view.Claim.{Claim}
use Rattle.session_seats.specs.declared.view.Receipt.{Receipt}
use Rattle.session_seats.specs.Holds.{Allowance, Applied, AddsEntries, Hold, passes}
use Rattle.session_seats.proofs.GrowLaws.{grew_on, grew_weaker}
use Rattle.session_seats.proofs.HoldLaws.{hold_map}
use Rattle.sftp_lanes.specs.Events.{FrameRead}
use Rattle.sftp_link.specs.Views.{LinkView}
use Rattle.sftp_model.specs.declared.error.Error.{Error}
use Rattle.sftp_wire.specs.FrameReader.{Received}
use Rattle.sftp_tasks.specs.declared.frames.Handed.{Handed}
use Rattle.sftp_tasks.specs.declared.locked.Locked.{Locked}
use Rattle.sftp_tasks.specs.Entries.{by_failing, by_flush, by_nothing, by_read}
use Rattle.sftp_tasks.specs.LockedEvents.{CountsTakenFrame, HandingOut, LooksForFrame, ReadsFrame, TakingFrame, UnlessFault, NotesWritten, tells_written}
use Rattle.sftp_tasks.specs.Rounds.{FlushesRound, ReadsRound, RefusesRound, HoldsOnce, Token}
use Rattle.sftp_tasks.specs.SessionEvents.{RefusesCall}
use Rattle.sftp_tasks.specs.Shows.{shown_of}
use Rattle.sftp_tasks.proofs.HoldLaws.{none_passes, taking_frame}

-- ---- which entries

nothing_flushes : (lane : Option ℕ) (e : Entry) → by_nothing lane e ≡ true → by_flush lane e ≡ true
nothing_flushes lane e h = absurd (true≢false (sym h))

nothing_reads : (lane : Option ℕ) (e : Entry) → by_nothing lane e ≡ true → by_read lane e ≡ true
nothing_reads lane e h = absurd (true≢false (sym h))

failing_flushes : (lane : Option ℕ) (e : Entry) → by_failing lane e ≡ true → by_flush lane e ≡ true
failing_flushes lane (entry.Kept f) h = refl
failing_flushes lane (entry.Event x) h = absurd (true≢false (sym h))
failing_flushes lane (entry.Added l call) h = absurd (true≢false (sym h))
failing_flushes lane (entry.LetGo l) h = absurd (true≢false (sym h))

failing_reads : (lane : Option ℕ) (e : Entry) → by_failing lane e ≡ true → by_read lane e ≡ true
failing_reads lane (entry.Kept f) h = refl
failing_reads lane (entry.Event x) h = absurd (true≢false (sym h))
failing_reads lane (entry.Added l call) h = absurd (true≢false (sym h))
failing_reads lane (entry.LetGo l) h = absurd (true≢false (sym h))

pub nothing_fails : (lane : Option ℕ) (a b : Claim) → AddsEntries (by_nothing lane) a b
    → AddsEntries (by_failing lane) a b
nothing_fails lane a b g = grew_weaker (by_nothing lane) (by_failing lane) (λ e h. absurd (true≢false (sym h))) a b g

-- a hold, and then one that adds nothing, or a fault
pub flush_then_nothing : (lane : Option ℕ) (a b c : Claim) → AddsEntries (by_flush lane) a b
    → AddsEntries (by_nothing lane) b c → AddsEntries (by_flush lane) a c
flush_then_nothing lane a b c g h = grew_on (by_flush lane) a b c g
    (grew_weaker (by_nothing lane) (by_flush lane) (nothing_flushes lane) b c h)

pub flush_then_failing : (lane : Option ℕ) (a b c : Claim) → AddsEntries (by_flush lane) a b
    → AddsEntries (by_failing lane) b c → AddsEntries (by_flush lane) a c
flush_then_failing lane a b c g h = grew_on (by_flush lane) a b c g
    (grew_weaker (by_failing lane) (by_flush lane) (failing_flushes lane) b c h)

pub nothing_then_read : (lane : Option ℕ) (a b c : Claim) → AddsEntries (by_nothing lane) a b
    → AddsEntries (by_read lane) b c → AddsEntries (by_read lane) a c
nothing_then_read lane a b c g h = grew_on (by_read lane) a b c
    (grew_weaker (by_nothing lane) (by_read lane) (nothing_reads lane) a b g) h

pub nothing_then_failing : (lane : Option ℕ) (a b c : Claim) → AddsEntries (by_nothing lane) a b
    → AddsEntries (by_failing lane) b c → AddsEntries (by_read lane) a c
nothing_then_failing lane a b c g h = nothing_then_read lane a b c g
    (grew_weaker (by_failing lane) (by_read lane) (failing_reads lane) b c h)

pub nothing_reads_all : (lane : Option ℕ) (a b : Claim) → AddsEntries (by_nothing lane) a b
    → AddsEntries (by_read lane) a b
nothing_reads_all lane a b g = grew_weaker (by_nothing lane) (by_read lane) (nothing_reads lane) a b g

pub nothing_flushes_all : (lane : Option ℕ) (a b : Claim) → AddsEntries (by_nothing lane) a b
    → AddsEntries (by_flush lane) a b
nothing_flushes_all lane a b g = grew_weaker (by_nothing lane) (by_flush lane) (nothing_flushes lane) a b g

-- if the second fault came with the result of the hold
pub kept_was_read : (lane : Option ℕ) (a b : Claim) → AddsEntries (by_failing lane) a b → AddsEntries (by_read lane) a b
kept_was_read lane a b g = grew_weaker (by_failing lane) (by_read lane) (failing_reads lane) a b g

-- ---- the holds

module _ {X Y : Type 0} {test : Entry → Bool} {needs : Allowance} {old new : List Receipt} {copied : Result X Y}
    (m n : Token) where
  pub handed_none : {Service : Type 0} (before : LinkView Service) (did : Result (Option Handed) Error) → did ≡ Ok None
      → Hold shown_of (Applied shown_of test needs (λ y z. UnlessFault HandingOut y z did) copied old new) m n
      → FlushesRound false m n before before
  handed_none before did is h =
      let r = subst (λ (x : Result (Option Handed) Error). UnlessFault HandingOut h.before h.after x) is h.did.does in
      (hold_map shown_of m n h (r.0.0, r.1), refl)

  pub hand_refused : {Service : Type 0} (before : LinkView Service) (did : Result (Option Handed) Error) (e : Error)
      → did ≡ Err e
      → Hold shown_of (Applied shown_of test needs (λ y z. UnlessFault HandingOut y z did) copied old new) m n
      → RefusesRound e m n before before
  hand_refused before did e is h =
      let r = subst (λ (x : Result (Option Handed) Error). UnlessFault HandingOut h.before h.after x) is h.did.does in
      (hold_map shown_of m n h r.0.0, refl)

  pub look_false : {Service : Type 0} (before : LinkView Service) (did : Result Bool Error) → did ≡ Ok false
      → Hold shown_of (Applied shown_of test needs (λ y z. UnlessFault LooksForFrame y z did) copied old new) m n
      → ReadsRound false m n before before
  look_false before did is h = (
    hold_map shown_of m n h (subst (λ (x : Result Bool Error). UnlessFault LooksForFrame h.before h.after x) is
        h.did.does),
    refl,
  )

  pub look_refused : {Service : Type 0} (before : LinkView Service) (did : Result Bool Error) (e : Error) → did ≡ Err e
      → Hold shown_of (Applied shown_of test needs (λ y z. UnlessFault LooksForFrame y z did) copied old new) m n
      → RefusesRound e m n before before
  look_refused before did e is h =
      let r = subst (λ (x : Result Bool Error). UnlessFault LooksForFrame h.before h.after x) is h.did.does in (
        hold_map shown_of m n h (subst (λ (z : Locked). RefusesCall e h.before.session z.session) (sym r.0.0) r.0.1),
        refl,
      )

  pub look_true : (did : Result Bool Error) → did ≡ Ok true
      → Hold shown_of (Applied shown_of test needs (λ y z. UnlessFault LooksForFrame y z did) copied old new) m n
      → HoldsOnce (λ y z more. UnlessFault LooksForFrame y z (Ok true)) m n
  look_true did is h = hold_map shown_of m n h (subst (λ (x : Result Bool Error). UnlessFault LooksForFrame h.before
      h.after x) is h.did.does)

  -- if what was read of a frame is taken, the frame is
  pub took : (frame : Received) (read : FrameRead) (did r : Result (Unit {0}) Error) → did ≡ r → ReadsFrame frame read
      → Hold shown_of (Applied shown_of test needs (λ y z. UnlessFault (CountsTakenFrame read) y z did) copied old new)
      m n → HoldsOnce (λ y z more. UnlessFault (TakingFrame frame) y z r) m n
  took frame read did r is reads h =
      let d = subst (λ (x : Result (Unit {0}) Error). UnlessFault (CountsTakenFrame read) h.before h.after x) is
      h.did.does in
      hold_map shown_of m n h (taking_frame frame read h.before h.after r reads d.0, d.1)

  pub refuses_frame : (frame : Received) (read : FrameRead) (did : Result (Unit {0}) Error) (e : Error) → did ≡ Err e
      → ReadsFrame frame read
      → Hold shown_of (Applied shown_of test needs (λ y z. UnlessFault (CountsTakenFrame read) y z did) copied old new)
      m n → HoldsOnce (λ y z more. TakingFrame frame y z (Err e)) m n
  refuses_frame frame read did e is reads h =
      let d = subst (λ (x : Result (Unit {0}) Error). UnlessFault (CountsTakenFrame read) h.before h.after x) is
      h.did.does in
      hold_map shown_of m n h (taking_frame frame read h.before h.after (Err e) reads d.0)

pub noted : {X Y : Type 0} {frames : ℕ} {old new : List Receipt} {copied : Result X Y} (lane : Option ℕ) (m n : Token)
    → Hold shown_of (Applied shown_of (passes by_nothing lane) (tells_written frames) (NotesWritten frames) copied old
    new) m n
    → HoldsOnce (λ y z more. (more ≡ []) × NotesWritten frames y z) m n
noted lane m n h = hold_map shown_of m n h (none_passes lane h.more h.did.goes.passes, h.did.does)
