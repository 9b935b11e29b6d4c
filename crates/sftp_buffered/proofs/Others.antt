-- What a poll leaves to the others that use the core.
use Rattle.std.proofs.Common.{
  ◌≡◌,
  ◌+◌,
  ◌∙◌,
  refl,
  sym,
  ap,
  subst,
  ℕ,
  Bool,
  true,
  false,
  List,
  [],
  ◌∷◌,
  ◌++◌,
  Option,
  Some,
  None,
  Result,
  Ok,
  Err,
  IfOk,
  IfErr,
  IsTrue,
}
use Rattle.sftp_model.specs.declared.answers.Expected.TheVariants as expected
use Rattle.sftp_model.specs.declared.error.Error.{Error}
use Rattle.sftp_model.specs.declared.error.Error.TheVariants as error
use Rattle.sftp_model.specs.declared.error.Fault.{Fault}
use Rattle.sftp_model.specs.declared.error.IoKind.TheVariants as kind
use Rattle.plan_model.specs.BufferPlans.{is_good}
use Rattle.sftp_core.specs.declared.id_record.IdRecord.{IdRecord}
use Rattle.sftp_core.specs.declared.id_record.IdRecord.TheVariants.{Waiting, Answered, Granted}
use Rattle.sftp_core.specs.Core.{Core, abandon_leaves, core_after_abandon, after_poll, record_at, core_after_drop, given_leaves, is_ticket, poll_leaves}
use Rattle.sftp_core.specs.Table.{handle_in_reply}
use Rattle.sftp_core.proofs.Elsewhere.{abandon_phase, poll_phase}
use Rattle.plan_state.specs.Asked.{SubmitsAsking, queued_by}
use Rattle.plan_state.specs.Keeping.{KeepsHeld}
use Rattle.plan_state.specs.declared.submission.Asking.{Asking}
use Rattle.plan_state.specs.declared.submission.Asking.TheVariants.{Whole, Parts}
use Rattle.plan_state.specs.declared.poll.Poll.TheVariants as poll
use Rattle.plan_state.proofs.Keeping.{grants_both, keeps_same, submitted_holds}
use Rattle.plan_state.proofs.OthersKept.{
  cancelled_keeps_grants,
  cancelled_on,
  polled_keeps_grants,
  polled_on,
  submitted_keeps,
}
use Rattle.sftp_buffered.specs.declared.file.DeferredWrite.{DeferredWrite}
use Rattle.sftp_buffered.specs.declared.file.ReadUnderWay.{ReadUnderWay}
use Rattle.sftp_buffered.specs.Buffered.{AreApart, AreHeld, CompatValue, IsApart, IsHeldRead, IsOther, IsSound, LeavesOthers}
use Rattle.sftp_buffered.specs.Steps.{LooksAtOldest, with_deferred_write, freed_core, oldest_polled, oldest_reply, read_dropped}
use Rattle.sftp_buffered.specs.Writes.{SendsWrites, SendsNoWrite}
use Rattle.sftp_buffered.proofs.Holding.{freed_reading, held_last, parts_of, read_freed, read_stays}

-- ---- the options

given_options : (core : Core) (t : ℕ) (b : Option (List ℕ)) → (given_leaves core t b).options ≡ core.options
given_options core t (Some handle) = refl
given_options core t None = refl

poll_options : (core : Core) (t : ℕ) (f : Option Fault) (p : Option IdRecord) → (poll_leaves core t f p).options
    ≡ core.options
poll_options core t f (Some (Answered e r)) = given_options core t (handle_in_reply r)
poll_options core t (Some f) (Some (Waiting e s w)) = refl
poll_options core t None (Some (Waiting e s w)) = refl
poll_options core t f (Some (Granted handle users)) = refl
poll_options core t f None = refl

dropped_options : (core : Core) (t : ℕ) (b : Option (List ℕ)) → (core_after_drop core t b).options ≡ core.options
dropped_options core t (Some handle) = refl
dropped_options core t None = refl

abandon_options : (core : Core) (t : ℕ) (p : Option IdRecord) → (abandon_leaves core t p).options ≡ core.options
abandon_options core t (Some (Waiting e s w)) = refl
abandon_options core t (Some (Answered e r)) = dropped_options core t (handle_in_reply r)
abandon_options core t (Some (Granted handle users)) = refl
abandon_options core t None = refl

queued_phase : (core : Core) (t : ℕ) (asking : Asking) → (queued_by core t asking).phase ≡ core.phase
queued_phase core t (Whole asked) = refl
queued_phase core t (Parts handle offset parts) = refl

queued_options : (core : Core) (t : ℕ) (asking : Asking) → (queued_by core t asking).options ≡ core.options
queued_options core t (Whole asked) = refl
queued_options core t (Parts handle offset parts) = refl

-- ---- each step

pub others_same : (core : Core) (c : CompatValue) → LeavesOthers core core c
others_same core c = record {
  holds = λ ticket kind apart h. h;
  grants = (keeps_same core).grants;
  phase = refl;
  options = refl;
}

pub others_left : (old new : Core) (c : CompatValue) → new ≡ old → LeavesOthers old new c
others_left old new c same = subst (λ (x : Core). LeavesOthers old x c) (sym same) (others_same old c)

-- two steps, one after the other
pub others_both : (a b d : Core) (c : CompatValue) → LeavesOthers a b c → LeavesOthers b d c → LeavesOthers a d c
others_both a b d c h k =
    record {
      holds = λ ticket kind apart x. k.holds ticket kind apart (h.holds ticket kind apart x);
      grants = grants_both a b d h.grants k.grants;
      phase = k.phase ∙ h.phase;
      options = k.options ∙ h.options;
    }

pub others_submitted : (old new : Core) (asking : Asking) (ticket : ℕ) (c : CompatValue)
    → SubmitsAsking old asking ticket new → LeavesOthers old new c
others_submitted old new asking ticket c s =
    let k : KeepsHeld old new = submitted_keeps old new asking ticket s in
    record {
      holds = λ other kind apart h. k.holds other kind h;
      grants = k.grants;
      phase = ap (λ (x : Core). x.phase) s.queued ∙ queued_phase old ticket asking;
      options = ap (λ (x : Core). x.options) s.queued ∙ queued_options old ticket asking;
    }

-- a ticket of the file is polled
pub others_polled : (core : Core) (t : ℕ) (c : CompatValue) → IsTrue (is_ticket (record_at core t))
    → ((other : ℕ) → IsApart other c → other ≡ t → ⊥) → LeavesOthers core (after_poll core t) c
others_polled core t c counted own =
    record {
      holds = λ other kind apart h. polled_on core t other kind (own other apart) h;
      grants = polled_keeps_grants core t counted;
      phase = poll_phase core t core.fault (record_at core t);
      options = poll_options core t core.fault (record_at core t);
    }

-- or given up
pub others_abandoned : (core : Core) (t : ℕ) (c : CompatValue) → IsTrue (is_ticket (record_at core t))
    → ((other : ℕ) → IsApart other c → other ≡ t → ⊥) → LeavesOthers core (core_after_abandon core t) c
others_abandoned core t c counted own =
    record {
      holds = λ other kind apart h. cancelled_on core t other kind (own other apart) h;
      grants = cancelled_keeps_grants core t counted;
      phase = abandon_phase core t (record_at core t);
      options = abandon_options core t (record_at core t);
    }

-- the oldest status is taken
pub others_oldest : (core : Core) (ds : List DeferredWrite) (c : CompatValue)
    → ((other : ℕ) → IsApart other c → AreApart other ds) → AreHeld core ds
    → LeavesOthers core (oldest_polled core ds) c
others_oldest core [] c own held = others_same core c
others_oldest core (d ∷ ds) c own held = others_polled core d.ticket c held.0.counted
    (λ other apart. (own other apart).0)

-- the READ is given up
pub others_dropped : (core : Core) (r : Option ReadUnderWay) (c : CompatValue)
    → ((other : ℕ) → IsApart other c → IsOther other r) → IsHeldRead core r → LeavesOthers core (read_dropped core r) c
others_dropped core None c own held = others_same core c
others_dropped core (Some r) c own held = others_abandoned core r.ticket c held.counted own

-- ---- a send

others_freed : (full : Bool) (core : Core) (c : CompatValue) → AreHeld core c.deferred
    → LeavesOthers core (freed_core full core c) c
others_freed true core c held = others_oldest core c.deferred c (λ other apart. apart.writes) held
others_freed false core c held = others_same core c

-- the oldest status is taken once another write was deferred
others_way : (full : Bool) (old core : Core) (c : CompatValue) (n ticket : ℕ) (ds : List DeferredWrite) → c.deferred
    ≡ ds → (full ≡ true → is_good (oldest_reply old ds) ≡ true)
    → AreHeld core (ds ++ record { place = c.place; len = n; ticket = ticket } ∷ [])
    → LeavesOthers core (freed_core full core (record c {
      deferred = ds
          ++ record { place = c.place; len = n; ticket = ticket } ∷ [];
      place = c.place + 1;
    })) c
others_way true old core c n ticket [] is good held = absurd
    (let bad : is_good (oldest_reply old []) ≡ true = good refl in cc)
others_way true old core c n ticket (d ∷ ds) is good held =
    others_polled core d.ticket c held.0.counted (λ other apart.
    (subst (λ (x : List DeferredWrite). AreApart other x) is apart.writes).0)
others_way false old core c n ticket ds is good held = others_same core c

others_sent : (full : Bool) (parts : List (List ℕ)) (old new : Core) (p q : CompatValue) (n : ℕ) → IsSound old p
    → (full ≡ true → is_good (oldest_reply old p.deferred) ≡ true)
    → SendsWrites full parts old new p q n → LeavesOthers old new p
others_sent full parts old new p q n sound good s =
    let a : CompatValue = with_deferred_write p n s.ticket in
    let held : AreHeld s.middle a.deferred =
    held_last old s.middle (parts_of p parts) p.deferred (record { place = p.place; len = n; ticket = s.ticket })
    s.submitted (submitted_holds old s.middle (parts_of p parts) s.ticket expected.Status s.submitted refl)
    sound.held.writes in
    let read : IsHeldRead (freed_core full s.middle a) p.reading =
    subst (λ (r : Option ReadUnderWay). IsHeldRead (freed_core full s.middle a) r) (freed_reading full a)
    (read_freed full s.middle a held (read_stays old s.middle (parts_of p parts) s.ticket p.reading s.submitted
    sound.held.read)) in
    subst (λ (x : Core). LeavesOthers old x p) (sym s.core)
    (others_both old s.middle (read_dropped (freed_core full s.middle a) p.reading) p
    (others_submitted old s.middle (parts_of p parts) s.ticket p s.submitted)
    (others_both s.middle (freed_core full s.middle a) (read_dropped (freed_core full s.middle a) p.reading) p
    (others_way full old s.middle p n s.ticket p.deferred refl good held)
    (others_dropped (freed_core full s.middle a) p.reading p (λ other apart. apart.read) read)))

others_unsent : (full : Bool) (n : ℕ) (old new : Core) (p q : CompatValue) (e : Error) → IsSound old p
    → SendsNoWrite full n old new p q e → LeavesOthers old new p
others_unsent full n old new p q error.OutOfMemory s u = others_left old new p u.core
others_unsent full n old new p q (error.BackgroundTaskFailure fault) s u = others_left old new p u.2.core
others_unsent full n old new p q (error.IOError kind.OffsetOverflow) s u =
    subst (λ (x : Core). LeavesOthers old x p) (sym u.2) (others_freed full old p s.held.writes)
others_unsent full n old new p q other s u = absurd u

pub others_send : (full : Bool) (parts : List (List ℕ)) (n : ℕ) (old new : Core) (p q : CompatValue)
    (result : Result ℕ Error) → IsSound old p → (full ≡ true → is_good (oldest_reply old p.deferred) ≡ true)
    → IfOk result (λ k. (k ≡ n) × SendsWrites full parts old new p q n) → IfErr result (SendsNoWrite full n old new p q)
    → LeavesOthers old new p
others_send full parts n old new p q (Ok k) s good ok err = others_sent full parts old new p q n s good ok.1
others_send full parts n old new p q (Err e) s good ok err = others_unsent full n old new p q e s err

-- a look at the oldest status
pub others_looked : (old new : Core) (p q : CompatValue) (e : Error) → LooksAtOldest old new p q (poll.Ready (Err e))
    → IsSound old p → LeavesOthers old new p
others_looked old new p q (error.BackgroundTaskFailure fault) f s = others_left old new p f.2.core
others_looked old new p q other f s = subst (λ (x : Core). LeavesOthers old x p) (sym f.core)
    (others_oldest old p.deferred p (λ t apart. apart.writes) s.held.writes)
