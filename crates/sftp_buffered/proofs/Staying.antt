-- A ticket of another is none of a file's after a poll of the file.
use Rattle.std.proofs.Common.{◌≡◌, ap, sym, subst, ℕ, List, [], ◌∷◌, ◌++◌, Result, Ok, Err, inl, inr, ◌⊎◌}
use Rattle.std.specs.declared.io.traits.SeekFrom.{SeekFrom}
use Rattle.sftp_model.specs.declared.answers.Expected.{Expected}
use Rattle.sftp_model.specs.declared.error.Error.{Error}
use Rattle.sftp_model.specs.declared.error.Error.TheVariants as error
use Rattle.sftp_model.specs.declared.outcome.Outcome.{Outcome}
use Rattle.plan_model.specs.Moves.{Answers, Plan}
use Rattle.sftp_core.specs.Core.{Core}
use Rattle.plan_state.specs.Asked.{HoldsTicket}
use Rattle.plan_state.specs.declared.submission.Asking.{Asking}
use Rattle.plan_state.specs.declared.poll.Poll.{Poll}
use Rattle.plan_state.specs.declared.poll.Poll.TheVariants as poll
use Rattle.sftp_buffered.specs.declared.file.DeferredWrite.{DeferredWrite}
use Rattle.sftp_buffered.specs.Buffered.{AreApart, CompatValue, DefersWrites, IsApart, IsSound}
use Rattle.sftp_buffered.specs.Flushes.{FlushesTo, flush_plan}
use Rattle.sftp_buffered.specs.Polls.{AnyCut, AsksAndEnds, PollsPlan, PlanWaits}
use Rattle.sftp_buffered.specs.Reads.{BeganRead, ReadsTo}
use Rattle.sftp_buffered.specs.Seeks.{SeeksTo, StandsElsewhere}
use Rattle.sftp_buffered.specs.Steps.{IsLeft}
use Rattle.sftp_buffered.specs.Writes.{WritesBuffered, write_plan}
use Rattle.sftp_buffered.proofs.Holding.{not_free}
use Rattle.sftp_buffered.proofs.Keeping.{replies_told}
use Rattle.sftp_buffered.proofs.Resting.{apart_rest, apart_taken}

apart_last : (ticket : ℕ) (ds : List DeferredWrite) (last : DeferredWrite) → AreApart ticket ds
    → (ticket ≡ last.ticket → ⊥) → AreApart ticket (ds ++ last ∷ [])
apart_last ticket [] last apart new = (new, tt)
apart_last ticket (d ∷ ds) last apart new = (apart.0, apart_last ticket ds last apart.1 new)

apart_left : (ticket : ℕ) (old new : Core) (p q : CompatValue) → IsLeft old new p q → IsApart ticket p
    → IsApart ticket q
apart_left ticket old new p q l apart = subst (IsApart ticket) (sym l.same) apart

-- the ticket of a WRITE that was submitted was free
apart_asks : (ticket : ℕ) (kind : Expected) (plan : Plan) (o : Outcome) (Cut : Asking → Type 0) (answers : Answers)
    (old new : Core) (p q : CompatValue)
    → HoldsTicket old ticket kind → IsApart ticket p → AsksAndEnds plan o Cut answers old new p q → IsApart ticket q
apart_asks ticket kind plan o Cut answers old new p q held apart a =
    let rest : IsApart ticket a.rest = apart_taken ticket a.middle a.between p a.rest a.stays.taken
    (ap (λ (c : CompatValue). c.reading) a.stays.same) apart in
    subst (IsApart ticket) (sym a.left) (record {
      writes = apart_last ticket a.rest.deferred (record { place = a.rest.place; len = a.len; ticket = a.ticket })
          rest.writes (not_free old ticket a.ticket kind held a.submitted.free);
      read = tt;
    })

apart_polls : {V : Type 0} (ticket : ℕ) (kind : Expected) (Pending Left : Type 0) (Cut : Asking → Type 0) (plan : Plan)
    (o : V → Outcome) (answers : Answers) (old new : Core) (p q : CompatValue) (result : Poll (Result V Error))
    → (Pending → IsApart ticket q) → (Left → IsApart ticket q) → HoldsTicket old ticket kind → IsApart ticket p
    → PollsPlan Pending Left Cut plan o answers old new p q result → IsApart ticket q
apart_polls ticket kind Pending Left Cut plan o answers old new p q poll.Pending pending left held apart h = pending h
apart_polls ticket kind Pending Left Cut plan o answers old new p q (poll.Ready (Err error.OutOfMemory)) pending left
    held apart h = left h
apart_polls ticket kind Pending Left Cut plan o answers old new p q
    (poll.Ready (Err (error.BackgroundTaskFailure fault))) pending left held apart h = left h.2
apart_polls ticket kind Pending Left Cut plan o answers old new p q (poll.Ready (Ok value)) pending left held apart
    (inl e) = apart_rest ticket old new p q e.rest apart
apart_polls ticket kind Pending Left Cut plan o answers old new p q (poll.Ready (Ok value)) pending left held apart
    (inr a) = apart_asks ticket kind plan (o value) Cut answers old new p q held apart a
apart_polls ticket kind Pending Left Cut plan o answers old new p q (poll.Ready (Err e)) pending left held apart h =
    apart_rest ticket old new p q h.rest apart

pub writes_apart : (Cut : Asking → Type 0) (bytes : List ℕ) (old new : Core) (p q : CompatValue)
    (result : Poll (Result ℕ Error)) (ticket : ℕ) (kind : Expected)
    → IsSound old p → HoldsTicket old ticket kind → IsApart ticket p → WritesBuffered Cut bytes old new p q result
    → IsApart ticket q
writes_apart Cut bytes old new p q result ticket kind s held apart w =
    let told : (answers : Answers) × DefersWrites old p answers = replies_told old p s in
    apart_polls ticket kind _ _ Cut (write_plan bytes old p) _ told.0 old new p q result
    (λ waits. apart_left ticket old new p q waits.left apart) (λ left. apart_left ticket old new p q left apart)
    held apart (w.polled told.0 told.1)

pub flushes_apart : (old new : Core) (p q : CompatValue) (result : Poll (Result (Unit {0}) Error)) (ticket : ℕ)
    (kind : Expected) → IsSound old p → HoldsTicket old ticket kind → IsApart ticket p → FlushesTo old new p q result
    → IsApart ticket q
flushes_apart old new p q result ticket kind s held apart f =
    let told : (answers : Answers) × DefersWrites old p answers = replies_told old p s in
    apart_polls ticket kind _ _ AnyCut (flush_plan old p) _ told.0 old new p q result
    (λ waits. apart_rest ticket old new p q waits.left.rest apart)
    (λ left. apart_rest ticket old new p q left.rest apart) held apart (f.polled told.0 told.1)

apart_begun : (ticket : ℕ) (kind : Expected) (plan : Plan) (answers : Answers) (old new : Core) (p q : CompatValue)
    → HoldsTicket old ticket kind → IsApart ticket p → BeganRead plan answers old new p q → IsApart ticket q
apart_begun ticket kind plan answers old new p q held apart b =
    subst (IsApart ticket) (sym b.left) (record {
      writes = apart.writes;
      read =
          not_free old ticket b.ticket kind held b.submitted.free;
    })

apart_pending : (ticket : ℕ) (kind : Expected) (plan : Plan) (answers : Answers) (old new : Core) (p q : CompatValue)
    → HoldsTicket old ticket kind → IsApart ticket p
    → PlanWaits plan answers old (IsLeft old new p q) ⊎ BeganRead plan answers old new p q → IsApart ticket q
apart_pending ticket kind plan answers old new p q held apart (inl w) = apart_left ticket old new p q w.left apart
apart_pending ticket kind plan answers old new p q held apart (inr b) =
    apart_begun ticket kind plan answers old new p q held apart b

pub reads_apart : {V : Type 0} (plan : Plan) (o : V → Outcome) (old new : Core) (p q : CompatValue)
    (result : Poll (Result V Error)) (ticket : ℕ) (kind : Expected)
    → IsSound old p → HoldsTicket old ticket kind → IsApart ticket p → ReadsTo plan o old new p q result
    → IsApart ticket q
reads_apart plan o old new p q result ticket kind s held apart r =
    let told : (answers : Answers) × DefersWrites old p answers = replies_told old p s in
    apart_polls ticket kind _ _ AnyCut plan o told.0 old new p q result
    (λ pending. apart_pending ticket kind plan told.0 old new p q held apart pending)
    (λ left. apart_left ticket old new p q left apart) held apart (r.polled told.0 told.1)

pub seeks_apart : (position : SeekFrom) (old new : Core) (p q : CompatValue) (result : Result (Unit {0}) Error)
    (ticket : ℕ) → IsApart ticket p → SeeksTo position old new p q result → IsApart ticket q
seeks_apart position old new p q result ticket apart s = by_move s.moves
  where
    by_move : IsLeft old new p q ⊎ StandsElsewhere old new p q → IsApart ticket q
    by_move (inl l) = apart_left ticket old new p q l apart
    by_move (inr m) = subst (IsApart ticket) (sym m.left) (record { writes = apart.writes; read = tt })
