-- The oldest deferred write.
use Rattle.std.proofs.Common.{◌≡◌, ◌∙◌, ap, subst, List, [], ◌∷◌, ◌++◌, Option, Some, slice_get, IsSome}
use Rattle.std.specs.Option.{option_to_list}
use Rattle.sftp_model.specs.declared.answers.Expected.TheVariants as expected
use Rattle.sftp_core.specs.Core.{Core, after_poll, record_at, reply_in}
use Rattle.plan_state.specs.Asked.{HoldsTicket}
use Rattle.sftp_buffered.specs.declared.file.DeferredWrite.{DeferredWrite}
use Rattle.sftp_buffered.specs.Buffered.{AreHeld}
use Rattle.sftp_buffered.specs.Steps.{HasReply, oldest_polled, oldest_reply}
use Rattle.sftp_buffered.proofs.Replies.{status_plain}

-- its ticket is held
pub held_oldest : (core : Core) (ds : List DeferredWrite) (d : DeferredWrite) → slice_get ds 0 ≡ Some d
    → AreHeld core ds → HoldsTicket core d.ticket expected.Status
held_oldest core [] d e held = absurd cc
held_oldest core (x ∷ ds) d e held = (let same : x ≡ d = cc in
    subst (λ (y : DeferredWrite). HoldsTicket core y.ticket expected.Status) same held.0)

pub taken_front : (ds rest : List DeferredWrite) (r : Option DeferredWrite) (d : DeferredWrite) → ds ≡ option_to_list r
    ++ rest → r ≡ Some d → slice_get ds 0 ≡ Some d
taken_front ds rest r d e is = ap (λ (x : List DeferredWrite). slice_get x 0) e
    ∙ ap (λ (x : Option DeferredWrite). slice_get (option_to_list x ++ rest) 0) is

-- what the core has for it
pub oldest_there : (core : Core) (ds : List DeferredWrite) (d : DeferredWrite) → slice_get ds 0 ≡ Some d
    → oldest_reply core ds ≡ reply_in (record_at core d.ticket)
oldest_there core [] d e = absurd cc
oldest_there core (x ∷ ds) d e = (let same : x ≡ d = cc in ap
    (λ (y : DeferredWrite). reply_in (record_at core y.ticket)) same)

pub polled_there : (core : Core) (ds : List DeferredWrite) (d : DeferredWrite) → slice_get ds 0 ≡ Some d
    → oldest_polled core ds ≡ after_poll core d.ticket
polled_there core [] d e = absurd cc
polled_there core (x ∷ ds) d e = (let same : x ≡ d = cc in ap (λ (y : DeferredWrite). after_poll core y.ticket) same)

-- its status was taken
pub has_oldest_reply : (core : Core) (ds : List DeferredWrite) (d : DeferredWrite) → slice_get ds 0 ≡ Some d
    → AreHeld core ds → IsSome (oldest_reply core ds)
    → HasReply core d.ticket
has_oldest_reply core ds d e held taken =
    record {
      kind = expected.Status;
      held = held_oldest core ds d e held;
      plain = status_plain;
      taken = subst IsSome (oldest_there core ds d e) taken;
    }
