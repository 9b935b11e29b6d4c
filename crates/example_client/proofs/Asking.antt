-- What calls that were asked for await, and what polls, rounds and cancels leave to the others.
use Rattle.std.proofs.Common.{◌≡◌, ◌≢◌, ◌∙◌, List, ℕ, [], ◌∷◌, ◌++◌, IsTrue, true, ap, refl, subst, sym, inl, inr}
use Rattle.std.specs.Prelude.{Option, None, Result, Ok}
use Rattle.sftp_model.specs.declared.answers.Expected.{Expected}
use Rattle.sftp_model.specs.declared.answers.Expected.TheVariants as expected
use Rattle.sftp_model.specs.declared.error.Error.{Error}
use Rattle.sftp_model.specs.declared.file_attrs.FileAttrs.{FileAttrs}
use Rattle.sftp_model.specs.declared.outcome.Outcome.TheVariants as outcome
use Rattle.sftp_model.specs.declared.slot.Move.TheVariants.{Done}
use Rattle.sftp_model.specs.declared.slot.Site.{Site}
use Rattle.plan_model.specs.PathPlans.{stat_next}
use Rattle.sftp_core.specs.Core.{Core, record_at, is_ticket}
use Rattle.sftp_core.specs.declared.id_record.IdRecord.{IdRecord}
use Rattle.plan_state.specs.declared.poll.Poll.TheVariants as poll
use Rattle.plan_state.specs.declared.stage.Stage.{Stage}
use Rattle.plan_state.specs.declared.stage.Stage.TheVariants.{Ended, Ready, Unsent, Asked, Came}
use Rattle.plan_state.specs.Asked.{HoldsTicket}
use Rattle.plan_state.specs.Calls.{CallValue, CancelsAwaited, IsHeld, IsHeldAt, IsUnderWay, KeepsOtherTickets, StartsByPlan, StepsByPlan, is_ended}
use Rattle.plan_state.specs.Keeping.{KeepsHeld}
use Rattle.sftp_file.specs.declared.short_calls.Telling.{Telling}
use Rattle.sftp_file.specs.Files.{facts_of}
use Rattle.sftp_file.specs.Tells.{attrs_meaning}
use Rattle.sftp_fs.specs.PathStarts.{StartsFrom}
use Rattle.sftp_client.specs.Sessions.{SftpValue, with_core}
use Rattle.example_client.specs.Sizes.{AwaitOthers, AreCallsAwaited, IsAsked, IsAwaiting}

-- a call under way that awaits a ticket
awaiting_by : (core : Core) (call : CallValue Telling) (ticket : ℕ) → IsHeld attrs_meaning core call → call.stage
    ≡ Asked ticket
    → IsAwaiting core call ticket
awaiting_by core call ticket h is =
    record { awaits = is; holds = subst (λ (s : Stage). IsHeldAt attrs_meaning core call.runner s) is h }

pub under_way_of : (core : Core) (call : CallValue Telling) (later : List (CallValue Telling))
    → AreCallsAwaited core (call ∷ later)
    → IsUnderWay attrs_meaning core call
under_way_of core call later h =
    record {
      over = ap is_ended h.1.0.awaits;
      held = subst (λ (s : Stage). IsHeldAt attrs_meaning core call.runner s) (sym h.1.0.awaits) h.1.0.holds;
    }

-- a lane in which nothing is open, and no reply that came
nowhere : Site
nowhere = record { slots = []; directory = [] }

-- a start that was not refused
pub asked_by : {L : Type 0} (path : List ℕ) (old new : SftpValue L) (call : CallValue Telling)
    → StartsFrom attrs_meaning (stat_next path) [] old.core new.core (Ok call) → new ≡ with_core old new.core
    → IsAsked path old new call
unfolding nowhere
asked_by path old new call starts left = from (starts.starts nowhere (λ place. None) refl)
  where
    from : StartsByPlan attrs_meaning nowhere (λ e. Done (outcome.Refused e) nowhere)
        (stat_next path nowhere (facts_of old.core)) (λ place. None) old.core new.core
        (Ok call) → IsAsked path old new call
    from (inl asks) = record {
      starts = starts;
      ticket = asks.ticket;
      awaiting = awaiting_by new.core call asks.ticket starts.under_way.held asks.awaits;
      free = asks.submitted.free;
      left = left;
    }
    from (inr ready) = absurd (subst (λ (s : Stage). IsHeldAt attrs_meaning new.core call.runner s) ready.1
        starts.under_way.held)

-- ---- the others

pub awaited_kept : (old new : Core) (calls : List (CallValue Telling)) → KeepsHeld old new → AreCallsAwaited old calls
    → AreCallsAwaited new calls
awaited_kept old new [] k h = tt
awaited_kept old new (call ∷ later) k h = (
  h.0,
  (
    record { awaits = h.1.0.awaits; holds = k.holds h.0 expected.Attrs h.1.0.holds },
    (h.1.1.0, awaited_kept old new later k h.1.1.1),
  ),
)

-- what is held is not free
held_apart : (core : Core) (one two : ℕ) (kind : Expected) → HoldsTicket core one kind → record_at core two ≡ None
    → one ≢ two
held_apart core one two kind h none same =
    let gone : record_at core one ≡ None = ap (λ (q : ℕ). record_at core q) same ∙ none in
    let counted = subst (λ (p : Option IdRecord). IsTrue (is_ticket p)) gone h.counted in cc

number : Stage → ℕ
number (Asked n) = n
number other = 0

same_ticket : (stage : Stage) (one two : ℕ) → stage ≡ Asked one → stage ≡ Asked two → one ≡ two
unfolding number
same_ticket stage one two first second = ap number (sym first ∙ second)

apart_more : (core : Core) (call last : CallValue Telling) (one two : ℕ) (later : List (CallValue Telling))
    → IsAwaiting core call one
    → last.stage ≡ Asked two → record_at core two ≡ None → AwaitOthers call.stage later
    → AwaitOthers call.stage (later ++ last ∷ [])
apart_more core call last one two [] here awaits free h = (
  λ ticket is other. held_apart core one two expected.Attrs here.holds free
      (same_ticket call.stage one ticket here.awaits is ∙ same_ticket last.stage ticket two other awaits),
  tt,
)
apart_more core call last one two (next ∷ later) here awaits free h =
    (h.0, apart_more core call last one two later here awaits free h.1)

-- a call that is asked for stands last
pub awaited_more : {L : Type 0} (path : List ℕ) (old new : SftpValue L) (calls : List (CallValue Telling))
    (last : CallValue Telling)
    → AreCallsAwaited old.core calls → KeepsHeld old.core new.core → IsAsked path old new last
    → AreCallsAwaited new.core (calls ++ last ∷ [])
awaited_more path old new [] last h k asked = (asked.ticket, (asked.awaiting, (tt, tt)))
awaited_more path old new (call ∷ later) last h k asked = (
  h.0,
  (
    record { awaits = h.1.0.awaits; holds = k.holds h.0 expected.Attrs h.1.0.holds },
    (
      apart_more old.core call last h.0 asked.ticket later h.1.0 asked.awaiting.awaits asked.free h.1.1.0,
      awaited_more path old new later last h.1.1.1 k asked,
    ),
  ),
)

-- what another call's poll leaves
others_stay : (old new : Core) (before after : Stage) (calls : List (CallValue Telling))
    → KeepsOtherTickets old new before after
    → AwaitOthers before calls → AreCallsAwaited old calls → AwaitOthers after calls × AreCallsAwaited new calls
others_stay old new before after [] keeps apart h = (tt, tt)
others_stay old new before after (call ∷ later) keeps apart h =
    let both = keeps h.0 expected.Attrs (λ is. apart.0 h.0 is h.1.0.awaits) h.1.0.holds in
    let rest = others_stay old new before after later keeps apart.1 h.1.1.1 in (
      (
        λ ticket is other. both.1 (is ∙ ap Asked (same_ticket call.stage ticket h.0 other h.1.0.awaits)),
        rest.0,
      ),
      (h.0, (record { awaits = h.1.0.awaits; holds = both.0 }, (h.1.1.0, rest.1))),
    )

-- the oldest call has no answer yet
pub awaited_still : (old new : Core) (call after : CallValue Telling) (later : List (CallValue Telling))
    → AreCallsAwaited old (call ∷ later) → StepsByPlan attrs_meaning old new call after poll.Pending
    → AreCallsAwaited new (after ∷ later)
awaited_still old new call after later h polls =
    let rest = others_stay old new call.stage after.stage later polls.others h.1.1.0 h.1.1.1 in
    (polls.awaits.0, (awaiting_by new after polls.awaits.0 polls.held polls.awaits.1.0, rest))

apart_kept : (old new : Core) (stage : Stage) (calls : List (CallValue Telling)) → CancelsAwaited old new stage
    → AwaitOthers stage calls
    → AreCallsAwaited old calls → AreCallsAwaited new calls
apart_kept old new stage [] cancels apart h = tt
apart_kept old new stage (call ∷ later) cancels apart h = (
  h.0,
  (
    record {
      awaits = h.1.0.awaits;
      holds = cancels.others h.0 expected.Attrs (λ is. apart.0 h.0 is h.1.0.awaits) h.1.0.holds;
    },
    (h.1.1.0, apart_kept old new stage later cancels apart.1 h.1.1.1),
  ),
)

-- the oldest call was answered, and then it was given up
pub awaited_after : (old mid new : Core) (call ended : CallValue Telling) (later : List (CallValue Telling))
    (result : Result FileAttrs Error)
    → AreCallsAwaited old (call ∷ later) → StepsByPlan attrs_meaning old mid call ended (poll.Ready result)
    → CancelsAwaited mid new ended.stage
    → AreCallsAwaited new later
awaited_after old mid new call ended later result h polls cancels =
    let rest = others_stay old mid call.stage ended.stage later polls.others h.1.1.0 h.1.1.1 in
    apart_kept mid new ended.stage later cancels rest.0 rest.1

-- the oldest call is given up
pub awaited_less : (old new : Core) (call : CallValue Telling) (later : List (CallValue Telling))
    → AreCallsAwaited old (call ∷ later)
    → CancelsAwaited old new call.stage → AreCallsAwaited new later
awaited_less old new call later h cancels = apart_kept old new call.stage later cancels h.1.1.0 h.1.1.1

-- a call that has answered leaves nothing to be given up
pub nothing_left : (old new : Core) (stage : Stage) → is_ended stage ≡ true → CancelsAwaited old new stage → new ≡ old
nothing_left old new Ended over cancels = cancels.core
nothing_left old new Ready over cancels = absurd cc
nothing_left old new (Unsent asking) over cancels = absurd cc
nothing_left old new (Asked ticket) over cancels = absurd cc
nothing_left old new (Came told) over cancels = absurd cc
