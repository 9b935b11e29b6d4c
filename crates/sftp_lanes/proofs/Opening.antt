-- An opened session of lanes: what it is before a lane has done anything.
use Rattle.std.proofs.Common.{◌≡◌, ◌≢◌, ◌==◌, ℕ, zero, suc, Bool, true, false, List, [], ◌∷◌, Option, Some, None, refl, ap, sym, ◌∙◌, subst, arith, inl, inr, if◌then◌else◌}
use Rattle.std.specs.Prelude.{◌+◌, IfSome, is_none, length, Result, Ok}
use Rattle.std.specs.FinMap.{get-empty, len-empty}
use Rattle.std.specs.Ordering.{nat_cmp}
use Rattle.sftp_model.specs.declared.config.Limits.{Limits}
use Rattle.sftp_model.specs.declared.flags.Extensions.{Extensions}
use Rattle.sftp_model.specs.declared.frame_error.FrameError.{FrameError}
use Rattle.sftp_model.specs.declared.reply.Reply.{Reply}
use Rattle.sftp_model.specs.declared.request.Request.TheVariants as request
use Rattle.sftp_model.specs.declared.slot.Facts.{Facts}
use Rattle.sftp_model.specs.ReplyReadings.{limits_in}
use Rattle.plan_model.specs.GoodMoves.{FitsFacts}
use Rattle.sftp_core.specs.declared.info.Info.{Info}
use Rattle.sftp_model.specs.declared.options.SftpOptions.{SftpOptions}
use Rattle.sftp_core.specs.declared.tokens.Taken.{Taken}
use Rattle.sftp_core.specs.declared.tokens.Taken.TheVariants as taken_of
use Rattle.sftp_core.specs.declared.id_record.IdRecord.{IdRecord}
use Rattle.sftp_core.specs.Core.{Core, record_at, handed_out}
use Rattle.sftp_core.specs.Take.{Read, TakenFrom, take_refusal, core_after_reply}
use Rattle.sftp_core.specs.Info.{hello_of, info_with}
use Rattle.sftp_model.specs.Lengths.{offers_limits}
use Rattle.sftp_core.specs.Table.{count, is_sent, is_waiting}
use Rattle.plan_model.specs.declared.call.Lane.{Lane}
use Rattle.session_model.specs.declared.event.Event.TheVariants.{Take}
use Rattle.session_model.specs.declared.event.Owner.TheVariants as owner
use Rattle.session_model.specs.declared.entry.Entry.{Entry}
use Rattle.session_model.specs.declared.entry.Entry.TheVariants as entry
use Rattle.session_model.specs.Calls.{Setting}
use Rattle.session_model.specs.Grants.{next_due}
use Rattle.session_model.specs.Ids.{Free, Pending, id_state, now_replied, now_sent}
use Rattle.session_model.specs.Journals.{is_opened}
use Rattle.session_model.specs.Readings.{AskedRequest, answer, count_submitted, count_awaited, count_below, count_unanswered, unsent_requests}
use Rattle.session_model.specs.Steady.{IsCancellableRun}
use Rattle.session_model.specs.Runs.{limits_query_sent}
use Rattle.session_model.specs.Settings.{facts_of, version_reply_of, limits_told}
use Rattle.session_driver.specs.declared.session.Phase.{Phase}
use Rattle.session_driver.specs.declared.session.Phase.TheVariants.{Asking, Failed, Fresh, Greeted, Open, Queried}
use Rattle.session_driver.specs.Session.{IsFixed}
use Rattle.session_driver.proofs.Bare.{idle_awaited, idle_unanswered, limits_in_core, takes_limits}
use Rattle.session_driver.specs.Bare.{IsIdle as IsQuiet, IsOpen, asked_core, idle_core, offered_extensions}
use Rattle.session_laws.specs.Changes.{HasNoHistory, fresh_lane}
use Rattle.session_laws.specs.Lanes.{CoreTied, LaneValue}
use Rattle.session_laws.specs.Tables.{stand}
use Rattle.session_laws.proofs.StartLaws.{start_dues, start_tied}
use Rattle.session_laws.specs.Budgets.{KeepsIdBudget, kept_ids, spending_of}
use Rattle.session_laws.specs.Rest.{AtRest, CountsJournal, LaneAsks, begun_of}
use Rattle.session_laws.proofs.BudgetLaws.{idle_spends}
use Rattle.session_model.specs.Turns.{none_begun}
use Rattle.session_work.specs.declared.lanes.Lanes.{Lanes}
use Rattle.session_work.specs.Fresh.{AreFresh, IsUntouched}
use Rattle.session_work.specs.SoFar.{IsIntact}
use Rattle.session_work.specs.Working.{IsWorking, lane_in, past_of}
use Rattle.sftp_lanes.specs.Events.{takes_frames}
use Rattle.sftp_lanes.specs.Seen.{HasCalls, IsInPhase, IsSession, IsIdleRun, facts_by, is_opening, setting_by}
use Rattle.sftp_lanes.proofs.Plain.{Told, told}

-- ---- lanes that have done nothing

fresh_in : (states : List LaneValue) (lane : ℕ) → AreFresh states → lane_in states lane ≡ fresh_lane
fresh_in [] lane all = refl
fresh_in (v ∷ states) zero all = all 0 v refl
fresh_in (v ∷ states) (suc lane) all = fresh_in states lane (λ k. all (suc k))

-- each lane is one that has done nothing
fresh_lanes : (states : List LaneValue) → AreFresh states → lane_in states ≡ (λ lane. fresh_lane)
fresh_lanes states all = λ i lane. fresh_in states lane all i

-- and none of them was begun
pub fresh_begun : (states : List LaneValue) → AreFresh states → begun_of (lane_in states) ≡ none_begun
fresh_begun states all = ap begun_of (fresh_lanes states all)

fresh_asks : (past : List Entry) (lane : ℕ) → LaneAsks past lane fresh_lane
fresh_asks past lane = record {
  current = λ p e. absurd cc;
  only = λ p e. absurd cc;
  keeps = λ g e. absurd cc;
  fits =
      λ p a y e is may. absurd cc;
  reads = λ x among. absurd among;
}

-- ---- journals in which no lane has done anything

-- no lane has done anything, and nothing is granted, queued or unanswered
pub record IsIdle (s : Setting) (past : List Entry) : Type 0 where
  pub good : IsCancellableRun s past none_begun
  pub settled : next_due s past ≡ None
  pub unbegun : HasNoHistory s past
  pub unsent : [] ≡ unsent_requests past
  pub free : (id : ℕ) → stand (λ p. false) (λ p. false) (id_state past id) ≡ None
  pub unanswered : 0 ≡ count_unanswered past
  pub awaited : 0 ≡ count_awaited past

-- nothing is queued or unanswered, and the limits were taken where they are told
record IsCalm (s : Setting) (t : Told) : Type 0 where
  ready : is_opened s.limits (t.answer 0) ≡ true
  unkept : t.kept ≡ false
  unsent : [] ≡ t.unsent
  free : (id : ℕ) → stand (λ p. false) (λ p. false) (t.state id) ≡ None
  unanswered : 0 ≡ count_below (λ place. is_none (t.answer place)) t.asked
  awaited : 0 ≡ count_below (λ place. is_none (t.answer place)) t.sent

idle : (s : Setting) (past : List Entry) (t : Told) → IsIdleRun s past → told past ≡ t → IsCalm s t → IsIdle s past
idle s past t u e calm = record {
  good = record {
    run = u.run;
    calm = u.calm;
    ready = ap (λ (x : Told). is_opened s.limits (x.answer 0)) e ∙ calm.ready;
    unkept = ap (λ (x : Told). x.kept) e ∙ calm.unkept;
    cancels = λ lane h. absurd cc;
  };
  settled = u.settled;
  unbegun = u.unbegun;
  unsent = calm.unsent ∙ sym (ap (λ (x : Told). x.unsent) e);
  free = λ id. ap (λ (x : Told). stand (λ p. false) (λ p. false) (x.state id)) e ∙ calm.free id;
  unanswered = calm.unanswered ∙ sym (ap (λ (x : Told). count_below (λ place. is_none (x.answer place)) x.asked) e);
  awaited = calm.awaited ∙ sym (ap (λ (x : Told). count_below (λ place. is_none (x.answer place)) x.sent) e);
}

nothing : (s : Setting) → s.limits ≡ false → IsCalm s (told [])
nothing s none = record {
  ready = rw none refl;
  unkept = refl;
  unsent = refl;
  free = λ id. refl;
  unanswered = refl;
  awaited = refl;
}

-- the query for limits
abbrev query : AskedRequest
query = record { by = owner.Setup; id = 0; request = request.LimitsQuery }

free_told : (b : Bool) (r : Reply) → stand (λ p. false) (λ p. false)
    (if b then now_replied r (now_sent (if b then Pending 0 query false else Free)) else
    now_sent (if b then Pending 0 query false else Free)) ≡ None
free_told true r = refl
free_told false r = refl

limits_taken : (s : Setting) (r : Reply) → s.limits ≡ true →
    IsCalm s (told (entry.Event (Take 0 r) ∷ limits_query_sent 0))
limits_taken s r offered = record {
  ready = rw offered refl;
  unkept = refl;
  unsent = refl;
  free = λ id. free_told (0 == id) r;
  unanswered = refl;
  awaited = refl;
}

-- ---- lanes and core

core_idle : (s : Setting) (past : List Entry) (options : SftpOptions) (info : Info) (core : Core) → IsIdle s past
    → s.facts.read_len ≡ info.read_len → core ≡ idle_core options info → CoreTied s past core
core_idle s past options info core idle len calm = record {
  info = info;
  phase = ap (λ (x : Core). x.phase) calm;
  read_len = len;
  unfailed = ap (λ (x : Core). x.fault) calm;
  greeted = ap (λ (x : Core). x.hello_sent) calm;
  queue = ap (λ (x : Core). x.queue) calm ∙ idle.unsent;
}

counted : (s : Setting) (past bare : List Entry) (options : SftpOptions) (core : Core) → IsIdle s past
    → IsOpen options core bare → CountsJournal past core
counted s past bare options core idle o =
    let waits : count is_waiting core.table + hello_of core.phase ≡ 0 = idle_unanswered options core bare o in
    let sends : count is_sent core.table + (if core.hello_sent then hello_of core.phase else 0) ≡ 0 =
    idle_awaited options core bare o in
    let w = idle.unanswered in
    let a = idle.awaited in
    record { waiting = omega (arith, waits, w); sent = omega (arith, sends, a) }

-- its core keeps no id
idle_all : (s : Setting) (past : List Entry) (options : SftpOptions) (info : Info) (core : Core) → core
    ≡ idle_core options info → KeepsIdBudget s past core (λ lane. fresh_lane)
idle_all s past options info core calm =
    record {
      each = λ lane lt. idle_spends s.facts (spending_of s past lane fresh_lane.running) refl;
      few = (let none : kept_ids core ≡ 0 = ap kept_ids calm ∙ len-empty nat_cmp IdRecord in omega (arith, none));
    }

-- a session whose lanes have done nothing is at rest
at_rest : (s : Setting) (past bare : List Entry) (options : SftpOptions) (info : Info) (core : Core)
    (states : List LaneValue) → IsIdle s past → s.facts.read_len ≡ info.read_len → core ≡ idle_core options info
    → IsOpen options core bare
    → AreFresh states → AtRest s past core (lane_in states) (begun_of (lane_in states))
at_rest s past bare options info core states idle len calm o each =
    subst (λ (x : ℕ → LaneValue). AtRest s past core x (begun_of x)) (sym (fresh_lanes states each))
    (record {
      between = record {
        good = idle.good;
        due = start_dues s past idle.unbegun;
        tied = start_tied s past core idle.unbegun (core_idle s past options info core idle len calm)
            (λ id. ap (λ (x : Core). record_at x id) calm ∙ get-empty nat_cmp id ∙ sym (idle.free id));
        counted = counted s past bare options core idle o;
        spends = idle_all s past options info core calm;
        asks = λ lane lt. fresh_asks past lane;
      };
      settled = idle.settled;
    })

-- ---- the opened session

-- a frame changes no lane
pub still_untouched : (lanes : List Lane) (old new : Lanes) → new
    ≡ record old { core = new.core; journal = new.journal } → count_submitted (past_of new)
    ≡ count_submitted (past_of old)
    → IsUntouched lanes old → IsUntouched lanes new
still_untouched lanes old new is same u =
    record {
      asked = ap (λ (x : Lanes). x.asked) is ∙ u.asked ∙ sym same;
      count = ap (λ (x : Lanes). length x.states.items) is ∙ u.count;
      each = subst AreFresh (sym (ap (λ (x : Lanes). x.states.items) is)) u.each;
    }

-- and no more does what plans go by
pub facts_untouched : (lanes : List Lane) (old : Lanes) (facts : Facts) → IsUntouched lanes old
    → IsUntouched lanes (record old { facts = facts })
facts_untouched lanes old facts u = record { asked = u.asked; count = u.count; each = u.each }

-- what was told is what plans go by
pub facts_told : (facts : Facts) (options : SftpOptions) (extensions : Extensions) (known : Option Info) (info : Info)
    → IfSome known (λ k. facts ≡ facts_by options extensions (Some k)) → known ≡ Some info → facts
    ≡ facts_by options extensions (Some info)
facts_told facts options extensions known info told is = subst
    (λ (o : Option Info). IfSome o (λ k. facts ≡ facts_by options extensions (Some k))) is told

-- and plans may go by it
pub fit_told : (facts : Facts) (known : Option Info) (info : Info) → IfSome known (λ k. FitsFacts facts) → known
    ≡ Some info → FitsFacts facts
fit_told facts known info fit is = subst (λ (o : Option Info). IfSome o (λ k. FitsFacts facts)) is fit

-- no lane has done anything, and this is known of the server
pub opened_working : (lanes : List Lane) (options : SftpOptions) (version : Option Reply) (info : Info)
    (known : Option Info) (w : Lanes) (bare : List Entry) → HasCalls lanes w → known ≡ Some info → w.facts
    ≡ facts_by options (offered_extensions version) (Some info) → FitsFacts w.facts → w.core ≡ idle_core options info
    → IsQuiet bare → IsUntouched lanes w
    → IsIdle (setting_by lanes options version known) (past_of w) → IsInPhase lanes options version known w Open
opened_working lanes options version info known w bare has is goes_by fit calm quiet u idle =
    let s : Setting = setting_by lanes options version known in
    let o : IsOpen options w.core bare = record { info = info; calm = calm; idle = quiet } in
    let facts_are : s.facts ≡ facts_by options (offered_extensions version) (Some info) =
    ap (facts_by options (offered_extensions version)) is in
    record {
      stands = record {
        lanes = has.count;
        calls = has.each;
        ok = has.ok;
        facts = goes_by ∙ sym facts_are;
        fit = subst FitsFacts (goes_by ∙ sym facts_are) fit;
        asked = u.asked;
        count = u.count;
      };
      rest = at_rest s (past_of w) bare options info w.core w.states.items idle
          (ap (λ (f : Facts). f.read_len) facts_are) calm o u.each;
    }

-- what VERSION and the limits fix
pub is_fixed : (lanes : List Lane) (options : SftpOptions) (extensions : Extensions) (limits : Option Limits)
    (version : Option Reply) (known : Option Info) (past : List Entry) → version ≡ Some (version_reply_of extensions)
    → known ≡ Some (info_with extensions limits options) → limits
    ≡ limits_told (offers_limits extensions) (answer past 0)
    → IsFixed (record { lanes = lanes; options = options }) version past (setting_by lanes options version known)
is_fixed lanes options extensions limits version known past told is same =
    let by_limits : Option Limits → Setting = λ l. setting_by lanes options (Some (version_reply_of extensions))
    (Some (info_with extensions l options)) in
    let first : setting_by lanes options version known ≡ by_limits limits =
    (λ i. setting_by lanes options (told i) (is i)) in
    (extensions, (told, first ∙ ap by_limits same))

-- the limits of the reply to the query for them
pub limits_are : (offers : Bool) (past : List Entry) (r : Reply) → offers ≡ true → answer past 0 ≡ Some r
    → limits_in r ≡ limits_told offers (answer past 0)
limits_are offers past r is e = λ i. limits_told (sym is i) (sym e i)

no_reply : (offers : Bool) → None ≡ limits_told offers None
no_reply true = refl
no_reply false = refl

-- what VERSION fixes while the limits are asked for
pub asked_fixed : (lanes : List Lane) (options : SftpOptions) (extensions : Extensions) (version : Option Reply)
    (known : Option Info) (past : List Entry) → version ≡ Some (version_reply_of extensions) → known ≡ None
    → answer past 0 ≡ None
    → IsFixed (record { lanes = lanes; options = options }) version past (setting_by lanes options version known)
asked_fixed lanes options extensions version known past told none is =
    let by_limits : Option Limits → Setting = λ l. record {
      lanes = lanes;
      facts = facts_of options extensions l;
      limits = offers_limits extensions;
      max_pending = options.max_pending_requests;
    } in
    let first : setting_by lanes options version known ≡ by_limits None =
    (λ i. setting_by lanes options (told i) (none i)) in (
      extensions,
      (
        told,
        first ∙ ap by_limits (no_reply (offers_limits extensions)
            ∙ ap (limits_told (offers_limits extensions)) (sym is)),
      ),
    )

pub no_limits : (offers : Bool) (r : Option Reply) → offers ≡ false → None ≡ limits_told offers r
no_limits true r e = absurd cc
no_limits false r e = refl

-- what the core knows of the server once it took the limits
pub info_came : (options : SftpOptions) (extensions : Extensions) (core new : Core) (read : Result Read FrameError)
    (gives : Taken) (r : Reply) → core ≡ handed_out (asked_core options extensions)
    → take_refusal core read ≡ None → TakenFrom read gives core new → read ≡ Ok (Some 0, r) → new
    ≡ idle_core options (info_with extensions (limits_in r) options)
info_came options extensions core new read gives r is none t reads =
    let both : Ok t.reading ≡ Ok (Some 0, r) = sym t.reads ∙ reads in
    let reading : Read = (Some 0, r) in
    let same : t.reading ≡ reading = cc in
    let right : take_refusal (handed_out (asked_core options extensions)) (Ok reading) ≡ None =
    (λ i. take_refusal (sym is i) (sym reads i)) ∙ none in
    t.leaves ∙ (λ i. core_after_reply (is i) (same i)) ∙ limits_in_core options extensions 0 r
    (takes_limits options extensions 0 r right)

-- the server doesn't tell its limits
pub opens_at_once : (lanes : List Lane) (options : SftpOptions) (version : Option Reply) (known : Option Info)
    (extensions : Extensions) (w : Lanes) → HasCalls lanes w → version ≡ Some (version_reply_of extensions)
    → offers_limits extensions ≡ false → known ≡ Some (info_with extensions None options) → w.facts
    ≡ facts_by options (offered_extensions version) (Some (info_with extensions None options)) → FitsFacts w.facts
    → w.core
    ≡ idle_core options (info_with extensions None options) → told (past_of w) ≡ told [] → IsUntouched lanes w
    → IsIdleRun (setting_by lanes options version known) (past_of w) → IsInPhase lanes options version known w Open
opens_at_once lanes options version known extensions w has version_is none is goes_by fit calm bare u unmoved =
    let s : Setting = setting_by lanes options version known in
    opened_working lanes options version (info_with extensions None options) known w [] has is goes_by fit calm
    (inl refl) u
    (idle s (past_of w) (told []) unmoved bare (nothing s (ap (λ v. offers_limits (offered_extensions v)) version_is
    ∙ none)))

-- the server told its limits
pub opens_told : (lanes : List Lane) (options : SftpOptions) (version : Option Reply) (known : Option Info)
    (extensions : Extensions) (limits : Option Limits) (r : Reply) (w : Lanes) → HasCalls lanes w
    → version ≡ Some (version_reply_of extensions) → offers_limits extensions ≡ true → known
    ≡ Some (info_with extensions limits options) → w.facts ≡ facts_by options (offered_extensions version)
    (Some (info_with extensions limits options))
    → FitsFacts w.facts → w.core ≡ idle_core options (info_with extensions limits options)
    → told (past_of w) ≡ told (entry.Event (Take 0 r) ∷ limits_query_sent 0) → IsUntouched lanes w
    → IsIdleRun (setting_by lanes options version known) (past_of w) → IsInPhase lanes options version known w Open
opens_told lanes options version known extensions limits r w has came_with some is goes_by fit calm past u unmoved =
    let s : Setting = setting_by lanes options version known in
    opened_working lanes options version (info_with extensions limits options) known w
    (entry.Event (Take 0 r) ∷ limits_query_sent 0) has is goes_by fit calm (inr (r, refl)) u
    (idle s (past_of w) (told (entry.Event (Take 0 r) ∷ limits_query_sent 0)) unmoved past
    (limits_taken s r (ap (λ v. offers_limits (offered_extensions v)) came_with ∙ some)))

-- what was taken
pub same_limits : (id k : ℕ) (r other : Reply) → taken_of.Limits id r ≡ taken_of.Limits k other → (id ≡ k) × (r ≡ other)
same_limits id k r other e = (cc, cc)

pub same_version : (r other : Reply) → taken_of.Version r ≡ taken_of.Version other → r ≡ other
same_version r other e = cc

-- ---- phases

-- what is so in one phase
pub in_phase : (lanes : List Lane) (options : SftpOptions) (version : Option Reply) (known : Option Info) (w : Lanes)
    (phase other : Phase) → IsSession lanes options version known w phase → phase ≡ other
    → IsInPhase lanes options version known w other
in_phase lanes options version known w phase other is e = subst (IsInPhase lanes options version known w) e is.now

-- while VERSION is awaited none was reported
pub untold_yet : (lanes : List Lane) (options : SftpOptions) (version : Option Reply) (known : Option Info) (w : Lanes)
    (phase : Phase) → IsSession lanes options version known w phase → phase ≡ Greeted → version ≡ None
untold_yet lanes options version known w phase is e =
    (in_phase lanes options version known w phase Greeted is e).0.1

-- nor before the hello was handed out
pub untold_first : (lanes : List Lane) (options : SftpOptions) (version : Option Reply) (known : Option Info)
    (w : Lanes) (phase : Phase) → IsSession lanes options version known w phase → takes_frames phase ≡ false
    → version ≡ None
untold_first lanes options version known w Fresh is early = is.now.0.1
untold_first lanes options version known w Greeted is early = absurd (cc early)
untold_first lanes options version known w other is early = absurd (cc early)

-- the lanes of an open session are as many as were given
pub open_count : (lanes : List Lane) (options : SftpOptions) (version : Option Reply) (known : Option Info) (w : Lanes)
    (phase : Phase) → IsSession lanes options version known w phase → phase ≡ Open → length w.calls ≡ length lanes
open_count lanes options version known w phase is open_is =
    let works : IsWorking (setting_by lanes options version known) w =
    in_phase lanes options version known w phase Open is open_is in works.stands.lanes

-- and no grant of theirs is to be closed
pub open_settled : (lanes : List Lane) (options : SftpOptions) (version : Option Reply) (known : Option Info)
    (w : Lanes)
    (phase : Phase) → IsSession lanes options version known w phase → phase ≡ Open
    → next_due (setting_by lanes options version known) (past_of w) ≡ None
open_settled lanes options version known w phase is open_is =
    let works : IsWorking (setting_by lanes options version known) w =
    in_phase lanes options version known w phase Open is open_is in works.rest.settled

pub open_intact : (lanes : List Lane) (options : SftpOptions) (version : Option Reply) (known : Option Info) (w : Lanes)
    (phase : Phase) → IsSession lanes options version known w phase → phase ≡ Open → IsIntact (length w.calls) w
open_intact lanes options version known w phase is open_is =
    subst (λ (n : ℕ). IsIntact n w) (sym (open_count lanes options version known w phase is open_is)) is.intact

-- before it is open, nothing is known of the server
pub untold : (lanes : List Lane) (options : SftpOptions) (version : Option Reply) (known : Option Info) (w : Lanes)
    (phase : Phase) → IsSession lanes options version known w phase → is_opening phase ≡ true → known ≡ None
untold lanes options version known w Fresh is opens = is.now.1.0
untold lanes options version known w Greeted is opens = is.now.1.0
untold lanes options version known w Asking is opens = is.now.1.0
untold lanes options version known w Queried is opens = is.now.1.0
untold lanes options version known w Open is opens = absurd cc
untold lanes options version known w Failed is opens = absurd cc

-- ---- a session that failed

-- what was opened and is not open has failed
pub told_failed : (lanes : List Lane) (options : SftpOptions) (version : Option Reply) (known : Option Info) (w : Lanes)
    (phase : Phase) → IsSession lanes options version known w phase → known ≢ None → phase ≢ Open → phase ≡ Failed
told_failed lanes options version known w Fresh is told shut = absurd (told is.now.1.0)
told_failed lanes options version known w Greeted is told shut = absurd (told is.now.1.0)
told_failed lanes options version known w Asking is told shut = absurd (told is.now.1.0)
told_failed lanes options version known w Queried is told shut = absurd (told is.now.1.0)
told_failed lanes options version known w Open is told shut = absurd (shut refl)
told_failed lanes options version known w Failed is told shut = refl
