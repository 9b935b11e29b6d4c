-- In every phase the journal of a session is a run so far.
use Rattle.std.proofs.Common.{◌≡◌, ◌∙◌, [], List, Option, None, false, true, refl, ap, arith}
use Rattle.sftp_model.specs.declared.options.SftpOptions.{SftpOptions}
use Rattle.sftp_model.specs.declared.reply.Reply.{Reply}
use Rattle.sftp_model.specs.Lengths.{offers_limits}
use Rattle.sftp_core.specs.declared.info.Info.{Info}
use Rattle.sftp_core.specs.Core.{Core}
use Rattle.plan_model.specs.declared.call.Lane.{Lane}
use Rattle.session_model.specs.declared.entry.Entry.{Entry}
use Rattle.session_model.specs.declared.entry.Entry.TheVariants as entry
use Rattle.session_model.specs.Calls.{Setting}
use Rattle.session_model.specs.Readings.{count_submitted, was_kept}
use Rattle.session_model.specs.Runs.{limits_query_sent}
use Rattle.session_model.proofs.CallLaws.{may_next}
use Rattle.session_driver.specs.Bare.{asked_past, offered_extensions}
use Rattle.session_driver.specs.declared.session.Phase.{Phase}
use Rattle.session_driver.specs.declared.session.Phase.TheVariants.{Fresh, Greeted, Asking, Queried, Open, Failed}
use Rattle.session_work.specs.declared.lanes.Lanes.{Lanes}
use Rattle.session_work.specs.SoFar.{IsSoFar}
use Rattle.session_work.specs.Working.{past_of}
use Rattle.session_work.proofs.FaultLaws.{none_kept, stands_so_far, work_so_far}
use Rattle.sftp_lanes.specs.Seen.{IsInPhase, IsSession, IsIdleRun, AreIdleRuns, is_opening, setting_by, without_lanes}
use Rattle.sftp_lanes.proofs.Plain.{Told, told_as}

-- ---- journals without a fault

-- no request was submitted
pub none_asked : (past : List Entry) → without_lanes past ≡ [] → count_submitted past ≡ 0
none_asked past bare = ap (λ (t : Told). t.asked) (told_as past [] bare)

-- the setting is one of the limits that were asked for
pub unmoved_bare : (s : Setting) (past : List Entry) → without_lanes past ≡ [] → AreIdleRuns s.lanes past
    → IsIdleRun s past
unmoved_bare s past bare are = are s refl (λ some. let none = none_asked past bare in
    absurd (omega (arith, some, none)))

offering : (lanes : List Lane) (options : SftpOptions) (version : Option Reply) (info : Option Info) (past : List Entry)
    → offers_limits (offered_extensions version) ≡ true → AreIdleRuns lanes past
    → IsIdleRun (setting_by lanes options version info) past
offering lanes options version info past offers are = are (setting_by lanes options version info) refl (λ some. offers)

-- while a session opens, no lane has done anything
pub unmoved_at : (lanes : List Lane) (options : SftpOptions) (version : Option Reply) (info : Option Info) (w : Lanes)
    (phase : Phase) → IsInPhase lanes options version info w phase → is_opening phase ≡ true
    → IsIdleRun (setting_by lanes options version info) (past_of w)
unmoved_at lanes options version info w Fresh p opens =
    unmoved_bare (setting_by lanes options version info) (past_of w) p.0.2 p.1.2
unmoved_at lanes options version info w Greeted p opens =
    unmoved_bare (setting_by lanes options version info) (past_of w) p.0.2 p.1.2
unmoved_at lanes options version info w Asking p opens =
    offering lanes options version info (past_of w)
    (ap (λ (v : Option Reply). offers_limits (offered_extensions v)) p.0.1.0 ∙ p.0.1.1) p.1.2
unmoved_at lanes options version info w Queried p opens =
    offering lanes options version info (past_of w)
    (ap (λ (v : Option Reply). offers_limits (offered_extensions v)) p.0.1.0 ∙ p.0.1.1) p.1.2
unmoved_at lanes options version info w Open p opens = absurd cc
unmoved_at lanes options version info w Failed p opens = absurd cc

unmoved_so_far : (s : Setting) (past bare : List Entry) → without_lanes past ≡ bare → was_kept bare ≡ false
    → IsIdleRun s past → IsSoFar s None past
unmoved_so_far s past bare is unkept u =
    let none : was_kept past ≡ false = ap (λ (t : Told). t.kept) (told_as past bare is) ∙ unkept in
    record {
      run = u.run;
      kept = none_kept past none;
      next = λ unfailed first. may_next s past (entry.Kept first) u.calm u.settled none;
    }

-- ---- phases

in_phase_so_far : (lanes : List Lane) (options : SftpOptions) (version : Option Reply) (info : Option Info) (w : Lanes)
    (phase : Phase) → IsInPhase lanes options version info w phase
    → IsSoFar (setting_by lanes options version info) w.core.fault (past_of w)
in_phase_so_far lanes options version info w Fresh p = stands_so_far (setting_by lanes options version info) _ _ _ _
    (ap (λ (c : Core). c.fault) p.0.0) refl (unmoved_so_far _ (past_of w) [] p.0.2 refl
    (unmoved_at lanes options version info w Fresh p refl))
in_phase_so_far lanes options version info w Greeted p = stands_so_far (setting_by lanes options version info) _ _ _ _
    (ap (λ (c : Core). c.fault) p.0.0) refl (unmoved_so_far _ (past_of w) [] p.0.2 refl
    (unmoved_at lanes options version info w Greeted p refl))
in_phase_so_far lanes options version info w Asking p = stands_so_far (setting_by lanes options version info) _ _ _ _
    (ap (λ (c : Core). c.fault) p.0.1.2) refl
    (unmoved_so_far _ (past_of w) asked_past p.0.1.3 refl (unmoved_at lanes options version info w Asking p refl))
in_phase_so_far lanes options version info w Queried p = stands_so_far (setting_by lanes options version info) _ _ _ _
    (ap (λ (c : Core). c.fault) p.0.1.2) refl
    (unmoved_so_far _ (past_of w) (limits_query_sent 0) p.0.1.3 refl
    (unmoved_at lanes options version info w Queried p refl))
in_phase_so_far lanes options version info w Open p = work_so_far (setting_by lanes options version info) w p
in_phase_so_far lanes options version info w Failed p = p

pub so_far : (lanes : List Lane) (options : SftpOptions) (version : Option Reply) (info : Option Info) (w : Lanes)
    (phase : Phase) → IsSession lanes options version info w phase
    → IsSoFar (setting_by lanes options version info) w.core.fault (past_of w)
so_far lanes options version info w phase is = in_phase_so_far lanes options version info w phase is.now
