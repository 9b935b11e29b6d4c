-- What a session is behind a call of its lanes: it is open still, or it has failed.
use Rattle.std.proofs.Common.{◌≡◌, ◌∷◌, ℕ, List, Option, Some, None, refl, ap, sym, ◌∙◌, subst, inr}
use Rattle.std.specs.Option.{unwrap_or}
use Rattle.std.specs.Prelude.{Result, Ok, Err, IfErr, IfOk, OnErr, OnOk, length}
use Rattle.sftp_model.specs.declared.error.Fault.{Fault}
use Rattle.sftp_model.specs.declared.frame_error.FrameError.{FrameError}
use Rattle.sftp_model.specs.declared.options.SftpOptions.{SftpOptions}
use Rattle.sftp_model.specs.declared.reply.Reply.{Reply}
use Rattle.sftp_core.specs.declared.errors.TakeError.{TakeError}
use Rattle.sftp_core.specs.declared.info.Info.{Info}
use Rattle.sftp_core.specs.Core.{failed_with}
use Rattle.sftp_core.specs.Take.{fault_of}
use Rattle.plan_model.specs.declared.call.Lane.{Lane}
use Rattle.session_model.specs.declared.event.Event.TheVariants.{Send}
use Rattle.session_model.specs.declared.entry.Entry.{Entry}
use Rattle.session_model.specs.declared.entry.Entry.TheVariants as entry
use Rattle.session_model.specs.Calls.{Setting, calls_added_to}
use Rattle.session_model.specs.Turns.{RunProgress}
use Rattle.session_driver.specs.declared.session.Phase.{Phase}
use Rattle.session_driver.specs.declared.session.Phase.TheVariants.{Open, Failed}
use Rattle.session_driver.specs.Session.{IsFixed, IsLater}
use Rattle.session_driver.proofs.Journals.{later_self}
use Rattle.session_work.specs.declared.lanes.Lanes.{Lanes}
use Rattle.session_work.specs.Reports.{lane_report, reports_of}
use Rattle.session_work.specs.SoFar.{HasRoom, IsIntact, IsLeft, RefusesWhileOpen, StaysSoFar, kept_past, refused_past}
use Rattle.session_work.specs.Working.{LanesValue, HandsIn, IsWorking, past_of}
use Rattle.session_work.proofs.FaultLaws.{kept_so_far, left_so_far, stands_so_far}
use Rattle.session_work.proofs.ReportLaws.{leaves_intact, refused_told}
use Rattle.sftp_lanes.specs.Events.{LanesDid, HasFailed}
use Rattle.sftp_lanes.specs.Seen.{IsInPhase, IsSession, SessionValue, session_inputs, setting_by}
use Rattle.sftp_lanes.proofs.FaultLaws.{so_far}
use Rattle.sftp_lanes.proofs.FixedLaws.{added_refused, fixed_on, fixed_refused, kept_refused, noted, same_calls}
use Rattle.sftp_lanes.proofs.Opening.{in_phase, open_count}

-- what a session shows, part by part
abbrev pub value_of : List Lane → SftpOptions → Option Reply → Option Info → Phase → Lanes → SessionValue
value_of lanes options version info phase work = record {
  lanes = lanes;
  options = options;
  phase = phase;
  version = version;
  info = info;
  work = work;
}

-- ---- an open session

-- its lanes work on, and their journal went on
pub record WorksOn (s : Setting) (old new : Lanes) : Type 0 where
  pub working : IsWorking s new
  pub later : IsLater s (past_of old) (past_of new)

-- it is open still, where its lanes work on
pub works_on : (lanes : List Lane) (options : SftpOptions) (version : Option Reply) (known : Option Info)
    (old new : Lanes) (phase : Phase) → IsSession lanes options version known old phase → phase ≡ Open
    → IsIntact (length old.calls) new
    → (IsWorking (setting_by lanes options version known) old →
    WorksOn (setting_by lanes options version known) old new)
    → IsSession lanes options version known new phase
works_on lanes options version known old new phase is open_is intact on =
    let s : Setting = setting_by lanes options version known in
    let was : IsWorking s old = in_phase lanes options version known old phase Open is open_is in
    let now : WorksOn s old new = on was in
    record {
      ok = is.ok;
      intact = subst (λ (n : ℕ). IsIntact n new) (open_count lanes options version known old phase is open_is) intact;
      now = subst (IsInPhase lanes options version known new) (sym open_is) now.working;
      told = is.told;
      calls = record {
        count = now.working.stands.lanes;
        ok = now.working.stands.ok;
        each = now.working.stands.calls;
      };
      fixed = λ some. fixed_on (session_inputs lanes options) version (past_of old) (past_of new) s
          was.rest.between.good.ready
          now.later (is.fixed some);
    }

-- ---- a session that has failed

-- its calls are as before, and its journal has a fault more, where one is noted
pub record Fails (old new : Lanes) : Type 0 where
  pub fault : Option Fault
  pub calls : new.calls ≡ old.calls
  pub noted : past_of new ≡ refused_past fault (past_of old)
  pub stays : StaysSoFar old new

pub left_fails : (old new : Lanes) → IsLeft old new → Fails old new
left_fails old new left = record {
  fault = None;
  calls = left.calls;
  noted = left.past;
  stays = λ s. left_so_far s old new left;
}

pub refused_fails : (body_reads : Result (Option ℕ × Reply) FrameError) (e : TakeError) (old new : Lanes)
    → RefusesWhileOpen body_reads e old new → Fails old new
refused_fails body_reads e old new r = record { fault = fault_of e; calls = r.calls; noted = r.noted; stays = r.stays }

pub fails_by : (lanes : List Lane) (options : SftpOptions) (version : Option Reply) (known : Option Info)
    (old new : Lanes) (phase : Phase) → IsSession lanes options version known old phase → IsIntact (length lanes) new
    → Fails old new → IsSession lanes options version known new Failed
fails_by lanes options version known old new phase is intact f =
    let s : Setting = setting_by lanes options version known in
    record {
      ok = is.ok;
      intact = intact;
      now = f.stays s (so_far lanes options version known old phase is);
      told = λ e. cc e;
      calls = same_calls lanes old new f.calls
          (λ lane. ap (λ (p : List Entry). calls_added_to p lane) f.noted ∙ added_refused f.fault (past_of old) lane)
          is.calls;
      fixed = λ some. subst (λ (p : List Entry). IsFixed (session_inputs lanes options) version p s) (sym f.noted)
          (fixed_refused (session_inputs lanes options) version f.fault (past_of old) s (is.fixed some));
    }

-- ---- a call of the lanes of an open session

pub went : {T E : Type 0} (lanes : List Lane) (options : SftpOptions) (version : Option Reply) (known : Option Info)
    (old new : Lanes) (phase now : Phase) (r : Result T E) → IsSession lanes options version known old phase
    → phase ≡ Open → IsIntact (length old.calls) new → OnOk r (now ≡ phase) → OnErr r (now ≡ Failed)
    → (IsWorking (setting_by lanes options version known) old →
    OnOk r (WorksOn (setting_by lanes options version known) old new))
    → OnErr r (Fails old new) → IsSession lanes options version known new now
went lanes options version known old new phase now (Ok x) is open_is intact same failed on fails =
    subst (IsSession lanes options version known new) (sym same)
    (works_on lanes options version known old new phase is open_is intact on)
went lanes options version known old new phase now (Err e) is open_is intact same failed on fails =
    subst (IsSession lanes options version known new) (sym failed)
    (fails_by lanes options version known old new phase is
    (subst (λ (n : ℕ). IsIntact n new) (open_count lanes options version known old phase is open_is) intact) fails)

-- ---- a frame was refused

pub refused_by : (lanes : List Lane) (options : SftpOptions) (version : Option Reply) (known : Option Info)
    (old new : Lanes) (phase : Phase) (fault : Option Fault) → IsSession lanes options version known old phase
    → new ≡ record old { core = new.core; journal = new.journal } → past_of new ≡ refused_past fault (past_of old)
    → HasRoom new → StaysSoFar old new → IsSession lanes options version known new Failed
refused_by lanes options version known old new phase fault is rest noted room stays =
    fails_by lanes options version known old new phase is
    (leaves_intact (length lanes) old new is.intact (record {
      kept = ap reports_of rest;
      past = λ lane. ap (λ (p : List Entry). lane_report p lane) noted ∙ refused_told fault (past_of old) lane;
    }) room)
    (record { fault = fault; calls = ap (λ (w : Lanes). w.calls) rest; noted = noted; stays = stays })

-- ---- what is handed out

pub hands_later : (s : Setting) (old new : LanesValue) (bytes : Option (List ℕ)) → HandsIn s old new bytes
    → IsLater s old.past new.past
hands_later s old new None h =
    let same : new.past ≡ old.past = ap (λ (x : RunProgress). x.past) h.hands.1 in
    subst (λ (p : List Entry). IsLater s old.past p) (sym same) (later_self s old.past)
hands_later s old new (Some bytes) h =
    let more : new.past ≡ entry.Event Send ∷ old.past = ap (λ (x : RunProgress). x.past) h.hands.2 in
    subst (λ (p : List Entry). IsLater s old.past p) (sym more) (inr (h.hands.4, later_self s old.past))

-- ---- a call of the lanes, as a session shows it

pub goes_on : (Did : Setting → Lanes → Lanes → Type 0) (lanes : List Lane) (options : SftpOptions)
    (version : Option Reply) (info : Option Info) (phase now : Phase) (old new : Lanes) → phase ≡ Open → now ≡ phase
    → Did (setting_by lanes options version info) old new
    → LanesDid Did (value_of lanes options version info phase old) (value_of lanes options version info now new)
goes_on Did lanes options version info phase now old new is_open same did = record {
  was_open = is_open;
  rest = λ i. value_of lanes options version info (same i) new;
  did = did;
}

pub has_failed : (lanes : List Lane) (options : SftpOptions) (version : Option Reply) (info : Option Info)
    (phase now : Phase) (old new : Lanes) → now ≡ Failed → IsLeft old new
    → HasFailed (value_of lanes options version info phase old) (value_of lanes options version info now new)
has_failed lanes options version info phase now old new failed left = record {
  rest = λ i. value_of lanes options version info (failed i) new;
  left = left;
}

-- a session that has failed is as it is
pub failed_still : (s : SessionValue) → s.phase ≡ Failed → HasFailed s s
failed_still s failed = record {
  rest = λ i. record s { phase = failed i };
  left = record { past = refl; fault = refl; reports = refl; calls = refl };
}

-- ---- a fault, and want of memory elsewhere

pub faulted : (lanes : List Lane) (options : SftpOptions) (version : Option Reply) (known : Option Info)
    (old new : Lanes) (phase : Phase) (fault : Fault) → IsSession lanes options version known old phase
    → new ≡ record old { core = failed_with old.core fault; journal = new.journal }
    → past_of new ≡ kept_past old.core.fault fault (past_of old) → IsSession lanes options version known new Failed
faulted lanes options version known old new phase fault is rest kept =
    let one : past_of new ≡ refused_past (noted old.core.fault fault) (past_of old) = kept
    ∙ kept_refused old.core.fault fault (past_of old) in
    let some : new.core.fault ≡ Some (unwrap_or old.core.fault fault) = ap (λ (w : Lanes). w.core.fault) rest in
    fails_by lanes options version known old new phase is
    (leaves_intact (length lanes) old new is.intact (record {
      kept = ap reports_of rest;
      past = λ lane. ap (λ (p : List Entry). lane_report p lane) one
          ∙ refused_told (noted old.core.fault fault) (past_of old) lane;
    }) (λ none. (let clash : Some (unwrap_or old.core.fault fault) ≡ None = sym some ∙ none in absurd cc)))
    (record {
      fault = noted old.core.fault fault;
      calls = ap (λ (w : Lanes). w.calls) rest;
      noted = one;
      stays = λ s k. stands_so_far s _ _ _ _ some kept (kept_so_far s old.core.fault fault (past_of old) k);
    })

pub gives_up : (lanes : List Lane) (options : SftpOptions) (version : Option Reply) (known : Option Info)
    (old : Lanes) (phase : Phase) → IsSession lanes options version known old phase
    → IsSession lanes options version known old Failed
gives_up lanes options version known old phase is =
    fails_by lanes options version known old old phase is is.intact
    (record { fault = None; calls = refl; noted = refl; stays = λ s k. k })

-- ---- answers of either kind

pub on_if : {T E : Type 0} (r : Result T E) (P : T → Type 0) (Q : Type 0) → ((v : T) → P v → Q) → IfOk r P → OnOk r Q
on_if (Ok v) P Q f h = f v h
on_if (Err e) P Q f h = tt

pub err_if : {T E : Type 0} (r : Result T E) (P : E → Type 0) (Q : Type 0) → ((e : E) → P e → Q) → IfErr r P → OnErr r Q
err_if (Ok v) P Q f h = tt
err_if (Err e) P Q f h = f e h
