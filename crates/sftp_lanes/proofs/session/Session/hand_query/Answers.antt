use Rattle.std.proofs.Common.{◌≡◌, ◌∙◌, ◌∷◌, ◌++◌, [], List, Option, ap, inr, refl, rules, sym, subst}
use Rattle.std.specs.Prelude.{length, reverse}
use Rattle.std.proofs.lemmas.List.{reverse-append}
use Rattle.sftp_core.specs.Pieces.{chunk_bytes}
use Rattle.sftp_model.specs.declared.reply.Reply.{Reply}
use Rattle.sftp_model.specs.declared.request.Request.TheVariants as request
use Rattle.sftp_model.specs.Lengths.{offers_limits}
use Rattle.sftp_core.specs.Core.{Core, handed_out}
use Rattle.session_model.specs.declared.entry.Entry.{Entry}
use Rattle.session_model.specs.declared.entry.Entry.TheVariants as entry
use Rattle.session_model.specs.declared.event.Event.TheVariants.{Send}
use Rattle.session_model.specs.Calls.{Setting, calls_added_to}
use Rattle.sftp_model.specs.Frames.{frames_of}
use Rattle.session_model.specs.Readings.{count_submitted}
use Rattle.session_model.specs.Runs.{limits_query_sent}
use Rattle.session_driver.specs.declared.session.Phase.TheVariants.{Asking, Queried}
use Rattle.session_driver.specs.Bare.{offered_extensions}
use Rattle.session_driver.specs.Session.{IsFixed, IsLater}
use Rattle.session_driver.proofs.Journals.{later_self}
use Rattle.session_work.specs.declared.lanes.Lanes.{Lanes}
use Rattle.session_work.specs.Reports.{lane_report}
use Rattle.session_work.specs.Working.{past_of, progress_of, work_of}
use Rattle.session_work.proofs.ReportLaws.{leaves_intact}
use Rattle.sftp_lanes.specs.Seen.{AreIdleRuns, session_inputs, setting_by, without_lanes}
use Rattle.sftp_lanes.proofs.FixedLaws.{same_calls}
use Rattle.sftp_lanes.proofs.Going.{fails_by, left_fails}
use Rattle.sftp_lanes.proofs.Opening.{in_phase}
use Rattle.sftp_lanes.proofs.OpeningSteps.{sent_unmoved, unsent_query}
use Rattle.sftp_lanes.proofs.session.Session.hand_query.Goals as goal

pub returns-in-Ok-clause-query : goal.returns-in-Ok-clause-query
returns-in-Ok-clause-query c =
    let f = in_phase c.self.inside.lanes c.self.inside.options c.self.inside.version c.self.inside.info
    c.self.inside.work c.self.inside.phase Asking c.self.invariant (rw (← c.self.view_is) at c.requires.asking) in
    let old : List Entry = past_of c.self.inside.work in
    let queue : c.self.inside.work.core.queue ≡ (0, request.LimitsQuery) ∷ [] = ap (λ (k : Core). k.queue) f.0.1.2 in
    let frames : chunk_bytes c.in-Ok.chunk ≡ frames_of c.self.inside.work.core.queue = search rules in
    rw (← c.self.view_is) (frames ∙ ap frames_of (queue ∙ sym (unsent_query old f.0.1.3)))

pub returns-in-Ok-clause-hands : goal.returns-in-Ok-clause-hands
returns-in-Ok-clause-hands c =
    let f = in_phase c.self.inside.lanes c.self.inside.options c.self.inside.version c.self.inside.info
    c.self.inside.work c.self.inside.phase Asking c.self.invariant (rw (← c.self.view_is) at c.requires.asking) in
    let one : List Entry = entry.Event Send ∷ [] in
    let old : List Entry = reverse c.self.inside.work.journal.items in
    let pushed : c.push.new.self.items ≡ c.self.inside.work.journal.items ++ one = search rules in
    let past : reverse c.push.new.self.items ≡ entry.Event Send ∷ old =
    ap reverse pushed ∙ reverse-append c.self.inside.work.journal.items one in
    let s : Setting = setting_by c.self.inside.lanes c.self.inside.options c.self.inside.version c.self.inside.info in
    let unmoved = sent_unmoved c.self.inside.lanes old f.0.1.3 f.1.2 s refl
    (λ some. ap (λ (v : Option Reply). offers_limits (offered_extensions v)) f.0.1.0 ∙ f.0.1.1) in
    rw (← c.self.view_is)
    (record {
      rest = refl;
      queried = λ i. record {
        given = session_inputs c.self.inside.lanes c.self.inside.options;
        setting = s;
        phase = Queried;
        version = c.self.inside.version;
        progress = record { past = past i; begun = (progress_of c.self.inside.work).begun };
        work = work_of (record c.self.inside.work { core = c.hand_out.new.self; journal = c.push.new.self });
      };
      later = subst (λ (p : List Entry). IsLater s old p) (sym past) (inr (unmoved.run.0, later_self s old));
      calls = refl;
    })

pub invariant_of-self-in-Ok : goal.invariant_of-self-in-Ok
invariant_of-self-in-Ok c =
    let f = in_phase c.self.inside.lanes c.self.inside.options c.self.inside.version c.self.inside.info
    c.self.inside.work c.self.inside.phase Asking c.self.invariant (rw (← c.self.view_is) at c.requires.asking) in
    let one : List Entry = entry.Event Send ∷ [] in
    let old : List Entry = reverse c.self.inside.work.journal.items in
    let pushed : c.push.new.self.items ≡ c.self.inside.work.journal.items ++ one = search rules in
    let past : reverse c.push.new.self.items ≡ entry.Event Send ∷ old =
    ap reverse pushed ∙ reverse-append c.self.inside.work.journal.items one in
    let now : Lanes = record c.self.inside.work { core = c.hand_out.new.self; journal = c.push.new.self } in
    let s : Setting = setting_by c.self.inside.lanes c.self.inside.options c.self.inside.version c.self.inside.info in
    let core_is : c.hand_out.new.self ≡ handed_out c.self.inside.work.core = search rules in
    let bare : without_lanes (reverse c.push.new.self.items) ≡ limits_query_sent 0 = ap without_lanes past
    ∙ ap (λ (p : List Entry). entry.Event Send ∷ p) f.0.1.3 in
    record {
      ok = c.self.invariant.ok;
      intact = leaves_intact (length c.self.inside.lanes) c.self.inside.work now c.self.invariant.intact
          (record { kept = refl; past = λ lane. ap (λ (p : List Entry). lane_report p lane) past }) (search rules);
      now = (
        (f.0.0, (f.0.1.0, f.0.1.1, core_is ∙ ap handed_out f.0.1.2, bare)),
        (
          f.1.0,
          record { asked = f.1.1.asked ∙ sym (ap count_submitted past); count = f.1.1.count; each = f.1.1.each },
          subst (AreIdleRuns c.self.inside.lanes) (sym past) (sent_unmoved c.self.inside.lanes old f.0.1.3 f.1.2),
        ),
      );
      told = λ e. cc e;
      calls = same_calls c.self.inside.lanes c.self.inside.work now refl
          (λ lane. ap (λ (p : List Entry). calls_added_to p lane) past)
          c.self.invariant.calls;
      fixed = λ some. subst (λ (p : List Entry). IsFixed (session_inputs c.self.inside.lanes c.self.inside.options)
          c.self.inside.version p s)
          (sym past) (c.self.invariant.fixed some);
    }

pub invariant_of-self : goal.invariant_of-self
invariant_of-self c =
    let kept : c.reserve.new.self.items ≡ c.self.inside.work.journal.items = search rules in
    let now : Lanes = record c.self.inside.work { journal = c.reserve.new.self } in
    fails_by c.self.inside.lanes c.self.inside.options c.self.inside.version
    c.self.inside.info c.self.inside.work now c.self.inside.phase c.self.invariant
    (leaves_intact (length c.self.inside.lanes) c.self.inside.work now c.self.invariant.intact
    (record { kept = refl; past = λ lane. ap (λ (xs : List Entry). lane_report (reverse xs) lane) kept })
    (search rules))
    (left_fails c.self.inside.work now (record { past = ap reverse kept; fault = refl; reports = refl; calls = refl }))

pub invariant_of-self-in-Err : goal.invariant_of-self-in-Err
invariant_of-self-in-Err c =
    let kept : c.reserve.new.self.items ≡ c.self.inside.work.journal.items = search rules in
    let same : c.hand_out.new.self.fault ≡ c.self.inside.work.core.fault = search rules in
    let now : Lanes = record c.self.inside.work { core = c.hand_out.new.self; journal = c.reserve.new.self } in
    fails_by c.self.inside.lanes c.self.inside.options c.self.inside.version
    c.self.inside.info c.self.inside.work now c.self.inside.phase c.self.invariant
    (leaves_intact (length c.self.inside.lanes) c.self.inside.work now c.self.invariant.intact
    (record { kept = refl; past = λ lane. ap (λ (xs : List Entry). lane_report (reverse xs) lane) kept })
    (search rules))
    (left_fails c.self.inside.work now (record { past = ap reverse kept; fault = same; reports = refl; calls = refl }))

pub returns-in-Ok-clause-frames : goal.returns-in-Ok-clause-frames
returns-in-Ok-clause-frames c = rw (← c.self.view_is) c.in-Ok.ensures.frames
