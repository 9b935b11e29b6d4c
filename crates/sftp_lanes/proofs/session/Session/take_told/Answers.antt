use Rattle.std.proofs.Common.{◌≡◌, ◌∙◌, ◌∷◌, [], ◌++◌, sym, refl, ap, subst, rules, length, List, Option, Some}
use Rattle.std.specs.Prelude.{reverse}
use Rattle.std.proofs.lemmas.List.{reverse-append}
use Rattle.sftp_model.specs.declared.reply.Reply.{Reply}
use Rattle.sftp_model.specs.ReplyReadings.{limits_in}
use Rattle.sftp_core.specs.declared.tokens.Taken.TheVariants as taken_of
use Rattle.sftp_core.specs.Core.{Core}
use Rattle.sftp_core.specs.Info.{info_of, info_with}
use Rattle.sftp_model.specs.Lengths.{offers_limits}
use Rattle.sftp_core.specs.Take.{IsFirst, fault_of}
use Rattle.session_model.specs.Calls.{Setting, calls_added_to}
use Rattle.session_model.specs.declared.event.Event.TheVariants.{Take}
use Rattle.session_model.specs.declared.entry.Entry.{Entry}
use Rattle.session_model.specs.declared.entry.Entry.TheVariants as entry
use Rattle.session_model.specs.Readings.{answer, count_submitted}
use Rattle.session_model.specs.Runs.{limits_query_sent}
use Rattle.session_driver.specs.declared.session.Phase.TheVariants.{Open, Queried}
use Rattle.session_driver.specs.Bare.{offered_extensions}
use Rattle.session_driver.proofs.Bare.{came, queried_first}
use Rattle.sftp_lanes.specs.Events.{told_limits}
use Rattle.sftp_lanes.specs.Seen.{HasCalls, IsInPhase, IsIdleRun, setting_by}
use Rattle.session_work.specs.declared.lanes.Lanes.{Lanes}
use Rattle.session_work.specs.Reports.{lane_report, reports_of}
use Rattle.session_work.specs.Working.{past_of, progress_of}
use Rattle.session_work.proofs.FaultLaws.{refused_so_far}
use Rattle.session_work.proofs.ReportLaws.{leaves_intact}
use Rattle.sftp_lanes.proofs.FixedLaws.{same_calls}
use Rattle.sftp_lanes.proofs.Going.{refused_by}
use Rattle.sftp_lanes.proofs.Opening.{
  facts_told,
  facts_untouched,
  fit_told,
  in_phase,
  info_came,
  is_fixed,
  limits_are,
  opens_told,
  same_limits,
  still_untouched,
}
use Rattle.sftp_lanes.proofs.OpeningSteps.{may_take_limits, refuses_as, taken_unmoved}
use Rattle.sftp_lanes.proofs.Plain.{Told, told, told_as}
use Rattle.sftp_lanes.proofs.Reporting.{later_all}
use Rattle.sftp_lanes.proofs.session.Session.take_told.Goals as goal

pub invariant_of-self : goal.invariant_of-self
invariant_of-self c =
    let f = in_phase c.self.inside.lanes c.self.inside.options c.self.inside.version c.self.inside.info
    c.self.inside.work c.self.inside.phase Queried c.self.invariant (rw (← c.self.view_is) at c.requires.queried) in
    let q = f.0 in
    let t = came _ q.0 _ _ _ _ q.1.2 c.in-Ok-Limits.ensures.takes.only c.in-Ok-Limits.ensures.takes.taken in
    let named : c.in-Ok-Limits.field-0 ≡ taken_of.Limits c.in-Ok-Limits.id c.in-Ok-Limits.reply =
    c.in-Ok-Limits.field-0-is in
    let both = same_limits c.in-Ok-Limits.id 0 c.in-Ok-Limits.reply t.reply (sym named ∙ t.tells) in
    let zero : c.in-Ok-Limits.id ≡ 0 = both.0 in
    let same : c.in-Ok-Limits.reply ≡ t.reply = both.1 in
    let one : List Entry = entry.Event (Take c.in-Ok-Limits.id c.in-Ok-Limits.reply) ∷ [] in
    let pushed : c.push.new.self.items ≡ c.self.inside.work.journal.items ++ one = search rules in
    let past : reverse c.push.new.self.items ≡ entry.Event (Take c.in-Ok-Limits.id c.in-Ok-Limits.reply) ∷ reverse
    c.self.inside.work.journal.items = ap reverse pushed ∙ reverse-append c.self.inside.work.journal.items one in
    let old : List Entry = past_of c.self.inside.work in
    let came_in : reverse c.push.new.self.items ≡ entry.Event (Take 0 t.reply) ∷ old = past
    ∙ (λ i. entry.Event (Take (zero i) (same i)) ∷ old) in
    let all : told (reverse c.push.new.self.items) ≡ told (entry.Event (Take 0 t.reply) ∷ limits_query_sent 0) =
    ap told came_in
    ∙ told_as (entry.Event (Take 0 t.reply) ∷ old) (entry.Event (Take 0 t.reply) ∷ limits_query_sent 0)
    (ap (λ (p : List Entry). entry.Event (Take 0 t.reply) ∷ p) q.1.3) in
    let answered : answer (reverse c.push.new.self.items) 0 ≡ Some t.reply = ap (λ (x : Told). x.answer 0) all in
    let calm = info_came _ q.0 _ _ _ _ t.reply q.1.2 c.in-Ok-Limits.ensures.takes.only
    c.in-Ok-Limits.ensures.takes.taken t.reads in
    let tells = c.tell-self-inside in
    let known = tells.ensures.info ∙ ap (λ (k : Core). info_of k.phase) calm in
    let facts = facts_told tells.new.work.facts c.self.inside.options (offered_extensions c.self.inside.version) _ _
    (tells.ensures.facts (offered_extensions c.self.inside.version)) known in
    let fit = fit_told tells.new.work.facts _ _ tells.ensures.fit known in
    let before : Lanes = record c.take_frame.new.self { journal = c.push.new.self } in
    let still = still_untouched c.self.inside.lanes c.self.inside.work before
    (λ i. record (c.take_frame.ensures.rest i) { journal = c.push.new.self }) (ap count_submitted past) f.1.1 in
    let s : Setting = setting_by c.self.inside.lanes c.self.inside.options c.self.inside.version tells.result in
    let unmoved : IsIdleRun s (reverse c.push.new.self.items) = subst (IsIdleRun s) (sym came_in)
    (taken_unmoved s old t.reply q.1.3 t.goes
    (f.1.2 s refl (λ some. ap (λ (v : Option Reply). offers_limits (offered_extensions v)) q.1.0 ∙ q.1.1))) in
    let has : HasCalls c.self.inside.lanes before = same_calls c.self.inside.lanes c.self.inside.work before
    (ap (λ (w : Lanes). w.calls) c.take_frame.ensures.rest) (λ lane. ap (λ (p : List Entry). calls_added_to p lane)
    past)
    c.self.invariant.calls in
    let now_has : HasCalls c.self.inside.lanes (record before { facts = tells.new.work.facts }) =
    record { count = has.count; ok = has.ok; each = has.each } in
    record {
      ok = c.self.invariant.ok;
      intact = leaves_intact (length c.self.inside.lanes) c.self.inside.work
          (record tells.new.work { journal = c.push.new.self }) c.self.invariant.intact
          (record {
            kept = ap reports_of tells.ensures.rest ∙ ap reports_of c.take_frame.ensures.rest;
            past =
                λ lane. ap (λ (p : List Entry). lane_report p lane) past;
          }) (search rules);
      now = subst (λ (x : Lanes). IsInPhase c.self.inside.lanes c.self.inside.options c.self.inside.version tells.result
          (record x { journal = c.push.new.self }) Open) (sym tells.ensures.rest)
          (opens_told _ _ _ _ q.0 (limits_in t.reply) t.reply (record before { facts = tells.new.work.facts })
          now_has q.1.0 q.1.1 known facts fit calm all
          (facts_untouched _ before tells.new.work.facts still) unmoved);
      told = λ e nothing. cc (sym known ∙ nothing);
      calls = subst (λ (x : Lanes). HasCalls c.self.inside.lanes (record x { journal = c.push.new.self }))
          (sym tells.ensures.rest) now_has;
      fixed = λ some. is_fixed c.self.inside.lanes c.self.inside.options q.0 (limits_in t.reply) c.self.inside.version
          tells.result (reverse c.push.new.self.items) q.1.0 known
          (limits_are (offers_limits q.0) (reverse c.push.new.self.items) t.reply q.1.1 answered);
    }

pub invariant_of-self-in-Err : goal.invariant_of-self-in-Err
invariant_of-self-in-Err c =
    let q = (in_phase c.self.inside.lanes c.self.inside.options c.self.inside.version c.self.inside.info
    c.self.inside.work c.self.inside.phase Queried c.self.invariant (rw (← c.self.view_is) at c.requires.queried)).0
    in
    refused_by c.self.inside.lanes c.self.inside.options c.self.inside.version c.self.inside.info c.self.inside.work
    c.take_frame.new.self c.self.inside.phase (fault_of c.in-Err.e) c.self.invariant c.take_frame.ensures.rest
    c.in-Err.ensures.refused.noted c.take_frame.ensures.room
    (λ s. refused_so_far s c.in-Err.e _ _ _ _ _ (ap (λ (k : Core). k.fault) q.1.2) c.in-Err.ensures.refused.error
    c.in-Err.ensures.refused.noted)

pub returns-in-Ok-Limits-clause-takes : goal.returns-in-Ok-Limits-clause-takes
returns-in-Ok-Limits-clause-takes c =
    let f = in_phase c.self.inside.lanes c.self.inside.options c.self.inside.version c.self.inside.info
    c.self.inside.work c.self.inside.phase Queried c.self.invariant (rw (← c.self.view_is) at c.requires.queried) in
    let q = f.0 in
    let t = came _ q.0 _ _ _ _ q.1.2 c.in-Ok-Limits.ensures.takes.only c.in-Ok-Limits.ensures.takes.taken in
    let named : c.in-Ok-Limits.field-0 ≡ taken_of.Limits c.in-Ok-Limits.id c.in-Ok-Limits.reply =
    c.in-Ok-Limits.field-0-is in
    let both = same_limits c.in-Ok-Limits.id 0 c.in-Ok-Limits.reply t.reply (sym named ∙ t.tells) in
    let zero : c.in-Ok-Limits.id ≡ 0 = both.0 in
    let same : c.in-Ok-Limits.reply ≡ t.reply = both.1 in
    let one : List Entry = entry.Event (Take c.in-Ok-Limits.id c.in-Ok-Limits.reply) ∷ [] in
    let pushed : c.push.new.self.items ≡ c.self.inside.work.journal.items ++ one = search rules in
    let past : reverse c.push.new.self.items ≡ entry.Event (Take c.in-Ok-Limits.id c.in-Ok-Limits.reply) ∷ reverse
    c.self.inside.work.journal.items = ap reverse pushed ∙ reverse-append c.self.inside.work.journal.items one in
    let old : List Entry = past_of c.self.inside.work in
    let came_in : reverse c.push.new.self.items ≡ entry.Event (Take 0 t.reply) ∷ old = past
    ∙ (λ i. entry.Event (Take (zero i) (same i)) ∷ old) in
    let all : told (reverse c.push.new.self.items) ≡ told (entry.Event (Take 0 t.reply) ∷ limits_query_sent 0) =
    ap told came_in
    ∙ told_as (entry.Event (Take 0 t.reply) ∷ old) (entry.Event (Take 0 t.reply) ∷ limits_query_sent 0)
    (ap (λ (p : List Entry). entry.Event (Take 0 t.reply) ∷ p) q.1.3) in
    let answered : answer (reverse c.push.new.self.items) 0 ≡ Some t.reply = ap (λ (x : Told). x.answer 0) all in
    let calm = info_came _ q.0 _ _ _ _ t.reply q.1.2 c.in-Ok-Limits.ensures.takes.only
    c.in-Ok-Limits.ensures.takes.taken t.reads in
    let known = c.tell-self-inside.ensures.info ∙ ap (λ (k : Core). info_of k.phase) calm in
    let s : Setting = setting_by c.self.inside.lanes c.self.inside.options c.self.inside.version
    c.tell-self-inside.result in
    let unmoved : IsIdleRun s (reverse c.push.new.self.items) = subst (IsIdleRun s) (sym came_in)
    (taken_unmoved s old t.reply q.1.3 t.goes
    (f.1.2 s refl (λ some. ap (λ (v : Option Reply). offers_limits (offered_extensions v)) q.1.0 ∙ q.1.1))) in
    rw (← c.self.view_is)
    (record {
      rest = refl;
      limited = record {
        tells = (
          0,
          (
            t.reply,
            (t.reads, may_take_limits old t.reply q.1.3 t.goes, came_in),
          ),
        );
        is_open = refl;
        begun = ap (λ (w : Lanes). (progress_of w).begun) c.tell-self-inside.ensures.rest
            ∙ ap (λ (w : Lanes). (progress_of w).begun) c.take_frame.ensures.rest;
        later = later_all s (reverse c.push.new.self.items) unmoved.run;
        fixed = is_fixed c.self.inside.lanes c.self.inside.options q.0 (limits_in t.reply) c.self.inside.version
            c.tell-self-inside.result (reverse c.push.new.self.items) q.1.0 known
            (limits_are (offers_limits q.0) (reverse c.push.new.self.items) t.reply q.1.1 answered);
      };
      calls = ap (λ (w : Lanes). w.calls) c.tell-self-inside.ensures.rest
          ∙ ap (λ (w : Lanes). w.calls) c.take_frame.ensures.rest;
      info = known ∙ (λ i. Some (info_with (offered_extensions (sym q.1.0 i)) (told_limits (sym t.reads i))
          c.self.inside.options));
    })

pub returns-in-Err : goal.returns-in-Err
returns-in-Err c =
    let q = (in_phase c.self.inside.lanes c.self.inside.options c.self.inside.version c.self.inside.info
    c.self.inside.work c.self.inside.phase Queried c.self.invariant (rw (← c.self.view_is) at c.requires.queried)).0
    in
    rw (← c.self.view_is)
    (record {
      takes = tt;
      refused = subst (IsFirst c.in-Err.e)
          (sym (refuses_as (past_of c.self.inside.work) (limits_query_sent 0)
          (told_as (past_of c.self.inside.work) (limits_query_sent 0) q.1.3)
          c.args.read))
          (queried_first _ q.0 _ _ (limits_query_sent 0) _ _ q.1.2 refl c.in-Err.ensures.refused.error);
      kept = record {
        rest = refl;
        past = c.in-Err.ensures.refused.noted;
        calls = ap (λ (w : Lanes). w.calls) c.take_frame.ensures.rest;
      };
    })
