-- What a lane's call asks next is within the range of offsets and the session's read length.
use Rattle.std.proofs.Common.{◌≡◌, ℕ, List, [], Option, Some, None, ap, sym, ◌∙◌, subst}
use Rattle.std.specs.Prelude.{slice_get}
use Rattle.std.proofs.lemmas.List.{append-nil}
use Rattle.sftp_model.specs.declared.reply.Reply.{Reply}
use Rattle.sftp_model.specs.declared.request.Request.TheVariants as request
use Rattle.sftp_model.specs.declared.slot.Move.{Move}
use Rattle.sftp_model.specs.declared.slot.Move.TheVariants.{Ask, Wait, Done}
use Rattle.sftp_core.specs.Core.{record_at, reply_in}
use Rattle.plan_model.specs.Moves.{Own}
use Rattle.plan_model.specs.GoodMoves.{FitsCall, FitsFacts, IsGood, ReadsWithin, Situation, situation}
use Rattle.plan_model.specs.OwnRequests.{oldest_first}
use Rattle.plan_model.proofs.AskedLaws.{asked_range}
use Rattle.plan_model.proofs.CallLaws.{next_good}
use Rattle.plan_runner.specs.declared.next.Running.{Running}
use Rattle.plan_runner.specs.Runners.{after, awaited_place, bytes_of, residual}
use Rattle.plan_runner.specs.Sound.{AsksWithin}
use Rattle.plan_runner.proofs.GoingLaws.{residual_came, residual_missing, residual_none}
use Rattle.plan_model.specs.declared.call.Call.{Call}
use Rattle.session_model.specs.declared.entry.Entry.{Entry}
use Rattle.session_model.specs.Readings.{answer, count_ended, own}
use Rattle.session_model.specs.Calls.{Setting, current, site_of}
use Rattle.session_model.specs.Journals.{IsJournal}
use Rattle.session_model.proofs.CallsSoFar.{calls_so_far}
use Rattle.session_laws.specs.Lanes.{AtTied, LaneValue, Ticketed}
use Rattle.session_laws.proofs.LaneLaws.{replies_agree}
use Rattle.session_work.specs.Rests.{LanesAskInRange}
use Rattle.session_work.specs.Turning.{RangesBy}
use Rattle.plan_model.specs.CallPlans.{next}

-- a good move that asks a READ asks it within the range
good_reads : (s : Situation) (m : Move) → IsGood s m → ReadsWithin s.facts m
good_reads s (Ask (request.Read handle offset len)) good = (good.1, good.2)
good_reads s (Ask other) good = tt
good_reads s (Wait place) good = tt
good_reads s (Done o site) good = tt

-- so does the plan of a lane's call
plan_within : (s : Setting) (past : List Entry) (lane : ℕ) (c : Call) → IsJournal s past → current s past lane ≡ Some c
    → FitsCall c → FitsFacts s.facts
    → ReadsWithin s.facts (next c (site_of s past lane) s.facts (own past lane (count_ended past lane)) (answer past))
plan_within s past lane c j is fits fit =
    let goes = calls_so_far s past lane c j is in
    let asked : Own = oldest_first goes.requests in
    subst (λ (o : Own). ReadsWithin s.facts (next c (site_of s past lane) s.facts o (answer past))) goes.are
    (good_reads (situation c (site_of s past lane) s.facts asked (answer past))
    (next c (site_of s past lane) s.facts asked (answer past))
    (next_good c (site_of s past lane) s.facts asked (answer past)
    (asked_range c (site_of s past lane) s.facts goes.requests (answer past) fits fit goes.so_far)))

pub lanes_in_range : LanesAskInRange
lanes_in_range s past core lanes begun lane c h there is fits fit = record { none = none; some = some }
  where
    v : LaneValue
    v = lanes lane

    left_within : (r : Running) → v.running ≡ Some r → ReadsWithin s.facts
        (residual r (bytes_of c) v.site s.facts [] (answer past))
    left_within r was =
        let runs : AtTied s past lane (Some r) v.site = subst (λ (o : Option Running). AtTied s past lane o v.site) was
        (h.between.tied.each lane there).goes.runs in
        subst (ReadsWithin s.facts) (ap (λ (o : Own). next c (site_of s past lane) s.facts o (answer past))
        (sym (append-nil (own past lane (count_ended past lane)))) ∙ runs.0 c is (answer past) (λ place y e. e) [])
        (plan_within s past lane c h.between.good.run is fits fit)

    none : (r : Running) → v.running ≡ Some r → awaited_place r v.site ≡ None
        → AsksWithin s.facts (after r (bytes_of c) v.site s.facts None)
    none r was looks = record {
      answers = answer past;
      within =
          subst (ReadsWithin s.facts) (residual_none r (bytes_of c) v.site s.facts [] (answer past) looks)
          (left_within r was);
    }

    by_reply : (r : Running) (p : ℕ) (o : Option Reply) → v.running ≡ Some r → awaited_place r v.site ≡ Some p
        → answer past p
        ≡ o → RangesBy r (bytes_of c) v.site s.facts o
    by_reply r p None was looks got = record {
      answers = answer past;
      within =
          subst (ReadsWithin s.facts) (residual_missing r (bytes_of c) v.site s.facts [] (answer past) p looks got)
          (left_within r was);
    }
    by_reply r p (Some y) was looks got = record {
      answers = answer past;
      within =
          subst (ReadsWithin s.facts) (residual_came r (bytes_of c) v.site s.facts [] (answer past) p y looks got)
          (left_within r was);
    }

    some : (k : ℕ) (t : Ticketed) (r : Running) → slice_get v.tickets k ≡ Some t → v.running ≡ Some r
        → awaited_place r v.site
        ≡ Some t.place → RangesBy r (bytes_of c) v.site s.facts (reply_in (record_at core t.ticket))
    some k t r got was looks = by_reply r t.place (reply_in (record_at core t.ticket)) was looks
        (sym (replies_agree s past core lanes [] lane k t h.between.tied there got))
