-- A journal in which no lane has done anything goes on.
use Rattle.std.proofs.Common.{◌≡◌, ◌<◌, ◌==◌, ℕ, Bool, true, false, List, [], ◌∷◌, None, refl, ap, if◌then◌else◌}
use Rattle.std.specs.Prelude.{length}
use Rattle.sftp_model.specs.declared.reply.Reply.{Reply}
use Rattle.sftp_model.specs.declared.request.Request.TheVariants as request
use Rattle.sftp_model.specs.declared.slot.Site.{Site}
use Rattle.sftp_model.specs.Answers.{is_handle}
use Rattle.sftp_model.specs.Slots.{fresh_site}
use Rattle.plan_model.specs.declared.call.Call.{Call}
use Rattle.plan_model.specs.Lanes.{is_within}
use Rattle.session_model.specs.declared.event.Event.TheVariants.{Send, Submit, Take}
use Rattle.session_model.specs.declared.event.Owner.TheVariants as owner
use Rattle.session_model.specs.declared.entry.Entry.{Entry}
use Rattle.session_model.specs.declared.entry.Entry.TheVariants as entry
use Rattle.session_model.specs.Calls.{Setting, current, site_of}
use Rattle.session_model.specs.Grants.{closed_grants, first_let_go, letting_go, next_due}
use Rattle.session_model.specs.Journals.{IsFree, MayTake}
use Rattle.session_model.specs.Readings.{count_submitted, count_sent, was_kept, was_let_go}
use Rattle.session_model.proofs.CallLaws.{may_next}
use Rattle.session_laws.specs.Changes.{HasNoHistory}
use Rattle.session_laws.proofs.DueLaws.{none_next}
use Rattle.session_laws.proofs.StartLaws.{start_dues, unbegun_added, unbegun_send, unbegun_setup, unbegun_start, unbegun_take}
use Rattle.sftp_lanes.specs.Seen.{IsIdleRun}

-- nothing is to be closed
plain : (s : Setting) (past : List Entry) → letting_go s past ≡ None → HasNoHistory s past → next_due s past ≡ None
plain s past letting u = none_next s past letting (start_dues s past u)

pub unmoved_start : (s : Setting) → IsIdleRun s []
unmoved_start s = record {
  run = tt;
  calm = refl;
  settled = plain s [] refl (unbegun_start s);
  unbegun =
      unbegun_start s;
}

pub unmoved_added : (s : Setting) (past : List Entry) (lane : ℕ) (c : Call) → lane < length s.lanes
    → was_let_go past lane ≡ false → is_within c ≡ true → IsIdleRun s past → IsIdleRun s (entry.Added lane c ∷ past)
unmoved_added s past lane c lt held within u =
    let begun = unbegun_added s past lane c u.unbegun in
    record {
      run = (may_next s past (entry.Added lane c) u.calm u.settled (lt, held, within), u.run);
      calm = refl;
      settled = plain s (entry.Added lane c ∷ past) refl begun;
      unbegun = begun;
    }

unbegun_let_go : (s : Setting) (past : List Entry) (l : ℕ) → HasNoHistory s past → HasNoHistory s (entry.LetGo l ∷ past)
unbegun_let_go s past l u =
    record {
      ends = u.ends;
      owns = u.owns;
      asks = u.asks;
      site = λ lane. by_test lane (l == lane);
      ungranted =
          u.ungranted;
    }
  where
    by_test : (lane : ℕ) (b : Bool) → (if b then
        record { slots = fresh_site.slots; directory = (site_of s past lane).directory } else site_of s past lane)
        ≡ fresh_site
    by_test lane true = ap (λ (x : Site). record { slots = fresh_site.slots; directory = x.directory }) (u.site lane)
    by_test lane false = u.site lane

pub unmoved_let_go : (s : Setting) (past : List Entry) (lane : ℕ) → lane < length s.lanes → current s past lane ≡ None
    → was_let_go past lane ≡ false → IsIdleRun s past → IsIdleRun s (entry.LetGo lane ∷ past)
unmoved_let_go s past lane lt done held u =
    record {
      run = (may_next s past (entry.LetGo lane) u.calm u.settled (lt, done, held), u.run);
      calm = refl;
      settled = ap (λ (x : Site). first_let_go (closed_grants s (entry.LetGo lane ∷ past)) x.slots)
          (u.unbegun.site lane);
      unbegun = unbegun_let_go s past lane u.unbegun;
    }

pub unmoved_setup : (s : Setting) (past : List Entry) → s.limits ≡ true → count_submitted past ≡ 0 → IsFree past 0
    → IsIdleRun s past
    → IsIdleRun s (entry.Event (Submit owner.Setup 0 request.LimitsQuery) ∷ past)
unmoved_setup s past offers none free u =
    let e : Entry = entry.Event (Submit owner.Setup 0 request.LimitsQuery) in
    let begun = unbegun_setup s past 0 request.LimitsQuery u.unbegun in
    record {
      run = (may_next s past e u.calm u.settled (offers, none, refl, free), u.run);
      calm = refl;
      settled = plain s (e ∷ past) refl begun;
      unbegun = begun;
    }

pub unmoved_send : (s : Setting) (past : List Entry) → count_sent past < count_submitted past → IsIdleRun s past
    → IsIdleRun s (entry.Event Send ∷ past)
unmoved_send s past less u =
    let begun = unbegun_send s past u.unbegun in
    record {
      run = (may_next s past (entry.Event Send) u.calm u.settled less, u.run);
      calm = refl;
      settled = plain s (entry.Event Send ∷ past) refl begun;
      unbegun = begun;
    }

pub unmoved_take : (s : Setting) (past : List Entry) (id : ℕ) (r : Reply) → MayTake past id r → was_kept past ≡ false
    → is_handle r ≡ false → IsIdleRun s past → IsIdleRun s (entry.Event (Take id r) ∷ past)
unmoved_take s past id r may unkept bare u =
    let begun = unbegun_take s past id r bare u.unbegun in
    record {
      run = (may_next s past (entry.Event (Take id r)) u.calm u.settled (may, unkept), u.run);
      calm = refl;
      settled = plain s (entry.Event (Take id r) ∷ past) refl begun;
      unbegun = begun;
    }
