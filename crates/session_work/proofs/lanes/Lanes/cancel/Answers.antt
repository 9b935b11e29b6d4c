use Rattle.std.proofs.Common.{rules, ◌≡◌, ◌<◌, ◌≤◌, ◌∷◌, ℕ, List, true, false, length, ap, sym, subst, ◌∙◌, arith, inl, inr, refl}
use Rattle.std.specs.Prelude.{is_some, reverse, slice_set}
use Rattle.sftp_model.specs.declared.outcome.Outcome.TheVariants as outcome
use Rattle.session_model.specs.declared.event.Event.TheVariants.{Cancel, End}
use Rattle.session_model.specs.declared.entry.Entry.{Entry}
use Rattle.session_model.specs.declared.entry.Entry.TheVariants as entry
use Rattle.session_model.specs.Readings.{count_ended}
use Rattle.session_model.specs.Turns.{begun_but}
use Rattle.session_laws.specs.Lanes.{LaneValue}
use Rattle.session_laws.specs.Ends.{GivesUp, cancelled_past}
use Rattle.session_laws.specs.Rest.{begun_of}
use Rattle.session_work.specs.Turning.{LeavesBehind}
use Rattle.session_work.specs.Closing.{IsClosingLane, IsClosed}
use Rattle.session_work.specs.Reports.{with_outcome}
use Rattle.session_work.specs.Working.{LanesValue, contents_of, lane_in, past_of}
use Rattle.session_work.proofs.BegunLaws.{begun_at, begun_less}
use Rattle.session_work.proofs.CancellingLaws.{cancelled_in, cancelling, cancels_call, cancels_nothing, gives_idle, may_cancel, there_of}
use Rattle.session_work.proofs.Contents.{pushed, state_at}
use Rattle.session_work.proofs.NotingLaws.{ends_at}
use Rattle.session_work.proofs.ReportLaws.{cancelled_intact, left_err}
use Rattle.session_work.proofs.lanes.Lanes.cancel.Goals as goal
use Rattle.session_work.proofs.lanes.Lanes.cancel.Goals.{then-lane-len-via-then-lane-len, then-lane-len-via-else-lane-len+then-not-runs}

pub returns-then-lane-len-clause-cancels : goal.returns-then-lane-len-clause-cancels
returns-then-lane-len-clause-cancels c =
    elim c.then-lane-len.branch [
      | then-lane-len-via-then-lane-len w ↦ (λ s works. cancels_nothing s c.args.lane (contents_of c.args.self.now)
          works (inl (let out : length c.args.self.now.states.items ≤ c.args.lane = search rules in out)))
      | then-lane-len-via-else-lane-len+then-not-runs w ↦ (λ s works. cancels_nothing s c.args.lane
          (contents_of c.args.self.now) works
          (inr (let there : c.args.lane < length c.args.self.now.states.items = search rules in
          let idle : is_some w.index.result.now.running ≡ false = search rules in
          begun_at c.args.self.now.states.items c.args.lane w.index.result.now false there w.index.ensures idle)))
    ]

pub give_up-requires-clause-safe : goal.give_up-requires-clause-safe
give_up-requires-clause-safe c =
    let there : c.args.lane < length c.args.self.now.states.items = search rules in
    let runs : is_some c.index.result.now.running ≡ true = search rules in
    let begun : begun_of (lane_in c.args.self.now.states.items) c.args.lane ≡ true =
    begun_at c.args.self.now.states.items c.args.lane c.index.result.now true there c.index.ensures runs in
    let o = c.requires.opened in
    (may_cancel o.0 c.args.lane (contents_of c.args.self.now) c.index_mut-state.result.now o.1 there begun
    c.index_mut-state.ensures.value).safe

pub give_up-requires-clause-may : goal.give_up-requires-clause-may
give_up-requires-clause-may c =
    let there : c.args.lane < length c.args.self.now.states.items = search rules in
    let runs : is_some c.index.result.now.running ≡ true = search rules in
    let begun : begun_of (lane_in c.args.self.now.states.items) c.args.lane ≡ true =
    begun_at c.args.self.now.states.items c.args.lane c.index.result.now true there c.index.ensures runs in
    let o = c.requires.opened in
    let m = (may_cancel o.0 c.args.lane (contents_of c.args.self.now) c.index_mut-state.result.now o.1 there begun
    c.index_mut-state.ensures.value) in
    record {
      begun = (
          let there : c.args.lane < length c.args.self.now.states.items = search rules in
          let runs : is_some c.index.result.now.running ≡ true = search rules in
          let states : List LaneValue = c.args.self.now.states.items in
          let same : c.index.result.now ≡ c.index_mut-state.result.now =
          state_at states c.args.lane c.index.result.now there c.index.ensures
          ∙ sym (state_at states c.args.lane c.index_mut-state.result.now there c.index_mut-state.ensures.value) in
          subst (λ (y : LaneValue). is_some y.running ≡ true) same runs
          );
      awaits = m.awaits;
      deferred = m.deferred;
      counted = m.counted;
      rising = m.rising;
      unfailed = m.unfailed;
      few = m.few;
    }

pub close_unheld-requires-clause-closing : goal.close_unheld-requires-clause-closing
close_unheld-requires-clause-closing c =
    let there : c.args.lane < length c.args.self.now.states.items = search rules in
    let runs : is_some c.index.result.now.running ≡ true = search rules in
    let begun : begun_of (lane_in c.args.self.now.states.items) c.args.lane ≡ true =
    begun_at c.args.self.now.states.items c.args.lane c.index.result.now true there c.index.ensures runs in
    let kept : c.reserve.new.self.items ≡ c.args.self.now.journal.items = search rules in
    let o = c.requires.opened in
    let old : LanesValue = contents_of c.args.self.now in
    let is : c.index_mut-state.result.now ≡ lane_in old.states c.args.lane =
    state_at old.states c.args.lane c.index_mut-state.result.now there c.index_mut-state.ensures.value in
    let gives : GivesUp old.core c.give_up.new.core (lane_in old.states c.args.lane) c.give_up.new.self =
    subst (λ (y : LaneValue). GivesUp old.core c.give_up.new.core y c.give_up.new.self) is
    c.in_ok-give_up.ensures.ok in
    let behind : LeavesBehind old.core (lane_in old.states c.args.lane) c.give_up.new.self =
    subst (λ (y : LaneValue). LeavesBehind old.core y c.give_up.new.self) is c.in_ok-give_up.ensures.leaves in
    let within = there_of o.0 old c.args.lane o.1 there in
    let x = cancelling o.0 c.args.lane old c.give_up.new.core c.give_up.new.self o.1 within begun begun gives behind in
    let number : c.ended-call.result ≡ count_ended old.past c.args.lane = c.ended-call.ensures
    ∙ ap (λ (y : LaneValue). y.ended) is ∙ ends_at o.0 c.args.lane old o.1 within in
    let started : Entry = entry.Event (Cancel c.args.lane) in
    let over : Entry = entry.Event (End c.args.lane c.ended-call.result outcome.Cancelled) in
    let past : reverse c.add_entry-2.new.journal.items ≡ cancelled_past old.past c.args.lane =
    ap reverse c.add_entry-2.ensures.items ∙ pushed c.add_entry.new.journal.items over
    ∙ ap (λ (es : List Entry). over ∷ reverse es) c.add_entry.ensures.items
    ∙ ap (λ (es : List Entry). over ∷ es) (pushed c.reserve.new.self.items started
    ∙ ap (λ (es : List Entry). started ∷ reverse es) kept)
    ∙ ap (λ (n : ℕ). entry.Event (End c.args.lane n outcome.Cancelled) ∷ started ∷ old.past) number in
    let left : begun_but old.begun c.args.lane ≡ begun_of (lane_in
    (slice_set old.states c.args.lane c.give_up.new.self)) =
    begun_less old.states c.args.lane c.give_up.new.self there
    (ap is_some (gives_idle old.core c.give_up.new.core (lane_in old.states c.args.lane) c.give_up.new.self gives))
    in (
      o.0,
      (
        cancelled_past old.past c.args.lane,
        subst (λ (y : LanesValue). IsClosingLane o.0 (cancelled_past old.past c.args.lane) c.args.lane y)
            (λ i. record {
              calls = old.calls;
              core = c.give_up.new.core;
              facts = old.facts;
              past = sym past i;
              asked =
                  old.asked;
              states = slice_set old.states c.args.lane c.give_up.new.self;
              begun = left i;
            }) x.closing,
      ),
    )

pub returns-clause-cancels : goal.returns-clause-cancels
returns-clause-cancels c =
    let there : c.args.lane < length c.args.self.now.states.items = search rules in
    let runs : is_some c.index.result.now.running ≡ true = search rules in
    let begun : begun_of (lane_in c.args.self.now.states.items) c.args.lane ≡ true =
    begun_at c.args.self.now.states.items c.args.lane c.index.result.now true there c.index.ensures runs in
    let kept : c.reserve.new.self.items ≡ c.args.self.now.journal.items = search rules in
    λ s w.
    let old : LanesValue = contents_of c.args.self.now in
    let is : c.index_mut-state.result.now ≡ lane_in old.states c.args.lane =
    state_at old.states c.args.lane c.index_mut-state.result.now there c.index_mut-state.ensures.value in
    let gives : GivesUp old.core c.give_up.new.core (lane_in old.states c.args.lane) c.give_up.new.self =
    subst (λ (y : LaneValue). GivesUp old.core c.give_up.new.core y c.give_up.new.self) is
    c.in_ok-give_up.ensures.ok in
    let behind : LeavesBehind old.core (lane_in old.states c.args.lane) c.give_up.new.self =
    subst (λ (y : LaneValue). LeavesBehind old.core y c.give_up.new.self) is c.in_ok-give_up.ensures.leaves in
    let within = there_of s old c.args.lane w there in
    let x = cancelling s c.args.lane old c.give_up.new.core c.give_up.new.self w within begun begun gives behind in
    let number : c.ended-call.result ≡ count_ended old.past c.args.lane = c.ended-call.ensures
    ∙ ap (λ (y : LaneValue). y.ended) is ∙ ends_at s c.args.lane old w within in
    let started : Entry = entry.Event (Cancel c.args.lane) in
    let over : Entry = entry.Event (End c.args.lane c.ended-call.result outcome.Cancelled) in
    let past : reverse c.add_entry-2.new.journal.items ≡ cancelled_past old.past c.args.lane =
    ap reverse c.add_entry-2.ensures.items ∙ pushed c.add_entry.new.journal.items over
    ∙ ap (λ (es : List Entry). over ∷ reverse es) c.add_entry.ensures.items
    ∙ ap (λ (es : List Entry). over ∷ es) (pushed c.reserve.new.self.items started
    ∙ ap (λ (es : List Entry). started ∷ reverse es) kept)
    ∙ ap (λ (n : ℕ). entry.Event (End c.args.lane n outcome.Cancelled) ∷ started ∷ old.past) number in
    let left : begun_but old.begun c.args.lane ≡ begun_of (lane_in
    (slice_set old.states c.args.lane c.give_up.new.self)) =
    begun_less old.states c.args.lane c.give_up.new.self there
    (ap is_some (gives_idle old.core c.give_up.new.core (lane_in old.states c.args.lane) c.give_up.new.self gives))
    in
    let mid : LanesValue = record {
      calls = old.calls;
      core = c.give_up.new.core;
      facts = old.facts;
      past =
          reverse c.add_entry-2.new.journal.items;
      asked = old.asked;
      states =
          slice_set old.states c.args.lane c.give_up.new.self;
      begun =
          begun_of (lane_in (slice_set old.states c.args.lane c.give_up.new.self));
    } in
    let same : cancelled_in old c.args.lane c.give_up.new.core c.give_up.new.self ≡ mid =
    λ i. record {
      calls = old.calls;
      core = c.give_up.new.core;
      facts = old.facts;
      past = sym past i;
      asked = old.asked;
      states = slice_set old.states c.args.lane c.give_up.new.self;
      begun = left i;
    } in
    cancels_call s c.args.lane old (contents_of c.close_unheld.new.self) c.give_up.new.core c.give_up.new.self begun x
    (subst (λ (y : LanesValue). IsClosed s (cancelled_past old.past c.args.lane) y
    (contents_of c.close_unheld.new.self)) (sym same)
    (c.close_unheld.ensures.closed s (cancelled_past old.past c.args.lane)
    (subst (λ (y : LanesValue). IsClosingLane s (cancelled_past old.past c.args.lane) c.args.lane y) same x.closing)))

pub keep_outcome-requires : goal.keep_outcome-requires
keep_outcome-requires c =
    let there : c.args.lane < length c.args.self.now.states.items = search rules in
    let o = c.requires.opened in
    let states = o.1.stands.count in
    let calls = o.1.stands.lanes in
    let count = c.requires.intact.lists in
    omega (arith, there, states, calls, count)

pub returns-in_err-keep_outcome-clause-left : goal.returns-in_err-keep_outcome-clause-left
returns-in_err-keep_outcome-clause-left c =
    let there : c.args.lane < length c.args.self.now.states.items = search rules in
    let runs : is_some c.index.result.now.running ≡ true = search rules in
    let begun : begun_of (lane_in c.args.self.now.states.items) c.args.lane ≡ true =
    begun_at c.args.self.now.states.items c.args.lane c.index.result.now true there c.index.ensures runs in
    let kept : c.reserve.new.self.items ≡ c.args.self.now.journal.items = search rules in
    let o = c.requires.opened in
    let old : LanesValue = contents_of c.args.self.now in
    let is : c.index_mut-state.result.now ≡ lane_in old.states c.args.lane =
    state_at old.states c.args.lane c.index_mut-state.result.now there c.index_mut-state.ensures.value in
    let gives : GivesUp old.core c.give_up.new.core (lane_in old.states c.args.lane) c.give_up.new.self =
    subst (λ (y : LaneValue). GivesUp old.core c.give_up.new.core y c.give_up.new.self) is
    c.in_ok-give_up.ensures.ok in
    let behind : LeavesBehind old.core (lane_in old.states c.args.lane) c.give_up.new.self =
    subst (λ (y : LaneValue). LeavesBehind old.core y c.give_up.new.self) is c.in_ok-give_up.ensures.leaves in
    let x = cancelling o.0 c.args.lane old c.give_up.new.core c.give_up.new.self o.1
    (there_of o.0 old c.args.lane o.1 there) begun begun gives behind in
    let same : c.keep_outcome.new.lists ≡ c.args.self.now.outcomes = c.in_err-keep_outcome.ensures.unchanged in
    left_err _ c.args.self.now _ (ap reverse kept) (x.closing.between.tied.work.unfailed
    ∙ sym o.1.rest.between.tied.work.unfailed) (λ i. record { outcomes = same i; let_go = c.args.self.now.gone }) refl

pub returns-clause-intact : goal.returns-clause-intact
returns-clause-intact c =
    let there : c.args.lane < length c.args.self.now.states.items = search rules in
    let kept : c.reserve.new.self.items ≡ c.args.self.now.journal.items = search rules in
    let o = c.requires.opened in
    let states = o.1.stands.count in
    let calls = o.1.stands.lanes in
    let lt : c.args.lane < length c.args.self.now.calls = omega (arith, there, states, calls) in
    let started : Entry = entry.Event (Cancel c.args.lane) in
    let over : Entry = entry.Event (End c.args.lane c.ended-call.result outcome.Cancelled) in
    let past : reverse c.add_entry-2.new.journal.items ≡ over ∷ started ∷ past_of c.args.self.now =
    ap reverse c.add_entry-2.ensures.items ∙ pushed c.add_entry.new.journal.items over
    ∙ ap (λ (es : List Entry). over ∷ reverse es) c.add_entry.ensures.items
    ∙ ap (λ (es : List Entry). over ∷ es) (pushed c.reserve.new.self.items started
    ∙ ap (λ (es : List Entry). started ∷ reverse es) kept) in
    let told : c.keep_outcome.new.lists ≡ with_outcome c.args.self.now.outcomes c.args.lane outcome.Cancelled =
    search rules in
    cancelled_intact (length c.args.self.now.calls) c.args.lane c.ended-call.result c.args.self.now _
    c.close_unheld.new.self c.requires.intact lt told refl past c.close_unheld.ensures.reports
    (λ none. c.close_unheld.ensures.room)
