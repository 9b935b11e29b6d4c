use Rattle.std.proofs.Common.{rules, ◌≡◌, ◌<◌, ◌∷◌, List, true, length, ap, sym, subst, ◌∙◌, arith, refl}
use Rattle.std.specs.Prelude.{reverse, slice_set}
use Rattle.sftp_model.specs.declared.slot.Slot.{Slot}
use Rattle.session_model.specs.declared.entry.Entry.{Entry}
use Rattle.session_model.specs.declared.entry.Entry.TheVariants as entry
use Rattle.session_laws.specs.Changes.{let_go_lane}
use Rattle.session_laws.specs.Lanes.{LaneValue}
use Rattle.session_laws.specs.Rest.{begun_of}
use Rattle.session_work.specs.Letting.{IsLetGo, LettingLane}
use Rattle.session_work.specs.Working.{LanesValue, contents_of, lane_in, past_of}
use Rattle.session_work.proofs.CancellingLaws.{there_of}
use Rattle.session_work.proofs.Contents.{pushed, state_at}
use Rattle.session_work.proofs.LettingLaws.{let_go_begun, let_go_in, letting_starts, lets_lane_go, lets_none_go}
use Rattle.session_work.proofs.ReportLaws.{let_go_intact}
use Rattle.session_work.proofs.lanes.Lanes.let_go.Goals as goal

pub returns-then-lane-len-clause-lets_go : goal.returns-then-lane-len-clause-lets_go
returns-then-lane-len-clause-lets_go c = λ s w done holds. lets_none_go s c.args.lane (contents_of c.args.self.now) w
    (search rules)

pub close_slots-requires-clause-letting : goal.close_slots-requires-clause-letting
close_slots-requires-clause-letting c =
    let there : c.args.lane < length c.args.self.now.states.items = search rules in
    let kept : c.reserve.new.self.items ≡ c.args.self.now.journal.items = search rules in
    let o = c.requires.done in
    let old : LanesValue = contents_of c.args.self.now in
    let v : LaneValue = c.index_mut-state.result.now in
    let is : v ≡ lane_in old.states c.args.lane = state_at old.states c.args.lane v there
    c.index_mut-state.ensures.value in
    let slots : c.as_slice.result.now ≡ v.site.slots = search rules in
    let all : (lane_in old.states c.args.lane).site.slots ≡ c.as_slice.result.now =
    ap (λ (y : LaneValue). y.site.slots) (sym is) ∙ sym slots in
    let past : reverse c.add_entry.new.journal.items ≡ entry.LetGo c.args.lane ∷ old.past =
    ap reverse c.add_entry.ensures.items ∙ pushed c.reserve.new.self.items (entry.LetGo c.args.lane)
    ∙ ap (λ (es : List Entry). entry.LetGo c.args.lane ∷ reverse es) kept in
    let lane : let_go_lane (lane_in old.states c.args.lane) ≡ c.empty-slots.new.self = ap let_go_lane (sym is)
    ∙ sym c.empty-slots.ensures.lane in
    let begun : begun_of (lane_in old.states) ≡ begun_of (lane_in
    (slice_set old.states c.args.lane c.empty-slots.new.self)) =
    let_go_begun o.0 c.args.lane old c.empty-slots.new.self o.1.0 there o.1.1.0 lane in
    let first = letting_starts o.0 c.args.lane old o.1.0 (there_of o.0 old c.args.lane o.1.0 there) o.1.1.0 o.1.1.1 in (
      o.0,
      (
        entry.LetGo c.args.lane ∷ old.past,
        subst (λ (xs : List Slot). LettingLane o.0 (entry.LetGo c.args.lane ∷ old.past) c.args.lane
            (record {
              calls = old.calls;
              core = old.core;
              facts = old.facts;
              past =
                  reverse c.add_entry.new.journal.items;
              asked = old.asked;
              states =
                  slice_set old.states c.args.lane c.empty-slots.new.self;
              begun =
                  begun_of (lane_in (slice_set old.states c.args.lane c.empty-slots.new.self));
            }) xs) all
            (subst (λ (y : LanesValue). LettingLane o.0 (entry.LetGo c.args.lane ∷ old.past) c.args.lane y
            (lane_in old.states c.args.lane).site.slots)
            (λ i. record {
              calls = old.calls;
              core = old.core;
              facts = old.facts;
              past = sym past i;
              asked = old.asked;
              states = slice_set old.states c.args.lane (lane i);
              begun = begun i;
            }) first),
      ),
    )

pub returns-clause-lets_go : goal.returns-clause-lets_go
returns-clause-lets_go c =
    let there : c.args.lane < length c.args.self.now.states.items = search rules in
    let kept : c.reserve.new.self.items ≡ c.args.self.now.journal.items = search rules in
    let old : LanesValue = contents_of c.args.self.now in
    let v : LaneValue = c.index_mut-state.result.now in
    let is : v ≡ lane_in old.states c.args.lane = state_at old.states c.args.lane v there
    c.index_mut-state.ensures.value in
    let slots : c.as_slice.result.now ≡ v.site.slots = search rules in
    let all : (lane_in old.states c.args.lane).site.slots ≡ c.as_slice.result.now =
    ap (λ (y : LaneValue). y.site.slots) (sym is) ∙ sym slots in
    let past : reverse c.add_entry.new.journal.items ≡ entry.LetGo c.args.lane ∷ old.past =
    ap reverse c.add_entry.ensures.items ∙ pushed c.reserve.new.self.items (entry.LetGo c.args.lane)
    ∙ ap (λ (es : List Entry). entry.LetGo c.args.lane ∷ reverse es) kept in
    let lane : let_go_lane (lane_in old.states c.args.lane) ≡ c.empty-slots.new.self = ap let_go_lane (sym is)
    ∙ sym c.empty-slots.ensures.lane in
    let mid : LanesValue = record {
      calls = old.calls;
      core = old.core;
      facts = old.facts;
      past =
          reverse c.add_entry.new.journal.items;
      asked = old.asked;
      states =
          slice_set old.states c.args.lane c.empty-slots.new.self;
      begun =
          begun_of (lane_in (slice_set old.states c.args.lane c.empty-slots.new.self));
    } in
    λ s w done holds.
    let begun : begun_of (lane_in old.states) ≡ begun_of (lane_in
    (slice_set old.states c.args.lane c.empty-slots.new.self)) =
    let_go_begun s c.args.lane old c.empty-slots.new.self w there done lane in
    let same : let_go_in old c.args.lane ≡ mid = λ i. record {
      calls = old.calls;
      core = old.core;
      facts = old.facts;
      past = sym past i;
      asked = old.asked;
      states = slice_set old.states c.args.lane (lane i);
      begun = begun i;
    } in
    let within = there_of s old c.args.lane w there in
    let first : LettingLane s (entry.LetGo c.args.lane ∷ old.past) c.args.lane mid c.as_slice.result.now =
    subst (λ (xs : List Slot). LettingLane s (entry.LetGo c.args.lane ∷ old.past) c.args.lane mid xs) all
    (subst (λ (y : LanesValue). LettingLane s (entry.LetGo c.args.lane ∷ old.past) c.args.lane y
    (lane_in old.states c.args.lane).site.slots) same (letting_starts s c.args.lane old w within done holds)) in
    lets_lane_go s c.args.lane old (contents_of c.close_slots.new.self) w within done holds
    (subst (λ (y : LanesValue). IsLetGo s (entry.LetGo c.args.lane ∷ old.past) y (contents_of c.close_slots.new.self))
    (sym same) (c.close_slots.ensures.let_go s (entry.LetGo c.args.lane ∷ old.past) first))

pub set-requires : goal.set-requires
set-requires c =
    let there : c.args.lane < length c.args.self.now.states.items = search rules in
    let works = c.requires.done.1.0 in
    let states = works.stands.count in
    let calls = works.stands.lanes in
    let count = c.requires.intact.marks in
    omega (arith, there, states, calls, count)

pub returns-clause-intact : goal.returns-clause-intact
returns-clause-intact c =
    let there : c.args.lane < length c.args.self.now.states.items = search rules in
    let works = c.requires.done.1.0 in
    let states = works.stands.count in
    let calls = works.stands.lanes in
    let kept : c.reserve.new.self.items ≡ c.args.self.now.journal.items = search rules in
    let past : reverse c.add_entry.new.journal.items ≡ entry.LetGo c.args.lane ∷ past_of c.args.self.now =
    ap reverse c.add_entry.ensures.items ∙ pushed c.reserve.new.self.items (entry.LetGo c.args.lane)
    ∙ ap (λ (es : List Entry). entry.LetGo c.args.lane ∷ reverse es) kept in
    let marked : c.set.new.self ≡ slice_set c.args.self.now.gone c.args.lane true = search rules in
    let_go_intact (length c.args.self.now.calls) c.args.lane c.args.self.now _ c.close_slots.new.self c.requires.intact
    (omega (arith, there, states, calls)) refl marked past c.close_slots.ensures.reports
    (λ none. c.close_slots.ensures.room)
