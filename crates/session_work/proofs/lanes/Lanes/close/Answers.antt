use Rattle.std.proofs.Common.{◌≡◌, ◌<◌, ◌^◌, ◌+◌, ◌∷◌, ℕ, List, ap, subst, ◌∙◌}
use Rattle.std.specs.Prelude.{is_some, reverse, slice_get, slice_set}
use Rattle.sftp_model.specs.declared.request.Request.TheVariants as request
use Rattle.session_model.specs.declared.event.Event.TheVariants.{Submit}
use Rattle.session_model.specs.declared.event.Owner.TheVariants as owner
use Rattle.session_model.specs.declared.entry.Entry.{Entry}
use Rattle.session_model.specs.declared.entry.Entry.TheVariants as entry
use Rattle.session_laws.specs.Changes.{closed_lane}
use Rattle.session_laws.specs.Lanes.{LaneValue}
use Rattle.session_laws.specs.Ends.{close_entry}
use Rattle.session_laws.specs.Rest.{begun_of}
use Rattle.session_work.specs.Working.{lane_in}
use Rattle.session_work.proofs.BegunLaws.{begun_same}
use Rattle.session_work.proofs.Contents.{pushed, state_at}
use Rattle.session_work.proofs.lanes.Lanes.close.Goals as goal

pub returns-clause-closed : goal.returns-clause-closed
returns-clause-closed c = λ g here.
    let states : List LaneValue = c.args.self.now.states.items in
    let v : LaneValue = c.index_mut.result.now in
    let is : v ≡ lane_in states c.args.lane = state_at states c.args.lane v c.requires.there c.index_mut.ensures.value
    in
    let x = c.release-id.ensures.released g (ap (λ (y : LaneValue). slice_get y.grants c.args.k) is ∙ here) in
    let journal : List Entry = c.args.self.now.journal.items in
    let close : Entry = entry.Event (Submit owner.Close c.release-id.result.0 (request.Close c.release-id.result.1)) in
    let closes : close ≡ close_entry g.grant = λ i. entry.Event (Submit owner.Close (x.0 i) (request.Close (x.1.0 i)))
    in
    let past : reverse c.add_entry.new.journal.items ≡ close_entry g.grant ∷ reverse journal =
    ap reverse c.add_entry.ensures.items ∙ pushed journal close ∙ ap (λ (e : Entry). e ∷ reverse journal) closes in
    let lane : c.release-id.new.self ≡ closed_lane (lane_in states c.args.lane) c.args.k = c.release-id.ensures.lane
    ∙ ap (λ (y : LaneValue). closed_lane y c.args.k) is in
    let begun : begun_of (lane_in (slice_set states c.args.lane c.release-id.new.self)) ≡ begun_of (lane_in states) =
    begun_same states c.args.lane c.release-id.new.self c.requires.there
    (ap (λ (y : LaneValue). is_some y.running) lane) in
    record {
      is = λ i. record {
        calls = c.args.self.now.calls;
        core = x.1.1 i;
        facts = c.args.self.now.facts;
        past = past i;
        asked = c.args.self.now.asked + 1;
        states = slice_set states c.args.lane (lane i);
        begun = begun i;
      };
      small = subst (λ (n : ℕ). n < 2 ^ 32) x.0 c.release-id.ensures.small;
    }
