use Rattle.std.proofs.Common.{rules, ◌≡◌, ◌<◌, ◌∙◌, ℕ, Bool, true, length, ap, subst, arith}
use Rattle.session_laws.specs.Rest.{begun_of}
use Rattle.session_work.specs.declared.lane.Moved.{Moved}
use Rattle.session_work.specs.declared.lane.Moved.TheVariants as moved
use Rattle.session_work.specs.Noting.{HasTurnToNote, with_begun, is_went}
use Rattle.session_work.specs.Reports.{LaneReports}
use Rattle.session_work.specs.SoFar.{IsLeft}
use Rattle.session_work.specs.Working.{LanesValue, NotesNothing, contents_of, lane_in}
use Rattle.session_work.proofs.NotingLaws.{has_call, went_unnoted}
use Rattle.session_work.proofs.ReportLaws.{left_on, noted_intact}
use Rattle.session_work.proofs.TurningLaws.{is_moved_went}
use Rattle.session_work.proofs.UnnotedLaws.{steps_from, unnoted_on}
use Rattle.session_work.proofs.lanes.Lanes.step.Goals as goal

pub turn-requires : goal.turn-requires
turn-requires c =
    let o = c.requires.opened in
    let begun : ℕ → Bool = begun_of (lane_in c.args.self.now.states.items) in
    record {
      opened = (o.0, (begun, (c.loop-moved.invariant.0 o.0 o.1).works));
      call = c.loop-moved.invariant.1;
      room = c.loop-moved.invariant.4;
    }

pub note-requires : goal.note-requires
note-requires c =
    let o = c.requires.opened in
    let begun : ℕ → Bool = begun_of (lane_in c.args.self.now.states.items) in
    let mid : LanesValue = with_begun begun (contents_of c.loop-moved.self) in
    let u : NotesNothing o.0 (contents_of c.args.self.now) mid = c.loop-moved.invariant.0 o.0 o.1 in
    record {
      turning = (
        o.0,
        (
          mid,
          (
            c.in_ok-moved.ensures.turned o.0 begun u.works,
            c.in_ok-moved.ensures.leaves.others begun
                c.loop-moved.invariant.3,
          ),
        ),
      );
      ends = search rules;
      number = c.in_ok-moved.ensures.leaves.number ∙ c.loop-moved.invariant.2;
      room = c.in_ok-moved.ensures.leaves.room;
    }

pub loop-moved-preserved : goal.loop-moved-preserved
loop-moved-preserved c =
    let begun : ℕ → Bool = begun_of (lane_in c.args.self.now.states.items) in
    let old : LanesValue = contents_of c.args.self.now in
    let mid : LanesValue = with_begun begun (contents_of c.loop-moved.self) in
    let now : LanesValue = with_begun begun (contents_of c.turn.new.self) in
    let o = c.requires.opened in
    let first : NotesNothing o.0 old mid = c.loop-moved.invariant.0 o.0 o.1 in
    let went : is_went c.in_ok-moved.moved ≡ true = search rules in
    let is : c.in_ok-moved.moved ≡ moved.Went = is_moved_went c.in_ok-moved.moved went in (
      λ s w. (let u : NotesNothing s old mid = c.loop-moved.invariant.0 s w in
          unnoted_on s old mid now u (went_unnoted s c.args.lane mid now
          (subst (λ (m : Moved). HasTurnToNote s c.args.lane mid now m) is
          (c.in_ok-moved.ensures.turned s begun u.works)))),
      has_call o.0 c.args.lane mid now c.in_ok-moved.moved (c.in_ok-moved.ensures.turned o.0 begun first.works),
      c.in_ok-moved.ensures.leaves.number ∙ c.loop-moved.invariant.2,
      c.in_ok-moved.ensures.leaves.others begun c.loop-moved.invariant.3,
      c.turn.ensures.room,
      left_on c.args.self.now c.loop-moved.self c.turn.new.self c.loop-moved.invariant.5 c.turn.ensures.left,
    )

pub returns-then-not-is_went-clause-steps : goal.returns-then-not-is_went-clause-steps
returns-then-not-is_went-clause-steps c = λ s w.
    let begun : ℕ → Bool = begun_of (lane_in c.args.self.now.states.items) in
    let old : LanesValue = contents_of c.args.self.now in
    let mid : LanesValue = with_begun begun (contents_of c.loop-moved.self) in
    let u : NotesNothing s old mid = c.loop-moved.invariant.0 s w in
    steps_from s c.args.lane old mid (contents_of c.note.new.self) c.note.result u
    (c.note.ensures.noted s mid (c.in_ok-moved.ensures.turned s begun u.works)
    (c.in_ok-moved.ensures.leaves.others begun c.loop-moved.invariant.3))

pub keep_moved-requires : goal.keep_moved-requires
keep_moved-requires c =
    let o = c.requires.opened in
    let begun : ℕ → Bool = begun_of (lane_in c.args.self.now.states.items) in
    let mid : LanesValue = with_begun begun (contents_of c.loop-moved.self) in
    let u : NotesNothing o.0 (contents_of c.args.self.now) mid = c.loop-moved.invariant.0 o.0 o.1 in
    let left : IsLeft c.args.self.now c.turn.new.self = left_on c.args.self.now c.loop-moved.self c.turn.new.self
    c.loop-moved.invariant.5 c.turn.ensures.left in
    let t = c.in_ok-moved.ensures.turned o.0 begun u.works in
    let there : c.args.lane < length o.0.lanes = t.there in
    let lanes = o.1.stands.lanes in
    let same : length c.turn.new.self.outcomes ≡ length c.args.self.now.outcomes =
    ap (λ (k : LaneReports). length k.outcomes) left.reports in
    let count = c.requires.intact.lists in
    omega (arith, there, lanes, same, count)

pub returns-then-not-is_went-clause-intact : goal.returns-then-not-is_went-clause-intact
returns-then-not-is_went-clause-intact c =
    let o = c.requires.opened in
    let begun : ℕ → Bool = begun_of (lane_in c.args.self.now.states.items) in
    let mid : LanesValue = with_begun begun (contents_of c.loop-moved.self) in
    let u : NotesNothing o.0 (contents_of c.args.self.now) mid = c.loop-moved.invariant.0 o.0 o.1 in
    let left : IsLeft c.args.self.now c.turn.new.self = left_on c.args.self.now c.loop-moved.self c.turn.new.self
    c.loop-moved.invariant.5 c.turn.ensures.left in
    let t = c.in_ok-moved.ensures.turned o.0 begun u.works in
    let there : c.args.lane < length o.0.lanes = t.there in
    let lanes = o.1.stands.lanes in
    noted_intact (length c.args.self.now.calls) c.args.lane c.ended-number.result c.in_ok-moved.moved c.args.self.now
    c.turn.new.self c.note.new.self c.keep_moved.new.lists c.requires.intact left c.turn.ensures.room
    (omega (arith, there, lanes))
    c.in_ok-keep_moved.ensures.kept c.note.ensures.reports (λ none. c.note.ensures.room)
