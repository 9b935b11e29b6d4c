use Rattle.std.proofs.Common.{sym, subst, rules, ◌≡◌, ◌+◌, [], ap, length}
use Rattle.std.specs.Prelude.{reverse}
use Rattle.session_work.specs.Fresh.{AreFresh}
use Rattle.session_work.specs.Working.{past_of}
use Rattle.session_work.proofs.FreshLaws.{more_fresh}
use Rattle.session_work.proofs.ReportLaws.{fresh_intact}
use Rattle.session_work.proofs.lanes.Lanes.new.Goals as goal

pub loop-preserved : goal.loop-preserved
loop-preserved c =
    let i = c.loop.invariant in
    let count : length c.push_reserved.new.self.items ≡ c.loop.counter + 1 = search rules in (
      i.0,
      i.1,
      i.2,
      i.3,
      i.4,
      count,
      search rules,
      search rules,
      subst AreFresh (sym c.push_reserved.ensures.items) (more_fresh c.loop.work.states.items c.in_ok-state.state i.8
          c.in_ok-state.ensures),
      i.9,
      i.10,
    )

pub returns : goal.returns
returns c =
    let i = c.loop.invariant in
    let past : past_of c.loop.work ≡ [] = ap reverse i.2 in
    record {
      calls = i.0;
      core = i.1;
      past = past;
      untouched = search rules;
      intact = fresh_intact (length c.args.lanes.now) c.loop.work i.9 i.10 past (λ none. i.3);
    }
