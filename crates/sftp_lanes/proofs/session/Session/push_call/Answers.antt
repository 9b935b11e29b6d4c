use Rattle.std.proofs.Common.{◌≢◌, ℕ, rules, subst, sym}
use Rattle.session_driver.specs.declared.session.Phase.TheVariants.{Failed}
use Rattle.session_work.specs.SoFar.{IsIntact}
use Rattle.session_work.proofs.AddedLaws.{on_err, on_ok}
use Rattle.sftp_lanes.proofs.AddedLaws.{MayAdd, adds_call, pushed_session, same_session}
use Rattle.sftp_lanes.proofs.session.Session.push_call.Goals as goal

pub push_call-requires-clause-there : goal.push_call-requires-clause-there
push_call-requires-clause-there c = rw (← c.self.view_is) at c.requires.there

pub push_call-requires-clause-intact : goal.push_call-requires-clause-intact
push_call-requires-clause-intact c =
    subst (λ (n : ℕ). IsIntact n c.self.inside.work) (sym c.self.invariant.calls.count) c.self.invariant.intact

pub invariant_of-self : goal.invariant_of-self
invariant_of-self c =
    let may : MayAdd c.args.lane c.args.call c.self.inside.work = record {
      there = rw (← c.self.view_is) at c.requires.there;
      held = rw (← c.self.view_is) at c.requires.held;
      ok = rw (← c.self.view_is) at c.requires.ok;
    } in
    let on : c.self.inside.phase ≢ Failed = search rules in
    pushed_session c.self.inside.lanes c.self.inside.options c.self.inside.version
    c.self.inside.info c.self.inside.work c.push_call.new.self c.self.inside.phase c.args.lane c.args.call
    c.push_call.result c.self.invariant on may c.push_call.ensures.intact c.push_call.ensures.adds
    c.push_call.ensures.unchanged

pub returns-in_default : goal.returns-in_default
returns-in_default c =
    let may : MayAdd c.args.lane c.args.call c.self.inside.work = record {
      there = rw (← c.self.view_is) at c.requires.there;
      held = rw (← c.self.view_is) at c.requires.held;
      ok = rw (← c.self.view_is) at c.requires.ok;
    } in
    let on : c.self.inside.phase ≢ Failed = search rules in
    rw (← c.self.view_is) (record {
      adds = on_ok c.push_call.result _ _ (adds_call c.self.inside.lanes c.self.inside.options c.self.inside.version
          c.self.inside.info c.self.inside.work c.push_call.new.self c.self.inside.phase
          c.args.lane c.args.call c.self.invariant on may) c.push_call.ensures.adds;
      left = on_err c.push_call.result _ _ (same_session c.self.inside.lanes c.self.inside.options c.self.inside.version
          c.self.inside.info c.self.inside.work c.push_call.new.self
          c.self.inside.phase) c.push_call.ensures.unchanged;
    })
