use Rattle.std.proofs.Common.{inl, refl}
use Rattle.session_driver.specs.Adding.{call_of}
use Rattle.session_driver.proofs.AddingLaws.{add_on, call_is, unmoved_self}
use Rattle.session_driver.proofs.Joining.{no_memory}
use Rattle.session_driver.proofs.calls.run_call.Goals as goal

pub returns-in-Ok : goal.returns-in-Ok
returns-in-Ok g c = record {
  ongoing = call_is c.args.lane c.args.call
      (add_on c.args.lane c.args.call _ _ _ c.in-Ok.ensures.adds c.requires.ready) c.end_lane.ensures.ongoing;
}

pub returns-in-Err : goal.returns-in-Err
returns-in-Err g c = record {
  ongoing = no_memory (call_of c.args.lane c.args.call) _ _ _ (inl refl)
      (unmoved_self _ _ c.in-Err.ensures.unchanged);
}
