use Rattle.std.proofs.Common.{inl, refl}
use Rattle.session_driver.specs.Ongoing.{let_go_of}
use Rattle.session_driver.proofs.Joining.{no_memory}
use Rattle.session_driver.proofs.Parts.{let_go_is, let_go_on}
use Rattle.session_driver.proofs.runs.let_go_one.Goals as goal

pub returns-in-Err : goal.returns-in-Err
returns-in-Err g c = record { ongoing = no_memory (let_go_of c.args.lane) _ _ _ (inl refl) c.in-Err.ensures.left }

pub returns-in-Ok : goal.returns-in-Ok
returns-in-Ok g c = record {
  ongoing = let_go_is c.args.lane
      (let_go_on c.args.lane _ _ _ c.in-Ok.ensures.ok c.requires.there c.in-Ok.ensures.goes c.requires.ready)
      c.settle.ensures.ongoing;
}
