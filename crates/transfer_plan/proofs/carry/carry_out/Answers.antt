use Rattle.std.proofs.Common.{rules}
use Rattle.transfer_plan.proofs.DoneLaws.{all_were_done}
use Rattle.transfer_plan.specs.Jobs.{CarriesOut}
use Rattle.transfer_plan.proofs.carry.carry_out.Goals as goal

pub returns-clause-all_done : goal.returns-clause-all_done
returns-clause-all_done g c = λ e.
    let out : CarriesOut g.H.Hand.done c.args.keeps c.args.jobs.now (g.H.Hand.history c.args.hand.now)
    (g.H.Hand.history c.keep_where.new.hand) c.keep_where.new.tally = search rules in
    all_were_done g.H.Hand.done c.args.keeps c.args.jobs.now _ _ c.keep_where.new.tally out e
