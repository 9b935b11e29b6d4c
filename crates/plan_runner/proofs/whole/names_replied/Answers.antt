use Rattle.plan_runner.proofs.whole.names_replied.Goals as goal

pub returns-in-Names-clause-goes : goal.returns-in-Names-clause-goes
returns-in-Names-clause-goes c bytes = rw c.in-Names.is (c.names_came.ensures.goes bytes)
