use Rattle.std.proofs.Common.{rules}
use Rattle.plan_runner.proofs.read_all_call.content_replied.Goals as goal

pub returns-in-Content : goal.returns-in-Content
returns-in-Content c bytes = let came = c.content_came.ensures bytes in record {
  goes = rw c.in-Content.is came.goes;
  left = search rules;
  sound = search rules;
  pends = search rules;
  asks = search rules;
  err = search rules;
}
