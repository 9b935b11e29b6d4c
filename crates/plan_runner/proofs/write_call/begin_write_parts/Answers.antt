use Rattle.std.proofs.Common.{sym, subst}
use Rattle.std.proofs.lemmas.Result.{IfOk-weaker}
use Rattle.std.specs.Prelude.{ℕ, List, IfOk}
use Rattle.plan_model.specs.declared.call.Call.TheVariants as call
use Rattle.plan_model.specs.TransferPlans.{joined_parts}
use Rattle.sftp_model.specs.declared.slot.Site.{Site}
use Rattle.sftp_model.specs.declared.slot.Facts.{Facts}
use Rattle.plan_runner.specs.Begun.{StartsAsPlanned}
use Rattle.plan_runner.specs.declared.next.Next.{Next}
use Rattle.plan_runner.proofs.write_call.begin_write_parts.Goals as goal

-- the parts are written as all their bytes are
as_parts : (slot place : ℕ) (parts : List (List ℕ)) (old new : Site) (facts : Facts) (n : Next)
    → StartsAsPlanned (call.WriteAll slot (joined_parts parts)) place old new facts n
    → StartsAsPlanned (call.WriteParts slot parts) place old new facts n
as_parts slot place parts old new facts n b = record {
  goes = b.goes;
  left = b.left;
  sound = b.sound;
  pends = b.pends;
  asks = b.asks;
}

pub returns : goal.returns
returns c parts same = IfOk-weaker c.begin_write_all.result _ _
    (as_parts c.args.slot c.args.place parts c.args.site.now c.args.site.now c.args.facts.now)
    (subst (λ (b : List ℕ). IfOk c.begin_write_all.result (StartsAsPlanned (call.WriteAll c.args.slot b) c.args.place
    c.args.site.now c.args.site.now c.args.facts.now)) (sym same) c.begin_write_all.ensures)
