use Rattle.std.proofs.Common.{sym, ◌∙◌, [], None, inl}
use Rattle.sftp_model.specs.Slots.{slot_at}
use Rattle.plan_model.specs.TransferPlans.{missing_next}
use Rattle.plan_runner.specs.Runners.{RunsByPlan}
use Rattle.plan_runner.proofs.Asking.{asks_first, file_held}
use Rattle.plan_runner.proofs.Going.{on_file_goes}
use Rattle.plan_runner.proofs.read_all_call.begin_read_all.Goals as goal

pub returns : goal.returns
returns c = record {
  goes = let start : RunsByPlan (missing_next c.args.slot c.in-File.file [] c.args.n c.args.site.now c.args.facts.now)
      c.args.place [] c.args.site.now c.args.facts.now c.read_rest.result =
      rw c.no_bytes.ensures at (c.read_rest.ensures.goes c.args.site.now []) in
      on_file_goes (λ file. missing_next c.args.slot file [] c.args.n c.args.site.now c.args.facts.now)
      (slot_at c.args.site.now c.args.slot) c.in-File.file c.args.site.now
      c.args.place [] c.args.site.now c.args.facts.now c.read_rest.result (sym c.slot_of.ensures ∙ c.in-File.is) start;
  left = c.read_rest.ensures.left c.args.site.now [] (c.requires, sym c.slot_of.ensures ∙ c.in-File.is);
  sound = c.read_rest.ensures.sound c.args.site.now [] (c.requires, sym c.slot_of.ensures ∙ c.in-File.is);
  pends = c.read_rest.ensures.pends c.args.site.now;
  asks = asks_first None c.args.place c.args.site.now c.read_rest.result
      (c.read_rest.ensures.grants c.args.site.now None (inl (file_held c.args.site.now c.args.slot c.in-File.file
      (sym c.slot_of.ensures ∙ c.in-File.is))));
}
