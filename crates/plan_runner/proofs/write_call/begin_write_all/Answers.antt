use Rattle.std.proofs.Common.{sym, ◌∙◌, None, inl}
use Rattle.sftp_model.specs.Slots.{slot_at}
use Rattle.plan_model.specs.TransferPlans.{in_slot, rest_next}
use Rattle.plan_runner.proofs.Asking.{asks_first_if_ok, file_held}
use Rattle.plan_runner.proofs.BegunLaws.{begun_if}
use Rattle.plan_runner.proofs.Going.{on_file_if_ok}
use Rattle.plan_runner.proofs.write_call.begin_write_all.Goals as goal

pub returns : goal.returns
returns c = begun_if _ _ _ _ _ _
    (on_file_if_ok (λ file. rest_next (in_slot c.args.slot) file c.args.bytes.now c.args.site.now c.args.facts.now)
    (slot_at c.args.site.now c.args.slot) c.in-File.file c.args.site.now
    c.args.place c.args.bytes.now c.args.site.now c.args.facts.now c.write_rest.result
    (sym c.slot_of.ensures ∙ c.in-File.is) (c.write_rest.ensures.goes c.args.site.now))
    (c.write_rest.ensures.left c.args.site.now (c.requires, sym c.slot_of.ensures ∙ c.in-File.is))
    (c.write_rest.ensures.sound c.args.site.now (c.requires, sym c.slot_of.ensures ∙ c.in-File.is))
    (c.write_rest.ensures.pends c.args.site.now)
    (asks_first_if_ok None c.args.place c.args.site.now c.write_rest.result
    (c.write_rest.ensures.asks.grants c.args.site.now None (inl (file_held c.args.site.now c.args.slot c.in-File.file
    (sym c.slot_of.ensures ∙ c.in-File.is)))))
