use Rattle.std.proofs.Common.{rules, ◌≡◌, sym, ◌∙◌, ap, refl, []}
use Rattle.sftp_model.specs.declared.slot.Slot.TheVariants.{Empty, File, Buffered}
use Rattle.sftp_model.specs.Slots.{has_grant, slot_at, with_slot}
use Rattle.plan_model.specs.FilePlans.{close_slot_next, close_grant_next}
use Rattle.plan_runner.specs.Pending.{pends_idle}
use Rattle.plan_runner.proofs.Asking.{buffered_held, file_held}
use Rattle.plan_runner.proofs.Going.{goes_as}
use Rattle.plan_runner.proofs.Keeping.{keeps_set}
use Rattle.plan_runner.proofs.Fewer.{fewer_set, pends_less}
use Rattle.plan_runner.proofs.close_call.begin_close.Goals.{in-File, in-Buffered}
use Rattle.plan_runner.proofs.close_call.begin_close.Goals as goal

pub returns : goal.returns
returns c = record {
  goes = goes_as (close_grant_next c.match-slot_of.grant (with_slot c.args.site.now c.args.slot Empty))
      (λ own answers. close_slot_next c.args.slot c.args.site.now own answers (slot_at c.args.site.now c.args.slot))
      c.args.place [] c.set_slot.new.site c.args.facts.now c.close_grant.result
      (λ own answers. elim c.match-slot_of.branch [
        | in-File w ↦ (let at : slot_at c.args.site.now c.args.slot ≡ File w.in-File.file = sym c.slot_of.ensures
            ∙ w.in-File.is in rw (at, w.grant-is) refl)
        | in-Buffered w ↦ (let at : slot_at c.args.site.now c.args.slot
            ≡ Buffered w.in-Buffered.file w.in-Buffered.field-1 = sym c.slot_of.ensures ∙ w.in-Buffered.is in
            rw (at, w.grant-is) refl)
      ]) (rw (sym c.set_slot.ensures) c.close_grant.ensures.goes);
  left = search rules;
  sound = (
    keeps_set c.args.facts.now c.args.site.now c.set_slot.new.site c.args.slot Empty c.set_slot.ensures tt,
    c.close_grant.ensures.sound.1,
  );
  pends = let fewer = fewer_set c.args.site.now c.set_slot.new.site c.args.slot Empty c.set_slot.ensures c.requires
      (λ q. refl) in
      pends_less (pends_idle c.set_slot.new.site) (pends_idle c.args.site.now) c.args.place c.set_slot.new.site
      c.close_grant.result (λ q. fewer.each q) c.close_grant.ensures.pends;
  asks = c.close_grant.ensures.grants c.args.site.now (elim c.match-slot_of.branch [
    | in-File w ↦ ap (has_grant c.args.site.now) w.grant-is ∙ file_held c.args.site.now c.args.slot w.in-File.file
        (sym c.slot_of.ensures ∙ w.in-File.is)
    | in-Buffered w ↦ ap (has_grant c.args.site.now) w.grant-is
        ∙ buffered_held c.args.site.now c.args.slot w.in-Buffered.file w.in-Buffered.field-1
        (sym c.slot_of.ensures ∙ w.in-Buffered.is)
  ]);
}
