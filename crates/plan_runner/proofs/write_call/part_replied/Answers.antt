use Rattle.std.proofs.Common.{rules, ◌≡◌, ◌+◌, sym, ◌∙◌, ap, drop, min}
use Rattle.std.proofs.lemmas.List.{length-drop}
use Rattle.plan_model.specs.TransferPlans.{part_len}
use Rattle.plan_runner.specs.declared.next.Running.TheVariants as running
use Rattle.plan_runner.specs.Asking.{opened_by}
use Rattle.plan_runner.proofs.Asking.{kept_has}
use Rattle.plan_runner.proofs.Going.{part_goes}
use Rattle.plan_runner.proofs.Leaving.{leaves_moved}
use Rattle.plan_runner.proofs.Fewer.{kept_pends}
use Rattle.plan_runner.proofs.Keeping.{keeps_kept, kept_there}
use Rattle.plan_runner.proofs.write_call.part_replied.Goals as goal

pub returns : goal.returns
returns c = record {
  goes = let is : c.min-len.result ≡ part_len c.args.turn.facts (drop c.args.part.done c.args.bytes.now) =
      c.min-len.ensures
      ∙ ap (λ k. min k c.args.turn.facts.write_len) (sym (length-drop c.args.part.done c.args.bytes.now)) in
      part_goes c.args.part.awaited c.args.part.slot c.args.part.file c.args.part.done c.min-len.result c.args.reply
      c.args.turn.place
      c.args.bytes.now c.args.site.now c.keep.new.site c.args.turn.facts c.in_ok-next.next
      is c.keep.ensures (sym c.failure.ensures ∙ c.in_default.is) (c.in_ok-next.ensures.goes c.keep.new.site);
  left = leaves_moved c.args.part.slot (c.args.part.file.offset + c.min-len.result) c.args.site.now c.keep.new.site
      c.args.turn.facts c.args.part.file c.args.turn.place c.args.bytes.now c.in_ok-next.next
      c.requires.kept c.keep.ensures c.in_ok-next.ensures.asks.offset (c.in_ok-next.ensures.left c.keep.new.site
      (kept_there c.args.part.slot c.args.part.file (c.args.part.file.offset + c.min-len.result) c.args.site.now
      c.keep.new.site
      c.requires.kept c.keep.ensures));
  sound = (
    keeps_kept c.args.turn.facts c.args.part.slot c.args.part.file (c.args.part.file.offset + c.min-len.result)
        c.args.site.now
        c.keep.new.site c.keep.ensures,
    (c.in_ok-next.ensures.sound c.keep.new.site (kept_there c.args.part.slot c.args.part.file
        (c.args.part.file.offset + c.min-len.result) c.args.site.now c.keep.new.site c.requires.kept c.keep.ensures)).1,
  );
  pends = kept_pends c.args.part.slot c.args.part.awaited c.args.part.file (c.args.part.file.offset + c.min-len.result)
      c.args.turn.place c.args.site.now c.keep.new.site c.in_ok-next.next c.requires.kept c.keep.ensures
      (c.in_ok-next.ensures.pends c.keep.new.site);
  asks = c.in_ok-next.ensures.asks.grants c.args.site.now (opened_by
      (running.Writing c.args.part.awaited c.args.part.slot c.args.part.file c.args.part.done))
      (kept_has c.args.part.slot c.args.part.file (c.args.part.file.offset + c.min-len.result) c.args.site.now
      c.args.part.awaited
      c.args.part.done c.requires.kept);
  err = search rules;
}
