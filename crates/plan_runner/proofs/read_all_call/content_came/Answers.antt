use Rattle.std.proofs.Common.{◌≡◌, ◌+◌, ◌-◌, rules, length, inl, Some, None}
use Rattle.plan_runner.proofs.Asking.{file_held}
use Rattle.plan_runner.proofs.Going.{content_goes}
use Rattle.plan_runner.proofs.Leaving.{leaves_moved}
use Rattle.plan_runner.proofs.Fewer.{kept_pends}
use Rattle.plan_runner.proofs.Keeping.{keeps_kept, kept_there}
use Rattle.plan_runner.proofs.read_all_call.content_came.Goals as goal

pub returns : goal.returns
returns c bytes = record {
  goes = let less : c.saturating_sub-rest.result ≡ c.args.read.left - length c.args.content = search rules in
      content_goes c.args.read.slot c.args.read.file c.args.got c.in_ok-all.all c.args.content c.len-count.result
      c.args.read.left
      c.saturating_sub-rest.result c.args.turn.place bytes c.args.site.now c.set_slot.new.site c.args.turn.facts
      c.read_rest-next.result
      c.len-count.ensures.value (search rules) less c.set_slot.ensures
      (c.read_rest-next.ensures.goes c.set_slot.new.site bytes);
  left = leaves_moved (Some c.args.read.slot) (c.args.read.file.offset + c.len-count.result) c.args.site.now
      c.set_slot.new.site
      c.args.turn.facts c.args.read.file c.args.turn.place bytes c.read_rest-next.result c.requires.kept
      c.set_slot.ensures
      c.read_rest-next.ensures.asks
      (c.read_rest-next.ensures.left c.set_slot.new.site bytes (kept_there (Some c.args.read.slot) c.args.read.file
      (c.args.read.file.offset + c.len-count.result) c.args.site.now c.set_slot.new.site c.requires.kept
      c.set_slot.ensures));
  sound = (
    keeps_kept c.args.turn.facts (Some c.args.read.slot) c.args.read.file (c.args.read.file.offset + c.len-count.result)
        c.args.site.now
        c.set_slot.new.site c.set_slot.ensures,
    (c.read_rest-next.ensures.sound c.set_slot.new.site bytes (kept_there (Some c.args.read.slot) c.args.read.file
        (c.args.read.file.offset + c.len-count.result) c.args.site.now c.set_slot.new.site c.requires.kept
        c.set_slot.ensures)).1,
  );
  pends = kept_pends (Some c.args.read.slot) c.args.read.awaited c.args.read.file
      (c.args.read.file.offset + c.len-count.result)
      c.args.turn.place
      c.args.site.now c.set_slot.new.site c.read_rest-next.result c.requires.kept c.set_slot.ensures
      (c.read_rest-next.ensures.pends c.set_slot.new.site);
  asks = c.read_rest-next.ensures.grants c.args.site.now None
      (inl (file_held c.args.site.now c.args.read.slot c.args.read.file c.requires.kept.1));
  err = search rules;
}
