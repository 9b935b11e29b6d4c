use Rattle.std.proofs.Common.{rules, ◌∙◌, ap, ◌++◌, arith, append_assoc, take}
use Rattle.std.specs.List.{flat_map}
use Rattle.ssh_encoding.proofs.Lists.{flat_map_step, flat_map_around, flat_map_room, string_fits, stops_within}
use Rattle.ssh_encoding.proofs.encode_lists.write_strings.Goals as goal

pub returns-in_err-encode-clause-err : goal.returns-in_err-encode-clause-err
returns-in_err-encode-clause-err g c =
    let f = g.T.Encode.written in
    let room = flat_map_room f c.args.items.now c.loop-item.item-index c.item-item.result c.loop-item-test.true
    c.item-item.is in
    let none = string_fits _ _ _ (g.met.T.Rfc4251String.is_string c.item-item.result)
    (g.met.T.Rfc4251String.is_refused c.item-item.result) (omega (arith, room, c.requires)) in
    stops_within _ _ _ _ _ _ _ _ _ _ (flat_map_around f c.args.items.now c.loop-item.item-index c.item-item.result
    c.loop-item-test.true c.item-item.is) c.loop-item.invariant.wrote none c.from_residual.ensures.1
    c.in_err-encode.ensures.writes

pub loop-item-preserved : goal.loop-item-preserved
loop-item-preserved g c = record {
  wrote = rw (flat_map_step g.T.Encode.written c.args.items.now c.loop-item.item-index c.item-item.result
      c.loop-item-test.true c.item-item.is) (c.in_ok-encode.ensures.writes.0
      ∙ ap (λ l. l ++ g.T.Encode.written c.item-item.result) c.loop-item.invariant.wrote
      ∙ append_assoc (g.W.Writer.wrote c.args.writer.now) (flat_map g.T.Encode.written
      (take c.loop-item.item-index c.args.items.now)) (g.T.Encode.written c.item-item.result));
  same = search (rules, g.met.W.Writer.goes_on);
}
