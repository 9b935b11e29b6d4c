use Rattle.std.proofs.Common.{rules, ◌≡◌, ◌-◌, ◌<◌, arith, [], ◌∷◌, length, take, drop}
use Rattle.std.proofs.lemmas.Bool.Decides.{nat_tests}
use Rattle.std.proofs.lemmas.List.{length-drop}
use Rattle.plan_model.specs.TransferPlans.{part_len}
use Rattle.sftp_fs.proofs.PartLaws.{cut_part}
use Rattle.sftp_fs.proofs.parts.next_part.Goals as goal

pub returns : goal.returns
returns c =
    let left : length (drop c.args.done c.args.content.now) ≡ length c.args.content.now - c.args.done =
    length-drop c.args.done c.args.content.now in
    let len : c.min-len.result ≡ part_len c.args.facts.now (drop c.args.done c.args.content.now) = search rules in
    let some : 0 < c.min-len.result = grind (arith, nat_tests) in
    let piece : c.in_ok-slice.field-0 ≡ take c.min-len.result (drop c.args.done c.args.content.now) = search rules in
    let one : c.new.result ≡ c.in_ok-slice.field-0 ∷ [] = search rules in
    cut_part (record {
      handle = c.args.handle.now;
      facts = c.args.facts.now;
      place = c.args.place;
      done = c.args.done;
      rest = drop c.args.done c.args.content.now;
    }) c.min-len.result c.in_ok-slice.field-0 c.new.result c.copied.result
    (search rules) (search rules) (search rules) len some (omega
    (arith, left, c.requires.within, c.len.ensures.value, c.len.ensures.bound))
    piece one
