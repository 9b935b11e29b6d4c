use Rattle.std.proofs.Common.{rules, ◌≡◌, Some, None, true}
use Rattle.std.specs.Prelude.{◌==◌, length, flat_map}
use Rattle.plan_window.specs.PlainSteps.{end_at, gap_of, least_by, parts_of}
use Rattle.plan_window.proofs.PlainLaws.{whole_move}
use Rattle.plan_window.proofs.window.Window.plain_move.Goals as goal

pub returns-then-is_empty : goal.returns-then-is_empty
returns-then-is_empty c =
    let w = c.args.self.now in
    let end : least_by end_at w.answered ≡ Some c.in-Some.end = search rules in
    let gap : gap_of w.answered w.waiting (Some c.in-Some.end) ≡ None = search rules in
    let empty : (length w.waiting == 0) ≡ true = search rules in
    let bytes : c.in_ok-bytes.bytes ≡ flat_map (λ p. p.1) (parts_of c.in-Some.end w.answered) = search rules in
    whole_move c.args.bound w c.args.facts.now c.in-Some.end c.in_ok-bytes.bytes end gap empty bytes
