use Rattle.std.proofs.Common.{rules, ◌≡◌, ◌∙◌, sym}
use Rattle.std.specs.Prelude.{unwrap_or}
use Rattle.plan_window.specs.PlainSteps.{least_by, reach_of}
use Rattle.plan_window.specs.Tallies.{free_ends, gap_below}
use Rattle.plan_window.specs.Windows.{Window}
use Rattle.plan_window.proofs.TallyLaws.{gap_is}
use Rattle.plan_window.proofs.window.Window.gap_of.Goals.{in-Some, in-None}
use Rattle.plan_window.proofs.window.Window.gap_of.Goals as goal

pub returns : goal.returns
returns c =
    let w : Window = c.args.self.now in
    let limit : c.match-end.limit ≡ unwrap_or c.args.end (reach_of w.answered w.waiting) =
    elim c.match-end.branch [ in-Some b ↦ search rules | in-None b ↦ search rules ] in
    let free : c.as_slice-free.result.now ≡ free_ends w.answered = search rules in
    let waiting : c.as_slice-waiting.result.now ≡ w.waiting = search rules in
    c.least_gap.ensures
    ∙ (λ i. least_by (gap_below (waiting i) (limit i)) (free i))
    ∙ sym (gap_is w.answered w.waiting (unwrap_or c.args.end (reach_of w.answered w.waiting)) w.answered)
