use Rattle.std.proofs.Common.{◌∙◌, ap, sym, drop, List, ℕ}
use Rattle.std.proofs.lemmas.List.{drop-drop}
use Rattle.machine_answers.specs.WaitingFrames.{WaitingFrames}
use Rattle.machine_answers.proofs.outbox.Outbox.spend.Goals as goal

pub returns-then-self-as_slice : goal.returns-then-self-as_slice
returns-then-self-as_slice c =
    ap (λ (w : List ℕ). let o : WaitingFrames = record {
      ready = drop c.self.inside.given c.self.inside.ready.items;
      waiting = c.self.inside.waiting.items;
      picks = w;
    } in o)
    (sym (drop-drop 1 c.self.inside.used c.self.inside.picks))
    ∙ ap (λ (w : WaitingFrames). let o : WaitingFrames = record
    { ready = w.ready; waiting = w.waiting; picks = drop 1 w.picks } in o) c.self.view_is
