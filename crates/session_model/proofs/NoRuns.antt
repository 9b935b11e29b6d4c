-- Journals that are no whole run.
use Rattle.std.specs.Prelude.{◌≡◌, ◌∷◌, List, true, false}
use Rattle.std.proofs.Common.{arith}
use Rattle.session_model.specs.declared.turn.Turn.{Turn}
use Rattle.session_model.specs.Runs.{IsRun}
use Rattle.session_model.specs.RowWords.{close, handle}
use Rattle.session_model.specs.JournalRows.{s, was_closed}
use Rattle.session_model.specs.LaneRows.{opens}
use Rattle.session_model.specs.RunRows.{without_close}
use Rattle.session_model.proofs.OverLaws.{runs_are_journals, runs_are_over}

-- a grant has no CLOSE
pub run_without_close : (turns : List Turn) → IsRun opens turns without_close → ⊥
run_without_close turns run = let e = (runs_are_over opens turns without_close run).1 in absurd cc

-- the CLOSE was not sent
pub run_without_send : (turns : List Turn) → IsRun opens turns (close 0 (handle 7) ∷ without_close) → ⊥
run_without_send turns run = let e = (runs_are_over opens turns (close 0 (handle 7) ∷ without_close) run).2 in absurd cc

-- a second CLOSE
pub run_with_two_closes : (turns : List Turn) → IsRun opens turns
    (close 1 (handle 7) ∷ close 0 (handle 7) ∷ without_close) → ⊥
run_with_two_closes turns run = (runs_are_journals opens turns (close 1 (handle 7) ∷ close 0 (handle 7) ∷ without_close)
    run).0

-- the lane was not let go
pub run_without_letting_go : (turns : List Turn) → IsRun s turns was_closed → ⊥
run_without_letting_go turns run = let e : false ≡ true = (runs_are_over s turns was_closed run).0 0 (omega arith) in
    absurd cc
