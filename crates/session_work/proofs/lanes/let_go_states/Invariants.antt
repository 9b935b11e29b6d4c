use Rattle.session_work.proofs.lanes.let_go_states.Given as goal

abbrev pub decreases-loop-state : goal.decreases-loop-state
decreases-loop-state l = goal.left-loop-state l
