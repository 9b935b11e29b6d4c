use Rattle.session_work.proofs.tokens.Tokens.let_go.Given as goal

abbrev pub decreases-loop-ticket : goal.decreases-loop-ticket
decreases-loop-ticket l = goal.left-loop-ticket l

abbrev pub decreases-loop-grant : goal.decreases-loop-grant
decreases-loop-grant l = goal.left-loop-grant l
