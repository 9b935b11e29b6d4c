use Rattle.machine_model.proofs.AnswerLaws.{tree_answers, refused_keeps}
use Rattle.machine_model.proofs.laws.replies_may_answer.Goals as goal

pub returns : goal.returns
returns c = record {
  allowed = λ tree config r choice handle h. (tree_answers tree config r choice handle h).allowed;
  keeps = refused_keeps;
}
