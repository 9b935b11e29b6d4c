use Rattle.machine_model.proofs.ReplyLaws.{tree_replies}
use Rattle.machine_model.proofs.ReplyFits.{says_fit, body_within}
use Rattle.machine_model.proofs.laws.replies_fit_frames.Goals as goal

pub returns : goal.returns
returns c = record {
  fits = λ tree config r choice handle fit le lt g. says_fit _
      (tree_replies tree config r choice handle fit le lt g).said;
  within = λ tree config r choice handle id fit le lt g. body_within _ id
      (tree_replies tree config r choice handle fit le lt g).said;
}
