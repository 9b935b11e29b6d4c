use Rattle.machine_model.proofs.ReplyFits.{body_within}
use Rattle.sftp_serve.proofs.details.shown_frame.Goals as goal

pub frame_of-requires : goal.frame_of-requires
frame_of-requires c = body_within c.args.reply.now c.args.id c.requires
