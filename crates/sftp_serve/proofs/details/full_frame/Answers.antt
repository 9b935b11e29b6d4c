use Rattle.std.proofs.Common.{subst, arith}
use Rattle.sftp_model.specs.declared.reply.Reply.TheVariants as reply
use Rattle.machine_model.specs.FitTrees.{MayReply}
use Rattle.machine_model.proofs.ReplyFits.{body_within}
use Rattle.sftp_serve.proofs.Fitting.{attrs_len, full_within}
use Rattle.sftp_serve.proofs.details.full_frame.Goals as goal

pub frame_of-requires-in-Attrs : goal.frame_of-requires-in-Attrs
frame_of-requires-in-Attrs c = let l = attrs_len c.full_attrs.result c.args.id in omega (arith, l)

pub frame_of-requires-in_default : goal.frame_of-requires-in_default
frame_of-requires-in_default c = body_within c.args.reply.now c.args.id c.requires

pub frame_of-requires : goal.frame_of-requires
frame_of-requires c =
    rw (c.in_ok-full_entries-in-Names.ensures, c.as_slice.ensures)
    (full_within (reply.Names c.in-Names.entries) c.args.id (subst MayReply c.in-Names.is c.requires))
