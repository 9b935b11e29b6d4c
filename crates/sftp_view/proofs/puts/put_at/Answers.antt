use Rattle.std.proofs.Common.{ap, sym}
use Rattle.link_frames.proofs.Joining.{escaped}
use Rattle.view_model.specs.Viewed.{put_of}
use Rattle.view_model.specs.declared.answer.Answer.TheVariants as answer
use Rattle.sftp_view.proofs.PutLaws.{closed, may_close, may_write, sought, sought_stopped, wrote_all, wrote_stopped}
use Rattle.sftp_view.proofs.RunLaws.{no_room}
use Rattle.sftp_view.proofs.puts.put_at.Goals as goal

pub returns-in-Err : goal.returns-in-Err
returns-in-Err g c = no_room _

pub make_call-requires-2-clause-may : goal.make_call-requires-2-clause-may
make_call-requires-2-clause-may g c =
    may_write c.args.offset c.args.content.now c.in-Ok.write c.in-Ok.ensures c.requires.may
    (sought c.args.offset c.args.content.now c.seek_to.result c.seek_to.ensures c.in_ok-make_call.ensures)

pub returns-in_err-wrote : goal.returns-in_err-wrote
returns-in_err-wrote g c =
    rw (escaped c.from_residual-in_err-wrote.result c.in_err-wrote.field-0.0 c.from_residual-in_err-wrote.ensures.1)
    (sought_stopped c.args.offset c.args.content.now c.in-Ok.write
    (sought c.args.offset c.args.content.now c.seek_to.result c.seek_to.ensures c.in_ok-make_call.ensures)
    c.in_err-wrote.ensures)

pub make_call-requires-3-clause-may : goal.make_call-requires-3-clause-may
make_call-requires-3-clause-may g c =
    may_close c.args.offset c.args.content.now c.close.result c.close.ensures c.requires.may
    (wrote_all c.args.offset c.args.content.now c.in-Ok.write c.in-Ok.ensures
    (sought c.args.offset c.args.content.now c.seek_to.result c.seek_to.ensures c.in_ok-make_call.ensures)
    c.in_ok-wrote.ensures)

pub returns-in_err-make_call-2 : goal.returns-in_err-make_call-2
returns-in_err-make_call-2 g c =
    rw (escaped c.from_residual-in_err-make_call-2.result c.in_err-make_call-2.field-0.0
    c.from_residual-in_err-make_call-2.ensures.1)
    (wrote_stopped c.args.offset c.args.content.now c.close.result
    (wrote_all c.args.offset c.args.content.now c.in-Ok.write c.in-Ok.ensures
    (sought c.args.offset c.args.content.now c.seek_to.result c.seek_to.ensures c.in_ok-make_call.ensures)
    c.in_ok-wrote.ensures)
    c.in_err-make_call-2.ensures)

pub returns-in-Ok-wrote : goal.returns-in-Ok-wrote
returns-in-Ok-wrote g c =
    closed c.args.offset c.args.content.now c.close.result answer.Put c.close.ensures (sym (ap put_of c.in-Ok-wrote.is))
    (wrote_all c.args.offset c.args.content.now c.in-Ok.write c.in-Ok.ensures
    (sought c.args.offset c.args.content.now c.seek_to.result c.seek_to.ensures c.in_ok-make_call.ensures)
    c.in_ok-wrote.ensures)
    c.in_ok-make_call-2.ensures

pub returns-in-Err-wrote : goal.returns-in-Err-wrote
returns-in-Err-wrote g c =
    closed c.args.offset c.args.content.now c.close.result (answer.Refused c.in-Err-wrote.code) c.close.ensures
    (sym (ap put_of c.in-Err-wrote.is))
    (wrote_all c.args.offset c.args.content.now c.in-Ok.write c.in-Ok.ensures
    (sought c.args.offset c.args.content.now c.seek_to.result c.seek_to.ensures c.in_ok-make_call.ensures)
    c.in_ok-wrote.ensures)
    c.in_ok-make_call-2.ensures
