use Rattle.sftp_view.proofs.PutLaws.{may_open, may_put_at, open_put, open_refused}
use Rattle.sftp_view.proofs.RunLaws.{no_room}
use Rattle.sftp_view.proofs.puts.write_file.Goals as goal

pub returns-in-Err : goal.returns-in-Err
returns-in-Err g c = no_room _

pub make_call-requires-clause-may : goal.make_call-requires-clause-may
make_call-requires-clause-may g c = may_open c.args.path.now c.args.offset c.args.content.now c.in-Ok.open
    c.in-Ok.ensures c.requires.may

pub returns-in-Err-2 : goal.returns-in-Err-2
returns-in-Err-2 g c =
    open_refused c.args.path.now c.args.offset c.args.content.now c.in-Ok.open c.in-Err-2.code c.in-Ok.ensures
    c.in-Err-2.is c.in_ok-_nothing.ensures

pub put_at-requires-clause-may : goal.put_at-requires-clause-may
put_at-requires-clause-may g c =
    may_put_at c.args.path.now c.args.offset c.args.content.now _ c.in-Ok.open c.in-Ok.ensures c.in-Ok-2.is
    c.requires.may c.in_ok-_nothing.ensures

pub returns : goal.returns
returns g c =
    open_put c.args.path.now c.args.offset c.args.content.now _ c.in-Ok.open c.in-Ok.ensures c.in-Ok-2.is
    c.in_ok-_nothing.ensures c.put_at.ensures
