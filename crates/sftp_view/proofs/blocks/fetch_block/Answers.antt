use Rattle.sftp_view.proofs.BlockLaws.{may_read_at, open_read, open_refused}
use Rattle.sftp_view.proofs.RunLaws.{no_room}
use Rattle.sftp_view.proofs.blocks.fetch_block.Goals as goal

pub returns-in-Err : goal.returns-in-Err
returns-in-Err g c = no_room _

pub returns-in-Err-2 : goal.returns-in-Err-2
returns-in-Err-2 g c =
    open_refused c.args.block c.args.n c.args.path.now c.in-Ok.open c.in-Err-2.code c.in-Ok.ensures c.in-Err-2.is
    c.in_ok-_nothing.ensures

pub read_at-requires-clause-may : goal.read_at-requires-clause-may
read_at-requires-clause-may g c =
    may_read_at c.args.block c.args.n c.args.path.now _ c.in-Ok.open c.in-Ok.ensures c.in-Ok-2.is c.requires.may
    c.in_ok-_nothing.ensures

pub returns : goal.returns
returns g c =
    open_read c.args.block c.args.n c.args.path.now _ c.in-Ok.open c.in-Ok.ensures c.in-Ok-2.is c.in_ok-_nothing.ensures
    c.read_at.ensures
