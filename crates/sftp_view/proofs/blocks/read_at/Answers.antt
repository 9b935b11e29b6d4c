use Rattle.std.proofs.Common.{rules}
use Rattle.link_frames.proofs.Joining.{escaped}
use Rattle.sftp_view.proofs.BlockLaws.{closed, closed_stopped, found_all, may_close, may_read_block, may_seek, sought, sought_stopped}
use Rattle.sftp_view.proofs.RunLaws.{stopped}
use Rattle.sftp_view.proofs.blocks.read_at.Goals as goal

pub make_call-requires-clause-may : goal.make_call-requires-clause-may
make_call-requires-clause-may g c = may_seek c.args.block c.args.n c.seek_to.result (search rules) c.requires.may

pub returns-in_err-make_call : goal.returns-in_err-make_call
returns-in_err-make_call g c =
    rw (escaped c.from_residual.result c.in_err-make_call.field-0.0 c.from_residual.ensures.1)
    (stopped c.in_err-make_call.ensures)

pub read_block-requires-clause-may : goal.read_block-requires-clause-may
read_block-requires-clause-may g c =
    may_read_block c.args.block c.args.n c.requires.may (sought c.args.block c.args.n c.seek_to.result (search rules)
    c.in_ok-make_call.ensures)

pub returns-in_err-found : goal.returns-in_err-found
returns-in_err-found g c =
    rw (escaped c.from_residual-in_err-found.result c.in_err-found.field-0.0 c.from_residual-in_err-found.ensures.1)
    (sought_stopped c.args.block c.args.n (sought c.args.block c.args.n c.seek_to.result (search rules)
    c.in_ok-make_call.ensures) c.in_err-found.ensures)

pub make_call-requires-2-clause-may : goal.make_call-requires-2-clause-may
make_call-requires-2-clause-may g c =
    may_close c.args.block c.args.n c.close.result c.close.ensures c.requires.may
    (found_all c.args.block c.args.n (sought c.args.block c.args.n c.seek_to.result (search rules)
    c.in_ok-make_call.ensures) c.in_ok-found.ensures)

pub returns-in_err-make_call-2 : goal.returns-in_err-make_call-2
returns-in_err-make_call-2 g c =
    rw (escaped c.from_residual-in_err-make_call-2.result c.in_err-make_call-2.field-0.0
    c.from_residual-in_err-make_call-2.ensures.1)
    (closed_stopped c.args.block c.args.n c.close.result
    (found_all c.args.block c.args.n (sought c.args.block c.args.n c.seek_to.result (search rules)
    c.in_ok-make_call.ensures) c.in_ok-found.ensures)
    c.in_err-make_call-2.ensures)

pub returns : goal.returns
returns g c =
    closed c.args.block c.args.n c.close.result c.close.ensures
    (found_all c.args.block c.args.n (sought c.args.block c.args.n c.seek_to.result (search rules)
    c.in_ok-make_call.ensures) c.in_ok-found.ensures)
    c.in_ok-make_call-2.ensures
