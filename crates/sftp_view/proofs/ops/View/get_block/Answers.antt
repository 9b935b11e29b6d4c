use Rattle.std.proofs.Common.{None, Some}
use Rattle.link_frames.proofs.Joining.{escaped}
use Rattle.sftp_view.proofs.WorkLaws.{block_found, block_lost, block_read, block_stopped, may_fetch, finds_as, work_starved}
use Rattle.sftp_view.proofs.ops.View.get_block.Goals as goal

pub returns-in-Ok-Some : goal.returns-in-Ok-Some
returns-in-Ok-Some g c =
    block_found c.args.self.now.block c.args.self.now.session c.args.self.now.cache c.find.new.self c.args.path.now
    c.in-Ok-Some.bytes c.args.key.now
    (g.L.LinkState.state c.args.link.now) c.requires.idle c.requires.of
    (finds_as c.args.key.now c.args.self.now.cache c.find.new.self c.in-Ok-Some.field-0 (Some c.in-Ok-Some.bytes)
    c.in-Ok-Some.field-0-is c.in-Ok-Some.ensures)

pub returns-in-Err : goal.returns-in-Err
returns-in-Err g c = work_starved c.args.self.now.session c.args.self.now.cache c.find.new.self c.args.self.now.block
    (g.L.LinkState.state c.args.link.now)

pub fetch_block-requires-clause-may : goal.fetch_block-requires-clause-may
fetch_block-requires-clause-may g c =
    may_fetch c.args.self.now.block c.args.self.now.cache c.find.new.self c.args.path.now c.args.key.now c.requires.may
    (finds_as c.args.key.now c.args.self.now.cache c.find.new.self c.in-Ok-None.field-0 None c.in-Ok-None.field-0-is
    c.in-Ok-None.ensures)

pub returns-in_err-found : goal.returns-in_err-found
returns-in_err-found g c =
    rw (escaped c.from_residual.result c.in_err-found.field-0.0 c.from_residual.ensures.1)
    (block_stopped c.args.self.now.block c.args.self.now.session c.fetch_block.new.session c.args.self.now.cache
    c.find.new.self c.args.path.now c.args.key.now
    (g.L.LinkState.state c.args.link.now) (g.L.LinkState.state c.fetch_block.new.link) c.in_err-found.field-0.0
    c.in_err-found.ensures)

pub returns-in-Err-keep : goal.returns-in-Err-keep
returns-in-Err-keep g c =
    block_lost c.args.self.now.block c.args.self.now.session c.fetch_block.new.session c.args.self.now.cache
    c.keep.new.self c.args.path.now c.args.key.now
    (g.L.LinkState.state c.args.link.now) (g.L.LinkState.state c.fetch_block.new.link) c.in_ok-found.ensures

pub returns-in-Ok : goal.returns-in-Ok
returns-in-Ok g c =
    block_read c.args.self.now.block c.args.self.now.session c.fetch_block.new.session c.args.self.now.cache
    c.find.new.self c.keep.new.self c.args.path.now
    c.args.key.now (g.L.LinkState.state c.args.link.now) (g.L.LinkState.state c.fetch_block.new.link)
    c.in_ok-found.found c.requires.of
    (finds_as c.args.key.now c.args.self.now.cache c.find.new.self c.in-Ok-None.field-0 None c.in-Ok-None.field-0-is
    c.in-Ok-None.ensures)
    c.in_ok-found.ensures c.in-Ok.ensures
