use Rattle.std.proofs.Common.{◌≡◌, Ok, ap, rules, arith}
use Rattle.link_frames.proofs.Joining.{escaped}
use Rattle.view_model.specs.declared.key.BlockKey.{BlockKey}
use Rattle.sftp_view.proofs.GatherLaws.{
  block_fits,
  gather_lost,
  gather_more,
  gather_refused,
  gather_short,
  gather_stopped,
  gathers_first,
  may_block,
  number_fits,
}
use Rattle.sftp_view.proofs.WorkLaws.{work_starved}
use Rattle.sftp_view.proofs.ops.View.gather.Goals as goal

pub returns-in-Err : goal.returns-in-Err
returns-in-Err g c =
    work_starved c.args.self.now.session c.args.self.now.cache c.args.self.now.cache c.args.self.now.block
    (g.L.LinkState.state c.args.link.now)

pub loop-block-init : goal.loop-block-init
loop-block-init g c =
    gathers_first c.args.path.now c.args.first c.args.count c.new-bytes.result.items _ c.args.self.now
    (g.L.LinkState.state c.args.link.now) c.requires.idle
    c.new-bytes.ensures.items (search rules)

pub get_block-requires-clause-may : goal.get_block-requires-clause-may
get_block-requires-clause-may g c =
    may_block c.args.path.now c.args.first c.args.count c.loop-block._block c.loop-block.bytes.items c.loop-block.key
    c.args.self.now c.loop-block.self
    (g.L.LinkState.state c.args.link.now) (g.L.LinkState.state c.loop-block.link) (search rules) c.requires.may
    c.loop-block.invariant

pub get_block-requires-clause-fits : goal.get_block-requires-clause-fits
get_block-requires-clause-fits g c =
    rw (c.loop-block.invariant.stays.block)
    (block_fits c.args.first c.args.count c.loop-block._block c.loop-block.key.block c.args.self.now.block
    (ap (λ (k : BlockKey). k.block) c.loop-block.invariant.name) (search rules) c.requires.fits)

pub returns-in_err-code : goal.returns-in_err-code
returns-in_err-code g c =
    rw (escaped c.from_residual.result c.in_err-code.field-0.0 c.from_residual.ensures.1)
    (gather_stopped c.args.path.now c.args.first c.args.count c.loop-block._block c.loop-block.bytes.items
    c.loop-block.key c.args.self.now c.loop-block.self
    c.get_block.new.self (g.L.LinkState.state c.args.link.now) (g.L.LinkState.state c.loop-block.link)
    (g.L.LinkState.state c.get_block.new.link)
    c.in_err-code.field-0.0 c.loop-block.invariant c.in_err-code.ensures)

pub returns-in-Err-2 : goal.returns-in-Err-2
returns-in-Err-2 g c =
    gather_refused c.args.path.now c.args.first c.args.count c.loop-block._block c.loop-block.bytes.items
    c.loop-block.key c.args.self.now c.loop-block.self
    c.get_block.new.self (g.L.LinkState.state c.args.link.now) (g.L.LinkState.state c.loop-block.link)
    (g.L.LinkState.state c.get_block.new.link)
    c.in_ok-code.field-0 c.in-Err-2.code (search rules) c.loop-block.invariant c.in-Err-2.is c.in_ok-code.ensures

pub returns-then-is_err : goal.returns-then-is_err
returns-then-is_err g c =
    gather_lost c.args.path.now c.args.first c.args.count c.loop-block._block c.loop-block.bytes.items c.loop-block.key
    c.args.self.now c.loop-block.self
    c.get_block.new.self (g.L.LinkState.state c.args.link.now) (g.L.LinkState.state c.loop-block.link)
    (g.L.LinkState.state c.get_block.new.link)
    c.in_ok-code.field-0 c.loop-block.invariant c.in_ok-code.ensures

pub returns-then-more-self : goal.returns-then-more-self
returns-then-more-self g c =
    let brought : c.in_ok-code.field-0 ≡ Ok c.as_slice-more.result.now = search rules in
    gather_short c.args.path.now c.args.first c.args.count c.loop-block._block c.loop-block.bytes.items
    c.as_slice-more.result.now c.loop-block.key c.args.self.now
    c.loop-block.self c.get_block.new.self (g.L.LinkState.state c.args.link.now) (g.L.LinkState.state c.loop-block.link)
    (g.L.LinkState.state c.get_block.new.link)
    c.in_ok-code.field-0 (search rules) c.loop-block.invariant brought c.in_ok-code.ensures (search rules) c.new.result
    (search rules)

pub overflow_add-key : goal.overflow_add-key
overflow_add-key g c =
    let fits = number_fits c.args.first c.args.count c.loop-block._block c.loop-block.key.block c.args.self.now.block
    c.requires.some
    (ap (λ (k : BlockKey). k.block) c.loop-block.invariant.name) (search rules) c.requires.fits in
    omega (arith, fits)

pub loop-block-preserved : goal.loop-block-preserved
loop-block-preserved g c =
    let brought : c.in_ok-code.field-0 ≡ Ok c.as_slice-more.result.now = search rules in
    gather_more c.args.path.now c.args.first c.args.count c.loop-block._block c.loop-block.bytes.items
    c.as_slice-more.result.now c.loop-block.key _ c.args.self.now
    c.loop-block.self c.get_block.new.self (g.L.LinkState.state c.args.link.now) (g.L.LinkState.state c.loop-block.link)
    (g.L.LinkState.state c.get_block.new.link)
    c.in_ok-code.field-0 (search rules) c.loop-block.invariant brought c.in_ok-code.ensures (search rules)
    c.extend_from_slice.new.self.items (search rules) (search rules)
