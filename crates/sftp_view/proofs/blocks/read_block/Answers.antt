use Rattle.std.proofs.Common.{◌≡◌, ◌-◌, Ok, length, rules}
use Rattle.link_frames.proofs.Joining.{escaped}
use Rattle.view_model.specs.Viewed.{read_call}
use Rattle.sftp_view.proofs.BlockLaws.{may_read, read_all, read_ended, read_full, read_lost, read_more, read_refused, read_stopped, reads_first}
use Rattle.sftp_view.proofs.blocks.read_block.Goals as goal

pub loop-read-init : goal.loop-read-init
loop-read-init g c = reads_first c.args.block c.new-bytes.result.items _ c.new-bytes.ensures.items c.requires.idle

pub make_call-requires-clause-may : goal.make_call-requires-clause-may
make_call-requires-clause-may g c =
    let is : c.read_up_to.result ≡ read_call (c.args.block - length c.loop-read.bytes.items) = search rules in
    may_read c.args.block c.loop-read._read c.loop-read.bytes.items c.read_up_to.result is (search rules) c.requires.may
    c.loop-read.invariant

pub returns-in_err-code : goal.returns-in_err-code
returns-in_err-code g c =
    rw (escaped c.from_residual.result c.in_err-code.field-0.0 c.from_residual.ensures.1)
    (read_stopped c.args.block c.loop-read._read c.loop-read.bytes.items c.read_up_to.result c.loop-read.invariant
    c.in_err-code.ensures)

pub returns-in-Err : goal.returns-in-Err
returns-in-Err g c =
    let is : c.read_up_to.result ≡ read_call (c.args.block - length c.loop-read.bytes.items) = search rules in
    read_refused c.args.block c.loop-read._read c.loop-read.bytes.items c.read_up_to.result c.in-Err.code is
    (search rules) c.loop-read.invariant
    c.in-Err.is c.in_ok-code.ensures

pub returns-then-is_err : goal.returns-then-is_err
returns-then-is_err g c =
    read_lost c.args.block c.loop-read._read c.loop-read.bytes.items c.read_up_to.result c.loop-read.invariant
    c.in_ok-code.ensures

pub returns-then-is_empty : goal.returns-then-is_empty
returns-then-is_empty g c =
    let is : c.read_up_to.result ≡ read_call (c.args.block - length c.loop-read.bytes.items) = search rules in
    let brought : c.in_ok-code.field-0 ≡ Ok c.as_slice-more.result.now = search rules in
    read_ended c.args.block c.loop-read._read c.loop-read.bytes.items c.as_slice-more.result.now c.read_up_to.result is
    (search rules) c.loop-read.invariant
    brought c.in_ok-code.ensures (search rules) c.new.result (search rules)

pub returns-then-len-block : goal.returns-then-len-block
returns-then-len-block g c =
    let is : c.read_up_to.result ≡ read_call (c.args.block - length c.loop-read.bytes.items) = search rules in
    let brought : c.in_ok-code.field-0 ≡ Ok c.as_slice-more.result.now = search rules in
    read_full c.args.block c.loop-read._read c.loop-read.bytes.items c.as_slice-more.result.now c.read_up_to.result is
    (search rules) c.loop-read.invariant
    brought c.in_ok-code.ensures c.new-then-len-block.result (search rules) (search rules)

pub loop-read-preserved : goal.loop-read-preserved
loop-read-preserved g c =
    let is : c.read_up_to.result ≡ read_call (c.args.block - length c.loop-read.bytes.items) = search rules in
    let brought : c.in_ok-code.field-0 ≡ Ok c.as_slice-more.result.now = search rules in
    read_more c.args.block c.loop-read._read c.loop-read.bytes.items c.as_slice-more.result.now c.read_up_to.result is
    (search rules) c.loop-read.invariant
    brought c.in_ok-code.ensures (search rules) c.extend_from_slice.new.self.items (search rules) (search rules)

pub returns : goal.returns
returns g c = rw c.new-2.ensures (read_all c.args.block c.loop-read._read c.loop-read.bytes.items c.loop-read-test.false
    c.loop-read.invariant)
