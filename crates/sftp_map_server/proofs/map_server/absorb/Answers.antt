use Rattle.std.proofs.Common.{rules, ◌≡◌, ◌≤◌, ◌++◌, length}
use Rattle.sftp_wire.specs.FrameReader.{missing_bytes}
use Rattle.sftp_map_server.proofs.Whole.{absorb_over, absorb_bad, absorb_part, absorb_whole, exact}
use Rattle.sftp_map_server.proofs.map_server.absorb.Goals as goal

pub returns-then-is_over-clause-absorbs : goal.returns-then-is_over-clause-absorbs
returns-then-is_over-clause-absorbs c =
    absorb_over c.args.state.now c.args.input.now.items c.args.bytes.now c.clear.new.self.items c.args.outbox.now
    (search rules) (search rules)

pub returns-then-is_bad-clause-absorbs : goal.returns-then-is_bad-clause-absorbs
returns-then-is_bad-clause-absorbs c =
    absorb_bad c.args.state.now c.end.new.self c.args.input.now.items c.args.bytes.now
    c.extend_from_slice.new.self.items
    c.clear-then-is_bad.new.self.items c.args.outbox.now (search rules) (search rules) (search rules) (search rules)
    (search rules)

pub returns-then-missing-gt0-clause-absorbs : goal.returns-then-missing-gt0-clause-absorbs
returns-then-missing-gt0-clause-absorbs c =
    absorb_part c.args.state.now c.args.input.now.items c.args.bytes.now c.extend_from_slice.new.self.items
    c.args.outbox.now (search rules) (search rules) (search rules) (search rules)

pub returns-clause-absorbs : goal.returns-clause-absorbs
returns-clause-absorbs c =
    let joined : c.extend_from_slice.new.self.items ≡ c.args.input.now.items ++ c.args.bytes.now = search rules in
    let within : length c.args.bytes.now ≤ missing_bytes c.args.input.now.items = c.requires.within (search rules) in
    let none : missing_bytes c.extend_from_slice.new.self.items ≡ 0 = search rules in
    absorb_whole c.args.state.now c.answer.new.self c.args.input.now.items c.args.bytes.now
    c.extend_from_slice.new.self.items c.body_of.result.now c.clear-2.new.self.items c.args.outbox.now
    c.answer.new.outbox
    joined (exact c.args.input.now.items c.args.bytes.now c.extend_from_slice.new.self.items joined c.requires.part
    within none) (search rules) (search rules) (search rules) (search rules) (search rules) (search rules)
