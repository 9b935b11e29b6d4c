use Rattle.std.proofs.Common.{rules, arith}
use Rattle.view_model.specs.declared.answer.Answer.TheVariants as answer
use Rattle.view_model.proofs.CountLaws.{blocks_few}
use Rattle.sftp_view.proofs.OpLaws.{got_part}
use Rattle.sftp_view.proofs.ops.View.get.Goals as goal

pub gather-requires-clause-counts : goal.gather-requires-clause-counts
gather-requires-clause-counts g c =
    rw (c.from.ensures, c.from-block.ensures)
    (let few = blocks_few c.args.self.now.block c.args.offset c.args.len c.requires.may.some c.requires.may.short
    c.requires.most in
    let counts = c.requires.may.counts in
    omega (arith, few, counts))

pub returns-in-Ok-cut : goal.returns-in-Ok-cut
returns-in-Ok-cut g c =
    got_part c.args.self.now c.gather.new.self c.args.path.now c.args.offset c.args.len c.from-block.result
    c.from.result (g.L.LinkState.state c.args.link.now)
    (g.L.LinkState.state c.gather.new.link) c.in_ok-bytes.field-0 (answer.Got c.in-Ok-cut.part) c.from-block.ensures
    c.from.ensures c.requires.may.some
    c.requires.may.short c.requires.most (search rules) c.in_ok-bytes.ensures

pub returns : goal.returns
returns g c =
    got_part c.args.self.now c.gather.new.self c.args.path.now c.args.offset c.args.len c.from-block.result
    c.from.result (g.L.LinkState.state c.args.link.now)
    (g.L.LinkState.state c.gather.new.link) c.in_ok-bytes.field-0 (answer.Refused c.in-Err.code) c.from-block.ensures
    c.from.ensures c.requires.may.some
    c.requires.may.short c.requires.most (search rules) c.in_ok-bytes.ensures
