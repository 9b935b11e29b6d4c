use Rattle.std.proofs.Common.{rules, ◌≡◌, true, false}
use Rattle.sftp_model.specs.Numbers.{COPY_DATA}
use Rattle.plan_model.specs.Moves.{offers, overflows}
use Rattle.sftp_file.specs.Files.{facts_of}
use Rattle.sftp_file.proofs.CopyLaws.{copy_starts, copy_unoffered}
use Rattle.sftp_file.proofs.file.File.copy.Goals as goal

pub returns-then-not-offers : goal.returns-then-not-offers
returns-then-not-offers c =
    let none : offers (facts_of c.args.core.now) COPY_DATA ≡ false = search rules in
    copy_unoffered c.args.self.now c.args.to.now c.args.n c.args.core.now none

pub returns : goal.returns
returns c =
    let offered : offers (facts_of c.args.core.now) COPY_DATA ≡ true = search rules in
    let may : c.args.to.now.writable ≡ true = search rules in
    let reads : c.args.self.now.readable ≡ true = search rules in
    let below : overflows c.args.self.now.offset c.args.n ≡ false = search rules in
    let behind : overflows c.args.to.now.offset c.args.n ≡ false = search rules in
    copy_starts c.args.self.now c.args.to.now _ _ c.args.n c.copy_request.result c.args.core.now c.ask.new.core
    c.ask.result (search rules) (search rules)
    offered may reads below behind c.copy_request.ensures.is c.ask.ensures.started c.ask.ensures.begins
    c.ask.ensures.keeps
