use Rattle.std.proofs.Common.{rules, ◌<◌, arith, Ok, subst, sym}
use Rattle.plan_state.specs.Calls.{CallValue}
use Rattle.sftp_file.specs.Writes.{WriteValue, WritesParts}
use Rattle.sftp_file.proofs.WriteLaws.{write_asked, write_none}
use Rattle.sftp_file.proofs.file.File.write_parts.Goals as goal

pub returns-then-len-eq0 : goal.returns-then-len-eq0
returns-then-len-eq0 c =
    subst (λ (x : CallValue WriteValue). WritesParts c.args.self.now c.args.parts.items c.args.core.now c.args.core.now
    (Ok x)) (sym c.ready.ensures)
    (write_none c.args.self.now c.at-file.result c.args.parts.items c.args.core.now c.args.len c.at-file.ensures
    c.requires.len (search rules) c.requires.most.1)

pub write_request-asking-requires : goal.write_request-asking-requires
write_request-asking-requires c = omega (arith, c.requires.len, c.requires.most.0, c.requires.most.2)

pub overflow_cast-len : goal.overflow_cast-len
overflow_cast-len c = omega (arith, c.requires.most.0, c.requires.most.2)

pub returns : goal.returns
returns c =
    let some : 0 < c.args.len = omega arith in
    write_asked c.args.self.now c.at-file.result c.args.parts.items c.args.len c.write_request-asking.result
    c.args.core.now c.ask.new.core c.may_write.result c.in_default.field-0 c.ask.result
    c.at-file.ensures c.requires.len some c.may_write.ensures.looks c.in_default.is (search rules) c.ask.ensures.started
    c.ask.ensures.begins c.ask.ensures.keeps
