use Rattle.program_shell.proofs.Exits.{memory_answered}
use Rattle.program_shell.proofs.in_memory.answer_in_memory.Goals as goal

pub returns : goal.returns
returns g c =
    memory_answered (g.P.Program.reads c.args.program.now) (g.P.Program.leaves c.args.program.now) (g.P.Program.right c.args.program.now)
    c.deref.result.now c.deref-2.result.now c.in_ok-reply.reply c.write_answer.result c.reply_in_memory.new.kept
    (g.S.Source.state c.args.source.now) (g.S.Source.state c.read_bytes.new.source) (g.K.Sink.state c.args.sink.now)
    (g.K.Sink.state c.write_answer.new.sink) (rw (c.deref.ensures.value) c.in_ok-bytes.ensures.bytes)
    c.in_ok-bytes.ensures.cause c.in_ok-reply.ensures c.deref-2.ensures.value c.write_answer.ensures
