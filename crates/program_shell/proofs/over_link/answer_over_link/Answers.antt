use Rattle.program_shell.proofs.Exits.{link_answered}
use Rattle.program_shell.proofs.over_link.answer_over_link.Goals as goal

pub returns : goal.returns
returns g c =
    link_answered (g.P.Program.reads c.args.program.now) (g.P.LinkProgram.over c.args.program.now) g.D.Dial.dialled
    c.args.path.now c.deref.result.now c.deref-2.result.now c.in_ok-reply.reply c.write_answer.result
    (g.S.Source.state c.args.source.now) (g.S.Source.state c.read_bytes.new.source) (g.K.Sink.state c.args.sink.now)
    (g.K.Sink.state c.write_answer.new.sink) (g.D.Dial.state c.args.dial.now) (g.D.Dial.state c.reply_at.new.dial)
    (rw (c.deref.ensures.value) c.in_ok-bytes.ensures.bytes) c.in_ok-bytes.ensures.cause c.in_ok-reply.ensures
    c.deref-2.ensures.value c.write_answer.ensures
