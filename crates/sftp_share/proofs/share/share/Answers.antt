use Rattle.std.proofs.Common.{ℕ, sym, subst}
use Rattle.sftp_share.specs.Ended.{ShareEnds}
use Rattle.sftp_share.proofs.Exits.{answered, starved, unread}
use Rattle.sftp_share.proofs.share.share.Goals as goal

pub returns-in-Err : goal.returns-in-Err
returns-in-Err g c =
    subst (λ (n : ℕ). ShareEnds g.P.Out.LinkState.Service g.P.In.LinkState.Service (g.P.Pair.last c.args.pair.now)
    (g.P.Pair.last c.args.pair.now) n (g.S.Source.state c.args.source.now) (g.S.Source.state c.read_bytes.new.source)
    (g.K.Sink.state c.args.sink.now) (g.K.Sink.state c.args.sink.now)) (sym c.share_status.ensures)
    (unread g.P.Out.LinkState.Service g.P.In.LinkState.Service c.in-Err.why (g.P.Pair.last c.args.pair.now)
    (g.S.Source.state c.args.source.now) (g.S.Source.state c.read_bytes.new.source) (g.K.Sink.state c.args.sink.now)
    c.in-Err.ensures)

pub returns-in-Ok-reply_to : goal.returns-in-Ok-reply_to
returns-in-Ok-reply_to g c =
    let reply = c.in-Ok-reply_to in
    subst (λ (n : ℕ). ShareEnds g.P.Out.LinkState.Service g.P.In.LinkState.Service (g.P.Pair.last c.args.pair.now)
    (g.P.Pair.last c.reply_to.new.pair) n (g.S.Source.state c.args.source.now)
    (g.S.Source.state c.read_bytes.new.source)
    (g.K.Sink.state c.args.sink.now) (g.K.Sink.state c.write_answer-end.new.sink))
    (sym c.share_status-in-Ok-reply_to.ensures)
    (answered g.P.Out.LinkState.Service g.P.In.LinkState.Service (g.P.Pair.last c.args.pair.now)
    (g.P.Pair.last c.reply_to.new.pair)
    reply.field-0.differs c.deref.result.now c.deref-in-Ok-reply_to.result.now reply.field-0.printed.answered
    c.write_answer-end.result
    (g.S.Source.state c.args.source.now) (g.S.Source.state c.read_bytes.new.source) (g.K.Sink.state c.args.sink.now)
    (g.K.Sink.state c.write_answer-end.new.sink) (rw (c.deref.ensures.value) c.in-Ok.ensures.bytes)
    c.in-Ok.ensures.cause
    (rw (c.deref-in-Ok-reply_to.ensures.value) reply.ensures.right) c.write_answer-end.ensures)

pub returns : goal.returns
returns g c =
    subst (λ (n : ℕ). ShareEnds g.P.Out.LinkState.Service g.P.In.LinkState.Service (g.P.Pair.last c.args.pair.now)
    (g.P.Pair.last c.reply_to.new.pair) n (g.S.Source.state c.args.source.now)
    (g.S.Source.state c.read_bytes.new.source)
    (g.K.Sink.state c.args.sink.now) (g.K.Sink.state c.args.sink.now)) (sym c.share_status-in-Err-reply_to.ensures)
    (starved g.P.Out.LinkState.Service g.P.In.LinkState.Service (g.P.Pair.last c.args.pair.now)
    (g.P.Pair.last c.reply_to.new.pair)
    c.deref.result.now (g.S.Source.state c.args.source.now) (g.S.Source.state c.read_bytes.new.source)
    (g.K.Sink.state c.args.sink.now)
    (rw (c.deref.ensures.value) c.in-Ok.ensures.bytes) c.in-Ok.ensures.cause c.in-Err-reply_to.ensures.starved)
