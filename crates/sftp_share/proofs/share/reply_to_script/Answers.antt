use Rattle.sftp_share.proofs.Shares.{is_shared, on_err, run_back, trace_none}
use Rattle.sftp_share.proofs.share.reply_to_script.Goals as goal

pub text_of_run-requires-clause-hello : goal.text_of_run-requires-clause-hello
text_of_run-requires-clause-hello g c =
    trace_none c.args.script.now.lanes c.args.script.now.options c.in-Ok.report c.in-Ok.ensures.ok.runs

pub returns-in_ok-differs-in-Ok-clause-right : goal.returns-in_ok-differs-in-Ok-clause-right
returns-in_ok-differs-in-Ok-clause-right g c =
    is_shared (g.P.Pair.last c.run_lanes.new.pair) c.args.script.now c.in-Ok.report c.in_ok-differs-in-Ok.differs
    c.in_ok-differs-in-Ok.text.items c.in-Ok.ensures.ok c.in_ok-differs-in-Ok.ensures.0 c.in_ok-differs-in-Ok.ensures.1

pub returns-in_err-differs-in-Ok-clause-starved : goal.returns-in_err-differs-in-Ok-clause-starved
returns-in_err-differs-in-Ok-clause-starved g c =
    on_err _ _ (run_back (g.P.Pair.last c.args.pair.now) (g.P.Pair.last c.run_lanes.new.pair) c.args.script.now
    c.in-Ok.report
    c.in-Ok.ensures.ok)
