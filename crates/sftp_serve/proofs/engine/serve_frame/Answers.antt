use Rattle.std.proofs.Common.{rules, ◌≡◌, ◌≤◌, length, Some, None}
use Rattle.ssh_encoding.specs.Writing.{string}
use Rattle.sftp_model.specs.Numbers.{MAX_BODY_LEN}
use Rattle.sftp_serve.specs.Serving.{IsFrame}
use Rattle.sftp_serve.specs.Stream.{answer_to_frame}
use Rattle.sftp_serve.proofs.Steps.{told_answered, told_half, told_starves, told_unfit}
use Rattle.sftp_serve.proofs.engine.serve_frame.Goals as goal

pub returns-in-Ok-send_all-clause-served : goal.returns-in-Ok-send_all-clause-served
returns-in-Ok-send_all-clause-served g c =
    let whole : IsFrame c.take_frame.new.reader = search rules in
    let framed : c.take_frame.new.reader.bytes ≡ string c.in-Some.body.now = search rules in
    let short : length c.in-Some.body.now ≤ MAX_BODY_LEN = search rules in
    let says : answer_to_frame c.args.server.now c.in-Some.body.now ≡ Some (c.deref.result.now, c.answer.new.self) =
    search rules in
    record {
      fresh = search rules;
      log = told_answered c.take_frame.new.reader c.in-Some.body.now c.deref.result.now
          (g.L.LinkState.state c.send_all.new.link).ended _ _ _ c.args.server.now c.answer.new.self whole framed short
          says c.in-Ok.ensures.took.log c.in-Ok-send_all.ensures.log;
      cause = search rules;
    }

pub returns-in-Ok-Some-clause-served : goal.returns-in-Ok-Some-clause-served
returns-in-Ok-Some-clause-served g c =
    let whole : IsFrame c.take_frame.new.reader = search rules in
    let framed : c.take_frame.new.reader.bytes ≡ string c.in-Some.body.now = search rules in
    let short : length c.in-Some.body.now ≤ MAX_BODY_LEN = search rules in
    let says : answer_to_frame c.args.server.now c.in-Some.body.now ≡ Some (c.deref.result.now, c.answer.new.self) =
    search rules in
    let half =
    told_half c.in-Err-send_all.e c.take_frame.new.reader c.in-Some.body.now c.deref.result.now
    (g.L.LinkState.state c.take_frame.new.link).ended _ _ _ _ c.args.server.now c.answer.new.self whole framed short
    says c.in-Err-send_all.ensures.end c.in-Ok.ensures.took.log c.in-Err-send_all.ensures.log in
    record { fresh = search rules; log = rw c.from.ensures half; cause = search rules }

pub returns-in-Ok-None-clause-served : goal.returns-in-Ok-None-clause-served
returns-in-Ok-None-clause-served g c =
    let whole : IsFrame c.take_frame.new.reader = search rules in
    let framed : c.take_frame.new.reader.bytes ≡ string c.in-Some.body.now = search rules in
    let short : length c.in-Some.body.now ≤ MAX_BODY_LEN = search rules in
    let unfit : answer_to_frame c.args.server.now c.in-Some.body.now ≡ None = search rules in
    record {
      fresh = search rules;
      log = told_unfit c.take_frame.new.reader c.in-Some.body.now _ _ _ c.args.server.now c.answer.new.self whole framed
          short unfit c.in-Ok.ensures.took.log;
      cause = search rules;
    }

pub returns-clause-served : goal.returns-clause-served
returns-clause-served g c =
    record {
      fresh = search rules;
      log = told_starves c.take_frame.new.reader (g.L.LinkState.state c.take_frame.new.link).ended _ _ c.args.server.now
          c.answer.new.self c.in-Ok.ensures.took.log;
      cause = search rules;
    }
