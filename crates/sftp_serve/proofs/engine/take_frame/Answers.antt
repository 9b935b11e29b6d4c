use Rattle.std.proofs.Common.{rules}
use Rattle.sftp_serve.specs.Stream.{IsUnfinished}
use Rattle.sftp_serve.proofs.Steps.{part_of, told_end, told_grows, told_stops}
use Rattle.sftp_serve.proofs.engine.take_frame.Goals as goal

pub loop-reader-preserved : goal.loop-reader-preserved
loop-reader-preserved g c =
    let part : IsUnfinished c.loop-reader.reader.bytes = part_of c.loop-reader.reader c.need.result
    c.loop-reader.invariant.good c.need.ensures.need (search rules) in
    record {
      good = search rules;
      begun = search rules;
      room = search rules;
      faults = search rules;
      goes = told_grows c.loop-reader.reader c.take_some.new.reader (g.L.LinkState.state c.take_some.new.link).ended _ _
          _ part c.loop-reader.invariant.goes (search rules);
    }

pub returns-in-Ok-false-clause-took : goal.returns-in-Ok-false-clause-took
returns-in-Ok-false-clause-took g c =
    let part : IsUnfinished c.loop-reader.reader.bytes = part_of c.loop-reader.reader c.need.result
    c.loop-reader.invariant.good c.need.ensures.need (search rules) in
    record {
      whole = search rules;
      log = told_end c.loop-reader.begun c.ended.result c.loop-reader.reader c.take_some.new.reader _ _ _ _
          c.ended.ensures c.loop-reader.invariant.begun part (search rules) (search rules) c.loop-reader.invariant.goes
          (search rules);
      cause = search rules;
    }

pub returns-in-Err-clause-took : goal.returns-in-Err-clause-took
returns-in-Err-clause-took g c =
    let part : IsUnfinished c.loop-reader.reader.bytes = part_of c.loop-reader.reader c.need.result
    c.loop-reader.invariant.good c.need.ensures.need (search rules) in
    record {
      whole = search rules;
      log = told_stops c.in-Err.e c.loop-reader.reader c.take_some.new.reader _ _ _ _ part c.loop-reader.invariant.goes
          c.in-Err.ensures.log;
      cause = search rules;
    }
