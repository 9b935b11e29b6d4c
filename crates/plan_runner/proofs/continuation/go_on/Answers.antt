use Rattle.std.proofs.Common.{rules}
use Rattle.plan_runner.proofs.continuation.go_on.Goals as goal

pub returns-in-Reading : goal.returns-in-Reading
returns-in-Reading c = record {
  goes = search rules;
  left = search rules;
  sound = (c.read_replied.ensures.sound c.args.turn.facts, tt);
  pends = search rules;
  asks = search rules;
  by = search rules;
  err = search rules;
}

pub returns-in-Copying : goal.returns-in-Copying
returns-in-Copying c = record {
  goes = search rules;
  left = search rules;
  sound = (c.copy_replied.ensures.sound c.args.turn.facts, tt);
  pends = search rules;
  asks = search rules;
  by = search rules;
  err = search rules;
}

pub returns-in-Sending : goal.returns-in-Sending
returns-in-Sending c = record {
  goes = search rules;
  left = search rules;
  sound = (c.write_replied.ensures.sound c.args.turn.facts, tt);
  pends = search rules;
  asks = search rules;
  by = search rules;
  err = search rules;
}

pub returns-in-OpeningDirectory : goal.returns-in-OpeningDirectory
returns-in-OpeningDirectory c = record {
  goes = rw (c.in-OpeningDirectory.is, c.in-Some.is) (c.directory_opened.ensures.goes c.args.bytes.now);
  left = rw (c.in-OpeningDirectory.is, c.in-Some.is) (c.directory_opened.ensures.left c.args.bytes.now);
  sound = c.directory_opened.ensures.sound c.args.bytes.now;
  pends = search rules;
  asks = search rules;
  by = search rules;
  err = search rules;
}

pub returns-in-Gathering : goal.returns-in-Gathering
returns-in-Gathering c = let on = c.content_replied.ensures c.args.bytes.now in record {
  goes = rw (c.in-Gathering.is, c.in-Some.is) on.goes;
  left = rw (c.in-Gathering.is, c.in-Some.is) on.left;
  sound = on.sound;
  pends = search rules;
  asks = search rules;
  by = search rules;
  err = search rules;
}

pub returns-in-Listing : goal.returns-in-Listing
returns-in-Listing c = record {
  goes = rw (c.in-Listing.is, c.in-Some.is) (c.names_replied.ensures.goes c.args.bytes.now);
  left = rw (c.in-Listing.is, c.in-Some.is) (c.names_replied.ensures.left c.args.bytes.now);
  sound = search rules;
  pends = search rules;
  asks = search rules;
  by = search rules;
  err = search rules;
}

pub returns-in-Flushing : goal.returns-in-Flushing
returns-in-Flushing c = record {
  goes = rw (c.in-Flushing.is, c.in-Some.is) (c.flush_replied.ensures.goes c.args.bytes.now);
  left = rw (c.in-Flushing.is, c.in-Some.is) (c.flush_replied.ensures.left c.args.bytes.now);
  sound = c.flush_replied.ensures.sound c.args.bytes.now;
  pends = search rules;
  asks = search rules;
  by = search rules;
  err = search rules;
}

pub returns-in_ok-filled_replied-in-FillingBuffer : goal.returns-in_ok-filled_replied-in-FillingBuffer
returns-in_ok-filled_replied-in-FillingBuffer c = record {
  goes = search rules;
  left = search rules;
  sound = (c.filled_replied.ensures.sound c.args.turn.facts, tt);
  pends = search rules;
  asks = search rules;
  by = search rules;
  err = search rules;
}

pub returns-in-OpeningToRead : goal.returns-in-OpeningToRead
returns-in-OpeningToRead c = let on = c.read_opened.ensures c.args.bytes.now in record {
  goes = rw (c.in-OpeningToRead.is, c.in-Some.is) on.goes;
  left = rw (c.in-OpeningToRead.is, c.in-Some.is) on.left;
  sound = on.sound;
  pends = search rules;
  asks = search rules;
  by = search rules;
  err = search rules;
}

pub returns-in-ReadingWhole : goal.returns-in-ReadingWhole
returns-in-ReadingWhole c = let on = c.window_replied.ensures c.args.bytes.now in record {
  goes = rw (c.in-ReadingWhole.is, c.in-Some.is) on.goes;
  left = rw (c.in-ReadingWhole.is, c.in-Some.is) on.left;
  sound = on.sound;
  pends = search rules;
  asks = search rules;
  by = search rules;
  err = search rules;
}
