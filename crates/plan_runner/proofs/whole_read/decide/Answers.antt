use Rattle.std.proofs.Common.{rules, ◌∙◌, ap, [], Some}
use Rattle.sftp_model.specs.declared.outcome.Outcome.TheVariants as outcome
use Rattle.plan_window.specs.Windows.{move_by}
use Rattle.plan_runner.proofs.WindowMoves.{ask_asks, ask_pends, ask_reads, ask_widens, done_widens, wait_asks, wait_first, wait_widens}
use Rattle.plan_runner.proofs.whole_read.decide.Goals as goal

pub returns-in_ok-asked-in-Ask : goal.returns-in_ok-asked-in-Ask
returns-in_ok-asked-in-Ask c bytes site = record {
  goes = ask_widens c.args.grant c.args.bound c.args.window
      c.asked.new.self c.args.turn.place c.in-Ask.offset c.in-Ask.len bytes site c.args.turn.facts
      (λ handle s. c.in_ok-offset.ensures.goes handle s ∙ ap (move_by handle s) c.in-Ask.is)
      c.in_ok-asked-in-Ask.ensures.is;
  left = search rules;
  sound = search rules;
  pends = ask_pends c.args.grant c.args.bound c.args.window
      c.asked.new.self c.args.turn.place c.in-Ask.offset c.in-Ask.len site c.in_ok-asked-in-Ask.ensures.is;
  asks = ask_asks c.args.grant c.args.bound c.args.window
      c.asked.new.self c.args.turn.place c.in-Ask.offset c.in-Ask.len site c.in_ok-asked-in-Ask.ensures.is;
  reads = ask_reads c.requires.range.handle c.requires.range.site c.args.grant c.args.bound c.args.window
      c.asked.new.self c.args.turn.place c.in-Ask.offset c.in-Ask.len c.args.turn.facts
      (c.in_ok-offset.ensures.goes c.requires.range.handle c.requires.range.site
      ∙ ap (move_by c.requires.range.handle c.requires.range.site) c.in-Ask.is) c.in_ok-asked-in-Ask.ensures.is;
}

pub returns-in-Wait : goal.returns-in-Wait
returns-in-Wait c bytes site = record {
  goes = wait_widens c.args.grant c.args.bound c.args.window c.args.turn.place
      c.in-Wait.place bytes site c.args.turn.facts (λ handle s. c.in_ok-offset.ensures.goes handle s
      ∙ ap (move_by handle s) c.in-Wait.is);
  left = search rules;
  sound = search rules;
  pends = search rules;
  asks = wait_asks c.args.grant c.args.bound c.args.window c.args.turn.place c.in-Wait.place site
      (wait_first [] (Some c.args.bound) c.args.window site c.args.turn.facts c.in-Wait.place
      (c.in_ok-offset.ensures.goes [] site ∙ ap (move_by [] site) c.in-Wait.is));
  reads = search rules;
}

pub returns-in-Whole : goal.returns-in-Whole
returns-in-Whole c bytes site = record {
  goes = done_widens c.args.grant c.args.bound c.args.window c.args.turn.place
      (outcome.Bytes c.in-Whole.bytes) bytes site c.args.turn.facts
      (λ handle s. c.in_ok-offset.ensures.goes handle s ∙ ap (move_by handle s) c.in-Whole.is);
  left = search rules;
  sound = search rules;
  pends = search rules;
  asks = search rules;
  reads = search rules;
}

pub returns-in-GivenUp : goal.returns-in-GivenUp
returns-in-GivenUp c bytes site = record {
  goes = done_widens c.args.grant c.args.bound c.args.window c.args.turn.place outcome.GivenUp bytes site
      c.args.turn.facts
      (λ handle s. c.in_ok-offset.ensures.goes handle s ∙ ap (move_by handle s) c.in-GivenUp.is);
  left = search rules;
  sound = search rules;
  pends = search rules;
  asks = search rules;
  reads = search rules;
}
