use Rattle.std.proofs.Common.{◌≡◌, rules, sym, subst, false, None, Some}
use Rattle.std.specs.Prelude.{◌||◌, IfOk}
use Rattle.sftp_model.specs.declared.outcome.Outcome.{Outcome}
use Rattle.sftp_model.specs.Answers.{is_end_of_file}
use Rattle.plan_model.specs.WindowPlans.{brings_content}
use Rattle.plan_window.specs.Windows.{Window, first_of}
use Rattle.plan_runner.specs.declared.next.Next.TheVariants as step
use Rattle.plan_runner.specs.declared.next.Running.TheVariants as running
use Rattle.plan_runner.specs.Runners.{RunsByPlan, after}
use Rattle.plan_runner.specs.Asking.{ReadsOn}
use Rattle.plan_runner.specs.Pending.{pends_after}
use Rattle.plan_runner.proofs.Fewer.{pends_if_ok}
use Rattle.plan_runner.proofs.WindowReplies.{refused_goes, replied_asks, replied_goes, replied_less, unanswered}
use Rattle.plan_runner.proofs.whole_read.window_replied.Goals as goal

pub returns-in_default : goal.returns-in_default
returns-in_default c bytes = let on = c.read_on.ensures bytes in record {
  goes = (let none : first_of c.args.window.waiting ≡ None = search rules in
      replied_goes c.args.grant c.args.bound c.args.window c.args.window c.args.reply c.args.turn.place bytes
      c.args.site.now
      c.args.turn.facts c.read_on.result (unanswered c.args.window c.args.reply none) on.goes);
  left = search rules;
  sound = search rules;
  pends = search rules;
  asks = search rules;
  reads = (let none : first_of c.args.window.waiting ≡ None = search rules in
      subst (λ (w : Window). IfOk c.read_on.result (ReadsOn c.args.turn.place w.waiting c.args.turn.facts))
      (unanswered c.args.window c.args.reply none) on.reads);
}

pub returns-then-not-is_absorbed : goal.returns-then-not-is_absorbed
returns-then-not-is_absorbed c bytes = record {
  goes = let first : first_of c.args.window.waiting ≡ Some c.in-Some.field-0 = search rules in
      let bad : (brings_content c.args.reply || is_end_of_file c.args.reply) ≡ false = search rules in
      subst (λ (o : Outcome). RunsByPlan (after (running.ReadingWhole c.args.grant c.args.bound c.args.window) bytes
      c.args.site.now c.args.turn.facts (Some c.args.reply)) c.args.turn.place bytes c.args.site.now c.args.turn.facts
      (step.Done o)) (sym c.refusal.ensures)
      (refused_goes c.args.grant c.args.bound c.args.window c.in-Some.field-0 c.args.reply c.args.turn.place bytes
      c.args.site.now c.args.turn.facts first c.requires.sound.unrefused bad);
  left = search rules;
  sound = search rules;
  pends = search rules;
  asks = search rules;
  reads = search rules;
}

pub returns : goal.returns
returns c bytes = let on = c.read_on-2.ensures bytes in record {
  goes = replied_goes c.args.grant c.args.bound c.args.window c.replied.new.self c.args.reply
      c.args.turn.place bytes c.args.site.now c.args.turn.facts c.read_on-2.result c.replied.ensures.is
      on.goes;
  left = search rules;
  sound = search rules;
  pends = pends_if_ok (pends_after (running.ReadingWhole c.args.grant c.args.bound c.replied.new.self)
      c.args.site.now None) (pends_after (running.ReadingWhole c.args.grant c.args.bound c.args.window) c.args.site.now
      (Some c.args.reply)) c.args.turn.place c.args.site.now c.read_on-2.result
      (replied_less c.args.grant c.args.bound c.args.window c.replied.new.self c.args.reply c.args.site.now
      c.replied.ensures.is) on.pends;
  asks = replied_asks c.args.grant c.args.turn.place c.args.window c.replied.new.self c.args.reply
      c.args.site.now c.read_on-2.result c.replied.ensures.is on.asks;
  reads = subst (λ (w : Window). IfOk c.read_on-2.result
      (ReadsOn c.args.turn.place w.waiting c.args.turn.facts)) c.replied.ensures.is on.reads;
}
