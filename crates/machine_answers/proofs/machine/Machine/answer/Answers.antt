use Rattle.std.proofs.Common.{rules, ◌<◌, ◌^◌}
use Rattle.machine_answers.proofs.ReplyLaws.{answers_where, framed_where}
use Rattle.machine_answers.proofs.machine.Machine.answer.Goals as goal

pub returns-clause-answers : goal.returns-clause-answers
returns-clause-answers c = answers_where c.args.self.now c.args.request.now c.args.choice (λ a. a.reply) c.find.result
    c.requires.after_hello c.find.ensures.reply

pub returns-clause-fits : goal.returns-clause-fits
returns-clause-fits c =
    let code : c.args.choice.refuse < 2 ^ 32 = search rules in
    framed_where c.args.self.now c.args.request.now c.args.choice (λ a. a.reply) c.find.result
    c.find.ensures.consistent.fit code c.find.ensures.reply
