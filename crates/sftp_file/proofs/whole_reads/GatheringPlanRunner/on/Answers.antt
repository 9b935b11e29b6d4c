use Rattle.std.proofs.Common.{◌≡◌, ◌∙◌, ap, subst, Option, Some, Ok, rules}
use Rattle.sftp_model.specs.declared.reply.Reply.{Reply}
use Rattle.sftp_model.specs.declared.reply.Reply.TheVariants as reply
use Rattle.plan_state.specs.declared.submission.Asking.{Asking}
use Rattle.plan_state.specs.Told.{reply_of}
use Rattle.sftp_file.specs.Gathers.{IsNextRead, after_data, next_read}
use Rattle.sftp_file.proofs.GatherLaws.{MovesAs, gathers_behind, gathers_refused}
use Rattle.sftp_file.proofs.whole_reads.GatheringPlanRunner.on.Goals as goal

pub returns-in-Ok-Some-clause-follows : goal.returns-in-Ok-Some-clause-follows
returns-in-Ok-Some-clause-follows c = λ w answers knows came.
    let stands : c.gather.new.self ≡ after_data c.args.self.now c.in-Reply-Content.bytes = search rules in
    let told : reply_of c.args.told ≡ reply.Content c.in-Reply-Content.bytes = search rules in
    let given : c.in-Ok-Some.field-0 ≡ Some c.in-Ok-Some.asking = search rules in
    gathers_behind c.args.self.now c.gather.new.self c.next.new.self c.in-Reply-Content.bytes c.in-Ok-Some.asking w
    answers
    stands (subst (λ (o : Option Asking). IsNextRead c.gather.new.self c.next.new.self (Ok o)) given
    c.in-Ok-Some.ensures.is)
    (subst (λ (o : Option Asking). MovesAs c.gather.new.self answers (next_read c.gather.new.self (Ok o))) given
    (c.in-Ok-Some.ensures.goes answers)) knows (came ∙ ap (λ (r : Reply). Some r) told)

pub returns-in-Reply-Content-clause-follows : goal.returns-in-Reply-Content-clause-follows
returns-in-Reply-Content-clause-follows c = λ w answers knows came.
    let stands : c.gather.new.self ≡ after_data c.args.self.now c.in-Reply-Content.bytes = search rules in
    let told : reply_of c.args.told ≡ reply.Content c.in-Reply-Content.bytes = search rules in
    gathers_refused c.args.self.now c.gather.new.self c.next.new.self c.in-Reply-Content.bytes c.in-Err-next.why answers
    stands c.in-Err-next.ensures.is (c.in-Err-next.ensures.goes answers) knows
    (came ∙ ap (λ (r : Reply). Some r) told)
