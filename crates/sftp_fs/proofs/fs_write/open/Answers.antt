use Rattle.std.proofs.Common.{rules, ◌≡◌, sym, subst, true, false, Result, Ok, Err}
use Rattle.sftp_model.specs.declared.error.Error.{Error}
use Rattle.sftp_core.specs.Grant.{GrantValue}
use Rattle.plan_state.specs.Calls.{StepsByPlan, is_ended}
use Rattle.plan_state.specs.declared.poll.Poll.{Poll}
use Rattle.plan_state.specs.declared.poll.Poll.TheVariants.{Ready}
use Rattle.sftp_fs.specs.Grants.{grant_meaning}
use Rattle.sftp_fs.specs.WholeWrites.{WriteAnswer, WroteOn}
use Rattle.sftp_fs.specs.declared.fs_write.Writing.TheVariants as writing
use Rattle.sftp_fs.proofs.WriteOpens.{open_end, open_on}
use Rattle.sftp_fs.proofs.OpenedWrites.{open_begun, ready_behind}
use Rattle.sftp_fs.proofs.fs_write.open.Goals as goal

pub returns-then-not-is_ended : goal.returns-then-not-is_ended
returns-then-not-is_ended c =
    let on : is_ended c.step-told.new.self.stage ≡ false = search rules in
    subst (λ (r : WriteAnswer). WroteOn c.args.facts c.args.core.now c.step-told.new.core
    (writing.Opening c.args.call c.args.content)
    (writing.Opening c.step-told.new.self c.args.content) r) (sym c.unended.ensures)
    (open_on c.args.facts c.args.core.now c.step-told.new.core c.args.call c.step-told.new.self c.args.content
    c.step-told.result
    c.requires.under_way c.step-told.ensures on)

pub begin-requires-clause-ready : goal.begin-requires-clause-ready
begin-requires-clause-ready c =
    let ended : is_ended c.step-told.new.self.stage ≡ true = search rules in
    let gave : c.step-told.result ≡ Ready (Ok c.in-Ready-Ok.grant) = search rules in
    let stepped : StepsByPlan grant_meaning c.args.core.now c.step-told.new.core c.args.call c.step-told.new.self
    (Ready (Ok c.in-Ready-Ok.grant)) =
    subst (λ (r : Poll (Result GrantValue Error)). StepsByPlan grant_meaning c.args.core.now c.step-told.new.core
    c.args.call c.step-told.new.self r) gave
    c.step-told.ensures in
    ready_behind c.args.core.now c.step-told.new.core c.cancel.new.core c.args.call c.step-told.new.self
    c.in-Ready-Ok.grant c.requires.ready
    c.requires.under_way stepped ended c.cancel.ensures.core

pub returns-in-Ready-Ok : goal.returns-in-Ready-Ok
returns-in-Ready-Ok c =
    let ended : is_ended c.step-told.new.self.stage ≡ true = search rules in
    let gave : c.step-told.result ≡ Ready (Ok c.in-Ready-Ok.grant) = search rules in
    let stepped : StepsByPlan grant_meaning c.args.core.now c.step-told.new.core c.args.call c.step-told.new.self
    (Ready (Ok c.in-Ready-Ok.grant)) =
    subst (λ (r : Poll (Result GrantValue Error)). StepsByPlan grant_meaning c.args.core.now c.step-told.new.core
    c.args.call c.step-told.new.self r) gave
    c.step-told.ensures in
    open_begun c.args.facts c.args.core.now c.step-told.new.core c.cancel.new.core c.begin.new.core c.args.call
    c.step-told.new.self
    c.args.content c.in-Ready-Ok.grant c.begin.result.1 c.begin.result.0 c.requires.under_way stepped ended
    c.cancel.ensures.core c.begin.ensures

pub returns-in-Ready-Err : goal.returns-in-Ready-Err
returns-in-Ready-Err c =
    let ended : is_ended c.step-told.new.self.stage ≡ true = search rules in
    let gave : c.step-told.result ≡ Ready (Err c.in-Ready-Err.e) = search rules in
    let stepped : StepsByPlan {V = GrantValue} grant_meaning c.args.core.now c.step-told.new.core c.args.call
    c.step-told.new.self (Ready (Err c.in-Ready-Err.e)) =
    subst (λ (r : Poll (Result GrantValue Error)). StepsByPlan grant_meaning c.args.core.now c.step-told.new.core
    c.args.call c.step-told.new.self r) gave
    c.step-told.ensures in
    open_end c.args.facts c.args.core.now c.step-told.new.core c.cancel.new.core c.args.call c.step-told.new.self
    c.args.content
    c.in-Ready-Err.e stepped ended c.cancel.ensures.core
