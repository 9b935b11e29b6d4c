use Rattle.std.proofs.Common.{rules, ◌≡◌, [], sym, subst, true, false, Result, Ok, Err}
use Rattle.sftp_model.specs.declared.error.Error.{Error}
use Rattle.sftp_core.specs.Grant.{GrantValue}
use Rattle.plan_state.specs.Calls.{StepsByPlan, is_ended}
use Rattle.plan_state.specs.declared.poll.Poll.{Poll}
use Rattle.plan_state.specs.declared.poll.Poll.TheVariants.{Ready}
use Rattle.sftp_fs.specs.Grants.{grant_meaning}
use Rattle.sftp_fs.proofs.OpenedWrites.{ready_behind}
use Rattle.sftp_fs_read.specs.Reads.{no_reads}
use Rattle.sftp_fs_read.specs.WholeReads.{ReadAnswer, ReadOn}
use Rattle.sftp_fs_read.specs.declared.fs_read.Whole.TheVariants as whole
use Rattle.sftp_fs_read.proofs.OpenLaws.{open_begun, open_end, open_on}
use Rattle.sftp_fs_read.proofs.fs_read.open.Goals as goal

pub returns-then-not-is_ended : goal.returns-then-not-is_ended
returns-then-not-is_ended c =
    let on : is_ended c.step-told.new.self.stage ≡ false = search rules in
    subst (λ (r : ReadAnswer). ReadOn c.args.core.now c.step-told.new.core (whole.Opening c.args.call c.args.facts)
    (whole.Opening c.step-told.new.self c.args.facts) r) (sym c.unopened.ensures)
    (open_on c.args.facts c.args.core.now c.step-told.new.core c.args.call c.step-told.new.self c.step-told.result
    c.requires.under_way c.requires.fits c.step-told.ensures on)

pub decide-requires-clause-ready : goal.decide-requires-clause-ready
decide-requires-clause-ready c =
    let ended : is_ended c.step-told.new.self.stage ≡ true = search rules in
    let gave : c.step-told.result ≡ Ready (Ok c.in-Ready-Ok.grant) = search rules in
    let stepped : StepsByPlan grant_meaning c.args.core.now c.step-told.new.core c.args.call c.step-told.new.self
    (Ready (Ok c.in-Ready-Ok.grant)) =
    subst (λ (r : Poll (Result GrantValue Error)). StepsByPlan grant_meaning c.args.core.now c.step-told.new.core
    c.args.call c.step-told.new.self r) gave
    c.step-told.ensures in
    ready_behind c.args.core.now c.step-told.new.core c.cancel.new.core c.args.call c.step-told.new.self
    c.in-Ready-Ok.grant c.requires.ready
    c.requires.under_way stepped ended c.cancel.ensures.core

pub returns-in-Ready-Ok : goal.returns-in-Ready-Ok
returns-in-Ready-Ok c =
    let ended : is_ended c.step-told.new.self.stage ≡ true = search rules in
    let gave : c.step-told.result ≡ Ready (Ok c.in-Ready-Ok.grant) = search rules in
    let stepped : StepsByPlan grant_meaning c.args.core.now c.step-told.new.core c.args.call c.step-told.new.self
    (Ready (Ok c.in-Ready-Ok.grant)) =
    subst (λ (r : Poll (Result GrantValue Error)). StepsByPlan grant_meaning c.args.core.now c.step-told.new.core
    c.args.call c.step-told.new.self r) gave
    c.step-told.ensures in
    let fresh : c.new-reads.result ≡ no_reads c.args.facts c.in-Ready-Ok.grant.handle = search rules in
    let none : c.new-tickets.result.items ≡ [] = search rules in
    open_begun c.args.facts c.args.core.now c.step-told.new.core c.cancel.new.core c.decide.new.core c.args.call
    c.step-told.new.self
    c.in-Ready-Ok.grant c.new-reads.result c.new-tickets.result c.decide.result.1 c.decide.result.0 c.requires.under_way
    stepped ended
    c.cancel.ensures.core fresh none c.decide.ensures

pub returns-in-Ready-Err : goal.returns-in-Ready-Err
returns-in-Ready-Err c =
    let ended : is_ended c.step-told.new.self.stage ≡ true = search rules in
    let gave : c.step-told.result ≡ Ready (Err c.in-Ready-Err.e) = search rules in
    let stepped : StepsByPlan {V = GrantValue} grant_meaning c.args.core.now c.step-told.new.core c.args.call
    c.step-told.new.self (Ready (Err c.in-Ready-Err.e)) =
    subst (λ (r : Poll (Result GrantValue Error)). StepsByPlan grant_meaning c.args.core.now c.step-told.new.core
    c.args.call c.step-told.new.self r) gave
    c.step-told.ensures in
    open_end c.args.facts c.args.core.now c.step-told.new.core c.cancel.new.core c.args.call c.step-told.new.self
    c.in-Ready-Err.e stepped ended c.cancel.ensures.core
