use Rattle.std.proofs.Common.{refl, subst, inl, inr}
use Rattle.sftp_core.specs.Core.{Core}
use Rattle.sftp_client.specs.Sessions.{with_core}
use Rattle.transfer_pool.specs.declared.copier.CopierStep.TheVariants as copier_step
use Rattle.transfer_pool.specs.Copies.{CopierSteps, StepsCopies, Working}
use Rattle.transfer_pool.proofs.WorkLaws.{stepped_on, turned_off, turned_on}
use Rattle.transfer_pool.proofs.copier.Copier.advance.Goals as goal

pub returns-then-still-len : goal.returns-then-still-len
returns-then-still-len g c =
    let old : Working g.row.L.Denot g.row.F.Denot = record {
      session = c.args.sftp.now;
      running =
          c.args.self.now.running;
    } in
    let new : Working g.row.L.Denot g.row.F.Denot = record {
      session = with_core c.args.sftp.now c.step.new.core;
      running = c.step.new.self.running;
    } in
    let steps = subst (λ (x : Core). CopierSteps g.F.LocalFile.done g.F.LocalFile.history x c.args.self.now.running
    c.step.new.core c.step.new.self.running copier_step.Waits) c.core.ensures.value c.in-Waits.ensures.did in
    let to : StepsCopies g.F.LocalFile.done g.F.LocalFile.history old new copier_step.Waits =
    record { steps = steps; rest = refl } in
    stepped_on g.L.LinkState.state g.F.LocalFile.done g.F.LocalFile.history old new c.requires.going
    c.in-Waits.ensures.together (inl to)

pub returns-in-Moved : goal.returns-in-Moved
returns-in-Moved g c =
    let old : Working g.row.L.Denot g.row.F.Denot = record {
      session = c.args.sftp.now;
      running =
          c.args.self.now.running;
    } in
    let new : Working g.row.L.Denot g.row.F.Denot = record {
      session = with_core c.args.sftp.now c.step.new.core;
      running = c.step.new.self.running;
    } in
    let steps = subst (λ (x : Core). CopierSteps g.F.LocalFile.done g.F.LocalFile.history x c.args.self.now.running
    c.step.new.core c.step.new.self.running copier_step.Moved) c.core.ensures.value c.in-Moved.ensures.did in
    let to : StepsCopies g.F.LocalFile.done g.F.LocalFile.history old new copier_step.Moved =
    record { steps = steps; rest = refl } in
    stepped_on g.L.LinkState.state g.F.LocalFile.done g.F.LocalFile.history old new c.requires.going
    c.in-Moved.ensures.together (inr to)

pub returns-in-Ok : goal.returns-in-Ok
returns-in-Ok g c =
    let old : Working g.row.L.Denot g.row.F.Denot = record {
      session = c.args.sftp.now;
      running =
          c.args.self.now.running;
    } in
    let mid : Working g.row.L.Denot g.row.F.Denot = record {
      session = with_core c.args.sftp.now c.step.new.core;
      running = c.step.new.self.running;
    } in
    let new : Working g.row.L.Denot g.row.F.Denot = record {
      session = c.turn_on.new.sftp;
      running =
          c.step.new.self.running;
    } in
    let steps = subst (λ (x : Core). CopierSteps g.F.LocalFile.done g.F.LocalFile.history x c.args.self.now.running
    c.step.new.core c.step.new.self.running copier_step.Waits) c.core.ensures.value c.in-Waits.ensures.did in
    let to : StepsCopies g.F.LocalFile.done g.F.LocalFile.history old mid copier_step.Waits =
    record { steps = steps; rest = refl } in
    turned_on g.L.LinkState.state g.F.LocalFile.done g.F.LocalFile.history old mid new c.turn_on.ensures.0
    c.in-Waits.ensures.together to c.turn_on.ensures.1 refl

pub returns-in-Err : goal.returns-in-Err
returns-in-Err g c =
    let old : Working g.row.L.Denot g.row.F.Denot = record {
      session = c.args.sftp.now;
      running =
          c.args.self.now.running;
    } in
    let mid : Working g.row.L.Denot g.row.F.Denot = record {
      session = with_core c.args.sftp.now c.step.new.core;
      running = c.step.new.self.running;
    } in
    let new : Working g.row.L.Denot g.row.F.Denot = record {
      session = c.turn_on.new.sftp;
      running =
          c.step.new.self.running;
    } in
    let steps = subst (λ (x : Core). CopierSteps g.F.LocalFile.done g.F.LocalFile.history x c.args.self.now.running
    c.step.new.core c.step.new.self.running copier_step.Waits) c.core.ensures.value c.in-Waits.ensures.did in
    let to : StepsCopies g.F.LocalFile.done g.F.LocalFile.history old mid copier_step.Waits =
    record { steps = steps; rest = refl } in
    turned_off g.L.LinkState.state g.F.LocalFile.done g.F.LocalFile.history old mid new c.turn_on.ensures.0 c.in-Err.e
    c.in-Waits.ensures.together to c.turn_on.ensures.1 refl
