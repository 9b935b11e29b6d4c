use Rattle.std.proofs.Common.{rules, ◌≡◌, ap, sym, ◌∙◌, subst, None, refl, true, IsTrue, IsSome}
use Rattle.sftp_core.specs.Core.{record_at, is_ticket, reply_in}
use Rattle.plan_state.specs.declared.stage.Stage.{Stage}
use Rattle.plan_state.specs.declared.stage.Stage.TheVariants.{Asked, Came, Ended, Unsent}
use Rattle.plan_state.specs.Runners.{GoesBehind}
use Rattle.plan_state.specs.Calls.{CallValue, CanContinue, LeavesCall, MovesByPlan, grant_brought}
use Rattle.plan_state.specs.Told.{reply_of}
use Rattle.plan_state.proofs.Going.{GoesOn, asked_polled, came_polled, short_then, unsent_polled}
use Rattle.plan_state.proofs.Grants.{asked_brings, ended_brings, polled_brings}
use Rattle.plan_state.proofs.Keeping.{keeps_same}
use Rattle.plan_state.proofs.OthersKept.{ended_idle, grants_polled, idle_others, polled_others}
use Rattle.plan_state.proofs.call.PendingCall.step.Goals as goal

pub returns-in-Unsent : goal.returns-in-Unsent
returns-in-Unsent g c =
    let m : c.self.inside.runner ≡ c.args.self.now.runner = ap (λ (x : CallValue g.row.M.Denot). x.runner)
    c.self.view_is in
    let is : c.args.self.now.stage ≡ Unsent c.in-Unsent.asking =
    ap (λ (x : CallValue g.row.M.Denot). x.stage) (sym c.self.view_is) ∙ (sym c.take.ensures.was ∙ c.in-Unsent.is)
    in
    let left = c.send.ensures.leaves c.args.self.now.stage (ap (λ (x : Stage). grant_brought c.args.core.now x) is) in
    record {
      polled = λ w plan answers left tells.
          unsent_polled g.M.PlanRunner.meaning w plan answers c.args.core.now c.send.new.core c.args.self.now
          c.send.new.self c.send.result c.in-Unsent.asking is left
          (λ b. c.send.ensures.went w plan answers (subst (λ x. GoesBehind g.M.PlanRunner.meaning w plan answers
          c.in-Unsent.asking x) (sym m) b));
      held = left.held;
      over = left.over;
      awaits = left.awaits;
      holds = left.holds;
      brings = left.brings;
      grants = left.keeps.grants;
      others = left.others;
      stays = search rules;
      memory = short_then c.send.result (g.M.PlanRunner.meaning.again ≡ true)
          ((g.M.PlanRunner.meaning.again ≡ true) × CanContinue c.args.core.now c.args.self.now.stage)
          (λ again. (again, subst (λ (x : Stage). CanContinue c.args.core.now x) (sym is) tt)) left.memory;
    }

pub returns-in-Came : goal.returns-in-Came
returns-in-Came g c =
    let m : c.self.inside.runner ≡ c.args.self.now.runner = ap (λ (x : CallValue g.row.M.Denot). x.runner)
    c.self.view_is in
    let is : c.args.self.now.stage ≡ Came c.in-Came.told = ap (λ (x : CallValue g.row.M.Denot). x.stage)
    (sym c.self.view_is) ∙ (sym c.take.ensures.was ∙ c.in-Came.is) in
    let left : LeavesCall g.M.PlanRunner.meaning c.args.core.now c.go_on.new.core c.args.self.now.stage c.go_on.new.self
    c.go_on.result =
    subst (λ (x : Stage). LeavesCall g.M.PlanRunner.meaning c.args.core.now c.go_on.new.core x c.go_on.new.self
    c.go_on.result)
    (sym is) c.go_on.ensures.leaves in
    record {
      polled = λ w plan answers left tells.
          came_polled g.M.PlanRunner.meaning w plan answers c.args.core.now c.go_on.new.core c.args.self.now
          c.go_on.new.self c.go_on.result c.in-Came.told is left tells
          (subst (λ x. GoesOn g.M.PlanRunner.meaning w plan answers x (reply_of c.in-Came.told)
          (MovesByPlan g.M.PlanRunner.meaning w plan answers c.args.core.now c.go_on.new.core c.go_on.new.self
          c.go_on.result)) m
          (c.go_on.ensures.went w plan answers));
      held = left.held;
      over = left.over;
      awaits = left.awaits;
      holds = left.holds;
      brings = left.brings;
      grants = left.keeps.grants;
      others = left.others;
      stays = search rules;
      memory = short_then c.go_on.result (g.M.PlanRunner.meaning.again ≡ true)
          ((g.M.PlanRunner.meaning.again ≡ true) × CanContinue c.args.core.now c.args.self.now.stage)
          (λ again. (again, subst (λ (x : Stage). CanContinue c.args.core.now x) (sym is) tt)) left.memory;
    }

pub returns-in-Ok : goal.returns-in-Ok
returns-in-Ok g c =
    let m : c.self.inside.runner ≡ c.args.self.now.runner = ap (λ (x : CallValue g.row.M.Denot). x.runner)
    c.self.view_is in
    let is : c.args.self.now.stage ≡ Asked c.in-Asked.ticket =
    ap (λ (x : CallValue g.row.M.Denot). x.stage) (sym c.self.view_is) ∙ (sym c.take.ensures.was ∙ c.in-Asked.is) in
    let counted : IsTrue (is_ticket (record_at c.args.core.now c.in-Asked.ticket)) = search rules in
    record {
      polled = λ w plan answers left tells.
          asked_polled g.M.PlanRunner.meaning w plan answers c.args.core.now c.take_told.new.core
          c.go_on-in-Ok.new.core c.args.self.now c.go_on-in-Ok.new.self c.go_on-in-Ok.result c.in-Asked.ticket
          (reply_of c.in-Ok.told) is
          c.take_told.ensures.core c.in-Ok.ensures.came.taken left tells
          (subst (λ x. GoesOn g.M.PlanRunner.meaning w plan answers x (reply_of c.in-Ok.told)
          (MovesByPlan g.M.PlanRunner.meaning w plan answers c.take_told.new.core c.go_on-in-Ok.new.core
          c.go_on-in-Ok.new.self c.go_on-in-Ok.result)) m
          (c.go_on-in-Ok.ensures.went w plan answers));
      held = c.go_on-in-Ok.ensures.leaves.held;
      over = c.go_on-in-Ok.ensures.leaves.over;
      awaits = c.go_on-in-Ok.ensures.leaves.awaits;
      holds = c.go_on-in-Ok.ensures.leaves.holds;
      brings = polled_brings g.M.PlanRunner.meaning c.args.core.now c.take_told.new.core c.go_on-in-Ok.new.core
          c.in-Asked.ticket c.in-Ok.told
          c.args.self.now.stage c.go_on-in-Ok.new.self.stage c.go_on-in-Ok.result is c.in-Ok.ensures.came
          c.go_on-in-Ok.ensures.leaves.brings;
      grants = grants_polled c.args.core.now c.take_told.new.core c.go_on-in-Ok.new.core c.in-Asked.ticket counted
          c.take_told.ensures.core c.go_on-in-Ok.ensures.leaves.keeps;
      others = polled_others c.args.core.now c.take_told.new.core c.go_on-in-Ok.new.core c.in-Asked.ticket
          c.args.self.now.stage
          (Came c.in-Ok.told) c.go_on-in-Ok.new.self.stage is c.take_told.ensures.core (λ n same. cc)
          c.go_on-in-Ok.ensures.leaves.others;
      stays = search rules;
      memory = short_then c.go_on-in-Ok.result (g.M.PlanRunner.meaning.again ≡ true)
          ((g.M.PlanRunner.meaning.again ≡ true) × CanContinue c.args.core.now c.args.self.now.stage)
          (λ again. (
            again,
            subst (λ (x : Stage). CanContinue c.args.core.now x) (sym is)
                (subst IsSome (sym c.in-Ok.ensures.came.taken) refl),
          )) c.go_on-in-Ok.ensures.leaves.memory;
    }

pub returns-in-Err-Failed : goal.returns-in-Err-Failed
returns-in-Err-Failed g c =
    let is : c.args.self.now.stage ≡ Asked c.in-Asked.ticket =
    ap (λ (x : CallValue g.row.M.Denot). x.stage) (sym c.self.view_is) ∙ (sym c.take.ensures.was ∙ c.in-Asked.is) in
    let counted : IsTrue (is_ticket (record_at c.args.core.now c.in-Asked.ticket)) = search rules in
    let none : reply_in (record_at c.args.core.now c.in-Asked.ticket) ≡ None = search rules in
    record {
      polled = search rules;
      held = search rules;
      over = search rules;
      awaits = tt;
      holds = search rules;
      brings = ended_brings c.take_told.new.core _ (search rules)
          ∙ sym (asked_brings c.args.core.now c.args.self.now.stage c.in-Asked.ticket is none);
      grants = grants_polled c.args.core.now c.take_told.new.core c.take_told.new.core c.in-Asked.ticket counted
          c.take_told.ensures.core (keeps_same c.take_told.new.core);
      others = polled_others c.args.core.now c.take_told.new.core c.take_told.new.core c.in-Asked.ticket
          c.args.self.now.stage Ended _ is
          c.take_told.ensures.core (λ n same. cc) (idle_others c.take_told.new.core c.take_told.new.core Ended _
          (keeps_same c.take_told.new.core) (ended_idle _ (search rules)));
      stays = search rules;
      memory = tt;
    }
