use Rattle.std.proofs.Common.{rules, ◌≡◌, Some, subst}
use Rattle.plan_state.proofs.Closing.{closing_ticket}
use Rattle.transfer_copy.specs.declared.holding.FileHold.{FileHold}
use Rattle.transfer_copy.specs.Holdings.{IsFileHeld}
use Rattle.transfer_copy.proofs.holding.drop_file.Goals as goal

pub abandon-requires-in-Some : goal.abandon-requires-in-Some
abandon-requires-in-Some c =
    let gives : c.release.result ≡ Some c.in-Some.ticket = search rules in
    let one = subst (λ (f : FileHold). IsFileHeld c.args.core.now f) c.in-Opened.is c.requires in
    closing_ticket c.args.core.now c.release.new.self c.in-Opened.grant c.in-Some.ticket one c.release.ensures.after
    c.release.ensures.answer gives
