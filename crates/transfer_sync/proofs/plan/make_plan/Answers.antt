use Rattle.std.proofs.Common.{◌≡◌, ◌∙◌, Bool, ap, subst}
use Rattle.transfer_sync.specs.Plans.{IsPlan}
use Rattle.transfer_sync.specs.Rules.{rules_for}
use Rattle.transfer_sync.specs.declared.rules.Rules.{Rules}
use Rattle.transfer_sync.proofs.SyncLaws.{sync_of}
use Rattle.transfer_sync.proofs.plan.make_plan.Goals as goal

pub returns-in-Ok-clause-sync : goal.returns-in-Ok-clause-sync
returns-in-Ok-clause-sync c =
    let same : c.rules_for.result ≡ rules_for c.args.rules c.args.source.now.complete =
    c.rules_for.ensures ∙ ap (λ (b : Bool). rules_for c.args.rules b) c.is_complete.ensures in
    sync_of c.args.rules c.args.source.now c.args.target.now c.in-Ok.plan c.entries-source.ensures.listing
    c.entries-target.ensures.listing
    (subst (λ (r : Rules). IsPlan r c.args.source.now.entries c.args.target.now.entries c.in-Ok.plan) same
    c.in-Ok.ensures.plan)
