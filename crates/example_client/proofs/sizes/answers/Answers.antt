use Rattle.std.proofs.Common.{◌≤◌, ◌∙◌, ℕ, drop, subst, sym}
use Rattle.example_client.proofs.Asking.{awaited_kept}
use Rattle.example_client.proofs.Sizing.{sizes_as, sizes_asked, sizes_heard}
use Rattle.example_client.proofs.sizes.answers.Goals as goal
use Rattle.example_client.proofs.sizes.answers.Goals.{
  else-asked-paths+in-Some+in_ok-hear,
  then-asked-paths+then-len-lt-MAX_UNDER_WAY+in_ok-call,
}

pub returns-in_err-call-clause-awaited : goal.returns-in_err-call-clause-awaited
returns-in_err-call-clause-awaited g c =
    awaited_kept c.loop.sftp.core c.ask.new.sftp.core c.loop.calls.items c.ask.ensures.kept
    c.loop.invariant.under_way.awaited

pub loop-preserved : goal.loop-preserved
loop-preserved g c = elim c.if-asked-paths.branch [
  | then-asked-paths+then-len-lt-MAX_UNDER_WAY+in_ok-call w ↦
      sizes_as g.L.LinkState.state _ _ _ _ _ _ _ _ _ _ w.asked-is w.sftp-is w.calls-is
      (λ i. (w.sizes-is i).items) (sizes_asked g.L.LinkState.state _ _ _ _ _ _ _ _ _ _ c.loop.invariant
      w.if-asked-paths.true
      w.index-paths-asked.is w.in_ok-call.ensures.asked w.in_ok-call.ensures.kept w.in_ok-call.ensures.usable
      w.push_back_reserved.ensures.items
      (subst (λ (n : ℕ). 64 ≤ n) (sym w.push_back_reserved.ensures.capacity) c.loop.invariant.room))
  | else-asked-paths+in-Some+in_ok-hear w ↦ sizes_as g.L.LinkState.state _ _ _ _ _ _ _ _ _ _ w.asked-is w.sftp-is
      w.calls-is
      (λ i. (w.sizes-is i).items) (sizes_heard g.L.LinkState.state _ _ _ _ _ _ _ _ _ _ _ c.loop.invariant
      w.in-Some.ensures.items
      (w.in_ok-hear.ensures.went (drop c.loop.asked c.args.paths.now)) w.in_ok-hear.ensures.awaited
      w.in_ok-hear.ensures.usable
      (subst (λ (n : ℕ). 64 ≤ n) (sym (w.in_ok-hear.ensures.room ∙ w.in-Some.ensures.capacity)) c.loop.invariant.room))
]
