use Rattle.std.proofs.Common.{◌≡◌, ◌<◌, length, rules, true}
use Rattle.sftp_lanes.specs.Seen.{is_opening}
use Rattle.sftp_lanes.proofs.AddedLaws.{gone_keep, idle_gone}
use Rattle.sftp_lanes.proofs.session.Session.let_idle_go.Goals as goal

pub invariant_of-self : goal.invariant_of-self
invariant_of-self c =
    let lt : c.args.lane < length c.self.inside.lanes = search rules in
    let opens : is_opening c.self.inside.phase ≡ true = rw (← c.self.view_is) at c.requires.opens in
    gone_keep c.self.inside.lanes c.self.inside.options c.self.inside.version
    c.self.inside.info c.self.inside.work c.let_idle_go-gone.new.self c.self.inside.phase c.keep.new.phase c.args.lane
    c.let_idle_go-gone.result c.self.invariant opens lt (rw (← c.self.view_is) at c.requires.done)
    (rw (← c.self.view_is) at c.requires.held) c.let_idle_go-gone.ensures.intact c.keep.ensures.ok c.keep.ensures.err
    c.let_idle_go-gone.ensures.lets_go c.let_idle_go-gone.ensures.left

pub returns-clause-lets_go : goal.returns-clause-lets_go
returns-clause-lets_go c =
    let lt : c.args.lane < length c.self.inside.lanes = search rules in
    let opens : is_opening c.self.inside.phase ≡ true = rw (← c.self.view_is) at c.requires.opens in
    rw (← c.self.view_is) (idle_gone c.self.inside.lanes c.self.inside.options c.self.inside.version
    c.self.inside.info c.self.inside.work c.let_idle_go-gone.new.self c.self.inside.phase
    c.keep.new.phase c.args.lane c.keep.result c.let_idle_go-gone.result c.keep.ensures.answer c.self.invariant opens lt
    (rw (← c.self.view_is) at c.requires.done) (rw (← c.self.view_is) at c.requires.held) c.keep.ensures.ok
    c.let_idle_go-gone.ensures.lets_go)
