use Rattle.std.proofs.Common.{◌∷◌, ◌<◌, ◌≤◌, [], Ok, Err, length, rules, subst}
use Rattle.link_frames.proofs.Joining.{escaped}
use Rattle.plan_state.proofs.Keeping.{keeps_both}
use Rattle.sftp_client.specs.Walks.{ListsDir}
use Rattle.sftp_client.proofs.Walking.{walk_end, walk_first, walk_next, walk_out, walk_refused, walk_stops, walking}
use Rattle.sftp_client.proofs.sftp.Sftp.walk.Goals as goal

pub returns-in_err-walk_dir-clause-stops : goal.returns-in_err-walk_dir-clause-stops
returns-in_err-walk_dir-clause-stops g c =
    rw (escaped c.from_residual.result c.in_err-walk_dir.field-0.0 c.from_residual.ensures.1)
    (walk_refused g.L.LinkState.state c.args.path.now c.args.self.now c.walk_dir.new.self c.walk_dir.new.found.items
    c.in_err-walk_dir.field-0.0
    (subst (λ l. ListsDir g.L.LinkState.state (c.args.path.now ∷ []) (walking c.args.self.now l)
    (walking c.walk_dir.new.self c.walk_dir.new.found.items) (Err c.in_err-walk_dir.field-0.0))
    c.new-found.ensures.items c.in_err-walk_dir.ensures))

pub loop-at-init : goal.loop-at-init
loop-at-init g c =
    walk_first g.L.LinkState.state c.args.path.now c.args.self.now c.walk_dir.new.self c.walk_dir.new.found.items
    (subst (λ l. ListsDir g.L.LinkState.state (c.args.path.now ∷ []) (walking c.args.self.now l)
    (walking c.walk_dir.new.self c.walk_dir.new.found.items) (Ok tt)) c.new-found.ensures.items
    c.in_ok-walk_dir.ensures)

pub returns-then-at-len-clause-walks : goal.returns-then-at-len-clause-walks
returns-then-at-len-clause-walks g c =
    let all : length c.loop-at.found.items ≤ c.loop-at.at = search rules in
    let less : c.loop-at.at < 1000000 = search rules in
    walk_end g.L.LinkState.state c.args.path.now c.loop-at.at c.args.self.now c.loop-at.self c.loop-at.found.items
    c.loop-at.invariant all less

pub returns-in_err-walk_at-clause-stops : goal.returns-in_err-walk_at-clause-stops
returns-in_err-walk_at-clause-stops g c =
    rw (escaped c.from_residual-in_err-walk_at.result c.in_err-walk_at.field-0.0
    c.from_residual-in_err-walk_at.ensures.1)
    (walk_stops g.L.LinkState.state c.args.path.now c.loop-at.at c.args.self.now c.loop-at.self c.walk_at.new.self
    c.loop-at.found.items c.walk_at.new.found.items c.in_err-walk_at.field-0.0 c.loop-at.invariant
    c.in_err-walk_at.ensures)

pub returns-in_err-walk_at-clause-keeps : goal.returns-in_err-walk_at-clause-keeps
returns-in_err-walk_at-clause-keeps g c =
    keeps_both c.args.self.now.core c.loop-at.self.core c.walk_at.new.self.core c.loop-at.invariant.keeps
    c.in_err-walk_at.ensures.keeps

pub loop-at-preserved : goal.loop-at-preserved
loop-at-preserved g c =
    let less : c.loop-at.at < length c.loop-at.found.items = search rules in
    walk_next g.L.LinkState.state c.args.path.now c.loop-at.at c.args.self.now c.loop-at.self c.walk_at.new.self
    c.loop-at.found.items c.walk_at.new.found.items c.loop-at.invariant less c.in_ok-walk_at.ensures

pub returns-clause-stops : goal.returns-clause-stops
returns-clause-stops g c =
    walk_out g.L.LinkState.state c.args.path.now c.loop-at.at c.args.self.now c.loop-at.self c.loop-at.found.items
    c.loop-at.invariant
