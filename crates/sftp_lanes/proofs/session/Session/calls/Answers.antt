use Rattle.sftp_lanes.proofs.session.Session.calls.Goals as goal

pub returns-clause-each : goal.returns-clause-each
returns-clause-each c = rw (← c.self.view_is) c.self.invariant.calls
