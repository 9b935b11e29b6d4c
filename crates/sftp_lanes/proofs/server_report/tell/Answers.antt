use Rattle.sftp_lanes.proofs.server_report.tell.Goals as goal

pub returns-in-Some-clause-facts : goal.returns-in-Some-clause-facts
returns-in-Some-clause-facts c = λ extensions.
    rw c.in-Some.is (c.facts_by-work.ensures.value extensions)
