use Rattle.std.proofs.Common.{◌≡◌, ◌∙◌, length, refl, rules, sym}
use Rattle.session_driver.specs.declared.session.Phase.TheVariants.{Fresh}
use Rattle.session_work.specs.declared.lanes.Lanes.{Lanes}
use Rattle.session_work.proofs.ReportLaws.{leaves_intact}
use Rattle.sftp_lanes.proofs.Going.{fails_by, left_fails}
use Rattle.sftp_lanes.proofs.Opening.{in_phase}
use Rattle.sftp_lanes.proofs.session.Session.hand_hello.Goals as goal

pub returns-in-Ok-clause-hands : goal.returns-in-Ok-clause-hands
returns-in-Ok-clause-hands c =
    let f = in_phase c.self.inside.lanes c.self.inside.options c.self.inside.version c.self.inside.info
    c.self.inside.work c.self.inside.phase Fresh c.self.invariant (rw (← c.self.view_is) at c.requires.fresh) in
    rw (← c.self.view_is) (record { rest = refl; untold = f.0.1; greeted = refl; calls = refl })

pub invariant_of-self-in-Err : goal.invariant_of-self-in-Err
invariant_of-self-in-Err c =
    let same : c.hand_out.new.self.fault ≡ c.self.inside.work.core.fault = search rules in
    let now : Lanes = record c.self.inside.work { core = c.hand_out.new.self } in
    fails_by c.self.inside.lanes c.self.inside.options c.self.inside.version
    c.self.inside.info c.self.inside.work now c.self.inside.phase c.self.invariant
    (leaves_intact (length c.self.inside.lanes) c.self.inside.work now c.self.invariant.intact
    (record { kept = refl; past = λ lane. refl }) (λ none. c.self.invariant.intact.room (sym same ∙ none)))
    (left_fails c.self.inside.work now (record { past = refl; fault = same; reports = refl; calls = refl }))

pub returns-in-Ok-clause-frames : goal.returns-in-Ok-clause-frames
returns-in-Ok-clause-frames c = rw (← c.self.view_is) c.in-Ok.ensures.frames
