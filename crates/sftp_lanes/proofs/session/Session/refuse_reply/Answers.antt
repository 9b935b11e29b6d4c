use Rattle.std.proofs.Common.{ap, refl}
use Rattle.sftp_core.specs.Core.{Core}
use Rattle.sftp_core.specs.Take.{fault_of}
use Rattle.session_driver.specs.declared.session.Phase.TheVariants.{Asking}
use Rattle.session_work.specs.declared.lanes.Lanes.{Lanes}
use Rattle.session_work.specs.Working.{past_of}
use Rattle.session_work.proofs.FaultLaws.{refused_so_far}
use Rattle.sftp_lanes.proofs.AskingLaws.{asking_first, asking_refuses}
use Rattle.sftp_lanes.proofs.Going.{refused_by}
use Rattle.sftp_lanes.proofs.Opening.{in_phase}
use Rattle.sftp_lanes.proofs.session.Session.refuse_reply.Goals as goal

pub unreachable-requires : goal.unreachable-requires
unreachable-requires c =
    let q = (in_phase c.self.inside.lanes c.self.inside.options c.self.inside.version c.self.inside.info
    c.self.inside.work c.self.inside.phase Asking c.self.invariant (rw (← c.self.view_is) at c.requires.asking)).0
    in
    asking_refuses c.self.inside.options q.0 _ c.args.read q.1.2 c.in-Ok.ensures.takes.only

pub invariant_of-self : goal.invariant_of-self
invariant_of-self c =
    let q = (in_phase c.self.inside.lanes c.self.inside.options c.self.inside.version c.self.inside.info
    c.self.inside.work c.self.inside.phase Asking c.self.invariant (rw (← c.self.view_is) at c.requires.asking)).0
    in
    refused_by c.self.inside.lanes c.self.inside.options c.self.inside.version c.self.inside.info c.self.inside.work
    c.take_frame.new.self c.self.inside.phase (fault_of c.in-Err.e) c.self.invariant c.take_frame.ensures.rest
    c.in-Err.ensures.refused.noted c.take_frame.ensures.room
    (λ s. refused_so_far s c.in-Err.e _ _ _ _ _ (ap (λ (k : Core). k.fault) q.1.2) c.in-Err.ensures.refused.error
    c.in-Err.ensures.refused.noted)

pub returns : goal.returns
returns c =
    let q = (in_phase c.self.inside.lanes c.self.inside.options c.self.inside.version c.self.inside.info
    c.self.inside.work c.self.inside.phase Asking c.self.invariant (rw (← c.self.view_is) at c.requires.asking)).0
    in
    rw (← c.self.view_is)
    (record {
      refused = asking_first c.self.inside.options q.0 _ _ (past_of c.self.inside.work) c.args.read
          c.in-Err.e q.1.2 q.1.3
          c.in-Err.ensures.refused.error;
      kept = record {
        rest = refl;
        past = c.in-Err.ensures.refused.noted;
        calls = ap (λ (w : Lanes). w.calls) c.take_frame.ensures.rest;
      };
    })
