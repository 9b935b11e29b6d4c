use Rattle.std.proofs.Common.{rules, ℕ, subst, take}
use Rattle.std.specs.Prelude.{Err}
use Rattle.sftp_link.proofs.Telling.{put_from}
use Rattle.sftp_model.specs.declared.error.Error.TheVariants as error
use Rattle.sftp_client.specs.Incoming.{FillsPart}
use Rattle.sftp_client.proofs.Getting.{filled_more, filled_to_end}
use Rattle.sftp_client.proofs.incoming.fill.Goals as goal

pub returns-in-Ok-eq0 : goal.returns-in-Ok-eq0
returns-in-Ok-eq0 g c = record {
  fills = subst (λ (n : ℕ). FillsPart {T = Unit {0}} n (take c.args.filled.now c.args.room.now)
      (take c.loop-filled.filled (put_from c.loop-filled.room c.loop-filled.filled c.recv.new.room))
      (g.L.LinkState.state c.args.link.now) (g.L.LinkState.state c.recv.new.self) (Err error.LinkEnded))
      c.loop-filled.invariant.same
      (filled_to_end _ c.loop-filled.room c.recv.new.room c.loop-filled.filled c.loop-filled.invariant.within
      c.loop-filled-test.true c.loop-filled.invariant.so (rw (c.in-Ok-eq0.is, c.in-Ok-eq0.field-0-test) at
      c.recv.ensures));
  within = search rules;
}

pub loop-filled-preserved : goal.loop-filled-preserved
loop-filled-preserved g c = record {
  within = search rules;
  same = search rules;
  so = filled_more _ c.loop-filled.room c.recv.new.room c.loop-filled.filled c.in-Ok.n c.loop-filled.invariant.within
      c.in-Ok.ensures.within c.loop-filled.invariant.so (rw c.in-Ok.is at c.recv.ensures);
}
