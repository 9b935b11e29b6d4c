use Rattle.std.proofs.Common.{[], refl, rules}
use Rattle.std.specs.Prelude.{None}
use Rattle.link_frames.proofs.Joining.{escaped}
use Rattle.sftp_client.proofs.FileCalling.{write_begun, write_path_called, write_path_no_id, write_path_refused}
use Rattle.sftp_client.proofs.sftp.Sftp.write_file.Goals as goal

pub returns-in_err-check_start : goal.returns-in_err-check_start
returns-in_err-check_start g c =
    rw (escaped c.from_residual.result c.in_err-check_start.field-0.0 c.from_residual.ensures.1)
    (write_path_no_id c.args.path.now c.args.content.now g.L.LinkState.state c.args.self.now
    c.in_err-check_start.field-0.0
    c.in_err-check_start.ensures c.requires)

pub returns-in_err-call : goal.returns-in_err-call
returns-in_err-call g c =
    rw (escaped c.from_residual-in_err-call.result c.in_err-call.field-0.0 c.from_residual-in_err-call.ensures.1)
    (write_path_refused c.args.path.now c.args.content.now g.L.LinkState.state c.args.self.now _ _
    c.in_err-call.field-0.0 c.self.view_is
    (rw (c.fs.ensures) at c.in_err-call.ensures) refl c.in_ok-check_start.ensures.usable)

pub finish_write-requires-clause-may : goal.finish_write-requires-clause-may
finish_write-requires-clause-may g c =
    record {
      opened = search rules;
      over = write_begun _ _ _ _ _ _ _ _
          (c.in_ok-call.ensures.starts (record { slots = []; directory = [] }) (λ place. None) (search rules));
      held = search rules;
    }

pub returns : goal.returns
returns g c =
    write_path_called c.args.path.now c.args.content.now g.L.LinkState.state c.args.self.now _ _ _
    c.in_ok-call.call c.finish_write.result c.in_ok-check_start.ensures.usable c.self.view_is
    (rw (c.fs.ensures) at c.in_ok-call.ensures) refl c.finish_write.ensures
