use Rattle.std.proofs.Common.{rules, ◌≡◌, false, length, nat_lt}
use Rattle.sftp_model.specs.OpenOptions.{flags_of}
use Rattle.sftp_file.proofs.OpenLaws.{short_request}
use Rattle.sftp_file.proofs.opens.open_request.Goals as goal

pub returns-clause-short : goal.returns-clause-short
returns-clause-short c =
    let short : nat_lt 1048558 (length c.args.path.now) ≡ false = search rules in
    rw (c.new.ensures, c.in_ok-from_slice.ensures.items, c.flags.ensures)
    (short_request (flags_of c.args.options.now) c.args.path.now short)
