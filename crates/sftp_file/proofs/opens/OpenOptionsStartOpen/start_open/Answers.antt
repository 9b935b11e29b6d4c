use Rattle.std.proofs.Common.{rules, ◌≡◌, ◌∙◌, true, false, sym, length, nat_lt}
use Rattle.sftp_model.specs.OpenOptions.{flags_of}
use Rattle.sftp_file.proofs.OptionLaws.{reads_by_flags, writes_by_flags}
use Rattle.sftp_file.proofs.OpenLaws.{open_refused, open_starts}
use Rattle.sftp_file.proofs.opens.OpenOptionsStartOpen.start_open.Goals as goal

pub returns-then-path-gt-MAX_PATH_LEN : goal.returns-then-path-gt-MAX_PATH_LEN
returns-then-path-gt-MAX_PATH_LEN c =
    let long : nat_lt 1048558 (length c.args.path.now) ≡ true = search rules in
    open_refused (flags_of c.args.self.now) c.args.path.now c.args.core.now long

pub returns : goal.returns
returns c =
    let short : nat_lt 1048558 (length c.args.path.now) ≡ false = search rules in
    open_starts (flags_of c.args.self.now) c.args.path.now _ _ c.args.core.now c.ask.new.core c.ask.result short
    (record {
      reads = c.may_read.ensures ∙ sym (reads_by_flags c.args.self.now);
      writes = c.may_write.ensures
          ∙ sym (writes_by_flags c.args.self.now);
    })
    (search rules) c.ask.ensures.started c.ask.ensures.begins c.ask.ensures.keeps
