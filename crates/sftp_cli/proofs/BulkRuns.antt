-- A script that three numbers make may be run.
use Rattle.std.proofs.Common.{◌≡◌, arith, refl, sym, subst}
use Rattle.sftp_cli.proofs.ScriptLaws.{choices_feign_no_end, lanes_ok}
use Rattle.sftp_cli.specs.Bulk.{bulk_script}
use Rattle.script_grammar.specs.CanRun.{CanRun}
use Rattle.script_grammar.specs.declared.script.Script.{Script}
use Rattle.sftp_cli.specs.declared.bulk.Numbers.{Numbers}
use Rattle.sftp_cli.specs.Words.{IsBulk}

pub bulk_runs : (n : Numbers) (script : Script) → IsBulk n → script ≡ bulk_script n.start n.lanes n.calls
    → CanRun script
bulk_runs n script b is =
    subst CanRun (sym is) (record {
      begins = refl;
      known = omega arith;
      writes = omega arith;
      unfeigned = choices_feign_no_end n.start n.lanes n.calls;
      lanes = lanes_ok n.start n.lanes n.calls b.lanes b.all;
    })
