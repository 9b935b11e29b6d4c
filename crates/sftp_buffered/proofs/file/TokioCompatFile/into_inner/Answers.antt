use Rattle.std.proofs.Common.{rules, ◌≡◌, sym, subst}
use Rattle.sftp_core.specs.Core.{Core}
use Rattle.sftp_buffered.specs.Buffered.{AreHeld}
use Rattle.sftp_buffered.specs.Steps.{read_dropped}
use Rattle.sftp_buffered.specs.Whole.{all_dropped}
use Rattle.sftp_buffered.proofs.Abandoning.{abandons}
use Rattle.sftp_buffered.proofs.Sound.{held_dropped}
use Rattle.sftp_buffered.proofs.file.TokioCompatFile.into_inner.Goals as goal

pub abandon_all-requires : goal.abandon_all-requires
abandon_all-requires c =
    let core : c.abandon_read.new.core ≡ read_dropped c.args.core.now c.args.self.reading = search rules in
    let here : AreHeld (read_dropped c.args.core.now c.args.self.reading) c.args.self.deferred =
    held_dropped c.args.core.now c.args.self.reading c.args.self.deferred c.requires.held.read c.requires.held.writes in
    let there : AreHeld c.abandon_read.new.core c.args.self.deferred =
    subst (λ (x : Core). AreHeld x c.args.self.deferred) (sym core) here in
    search rules

pub returns-clause-abandons : goal.returns-clause-abandons
returns-clause-abandons c =
    let core : c.abandon_read.new.core ≡ read_dropped c.args.core.now c.args.self.reading = search rules in
    let all : c.abandon_all.new.core ≡ all_dropped c.abandon_read.new.core c.args.self.deferred = search rules in
    abandons c.args.core.now c.abandon_read.new.core c.abandon_all.new.core c.args.self c.requires core all
