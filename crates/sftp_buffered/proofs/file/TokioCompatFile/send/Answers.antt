use Rattle.std.proofs.Common.{rules, ◌≡◌, ◌<◌, ◌+◌, ◌^◌, ◌∙◌, refl, sym, ap, subst, true}
use Rattle.plan_model.specs.BufferPlans.{is_good}
use Rattle.sftp_core.specs.Core.{Core}
use Rattle.sftp_buffered.specs.Buffered.{CompatValue, IsHeldRead}
use Rattle.sftp_buffered.specs.Steps.{with_oldest_settled, oldest_reply}
use Rattle.sftp_buffered.specs.Writes.{IsDeferred}
use Rattle.sftp_buffered.proofs.Holding.{deferred_held, deferred_read, oldest_stays, parts_of, read_freed}
use Rattle.sftp_buffered.proofs.Deferring.{sent_by}
use Rattle.sftp_buffered.proofs.file.TokioCompatFile.send.Goals as goal

pub make_way-requires-in-Ok-clause-held : goal.make_way-requires-in-Ok-clause-held
make_way-requires-in-Ok-clause-held c =
    let d : IsDeferred c.args.parts.now c.args.len c.args.core.now c.defer.new.core c.args.self.now c.defer.new.self =
    search rules in
    deferred_held c.args.parts.now c.args.len c.args.core.now c.defer.new.core c.args.self.now c.defer.new.self d
    c.requires.sound.held.writes

pub make_way-requires-in-Ok-clause-good : goal.make_way-requires-in-Ok-clause-good
make_way-requires-in-Ok-clause-good c = λ full.
    (let d : IsDeferred c.args.parts.now c.args.len c.args.core.now c.defer.new.core c.args.self.now c.defer.new.self =
    search rules in
    subst (λ (x : CompatValue). is_good (oldest_reply c.defer.new.core x.deferred) ≡ true) (sym d.left)
    (ap is_good (oldest_stays c.args.core.now c.defer.new.core (parts_of c.args.self.now c.args.parts.now) d.ticket
    c.args.self.now.deferred _ d.submitted c.requires.sound.held.writes (c.requires.room.1 full))
    ∙ c.requires.room.1 full))

pub go_behind-requires-clause-held : goal.go_behind-requires-clause-held
go_behind-requires-clause-held c =
    let d : IsDeferred c.args.parts.now c.args.len c.args.core.now c.defer.new.core c.args.self.now c.defer.new.self =
    search rules in
    subst (λ (x : CompatValue). IsHeldRead c.make_way-in-Ok.new.core x.reading) (sym c.make_way-in-Ok.ensures.left)
    (subst (λ (x : Core). IsHeldRead x (with_oldest_settled c.args.full c.defer.new.self).reading)
    (sym c.make_way-in-Ok.ensures.core)
    (read_freed c.args.full c.defer.new.core c.defer.new.self (deferred_held c.args.parts.now c.args.len c.args.core.now
    c.defer.new.core c.args.self.now c.defer.new.self d c.requires.sound.held.writes)
    (deferred_read c.args.parts.now c.args.len c.args.core.now c.defer.new.core c.args.self.now c.defer.new.self d
    c.requires.sound.held.read)))

pub returns-in-Ok-clause-ok : goal.returns-in-Ok-clause-ok
returns-in-Ok-clause-ok c =
    let d : IsDeferred c.args.parts.now c.args.len c.args.core.now c.defer.new.core c.args.self.now c.defer.new.self =
    search rules in
    let fits : c.args.self.now.file.offset + c.args.len < 2 ^ 64 = search rules in (
      refl,
      sent_by c.args.full c.args.parts.now c.args.core.now c.defer.new.core c.make_way-in-Ok.new.core
          c.go_behind.new.core c.args.self.now c.defer.new.self c.make_way-in-Ok.new.self c.go_behind.new.self
          c.args.len d.ticket
          fits d.submitted d.left c.make_way-in-Ok.ensures.left c.make_way-in-Ok.ensures.core c.go_behind.ensures.left
          c.go_behind.ensures.core,
    )
