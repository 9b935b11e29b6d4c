use Rattle.std.proofs.Common.{◌∙◌, ap, sym, subst}
use Rattle.sftp_core.specs.Core.{Core}
use Rattle.sftp_streams.specs.Parts.{AreAwaited, KeepsOthersHeld, without_parts}
use Rattle.sftp_streams.proofs.PartLaws.{others_given_up}
use Rattle.sftp_streams.specs.Downloads.{DownloadValue, content_kind}
use Rattle.sftp_streams.proofs.download.Download.cancel.Goals as goal

pub abandon_parts-requires : goal.abandon_parts-requires
abandon_parts-requires c = (
  content_kind,
  subst (λ (x : DownloadValue). AreAwaited content_kind c.args.core.now x.parts)
      (sym c.self.view_is) c.requires,
)

pub returns-clause-others : goal.returns-clause-others
returns-clause-others c =
    let core_is = c.abandon_parts.ensures ∙ ap (λ (x : DownloadValue). without_parts c.args.core.now x.parts)
    c.self.view_is in
    subst (λ (x : Core). KeepsOthersHeld c.args.self.parts c.args.core.now x) (sym core_is)
    (others_given_up content_kind c.args.core.now c.args.self.parts c.requires)
