use Rattle.std.proofs.Common.{IsSome, subst, sym}
use Rattle.sftp_core.specs.Core.{Core}
use Rattle.sftp_core.specs.Info.{info_of}
use Rattle.test_client.proofs.Streaming.{download_may}
use Rattle.test_client.proofs.streams.downloads_from.Goals as goal

pub download_all-answer-requires : goal.download_all-answer-requires
download_all-answer-requires c =
    download_may c.core.result.now c.args.file.now 3 c.in_ok-download.download c.in_ok-download.ensures.begins
    c.in_ok-download.ensures.held
    (subst (λ (k : Core). IsSome (info_of k.phase)) (sym c.core.ensures.value) c.requires)
