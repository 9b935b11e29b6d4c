-- What a round leaves of streams.
use Rattle.std.proofs.Common.{◌≡◌, ◌∙◌, List, ℕ, false, ap, IsSome}
use Rattle.std.specs.Prelude.{Option, None, Some, Ok}
use Rattle.plan_state.specs.declared.poll.Poll.TheVariants.{Pending, Ready}
use Rattle.sftp_core.specs.Core.{Core}
use Rattle.sftp_core.specs.Info.{info_of}
use Rattle.plan_state.specs.Keeping.{KeepsHeld}
use Rattle.sftp_file.specs.Files.{FileValue}
use Rattle.sftp_streams.specs.Downloads.{BeginsDownload, DownloadValue, IsReading, MayRead, content_kind}
use Rattle.sftp_streams.specs.Parts.{AreAwaited}
use Rattle.sftp_streams.specs.Uploads.{BeginsUpload, IsWriting, MayWrite, PollsUpload, UploadValue, status_kind}
use Rattle.sftp_streams.specs.declared.parts.Part.{Part}
use Rattle.sftp_streams.proofs.PartLaws.{keeps_parts}

-- a stream that was just begun
pub download_may : (core : Core) (file : FileValue) (window : ℕ) (d : DownloadValue)
    → BeginsDownload core file window (Ok d)
    → ((any : Core) → IsReading any d) → IsSome (info_of core.phase) → MayRead core d
download_may core file window d begins held opened =
    record { over = ap (λ (x : DownloadValue). x.ended) begins.1; opened = opened; held = held core }

pub upload_may : (core : Core) (file : FileValue) (window : ℕ) (u : UploadValue) → BeginsUpload core file window (Ok u)
    → ((any : Core) → IsWriting any u) → MayWrite core u
upload_may core file window u begins held = record {
  over = ap (λ (x : UploadValue). x.ended) begins.1;
  held =
      held core;
}

pub reading_kept : (old new : Core) (d : DownloadValue) → KeepsHeld old new → IsSome (info_of old.phase) → d.ended
    ≡ false → IsReading old d
    → MayRead new d
reading_kept old new d k opened over h =
    record {
      over = over;
      opened = k.grants.opened opened;
      held = record {
        parts = keeps_parts content_kind old new d.parts k h.parts;
        next = h.next;
        small = h.small;
        few = h.few;
        less = h.less;
        some = h.some;
        wide = h.wide;
      };
    }

pub contents_kept : (old new : Core) (parts : List Part) → KeepsHeld old new → AreAwaited content_kind old parts
    → AreAwaited content_kind new parts
contents_kept old new parts k h = keeps_parts content_kind old new parts k h

pub statuses_kept : (old new : Core) (parts : List Part) → KeepsHeld old new → AreAwaited status_kind old parts
    → AreAwaited status_kind new parts
statuses_kept old new parts k h = keeps_parts status_kind old new parts k h

pub writing_kept : (old new : Core) (u : UploadValue) → KeepsHeld old new → u.ended ≡ false → IsWriting old u
    → MayWrite new u
writing_kept old new u k over h =
    record {
      over = over;
      held = record {
        parts = keeps_parts status_kind old new u.parts k h.parts;
        next = h.next;
        small = h.small;
        few = h.few;
        most = h.most;
      };
    }

-- a poll that gave no error
pub upload_goes : (core after : Core) (old new : UploadValue) (given : Option ℕ) → MayWrite core old
    → PollsUpload core after old new (Ready (Ok given)) → MayWrite after new
upload_goes core after old new (Some len) may h =
    let over : new.ended ≡ false = ap (λ (u : UploadValue). u.ended) h.gives.2 ∙ may.over in
    record { over = over; held = h.held over }
upload_goes core after old new None may h =
    let over : new.ended ≡ false = ap (λ (u : UploadValue). u.ended) h.gives.1 ∙ may.over in
    record { over = over; held = h.held over }

-- one that gave nothing, and a round behind it
pub upload_waits : (core after last : Core) (old new : UploadValue) → MayWrite core old
    → PollsUpload core after old new Pending
    → KeepsHeld after last → MayWrite last new
upload_waits core after last old new may h k =
    let over : new.ended ≡ false = ap (λ (u : UploadValue). u.ended) h.gives.3 ∙ may.over in
    writing_kept after last new k over (h.held over)
