-- believed
-- Settings that the options of a session, the server's VERSION and its limits fix.
use Rattle.std.specs.Prelude.{max, min, Bool, true, false, List, Option, Some, None, Result, Ok, Err}
use Rattle.sftp_model.specs.Lengths.{offers_limits, session_lengths}
use Rattle.sftp_model.specs.declared.options.SftpOptions.{SftpOptions}
use Rattle.sftp_model.specs.declared.config.Limits.{Limits}
use Rattle.sftp_model.specs.declared.flags.Extensions.{Extensions}
use Rattle.sftp_model.specs.declared.frame_error.FrameError.{FrameError}
use Rattle.sftp_model.specs.declared.reply.Reply.{Reply}
use Rattle.sftp_model.specs.declared.reply.Reply.TheVariants as reply
use Rattle.sftp_model.specs.declared.slot.Facts.{Facts}
use Rattle.sftp_model.specs.ReplyReadings.{limits_at, limits_in}
use Rattle.plan_model.specs.declared.call.Lane.{Lane}
use Rattle.session_model.specs.declared.entry.Entry.{Entry}
use Rattle.session_model.specs.Readings.{answer}
use Rattle.session_model.specs.Calls.{Setting}

-- The VERSION of a server of version 3 that offers these extensions.
abbrev pub version_reply_of : Extensions → Reply
version_reply_of extensions = reply.Version 3 extensions

-- The facts that plans use. The write limit is at least one byte, as the lengths are, and the window is 1 to 64 READs.
abbrev pub facts_of : SftpOptions → Extensions → Option Limits → Facts
facts_of options extensions limits =
    record {
      extensions = extensions;
      read_len = (session_lengths limits options.max_read_len options.max_write_len).0;
      write_len = (session_lengths limits options.max_read_len options.max_write_len).1;
      write_limit = max 1 options.tokio_compat_file_write_limit;
      read_window = min 64 (max 1 options.read_window);
    }

abbrev pub limits_of : Option Reply → Option Limits
limits_of (Some r) = limits_in r
limits_of None = None

-- The limits that were reported to a session: those of the reply to its first request, if the server offers them.
abbrev pub limits_told : Bool → Option Reply → Option Limits
limits_told false r = None
limits_told true r = limits_of r

-- The setting of a session, once its journal is past the limits.
abbrev pub setting_of : List Lane → SftpOptions → Extensions → List Entry → Setting
setting_of lanes options extensions past =
    record {
      lanes = lanes;
      facts = facts_of options extensions (limits_told (offers_limits extensions) (answer past 0));
      limits = offers_limits extensions;
      max_pending = options.max_pending_requests;
    }
