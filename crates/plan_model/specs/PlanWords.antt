-- Abbreviations for worked states of plans.
use Rattle.std.specs.Prelude.{ℕ, ◌==◌, Bool, true, false, List, [], ◌∷◌, Option, Some, None, slice_get, if◌then◌else◌}
use Rattle.sftp_model.specs.declared.file_attrs.FileAttrs.{FileAttrs}
use Rattle.sftp_model.specs.declared.reply.NameEntry.{NameEntry}
use Rattle.sftp_model.specs.declared.reply.Reply.{Reply}
use Rattle.sftp_model.specs.declared.reply.Reply.TheVariants as reply
use Rattle.sftp_model.specs.declared.error.Error.TheVariants as error
use Rattle.sftp_model.specs.declared.error.IoKind.{IoKind}
use Rattle.sftp_model.specs.declared.outcome.Outcome.{Outcome}
use Rattle.sftp_model.specs.declared.outcome.Outcome.TheVariants as outcome
use Rattle.sftp_model.specs.declared.request.Request.{Request}
use Rattle.sftp_model.specs.declared.request.Request.TheVariants as request
use Rattle.sftp_model.specs.declared.slot.Facts.{Facts}
use Rattle.sftp_model.specs.declared.slot.FileAt.{FileAt}
use Rattle.sftp_model.specs.Frames.{no_attributes}
use Rattle.sftp_model.specs.declared.slot.Site.{Site}
use Rattle.sftp_model.specs.declared.slot.Slot.TheVariants.{File, Buffered}
use Rattle.sftp_model.specs.Slots.{fresh_site, with_slot}
use Rattle.plan_model.specs.Moves.{Answers}

-- These replies by their places, and no other.
abbrev pub known : List (ℕ × Reply) → Answers
known [] place = None
known (got ∷ rest) place = if got.0 == place then Some got.1 else known rest place

abbrev pub facts : ℕ → ℕ → ℕ → ℕ → ℕ → Facts
facts extensions read_len write_len write_limit window =
    record {
      extensions = record { 0 = extensions };
      read_len = read_len;
      write_len = write_len;
      write_limit =
          write_limit;
      read_window = window;
    }

abbrev pub file_at : ℕ → Bool → Bool → ℕ → FileAt
file_at grant readable writable offset = record {
  grant = grant;
  readable = readable;
  writable = writable;
  offset =
      offset;
}

abbrev pub attributes_of : Option ℕ → Option ℕ → FileAttrs
attributes_of size mode = record no_attributes { size = size; permissions = mode }

abbrev pub entry : List ℕ → NameEntry
entry name = record { filename = name; longname = []; attrs = no_attributes }

-- ---- The start of the rows: the request at place 0 was an OPEN that a HANDLE answered

abbrev pub handle : List ℕ
handle = 9 ∷ []

abbrev pub granted : Reply
granted = reply.Handle handle

-- These replies from place 1 on, after that HANDLE.
abbrev pub after_handle : List Reply → Answers
after_handle taken place = slice_get (granted ∷ taken) place

-- A file in slot 0: one that may be read and written, one that may only be read, one that may only be written.
abbrev pub at : ℕ → Site
at offset = with_slot fresh_site 0 (File (file_at 0 true true offset))

abbrev pub read_only : ℕ → Site
read_only offset = with_slot fresh_site 0 (File (file_at 0 true false offset))

abbrev pub write_only : ℕ → Site
write_only offset = with_slot fresh_site 0 (File (file_at 0 false true offset))

-- A buffered file in slot 0: its offset, its bytes, its deferred writes and the read in flight.
abbrev pub buffered : ℕ → List ℕ → List (ℕ × ℕ) → Option ℕ → Site
buffered offset bytes deferred reading = with_slot fresh_site 0
    (Buffered (file_at 0 true true offset) (record { len = 3; bytes = bytes; deferred = deferred; reading = reading }))

-- Reads of 4 bytes, writes of 2, a write limit of 4, one READ at once; with all extensions, and with none.
abbrev pub offering : Facts
offering = facts 31 4 2 4 1

abbrev pub bare : Facts
bare = facts 0 4 2 4 1

-- Requests on the file of place 0, asked at a place.
abbrev pub read_at : ℕ → ℕ → ℕ → ℕ × Request
read_at place offset len = (place, request.Read handle offset len)

abbrev pub write_at : ℕ → ℕ → List ℕ → ℕ × Request
write_at place offset bytes = (place, request.Write handle offset bytes)

abbrev pub refused_io : IoKind → Outcome
refused_io why = outcome.Refused (error.IOError why)

abbrev pub refused_with : ℕ → Outcome
refused_with code = outcome.Refused (error.SftpError code [] [])

abbrev pub lacks : ℕ → Outcome
lacks bit = outcome.Refused (error.UnsupportedExtension (record { 0 = bit }))
