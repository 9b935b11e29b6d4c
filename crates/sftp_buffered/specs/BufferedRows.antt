-- Worked examples of buffered files, each beside a near miss. The OPEN has place 0, and the next request 4.
use Rattle.std.specs.Prelude.{
  ℕ,
  ◌≡◌,
  ◌==◌,
  true,
  false,
  List,
  [],
  ◌∷◌,
  codes,
  Option,
  Some,
  None,
  Ok,
  Err,
  refl,
  if◌then◌else◌,
}
use Rattle.sftp_model.specs.Answers.{status}
use Rattle.sftp_model.specs.declared.error.Error.TheVariants as error
use Rattle.sftp_model.specs.declared.outcome.Outcome.TheVariants as outcome
use Rattle.sftp_model.specs.declared.reply.Reply.{Reply}
use Rattle.sftp_model.specs.declared.reply.Reply.TheVariants as reply
use Rattle.sftp_model.specs.declared.request.Request.{Request}
use Rattle.sftp_model.specs.declared.request.Request.TheVariants as request
use Rattle.sftp_model.specs.declared.slot.Facts.{Facts}
use Rattle.sftp_model.specs.declared.slot.Move.TheVariants.{Ask, Wait, Done}
use Rattle.plan_model.specs.Moves.{Answers}
use Rattle.sftp_file.specs.Files.{FileValue}
use Rattle.sftp_buffered.specs.declared.file.DeferredWrite.{DeferredWrite}
use Rattle.sftp_buffered.specs.declared.file.ReadUnderWay.{ReadUnderWay}
use Rattle.sftp_buffered.specs.Buffered.{CompatValue, lane_of}
use Rattle.sftp_buffered.specs.Reads.{
  with_bytes_appended,
  buf_fill_next,
  buf_ready_next,
  after_consuming,
  fill_value,
  room_outcome,
  with_read,
  without_read,
}
use Rattle.sftp_buffered.specs.Seeks.{stood}
use Rattle.sftp_buffered.specs.Steps.{
  after_written,
  with_deferred_write,
  must_wait,
  room_of,
  status_value,
  without_oldest,
}
use Rattle.sftp_buffered.specs.Whole.{with_capacity_at_most}

-- READs ask for at most 4 bytes, WRITEs carry 2, and 4 may be pending.
abbrev facts : Facts
facts = record { extensions = record { 0 = 0 }; read_len = 4; write_len = 2; write_limit = 4; read_window = 1 }

abbrev at : ℕ → FileValue
at offset = record { grant = record { id = 7; handle = codes "h" }; readable = true; writable = true; offset = offset }

-- A file at offset 5 with these bytes buffered, this many bytes of writes pending, and this READ under way.
abbrev write_at : ℕ → DeferredWrite
write_at place = record { place = place; len = 2; ticket = place }

abbrev holding : List ℕ → List DeferredWrite → ℕ → Option ReadUnderWay → CompatValue
holding bytes writes pending reading =
    record {
      file = at 5;
      buffer_len = 3;
      capacity = 8;
      buffered = bytes;
      deferred = writes;
      pending = pending;
      reading = reading;
      place = 4;
    }

abbrev bare : List ℕ → CompatValue
bare bytes = holding bytes [] 0 None

-- The HANDLE, and this reply at place 4.
abbrev after : Option Reply → Answers
after told place = if place == 0 then Some (reply.Handle (codes "h")) else if place == 4 then told else None

abbrev read_of : ℕ → ℕ → Request
read_of offset len = request.Read (codes "h") offset len

abbrev got : List ℕ → Reply
got bytes = reply.Content bytes

-- ---- Reads into the buffer

-- A read into the buffer asks for bytes after the buffer, not at the offset.
pub fill_asks_behind : buf_fill_next 0 9 (lane_of (bare (codes "ab"))) facts [] (after None) ≡ Ask (read_of 7 4)
fill_asks_behind = refl

pub fill_asks_fewer : buf_fill_next 0 1 (lane_of (bare [])) facts [] (after None) ≡ Ask (read_of 5 1)
fill_asks_fewer = refl

pub fill_appends : buf_fill_next 0 9 (lane_of (bare (codes "ab"))) facts ((4, read_of 7 4) ∷ [])
    (after (Some (got (codes "c"))))
    ≡ Done outcome.Done (lane_of (bare (codes "abc")))
fill_appends = refl

-- Bytes that the core has are appended in the same way.
pub fill_appended : lane_of (without_read (with_bytes_appended (got (codes "c")) (with_read (bare (codes "ab")) 4 9)))
    ≡ lane_of (bare (codes "abc"))
fill_appended = refl

pub fill_ends : buf_fill_next 0 9 (lane_of (bare (codes "ab"))) facts ((4, read_of 7 4) ∷ []) (after (Some (status 1)))
    ≡ Done outcome.Done (lane_of (bare (codes "ab")))
fill_ends = refl

pub fill_refused : buf_fill_next 0 9 (lane_of (bare (codes "ab"))) facts ((4, read_of 7 4) ∷ [])
    (after (Some (status 3)))
    ≡ Done (outcome.Refused (error.SftpError 3 [] [])) (lane_of (bare (codes "ab")))
fill_refused = refl

-- A READ under way is awaited, no matter how many bytes it asked for.
pub fill_awaits : buf_fill_next 0 9 (lane_of (with_read (bare []) 1 9)) facts [] (after None) ≡ Wait 4
fill_awaits = refl

pub ready_stays : buf_ready_next 0 (lane_of (bare (codes "a"))) facts [] (after None)
    ≡ Done outcome.Done (lane_of (bare (codes "a")))
ready_stays = refl

pub ready_asks : buf_ready_next 0 (lane_of (bare [])) facts [] (after None) ≡ Ask (read_of 5 3)
ready_asks = refl

-- A STATUS of EOF is an end for a READ alone.
pub fill_end_is_good : fill_value (status 1) ≡ Ok tt
fill_end_is_good = refl

pub write_end_is_bad : status_value (status 1) ≡ Err (error.SftpError 1 [] [])
write_end_is_bad = refl

-- ---- Room of a read

pub room_of_some : room_outcome 3 (codes "abz") 2 ≡ outcome.Bytes (codes "ab")
room_of_some = refl

pub room_at_the_end : room_outcome 3 (codes "xyz") 0 ≡ outcome.End
room_at_the_end = refl

-- A read without room is no end of the file.
pub no_room : room_outcome 0 [] 0 ≡ outcome.Bytes []
no_room = refl

-- ---- Windows

pub full_waits : must_wait facts (holding [] (write_at 1 ∷ write_at 2 ∷ []) 4 None) ≡ true
full_waits = refl

pub room_goes_on : must_wait facts (holding [] (write_at 1 ∷ []) 2 None) ≡ false
room_goes_on = refl

pub full_without_oldest : room_of facts (without_oldest (holding [] (write_at 1 ∷ write_at 2 ∷ []) 4 None)) ≡ 2
full_without_oldest = refl

-- A write moves the file by its bytes, takes them off the buffer, and gives the READ up.
pub write_moves : after_written (with_deferred_write (with_read (bare (codes "abc")) 4 9) 2 8) 2
    ≡ record (holding (codes "c") (record { place = 5; len = 2; ticket = 8 } ∷ []) 2 None) { file = at 7; place = 6 }
write_moves = refl

-- ---- Seeks

pub seek_forward_keeps : (stood (bare (codes "abc")) 7).buffered ≡ codes "c"
seek_forward_keeps = refl

pub seek_past_keeps_none : (stood (bare (codes "abc")) 9).buffered ≡ []
seek_past_keeps_none = refl

pub seek_back_keeps_none : (stood (bare (codes "abc")) 4).buffered ≡ []
seek_back_keeps_none = refl

-- ---- Buffers

pub consume_moves : after_consuming (bare (codes "abc")) 2 ≡ record (bare (codes "c")) { file = at 7 }
consume_moves = refl

pub shrink_empties : with_capacity_at_most (bare (codes "abc")) 4 ≡ record (bare []) { capacity = 4 }
shrink_empties = refl

pub shrink_to_more : with_capacity_at_most (bare (codes "abc")) 8 ≡ bare (codes "abc")
shrink_to_more = refl
