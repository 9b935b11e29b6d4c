-- believed
-- The bytes that read as a script; for other bytes, the first line that does not, and the reason.
use Rattle.std.specs.Prelude.{
  ℕ,
  List,
  [],
  ◌∷◌,
  ◌++◌,
  length,
  codes,
  Option,
  Some,
  None,
  Result,
  Ok,
  Err,
  nat_lt,
  if◌then◌else◌,
}
use Rattle.std.specs.Str.{bytes_eq}
use Rattle.std.specs.declared.io.traits.SeekFrom.{SeekFrom}
use Rattle.ssh_encoding.specs.Reading.{◌>>=◌}
use Rattle.ssh_encoding.specs.Writing.{or_else}
use Rattle.sftp_model.specs.Options.{default_options}
use Rattle.plan_model.specs.declared.call.Call.{Call}
use Rattle.plan_model.specs.declared.call.Call.TheVariants as call
use Rattle.plan_model.specs.declared.call.Lane.{Lane}
use Rattle.script_words.specs.declared.reason.Reason.{Reason}
use Rattle.script_words.specs.declared.reason.Reason.TheVariants as reason
use Rattle.script_grammar.specs.declared.script.Script.{Script}
use Rattle.session_model.specs.declared.turn.Turn.{Turn}
use Rattle.session_model.specs.declared.turn.Turn.TheVariants as turn
use Rattle.script_words.specs.Lines.{
  lines_of,
  map_ok,
  number_in,
  bytes_in,
  flags_in,
  no_word,
  one_word,
  three_words,
  greatest_u32,
  or_read,
  read_by,
}
use Rattle.script_words.specs.Fields.{
  slot_in,
  number_u32,
  number_u64,
  mode_in,
  some_in,
  seek_in,
  buffer_len,
  pair,
  triple,
  parts_in,
}
use Rattle.script_grammar.specs.Setup.{Draft, setup_line}

-- The script without a line.
abbrev pub empty_script : Script
empty_script =
    record {
      options = default_options;
      server = record { extensions = record { 0 = 0 }; limits = None; cut = 0 };
      files = [];
      dirs = [];
      choices = [];
      picks = [];
      lanes = [];
      turns = [];
    }

-- ---- Lanes, calls and turns

-- The draft with another lane.
abbrev pub with_lane : Draft → Draft
with_lane d = record d { script = record d.script { lanes = d.script.lanes ++ record { calls = [] } ∷ [] } }

-- The lanes with a call at the end of the last one.
abbrev pub call_at_end : List Lane → Call → List Lane
call_at_end [] c = []
call_at_end (lane ∷ []) c = record { calls = lane.calls ++ c ∷ [] } ∷ []
call_at_end (lane ∷ next ∷ lanes) c = lane ∷ call_at_end (next ∷ lanes) c

-- The draft with another call in the last lane.
abbrev pub with_call : Draft → Call → Draft
with_call d c = record d { script = record d.script { lanes = call_at_end d.script.lanes c } }

-- The draft with another turn.
abbrev pub with_turn : Draft → Turn → Draft
with_turn d t = record d { script = record d.script { turns = d.script.turns ++ t ∷ [] } }

-- A call of one field.
abbrev pub one : {A : Type 0} → (List ℕ → Result A Reason) → (A → Call) → List (List ℕ) → Result Call Reason
one first made words = map_ok made (one_word first words)

-- A call of two fields.
abbrev pub two : {A B : Type 0} → (List ℕ → Result A Reason) → (List ℕ → Result B Reason) → (A → B → Call)
    → List (List ℕ) → Result Call Reason
two first second made words = map_ok (λ p. made p.0 p.1) (pair first second words)

-- A call of three fields.
abbrev pub three : {A B C : Type 0} → (List ℕ → Result A Reason) → (List ℕ → Result B Reason)
    → (List ℕ → Result C Reason) → (A → B → C → Call) → List (List ℕ) → Result Call Reason
three first second third made words = map_ok (λ p. made p.0 p.1 p.2) (triple first second third words)

-- A call that is a seek.
abbrev pub seek : (ℕ → SeekFrom → Call) → List (List ℕ) → Result Call Reason
seek made words = map_ok (λ p. made p.0 p.1) (three_words seek_in words)

-- A call that names only a slot, by its first word and the words after it.
abbrev pub slot_call : List ℕ → List (List ℕ) → Option (Result Call Reason)
slot_call word words =
    if bytes_eq word (codes "meta") then Some (one slot_in call.Meta words)
    else if bytes_eq word (codes "sync") then Some (one slot_in call.Sync words)
    else if bytes_eq word (codes "close") then Some (one slot_in call.Close words)
    else if bytes_eq word (codes "unbuffer") then Some (one slot_in call.Unbuffer words)
    else if bytes_eq word (codes "buf_flush") then Some (one slot_in call.BufFlush words)
    else None

-- A call that names a slot and a number.
abbrev pub number_call : List ℕ → List (List ℕ) → Option (Result Call Reason)
number_call word words =
    if bytes_eq word (codes "read") then Some (two slot_in number_u32 call.Read words)
    else if bytes_eq word (codes "read_all") then Some (two slot_in number_u32 call.ReadAll words)
    else if bytes_eq word (codes "set_len") then Some (two slot_in number_u64 call.SetLen words)
    else if bytes_eq word (codes "set_perm") then Some (two slot_in mode_in call.SetPerm words)
    else if bytes_eq word (codes "buffer") then Some (two slot_in buffer_len call.Buffer words)
    else if bytes_eq word (codes "buf_read") then Some (two slot_in number_u64 call.BufRead words)
    else None

-- A call that writes to a slot.
abbrev pub write_call : List ℕ → List (List ℕ) → Option (Result Call Reason)
write_call word words =
    if bytes_eq word (codes "write") then Some (two slot_in bytes_in call.Write words)
    else if bytes_eq word (codes "write_all") then Some (two slot_in bytes_in call.WriteAll words)
    else if bytes_eq word (codes "write_parts") then Some (map_ok (λ p. call.WriteParts p.0 p.1) (parts_in words))
    else if bytes_eq word (codes "buf_write") then Some (two slot_in bytes_in call.BufWrite words)
    else if bytes_eq word (codes "buf_write_all") then Some (two slot_in bytes_in call.BufWriteAll words)
    else None

-- A call that opens a file in a slot, moves in it, or names a second slot.
abbrev pub place_call : List ℕ → List (List ℕ) → Option (Result Call Reason)
place_call word words =
    if bytes_eq word (codes "open") then Some (three slot_in flags_in bytes_in call.OpenFile words)
    else if bytes_eq word (codes "seek") then Some (seek call.Seek words)
    else if bytes_eq word (codes "buf_seek") then Some (seek call.BufSeek words)
    else if bytes_eq word (codes "copy") then Some (three slot_in slot_in number_u64 call.Copy words)
    else if bytes_eq word (codes "clone") then Some (two slot_in slot_in call.CloneFile words)
    else None

-- A call that names only a path.
abbrev pub path_call : List ℕ → List (List ℕ) → Option (Result Call Reason)
path_call word words =
    if bytes_eq word (codes "stat") then Some (one bytes_in call.Stat words)
    else if bytes_eq word (codes "lstat") then Some (one bytes_in call.Lstat words)
    else if bytes_eq word (codes "remove") then Some (one bytes_in call.Remove words)
    else if bytes_eq word (codes "mkdir") then Some (one bytes_in call.Mkdir words)
    else if bytes_eq word (codes "rmdir") then Some (one bytes_in call.Rmdir words)
    else if bytes_eq word (codes "read_link") then Some (one bytes_in call.ReadLink words)
    else if bytes_eq word (codes "canonicalize") then Some (one bytes_in call.Canonicalize words)
    else if bytes_eq word (codes "cwd") then Some (one bytes_in call.Cwd words)
    else None

-- A call that names a path and something more.
abbrev pub paths_call : List ℕ → List (List ℕ) → Option (Result Call Reason)
paths_call word words =
    if bytes_eq word (codes "fs_read") then Some (two bytes_in (number_in 1 greatest_u32) call.FsRead words)
    else if bytes_eq word (codes "fs_write") then Some (two bytes_in bytes_in call.FsWrite words)
    else if bytes_eq word (codes "list") then Some (two bytes_in (number_in 1 greatest_u32) call.List words)
    else if bytes_eq word (codes "set_stat") then
    Some (three bytes_in (some_in number_u64) (some_in mode_in) call.SetStat words)
    else if bytes_eq word (codes "rename") then Some (two bytes_in bytes_in call.Rename words)
    else if bytes_eq word (codes "hard_link") then Some (two bytes_in bytes_in call.HardLink words)
    else if bytes_eq word (codes "symlink") then Some (two bytes_in bytes_in call.Symlink words)
    else None

-- A call on slots.
abbrev pub slots_call : List ℕ → List (List ℕ) → Option (Result Call Reason)
slots_call word words = or_else (slot_call word words) (or_else (number_call word words)
    (or_else (write_call word words) (place_call word words)))

-- A call by its first word and the words after it.
abbrev pub call_in : List ℕ → List (List ℕ) → Option (Result Call Reason)
call_in word words = or_else (slots_call word words) (or_else (path_call word words) (paths_call word words))

-- The draft with a call, which belongs to the lane that was started last.
abbrev pub in_lane : Draft → List Lane → Result Call Reason → Result Draft Reason
in_lane d [] read = Err reason.Lane
in_lane d (lane ∷ lanes) read = read >>= λ c. Ok (with_call d c)

-- A line that is a call; any other line is refused as an unknown word.
abbrev pub call_line : Draft → Option (Result Call Reason) → Result Draft Reason
call_line d None = Err reason.Word
call_line d (Some read) = in_lane d d.script.lanes read

-- A turn of a lane, which need not exist.
abbrev pub lane_turn : Draft → (ℕ → Turn) → List ℕ → Result Draft Reason
lane_turn d of_lane word = number_in 0 greatest_u32 word >>= λ n. Ok (with_turn d (of_lane n))

-- ---- Lines

-- A line of a lane, a turn or a call, by its first word and the words after it.
abbrev pub session_line : Draft → List ℕ → List (List ℕ) → Result Draft Reason
session_line d word words =
    if bytes_eq word (codes "lane") then no_word (with_lane d) words
    else if bytes_eq word (codes "step") then one_word (lane_turn d (λ n. turn.Step n)) words
    else if bytes_eq word (codes "cancel") then one_word (lane_turn d (λ n. turn.Cancel n)) words
    else if bytes_eq word (codes "flush") then no_word (with_turn d turn.Flush) words
    else if bytes_eq word (codes "take") then no_word (with_turn d turn.Take) words
    else call_line d (call_in word words)

-- A line by its first word and the words after it.
abbrev pub line_by : Draft → List ℕ → List (List ℕ) → Result Draft Reason
line_by d word words = or_read (setup_line d word words) (session_line d word words)

-- The script that was read, or the reason why it is refused.
abbrev pub script_in : Result Draft (ℕ × Reason) → Result Script (ℕ × Reason)
script_in (Ok d) = Ok d.script
script_in (Err why) = Err why

-- Lines of which the first has the number n.
abbrev pub read_lines : ℕ → Draft → List (List ℕ) → Result Script (ℕ × Reason)
read_lines n d lines = script_in (read_by line_by n d lines)

-- The greatest length of a script in bytes.
abbrev pub MAX_SCRIPT_LEN : ℕ
MAX_SCRIPT_LEN = 16777216

-- The script that bytes read as; or the number of the first line that is refused, counted from 1, and the reason.
abbrev pub script_of : List ℕ → Result Script (ℕ × Reason)
script_of bytes = if nat_lt MAX_SCRIPT_LEN (length bytes) then Err (0, reason.Size) else
    read_lines 1 (record { script = empty_script; named = [] }) (lines_of bytes)
