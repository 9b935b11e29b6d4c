-- believed
-- The lines of a list of operations: the bytes that read as one; for other bytes, the first line that does not, and the
-- reason.
use Rattle.std.specs.Prelude.{
  ℕ,
  ◌+◌,
  List,
  [],
  ◌∷◌,
  ◌++◌,
  length,
  codes,
  Option,
  Some,
  None,
  Result,
  Ok,
  Err,
  nat_le,
  nat_lt,
  if◌then◌else◌,
}
use Rattle.std.specs.List.{sum_by}
use Rattle.std.specs.Str.{bytes_eq}
use Rattle.ssh_encoding.specs.Reading.{◌>>=◌}
use Rattle.script_words.specs.declared.reason.Reason.{Reason}
use Rattle.script_words.specs.declared.reason.Reason.TheVariants as reason
use Rattle.script_words.specs.Lines.{bytes_in, lines_of, number_in, or_read, read_by, three_words, two_words}
use Rattle.script_grammar.specs.Scripts.{MAX_SCRIPT_LEN, empty_script}
use Rattle.script_grammar.specs.Setup.{Draft, setup_line}
use Rattle.view_model.specs.ViewOps.{count, count_limit}
use Rattle.view_model.specs.declared.op.ViewOp.{ViewOp}
use Rattle.view_model.specs.declared.op.ViewOp.TheVariants as op
use Rattle.view_model.specs.declared.list.ViewList.{ViewList}

-- The part that was read so far: the length of blocks, the lines of setup, and the operations.
pub record ViewDraft : Type 0 where
  pub block : ℕ
  pub draft : Draft
  pub ops : List ViewOp

-- ---- Operations

-- The draft with another operation, unless the sum of their counts is then too great.
abbrev pub with_op : ViewDraft → ViewOp → Result ViewDraft Reason
with_op d o =
    if nat_le (sum_by (count d.block) d.ops + count d.block o) count_limit then Ok (record d { ops = d.ops ++ o ∷ [] })
    else Err reason.Range

-- A line of bytes to read.
abbrev pub get_line : ViewDraft → List ℕ → List ℕ → List ℕ → Result ViewDraft Reason
get_line d a b c = do
  path ← bytes_in a
  offset ← number_in 0 1099511627776 b
  len ← number_in 0 1048576 c
  with_op d (op.Get path offset len)

-- Bytes that end within the greatest length if they are written at an offset.
abbrev pub content_in : ℕ → List ℕ → Result (List ℕ) Reason
content_in offset word = bytes_in word >>= λ content.
    if nat_le (offset + length content) 16777216 then Ok content else Err reason.Range

-- A line of bytes to write.
abbrev pub put_line : ViewDraft → List ℕ → List ℕ → List ℕ → Result ViewDraft Reason
put_line d a b c = do
  path ← bytes_in a
  offset ← number_in 0 16777216 b
  content ← content_in offset c
  with_op d (op.Put path offset content)

-- ---- Lines

-- A choice may refuse nothing: its first word is 0.
abbrev pub unless_refuses : {A : Type 0} → List ℕ → List (List ℕ) → Result A Reason → Result A Reason
unless_refuses word words read =
    if bytes_eq word (codes "choice") then (two_words (λ a b. number_in 0 0 a) words >>= λ n. read) else read

-- The draft after a line of setup.
abbrev pub with_setup : ViewDraft → Option (Result Draft Reason) → Option (Result ViewDraft Reason)
with_setup d None = None
with_setup d (Some (Ok draft)) = Some (Ok (record d { draft = draft }))
with_setup d (Some (Err why)) = Some (Err why)

-- A line of an operation, by its first word and the words after it.
abbrev pub op_line : ViewDraft → List ℕ → List (List ℕ) → Result ViewDraft Reason
op_line d word words =
    if bytes_eq word (codes "get") then three_words (get_line d) words
    else if bytes_eq word (codes "put") then three_words (put_line d) words
    else Err reason.Word

-- A line of setup or of an operation.
abbrev pub any_line : ViewDraft → List ℕ → List (List ℕ) → Result ViewDraft Reason
any_line d word words = or_read (with_setup d (setup_line d.draft word words)) (op_line d word words)

-- A line by its first word and the words after it.
abbrev pub line_by : ViewDraft → List ℕ → List (List ℕ) → Result ViewDraft Reason
line_by d word words = unless_refuses word words (any_line d word words)

-- The draft before any line, for blocks of this length.
abbrev pub nothing_read : ℕ → ViewDraft
nothing_read block = record { block = block; draft = record { script = empty_script; named = [] }; ops = [] }

-- The list that was read, or the reason why it is refused.
abbrev pub list_in : Result ViewDraft (ℕ × Reason) → Result ViewList (ℕ × Reason)
list_in (Err why) = Err why
list_in (Ok d) = Ok (record { script = d.draft.script; ops = d.ops })

-- The list that bytes read as, for blocks of this length; or the number of the first line that is refused, counted from
-- 1, and the reason.
abbrev pub list_of : ℕ → List ℕ → Result ViewList (ℕ × Reason)
list_of block bytes = if nat_lt MAX_SCRIPT_LEN (length bytes) then Err (0, reason.Size) else
    list_in (read_by line_by 1 (nothing_read block) (lines_of bytes))
