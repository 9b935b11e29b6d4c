-- believed, except after_calls, ◌>>=◌, ComesTo
-- The effect of operations by the outcomes of the calls that they make: the calls, the answers, and the blocks that are
-- kept.
use Rattle.std.specs.Prelude.{
  ◌≡◌,
  ℕ,
  zero,
  suc,
  ◌+◌,
  ◌-◌,
  ◌*◌,
  ◌==◌,
  ◌||◌,
  true,
  List,
  [],
  ◌∷◌,
  ◌++◌,
  length,
  take,
  drop,
  Option,
  Some,
  None,
  Result,
  Ok,
  Err,
  nat_le,
  nat_lt,
  if◌then◌else◌,
}
use Rattle.std.specs.declared.io.traits.SeekFrom.TheVariants as position
use Rattle.std.specs.Map.{lookup}
use Rattle.sftp_model.specs.Numbers.{SSH_FX_FAILURE}
use Rattle.sftp_model.specs.OpenOptions.{nothing_chosen}
use Rattle.sftp_model.specs.declared.error.Error.{Error}
use Rattle.sftp_model.specs.declared.error.Error.TheVariants as error
use Rattle.sftp_model.specs.declared.open_options.OpenOptions.{OpenOptions}
use Rattle.sftp_model.specs.declared.outcome.Outcome.{Outcome}
use Rattle.sftp_model.specs.declared.outcome.Outcome.TheVariants as outcome
use Rattle.machine_model.specs.Components.{components}
use Rattle.plan_model.specs.declared.call.Call.{Call}
use Rattle.plan_model.specs.declared.call.Call.TheVariants as call
use Rattle.view_model.specs.Blocks.{
  Kept,
  block_count,
  without_blocks_of,
  first_block,
  count_hit,
  count_miss,
  missed_with,
  nothing_kept,
}
use Rattle.view_model.specs.Keys.{key_of, same_key}
use Rattle.view_model.specs.ViewOps.{passes_length}
use Rattle.view_model.specs.declared.answer.Answer.{Answer}
use Rattle.view_model.specs.declared.answer.Answer.TheVariants as answer
use Rattle.view_model.specs.declared.key.BlockKey.{BlockKey}
use Rattle.view_model.specs.declared.op.ViewOp.{ViewOp}
use Rattle.view_model.specs.declared.op.ViewOp.TheVariants as op

-- ---- Calls, all on the first slot

abbrev pub reads_only : OpenOptions
reads_only = record nothing_chosen { read = true }

abbrev pub makes_and_writes : OpenOptions
makes_and_writes = record nothing_chosen { write = true; create = true }

abbrev pub open_call : OpenOptions → List ℕ → Call
open_call options path = call.OpenFile 0 options path

abbrev pub seek_call : ℕ → Call
seek_call offset = call.Seek 0 (position.Start offset)

abbrev pub read_call : ℕ → Call
read_call n = call.Read 0 n

abbrev pub write_file_call : List ℕ → Call
write_file_call bytes = call.WriteAll 0 bytes

abbrev pub close_file_call : Call
close_file_call = call.Close 0

-- ---- The result of an outcome

-- The status of a refusal. These calls are refused only by a STATUS.
abbrev pub code_of : Error → ℕ
code_of (error.SftpError code message language) = code
code_of other = SSH_FX_FAILURE

-- Bytes, or the status of a refusal.
abbrev pub Found : Type 0
Found = Result (List ℕ) ℕ

-- The result of a call: its refusal, its bytes, or nothing.
abbrev pub found_in : Outcome → Found
found_in (outcome.Bytes bytes) = Ok bytes
found_in (outcome.Refused why) = Err (code_of why)
found_in other = Ok []

-- ---- Operations, call by call

-- The calls that were made, their result, and the outcomes of the calls after them.
pub record Made (T : Type 0) : Type 0 where
  pub calls : List Call
  pub value : T
  pub later : List Outcome

-- An operation by the outcomes of its calls.
abbrev pub Doing : Type 0 → Type 0
Doing T = List Outcome → Made T

-- Calls before those that were made.
abbrev pub after_calls : {T : Type 0} → List Call → Made T → Made T
after_calls calls m = record { calls = calls ++ m.calls; value = m.value; later = m.later }

-- A result without a call.
abbrev pub pure : {T : Type 0} → T → Doing T
pure x outcomes = record { calls = []; value = x; later = outcomes }

-- One operation, and then another that depends on its result.
infixl 10 ◌>>=◌
abbrev pub ◌>>=◌ : {A B : Type 0} → Doing A → (A → Doing B) → Doing B
(m >>= f) outcomes = after_calls (m outcomes).calls (f (m outcomes).value (m outcomes).later)

-- One call and its result; the result is nothing if it has no outcome yet.
abbrev pub makes : Call → Doing Found
makes c [] = record { calls = c ∷ []; value = Ok []; later = [] }
makes c (o ∷ later) = record { calls = c ∷ []; value = found_in o; later = later }

-- A refusal ends the operation.
abbrev pub unless_refused : {T : Type 0} → Found → (ℕ → T) → Doing T → Doing T
unless_refused (Ok bytes) refused go = go
unless_refused (Err code) refused go = pure (refused code)

-- ---- One block

-- After a READ: the file has ended, or the block is full, or more of it is read.
abbrev pub was_read : ℕ → List ℕ → Found → (List ℕ → Doing Found) → Doing Found
was_read block bytes (Err code) go = pure (Err code)
was_read block bytes (Ok more) go =
    if (length more == 0) || nat_le block (length (bytes ++ more)) then pure (Ok (bytes ++ more)) else
    go (bytes ++ more)

-- READs of the missing bytes, at most this many.
abbrev pub read_on : ℕ → ℕ → List ℕ → Doing Found
read_on block zero bytes = pure (Ok bytes)
read_on block (suc most) bytes = do
  found ← makes (read_call (block - length bytes))
  was_read block bytes found (λ more. read_on block most more)

-- A block of an open file. It is read until it is full, the file ends or a READ is refused, and the file is closed.
-- Each READ except the last returns at least a byte.
abbrev pub read_at : ℕ → ℕ → Doing Found
read_at block n = do
  sought ← makes (seek_call (n * block))
  found ← read_on block block []
  closed ← makes close_file_call
  pure found

-- A block of a file.
abbrev pub fetched_block : ℕ → List ℕ → ℕ → Doing Found
fetched_block block path n = do
  opened ← makes (open_call reads_only path)
  unless_refused opened (λ code. Err code) (read_at block n)

-- ---- The blocks of a get

-- The bytes so far or the refusal, and the blocks that are kept.
pub record Gathered : Type 0 where
  pub found : Found
  pub kept : Kept (List ℕ)

-- A block that was not kept is kept now, unless it is refused.
abbrev pub missed_by : ℕ → BlockKey → Kept (List ℕ) → Found → Gathered
missed_by capacity key kept (Ok bytes) = record { found = Ok bytes; kept = missed_with capacity key bytes kept }
missed_by capacity key kept (Err code) = record { found = Err code; kept = count_miss kept }

-- A block, which is kept already or is read.
abbrev pub block_by : ℕ → ℕ → List ℕ → ℕ → Kept (List ℕ) → Option (List ℕ) → Doing Gathered
block_by block capacity path n kept (Some bytes) =
    pure (record { found = Ok bytes; kept = count_hit (key_of (components path) n) kept })
block_by block capacity path n kept None = do
  found ← fetched_block block path n
  pure (missed_by capacity (key_of (components path) n) kept found)

-- After a block: one that isn't whole is the last.
abbrev pub was_gathered : ℕ → List ℕ → Found → Kept (List ℕ) → (List ℕ → Doing Gathered) → Doing Gathered
was_gathered block bytes (Err code) kept go = pure (record { found = Err code; kept = kept })
was_gathered block bytes (Ok more) kept go =
    if nat_lt (length more) block then pure (record { found = Ok (bytes ++ more); kept = kept }) else go (bytes ++ more)

-- m blocks from the n-th on, in order, after the bytes of those before them.
abbrev pub gather_blocks : ℕ → ℕ → List ℕ → ℕ → ℕ → List ℕ → Kept (List ℕ) → Doing Gathered
gather_blocks block capacity path n zero bytes kept = pure (record { found = Ok bytes; kept = kept })
gather_blocks block capacity path n (suc m) bytes kept = do
  g ← block_by block capacity path n kept (lookup (same_key (key_of (components path) n)) kept.entries)
  was_gathered block bytes g.found g.kept (λ more. gather_blocks block capacity path (n + 1) m more g.kept)

-- ---- Operations

-- An answer, and the blocks that are kept then.
pub record Answered : Type 0 where
  pub answer : Answer
  pub kept : Kept (List ℕ)

abbrev pub answered_with : Answer → Kept (List ℕ) → Answered
answered_with a kept = record { answer = a; kept = kept }

-- The bytes that were asked for, from the blocks that start with the first.
abbrev pub got_of : ℕ → ℕ → Found → Answer
got_of skipped len (Ok bytes) = answer.Got (take len (drop skipped bytes))
got_of skipped len (Err code) = answer.Refused code

abbrev pub get_by : ℕ → ℕ → List ℕ → ℕ → ℕ → Kept (List ℕ) → Doing Answered
get_by block capacity path offset len kept = do
  g ← gather_blocks block capacity path (first_block block offset) (block_count block offset len) [] kept
  pure (answered_with (got_of (offset - first_block block offset * block) len g.found) g.kept)

-- The answer by the result of the write.
abbrev pub put_of : Found → Answer
put_of (Ok bytes) = answer.Put
put_of (Err code) = answer.Refused code

-- Bytes are written to an open file, and it is closed.
abbrev pub put_at : ℕ → List ℕ → Doing Answer
put_at offset content = do
  sought ← makes (seek_call offset)
  write_bytes ← makes (write_file_call content)
  closed ← makes close_file_call
  pure (put_of write_bytes)

-- Bytes are written to a file.
abbrev pub write_bytes : List ℕ → ℕ → List ℕ → Doing Answer
write_bytes path offset content = do
  opened ← makes (open_call makes_and_writes path)
  unless_refused opened (λ code. answer.Refused code) (put_at offset content)

-- The blocks of its name are dropped, whether or not the write succeeded.
abbrev pub put_by : List ℕ → ℕ → List ℕ → Kept (List ℕ) → Doing Answered
put_by path offset content kept = do
  a ← write_bytes path offset content
  pure (answered_with a (without_blocks_of (components path) kept))

-- One operation.
abbrev pub op_by : ℕ → ℕ → ViewOp → Kept (List ℕ) → Doing Answered
op_by block capacity (op.Get path offset len) kept =
    if len == 0 then pure (answered_with (answer.Got []) kept)
    else if passes_length path then pure (answered_with answer.TooLong kept)
    else get_by block capacity path offset len kept
op_by block capacity (op.Put path offset content) kept =
    if passes_length path then pure (answered_with answer.TooLong kept) else put_by path offset content kept

-- All answers, and the blocks kept at the end.
pub record Viewed : Type 0 where
  pub answers : List Answer
  pub kept : Kept (List ℕ)

-- Operations after others that were answered.
abbrev pub viewed_from : ℕ → ℕ → List ViewOp → List Answer → Kept (List ℕ) → Doing Viewed
viewed_from block capacity [] answers kept = pure (record { answers = answers; kept = kept })
viewed_from block capacity (o ∷ ops) answers kept = do
  a ← op_by block capacity o kept
  viewed_from block capacity ops (answers ++ a.answer ∷ []) a.kept

-- All operations.
abbrev pub view_all : ℕ → ℕ → List ViewOp → Doing Viewed
view_all block capacity ops = viewed_from block capacity ops [] nothing_kept

-- ---- The remaining operation

-- After these calls and their outcomes, this operation remains.
pub record ComesTo {T : Type 0} (whole rest : Doing T) (calls : List Call) (outcomes : List Outcome) : Type 0 where
  pub by : (later : List Outcome) → whole (outcomes ++ later) ≡ after_calls calls (rest later)
