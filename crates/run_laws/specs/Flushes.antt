-- believed
-- Lanes that open a file in a slot, buffer it, write to it and flush it, by their calls and the reported outcomes.
use Rattle.std.specs.Prelude.{◌≡◌, ◌≢◌, ◌<◌, ◌==◌, ◌||◌, ℕ, suc, Bool, true, false, List, [], take, drop, Some}
use Rattle.sftp_model.specs.declared.outcome.Outcome.{Outcome}
use Rattle.sftp_model.specs.declared.outcome.Outcome.TheVariants as outcome
use Rattle.machine_model.specs.Components.{Name, components}
use Rattle.sftp_model.specs.OpenOptions.{flags_of}
use Rattle.sftp_model.specs.declared.open_options.OpenOptions.{OpenOptions}
use Rattle.plan_model.specs.WholePlans.{to_replace}
use Rattle.plan_model.specs.declared.call.Call.{Call}
use Rattle.plan_model.specs.declared.call.Call.TheVariants as call
use Rattle.plan_model.specs.declared.call.Lane.{Lane}
use Rattle.run_laws.specs.NameCalls.{all_keep_off, may_own, none_writes}
use Rattle.run_laws.specs.ReadsBack.{call_in, calls_in, outcome_in}

-- The numbers of four calls of a lane: an `open`, a `buffer`, a `buf_write_all` and a `buf_flush`.
pub record FlushNumbers : Type 0 where
  pub opener : ℕ
  pub bufferer : ℕ
  pub writer : ℕ
  pub flusher : ℕ

-- The calls are made in this order.
abbrev pub AreInOrder : FlushNumbers → Type 0
AreInOrder n = (n.opener < n.bufferer) × (n.bufferer < n.writer) × (n.writer < n.flusher)

-- True if the call with this number is one of the four.
abbrev pub is_one_of_four : FlushNumbers → ℕ → Bool
is_one_of_four n k = k == n.opener || k == n.bufferer || k == n.writer || k == n.flusher

-- A name belongs to one lane alone, except for four calls of it. Each of the lane's other calls writes or reads a file
-- as a whole, or keeps off the name and opens no file. The calls of all other lanes keep off the name.
pub record IsAloneBut (lanes : List Lane) (name : Name) (lane : ℕ) (n : FlushNumbers) : Type 0 where
  pub own : (k : ℕ) (c : Call) → call_in lanes lane k ≡ Some c → is_one_of_four n k ≡ false → may_own name c ≡ true
  pub others : (other : ℕ) → other ≢ lane → all_keep_off name [] (calls_in lanes other) ≡ true

-- These four calls open the name's file in a slot and create or truncate it, buffer it, write bytes to it and flush it.
-- All ended well, and no other call writes the name's file between the first of them and a later call.
pub record FlushesLast (lanes : List Lane) (outcomes : List (List Outcome)) (name : Name) (lane : ℕ) (n : FlushNumbers)
    (reader : ℕ) (bytes : List ℕ) : Type 0 where
  pub slot : ℕ
  pub len : ℕ
  pub options : OpenOptions
  pub path : List ℕ
  pub anew : flags_of options ≡ to_replace
  pub denotes : components path ≡ name
  pub opens : call_in lanes lane n.opener ≡ Some (call.OpenFile slot options path)
  pub buffers : call_in lanes lane n.bufferer ≡ Some (call.Buffer slot len)
  pub writes : call_in lanes lane n.writer ≡ Some (call.BufWriteAll slot bytes)
  pub flushes : call_in lanes lane n.flusher ≡ Some (call.BufFlush slot)
  pub opened : outcome_in outcomes lane n.opener ≡ Some outcome.Opened
  pub buffered : outcome_in outcomes lane n.bufferer ≡ Some outcome.Done
  pub written : outcome_in outcomes lane n.writer ≡ Some outcome.Done
  pub flushed : outcome_in outcomes lane n.flusher ≡ Some outcome.Done
  pub in_order : AreInOrder n
  pub earlier : n.flusher < reader
  pub last : none_writes name (drop (suc n.opener) (take reader (calls_in lanes lane))) ≡ true
