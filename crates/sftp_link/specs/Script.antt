-- A scripted link, and the results of its calls.
use Rattle.std.specs.Prelude.{
  ◌≡◌,
  ℕ,
  List,
  [],
  ◌∷◌,
  ◌++◌,
  take,
  drop,
  length,
  min,
  Bool,
  true,
  false,
  ◌==◌,
  filter,
  Option,
  Some,
  None,
  Result,
  Ok,
  Err,
  if◌then◌else◌,
}
use Rattle.sftp_link.specs.declared.device_error.DeviceError.{DeviceError}
use Rattle.sftp_link.specs.declared.device_error.DeviceError.TheVariants.{OutOfMemory, Failed}
use Rattle.sftp_link.specs.declared.piece.Piece.{Piece}
use Rattle.sftp_link.specs.declared.piece.Piece.TheVariants.{Sent, Got}
use Rattle.sftp_link.specs.declared.piece.Scripted.{Scripted}
use Rattle.sftp_link.specs.declared.piece.Scripted.TheVariants.{Raw, To}
use Rattle.sftp_link.specs.Calls.{Counted, fails_next, after_call}
use Rattle.sftp_link.specs.Frames.{item_bytes}

-- The items that a link has still to send: the rest of the item that was started, and the items after it.
pub record ScriptAhead : Type 0 where
  pub rest : List ℕ
  pub items : List Scripted

-- True if the item has bytes or may have some; an item without bytes is passed over.
abbrev pub has_bytes : Scripted → Bool
has_bytes (Raw []) = false
has_bytes (Raw (x ∷ bytes)) = true
has_bytes (To request flip kind fields) = true

-- The state before the first call.
abbrev pub ahead_of : List Scripted → ScriptAhead
ahead_of items = record { rest = []; items = filter has_bytes items }

-- The item is started if it has its bytes.
abbrev pub ahead_of_items : Option (List ℕ) → Scripted → List Scripted → ScriptAhead
ahead_of_items None item items = record { rest = []; items = item ∷ items }
ahead_of_items (Some bytes) item items = record { rest = bytes; items = items }

-- The next item is started if nothing is left of the one before.
abbrev pub begun_from : List ℕ → List ℕ → List Scripted → ScriptAhead
begun_from sent (x ∷ rest) items = record { rest = x ∷ rest; items = items }
begun_from sent [] [] = record { rest = []; items = [] }
begun_from sent [] (item ∷ items) = ahead_of_items (item_bytes sent item) item items

abbrev pub with_item_begun : List ℕ → ScriptAhead → ScriptAhead
with_item_begun sent ahead = begun_from sent ahead.rest ahead.items

-- The state after n bytes were received.
abbrev pub after_bytes_given : ℕ → ScriptAhead → ScriptAhead
after_bytes_given n ahead = record { rest = drop n ahead.rest; items = ahead.items }

-- All the bytes that were sent. The pieces have the oldest first.
abbrev pub bytes_sent : List Piece → List ℕ
bytes_sent [] = []
bytes_sent (Sent piece ∷ later) = piece ++ bytes_sent later
bytes_sent (Got piece ∷ later) = bytes_sent later

-- A scripted link. Its pieces have the oldest first.
pub record ScriptState : Type 0 where
  pub ahead : ScriptAhead
  pub cut : ℕ
  pub pieces : List Piece
  pub ended : Bool
  pub calls : Counted

-- No call was made on the link.
pub record IsUncalled (link : ScriptState) : Type 0 where
  pub pieces : link.pieces ≡ []
  pub ended : link.ended ≡ false
  pub made : link.calls.made ≡ 0
  pub faults : link.calls.faults ≡ 0

-- The number of bytes limited by the cut; 0 is no limit.
abbrev pub length_cut_at : ℕ → ℕ → ℕ
length_cut_at cut n = if cut == 0 then n else min n cut

-- The bytes that come next: the rest of the item that was started, or the next item if it has its bytes.
abbrev pub next_bytes : ScriptState → ScriptAhead
next_bytes link = with_item_begun (bytes_sent link.pieces) link.ahead

-- The state after a call that moved no bytes.
abbrev pub after_error : ScriptState → ScriptState
after_error link = record {
  ahead = link.ahead;
  cut = link.cut;
  pieces = link.pieces;
  ended = false;
  calls = after_call link.calls;
}

-- The state after a send of these bytes.
abbrev pub after_send : ScriptState → List ℕ → ScriptState
after_send link bytes = record {
  ahead = link.ahead;
  cut = link.cut;
  pieces = link.pieces ++ Sent bytes ∷ [];
  ended = false;
  calls = after_call link.calls;
}

-- The state after a recv of n bytes.
abbrev pub after_recv : ScriptState → ℕ → ScriptState
after_recv link n = record {
  ahead = after_bytes_given n (next_bytes link);
  cut = link.cut;
  pieces = link.pieces ++ Got (take n (next_bytes link).rest) ∷ [];
  ended = n == 0;
  calls = after_call link.calls;
}

-- A send fails exactly if its number is listed. Otherwise it takes the bytes up to the cut, or an allocation failed.
unfoldable pub SendsNext : ScriptState → ScriptState → List ℕ → Result ℕ DeviceError → Type 0
SendsNext before now bytes (Ok n) =
    (fails_next before.calls ≡ false) × (n ≡ length_cut_at before.cut (length bytes))
    × (now ≡ after_send before (take n bytes))
SendsNext before now bytes (Err Failed) = (fails_next before.calls ≡ true) × (now ≡ after_error before)
SendsNext before now bytes (Err OutOfMemory) = (fails_next before.calls ≡ false) × (now ≡ after_error before)

-- A recv fails exactly if its number is listed. Otherwise it returns the bytes that come next, up to the cut and the
-- room, or an allocation failed.
unfoldable pub ReceivesNext : ScriptState → ScriptState → List ℕ → Result ℕ DeviceError → Type 0
ReceivesNext before now room (Ok n) =
    (fails_next before.calls ≡ false) × (n ≡ min (length_cut_at before.cut (length room))
    (length (next_bytes before).rest))
    × (take n room ≡ take n (next_bytes before).rest) × (now ≡ after_recv before n)
ReceivesNext before now room (Err Failed) = (fails_next before.calls ≡ true) × (now ≡ after_error before)
ReceivesNext before now room (Err OutOfMemory) = (fails_next before.calls ≡ false) × (now ≡ after_error before)
