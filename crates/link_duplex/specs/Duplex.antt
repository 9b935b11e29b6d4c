-- The state of a link over a wire, and the effect of its calls.
use Rattle.std.specs.Prelude.{◌≡◌, ◌<◌, ◌≤◌, ℕ, Bool, false, List, [], ◌∷◌, ◌++◌, length, take, Option, Some, None, Result, Ok, Err, IfOk, IfSome, IfNone, OnErr, OnOk}
use Rattle.std.proofs.Common.{refl}
use Rattle.sftp_link.specs.Causes.{CountsDeviceFault}
use Rattle.sftp_link.specs.Told.{IfLogged}
use Rattle.sftp_link.specs.Views.{LinkView}
use Rattle.sftp_link.specs.declared.device_error.DeviceError.{DeviceError}
use Rattle.link_duplex.specs.WireSteps.{LogsSteps}
use Rattle.link_duplex.specs.Wires.{WireView}
use Rattle.link_duplex.specs.declared.wire.Readiness.{Readiness}
use Rattle.link_duplex.specs.declared.wire.Readiness.TheVariants.{Readable, Writable, Either}

-- The wire, the bytes that came over it and were not returned yet, the bytes that were sent and are still held back,
-- the number of bytes ahead from which on no more are read ahead, and whether the last call was a recv that found the
-- end.
pub record DuplexLinkState (W : Type 0) : Type 0 where
  pub wire : W
  pub ahead : List ℕ
  pub behind : List ℕ
  pub limit : ℕ
  pub ended : Bool

-- It reports no pieces, and its faults are those of the wire.
abbrev pub duplex_view : {W : Type 0} → (W → WireView) → DuplexLinkState W → LinkView (Unit {0})
duplex_view view l = record { log = None; faults = (view l.wire).faults; ended = l.ended; service = tt }

-- ---- All calls

-- A call that took some bytes to send and returned others. The bytes held back before, followed by those taken, are in
-- order those that were put and then those held back now. The bytes ahead before, followed by those got, are in order
-- those that were returned and then those ahead now. The waits are as `LogsSteps` says.
pub record MovesBytes {W : Type 0} (state : W → WireView) (taken given : List ℕ) (old new : DuplexLinkState W) : Type 0
  where
    pub put : List ℕ
    pub got : List ℕ
    pub out : old.behind ++ taken ≡ put ++ new.behind
    pub come : old.ahead ++ got ≡ given ++ new.ahead
    pub log : IfLogged (LogsSteps old.limit (length old.ahead) (length (old.behind ++ taken)) put got)
        (state old.wire).log (state new.wire).log
    pub limit : new.limit ≡ old.limit

-- ---- Sends

-- A send took some of the first bytes, or it failed and took none.
abbrev pub SendDid : {W : Type 0} → (W → WireView) → List ℕ → DuplexLinkState W → DuplexLinkState W
    → Result ℕ DeviceError
    → Type 0
SendDid state bytes old new (Ok n) = MovesBytes state (take n bytes) [] old new
SendDid state bytes old new (Err e) = MovesBytes state [] [] old new

-- All bytes held back were put; or that failed, and the rest is held back.
pub record FlushDid {W : Type 0} (state : W → WireView) (old new : DuplexLinkState W)
    (result : Result (Unit {0}) DeviceError) : Type 0 where
  pub moved : MovesBytes state [] [] old new
  pub all : OnOk result (new.behind ≡ [])
  pub cause : CountsDeviceFault (state old.wire).faults (state new.wire).faults result

-- ---- Recvs

-- A recv put bytes at the start of the room, or it failed and put none.
abbrev pub RecvDid : {W : Type 0} → (W → WireView) → List ℕ → DuplexLinkState W → DuplexLinkState W
    → Result ℕ DeviceError
    → Type 0
RecvDid state room old new (Ok n) = MovesBytes state [] (take n room) old new
RecvDid state room old new (Err e) = MovesBytes state [] [] old new × (new.ahead ≡ [])

-- If bytes were ahead, some of them were returned, and nothing else was done.
abbrev pub GivesAheadFirst : {W : Type 0} → DuplexLinkState W → DuplexLinkState W → Type 0
GivesAheadFirst old new = 0 < length old.ahead → new ≡ record old { ahead = new.ahead; ended = false }

-- ---- Parts of a recv

-- A recv waits for both directions, or only to read if nothing is held back.
abbrev pub IsNeededReadiness : Readiness → List ℕ → Type 0
IsNeededReadiness Either behind = Unit {0}
IsNeededReadiness Readable behind = behind ≡ []
IsNeededReadiness Writable behind = ⊥

-- The bytes that were returned.
abbrev pub bytes_given : List ℕ → Result (Option ℕ) DeviceError → List ℕ
bytes_given room (Ok (Some n)) = take n room
bytes_given room (Ok None) = []
bytes_given room (Err e) = []

-- Bytes that came were returned, or none had come, or it failed. Nothing was put.
pub record ReadsNow {W : Type 0} (state : W → WireView) (room : List ℕ) (old new : DuplexLinkState W)
    (result : Result (Option ℕ) DeviceError) : Type 0 where
  pub within : IfOk result (λ gave. IfSome gave (λ n. n ≤ length room))
  pub moved : MovesBytes state [] (bytes_given room result) old new
  pub none : IfOk result (λ gave. IfNone gave (new.ahead ≡ []))
  pub stops : OnErr result (new.ahead ≡ [])
  pub cause : CountsDeviceFault (state old.wire).faults (state new.wire).faults result
  pub behind : new.behind ≡ old.behind
  pub ended : new.ended ≡ old.ended

-- The same, after bytes held back were put.
pub record TakesTurn {W : Type 0} (state : W → WireView) (room : List ℕ) (old new : DuplexLinkState W)
    (result : Result (Option ℕ) DeviceError) : Type 0 where
  pub within : IfOk result (λ gave. IfSome gave (λ n. n ≤ length room))
  pub moved : MovesBytes state [] (bytes_given room result) old new
  pub none : IfOk result (λ gave. IfNone gave (new.ahead ≡ []))
  pub stops : OnErr result (new.ahead ≡ [])
  pub cause : CountsDeviceFault (state old.wire).faults (state new.wire).faults result
  pub ended : new.ended ≡ old.ended

-- ---- Worked row: over a wire that reports no steps, a send of three bytes while two are held back puts three of the
-- five and holds the last two back, and a byte that came meanwhile is appended to the one ahead

abbrev silent_wire : Unit {0} → WireView
silent_wire wire = record { log = None; faults = 0 }

abbrev link_with : List ℕ → List ℕ → DuplexLinkState (Unit {0})
link_with ahead behind = record { wire = tt; ahead = ahead; behind = behind; limit = 65536; ended = false }

pub send_moves_bytes : MovesBytes silent_wire (3 ∷ 4 ∷ 5 ∷ []) [] (link_with (8 ∷ []) (1 ∷ 2 ∷ []))
    (link_with (8 ∷ 9 ∷ []) (4 ∷ 5 ∷ []))
send_moves_bytes = record {
  put = 1 ∷ 2 ∷ 3 ∷ [];
  got = 9 ∷ [];
  out = refl;
  come = refl;
  log = tt;
  limit = refl;
}
