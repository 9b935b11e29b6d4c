-- A data packet that is written at once.
use Rattle.std.proofs.Common.{◌≡◌, ◌+◌, ℕ, List, ◌∷◌, ◌++◌, length, ap, arith, length-append}
use Rattle.std.specs.Int.{w32, to_be_bytes}
use Rattle.ssh_encoding.specs.Writing.{string, uint32}
use Rattle.ssh_channel.specs.Messages.{data_message, packet}

-- The length, the byte of padding length, the kind and the fields.
pub data_packet : (channel : ℕ) (bytes : List ℕ) → uint32 (10 + length bytes)
    ++ (0 ∷ 94 ∷ (uint32 channel ++ string bytes)) ≡ packet (data_message channel bytes)
unfolding string uint32 data_message
data_packet channel bytes =
    ap (λ (n : ℕ). to_be_bytes w32 n ++ (0 ∷ 94 ∷ (to_be_bytes w32 channel
    ++ (to_be_bytes w32 (length bytes) ++ bytes))))
    (omega (
      arith,
      length-append (to_be_bytes w32 channel) (to_be_bytes w32 (length bytes) ++ bytes),
      length-append (to_be_bytes w32 (length bytes)) bytes,
    ))
