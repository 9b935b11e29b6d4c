-- The lengths of files that were written or cut.
use Rattle.std.proofs.Common.{◌≡◌, ℕ, ◌+◌, ◌-◌, List, ◌++◌, length, take, drop, arith}
use Rattle.std.specs.Prelude.{max, replicate}
use Rattle.std.proofs.lemmas.List.{length-append, length-take, length-drop, length-replicate}
use Rattle.machine_model.specs.FileTree.{written_at, resized_bytes}

pub length_resized : (size : ℕ) (bytes : List ℕ) → length (resized_bytes size bytes) ≡ size
length_resized size bytes =
    let gap : List ℕ = replicate (size - length bytes) 0 in
    let both = length-append (take size bytes) gap in
    let front = length-take size bytes in
    let zeros : length gap ≡ size - length bytes = length-replicate (size - length bytes) 0 in
    omega (arith, both, front, zeros)

pub length_put : (bytes : List ℕ) (offset : ℕ) (piece : List ℕ) → length (written_at bytes offset piece)
    ≡ max (length bytes) (offset + length piece)
length_put bytes offset piece =
    let a = length-append (resized_bytes offset bytes ++ piece) (drop (offset + length piece) bytes) in
    let b = length-append (resized_bytes offset bytes) piece in
    let r = length_resized offset bytes in
    let d = length-drop (offset + length piece) bytes in
    omega (arith, a, b, r, d)
