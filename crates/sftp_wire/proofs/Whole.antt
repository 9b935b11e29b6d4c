-- A length and as many bytes spell those bytes.
use Rattle.std.proofs.Common.{◌≡◌, ◌<◌, ◌≤◌, ℕ, ◌+◌, List, ◌++◌, length, take, drop, get_or, refl, ap, sym, ◌∙◌, arith, length-drop, length-take, inl, inr}
use Rattle.std.proofs.lemmas.List.{take-append-drop, get_or-take, get_or_past}
use Rattle.std.proofs.lemmas.Bool.{cases_lt}
use Rattle.std.proofs.lemmas.Nat.{be_bytes_4}
use Rattle.ssh_encoding.specs.Writing.{string, uint32}
use Rattle.sftp_wire.specs.FrameReader.{told_len}

take_bytes : (n : ℕ) (bytes : List ℕ) → ((i : ℕ) → get_or bytes i 0 < 256) → (i : ℕ) → get_or (take n bytes) i 0 < 256
take_bytes n bytes fits i =
    elim (cases_lt i n) [
      | inl lt ↦ rw (get_or-take n bytes i 0 lt) (fits i)
      | inr le ↦ rw (get_or_past (take n bytes) i 0 (omega (arith, length-take n bytes))) (omega arith)
    ]

pub spelled : (bytes : List ℕ) → ((i : ℕ) → get_or bytes i 0 < 256) → 4 ≤ length bytes → length bytes
    ≡ 4 + told_len bytes → bytes ≡ string (drop 4 bytes)
unfolding string uint32
spelled bytes fits some whole =
    let len : told_len bytes ≡ length (drop 4 bytes) = omega (arith, length-drop 4 bytes) in
    let four : length (take 4 bytes) ≡ 4 = omega (arith, length-take 4 bytes) in
    let back : uint32 (told_len bytes) ≡ take 4 bytes = be_bytes_4 (take 4 bytes) (told_len bytes) four
    (take_bytes 4 bytes fits) refl in
    sym (take-append-drop 4 bytes) ∙ ap (λ (w : List ℕ). w ++ drop 4 bytes) (sym back ∙ ap uint32 len)
