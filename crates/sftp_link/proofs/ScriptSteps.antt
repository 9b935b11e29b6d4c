-- What is begun and sent on a scripted link.
use Rattle.std.proofs.lemmas.List.{append-nil}
use Rattle.std.proofs.Common.{◌≡◌, ◌<◌, ℕ, List, [], ◌∷◌, ◌++◌, length, refl, ap, sym, ◌∙◌, arith, append_assoc}
use Rattle.sftp_link.specs.declared.piece.Piece.{Piece}
use Rattle.sftp_link.specs.declared.piece.Piece.TheVariants.{Sent, Got}
use Rattle.sftp_link.specs.declared.piece.Scripted.{Scripted}
use Rattle.sftp_link.specs.Script.{ScriptAhead, begun_from, with_item_begun, bytes_sent}

still_begun_from : (sent rest : List ℕ) (items : List Scripted) → 0 < length rest
    → record { rest = rest; items = items } ≡ begun_from sent rest items
still_begun_from sent [] items some = absurd (omega arith)
still_begun_from sent (x ∷ rest) items some = refl

-- while bytes of the item are left no other is begun
pub still_begun : (sent : List ℕ) (ahead : ScriptAhead) → 0 < length ahead.rest → ahead ≡ with_item_begun sent ahead
still_begun sent ahead some = still_begun_from sent ahead.rest ahead.items some

-- a piece more that was sent, or got
pub bytes_sent-sent : (pieces : List Piece) (bytes : List ℕ) → bytes_sent (pieces ++ Sent bytes ∷ [])
    ≡ bytes_sent pieces ++ bytes
bytes_sent-sent [] bytes = append-nil bytes
bytes_sent-sent (Sent piece ∷ later) bytes = ap (λ (w : List ℕ). piece ++ w) (bytes_sent-sent later bytes)
    ∙ sym (append_assoc piece (bytes_sent later) bytes)
bytes_sent-sent (Got piece ∷ later) bytes = bytes_sent-sent later bytes

pub bytes_sent-got : (pieces : List Piece) (bytes : List ℕ) → bytes_sent (pieces ++ Got bytes ∷ []) ≡ bytes_sent pieces
bytes_sent-got [] bytes = refl
bytes_sent-got (Sent piece ∷ later) bytes = ap (λ (w : List ℕ). piece ++ w) (bytes_sent-got later bytes)
bytes_sent-got (Got piece ∷ later) bytes = bytes_sent-got later bytes
