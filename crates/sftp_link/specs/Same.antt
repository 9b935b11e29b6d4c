-- Equality of pieces and of scripted items: `==` decides it.
use Rattle.std.specs.Prelude.{◌≡◌}
use Rattle.std.specs.Bool.{Decides}
use Rattle.std.specs.Cmp.Lexicographic.{bytes_decides}
use Rattle.std.proofs.lemmas.Bool.Decides.{Decides-eqb}
use Rattle.std.proofs.Common.{ap}
use Rattle.sftp_values.specs.Same.{and_decides, decides_by}
use Rattle.sftp_link.specs.declared.piece.Piece.{Piece}
use Rattle.sftp_link.specs.declared.piece.Piece.TheVariants.{Sent, Got}
use Rattle.sftp_link.specs.declared.piece.Scripted.{Scripted}
use Rattle.sftp_link.specs.declared.piece.Scripted.TheVariants.{Raw, To}
use Rattle.sftp_link.specs.contracts.piece.PiecePartialEq.TheImpl as piece
use Rattle.sftp_link.specs.contracts.piece.ScriptedPartialEq.TheImpl as scripted

pub piece_decides : (a b : Piece) → Decides (piece.ghosts.eq a b) (a ≡ b)
piece_decides (Sent a) (Sent b) = decides_by _ (λ e. ap (λ x. Sent x) e) (λ e. cc) (bytes_decides a b)
piece_decides (Got a) (Got b) = decides_by _ (λ e. ap (λ x. Got x) e) (λ e. cc) (bytes_decides a b)
piece_decides (Sent a) (Got b) = (λ e. absurd cc, λ e. absurd cc)
piece_decides (Got a) (Sent b) = (λ e. absurd cc, λ e. absurd cc)

pub scripted_decides : (a b : Scripted) → Decides (scripted.ghosts.eq a b) (a ≡ b)
scripted_decides (Raw a) (Raw b) = decides_by _ (λ e. ap (λ x. Raw x) e) (λ e. cc) (bytes_decides a b)
scripted_decides (To r f k a) (To s g l b) =
    decides_by _ (λ h. λ i. To (h.0 i) (h.1.0 i) (h.1.1.0 i) (h.1.1.1 i)) (λ e. (cc, (cc, (cc, cc))))
    (and_decides _ _ (Decides-eqb r s) (and_decides _ _ (Decides-eqb f g)
    (and_decides _ _ (Decides-eqb k l) (bytes_decides a b))))
scripted_decides (Raw a) (To s g l b) = (λ e. absurd cc, λ e. absurd cc)
scripted_decides (To r f k a) (Raw b) = (λ e. absurd cc, λ e. absurd cc)
