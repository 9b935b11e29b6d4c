-- Packets that came over a link.
use Rattle.std.proofs.Common.{◌≡◌, ◌≤◌, ◌<◌, ℕ, List, [], ◌∷◌, ◌++◌, length, take, drop, get_or, true, ap, sym, ◌∙◌, subst, arith, append_assoc}
use Rattle.std.specs.Prelude.{Ok}
use Rattle.std.specs.Int.{w32, from_be_bytes, to_be_bytes}
use Rattle.std.proofs.lemmas.List.{append-nil, length-take}
use Rattle.std.proofs.lemmas.Nat.{be_bytes_4}
use Rattle.std.proofs.Math.Seq.{take-append_seam}
use Rattle.ssh_encoding.specs.Writing.{string, uint32}
use Rattle.sftp_link.specs.Causes.{CountsDeviceFault}
use Rattle.sftp_link.specs.Log.{AllGot}
use Rattle.sftp_link.specs.Told.{FillsRoom, GotAll}
use Rattle.sftp_link.specs.Views.{LinkView}
use Rattle.sftp_link.specs.declared.piece.Piece.{Piece}
use Rattle.sftp_link.specs.declared.piece.Piece.TheVariants.{Got, Sent}
use Rattle.sftp_link.proofs.Telling.{told_on}
use Rattle.ssh_channel.specs.LogBytes.{ReceivesPacket}
use Rattle.ssh_channel.specs.declared.packets.Packet.TheVariants.{Whole}

all_got_append : (late early : List Piece) (back front : List ℕ) → AllGot late back → AllGot early front
    → AllGot (late ++ early) (front ++ back)
all_got_append [] early back front p q = subst (λ (w : List ℕ). AllGot early w)
    (sym (ap (λ (w : List ℕ). front ++ w) p ∙ append-nil front)) q
all_got_append (Got piece ∷ late) early back front p q = (
  front ++ p.0,
  ap (λ (w : List ℕ). front ++ w) p.1 ∙ sym (append_assoc front p.0 piece),
  all_got_append late early p.0 front p.2 q,
)
all_got_append (Sent piece ∷ late) early back front p q = absurd p

got_all_on : (front back : List ℕ) (a b c : List Piece) → GotAll front a b → GotAll back b c
    → GotAll (front ++ back) a c
got_all_on front back a b c p q = (
  q.0 ++ p.0,
  q.1 ∙ (ap (λ (w : List Piece). q.0 ++ w) p.1 ∙ sym (append_assoc q.0 p.0 a)),
  all_got_append q.0 p.0 back front q.2 p.2,
)

-- A length came, and then that many bytes.
pub comes_whole : {S : Type 0} (head room : List ℕ) (n : ℕ) (x y z : LinkView S) → length head ≡ 4
    → ((i : ℕ) → get_or head i 0 < 256)
    → n ≡ from_be_bytes w32 head → n ≤ length room → FillsRoom head x.log y.log (Ok true)
    → FillsRoom (take n room) y.log z.log (Ok true)
    → CountsDeviceFault x.faults z.faults (Ok (Whole n)) → z.service ≡ x.service
    → ReceivesPacket room x z (Ok (Whole n))
unfolding string uint32
comes_whole head room n x y z four bytes is le first second cause same =
    let len : length (take n room) ≡ n = omega (arith, length-take n room) in
    let whole : head ++ take n room ≡ string (take n room) =
    ap (λ (w : List ℕ). w ++ take n room) (sym (be_bytes_4 head n four bytes is))
    ∙ ap (λ (k : ℕ). to_be_bytes w32 k ++ take n room) (sym len) in
    record {
      log = (
        le,
        told_on (GotAll head) (GotAll (take n room)) (GotAll (string (take n room))) x.log y.log z.log first second
            (λ a b c p q. subst (λ (w : List ℕ). GotAll w a c) whole (got_all_on head (take n room) a b c p q)),
      );
      cause = cause;
      same = same;
    }

-- The same in the buffer of a vector.
pub comes_so : {S : Type 0} (head put items : List ℕ) (len n : ℕ) (x y z : LinkView S) → length put ≡ len
    → ReceivesPacket put x z (Ok (Whole n))
    → ReceivesPacket (take len (put ++ drop (length put) items)) x z (Ok (Whole n))
comes_so head put items len n x y z is next =
    subst (λ (w : List ℕ). ReceivesPacket w x z (Ok (Whole n)))
    (sym (subst (λ (k : ℕ). take k (put ++ drop (length put) items) ≡ put) is
    (take-append_seam put (drop (length put) items)))) next
