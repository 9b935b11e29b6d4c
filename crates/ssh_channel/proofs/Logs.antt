-- The bytes that a link logs over several calls, whatever order sends and recvs have.
use Rattle.std.proofs.Common.{◌≡◌, ℕ, List, [], ◌∷◌, ◌++◌, refl, ap, sym, ◌∙◌, subst, append_assoc}
use Rattle.std.proofs.lemmas.List.{append-nil}
use Rattle.sftp_link.specs.Log.{AllGot, AllSent}
use Rattle.std.specs.Prelude.{Option}
use Rattle.sftp_link.specs.Told.{GotAll, SentAll, IfLogged}
use Rattle.sftp_link.specs.declared.piece.Piece.{Piece}
use Rattle.sftp_link.specs.declared.piece.Piece.TheVariants.{Got, Sent}
use Rattle.sftp_link.proofs.Telling.{told_as, told_on}
use Rattle.ssh_channel.specs.LogBytes.{LogsBytes, received_bytes, sent_bytes}

sent_bytes-append : (a b : List Piece) → sent_bytes (a ++ b) ≡ sent_bytes b ++ sent_bytes a
sent_bytes-append [] b = sym (append-nil (sent_bytes b))
sent_bytes-append (Sent piece ∷ a) b = ap (λ (w : List ℕ). w ++ piece) (sent_bytes-append a b)
    ∙ append_assoc (sent_bytes b) (sent_bytes a) piece
sent_bytes-append (Got piece ∷ a) b = sent_bytes-append a b

received_bytes-append : (a b : List Piece) → received_bytes (a ++ b) ≡ received_bytes b ++ received_bytes a
received_bytes-append [] b = sym (append-nil (received_bytes b))
received_bytes-append (Sent piece ∷ a) b = received_bytes-append a b
received_bytes-append (Got piece ∷ a) b = ap (λ (w : List ℕ). w ++ piece) (received_bytes-append a b)
    ∙ append_assoc (received_bytes b) (received_bytes a) piece

all_sent : (group : List Piece) (bytes : List ℕ) → AllSent group bytes → (sent_bytes group ≡ bytes)
    × (received_bytes group ≡ [])
all_sent [] bytes h = (sym h, refl)
all_sent (Sent piece ∷ before) bytes h =
    let r = all_sent before h.0 h.2 in (ap (λ (w : List ℕ). w ++ piece) r.0 ∙ sym h.1, r.1)
all_sent (Got piece ∷ before) bytes h = absurd h

all_got : (group : List Piece) (bytes : List ℕ) → AllGot group bytes → (sent_bytes group ≡ [])
    × (received_bytes group ≡ bytes)
all_got [] bytes h = (refl, sym h)
all_got (Got piece ∷ before) bytes h =
    let r = all_got before h.0 h.2 in (r.0, ap (λ (w : List ℕ). w ++ piece) r.1 ∙ sym h.1)
all_got (Sent piece ∷ before) bytes h = absurd h

pub logs_none : (a : List Piece) → LogsBytes [] [] a a
logs_none a = ([], refl, refl, refl)

pub logs_by_send : (bytes : List ℕ) (a b : List Piece) → SentAll bytes a b → LogsBytes bytes [] a b
logs_by_send bytes a b h = let r = all_sent h.0 bytes h.2 in (h.0, h.1, r.0, r.1)

pub logs_by_recv : (bytes : List ℕ) (a b : List Piece) → GotAll bytes a b → LogsBytes [] bytes a b
logs_by_recv bytes a b h = let r = all_got h.0 bytes h.2 in (h.0, h.1, r.0, r.1)

pub logs_on : (s g u h : List ℕ) (a b c : List Piece) → LogsBytes s g a b → LogsBytes u h b c
    → LogsBytes (s ++ u) (g ++ h) a c
logs_on s g u h a b c p q = (
  q.0 ++ p.0,
  q.1 ∙ (ap (λ (w : List Piece). q.0 ++ w) p.1 ∙ sym (append_assoc q.0 p.0 a)),
  sent_bytes-append q.0 p.0 ∙ (λ i. p.2 i ++ q.2 i),
  received_bytes-append q.0 p.0 ∙ (λ i. p.3 i ++ q.3 i),
)

-- A send, a packet that came, and a send.
pub logs_exchange : (r p a : List ℕ) (w x y z : List Piece) → SentAll r w x → GotAll p x y → SentAll a y z
    → LogsBytes (r ++ a) p w z
logs_exchange r p a w x y z f g h =
    let first : LogsBytes (r ++ []) p w y = logs_on r [] [] p w x y (logs_by_send r w x f) (logs_by_recv p x y g) in
    let begun : LogsBytes r p w y = subst (λ (s : List ℕ). LogsBytes s p w y) (append-nil r) first in
    let all : LogsBytes (r ++ a) (p ++ []) w z = logs_on r p a [] w y z begun (logs_by_send a y z h) in
    subst (λ (s : List ℕ). LogsBytes (r ++ a) s w z) (append-nil p) all

-- ---- The same of links that may report nothing

pub logged_sent : (bytes : List ℕ) (a b : Option (List Piece)) → IfLogged (SentAll bytes) a b
    → IfLogged (LogsBytes bytes []) a b
logged_sent bytes a b h = told_as (SentAll bytes) (LogsBytes bytes []) a b h (λ x y s. logs_by_send bytes x y s)

pub logged_on : (s g u h : List ℕ) (a b c : Option (List Piece)) → IfLogged (LogsBytes s g) a b
    → IfLogged (LogsBytes u h) b c
    → IfLogged (LogsBytes (s ++ u) (g ++ h)) a c
logged_on s g u h a b c p q = told_on (LogsBytes s g) (LogsBytes u h) (LogsBytes (s ++ u) (g ++ h)) a b c p q
    (λ x y z f k. logs_on s g u h x y z f k)

-- Bytes were sent, and then others came.
pub logged_asked : (sent got : List ℕ) (a b c : Option (List Piece)) → IfLogged (SentAll sent) a b
    → IfLogged (GotAll got) b c
    → IfLogged (LogsBytes sent got) a c
logged_asked sent got a b c p q =
    subst (λ (w : List ℕ). IfLogged (LogsBytes w got) a c) (append-nil sent)
    (logged_on sent [] [] got a b c (logged_sent sent a b p)
    (told_as (GotAll got) (LogsBytes [] got) b c q (λ x y s. logs_by_recv got x y s)))
