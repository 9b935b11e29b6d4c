-- What pieces more do to a log.
use Rattle.std.proofs.Common.{◌≡◌, ℕ, List, [], ◌∷◌, ◌++◌, refl, ap, sym, ◌∙◌, subst, append_assoc, append-nil}
use Rattle.sftp_link.specs.declared.piece.Piece.{Piece}
use Rattle.sftp_link.specs.declared.piece.Piece.TheVariants.{Sent, Got}
use Rattle.sftp_link.specs.Log.{AllSent, SentOn}
use Rattle.sftp_serve.specs.Logs.{InOrder, got_bytes, sent_bytes}
use Rattle.sftp_serve.specs.Stream.{ServedState}

group_got : (group before : List Piece) (bytes : List ℕ) → AllSent group bytes → got_bytes (group ++ before)
    ≡ got_bytes before
group_got [] before bytes s = refl
group_got (Sent piece ∷ group) before bytes s = group_got group before s.0 s.2
group_got (Got piece ∷ group) before bytes s = absurd s

group_sent : (group before : List Piece) (bytes : List ℕ) → AllSent group bytes → sent_bytes (group ++ before)
    ≡ sent_bytes before ++ bytes
group_sent [] before bytes s = sym (append-nil (sent_bytes before))
    ∙ ap (λ (w : List ℕ). sent_bytes before ++ w) (sym s)
group_sent (Sent piece ∷ group) before bytes s =
    ap (λ (w : List ℕ). w ++ piece) (group_sent group before s.0 s.2)
    ∙ (append_assoc (sent_bytes before) s.0 piece ∙ ap (λ (w : List ℕ). sent_bytes before ++ w) (sym s.1))
group_sent (Got piece ∷ group) before bytes s = absurd s

group_order : (first : ServedState) (group before : List Piece) (bytes : List ℕ) → AllSent group bytes
    → InOrder first before → InOrder first (group ++ before)
group_order first [] before bytes s o = o
group_order first (Sent piece ∷ group) before bytes s o = group_order first group before s.0 s.2 o
group_order first (Got piece ∷ group) before bytes s o = absurd s

-- what was sent doesn't come
pub got_stays : (before now : List Piece) (bytes : List ℕ) → SentOn before now bytes → got_bytes now ≡ got_bytes before
got_stays before now bytes s = ap got_bytes s.1 ∙ group_got s.0 before bytes s.2

pub sent_grows : (before now : List Piece) (bytes : List ℕ) → SentOn before now bytes → sent_bytes now
    ≡ sent_bytes before ++ bytes
sent_grows before now bytes s = ap sent_bytes s.1 ∙ group_sent s.0 before bytes s.2

pub order_stays : (first : ServedState) (before now : List Piece) (bytes : List ℕ) → SentOn before now bytes
    → InOrder first before → InOrder first now
order_stays first before now bytes s o = subst (InOrder first) (sym s.1) (group_order first s.0 before bytes s.2 o)
