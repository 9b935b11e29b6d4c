-- believed
-- The contents of a link's log. A log has its newest piece first.
use Rattle.std.specs.Prelude.{◌≡◌, ℕ, List, [], ◌∷◌, ◌++◌}
use Rattle.sftp_link.specs.declared.piece.Piece.{Piece}
use Rattle.sftp_link.specs.declared.piece.Piece.TheVariants.{Sent, Got}

-- Every piece was sent, and joined they are these bytes.
abbrev pub AllSent : List Piece → List ℕ → Type 0
AllSent [] bytes = bytes ≡ []
AllSent (Sent piece ∷ before) bytes = (prefix : List ℕ) × (bytes ≡ prefix ++ piece) × AllSent before prefix
AllSent (Got piece ∷ before) bytes = ⊥

-- Every piece was received, and joined they are these bytes.
abbrev pub AllGot : List Piece → List ℕ → Type 0
AllGot [] bytes = bytes ≡ []
AllGot (Got piece ∷ before) bytes = (prefix : List ℕ) × (bytes ≡ prefix ++ piece) × AllGot before prefix
AllGot (Sent piece ∷ before) bytes = ⊥

-- The log is the earlier log, followed by pieces that were sent and that are these bytes when joined.
abbrev pub SentOn : List Piece → List Piece → List ℕ → Type 0
SentOn before now bytes = (group : List Piece) × (now ≡ group ++ before) × AllSent group bytes

-- The log is the earlier log, followed by pieces that were received and that are these bytes when joined.
abbrev pub GotOn : List Piece → List Piece → List ℕ → Type 0
GotOn before now bytes = (group : List Piece) × (now ≡ group ++ before) × AllGot group bytes
