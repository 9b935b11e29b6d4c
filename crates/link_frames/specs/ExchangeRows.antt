-- Worked bytes of frames, and errors that no run may return.
use Rattle.std.specs.Prelude.{◌≡◌, ℕ, List, [], ◌∷◌, ◌++◌, refl}
use Rattle.std.proofs.Common.{arith, inl, inr}
use Rattle.sftp_model.specs.declared.error.Error.TheVariants as error
use Rattle.sftp_model.specs.declared.flags.Extensions.{Extensions}
use Rattle.sftp_model.specs.declared.frame_error.FormatKind.TheVariants as kinds
use Rattle.sftp_link.specs.declared.piece.Piece.TheVariants.{Sent}
use Rattle.link_frames.specs.Causes.{IsRunError}
use Rattle.link_frames.specs.Gathering.{SentBut}
use Rattle.link_frames.specs.Reading.{IsBadLength, IsFramePart, IsFramePrefix, IsOfOneFrame}

-- ---- The bytes of a frame

-- A body of two bytes is announced, and one of them has come.
pub in_body : IsFramePart (0 ∷ 0 ∷ 0 ∷ 2 ∷ 9 ∷ [])
in_body = record { unfaulted = refl; short = omega arith }

-- Both bytes have come.
pub all_of_it : IsFramePrefix (0 ∷ 0 ∷ 0 ∷ 2 ∷ 9 ∷ 9 ∷ [])
all_of_it = record { unfaulted = refl; within = λ le. omega arith }

-- Then the bytes are not a part of a frame.
pub no_part : IsFramePart (0 ∷ 0 ∷ 0 ∷ 2 ∷ 9 ∷ 9 ∷ []) → ⊥
no_part p = let s = p.short in absurd (omega (arith, s))

-- A byte past the frame does not belong to it.
pub past_it : IsOfOneFrame (0 ∷ 0 ∷ 0 ∷ 2 ∷ 9 ∷ 9 ∷ 9 ∷ []) → ⊥
past_it (inl prefix) = let w = prefix.within (omega arith) in absurd (omega (arith, w))
past_it (inr four) = absurd (omega (arith, four))

-- No frame has zero bytes.
pub no_bytes : IsBadLength kinds.Length (0 ∷ 0 ∷ 0 ∷ 0 ∷ [])
no_bytes = record { four = refl; bad = refl }

pub none_of_it : IsFramePrefix (0 ∷ 0 ∷ 0 ∷ 0 ∷ []) → ⊥
none_of_it p = let u = p.unfaulted in absurd cc

-- ---- Gathered bytes

-- Two bytes were sent; the third is still gathered.
pub gathered : SentBut (1 ∷ 2 ∷ 3 ∷ []) (3 ∷ []) [] (Sent (1 ∷ 2 ∷ []) ∷ [])
gathered = (1 ∷ 2 ∷ [], refl, (Sent (1 ∷ 2 ∷ []) ∷ [], refl, ([], refl, refl)))

-- The gathered bytes come last.
pub gathered_first : SentBut (1 ∷ 2 ∷ []) (1 ∷ []) [] (Sent (2 ∷ []) ∷ []) → ⊥
gathered_first (sent, is, on) = by_sent sent is
  where
    by_sent : (sent : List ℕ) → 1 ∷ 2 ∷ [] ≡ sent ++ 1 ∷ [] → ⊥
    by_sent [] e = absurd cc
    by_sent (x ∷ []) e = absurd cc
    by_sent (x ∷ y ∷ []) e = absurd cc
    by_sent (x ∷ y ∷ z ∷ more) e = absurd cc

-- ---- Errors

pub the_end : IsRunError error.LinkEnded
the_end = tt

pub no_extension : (extension : Extensions) → IsRunError (error.UnsupportedExtension extension) → ⊥
no_extension extension is = is
