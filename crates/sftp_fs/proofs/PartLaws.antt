-- The parts of a whole write.
use Rattle.std.proofs.Common.{◌≡◌, ◌∙◌, ◌+◌, ◌<◌, ◌≤◌, ◌^◌, arith, ap, ℕ, List, [], ◌∷◌, length, take}
use Rattle.std.proofs.lemmas.List.{append-nil, length-take}
use Rattle.sftp_model.specs.Numbers.{MAX_TRANSFER_LEN}
use Rattle.sftp_model.specs.Pieces.{joined_pieces}
use Rattle.sftp_model.specs.declared.slot.Facts.{Facts}
use Rattle.plan_model.specs.TransferPlans.{next_part, part_len}
use Rattle.sftp_model.specs.Frames.{is_too_long}
use Rattle.plan_state.specs.Asked.{request_of}
use Rattle.plan_state.specs.declared.submission.Asking.{Asking}
use Rattle.plan_state.specs.declared.submission.Asking.TheVariants.{Parts}
use Rattle.sftp_file.proofs.BodyLens.{write_is_short}
use Rattle.sftp_fs.specs.Parts.{IsPart, PartValue, asked_part}

-- one piece joins to itself
pub one_joined : (piece : List ℕ) → joined_pieces (piece ∷ []) ≡ piece
one_joined piece = append-nil piece

pub part_length : (facts : Facts) (rest : List ℕ) → length (next_part facts rest) ≡ part_len facts rest
part_length facts rest = length-take (part_len facts rest) rest ∙ omega arith

-- a part that was cut out
pub cut_part : (m : PartValue) (len : ℕ) (piece : List ℕ) (parts : List (List ℕ)) (handle : List ℕ) → handle ≡ m.handle
    → length m.handle ≤ 256 → m.facts.write_len ≤ MAX_TRANSFER_LEN → len ≡ part_len m.facts m.rest → 0 < len
    → m.done + length m.rest < 2 ^ 63 → piece ≡ take len m.rest → parts ≡ piece ∷ []
    → IsPart m (Parts handle m.done parts) × (len ≡ part_len m.facts m.rest)
cut_part m len piece parts handle bears fits range is some room cut one =
    let whole : piece ≡ next_part m.facts m.rest = cut ∙ ap (λ (n : ℕ). take n m.rest) is in
    let asked : Parts handle m.done parts ≡ asked_part m =
    (λ i. Parts (bears i) m.done (one i)) ∙ ap (λ (p : List ℕ). Parts m.handle m.done (p ∷ [])) whole in (
      record {
        asks = asked;
        some = omega (arith, is, some);
        room = omega (arith, is, room);
        short = ap (λ (a : Asking). is_too_long (request_of a)) asked
            ∙ write_is_short m.handle m.done (joined_pieces (next_part m.facts m.rest ∷ [])) fits
            (omega (
              arith,
              ap (λ (l : List ℕ). length l) (one_joined (next_part m.facts m.rest)),
              part_length m.facts m.rest,
              range,
            ));
      },
      is,
    )
