-- Worked links that serve and that don't, and the state of a session after an error.
use Rattle.std.specs.Prelude.{◌≡◌, ℕ, true, false, List, [], ◌∷◌, ◌++◌, None, refl}
use Rattle.std.proofs.Common.{arith, append-nil, sym, ◌∙◌}
use Rattle.ssh_encoding.specs.Writing.{string, uint32}
use Rattle.sftp_model.specs.declared.error.Error.TheVariants as error
use Rattle.sftp_model.specs.ReplyReadings.{reply_at, reply_fields_at, version_at}
use Rattle.sftp_model.specs.Readings.{extensions_at}
use Rattle.ssh_encoding.specs.Reading.{byte_at}
use Rattle.sftp_core.specs.declared.errors.TakeError.TheVariants as take
use Rattle.sftp_link.specs.declared.piece.Piece.TheVariants.{Sent}
use Rattle.session_model.specs.RowWords.{send}
use Rattle.session_model.specs.Shown.{hello_frame}
use Rattle.session_driver.specs.Logs.{IsAhead, by_fault, by_send, even}
use Rattle.session_driver.specs.ServingLinks.{GivesGood, IsOne, IsVersion, ServesLanes}
use Rattle.session_driver.specs.Session.{SessionInputs}

-- ---- Bytes that a link gives

no_frame : (body rest : List ℕ) → [] ≡ string body ++ rest → ⊥
unfolding string uint32
no_frame body rest e = cc e

one_nothing : IsOne []
one_nothing body rest some short e = absurd (no_frame body rest e)

-- Three bytes of a VERSION have come, and the rest may still come.
pub in_version : GivesGood IsVersion (0 ∷ 0 ∷ 0 ∷ []) false
unfolding reply_at reply_fields_at version_at extensions_at byte_at string uint32
in_version = record {
  body = 2 ∷ uint32 3;
  read = (None, _);
  rest = [];
  tail = 5 ∷ 2 ∷ uint32 3;
  framed = refl;
  some = omega arith;
  short = omega arith;
  reads = refl;
  is_good = (record { 0 = 0 }, refl);
  whole = λ ended. absurd cc;
}

-- The link ended before the VERSION was whole.
pub cut_version : GivesGood IsVersion [] true → ⊥
cut_version g = no_frame g.body g.rest (sym (append-nil []) ∙ (λ i. [] ++ sym (g.whole refl) i) ∙ g.framed)

-- ---- Links

-- A link that ended once it had the hello serves no lanes.
pub ends_at_hello : (given : SessionInputs) → ServesLanes given (Sent hello_frame ∷ []) true → ⊥
ends_at_hello given serves =
    cut_version (serves.greets (Sent hello_frame ∷ []) [] (Sent hello_frame ∷ [], refl, ([], refl, refl))
    ([], refl, refl) one_nothing)

-- ---- After an error

-- If a link failed within a Send, the session has recorded it.
pub noted_send : IsAhead error.LinkFault [] (send ∷ [])
noted_send = by_send tt refl

-- At the end of a link the session is not ahead of the log.
pub ahead_of_the_end : IsAhead error.LinkEnded [] (send ∷ []) → ⊥
ahead_of_the_end (even same) = absurd cc
ahead_of_the_end (by_send why is) = why
ahead_of_the_end (by_fault take.OutOfMemory fault e kept is) = absurd cc
ahead_of_the_end (by_fault other fault e kept is) = absurd cc

-- Nor is it ahead by two Sends after a fault of the link.
pub two_sends : IsAhead error.LinkFault [] (send ∷ send ∷ []) → ⊥
two_sends (even same) = absurd cc
two_sends (by_send why is) = absurd cc
two_sends (by_fault take.OutOfMemory fault e kept is) = absurd cc
two_sends (by_fault other fault e kept is) = absurd cc
