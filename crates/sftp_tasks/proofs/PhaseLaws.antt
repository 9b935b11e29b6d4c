-- The numbers of phases.
use Rattle.std.specs.Prelude.{◌≢◌}
use Rattle.std.proofs.Common.{◌≡◌, ◌≤◌, ◌<◌, ℕ, ◌==◌, sym, ap, subst, arith, refl, Option}
use Rattle.std.specs.Prelude.{Result}
use Rattle.session_driver.specs.declared.session.Phase.{Phase}
use Rattle.session_driver.specs.declared.session.Phase.TheVariants.{Fresh, Greeted, Asking, Queried, Open, Failed}
use Rattle.sftp_lanes.specs.Events.{TakesIn}
use Rattle.sftp_lanes.specs.Seen.{SessionValue}
use Rattle.sftp_model.specs.declared.frame_error.FrameError.{FrameError}
use Rattle.sftp_model.specs.declared.reply.Reply.{Reply}
use Rattle.sftp_tasks.specs.Phases.{is_open_in, phase_number}

-- a phase that stays
pub number_stays : (old new : Phase) → new ≡ old → phase_number old ≤ phase_number new
number_stays old new is = subst (λ (p : Phase). phase_number old ≤ phase_number p) (sym is) (omega arith)

-- a phase that becomes a later one
pub number_rises : (old new p q : Phase) → p ≡ old → new ≡ q → phase_number p ≤ phase_number q
    → phase_number old ≤ phase_number new
number_rises old new p q was is less = subst (λ (x : Phase). phase_number x ≤ phase_number new) was
    (subst (λ (x : Phase). phase_number p ≤ phase_number x) (sym is) less)

-- the last number
failed_most : (p : Phase) → phase_number p ≤ 5
failed_most Fresh = omega arith
failed_most Greeted = omega arith
failed_most Asking = omega arith
failed_most Queried = omega arith
failed_most Open = omega arith
failed_most Failed = omega arith

pub number_fails : (old new : Phase) → new ≡ Failed → phase_number old ≤ phase_number new
number_fails old new is = number_rises old new old Failed refl is (failed_most old)

pub number_unfailed : (p : Phase) → p ≢ Failed → phase_number p < 5
number_unfailed Fresh is = omega arith
number_unfailed Greeted is = omega arith
number_unfailed Asking is = omega arith
number_unfailed Queried is = omega arith
number_unfailed Open is = omega arith
number_unfailed Failed is = absurd (is refl)

pub open_by_number : (p : Phase) → is_open_in p ≡ (phase_number p == phase_number Open)
open_by_number Fresh = refl
open_by_number Greeted = refl
open_by_number Asking = refl
open_by_number Queried = refl
open_by_number Open = refl
open_by_number Failed = refl

-- a session that takes a frame has not failed
pub takes_unfailed : (p : Phase) (body_reads : Result (Option ℕ × Reply) FrameError) (old new : SessionValue)
    → TakesIn p body_reads old new → p ≢ Failed
takes_unfailed Fresh body_reads old new h = absurd h
takes_unfailed Greeted body_reads old new h = λ is. absurd (cc is)
takes_unfailed Asking body_reads old new h = absurd h
takes_unfailed Queried body_reads old new h = λ is. absurd (cc is)
takes_unfailed Open body_reads old new h = λ is. absurd (cc is)
takes_unfailed Failed body_reads old new h = absurd h
