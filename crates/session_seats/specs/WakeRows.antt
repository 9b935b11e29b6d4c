-- Worked rows of the threads that a hold concerns.
use Rattle.std.specs.Prelude.{◌≡◌, ℕ, [], ◌∷◌, Some, true}
use Rattle.std.proofs.Common.{refl}
use Rattle.sftp_model.specs.declared.reply.Reply.{Reply}
use Rattle.sftp_model.specs.declared.request.Request.TheVariants as request
use Rattle.session_model.specs.declared.entry.Entry.{Entry}
use Rattle.session_model.specs.declared.entry.Entry.TheVariants as entry
use Rattle.session_model.specs.declared.event.Event.TheVariants.{Submit, Send, Take}
use Rattle.session_model.specs.declared.event.Owner.{Owner}
use Rattle.session_model.specs.declared.event.Owner.TheVariants as owner
use Rattle.session_seats.specs.declared.wakes.LaneSet.TheVariants as lane_set
use Rattle.session_seats.specs.declared.wakes.Tide.{Tide}
use Rattle.session_seats.specs.declared.wakes.Waiter.TheVariants as waiter
use Rattle.session_seats.specs.SeatRows.{in_phase}
use Rattle.session_seats.specs.Wakes.{
  ChangeCounts,
  change_counts,
  concerns,
  count_of,
  counts_after,
  everybody,
  nobody,
  submitter,
  tide_of,
}

abbrev pub tide : ℕ → ℕ → ℕ → Tide
tide written stage phase = record { written = written; stage = stage; phase = phase }

abbrev pub request_of : Owner → ℕ → Entry
request_of o id = entry.Event (Submit o id request.LimitsQuery)

abbrev pub reply_to : Reply → ℕ → Entry
reply_to r id = entry.Event (Take id r)

-- ---- Entries

-- Frames that are handed out concern nobody.
pub handing_out : concerns (tide 2 0 4) (tide 2 0 4) (entry.Event Send ∷ []) [] ≡ nobody
handing_out = refl

pub request_for_sender : concerns (tide 2 0 4) (tide 2 0 4) (request_of (owner.Call 1 0) 7 ∷ []) []
    ≡ record nobody { sender = true }
request_for_sender = refl

-- So does a CLOSE that the session submits as it takes a reply.
pub close_for_sender : (r : Reply) → concerns (tide 2 0 4) (tide 2 0 4) (request_of owner.Close 8 ∷ reply_to r 7 ∷ [])
    (request_of (owner.Call 1 0) 7 ∷ []) ≡ record { sender = true; reader = true; lanes = lane_set.One 1 }
close_for_sender r = refl

pub reply_for_its_lane : (r : Reply) → concerns (tide 2 0 4) (tide 2 0 4) (reply_to r 7 ∷ [])
    (request_of (owner.Call 2 0) 6 ∷ request_of (owner.Call 1 0) 7 ∷ [])
    ≡ record nobody { reader = true; lanes = lane_set.One 1 }
reply_for_its_lane r = refl

-- An id is used again: its last request counts.
pub last_request : submitter 7 (request_of (owner.Call 2 0) 7 ∷ request_of (owner.Call 1 0) 7 ∷ [])
    ≡ Some (owner.Call 2 0)
last_request = refl

-- No lane waits for the reply to a CLOSE of the session.
pub reply_to_close : (r : Reply) → concerns (tide 2 0 4) (tide 2 0 4) (reply_to r 8 ∷ [])
    (request_of owner.Close 8 ∷ [])
    ≡ record nobody { reader = true }
reply_to_close r = refl

-- Two lanes, or an unknown request, are all lanes.
pub two_replies : (r : Reply) → concerns (tide 2 0 4) (tide 2 0 4) (reply_to r 6 ∷ reply_to r 7 ∷ [])
    (request_of (owner.Call 2 0) 6 ∷ request_of (owner.Call 1 0) 7 ∷ [])
    ≡ record nobody { reader = true; lanes = lane_set.All }
two_replies r = refl

pub unknown_request : (r : Reply) → concerns (tide 2 0 4) (tide 2 0 4) (reply_to r 7 ∷ []) []
    ≡ record nobody { reader = true; lanes = lane_set.All }
unknown_request r = refl

-- ---- Numbers

pub written_for_reader : concerns (tide 2 0 4) (tide 3 0 4) [] [] ≡ record nobody { reader = true }
written_for_reader = refl

pub stage_for_workers : concerns (tide 2 1 4) (tide 2 2 4) [] [] ≡ record nobody { sender = true; reader = true }
stage_for_workers = refl

pub phase_for_everybody : concerns (tide 2 0 4) (tide 2 0 5) [] [] ≡ everybody
phase_for_everybody = refl

-- A session that opens concerns everybody, by what it shows before and after.
pub opens_for_everybody : concerns (tide_of (in_phase 3)) (tide_of (in_phase 4)) [] [] ≡ everybody
opens_for_everybody = refl

-- ---- Counts

abbrev pub counts : ChangeCounts
counts = change_counts 3 4 (5 ∷ 6 ∷ [])

pub one_lane_counts : counts_after (record nobody { lanes = lane_set.One 1 }) counts ≡ change_counts 3 4 (5 ∷ 7 ∷ [])
one_lane_counts = refl

pub everybody_counts : counts_after everybody counts ≡ change_counts 4 5 (6 ∷ 7 ∷ [])
everybody_counts = refl

-- Lane 2 has no count of its own: it waits as the reader does.
pub lane_as_reader : counts_after (record nobody { lanes = lane_set.One 2 }) counts ≡ change_counts 3 5 (5 ∷ 6 ∷ [])
lane_as_reader = refl

pub waits_as_reader : count_of (waiter.Lane 2) counts ≡ 4
waits_as_reader = refl

pub counts_start_again : counts_after (record nobody { sender = true }) (change_counts 18446744073709551615 0 [])
    ≡ change_counts 0 0 []
counts_start_again = refl
