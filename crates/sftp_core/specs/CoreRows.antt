-- Worked examples of the effect of replies and tickets on a core, each beside a case that nearly is one.
use Rattle.std.specs.Prelude.{◌≡◌, refl, true, false, ℕ, [], ◌∷◌, ◌++◌, codes, None, Some, Ok, Err}
use Rattle.sftp_model.specs.Frames.{request_body, frames_of}
use Rattle.sftp_model.specs.Hex.{hex}
use Rattle.ssh_encoding.specs.Writing.{uint32, uint64, string, or_else}
use Rattle.sftp_model.specs.declared.answers.Expected.TheVariants as expected
use Rattle.sftp_model.specs.declared.error.Fault.TheVariants as fault
use Rattle.sftp_model.specs.declared.flags.Extensions.{Extensions}
use Rattle.sftp_model.specs.declared.reply.Reply.TheVariants as reply
use Rattle.sftp_core.specs.declared.errors.SubmitError.TheVariants as submit
use Rattle.sftp_core.specs.declared.errors.TakeError.TheVariants as take
use Rattle.sftp_core.specs.declared.id_record.IdRecord.TheVariants.{Waiting, Answered}
use Rattle.sftp_core.specs.declared.tokens.Polled.TheVariants as polled
use Rattle.sftp_model.specs.Options.{default_options}
use Rattle.sftp_core.specs.Info.{lengths_of}
use Rattle.sftp_model.specs.Lengths.{offers_limits}
use Rattle.sftp_core.specs.Core.{fresh, handed_out, queued_parts, poll_gives, release_gives, refusal_of, is_ticket}
use Rattle.sftp_core.specs.Take.{wrong_version, wrong_at, wrong_limits, fault_of}

abbrev with_bits : ℕ → Extensions
with_bits bits = record { 0 = bits }

-- The hello is the first frame.
pub hello_first : frames_of (fresh default_options).queue ≡ 0 ∷ 0 ∷ 0 ∷ 5 ∷ 1 ∷ 0 ∷ 0 ∷ 0 ∷ 3 ∷ []
unfolding request_body uint32 string
hello_first = refl

-- The head of a WRITE is a piece, and so is each part that is not empty.
pub write_pieces : (queued_parts (handed_out (fresh default_options)) 5 (97 ∷ []) 0
    ((1 ∷ []) ∷ [] ∷ (2 ∷ 3 ∷ []) ∷ [])).pieces ≡ hex (codes "0000001906000000050000000161"
    ++ codes "000000000000000000000003") ∷ (1 ∷ []) ∷ (2 ∷ 3 ∷ []) ∷ []
unfolding request_body uint32 uint64 string
write_pieces = refl

-- Only version 3, and no reply except VERSION.
pub version_three : wrong_version (reply.Version 3 (with_bits 0)) ≡ None
version_three = refl

pub version_two : wrong_version (reply.Version 2 (with_bits 0)) ≡ Some (take.Protocol 2)
version_two = refl

pub version_four : wrong_version (reply.Version 4 (with_bits 0)) ≡ Some (take.Protocol 4)
version_four = refl

pub no_version : wrong_version (reply.Handle []) ≡ Some (take.InvalidResponse None)
no_version = refl

-- The bit of the limits.
pub limits_offered : offers_limits (with_bits 33) ≡ true
limits_offered = refl

pub limits_unoffered : offers_limits (with_bits 31) ≡ false
limits_unoffered = refl

-- The id is checked before the kind.
pub id_first : wrong_at 5 (reply.Handle []) (Some (Waiting expected.Status false true))
    ≡ Some (take.InvalidResponseId 5)
id_first = refl

pub then_kind : wrong_at 5 (reply.Handle []) (Some (Waiting expected.Status true true))
    ≡ Some (take.InvalidResponse (Some 5))
then_kind = refl

pub abandoned_too : wrong_at 5 (reply.Handle []) (Some (Waiting expected.Status true false))
    ≡ Some (take.InvalidResponse (Some 5))
abandoned_too = refl

pub nothing_there : wrong_at 5 (reply.Handle []) None ≡ Some (take.InvalidResponseId 5)
nothing_there = refl

pub answered_twice : wrong_at 5 (reply.Content (1 ∷ [])) (Some (Answered (expected.Content 2) (reply.Content (1 ∷ []))))
    ≡ Some (take.InvalidResponseId 5)
answered_twice = refl

pub full_content : wrong_at 5 (reply.Content (1 ∷ 2 ∷ [])) (Some (Waiting (expected.Content 2) true true)) ≡ None
full_content = refl

pub long_content : wrong_at 5 (reply.Content (1 ∷ 2 ∷ 3 ∷ [])) (Some (Waiting (expected.Content 2) true true))
    ≡ Some (take.InvalidResponse (Some 5))
long_content = refl

-- The limits are checked last.
pub status_for_limits : or_else (wrong_at 0 (reply.Status 4 [] []) (Some (Waiting expected.Limits true false)))
    (wrong_limits (reply.Status 4 [] [])) ≡ Some (take.LimitsRefused 4 [] [])
status_for_limits = refl

pub good_status_for_limits : or_else (wrong_at 0 (reply.Status 0 [] []) (Some (Waiting expected.Limits true false)))
    (wrong_limits (reply.Status 0 [] [])) ≡ Some (take.InvalidResponse (Some 0))
good_status_for_limits = refl

pub refused_limits_kept : fault_of (take.LimitsRefused 4 [] []) ≡ Some (fault.Limits 4)
refused_limits_kept = refl

-- A kept fault comes before the length, and a taken reply before a fault.
pub fault_before_length : refusal_of (Some fault.Link) true ≡ Some (submit.Failed fault.Link)
fault_before_length = refl

pub reply_before_fault : poll_gives 5 (Some fault.Link) (Some (Answered expected.Status (reply.Status 0 [] [])))
    ≡ Ok (polled.Reply (reply.Status 0 [] []))
reply_before_fault = refl

pub grant_before_fault : poll_gives 5 (Some fault.Link) (Some (Answered expected.Handle (reply.Handle (7 ∷ []))))
    ≡ Ok (polled.Granted (record { id = 5; handle = 7 ∷ [] }))
grant_before_fault = refl

pub fault_for_unanswered : poll_gives 5 (Some fault.Link) (Some (Waiting expected.Status false true))
    ≡ Ok (polled.Failed fault.Link)
fault_for_unanswered = refl

pub ticket_back : poll_gives 5 None (Some (Waiting expected.Status true true)) ≡ Err 5
ticket_back = refl

-- An abandoned request's ticket is no longer counted.
pub no_ticket_left : is_ticket (Some (Waiting expected.Handle true false)) ≡ false
no_ticket_left = refl

-- The CLOSE comes with the last user.
pub last_user : release_gives (record { id = 5; handle = [] }) 1 ≡ Some 5
last_user = refl

pub two_users : release_gives (record { id = 5; handle = [] }) 2 ≡ None
two_users = refl

-- The read length and the write length in their places.
pub own_lengths : lengths_of (Some (record { packet_len = 0; read_len = 9; write_len = 5; open_handles = 0 }))
    (record default_options { max_write_len = Some 4 }) ≡ (9, 4)
own_lengths = refl
