-- Worked requests and turns of a lane that creates directories, and the outcomes that plain calls may have.
use Rattle.std.specs.Prelude.{◌≡◌, true, false, [], ◌∷◌, codes, refl}
use Rattle.sftp_model.specs.Frames.{attributes, no_attributes, request_body}
use Rattle.sftp_model.specs.declared.outcome.Outcome.TheVariants as outcome
use Rattle.sftp_model.specs.declared.request.Request.TheVariants as request
use Rattle.ssh_encoding.specs.Writing.{string, uint32}
use Rattle.plan_model.specs.declared.call.Call.TheVariants as call
use Rattle.session_model.specs.declared.turn.Turn.TheVariants as turn
use Rattle.run_ending_laws.specs.FirstMkdirs.{call_turns, mkdirs, times_then}
use Rattle.run_ending_laws.specs.PlainCalls.{is_plain_call, may_end}

-- A MKDIR for each.
pub two_are_made : mkdirs (codes "a" ∷ codes "a/b" ∷ []) ≡ request.Mkdir (codes "a") no_attributes
    ∷ request.Mkdir (codes "a/b") no_attributes ∷ []
unfolding request_body string uint32 attributes
two_are_made = refl

-- Two calls of lane 0, followed by others.
pub two_calls_first : times_then 2 (call_turns 0) (turn.Step 1 ∷ [])
    ≡ turn.Step 0 ∷ turn.Flush ∷ turn.Take ∷ turn.Step 0 ∷ turn.Step 0 ∷ turn.Flush ∷ turn.Take ∷ turn.Step 0
    ∷ turn.Step 1 ∷ []
two_calls_first = refl

-- A whole write returns no bytes, and is not given up; a whole read may be.
pub write_is_done : may_end (call.FsWrite (codes "a") []) outcome.Done ≡ true
write_is_done = refl

pub write_brings_none : may_end (call.FsWrite (codes "a") []) (outcome.Bytes []) ≡ false
write_brings_none = refl

pub read_may_give_up : may_end (call.FsRead (codes "a") 1) outcome.GivenUp ≡ true
read_may_give_up = refl

pub read_is_not_done : may_end (call.FsRead (codes "a") 1) outcome.Done ≡ false
read_is_not_done = refl

pub none_is_cancelled : may_end (call.FsRead (codes "a") 1) outcome.Cancelled ≡ false
none_is_cancelled = refl

-- A call that removes a name is no plain call.
pub removal_is_not_plain : is_plain_call (call.Remove (codes "a")) ≡ false
removal_is_not_plain = refl
