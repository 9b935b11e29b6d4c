-- Worked lines and statuses of a replay that differs.
use Rattle.std.specs.Prelude.{◌≡◌, true, false, [], codes, Ok, Err, refl}
use Rattle.ssh_encoding.specs.Writing.{uint32, string}
use Rattle.program_shell.specs.declared.ending.Answered.TheVariants.{Done, Stopped, Refused}
use Rattle.program_shell.specs.declared.ending.ProgramFailure.TheVariants.{SourceFailed, SinkFailed, OutOfMemory}
use Rattle.sftp_model.specs.declared.reply.Reply.TheVariants as reply
use Rattle.sftp_model.specs.Frames.{reply_body}
use Rattle.sftp_share.specs.Ended.{share_status}
use Rattle.sftp_share.specs.Shared.{differs_line}

-- At place 1 the machine returns the bytes `hello`.
pub tells_the_data : differs_line 1 (reply.Content (codes "hello")) ≡ codes "differs 1 data 0000000568656c6c6f\n"
unfolding reply_body uint32 string
tells_the_data = refl

pub tells_a_status : differs_line 12 (reply.Status 2 [] []) ≡ codes "differs 12 status 000000020000000000000000\n"
unfolding reply_body uint32 string
tells_a_status = refl

pub serves_by_0 : share_status false (Ok Done) ≡ 0
serves_by_0 = refl

pub differs_by_7 : share_status true (Ok Done) ≡ 7
differs_by_7 = refl

-- An error, a refusal and a failure have their own status, whatever the result of a replay.
pub stops_by_1 : share_status true (Ok Stopped) ≡ 1
stops_by_1 = refl

pub refuses_by_2 : share_status false (Ok Refused) ≡ 2
refuses_by_2 = refl

pub fails_by_3 : share_status false (Err SourceFailed) ≡ 3
fails_by_3 = refl

pub fails_by_4 : share_status true (Err SinkFailed) ≡ 4
fails_by_4 = refl

pub starves_by_5 : share_status true (Err OutOfMemory) ≡ 5
starves_by_5 = refl
