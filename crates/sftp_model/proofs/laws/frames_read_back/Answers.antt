use Rattle.sftp_model.proofs.ReplyBacks.{reply_back, limits_back}
use Rattle.sftp_model.proofs.RequestBacks.{request_back}
use Rattle.sftp_model.proofs.laws.frames_read_back.Goals as goal

pub returns : goal.returns
returns c = record { requests = request_back; replies = reply_back; limits = limits_back }
