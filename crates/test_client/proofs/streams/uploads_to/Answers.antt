use Rattle.test_client.proofs.Streaming.{upload_may}
use Rattle.test_client.proofs.streams.uploads_to.Goals as goal

pub upload_all-answer-requires-clause-may : goal.upload_all-answer-requires-clause-may
upload_all-answer-requires-clause-may c =
    upload_may c.core.result.now c.args.file.now 2 c.in_ok-upload.upload c.in_ok-upload.ensures.begins
    c.in_ok-upload.ensures.held
