use Rattle.std.proofs.Common.{◌≡◌, ◌∙◌, ap, sym, ◌∷◌, true}
use Rattle.sftp_model.specs.declared.answers.Expected.TheVariants as expected
use Rattle.sftp_streams.specs.Uploads.{UploadValue}
use Rattle.sftp_streams.proofs.StatusLaws.{first_awaited, writes_fault, writes_status}
use Rattle.sftp_streams.proofs.upload.Upload.poll.Goals as goal

pub accept-requires-clause-allowed : goal.accept-requires-clause-allowed
accept-requires-clause-allowed c =
    let is : c.args.self.now.parts ≡ c.in-Some.part ∷ c.pop_front.new.self.items =
    ap (λ (x : UploadValue). x.parts) (sym c.self.view_is) ∙ c.in-Some.ensures.items in
    c.in-Came.ensures.0.allowed expected.Status (first_awaited c.args.core.now c.args.self.now c.in-Some.part
    c.pop_front.new.self.items c.requires.held is).0.expects

pub returns-in-Came : goal.returns-in-Came
returns-in-Came c =
    let is : c.args.self.now.parts ≡ c.in-Some.part ∷ c.pop_front.new.self.items =
    ap (λ (x : UploadValue). x.parts) (sym c.self.view_is) ∙ c.in-Some.ensures.items in
    let now_is = ap (λ (x : UploadValue). record x { parts = c.pop_front.new.self.items }) c.self.view_is in
    writes_status c.args.core.now c.take_reply.new.core c.args.self.now _ c.accept.new.self c.in-Some.part
    c.pop_front.new.self.items c.in-Came.reply c.accept.result
    c.requires is now_is c.in-Came.ensures.0 c.in-Came.ensures.1 c.accept.ensures

pub returns-in-Failed : goal.returns-in-Failed
returns-in-Failed c =
    let is : c.args.self.now.parts ≡ c.in-Some.part ∷ c.pop_front.new.self.items =
    ap (λ (x : UploadValue). x.parts) (sym c.self.view_is) ∙ c.in-Some.ensures.items in
    let now_is = ap (λ (x : UploadValue). record x { parts = c.pop_front.new.self.items; ended = true }) c.self.view_is
    in
    writes_fault c.args.core.now c.take_reply.new.core c.args.self.now _ c.in-Some.part c.pop_front.new.self.items
    c.in-Failed.fault
    c.requires is now_is c.in-Failed.ensures.0 c.in-Failed.ensures.1 c.in-Failed.ensures.2
