use Rattle.std.proofs.Common.{rules, ◌≡◌, ◌∙◌, ap, sym, ◌∷◌, true}
use Rattle.sftp_model.specs.declared.answers.Expected.TheVariants as expected
use Rattle.sftp_streams.specs.Downloads.{DownloadValue}
use Rattle.sftp_streams.proofs.PollLaws.{first_awaited, reads_fault, reads_reply}
use Rattle.sftp_streams.proofs.download.Download.poll_first.Goals as goal

pub hand_out-requires-clause-allowed : goal.hand_out-requires-clause-allowed
hand_out-requires-clause-allowed c =
    let is : c.args.self.now.parts ≡ c.in-Some.part ∷ c.pop_front.new.self.items =
    ap (λ (x : DownloadValue). x.parts) (sym c.self.view_is) ∙ c.in-Some.ensures.items in
    c.in-Came.ensures.0.allowed (expected.Content c.in-Some.part.len)
    (first_awaited c.args.core.now c.args.self.now c.in-Some.part c.pop_front.new.self.items c.requires.held
    is).0.expects

pub returns-in-Came-clause-reads : goal.returns-in-Came-clause-reads
returns-in-Came-clause-reads c =
    let is : c.args.self.now.parts ≡ c.in-Some.part ∷ c.pop_front.new.self.items =
    ap (λ (x : DownloadValue). x.parts) (sym c.self.view_is) ∙ c.in-Some.ensures.items in
    let now_is = ap (λ (x : DownloadValue). record x { parts = c.pop_front.new.self.items }) c.self.view_is in
    reads_reply c.args.core.now c.take_reply.new.core c.args.self.now _ c.hand_out.new.self c.in-Some.part
    c.pop_front.new.self.items c.in-Came.reply c.hand_out.result
    c.requires (search rules) is now_is c.in-Came.ensures.0 c.in-Came.ensures.1 c.hand_out.ensures

pub returns-in-Failed-clause-reads : goal.returns-in-Failed-clause-reads
returns-in-Failed-clause-reads c =
    let is : c.args.self.now.parts ≡ c.in-Some.part ∷ c.pop_front.new.self.items =
    ap (λ (x : DownloadValue). x.parts) (sym c.self.view_is) ∙ c.in-Some.ensures.items in
    let now_is = ap (λ (x : DownloadValue). record x { parts = c.pop_front.new.self.items; ended = true })
    c.self.view_is in
    reads_fault c.args.core.now c.take_reply.new.core c.args.self.now _ c.in-Some.part c.pop_front.new.self.items
    c.in-Failed.fault
    c.requires (search rules) is now_is c.in-Failed.ensures.0 c.in-Failed.ensures.1 c.in-Failed.ensures.2
