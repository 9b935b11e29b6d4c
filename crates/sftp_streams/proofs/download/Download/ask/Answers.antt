use Rattle.std.proofs.Common.{rules, ◌≡◌, ◌<◌, ◌∙◌, true, [], length, ap, sym}
use Rattle.std.proofs.lemmas.List.{nil_from_length}
use Rattle.sftp_streams.specs.Downloads.{DownloadValue}
use Rattle.sftp_streams.proofs.PollLaws.{reads_failed, reads_overflow, reads_pending, reads_short}
use Rattle.sftp_streams.proofs.download.Download.ask.Goals as goal

pub returns-then-is_empty : goal.returns-then-is_empty
returns-then-is_empty c =
    let no_len : length c.self.inside.parts.items ≡ 0 = search rules in
    let empty : c.self.inside.parts.items ≡ [] = nil_from_length c.self.inside.parts.items no_len in
    let none : c.fill.new.self.parts ≡ [] = ap (λ (x : DownloadValue). x.parts) (sym c.self.view_is) ∙ empty in
    let now_is = ap (λ (x : DownloadValue). record x { ended = true }) c.self.view_is in
    reads_overflow c.args.core.now c.fill.new.core c.args.self.now c.fill.new.self _ c.requires.missing
    c.fill.ensures.may c.fill.ensures.fills c.in-Ok.ensures.full none now_is

pub returns-else-is_empty : goal.returns-else-is_empty
returns-else-is_empty c =
    let some : 0 < length c.fill.new.self.parts = search rules in
    reads_pending c.args.core.now c.fill.new.core c.args.self.now c.fill.new.self c.requires.may c.requires.missing
    c.fill.ensures.may c.fill.ensures.fills c.in-Ok.ensures.full some

pub returns-in-Err-Short : goal.returns-in-Err-Short
returns-in-Err-Short c = reads_short c.args.core.now c.fill.new.core c.args.self.now c.fill.new.self c.requires.may
    c.requires.missing c.fill.ensures.may c.fill.ensures.fills c.in-Err-Short.ensures.err.more

pub returns-in-Err-Failed : goal.returns-in-Err-Failed
returns-in-Err-Failed c =
    let now_is = ap (λ (x : DownloadValue). record x { ended = true }) c.self.view_is in
    reads_failed c.args.core.now c.fill.new.core c.args.self.now c.fill.new.self _ c.in-Err-Failed.fault
    c.requires.missing c.fill.ensures.may c.fill.ensures.fills now_is (search rules)
