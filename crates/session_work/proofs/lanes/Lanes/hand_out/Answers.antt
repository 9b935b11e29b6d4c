use Rattle.std.proofs.Common.{rules, ◌≡◌, ◌≢◌, ap, ◌∙◌, ◌∷◌, arith}
use Rattle.std.specs.Prelude.{reverse, length}
use Rattle.std.proofs.lemmas.Bool.Decides.{nat_tests}
use Rattle.sftp_core.specs.Pieces.{chunk_bytes}
use Rattle.sftp_core.specs.Core.{handed_out}
use Rattle.session_model.specs.declared.event.Event.TheVariants.{Send}
use Rattle.session_model.specs.declared.entry.Entry.TheVariants as entry
use Rattle.sftp_model.specs.Frames.{frames_of}
use Rattle.session_work.specs.Working.{contents_of}
use Rattle.session_work.proofs.Exchanges.{hands_all, hands_nothing}
use Rattle.session_work.proofs.Entries.{pushed}
use Rattle.session_work.proofs.lanes.Lanes.hand_out.Goals as goal

pub returns-then-queued-eq0-clause-hands_out : goal.returns-then-queued-eq0-clause-hands_out
returns-then-queued-eq0-clause-hands_out c =
    let empty : length c.args.self.now.core.queue ≡ 0 = grind (arith, nat_tests) in
    λ s w. hands_nothing s (contents_of c.args.self.now) w empty

pub returns-clause-hands_out : goal.returns-clause-hands_out
returns-clause-hands_out c =
    let core_is : c.hand_out.new.self ≡ handed_out c.args.self.now.core = search rules in
    let kept : c.reserve.new.self.items ≡ c.args.self.now.journal.items = search rules in
    let past_is : reverse c.add_entry.new.journal.items ≡ entry.Event Send ∷ reverse c.args.self.now.journal.items =
    ap reverse c.add_entry.ensures.items ∙ pushed c.reserve.new.self.items (entry.Event Send)
    ∙ ap (λ xs. entry.Event Send ∷ reverse xs) kept in
    let some : length c.args.self.now.core.queue ≢ 0 = λ none. c.if-queued-eq0.false (c.queued.ensures ∙ none) in
    let told : chunk_bytes c.in_ok-chunk.chunk ≡ frames_of c.args.self.now.core.queue = search rules in
    λ s w. hands_all s (contents_of c.args.self.now) c.hand_out.new.self (reverse c.add_entry.new.journal.items)
    (chunk_bytes c.in_ok-chunk.chunk) w some core_is past_is told
