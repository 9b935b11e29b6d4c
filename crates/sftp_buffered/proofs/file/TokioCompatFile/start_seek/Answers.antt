use Rattle.std.proofs.Common.{rules, ◌≡◌, ◌<◌, ◌^◌, ◌∙◌, ap, subst, ℕ, Result}
use Rattle.sftp_model.specs.declared.error.IoKind.{IoKind}
use Rattle.sftp_file.specs.Outcomes.{seek_move}
use Rattle.sftp_buffered.proofs.Seeking.{LeadsNowhere, LeadsTo, seek_moved, seek_refused, seek_same}
use Rattle.sftp_buffered.proofs.file.TokioCompatFile.start_seek.Goals as goal

pub returns-then-to-from : goal.returns-then-to-from
returns-then-to-from c =
    let here : c.offset-from.result ≡ c.args.self.now.file.offset = search rules in
    let leads : LeadsTo c.args.position c.args.self.now.file.offset c.in-Ok.to =
    subst (λ (n : ℕ). LeadsTo c.args.position n c.in-Ok.to) here
    (λ site go. c.sought.ensures site go ∙ ap (λ (r : Result ℕ IoKind). seek_move r site go) c.in-Ok.is) in
    let same : c.in-Ok.to ≡ c.args.self.now.file.offset = search rules in
    seek_same c.args.position c.args.core.now c.args.self.now c.in-Ok.to leads same c.requires

pub returns-else-to-from : goal.returns-else-to-from
returns-else-to-from c =
    let here : c.offset-from.result ≡ c.args.self.now.file.offset = search rules in
    let leads : LeadsTo c.args.position c.args.self.now.file.offset c.in-Ok.to =
    subst (λ (n : ℕ). LeadsTo c.args.position n c.in-Ok.to) here
    (λ site go. c.sought.ensures site go ∙ ap (λ (r : Result ℕ IoKind). seek_move r site go) c.in-Ok.is) in
    let other : c.in-Ok.to ≡ c.args.self.now.file.offset → ⊥ = search rules in
    let below : c.in-Ok.to < 2 ^ 64 = search rules in
    seek_moved c.args.position c.args.core.now c.stand.new.core c.args.self.now c.stand.new.self c.in-Ok.to leads other
    below c.requires c.stand.ensures.left c.stand.ensures.core

pub returns-in-Err : goal.returns-in-Err
returns-in-Err c =
    let here : c.offset-from.result ≡ c.args.self.now.file.offset = search rules in
    let leads : LeadsNowhere c.args.position c.args.self.now.file.offset c.in-Err.why =
    subst (λ (n : ℕ). LeadsNowhere c.args.position n c.in-Err.why) here
    (λ site go. c.sought.ensures site go ∙ ap (λ (r : Result ℕ IoKind). seek_move r site go) c.in-Err.is) in
    seek_refused c.args.position c.args.core.now c.args.self.now c.in-Err.why leads c.requires
