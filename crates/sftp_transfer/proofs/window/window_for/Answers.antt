use Rattle.std.proofs.Common.{rules, ◌≤◌, ◌*◌, ◌/◌, ◌≡◌, ℕ, max, subst, sym}
use Rattle.sftp_transfer.proofs.WindowLaws.{within_limit}
use Rattle.sftp_transfer.proofs.window.window_for.Goals as goal

pub returns-clause-bytes : goal.returns-clause-bytes
returns-clause-bytes c =
    let is : c.max.result ≡ max c.min.result 1 = search rules in
    let few : c.min.result ≤ c.args.limit / max (c.args.files * c.args.len) 1 = search rules in
    subst (λ (n : ℕ). n * (c.args.files * c.args.len) ≤ max c.args.limit (c.args.files * c.args.len)) (sym is)
    (within_limit c.args.limit (c.args.files * c.args.len) c.min.result few)
