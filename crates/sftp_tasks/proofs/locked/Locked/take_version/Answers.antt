use Rattle.std.proofs.Common.{rules, ◌≡◌, ◌∙◌, ℕ, ap, sym, arith, refl, inr}
use Rattle.sftp_tasks.specs.declared.locked.Locked.{Locked}
use Rattle.sftp_tasks.proofs.locked.Locked.take_version.Goals as goal

pub returns-in-Ok-fail : goal.returns-in-Ok-fail
returns-in-Ok-fail c =
    let y = c.args.self.now in
    let z = c.fail.new.self in
    let same : z.counts.taken ≡ y.counts.taken = ap (λ (x : Locked). x.counts.taken) c.fail.ensures.rest in
    record {
      rest = c.fail.ensures.rest
          ∙ ap (λ (k : ℕ). record y { session = z.session; counts = record y.counts { taken = k } }) (sym same);
      takes = (inr (inr record { unasked = search rules; is = refl; kept = search rules }), same);
      unfailed = tt;
      rises = omega (arith, same);
    }
