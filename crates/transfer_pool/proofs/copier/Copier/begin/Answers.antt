use Rattle.std.proofs.Common.{rules, ◌≡◌, [], ◌∷◌, ◌++◌}
use Rattle.transfer_pool.specs.Copies.{job_begun}
use Rattle.transfer_pool.proofs.TogetherLaws.{together_begun}
use Rattle.transfer_pool.proofs.copier.Copier.begin.Goals as goal

pub returns-clause-together : goal.returns-clause-together
returns-clause-together g c core opened all =
    let now : c.push_back_reserved.new.self.items
    ≡ c.args.self.now.running ++ record { job = c.args.job; local = c.args.local; state = c.new-state.result } ∷ [] =
    search rules in
    let is : c.new-state.result ≡ job_begun c.args.job c.args.window = search rules in
    together_begun core c.args.self.now.running _ c.args.job c.args.local c.new-state.result c.args.window is
    (c.new-state.ensures.may core opened) now all
