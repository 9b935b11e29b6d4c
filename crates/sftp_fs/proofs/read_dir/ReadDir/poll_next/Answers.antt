use Rattle.std.proofs.Common.{rules, ◌≡◌, ◌∙◌, ap}
use Rattle.sftp_fs.specs.Listings.{ListingValue}
use Rattle.sftp_fs.proofs.ListingSteps.{lists_asked, lists_heard}
use Rattle.sftp_fs.proofs.read_dir.ReadDir.poll_next.Goals as goal

pub returns-in-None : goal.returns-in-None
returns-in-None c =
    let same : c.next_entry.new.self ≡ c.args.self.now = search rules in
    lists_asked c.args.core.now c.ask.new.core c.args.self.now _ c.ask.new.self c.take.new.self c.ask.result
    (search rules) (search rules) (search rules) (search rules)
    (ap (λ (x : ListingValue). record x { asked = c.take.new.self }) (c.self-2.view_is ∙ same)) c.requires.listing
    c.ask.ensures

pub returns-in-Some-take : goal.returns-in-Some-take
returns-in-Some-take c =
    let same : c.next_entry.new.self ≡ c.args.self.now = search rules in
    lists_heard c.args.core.now c.hear.new.core c.args.self.now _ c.hear.new.self c.take.new.self c.in-Some-take.ticket
    c.hear.result
    (search rules) (search rules) (search rules) (search rules)
    (ap (λ (x : ListingValue). record x { asked = c.take.new.self }) (c.self-2.view_is ∙ same)) c.requires.listing
    c.hear.ensures
