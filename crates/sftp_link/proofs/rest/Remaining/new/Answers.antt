use Rattle.std.proofs.Common.{rules, ◌≡◌}
use Rattle.std.proofs.lemmas.List.Elements.{filter_from_retain}
use Rattle.std.specs.Prelude.{filter}
use Rattle.sftp_link.specs.Script.{has_bytes}
use Rattle.sftp_link.proofs.rest.Remaining.new.Goals as goal

pub returns : goal.returns
returns c =
    let kept : c.retain.new.self.items ≡ filter has_bytes c.args.items.items =
    filter_from_retain _ has_bytes (λ p x b q t. search rules) _ _ _ c.retain.ensures.filtered in
    search rules
