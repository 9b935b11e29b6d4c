-- Parts are abandoned one after another.
use Rattle.std.proofs.Common.{◌≡◌, ℕ, List, [], ◌∷◌, refl, sym, subst}
use Rattle.std.specs.Prelude.{IsTrue}
use Rattle.sftp_core.specs.Core.{Core, core_after_abandon, record_at, is_ticket}
use Rattle.sftp_streams.proofs.PartLaws.{others_stay}
use Rattle.sftp_streams.specs.declared.parts.Part.{Part}
use Rattle.sftp_streams.specs.Parts.{AreAwaited, IsApart, KindOf, without_parts}

-- these parts are left of all
pub record Abandoning (first core : Core) (all parts : List Part) : Type 0 where
  pub kind : KindOf
  pub held : AreAwaited kind core parts
  pub same : without_parts core parts ≡ without_parts first all

pub abandons_first : (core : Core) (all : List Part) → ((kind : KindOf) × AreAwaited kind core all)
    → Abandoning core core all all
abandons_first core all h = record { kind = h.0; held = h.1; same = refl }

next_of : (first core : Core) (all parts : List Part) (part : Part) (later : List Part)
    → Abandoning first core all parts → parts ≡ part ∷ later → Abandoning first core all (part ∷ later)
next_of first core all parts part later a is = subst (λ x. Abandoning first core all x) is a

pub abandons_ticket : (first core : Core) (all parts : List Part) (part : Part) (later : List Part)
    → Abandoning first core all parts → parts ≡ part ∷ later → IsTrue (is_ticket (record_at core part.ticket))
abandons_ticket first core all parts part later a is = (next_of first core all parts part later a is).held.0.counted

pub abandons_next : (first core : Core) (all parts : List Part) (part : Part) (later : List Part)
    → Abandoning first core all parts → parts ≡ part ∷ later →
    Abandoning first (core_after_abandon core part.ticket) all later
abandons_next first core all parts part later a is =
    let b = next_of first core all parts part later a is in
    record { kind = b.kind; held = others_stay b.kind core part.ticket later b.held.2 b.held.3; same = b.same }

pub abandons_all : (first core : Core) (all parts : List Part) → Abandoning first core all parts → parts ≡ [] → core
    ≡ without_parts first all
abandons_all first core all parts a none = (subst (λ x. Abandoning first core all x) none a).same
