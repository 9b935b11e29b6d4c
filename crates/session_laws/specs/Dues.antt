-- believed, except unheld_of, FewerDue
-- Grants that are due for their CLOSE. An end may leave several: each is closed in its turn, the one of the least place
-- first.
use Rattle.std.specs.Prelude.{◌≡◌, ◌≢◌, ℕ, true, false, List, [], ◌∷◌, if◌then◌else◌}
use Rattle.sftp_model.specs.declared.slot.Site.{Site}
use Rattle.sftp_model.specs.Slots.{has_grant}
use Rattle.session_model.specs.declared.entry.Entry.{Entry}
use Rattle.session_model.specs.Calls.{Setting}
use Rattle.session_model.specs.Grants.{is_grant, is_held, is_one_of, closed_grants}
use Rattle.session_laws.specs.Places.{IsRising, is_in}

-- The grant has no holder and no CLOSE.
pub record IsDue (s : Setting) (past : List Entry) (g : ℕ) : Type 0 where
  pub granted : is_grant past g ≡ true
  pub unheld : is_held s past g ≡ false
  pub unclosed : is_one_of (closed_grants s past) g ≡ false

abbrev pub AllDue : Setting → List Entry → List ℕ → Type 0
AllDue s past [] = Unit {0}
AllDue s past (g ∷ gs) = IsDue s past g × AllDue s past gs

-- Each grant without a CLOSE has a holder, except these, which are due in this order.
pub record AreDueGrants (s : Setting) (past : List Entry) (dues : List ℕ) : Type 0 where
  pub each : (g : ℕ) → is_grant past g ≡ true → is_one_of (closed_grants s past) g ≡ false → is_in g dues ≡ false
      → is_held s past g ≡ true
  pub unheld : AllDue s past dues
  pub rising : IsRising dues

-- Those of these places whose grant no slot has.
abbrev pub unheld_of : Site → List ℕ → List ℕ
unheld_of site [] = []
unheld_of site (g ∷ gs) = if has_grant site g then unheld_of site gs else g ∷ unheld_of site gs

-- Except this grant, each that is due before is still due after its CLOSE.
abbrev pub FewerDue : ℕ → List ℕ → List ℕ → Type 0
FewerDue g dues rest = (q : ℕ) → q ≢ g → is_in q rest ≡ false → is_in q dues ≡ false
