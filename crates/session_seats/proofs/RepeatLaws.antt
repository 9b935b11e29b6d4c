-- Steps one after another, and what the last hold of a seat shows.
use Rattle.std.proofs.Common.{◌≡◌, ℕ, List, [], ◌∷◌, ◌++◌, map, refl, sym, ap, ◌∙◌}
use Rattle.atomic_table.specs.Table.{Me}
use Rattle.session_model.specs.declared.entry.Entry.{Entry}
use Rattle.session_seats.specs.declared.view.Stamp.{Stamp}
use Rattle.session_seats.specs.declared.view.View.{View}
use Rattle.session_seats.specs.Sights.{Shown, entries, stamp}
use Rattle.session_seats.specs.Holds.{Hold, number_of, sight_by}
use Rattle.session_seats.specs.Repeats.{RepeatsSteps}

pub repeats_none : {X : Type 0} (Step : X → X → Type 0) (x : X) → RepeatsSteps Step x x
repeats_none Step x = ([], refl)

pub repeats_more : {X : Type 0} (Step : X → X → Type 0) (x y z : X) → RepeatsSteps Step x y → Step y z
    → RepeatsSteps Step x z
repeats_more Step x y z r s = (y ∷ r.0, (s, r.1))

entries_on : (n : ℕ) (more : List Entry) (log : List Stamp) → entries (map (stamp n) more ++ log) ≡ more ++ entries log
entries_on n [] log = refl
entries_on n (e ∷ more) log = ap (λ (l : List Entry). e ∷ l) (entries_on n more log)

-- the seat has seen the value as it is after the hold
module _ {S : Type 0} (shown : S → Shown) {Did : S → S → List Entry → Type 0} (m n : Me S View) (h : Hold shown Did m n)
  where
    pub sees_past : entries (sight_by n).log ≡ (shown h.after).past
    sees_past =
        ap entries h.log ∙ entries_on (number_of m) h.more h.now.log
        ∙ ap (λ (l : List Entry). h.more ++ l) (sym h.took.shows.past) ∙ sym h.past

    pub sees_lanes : (sight_by n).lanes ≡ (shown h.after).lanes
    sees_lanes = ap (λ (x : Me S View). (sight_by x).lanes) h.is

    pub sees_version : (sight_by n).version ≡ (shown h.after).version
    sees_version = ap (λ (x : Me S View). (sight_by x).version) h.is

    pub sees_counts : (sight_by n).counts ≡ (shown h.after).counts
    sees_counts = ap (λ (x : Me S View). (sight_by x).counts) h.is
