-- Worked states that are near misses of the rule. They have the value of no lanes, which shows itself; the state at the
-- start, which satisfies the rule, is in proofs/.
use Rattle.std.specs.Prelude.{ℕ, List, [], ◌∷◌, slice_index}
use Rattle.std.proofs.Common.{refl, ap, arith, ⊎_elim, subst}
use mathlib.Core.Option.{Option, some, none}
use Rattle.atomic_table.specs.Table.{State}
use Rattle.sftp_model.specs.Options.{default_options}
use Rattle.session_seats.specs.declared.view.View.{View}
use Rattle.session_seats.specs.declared.view.Sight.{Sight}
use Rattle.session_seats.specs.Sights.{SessionInputs, Shown, inputs_of}
use Rattle.session_seats.specs.Holds.{at_first}
use Rattle.session_seats.specs.Rules.{IsHome, IsOut, Kept, home}

abbrev pub nothing_yet : SessionInputs
nothing_yet = inputs_of [] default_options

abbrev pub value : Shown
value = at_first nothing_yet

abbrev pub itself : Shown → Shown
itself y = y

abbrev pub at_home : Shown → List View → State Shown View
at_home y views = record { words = 0 ∷ []; homes = some y ∷ []; views = views }

-- ---- What is at home

abbrev is_some : {A : Type 0} → List (Option A) → Type 0
is_some [] = ⊥
is_some (none ∷ homes) = ⊥
is_some (some y ∷ homes) = Unit {0}

abbrev users_in : List (Option Shown) → ℕ
users_in [] = 0
users_in (none ∷ homes) = 0
users_in (some y ∷ homes) = y.users

abbrev handed_in : List (Option Shown) → ℕ
handed_in [] = 0
handed_in (none ∷ homes) = 0
handed_in (some y ∷ homes) = y.counts.handed

abbrev written_in : List (Option Shown) → ℕ
written_in [] = 0
written_in (none ∷ homes) = 0
written_in (some y ∷ homes) = y.counts.written

-- ---- Near misses

-- The word says that a seat has the value, which is at home.
pub not_said_to_be_out : Kept itself record { words = 1 ∷ []; homes = some value ∷ []; views = home nothing_yet ∷ [] }
    → ⊥
not_said_to_be_out k =
    ⊎_elim
    (λ (h : IsHome itself k.now k.users _). let word = ap (λ ws. slice_index ws 0) h.words in absurd (omega arith))
    (λ (h : IsOut _). subst is_some h.homes tt)
    k.place

-- Two seats have the number 0.
pub no_number_twice : Kept itself (at_home value (home nothing_yet ∷ home nothing_yet ∷ [])) → ⊥
no_number_twice k =
    let first = (k.fits 0 (home nothing_yet) refl).claims.0.mine in
    let second = (k.fits 1 (home nothing_yet) refl).claims.0.mine in absurd (omega arith)

-- The value counts two users, and the seats have one share.
pub no_user_without_share : Kept itself (at_home (record value { users = 2 }) (home nothing_yet ∷ [])) → ⊥
no_user_without_share k =
    ⊎_elim
    (λ (h : IsHome itself k.now k.users _).
    let two = ap users_in h.homes in
    let users = h.users_are in
    let one = k.shared in absurd (omega arith))
    (λ (h : IsOut _). let word = ap (λ ws. slice_index ws 0) h.words in absurd (omega arith))
    k.place

-- A frame was handed out that no seat has still to report as written.
pub no_frame_forgotten : Kept itself (at_home (record value { counts = record value.counts { handed = 1 } })
    (home nothing_yet ∷ [])) → ⊥
no_frame_forgotten k =
    ⊎_elim
    (λ (h : IsHome itself k.now k.users _).
    let one = ap handed_in h.homes in
    let wrote = ap written_in h.homes in
    let handed = ap (λ (s : Sight). s.counts.handed) h.shows.told in
    let written = ap (λ (s : Sight). s.counts.written) h.shows.told in
    let sum = k.written in absurd (omega arith))
    (λ (h : IsOut _). let word = ap (λ ws. slice_index ws 0) h.words in absurd (omega arith))
    k.place
