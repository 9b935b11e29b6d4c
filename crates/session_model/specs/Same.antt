-- Proofs that `==` of each type decides equality.
use Rattle.std.specs.Prelude.{ℕ, ℤ, List, Option, ◌≡◌, ◌==◌, ◌&&◌, Bool, true, refl}
use Rattle.std.specs.Bool.{Decides}
use Rattle.std.specs.Option.{option_eq}
use Rattle.std.specs.Cmp.{booleans_Decides, signed_Decides}
use Rattle.std.specs.Ordering.{int_eq}
use Rattle.std.specs.Cmp.Lexicographic.{bytes_decides, pointwise}
use Rattle.std.proofs.Common.{ap}
use Rattle.std.proofs.lemmas.Bool.Decides.{Decides-eqb}
use Rattle.sftp_values.specs.Same.{and_decides, decides_by, items_decides, option_decides}
use Rattle.sftp_model.specs.SameFields.{EachDecides, choice_decides, first, last}
use Rattle.sftp_model.specs.SameErrors.{fault_decides, outcome_decides}
use Rattle.sftp_model.specs.SameRequest.{request_decides}
use Rattle.sftp_model.specs.Same.{reply_decides}
use Rattle.plan_model.specs.Same.{call_decides}
use Rattle.sftp_model.specs.contracts.error.FaultPartialEq.TheImpl as faults
use Rattle.sftp_model.specs.contracts.outcome.OutcomePartialEq.TheImpl as outcomes
use Rattle.sftp_model.specs.contracts.request.RequestPartialEq.TheImpl as requests
use Rattle.sftp_model.specs.contracts.reply.ReplyPartialEq.TheImpl as replies
use Rattle.session_model.specs.declared.entry.Entry.{Entry}
use Rattle.session_model.specs.declared.event.Event.{Event}
use Rattle.session_model.specs.declared.event.Owner.{Owner}
use Rattle.session_model.specs.declared.turn.Turn.{Turn}
use Rattle.plan_model.specs.contracts.call.CallPartialEq.TheImpl as same_call
use Rattle.session_model.specs.contracts.entry.Entry as entry
use Rattle.session_model.specs.contracts.entry.EntryPartialEq.TheImpl as same_entry
use Rattle.session_model.specs.contracts.event.Event as event
use Rattle.session_model.specs.contracts.event.EventPartialEq.TheImpl as same_event
use Rattle.session_model.specs.contracts.event.Owner as owner
use Rattle.session_model.specs.contracts.event.OwnerPartialEq.TheImpl as same_owner
use Rattle.session_model.specs.contracts.turn.Turn as turn
use Rattle.session_model.specs.contracts.turn.TurnPartialEq.TheImpl as same_turn
use denote.Enum.Compared.{Each}
use denote.Enum.Declared.{values_one}

-- ---- Fields

abbrev same_text : List ℕ → List ℕ → Bool
same_text = pointwise ◌==◌

abbrev none : Unit {0} → Unit {0} → Bool
none x y = true

none_decides : (x y : Unit {0}) → Decides (none x y) (x ≡ y)
none_decides x y = (λ e. refl, λ e. refl)

abbrev number : ℕ × Unit {0} → ℕ × Unit {0} → Bool
number x y = (x.0 == y.0)

number_decides : (x y : ℕ × Unit {0}) → Decides (number x y) (x ≡ y)
number_decides = last ◌==◌ Decides-eqb

abbrev two_numbers : ℕ × (ℕ × Unit {0}) → ℕ × (ℕ × Unit {0}) → Bool
two_numbers x y = (x.0 == y.0) && ((x.1.0 == y.1.0))

two_numbers_decides : (x y : ℕ × (ℕ × Unit {0})) → Decides (two_numbers x y) (x ≡ y)
two_numbers_decides = first ◌==◌ number Decides-eqb number_decides

-- ---- Turn, variant by variant

abbrev turn_tests : Each Bool turn.the_parts
turn_tests = (number, (none, (none, (number, tt))))

turn_tests_decide : EachDecides turn.the_parts turn_tests
turn_tests_decide = (number_decides, (none_decides, (none_decides, (number_decides, tt))))

pub turn_decides : (a b : Turn) → Decides (same_turn.ghosts.eq a b) (a ≡ b)
turn_decides a b = decides_by _ (values_one turn.enum a b) (λ e. ap turn.as_values e)
    (choice_decides turn.the_parts turn_tests turn_tests_decide (turn.as_values a) (turn.as_values b))

-- ---- Owner and Event, variant by variant

abbrev owner_tests : Each Bool owner.the_parts
owner_tests = (two_numbers, (none, (none, tt)))

owner_tests_decide : EachDecides owner.the_parts owner_tests
owner_tests_decide = (two_numbers_decides, (none_decides, (none_decides, tt)))

pub owner_decides : (a b : Owner) → Decides (same_owner.ghosts.eq a b) (a ≡ b)
owner_decides a b = decides_by _ (values_one owner.enum a b) (λ e. ap owner.as_values e)
    (choice_decides owner.the_parts owner_tests owner_tests_decide (owner.as_values a) (owner.as_values b))

abbrev event_tests : Each Bool event.the_parts
event_tests = (
  λ x y. same_owner.ghosts.eq x.0 y.0 && ((x.1.0 == y.1.0) && requests.ghosts.eq x.1.1.0 y.1.1.0),
  (
    none,
    (
      λ x y. (x.0 == y.0) && replies.ghosts.eq x.1.0 y.1.0,
      (
        number,
        (λ x y. (x.0 == y.0) && ((x.1.0 == y.1.0) && outcomes.ghosts.eq x.1.1.0 y.1.1.0), tt),
      ),
    ),
  ),
)

event_tests_decide : EachDecides event.the_parts event_tests
event_tests_decide = (
  first same_owner.ghosts.eq (λ x y. (x.0 == y.0) && requests.ghosts.eq x.1.0 y.1.0) owner_decides
      (first ◌==◌ (λ x y. requests.ghosts.eq x.0 y.0) Decides-eqb (last requests.ghosts.eq request_decides)),
  (
    none_decides,
    (
      first ◌==◌ (λ x y. replies.ghosts.eq x.0 y.0) Decides-eqb (last replies.ghosts.eq reply_decides),
      (
        number_decides,
        (
          first ◌==◌ (λ x y. (x.0 == y.0) && outcomes.ghosts.eq x.1.0 y.1.0) Decides-eqb
              (first ◌==◌ (λ x y. outcomes.ghosts.eq x.0 y.0) Decides-eqb (last outcomes.ghosts.eq outcome_decides)),
          tt,
        ),
      ),
    ),
  ),
)

pub event_decides : (a b : Event) → Decides (same_event.ghosts.eq a b) (a ≡ b)
event_decides a b = decides_by _ (values_one event.enum a b) (λ e. ap event.as_values e)
    (choice_decides event.the_parts event_tests event_tests_decide (event.as_values a) (event.as_values b))

-- ---- Entry, variant by variant

abbrev entry_tests : Each Bool entry.the_parts
entry_tests = (
  λ x y. same_event.ghosts.eq x.0 y.0,
  (
    λ x y. (x.0 == y.0) && same_call.ghosts.eq x.1.0 y.1.0,
    (
      number,
      (λ x y. faults.ghosts.eq x.0 y.0, tt),
    ),
  ),
)

entry_tests_decide : EachDecides entry.the_parts entry_tests
entry_tests_decide = (
  last same_event.ghosts.eq event_decides,
  (
    first ◌==◌ (λ x y. same_call.ghosts.eq x.0 y.0) Decides-eqb (last same_call.ghosts.eq call_decides),
    (
      number_decides,
      (last faults.ghosts.eq fault_decides, tt),
    ),
  ),
)

pub entry_decides : (a b : Entry) → Decides (same_entry.ghosts.eq a b) (a ≡ b)
entry_decides a b = decides_by _ (values_one entry.enum a b) (λ e. ap entry.as_values e)
    (choice_decides entry.the_parts entry_tests entry_tests_decide (entry.as_values a) (entry.as_values b))
