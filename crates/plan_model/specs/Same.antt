-- `==` of each type decides equality.
use Rattle.std.specs.Prelude.{ℕ, ℤ, List, Option, ◌≡◌, ◌==◌, ◌&&◌, Bool, true, refl}
use Rattle.std.specs.Bool.{Decides}
use Rattle.std.specs.Option.{option_eq}
use Rattle.std.specs.declared.io.traits.SeekFrom.{SeekFrom}
use Rattle.std.specs.contracts.io.traits.SeekFrom as seek
use Rattle.std.specs.contracts.io.traits.SeekFromPartialEq.TheImpl as same_seek
use Rattle.std.specs.Cmp.{booleans_Decides, signed_Decides}
use Rattle.std.specs.Ordering.{int_eq}
use Rattle.std.specs.Cmp.Lexicographic.{bytes_decides, pointwise}
use Rattle.std.proofs.Common.{ap}
use Rattle.std.proofs.lemmas.Bool.Decides.{Decides-eqb}
use Rattle.sftp_values.specs.Same.{and_decides, decides_by, items_decides, option_decides}
use Rattle.sftp_model.specs.SameFields.{EachDecides, choice_decides, first, last}
use Rattle.sftp_model.specs.Same.{open_options_decides}
use Rattle.sftp_model.specs.declared.open_options.OpenOptions.{OpenOptions}
use Rattle.sftp_model.specs.contracts.open_options.OpenOptionsPartialEq.TheImpl as options
use Rattle.plan_model.specs.declared.call.Call.{Call}
use Rattle.plan_model.specs.declared.call.Lane.{Lane}
use Rattle.plan_model.specs.contracts.call.Call as call
use Rattle.plan_model.specs.contracts.call.CallPartialEq.TheImpl as same_call
use Rattle.plan_model.specs.contracts.call.LanePartialEq.TheImpl as same_lane
use denote.Enum.Compared.{Each}
use denote.Enum.Declared.{values_one}

-- ---- Fields

abbrev same_text : List ℕ → List ℕ → Bool
same_text = pointwise ◌==◌

abbrev none : Unit {0} → Unit {0} → Bool
none x y = true

none_decides : (x y : Unit {0}) → Decides (none x y) (x ≡ y)
none_decides x y = (λ e. refl, λ e. refl)

abbrev number : ℕ × Unit {0} → ℕ × Unit {0} → Bool
number x y = (x.0 == y.0)

number_decides : (x y : ℕ × Unit {0}) → Decides (number x y) (x ≡ y)
number_decides = last ◌==◌ Decides-eqb

abbrev two_numbers : ℕ × (ℕ × Unit {0}) → ℕ × (ℕ × Unit {0}) → Bool
two_numbers x y = (x.0 == y.0) && ((x.1.0 == y.1.0))

two_numbers_decides : (x y : ℕ × (ℕ × Unit {0})) → Decides (two_numbers x y) (x ≡ y)
two_numbers_decides = first ◌==◌ number Decides-eqb number_decides

-- ---- SeekFrom

abbrev integer : ℤ × Unit {0} → ℤ × Unit {0} → Bool
integer x y = int_eq x.0 y.0

integer_decides : (x y : ℤ × Unit {0}) → Decides (integer x y) (x ≡ y)
integer_decides = last int_eq signed_Decides

abbrev seek_tests : Each Bool seek.the_parts
seek_tests = (number, (integer, (integer, tt)))

seek_tests_decide : EachDecides seek.the_parts seek_tests
seek_tests_decide = (number_decides, (integer_decides, (integer_decides, tt)))

seek_decides : (a b : SeekFrom) → Decides (same_seek.ghosts.eq a b) (a ≡ b)
seek_decides a b = decides_by _ (values_one seek.enum a b) (λ e. ap seek.as_values e)
    (choice_decides seek.the_parts seek_tests seek_tests_decide (seek.as_values a) (seek.as_values b))

-- ---- The fields of calls

abbrev three_numbers : ℕ × (ℕ × (ℕ × Unit {0})) → ℕ × (ℕ × (ℕ × Unit {0})) → Bool
three_numbers x y = (x.0 == y.0) && ((x.1.0 == y.1.0) && (x.1.1.0 == y.1.1.0))

three_numbers_decides : (x y : ℕ × (ℕ × (ℕ × Unit {0}))) → Decides (three_numbers x y) (x ≡ y)
three_numbers_decides = first ◌==◌ two_numbers Decides-eqb two_numbers_decides

abbrev text : List ℕ × Unit {0} → List ℕ × Unit {0} → Bool
text x y = same_text x.0 y.0

text_decides : (x y : List ℕ × Unit {0}) → Decides (text x y) (x ≡ y)
text_decides = last same_text bytes_decides

abbrev two_texts : List ℕ × (List ℕ × Unit {0}) → List ℕ × (List ℕ × Unit {0}) → Bool
two_texts x y = same_text x.0 y.0 && same_text x.1.0 y.1.0

two_texts_decides : (x y : List ℕ × (List ℕ × Unit {0})) → Decides (two_texts x y) (x ≡ y)
two_texts_decides = first same_text text bytes_decides text_decides

abbrev number_text : ℕ × (List ℕ × Unit {0}) → ℕ × (List ℕ × Unit {0}) → Bool
number_text x y = (x.0 == y.0) && same_text x.1.0 y.1.0

number_text_decides : (x y : ℕ × (List ℕ × Unit {0})) → Decides (number_text x y) (x ≡ y)
number_text_decides = first ◌==◌ text Decides-eqb text_decides

abbrev same_texts : List (List ℕ) → List (List ℕ) → Bool
same_texts = pointwise same_text

abbrev texts : List (List ℕ) × Unit {0} → List (List ℕ) × Unit {0} → Bool
texts x y = same_texts x.0 y.0

texts_decide : (x y : List (List ℕ) × Unit {0}) → Decides (texts x y) (x ≡ y)
texts_decide = last same_texts (items_decides same_text bytes_decides)

abbrev number_texts : ℕ × (List (List ℕ) × Unit {0}) → ℕ × (List (List ℕ) × Unit {0}) → Bool
number_texts x y = (x.0 == y.0) && same_texts x.1.0 y.1.0

number_texts_decides : (x y : ℕ × (List (List ℕ) × Unit {0})) → Decides (number_texts x y) (x ≡ y)
number_texts_decides = first ◌==◌ texts Decides-eqb texts_decide

abbrev text_number : List ℕ × (ℕ × Unit {0}) → List ℕ × (ℕ × Unit {0}) → Bool
text_number x y = same_text x.0 y.0 && (x.1.0 == y.1.0)

text_number_decides : (x y : List ℕ × (ℕ × Unit {0})) → Decides (text_number x y) (x ≡ y)
text_number_decides = first same_text number bytes_decides number_decides

abbrev open_rest : OpenOptions × (List ℕ × Unit {0}) → OpenOptions × (List ℕ × Unit {0}) → Bool
open_rest x y = options.ghosts.eq x.0 y.0 && same_text x.1.0 y.1.0

open_rest_decides : (x y : OpenOptions × (List ℕ × Unit {0})) → Decides (open_rest x y) (x ≡ y)
open_rest_decides = first options.ghosts.eq text open_options_decides text_decides

abbrev open_fields : ℕ × (OpenOptions × (List ℕ × Unit {0})) → ℕ × (OpenOptions × (List ℕ × Unit {0})) → Bool
open_fields x y = (x.0 == y.0) && open_rest x.1 y.1

open_fields_decides : (x y : ℕ × (OpenOptions × (List ℕ × Unit {0}))) → Decides (open_fields x y) (x ≡ y)
open_fields_decides = first ◌==◌ open_rest Decides-eqb open_rest_decides

abbrev seek_fields : ℕ × (SeekFrom × Unit {0}) → ℕ × (SeekFrom × Unit {0}) → Bool
seek_fields x y = (x.0 == y.0) && same_seek.ghosts.eq x.1.0 y.1.0

seek_fields_decides : (x y : ℕ × (SeekFrom × Unit {0})) → Decides (seek_fields x y) (x ≡ y)
seek_fields_decides = first ◌==◌ (λ x y. same_seek.ghosts.eq x.0 y.0) Decides-eqb
    (last same_seek.ghosts.eq seek_decides)

abbrev same_option : Option ℕ → Option ℕ → Bool
same_option = option_eq ◌==◌

abbrev option : Option ℕ × Unit {0} → Option ℕ × Unit {0} → Bool
option x y = same_option x.0 y.0

option_is : (x y : Option ℕ × Unit {0}) → Decides (option x y) (x ≡ y)
option_is = last same_option (option_decides ◌==◌ Decides-eqb)

abbrev set_stat_fields : List ℕ × (Option ℕ × (Option ℕ × Unit {0})) → List ℕ × (Option ℕ × (Option ℕ × Unit {0}))
    → Bool
set_stat_fields x y = same_text x.0 y.0 && (same_option x.1.0 y.1.0 && same_option x.1.1.0 y.1.1.0)

set_stat_fields_decides : (x y : List ℕ × (Option ℕ × (Option ℕ × Unit {0}))) → Decides (set_stat_fields x y) (x ≡ y)
set_stat_fields_decides = first same_text (λ x y. same_option x.0 y.0 && option x.1 y.1) bytes_decides
    (first same_option option (option_decides ◌==◌ Decides-eqb) option_is)

-- ---- Call, variant by variant, and Lane

abbrev call_tests : Each Bool call.the_parts
call_tests = (
  open_fields,
  (
    two_numbers,
    (
      two_numbers,
      (
        number_text,
        (
          number_text,
          (
            number_texts,
            (
              seek_fields,
              (
                two_numbers,
                (
                  two_numbers,
                  (
                    number,
                    (
                      number,
                      (
                        three_numbers,
                        (
                          two_numbers,
                          (
                            number,
                            (
                              two_numbers,
                              (
                                number,
                                (
                                  two_numbers,
                                  (
                                    number_text,
                                    (
                                      number_text,
                                      (
                                        number,
                                        (
                                          seek_fields,
                                          (
                                            text_number,
                                            (
                                              two_texts,
                                              (
                                                text_number,
                                                (
                                                  text,
                                                  (
                                                    text,
                                                    (
                                                      set_stat_fields,
                                                      (
                                                        text,
                                                        (
                                                          text,
                                                          (
                                                            text,
                                                            (
                                                              two_texts,
                                                              (
                                                                two_texts,
                                                                (two_texts, (text, (text, (text, tt)))),
                                                              ),
                                                            ),
                                                          ),
                                                        ),
                                                      ),
                                                    ),
                                                  ),
                                                ),
                                              ),
                                            ),
                                          ),
                                        ),
                                      ),
                                    ),
                                  ),
                                ),
                              ),
                            ),
                          ),
                        ),
                      ),
                    ),
                  ),
                ),
              ),
            ),
          ),
        ),
      ),
    ),
  ),
)

call_tests_decide : EachDecides call.the_parts call_tests
call_tests_decide = (
  open_fields_decides,
  (
    two_numbers_decides,
    (
      two_numbers_decides,
      (
        number_text_decides,
        (
          number_text_decides,
          (
            number_texts_decides,
            (
              seek_fields_decides,
              (
                two_numbers_decides,
                (
                  two_numbers_decides,
                  (
                    number_decides,
                    (
                      number_decides,
                      (
                        three_numbers_decides,
                        (
                          two_numbers_decides,
                          (
                            number_decides,
                            (
                              two_numbers_decides,
                              (
                                number_decides,
                                (
                                  two_numbers_decides,
                                  (
                                    number_text_decides,
                                    (
                                      number_text_decides,
                                      (
                                        number_decides,
                                        (
                                          seek_fields_decides,
                                          (
                                            text_number_decides,
                                            (
                                              two_texts_decides,
                                              (
                                                text_number_decides,
                                                (
                                                  text_decides,
                                                  (
                                                    text_decides,
                                                    (
                                                      set_stat_fields_decides,
                                                      (
                                                        text_decides,
                                                        (
                                                          text_decides,
                                                          (
                                                            text_decides,
                                                            (
                                                              two_texts_decides,
                                                              (
                                                                two_texts_decides,
                                                                (
                                                                  two_texts_decides,
                                                                  (
                                                                    text_decides,
                                                                    (text_decides, (text_decides, tt)),
                                                                  ),
                                                                ),
                                                              ),
                                                            ),
                                                          ),
                                                        ),
                                                      ),
                                                    ),
                                                  ),
                                                ),
                                              ),
                                            ),
                                          ),
                                        ),
                                      ),
                                    ),
                                  ),
                                ),
                              ),
                            ),
                          ),
                        ),
                      ),
                    ),
                  ),
                ),
              ),
            ),
          ),
        ),
      ),
    ),
  ),
)

pub call_decides : (a b : Call) → Decides (same_call.ghosts.eq a b) (a ≡ b)
call_decides a b = decides_by _ (values_one call.enum a b) (λ e. ap call.as_values e)
    (choice_decides call.the_parts call_tests call_tests_decide (call.as_values a) (call.as_values b))

pub lane_decides : (a b : Lane) → Decides (same_lane.ghosts.eq a b) (a ≡ b)
lane_decides a b = decides_by _ (λ e. λ i. record { calls = e i }) (λ e. ap (λ x. x.calls) e)
    (items_decides _ call_decides a.calls b.calls)
