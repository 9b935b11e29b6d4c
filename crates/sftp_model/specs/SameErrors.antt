-- `==` of errors and outcomes decides equality.
use Rattle.std.specs.Prelude.{ℕ, List, ◌≡◌, ◌==◌, ◌&&◌, Bool, true, refl}
use Rattle.std.specs.Bool.{Decides}
use Rattle.std.specs.Option.{option_eq}
use Rattle.std.specs.Cmp.Lexicographic.{bytes_decides, pointwise}
use Rattle.std.proofs.Common.{ap}
use Rattle.std.proofs.lemmas.Bool.Decides.{Decides-eqb}
use Rattle.sftp_values.specs.Same.{decides_by, option_decides, items_decides}
use Rattle.sftp_model.specs.Same.{extensions_decides, attrs_decides, entry_decides}
use Rattle.sftp_model.specs.SameFields.{EachDecides, choice_decides, first, last}
use Rattle.sftp_model.specs.declared.error.Error.{Error}
use Rattle.sftp_model.specs.declared.error.Fault.{Fault}
use Rattle.sftp_model.specs.declared.error.IoKind.{IoKind}
use Rattle.sftp_model.specs.declared.flags.Extensions.{Extensions}
use Rattle.sftp_model.specs.declared.frame_error.FormatKind.{FormatKind}
use Rattle.sftp_model.specs.declared.frame_error.FrameError.{FrameError}
use Rattle.sftp_model.specs.declared.outcome.Outcome.{Outcome}
use Rattle.sftp_model.specs.contracts.error.Error as error
use Rattle.sftp_model.specs.contracts.error.ErrorPartialEq.TheImpl as same_error
use Rattle.sftp_model.specs.contracts.error.Fault as fault
use Rattle.sftp_model.specs.contracts.error.FaultPartialEq.TheImpl as same_fault
use Rattle.sftp_model.specs.contracts.error.IoKind as io_kind
use Rattle.sftp_model.specs.contracts.error.IoKindPartialEq.TheImpl as same_io_kind
use Rattle.sftp_model.specs.contracts.frame_error.FormatKind as format_kind
use Rattle.sftp_model.specs.contracts.frame_error.FormatKindPartialEq.TheImpl as same_format_kind
use Rattle.sftp_model.specs.contracts.frame_error.FrameError as frame_error
use Rattle.sftp_model.specs.contracts.frame_error.FrameErrorPartialEq.TheImpl as same_frame_error
use Rattle.sftp_model.specs.contracts.file_attrs.FileAttrsPartialEq.TheImpl as attrs
use Rattle.sftp_model.specs.contracts.outcome.Outcome as outcome
use Rattle.sftp_model.specs.contracts.outcome.OutcomePartialEq.TheImpl as same_outcome
use Rattle.sftp_model.specs.contracts.reply.NameEntryPartialEq.TheImpl as entry
use denote.Enum.Bare.{same_true, true_same}
use denote.Enum.Compared.{Each}
use denote.Enum.Declared.{values_one}

-- ---- Tests of fields

abbrev same_text : List ℕ → List ℕ → Bool
same_text = pointwise ◌==◌

abbrev same_extensions : Extensions → Extensions → Bool
same_extensions a b = a.0 == b.0

abbrev none : Unit {0} → Unit {0} → Bool
none x y = true

none_decides : (x y : Unit {0}) → Decides (none x y) (x ≡ y)
none_decides x y = (λ e. refl, λ e. refl)

pub io_kind_decides : (a b : IoKind) → Decides (same_io_kind.ghosts.eq a b) (a ≡ b)
io_kind_decides a b = (λ e. same_true io_kind.the_type tt a b e, λ e. true_same io_kind.the_type a b e)

-- ---- FormatKind, variant by variant

abbrev format_kind_tests : Each Bool format_kind.the_parts
format_kind_tests =
    (none, (none, (λ x y. (x.0 == y.0), (λ x y. (x.0 == y.0), tt))))

format_kind_tests_decide : EachDecides format_kind.the_parts format_kind_tests
format_kind_tests_decide =
    (none_decides, (none_decides, (last ◌==◌ Decides-eqb, (last ◌==◌ Decides-eqb, tt))))

pub format_kind_decides : (a b : FormatKind) → Decides (same_format_kind.ghosts.eq a b) (a ≡ b)
format_kind_decides a b = decides_by _ (values_one format_kind.enum a b) (λ e. ap format_kind.as_values e)
    (choice_decides format_kind.the_parts format_kind_tests format_kind_tests_decide (format_kind.as_values a)
    (format_kind.as_values b))

-- ---- FrameError, variant by variant

abbrev frame_error_tests : Each Bool frame_error.the_parts
frame_error_tests =
    (none, (λ x y. same_format_kind.ghosts.eq x.0 y.0, (λ x y. (x.0 == y.0), tt)))

frame_error_tests_decide : EachDecides frame_error.the_parts frame_error_tests
frame_error_tests_decide =
    (none_decides, (last same_format_kind.ghosts.eq format_kind_decides, (last ◌==◌ Decides-eqb, tt)))

pub frame_error_decides : (a b : FrameError) → Decides (same_frame_error.ghosts.eq a b) (a ≡ b)
frame_error_decides a b = decides_by _ (values_one frame_error.enum a b) (λ e. ap frame_error.as_values e)
    (choice_decides frame_error.the_parts frame_error_tests frame_error_tests_decide (frame_error.as_values a)
    (frame_error.as_values b))

-- ---- Fault, variant by variant

abbrev fault_tests : Each Bool fault.the_parts
fault_tests = (
  none,
  (
    none,
    (
      λ x y. (x.0 == y.0),
      (
        λ x y. same_format_kind.ghosts.eq x.0 y.0,
        (
          λ x y. (x.0 == y.0),
          (
            λ x y.
                (x.0 == y.0),
            (λ x y. (option_eq ◌==◌) x.0 y.0, (λ x y. (x.0 == y.0), tt)),
          ),
        ),
      ),
    ),
  ),
)

fault_tests_decide : EachDecides fault.the_parts fault_tests
fault_tests_decide = (
  none_decides,
  (
    none_decides,
    (
      last ◌==◌ Decides-eqb,
      (
        last same_format_kind.ghosts.eq format_kind_decides,
        (
          last ◌==◌ Decides-eqb,
          (
            last ◌==◌ Decides-eqb,
            (
              last (option_eq ◌==◌) (option_decides _ Decides-eqb),
              (
                last
                    ◌==◌ Decides-eqb,
                tt,
              ),
            ),
          ),
        ),
      ),
    ),
  ),
)

pub fault_decides : (a b : Fault) → Decides (same_fault.ghosts.eq a b) (a ≡ b)
fault_decides a b = decides_by _ (values_one fault.enum a b) (λ e. ap fault.as_values e)
    (choice_decides fault.the_parts fault_tests fault_tests_decide (fault.as_values a) (fault.as_values b))

-- ---- Error, variant by variant

abbrev error_tests : Each Bool error.the_parts
error_tests = (
  none,
  (
    none,
    (
      none,
      (
        λ x y. (x.0 == y.0),
        (
          λ x y. same_format_kind.ghosts.eq x.0 y.0,
          (
            λ x y. (x.0 == y.0),
            (
              λ x y. (x.0 == y.0),
              (
                λ x y. (option_eq ◌==◌) x.0 y.0,
                (
                  λ x y. (x.0 == y.0) && (same_text x.1.0 y.1.0 &&
                      (same_text x.1.1.0 y.1.1.0)),
                  (
                    λ x y. same_extensions x.0 y.0,
                    (
                      λ x y. same_io_kind.ghosts.eq x.0 y.0,
                      (
                        λ x y.
                            same_fault.ghosts.eq x.0 y.0,
                        tt,
                      ),
                    ),
                  ),
                ),
              ),
            ),
          ),
        ),
      ),
    ),
  ),
)

error_tests_decide : EachDecides error.the_parts error_tests
error_tests_decide = (
  none_decides,
  (
    none_decides,
    (
      none_decides,
      (
        last ◌==◌ Decides-eqb,
        (
          last same_format_kind.ghosts.eq
              format_kind_decides,
          (
            last ◌==◌ Decides-eqb,
            (
              last ◌==◌ Decides-eqb,
              (
                last (option_eq ◌==◌) (option_decides _
                    Decides-eqb),
                (
                  first ◌==◌ (λ x y. same_text x.0 y.0 && (same_text x.1.0 y.1.0)) Decides-eqb (first same_text
                      (λ x y. same_text x.0 y.0) bytes_decides (last same_text bytes_decides)),
                  (
                    last same_extensions
                        extensions_decides,
                    (
                      last same_io_kind.ghosts.eq io_kind_decides,
                      (
                        last same_fault.ghosts.eq fault_decides,
                        tt,
                      ),
                    ),
                  ),
                ),
              ),
            ),
          ),
        ),
      ),
    ),
  ),
)

pub error_decides : (a b : Error) → Decides (same_error.ghosts.eq a b) (a ≡ b)
error_decides a b = decides_by _ (values_one error.enum a b) (λ e. ap error.as_values e)
    (choice_decides error.the_parts error_tests error_tests_decide (error.as_values a) (error.as_values b))

-- ---- Outcome, variant by variant

abbrev outcome_tests : Each Bool outcome.the_parts
outcome_tests = (
  none,
  (
    none,
    (
      λ x y. (x.0 == y.0),
      (
        λ x y. same_text x.0 y.0,
        (
          none,
          (
            λ x y. attrs.ghosts.eq x.0 y.0,
            (
              λ x y.
                  (pointwise entry.ghosts.eq) x.0 y.0,
              (
                λ x y. same_text x.0 y.0,
                (
                  λ x y. same_error.ghosts.eq x.0 y.0,
                  (
                    none,
                    (none, (none, tt)),
                  ),
                ),
              ),
            ),
          ),
        ),
      ),
    ),
  ),
)

outcome_tests_decide : EachDecides outcome.the_parts outcome_tests
outcome_tests_decide = (
  none_decides,
  (
    none_decides,
    (
      last ◌==◌ Decides-eqb,
      (
        last same_text bytes_decides,
        (
          none_decides,
          (
            last
                attrs.ghosts.eq attrs_decides,
            (
              last (pointwise entry.ghosts.eq) (items_decides _ entry_decides),
              (
                last
                    same_text bytes_decides,
                (
                  last same_error.ghosts.eq error_decides,
                  (
                    none_decides,
                    (
                      none_decides,
                      (none_decides, tt),
                    ),
                  ),
                ),
              ),
            ),
          ),
        ),
      ),
    ),
  ),
)

pub outcome_decides : (a b : Outcome) → Decides (same_outcome.ghosts.eq a b) (a ≡ b)
outcome_decides a b = decides_by _ (values_one outcome.enum a b) (λ e. ap outcome.as_values e)
    (choice_decides outcome.the_parts outcome_tests outcome_tests_decide (outcome.as_values a) (outcome.as_values b))
