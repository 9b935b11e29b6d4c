-- `==` of requests decides equality.
use Rattle.std.specs.Prelude.{ℕ, List, ◌≡◌, ◌==◌, ◌&&◌, Bool, true, refl}
use Rattle.std.specs.Bool.{Decides}
use Rattle.std.specs.Cmp.Lexicographic.{bytes_decides, pointwise}
use Rattle.std.proofs.Common.{ap}
use Rattle.std.proofs.lemmas.Bool.Decides.{Decides-eqb}
use Rattle.sftp_values.specs.Same.{decides_by}
use Rattle.sftp_model.specs.Same.{flags_decides, attrs_decides}
use Rattle.sftp_model.specs.declared.file_attrs.FileAttrs.{FileAttrs}
use Rattle.sftp_model.specs.declared.flags.OpenFlags.{OpenFlags}
use Rattle.sftp_model.specs.declared.request.Request.{Request}
use Rattle.sftp_model.specs.contracts.file_attrs.FileAttrsPartialEq.TheImpl as attrs
use Rattle.sftp_model.specs.contracts.request.Request.{as_values, enum, the_parts}
use Rattle.sftp_model.specs.contracts.request.RequestPartialEq.TheImpl as requests
use Rattle.sftp_model.specs.SameFields.{EachDecides, choice_decides, first, last}
use denote.Enum.Compared.{Each}
use denote.Enum.Declared.{values_one}

abbrev same_text : List ℕ → List ℕ → Bool
same_text = pointwise ◌==◌

abbrev same_attrs : FileAttrs → FileAttrs → Bool
same_attrs = attrs.ghosts.eq

abbrev same_flags : OpenFlags → OpenFlags → Bool
same_flags a b = a.0 == b.0

abbrev number : ℕ × Unit {0} → ℕ × Unit {0} → Bool
number x y = (x.0 == y.0)

number_decides : (x y : ℕ × Unit {0}) → Decides (number x y) (x ≡ y)
number_decides = last ◌==◌ Decides-eqb

abbrev open_fields : List ℕ × (OpenFlags × (FileAttrs × Unit {0})) → List ℕ × (OpenFlags × (FileAttrs × Unit {0}))
    → Bool
open_fields x y = same_text x.0 y.0 && (same_flags x.1.0 y.1.0 && (same_attrs x.1.1.0 y.1.1.0))

open_fields_decides : (x y : List ℕ × (OpenFlags × (FileAttrs × Unit {0}))) → Decides (open_fields x y) (x ≡ y)
open_fields_decides = first same_text (λ x y. same_flags x.0 y.0 && (same_attrs x.1.0 y.1.0)) bytes_decides
    (first same_flags (λ x y. same_attrs x.0 y.0) flags_decides (last same_attrs attrs_decides))

abbrev text : List ℕ × Unit {0} → List ℕ × Unit {0} → Bool
text x y = same_text x.0 y.0

text_decides : (x y : List ℕ × Unit {0}) → Decides (text x y) (x ≡ y)
text_decides = last same_text bytes_decides

abbrev read_fields : List ℕ × (ℕ × (ℕ × Unit {0})) → List ℕ × (ℕ × (ℕ × Unit {0})) → Bool
read_fields x y = same_text x.0 y.0 && ((x.1.0 == y.1.0) && ((x.1.1.0 == y.1.1.0)))

read_fields_decides : (x y : List ℕ × (ℕ × (ℕ × Unit {0}))) → Decides (read_fields x y) (x ≡ y)
read_fields_decides = first same_text (λ x y. (x.0 == y.0) && ((x.1.0 == y.1.0))) bytes_decides
    (first ◌==◌ (λ x y. (x.0 == y.0)) Decides-eqb (last ◌==◌ Decides-eqb))

abbrev write_fields : List ℕ × (ℕ × (List ℕ × Unit {0})) → List ℕ × (ℕ × (List ℕ × Unit {0})) → Bool
write_fields x y = same_text x.0 y.0 && ((x.1.0 == y.1.0) && (same_text x.1.1.0 y.1.1.0))

write_fields_decides : (x y : List ℕ × (ℕ × (List ℕ × Unit {0}))) → Decides (write_fields x y) (x ≡ y)
write_fields_decides = first same_text (λ x y. (x.0 == y.0) && (same_text x.1.0 y.1.0)) bytes_decides
    (first ◌==◌ (λ x y. same_text x.0 y.0) Decides-eqb (last same_text bytes_decides))

abbrev text_and_attrs : List ℕ × (FileAttrs × Unit {0}) → List ℕ × (FileAttrs × Unit {0}) → Bool
text_and_attrs x y = same_text x.0 y.0 && (same_attrs x.1.0 y.1.0)

text_and_attrs_decides : (x y : List ℕ × (FileAttrs × Unit {0})) → Decides (text_and_attrs x y) (x ≡ y)
text_and_attrs_decides = first same_text (λ x y. same_attrs x.0 y.0) bytes_decides (last same_attrs attrs_decides)

abbrev two_texts : List ℕ × (List ℕ × Unit {0}) → List ℕ × (List ℕ × Unit {0}) → Bool
two_texts x y = same_text x.0 y.0 && (same_text x.1.0 y.1.0)

two_texts_decides : (x y : List ℕ × (List ℕ × Unit {0})) → Decides (two_texts x y) (x ≡ y)
two_texts_decides = first same_text (λ x y. same_text x.0 y.0) bytes_decides (last same_text bytes_decides)

abbrev copy_fields : List ℕ × (ℕ × (ℕ × (List ℕ × (ℕ × Unit {0})))) → List ℕ × (ℕ × (ℕ × (List ℕ × (ℕ × Unit {0}))))
    → Bool
copy_fields x y = same_text x.0 y.0 && ((x.1.0 == y.1.0) && ((x.1.1.0 == y.1.1.0)
    && (same_text x.1.1.1.0 y.1.1.1.0 && ((x.1.1.1.1.0 == y.1.1.1.1.0)))))

copy_fields_decides : (x y : List ℕ × (ℕ × (ℕ × (List ℕ × (ℕ × Unit {0}))))) → Decides (copy_fields x y) (x ≡ y)
copy_fields_decides = first same_text (λ x y. (x.0 == y.0) &&
    ((x.1.0 == y.1.0) && (same_text x.1.1.0 y.1.1.0 && ((x.1.1.1.0 == y.1.1.1.0))))) bytes_decides
    (first ◌==◌ (λ x y. (x.0 == y.0) && (same_text x.1.0 y.1.0 && ((x.1.1.0 == y.1.1.0)))) Decides-eqb
    (first ◌==◌ (λ x y. same_text x.0 y.0 && ((x.1.0 == y.1.0))) Decides-eqb
    (first same_text (λ x y. (x.0 == y.0)) bytes_decides (last ◌==◌ Decides-eqb))))

abbrev none : Unit {0} → Unit {0} → Bool
none x y = true

none_decides : (x y : Unit {0}) → Decides (none x y) (x ≡ y)
none_decides x y = (λ e. refl, λ e. refl)

-- ---- Requests, variant by variant

abbrev tests : Each Bool the_parts
tests = (
  number,
  (
    open_fields,
    (
      text,
      (
        read_fields,
        (
          write_fields,
          (
            text,
            (
              text,
              (
                text_and_attrs,
                (
                  text_and_attrs,
                  (
                    text,
                    (
                      text,
                      (
                        text,
                        (
                          text_and_attrs,
                          (
                            text,
                            (
                              text,
                              (
                                text,
                                (
                                  two_texts,
                                  (
                                    text,
                                    (
                                      two_texts,
                                      (
                                        two_texts,
                                        (two_texts, (text, (text, (copy_fields, (none, tt))))),
                                      ),
                                    ),
                                  ),
                                ),
                              ),
                            ),
                          ),
                        ),
                      ),
                    ),
                  ),
                ),
              ),
            ),
          ),
        ),
      ),
    ),
  ),
)

tests_decide : EachDecides the_parts tests
tests_decide = (
  number_decides,
  (
    open_fields_decides,
    (
      text_decides,
      (
        read_fields_decides,
        (
          write_fields_decides,
          (
            text_decides,
            (
              text_decides,
              (
                text_and_attrs_decides,
                (
                  text_and_attrs_decides,
                  (
                    text_decides,
                    (
                      text_decides,
                      (
                        text_decides,
                        (
                          text_and_attrs_decides,
                          (
                            text_decides,
                            (
                              text_decides,
                              (
                                text_decides,
                                (
                                  two_texts_decides,
                                  (
                                    text_decides,
                                    (
                                      two_texts_decides,
                                      (
                                        two_texts_decides,
                                        (
                                          two_texts_decides,
                                          (
                                            text_decides,
                                            (
                                              text_decides,
                                              (copy_fields_decides, (none_decides, tt)),
                                            ),
                                          ),
                                        ),
                                      ),
                                    ),
                                  ),
                                ),
                              ),
                            ),
                          ),
                        ),
                      ),
                    ),
                  ),
                ),
              ),
            ),
          ),
        ),
      ),
    ),
  ),
)

pub request_decides : (a b : Request) → Decides (requests.ghosts.eq a b) (a ≡ b)
request_decides a b = decides_by _ (values_one enum a b) (λ e. ap as_values e)
    (choice_decides the_parts tests tests_decide (as_values a) (as_values b))
