-- A worked call so far: an OPEN, the handle, two READs at once and the first DATA.
use Rattle.std.proofs.Common.{◌≡◌, ◌==◌, ℕ, Bool, true, false, [], ◌∷◌, Some, refl, subst, arith, if◌then◌else◌}
use Rattle.std.specs.Prelude.{codes}
use Rattle.std.proofs.lemmas.Bool.Decides.{nat_tests}
use Rattle.ssh_encoding.specs.Writing.{uint32, string}
use Rattle.sftp_model.specs.Frames.{attributes, request_body}
use Rattle.sftp_model.specs.Slots.{fresh_site}
use Rattle.plan_model.specs.declared.call.Call.TheVariants as call
use Rattle.plan_model.specs.OwnRequests.{ExtendsAnswers, IsCallSoFar}
use Rattle.plan_model.specs.PlanWords.{known, granted, read_at}
use Rattle.plan_model.specs.WindowPlanRows.{got, opened, three}

data_stays : ExtendsAnswers (known ((0, granted) ∷ [])) (known ((1, got (codes "ab")) ∷ (0, granted) ∷ []))
data_stays place r e = by_test (1 == place) refl
  where
    second : place ≡ 1 → known ((0, granted) ∷ []) 1 ≡ Some r
    second is = subst (λ (n : ℕ). known ((0, granted) ∷ []) n ≡ Some r) is e

    by_test : (b : Bool) → (1 == place) ≡ b → (if b then Some (got (codes "ab")) else known ((0, granted) ∷ []) place)
        ≡ Some r
    by_test true is = absurd (let z : known ((0, granted) ∷ []) 1 ≡ Some r = second (grind (arith, nat_tests)) in cc)
    by_test false is = e

pub whole_read : IsCallSoFar (call.FsRead (codes "a") 9) fresh_site three (read_at 2 2 2 ∷ read_at 1 0 2 ∷ opened ∷ [])
    (known ((1, got (codes "ab")) ∷ (0, granted) ∷ []))
unfolding request_body string uint32 attributes
whole_read =
    record {
      asked = (
        known ((0, granted) ∷ []),
        (
          known ((0, granted) ∷ []),
          (known [], tt, refl, refl, λ place r e. absurd cc),
          refl,
          refl,
          λ place r e. e,
        ),
        refl,
        refl,
        data_stays,
      );
      answered = (tt, (refl, (refl, tt)));
    }
