-- What is done call by call, in parts that follow one another.
use Rattle.std.proofs.Common.{◌≡◌, List, [], ◌∷◌, ◌++◌, refl, ap, sym, ◌∙◌, subst}
use Rattle.std.proofs.lemmas.List.{append-nil, append_assoc}
use Rattle.sftp_model.specs.declared.outcome.Outcome.{Outcome}
use Rattle.plan_model.specs.declared.call.Call.{Call}
use Rattle.view_model.specs.Viewed.{ComesTo, Doing, Made, after_calls, found_in, makes, pure, ◌>>=◌}

module _ {T : Type 0} where
  pub after_none : (m : Made T) → after_calls [] m ≡ m
  after_none m = refl

  pub after_both : (cs ds : List Call) (m : Made T) → after_calls cs (after_calls ds m) ≡ after_calls (cs ++ ds) m
  after_both cs ds m = λ i. record { calls = sym (append_assoc cs ds m.calls) i; value = m.value; later = m.later }

  pub comes_self : (f : Doing T) → ComesTo f f [] []
  comes_self f = record { by = λ later. refl }

  pub comes_on : (f g h : Doing T) (cs ds : List Call) (os ps : List Outcome) → ComesTo f g cs os → ComesTo g h ds ps
      → ComesTo f h (cs ++ ds) (os ++ ps)
  comes_on f g h cs ds os ps first second = record {
    by = λ later. ap f (append_assoc os ps later) ∙ (first.by (ps ++ later)
        ∙ (ap (after_calls cs) (second.by later) ∙ after_both cs ds (h later)));
  }

  -- what is left to do in other words
  pub comes_by : (f g h : Doing T) (cs : List Call) (os : List Outcome) → g ≡ h → ComesTo f g cs os → ComesTo f h cs os
  comes_by f g h cs os same comes = subst (λ (w : Doing T). ComesTo f w cs os) same comes

-- one thing is done, and what follows from it is left
pub comes_bind : {A B : Type 0} (m : Doing A) (v : A) (k : A → Doing B) (cs : List Call) (os : List Outcome)
    → ComesTo m (pure v) cs os
    → ComesTo (m >>= k) (k v) cs os
comes_bind m v k cs os comes = record {
  by = λ later. (λ i. after_calls (comes.by later i).calls (k (comes.by later i).value (comes.by later i).later))
      ∙ (λ i. after_calls (append-nil cs i) (k v later));
}

-- one call is made
pub comes_call : (c : Call) (o : Outcome) → ComesTo (makes c) (pure (found_in o)) (c ∷ []) (o ∷ [])
comes_call c o = record { by = λ later. refl }
