-- Steps that are made one after another.
use Rattle.std.proofs.Common.{◌≡◌, ◌++◌, List, [], ◌∷◌, refl, subst}
use Rattle.std.specs.Prelude.{Result, Ok, Err}
use Rattle.sftp_model.specs.declared.error.Error.{Error}
use Rattle.sftp_link.specs.Views.{LinkView}
use Rattle.plan_state.proofs.Keeping.{keeps_both, keeps_same}
use Rattle.sftp_client.specs.Calls.{IsCallable}
use Rattle.sftp_client.specs.Sequences.{ContinuesIfOk, RunsAll, RunsEach}
use Rattle.sftp_client.specs.Sessions.{SftpValue}

both_by : {S E : Type 0} (a b : S) (now : S) (result : Result (Unit {0}) E) (On Off : Type 0) → (On → Off)
    → (first : Result (Unit {0}) E) → ContinuesIfOk first On ((b ≡ now) × (Ok tt ≡ first))
    → ContinuesIfOk first Off ((a ≡ now) × (result ≡ first))
both_by a b now result On Off step (Ok u) on = step on
both_by a b now result On Off step (Err e) off = absurd cc

-- steps that ended well, and then others
pub each_both : {S A E : Type 0} (Step : A → S → S → Result (Unit {0}) E → Type 0) (old mid new : S) (xs ys : List A)
    (result : Result (Unit {0}) E) → RunsEach Step old mid xs (Ok tt) → RunsEach Step mid new ys result
    → RunsEach Step old new (xs ++ ys) result
each_both Step old mid new [] ys result h later = subst (λ s. RunsEach Step s new ys result) h.0 later
each_both Step old mid new (x ∷ xs) ys result h later = (
  h.0,
  (
    h.1.0,
    (
      h.1.1.0,
      both_by new mid h.0 result (RunsEach Step h.0 mid xs (Ok tt))
          (RunsEach Step h.0 new (xs ++ ys) result) (λ on. each_both Step h.0 mid new xs ys result on later) h.1.0
          h.1.1.1,
    ),
  ),
)

stopped_by : {E : Type 0} (On Later Off : Type 0) → (On → Later) → (first : Result (Unit {0}) E)
    → ContinuesIfOk first On Off → ContinuesIfOk first Later Off
stopped_by On Later Off step (Ok u) on = step on
stopped_by On Later Off step (Err f) off = off

-- an error ends all steps, whatever was to come
pub each_stopped : {S A E : Type 0} (Step : A → S → S → Result (Unit {0}) E → Type 0) (old new : S) (xs ys : List A)
    (e : E) → RunsEach Step old new xs (Err e) → RunsEach Step old new (xs ++ ys) (Err e)
each_stopped Step old new [] ys e h = absurd cc
each_stopped Step old new (x ∷ xs) ys e h = (
  h.0,
  (
    h.1.0,
    (
      h.1.1.0,
      stopped_by (RunsEach Step h.0 new xs (Err e)) (RunsEach Step h.0 new (xs ++ ys) (Err e))
          ((new ≡ h.0) × (Err e ≡ h.1.0)) (λ on. each_stopped Step h.0 new xs ys e on) h.1.0 h.1.1.1,
    ),
  ),
)

one_by : {S E : Type 0} (new : S) (result : Result (Unit {0}) E)
    → ContinuesIfOk result ((new ≡ new) × (result ≡ Ok tt)) ((new ≡ new) × (result ≡ result))
one_by new (Ok u) = (refl, refl)
one_by new (Err e) = (refl, refl)

pub each_one : {S A E : Type 0} (Step : A → S → S → Result (Unit {0}) E → Type 0) (old new : S) (x : A)
    (result : Result (Unit {0}) E) → Step x old new result → RunsEach Step old new (x ∷ []) result
each_one Step old new x result h = (new, (result, (h, one_by new result)))

-- ---- the same in a session

pub all_none : {L S A : Type 0} (Step : A → SftpValue L → SftpValue L → Result (Unit {0}) Error → Type 0)
    (state : L → LinkView S) (old : SftpValue L) → IsCallable state old → RunsAll Step state [] old old (Ok tt)
all_none Step state old callable = record { each = (refl, refl); keeps = keeps_same old.core; callable = callable }

pub all_both : {L S A : Type 0} (Step : A → SftpValue L → SftpValue L → Result (Unit {0}) Error → Type 0)
    (state : L → LinkView S) (xs ys : List A) (old mid new : SftpValue L) (result : Result (Unit {0}) Error)
    → RunsAll Step state xs old mid (Ok tt) → RunsAll Step state ys mid new result
    → RunsAll Step state (xs ++ ys) old new result
all_both Step state xs ys old mid new result h later =
    record {
      each = each_both Step old mid new xs ys result h.each later.each;
      keeps = keeps_both old.core mid.core new.core h.keeps later.keeps;
      callable = later.callable;
    }

pub all_stopped : {L S A : Type 0} (Step : A → SftpValue L → SftpValue L → Result (Unit {0}) Error → Type 0)
    (state : L → LinkView S) (xs ys : List A) (old new : SftpValue L) (e : Error)
    → RunsAll Step state xs old new (Err e) → RunsAll Step state (xs ++ ys) old new (Err e)
all_stopped Step state xs ys old new e h =
    record { each = each_stopped Step old new xs ys e h.each; keeps = h.keeps; callable = h.callable }
