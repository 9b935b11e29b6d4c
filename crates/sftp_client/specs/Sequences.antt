-- Steps that are made one after another, up to the first that fails.
use Rattle.std.specs.Prelude.{◌≡◌, refl, List, [], ◌∷◌, Result, Ok, Err}
use Rattle.sftp_model.specs.declared.error.Error.{Error}
use Rattle.sftp_link.specs.Views.{LinkView}
use Rattle.plan_state.specs.Keeping.{KeepsHeld}
use Rattle.sftp_client.specs.Calls.{IsCallable}
use Rattle.sftp_client.specs.Sessions.{SftpValue}

-- After a step that ended well the others are made; after an error nothing more is.
abbrev pub ContinuesIfOk : {E : Type 0} → Result (Unit {0}) E → Type 0 → Type 0 → Type 0
ContinuesIfOk (Ok u) On Off = On
ContinuesIfOk (Err e) On Off = Off

-- A step was made for each item, in order. The first error ends them, and is the result.
abbrev pub RunsEach : {S A E : Type 0} → (A → S → S → Result (Unit {0}) E → Type 0) → S → S → List A
    → Result (Unit {0}) E → Type 0
RunsEach Step old new [] result = (new ≡ old) × (result ≡ Ok tt)
RunsEach {S = S} {E = E} Step old new (x ∷ xs) result = (mid : S) × ((first : Result (Unit {0}) E)
    × (Step x old mid first × ContinuesIfOk first (RunsEach Step mid new xs result) ((new ≡ mid) × (result ≡ first))))

-- The same in a session. Whatever the result, the core still holds each ticket and each grant that it held.
pub record RunsAll {L S A : Type 0} (Step : A → SftpValue L → SftpValue L → Result (Unit {0}) Error → Type 0)
    (state : L → LinkView S) (items : List A) (old new : SftpValue L) (result : Result (Unit {0}) Error) : Type 0 where
  pub each : RunsEach Step old new items result
  pub keeps : KeepsHeld old.core new.core
  pub callable : IsCallable state new

-- ---- Worked rows

-- No item: nothing changed.
pub no_item : {S A E : Type 0} (Step : A → S → S → Result (Unit {0}) E → Type 0) (old : S) → RunsEach Step old old []
    (Ok tt)
no_item Step old = (refl, refl)

-- Two items: the second step began where the first one ended.
pub two_items : {S A E : Type 0} (Step : A → S → S → Result (Unit {0}) E → Type 0) (old mid new : S) (x y : A)
    → Step x old mid (Ok tt) → Step y mid new (Ok tt) → RunsEach Step old new (x ∷ y ∷ []) (Ok tt)
two_items Step old mid new x y first second = (mid, (Ok tt, (first, (new, (Ok tt, (second, (refl, refl)))))))

-- The first step was refused: the second one was not made.
pub first_refused : {S A E : Type 0} (Step : A → S → S → Result (Unit {0}) E → Type 0) (old new : S) (x y : A) (e : E)
    → Step x old new (Err e) → RunsEach Step old new (x ∷ y ∷ []) (Err e)
first_refused Step old new x y e first = (new, (Err e, (first, (refl, refl))))
