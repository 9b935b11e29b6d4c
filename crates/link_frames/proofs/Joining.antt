-- What calls of a link join to, and how an error goes up.
use Rattle.std.proofs.Common.{◌≡◌, ℕ, Bool, refl, ap, ◌∙◌, subst}
use Rattle.std.specs.Prelude.{Result, Ok, Err, IsErrAnd}
use Rattle.std.proofs.lemmas.Result.{err_from_is_err_and}
use Rattle.sftp_model.specs.declared.error.Error.{Error}
use Rattle.sftp_model.specs.declared.error.Error.TheVariants as error
use Rattle.sftp_core.specs.declared.errors.TakeError.{TakeError}
use Rattle.sftp_core.specs.declared.errors.TakeError.TheVariants as take
use Rattle.sftp_link.specs.Views.{LinkView}
use Rattle.link_frames.specs.Causes.{CountsLinkFault, IsCausedByLink, EndCause}
use Rattle.sftp_core.specs.Errors.{error_of}

-- ---- a link is called

pub caused_self : {S T : Type 0} (a : LinkView S) (x : T) → IsCausedByLink {T = T} a a (Ok x)
caused_self a x = record { cause = refl; end = tt; only = tt; service = refl }

cause_on : {T : Type 0} (a b c : ℕ) (r : Result T Error) → b ≡ a → CountsLinkFault b c r → CountsLinkFault a c r
cause_on a b c r same cause = subst (λ (n : ℕ). CountsLinkFault n c r) same cause

pub caused_on : {S T U : Type 0} (a b c : LinkView S) (x : U) (r : Result T Error) → IsCausedByLink a b (Ok x)
    → IsCausedByLink b c r → IsCausedByLink a c r
caused_on a b c x r first second =
    record {
      cause = cause_on a.faults b.faults c.faults r first.cause second.cause;
      end = second.end;
      only =
          second.only;
      service = second.service ∙ first.service;
    }

-- ---- a `?` lets an error through

pub escaped : {T E : Type 0} (r : Result T E) (e : E) → IsErrAnd r (λ y. y ≡ e) → r ≡ Err e
escaped r e is = let p = err_from_is_err_and r is in p.1 ∙ ap Err p.2

-- an error is one whatever the answer would have been
same_cause : (T U : Type 0) (m n : ℕ) (e : Error) → CountsLinkFault {T = T} m n (Err e)
    → CountsLinkFault {T = U} m n (Err e)
same_cause T U m n error.LinkFault c = c
same_cause T U m n other c = c

pub same_end : (T U : Type 0) (b : Bool) (e : Error) → EndCause {T = T} b (Err e) → EndCause {T = U} b (Err e)
same_end T U b error.LinkEnded c = c
same_end T U b other c = c

pub end_told : {S T : Type 0} {x y : LinkView S} {e : Error} → IsCausedByLink {T = T} x y (Err e)
    → EndCause {T = Unit {0}} y.ended (Err e)
end_told {T = T} {y = y} {e = e} c = same_end T (Unit {0}) y.ended e c.end

pub same_caused : {S T U : Type 0} (x y : LinkView S) (e : Error) → IsCausedByLink {T = T} x y (Err e)
    → IsCausedByLink {T = U} x y (Err e)
same_caused {T = T} {U = U} x y e c = record {
  cause = same_cause T U x.faults y.faults e c.cause;
  end =
      same_end T U y.ended e c.end;
  only = c.only;
  service = c.service;
}

pub error_causes : {S R : Type 0} (x y : LinkView S) (r : R) (t : TakeError) → IsCausedByLink x y (Ok r)
    → IsCausedByLink {T = Unit {0}} x y (Err (error_of t))
error_causes x y r take.OutOfMemory c = record { cause = c.cause; end = tt; only = tt; service = c.service }
error_causes x y r (take.Format kind) c = record { cause = c.cause; end = tt; only = tt; service = c.service }
error_causes x y r (take.HandleTooLong len) c = record { cause = c.cause; end = tt; only = tt; service = c.service }
error_causes x y r (take.InvalidResponseId id) c = record { cause = c.cause; end = tt; only = tt; service = c.service }
error_causes x y r (take.InvalidResponse id) c = record { cause = c.cause; end = tt; only = tt; service = c.service }
error_causes x y r (take.LimitsRefused code message language) c =
    record { cause = c.cause; end = tt; only = tt; service = c.service }
error_causes x y r (take.Protocol version) c = record { cause = c.cause; end = tt; only = tt; service = c.service }
