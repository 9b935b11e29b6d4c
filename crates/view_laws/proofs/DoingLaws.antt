-- What is done holds: from calls that did what the files say, by what is done with what they brought.
use Rattle.std.proofs.Common.{ℕ, List, [], ◌∷◌, ◌++◌, subst}
use Rattle.std.proofs.lemmas.List.{append_assoc}
use Rattle.sftp_model.specs.declared.outcome.Outcome.{Outcome}
use Rattle.machine_model.specs.FileTree.{FileTree}
use Rattle.plan_model.specs.declared.call.Call.{Call}
use Rattle.view_model.specs.Viewed.{Doing, Found, found_in, makes, pure, ◌>>=◌}
use Rattle.view_laws.specs.FileCalls.{AllDid, CallEffect, FilesAt, MayCall}

-- the value holds of where the files are then
abbrev pub Post : Type 0 → Type 1
Post T = T → FilesAt → Type 0

-- Of all calls, those of this come first; behind them its value holds, and the others go on from there.
pub record Holds {T : Type 0} (len : ℕ) (f : Doing T) (before : FilesAt) (post : Post T) : Type 0 where
  pub by : (outcomes : List Outcome) (rest : List Call) (left : FileTree)
      → AllDid len before ((f outcomes).calls ++ rest) outcomes left
      → (mid : FilesAt) × (post (f outcomes).value mid × AllDid len mid rest (f outcomes).later left)

pub holds_pure : {T : Type 0} (len : ℕ) (x : T) (before : FilesAt) (post : Post T) → post x before
    → Holds len (pure x) before post
holds_pure len x before post p = record { by = λ outcomes rest left all. (before, (p, all)) }

pub holds_bind : {A B : Type 0} (len : ℕ) (f : Doing A) (k : A → Doing B) (before : FilesAt) (post : Post A)
    (then : Post B)
    → Holds len f before post → ((x : A) (mid : FilesAt) → post x mid → Holds len (k x) mid then)
    → Holds len (f >>= k) before then
holds_bind len f k before post then h more = record {
  by = λ outcomes rest left all. (
      let x = (f outcomes).value in
      let later = (f outcomes).later in
      let first = h.by outcomes ((k x later).calls ++ rest) left
      (subst (λ (w : List Call). AllDid len before w outcomes left)
      (append_assoc (f outcomes).calls (k x later).calls rest) all) in
      (more x first.0 first.1.0).by later rest left first.1.1
      );
}

pub holds_as : {T : Type 0} (len : ℕ) (f : Doing T) (before : FilesAt) (post then : Post T)
    → ((x : T) (mid : FilesAt) → post x mid → then x mid)
    → Holds len f before post → Holds len f before then
holds_as len f before post then g h = record {
  by = λ outcomes rest left all. (let x = h.by outcomes rest left all in
      (x.0, (g (f outcomes).value x.0 x.1.0, x.1.1)));
}

pub holds_call : (len : ℕ) (c : Call) (before : FilesAt) (post : Post Found) → MayCall before c
    → ((found : Found) (mid : FilesAt) → CallEffect len before c found mid → post found mid)
    → Holds len (makes c) before post
holds_call len c before post may f = record { by = by_outcomes }
  where
    by_outcomes : (outcomes : List Outcome) (rest : List Call) (left : FileTree)
        → AllDid len before ((makes c outcomes).calls ++ rest) outcomes left
        → (mid : FilesAt) × (post (makes c outcomes).value mid × AllDid len mid rest (makes c outcomes).later left)
    by_outcomes [] rest left all = absurd all
    by_outcomes (o ∷ later) rest left all = let x = all may in (x.0, (f (found_in o) x.0 x.1.0, x.1.1))

-- a call, and then what follows from what it brought
pub holds_after : {T : Type 0} (len : ℕ) (c : Call) (k : Found → Doing T) (before : FilesAt) (then : Post T)
    → MayCall before c
    → ((found : Found) (mid : FilesAt) → CallEffect len before c found mid → Holds len (k found) mid then)
    → Holds len (makes c >>= k) before then
holds_after len c k before then may f =
    holds_bind len (makes c) k before (λ found mid. CallEffect len before c found mid) then
    (holds_call len c before (λ found mid. CallEffect len before c found mid) may (λ found mid d. d)) f
