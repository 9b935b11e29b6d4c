-- What gives the part of a copy from the server its name.
use Rattle.std.proofs.Common.{◌≡◌, inr, Bool, false, true, List, [], ◌∷◌, ℕ, refl, sym, ap, ◌∙◌, subst}
use Rattle.std.specs.Prelude.{Result, Ok, Err}
use Rattle.transfer_copy.specs.Local.{Failed, HasDone, LocalAct, NamesPart, Renamed, Synced, SyncedParent, act_of}

-- without the calls that write through
pub plain_named : {H E : Type 0} (done : LocalAct → H → H) (sync : Bool) (part name : List ℕ)
    (result : Result (Unit {0}) E) (before now : H) → sync ≡ false
    → HasDone done (act_of result (Renamed part name) ∷ []) before now → NamesPart done sync part name result before now
plain_named {E = E} done sync part name (Ok u) before now off did =
    subst (λ (b : Bool). NamesPart {E = E} done b part name (Ok u) before now) (sym off) did
plain_named done sync part name (Err e) before now off did =
    subst (λ (b : Bool). NamesPart done b part name (Err e) before now) (sym off)
    (Failed (Renamed part name) ∷ [], refl, did)

-- after both, the directory was written through, or not
pub parent_synced : {H E : Type 0} (done : LocalAct → H → H) (part name : List ℕ) (result : Result (Unit {0}) E)
    (before synced renamed now : H) → synced ≡ done Synced before → renamed ≡ done (Renamed part name) synced
    → HasDone done (act_of result (SyncedParent name) ∷ []) renamed now
    → NamesPart done true part name result before now
parent_synced done part name (Ok u) before synced renamed now first second did =
    did ∙ ap (done (SyncedParent name)) (second ∙ ap (done (Renamed part name)) first)
parent_synced done part name (Err e) before synced renamed now first second did = (
  Synced ∷ Renamed part name ∷ Failed (SyncedParent name) ∷ [],
  inr (inr refl),
  did ∙ ap (done (Failed (SyncedParent name))) (second ∙ ap (done (Renamed part name)) first),
)
