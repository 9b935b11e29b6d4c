-- What the journal says of grants and of who holds them, as it goes on.
use Rattle.std.proofs.Common.{◌≡◌, ◌<◌, ℕ, true, List, [], ◌∷◌, Option, Some, None, refl, ap, arith, inl, inr}
use Rattle.std.proofs.lemmas.Bool.Decides.{eqb_tells}
use Rattle.sftp_model.specs.declared.request.Request.{Request}
use Rattle.sftp_model.specs.declared.slot.Site.{Site}
use Rattle.plan_model.specs.declared.call.Call.{Call}
use Rattle.session_model.specs.declared.event.Owner.{Owner}
use Rattle.session_model.specs.declared.event.Event.TheVariants.{Submit}
use Rattle.session_model.specs.declared.entry.Entry.{Entry}
use Rattle.session_model.specs.Readings.{count_submitted}
use Rattle.session_model.specs.Calls.{Setting, held_by}
use Rattle.session_model.specs.Grants.{closed_grants, is_grant, is_unended_asker, next_due}
use Rattle.session_model.specs.Journals.{close_of}
use Rattle.session_model.proofs.LetGoLaws.{granted_below}
use Rattle.plan_model.specs.declared.call.Call.TheVariants as call
use Rattle.session_model.specs.declared.entry.Entry.TheVariants as entry

-- what the session's own CLOSE adds
pub closed_own : (s : Setting) (past : List Entry) (g id : ℕ) → next_due s past ≡ Some g
    → closed_grants s (close_of past g id ∷ past) ≡ Some g ∷ closed_grants s past
closed_own s past g id due = ap (λ (o : Option ℕ). o ∷ closed_grants s past) due

-- the asker of a grant is as it was
pub asker_stays : (past : List Entry) (by : Owner) (id : ℕ) (r : Request) (g w : ℕ) → is_grant past g ≡ true
    → is_unended_asker (entry.Event (Submit by id r) ∷ past) w g ≡ is_unended_asker past w g
asker_stays past by id r g w granted =
    let below : g < count_submitted past = granted_below past g granted in
    elim (eqb_tells g (count_submitted past)) [
      | inl t ↦ absurd (let e : g ≡ count_submitted past = t.1 in omega arith)
      | inr t ↦ rw t.0 refl
    ]

-- a call that has made no request holds what its lane held before
pub held_idle : (c : Option Call) (site : Site) → held_by c [] site ≡ site
held_idle None site = refl
held_idle (Some (call.Close slot)) site = refl
held_idle (Some other) site = refl
