-- The requests that were sent use grants, whichever of those that were not closed each is said to use.
use Rattle.std.proofs.Common.{◌≡◌, ◌<◌, ◌≤◌, ℕ, true, false, List, [], ◌∷◌, Option, Some, refl, ap, sym, ◌∙◌, subst, arith, inl, inr}
use Rattle.std.specs.Prelude.{◌⊎◌}
use Rattle.sftp_model.specs.declared.reply.Reply.TheVariants as reply
use Rattle.sftp_model.specs.declared.request.Request.{Request}
use Rattle.sftp_model.specs.declared.request.Request.TheVariants as request
use Rattle.machine_model.specs.Changes.{ClosesHandle}
use Rattle.machine_model.specs.Pairs.{HasEntry}
use Rattle.plan_model.specs.Moves.{Own, handle_of}
use Rattle.session_model.specs.declared.entry.Entry.{Entry}
use Rattle.session_model.specs.Calls.{Setting}
use Rattle.session_model.specs.Grants.{is_asked_by, is_close, is_one_of}
use Rattle.session_model.specs.Journals.{IsJournal}
use Rattle.session_model.specs.Readings.{AskedRequest, answer, count_submitted, asked_at}
use Rattle.run_laws.specs.Bearing.{BearsHandle, grant_used_at}
use Rattle.run_laws.specs.GrantUses.{IsUsed, UseGrants}
use Rattle.run_laws.specs.Steps.{Step, asked_in}
use Rattle.run_laws.proofs.SentLaws.{AllAbove, AreAll, AreKnown}
use Rattle.run_laws.proofs.ServedSteps.{HasRequest}
use Rattle.run_laws.proofs.UsedLaws.{closed_before, open_last, uses_grant}

-- The grant is that of an earlier request of a call which a HANDLE answered, and it had no CLOSE as the request was
-- submitted.
pub record MayBeUsed (s : Setting) (past : List Entry) (place g : ℕ) : Type 0 where
  pub before : g < place
  pub lane : ℕ
  pub call : ℕ
  pub asker : is_asked_by (asked_at past g) lane call ≡ true
  pub handle : List ℕ
  pub came : answer past g ≡ Some (reply.Handle handle)
  pub unclosed : is_one_of (closed_before s past place) g ≡ false

-- Each request is said to use a grant that it may use, and each CLOSE the one that it closes.
pub record UseWell (s : Setting) (past : List Entry) (grant_of : ℕ → Option ℕ) : Type 0 where
  pub may : (place g : ℕ) → place < count_submitted past → grant_of place ≡ Some g → MayBeUsed s past place g
  pub closes : (place : ℕ) (a : AskedRequest) (h : List ℕ) → asked_at past place ≡ Some a → a.request ≡ request.Close h
      → grant_of place ≡ grant_used_at s past place h

pub above_has : (n place : ℕ) (requests : Own) → AllAbove n requests → HasRequest requests place → n < place
above_has n place [] above has = absurd has
above_has n place (r ∷ requests) above (inl e) = (let lt = above.0 in let here : r.0 ≡ place = e in
    omega (arith, lt, here))
above_has n place (r ∷ requests) above (inr h) = above_has n place requests above.1 h

-- what is used by some of these steps is used by a request that stands behind
used_behind : (past : List Entry) (n m g : ℕ) (grant_of : ℕ → Option ℕ) (steps : List Step)
    → AllAbove n (asked_in steps) → AreKnown past m (asked_in steps) → IsUsed grant_of g steps → (place : ℕ)
    × ((n < place) × ((place < m) × (grant_of place ≡ Some g)))
used_behind past n m g grant_of [] above known used = absurd used
used_behind past n m g grant_of (s ∷ steps) above known (inl here) = (s.place, (above.0, (known.0.0, here)))
used_behind past n m g grant_of (s ∷ steps) above known (inr more) =
    used_behind past n m g grant_of steps above.1 known.1 more

closes_is : (r : Request) (h : List ℕ) → ClosesHandle r h → r ≡ request.Close h
closes_is (request.Close handle) h e = ap (λ (w : List ℕ). request.Close w) e
closes_is other h e = absurd e

pub use_grants : (s : Setting) (past : List Entry) (n : ℕ) (grant_of : ℕ → Option ℕ) (seen : List ℕ) (steps : List Step)
    → IsJournal s past → n ≤ count_submitted past → UseWell s past grant_of → AreAll past n seen (asked_in steps)
    → UseGrants (answer past) grant_of seen steps
use_grants s past n grant_of seen [] j le well all = tt
use_grants s past n grant_of seen (first ∷ steps) j le well all = (
  λ g e.
      (let u : MayBeUsed s past first.place g = well.may first.place g there e in
      let before : g < first.place = u.before in
      elim (all.complete g u.lane u.call (omega (arith, before, lt)) u.asker) [
        | inl seen_it ↦ seen_it
        | inr (inl here) ↦ absurd (let same : first.place ≡ g = here in omega (arith, before, same))
        | inr (inr more) ↦ absurd (let above : first.place < g =
            above_has first.place g (asked_in steps) all.rising.0 more in omega (arith, before, above))
      ]),
  λ h closes.
      (let is : first.request ≡ request.Close h = closes_is first.request h closes in
      let a : AskedRequest = all.known.0.1.0 in
      let request_is : a.request ≡ request.Close h = all.known.0.1.1.1 ∙ is in
      let u = uses_grant s past first.place a h j all.known.0.1.1.0
      (subst (λ (r : Request). BearsHandle r h) (sym request_is) refl) in (
        u.grant,
        (
          well.closes first.place a h all.known.0.1.1.0 request_is ∙ u.is,
          (
            ap handle_of u.came,
            λ later.
                (let b = used_behind past first.place n u.grant grant_of steps all.rising.0 all.known.1 later in
                let behind : first.place < b.0 = b.1.0 in
                let below : b.0 < n = b.1.1.0 in
                let within : b.0 < count_submitted past = omega (arith, below, le) in
                let last : b.0 ≤ first.place =
                open_last s past b.0 first.place u.grant a h within (well.may b.0 u.grant within b.1.1.1).unclosed
                all.known.0.1.1.0 (ap is_close request_is) u.is
                in omega (arith, behind, last)),
          ),
        ),
      )),
  λ later.
      (let b = used_behind past first.place n first.place grant_of steps all.rising.0 all.known.1 later in
      let below : b.0 < n = b.1.1.0 in
      let u : MayBeUsed s past b.0 first.place = well.may b.0 first.place (omega (arith, below, le)) b.1.1.1 in
      (u.handle, u.came)),
  use_grants s past n grant_of (first.place ∷ seen) steps j le well
      (record {
        rising = all.rising.1;
        known = all.known.1;
        complete =
            λ place lane call below mine. moved place (all.complete place lane call below mine);
      }),
)
  where
    lt : first.place < n
    lt = all.known.0.0

    there : first.place < count_submitted past
    there = omega (arith, lt, le)

    moved : (place : ℕ) → HasEntry seen place ⊎ ((first.place ≡ place) ⊎ HasRequest (asked_in steps) place)
        → ((first.place ≡ place) ⊎ HasEntry seen place) ⊎ HasRequest (asked_in steps) place
    moved place (inl seen_it) = inl (inr seen_it)
    moved place (inr (inl here)) = inl (inl here)
    moved place (inr (inr more)) = inr more
