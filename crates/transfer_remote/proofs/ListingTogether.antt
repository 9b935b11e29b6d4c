-- Listings over one core, and what one of them leaves to the others.
use Rattle.std.proofs.Common.{◌≡◌, ◌≢◌, ◌⊎◌, ◌∙◌, inl, inr, ℕ, List, [], ◌∷◌, ◌++◌, refl, sym, subst, Option, Some, None}
use Rattle.std.specs.Prelude.{Ok, Err}
use Rattle.sftp_model.specs.declared.answers.Expected.TheVariants as expected
use Rattle.sftp_core.specs.Core.{Core, record_at, users_of}
use Rattle.plan_state.specs.Calls.{AsksAndAwaits, CallValue, IsHeldAt, IsLeft, IsNoneOfCall, StartsByPlan}
use Rattle.plan_state.specs.Keeping.{KeepsHeld, SparesOthers}
use Rattle.plan_state.specs.declared.stage.Stage.{Stage as CallStage}
use Rattle.plan_state.specs.declared.stage.Stage.TheVariants as call_stage
use Rattle.plan_state.specs.declared.told.Told.TheVariants as told
use Rattle.plan_state.proofs.OthersKept.{grant_at}
use Rattle.plan_state.proofs.Sparing.{spares_kept, submitted_spares}
use Rattle.plan_model.specs.Moves.{Plan}
use Rattle.sftp_model.specs.declared.error.Error.{Error}
use Rattle.sftp_model.specs.declared.error.Error.TheVariants as error
use Rattle.sftp_model.specs.declared.outcome.Outcome.TheVariants as outcome
use Rattle.sftp_model.specs.declared.slot.Move.TheVariants.{Done, Wait}
use Rattle.sftp_file.specs.Files.{facts_of}
use Rattle.sftp_streams.proofs.PartLaws.{fault_queued}
use Rattle.sftp_fs.specs.Directories.{OpensFrom, open_dir_next, opening_dir}
use Rattle.sftp_fs.specs.Listings.{IsAwaiting, IsListing, IsNoneAsked, ListingValue}
use Rattle.sftp_fs.specs.declared.directory.OpeningDir.{OpeningDir}
use Rattle.sftp_model.specs.declared.slot.Site.{Site}
use Rattle.transfer_remote.specs.ListingSteps.{IsHeld, IsNoneOf, IsOf, IsOfAsked, IsOfCall, LeavesStage}
use Rattle.transfer_remote.specs.ManyListings.{AreTogether, AreWithin}
use Rattle.transfer_remote.specs.declared.listing_stage.Listing.{Listing}
use Rattle.transfer_remote.specs.declared.listing_stage.Stage.{Stage}
use Rattle.transfer_remote.specs.declared.listing_stage.Stage.TheVariants as stage

-- ---- numbers of two listings

call_ne : (s : CallStage) (a b : ℕ) → IsNoneOfCall s b → IsOfCall s a → b ≢ a
call_ne (call_stage.Asked ticket) a b none is = λ same. none (same ∙ is)
call_ne (call_stage.Came (told.Granted g)) a b none is = λ same. none (same ∙ is)
call_ne (call_stage.Came (told.Reply r)) a b none never = absurd never
call_ne call_stage.Ended a b none never = absurd never
call_ne call_stage.Ready a b none never = absurd never
call_ne (call_stage.Unsent asking) a b none never = absurd never

asked_ne : (asked : Option ℕ) (a b : ℕ) → IsNoneAsked asked b → IsOfAsked asked a → b ≢ a
asked_ne None a b none never = absurd never
asked_ne (Some ticket) a b none is = λ same. none (same ∙ is)

of_ne : (s : Stage) (a b : ℕ) → IsNoneOf s b → IsOf s a → b ≢ a
of_ne (stage.Opening call) a b none is = call_ne call.stage a b none is
of_ne (stage.Reading dir) a b none (inl is) = λ same. none.0 (same ∙ is)
of_ne (stage.Reading dir) a b none (inr is) = asked_ne dir.asked a b none.1 is
of_ne stage.Complete a b none never = absurd never
of_ne (stage.Failed why) a b none never = absurd never

none_of_call : (s : CallStage) (b : ℕ) → ((a : ℕ) → IsOfCall s a → b ≢ a) → IsNoneOfCall s b
none_of_call (call_stage.Asked ticket) b ne = ne ticket refl
none_of_call (call_stage.Came (told.Granted g)) b ne = ne g.id refl
none_of_call (call_stage.Came (told.Reply r)) b ne = tt
none_of_call call_stage.Ended b ne = tt
none_of_call call_stage.Ready b ne = tt
none_of_call (call_stage.Unsent asking) b ne = tt

none_asked : (asked : Option ℕ) (b : ℕ) → ((a : ℕ) → IsOfAsked asked a → b ≢ a) → IsNoneAsked asked b
none_asked None b ne = tt
none_asked (Some ticket) b ne = ne ticket refl

none_by : (s : Stage) (b : ℕ) → ((a : ℕ) → IsOf s a → b ≢ a) → IsNoneOf s b
none_by (stage.Opening call) b ne = none_of_call call.stage b ne
none_by (stage.Reading dir) b ne = (ne dir.grant.id (inl refl), none_asked dir.asked b (λ a is. ne a (inr is)))
none_by stage.Complete b ne = tt
none_by (stage.Failed why) b ne = tt

apart_sym : (s t : Stage) → ((id : ℕ) → IsOf t id → IsNoneOf s id) → (id : ℕ) → IsOf s id → IsNoneOf t id
apart_sym s t apart id is = none_by t id (λ a of same. of_ne s id a (apart a of) is (sym same))

-- ---- over what another does

opening_over : (old new : Core) (P Q : ℕ → Type 0) (call : CallValue OpeningDir) → SparesOthers old new P Q
    → ((id : ℕ) → IsOf (stage.Opening call) id → P id) → IsHeld old (stage.Opening call)
    → IsHeld new (stage.Opening call) × ((id : ℕ) → IsOf (stage.Opening call) id → Q id)
opening_over old new P Q call spares own (ticket, is, held) =
    let mine : IsOfCall call.stage ticket = subst (λ (x : CallStage). IsOfCall x ticket) (sym is) refl in
    let kept = spares.tickets ticket expected.Handle (own ticket mine) held in (
      (ticket, is, kept.0),
      λ id of. (let same : id ≡ ticket = subst (λ (x : CallStage). IsOfCall x id) is of in
          subst Q (sym same) kept.1),
    )

asked_over : (old new : Core) (P Q : ℕ → Type 0) (asked : Option ℕ) → SparesOthers old new P Q
    → ((id : ℕ) → IsOfAsked asked id → P id) → IsAwaiting old asked
    → IsAwaiting new asked × ((id : ℕ) → IsOfAsked asked id → Q id)
asked_over old new P Q None spares own held = (tt, λ id never. absurd never)
asked_over old new P Q (Some ticket) spares own held =
    let kept = spares.tickets ticket expected.Names (own ticket refl) held in
    (kept.0, λ id same. subst Q (sym same) kept.1)

reading_over : (old new : Core) (P Q : ℕ → Type 0) (dir : ListingValue) → SparesOthers old new P Q
    → ((id : ℕ) → IsOf (stage.Reading dir) id → P id) → IsListing old dir
    → IsListing new dir × ((id : ℕ) → IsOf (stage.Reading dir) id → Q id)
reading_over old new P Q dir spares own held =
    let users = users_of (record_at old dir.grant.id) in
    let kept = spares.grants dir.grant.id dir.grant.handle users (own dir.grant.id (inl refl)) held.granted.kept in
    let asked = asked_over old new P Q dir.asked spares (λ id of. own id (inr of)) held.awaits in (
      record { granted = grant_at new dir.grant users kept.0 held.granted.used; awaits = asked.0 },
      by_owner kept.1 asked.1,
    )
  where
    by_owner : Q dir.grant.id → ((id : ℕ) → IsOfAsked dir.asked id → Q id) → (id : ℕ) → IsOf (stage.Reading dir) id
        → Q id
    by_owner granted awaited id (inl same) = subst Q (sym same) granted
    by_owner granted awaited id (inr of) = awaited id of

held_over : (old new : Core) (P Q : ℕ → Type 0) (s : Stage) → SparesOthers old new P Q
    → ((id : ℕ) → IsOf s id → P id) → IsHeld old s → IsHeld new s × ((id : ℕ) → IsOf s id → Q id)
held_over old new P Q (stage.Opening call) spares own held = opening_over old new P Q call spares own held
held_over old new P Q (stage.Reading dir) spares own held = reading_over old new P Q dir spares own held
held_over old new P Q stage.Complete spares own held = (tt, λ id never. absurd never)
held_over old new P Q (stage.Failed why) spares own held = (tt, λ id never. absurd never)

pub together_over : (old new : Core) (P Q : ℕ → Type 0) (xs : List Listing) → SparesOthers old new P Q
    → AreWithin P xs → AreTogether old xs → AreTogether new xs × AreWithin Q xs
together_over old new P Q [] spares own all = (tt, tt)
together_over old new P Q (x ∷ later) spares (mine, theirs) (held, apart, all) =
    let here = held_over old new P Q x.stage spares mine held in
    let below = together_over old new P Q later spares theirs all in
    ((here.0, apart, below.0), (here.1, below.1))

within_any : (xs : List Listing) → AreWithin (λ id. Unit {0}) xs
within_any [] = tt
within_any (x ∷ later) = (λ id of. tt, within_any later)

-- over a turn of the session
pub together_kept : (old new : Core) (xs : List Listing) → KeepsHeld old new → AreTogether old xs → AreTogether new xs
together_kept old new xs keeps all =
    (together_over old new (λ id. Unit {0}) (λ id. Unit {0}) xs (spares_kept old new (λ id. Unit {0}) keeps)
    (within_any xs) all).0

-- ---- one more, last

within_last : (P : ℕ → Type 0) (xs : List Listing) (x : Listing) → AreWithin P xs
    → ((id : ℕ) → IsOf x.stage id → P id) → AreWithin P (xs ++ x ∷ [])
within_last P [] x own mine = (mine, tt)
within_last P (first ∷ later) x (here, own) mine = (here, within_last P later x own mine)

together_last : (core : Core) (xs : List Listing) (x : Listing) → AreTogether core xs
    → AreWithin (IsNoneOf x.stage) xs → IsHeld core x.stage → AreTogether core (xs ++ x ∷ [])
together_last core [] x all apart held = (held, tt, tt)
together_last core (first ∷ later) x (first_held, own, all) (disjoint, apart) held = (
  first_held,
  within_last (IsNoneOf first.stage) later x own (apart_sym x.stage first.stage disjoint),
  together_last core later x all apart held,
)

-- the first one continued, and is the last one
pub together_turned : (old new : Core) (x y : Listing) (later : List Listing) → AreTogether old (x ∷ later)
    → LeavesStage old x.stage new y.stage → AreTogether new (later ++ y ∷ [])
together_turned old new x y later (held, apart, all) leaves =
    let both = together_over old new (IsNoneOf x.stage) (IsNoneOf y.stage) later leaves.spares apart all in
    together_last new later y both.0 both.1 leaves.held

-- the first one is gone
pub together_gone : (old new : Core) (x : Listing) (s : Stage) (later : List Listing) → AreTogether old (x ∷ later)
    → LeavesStage old x.stage new s → AreTogether new later
together_gone old new x s later (held, apart, all) leaves =
    (together_over old new (IsNoneOf x.stage) (IsNoneOf s) later leaves.spares apart all).0

-- ---- a listing that was begun

abbrev nowhere : Site
nowhere = record { slots = []; directory = [] }

abbrev waits : List ℕ → Plan
waits handle later answers = Wait 1

begun_awaits : (path : List ℕ) (old new : Core) (call : CallValue OpeningDir) → OpensFrom path [] old new (Ok call)
    → AsksAndAwaits opening_dir (nowhere, λ handle later. Wait 1) (open_dir_next path waits nowhere (facts_of old))
    (λ place. None) old new call
begun_awaits path old new call opens = by_start (opens.starts nowhere waits (λ place. None) refl)
  where
    by_start : AsksAndAwaits opening_dir (nowhere, λ handle later. Wait 1)
        (open_dir_next path waits nowhere (facts_of old)) (λ place. None) old new call
        ⊎ (IsLeft opening_dir (nowhere, λ handle later. Wait 1) (open_dir_next path waits nowhere (facts_of old))
        (λ place. None) call
        × (call.stage ≡ call_stage.Ready) × (new ≡ old))
        → AsksAndAwaits opening_dir (nowhere, λ handle later. Wait 1)
        (open_dir_next path waits nowhere (facts_of old)) (λ place. None) old new call
    by_start (inl asks) = asks
    by_start (inr ready) =
        absurd (subst (λ (x : CallStage). IsHeldAt opening_dir new call.runner x) ready.1 opens.under_way.held)

pub begun_fault : (path : List ℕ) (old new : Core) (call : CallValue OpeningDir) → OpensFrom path [] old new (Ok call)
    → new.fault ≡ old.fault
begun_fault path old new call opens =
    let asks = begun_awaits path old new call opens in fault_queued old new asks.asking asks.ticket asks.submitted

-- a listing that was refused leaves the core
pub unbegun_same : (path : List ℕ) (old new : Core) (e : Error) → OpensFrom path [] old new (Err e) → new ≡ old
unbegun_same path old new e opens = by_error e (opens.starts nowhere waits (λ place. None) refl)
  where
    by_error : (x : Error) → StartsByPlan opening_dir (nowhere, λ handle later. Wait 1)
        (λ y. Done (outcome.Refused y) nowhere) (open_dir_next path waits nowhere (facts_of old)) (λ place. None) old
        new (Err x) → new ≡ old
    by_error error.OutOfMemory h = h
    by_error (error.BackgroundTaskFailure fault) h = h.1
    by_error other h = h.1

pub together_begun : (path : List ℕ) (old new : Core) (call : CallValue OpeningDir) (xs now : List Listing)
    (x : Listing) → OpensFrom path [] old new (Ok call) → x.stage ≡ stage.Opening call → now ≡ xs ++ x ∷ []
    → AreTogether old xs → AreTogether new now
together_begun path old new call xs now x opens is last all =
    let asks = begun_awaits path old new call opens in
    let held : IsHeld new (stage.Opening call) = (
      asks.ticket,
      asks.awaits,
      subst (λ (s : CallStage). IsHeldAt opening_dir new call.runner s) asks.awaits opens.under_way.held,
    ) in
    let both = together_over old new (λ id. Unit {0}) (λ id. Unit {0} × IsNoneOfCall call.stage id) xs
    (submitted_spares old new asks.asking asks.ticket (λ id. Unit {0}) call.stage asks.submitted asks.awaits)
    (within_any xs) all in
    subst (λ (l : List Listing). AreTogether new l) (sym last)
    (together_last new xs x both.0
    (subst (λ (s : Stage). AreWithin (IsNoneOf s) xs) (sym is) (within_second xs both.1))
    (subst (λ (s : Stage). IsHeld new s) (sym is) held))
  where
    within_second : (ys : List Listing) → AreWithin (λ id. Unit {0} × IsNoneOfCall call.stage id) ys
        → AreWithin (IsNoneOf (stage.Opening call)) ys
    within_second [] own = tt
    within_second (y ∷ later) (mine, own) = (λ id of. (mine id of).1, within_second later own)
