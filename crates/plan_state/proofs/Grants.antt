-- The grants that come for a call, and those of others.
use Rattle.std.proofs.Common.{◌≡◌, ◌∙◌, refl, sym, ap, subst, ℕ, true, false, List, Option, Some, None, Result, Ok, Err, IsSome}
use Rattle.sftp_model.specs.Answers.{is_handle}
use Rattle.sftp_model.specs.declared.error.Error.{Error}
use Rattle.sftp_model.specs.declared.reply.Reply.{Reply}
use Rattle.sftp_model.specs.declared.reply.Reply.TheVariants as reply
use Rattle.sftp_core.specs.Core.{Core, record_at, reply_in}
use Rattle.sftp_core.specs.Grant.{GrantValue}
use Rattle.sftp_core.specs.declared.id_record.IdRecord.{IdRecord}
use Rattle.sftp_core.specs.declared.id_record.IdRecord.TheVariants.{Waiting, Answered, Granted}
use Rattle.plan_state.specs.Calls.{
  CallValue,
  CanContinue,
  CountsGrant,
  HoldsReady,
  IsGrantOf,
  IsOver,
  StepsByPlan,
  TellsAt,
  grant_after,
  grant_brought,
  grant_by,
  is_ended,
}
use Rattle.plan_state.specs.Runners.{HandsGrantOn, Meaning}
use Rattle.plan_state.specs.Told.{IsCounted, ReplyCame, grant_in}
use Rattle.plan_state.specs.declared.poll.Poll.{Poll}
use Rattle.plan_state.specs.declared.poll.Poll.TheVariants as poll
use Rattle.plan_state.specs.declared.runner.Then.TheVariants as then
use Rattle.plan_state.specs.declared.stage.Stage.{Stage}
use Rattle.plan_state.specs.declared.stage.Stage.TheVariants.{Ended, Ready, Unsent, Asked, Came}
use Rattle.plan_state.specs.declared.told.Told.{Told}
use Rattle.plan_state.specs.declared.told.Told.TheVariants as told

-- ---- what is brought

-- nothing by a ticket whose reply is missing, nor for a call that has ended
pub asked_brings : (core : Core) (stage : Stage) (ticket : ℕ) → stage ≡ Asked ticket → reply_in (record_at core ticket)
    ≡ None → grant_brought core stage ≡ None
asked_brings core stage ticket is none =
    ap (λ (x : Stage). grant_brought core x) is ∙ ap (λ (r : Option Reply). grant_by ticket r) none

pub ended_brings : (core : Core) (stage : Stage) → is_ended stage ≡ true → grant_brought core stage ≡ None
ended_brings core Ended over = refl
ended_brings core Ready over = absurd cc
ended_brings core (Unsent asking) over = absurd cc
ended_brings core (Asked ticket) over = absurd cc
ended_brings core (Came t) over = absurd cc

reply_brings : (ticket : ℕ) (r : Reply) → is_handle r ≡ false → grant_by ticket (Some r) ≡ None
reply_brings ticket (reply.Handle handle) none = absurd cc
reply_brings ticket (reply.Version version extensions) none = refl
reply_brings ticket (reply.Status code message language) none = refl
reply_brings ticket (reply.Content content) none = refl
reply_brings ticket (reply.Names names) none = refl
reply_brings ticket (reply.Attrs attrs) none = refl
reply_brings ticket (reply.Extended content) none = refl

-- what was told is what the reply to the ticket brought
told_brings : (old mid : Core) (ticket : ℕ) (t : Told) → ReplyCame old mid ticket t → grant_in t
    ≡ grant_brought old (Asked ticket)
told_brings old mid ticket (told.Reply r) came =
    sym (ap (λ (x : Option Reply). grant_by ticket x) came.taken ∙ reply_brings ticket r came.formed)
told_brings old mid ticket (told.Granted g) came =
    (λ i. Some (record { id = came.granted.0 i; handle = g.handle }))
    ∙ sym (ap (λ (x : Option Reply). grant_by ticket x) came.taken)

pub polled_brings : {W M V : Type 0} (s : Meaning W M V) (old mid new : Core) (ticket : ℕ) (t : Told)
    (before after : Stage) (result : Poll (Result V Error))
    → before ≡ Asked ticket → ReplyCame old mid ticket t → grant_after s new after result ≡ grant_brought mid (Came t)
    → grant_after s new after result ≡ grant_brought old before
polled_brings s old mid new ticket t before after result is came brings =
    brings ∙ (told_brings old mid ticket t came ∙ ap (λ (x : Stage). grant_brought old x) (sym is))

-- nothing was, and nothing is given
pub nothing_brings : {W M V : Type 0} (s : Meaning W M V) (old new : Core) (before after : Stage) (e : Error)
    → grant_brought old before ≡ None
    → grant_brought new after ≡ None → grant_after s new after (poll.Ready (Err e)) ≡ grant_brought old before
nothing_brings s old new before after e none still = still ∙ sym none

-- ---- what is given

pub counts_none : (core : Core) (o : Option GrantValue) → o ≡ None → CountsGrant core o
counts_none core None e = tt
counts_none core (Some g) e = absurd cc

counts_told : (core : Core) (t : Told) → IsCounted core t → CountsGrant core (grant_in t)
counts_told core (told.Reply r) h = tt
counts_told core (told.Granted g) h = h

-- a value has the grant that was told
pub told_holds : {W M V : Type 0} (s : Meaning W M V) (core : Core) (t : Told) (value : Result V Error)
    → IsCounted core t
    → HandsGrantOn s t (then.Done value) → HoldsReady s core (poll.Ready value)
told_holds s core t (Ok value) counted gives = subst (λ (o : Option GrantValue). CountsGrant core o) (sym gives)
    (counts_told core t counted)
told_holds s core t (Err e) counted gives = tt

pub told_gives : {W M V : Type 0} (s : Meaning W M V) (core : Core) (t : Told) (stage : Stage) (value : Result V Error)
    → is_ended stage ≡ true
    → HandsGrantOn s t (then.Done value) → grant_after s core stage (poll.Ready value) ≡ grant_brought core (Came t)
told_gives s core t stage (Ok value) over gives = gives
told_gives s core t stage (Err e) over gives = ended_brings core stage over ∙ sym gives

-- ---- what is owned

pub ended_owns : (stage : Stage) (id : ℕ) → is_ended stage ≡ true → IsGrantOf stage id → ⊥
ended_owns Ended id over own = own
ended_owns Ready id over own = absurd cc
ended_owns (Unsent asking) id over own = absurd cc
ended_owns (Asked ticket) id over own = absurd cc
ended_owns (Came t) id over own = absurd cc

-- a grant has the number of its ticket
asked_number : (ticket : ℕ) (there : Option Reply) (g : GrantValue) → grant_by ticket there ≡ Some g → g.id ≡ ticket
asked_number ticket (Some (reply.Handle handle)) g brings =
    let same : (◌≡◌ {A = Option GrantValue} (Some (record { id = ticket; handle = handle })) (Some g)) = brings in
    let one : (◌≡◌ {A = GrantValue} (record { id = ticket; handle = handle }) g) = cc in
    sym (ap (λ (x : GrantValue). x.id) one)
asked_number ticket None g brings = absurd cc
asked_number ticket (Some (reply.Version version extensions)) g brings = absurd cc
asked_number ticket (Some (reply.Status code message language)) g brings = absurd cc
asked_number ticket (Some (reply.Content content)) g brings = absurd cc
asked_number ticket (Some (reply.Names names)) g brings = absurd cc
asked_number ticket (Some (reply.Attrs attrs)) g brings = absurd cc
asked_number ticket (Some (reply.Extended content)) g brings = absurd cc

pub brought_number : (core : Core) (ticket : ℕ) (g : GrantValue) → grant_brought core (Asked ticket) ≡ Some g → g.id
    ≡ ticket
brought_number core ticket g brings = asked_number ticket (reply_in (record_at core ticket)) g brings

no_place : (p : Option IdRecord) (handle : List ℕ) (users : ℕ) → p ≡ Some (Granted handle users) → reply_in p ≡ None
no_place None handle users e = refl
no_place (Some (Waiting expected sent wanted)) handle users e = refl
no_place (Some (Answered expected r)) handle users e = absurd cc
no_place (Some (Granted h u)) handle users e = refl

asked_apart : (core : Core) (ticket id : ℕ) (handle : List ℕ) (users : ℕ) (g : GrantValue)
    → grant_brought core (Asked ticket) ≡ Some g
    → record_at core id ≡ Some (Granted handle users) → g.id ≡ id → ⊥
asked_apart core ticket id handle users g brings here same =
    let number : ticket ≡ id = sym (brought_number core ticket g brings) ∙ same in
    let missing : reply_in (record_at core ticket) ≡ None = no_place (record_at core ticket) handle users
    (ap (λ (n : ℕ). record_at core n) number ∙ here) in
    let clash : Some g ≡ None = sym brings ∙ ap (λ (r : Option Reply). grant_by ticket r) missing in cc

-- a grant that came for a call is none that others have
pub brought_apart : (core : Core) (stage : Stage) (g : GrantValue) (id : ℕ) (handle : List ℕ) (users : ℕ)
    → grant_brought core stage ≡ Some g
    → (IsGrantOf stage id → ⊥) → record_at core id ≡ Some (Granted handle users) → g.id ≡ id → ⊥
brought_apart core (Asked ticket) g id handle users brings apart here same =
    asked_apart core ticket id handle users g brings here same
brought_apart core (Came (told.Granted h)) g id handle users brings apart here same =
    apart (let one : h ≡ g = cc in ap (λ (x : GrantValue). x.id) one ∙ same)
brought_apart core (Came (told.Reply r)) g id handle users brings apart here same = absurd cc
brought_apart core Ended g id handle users brings apart here same = absurd cc
brought_apart core Ready g id handle users brings apart here same = absurd cc
brought_apart core (Unsent asking) g id handle users brings apart here same = absurd cc

-- a grant that a call has was brought
owned_brings : (core : Core) (stage : Stage) (id : ℕ) → IsGrantOf stage id → (g : GrantValue)
    × (grant_brought core stage ≡ Some g) × (g.id ≡ id)
owned_brings core (Came (told.Granted g)) id own = (g, refl, own)
owned_brings core (Came (told.Reply r)) id own = absurd own
owned_brings core Ended id own = absurd own
owned_brings core Ready id own = absurd own
owned_brings core (Unsent asking) id own = absurd own
owned_brings core (Asked ticket) id own = absurd own

-- where a call answered with a value, it has no grant any more; else the one that came
still_owns : {W M V : Type 0} (s : Meaning W M V) (core : Core) (stage : Stage) (result : Poll (Result V Error))
    (id : ℕ) → IsOver stage result
    → IsGrantOf stage id → grant_after s core stage result ≡ grant_brought core stage
still_owns s core stage (poll.Ready (Ok value)) id over own = absurd (ended_owns stage id over own)
still_owns s core stage (poll.Ready (Err e)) id over own = refl
still_owns s core stage poll.Pending id over own = refl

-- so that after a poll a call has no grant of others
pub owns_none : {W M V : Type 0} (s : Meaning W M V) (old new : Core) (p q : CallValue M)
    (result : Poll (Result V Error)) (id : ℕ) (handle : List ℕ)
    (users : ℕ) → StepsByPlan s old new p q result → (IsGrantOf p.stage id → ⊥) → record_at old id
    ≡ Some (Granted handle users)
    → IsGrantOf q.stage id → ⊥
owns_none s old new p q result id handle users h apart here own =
    let mine = owned_brings new q.stage id own in
    let brings : grant_brought old p.stage ≡ Some mine.0 = sym h.brings
    ∙ (still_owns s new q.stage result id h.over own ∙ mine.1) in
    brought_apart old p.stage mine.0 id handle users brings apart here mine.2

-- ---- by the replies

asked_handle : (ticket : ℕ) (there : Option Reply) (g : GrantValue) → grant_by ticket there ≡ Some g → there
    ≡ Some (reply.Handle g.handle)
asked_handle ticket (Some (reply.Handle handle)) g brings =
    let same : (◌≡◌ {A = Option GrantValue} (Some (record { id = ticket; handle = handle })) (Some g)) = brings in
    let one : (◌≡◌ {A = GrantValue} (record { id = ticket; handle = handle }) g) = cc in
    ap (λ (x : GrantValue). Some (reply.Handle x.handle)) one
asked_handle ticket None g brings = absurd cc
asked_handle ticket (Some (reply.Version version extensions)) g brings = absurd cc
asked_handle ticket (Some (reply.Status code message language)) g brings = absurd cc
asked_handle ticket (Some (reply.Content content)) g brings = absurd cc
asked_handle ticket (Some (reply.Names names)) g brings = absurd cc
asked_handle ticket (Some (reply.Attrs attrs)) g brings = absurd cc
asked_handle ticket (Some (reply.Extended content)) g brings = absurd cc

-- the reply that is told of the awaited request is the HANDLE that brought the grant
pub brought_handle : {W M V : Type 0} (s : Meaning W M V) (core : Core) (m : M) (stage : Stage)
    (answers : ℕ → Option Reply) (g : GrantValue)
    → grant_brought core stage ≡ Some g → TellsAt s core m stage answers → answers (s.place m)
    ≡ Some (reply.Handle g.handle)
brought_handle s core m (Asked ticket) answers g brings tells = tells
    ∙ asked_handle ticket (reply_in (record_at core ticket)) g brings
brought_handle s core m (Came (told.Granted h)) answers g brings tells =
    let one : h ≡ g = cc in tells ∙ ap (λ (x : GrantValue). Some (reply.Handle x.handle)) one
brought_handle s core m (Came (told.Reply r)) answers g brings tells = absurd cc
brought_handle s core m Ended answers g brings tells = absurd cc
brought_handle s core m Ready answers g brings tells = absurd cc
brought_handle s core m (Unsent asking) answers g brings tells = absurd cc

-- a grant came by a reply
pub brought_continues : (core : Core) (stage : Stage) (g : GrantValue) → grant_brought core stage ≡ Some g
    → CanContinue core stage
brought_continues core (Asked ticket) g brings =
    subst IsSome (sym (asked_handle ticket (reply_in (record_at core ticket)) g brings)) refl
brought_continues core (Unsent asking) g brings = tt
brought_continues core (Came t) g brings = tt
brought_continues core Ended g brings = absurd cc
brought_continues core Ready g brings = absurd cc
