-- What submitted requests and frames that are taken leave to the states and files that use a core.
use Rattle.std.proofs.Common.{
  ◌≡◌,
  ◌≢◌,
  ℕ,
  true,
  false,
  refl,
  sym,
  ap,
  ◌∙◌,
  Option,
  Some,
  None,
  Result,
  Ok,
  IsTrue,
  IsSome,
  ◌⊎◌,
  inl,
  inr,
  subst,
  List,
}
use Rattle.std.proofs.lemmas.Bool.{cases_eq}
use Rattle.std.specs.Option.{option_map}
use Rattle.sftp_model.specs.Answers.{expected_of}
use Rattle.sftp_model.specs.declared.answers.Expected.{Expected}
use Rattle.sftp_model.specs.declared.error.Fault.{Fault}
use Rattle.sftp_model.specs.declared.frame_error.FrameError.{FrameError}
use Rattle.sftp_model.specs.declared.reply.Reply.{Reply}
use Rattle.sftp_core.specs.declared.errors.TakeError.{TakeError}
use Rattle.sftp_core.specs.declared.handshake.Handshake.{Handshake}
use Rattle.sftp_core.specs.declared.handshake.Handshake.TheVariants.{Greeting, Asking as AskingLimits, Open}
use Rattle.sftp_core.specs.declared.id_record.IdRecord.{IdRecord}
use Rattle.sftp_core.specs.declared.id_record.IdRecord.TheVariants.{Waiting, Answered, Granted}
use Rattle.sftp_core.specs.declared.tokens.Taken.{Taken}
use Rattle.sftp_core.specs.Core.{
  Core,
  core_after_abandon,
  after_poll,
  record_at,
  failed_with,
  handed_out,
  is_ticket,
  core_after_release,
  reply_in,
  users_of,
  write_of,
}
use Rattle.sftp_core.specs.Grant.{GrantValue}
use Rattle.sftp_core.specs.Info.{info_of}
use Rattle.sftp_core.specs.Table.{expected_at, sent_record}
use Rattle.sftp_core.specs.Take.{
  Read,
  RefusesReply,
  IsTakeError,
  TakenFrom,
  fault_of,
  take_leaves,
  take_refusal,
  taken_in,
  wrong_at,
  wrong_in,
}
use Rattle.sftp_core.proofs.Elsewhere.{
  abandon_phase,
  hand_out_each,
  poll_phase,
  put_elsewhere,
  put_here,
  release_phase,
  take_elsewhere,
  take_phase,
}
use Rattle.plan_state.specs.declared.submission.Asking.{Asking}
use Rattle.plan_state.specs.declared.submission.Asking.TheVariants.{Whole, Parts}
use Rattle.plan_state.specs.declared.stage.Stage.{Stage}
use Rattle.plan_state.specs.declared.stage.Stage.TheVariants.{Ended, Ready, Unsent, Asked, Came}
use Rattle.plan_state.specs.declared.told.Told.TheVariants as told
use Rattle.plan_state.specs.Asked.{HoldsTicket, SubmitsAsking, queued_by, request_of}
use Rattle.plan_state.specs.Calls.{core_after_cancel}
use Rattle.plan_state.specs.Keeping.{KeepsHeld, KeepsGrants, StaysOpen}

-- ---- an open session

opened_by : (old new : Core) → new.phase ≡ old.phase → StaysOpen old new
opened_by old new same h = subst (λ (p : Handshake). IsSome (info_of p)) (sym same) h

queued_opened : (core : Core) (ticket : ℕ) (asking : Asking) → StaysOpen core (queued_by core ticket asking)
queued_opened core ticket (Whole asked) h = h
queued_opened core ticket (Parts handle offset parts) h = h

pub polled_opened : (core : Core) (ticket : ℕ) → StaysOpen core (after_poll core ticket)
polled_opened core ticket = opened_by core (after_poll core ticket)
    (poll_phase core ticket core.fault (record_at core ticket))

pub abandoned_opened : (core : Core) (ticket : ℕ) → StaysOpen core (core_after_abandon core ticket)
abandoned_opened core ticket = opened_by core (core_after_abandon core ticket)
    (abandon_phase core ticket (record_at core ticket))

released_opened : (core : Core) (grant : GrantValue) → StaysOpen core (core_after_release core grant)
released_opened core grant = opened_by core (core_after_release core grant)
    (release_phase core grant (users_of (record_at core grant.id)))

pub cancelled_opened : (core : Core) (stage : Stage) → StaysOpen core (core_after_cancel core stage)
cancelled_opened core (Asked ticket) = abandoned_opened core ticket
cancelled_opened core (Came (told.Granted g)) = λ h. abandoned_opened (core_after_release core g) g.id
    (released_opened core g h)
cancelled_opened core (Came (told.Reply r)) = λ h. h
cancelled_opened core Ended = λ h. h
cancelled_opened core Ready = λ h. h
cancelled_opened core (Unsent asking) = λ h. h

-- what is kept under an id tells whether a ticket is held
pub holds_at : (core : Core) (ticket : ℕ) (kind : Expected) (p : Option IdRecord) → record_at core ticket ≡ p
    → IsTrue (is_ticket p) → expected_at p ≡ Some kind → HoldsTicket core ticket kind
holds_at core ticket kind p here counted is = record { counted = rw here counted; expects = rw here is }

-- nothing but what is kept under its id counts
pub holds_still : (old new : Core) (ticket : ℕ) (kind : Expected) → record_at new ticket ≡ record_at old ticket
    → HoldsTicket old ticket kind
    → HoldsTicket new ticket kind
holds_still old new ticket kind same h = holds_at new ticket kind (record_at old ticket) same h.counted h.expects

-- ---- a request that is submitted

-- it is kept under its id
pub queued_here : (core : Core) (ticket : ℕ) (asking : Asking)
    → record_at (queued_by core ticket asking) ticket ≡ Some (Waiting (expected_of (request_of asking)) false true)
queued_here core ticket (Whole asked) = put_here core.table ticket (Waiting (expected_of asked) false true)
queued_here core ticket (Parts handle offset parts) =
    put_here core.table ticket (Waiting (expected_of (write_of handle offset parts)) false true)

-- so that its ticket is held
pub submitted_holds : (old new : Core) (asking : Asking) (ticket : ℕ) (kind : Expected)
    → SubmitsAsking old asking ticket new
    → kind ≡ expected_of (request_of asking) → HoldsTicket new ticket kind
submitted_holds old new asking ticket kind h is =
    holds_at new ticket kind (Some (Waiting (expected_of (request_of asking)) false true))
    (ap (λ (c : Core). record_at c ticket) h.queued ∙ queued_here old ticket asking) refl
    (ap (λ (k : Expected). Some k) (sym is))

-- and that no reply to it was taken
pub submitted_missing : (old new : Core) (asking : Asking) (ticket : ℕ) → SubmitsAsking old asking ticket new
    → reply_in (record_at new ticket) ≡ None
submitted_missing old new asking ticket h =
    ap (λ (c : Core). reply_in (record_at c ticket)) h.queued ∙ ap (λ (p : Option IdRecord). reply_in p)
    (queued_here old ticket asking)

queued_elsewhere : (core : Core) (ticket : ℕ) (asking : Asking) (q : ℕ) → q ≢ ticket
    → record_at (queued_by core ticket asking) q ≡ record_at core q
queued_elsewhere core ticket (Whole asked) q h = put_elsewhere core.table ticket _ q h
queued_elsewhere core ticket (Parts handle offset parts) q h = put_elsewhere core.table ticket _ q h

-- under a free id it changes no place that is there
other_place : (core : Core) (ticket : ℕ) (asking : Asking) (other : ℕ) (here : IdRecord) → record_at core ticket ≡ None
    → record_at core other ≡ Some here → record_at (queued_by core ticket asking) other ≡ Some here
other_place core ticket asking other here free there =
    queued_elsewhere core ticket asking other (λ same. let clash : Some here ≡ None = sym there
    ∙ ap (record_at core) same ∙ free in cc)
    ∙ there

held_place : (core new : Core) (ticket : ℕ) (kind : Expected) (p : Option IdRecord) → record_at core ticket ≡ p
    → ((here : IdRecord) → p ≡ Some here → record_at new ticket ≡ p) → IsTrue (is_ticket p) → expected_at p ≡ Some kind
    → HoldsTicket new ticket kind
held_place core new ticket kind (Some here) e still counted is =
    holds_at new ticket kind (Some here) (still here refl) counted is
held_place core new ticket kind None e still counted is = cc

pub keeps_submitted : (core : Core) (ticket : ℕ) (asking : Asking) → record_at core ticket ≡ None
    → KeepsHeld core (queued_by core ticket asking)
keeps_submitted core ticket asking free =
    record {
      holds = λ other kind h. held_place core (queued_by core ticket asking) other kind (record_at core other) refl
          (λ here there. other_place core ticket asking other here free there ∙ sym there) h.counted h.expects;
      grants = record {
        grants = λ id handle users here. other_place core ticket asking id (Granted handle users) free
            here;
        opened = queued_opened core ticket asking;
      };
    }

-- ---- nothing, a fault, a hand-out

pub keeps_same : (core : Core) → KeepsHeld core core
keeps_same core = record {
  holds = λ ticket kind h. h;
  grants =
      record { grants = λ id handle users here. here; opened = λ h. h };
}

-- two changes, one after the other
pub keeps_both : (a b c : Core) → KeepsHeld a b → KeepsHeld b c → KeepsHeld a c
keeps_both a b c h k =
    record {
      holds = λ ticket kind x. k.holds ticket kind (h.holds ticket kind x);
      grants = record {
        grants = λ id handle users here. k.grants.grants id handle users
            (h.grants.grants id handle users here);
        opened = λ o. k.grants.opened (h.grants.opened o);
      };
    }

-- two changes that keep the grants, one after the other
pub grants_both : (a b c : Core) → KeepsGrants a b → KeepsGrants b c → KeepsGrants a c
grants_both a b c x y =
    record {
      grants = λ id handle users here. y.grants id handle users (x.grants id handle users here);
      opened =
          λ o. y.opened (x.opened o);
    }

pub keeps_failed : (core : Core) (fault : Fault) → KeepsHeld core (failed_with core fault)
keeps_failed core fault =
    record {
      holds = λ ticket kind h. holds_at (failed_with core fault) ticket kind (record_at core ticket) refl h.counted
          h.expects;
      grants = record { grants = λ id handle users here. here; opened = λ h. h };
    }

sent_at : (core : Core) (ticket : ℕ) (kind : Expected) (p : Option IdRecord) → record_at core ticket
    ≡ option_map sent_record p
    → IsTrue (is_ticket p) → expected_at p ≡ Some kind → HoldsTicket core ticket kind
sent_at core ticket kind (Some (Waiting expected sent wanted)) here counted is =
    holds_at core ticket kind (Some (Waiting expected true wanted)) here counted is
sent_at core ticket kind (Some (Answered expected r)) here counted is =
    holds_at core ticket kind (Some (Answered expected r)) here counted is
sent_at core ticket kind (Some (Granted handle users)) here counted is = cc
sent_at core ticket kind None here counted is = cc

pub keeps_handed_out : (core : Core) → KeepsHeld core (handed_out core)
keeps_handed_out core =
    record {
      holds = λ ticket kind h. sent_at (handed_out core) ticket kind (record_at core ticket) (hand_out_each core ticket)
          h.counted h.expects;
      grants = record {
        grants = λ id handle users here. hand_out_each core id ∙ ap (λ (p : Option IdRecord). option_map sent_record p)
            here;
        opened = λ h. h;
      };
    }

-- ---- a frame that is taken

taken_at : (core : Core) (ticket : ℕ) (kind : Expected) (r : Reply) (p : Option IdRecord) → IsTrue (is_ticket p)
    → expected_at p ≡ Some kind → wrong_at ticket r p ≡ None
    → HoldsTicket (take_leaves core ticket r p) ticket kind
taken_at core ticket kind r (Some (Waiting expected true true)) counted is right =
    holds_at (take_leaves core ticket r (Some (Waiting expected true true))) ticket kind (Some (Answered expected r))
    (put_here core.table ticket (Answered expected r)) refl is
taken_at core ticket kind r (Some (Waiting expected false true)) counted is right = cc
taken_at core ticket kind r (Some (Waiting expected sent false)) counted is right = cc
taken_at core ticket kind r (Some (Answered expected other)) counted is right = cc
taken_at core ticket kind r (Some (Granted handle users)) counted is right = cc
taken_at core ticket kind r None counted is right = cc

took_holds : (core : Core) (id : ℕ) (r : Reply) (ticket : ℕ) (kind : Expected) → wrong_at id r (record_at core id)
    ≡ None
    → (ticket ≡ id) ⊎ (ticket ≡ id → ⊥) → HoldsTicket core ticket kind
    → HoldsTicket (take_leaves core id r (record_at core id)) ticket kind
took_holds core id r ticket kind right (inl same) h =
    let Kept : ℕ → Type 0 = λ (q : ℕ). HoldsTicket (take_leaves core id r (record_at core id)) q kind in
    let There : ℕ → Type 0 = λ (q : ℕ). HoldsTicket core q kind in
    let here : HoldsTicket core id kind = subst There same h in
    subst Kept (sym same) (taken_at core id kind r (record_at core id) here.counted here.expects right)
took_holds core id r ticket kind right (inr apart) h = holds_still core (take_leaves core id r (record_at core id))
    ticket kind
    (take_elsewhere core id r (record_at core id) ticket apart) h

-- what stands under the id of a frame that is taken is a request
waiting_there : (id : ℕ) (r : Reply) (p : Option IdRecord) (handle : List ℕ) (users : ℕ) → p
    ≡ Some (Granted handle users) → wrong_at id r p ≡ None → ⊥
waiting_there id r (Some (Granted h u)) handle users e right = cc
waiting_there id r (Some (Waiting expected sent wanted)) handle users e right = cc
waiting_there id r (Some (Answered expected other)) handle users e right = cc
waiting_there id r None handle users e right = cc

took_grant : (core : Core) (id : ℕ) (r : Reply) (other : ℕ) (handle : List ℕ) (users : ℕ)
    → wrong_at id r (record_at core id) ≡ None
    → record_at core other ≡ Some (Granted handle users) → record_at (take_leaves core id r (record_at core id)) other
    ≡ Some (Granted handle users)
took_grant core id r other handle users right here =
    take_elsewhere core id r (record_at core id) other
    (λ same. waiting_there id r (record_at core id) handle users (ap (λ (q : ℕ). record_at core q) (sym same) ∙ here)
    right) ∙ here

took_keeps : (core : Core) (phase : Handshake) (id : Option ℕ) (r : Reply) → IsSome (info_of phase)
    → wrong_in core phase id r ≡ None → KeepsHeld core (taken_in core phase id r)
took_keeps core Greeting id r open_now right = cc
took_keeps core (AskingLimits extensions) id r open_now right = cc
took_keeps core (Open info) None r open_now right = cc
took_keeps core (Open info) (Some id) r open_now right =
    record {
      holds = λ ticket kind h. took_holds core id r ticket kind right (cases_eq ticket id) h;
      grants = record {
        grants = λ other handle users here. took_grant core id r other handle users right here;
        opened =
            opened_by core (take_leaves core id r (record_at core id)) (take_phase core id r (record_at core id));
      };
    }

refusal_in : (core : Core) (read : Result Read FrameError) (reading : Read) → read ≡ Ok reading → take_refusal core read
    ≡ None → wrong_in core core.phase reading.0 reading.1 ≡ None
refusal_in core read reading is right = let P : Result Read FrameError → Type 0 = λ x. take_refusal core x ≡ None in
    subst P is right

pub keeps_taken : (old new : Core) (read : Result Read FrameError) (told : Taken) → IsSome (info_of old.phase)
    → take_refusal old read ≡ None → TakenFrom read told old new → KeepsHeld old new
keeps_taken old new read told open_now right h =
    let P : Core → Type 0 = λ (core : Core). KeepsHeld old core in
    subst P (sym h.leaves) (took_keeps old old.phase h.reading.0 h.reading.1 open_now
    (refusal_in old read h.reading h.reads right))

refused_keeps : (e : TakeError) (kept : Option Fault) (refusal : Option TakeError) (old new : Core)
    → RefusesReply e kept refusal old new → KeepsHeld old new
refused_keeps e None refusal old new h = let P : Core → Type 0 = λ (core : Core). KeepsHeld old core in
    subst P (sym h) (keeps_same old)
refused_keeps e (Some fault) refusal old new h = let P : Core → Type 0 = λ (core : Core). KeepsHeld old core in
    subst P (sym h.1) (keeps_failed old fault)

-- a frame that isn't taken
pub keeps_refused : (old new : Core) (e : TakeError) (refusal : Option TakeError) → IsTakeError e refusal old new
    → KeepsHeld old new
keeps_refused old new e refusal h = refused_keeps e (fault_of e) refusal old new h
