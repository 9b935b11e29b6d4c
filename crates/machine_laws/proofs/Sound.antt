-- Each request of a journal fits a frame.
use Rattle.std.proofs.Common.{
  ◌≡◌,
  ◌<◌,
  ◌^◌,
  ℕ,
  Bool,
  true,
  false,
  List,
  [],
  ◌∷◌,
  length,
  Option,
  Some,
  None,
  Result,
  Ok,
  Err,
  if◌then◌else◌,
  refl,
  sym,
  subst,
  arith,
}
use Rattle.std.specs.Prelude.{MatchOption, nat_lt}
use Rattle.std.proofs.lemmas.Bool.{ltb-false}
use Rattle.ssh_encoding.specs.Reading.{◌>>=◌, byte_at}
use Rattle.sftp_model.specs.declared.frame_error.FrameError.{FrameError}
use Rattle.sftp_model.specs.declared.frame_error.FrameError.TheVariants as errors
use Rattle.sftp_model.specs.declared.reply.Reply.{Reply}
use Rattle.sftp_model.specs.declared.reply.Reply.TheVariants as reply
use Rattle.sftp_model.specs.declared.request.Request.{Request}
use Rattle.sftp_model.specs.declared.request.Request.TheVariants as request
use Rattle.sftp_model.specs.Fits.{FitsHandle}
use Rattle.sftp_model.specs.Readings.{field, whole, with_short_handles}
use Rattle.sftp_model.specs.ReplyReadings.{reply_at, reply_fields_at, handles_of_reply}
use Rattle.plan_model.specs.Moves.{handle_of}
use Rattle.plan_model.specs.GoodMoves.{HandlesFit}
use Rattle.sftp_link.specs.declared.piece.Piece.{Piece}
use Rattle.session_model.specs.declared.event.Owner.{Owner}
use Rattle.session_model.specs.declared.event.Owner.TheVariants as owner
use Rattle.session_model.specs.declared.event.Event.TheVariants.{Submit, Send, Take}
use Rattle.session_model.specs.declared.entry.Entry.{Entry}
use Rattle.session_model.specs.declared.entry.Entry.TheVariants as entry
use Rattle.session_model.specs.Readings.{answer, bearer, is_at, last_cancel}
use Rattle.session_model.specs.Calls.{Setting}
use Rattle.session_model.specs.Grants.{next_due}
use Rattle.session_model.specs.Journals.{IsJournal, MayCome, MustClose, cancelled_end}
use Rattle.session_model.proofs.JournalLaws.{submit_free}
use Rattle.session_model.specs.Shown.{ShowsExchange, IsFrameOf}
use Rattle.plan_model.specs.Lanes.{are_ok}
use Rattle.machine_laws.proofs.Asking.{FitsCall, LensFit, close_call, asks_fit}

-- by its owner: the query for limits is asked only of a server that tells them
abbrev pub FitsBy : Bool → Owner → Request → Type 0
FitsBy tells owner.Setup r = (r ≡ request.LimitsQuery) × (tells ≡ true)
FitsBy tells owner.Close r = (handle : List ℕ) × (r ≡ request.Close handle) × FitsHandle handle
FitsBy tells (owner.Call lane call) r = FitsCall r

-- each request fits a frame, under an id of four bytes
abbrev pub IsSound : Bool → List Entry → Type 0
IsSound tells [] = Unit {0}
IsSound tells (entry.Event (Submit by id r) ∷ past) = (id < 2 ^ 32) × FitsBy tells by r × IsSound tells past
IsSound tells (_ ∷ past) = IsSound tells past

pub by_owner : (P : Request → Type 0) (tells : Bool) (by : Owner) (r : Request) → FitsBy tells by r → (FitsCall r → P r)
    → (tells ≡ true → P request.LimitsQuery) → P r
by_owner P tells owner.Setup r f p q = subst P (sym f.0) (q f.1)
by_owner P tells owner.Close r f p q = p (subst FitsCall (sym f.1) (close_call f.0 f.2))
by_owner P tells (owner.Call lane call) r f p q = p f

-- ---- handles that came

-- each HANDLE that was taken has at most 256 bytes
abbrev pub TakesFit : List Entry → Type 0
TakesFit [] = Unit {0}
TakesFit (entry.Event (Take id r) ∷ past) = FitsHandle (handle_of (Some r)) × TakesFit past
TakesFit (_ ∷ past) = TakesFit past

either_fits : (b : Bool) (r : Reply) (o : Option Reply) → FitsHandle (handle_of (Some r)) → FitsHandle (handle_of o)
    → FitsHandle (handle_of (if b then Some r else o))
either_fits true r o h k = h
either_fits false r o h k = k

pub grants_fit : (past : List Entry) → TakesFit past → HandlesFit (answer past)
grants_fit [] t place = omega arith
grants_fit (entry.Event (Take id r) ∷ past) t place = either_fits (is_at (bearer past id) place) r (answer past place)
    t.0 (grants_fit past t.1 place)
grants_fit (_ ∷ past) t place = grants_fit past t place

bind_ok : {A B : Type 0} (m : Result A FrameError) (f : A → Result B FrameError) (y : B) → (m >>= f) ≡ Ok y → (x : A)
    × (f x ≡ Ok y)
bind_ok (Ok x) f y e = (x, e)
bind_ok (Err error) f y e = absurd cc

handle_by : (b : Bool) (i : Option ℕ) (handle : List ℕ) (y : Option ℕ × Reply) → nat_lt 256 (length handle) ≡ b
    → (if b then Err (errors.HandleTooLong (length handle)) else Ok (i, reply.Handle handle)) ≡ Ok y
    → FitsHandle (handle_of (Some y.1))
handle_by true i handle y is e = absurd cc
handle_by false i handle y is e =
    let same : (i, reply.Handle handle) ≡ y = cc e in subst (λ (w : Option ℕ × Reply). FitsHandle
    (handle_of (Some w.1))) same (ltb-false _ _ is)

handle_read : (i : Option ℕ) (r : Reply) (y : Option ℕ × Reply)
    → with_short_handles (handles_of_reply r) (let read : Option ℕ × Reply = (i, r) in read) ≡ Ok y
    → FitsHandle (handle_of (Some y.1))
handle_read i (reply.Handle handle) y e = handle_by (nat_lt 256 (length handle)) i handle y refl e
handle_read i r y e = let same : (i, r) ≡ y = cc e in subst (λ (w : Option ℕ × Reply). FitsHandle
    (handle_of (Some w.1))) same (omega arith)

-- a HANDLE that is read has at most 256 bytes
reads_short : (body : List ℕ) (id : Option ℕ) (r : Reply) → reply_at body ≡ Ok (id, r) → FitsHandle (handle_of (Some r))
unfolding reply_at
reads_short body id r e =
    let third : Option ℕ × Reply → Result (Option ℕ × Reply) FrameError =
    λ read. with_short_handles (handles_of_reply read.1) read in
    let second : (Option ℕ × Reply) × List ℕ → Result (Option ℕ × Reply) FrameError = λ fields. whole fields >>= third
    in
    let a = bind_ok (field (byte_at body)) (λ k. reply_fields_at k.0 k.1 >>= second) (id, r) e in
    let b = bind_ok (reply_fields_at a.0.0 a.0.1) second (id, r) a.1 in
    let c = bind_ok (whole b.0) third (id, r) b.1 in
    handle_read c.0.0 c.0.1 (id, r) c.1

pub shows_takes : (hello : Reply) (past : List Entry) (first log : List Piece) → ShowsExchange hello past first log
    → TakesFit past
shows_takes hello [] first log sh = tt
shows_takes hello (entry.Event (Take id r) ∷ past) first log sh =
    let f : IsFrameOf (Some id) r sh.1.1.0 = sh.1.1.1.0 in (
      reads_short f.body (Some id) r f.reads,
      shows_takes hello past first sh.0 sh.1.0,
    )
shows_takes hello (entry.Event Send ∷ past) first log sh = shows_takes hello past first sh.0 sh.1.0
shows_takes hello (_ ∷ past) first log sh = shows_takes hello past first log sh

-- ---- each entry

may_fits : (s : Setting) (tells : Bool) (past : List Entry) (by : Owner) (id : ℕ) (r : Request)
    → (s.limits ≡ true → tells ≡ true) → are_ok s.lanes ≡ true → IsJournal s past → HandlesFit (answer past)
    → LensFit s.facts
    → MayCome s past (entry.Event (Submit by id r)) → FitsBy tells by r
may_fits s tells past (owner.Call lane call) id r t ok j h k may = asks_fit s past lane r ok j h k may.1
may_fits s tells past owner.Setup id r t ok j h k may = (may.2, t may.0)
may_fits s tells past owner.Close id r t ok j h k may = absurd may

close_fits : (tells : Bool) (past : List Entry) (grant id : ℕ) (by : Owner) (r : Request) → HandlesFit (answer past)
    → MustClose past grant (entry.Event (Submit by id r)) → FitsBy tells by r
close_fits tells past grant id by r h must =
    let is : by ≡ owner.Close = cc (must.1.1) in
    let asked_is : r ≡ request.Close (handle_of (answer past grant)) = cc (must.1.1) in
    subst (λ (o : Owner). FitsBy tells o r) (sym is) (handle_of (answer past grant), asked_is, h grant)

fits_next : (s : Setting) (tells : Bool) (past : List Entry) (by : Owner) (id : ℕ) (r : Request) (c g : Option ℕ)
    → (s.limits ≡ true → tells ≡ true) → are_ok s.lanes ≡ true → IsJournal s past → HandlesFit (answer past)
    → LensFit s.facts
    → MatchOption c (MatchOption g (MayCome s past (entry.Event (Submit by id r)))
    (λ grant. MustClose past grant (entry.Event (Submit by id r))))
    (λ lane. entry.Event (Submit by id r) ≡ cancelled_end past lane)
    → FitsBy tells by r
fits_next s tells past by id r (Some lane) g t ok j h k due = absurd cc
fits_next s tells past by id r None (Some grant) t ok j h k due = close_fits tells past grant id by r h due
fits_next s tells past by id r None None t ok j h k due = may_fits s tells past by id r t ok j h k due

-- each request of a run so far fits
pub sound : (s : Setting) (tells : Bool) (past : List Entry) → (s.limits ≡ true → tells ≡ true) → are_ok s.lanes ≡ true
    → LensFit s.facts → IsJournal s past → TakesFit past → IsSound tells past
sound s tells [] t ok k j f = tt
sound s tells (entry.Event (Submit by id r) ∷ past) t ok k j f = (
  (submit_free s past by id r j.0).0,
  fits_next s tells past by id r (last_cancel past) (next_due s past) t ok j.1
      (grants_fit past f) k j.0,
  sound s tells past t ok k j.1 f,
)
sound s tells (entry.Event (Take id r) ∷ past) t ok k j f = sound s tells past t ok k j.1 f.1
sound s tells (_ ∷ past) t ok k j f = sound s tells past t ok k j.1 f
