-- In a run so far each READ that is under way for a lane's buffered file stands where the file does: so the bytes that
-- answer it end within the range of offsets.
use Rattle.std.proofs.Common.{
  ◌≡◌,
  ◌≤◌,
  ◌-◌,
  ◌^◌,
  ℕ,
  zero,
  suc,
  Bool,
  true,
  false,
  List,
  [],
  ◌∷◌,
  ◌++◌,
  Option,
  Some,
  None,
  refl,
  ap,
  sym,
  ◌∙◌,
  subst,
  arith,
  if◌then◌else◌,
  inl,
  inr,
}
use Rattle.std.specs.Prelude.{length, replicate, slice_index_or}
use Rattle.std.proofs.lemmas.Bool.{cases_lt}
use Rattle.std.proofs.lemmas.Bool.Decides.{eqb_tells}
use Rattle.sftp_model.specs.declared.reply.Reply.TheVariants as reply
use Rattle.sftp_model.specs.declared.request.Request.{Request}
use Rattle.sftp_model.specs.declared.request.Request.TheVariants as request
use Rattle.sftp_model.specs.declared.slot.Move.{Move}
use Rattle.sftp_model.specs.declared.slot.Move.TheVariants.{Done}
use Rattle.sftp_model.specs.declared.slot.FileAt.{FileAt}
use Rattle.sftp_model.specs.declared.slot.Buffer.{Buffer}
use Rattle.sftp_model.specs.declared.slot.Site.{Site}
use Rattle.sftp_model.specs.declared.slot.Slot.TheVariants.{Empty, Buffered}
use Rattle.sftp_model.specs.Answers.{MayAnswer, may_answer}
use Rattle.sftp_model.specs.Slots.{fresh_site, slot_at}
use Rattle.plan_model.specs.Ends.{EndsLeaving}
use Rattle.plan_model.specs.Moves.{Own}
use Rattle.plan_model.specs.ReadsUnderWay.{Requests, AreAt, IsReadAt, ReadsStand}
use Rattle.plan_model.proofs.ReadEnds.{ended_stand, cancelled_stand}
use Rattle.plan_model.proofs.SpanLaws.{content_fits}
use Rattle.plan_model.specs.declared.call.Call.{Call}
use Rattle.session_model.specs.declared.event.Owner.{Owner}
use Rattle.session_model.specs.declared.event.Event.TheVariants.{Submit, End}
use Rattle.session_model.specs.declared.entry.Entry.{Entry}
use Rattle.session_model.specs.declared.entry.Entry.TheVariants as entry
use Rattle.session_model.specs.Readings.{AskedRequest, count_submitted, asked_at, answer, is_by, own, count_ended, last_cancel}
use Rattle.session_model.specs.Calls.{Setting, call_at, current, left_by, site_left, site_of}
use Rattle.session_model.specs.Journals.{IsJournal}
use Rattle.session_model.specs.Submitted.{submitted_request, submitted_at}
use Rattle.session_model.proofs.CallLaws.{site_end}
use Rattle.session_model.proofs.CallsSoFar.{calls_so_far}
use Rattle.session_model.proofs.HolderLaws.{ending}
use Rattle.session_model.proofs.RequestLaws.{asked_beyond, asked_new, asked_other}
use Rattle.plan_model.specs.CallPlans.{site_after_cancel}

-- ---- the requests of a journal

-- a further request leaves each where it stands
requests_stay : (past : List Entry) (by : Owner) (id : ℕ) (r : Request) (p : ℕ) (q : Request) → submitted_at past p
    ≡ Some q → submitted_at (entry.Event (Submit by id r) ∷ past) p ≡ Some q
requests_stay past by id r p q is =
    elim (cases_lt p (count_submitted past)) [
      | inl lt ↦ ap submitted_request (asked_other past by id p r lt) ∙ is
      | inr le ↦ absurd (let none : submitted_at past p ≡ None = ap submitted_request (asked_beyond past p le) in cc)
    ]

-- ---- a call's own requests stand at their places

at_later : (before after : Requests) (requests : Own) → ((p : ℕ) (q : Request) → before p ≡ Some q → after p ≡ Some q)
    → AreAt before requests → AreAt after requests
at_later before after [] stays at = tt
at_later before after (a ∷ requests) stays at = (stays a.0 a.1 at.0, at_later before after requests stays at.1)

at_more : (places : Requests) (requests : Own) (new : ℕ × Request) → AreAt places requests → places new.0 ≡ Some new.1
    → AreAt places (requests ++ new ∷ [])
at_more places [] new at is = (is, tt)
at_more places (a ∷ requests) new at is = (at.0, at_more places requests new at.1 is)

own_at : (past : List Entry) (lane call : ℕ) → AreAt (submitted_at past) (own past lane call)
own_at [] lane call = tt
own_at (entry.Event (Submit by id r) ∷ past) lane call =
    by_owner (is_by by lane call) (at_later (submitted_at past) (submitted_at (entry.Event (Submit by id r) ∷ past))
    (own past lane call) (requests_stay past by id r) (own_at past lane call))
  where
    by_owner : (b : Bool) → AreAt (submitted_at (entry.Event (Submit by id r) ∷ past)) (own past lane call)
        → AreAt (submitted_at (entry.Event (Submit by id r) ∷ past))
        (if b then own past lane call ++ (count_submitted past, r) ∷ [] else own past lane call)
    by_owner true old = at_more (submitted_at (entry.Event (Submit by id r) ∷ past)) (own past lane call)
        (count_submitted past, r) old (ap submitted_request (asked_new past by id r))
    by_owner false old = old
own_at (_ ∷ past) lane call = own_at past lane call

-- ---- what a lane holds

stand_later : (before after : Requests) (site : Site) → ((p : ℕ) (q : Request) → before p ≡ Some q → after p ≡ Some q)
    → ReadsStand before site → ReadsStand after site
stand_later before after site stays b =
    record {
      each = λ k p file buffer is reading. (let old : (buffer.bytes ≡ []) × IsReadAt (before p) file.offset =
          b.each k p file buffer is reading in
          (old.0, record { handle = old.1.handle; len = old.1.len; is = stays p _ old.1.is; below = old.1.below }));
    }

empty_at : (n k : ℕ) → slice_index_or (replicate n Empty) k Empty ≡ Empty
empty_at zero k = refl
empty_at (suc n) zero = refl
empty_at (suc n) (suc k) = empty_at n k

-- slots that hold nothing have no buffer
fresh_stand : (requests : Requests) (directory : List ℕ) → ReadsStand requests
    (record { slots = fresh_site.slots; directory = directory })
fresh_stand requests directory = record {
  each = λ k p file buffer is reading. absurd
      (let none = sym (empty_at 16 k) ∙ is in cc none);
}

moved_stand : (requests : Requests) (site : Site) (m : Move) → ReadsStand requests site
    → EndsLeaving (ReadsStand requests) m → ReadsStand requests (left_by m site)
moved_stand requests site (Done o after) was leaves = leaves
moved_stand requests site other was leaves = was

-- the end of a lane's call leaves the READs so, where the call began so
left_stand : (s : Setting) (past : List Entry) (lane : ℕ) → IsJournal s past
    → ReadsStand (submitted_at past) (site_of s past lane) → (c : Option Call) → current s past lane ≡ c
    → (cancel : Option ℕ)
    → ReadsStand (submitted_at past) (site_left c cancel (site_of s past lane) s.facts
    (own past lane (count_ended past lane)) (answer past))
left_stand s past lane j was None is cancel = was
left_stand s past lane j was (Some c) is None =
    moved_stand (submitted_at past) (site_of s past lane) _ was
    (ended_stand (submitted_at past) c (site_of s past lane) s.facts (own past lane (count_ended past lane))
    (answer past)
    was)
left_stand s past lane j was (Some c) is (Some l) =
    let goes = calls_so_far s past lane c j is in
    subst (λ (o : Own). ReadsStand (submitted_at past) (site_after_cancel c (site_of s past lane) s.facts o
    (answer past))) goes.are
    (cancelled_stand (submitted_at past) c (site_of s past lane) s.facts goes.requests (answer past) goes.so_far.asked
    (subst (AreAt (submitted_at past)) (sym goes.are) (own_at past lane (count_ended past lane))) was)

-- ---- the law

-- in a run so far each lane's READs under way stand where their files do
pub reads_stand : (s : Setting) (past : List Entry) (lane : ℕ) → IsJournal s past
    → ReadsStand (submitted_at past) (site_of s past lane)
reads_stand s [] lane j = fresh_stand (submitted_at []) []
reads_stand s (entry.Event (Submit by id r) ∷ past) lane j =
    stand_later (submitted_at past) (submitted_at (entry.Event (Submit by id r) ∷ past)) (site_of s past lane)
    (requests_stay past by id r) (reads_stand s past lane j.1)
reads_stand s (entry.Event (End l n o) ∷ past) lane j =
    elim (eqb_tells l lane) [
      | inl t ↦ subst (λ (k : ℕ). ReadsStand (submitted_at past) (site_of s (entry.Event (End l n o) ∷ past) k)) t.1
          (subst (ReadsStand (submitted_at past)) (sym (site_end s past l n o))
          (subst (λ (m : ℕ). ReadsStand (submitted_at past) (site_left (call_at s past l m) (last_cancel past)
          (site_of s past l) s.facts (own past l m) (answer past))) (sym (ending s past l n o j).at)
          (left_stand s past l j.1 (reads_stand s past l j.1) (current s past l) refl (last_cancel past))))
      | inr t ↦ rw t.0 (reads_stand s past lane j.1)
    ]
reads_stand s (entry.LetGo l ∷ past) lane j = elim (eqb_tells l lane) [
  | inl t ↦ rw t.0 (fresh_stand (submitted_at past) (site_of s past lane).directory)
  | inr t ↦
      rw t.0 (reads_stand s past lane j.1)
]
reads_stand s (_ ∷ past) lane j = reads_stand s past lane j.1

-- ---- what answers such a READ

some_request : (a b : Request) → (let x : Option Request = Some a in x) ≡ Some b → a ≡ b
some_request a b e = cc

-- the bytes of a DATA that may answer it end within the range of offsets
pub read_fits : (s : Setting) (past : List Entry) (lane k p : ℕ) (file : FileAt) (buffer : Buffer) (a : AskedRequest)
    (bytes : List ℕ) → IsJournal s past → slot_at (site_of s past lane) k ≡ Buffered file buffer → buffer.reading
    ≡ Some p
    → asked_at past p ≡ Some a → may_answer a.request (reply.Content bytes) ≡ true
    → length bytes ≤ (2 ^ 64 - 1) - file.offset
read_fits s past lane k p file buffer a bytes j at reading found may =
    let stands : IsReadAt (submitted_at past p) file.offset = ((reads_stand s past lane j).each k p file buffer at
    reading).1 in
    let same : a.request ≡ request.Read stands.handle file.offset stands.len =
    some_request a.request _ (sym (ap submitted_request found) ∙ stands.is) in
    let fits : length bytes ≤ stands.len = (content_fits (request.Read stands.handle file.offset stands.len) bytes
    (subst (λ (r : Request). MayAnswer r (reply.Content bytes)) same may)).1 in
    omega (arith, fits, stands.below)
