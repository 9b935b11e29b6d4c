-- What a copy has of a core over what it does, and what others have.
use Rattle.std.proofs.Common.{◌≡◌, ◌≢◌, ℕ, true, false, List, [], ◌∷◌, ◌++◌, refl, sym, ap, ◌∙◌, subst, Option, Some, None}
use Rattle.std.specs.Prelude.{IsTrue}
use Rattle.sftp_model.specs.Answers.{allows_reply, expected_of}
use Rattle.sftp_model.specs.declared.answers.Expected.{Expected}
use Rattle.sftp_model.specs.declared.answers.Expected.TheVariants as expected
use Rattle.sftp_model.specs.declared.error.Fault.{Fault}
use Rattle.sftp_model.specs.declared.request.Request.{Request}
use Rattle.sftp_core.specs.declared.id_record.IdRecord.{IdRecord}
use Rattle.sftp_core.specs.declared.id_record.IdRecord.TheVariants.{Waiting, Answered, Granted}
use Rattle.sftp_core.specs.Core.{Core, after_poll, record_at, given_leaves, is_ticket, poll_leaves}
use Rattle.sftp_core.specs.Grant.{GrantValue}
use Rattle.sftp_core.specs.Table.{asks_handle, handle_in_reply}
use Rattle.sftp_core.proofs.Elsewhere.{poll_elsewhere, poll_phase, put_elsewhere}
use Rattle.plan_state.specs.Asked.{HoldsTicket, SubmitsAsking, queued_by, request_of}
use Rattle.plan_state.specs.Keeping.{KeepsHeld}
use Rattle.plan_state.specs.declared.submission.Asking.{Asking}
use Rattle.plan_state.specs.declared.submission.Asking.TheVariants.{Whole, Parts}
use Rattle.plan_state.proofs.Keeping.{submitted_holds}
use Rattle.plan_state.proofs.OthersKept.{polled_keeps_grants, polled_on, submitted_keeps}
use Rattle.sftp_model.specs.declared.reply.Reply.TheVariants as reply
use Rattle.transfer_copy.specs.Answers.{AnswersTicket, HasCome}
use Rattle.transfer_copy.specs.declared.answers.TicketAnswer.TheVariants as answer
use Rattle.transfer_copy.specs.declared.holding.FileAnswer.TheVariants as file_answer
use Rattle.transfer_copy.specs.declared.holding.FileHold.{FileHold}
use Rattle.transfer_copy.specs.declared.holding.FileHold.TheVariants as hold
use Rattle.transfer_copy.specs.declared.holding.Part.{Part}
use Rattle.transfer_copy.specs.Holdings.{
  ArePartsHeld,
  AsksFile,
  AsksForPart,
  GivesGrant,
  HoldingValue,
  HoldsAll,
  IsFileHeld,
  IsFileReply,
  IsNotOfFile,
  IsNotOfParts,
  IsOfOthers,
  KeepsApart,
  SettlesFile,
  SparesIds,
  after_file,
  file_reply,
}

-- ---- a number that a ticket has stands in the core

clash : (p : Option IdRecord) (place : IdRecord) → p ≡ None → p ≡ Some place → ⊥
clash p place none some = let bad : (◌≡◌ {A = Option IdRecord} None (Some place)) = sym none ∙ some in cc

no_ticket : (p : Option IdRecord) → IsTrue (is_ticket p) → p ≡ None → ⊥
no_ticket p counted none = let gone = subst (λ (x : Option IdRecord). IsTrue (is_ticket x)) none counted in cc

-- a held ticket is not one that is free
pub held_apart : (core : Core) (id ticket : ℕ) (kind : Expected) → HoldsTicket core id kind → record_at core ticket
    ≡ None → id ≢ ticket
held_apart core id ticket kind h free same = no_ticket (record_at core id) h.counted
    (ap (λ n. record_at core n) same ∙ free)

-- ---- both, one after the other

pub spares_same : (h : HoldingValue) (core : Core) → SparesIds h h core core
spares_same h core = record { places = λ id place others here. (here, others); phase = refl; fault = refl }

pub spares_both : (a b c : HoldingValue) (x y z : Core) → SparesIds a b x y → SparesIds b c y z → SparesIds a c x z
spares_both a b c x y z s t = record {
  places = λ id place others here. (let mid = s.places id place others here in t.places id place mid.1 mid.0);
  phase = t.phase ∙ s.phase;
  fault = t.fault ∙ s.fault;
}

pub apart_same : (h : HoldingValue) (core : Core) → HoldsAll core h → KeepsApart h h core core
apart_same h core held = record { held = held; spares = spares_same h core }

pub apart_both : (a b c : HoldingValue) (x y z : Core) → KeepsApart a b x y → KeepsApart b c y z → KeepsApart a c x z
apart_both a b c x y z s t = record { held = t.held; spares = spares_both a b c x y z s.spares t.spares }

-- ---- a request that is submitted

queued_stays : (core : Core) (ticket : ℕ) (asking : Asking) (id : ℕ) (place : IdRecord) → record_at core ticket ≡ None
    → record_at core id ≡ Some place → record_at (queued_by core ticket asking) id ≡ Some place
queued_stays core ticket (Whole asked) id place free here =
    put_elsewhere core.table ticket _ id (λ same. clash (record_at core id) place
    (ap (λ n. record_at core n) same ∙ free) here) ∙ here
queued_stays core ticket (Parts handle offset parts) id place free here =
    put_elsewhere core.table ticket _ id (λ same. clash (record_at core id) place
    (ap (λ n. record_at core n) same ∙ free) here) ∙ here

queued_phase : (core : Core) (ticket : ℕ) (asking : Asking) → (queued_by core ticket asking).phase ≡ core.phase
queued_phase core ticket (Whole asked) = refl
queued_phase core ticket (Parts handle offset parts) = refl

queued_fault : (core : Core) (ticket : ℕ) (asking : Asking) → (queued_by core ticket asking).fault ≡ core.fault
queued_fault core ticket (Whole asked) = refl
queued_fault core ticket (Parts handle offset parts) = refl

submitted_spares : (old new : Core) (asking : Asking) (ticket : ℕ) (before after : HoldingValue)
    → SubmitsAsking old asking ticket new
    → ((id : ℕ) → id ≢ ticket → IsOfOthers id before → IsOfOthers id after) → SparesIds before after old new
submitted_spares old new asking ticket before after s others = record {
  places = λ id place mine here. (
    ap (λ (x : Core). record_at x id) s.queued ∙ queued_stays old ticket asking id place s.free here,
    others id (λ same. clash (record_at old id) place (ap (λ n. record_at old n) same ∙ s.free) here) mine,
  );
  phase = ap (λ (x : Core). x.phase) s.queued ∙ queued_phase old ticket asking;
  fault = ap (λ (x : Core). x.fault) s.queued ∙ queued_fault old ticket asking;
}

-- ---- parts over what leaves them

-- they are held by another core that holds each of them, beside a file that has no number of theirs
pub parts_over : (old new : Core) (file next : FileHold) (parts : List Part)
    → ((part : Part) → HoldsTicket old part.ticket part.kind → IsNotOfFile part.ticket file
    → HoldsTicket new part.ticket part.kind × IsNotOfFile part.ticket next)
    → ArePartsHeld old file parts → ArePartsHeld new next parts
parts_over old new file next [] goes held = tt
parts_over old new file next (part ∷ later) goes (holds, plain, file_apart, parts_apart, held) =
    let here = goes part holds file_apart in
    (here.0, plain, here.1, parts_apart, parts_over old new file next later goes held)

file_over : (old new : Core) (file : FileHold) → KeepsHeld old new → IsFileHeld old file → IsFileHeld new file
file_over old new hold.Nothing keeps held = tt
file_over old new (hold.Asked ticket kind) keeps held = keeps.holds ticket kind held
file_over old new (hold.Opened grant) keeps held = keeps.grants.grants grant.id grant.handle 1 held

-- what the session does leaves all that a copy has
pub all_over : (old new : Core) (h : HoldingValue) → KeepsHeld old new → HoldsAll old h → HoldsAll new h
all_over old new h keeps held = record {
  file = file_over old new h.file keeps held.file;
  parts = parts_over old new h.file h.file h.parts (λ part here apart. (keeps.holds part.ticket part.kind here, apart))
      held.parts;
}

-- ---- a request of the file

pub file_asked : (core after : Core) (old new : HoldingValue) (asked : Request) → old.file ≡ hold.Nothing
    → HoldsAll core old → AsksFile core old asked after new → KeepsApart old new core after
file_asked core after old new asked none held asks =
    let s = asks.submitted in
    let t = asks.ticket in
    let keeps = submitted_keeps core after (Whole asked) t s in
    subst (λ (x : HoldingValue). KeepsApart old x core after) (sym asks.now) (record {
      held = record {
        file = submitted_holds core after (Whole asked) t (expected_of asked) s refl;
        parts = parts_over core after old.file (hold.Asked t (expected_of asked)) old.parts
            (λ part here apart. (
              keeps.holds part.ticket part.kind here,
              held_apart core part.ticket t part.kind here s.free,
            )) held.parts;
      };
      spares = submitted_spares core after (Whole asked) t old (record old { file = hold.Asked t (expected_of asked) })
          s
          (λ id ne others. record { file = ne; parts = others.parts });
    })

-- ---- a part more

last_of_others : (id ticket : ℕ) (kind : Expected) (len : ℕ) (parts : List Part) → id ≢ ticket → IsNotOfParts id parts
    → IsNotOfParts id (parts ++ record { ticket = ticket; kind = kind; len = len } ∷ [])
last_of_others id ticket kind len [] ne apart = (ne, tt)
last_of_others id ticket kind len (part ∷ later) ne (first, apart) =
    (first, last_of_others id ticket kind len later ne apart)

last_held : (core : Core) (file : FileHold) (ticket : ℕ) (kind : Expected) (len : ℕ) (parts : List Part)
    → ArePartsHeld core file parts → HoldsTicket core ticket kind → asks_handle kind ≡ false → IsNotOfFile ticket file
    → IsNotOfParts ticket parts → ArePartsHeld core file (parts
    ++ record { ticket = ticket; kind = kind; len = len } ∷ [])
last_held core file ticket kind len [] held here plain file_apart apart = (here, plain, file_apart, tt, tt)
last_held core file ticket kind len (part ∷ later) (h, p, f, own, held) here plain file_apart (ne, apart) = (
  h,
  p,
  f,
  last_of_others part.ticket ticket kind len later (λ same. ne (sym same)) own,
  last_held core file ticket kind len later held here plain file_apart apart,
)

free_of_file : (core : Core) (ticket : ℕ) (file : FileHold) → record_at core ticket ≡ None → IsFileHeld core file
    → IsNotOfFile ticket file
free_of_file core ticket hold.Nothing free held = tt
free_of_file core ticket (hold.Asked other kind) free held =
    λ same. held_apart core other ticket kind held free (sym same)
free_of_file core ticket (hold.Opened grant) free held =
    λ same. clash (record_at core grant.id) (Granted grant.handle 1) (ap (λ n. record_at core n) (sym same) ∙ free) held

free_of_parts : (core : Core) (ticket : ℕ) (file : FileHold) (parts : List Part) → record_at core ticket ≡ None
    → ArePartsHeld core file parts → IsNotOfParts ticket parts
free_of_parts core ticket file [] free held = tt
free_of_parts core ticket file (part ∷ later) free (h, p, f, own, held) = (
  λ same. held_apart core part.ticket ticket part.kind h free (sym same),
  free_of_parts core ticket file later free held,
)

pub part_asked : (core after : Core) (old new : HoldingValue) (asking : Asking) (len : ℕ)
    → asks_handle (expected_of (request_of asking)) ≡ false
    → HoldsAll core old → AsksForPart core old asking len after new → KeepsApart old new core after
part_asked core after old new asking len plain held asks =
    let s = asks.submitted in
    let t = asks.ticket in
    let kind = expected_of (request_of asking) in
    let keeps = submitted_keeps core after asking t s in
    let over = all_over core after old keeps held in
    let parts = old.parts ++ record { ticket = t; kind = kind; len = len } ∷ [] in
    subst (λ (x : HoldingValue). KeepsApart old x core after) (sym asks.now) (record {
      held = record {
        file = over.file;
        parts = last_held after old.file t kind len old.parts over.parts
            (submitted_holds core after asking t kind s refl) plain
            (free_of_file core t old.file s.free held.file) (free_of_parts core t old.file old.parts s.free held.parts);
      };
      spares = submitted_spares core after asking t old (record old { parts = parts }) s
          (λ id ne others. record {
            file = others.file;
            parts = last_of_others id t kind len old.parts ne others.parts;
          });
    })

-- ---- a poll

given_fault : (core : Core) (k : ℕ) (brought : Option (List ℕ)) → (given_leaves core k brought).fault ≡ core.fault
given_fault core k (Some handle) = refl
given_fault core k None = refl

poll_fault : (core : Core) (k : ℕ) (f : Option Fault) (p : Option IdRecord) → (poll_leaves core k f p).fault
    ≡ core.fault
poll_fault core k f (Some (Answered e r)) = given_fault core k (handle_in_reply r)
poll_fault core k (Some f) (Some (Waiting e s w)) = refl
poll_fault core k None (Some (Waiting e s w)) = refl
poll_fault core k f (Some (Granted handle users)) = refl
poll_fault core k f None = refl

polled_spares : (core after : Core) (ticket : ℕ) (before next : HoldingValue) → after ≡ after_poll core ticket
    → ((id : ℕ) → IsOfOthers id before → (id ≢ ticket) × IsOfOthers id next) → SparesIds before next core after
polled_spares core after ticket before next is others =
    subst (λ (x : Core). SparesIds before next core x) (sym is) (record {
      places = λ id place mine here. (let o = others id mine in
          (poll_elsewhere core ticket core.fault (record_at core ticket) id o.0 ∙ here, o.1));
      phase = poll_phase core ticket core.fault (record_at core ticket);
      fault = poll_fault core ticket core.fault (record_at core ticket);
    })

-- of the file's request, after which the file has what comes next
pub file_polled : (core after : Core) (old new : HoldingValue) (ticket : ℕ) (kind : Expected) (next : FileHold)
    → HoldsAll core old → old.file ≡ hold.Asked ticket kind → after ≡ after_poll core ticket
    → new ≡ record old { file = next } → IsFileHeld after next → ((id : ℕ) → id ≢ ticket → IsNotOfFile id next)
    → KeepsApart old new core after
file_polled core after old new ticket kind next held is core_is now next_held apart =
    let parts = subst (λ (f : FileHold). ArePartsHeld core f old.parts) is held.parts in
    subst (λ (x : HoldingValue). KeepsApart old x core after) (sym now) (record {
      held = record {
        file = next_held;
        parts = parts_over core after (hold.Asked ticket kind) next old.parts
            (λ part here ne. (
              subst (λ (x : Core). HoldsTicket x part.ticket part.kind) (sym core_is)
                  (polled_on core ticket part.ticket part.kind ne here),
              apart part.ticket ne,
            )) parts;
      };
      spares = polled_spares core after ticket old (record old { file = next }) core_is
          (λ id others. (let ne = subst (λ (f : FileHold). IsNotOfFile id f) is others.file in
          (ne, record { file = apart id ne; parts = others.parts })));
    })

file_polled_on : (core : Core) (ticket : ℕ) (file : FileHold) → IsTrue (is_ticket (record_at core ticket))
    → IsNotOfFile ticket file → IsFileHeld core file
    → IsFileHeld (after_poll core ticket) file
file_polled_on core ticket hold.Nothing counted apart held = tt
file_polled_on core ticket (hold.Asked other kind) counted apart held =
    polled_on core ticket other kind (λ same. apart (sym same)) held
file_polled_on core ticket (hold.Opened grant) counted apart held =
    (polled_keeps_grants core ticket counted).grants grant.id grant.handle 1 held

parts_polled_on : (core : Core) (ticket : ℕ) (file : FileHold) (parts : List Part) → IsNotOfParts ticket parts
    → ArePartsHeld core file parts → ArePartsHeld (after_poll core ticket) file parts
parts_polled_on core ticket file [] apart held = tt
parts_polled_on core ticket file (part ∷ later) (ne, apart) (h, p, f, own, held) = (
  polled_on core ticket part.ticket part.kind (λ same. ne (sym same)) h,
  p,
  f,
  own,
  parts_polled_on core ticket file later apart held,
)

-- of the first part
pub part_polled : (core after : Core) (old new : HoldingValue) (part : Part) (later : List Part)
    → HoldsAll core old → old.parts ≡ part ∷ later → after ≡ after_poll core part.ticket
    → new ≡ record old { parts = later } → KeepsApart old new core after
part_polled core after old new part later held is core_is now =
    let parts = subst (λ (l : List Part). ArePartsHeld core old.file l) is held.parts in
    subst (λ (x : HoldingValue). KeepsApart old x core after) (sym now) (record {
      held = record {
        file = subst (λ (x : Core). IsFileHeld x old.file) (sym core_is)
            (file_polled_on core part.ticket old.file parts.0.counted parts.2 held.file);
        parts = subst (λ (x : Core). ArePartsHeld x old.file later) (sym core_is)
            (parts_polled_on core part.ticket old.file later parts.3 parts.4);
      };
      spares = polled_spares core after part.ticket old (record old { parts = later }) core_is
          (λ id others. (let apart = subst (λ (l : List Part). IsNotOfParts id l) is others.parts in
          (apart.0, record { file = others.file; parts = apart.1 })));
    })

-- its reply was no HANDLE, or a fault is kept: nothing is under way for the file any more
pub file_spent : (core after : Core) (old new : HoldingValue) (ticket : ℕ) (kind : Expected) → HoldsAll core old
    → old.file ≡ hold.Asked ticket kind → after ≡ after_poll core ticket → new ≡ record old { file = hold.Nothing }
    → KeepsApart old new core after
file_spent core after old new ticket kind held is core_is now =
    file_polled core after old new ticket kind hold.Nothing held is core_is now tt (λ id ne. tt)

-- it was a HANDLE
pub file_granted : (core after : Core) (old new : HoldingValue) (ticket : ℕ) (kind : Expected) (grant : GrantValue)
    → HoldsAll core old → old.file ≡ hold.Asked ticket kind → after ≡ after_poll core ticket
    → new ≡ record old { file = hold.Opened grant } → AnswersTicket core ticket (answer.Granted grant)
    → SettlesFile core old after new file_answer.Granted × KeepsApart old new core after
file_granted core after old new ticket kind grant held is core_is now (come, same, here) =
    let asked = subst (λ (f : FileHold). IsFileHeld core f) is held.file in
    let one : record_at after grant.id ≡ Some (Granted grant.handle 1) = (λ i. record_at (core_is i) (same i)) ∙ here in
    let grant_is : grant ≡ record { id = ticket; handle = grant.handle } =
    λ i. record { id = same i; handle = grant.handle } in
    let file_is : new.file ≡ hold.Opened (record { id = ticket; handle = grant.handle }) =
    ap (λ (x : HoldingValue). x.file) now ∙ ap hold.Opened grant_is in (
      (
        grant.handle,
        ap (file_reply core) is ∙ come.taken,
        subst (λ (f : FileHold). IsFileReply f (reply.Handle grant.handle)) (sym is) (come.allowed kind asked.expects),
        core_is ∙ ap (after_file core) (sym is),
        subst (λ (f : FileHold). GivesGrant f grant.handle new.file) (sym is) file_is,
        ap (λ (x : HoldingValue). x.parts) now,
      ),
      file_polled core after old new ticket kind (hold.Opened grant) held is core_is now one
          (λ id ne there. ne (there ∙ same)),
    )

-- a request for bytes is never answered by a HANDLE
pub never_handle : (core : Core) (ticket : ℕ) (kind : Expected) (handle : List ℕ) → HoldsTicket core ticket kind
    → asks_handle kind ≡ false → HasCome core ticket (reply.Handle handle) → ⊥
never_handle core ticket kind handle h plain come = by_kind kind plain (come.allowed kind h.expects)
  where
    by_kind : (kind : Expected) → asks_handle kind ≡ false → allows_reply kind (reply.Handle handle) ≡ true → ⊥
    by_kind expected.Version plain e = cc
    by_kind expected.Handle plain e = cc
    by_kind (expected.Content len) plain e = cc
    by_kind expected.Names plain e = cc
    by_kind expected.FirstName plain e = cc
    by_kind expected.Attrs plain e = cc
    by_kind expected.Limits plain e = cc
    by_kind expected.Status plain e = cc
