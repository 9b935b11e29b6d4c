-- What a copy gives up.
use Rattle.std.proofs.Common.{
  ◌≡◌,
  ◌≢◌,
  ◌-◌,
  ◌==◌,
  ℕ,
  Bool,
  true,
  false,
  cond,
  List,
  [],
  ◌∷◌,
  refl,
  sym,
  ap,
  ◌∙◌,
  subst,
  arith,
  Option,
  Some,
  None,
}
use Rattle.std.specs.Prelude.{IsTrue}
use Rattle.sftp_model.specs.declared.answers.Expected.TheVariants as expected
use Rattle.sftp_model.specs.declared.request.Request.TheVariants.{Close}
use Rattle.sftp_core.specs.declared.id_record.IdRecord.{IdRecord}
use Rattle.sftp_core.specs.declared.id_record.IdRecord.TheVariants.{Waiting, Answered, Granted}
use Rattle.sftp_core.specs.Core.{
  Core,
  abandon_leaves,
  core_after_abandon,
  record_at,
  core_after_drop,
  is_ticket,
  queued_last,
  release_leaves,
  core_after_release,
  users_of,
  with_record,
}
use Rattle.sftp_core.specs.Grant.{GrantValue}
use Rattle.sftp_core.specs.Table.{handle_in_reply}
use Rattle.sftp_core.proofs.Elsewhere.{abandon_elsewhere, abandon_phase, put_here, release_elsewhere, release_phase}
use Rattle.plan_state.specs.Asked.{HoldsTicket}
use Rattle.plan_state.proofs.Keeping.{holds_at}
use Rattle.plan_state.proofs.OthersKept.{cancelled_keeps_grants, cancelled_on, grant_at, released_holds}
use Rattle.transfer_copy.specs.declared.holding.FileHold.{FileHold}
use Rattle.transfer_copy.specs.declared.holding.FileHold.TheVariants as hold
use Rattle.transfer_copy.specs.declared.holding.Part.{Part}
use Rattle.transfer_copy.specs.Holdings.{
  ArePartsHeld,
  ClosesFile,
  DropsParts,
  HoldingValue,
  HoldsAll,
  IsFileHeld,
  IsNotOfFile,
  IsNotOfParts,
  IsOfOthers,
  KeepsApart,
  SparesIds,
  drops_file,
  drops_parts,
  nothing_held,
}
use Rattle.transfer_copy.proofs.HoldingLaws.{parts_over, spares_both, spares_same}

-- ---- parts are abandoned one after another

parts_abandoned_on : (core : Core) (ticket : ℕ) (file : FileHold) (parts : List Part) → IsNotOfParts ticket parts
    → ArePartsHeld core file parts → ArePartsHeld (core_after_abandon core ticket) file parts
parts_abandoned_on core ticket file [] apart held = tt
parts_abandoned_on core ticket file (part ∷ later) (ne, apart) (h, p, f, own, held) = (
  cancelled_on core ticket part.ticket part.kind (λ same. ne (sym same)) h,
  p,
  f,
  own,
  parts_abandoned_on core ticket file later apart held,
)

-- these parts are left of all
pub record Dropping (first core : Core) (all parts : List Part) : Type 0 where
  pub file : FileHold
  pub held : ArePartsHeld core file parts
  pub same : drops_parts core parts ≡ drops_parts first all

pub drops_first : (core : Core) (all : List Part) → ((file : FileHold) × ArePartsHeld core file all)
    → Dropping core core all all
drops_first core all h = record { file = h.0; held = h.1; same = refl }

next_of : (first core : Core) (all parts : List Part) (part : Part) (later : List Part)
    → Dropping first core all parts → parts ≡ part ∷ later → Dropping first core all (part ∷ later)
next_of first core all parts part later a is = subst (λ x. Dropping first core all x) is a

pub drops_ticket : (first core : Core) (all parts : List Part) (part : Part) (later : List Part)
    → Dropping first core all parts → parts ≡ part ∷ later → IsTrue (is_ticket (record_at core part.ticket))
drops_ticket first core all parts part later a is = (next_of first core all parts part later a is).held.0.counted

pub drops_next : (first core : Core) (all parts : List Part) (part : Part) (later : List Part)
    → Dropping first core all parts → parts ≡ part ∷ later → Dropping first (core_after_abandon core part.ticket) all
    later
drops_next first core all parts part later a is =
    let b = next_of first core all parts part later a is in
    record { file = b.file; held = parts_abandoned_on core part.ticket b.file later b.held.3 b.held.4; same = b.same }

pub drops_all : (first core : Core) (all parts : List Part) → Dropping first core all parts → parts ≡ []
    → core ≡ drops_parts first all
drops_all first core all parts a none = (subst (λ x. Dropping first core all x) none a).same

-- ---- what an abandon leaves

dropped_fault : (core : Core) (k : ℕ) (brought : Option (List ℕ)) → (core_after_drop core k brought).fault ≡ core.fault
dropped_fault core k (Some handle) = refl
dropped_fault core k None = refl

abandon_fault : (core : Core) (k : ℕ) (p : Option IdRecord) → (abandon_leaves core k p).fault ≡ core.fault
abandon_fault core k (Some (Waiting e s w)) = refl
abandon_fault core k (Some (Answered e r)) = dropped_fault core k (handle_in_reply r)
abandon_fault core k (Some (Granted handle users)) = refl
abandon_fault core k None = refl

abandoned_spares : (core : Core) (ticket : ℕ) (before next : HoldingValue)
    → ((id : ℕ) → IsOfOthers id before → (id ≢ ticket) × IsOfOthers id next)
    → SparesIds before next core (core_after_abandon core ticket)
abandoned_spares core ticket before next others = record {
  places = λ id place mine here. (let o = others id mine in (
    abandon_elsewhere core ticket (record_at core ticket) id
        o.0 ∙ here,
    o.1,
  ));
  phase = abandon_phase core ticket (record_at core ticket);
  fault = abandon_fault core ticket (record_at core ticket);
}

abandoned_file : (core : Core) (ticket : ℕ) (file : FileHold) → IsTrue (is_ticket (record_at core ticket))
    → IsNotOfFile ticket file
    → IsFileHeld core file → IsFileHeld (core_after_abandon core ticket) file
abandoned_file core ticket hold.Nothing counted apart held = tt
abandoned_file core ticket (hold.Asked other kind) counted apart held =
    cancelled_on core ticket other kind (λ same. apart (sym same)) held
abandoned_file core ticket (hold.Opened grant) counted apart held =
    (cancelled_keeps_grants core ticket counted).grants grant.id grant.handle 1 held

-- no part is left, and the file stays what it was
dropped_apart : (core : Core) (file : FileHold) (parts : List Part) → IsFileHeld core file
    → ArePartsHeld core file parts
    → IsFileHeld (drops_parts core parts) file
    × SparesIds (record { file = file; parts = parts }) (record { file = file; parts = [] }) core
    (drops_parts core parts)
dropped_apart core file [] held none = (held, spares_same (record { file = file; parts = [] }) core)
dropped_apart core file (part ∷ later) held (h, p, f, own, parts) =
    let mid = core_after_abandon core part.ticket in
    let below = dropped_apart mid file later (abandoned_file core part.ticket file h.counted f held)
    (parts_abandoned_on core part.ticket file later own parts) in (
      below.0,
      spares_both (record { file = file; parts = part ∷ later }) (record { file = file; parts = later })
          (record { file = file; parts = [] }) core mid (drops_parts mid later)
          (abandoned_spares core part.ticket (record { file = file; parts = part ∷ later })
          (record { file = file; parts = later })
          (λ id others. (others.parts.0, record { file = others.file; parts = others.parts.1 }))) below.1,
    )

pub parts_dropped : (core after : Core) (old new : HoldingValue) → HoldsAll core old → DropsParts core old after new
    → KeepsApart old new core after
parts_dropped core after old new held drops =
    let both = dropped_apart core old.file old.parts held.file held.parts in
    let same : new ≡ record { file = old.file; parts = [] } = drops.now in
    subst (λ (x : HoldingValue). KeepsApart old x core after) (sym same)
    (subst (λ (x : Core). KeepsApart old (record { file = old.file; parts = [] }) core x) (sym drops.core_is)
    (record { held = record { file = both.0; parts = tt }; spares = both.1 }))

-- ---- a file that is closed

released_fault : (core : Core) (grant : GrantValue) (users : ℕ) → (release_leaves core grant users).fault ≡ core.fault
released_fault core grant users = by_test (users == 1)
  where
    by_test : (b : Bool) → (cond b (queued_last core grant.id (Close grant.handle) true)
        (with_record core grant.id (Granted grant.handle (users - 1)))).fault ≡ core.fault
    by_test true = refl
    by_test false = refl

released_spares : (core : Core) (grant : GrantValue) (before next : HoldingValue)
    → ((id : ℕ) → IsOfOthers id before → (id ≢ grant.id) × IsOfOthers id next)
    → SparesIds before next core (core_after_release core grant)
released_spares core grant before next others = record {
  places = λ id place mine here. (let o = others id mine in
      (release_elsewhere core grant (users_of (record_at core grant.id)) id o.0 ∙ here, o.1));
  phase = release_phase core grant (users_of (record_at core grant.id));
  fault = released_fault core grant (users_of (record_at core grant.id));
}

-- its one user queues the CLOSE under its number
released_here : (core : Core) (grant : GrantValue) → record_at core grant.id ≡ Some (Granted grant.handle 1)
    → record_at (core_after_release core grant) grant.id ≡ Some (Waiting expected.Status false true)
released_here core grant one =
    ap (λ p. record_at (release_leaves core grant (users_of p)) grant.id) one
    ∙ put_here core.table grant.id (Waiting expected.Status false true)

pub close_awaited : (core : Core) (grant : GrantValue) → record_at core grant.id ≡ Some (Granted grant.handle 1)
    → HoldsTicket (core_after_release core grant) grant.id expected.Status
close_awaited core grant one =
    holds_at (core_after_release core grant) grant.id expected.Status (Some (Waiting expected.Status false true))
    (released_here core grant one) refl refl

pub file_closed : (core after : Core) (old new : HoldingValue) → HoldsAll core old → ClosesFile core old after new
    → KeepsApart old new core after
file_closed core after old new held closes =
    let grant = closes.grant in
    let one = subst (λ (f : FileHold). IsFileHeld core f) closes.opened held.file in
    let parts = subst (λ (f : FileHold). ArePartsHeld core f old.parts) closes.opened held.parts in
    let to = hold.Asked grant.id expected.Status in
    subst (λ (x : HoldingValue). KeepsApart old x core after) (sym closes.now)
    (subst (λ (x : Core). KeepsApart old (record old { file = to }) core x) (sym closes.core_is) (record {
      held = record {
        file = close_awaited core grant one;
        parts = parts_over core (core_after_release core grant) (hold.Opened grant) to old.parts
            (λ part here ne. (
              released_holds core grant part.ticket part.kind (grant_at core grant 1 one (omega arith))
                  here,
              ne,
            )) parts;
      };
      spares = released_spares core grant old (record old { file = to })
          (λ id others. (let ne = subst (λ (f : FileHold). IsNotOfFile id f) closes.opened others.file in
          (ne, record { file = ne; parts = others.parts })));
    }))

-- ---- a file that is given up

file_dropped : (core : Core) (file : FileHold) → IsFileHeld core file
    → SparesIds (record { file = file; parts = [] }) nothing_held core (drops_file core file)
file_dropped core hold.Nothing held = spares_same nothing_held core
file_dropped core (hold.Asked ticket kind) held = abandoned_spares core ticket
    (record { file = hold.Asked ticket kind; parts = [] }) nothing_held
    (λ id others. (others.file, record { file = tt; parts = tt }))
file_dropped core (hold.Opened grant) held =
    let old : HoldingValue = record { file = hold.Opened grant; parts = [] } in
    spares_both old old nothing_held core (core_after_release core grant)
    (core_after_abandon (core_after_release core grant) grant.id)
    (released_spares core grant old old (λ id others. (others.file, others)))
    (abandoned_spares (core_after_release core grant) grant.id old nothing_held
    (λ id others. (others.file, record { file = tt; parts = tt })))

pub all_dropped : (core after : Core) (h : HoldingValue) → HoldsAll core h → after
    ≡ drops_file (drops_parts core h.parts) h.file
    → SparesIds h nothing_held core after
all_dropped core after h held is =
    let both = dropped_apart core h.file h.parts held.file held.parts in
    subst (λ (x : Core). SparesIds h nothing_held core x) (sym is)
    (spares_both h (record { file = h.file; parts = [] }) nothing_held core (drops_parts core h.parts)
    (drops_file (drops_parts core h.parts) h.file) both.1 (file_dropped (drops_parts core h.parts) h.file both.0))

pub file_still_held : (core : Core) (h : HoldingValue) → HoldsAll core h → IsFileHeld (drops_parts core h.parts) h.file
file_still_held core h held = (dropped_apart core h.file h.parts held.file held.parts).0
