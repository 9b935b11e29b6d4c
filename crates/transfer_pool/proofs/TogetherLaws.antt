-- Copies that stand together over one core.
use Rattle.std.proofs.Common.{◌≡◌, ◌≢◌, inl, inr, ℕ, List, [], ◌∷◌, ◌++◌, refl, sym, ap, ◌∙◌, subst, Option, Some, None}
use Rattle.std.specs.Prelude.{IsTrue, IsSome, Result}
use Rattle.sftp_model.specs.declared.answers.Expected.{Expected}
use Rattle.sftp_core.specs.declared.handshake.Handshake.{Handshake}
use Rattle.sftp_core.specs.declared.id_record.IdRecord.{IdRecord}
use Rattle.sftp_core.specs.declared.id_record.IdRecord.TheVariants.{Granted}
use Rattle.sftp_core.specs.Core.{Core, record_at, is_ticket}
use Rattle.sftp_core.specs.Info.{info_of}
use Rattle.plan_state.specs.Asked.{HoldsTicket}
use Rattle.plan_state.specs.Keeping.{KeepsHeld}
use Rattle.plan_state.proofs.Keeping.{holds_still}
use Rattle.transfer_copy.specs.declared.copy_error.CopyError.{CopyError}
use Rattle.transfer_copy.specs.declared.holding.FileHold.{FileHold}
use Rattle.transfer_copy.specs.declared.holding.FileHold.TheVariants as hold
use Rattle.transfer_copy.specs.declared.holding.Part.{Part}
use Rattle.transfer_copy.specs.declared.progress.Progress.{Progress}
use Rattle.transfer_copy.specs.declared.progress.Progress.TheVariants as progress
use Rattle.transfer_copy.specs.Holdings.{
  ArePartsHeld,
  HoldingValue,
  HoldsAll,
  IsFileHeld,
  IsNotOfFile,
  IsNotOfParts,
  IsOfOthers,
  SparesIds,
  nothing_held,
}
use Rattle.transfer_copy.specs.Local.{LocalAct}
use Rattle.transfer_copy.proofs.HoldingLaws.{all_over}
use Rattle.transfer_pool.specs.declared.copy_job.Copied.{Copied}
use Rattle.transfer_pool.specs.declared.copy_job.CopyJob.{CopyJob}
use Rattle.transfer_pool.specs.declared.copy_job.CopyState.{CopyState}
use Rattle.transfer_pool.specs.declared.copy_job.CopyState.TheVariants as state
use Rattle.transfer_pool.specs.declared.copy_job.Running.{Running}
use Rattle.transfer_args.specs.declared.asked.Direction.{Direction}
use Rattle.transfer_args.specs.declared.asked.Direction.TheVariants as way
use Rattle.transfer_pool.specs.Copies.{
  AreApartFrom,
  AreDisjoint,
  AreTogether,
  EndsTurn,
  StepsCopy,
  IsEndedAs,
  IsNumberOf,
  IsOfNone,
  IsOfFile,
  IsOfParts,
  MayStepCopy,
  SparesAll,
  TakesTurn,
  copy_begun,
  holding_of,
  job_begun,
}

-- ---- numbers of two holdings

not_file : (a b : ℕ) (file : FileHold) → IsNotOfFile b file → IsOfFile a file → b ≢ a
not_file a b hold.Nothing apart never = absurd never
not_file a b (hold.Asked ticket kind) apart is = λ same. apart (same ∙ is)
not_file a b (hold.Opened grant) apart is = λ same. apart (same ∙ is)

not_parts : (a b : ℕ) (parts : List Part) → IsNotOfParts b parts → IsOfParts a parts → b ≢ a
not_parts a b [] apart never = absurd never
not_parts a b (part ∷ later) (ne, apart) (inl is) = λ same. ne (same ∙ is)
not_parts a b (part ∷ later) (ne, apart) (inr is) = not_parts a b later apart is

others_ne : (a b : ℕ) (h : HoldingValue) → IsOfOthers b h → IsNumberOf a h → b ≢ a
others_ne a b h others (inl is) = not_file a b h.file others.file is
others_ne a b h others (inr is) = not_parts a b h.parts others.parts is

file_by : (b : ℕ) (file : FileHold) → ((a : ℕ) → IsOfFile a file → b ≢ a) → IsNotOfFile b file
file_by b hold.Nothing ne = tt
file_by b (hold.Asked ticket kind) ne = ne ticket refl
file_by b (hold.Opened grant) ne = ne grant.id refl

parts_by : (b : ℕ) (parts : List Part) → ((a : ℕ) → IsOfParts a parts → b ≢ a) → IsNotOfParts b parts
parts_by b [] ne = tt
parts_by b (part ∷ later) ne = (ne part.ticket (inl refl), parts_by b later (λ a is. ne a (inr is)))

disjoint_sym : (g h : HoldingValue) → AreDisjoint h g → AreDisjoint g h
disjoint_sym g h apart id is =
    let ne : (a : ℕ) → IsNumberOf a h → id ≢ a = λ a of same. others_ne id a g (apart a of) is (sym same) in
    record { file = file_by id h.file (λ a of. ne a (inl of)); parts = parts_by id h.parts (λ a of. ne a (inr of)) }

-- ---- what stands under them

held_place : (core : Core) (ticket : ℕ) (kind : Expected) → HoldsTicket core ticket kind → (place : IdRecord)
    × (record_at core ticket ≡ Some place)
held_place core ticket kind h = by_place (record_at core ticket) refl
  where
    by_place : (p : Option IdRecord) → record_at core ticket ≡ p → (place : IdRecord)
        × (record_at core ticket ≡ Some place)
    by_place (Some place) is = (place, is)
    by_place None is = (let gone = subst (λ (x : Option IdRecord). IsTrue (is_ticket x)) is h.counted in absurd cc)

file_place : (core : Core) (file : FileHold) (id : ℕ) → IsFileHeld core file → IsOfFile id file → (place : IdRecord)
    × (record_at core id ≡ Some place)
file_place core hold.Nothing id held never = absurd never
file_place core (hold.Asked ticket kind) id held is =
    (let here = held_place core ticket kind held in (here.0, ap (λ n. record_at core n) is ∙ here.1))
file_place core (hold.Opened grant) id held is = (Granted grant.handle 1, ap (λ n. record_at core n) is ∙ held)

part_place : (core : Core) (file : FileHold) (parts : List Part) (id : ℕ) → ArePartsHeld core file parts
    → IsOfParts id parts
    → (place : IdRecord) × (record_at core id ≡ Some place)
part_place core file [] id held never = absurd never
part_place core file (part ∷ later) id (h, p, f, own, held) (inl is) =
    (let here = held_place core part.ticket part.kind h in (here.0, ap (λ n. record_at core n) is ∙ here.1))
part_place core file (part ∷ later) id (h, p, f, own, held) (inr is) = part_place core file later id held is

of_place : (core : Core) (h : HoldingValue) (id : ℕ) → HoldsAll core h → IsNumberOf id h → (place : IdRecord)
    × (record_at core id ≡ Some place)
of_place core h id held (inl is) = file_place core h.file id held.file is
of_place core h id held (inr is) = part_place core h.file h.parts id held.parts is

-- ---- over what another does

file_still : (old new : Core) (file : FileHold) → ((id : ℕ) → IsOfFile id file → record_at new id ≡ record_at old id)
    → IsFileHeld old file → IsFileHeld new file
file_still old new hold.Nothing same held = tt
file_still old new (hold.Asked ticket kind) same held = holds_still old new ticket kind (same ticket refl) held
file_still old new (hold.Opened grant) same held = same grant.id refl ∙ held

parts_still : (old new : Core) (file : FileHold) (parts : List Part)
    → ((id : ℕ) → IsOfParts id parts → record_at new id ≡ record_at old id)
    → ArePartsHeld old file parts → ArePartsHeld new file parts
parts_still old new file [] same held = tt
parts_still old new file (part ∷ later) same (h, p, f, own, held) = (
  holds_still old new part.ticket part.kind (same part.ticket (inl refl)) h,
  p,
  f,
  own,
  parts_still old new file later (λ id is. same id (inr is)) held,
)

holds_over : (old new : Core) (before after h : HoldingValue) → SparesIds before after old new → AreDisjoint h before
    → HoldsAll old h → HoldsAll new h × AreDisjoint h after
holds_over old new before after h spares apart held =
    let same : (id : ℕ) → IsNumberOf id h → record_at new id ≡ record_at old id =
    λ id is. (let place = of_place old h id held is in (spares.places id place.0 (apart id is) place.1).0 ∙ sym place.1)
    in (
      record {
        file = file_still old new h.file (λ id is. same id (inl is)) held.file;
        parts = parts_still old new h.file h.parts (λ id is. same id (inr is)) held.parts;
      },
      λ id is. (let place = of_place old h id held is in (spares.places id place.0 (apart id is) place.1).1),
    )

held_of : (core : Core) (s : CopyState) → MayStepCopy core s → HoldsAll core (holding_of s)
held_of core (state.Get g) may = may.getting.held
held_of core (state.Put p) may = may.putting.held

go_over : (core after : Core) (s : CopyState) → (IsSome (info_of core.phase) → IsSome (info_of after.phase))
    → HoldsAll after (holding_of s) → MayStepCopy core s → MayStepCopy after s
go_over core after (state.Get g) stays held may = record {
  getting = record { opened = stays may.getting.opened; held = held; stands = may.getting.stands };
  going = may.going;
}
go_over core after (state.Put p) stays held may = record {
  putting = record { opened = stays may.putting.opened; held = held; stands = may.putting.stands };
  going = may.going;
}

together_over : {F : Type 0} (core after : Core) (before next : HoldingValue) (rs : List (Running F))
    → SparesIds before next core after
    → AreApartFrom before rs → AreTogether core rs → AreTogether after rs × AreApartFrom next rs
together_over core after before next [] spares apart all = (tt, tt)
together_over core after before next (r ∷ later) spares (disjoint, apart) (may, own, all) =
    let both = holds_over core after before next (holding_of r.state) spares disjoint (held_of core r.state may) in
    let below = together_over core after before next later spares apart all in
    let stays : IsSome (info_of core.phase) → IsSome (info_of after.phase) =
    λ open_now. subst (λ (p : Handshake). IsSome (info_of p)) (sym spares.phase) open_now in
    ((go_over core after r.state stays both.0 may, own, below.0), (both.1, below.1))

-- over a turn of the session
pub together_kept : {F : Type 0} (core after : Core) (rs : List (Running F)) → KeepsHeld core after
    → AreTogether core rs → AreTogether after rs
together_kept core after [] keeps all = tt
together_kept core after (r ∷ later) keeps (may, own, all) = (
  go_over core after r.state keeps.grants.opened (all_over core after (holding_of r.state) keeps
      (held_of core r.state may)) may,
  own,
  together_kept core after later keeps all,
)

-- ---- one more, last

apart_last : {F : Type 0} (h : HoldingValue) (rs : List (Running F)) (r : Running F) → AreApartFrom h rs
    → AreDisjoint (holding_of r.state) h → AreApartFrom h (rs ++ r ∷ [])
apart_last h [] r apart disjoint = (disjoint, tt)
apart_last h (first ∷ later) r (here, apart) disjoint = (here, apart_last h later r apart disjoint)

together_last : {F : Type 0} (core : Core) (rs : List (Running F)) (r : Running F) → AreTogether core rs
    → AreApartFrom (holding_of r.state) rs → MayStepCopy core r.state → AreTogether core (rs ++ r ∷ [])
together_last core [] r all apart may = (may, tt, tt)
together_last core (first ∷ later) r (first_may, own, all) (disjoint, apart) may = (
  first_may,
  apart_last (holding_of first.state) later r own (disjoint_sym (holding_of r.state) (holding_of first.state) disjoint),
  together_last core later r all apart may,
)

apart_none : {F : Type 0} (rs : List (Running F)) → AreApartFrom nothing_held rs
apart_none [] = tt
apart_none (r ∷ later) = (λ id is. record { file = tt; parts = tt }, apart_none later)

begun_held : (way : Direction) (window : ℕ) (job : CopyJob) → holding_of (copy_begun way window job) ≡ nothing_held
begun_held way.Get window job = refl
begun_held way.Put window job = refl

pub together_begun : {F : Type 0} (core : Core) (rs new : List (Running F)) (job : CopyJob) (local : F) (s : CopyState)
    (window : ℕ)
    → s ≡ job_begun job window → MayStepCopy core s → new ≡ rs ++ record { job = job; local = local; state = s } ∷ []
    → AreTogether core rs → AreTogether core new
together_begun {F = F} core rs new job local s window is may now all =
    let none : holding_of s ≡ nothing_held = ap holding_of is ∙ begun_held job.way window job in
    let apart = subst (λ (h : HoldingValue). AreApartFrom h rs) (sym none) (apart_none rs) in
    subst (λ (l : List (Running F)). AreTogether core l) (sym now)
    (together_last core rs (record { job = job; local = local; state = s }) all apart may)

-- ---- the first one takes a step

pub turn_taken : {F H : Type 0} (done : LocalAct → H → H) (history : F → H) (core after : Core)
    (old later new : List (Running F))
    (copy next : Running F) (result : Progress) → old ≡ copy ∷ later → new ≡ later ++ next ∷ []
    → StepsCopy done history core copy after next result → TakesTurn done history core old after new result
turn_taken done history core after old later new copy next result first now goes =
    record { copy = copy; later = later; next = next; first = first; now = now; goes = goes }

pub together_stepped : {F H : Type 0} (done : LocalAct → H → H) (history : F → H) (core after : Core)
    (old later new : List (Running F))
    (copy next : Running F) (result : Progress) → old ≡ copy ∷ later → new ≡ later ++ next ∷ []
    → StepsCopy done history core copy after next result → MayStepCopy after next.state → AreTogether core old
    → AreTogether after new
together_stepped {F = F} done history core after old later new copy next result first now goes may all =
    let here = subst (λ (l : List (Running F)). AreTogether core l) first all in
    let both = together_over core after (holding_of copy.state) (holding_of next.state) later goes.spares here.1 here.2
    in
    subst (λ (l : List (Running F)). AreTogether after l) (sym now) (together_last after later next both.0 both.1 may)

pub turn_ended : {F H : Type 0} (done : LocalAct → H → H) (history : F → H) (core mid after : Core)
    (old later : List (Running F))
    (copy last : Running F) (result : Result ℕ CopyError) (copied : Copied F) → old ≡ copy ∷ later
    → StepsCopy done history core copy mid last (progress.Ended result) → IsEndedAs last result copied
    → SparesIds (holding_of last.state) nothing_held mid after → EndsTurn done history core old after later copied
turn_ended done history core mid after old later copy last result copied first goes ended spent = record {
  copy = copy;
  later = later;
  last = last;
  mid = mid;
  first = first;
  now = refl;
  goes = subst (λ (x : Result ℕ CopyError). StepsCopy done history core copy mid last (progress.Ended x)) (sym ended.is)
      goes;
  ended = record { job = ended.job; local = ended.local; is = refl };
  spent = spent;
}

pub together_ended : {F H : Type 0} (done : LocalAct → H → H) (history : F → H) (core mid after : Core)
    (old later : List (Running F))
    (copy last : Running F) (result : Result ℕ CopyError) → old ≡ copy ∷ later
    → StepsCopy done history core copy mid last (progress.Ended result)
    → SparesIds (holding_of last.state) nothing_held mid after
    → AreTogether core old → AreTogether after later
together_ended {F = F} done history core mid after old later copy last result first goes spent all =
    let here = subst (λ (l : List (Running F)). AreTogether core l) first all in
    let both = together_over core mid (holding_of copy.state) (holding_of last.state) later goes.spares here.1 here.2 in
    (together_over mid after (holding_of last.state) nothing_held later spent both.1 both.0).0

-- ---- all are given up

pub record Cancelling {F : Type 0} (first core : Core) (all rs : List (Running F)) : Type 0 where
  pub together : AreTogether core rs
  pub places : (id : ℕ) (place : IdRecord) → IsOfNone id all → record_at first id ≡ Some place
      → (record_at core id ≡ Some place) × IsOfNone id rs
  pub phase : core.phase ≡ first.phase
  pub fault : core.fault ≡ first.fault

pub cancels_first : {F : Type 0} (core : Core) (all : List (Running F)) → AreTogether core all
    → Cancelling core core all all
cancels_first core all together = record {
  together = together;
  places = λ id place none here. (here, none);
  phase =
      refl;
  fault = refl;
}

pub cancels_may : {F : Type 0} (first core : Core) (all rs : List (Running F)) (r : Running F)
    (later : List (Running F))
    → Cancelling first core all rs → rs ≡ r ∷ later → MayStepCopy core r.state
cancels_may {F = F} first core all rs r later c is = (subst (λ (l : List (Running F)). AreTogether core l) is
    c.together).0

pub cancels_next : {F : Type 0} (first core after : Core) (all rs : List (Running F)) (r : Running F)
    (later : List (Running F))
    → Cancelling first core all rs → rs ≡ r ∷ later → SparesIds (holding_of r.state) nothing_held core after
    → Cancelling first after all later
cancels_next {F = F} first core after all rs r later c is spares =
    let here = subst (λ (l : List (Running F)). Cancelling first core all l) is c in
    record {
      together = (together_over core after (holding_of r.state) nothing_held later spares here.together.1
          here.together.2).0;
      places = λ id place none at_first. (let now = here.places id place none at_first in
          ((spares.places id place now.1.0 now.0).0, now.1.1));
      phase = spares.phase ∙ here.phase;
      fault = spares.fault ∙ here.fault;
    }

pub cancels_all : {F : Type 0} (first core : Core) (all rs : List (Running F)) → Cancelling first core all rs
    → SparesAll all first core
cancels_all first core all rs c =
    record { places = λ id place none here. (c.places id place none here).0; phase = c.phase; fault = c.fault }
