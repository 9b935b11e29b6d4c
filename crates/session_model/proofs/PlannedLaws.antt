-- What the laws of the plans say of a lane's calls. A further call whose numbers have a range is one line of
-- `planned_fits`.
use Rattle.std.proofs.Common.{
  ◌≡◌,
  ◌≤◌,
  ◌+◌,
  ◌++◌,
  ℕ,
  zero,
  suc,
  Bool,
  true,
  false,
  List,
  [],
  ◌∷◌,
  Option,
  Some,
  None,
  refl,
  ap,
  sym,
  ◌∙◌,
  subst,
  arith,
  if◌then◌else◌,
  inl,
  inr,
}
use Rattle.std.specs.Prelude.{◌⊎◌, ◌||◌, ◌&&◌, IfSome, nat_le, slice_set, slice_index_or}
use Rattle.std.proofs.lemmas.Bool.{and_parts}
use Rattle.std.proofs.lemmas.Bool.Decides.{nat_tests}
use Rattle.std.specs.List.{list_any}
use Rattle.sftp_model.specs.declared.outcome.Outcome.{Outcome}
use Rattle.sftp_model.specs.declared.outcome.Outcome.TheVariants as outcome
use Rattle.sftp_model.specs.declared.reply.Reply.{Reply}
use Rattle.sftp_model.specs.declared.request.Request.{Request}
use Rattle.sftp_model.specs.declared.request.Request.TheVariants as request
use Rattle.sftp_model.specs.declared.slot.Facts.{Facts}
use Rattle.sftp_model.specs.declared.slot.Move.TheVariants.{Ask, Done}
use Rattle.sftp_model.specs.declared.slot.Site.{Site}
use Rattle.sftp_model.specs.declared.slot.Slot.{Slot}
use Rattle.sftp_model.specs.declared.slot.Slot.TheVariants.{Empty, File, Buffered}
use Rattle.sftp_model.specs.Fits.{FitsLong, FitsNumber, FitsSet}
use Rattle.sftp_model.specs.Slots.{slot_at, with_slot, slot_has, has_grant}
use Rattle.plan_model.specs.Moves.{Answers, Own, once_answered, done_by}
use Rattle.plan_model.specs.FilePlans.{close_slot_next}
use Rattle.plan_model.specs.GoodMoves.{FitsCall, WithinRange, ReadsWithin, IsBrought, ClosesGrant, MayBringGrant, MayCloseGrant}
use Rattle.plan_model.proofs.CallLaws.{asks_good, done_holds}
use Rattle.plan_model.proofs.CancelLaws.{cancelled_holds}
use Rattle.plan_model.proofs.MoveLaws.{by_status}
use Rattle.plan_model.proofs.SlotLaws.{set_has}
use Rattle.sftp_model.specs.declared.open_options.OpenOptions.{OpenOptions}
use Rattle.sftp_model.specs.OpenOptions.{flags_of}
use Rattle.plan_model.specs.declared.call.Call.{Call}
use Rattle.plan_model.specs.declared.call.Call.TheVariants as call
use Rattle.plan_model.specs.Lanes.{fits_u64, is_short, is_slot, is_some_long, is_within}
use Rattle.session_model.specs.Calls.{held_by, move_at}
use Rattle.plan_model.specs.CallPlans.{site_after_cancel, next}

-- ---- the numbers of a call fit their fields

if_le : (b : Bool) (n : ℕ) → (if b then n else 0) ≤ n
if_le true n = omega arith
if_le false n = omega arith

making_le : (a b c : Bool) → (if a then 8 + 32 else if b then 8 + 16 else if c then 8 else 0) ≤ 40
making_le true b c = omega arith
making_le false true c = omega arith
making_le false false true = omega arith
making_le false false false = omega arith

flags_fit : (o : OpenOptions) → FitsSet (flags_of o).0
flags_fit o =
    let r = if_le o.read 1 in
    let w = if_le (o.write || o.append) 2 in
    let a = if_le o.append 4 in
    let m = making_le o.create_new (o.create && o.truncate) o.create in
    omega (arith, r, w, a, m)

long_fits : (n : ℕ) → fits_u64 n ≡ true → FitsLong n
long_fits n e = grind (arith, nat_tests)

short_fits : (n : ℕ) → is_short n ≡ true → FitsNumber n
short_fits n e = grind (arith, nat_tests)

size_fits : (size : Option ℕ) → is_some_long size ≡ true → IfSome size FitsLong
size_fits None e = tt
size_fits (Some n) e = long_fits n e

pub planned_fits : (c : Call) → is_within c ≡ true → FitsCall c
planned_fits (call.OpenFile slot flags path) e = flags_fit flags
planned_fits (call.SetLen slot n) e = long_fits n (and_parts (is_slot slot) (fits_u64 n) e).1
planned_fits (call.SetStat path size perm) e = size_fits size e
planned_fits (call.FsRead path bound) e = short_fits bound (and_parts (nat_le 1 bound) (is_short bound) e).1
planned_fits other e = tt

-- ---- what a call holds

-- where what is set has the grant as what it replaces has, nothing changes
set_alike : (g : ℕ) (slots : List Slot) (k : ℕ) (new : Slot) → slot_has g new
    ≡ slot_has g (slice_index_or slots k Empty) → list_any (slot_has g) (slice_set slots k new)
    ≡ list_any (slot_has g) slots
set_alike g [] k new e = refl
set_alike g (slot ∷ slots) zero new e = ap (λ b. b || list_any (slot_has g) slots) e
set_alike g (slot ∷ slots) (suc k) new e = ap (λ b. slot_has g slot || b) (set_alike g slots k new e)

empty_less : (g : ℕ) (site : Site) (k : ℕ) → has_grant (with_slot site k Empty) g ≡ true → has_grant site g ≡ true
empty_less g site k e = elim (set_has g site.slots k Empty e) [ inl was ↦ was | inr is ↦ absurd cc ]

-- within a call a lane holds no other grant
pub held_less : (c : Option Call) (own : Own) (site : Site) (g : ℕ) → has_grant (held_by c own site) g ≡ true
    → has_grant site g ≡ true
held_less None own site g e = e
held_less (Some (call.Close slot)) [] site g e = e
held_less (Some (call.Close slot)) (a ∷ later) site g e = empty_less g site slot e
held_less (Some other) own site g e = e

-- nor with one request more
pub held_more : (c : Option Call) (b : Bool) (own : Own) (new : ℕ × Request) (site : Site) (g : ℕ)
    → has_grant (held_by c (if b then own ++ new ∷ [] else own) site) g ≡ true → has_grant (held_by c own site) g ≡ true
held_more c false own new site g e = e
held_more None true own new site g e = e
held_more (Some (call.Close slot)) true [] new site g e = empty_less g site slot e
held_more (Some (call.Close slot)) true (a ∷ later) new site g e = e
held_more (Some other) true own new site g e = e

-- ---- what a call leaves

-- what a call brings came with its first request
brought_first : (c : Call) (own : Own) (answers : Answers) (g : ℕ) → MayBringGrant c own answers g
    → IsBrought own answers g
brought_first (call.OpenFile slot flags path) own answers g b = b
brought_first (call.FsRead path bound) own answers g b = b
brought_first (call.FsWrite path bytes) own answers g b = b
brought_first (call.List path bound) own answers g b = b
brought_first other own answers g b = absurd b

-- a `close` that has asked leaves its slot empty
grant_left : (emptied : Site) (place : ℕ) (got : Option Reply) (o : Outcome) (left : Site)
    → once_answered place got (done_by emptied) ≡ Done o left → emptied ≡ left
grant_left emptied place None o left is = absurd cc
grant_left emptied place (Some r) o left is = by_status (λ m. m ≡ Done o left → emptied ≡ left) r emptied
    (Done outcome.Done emptied) (λ n same. cc) (λ same. cc) is

close_has : (slot : ℕ) (site : Site) (a : ℕ × Request) (later : Own) (answers : Answers) (g : ℕ) (o : Outcome)
    (left : Site) (x : Slot) → slot_at site slot ≡ x
    → close_slot_next slot site (a ∷ later) answers x ≡ Done o left → has_grant left g ≡ true
    → has_grant (with_slot site slot Empty) g ≡ true
close_has slot site a later answers g o left Empty at is h = let same : site ≡ left = cc in
    set_alike g site.slots slot Empty (ap (slot_has g) (sym at)) ∙ ap (λ y. has_grant y g) same ∙ h
close_has slot site a later answers g o left (File file) at is h =
    ap (λ y. has_grant y g) (grant_left (with_slot site slot Empty) a.0 (answers a.0) o left is) ∙ h
close_has slot site a later answers g o left (Buffered file buffer) at is h =
    ap (λ y. has_grant y g) (grant_left (with_slot site slot Empty) a.0 (answers a.0) o left is) ∙ h

-- a grant that a call leaves was held within the call, or the call's first request brought it
abbrev pub LeavesHeld : Call → Own → Site → Answers → ℕ → Type 0
LeavesHeld c own site answers g = (has_grant (held_by (Some c) own site) g ≡ true) ⊎ IsBrought own answers g

pub done_has : (c : Call) (site : Site) (facts : Facts) (own : Own) (answers : Answers) (g : ℕ) (o : Outcome)
    (left : Site) → next c site facts own answers ≡ Done o left → has_grant left g ≡ true
    → LeavesHeld c own site answers g
done_has c site facts own answers g o left is h =
    elim (done_holds c site facts own answers o left is g h) [
      | inl was ↦ inl (still c own is was)
      | inr came ↦ inr (brought_first c own answers g came)
    ]
  where
    still : (d : Call) (asked : Own) → next d site facts asked answers ≡ Done o left → has_grant site g ≡ true
        → has_grant (held_by (Some d) asked site) g ≡ true
    still (call.Close slot) [] is was = was
    still (call.Close slot) (a ∷ later) is was = close_has slot site a later answers g o left (slot_at site slot) refl
        is h
    still other asked is was = was

pub cancelled_has : (c : Call) (site : Site) (facts : Facts) (own : Own) (answers : Answers) (g : ℕ)
    → has_grant (site_after_cancel c site facts own answers) g ≡ true → has_grant (held_by (Some c) own site) g ≡ true
cancelled_has (call.Close slot) site facts [] answers g e = e
cancelled_has (call.Close slot) site facts (a ∷ later) answers g e = e
cancelled_has other site facts own answers g e = cancelled_holds other site facts own answers g e

-- ---- what asks for a CLOSE

-- a call that asks for a CLOSE is within the range
close_within : (c : Call) (site : Site) (facts : Facts) (own : Own) (answers : Answers) (handle : List ℕ)
    → next c site facts own answers ≡ Ask (request.Close handle) → WithinRange c site facts own answers
close_within (call.FsRead path bound) site facts own answers handle is = subst (ReadsWithin facts) (sym is) tt
close_within other site facts own answers handle is = tt

-- a call that asks for a CLOSE: a `close` whose slot alone has the grant
abbrev pub AsksClose : Option Call → Site → Own → Answers → List ℕ → Type 0
AsksClose c site own answers handle = (slot : ℕ) × ((c ≡ Some (call.Close slot))
    × ClosesGrant slot site own answers handle)

pub asks_close : (c : Option Call) (site : Site) (facts : Facts) (own : Own) (answers : Answers) (handle : List ℕ)
    → move_at c site facts own answers ≡ Some (Ask (request.Close handle)) → AsksClose c site own answers handle
asks_close None site facts own answers handle e = absurd cc
asks_close (Some c) site facts own answers handle e =
    let is : next c site facts own answers ≡ Ask (request.Close handle) = cc e in
    by_call c (asks_good c site facts own answers (request.Close handle)
    (close_within c site facts own answers handle is) is)
  where
    by_call : (d : Call) → MayCloseGrant d site own answers handle → AsksClose (Some d) site own answers handle
    by_call (call.Close slot) may = (slot, (refl, may))
    by_call other may = absurd may
