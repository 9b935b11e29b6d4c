-- The calls of lanes that are ok are within their ranges, and so are those that were added.
use Rattle.std.proofs.Common.{◌≡◌, ℕ, zero, suc, Bool, true, false, ◌==◌, ◌++◌, List, [], ◌∷◌, Some, refl, subst, if◌then◌else◌}
use Rattle.std.specs.Prelude.{nat_lt, slice_get}
use Rattle.std.specs.List.{list_all, sum_by}
use Rattle.std.proofs.lemmas.Bool.{and_parts}
use Rattle.plan_model.specs.declared.call.Call.{Call}
use Rattle.plan_model.specs.declared.call.Lane.{Lane}
use Rattle.session_model.specs.declared.entry.Entry.{Entry}
use Rattle.session_model.specs.declared.entry.Entry.TheVariants as entry
use Rattle.session_model.specs.Calls.{Setting, calls_added_to, calls_of, current}
use Rattle.session_model.specs.Journals.{IsJournal}
use Rattle.plan_model.specs.Lanes.{are_ok, is_within, lane_weight, weight_limit}
use Rattle.session_model.specs.Readings.{count_ended}
use Rattle.session_model.proofs.HolderLaws.{may_of}

-- each of these calls is within its ranges
abbrev AreWithin : List Call → Type 0
AreWithin calls = (k : ℕ) (c : Call) → slice_get calls k ≡ Some c → is_within c ≡ true

none_within : AreWithin []
none_within k c e = absurd cc

more_within : (calls : List Call) (c : Call) → is_within c ≡ true → AreWithin calls → AreWithin (c ∷ calls)
more_within calls c is all zero d e = let same : c ≡ d = cc in subst (λ (x : Call). is_within x ≡ true) same is
more_within calls c is all (suc k) d e = all k d e

both_within : (a b : List Call) → AreWithin a → AreWithin b → AreWithin (a ++ b)
both_within [] b x y = y
both_within (c ∷ a) b x y = more_within (a ++ b) c (x zero c refl) (both_within a b (λ k d e. x (suc k) d e) y)

tested_within : (calls : List Call) → list_all is_within calls ≡ true → AreWithin calls
tested_within [] e = none_within
tested_within (c ∷ calls) e = let p = and_parts (is_within c) (list_all is_within calls) e in
    more_within calls c p.0 (tested_within calls p.1)

-- the calls that were handed in
handed_in : (lanes : List Lane) (k : ℕ) → list_all (λ lane. list_all is_within lane.calls) lanes ≡ true
    → AreWithin (calls_of (slice_get lanes k))
handed_in [] k e = none_within
handed_in (lane ∷ lanes) zero e = tested_within lane.calls (and_parts (list_all is_within lane.calls)
    (list_all (λ (l : Lane). list_all is_within l.calls) lanes) e).0
handed_in (lane ∷ lanes) (suc k) e = handed_in lanes k (and_parts (list_all is_within lane.calls)
    (list_all (λ (l : Lane). list_all is_within l.calls) lanes) e).1

-- and those that were added
if_added : (b : Bool) (calls : List Call) (c : Call) → AreWithin calls → is_within c ≡ true
    → AreWithin (if b then calls ++ c ∷ [] else calls)
if_added true calls c all is = both_within calls (c ∷ []) all (more_within [] c is none_within)
if_added false calls c all is = all

were_added : (s : Setting) (past : List Entry) (lane : ℕ) → IsJournal s past → AreWithin (calls_added_to past lane)
were_added s [] lane j = none_within
were_added s (entry.Added l c ∷ past) lane j =
    let may = may_of s past (entry.Added l c) j.0 (λ g m. cc (m.1.1)) (λ k same. cc same) in
    if_added (l == lane) (calls_added_to past lane) c (were_added s past lane j.1) may.2
were_added s (_ ∷ past) lane j = were_added s past lane j.1

-- the call of a lane of a run so far
pub current_within : (s : Setting) (past : List Entry) (lane : ℕ) (c : Call)
    → list_all (λ (l : Lane). list_all is_within l.calls) s.lanes ≡ true → IsJournal s past → current s past lane
    ≡ Some c → is_within c ≡ true
current_within s past lane c ok j e = both_within (calls_of (slice_get s.lanes lane)) (calls_added_to past lane)
    (handed_in s.lanes lane ok) (were_added s past lane j) (count_ended past lane) c e

-- lanes that are ok have such calls
pub calls_ok : (lanes : List Lane) → are_ok lanes ≡ true → list_all (λ (l : Lane). list_all is_within l.calls) lanes
    ≡ true
calls_ok lanes e = (and_parts (list_all (λ (l : Lane). list_all is_within l.calls) lanes)
    (nat_lt (sum_by lane_weight lanes) weight_limit) e).0
