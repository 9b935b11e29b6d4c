-- What is kept of each lane for the report, as a journal goes on.
use Rattle.std.proofs.Common.{
  ◌≡◌,
  ◌<◌,
  ◌≤◌,
  ℕ,
  zero,
  suc,
  true,
  false,
  List,
  [],
  ◌∷◌,
  ◌++◌,
  Option,
  Some,
  None,
  length,
  take,
  refl,
  ap,
  sym,
  ◌∙◌,
  subst,
  arith,
  inl,
  inr,
}
use Rattle.std.specs.Prelude.{Result, Ok, Err, OnErr, replicate, slice_get, slice_index_or, slice_set}
use Rattle.std.proofs.Math.Seq.{take-length, take-suc}
use Rattle.std.proofs.lemmas.Bool.Decides.{eqb_tells}
use Rattle.std.proofs.lemmas.List.{get_or-set_other, get_or-set_same, length-replicate, length-set}
use Rattle.std.proofs.lemmas.Option.{get_or_from_slice_get}
use Rattle.sftp_model.specs.declared.error.Fault.{Fault}
use Rattle.sftp_model.specs.declared.outcome.Outcome.{Outcome}
use Rattle.sftp_model.specs.declared.outcome.Outcome.TheVariants as outcome
use Rattle.session_model.specs.declared.event.Event.TheVariants.{Cancel, End}
use Rattle.session_model.specs.declared.entry.Entry.{Entry}
use Rattle.session_model.specs.declared.entry.Entry.TheVariants as entry
use Rattle.session_model.specs.Readings.{outcomes_below, outcomes_of, was_let_go}
use Rattle.session_work.specs.declared.lane.Moved.{Moved}
use Rattle.session_work.specs.declared.lane.Moved.TheVariants as moved
use Rattle.session_work.specs.declared.lanes.Lanes.{Lanes}
use Rattle.session_work.specs.Reports.{
  AreReports,
  HasReports,
  LaneReport,
  LaneReports,
  LeavesReports,
  ended_past,
  lane_report,
  report_in,
  reports_of,
  with_moved,
  with_outcome,
}
use Rattle.session_work.specs.SoFar.{HasRoom, IsIntact, IsLeft, refused_past}
use Rattle.session_work.specs.Working.{past_of}
use Rattle.session_work.proofs.AddedLaws.{set_twice}

-- ---- lists

-- an item of a list of one value is that value
alike_at : {A : Type 0} (n k : ℕ) (x : A) → slice_index_or (replicate n x) k x ≡ x
alike_at zero k x = refl
alike_at (suc n) zero x = refl
alike_at (suc n) (suc k) x = alike_at n k x

-- the list of a lane was taken out, and put back with the outcome behind it
pub put_back : (lists : List (List Outcome)) (lane : ℕ) (list : List Outcome) (o : Outcome) → slice_get lists lane
    ≡ Some list → slice_set (slice_set lists lane []) lane (list ++ o ∷ []) ≡ with_outcome lists lane o
put_back lists lane list o is = set_twice lists lane [] (list ++ o ∷ [])
    ∙ sym (ap (λ (x : List Outcome). slice_set lists lane (x ++ o ∷ [])) (get_or_from_slice_get lists lane list [] is))

-- ---- what an entry tells

-- nothing is told at the start
none_told : (n : ℕ) → AreReports (record { outcomes = replicate n []; let_go = replicate n false }) []
none_told n lane = λ i. record { outcomes = alike_at n lane [] i; let_go = alike_at n lane false i }

-- the end of a call is the last outcome of its lane
end_told : (kept : LaneReports) (past : List Entry) (lane call : ℕ) (o : Outcome) → lane < length kept.outcomes
    → AreReports kept past → AreReports (record kept { outcomes = with_outcome kept.outcomes lane o })
    (entry.Event (End lane call o) ∷ past)
end_told kept past lane call o lt are w =
    (let at : slice_index_or (with_outcome kept.outcomes lane o) w []
    ≡ outcomes_of (entry.Event (End lane call o) ∷ past) w = elim (eqb_tells lane w) [
      | inl t ↦ rw t.0 (ap (λ (k : ℕ). slice_index_or (with_outcome kept.outcomes lane o) k []) (sym t.1)
          ∙ get_or-set_same kept.outcomes lane _ [] lt ∙ ap (λ (r : LaneReport). r.outcomes ++ o ∷ []) (are lane)
          ∙ ap (λ (k : ℕ). outcomes_of past k ++ o ∷ []) t.1)
      | inr t ↦ rw t.0 (get_or-set_other kept.outcomes lane w _ [] (λ e. t.1 (sym e))
          ∙ ap (λ (r : LaneReport). r.outcomes) (are w))
    ] in
    λ i. record { outcomes = at i; let_go = (are w i).let_go })

-- a lane is marked that was let go
go_told : (kept : LaneReports) (past : List Entry) (lane : ℕ) → lane < length kept.let_go → AreReports kept past
    → AreReports (record kept { let_go = slice_set kept.let_go lane true }) (entry.LetGo lane ∷ past)
go_told kept past lane lt are w =
    (let at : slice_index_or (slice_set kept.let_go lane true) w false ≡ was_let_go (entry.LetGo lane ∷ past) w =
    elim (eqb_tells lane w) [
      | inl t ↦ rw t.0 (ap (λ (k : ℕ). slice_index_or (slice_set kept.let_go lane true) k false) (sym t.1)
          ∙ get_or-set_same kept.let_go lane true false lt)
      | inr t ↦ rw t.0 (get_or-set_other kept.let_go lane w true false (λ e. t.1 (sym e))
          ∙ ap (λ (r : LaneReport). r.let_go) (are w))
    ] in
    λ i. record { outcomes = (are w i).outcomes; let_go = at i })

-- a turn keeps what is noted of it
moved_told : (kept : LaneReports) (past : List Entry) (lane call : ℕ) (m : Moved) → lane < length kept.outcomes
    → AreReports kept past → AreReports (record kept { outcomes = with_moved kept.outcomes lane m })
    (ended_past lane call m past)
moved_told kept past lane call (moved.Ended o) lt are = end_told kept past lane call o lt are
moved_told kept past lane call moved.Waits lt are = are
moved_told kept past lane call moved.Went lt are = are
moved_told kept past lane call (moved.Asked id r) lt are = are

moved_count : (lists : List (List Outcome)) (lane : ℕ) (m : Moved) → length (with_moved lists lane m) ≡ length lists
moved_count lists lane (moved.Ended o) = length-set lists lane _
moved_count lists lane moved.Waits = refl
moved_count lists lane moved.Went = refl
moved_count lists lane (moved.Asked id r) = refl

-- a fault tells nothing of a lane
pub refused_told : (fault : Option Fault) (past : List Entry) (lane : ℕ) → lane_report (refused_past fault past) lane
    ≡ lane_report past lane
refused_told None past lane = refl
refused_told (Some fault) past lane = refl

-- the outcomes are those of the first lanes, as many as there are
pub all_told : (kept : LaneReports) (past : List Entry) → AreReports kept past → kept.outcomes
    ≡ outcomes_below past (length kept.outcomes)
all_told kept past are = sym (take-length kept.outcomes) ∙ first (length kept.outcomes) (omega arith)
  where
    first : (n : ℕ) → n ≤ length kept.outcomes → take n kept.outcomes ≡ outcomes_below past n
    first zero le = refl
    first (suc n) le = take-suc kept.outcomes n [] (omega (arith, le))
        ∙ (λ i. first n (omega (arith, le)) i ++ (are n i).outcomes ∷ [])

-- ---- the lanes

pub leaves_on : (told : List Entry) (a b c : Lanes) → HasReports told a b → LeavesReports b c → HasReports told a c
leaves_on told a b c x y = record { kept = y.kept ∙ x.kept; past = λ lane. y.past lane ∙ x.past lane }

pub left_on : (a b c : Lanes) → IsLeft a b → IsLeft b c → IsLeft a c
left_on a b c x y = record {
  past = y.past ∙ x.past;
  fault = y.fault ∙ x.fault;
  reports = y.reports ∙ x.reports;
  calls = y.calls ∙ x.calls;
}

-- want of memory left both
pub left_err : {T E : Type 0} (r : Result T E) (old new : Lanes) → past_of new ≡ past_of old → new.core.fault
    ≡ old.core.fault → reports_of new ≡ reports_of old → new.calls ≡ old.calls → OnErr r (IsLeft old new)
left_err (Ok x) old new past fault reports calls = tt
left_err (Err e) old new past fault reports calls = record {
  past = past;
  fault = fault;
  reports = reports;
  calls =
      calls;
}

-- so many lanes have done nothing
pub fresh_intact : (n : ℕ) (w : Lanes) → w.outcomes ≡ replicate n [] → w.gone ≡ replicate n false → past_of w ≡ []
    → HasRoom w → IsIntact n w
fresh_intact n w lists marks none room =
    record {
      room = room;
      lists = ap length lists ∙ length-replicate n [];
      marks = ap length marks ∙ length-replicate n false;
      reports = λ lane. (λ i. report_in (record { outcomes = lists i; let_go = marks i }) lane) ∙ none_told n lane
          ∙ sym (ap (λ (p : List Entry). lane_report p lane) none);
    }

-- lanes are intact where what is kept is what the journal tells,
told_intact : (n : ℕ) (told : List Entry) (old new : Lanes) → HasReports told old new → length old.outcomes ≡ n
    → length old.gone ≡ n → AreReports (reports_of old) told → HasRoom new → IsIntact n new
told_intact n told old new h lists marks are room =
    record {
      room = room;
      lists = ap (λ (k : LaneReports). length k.outcomes) h.kept ∙ lists;
      marks = ap (λ (k : LaneReports). length k.let_go) h.kept ∙ marks;
      reports = λ lane. ap (λ (k : LaneReports). report_in k lane) h.kept ∙ are lane ∙ sym (h.past lane);
    }

-- so also where neither has changed,
pub leaves_intact : (n : ℕ) (old new : Lanes) → IsIntact n old → LeavesReports old new → HasRoom new → IsIntact n new
leaves_intact n old new i h room = told_intact n (past_of old) old new h i.lists i.marks i.reports room

pub left_intact : (n : ℕ) (old new : Lanes) → IsIntact n old → IsLeft old new → HasRoom new → IsIntact n new
left_intact n old new i left room = leaves_intact n old new i
    (record { kept = left.reports; past = λ lane. ap (λ (past : List Entry). lane_report past lane) left.past }) room

-- where a turn was kept and noted,
pub noted_intact : (n lane call : ℕ) (m : Moved) (old mid new : Lanes) (lists : List (List Outcome)) → IsIntact n old
    → IsLeft old mid → HasRoom mid → lane < n → lists ≡ with_moved mid.outcomes lane m
    → HasReports (ended_past lane call m (past_of mid)) (record mid { outcomes = lists }) new → HasRoom new
    → IsIntact n new
noted_intact n lane call m old mid new lists before left mid_room lt kept h room =
    (let was : IsIntact n mid = left_intact n old mid before left mid_room in
    let count = was.lists in
    told_intact n (ended_past lane call m (past_of mid)) (record mid { outcomes = lists }) new h
    (ap length kept ∙ moved_count mid.outcomes lane m ∙ was.lists) was.marks
    (subst (λ (xs : List (List Outcome)). AreReports (record { outcomes = xs; let_go = mid.gone })
    (ended_past lane call m (past_of mid))) (sym kept) (moved_told (reports_of mid) (past_of mid) lane call m
    (omega (arith, lt, count)) was.reports)) room)

-- where a call was cancelled,
pub cancelled_intact : (n lane call : ℕ) (old mid new : Lanes) → IsIntact n old → lane < n → mid.outcomes
    ≡ with_outcome old.outcomes lane outcome.Cancelled → mid.gone ≡ old.gone
    → past_of mid ≡ entry.Event (End lane call outcome.Cancelled) ∷ entry.Event (Cancel lane) ∷ past_of old
    → LeavesReports mid new → HasRoom new → IsIntact n new
cancelled_intact n lane call old mid new before lt kept same past h room =
    (let count = before.lists in
    told_intact n (past_of mid) mid new h (ap length kept ∙ length-set old.outcomes lane _ ∙ before.lists)
    (ap length same ∙ before.marks)
    (λ k. (λ i. report_in (record { outcomes = kept i; let_go = same i }) k)
    ∙ end_told (reports_of old) (entry.Event (Cancel lane) ∷ past_of old) lane call outcome.Cancelled
    (omega (arith, lt, count)) before.reports k ∙ sym (ap (λ (p : List Entry). lane_report p k) past)) room)

-- or a lane was let go
pub let_go_intact : (n lane : ℕ) (old mid new : Lanes) → IsIntact n old → lane < n → mid.outcomes ≡ old.outcomes
    → mid.gone ≡ slice_set old.gone lane true → past_of mid ≡ entry.LetGo lane ∷ past_of old → LeavesReports mid new
    → HasRoom new → IsIntact n new
let_go_intact n lane old mid new before lt same marked past h room =
    (let count = before.marks in
    told_intact n (past_of mid) mid new h (ap length same ∙ before.lists)
    (ap length marked ∙ length-set old.gone lane true ∙ before.marks)
    (λ k. (λ i. report_in (record { outcomes = same i; let_go = marked i }) k)
    ∙ go_told (reports_of old) (past_of old) lane (omega (arith, lt, count)) before.reports k
    ∙ sym (ap (λ (p : List Entry). lane_report p k) past)) room)
