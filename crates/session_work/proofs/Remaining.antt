-- What is left to do, as a journal goes on.
use Rattle.std.proofs.Common.{◌≡◌, ◌≢◌, ◌<◌, ◌≤◌, ◌+◌, ◌-◌, ◌*◌, ℕ, zero, suc, List, [], ◌∷◌, Option, Some, refl, ap, sym, ◌∙◌, subst, arith, ne_eqb}
use Rattle.std.specs.Prelude.{drop, length, slice_get}
use Rattle.std.proofs.lemmas.List.{length-append}
use Rattle.sftp_model.specs.declared.outcome.Outcome.{Outcome}
use Rattle.sftp_model.specs.declared.request.Request.{Request}
use Rattle.sftp_model.specs.declared.slot.Facts.{Facts}
use Rattle.sftp_model.specs.declared.slot.Move.{Move}
use Rattle.sftp_model.specs.declared.slot.Move.TheVariants.{Ask}
use Rattle.plan_model.specs.GoodMoves.{FitsCall, FitsFacts}
use Rattle.plan_model.specs.Moves.{Own}
use Rattle.plan_model.specs.OwnRequests.{oldest_first}
use Rattle.plan_model.specs.RequestCounts.{AsksBelow, work as most_requests}
use Rattle.plan_model.proofs.AskedLaws.{asked_work}
use Rattle.plan_model.proofs.AskedReads.{oldest_length}
use Rattle.plan_model.specs.declared.call.Call.{Call}
use Rattle.plan_model.specs.declared.call.Lane.{Lane}
use Rattle.session_model.specs.declared.event.Event.TheVariants.{End, Submit}
use Rattle.session_model.specs.declared.event.Owner.TheVariants as owner
use Rattle.session_model.specs.declared.entry.Entry.{Entry}
use Rattle.session_model.specs.declared.entry.Entry.TheVariants as entry
use Rattle.session_model.specs.Readings.{answer, count_ended, own}
use Rattle.session_model.specs.Calls.{Setting, current, move_at, move_of, site_of}
use Rattle.session_model.specs.Journals.{IsJournal}
use Rattle.session_model.proofs.CallLaws.{ended_end, ended_other, own_other, own_submit}
use Rattle.session_model.proofs.CallsSoFar.{calls_so_far}
use Rattle.session_work.specs.Working.{calls_left, lane_left, lanes_left}
use Rattle.session_work.proofs.BufferLaws.{buffers_within}
use Rattle.plan_model.specs.CallPlans.{next}

-- ---- a call asks within its work

-- where a lane's call asks, it has made fewer requests than it makes at most
pub asks_within : (s : Setting) (past : List Entry) (lane : ℕ) (c : Call) (r : Request) → FitsCall c → FitsFacts s.facts
    → IsJournal s past → current s past lane ≡ Some c → move_of s past lane ≡ Some (Ask r)
    → length (own past lane (count_ended past lane)) < most_requests c s.facts
asks_within s past lane c r fits fit j is move =
    let requests : Own = own past lane (count_ended past lane) in
    let plan : Own → Move = λ o. next c (site_of s past lane) s.facts o (answer past) in
    let goes = calls_so_far s past lane c j is in
    let moves : move_at (Some c) (site_of s past lane) s.facts requests (answer past) ≡ Some (Ask r) =
    ap (λ (x : Option Call). move_at x (site_of s past lane) s.facts requests (answer past)) (sym is) ∙ move in
    let asks : plan (oldest_first goes.requests) ≡ Ask r = ap plan goes.are
    ∙ (let now : plan requests ≡ Ask r = cc moves in now) in
    let below = asked_work c (site_of s past lane) s.facts goes.requests (answer past) fits fit
    (buffers_within s past lane fit j) goes.so_far in
    let fewer : length goes.requests < most_requests c s.facts =
    subst (AsksBelow (length goes.requests) (most_requests c s.facts)) asks below in
    subst (λ (n : ℕ). n < most_requests c s.facts) (sym (oldest_length goes.requests) ∙ ap length goes.are) fewer

-- ---- sums

pub left_alike : (facts : Facts) (past now : List Entry) (lanes : List Lane) (n : ℕ)
    → ((l : Lane) (m : ℕ) → lane_left facts now l m ≡ lane_left facts past l m) → lanes_left facts now lanes n
    ≡ lanes_left facts past lanes n
left_alike facts past now [] n same = refl
left_alike facts past now (l ∷ lanes) n same = λ i. same l n i + left_alike facts past now lanes (suc n) same i

less_here : (a b c d e : ℕ) → b + e ≤ a → c ≡ d → b + c + e ≤ a + d
less_here a b c d e le same = omega (arith, le, same)

less_there : (a b c d e : ℕ) → b ≡ a → c + e ≤ d → b + c + e ≤ a + d
less_there a b c d e same le = omega (arith, same, le)

-- where one lane has less left by so much, all have
pub left_less : (facts : Facts) (past now : List Entry) (lanes : List Lane) (n k m d : ℕ) (lane : Lane)
    → slice_get lanes k ≡ Some lane → n + k ≡ m → ((l : Lane) (w : ℕ) → m ≢ w → lane_left facts now l w
    ≡ lane_left facts past l w)
    → lane_left facts now lane m + d ≤ lane_left facts past lane m
    → lanes_left facts now lanes n + d ≤ lanes_left facts past lanes n
left_less facts past now [] n k m d lane here sum others less = absurd cc
left_less facts past now (l ∷ lanes) n zero m d lane here sum others less =
    (let is : l ≡ lane = cc in
    let at_n : m ≡ n = omega (arith, sum) in
    less_here (lane_left facts past l n) (lane_left facts now l n) (lanes_left facts now lanes (suc n))
    (lanes_left facts past lanes (suc n)) d
    (subst (λ (x : Lane). lane_left facts now x n + d ≤ lane_left facts past x n) (sym is)
    (subst (λ (w : ℕ). lane_left facts now lane w + d ≤ lane_left facts past lane w) at_n less))
    (rest lanes (suc n) (omega (arith, sum))))
  where
    rest : (xs : List Lane) (w : ℕ) → m < w → lanes_left facts now xs w ≡ lanes_left facts past xs w
    rest [] w lt = refl
    rest (x ∷ xs) w lt = λ i. others x w (λ e. omega (arith, e, lt)) i + rest xs (suc w) (omega (arith, lt)) i
left_less facts past now (l ∷ lanes) n (suc k) m d lane here sum others less =
    less_there (lane_left facts past l n) (lane_left facts now l n) (lanes_left facts now lanes (suc n))
    (lanes_left facts past lanes (suc n)) d (others l n (λ e. omega (arith, e, sum)))
    (left_less facts past now lanes (suc n) k m d lane here (omega (arith, sum)) others less)

-- ---- entries

-- a CLOSE of the session leaves what the lanes have to do
pub close_left : (facts : Facts) (past : List Entry) (lanes : List Lane) (n id : ℕ) (r : Request)
    → lanes_left facts (entry.Event (Submit owner.Close id r) ∷ past) lanes n ≡ lanes_left facts past lanes n
close_left facts past lanes n id r = left_alike facts past (entry.Event (Submit owner.Close id r) ∷ past) lanes n
    (λ l m. refl)

-- the calls from this one on are it and those behind it
pub drop_at : {A : Type 0} (xs : List A) (n : ℕ) (x : A) → slice_get xs n ≡ Some x → drop n xs ≡ x ∷ drop (suc n) xs
drop_at [] n x is = absurd cc
drop_at (y ∷ xs) zero x is = let same : y ≡ x = cc in ap (λ z. z ∷ xs) same
drop_at (y ∷ xs) (suc n) x is = drop_at xs n x is

asked_sum : (most made rest : ℕ) → made < most → 1 + 4 * (most - (made + 1)) + rest + 4 ≤ 1 + 4 * (most - made) + rest
asked_sum most made rest lt = omega (arith, lt)

-- a call with one request more has four less to do
asked_by : (facts : Facts) (calls rest : List Call) (c : Call) (made now : ℕ) → calls ≡ c ∷ rest → now ≡ made + 1
    → made < most_requests c facts → calls_left facts calls now + 4 ≤ calls_left facts calls made
asked_by facts calls rest c made now is more lt =
    subst (λ (xs : List Call). calls_left facts xs now + 4 ≤ calls_left facts xs made) (sym is)
    (subst (λ (n : ℕ). calls_left facts (c ∷ rest) n + 4 ≤ calls_left facts (c ∷ rest) made) (sym more)
    (asked_sum (most_requests c facts) made (calls_left facts rest 0) lt))

-- so a request of a lane's call makes four less
pub asked_left : (facts : Facts) (past : List Entry) (lanes : List Lane) (lane id : ℕ) (r : Request) (l : Lane)
    (c : Call) → slice_get lanes lane ≡ Some l → slice_get l.calls (count_ended past lane) ≡ Some c
    → length (own past lane (count_ended past lane)) < most_requests c facts
    → lanes_left facts (entry.Event (Submit (owner.Call lane (count_ended past lane)) id r) ∷ past) lanes 0 + 4 ≤
    lanes_left facts past lanes 0
asked_left facts past lanes lane id r l c here at fewer = left_less facts past now lanes 0 lane lane 4 l here
    (omega arith) others mine
  where
    n : ℕ
    n = count_ended past lane

    now : List Entry
    now = entry.Event (Submit (owner.Call lane n) id r) ∷ past

    others : (x : Lane) (w : ℕ) → lane ≢ w → lane_left facts now x w ≡ lane_left facts past x w
    others x w ne = ap (λ (o : Own). calls_left facts (drop (count_ended past w) x.calls) (length o))
        (own_other past (owner.Call lane n) id r w (count_ended past w) (rw (ne_eqb lane w ne) refl))

    one_more : length (own now lane n) ≡ length (own past lane n) + 1
    one_more = ap length (own_submit past lane n id r) ∙ length-append (own past lane n) (_ ∷ [])

    mine : lane_left facts now l lane + 4 ≤ lane_left facts past l lane
    mine = asked_by facts (drop n l.calls) (drop (suc n) l.calls) c (length (own past lane n)) (length (own now lane n))
        (drop_at l.calls n c at) one_more fewer

ended_sum : (most made rest : ℕ) → rest + 1 ≤ 1 + 4 * (most - made) + rest
ended_sum most made rest = omega arith

-- the calls behind a call have one less to do, where the next one has made no request
ended_by : (facts : Facts) (calls rest : List Call) (c : Call) (made now : ℕ) → calls ≡ c ∷ rest → now ≡ 0
    → calls_left facts rest now + 1 ≤ calls_left facts calls made
ended_by facts calls rest c made now is none =
    subst (λ (xs : List Call). calls_left facts rest now + 1 ≤ calls_left facts xs made) (sym is)
    (subst (λ (n : ℕ). calls_left facts rest n + 1 ≤ calls_left facts (c ∷ rest) made) (sym none)
    (ended_sum (most_requests c facts) made (calls_left facts rest 0)))

-- so its end makes one less
pub ended_left : (facts : Facts) (past : List Entry) (lanes : List Lane) (lane : ℕ) (o : Outcome) (l : Lane) (c : Call)
    → slice_get lanes lane ≡ Some l → slice_get l.calls (count_ended past lane) ≡ Some c
    → own (entry.Event (End lane (count_ended past lane) o) ∷ past) lane (count_ended past lane + 1) ≡ []
    → lanes_left facts (entry.Event (End lane (count_ended past lane) o) ∷ past) lanes 0 + 1 ≤ lanes_left facts past
    lanes
    0
ended_left facts past lanes lane o l c here at none = left_less facts past now lanes 0 lane lane 1 l here (omega arith)
    others mine
  where
    n : ℕ
    n = count_ended past lane

    now : List Entry
    now = entry.Event (End lane n o) ∷ past

    others : (x : Lane) (w : ℕ) → lane ≢ w → lane_left facts now x w ≡ lane_left facts past x w
    others x w ne = ap (λ (k : ℕ). calls_left facts (drop k x.calls) (length (own past w k)))
        (ended_other past lane n w o ne)

    behind : suc n ≡ count_ended now lane
    behind = (let more = ended_end past lane n o in omega (arith, more))

    mine : lane_left facts now l lane + 1 ≤ lane_left facts past l lane
    mine = ended_by facts (drop n l.calls) (drop (count_ended now lane) l.calls) c (length (own past lane n))
        (length (own now lane (count_ended now lane))) (drop_at l.calls n c at
        ∙ ap (λ (k : ℕ). c ∷ drop k l.calls) behind)
        (ap (λ (k : ℕ). length (own now lane k)) (ended_end past lane n o) ∙ ap length none)
