-- What the calls of a journal ask: each request fits a frame, and a call asks for one handle at most.
use Rattle.std.proofs.Common.{◌≡◌, ◌<◌, ◌≤◌, ◌^◌, ℕ, ◌+◌, Bool, true, false, List, [], length, Option, Some, None, refl, sym, subst, arith}
use Rattle.std.proofs.lemmas.Bool.{ltb-false}
use Rattle.sftp_model.specs.declared.file_attrs.FileAttrs.{FileAttrs}
use Rattle.sftp_model.specs.declared.request.Request.{Request}
use Rattle.sftp_model.specs.declared.request.Request.TheVariants as request
use Rattle.sftp_model.specs.Fits.{FitsHandle, FitsRequest, AsksWithinReply}
use Rattle.sftp_model.specs.Frames.{attributes, bit, request_body}
use Rattle.sftp_model.specs.Numbers.{MAX_BODY_LEN, MAX_TRANSFER_LEN}
use Rattle.sftp_model.specs.declared.slot.Facts.{Facts}
use Rattle.sftp_model.specs.declared.slot.Move.TheVariants.{Ask}
use Rattle.sftp_model.specs.declared.slot.Site.{Site}
use Rattle.sftp_wire.proofs.Lengths.{lengths, length-attributes}
use Rattle.plan_model.specs.Moves.{Answers, Own}
use Rattle.plan_model.specs.declared.call.Call.TheVariants as call
use Rattle.plan_model.specs.GoodMoves as good
use Rattle.plan_model.specs.GoodMoves.{Situation, IsGoodAsk, HandlesFit, ReadsWithin, WithinRange, MayCloseGrant, situation}
use Rattle.plan_model.specs.OwnRequests.{oldest_first, IsCallSoFar}
use Rattle.plan_model.proofs.AskedReads.{whole_range}
use Rattle.plan_model.proofs.CallLaws.{asks_good}
use Rattle.plan_model.proofs.FitLaws.{FitsSituation, ask_fits, ask_within_reply}
use Rattle.plan_model.specs.declared.call.Call.{Call}
use Rattle.session_model.specs.declared.entry.Entry.{Entry}
use Rattle.session_model.specs.Readings.{answer, own, count_ended}
use Rattle.session_model.specs.Calls.{Setting, current, site_of, move_at, move_of, GoesByPlan}
use Rattle.session_model.specs.Journals.{IsJournal}
use Rattle.session_model.proofs.CallsSoFar.{calls_so_far}
use Rattle.session_model.proofs.PlannedLaws.{planned_fits}
use Rattle.session_model.proofs.WithinLaws.{calls_ok, current_within}
use Rattle.plan_model.specs.Lanes.{are_ok}
use Rattle.plan_model.specs.CallPlans.{next}

-- neither the hello nor the query for limits
abbrev pub IsOrdinary : Request → Type 0
IsOrdinary (request.Init version) = ⊥
IsOrdinary request.LimitsQuery = ⊥
IsOrdinary other = Unit {0}

-- a request of a call, or a CLOSE, which fits a frame
pub record FitsCall (r : Request) : Type 0 where
  pub ordinary : IsOrdinary r
  pub fits : FitsRequest r
  pub within : AsksWithinReply r
  pub short : length (request_body r 0) ≤ MAX_BODY_LEN

close_short : (handle : List ℕ) → FitsHandle handle → length (request_body (request.Close handle) 0) ≤ MAX_BODY_LEN
unfolding request_body
close_short handle f = let l : length (request_body (request.Close handle) 0) ≡ length handle + 9 =
    simp lengths (omega arith) in omega (arith, l, f)

pub close_call : (handle : List ℕ) → FitsHandle handle → FitsCall (request.Close handle)
close_call handle f = record { ordinary = tt; fits = f; within = tt; short = close_short handle f }

-- ---- lengths

-- a request is as long under each id
pub body_len : (r : Request) (id : ℕ) → IsOrdinary r → length (request_body r id) ≡ length (request_body r 0)
unfolding request_body
body_len (request.Init version) id o = absurd o
body_len request.LimitsQuery id o = absurd o
body_len other id o = simp lengths refl

bit_le : {A : Type 0} (n : ℕ) (o : Option A) → bit n o ≤ n
bit_le n None = omega arith
bit_le n (Some x) = omega arith

attributes_le : (a : FileAttrs) → length (attributes a) ≤ 32
attributes_le a = omega (
  arith,
  length-attributes a,
  bit_le 8 a.size,
  bit_le 8 a.id,
  bit_le 4 a.permissions,
  bit_le 8 a.time,
)

good_short : (s : Situation) (r : Request) → FitsSituation s → FitsRequest r → IsGoodAsk s r
    → length (request_body r 0) ≤ MAX_BODY_LEN
unfolding request_body
good_short s (request.Init version) k f g = absurd g
good_short s request.LimitsQuery k f g = absurd g
good_short s (request.Close handle) k f g = close_short handle f
good_short s (request.Read handle offset len) k f g = let l : length (request_body (request.Read handle offset len) 0)
    ≡ length handle + 21 = simp lengths (omega arith) in omega (arith, l, f.0)
good_short s (request.Write handle offset content) k f g =
    let l : length (request_body (request.Write handle offset content) 0) ≡ length handle + length content + 21 =
    simp lengths (omega arith) in omega (arith, l, f.0, g.2, k.write_len)
good_short s (request.Fstat handle) k f g = let l : length (request_body (request.Fstat handle) 0) ≡ length handle + 9 =
    simp lengths (omega arith) in omega (arith, l, f)
good_short s (request.Fsync handle) k f g = let l : length (request_body (request.Fsync handle) 0)
    ≡ length handle + 30 = simp lengths (omega arith) in omega (arith, l, f)
good_short s (request.Readdir handle) k f g = let l : length (request_body (request.Readdir handle) 0)
    ≡ length handle + 9 = simp lengths (omega arith) in omega (arith, l, f)
good_short s (request.Fsetstat handle attrs) k f g =
    let l : length (request_body (request.Fsetstat handle attrs) 0) ≡ length handle + 9 + length (attributes attrs) =
    simp lengths (omega arith) in omega (arith, l, f.0, attributes_le attrs)
good_short s (request.CopyData from from_offset len to to_offset) k f g =
    let l : length (request_body (request.CopyData from from_offset len to to_offset) 0)
    ≡ length from + length to + 50 = simp lengths (omega arith) in omega (arith, l, f.0, f.3)
good_short s (request.OpenFile path flags attrs) k f g = ltb-false _ _ g.3
good_short s (request.Opendir path) k f g = ltb-false _ _ g.1
good_short s (request.Setstat path attrs) k f g = ltb-false _ _ g.1
good_short s (request.Mkdir path attrs) k f g = ltb-false _ _ g.1
good_short s other k f g = ltb-false _ _ g

-- ---- what calls ask

-- the lengths of a session are those that one frame can bring, and its window is bounded
pub record LensFit (facts : Facts) : Type 0 where
  pub some : 1 ≤ facts.read_len
  pub read_len : facts.read_len ≤ MAX_TRANSFER_LEN
  pub write_len : facts.write_len ≤ MAX_TRANSFER_LEN
  pub read_window : facts.read_window ≤ 64

closes_fit : (c : Call) (site : Site) (requests : Own) (answers : Answers) → HandlesFit answers → (handle : List ℕ)
    → MayCloseGrant c site requests answers handle → FitsHandle handle
closes_fit (call.Close slot) site requests answers f handle c = subst FitsHandle (sym c.bears) (f c.grant)
closes_fit other site requests answers f handle c = absurd c

situation_fits : (c : Call) (site : Site) (facts : Facts) (requests : Own) (answers : Answers) → good.FitsCall c
    → LensFit facts → HandlesFit answers → FitsSituation (situation c site facts requests answers)
situation_fits c site facts requests answers fits k f = record {
  numbers = fits;
  grants = f;
  closed = closes_fit c site requests answers f;
  read_len = k.read_len;
  write_len =
      k.write_len;
}

good_fits : (s : Situation) (r : Request) → FitsSituation s → IsGoodAsk s r → FitsCall r
good_fits s r k g = record {
  ordinary = ordinary r g;
  fits = ask_fits s r k g;
  within = ask_within_reply s r k g;
  short = good_short s r k (ask_fits s r k g) g;
}
  where
    ordinary : (q : Request) → IsGoodAsk s q → IsOrdinary q
    ordinary (request.Init version) g = absurd g
    ordinary request.LimitsQuery g = absurd g
    ordinary other g = tt

-- a call so far asks within the range
range_so_far : (c : Call) (site : Site) (facts : Facts) (past : Own) (answers : Answers) → good.FitsCall c
    → LensFit facts → IsCallSoFar c site facts past answers → WithinRange c site facts (oldest_first past) answers
range_so_far (call.FsRead path bound) site facts past answers fits k so_far =
    whole_range path (Some bound) site facts past answers k.some k.read_len small (λ e. absurd cc) so_far.asked
    so_far.answered
  where
    small : (made n : ℕ) → (let b : Option ℕ = Some bound in b) ≡ Some n → made < n + facts.read_window → made < 2 ^ 43
    small made n same few = let is : bound ≡ n = cc in let under : bound < 2 ^ 32 = fits in
        omega (arith, is, few, k.read_window, under)
range_so_far other site facts past answers fits k so_far = tt

-- so does one that asks for anything but a READ
range_unread : (c : Call) (site : Site) (facts : Facts) (requests : Own) (answers : Answers) (r : Request)
    → next c site facts requests answers ≡ Ask r → ReadsWithin facts (Ask r) → WithinRange c site facts requests answers
range_unread (call.FsRead path bound) site facts requests answers r is h = subst (ReadsWithin facts) (sym is) h
range_unread other site facts requests answers r is h = tt

-- what a lane's call asks may be asked in its situation
record AsksWell (s : Setting) (past : List Entry) (lane : ℕ) (r : Request) : Type 0 where
  call : Call
  now : current s past lane ≡ Some call
  good : IsGoodAsk (situation call (site_of s past lane) s.facts (own past lane (count_ended past lane)) (answer past))
      r

asks_well : (s : Setting) (past : List Entry) (lane : ℕ) (r : Request)
    → ((c : Call) → current s past lane ≡ Some c → next c (site_of s past lane) s.facts
    (own past lane (count_ended past lane)) (answer past) ≡ Ask r →
    WithinRange c (site_of s past lane) s.facts (own past lane (count_ended past lane)) (answer past))
    → move_of s past lane ≡ Some (Ask r) → AsksWell s past lane r
asks_well s past lane r within e = by_call (current s past lane) refl e
  where
    by_call : (c : Option Call) → current s past lane ≡ c → move_at c (site_of s past lane) s.facts
        (own past lane (count_ended past lane)) (answer past) ≡ Some (Ask r) → AsksWell s past lane r
    by_call None at e = absurd cc
    by_call (Some c) at e =
        let is : next c (site_of s past lane) s.facts (own past lane (count_ended past lane)) (answer past) ≡ Ask r =
        cc e in
        record {
          call = c;
          now = at;
          good = asks_good c (site_of s past lane) s.facts
              (own past lane (count_ended past lane)) (answer past) r (within c at is) is;
        }

pub asks_fit : (s : Setting) (past : List Entry) (lane : ℕ) (r : Request) → are_ok s.lanes ≡ true → IsJournal s past
    → HandlesFit (answer past) → LensFit s.facts → move_of s past lane ≡ Some (Ask r) → FitsCall r
asks_fit s past lane r ok j h k e =
    let a : AsksWell s past lane r = asks_well s past lane r within e in
    good_fits _ r (situation_fits (a.call) (site_of s past lane) s.facts (own past lane (count_ended past lane))
    (answer past) (fits a.call a.now) k h) a.good
  where
    fits : (c : Call) → current s past lane ≡ Some c → good.FitsCall c
    fits c at = planned_fits c (current_within s past lane c (calls_ok s.lanes ok) j at)

    within : (c : Call) → current s past lane ≡ Some c → next c (site_of s past lane) s.facts
        (own past lane (count_ended past lane)) (answer past) ≡ Ask r
        → WithinRange c (site_of s past lane) s.facts (own past lane (count_ended past lane)) (answer past)
    within c at is =
        let g : GoesByPlan s past lane c = calls_so_far s past lane c j at in
        subst (λ (o : Own). WithinRange c (site_of s past lane) s.facts o (answer past)) g.are
        (range_so_far c (site_of s past lane) s.facts g.requests (answer past) (fits c at) k g.so_far)

-- the request asks for a handle
abbrev pub asks_handle : Request → Bool
asks_handle (request.OpenFile path flags attrs) = true
asks_handle (request.Opendir path) = true
asks_handle other = false

-- a call asks for a handle by its first request alone
pub asks_first : (s : Setting) (past : List Entry) (lane : ℕ) (r : Request) → move_of s past lane ≡ Some (Ask r)
    → asks_handle r ≡ true → own past lane (count_ended past lane) ≡ []
asks_first s past lane r e asks =
    let a : AsksWell s past lane r =
    asks_well s past lane r (λ c at is. range_unread c (site_of s past lane) s.facts
    (own past lane (count_ended past lane)) (answer past) r is (unread r asks)) e in
    first (situation (a.call) (site_of s past lane) s.facts (own past lane (count_ended past lane)) (answer past)) r
    a.good asks
  where
    unread : (q : Request) → asks_handle q ≡ true → ReadsWithin s.facts (Ask q)
    unread (request.Read handle offset len) e = absurd cc
    unread other e = tt

    first : (w : Situation) (q : Request) → IsGoodAsk w q → asks_handle q ≡ true → w.own ≡ []
    first w (request.OpenFile path flags attrs) g e = g.0
    first w (request.Opendir path) g e = g.0
    first w other g e = absurd cc
