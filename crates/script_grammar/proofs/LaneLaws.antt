-- Lanes that lines begin and fill are within their ranges, and count no more than the lines.
use Rattle.std.proofs.Common.{
  ◌≡◌,
  ◌≤◌,
  ℕ,
  ◌+◌,
  Bool,
  true,
  List,
  [],
  ◌∷◌,
  ◌++◌,
  Result,
  Ok,
  Err,
  if◌then◌else◌,
  refl,
  ◌∙◌,
  arith,
}
use Rattle.std.specs.Prelude.{◌&&◌, codes, Option, Some, None}
use Rattle.std.specs.List.{list_all, sum_by}
use Rattle.std.specs.Str.{bytes_eq}
use Rattle.std.proofs.lemmas.List.Sums.{sum_by-cons, sum_by-append}
use Rattle.std.proofs.lemmas.List.Folds.{list_all-append}
use Rattle.ssh_encoding.specs.Reading.{◌>>=◌}
use Rattle.plan_model.specs.declared.call.Lane.{Lane}
use Rattle.plan_model.specs.declared.call.Call.{Call}
use Rattle.plan_model.specs.Lanes.{is_within, weight, lane_weight}
use Rattle.script_words.specs.declared.reason.Reason.{Reason}
use Rattle.session_model.specs.declared.turn.Turn.{Turn}
use Rattle.script_words.specs.Lines.{greatest_u32, number_in}
use Rattle.script_grammar.specs.Setup.{Draft}
use Rattle.script_grammar.specs.Scripts.{with_lane, call_at_end, with_call, call_in, in_lane, call_line, lane_turn, session_line}
use Rattle.script_grammar.proofs.CallLaws.{Named, So, both_true, calls_named, first_true, fits, fits_light, fits_within}
use Rattle.script_words.proofs.FitCounts.{words_len}
use Rattle.script_grammar.proofs.LineLaws.{Keeps, bind_keeps, if_keeps, no_keeps, one_keeps}
use Rattle.script_grammar.proofs.SetupLaws.{Sound}

-- each call of a lane is within its ranges
abbrev pub lane_ok : Lane → Bool
lane_ok lane = list_all is_within lane.calls

-- lanes within their ranges, which count at most a number
pub record Within (n : ℕ) (lanes : List Lane) : Type 0 where
  pub ok : list_all lane_ok lanes ≡ true
  pub count : sum_by lane_weight lanes ≤ n

pub more : (n m : ℕ) (lanes : List Lane) → Within n lanes → Within (n + m) lanes
more n m lanes w = record { ok = w.ok; count = let h = w.count in omega (arith, h) }

-- ---- a call at the end

lane_ends : (lane : Lane) (c : Call) → lane_ok lane ≡ true → is_within c ≡ true
    → list_all is_within (lane.calls ++ c ∷ []) ≡ true
lane_ends lane c h k = list_all-append is_within lane.calls (c ∷ [])
    ∙ both_true (lane_ok lane) (is_within c && true) h (both_true (is_within c) true k refl)

lanes_end : (lanes : List Lane) (c : Call) → list_all lane_ok lanes ≡ true → is_within c ≡ true
    → list_all lane_ok (call_at_end lanes c) ≡ true
lanes_end [] c h k = refl
lanes_end (lane ∷ []) c h k = both_true (list_all is_within (lane.calls ++ c ∷ [])) true
    (lane_ends lane c (first_true (lane_ok lane) true h).0 k) refl
lanes_end (lane ∷ next ∷ lanes) c h k =
    let both = first_true (lane_ok lane) (list_all lane_ok (next ∷ lanes)) h in
    both_true (lane_ok lane) (list_all lane_ok (call_at_end (next ∷ lanes) c)) both.0
    (lanes_end (next ∷ lanes) c both.1 k)

-- the counts of lanes, each with a call more
weight_end : (calls : List Call) (c : Call) → sum_by weight (calls ++ c ∷ []) ≡ sum_by weight calls + weight c
weight_end calls c = let e = sum_by-append weight calls (c ∷ []) in omega (arith, e)

last_count : (lane : Lane) (c : Call) → sum_by lane_weight (record { calls = lane.calls ++ c ∷ [] } ∷ []) ≤ sum_by
    lane_weight (lane ∷ []) + weight c
last_count lane c = let more = weight_end lane.calls c in omega (arith, more)

lanes_count : (lanes : List Lane) (c : Call) → sum_by lane_weight (call_at_end lanes c) ≤ sum_by lane_weight lanes +
    weight c
lanes_count [] c = omega arith
lanes_count (lane ∷ []) c = last_count lane c
lanes_count (lane ∷ next ∷ lanes) c =
    let here = sum_by-cons lane_weight lane (call_at_end (next ∷ lanes) c) in
    let there = sum_by-cons lane_weight lane (next ∷ lanes) in
    let rest = lanes_count (next ∷ lanes) c in
    rw (here, there) (omega (arith, rest))

-- ---- lines

call_keeps : (n k : ℕ) (d : Draft) (read : Result Call Reason) → Sound (Within n) d.script → So (fits k) read
    → Keeps (Sound (Within (n + (65 + k)))) (read >>= λ c. Ok (with_call d c))
call_keeps n k d (Ok c) h named = record {
  is = (
    h.0,
    h.1,
    h.2,
    h.3,
    record {
      ok = lanes_end d.script.lanes c h.4.ok (fits_within k c named.is);
      count = let old = h.4.count in let l = lanes_count d.script.lanes c in let light = fits_light k c named.is in
          omega (arith, old, l, light);
    },
  );
}
call_keeps n k d (Err why) h named = record { is = tt }

lane_keeps : (n k : ℕ) (d : Draft) (lanes : List Lane) (read : Result Call Reason) → Sound (Within n) d.script
    → So (fits k) read
    → Keeps (Sound (Within (n + (65 + k)))) (in_lane d lanes read)
lane_keeps n k d [] read h named = record { is = tt }
lane_keeps n k d (lane ∷ lanes) read h named = call_keeps n k d read h named

calls_keep : (n k : ℕ) (d : Draft) (read : Option (Result Call Reason)) → Sound (Within n) d.script → Named k read
    → Keeps (Sound (Within (n + (65 + k)))) (call_line d read)
calls_keep n k d None h named = record { is = tt }
calls_keep n k d (Some read) h named = lane_keeps n k d d.script.lanes read h named.is

begun : (n k : ℕ) (lanes : List Lane) → Within n lanes → Within (n + (65 + k)) (lanes ++ record { calls = [] } ∷ [])
begun n k lanes w = record {
  ok = list_all-append lane_ok lanes (record { calls = [] } ∷ []) ∙ both_true (list_all lane_ok lanes) true w.ok refl;
  count = let h = w.count in let l = sum_by-append lane_weight lanes (record { calls = [] } ∷ []) in
      rw l (omega (arith, h));
}

turn_keeps : (L : List Lane → Type 0) (d : Draft) (of_lane : ℕ → Turn) (word : List ℕ) → Sound L d.script
    → Keeps (Sound L) (lane_turn d of_lane word)
turn_keeps L d of_lane word h = bind_keeps (number_in 0 greatest_u32 word) _ (λ n e. record { is = h })

-- with more room for what the lanes count
pub roomier : (n m : ℕ) (d : Draft) → Sound (Within n) d.script → Sound (Within (n + m)) d.script
roomier n m d h = (h.0, h.1, h.2, h.3, more n m d.script.lanes h.4)

-- a line whose words after the first are together at most k bytes long
pub session_keeps : (n k : ℕ) (d : Draft) (word : List ℕ) (words : List (List ℕ)) → words_len words ≤ k
    → Sound (Within n) d.script
    → Keeps (Sound (Within (n + (65 + k)))) (session_line d word words)
session_keeps n k d word words le h =
    let now : Sound (Within (n + (65 + k))) d.script = roomier n (65 + k) d h in
    if_keeps (bytes_eq word (codes "lane")) _ _ (no_keeps (with_lane d) words
    (h.0, h.1, h.2, h.3, begun n k d.script.lanes h.4))
    (if_keeps (bytes_eq word (codes "step")) _ _ (one_keeps _ words (λ a. turn_keeps (Within (n + (65 + k))) d _ a now))
    (if_keeps (bytes_eq word (codes "cancel")) _ _ (one_keeps _ words
    (λ a. turn_keeps (Within (n + (65 + k))) d _ a now))
    (if_keeps (bytes_eq word (codes "flush")) _ _ (no_keeps _ words now)
    (if_keeps (bytes_eq word (codes "take")) _ _ (no_keeps _ words now)
    (calls_keep n k d (call_in word words) h (calls_named k word words le))))))
