-- A session can be run by a script that was read.
use Rattle.std.proofs.Common.{◌≡◌, ◌<◌, ◌≤◌, ℕ, ◌+◌, Bool, true, false, List, [], ◌∷◌, Result, Ok, Err, if◌then◌else◌, refl, subst, arith, length}
use Rattle.std.specs.Prelude.{◌*◌, ◌&&◌, nat_lt}
use Rattle.std.specs.List.{list_all, sum_by}
use Rattle.std.proofs.lemmas.Bool.Decides.{nat_tests}
use Rattle.plan_model.specs.Lanes.{are_ok, lane_weight, weight_limit}
use Rattle.script_words.specs.declared.reason.Reason.{Reason}
use Rattle.script_words.specs.declared.reason.Reason.TheVariants as reason
use Rattle.script_grammar.specs.declared.script.Script.{Script}
use Rattle.script_grammar.specs.CanRun.{CanRun}
use Rattle.script_words.specs.Lines.{go_on, is_comment, line_of, lines_of, read_by, read_line, words_of}
use Rattle.script_grammar.specs.Setup.{Draft, setup_line}
use Rattle.script_grammar.specs.Scripts.{MAX_SCRIPT_LEN, empty_script, line_by, read_lines, script_in, script_of, session_line}
use Rattle.script_grammar.proofs.CallLaws.{both_true}
use Rattle.script_words.proofs.FitCounts.{line_cost, lines_cost, lines_fit, words_fit, words_len}
use Rattle.script_grammar.proofs.LaneLaws.{Within, lane_ok, roomier, session_keeps}
use Rattle.script_grammar.proofs.LineLaws.{Keeps, if_keeps, or_keeps}
use Rattle.script_grammar.proofs.SetupLaws.{Sound, setup_keeps}
use Rattle.script_grammar.proofs.Steps.{script_read}

-- a line whose words after the first are together at most k bytes long
line_keeps : (n k : ℕ) (d : Draft) (words : List (List ℕ)) → words_len words ≤ k → Sound (Within n) d.script
    → Keeps (Sound (Within (n + (65 + k)))) (line_of line_by d words)
line_keeps n k d [] le h = record { is = roomier n (65 + k) d h }
line_keeps n k d (word ∷ words) le h =
    or_keeps (setup_line d word words) (session_line d word words)
    (setup_keeps (Within (n + (65 + k))) d word words (roomier n (65 + k) d h))
    (session_keeps n k d word words (omega (arith, le)) h)

go_keeps : (script : Script) (m number : ℕ) (n : ℕ) (r : Result Draft Reason) (rest : Draft → Result Draft (ℕ × Reason))
    → Keeps (Sound (Within n)) r → ((d : Draft) → Sound (Within n) d.script → script_in (rest d) ≡ Ok script
    → Sound (Within m) script)
    → script_in (go_on number r rest) ≡ Ok script → Sound (Within m) script
go_keeps script m number n (Ok d) rest k h e = h d k.is e
go_keeps script m number n (Err why) rest k h e = absurd cc

-- the lanes counted at most n before these lines
lines_keep : (script : Script) (m n number : ℕ) (d : Draft) (lines : List (List ℕ)) → n + lines_cost lines ≤ m
    → Sound (Within n) d.script
    → read_lines number d lines ≡ Ok script → Sound (Within m) script
lines_keep script m n number d [] le h e =
    let is : d.script ≡ script = cc e in
    subst (λ (s : Script). Sound (Within m) s) is (
      h.0,
      h.1,
      h.2,
      h.3,
      record { ok = h.4.ok; count = let c = h.4.count in omega (arith, c, le) },
    )
lines_keep script m n number d (line ∷ lines) le h e =
    go_keeps script m number (n + line_cost line) (read_line line_by d line)
    (λ next. read_by line_by (number + 1) next lines)
    (if_keeps (is_comment line) (Ok d) (line_of line_by d (words_of line))
    (record { is = roomier n (line_cost line) d h })
    (line_keeps n (length line) d (words_of line) (words_fit line) h))
    (λ next now is. lines_keep script m (n + line_cost line) (number + 1) next lines (omega (arith, le)) now is) e

by_size : (script : Script) (n : ℕ) (b : Bool) (r : Result Script (ℕ × Reason))
    → (b ≡ false → r ≡ Ok script → Sound (Within n) script) → (if b then Err (0, reason.Size) else r) ≡ Ok script
    → Sound (Within n) script
by_size script n true r h e = absurd cc
by_size script n false r h e = h refl e

at_most : (m n : ℕ) → nat_lt m n ≡ false → n ≤ m
at_most m n e = grind (arith, nat_tests)

less : (n m : ℕ) → n < m → nat_lt n m ≡ true
less n m h = grind (arith, nat_tests)

sound : (bytes : List ℕ) (script : Script) → script_of bytes ≡ Ok script → Sound (Within (MAX_SCRIPT_LEN * 66)) script
sound bytes script e =
    by_size script (MAX_SCRIPT_LEN * 66) (nat_lt MAX_SCRIPT_LEN (length bytes))
    (read_lines 1 (record { script = empty_script; named = [] }) (lines_of bytes))
    (λ short is. lines_keep script (MAX_SCRIPT_LEN * 66) 0 1 (record { script = empty_script; named = [] })
    (lines_of bytes)
    (let fit = lines_fit bytes in let most = at_most MAX_SCRIPT_LEN (length bytes) short in omega (arith, fit, most))
    (refl, omega arith, omega arith, refl, record { ok = refl; count = omega arith }) is) e

pub script_can_run : (bytes : List ℕ) (script : Script) → script_of bytes ≡ Ok script → CanRun script
script_can_run bytes script e =
    let s = sound bytes script e in
    let count = s.4.count in
    record {
      begins = s.0;
      known = s.1;
      writes = s.2;
      unfeigned = s.3;
      lanes = both_true (list_all lane_ok script.lanes) (nat_lt (sum_by lane_weight script.lanes) weight_limit) s.4.ok
          (less (sum_by lane_weight script.lanes) weight_limit (omega (arith, count)));
    }

-- the same of what the lines left
pub lines_can_run : (bytes : List ℕ) (d : Draft) → length bytes ≤ MAX_SCRIPT_LEN
    → read_by line_by 1 (record { script = empty_script; named = [] }) (lines_of bytes) ≡ Ok d → CanRun d.script
lines_can_run bytes d le read = script_can_run bytes d.script (script_read bytes d le read)
