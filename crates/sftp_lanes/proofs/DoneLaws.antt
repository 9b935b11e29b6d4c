-- A lane has no call left where as many of its calls have ended as it has.
use Rattle.std.proofs.Common.{◌≡◌, ◌≤◌, ◌↔◌, ℕ, zero, suc, Bool, true, false, List, [], ◌∷◌, ◌++◌, Option, None, refl, ap, sym, ◌∙◌, subst, arith, length}
use Rattle.std.specs.Prelude.{IsTrue, nat_le, slice_get, slice_index_or}
use Rattle.std.proofs.lemmas.Bool.Decides.{nat_tests}
use Rattle.sftp_model.specs.declared.options.SftpOptions.{SftpOptions}
use Rattle.sftp_model.specs.declared.reply.Reply.{Reply}
use Rattle.sftp_core.specs.declared.info.Info.{Info}
use Rattle.plan_model.specs.declared.call.Call.{Call}
use Rattle.plan_model.specs.declared.call.Lane.{Lane}
use Rattle.session_model.specs.Calls.{calls_added_to, calls_of, current}
use Rattle.session_model.specs.Readings.{count_ended, outcomes_of}
use Rattle.session_driver.specs.declared.session.Phase.{Phase}
use Rattle.run_laws.proofs.CallEnds.{outcomes_count}
use Rattle.session_work.specs.declared.lanes.Lanes.{Lanes}
use Rattle.session_work.specs.Reports.{LaneReport}
use Rattle.session_work.specs.Working.{past_of}
use Rattle.sftp_lanes.specs.Seen.{IsSession, setting_by}

-- a list has nothing at its end and behind it, and there alone
ends_at : {A : Type 0} (xs : List A) (n : ℕ) → (slice_get xs n ≡ None) ↔ (length xs ≤ n)
ends_at [] n = (λ none. omega arith, λ le. refl)
ends_at (x ∷ xs) zero = (λ none. absurd cc, λ le. absurd (omega (arith, le)))
ends_at (x ∷ xs) (suc n) = (
  λ none. (let le = (ends_at xs n).0 none in omega (arith, le)),
  λ le. (ends_at xs n).1 (omega (arith, le)),
)

is_within : (m n : ℕ) → nat_le m n ≡ true → m ≤ n
is_within m n e = grind (arith, nat_tests)

is_beyond : (m n : ℕ) → nat_le m n ≡ false → m ≤ n → ⊥
is_beyond m n e le = grind (arith, nat_tests)

told_by : {A : Type 0} (xs : List A) (n : ℕ) (b : Bool) → b ≡ nat_le (length xs) n → IsTrue b ↔ (slice_get xs n ≡ None)
told_by xs n true e = (λ t. (ends_at xs n).1 (is_within (length xs) n (sym e)), λ none. refl)
told_by xs n false e = (λ t. absurd cc, λ none. absurd (is_beyond (length xs) n (sym e) ((ends_at xs n).0 none)))

pub done_is : (lanes : List Lane) (options : SftpOptions) (version : Option Reply) (info : Option Info) (w : Lanes)
    (phase : Phase) (lane : ℕ) (b : Bool) → IsSession lanes options version info w phase
    → b ≡ nat_le (length (calls_of (slice_get w.calls lane))) (length (slice_index_or w.outcomes lane []))
    → IsTrue b ↔ (current (setting_by lanes options version info) (past_of w) lane ≡ None)
done_is lanes options version info w phase lane b is told =
    let calls = is.calls.each lane in
    let outcomes : slice_index_or w.outcomes lane [] ≡ outcomes_of (past_of w) lane =
    ap (λ (r : LaneReport). r.outcomes) (is.intact.reports lane) in
    let number : length (slice_index_or w.outcomes lane []) ≡ count_ended (past_of w) lane = ap length outcomes
    ∙ outcomes_count (past_of w) lane in
    subst (λ (n : ℕ). IsTrue b ↔ (slice_get (calls_of (slice_get lanes lane) ++ calls_added_to (past_of w) lane) n
    ≡ None)) number
    (subst (λ (cs : List Call). IsTrue b ↔ (slice_get cs (length (slice_index_or w.outcomes lane [])) ≡ None)) calls
    (told_by (calls_of (slice_get w.calls lane)) (length (slice_index_or w.outcomes lane [])) b told))
