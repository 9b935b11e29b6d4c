-- Another try of the work over a link.
use Rattle.std.proofs.Common.{◌≡◌, ℕ, suc, Bool, true, false, sym, refl, subst}
use Rattle.sftp_transfer.specs.Ended.{TriesLink, OutsideAct, Paused, TransferRequest, Went, may_try_again, next_pause}
use Rattle.sftp_transfer.specs.declared.ended.Reach.{Reach}
use Rattle.transfer_plan.specs.Jobs.{FactBy}

-- The tries that are left, after what was done, complete all of them.
abbrev pub IsTrying : {H : Type 0} → (OutsideAct → H → H) → TransferRequest → ℕ → ℕ → ℕ → H → H → Type 0
IsTrying {H = H} done asked all left pause before mid = (end : Reach) (after : H)
    → TriesLink done asked left pause end mid after → TriesLink done asked all 1 end before after

-- A try that may be followed by another one, and the pause after it.
pub went_again : {H : Type 0} (done : OutsideAct → H → H) (asked : TransferRequest) (all left more pause : ℕ)
    (one : Reach)
    (before mid next : H) → left ≡ suc more → may_try_again one ≡ true
    → next ≡ done (Paused pause) (done (Went asked one) mid)
    → IsTrying done asked all left pause before mid → IsTrying done asked all more (next_pause pause) before next
went_again {H = H} done asked all left more pause one before mid next is again then going = λ end after h.
    let here : TriesLink done asked more (next_pause pause) end (done (Paused pause) (done (Went asked one) mid)) after =
    subst (λ (x : H). TriesLink done asked more (next_pause pause) end x after) then h in
    going end after (subst (λ (n : ℕ). TriesLink done asked n pause end mid after) (sym is) (
      one,
      subst (λ (t : Bool). FactBy t
          (TriesLink done asked more (next_pause pause) end (done (Paused pause) (done (Went asked one) mid)) after)
          ((end ≡ one) × (after ≡ done (Went asked one) mid))) (sym again) here,
    ))

-- A try that is not followed by another one.
pub went_last : {H : Type 0} (done : OutsideAct → H → H) (asked : TransferRequest) (all left more pause : ℕ)
    (one : Reach)
    (before mid next : H) → left ≡ suc more → may_try_again one ≡ false → next ≡ done (Went asked one) mid
    → IsTrying done asked all left pause before mid → TriesLink done asked all 1 one before next
went_last {H = H} done asked all left more pause one before mid next is last then going =
    going one next (subst (λ (n : ℕ). TriesLink done asked n pause one mid next) (sym is) (
      one,
      subst (λ (t : Bool). FactBy t
          (TriesLink done asked more (next_pause pause) one (done (Paused pause) (done (Went asked one) mid)) next)
          ((one ≡ one) × (next ≡ done (Went asked one) mid))) (sym last) (refl, then),
    ))
