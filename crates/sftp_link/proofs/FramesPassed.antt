-- Frames that have not come.
use Rattle.std.proofs.Common.{◌≡◌, ◌<◌, ℕ, zero, suc, ◌+◌, ◌-◌, List, Some, None, refl, subst, arith, add-zero, add-suc}
use Rattle.sftp_link.specs.Frames.{first_frame, behind_frames, frame_at}

-- where the frame behind the first k has not come, none behind it has
none_behind : (j k : ℕ) (bytes rest : List ℕ) → behind_frames k bytes ≡ Some rest → first_frame rest ≡ None
    → behind_frames (k + suc j) bytes ≡ None
none_behind zero k bytes rest is none = rw (add-suc, add-zero, is, none) refl
none_behind (suc j) k bytes rest is none = rw (add-suc, none_behind j k bytes rest is none) refl

pub no_frame_from : (n k : ℕ) (bytes rest : List ℕ) → k < n → behind_frames k bytes ≡ Some rest → first_frame rest
    ≡ None → frame_at n bytes ≡ None
no_frame_from n k bytes rest lt is none =
    let e : k + suc (n - suc k) ≡ n = omega arith in
    let passed : behind_frames n bytes ≡ None = subst (λ (m : ℕ). behind_frames m bytes ≡ None) e
    (none_behind (n - suc k) k bytes rest is none) in
    rw passed refl
