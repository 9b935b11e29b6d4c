-- The names that lanes write as a whole, and the lengths that their files may reach.
use Rattle.std.specs.Prelude.{◌≡◌, ◌≤◌, ℕ, suc, ◌+◌, true, List, [], ◌∷◌, length, drop, Some}
use Rattle.machine_model.specs.Components.{Name, components}
use Rattle.plan_model.proofs.Among.{Among}
use Rattle.plan_model.specs.declared.call.Call.TheVariants as call
use Rattle.plan_model.specs.declared.call.Lane.{Lane}
use Rattle.run_laws.specs.NameCalls.{none_writes}
use Rattle.run_laws.specs.ReadsBack.{IsAlone, call_in, calls_in}

-- Names, each with the greatest length that its file may reach.
abbrev pub NameClaims : Type 0
NameClaims = List (Name × ℕ)

-- The sum of the lengths.
abbrev pub claims_sum : NameClaims → ℕ
claims_sum [] = 0
claims_sum (c ∷ claims) = c.1 + claims_sum claims

-- The calls of the lane after this one do not write the name.
abbrev pub LaterWriteNone : List Lane → Name → ℕ → ℕ → Type 0
LaterWriteNone lanes name lane k = none_writes name (drop (suc k) (calls_in lanes lane)) ≡ true

-- The names that these lanes write as a whole, each with the greatest length assigned to it. Each belongs to its lane
-- alone, and is written once.
pub record AreClaimed (lanes : List Lane) (claims : NameClaims) : Type 0 where
  pub alone : (lane k : ℕ) (path content : List ℕ) → call_in lanes lane k ≡ Some (call.FsWrite path content)
      → IsAlone lanes (components path) lane
  pub once : (lane k : ℕ) (path content : List ℕ) → call_in lanes lane k ≡ Some (call.FsWrite path content)
      → LaterWriteNone lanes (components path) lane k
  pub bound : (lane k : ℕ) (path content : List ℕ) → call_in lanes lane k ≡ Some (call.FsWrite path content)
      → (claim : Name × ℕ) × (Among claim claims × (claim.0 ≡ components path) × (length content ≤ claim.1))
