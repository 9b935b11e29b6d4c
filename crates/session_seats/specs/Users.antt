-- Users that leave, and the stage that rises then.
use Rattle.std.specs.Prelude.{◌≡◌, ◌<◌, ℕ, ◌+◌, ◌==◌, Bool}
use Rattle.atomic_table.specs.Table.{Me}
use Rattle.session_seats.specs.declared.view.Sight.{Sight}
use Rattle.session_seats.specs.declared.view.View.{View}
use Rattle.session_seats.specs.Sights.{Shown, IsLaterSight, one_if}
use Rattle.session_seats.specs.Rules.{ShowsSightOf}
use Rattle.session_seats.specs.Holds.{claim_of, number_of, sight_by}

-- The value with this many users, at this stage.
abbrev pub with_users : ℕ → ℕ → Shown → Shown
with_users users stage y = record y { users = users; counts = record y.counts { stage = stage } }

abbrev pub at_stage : ℕ → Sight → Sight
at_stage stage s = record s { counts = record s.counts { stage = stage } }

module _ {S : Type 0} (shown : S → Shown) where
  -- The seat gave up a share, and there is one user fewer. Until then the end had not started; it has if this was the
  -- last user.
  pub record Leaves (last : Bool) (m n : Me S View) : Type 0 where
    pub before : S
    pub now : Sight
    pub took : ShowsSightOf (claim_of m) now (shown before)
    pub some : 0 < (shown before).users
    pub going : now.counts.stage ≡ 0
    pub is_last : last ≡ ((shown before).users == 1)
    pub number : number_of n ≡ number_of m
    pub share : (claim_of n).share + 1 ≡ (claim_of m).share
    pub sight : sight_by n ≡ at_stage (one_if last) now
    pub later : IsLaterSight now (sight_by n)
