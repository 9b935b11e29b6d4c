-- Lanes that have done nothing.
use Rattle.std.proofs.Common.{◌≡◌, ◌∙◌, ◌∷◌, ◌++◌, [], List, zero, suc, sym}
use Rattle.session_laws.specs.Changes.{fresh_lane}
use Rattle.session_laws.specs.Lanes.{LaneValue}
use Rattle.session_work.specs.Fresh.{AreFresh}

pub more_fresh : (states : List LaneValue) (v : LaneValue) → AreFresh states → v ≡ fresh_lane
    → AreFresh (states ++ v ∷ [])
more_fresh [] v all is zero w e = let same : v ≡ w = cc in sym same ∙ is
more_fresh [] v all is (suc k) w e = absurd cc
more_fresh (x ∷ states) v all is zero w e = all 0 w e
more_fresh (x ∷ states) v all is (suc k) w e = more_fresh states v (λ j. all (suc j)) is k w e
