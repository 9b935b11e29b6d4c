-- believed: WaitingFrames
-- Frames that wait to be sent.
use Rattle.std.specs.Prelude.{ℕ, ◌==◌, ◌%◌, List, [], ◌∷◌, length, drop, if◌then◌else◌, slice_index_or}
use Rattle.std.specs.List.{remove}

-- The rest of the frame that is being sent, the frames that wait in the order of their requests, and the picks that are
-- left.
pub record WaitingFrames : Type 0 where
  pub ready : List ℕ
  pub waiting : List (List ℕ)
  pub picks : List ℕ

-- The next pick; after the last it is 0.
abbrev pub first_pick : List ℕ → ℕ
first_pick [] = 0
first_pick (pick ∷ picks) = pick

-- The index of the frame that is picked.
abbrev pub index_of : WaitingFrames → ℕ
index_of w = if length w.waiting == 0 then 0 else first_pick w.picks % length w.waiting

-- If no frame is being sent, the picked one is. A pick is also used if only one waits.
abbrev pub with_next_picked : WaitingFrames → WaitingFrames
with_next_picked w =
    if length w.ready == 0 then
    (if length w.waiting == 0 then w
    else record {
      ready = slice_index_or w.waiting (index_of w) [];
      waiting = remove w.waiting (index_of w);
      picks =
          drop 1 w.picks;
    })
    else w
