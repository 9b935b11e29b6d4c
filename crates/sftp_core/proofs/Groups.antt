-- Places between the frames of a chunk, and the pieces between them.
use Rattle.std.proofs.Common.{
  ◌≡◌,
  ◌<◌,
  ◌≤◌,
  ℕ,
  ◌+◌,
  ◌-◌,
  List,
  [],
  ◌∷◌,
  ◌++◌,
  length,
  map,
  take,
  drop,
  get_or,
  zero,
  suc,
  refl,
  sym,
  ap,
  ◌∙◌,
  arith,
  append_assoc,
  length-append,
}
use Rattle.std.specs.List.{All, sum}
use Rattle.std.proofs.Math.Seq.{take-add, take-append-add, take-nil}
use Rattle.std.proofs.lemmas.List.{length-map, map_more, take-map}
use Rattle.std.proofs.lemmas.List.Concat.{length-flat_map}
use Rattle.std.proofs.lemmas.List.Elements.{All-take}
use Rattle.std.proofs.lemmas.List.Sums.{sum_by-cons, sum_by-take-le, sum_by_more, sum_by_more_le, sum-map}
use Rattle.sftp_model.specs.Frames.{frames_of}
use Rattle.sftp_model.specs.Pieces.{joined_pieces}
use Rattle.sftp_core.specs.declared.place.Place.{Place}
use Rattle.sftp_core.specs.Pieces.{
  Frame,
  ChunkValue,
  asked_of,
  counts_of,
  pieces_before,
  pieces_in,
  pieces_of,
  HasFrames,
  IsCutFrame,
  IsPlace,
}
use Rattle.sftp_core.proofs.Cuts.{joined-append, queue-joins}

-- ---- a queue

-- what a frame's pieces add to the length
pub counted : (out new pieces : List (List ℕ)) (a b : ℕ) → new ≡ out ++ pieces → a ≡ length out → b ≡ length new → b - a
    ≡ length pieces
counted out new pieces a b is before after =
    let len = ap length is ∙ length-append out pieces in omega (arith, len, before, after)

pub counts-more : (queue : List Frame) (i : ℕ) (f : Frame) (first out next : List ℕ) (n : ℕ) → i < length queue → f
    ≡ get_or queue i f → out ≡ first ++ counts_of (take i queue) → n ≡ length (pieces_in f) → next ≡ out ++ n ∷ []
    → next ≡ first ++ counts_of (take (i + 1) queue)
counts-more queue i f first out next n h e is count more =
    more ∙ (λ j. is j ++ (count j ∷ [])) ∙ append_assoc first (counts_of (take i queue)) (length (pieces_in f) ∷ [])
    ∙ ap (λ l. first ++ l) (sym (map_more (λ x. length (pieces_in x)) queue i f h
    ∙ ap (λ x. counts_of (take i queue) ++ length (pieces_in x) ∷ []) (sym e)))

-- the counts of a queue add up to the number of its pieces
pub counts-all : (queue : List Frame) → sum (counts_of queue) ≡ length (pieces_of queue)
counts-all queue = sum-map (λ f. length (pieces_in f)) queue ∙ sym (length-flat_map pieces_in queue)

-- the pieces that its first frames have are the pieces of these frames
pub first-pieces : (queue : List Frame) (k : ℕ) → take (pieces_before (counts_of queue) k) (pieces_of queue)
    ≡ pieces_of (take k queue)
first-pieces [] k = take-nil (pieces_before [] k) ∙ ap pieces_of (sym (take-nil k))
first-pieces (f ∷ queue) zero = refl
first-pieces (f ∷ queue) (suc k) =
    ap (λ n. take n (pieces_in f ++ pieces_of queue)) (sum_by-cons (λ n. n) (length (pieces_in f))
    (take k (counts_of queue)))
    ∙ take-append-add (pieces_in f) (pieces_of queue) (pieces_before (counts_of queue) k)
    ∙ ap (λ l. pieces_in f ++ l) (first-pieces queue k)

pub has_frames : (queue : List Frame) → All IsCutFrame queue
    → HasFrames (record { pieces = pieces_of queue; counts = counts_of queue }) (map asked_of queue)
has_frames queue all = record {
  number = length-map queue (λ f. length (pieces_in f)) ∙ sym (length-map queue asked_of);
  all = queue-joins queue all;
  first = λ k. ap joined_pieces (first-pieces queue k)
      ∙ queue-joins (take k queue) (All-take IsCutFrame k queue all)
      ∙ ap frames_of (sym (take-map asked_of k queue));
}

-- ---- places

-- the pieces of a frame after a place are in the chunk
pub frame_within : (counts : List ℕ) (len k at : ℕ) (d : ℕ) → sum counts ≡ len → at ≡ pieces_before counts k
    → k < length counts → at + get_or counts k d ≤ len
frame_within counts len k at d all is h = let le = sum_by_more_le (λ n. n) counts k d h in omega (arith, le, all, is)

pub place_after : (counts : List ℕ) (k at : ℕ) (d : ℕ) → at ≡ pieces_before counts k → k < length counts
    → at + get_or counts k d ≡ pieces_before counts (k + 1)
place_after counts k at d is h = ap (λ n. n + get_or counts k d) is ∙ sym (sum_by_more (λ n. n) counts k d h)

-- a later place is after more pieces
pub ordered : (counts : List ℕ) (k j : ℕ) → k ≤ j → pieces_before counts k ≤ pieces_before counts j
ordered counts zero j h = omega arith
ordered [] (suc k) j h = omega arith
ordered (n ∷ counts) (suc k) (suc j) h =
    let a = sum_by-cons (λ x. x) n (take k counts) in
    let b = sum_by-cons (λ x. x) n (take j counts) in
    let le = ordered counts k j (omega (arith, h)) in
    omega (arith, a, b, le)
ordered (n ∷ counts) (suc k) zero h = absurd (omega (arith, h))

pub in_order : (chunk : ChunkValue) (a b : Place) → IsPlace chunk a → IsPlace chunk b → a.frames ≤ b.frames → a.pieces
    ≤ b.pieces
in_order chunk a b first second h =
    let le = ordered chunk.counts a.frames b.frames h in
    let x = first.pieces in
    let y = second.pieces in omega (arith, le, x, y)

pub within : (chunk : ChunkValue) (a : Place) → sum chunk.counts ≡ length chunk.pieces → IsPlace chunk a → a.pieces
    ≤ length chunk.pieces
within chunk a all place =
    let le = sum_by-take-le (λ n. n) chunk.counts a.frames in
    let is = place.pieces in omega (arith, le, all, is)

-- the pieces up to a place, and those from there to a later one
pub joins_between : (pieces : List (List ℕ)) (a b : ℕ) → a ≤ b → joined_pieces (take b pieces)
    ≡ joined_pieces (take a pieces) ++ joined_pieces (take (b - a) (drop a pieces))
joins_between pieces a b h =
    let is : a + (b - a) ≡ b = omega (arith, h) in
    ap (λ n. joined_pieces (take n pieces)) (sym is) ∙ ap joined_pieces (take-add a (b - a) pieces)
    ∙ joined-append (take a pieces) (take (b - a) (drop a pieces))
