-- The pieces of a queue, frame by frame.
use Rattle.std.proofs.Common.{
  ◌≡◌,
  ◌<◌,
  ℕ,
  ◌+◌,
  List,
  [],
  ◌∷◌,
  ◌++◌,
  length,
  map,
  take,
  get_or,
  refl,
  sym,
  ap,
  subst,
  ◌∙◌,
  arith,
  append-nil,
  append_assoc,
  length-append,
  suc,
  add-one,
}
use Rattle.std.specs.List.{All}
use Rattle.std.proofs.Math.Seq.{take-suc}
use Rattle.std.proofs.lemmas.Grind.{flat_map-append}
use Rattle.std.proofs.lemmas.List.{map_push, length-map, get_or-map}
use Rattle.std.proofs.lemmas.List.Elements.{All-append, All-cons, All-more, All-nil}
use Rattle.ssh_encoding.specs.Writing.{uint32, uint64, string}
use Rattle.sftp_model.specs.Pieces.{joined_pieces}
use Rattle.sftp_model.specs.Numbers.{SSH_FXP_WRITE}
use Rattle.sftp_model.specs.Frames.{of_type, request_body, frame_of, frames_of}
use Rattle.sftp_model.specs.declared.request.Request.{Request}
use Rattle.sftp_model.specs.declared.request.Request.TheVariants as request
use Rattle.sftp_wire.specs.Heads.{content_of, request_head}
use Rattle.sftp_wire.proofs.Heads.{head_and_content}
use Rattle.sftp_wire.proofs.Lengths.{length-uint32, length-string}
use Rattle.sftp_core.specs.Frames.{AreFilled, IsShort}
use Rattle.sftp_core.specs.Pieces.{Frame, asked_of, pieces_in, pieces_of, one_filled, filled_of, IsCut, IsCutFrame, IsShortFrame}

-- ---- lists
pub taken : {X : Type 0} (xs : List X) (i : ℕ) (x : X) → i < length xs → x ≡ get_or xs i x → take (i + 1) xs ≡ take i xs
    ++ x ∷ []
taken xs i x h e = ap (λ n. take n xs) (add-one i) ∙ take-suc xs i x h ∙ ap (λ y. take i xs ++ y ∷ []) (sym e)

pub joined-append : (xs ys : List (List ℕ)) → joined_pieces (xs ++ ys) ≡ joined_pieces xs ++ joined_pieces ys
joined-append [] ys = refl
joined-append (x ∷ xs) ys = ap (λ l. x ++ l) (joined-append xs ys)
    ∙ sym (append_assoc x (joined_pieces xs) (joined_pieces ys))

pub asked-push : (queue : List Frame) (f : Frame) → map asked_of (queue ++ f ∷ []) ≡ map asked_of queue
    ++ asked_of f ∷ []
asked-push queue f = map_push asked_of queue f

pub pieces-push : (queue : List Frame) (f : Frame) → pieces_of (queue ++ f ∷ []) ≡ pieces_of queue ++ pieces_in f
pieces-push queue f = flat_map-append pieces_in queue (f ∷ [])
    ∙ ap (λ l. pieces_of queue ++ l) (append-nil (pieces_in f))

frames-push : (queue : List (ℕ × Request)) (one : ℕ × Request) → frames_of (queue ++ one ∷ []) ≡ frames_of queue
    ++ frame_of one
frames-push queue one = flat_map-append frame_of queue (one ∷ [])
    ∙ ap (λ l. frames_of queue ++ l) (append-nil (frame_of one))

-- ---- a frame
head_filled : (r : Request) (id : ℕ) → 0 < length (request_head r id)
head_filled (request.Write handle offset content) id =
    let a = length-append (uint32 (length (request_body (request.Write handle offset content) id)))
    (of_type SSH_FXP_WRITE id (string handle ++ uint64 offset ++ uint32 (length content))) in
    let b = length-uint32 (length (request_body (request.Write handle offset content) id)) in
    omega (arith, a, b)
head_filled other id = let a = length-string (request_body other id) in omega (arith, a)

pub one-joins : (xs : List ℕ) → joined_pieces (one_filled xs) ≡ xs
one-joins [] = refl
one-joins (x ∷ xs) = append-nil (x ∷ xs)

one-filled : (xs : List ℕ) → AreFilled (one_filled xs)
one-filled [] = All-nil (λ piece. 0 < length piece)
one-filled (x ∷ xs) = All-cons (λ piece. 0 < length piece) (x ∷ xs) [] (omega arith)
    (All-nil (λ piece. 0 < length piece))

pub cut-one : (asked copy : Request) (parts : List (List ℕ)) → copy ≡ asked → parts ≡ one_filled (content_of asked)
    → IsCut copy parts
cut-one asked copy parts same is =
    rw (same, is) (record { joins = one-joins (content_of asked); filled = one-filled (content_of asked) })

pub cut-none : (asked : Request) (parts : List (List ℕ)) → content_of asked ≡ [] → parts ≡ [] → IsCut asked parts
cut-none asked parts none is = rw is (record { joins = sym none; filled = All-nil (λ piece. 0 < length piece) })

-- ---- parts
filled-push : (parts : List (List ℕ)) (part : List ℕ) → filled_of (parts ++ part ∷ []) ≡ filled_of parts
    ++ one_filled part
filled-push [] [] = refl
filled-push [] (x ∷ xs) = refl
filled-push ([] ∷ parts) part = filled-push parts part
filled-push ((x ∷ xs) ∷ parts) part = ap (λ l. (x ∷ xs) ∷ l) (filled-push parts part)

pub filled-more : (parts : List (List ℕ)) (i : ℕ) (part : List ℕ) (out next : List (List ℕ)) → i < length parts → part
    ≡ get_or parts i part → out ≡ filled_of (take i parts) → next ≡ out ++ one_filled part → next
    ≡ filled_of (take (i + 1) parts)
filled-more parts i part out next h e is more =
    more ∙ ap (λ l. l ++ one_filled part) is ∙ sym (ap filled_of (taken parts i part h e)
    ∙ filled-push (take i parts) part)

filled-joins : (parts : List (List ℕ)) → joined_pieces (filled_of parts) ≡ joined_pieces parts
filled-joins [] = refl
filled-joins ([] ∷ parts) = filled-joins parts
filled-joins ((x ∷ xs) ∷ parts) = ap (λ l. (x ∷ xs) ++ l) (filled-joins parts)

filled-filled : (parts : List (List ℕ)) → AreFilled (filled_of parts)
filled-filled [] = All-nil (λ piece. 0 < length piece)
filled-filled ([] ∷ parts) = filled-filled parts
filled-filled ((x ∷ xs) ∷ parts) = All-cons (λ piece. 0 < length piece) (x ∷ xs) (filled_of parts) (omega arith)
    (filled-filled parts)

pub cut-parts : (asked : Request) (parts filled : List (List ℕ)) → content_of asked ≡ joined_pieces parts → filled
    ≡ filled_of parts → IsCut asked filled
cut-parts asked parts filled content is = rw is (record {
  joins = filled-joins parts ∙ sym content;
  filled =
      filled-filled parts;
})

-- ---- a queue
tail : {X : Type 0} (P : X → Type 0) (x : X) (xs : List X) → All P (x ∷ xs) → All P xs
tail P x xs all i d h = all (suc i) d (omega (arith, h))

head : {X : Type 0} (P : X → Type 0) (x : X) (xs : List X) → All P (x ∷ xs) → P x
head P x xs all = all 0 x (omega arith)

-- the pieces of a queue join to its frames
pub queue-joins : (queue : List Frame) → All IsCutFrame queue → joined_pieces (pieces_of queue)
    ≡ frames_of (map asked_of queue)
queue-joins [] all = refl
queue-joins (f ∷ queue) all =
    let cut : IsCutFrame f = head IsCutFrame f queue all in
    let rest = queue-joins queue (tail IsCutFrame f queue all) in
    joined-append (pieces_in f) (pieces_of queue)
    ∙ (λ i. (request_head f.request f.id ++ cut.joins i) ++ rest i)
    ∙ ap (λ l. l ++ frames_of (map asked_of queue)) (head_and_content f.request f.id)

-- none of them is empty
pub queue-filled : (queue : List Frame) → All IsCutFrame queue → AreFilled (pieces_of queue)
queue-filled [] all = All-nil (λ piece. 0 < length piece)
queue-filled (f ∷ queue) all =
    let cut : IsCutFrame f = head IsCutFrame f queue all in
    All-append (λ piece. 0 < length piece) (pieces_in f) (pieces_of queue)
    (All-cons (λ piece. 0 < length piece) (request_head f.request f.id) f.parts (head_filled f.request f.id) cut.filled)
    (queue-filled queue (tail IsCutFrame f queue all))

pub cut-more : (queue : List Frame) (i : ℕ) (f : Frame) → i < length queue → f ≡ get_or queue i f
    → All IsCutFrame (take i queue) → IsCut f.request f.parts → All IsCutFrame (take (i + 1) queue)
cut-more queue i f h e all cut = All-more IsCutFrame queue i f h all (subst IsCutFrame e cut)

pub pieces-more : (queue : List Frame) (i : ℕ) (f : Frame) (first out next : List (List ℕ)) → i < length queue → f
    ≡ get_or queue i f → out ≡ first ++ pieces_of (take i queue) → next ≡ out ++ pieces_in f → next ≡ first
    ++ pieces_of (take (i + 1) queue)
pieces-more queue i f first out next h e is more =
    more ∙ ap (λ l. l ++ pieces_in f) is ∙ append_assoc first (pieces_of (take i queue)) (pieces_in f)
    ∙ ap (λ l. first ++ l) (sym (ap pieces_of (taken queue i f h e) ∙ pieces-push (take i queue) f))

pub short-frames : (queue : List Frame) → All IsShort (map asked_of queue) → All IsShortFrame queue
short-frames queue all i d h =
    subst IsShort (get_or-map asked_of queue i d (asked_of d) h)
    (all i (asked_of d) (omega (arith, h, length-map queue asked_of)))
