-- What is told over several calls.
use Rattle.std.proofs.Common.{
  ◌≡◌,
  ◌<◌,
  ◌≤◌,
  ℕ,
  ◌+◌,
  List,
  [],
  ◌∷◌,
  ◌++◌,
  take,
  drop,
  length,
  Option,
  Some,
  None,
  refl,
  ap,
  sym,
  ◌∙◌,
  subst,
  append_assoc,
  arith,
  min,
  ◌-◌,
  length-drop,
  length-append,
  take-add,
}
use Rattle.std.proofs.lemmas.List.{append-nil, take-append-drop, drop-drop, nil_from_length, length-take, take_all, take-append-le}
use Rattle.std.proofs.Math.Seq.{take-append_seam, take-append-add}
use borrow.Rule.Slice.PartMut.{put_mid, post_of}
use Rattle.sftp_link.specs.declared.piece.Piece.{Piece}
use Rattle.sftp_link.specs.declared.piece.Piece.TheVariants.{Sent, Got}
use Rattle.sftp_link.specs.Log.{SentOn, GotOn}
use Rattle.sftp_link.specs.Told.{IfLogged, LogsNothing, OneMore, WroteBytes, SentLess, WentLess, GotLess, CameIntoRoom}

pub told_self : {A : Type 0} (R : A → A → Type 0) (a : Option A) → ((x : A) → R x x) → IfLogged R a a
told_self R None f = tt
told_self R (Some x) f = f x

pub told_on : {A : Type 0} (R Q P : A → A → Type 0) (a b c : Option A) → IfLogged R a b → IfLogged Q b c
    → ((x y z : A) → R x y → Q y z → P x z) → IfLogged P a c
told_on R Q P None b c r q f = tt
told_on R Q P (Some x) None c r q f = absurd r
told_on R Q P (Some x) (Some y) None r q f = absurd q
told_on R Q P (Some x) (Some y) (Some z) r q f = f x y z r q

pub told_as : {A : Type 0} (R P : A → A → Type 0) (a b : Option A) → IfLogged R a b → ((x y : A) → R x y → P x y)
    → IfLogged P a b
told_as R P None b r f = tt
told_as R P (Some x) None r f = absurd r
told_as R P (Some x) (Some y) r f = f x y r

pub sent_nothing : (b : List Piece) → SentOn b b []
sent_nothing b = ([], refl, refl)

-- one more piece was sent
pub sent_more : (b n m : List Piece) (prefix piece : List ℕ) → SentOn b n prefix → m ≡ Sent piece ∷ n
    → SentOn b m (prefix ++ piece)
sent_more b n m prefix piece s e = (
  Sent piece ∷ s.0,
  e ∙ ap (λ (w : List Piece). Sent piece ∷ w) s.1,
  (prefix, refl, s.2),
)

-- what `&bytes[at..]` is
abbrev pub rest_of : List ℕ → ℕ → List ℕ
rest_of bytes at = take (length bytes - at) (drop at bytes)

pub rest_is : (bytes : List ℕ) (at : ℕ) → rest_of bytes at ≡ drop at bytes
rest_is bytes at = take_all (length bytes - at) (drop at bytes) (omega (arith, length-drop at bytes))

-- a prefix of the bytes, and then a piece of what is left
pub sent_piece : (bytes : List ℕ) (at n : ℕ) (b x y : List Piece) → SentOn b x (take at bytes)
    → OneMore Sent (take n (rest_of bytes at)) x y → SentOn b y (take (at + n) bytes)
sent_piece bytes at n b x y s e =
    let piece : take n (rest_of bytes at) ≡ take n (drop at bytes) = ap (λ (w : List ℕ). take n w) (rest_is bytes at) in
    let all : take at bytes ++ take n (rest_of bytes at) ≡ take (at + n) bytes =
    ap (λ (w : List ℕ). take at bytes ++ w) piece ∙ sym (take-add at n bytes) in
    subst (λ (w : List ℕ). SentOn b y w) all (sent_more b x y (take at bytes) (take n (rest_of bytes at)) s e)

pub sent_less_before : (bytes : List ℕ) (at : ℕ) → at < length bytes → (b x y : List Piece) → SentOn b x (take at bytes)
    → LogsNothing x y → SentLess bytes b y
sent_less_before bytes at lt b x y s e = (
  take at bytes,
  drop at bytes,
  sym (take-append-drop at bytes),
  omega (arith, length-drop at bytes),
  subst (λ (w : List Piece). SentOn b w (take at bytes)) (sym e) s,
)

pub went_piece : (bytes : List ℕ) (at n : ℕ) (b x y : List ℕ) → WroteBytes (take at bytes) b x
    → WroteBytes (take n (rest_of bytes at)) x y → WroteBytes (take (at + n) bytes) b y
went_piece bytes at n b x y s e =
    let piece : take n (rest_of bytes at) ≡ take n (drop at bytes) = ap (λ (w : List ℕ). take n w) (rest_is bytes at) in
    let all : take at bytes ++ take n (rest_of bytes at) ≡ take (at + n) bytes =
    ap (λ (w : List ℕ). take at bytes ++ w) piece ∙ sym (take-add at n bytes) in
    e ∙ (ap (λ (w : List ℕ). w ++ take n (rest_of bytes at)) s
    ∙ (append_assoc b (take at bytes) (take n (rest_of bytes at)) ∙ ap (λ (w : List ℕ). b ++ w) all))

pub went_less_before : (bytes : List ℕ) (at : ℕ) → at < length bytes → (b x y : List ℕ) → WroteBytes (take at bytes) b x
    → LogsNothing x y → WentLess bytes b y
went_less_before bytes at lt b x y s e = (
  take at bytes,
  drop at bytes,
  sym (take-append-drop at bytes),
  omega (arith, length-drop at bytes),
  e ∙ s,
)

-- what was copied stood at the prefix of what was left
pub came : (items copied rest : List ℕ) (room at n : ℕ) → at ≤ length items → 0 < room → n
    ≡ min room (length items - at) → copied ≡ take n (drop at items)
    → CameIntoRoom (copied ++ rest) n (drop at items) (drop (at + n) items)
came items copied rest room at n le some is copy =
    let len : length copied ≡ n = grind (arith, copy, length-take {A = ℕ}, length-drop {A = ℕ}) in
    let prefix : take n (copied ++ rest) ≡ copied = subst (λ (k : ℕ). take k (copied ++ rest) ≡ copied) len
    (take-append_seam copied rest) in
    let cut : take n (drop at items) ++ drop n (drop at items) ≡ drop at items = take-append-drop n (drop at items) in (
      sym cut ∙ (ap (λ (w : List ℕ). w ++ drop n (drop at items)) (sym copy ∙ sym prefix)
          ∙ ap (λ (w : List ℕ). take n (copied ++ rest) ++ w) (drop-drop n at items)),
      λ none. nil_from_length (drop at items) (omega (arith, length-drop at items)),
    )

-- one more piece was got
pub got_more : (b n m : List Piece) (prefix piece : List ℕ) → GotOn b n prefix → m ≡ Got piece ∷ n
    → GotOn b m (prefix ++ piece)
got_more b n m prefix piece s e = (Got piece ∷ s.0, e ∙ ap (λ (w : List Piece). Got piece ∷ w) s.1, (prefix, refl, s.2))

-- a list, the first of what follows it, and the rest
pub take_seam : (xs ys zs : List ℕ) (at n : ℕ) → length xs ≡ at → n ≤ length ys → take (at + n) (xs ++ (ys ++ zs)) ≡ xs
    ++ take n ys
take_seam xs ys zs at n is le =
    subst (λ (k : ℕ). take (k + n) (xs ++ (ys ++ zs)) ≡ xs ++ take n ys) is (
    take-append-add xs (ys ++ zs) n ∙ ap (λ (w : List ℕ). xs ++ w) (take-append-le n ys zs le)
    )

-- the room, into whose part from `at` on a recv put these bytes
abbrev pub put_from : List ℕ → ℕ → List ℕ → List ℕ
put_from room at put = put_mid at (length room - at) room put

pub got_piece : (room put : List ℕ) (at n : ℕ) → at ≤ length room → n ≤ length put → (b x y : List Piece)
    → GotOn b x (take at room) → OneMore Got (take n put) x y → GotOn b y (take (at + n) (put_from room at put))
got_piece room put at n le within b x y s e =
    let len : length (take at room) ≡ at = omega (arith, length-take {A = ℕ}) in
    subst (λ (w : List ℕ). GotOn b y w) (sym (take_seam (take at room) put (post_of at (length room - at) room) at n len
    within)) (
    got_more b x y (take at room) (take n put) s e
    )

-- what was got so far stands in prefix of the rest of the room
pub got_less : (room put : List ℕ) (at : ℕ) → 0 < length put → (b x y : List Piece) → GotOn b x (take at room)
    → LogsNothing x y → GotLess (put_from room at put) b y
got_less room put at some b x y s e =
    let more : 0 < length (put ++ post_of at (length room - at) room) = omega (arith, length-append {A = ℕ}) in (
      take at room,
      put ++ post_of at (length room - at) room,
      refl,
      more,
      subst (λ (w : List Piece). GotOn b w (take at room)) (sym e) s,
    )

-- and so does it where the end was met, which adds a piece of no bytes
pub got_less_end : (room put : List ℕ) (at n : ℕ) → 0 < length put → n ≡ 0 → (b x y : List Piece)
    → GotOn b x (take at room) → OneMore Got (take n put) x y → GotLess (put_from room at put) b y
got_less_end room put at n some none b x y s e =
    let more : 0 < length (put ++ post_of at (length room - at) room) = omega (arith, length-append {A = ℕ}) in
    let nothing : take n put ≡ [] = ap (λ (k : ℕ). take k put) none in
    let same : take at room ++ take n put ≡ take at room = ap (λ (w : List ℕ). take at room ++ w) nothing
    ∙ append-nil (take at room) in (
      take at room,
      put ++ post_of at (length room - at) room,
      refl,
      more,
      subst (λ (w : List ℕ). GotOn b y w) same (got_more b x y (take at room) (take n put) s e),
    )
