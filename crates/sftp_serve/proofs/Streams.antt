-- Laws of streams: one frame more, one way to split, and what breaks a stream.
use Rattle.std.proofs.Common.{
  ◌≡◌,
  ◌<◌,
  ◌≤◌,
  ◌+◌,
  ℕ,
  Bool,
  true,
  false,
  List,
  [],
  ◌∷◌,
  ◌++◌,
  length,
  Option,
  None,
  Some,
  refl,
  ap,
  sym,
  ◌∙◌,
  subst,
  append_assoc,
  append-nil,
  length-append,
  arith,
  inl,
  inr,
}
use Rattle.std.specs.Prelude.{◌⊎◌, is_some}
use Rattle.std.specs.List.{flat_map}
use Rattle.std.specs.Option.{option_map}
use Rattle.ssh_encoding.specs.Writing.{string}
use Rattle.sftp_model.specs.Numbers.{MAX_BODY_LEN}
use Rattle.sftp_map_server.specs.Serving.{AllShort}
use Rattle.sftp_wire.specs.FrameReader.{fault_of, missing_bytes}
use Rattle.sftp_serve.specs.Stream.{BreaksStream, IsBroken, IsUnfinished, IsAnswered, ServedState, and_then, answers, answer_to_frame}
use Rattle.sftp_map_server.proofs.Strings.{no_fault, nothing_missing, one_string}

-- ---- one frame more

-- an answer and those after it, taken apart
pub and_then_Some : (x : Option (List ℕ × ServedState)) (more : ServedState → Option (List ℕ × ServedState))
    (out : List ℕ × ServedState) → and_then x more ≡ Some out
    → (a : List ℕ × ServedState) × (b : List ℕ × ServedState) × (x ≡ Some a) × (more a.1 ≡ Some b)
    × (out ≡ (a.0 ++ b.0, b.1))
and_then_Some None more out e = absurd cc
and_then_Some (Some a) more out e = by_rest (more a.1) refl e
  where
    by_rest : (r : Option (List ℕ × ServedState)) → more a.1 ≡ r
        → option_map (λ y. (let q : List ℕ × ServedState = (a.0 ++ y.0, y.1) in q)) r ≡ Some out
        → (p : List ℕ × ServedState) × (b : List ℕ × ServedState) × (Some a ≡ Some p) × (more p.1 ≡ Some b)
        × (out ≡ (p.0 ++ b.0, b.1))
    by_rest None is f = absurd cc
    by_rest (Some b) is f = (a, b, refl, is, sym (cc f))

-- and put together
both_said : (x : Option (List ℕ × ServedState)) (more : ServedState → Option (List ℕ × ServedState))
    (a b : List ℕ × ServedState) → x ≡ Some a → more a.1 ≡ Some b → and_then x more ≡ Some (a.0 ++ b.0, b.1)
both_said x more a b e f = rw e (rw f refl)

none_said : (x : Option (List ℕ × ServedState)) (more : ServedState → Option (List ℕ × ServedState))
    (a : List ℕ × ServedState) → x ≡ Some a → more a.1 ≡ None → and_then x more ≡ None
none_said x more a e f = rw e (rw f refl)

pub answers_more : (xs : List (List ℕ)) (body : List ℕ) (s left next : ServedState) (sent frame : List ℕ) → answers s xs
    ≡ Some (sent, left) → answer_to_frame left body ≡ Some (frame, next)
    → answers s (xs ++ body ∷ []) ≡ Some (sent ++ frame, next)
answers_more [] body s left next sent frame e f =
    let here : (let p : List ℕ × ServedState = ([], s) in p) ≡ (sent, left) = cc e in
    let none : [] ≡ sent = ap (λ (p : List ℕ × ServedState). p.0) here in
    let same : s ≡ left = ap (λ (p : List ℕ × ServedState). p.1) here in
    let one : and_then (answer_to_frame s body) (λ t. answers t []) ≡ Some (frame ++ [], next) =
    rw (ap (λ (t : ServedState). answer_to_frame t body) same ∙ f) refl in
    one ∙ (λ i. Some (append-nil frame i, next)) ∙ (λ i. Some (none i ++ frame, next))
answers_more (x ∷ xs) body s left next sent frame e f =
    let p = and_then_Some (answer_to_frame s x) (λ t. answers t xs) (sent, left) e in
    let whole : (let q : List ℕ × ServedState = (sent, left) in q) ≡ (p.0.0 ++ p.1.0, p.1.1) = p.4 in
    let out : sent ≡ p.0.0 ++ p.1.0 = ap (λ (q : List ℕ × ServedState). q.0) whole in
    let to : left ≡ p.1.1 = ap (λ (q : List ℕ × ServedState). q.1) whole in
    let rest : answers p.0.1 (xs ++ body ∷ []) ≡ Some (p.1.0 ++ frame, next) =
    answers_more xs body p.0.1 left next p.1.0 frame (p.3 ∙ (λ i. Some (p.1.0, sym to i))) f in
    both_said (answer_to_frame s x) (λ t. answers t (xs ++ body ∷ [])) p.0 (p.1.0 ++ frame, next) p.2 rest
    ∙ (λ i. Some (sym (append_assoc p.0.0 p.1.0 frame) i, next)) ∙ (λ i. Some (sym out i ++ frame, next))

answers_unfit : (xs : List (List ℕ)) (body : List ℕ) (s left : ServedState) (sent : List ℕ) → answers s xs
    ≡ Some (sent, left) → answer_to_frame left body ≡ None → answers s (xs ++ body ∷ []) ≡ None
answers_unfit [] body s left sent e f =
    let here : (let p : List ℕ × ServedState = ([], s) in p) ≡ (sent, left) = cc e in
    let same : s ≡ left = ap (λ (p : List ℕ × ServedState). p.1) here in
    rw (ap (λ (t : ServedState). answer_to_frame t body) same ∙ f) refl
answers_unfit (x ∷ xs) body s left sent e f =
    let p = and_then_Some (answer_to_frame s x) (λ t. answers t xs) (sent, left) e in
    let whole : (let q : List ℕ × ServedState = (sent, left) in q) ≡ (p.0.0 ++ p.1.0, p.1.1) = p.4 in
    let to : left ≡ p.1.1 = ap (λ (q : List ℕ × ServedState). q.1) whole in
    let rest : answers p.0.1 (xs ++ body ∷ []) ≡ None = answers_unfit xs body p.0.1 left p.1.0
    (p.3 ∙ (λ i. Some (p.1.0, sym to i))) f in
    none_said (answer_to_frame s x) (λ t. answers t (xs ++ body ∷ [])) p.0 p.2 rest

short_more : (xs : List (List ℕ)) (body : List ℕ) → AllShort xs → 0 < length body → length body ≤ MAX_BODY_LEN
    → AllShort (xs ++ body ∷ [])
short_more [] body s some le = (some, le, tt)
short_more (x ∷ xs) body s some le = (s.0, s.1, short_more xs body s.2 some le)

frames_more : (xs : List (List ℕ)) (body : List ℕ) → flat_map string (xs ++ body ∷ []) ≡ flat_map string xs
    ++ string body
frames_more [] body = append-nil (string body)
frames_more (x ∷ xs) body = ap (λ (w : List ℕ). string x ++ w) (frames_more xs body)
    ∙ sym (append_assoc (string x) (flat_map string xs) (string body))

count_more : (xs : List (List ℕ)) (body : List ℕ) → length (xs ++ body ∷ []) ≡ length xs + 1
count_more xs body = length-append xs (body ∷ [])

-- the frame that stood after the answered ones is answered too
pub served_more : (first left next : ServedState) (bytes sent rest body frame : List ℕ) (count : ℕ)
    → IsAnswered first bytes count sent left rest → rest ≡ string body → 0 < length body → length body ≤ MAX_BODY_LEN
    → answer_to_frame left body ≡ Some (frame, next) → IsAnswered first bytes (count + 1) (sent ++ frame) next []
served_more first left next bytes sent rest body frame count s is some le says =
    record {
      bodies = s.bodies ++ body ∷ [];
      short = short_more s.bodies body s.short some le;
      counted = count_more s.bodies body ∙ ap (λ (n : ℕ). n + 1) s.counted;
      framed = s.framed ∙ (ap (λ (w : List ℕ). flat_map string s.bodies ++ w) is
          ∙ (sym (frames_more s.bodies body) ∙ sym (append-nil (flat_map string (s.bodies ++ body ∷ [])))));
      answered = answers_more s.bodies body first left next sent frame s.answered says;
    }

-- bytes after the answered frames
pub served_with : (first left : ServedState) (bytes sent rest more : List ℕ) (count : ℕ)
    → IsAnswered first bytes count sent left rest → IsAnswered first (bytes ++ more) count sent left (rest ++ more)
served_with first left bytes sent rest more count s =
    record {
      bodies = s.bodies;
      short = s.short;
      counted = s.counted;
      framed = ap (λ (w : List ℕ). w ++ more) s.framed ∙ append_assoc (flat_map string s.bodies) rest more;
      answered = s.answered;
    }

-- nothing came
pub served_none : (first : ServedState) → IsAnswered first [] 0 [] first []
served_none first = record { bodies = []; short = tt; counted = refl; framed = refl; answered = refl }

pub served_as : (first left : ServedState) (bytes now sent out rest : List ℕ) (count : ℕ) → now ≡ bytes → out ≡ sent
    → IsAnswered first bytes count sent left rest → IsAnswered first now count out left rest
served_as first left bytes now sent out rest count e f s = subst
    (λ (w : List ℕ). IsAnswered first w count out left rest) (sym e)
    (subst (λ (w : List ℕ). IsAnswered first bytes count w left rest) (sym f) s)

-- ---- one way to split

-- no frame stands at the beginning
abbrev IsOpen : List ℕ → Type 0
IsOpen rest = (body more : List ℕ) → 0 < length body → length body ≤ MAX_BODY_LEN → string body ++ more ≡ rest → ⊥

part_open : (rest : List ℕ) → IsUnfinished rest → IsOpen rest
part_open rest p body more some le e =
    let none : missing_bytes rest ≡ 0 = ap missing_bytes (sym e) ∙ nothing_missing body more le in
    let s = p.short in
    absurd (omega (arith, none, s))

bad_open : (rest : List ℕ) → is_some (fault_of rest) ≡ true → IsOpen rest
bad_open rest bad body more some le e =
    let good : fault_of rest ≡ None = no_fault rest [] body more (append-nil rest ∙ sym e) some le in
    absurd cc

pub part_nothing : IsUnfinished []
part_nothing = record { good = refl; short = omega arith }

same_split : (xs ys : List (List ℕ)) (r q : List ℕ) → AllShort xs → AllShort ys → IsOpen r → IsOpen q
    → flat_map string xs ++ r ≡ flat_map string ys ++ q → (xs ≡ ys) × (r ≡ q)
same_split [] [] r q sx sy or oq e = (refl, e)
same_split [] (y ∷ ys) r q sx sy or oq e = absurd (or y (flat_map string ys ++ q) sy.0 sy.1
    (sym (e ∙ append_assoc (string y) (flat_map string ys) q)))
same_split (x ∷ xs) [] r q sx sy or oq e = absurd (oq x (flat_map string xs ++ r) sx.0 sx.1
    (sym (append_assoc (string x) (flat_map string xs) r) ∙ e))
same_split (x ∷ xs) (y ∷ ys) r q sx sy or oq e =
    let heads = one_string x y (flat_map string xs ++ r) (flat_map string ys ++ q) sx.1 sy.1
    (sym (append_assoc (string x) (flat_map string xs) r) ∙ (e ∙ append_assoc (string y) (flat_map string ys) q)) in
    let rest = same_split xs ys r q sx.2 sy.2 or oq heads.1 in
    (cc (heads.0, rest.0), rest.1)

-- bytes are split in one way into frames and a rest that is part of one
pub one_split : (first left other : ServedState) (bytes a b r q : List ℕ) (n m : ℕ) → IsAnswered first bytes n a left r
    → IsUnfinished r → IsAnswered first bytes m b other q → IsUnfinished q → (n ≡ m) × (r ≡ q)
one_split first left other bytes a b r q n m s p t o =
    let same = same_split s.bodies t.bodies r q s.short t.short (part_open r p) (part_open q o)
    (sym s.framed ∙ t.framed) in
    (sym s.counted ∙ (ap length same.0 ∙ t.counted), same.1)

-- ---- a stream that is well didn't break

nonempty_not : (r : List ℕ) → 0 < length r → r ≡ [] → ⊥
nonempty_not [] lt e = absurd (omega (arith, lt))
nonempty_not (x ∷ r) lt e = absurd cc

pub not_broken : (first left : ServedState) (ended : Bool) (bytes a b r : List ℕ) (n : ℕ)
    → IsAnswered first bytes n a left r → IsUnfinished r → ((ended ≡ false) ⊎ (r ≡ [])) → IsBroken first ended bytes b
    → ⊥
not_broken first left ended bytes a b r n s p well broken = by_why broken.breaks
  where
    well_cut : (ended ≡ false) ⊎ (r ≡ []) → ended ≡ true → 0 < length broken.rest → r ≡ broken.rest → ⊥
    well_cut (inl up) e some same = absurd cc
    well_cut (inr none) e some same = nonempty_not broken.rest some (sym same ∙ none)

    by_why : BreaksStream broken.left ended broken.rest → ⊥
    by_why (inl cut) =
        let same = same_split s.bodies broken.served.bodies r broken.rest s.short broken.served.short (part_open r p)
        (part_open broken.rest cut.2) (sym s.framed ∙ broken.served.framed) in
        well_cut well cut.0 cut.1 same.1
    by_why (inr (inl unfit)) =
        let framed : bytes ≡ flat_map string (broken.served.bodies ++ unfit.body ∷ []) ++ [] =
        broken.served.framed ∙ (ap (λ (w : List ℕ). flat_map string broken.served.bodies ++ w) unfit.framed
        ∙ (sym (frames_more broken.served.bodies unfit.body) ∙ sym
        (append-nil (flat_map string (broken.served.bodies ++ unfit.body ∷ []))))) in
        let same = same_split s.bodies (broken.served.bodies ++ unfit.body ∷ []) r [] s.short
        (short_more broken.served.bodies unfit.body broken.served.short unfit.some unfit.short) (part_open r p)
        (part_open [] part_nothing) (sym s.framed ∙ framed) in
        let none : answers first s.bodies ≡ None = ap (answers first) same.0
        ∙ answers_unfit broken.served.bodies unfit.body first broken.left b broken.served.answered unfit.unfit in
        let some = s.answered in
        absurd cc
    by_why (inr (inr bad)) =
        let same = same_split s.bodies broken.served.bodies r broken.rest s.short broken.served.short (part_open r p)
        (bad_open broken.rest bad) (sym s.framed ∙ broken.served.framed) in
        let good : fault_of broken.rest ≡ None = ap fault_of (sym same.1) ∙ p.good in
        absurd cc
