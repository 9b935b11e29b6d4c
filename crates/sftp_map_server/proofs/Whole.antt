-- The bytes of one frame.
use Rattle.std.proofs.Common.{
  ◌≡◌,
  ◌<◌,
  ◌≤◌,
  ℕ,
  ◌+◌,
  ◌-◌,
  ◌==◌,
  Bool,
  true,
  false,
  List,
  [],
  ◌∷◌,
  ◌++◌,
  length,
  take,
  drop,
  get_or,
  Some,
  None,
  refl,
  ap,
  sym,
  ◌∙◌,
  arith,
  append-nil,
  length-append,
  length-drop,
  length-take,
  inl,
  inr,
  if◌then◌else◌,
}
use Rattle.std.specs.Prelude.{is_some, nat_lt}
use Rattle.std.proofs.lemmas.List.{take-append-drop, take-append-le, get_or-take, get_or_past}
use Rattle.std.specs.Int.{w32, from_be_bytes}
use Rattle.std.proofs.lemmas.Bool.{cases_lt, lt-ltb, le-ltb, ltb-false, eqb-false}
use Rattle.std.proofs.lemmas.Nat.{be_bytes_4}
use Rattle.ssh_encoding.specs.Writing.{string, uint32}
use Rattle.sftp_model.specs.declared.frame_error.FormatKind.{FormatKind}
use Rattle.sftp_model.specs.declared.frame_error.FormatKind.TheVariants as kinds
use Rattle.sftp_model.specs.Numbers.{MAX_BODY_LEN}
use Rattle.sftp_wire.specs.FrameReader.{told_len, missing_bytes, missing_with, fault_of, fault_of_len}
use Rattle.machine_answers.specs.WaitingFrames.{WaitingFrames}
use Rattle.sftp_map_server.specs.Serving.{ServerState, Replies, AbsorbsBytes, after_frames, both, nothing, server_of, step, over_at, with_said}

take_bytes : (n : ℕ) (bytes : List ℕ) → ((i : ℕ) → get_or bytes i 0 < 256) → (i : ℕ) → get_or (take n bytes) i 0 < 256
take_bytes n bytes fits i =
    elim (cases_lt i n) [
      | inl lt ↦ rw (get_or-take n bytes i 0 lt) (fits i)
      | inr le ↦ rw (get_or_past (take n bytes) i 0 (omega (arith, length-take n bytes))) (omega arith)
    ]

-- a length and as many bytes spell those bytes
pub spelled : (bytes : List ℕ) → ((i : ℕ) → get_or bytes i 0 < 256) → 4 ≤ length bytes → length bytes
    ≡ 4 + told_len bytes → bytes ≡ string (drop 4 bytes)
unfolding string uint32
spelled bytes fits some whole =
    let len : told_len bytes ≡ length (drop 4 bytes) = omega (arith, length-drop 4 bytes) in
    let four : length (take 4 bytes) ≡ 4 = omega (arith, length-take 4 bytes) in
    let back : uint32 (told_len bytes) ≡ take 4 bytes = be_bytes_4 (take 4 bytes) (told_len bytes) four
    (take_bytes 4 bytes fits) refl in
    sym (take-append-drop 4 bytes) ∙ ap (λ (w : List ℕ). w ++ drop 4 bytes) (sym back ∙ ap uint32 len)

-- ---- how much is missing

missing_short : (xs : List ℕ) → length xs < 4 → missing_bytes xs ≡ 4 - length xs
missing_short xs h = ap (λ (b : Bool). missing_with (if b then None else Some (told_len xs)) (length xs))
    (lt-ltb (length xs) 4 h)

missing_long : (xs : List ℕ) → 4 ≤ length xs → missing_bytes xs ≡ (4 + told_len xs) - length xs
missing_long xs h = ap (λ (b : Bool). missing_with (if b then None else Some (told_len xs)) (length xs))
    (le-ltb (length xs) 4 h)

-- the input with the bytes that came is a frame where nothing is missing
pub record IsWhole (xs : List ℕ) : Type 0 where
  pub four : 4 ≤ length xs
  pub len : length xs ≡ 4 + told_len xs

pub exact : (i bytes all : List ℕ) → all ≡ i ++ bytes → 0 < missing_bytes i → length bytes ≤ missing_bytes i
    → missing_bytes all ≡ 0 → IsWhole all
exact i bytes all is some within none =
    let total : length all ≡ length i + length bytes = ap length is ∙ length-append i bytes in
    let four : 4 ≤ length all = elim (cases_lt (length all) 4) [
      | inl lt ↦ (let m = missing_short all lt in absurd (omega (arith, m, none, lt)))
      | inr le ↦ le
    ] in
    let m = missing_long all four in
    let least : 4 + told_len all ≤ length all = omega (arith, m, none) in
    record {
      four = four;
      len = elim (cases_lt (length i) 4) [
        | inl lt ↦ (let k = missing_short i lt in omega (arith, k, total, within, least, four, lt))
        | inr le ↦
            let k = missing_long i le in
            let t : told_len all ≡ told_len i = ap told_len is ∙ ap (from_be_bytes w32) (take-append-le 4 i bytes le) in
            omega (arith, k, some, total, within, least, t, le)
      ];
    }

both_false : (a b : Bool) (x y : FormatKind) → is_some (if a then Some x else if b then Some y else None) ≡ false
    → (a ≡ false) × (b ≡ false)
both_false true b x y e = absurd cc
both_false false true x y e = absurd cc
both_false false false x y e = (refl, refl)

good_len : (n : ℕ) → is_some (fault_of_len (Some n)) ≡ false → (0 < n) × (n ≤ MAX_BODY_LEN)
good_len n e =
    let p = both_false (n == 0) (nat_lt MAX_BODY_LEN n) kinds.Length kinds.Overflow e in
    let z = eqb-false n 0 p.0 in
    let l = ltb-false MAX_BODY_LEN n p.1 in (
      elim (cases_lt 0 n) [
        | inl lt ↦ lt
        | inr le ↦ absurd (z (omega (arith, le)))
      ],
      l,
    )

good_told : (xs : List ℕ) → 4 ≤ length xs → is_some (fault_of xs) ≡ false → (0 < told_len xs)
    × (told_len xs ≤ MAX_BODY_LEN)
good_told xs h e = good_len (told_len xs) (ap (λ (b : Bool). is_some
    (fault_of_len (if b then None else Some (told_len xs)))) (sym (le-ltb (length xs) 4 h)) ∙ e)

-- ---- what is absorbed

-- what is said to no body
said_nothing : (o : WaitingFrames) → o ≡ with_said o nothing
said_nothing o =
    ap (λ (w : List ℕ). let q : WaitingFrames = record { ready = w; waiting = o.waiting; picks = o.picks } in q)
    (sym (append-nil o.ready))
    ∙ ap (λ (w : List (List ℕ)). let q : WaitingFrames = record { ready = o.ready ++ []; waiting = w; picks = o.picks }
    in q) (sym (append-nil o.waiting))

-- what is said to one body
said_once : (o : WaitingFrames) (said : Replies) → with_said o said ≡ with_said o (both said nothing)
said_once o said =
    ap (λ (w : List ℕ). let q : WaitingFrames = record {
      ready = o.ready ++ w;
      waiting = o.waiting ++ said.later;
      picks = o.picks;
    } in q) (sym (append-nil said.at_once))
    ∙ ap (λ (w : List (List ℕ)). let q : WaitingFrames = record
    { ready = o.ready ++ (said.at_once ++ []); waiting = o.waiting ++ w; picks = o.picks } in q)
    (sym (append-nil said.later))

pub absorb_over : (d : ServerState) (i bytes left : List ℕ) (o : WaitingFrames) → d.over ≡ true → left ≡ []
    → AbsorbsBytes (server_of d i o) bytes (server_of d left o)
absorb_over d i bytes left o e none = record {
  bodies = [];
  rest = i ++ bytes;
  short = tt;
  framed = refl;
  state = rw e refl;
  input = rw e none;
  part = rw none (omega arith);
  output = said_nothing o;
}

pub absorb_bad : (d after : ServerState) (i bytes all left : List ℕ) (o : WaitingFrames) → d.over ≡ false → all ≡ i
    ++ bytes
    → is_some (fault_of all) ≡ true → after ≡ over_at d → left ≡ []
    → AbsorbsBytes (server_of d i o) bytes (server_of after left o)
absorb_bad d after i bytes all left o e is bad over none = record {
  bodies = [];
  rest = all;
  short = tt;
  framed = sym is;
  state = rw (e, bad) over;
  input = rw (e, bad) none;
  part = rw none (omega arith);
  output = said_nothing o;
}

pub absorb_part : (d : ServerState) (i bytes all : List ℕ) (o : WaitingFrames) → d.over ≡ false → all ≡ i ++ bytes
    → is_some (fault_of all) ≡ false → 0 < missing_bytes all → AbsorbsBytes (server_of d i o) bytes (server_of d all o)
absorb_part d i bytes all o e is good some = record {
  bodies = [];
  rest = all;
  short = tt;
  framed = sym is;
  state = rw (e, good) refl;
  input = rw (e, good) refl;
  part = some;
  output = said_nothing o;
}

if_same : (b : Bool) (d : ServerState) → (if b then (let p : ServerState × List ℕ = (d, []) in p) else (d, []))
    ≡ (d, [])
if_same true d = refl
if_same false d = refl

behind_nothing : (d : ServerState) → after_frames d [] ≡ (d, [])
behind_nothing d = if_same d.over d

pub absorb_whole : (d after : ServerState) (i bytes all body left : List ℕ) (o out : WaitingFrames) → all ≡ i ++ bytes
    → IsWhole all → is_some (fault_of all) ≡ false → all ≡ string body → body ≡ drop 4 all
    → after ≡ (step d body).1 → out ≡ with_said o (step d body).0 → left ≡ []
    → AbsorbsBytes (server_of d i o) bytes (server_of after left out)
absorb_whole d after i bytes all body left o out is whole good framed behind_four stepped said none =
    let len : length body ≡ length all - 4 = ap length behind_four ∙ length-drop 4 all in
    let w = whole.len in
    let told = good_told all whole.four good in
    record {
      bodies = body ∷ [];
      rest = [];
      short = (let a = told.0 in omega (arith, a, len, w), let b = told.1 in omega (arith, b, len, w), tt);
      framed = sym is ∙ (framed ∙ (sym (append-nil (string body)) ∙ sym (append-nil (string body ++ []))));
      state = stepped ∙ sym (ap (λ (p : ServerState × List ℕ). p.0) (behind_nothing (step d body).1));
      input = none ∙ sym (ap (λ (p : ServerState × List ℕ). p.1) (behind_nothing (step d body).1));
      part = rw none (omega arith);
      output = said ∙ said_once o (step d body).0;
    }
