-- Rows of frames, and what is missing of a frame.
use Rattle.std.proofs.Common.{
  ◌≡◌,
  ◌<◌,
  ◌≤◌,
  ℕ,
  ◌==◌,
  Bool,
  true,
  false,
  List,
  [],
  ◌∷◌,
  ◌++◌,
  length,
  take,
  None,
  Ok,
  refl,
  ap,
  sym,
  ◌∙◌,
  append_assoc,
  arith,
  length-append,
}
use Rattle.std.specs.Prelude.{nat_lt}
use Rattle.std.specs.Int.{w32, from_be_bytes}
use Rattle.std.specs.List.{flat_map}
use Rattle.std.proofs.lemmas.Bool.Decides.{nat_tests}
use Rattle.std.proofs.lemmas.List.{take-append-le}
use Rattle.std.proofs.lemmas.Nat.{from_be_bytes-to_be_bytes_4}
use Rattle.ssh_encoding.specs.Writing.{string, uint32}
use Rattle.sftp_model.specs.Numbers.{MAX_BODY_LEN}
use Rattle.sftp_model.specs.Readings.{text_at}
use Rattle.sftp_model.proofs.FieldBacks.{text_back}
use Rattle.sftp_wire.proofs.Lengths.{length-string}
use Rattle.sftp_wire.specs.FrameReader.{missing_bytes, told_len, fault_of}
use Rattle.sftp_map_server.specs.Serving.{AllShort}

-- ---- rows of frames

pub pair_is : {A B : Type 0} (a c : A) (b d : B) → (let p : A × B = (a, b) in p) ≡ (c, d) → (a ≡ c) × (b ≡ d)
pair_is {A = A} {B = B} a c b d e = (ap (λ (p : A × B). p.0) e, ap (λ (p : A × B). p.1) e)

-- a frame and what follows it are told apart in one way
pub one_string : (a b x y : List ℕ) → length a ≤ MAX_BODY_LEN → length b ≤ MAX_BODY_LEN → string a ++ x ≡ string b ++ y
    → (a ≡ b) × (x ≡ y)
one_string a b x y la lb e =
    let first : text_at (string a ++ x) ≡ Ok (a, x) = (text_back a la).back x in
    let second : text_at (string b ++ y) ≡ Ok (b, y) = (text_back b lb).back y in
    let both : Ok (a, x) ≡ Ok (b, y) = sym first ∙ (ap text_at e ∙ second) in
    let pairs : (a, x) ≡ (b, y) = cc both in
    pair_is a b x y pairs

pub no_frame : (body rest : List ℕ) → string body ++ rest ≡ [] → ⊥
unfolding string uint32
no_frame body rest e = cc e

-- frames at the front of frames are the first of them
pub frames_front : (xs all : List (List ℕ)) (y : List ℕ) → AllShort xs → AllShort all → flat_map string xs ++ y
    ≡ flat_map string all
    → (more : List (List ℕ)) × (all ≡ xs ++ more) × (y ≡ flat_map string more)
frames_front [] all y sx sa e = (all, refl, e)
frames_front (x ∷ xs) [] y sx sa e = absurd (no_frame x (flat_map string xs ++ y)
    (sym (append_assoc (string x) (flat_map string xs) y) ∙ e))
frames_front (x ∷ xs) (a ∷ all) y sx sa e =
    let one = one_string x a (flat_map string xs ++ y) (flat_map string all) sx.1 sa.1
    (sym (append_assoc (string x) (flat_map string xs) y) ∙ e) in
    let rest = frames_front xs all y sx.2 sa.2 one.1 in
    (rest.0, cc (one.0, rest.1), rest.2)

-- ---- one frame

not_short : (a b : List ℕ) → nat_lt (length (string a ++ b)) 4 ≡ false
not_short a b = (let l = length-append (string a) b in let m = length-string a in grind (arith, nat_tests))

told_string : (a b : List ℕ) → length a ≤ MAX_BODY_LEN → told_len (string a ++ b) ≡ length a
unfolding string uint32
told_string a b le = from_be_bytes-to_be_bytes_4 (length a) (omega (arith, le))

-- a whole frame misses nothing
pub nothing_missing : (a b : List ℕ) → length a ≤ MAX_BODY_LEN → missing_bytes (string a ++ b) ≡ 0
nothing_missing a b le =
    let l = length-append (string a) b in
    let m = length-string a in
    let t : told_len (string a ++ b) ≡ length a = told_string a b le in
    rw (not_short a b) (omega (arith, l, m, t))

lt_no : (m n : ℕ) → n ≤ m → nat_lt m n ≡ false
lt_no m n le = grind (arith, nat_tests)

eq_no : (m : ℕ) → 0 < m → (m == 0) ≡ false
eq_no m lt = grind (arith, nat_tests)

at_least : (n : ℕ) → nat_lt n 4 ≡ false → 4 ≤ n
at_least n e = grind (arith, nat_tests)

good_by : (b : Bool) (bytes body : List ℕ) → nat_lt (length bytes) 4 ≡ b → (b ≡ false → told_len bytes ≡ length body)
    → 0 < length body → length body ≤ MAX_BODY_LEN → fault_of bytes ≡ None
good_by true bytes body e t lt le = rw e refl
good_by false bytes body e t lt le = rw (e, t refl, eq_no (length body) lt, lt_no MAX_BODY_LEN (length body) le) refl

-- nor is anything wrong with a part of a frame
pub no_fault : (bytes y body rest : List ℕ) → bytes ++ y ≡ string body ++ rest → 0 < length body
    → length body ≤ MAX_BODY_LEN → fault_of bytes ≡ None
no_fault bytes y body rest e lt le =
    good_by (nat_lt (length bytes) 4) bytes body refl
    (λ f. ap (from_be_bytes w32) (sym (take-append-le 4 bytes y (at_least (length bytes) f)) ∙ ap (take 4) e)
    ∙ told_string body rest le) lt le

nothing_left : (x y : List ℕ) → x ++ y ≡ [] → x ≡ []
nothing_left [] y e = refl
nothing_left (n ∷ x) y e = absurd cc

-- nor with a part of frames
pub no_faults : (bytes y : List ℕ) (all : List (List ℕ)) → AllShort all → bytes ++ y ≡ flat_map string all
    → fault_of bytes ≡ None
no_faults bytes y [] short e = ap fault_of (nothing_left bytes y e)
no_faults bytes y (body ∷ more) short e = no_fault bytes y body (flat_map string more) e short.0 short.1
