-- A frame and what comes after it.
use Rattle.std.proofs.Common.{◌≡◌, ◌<◌, ◌≤◌, ℕ, ◌==◌, Bool, true, false, List, [], ◌++◌, length, take, None, Ok, refl, ap, sym, ◌∙◌, arith, length-append}
use Rattle.std.specs.Prelude.{nat_lt}
use Rattle.std.specs.Int.{w32, from_be_bytes}
use Rattle.std.proofs.lemmas.Bool.Decides.{nat_tests}
use Rattle.std.proofs.lemmas.List.{take-append-le}
use Rattle.std.proofs.lemmas.Nat.{from_be_bytes-to_be_bytes_4}
use Rattle.ssh_encoding.specs.Writing.{string, uint32}
use Rattle.sftp_model.specs.Numbers.{MAX_BODY_LEN}
use Rattle.sftp_model.specs.Readings.{text_at}
use Rattle.sftp_model.proofs.FieldBacks.{text_back}
use Rattle.sftp_wire.proofs.Lengths.{length-string}
use Rattle.sftp_wire.specs.FrameReader.{missing_bytes, told_len, fault_of}

-- ---- one frame, and what comes after it

pub pair_is : {A B : Type 0} (a c : A) (b d : B) → (let p : A × B = (a, b) in p) ≡ (c, d) → (a ≡ c) × (b ≡ d)
pair_is {A = A} {B = B} a c b d e = (ap (λ (p : A × B). p.0) e, ap (λ (p : A × B). p.1) e)

-- a frame and what follows it are told apart in one way
pub one_string : (a b x y : List ℕ) → length a ≤ MAX_BODY_LEN → length b ≤ MAX_BODY_LEN → string a ++ x ≡ string b ++ y
    → (a ≡ b) × (x ≡ y)
one_string a b x y la lb e =
    let first : text_at (string a ++ x) ≡ Ok (a, x) = (text_back a la).back x in
    let second : text_at (string b ++ y) ≡ Ok (b, y) = (text_back b lb).back y in
    let both : Ok (a, x) ≡ Ok (b, y) = sym first ∙ (ap text_at e ∙ second) in
    let pairs : (a, x) ≡ (b, y) = cc both in
    pair_is a b x y pairs

pub no_frame : (body rest : List ℕ) → string body ++ rest ≡ [] → ⊥
unfolding string uint32
no_frame body rest e = cc e

not_short : (a b : List ℕ) → nat_lt (length (string a ++ b)) 4 ≡ false
not_short a b = (let l = length-append (string a) b in let m = length-string a in grind (arith, nat_tests))

told_string : (a b : List ℕ) → length a ≤ MAX_BODY_LEN → told_len (string a ++ b) ≡ length a
unfolding string uint32
told_string a b le = from_be_bytes-to_be_bytes_4 (length a) (omega (arith, le))

-- a whole frame misses nothing
pub nothing_missing : (a b : List ℕ) → length a ≤ MAX_BODY_LEN → missing_bytes (string a ++ b) ≡ 0
nothing_missing a b le =
    let l = length-append (string a) b in
    let m = length-string a in
    let t : told_len (string a ++ b) ≡ length a = told_string a b le in
    rw (not_short a b) (omega (arith, l, m, t))

lt_no : (m n : ℕ) → n ≤ m → nat_lt m n ≡ false
lt_no m n le = grind (arith, nat_tests)

eq_no : (m : ℕ) → 0 < m → (m == 0) ≡ false
eq_no m lt = grind (arith, nat_tests)

at_least : (n : ℕ) → nat_lt n 4 ≡ false → 4 ≤ n
at_least n e = grind (arith, nat_tests)

good_by : (b : Bool) (bytes body : List ℕ) → nat_lt (length bytes) 4 ≡ b → (b ≡ false → told_len bytes ≡ length body)
    → 0 < length body → length body ≤ MAX_BODY_LEN → fault_of bytes ≡ None
good_by true bytes body e t lt le = rw e refl
good_by false bytes body e t lt le = rw (e, t refl, eq_no (length body) lt, lt_no MAX_BODY_LEN (length body) le) refl

-- nor is anything wrong with a part of a frame
pub no_fault : (bytes y body rest : List ℕ) → bytes ++ y ≡ string body ++ rest → 0 < length body
    → length body ≤ MAX_BODY_LEN → fault_of bytes ≡ None
no_fault bytes y body rest e lt le =
    good_by (nat_lt (length bytes) 4) bytes body refl
    (λ f. ap (from_be_bytes w32) (sym (take-append-le 4 bytes y (at_least (length bytes) f)) ∙ ap (take 4) e)
    ∙ told_string body rest le) lt le
