-- What is got over several calls, and what is sent.
use Rattle.std.proofs.Common.{◌≡◌, ◌<◌, ◌≤◌, ◌+◌, ◌-◌, ℕ, true, false, List, [], ◌∷◌, ◌++◌, length, length-append, Option, Some, None, refl, ap, sym, ◌∙◌, subst, append_assoc, arith, inl, inr}
use Rattle.std.specs.Prelude.{Ok, Err, nat_lt, take, replicate}
use Rattle.std.proofs.lemmas.Bool.Decides.{nat_tests}
use Rattle.std.proofs.lemmas.List.{append-nil, length-drop, length-replicate, nil_from_length, take_all, take-append-le}
use Rattle.std.proofs.Math.Seq.{take-append_seam}
use borrow.Rule.Slice.PartMut.{post_of}
use Rattle.std.specs.Int.{w32, from_be_bytes}
use Rattle.sftp_model.specs.declared.error.Error.{Error}
use Rattle.sftp_model.specs.declared.frame_error.FormatKind.{FormatKind}
use Rattle.sftp_link.specs.declared.device_error.DeviceError.{DeviceError}
use Rattle.sftp_link.specs.declared.device_error.DeviceError.TheVariants as device
use Rattle.sftp_link.specs.declared.piece.Piece.{Piece}
use Rattle.sftp_link.specs.declared.piece.Piece.TheVariants.{Sent, Got}
use Rattle.sftp_link.specs.Log.{AllSent, AllGot, SentOn, GotOn}
use Rattle.sftp_link.specs.Told.{GotLess}
use Rattle.sftp_link.proofs.Telling.{put_from}
use Rattle.sftp_model.specs.declared.error.Error.TheVariants as error
use Rattle.sftp_wire.specs.FrameReader.{Received, nothing, need_of, need_where, fault_of, fault_of_len, missing_bytes, told_len}
use Rattle.link_frames.specs.Causes.{IsCausedByLink, fault_of_link}
use Rattle.sftp_link.specs.Views.{LinkView}
use Rattle.link_frames.specs.Reading.{BeginsFrame, IsFramePart, IsFramePrefix, IsUnfilled, IsWhole, ReadFails, RefusesLength, TellsWhy}

all_got_both : (late early : List Piece) (a b : List ℕ) → AllGot early a → AllGot late b
    → AllGot (late ++ early) (a ++ b)
all_got_both [] early a b e l = subst (λ (w : List ℕ). AllGot early w)
    (sym (ap (λ (w : List ℕ). a ++ w) l ∙ append-nil a)) e
all_got_both (Got piece ∷ late) early a b e l =
    (a ++ l.0, ap (λ (w : List ℕ). a ++ w) l.1 ∙ sym (append_assoc a l.0 piece), all_got_both late early a l.0 e l.2)
all_got_both (Sent piece ∷ late) early a b e l = absurd l

all_sent_both : (late early : List Piece) (a b : List ℕ) → AllSent early a → AllSent late b
    → AllSent (late ++ early) (a ++ b)
all_sent_both [] early a b e l = subst (λ (w : List ℕ). AllSent early w)
    (sym (ap (λ (w : List ℕ). a ++ w) l ∙ append-nil a)) e
all_sent_both (Sent piece ∷ late) early a b e l =
    (a ++ l.0, ap (λ (w : List ℕ). a ++ w) l.1 ∙ sym (append_assoc a l.0 piece), all_sent_both late early a l.0 e l.2)
all_sent_both (Got piece ∷ late) early a b e l = absurd l

-- some bytes were got, and then some more
pub got_both : (x y z : List Piece) (a b : List ℕ) → GotOn x y a → GotOn y z b → GotOn x z (a ++ b)
got_both x y z a b s t = (
  t.0 ++ s.0,
  t.1 ∙ ap (λ (w : List Piece). t.0 ++ w) s.1 ∙ sym (append_assoc t.0 s.0 x),
  all_got_both t.0 s.0 a b s.2 t.2,
)

-- some bytes were sent, and then some more
pub sent_both : (x y z : List Piece) (a b : List ℕ) → SentOn x y a → SentOn y z b → SentOn x z (a ++ b)
sent_both x y z a b s t = (
  t.0 ++ s.0,
  t.1 ∙ ap (λ (w : List Piece). t.0 ++ w) s.1 ∙ sym (append_assoc t.0 s.0 x),
  all_sent_both t.0 s.0 a b s.2 t.2,
)

pub got_nothing : (x : List Piece) → GotOn x x []
got_nothing x = ([], refl, refl)

missing_short : (bytes : List ℕ) → length bytes < 4 → missing_bytes bytes ≡ 4 - length bytes
missing_short bytes lt = let t : nat_lt (length bytes) 4 ≡ true = grind (arith, nat_tests) in rw t refl

missing_long : (bytes : List ℕ) → 4 ≤ length bytes → missing_bytes bytes ≡ (4 + told_len bytes) - length bytes
missing_long bytes le = let f : nat_lt (length bytes) 4 ≡ false = grind (arith, nat_tests) in rw f refl

need_is : (r : Received) → r.refused ≡ None → need_of r ≡ missing_bytes r.bytes
need_is r none = ap (λ (k : Option FormatKind). need_where k r.bytes) none

short : (bytes : List ℕ) → nat_lt (length bytes) 4 ≡ true → length bytes < 4
short bytes t = grind (arith, nat_tests)

long : (bytes : List ℕ) → nat_lt (length bytes) 4 ≡ false → 4 ≤ length bytes
long bytes f = grind (arith, nat_tests)

-- fewer bytes than were missing leave some missing
still_missing : (bytes front : List ℕ) → length front < missing_bytes bytes → 0 < missing_bytes (bytes ++ front)
still_missing bytes front lt =
    elim (nat_lt (length bytes) 4) as (λ b. nat_lt (length bytes) 4 ≡ b → 0 < missing_bytes (bytes ++ front)) [
      | true ↦ λ t.
          let l = short bytes t in
          let before = missing_short bytes l in
          let n = length-append bytes front in
          let after = missing_short (bytes ++ front) (omega (arith, n, before, lt, l)) in
          omega (arith, n, before, after, lt, l)
      | false ↦ λ f.
          let l = long bytes f in
          let before = missing_long bytes l in
          let n = length-append bytes front in
          let after = missing_long (bytes ++ front) (omega (arith, n, l)) in
          let same : told_len (bytes ++ front) ≡ told_len bytes =
          ap (from_be_bytes w32) (take-append-le 4 bytes front l) in
          omega (arith, n, before, after, same, lt, l)
    ] refl

-- a length is as wrong as it was, once it is there
fault_stays : (bytes more : List ℕ) → 4 ≤ length bytes → fault_of (bytes ++ more) ≡ fault_of bytes
fault_stays bytes more le =
    let n = length-append bytes more in
    let f : nat_lt (length bytes) 4 ≡ false = grind (arith, nat_tests) in
    let g : nat_lt (length (bytes ++ more)) 4 ≡ false = grind (arith, nat_tests, n) in
    let same : told_len (bytes ++ more) ≡ told_len bytes = ap (from_be_bytes w32) (take-append-le 4 bytes more le) in
    rw f (rw g (ap (λ (len : ℕ). fault_of_len (Some len)) same))

-- fewer than four bytes are no wrong length
unfaulted_short : (bytes : List ℕ) → length bytes < 4 → fault_of bytes ≡ None
unfaulted_short bytes lt = let t : nat_lt (length bytes) 4 ≡ true = grind (arith, nat_tests) in rw t refl

-- fewer bytes than were missing leave no wrong length
still_unfaulted : (bytes more : List ℕ) → fault_of bytes ≡ None → length more < missing_bytes bytes
    → fault_of (bytes ++ more) ≡ None
still_unfaulted bytes more none lt =
    elim (nat_lt (length bytes) 4) as (λ b. nat_lt (length bytes) 4 ≡ b → fault_of (bytes ++ more) ≡ None) [
      | true ↦ λ t.
          let l = short bytes t in
          let before = missing_short bytes l in
          let n = length-append bytes more in
          unfaulted_short (bytes ++ more) (omega (arith, n, before, lt, l))
      | false ↦ λ f. fault_stays bytes more (long bytes f) ∙ none
    ] refl

-- it ended or failed within a part
pub part_came : (r : Received) (room : List ℕ) (x y : List Piece) → r.refused ≡ None → fault_of r.bytes ≡ None
    → length room ≡ need_of r → GotLess room x y
    → (bytes : List ℕ) × (IsFramePart (r.bytes ++ bytes) × GotOn x y bytes)
part_came r room x y none unfaulted fits less =
    let need = need_is r none in
    let cut = length-append less.0 less.1 in
    let whole : length room ≡ length (less.0 ++ less.1) = ap length less.2 in
    let fewer : length less.0 < missing_bytes r.bytes = omega (arith, need, cut, whole, fits, less.3) in (
      less.0,
      (
        record {
          unfaulted = still_unfaulted r.bytes less.0 unfaulted fewer;
          short =
              still_missing r.bytes less.0 fewer;
        },
        less.4,
      ),
    )

-- a part of a frame is within it
part_within : (bytes : List ℕ) → IsFramePart bytes → IsFramePrefix bytes
part_within bytes p = record {
  unfaulted = p.unfaulted;
  within =
      λ le. (let m = missing_long bytes le in let s = p.short in omega (arith, m, s));
}

-- a part of a frame did not come, by a failure of the link or out of memory
pub part_fails : (e : DeviceError) (r : Received) (room : List ℕ) (x y : List Piece) → r.refused ≡ None
    → IsFramePrefix r.bytes → length room ≡ need_of r → GotLess room x y
    → (bytes : List ℕ) × (TellsWhy (fault_of_link e) (r.bytes ++ bytes) × GotOn x y bytes)
part_fails device.OutOfMemory r room x y none prefix fits less =
    (let w = part_came r room x y none prefix.unfaulted fits less in
    (w.0, (inl (part_within (r.bytes ++ w.0) w.1.0), w.1.1)))
part_fails device.Failed r room x y none prefix fits less = part_came r room x y none prefix.unfaulted fits less

-- a room for a part of a frame was not filled
room_fails : (e : Error) (r : Received) (room : List ℕ) (x y : List Piece) → r.refused ≡ None → IsFramePrefix r.bytes
    → length room ≡ need_of r → IsUnfilled e → GotLess room x y
    → (bytes : List ℕ) × (TellsWhy e (r.bytes ++ bytes) × GotOn x y bytes)
room_fails error.OutOfMemory r room x y none prefix fits u less =
    part_fails device.OutOfMemory r room x y none prefix fits less
room_fails error.LinkFault r room x y none prefix fits u less =
    part_came r room x y none prefix.unfaulted fits less
room_fails error.LinkEnded r room x y none prefix fits u less =
    part_came r room x y none prefix.unfaulted fits less
room_fails other r room x y none prefix fits u less = absurd u

no_bytes : IsFramePrefix []
no_bytes = record { unfaulted = refl; within = λ le. absurd (omega (arith, le)) }

-- the four bytes of the length did not come
pub length_fails : (e : Error) (room : List ℕ) (x y : List Piece) → length room ≡ 4 → IsUnfilled e → GotLess room x y
    → ReadFails e x y
length_fails e room x y four u less = room_fails e nothing room x y refl no_bytes four u less

only_length : (len : List ℕ) → length len ≡ 4 → fault_of len ≡ None → IsFramePrefix len
only_length len four unfaulted = record { unfaulted = unfaulted; within = λ le. omega (arith, four) }

-- the length came, and its body did not
pub body_fails : (e : Error) (len frame room : List ℕ) (x y z : List Piece) → length len ≡ 4 → BeginsFrame len frame
    → length room ≡ length frame - 4 → IsUnfilled e → GotOn x y len → GotLess room y z → ReadFails e x z
body_fails e len frame room x y z four begun fits u got less =
    let long = missing_long len (omega (arith, four)) in
    let all = begun.room in
    let f = room_fails e (record { bytes = len; refused = None }) room y z refl
    (only_length len four begun.unfaulted) (omega (arith, fits, all, long, four)) u less in
    (len ++ f.0, (f.1.0, got_both x y z len f.0 got f.1.1))

-- the length came, and it is wrong, or memory ran out
pub length_came : (e : Error) (len : List ℕ) (x y : List Piece) → length len ≡ 4 → RefusesLength e len → GotOn x y len
    → ReadFails e x y
length_came error.OutOfMemory len x y four refuses got = (len, (inr four, got))
length_came (error.FormatError kind) len x y four refuses got =
    (len, ((kind, (refl, record { four = four; bad = refuses })), got))
length_came other len x y four refuses got = absurd refuses

pub length_caused : {S T U : Type 0} (a b : LinkView S) (x : U) (e : Error) (len : List ℕ) → RefusesLength e len
    → IsCausedByLink a b (Ok x) → IsCausedByLink {T = T} a b (Err e)
length_caused a b x error.OutOfMemory len refuses c =
    record { cause = c.cause; end = tt; only = tt; service = c.service }
length_caused a b x (error.FormatError kind) len refuses c =
    record { cause = c.cause; end = tt; only = tt; service = c.service }
length_caused a b x other len refuses c = absurd refuses

pub frame_begins : (len frame : List ℕ) (n : ℕ) → length len ≡ 4 → fault_of len ≡ None → n ≡ told_len len
    → frame ≡ take (4 + n) len ++ replicate ((4 + n) - length len) 0 → BeginsFrame len frame
frame_begins len frame n four unfaulted told is =
    let same : take (4 + n) len ≡ len = take_all (4 + n) len (omega (arith, four)) in
    let joined : frame ≡ len ++ replicate ((4 + n) - length len) 0 = is
    ∙ ap (λ (w : List ℕ). w ++ replicate ((4 + n) - length len) 0) same in
    let zeros = length-replicate {A = ℕ} ((4 + n) - length len) 0 in
    let all = length-append len (replicate ((4 + n) - length len) 0) in
    let whole : length frame ≡ length (len ++ replicate ((4 + n) - length len) 0) = ap length joined in
    record {
      unfaulted = unfaulted;
      begins =
          ap (take 4) joined
          ∙ (subst (λ (k : ℕ). take k (len ++ replicate ((4 + n) - length len) 0) ≡ len) four
          (take-append_seam len (replicate ((4 + n) - length len) 0)));
      room = omega (arith, zeros, all, whole, four, told);
    }

-- a frame whose body was filled is its length and that body
pub filled_frame : (len frame room : List ℕ) → BeginsFrame len frame → length room ≡ length frame - 4
    → put_from frame 4 room ≡ len ++ room
filled_frame len frame room begun fits =
    let all = begun.room in
    let none : post_of 4 (length frame - 4) frame ≡ [] = nil_from_length (post_of 4 (length frame - 4) frame)
    (omega (arith, all, length-drop {A = ℕ})) in
    (λ i. begun.begins i ++ (room ++ none i)) ∙ ap (λ (w : List ℕ). len ++ w) (append-nil room)

-- and so are the items of its vector
pub filled_items : (len frame room rest : List ℕ) (n : ℕ) → length len ≡ 4 → BeginsFrame len frame
    → length room ≡ length frame - 4 → n ≡ length frame → take n (put_from frame 4 room ++ rest) ≡ len ++ room
filled_items len frame room rest n four begun fits is =
    let all = begun.room in
    let both = length-append len room in
    let count : length (len ++ room) ≡ n = omega (arith, all, both, four, fits, is) in
    ap (λ (w : List ℕ). take n (w ++ rest)) (filled_frame len frame room begun fits)
    ∙ subst (λ (k : ℕ). take k ((len ++ room) ++ rest) ≡ len ++ room) count (take-append_seam (len ++ room) rest)

-- all of a frame has come
pub whole_frame : (len frame room : List ℕ) → length len ≡ 4 → BeginsFrame len frame → length room ≡ length frame - 4
    → IsWhole (record { bytes = len ++ room; refused = None })
whole_frame len frame room four begun fits =
    let all = begun.room in
    let n = length-append len room in
    let same : told_len (len ++ room) ≡ told_len len =
    ap (from_be_bytes w32) (take-append-le 4 len room (omega (arith, four))) in
    let long = missing_long (len ++ room) (omega (arith, n, four)) in
    record {
      unrefused = refl;
      none_missing = omega (arith, long, n, four, fits, all, same);
      prefix =
          record {
            unfaulted = fault_stays len room (omega (arith, four)) ∙ begun.unfaulted;
            within = λ le. omega (arith, n, four, fits, all, same);
          };
    }
