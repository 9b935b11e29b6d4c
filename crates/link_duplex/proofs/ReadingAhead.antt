-- Bytes that are read ahead and returned.
use Rattle.std.proofs.Common.{◌≡◌, ◌<◌, ◌≤◌, ◌+◌, ◌-◌, ℕ, List, [], ◌++◌, take, drop, length, min, Some, ap, sym, ◌∙◌, subst, arith, length-append, length-drop}
use Rattle.std.specs.Prelude.{Ok}
use Rattle.std.proofs.lemmas.List.{take-append-drop, take-append-le, take_all, drop-append-le, drop-drop, drop-take, length-take, take-take}
use Rattle.std.proofs.Math.Seq.{take-append_seam}
use Rattle.sftp_link.proofs.Telling.{take_seam}
use Rattle.link_duplex.specs.Buffers.{GivesPrefix, ReadsAhead}
use Rattle.link_duplex.specs.Wires.{HasGot, WireView}
use Rattle.link_duplex.specs.declared.read_ahead.GetOutcome.TheVariants as outcome

-- The bytes ahead are the first of those that were not returned.
ahead_is : (items : List ℕ) (given came : ℕ) → given ≤ came → drop given (take came items)
    ≡ take (came - given) (drop given items)
ahead_is items given came le =
    let whole : came ≡ given + (came - given) = omega arith in
    ap (λ (k : ℕ). drop given (take k items)) whole ∙ drop-take given (came - given) items

-- Bytes were copied to the start of a room.
pub gave : (items copied room : List ℕ) (given came n : ℕ) → given ≤ came → came ≤ length items → n
    ≡ min (length room) (came - given)
    → copied ≡ take n (drop given items)
    → GivesPrefix (drop given (take came items)) (drop (given + n) (take came items)) (copied ++ drop n room) n
gave items copied room given came n le fits is copy =
    let ahead : drop given (take came items) ≡ take (came - given) (drop given items) = ahead_is items given came le in
    let len : length (drop given (take came items)) ≡ came - given =
    omega (arith, length-drop given (take came items), length-take came items) in
    let copied_len : length copied ≡ n = ap (λ (w : List ℕ). length w) copy
    ∙ omega (arith, is, length-take n (drop given items), length-drop given items) in
    let room_len : length (copied ++ drop n room) ≡ length room =
    omega (arith, is, copied_len, length-append copied (drop n room), length-drop n room) in
    let prefix : take n (copied ++ drop n room) ≡ copied = subst (λ (k : ℕ). take k (copied ++ drop n room) ≡ copied)
    copied_len (take-append_seam copied (drop n room)) in
    let firsts : take n (drop given (take came items)) ≡ take n (copied ++ drop n room) =
    ap (λ (w : List ℕ). take n w) ahead ∙ (take-take n (came - given) (drop given items) (omega (arith, is))
    ∙ (sym copy ∙ sym prefix)) in (
      is ∙ (λ i. min (sym room_len i) (sym len i)),
      sym (take-append-drop n (drop given (take came items))) ∙
          (λ i. firsts i ++ drop-drop n given (take came items) i),
    )

-- The room grew.
pub grown : (n m : ℕ) (items zeros : List ℕ) → n ≤ length items → length items ≤ m → take n (take m items ++ zeros)
    ≡ take n items
grown n m items zeros fits le = ap (λ (w : List ℕ). take n (w ++ zeros)) (take_all m items le)
    ∙ take-append-le n items zeros fits

-- All bytes were returned.
pub all_given : (items : List ℕ) (given came : ℕ) → given ≤ came → came - given ≡ 0 → [] ≡ drop given (take came items)
all_given items given came le none = sym (ahead_is items given came le ∙ ap (λ (k : ℕ). take k (drop given items)) none)

-- ---- A get into the room

pub took : (limit : ℕ) (old items put post more : List ℕ) (given came n len : ℕ) (x y : WireView)
    → drop given (take came items) ≡ old → given ≤ came
    → came ≤ length items → n ≤ length put → 0 < n → length (take came items ++ (put ++ post)) ≡ len
    → HasGot put x y (Ok (Some n))
    → ReadsAhead limit old (drop given (take (came + n)
    (take len ((take came items ++ (put ++ post)) ++ drop (length (take came items ++ (put ++ post))) more)))) x y
    (Ok outcome.Came)
took limit old items put post more given came n len x y was le fits within some is_len got =
    let at : length (take came items) ≡ came = omega (arith, length-take came items) in
    let whole : take len ((take came items ++ (put ++ post)) ++ drop (length (take came items ++ (put ++ post))) more)
    ≡ take came items ++ (put ++ post) =
    subst (λ (k : ℕ). take k ((take came items ++ (put ++ post))
    ++ drop (length (take came items ++ (put ++ post))) more) ≡ take came items ++ (put ++ post)) is_len
    (take-append_seam (take came items ++ (put ++ post)) (drop (length (take came items ++ (put ++ post))) more)) in
    let new : drop given (take (came + n) (take len ((take came items ++ (put ++ post))
    ++ drop (length (take came items ++ (put ++ post))) more))) ≡ old ++ take n put =
    ap (λ (w : List ℕ). drop given (take (came + n) w)) whole
    ∙ (ap (λ (w : List ℕ). drop given w) (take_seam (take came items) put post came n at within)
    ∙ (drop-append-le given (take came items) (take n put) (omega (arith, at))
    ∙ ap (λ (w : List ℕ). w ++ take n put) was)) in
    record {
      takes = (take n put, new, omega (arith, length-take n put), got.log);
      cause = got.cause;
    }
