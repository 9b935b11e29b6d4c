-- What is sent over several calls of a link, and where the rest begins.
use Rattle.std.proofs.Common.{
  ◌≡◌,
  ◌<◌,
  ◌≤◌,
  ◌+◌,
  ◌-◌,
  ◌^◌,
  ℕ,
  List,
  [],
  ◌∷◌,
  ◌++◌,
  take,
  drop,
  length,
  length-append,
  length-drop,
  refl,
  ap,
  sym,
  ◌∙◌,
  subst,
  append_assoc,
  arith,
}
use Rattle.std.specs.Prelude.{Result, Ok, Err, Some, slice_index_or}
use Rattle.std.proofs.lemmas.List.{append-nil, drop-append-le, drop-drop, drop_more, take-append-drop, take-append-le}
use Rattle.std.proofs.Math.Seq.{drop-append-add}
use Rattle.sftp_link.specs.Moves.{HasSent}
use Rattle.sftp_link.specs.Told.{IfLogged, OneMore, SentAll}
use Rattle.sftp_link.specs.Views.{LinkView}
use Rattle.sftp_link.specs.declared.device_error.DeviceError.{DeviceError}
use Rattle.sftp_link.specs.declared.device_error.DeviceError.TheVariants as device
use Rattle.sftp_link.specs.declared.piece.Piece.TheVariants.{Sent}
use Rattle.sftp_link.proofs.Telling.{sent_more, sent_nothing, told_on, told_self}
use Rattle.sftp_core.specs.Frames.{AreFilled}
use Rattle.sftp_model.specs.Pieces.{joined_pieces}
use Rattle.link_frames.specs.Causes.{IsCausedByLink, IsUnsent, fault_of_link}
use Rattle.link_frames.proofs.Joining.{caused_on, caused_self}
use Rattle.sftp_client.specs.Outgoing.{IsPrefixOf, IsAt, IsWithin, SendsOn, unsent_from}

-- ---- a place in a chunk

-- what is unsent, by the pieces from the place on
pub unsent_at : (pieces : List (List ℕ)) (i k : ℕ) (p : List ℕ) (later : List (List ℕ)) → drop i pieces ≡ p ∷ later
    → k ≤ length p
    → unsent_from (Some pieces) i k ≡ drop k p ++ joined_pieces later
unsent_at pieces i k p later is within = ap (λ (w : List (List ℕ)). drop k (joined_pieces w)) is
    ∙ drop-append-le k p (joined_pieces later) within

-- some more of the first piece was sent
pub pass_within : (pieces : List (List ℕ)) (i k n : ℕ) → drop n (unsent_from (Some pieces) i k)
    ≡ unsent_from (Some pieces) i (k + n)
pass_within pieces i k n = drop-drop n k (joined_pieces (drop i pieces))

-- all of the first piece was sent, and maybe more
pub pass_piece : (pieces : List (List ℕ)) (i k n : ℕ) (p : List ℕ) (later : List (List ℕ)) → drop i pieces ≡ p ∷ later
    → drop (i + 1) pieces ≡ later → k ≤ length p → length p - k ≤ n
    → drop n (unsent_from (Some pieces) i k) ≡ drop (n - (length p - k)) (unsent_from (Some pieces) (i + 1) 0)
pass_piece pieces i k n p later is next within all =
    let rest = length p - k in
    let len : length (drop k p) ≡ rest = length-drop k p in
    let cut : n ≡ length (drop k p) + (n - rest) = omega (arith, len, all) in
    ap (drop n) (unsent_at pieces i k p later is within)
    ∙ ap (λ (m : ℕ). drop m (drop k p ++ joined_pieces later)) cut
    ∙ drop-append-add (drop k p) (joined_pieces later) (n - rest)
    ∙ ap (λ (w : List (List ℕ)). drop (n - rest) (joined_pieces w)) (sym next)

-- how much is unsent where a piece is there
pub some_unsent : (pieces : List (List ℕ)) (i k : ℕ) (p : List ℕ) (later : List (List ℕ)) → drop i pieces ≡ p ∷ later
    → k ≤ length p
    → length (unsent_from (Some pieces) i k) ≡ (length p - k) + length (joined_pieces later)
some_unsent pieces i k p later is within =
    ap length (unsent_at pieces i k p later is within) ∙ (length-append (drop k p) (joined_pieces later)
    ∙ ap (λ (n : ℕ). n + length (joined_pieces later)) (length-drop k p))

-- Something is unsent if a piece is left.
pub left_unsent : (pieces : List (List ℕ)) (i k : ℕ) → IsAt (Some pieces) i k → i < length pieces
    → 0 < length (unsent_from (Some pieces) i k)
left_unsent pieces i k at there =
    let is : drop i pieces ≡ slice_index_or pieces i [] ∷ drop (i + 1) pieces = drop_more pieces i [] there in
    let inside : k < length (slice_index_or pieces i []) = subst (λ (w : List (List ℕ)). IsWithin w k) is at.1 in
    let len = some_unsent pieces i k (slice_index_or pieces i []) (drop (i + 1) pieces) is (omega (arith, inside)) in
    omega (arith, len, inside)

-- ---- what was sent so far

-- the first of the bytes were sent, and the link didn't fail
abbrev pub SentSoFar : {S : Type 0} → List ℕ → List ℕ → LinkView S → LinkView S → Type 0
SentSoFar old new before now = (sent : List ℕ) × ((old ≡ sent ++ new)
    × (IfLogged (SentAll sent) before.log now.log × IsCausedByLink {T = Unit {0}} before now (Ok tt)))

pub none_sent : {S : Type 0} (bytes : List ℕ) (x : LinkView S) → SentSoFar bytes bytes x x
none_sent bytes x = ([], (refl, (told_self (SentAll []) x.log sent_nothing, caused_self x tt)))

-- a send took some
sent_one : {S : Type 0} (bytes : List ℕ) (n : ℕ) (x y : LinkView S) → HasSent S bytes x y (Ok n)
    → IsCausedByLink {T = Unit {0}} x y (Ok tt)
sent_one bytes n x y s = record { cause = s.cause; end = tt; only = tt; service = s.same }

pub sent_next : {S : Type 0} (old mid : List ℕ) (n : ℕ) {x y z : LinkView S} → SentSoFar old mid x y
    → HasSent S mid y z (Ok n)
    → SentSoFar old (drop n mid) x z
sent_next {S = S} old mid n {x = x} {y = y} {z = z} so more = (
  so.0 ++ take n mid,
  (
    so.1.0 ∙ (ap (λ (w : List ℕ). so.0 ++ w) (sym (take-append-drop n mid))
        ∙ sym (append_assoc so.0 (take n mid) (drop n mid))),
    (
      told_on (SentAll so.0) (OneMore Sent (take n mid)) (SentAll (so.0 ++ take n mid)) x.log y.log z.log so.1.1.0
          more.log
          (λ p q r s e. sent_more p q r so.0 (take n mid) s e),
      caused_on x y z tt (Ok tt) so.1.1.1 (sent_one mid n y z more),
    ),
  ),
)

-- the next call may still count a fault
pub still_counted : {S : Type 0} {old new : List ℕ} {x y : LinkView S} → x.faults < 2 ^ 64 - 1 → SentSoFar old new x y
    → y.faults < 2 ^ 64 - 1
still_counted {y = y} count so = subst (λ (n : ℕ). n < 2 ^ 64 - 1) (sym so.1.1.1.cause) count

-- a send failed
send_failed : {S : Type 0} (bytes : List ℕ) (e : DeviceError) (x y : LinkView S) → HasSent S bytes x y (Err e)
    → IsCausedByLink {T = Unit {0}} x y (Err (fault_of_link e))
send_failed bytes device.OutOfMemory x y s = record { cause = s.cause; end = tt; only = tt; service = s.same }
send_failed bytes device.Failed x y s = record { cause = s.cause; end = tt; only = tt; service = s.same }

is_unsent : (e : DeviceError) → IsUnsent (fault_of_link e)
is_unsent device.OutOfMemory = tt
is_unsent device.Failed = tt

pub sent_until : {S : Type 0} (old mid : List ℕ) (e : DeviceError) {x y z : LinkView S} → SentSoFar old mid x y
    → HasSent S mid y z (Err e) → 0 < length mid
    → SendsOn {T = Unit {0}} old mid x z (Err (fault_of_link e))
sent_until old mid e {x = x} {y = y} {z = z} so less some = record {
  sent = so.0;
  cut = so.1.0;
  whole = tt;
  rest = some;
  log = told_on (SentAll so.0) (λ p q. q ≡ p) (SentAll so.0) x.log y.log z.log so.1.1.0 less.log
      (λ p q r s e. subst (λ (w : List _). SentAll so.0 p w) (sym e) s);
  only = is_unsent e;
  caused = caused_on x y z tt (Err (fault_of_link e)) so.1.1.1 (send_failed mid e y z less);
}

pub all_sent : {S : Type 0} (old new : List ℕ) {x y : LinkView S} → new ≡ [] → SentSoFar old new x y
    → SendsOn {T = Unit {0}} old new x y (Ok tt)
all_sent old new none so = record {
  sent = so.0;
  cut = so.1.0;
  whole = none;
  rest = tt;
  log = so.1.1.0;
  only = tt;
  caused =
      so.1.1.1;
}

-- ---- what is gathered

-- a send of the first of the bytes is one of the bytes
pub sends_first : {S : Type 0} (first bytes : List ℕ) {x y : LinkView S} (r : Result ℕ DeviceError)
    → IsPrefixOf first bytes
    → HasSent S first x y r → HasSent S bytes x y r
sends_first {S = S} first bytes {x = x} {y = y} (Err e) begins s =
    record { within = tt; log = s.log; end = s.end; cause = s.cause; same = s.same }
sends_first {S = S} first bytes {x = x} {y = y} (Ok n) begins s =
    let len : length bytes ≡ length first + length begins.0 = ap length begins.1 ∙ length-append first begins.0 in
    let same : take n first ≡ take n bytes = sym (take-append-le n first begins.0 s.within.1)
    ∙ ap (take n) (sym begins.1) in
    record {
      within = (s.within.0, (let w = s.within.1 in omega (arith, len, w)));
      log = subst (λ (w : List ℕ). IfLogged (OneMore Sent w) x.log y.log) same s.log;
      end = s.end;
      cause = s.cause;
      same = s.same;
    }

joined_both : (a b : List (List ℕ)) → joined_pieces (a ++ b) ≡ joined_pieces a ++ joined_pieces b
joined_both [] b = refl
joined_both (p ∷ a) b = ap (λ (w : List ℕ). p ++ w) (joined_both a b)
    ∙ sym (append_assoc p (joined_pieces a) (joined_pieces b))

-- what was gathered so far begins all
pub gathered_begins : (first items : List ℕ) (later : List (List ℕ)) (i : ℕ) → items ≡ first
    ++ joined_pieces (take i later)
    → IsPrefixOf items (first ++ joined_pieces later)
gathered_begins first items later i is =
    let cut : joined_pieces later ≡ joined_pieces (take i later) ++ joined_pieces (drop i later) =
    ap joined_pieces (sym (take-append-drop i later)) ∙ joined_both (take i later) (drop i later) in (
      joined_pieces (drop i later),
      ap (λ (w : List ℕ). first ++ w) cut ∙ (sym (append_assoc first (joined_pieces (take i later))
          (joined_pieces (drop i later)))
          ∙ ap (λ (w : List ℕ). w ++ joined_pieces (drop i later)) (sym is)),
    )

-- a piece more was gathered
pub gathered_next : (first old new piece : List ℕ) (later : List (List ℕ)) (i : ℕ) → take (i + 1) later ≡ take i later
    ++ piece ∷ []
    → old ≡ first ++ joined_pieces (take i later) → new ≡ old ++ piece → new ≡ first
    ++ joined_pieces (take (i + 1) later)
gathered_next first old new piece later i cut is more =
    let one : joined_pieces (take (i + 1) later) ≡ joined_pieces (take i later) ++ piece =
    ap joined_pieces cut ∙ (joined_both (take i later) (piece ∷ [])
    ∙ ap (λ (w : List ℕ). joined_pieces (take i later) ++ w) (append-nil piece)) in
    more ∙ (ap (λ (w : List ℕ). w ++ piece) is ∙ (append_assoc first (joined_pieces (take i later)) piece
    ∙ ap (λ (w : List ℕ). first ++ w) (sym one)))

-- ---- a place that moves

-- a piece is there where a byte is unsent
piece_there : (pieces : List (List ℕ)) (i k left : ℕ) → 0 < left → left ≤ length (unsent_from (Some pieces) i k)
    → i < length pieces
piece_there pieces i k left some within = by_rest (drop i pieces) refl within
  where
    by_rest : (ps : List (List ℕ)) → drop i pieces ≡ ps → left ≤ length (drop k (joined_pieces ps)) → i < length pieces
    by_rest [] is le = let n = length-drop k (joined_pieces []) in absurd (omega (arith, n, le, some))
    by_rest (p ∷ ps) is le = let n = length-drop i pieces in let m : length (drop i pieces) ≡ length (p ∷ ps) =
        ap length is in omega (arith, n, m)

-- the place at the beginning of a piece
piece_begins : (pieces : List (List ℕ)) (i : ℕ) → AreFilled pieces → IsWithin (drop i pieces) 0
piece_begins pieces i filled = by_rest (drop i pieces) refl
  where
    by_rest : (ps : List (List ℕ)) → drop i pieces ≡ ps → IsWithin ps 0
    by_rest [] is = refl
    by_rest (p ∷ ps) is =
        let n = length-drop i pieces in
        let m : length (drop i pieces) ≡ length (p ∷ ps) = ap length is in
        let lt : i < length pieces = omega (arith, n, m) in
        let head : p ≡ slice_index_or pieces i [] = ap (λ (w : List (List ℕ)). slice_index_or w 0 [])
        (sym is ∙ drop_more pieces i [] lt) in
        subst (λ (w : List ℕ). 0 < length w) (sym head) (filled i [] lt)

pub record Passes (pieces : List (List ℕ)) (i k left rest : ℕ) : Type 0 where
  pub at : IsWithin (drop (i + 1) pieces) 0
  pub passed : drop (left - rest) (unsent_from (Some pieces) (i + 1) 0) ≡ drop left (unsent_from (Some pieces) i k)
  pub within : left - rest ≤ length (unsent_from (Some pieces) (i + 1) 0)

-- all of the first piece was sent, and the place stands at the next
pub passes : (pieces : List (List ℕ)) (i k left : ℕ) (p d : List ℕ) → p ≡ slice_index_or pieces i d
    → IsAt (Some pieces) i k
    → 0 < left → left ≤ length (unsent_from (Some pieces) i k) → length p - k ≤ left
    → Passes pieces i k left (length p - k)
passes pieces i k left p d item at some within all =
    let is : drop i pieces ≡ p ∷ drop (i + 1) pieces = drop_more pieces i d (piece_there pieces i k left some within)
    ∙ ap (λ (w : List ℕ). w ∷ drop (i + 1) pieces) (sym item) in
    let inside : k < length p = subst (λ (w : List (List ℕ)). IsWithin w k) is at.1 in
    let le : k ≤ length p = omega (arith, inside) in
    let len = some_unsent pieces i k p (drop (i + 1) pieces) is le in
    record {
      at = piece_begins pieces (i + 1) at.0;
      passed = sym (pass_piece pieces i k left p (drop (i + 1) pieces) is refl le all);
      within = omega (arith, len, within, all);
    }
