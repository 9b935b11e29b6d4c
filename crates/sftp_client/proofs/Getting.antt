-- What comes of a frame over several calls of a link.
use Rattle.std.proofs.Common.{◌≡◌, ◌<◌, ◌≤◌, ◌+◌, ◌-◌, ◌^◌, ℕ, List, [], ◌∷◌, ◌++◌, take, length, length-append, refl, ap, sym, ◌∙◌, subst, append_assoc, arith}
use Rattle.std.specs.Prelude.{Ok, Err, replicate}
use Rattle.std.proofs.lemmas.List.{append-nil, length-replicate, length-take}
use borrow.Rule.Slice.PartMut.{post_of}
use Rattle.sftp_link.specs.Log.{AllGot, GotOn}
use Rattle.sftp_link.specs.Moves.{HasReceived}
use Rattle.sftp_link.specs.Told.{IfLogged, GotAll, GotLess, OneMore}
use Rattle.sftp_link.specs.Views.{LinkView}
use Rattle.sftp_link.specs.declared.device_error.DeviceError.TheVariants as device
use Rattle.sftp_link.specs.declared.piece.Piece.{Piece}
use Rattle.sftp_link.specs.declared.piece.Piece.TheVariants.{Got}
use Rattle.sftp_link.proofs.Telling.{got_more, put_from, take_seam, told_on, told_self}
use Rattle.sftp_model.specs.declared.error.Error.{Error}
use Rattle.sftp_model.specs.declared.error.Error.TheVariants as error
use Rattle.sftp_wire.specs.FrameReader.{Received, need_of}
use Rattle.link_frames.specs.Causes.{IsCausedByLink}
use Rattle.link_frames.specs.Reading.{IsFramePart, IsOfOneFrame, IsPartway}
use Rattle.link_frames.proofs.Getting.{got_both, got_nothing, part_came, part_fails}
use Rattle.link_frames.proofs.Joining.{caused_on, caused_self}
use Rattle.sftp_client.specs.Incoming.{Coming, FillsPart, IsUnfilled, KeepsOfFrame, PullsTo, bytes_of}

-- ---- the rest of a room

-- bytes came behind those that had come, and the link didn't fail
abbrev pub FilledSoFar : {S : Type 0} → List ℕ → List ℕ → LinkView S → LinkView S → Type 0
FilledSoFar old new before now =
    (got : List ℕ) × ((new ≡ old ++ got) × (IfLogged (GotAll got) before.log now.log
    × IsCausedByLink {T = Unit {0}} before now (Ok tt)))

pub none_filled : {S : Type 0} (bytes : List ℕ) (x : LinkView S) → FilledSoFar bytes bytes x x
none_filled bytes x = ([], (sym (append-nil bytes), (told_self (GotAll []) x.log got_nothing, caused_self x tt)))

received : {S : Type 0} (room : List ℕ) (n : ℕ) (x y : LinkView S) → HasReceived S room x y (Ok n)
    → IsCausedByLink {T = Unit {0}} x y (Ok tt)
received room n x y s = record { cause = s.cause; end = tt; only = tt; service = s.same }

-- what stands in a room into whose rest bytes were put
put_front : (old put : List ℕ) (at n : ℕ) → at ≤ length old → n ≤ length put → take (at + n) (put_from old at put)
    ≡ take at old ++ take n put
put_front old put at n within fits =
    let len : length (take at old) ≡ at = omega (arith, length-take {A = ℕ}) in
    take_seam (take at old) put (post_of at (length old - at) old) at n len fits

-- a recv put bytes behind those that had come
pub filled_more : {S : Type 0} (first old put : List ℕ) (at n : ℕ) {x y z : LinkView S} → at ≤ length old
    → n ≤ length put
    → FilledSoFar first (take at old) x y → HasReceived S put y z (Ok n)
    → FilledSoFar first (take (at + n) (put_from old at put)) x z
filled_more {S = S} first old put at n {x = x} {y = y} {z = z} within fits so more = (
  so.0 ++ take n put,
  (
    put_front old put at n within fits ∙ (ap (λ (w : List ℕ). w ++ take n put) so.1.0
        ∙ append_assoc first so.0 (take n put)),
    (
      told_on (GotAll so.0) (OneMore Got (take n put)) (GotAll (so.0 ++ take n put)) x.log y.log z.log so.1.1.0 more.log
          (λ p q r s e. got_more p q r so.0 (take n put) s e),
      caused_on x y z tt (Ok tt) so.1.1.1 (received put n y z more),
    ),
  ),
)

-- the link ended there
pub filled_to_end : {S : Type 0} (first old put : List ℕ) (at : ℕ) {x y z : LinkView S} → at ≤ length old
    → at < length old
    → FilledSoFar first (take at old) x y → HasReceived S put y z (Ok 0)
    → FillsPart {T = Unit {0}} (length old) first (take at (put_from old at put)) x z (Err error.LinkEnded)
filled_to_end {S = S} first old put at {x = x} {y = y} {z = z} within lt so more =
    let same : take at (put_from old at put) ≡ take at old =
    ap (λ (k : ℕ). take k (put_from old at put)) (omega arith)
    ∙ (put_front old put at 0 within (omega arith) ∙ append-nil (take at old)) in
    let len : length (take at old) ≡ at = omega (arith, length-take {A = ℕ}) in
    let size : length (take at (put_from old at put)) ≡ at = ap length same ∙ len in
    record {
      got = so.0;
      come = same ∙ so.1.0;
      full = tt;
      short = (tt, omega (arith, size, lt));
      log = told_on (GotAll so.0) (OneMore Got []) (GotAll so.0) x.log y.log z.log so.1.1.0 more.log
          (λ p q r s e. subst (λ (w : List ℕ). GotOn p r w) (append-nil so.0) (got_more p q r so.0 [] s e));
      caused = (let k = caused_on x y z tt (Ok tt) so.1.1.1 (received put 0 y z more) in
          record { cause = k.cause; end = more.end; only = tt; service = k.service });
    }

pub still_counted : {S : Type 0} (first new : List ℕ) {x y : LinkView S} → x.faults < 2 ^ 64 - 1
    → FilledSoFar first new x y → y.faults < 2 ^ 64 - 1
still_counted first new {y = y} count so = subst (λ (n : ℕ). n < 2 ^ 64 - 1) (sym so.1.1.1.cause) count

-- ---- a frame

-- bytes that were got, by a log that shows them alone
one_got : (front bytes : List ℕ) → GotOn [] (Got front ∷ []) bytes → bytes ≡ front
one_got front bytes got =
    let is : got.0 ≡ Got front ∷ [] = sym (append-nil got.0) ∙ sym got.1 in
    let all : AllGot (Got front ∷ []) bytes = subst (λ (w : List Piece). AllGot w bytes) is got.2 in
    all.1 ∙ ap (λ (w : List ℕ). w ++ front) all.2

-- fewer bytes than are missing of a part
less_than : (front : List ℕ) (need : ℕ) → length front < need
    → GotLess (front ++ replicate (need - length front) 0) [] (Got front ∷ [])
less_than front need lt = (
  front,
  replicate (need - length front) 0,
  refl,
  (let n = length-replicate {A = ℕ} (need - length front) 0 in omega (arith, n, lt)),
  got_more [] [] (Got front ∷ []) [] front (got_nothing []) refl,
)

fits_need : (front : List ℕ) (need : ℕ) → length front < need → length (front ++ replicate (need - length front) 0)
    ≡ need
fits_need front need lt =
    let n = length-append front (replicate (need - length front) 0) in let m =
    length-replicate {A = ℕ} (need - length front) 0 in omega (arith, n, m, lt)

-- what is kept where a part didn't come whole
pub keeps_unfilled : (e : Error) (r : Received) (front : List ℕ) → IsPartway r → length front < need_of r → IsUnfilled e
    → KeepsOfFrame e (r.bytes ++ front) (record { whole = r.bytes; part = front })
keeps_unfilled error.OutOfMemory r front at lt unfilled =
    let fails = part_fails device.OutOfMemory r (front ++ replicate (need_of r - length front) 0) [] (Got front ∷ [])
    at.unrefused at.prefix
    (fits_need front (need_of r) lt) (less_than front (need_of r) lt) in
    (refl, subst (λ (w : List ℕ). IsOfOneFrame (r.bytes ++ w)) (one_got front fails.0 fails.1.1) fails.1.0)
keeps_unfilled error.LinkFault r front at lt unfilled =
    let came = part_came r (front ++ replicate (need_of r - length front) 0) [] (Got front ∷ []) at.unrefused
    at.prefix.unfaulted
    (fits_need front (need_of r) lt) (less_than front (need_of r) lt) in
    (refl, subst (λ (w : List ℕ). IsFramePart (r.bytes ++ w)) (one_got front came.0 came.1.1) came.1.0)
keeps_unfilled error.LinkEnded r front at lt unfilled =
    let came = part_came r (front ++ replicate (need_of r - length front) 0) [] (Got front ∷ []) at.unrefused
    at.prefix.unfaulted
    (fits_need front (need_of r) lt) (less_than front (need_of r) lt) in
    (refl, subst (λ (w : List ℕ). IsFramePart (r.bytes ++ w)) (one_got front came.0 came.1.1) came.1.0)
keeps_unfilled other r front at lt unfilled = absurd unfilled

abbrev pub PulledSoFar : {S : Type 0} → Coming → Coming → LinkView S → LinkView S → Type 0
PulledSoFar old new before now = FilledSoFar (bytes_of old) (bytes_of new) before now

-- more of it came, up to the end of a part
pub pulled_on : {S T : Type 0} (Whole : List ℕ → Type 0) (first : List ℕ) (mid new : Coming) {x y z : LinkView S}
    {u : T}
    → FilledSoFar first (bytes_of mid) x y → PullsTo Whole mid new y z (Ok u) → FilledSoFar first (bytes_of new) x z
pulled_on Whole first mid new {x = x} {y = y} {z = z} {u = u} so more = (
  so.0 ++ more.got,
  (
    ap bytes_of more.comes.1 ∙ (append-nil (bytes_of mid ++ more.got)
        ∙ (ap (λ (w : List ℕ). w ++ more.got) so.1.0 ∙ append_assoc first so.0 more.got)),
    (
      told_on (GotAll so.0) (GotAll more.got) (GotAll (so.0 ++ more.got)) x.log y.log z.log so.1.1.0 more.log
          (λ p q r s t. got_both p q r so.0 more.got s t),
      (let k = caused_on x y z tt (Ok u) so.1.1.1 more.caused in
          record { cause = k.cause; end = tt; only = tt; service = k.service }),
    ),
  ),
)

-- and then no more of it did
pub pulled_until : {S T : Type 0} (W V : List ℕ → Type 0) (old mid new : Coming) (e : Error) {x y z : LinkView S}
    → FilledSoFar (bytes_of old) (bytes_of mid) x y → PullsTo {T = T} W mid new y z (Err e)
    → PullsTo {T = T} V old new x z (Err e)
pulled_until W V old mid new e {x = x} {y = y} {z = z} so stops =
    let all : bytes_of mid ++ stops.got ≡ bytes_of old ++ (so.0 ++ stops.got) =
    ap (λ (w : List ℕ). w ++ stops.got) so.1.0 ∙ append_assoc (bytes_of old) so.0 stops.got in
    record {
      got = so.0 ++ stops.got;
      log = told_on (GotAll so.0) (GotAll stops.got) (GotAll (so.0 ++ stops.got)) x.log y.log z.log so.1.1.0 stops.log
          (λ p q r s t. got_both p q r so.0 stops.got s t);
      comes = subst (λ (w : List ℕ). KeepsOfFrame e w new) all stops.comes;
      caused = caused_on x y z tt (Err e) so.1.1.1 stops.caused;
    }

-- a part of the frame didn't come whole
pub pull_stops : {S T : Type 0} (Whole : List ℕ → Type 0) (e : Error) (r : Received) (old new : List ℕ)
    {x y : LinkView S} → IsPartway r
    → FillsPart {T = T} (need_of r) old new x y (Err e)
    → PullsTo {T = T} Whole (record { whole = r.bytes; part = old }) (record { whole = r.bytes; part = new }) x y
    (Err e)
pull_stops Whole e r old new at f =
    let all : r.bytes ++ new ≡ (r.bytes ++ old) ++ f.got =
    ap (λ (w : List ℕ). r.bytes ++ w) f.come ∙ sym (append_assoc r.bytes old f.got) in
    record {
      got = f.got;
      log = f.log;
      comes = subst (λ (w : List ℕ). KeepsOfFrame e w (record { whole = r.bytes; part = new })) all
          (keeps_unfilled e r new at f.short.1 f.short.0);
      caused = f.caused;
    }
