-- Bytes that are gathered before they are sent, over several calls.
use Rattle.std.proofs.Common.{◌≡◌, ◌<◌, ◌+◌, ◌-◌, ◌^◌, ℕ, List, [], ◌∷◌, ◌++◌, take, drop, length-append, refl, ap, sym, ◌∙◌, subst, append_assoc, arith}
use Rattle.std.proofs.lemmas.List.{append-nil, take-append-drop}
use Rattle.sftp_link.specs.declared.piece.Piece.{Piece}
use Rattle.sftp_link.specs.Log.{SentOn}
use Rattle.std.specs.Prelude.{Result, Ok, Err}
use Rattle.sftp_link.specs.declared.device_error.DeviceError.{DeviceError}
use Rattle.sftp_link.specs.declared.device_error.DeviceError.TheVariants as device
use Rattle.sftp_link.specs.Causes.{CountsDeviceFault as DeviceCause}
use Rattle.sftp_link.specs.Told.{IfLogged, SentAll, SentLess}
use Rattle.sftp_link.specs.Views.{LinkView}
use Rattle.sftp_link.proofs.Telling.{sent_nothing, told_self, told_as, told_on}
use Rattle.sftp_model.specs.Pieces.{joined_pieces}
use Rattle.sftp_model.specs.declared.error.Error.{Error}
use Rattle.link_frames.specs.Causes.{IsCausedByLink, SentBy, IsUnsent, fault_of_link}
use Rattle.link_frames.specs.Gathering.{SentBut, GathersBytes}
use Rattle.link_frames.proofs.Getting.{sent_both}
use Rattle.link_frames.proofs.Joining.{caused_self, caused_on}

joined_more : (pieces : List (List ℕ)) (piece : List ℕ) → joined_pieces (pieces ++ piece ∷ []) ≡ joined_pieces pieces
    ++ piece
joined_more [] piece = append-nil piece
joined_more (p ∷ pieces) piece = ap (λ (w : List ℕ). p ++ w) (joined_more pieces piece)
    ∙ sym (append_assoc p (joined_pieces pieces) piece)

joined_both : (a b : List (List ℕ)) → joined_pieces (a ++ b) ≡ joined_pieces a ++ joined_pieces b
joined_both [] b = refl
joined_both (p ∷ a) b = ap (λ (w : List ℕ). p ++ w) (joined_both a b)
    ∙ sym (append_assoc p (joined_pieces a) (joined_pieces b))

-- nothing was sent, and all is gathered
all_gathered : (bytes : List ℕ) (x : List Piece) → SentBut bytes bytes x x
all_gathered bytes x = ([], refl, sent_nothing x)

-- all was sent, and nothing is gathered
none_gathered : (bytes : List ℕ) (x y : List Piece) → SentOn x y bytes → SentBut bytes [] x y
none_gathered bytes x y s = (bytes, sym (append-nil bytes), s)

-- what was gathered was sent, and then a piece came
piece_next : (old piece new : List ℕ) (x y z : List Piece) → SentAll old x y → SentBut piece new y z
    → SentBut (old ++ piece) new x z
piece_next old piece new x y z s t =
    (old ++ t.0, ap (λ (w : List ℕ). old ++ w) t.1 ∙ sym (append_assoc old t.0 new), sent_both x y z old t.0 s t.2)

-- and less than the piece was sent
piece_less : (old piece : List ℕ) (x y z : List Piece) → SentAll old x y → SentLess piece y z
    → SentLess (old ++ piece) x z
piece_less old piece x y z s less = (
  old ++ less.0,
  less.1,
  ap (λ (w : List ℕ). old ++ w) less.2 ∙ sym (append_assoc old less.0 less.1),
  less.3,
  sent_both x y z old less.0 s less.4,
)

-- less than what was gathered was sent, before a piece
old_less : (old piece : List ℕ) (x y : List Piece) → SentLess old x y → SentLess (old ++ piece) x y
old_less old piece x y less = (
  less.0,
  less.1 ++ piece,
  ap (λ (w : List ℕ). w ++ piece) less.2 ∙ append_assoc less.0 less.1 piece,
  (let n = length-append less.1 piece in omega (arith, n, less.3)),
  less.4,
)

-- the first pieces came, and then the next
pieces_next : (pieces : List (List ℕ)) (i : ℕ) (piece old new : List ℕ) (x y z : List Piece) → take (i + 1) pieces
    ≡ take i pieces ++ piece ∷ []
    → SentBut (joined_pieces (take i pieces)) old x y → SentBut (old ++ piece) new y z
    → SentBut (joined_pieces (take (i + 1) pieces)) new x z
pieces_next pieces i piece old new x y z cut s t =
    let whole : joined_pieces (take (i + 1) pieces) ≡ joined_pieces (take i pieces) ++ piece = ap joined_pieces cut
    ∙ joined_more (take i pieces) piece in
    let split : joined_pieces (take i pieces) ++ piece ≡ (s.0 ++ t.0) ++ new =
    ap (λ (w : List ℕ). w ++ piece) s.1 ∙ append_assoc s.0 old piece ∙ ap (λ (w : List ℕ). s.0 ++ w) t.1
    ∙ sym (append_assoc s.0 t.0 new) in
    (s.0 ++ t.0, whole ∙ split, sent_both x y z s.0 t.0 s.2 t.2)

-- the first pieces came, and then less was sent than the next
pieces_less : (pieces : List (List ℕ)) (i : ℕ) (piece old : List ℕ) (x y z : List Piece) → take (i + 1) pieces
    ≡ take i pieces ++ piece ∷ []
    → SentBut (joined_pieces (take i pieces)) old x y → SentLess (old ++ piece) y z
    → SentLess (joined_pieces pieces) x z
pieces_less pieces i piece old x y z cut s less =
    let later = joined_pieces (drop (i + 1) pieces) in
    let whole : joined_pieces pieces ≡ (joined_pieces (take i pieces) ++ piece) ++ later =
    ap joined_pieces (sym (take-append-drop (i + 1) pieces)) ∙ joined_both (take (i + 1) pieces) (drop (i + 1) pieces)
    ∙ ap (λ (w : List ℕ). w ++ later) (ap joined_pieces cut ∙ joined_more (take i pieces) piece) in
    let begun : joined_pieces (take i pieces) ++ piece ≡ (s.0 ++ less.0) ++ less.1 =
    ap (λ (w : List ℕ). w ++ piece) s.1 ∙ append_assoc s.0 old piece ∙ ap (λ (w : List ℕ). s.0 ++ w) less.2
    ∙ sym (append_assoc s.0 less.0 less.1) in (
      s.0 ++ less.0,
      less.1 ++ later,
      whole ∙ ap (λ (w : List ℕ). w ++ later) begun ∙ append_assoc (s.0 ++ less.0) less.1 later,
      (let n = length-append less.1 later in omega (arith, n, less.3)),
      sent_both x y z s.0 less.0 s.2 less.4,
    )

-- all pieces came, and what was gathered was sent
last_sent : (pieces : List (List ℕ)) (old : List ℕ) (x y z : List Piece) → SentBut (joined_pieces pieces) old x y
    → SentAll old y z → SentAll (joined_pieces pieces) x z
last_sent pieces old x y z s t = subst (λ (w : List ℕ). SentOn x z w) (sym s.1) (sent_both x y z s.0 old s.2 t)

-- or less than it
last_less : (pieces : List (List ℕ)) (old : List ℕ) (x y z : List Piece) → SentBut (joined_pieces pieces) old x y
    → SentLess old y z → SentLess (joined_pieces pieces) x z
last_less pieces old x y z s less = (
  s.0 ++ less.0,
  less.1,
  s.1 ∙ ap (λ (w : List ℕ). s.0 ++ w) less.2 ∙ sym (append_assoc s.0 less.0 less.1),
  less.3,
  sent_both x y z s.0 less.0 s.2 less.4,
)

-- ---- by what a call answered

-- a call of a link that was refused
link_caused : {S : Type 0} (x y : LinkView S) (e : DeviceError) → DeviceCause {T = Unit {0}} x.faults y.faults (Err e)
    → y.service ≡ x.service → IsCausedByLink {T = Unit {0}} x y (Err (fault_of_link e))
link_caused x y device.OutOfMemory cause same = record { cause = cause; end = tt; only = tt; service = same }
link_caused x y device.Failed cause same = record { cause = cause; end = tt; only = tt; service = same }

why_unsent : (e : DeviceError) → IsUnsent (fault_of_link e)
why_unsent device.OutOfMemory = tt
why_unsent device.Failed = tt

pub bytes_sent : {S : Type 0} (bytes : List ℕ) (x y : LinkView S) (u : Unit {0}) → IfLogged (SentAll bytes) x.log y.log
    → y.faults ≡ x.faults → y.service ≡ x.service → SentBy bytes x y (Ok u)
bytes_sent bytes x y u log cause same = record {
  log = log;
  caused =
      record { cause = cause; end = tt; only = tt; service = same };
}

pub bytes_unsent : {S : Type 0} (bytes : List ℕ) (x y : LinkView S) (e : DeviceError)
    → IfLogged (SentLess bytes) x.log y.log → DeviceCause {T = Unit {0}} x.faults y.faults (Err e) → y.service
    ≡ x.service
    → SentBy {T = Unit {0}} bytes x y (Err (fault_of_link e))
bytes_unsent bytes x y e log cause same = record { log = (why_unsent e, log); caused = link_caused x y e cause same }

-- bytes were gathered, and nothing was sent
pub gathers_all : {S : Type 0} (bytes new : List ℕ) (x : LinkView S) → new ≡ bytes
    → GathersBytes {T = Unit {0}} bytes new x x (Ok tt)
gathers_all bytes new x is = record {
  log = told_self (SentBut bytes new) x.log (λ l. subst (λ (w : List ℕ). SentBut bytes w l l) (sym is)
      (all_gathered bytes l));
  caused = caused_self x tt;
}

-- nothing is gathered, and bytes were to be sent
pub gathers_none : {S : Type 0} {bytes new : List ℕ} {x y : LinkView S} {result : Result (Unit {0}) Error} → new ≡ []
    → SentBy bytes x y result → GathersBytes bytes new x y result
gathers_none {bytes = bytes} {new = new} {x = x} {y = y} {result = Ok u} none s = record {
  log = told_as (SentAll bytes) (SentBut bytes new) x.log y.log s.log
      (λ p q all. subst (λ (w : List ℕ). SentBut bytes w p q) (sym none) (none_gathered bytes p q all));
  caused = s.caused;
}
gathers_none {result = Err e} none s = record { log = s.log; caused = s.caused }

-- what was gathered was sent, and then a piece came
pub gathers_next : {S : Type 0} {old piece new : List ℕ} {x y z : LinkView S} {u : Unit {0}}
    {result : Result (Unit {0}) Error} → SentBy old x y (Ok u) → GathersBytes piece new y z result
    → GathersBytes (old ++ piece) new x z result
gathers_next {old = old} {piece = piece} {new = new} {x = x} {y = y} {z = z} {u = u} {result = Ok v} s next = record {
  log = told_on (SentAll old) (SentBut piece new) (SentBut (old ++ piece) new) x.log y.log z.log s.log next.log
      (piece_next old piece new);
  caused = caused_on x y z u (Ok v) s.caused next.caused;
}
gathers_next {old = old} {piece = piece} {x = x} {y = y} {z = z} {u = u} {result = Err e} s next = record {
  log = (
    next.log.0,
    told_on (SentAll old) (SentLess piece) (SentLess (old ++ piece)) x.log y.log z.log s.log next.log.1
        (piece_less old piece),
  );
  caused = caused_on x y z u (Err e) s.caused next.caused;
}

-- less than what was gathered was sent
pub gathers_less : {S : Type 0} (old piece new : List ℕ) (x y : LinkView S) (e : Error)
    → SentBy {T = Unit {0}} old x y (Err e) → GathersBytes {T = Unit {0}} (old ++ piece) new x y (Err e)
gathers_less old piece new x y e less = record {
  log = (less.log.0, told_as (SentLess old) (SentLess (old ++ piece)) x.log y.log less.log.1 (old_less old piece));
  caused = less.caused;
}

-- the first pieces came, and then the next
pub pieces_gathered : {S : Type 0} (pieces : List (List ℕ)) (i : ℕ) (piece : List ℕ) {old new : List ℕ}
    {x y z : LinkView S} {u v : Unit {0}} → take (i + 1) pieces ≡ take i pieces ++ piece ∷ []
    → GathersBytes (joined_pieces (take i pieces)) old x y (Ok u) → GathersBytes (old ++ piece) new y z (Ok v)
    → GathersBytes {T = Unit {0}} (joined_pieces (take (i + 1) pieces)) new x z (Ok tt)
pieces_gathered pieces i piece {old = old} {new = new} {x = x} {y = y} {z = z} {u = u} {v = v} cut first next = record {
  log = told_on _ _ _ x.log y.log z.log first.log next.log (λ p q r s t. pieces_next pieces i piece old new p q r cut s
      t);
  caused = (let k = caused_on x y z u (Ok v) first.caused next.caused in
      record { cause = k.cause; end = tt; only = tt; service = k.service });
}

-- the first pieces came, and then less was sent than the next
pub pieces_unsent : {S : Type 0} (pieces : List (List ℕ)) (i : ℕ) (piece : List ℕ) {old new : List ℕ}
    {x y z : LinkView S} {u : Unit {0}} {e : Error} → take (i + 1) pieces ≡ take i pieces ++ piece ∷ []
    → GathersBytes (joined_pieces (take i pieces)) old x y (Ok u)
    → GathersBytes {T = Unit {0}} (old ++ piece) new y z (Err e)
    → SentBy {T = Unit {0}} (joined_pieces pieces) x z (Err e)
pieces_unsent pieces i piece {old = old} {x = x} {y = y} {z = z} {u = u} {e = e} cut first next = record {
  log = (
    next.log.0,
    told_on _ _ _ x.log y.log z.log first.log next.log.1
        (λ p q r s less. pieces_less pieces i piece old p q r cut s less),
  );
  caused = caused_on x y z u (Err e) first.caused next.caused;
}

-- all pieces came, and what was gathered was to be sent
pub sends_last : {S : Type 0} (pieces : List (List ℕ)) (i : ℕ) {old : List ℕ} {x y z : LinkView S} {u : Unit {0}}
    {result : Result (Unit {0}) Error} → take i pieces ≡ pieces
    → GathersBytes (joined_pieces (take i pieces)) old x y (Ok u) → SentBy old y z result
    → SentBy (joined_pieces pieces) x z result
sends_last pieces i {old = old} {x = x} {y = y} {z = z} {u = u} {result = Ok v} all first last = record {
  log = told_on (SentBut (joined_pieces pieces) old) (SentAll old) (SentAll (joined_pieces pieces)) x.log y.log z.log
      (subst (λ (ps : List (List ℕ)). IfLogged (SentBut (joined_pieces ps) old) x.log y.log) all first.log) last.log
      (last_sent pieces old);
  caused = caused_on x y z u (Ok v) first.caused last.caused;
}
sends_last pieces i {old = old} {x = x} {y = y} {z = z} {u = u} {result = Err e} all first last = record {
  log = (
    last.log.0,
    told_on (SentBut (joined_pieces pieces) old) (SentLess old) (SentLess (joined_pieces pieces)) x.log y.log z.log
        (subst (λ (ps : List (List ℕ)). IfLogged (SentBut (joined_pieces ps) old) x.log y.log) all first.log) last.log.1
        (last_less pieces old),
  );
  caused = caused_on x y z u (Err e) first.caused last.caused;
}

-- the next call may still count a fault
pub still_counts : {S : Type 0} {bytes gathered : List ℕ} {x y : LinkView S} {u : Unit {0}} → x.faults < 2 ^ 64 - 1
    → GathersBytes bytes gathered x y (Ok u) → y.faults < 2 ^ 64 - 1
still_counts {y = y} count g = subst (λ (n : ℕ). n < 2 ^ 64 - 1) (sym g.caused.cause) count
