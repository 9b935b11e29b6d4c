-- A chunk that is sent group by group, each of which is recorded as written before the next one is sent.
use Rattle.std.proofs.Common.{
  ◌≡◌,
  ◌≤◌,
  ◌<◌,
  ℕ,
  ◌+◌,
  ◌-◌,
  ◌^◌,
  min,
  List,
  [],
  ◌∷◌,
  ◌++◌,
  length,
  take,
  drop,
  refl,
  sym,
  ap,
  ◌∙◌,
  subst,
  arith,
  append_assoc,
  append-nil,
  length-append,
  Option,
  Some,
  Ok,
  Err,
}
use Rattle.std.specs.Prelude.{Bool, Result}
use Rattle.std.proofs.lemmas.Grind.{flat_map-append}
use Rattle.std.proofs.lemmas.List.{take-append-drop, take_all}
use Rattle.link_frames.specs.Causes.{SentBy}
use Rattle.link_frames.proofs.Getting.{sent_both}
use Rattle.link_frames.proofs.Joining.{caused_on, caused_self}
use Rattle.session_model.specs.declared.entry.Entry.{Entry}
use Rattle.session_seats.specs.declared.view.Receipt.{Receipt}
use Rattle.session_seats.specs.declared.view.Sight.{Sight}
use Rattle.session_seats.specs.Holds.{Allowance, Applied, Hold, claim_of}
use Rattle.session_seats.proofs.HoldLaws.{hold_map}
use Rattle.session_seats.proofs.RepeatLaws.{repeats_more, repeats_none}
use Rattle.session_seats.specs.Repeats.{RepeatsSteps}
use Rattle.sftp_core.specs.Pieces.{ChunkValue, HasFrames, IsPlace, chunk_bytes}
use Rattle.sftp_core.specs.declared.place.Place.{Place}
use Rattle.sftp_link.proofs.Telling.{sent_nothing, told_as, told_on, told_self}
use Rattle.sftp_link.specs.declared.piece.Piece.{Piece}
use Rattle.sftp_link.specs.Told.{SentAll, SentLess, IfLogged}
use Rattle.sftp_link.specs.Views.{LinkView}
use Rattle.sftp_model.specs.declared.error.Error.{Error}
use Rattle.sftp_model.specs.declared.request.Request.{Request}
use Rattle.sftp_model.specs.Frames.{frame_of, frames_of}
use Rattle.sftp_model.specs.Pieces.{joined_pieces}
use Rattle.sftp_tasks.specs.declared.frames.Handed.{Handed}
use Rattle.sftp_tasks.specs.declared.locked.Locked.{Locked}
use Rattle.sftp_tasks.specs.LockedEvents.{HandingOut, NotesWritten, UnlessFault, tells_written}
use Rattle.sftp_tasks.specs.Rounds.{
  FlushesOnce,
  HoldsOnce,
  NotesGroup,
  NotesSent,
  SendsGroups,
  SentAtLeast,
  StopsByError,
  StopsUnsent,
  Token,
  unsent_queue,
}
use Rattle.sftp_tasks.specs.Shows.{shown_of}

-- ---- bytes that were sent

less_both : (p q : List ℕ) (x y z : List Piece) → SentAll p x y → SentLess q y z → SentLess (p ++ q) x z
less_both p q x y z s t = (
  p ++ t.0,
  t.1,
  ap (λ (l : List ℕ). p ++ l) t.2 ∙ sym (append_assoc p t.0 t.1),
  t.3,
  sent_both x y z p t.0 s t.4,
)

-- a prefix of the bytes is one of more bytes
less_more : (p q : List ℕ) (x y : List Piece) → SentLess p x y → SentLess (p ++ q) x y
less_more p q x y s = (
  s.0,
  s.1 ++ q,
  ap (λ (l : List ℕ). l ++ q) s.2 ∙ append_assoc s.0 s.1 q,
  (let len = length-append s.1 q in let some = s.3 in omega (arith, len, some)),
  s.4,
)

least_all : (p : List ℕ) (x y : List Piece) → SentAll p x y → SentAtLeast p x y
least_all p x y s = ([], subst (λ (l : List ℕ). SentAll l x y) (sym (append-nil p)) s)

least_less : (p q : List ℕ) (x y z : List Piece) → SentAll p x y → SentLess q y z → SentAtLeast p x z
least_less p q x y z s t = (t.0, sent_both x y z p t.0 s t.4)

module _ {Service : Type 0} where
  pub sent_none : (a : LinkView Service) → SentBy {T = Unit {0}} [] a a (Ok tt)
  sent_none a = record { log = told_self (SentAll []) a.log (λ x. sent_nothing x); caused = caused_self a tt }

  pub sent_on : (p q : List ℕ) (a b c : LinkView Service) (r : Result (Unit {0}) Error)
      → SentBy {T = Unit {0}} p a b (Ok tt) → SentBy q b c r
      → SentBy (p ++ q) a c r
  sent_on p q a b c (Ok u) s t = record {
    log = told_on (SentAll p) (SentAll q) (SentAll (p ++ q)) a.log b.log c.log s.log t.log
        (λ x y z f g. sent_both x y z p q f g);
    caused = caused_on a b c tt (Ok u) s.caused t.caused;
  }
  sent_on p q a b c (Err e) s t = record {
    log = (
      t.log.0,
      told_on (SentAll p) (SentLess q) (SentLess (p ++ q)) a.log b.log c.log s.log t.log.1
          (λ x y z f g. less_both p q x y z f g),
    );
    caused = caused_on a b c tt (Err e) s.caused t.caused;
  }

  -- the other bytes were not sent either
  unsent_more : (p q : List ℕ) (a b : LinkView Service) (e : Error) → SentBy {T = Unit {0}} p a b (Err e)
      → SentBy {T = Unit {0}} (p ++ q) a b (Err e)
  unsent_more p q a b e s = record {
    log = (
      s.log.0,
      told_as (SentLess p) (SentLess (p ++ q)) a.log b.log s.log.1 (λ x y f. less_more p q x y f),
    );
    caused = s.caused;
  }

-- the frames of a queue, after the first ones
frames-rest : (queue : List (ℕ × Request)) (k : ℕ) → frames_of (take k queue) ++ frames_of (drop k queue)
    ≡ frames_of queue
frames-rest queue k = sym (flat_map-append frame_of (take k queue) (drop k queue))
    ∙ ap frames_of (take-append-drop k queue)

-- ---- groups

-- The pieces up to a place were sent, and the frames up to there are recorded.
pub record SentUpTo {Service : Type 0} (chunk : ChunkValue) (place : Place) (m n : Token)
    (before now : LinkView Service) : Type 0 where
  pub at : IsPlace chunk place
  pub sent : SentBy {T = Unit {0}} (joined_pieces (take place.pieces chunk.pieces)) before now (Ok tt)
  pub notes : RepeatsSteps NotesGroup (0, m) (place.frames, n)

-- the first frames of a chunk, up to a place
up_to : (chunk : ChunkValue) (place : Place) (queue : List (ℕ × Request)) → HasFrames chunk queue → IsPlace chunk place
    → joined_pieces (take place.pieces chunk.pieces) ≡ frames_of (take place.frames queue)
up_to chunk place queue has at = ap (λ n. joined_pieces (take n chunk.pieces)) at.pieces ∙ has.first place.frames

module _ {Service : Type 0} (chunk : ChunkValue) (m : Token) (before : LinkView Service) where
  pub groups_start : SentUpTo chunk (record { pieces = 0; frames = 0 }) m m before before
  groups_start = record {
    at = record { frames = omega arith; pieces = refl };
    sent = sent_none before;
    notes = repeats_none NotesGroup (0, m);
  }

  pub groups_on : (start end : Place) (group : List (List ℕ)) (k : ℕ) (n next : Token) (mid now : LinkView Service)
      → SentUpTo chunk start m n before mid
      → IsPlace chunk end
      → joined_pieces (take end.pieces chunk.pieces)
      ≡ joined_pieces (take start.pieces chunk.pieces) ++ joined_pieces group
      → SentBy {T = Unit {0}} (joined_pieces group) mid now (Ok tt)
      → end.frames ≡ start.frames + k
      → HoldsOnce (λ y z more. (more ≡ []) × NotesWritten k y z) n next
      → SentUpTo chunk end m next before now
  groups_on start end group k n next mid now so at joins sent more hold = record {
    at = at;
    sent = subst (λ (l : List ℕ). SentBy {T = Unit {0}} l before now (Ok tt)) (sym joins)
        (sent_on (joined_pieces (take start.pieces chunk.pieces)) (joined_pieces group) before mid now (Ok tt) so.sent
        sent);
    notes = repeats_more NotesGroup (0, m) (start.frames, n) (end.frames, next) so.notes (k, more, hold);
  }

  pub groups_done : (place : Place) (n : Token) (now : LinkView Service) → SentUpTo chunk place m n before now
      → length chunk.counts ≤ place.frames
      → (queue : List (ℕ × Request)) → HasFrames chunk queue → SendsGroups queue m n before now (Ok tt)
  groups_done place n now so all queue has =
      let within = so.at.frames in
      let number = has.number in
      let whole : take place.frames queue ≡ queue = take_all place.frames queue (omega (arith, all, number)) in
      let sent = subst (λ (l : List ℕ). SentBy {T = Unit {0}} l before now (Ok tt))
      (up_to chunk place queue has so.at) so.sent in record {
        sent = subst (λ (l : List (ℕ × Request)). SentBy {T = Unit {0}} (frames_of l) before now (Ok tt)) whole sent;
        noted = place.frames;
        all = omega (arith, all, within, number);
        notes = record {
          notes = so.notes;
          within = omega (arith, within, number);
          whole = told_as (SentAll (frames_of (take place.frames queue)))
              (SentAtLeast (frames_of (take place.frames queue))) before.log now.log sent.log
              (λ x y f. least_all (frames_of (take place.frames queue)) x y f);
        };
      }

  pub groups_stopped : (start end : Place) (group : List (List ℕ)) (e : Error) (n : Token) (mid now : LinkView Service)
      → SentUpTo chunk start m n before mid
      → IsPlace chunk end
      → joined_pieces (take end.pieces chunk.pieces)
      ≡ joined_pieces (take start.pieces chunk.pieces) ++ joined_pieces group
      → SentBy {T = Unit {0}} (joined_pieces group) mid now (Err e)
      → (queue : List (ℕ × Request)) → HasFrames chunk queue → SendsGroups queue m n before now (Err e)
  groups_stopped start end group e n mid now so at joins unsent queue has =
      let within = so.at.frames in
      let number = has.number in
      let first : List ℕ = joined_pieces (take start.pieces chunk.pieces) in
      let is : first ++ joined_pieces group ≡ frames_of (take end.frames queue) =
      sym joins ∙ up_to chunk end queue has at in
      let part = sent_on first (joined_pieces group) before mid now (Err e) so.sent unsent in
      let all = unsent_more (first ++ joined_pieces group) (frames_of (drop end.frames queue)) before now e part in
      record {
        sent = subst (λ (l : List ℕ). SentBy {T = Unit {0}} l before now (Err e))
            (ap (λ (l : List ℕ). l ++ frames_of (drop end.frames queue)) is ∙ frames-rest queue end.frames) all;
        noted = start.frames;
        all = tt;
        notes = record {
          notes = so.notes;
          within = omega (arith, within, number);
          whole = subst (λ (l : List ℕ). IfLogged (SentAtLeast l) before.log now.log)
              (up_to chunk start queue has so.at)
              (told_on (SentAll first) (SentLess (joined_pieces group)) (SentAtLeast first) before.log mid.log now.log
              so.sent.log unsent.log.1
              (λ x y z f g. least_less first (joined_pieces group) x y z f g));
        };
      }

-- a hold that records k frames leaves the others unwritten
pub unwritten_after : {X Y : Type 0} {test : Entry → Bool} {old new : List Receipt} {copied : Result X Y} (k : ℕ)
    (m n : Token) (h : Hold shown_of (Applied shown_of test (tells_written k) (NotesWritten k) copied old new) m n)
    → (claim_of m).unwritten ≤ k + (claim_of n).unwritten
unwritten_after k m n h =
    let un : (claim_of n).unwritten ≡ (claim_of m).unwritten + h.after.counts.handed + h.now.counts.written -
    (h.now.counts.handed + h.after.counts.written) = ap (λ (x : Token). (claim_of x).unwritten) h.is in
    let all : h.now.counts.handed ≡ h.before.counts.handed = ap (λ (s : Sight). s.counts.handed) h.took.shows.told in
    let wrote : h.now.counts.written ≡ h.before.counts.written = ap (λ (s : Sight). s.counts.written) h.took.shows.told
    in
    let handed : h.after.counts.handed ≡ h.before.counts.handed = ap (λ (x : Locked). x.counts.handed) h.did.does in
    let written : h.after.counts.written ≡ min (h.before.counts.written + k) (2 ^ 64 - 1) =
    ap (λ (x : Locked). x.counts.written) h.did.does in
    omega arith

-- ---- a round

module _ {Service : Type 0} {X Y : Type 0} {test : Entry → Bool} {needs : Allowance} {old new : List Receipt}
    {copied : Result X Y} (m n : Token) (did : Result (Option Handed) Error) (x : Handed)
    (before after : LinkView Service) where
  pub flushed : (end : Token) → did ≡ Ok (Some x)
      → Hold shown_of (Applied shown_of test needs (λ y z. UnlessFault HandingOut y z did) copied old new) m n
      → ((queue : List (ℕ × Request)) → HasFrames x.chunk queue → SendsGroups queue n end before after (Ok tt))
      → FlushesOnce m end before after
  flushed end is h sends =
      let r = subst (λ (a : Result (Option Handed) Error). UnlessFault HandingOut h.before h.after a) is h.did.does in
      let unsent = r.0.1.0.1 in
      let has = unsent.frames in
      let s = sends (unsent_queue h.before) has in record {
        mid = n;
        bytes = chunk_bytes x.chunk;
        frames = x.frames;
        queue = unsent_queue h.before;
        hands = hold_map shown_of m n h (r.0.0, r.0.1.0.0, r.1, refl);
        cut = sym has.all;
        sent = subst (λ (l : List ℕ). SentBy {T = Unit {0}} l before after (Ok tt)) (sym has.all) s.sent;
        notes = subst (λ (k : ℕ). NotesSent (unsent_queue h.before) k n end before after)
            (s.all ∙ sym has.number ∙ sym unsent.number) s.notes;
      }

  pub unsent_part : (at end : Token) (why e : Error) → did ≡ Ok (Some x)
      → Hold shown_of (Applied shown_of test needs (λ y z. UnlessFault HandingOut y z did) copied old new) m n
      → ((queue : List (ℕ × Request)) → HasFrames x.chunk queue → SendsGroups queue n at before after (Err why))
      → StopsByError why e at end → StopsUnsent e m end before after
  unsent_part at end why e is h sends stops =
      let r = subst (λ (a : Result (Option Handed) Error). UnlessFault HandingOut h.before h.after a) is h.did.does in
      let has = r.0.1.0.1.frames in
      let s = sends (unsent_queue h.before) has in record {
        mid = n;
        why = why;
        bytes = chunk_bytes x.chunk;
        queue = unsent_queue h.before;
        hands = hold_map shown_of m n h (r.0.0, r.1, refl);
        cut = sym has.all;
        sent = subst (λ (l : List ℕ). SentBy {T = Unit {0}} l before after (Err why)) (sym has.all) s.sent;
        at = at;
        noted = s.noted;
        notes = s.notes;
        stops = stops;
      }
