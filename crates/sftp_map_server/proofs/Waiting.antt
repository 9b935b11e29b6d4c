-- No frame that waits is empty, so bytes are given until nothing waits.
use Rattle.std.proofs.Common.{
  ℕ,
  zero,
  suc,
  ◌≡◌,
  ◌==◌,
  ◌<◌,
  ◌%◌,
  Bool,
  true,
  false,
  List,
  [],
  ◌∷◌,
  ◌++◌,
  length,
  take,
  drop,
  min,
  reverse,
  Option,
  Some,
  None,
  if◌then◌else◌,
  refl,
  sym,
  ap,
  ◌∙◌,
  subst,
  arith,
  inl,
  inr,
}
use Rattle.std.specs.Prelude.{slice_index_or}
use Rattle.std.specs.List.{remove}
use Rattle.std.specs.Result.{result_ok}
use Rattle.std.proofs.Math.Nat.{mod-lt}
use Rattle.std.proofs.Math.Seq.{take-append_seam}
use Rattle.std.proofs.lemmas.Bool.Decides.{nat_tests}
use Rattle.std.proofs.lemmas.Bool.{cases_lt}
use Rattle.std.proofs.lemmas.List.{length-append, length-take, reverse-append, take-append-drop}
use Rattle.ssh_encoding.specs.Writing.{uint32, string}
use Rattle.sftp_link.specs.declared.piece.Piece.{Piece}
use Rattle.sftp_link.specs.declared.piece.Piece.TheVariants.{Sent, Got}
use Rattle.sftp_link.specs.Script.{length_cut_at}
use Rattle.sftp_wire.specs.FrameReader.{missing_bytes}
use Rattle.sftp_model.specs.declared.request.Request.{Request}
use Rattle.sftp_model.specs.Frames.{reply_body}
use Rattle.sftp_model.specs.RequestReadings.{request_at}
use Rattle.machine_model.specs.TreeAnswers.{first_choice}
use Rattle.machine_answers.specs.MachineState.{answer}
use Rattle.machine_answers.specs.WaitingFrames.{WaitingFrames, first_pick, index_of, with_next_picked}
use Rattle.sftp_map_server.specs.Serving.{
  AbsorbsBytes,
  ServerState,
  HandsBytes,
  IsServed,
  IsServing,
  Replies,
  Server,
  all_said,
  gives_within,
  served_frame,
  id_of,
  is_hello,
  is_query,
  respond,
  serve,
  server_of,
  step,
}

-- none of these frames is empty
abbrev pub NoneEmpty : List (List ℕ) → Type 0
NoneEmpty [] = Unit {0}
NoneEmpty (frame ∷ frames) = (0 < length frame) × NoneEmpty frames

both_some : (xs ys : List (List ℕ)) → NoneEmpty xs → NoneEmpty ys → NoneEmpty (xs ++ ys)
both_some [] ys h k = k
both_some (x ∷ xs) ys h k = (h.0, both_some xs ys h.1 k)

take_some : (n : ℕ) (xs : List (List ℕ)) → NoneEmpty xs → NoneEmpty (take n xs)
take_some zero xs h = tt
take_some (suc n) [] h = tt
take_some (suc n) (x ∷ xs) h = (h.0, take_some n xs h.1)

drop_some : (n : ℕ) (xs : List (List ℕ)) → NoneEmpty xs → NoneEmpty (drop n xs)
drop_some zero xs h = h
drop_some (suc n) [] h = tt
drop_some (suc n) (x ∷ xs) h = drop_some n xs h.1

at_some : (xs : List (List ℕ)) (i : ℕ) → NoneEmpty xs → i < length xs → 0 < length (slice_index_or xs i [])
at_some [] i h lt = absurd (omega (arith, lt))
at_some (x ∷ xs) zero h lt = h.0
at_some (x ∷ xs) (suc i) h lt = at_some xs i h.1 (omega (arith, lt))

-- ---- what is said

string_some : (body : List ℕ) → 0 < length (string body)
unfolding string uint32
string_some body = let l = length-append (uint32 (length body)) body in omega (arith, l)

where_said : (b : Bool) (x y : Replies × ServerState) → NoneEmpty x.0.later → NoneEmpty y.0.later
    → NoneEmpty (if b then x else y).0.later
where_said true x y h k = h
where_said false x y h k = k

serve_some : (d : ServerState) (id : Option ℕ) (r : Request) → NoneEmpty (serve d id r).0.later
serve_some d id r = where_said (gives_within r (first_choice d.choices)) _ _
    (string_some (reply_body (answer d.machine r (first_choice d.choices)).0 (id_of id)), tt) tt

respond_some : (d : ServerState) (id : Option ℕ) (r : Request) → NoneEmpty (respond d id r).0.later
respond_some d id r =
    where_said (is_hello r) _ _ (where_said d.greeted _ _ tt tt)
    (where_said d.greeted _ _ (where_said (is_query r) _ _ tt (serve_some d id r)) tt)

heed_some : (d : ServerState) (asked : Option (Option ℕ × Request)) → NoneEmpty (served_frame d asked).0.later
heed_some d (Some asked) = respond_some d asked.0 asked.1
heed_some d None = tt

step_some : (d : ServerState) (body : List ℕ) → NoneEmpty (step d body).0.later
unfolding step
step_some d body = where_said d.over _ _ tt (heed_some d (result_ok (request_at body)))

said_some : (d : ServerState) (bodies : List (List ℕ)) → NoneEmpty (all_said d bodies).later
said_some d [] = tt
said_some d (body ∷ more) = both_some (step d body).0.later (all_said (step d body).1 more).later (step_some d body)
    (said_some (step d body).1 more)

-- ---- what waits

where_turned : (w : WaitingFrames) (a b : Bool) → NoneEmpty w.waiting
    → NoneEmpty (if a then (if b then w else record {
      ready = slice_index_or w.waiting (index_of w) [];
      waiting =
          remove w.waiting (index_of w);
      picks = drop 1 w.picks;
    }) else w).waiting
where_turned w true true h = h
where_turned w true false h = both_some (take (index_of w) w.waiting) (drop (suc (index_of w)) w.waiting)
    (take_some (index_of w) w.waiting h) (drop_some (suc (index_of w)) w.waiting h)
where_turned w false b h = h

turned_some : (w : WaitingFrames) → NoneEmpty w.waiting → NoneEmpty (with_next_picked w).waiting
turned_some w h = where_turned w (length w.ready == 0) (length w.waiting == 0) h

gives_some : (before now : Server) (bytes : List ℕ) → HandsBytes before bytes now → NoneEmpty before.output.waiting
    → NoneEmpty now.output.waiting
gives_some before now [] g h = subst (λ (w : Server). NoneEmpty w.output.waiting) (sym g.0) h
gives_some before now (b ∷ bytes) g h = subst (λ (w : List (List ℕ)). NoneEmpty w) (sym g.waiting)
    (turned_some before.output h)

-- where none of those that waited at the first was empty, none is
pub served_some : (first now : Server) (log : List Piece) → NoneEmpty first.output.waiting → IsServed first log now
    → NoneEmpty now.output.waiting
served_some first now [] h s = subst (λ (w : Server). NoneEmpty w.output.waiting) (sym s) h
served_some first now (Sent bytes ∷ log) h s =
    let mid = s.0 in
    let before = served_some first mid log h s.1 in
    let absorbs : AbsorbsBytes mid bytes now = s.2 in
    subst (λ (w : WaitingFrames). NoneEmpty w.waiting) (sym absorbs.output)
    (both_some mid.output.waiting (all_said mid.state absorbs.bodies).later before
    (said_some mid.state absorbs.bodies))
served_some first now (Got bytes ∷ log) h s = gives_some s.0 now bytes s.2 (served_some first s.0 log h s.1)

index_below : (w : WaitingFrames) (b : Bool) → (length w.waiting == 0) ≡ b → b ≡ false
    → (if b then 0 else first_pick w.picks % length w.waiting) < length w.waiting
index_below w true e f = absurd cc
index_below w false e f = mod-lt (first_pick w.picks) (grind (arith, nat_tests))

still : (w : WaitingFrames) (a b : Bool) → (length w.waiting == 0) ≡ b → NoneEmpty w.waiting
    → length (if a then (if b then w else record {
      ready = slice_index_or w.waiting (index_of w) [];
      waiting =
          remove w.waiting (index_of w);
      picks = drop 1 w.picks;
    }) else w).ready ≡ 0
    → (if a then (if b then w else record {
      ready = slice_index_or w.waiting (index_of w) [];
      waiting =
          remove w.waiting (index_of w);
      picks = drop 1 w.picks;
    }) else w) ≡ w
still w true true e h none = refl
still w true false e h none =
    let below : index_of w < length w.waiting = index_below w (length w.waiting == 0) refl e in
    let some = at_some w.waiting (index_of w) h below in
    absurd (omega (arith, some, none))
still w false b e h none = refl

-- where no byte is to be given, nothing is turned
pub turned_still : (w : WaitingFrames) → NoneEmpty w.waiting → length (with_next_picked w).ready ≡ 0
    → with_next_picked w ≡ w
turned_still w h none = still w (length w.ready == 0) (length w.waiting == 0) refl h none

-- ---- what is given

abbrev pub after_giving : WaitingFrames → ℕ → WaitingFrames
after_giving w n = record {
  ready = drop n (with_next_picked w).ready;
  waiting = (with_next_picked w).waiting;
  picks =
      (with_next_picked w).picks;
}

-- the end is met where nothing is to be given
none_left : (xs : List ℕ) → length xs ≡ 0 → xs ≡ []
none_left [] e = refl
none_left (x ∷ xs) e = absurd (omega (arith, e))

drop_none : (n : ℕ) → (let xs : List ℕ = [] in drop n xs) ≡ []
drop_none zero = refl
drop_none (suc n) = refl

-- of no bytes none are left
dropped : (n : ℕ) (w : WaitingFrames) → w.ready ≡ [] → (let q : WaitingFrames =
    record { ready = drop n w.ready; waiting = w.waiting; picks = w.picks } in q) ≡ w
dropped n w none = ap (λ (x : List ℕ). let q : WaitingFrames =
    record { ready = x; waiting = w.waiting; picks = w.picks } in q)
    (ap (λ (x : List ℕ). drop n x) none ∙ (drop_none n ∙ sym none))

gives_bytes : (d : ServerState) (input bytes : List ℕ) (w after : WaitingFrames) (n : ℕ) → NoneEmpty w.waiting → after
    ≡ after_giving w n → bytes ≡ take n (with_next_picked w).ready → (n ≡ 0 → length (with_next_picked w).ready ≡ 0)
    → HandsBytes (server_of d input w) bytes (server_of d input after)
gives_bytes d input [] w after n h is bytes none =
    let zeroed : length (with_next_picked w).ready ≡ 0 = elim (cases_lt 0 n) [
      | inl lt ↦ (let l = length-take n (with_next_picked w).ready in let e : 0
          ≡ length (take n (with_next_picked w).ready) = ap length bytes in omega (arith, l, e, lt))
      | inr le ↦ none (omega (arith, le))
    ] in
    let nothing_there = none_left (with_next_picked w).ready zeroed in (
      ap (λ (o : WaitingFrames). server_of d input o) (is ∙ (dropped n (with_next_picked w) nothing_there
          ∙ turned_still w h zeroed)),
      nothing_there,
    )
gives_bytes d input (b ∷ bytes) w after n h is bytes_are none = record {
  ready = sym (take-append-drop n (with_next_picked w).ready)
      ∙ (ap (λ (x : List ℕ). x ++ drop n (with_next_picked w).ready) (sym bytes_are)
      ∙ ap (λ (o : WaitingFrames). (b ∷ bytes) ++ o.ready) (sym is));
  waiting = ap (λ (o : WaitingFrames). o.waiting) is;
  picks = ap (λ (o : WaitingFrames). o.picks) is;
  input = refl;
  state = refl;
}

limited_some : (empty : Bool) (cut n : ℕ) → (cut == 0) ≡ empty → 0 < n → 0 < (if empty then n else min n cut)
limited_some true cut n e some = some
limited_some false cut n e some = grind (arith, nat_tests)

-- a call gives as many bytes as it may, and none only where none are left
pub gives_most : (d : ServerState) (input bytes : List ℕ) (w after : WaitingFrames) (cut room n : ℕ)
    → NoneEmpty w.waiting
    → after ≡ after_giving w n → bytes ≡ take n (with_next_picked w).ready
    → n ≡ min (length_cut_at cut room) (length (with_next_picked w).ready) → 0 < room
    → HandsBytes (server_of d input w) bytes (server_of d input after)
gives_most d input bytes w after cut room n h is bytes_are n_is some =
    let least : 0 < length_cut_at cut room = limited_some (cut == 0) cut room refl some in
    gives_bytes d input bytes w after n h is bytes_are (λ e. omega (arith, e, n_is, least))

-- what was copied stands at the front of the room
pub came : (ready piece copied rest : List ℕ) (most n : ℕ) → piece ≡ take n ready → n ≡ min most (length ready) → copied
    ≡ piece → piece ≡ take n (copied ++ rest)
came ready piece copied rest most n is n_is same =
    let len : length piece ≡ n = (let l = length-take n ready in let e = ap length is in omega (arith, l, e, n_is)) in
    sym (ap (λ (w : List ℕ). take n (w ++ rest)) same ∙ (ap (λ (k : ℕ). take k (piece ++ rest)) (sym len)
    ∙ take-append_seam piece rest))

-- ---- what a server keeps

newest : (log more : List Piece) (piece : Piece) → more ≡ log ++ piece ∷ [] → piece ∷ reverse log ≡ reverse more
newest log more piece is = sym (ap reverse is ∙ reverse-append log (piece ∷ []))

pub sent_more : (first before now : Server) (log more : List Piece) (bytes : List ℕ) (ended : Bool)
    → IsServing first before (reverse log) ended → more ≡ log ++ Sent bytes ∷ [] → AbsorbsBytes before bytes now
    → IsServing first now (reverse more) false
sent_more first before now log more bytes ended s is absorbs = record {
  served = subst (λ (w : List Piece). IsServed first w now) (newest log more (Sent bytes) is)
      (before, s.served, absorbs);
  part = absorbs.part;
  end = λ e. absurd cc;
}

gives_part : (before now : Server) (bytes : List ℕ) → HandsBytes before bytes now → 0 < missing_bytes before.input
    → 0 < missing_bytes now.input
gives_part before now [] g some = subst (λ (w : Server). 0 < missing_bytes w.input) (sym g.0) some
gives_part before now (b ∷ bytes) g some = subst (λ (w : List ℕ). 0 < missing_bytes w) (sym g.input) some

gives_end : (before now : Server) (bytes : List ℕ) → HandsBytes before bytes now → length bytes ≡ 0
    → (with_next_picked now.output).ready ≡ []
gives_end before now [] g e = ap (λ (s : Server). (with_next_picked s.output).ready) g.0 ∙ g.1
gives_end before now (b ∷ bytes) g e = absurd (omega (arith, e))

pub got_more : (first before now : Server) (log more : List Piece) (bytes : List ℕ) (ended now_ended : Bool)
    → IsServing first before (reverse log) ended → more ≡ log ++ Got bytes ∷ [] → HandsBytes before bytes now
    → (now_ended ≡ true → length bytes ≡ 0) → IsServing first now (reverse more) now_ended
got_more first before now log more bytes ended now_ended s is gives none = record {
  served = subst (λ (w : List Piece). IsServed first w now) (newest log more (Got bytes) is) (before, s.served, gives);
  part = gives_part before now bytes gives s.part;
  end = λ e. gives_end before now bytes gives (none e);
}
