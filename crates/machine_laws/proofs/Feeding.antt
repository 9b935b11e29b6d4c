-- What a server does with pieces that join to good frames.
use Rattle.std.proofs.Common.{◌≡◌, ◌<◌, ◌≤◌, ◌==◌, ℕ, false, List, [], ◌∷◌, ◌++◌, length, None, refl, ap, sym, ◌∙◌, subst, append_assoc, arith, inl, inr}
use Rattle.std.specs.Prelude.{◌⊎◌}
use Rattle.std.proofs.lemmas.Bool.Decides.{nat_tests}
use Rattle.std.proofs.lemmas.List.{append-nil}
use Rattle.std.specs.List.{flat_map}
use Rattle.ssh_encoding.specs.Writing.{string}
use Rattle.sftp_link.specs.declared.piece.Piece.{Piece}
use Rattle.sftp_link.specs.declared.piece.Piece.TheVariants.{Sent, Got}
use Rattle.sftp_link.specs.Log.{AllSent, AllGot}
use Rattle.sftp_wire.specs.FrameReader.{missing_bytes, fault_of}
use Rattle.sftp_model.specs.Numbers.{MAX_BODY_LEN}
use Rattle.machine_answers.specs.WaitingFrames.{WaitingFrames, with_next_picked}
use Rattle.sftp_map_server.specs.Serving.{
  AbsorbsBytes,
  AllShort,
  ServerState,
  HandsBytes,
  GivesSome,
  IsServed,
  Replies,
  Server,
  all_left,
  all_said,
  after_frames,
  both,
  nothing,
  step,
  with_said,
}
use Rattle.session_driver.specs.ServingLinks.{IsOne}
use Rattle.sftp_map_server.proofs.Strings.{frames_front, no_faults, no_frame, nothing_missing}

-- ---- lists of bodies

short_behind : (xs ys : List (List ℕ)) → AllShort (xs ++ ys) → AllShort ys
short_behind [] ys s = s
short_behind (x ∷ xs) ys s = short_behind xs ys s.2

pub all_left-append : (d : ServerState) (xs ys : List (List ℕ)) → all_left d (xs ++ ys) ≡ all_left (all_left d xs) ys
all_left-append d [] ys = refl
all_left-append d (x ∷ xs) ys = all_left-append (step d x).1 xs ys

both_assoc : (a b c : Replies) → both (both a b) c ≡ both a (both b c)
both_assoc a b c i = record {
  at_once = append_assoc a.at_once b.at_once c.at_once i;
  later =
      append_assoc a.later b.later c.later i;
}

pub with_nothing : (o : WaitingFrames) → with_said o nothing ≡ o
with_nothing o i = record { ready = append-nil o.ready i; waiting = append-nil o.waiting i; picks = o.picks }

pub with_both : (o : WaitingFrames) (a b : Replies) → with_said (with_said o a) b ≡ with_said o (both a b)
with_both o a b i = record {
  ready = append_assoc o.ready a.at_once b.at_once i;
  waiting =
      append_assoc o.waiting a.later b.later i;
  picks = o.picks;
}

pub all_said-append : (d : ServerState) (xs ys : List (List ℕ)) → all_said d (xs ++ ys)
    ≡ both (all_said d xs) (all_said (all_left d xs) ys)
all_said-append d [] ys = refl
all_said-append d (x ∷ xs) ys = ap (λ (w : Replies). both (step d x).0 w) (all_said-append (step d x).1 xs ys)
    ∙ sym (both_assoc (step d x).0 (all_said (step d x).1 xs) (all_said (all_left (step d x).1 xs) ys))

-- the link is over at none of these bodies
abbrev pub StaysOpen : ServerState → List (List ℕ) → Type 0
StaysOpen d [] = d.over ≡ false
StaysOpen d (body ∷ more) = (d.over ≡ false) × StaysOpen (step d body).1 more

stays_at : (d : ServerState) (xs ys : List (List ℕ)) → StaysOpen d (xs ++ ys) → (all_left d xs).over ≡ false
stays_at d [] [] s = s
stays_at d [] (y ∷ ys) s = s.0
stays_at d (x ∷ xs) ys s = stays_at (step d x).1 xs ys s.1

pub stays_more : (d : ServerState) (xs : List (List ℕ)) (y : List ℕ) → StaysOpen d xs → (step (all_left d xs) y).1.over
    ≡ false → StaysOpen d (xs ++ y ∷ [])
stays_more d [] y s e = (s, e)
stays_more d (x ∷ xs) y s e = (s.0, stays_more (step d x).1 xs y s.1 e)

-- ---- bytes that are sent

-- Of these bodies' frames all but the tail were sent: some are answered, and a part of the next has come.
record Fed (before : Server) (bodies : List (List ℕ)) (tail : List ℕ) (after : Server) : Type 0 where
  done : List (List ℕ)
  more : List (List ℕ)
  split : bodies ≡ done ++ more
  left : after.input ++ tail ≡ flat_map string more
  part : 0 < missing_bytes after.input
  state : after.state ≡ all_left before.state done
  output : after.output ≡ with_said before.output (all_said before.state done)

-- a server without input, and bodies at which it isn't over
record Feeds (before : Server) (bodies : List (List ℕ)) : Type 0 where
  input : before.input ≡ []
  short : AllShort bodies
  stays : StaysOpen before.state bodies

behind_good : (d : ServerState) (rest : List ℕ) → d.over ≡ false → fault_of rest ≡ None → after_frames d rest
    ≡ (d, rest)
behind_good d rest e f = rw (e, f) refl

fed_more : (a b c : Server) (bodies : List (List ℕ)) (piece tail : List ℕ) → Feeds a bodies
    → Fed a bodies (piece ++ tail) b → AbsorbsBytes b piece c → Fed a bodies tail c
fed_more a b c bodies piece tail f p q =
    let short : AllShort p.more = short_behind p.done p.more (subst AllShort p.split f.short) in
    let whole : flat_map string q.bodies ++ (q.rest ++ tail) ≡ flat_map string p.more =
    sym (append_assoc (flat_map string q.bodies) q.rest tail) ∙
    (ap (λ (w : List ℕ). w ++ tail) (sym q.framed) ∙ (append_assoc b.input piece tail ∙ p.left)) in
    let front = frames_front q.bodies p.more (q.rest ++ tail) q.short short whole in
    let split : bodies ≡ (p.done ++ q.bodies) ++ front.0 = p.split
    ∙ (ap (λ (w : List (List ℕ)). p.done ++ w) front.1 ∙ sym (append_assoc p.done q.bodies front.0)) in
    let left : all_left b.state q.bodies ≡ all_left a.state (p.done ++ q.bodies) =
    ap (λ (w : ServerState). all_left w q.bodies) p.state ∙ sym (all_left-append a.state p.done q.bodies) in
    let still : (all_left b.state q.bodies).over ≡ false = ap (λ (w : ServerState). w.over) left
    ∙ stays_at a.state (p.done ++ q.bodies) front.0 (subst (StaysOpen a.state) split f.stays) in
    let good : fault_of q.rest ≡ None = no_faults q.rest tail front.0
    (short_behind q.bodies front.0 (subst AllShort front.1 short)) front.2 in
    let is = behind_good (all_left b.state q.bodies) q.rest still good in
    let input : c.input ≡ q.rest = q.input ∙ ap (λ (w : ServerState × List ℕ). w.1) is in
    record {
      done = p.done ++ q.bodies;
      more = front.0;
      split = split;
      left = ap (λ (w : List ℕ). w ++ tail) input ∙ front.2;
      part = q.part;
      state = q.state ∙ (ap (λ (w : ServerState × List ℕ). w.0) is ∙ left);
      output = q.output ∙ (ap (λ (w : WaitingFrames). with_said w (all_said b.state q.bodies)) p.output
          ∙ (with_both a.output (all_said a.state p.done) (all_said b.state q.bodies)
          ∙ ap (λ (w : Replies). with_said a.output w) (ap (λ (w : ServerState). both (all_said a.state p.done)
          (all_said w q.bodies)) p.state ∙ sym (all_said-append a.state p.done q.bodies))));
    }

part_nothing : (bytes : List ℕ) → bytes ≡ [] → 0 < missing_bytes bytes
part_nothing bytes e = rw e (omega arith)

fed_none : (a : Server) (bodies : List (List ℕ)) (front tail : List ℕ) → Feeds a bodies → front ≡ [] → front ++ tail
    ≡ flat_map string bodies → Fed a bodies tail a
fed_none a bodies front tail f none e =
    record {
      done = [];
      more = bodies;
      split = refl;
      left = ap (λ (w : List ℕ). w ++ tail) (f.input ∙ sym none) ∙ e;
      part = part_nothing a.input f.input;
      state = refl;
      output = sym (with_nothing a.output);
    }

-- pieces that were sent, joined, are all but the tail
sent_front : (first now : Server) (log group : List Piece) (front tail : List ℕ) (bodies : List (List ℕ))
    → AllSent group front → front ++ tail ≡ flat_map string bodies → IsServed first (group ++ log) now
    → (mid : Server) × (IsServed first log mid × (Feeds mid bodies → Fed mid bodies tail now))
sent_front first now log [] front tail bodies none e s = (now, (s, λ f. fed_none now bodies front tail f none e))
sent_front first now log (Got piece ∷ group) front tail bodies g e s = absurd g
sent_front first now log (Sent piece ∷ group) front tail bodies g e s =
    let rest = sent_front first s.0 log group g.0 (piece ++ tail) bodies g.2
    (sym (append_assoc g.0 piece tail) ∙ (ap (λ (w : List ℕ). w ++ tail) (sym g.1) ∙ e)) s.1 in
    (rest.0, (rest.1.0, λ f. fed_more rest.0 s.0 now bodies piece tail f (rest.1.1 f) s.2))

-- Frames came whole: all are answered.
pub record FedAll (before : Server) (bodies : List (List ℕ)) (after : Server) : Type 0 where
  pub input : after.input ≡ []
  pub state : after.state ≡ all_left before.state bodies
  pub output : after.output ≡ with_said before.output (all_said before.state bodies)

fed_all : (a b : Server) (bodies done more : List (List ℕ)) → AllShort bodies → bodies ≡ done ++ more → b.input ++ []
    ≡ flat_map string more → 0 < missing_bytes b.input
    → b.state ≡ all_left a.state done → b.output ≡ with_said a.output (all_said a.state done) → FedAll a bodies b
fed_all a b bodies done [] short split left part state output =
    let is : bodies ≡ done = split ∙ append-nil done in
    record {
      input = sym (append-nil b.input) ∙ left;
      state = state ∙ ap (all_left a.state) (sym is);
      output = output
          ∙ ap (λ (w : List (List ℕ)). with_said a.output (all_said a.state w)) (sym is);
    }
fed_all a b bodies done (body ∷ more) short split left part state output =
    let s : AllShort (body ∷ more) = short_behind done (body ∷ more) (subst AllShort split short) in
    let none : missing_bytes b.input ≡ 0 = ap missing_bytes (sym (append-nil b.input) ∙ left)
    ∙ nothing_missing body (flat_map string more) s.1 in
    absurd (omega (arith, none, part))

pub sent_all : (first now : Server) (log group : List Piece) (bytes : List ℕ) (bodies : List (List ℕ))
    → AllSent group bytes → bytes ≡ flat_map string bodies → IsServed first (group ++ log) now
    → (mid : Server) × (IsServed first log mid × (mid.input ≡ [] → AllShort bodies → StaysOpen mid.state bodies
    → FedAll mid bodies now))
sent_all first now log group bytes bodies sent is s =
    let h = sent_front first now log group bytes [] bodies sent (append-nil bytes ∙ is) s in (
      h.0,
      (
        h.1.0,
        λ input short stays. (let f = h.1.1 (record { input = input; short = short; stays = stays }) in
            fed_all h.0 now bodies f.done f.more short f.split f.left f.part f.state f.output),
      ),
    )

-- ---- bytes that are got

one_front : (front piece : List ℕ) → IsOne (front ++ piece) → IsOne front
one_front front piece one body rest some short e =
    left_none rest piece (one body (rest ++ piece) some short (ap (λ (w : List ℕ). w ++ piece) e
    ∙ append_assoc (string body) rest piece))
  where
    left_none : (x y : List ℕ) → x ++ y ≡ [] → x ≡ []
    left_none [] y e = refl
    left_none (n ∷ x) y e = absurd cc

-- what is given next begins with a whole frame
pub record BeginsWhole (output : WaitingFrames) : Type 0 where
  pub body : List ℕ
  pub rest : List ℕ
  pub framed : (with_next_picked output).ready ≡ string body ++ rest
  pub some : 0 < length body
  pub short : length body ≤ MAX_BODY_LEN

-- some bytes were given, or none, and then nothing changed
abbrev pub Given : Server → List ℕ → Server → Type 0
Given before bytes after = ((bytes ≡ []) × (after ≡ before)) ⊎ GivesSome before bytes after

-- while a frame is being given, no other one is
pub still_turned : (o : WaitingFrames) → 0 < length o.ready → with_next_picked o ≡ o
still_turned o some =
    let is : (length o.ready == 0) ≡ false = grind (arith, nat_tests) in
    rw is refl

not_none : (w : List ℕ) (y : ℕ) (z : List ℕ) → w ++ y ∷ z ≡ [] → ⊥
not_none [] y z e = absurd cc
not_none (v ∷ w) y z e = absurd cc

gives_on : (a b c : Server) (front piece : List ℕ) → BeginsWhole a.output → IsOne (front ++ piece) → Given a front b
    → HandsBytes b piece c → Given a (front ++ piece) c
gives_on a b c front [] whole one p q = subst (λ (w : List ℕ). Given a w c) (sym (append-nil front))
    (subst (Given a front) (sym q.0) p)
gives_on a b c front (x ∷ piece) whole one (inl none) q =
    subst (λ (w : List ℕ). Given a (w ++ x ∷ piece) c) (sym none.0)
    (inr (subst (λ (w : Server). GivesSome w (x ∷ piece) c) none.1 q))
gives_on a b c front (x ∷ piece) whole one (inr p) q = by_rest b.output.ready refl
  where
    by_rest : (rest : List ℕ) → b.output.ready ≡ rest → Given a (front ++ x ∷ piece) c
    by_rest [] e =
        let all : front ≡ string whole.body ++ whole.rest = sym (append-nil front)
        ∙ (ap (λ (w : List ℕ). front ++ w) (sym e) ∙ (sym p.ready ∙ whole.framed)) in
        let none : whole.rest ++ x ∷ piece ≡ [] =
        one whole.body (whole.rest ++ x ∷ piece) whole.some whole.short
        (ap (λ (w : List ℕ). w ++ x ∷ piece) all ∙ append_assoc (string whole.body) whole.rest (x ∷ piece)) in
        absurd (not_none whole.rest x piece none)
    by_rest (y ∷ rest) e =
        let same : with_next_picked b.output ≡ b.output = still_turned b.output
        (subst (λ (w : List ℕ). 0 < length w) (sym e) (omega arith)) in
        inr (record {
          ready = p.ready ∙ (ap (λ (w : List ℕ). front ++ w) (ap (λ (w : WaitingFrames). w.ready) (sym same) ∙ q.ready)
              ∙ sym (append_assoc front (x ∷ piece) c.output.ready));
          waiting = q.waiting ∙ (ap (λ (w : WaitingFrames). w.waiting) same ∙ p.waiting);
          picks = q.picks ∙ (ap (λ (w : WaitingFrames). w.picks) same ∙ p.picks);
          input = q.input ∙ p.input;
          state = q.state ∙ p.state;
        })

-- pieces that were got, joined, are at most one frame: they stood at the front of what was given next
pub got_front : (first now : Server) (log group : List Piece) (bytes : List ℕ) → AllGot group bytes → IsOne bytes
    → IsServed first (group ++ log) now
    → (mid : Server) × (IsServed first log mid × (BeginsWhole mid.output → Given mid bytes now))
got_front first now log [] bytes none one s = (now, (s, λ whole. inl (none, refl)))
got_front first now log (Sent piece ∷ group) bytes g one s = absurd g
got_front first now log (Got piece ∷ group) bytes g one s =
    let each : IsOne (g.0 ++ piece) = subst IsOne g.1 one in
    let rest = got_front first s.0 log group g.0 g.2 (one_front g.0 piece each) s.1 in (
      rest.0,
      (
        rest.1.0,
        λ whole. subst (λ (w : List ℕ). Given rest.0 w now) (sym g.1)
            (gives_on rest.0 s.0 now g.0 piece whole each (rest.1.1 whole) s.2),
      ),
    )

-- a frame that was got whole is the first of what was given next
pub got_frame : (mid now : Server) (body : List ℕ) → Given mid (string body) now → GivesSome mid (string body) now
got_frame mid now body (inl none) = absurd (no_frame body [] (append-nil (string body) ∙ none.0))
got_frame mid now body (inr p) = p
