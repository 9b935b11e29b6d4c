-- What a fill puts into the buffer, and what a consumer takes out of it, by their plans.
use Rattle.std.proofs.Common.{
  ◌≡◌,
  ◌≤◌,
  ◌<◌,
  ◌+◌,
  ◌-◌,
  ◌^◌,
  ◌∙◌,
  refl,
  sym,
  ap,
  arith,
  ℕ,
  true,
  false,
  List,
  [],
  ◌∷◌,
  ◌++◌,
  Result,
  Ok,
  Err,
  inl,
  ◌⊎◌,
  ◌==◌,
  length,
  take,
  drop,
  if◌then◌else◌,
}
use Rattle.std.specs.Prelude.{min, not, ◌&&◌}
use Rattle.std.proofs.lemmas.Bool.Decides.{nat_tests}
use Rattle.std.proofs.lemmas.List.{length-take, length-take-le, length-drop, take_min, drop_min}
use Rattle.std.proofs.Math.Seq.{take-append_seam}
use Rattle.sftp_model.specs.Numbers.{SSH_FX_EOF}
use Rattle.sftp_model.specs.declared.error.Error.{Error}
use Rattle.sftp_model.specs.declared.error.Error.TheVariants as error
use Rattle.sftp_model.specs.declared.error.IoKind.TheVariants as kind
use Rattle.sftp_model.specs.declared.outcome.Outcome.TheVariants as outcome
use Rattle.sftp_model.specs.declared.reply.Reply.{Reply}
use Rattle.sftp_model.specs.declared.reply.Reply.TheVariants as reply
use Rattle.sftp_model.specs.declared.request.Request.TheVariants as request
use Rattle.sftp_model.specs.declared.slot.Facts.{Facts}
use Rattle.sftp_model.specs.declared.slot.Move.{Move}
use Rattle.sftp_model.specs.declared.slot.Move.TheVariants.{Ask, Done}
use Rattle.sftp_model.specs.declared.slot.Site.{Site}
use Rattle.sftp_model.specs.declared.slot.Slot.TheVariants.{Buffered}
use Rattle.plan_model.specs.BufferPlans.{buffered_bytes}
use Rattle.plan_model.specs.Moves.{Answers, Plan, further, handle_of, overflows, refuse_locally}
use Rattle.sftp_core.specs.Core.{Core}
use Rattle.plan_state.specs.declared.poll.Poll.{Poll}
use Rattle.plan_state.specs.declared.poll.Poll.TheVariants as poll
use Rattle.sftp_file.specs.Files.{facts_of, file_at}
use Rattle.sftp_buffered.specs.Buffered.{CompatValue, DefersWrites, IsSound, buffer_of, lane_of, len_of, place_of}
use Rattle.sftp_buffered.specs.Polls.{AnyCut, PollsPlan, PlanWaits}
use Rattle.sftp_buffered.specs.Reads.{
  BeganRead,
  FillsBuffer,
  ReadsTo,
  TookRead,
  append_next,
  with_bytes_appended,
  buf_fill_next,
  after_consuming,
  end_of,
  fill_plan,
  fill_value,
  ready_next,
  ready_plan,
  room_outcome,
  was_appended,
  without_read,
}
use Rattle.sftp_buffered.specs.Steps.{IsLeft, IsRestOf}
use Rattle.sftp_buffered.proofs.Filling.{fills_memory, fills_others, fills_sound}
use Rattle.sftp_buffered.proofs.FillPlans.{
  EndsRefused,
  ReadsBy,
  ended_status,
  fills_pending,
  fills_stop,
  fills_took,
  refused_content,
  took_goes,
  took_rest,
}
use Rattle.sftp_buffered.proofs.Others.{others_same}
use Rattle.sftp_buffered.proofs.Resting.{rest_same}

-- ---- into the buffer

abbrev pub append_go : CompatValue → Reply → Move
append_go p = was_appended 0 (file_at p.file) (buffer_of p) (lane_of p)

fill_by : (amt : ℕ) (facts : Facts) (answers : Answers) (p : CompatValue) → p.file.readable ≡ true
    → handle_of (answers 0) ≡ p.file.grant.handle
    → ReadsBy (buf_fill_next 0 amt (lane_of p) facts) (min amt facts.read_len) (append_go p) answers p
fill_by amt facts answers p may brought =
    record {
      asks = λ none.
          (λ i. if not (may i) then refuse_locally kind.NotReadable (lane_of p) else
          append_next 0 amt (file_at p.file) (buffer_of p) (lane_of p) facts (place_of (none i)) [] answers)
          ∙ (λ i. if not (may i) then refuse_locally kind.NotReadable (lane_of p) else
          if overflows (end_of p) (min amt facts.read_len) then refuse_locally kind.OffsetOverflow (lane_of p)
          else Ask (request.Read (brought i) (end_of p) (min amt facts.read_len)));
      waits = λ r is.
          (λ i. if not (may i) then refuse_locally kind.NotReadable (lane_of p) else
          append_next 0 amt (file_at p.file) (buffer_of p) (lane_of p) facts (place_of (is i)) [] answers);
    }

append_refused : (p : CompatValue) → EndsRefused (append_go p) p
append_refused p r e is = refused_content r (lane_of (without_read p)) (Done outcome.Done (lane_of (without_read p))) _
    e is

append_status : (code : ℕ) (message language : List ℕ) (p : CompatValue) → Ok tt
    ≡ fill_value (reply.Status code message language)
    → append_go p (reply.Status code message language) ≡ Done outcome.Done (lane_of (without_read p))
append_status code message language p is = ended_status code message language (lane_of (without_read p))
    (Done outcome.Done (lane_of (without_read p))) (code == SSH_FX_EOF) is

append_ends : (p : CompatValue) (r : Reply) → Ok tt ≡ fill_value r → append_go p r
    ≡ Done outcome.Done (lane_of (without_read (with_bytes_appended r p)))
append_ends p (reply.Content bytes) is = refl
append_ends p (reply.Status code message language) is = append_status code message language p is
append_ends p (reply.Handle handle) is = absurd cc
append_ends p (reply.Version version extensions) is = absurd cc
append_ends p (reply.Names names) is = absurd cc
append_ends p (reply.Attrs attrs) is = absurd cc
append_ends p (reply.Extended content) is = absurd cc

fills_by : (plan : Plan) (len : ℕ) (old new : Core) (p q : CompatValue) (result : Poll (Result (Unit {0}) Error))
    (answers : Answers) → ReadsBy plan len (append_go p) answers p → DefersWrites old p answers
    → FillsBuffer len old new p q result
    → PollsPlan (PlanWaits plan answers old (IsLeft old new p q) ⊎ BeganRead plan answers old new p q)
    (IsLeft old new p q) AnyCut
    plan (λ (u : Unit {0}). outcome.Done) answers old new p q result
fills_by plan len old new p q poll.Pending answers h d f = fills_pending plan len (append_go p) answers old new p q h d
    f
fills_by plan len old new p q (poll.Ready (Ok u)) answers h d f =
    let t : TookRead old new p q (Ok tt) = fills_took len old new p q f in
    inl (record {
      ends = took_goes plan len (append_go p) answers old new p q (Ok tt) h d t
          ∙ (append_ends p t.reply t.says ∙ ap (λ (x : CompatValue). Done outcome.Done (lane_of x)) (sym t.left));
      rest = took_rest old new p q (Ok tt) t;
    })
fills_by plan len old new p q (poll.Ready (Err e)) answers h d f =
    fills_stop (λ (u : Unit {0}). outcome.Done) plan len (append_go p) answers old new p q e h d (append_refused p) f

fills_to : (plan : Plan) (len : ℕ) (old new : Core) (p q : CompatValue) (result : Poll (Result (Unit {0}) Error))
    → ((answers : Answers) → DefersWrites old p answers → ReadsBy plan len (append_go p) answers p) → IsSound old p
    → FillsBuffer len old new p q result → ReadsTo plan (λ (u : Unit {0}). outcome.Done) old new p q result
fills_to plan len old new p q result by s f =
    record {
      polled = λ answers d. fills_by plan len old new p q result answers (by answers d) d f;
      sound = fills_sound len old new p q result s f;
      others = fills_others len old new p q result s f;
      memory = fills_memory len old new p q result f;
    }

pub fill_reads : (amt : ℕ) (old new : Core) (p q : CompatValue) (result : Poll (Result (Unit {0}) Error))
    → p.file.readable ≡ true → IsSound old p → FillsBuffer (min amt (facts_of old).read_len) old new p q result
    → ReadsTo (fill_plan amt old p) (λ (u : Unit {0}). outcome.Done) old new p q result
fill_reads amt old new p q result may s f =
    fills_to (fill_plan amt old p) (min amt (facts_of old).read_len) old new p q result
    (λ answers d. fill_by amt (facts_of old) answers p may d.brought) s f

-- ---- into an empty buffer

pub empty_is : (xs : List ℕ) → (length xs == 0) ≡ true → xs ≡ []
empty_is [] e = refl
empty_is (x ∷ xs) e = absurd (grind (arith, nat_tests))

ready_is : (old : Core) (p : CompatValue) (answers : Answers) → p.buffered ≡ [] → ready_plan old p [] answers
    ≡ fill_plan p.buffer_len old p [] answers
ready_is old p answers none = ap (λ (xs : List ℕ). ready_next 0 (lane_of p) (facts_of old) xs (buffer_of p) [] answers)
    none

pub ready_reads : (old new : Core) (p q : CompatValue) (result : Poll (Result (Unit {0}) Error)) → p.file.readable
    ≡ true → (length p.buffered == 0) ≡ true → IsSound old p
    → FillsBuffer (min p.buffer_len (facts_of old).read_len) old new p q result
    → ReadsTo (ready_plan old p) (λ (u : Unit {0}). outcome.Done) old new p q result
ready_reads old new p q result may none s f =
    fills_to (ready_plan old p) (min p.buffer_len (facts_of old).read_len) old new p q result
    (λ answers d. (let h = fill_by p.buffer_len (facts_of old) answers p may d.brought in record {
      asks = λ under_way. ready_is old p answers (empty_is p.buffered none) ∙ h.asks under_way;
      waits = λ r is. ready_is old p answers (empty_is p.buffered none) ∙ h.waits r is;
    }))
    s f

full_ready : (old : Core) (p : CompatValue) (xs : List ℕ) (answers : Answers) → (length xs == 0) ≡ false
    → ready_next 0 (lane_of p) (facts_of old) xs (buffer_of p) [] answers ≡ Done outcome.Done (lane_of p)
full_ready old p [] answers some = absurd cc
full_ready old p (x ∷ xs) answers some = refl

-- something is buffered
pub ready_stays : (core : Core) (c : CompatValue) → (length c.buffered == 0) ≡ false → IsSound core c
    → ReadsTo (ready_plan core c) (λ (u : Unit {0}). outcome.Done) core core c c (poll.Ready (Ok tt))
ready_stays core c some s =
    record {
      polled = λ answers d. inl (record {
        ends = full_ready core c c.buffered answers some;
        rest =
            rest_same core c;
      });
      sound = s;
      others = others_same core c;
      memory = tt;
    }

unreadable_fill : (amt : ℕ) (core : Core) (c : CompatValue) (answers : Answers) → c.file.readable ≡ false
    → fill_plan amt core c [] answers ≡ refuse_locally kind.NotReadable (lane_of c)
unreadable_fill amt core c answers not_so =
    (λ i. if not (not_so i) then refuse_locally kind.NotReadable (lane_of c) else
    append_next 0 amt (file_at c.file) (buffer_of c) (lane_of c) (facts_of core) (place_of c.reading) [] answers)

pub unreadable_fills : (amt : ℕ) (core : Core) (c : CompatValue) → c.file.readable ≡ false → IsSound core c
    → ReadsTo (fill_plan amt core c) (λ (u : Unit {0}). outcome.Done) core core c c
    (poll.Ready (Err (error.IOError kind.NotReadable)))
unreadable_fills amt core c not_so s =
    record {
      polled = λ answers d. record { ends = unreadable_fill amt core c answers not_so; rest = rest_same core c };
      sound = s;
      others = others_same core c;
      memory = tt;
    }

pub unreadable_ready : (core : Core) (c : CompatValue) → c.file.readable ≡ false → (length c.buffered == 0) ≡ true
    → IsSound core c
    → ReadsTo (ready_plan core c) (λ (u : Unit {0}). outcome.Done) core core c c
    (poll.Ready (Err (error.IOError kind.NotReadable)))
unreadable_ready core c not_so none s =
    record {
      polled = λ answers d. record {
        ends = ready_is core c answers (empty_is c.buffered none)
            ∙ unreadable_fill c.buffer_len core c answers not_so;
        rest = rest_same core c;
      };
      sound = s;
      others = others_same core c;
      memory = tt;
    }

-- ---- out of the buffer

consumed_ends : (offset n kept most : ℕ) (xs : List ℕ) → n ≤ length xs → offset + length xs + kept < 2 ^ 64
    → offset + n + length (drop n xs) + kept < 2 ^ 64
consumed_ends offset n kept most xs within ends = (let len : length (drop n xs) ≡ length xs - n = length-drop n xs in
    omega (arith, len, within, ends))

less_kept : (n most : ℕ) (xs : List ℕ) → length xs ≤ most → length (drop n xs) ≤ most
less_kept n most xs fits = (let len : length (drop n xs) ≡ length xs - n = length-drop n xs in omega (arith, len, fits))

pub consumed_sound : (core : Core) (c : CompatValue) (n : ℕ) → n ≤ length c.buffered → IsSound core c
    → IsSound core (after_consuming c n)
consumed_sound core c n within s =
    record {
      held = record { writes = s.held.writes; read = s.held.read };
      counted = record {
        pending = s.counted.pending;
        rising = s.counted.rising;
        placed = s.counted.placed;
        ends = consumed_ends c.file.offset n (len_of c.reading) 0 c.buffered within s.counted.ends;
        capacity = less_kept n c.capacity c.buffered s.counted.capacity;
      };
    }

pub consumed_rest : (old new : Core) (p m : CompatValue) (n : ℕ) → IsRestOf old new p m
    → IsRestOf old new p (after_consuming m n)
consumed_rest old new p m n r =
    record {
      between = r.between;
      taken = record { gone = r.taken.gone; deferred = r.taken.deferred; core = r.taken.core };
      reading = r.reading;
      place = r.place;
      capacity = r.capacity;
      most = r.most;
    }

-- the bytes that are given
pub given_is : (m : CompatValue) (n : ℕ) → buffered_bytes 0 n m.buffered (file_at m.file) (buffer_of m) (lane_of m)
    ≡ Done (outcome.Bytes (take n m.buffered)) (lane_of (after_consuming m (min n (length m.buffered))))
given_is m n =
    let site : ℕ → List ℕ → Site = λ j ys. record {
      slots = Buffered (further (file_at m.file) j)
          (record (buffer_of m) { bytes = ys }) ∷ [];
      directory = [];
    } in
    (λ i. Done (outcome.Bytes (take n m.buffered)) (site (length-take n m.buffered i) (sym (drop_min n m.buffered) i)))

-- what was put into a room
pub record IsPut (n k : ℕ) (xs old new : List ℕ) : Type 0 where
  pub room : n ≡ length old
  pub len : k ≡ min n (length xs)
  pub put : new ≡ take k xs ++ drop k old

put_first : (n k : ℕ) (xs old new : List ℕ) → IsPut n k xs old new → take k new ≡ take n xs
put_first n k xs old new h =
    let within : k ≤ length xs = omega (arith, h.len) in
    let long : length (take k xs) ≡ k = length-take-le k xs within in
    ap (take k) h.put ∙ (ap (λ (j : ℕ). take j (take k xs ++ drop k old)) (sym long)
    ∙ (take-append_seam (take k xs) (drop k old) ∙ (ap (λ (j : ℕ). take j xs) h.len ∙ take_min n xs)))

put_some : (n k : ℕ) (xs : List ℕ) → k ≡ min n (length xs) → (n == 0) ≡ false → (length xs == 0) ≡ false → (k == 0)
    ≡ false
put_some n k xs len some there = grind (arith, nat_tests)

pub put_outcome : (n k : ℕ) (xs old new : List ℕ) → IsPut n k xs old new → (n == 0) ≡ false → (length xs == 0) ≡ false
    → room_outcome n new k ≡ outcome.Bytes (take n xs)
put_outcome n k xs old new h some there =
    (λ i. if put_some n k xs h.len some there i && not (n == 0) then outcome.End else outcome.Bytes (take k new))
    ∙ ap (λ (ys : List ℕ). outcome.Bytes ys) (put_first n k xs old new h)

pub put_none : (n k : ℕ) (xs : List ℕ) → k ≡ min n (length xs) → xs ≡ [] → k ≡ 0
put_none n k xs len none = (let short : length xs ≡ 0 = ap (λ (ys : List ℕ). length ys) none in
    omega (arith, len, short))

pub end_outcome : (n k : ℕ) (new : List ℕ) → k ≡ 0 → (n == 0) ≡ false → room_outcome n new k ≡ outcome.End
end_outcome n k new zero_is some =
    ap (λ (j : ℕ). room_outcome n new j) zero_is ∙ (λ i. if not (some i) then outcome.End else
    outcome.Bytes (take 0 new))
