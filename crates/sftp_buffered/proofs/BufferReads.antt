-- Reads through the buffer, by their plans.
use Rattle.std.proofs.Common.{
  ◌≡◌,
  ◌≤◌,
  ◌<◌,
  ◌+◌,
  ◌∙◌,
  refl,
  sym,
  ap,
  subst,
  arith,
  ℕ,
  true,
  false,
  List,
  [],
  ◌∷◌,
  ◌++◌,
  None,
  Ok,
  Err,
  inl,
  ◌==◌,
  length,
  take,
  if◌then◌else◌,
}
use Rattle.std.specs.Prelude.{min, max, not}
use Rattle.std.proofs.lemmas.Bool.Decides.{nat_tests}
use Rattle.sftp_model.specs.Numbers.{SSH_FX_EOF}
use Rattle.sftp_model.specs.declared.answers.Expected.TheVariants as expected
use Rattle.sftp_model.specs.Answers.{allows_reply}
use Rattle.sftp_model.specs.declared.error.Error.{Error}
use Rattle.sftp_model.specs.declared.error.Error.TheVariants as error
use Rattle.sftp_model.specs.declared.error.IoKind.TheVariants as kind
use Rattle.sftp_model.specs.declared.outcome.Outcome.TheVariants as outcome
use Rattle.sftp_model.specs.declared.reply.Reply.{Reply}
use Rattle.sftp_model.specs.declared.reply.Reply.TheVariants as reply
use Rattle.sftp_model.specs.declared.request.Request.TheVariants as request
use Rattle.sftp_model.specs.declared.slot.Move.{Move}
use Rattle.sftp_model.specs.declared.slot.Move.TheVariants.{Ask, Done}
use Rattle.plan_model.specs.BufferPlans.{fill_next, from_buffer, buffered_bytes, was_filled}
use Rattle.plan_model.specs.Moves.{Answers, handle_of, overflows, refuse_locally}
use Rattle.sftp_core.specs.Core.{Core}
use Rattle.plan_state.specs.declared.poll.Poll.TheVariants as poll
use Rattle.sftp_file.specs.Files.{facts_of, file_at}
use Rattle.sftp_buffered.specs.Buffered.{CompatValue, IsSound, buffer_of, lane_of, place_of}
use Rattle.sftp_buffered.specs.Reads.{
  CanReadOn,
  FillsBuffer,
  ReadsTo,
  TookRead,
  with_bytes_appended,
  after_consuming,
  end_of,
  fill_value,
  read_plan,
  room_outcome,
  without_read,
}
use Rattle.sftp_buffered.specs.Steps.{IsRestOf}
use Rattle.sftp_buffered.proofs.Filling.{content_some, fills_memory, fills_others, fills_sound, memory_as}
use Rattle.sftp_buffered.proofs.FillPlans.{
  EndsRefused,
  ReadsBy,
  ended_status,
  fills_pending,
  fills_stop,
  fills_took,
  refused_content,
  took_goes,
  took_rest,
}
use Rattle.sftp_buffered.proofs.Others.{others_same}
use Rattle.sftp_buffered.proofs.Resting.{rest_same}
use Rattle.sftp_buffered.proofs.Reading.{
  empty_is,
  consumed_sound,
  consumed_rest,
  given_is,
  IsPut,
  put_outcome,
  put_none,
  end_outcome,
}

-- ---- a read

-- the looks of a read before the buffer
pub record MayRead (n : ℕ) (c : CompatValue) : Type 0 where
  pub may : c.file.readable ≡ true
  pub some : (n == 0) ≡ false

read_looks : (n : ℕ) (core : Core) (c : CompatValue) (answers : Answers) → MayRead n c → read_plan n core c [] answers
    ≡ from_buffer 0 n (file_at c.file) (buffer_of c) (lane_of c) (facts_of core) c.buffered [] answers
read_looks n core c answers m =
    (λ i. if not (m.may i) then refuse_locally kind.NotReadable (lane_of c) else if m.some i then
    Done (outcome.Bytes []) (lane_of c)
    else from_buffer 0 n (file_at c.file) (buffer_of c) (lane_of c) (facts_of core) c.buffered [] answers)

from_is : (n : ℕ) (core : Core) (c : CompatValue) (answers : Answers) (xs : List ℕ) → (length xs == 0) ≡ false
    → from_buffer 0 n (file_at c.file) (buffer_of c) (lane_of c) (facts_of core) xs [] answers
    ≡ buffered_bytes 0 n xs (file_at c.file) (buffer_of c) (lane_of c)
from_is n core c answers [] some = absurd cc
from_is n core c answers (x ∷ xs) some = refl

-- something is buffered
pub buffered_reads : (n k : ℕ) (core : Core) (p q : CompatValue) (old new : List ℕ) → MayRead n p
    → (length p.buffered == 0) ≡ false → IsSound core p → IsPut n k p.buffered old new → q ≡ after_consuming p k
    → ReadsTo (read_plan n core p) (room_outcome n new) core core p q (poll.Ready (Ok k))
buffered_reads n k core p q old new m there s h left =
    let within : k ≤ length p.buffered = omega (arith, h.len) in
    record {
      polled = λ answers d. inl (record {
        ends = read_looks n core p answers m ∙ (from_is n core p answers p.buffered there ∙ (given_is p n
            ∙ ((λ i. Done (sym (put_outcome n k p.buffered old new h m.some there) i)
            (lane_of (after_consuming p (sym h.len i)))) ∙ ap (λ (x : CompatValue). Done (room_outcome n new k)
            (lane_of x)) (sym left))));
        rest = subst (IsRestOf core core p) (sym left) (consumed_rest core core p p k (rest_same core p));
      });
      sound = subst (IsSound core) (sym left) (consumed_sound core p k within s);
      others = others_same core p;
      memory = tt;
    }

abbrev pub read_go : ℕ → CompatValue → Reply → Move
read_go n p = was_filled 0 n (file_at p.file) (buffer_of p) (lane_of p)

end_is : (p : CompatValue) → p.buffered ≡ [] → p.file.offset ≡ end_of p
end_is p none = (let short : length p.buffered ≡ 0 = ap (λ (ys : List ℕ). length ys) none in omega (arith, short))

read_by : (n : ℕ) (old : Core) (answers : Answers) (p : CompatValue) → MayRead n p → p.buffered ≡ []
    → handle_of (answers 0) ≡ p.file.grant.handle
    → ReadsBy (read_plan n old p) (min (max n p.buffer_len) (facts_of old).read_len) (read_go n p) answers p
read_by n old answers p m none brought =
    let len : ℕ = min (max n p.buffer_len) (facts_of old).read_len in
    let looks : read_plan n old p [] answers ≡ fill_next 0 n (file_at p.file) (buffer_of p) (lane_of p) (facts_of old)
    (place_of p.reading) [] answers =
    read_looks n old p answers m ∙ ap (λ (xs : List ℕ). from_buffer 0 n (file_at p.file) (buffer_of p) (lane_of p)
    (facts_of old) xs [] answers) none in
    record {
      asks = λ under_way. looks
          ∙ ((λ i. fill_next 0 n (file_at p.file) (buffer_of p) (lane_of p) (facts_of old) (place_of (under_way i)) []
          answers)
          ∙ (λ i. if not (m.may i) then refuse_locally kind.NotReadable (lane_of p) else
          if overflows (end_is p none i) len then refuse_locally kind.OffsetOverflow (lane_of p)
          else Ask (request.Read (brought i) (end_is p none i) len)));
      waits = λ r is. looks ∙ (λ i. fill_next 0 n (file_at p.file) (buffer_of p) (lane_of p) (facts_of old)
          (place_of (is i)) [] answers);
    }

read_refused : (n : ℕ) (p : CompatValue) → EndsRefused (read_go n p) p
read_refused n p r e is = refused_content r (lane_of (without_read p)) (Done outcome.End (lane_of (without_read p))) _ e
    is

some_content : (len : ℕ) (bytes : List ℕ) → allows_reply (expected.Content len) (reply.Content bytes) ≡ true
    → (length bytes == 0) ≡ false
some_content len bytes fits = (let there : 0 < length bytes = content_some len bytes fits in grind (arith, nat_tests))

-- a DATA into an empty buffer, of which the first bytes are given
content_gives : (n k len : ℕ) (p : CompatValue) (bytes old new : List ℕ) → (n == 0) ≡ false → p.buffered ≡ []
    → allows_reply (expected.Content len) (reply.Content bytes) ≡ true
    → IsPut n k (p.buffered ++ bytes) old new → read_go n p (reply.Content bytes)
    ≡ Done (room_outcome n new k) (lane_of (after_consuming (without_read (with_bytes_appended (reply.Content bytes) p))
    k))
content_gives n k len p bytes old new some none fits h =
    let m : CompatValue = without_read (with_bytes_appended (reply.Content bytes) p) in
    let all : bytes ≡ p.buffered ++ bytes = ap (λ (xs : List ℕ). xs ++ bytes) (sym none) in
    let there : (length (p.buffered ++ bytes) == 0) ≡ false = subst (λ (xs : List ℕ). (length xs == 0) ≡ false) all
    (some_content len bytes fits) in
    (λ i. buffered_bytes 0 n (all i) (file_at p.file) (record (buffer_of p) { reading = None }) (lane_of p))
    ∙ (given_is m n ∙ (λ i. Done (sym (put_outcome n k (p.buffered ++ bytes) old new h some there) i)
    (lane_of (after_consuming m (sym h.len i)))))

consumed_none : (m : CompatValue) (k : ℕ) → k ≡ 0 → lane_of (after_consuming m k) ≡ lane_of m
consumed_none m k zero_is =
    ap (λ (j : ℕ). lane_of (after_consuming m j)) zero_is
    ∙ (let same : m.file.offset + 0 ≡ m.file.offset = omega arith in
    (λ i. lane_of (record m { file = record m.file { offset = same i } })))

-- the end of the file gives none
end_gives : (n k : ℕ) (p : CompatValue) (code : ℕ) (message language old new : List ℕ) → (n == 0) ≡ false → p.buffered
    ≡ [] → Ok tt ≡ fill_value (reply.Status code message language)
    → IsPut n k p.buffered old new → read_go n p (reply.Status code message language)
    ≡ Done (room_outcome n new k) (lane_of (after_consuming (without_read p) k))
end_gives n k p code message language old new some none is h =
    let nothing : k ≡ 0 = put_none n k p.buffered h.len none in
    ended_status code message language (lane_of (without_read p)) (Done outcome.End (lane_of (without_read p)))
    (code == SSH_FX_EOF) is
    ∙ (λ i. Done (sym (end_outcome n k new nothing some) i) (sym (consumed_none (without_read p) k nothing) i))

read_gives : (n k len : ℕ) (p : CompatValue) (r : Reply) (old new : List ℕ) → (n == 0) ≡ false → p.buffered ≡ []
    → allows_reply (expected.Content len) r ≡ true → Ok tt ≡ fill_value r
    → IsPut n k (without_read (with_bytes_appended r p)).buffered old new → read_go n p r
    ≡ Done (room_outcome n new k) (lane_of (after_consuming (without_read (with_bytes_appended r p)) k))
read_gives n k len p (reply.Content bytes) old new some none fits is h =
    content_gives n k len p bytes old new some none fits h
read_gives n k len p (reply.Status code message language) old new some none fits is h =
    end_gives n k p code message language old new some none is h
read_gives n k len p (reply.Handle handle) old new some none fits is h = absurd cc
read_gives n k len p (reply.Version version extensions) old new some none fits is h = absurd cc
read_gives n k len p (reply.Names names) old new some none fits is h = absurd cc
read_gives n k len p (reply.Attrs attrs) old new some none fits is h = absurd cc
read_gives n k len p (reply.Extended content) old new some none fits is h = absurd cc

-- the reply was taken, and its first bytes were given
pub filled_reads : (n k : ℕ) (core next : Core) (p m q : CompatValue) (old new : List ℕ) → MayRead n p
    → (length p.buffered == 0) ≡ true → IsSound core p → FillsBuffer (min (max n p.buffer_len) (facts_of core).read_len)
    core
    next p m (poll.Ready (Ok tt))
    → IsPut n k m.buffered old new → q ≡ after_consuming m k →
    ReadsTo (read_plan n core p) (room_outcome n new) core next p q (poll.Ready (Ok k))
filled_reads n k core next p m q old new h empty s f put left =
    let none : p.buffered ≡ [] = empty_is p.buffered empty in
    let len : ℕ = min (max n p.buffer_len) (facts_of core).read_len in
    let t : TookRead core next p m (Ok tt) = fills_took len core next p m f in
    let within : k ≤ length m.buffered = omega (arith, put.len) in
    let here : IsPut n k (without_read (with_bytes_appended t.reply p)).buffered old new =
    subst (λ (x : CompatValue). IsPut n k x.buffered old new) t.left put in
    record {
      polled = λ answers d. inl (record {
        ends = took_goes (read_plan n core p) len (read_go n p) answers core next p m (Ok tt)
            (read_by n core answers p h none d.brought) d t
            ∙ (read_gives n k t.read.len p t.reply old new h.some none t.allowed t.says here
            ∙ (ap (λ (x : CompatValue). Done (room_outcome n new k) (lane_of (after_consuming x k))) (sym t.left)
            ∙ ap (λ (x : CompatValue). Done (room_outcome n new k) (lane_of x)) (sym left)));
        rest = subst (IsRestOf core next p) (sym left) (consumed_rest core next p m k
            (took_rest core next p m (Ok tt) t));
      });
      sound = subst (IsSound next) (sym left) (consumed_sound next m k within
          (fills_sound len core next p m (poll.Ready (Ok tt)) s f));
      others = fills_others len core next p m (poll.Ready (Ok tt)) s f;
      memory = tt;
    }

pub pending_reads : (n : ℕ) (core next : Core) (p q : CompatValue) (room : List ℕ) → MayRead n p
    → (length p.buffered == 0) ≡ true → IsSound core p → FillsBuffer (min (max n p.buffer_len) (facts_of core).read_len)
    core
    next p q poll.Pending
    → ReadsTo (read_plan n core p) (room_outcome n room) core next p q poll.Pending
pending_reads n core next p q room h empty s f =
    let len : ℕ = min (max n p.buffer_len) (facts_of core).read_len in
    record {
      polled = λ answers d. fills_pending (read_plan n core p) len (read_go n p) answers core next p q
          (read_by n core answers p h (empty_is p.buffered empty) d.brought) d f;
      sound = fills_sound len core next p q poll.Pending s f;
      others = fills_others len core next p q poll.Pending s f;
      memory = tt;
    }

pub refused_reads : (n : ℕ) (core next : Core) (p q : CompatValue) (room : List ℕ) (e : Error) → MayRead n p
    → (length p.buffered == 0) ≡ true → IsSound core p → FillsBuffer (min (max n p.buffer_len) (facts_of core).read_len)
    core
    next p q (poll.Ready (Err e))
    → ReadsTo (read_plan n core p) (room_outcome n room) core next p q (poll.Ready (Err e))
refused_reads n core next p q room e h empty s f =
    let len : ℕ = min (max n p.buffer_len) (facts_of core).read_len in
    record {
      polled = λ answers d. fills_stop (room_outcome n room) (read_plan n core p) len (read_go n p) answers core next p
          q e (read_by n core answers p h (empty_is p.buffered empty) d.brought) d (read_refused n p) f;
      sound = fills_sound len core next p q (poll.Ready (Err e)) s f;
      others = fills_others len core next p q (poll.Ready (Err e)) s f;
      memory = memory_as e (CanReadOn core p.reading) (fills_memory len core next p q (poll.Ready (Err e)) f);
    }

-- ---- before the buffer

pub unreadable_reads : (n : ℕ) (core : Core) (c : CompatValue) (room : List ℕ) → c.file.readable ≡ false
    → IsSound core c → ReadsTo (read_plan n core c) (room_outcome n room) core core c c
    (poll.Ready (Err (error.IOError kind.NotReadable)))
unreadable_reads n core c room not_so s =
    record {
      polled = λ answers d. record {
        ends = (λ i. if not (not_so i) then refuse_locally kind.NotReadable (lane_of c) else if n == 0 then
            Done (outcome.Bytes []) (lane_of c)
            else from_buffer 0 n (file_at c.file) (buffer_of c) (lane_of c) (facts_of core) c.buffered [] answers);
        rest = rest_same core c;
      };
      sound = s;
      others = others_same core c;
      memory = tt;
    }

pub empty_reads : (n : ℕ) (core : Core) (c : CompatValue) (room : List ℕ) → c.file.readable ≡ true → (n == 0) ≡ true
    → IsSound core c → ReadsTo (read_plan n core c) (room_outcome n room) core core c c (poll.Ready (Ok 0))
empty_reads n core c room may none s =
    record {
      polled = λ answers d. inl (record {
        ends = (λ i. if not (may i) then refuse_locally kind.NotReadable (lane_of c) else if none i then
            Done (outcome.Bytes []) (lane_of c)
            else from_buffer 0 n (file_at c.file) (buffer_of c) (lane_of c) (facts_of core) c.buffered [] answers)
            ∙ (λ i. Done (if not (sym none i) then outcome.End else outcome.Bytes (take 0 room)) (lane_of c));
        rest = rest_same core c;
      });
      sound = s;
      others = others_same core c;
      memory = tt;
    }
