-- The bytes that a whole read joins are those of its file, where each of its READs brought a part of them.
use Rattle.std.proofs.Common.{
  ◌≡◌,
  ◌<◌,
  ◌≤◌,
  ◌+◌,
  ◌==◌,
  ℕ,
  Bool,
  true,
  false,
  List,
  [],
  ◌∷◌,
  length,
  Option,
  Some,
  None,
  if◌then◌else◌,
  refl,
  sym,
  ap,
  subst,
  ◌∙◌,
  inl,
  inr,
  arith,
}
use Rattle.std.specs.Prelude.{◌⊎◌, ◌||◌, cond, filter, is_some, map, nat_lt, not}
use Rattle.std.specs.List.{list_any}
use Rattle.std.proofs.lemmas.Bool.{eq-eqb}
use Rattle.std.proofs.lemmas.Bool.Decides.{nat_tests}
use Rattle.sftp_model.specs.Answers.{is_end_of_file}
use Rattle.sftp_model.specs.declared.reply.Reply.{Reply}
use Rattle.sftp_model.specs.declared.reply.Reply.TheVariants as reply
use Rattle.sftp_model.specs.declared.request.Request.{Request}
use Rattle.plan_model.specs.Moves.{Answers, Own}
use Rattle.plan_model.specs.WindowPlans.{answered_prefix, answered_then, begins, content_end, contents, first_refusal, gaps, least_end, outside, whole_content}
use Rattle.plan_model.proofs.Among.{Among, MadeOf, among_map, from_filter, from_map, into_filter, least_among}
use Rattle.plan_model.proofs.SpanLaws.{end_begins}
use Rattle.plan_model.proofs.Spans.{HasSpan, prefix_span, span_read}
use Rattle.plan_model.proofs.Tiles.{Distinct, Tiled}
use Rattle.plan_model.proofs.WindowAsks.{Gap, is_gap, is_gap_of}
use Rattle.run_laws.proofs.PieceLaws.{AreApart, BeginsAt, IsPiece, Piece, StandApart, filtered_apart, pieces_join}
use Rattle.run_laws.proofs.ReadLaws.{AreParts, IsPart, IsTakenPart}

-- ---- the prefix

pub prefix_parts : (bytes : List ℕ) (reads : Own) (answers : Answers) → AreParts bytes reads answers → (got : ℕ × Reply)
    → Among got (answered_prefix reads answers) → IsPart bytes got.0 got.1
prefix_parts bytes [] answers parts got h = absurd h
prefix_parts bytes (asked ∷ later) answers parts got h = by_answer (answers asked.0) parts.0 h
    (λ k. prefix_parts bytes later answers parts.1 got k)
  where
    by_answer : (o : Option Reply) → IsTakenPart bytes (begins asked) o
        → Among got (answered_then (begins asked) o (answered_prefix later answers))
        → (Among got (answered_prefix later answers) → IsPart bytes got.0 got.1)
        → IsPart bytes got.0 got.1
    by_answer None part h rest = absurd h
    by_answer (Some r) part (inl e) rest = subst (λ (w : ℕ × Reply). IsPart bytes w.0 w.1) (sym e) part
    by_answer (Some r) part (inr k) rest = rest k

-- a READ that is answered stands in the prefix with its reply
record HasReply (a : ℕ × Request) (replies : List (ℕ × Reply)) : Type 0 where
  got : Reply
  there : Among (begins a, got) replies

all_answered : (reads : Own) (answers : Answers) → outside reads answers ≡ [] → (a : ℕ × Request) → Among a reads
    → HasReply a (answered_prefix reads answers)
all_answered [] answers none a h = absurd h
all_answered (asked ∷ later) answers none a h = by_answer (answers asked.0) none h
    (λ n k. all_answered later answers n a k)
  where
    by_answer : (o : Option Reply) → (if is_some o then outside later answers else asked ∷ later) ≡ []
        → Among a (asked ∷ later) → (outside later answers ≡ [] → Among a later
        → HasReply a (answered_prefix later answers))
        → HasReply a (answered_then (begins asked) o (answered_prefix later answers))
    by_answer None none h rest = absurd cc
    by_answer (Some r) none (inl e) rest = record {
      got = r;
      there =
          inl (ap (λ (w : ℕ × Request). (let p : ℕ × Reply = (begins w, r) in p)) e);
    }
    by_answer (Some r) none (inr k) rest = let m = rest none k in record { got = m.got; there = inr m.there }

-- parts are no refusals
pub no_refusal : (bytes : List ℕ) (replies : List (ℕ × Reply))
    → ((got : ℕ × Reply) → Among got replies → IsPart bytes got.0 got.1) → first_refusal replies ≡ None
no_refusal bytes [] parts = refl
no_refusal bytes (got ∷ rest) parts = by_reply got.0 got.1 (parts got (inl refl))
    (no_refusal bytes rest (λ g h. parts g (inr h)))
  where
    by_reply : (offset : ℕ) (r : Reply) → IsPart bytes offset r → first_refusal rest ≡ None
        → first_refusal ((offset, r) ∷ rest) ≡ None
    by_reply offset (reply.Content content) part later = later
    by_reply offset (reply.Status code message language) part later = by_code (code == 1) (eq-eqb code 1 part.0)
      where
        by_code : (b : Bool) → b ≡ true → cond (not b) (Some (offset, reply.Status code message language))
            (first_refusal rest) ≡ None
        by_code true is = later
        by_code false is = absurd cc
    by_reply offset (reply.Handle handle) part later = absurd part
    by_reply offset (reply.Names names) part later = absurd part
    by_reply offset (reply.Attrs attrs) part later = absurd part
    by_reply offset (reply.Extended content) part later = absurd part
    by_reply offset (reply.Version version extensions) part later = absurd part

-- ---- the DATA of the prefix

contents_from : (x : Piece) (replies : List (ℕ × Reply)) → Among x (contents replies)
    → Among (x.0, reply.Content x.1) replies
contents_from x [] h = absurd h
contents_from x (got ∷ rest) h = by_reply got.0 got.1 h (contents_from x rest)
  where
    by_reply : (offset : ℕ) (r : Reply) → Among x (contents ((offset, r) ∷ rest))
        → (Among x (contents rest) → Among (x.0, reply.Content x.1) rest)
        → Among (x.0, reply.Content x.1) ((offset, r) ∷ rest)
    by_reply offset (reply.Content bytes) (inl e) later = inl (ap
        (λ (w : Piece). (let p : ℕ × Reply = (w.0, reply.Content w.1) in p)) e)
    by_reply offset (reply.Content bytes) (inr k) later = inr (later k)
    by_reply offset (reply.Status code message language) k later = inr (later k)
    by_reply offset (reply.Handle handle) k later = inr (later k)
    by_reply offset (reply.Names names) k later = inr (later k)
    by_reply offset (reply.Attrs attrs) k later = inr (later k)
    by_reply offset (reply.Extended content) k later = inr (later k)
    by_reply offset (reply.Version version extensions) k later = inr (later k)

abbrev content_of : Reply → List ℕ
content_of (reply.Content bytes) = bytes
content_of other = []

abbrev is_content : Reply → Bool
is_content (reply.Content bytes) = true
is_content other = false

contents_into : (offset : ℕ) (bytes : List ℕ) (replies : List (ℕ × Reply)) → Among (offset, reply.Content bytes) replies
    → Among (offset, bytes) (contents replies)
contents_into offset bytes [] h = absurd h
contents_into offset bytes (got ∷ rest) h = by_reply got.0 got.1 h (contents_into offset bytes rest)
  where
    not_content : (r : Reply) (at : ℕ) → is_content r ≡ false → (let p : ℕ × Reply = (offset, reply.Content bytes) in p)
        ≡ (at, r) → ⊥
    not_content r at other e = (let both : true ≡ false = ap (λ (w : ℕ × Reply). is_content w.1) e ∙ other in cc)

    by_reply : (at : ℕ) (r : Reply) → Among (offset, reply.Content bytes) ((at, r) ∷ rest)
        → (Among (offset, reply.Content bytes) rest → Among (offset, bytes) (contents rest))
        → Among (offset, bytes) (contents ((at, r) ∷ rest))
    by_reply at (reply.Content content) (inl e) later = inl (ap
        (λ (w : ℕ × Reply). (let p : Piece = (w.0, content_of w.1) in p)) e)
    by_reply at (reply.Content content) (inr k) later = inr (later k)
    by_reply at (reply.Status code message language) (inl e) later =
        absurd (not_content (reply.Status code message language) at refl e)
    by_reply at (reply.Status code message language) (inr k) later = later k
    by_reply at (reply.Handle handle) (inl e) later = absurd (not_content (reply.Handle handle) at refl e)
    by_reply at (reply.Handle handle) (inr k) later = later k
    by_reply at (reply.Names names) (inl e) later = absurd (not_content (reply.Names names) at refl e)
    by_reply at (reply.Names names) (inr k) later = later k
    by_reply at (reply.Attrs attrs) (inl e) later = absurd (not_content (reply.Attrs attrs) at refl e)
    by_reply at (reply.Attrs attrs) (inr k) later = later k
    by_reply at (reply.Extended content) (inl e) later = absurd (not_content (reply.Extended content) at refl e)
    by_reply at (reply.Extended content) (inr k) later = later k
    by_reply at (reply.Version version extensions) (inl e) later =
        absurd (not_content (reply.Version version extensions) at refl e)
    by_reply at (reply.Version version extensions) (inr k) later = later k

-- each begins where a READ does
contents_begin : (reads : Own) (answers : Answers) (x : Piece) → Among x (contents (answered_prefix reads answers))
    → Among x.0 (map begins reads)
contents_begin reads answers x h =
    let s : HasSpan (x.0, reply.Content x.1) reads answers = prefix_span (x.0, reply.Content x.1) reads answers
    (contents_from x (answered_prefix reads answers) h) in
    subst (λ (n : ℕ). Among n (map begins reads)) s.is.at (among_map begins s.of.asked reads
    (span_read s.of reads answers s.is.there))

-- a READ begins after none of them ends, or before it begins
abbrev pub LieApart : List Piece → List ℕ → Type 0
LieApart pieces starts = (x : Piece) → Among x pieces → (s : ℕ) → Among s starts → (s ≤ x.0) ⊎ (content_end x ≤ s)

pub tiled_apart : (read_len top : ℕ) (reads : Own) (answers : Answers) → Tiled read_len top reads answers
    → LieApart (contents (answered_prefix reads answers)) (map begins reads)
tiled_apart read_len top reads answers t x h s k =
    let p : HasSpan (x.0, reply.Content x.1) reads answers = prefix_span (x.0, reply.Content x.1) reads answers
    (contents_from x (answered_prefix reads answers) h) in
    let at : begins p.of.asked ≡ x.0 = p.is.at in
    let takes : p.of.extent ≡ length x.1 = p.is.takes in
    elim (t.apart p.of p.is.there s k) [
      | inl le ↦ inl (omega (arith, le, at))
      | inr le ↦ inr (let ends : begins p.of.asked + p.of.extent ≤ s = le in omega (arith, ends, at, takes))
    ]

stand_apart : (reads : Own) (answers : Answers) → Distinct (map begins reads)
    → LieApart (contents (answered_prefix reads answers)) (map begins reads)
    → StandApart (contents (answered_prefix reads answers))
stand_apart [] answers distinct lie = tt
stand_apart (asked ∷ later) answers distinct lie = by_answer (answers asked.0) lie
    (λ (l : LieApart (contents (answered_prefix later answers)) (begins asked ∷ map begins later)). stand_apart later
    answers distinct.1 (λ x h s k. l x h s (inr k)))
  where
    first : (bytes : List ℕ) → LieApart ((begins asked, bytes) ∷ contents (answered_prefix later answers))
        (begins asked ∷ map begins later) → (y : Piece) → Among y (contents (answered_prefix later answers))
        → AreApart (begins asked, bytes) y
    first bytes lie y h =
        let there : Among y.0 (map begins later) = contents_begin later answers y h in
        elim (lie (begins asked, bytes) (inl refl) y.0 (inr there)) [
          | inr le ↦ inl le
          | inl le ↦ elim (lie y (inr h) (begins asked) (inl refl)) [
            | inr more ↦ inr more
            | inl more ↦ absurd (distinct.0 (subst (λ (n : ℕ). Among n (map begins later))
                (let same : y.0 ≡ begins asked = omega (arith, le, more) in same) there))
          ]
        ]

    by_answer : (o : Option Reply) → LieApart (contents (answered_then (begins asked) o
        (answered_prefix later answers))) (begins asked ∷ map begins later)
        → (LieApart (contents (answered_prefix later answers)) (begins asked ∷ map begins later)
        → StandApart (contents (answered_prefix later answers)))
        → StandApart (contents (answered_then (begins asked) o (answered_prefix later answers)))
    by_answer None lie rest = tt
    by_answer (Some (reply.Content bytes)) lie rest = (first bytes lie, rest (λ x h s k. lie x (inr h) s k))
    by_answer (Some (reply.Status code message language)) lie rest = rest lie
    by_answer (Some (reply.Handle handle)) lie rest = rest lie
    by_answer (Some (reply.Names names)) lie rest = rest lie
    by_answer (Some (reply.Attrs attrs)) lie rest = rest lie
    by_answer (Some (reply.Extended content)) lie rest = rest lie
    by_answer (Some (reply.Version version extensions)) lie rest = rest lie

-- ---- the end

-- the bytes end where the end was told or before
end_after : (bytes : List ℕ) (replies : List (ℕ × Reply)) (end : ℕ)
    → ((got : ℕ × Reply) → Among got replies → IsPart bytes got.0 got.1) → least_end replies ≡ Some end
    → length bytes ≤ end
end_after bytes replies end parts is =
    let m : MadeOf (λ (g : ℕ × Reply). g.0) (filter (λ g. is_end_of_file g.1) replies) end =
    from_map (λ (g : ℕ × Reply). g.0) end (filter (λ g. is_end_of_file g.1) replies) (least_among end _ is) in
    let f = from_filter (λ (g : ℕ × Reply). is_end_of_file g.1) m.of replies m.there in
    let le = by_reply m.of.1 (parts m.of f.0) f.1 in
    let gives = m.gives in
    omega (arith, le, gives)
  where
    by_reply : {offset : ℕ} (r : Reply) → IsPart bytes offset r → is_end_of_file r ≡ true → length bytes ≤ offset
    by_reply (reply.Status code message language) part e = part.1
    by_reply (reply.Content content) part e = absurd cc
    by_reply (reply.Handle handle) part e = absurd part
    by_reply (reply.Names names) part e = absurd part
    by_reply (reply.Attrs attrs) part e = absurd part
    by_reply (reply.Extended content) part e = absurd part
    by_reply (reply.Version version extensions) part e = absurd part

any_begins : (p : ℕ) (reads : Own) → list_any (λ asked. begins asked == p) reads ≡ true → Among p (map begins reads)
any_begins p [] e = absurd cc
any_begins p (asked ∷ later) e = by_head (begins asked == p) refl e (any_begins p later)
  where
    by_head : (b : Bool) → (begins asked == p) ≡ b → (b || list_any (λ a. begins a == p) later) ≡ true
        → (list_any (λ a. begins a == p) later ≡ true → Among p (map begins later))
        → Among p (begins asked ∷ map begins later)
    by_head true is e rest = inl (let same : begins asked ≡ p = grind (arith, nat_tests) in sym same)
    by_head false is e rest = inr (rest e)

-- ---- all of it

-- The READs of a whole read that has got all: each is answered by a part of the bytes, an end was told, and there is no
-- gap.
pub record AllGot (bytes : List ℕ) (end : ℕ) (reads : Own) (answers : Answers) : Type 0 where
  pub parts : AreParts bytes reads answers
  pub lie : LieApart (contents (answered_prefix reads answers)) (map begins reads)
  pub distinct : Distinct (map begins reads)
  pub starts : (reads ≡ []) ⊎ Among 0 (map begins reads)
  pub answered : outside reads answers ≡ []
  pub ends : least_end (answered_prefix reads answers) ≡ Some end
  pub whole : gaps reads (answered_prefix reads answers) (outside reads answers) ≡ []

abbrev below_end : ℕ → Piece → Bool
below_end end got = nat_lt got.0 end

abbrev got_pieces : ℕ → Own → Answers → List Piece
got_pieces end reads answers = filter (below_end end) (contents (answered_prefix reads answers))

-- where a READ begins below the end of the bytes, a piece does
begins_piece : (bytes : List ℕ) (end : ℕ) (reads : Own) (answers : Answers) → AllGot bytes end reads answers → (p : ℕ)
    → p < length bytes → Among p (map begins reads) → BeginsAt (got_pieces end reads answers) p
begins_piece bytes end reads answers all p lt h =
    let m : MadeOf begins reads p = from_map begins p reads h in
    let got = all_answered reads answers all.answered m.of m.there in
    by_reply got.got got.there (prefix_parts bytes reads answers all.parts (begins m.of, got.got) got.there) m.gives
  where
    under : p < end
    under = (let le = end_after bytes (answered_prefix reads answers) end (prefix_parts bytes reads answers all.parts)
        all.ends in omega (arith, le, lt))

    by_reply : {at : ℕ} (r : Reply) → Among (at, r) (answered_prefix reads answers) → IsPart bytes at r → p ≡ at
        → BeginsAt (got_pieces end reads answers) p
    by_reply {at} (reply.Content content) there part same =
        record {
          piece = (at, content);
          there = into_filter (below_end end) (at, content) (contents (answered_prefix reads answers))
              (contents_into at content (answered_prefix reads answers) there)
              (let below : at < end = let u = under in omega (arith, u, same) in let test : nat_lt at end ≡ true =
              grind (arith, nat_tests) in test);
          at = sym same;
        }
    by_reply (reply.Status code message language) there part same =
        absurd (let le = part.1 in omega (arith, le, lt, same))
    by_reply (reply.Handle handle) there part same = absurd part
    by_reply (reply.Names names) there part same = absurd part
    by_reply (reply.Attrs attrs) there part same = absurd part
    by_reply (reply.Extended content) there part same = absurd part
    by_reply (reply.Version version extensions) there part same = absurd part

-- where a piece ends below the end of the bytes, a READ begins
next_begins : (bytes : List ℕ) (end : ℕ) (reads : Own) (answers : Answers) → AllGot bytes end reads answers
    → (x : Piece) → Among x (contents (answered_prefix reads answers)) → content_end x < length bytes
    → Among (content_end x) (map begins reads)
next_begins bytes end reads answers all x h lt = by_test (list_any (λ asked. begins asked == content_end x) reads) refl
  where
    under : nat_lt (content_end x) end ≡ true
    under =
        (let le = end_after bytes (answered_prefix reads answers) end (prefix_parts bytes reads answers all.parts)
        all.ends in
        let below : content_end x < end = omega (arith, le, lt) in
        let test : nat_lt (content_end x) end ≡ true = grind (arith, nat_tests) in test)

    by_test : (b : Bool) → list_any (λ asked. begins asked == content_end x) reads ≡ b
        → Among (content_end x) (map begins reads)
    by_test true is = any_begins (content_end x) reads is
    by_test false is =
        (let g : Gap reads (answered_prefix reads answers) (outside reads answers) (content_end x) =
        record { free = is; within = rw (all.ends) under } in
        let there : Among (content_end x) (gaps reads (answered_prefix reads answers) (outside reads answers)) =
        into_filter (is_gap reads (answered_prefix reads answers) (outside reads answers)) (content_end x)
        (map content_end (contents (answered_prefix reads answers)))
        (among_map content_end x (contents (answered_prefix reads answers)) h)
        (is_gap_of reads (answered_prefix reads answers) (outside reads answers) (content_end x) g)
        in
        absurd (subst (λ (w : List ℕ). Among (content_end x) w) all.whole there))

pub all_joined : (bytes : List ℕ) (end : ℕ) (reads : Own) (answers : Answers) → AllGot bytes end reads answers
    → whole_content end (answered_prefix reads answers) ≡ bytes
all_joined bytes end reads answers all = pieces_join bytes (got_pieces end reads answers) pieces
    (filtered_apart (below_end end) (contents (answered_prefix reads answers))
    (stand_apart reads answers all.distinct all.lie)) here next
  where
    whence : (x : Piece) → Among x (got_pieces end reads answers) → Among x (contents (answered_prefix reads answers))
    whence x h = (from_filter (below_end end) x (contents (answered_prefix reads answers)) h).0

    pieces : (x : Piece) → Among x (got_pieces end reads answers) → IsPiece bytes x
    pieces x h = prefix_parts bytes reads answers all.parts (x.0, reply.Content x.1)
        (contents_from x (answered_prefix reads answers) (whence x h))

    here : 0 < length bytes → BeginsAt (got_pieces end reads answers) 0
    here lt = by_case all.starts
      where
        by_case : (reads ≡ []) ⊎ Among 0 (map begins reads) → BeginsAt (got_pieces end reads answers) 0
        by_case (inl none) = absurd (subst (λ (l : Own). Among end (map begins l)) none
            (end_begins end reads answers all.ends))
        by_case (inr there) = begins_piece bytes end reads answers all 0 lt there

    next : (x : Piece) → Among x (got_pieces end reads answers) → content_end x < length bytes
        → BeginsAt (got_pieces end reads answers) (content_end x)
    next x h lt = begins_piece bytes end reads answers all (content_end x) lt
        (next_begins bytes end reads answers all x (whence x h) lt)
