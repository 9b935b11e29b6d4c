-- Seeks of a buffered file, by their plan.
use Rattle.std.proofs.Common.{
  Err,
  ◌≡◌,
  ◌≤◌,
  ◌<◌,
  ◌+◌,
  ◌-◌,
  ◌^◌,
  ◌∙◌,
  refl,
  sym,
  ap,
  subst,
  arith,
  ℕ,
  Bool,
  true,
  false,
  List,
  [],
  Ok,
  inl,
  inr,
  ◌==◌,
  length,
  drop,
  if◌then◌else◌,
}
use Rattle.std.specs.Prelude.{nat_lt}
use Rattle.std.proofs.lemmas.Bool.Decides.{nat_tests}
use Rattle.std.proofs.lemmas.List.{length-drop}
use Rattle.std.specs.declared.io.traits.SeekFrom.{SeekFrom}
use Rattle.sftp_model.specs.declared.outcome.Outcome.TheVariants as outcome
use Rattle.sftp_model.specs.declared.slot.Facts.{Facts}
use Rattle.sftp_model.specs.declared.slot.Move.{Move}
use Rattle.sftp_model.specs.declared.slot.Move.TheVariants.{Done}
use Rattle.sftp_model.specs.declared.slot.Site.{Site}
use Rattle.sftp_model.specs.declared.slot.Slot.TheVariants.{Buffered}
use Rattle.sftp_model.specs.Slots.{with_slot}
use Rattle.plan_model.specs.BufferPlans.{buf_seek_next, sought_buffer, sought_slot}
use Rattle.plan_model.specs.FilePlans.{on_seek}
use Rattle.plan_model.specs.Moves.{Answers, refuse_locally}
use Rattle.sftp_model.specs.declared.error.Error.TheVariants as error
use Rattle.sftp_model.specs.declared.error.IoKind.{IoKind}
use Rattle.sftp_core.specs.Core.{Core}
use Rattle.sftp_file.specs.Files.{file_at}
use Rattle.sftp_buffered.specs.Buffered.{CompatValue, IsSound, buffer_of, lane_of, len_of}
use Rattle.sftp_buffered.specs.Seeks.{SeeksTo, stood}
use Rattle.sftp_buffered.specs.Steps.{read_dropped}
use Rattle.sftp_buffered.proofs.Others.{others_dropped, others_same}
use Rattle.sftp_buffered.proofs.Sound.{held_dropped}

-- a position leads to an offset
abbrev pub LeadsTo : SeekFrom → ℕ → ℕ → Type 0
LeadsTo position from to = (site : Site) (go : ℕ → Move) → on_seek position from site go ≡ go to

abbrev sought_site : CompatValue → ℕ → Site
sought_site c to = with_slot (lane_of c) 0 (sought_slot (file_at c.file) to (buffer_of c))

seek_goes : (position : SeekFrom) (c : CompatValue) (to : ℕ) (facts : Facts) (answers : Answers)
    → LeadsTo position c.file.offset to → buf_seek_next 0 position (lane_of c) facts [] answers
    ≡ Done (outcome.Count to) (sought_site c to)
seek_goes position c to facts answers leads = leads (lane_of c) (λ k. Done (outcome.Count k) (sought_site c k))

same_test : (a b : ℕ) → a ≡ b → (a == b) ≡ true
same_test a b same = grind (arith, nat_tests)

other_test : (a b : ℕ) → (a ≡ b → ⊥) → (a == b) ≡ false
other_test a b other = grind (arith, nat_tests)

-- the file stands there
pub seek_same : (position : SeekFrom) (core : Core) (c : CompatValue) (to : ℕ) → LeadsTo position c.file.offset to → to
    ≡ c.file.offset → IsSound core c → SeeksTo position core core c c (Ok tt)
seek_same position core c to leads same s =
    record {
      seeks = λ facts answers. seek_goes position c to facts answers leads
          ∙ ((λ i. Done (outcome.Count to) (with_slot (lane_of c) 0
          (if same_test to c.file.offset same i then Buffered (file_at c.file) (buffer_of c)
          else Buffered (record (file_at c.file) { offset = to }) (sought_buffer c.file.offset to (buffer_of c)))))
          ∙ ap (λ (k : ℕ). Done (outcome.Count k) (lane_of c)) same);
      moves = inl (record { core = refl; same = refl });
      err = tt;
      sound = s;
      others = others_same core c;
    }

kept_ends : (from to kept : ℕ) (xs : List ℕ) (b : Bool) → nat_lt from to ≡ b → from + length xs + kept < 2 ^ 64
    → to < 2 ^ 64 → to + length (if b then drop (to - from) xs else []) + 0 < 2 ^ 64
kept_ends from to kept xs true is ends below = (let len : length (drop (to - from) xs) ≡ length xs - (to - from) =
    length-drop (to - from) xs in
    let less : from < to = grind (arith, nat_tests) in omega (arith, len, less, ends, below))
kept_ends from to kept xs false is ends below = omega (arith, below)

kept_fits : (n most : ℕ) (xs : List ℕ) (b : Bool) → length xs ≤ most → length (if b then drop n xs else []) ≤ most
kept_fits n most xs true fits = (let len : length (drop n xs) ≡ length xs - n = length-drop n xs in
    omega (arith, len, fits))
kept_fits n most xs false fits = omega arith

stood_sound : (core : Core) (c : CompatValue) (to : ℕ) → to < 2 ^ 64 → IsSound core c
    → IsSound (read_dropped core c.reading) (stood c to)
stood_sound core c to below s =
    record {
      held = record { writes = held_dropped core c.reading c.deferred s.held.read s.held.writes; read = tt };
      counted = record {
        pending = s.counted.pending;
        rising = s.counted.rising;
        placed = tt;
        ends = kept_ends c.file.offset to (len_of c.reading) c.buffered (nat_lt c.file.offset to) refl s.counted.ends
            below;
        capacity = kept_fits (to - c.file.offset) c.capacity c.buffered (nat_lt c.file.offset to) s.counted.capacity;
      };
    }

-- it stands elsewhere
pub seek_moved : (position : SeekFrom) (old new : Core) (p q : CompatValue) (to : ℕ) → LeadsTo position p.file.offset to
    → (to ≡ p.file.offset → ⊥) → to < 2 ^ 64 → IsSound old p → q ≡ stood p to → new ≡ read_dropped old p.reading
    → SeeksTo position old new p q (Ok tt)
seek_moved position old new p q to leads other below s left core =
    let now : SeeksTo position old (read_dropped old p.reading) p (stood p to) (Ok tt) = record {
      seeks = λ facts answers. seek_goes position p to facts answers leads
          ∙ (λ i. Done (outcome.Count to) (with_slot (lane_of p) 0
          (if other_test to p.file.offset other i then Buffered (file_at p.file) (buffer_of p)
          else Buffered (record (file_at p.file) { offset = to }) (sought_buffer p.file.offset to (buffer_of p)))));
      moves = inr (record { left = refl; core = refl });
      err = tt;
      sound = stood_sound old p to below s;
      others = others_dropped old p.reading p (λ ticket apart. apart.read) s.held.read;
    } in
    subst (λ (x : CompatValue). SeeksTo position old new p x (Ok tt)) (sym left)
    (subst (λ (x : Core). SeeksTo position old x p (stood p to) (Ok tt)) (sym core) now)

-- a position leads to no offset
abbrev pub LeadsNowhere : SeekFrom → ℕ → IoKind → Type 0
LeadsNowhere position from why = (site : Site) (go : ℕ → Move) → on_seek position from site go ≡ refuse_locally why site

pub seek_refused : (position : SeekFrom) (core : Core) (c : CompatValue) (why : IoKind)
    → LeadsNowhere position c.file.offset why → IsSound core c
    → SeeksTo position core core c c (Err (error.IOError why))
seek_refused position core c why leads s =
    record {
      seeks = λ facts answers. leads (lane_of c) (λ k. Done (outcome.Count k) (sought_site c k));
      moves = inl (record { core = refl; same = refl });
      err = record { core = refl; same = refl };
      sound = s;
      others = others_same core c;
    }
