-- What a whole read asks is within its lengths, and keeps what holds of its READs.
use Rattle.std.proofs.Common.{◌≡◌, ◌≤◌, ℕ, true, List, [], Option, Some, sym, subst, inl, inr, arith}
use Rattle.std.specs.Prelude.{map}
use Rattle.sftp_model.specs.declared.request.Request.{Request}
use Rattle.sftp_model.specs.declared.slot.Facts.{Facts}
use Rattle.plan_model.specs.Moves.{Answers, Own}
use Rattle.plan_model.specs.TransferPlans.{offset_asked}
use Rattle.plan_model.specs.OwnRequests.{ExtendsAnswers, MayBeAnswered}
use Rattle.plan_model.specs.WindowPlans.{begins, len_asked, answered_prefix, outside, content_end, contents, least, gaps, gap_len}
use Rattle.plan_model.proofs.Among.{Among, MadeOf, from_filter, least_among}
use Rattle.plan_model.proofs.Spans.{span_end, spans, reach_is}
use Rattle.plan_model.proofs.SpanLaws.{gap_span}
use Rattle.plan_model.proofs.Tiles.{Tiled, FitsIn, none_tiled, tiled_later}
use Rattle.plan_model.proofs.TileSteps.{FirstAbove, gap_below, first_above, gap_fits}
use Rattle.plan_model.proofs.LastTile.{after_fits}
use Rattle.plan_model.proofs.OpenReads.{open_count, open_later}
use Rattle.plan_model.proofs.WindowAsks.{is_gap, Gap, gap_is, is_gap_of, free_at, AtGap, AfterAll, Asking}
use Rattle.plan_model.proofs.WindowLaws.{inside_later, not_empty}

-- the READs lie as they have to, and no more are open than the window has
pub record Windowed (facts : Facts) (top : ℕ) (reads : Own) (answers : Answers) : Type 0 where
  pub tiled : Tiled facts.read_len top reads answers
  pub few : open_count (is_gap reads (answered_prefix reads answers) (outside reads answers)) reads answers ≤
      facts.read_window

pub none_windowed : (facts : Facts) (top : ℕ) (answers : Answers) → Windowed facts top [] answers
none_windowed facts top answers = record { tiled = none_tiled facts.read_len top answers; few = omega arith }

pub windowed_later : (facts : Facts) (top : ℕ) (reads : Own) (old new : Answers) → ExtendsAnswers old new
    → MayBeAnswered reads new → Windowed facts top reads old → Windowed facts top reads new
windowed_later facts top reads old new stays may w =
    record {
      tiled = tiled_later facts.read_len top reads old new stays may w.tiled;
      few = (let le : open_count (is_gap reads (answered_prefix reads old) (outside reads old)) reads old ≤
          facts.read_window = w.few in
          omega (
            arith,
            le,
            open_later (is_gap reads (answered_prefix reads new) (outside reads new))
                (is_gap reads (answered_prefix reads old) (outside reads old)) reads old new narrower stays,
          ));
    }
  where
    narrower : (q : ℕ) → is_gap reads (answered_prefix reads new) (outside reads new) q ≡ true
        → is_gap reads (answered_prefix reads old) (outside reads old) q ≡ true
    narrower q e =
        let g : Gap reads (answered_prefix reads new) (outside reads new) q =
        gap_is reads (answered_prefix reads new) (outside reads new) q e in
        is_gap_of reads (answered_prefix reads old) (outside reads old) q
        (record { free = g.free; within = inside_later q reads old new stays may g.within })

-- ---- what is asked at a gap

-- the gap with what begins above it
pub record GapFound (reads : Own) (answers : Answers) (p : ℕ) : Type 0 where
  pub span : MadeOf span_end (spans reads answers) p
  pub ends : Among p (map content_end (contents (answered_prefix reads answers)))
  pub passes : is_gap reads (answered_prefix reads answers) (outside reads answers) p ≡ true
  pub free : Among p (map begins reads) → ⊥
  pub first : FirstAbove p (gap_len reads p) (map begins reads)

pub gap_found : (facts : Facts) (top p : ℕ) (reads : Own) (answers : Answers) → Windowed facts top reads answers
    → least (gaps reads (answered_prefix reads answers) (outside reads answers)) ≡ Some p → GapFound reads answers p
gap_found facts top p reads answers w is =
    let f : Among p (map content_end (contents (answered_prefix reads answers)))
    × (is_gap reads (answered_prefix reads answers) (outside reads answers) p ≡ true) =
    from_filter (is_gap reads (answered_prefix reads answers) (outside reads answers)) p
    (map content_end (contents (answered_prefix reads answers)))
    (least_among p (gaps reads (answered_prefix reads answers) (outside reads answers)) is) in
    let g : Gap reads (answered_prefix reads answers) (outside reads answers) p =
    gap_is reads (answered_prefix reads answers) (outside reads answers) p f.1 in
    let m : MadeOf span_end (spans reads answers) p = gap_span p reads answers f.0 in
    record {
      span = m;
      ends = f.0;
      passes = f.1;
      free = free_at p reads g.free;
      first = first_above p reads (gap_below facts.read_len top p reads answers m.of w.tiled m.there m.gives
          (free_at p reads g.free) g.within);
    }

-- ---- what is asked lies as it has to

pub asked_fits : (handle : List ℕ) (bound : Option ℕ) (facts : Facts) (top : ℕ) (reads : Own) (answers : Answers)
    (r : Request) → 1 ≤ facts.read_len → MayBeAnswered reads answers → Windowed facts top reads answers
    → Asking handle bound reads (answered_prefix reads answers) (outside reads answers) facts r
    → FitsIn facts.read_len top reads answers (offset_asked 0 r) (len_asked r)
asked_fits handle bound facts top reads answers r one may w a = elim a.asked [ inl g ↦ at_gap g | inr b ↦ after_all b ]
  where
    at_gap : AtGap handle reads (answered_prefix reads answers) (outside reads answers) r
        → FitsIn facts.read_len top reads answers (offset_asked 0 r) (len_asked r)
    at_gap g =
        let f : GapFound reads answers g.gap = gap_found facts top g.gap reads answers w g.is in
        subst (λ (q : Request). FitsIn facts.read_len top reads answers (offset_asked 0 q) (len_asked q)) (sym g.asks)
        (gap_fits facts.read_len top g.gap (gap_len reads g.gap) reads answers f.span.of w.tiled may f.span.there
        f.span.gives f.free f.first)

    after_all : AfterAll handle reads (answered_prefix reads answers) (outside reads answers) facts r
        → FitsIn facts.read_len top reads answers (offset_asked 0 r) (len_asked r)
    after_all b =
        subst (λ (q : Request). FitsIn facts.read_len top reads answers (offset_asked 0 q) (len_asked q)) (sym b.asks)
        (subst (λ (n : ℕ). FitsIn facts.read_len top reads answers n facts.read_len) (sym (reach_is reads answers))
        (after_fits facts.read_len top reads answers one w.tiled may
        (λ x h. not_empty x reads answers a.good b.endless (λ c k. (w.tiled.some c k).0) may h)))
