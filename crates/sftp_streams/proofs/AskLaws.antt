-- A READ more under way.
use Rattle.std.proofs.Common.{◌≡◌, ◌<◌, ◌≤◌, ◌^◌, inl, inr, ℕ, zero, suc, ◌-◌, [], length, refl, sym, ap, ◌∙◌, subst, arith, None, IsSome}
use Rattle.sftp_core.specs.Core.{Core}
use Rattle.sftp_core.specs.Info.{info_of}
use Rattle.plan_state.proofs.Keeping.{submitted_holds}
use Rattle.plan_state.proofs.OthersKept.{submitted_keeps}
use Rattle.sftp_streams.specs.declared.parts.Unasked.{Unasked}
use Rattle.sftp_streams.specs.declared.parts.Unasked.TheVariants as unasked
use Rattle.sftp_streams.specs.Parts.{IsUnasked, KeepsOthersHeld}
use Rattle.sftp_streams.specs.Downloads.{AsksFirst, AsksLast, AsksMany, AsksMore, DownloadValue, FillsWindow, IsFilled, IsSameStream, MayRead, StopsAsking, content_kind}
use Rattle.sftp_streams.proofs.PartLaws.{apart_from, fault_queued, keeps_parts, last_awaited, last_count, last_len, others_same, others_submitted, others_then}

opened_still : (core after : Core) → KeepsOthersHeld [] core after → IsSome (info_of core.phase)
    → IsSome (info_of after.phase)
opened_still core after others opened = subst (λ p. IsSome (info_of p)) (sym others.phase) opened

-- one part more behind the others
pub asked_last : (core after : Core) (d new : DownloadValue) → MayRead core d → d.rest ≡ 0 → length d.parts < d.window
    → AsksLast core d after new → MayRead after new
asked_last core after d new may none less asks =
    let held = may.held in
    let t = asks.ticket in
    let s = asks.submitted in
    let many = last_count t asks.len d.parts in
    let sum = last_len t asks.len d.parts in
    let next = held.next in
    let small = asks.small in
    subst (λ (x : DownloadValue). MayRead after x) (sym asks.now) (record {
      over = may.over;
      opened = opened_still core after (others_submitted core after _ t s) may.opened;
      held = record {
        parts = last_awaited content_kind after t asks.len d.parts
            (keeps_parts content_kind core after d.parts (submitted_keeps core after _ t s) held.parts)
            (apart_from content_kind core t d.parts s.free held.parts) (submitted_holds core after _ t _ s refl)
            asks.some;
        next = omega (arith, sum, next);
        small = small;
        few = omega (arith, many, less);
        less = λ some. absurd (omega (arith, some, none));
        some = held.some;
        wide = held.wide;
      };
    })

-- the rest of the first part before the others
pub asked_first : (core after : Core) (d new : DownloadValue) → MayRead core d → 0 < d.rest → AsksFirst core d after new
    → MayRead after new
asked_first core after d new may some asks =
    let held = may.held in
    let t = asks.ticket in
    let s = asks.submitted in
    let next = held.next in
    let less = held.less some in
    subst (λ (x : DownloadValue). MayRead after x) (sym asks.now) (record {
      over = may.over;
      opened = opened_still core after (others_submitted core after _ t s) may.opened;
      held = record {
        parts = (
          submitted_holds core after _ t _ s refl,
          some,
          apart_from content_kind core t d.parts s.free held.parts,
          keeps_parts content_kind core after d.parts (submitted_keeps core after _ t s) held.parts,
        );
        next = omega (arith, next);
        small = held.small;
        few = omega (arith, less);
        less = λ more. absurd (omega (arith, more));
        some = held.some;
        wide = held.wide;
      };
    })

-- ---- while the window is filled

-- so many, and one more
many_then : (n : ℕ) (core mid after : Core) (old d new : DownloadValue) → AsksMany n core old mid d
    → AsksLast mid d after new → AsksMany (suc n) core old after new
many_then zero core mid after old d new (same, is) last = (
  after,
  new,
  subst (λ (x : Core). AsksLast x old after new) same
      (subst (λ (x : DownloadValue). AsksLast mid x after new) is last),
  (refl, refl),
)
many_then (suc n) core mid after old d new (c, x, first, more) last =
    (c, x, first, many_then n c mid after x d new more last)

pub record Filling (first : Core) (old : DownloadValue) (core : Core) (d : DownloadValue) : Type 0 where
  pub none : d.rest ≡ 0
  pub may : MayRead core d
  pub asks : AsksMore first old core d
  pub fault : core.fault ≡ first.fault
  pub window : d.window ≡ old.window

pub fills : (first core after : Core) (old d new : DownloadValue) → Filling first old core d → length d.parts < d.window
    → AsksLast core d after new → Filling first old after new
fills first core after old d new f less asks = record {
  none = ap (λ (x : DownloadValue). x.rest) asks.now ∙ f.none;
  may = asked_last core after d new f.may f.none less asks;
  asks = (suc f.asks.0, many_then f.asks.0 first core after old d new f.asks.1 asks);
  fault = fault_queued core after _ asks.ticket asks.submitted ∙ f.fault;
  window = ap (λ (x : DownloadValue). x.window) asks.now ∙ f.window;
}

pub begins : (core : Core) (d : DownloadValue) → d.rest ≡ 0 → MayRead core d → Filling core d core d
begins core d none may = record { none = none; may = may; asks = (0, (refl, refl)); fault = refl; window = refl }

pub nearer : (core after : Core) (d new : DownloadValue) → length d.parts < d.window → AsksLast core d after new
    → new.window - length new.parts < d.window - length d.parts
nearer core after d new less asks =
    subst (λ (x : DownloadValue). x.window - length x.parts < d.window - length d.parts) (sym asks.now)
    (let many = last_count asks.ticket asks.len d.parts in omega (arith, many, less))

-- ---- why nothing was asked

pub unasked_then : (first core : Core) (e : Unasked) → core.fault ≡ first.fault → IsUnasked core e → IsUnasked first e
unasked_then first core unasked.Short same u = tt
unasked_then first core (unasked.Failed fault) same u = sym same ∙ u

-- a full window asks for no part
unfilled : (n : ℕ) (core after : Core) (old d : DownloadValue) → AsksMany n core old after d
    → length d.parts < d.window → (d.next ≡ 2 ^ 64 - 1 → ⊥) → IsFilled old → ⊥
unfilled zero core after old d (same, is) less below (none, inl full) =
    (let here : length old.parts < old.window = subst (λ (x : DownloadValue). length x.parts < x.window) is less in
    omega (arith, here, full))
unfilled zero core after old d (same, is) less below (none, inr end) =
    below (ap (λ (x : DownloadValue). x.next) is ∙ end)
unfilled (suc n) core after old d (c, x, first, more) less below (none, inr end) =
    (let some = first.some in let small = first.small in omega (arith, some, small, end))
unfilled (suc n) core after old d (c, x, first, more) less below (none, inl full) =
    unfilled n c after x d more less below (
      ap (λ (y : DownloadValue). y.rest) first.now ∙ none,
      inl (subst (λ (y : DownloadValue). y.window ≤ length y.parts) (sym first.now)
          (let many = last_count first.ticket first.len old.parts in omega (arith, many, full))),
    )

pub stops_filling : (first core : Core) (old d : DownloadValue) (e : Unasked) → Filling first old core d
    → length d.parts < d.window → (d.next ≡ 2 ^ 64 - 1 → ⊥) → IsUnasked core e → StopsAsking first old e
stops_filling first core old d e f less below u =
    record {
      why = unasked_then first core e f.fault u;
      more = unfilled f.asks.0 first core old d f.asks.1 less below;
    }

-- a rest is to be asked for
pub stops_first : (core : Core) (d : DownloadValue) (e : Unasked) → 0 < d.rest → IsUnasked core e
    → StopsAsking core d e
stops_first core d e some u = record { why = u; more = λ full. (let none = full.0 in omega (arith, some, none)) }

pub stops_behind : (core mid : Core) (d x : DownloadValue) (e : Unasked) → 0 < d.rest → AsksFirst core d mid x
    → StopsAsking mid x e → StopsAsking core d e
stops_behind core mid d x e some asks s =
    stops_first core d e some
    (unasked_then core mid e (fault_queued core mid _ asks.ticket asks.submitted) s.why)

-- ---- what asking leaves

pub same_as : (d new : DownloadValue) → new ≡ d → IsSameStream d new
same_as d new is = (
  ap (λ (y : DownloadValue). y.handle) is,
  ap (λ (y : DownloadValue). y.read_len) is,
  ap (λ (y : DownloadValue). y.window) is,
)

pub same_both : (d x new : DownloadValue) → IsSameStream d x → IsSameStream x new → IsSameStream d new
same_both d x new a b = (b.0 ∙ a.0, b.1 ∙ a.1, b.2 ∙ a.2)

same_last : (core after : Core) (d x : DownloadValue) → AsksLast core d after x → IsSameStream d x
same_last core after d x asks = (
  ap (λ (y : DownloadValue). y.handle) asks.now,
  ap (λ (y : DownloadValue). y.read_len) asks.now,
  ap (λ (y : DownloadValue). y.window) asks.now,
)

same_first : (core after : Core) (d x : DownloadValue) → AsksFirst core d after x → IsSameStream d x
same_first core after d x asks = (
  ap (λ (y : DownloadValue). y.handle) asks.now,
  ap (λ (y : DownloadValue). y.read_len) asks.now,
  ap (λ (y : DownloadValue). y.window) asks.now,
)

many_same : (n : ℕ) (core after : Core) (d new : DownloadValue) → AsksMany n core d after new → IsSameStream d new
many_same zero core after d new (same, is) = same_as d new is
many_same (suc n) core after d new (c, x, first, more) =
    same_both d x new (same_last core c d x first) (many_same n c after x new more)

pub same_stream : (core after : Core) (d new : DownloadValue) → FillsWindow core d after new → IsSameStream d new
same_stream core after d new (inl (none, more)) = many_same more.0 core after d new more.1
same_stream core after d new (inr (inl (same, is))) = same_as d new is
same_stream core after d new (inr (inr (c, x, first, more))) =
    same_both d x new (same_first core c d x first) (many_same more.0 c after x new more.1)

many_stands : (n : ℕ) (core after : Core) (d new : DownloadValue) → AsksMany n core d after new
    → (new.offset ≡ d.offset) × (new.ended ≡ d.ended)
many_stands zero core after d new (same, is) = (
  ap (λ (x : DownloadValue). x.offset) is,
  ap (λ (x : DownloadValue). x.ended) is,
)
many_stands (suc n) core after d new (c, x, first, more) =
    let below = many_stands n c after x new more in
    (below.0 ∙ ap (λ (y : DownloadValue). y.offset) first.now, below.1 ∙ ap (λ (y : DownloadValue). y.ended) first.now)

pub stands : (core after : Core) (d new : DownloadValue) → FillsWindow core d after new → (new.offset ≡ d.offset)
    × (new.ended ≡ d.ended)
stands core after d new (inl (none, more)) = many_stands more.0 core after d new more.1
stands core after d new (inr (inl (same, is))) = (
  ap (λ (x : DownloadValue). x.offset) is,
  ap (λ (x : DownloadValue). x.ended) is,
)
stands core after d new (inr (inr (c, x, first, more))) =
    let below = many_stands more.0 c after x new more.1 in
    (below.0 ∙ ap (λ (y : DownloadValue). y.offset) first.now, below.1 ∙ ap (λ (y : DownloadValue). y.ended) first.now)

-- where a part is under way none was asked for, or no fault was kept
many_unfailed : (n : ℕ) (core after : Core) (d new : DownloadValue) → AsksMany n core d after new
    → (0 < length d.parts → core.fault ≡ None) → 0 < length new.parts → core.fault ≡ None
many_unfailed zero core after d new (same, is) here some = here
    (subst (λ (x : DownloadValue). 0 < length x.parts) is some)
many_unfailed (suc n) core after d new (c, x, first, more) here some = first.submitted.unfailed

pub unfailed : (core after : Core) (d new : DownloadValue) → FillsWindow core d after new → IsFilled new
    → (d.rest ≡ 0 → 0 < length d.parts → core.fault ≡ None) → 0 < length new.parts → core.fault ≡ None
unfailed core after d new (inl (none, more)) full here some =
    many_unfailed more.0 core after d new more.1 (here none) some
unfailed core after d new (inr (inl (same, is))) full here some =
    here (ap (λ (x : DownloadValue). x.rest) (sym is) ∙ full.0)
    (subst (λ (x : DownloadValue). 0 < length x.parts) is some)
unfailed core after d new (inr (inr (c, x, first, more))) full here some = first.submitted.unfailed

-- what others hold stays
others_many : (n : ℕ) (core after : Core) (d new : DownloadValue) → AsksMany n core d after new
    → KeepsOthersHeld [] core after
others_many zero core after d new (same, is) = subst (λ (x : Core). KeepsOthersHeld [] core x) (sym same)
    (others_same [] core)
others_many (suc n) core after d new (c, x, first, more) = others_then core c after
    (others_submitted core c _ first.ticket first.submitted) (others_many n c after x new more)

pub others_filled : (core after : Core) (d new : DownloadValue) → FillsWindow core d after new
    → KeepsOthersHeld [] core after
others_filled core after d new (inl (none, more)) = others_many more.0 core after d new more.1
others_filled core after d new (inr (inl (same, is))) = subst (λ (x : Core). KeepsOthersHeld [] core x) (sym same)
    (others_same [] core)
others_filled core after d new (inr (inr (c, x, first, more))) =
    others_then core c after (others_submitted core c _ first.ticket first.submitted)
    (others_many more.0 c after x new more.1)
