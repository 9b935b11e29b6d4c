-- What a whole read asks: at a gap, or after all.
use Rattle.std.proofs.Common.{
  subst,
  ◌≡◌,
  ◌<◌,
  ◌==◌,
  ℕ,
  Bool,
  true,
  false,
  List,
  [],
  ◌∷◌,
  Option,
  Some,
  None,
  refl,
  sym,
  ap,
  ◌∙◌,
  inl,
  inr,
  arith,
  if◌then◌else◌,
}
use Rattle.std.specs.Prelude.{◌⊎◌, ◌++◌, ◌&&◌, ◌||◌, not, length, map, nat_lt, nat_le}
use Rattle.std.specs.List.{list_any}
use Rattle.std.proofs.lemmas.Bool.Decides.{nat_tests}
use Rattle.sftp_model.specs.declared.outcome.Outcome.TheVariants as outcome
use Rattle.sftp_model.specs.declared.reply.Reply.{Reply}
use Rattle.sftp_model.specs.declared.reply.Reply.TheVariants as reply
use Rattle.sftp_model.specs.declared.request.Request.{Request}
use Rattle.sftp_model.specs.declared.request.Request.TheVariants as request
use Rattle.sftp_model.specs.declared.slot.Facts.{Facts}
use Rattle.sftp_model.specs.declared.slot.Move.{Move}
use Rattle.sftp_model.specs.declared.slot.Move.TheVariants.{Ask, Done}
use Rattle.sftp_model.specs.declared.slot.Site.{Site}
use Rattle.plan_model.specs.Moves.{Own, refusal_move}
use Rattle.plan_model.specs.WindowPlans.{
  reaches,
  begins,
  first_refusal,
  least,
  least_end,
  reach,
  is_inside,
  gaps,
  gap_len,
  contents,
  await_first,
  ask_more,
  go_on,
  ends_or,
  unless_refused,
  window_next,
}
use Rattle.plan_model.proofs.Among.{Among}

-- whether an offset is a gap
abbrev pub is_gap : Own → List (ℕ × Reply) → Own → ℕ → Bool
is_gap reads replies waiting p = not (list_any (λ asked. begins asked == p) reads)
    && is_inside (least_end replies) (reach replies waiting) p

-- a READ at the least gap
pub record AtGap (handle : List ℕ) (reads : Own) (replies : List (ℕ × Reply)) (waiting : Own) (r : Request) : Type 0
  where
    pub gap : ℕ
    pub is : least (gaps reads replies waiting) ≡ Some gap
    pub asks : r ≡ request.Read handle gap (gap_len reads gap)

-- a READ after all
pub record AfterAll (handle : List ℕ) (reads : Own) (replies : List (ℕ × Reply)) (waiting : Own) (facts : Facts)
    (r : Request) : Type 0 where
  pub none : least (gaps reads replies waiting) ≡ None
  pub endless : least_end replies ≡ None
  pub asks : r ≡ request.Read handle (reach replies waiting) facts.read_len

-- where a whole read asks, its window and its bound let it
pub record Asking (handle : List ℕ) (bound : Option ℕ) (reads : Own) (replies : List (ℕ × Reply)) (waiting : Own)
    (facts : Facts) (r : Request) : Type 0 where
  pub good : first_refusal replies ≡ None
  pub few : (n : ℕ) → bound ≡ Some n → length (contents replies) < n
  pub free : length waiting < facts.read_window
  pub asked : AtGap handle reads replies waiting r ⊎ AfterAll handle reads replies waiting facts r

asks_same : (q r : Request) → Ask q ≡ Ask r → q ≡ r
asks_same q r e = cc

pub ends_no_ask : (got : Reply) (site : Site) (r : Request) → refusal_move got site ≡ Ask r → ⊥
ends_no_ask (reply.Status code message language) site r e = absurd cc
ends_no_ask (reply.Handle handle) site r e = absurd cc
ends_no_ask (reply.Content bytes) site r e = absurd cc
ends_no_ask (reply.Names names) site r e = absurd cc
ends_no_ask (reply.Attrs attrs) site r e = absurd cc
ends_no_ask (reply.Extended content) site r e = absurd cc
ends_no_ask (reply.Version version extensions) site r e = absurd cc

waits_no_ask : (waiting : Own) (site : Site) (r : Request) → await_first waiting site ≡ Ask r → ⊥
waits_no_ask [] site r e = absurd cc
waits_no_ask (asked ∷ later) site r e = absurd cc

of_two : (b : Bool) (m n : Move) (r : Request) → (if b then m else n) ≡ Ask r → ((b ≡ true) × (m ≡ Ask r))
    ⊎ ((b ≡ false) × (n ≡ Ask r))
of_two true m n r e = inl (refl, e)
of_two false m n r e = inr (refl, e)

more_asked : (handle : List ℕ) (reads : Own) (replies : List (ℕ × Reply)) (waiting : Own) (site : Site) (facts : Facts)
    (r : Request) (gap end : Option ℕ) → least (gaps reads replies waiting) ≡ gap → least_end replies ≡ end
    → ask_more handle reads replies waiting site facts gap end ≡ Ask r → AtGap handle reads replies waiting r
    ⊎ AfterAll handle reads replies waiting facts r
more_asked handle reads replies waiting site facts r (Some p) end is at e =
    inl (record { gap = p; is = is; asks = sym (asks_same _ r e) })
more_asked handle reads replies waiting site facts r None None is at e =
    inr (record { none = is; endless = at; asks = sym (asks_same _ r e) })
more_asked handle reads replies waiting site facts r None (Some end) is at e = absurd (waits_no_ask waiting site r e)

goes_on : (handle : List ℕ) (bound : Option ℕ) (reads : Own) (replies : List (ℕ × Reply)) (waiting : Own) (site : Site)
    (facts : Facts) (r : Request) → first_refusal replies ≡ None
    → go_on handle bound reads replies waiting site facts ≡ Ask r → Asking handle bound reads replies waiting facts r
goes_on handle bound reads replies waiting site facts r good e =
    elim (of_two (reaches bound (length (contents replies))) (Done outcome.GivenUp site) _ r e) [
      | inl p ↦ absurd (let z : Done outcome.GivenUp site ≡ Ask r = p.1 in cc)
      | inr p ↦ elim (of_two (nat_lt (length waiting) facts.read_window)
          (ask_more handle reads replies waiting site facts (least (gaps reads replies waiting)) (least_end replies))
          (await_first waiting site) r p.1) [
            | inl q ↦ record {
              good = good;
              few = λ n same. fewer n (length (contents replies))
                  (subst (λ (o : Option ℕ). reaches o (length (contents replies)) ≡ false) same p.0);
              free =
                  less (length waiting) facts.read_window q.0;
              asked = more_asked handle reads replies waiting site facts r
                  (least (gaps reads replies waiting)) (least_end replies) refl refl q.1;
            }
            | inr q ↦ absurd (waits_no_ask waiting site r q.1)
          ]
    ]
  where
    fewer : (b n : ℕ) → nat_le b n ≡ false → n < b
    fewer b n e = grind (arith, nat_tests)

    less : (n w : ℕ) → nat_lt n w ≡ true → n < w
    less n w e = grind (arith, nat_tests)

ends_asked : (missing : List ℕ) (replies : List (ℕ × Reply)) (waiting : Own) (site : Site) (end : Option ℕ)
    (other : Move) (r : Request) → ends_or missing replies waiting site end other ≡ Ask r → other ≡ Ask r
ends_asked [] replies [] site (Some end) other r e = absurd cc
ends_asked [] replies [] site None other r e = e
ends_asked [] replies (asked ∷ later) site end other r e = e
ends_asked (p ∷ ps) replies waiting site end other r e = e

pub asking : (handle : List ℕ) (bound : Option ℕ) (reads : Own) (replies : List (ℕ × Reply)) (waiting : Own)
    (site : Site) (facts : Facts) (r : Request)
    → window_next handle bound reads replies waiting site facts ≡ Ask r
    → Asking handle bound reads replies waiting facts r
asking handle bound reads replies waiting site facts r e = by_refusal (first_refusal replies) refl e
  where
    by_refusal : (o : Option (ℕ × Reply)) → first_refusal replies ≡ o
        → unless_refused o site (ends_or (gaps reads replies waiting) replies waiting site (least_end replies)
        (go_on handle bound reads replies waiting site facts)) ≡ Ask r
        → Asking handle bound reads replies waiting facts r
    by_refusal None good e = goes_on handle bound reads replies waiting site facts r good
        (ends_asked (gaps reads replies waiting) replies waiting site (least_end replies) _ r e)
    by_refusal (Some got) good e = absurd (ends_no_ask got.1 site r e)

-- ---- gaps of more READs

pub any_added : {A : Type 0} (t : A → Bool) (a : A) (xs : List A) → list_any t (xs ++ a ∷ []) ≡ (list_any t xs || t a)
any_added t a [] = by_test (t a)
  where
    by_test : (b : Bool) → (b || false) ≡ (false || b)
    by_test true = refl
    by_test false = refl
any_added t a (x ∷ xs) = by_test (t x) (any_added t a xs)
  where
    by_test : (b : Bool) → list_any t (xs ++ a ∷ []) ≡ (list_any t xs || t a) → (b || list_any t (xs ++ a ∷ []))
        ≡ ((b || list_any t xs) || t a)
    by_test true rest = refl
    by_test false rest = rest

-- where no READ begins
pub free_at : (p : ℕ) (reads : Own) → list_any (λ asked. begins asked == p) reads ≡ false → Among p (map begins reads)
    → ⊥
free_at p [] e h = absurd h
free_at p (asked ∷ later) e h = by_head (begins asked == p) refl e h (free_at p later)
  where
    equal : (n m : ℕ) → n ≡ m → (m == n) ≡ true
    equal n m e = grind (arith, nat_tests)

    by_head : (b : Bool) → (begins asked == p) ≡ b → (b || list_any (λ a. begins a == p) later) ≡ false
        → Among p (begins asked ∷ map begins later) → (list_any (λ a. begins a == p) later ≡ false
        → Among p (map begins later) → ⊥) → ⊥
    by_head true is e h rest = absurd cc
    by_head false is e (inl k) rest = absurd (let z : true ≡ false = sym (equal p (begins asked) k) ∙ is in cc)
    by_head false is e (inr k) rest = rest e k

-- both halves of a gap
pub record Gap (reads : Own) (replies : List (ℕ × Reply)) (waiting : Own) (p : ℕ) : Type 0 where
  pub free : list_any (λ asked. begins asked == p) reads ≡ false
  pub within : is_inside (least_end replies) (reach replies waiting) p ≡ true

pub gap_is : (reads : Own) (replies : List (ℕ × Reply)) (waiting : Own) (p : ℕ) → is_gap reads replies waiting p ≡ true
    → Gap reads replies waiting p
gap_is reads replies waiting p e = by_tests (list_any (λ asked. begins asked == p) reads)
    (is_inside (least_end replies) (reach replies waiting) p) refl refl e
  where
    by_tests : (a b : Bool) → list_any (λ asked. begins asked == p) reads ≡ a
        → is_inside (least_end replies) (reach replies waiting) p ≡ b → (not a && b) ≡ true
        → Gap reads replies waiting p
    by_tests true b is at e = absurd cc
    by_tests false true is at e = record { free = is; within = at }
    by_tests false false is at e = absurd cc

pub is_gap_of : (reads : Own) (replies : List (ℕ × Reply)) (waiting : Own) (p : ℕ) → Gap reads replies waiting p
    → is_gap reads replies waiting p ≡ true
is_gap_of reads replies waiting p g = ap (λ (b : Bool). not b
    && is_inside (least_end replies) (reach replies waiting) p) g.free ∙ g.within
