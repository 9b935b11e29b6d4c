-- Each step keeps the rule.
use Rattle.std.proofs.Common.{
  ◌≡◌,
  ◌≢◌,
  ◌<◌,
  ℕ,
  zero,
  suc,
  ◌-◌,
  ◌==◌,
  List,
  [],
  ◌∷◌,
  ◌++◌,
  map,
  length,
  take,
  get_or,
  set,
  true,
  false,
  true≢false,
  refl,
  sym,
  ap,
  ◌∙◌,
  subst,
  inl,
  inr,
  ⊎_elim,
  arith,
  None,
}
use Rattle.std.specs.Prelude.{slice_index, slice_set}
use prog.Atomic.{either}
use mathlib.Core.Option.{some, none, some-ne-none, some-injective}
use lib.ListN.{get_elem?}
use Rattle.atomic_table.specs.Table.{State, Act, Valid, step, keeps, takes, gives, Allows, stepped, opening, carried_after}
use Rattle.atomic_table.proofs.Lists.{at_set, set_again, exchanged}
use Rattle.session_model.specs.declared.entry.Entry.{Entry}
use Rattle.session_seats.specs.declared.view.Stamp.{Stamp}
use Rattle.session_seats.specs.declared.view.Sight.{Sight}
use Rattle.session_seats.specs.declared.view.Claim.{Claim}
use Rattle.session_seats.specs.declared.view.View.{View}
use Rattle.session_seats.specs.Sights.{SessionInputs, Shown, stamp, sight_of, seat_name, entries, own, seats_given_by, StaysThere, CountsRise, IsLaterSight, IsLawfulSight, AllNamed}
use Rattle.session_seats.specs.Rules.{
  view,
  no_counts,
  start,
  home,
  FitsClaim,
  HasClaims,
  LacksNumber,
  FitsRight,
  FitsSight,
  total,
  share_of,
  unwritten_of,
  NoRight,
  IsHome,
  IsOut,
  Kept,
  sees,
  with_claims_held,
  acquired,
  newer,
  claim_with_entries,
  let_out,
  released,
  MayRelease,
  AllTold,
  checked_step,
}
use Rattle.session_seats.proofs.Lists.{
  not_true,
  grows_none,
  later_same,
  later_on,
  length_more,
  take_front,
  entries-grown,
  length-entries,
  own-others,
  named-append,
  total_set,
  total_has,
}

pub fits_set : (now : Sight) (users holder : ℕ) (whose : ℕ → ℕ) (views : List View) (seat : ℕ) (w : View)
    → ((j : ℕ) (u : View) → j ≢ seat → get_elem? views j ≡ some u → FitsSight now users holder whose j u)
    → FitsSight now users holder whose seat w
    → (j : ℕ) (u : View) → get_elem? (set views seat w) j ≡ some u → FitsSight now users holder whose j u
fits_set now users holder whose views seat w others mine j u e =
    ⊎_elim
    (λ (x : (j ≡ seat) × (w ≡ u)). subst (λ (y : ℕ × View). FitsSight now users holder whose y.0 y.1)
    (λ i. (sym x.0 i, x.1 i)) mine)
    (λ (x : (j ≢ seat) × (get_elem? views j ≡ some u)). others j u x.0 x.1)
    (at_set views seat j w u e)

-- a view without the right
pub unright : (now : Sight) (users holder : ℕ) (seat : ℕ) (v : View) → v.right ≡ false → v.right ≡ true
    → FitsRight now users holder seat v
unright now users holder seat v off on = absurd (true≢false (sym on ∙ off))

-- a claim of a seat that sees all
pub mine_fits : (now : Sight) (whose : ℕ → ℕ) (seat : ℕ) (d : Claim) → whose d.number ≡ seat
    → d.number < length now.seats
    → d.sight ≡ now → FitsClaim now whose seat d
mine_fits now whose seat d mine there sight = record {
  later = subst (λ (s : Sight). IsLaterSight s now) (sym sight) (later_same now);
  made = ap (λ (s : Sight). own d.number s.log) (sym sight);
  given = ap (λ (s : Sight). seats_given_by d.number s.seats) (sym sight);
  mine = mine;
  there = there;
}

module _ {S : Type 0} (shown : S → Shown) where
  -- if a seat has the right, the value is out
  pub is_out : (s : State S View) (k : Kept shown s) (seat : ℕ) (v : View) → v.right ≡ true → get_elem? s.views seat
      ≡ some v → IsOut s
  is_out s k seat v right at = ⊎_elim (λ (h : IsHome shown k.now k.users s). absurd
      (true≢false (sym right ∙ h.free seat v at))) (λ (h : IsOut s). h) k.place

  pub begins : (m : SessionInputs) (y : S) → shown y ≡ record {
    past = [];
    lanes = m.lanes;
    options = m.options;
    version = None;
    counts = no_counts;
    users = 1;
    seated = 0;
  }
      → Kept shown (opening (0 ∷ []) (y ∷ []) (home m))
  begins m y is = record {
    now = start m;
    users = 1;
    holder = 0;
    whose = λ n. 0;
    place = inl record {
      value = y;
      words = refl;
      homes = refl;
      shows = record {
        past = ap (λ (x : Shown). x.past) is;
        told = ap (λ (x : Shown). sight_of x [] (seat_name 0 None ∷ [])) (sym is);
        seated = ap (λ (x : Shown). x.seated) is;
      };
      users_are = ap (λ (x : Shown). x.users) is;
      free = off;
    };
    lawful = record { named = tt; seated = ((λ less. absurd (omega arith)), (λ z. refl), tt, tt) };
    written = refl;
    shared = refl;
    ends = (omega arith, λ less. absurd (omega arith));
    fits = one;
  }
    where
      off : NoRight (home m ∷ [])
      off zero v e = ap (λ (u : View). u.right) (sym (some-injective _ _ e))
      off (suc j) v e = absurd (some-ne-none v (sym e))

      one : (seat : ℕ) (v : View) → get_elem? (home m ∷ []) seat ≡ some v → FitsSight (start m) 1 0 (λ n. 0) seat v
      one zero v e = subst (FitsSight (start m) 1 0 (λ n. 0) 0) (some-injective _ _ e) record {
        right = λ on. absurd (true≢false (sym on));
        claims = (
          record { later = later_same (start m); made = refl; given = refl; mine = refl; there = omega arith },
          tt,
        );
        distinct = (tt, tt);
      }
      one (suc j) v e = absurd (some-ne-none v (sym e))

  module _ (slots seat : ℕ) (c : Claim) (cs : List Claim) (xs : List (ℕ × S)) where
    abbrev v : View
    v = view false 0 (c ∷ cs)

    abbrev Next : State S View → ℕ → ℕ → Type 0
    Next s n m = (w : View) × (a : Act S) × Valid s.homes xs a × Kept shown (stepped s 0 m seat xs w a)
        × acquired shown (step slots 0 0 1 none) (v, xs) n (w, carried_after xs a)

    hits : (s : State S View) → Kept shown s → get_elem? s.views seat ≡ some v → slice_index s.words 0 ≡ 0
        → Next s (slice_index s.words 0) 1
    hits s k at zero-now =
        ⊎_elim
        (λ (h : IsHome shown k.now k.users s).
        let mine = k.fits seat v at in
        let f = mine.claims.0 in
        let w : View = with_claims_held k.now (shown h.value).users v in
        let sh = total_set share_of s.views seat v w at in
        let un = total_set unwritten_of s.views seat v w at in
        let has = total_has share_of s.views seat v at in
        let hun = total_has unwritten_of s.views seat v at in
        let all = k.shared in
        let out = k.written in
        let same = h.users_are in (
          w,
          takes 0 h.value,
          ap (λ (hs : List (mathlib.Core.Option.Option S)). get_elem? hs 0) h.homes,
          record {
            now = k.now;
            users = k.users;
            holder = seat;
            whose = k.whose;
            place = inr record {
              words = ap (λ ws. slice_set ws 0 1) h.words;
              homes =
                  ap (λ hs. slice_set hs 0 none) h.homes;
            };
            lawful = k.lawful;
            written = omega arith;
            shared = omega arith;
            ends = k.ends;
            fits = fits_set k.now k.users seat k.whose s.views seat w
                (λ j u apart e. let g = k.fits j u e in record {
                  right = unright k.now k.users seat j u (h.free j u e);
                  claims = g.claims;
                  distinct = g.distinct;
                })
                record {
                  right = λ _. record { holds = refl; sees = refl; counts = h.users_are };
                  claims = (mine_fits k.now k.whose seat (sees k.now c) f.mine f.there refl, mine.claims.1);
                  distinct = mine.distinct;
                };
          },
          (
            (λ _. (
              h.value,
              k.now,
              refl,
              record {
                later = f.later;
                made = f.made;
                given = f.given;
                shows = h.shows;
                lawful = k.lawful;
                there = f.there;
                share = omega arith;
                unwritten = omega arith;
                ends = (k.ends.0, λ less. h.users_are ∙ k.ends.1 less);
              },
            )),
            (λ ne. absurd (ne zero-now)),
          ),
        ))
        (λ (h : IsOut s). let one : slice_index s.words 0 ≡ 1 = ap (λ ws. slice_index ws 0) h.words in
        absurd (omega arith))
        k.place

    misses : (s : State S View) → Kept shown s → get_elem? s.views seat ≡ some v → slice_index s.words 0 ≢ 0
        → Next s (slice_index s.words 0) (slice_index s.words 0)
    misses s k at not-zero = (
      v,
      keeps,
      tt,
      record {
        now = k.now;
        users = k.users;
        holder = k.holder;
        whose = k.whose;
        place = ⊎_elim
            (λ (h : IsHome shown k.now k.users s). absurd (not-zero (ap (λ ws. slice_index ws 0) h.words)))
            (λ (h : IsOut s). inr record {
              words = ap (λ ws. slice_set ws 0 (slice_index ws 0)) h.words;
              homes =
                  h.homes;
            })
            k.place;
        lawful = k.lawful;
        written = (let same = ap (total unwritten_of) (set_again s.views seat v at) in let was = k.written in
            omega arith);
        shared = ap (total share_of) (set_again s.views seat v at) ∙ k.shared;
        ends = k.ends;
        fits = fits_set k.now k.users k.holder k.whose s.views seat v (λ j u apart e. k.fits j u e) (k.fits seat v at);
      },
      ((λ is. absurd (not-zero is)), (λ _. refl)),
    )

    pub acquires : Allows (Kept shown) slots seat (v, xs) 0 (λ n. either (n == 0) 1 n)
        (acquired shown (step slots 0 0 1 none) (v, xs))
    acquires s k deep at small = exchanged (slice_index s.words 0) 0 1 (Next s (slice_index s.words 0)) (hits s k at)
        (misses s k at)

-- ---- the value goes back

-- a claim stays right if entries of another seat come in front
module _ (now : Sight) (y : Shown) (n : ℕ) (es : List Entry) where
  abbrev pub later_log : Sight
  later_log = sight_of y (map (stamp n) es ++ now.log) now.seats

  module _ (lanes : y.lanes ≡ now.lanes) (options : y.options ≡ now.options)
      (version : StaysThere now.version y.version) (rises : CountsRise now.counts y.counts) where
    pub later_now : IsLaterSight now later_log
    later_now = record {
      log = (map (stamp n) es, refl);
      seats = grows_none now.seats;
      lanes = lanes;
      options = options;
      version = version;
      counts = rises;
    }

    fits_longer : (whose : ℕ → ℕ) (j : ℕ) (d : Claim) → n ≢ d.number → FitsClaim now whose j d
        → FitsClaim later_log whose j d
    fits_longer whose j d apart f = record {
      later = later_on d.sight now later_log f.later later_now;
      made = own-others n d.number es now.log apart ∙ f.made;
      given = f.given;
      mine = f.mine;
      there = f.there;
    }

    others_longer : (whose : ℕ → ℕ) (j : ℕ) (ds : List Claim) → whose n ≢ j → HasClaims now whose j ds
        → HasClaims later_log whose j ds
    others_longer whose j [] apart h = tt
    others_longer whose j (d ∷ ds) apart h = (
      fits_longer whose j d (λ same. apart (ap whose same ∙ h.0.mine)) h.0,
      others_longer whose j ds apart h.1,
    )

    rest_longer : (whose : ℕ → ℕ) (j : ℕ) (ds : List Claim) → LacksNumber n ds → HasClaims now whose j ds
        → HasClaims later_log whose j ds
    rest_longer whose j [] apart h = tt
    rest_longer whose j (d ∷ ds) apart h = (fits_longer whose j d apart.0 h.0, rest_longer whose j ds apart.1 h.1)

told_all : (now : Sight) (whose : ℕ → ℕ) (j : ℕ) (ds : List Claim) → HasClaims now whose j ds → AllTold now ds
told_all now whose j [] h = tt
told_all now whose j (d ∷ ds) h = (
  record { later = h.0.later; made = h.0.made; given = h.0.given; there = h.0.there },
  told_all now whose j ds h.1,
)

pub newer-is : (y : Shown) (log : List Stamp) (more : List Entry) → y.past ≡ more ++ entries log → newer y log ≡ more
newer-is y log more is =
    let len : length y.past ≡ length (more ++ entries log) = ap (λ (l : List Entry). length l) is in
    let es = length-entries log in
    let front = length_more more (entries log) in
    let k : length y.past - length log ≡ length more = omega arith in
    (λ i. take (k i) (is i)) ∙ take_front more (entries log)

module _ {S : Type 0} (shown : S → Shown) (slots seat : ℕ) (users : ℕ) (c : Claim) (cs : List Claim) (y : S)
    (xs : List (ℕ × S)) where
  abbrev has : View
  has = view true users (c ∷ cs)

  module _ (may : MayRelease c users (shown y)) where
    abbrev z : Shown
    z = shown y

    abbrev more : List Entry
    more = newer z c.sight.log

    abbrev later : Sight
    later = sight_of z (map (stamp c.number) more ++ c.sight.log) c.sight.seats

    more_is : more ≡ may.past.0
    more_is = newer-is z c.sight.log may.past.0 may.past.1

    past_is : z.past ≡ more ++ entries c.sight.log
    past_is = may.past.1 ∙ ap (λ (es : List Entry). es ++ entries c.sight.log) (sym more_is)

    lawful_after : IsLawfulSight c.sight → IsLawfulSight later
    lawful_after h = record {
      named = named-append c.sight.seats (map (stamp c.number) more) c.sight.log
          (subst (λ (es : List Entry). AllNamed c.sight.seats (map (stamp c.number) es)) (sym more_is) may.past.2)
          h.named;
      seated = h.seated;
    }

    fits_after : (s : State S View) (k : Kept shown s) → get_elem? s.views seat ≡ some has
        → (j : ℕ) (u : View) → get_elem? (set s.views seat (let_out z has)) j ≡ some u
        → FitsSight later z.users seat k.whose j u
    fits_after s k at =
        let f = k.fits seat has at in
        let right = f.right refl in
        let now-is : k.now ≡ c.sight = sym right.sees in
        let claims' : (j : ℕ) (u : View) → get_elem? s.views j ≡ some u → HasClaims c.sight k.whose j u.claims =
        λ j u e. subst (λ (n : Sight). HasClaims n k.whose j u.claims) now-is (k.fits j u e).claims in
        let me' = claims' seat has at in
        fits_set later z.users seat k.whose s.views seat (let_out z has)
        (λ j u apart e. record {
          right = λ on. absurd (apart (((k.fits j u e).right on).holds ∙ sym right.holds));
          claims = others_longer c.sight z c.number more may.lanes may.options may.version may.rises k.whose j u.claims
              (λ same. apart (sym same ∙ me'.0.mine)) (claims' j u e);
          distinct = (k.fits j u e).distinct;
        })
        record {
          right = λ on. absurd (true≢false (sym on));
          claims = (
            mine_fits later k.whose seat (claim_with_entries z users c) me'.0.mine me'.0.there refl,
            rest_longer c.sight z c.number more may.lanes may.options may.version may.rises k.whose seat cs f.distinct.0
                me'.1,
          );
          distinct = f.distinct;
        }

    pub releases : Allows (Kept shown) slots seat (has, (0, y) ∷ xs) 0 (λ _. 0)
        (λ _. released shown (step slots 0 0 0 none) (has, (0, y) ∷ xs) 0)
    releases s k deep at small =
        let out = is_out shown s k seat has refl at in
        let f = k.fits seat has at in
        let right = f.right refl in
        let now-is : k.now ≡ c.sight = sym right.sees in
        let handed : k.now.counts.handed ≡ c.sight.counts.handed = ap (λ (n : Sight). n.counts.handed) now-is in
        let wrote : k.now.counts.written ≡ c.sight.counts.written = ap (λ (n : Sight). n.counts.written) now-is in
        let sh = total_set share_of s.views seat has (let_out z has) at in
        let un = total_set unwritten_of s.views seat has (let_out z has) at in
        let all = k.shared in
        let sum = k.written in
        let had = right.counts in
        let enough = may.users_are in
        let told = may.written in
        let rose = may.rises.handed in (
          let_out z has,
          gives,
          tt,
          record {
            now = later;
            users = z.users;
            holder = seat;
            whose = k.whose;
            place = inl record {
              value = y;
              words = ap (λ ws. slice_set ws 0 0) out.words;
              homes = ap (λ hs. slice_set hs 0 (some y)) out.homes;
              shows = record {
                past = past_is ∙ sym (entries-grown c.number more c.sight.log);
                told = refl;
                seated =
                    may.seated;
              };
              users_are = refl;
              free = λ j u e. ⊎_elim
                  (λ (x : (j ≡ seat) × (let_out z has ≡ u)). ap (λ (w : View). w.right) (sym x.1))
                  (λ (x : (j ≢ seat) × (get_elem? s.views j ≡ some u)). not_true u.right
                  (λ on. x.0 (((k.fits j u x.1).right on).holds ∙ sym right.holds)))
                  (at_set s.views seat j (let_out z has) u e);
            };
            lawful = lawful_after (subst IsLawfulSight now-is k.lawful);
            written = omega arith;
            shared = omega arith;
            ends = may.ends;
            fits = fits_after s k at;
          },
          λ y' same. ap (λ (l : List (ℕ × S)). (let_out (shown (get_or l 0 (0, y)).1) has, xs)) same,
        )

  pub checks : Allows (Kept shown) slots seat (has, (0, y) ∷ xs) 0 (λ n. n)
      (checked_step (step slots 0 0 0 none) (has, (0, y) ∷ xs))
  checks s k deep at small =
      let f = k.fits seat has at in
      let right = f.right refl in
      let out = is_out shown s k seat has refl at in
      let now-is : k.now ≡ c.sight = sym right.sees in (
        has,
        keeps,
        tt,
        record {
          now = k.now;
          users = k.users;
          holder = k.holder;
          whose = k.whose;
          place = inr record { words = ap (λ ws. slice_set ws 0 (slice_index ws 0)) out.words; homes = out.homes };
          lawful = k.lawful;
          written = (let same = ap (total unwritten_of) (set_again s.views seat has at) in let was = k.written in
              omega arith);
          shared = ap (total share_of) (set_again s.views seat has at) ∙ k.shared;
          ends = k.ends;
          fits = fits_set k.now k.users k.holder k.whose s.views seat has (λ j u apart e. k.fits j u e) f;
        },
        (
          refl,
          (λ _. record {
            lawful = subst IsLawfulSight now-is k.lawful;
            distinct = f.distinct;
            all = told_all c.sight k.whose seat (c ∷ cs) (subst (λ (n : Sight). HasClaims n k.whose seat (c ∷ cs))
                now-is f.claims);
          }),
        ),
      )
