-- A seat that is cut off, and one that is taken in, keep the rule.
use Rattle.std.proofs.Common.{
  ◌≡◌,
  ◌≢◌,
  ◌<◌,
  ◌≤◌,
  ℕ,
  ◌==◌,
  List,
  [],
  ◌∷◌,
  ◌++◌,
  length,
  set,
  Bool,
  true,
  false,
  true≢false,
  refl,
  sym,
  ap,
  ◌∙◌,
  subst,
  inr,
  ⊎_elim,
  arith,
  ne_eqb,
  eq-eqb,
}
use Rattle.std.specs.Prelude.{Option}
use mathlib.Core.Option.{some}
use lib.ListN.{get_elem?}
use Rattle.atomic_table.specs.Table.{State, Splits, Joins}
use Rattle.atomic_table.proofs.Lists.{at_set}
use Rattle.session_seats.specs.declared.view.SeatName.{SeatName}
use Rattle.session_seats.specs.declared.view.Sight.{Sight}
use Rattle.session_seats.specs.declared.view.Claim.{Claim}
use Rattle.session_seats.specs.declared.view.View.{View}
use Rattle.session_seats.specs.Sights.{Shown, seat_name, IsLaterSight, lanes_in, FitsStage, IsLawfulSight, IsNextLane}
use Rattle.session_seats.specs.Rules.{
  view,
  nobody,
  FitsClaim,
  HasClaims,
  LacksNumber,
  AreDistinctClaims,
  FitsSight,
  share_of,
  unwritten_of,
  IsOut,
  Kept,
  next_lane,
  first_share,
  with_seated_lane,
  giver,
  fresh,
  newcomer,
  joined_views,
}
use Rattle.session_seats.proofs.Lists.{pick, later_same, later_on, at_new, named-more, gave-others, shares_both, unwritten_both, total_set, total_snoc}
use Rattle.session_seats.proofs.Steps.{fits_set, is_out, mine_fits}

-- ---- a seat is cut off

module _ (now : Sight) (n : ℕ) (lane : Option ℕ) (whose : ℕ → ℕ) (new : ℕ) where
  abbrev with_seat : Sight
  with_seat = record now { seats = seat_name n lane ∷ now.seats }

  abbrev owned : ℕ → ℕ
  owned m = pick (m == length now.seats) new (whose m)

  still_owned : (m : ℕ) → m < length now.seats → owned m ≡ whose m
  still_owned m less = ap (λ b. pick b new (whose m)) (ne_eqb m (length now.seats) (λ same. absurd (omega arith)))

  seat_later : IsLaterSight now with_seat
  seat_later = let same = later_same now in record {
    log = same.log;
    seats = (seat_name n lane ∷ [], refl);
    lanes =
        refl;
    options = refl;
    version = same.version;
    counts = same.counts;
  }

  seat_fits : (j : ℕ) (d : Claim) → n ≢ d.number → FitsClaim now whose j d → FitsClaim with_seat owned j d
  seat_fits j d apart f = record {
    later = later_on d.sight now with_seat f.later seat_later;
    made = f.made;
    given = gave-others n d.number lane now.seats apart ∙ f.given;
    mine = still_owned d.number f.there ∙ f.mine;
    there = (let t = f.there in omega arith);
  }

  other_seats_fit : (j : ℕ) (ds : List Claim) → whose n ≢ j → HasClaims now whose j ds → HasClaims with_seat owned j ds
  other_seats_fit j [] apart h = tt
  other_seats_fit j (d ∷ ds) apart h = (
    seat_fits j d (λ same. apart (ap whose same ∙ h.0.mine)) h.0,
    other_seats_fit j ds apart h.1,
  )

  rest_seats_fit : (j : ℕ) (ds : List Claim) → LacksNumber n ds → HasClaims now whose j ds
      → HasClaims with_seat owned j ds
  rest_seats_fit j [] apart h = tt
  rest_seats_fit j (d ∷ ds) apart h = (seat_fits j d apart.0 h.0, rest_seats_fit j ds apart.1 h.1)

out_still : {S : Type 0} (s : State S View) (views : List View) → IsOut s
    → IsOut (record { words = s.words; homes = s.homes; views = views })
out_still s views out = record { words = out.words; homes = out.homes }

is_next : (names : Bool) (seats : List SeatName) → IsNextLane (lanes_in seats) (next_lane names seats)
is_next true seats = refl
is_next false seats = tt

module _ {S : Type 0} (shown : S → Shown) (seat : ℕ) (users : ℕ) (c : Claim) (cs : List Claim) where
  abbrev giving : View
  giving = view true users (c ∷ cs)

  pub splits : (names : Bool) → first_share names ≤ c.share →
      Splits (Kept shown) seat giving (giver names giving) (newcomer names giving)
  splits names enough s k at =
      let lane : Option ℕ = next_lane names c.sight.seats in
      let left = giver names giving in
      let right = newcomer names giving in
      let vs : List View = set s.views seat left in
      let f = k.fits seat giving at in
      let mine = f.right refl in
      let now-is : k.now ≡ c.sight = sym mine.sees in
      let claims' : (j : ℕ) (u : View) → get_elem? s.views j ≡ some u → HasClaims c.sight k.whose j u.claims =
      λ j u e. subst (λ (n : Sight). HasClaims n k.whose j u.claims) now-is (k.fits j u e).claims in
      let me' = claims' seat giving at in
      let now' : Sight = with_seat c.sight c.number lane k.whose (length vs) in
      let whose' : ℕ → ℕ = owned c.sight c.number lane k.whose (length vs) in
      let handed : k.now.counts.handed ≡ c.sight.counts.handed = ap (λ (n : Sight). n.counts.handed) now-is in
      let wrote : k.now.counts.written ≡ c.sight.counts.written = ap (λ (n : Sight). n.counts.written) now-is in
      let lawful' : IsLawfulSight c.sight = subst IsLawfulSight now-is k.lawful in
      let sh = total_set share_of s.views seat giving left at in
      let un = total_set unwritten_of s.views seat giving left at in
      let sh2 = total_snoc share_of vs right in
      let un2 = total_snoc unwritten_of vs right in
      let all = k.shared in
      let sum = k.written in
      let there = me'.0.there in record {
        now = now';
        users = k.users;
        holder = seat;
        whose = whose';
        place = inr (out_still s _ (is_out shown s k seat giving refl at));
        lawful = record {
          named = named-more (seat_name c.number lane ∷ []) c.sight.seats c.sight.log lawful'.named;
          seated = ((λ less. me'.0.there), (λ z. absurd (omega arith)), is_next names c.sight.seats, lawful'.seated);
        };
        written = omega arith;
        shared = omega arith;
        ends = subst (λ (n : Sight). FitsStage n.counts.stage k.users) now-is k.ends;
        fits = λ j u e. ⊎_elim
            (λ (old : get_elem? vs j ≡ some u). fits_set now' k.users seat whose' s.views seat left
            (λ i w apart e'. record {
              right = λ on. absurd (apart (((k.fits i w e').right on).holds ∙ sym mine.holds));
              claims = other_seats_fit c.sight c.number lane k.whose (length vs) i w.claims
                  (λ same. apart (sym same ∙ me'.0.mine)) (claims' i w e');
              distinct = (k.fits i w e').distinct;
            })
            record {
              right = λ on. record { holds = refl; sees = refl; counts = mine.counts };
              claims = (
                mine_fits now' whose' seat (with_seated_lane names c)
                    (still_owned c.sight c.number lane k.whose (length vs)
                    c.number me'.0.there ∙ me'.0.mine) (omega arith) refl,
                rest_seats_fit c.sight c.number lane k.whose (length vs) seat cs f.distinct.0 me'.1,
              );
              distinct = f.distinct;
            }
            j u old)
            (λ (new : (j ≡ length vs) × (right ≡ u)). subst (λ (x : ℕ × View). FitsSight now' k.users seat whose' x.0
            x.1) (λ i. (sym new.0 i, new.1 i))
            record {
              right = λ on. absurd (true≢false (sym on));
              claims = (
                mine_fits now' whose' (length vs) (fresh names c) (ap
                    (λ b. pick b (length vs) (k.whose (length c.sight.seats)))
                    (eq-eqb (length c.sight.seats) (length c.sight.seats) refl)) (omega arith) refl,
                tt,
              );
              distinct = (tt, tt);
            })
            (at_new vs right u j e);
      }

-- ---- a seat takes in another

module _ (now : Sight) (whose : ℕ → ℕ) (seat other : ℕ) where
  abbrev taken_in : ℕ → ℕ
  taken_in m = pick (whose m == other) seat (whose m)

  moved : (j : ℕ) (d : Claim) → (m : ℕ) → taken_in d.number ≡ m → FitsClaim now whose j d → FitsClaim now taken_in m d
  moved j d m is f = record { later = f.later; made = f.made; given = f.given; mine = is; there = f.there }

  stays : (j : ℕ) (ds : List Claim) → j ≢ other → HasClaims now whose j ds → HasClaims now taken_in j ds
  stays j [] apart h = tt
  stays j (d ∷ ds) apart h = (
    moved j d j (ap (λ b. pick b seat (whose d.number)) (ne_eqb (whose d.number) other
        (λ same. apart (sym h.0.mine ∙ same))) ∙ h.0.mine) h.0,
    stays j ds apart h.1,
  )

  comes : (ds : List Claim) → HasClaims now whose other ds → HasClaims now taken_in seat ds
  comes [] h = tt
  comes (d ∷ ds) h = (
    moved other d seat (ap (λ b. pick b seat (whose d.number))
        (eq-eqb (whose d.number) other h.0.mine)) h.0,
    comes ds h.1,
  )

  both_fit : (cs ds : List Claim) → HasClaims now taken_in seat cs → HasClaims now taken_in seat ds
      → HasClaims now taken_in seat (cs ++ ds)
  both_fit [] ds h g = g
  both_fit (c ∷ cs) ds h g = (h.0, both_fit cs ds h.1 g)

  lacks_all : (n : ℕ) (ds : List Claim) → whose n ≢ other → HasClaims now whose other ds → LacksNumber n ds
  lacks_all n [] apart h = tt
  lacks_all n (d ∷ ds) apart h = ((λ same. apart (ap whose same ∙ h.0.mine)), lacks_all n ds apart h.1)

  lacks_both : (n : ℕ) (cs ds : List Claim) → LacksNumber n cs → LacksNumber n ds → LacksNumber n (cs ++ ds)
  lacks_both n [] ds h g = g
  lacks_both n (c ∷ cs) ds h g = (h.0, lacks_both n cs ds h.1 g)

  distinct_both : (cs ds : List Claim) → seat ≢ other → HasClaims now whose seat cs → HasClaims now whose other ds
      → AreDistinctClaims cs → AreDistinctClaims ds → AreDistinctClaims (cs ++ ds)
  distinct_both [] ds apart h g d e = e
  distinct_both (c ∷ cs) ds apart h g d e = (
    lacks_both c.number cs ds d.0
        (lacks_all c.number ds (λ same. apart (sym h.0.mine ∙ same)) g),
    distinct_both cs ds apart h.1 g d.1 e,
  )

pub joins : {S : Type 0} (shown : S → Shown) (seat : ℕ) (users : ℕ) (c : Claim) (cs : List Claim) (other : ℕ)
    (ds : List Claim)
    → Joins (Kept shown) seat (view true users (c ∷ cs)) other (view false 0 ds)
    (joined_views (view true users (c ∷ cs)) (view false 0 ds)) nobody
joins {S} shown seat users c cs other ds s k at two there =
    let v : View = view true users (c ∷ cs) in
    let w : View = view false 0 ds in
    let both : View = joined_views v w in
    let at' : get_elem? s.views other ≡ some w = ⊎_elim (λ (x : (other ≡ seat) × (both ≡ w)). absurd (two x.0))
    (λ (x : (other ≢ seat) × (get_elem? s.views other ≡ some w)). x.1) (at_set s.views seat other both w there) in
    let f = k.fits seat v at in
    let h = k.fits other w at' in
    let apart : seat ≢ other = λ same. two (sym same) in
    let whose' : ℕ → ℕ = taken_in k.now k.whose seat other in
    let sh = total_set share_of s.views seat v both at in
    let un = total_set unwritten_of s.views seat v both at in
    let sh2 = total_set share_of (set s.views seat both) other w nobody there in
    let un2 = total_set unwritten_of (set s.views seat both) other w nobody there in
    let sh3 = shares_both (c ∷ cs) ds in
    let un3 = unwritten_both (c ∷ cs) ds in
    let all = k.shared in
    let sum = k.written in record {
      now = k.now;
      users = k.users;
      holder = k.holder;
      whose = whose';
      place = inr (out_still s _ (is_out shown s k seat v refl at));
      lawful = k.lawful;
      written = omega arith;
      shared = omega arith;
      ends = k.ends;
      fits = fits_set k.now k.users k.holder whose' (set s.views seat both) other nobody
          (λ j u far e. ⊎_elim
          (λ (x : (j ≡ seat) × (both ≡ u)). subst (λ (y : ℕ × View). FitsSight k.now k.users k.holder whose' y.0 y.1)
          (λ i. (sym x.0 i, x.1 i))
          record {
            right = λ on. let r = f.right refl in record { holds = r.holds; sees = r.sees; counts = r.counts };
            claims = both_fit k.now k.whose seat other (c ∷ cs) ds
                (stays k.now k.whose seat other seat (c ∷ cs) apart f.claims)
                (comes k.now k.whose seat other ds h.claims);
            distinct = distinct_both k.now k.whose seat other (c ∷ cs) ds apart f.claims h.claims f.distinct h.distinct;
          })
          (λ (x : (j ≢ seat) × (get_elem? s.views j ≡ some u)). let z = k.fits j u x.1 in
          record {
            right = z.right;
            claims = stays k.now k.whose seat other j u.claims far z.claims;
            distinct =
                z.distinct;
          })
          (at_set s.views seat j both u e))
          record { right = λ on. absurd (true≢false (sym on)); claims = tt; distinct = tt };
    }
