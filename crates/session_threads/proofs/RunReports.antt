-- The seats of a run from its home seat to its report.
use Rattle.std.proofs.Common.{
  ◌≡◌,
  ◌≢◌,
  ◌<◌,
  ◌≤◌,
  ◌+◌,
  Bool,
  true,
  true≢false,
  ℕ,
  suc,
  List,
  [],
  ◌∷◌,
  ◌++◌,
  None,
  Some,
  Ok,
  Err,
  inl,
  inr,
  length,
  map,
  append_assoc,
  eqb-true,
  length-append,
  refl,
  sym,
  ap,
  ◌∙◌,
  subst,
  arith,
}
use Rattle.std.specs.Prelude.{◌&&◌, Option, Result, is_some, remove, slice_index_or}
use Rattle.std.proofs.lemmas.Bool.{and_parts}
use Rattle.atomic_table.specs.Seated.{TableId}
use Rattle.plan_model.specs.declared.call.Lane.{Lane}
use Rattle.session_model.specs.declared.entry.Entry.{Entry}
use Rattle.session_seats.specs.declared.rule.Held.{Ghosts}
use Rattle.session_seats.specs.declared.seat.Seat.{Seat}
use Rattle.session_seats.specs.declared.view.Claim.{Claim}
use Rattle.session_seats.specs.declared.view.Sight.{Sight}
use Rattle.session_seats.specs.Closes.{claim_by, claims_of, items_of}
use Rattle.session_seats.specs.Covers.{ClosesSeats, HasAllSeats, HasNumber, HasEach, HomeGave, CoversPlacesOnce}
use Rattle.session_seats.specs.Holds.{AllFrom, AddsEntries, claim_of, fits_lane}
use Rattle.session_seats.specs.declared.view.Receipt.{Receipt}
use Rattle.session_seats.specs.Sights.{StaysThere, entries, seats_given_by, inputs_of as mades, own}
use Rattle.session_seats.specs.Rules.{AllTold, ToldClaim, claim, home, start}
use Rattle.session_seats.proofs.HomeLaws.{grew_same, home_first, home_goes_on}
use Rattle.std.proofs.lemmas.List.{map-append}
use Rattle.session_seats.proofs.JoinLaws.{map-snoc}
use Rattle.sftp_model.specs.declared.error.Error.{Error}
use Rattle.sftp_model.specs.declared.options.SftpOptions.{SftpOptions}
use Rattle.sftp_model.specs.declared.reply.Reply.{Reply}
use Rattle.sftp_tasks.specs.declared.locked.Locked.{Locked}
use Rattle.sftp_tasks.specs.declared.report.SharedReport.{SharedReport}
use Rattle.sftp_tasks.specs.Reported.{HaveLanes, Reported, lane_named}
use Rattle.sftp_tasks.specs.Rounds.{Token}
use Rattle.sftp_tasks.specs.Sent.{SeesVersion}
use Rattle.sftp_tasks.specs.Workers.{WorkerState}
use Rattle.session_threads.proofs.MoveLaws.{opening_moves}
use Rattle.session_threads.proofs.RunLaws.{anything, ran_weaker, ran_append, ran_complete}
use Rattle.session_threads.specs.Crews.{IsHome, lanes_below, named_in_order}
use Rattle.session_threads.specs.Failures.{WorksOverHalf}
use Rattle.session_threads.specs.Reports.{RunsOf, RunsShared}
use Rattle.sftp_tasks.specs.Opening.{by_opening}
use Rattle.session_threads.specs.Running.{
  AllRan,
  HasGiven,
  HasRun,
  IsOf,
  MovedNothing,
  SameMade,
  WorkedUntilEnd,
  moves_none,
  sends_none,
  takes_none,
}

-- ---- the home seat of an opened session

from_zero : (P Q : Entry → Bool) (k : ℕ) → ((e : Entry) → P e ≡ true → Q e ≡ true) → (rs : List Receipt)
    → AllFrom k P rs → AllFrom 0 Q rs
from_zero P Q k f [] h = tt
from_zero P Q k f (r ∷ rs) h = (omega arith, f r.entry h.1, from_zero P Q k f rs h.2)

module _ {G : Ghosts Locked} (z : TableId) (lanes : List Lane) (options : SftpOptions) (first home' : Seat Locked G)
  where
    pub opened_of : first.inner.me ≡ (home (mades lanes options), [])
        → AddsEntries (by_opening first.lane) (claim_by first) (claim_by home')
        → IsOf lanes options (claim_by home').sight
    opened_of new g =
        let is : claim_by first ≡ claim 0 1 0 (start (mades lanes options)) = ap (λ (m : Token). claim_of m) new in (
          g.later.lanes ∙ ap (λ (c : Claim). c.sight.lanes) is,
          g.later.options ∙ ap (λ (c : Claim). c.sight.options) is,
        )

    pub opened_home : first.inner.me ≡ (home (mades lanes options), []) → first.lane ≡ None → first.inner.table_id ≡ z
        → home'.inner.table_id ≡ first.inner.table_id
        → home'.lane ≡ first.lane → (claim_by first).share ≤ (claim_by home').share
        → AddsEntries (by_opening first.lane) (claim_by first) (claim_by home')
        → IsHome z home' × IsOf lanes options (claim_by home').sight
    opened_home new none own own' lane share g =
        let is : claim_by first ≡ claim 0 1 0 (start (mades lanes options)) = ap (λ (m : Token). claim_of m) new in
        let one : (claim_by first).share ≡ 1 = ap (λ (c : Claim). c.share) is in
        let nothing : Rattle.session_seats.specs.Sights.own (claim_by first).number (claim_by first).sight.log ≡ [] =
        ap (λ (c : Claim). Rattle.session_seats.specs.Sights.own c.number c.sight.log) is in
        let made : Rattle.session_seats.specs.Sights.own (claim_by home').number (claim_by home').sight.log ≡ g.more =
        ap (λ (n : ℕ). Rattle.session_seats.specs.Sights.own n (claim_by home').sight.log) g.number ∙ g.made
        ∙ ap (λ (l : List Receipt). l ++ g.more) nothing in (
          record {
            ready = record { own = own' ∙ own; share = omega (arith, share, one) };
            gave = home_goes_on (claim_by first) (claim_by home') [] []
                (grew_same (by_opening first.lane) (claim_by first) (claim_by home') g) tt
                (subst (λ (c : Claim). HomeGave c []) (sym is) (home_first (mades lanes options)));
            lane = lane ∙ none;
            moved = subst (λ (l : List Receipt). AllFrom 0 moves_none l) (sym made)
                (from_zero (by_opening first.lane) moves_none _ (opening_moves first.lane) g.more g.passes);
          },
          opened_of new g,
        )

-- the home seat as it gives the others
pub still_moved : {G : Ghosts Locked} (z : TableId) (a b : Seat Locked G) → HasGiven z a b → MovedNothing a
    → MovedNothing b
still_moved z a b h moved = subst (λ (l : List Receipt). AllFrom 0 moves_none l) (sym h.added) moved

pub still_sees : {G : Ghosts Locked} (z : TableId) (a b : Seat Locked G) (hello : Reply) → HasGiven z a b
    → SeesVersion hello (claim_by a).sight
    → SeesVersion hello (claim_by b).sight
still_sees z a b hello h sees = subst (λ (v : Option Reply). StaysThere v (claim_by b).sight.version) sees h.version

-- ---- the lanes that are named

pub names_more : {G : Ghosts Locked} (seats : List (Seat Locked G)) (s : Seat Locked G) (n lane : ℕ)
    → map lane_named seats ≡ lanes_below n
    → length seats ≡ n → lane ≡ length seats → s.lane ≡ Some lane
    → (map lane_named (seats ++ s ∷ []) ≡ lanes_below (n + 1)) × (length (seats ++ s ∷ []) ≡ n + 1)
names_more seats s n lane named long at is =
    let next : suc n ≡ n + 1 = omega arith in
    let its : s.lane ≡ Some n = is ∙ ap (λ (k : ℕ). Some k) (at ∙ long) in (
      map-snoc lane_named seats s ∙ (λ i. named i ++ its i ∷ []) ∙ ap lanes_below next,
      omega (arith, long, length-append seats (s ∷ [])),
    )

pub fits_names : (o : Option ℕ) (lane : ℕ) → fits_lane (Some lane) o ≡ true → o ≡ Some lane
fits_names None lane h = absurd (true≢false (sym h))
fits_names (Some k) lane h = ap (λ (n : ℕ). Some n) (sym (eqb-true lane k h))

pub crew_named : {G : Ghosts Locked} (seats : List (Seat Locked G)) (home sender reader : Seat Locked G) (n : ℕ)
    → map lane_named seats ≡ lanes_below n
    → home.lane ≡ None → sender.lane ≡ None → reader.lane ≡ None → map lane_named (seats ++ home ∷ sender ∷ reader ∷ [])
    ≡ named_in_order n
crew_named seats home sender reader n named a b c = map-append lane_named seats (home ∷ sender ∷ reader ∷ [])
    ∙ (λ i. named i ++ a i ∷ b i ∷ c i ∷ [])

-- ---- the home seat after those of the lanes

module _ {G : Ghosts Locked} (home : Seat Locked G) (others : List (Seat Locked G)) where
  has_behind : (lanes : List (Seat Locked G)) (n : ℕ) → HasNumber n (claims_of (home ∷ (lanes ++ others)))
      → HasNumber n (claims_of (lanes ++ home ∷ others))
  has_behind [] n h = h
  has_behind (s ∷ lanes) n (inl h) = inr (has_behind lanes n (inl h))
  has_behind (s ∷ lanes) n (inr (inl h)) = inl h
  has_behind (s ∷ lanes) n (inr (inr h)) = inr (has_behind lanes n (inr h))

  closed_behind : (all : List Claim) (lanes : List (Seat Locked G))
      → ClosesSeats (claims_of (home ∷ (lanes ++ others))) all
      → ClosesSeats (claims_of (lanes ++ home ∷ others)) all
  closed_behind all [] h = h
  closed_behind all (s ∷ lanes) h = (h.1.0, closed_behind all lanes (h.0, h.1.1))

  each_as : (ns : List ℕ) (cs ds : List Claim) → ((n : ℕ) → HasNumber n cs → HasNumber n ds) → HasEach ns cs
      → HasEach ns ds
  each_as [] cs ds f h = tt
  each_as (n ∷ ns) cs ds f h = (f n h.0, each_as ns cs ds f h.1)

  closed_as : (some cs ds : List Claim) → ((n : ℕ) → HasNumber n cs → HasNumber n ds) → ClosesSeats some cs
      → ClosesSeats some ds
  closed_as [] cs ds f h = tt
  closed_as (c ∷ some) cs ds f h = (
    each_as (seats_given_by c.number c.sight.seats) cs ds f h.0,
    closed_as some cs ds f h.1,
  )

  pub complete_behind : (lanes : List (Seat Locked G)) → HasAllSeats (claims_of (home ∷ (lanes ++ others)))
      → HasAllSeats (claims_of (lanes ++ home ∷ others))
  complete_behind lanes h = (
    has_behind lanes 0 h.0,
    closed_behind (claims_of (lanes ++ home ∷ others)) lanes
        (closed_as (claims_of (home ∷ (lanes ++ others))) (claims_of (home ∷ (lanes ++ others)))
        (claims_of (lanes ++ home ∷ others)) (has_behind lanes) h.1),
  )

  told_behind : (now : Sight) (lanes : List (Seat Locked G)) → AllTold now (claims_of (lanes ++ home ∷ others))
      → ToldClaim now (claim_by home)
  told_behind now [] told = told.0
  told_behind now (s ∷ lanes) told = told_behind now lanes told.1

pub three_more : {A : Type 0} (xs : List A) (a b c : A) → ((xs ++ a ∷ []) ++ b ∷ []) ++ c ∷ [] ≡ xs ++ a ∷ b ∷ c ∷ []
three_more xs a b c = append_assoc (xs ++ a ∷ []) (b ∷ []) (c ∷ []) ∙ append_assoc xs (a ∷ []) (b ∷ c ∷ [])

-- ---- the seats of a run once they ran

module _ {G : Ghosts Locked} (z : TableId) (olds news : List (Seat Locked G))
    (home home' sender sender' reader reader' : Seat Locked G) where
  any_all : (old new : List (Seat Locked G)) → AllRan moves_none z old new → AllRan anything z old new
  any_all [] [] all = tt
  any_all [] (t ∷ ts) all = absurd all
  any_all (s ∷ ss) [] all = absurd all
  any_all (s ∷ ss) (t ∷ ts) all = (ran_weaker moves_none anything z (λ e h. refl) s t all.0, any_all ss ts all.1)

  any_crew : HasRun takes_none z sender sender' → HasRun sends_none z reader reader'
      → AllRan anything z (sender ∷ reader ∷ []) (sender' ∷ reader' ∷ [])
  any_crew s r = (
    ran_weaker takes_none anything z (λ e h. refl) sender sender' s,
    (ran_weaker sends_none anything z (λ e h. refl) reader reader' r, tt),
  )

  pub crew_ran : AllRan moves_none z olds news → HasRun moves_none z home home' → HasRun takes_none z sender sender'
      → HasRun sends_none z reader reader'
      → AllRan anything z (olds ++ home ∷ sender ∷ reader ∷ []) (news ++ home' ∷ sender' ∷ reader' ∷ [])
  crew_ran ran h s r =
      ran_append anything z olds news (home ∷ sender ∷ reader ∷ []) (home' ∷ sender' ∷ reader' ∷ [])
      (any_all olds news ran)
      (ran_weaker moves_none anything z (λ e t. refl) home home' h, any_crew s r)

  pub crew_complete : AllRan moves_none z olds news → HasRun moves_none z home home'
      → HasRun takes_none z sender sender' → HasRun sends_none z reader reader'
      → HomeGave (claim_by home) (claims_of ((olds ++ sender ∷ []) ++ reader ∷ []))
      → HasAllSeats (claims_of (news ++ home' ∷ sender' ∷ reader' ∷ []))
  crew_complete ran h s r gave =
      let all = ran_append anything z olds news (sender ∷ reader ∷ []) (sender' ∷ reader' ∷ []) (any_all olds news ran)
      (any_crew s r) in
      let others = subst (λ (l : List (Seat Locked G)). HomeGave (claim_by home) (claims_of l))
      (append_assoc olds (sender ∷ []) (reader ∷ [])) gave in
      complete_behind home' (sender' ∷ reader' ∷ []) news
      (ran_complete anything z home home' (olds ++ sender ∷ reader ∷ []) (news ++ sender' ∷ reader' ∷ [])
      (ran_weaker moves_none anything z (λ e t. refl) home home' h) all others)

-- ---- the report

pub runs_of : {G : Ghosts Locked} (home : Seat Locked G) (lanes others : List (Seat Locked G)) (r : SharedReport)
    → Reported (lanes ++ home ∷ others) r → CoversPlacesOnce (length r.journal.items) (map items_of r.receipts.items)
    → r.is_open ≡ true
    → r.report.hello ≢ None → map lane_named (lanes ++ home ∷ others)
    ≡ named_in_order (length (claim_by home).sight.lanes)
    → RunsOf (claim_by home).sight r
runs_of home lanes others r p covers is_open taken named =
    let told = told_behind home others p.now lanes p.told in record {
      now = p.now;
      made = (told.later.lanes, told.later.options);
      info = p.info;
      journal = p.journal;
      run = p.run;
      fixed = p.fixed;
      unkept = p.unkept;
      settled = p.settled is_open;
      hello = p.hello;
      taken = taken;
      trace = p.trace;
      outcomes = p.outcomes;
      lawful = p.lawful;
      by_lane = subst (λ (l : List (Option ℕ)). HaveLanes (entries p.now.log) l (map items_of r.receipts.items)) named
          p.lanes;
      covers = covers;
    }

some_is_there : {A : Type 0} (o : Option A) → is_some o ≡ true → o ≢ None
some_is_there None is none = true≢false (sym is)
some_is_there (Some x) is none = absurd (cc none)

-- of a session that was examined once it was closed
pub runs_looked_at : {G : Ghosts Locked} (seats : List (Seat Locked G)) (home : Seat Locked G)
    (lanes others : List (Seat Locked G)) (r : SharedReport)
    (found : Bool) → seats ≡ lanes ++ home ∷ others → Reported seats r
    → (HasAllSeats (claims_of seats) → CoversPlacesOnce (length r.journal.items) (map items_of r.receipts.items))
    → HasAllSeats (claims_of (lanes ++ home ∷ others))
    → map lane_named (lanes ++ home ∷ others) ≡ named_in_order (length (claim_by home).sight.lanes)
    → found ≡ (r.is_open && is_some r.report.hello) → found ≡ true → RunsOf (claim_by home).sight r
runs_looked_at seats home lanes others r found is p covers complete named looks stands =
    let both = and_parts r.is_open (is_some r.report.hello) (sym looks ∙ stands) in
    runs_of home lanes others r (subst (λ (l : List (Seat Locked _)). Reported l r) is p)
    (covers (subst (λ (l : List (Seat Locked _)). HasAllSeats (claims_of l)) (sym is) complete)) both.0
    (some_is_there r.report.hello both.1) named

-- the first of a list, and the others
pub first_is : {A : Type 0} (xs : List A) (x : A) (ys : List A) → 0 < length xs → x ≡ slice_index_or xs 0 x → ys
    ≡ remove xs 0 → xs ≡ x ∷ ys
first_is [] x ys some is rest = absurd (omega (arith, some))
first_is (y ∷ xs) x ys some is rest = λ i. sym is i ∷ sym rest i

-- of the lanes and options that were passed in
pub runs_made : (lanes : List Lane) (options : SftpOptions) (first last : Sight) (r : SharedReport)
    → IsOf lanes options first → SameMade first last
    → RunsOf last r → RunsShared lanes options r
runs_made lanes options first last r is same h =
    subst (λ (x : List Lane × SftpOptions). RunsShared x.0 x.1 r) (λ i. ((same.0 ∙ is.0) i, (same.1 ∙ is.1) i)) h

-- a worker's last result, with the token of its seat then
pub works_of : {Service : Type 0}
    (Did : Result (Unit {0}) Error → WorkerState Service → WorkerState Service → Type 0) (r : Result (Unit {0}) Error)
    (a b : WorkerState Service) → WorkedUntilEnd Did r a b → WorksOverHalf Did r a.1 b.1
works_of Did (Ok u) a b h = (a.0, (b.0, h))
works_of Did (Err e) a b h = (a.0, (h.0, h.1))
