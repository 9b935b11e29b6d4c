-- The seats that ran or were given.
use Rattle.std.proofs.Common.{
  ◌≡◌,
  ◌<◌,
  Bool,
  true,
  false,
  ℕ,
  zero,
  suc,
  List,
  [],
  ◌∷◌,
  ◌++◌,
  None,
  Ok,
  Err,
  length,
  map,
  refl,
  sym,
  ap,
  ◌∙◌,
  subst,
  arith,
  rules,
}
use Rattle.std.specs.Prelude.{Option, Result, drop, slice_index_or, take}
use Rattle.atomic_table.specs.Seated.{TableId}
use Rattle.session_model.specs.declared.entry.Entry.{Entry}
use Rattle.session_seats.specs.declared.rule.Held.{Ghosts}
use Rattle.session_seats.specs.declared.seat.Seat.{Seat}
use Rattle.session_seats.specs.declared.view.Sight.{Sight}
use Rattle.session_seats.specs.Closes.{AllOf, claim_by, claims_of}
use Rattle.session_seats.specs.Covers.{HasAllSeats, HomeGave}
use Rattle.session_seats.specs.Holds.{AddsEntries, IsFresh, number_of, sight_by}
use Rattle.session_seats.specs.Sights.{StaysThere, own}
use Rattle.session_seats.specs.Rules.{home}
use Rattle.session_seats.specs.NewSeats.{Gives, GivesLane, HasNone}
use Rattle.session_seats.proofs.CoverLaws.{complete_of}
use Rattle.session_seats.proofs.GrowLaws.{grew_on, grew_weaker}
use Rattle.session_seats.proofs.HomeLaws.{AllGaveSame, grew_same, home_gives, home_goes_on}
use Rattle.session_seats.proofs.Lists.{stays_on}
use Rattle.session_seats.proofs.JoinLaws.{map-snoc}
use Rattle.sftp_link.specs.Views.{LinkView}
use Rattle.sftp_model.specs.declared.error.Error.{Error}
use Rattle.sftp_model.specs.declared.reply.Reply.{Reply}
use Rattle.sftp_tasks.specs.declared.locked.Locked.{Locked}
use Rattle.sftp_tasks.specs.Reported.{lane_named}
use Rattle.sftp_tasks.specs.Rounds.{Token}
use Rattle.sftp_tasks.specs.Sent.{SeesVersion}
use Rattle.sftp_tasks.specs.Shows.{shown_of}
use Rattle.sftp_tasks.specs.Workers.{WorkerState}
use Rattle.session_threads.specs.Running.{
  AllMadeNothing,
  AllRan,
  AllReady,
  HasGiven,
  HasRun,
  IsReady,
  IsWorker,
  MadeNothing,
  SameMade,
  StopsAfter,
  WorkedUntilEnd,
  moves_none,
}

-- any entry
abbrev pub anything : Entry → Bool
anything e = true

-- ---- seats that continued

module _ {G : Ghosts Locked} (test : Entry → Bool) (z : TableId) where
  pub ran_on : (a b c : Seat Locked G) → HasRun test z a b → HasRun test z b c → HasRun test z a c
  ran_on a b c p q =
      record {
        own = q.own;
        grew = grew_on test (claim_by a) (claim_by b) (claim_by c) p.grew q.grew;
        lane = q.lane
            ∙ p.lane;
      }

  pub ran_grew : (by : Entry → Bool) → ((e : Entry) → by e ≡ true → test e ≡ true) → (a b : Seat Locked G)
      → b.inner.table_id ≡ z
      → b.lane ≡ a.lane → AddsEntries by (claim_by a) (claim_by b) → HasRun test z a b
  ran_grew by f a b own lane h = record {
    own = own;
    grew = grew_weaker by test f (claim_by a) (claim_by b) h;
    lane =
        lane;
  }

pub ran_weaker : {G : Ghosts Locked} (by test : Entry → Bool) (z : TableId)
    → ((e : Entry) → by e ≡ true → test e ≡ true) → (a b : Seat Locked G)
    → HasRun by z a b → HasRun test z a b
ran_weaker by test z f a b h = record {
  own = h.own;
  grew = grew_weaker by test f (claim_by a) (claim_by b) h.grew;
  lane = h.lane;
}

-- a worker that ended, and gave the session up after an error
pub stopped_ran : {G : Ghosts Locked} (test : Entry → Bool) (z : TableId) (did : Result (Unit {0}) Error)
    (a b c : Seat Locked G) → ((e : Entry) → moves_none e ≡ true → test e ≡ true) → HasRun test z a b
    → StopsAfter did z b c → HasRun test z a c
stopped_ran test z (Ok u) a b c weaker ran same = subst (λ (s : Seat Locked _). HasRun test z a s) (sym same) ran
stopped_ran test z (Err e) a b c weaker ran stops =
    ran_on test z a b c ran (ran_weaker moves_none test z weaker b c stops.0)

pub stopped_works : {G : Ghosts Locked} {Service : Type 0}
    (Works : Result (Unit {0}) Error → WorkerState Service → WorkerState Service → Type 0) (z : TableId)
    (did r : Result (Unit {0}) Error) (m : Token) (b c : Seat Locked G) (v w : LinkView Service) → r ≡ did
    → Works did (m, v) (b.inner.me, w) → StopsAfter did z b c → WorkedUntilEnd Works r (m, v) (c.inner.me, w)
stopped_works Works z (Ok u) r m b c v w is works same =
    subst (λ (x : Result (Unit {0}) Error). WorkedUntilEnd Works x (m, v) (c.inner.me, w)) (sym is)
    (subst (λ (s : Seat Locked _). Works (Ok u) (m, v) (s.inner.me, w)) (sym same) works)
stopped_works Works z (Err e) r m b c v w is works stops =
    subst (λ (x : Result (Unit {0}) Error). WorkedUntilEnd Works x (m, v) (c.inner.me, w)) (sym is)
    (b.inner.me, works, stops.1)

pub ran_made : {G : Ghosts Locked} (test : Entry → Bool) (z : TableId) (a b : Seat Locked G) → HasRun test z a b
    → SameMade (claim_by a).sight (claim_by b).sight
ran_made test z a b h = (h.grew.later.lanes, h.grew.later.options)

module _ {G : Ghosts Locked} (z : TableId) where
  pub ready_at : (seats : List (Seat Locked G)) → AllReady z seats → (i : ℕ) (d : Seat Locked G) → i < length seats
      → IsReady z (slice_index_or seats i d)
  ready_at [] all i d less = absurd (omega (arith, less))
  ready_at (s ∷ ss) all zero d less = all.0
  ready_at (s ∷ ss) all (suc i) d less = ready_at ss all.1 i d (omega (arith, less))

  pub ready_is : (seats : List (Seat Locked G)) → AllReady z seats → (i : ℕ) (s : Seat Locked G) → i < length seats → s
      ≡ slice_index_or seats i s → IsReady z s
  ready_is seats all i s less is = subst (λ (x : Seat Locked G). IsReady z x) (sym is) (ready_at seats all i s less)

module _ {G : Ghosts Locked} (test : Entry → Bool) (z : TableId) where
  pub ran_all : (old new : List (Seat Locked G)) → length new ≡ length old
      → ((i : ℕ) (d : Seat Locked G) → i < length old → HasRun test z (slice_index_or old i d) (slice_index_or new i d))
      → AllRan test z old new
  ran_all [] [] long each = tt
  ran_all [] (t ∷ ts) long each = absurd (omega (arith, long))
  ran_all (s ∷ ss) [] long each = absurd (omega (arith, long))
  ran_all (s ∷ ss) (t ∷ ts) long each = (
    each 0 s (omega arith),
    ran_all ss ts (omega (arith, long)) (λ i d less. each (suc i) d (omega (arith, less))),
  )

  pub ran_of : (old new : List (Seat Locked G)) → AllRan test z old new → AllOf z new
  ran_of [] [] all = tt
  ran_of [] (t ∷ ts) all = absurd all
  ran_of (s ∷ ss) [] all = absurd all
  ran_of (s ∷ ss) (t ∷ ts) all = (all.0.own, ran_of ss ts all.1)

  pub ran_same : (old new : List (Seat Locked G)) → AllRan test z old new → AllGaveSame (claims_of old) (claims_of new)
  ran_same [] [] all = tt
  ran_same [] (t ∷ ts) all = absurd all
  ran_same (s ∷ ss) [] all = absurd all
  ran_same (s ∷ ss) (t ∷ ts) all = (grew_same test (claim_by s) (claim_by t) all.0.grew, ran_same ss ts all.1)

  pub ran_names : (old new : List (Seat Locked G)) → AllRan test z old new → map lane_named new ≡ map lane_named old
  ran_names [] [] all = refl
  ran_names [] (t ∷ ts) all = absurd all
  ran_names (s ∷ ss) [] all = absurd all
  ran_names (s ∷ ss) (t ∷ ts) all = λ i. all.0.lane i ∷ ran_names ss ts all.1 i

  pub ran_append : (old new : List (Seat Locked G)) (olds news : List (Seat Locked G)) → AllRan test z old new
      → AllRan test z olds news
      → AllRan test z (old ++ olds) (new ++ news)
  ran_append [] [] olds news all more = more
  ran_append [] (t ∷ ts) olds news all more = absurd all
  ran_append (s ∷ ss) [] olds news all more = absurd all
  ran_append (s ∷ ss) (t ∷ ts) olds news all more = (all.0, ran_append ss ts olds news all.1 more)

-- The items of a Vec whose slice was lent are those of the slice.
pub lent_items : {X : Type 0} (old new : List X) (n : ℕ) → n ≡ length old → length new ≡ length old
    → take n (new ++ drop (length new) old) ≡ new
lent_items [] [] zero n long = search rules
lent_items [] [] (suc n) is long = absurd (omega (arith, is))
lent_items [] (y ∷ ys) n is long = absurd (omega (arith, long))
lent_items (x ∷ xs) [] n is long = absurd (omega (arith, long))
lent_items (x ∷ xs) (y ∷ ys) zero is long = absurd (omega (arith, is))
lent_items (x ∷ xs) (y ∷ ys) (suc n) is long = λ i. y ∷ lent_items xs ys n (omega (arith, is)) (omega (arith, long)) i

-- if the home seat gave all others, none is missing, also after they ran
pub ran_complete : {G : Ghosts Locked} (test : Entry → Bool) (z : TableId) (home home' : Seat Locked G)
    (old new : List (Seat Locked G))
    → HasRun test z home home' → AllRan test z old new → HomeGave (claim_by home) (claims_of old)
    → HasAllSeats (claims_of (home' ∷ new))
ran_complete test z home home' old new ran all gave =
    complete_of (claim_by home') (claims_of new)
    (home_goes_on (claim_by home) (claim_by home') (claims_of old) (claims_of new)
    (grew_same test (claim_by home) (claim_by home') ran.grew)
    (ran_same test z old new all) gave)

-- ---- the seats that are given

-- a seat that has seen more, and made nothing more
gone_on : (m n : Token) (now : Sight) → number_of n ≡ number_of m → (sight_by n).log ≡ now.log
    → own (number_of m) now.log ≡ own (number_of m) (sight_by m).log
    → own (number_of n) (sight_by n).log ≡ own (number_of m) (sight_by m).log
gone_on m n now number log same = (λ i. own (number i) (log i)) ∙ same

ready_snoc : {G : Ghosts Locked} (z : TableId) (seats : List (Seat Locked G)) (s : Seat Locked G) → AllReady z seats
    → IsReady z s
    → AllReady z (seats ++ s ∷ [])
ready_snoc z [] s all one = (one, tt)
ready_snoc z (x ∷ xs) s all one = (all.0, ready_snoc z xs s all.1 one)

module _ {G : Ghosts Locked} (z : TableId) (home home' new : Seat Locked G) where
  -- the sight of a seat that was given
  gives_made : (names : Bool) → Gives shown_of names home.inner.me home'.inner.me new.inner.me
      → SameMade (claim_by home).sight (claim_by home').sight
  gives_made names g = (
    ap (λ (s : Sight). s.lanes) g.sight ∙ g.took.later.lanes,
    ap (λ (s : Sight). s.options) g.sight ∙ g.took.later.options,
  )

  -- a VERSION that was seen then stays, and nothing was added
  gives_version : (names : Bool) → Gives shown_of names home.inner.me home'.inner.me new.inner.me
      → StaysThere (claim_by home).sight.version (claim_by home').sight.version
  gives_version names g =
      subst (λ (v : Option Reply). StaysThere (claim_by home).sight.version v)
      (sym (ap (λ (s : Sight). s.version) g.sight)) g.took.later.version

  gives_added : (names : Bool) → Gives shown_of names home.inner.me home'.inner.me new.inner.me
      → own (claim_by home').number (claim_by home').sight.log ≡ own (claim_by home).number (claim_by home).sight.log
  gives_added names g = gone_on home.inner.me home'.inner.me g.now g.number (ap (λ (s : Sight). s.log) g.sight)
      g.took.made

  -- a worker's seat has seen it, too
  pub worker_sees : (hello : Reply) → Gives shown_of false home.inner.me home'.inner.me new.inner.me
      → IsFresh (claim_by new) None
      → new.inner.table_id ≡ z → SeesVersion hello (claim_by home).sight → IsWorker hello z new
  worker_sees hello g fresh own sees = record {
    own = own;
    sees = ap (λ (s : Sight). s.version) g.new_sight
        ∙ subst (λ (v : Option Reply). StaysThere v (claim_by home').sight.version) sees (gives_version false g);
    new = fresh.made;
  }

  -- a lane's seat was given
  pub seat_given : home'.inner.table_id ≡ home.inner.table_id → home'.lane ≡ home.lane
      → GivesLane shown_of new.lane home.inner.me home'.inner.me new.inner.me → IsReady z home → HasGiven z home home'
  seat_given own lane g ready =
      let some = ready.share in
      let share = g.gives.share in
      record {
        ready = record { own = own ∙ ready.own; share = omega (arith, some, share) };
        made = gives_made true g.gives;
        version = gives_version true g.gives;
        added = gives_added true g.gives;
        lane = lane;
      }

  -- another lane's seat
  pub lane_given : (seats : List (Seat Locked G)) → home'.inner.table_id ≡ home.inner.table_id → new.inner.table_id
      ≡ home.inner.table_id
      → home'.lane ≡ home.lane → GivesLane shown_of new.lane home.inner.me home'.inner.me new.inner.me → IsReady z home
      → AllReady z seats × HomeGave (claim_by home) (claims_of seats)
      → HasGiven z home home' × (AllReady z (seats ++ new ∷ [])
      × HomeGave (claim_by home') (claims_of (seats ++ new ∷ [])))
  lane_given seats own own-new lane g ready h =
      let one = g.gives.new_share in (
        seat_given own lane g ready,
        (
          ready_snoc z seats new h.0 record { own = own-new ∙ ready.own; share = omega (arith, one) },
          subst (HomeGave (claim_by home')) (sym (map-snoc claim_by seats new))
              (home_gives shown_of true home.inner.me home'.inner.me new.inner.me new.lane (claims_of seats) g.gives
              g.fresh h.1),
        ),
      )

  -- another worker's seat
  pub worker_given : (seats : List (Seat Locked G)) → home'.inner.table_id ≡ home.inner.table_id → home'.lane
      ≡ home.lane
      → Gives shown_of false home.inner.me home'.inner.me new.inner.me → IsFresh (claim_by new) None → IsReady z home
      → HomeGave (claim_by home) (claims_of seats)
      → HasGiven z home home' × HomeGave (claim_by home') (claims_of (seats ++ new ∷ []))
  worker_given seats own lane g fresh ready h =
      let some = ready.share in
      let share = g.share in (
        record {
          ready = record { own = own ∙ ready.own; share = omega (arith, some, share) };
          made =
              gives_made false g;
          version = gives_version false g;
          added = gives_added false g;
          lane = lane;
        },
        subst (HomeGave (claim_by home')) (sym (map-snoc claim_by seats new))
            (home_gives shown_of false home.inner.me home'.inner.me new.inner.me None (claims_of seats) g fresh h),
      )

  -- a seat that none was given
  pub none_given : home'.inner.table_id ≡ home.inner.table_id → home'.lane ≡ home.lane
      → HasNone shown_of home.inner.me home'.inner.me → IsReady z home → HasGiven z home home'
  none_given own lane n ready =
      let some = ready.share in
      let share = n.looks.share in
      record {
        ready = record { own = own ∙ ready.own; share = omega (arith, some, share) };
        made = (
          ap (λ (s : Sight). s.lanes) n.looks.sight ∙ n.looks.took.later.lanes,
          ap (λ (s : Sight). s.options) n.looks.sight ∙ n.looks.took.later.options,
        );
        version = subst (λ (v : Option Reply). StaysThere (claim_by home).sight.version v)
            (sym (ap (λ (s : Sight). s.version) n.looks.sight))
            n.looks.took.later.version;
        added = gone_on home.inner.me home'.inner.me n.looks.now n.looks.number
            (ap (λ (s : Sight). s.log) n.looks.sight) n.looks.took.made;
        lane = lane;
      }

pub given_on : {G : Ghosts Locked} (z : TableId) (a b c : Seat Locked G) → HasGiven z a b → HasGiven z b c
    → HasGiven z a c
given_on z a b c p q = record {
  ready = q.ready;
  made = (q.made.0 ∙ p.made.0, q.made.1 ∙ p.made.1);
  version = stays_on (claim_by a).sight.version (claim_by b).sight.version (claim_by c).sight.version p.version
      q.version;
  added = q.added ∙ p.added;
  lane = q.lane ∙ p.lane;
}

pub made_snoc : {G : Ghosts Locked} (seats : List (Seat Locked G)) (s : Seat Locked G) → AllMadeNothing seats
    → MadeNothing s → AllMadeNothing (seats ++ s ∷ [])
made_snoc [] s all one = (one, tt)
made_snoc (x ∷ xs) s all one = (all.0, made_snoc xs s all.1 one)
