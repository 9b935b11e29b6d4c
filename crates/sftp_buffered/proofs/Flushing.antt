-- What settling the oldest statuses leaves, and the plan of a flush.
use Rattle.std.proofs.Common.{
  ◌≡◌,
  ◌-◌,
  ◌∙◌,
  refl,
  sym,
  ap,
  subst,
  ℕ,
  Bool,
  true,
  false,
  List,
  [],
  ◌∷◌,
  Option,
  Some,
  None,
  Result,
  Ok,
  Err,
  inl,
  drop,
  if◌then◌else◌,
  slice_get,
}
use Rattle.std.specs.Prelude.{not}
use Rattle.sftp_model.specs.declared.error.Error.{Error}
use Rattle.sftp_model.specs.declared.error.Error.TheVariants as error
use Rattle.sftp_model.specs.declared.error.Fault.{Fault}
use Rattle.sftp_model.specs.declared.error.IoKind.TheVariants as kind
use Rattle.sftp_model.specs.declared.outcome.Outcome.TheVariants as outcome
use Rattle.sftp_model.specs.declared.slot.Buffer.{Buffer}
use Rattle.sftp_model.specs.declared.slot.FileAt.{FileAt}
use Rattle.sftp_model.specs.declared.slot.Move.{Move}
use Rattle.sftp_model.specs.declared.slot.Move.TheVariants.{Wait}
use Rattle.sftp_model.specs.declared.slot.Site.{Site}
use Rattle.plan_model.specs.Moves.{Answers, on_status, once_answered, refuse_locally}
use Rattle.plan_model.specs.BufferPlans.{flush_next, is_good, unflushed_writes, with_deferred}
use Rattle.sftp_core.specs.declared.id_record.IdRecord.{IdRecord}
use Rattle.sftp_core.specs.declared.id_record.IdRecord.TheVariants.{Waiting, Answered, Granted}
use Rattle.sftp_core.specs.Core.{Core, after_poll, record_at, given_leaves, poll_leaves, reply_in}
use Rattle.sftp_core.specs.Table.{handle_in_reply}
use Rattle.sftp_core.proofs.Elsewhere.{poll_elsewhere}
use Rattle.plan_state.specs.Calls.{IsUnfinished}
use Rattle.plan_state.specs.declared.poll.Poll.{Poll}
use Rattle.plan_state.specs.declared.poll.Poll.TheVariants as poll
use Rattle.sftp_file.specs.Files.{file_at}
use Rattle.sftp_buffered.specs.declared.file.DeferredWrite.{DeferredWrite}
use Rattle.sftp_buffered.specs.declared.file.ReadUnderWay.{ReadUnderWay}
use Rattle.sftp_buffered.specs.Buffered.{
  AreApart,
  AreHeld,
  AreTold,
  CompatValue,
  DefersWrites,
  IsApart,
  IsHeldRead,
  IsSound,
  IsTold,
  LeavesOthers,
  buffer_of,
  lane_of,
  writes_of,
}
use Rattle.sftp_buffered.specs.Flushes.{FlushesTo, IsFlushed, SettlesWrites, flush_plan, unsettled_writes, with_writes}
use Rattle.sftp_buffered.specs.Polls.{AnyCut, PollsPlan, PlanWaits}
use Rattle.sftp_buffered.specs.Steps.{AreTaken, IsLeft, IsRestOf, LooksAtOldest, WasRefused, oldest_len, oldest_polled, oldest_reply, without_oldest}
use Rattle.sftp_buffered.proofs.Resting.{others_taken, rest_at, rest_by, rest_same, taken_more, taken_none}
use Rattle.sftp_buffered.proofs.Holding.{other_kind}
use Rattle.sftp_buffered.proofs.Others.{others_both, others_left, others_looked, others_oldest, others_same}
use Rattle.sftp_buffered.proofs.Planning.{bad_ends, good_goes, missing_waits}
use Rattle.sftp_buffered.proofs.WritePolls.{status_memory}
use Rattle.sftp_buffered.proofs.Sound.{sound_left, sound_looked, sound_taken}

-- ---- a poll of the oldest status changes no other reply

given_fault : (core : Core) (t : ℕ) (b : Option (List ℕ)) → (given_leaves core t b).fault ≡ core.fault
given_fault core t (Some handle) = refl
given_fault core t None = refl

poll_fault : (core : Core) (t : ℕ) (f : Option Fault) (p : Option IdRecord) → (poll_leaves core t f p).fault
    ≡ core.fault
poll_fault core t f (Some (Answered e r)) = given_fault core t (handle_in_reply r)
poll_fault core t (Some f) (Some (Waiting e s w)) = refl
poll_fault core t None (Some (Waiting e s w)) = refl
poll_fault core t f (Some (Granted handle users)) = refl
poll_fault core t f None = refl

oldest_fault : (core : Core) (ds : List DeferredWrite) → (oldest_polled core ds).fault ≡ core.fault
oldest_fault core [] = refl
oldest_fault core (d ∷ ds) = poll_fault core d.ticket core.fault (record_at core d.ticket)

unsettled_apart : (old new : Core) (t : ℕ) (ds : List DeferredWrite)
    → ((q : ℕ) → (q ≡ t → ⊥) → record_at new q ≡ record_at old q)
    → AreApart t ds → unsettled_writes new ds ≡ unsettled_writes old ds
unsettled_apart old new t [] same apart = refl
unsettled_apart old new t (d ∷ ds) same apart =
    (λ i. if is_good (reply_in (same d.ticket (λ e. apart.0 (sym e)) i)) then
    unsettled_apart old new t ds same apart.1 i else d ∷ ds)

-- what is unsettled without the oldest, which is good
unsettled_less : (core : Core) (ds : List DeferredWrite) → AreHeld core ds → is_good (oldest_reply core ds) ≡ true
    → unsettled_writes (oldest_polled core ds) (drop 1 ds) ≡ unsettled_writes core ds
unsettled_less core [] held good = absurd cc
unsettled_less core (d ∷ ds) held good =
    unsettled_apart core (after_poll core d.ticket) d.ticket ds
    (λ q. poll_elsewhere core d.ticket core.fault (record_at core d.ticket) q) held.1
    ∙ sym (λ i. if good i then unsettled_writes core ds else d ∷ ds)

told_apart : (old new : Core) (answers : Answers) (t : ℕ) (ds : List DeferredWrite)
    → ((q : ℕ) → (q ≡ t → ⊥) → record_at new q ≡ record_at old q) → AreApart t ds → AreTold old answers ds
    → AreTold new answers ds
told_apart old new answers t [] same apart told = tt
told_apart old new answers t (d ∷ ds) same apart told = (
  told.0 ∙ ap reply_in (sym (same d.ticket (λ e. apart.0 (sym e)))),
  told_apart old new answers t ds same apart.1 told.1,
)

told_less : (core : Core) (answers : Answers) (ds : List DeferredWrite) → AreHeld core ds → AreTold core answers ds
    → AreTold (oldest_polled core ds) answers (drop 1 ds)
told_less core answers [] held told = tt
told_less core answers (d ∷ ds) held told =
    told_apart core (after_poll core d.ticket) answers d.ticket ds
    (λ q. poll_elsewhere core d.ticket core.fault (record_at core d.ticket) q) held.1 told.1

read_told_less : (core : Core) (answers : Answers) (ds : List DeferredWrite) (r : Option ReadUnderWay) → AreHeld core ds
    → IsHeldRead core r → IsTold core answers r → IsTold (oldest_polled core ds) answers r
read_told_less core answers ds None held read told = tt
read_told_less core answers [] (Some r) held read told = told
read_told_less core answers (d ∷ ds) (Some r) held read told =
    told ∙ ap reply_in (sym (poll_elsewhere core d.ticket core.fault (record_at core d.ticket) r.ticket
    (other_kind core r.ticket d.ticket r.len read held.0)))

pub defers_less : (core : Core) (c : CompatValue) (answers : Answers) → IsSound core c → DefersWrites core c answers
    → DefersWrites (oldest_polled core c.deferred) (without_oldest c) answers
defers_less core c answers s d =
    record {
      brought = d.brought;
      writes = told_less core answers c.deferred s.held.writes d.writes;
      read = read_told_less core answers c.deferred c.reading s.held.writes s.held.read d.read;
    }

-- ---- the statuses that were settled so far

pub record SettlesSoFar (old : Core) (p : CompatValue) (core : Core) (c : CompatValue) : Type 0 where
  pub unsettled : unsettled_writes core c.deferred ≡ unsettled_writes old p.deferred
  pub rest : AreTaken old core p c
  pub same : c ≡ record p { deferred = c.deferred; pending = c.pending }
  pub told : (answers : Answers) → DefersWrites old p answers → DefersWrites core c answers
  pub fault : core.fault ≡ old.fault
  pub sound : IsSound core c
  pub apart : (ticket : ℕ) → IsApart ticket p → IsApart ticket c
  pub others : LeavesOthers old core p

pub settles_none : (core : Core) (c : CompatValue) → IsSound core c → SettlesSoFar core c core c
settles_none core c s =
    record {
      unsettled = refl;
      rest = taken_none core c;
      same = refl;
      told = λ answers d. d;
      fault = refl;
      sound = s;
      apart = λ ticket apart. apart;
      others = others_same core c;
    }

apart_less : (ticket : ℕ) (ds : List DeferredWrite) → AreApart ticket ds → AreApart ticket (drop 1 ds)
apart_less ticket [] apart = tt
apart_less ticket (d ∷ ds) apart = apart.1

settles_more : (old : Core) (p : CompatValue) (core : Core) (c : CompatValue) → SettlesSoFar old p core c
    → is_good (oldest_reply core c.deferred) ≡ true
    → SettlesSoFar old p (oldest_polled core c.deferred) (without_oldest c)
settles_more old p core c s good =
    record {
      unsettled = unsettled_less core c.deferred s.sound.held.writes good ∙ s.unsettled;
      rest = taken_more old core p c s.rest;
      same = ap (λ (x : CompatValue). record x {
        deferred = drop 1 c.deferred;
        pending =
            c.pending - oldest_len c.deferred;
      }) s.same;
      told = λ answers d. defers_less core c answers s.sound (s.told answers d);
      fault = oldest_fault core c.deferred ∙ s.fault;
      sound = sound_taken core c s.sound;
      apart = λ ticket apart. record {
        writes = apart_less ticket c.deferred (s.apart ticket apart).writes;
        read =
            (s.apart ticket apart).read;
      };
      others = others_both old core (oldest_polled core c.deferred) p s.others
          (others_oldest core c.deferred p (λ t apart. (s.apart t apart).writes) s.sound.held.writes);
    }

pub settles_on : (old : Core) (p : CompatValue) (core next : Core) (c d : CompatValue) → SettlesSoFar old p core c
    → is_good (oldest_reply core c.deferred) ≡ true → next ≡ oldest_polled core c.deferred → d ≡ without_oldest c
    → SettlesSoFar old p next d
settles_on old p core next c d s good is same =
    subst (λ (x : CompatValue). SettlesSoFar old p next x) (sym same)
    (subst (λ (x : Core). SettlesSoFar old p x (without_oldest c)) (sym is) (settles_more old p core c s good))

-- ---- all that can be settled is

unsettled_all : (core : Core) (ds : List DeferredWrite) → is_good (oldest_reply core ds) ≡ false
    → unsettled_writes core ds ≡ ds
unsettled_all core [] bad = refl
unsettled_all core (d ∷ ds) bad = (λ i. if bad i then unsettled_writes core ds else d ∷ ds)

-- as the plan has it
unflushed_is : (core : Core) (answers : Answers) (ds : List DeferredWrite) → AreTold core answers ds
    → unflushed_writes answers (writes_of ds) ≡ writes_of (unsettled_writes core ds)
unflushed_is core answers [] told = refl
unflushed_is core answers (d ∷ ds) told =
    (λ i. if is_good (told.0 i) then unflushed_is core answers ds told.1 i else writes_of (d ∷ ds))
    ∙ either (is_good (reply_in (record_at core d.ticket)))
  where
    either : (b : Bool) → (if b then writes_of (unsettled_writes core ds) else writes_of (d ∷ ds))
        ≡ writes_of (if b then unsettled_writes core ds else d ∷ ds)
    either true = refl
    either false = refl

settled_is : (old : Core) (p : CompatValue) (core : Core) (c : CompatValue) → SettlesSoFar old p core c
    → is_good (oldest_reply core c.deferred) ≡ false → c.deferred ≡ unsettled_writes old p.deferred
settled_is old p core c s bad = sym (unsettled_all core c.deferred bad) ∙ s.unsettled

settled_left : (old : Core) (p : CompatValue) (core : Core) (c : CompatValue) → SettlesSoFar old p core c
    → is_good (oldest_reply core c.deferred) ≡ false → c ≡ with_writes p (unsettled_writes old p.deferred)
settled_left old p core c s bad =
    s.same ∙ (ap (λ (n : ℕ). record p { deferred = c.deferred; pending = n }) s.sound.counted.pending
    ∙ ap (λ (ds : List DeferredWrite). with_writes p ds) (settled_is old p core c s bad))

pub settles_all : (old : Core) (p : CompatValue) (core : Core) (c : CompatValue) → SettlesSoFar old p core c
    → is_good (oldest_reply core c.deferred) ≡ false → SettlesWrites old core p c
settles_all old p core c s bad =
    let left : c ≡ with_writes p (unsettled_writes old p.deferred) = settled_left old p core c s bad in
    record {
      left = left;
      rest = s.rest;
      lane = λ answers d. ap lane_of left ∙ ap (λ (ws : List (ℕ × ℕ)). with_deferred 0 (file_at p.file) (buffer_of p)
          (lane_of p) ws) (sym (unflushed_is old answers p.deferred d.writes));
      told = s.told;
      fault = s.fault;
      first = bad;
      sound = s.sound;
      others = s.others;
    }

-- ---- the plan of a flush

-- behind the good statuses it looks at the rest
flushing_rest : (core : Core) (file : FileAt) (buffer : Buffer) (site : List (ℕ × ℕ) → Site) (answers : Answers)
    (ds : List DeferredWrite) → ((xs ys : List (ℕ × ℕ)) → with_deferred 0 file buffer (site xs) ys ≡ site ys)
    → AreTold core answers ds
    → flush_next 0 file buffer (site (writes_of ds)) answers (writes_of ds)
    ≡ flush_next 0 file buffer (site (writes_of (unsettled_writes core ds))) answers
    (writes_of (unsettled_writes core ds))
flushing_rest core file buffer site answers [] moves told = refl
flushing_rest core file buffer site answers (d ∷ ds) moves told =
    by_oldest (is_good (reply_in (record_at core d.ticket))) refl
    (flushing_rest core file buffer site answers ds moves told.1)
  where
    by_oldest : (b : Bool) → is_good (reply_in (record_at core d.ticket)) ≡ b
        → flush_next 0 file buffer (site (writes_of ds)) answers (writes_of ds)
        ≡ flush_next 0 file buffer (site (writes_of (unsettled_writes core ds))) answers
        (writes_of (unsettled_writes core ds))
        → flush_next 0 file buffer (site (writes_of (d ∷ ds))) answers (writes_of (d ∷ ds))
        ≡ flush_next 0 file buffer (site (writes_of (if b then unsettled_writes core ds else d ∷ ds))) answers
        (writes_of (if b then unsettled_writes core ds else d ∷ ds))
    by_oldest true good later =
        good_goes (answers d.place) d.place (with_deferred 0 file buffer (site (writes_of (d ∷ ds))) (writes_of ds))
        (flush_next 0 file buffer (with_deferred 0 file buffer (site (writes_of (d ∷ ds))) (writes_of ds)) answers
        (writes_of ds)) (ap is_good told.0 ∙ good)
        ∙ (ap (λ (x : Site). flush_next 0 file buffer x answers (writes_of ds))
        (moves (writes_of (d ∷ ds)) (writes_of ds)) ∙ later)
    by_oldest false bad later = refl

flush_rest : (core : Core) (p : CompatValue) (answers : Answers) → AreTold core answers p.deferred
    → flush_next 0 (file_at p.file) (buffer_of p) (lane_of p) answers (writes_of p.deferred)
    ≡ flush_next 0 (file_at p.file) (buffer_of p) (lane_of (with_writes p (unsettled_writes core p.deferred))) answers
    (writes_of (unsettled_writes core p.deferred))
flush_rest core p answers told =
    flushing_rest core (file_at p.file) (buffer_of p) (λ ws. with_deferred 0 (file_at p.file) (buffer_of p) (lane_of p)
    ws) answers p.deferred (λ xs ys. refl) told

writable_flush : (core : Core) (p : CompatValue) (answers : Answers) → p.file.writable ≡ true
    → flush_plan core p [] answers ≡ flush_next 0 (file_at p.file) (buffer_of p) (lane_of p) answers
    (writes_of p.deferred)
writable_flush core p answers may = (λ i. if not (may i) then refuse_locally kind.NotWritable (lane_of p) else
    flush_next 0 (file_at p.file) (buffer_of p) (lane_of p) answers (writes_of p.deferred))

-- the plan of the start, as it looks at what is left
plan_at : (old new : Core) (p q : CompatValue) (answers : Answers) → p.file.writable ≡ true → SettlesWrites old new p q
    → DefersWrites old p answers
    → flush_plan old p [] answers ≡ flush_next 0 (file_at p.file) (buffer_of p) (lane_of q) answers
    (writes_of q.deferred)
plan_at old new p q answers may s d =
    writable_flush old p answers may ∙ (flush_rest old p answers d.writes
    ∙ ap (λ (x : CompatValue). flush_next 0 (file_at p.file) (buffer_of p) (lane_of x) answers (writes_of x.deferred))
    (sym s.left))

-- the oldest status that is left decides
without_is : (p r : CompatValue) (us ds : List DeferredWrite) (d : DeferredWrite) → r ≡ with_writes p us → r.deferred
    ≡ d ∷ ds
    → with_deferred 0 (file_at p.file) (buffer_of p) (lane_of r) (writes_of ds) ≡ lane_of (without_oldest r)
without_is p r us ds d left is =
    sym (ap (λ (x : CompatValue). lane_of (record x { deferred = drop 1 r.deferred })) left
    ∙ ap (λ (xs : List DeferredWrite). lane_of (record p { deferred = drop 1 xs })) is)

abbrev pub left_over : (p r : CompatValue) (answers : Answers) (ds : List DeferredWrite) → Move
left_over p r answers ds = flush_next 0 (file_at p.file) (buffer_of p)
    (with_deferred 0 (file_at p.file) (buffer_of p) (lane_of r) (writes_of ds)) answers (writes_of ds)

plan_here : (old mid : Core) (p r : CompatValue) (answers : Answers) (d : DeferredWrite) (ds : List DeferredWrite)
    → p.file.writable ≡ true → SettlesWrites old mid p r → DefersWrites old p answers → r.deferred ≡ d ∷ ds
    → flush_plan old p [] answers ≡ once_answered d.place (oldest_reply mid r.deferred)
    (λ x. on_status x (lane_of (without_oldest r)) (left_over p r answers ds))
plan_here old mid p r answers d ds may s deferred is =
    let told : AreTold mid answers (d ∷ ds) = subst (λ (xs : List DeferredWrite). AreTold mid answers xs) is
    (s.told answers deferred).writes in
    plan_at old mid p r answers may s deferred
    ∙ (ap (λ (xs : List DeferredWrite). flush_next 0 (file_at p.file) (buffer_of p) (lane_of r) answers (writes_of xs))
    is
    ∙ ((λ i. once_answered d.place (told.0 i) (λ x. on_status x
    (without_is p r (unsettled_writes old p.deferred) ds d s.left is i) (left_over p r answers ds)))
    ∙ ap (λ (xs : List DeferredWrite). once_answered d.place (oldest_reply mid xs)
    (λ x. on_status x (lane_of (without_oldest r)) (left_over p r answers ds))) (sym is)))

-- ---- the poll

-- what was settled, with the READ as it was
rest_settled : (old mid : Core) (p r : CompatValue) → SettlesWrites old mid p r → IsRestOf old mid p r
rest_settled old mid p r s =
    rest_by old mid p r s.rest (ap (λ (x : CompatValue). x.reading) s.left) (ap (λ (x : CompatValue). x.place) s.left)
    (ap (λ (x : CompatValue). x.capacity) s.left)

left_flushed : (old mid new : Core) (p r q : CompatValue) (answers : Answers) → SettlesWrites old mid p r
    → IsLeft mid new r q
    → DefersWrites old p answers → IsFlushed old new p q answers
left_flushed old mid new p r q answers s l d =
    record {
      lane = ap lane_of l.same ∙ s.lane answers d;
      rest =
          rest_at old mid new p r q (rest_settled old mid p r s) l.core l.same;
    }

-- and a refusal behind it
rest_refused : (old mid new : Core) (p r q : CompatValue) (e : Error) → SettlesWrites old mid p r
    → WasRefused mid new r q e → IsRestOf old new p q
rest_refused old mid new p r q e s w =
    rest_at old (oldest_polled mid r.deferred) new p (without_oldest r) q
    (rest_by old (oldest_polled mid r.deferred) p (without_oldest r) (taken_more old mid p r s.rest)
    (ap (λ (x : CompatValue). x.reading) s.left)
    (ap (λ (x : CompatValue). x.place) s.left) (ap (λ (x : CompatValue). x.capacity) s.left)) w.core w.left

unfinished_wait : (m : Move) (place : ℕ) → m ≡ Wait place → IsUnfinished m
unfinished_wait m place e = subst IsUnfinished (sym e) tt

flush_polls : (old mid new : Core) (p r q : CompatValue) (d : DeferredWrite) (ds : List DeferredWrite)
    (result : Poll (Result (Unit {0}) Error)) → p.file.writable ≡ true → SettlesWrites old mid p r → r.deferred ≡ d ∷ ds
    → LooksAtOldest mid new r q result → (answers : Answers) → DefersWrites old p answers
    → PollsPlan (PlanWaits (flush_plan old p) answers old (IsFlushed old new p q answers))
    (IsFlushed old new p q answers) AnyCut
    (flush_plan old p) (λ u. outcome.Done) answers old new p q result
flush_polls old mid new p r q d ds poll.Pending may s is l answers told =
    record {
      place = d.place;
      waits = plan_here old mid p r answers d ds may s told is ∙ missing_waits (oldest_reply mid r.deferred) d.place _
          l.0;
      unfailed = sym s.fault ∙ l.1;
      left = left_flushed old mid new p r q answers s l.2 told;
    }
flush_polls old mid new p r q d ds (poll.Ready (Ok u)) may s is l answers told =
    absurd (let first : is_good (oldest_reply mid r.deferred) ≡ false = s.first in
    let good : is_good (oldest_reply mid r.deferred) ≡ true = l.0 in cc)
flush_polls old mid new p r q d ds (poll.Ready (Err (error.BackgroundTaskFailure fault))) may s is l answers told = (
  sym s.fault ∙ l.1,
  unfinished_wait _ d.place (plan_here old mid p r answers d ds may s told is
      ∙ missing_waits (oldest_reply mid r.deferred) d.place _ l.0),
  left_flushed old mid new p r q answers s l.2 told,
)
flush_polls old mid new p r q d ds (poll.Ready (Err error.OutOfMemory)) may s is l answers told =
    absurd (status_memory l.reply l.refuses)
flush_polls old mid new p r q d ds (poll.Ready (Err e)) may s is l answers told =
    record {
      ends = plan_here old mid p r answers d ds may s told is ∙ bad_ends mid new r q d.place (left_over p r answers ds)
          e l;
      rest = rest_refused old mid new p r q e s l;
    }

flush_memory : (old new : Core) (p q : CompatValue) (result : Poll (Result (Unit {0}) Error))
    → LooksAtOldest old new p q result → result ≡ poll.Ready (Err error.OutOfMemory) → ⊥
flush_memory old new p q result l is = (let w : WasRefused old new p q error.OutOfMemory =
    subst (LooksAtOldest old new p q) is l in status_memory w.reply w.refuses)

flush_sound : (old new : Core) (p q : CompatValue) (result : Poll (Result (Unit {0}) Error))
    → LooksAtOldest old new p q result → IsSound old p → IsSound new q
flush_sound old new p q poll.Pending l s = sound_left old new p q l.2 s
flush_sound old new p q (poll.Ready (Ok u)) l s = sound_left old new p q l.1 s
flush_sound old new p q (poll.Ready (Err e)) l s = sound_looked old new p q e l s

flush_others : (old new : Core) (p q : CompatValue) (result : Poll (Result (Unit {0}) Error))
    → LooksAtOldest old new p q result → IsSound old p → LeavesOthers old new p
flush_others old new p q poll.Pending l s = others_left old new p l.2.core
flush_others old new p q (poll.Ready (Ok u)) l s = others_left old new p l.1.core
flush_others old new p q (poll.Ready (Err e)) l s = others_looked old new p q e l s

flushes_at : (old mid new : Core) (p r q : CompatValue) (ds : List DeferredWrite)
    (result : Poll (Result (Unit {0}) Error)) → p.file.writable ≡ true → SettlesWrites old mid p r → r.deferred ≡ ds
    → (slice_get ds 0 ≡ None → ⊥)
    → LooksAtOldest mid new r q result → FlushesTo old new p q result
flushes_at old mid new p r q [] result may s is some l = absurd (some refl)
flushes_at old mid new p r q (d ∷ ds) result may s is some l =
    record {
      polled = flush_polls old mid new p r q d ds result may s is l;
      memory = flush_memory mid new r q result l;
      sound = flush_sound mid new r q result l s.sound;
      others = others_both old mid new p s.others (others_taken old mid new p r s.rest
          (ap (λ (x : CompatValue). x.reading) s.left) (flush_others mid new r q result l s.sound));
    }

-- a status is left, which the look answered
pub flushes : (old mid new : Core) (p r q : CompatValue) (result : Poll (Result (Unit {0}) Error)) → p.file.writable
    ≡ true → SettlesWrites old mid p r → (slice_get r.deferred 0 ≡ None → ⊥) → LooksAtOldest mid new r q result
    → FlushesTo old new p q result
flushes old mid new p r q result may s some l = flushes_at old mid new p r q r.deferred result may s refl some l

none_left : (ds : List DeferredWrite) → slice_get ds 0 ≡ None → ds ≡ []
none_left [] none = refl
none_left (d ∷ ds) none = absurd cc

-- none is left
pub flushes_all : (old new : Core) (p q : CompatValue) → p.file.writable ≡ true → SettlesWrites old new p q
    → slice_get q.deferred 0 ≡ None → FlushesTo old new p q (poll.Ready (Ok tt))
flushes_all old new p q may s none =
    record {
      polled = λ answers d. inl (record {
        ends = plan_at old new p q answers may s d ∙ ap (λ (xs : List DeferredWrite). flush_next 0 (file_at p.file)
            (buffer_of p) (lane_of q) answers (writes_of xs)) (none_left q.deferred none);
        rest = rest_settled old new p q s;
      });
      memory = λ is. cc;
      sound = s.sound;
      others = s.others;
    }

pub unwritable_flushes : (core : Core) (c : CompatValue) → c.file.writable ≡ false → IsSound core c
    → FlushesTo core core c c (poll.Ready (Err (error.IOError kind.NotWritable)))
unwritable_flushes core c not_so s =
    record {
      polled = λ answers d. record {
        ends = (λ i. if not (not_so i) then refuse_locally kind.NotWritable (lane_of c) else
            flush_next 0 (file_at c.file) (buffer_of c) (lane_of c) answers (writes_of c.deferred));
        rest = rest_same core c;
      };
      memory = λ is. cc;
      sound = s;
      others = others_same core c;
    }
