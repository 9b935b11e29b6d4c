-- The journal of a run that a fault stopped.
use Rattle.std.proofs.Common.{◌≡◌, ◌∙◌, ◌⊎◌, ℕ, List, ◌∷◌, [], ◌++◌, append-nil, ap, sym, subst, inl, inr, Err, Some, None}
use Rattle.std.specs.Prelude.{◌≢◌, Option, Result}
use Rattle.atomic_table.specs.Seated.{TableId}
use Rattle.plan_model.specs.declared.call.Lane.{Lane}
use Rattle.session_model.specs.declared.entry.Entry.{Entry}
use Rattle.session_model.specs.declared.entry.Entry.TheVariants as entry
use Rattle.session_model.specs.Calls.{Setting}
use Rattle.session_model.specs.Journals.{IsJournal}
use Rattle.session_seats.specs.declared.rule.Held.{Ghosts}
use Rattle.session_seats.specs.declared.seat.Seat.{Seat}
use Rattle.session_seats.specs.Closes.{claim_by, claims_of}
use Rattle.session_seats.specs.Covers.{HasAllSeats}
use Rattle.session_seats.specs.Holds.{claim_of, sight_by}
use Rattle.session_seats.specs.Rules.{ToldClaim}
use Rattle.session_seats.specs.Sights.{entries}
use Rattle.session_seats.proofs.GrowLaws.{grew_none}
use Rattle.sftp_lanes.specs.Seen.{setting_by}
use Rattle.sftp_link.specs.Told.{IfLogged}
use Rattle.sftp_link.specs.Views.{LinkView}
use Rattle.sftp_model.specs.declared.error.Error.{Error}
use Rattle.sftp_model.specs.declared.error.Error.TheVariants as error
use Rattle.sftp_model.specs.declared.error.Fault.{Fault}
use Rattle.sftp_model.specs.declared.options.SftpOptions.{SftpOptions}
use Rattle.sftp_model.specs.declared.reply.Reply.{Reply}
use Rattle.sftp_tasks.specs.declared.locked.Locked.{Locked}
use Rattle.sftp_tasks.specs.Opening.{GreetStops}
use Rattle.sftp_tasks.specs.Reported.{EndedByFault}
use Rattle.sftp_tasks.specs.Rounds.{Token, fault_for}
use Rattle.sftp_tasks.specs.Sent.{GotUnless, SentUnless, sent_bytes, taken_replies}
use Rattle.sftp_tasks.specs.Workers.{FlushWorks, ReadWorks}
use Rattle.session_threads.specs.Failures.{FaultEnds, GotThenWhy, StopsJournal}
use Rattle.session_threads.specs.Reports.{IsCause, IsFirstFault, OpeningStops, WorkersStop}
use Rattle.session_threads.specs.Running.{AllMadeNothing, AllRan, HasRun, IsOf, IsWorker, MovedNothing, WorkedUntilEnd, adds_nothing, moves_none, sends_none, takes_none}
use Rattle.session_threads.proofs.FaultLaws.{KeepsOwn, flush_works_own, greet_own, own_first, own_sees}
use Rattle.session_threads.proofs.HalfLaws.{all_taken, half_got, half_sent, last_three, seen_first, still_taken}
use Rattle.session_threads.proofs.KeptLaws.{kept_last}
use Rattle.session_threads.proofs.RunReports.{works_of}
use Rattle.session_threads.proofs.WhyLaws.{reads_until}

-- the last hold of a seat, in which the session recorded its error's fault after this journal
record HasKept (e : Error) (last : Token) (now : List Entry) : Type 0 where
  pub past : List Entry
  pub keeps : KeepsOwn e last past
  pub more : List Entry
  pub seen : now ≡ more ++ entries (sight_by last).log

-- that fault ends the journal
kept_ends : (s : Setting) (e : Error) (last : Token) (now before : List Entry) (fault : Fault) → (h : HasKept e last now)
    → IsJournal s now → now ≡ entry.Kept fault ∷ before → (fault ≡ h.keeps.fault) × (before ≡ h.past)
kept_ends s e last now before fault h run ends =
    let all : now ≡ h.more ++ entry.Kept h.keeps.fault ∷ h.past =
    h.seen ∙ ap (λ (l : List Entry). h.more ++ l) (own_sees e last h.past h.keeps) in
    kept_last s h.more h.past before fault h.keeps.fault (subst (λ (l : List Entry). IsJournal s l) all run)
    (sym all ∙ ends)

-- ---- the opening

own_fault : (e : Error) (o : Option Fault) (f : Fault) → o ≡ Some f → o ≡ fault_for e → fault_for e ≢ None
own_fault e o f some is none = none-some f (sym (is ∙ none) ∙ some)
  where
    none-some : (f : Fault) → None ≡ Some f → ⊥
    none-some f e = cc e

-- The error that stopped the opening, once its session was closed by its fault.
pub opening_stops : {G : Ghosts Locked} {A B : Type 0} (lanes : List Lane) (options : SftpOptions) (answer e : Error)
    (o : Option Fault) (first : Fault) (m : Token) (home : Seat Locked G) (others : List (Seat Locked G))
    (out out' : LinkView A) (input input' : LinkView B) → o ≡ Some first → o ≡ fault_for e
    → IsOf lanes options (claim_by home).sight → GreetStops e m home.inner.me out out' input input'
    → (answer ≡ error.OutOfMemory) ⊎ ((answer ≡ e) × ((fault : Fault) × EndedByFault (home ∷ others) fault))
    → OpeningStops lanes options out out' input input' answer
opening_stops lanes options answer e o first m home others out out' input input' some its is stops (inl memory) =
    inl memory
opening_stops lanes options answer e o first m home others out out' input input' some its is stops (inr c) =
    let f = c.1.1 in
    let n = home.inner.me in
    let told = f.told.0 in
    let k = greet_own e m n out out' input input' (own_fault e o first some its) stops in
    let seen = seen_first f.now (claim_of n) (claim_by home) (grew_none adds_nothing (claim_of n)) told in
    let h : HasKept e n (entries f.now.log) = record { past = k.0; keeps = k.1; more = seen.0; seen = seen.1 } in
    let ends = kept_ends (setting_by f.now.lanes f.now.options f.now.version f.info) e n (entries f.now.log) f.before
    c.1.0 h f.run f.past in
    let journal : StopsJournal lanes options e = record {
      now = f.now;
      made = (told.later.lanes ∙ is.0, told.later.options ∙ is.1);
      info = f.info;
      fault = c.1.0;
      is = k.1.is ∙ ap Some (sym ends.0);
      before = f.before;
      past = f.past;
      run = f.run;
      lawful = f.lawful;
    } in
    subst (λ (x : Error). OpeningStops lanes options out out' input input' x) (sym c.0)
    (inr (own_first e n k.0 k.1, (journal, (m, (n, stops)))))

-- ---- the workers

module _ {G : Ghosts Locked} (z : TableId) (hello : Reply) (olds news : List (Seat Locked G))
    (home home' sender sender' reader reader' : Seat Locked G)
    (ran : AllRan moves_none z olds news) (made : AllMadeNothing olds) (h : HasRun moves_none z home home')
    (moved : MovedNothing home)
    (sends : HasRun takes_none z sender sender') (reads : HasRun sends_none z reader reader')
    (is_sender : IsWorker hello z sender)
    (is_reader : IsWorker hello z reader) (all : HasAllSeats (claims_of (news ++ home' ∷ sender' ∷ reader' ∷ [])))
    {A B : Type 0} (out out' : LinkView A) (input input' : LinkView B) (sent got : Result (Unit {0}) Error)
    (flushes : WorkedUntilEnd FlushWorks sent (sender.inner.me, out) (sender'.inner.me, out'))
    (gets : WorkedUntilEnd ReadWorks got (reader.inner.me, input) (reader'.inner.me, input'))
  where
    -- after an error of its own
    module _ (e : Error) (own : fault_for e ≢ None) (fault : Fault)
        (f : EndedByFault (news ++ home' ∷ sender' ∷ reader' ∷ []) fault) where
      told : ToldClaim f.now (claim_by home')
          × (ToldClaim f.now (claim_by sender') × ToldClaim f.now (claim_by reader'))
      told = last_three z hello olds news home home' sender sender' reader reader' f.now f.lawful f.told news f.told

      sender_kept : sent ≡ Err e → (last : Token) × HasKept e last (entries f.now.log)
      sender_kept is =
          let w = subst (λ (x : Result (Unit {0}) Error). WorkedUntilEnd FlushWorks x (sender.inner.me, out)
          (sender'.inner.me, out')) is flushes in
          let k = flush_works_own e own (sender.inner.me, out) (w.0, out') w.1 in
          let seen = seen_first f.now (claim_of w.0) (claim_by sender') w.2 told.1.0 in
          (w.0, record { past = k.0; keeps = k.1; more = seen.0; seen = seen.1 })

      reader_worked : got ≡ Err e
          → WorkedUntilEnd ReadWorks (Err e) (reader.inner.me, input) (reader'.inner.me, input')
      reader_worked is = subst (λ (x : Result (Unit {0}) Error). WorkedUntilEnd ReadWorks x (reader.inner.me, input)
          (reader'.inner.me, input')) is gets

      reader_kept : got ≡ Err e → (last : Token) × HasKept e last (entries f.now.log)
      reader_kept is =
          let w = reader_worked is in
          let r = reads_until e own hello (reader.inner.me, input) (w.0, input') is_reader.sees w.1 in
          let seen = seen_first f.now (claim_of w.0) (claim_by reader') w.2 told.1.1 in
          (w.0, record { past = r.past; keeps = r.keeps; more = seen.0; seen = seen.1 })

      kept : (sent ≡ Err e) ⊎ (got ≡ Err e) → (last : Token) × HasKept e last (entries f.now.log)
      kept (inl is) = sender_kept is
      kept (inr is) = reader_kept is

      -- the journal without the fault sends and takes the same
      same_sent : sent_bytes (entries f.now.log) ≡ sent_bytes f.before
      same_sent = ap sent_bytes f.past ∙ append-nil (sent_bytes f.before)

      same_taken : taken_replies (entries f.now.log) ≡ taken_replies f.before
      same_taken = ap taken_replies f.past ∙ append-nil (taken_replies f.before)

      why_read : got ≡ Err e → IfLogged (GotThenWhy e f.before (taken_replies f.before)) input.log input'.log
      why_read is =
          let w = reader_worked is in
          let r = reads_until e own hello (reader.inner.me, input) (w.0, input') is_reader.sees w.1 in
          let seen = seen_first f.now (claim_of w.0) (claim_by reader') w.2 told.1.1 in
          let ends = kept_ends (setting_by f.now.lanes f.now.options f.now.version f.info) e w.0 (entries f.now.log)
          f.before fault (record { past = r.past; keeps = r.keeps; more = seen.0; seen = seen.1 }) f.run f.past in
          let replies : r.replies ≡ taken_replies f.before =
          all_taken z hello olds news home home' sender sender' reader reader' f.now f.lawful f.told ran made h moved
          sends reads is_sender is_reader all r.replies (still_taken (claim_of w.0) (claim_by reader') w.2 ∙ r.made)
          ∙ same_taken in
          subst (λ (x : List Entry × List (ℕ × Reply)). IfLogged (GotThenWhy e x.0 x.1) input.log input'.log)
          (λ i. (sym ends.1 i, replies i)) r.shown

      -- the journal of the run's session ends by the fault
      pub fault_ends : (lanes : List Lane) (options : SftpOptions) → IsOf lanes options (claim_by home').sight
          → (sent ≡ Err e) ⊎ (got ≡ Err e) → IsFirstFault e × FaultEnds lanes options out out' input input' e
      fault_ends lanes options is stops =
          let k = kept stops in
          let ends = kept_ends (setting_by f.now.lanes f.now.options f.now.version f.info) e k.0 (entries f.now.log)
          f.before fault k.1 f.run f.past in (
            own_first e k.0 k.1.past k.1.keeps,
            record {
              journal = record {
                now = f.now;
                made = (told.0.later.lanes ∙ is.0, told.0.later.options ∙ is.1);
                info = f.info;
                fault = fault;
                is = k.1.keeps.is ∙ ap Some (sym ends.0);
                before = f.before;
                past = f.past;
                run = f.run;
                lawful = f.lawful;
              };
              sent = sent;
              got = got;
              stops = stops;
              sends = works_of FlushWorks sent (sender.inner.me, out) (sender'.inner.me, out') flushes;
              reads = works_of ReadWorks got (reader.inner.me, input) (reader'.inner.me, input') gets;
              sends_shown = subst (λ (l : List ℕ). IfLogged (SentUnless sent l) out.log out'.log) same_sent
                  (half_sent z hello olds news home home' sender sender' reader reader' f.now f.lawful f.told ran made h
                  moved sends reads is_sender is_reader all sent out out' flushes);
              takes_shown = subst (λ (l : List (ℕ × Reply)). IfLogged (GotUnless got l) input.log input'.log) same_taken
                  (half_got z hello olds news home home' sender sender' reader reader' f.now f.lawful f.told ran made h
                  moved sends reads is_sender is_reader all got input input' gets);
              why = why_read;
            },
          )

    -- the reason that a run stopped, once its session was closed by its fault
    pub workers_stop : (lanes : List Lane) (options : SftpOptions) (answer e : Error)
        → IsOf lanes options (claim_by home').sight
        → IsCause sent got e
        → (answer ≡ error.OutOfMemory)
        ⊎ ((answer ≡ e) × ((fault : Fault) × EndedByFault (news ++ home' ∷ sender' ∷ reader' ∷ []) fault))
        → WorkersStop out out' input input' lanes options answer
    workers_stop lanes options answer e is cause (inl memory) = inl memory
    workers_stop lanes options answer e is (inl memory) (inr c) = inl (c.0 ∙ memory.0)
    workers_stop lanes options answer e is (inr own) (inr c) =
        subst (λ (x : Error). WorkersStop out out' input input' lanes options x) (sym c.0)
        (inr (fault_ends e own.0 c.1.0 c.1.1 lanes options is own.1))
