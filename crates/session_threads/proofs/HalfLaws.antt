-- The bytes of the halves of the link, after a run.
use Rattle.std.proofs.Common.{◌≡◌, ℕ, Bool, true, true≢false, List, [], ◌∷◌, ◌++◌, length, append-nil, append_assoc, refl, sym, ap, ◌∙◌, subst, Some, Ok, Err}
use Rattle.std.specs.Prelude.{Result}
use Rattle.std.proofs.lemmas.List.{map-append}
use Rattle.atomic_table.specs.Seated.{TableId}
use Rattle.link_frames.proofs.Getting.{got_both, sent_both}
use Rattle.session_model.specs.declared.entry.Entry.{Entry}
use Rattle.session_model.specs.declared.entry.Entry.TheVariants as entry
use Rattle.session_model.specs.declared.event.Event.TheVariants.{Send, Take}
use Rattle.session_model.specs.Shown.{hello_frame}
use Rattle.session_seats.specs.declared.rule.Held.{Ghosts}
use Rattle.session_seats.specs.declared.seat.Seat.{Seat}
use Rattle.session_seats.specs.declared.view.Claim.{Claim}
use Rattle.session_seats.specs.declared.view.Receipt.{Receipt}
use Rattle.session_seats.specs.declared.view.Sight.{Sight}
use Rattle.session_seats.specs.declared.view.Stamp.{Stamp}
use Rattle.session_seats.specs.Closes.{claim_by, claims_of}
use Rattle.session_seats.specs.Covers.{HasAllSeats}
use Rattle.session_seats.specs.Holds.{AddsEntries, AllFrom, claim_of}
use Rattle.session_seats.specs.Rules.{AllTold, ToldClaim}
use Rattle.session_seats.specs.Sights.{IsLawfulSight, StaysThere, entries, entry_of, own}
use Rattle.sftp_link.proofs.Telling.{told_on}
use Rattle.sftp_link.specs.Told.{GotAll, SentAll, IfLogged}
use Rattle.sftp_link.specs.Views.{LinkView}
use Rattle.sftp_model.specs.declared.error.Error.{Error}
use Rattle.sftp_model.specs.declared.reply.Reply.{Reply}
use Rattle.sftp_tasks.specs.declared.locked.Locked.{Locked}
use Rattle.sftp_tasks.specs.declared.report.SharedReport.{SharedReport}
use Rattle.sftp_tasks.specs.Opening.{HasGreeted}
use Rattle.sftp_tasks.specs.Reported.{Reported}
use Rattle.sftp_tasks.specs.Rounds.{Token}
use Rattle.sftp_tasks.specs.Sent.{GotUnless, SeesVersion, SentUnless, sends, sent_by, sent_bytes, taken_by, taken_replies, takes}
use Rattle.sftp_tasks.specs.Workers.{FlushWorks, ReadWorks}
use Rattle.sftp_tasks.proofs.SentLists.{sent_others, taken_others}
use Rattle.sftp_tasks.proofs.SentRounds.{flush_wrote}
use Rattle.sftp_tasks.proofs.SentWhole.{AllClaimsMove, AllMade, AllMove, MovesAs, made_both, moves_all, sent_whole, taken_whole}
use Rattle.sftp_tasks.proofs.TakenRounds.{read_got}
use Rattle.session_threads.specs.Halves.{GotJournal, GotReplies, HalvesShow, WorkersShow, past_in}
use Rattle.session_threads.specs.Reports.{WorkersEnd}
use Rattle.session_threads.specs.Running.{AllMadeNothing, AllRan, HasRun, IsWorker, MovedNothing, WorkedUntilEnd, adds_nothing, moves_none, sends_none, takes_none}

-- ---- entries that move nothing

sends_nothing : (e : Entry) (past : List Entry) → sends_none e ≡ true → sends e past ≡ []
sends_nothing (entry.Event Send) past h = absurd (true≢false (sym h))
sends_nothing (entry.Event other) past h = refl
sends_nothing (entry.Added l call) past h = refl
sends_nothing (entry.LetGo l) past h = refl
sends_nothing (entry.Kept f) past h = refl

takes_nothing : (e : Entry) → takes_none e ≡ true → takes e ≡ []
takes_nothing (entry.Event (Take id r)) h = absurd (true≢false (sym h))
takes_nothing (entry.Event other) h = refl
takes_nothing (entry.Added l call) h = refl
takes_nothing (entry.LetGo l) h = refl
takes_nothing (entry.Kept f) h = refl

moves_nothing : (e : Entry) → moves_none e ≡ true → (takes e ≡ []) × ((past : List Entry) → sends e past ≡ [])
moves_nothing (entry.Event Send) h = absurd (true≢false (sym h))
moves_nothing (entry.Event (Take id r)) h = absurd (true≢false (sym h))
moves_nothing (entry.Event other) h = (refl, λ past. refl)
moves_nothing (entry.Added l call) h = (refl, λ past. refl)
moves_nothing (entry.LetGo l) h = (refl, λ past. refl)
moves_nothing (entry.Kept f) h = (refl, λ past. refl)

module _ (sender reader : ℕ) where
  from_test : (test : Entry → Bool) (n k : ℕ) → ((e : Entry) → test e ≡ true → MovesAs sender reader n e)
      → (rs : List Receipt) → AllFrom k test rs
      → AllMade (MovesAs sender reader n) rs
  from_test test n k f [] h = tt
  from_test test n k f (r ∷ rs) h = (f r.entry h.1, from_test test n k f rs h.2)

  idle_moves : (n : ℕ) (e : Entry) → moves_none e ≡ true → MovesAs sender reader n e
  idle_moves n e h = let m = moves_nothing e h in record { sends = λ apart past. m.1 past; takes = λ apart. m.0 }

  sender_moves : (e : Entry) → takes_none e ≡ true → MovesAs sender reader sender e
  sender_moves e h = record { sends = λ apart past. absurd (apart refl); takes = λ apart. takes_nothing e h }

  reader_moves : (e : Entry) → sends_none e ≡ true → MovesAs sender reader reader e
  reader_moves e h = record { sends = λ apart past. sends_nothing e past h; takes = λ apart. absurd (apart refl) }

nothing_made : (P : Entry → Type 0) (l : List Receipt) → l ≡ [] → AllMade P l
nothing_made P l none = subst (AllMade P) (sym none) tt

-- ---- each seat

module _ {G : Ghosts Locked} (sender reader : ℕ) (z : TableId) (now : Sight) where
  -- the entries that the seat made before and those that it added are such, and it made no others
  seat_moves : (test : Entry → Bool) (s t : Seat Locked G) → ((e : Entry) → test e ≡ true
      → MovesAs sender reader (claim_by t).number e) → HasRun test z s t
      → AllMade (MovesAs sender reader (claim_by t).number) (own (claim_by s).number (claim_by s).sight.log)
      → ToldClaim now (claim_by t)
      → AllMade (MovesAs sender reader (claim_by t).number) (own (claim_by t).number now.log)
  seat_moves test s t f ran before told =
      let g = ran.grew in
      let all : own (claim_by t).number now.log ≡ own (claim_by s).number (claim_by s).sight.log ++ g.more =
      told.made ∙ ap (λ (n : ℕ). own n (claim_by t).sight.log) g.number ∙ g.made in
      subst (λ (l : List Receipt). AllMade (MovesAs sender reader (claim_by t).number) l) (sym all)
      (made_both _ _ g.more before (from_test sender reader test (claim_by t).number _ f g.more g.passes))

  lanes_move : (olds news rest : List (Seat Locked G)) → AllRan moves_none z olds news → AllMadeNothing olds
      → AllTold now (claims_of (news ++ rest)) → (AllTold now (claims_of rest)
      → AllClaimsMove sender reader now.log (claims_of rest))
      → AllClaimsMove sender reader now.log (claims_of (news ++ rest))
  lanes_move [] [] rest ran made told f = f told
  lanes_move [] (t ∷ ts) rest ran made told f = absurd ran
  lanes_move (s ∷ ss) [] rest ran made told f = absurd ran
  lanes_move (s ∷ ss) (t ∷ ts) rest ran made told f = (
    seat_moves moves_none s t (idle_moves sender reader (claim_by t).number) ran.0 (nothing_made _ _ made.0) told.0,
    lanes_move ss ts rest ran.1 made.1 told.1 f,
  )

-- ---- a worker's half

-- a seat that made no entry sent and took nothing
sent_none : (n : ℕ) (log : List Stamp) → own n log ≡ [] → sent_by n log ≡ []
sent_none n log none =
    ap (λ (l : List Stamp). sent_by n l) (sym (append-nil log))
    ∙ sent_others n log [] (ap (λ (l : List Stamp). own n l) (append-nil log) ∙ none)

taken_none : (n : ℕ) (log : List Stamp) → own n log ≡ [] → taken_by n log ≡ []
taken_none n log none =
    ap (λ (l : List Stamp). taken_by n l) (sym (append-nil log))
    ∙ taken_others n log [] (ap (λ (l : List Stamp). own n l) (append-nil log) ∙ none)

-- its bytes and replies are in the journal that is reported
sent_told : (now : Sight) (c : Claim) → ToldClaim now c → sent_by c.number now.log ≡ sent_by c.number c.sight.log
sent_told now c told =
    ap (λ (l : List Stamp). sent_by c.number l) told.later.log.1
    ∙ sent_others c.number told.later.log.0 c.sight.log (ap (λ (l : List Stamp). own c.number l) (sym told.later.log.1)
    ∙ told.made)

taken_told : (now : Sight) (c : Claim) → ToldClaim now c → taken_by c.number now.log ≡ taken_by c.number c.sight.log
taken_told now c told =
    ap (λ (l : List Stamp). taken_by c.number l) told.later.log.1
    ∙ taken_others c.number told.later.log.0 c.sight.log (ap (λ (l : List Stamp). own c.number l) (sym told.later.log.1)
    ∙ told.made)

-- a seat that added nothing sent and took nothing more
none_added : (k : ℕ) (rs : List Receipt) → AllFrom k adds_nothing rs → rs ≡ []
none_added k [] h = refl
none_added k (r ∷ rs) h = absurd (true≢false (sym h.1))

still_own : (c d : Claim) → AddsEntries adds_nothing c d → own c.number d.sight.log ≡ own c.number c.sight.log
still_own c d g =
    g.made ∙ ap (λ (l : List Receipt). own c.number c.sight.log ++ l) (none_added (length c.sight.log) g.more g.passes)
    ∙ append-nil (own c.number c.sight.log)

still_sent : (c d : Claim) → AddsEntries adds_nothing c d → sent_by d.number d.sight.log ≡ sent_by c.number c.sight.log
still_sent c d g =
    ap (λ (n : ℕ). sent_by n d.sight.log) g.number ∙ ap (λ (l : List Stamp). sent_by c.number l) g.later.log.1
    ∙ sent_others c.number g.later.log.0 c.sight.log (ap (λ (l : List Stamp). own c.number l) (sym g.later.log.1)
    ∙ still_own c d g)

pub still_taken : (c d : Claim) → AddsEntries adds_nothing c d
    → taken_by d.number d.sight.log ≡ taken_by c.number c.sight.log
still_taken c d g =
    ap (λ (n : ℕ). taken_by n d.sight.log) g.number ∙ ap (λ (l : List Stamp). taken_by c.number l) g.later.log.1
    ∙ taken_others c.number g.later.log.0 c.sight.log (ap (λ (l : List Stamp). own c.number l) (sym g.later.log.1)
    ∙ still_own c d g)

-- the journal that a seat has seen is the beginning of the one that is reported
pub seen_first : (now : Sight) (c d : Claim) → AddsEntries adds_nothing c d → ToldClaim now d
    → (more : List Entry) × (entries now.log ≡ more ++ entries c.sight.log)
seen_first now c d g told = (
  entries told.later.log.0 ++ entries g.later.log.0,
  ap entries told.later.log.1 ∙ map-append entry_of told.later.log.0 d.sight.log
      ∙ ap (λ (l : List Stamp). entries told.later.log.0 ++ entries l) g.later.log.1
      ∙ ap (λ (l : List Entry). entries told.later.log.0 ++ l) (map-append entry_of g.later.log.0 c.sight.log)
      ∙ sym (append_assoc (entries told.later.log.0) (entries g.later.log.0) (entries c.sight.log)),
)

-- ---- the crew

module _ {G : Ghosts Locked} (z : TableId) (hello : Reply) (olds news : List (Seat Locked G))
    (home home' sender sender' reader reader' : Seat Locked G)
    (now : Sight) (lawful : IsLawfulSight now)
    (told_all : AllTold now (claims_of (news ++ home' ∷ sender' ∷ reader' ∷ []))) where
  abbrev s : ℕ
  s = (claim_by sender').number

  abbrev q : ℕ
  q = (claim_by reader').number

  -- the journal as the last three seats have seen it
  pub last_three : (seats : List (Seat Locked G)) → AllTold now (claims_of (seats ++ home' ∷ sender' ∷ reader' ∷ []))
      → ToldClaim now (claim_by home') × (ToldClaim now (claim_by sender') × ToldClaim now (claim_by reader'))
  last_three [] told = (told.0, (told.1.0, told.1.1.0))
  last_three (t ∷ seats) told = last_three seats told.1

  module _ (ran : AllRan moves_none z olds news) (made : AllMadeNothing olds) (h : HasRun moves_none z home home')
      (moved : MovedNothing home)
      (sends : HasRun takes_none z sender sender') (reads : HasRun sends_none z reader reader')
      (is_sender : IsWorker hello z sender)
      (is_reader : IsWorker hello z reader) (all : HasAllSeats (claims_of (news ++ home' ∷ sender' ∷ reader' ∷ [])))
    where
      three_move : AllTold now (claims_of (home' ∷ sender' ∷ reader' ∷ []))
          → AllClaimsMove s q now.log (claims_of (home' ∷ sender' ∷ reader' ∷ []))
      three_move told = (
        seat_moves s q z now moves_none home home' (idle_moves s q (claim_by home').number) h
            (from_test s q moves_none (claim_by home').number 0 (idle_moves s q (claim_by home').number) _ moved)
            told.0,
        (
          seat_moves s q z now takes_none sender sender' (sender_moves s q) sends (nothing_made _ _ is_sender.new)
              told.1.0,
          (
            seat_moves s q z now sends_none reader reader' (reader_moves s q) reads (nothing_made _ _ is_reader.new)
                told.1.1.0,
            tt,
          ),
        ),
      )

      all_move : AllMove s q now.log
      all_move =
          moves_all now (claims_of (news ++ home' ∷ sender' ∷ reader' ∷ [])) s q lawful told_all all
          (lanes_move s q z now olds news (home' ∷ sender' ∷ reader' ∷ []) ran made told_all three_move)

      -- the worker that sends sent all that was sent
      all_sent : (bytes : List ℕ)
          → sent_by s (claim_by sender').sight.log
          ≡ sent_by (claim_by sender).number (claim_by sender).sight.log ++ bytes → bytes ≡ sent_bytes (entries now.log)
      all_sent bytes mine =
          sym (ap (λ (l : List ℕ). l ++ bytes) (sent_none (claim_by sender).number (claim_by sender).sight.log
          is_sender.new))
          ∙ sym mine ∙ sym (sent_told now (claim_by sender') (last_three news told_all).1.0)
          ∙ sent_whole s q now.log all_move

      -- the worker that reads took all that was taken
      pub all_taken : (replies : List (ℕ × Reply))
          → taken_by q (claim_by reader').sight.log
          ≡ taken_by (claim_by reader).number (claim_by reader).sight.log ++ replies
          → replies ≡ taken_replies (entries now.log)
      all_taken replies mine =
          sym (ap (λ (l : List (ℕ × Reply)). l ++ replies) (taken_none (claim_by reader).number
          (claim_by reader).sight.log is_reader.new))
          ∙ sym mine ∙ sym (taken_told now (claim_by reader') (last_three news told_all).1.1)
          ∙ taken_whole s q now.log all_move

      -- the half of the worker that sends shows the Sends of the journal
      pub half_sent : {A : Type 0} (r : Result (Unit {0}) Error) (out out' : LinkView A)
          → WorkedUntilEnd FlushWorks r (sender.inner.me, out) (sender'.inner.me, out')
          → IfLogged (SentUnless r (sent_bytes (entries now.log))) out.log out'.log
      half_sent (Ok u) out out' works =
          let w = flush_wrote (Ok u) hello (sender.inner.me, out) (sender'.inner.me, out') is_sender.sees works in
          subst (λ (l : List ℕ). IfLogged (SentUnless (Ok u) l) out.log out'.log) (all_sent w.bytes w.made) w.shown
      half_sent (Err e) out out' works =
          let w = flush_wrote (Err e) hello (sender.inner.me, out) (works.0, out') is_sender.sees works.1 in
          subst (λ (l : List ℕ). IfLogged (SentUnless {T = Unit {0}} (Err e) l) out.log out'.log)
          (all_sent w.bytes (still_sent (claim_of works.0) (claim_by sender') works.2 ∙ w.made)) w.shown

      -- the half of the worker that reads shows its Takes
      pub half_got : {B : Type 0} (r : Result (Unit {0}) Error) (input input' : LinkView B)
          → WorkedUntilEnd ReadWorks r (reader.inner.me, input) (reader'.inner.me, input')
          → IfLogged (GotUnless r (taken_replies (entries now.log))) input.log input'.log
      half_got (Ok u) input input' works =
          let w = read_got (Ok u) hello (reader.inner.me, input) (reader'.inner.me, input') is_reader.sees works in
          subst (λ (l : List (ℕ × Reply)). IfLogged (GotUnless (Ok u) l) input.log input'.log)
          (all_taken w.replies w.made) w.shown
      half_got (Err e) input input' works =
          let w = read_got (Err e) hello (reader.inner.me, input) (works.0, input') is_reader.sees works.1 in
          subst (λ (l : List (ℕ × Reply)). IfLogged (GotUnless {T = Unit {0}} (Err e) l) input.log input'.log)
          (all_taken w.replies (still_taken (claim_of works.0) (claim_by reader') works.2 ∙ w.made)) w.shown

-- ---- a run to its end

module _ {G : Ghosts Locked} (z : TableId) (hello : Reply) (olds news : List (Seat Locked G))
    (home home' sender sender' reader reader' : Seat Locked G)
    (r : SharedReport) (p : Reported (news ++ home' ∷ sender' ∷ reader' ∷ []) r)
    (ran : AllRan moves_none z olds news) (made : AllMadeNothing olds) (h : HasRun moves_none z home home')
    (moved : MovedNothing home)
    (sends : HasRun takes_none z sender sender') (reads : HasRun sends_none z reader reader')
    (is_sender : IsWorker hello z sender)
    (is_reader : IsWorker hello z reader) (all : HasAllSeats (claims_of (news ++ home' ∷ sender' ∷ reader' ∷ [])))
  where
    workers_show : {A B : Type 0} (out out' : LinkView A) (input input' : LinkView B)
        → FlushWorks (Ok tt) (sender.inner.me, out) (sender'.inner.me, out')
        → ReadWorks (Ok tt) (reader.inner.me, input) (reader'.inner.me, input')
        → WorkersShow r out out' input input'
    workers_show out out' input input' flushes gets = record {
      sent = subst (λ (l : List Entry). IfLogged (SentAll (sent_bytes l)) out.log out'.log) (sym p.journal)
          (half_sent z hello olds news home home' sender sender' reader reader' p.now p.lawful p.told ran made h moved
          sends reads is_sender is_reader all (Ok tt) out out' flushes);
      got = subst (λ (l : List Entry). IfLogged (GotUnless {T = Unit {0}} (Ok tt) (taken_replies l)) input.log
          input'.log) (sym p.journal)
          (half_got z hello olds news home home' sender sender' reader reader' p.now p.lawful p.told ran made h moved
          sends reads is_sender is_reader all (Ok tt) input input' gets);
    }

    reports_hello : (other : Reply) → SeesVersion other (claim_by sender).sight → r.report.hello ≡ Some other
    reports_hello other sees =
        let told = (last_three z hello olds news home home' sender sender' reader reader' p.now p.lawful p.told news
        p.told).1.0 in
        let last : (claim_by sender').sight.version ≡ Some other =
        subst (λ o. StaysThere o (claim_by sender').sight.version) sees sends.grew.later.version in
        p.hello ∙ subst (λ o. StaysThere o p.now.version) last told.later.version

    -- both workers came to the end
    pub workers_end : {A B : Type 0} (out out' : LinkView A) (input input' : LinkView B)
        → FlushWorks (Ok tt) (sender.inner.me, out) (sender'.inner.me, out')
        → ReadWorks (Ok tt) (reader.inner.me, input) (reader'.inner.me, input')
        → WorkersEnd out out' input input' sender.inner.me r
    workers_end out out' input input' flushes gets = record {
      sent = (sender.inner.me, (sender'.inner.me, flushes));
      got = (reader.inner.me, (reader'.inner.me, gets));
      shown = workers_show out out' input input' flushes gets;
      hello = reports_hello;
    }

-- ---- with the opening

pub halves_show : {A B : Type 0} (m n : Token) (r : SharedReport) (out out_then out' : LinkView A)
    (input input_then input' : LinkView B)
    → (g : HasGreeted m n out out_then input input_then) → WorkersShow r out_then out' input_then input'
    → r.report.hello ≡ Some g.hello
    → HalvesShow r out out' input input'
halves_show m n r out out_then out' input input_then input' g w told = record {
  hello = g.hello;
  told = told;
  sent = told_on (SentAll hello_frame) (SentAll (sent_bytes (past_in r)))
      (SentAll (hello_frame ++ sent_bytes (past_in r))) out.log out_then.log out'.log
      g.sends.sent.log w.sent (λ a b c x y. sent_both a b c hello_frame (sent_bytes (past_in r)) x y);
  got = told_on (GotAll g.gets.frame.bytes) (GotReplies (past_in r)) (GotJournal g.hello (past_in r)) input.log
      input_then.log input'.log
      g.gets.got w.got
      (λ a b c x y. (
        g.gets.frame.bytes,
        (
          y.0,
          (
            g.gets.reads,
            (
              y.1.0,
              got_both a b c g.gets.frame.bytes y.0 x y.1.1,
            ),
          ),
        ),
      ));
}
