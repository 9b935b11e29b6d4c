-- Each turn of a lane leaves its session at rest, but for the grants that are due where a call ended.
use Rattle.std.proofs.Common.{◌≡◌, ◌<◌, ◌≤◌, ◌-◌, ◌^◌, ◌⊎◌, ℕ, Bool, true, false, List, [], Option, Some, None, refl, ap, sym, ◌∙◌, subst, inl, inr}
use Rattle.std.specs.Prelude.{length, slice_get}
use Rattle.sftp_model.specs.declared.answers.Expected.{Expected}
use Rattle.sftp_model.specs.declared.reply.Reply.{Reply}
use Rattle.sftp_model.specs.declared.slot.Site.{Site}
use Rattle.sftp_core.specs.Core.{Core, after_poll, record_at, reply_in}
use Rattle.sftp_core.specs.Table.{IsAllowed}
use Rattle.sftp_model.specs.declared.slot.Slot.{Slot}
use Rattle.sftp_model.specs.declared.slot.Slot.TheVariants.{Buffered, Empty, File}
use Rattle.sftp_model.specs.Slots.{slot_at}
use Rattle.sftp_model.specs.Answers.{allows_reply, expected_of, may_answer}
use Rattle.sftp_model.specs.declared.reply.Reply.TheVariants as reply
use Rattle.std.proofs.lemmas.Bool.Decides.{eqb_tells}
use Rattle.session_model.specs.Grants.{is_granted}
use Rattle.session_work.specs.Holding.{HandlesAreAwaited, TurnTied}
use Rattle.session_work.proofs.Holding.{with_here}
use Rattle.session_work.proofs.Polled.{polled_holds, polled_lane}
use Rattle.sftp_core.specs.declared.id_record.IdRecord.{IdRecord}
use Rattle.sftp_core.specs.declared.id_record.IdRecord.TheVariants.{Waiting}
use Rattle.sftp_core.proofs.Elsewhere.{poll_elsewhere}
use Rattle.plan_runner.specs.declared.next.Asked.TheVariants as ask
use Rattle.plan_runner.specs.declared.next.Next.{Next}
use Rattle.plan_runner.specs.declared.next.Next.TheVariants as step
use Rattle.plan_runner.specs.declared.next.Running.{Running}
use Rattle.plan_runner.specs.declared.next.Running.TheVariants as running
use Rattle.plan_runner.specs.Asking.{BeginsAsking, GoesOnAsking, IsAmong, LooksForReply, is_window, opened_after, opened_by}
use Rattle.plan_window.specs.declared.window.ReadAt.{ReadAt}
use Rattle.plan_runner.specs.Buffers.{reading_in}
use Rattle.plan_runner.specs.Runners.{awaited_place, bytes_of}
use Rattle.plan_runner.specs.Sound.{IsFittingReply, IsRunningSound, StandsAt}
use Rattle.plan_runner.specs.Pending.{own_place, reads_under}
use Rattle.plan_model.specs.declared.call.Call.{Call}
use Rattle.session_model.specs.declared.entry.Entry.{Entry}
use Rattle.session_model.specs.Readings.{AskedRequest, answer, count_submitted, asked_at}
use Rattle.session_model.specs.Calls.{Setting, site_of}
use Rattle.session_model.specs.Ids.{IdState, Free, Pending, Replied, ReadsId, id_state}
use Rattle.session_model.specs.Journals.{IsJournal}
use Rattle.session_model.proofs.CallsSoFar.{reply_may}
use Rattle.session_model.proofs.IdLaws.{reads}
use Rattle.session_model.proofs.ReadsLaws.{read_fits}
use Rattle.session_laws.specs.Changes.{with_lane}
use Rattle.session_laws.specs.Lanes.{
  AtTied,
  Held,
  LaneHolds,
  LaneTied,
  LaneValue,
  SessionTied,
  Ticketed,
  among,
  grant_places,
  grants_of,
  ticket_places,
  tickets_of,
}
use Rattle.session_laws.specs.Places.{IsRising, is_in, without_index}
use Rattle.session_laws.specs.Tables.{TableMatches, record_of_reply, stand}
use Rattle.session_laws.proofs.HoldLaws.{ticket_index, ticket_without}
use Rattle.session_laws.proofs.LaneLaws.{grants_count, replies_agree}
use Rattle.session_laws.proofs.CloseLaws.{in_left}
use Rattle.session_laws.proofs.PlaceLaws.{at_in, without_self}
use Rattle.session_laws.specs.Rest.{AtRest, CountsJournal, IsReadAt, IsTransferAt, LaneAsks, RunFits, awaited_in, opened_in}
use Rattle.session_laws.proofs.CountedLaws.{counted_polled, weigh_polled}
use Rattle.session_work.specs.Tokens.{NamesHandles}
use Rattle.session_work.specs.Turning.{
  BeginsLaneCall,
  SettlesMove,
  TurnReplied,
  TurnUnreplied,
  TurnWaits,
  TurnWidens,
  TurnsLane,
  Begun,
  Replied,
  Unreplied,
  Waiting as StillWaiting,
  Widening,
}
use Rattle.session_work.specs.Rests.{IsSmall, LeavesLane, TurnsLeaveRest}
use Rattle.session_work.specs.declared.lane.Moved.{Moved}
use Rattle.session_work.specs.declared.lane.Moved.TheVariants as moved
use Rattle.session_work.proofs.AskLaws.{held_after, held_on, widens_on, widens_others}
use Rattle.session_work.proofs.AskRests.{Midway, asked_rests, midway_self, released_under, submitted_under, window_fits}
use Rattle.session_work.proofs.Awaiting.{handles_awaited, none_own, own_awaited, holds_named}
use Rattle.session_work.proofs.EndRests.{ended_rests, goes_rest, waits_rest}
use Rattle.session_work.proofs.TurnLaws.{bears}
use Rattle.session_work.proofs.TurnSpends.{turn_spends}
use Rattle.session_work.proofs.EntrySpends.{AskMoves, SpendsOn}
use Rattle.session_work.proofs.Turned.{turns_keep}

-- ---- the core after a poll

by_places : (b c : Bool) (e : Expected) (r : Reply) → allows_reply e r ≡ true → IsAllowed (record_of_reply b c e r)
by_places true c e r may = may
by_places false true e (reply.Handle h) may = tt
by_places false true e r may = tt
by_places false false e r may = tt

-- a reply that is kept is one that may answer
all_allowed : (s : Setting) (past : List Entry) (w g : ℕ → Bool) (table : ℕ → Option IdRecord) (id : ℕ)
    → IsJournal s past
    → TableMatches past w g table → IsAllowed (table id)
all_allowed s past w g table id j t = subst IsAllowed (sym (t id)) (by_state (id_state past id) (reads past id))
  where
    by_state : (x : IdState) → ReadsId past id x → IsAllowed (stand w g x)
    by_state Free is = tt
    by_state (Pending p a b) is = tt
    by_state (Replied p a r) is = by_places (w p) (g p) (expected_of a.request) r (reply_may s past p r a j is.1 is.2)

waits_polled : (core : Core) (t id : ℕ) (y : Reply) (e : Expected) (sent wanted : Bool) → reply_in (record_at core t)
    ≡ Some y
    → record_at core id ≡ Some (Waiting e sent wanted) → record_at (after_poll core t) id ≡ Some (Waiting e sent wanted)
waits_polled core t id y e sent wanted came is = elim (eqb_tells id t) [
  | inl u ↦ absurd (let clash : ◌≡◌ {A = Option Reply} None (Some y) = sym (ap reply_in is)
      ∙ (ap (λ (n : ℕ). reply_in (record_at core n)) u.1 ∙ came) in cc)
  | inr u ↦ poll_elsewhere core t core.fault (record_at core t) id u.1 ∙ is
]

midway_polled : (s : Setting) (past : List Entry) (core : Core) (lanes : ℕ → LaneValue) (t : ℕ) (y : Reply)
    → IsJournal s past → SessionTied s past core lanes [] → CountsJournal past core → reply_in (record_at core t)
    ≡ Some y
    → Midway past core (after_poll core t)
midway_polled s past core lanes t y j h counted came =
    record {
      counted = counted_polled past core t y came counted;
      work = weigh_polled core t y came (all_allowed s past (among past (tickets_of lanes))
          (among past (grants_of lanes)) (record_at core) t j h.table);
      waits = λ id e sent wanted is. waits_polled core t id y e sent wanted came is;
    }

-- ---- the tickets that are left

-- a lane whose call awaits no reply to a request of its own has tickets of READs and WRITEs alone
others_all : (past : List Entry) (lane : ℕ) (v : LaneValue) → LaneAsks past lane v → own_place v.running ≡ None
    → (p : ℕ) → is_in p (ticket_places v.tickets) ≡ true → IsTransferAt past p
others_all past lane v a none p has = elim (a.only p has) [
  | inl mine ↦ absurd (let clash : ◌≡◌ {A = Option ℕ} None (Some p) = sym none ∙ mine in cc)
  | inr t ↦ t
]

-- so has one that spent the ticket of the reply that its call awaited
others_left : (past : List Entry) (lane k q : ℕ) (v : LaneValue) (r : Running) → LaneAsks past lane v
    → IsRising (ticket_places v.tickets) → v.running ≡ Some r → awaited_place r v.site ≡ Some q
    → slice_get (ticket_places v.tickets) k ≡ Some q
    → (p : ℕ) → is_in p (without_index k (ticket_places v.tickets)) ≡ true → IsTransferAt past p
others_left past lane k q v r a rise was looks here p has =
    elim (a.only p (in_left (ticket_places v.tickets) k p has)) [
      | inl mine ↦ absurd (let at : awaited_place r v.site ≡ Some p =
          own_awaited r v.site p (ap own_place (sym was) ∙ mine) in
          let same : q ≡ p = (let e : ◌≡◌ {A = Option ℕ} (Some q) (Some p) = sym looks ∙ at in cc) in
          let clash : false ≡ true = sym (without_self (ticket_places v.tickets) k q rise here)
          ∙ (ap (λ (n : ℕ). is_in n (without_index k (ticket_places v.tickets))) same ∙ has) in cc)
      | inr t ↦ t
    ]

-- ---- a call that waits for a reply that a slot awaits

looking_asks : (past : List Entry) (lane : ℕ) (now : LaneValue) (r : Running) → now.running ≡ Some r
    → own_place (Some r) ≡ None → ((p : ℕ) → is_in p (ticket_places now.tickets) ≡ true → IsTransferAt past p)
    → ((g : ℕ) → opened_by r ≡ Some g → is_in g (grant_places now.grants) ≡ true)
    → ((x : ReadAt) → IsAmong x (reads_under (Some r)) → IsReadAt past x)
    → ((p : ℕ) (a : AskedRequest) (y : Reply) → awaited_place r now.site ≡ Some p → asked_at past p ≡ Some a
    → may_answer a.request y
    ≡ true → IsFittingReply r (Some y)) → LaneAsks past lane now
looking_asks past lane now r was deferred others keeps reads fits =
    record {
      current = λ p mine. absurd (let clash : ◌≡◌ {A = Option ℕ} None (Some p) = sym deferred
          ∙ (ap own_place (sym was) ∙ mine) in cc);
      only = λ p has. inr (others p has);
      keeps = λ g opens. keeps g (ap opened_in (sym was) ∙ opens);
      fits = λ p a y looks there may. subst (λ (o : Option Running). RunFits o y) (sym was)
          (fits p a y (ap (λ (o : Option Running). awaited_in o now.site) (sym was) ∙ looks) there may);
      reads = λ x among. reads x (subst (λ (o : Option Running). IsAmong x (reads_under o)) was among);
    }

-- the READ that was under way before the call fits: it was asked where the file stands
under_way_fits : (s : Setting) (past : List Entry) (lane p : ℕ) (r : Running) (bytes : List ℕ) (a : AskedRequest)
    (y : Reply)
    → IsJournal s past → IsRunningSound r bytes (site_of s past lane) s.facts → own_place (Some r) ≡ None
    → awaited_place r (site_of s past lane) ≡ Some p
    → asked_at past p ≡ Some a → may_answer a.request y ≡ true → (is_window r ≡ true → ⊥) → IsFittingReply r (Some y)
under_way_fits s past lane p (running.FillingBuffer slot n offset own) bytes a (reply.Content content) j sound deferred
    looks there may none = by_slot (slot_at (site_of s past lane) slot) refl
  where
    by_slot : (x : Slot) → slot_at (site_of s past lane) slot ≡ x → length content ≤ (2 ^ 64 - 1) - offset
    by_slot Empty is = absurd (let clash : ◌≡◌ {A = Option ℕ} None (Some p) = sym (ap reading_in is) ∙ looks in cc)
    by_slot (File file) is = absurd (let clash : ◌≡◌ {A = Option ℕ} None (Some p) = sym (ap reading_in is) ∙ looks in
        cc)
    by_slot (Buffered file buffer) is =
        (let reads : buffer.reading ≡ Some p = sym (ap reading_in is) ∙ looks in
        let stands : file.offset ≡ offset = subst (λ (x : Slot). StandsAt offset x) is sound.1 in
        subst (λ (o : ℕ). length content ≤ (2 ^ 64 - 1) - o) stands
        (read_fits s past lane slot p file buffer a content j is reads there may))
under_way_fits s past lane p (running.FillingBuffer slot n offset own) bytes a y j sound deferred looks there may none =
    tt
under_way_fits s past lane p (running.Reading place slot file len) bytes a y j sound deferred looks there may none =
    absurd (cc deferred)
under_way_fits s past lane p (running.Gathering place slot file got left len) bytes a y j sound deferred looks there may
    none = absurd (cc deferred)
under_way_fits s past lane p (running.ReadingWhole grant bound window) bytes a y j sound deferred looks there may none =
    absurd (none refl)
under_way_fits s past lane p other bytes a y j sound deferred looks there may none = tt

-- whatever reply comes, or the one to a READ of a whole read
waited_fits : (past : List Entry) (r : Running) (site : Site) → ((y : Reply) → IsFittingReply r (Some y))
    ⊎ (is_window r ≡ true)
    → ((x : ReadAt) → IsAmong x (reads_under (Some r)) → IsReadAt past x)
    → (p : ℕ) (a : AskedRequest) (y : Reply) → awaited_place r site ≡ Some p → asked_at past p ≡ Some a
    → may_answer a.request y ≡ true → IsFittingReply r (Some y)
waited_fits past r site (inl all) reads p a y looks there may = all y
waited_fits past r site (inr window) reads p a y looks there may =
    window_fits past r site window reads p a y looks there may

-- ---- what becomes of a runner's answer

-- of a call that was begun
settles_on : (s : Setting) (past : List Entry) (core c new : Core) (lanes : ℕ → LaneValue) (begun : ℕ → Bool) (lane : ℕ)
    (now : LaneValue) (tickets : List Ticketed) (grants : List Held) (opened : Option ℕ) (reads : List ReadAt)
    (old : Site) (n : Next) (m : Moved) → AtRest s past core lanes begun
    → lane < length s.lanes → IsSmall m → Midway past core c → NamesHandles grants (answer past)
    → ((p : ℕ) → is_in p (ticket_places tickets) ≡ true → IsTransferAt past p)
    → ((g : ℕ) → opened ≡ Some g → is_in g (grant_places grants) ≡ true)
    → GoesOnAsking opened (count_submitted past) reads old now.site n
    → ((x : ReadAt) → IsAmong x reads → IsReadAt past x)
    → now.ended ≡ (lanes lane).ended → SettlesMove c new tickets now.tickets grants now.grants now.running
    (count_submitted past) n m
    → TurnTied s past new (with_lane lanes lane) lane now m → SpendsOn s past new lanes lane now m
    → LeavesLane s past core new lanes begun lane now m
settles_on s past core c new lanes begun lane now tickets grants opened reads old (step.Wait r) m h there small mid
    bears others held asks stood same settles t ids =
    subst (λ (x : Moved). LeavesLane s past core new lanes begun lane now x) (sym settles.2)
    (goes_rest s past core c new lanes begun lane now r h there mid settles.0.core settles.1
    (looking_asks past lane now r settles.1 asks.0.deferred (λ q has. others q
    (ap (λ (ts : List Ticketed). is_in q (ticket_places ts)) (sym settles.0.pushed) ∙ has))
    (λ g is. ap (λ (gs : List Held). is_in g (grant_places gs)) settles.0.kept ∙ held g (asks.0.keeps g is))
    (λ x among. stood x (asks.0.under x among)) (waited_fits past r now.site asks.1
    (λ x among. stood x (asks.0.under x among))))
    (subst (λ (x : Moved). TurnTied s past new (with_lane lanes lane) lane now x) settles.2 t)
    (subst (λ (x : Moved). SpendsOn s past new lanes lane now x) settles.2 ids))
settles_on s past core c new lanes begun lane now tickets grants opened reads old (step.Done o) moved.Waits h there
    small mid bears others held asks stood same settles t ids =
    absurd (let clash : moved.Waits ≡ moved.Ended o = settles.2 in cc)
settles_on s past core c new lanes begun lane now tickets grants opened reads old (step.Done o) moved.Went h there small
    mid bears others held asks stood same settles t ids = absurd
    (let clash : moved.Went ≡ moved.Ended o = settles.2 in cc)
settles_on s past core c new lanes begun lane now tickets grants opened reads old (step.Done o) (moved.Asked id q) h
    there small mid bears others held asks stood same settles t ids =
    absurd (let clash : moved.Asked id q ≡ moved.Ended o = settles.2 in cc)
settles_on s past core c new lanes begun lane now tickets grants opened reads old (step.Done o) (moved.Ended p) h there
    small mid bears others held asks stood same settles t ids =
    ended_rests s past core c new lanes begun lane now p h there mid settles.0.core
    (λ q has. others q (ap (λ (ts : List Ticketed). is_in q (ticket_places ts)) (sym settles.0.pushed) ∙ has)) t ids
settles_on s past core c new lanes begun lane now tickets grants opened reads old (step.Ask a r) moved.Waits h there
    small mid bears others held asks stood same settles t ids = absurd settles
settles_on s past core c new lanes begun lane now tickets grants opened reads old (step.Ask a r) moved.Went h there
    small mid bears others held asks stood same settles t ids = absurd settles
settles_on s past core c new lanes begun lane now tickets grants opened reads old (step.Ask a r) (moved.Ended o) h there
    small mid bears others held asks stood same settles t ids = absurd settles
settles_on s past core c new lanes begun lane now tickets grants opened reads old (step.Ask (ask.Close g) r)
    (moved.Asked id q) h there small mid bears others held asks stood same settles t ids = absurd asks.1
settles_on s past core c new lanes begun lane now tickets grants opened reads old (step.Ask a r) (moved.Asked id q) h
    there small mid bears others held asks stood same settles t ids =
    asked_rests s past core new lanes begun lane id now tickets opened reads old a r q h there
    (submitted_under s past core c new lanes lane id tickets now.tickets grants now.grants a q h.between.tied mid
    bears settles.0) asks.0 stood others
    (λ g is. ap (λ (gs : List Held). is_in g (grant_places gs)) settles.0.kept ∙ held g is) settles.1 settles.0.pushed
    same small t ids

-- ---- a turn

no_opened : (v : LaneValue) (g : ℕ) → (◌≡◌ {A = Option ℕ} None (Some g)) → is_in g (grant_places v.grants) ≡ true
no_opened v g is = absurd cc

-- a call begins with a request that is no CLOSE, or ends at once
begins_on : (s : Setting) (past : List Entry) (core new : Core) (lanes : ℕ → LaneValue) (begun : ℕ → Bool) (lane : ℕ)
    (now : LaneValue) (m : Moved) (n : Next) → AtRest s past core lanes begun → lane < length s.lanes → IsSmall m
    → GoesOnAsking None (count_submitted past) [] (lanes lane).site now.site n
    → now.ended ≡ (lanes lane).ended → (lanes lane).running ≡ None
    → SettlesMove core new (lanes lane).tickets now.tickets (lanes lane).grants now.grants now.running
    (count_submitted past) n m
    → TurnTied s past new (with_lane lanes lane) lane now m → SpendsOn s past new lanes lane now m
    → LeavesLane s past core new lanes begun lane now m
begins_on s past core new lanes begun lane now m n h there small asks same idle settles t ids =
    let b = h.between in
    let v : LaneValue = lanes lane in
    settles_on s past core core new lanes begun lane now v.tickets v.grants None [] v.site n m h there small
    (midway_self past core b.counted) (bears s past lane v.tickets v.grants [] (answer past)
    (b.tied.each lane there).holds (λ p r e. e))
    (others_all past lane v (b.asks lane there) (ap own_place idle)) (no_opened v) asks (λ x among. absurd among) same
    settles t ids

-- a call that begins has no READ under way, and so it is no whole read that awaits one
no_window : (r : Running) (site : Site) → LooksForReply None [] site r → is_window r ≡ true → ⊥
no_window (running.ReadingWhole grant bound window) site looks is =
    absurd (let clash : ◌≡◌ {A = Option ℕ} None (Some grant) = looks.keeps grant refl in cc)
no_window other site looks is = cc is

-- it waits for a reply that a slot awaits
begins_waiting : (s : Setting) (past : List Entry) (core new : Core) (lanes : ℕ → LaneValue) (begun : ℕ → Bool)
    (lane : ℕ) (c : Call) (now : LaneValue) (m : Moved) (r : Running) → AtRest s past core lanes begun
    → lane < length s.lanes → (lanes lane).running ≡ None
    → LooksForReply None [] now.site r → now.site ≡ (lanes lane).site → IsRunningSound r (bytes_of c) now.site s.facts
    → SettlesMove core new (lanes lane).tickets now.tickets (lanes lane).grants now.grants now.running
    (count_submitted past)
    (step.Wait r) m → TurnTied s past new (with_lane lanes lane) lane now m
    → SpendsOn s past new lanes lane now m → LeavesLane s past core new lanes begun lane now m
begins_waiting s past core new lanes begun lane c now m r h there idle looks same sound settles t ids =
    let b = h.between in
    let v : LaneValue = lanes lane in
    let ties = subst (λ (o : Option Running). AtTied s past lane o v.site) idle (b.tied.each lane there).goes.runs in
    let is : now.site ≡ site_of s past lane = same ∙ ties.1 in
    subst (λ (x : Moved). LeavesLane s past core new lanes begun lane now x) (sym settles.2)
    (goes_rest s past core core new lanes begun lane now r h there (midway_self past core b.counted) settles.0.core
    settles.1
    (looking_asks past lane now r settles.1 looks.deferred (λ q has. others_all past lane v (b.asks lane there)
    (ap own_place idle) q (ap (λ (ts : List Ticketed). is_in q (ticket_places ts)) (sym settles.0.pushed) ∙ has))
    (λ g is. absurd (let clash : ◌≡◌ {A = Option ℕ} None (Some g) = looks.keeps g is in cc))
    (λ x among. absurd (looks.under x among))
    (λ p a y at at_place may. under_way_fits s past lane p r (bytes_of c) a y b.good.run
    (subst (λ (x : Site). IsRunningSound r (bytes_of c) x s.facts) is sound) looks.deferred
    (ap (awaited_place r) (sym is) ∙ at)
    at_place may (no_window r now.site looks)))
    (subst (λ (x : Moved). TurnTied s past new (with_lane lanes lane) lane now x) settles.2 t)
    (subst (λ (x : Moved). SpendsOn s past new lanes lane now x) settles.2 ids))

begins_rest : (s : Setting) (past : List Entry) (core new : Core) (lanes : ℕ → LaneValue) (begun : ℕ → Bool) (lane : ℕ)
    (c : Call) (now : LaneValue) (m : Moved) (n : Next) → AtRest s past core lanes begun → lane < length s.lanes
    → IsSmall m → BeginsLaneCall c s.facts (count_submitted past) (lanes lane).site now.site n
    → BeginsAsking None (count_submitted past) (lanes lane).site now.site n → now.ended ≡ (lanes lane).ended
    → (lanes lane).running ≡ None → SettlesMove core new (lanes lane).tickets now.tickets (lanes lane).grants now.grants
    now.running (count_submitted past) n m → TurnTied s past new (with_lane lanes lane) lane now m
    → SpendsOn s past new lanes lane now m → LeavesLane s past core new lanes begun lane now m
begins_rest s past core new lanes begun lane c now (moved.Asked id q) (step.Ask (ask.Close g) r) h there small ran asks
    same idle settles t ids =
    let b = h.between in
    let v : LaneValue = lanes lane in
    asked_rests s past core new lanes begun lane id now v.tickets None [] v.site (ask.Close g) r q h there
    (released_under s past core new lanes lane g id v.tickets now.tickets v.grants now.grants q b.tied b.counted
    (λ k held got. grants_count s past core lanes [] lane k held b.tied there got) settles.0)
    asks (λ x among. absurd among) (others_all past lane v (b.asks lane there) (ap own_place idle))
    (λ k is. absurd (let clash : None ≡ Some k = is in cc)) settles.1 settles.0.pushed same small t ids
begins_rest s past core new lanes begun lane c now moved.Waits (step.Ask (ask.Close g) r) h there small ran asks same
    idle settles t ids = absurd settles
begins_rest s past core new lanes begun lane c now moved.Went (step.Ask (ask.Close g) r) h there small ran asks same
    idle settles t ids = absurd settles
begins_rest s past core new lanes begun lane c now (moved.Ended o) (step.Ask (ask.Close g) r) h there small ran asks
    same idle settles t ids = absurd settles
begins_rest s past core new lanes begun lane c now m (step.Ask a r) h there small ran asks same idle settles t ids =
    begins_on s past core new lanes begun lane now m (step.Ask a r) h there small (asks, tt) same idle settles t ids
begins_rest s past core new lanes begun lane c now m (step.Wait r) h there small ran asks same idle settles t ids =
    begins_waiting s past core new lanes begun lane c now m r h there idle asks.0 asks.1 ran.sound.1 settles t ids
begins_rest s past core new lanes begun lane c now m (step.Done o) h there small ran asks same idle settles t ids =
    begins_on s past core new lanes begun lane now m (step.Done o) h there small tt same idle settles t ids

-- behind the reply that it awaited
replied_rests : (s : Setting) (past : List Entry) (core new : Core) (lanes : ℕ → LaneValue) (begun : ℕ → Bool)
    (lane : ℕ) (c : Call) (now : LaneValue) (m : Moved) → AtRest s past core lanes begun → lane < length s.lanes
    → IsSmall m → TurnReplied c s.facts (count_submitted past) core new (lanes lane) now m
    → TurnTied s past new (with_lane lanes lane) lane now m → SpendsOn s past new lanes lane now m
    → LeavesLane s past core new lanes begun lane now m
replied_rests s past core new lanes begun lane c now m h there small x t ids =
    let b = h.between in
    let v : LaneValue = lanes lane in
    let a : LaneAsks past lane v = b.asks lane there in
    let l : LaneTied s past lane v [] = b.tied.each lane there in
    let spent : Ticketed = record { place = x.awaits; ticket = x.spent.ticket } in
    let here : slice_get (ticket_places v.tickets) x.spent.k ≡ Some x.awaits =
    ticket_index v.tickets x.spent.k spent x.spent.here in
    let has : is_in x.awaits (ticket_places v.tickets) ≡ true = at_in (ticket_places v.tickets) x.spent.k x.awaits here
    in
    let got : answer past x.awaits ≡ Some x.reply = sym (replies_agree s past core lanes [] lane x.spent.k spent b.tied
    there x.spent.here) ∙ x.spent.came in
    let only : HandlesAreAwaited past lane v = handles_awaited s past lane v b.good.run a l.ends in
    let held = polled_holds s past core lanes lane x.spent.k spent x.reply b.tied there b.good.run x.spent.here
    x.spent.came (λ e. (only x.awaits has (ap is_granted got ∙ e)).0) in
    let u : LaneValue = polled_lane v x.spent.k spent x.reply in
    let holds : LaneHolds s past lane u.tickets u.grants [] = subst
    (λ (y : LaneValue). LaneHolds s past lane y.tickets y.grants []) (with_here lanes lane u) held.holds in
    settles_on s past core x.between new lanes begun lane now x.tickets x.grants (opened_after x.running (Some x.reply))
    (reads_under (Some x.running)) v.site x.answer m h there small
    (subst (λ (y : Core). Midway past core y) (sym x.spent.core)
    (midway_polled s past core lanes x.spent.ticket x.reply b.good.run b.tied b.counted x.spent.came))
    (subst (λ (gs : List Held). NamesHandles gs (answer past)) (sym x.spent.now)
    (bears s past lane u.tickets u.grants [] (answer past) holds (λ p r e. e)))
    (λ p in_left. others_left past lane x.spent.k x.awaits v x.running a l.holds.tied_rise x.was x.looks here p
    (ap (is_in p) (sym (ap ticket_places x.spent.rest ∙ ticket_without v.tickets x.spent.k)) ∙ in_left))
    (λ g is. ap (λ (gs : List Held). is_in g (grant_places gs)) x.spent.now
    ∙ held_after v x.running x.reply x.awaits x.spent.ticket x.was x.looks
    (holds_named s past lane v b.good.run there l a) g (inr is))
    x.asks (λ z among. a.reads z (subst (λ (o : Option Running). IsAmong z (reads_under o)) (sym x.was) among)) x.ended
    x.settles t ids

-- where it awaited no reply
unreplied_rests : (s : Setting) (past : List Entry) (core new : Core) (lanes : ℕ → LaneValue) (begun : ℕ → Bool)
    (lane : ℕ) (c : Call) (now : LaneValue) (m : Moved) → AtRest s past core lanes begun → lane < length s.lanes
    → IsSmall m → TurnUnreplied c s.facts (count_submitted past) core new (lanes lane) now m
    → TurnTied s past new (with_lane lanes lane) lane now m → SpendsOn s past new lanes lane now m
    → LeavesLane s past core new lanes begun lane now m
unreplied_rests s past core new lanes begun lane c now m h there small x t ids =
    let b = h.between in
    let v : LaneValue = lanes lane in
    let a : LaneAsks past lane v = b.asks lane there in
    let l : LaneTied s past lane v [] = b.tied.each lane there in
    settles_on s past core core new lanes begun lane now v.tickets v.grants (opened_after x.running None)
    (reads_under (Some x.running)) v.site x.answer m h there small (midway_self past core b.counted)
    (bears s past lane v.tickets v.grants [] (answer past) l.holds (λ p r e. e))
    (others_all past lane v a (ap own_place x.was ∙ none_own x.running v.site x.looks))
    (λ g is. held_on v x.running x.was (holds_named s past lane v b.good.run there l a) g (inr is)) x.asks
    (λ z among. a.reads z (subst (λ (o : Option Running). IsAmong z (reads_under o)) (sym x.was) among)) x.ended
    x.settles t ids

-- where the reply that it awaits is missing
widened_rests : (s : Setting) (past : List Entry) (core new : Core) (lanes : ℕ → LaneValue) (begun : ℕ → Bool)
    (lane : ℕ) (c : Call) (now : LaneValue) (m : Moved) → AtRest s past core lanes begun → lane < length s.lanes
    → IsSmall m → TurnWidens c s.facts (count_submitted past) core new (lanes lane) now m
    → TurnTied s past new (with_lane lanes lane) lane now m → SpendsOn s past new lanes lane now m
    → LeavesLane s past core new lanes begun lane now m
widened_rests s past core new lanes begun lane c now m h there small x t ids =
    let b = h.between in
    let v : LaneValue = lanes lane in
    let a : LaneAsks past lane v = b.asks lane there in
    let l : LaneTied s past lane v [] = b.tied.each lane there in
    let asks : GoesOnAsking (opened_by x.running) (count_submitted past) (reads_under (Some x.running)) v.site now.site
    x.answer =
    subst (λ (y : Site). GoesOnAsking (opened_by x.running) (count_submitted past) (reads_under (Some x.running)) v.site
    y
    x.answer) (sym x.site) (widens_on x.running (count_submitted past) v.site x.answer x.active x.asks) in
    settles_on s past core core new lanes begun lane now v.tickets v.grants (opened_by x.running)
    (reads_under (Some x.running)) v.site x.answer m h there small (midway_self past core b.counted)
    (bears s past lane v.tickets v.grants [] (answer past) l.holds (λ p r e. e))
    (others_all past lane v a (ap own_place x.was ∙ widens_others x.running (count_submitted past) v.site x.answer
    x.active
    x.asks)) (λ g is. a.keeps g (ap opened_in x.was ∙ is)) asks
    (λ z among. a.reads z (subst (λ (o : Option Running). IsAmong z (reads_under o)) (sym x.was) among)) x.ended
    x.settles t ids

pub turns_leave : TurnsLeaveRest
turns_leave s past core new lanes begun lane c now m h there is few small turned = by_turn turned
  where
    tied : TurnTied s past new (with_lane lanes lane) lane now m
    tied = (let b = h.between in turns_keep s past core new lanes lane c now m b.tied there b.good.run b.good.calm b.due
        is (handles_awaited s past lane (lanes lane) b.good.run (b.asks lane there) (b.tied.each lane there).ends)
        turned)

    moves : (n : Moved) → TurnTied s past new (with_lane lanes lane) lane now n → AskMoves s past lane n
    moves (moved.Asked id q) t = t.0
    moves other t = tt

    ids : SpendsOn s past new lanes lane now m
    ids = turn_spends s past core new lanes begun lane c now m h there is few (moves m tied) turned

    by_turn : TurnsLane c s.facts (count_submitted past) core new (lanes lane) now m
        → LeavesLane s past core new lanes begun lane now m
    by_turn (Begun x) = begins_rest s past core new lanes begun lane c now m x.answer h there small x.ran x.asks x.ended
        x.was x.settles tied ids
    by_turn (Replied x) = replied_rests s past core new lanes begun lane c now m h there small x tied ids
    by_turn (Unreplied x) = unreplied_rests s past core new lanes begun lane c now m h there small x tied ids
    by_turn (Widening x) = widened_rests s past core new lanes begun lane c now m h there small x tied ids
    by_turn (StillWaiting x) =
        subst (λ (y : Moved). TurnWaits c s.facts core new (lanes lane) now y
        → TurnTied s past new (with_lane lanes lane) lane now y → SpendsOn s past new lanes lane now y
        → LeavesLane s past core new lanes begun lane now y) (sym x.is)
        (λ w t ids. waits_rest s past core new lanes begun lane c now h there w t ids) x tied ids
