-- A lane that opened a file anew, buffered it, wrote to it and flushed it leaves the bytes, in a run over a file
-- machine.
use Rattle.std.proofs.Common.{append_assoc, ◌≡◌, ◌≢◌, ◌<◌, ◌+◌, ℕ, true, List, [], ◌∷◌, ◌++◌, Option, Some, None, refl, ap, sym, ◌∙◌, subst, arith}
use Rattle.std.specs.List.{list_all}
use Rattle.sftp_model.specs.Slots.{slot_at}
use Rattle.sftp_model.specs.declared.config.Choice.{Choice}
use Rattle.sftp_model.specs.declared.config.ServerConfig.{ServerConfig}
use Rattle.sftp_model.specs.declared.outcome.Outcome.{Outcome}
use Rattle.sftp_model.specs.declared.outcome.Outcome.TheVariants as outcome
use Rattle.sftp_model.specs.declared.reply.Reply.TheVariants as reply
use Rattle.sftp_model.specs.declared.request.Request.{Request}
use Rattle.sftp_model.specs.declared.slot.Move.TheVariants.{Done}
use Rattle.sftp_model.specs.declared.slot.Site.{Site}
use Rattle.machine_model.specs.Changes.{IsWellFormed}
use Rattle.machine_model.specs.Components.{Name, components}
use Rattle.machine_model.specs.FileTree.{FileTree}
use Rattle.sftp_model.specs.OpenOptions.{flags_of}
use Rattle.sftp_model.specs.declared.open_options.OpenOptions.{OpenOptions}
use Rattle.plan_model.specs.FilePlans.{open_request}
use Rattle.plan_model.specs.Moves.{Own}
use Rattle.plan_model.specs.WholePlans.{to_replace}
use Rattle.plan_model.specs.declared.call.Call.{Call}
use Rattle.plan_model.specs.declared.call.Call.TheVariants as call
use Rattle.session_model.specs.declared.entry.Entry.{Entry}
use Rattle.session_model.specs.declared.entry.Entry.TheVariants as entry
use Rattle.session_model.specs.declared.event.Event.TheVariants.{End}
use Rattle.session_model.specs.declared.turn.Turn.{Turn}
use Rattle.session_model.specs.Calls.{GoesByPlan, Setting, call_at, lane_calls, site_of}
use Rattle.session_model.specs.Journals.{IsJournal}
use Rattle.session_model.specs.Readings.{AskedRequest, answer, count_submitted, asked_at, count_ended, own}
use Rattle.session_model.specs.Runs.{IsRun}
use Rattle.session_model.specs.Served.{ServesJournal}
use Rattle.session_model.proofs.CallsSoFar.{calls_so_far}
use Rattle.session_model.proofs.OverLaws.{runs_are_journals}
use Rattle.run_laws.specs.CallsAmong.{HasEnded}
use Rattle.run_laws.specs.InJournals.{IsOfLane, KeepsOff, PassesAt, is_of_call}
use Rattle.run_laws.specs.Steps.{HasBytes}
use Rattle.run_laws.proofs.AnewRuns.{LaneOpened, bear_all, opened_left}
use Rattle.run_laws.proofs.BufferLaws.{AreFlushed, flushed_asks}
use Rattle.run_laws.proofs.OwnLaws.{has_call, own_listed}
use Rattle.run_laws.specs.Flushes.{AreInOrder, FlushNumbers}
use Rattle.run_laws.proofs.BetweenLaws.{LeaveSlot, slot_since}
use Rattle.run_laws.proofs.BufferedSites.{BufferedAt, buffered_at}
use Rattle.run_laws.proofs.BufferedBears.{BearsOpen, bears_there, buffered_bears}
use Rattle.run_laws.proofs.JournalCalls.{site_began}
use Rattle.run_laws.specs.Listings.{site_at}
use Rattle.run_laws.proofs.PlainRuns.{IsPlain, run_plain}
use Rattle.run_laws.specs.RoundTrips.{outcome_at}
use Rattle.run_laws.proofs.CallEnds.{EndsAt, ends_at}
use Rattle.run_laws.proofs.CallRequests.{IsAsked, asked_own, may_hold}
use Rattle.run_laws.proofs.AvoidedNames.{MayWrite, avoids_plain, passes_so}
use Rattle.run_laws.proofs.CallSites.{answer_since, given_call, journal_at, outcome_at_end, own_since, plain_at, plan_done}
use Rattle.plan_model.specs.CallPlans.{next}

-- Calls of a lane with these numbers open the name's file in a slot to be written anew, buffer it, write bytes to it
-- and flush it. All ended well, and the calls between leave the slot.
pub record FlushedCalls (s : Setting) (past : List Entry) (name : Name) (lane : ℕ) (n : FlushNumbers) (bytes : List ℕ) :
    Type 0 where
  pub slot : ℕ
  pub len : ℕ
  pub options : OpenOptions
  pub path : List ℕ
  pub anew : flags_of options ≡ to_replace
  pub denotes : components path ≡ name
  pub opens : given_call s lane n.opener ≡ Some (call.OpenFile slot options path)
  pub buffers : given_call s lane n.bufferer ≡ Some (call.Buffer slot len)
  pub writes : given_call s lane n.writer ≡ Some (call.BufWriteAll slot bytes)
  pub flushes : given_call s lane n.flusher ≡ Some (call.BufFlush slot)
  pub opened : outcome_at past lane n.opener ≡ Some outcome.Opened
  pub buffered : outcome_at past lane n.bufferer ≡ Some outcome.Done
  pub written : outcome_at past lane n.writer ≡ Some outcome.Done
  pub flushed : outcome_at past lane n.flusher ≡ Some outcome.Done
  pub order : AreInOrder n
  pub leave_open : LeaveSlot s lane slot (n.opener + 1) n.bufferer
  pub leave_buffer : LeaveSlot s lane slot (n.bufferer + 1) n.writer
  pub leave_written : LeaveSlot s lane slot (n.writer + 1) n.flusher

-- ---- a call that ended, with what it left

pub ended_as : (s : Setting) (past : List Entry) (lane n : ℕ) (o : Outcome) (c : Call) (t : EndsAt s past lane n o)
    → IsJournal s past → IsPlain past → given_call s lane n ≡ Some c
    → (e : HasEnded c (site_of s t.before lane) s.facts (own past lane n) (answer past) o) × (e.left ≡ t.site)
ended_as s past lane n o c t j p is =
    let d = plan_done s past lane n o c t p is in
    let plans : GoesByPlan s t.before lane c = calls_so_far s t.before lane c (journal_at s past lane n o t j) d.0 in
    let same : own t.before lane (count_ended t.before lane) ≡ own past lane n = ap (own t.before lane) t.at
    ∙ sym (own_since s past lane n n o t j (omega arith)) in (
      record {
        by = answer t.before;
        stay = λ place r x. answer_since s past lane n o t j place r x;
        requests = plans.requests;
        are = plans.are ∙ same;
        so_far = plans.so_far;
        left = t.site;
        ends = subst (λ (l : Own). next c (site_of s t.before lane) s.facts l (answer t.before) ≡ Done o t.site) same
            d.1;
      },
      refl,
    )

-- A call writes bytes to a slot, and a later one flushes it. Both ended well, and the calls between leave the slot.
pub record WrittenThenFlushed (s : Setting) (past : List Entry) (lane n m slot : ℕ) (bytes : List ℕ) : Type 0 where
  pub second : EndsAt s past lane m outcome.Done
  pub first : EndsAt s second.before lane n outcome.Done
  pub wrote : HasEnded (call.BufWriteAll slot bytes) (site_of s first.before lane) s.facts (own past lane n)
      (answer past) outcome.Done
  pub same : slot_at (site_of s second.before lane) slot ≡ slot_at wrote.left slot
  pub flush : HasEnded (call.BufFlush slot) (site_of s second.before lane) s.facts (own past lane m) (answer past)
      outcome.Done

pub written_then_flushed : (s : Setting) (past : List Entry) (lane n m slot : ℕ) (bytes : List ℕ) → IsJournal s past
    → IsPlain past → n < m → given_call s lane n ≡ Some (call.BufWriteAll slot bytes)
    → given_call s lane m ≡ Some (call.BufFlush slot) → outcome_at past lane n ≡ Some outcome.Done
    → outcome_at past lane m ≡ Some outcome.Done → LeaveSlot s lane slot (n + 1) m
    → WrittenThenFlushed s past lane n m slot bytes
written_then_flushed s past lane n m slot bytes j p later writes flushes written flushed leave =
    record {
      second = second;
      first = first;
      wrote = wrote;
      same = same;
      flush =
          (ended_as s past lane m outcome.Done (call.BufFlush slot) second j p flushes).0;
    }
  where
    second : EndsAt s past lane m outcome.Done
    second = ends_at s past lane m outcome.Done j (λ e. cc) flushed

    j2 : IsJournal s second.before
    j2 = journal_at s past lane m outcome.Done second j

    p2 : IsPlain second.before
    p2 = plain_at s past lane m outcome.Done second p

    first : EndsAt s second.before lane n outcome.Done
    first = ends_at s second.before lane n outcome.Done j2 (λ e. cc)
        (outcome_at_end s past lane m n outcome.Done outcome.Done second later written)

    wrote_so : (e : HasEnded (call.BufWriteAll slot bytes) (site_of s first.before lane) s.facts
        (own second.before lane n) (answer second.before) outcome.Done) × (e.left ≡ first.site)
    wrote_so = ended_as s second.before lane n outcome.Done (call.BufWriteAll slot bytes) first j2 p2 writes

    own_same : own second.before lane n ≡ own past lane n
    own_same = sym (own_since s past lane m n outcome.Done second j (omega (arith, later)))

    wrote : HasEnded (call.BufWriteAll slot bytes) (site_of s first.before lane) s.facts (own past lane n) (answer past)
        outcome.Done
    wrote =
        record {
          by = wrote_so.0.by;
          stay = λ place r x. answer_since s past lane m outcome.Done second j place r (wrote_so.0.stay place r x);
          requests = wrote_so.0.requests;
          are = wrote_so.0.are ∙ own_same;
          so_far = wrote_so.0.so_far;
          left = wrote_so.0.left;
          ends = subst (λ (l : Own). next (call.BufWriteAll slot bytes) (site_of s first.before lane) s.facts l
              wrote_so.0.by ≡ Done outcome.Done wrote_so.0.left) own_same wrote_so.0.ends;
        }

    same : slot_at (site_of s second.before lane) slot ≡ slot_at wrote.left slot
    same =
        slot_since s second.before lane slot n m outcome.Done (call.BufFlush slot) first j2 p2 second.at flushes leave
        ∙ ap (λ (x : Site). slot_at x slot) (sym wrote_so.1)

-- what the lane held as the first of two calls began
pub first_began : (s : Setting) (past : List Entry) (lane n m slot : ℕ) (bytes : List ℕ)
    (t : WrittenThenFlushed s past lane n m slot bytes) → site_at s past lane n ≡ site_of s t.first.before lane
first_began s past lane n m slot bytes t =
    subst (λ (l : List Entry). site_at s l lane n ≡ site_of s before lane) whole
    (subst (λ (k : ℕ). site_at s ((t.second.more ++ last ∷ t.first.more) ++ end ∷ before) lane k
    ≡ site_of s before lane) t.first.at (site_began s (t.second.more ++ last ∷ t.first.more) before lane
    outcome.Done))
  where
    before : List Entry
    before = t.first.before

    end : Entry
    end = entry.Event (End lane (count_ended before lane) outcome.Done)

    last : Entry
    last = entry.Event (End lane (count_ended t.second.before lane) outcome.Done)

    whole : (t.second.more ++ last ∷ t.first.more) ++ end ∷ before ≡ past
    whole = append_assoc t.second.more (last ∷ t.first.more) (end ∷ before)
        ∙ (ap (λ (l : List Entry). t.second.more ++ last ∷ l) t.first.is ∙ t.second.is)

-- ---- what was opened, written and flushed

-- The call's OPEN of the name, the requests of the call that writes, which bear its grant, and what the flush says of
-- them.
pub record IsFlushed (s : Setting) (past : List Entry) (name : Name) (lane : ℕ) (n : FlushNumbers) (bytes : List ℕ) :
    Type 0 where
  pub w : ℕ × Request
  pub opened : LaneOpened s past name lane n.opener n.writer w (own past lane n.writer)
  pub bears : (place : ℕ) (a : AskedRequest) → is_of_call past (lane, n.writer) place ≡ true → asked_at past place
      ≡ Some a
      → BearsOpen s past w.0 opened.handle place a.request
  pub asked : AreFlushed opened.handle 0 bytes (answer past) (own past lane n.writer)

pub is_flushed : (s : Setting) (past : List Entry) (name : Name) (lane : ℕ) (n : FlushNumbers) (bytes : List ℕ)
    → IsJournal s past
    → IsPlain past → list_all (may_hold name) (lane_calls s past lane) ≡ true
    → ((other : ℕ) → other ≢ lane → KeepsOff past name other) → FlushedCalls s past name lane n bytes
    → IsFlushed s past name lane n bytes
is_flushed s past name lane n bytes j p own_calls others f =
    record {
      w = ba.w;
      opened = opened;
      bears = λ place a mine is. bears place a mine is;
      asked =
          subst (λ (at : ℕ). AreFlushed ba.handle at bytes (answer past) (own past lane n.writer)) ba.start
          (flushed_asks (answer past) f.slot ba.file ba.buffer bytes (site_of s t2.before lane)
          (site_of s t3.before lane) s.facts s.facts
          (own past lane n.writer) (own past lane n.flusher) ba.handle
          (bear_all past (count_submitted past) lane n.writer ba.handle (own past lane n.writer)
          (own_listed past lane n.writer).1
          (λ place has. has_call past lane n.writer place (own past lane n.writer) refl has)
          (λ place a mine is. (bears place a mine is).0))
          ba.there two.wrote two.same two.flush);
    }
  where
    c2 : Call
    c2 = call.BufWriteAll f.slot bytes

    to_writer : n.opener < n.writer
    to_writer = let a : n.opener < n.bufferer = f.order.0 in let b : n.bufferer < n.writer = f.order.1 in
        omega (arith, a, b)

    to_flusher : n.opener < n.flusher
    to_flusher = let a : n.opener < n.writer = to_writer in let b : n.writer < n.flusher = f.order.2 in
        omega (arith, a, b)

    buffered_first : n.bufferer < n.flusher
    buffered_first = let a : n.bufferer < n.writer = f.order.1 in let b : n.writer < n.flusher = f.order.2 in
        omega (arith, a, b)

    two : WrittenThenFlushed s past lane n.writer n.flusher f.slot bytes
    two = written_then_flushed s past lane n.writer n.flusher f.slot bytes j p f.order.2 f.writes f.flushes f.written
        f.flushed
        f.leave_written

    t3 : EndsAt s past lane n.flusher outcome.Done
    t3 = two.second

    j3 : IsJournal s t3.before
    j3 = journal_at s past lane n.flusher outcome.Done t3 j

    p3 : IsPlain t3.before
    p3 = plain_at s past lane n.flusher outcome.Done t3 p

    t2 : EndsAt s t3.before lane n.writer outcome.Done
    t2 = two.first

    ba : BufferedAt s t2.before lane n.opener f.slot (flags_of f.options) f.path
    ba =
        buffered_at s t2.before lane n.opener n.bufferer n.writer f.slot f.options f.path f.len c2
        (journal_at s t3.before lane n.writer outcome.Done t2 j3)
        (plain_at s t3.before lane n.writer outcome.Done t2 p3) t2.at f.order.0 f.order.1 f.opens f.buffers f.writes
        (outcome_at_end s t3.before lane n.writer n.opener outcome.Done outcome.Opened t2 to_writer
        (outcome_at_end s past lane n.flusher n.opener outcome.Done outcome.Opened t3 to_flusher f.opened))
        (outcome_at_end s t3.before lane n.writer n.bufferer outcome.Done outcome.Done t2 f.order.1
        (outcome_at_end s past lane n.flusher n.bufferer outcome.Done outcome.Done t3 buffered_first f.buffered))
        f.leave_open f.leave_buffer

    asked_open : own past lane n.opener ≡ ba.w ∷ []
    asked_open = own_since s past lane n.flusher n.opener outcome.Done t3 j (omega (arith, to_flusher))
        ∙ (own_since s t3.before lane n.writer n.opener outcome.Done t2 j3 (omega (arith, to_writer)) ∙ ba.opens)

    came : answer past ba.w.0 ≡ Some (reply.Handle ba.handle)
    came = answer_since s past lane n.flusher outcome.Done t3 j ba.w.0 (reply.Handle ba.handle)
        (answer_since s t3.before lane n.writer outcome.Done t2 j3 ba.w.0 (reply.Handle ba.handle) ba.came)

    lanes : IsOfLane past name lane
    lanes =
        record {
          others = others;
          by_opens = λ place i a is mine plain. (let x : IsAsked name s past lane i place a.request =
              asked_own name s past lane i place a j own_calls is mine in
              avoids_plain s past name place x.c a.request x.asks plain);
        }

    opened : LaneOpened s past name lane n.opener n.writer ba.w (own past lane n.writer)
    opened =
        record {
          lanes = lanes;
          opens = asked_open;
          path = f.path;
          anew = ba.asks ∙ ap (λ fl. open_request fl f.path) f.anew;
          denotes = f.denotes;
          handle = ba.handle;
          came = came;
          in_turn = to_writer;
          asks = refl;
        }

    -- a request of the call that writes
    bears : (place : ℕ) (a : AskedRequest) → is_of_call past (lane, n.writer) place ≡ true → asked_at past place
        ≡ Some a
        → BearsOpen s past ba.w.0 ba.handle place a.request
    bears place a mine is =
        subst (λ (g : ℕ). BearsOpen s past g ba.handle place a.request) ba.grant
        (buffered_bears s past lane n.writer f.slot bytes ba.handle ba.file ba.buffer j p f.writes
        (ap (λ (x : Site). slot_at x f.slot) (first_began s past lane n.writer n.flusher f.slot bytes two) ∙ ba.there)
        (ap (answer past) ba.grant ∙ came) place a mine is)

-- what a lane's calls ask that may not write the name passes it by
pub held_passes : (s : Setting) (past : List Entry) (name : Name) (lane n place : ℕ) → IsJournal s past
    → list_all (may_hold name) (lane_calls s past lane) ≡ true → is_of_call past (lane, n) place ≡ true
    → ((c : Call) → call_at s past lane n ≡ Some c → MayWrite name c → ⊥) → PassesAt s past name place
held_passes s past name lane n place j own_calls mine spares = by_asked (asked_at past place) refl
  where
    by_asked : (x : Option AskedRequest) → asked_at past place ≡ x → PassesAt s past name place
    by_asked None nothing =
        record {
          avoids = λ b at. absurd (let both : None ≡ Some b = sym nothing ∙ at in cc);
          writes = λ b h grant at w uses. absurd (let both : None ≡ Some b = sym nothing ∙ at in cc);
        }
    by_asked (Some a) is =
        let x : IsAsked name s past lane n place a.request = asked_own name s past lane n place a j own_calls is mine in
        passes_so s past name lane n place a is x (λ w. spares x.c x.is w)

-- ---- what is left

pub flush_left : (s : Setting) (turns : List Turn) (past : List Entry) (config : ServerConfig) (choices : List Choice)
    (tree left : FileTree) (name : Name) (lane : ℕ) (n : FlushNumbers) (bytes : List ℕ) → IsRun s turns past
    → IsWellFormed tree
    → ServesJournal config choices tree past left
    → list_all (may_hold name) (lane_calls s past lane) ≡ true → ((other : ℕ) → other ≢ lane → KeepsOff past name other)
    → ((i : ℕ) (c : Call) → n.opener < i → i ≢ n.writer → call_at s past lane i ≡ Some c → MayWrite name c → ⊥)
    → FlushedCalls s past name lane n bytes → HasBytes left name bytes
flush_left s turns past config choices tree left name lane n bytes run well served own_calls others spares f =
    opened_left s config choices tree left turns past name lane n.opener n.writer b.w (own past lane n.writer) bytes run
    served well b.opened
    (λ place i above ne mine. held_passes s past name lane i place j own_calls mine (λ c is. spares i c above ne is))
    (λ place a mine is. (b.bears place a mine is).0)
    (λ place mine. (bears_there s past lane n.writer b.w.0 b.opened.handle b.bears place mine).1) b.asked
  where
    j : IsJournal s past
    j = runs_are_journals s turns past run

    b : IsFlushed s past name lane n bytes
    b = is_flushed s past name lane n bytes j (run_plain s turns past run) own_calls others f
