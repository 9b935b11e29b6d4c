-- What the rounds of a session leave to a whole read that is waited for.
use Rattle.std.proofs.Common.{◌≡◌, ◌<◌, ◌+◌, ◌-◌, ◌^◌, ℕ, suc, false, refl, ap, sym, ◌∙◌, subst, arith, inl, inr}
use Rattle.std.specs.Prelude.{List, ◌++◌, Result, Ok, Err, IsSome}
use Rattle.bytes.specs.Filled.{Filled}
use Rattle.sftp_model.specs.declared.error.Error.{Error}
use Rattle.sftp_model.specs.declared.error.Error.TheVariants as error
use Rattle.sftp_core.specs.Core.{Core, kept_of}
use Rattle.sftp_core.specs.Info.{info_of}
use Rattle.sftp_link.specs.Views.{LinkView}
use Rattle.plan_state.specs.Keeping.{SparesOthers}
use Rattle.plan_state.proofs.Keeping.{keeps_same}
use Rattle.plan_state.proofs.Sparing.{spares_both, spares_kept, spares_then}
use Rattle.plan_state.specs.declared.poll.Poll.TheVariants as poll
use Rattle.plan_state.specs.Calls.{CallValue, CancelsAwaited}
use Rattle.plan_state.specs.Runners.{Meaning}
use Rattle.sftp_file.specs.Copies.{CopyValue, StandsAt, copy_meaning}
use Rattle.sftp_file.specs.Files.{FileValue, IsMoved}
use Rattle.sftp_file.specs.Gathers.{GivesBytes, ReadAllValue, reading_all}
use Rattle.sftp_file.specs.declared.whole_reads.ReadAllError.{ReadAllError}
use Rattle.sftp_fs_read.specs.WholeReads.{CancelsRead, FsReadValue, IsNoneOfRead, IsReadHeld, ReadAnswer, is_over}
use Rattle.sftp_fs_read.proofs.ReadEnds.{read_still}
use Rattle.sftp_client.specs.Sessions.{SftpValue, with_core}
use Rattle.sftp_client.specs.Waits.{HasFinished, HasWaited, RoundFails}
use Rattle.sftp_client.specs.WholeWaits.{AreReadRounds, HasCopied, HasFinishedRead, HasReadBytes, HasWaitedCopy, HasWaitedRead, MayRound, MayWaitRead, ReadIn}
use Rattle.sftp_client.proofs.Faults.{faults_kept, stop_faults}
use Rattle.sftp_client.proofs.Waiting.{fail_stays, finished, round_stays, round_unfaulted}

-- what a poll leaves
record ReadLeaves {L : Type 0} (old new : SftpValue L) (p q : FsReadValue) : Type 0 where
  held : IsReadHeld new.core q.stage
  spares : SparesOthers old.core new.core (IsNoneOfRead p.stage) (IsNoneOfRead q.stage)
  link : new.link ≡ old.link

read_leaves : {L : Type 0} (old new : SftpValue L) (p q : FsReadValue) (result : ReadAnswer) → MayWaitRead old.core p
    → ReadIn old new p q result → ReadLeaves old new p q
read_leaves old new p q result may (inl h) =
    record {
      held = h.0.held;
      spares = h.0.spares;
      link = ap (λ (x : SftpValue _). x.link) h.1;
    }
read_leaves old new p q result may (inr h) =
    record {
      held = subst (λ (x : SftpValue _). IsReadHeld x.core q.stage) (sym h.1.1.0)
          (subst (λ (x : FsReadValue). IsReadHeld old.core x.stage) (sym h.1.1.1) may.held);
      spares = subst (λ (x : SftpValue _). SparesOthers old.core x.core (IsNoneOfRead p.stage) (IsNoneOfRead q.stage))
          (sym h.1.1.0)
          (subst (λ (x : FsReadValue). SparesOthers old.core old.core (IsNoneOfRead p.stage) (IsNoneOfRead x.stage))
          (sym h.1.1.1)
          (spares_kept old.core old.core (IsNoneOfRead p.stage) (keeps_same old.core)));
      link = ap (λ (x : SftpValue _). x.link) h.1.1.0;
    }

-- without an answer it is under way still
pending_reads : {L : Type 0} (old new : SftpValue L) (p q : FsReadValue) → ReadIn old new p q poll.Pending
    → is_over q.stage ≡ false
pending_reads old new p q (inl h) = h.0.over
pending_reads old new p q (inr h) = absurd cc

-- and the session open
pending_open : {L : Type 0} (old new : SftpValue L) (p q : FsReadValue) → MayWaitRead old.core p
    → ReadIn old new p q poll.Pending
    → IsSome (info_of new.core.phase)
pending_open old new p q may (inl h) = h.0.spares.opened may.opened
pending_open old new p q may (inr h) = absurd cc

-- what holds between two rounds
pub record ReadsOn {L S : Type 0} (state : L → LinkView S) (count : ℕ) (old new : SftpValue L) (p q : FsReadValue) :
    Type 0 where
  pub rounds : AreReadRounds state count old new p q
  pub may : MayWaitRead new.core q
  pub spares : SparesOthers old.core new.core (IsNoneOfRead p.stage) (IsNoneOfRead q.stage)
  pub unfaulted : (state new.link).faults ≡ (state old.link).faults

pub reads_first : {L S : Type 0} (state : L → LinkView S) (old : SftpValue L) (p : FsReadValue) → MayWaitRead old.core p
    → ReadsOn state 0 old old p p
reads_first state old p may =
    record {
      rounds = (refl, refl);
      may = may;
      spares = spares_kept old.core old.core (IsNoneOfRead p.stage) (keeps_same old.core);
      unfaulted = refl;
    }

reads_spare : (old mid new : Core) (p m q : FsReadValue) → SparesOthers old mid (IsNoneOfRead p.stage)
    (IsNoneOfRead m.stage)
    → SparesOthers mid new (IsNoneOfRead m.stage) (IsNoneOfRead q.stage)
    → SparesOthers old new (IsNoneOfRead p.stage) (IsNoneOfRead q.stage)
reads_spare old mid new p m q first last =
    spares_both old mid new (IsNoneOfRead p.stage) (IsNoneOfRead m.stage) (IsNoneOfRead q.stage) first last

-- a round, or none
pub reads_next : {L S : Type 0} (state : L → LinkView S) (count : ℕ) (old mid polled new : SftpValue L)
    (p m q : FsReadValue)
    → ReadsOn state count old mid p m → ReadIn mid polled m q poll.Pending
    → MayRound state (kept_of mid.core) polled new (Ok tt)
    → ReadsOn state (count + 1) old new p q
reads_next state count old mid polled new p m q w waits (inl same) =
    let next : suc count ≡ count + 1 = omega arith in
    let left = read_leaves mid polled m q poll.Pending w.may waits in
    let opened = pending_open mid polled m q w.may waits in
    subst (λ (n : ℕ). ReadsOn state n old new p q) next (record {
      rounds = (mid, (m, (w.rounds, record { mid = polled; reads = waits; round = inl same })));
      may = subst (λ (x : SftpValue _). MayWaitRead x.core q) (sym same.0)
          (record { opened = opened; over = pending_reads mid polled m q waits; held = left.held });
      spares = subst (λ (x : SftpValue _). SparesOthers old.core x.core (IsNoneOfRead p.stage) (IsNoneOfRead q.stage))
          (sym same.0)
          (reads_spare old.core mid.core polled.core p m q w.spares left.spares);
      unfaulted = ap (λ (x : SftpValue _). (state x.link).faults) same.0
          ∙ (ap (λ l. (state l).faults) left.link ∙ w.unfaulted);
    })
reads_next state count old mid polled new p m q w waits (inr round) =
    let next : suc count ≡ count + 1 = omega arith in
    let left = read_leaves mid polled m q poll.Pending w.may waits in
    let opened = pending_open mid polled m q w.may waits in
    let stays = round_stays state polled new opened round.1 in
    subst (λ (n : ℕ). ReadsOn state n old new p q) next (record {
      rounds = (mid, (m, (w.rounds, record { mid = polled; reads = waits; round = inr round })));
      may = record {
        opened = stays.grants.opened opened;
        over = pending_reads mid polled m q waits;
        held = read_still polled.core new.core q.stage stays left.held;
      };
      spares = spares_then old.core polled.core new.core (IsNoneOfRead p.stage) (IsNoneOfRead q.stage)
          (reads_spare old.core mid.core polled.core p m q w.spares left.spares) stays;
      unfaulted = round_unfaulted state polled new round.1 ∙ (ap (λ l. (state l).faults) left.link ∙ w.unfaulted);
    })

-- the read answered
pub reads_end : {L S : Type 0} (state : L → LinkView S) (count : ℕ) (old mid new : SftpValue L) (p m q : FsReadValue)
    (result : Result Filled Error) → ReadsOn state count old mid p m → ReadIn mid new m q (poll.Ready result)
    → HasWaitedRead state old new p q result
reads_end state count old mid new p m q result w polled =
    let left = read_leaves mid new m q (poll.Ready result) w.may polled in
    record {
      count = count;
      mid = mid;
      call = m;
      rounds = w.rounds;
      stops = inl polled;
      held = left.held;
      spares = reads_spare old.core mid.core new.core p m q w.spares left.spares;
      faults = faults_kept result _ _ new.core.fault (ap (λ l. (state l).faults) left.link ∙ w.unfaulted);
    }

-- or no round was left
pub reads_out : {L S : Type 0} (state : L → LinkView S) (count : ℕ) (old new : SftpValue L) (p q : FsReadValue)
    → ReadsOn state count old new p q → count ≡ 2 ^ 64 - 1 → HasWaitedRead state old new p q (Err error.OutOfMemory)
reads_out state count old new p q w all =
    record {
      count = count;
      mid = new;
      call = q;
      rounds = w.rounds;
      stops = inr (inr (all, (refl, (refl, refl))));
      held = w.may.held;
      spares = w.spares;
      faults = w.unfaulted;
    }

-- or a round went wrong
pub reads_stop : {L S : Type 0} (state : L → LinkView S) (count : ℕ) (old mid polled new : SftpValue L)
    (p m q : FsReadValue)
    (e : Error) → ReadsOn state count old mid p m → ReadIn mid polled m q poll.Pending → RoundFails state polled new e
    → HasWaitedRead state old new p q (Err e)
reads_stop state count old mid polled new p m q e w waits fails =
    let left = read_leaves mid polled m q poll.Pending w.may waits in
    let stays = fail_stays state polled new e (pending_open mid polled m q w.may waits) fails in
    record {
      count = count;
      mid = mid;
      call = m;
      rounds = w.rounds;
      stops = inr (inl (polled, (e, (waits, (fails, refl)))));
      held = read_still polled.core new.core q.stage stays left.held;
      spares = spares_then old.core polled.core new.core (IsNoneOfRead p.stage) (IsNoneOfRead q.stage)
          (reads_spare old.core mid.core polled.core p m q w.spares left.spares) stays;
      faults = stop_faults Filled state (state old.link).faults polled new e (ap (λ l. (state l).faults) left.link
          ∙ w.unfaulted) fails;
    }

pub reads_count : {L S : Type 0} (state : L → LinkView S) (count : ℕ) (old mid polled : SftpValue L)
    (p m q : FsReadValue)
    → (state old.link).faults < 2 ^ 64 - 1 → ReadsOn state count old mid p m → ReadIn mid polled m q poll.Pending
    → (state polled.link).faults < 2 ^ 64 - 1
reads_count state count old mid polled p m q few w waits =
    let left = read_leaves mid polled m q poll.Pending w.may waits in
    subst (λ (n : ℕ). n < 2 ^ 64 - 1) (sym (ap (λ l. (state l).faults) left.link ∙ w.unfaulted)) few

-- ---- a read that is given up once it was run

pub finished_read : {L S : Type 0} (state : L → LinkView S) (old mid inside new : SftpValue L) (p last : FsReadValue)
    (result : Result Filled Error) → HasWaitedRead state old mid p last result → inside ≡ mid
    → CancelsRead inside.core new.core last.stage → new ≡ with_core inside new.core
    → HasFinishedRead state old new p result
finished_read state old mid inside new p last result w same cancels left =
    let waited = subst (λ (x : SftpValue _). HasWaitedRead state old x p last result) (sym same) w in
    record {
      mid = inside;
      last = last;
      waited = waited;
      given_up = cancels;
      left = left;
      spares = spares_both old.core inside.core new.core (IsNoneOfRead p.stage) (IsNoneOfRead last.stage)
          (λ id. Unit {0}) waited.spares
          cancels.spares;
    }

-- a call that was given up once it was run, and how it was then
pub finished_last : {W M V L S : Type 0} (s : Meaning W M V) (state : L → LinkView S) (old mid inside new : SftpValue L)
    (p last : CallValue M) (result : Result V Error) → HasWaited s state old mid p last result → inside ≡ mid
    → CancelsAwaited inside.core new.core last.stage → new ≡ with_core inside new.core
    → (h : HasFinished s state old new p result) × (h.last ≡ last)
finished_last s state old mid inside new p last result w same cancels left =
    let f = finished s state old mid inside new p last result w same cancels left in (
      record {
        mid = inside;
        last = last;
        waited = subst (λ (x : SftpValue _). HasWaited s state old x p last result) (sym same) w;
        given_up = cancels;
        left = left;
        holds = f.holds;
        grants = f.grants;
        others = f.others;
        spares = f.spares;
      },
      refl,
    )

pub finished_copy : {L S : Type 0} (state : L → LinkView S) (old mid inside new : SftpValue L)
    (p last : CallValue CopyValue)
    (f f' g g' : FileValue) (result : Result (Unit {0}) Error) → HasWaitedCopy state old mid p last f f' g g' result
    → inside ≡ mid
    → CancelsAwaited inside.core new.core last.stage → new ≡ with_core inside new.core
    → HasCopied state old new p f f' g g' result
finished_copy state old mid inside new p last f f' g g' result w same cancels left =
    let h = finished_last copy_meaning state old mid inside new p last result w.waited same cancels left in
    record {
      finished = h.0;
      source = subst (λ (x : CallValue CopyValue). StandsAt 0 f f' x.runner.source) (sym h.1) w.source;
      target = subst (λ (x : CallValue CopyValue). StandsAt 1 g g' x.runner.target) (sym h.1) w.target;
    }

pub finished_bytes : {L S : Type 0} (state : L → LinkView S) (old mid inside new : SftpValue L)
    (p last : CallValue ReadAllValue)
    (before after : FileValue) (answer : Result (Unit {0}) Error) (result : Result Filled ReadAllError) (got : List ℕ)
    → HasWaited reading_all state old mid p last answer → inside ≡ mid → CancelsAwaited inside.core new.core last.stage
    → new ≡ with_core inside new.core → got ≡ last.runner.before ++ last.runner.got → GivesBytes got answer result
    → IsMoved before after last.runner.file → HasReadBytes state old new p before after result
finished_bytes state old mid inside new p last before after answer result got w same cancels left bytes gives moved =
    let h = finished_last reading_all state old mid inside new p last answer w same cancels left in
    record {
      answer = answer;
      finished = h.0;
      gives = subst (λ (x : CallValue ReadAllValue). GivesBytes (x.runner.before ++ x.runner.got) answer result)
          (sym h.1)
          (subst (λ (l : List ℕ). GivesBytes l answer result) bytes gives);
      moved = subst (λ (x : CallValue ReadAllValue). IsMoved before after x.runner.file) (sym h.1) moved;
    }
