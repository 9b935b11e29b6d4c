-- What the rounds of a session leave to a whole write that is waited for.
use Rattle.std.proofs.Common.{◌≡◌, ◌<◌, ◌+◌, ◌-◌, ◌^◌, ℕ, suc, false, refl, ap, sym, ◌∙◌, subst, arith, inl, inr}
use Rattle.std.specs.Prelude.{Result, Err, IsSome}
use Rattle.sftp_model.specs.declared.error.Error.{Error}
use Rattle.sftp_model.specs.declared.error.Error.TheVariants as error
use Rattle.sftp_core.specs.Core.{Core}
use Rattle.sftp_core.specs.Info.{info_of}
use Rattle.sftp_link.specs.Views.{LinkView}
use Rattle.plan_state.specs.Keeping.{SparesOthers}
use Rattle.plan_state.specs.declared.poll.Poll.TheVariants as poll
use Rattle.plan_state.proofs.Keeping.{keeps_same}
use Rattle.plan_state.proofs.Sparing.{spares_both, spares_kept, spares_then}
use Rattle.sftp_fs.specs.WholeWrites.{CancelsWrite, FsWriteValue, IsNoneOfWrite, IsWriteHeld, WriteAnswer, is_over}
use Rattle.sftp_fs.proofs.OpenedWrites.{write_still}
use Rattle.sftp_client.specs.Sessions.{SftpValue, with_core}
use Rattle.sftp_client.specs.Waits.{RoundFails, SendsAndTakes}
use Rattle.sftp_client.specs.WriteWaits.{AreWriteRounds, HasFinishedWrite, HasWaitedWrite, MayWaitWrite, WriteIn}
use Rattle.sftp_client.proofs.Faults.{faults_kept, stop_faults}
use Rattle.sftp_client.proofs.Waiting.{fail_stays, round_stays, round_unfaulted}

-- what a poll leaves
record WriteLeaves {L : Type 0} (old new : SftpValue L) (p q : FsWriteValue) : Type 0 where
  held : IsWriteHeld new.core q.stage
  spares : SparesOthers old.core new.core (IsNoneOfWrite p.stage) (IsNoneOfWrite q.stage)
  link : new.link ≡ old.link

write_leaves : {L : Type 0} (old new : SftpValue L) (p q : FsWriteValue) (result : WriteAnswer)
    → MayWaitWrite old.core p
    → WriteIn old new p q result → WriteLeaves old new p q
write_leaves old new p q result may (inl h) =
    record {
      held = h.0.wrote.held;
      spares = h.0.wrote.spares;
      link = ap (λ (x : SftpValue _). x.link) h.1;
    }
write_leaves old new p q result may (inr h) =
    record {
      held = subst (λ (x : SftpValue _). IsWriteHeld x.core q.stage) (sym h.1.1.0)
          (subst (λ (x : FsWriteValue). IsWriteHeld old.core x.stage) (sym h.1.1.1) may.held);
      spares = subst (λ (x : SftpValue _). SparesOthers old.core x.core (IsNoneOfWrite p.stage) (IsNoneOfWrite q.stage))
          (sym h.1.1.0)
          (subst (λ (x : FsWriteValue). SparesOthers old.core old.core (IsNoneOfWrite p.stage) (IsNoneOfWrite x.stage))
          (sym h.1.1.1)
          (spares_kept old.core old.core (IsNoneOfWrite p.stage) (keeps_same old.core)));
      link = ap (λ (x : SftpValue _). x.link) h.1.1.0;
    }

-- without an answer it is under way still
pending_writes : {L : Type 0} (old new : SftpValue L) (p q : FsWriteValue) → WriteIn old new p q poll.Pending
    → is_over q.stage ≡ false
pending_writes old new p q (inl h) = h.0.wrote.over
pending_writes old new p q (inr h) = absurd cc

writes_spare : (old mid new : Core) (p m q : FsWriteValue) →
    SparesOthers old mid (IsNoneOfWrite p.stage) (IsNoneOfWrite m.stage)
    → SparesOthers mid new (IsNoneOfWrite m.stage) (IsNoneOfWrite q.stage)
    → SparesOthers old new (IsNoneOfWrite p.stage) (IsNoneOfWrite q.stage)
writes_spare old mid new p m q first last =
    spares_both old mid new (IsNoneOfWrite p.stage) (IsNoneOfWrite m.stage) (IsNoneOfWrite q.stage) first last

-- what holds between two rounds
pub record WritesOn {L S : Type 0} (state : L → LinkView S) (count : ℕ) (old new : SftpValue L) (p q : FsWriteValue) :
    Type 0 where
  pub rounds : AreWriteRounds state count old new p q
  pub may : MayWaitWrite new.core q
  pub spares : SparesOthers old.core new.core (IsNoneOfWrite p.stage) (IsNoneOfWrite q.stage)
  pub unfaulted : (state new.link).faults ≡ (state old.link).faults

pub writes_first : {L S : Type 0} (state : L → LinkView S) (old : SftpValue L) (p : FsWriteValue)
    → MayWaitWrite old.core p
    → WritesOn state 0 old old p p
writes_first state old p may =
    record {
      rounds = (refl, refl);
      may = may;
      spares = spares_kept old.core old.core (IsNoneOfWrite p.stage) (keeps_same old.core);
      unfaulted = refl;
    }

-- a round
pub writes_next : {L S : Type 0} (state : L → LinkView S) (count : ℕ) (old mid polled new : SftpValue L)
    (p m q : FsWriteValue)
    → WritesOn state count old mid p m → WriteIn mid polled m q poll.Pending → SendsAndTakes state polled new
    → WritesOn state (count + 1) old new p q
writes_next state count old mid polled new p m q w waits round =
    let next : suc count ≡ count + 1 = omega arith in
    let left = write_leaves mid polled m q poll.Pending w.may waits in
    let opened : IsSome (info_of polled.core.phase) = left.spares.opened w.may.opened in
    let stays = round_stays state polled new opened round in
    subst (λ (n : ℕ). WritesOn state n old new p q) next (record {
      rounds = (mid, (m, (w.rounds, record { mid = polled; writes = waits; round = round })));
      may = record {
        opened = stays.grants.opened opened;
        over = pending_writes mid polled m q waits;
        held = write_still polled.core new.core q.stage stays left.held;
      };
      spares = spares_then old.core polled.core new.core (IsNoneOfWrite p.stage) (IsNoneOfWrite q.stage)
          (writes_spare old.core mid.core polled.core p m q w.spares left.spares) stays;
      unfaulted = round_unfaulted state polled new round ∙ (ap (λ l. (state l).faults) left.link ∙ w.unfaulted);
    })

-- the write answered
pub writes_end : {L S : Type 0} (state : L → LinkView S) (count : ℕ) (old mid new : SftpValue L) (p m q : FsWriteValue)
    (result : Result (Unit {0}) Error) → WritesOn state count old mid p m → WriteIn mid new m q (poll.Ready result)
    → HasWaitedWrite state old new p q result
writes_end state count old mid new p m q result w polled =
    let left = write_leaves mid new m q (poll.Ready result) w.may polled in
    record {
      count = count;
      mid = mid;
      call = m;
      rounds = w.rounds;
      stops = inl polled;
      held = left.held;
      spares = writes_spare old.core mid.core new.core p m q w.spares left.spares;
      faults = faults_kept result _ _ new.core.fault (ap (λ l. (state l).faults) left.link ∙ w.unfaulted);
    }

-- or no round was left
pub writes_out : {L S : Type 0} (state : L → LinkView S) (count : ℕ) (old new : SftpValue L) (p q : FsWriteValue)
    → WritesOn state count old new p q → count ≡ 2 ^ 64 - 1 → HasWaitedWrite state old new p q (Err error.OutOfMemory)
writes_out state count old new p q w all =
    record {
      count = count;
      mid = new;
      call = q;
      rounds = w.rounds;
      stops = inr (inr (all, (refl, (refl, refl))));
      held = w.may.held;
      spares = w.spares;
      faults = w.unfaulted;
    }

-- or a round went wrong
pub writes_stop : {L S : Type 0} (state : L → LinkView S) (count : ℕ) (old mid polled new : SftpValue L)
    (p m q : FsWriteValue)
    (e : Error) → WritesOn state count old mid p m → WriteIn mid polled m q poll.Pending → RoundFails state polled new e
    → HasWaitedWrite state old new p q (Err e)
writes_stop state count old mid polled new p m q e w waits fails =
    let left = write_leaves mid polled m q poll.Pending w.may waits in
    let stays = fail_stays state polled new e (left.spares.opened w.may.opened) fails in
    record {
      count = count;
      mid = mid;
      call = m;
      rounds = w.rounds;
      stops = inr (inl (polled, (e, (waits, (fails, refl)))));
      held = write_still polled.core new.core q.stage stays left.held;
      spares = spares_then old.core polled.core new.core (IsNoneOfWrite p.stage) (IsNoneOfWrite q.stage)
          (writes_spare old.core mid.core polled.core p m q w.spares left.spares) stays;
      faults = stop_faults (Unit {0}) state (state old.link).faults polled new e (ap (λ l. (state l).faults) left.link
          ∙ w.unfaulted) fails;
    }

pub writes_count : {L S : Type 0} (state : L → LinkView S) (count : ℕ) (old mid polled : SftpValue L)
    (p m q : FsWriteValue)
    → (state old.link).faults < 2 ^ 64 - 1 → WritesOn state count old mid p m → WriteIn mid polled m q poll.Pending
    → (state polled.link).faults < 2 ^ 64 - 1
writes_count state count old mid polled p m q few w waits =
    let left = write_leaves mid polled m q poll.Pending w.may waits in
    subst (λ (n : ℕ). n < 2 ^ 64 - 1) (sym (ap (λ l. (state l).faults) left.link ∙ w.unfaulted)) few

-- ---- a write that is given up once it was run

pub finished_write : {L S : Type 0} (state : L → LinkView S) (old mid inside new : SftpValue L) (p last : FsWriteValue)
    (result : Result (Unit {0}) Error) → HasWaitedWrite state old mid p last result → inside ≡ mid
    → CancelsWrite inside.core new.core last.stage → new ≡ with_core inside new.core
    → HasFinishedWrite state old new p result
finished_write state old mid inside new p last result w same cancels left =
    let waited = subst (λ (x : SftpValue _). HasWaitedWrite state old x p last result) (sym same) w in
    record {
      mid = inside;
      last = last;
      waited = waited;
      given_up = cancels;
      left = left;
      spares = spares_both old.core inside.core new.core (IsNoneOfWrite p.stage) (IsNoneOfWrite last.stage)
          (λ id. Unit {0}) waited.spares
          cancels.spares;
    }
