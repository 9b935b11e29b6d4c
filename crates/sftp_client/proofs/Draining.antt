-- Rounds of taking and sending, until nothing is unanswered.
use Rattle.std.proofs.Common.{◌≡◌, ◌<◌, ◌-◌, ◌^◌, ℕ, suc, Bool, true, false, [], refl, ap, sym, ◌∙◌, subst, arith, inr}
use Rattle.std.specs.Prelude.{Ok, Err, None, IsSome}
use Rattle.sftp_model.specs.ReplyReadings.{reply_at}
use Rattle.sftp_model.specs.declared.error.Error.{Error}
use Rattle.sftp_core.specs.Core.{Core, awaited_of, handed_out, unanswered_of}
use Rattle.sftp_core.specs.Info.{info_of}
use Rattle.sftp_core.specs.declared.handshake.Handshake.{Handshake}
use Rattle.sftp_link.specs.Views.{LinkView}
use Rattle.sftp_client.specs.Sessions.{FlushesQueue, SftpValue, TakesOrKept, TakesFrame}
use Rattle.sftp_client.specs.Rounds.{DrainsReplies, HasRounds, RoundStops}
use Rattle.sftp_client.proofs.Lowering.{all_awaited, hand_out_leaves, hand_out_waits, still_due, take_lowers, take_stays_open}

-- what holds between two rounds
pub record DrainsOn {L S : Type 0} (state : L → LinkView S) (old new : SftpValue L) : Type 0 where
  pub rounds : HasRounds state old new
  pub before : Core
  pub out : new.core ≡ handed_out before
  pub sent : new.unsent ≡ []
  pub unfailed : new.core.fault ≡ None
  pub opened : IsSome (info_of new.core.phase)
  pub unfaulted : (state new.link).faults ≡ (state old.link).faults

-- the link doesn't fail in rounds that go well
pub drains_first : {L S : Type 0} (state : L → LinkView S) (old new : SftpValue L) (u : Unit {0})
    → IsSome (info_of old.core.phase)
    → FlushesQueue state old new (Ok u) → DrainsOn state old new
drains_first state old new u opened flushed =
    let sends = flushed.1 in record {
      rounds = record { first = new; count = 0; unfailed = flushed.0; sends = sends; rounds = refl };
      before = old.core;
      out = ap (λ (s : SftpValue _). s.core) sends.left;
      sent = ap (λ (s : SftpValue _). s.unsent) sends.left;
      unfailed = ap (λ (s : SftpValue _). s.core.fault) sends.left ∙ flushed.0;
      opened = subst (λ (p : Handshake). IsSome (info_of p)) (sym (ap (λ (s : SftpValue _). s.core.phase) sends.left))
          opened;
      unfaulted = sends.unfaulted.cause;
    }

-- where something is unanswered, a take takes a frame
pub takes_one : {L S : Type 0} (state : L → LinkView S) (old mid new : SftpValue L) (took : Bool)
    → DrainsOn state old mid
    → 0 < unanswered_of mid.core → TakesOrKept state mid new (Ok took) → TakesFrame state mid new
takes_one state old mid new true d some takes = takes.1.1
takes_one state old mid new false d some takes =
    let none : awaited_of mid.core ≡ 0 = takes.1.none in
    let opened : IsSome (info_of d.before.phase) = subst (λ (c : Core). IsSome (info_of c.phase)) d.out d.opened in
    let all = all_awaited d.before opened in
    let due : unanswered_of mid.core ≡ unanswered_of (handed_out d.before) = ap unanswered_of d.out in
    let gone : awaited_of mid.core ≡ awaited_of (handed_out d.before) = ap awaited_of d.out in
    let same = hand_out_waits d.before in
    absurd (omega (arith, none, all, due, gone, same, some))

-- a round
pub drains_next : {L S : Type 0} (state : L → LinkView S) (old mid took new : SftpValue L) (u : Unit {0})
    → DrainsOn state old mid
    → TakesFrame state mid took → FlushesQueue state took new (Ok u) → DrainsOn state old new
drains_next state old mid took new u d takes flushed =
    let sends = flushed.1 in
    let opened = take_stays_open mid.core took.core (reply_at takes.body) takes.told d.opened takes.taken in
    record {
      rounds = record {
        first = d.rounds.first;
        count = suc d.rounds.count;
        unfailed = d.rounds.unfailed;
        sends = d.rounds.sends;
        rounds = (mid, (d.rounds.rounds, record { mid = took; takes = takes; sends = sends }));
      };
      before = took.core;
      out = ap (λ (s : SftpValue _). s.core) sends.left;
      sent = ap (λ (s : SftpValue _). s.unsent) sends.left;
      unfailed = ap (λ (s : SftpValue _). s.core.fault) sends.left ∙ flushed.0;
      opened = subst (λ (p : Handshake). IsSome (info_of p)) (sym (ap (λ (s : SftpValue _). s.core.phase) sends.left))
          opened;
      unfaulted = sends.unfaulted.cause ∙ (takes.unfaulted.cause ∙ d.unfaulted);
    }

-- and less is due after it
pub drains_less : {L S : Type 0} (state : L → LinkView S) (old mid took new : SftpValue L) (u : Unit {0})
    → DrainsOn state old mid
    → TakesFrame state mid took → FlushesQueue state took new (Ok u) → still_due new.core < still_due mid.core
drains_less state old mid took new u d takes flushed =
    let less = take_lowers mid.core took.core (reply_at takes.body) takes.told d.opened takes.right takes.taken in
    let same : still_due new.core ≡ still_due (handed_out took.core) =
    ap (λ (s : SftpValue _). still_due s.core) flushed.1.left in
    let out = hand_out_leaves took.core in omega (arith, less, same, out)

pub drain_counts : {L S : Type 0} (state : L → LinkView S) (old new : SftpValue L)
    → (state old.link).faults < 2 ^ 64 - 1 → DrainsOn state old new
    → (state new.link).faults < 2 ^ 64 - 1
drain_counts state old new count d = subst (λ (n : ℕ). n < 2 ^ 64 - 1) (sym d.unfaulted) count

pub took_counts : {L S : Type 0} (state : L → LinkView S) (old mid new : SftpValue L)
    → (state old.link).faults < 2 ^ 64 - 1 → DrainsOn state old mid
    → TakesFrame state mid new → (state new.link).faults < 2 ^ 64 - 1
took_counts state old mid new count d takes = subst (λ (n : ℕ). n < 2 ^ 64 - 1)
    (sym (takes.unfaulted.cause ∙ d.unfaulted)) count

pub drain_stops : {L S : Type 0} (state : L → LinkView S) (old mid new : SftpValue L) (e : Error)
    → DrainsOn state old mid
    → RoundStops state mid new e → DrainsReplies state old new (Err e)
drain_stops state old mid new e d stops = inr (mid, (d.rounds, stops))
