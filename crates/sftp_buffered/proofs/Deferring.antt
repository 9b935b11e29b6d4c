-- What a look at the oldest status answers, and the parts of a send.
use Rattle.std.proofs.Common.{◌≡◌, ◌∙◌, refl, sym, ap, subst, ℕ, Bool, true, false, List, Option, Some, Result, Ok, Err, ◌==◌, ◌+◌, ◌<◌, ◌^◌, if◌then◌else◌}
use Rattle.sftp_model.specs.Numbers.{SSH_FX_OK}
use Rattle.sftp_model.specs.declared.error.Error.{Error}
use Rattle.sftp_model.specs.declared.error.Error.TheVariants as error
use Rattle.sftp_model.specs.declared.reply.Reply.{Reply}
use Rattle.sftp_model.specs.declared.reply.Reply.TheVariants as reply
use Rattle.sftp_core.specs.Core.{Core}
use Rattle.plan_model.specs.BufferPlans.{is_good}
use Rattle.plan_state.specs.Asked.{SubmitsAsking}
use Rattle.plan_state.specs.declared.poll.Poll.TheVariants as poll
use Rattle.sftp_buffered.proofs.Holding.{freed_reading, parts_of}
use Rattle.sftp_buffered.specs.declared.file.ReadUnderWay.{ReadUnderWay}
use Rattle.sftp_buffered.specs.Buffered.{CompatValue}
use Rattle.sftp_buffered.specs.Steps.{
  LooksAtOldest,
  after_written,
  with_deferred_write,
  with_oldest_settled,
  freed_core,
  oldest_polled,
  oldest_reply,
  read_dropped,
  status_value,
  without_oldest,
}
use Rattle.sftp_buffered.specs.Writes.{SendsWrites}

-- a status that isn't good is answered
refused_by : (old new : Core) (p q : CompatValue) (code : ℕ) (message language : List ℕ) (b : Bool)
    → (code == SSH_FX_OK) ≡ b → b ≡ false
    → oldest_reply old p.deferred ≡ Some (reply.Status code message language) → q ≡ without_oldest p → new
    ≡ oldest_polled old p.deferred
    → LooksAtOldest old new p q (poll.Ready (if b then Ok tt else Err (error.SftpError code message language)))
refused_by old new p q code message language true is bad came left core = absurd cc
refused_by old new p q code message language false is bad came left core =
    record {
      reply = reply.Status code message language;
      came = came;
      refuses = (λ i. if is i then Ok tt else Err (error.SftpError code message language));
      left = left;
      core = core;
    }

refused_is : (old new : Core) (p q : CompatValue) (r : Reply) → oldest_reply old p.deferred ≡ Some r → is_good (Some r)
    ≡ false → q ≡ without_oldest p
    → new ≡ oldest_polled old p.deferred → LooksAtOldest old new p q (poll.Ready (status_value r))
refused_is old new p q (reply.Status code message language) came bad left core =
    refused_by old new p q code message language (code == SSH_FX_OK) refl bad came left core
refused_is old new p q (reply.Handle handle) came bad left core =
    record { reply = reply.Handle handle; came = came; refuses = refl; left = left; core = core }
refused_is old new p q (reply.Version version extensions) came bad left core =
    record { reply = reply.Version version extensions; came = came; refuses = refl; left = left; core = core }
refused_is old new p q (reply.Content content) came bad left core =
    record { reply = reply.Content content; came = came; refuses = refl; left = left; core = core }
refused_is old new p q (reply.Names names) came bad left core =
    record { reply = reply.Names names; came = came; refuses = refl; left = left; core = core }
refused_is old new p q (reply.Attrs attrs) came bad left core =
    record { reply = reply.Attrs attrs; came = came; refuses = refl; left = left; core = core }
refused_is old new p q (reply.Extended content) came bad left core =
    record { reply = reply.Extended content; came = came; refuses = refl; left = left; core = core }

pub refused_oldest : (old new : Core) (p q : CompatValue) (r : Reply) (value : Result (Unit {0}) Error)
    → oldest_reply old p.deferred ≡ Some r → is_good (Some r) ≡ false
    → value ≡ status_value r → q ≡ without_oldest p → new ≡ oldest_polled old p.deferred
    → LooksAtOldest old new p q (poll.Ready value)
refused_oldest old new p q r value came bad is left core =
    subst (λ (x : Result (Unit {0}) Error). LooksAtOldest old new p q (poll.Ready x)) (sym is)
    (refused_is old new p q r came bad left core)

-- the parts of a send, put together
pub sent_by : (full : Bool) (parts : List (List ℕ)) (old middle freer new : Core) (p a b q : CompatValue) (n ticket : ℕ)
    → p.file.offset + n < 2 ^ 64
    → SubmitsAsking old (parts_of p parts) ticket middle → a ≡ with_deferred_write p n ticket → b
    ≡ with_oldest_settled full a → freer ≡ freed_core full middle a
    → q ≡ after_written b n → new ≡ read_dropped freer b.reading → SendsWrites full parts old new p q n
sent_by full parts old middle freer new p a b q n ticket fits submitted pushed made core left dropped =
    let way : b ≡ with_oldest_settled full (with_deferred_write p n ticket) = made
    ∙ ap (with_oldest_settled full) pushed in
    record {
      fits = fits;
      ticket = ticket;
      middle = middle;
      submitted = submitted;
      left = left ∙ ap (λ (x : CompatValue). after_written x n) way;
      core = dropped ∙ ((λ i. read_dropped (core i) (way i).reading)
          ∙ ((λ i. read_dropped (freed_core full middle (pushed i))
          (with_oldest_settled full (with_deferred_write p n ticket)).reading)
          ∙ ap (λ (r : Option ReadUnderWay). read_dropped (freed_core full middle (with_deferred_write p n ticket)) r)
          (freed_reading full (with_deferred_write p n ticket))));
    }
