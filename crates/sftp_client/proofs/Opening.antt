-- What is sent, and then a frame that is taken: what they leave of a core, and how a session comes to be open.
use Rattle.std.proofs.Common.{◌≡◌, ℕ, Bool, true, false, List, [], ◌++◌, Option, refl, ap, sym, ◌∙◌, subst, append_assoc, inl, inr}
use Rattle.std.specs.Prelude.{Result, Ok, Err, None, Some, IsSome, if◌then◌else◌}
use Rattle.sftp_link.specs.Told.{IfLogged, SentAll}
use Rattle.sftp_link.specs.Views.{LinkView}
use Rattle.sftp_link.proofs.Telling.{told_on}
use Rattle.sftp_model.specs.Lengths.{offers_limits}
use Rattle.sftp_model.specs.ReplyReadings.{reply_at}
use Rattle.sftp_model.specs.declared.answers.Expected.{Expected}
use Rattle.sftp_model.specs.declared.error.Error.{Error}
use Rattle.sftp_model.specs.declared.flags.Extensions.{Extensions}
use Rattle.sftp_model.specs.declared.frame_error.FrameError.{FrameError}
use Rattle.sftp_model.specs.declared.reply.Reply.{Reply}
use Rattle.sftp_model.specs.declared.reply.Reply.TheVariants as reply
use Rattle.sftp_model.specs.declared.request.Request.TheVariants.{LimitsQuery}
use Rattle.sftp_core.specs.Core.{Core, record_at, fresh, handed_out, queued_last}
use Rattle.sftp_model.specs.Frames.{frames_of}
use Rattle.sftp_core.specs.Info.{info_of}
use Rattle.sftp_core.specs.declared.info.Info.{Info}
use Rattle.sftp_core.specs.Table.{handle_in_reply}
use Rattle.sftp_core.specs.Take.{Read, TakenFrom, core_with_answer, extensions_in, greeted_by, core_when_open, take_leaves, take_refusal, taken_in, wrong_in, wrong_version}
use Rattle.sftp_core.specs.declared.handshake.Handshake.{Handshake}
use Rattle.sftp_core.specs.declared.handshake.Handshake.TheVariants.{Greeting, Asking, Open}
use Rattle.sftp_core.specs.declared.id_record.IdRecord.{IdRecord}
use Rattle.sftp_core.specs.declared.id_record.IdRecord.TheVariants.{Waiting, Answered, Granted}
use Rattle.sftp_core.specs.declared.tokens.Taken.{Taken}
use Rattle.link_frames.specs.Causes.{IsCausedByLink}
use Rattle.link_frames.proofs.Getting.{sent_both}
use Rattle.link_frames.proofs.Joining.{caused_on}
use Rattle.sftp_client.specs.Rounds.{ExchangeEnds, ExchangesFrame, AsksForLimits, IsOpened}
use Rattle.sftp_client.specs.Sessions.{FlushesUnfailed, SendsAll, SendsRest, SftpValue, TakesWhole, with_queue_handed_out, kept_after}

-- ---- a flush

-- what was unsent was sent, and then what was queued
pub flushed_after : {L S : Type 0} (state : L → LinkView S) (old mid out new : SftpValue L)
    (r : Result (Unit {0}) Error)
    → SendsAll state old mid → out ≡ record mid { core = handed_out mid.core; unsent = frames_of mid.core.queue }
    → SendsRest state out new r → FlushesUnfailed state old new r
flushed_after state old mid out new (Ok u) first is second =
    let core : mid.core ≡ old.core = ap (λ (s : SftpValue _). s.core) first.left in
    let coming : mid.coming ≡ old.coming = ap (λ (s : SftpValue _). s.coming) first.left in
    let link : out.link ≡ mid.link = ap (λ (s : SftpValue _). s.link) is in
    let frames : out.unsent ≡ frames_of old.core.queue = ap (λ (s : SftpValue _). s.unsent) is
    ∙ ap (λ (c : Core). frames_of c.queue) core in
    record {
      log = told_on (SentAll old.unsent) (SentAll (frames_of old.core.queue))
          (SentAll (old.unsent ++ frames_of old.core.queue))
          (state old.link).log (state mid.link).log (state new.link).log first.log
          (subst (λ (w : List ℕ). IfLogged (SentAll w) (state mid.link).log (state new.link).log) frames
          (subst (λ l. IfLogged (SentAll out.unsent) (state l).log (state new.link).log) link second.log))
          (λ p q r s t. sent_both p q r old.unsent (frames_of old.core.queue) s t);
      unfaulted = caused_on (state old.link) (state mid.link) (state new.link) tt (Ok tt) first.unfaulted
          (subst (λ l. IsCausedByLink {T = Unit {0}} (state l) (state new.link) (Ok tt)) link second.unfaulted);
      left = second.left ∙ (λ i. record {
        core = (ap (λ (s : SftpValue _). s.core) is ∙ ap handed_out core) i;
        unsent = [];
        coming = (ap (λ (s : SftpValue _). s.coming) is ∙ coming) i;
        link = new.link;
      });
    }
flushed_after state old mid out new (Err e) first is second =
    let core : mid.core ≡ old.core = ap (λ (s : SftpValue _). s.core) first.left in
    let coming : mid.coming ≡ old.coming = ap (λ (s : SftpValue _). s.coming) first.left in
    let link : out.link ≡ mid.link = ap (λ (s : SftpValue _). s.link) is in
    let frames : out.unsent ≡ frames_of old.core.queue = ap (λ (s : SftpValue _). s.unsent) is
    ∙ ap (λ (c : Core). frames_of c.queue) core in
    inr (inl (record {
      sent = old.unsent ++ second.sent;
      cut = ap (λ (w : List ℕ). old.unsent ++ w) (sym frames ∙ second.cut)
          ∙ sym (append_assoc old.unsent second.sent new.unsent);
      rest = second.rest;
      log = told_on (SentAll old.unsent) (SentAll second.sent) (SentAll (old.unsent ++ second.sent))
          (state old.link).log (state mid.link).log (state new.link).log first.log
          (subst (λ l. IfLogged (SentAll second.sent) (state l).log (state new.link).log) link second.log)
          (λ p q r s t. sent_both p q r old.unsent second.sent s t);
      left = second.left ∙ (λ i. record {
        core = kept_after e ((ap (λ (s : SftpValue _). s.core) is ∙ ap handed_out core) i);
        unsent = new.unsent;
        coming = (ap (λ (s : SftpValue _). s.coming) is ∙ coming) i;
        link = new.link;
      });
      only = second.only;
      caused = caused_on (state old.link) (state mid.link) (state new.link) tt (Err e) first.unfaulted
          (subst (λ l. IsCausedByLink {T = Unit {0}} (state l) (state new.link) (Err e)) link second.caused);
    }))

-- ---- a flush, and then a frame

pub exchanged : {L S : Type 0} (state : L → LinkView S) (old mid new : SftpValue L) (u : Unit {0})
    (r : Result (Unit {0}) Error)
    → FlushesUnfailed state old mid (Ok u) → TakesWhole state mid new r → ExchangeEnds state old new r
exchanged state old mid new u (Ok v) sends takes = record { mid = mid; sends = sends; takes = takes }
exchanged state old mid new u (Err e) sends stops = inr (mid, (sends, stops))

-- ---- what a frame leaves

leaves_fault : (core : Core) (id : ℕ) (r : Reply) (p : Option IdRecord) → (take_leaves core id r p).fault ≡ core.fault
leaves_fault core id r (Some (Waiting e sent wanted)) = kept e wanted (handle_in_reply r) refl
  where
    kept : (e : Expected) (wanted : Bool) (b : Option (List ℕ)) → handle_in_reply r ≡ b
        → (core_with_answer core id r e wanted).fault ≡ core.fault
    kept e true b is = refl
    kept e false (Some h) is = rw is refl
    kept e false None is = rw is refl
leaves_fault core id r (Some (Answered e other)) = refl
leaves_fault core id r (Some (Granted handle users)) = refl
leaves_fault core id r None = refl

greeted_fault : (core : Core) (x : Option Extensions) → (greeted_by core x).fault ≡ core.fault
greeted_fault core None = refl
greeted_fault core (Some extensions) = elim (offers_limits extensions) as
    (λ b. (if b then record (queued_last core 0 LimitsQuery false) { phase = Asking extensions } else
    core_when_open core extensions None).fault ≡ core.fault)
    [ true ↦ refl | false ↦ refl ]

taken_fault : (core : Core) (id : Option ℕ) (r : Reply) (phase : Handshake) → (taken_in core phase id r).fault
    ≡ core.fault
taken_fault core id r Greeting = greeted_fault core (extensions_in r)
taken_fault core None r (Asking extensions) = refl
taken_fault core (Some id) r (Asking extensions) = leaves_fault core id r (record_at core id)
taken_fault core None r (Open info) = refl
taken_fault core (Some id) r (Open info) = leaves_fault core id r (record_at core id)

-- a frame that is taken leaves the fault
pub take_leaves_fault : (core new : Core) (read : Result Read FrameError) (told : Taken) → TakenFrom read told core new
    → new.fault ≡ core.fault
take_leaves_fault core new read told taken =
    ap (λ (c : Core). c.fault) taken.leaves ∙ taken_fault core taken.reading.0 taken.reading.1 core.phase

-- ---- a session comes to be open

-- VERSION leaves a core that asks for the limits, or is open
asks_next : (core : Core) (x : Option Extensions) → IsSome x → info_of (greeted_by core x).phase ≡ None
    → (extensions : Extensions) × ((greeted_by core x).phase ≡ Asking extensions)
asks_next core None some none = absurd cc
asks_next core (Some extensions) some none = elim (offers_limits extensions) as
    (λ b. info_of (if b then record (queued_last core 0 LimitsQuery false) { phase = Asking extensions } else
    core_when_open core extensions None).phase ≡ None
    → (x : Extensions) × ((if b then record (queued_last core 0 LimitsQuery false) { phase = Asking extensions } else
    core_when_open core extensions None).phase ≡ Asking x))
    [ true ↦ λ n. (extensions, refl) | false ↦ λ n. absurd cc ] none

told_extensions : (r : Reply) → wrong_version r ≡ None → IsSome (extensions_in r)
told_extensions (reply.Version version extensions) right = refl
told_extensions (reply.Status code message language) right = absurd cc
told_extensions (reply.Handle handle) right = absurd cc
told_extensions (reply.Content bytes) right = absurd cc
told_extensions (reply.Names names) right = absurd cc
told_extensions (reply.Attrs attrs) right = absurd cc
told_extensions (reply.Extended content) right = absurd cc

greets : (core : Core) (id : Option ℕ) (r : Reply) (phase : Handshake) → phase ≡ Greeting → wrong_in core phase id r
    ≡ None
    → info_of (taken_in core phase id r).phase ≡ None → (x : Extensions) × ((taken_in core phase id r).phase ≡ Asking x)
greets core None r Greeting is right none = asks_next core (extensions_in r) (told_extensions r right) none
greets core (Some id) r Greeting is right none = absurd cc
greets core id r (Asking extensions) is right none = absurd cc
greets core id r (Open info) is right none = absurd cc

pub greeting_asks : (core new : Core) (read : Result Read FrameError) (told : Taken) → core.phase ≡ Greeting
    → take_refusal core read ≡ None
    → TakenFrom read told core new → info_of new.phase ≡ None → (x : Extensions) × (new.phase ≡ Asking x)
greeting_asks core new read told is right taken none =
    let no : wrong_in core core.phase taken.reading.0 taken.reading.1 ≡ None = ap (take_refusal core) (sym taken.reads)
    ∙ right in
    let found = greets core taken.reading.0 taken.reading.1 core.phase is no
    (ap (λ (c : Core). info_of c.phase) (sym taken.leaves) ∙ none) in
    (found.0, ap (λ (c : Core). c.phase) taken.leaves ∙ found.1)

opens : (core : Core) (id : Option ℕ) (r : Reply) (phase : Handshake) (x : Extensions) → phase ≡ Asking x
    → wrong_in core phase id r ≡ None
    → IsSome (info_of (taken_in core phase id r).phase)
opens core None r (Asking extensions) x is right = absurd cc
opens core (Some id) r (Asking extensions) x is right = refl
opens core id r Greeting x is right = absurd cc
opens core id r (Open info) x is right = absurd cc

-- the reply to the query for limits opens it
pub asking_opens : (core new : Core) (read : Result Read FrameError) (told : Taken) (x : Extensions) → core.phase
    ≡ Asking x
    → take_refusal core read ≡ None → TakenFrom read told core new → IsSome (info_of new.phase)
asking_opens core new read told x is right taken =
    let no : wrong_in core core.phase taken.reading.0 taken.reading.1 ≡ None = ap (take_refusal core) (sym taken.reads)
    ∙ right in
    subst (λ (c : Core). IsSome (info_of c.phase)) (sym taken.leaves)
    (opens core taken.reading.0 taken.reading.1 core.phase x is no)

-- after one exchange the fault is as it was
pub exchange_leaves_fault : {L S : Type 0} (state : L → LinkView S) (old new : SftpValue L)
    → ExchangesFrame state old new → new.core.fault ≡ old.core.fault
exchange_leaves_fault state old new x =
    take_leaves_fault x.mid.core new.core (reply_at x.takes.body) x.takes.told x.takes.taken
    ∙ ap (λ (s : SftpValue _). s.core.fault) x.sends.left

goes_by : {L S : Type 0} (state : L → LinkView S) (greeted : SftpValue L) (x : Option Info) → IsSome x
    → AsksForLimits state greeted greeted x
goes_by state greeted None some = absurd cc
goes_by state greeted (Some info) some = refl

-- the link doesn't fail in an exchange that goes well
exchange_unfaulted : {L S : Type 0} (state : L → LinkView S) (old new : SftpValue L) → ExchangesFrame state old new
    → IsCausedByLink {T = Unit {0}} (state old.link) (state new.link) (Ok tt)
exchange_unfaulted state old new x =
    caused_on (state old.link) (state x.mid.link) (state new.link) tt (Ok tt) x.sends.unfaulted x.takes.unfaulted

pub opened_at_once : {L S : Type 0} (state : L → LinkView S) (old greeted : SftpValue L)
    → ExchangesFrame state old greeted
    → IsSome (info_of greeted.core.phase) → IsOpened state old greeted
opened_at_once state old greeted x some =
    record {
      greeted = greeted;
      greets = x;
      goes = goes_by state greeted (info_of greeted.core.phase) some;
      unfaulted = exchange_unfaulted state old greeted x;
      told = some;
    }

-- the phase that a flush leaves
flushed_phase : {L S : Type 0} (state : L → LinkView S) (old mid : SftpValue L)
    → SendsAll state (with_queue_handed_out old) mid → mid.core.phase ≡ old.core.phase
flushed_phase state old mid sends = ap (λ (s : SftpValue _). s.core.phase) sends.left

pub opened_after : {L S : Type 0} (state : L → LinkView S) (old greeted new : SftpValue L) → old.core.phase ≡ Greeting
    → ExchangesFrame state old greeted
    → info_of greeted.core.phase ≡ None → ExchangesFrame state greeted new → IsOpened state old new
opened_after state old greeted new fresh first none second =
    let asks = greeting_asks first.mid.core greeted.core (reply_at first.takes.body) first.takes.told
    (flushed_phase state old first.mid first.sends ∙ fresh) first.takes.right first.takes.taken none in
    record {
      greeted = greeted;
      greets = first;
      goes = subst (λ (x : Option Info). AsksForLimits state greeted new x) (sym none) second;
      unfaulted = caused_on (state old.link) (state greeted.link) (state new.link) tt (Ok tt)
          (exchange_unfaulted state old greeted first)
          (exchange_unfaulted state greeted new second);
      told = asking_opens second.mid.core new.core (reply_at second.takes.body) second.takes.told asks.0
          (flushed_phase state greeted second.mid second.sends ∙ asks.1) second.takes.right second.takes.taken;
    }
