-- A frame that comes and is taken.
use Rattle.std.proofs.Common.{◌≡◌, ◌==◌, ◌<◌, ◌≤◌, ◌+◌, ℕ, List, [], ◌++◌, length, arith, refl, ap, sym, ◌∙◌, subst, inl, inr}
use Rattle.std.specs.Prelude.{Bool, true, false, Option, Result, Ok, Err, None, Some, nat_lt, if◌then◌else◌}
use Rattle.std.proofs.lemmas.Bool.Decides.{nat_tests}
use Rattle.std.proofs.lemmas.List.{append-nil}
use Rattle.ssh_encoding.specs.Writing.{string}
use Rattle.sftp_model.specs.Numbers.{MAX_BODY_LEN}
use Rattle.sftp_model.specs.declared.frame_error.FormatKind.TheVariants as kinds
use Rattle.sftp_wire.specs.FrameReader.{fault_of_len, len_of, told_len}
use Rattle.sftp_wire.proofs.Lengths.{length-string}
use Rattle.link_frames.specs.Reading.{IsFramePrefix}
use Rattle.sftp_link.specs.Log.{SentOn}
use Rattle.sftp_link.specs.Told.{IfLogged, GotAll, SentAll}
use Rattle.sftp_link.specs.Views.{LinkView}
use Rattle.sftp_link.proofs.Telling.{sent_nothing, told_as, told_on}
use Rattle.sftp_model.specs.ReplyReadings.{reply_at}
use Rattle.sftp_model.specs.declared.error.Error.{Error}
use Rattle.sftp_model.specs.declared.error.Error.TheVariants as error
use Rattle.sftp_core.specs.Core.{Core, awaited_of, failed_with}
use Rattle.sftp_core.specs.Take.{TakenFrom, take_refusal}
use Rattle.sftp_core.specs.declared.errors.TakeError.TheVariants as take
use Rattle.link_frames.specs.Causes.{IsCausedByLink}
use Rattle.link_frames.proofs.Getting.{sent_both}
use Rattle.link_frames.proofs.Joining.{caused_on, error_causes}
use Rattle.sftp_client.specs.Incoming.{Coming, KeepsOfFrame, bytes_of, nothing_came}
use Rattle.sftp_client.specs.Sessions.{
  SentThenReceived,
  GetStops,
  PullsFrame,
  RefusesFrame,
  RefusesHere,
  SendsAll,
  SftpValue,
  TakesFrame,
  TakesHere,
  TakesPulled,
  TakesUnfailed,
  TakesWhole,
  kept_after,
}

-- the log where nothing was unsent
alone : {L S : Type 0} (state : L → LinkView S) (old mid : SftpValue L) (got : List ℕ) → old.unsent ≡ []
    → IfLogged (GotAll got) (state old.link).log (state mid.link).log
    → IfLogged (SentThenReceived old.unsent got) (state old.link).log (state mid.link).log
alone state old mid got none log =
    told_as (GotAll got) (SentThenReceived old.unsent got) (state old.link).log (state mid.link).log log
    (λ p q g. subst (λ (w : List ℕ). SentThenReceived w got p q) (sym none) (p, sent_nothing p, g))

-- ---- the length of a frame

within_by : (a b : Bool) → (if a then Some kinds.Length else if b then Some kinds.Overflow else None) ≡ None → b ≡ false
within_by true b e = absurd cc
within_by false true e = absurd cc
within_by false false e = refl

told_within : (len : ℕ) → fault_of_len (Some len) ≡ None → len ≤ MAX_BODY_LEN
told_within len e =
    let within : nat_lt MAX_BODY_LEN len ≡ false = within_by (len == 0) (nat_lt MAX_BODY_LEN len) e in
    grind (arith, nat_tests, within)

-- the body of a frame is as long as its length tells, which is one that a frame may have
short_body : (bytes body : List ℕ) → IsFramePrefix bytes → bytes ≡ string body → length body ≤ MAX_BODY_LEN
short_body bytes body prefix is =
    let len : length bytes ≡ 4 + length body = ap length is ∙ length-string body in
    let four : nat_lt (length bytes) 4 ≡ false = grind (arith, nat_tests, len) in
    let there : len_of bytes ≡ Some (told_len bytes) = rw four refl in
    let told : told_len bytes ≤ MAX_BODY_LEN =
    told_within (told_len bytes) (ap (λ (o : Option ℕ). fault_of_len o) (sym there) ∙ prefix.unfaulted) in
    let whole : length bytes ≤ 4 + told_len bytes = prefix.within (omega (arith, len)) in
    omega (arith, len, told, whole)

taken_here : {L S : Type 0} (state : L → LinkView S) (old mid new : SftpValue L) (u : Unit {0}) → old.unsent ≡ []
    → PullsFrame state old mid (Ok u) → TakesHere mid new → TakesFrame state old new
taken_here state old mid new u none pulled here =
    let core : mid.core ≡ old.core = ap (λ (s : SftpValue _). s.core) pulled.left in
    let unsent : mid.unsent ≡ [] = ap (λ (s : SftpValue _). s.unsent) pulled.left ∙ none in
    let link : mid.link ≡ new.link = sym (ap (λ (s : SftpValue _). s.link) here.left) in
    let frame : bytes_of old.coming ++ pulled.pulls.got ≡ string here.body =
    sym (ap (λ (c : Coming). c.whole) pulled.pulls.comes.1) ∙ here.frame in
    record {
      got = pulled.pulls.got;
      body = here.body;
      told = here.told;
      frame = frame;
      short = short_body (bytes_of old.coming ++ pulled.pulls.got) here.body pulled.pulls.comes.0.1 frame;
      log = subst (λ l. IfLogged (SentThenReceived old.unsent pulled.pulls.got) (state old.link).log (state l).log) link
          (alone state old mid pulled.pulls.got none pulled.pulls.log);
      right = subst (λ (c : Core). take_refusal c (reply_at here.body) ≡ None) core here.right;
      taken = subst (λ (c : Core). TakenFrom (reply_at here.body) here.told c new.core) core here.taken;
      unfaulted = subst (λ l. IsCausedByLink {T = Unit {0}} (state old.link) (state l) (Ok tt)) link
          pulled.pulls.caused;
      left = here.left ∙ (λ i. record { core = new.core; unsent = unsent i; coming = nothing_came; link = link i });
    }

refused_here : {L S : Type 0} (state : L → LinkView S) (old mid new : SftpValue L) (e : Error) (u : Unit {0})
    → old.unsent ≡ []
    → PullsFrame state old mid (Ok u) → RefusesHere mid new e → RefusesFrame state old new e
refused_here state old mid new e u none pulled here =
    let core : mid.core ≡ old.core = ap (λ (s : SftpValue _). s.core) pulled.left in
    let unsent : mid.unsent ≡ [] = ap (λ (s : SftpValue _). s.unsent) pulled.left ∙ none in
    let link : mid.link ≡ new.link = sym (ap (λ (s : SftpValue _). s.link) here.left) in
    let frame : bytes_of old.coming ++ pulled.pulls.got ≡ string here.body =
    sym (ap (λ (c : Coming). c.whole) pulled.pulls.comes.1) ∙ here.frame in
    record {
      got = pulled.pulls.got;
      body = here.body;
      refusal = here.refusal;
      fault = here.fault;
      frame = frame;
      short = short_body (bytes_of old.coming ++ pulled.pulls.got) here.body pulled.pulls.comes.0.1 frame;
      log = subst (λ l. IfLogged (SentThenReceived old.unsent pulled.pulls.got) (state old.link).log (state l).log) link
          (alone state old mid pulled.pulls.got none pulled.pulls.log);
      is = here.is;
      first = subst (λ (c : Core). take_refusal c (reply_at here.body) ≡ Some here.refusal) core here.first;
      kept = here.kept;
      left = subst (λ (c : Core). new ≡ record {
        core = failed_with c here.fault;
        unsent = [];
        coming = nothing_came;
        link = new.link;
      }) core
          (here.left ∙ (λ i. record {
            core = failed_with mid.core here.fault;
            unsent = unsent i;
            coming = nothing_came;
            link = link i;
          }));
      caused = subst (λ (x : Error). IsCausedByLink {T = Unit {0}} (state old.link) (state new.link) (Err x))
          (sym here.is)
          (error_causes (state old.link) (state new.link) tt here.refusal
          (subst (λ l. IsCausedByLink {T = Unit {0}} (state old.link) (state l) (Ok tt)) link pulled.pulls.caused));
    }

-- there was no memory to take it
left_here : {L S : Type 0} (state : L → LinkView S) (old mid : SftpValue L) (u : Unit {0}) → old.unsent ≡ []
    → PullsFrame state old mid (Ok u) → GetStops state old mid error.OutOfMemory
left_here state old mid u none pulled =
    let all : bytes_of mid.coming ≡ bytes_of old.coming ++ pulled.pulls.got =
    ap bytes_of pulled.pulls.comes.1 ∙ append-nil (bytes_of old.coming ++ pulled.pulls.got) in
    record {
      got = pulled.pulls.got;
      log = alone state old mid pulled.pulls.got none pulled.pulls.log;
      keeps = (all, inl pulled.pulls.comes.0.1);
      left = pulled.left ∙ (λ i. record { core = old.core; unsent = none i; coming = mid.coming; link = mid.link });
      caused = error_causes (state old.link) (state mid.link) tt take.OutOfMemory pulled.pulls.caused;
    }

-- a frame came whole, and then it was taken or not
pub whole_taken : {L S : Type 0} (state : L → LinkView S) (old mid new : SftpValue L) (u : Unit {0})
    (r : Result (Unit {0}) Error)
    → old.unsent ≡ [] → PullsFrame state old mid (Ok u) → TakesPulled mid new r → TakesWhole state old new r
whole_taken state old mid new u (Ok v) none pulled here = taken_here state old mid new u none pulled here
whole_taken state old mid new u (Err e) none pulled (inl short) =
    inl (subst (λ (s : SftpValue _). GetStops state old s e) (sym short.1)
    (subst (λ (x : Error). GetStops state old mid x) (sym short.0) (left_here state old mid u none pulled)))
whole_taken state old mid new u (Err e) none pulled (inr here) =
    inr (refused_here state old mid new e u none pulled here)

-- ---- behind what was unsent

-- what was unsent was sent, and then bytes came
after_sent : {L S : Type 0} (state : L → LinkView S) (old mid new : SftpValue L) (got : List ℕ) → SendsAll state old mid
    → IfLogged (SentThenReceived mid.unsent got) (state mid.link).log (state new.link).log
    → IfLogged (SentThenReceived old.unsent got) (state old.link).log (state new.link).log
after_sent state old mid new got sends log =
    told_on (SentAll old.unsent) (SentThenReceived mid.unsent got) (SentThenReceived old.unsent got)
    (state old.link).log (state mid.link).log
    (state new.link).log sends.log log
    (λ p q r s x. (
      x.0,
      subst (λ (w : List ℕ). SentOn p x.0 w) (append-nil old.unsent)
          (sent_both p q x.0 old.unsent [] s (subst (λ (w : List ℕ). SentOn q x.0 w)
          (ap (λ (v : SftpValue _). v.unsent) sends.left) x.1)),
      x.2,
    ))

taken_after : {L S : Type 0} (state : L → LinkView S) (old mid new : SftpValue L) → SendsAll state old mid
    → TakesFrame state mid new
    → TakesFrame state old new
taken_after state old mid new sends taken =
    let core : mid.core ≡ old.core = ap (λ (s : SftpValue _). s.core) sends.left in
    let coming : mid.coming ≡ old.coming = ap (λ (s : SftpValue _). s.coming) sends.left in
    record {
      got = taken.got;
      body = taken.body;
      told = taken.told;
      frame = ap (λ (c : Coming). bytes_of c ++ taken.got) (sym coming) ∙ taken.frame;
      short = taken.short;
      log = after_sent state old mid new taken.got sends taken.log;
      right = subst (λ (c : Core). take_refusal c (reply_at taken.body) ≡ None) core taken.right;
      taken = subst (λ (c : Core). TakenFrom (reply_at taken.body) taken.told c new.core) core taken.taken;
      unfaulted = caused_on (state old.link) (state mid.link) (state new.link) tt (Ok tt) sends.unfaulted
          taken.unfaulted;
      left = taken.left;
    }

stops_after : {L S : Type 0} (state : L → LinkView S) (old mid new : SftpValue L) (e : Error) → SendsAll state old mid
    → GetStops state mid new e
    → GetStops state old new e
stops_after state old mid new e sends stops =
    let core : mid.core ≡ old.core = ap (λ (s : SftpValue _). s.core) sends.left in
    let coming : mid.coming ≡ old.coming = ap (λ (s : SftpValue _). s.coming) sends.left in
    record {
      got = stops.got;
      log = after_sent state old mid new stops.got sends stops.log;
      keeps = subst (λ (c : Coming). KeepsOfFrame e (bytes_of c ++ stops.got) new.coming) coming stops.keeps;
      left = subst (λ (c : Core). new ≡ record {
        core = kept_after e c;
        unsent = [];
        coming = new.coming;
        link =
            new.link;
      }) core stops.left;
      caused = caused_on (state old.link) (state mid.link) (state new.link) tt (Err e) sends.unfaulted stops.caused;
    }

refused_after : {L S : Type 0} (state : L → LinkView S) (old mid new : SftpValue L) (e : Error) → SendsAll state old mid
    → RefusesFrame state mid new e → RefusesFrame state old new e
refused_after state old mid new e sends refused =
    let core : mid.core ≡ old.core = ap (λ (s : SftpValue _). s.core) sends.left in
    let coming : mid.coming ≡ old.coming = ap (λ (s : SftpValue _). s.coming) sends.left in
    record {
      got = refused.got;
      body = refused.body;
      refusal = refused.refusal;
      fault = refused.fault;
      frame = ap (λ (c : Coming). bytes_of c ++ refused.got) (sym coming) ∙ refused.frame;
      short = refused.short;
      log = after_sent state old mid new refused.got sends refused.log;
      is = refused.is;
      first = subst (λ (c : Core). take_refusal c (reply_at refused.body) ≡ Some refused.refusal) core refused.first;
      kept = refused.kept;
      left = subst (λ (c : Core). new ≡ record {
        core = failed_with c refused.fault;
        unsent = [];
        coming = nothing_came;
        link = new.link;
      }) core refused.left;
      caused = caused_on (state old.link) (state mid.link) (state new.link) tt (Err e) sends.unfaulted refused.caused;
    }

-- what is awaited stays while bytes are sent
still_awaited : {L S : Type 0} (state : L → LinkView S) (old mid : SftpValue L) → SendsAll state old mid
    → 0 < awaited_of mid.core
    → 0 < awaited_of old.core
still_awaited state old mid sends due = subst (λ (c : Core). 0 < awaited_of c)
    (ap (λ (s : SftpValue _). s.core) sends.left) due

-- what was unsent was sent, and then a frame was taken or not
pub took_after : {L S : Type 0} (state : L → LinkView S) (old mid new : SftpValue L) (u : Unit {0})
    → SendsAll state old mid
    → 0 < awaited_of mid.core → TakesWhole state mid new (Ok u) → TakesUnfailed state old new (Ok true)
took_after state old mid new u sends due taken = (
  still_awaited state old mid sends due,
  taken_after state old mid new sends taken,
)

pub none_after : {L S : Type 0} (state : L → LinkView S) (old mid new : SftpValue L) (e : Error)
    → SendsAll state old mid
    → 0 < awaited_of mid.core → TakesWhole state mid new (Err e) → TakesUnfailed state old new (Err e)
none_after state old mid new e sends due (inl stops) =
    inr (still_awaited state old mid sends due, inl (stops_after state old mid new e sends stops))
none_after state old mid new e sends due (inr refused) =
    inr (still_awaited state old mid sends due, inr (refused_after state old mid new e sends refused))
