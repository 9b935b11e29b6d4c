-- What a read into the buffer makes of the plan.
use Rattle.std.proofs.Common.{
  ◌≡◌,
  ◌≤◌,
  ◌<◌,
  ◌+◌,
  ◌^◌,
  ◌∙◌,
  refl,
  sym,
  ap,
  subst,
  arith,
  ℕ,
  Bool,
  true,
  false,
  List,
  [],
  ◌++◌,
  Option,
  Some,
  None,
  Result,
  Ok,
  Err,
  inl,
  inr,
  ◌⊎◌,
  ◌==◌,
  length,
  IsSome,
  if◌then◌else◌,
  length-append,
}
use Rattle.std.specs.Prelude.{max}
use Rattle.std.proofs.lemmas.Bool.Decides.{nat_tests}
use Rattle.sftp_model.specs.Answers.{allows_reply}
use Rattle.sftp_model.specs.Numbers.{SSH_FX_EOF}
use Rattle.sftp_model.specs.declared.answers.Expected.TheVariants as expected
use Rattle.sftp_model.specs.declared.error.Error.{Error}
use Rattle.sftp_model.specs.declared.error.Error.TheVariants as error
use Rattle.sftp_model.specs.declared.error.IoKind.TheVariants as kind
use Rattle.sftp_model.specs.declared.outcome.Outcome.{Outcome}
use Rattle.sftp_model.specs.declared.outcome.Outcome.TheVariants as outcome
use Rattle.sftp_model.specs.declared.reply.Reply.{Reply}
use Rattle.sftp_model.specs.declared.reply.Reply.TheVariants as reply
use Rattle.sftp_model.specs.declared.slot.Move.{Move}
use Rattle.sftp_model.specs.declared.slot.Move.TheVariants.{Ask, Wait, Done}
use Rattle.sftp_model.specs.declared.slot.Site.{Site}
use Rattle.plan_model.specs.Moves.{Answers, Plan, on_content, once_answered, overflows, refuse_locally}
use Rattle.sftp_core.specs.Core.{Core, record_at, reply_in}
use Rattle.plan_state.specs.Calls.{IsUnfinished}
use Rattle.plan_state.specs.declared.poll.Poll.TheVariants as poll
use Rattle.sftp_buffered.specs.declared.file.ReadUnderWay.{ReadUnderWay}
use Rattle.sftp_buffered.specs.Buffered.{CompatValue, DefersWrites, IsTold, lane_of, len_of}
use Rattle.sftp_buffered.specs.Polls.{AnyCut, EndsPoll, PollsPlan, PlanWaits}
use Rattle.sftp_buffered.specs.Reads.{
  AwaitsFill,
  BeginsRead,
  BeganRead,
  FillsBuffer,
  TookRead,
  with_bytes_appended,
  end_of,
  fill_value,
  read_behind,
  without_read,
}
use Rattle.sftp_buffered.specs.Steps.{IsLeft, IsRestOf, read_reply, read_taken}
use Rattle.sftp_buffered.proofs.Resting.{rest_at, rest_same}
use Rattle.sftp_buffered.proofs.Planning.{missing_waits}
use Rattle.sftp_buffered.proofs.Filling.{appended_deferred, content_fits}

-- a plan looks at the READ under way, or asks for one behind the buffer
pub record ReadsBy (plan : Plan) (len : ℕ) (go : Reply → Move) (answers : Answers) (p : CompatValue) : Type 0 where
  pub asks : p.reading ≡ None → plan [] answers ≡ (if overflows (end_of p) len then
      refuse_locally kind.OffsetOverflow (lane_of p) else Ask (read_behind p len))
  pub waits : (r : ReadUnderWay) → p.reading ≡ Some r → plan [] answers ≡ once_answered r.place (answers r.place) go

within_end : (end len : ℕ) → end + len < 2 ^ 64 → overflows end len ≡ false
within_end end len fits = grind (arith, nat_tests)

past_end : (end len : ℕ) → 2 ^ 64 ≤ end + len → overflows end len ≡ true
past_end end len past = grind (arith, nat_tests)

begun_asks : (plan : Plan) (len : ℕ) (go : Reply → Move) (answers : Answers) (p : CompatValue)
    → ReadsBy plan len go answers p → p.reading ≡ None → end_of p + len < 2 ^ 64 → plan [] answers
    ≡ Ask (read_behind p len)
begun_asks plan len go answers p h none fits = h.asks none ∙
    (λ i. if within_end (end_of p) len fits i then refuse_locally kind.OffsetOverflow (lane_of p) else
    Ask (read_behind p len))

read_told : (old : Core) (p : CompatValue) (answers : Answers) (r : ReadUnderWay) → DefersWrites old p answers
    → p.reading
    ≡ Some r → answers r.place ≡ reply_in (record_at old r.ticket)
read_told old p answers r d is = subst (IsTold old answers) is d.read

unread_waits : (plan : Plan) (len : ℕ) (go : Reply → Move) (answers : Answers) (old : Core) (p : CompatValue)
    (r : ReadUnderWay) → ReadsBy plan len go answers p → DefersWrites old p answers → p.reading ≡ Some r
    → read_reply old p.reading ≡ None
    → plan [] answers ≡ Wait r.place
unread_waits plan len go answers old p r h d is none =
    h.waits r is ∙ missing_waits (answers r.place) r.place go (read_told old p answers r d is
    ∙ (sym (ap (read_reply old) is) ∙ none))

pub fills_pending : (plan : Plan) (len : ℕ) (go : Reply → Move) (answers : Answers) (old new : Core) (p q : CompatValue)
    → ReadsBy plan len go answers p → DefersWrites old p answers → FillsBuffer len old new p q poll.Pending
    → PlanWaits plan answers old (IsLeft old new p q) ⊎ BeganRead plan answers old new p q
fills_pending plan len go answers old new p q h d (inl b) =
    inr (record {
      len = len;
      ticket = b.begins.1;
      asks = begun_asks plan len go answers p h b.none b.begins.0;
      submitted = b.begins.2;
      left = b.begins.3;
      lane = ap lane_of b.begins.3;
    })
fills_pending plan len go answers old new p q h d (inr e) =
    inl (record {
      place = e.read.place;
      waits = unread_waits plan len go answers old p e.read h d e.under_way e.awaits.0;
      unfailed = e.awaits.1;
      left = e.awaits.2;
    })

unfinished_at : (m n : Move) → m ≡ n → IsUnfinished n → IsUnfinished m
unfinished_at m n same h = subst IsUnfinished (sym same) h

appended_place : (r : Reply) (c : CompatValue) → (with_bytes_appended r c).place ≡ c.place
appended_place (reply.Content bytes) c = refl
appended_place (reply.Status code message language) c = refl
appended_place (reply.Handle handle) c = refl
appended_place (reply.Version version extensions) c = refl
appended_place (reply.Names names) c = refl
appended_place (reply.Attrs attrs) c = refl
appended_place (reply.Extended content) c = refl

appended_capacity : (r : Reply) (c : CompatValue) → c.capacity ≤ (with_bytes_appended r c).capacity
appended_capacity (reply.Content bytes) c = omega arith
appended_capacity (reply.Status code message language) c = omega arith
appended_capacity (reply.Handle handle) c = omega arith
appended_capacity (reply.Version version extensions) c = omega arith
appended_capacity (reply.Names names) c = omega arith
appended_capacity (reply.Attrs attrs) c = omega arith
appended_capacity (reply.Extended content) c = omega arith

content_most : (c : CompatValue) (read : Option ReadUnderWay) (bytes : List ℕ) → length bytes ≤ len_of read
    → max c.capacity (length (c.buffered ++ bytes)) ≤ max c.capacity (length c.buffered + len_of read)
content_most c read bytes fits = (let sum : length (c.buffered ++ bytes) ≡ length c.buffered + length bytes =
    length-append c.buffered bytes in omega (arith, sum, fits))

appended_most : (r : Reply) (c : CompatValue) (read : ReadUnderWay) → c.reading ≡ Some read
    → allows_reply (expected.Content read.len) r ≡ true
    → (with_bytes_appended r c).capacity ≤ max c.capacity (length c.buffered + len_of c.reading)
appended_most (reply.Content bytes) c read is allowed = content_most c c.reading bytes
    (subst (λ (x : Option ReadUnderWay). length bytes ≤ len_of x) (sym is) (content_fits read.len bytes allowed))
appended_most (reply.Status code message language) c read is allowed = omega arith
appended_most (reply.Handle handle) c read is allowed = omega arith
appended_most (reply.Version version extensions) c read is allowed = omega arith
appended_most (reply.Names names) c read is allowed = omega arith
appended_most (reply.Attrs attrs) c read is allowed = omega arith
appended_most (reply.Extended content) c read is allowed = omega arith

pub took_rest : (old new : Core) (p q : CompatValue) (value : Result (Unit {0}) Error) → TookRead old new p q value
    → IsRestOf old new p q
took_rest old new p q value t =
    subst (IsRestOf old new p) (sym t.left) (record {
      between = old;
      taken = record { gone = []; deferred = sym (appended_deferred t.reply p); core = refl };
      reading = inr (
        refl,
        subst IsSome (sym (ap (read_reply old) t.under_way ∙ t.came)) refl,
        t.core ∙ sym (ap (read_taken old) t.under_way),
      );
      place = appended_place t.reply p;
      capacity = appended_capacity t.reply p;
      most = appended_most t.reply p t.read t.under_way t.allowed;
    })

-- what the reply makes of the plan
pub took_goes : (plan : Plan) (len : ℕ) (go : Reply → Move) (answers : Answers) (old new : Core) (p q : CompatValue)
    (value : Result (Unit {0}) Error) → ReadsBy plan len go answers p → DefersWrites old p answers
    → (t : TookRead old new p q value) → plan [] answers ≡ go t.reply
took_goes plan len go answers old new p q value h d t = h.waits t.read t.under_way
    ∙ ap (λ (r : Option Reply). once_answered t.read.place r go) (read_told old p answers t.read d t.under_way ∙ t.came)

begins_stop : {V : Type 0} (o : V → Outcome) (plan : Plan) (len : ℕ) (go : Reply → Move) (answers : Answers)
    (old new : Core) (p q : CompatValue) (e : Error) → ReadsBy plan len go answers p → p.reading ≡ None
    → BeginsRead len old new p q (poll.Ready (Err e)) → PollsPlan {V = V}
    (PlanWaits plan answers old (IsLeft old new p q) ⊎ BeganRead plan answers old new p q) (IsLeft old new p q) AnyCut
    plan
    o answers old new p q (poll.Ready (Err e))
begins_stop o plan len go answers old new p q error.OutOfMemory h none b = b
begins_stop o plan len go answers old new p q (error.BackgroundTaskFailure fault) h none b = (
  b.1,
  unfinished_at (plan [] answers) (Ask (read_behind p len)) (begun_asks plan len go answers p h none b.0) tt,
  b.2,
)
begins_stop o plan len go answers old new p q (error.IOError kind.OffsetOverflow) h none b =
    record {
      ends = h.asks none ∙ ((λ i. if past_end (end_of p) len b.0 i then
          refuse_locally kind.OffsetOverflow (lane_of p) else Ask (read_behind p len))
          ∙ ap (λ (x : CompatValue). Done (outcome.Refused (error.IOError kind.OffsetOverflow)) (lane_of x))
          (sym b.1.same));
      rest = rest_at old old new p p q (rest_same old p) b.1.core b.1.same;
    }
begins_stop o plan len go answers old new p q other h none b = absurd b

-- where a refusal of the reply ends the plan, with no READ under way
abbrev pub EndsRefused : (Reply → Move) → CompatValue → Type 0
EndsRefused go p = (r : Reply) (e : Error) → Err e ≡ fill_value r → go r
    ≡ Done (outcome.Refused e) (lane_of (without_read p))

refused_appends : (r : Reply) (e : Error) (c : CompatValue) → Err e ≡ fill_value r → with_bytes_appended r c ≡ c
refused_appends (reply.Content bytes) e c is = absurd cc
refused_appends (reply.Status code message language) e c is = refl
refused_appends (reply.Handle handle) e c is = refl
refused_appends (reply.Version version extensions) e c is = refl
refused_appends (reply.Names names) e c is = refl
refused_appends (reply.Attrs attrs) e c is = refl
refused_appends (reply.Extended content) e c is = refl

took_refused : (plan : Plan) (len : ℕ) (go : Reply → Move) (answers : Answers) (old new : Core) (p q : CompatValue)
    (e : Error) → ReadsBy plan len go answers p → DefersWrites old p answers → EndsRefused go p
    → TookRead old new p q (Err e) → EndsPoll plan (outcome.Refused e) answers old new p q
took_refused plan len go answers old new p q e h d ends t =
    record {
      ends = took_goes plan len go answers old new p q (Err e) h d t
          ∙ (ends t.reply e t.says ∙ ap (λ (x : CompatValue). Done (outcome.Refused e) (lane_of x))
          (sym (t.left ∙ ap without_read (refused_appends t.reply e p t.says))));
      rest = took_rest old new p q (Err e) t;
    }

awaits_stop : {V : Type 0} (o : V → Outcome) (plan : Plan) (len : ℕ) (go : Reply → Move) (answers : Answers)
    (old new : Core) (p q : CompatValue) (e : Error) (r : ReadUnderWay) → ReadsBy plan len go answers p
    → DefersWrites old p answers
    → EndsRefused go p → p.reading ≡ Some r → AwaitsFill old new p q (poll.Ready (Err e))
    → PollsPlan {V = V} (PlanWaits plan answers old (IsLeft old new p q) ⊎ BeganRead plan answers old new p q)
    (IsLeft old new p q)
    AnyCut plan o answers old new p q (poll.Ready (Err e))
awaits_stop o plan len go answers old new p q error.OutOfMemory r h d ends is a = a.1
awaits_stop o plan len go answers old new p q (error.BackgroundTaskFailure fault) r h d ends is a =
    (a.1, unfinished_at (plan [] answers) (Wait r.place) (unread_waits plan len go answers old p r h d is a.0) tt, a.2)
awaits_stop o plan len go answers old new p q e r h d ends is a =
    took_refused plan len go answers old new p q e h d ends a

pub fills_stop : {V : Type 0} (o : V → Outcome) (plan : Plan) (len : ℕ) (go : Reply → Move) (answers : Answers)
    (old new : Core) (p q : CompatValue) (e : Error) → ReadsBy plan len go answers p → DefersWrites old p answers
    → EndsRefused go p → FillsBuffer len old new p q (poll.Ready (Err e))
    → PollsPlan {V = V} (PlanWaits plan answers old (IsLeft old new p q) ⊎ BeganRead plan answers old new p q)
    (IsLeft old new p q)
    AnyCut plan o answers old new p q (poll.Ready (Err e))
fills_stop o plan len go answers old new p q e h d ends (inl b) =
    begins_stop o plan len go answers old new p q e h b.none b.begins
fills_stop o plan len go answers old new p q e h d ends (inr a) =
    awaits_stop o plan len go answers old new p q e a.read h d ends a.under_way a.awaits

-- where it goes well the reply was taken
pub fills_took : (len : ℕ) (old new : Core) (p q : CompatValue) → FillsBuffer len old new p q (poll.Ready (Ok tt))
    → TookRead old new p q (Ok tt)
fills_took len old new p q (inl b) = absurd b.begins
fills_took len old new p q (inr e) = e.awaits

-- ---- what a DATA or its refusal is to a plan

refused_status : (code : ℕ) (message language : List ℕ) (site : Site) (ended : Move) (e : Error) (b : Bool)
    → (◌≡◌ {A = Result (Unit {0}) Error} (Err e) (if b then Ok tt else Err (error.SftpError code message language)))
    → (if b then ended else Done (outcome.Refused (error.SftpError code message language)) site)
    ≡ Done (outcome.Refused e) site
refused_status code message language site ended e true is = absurd cc
refused_status code message language site ended e false is =
    (let same : e ≡ error.SftpError code message language = cc in
    ap (λ (x : Error). Done (outcome.Refused x) site) (sym same))

refused_other : (site : Site) (e : Error) → (◌≡◌ {A = Result (Unit {0}) Error} (Err e)
    (Err (error.InvalidResponse None)))
    → Done (outcome.Refused (error.InvalidResponse None)) site ≡ Done (outcome.Refused e) site
refused_other site e is = (let same : e ≡ error.InvalidResponse None = cc in
    ap (λ (x : Error). Done (outcome.Refused x) site) (sym same))

pub refused_content : (r : Reply) (site : Site) (ended : Move) (go : List ℕ → Move) (e : Error) → Err e ≡ fill_value r
    → on_content r site ended go ≡ Done (outcome.Refused e) site
refused_content (reply.Content bytes) site ended go e is = absurd cc
refused_content (reply.Status code message language) site ended go e is =
    refused_status code message language site ended e (code == SSH_FX_EOF) is
refused_content (reply.Handle handle) site ended go e is = refused_other site e is
refused_content (reply.Version version extensions) site ended go e is = refused_other site e is
refused_content (reply.Names names) site ended go e is = refused_other site e is
refused_content (reply.Attrs attrs) site ended go e is = refused_other site e is
refused_content (reply.Extended content) site ended go e is = refused_other site e is

-- an end is what a STATUS of EOF is
pub ended_status : (code : ℕ) (message language : List ℕ) (site : Site) (ended : Move) (b : Bool)
    → (◌≡◌ {A = Result (Unit {0}) Error} (Ok tt) (if b then Ok tt else Err (error.SftpError code message language)))
    → (if b then ended else Done (outcome.Refused (error.SftpError code message language)) site) ≡ ended
ended_status code message language site ended true is = refl
ended_status code message language site ended false is = absurd cc
