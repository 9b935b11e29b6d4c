-- The core and the journal of a session before the first call of a lane.
use Rattle.std.proofs.Common.{
  ◌≡◌,
  ◌≢◌,
  ◌==◌,
  ℕ,
  Bool,
  true,
  false,
  cond,
  List,
  [],
  Option,
  Some,
  None,
  refl,
  ap,
  sym,
  ◌∙◌,
  subst,
  arith,
}
use Rattle.std.specs.Prelude.{Result, Ok, Err, if◌then◌else◌}
use Rattle.std.specs.Option.{option_map}
use Rattle.std.specs.FinMap as fin
use Rattle.std.specs.FinMap.{get-empty, nat_cmp-IsAntisymmetric}
use Rattle.std.specs.Ordering.{nat_cmp}
use Rattle.std.specs.Cmp.{nat_cmp_total}
use Rattle.std.proofs.lemmas.Bool.Decides.{nat_tests}
use Rattle.sftp_model.specs.declared.answers.Expected.TheVariants as expected
use Rattle.sftp_model.specs.declared.config.Limits.{Limits}
use Rattle.sftp_model.specs.declared.flags.Extensions.{Extensions}
use Rattle.sftp_model.specs.declared.frame_error.FrameError.{FrameError}
use Rattle.sftp_model.specs.declared.reply.Reply.{Reply}
use Rattle.sftp_model.specs.declared.reply.Reply.TheVariants as reply
use Rattle.sftp_model.specs.declared.request.Request.TheVariants as request
use Rattle.sftp_model.specs.Answers.{allows_reply, may_answer}
use Rattle.sftp_model.specs.ReplyReadings.{limits_at, limits_in}
use Rattle.sftp_core.specs.declared.errors.TakeError.{TakeError}
use Rattle.sftp_core.specs.declared.errors.TakeError.TheVariants as take
use Rattle.sftp_model.specs.declared.options.SftpOptions.{SftpOptions}
use Rattle.sftp_core.specs.declared.id_record.IdRecord.{IdRecord}
use Rattle.sftp_core.specs.declared.id_record.IdRecord.TheVariants.{Waiting}
use Rattle.sftp_core.specs.declared.tokens.Taken.{Taken}
use Rattle.sftp_core.specs.declared.tokens.Taken.TheVariants as taken_of
use Rattle.sftp_core.specs.declared.handshake.Handshake.TheVariants as core_phase
use Rattle.sftp_core.specs.Info.{info_with}
use Rattle.sftp_model.specs.Lengths.{offers_limits}
use Rattle.session_model.specs.Settings.{version_reply_of}
use Rattle.sftp_core.specs.Core.{
  Core,
  record_at,
  core_after_drop,
  fresh,
  without_record,
  handed_out,
  awaited_of,
  unanswered_of,
}
use Rattle.sftp_core.proofs.Counts.{count_len}
use Rattle.sftp_core.specs.Table.{IdRecords, all_sent, handle_in_reply, count, is_sent, is_waiting, sent_record}
use Rattle.sftp_core.proofs.Sent.{get_sent}
use Rattle.sftp_core.proofs.Elsewhere.{put_here, put_elsewhere, gone_here, gone_elsewhere}
use Rattle.ssh_encoding.specs.Writing.{or_else}
use Rattle.sftp_core.specs.Take.{
  Read,
  TakenFrom,
  core_after_version,
  taken_as,
  core_when_open,
  wrong_at,
  wrong_limits,
  wrong_content,
  take_refusal,
  RefusesReply,
  IsFirstRefusal,
  IsFirst,
  IsTakeError,
  fault_of,
  core_after_reply,
  take_leaves,
}
use Rattle.sftp_core.specs.declared.info.Info.{Info}
use Rattle.sftp_model.specs.declared.error.Fault.{Fault}
use Rattle.session_driver.specs.Refusals.{refuses, refuses_reply, awaited_at, sent_at}
use Rattle.session_model.specs.declared.entry.Entry.{Entry}
use Rattle.session_model.specs.Readings.{answer, still_open}
use Rattle.session_model.specs.Journals.{MayTake, is_read, brings_limits}
use Rattle.session_model.specs.Runs.{limits_query_sent}
use Rattle.session_driver.specs.Bare.{IsOpen, asked_core, idle_core}

-- ---- an open session

count_empty : (p : IdRecord → Bool) → count p fin.empty ≡ 0
count_empty p = let few = count_len p fin.empty in let none = fin.len-empty nat_cmp IdRecord in omega (arith, few, none)

pub idle_awaited : (options : SftpOptions) (core : Core) (past : List Entry) → IsOpen options core past
    → awaited_of core ≡ 0
idle_awaited options core past o = ap awaited_of o.calm ∙ (let none = count_empty is_sent in omega (arith, none))

pub idle_unanswered : (options : SftpOptions) (core : Core) (past : List Entry) → IsOpen options core past
    → unanswered_of core ≡ 0
idle_unanswered options core past o = ap unanswered_of o.calm
    ∙ (let none = count_empty is_waiting in omega (arith, none))

-- ---- the limits

-- under the id 0 the query for limits is awaited
asked_here : (options : SftpOptions) (extensions : Extensions)
    → record_at (handed_out (asked_core options extensions)) 0 ≡ Some (Waiting expected.Limits true false)
asked_here options extensions = get_sent (asked_core options extensions).table 0
    ∙ ap (option_map sent_record) (put_here (all_sent fin.empty) 0 (Waiting expected.Limits false false))

-- and under no other id is anything
asked_else : (options : SftpOptions) (extensions : Extensions) (q : ℕ) → q ≢ 0
    → record_at (handed_out (asked_core options extensions)) q ≡ None
asked_else options extensions q apart =
    get_sent (asked_core options extensions).table q
    ∙ ap (option_map sent_record) (put_elsewhere (all_sent fin.empty) 0 (Waiting expected.Limits false false) q apart
    ∙ get_sent fin.empty q ∙ ap (option_map sent_record) (get-empty nat_cmp q))

-- the reply goes on
pub record GoesOn (r : Reply) : Type 0 where
  pub answers : may_answer request.LimitsQuery r ≡ true
  pub tells : brings_limits r ≡ true
  pub bare : handle_in_reply r ≡ None

content_tells : (content : List ℕ) (read : Result Limits FrameError) → limits_at content ≡ read → wrong_content read
    ≡ None → brings_limits (reply.Extended content) ≡ true
content_tells content (Ok limits) is none = ap is_read is
content_tells content (Err e) is none = absurd cc

goes_on : (r : Reply) → allows_reply expected.Limits r ≡ true → wrong_limits r ≡ None → GoesOn r
goes_on (reply.Extended content) may none = record {
  answers = refl;
  tells =
      content_tells content (limits_at content) refl none;
  bare = refl;
}
goes_on (reply.Status code message language) may none = absurd cc
goes_on (reply.Version version extensions) may none = absurd cc
goes_on (reply.Handle handle) may none = absurd cc
goes_on (reply.Content bytes) may none = absurd cc
goes_on (reply.Names names) may none = absurd cc
goes_on (reply.Attrs attrs) may none = absurd cc

allowed : (f : TakeError) (b : Bool) → cond b None (Some f) ≡ None → b ≡ true
allowed f true e = refl
allowed f false e = absurd cc

first_none : (a b : Option TakeError) → or_else a b ≡ None → (a ≡ None) × (b ≡ None)
first_none (Some e) b none = absurd cc
first_none None b none = (refl, none)

pub record TakesLimits (id : ℕ) (r : Reply) : Type 0 where
  pub zero : id ≡ 0
  pub goes : GoesOn r

pub takes_limits : (options : SftpOptions) (extensions : Extensions) (id : ℕ) (r : Reply)
    → or_else (wrong_at id r (record_at (handed_out (asked_core options extensions)) id)) (wrong_limits r) ≡ None
    → TakesLimits id r
takes_limits options extensions id r none = by_id (id == 0) refl (first_none _ _ none)
  where
    by_id : (b : Bool) → (id == 0) ≡ b → (wrong_at id r (record_at (handed_out (asked_core options extensions)) id)
        ≡ None)
        × (wrong_limits r ≡ None) → TakesLimits id r
    by_id true e f =
        let zero : id ≡ 0 = grind (arith, nat_tests) in
        let here : record_at (handed_out (asked_core options extensions)) id
        ≡ Some (Waiting expected.Limits true false) =
        ap (record_at (handed_out (asked_core options extensions))) zero ∙ asked_here options extensions in
        record { zero = zero; goes = goes_on r (allowed _ _ (sym (ap (wrong_at id r) here) ∙ f.0)) f.1 }
    by_id false e f =
        let apart : id ≢ 0 = grind (arith, nat_tests) in
        let clash : Some (take.InvalidResponseId id) ≡ None = sym
        (ap (wrong_at id r) (asked_else options extensions id apart)) ∙ f.0 in
        absurd cc

gone_any : (t : IdRecords) (q : ℕ) → ((k : ℕ) → k ≢ 0 → fin.get t k ≡ None) → fin.get (fin.remove t 0) q ≡ None
gone_any t q else_none = by_id (q == 0) refl
  where
    by_id : (b : Bool) → (q == 0) ≡ b → fin.get (fin.remove t 0) q ≡ None
    by_id true e = let zero : q ≡ 0 = grind (arith, nat_tests) in ap (fin.get (fin.remove t 0)) zero ∙ gone_here t 0
    by_id false e = let apart : q ≢ 0 = grind (arith, nat_tests) in gone_elsewhere t 0 q apart ∙ else_none q apart

-- nothing is under any id
limits_gone : (options : SftpOptions) (extensions : Extensions)
    → fin.remove (handed_out (asked_core options extensions)).table 0 ≡ fin.empty
limits_gone options extensions =
    fin.same_map nat_cmp_total nat_cmp-IsAntisymmetric _ _
    (λ q. gone_any (handed_out (asked_core options extensions)).table q (asked_else options extensions)
    ∙ sym (get-empty nat_cmp q))

none_sent : all_sent fin.empty ≡ fin.empty
none_sent = fin.same_map nat_cmp_total nat_cmp-IsAntisymmetric _ _
    (λ q. get_sent fin.empty q ∙ ap (option_map sent_record) (get-empty nat_cmp q) ∙ sym (get-empty nat_cmp q))

-- ---- refusals

pub first_kept : (e : TakeError) (kept : Option Fault) (first : Option TakeError) (old new : Core)
    → RefusesReply e kept first old new → IsFirstRefusal e kept first
first_kept e None first old new h = tt
first_kept e (Some fault) first old new h = h.0

-- ---- the limits are taken

-- what the body told
pub record LimitsCame (options : SftpOptions) (extensions : Extensions) (read : Result Read FrameError) (told : Taken)
    (new : Core) : Type 0 where
  pub reply : Reply
  pub reads : read ≡ Ok (Some 0, reply)
  pub tells : told ≡ taken_of.Limits 0 reply
  pub goes : GoesOn reply
  pub info : Info
  pub calm : new ≡ idle_core options info

pub limits_in_core : (options : SftpOptions) (extensions : Extensions) (id : ℕ) (r : Reply) → TakesLimits id r
    → core_after_reply (handed_out (asked_core options extensions)) (Some id, r)
    ≡ idle_core options (info_with extensions (limits_in r) options)
limits_in_core options extensions id r t =
    let core : Core = handed_out (asked_core options extensions) in
    let here : record_at core id ≡ Some (Waiting expected.Limits true false) = ap (record_at core) t.zero
    ∙ asked_here options extensions in
    ap (λ (p : Option IdRecord). core_when_open (take_leaves core id r p) extensions (limits_in r)) here
    ∙ ap (λ (h : Option (List ℕ)). core_when_open (core_after_drop core id h) extensions (limits_in r)) t.goes.bare
    ∙ ap (λ (k : ℕ). core_when_open (without_record core k) extensions (limits_in r)) t.zero
    ∙ ap (λ (m : IdRecords). record {
      options = options;
      hello_sent = true;
      phase =
          core_phase.Open (info_with extensions (limits_in r) options);
      queue = [];
      pieces = [];
      table = m;
      fault =
          None;
    }) (limits_gone options extensions)

limits_came : (options : SftpOptions) (extensions : Extensions) (read : Read) (told : Taken) (new : Core)
    → take_refusal (handed_out (asked_core options extensions)) (Ok read) ≡ None
    → told ≡ taken_as (handed_out (asked_core options extensions)) read → new
    ≡ core_after_reply (handed_out (asked_core options extensions)) read
    → LimitsCame options extensions (Ok read) told new
limits_came options extensions (None, r) told new none tells leaves = absurd cc
limits_came options extensions (Some id, r) told new none tells leaves =
    let t = takes_limits options extensions id r none in
    record {
      reply = r;
      reads = ap (λ (k : ℕ). Ok (Some k, r)) t.zero;
      tells = tells ∙ ap (λ (k : ℕ). taken_of.Limits k r) t.zero;
      goes = t.goes;
      info = info_with extensions (limits_in r) options;
      calm = leaves ∙ limits_in_core options extensions id r t;
    }

pub came : (options : SftpOptions) (extensions : Extensions) (core new : Core) (read : Result Read FrameError)
    (told : Taken) → core ≡ handed_out (asked_core options extensions)
    → take_refusal core read ≡ None → TakenFrom read told core new → LimitsCame options extensions read told new
came options extensions core new read told is none t =
    let at_core = λ (c : Core). take_refusal c (Ok t.reading) ≡ None in
    subst (λ (w : Result Read FrameError). LimitsCame options extensions w told new) (sym t.reads)
    (limits_came options extensions t.reading told new
    (subst at_core is (sym (ap (take_refusal core) t.reads) ∙ none))
    (t.tells ∙ ap (λ (c : Core). taken_as c t.reading) is)
    (t.leaves ∙ ap (λ (c : Core). core_after_reply c t.reading) is))

-- the reply may be taken
pub may_take : (r : Reply) → GoesOn r → MayTake (limits_query_sent 0) 0 r
may_take r goes = (0, ((refl, omega arith, refl), (goes.answers, goes.tells)))

-- ---- VERSION is taken

-- what the body told
pub record VersionCame (options : SftpOptions) (read : Result Read FrameError) (told : Taken) (new : Core) : Type 0
  where
    pub extensions : Extensions
    pub reads : read ≡ Ok (None, version_reply_of extensions)
    pub tells : told ≡ taken_of.Version (version_reply_of extensions)
    pub leaves : new ≡ core_after_version (handed_out (fresh options)) extensions

three : (e : TakeError) (v : ℕ) (b : Bool) → (v == 3) ≡ b → (if b then None else Some e) ≡ None → v ≡ 3
three e v true is none = grind (arith, nat_tests)
three e v false is none = absurd cc

version_came : (options : SftpOptions) (read : Read) (told : Taken) (new : Core)
    → take_refusal (handed_out (fresh options)) (Ok read) ≡ None
    → told ≡ taken_as (handed_out (fresh options)) read → new ≡ core_after_reply (handed_out (fresh options)) read
    → VersionCame options (Ok read) told new
version_came options (None, reply.Version v extensions) told new none tells leaves =
    let is = three (take.Protocol v) v (v == 3) refl none in
    record {
      extensions = extensions;
      reads = ap (λ (n : ℕ). Ok (None, reply.Version n extensions)) is;
      tells = tells ∙ ap (λ (n : ℕ). taken_of.Version (reply.Version n extensions)) is;
      leaves = leaves;
    }
version_came options (None, reply.Status code message language) told new none tells leaves = absurd cc
version_came options (None, reply.Handle handle) told new none tells leaves = absurd cc
version_came options (None, reply.Content bytes) told new none tells leaves = absurd cc
version_came options (None, reply.Names names) told new none tells leaves = absurd cc
version_came options (None, reply.Attrs attrs) told new none tells leaves = absurd cc
version_came options (None, reply.Extended content) told new none tells leaves = absurd cc
version_came options (Some id, r) told new none tells leaves = absurd cc

pub greets : (options : SftpOptions) (core new : Core) (read : Result Read FrameError) (told : Taken) → core
    ≡ handed_out (fresh options)
    → take_refusal core read ≡ None → TakenFrom read told core new → VersionCame options read told new
greets options core new read told is none t =
    subst (λ (w : Result Read FrameError). VersionCame options w told new) (sym t.reads)
    (version_came options t.reading told new
    (subst (λ (c : Core). take_refusal c (Ok t.reading) ≡ None) is (sym (ap (take_refusal core) t.reads) ∙ none))
    (t.tells ∙ ap (λ (c : Core). taken_as c t.reading) is)
    (t.leaves ∙ ap (λ (c : Core). core_after_reply c t.reading) is))

-- without the query for limits the session is open
pub opened_idle : (options : SftpOptions) (extensions : Extensions) (new : Core) → new
    ≡ core_after_version (handed_out (fresh options)) extensions → offers_limits extensions ≡ false
    → new ≡ idle_core options (info_with extensions None options)
opened_idle options extensions new leaves none =
    leaves ∙ ap (λ (b : Bool). if b then asked_core options extensions else
    core_when_open (handed_out (fresh options)) extensions None) none
    ∙ ap (λ (m : IdRecords). record {
      options = options;
      hello_sent = true;
      phase =
          core_phase.Open (info_with extensions None options);
      queue = [];
      pieces = [];
      table = m;
      fault = None;
    })
    none_sent

pub asked_is : (options : SftpOptions) (extensions : Extensions) (new : Core) → new
    ≡ core_after_version (handed_out (fresh options)) extensions → offers_limits extensions ≡ true → new
    ≡ asked_core options extensions
asked_is options extensions new leaves some =
    leaves ∙ ap (λ (b : Bool). if b then asked_core options extensions else
    core_when_open (handed_out (fresh options)) extensions None) some

-- ---- what the limits leave

or_same : (b : Bool) (e : TakeError) (later : Option TakeError) → or_else (if b then None else Some e) later
    ≡ (if b then later else Some e)
or_same true e later = refl
or_same false e later = refl

queried_wrong : (options : SftpOptions) (extensions : Extensions) (read : Result Read FrameError)
    → take_refusal (handed_out (asked_core options extensions)) read ≡ refuses (limits_query_sent 0) read
queried_wrong options extensions (Err e) = refl
queried_wrong options extensions (Ok (None, r)) = refl
queried_wrong options extensions (Ok (Some id, r)) = by_id (0 == id) refl
  where
    by_id : (b : Bool) → (0 == id) ≡ b → or_else (wrong_at id r
        (record_at (handed_out (asked_core options extensions)) id))
        (wrong_limits r) ≡ refuses_reply id r (awaited_at (limits_query_sent 0) id)
    by_id true e =
        let zero : 0 ≡ id = grind (arith, nat_tests) in
        subst (λ (k : ℕ). or_else (wrong_at k r (record_at (handed_out (asked_core options extensions)) k))
        (wrong_limits r)
        ≡ refuses_reply k r (awaited_at (limits_query_sent 0) k)) zero
        (ap (λ (p : Option IdRecord). or_else (wrong_at 0 r p) (wrong_limits r)) (asked_here options extensions)
        ∙ or_same (allows_reply expected.Limits r) (take.InvalidResponse (Some 0)) (wrong_limits r))
    by_id false e =
        let apart : id ≢ 0 = grind (arith, nat_tests) in
        ap (λ (p : Option IdRecord). or_else (wrong_at id r p) (wrong_limits r))
        (asked_else options extensions id apart)
        ∙ ap (λ (b : Bool). refuses_reply id r (sent_at (limits_query_sent 0)
        (still_open (answer (limits_query_sent 0)) (if b then Some 0 else None)))) (sym e)

-- what is refused by the core is refused by the journal
pub queried_first : (options : SftpOptions) (extensions : Extensions) (core new : Core) (past : List Entry)
    (read : Result Read FrameError) (e : TakeError)
    → core ≡ handed_out (asked_core options extensions) → past ≡ limits_query_sent 0
    → IsTakeError e (take_refusal core read) core new → IsFirst e (refuses past read)
queried_first options extensions core new past read e is same refused =
    let wrong = ap (λ (c : Core). take_refusal c read) is ∙ queried_wrong options extensions read
    ∙ ap (λ (w : List Entry). refuses w read) (sym same) in
    subst (λ (f : Option TakeError). IsFirst e f) wrong (first_kept e (fault_of e) (take_refusal core read) core new
    refused)
