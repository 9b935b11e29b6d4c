-- How the counts of a core change with each step, and what is left to do.
use Rattle.std.specs.Prelude.{◌⊎◌}
use Rattle.std.proofs.Common.{
  ◌≡◌,
  ◌≢◌,
  ◌<◌,
  ◌≤◌,
  ◌+◌,
  ◌*◌,
  ℕ,
  Bool,
  true,
  false,
  List,
  ◌∷◌,
  Option,
  Some,
  None,
  refl,
  ap,
  sym,
  ◌∙◌,
  subst,
  arith,
  if◌then◌else◌,
  inl,
  inr,
}
use Rattle.sftp_model.specs.declared.answers.Expected.{Expected}
use Rattle.sftp_model.specs.declared.answers.Expected.TheVariants as expected
use Rattle.sftp_model.specs.declared.error.Fault.{Fault}
use Rattle.sftp_model.specs.declared.reply.Reply.{Reply}
use Rattle.sftp_model.specs.declared.reply.Reply.TheVariants as reply
use Rattle.sftp_model.specs.declared.request.Request.{Request}
use Rattle.sftp_model.specs.declared.request.Request.TheVariants as request
use Rattle.sftp_model.specs.Answers.{allows_reply, expected_of}
use Rattle.sftp_core.specs.declared.id_record.IdRecord.{IdRecord}
use Rattle.sftp_core.specs.declared.id_record.IdRecord.TheVariants.{Waiting, Answered, Granted}
use Rattle.sftp_core.specs.Core.{
  Core,
  abandon_leaves,
  core_after_abandon,
  after_poll,
  record_at,
  core_after_drop,
  given_leaves,
  handed_out,
  is_ticket,
  poll_leaves,
  queued_last,
  release_leaves,
  core_after_release,
  reply_in,
  users_of,
}
use Rattle.sftp_core.specs.Grant.{GrantValue}
use Rattle.sftp_core.specs.Table.{IsAllowed, all_sent, asks_handle, handle_in_reply, is_owing, is_sent, is_waiting, tally}
use Rattle.sftp_core.specs.Take.{core_with_answer, take_leaves}
use Rattle.sftp_core.proofs.Counts.{count_owing_sent, count_unsent_sent, count_waiting_sent, waiting_split}
use Rattle.sftp_core.proofs.Elsewhere.{put_here}
use Rattle.sftp_core.proofs.Tables.{count-insert_new, count-insert_old, count-remove}
use Rattle.sftp_core.proofs.Tallies.{tally_le}
use Rattle.session_model.specs.declared.event.Owner.{Owner}
use Rattle.session_model.specs.declared.event.Owner.TheVariants as owner
use Rattle.session_model.specs.declared.event.Event.TheVariants.{Send, Submit, Take}
use Rattle.session_model.specs.declared.entry.Entry.{Entry}
use Rattle.session_model.specs.declared.entry.Entry.TheVariants as entry
use Rattle.session_model.specs.Journals.{MayTake}
use Rattle.session_model.specs.Readings.{count_awaited, count_unanswered}
use Rattle.session_model.proofs.CountLaws.{awaited_take, unanswered_submit, unanswered_take}
use Rattle.session_laws.specs.Rest.{CountsJournal, weigh}

-- ---- a request under a free id

-- a request under a free id counts on both sides
pub counted_ask : (past : List Entry) (old : Core) (by : Owner) (id : ℕ) (r : Request) (wanted : Bool)
    → record_at old id ≡ None → CountsJournal past old
    → CountsJournal (entry.Event (Submit by id r) ∷ past) (queued_last old id r wanted)
counted_ask past old by id r wanted free c =
    let v : IdRecord = Waiting (expected_of r) false wanted in
    record {
      waiting = count-insert_new is_waiting old.table id v free ∙ ap (λ n. n + 1) c.waiting
          ∙ sym (unanswered_submit past by id r);
      sent = count-insert_new is_sent old.table id v free ∙ ap (λ n. n + 0) c.sent ∙ omega arith;
    }

-- and weighs 3 at the most
pub weigh_ask : (old : Core) (id : ℕ) (r : Request) (wanted : Bool) → record_at old id ≡ None
    → weigh (queued_last old id r wanted) ≤ weigh old + 3
weigh_ask old id r wanted free =
    let v : IdRecord = Waiting (expected_of r) false wanted in
    let waits = count-insert_new is_waiting old.table id v free in
    let owes = count-insert_new is_owing old.table id v free in
    let one : tally is_owing v ≤ 1 = tally_le is_owing v in
    omega (arith, waits, owes, one)

-- ---- the CLOSE of a grant

-- a CLOSE under the id of its grant counts on both sides
pub counted_close : (past : List Entry) (old : Core) (by : Owner) (id : ℕ) (h : List ℕ) (users : ℕ) (wanted : Bool)
    → record_at old id ≡ Some (Granted h users) → CountsJournal past old
    → CountsJournal (entry.Event (Submit by id (request.Close h)) ∷ past) (queued_last old id (request.Close h) wanted)
counted_close past old by id h users wanted here c =
    let waits = count-insert_old is_waiting old.table id (Waiting expected.Status false wanted) (Granted h users) here
    in
    let sends = count-insert_old is_sent old.table id (Waiting expected.Status false wanted) (Granted h users) here in
    let w = c.waiting in let s = c.sent in let more = unanswered_submit past by id (request.Close h) in
    record { waiting = omega (arith, waits, w, more); sent = omega (arith, sends) ∙ s }

-- and weighs less than the grant
pub weigh_close : (old : Core) (id : ℕ) (h : List ℕ) (users : ℕ) (wanted : Bool) → record_at old id
    ≡ Some (Granted h users)
    → weigh (queued_last old id (request.Close h) wanted) < weigh old
weigh_close old id h users wanted here =
    let waits = count-insert_old is_waiting old.table id (Waiting expected.Status false wanted) (Granted h users) here
    in
    let owes = count-insert_old is_owing old.table id (Waiting expected.Status false wanted) (Granted h users) here in
    omega (arith, waits, owes)

-- ---- a poll

-- only a request that asks for a handle may bring one
brought_allowed : (e : Expected) (r : Reply) (h : List ℕ) → allows_reply e r ≡ true → handle_in_reply r ≡ Some h
    → asks_handle e ≡ true
brought_allowed expected.Handle r h may is = refl
brought_allowed e (reply.Handle handle) h may is = by_kind e may
  where
    by_kind : (e : Expected) → allows_reply e (reply.Handle handle) ≡ true → asks_handle e ≡ true
    by_kind expected.Version may = absurd cc
    by_kind expected.Handle may = refl
    by_kind (expected.Content len) may = absurd cc
    by_kind expected.Names may = absurd cc
    by_kind expected.FirstName may = absurd cc
    by_kind expected.Attrs may = absurd cc
    by_kind expected.Limits may = absurd cc
    by_kind expected.Status may = absurd cc
brought_allowed e r h may is = absurd cc

counted_given : (past : List Entry) (old : Core) (t : ℕ) (e : Expected) (r : Reply) (b : Option (List ℕ))
    → record_at old t
    ≡ Some (Answered e r) → CountsJournal past old → CountsJournal past (given_leaves old t b)
counted_given past old t e r (Some h) here c =
    let waits = count-insert_old is_waiting old.table t (Granted h 1) (Answered e r) here in
    let sends = count-insert_old is_sent old.table t (Granted h 1) (Answered e r) here in
    record { waiting = omega (arith, waits) ∙ c.waiting; sent = omega (arith, sends) ∙ c.sent }
counted_given past old t e r None here c =
    let waits = count-remove is_waiting old.table t (Answered e r) here in
    let sends = count-remove is_sent old.table t (Answered e r) here in
    record { waiting = omega (arith, waits) ∙ c.waiting; sent = omega (arith, sends) ∙ c.sent }

counted_poll : (past : List Entry) (old : Core) (t : ℕ) (y : Reply) (f : Option Fault) (p : Option IdRecord)
    → record_at old t ≡ p
    → reply_in p ≡ Some y → CountsJournal past old → CountsJournal past (poll_leaves old t f p)
counted_poll past old t y f (Some (Answered e r)) here is c = counted_given past old t e r (handle_in_reply r) here c
counted_poll past old t y f (Some (Waiting e was_sent wanted)) here is c = absurd cc
counted_poll past old t y f (Some (Granted handle users)) here is c = absurd cc
counted_poll past old t y f None here is c = absurd cc

-- a poll of a kept reply changes no count
pub counted_polled : (past : List Entry) (old : Core) (t : ℕ) (y : Reply) → reply_in (record_at old t) ≡ Some y
    → CountsJournal past old → CountsJournal past (after_poll old t)
counted_polled past old t y is c = counted_poll past old t y old.fault (record_at old t) refl is c

weigh_given : (old : Core) (t : ℕ) (e : Expected) (r : Reply) (b : Option (List ℕ)) → record_at old t
    ≡ Some (Answered e r)
    → handle_in_reply r ≡ b → allows_reply e r ≡ true → weigh (given_leaves old t b) ≤ weigh old
weigh_given old t e r (Some h) here is may =
    let waits = count-insert_old is_waiting old.table t (Granted h 1) (Answered e r) here in
    let owes = count-insert_old is_owing old.table t (Granted h 1) (Answered e r) here in
    let one : tally is_owing (Answered e r) ≡ 1 = ap (λ b. if b then 1 else 0) (brought_allowed e r h may is) in
    omega (arith, waits, owes, one)
weigh_given old t e r None here is may =
    let waits = count-remove is_waiting old.table t (Answered e r) here in
    let owes = count-remove is_owing old.table t (Answered e r) here in
    omega (arith, waits, owes)

weigh_poll : (old : Core) (t : ℕ) (y : Reply) (f : Option Fault) (p : Option IdRecord) → record_at old t ≡ p
    → reply_in p ≡ Some y
    → IsAllowed p → weigh (poll_leaves old t f p) ≤ weigh old
weigh_poll old t y f (Some (Answered e r)) here is may = weigh_given old t e r (handle_in_reply r) here refl may
weigh_poll old t y f (Some (Waiting e was_sent wanted)) here is may = absurd cc
weigh_poll old t y f (Some (Granted handle users)) here is may = absurd cc
weigh_poll old t y f None here is may = absurd cc

-- and adds nothing to what is left: a handle may have come to this request
pub weigh_polled : (old : Core) (t : ℕ) (y : Reply) → reply_in (record_at old t) ≡ Some y → IsAllowed (record_at old t)
    → weigh (after_poll old t) ≤ weigh old
weigh_polled old t y is may = weigh_poll old t y old.fault (record_at old t) refl is may

-- ---- a cancel

-- an entry that changes no count of the journal leaves the core counted
pub counted_same : (past now : List Entry) (core : Core) → count_unanswered now ≡ count_unanswered past
    → count_awaited now ≡ count_awaited past → CountsJournal past core → CountsJournal now core
counted_same past now core waits sends c = record { waiting = c.waiting ∙ sym waits; sent = c.sent ∙ sym sends }

-- a request that is given up stays until its reply, and counts as before
pub counted_abandon_waiting : (past : List Entry) (old : Core) (t : ℕ) (e : Expected) (was_sent wanted : Bool)
    → record_at old t ≡ Some (Waiting e was_sent wanted) → CountsJournal past old
    → CountsJournal past (core_after_abandon old t)
counted_abandon_waiting past old t e was_sent wanted here c =
    let waits = count-insert_old is_waiting old.table t (Waiting e was_sent false) (Waiting e was_sent wanted) here in
    let sends = count-insert_old is_sent old.table t (Waiting e was_sent false) (Waiting e was_sent wanted) here in
    subst (λ (x : Core). CountsJournal past x) (sym (ap (abandon_leaves old t) here))
    (record { waiting = omega (arith, waits) ∙ c.waiting; sent = omega (arith, sends) ∙ c.sent })

-- and weighs as before
pub weigh_abandon_waiting : (old : Core) (t : ℕ) (e : Expected) (was_sent wanted : Bool) → record_at old t
    ≡ Some (Waiting e was_sent wanted) → weigh (core_after_abandon old t) ≡ weigh old
weigh_abandon_waiting old t e was_sent wanted here =
    let waits = count-insert_old is_waiting old.table t (Waiting e was_sent false) (Waiting e was_sent wanted) here in
    let owes = count-insert_old is_owing old.table t (Waiting e was_sent false) (Waiting e was_sent wanted) here in
    ap weigh (ap (abandon_leaves old t) here) ∙ omega (arith, waits, owes)

-- a kept reply without a handle is dropped, and no count changes
pub counted_abandon_plain : (past : List Entry) (old : Core) (t : ℕ) (e : Expected) (r : Reply) → record_at old t
    ≡ Some (Answered e r) → handle_in_reply r ≡ None → CountsJournal past old
    → CountsJournal past (core_after_abandon old t)
counted_abandon_plain past old t e r here none c =
    let waits = count-remove is_waiting old.table t (Answered e r) here in
    let sends = count-remove is_sent old.table t (Answered e r) here in
    subst (λ (x : Core). CountsJournal past x) (sym (ap (abandon_leaves old t) here ∙ ap (core_after_drop old t) none))
    (record { waiting = omega (arith, waits) ∙ c.waiting; sent = omega (arith, sends) ∙ c.sent })

-- and what is left is as much as before at the most
weigh_abandon_plain : (old : Core) (t : ℕ) (e : Expected) (r : Reply) → record_at old t ≡ Some (Answered e r)
    → handle_in_reply r ≡ None → weigh (core_after_abandon old t) ≤ weigh old
weigh_abandon_plain old t e r here none =
    let waits = count-remove is_waiting old.table t (Answered e r) here in
    let owes = count-remove is_owing old.table t (Answered e r) here in
    let less : weigh (core_after_drop old t None) ≤ weigh old = omega (arith, waits, owes) in
    subst (λ (x : Core). weigh x ≤ weigh old) (sym (ap (abandon_leaves old t) here ∙ ap (core_after_drop old t) none))
    less

-- a reply that is no HANDLE brings none
plain_brings : (old : Core) (t : ℕ) (e : Expected) (r : Reply)
    → ((handle : List ℕ) → reply_in (record_at old t) ≢ Some (reply.Handle handle)) → record_at old t
    ≡ Some (Answered e r) → handle_in_reply r
    ≡ None
plain_brings old t e (reply.Handle handle) ungranted is = absurd (ungranted handle (ap reply_in is))
plain_brings old t e other ungranted is = refl

-- a ticket without a HANDLE is dropped, and no count changes
pub counted_drop : (past : List Entry) (old : Core) (t : ℕ) → is_ticket (record_at old t) ≡ true
    → ((handle : List ℕ) → reply_in (record_at old t) ≢ Some (reply.Handle handle)) → CountsJournal past old
    → CountsJournal past (core_after_abandon old t)
counted_drop past old t ticket ungranted c = by_place (record_at old t) refl
  where
    by_place : (p : Option IdRecord) → record_at old t ≡ p → CountsJournal past (core_after_abandon old t)
    by_place None is = absurd (let clash : false ≡ true = sym (ap is_ticket is) ∙ ticket in cc)
    by_place (Some (Waiting e was_sent wanted)) is = counted_abandon_waiting past old t e was_sent wanted is c
    by_place (Some (Answered e r)) is = counted_abandon_plain past old t e r is (plain_brings old t e r ungranted is) c
    by_place (Some (Granted handle users)) is = absurd (let clash : false ≡ true = sym (ap is_ticket is) ∙ ticket in cc)

-- and nothing is added to what is left
pub weigh_drop : (old : Core) (t : ℕ) → is_ticket (record_at old t) ≡ true
    → ((handle : List ℕ) → reply_in (record_at old t) ≢ Some (reply.Handle handle))
    → weigh (core_after_abandon old t) ≤ weigh old
weigh_drop old t ticket ungranted = by_place (record_at old t) refl
  where
    by_place : (p : Option IdRecord) → record_at old t ≡ p → weigh (core_after_abandon old t) ≤ weigh old
    by_place None is = absurd (let clash : false ≡ true = sym (ap is_ticket is) ∙ ticket in cc)
    by_place (Some (Waiting e was_sent wanted)) is = (let same : weigh (core_after_abandon old t) ≡ weigh old =
        weigh_abandon_waiting old t e was_sent wanted is in omega (arith, same))
    by_place (Some (Answered e r)) is = weigh_abandon_plain old t e r is (plain_brings old t e r ungranted is)
    by_place (Some (Granted handle users)) is = absurd (let clash : false ≡ true = sym (ap is_ticket is) ∙ ticket in cc)

-- a kept reply with a handle is dropped, and the CLOSE of the handle counts on both sides
pub counted_abandon_handle : (past : List Entry) (old : Core) (t : ℕ) (e : Expected) (r : Reply) (h : List ℕ)
    → record_at old t
    ≡ Some (Answered e r) → handle_in_reply r ≡ Some h → CountsJournal past old
    → CountsJournal (entry.Event (Submit owner.Close t (request.Close h)) ∷ past) (core_after_abandon old t)
counted_abandon_handle past old t e r h here some c =
    let waits = count-insert_old is_waiting old.table t (Waiting expected.Status false false) (Answered e r) here in
    let sends = count-insert_old is_sent old.table t (Waiting expected.Status false false) (Answered e r) here in
    let w = c.waiting in let more = unanswered_submit past owner.Close t (request.Close h) in
    subst (λ (x : Core). CountsJournal (entry.Event (Submit owner.Close t (request.Close h)) ∷ past) x)
    (sym (ap (abandon_leaves old t) here ∙ ap (core_after_drop old t) some))
    (record { waiting = omega (arith, waits, w, more); sent = omega (arith, sends) ∙ c.sent })

-- ---- the session closes a grant, and awaits no reply

-- the last user's release queues the CLOSE
pub released_is : (old : Core) (grant : GrantValue) → record_at old grant.id ≡ Some (Granted grant.handle 1)
    → core_after_release old grant ≡ queued_last old grant.id (request.Close grant.handle) true
released_is old grant here = ap (λ p. release_leaves old grant (users_of p)) here

-- the CLOSE as it is queued
queued_here : (old : Core) (grant : GrantValue) → record_at (queued_last old grant.id (request.Close grant.handle) true)
    grant.id ≡ Some (Waiting expected.Status false true)
queued_here old grant = put_here old.table grant.id (Waiting expected.Status false true)

-- the CLOSE of a grant with one user counts on both sides
pub counted_let_go : (past : List Entry) (old : Core) (grant : GrantValue) → record_at old grant.id
    ≡ Some (Granted grant.handle 1) → CountsJournal past old
    → CountsJournal (entry.Event (Submit owner.Close grant.id (request.Close grant.handle)) ∷ past)
    (core_after_abandon (core_after_release old grant) grant.id)
counted_let_go past old grant here c =
    let now : List Entry = entry.Event (Submit owner.Close grant.id (request.Close grant.handle)) ∷ past in
    let queued : Core = queued_last old grant.id (request.Close grant.handle) true in
    subst (λ (x : Core). CountsJournal now (core_after_abandon x grant.id)) (sym (released_is old grant here))
    (counted_abandon_waiting now queued grant.id expected.Status false true (queued_here old grant)
    (counted_close past old owner.Close grant.id grant.handle 1 true here c))

-- and leaves less to do
pub weigh_let_go : (old : Core) (grant : GrantValue) → record_at old grant.id ≡ Some (Granted grant.handle 1)
    → weigh (core_after_abandon (core_after_release old grant) grant.id) < weigh old
weigh_let_go old grant here =
    let queued : Core = queued_last old grant.id (request.Close grant.handle) true in
    let same : weigh (core_after_abandon (core_after_release old grant) grant.id) ≡ weigh queued =
    ap (λ (x : Core). weigh (core_after_abandon x grant.id)) (released_is old grant here)
    ∙ weigh_abandon_waiting queued grant.id expected.Status false true (queued_here old grant) in
    let less : weigh queued < weigh old = weigh_close old grant.id grant.handle 1 true here in
    omega (arith, same, less)

-- ---- a reply is taken

counted_answered : (past : List Entry) (old : Core) (id : ℕ) (r : Reply) (e : Expected) (wanted : Bool)
    → record_at old id
    ≡ Some (Waiting e true wanted) → MayTake past id r → (wanted ≡ true ⊎ handle_in_reply r ≡ None)
    → CountsJournal past old → CountsJournal (entry.Event (Take id r) ∷ past) (core_with_answer old id r e wanted)
counted_answered past old id r e true here may kept c =
    let waits = count-insert_old is_waiting old.table id (Answered e r) (Waiting e true true) here in
    let sends = count-insert_old is_sent old.table id (Answered e r) (Waiting e true true) here in
    let w = c.waiting in let s = c.sent in
    let one = unanswered_take past id r may in let other = awaited_take past id r may in
    record { waiting = omega (arith, waits, w, one); sent = omega (arith, sends, s, other) }
counted_answered past old id r e false here may (inl no_way) c = absurd cc
counted_answered past old id r e false here may (inr none) c =
    let waits = count-remove is_waiting old.table id (Waiting e true false) here in
    let sends = count-remove is_sent old.table id (Waiting e true false) here in
    let w = c.waiting in let s = c.sent in
    let one = unanswered_take past id r may in let other = awaited_take past id r may in
    subst (λ (x : Core). CountsJournal (entry.Event (Take id r) ∷ past) x) (sym (ap (core_after_drop old id) none))
    (record { waiting = omega (arith, waits, w, one); sent = omega (arith, sends, s, other) })

-- a reply that is kept, or brings no handle, leaves one less on both sides
pub counted_take : (past : List Entry) (old : Core) (id : ℕ) (r : Reply) (e : Expected) (wanted : Bool)
    → record_at old id
    ≡ Some (Waiting e true wanted) → MayTake past id r → (wanted ≡ true ⊎ handle_in_reply r ≡ None)
    → CountsJournal past old → CountsJournal (entry.Event (Take id r) ∷ past) (take_leaves old id r (record_at old id))
counted_take past old id r e wanted here may kept c =
    subst (λ (x : Core). CountsJournal (entry.Event (Take id r) ∷ past) x) (sym (ap (take_leaves old id r) here))
    (counted_answered past old id r e wanted here may kept c)

-- a handle that nobody wants leaves one less on both sides, and its CLOSE counts in its place
pub counted_take_drop : (past : List Entry) (old : Core) (id : ℕ) (r : Reply) (e : Expected) (h : List ℕ)
    → record_at old id
    ≡ Some (Waiting e true false) → MayTake past id r → handle_in_reply r ≡ Some h
    → CountsJournal past old → CountsJournal (entry.Event (Submit owner.Close id (request.Close h)) ∷ entry.Event
    (Take id r) ∷ past) (take_leaves old id r (record_at old id))
counted_take_drop past old id r e h here may some c =
    let now : List Entry = entry.Event (Take id r) ∷ past in
    let waits = count-insert_old is_waiting old.table id (Waiting expected.Status false false) (Waiting e true false)
    here in
    let sends = count-insert_old is_sent old.table id (Waiting expected.Status false false) (Waiting e true false) here
    in
    let w = c.waiting in let s = c.sent in
    let one = unanswered_take past id r may in let other = awaited_take past id r may in
    let more = unanswered_submit now owner.Close id (request.Close h) in
    subst (λ (x : Core). CountsJournal (entry.Event (Submit owner.Close id (request.Close h)) ∷ now) x)
    (sym (ap (take_leaves old id r) here ∙ ap (core_after_drop old id) some))
    (record { waiting = omega (arith, waits, w, one, more); sent = omega (arith, sends, s, other) })

weigh_dropped : (old : Core) (id : ℕ) (r : Reply) (e : Expected) (b : Option (List ℕ)) → record_at old id
    ≡ Some (Waiting e true false) → allows_reply e r ≡ true → handle_in_reply r ≡ b
    → weigh (core_after_drop old id b) < weigh old
weigh_dropped old id r e (Some h) here may is =
    let waits = count-insert_old is_waiting old.table id (Waiting expected.Status false false) (Waiting e true false)
    here in
    let owes = count-insert_old is_owing old.table id (Waiting expected.Status false false) (Waiting e true false) here
    in
    let one : tally is_owing (Waiting e true false) ≡ 1 = ap (λ b. if b then 1 else 0) (brought_allowed e r h may is) in
    omega (arith, waits, owes, one)
weigh_dropped old id r e None here may is =
    let waits = count-remove is_waiting old.table id (Waiting e true false) here in
    let owes = count-remove is_owing old.table id (Waiting e true false) here in
    omega (arith, waits, owes)

weigh_answered : (old : Core) (id : ℕ) (r : Reply) (e : Expected) (wanted : Bool) → record_at old id
    ≡ Some (Waiting e true wanted) → allows_reply e r ≡ true → weigh (core_with_answer old id r e wanted) < weigh old
weigh_answered old id r e true here may =
    let waits = count-insert_old is_waiting old.table id (Answered e r) (Waiting e true true) here in
    let owes = count-insert_old is_owing old.table id (Answered e r) (Waiting e true true) here in
    omega (arith, waits, owes)
weigh_answered old id r e false here may = weigh_dropped old id r e (handle_in_reply r) here may refl

-- each reply that is taken leaves less to do
pub weigh_take : (old : Core) (id : ℕ) (r : Reply) (e : Expected) (wanted : Bool) → record_at old id
    ≡ Some (Waiting e true wanted) → allows_reply e r ≡ true →
    weigh (take_leaves old id r (record_at old id)) < weigh old
weigh_take old id r e wanted here may =
    subst (λ (x : Core). weigh x < weigh old) (sym (ap (take_leaves old id r) here))
    (weigh_answered old id r e wanted here may)

-- ---- the queue is handed out

-- behind a hand-out all that waits was sent
pub counted_send : (past : List Entry) (old : Core) → CountsJournal past old
    → CountsJournal (entry.Event Send ∷ past) (handed_out old)
counted_send past old c =
    let split = waiting_split (all_sent old.table) in
    let none = count_unsent_sent old.table in
    let same = count_waiting_sent old.table in
    let w = c.waiting in
    record { waiting = same ∙ w; sent = omega (arith, split, none, same, w) }

-- and weighs as before
pub weigh_send : (old : Core) → weigh (handed_out old) ≡ weigh old
weigh_send old = (λ i. count_waiting_sent old.table i + 2 * count_owing_sent old.table i)
