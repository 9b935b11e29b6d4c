-- How many ids a core keeps, as it goes on.
use Rattle.std.proofs.Common.{◌≡◌, ◌≤◌, ◌+◌, ◌-◌, ℕ, Bool, true, false, List, Option, Some, None, refl, ap, sym, ◌∙◌, subst, arith}
use Rattle.std.specs.Cmp.{nat_cmp_total}
use Rattle.std.specs.FinMap as fin
use Rattle.sftp_model.specs.declared.answers.Expected.{Expected}
use Rattle.sftp_model.specs.declared.error.Fault.{Fault}
use Rattle.sftp_model.specs.declared.reply.Reply.{Reply}
use Rattle.sftp_model.specs.declared.request.Request.{Request}
use Rattle.sftp_model.specs.declared.request.Request.TheVariants as request
use Rattle.sftp_core.specs.declared.id_record.IdRecord.{IdRecord}
use Rattle.sftp_core.specs.declared.id_record.IdRecord.TheVariants.{Waiting, Answered, Granted}
use Rattle.sftp_core.specs.Core.{
  Core,
  abandon_leaves,
  core_after_abandon,
  after_poll,
  record_at,
  core_after_drop,
  given_leaves,
  handed_out,
  poll_leaves,
  queued_last,
  core_after_release,
  reply_in,
}
use Rattle.sftp_core.specs.Grant.{GrantValue}
use Rattle.sftp_core.specs.Table.{IdRecords, handle_in_reply}
use Rattle.sftp_core.specs.Take.{core_with_answer, take_leaves}
use Rattle.sftp_core.proofs.Counts.{count_len, len_less, len_more, len_same, len_sent}
use Rattle.sftp_core.proofs.Tables.{count-remove}
use Rattle.session_laws.specs.Budgets.{kept_ids}
use Rattle.session_laws.specs.Ends.{let_go}
use Rattle.session_laws.proofs.CountedLaws.{released_is}

-- ---- a request

-- a request under any id keeps one more at the most
pub kept_ask : (old : Core) (id : ℕ) (r : Request) (wanted : Bool)
    → kept_ids (queued_last old id r wanted) ≤ kept_ids old + 1
kept_ask old id r wanted = len_more old.table id _

-- in the place of what stands there it keeps as many
kept_again : (old : Core) (id : ℕ) (r : Request) (wanted : Bool) (p : IdRecord) → record_at old id ≡ Some p
    → kept_ids (queued_last old id r wanted) ≡ kept_ids old
kept_again old id r wanted p here = len_same old.table id _ p here

-- so does the CLOSE of a grant
pub kept_released : (old : Core) (grant : GrantValue) → record_at old grant.id ≡ Some (Granted grant.handle 1)
    → kept_ids (core_after_release old grant) ≡ kept_ids old
kept_released old grant here = ap kept_ids (released_is old grant here)
    ∙ kept_again old grant.id (request.Close grant.handle) true (Granted grant.handle 1) here

-- ---- what is dropped

kept_dropped : (old : Core) (id : ℕ) (b : Option (List ℕ)) (p : IdRecord) → record_at old id ≡ Some p
    → kept_ids (core_after_drop old id b) ≤ kept_ids old
kept_dropped old id (Some handle) p here = (let same = kept_again old id (request.Close handle) false p here in
    omega (arith, same))
kept_dropped old id None p here = len_less old.table id

pub kept_abandoned : (old : Core) (t : ℕ) → kept_ids (core_after_abandon old t) ≤ kept_ids old
kept_abandoned old t = by_place (record_at old t) refl
  where
    by_place : (p : Option IdRecord) → record_at old t ≡ p → kept_ids (abandon_leaves old t (record_at old t)) ≤
        kept_ids old
    by_place None is = subst (λ (x : Option IdRecord). kept_ids (abandon_leaves old t x) ≤ kept_ids old) (sym is)
        (omega arith)
    by_place (Some (Waiting e sent wanted)) is =
        subst (λ (x : Option IdRecord). kept_ids (abandon_leaves old t x) ≤ kept_ids old) (sym is)
        (let same = len_same old.table t (Waiting e sent false) (Waiting e sent wanted) is in omega (arith, same))
    by_place (Some (Answered e r)) is = subst (λ (x : Option IdRecord). kept_ids (abandon_leaves old t x) ≤ kept_ids
        old) (sym is)
        (kept_dropped old t (handle_in_reply r) (Answered e r) is)
    by_place (Some (Granted handle users)) is = subst (λ (x : Option IdRecord). kept_ids (abandon_leaves old t x) ≤
        kept_ids old) (sym is) (omega arith)

-- a grant that the session lets go of
pub kept_let_go : (old : Core) (grant : GrantValue) → record_at old grant.id ≡ Some (Granted grant.handle 1)
    → kept_ids (let_go old grant) ≤ kept_ids old
kept_let_go old grant here = (let less = kept_abandoned (core_after_release old grant) grant.id in let same =
    kept_released old grant here in omega (arith, less, same))

-- ---- a poll

some_there : (t : IdRecords) (k : ℕ) (w : IdRecord) → fin.get t k ≡ Some w → 1 ≤ fin.len t
some_there t k w some = (let one = count-remove (λ (p : IdRecord). true) t k w some in let few =
    count_len (λ (p : IdRecord). true) t in omega (arith, one, few))

-- what is taken out is one less
removed : (t : IdRecords) (k : ℕ) (w : IdRecord) → fin.get t k ≡ Some w → fin.len (fin.remove t k) + 1 ≤ fin.len t
removed t k w some = rw (fin.len-remove nat_cmp_total t k, some) (one_less (fin.len t) (some_there t k w some))
  where
    one_less : (n : ℕ) → 1 ≤ n → n - 1 + 1 ≤ n
    one_less n le = omega (arith, le)

polled_by : (old : Core) (t : ℕ) (y : Reply) (f : Option Fault) (p : Option IdRecord) → record_at old t ≡ p → reply_in p
    ≡ Some y
    → (kept_ids (poll_leaves old t f p) ≤ kept_ids old) × (handle_in_reply y ≡ None
    → kept_ids (poll_leaves old t f p) + 1 ≤ kept_ids old)
polled_by old t y f (Some (Answered e r)) here is = (
  by_brought (handle_in_reply r) refl,
  λ none. (let same : r ≡ y = cc in
      subst (λ (b : Option (List ℕ)). kept_ids (given_leaves old t b) + 1 ≤ kept_ids old)
      (sym (ap handle_in_reply same ∙ none)) (removed old.table t (Answered e r) here)),
)
  where
    by_brought : (b : Option (List ℕ)) → handle_in_reply r ≡ b
        → kept_ids (given_leaves old t (handle_in_reply r)) ≤ kept_ids old
    by_brought (Some h) b_is = subst (λ (b : Option (List ℕ)). kept_ids (given_leaves old t b) ≤ kept_ids old)
        (sym b_is)
        (let same = len_same old.table t (Granted h 1) (Answered e r) here in omega (arith, same))
    by_brought None b_is = subst (λ (b : Option (List ℕ)). kept_ids (given_leaves old t b) ≤ kept_ids old) (sym b_is)
        (len_less old.table t)
polled_by old t y f (Some (Waiting e sent wanted)) here is = absurd cc
polled_by old t y f (Some (Granted handle users)) here is = absurd cc
polled_by old t y f None here is = absurd cc

-- a poll of a kept reply keeps no more ids, and one less where it brings no handle
pub kept_polled : (old : Core) (t : ℕ) (y : Reply) → reply_in (record_at old t) ≡ Some y
    → (kept_ids (after_poll old t) ≤ kept_ids old)
    × (handle_in_reply y ≡ None → kept_ids (after_poll old t) + 1 ≤ kept_ids old)
kept_polled old t y is = polled_by old t y old.fault (record_at old t) refl is

-- ---- what is sent and taken

pub kept_sent : (old : Core) → kept_ids (handed_out old) ≤ kept_ids old
kept_sent old = (let same = len_sent old.table in omega (arith, same))

pub kept_taken : (old : Core) (id : ℕ) (r : Reply) → kept_ids (take_leaves old id r (record_at old id)) ≤ kept_ids old
kept_taken old id r = by_place (record_at old id) refl
  where
    by_wanted : (e : Expected) (wanted : Bool) (p : IdRecord) → record_at old id ≡ Some p
        → kept_ids (core_with_answer old id r e wanted) ≤ kept_ids old
    by_wanted e true p is = (let same = len_same old.table id (Answered e r) p is in omega (arith, same))
    by_wanted e false p is = kept_dropped old id (handle_in_reply r) p is

    by_place : (p : Option IdRecord) → record_at old id ≡ p → kept_ids (take_leaves old id r (record_at old id)) ≤
        kept_ids old
    by_place None is = subst (λ (x : Option IdRecord). kept_ids (take_leaves old id r x) ≤ kept_ids old) (sym is)
        (omega arith)
    by_place (Some (Waiting e sent wanted)) is = subst (λ (x : Option IdRecord). kept_ids (take_leaves old id r x) ≤
        kept_ids old)
        (sym is) (by_wanted e wanted (Waiting e sent wanted) is)
    by_place (Some (Answered e other)) is = subst (λ (x : Option IdRecord). kept_ids (take_leaves old id r x) ≤ kept_ids
        old) (sym is) (omega arith)
    by_place (Some (Granted handle users)) is = subst (λ (x : Option IdRecord). kept_ids (take_leaves old id r x) ≤
        kept_ids old) (sym is) (omega arith)
