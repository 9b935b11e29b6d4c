-- What an open core refuses, its journal refuses.
use Rattle.std.proofs.Common.{◌≡◌, ℕ, Bool, true, false, List, Option, Some, None, refl, ap, sym, ◌∙◌, subst, if◌then◌else◌}
use Rattle.std.specs.Prelude.{Result, Ok, Err, nat_lt}
use Rattle.sftp_model.specs.Answers.{allows_reply, expected_of}
use Rattle.sftp_model.specs.declared.answers.Expected.{Expected}
use Rattle.sftp_model.specs.declared.answers.Expected.TheVariants as expected
use Rattle.sftp_model.specs.declared.error.Fault.{Fault}
use Rattle.sftp_model.specs.declared.frame_error.FrameError.{FrameError}
use Rattle.sftp_model.specs.declared.reply.Reply.{Reply}
use Rattle.sftp_model.specs.declared.reply.Reply.TheVariants as reply
use Rattle.sftp_core.specs.Core.{Core, record_at}
use Rattle.sftp_core.specs.Take.{IsFirstRefusal, IsFirst, IsTakeError, Read, RefusesReply, fault_of, take_refusal, wrong_at, wrong_in}
use Rattle.sftp_core.specs.declared.errors.TakeError.{TakeError}
use Rattle.sftp_core.specs.declared.errors.TakeError.TheVariants as take
use Rattle.sftp_core.specs.declared.handshake.Handshake.{Handshake}
use Rattle.sftp_core.specs.declared.id_record.IdRecord.{IdRecord}
use Rattle.sftp_core.specs.declared.id_record.IdRecord.TheVariants.{Waiting}
use Rattle.session_model.specs.declared.entry.Entry.{Entry}
use Rattle.session_model.specs.Readings.{AskedRequest, asked_at, place_awaiting, count_sent}
use Rattle.session_model.specs.Calls.{Setting}
use Rattle.session_model.specs.Ids.{IdState, Free, Pending, Replied, ReadsId, id_state}
use Rattle.session_model.specs.Journals.{IsJournal, is_session_open}
use Rattle.session_model.proofs.IdLaws.{IsFreeState, reads, free_state, pending_state}
use Rattle.session_driver.specs.Refusals.{awaited_at, refuses, refuses_limits, refuses_reply, sent_at}
use Rattle.session_laws.specs.Tables.{TableMatches, record_of_reply, stand}
use Rattle.session_laws.proofs.CameLaws.{came_by, is_limits, no_limits}
use Rattle.session_work.specs.Working.{LanesValue, IsAtRestOpen}

limits_named : (e : Expected) (r : Reply) → is_limits e ≡ false → refuses_limits e r ≡ None
limits_named expected.Limits r h = absurd cc
limits_named expected.Version r h = refl
limits_named expected.Handle r h = refl
limits_named (expected.Content len) r h = refl
limits_named expected.Names r h = refl
limits_named expected.FirstName r h = refl
limits_named expected.Attrs r h = refl
limits_named expected.Status r h = refl

-- a reply whose request has one already is refused by its id
wrong_again : (w g : Bool) (e : Expected) (y : Reply) (id : ℕ) (r : Reply) → wrong_at id r (record_of_reply w g e y)
    ≡ Some (take.InvalidResponseId id)
wrong_again true g e y id r = refl
wrong_again false true e (reply.Handle handle) id r = refl
wrong_again false true e (reply.Version version extensions) id r = refl
wrong_again false true e (reply.Status code message language) id r = refl
wrong_again false true e (reply.Content content) id r = refl
wrong_again false true e (reply.Names names) id r = refl
wrong_again false true e (reply.Attrs attrs) id r = refl
wrong_again false true e (reply.Extended content) id r = refl
wrong_again false false e y id r = refl

none_awaited : (past : List Entry) (id : ℕ) (r : Reply) → place_awaiting past id ≡ None
    → refuses_reply id r (awaited_at past id) ≡ Some (take.InvalidResponseId id)
none_awaited past id r none = ap (λ (p : Option ℕ). refuses_reply id r (sent_at past p)) none

-- the request that bears the id was sent, or wasn't
pending_wrong : (past : List Entry) (id p : ℕ) (a : AskedRequest) (was_sent live : Bool) (r : Reply)
    → place_awaiting past id
    ≡ Some p → was_sent ≡ nat_lt p (count_sent past) → asked_at past p ≡ Some a → is_limits (expected_of a.request)
    ≡ false
    → wrong_at id r (Some (Waiting (expected_of a.request) was_sent live)) ≡ refuses_reply id r (awaited_at past id)
pending_wrong past id p a was_sent live r awaits sent_is there plain =
    by_sent was_sent sent_is ∙ sym (ap (λ (x : Option ℕ). refuses_reply id r (sent_at past x)) awaits)
  where
    by_test : (b : Bool) → allows_reply (expected_of a.request) r ≡ b
        → (if allows_reply (expected_of a.request) r then None else Some (take.InvalidResponse (Some id)))
        ≡ (if allows_reply (expected_of a.request) r then refuses_limits (expected_of a.request) r else
        Some (take.InvalidResponse (Some id)))
    by_test true is =
        (λ i. if is i then None else Some (take.InvalidResponse (Some id)))
        ∙ sym (limits_named (expected_of a.request) r plain)
        ∙ (λ i. if sym is i then refuses_limits (expected_of a.request) r else Some (take.InvalidResponse (Some id)))
    by_test false is = (λ i. if is i then None else Some (take.InvalidResponse (Some id)))
        ∙ (λ i. if sym is i then refuses_limits (expected_of a.request) r else Some (take.InvalidResponse (Some id)))

    by_sent : (b : Bool) → b ≡ nat_lt p (count_sent past) → wrong_at id r
        (Some (Waiting (expected_of a.request) b live)) ≡ refuses_reply id r (sent_at past (Some p))
    by_sent true is = by_test (allows_reply (expected_of a.request) r) refl ∙ sym (ap (refuses_reply id r) there)
        ∙ (λ i. refuses_reply id r (if is i then asked_at past p else None))
    by_sent false is = λ i. refuses_reply id r (if is i then asked_at past p else None)

wrong_is : (s : Setting) (past : List Entry) (w g : ℕ → Bool) (table : ℕ → Option IdRecord) (id : ℕ) (r : Reply)
    → IsJournal s past → is_session_open s past ≡ true → TableMatches past w g table → wrong_at id r (table id)
    ≡ refuses_reply id r (awaited_at past id)
wrong_is s past w g table id r run ready t = ap (wrong_at id r) (t id) ∙ by_state (id_state past id) refl
  where
    by_state : (x : IdState) → id_state past id ≡ x → wrong_at id r (stand w g x)
        ≡ refuses_reply id r (awaited_at past id)
    by_state Free is = sym (none_awaited past id r (free_state past id (subst IsFreeState (sym is) tt)))
    by_state (Replied p a y) is =
        wrong_again (w p) (g p) (expected_of a.request) y id r ∙ sym
        (none_awaited past id r (free_state past id (subst IsFreeState (sym is) tt)))
    by_state (Pending p a b) is =
        let read = subst (ReadsId past id) is (reads past id) in
        pending_wrong past id p a b (w p) r (pending_state past id p a b is) read.2 read.3
        (no_limits s past p a ready read.1 a.by (came_by s past p a run read.3))

-- an open core refuses what the journal refuses
refusal_is : (s : Setting) (c : LanesValue) → IsAtRestOpen s c → (read : Result Read FrameError)
    → take_refusal c.core read ≡ refuses c.past read
refusal_is s c w (Err e) = refl
refusal_is s c w (Ok (None, r)) = ap (λ (x : Handshake). wrong_in c.core x None r) w.rest.between.tied.work.phase
refusal_is s c w (Ok (Some id, r)) =
    let b = w.rest.between in
    ap (λ (x : Handshake). wrong_in c.core x (Some id) r) b.tied.work.phase
    ∙ wrong_is s c.past _ _ (record_at c.core) id r b.good.run b.good.ready b.tied.table

first_by : (e : TakeError) (kept : Option Fault) (refusal : Option TakeError) (old new : Core)
    → RefusesReply e kept refusal old new → IsFirstRefusal e kept refusal
first_by e None refusal old new h = tt
first_by e (Some fault) refusal old new h = h.0

-- an error of an open core is the first thing that is wrong by the journal, or want of memory
pub first_is : (s : Setting) (c : LanesValue) (read : Result Read FrameError) (e : TakeError) (new : Core)
    → IsAtRestOpen s c
    → IsTakeError e (take_refusal c.core read) c.core new → IsFirst e (refuses c.past read)
first_is s c read e new w h = subst (IsFirst e) (refusal_is s c w read)
    (first_by e (fault_of e) (take_refusal c.core read) c.core new h)
