-- The bytes and replies of the events of a round that add to the journal, once VERSION was reported.
use Rattle.std.proofs.Common.{◌≡◌, ℕ, List, [], ◌∷◌, ◌++◌, drop, Bool, true, true≢false, refl, sym, ap, ◌∙◌, subst, Option, Some, None, Ok, eq-eqb}
use Rattle.std.specs.Prelude.{Result, if◌then◌else◌}
use Rattle.std.specs.List.{list_all}
use Rattle.std.proofs.lemmas.List.{append_cancel_right}
use Rattle.session_driver.specs.declared.session.Phase.{Phase}
use Rattle.session_driver.specs.declared.session.Phase.TheVariants.{Fresh, Greeted, Asking, Queried, Open, Failed}
use Rattle.session_driver.specs.Session.{SessionView}
use Rattle.link_frames.specs.Reading.{IsWhole}
use Rattle.session_model.specs.Turns.{RunProgress}
use Rattle.session_model.specs.declared.entry.Entry.{Entry}
use Rattle.session_model.specs.declared.entry.Entry.TheVariants as entry
use Rattle.session_model.specs.declared.event.Event.TheVariants.{Send, Take}
use Rattle.session_model.specs.Readings.{unsent_bytes}
use Rattle.session_work.specs.Working.{past_of}
use Rattle.sftp_lanes.specs.Events.{HandsOutIn, TakesIn}
use Rattle.sftp_lanes.specs.Seen.{SessionValue, setting_at}
use Rattle.sftp_model.specs.declared.frame_error.FormatKind.{FormatKind}
use Rattle.sftp_model.specs.declared.frame_error.FrameError.{FrameError}
use Rattle.sftp_model.specs.declared.reply.Reply.{Reply}
use Rattle.sftp_wire.specs.FrameReader.{Received, body_of, body_where, missing_bytes, need_where}
use Rattle.sftp_tasks.specs.Entries.{by_closing, by_failing}
use Rattle.sftp_tasks.specs.Sent.{takes}
use Rattle.sftp_tasks.proofs.EntryLaws.{Extends, settles_extend}
use Rattle.sftp_tasks.proofs.SentLists.{IsQuiet}

-- ---- entries that send and take nothing

closing_sends : (e : Entry) (past : List Entry) → by_closing e ≡ true → Rattle.sftp_tasks.specs.Sent.sends e past ≡ []
closing_sends (entry.Event Send) past h = absurd (true≢false (sym h))
closing_sends (entry.Event other) past h = refl
closing_sends (entry.Added l call) past h = refl
closing_sends (entry.LetGo l) past h = refl
closing_sends (entry.Kept f) past h = refl

closing_takes : (e : Entry) → by_closing e ≡ true → takes e ≡ []
closing_takes (entry.Event (Take id r)) h = absurd (true≢false (sym h))
closing_takes (entry.Event other) h = refl
closing_takes (entry.Added l call) h = refl
closing_takes (entry.LetGo l) h = refl
closing_takes (entry.Kept f) h = refl

pub closing_quiet : IsQuiet by_closing
closing_quiet = record { sends = closing_sends; takes = closing_takes }

failing_sends : (e : Entry) (past : List Entry) → by_failing None e ≡ true → Rattle.sftp_tasks.specs.Sent.sends e past
    ≡ []
failing_sends (entry.Event x) past h = absurd (true≢false (sym h))
failing_sends (entry.Added l call) past h = refl
failing_sends (entry.LetGo l) past h = refl
failing_sends (entry.Kept f) past h = refl

failing_takes : (e : Entry) → by_failing None e ≡ true → takes e ≡ []
failing_takes (entry.Event x) h = absurd (true≢false (sym h))
failing_takes (entry.Added l call) h = refl
failing_takes (entry.LetGo l) h = refl
failing_takes (entry.Kept f) h = refl

pub failing_quiet : IsQuiet (by_failing None)
failing_quiet = record { sends = failing_sends; takes = failing_takes }

-- entries are those that the journal is known to have more
pub same_more : (test : Entry → Bool) (before now more : List Entry) → Extends test before now → now ≡ more ++ before
    → list_all test more ≡ true
same_more test before now more e is =
    subst (λ (es : List Entry). list_all test es ≡ true) (append_cancel_right e.0 more before (sym e.1 ∙ is)) e.2

-- ---- frames that are handed out

some-none : {A : Type 0} (x : A) → Some x ≡ None → ⊥
some-none x e = cc e

some-same : (a b : List ℕ) → Some a ≡ Some b → a ≡ b
some-same a b e = cc e

-- a Send, and the frames that were unsent
pub record HandsSend (old new : SessionValue) (bytes : List ℕ) : Type 0 where
  pub past : past_of new.work ≡ entry.Event Send ∷ past_of old.work
  pub bytes_are : bytes ≡ unsent_bytes (past_of old.work)

pub hands_send : (p : Phase) (old new : SessionValue) (bytes : List ℕ) (hello : Reply) → old.version ≡ Some hello
    → HandsOutIn p old new (Some bytes) → HandsSend old new bytes
hands_send Fresh old new bytes hello told h = absurd (some-none hello (sym told ∙ h.1.untold))
hands_send Greeted old new bytes hello told h = absurd (some-none bytes h.0)
hands_send Asking old new bytes hello told h =
    record { past = ap (λ (s : SessionView). s.progress.past) h.1.queried; bytes_are = some-same bytes _ h.0 }
hands_send Queried old new bytes hello told h = absurd (some-none bytes h.0)
hands_send Open old new bytes hello told h =
    let d = h.did.hands in record { past = ap (λ (p : RunProgress). p.past) d.2; bytes_are = d.1 }
hands_send Failed old new bytes hello told h = absurd h

-- nothing was
pub hands_none : (p : Phase) (old new : SessionValue) → HandsOutIn p old new None → past_of new.work ≡ past_of old.work
hands_none Fresh old new h = absurd (some-none _ (sym h.0))
hands_none Greeted old new h = ap (λ (s : SessionValue). past_of s.work) h.1
hands_none Asking old new h = absurd (some-none _ (sym h.0))
hands_none Queried old new h = ap (λ (s : SessionValue). past_of s.work) h.1
hands_none Open old new h = let d = h.did.hands in ap (λ (p : RunProgress). p.past) d.1
hands_none Failed old new h = absurd h

-- ---- frames that are taken

-- a Take, and then CLOSEs
pub record TakesReply (body_reads : Result (Option ℕ × Reply) FrameError) (old new : SessionValue) : Type 0 where
  pub id : ℕ
  pub reply : Reply
  pub closes : List Entry
  pub reads : body_reads ≡ Ok (Some id, reply)
  pub past : past_of new.work ≡ closes ++ (entry.Event (Take id reply) ∷ past_of old.work)
  pub only : list_all by_closing closes ≡ true

pub takes_reply : (p : Phase) (body_reads : Result (Option ℕ × Reply) FrameError) (old new : SessionValue)
    (hello : Reply)
    → old.version ≡ Some hello → TakesIn p body_reads old new → TakesReply body_reads old new
takes_reply Greeted body_reads old new hello told h = absurd (some-none hello (sym told ∙ h.1.untold))
takes_reply Queried body_reads old new hello told h =
    let t = h.limited.tells in
    record { id = t.0; reply = t.1.0; closes = []; reads = t.1.1.0; past = t.1.1.2; only = refl }
takes_reply Open body_reads old new hello told h =
    let t = h.did.takes in
    let e = settles_extend by_closing (λ id r. refl) (setting_at old) (entry.Event (Take t.0 t.1.0) ∷ past_of old.work)
    (past_of new.work) t.1.1.3 in
    record { id = t.0; reply = t.1.0; closes = e.0; reads = t.1.1.0; past = e.1; only = e.2 }
takes_reply Fresh body_reads old new hello told h = absurd h
takes_reply Asking body_reads old new hello told h = absurd h
takes_reply Failed body_reads old new hello told h = absurd h

-- ---- frames

-- a whole frame has its body after its length
pub whole_body : (f : Received) → IsWhole f → body_of f ≡ Some (drop 4 f.bytes)
whole_body f whole =
    let none : missing_bytes f.bytes ≡ 0 = sym (ap (λ (k : Option FormatKind). need_where k f.bytes) whole.unrefused)
    ∙ whole.none_missing in
    ap (λ (k : Option FormatKind). body_where k f.bytes) whole.unrefused
    ∙ ap (λ (b : Bool). if b then Some (drop 4 f.bytes) else None) (eq-eqb (missing_bytes f.bytes) 0 none)
