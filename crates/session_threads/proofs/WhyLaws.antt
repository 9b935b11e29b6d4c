-- Why the worker that reads stopped: what came after the frames of the Takes that its seat made.
use Rattle.std.proofs.Common.{◌≡◌, ◌∙◌, ◌⊎◌, ℕ, List, [], ◌++◌, ap, drop, refl, sym, subst, inl, inr, Ok, Err, Some, None}
use Rattle.std.specs.Prelude.{◌≢◌, Option}
use Rattle.link_frames.specs.Reading.{ReadFails, TellsWhy}
use Rattle.link_frames.proofs.Getting.{got_both}
use Rattle.session_driver.specs.declared.session.Phase.{Phase}
use Rattle.session_driver.specs.declared.session.Phase.TheVariants.{Failed, Greeted}
use Rattle.session_driver.specs.Refusals.{refuses}
use Rattle.session_model.specs.declared.entry.Entry.{Entry}
use Rattle.session_seats.specs.Holds.{number_of, sight_by}
use Rattle.session_work.specs.Working.{past_of}
use Rattle.sftp_core.specs.declared.errors.TakeError.{TakeError}
use Rattle.sftp_core.specs.Errors.{error_of}
use Rattle.sftp_core.specs.Take.{IsFirst, IsFirstRefusal, fault_of}
use Rattle.sftp_lanes.specs.Events.{FrameRead, first_wrong}
use Rattle.sftp_lanes.specs.Seen.{SessionValue}
use Rattle.sftp_link.specs.declared.piece.Piece.{Piece}
use Rattle.sftp_link.specs.Log.{GotOn}
use Rattle.sftp_link.specs.Told.{GotAll, IfLogged}
use Rattle.sftp_link.specs.Views.{LinkView}
use Rattle.sftp_link.proofs.Telling.{told_as, told_on}
use Rattle.sftp_model.specs.declared.error.Error.{Error}
use Rattle.sftp_model.specs.declared.error.Error.TheVariants as error
use Rattle.sftp_model.specs.declared.error.Fault.{Fault}
use Rattle.sftp_model.specs.declared.reply.Reply.{Reply}
use Rattle.sftp_model.specs.ReplyReadings.{reply_at}
use Rattle.sftp_tasks.specs.LockedEvents.{SettlesEnd}
use Rattle.sftp_tasks.specs.Rounds.{ReadStops, Token, fault_for}
use Rattle.sftp_tasks.specs.Sent.{GotUnless, SeesVersion, taken_by}
use Rattle.sftp_tasks.specs.SessionEvents.{IsRefusedBy, IsUnawaited, TakeStops}
use Rattle.sftp_tasks.specs.Shows.{shown_of}
use Rattle.sftp_tasks.specs.Workers.{ReadShift, ReadWorks, WorkerState}
use Rattle.sftp_tasks.proofs.SentEvents.{whole_body}
use Rattle.sftp_tasks.proofs.SentLists.{version_before}
use Rattle.sftp_tasks.proofs.SentRounds.{SameSent, same_value}
use Rattle.sftp_tasks.proofs.TakenRounds.{led_got, unread_same, untaken_same}
use Rattle.session_threads.specs.Failures.{GotThenWhy, ShowsWhy}
use Rattle.session_threads.proofs.FaultLaws.{KeepsOwn, held_own, looked_none, refused_none, refuses_own, same_fault, stopped_own, take_its}

-- ---- the frame that is refused

first_some : (e : TakeError) (refusal : Option TakeError) → fault_of e ≢ None → IsFirst e refusal → refusal ≡ Some e
first_some e refusal own first = by_fault (fault_of e) own first
  where
    by_fault : (o : Option Fault) → o ≢ None → IsFirstRefusal e o refusal → refusal ≡ Some e
    by_fault None own h = absurd (own refl)
    by_fault (Some f) own h = h

none-some : {A : Type 0} (x : A) → None ≡ Some x → ⊥
none-some x is = cc is

-- once VERSION was taken, it is the first thing that is wrong by the journal
wrong_then : (p : Phase) (past : List Entry) (read : FrameRead) (e : TakeError) → (p ≡ Greeted → ⊥)
    → first_wrong p past read ≡ Some e → refuses past read ≡ Some e
wrong_then Greeted past read e opened h = absurd (opened refl)
wrong_then Failed past read e opened h = absurd (none-some e h)
wrong_then other past read e opened h = h

abbrev IsWrong : Error → List Entry → FrameRead → Type 0
IsWrong e past read = (wrong : TakeError) × ((e ≡ error_of wrong) × (refuses past read ≡ Some wrong))

refused_wrong : (e : Error) (read : FrameRead) (old new : SessionValue) (hello : Reply) → fault_for e ≢ None
    → old.version ≡ Some hello → IsRefusedBy read e old new ⊎ IsUnawaited e old new → IsWrong e (past_of old.work) read
refused_wrong e read old new hello own told (inl r) =
    let named : fault_of r.error ≡ fault_for e = sym (same_fault r.error) ∙ ap fault_for (sym r.is) in
    let first = first_some r.error (first_wrong old.phase (past_of old.work) read) (λ none. own (sym named ∙ none))
    r.first in (
      r.error,
      (
        r.is,
        wrong_then old.phase (past_of old.work) read r.error
            (λ greeted. none-some hello (sym (r.untold greeted) ∙ told)) first,
      ),
    )
refused_wrong e read old new hello own told (inr u) = absurd (none-some hello (sym u.untold ∙ told))

take_wrong : (e : Error) (read : FrameRead) (old new : SessionValue) (hello : Reply) → fault_for e ≢ None
    → old.version ≡ Some hello → TakeStops read e old new → IsWrong e (past_of old.work) read
take_wrong (error.BackgroundTaskFailure f) read old new hello own told h = absurd (own refl)
take_wrong error.OutOfMemory read old new hello own told h = absurd (own refl)
take_wrong other read old new hello own told h = refused_wrong _ read old new hello own told h

-- ---- the last round

-- bytes came that show why
abbrev GotWhy : Error → List Entry → List Piece → List Piece → Type 0
GotWhy e past a b = (more : List ℕ) × (ShowsWhy e past more × GotOn a b more)

-- In its last hold the seat recorded the error's fault after this journal. It took no frame, and the bytes show why.
pub record StopsWhy {Service : Type 0} (e : Error) (m n : Token) (v w : LinkView Service) : Type 0 where
  pub past : List Entry
  pub keeps : KeepsOwn e n past
  pub same : SameSent m n
  pub got : IfLogged (GotWhy e past) v.log w.log

module _ {Service : Type 0} (e : Error) (own : fault_for e ≢ None) (hello : Reply) where
  stops_why : (m n : Token) (v w : LinkView Service) → SeesVersion hello (sight_by m) → ReadStops e m n v w
      → StopsWhy e m n v w
  stops_why m n v w sees (inl r) = absurd (refused_none e own m n v w r)
  stops_why m n v w sees (inr (inl u)) =
      let k = stopped_own e u.why u.mid n own u.stops in
      let past = past_of u.stops.before.session.work in
      record {
        past = past;
        keeps = k.0;
        same = unread_same e m n v w u;
        got = told_as (ReadFails u.why) (GotWhy e past) v.log w.log u.fails
            (λ a b g. (g.0, (inl (subst (λ (x : Error). TellsWhy x g.0) (sym k.1) g.1.0), g.1.1)));
      }
  stops_why m n v w sees (inr (inr (inl u))) =
      let h = u.refuses in
      let y = h.before.session in
      let body = drop 4 u.frame.bytes in
      let t = h.did body (whole_body u.frame u.whole) in
      let looked = same_value m u.mid u.looks u.looks.did.0.0 in
      let told = version_before shown_of u.mid n h hello (looked.version hello sees) in
      let wrong = take_wrong e (reply_at body) y h.after.session hello own told t.1.0 in
      record {
        past = past_of y.work;
        keeps = held_own e u.mid n h (take_its (reply_at body) e y h.after.session own t.1.0);
        same = untaken_same e m n v w u;
        got = told_as (GotAll u.frame.bytes) (GotWhy e (past_of y.work)) v.log w.log u.got
            (λ a b g. (
              u.frame.bytes,
              (
                inr (record {
                  body = body;
                  framed = t.0.0;
                  short = t.0.1;
                  error = wrong.0;
                  is = wrong.1.0;
                  first = wrong.1.1;
                }),
                g,
              ),
            ));
      }
  stops_why m n v w sees (inr (inr (inr did))) = absurd (own (ap fault_for did.0))

  shift_why : (a b : WorkerState Service) → SeesVersion hello (sight_by a.0) → ReadShift (Err e) a b
      → StopsWhy e a.0 b.0 a.1 b.1
  shift_why a b sees (inl h) = stops_why a.0 b.0 a.1 b.1 sees h
  shift_why a b sees (inr s) =
      absurd (looked_none e SettlesEnd s.mid b.0 own (λ y z h. refuses_own e y.session y.session own h.1) s.looks)

-- ---- all rounds

-- The worker that reads got a frame for each Take that its seat made, and then bytes that show why it stopped.
pub record ReadsUntil {Service : Type 0} (e : Error) (a b : WorkerState Service) : Type 0 where
  pub replies : List (ℕ × Reply)
  pub made : taken_by (number_of b.0) (sight_by b.0).log ≡ taken_by (number_of a.0) (sight_by a.0).log ++ replies
  pub past : List Entry
  pub keeps : KeepsOwn e b.0 past
  pub shown : IfLogged (GotThenWhy e past replies) a.1.log b.1.log

pub reads_until : {Service : Type 0} (e : Error) → fault_for e ≢ None → (hello : Reply) (a b : WorkerState Service)
    → SeesVersion hello (sight_by a.0) → ReadWorks (Err e) a b → ReadsUntil e a b
reads_until e own hello a b sees works =
    let mid = works.0 in
    let p = led_got hello a works.1.0.0 mid sees works.1.0.1 in
    let s = shift_why e own hello mid b p.1 works.1.1 in
    record {
      replies = p.0.replies;
      made = s.same.taken ∙ p.0.made;
      past = s.past;
      keeps = s.keeps;
      shown = told_on (GotUnless {T = Unit {0}} (Ok tt) p.0.replies) (GotWhy e s.past)
          (GotThenWhy e s.past p.0.replies) a.1.log mid.1.log b.1.log p.0.shown s.got
          (λ x y z g u. (g.0, (u.0, (g.1.0, (u.1.0, got_both x y z g.0 u.0 g.1.1 u.1.1)))));
    }
