-- A view over a link that serves stops only for want of memory.
-- What a link gives that serves is said here as in the laws of the driver, whose own are of a schedule's runs.
use Rattle.std.proofs.Common.{◌≡◌, ◌<◌, ℕ, Bool, true, List, [], ◌++◌, Option, Some, None, Result, Ok, Err, refl, ap, sym, ◌∙◌, subst, arith, inl, inr}
use Rattle.std.specs.Prelude.{nat_lt}
use Rattle.std.proofs.lemmas.Bool.Decides.{nat_tests}
use Rattle.std.proofs.lemmas.List.{append-nil}
use Rattle.ssh_encoding.specs.Writing.{string}
use Rattle.sftp_model.specs.declared.answers.Expected.{Expected}
use Rattle.sftp_model.specs.declared.answers.Expected.TheVariants as expected
use Rattle.sftp_model.specs.declared.config.Limits.{Limits}
use Rattle.sftp_model.specs.declared.error.Error.{Error}
use Rattle.sftp_model.specs.declared.error.Error.TheVariants as error
use Rattle.sftp_model.specs.declared.frame_error.FormatKind.{FormatKind}
use Rattle.sftp_model.specs.declared.frame_error.FrameError.{FrameError}
use Rattle.sftp_model.specs.declared.reply.Reply.{Reply}
use Rattle.sftp_model.specs.declared.reply.Reply.TheVariants as reply
use Rattle.sftp_model.specs.Answers.{expected_of}
use Rattle.sftp_model.specs.ReplyReadings.{limits_at, reply_at}
use Rattle.sftp_core.specs.Take.{wrong_content}
use Rattle.sftp_core.specs.declared.errors.TakeError.{TakeError}
use Rattle.sftp_link.specs.declared.piece.Piece.{Piece}
use Rattle.sftp_link.specs.Log.{GotOn}
use Rattle.sftp_link.specs.Told.{IfLogged}
use Rattle.sftp_wire.specs.FrameReader.{fault_of, missing_bytes}
use Rattle.session_model.specs.declared.entry.Entry.{Entry}
use Rattle.session_model.specs.Journals.{IsJournal, MayReply, goes_on, is_read}
use Rattle.session_model.specs.Readings.{AskedRequest, asked_at, count_awaited, place_awaiting, count_sent}
use Rattle.session_model.specs.Settings.{setting_of}
use Rattle.session_model.proofs.RequestLaws.{is_awaiting}
use Rattle.link_frames.specs.Causes.{CountsLinkFault, IsUnsent, IsCausedByLink}
use Rattle.session_driver.specs.Logs.{HasPartialStep, BehindHello, EndsAs, GotUnusable}
use Rattle.session_driver.specs.Refusals.{awaited_at, refuses, refuses_hello, refuses_limits, refuses_reply, sent_at}
use Rattle.session_driver.specs.ServingLinks.{GivesGood, IsAllowed, IsOne, IsVersion, Read, ServesLanes}
use Rattle.session_driver.specs.Session.{SessionInputs}
use Rattle.session_driver.proofs.ServingLaws.{later_journal, one_frame, one_part}
use Rattle.link_frames.proofs.Joining.{same_caused}
use Rattle.sftp_lanes.specs.Complete.{StopsForMemory}
use Rattle.sftp_link.specs.Views.{LinkView}
use Rattle.link_frames.proofs.Frames.{no_fault, nothing_missing, one_string}

-- ---- what a link gives that serves

-- VERSION 3 isn't refused
version_fine : (read : Read) → IsVersion read → refuses_hello (Ok read) ≡ None
version_fine read v = ap (λ (w : Read). refuses_hello (Ok w)) v.1

goes_fine : (x : Expected) (r : Reply) → goes_on x r ≡ true → refuses_limits x r ≡ None
goes_fine expected.Limits (reply.Extended content) e = by_limits (limits_at content) e
  where
    by_limits : (l : Result Limits FrameError) → is_read l ≡ true → wrong_content l ≡ None
    by_limits (Ok limits) e = refl
    by_limits (Err why) e = absurd cc
goes_fine expected.Limits r e = absurd cc
goes_fine x r e = refl

lt_true : (n m : ℕ) → n < m → nat_lt n m ≡ true
lt_true n m h = grind (arith, nat_tests)

reply_fine : (a : Option AskedRequest) (id : ℕ) (r : Reply) → MayReply a r → refuses_reply id r a ≡ None
reply_fine None id r m = absurd m
reply_fine (Some a) id r m = rw m.0 (goes_fine (expected_of a.request) r m.1)

-- a reply that may be taken isn't refused
allowed_fine : (past : List Entry) (read : Read) → IsAllowed past read → refuses past (Ok read) ≡ None
allowed_fine past read allowed =
    let id : ℕ = allowed.0 in
    let r : Reply = allowed.1.0 in
    let may = allowed.1.1.1 in
    let waits : place_awaiting past id ≡ Some may.0 = is_awaiting past id may.0 may.1.0.0 may.1.0.2 in
    let there : awaited_at past id ≡ asked_at past may.0 = ap (sent_at past) waits
    ∙ rw (lt_true may.0 (count_sent past) may.1.0.1) refl in
    ap (λ (w : Read). refuses past (Ok w)) allowed.1.1.0 ∙ (ap (refuses_reply id r) there
    ∙ reply_fine (asked_at past may.0) id r may.1.1)

-- ---- what came

-- it isn't a part of a frame, where the end was met
no_part : (good : Read → Type 0) (bytes : List ℕ) (ended : Bool) → GivesGood good bytes ended → ended ≡ true
    → 0 < missing_bytes bytes → ⊥
no_part good bytes ended g over some =
    let is : bytes ≡ string g.body ++ g.rest = sym (append-nil bytes)
    ∙ (ap (λ (w : List ℕ). bytes ++ w) (sym (g.whole over)) ∙ g.framed) in
    let whole : missing_bytes bytes ≡ 0 = ap missing_bytes is ∙ nothing_missing g.body g.rest g.short in
    absurd (omega (arith, whole, some))

-- bytes with a wrong length begin with no whole frame
one_bad : (bytes : List ℕ) (kind : FormatKind) → fault_of bytes ≡ Some kind → IsOne bytes
one_bad bytes kind bad body rest some short e = absurd (let none =
    no_fault bytes [] body rest (append-nil bytes ∙ e) some short in let no_way : Some kind ≡ None = sym bad ∙ none in
    cc)

-- and nothing is wrong with it
no_refusal : (good : Read → Type 0) (wrong : Result (Option ℕ × Reply) FrameError → Option TakeError) (ended : Bool)
    (e : Error) (mid after : List Piece) → ((read : Read) → good read → wrong (Ok read) ≡ None)
    → ((bytes : List ℕ) → GotOn mid after bytes → IsOne bytes → GivesGood good bytes ended)
    → GotUnusable wrong e mid after → ⊥
no_refusal good wrong ended e mid after fine gives (inl bad) =
    let g = gives bad.1.1.0 bad.1.1.1.1 (one_bad bad.1.1.0 bad.0 bad.1.1.1.0.bad) in
    let none = no_fault bad.1.1.0 g.tail g.body g.rest g.framed g.some g.short in
    let some = bad.1.1.1.0.bad in
    absurd cc
no_refusal good wrong ended e mid after fine gives (inr bad) =
    let g = gives (string bad.0) bad.1.1 (one_frame bad.0 bad.1.0) in
    let same = (one_string bad.0 g.body g.tail g.rest bad.1.0 g.short g.framed).0 in
    let none : wrong (reply_at bad.0) ≡ None = ap (λ (w : List ℕ). wrong (reply_at w)) same
    ∙ (ap wrong g.reads ∙ fine g.read g.is_good) in
    let some = bad.1.2.1.0 in
    absurd cc

-- ---- errors

journal_only : (ended : Bool) (e : Error) (past : List Entry) (mid after : List Piece)
    → (0 < count_awaited past → (bytes : List ℕ) → GotOn mid after bytes → IsOne bytes
    → GivesGood (IsAllowed past) bytes ended)
    → HasPartialStep ended e past mid after → CountsLinkFault {T = Unit {0}} 0 0 (Err e) → e ≡ error.OutOfMemory
journal_only ended error.OutOfMemory past mid after gives b why = refl
journal_only ended error.LinkFault past mid after gives b why = absurd (omega (arith, why))
journal_only ended error.LinkEnded past mid after gives b why =
    absurd (no_part (IsAllowed past) b.2.0 ended (gives b.1 b.2.0 b.2.1.1 (one_part b.2.0 b.2.1.0.short)) b.0
    b.2.1.0.short)
journal_only ended other past mid after gives b why = absurd
    (no_refusal (IsAllowed past) (refuses past) ended other mid after (allowed_fine past) (gives b.0) b.1)

hello_only : (ended : Bool) (e : Error) (mid after : List Piece)
    → ((bytes : List ℕ) → GotOn mid after bytes → IsOne bytes → GivesGood IsVersion bytes ended)
    → BehindHello ended e mid after → CountsLinkFault {T = Unit {0}} 0 0 (Err e)
    → e ≡ error.OutOfMemory
hello_only ended error.OutOfMemory mid after gives b why = refl
hello_only ended error.LinkFault mid after gives b why = absurd (omega (arith, why))
hello_only ended error.LinkEnded mid after gives b why = absurd
    (no_part IsVersion b.1.0 ended (gives b.1.0 b.1.1.1 (one_part b.1.0 b.1.1.0.short)) b.0 b.1.1.0.short)
hello_only ended other mid after gives b why = absurd (no_refusal IsVersion refuses_hello ended other mid after
    version_fine gives b)

unsent_only : (e : Error) → IsUnsent e → CountsLinkFault {T = Unit {0}} 0 0 (Err e) → e ≡ error.OutOfMemory
unsent_only error.OutOfMemory u why = refl
unsent_only error.LinkFault u why = absurd (omega (arith, why))
unsent_only other u why = absurd u

-- a link that counted no fault gave no cause for one
no_cause : (before now : ℕ) (e : Error) → now ≡ before → CountsLinkFault {T = Unit {0}} before now (Err e)
    → CountsLinkFault {T = Unit {0}} 0 0 (Err e)
no_cause before now error.LinkFault same why = absurd (omega (arith, same, why))
no_cause before now other same why = refl

-- how a view ends over a link whose log was empty
only_memory : (given : SessionInputs) (ended : Bool) (e : Error) (log : List Piece) → ServesLanes given log ended
    → EndsAs given IsJournal ended e [] log
    → CountsLinkFault {T = Unit {0}} 0 0 (Err e) → e ≡ error.OutOfMemory
only_memory given ended e log serves (inl (inl part)) why = unsent_only e part.0 why
only_memory given ended e log serves (inl (inr h)) why = hello_only ended e h.0 log
    (λ bytes. serves.greets h.0 bytes h.1.0) h.1.1 why
only_memory given ended e log serves (inr x) why =
    let j = later_journal (setting_of given.lanes given.options x.extensions x.now) x.now x.later in
    journal_only ended e x.now x.mid log (λ some bytes. serves.replies x.extensions x.now x.mid bytes j x.shows some)
    x.behind why

pub stops_for_memory : {S T : Type 0} (given : SessionInputs) (before now : LinkView S) (e : Error)
    → IfLogged (EndsAs given IsJournal now.ended e) before.log now.log
    → IsCausedByLink {T = T} before now (Err e) → StopsForMemory given before now e
stops_for_memory given before now e told caused log empty shows serves same =
    only_memory given now.ended e log serves
    (subst (λ (w : Option (List Piece)). IfLogged (EndsAs given IsJournal now.ended e) (Some []) w) shows
    (subst (λ (w : Option (List Piece)). IfLogged (EndsAs given IsJournal now.ended e) w now.log) empty told))
    (no_cause before.faults now.faults e same (same_caused {U = Unit {0}} before now e caused).cause)
