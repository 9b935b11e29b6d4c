-- Steps of a copy to the server.
use Rattle.std.proofs.Common.{◌≡◌, ◌⊎◌, inl, inr, ◌<◌, ℕ, ◌+◌, ◌^◌, Bool, true, false, List, [], ◌∷◌, length, refl, sym, ap, ◌∙◌, subst, arith, Option, Some, None}
use Rattle.std.specs.Prelude.{Ok, Err, IsSome, Result}
use Rattle.sftp_model.specs.Answers.{expected_of}
use Rattle.sftp_model.specs.Numbers.{POSIX_RENAME}
use Rattle.sftp_model.specs.declared.file_attrs.FileAttrs.{FileAttrs}
use Rattle.sftp_model.specs.declared.reply.Reply.{Reply}
use Rattle.sftp_model.specs.declared.request.Request.TheVariants as request
use Rattle.sftp_core.specs.Core.{Core}
use Rattle.sftp_core.specs.Info.{info_of}
use Rattle.sftp_core.specs.declared.handshake.Handshake.{Handshake}
use Rattle.plan_state.specs.Asked.{request_of}
use Rattle.plan_state.specs.declared.submission.Asking.{Asking}
use Rattle.plan_state.specs.declared.submission.Asking.TheVariants.{Whole, Parts}
use Rattle.transfer_copy.specs.declared.copy_error.CopyError.{CopyError}
use Rattle.transfer_copy.specs.declared.holding.PartAnswer.TheVariants as part_answer
use Rattle.transfer_copy.specs.declared.progress.Progress.{Progress}
use Rattle.transfer_copy.specs.declared.progress.Progress.TheVariants as progress
use Rattle.transfer_copy.specs.declared.put.FilePut.{FilePut}
use Rattle.transfer_copy.specs.declared.put.PutStage.{PutStage}
use Rattle.transfer_copy.specs.declared.put.PutStage.TheVariants as stage
use Rattle.transfer_copy.specs.declared.holding.FileHold.TheVariants as hold
use Rattle.transfer_copy.specs.Asides.{is_directory}
use Rattle.transfer_copy.specs.Holdings.{
  AsksFile,
  AsksForAttrs,
  AsksForPart,
  AsksForSync,
  AsksForWrite,
  HoldingValue,
  WasFound,
  WasNotFound,
  WasNotOk,
  WasOk,
  WasSettled,
  IsFileOpen,
  IsOnly,
  KeepsApart,
  TakesPart,
  bytes_under_way,
  file_handle,
  nothing_held,
}
use Rattle.transfer_copy.specs.PutEnds.{
  AsksNaming,
  ChecksOrFails,
  EndsRefused,
  EndsWriting,
  FindsFile,
  IsAside,
  IsClosedAt,
  NamedAgain,
  NamedOrChecks,
  OldRestored,
  RemovesOld,
  rename_stage,
}
use Rattle.transfer_copy.specs.Puts.{
  AcceptsWrite,
  IsBetween,
  IsNaming,
  IsPutUnended,
  IsWritingOn,
  PutEndsSending,
  PutGivesUp,
  PutHasEnded,
  PutLeaves,
  PutSendsOn,
  PutsNoMore,
  StandsPut,
  WritesOn,
}
use Rattle.transfer_copy.specs.PutRequests.{has_extension, naming_request, offers_rename}
use Rattle.transfer_copy.specs.Local.{LocalAct}
use Rattle.transfer_copy.proofs.GetLaws.{last_bytes, still_open}
use Rattle.transfer_copy.proofs.HoldingLaws.{apart_both}

-- what comes behind another change
pub put_leaves_then : (core mid after : Core) (old new : FilePut) (left : HoldingValue)
    → KeepsApart old.holding left core mid
    → PutLeaves mid (record old { holding = left }) after new → PutLeaves core old after new
put_leaves_then core mid after old new left first then_leaves = record {
  putting = then_leaves.putting;
  apart = apart_both old.holding left new.holding core mid after first then_leaves.apart;
}

-- ---- one part more

-- a request for so many bytes is behind the others, and the copy writes on
part_on : (core after : Core) (old : FilePut) (held : HoldingValue) (attrs : Option FileAttrs) (sync : Bool)
    (asking : Asking) (len next : ℕ)
    → IsSome (info_of core.phase) → old.stage ≡ stage.Writing → IsWritingOn old → next ≡ old.next + len → next < 2 ^ 64
    → AsksForPart core old.holding asking len after held → KeepsApart old.holding held core after
    → PutLeaves core old after (record old { holding = held; next = next; attrs = attrs; sync = sync })
part_on core after old held attrs sync asking len next opened at_writing writing next_is small asks apart =
    let new : FilePut = record old { holding = held; next = next; attrs = attrs; sync = sync } in
    let sum = last_bytes asks.ticket len (expected_of (request_of asking)) old.holding.parts in
    let total = ap bytes_under_way (ap (λ (x : HoldingValue). x.parts) asks.now) ∙ sum in
    let was = writing.next in
    let on : IsWritingOn new = record {
      file = subst (λ (x : HoldingValue). IsFileOpen x.file) (sym asks.now) writing.file;
      next = omega (arith, total, was, next_is);
      small = small;
      wide = writing.wide;
      unfailed = writing.unfailed;
    } in
    record {
      putting = record {
        opened = still_open core after old.holding held apart opened;
        held = apart.held;
        stands = subst (λ (s : PutStage). StandsPut s new) (sym at_writing) on;
      };
      apart = apart;
    }

-- one WRITE more
pub wrote_on : (core after : Core) (old : FilePut) (held : HoldingValue) (bytes : List ℕ) (len : ℕ)
    → IsSome (info_of core.phase)
    → old.stage ≡ stage.Writing → IsWritingOn old → len ≡ length bytes → old.next + len < 2 ^ 64
    → AsksForWrite core old.holding old.next bytes after held → KeepsApart old.holding held core after
    → PutLeaves core old after (record old { holding = held; next = old.next + len })
wrote_on core after old held bytes len opened at_writing writing len_is small asks apart =
    part_on core after old held old.attrs old.sync (Parts (file_handle old.holding.file) old.next (bytes ∷ [])) (length
    bytes)
    (old.next + len)
    opened at_writing writing (omega (arith, len_is)) small asks apart

-- the FSETSTAT
pub gave_on : (core after : Core) (old : FilePut) (held : HoldingValue) (attrs : FileAttrs)
    → IsSome (info_of core.phase)
    → old.stage ≡ stage.Writing → IsWritingOn old → AsksForAttrs core old.holding attrs after held
    → KeepsApart old.holding held core after → PutLeaves core old after (record old { holding = held; attrs = None })
gave_on core after old held attrs opened at_writing writing asks apart =
    part_on core after old held None old.sync (Whole (request.Fsetstat (file_handle old.holding.file) attrs)) 0 old.next
    opened at_writing writing (omega (arith)) writing.small asks apart

-- the fsync
pub synced_on : (core after : Core) (old : FilePut) (held : HoldingValue) → IsSome (info_of core.phase)
    → old.stage ≡ stage.Writing → IsWritingOn old → AsksForSync core old.holding after held
    → KeepsApart old.holding held core after → PutLeaves core old after (record old { holding = held; sync = false })
synced_on core after old held opened at_writing writing asks apart =
    part_on core after old held old.attrs false (Whole (request.Fsync (file_handle old.holding.file))) 0 old.next
    opened at_writing writing (omega (arith)) writing.small asks apart

-- ---- the status of the first WRITE

pub write_came : {H : Type 0} (done : LocalAct → H → H) (core mid after : Core) (old new : FilePut)
    (left : HoldingValue)
    (r : Reply) (len : ℕ) (before : H) (result : Progress) → TakesPart core old.holding mid left
    (part_answer.Came r len)
    → AcceptsWrite r len mid (record old { holding = left }) after new → result ≡ progress.Moved
    → WritesOn done core old after new before before result
write_came done core mid after old new left r len before result came accepts moved =
    subst (λ x. WritesOn done core old after new before before x) (sym moved)
    (inr (refl, inl (record { mid = mid; left = left; r = r; len = len; came = came; accepts = accepts })))

pub write_failed : {H : Type 0} (done : LocalAct → H → H) (core mid after : Core) (old new : FilePut)
    (left : HoldingValue)
    (before : H) (result : Progress) → PutGivesUp mid left (record old { holding = left }) after new → result
    ≡ progress.Moved
    → WritesOn done core old after new before before result
write_failed done core mid after old new left before result gives moved =
    subst (λ x. WritesOn done core old after new before before x) (sym moved)
    (inr (
      refl,
      inr (inr (record {
        mid = mid;
        left = left;
        gives_up = record { goes = gives.goes; stage = gives.stage; offset = gives.offset; failure = gives.failure };
      })),
    ))

ends_or_fails : (core after : Core) (old new : FilePut) → PutEndsSending core old after new
    ⊎ PutGivesUp core old.holding old after new
    → PutEndsSending core old after new ⊎ PutsNoMore core old after new
ends_or_fails core after old new (inl sent) = inl sent
ends_or_fails core after old new (inr gives) = inr (record { mid = core; left = old.holding; gives_up = gives })

send_moved : {H : Type 0} (done : LocalAct → H → H) (core after : Core) (old new : FilePut) (before now : H)
    → PutSendsOn done core old after new before now progress.Moved
    → WritesOn done core old after new before now progress.Moved
send_moved done core after old new before now (inl reads) = inl reads
send_moved done core after old new before now (inr (same, ends)) =
    inr (same, inr (ends_or_fails core after old new ends))

sends_same : {H : Type 0} (done : LocalAct → H → H) (core mid after : Core) (old new : FilePut) (left : HoldingValue)
    (before now : H) (result : Progress) → mid ≡ core → left ≡ old.holding
    → PutSendsOn done mid (record old { holding = left }) after new before now result
    → PutSendsOn done core old after new before now result
sends_same done core mid after old new left before now result core_is left_is sends =
    let at_core = subst (λ (c : Core). PutSendsOn done c (record old { holding = left }) after new before now result)
    core_is sends in
    subst (λ (h : HoldingValue). PutSendsOn done core (record old { holding = h }) after new before now result) left_is
    at_core

missing_sends : {H : Type 0} (done : LocalAct → H → H) (core after : Core) (old new : FilePut) (before now : H)
    (result : Progress)
    → TakesPart core old.holding core old.holding part_answer.Missing
    → PutSendsOn done core old after new before now result
    → WritesOn done core old after new before now result
missing_sends done core after old new before now progress.Waits missing (some, still, same) = (missing, still, same)
missing_sends done core after old new before now progress.Moved missing sends =
    send_moved done core after old new before now sends
missing_sends done core after old new before now (progress.Ended result) missing never = absurd never

pub write_missing : {H : Type 0} (done : LocalAct → H → H) (core mid after : Core) (old new : FilePut)
    (left : HoldingValue)
    (before now : H) (result : Progress) → TakesPart core old.holding mid left part_answer.Missing
    → PutSendsOn done mid (record old { holding = left }) after new before now result
    → WritesOn done core old after new before now result
write_missing done core mid after old new left before now result missing sends =
    missing_sends done core after old new before now result (missing.0, missing.1, missing.2, refl, refl)
    (sends_same done core mid after old new left before now result missing.3 missing.4 sends)

idle_sends : {H : Type 0} (done : LocalAct → H → H) (core after : Core) (old new : FilePut) (before now : H)
    (result : Progress)
    → old.holding.parts ≡ [] → PutSendsOn done core old after new before now result
    → WritesOn done core old after new before now result
idle_sends done core after old new before now progress.Waits none (some, still, same) =
    absurd (let e = ap length none in omega (arith, some, e))
idle_sends done core after old new before now progress.Moved none sends =
    send_moved done core after old new before now sends
idle_sends done core after old new before now (progress.Ended result) none never = absurd never

pub write_idle : {H : Type 0} (done : LocalAct → H → H) (core mid after : Core) (old new : FilePut)
    (left : HoldingValue)
    (before now : H) (result : Progress) → TakesPart core old.holding mid left part_answer.Idle
    → PutSendsOn done mid (record old { holding = left }) after new before now result
    → WritesOn done core old after new before now result
write_idle done core mid after old new left before now result idle sends =
    idle_sends done core after old new before now result idle.0
    (sends_same done core mid after old new left before now result idle.1 idle.2 sends)

-- ---- the end

naming_going : (to : PutStage) (kept : Option CopyError) → IsNaming to kept → IsPutUnended to
naming_going stage.Replacing kept may = tt
naming_going stage.Renaming kept may = tt
naming_going stage.Checking kept may = tt
naming_going stage.SettingAside kept may = tt
naming_going stage.RenamingAgain kept may = tt
naming_going stage.RemovingOld kept may = tt
naming_going stage.RestoringOld kept may = tt
naming_going stage.Starting kept never = absurd never
naming_going stage.Opening kept never = absurd never
naming_going stage.Writing kept never = absurd never
naming_going stage.Closing kept never = absurd never
naming_going stage.Ended kept never = absurd never

naming_stands : (part remote : List ℕ) (to : PutStage) (p : FilePut) → IsNaming to p.failure
    → IsOnly (expected_of (naming_request part remote to)) p.holding → StandsPut to p
naming_stands part remote stage.Replacing p may only = only
naming_stands part remote stage.Renaming p may only = only
naming_stands part remote stage.Checking p may only = record { only = only; refused = may }
naming_stands part remote stage.SettingAside p may only = record { only = only; refused = may }
naming_stands part remote stage.RenamingAgain p may only = only
naming_stands part remote stage.RemovingOld p may only = only
naming_stands part remote stage.RestoringOld p may only = record { only = only; refused = may }
naming_stands part remote stage.Starting p never only = absurd never
naming_stands part remote stage.Opening p never only = absurd never
naming_stands part remote stage.Writing p never only = absurd never
naming_stands part remote stage.Closing p never only = absurd never
naming_stands part remote stage.Ended p never only = absurd never

-- the request of a stage is awaited there
pub naming_asked : (core after : Core) (old : FilePut) (held : HoldingValue) (part remote : List ℕ) (to : PutStage)
    → IsBetween core old → IsNaming to old.failure
    → AsksFile core old.holding (naming_request part remote to) after held → KeepsApart old.holding held core after
    → PutLeaves core old after (record old { holding = held; stage = to })
naming_asked core after old held part remote to between may asks apart =
    let kind = expected_of (naming_request part remote to) in
    let new : FilePut = record old { holding = held; stage = to } in
    let holds : held ≡ record { file = hold.Asked asks.ticket kind; parts = [] } =
    asks.now ∙ ap (λ (h : HoldingValue). record h { file = hold.Asked asks.ticket kind }) between.none in
    record {
      putting = record {
        opened = still_open core after old.holding held apart between.opened;
        held = apart.held;
        stands = naming_stands part remote to new may (asks.ticket, holds);
      };
      apart = apart;
    }

pub naming_moved : (to : PutStage) (kept : Option CopyError) → IsNaming to kept → PutHasEnded to progress.Moved
naming_moved to kept may = naming_going to kept may

pub refused_ended : (old new : FilePut) (result : Progress) → EndsRefused old new result → PutHasEnded new.stage result
refused_ended old new (progress.Ended (Err e)) (some, is) = ap (λ (x : FilePut). x.stage) is
refused_ended old new (progress.Ended (Ok len)) never = absurd never
refused_ended old new progress.Waits never = absurd never
refused_ended old new progress.Moved never = absurd never

named_close : (core mid after : Core) (old new : FilePut) (left : HoldingValue) (part remote : List ℕ)
    (result : Progress)
    → WasOk core old.holding mid left → old.failure ≡ None
    → AsksNaming part remote (rename_stage (offers_rename core)) mid (record old { holding = left }) after new result
    → EndsWriting part remote core old after new result
named_close core mid after old new left part remote progress.Waits ok none never = absurd never
named_close core mid after old new left part remote progress.Moved ok none asks =
    (none, record { mid = mid; left = left; ok = ok; asks = asks })
named_close core mid after old new left part remote (progress.Ended (Err e)) ok none asks =
    inr (inr (none, record { mid = mid; left = left; ok = ok; asks = asks }))
named_close core mid after old new left part remote (progress.Ended (Ok len)) ok none never = absurd never

failed_close : (core mid after : Core) (old new : FilePut) (part remote : List ℕ) (first : CopyError)
    (result : Progress)
    → old.failure ≡ Some first → result ≡ progress.Ended (Err first) → new.stage ≡ stage.Ended
    → EndsWriting part remote core old after new result
failed_close core mid after old new part remote first result some is over =
    subst (λ x. EndsWriting part remote core old after new x) (sym is) (inl (some, over))

pub put_closed : (core mid after : Core) (old new : FilePut) (left : HoldingValue) (part remote : List ℕ)
    (result : Progress)
    → WasOk core old.holding mid left → mid.phase ≡ core.phase
    → IsClosedAt part remote mid (record old { holding = left }) after new result
    → EndsWriting part remote core old after new result
put_closed core mid after old new left part remote result ok phase (inl (none, asks)) =
    named_close core mid after old new left part remote result ok none
    (subst (λ (b : Bool). AsksNaming part remote (rename_stage b) mid (record old { holding = left }) after new result)
    (ap (λ (p : Handshake). has_extension POSIX_RENAME (info_of p)) phase) asks)
put_closed core mid after old new left part remote result ok phase (inr (first, some, is, same, over)) =
    failed_close core mid after old new part remote first result some is over

pub put_checks : (core mid after : Core) (old new : FilePut) (left : HoldingValue) (part remote : List ℕ)
    (why : CopyError)
    (result : Progress)
    → WasNotOk core old.holding mid left why
    → ChecksOrFails why part remote mid (record old { holding = left }) after new result
    → NamedOrChecks part remote core old after new result
put_checks core mid after old new left part remote why progress.Waits not_ok (inl (failed, never)) = absurd never
put_checks core mid after old new left part remote why progress.Moved not_ok (inl (failed, asks)) = record {
  why = why;
  failed = failed;
  asks = record { mid = mid; left = left; not_ok = not_ok; asks = asks };
}
put_checks core mid after old new left part remote why (progress.Ended (Err e)) not_ok (inl (failed, asks)) =
    inr (record {
      why = why;
      failed = failed;
      asks = record { mid = mid; left = left; not_ok = not_ok; asks = asks };
    })
put_checks core mid after old new left part remote why (progress.Ended (Ok len)) not_ok (inl (failed, never)) =
    absurd never
put_checks core mid after old new left part remote why result not_ok (inr (cause, is, same, now)) =
    let holds : new.holding ≡ left = ap (λ (x : FilePut). x.holding) now in
    let left_so = subst (λ (h : HoldingValue). WasNotOk core old.holding mid h why) (sym holds) not_ok in
    let not_named = subst (λ (x : Core). WasNotOk core old.holding x new.holding why) (sym same) left_so in
    subst (λ x. NamedOrChecks part remote core old after new x) (sym is)
    (inl (not_named, cause, ap (λ (x : FilePut). x.stage) now))

pub put_finds : (core mid after : Core) (old new : FilePut) (left : HoldingValue) (part remote : List ℕ)
    (attrs : FileAttrs) (result : Progress)
    → WasFound attrs core old.holding mid left → is_directory attrs ≡ false
    → AsksNaming part remote stage.SettingAside mid (record old { holding = left }) after new result
    → FindsFile part remote core old after new result
put_finds core mid after old new left part remote attrs progress.Waits found plain never = absurd never
put_finds core mid after old new left part remote attrs progress.Moved found plain asks =
    record { mid = mid; left = left; attrs = attrs; found = found; plain = plain; asks = asks }
put_finds core mid after old new left part remote attrs (progress.Ended (Err e)) found plain asks =
    inr (record { mid = mid; left = left; attrs = attrs; found = found; plain = plain; asks = asks })
put_finds core mid after old new left part remote attrs (progress.Ended (Ok len)) found plain never = absurd never

pub put_finds_none : (core after : Core) (old new : FilePut) (left : HoldingValue) (part remote : List ℕ)
    (result : Progress) → WasNotFound core old.holding after left
    → EndsRefused (record old { holding = left }) new result → FindsFile part remote core old after new result
put_finds_none core after old new left part remote (progress.Ended (Err e)) none (some, is) =
    let at = subst (λ (h : HoldingValue). WasNotFound core old.holding after h)
    (sym (ap (λ (x : FilePut). x.holding) is)) none in
    inl (inl at, some, ap (λ (x : FilePut). x.stage) is)
put_finds_none core after old new left part remote (progress.Ended (Ok len)) none never = absurd never
put_finds_none core after old new left part remote progress.Waits none never = absurd never
put_finds_none core after old new left part remote progress.Moved none never = absurd never

pub put_finds_directory : (core after : Core) (old new : FilePut) (left : HoldingValue) (part remote : List ℕ)
    (attrs : FileAttrs) (result : Progress) → WasFound attrs core old.holding after left → is_directory attrs ≡ true
    → EndsRefused (record old { holding = left }) new result → FindsFile part remote core old after new result
put_finds_directory core after old new left part remote attrs (progress.Ended (Err e)) found yes_one (some, is) =
    let at = subst (λ (h : HoldingValue). WasFound attrs core old.holding after h)
    (sym (ap (λ (x : FilePut). x.holding) is)) found in
    inl (inr (attrs, at, yes_one), some, ap (λ (x : FilePut). x.stage) is)
put_finds_directory core after old new left part remote attrs (progress.Ended (Ok len)) found yes_one never =
    absurd never
put_finds_directory core after old new left part remote attrs progress.Waits found yes_one never = absurd never
put_finds_directory core after old new left part remote attrs progress.Moved found yes_one never = absurd never

pub put_aside : (core mid after : Core) (old new : FilePut) (left : HoldingValue) (part remote : List ℕ)
    (result : Progress)
    → WasOk core old.holding mid left
    → AsksNaming part remote stage.RenamingAgain mid (record old { holding = left }) after new result
    → IsAside part remote core old after new result
put_aside core mid after old new left part remote progress.Waits ok never = absurd never
put_aside core mid after old new left part remote progress.Moved ok asks =
    record { mid = mid; left = left; ok = ok; asks = asks }
put_aside core mid after old new left part remote (progress.Ended (Err e)) ok asks =
    inr (record { mid = mid; left = left; ok = ok; asks = asks })
put_aside core mid after old new left part remote (progress.Ended (Ok len)) ok never = absurd never

pub put_not_aside : (core after : Core) (old new : FilePut) (left : HoldingValue) (part remote : List ℕ)
    (why : CopyError) (result : Progress) → WasNotOk core old.holding after left why
    → EndsRefused (record old { holding = left }) new result → IsAside part remote core old after new result
put_not_aside core after old new left part remote why (progress.Ended (Err e)) not_ok (some, is) =
    let at = subst (λ (h : HoldingValue). WasNotOk core old.holding after h why)
    (sym (ap (λ (x : FilePut). x.holding) is)) not_ok in
    inl ((why, at), some, ap (λ (x : FilePut). x.stage) is)
put_not_aside core after old new left part remote why (progress.Ended (Ok len)) not_ok never = absurd never
put_not_aside core after old new left part remote why progress.Waits not_ok never = absurd never
put_not_aside core after old new left part remote why progress.Moved not_ok never = absurd never

pub put_unasked : (core after : Core) (old new : FilePut) (part remote : List ℕ) (result : Result ℕ CopyError)
    (asked : Progress) → asked ≡ progress.Ended result
    → AsksNaming part remote stage.RemovingOld core old after new asked
    → RemovesOld part remote core old after new (progress.Ended (Ok new.offset))
put_unasked core after old new part remote (Err e) asked is asks =
    let unasked = subst (λ x. AsksNaming part remote stage.RemovingOld core old after new x) is asks in
    ((e, unasked), ap (λ (p : FilePut). p.offset) unasked.1)
put_unasked core after old new part remote (Ok len) asked is asks =
    absurd (subst (λ x. AsksNaming part remote stage.RemovingOld core old after new x) is asks)

pub put_again : (core mid after : Core) (old new : FilePut) (left : HoldingValue) (part remote : List ℕ)
    (result : Progress)
    → WasOk core old.holding mid left
    → RemovesOld part remote mid (record old { holding = left }) after new result
    → NamedAgain part remote core old after new result
put_again core mid after old new left part remote progress.Waits ok never = absurd never
put_again core mid after old new left part remote progress.Moved ok asks =
    inl (record { mid = mid; left = left; ok = ok; asks = asks })
put_again core mid after old new left part remote (progress.Ended (Err e)) ok never = absurd never
put_again core mid after old new left part remote (progress.Ended (Ok len)) ok ((e, asks), len_is) =
    ((e, record { mid = mid; left = left; ok = ok; asks = asks }), len_is)

pub put_restores : (core mid after : Core) (old new : FilePut) (left : HoldingValue) (part remote : List ℕ)
    (why : CopyError) (result : Progress)
    → WasNotOk core old.holding mid left why
    → AsksNaming part remote stage.RestoringOld mid (record old { holding = left; failure = Some why }) after new result
    → NamedAgain part remote core old after new result
put_restores core mid after old new left part remote why progress.Waits not_ok never = absurd never
put_restores core mid after old new left part remote why progress.Moved not_ok asks =
    inr (record { why = why; asks = record { mid = mid; left = left; not_ok = not_ok; asks = asks } })
put_restores core mid after old new left part remote why (progress.Ended (Err e)) not_ok asks =
    record { why = why; asks = record { mid = mid; left = left; not_ok = not_ok; asks = asks } }
put_restores core mid after old new left part remote why (progress.Ended (Ok len)) not_ok never = absurd never

pub put_restored : (core after : Core) (old new : FilePut) (left : HoldingValue) (result : Progress)
    → WasSettled core old.holding after left → EndsRefused (record old { holding = left }) new result
    → OldRestored core old after new result
put_restored core after old new left (progress.Ended (Err e)) settled (some, is) =
    let at = subst (λ (h : HoldingValue). WasSettled core old.holding after h)
    (sym (ap (λ (x : FilePut). x.holding) is)) settled in
    (at, some, ap (λ (x : FilePut). x.stage) is)
put_restored core after old new left (progress.Ended (Ok len)) settled never = absurd never
put_restored core after old new left progress.Waits settled never = absurd never
put_restored core after old new left progress.Moved settled never = absurd never

-- ---- what remains after the copy ended with a refusal that was kept

pub refused_leaves : (core mid : Core) (old new : FilePut) (left : HoldingValue) (result : Progress)
    → IsSome (info_of core.phase) → left ≡ nothing_held → KeepsApart old.holding left core mid
    → EndsRefused (record old { holding = left }) new result
    → PutLeaves core old mid new
refused_leaves core mid old new left (progress.Ended (Err e)) opened none apart (some, is) =
    let holds = ap (λ (x : FilePut). x.holding) is in
    let apart_so = subst (λ (h : HoldingValue). KeepsApart old.holding h core mid) (sym holds) apart in
    record {
      putting = record {
        opened = still_open core mid old.holding new.holding apart_so opened;
        held = apart_so.held;
        stands = subst (λ (s : PutStage). StandsPut s new) (sym (ap (λ (x : FilePut). x.stage) is)) (holds ∙ none);
      };
      apart = apart_so;
    }
refused_leaves core mid old new left (progress.Ended (Ok len)) opened none apart never = absurd never
refused_leaves core mid old new left progress.Waits opened none apart never = absurd never
refused_leaves core mid old new left progress.Moved opened none apart never = absurd never
