-- Steps of a copy from the server.
use Rattle.std.proofs.Common.{◌≡◌, inl, inr, ◌<◌, ℕ, ◌+◌, ◌^◌, List, [], ◌∷◌, ◌++◌, length, refl, sym, ap, ◌∙◌, subst, arith}
use Rattle.std.specs.Prelude.{IsSome}
use Rattle.sftp_model.specs.declared.answers.Expected.{Expected}
use Rattle.sftp_model.specs.declared.answers.Expected.TheVariants as expected
use Rattle.sftp_model.specs.declared.reply.Reply.{Reply}
use Rattle.sftp_core.specs.declared.handshake.Handshake.{Handshake}
use Rattle.sftp_core.specs.Core.{Core}
use Rattle.sftp_core.specs.Info.{info_of}
use Rattle.transfer_copy.specs.declared.get.FileGet.{FileGet}
use Rattle.transfer_copy.specs.declared.get.GetStage.{GetStage}
use Rattle.transfer_copy.specs.declared.get.GetStage.TheVariants as stage
use Rattle.transfer_copy.specs.declared.holding.FileAnswer.TheVariants as file_answer
use Rattle.transfer_copy.specs.declared.holding.Part.{Part}
use Rattle.transfer_copy.specs.declared.holding.PartAnswer.TheVariants as part_answer
use Rattle.transfer_copy.specs.declared.progress.Progress.{Progress}
use Rattle.transfer_copy.specs.declared.progress.Progress.TheVariants as progress
use Rattle.transfer_copy.specs.Holdings.{AsksForRead, HoldingValue, IsFileOpen, KeepsApart, SettlesFile, TakesPart, bytes_under_way}
use Rattle.transfer_copy.specs.Gets.{AreReadParts, AsksNext, GetAsksOn, GetLeaves, GetGivesUp, TakesReply, IsBehindRead, IsOpenAt, IsReadingOn, MakesPart, GetOpens, GetReadsOn, StandsGet}
use Rattle.transfer_copy.specs.Local.{LocalAct}
use Rattle.transfer_copy.proofs.HoldingLaws.{apart_both}

-- what comes behind another change
pub leaves_then : (core mid after : Core) (old new : FileGet) (left : HoldingValue)
    → KeepsApart old.holding left core mid
    → GetLeaves mid (record old { holding = left }) after new → GetLeaves core old after new
leaves_then core mid after old new left first then_leaves = record {
  getting = then_leaves.getting;
  apart = apart_both old.holding left new.holding core mid after first then_leaves.apart;
}

-- the file is open still once the first READ was answered
pub open_behind : (len : ℕ) (core : Core) (g : FileGet) → IsBehindRead len core g → IsOpenAt core g
open_behind len core g b = record {
  opened = b.opened;
  held = b.held;
  file = b.reading.file;
  unfailed =
      b.reading.unfailed;
}

-- ---- one READ more

last_reads : (ticket len : ℕ) (parts : List Part) → AreReadParts parts
    → AreReadParts (parts ++ record { ticket = ticket; kind = expected.Content len; len = len } ∷ [])
last_reads ticket len [] are = (refl, tt)
last_reads ticket len (part ∷ later) (here, are) = (here, last_reads ticket len later are)

pub last_bytes : (ticket len : ℕ) (kind : Expected) (parts : List Part)
    → bytes_under_way (parts ++ record { ticket = ticket; kind = kind; len = len } ∷ []) ≡ bytes_under_way parts + len
last_bytes ticket len kind [] = omega (arith)
last_bytes ticket len kind (part ∷ later) = (let e = last_bytes ticket len kind later in omega (arith, e))

pub still_open : (core after : Core) (h k : HoldingValue) → KeepsApart h k core after → IsSome (info_of core.phase)
    → IsSome (info_of after.phase)
still_open core after h k apart opened = subst (λ (p : Handshake). IsSome (info_of p)) (sym apart.spares.phase) opened

pub asked_on : (core after : Core) (old : FileGet) (held : HoldingValue) (len : ℕ) → IsSome (info_of core.phase)
    → old.stage ≡ stage.Reading → IsReadingOn old → old.next + len < 2 ^ 64
    → AsksForRead core old.holding old.next len after held → KeepsApart old.holding held core after
    → GetLeaves core old after (record old { holding = held; next = old.next + len })
asked_on core after old held len opened at_reading reading small asks apart =
    let new : FileGet = record old { holding = held; next = old.next + len } in
    let parts_are = ap (λ (x : HoldingValue). x.parts) asks.now in
    let sum = last_bytes asks.ticket len (expected.Content len) old.holding.parts in
    let bytes = ap bytes_under_way parts_are ∙ sum in
    let next = reading.next in
    let on : IsReadingOn new = record {
      file = subst (λ (x : HoldingValue). IsFileOpen x.file) (sym asks.now) reading.file;
      parts = subst (λ (l : List Part). AreReadParts l) (sym parts_are)
          (last_reads asks.ticket len old.holding.parts reading.parts);
      next = omega (arith, bytes, next);
      small = small;
      wide = reading.wide;
      some = reading.some;
      unfailed = reading.unfailed;
    } in
    record {
      getting = record {
        opened = still_open core after old.holding held apart opened;
        held = apart.held;
        stands = subst (λ (s : GetStage). StandsGet s new) (sym at_reading) on;
      };
      apart = apart;
    }

-- ---- the reply to the first READ

pub read_came : {H : Type 0} (done : LocalAct → H → H) (core mid after : Core) (old new : FileGet) (left : HoldingValue)
    (r : Reply) (len : ℕ) (before now : H) (result : Progress)
    → TakesPart core old.holding mid left (part_answer.Came r len)
    → TakesReply done r len mid (record old { holding = left }) after new before now → result ≡ progress.Moved
    → GetReadsOn done core old after new before now result
read_came done core mid after old new left r len before now result came goes moved =
    subst (λ x. GetReadsOn done core old after new before now x) (sym moved)
    (inl (record { mid = mid; left = left; r = r; len = len; came = came; goes = goes }))

pub read_failed : {H : Type 0} (done : LocalAct → H → H) (core mid after : Core) (old new : FileGet)
    (left : HoldingValue)
    (before : H) (result : Progress) → GetGivesUp mid left (record old { holding = left }) after new → result
    ≡ progress.Moved
    → GetReadsOn done core old after new before before result
read_failed done core mid after old new left before result gives moved =
    subst (λ x. GetReadsOn done core old after new before before x) (sym moved)
    (inr (
      refl,
      inr (record {
        mid = mid;
        left = left;
        gives_up = record {
          goes = gives.goes;
          stage = gives.stage;
          offset = gives.offset;
          sync = gives.sync;
          failure =
              gives.failure;
        };
      }),
    ))

read_more : {H : Type 0} (done : LocalAct → H → H) (core after : Core) (old new : FileGet) (before : H)
    → AsksNext core old after new
    → GetReadsOn done core old after new before before progress.Moved
read_more done core after old new before (inl asks) = inr (refl, inl asks)
read_more done core after old new before (inr gives) = inr (
  refl,
  inr (record { mid = core; left = old.holding; gives_up = gives }),
)

asks_same : (core mid after : Core) (old new : FileGet) (left : HoldingValue) (result : Progress) → mid ≡ core
    → left ≡ old.holding → GetAsksOn mid (record old { holding = left }) after new result
    → GetAsksOn core old after new result
asks_same core mid after old new left result core_is left_is asks =
    let at_core = subst (λ (c : Core). GetAsksOn c (record old { holding = left }) after new result) core_is asks in
    subst (λ (h : HoldingValue). GetAsksOn core (record old { holding = h }) after new result) left_is at_core

missing_on : {H : Type 0} (done : LocalAct → H → H) (core after : Core) (old new : FileGet) (before : H)
    (result : Progress)
    → TakesPart core old.holding core old.holding part_answer.Missing → GetAsksOn core old after new result
    → GetReadsOn done core old after new before before result
missing_on done core after old new before progress.Waits missing (full, some, still) = (missing, full, still, refl)
missing_on done core after old new before progress.Moved missing asks = read_more done core after old new before asks
missing_on done core after old new before (progress.Ended result) missing never = absurd never

pub read_missing : {H : Type 0} (done : LocalAct → H → H) (core mid after : Core) (old new : FileGet)
    (left : HoldingValue)
    (before : H) (result : Progress) → TakesPart core old.holding mid left part_answer.Missing
    → GetAsksOn mid (record old { holding = left }) after new result
    → GetReadsOn done core old after new before before result
read_missing done core mid after old new left before result missing asks =
    missing_on done core after old new before result (missing.0, missing.1, missing.2, refl, refl)
    (asks_same core mid after old new left result missing.3 missing.4 asks)

idle_on : {H : Type 0} (done : LocalAct → H → H) (core after : Core) (old new : FileGet) (before : H)
    (result : Progress)
    → old.holding.parts ≡ [] → GetAsksOn core old after new result
    → GetReadsOn done core old after new before before result
idle_on done core after old new before progress.Waits none (full, some, still) =
    absurd (let e = ap length none in omega (arith, some, e))
idle_on done core after old new before progress.Moved none asks = read_more done core after old new before asks
idle_on done core after old new before (progress.Ended result) none never = absurd never

pub read_idle : {H : Type 0} (done : LocalAct → H → H) (core mid after : Core) (old new : FileGet) (left : HoldingValue)
    (before : H) (result : Progress) → TakesPart core old.holding mid left part_answer.Idle
    → GetAsksOn mid (record old { holding = left }) after new result
    → GetReadsOn done core old after new before before result
read_idle done core mid after old new left before result idle asks =
    idle_on done core after old new before result idle.0 (asks_same core mid after old new left result idle.1 idle.2
    asks)

-- ---- the OPEN

pub open_granted : {H : Type 0} (done : LocalAct → H → H) (part : List ℕ) (core mid after : Core) (old new : FileGet)
    (left : HoldingValue) (before now : H) (result : Progress)
    → SettlesFile core old.holding mid left file_answer.Granted
    → MakesPart done part mid (record old { holding = left }) after new before now → result ≡ progress.Moved
    → GetOpens done part core old after new before now result
open_granted done part core mid after old new left before now result granted made moved =
    subst (λ x. GetOpens done part core old after new before now x) (sym moved)
    (record { mid = mid; open_file = left; granted = granted; made = made })
