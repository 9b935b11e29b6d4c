-- Steps of files that are downloaded at once.
use Rattle.std.proofs.Common.{◌≡◌, ◌<◌, ◌-◌, ◌^◌, ◌∙◌, List, ℕ, [], ◌∷◌, ◌++◌, ap, refl, subst, sym, inl, inr}
use Rattle.std.specs.Prelude.{Result, Ok, Err, IfOk, IsSome}
use Rattle.std.proofs.lemmas.List.{append-nil, append_assoc}
use Rattle.bytes.specs.Filled.{Filled}
use Rattle.sftp_model.specs.declared.error.Error.{Error}
use Rattle.sftp_core.specs.Core.{Core}
use Rattle.sftp_core.specs.Info.{info_of}
use Rattle.sftp_link.specs.Views.{LinkView}
use Rattle.plan_state.specs.Keeping.{KeepsHeld}
use Rattle.plan_state.specs.declared.poll.Poll.TheVariants.{Pending, Ready}
use Rattle.sftp_fs_read.specs.WholeReads.{CancelsRead, FsReadValue, ReadOn, ReadsFrom}
use Rattle.sftp_client.specs.Calls.{IsUsable}
use Rattle.sftp_client.specs.Sessions.{FlushesQueue, SftpValue, TakesOrKept, with_core}
use Rattle.sftp_client.specs.Waits.{SendsAndTakes}
use Rattle.sftp_client.specs.declared.walk_entry.WalkEntry.{WalkEntry}
use Rattle.sftp_client.proofs.Waiting.{fail_stays, round_stays, round_unfaulted}
use Rattle.example_client.specs.Downloads.{AreDownloads, AreReadsHeld, AreReadsUnderWay, DownloadsBySteps, IsDownloadStep, downloading_of}
use Rattle.example_client.specs.declared.downloads.Download.{Download}
use Rattle.example_client.specs.declared.downloads.Reading.{Reading}
use Rattle.example_client.proofs.Progress.{first_step, steps_both, steps_on}
use Rattle.example_client.proofs.ReadsApart.{nothing_dropped, reads_kept, reads_started, reads_waiting}

-- ---- starts

pub starts_next : {L S : Type 0} (state : L → LinkView S) (old new : SftpValue L) (file : WalkEntry)
    (later : List WalkEntry) (call : FsReadValue) (reads : List Reading)
    → ReadsFrom file.path [] old.core new.core (Ok call) → new ≡ with_core old new.core
    → DownloadsBySteps state (downloading_of old (file ∷ later) reads [])
    (downloading_of new later (reads ++ record { file = file; call = call } ∷ []) [])
starts_next state old new file later call reads starts left =
    first_step (IsDownloadStep state) (downloading_of old (file ∷ later) reads [])
    (downloading_of new later (reads ++ record { file = file; call = call } ∷ []) [])
    (inl (inl (record {
      file = file;
      call = call;
      starts = starts;
      left = left;
      next = refl;
      last = refl;
      done = refl;
    })))

usable_left : {L S : Type 0} (state : L → LinkView S) (old new : SftpValue L) → IsUsable state old
    → new ≡ with_core old new.core → IsSome (info_of new.core.phase) → IsUsable state new
usable_left {L = L} state old new usable left opened =
    record {
      opened = opened;
      count = subst (λ (n : ℕ). n < 2 ^ 64 - 1) (sym (ap (λ (x : SftpValue L). (state x.link).faults) left))
          usable.count;
    }

pub under_way_kept : {L S : Type 0} (state : L → LinkView S) (old new : SftpValue L) (reads : List Reading)
    → AreReadsUnderWay state old reads → new ≡ with_core old new.core → KeepsHeld old.core new.core
    → AreReadsUnderWay state new reads
under_way_kept state old new reads u left k =
    record {
      usable = usable_left state old new u.usable left (k.grants.opened u.usable.opened);
      held = reads_kept old.core new.core reads k u.held;
    }

pub under_way_more : {L S : Type 0} (state : L → LinkView S) (old new : SftpValue L) (file : WalkEntry)
    (call : FsReadValue) (reads : List Reading) → AreReadsUnderWay state old reads
    → ReadsFrom file.path [] old.core new.core (Ok call) → new ≡ with_core old new.core
    → AreReadsUnderWay state new (reads ++ record { file = file; call = call } ∷ [])
under_way_more state old new file call reads u starts left =
    record {
      usable = usable_left state old new u.usable left (starts.keeps.grants.opened u.usable.opened);
      held = reads_started old.core new.core reads file call starts u.held;
    }

-- ---- polls

-- the first read ended, and nothing of it is left
pub ends_first : {L S : Type 0} (state : L → LinkView S) (old new : SftpValue L) (mid : Core) (reading : Reading)
    (ended : FsReadValue) (later : List Reading) (bytes : Filled) (done more : List Download)
    → ReadOn old.core mid reading.call.stage ended.stage (Ready (Ok bytes)) → CancelsRead mid new.core ended.stage
    → new ≡ with_core old new.core → more ≡ done ++ record { file = reading.file; bytes = bytes } ∷ []
    → DownloadsBySteps state (downloading_of old [] (reading ∷ later) done) (downloading_of new [] later more)
ends_first state old new mid reading ended later bytes done more polls cancels left last =
    let same = nothing_dropped mid new.core ended.stage polls.over cancels in
    first_step (IsDownloadStep state) (downloading_of old [] (reading ∷ later) done) (downloading_of new [] later more)
    (inl (inr (record {
      reading = reading;
      ended = ended;
      bytes = bytes;
      polls = subst (λ (k : Core). ReadOn old.core k reading.call.stage ended.stage (Ready (Ok bytes))) (sym same) polls;
      left = left;
      first = refl;
      last = last;
      files = refl;
    })))

pub ended_usable : {L S : Type 0} (state : L → LinkView S) (old new : SftpValue L) (mid : Core) (reading : Reading)
    (ended : FsReadValue) (bytes : Filled) → IsUsable state old
    → ReadOn old.core mid reading.call.stage ended.stage (Ready (Ok bytes)) → CancelsRead mid new.core ended.stage
    → new ≡ with_core old new.core → IsUsable state new
ended_usable state old new mid reading ended bytes usable polls cancels left =
    usable_left state old new usable left (cancels.spares.opened (polls.spares.opened usable.opened))

-- the first read has no result yet, and a round went well
pub awaits_first : {L S : Type 0} (state : L → LinkView S) (old mid new : SftpValue L) (reading : Reading)
    (after : FsReadValue) (later : List Reading) (done : List Download)
    → ReadOn old.core mid.core reading.call.stage after.stage Pending → mid ≡ with_core old mid.core
    → SendsAndTakes state mid new
    → DownloadsBySteps state (downloading_of old [] (reading ∷ later) done)
    (downloading_of new [] (later ++ record { file = reading.file; call = after } ∷ []) done)
awaits_first state old mid new reading after later done polls left round =
    let here = downloading_of old [] (reading ∷ later) done in
    let reads = later ++ record { file = reading.file; call = after } ∷ [] in
    let polled = downloading_of mid [] reads done in
    steps_on (IsDownloadStep state) here polled (downloading_of new [] reads done)
    (first_step (IsDownloadStep state) here polled (inr (inl (record {
      reading = reading;
      after = after;
      later = later;
      polls = polls;
      left = left;
      was = refl;
      is = refl;
    })))) (inr (inr (record { round = round; is = refl })))

-- an open session with reads of which the first was polled
pub record StillReading {L : Type 0} (s : SftpValue L) (reads : List Reading) : Type 0 where
  pub opened : IsSome (info_of s.core.phase)
  pub held : AreReadsHeld s.core reads

pub still_reading : {L S : Type 0} (state : L → LinkView S) (old mid : SftpValue L) (reading : Reading)
    (after : FsReadValue) (later : List Reading) → AreReadsUnderWay state old (reading ∷ later)
    → ReadOn old.core mid.core reading.call.stage after.stage Pending
    → StillReading mid (later ++ record { file = reading.file; call = after } ∷ [])
still_reading state old mid reading after later u polls =
    record {
      opened = polls.spares.opened u.usable.opened;
      held = reads_waiting old.core mid.core reading after later u.held polls;
    }

pub flush_fails : {L S : Type 0} (state : L → LinkView S) (mid new : SftpValue L) (reads : List Reading) (e : Error)
    → StillReading mid reads → FlushesQueue state mid new (Err e) → AreReadsHeld new.core reads
flush_fails state mid new reads e s h =
    reads_kept mid.core new.core reads (fail_stays state mid new e s.opened (inl h)) s.held

pub take_fails : {L S : Type 0} (state : L → LinkView S) (mid sent new : SftpValue L) (reads : List Reading) (e : Error)
    → StillReading mid reads → FlushesQueue state mid sent (Ok tt) → TakesOrKept state sent new (Err e)
    → AreReadsHeld new.core reads
take_fails state mid sent new reads e s h t =
    reads_kept mid.core new.core reads (fail_stays state mid new e s.opened (inr (sent, (h, t)))) s.held

pub round_holds : {L S : Type 0} (state : L → LinkView S) (mid new : SftpValue L) (reads : List Reading)
    → StillReading mid reads → SendsAndTakes state mid new → AreReadsHeld new.core reads
round_holds state mid new reads s r = reads_kept mid.core new.core reads (round_stays state mid new s.opened r) s.held

pub round_usable : {L S : Type 0} (state : L → LinkView S) (old mid new : SftpValue L) (reads : List Reading)
    → IsUsable state old → mid ≡ with_core old mid.core → StillReading mid reads → SendsAndTakes state mid new
    → IsUsable state new
round_usable {L = L} state old mid new reads usable left s r =
    let same : (state new.link).faults ≡ (state old.link).faults =
    round_unfaulted state mid new r ∙ ap (λ (x : SftpValue L). (state x.link).faults) left in
    record {
      opened = (round_stays state mid new s.opened r).grants.opened s.opened;
      count = subst (λ (n : ℕ). n < 2 ^ 64 - 1) (sym same) usable.count;
    }

-- ---- turns

-- what holds after some steps
pub record HasDownloaded {L S : Type 0} (state : L → LinkView S) (old : SftpValue L) (files : List WalkEntry)
    (before : List Reading) (new : SftpValue L) (left : List WalkEntry) (reads : List Reading) (done : List Download) :
    Type 0 where
  pub goes : DownloadsBySteps state (downloading_of old files before []) (downloading_of new left reads done)
  pub under_way : AreReadsUnderWay state new reads

pub downloaded_more : {L S : Type 0} (state : L → LinkView S) (old : SftpValue L) (files : List WalkEntry)
    (before : List Reading) (mid new : SftpValue L) (left later : List WalkEntry) (reads now : List Reading)
    (done more : List Download) → HasDownloaded state old files before mid left reads done
    → DownloadsBySteps state (downloading_of mid left reads done) (downloading_of new later now more)
    → AreReadsUnderWay state new now → HasDownloaded state old files before new later now more
downloaded_more state old files before mid new left later reads now done more h went under_way =
    record {
      goes = steps_both (IsDownloadStep state) (downloading_of old files before []) (downloading_of mid left reads done)
          (downloading_of new later now more) h.goes went;
      under_way = under_way;
    }

-- what holds after these files were taken: their reads were started, whatever files are to come
pub record HasStarted {L S : Type 0} (state : L → LinkView S) (old : SftpValue L) (taken : List WalkEntry)
    (new : SftpValue L) (reads : List Reading) : Type 0 where
  pub goes : (later : List WalkEntry)
      → DownloadsBySteps state (downloading_of old (taken ++ later) [] []) (downloading_of new later reads [])
  pub under_way : AreReadsUnderWay state new reads

pub started_first : {L S : Type 0} (state : L → LinkView S) (old : SftpValue L) (reads : List Reading)
    → IsUsable state old → reads ≡ [] → HasStarted state old [] old reads
started_first state old reads usable none =
    record {
      goes = λ later. (0, λ i. downloading_of old later (none i) []);
      under_way = record {
        usable = usable;
        held = subst (λ (l : List Reading). AreReadsHeld old.core l) (sym none) tt;
      };
    }

pub started_more : {L S : Type 0} (state : L → LinkView S) (old : SftpValue L) (taken : List WalkEntry)
    (mid new : SftpValue L) (file : WalkEntry) (reads now : List Reading) → HasStarted state old taken mid reads
    → ((later : List WalkEntry) → DownloadsBySteps state (downloading_of mid (file ∷ later) reads [])
    (downloading_of new later now [])) → AreReadsUnderWay state new now
    → HasStarted state old (taken ++ file ∷ []) new now
started_more state old taken mid new file reads now h went under_way =
    record {
      goes = λ later.
          subst (λ (l : List WalkEntry). DownloadsBySteps state (downloading_of old l [] [])
          (downloading_of new later now []))
          (sym (append_assoc taken (file ∷ []) later))
          (steps_both (IsDownloadStep state) (downloading_of old (taken ++ file ∷ later) [] [])
          (downloading_of mid (file ∷ later) reads []) (downloading_of new later now []) (h.goes (file ∷ later))
          (went later));
      under_way = under_way;
    }

pub all_started : {L S : Type 0} (state : L → LinkView S) (old : SftpValue L) (taken files : List WalkEntry)
    (new : SftpValue L) (reads : List Reading) → HasStarted state old taken new reads → taken ≡ files
    → DownloadsBySteps state (downloading_of old files [] []) (downloading_of new [] reads [])
all_started state old taken files new reads h is =
    subst (λ (l : List WalkEntry). DownloadsBySteps state (downloading_of old l [] []) (downloading_of new [] reads []))
    (append-nil taken ∙ is) (h.goes [])

-- ---- the reads are run to their end

pub downloads_begin : {L S : Type 0} (state : L → LinkView S) (old : SftpValue L) (reads : List Reading)
    (done : List Download) → AreReadsUnderWay state old reads → done ≡ []
    → HasDownloaded state old [] reads old [] reads done
downloads_begin state old reads done u none =
    record { goes = (0, λ i. downloading_of old [] reads (none i)); under_way = u }

pub first_under_way : {L S : Type 0} (state : L → LinkView S) (s : SftpValue L) (reads later : List Reading)
    (reading : Reading) → AreReadsUnderWay state s reads → reads ≡ reading ∷ later
    → AreReadsUnderWay state s (reading ∷ later)
first_under_way state s reads later reading u is = subst (λ (l : List Reading). AreReadsUnderWay state s l) is u

pub all_ended : {L S : Type 0} (state : L → LinkView S) (old : SftpValue L) (before : List Reading) (new : SftpValue L)
    (reads : List Reading) (done : List Download) → HasDownloaded state old [] before new [] reads done → reads ≡ []
    → DownloadsBySteps state (downloading_of old [] before []) (downloading_of new [] [] done)
all_ended state old before new reads done h none =
    subst (λ (l : List Reading). DownloadsBySteps state (downloading_of old [] before []) (downloading_of new [] l done))
    none h.goes

pub all_downloaded : {L S V : Type 0} (state : L → LinkView S) (result : Result V Error) (items : V → List Download)
    (files : List WalkEntry) (old mid new : SftpValue L) (reads : List Reading)
    → DownloadsBySteps state (downloading_of old files [] []) (downloading_of mid [] reads [])
    → IfOk result (λ done. DownloadsBySteps state (downloading_of mid [] reads []) (downloading_of new [] [] (items done)))
    → IfOk result (λ done. AreDownloads files state old new (items done))
all_downloaded state (Ok done) items files old mid new reads first last =
    steps_both (IsDownloadStep state) (downloading_of old files [] []) (downloading_of mid [] reads [])
    (downloading_of new [] [] (items done)) first last
all_downloaded state (Err e) items files old mid new reads first last = tt
