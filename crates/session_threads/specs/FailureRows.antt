-- Worked rows of runs that a fault stopped: two bytes of a frame came, and then the link ended.
use Rattle.std.specs.Prelude.{◌≡◌, ℕ, false, List, ◌∷◌, [], ◌++◌, Some, None, Err}
use Rattle.std.proofs.Common.{arith, inl, inr, refl}
use Rattle.link_frames.specs.Reading.{IsFramePart}
use Rattle.plan_model.specs.declared.call.Lane.{Lane}
use Rattle.session_model.specs.declared.entry.Entry.{Entry}
use Rattle.session_model.specs.declared.entry.Entry.TheVariants as entry
use Rattle.session_seats.specs.declared.view.Sight.{Sight}
use Rattle.session_seats.specs.Rules.{no_counts}
use Rattle.session_seats.specs.Sights.{seat_name, stamp}
use Rattle.sftp_link.specs.declared.piece.Piece.{Piece}
use Rattle.sftp_link.specs.declared.piece.Piece.TheVariants.{Got, Sent}
use Rattle.sftp_link.specs.Log.{AllGot}
use Rattle.sftp_link.specs.Views.{LinkView}
use Rattle.sftp_model.specs.declared.error.Error.TheVariants as error
use Rattle.sftp_model.specs.declared.error.Fault.TheVariants as fault
use Rattle.sftp_model.specs.declared.options.SftpOptions.{SftpOptions}
use Rattle.sftp_model.specs.declared.reply.Reply.{Reply}
use Rattle.sftp_tasks.specs.Workers.{FlushWorks, ReadWorks}
use Rattle.session_threads.specs.Failures.{FaultEnds, GotThenWhy, StopsJournal, WorksOverHalf}

abbrev two_bytes : List ℕ
two_bytes = 0 ∷ 0 ∷ []

-- A half, and what it shows once these pieces were moved.
abbrev half : List Piece → LinkView (Unit {0})
half pieces = record { log = Some pieces; faults = 0; ended = false; service = tt }

-- ---- Bytes that show why

is_part : IsFramePart two_bytes
is_part = record { unfaulted = refl; short = omega arith }

-- The link ended within a frame, before any reply.
pub part_then_end : GotThenWhy error.LinkEnded [] [] [] (Got two_bytes ∷ [])
part_then_end = ([], (two_bytes, (refl, (inl is_part, (Got two_bytes ∷ [], refl, ([], refl, refl))))))

none_sent : (group : List Piece) (bytes : List ℕ) → Sent two_bytes ∷ [] ≡ group ++ [] → AllGot group bytes → ⊥
none_sent [] bytes is all = cc is
none_sent (Got piece ∷ group) bytes is all = cc is
none_sent (Sent piece ∷ group) bytes is all = all

-- Bytes that were sent are no frame of a reply, and show no reason.
pub sent_bytes_show_nothing : (past : List Entry) (replies : List (ℕ × Reply))
    → GotThenWhy error.LinkEnded past replies [] (Sent two_bytes ∷ []) → ⊥
sent_bytes_show_nothing past replies h =
    let came = h.1.1.1.1 in
    none_sent came.0 (h.0 ++ h.1.0) came.1 came.2

-- ---- The journal

module _ (options : SftpOptions) where
  -- A session of no lanes recorded that the link ended.
  abbrev now : Sight
  now = record {
    log = stamp 0 (entry.Kept fault.Ended) ∷ [];
    seats = seat_name 0 None ∷ [];
    lanes = [];
    options = options;
    version = None;
    counts = no_counts;
  }

  abbrev pub end_stops_journal : StopsJournal [] options error.LinkEnded
  end_stops_journal = record {
    now = now;
    made = (refl, refl);
    info = None;
    fault = fault.Ended;
    is = refl;
    before = [];
    past = refl;
    run = (refl, tt);
    lawful = record {
      named = ((seat_name 0 None, refl, tt), tt);
      seated = (λ more. absurd (omega (arith, more)), λ none. refl, tt, tt);
    };
  }

  -- No journal ends because an allocation failed.
  pub memory_stops_no_journal : (lanes : List Lane) → StopsJournal lanes options error.OutOfMemory → ⊥
  memory_stops_no_journal lanes h = cc h.is

  -- The worker that reads found the end of the link. The one that sends had sent nothing, and returned that fault.
  pub end_ends_run :
      WorksOverHalf FlushWorks (Err (error.BackgroundTaskFailure fault.Ended)) (half []) (half [])
      → WorksOverHalf ReadWorks (Err error.LinkEnded) (half []) (half (Got two_bytes ∷ []))
      → FaultEnds [] options (half []) (half []) (half []) (half (Got two_bytes ∷ [])) error.LinkEnded
  end_ends_run sends reads = record {
    journal = end_stops_journal;
    sent = Err (error.BackgroundTaskFailure fault.Ended);
    got = Err error.LinkEnded;
    stops = inr refl;
    sends = sends;
    reads = reads;
    sends_shown = ([], [], refl, ([], refl, refl));
    takes_shown = (
      [],
      (
        two_bytes,
        (
          refl,
          (
            inl (record { unfaulted = refl; within = λ four. absurd (omega (arith, four)) }),
            (Got two_bytes ∷ [], refl, ([], refl, refl)),
          ),
        ),
      ),
    );
    why = λ is. part_then_end;
  }

  -- No run ends by a fault because an allocation failed.
  pub memory_ends_no_run : (lanes : List Lane) {A B : Type 0} (out out' : LinkView A) (input input' : LinkView B)
      → FaultEnds lanes options out out' input input' error.OutOfMemory → ⊥
  memory_ends_no_run lanes out out' input input' h = cc h.journal.is
