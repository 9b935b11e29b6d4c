-- Worked READs and WRITEs of copies, the newest operation first.
use Rattle.std.specs.Prelude.{◌≡◌, ℕ, true, false, List, [], ◌∷◌, refl}
use Rattle.transfer_copy.specs.Gets.{ask_with, if_short_twice, most_with}
use Rattle.transfer_copy.specs.WholeGets.{AreFromTo, AskedRead, AsksRead, GotData, ReadDeed, ReadPiece, reads_after}
use Rattle.transfer_copy.specs.WholePuts.{
  AreWrittenFromTo,
  AskNoSync,
  AskedWrite,
  AsksSync,
  AsksWrite,
  GotEnd,
  GotOk,
  IsSynced,
  WriteDeed,
  writes_after,
}

-- ---- READs

abbrev read_at : ℕ → ℕ → AskedRead
read_at ticket offset = record { ticket = ticket; offset = offset; len = 2 }

abbrev piece_at : ℕ → ℕ → List ℕ → ReadPiece
piece_at ticket offset bytes = record { read = read_at ticket offset; bytes = bytes }

-- Five bytes were read by three READs: the third is short, and the EOF comes to another READ.
abbrev five : List ReadDeed
five = AsksRead (read_at 4 5) ∷ GotData 3 (50 ∷ []) ∷ GotData 2 (30 ∷ 40 ∷ []) ∷ AsksRead (read_at 3 4)
    ∷ AsksRead (read_at 2 2) ∷ GotData 1 (10 ∷ 20 ∷ []) ∷ AsksRead (read_at 1 0) ∷ []

abbrev five_pieces : List ReadPiece
five_pieces = piece_at 1 0 (10 ∷ 20 ∷ []) ∷ piece_at 2 2 (30 ∷ 40 ∷ []) ∷ piece_at 3 4 (50 ∷ []) ∷ []

pub five_came : reads_after five ≡ record { under_way = read_at 4 5 ∷ []; pieces = five_pieces }
five_came = refl

pub five_in_order : AreFromTo 0 five_pieces 5
five_in_order = (refl, (refl, (refl, refl)))

-- After a short piece, the READs in flight are abandoned.
pub short : reads_after (GotData 1 (10 ∷ []) ∷ AsksRead (read_at 2 2) ∷ AsksRead (read_at 1 0) ∷ [])
    ≡ record { under_way = []; pieces = piece_at 1 0 (10 ∷ []) ∷ [] }
short = refl

-- DATA under the ticket of a READ other than the first is no piece of the copy.
pub another : reads_after (GotData 2 (10 ∷ 20 ∷ []) ∷ AsksRead (read_at 2 2) ∷ AsksRead (read_at 1 0) ∷ [])
    ≡ record { under_way = read_at 1 0 ∷ read_at 2 2 ∷ []; pieces = [] }
another = refl

-- After a first short piece READs ask for as much as before. After a second one they ask for as many bytes as came, and
-- for 4096 at least, and more of them may be in flight.
pub first_short : if_short_twice false 16384 261120 (ask_with 16384) 261120 ≡ 261120
first_short = refl

pub second_short : if_short_twice true 16384 261120 (ask_with 16384) 261120 ≡ 16384
second_short = refl

pub second_tiny : ask_with 10 ≡ 4096
second_tiny = refl

pub more_reads : most_with 16384 261120 64 ≡ 960
more_reads = refl

pub at_most_1024_reads : most_with 10 261120 64 ≡ 1024
at_most_1024_reads = refl

-- ---- WRITEs

abbrev write_at : ℕ → ℕ → List ℕ → AskedWrite
write_at ticket offset bytes = record { ticket = ticket; offset = offset; bytes = bytes }

-- Three bytes were written by two WRITEs.
abbrev three : List WriteDeed
three = GotOk 2 ∷ GotEnd ∷ GotOk 1 ∷ AsksWrite (write_at 2 2 (30 ∷ [])) ∷ AsksWrite (write_at 1 0 (10 ∷ 20 ∷ [])) ∷ []

abbrev three_writes : List AskedWrite
three_writes = write_at 1 0 (10 ∷ 20 ∷ []) ∷ write_at 2 2 (30 ∷ []) ∷ []

pub three_accepted : writes_after three ≡ record { under_way = []; accepted = three_writes }
three_accepted = refl

pub three_in_order : AreWrittenFromTo 0 three_writes 3
three_in_order = (refl, (refl, refl))

-- The fsync is the last request, after the OK to each WRITE.
pub three_synced : IsSynced (GotOk 3 ∷ AsksSync 3 ∷ three)
three_synced = record { ticket = 3; earlier = three; last = refl; answered = refl }

pub three_unsynced : AskNoSync three
three_unsynced = tt

pub sync_asked : AskNoSync (AsksSync 3 ∷ three) → ⊥
sync_asked never = never

-- A WRITE that had no OK is still in flight.
pub one_unanswered : writes_after (GotOk 1 ∷ AsksWrite (write_at 2 2 (30 ∷ [])) ∷ AsksWrite
    (write_at 1 0 (10 ∷ 20 ∷ []))
    ∷ [])
    ≡ record { under_way = write_at 2 2 (30 ∷ []) ∷ []; accepted = write_at 1 0 (10 ∷ 20 ∷ []) ∷ [] }
one_unanswered = refl
