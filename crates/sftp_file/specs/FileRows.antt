-- Worked examples of flags, answers, moves and cuts, each beside a near miss.
use Rattle.std.specs.Prelude.{ℕ, ◌≡◌, true, false, List, [], ◌∷◌, codes, Some, None, Ok, Err, refl, slice_get}
use Rattle.sftp_model.specs.declared.error.Error.TheVariants as error
use Rattle.sftp_model.specs.declared.flags.OpenFlags.{OpenFlags}
use Rattle.sftp_model.specs.declared.reply.Reply.{Reply}
use Rattle.sftp_model.specs.declared.reply.Reply.TheVariants as reply
use Rattle.sftp_model.specs.declared.slot.FileAt.{FileAt}
use Rattle.sftp_model.specs.declared.slot.Move.TheVariants.{Wait}
use Rattle.sftp_model.specs.OpenOptions.{nothing_chosen, flags_of}
use Rattle.plan_model.specs.Moves.{Answers}
use Rattle.plan_state.specs.Runners.{FollowsPlan}
use Rattle.plan_state.specs.declared.runner.Then.TheVariants as then
use Rattle.sftp_file.specs.Outcomes.{read_answer, status_answer}
use Rattle.sftp_file.specs.Parts.{cut_at}
use Rattle.sftp_file.specs.Reads.{ReadValue, read_meaning}
use Rattle.sftp_file.specs.Writes.{write_meaning}

-- ---- Flags

abbrev flags : ℕ → OpenFlags
flags n = record { 0 = n }

pub flags_r : flags_of (record nothing_chosen { read = true }) ≡ flags 1
flags_r = refl

pub flags_w : flags_of (record nothing_chosen { write = true }) ≡ flags 2
flags_w = refl

pub flags_a : flags_of (record nothing_chosen { append = true }) ≡ flags 6
flags_a = refl

pub flags_wtc : flags_of (record nothing_chosen { write = true; truncate = true; create = true }) ≡ flags 26
flags_wtc = refl

pub flags_wc : flags_of (record nothing_chosen { write = true; create = true }) ≡ flags 10
flags_wc = refl

pub flags_wtcn : flags_of (record nothing_chosen { write = true; truncate = true; create = true; create_new = true })
    ≡ flags 42
flags_wtcn = refl

-- Without `create` there is nothing to truncate.
pub flags_t : flags_of (record nothing_chosen { truncate = true }) ≡ flags 0
flags_t = refl

-- ---- Answers

pub read_end : read_answer 1 (codes "m") (codes "l") ≡ Ok None
read_end = refl

pub read_refused : read_answer 2 (codes "m") (codes "l") ≡ Err (error.SftpError 2 (codes "m") (codes "l"))
read_refused = refl

-- A STATUS 1 is an end for a READ alone.
pub status_refused : status_answer 1 (codes "m") (codes "l") ≡ Err (error.SftpError 1 (codes "m") (codes "l"))
status_refused = refl

pub status_done : status_answer 0 (codes "m") (codes "l") ≡ Ok tt
status_done = refl

-- ---- Moves: the OPEN is the lane's request 0, and the call's own request is 1

abbrev replies : List Reply → Answers
replies taken place = slice_get taken place

abbrev after : List Reply → Answers
after taken = replies (reply.Handle (codes "h") ∷ taken)

-- The file is at offset 3 and may only be read.
abbrev file : FileAt
file = record { grant = 0; readable = true; writable = false; offset = 3 }

abbrev read_of_eight : ReadValue
read_of_eight = record { file = file; len = 8 }

-- A read moves the file by the bytes that came.
pub read_moves : FollowsPlan read_meaning tt read_of_eight (record { file = record file { offset = 5 }; len = 6 })
    (after (reply.Content (codes "ab") ∷ [])) (then.Done (Ok (Some (codes "ab"))))
read_moves = refl

-- A read at the end doesn't move the file.
pub end_stays : FollowsPlan read_meaning tt read_of_eight read_of_eight
    (after (reply.Status 1 (codes "m") (codes "l") ∷ []))
    (then.Done (Ok None))
end_stays = refl

pub read_waits_on : read_meaning.left tt read_of_eight [] (after []) ≡ Wait 1
read_waits_on = refl

-- A write moves the file by all the bytes that it asked to write.
pub write_moves : FollowsPlan write_meaning tt (record { file = file; len = 8 })
    (record { file = record file { offset = 11 }; len = 0 })
    (after (reply.Status 0 [] [] ∷ [])) (then.Done (Ok 8))
write_moves = refl

-- ---- Pieces

abbrev pieces : List (List ℕ)
pieces = codes "ab" ∷ [] ∷ codes "cd" ∷ []

pub cut_within : cut_at 1 2 pieces ≡ codes "b" ∷ codes "c" ∷ []
cut_within = refl

pub cut_whole : cut_at 0 9 pieces ≡ codes "ab" ∷ codes "cd" ∷ []
cut_whole = refl

pub cut_behind : cut_at 4 9 pieces ≡ []
cut_behind = refl
