-- believed: SeesVersion, sends, sent_bytes, takes, taken_replies, AreFramesOf
-- The bytes of the Sends of a journal, and the replies of its Takes: of all of them, and of those that one seat made.
-- Journals and logs have the newest entry first; bytes and replies have the first one first.
use Rattle.std.specs.Prelude.{◌≡◌, ℕ, ◌==◌, List, [], ◌∷◌, ◌++◌, Some, Result, Ok, Err, if◌then◌else◌}
use Rattle.std.proofs.Common.{append-nil, refl}
use Rattle.link_frames.specs.Reading.{IsOfOneFrame}
use Rattle.session_model.specs.declared.entry.Entry.{Entry}
use Rattle.session_model.specs.declared.entry.Entry.TheVariants as entry
use Rattle.session_model.specs.declared.event.Event.TheVariants.{Submit, Send, Take}
use Rattle.session_model.specs.declared.event.Owner.TheVariants as owner
use Rattle.session_model.specs.Readings.{unsent_bytes}
use Rattle.session_model.specs.Shown.{IsFrameOf}
use Rattle.session_seats.specs.declared.view.Sight.{Sight}
use Rattle.session_seats.specs.declared.view.Stamp.{Stamp}
use Rattle.session_seats.specs.Holds.{number_of, sight_by}
use Rattle.session_seats.specs.Sights.{entries, stamp}
use Rattle.sftp_link.specs.declared.piece.Piece.{Piece}
use Rattle.sftp_link.specs.Log.{GotOn}
use Rattle.sftp_link.specs.Told.{SentAll, SentFront, IfLogged}
use Rattle.sftp_link.specs.Views.{LinkView}
use Rattle.sftp_model.specs.declared.error.Error.{Error}
use Rattle.sftp_model.specs.declared.reply.Reply.{Reply}
use Rattle.sftp_model.specs.declared.reply.Reply.TheVariants as reply
use Rattle.sftp_model.specs.declared.request.Request.TheVariants as request
use Rattle.sftp_model.specs.Frames.{frames_of}
use Rattle.sftp_tasks.specs.Rounds.{Token}

-- The seat has seen this VERSION.
abbrev pub SeesVersion : Reply → Sight → Type 0
SeesVersion hello s = s.version ≡ Some hello

-- ---- Sent bytes

-- The bytes that an entry sends after these: for a Send, the frames of the requests that were unsent.
abbrev pub sends : Entry → List Entry → List ℕ
sends (entry.Event Send) past = unsent_bytes past
sends other past = []

-- The bytes of all Sends.
abbrev pub sent_bytes : List Entry → List ℕ
sent_bytes [] = []
sent_bytes (e ∷ past) = sent_bytes past ++ sends e past

-- The bytes of the Sends that the seat n made.
abbrev pub sent_by : ℕ → List Stamp → List ℕ
sent_by n [] = []
sent_by n (s ∷ log) = if s.by == n then sent_by n log ++ sends s.entry (entries log) else sent_by n log

-- ---- Taken replies

-- The id and the reply that an entry takes.
abbrev pub takes : Entry → List (ℕ × Reply)
takes (entry.Event (Take id r)) = (id, r) ∷ []
takes other = []

-- Those of all Takes.
abbrev pub taken_replies : List Entry → List (ℕ × Reply)
taken_replies [] = []
taken_replies (e ∷ past) = taken_replies past ++ takes e

-- Those of the Takes that the seat n made.
abbrev pub taken_by : ℕ → List Stamp → List (ℕ × Reply)
taken_by n [] = []
taken_by n (s ∷ log) = if s.by == n then taken_by n log ++ takes s.entry else taken_by n log

-- These bytes are one frame for each, in order, that reads as its id and reply.
abbrev pub AreFramesOf : List (ℕ × Reply) → List ℕ → Type 0
AreFramesOf [] bytes = bytes ≡ []
AreFramesOf (x ∷ replies) bytes = (first : List ℕ) × ((rest : List ℕ) × ((bytes ≡ first ++ rest)
    × (IsFrameOf (Some x.0) x.1 first × AreFramesOf replies rest)))

-- ---- Halves of the link

-- All these bytes were sent; after an error a prefix of them was.
abbrev pub SentUnless : {T : Type 0} → Result T Error → List ℕ → List Piece → List Piece → Type 0
SentUnless (Ok x) bytes before now = SentAll bytes before now
SentUnless (Err e) bytes before now = SentFront bytes before now

-- A frame was received for each of these replies; after an error also bytes of at most another frame.
abbrev pub GotUnless : {T : Type 0} → Result T Error → List (ℕ × Reply) → List Piece → List Piece → Type 0
GotUnless (Ok x) replies before now = (bytes : List ℕ) × (AreFramesOf replies bytes × GotOn before now bytes)
GotUnless (Err e) replies before now = (bytes : List ℕ) × ((more : List ℕ) × (AreFramesOf replies bytes
    × (IsOfOneFrame more × GotOn before now (bytes ++ more))))

-- The bytes of the Sends that a seat made between two sights were sent over a half.
pub record WroteSends {Service T : Type 0} (r : Result T Error) (m n : Token) (before now : LinkView Service) : Type 0
  where
    pub bytes : List ℕ
    pub made : sent_by (number_of n) (sight_by n).log ≡ sent_by (number_of m) (sight_by m).log ++ bytes
    pub shown : IfLogged (SentUnless r bytes) before.log now.log

-- The frames of the Takes that a seat made between two sights were received from a half.
pub record GotTakes {Service T : Type 0} (r : Result T Error) (m n : Token) (before now : LinkView Service) : Type 0
  where
    pub replies : List (ℕ × Reply)
    pub made : taken_by (number_of n) (sight_by n).log ≡ taken_by (number_of m) (sight_by m).log ++ replies
    pub shown : IfLogged (GotUnless r replies) before.log now.log

-- ---- Worked rows: seat 2 sent a request that seat 1 had submitted, and seat 3 took its reply

abbrev log : List Stamp
log =
    stamp 3 (entry.Event (Take 7 (reply.Content (1 ∷ []))))
    ∷ stamp 2 (entry.Event Send)
    ∷ stamp 1 (entry.Event (Submit (owner.Call 0 0) 7 request.LimitsQuery))
    ∷ []

pub sender_sent : sent_by 2 log ≡ frames_of ((7, request.LimitsQuery) ∷ [])
sender_sent = refl

pub all_sent : sent_bytes (entries log) ≡ frames_of ((7, request.LimitsQuery) ∷ [])
all_sent = append-nil (frames_of ((7, request.LimitsQuery) ∷ []))

pub reader_sent_none : sent_by 3 log ≡ []
reader_sent_none = refl

pub reader_took : taken_by 3 log ≡ (7, reply.Content (1 ∷ [])) ∷ []
reader_took = refl

pub all_taken : taken_replies (entries log) ≡ (7, reply.Content (1 ∷ [])) ∷ []
all_taken = refl

pub sender_took_none : taken_by 2 log ≡ []
sender_took_none = refl

-- No reply, no byte.
pub none_got : AreFramesOf [] []
none_got = refl
