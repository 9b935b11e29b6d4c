-- believed, except MayServe
-- The log of a link on which a stream is served, with its newest piece first.
use Rattle.std.specs.Prelude.{◌≡◌, ◌≢◌, ◌⊎◌, ◌<◌, ℕ, ◌-◌, ◌^◌, Bool, true, List, [], ◌∷◌, ◌++◌}
use Rattle.sftp_link.specs.declared.piece.Piece.{Piece}
use Rattle.sftp_link.specs.declared.piece.Piece.TheVariants.{Sent, Got}
use Rattle.sftp_link.specs.Dialled.{IsEmptyLog}
use Rattle.sftp_link.specs.Told.{IfLogged}
use Rattle.sftp_link.specs.Views.{LinkView}
use Rattle.sftp_serve.specs.Stream.{IsBroken, IsUnfinished, IsAnswered, IsStream, ServedState}

-- The bytes that came.
abbrev pub got_bytes : List Piece → List ℕ
got_bytes [] = []
got_bytes (Got bytes ∷ before) = got_bytes before ++ bytes
got_bytes (Sent bytes ∷ before) = got_bytes before

-- The bytes that were sent.
abbrev pub sent_bytes : List Piece → List ℕ
sent_bytes [] = []
sent_bytes (Sent bytes ∷ before) = sent_bytes before ++ bytes
sent_bytes (Got bytes ∷ before) = sent_bytes before

-- All frames that came whole are answered, and no further byte was sent.
pub record AllAnswered (first : ServedState) (log : List Piece) : Type 0 where
  pub count : ℕ
  pub left : ServedState
  pub rest : List ℕ
  pub served : IsAnswered first (got_bytes log) count (sent_bytes log) left rest
  pub part : IsUnfinished rest

-- Before each piece that came, all frames that were whole then are answered.
abbrev pub InOrder : ServedState → List Piece → Type 0
InOrder first [] = Unit {0}
InOrder first (Got bytes ∷ before) = AllAnswered first before × InOrder first before
InOrder first (Sent bytes ∷ before) = InOrder first before

-- The bytes that were sent are a prefix of the answers to the frames that came.
pub record IsPrefix (first : ServedState) (log : List Piece) : Type 0 where
  pub count : ℕ
  pub more : List ℕ
  pub left : ServedState
  pub rest : List ℕ
  pub served : IsAnswered first (got_bytes log) count (sent_bytes log ++ more) left rest

-- The greatest number of frames that one call serves.
abbrev pub MAX_FRAMES : ℕ
MAX_FRAMES = 2 ^ 64 - 1

-- The bytes that came and were sent, by the status: 0 if the stream ended after a frame, 1 if it broke, and 7 if it had
-- the most frames that are served.
pub record EndsStream (first : ServedState) (status : ℕ) (ended : Bool) (log : List Piece) : Type 0 where
  pub order : InOrder first log
  pub prefix : IsPrefix first log
  pub whole : status ≡ 0 → (ended ≡ true) × ((count : ℕ) × IsStream first (got_bytes log) count (sent_bytes log))
  pub broken : status ≡ 1 → IsBroken first ended (got_bytes log) (sent_bytes log)
  pub full : status ≡ 7 → IsStream first (got_bytes log) MAX_FRAMES (sent_bytes log)

-- The converse, for all bytes that were sent. Unless an allocation failed, a stream that broke ends with 1. If the link
-- did not fail either, a whole stream ends with 0 or 7, and one of the most frames with 7.
pub record EndsExactly (first : ServedState) (status : ℕ) (faultless : Type 0) (ended : Bool) (log : List Piece) : Type
    0 where
  pub broken : (answers : List ℕ) → IsBroken first ended (got_bytes log) answers → (status ≡ 1) ⊎ (status ≡ 5)
  pub full : faultless → (answers : List ℕ) → IsStream first (got_bytes log) MAX_FRAMES answers → (status ≡ 7)
      ⊎ (status ≡ 5)
  pub complete : faultless → (count : ℕ) (answers : List ℕ) → IsStream first (got_bytes log) count answers
      → (status ≡ 0) ⊎ (status ≡ 5) ⊎ (status ≡ 7)

-- ---- One call over a link

-- The requirements of a call on its link: it can count another fault, and nothing was moved over it, if it records
-- that.
pub record MayServe {Service : Type 0} (link : LinkView Service) : Type 0 where
  pub faults : link.faults < 2 ^ 64 - 1
  pub unused : IsEmptyLog link.log

-- The facts about a call, by its status. With 0 the stream's end was met, with 3 the link failed, and with any other
-- it did not; these three also hold for links that record no log.
pub record ServesStream {Service : Type 0} (first : ServedState) (status : ℕ) (before now : LinkView Service) :
    Type 0 where
  pub ends : IfLogged (λ old new. EndsStream first status now.ended new) before.log now.log
  pub exactly : IfLogged (λ old new. EndsExactly first status (now.faults ≡ before.faults) now.ended new)
      before.log now.log
  pub ended : status ≡ 0 → now.ended ≡ true
  pub fault : status ≡ 3 → before.faults < now.faults
  pub unfailed : status ≢ 3 → now.faults ≡ before.faults
