-- believed, except by_opening, HandsOutHello, HandingHello, FindsHello, SendsHelloOrNot, SendsHelloOnce,
--   opening_asks_limits, opening_sends_nothing, opening_takes_nothing
-- The opening of the session by a seat, over both halves of the link: it sends the hello, and takes VERSION.
use Rattle.std.specs.Prelude.{
  ◌≡◌,
  ◌≢◌,
  ◌⊎◌,
  ℕ,
  Bool,
  true,
  false,
  List,
  [],
  Option,
  Some,
  None,
  Result,
  Ok,
  Err,
}
use Rattle.std.proofs.Common.{refl}
use Rattle.session_driver.specs.declared.session.Phase.TheVariants.{Fresh, Greeted}
use Rattle.link_frames.specs.Causes.{IsCausedByLink, SentBy}
use Rattle.link_frames.specs.Reading.{IsWhole, ReadFails}
use Rattle.session_model.specs.declared.entry.Entry.{Entry}
use Rattle.session_model.specs.declared.entry.Entry.TheVariants as entry
use Rattle.session_model.specs.declared.event.Event.TheVariants.{Submit, Send, Take}
use Rattle.session_model.specs.declared.event.Owner.TheVariants as owner
use Rattle.session_model.specs.Shown.{IsFrameOf, hello_frame}
use Rattle.session_seats.specs.Holds.{sight_by}
use Rattle.sftp_lanes.specs.Events.{FrameRead, HandsHello, TakesVersion}
use Rattle.sftp_lanes.specs.Seen.{SessionValue}
use Rattle.sftp_link.specs.Told.{GotAll, IfLogged}
use Rattle.sftp_link.specs.Views.{LinkView}
use Rattle.sftp_model.specs.declared.error.Error.{Error}
use Rattle.sftp_model.specs.declared.error.Error.TheVariants as error
use Rattle.sftp_model.specs.declared.error.Fault.TheVariants as fault
use Rattle.sftp_model.specs.declared.reply.Reply.{Reply}
use Rattle.sftp_model.specs.declared.reply.Reply.TheVariants as reply
use Rattle.sftp_model.specs.declared.request.Request.TheVariants as request
use Rattle.sftp_core.specs.Pieces.{chunk_bytes}
use Rattle.sftp_model.specs.ReplyReadings.{reply_at}
use Rattle.sftp_wire.specs.FrameReader.{Received, body_of}
use Rattle.sftp_tasks.specs.declared.frames.Handed.{Handed}
use Rattle.sftp_tasks.specs.declared.locked.Locked.{Locked}
use Rattle.sftp_tasks.specs.LockedEvents.{CountsFrame, HandsOutFrames, IsFrame, NotesWritten}
use Rattle.sftp_tasks.specs.Rounds.{HoldsOnce, RefusesRound, StopsByError, Token}
use Rattle.sftp_tasks.specs.Sent.{SeesVersion}
use Rattle.sftp_tasks.specs.SessionEvents.{IsKept, MayTakeCalls, RefusesCall, TakeStops}

-- The entries of an opening: the query for limits after VERSION, and the fault if the session was not opened.
abbrev pub by_opening : Option ℕ → Entry → Bool
by_opening lane (entry.Event (Submit owner.Setup id r)) = true
by_opening lane (entry.Kept fault) = true
by_opening lane e = false

-- ---- Events

-- The hello was handed out, and counted.
pub record HandsOutHello (y z : Locked) (handed : Handed) : Type 0 where
  pub fresh : y.session.phase ≡ Fresh
  pub hello : chunk_bytes handed.chunk ≡ hello_frame
  pub hands : HandsHello y.session z.session
  pub counts : HandsOutFrames y z handed.frames
  pub written : z.counts.written ≡ y.counts.written

-- The hello is handed out once.
abbrev pub HandingHello : Locked → Locked → Result (Option Handed) Error → Type 0
HandingHello y z (Ok None) = (y.session.phase ≢ Fresh) × (z ≡ y)
HandingHello y z (Ok (Some handed)) = HandsOutHello y z handed
HandingHello y z (Err e) = RefusesCall e y.session z.session × (z.counts.handed ≡ y.counts.handed)

-- The frame came while no VERSION is awaited.
pub record IsUnasked (e : Error) (old new : SessionValue) : Type 0 where
  pub unasked : old.phase ≢ Greeted
  pub is : e ≡ error.InvalidResponse None
  pub kept : IsKept (fault.Response None) old new

-- VERSION is taken and counted if it is awaited; another frame is refused, and not counted.
abbrev pub TakingVersion : FrameRead → Locked → Locked → Result (Unit {0}) Error → Type 0
TakingVersion read y z (Ok u) =
    ((asks : Bool) × TakesVersion read asks y.session z.session) × CountsFrame y z
    × (y.session.phase ≡ Greeted)
TakingVersion read y z (Err e) =
    (RefusesCall e y.session z.session
    ⊎ (TakeStops read e y.session z.session ⊎ IsUnasked e y.session z.session))
    × (z.counts.taken ≡ y.counts.taken)

abbrev pub TakingVersionFrame : Received → Locked → Locked → Result (Unit {0}) Error → Type 0
TakingVersionFrame received y z r =
    (body : List ℕ) → body_of received ≡ Some body → IsFrame received body × TakingVersion (reply_at body) y z r

-- ---- The hello

-- The hello was handed out in one hold, in which no fault was recorded, and sent. It was recorded as written in another
-- hold, which added nothing.
pub record SendsHello {Service : Type 0} (m n : Token) (before now : LinkView Service) : Type 0 where
  pub mid : Token
  pub frames : ℕ
  pub hands : HoldsOnce (λ y z more. HandsHello y.session z.session × HandsOutFrames y z frames × MayTakeCalls y.session)
      m mid
  pub sent : SentBy {T = Unit {0}} hello_frame before now (Ok tt)
  pub notes : HoldsOnce (λ y z more. (more ≡ []) × NotesWritten frames y z) mid n

-- The hello was handed out before.
abbrev pub FindsHello : Token → Token → Type 0
FindsHello m n = HoldsOnce (λ y z more. (y.session.phase ≢ Fresh) × (z ≡ y) × MayTakeCalls y.session) m n

abbrev pub SendsHelloOrNot : {Service : Type 0} → Bool → Token → Token → LinkView Service → LinkView Service → Type 0
SendsHelloOrNot true m n before now = SendsHello m n before now
SendsHelloOrNot false m n before now = FindsHello m n × (now ≡ before)

-- The hello could not be sent whole, and the session stops because of that.
pub record HelloUnsent {Service : Type 0} (e : Error) (m n : Token) (before now : LinkView Service) : Type 0 where
  pub mid : Token
  pub why : Error
  pub hands : HoldsOnce (λ y z more. HandsHello y.session z.session × MayTakeCalls y.session) m mid
  pub sent : SentBy {T = Unit {0}} hello_frame before now (Err why)
  pub stops : StopsByError why e mid n

abbrev pub HelloStops : {Service : Type 0} → Error → Token → Token → LinkView Service → LinkView Service → Type 0
HelloStops e m n before now = RefusesRound e m n before now ⊎ HelloUnsent e m n before now

-- ---- VERSION

-- One frame was received that reads as this VERSION. The session took and counted it in one hold, and the seat has seen
-- it.
pub record GetsVersion {Service : Type 0} (hello : Reply) (m n : Token) (before now : LinkView Service) : Type 0 where
  pub frame : Received
  pub got : IfLogged (GotAll frame.bytes) before.log now.log
  pub caused : IsCausedByLink {T = Received} before now (Ok frame)
  pub reads : IsFrameOf None hello frame.bytes
  pub takes : HoldsOnce
      (λ y z more. (((asks : Bool) × TakesVersion (Ok (None, hello)) asks y.session z.session) × CountsFrame y z)
      × MayTakeCalls y.session) m n
  pub sees : SeesVersion hello (sight_by n)

abbrev pub GetsSomeVersion : {Service : Type 0} → Token → Token → LinkView Service → LinkView Service → Type 0
GetsSomeVersion m n before now = (hello : Reply) × GetsVersion hello m n before now

-- No whole frame was received, and the session stops because of that.
pub record VersionUnread {Service : Type 0} (e : Error) (m n : Token) (before now : LinkView Service) : Type 0 where
  pub why : Error
  pub fails : IfLogged (ReadFails why) before.log now.log
  pub caused : IsCausedByLink {T = Received} before now (Err why)
  pub stops : StopsByError why e m n

-- A frame was received, and it was refused.
pub record VersionRefused {Service : Type 0} (e : Error) (m n : Token) (before now : LinkView Service) : Type 0 where
  pub frame : Received
  pub whole : IsWhole frame
  pub got : IfLogged (GotAll frame.bytes) before.log now.log
  pub refuses : HoldsOnce (λ y z more. TakingVersionFrame frame y z (Err e)) m n

-- The cases in which VERSION was not taken; or it was, and a receipt is missing.
abbrev pub VersionStops : {Service : Type 0} → Error → Token → Token → LinkView Service → LinkView Service → Type 0
VersionStops e m n before now =
    VersionUnread e m n before now
    ⊎ (VersionRefused e m n before now ⊎ ((e ≡ error.OutOfMemory) × GetsSomeVersion m n before now))

-- ---- Both

module _ {A B : Type 0} (m n : Token) (out out' : LinkView A) (input input' : LinkView B) where
  -- The seat sent the hello over the one half, and took VERSION from the other.
  pub record HasGreeted : Type 0 where
    pub hello : Reply
    pub mid : Token
    pub sends : SendsHello m mid out out'
    pub gets : GetsVersion hello mid n input input'

-- The seat did both; or the hello was handed out before, and nothing was sent or received.
abbrev pub SendsHelloOnce : {A B : Type 0} → Bool → Token → Token → LinkView A → LinkView A → LinkView B → LinkView B
    → Type 0
SendsHelloOnce true m n out out' input input' = HasGreeted m n out out' input input'
SendsHelloOnce false m n out out' input input' = FindsHello m n × (out' ≡ out) × (input' ≡ input)

-- The cases in which it did not do both: the hello was not sent, and nothing was received; or it was, and VERSION was
-- not taken.
abbrev pub GreetStops : {A B : Type 0} → Error → Token → Token → LinkView A → LinkView A → LinkView B → LinkView B
    → Type 0
GreetStops e m n out out' input input' =
    (HelloStops e m n out out' × (input' ≡ input))
    ⊎ ((mid : Token) × (SendsHello m mid out out' × VersionStops e mid n input input'))

-- ---- Worked rows

pub opening_asks_limits : by_opening None (entry.Event (Submit owner.Setup 0 request.LimitsQuery)) ≡ true
opening_asks_limits = refl

pub opening_sends_nothing : by_opening None (entry.Event Send) ≡ false
opening_sends_nothing = refl

pub opening_takes_nothing : by_opening None (entry.Event (Take 0 (reply.Version 3 (record { 0 = 0 })))) ≡ false
opening_takes_nothing = refl
