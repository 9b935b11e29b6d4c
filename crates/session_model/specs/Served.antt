-- believed
-- Journals that a server of files in memory serves: its replies are those of one sequential run of the file machine
-- over the requests in the order in which they were sent.
use Rattle.std.specs.Prelude.{
  ◌≡◌,
  ◌≤◌,
  ℕ,
  zero,
  suc,
  ◌+◌,
  ◌%◌,
  Bool,
  true,
  false,
  not,
  ◌&&◌,
  List,
  [],
  ◌∷◌,
  ◌++◌,
  length,
  drop,
  Option,
  Some,
  None,
  is_none,
  if◌then◌else◌,
  slice_get,
  slice_index_or,
  MatchBool,
}
use Rattle.ssh_encoding.specs.Writing.{uint32}
use Rattle.sftp_model.specs.declared.config.Choice.{Choice}
use Rattle.sftp_model.specs.declared.config.ServerConfig.{ServerConfig}
use Rattle.sftp_model.specs.declared.request.Request.{Request}
use Rattle.sftp_model.specs.declared.reply.Reply.{Reply}
use Rattle.sftp_model.specs.declared.reply.Reply.TheVariants as reply
use Rattle.sftp_model.specs.Numbers.{MAX_HANDLE_LEN}
use Rattle.machine_model.specs.FileTree.{FileTree, opened_at}
use Rattle.machine_model.specs.TreeAnswers.{apply, first_choice, limits_reply}
use Rattle.session_model.specs.declared.event.Owner.{Owner}
use Rattle.session_model.specs.declared.event.Owner.TheVariants as owner
use Rattle.session_model.specs.declared.event.Event.TheVariants.{Submit, Send, Take}
use Rattle.session_model.specs.declared.entry.Entry.{Entry}
use Rattle.session_model.specs.declared.entry.Entry.TheVariants as entry
use Rattle.session_model.specs.Readings.{
  AskedRequest,
  count_submitted,
  asked_at,
  bearer,
  answer,
  count_sent,
  count_below,
}
use Rattle.session_model.specs.Grants.{is_grant}

-- ---- Requests

-- A request with its place, unless it is the query for limits.
abbrev pub served_request : Owner → ℕ → Request → List (ℕ × Request)
served_request owner.Setup place r = []
served_request owner.Close place r = (place, r) ∷ []
served_request (owner.Call lane call) place r = (place, r) ∷ []

-- The requests except the query for limits, each with its place, the oldest first.
abbrev pub requests_of : List Entry → List (ℕ × Request)
requests_of [] = []
requests_of (entry.Event (Submit by id r) ∷ past) = requests_of past ++ served_request by (count_submitted past) r
requests_of (_ ∷ past) = requests_of past

-- Those of them that were sent.
abbrev pub requests_sent : List Entry → List (ℕ × Request)
requests_sent [] = []
requests_sent (entry.Event Send ∷ past) = requests_of past
requests_sent (_ ∷ past) = requests_sent past

-- ---- The machine's run

-- A handle that may be granted: a short one that is not open.
abbrev pub MayGrant : FileTree → List ℕ → Type 0
MayGrant tree handle = (length handle ≤ MAX_HANDLE_LEN) × (opened_at tree handle ≡ None)

-- A reply, if it was taken, is this one.
abbrev pub IsReply : Option Reply → Reply → Type 0
IsReply None r = Unit {0}
IsReply (Some taken) r = taken ≡ r

-- Under these choices, a file machine with this tree answers the requests one after another by the replies that were
-- taken, and is left with the tree `now`.
abbrev pub ServesAll : ServerConfig → List Entry → FileTree → List Choice → List (ℕ × Request) → FileTree → Type 0
ServesAll config past tree choices [] now = now ≡ tree
ServesAll config past tree choices (r ∷ requests) now =
    (handle : List ℕ)
    × (MayGrant tree handle
    × IsReply (answer past r.0) (apply tree config r.1 (first_choice choices) handle).0
    × ServesAll config past (apply tree config r.1 (first_choice choices) handle).1 (drop 1 choices) requests now)

-- ---- Limits

-- A reply, if its request belongs to the opening.
abbrev pub where_by_setup : Owner → Option Reply → Option Reply
where_by_setup owner.Setup r = r
where_by_setup owner.Close r = None
where_by_setup (owner.Call lane call) r = None

-- The reply to a request, if it is the query for limits.
abbrev pub reply_to_query : Option AskedRequest → Option Reply → Option Reply
reply_to_query None r = None
reply_to_query (Some a) r = where_by_setup a.by r

-- The reply to the query for limits, which can only be the first request, reports those of the server.
abbrev pub TellsLimits : ServerConfig → List Entry → Type 0
TellsLimits config past = IsReply (reply_to_query (asked_at past 0) (answer past 0)) (limits_reply config.limits)

-- A server with this configuration serves the journal under these choices, from one tree to another.
abbrev pub ServesJournal : ServerConfig → List Choice → FileTree → List Entry → FileTree → Type 0
ServesJournal config choices first past now = ServesAll config past first choices (requests_sent past) now
    × TellsLimits config past

-- ---- Order of replies

-- True if the request belongs to the opening.
abbrev pub is_setup : Owner → Bool
is_setup owner.Setup = true
is_setup owner.Close = false
is_setup (owner.Call lane call) = false

-- True for the query for limits.
abbrev pub is_query : Option AskedRequest → Bool
is_query None = false
is_query (Some a) = is_setup a.by

-- The numbers below n that pass, in their order.
abbrev pub those_below : (ℕ → Bool) → ℕ → List ℕ
those_below f zero = []
those_below f (suc n) = those_below f n ++ (if f n then n ∷ [] else [])

-- True if the request at this place is unanswered, and is not the query.
abbrev pub is_waiting : List Entry → ℕ → Bool
is_waiting past place = is_none (answer past place) && not (is_query (asked_at past place))

-- The places of the requests whose replies wait: those that were sent and are unanswered, except the query.
abbrev pub waiting_places : List Entry → List ℕ
waiting_places past = those_below (is_waiting past) (count_sent past)

-- True if the query is at this place.
abbrev pub bears_query : List Entry → Option ℕ → Bool
bears_query past None = false
bears_query past (Some place) = is_query (asked_at past place)

-- The number of replies that were taken, except the one to the query.
abbrev pub count_taken : List Entry → ℕ
count_taken [] = 0
count_taken (entry.Event (Take id r) ∷ past) = if bears_query past (bearer past id) then count_taken past else
    count_taken past + 1
count_taken (_ ∷ past) = count_taken past

-- The place of the reply that is given next: of k that wait, the pick modulo k selects one; after the last pick it is
-- the first.
abbrev pub picked_place : List ℕ → List Entry → Option ℕ
picked_place picks past = slice_get (waiting_places past) (slice_index_or picks (count_taken past) 0 % length
    (waiting_places past))

-- Each reply that was taken, except the one to the query, is the one that was picked.
abbrev pub IsPicked : List ℕ → List Entry → Type 0
IsPicked picks [] = Unit {0}
IsPicked picks (entry.Event (Take id r) ∷ past) =
    MatchBool (bears_query past (bearer past id)) (Unit {0}) (bearer past id ≡ picked_place picks past)
    × IsPicked picks past
IsPicked picks (_ ∷ past) = IsPicked picks past

-- The handles of a journal whose requests are all answered are numbers, counted by the grants.
abbrev pub IsNumbered : List Entry → Type 0
IsNumbered past = (place : ℕ) (handle : List ℕ) → answer past place ≡ Some (reply.Handle handle) → handle
    ≡ uint32 (count_below (is_grant past) place)
