-- believed: lanes_below, named_in_order
-- Seats of a run.
use Rattle.std.specs.Prelude.{◌≡◌, ℕ, zero, suc, List, ◌∷◌, ◌++◌, [], length, map, Option, None, Some}
use Rattle.atomic_table.specs.Seated.{TableId}
use Rattle.session_seats.specs.declared.rule.Held.{Ghosts}
use Rattle.session_seats.specs.declared.seat.Seat.{Seat}
use Rattle.session_seats.specs.Closes.{claim_by, claims_of}
use Rattle.session_seats.specs.Covers.{HomeGave}
use Rattle.sftp_model.specs.declared.reply.Reply.{Reply}
use Rattle.sftp_tasks.specs.declared.locked.Locked.{Locked}
use Rattle.sftp_tasks.specs.Reported.{lane_named}
use Rattle.session_threads.specs.declared.crew.Crew.{Crew}
use Rattle.session_threads.specs.Running.{AllMadeNothing, AllReady, IsReady, IsWorker, MovedNothing}

-- The names of the first n lanes, in their order.
abbrev pub lanes_below : ℕ → List (Option ℕ)
lanes_below zero = []
lanes_below (suc n) = lanes_below n ++ Some n ∷ []

-- The names of the seats of a run: the seats of the lanes come first, and then the home seat and those of the two
-- workers, which name none.
abbrev pub named_in_order : ℕ → List (Option ℕ)
named_in_order n = lanes_below n ++ None ∷ None ∷ None ∷ []

-- The home seat of an opened session, which gave no other: it is ready, and made no entry except those of the opening.
pub record IsHome {G : Ghosts Locked} (z : TableId) (s : Seat Locked G) : Type 0 where
  pub ready : IsReady z s
  pub gave : HomeGave (claim_by s) []
  pub lane : s.lane ≡ None
  pub moved : MovedNothing s

-- The seats belong to the table, those of the lanes and the home seat have a share, and the home seat gave all others.
-- Each lane has its seat, in their order. The workers have seen VERSION, and nothing was sent or taken except in the
-- opening.
pub record IsCrew (hello : Reply) (z : TableId) (c : Crew) : Type 0 where
  pub home : IsReady z c.home
  pub moved : MovedNothing c.home
  pub lanes : AllReady z c.lanes.items
  pub made : AllMadeNothing c.lanes.items
  pub sender : IsWorker hello z c.sender
  pub reader : IsWorker hello z c.reader
  pub named : map lane_named (c.lanes.items ++ c.home ∷ c.sender ∷ c.reader ∷ [])
      ≡ named_in_order (length (claim_by c.home).sight.lanes)
  pub gave : HomeGave (claim_by c.home) (claims_of ((c.lanes.items ++ c.sender ∷ []) ++ c.reader ∷ []))
