-- Runs of lanes that stop: over a link whose log was empty, and, only if an allocation fails, over a server in memory.
use Rattle.std.proofs.Common.{◌≡◌, ℕ, Bool, true, List, [], refl, ap, sym, subst}
use Rattle.std.specs.Prelude.{Some, Result, Ok, Err, IfOk, reverse}
use Rattle.ssh_encoding.specs.declared.out_of_memory.OutOfMemory.{OutOfMemory}
use Rattle.sftp_link.specs.Told.{IfLogged}
use Rattle.sftp_link.specs.declared.piece.Piece.{Piece}
use Rattle.sftp_model.specs.declared.error.Error.{Error}
use Rattle.sftp_model.specs.declared.error.Error.TheVariants as error
use Rattle.machine_model.specs.Changes.{IsWellFormed}
use Rattle.machine_model.proofs.FirstFiles.{first_well_formed}
use Rattle.plan_model.specs.Lanes.{are_ok}
use Rattle.session_model.specs.declared.turn.Turn.{Turn}
use Rattle.link_frames.specs.Causes.{CountsLinkFault, EndCause}
use Rattle.session_driver.specs.Logs.{EndsSession}
use Rattle.session_driver.specs.Session.{SessionInputs}
use Rattle.sftp_lanes.specs.Complete.{StopsForMemory}
use Rattle.sftp_map_server.specs.Serving.{IsServing, Server, Serving, server_view}
use Rattle.sftp_map_server.specs.Unopened.{IsUnopened}
use Rattle.machine_laws.proofs.Whole.{server_serves}
use Rattle.program_shell.specs.declared.ending.Answered.{Answered}
use Rattle.program_shell.specs.declared.ending.Answered.TheVariants.{Stopped}
use Rattle.program_shell.specs.declared.printed.Printed.{Printed}
use Rattle.program_shell.specs.Stopped.{IsStopped}
use Rattle.program_shell.specs.Texts.{IsErrorLine}

-- the log was empty
pub from_empty : {A : Type 0} (R : List A → List A → Type 0) (before now : List A) → before ≡ [] → R before now
    → R [] now
from_empty R before now none h = subst (λ b. R b now) none h

-- ---- over a link

-- a cause names no type of answer
cause_of : (A B : Type 0) (faults : ℕ) (e : Error) → CountsLinkFault {T = A} 0 faults (Err e)
    → CountsLinkFault {T = B} 0 faults (Err e)
cause_of A B faults error.LinkFault h = h
cause_of A B faults other h = h

end_of : (A B : Type 0) (ended : Bool) (e : Error) → EndCause {T = A} ended (Err e) → EndCause {T = B} ended (Err e)
end_of A B ended error.LinkEnded h = h
end_of A B ended other h = h

is_stopped : (T : Type 0) (given : SessionInputs) (turns : List Turn) (before log : List Piece) (first faults : ℕ)
    (ended : Bool) (e : Error) (text : List ℕ) → before ≡ [] → first ≡ 0
    → IfLogged (EndsSession given turns ended e) (Some (reverse before)) (Some log)
    → CountsLinkFault {T = T} first faults (Err e)
    → EndCause {T = T} ended (Err e) → IsErrorLine e text
    → IsStopped given turns (Some (record { log = log; faults = faults; ended = ended })) text
is_stopped T given turns before log first faults ended e text none zero stops cause end is = record {
  error = e;
  link = record { log = log; faults = faults; ended = ended };
  back = refl;
  cause = cause_of T (Unit {0}) faults e (subst (λ (n : ℕ). CountsLinkFault {T = T} n faults (Err e)) zero cause);
  end = end_of T (Unit {0}) ended e end;
  stops = from_empty (λ (b now : List Piece). EndsSession given turns ended e (reverse b) now) before log none stops;
  is = is;
}

-- the answer to it is right where the line of the error is
pub stopped_over : (T : Type 0) (right : Answered → List ℕ → Type 0) (given : SessionInputs) (turns : List Turn)
    (before log : List Piece) (first faults : ℕ) (ended : Bool) (e : Error) (r : Result Printed OutOfMemory)
    → before ≡ [] → first ≡ 0 → IfLogged (EndsSession given turns ended e) (Some (reverse before)) (Some log)
    → CountsLinkFault {T = T} first faults (Err e) → EndCause {T = T} ended (Err e)
    → IfOk r (λ reply. (reply.answered ≡ Stopped) × IsErrorLine e reply.text.items)
    → ((text : List ℕ) → IsStopped given turns (Some (record { log = log; faults = faults; ended = ended })) text
    → right Stopped text)
    → IfOk r (λ reply. right reply.answered reply.text.items)
stopped_over T right given turns before log first faults ended e (Err out) none zero stops cause end is f = tt
stopped_over T right given turns before log first faults ended e (Ok reply) none zero stops cause end is f =
    subst (λ (a : Answered). right a reply.text.items) (sym is.0) (f reply.text.items
    (is_stopped T given turns before log first faults ended e reply.text.items none zero stops cause end is.1))

-- ---- over a server in memory

-- the server's files and directories are a tree
pub begins_well : (first : Server) → IsUnopened first → IsWellFormed first.state.machine.tree
begins_well first u = subst (λ (x : Server). IsWellFormed x.state.machine.tree) (sym u.is)
    (first_well_formed u.files u.dirs u.may)

-- The error is that of an allocation.
pub only_for_memory : (given : SessionInputs) (old now : Serving) (e : Error) → are_ok given.lanes ≡ true
    → IsUnopened old.first → old.log ≡ [] → now.first ≡ old.first → IsServing now.first now.now now.log now.ended
    → StopsForMemory given (server_view old) (server_view now) e → e ≡ error.OutOfMemory
only_for_memory given old now e ok new none same serving stops =
    stops now.log (ap (λ (l : List Piece). Some l) none) refl
    (server_serves given now ok (subst IsUnopened (sym same) new) serving) refl

-- The end of a run over a new server that stopped because an allocation failed.
pub stops_new : (such : Error → List Piece → List Piece → Type 0)
    (before log : List Piece) (e : Error) → before ≡ [] → e ≡ error.OutOfMemory
    → IfLogged (such e) (Some before) (Some log) → such error.OutOfMemory [] log
stops_new such before log e none is stops =
    subst (λ (x : Error). such x [] log) is (from_empty (such e) before log none stops)
