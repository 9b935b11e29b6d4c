-- Conditions under which a run of lanes can be stopped.
use Rattle.std.specs.Prelude.{◌≡◌, List, [], Some}
use Rattle.sftp_model.specs.declared.error.Error.{Error}
use Rattle.sftp_model.specs.declared.error.Error.TheVariants as error
use Rattle.sftp_link.specs.declared.piece.Piece.{Piece}
use Rattle.sftp_link.specs.Views.{LinkView}
use Rattle.session_driver.specs.Session.{SessionInputs}
use Rattle.session_driver.specs.ServingLinks.{ServesLanes}

-- Over a new link that served these lanes and had no fault, a run is stopped only if an allocation fails.
abbrev pub StopsForMemory : {Service : Type 0} → SessionInputs → LinkView Service → LinkView Service → Error → Type 0
StopsForMemory given before now e =
    (log : List Piece) → before.log ≡ Some [] → now.log ≡ Some log → ServesLanes given log now.ended
    → now.faults ≡ before.faults → e ≡ error.OutOfMemory
