-- The site that the end of a call leaves.
use Rattle.sftp_model.specs.declared.slot.Move.{Move}
use Rattle.sftp_model.specs.declared.slot.Move.TheVariants.{Done}
use Rattle.sftp_model.specs.declared.slot.Site.{Site}

-- If the move ends the call, the fact holds for the site that it leaves.
abbrev pub EndsLeaving : (Site → Type 0) → Move → Type 0
EndsLeaving P (Done ended after) = P after
EndsLeaving P other = Unit {0}
