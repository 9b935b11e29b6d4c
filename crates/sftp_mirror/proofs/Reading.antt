-- Too many bytes are no list.
use Rattle.std.proofs.Common.{refl}
use Rattle.program_shell.proofs.Reading.{RefusesLong}
use Rattle.sftp_mirror.specs.Lists.{list_of}

pub long_refused : RefusesLong list_of
long_refused bytes h = rw h refl
