-- Worked arguments after the operands of a command that names a server.
use Rattle.std.specs.Prelude.{◌≡◌, [], ◌∷◌, codes, Some, None, refl}
use Rattle.program_shell.specs.Servers.{nanos_in, server_at}

pub no_timeout : server_at (codes "s") [] ≡ Some (codes "s", 60)
no_timeout = refl

pub a_timeout : server_at (codes "s") (codes "--timeout" ∷ codes "86400" ∷ []) ≡ Some (codes "s", 86400)
a_timeout = refl

pub no_limit : server_at (codes "s") (codes "--timeout" ∷ codes "0" ∷ []) ≡ Some (codes "s", 0)
no_limit = refl

pub a_timeout_that_is_too_long : server_at (codes "s") (codes "--timeout" ∷ codes "86401" ∷ []) ≡ None
a_timeout_that_is_too_long = refl

pub a_timeout_without_its_number : server_at (codes "s") (codes "--timeout" ∷ []) ≡ None
a_timeout_without_its_number = refl

pub another_argument : server_at (codes "s") (codes "x" ∷ []) ≡ None
another_argument = refl

pub a_minute : nanos_in 60 ≡ Some 60000000000
a_minute = refl

pub no_seconds : nanos_in 0 ≡ None
no_seconds = refl
