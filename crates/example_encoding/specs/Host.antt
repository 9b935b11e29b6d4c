-- A host: a name and a port, as RFC 4251 spells them.
use Rattle.std.specs.Prelude.{ℕ, List, []}
use Rattle.std.specs.Int.{w32}
use Rattle.ssh_encoding.specs.Spelling.{BeginsWithText, IsText, IsNumber}

-- The bytes begin with the name, the port follows it, and no bytes follow the port.
pub record IsHost (name : List ℕ) (port : ℕ) (bytes : List ℕ) : Type 0 where
  pub middle : List ℕ
  pub named : BeginsWithText (IsText name) bytes middle
  pub numbered : BeginsWithText (IsNumber w32 port) middle []
