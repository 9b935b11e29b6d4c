-- The bytes that a store holds.
use Rattle.std.specs.Prelude.{List, ℕ}
use Rattle.sftp_values.specs.declared.byte_text.Store.{Store}
use Rattle.sftp_values.specs.declared.byte_text.Store.TheVariants as store

abbrev pub bytes_in : Store → List ℕ
bytes_in (store.Owned bytes) = bytes.items
bytes_in (store.Shared bytes) = bytes
