-- How long the bodies of requests of a directory are.
use Rattle.std.proofs.Common.{ℕ, ◌≡◌, ◌≤◌, ◌+◌, false, List, length, arith}
use Rattle.std.proofs.lemmas.Bool.Decides.{nat_tests}
use Rattle.sftp_model.specs.declared.request.Request.TheVariants as request
use Rattle.sftp_model.specs.Frames.{request_body, is_too_long}
use Rattle.sftp_wire.proofs.Lengths.{lengths}

readdir_len : (handle : List ℕ) (id : ℕ) → length (request_body (request.Readdir handle) id) ≡ length handle + 9
unfolding request_body
readdir_len handle id = simp lengths (omega arith)

pub readdir_is_short : (handle : List ℕ) → length handle ≤ 256 → is_too_long (request.Readdir handle) ≡ false
readdir_is_short handle le = rw (readdir_len handle 0) (grind (arith, nat_tests))
