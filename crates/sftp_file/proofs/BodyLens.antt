-- How long the bodies of requests are.
use Rattle.std.proofs.Common.{ℕ, ◌≡◌, ◌≤◌, ◌+◌, false, List, Option, Some, None, length, nat_lt, arith}
use Rattle.std.proofs.lemmas.Bool.Decides.{nat_tests}
use Rattle.sftp_model.specs.declared.file_attrs.FileAttrs.{FileAttrs}
use Rattle.sftp_model.specs.declared.flags.OpenFlags.{OpenFlags}
use Rattle.sftp_model.specs.declared.request.Request.{Request}
use Rattle.sftp_model.specs.declared.request.Request.TheVariants as request
use Rattle.sftp_model.specs.Frames.{bit, request_body, is_too_long}
use Rattle.plan_model.specs.FilePlans.{open_request}
use Rattle.sftp_wire.proofs.Lengths.{lengths}

short_by : (r : Request) (n : ℕ) → length (request_body r 0) ≡ n → n ≤ 1048575 → is_too_long r ≡ false
short_by r n e le = rw e (grind (arith, nat_tests))

-- ---- OPEN

-- a type byte, an id, the lengths of the path, the flags and the bits of the attributes are 17 bytes
open_len : (flags : OpenFlags) (path : List ℕ) (id : ℕ) → length (request_body (open_request flags path) id)
    ≡ length path + 17
unfolding request_body
open_len flags path id = simp lengths (omega arith)

pub long_by_path : (flags : OpenFlags) (path : List ℕ) → is_too_long (open_request flags path)
    ≡ nat_lt 1048558 (length path)
long_by_path flags path = rw (open_len flags path 0) (grind (arith, nat_tests))

-- ---- requests of a handle, which has at most 256 bytes

read_len : (handle : List ℕ) (offset len id : ℕ) → length (request_body (request.Read handle offset len) id)
    ≡ length handle + 21
unfolding request_body
read_len handle offset len id = simp lengths (omega arith)

pub read_is_short : (handle : List ℕ) (offset len : ℕ) → length handle ≤ 256
    → is_too_long (request.Read handle offset len) ≡ false
read_is_short handle offset len le = short_by (request.Read handle offset len) (length handle + 21)
    (read_len handle offset len 0) (omega arith)

write_len : (handle : List ℕ) (offset : ℕ) (content : List ℕ) (id : ℕ)
    → length (request_body (request.Write handle offset content) id) ≡ length handle + length content + 21
unfolding request_body
write_len handle offset content id = simp lengths (omega arith)

pub write_is_short : (handle : List ℕ) (offset : ℕ) (content : List ℕ) → length handle ≤ 256 → length content ≤ 1048275
    → is_too_long (request.Write handle offset content) ≡ false
write_is_short handle offset content le fits =
    short_by (request.Write handle offset content) (length handle + length content + 21)
    (write_len handle offset content 0) (omega arith)

fstat_len : (handle : List ℕ) (id : ℕ) → length (request_body (request.Fstat handle) id) ≡ length handle + 9
unfolding request_body
fstat_len handle id = simp lengths (omega arith)

pub fstat_is_short : (handle : List ℕ) → length handle ≤ 256 → is_too_long (request.Fstat handle) ≡ false
fstat_is_short handle le = short_by (request.Fstat handle) (length handle + 9) (fstat_len handle 0) (omega arith)

bit_most : {A : Type 0} (n : ℕ) (field : Option A) → bit n field ≤ n
bit_most n None = omega arith
bit_most n (Some x) = omega arith

fsetstat_len : (handle : List ℕ) (a : FileAttrs) (id : ℕ)
    → length (request_body (request.Fsetstat handle a) id) ≡ length handle + 13 + bit 8 a.size + bit 8 a.id + bit 4
    a.permissions + bit 8 a.time
unfolding request_body
fsetstat_len handle a id = simp lengths (omega arith)

pub fsetstat_is_short : (handle : List ℕ) (a : FileAttrs) → length handle ≤ 256
    → is_too_long (request.Fsetstat handle a) ≡ false
fsetstat_is_short handle a le =
    short_by (request.Fsetstat handle a) (length handle + 13 + bit 8 a.size + bit 8 a.id + bit 4 a.permissions + bit 8
    a.time)
    (fsetstat_len handle a 0) (omega (
      arith,
      bit_most 8 a.size,
      bit_most 8 a.id,
      bit_most 4 a.permissions,
      bit_most 8 a.time,
    ))

fsync_len : (handle : List ℕ) (id : ℕ) → length (request_body (request.Fsync handle) id) ≡ length handle + 30
unfolding request_body
fsync_len handle id = simp lengths (omega arith)

pub fsync_is_short : (handle : List ℕ) → length handle ≤ 256 → is_too_long (request.Fsync handle) ≡ false
fsync_is_short handle le = short_by (request.Fsync handle) (length handle + 30) (fsync_len handle 0) (omega arith)

copy_len : (from : List ℕ) (from_offset len : ℕ) (to : List ℕ) (to_offset id : ℕ)
    → length (request_body (request.CopyData from from_offset len to to_offset) id) ≡ length from + length to + 50
unfolding request_body
copy_len from from_offset len to to_offset id = simp lengths (omega arith)

pub copy_is_short : (from : List ℕ) (from_offset len : ℕ) (to : List ℕ) (to_offset : ℕ) → length from ≤ 256
    → length to ≤ 256
    → is_too_long (request.CopyData from from_offset len to to_offset) ≡ false
copy_is_short from from_offset len to to_offset le fits =
    short_by (request.CopyData from from_offset len to to_offset) (length from + length to + 50)
    (copy_len from from_offset len to to_offset 0) (omega arith)
