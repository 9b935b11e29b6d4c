-- Which requests of paths fit a frame where an OPEN does.
use Rattle.std.proofs.Common.{◌≡◌, ◌≤◌, ◌+◌, ℕ, false, List, ◌++◌, length, arith}
use Rattle.std.proofs.lemmas.Bool.Decides.{nat_tests}
use Rattle.std.proofs.lemmas.List.{length-append}
use Rattle.ssh_encoding.specs.Writing.{string, uint32}
use Rattle.sftp_model.specs.Frames.{attributes, no_attributes, request_body, is_too_long}
use Rattle.sftp_model.specs.Numbers.{MAX_BODY_LEN}
use Rattle.sftp_model.specs.declared.flags.OpenFlags.{OpenFlags}
use Rattle.sftp_wire.proofs.Lengths.{length-attributes, length-string, length-uint32}
use Rattle.plan_model.specs.FilePlans.{open_request}
use Rattle.run_ending_laws.specs.FirstMkdirs.{mkdir_of}

open_length : (flags : OpenFlags) (path : List ℕ) → length (request_body (open_request flags path) 0) ≡ 17 + length path
unfolding request_body
open_length flags path =
    let a : length (string path ++ uint32 flags.0 ++ attributes no_attributes)
    ≡ length (string path ++ uint32 flags.0) + length (attributes no_attributes) =
    length-append (string path ++ uint32 flags.0) (attributes no_attributes) in
    let b : length (string path ++ uint32 flags.0) ≡ length (string path) + length (uint32 flags.0) =
    length-append (string path) (uint32 flags.0) in
    let c : length (string path) ≡ 4 + length path = length-string path in
    let d : length (uint32 flags.0) ≡ 4 = length-uint32 flags.0 in
    let e : length (attributes no_attributes) ≡ 4 = length-attributes no_attributes in
    let f : length (uint32 0 ++ (string path ++ uint32 flags.0 ++ attributes no_attributes))
    ≡ length (uint32 0) + length (string path ++ uint32 flags.0 ++ attributes no_attributes) =
    length-append (uint32 0) (string path ++ uint32 flags.0 ++ attributes no_attributes) in
    let g : length (uint32 0) ≡ 4 = length-uint32 0 in
    omega (arith, a, b, c, d, e, f, g)

mkdir_length : (path : List ℕ) → length (request_body (mkdir_of path) 0) ≡ 13 + length path
unfolding request_body
mkdir_length path =
    let a : length (string path ++ attributes no_attributes) ≡ length (string path) + length (attributes no_attributes)
    = length-append (string path) (attributes no_attributes) in
    let c : length (string path) ≡ 4 + length path = length-string path in
    let e : length (attributes no_attributes) ≡ 4 = length-attributes no_attributes in
    let f : length (uint32 0 ++ (string path ++ attributes no_attributes))
    ≡ length (uint32 0) + length (string path ++ attributes no_attributes) =
    length-append (uint32 0) (string path ++ attributes no_attributes) in
    let g : length (uint32 0) ≡ 4 = length-uint32 0 in
    omega (arith, a, c, e, f, g)

-- by whatever flags
pub opens_fit : (flags other : OpenFlags) (path : List ℕ) → is_too_long (open_request flags path) ≡ false
    → is_too_long (open_request other path) ≡ false
opens_fit flags other path e =
    let a = open_length flags path in
    let b = open_length other path in
    let le : length (request_body (open_request flags path) 0) ≤ MAX_BODY_LEN = grind (arith, nat_tests) in
    let less : length (request_body (open_request other path) 0) ≤ MAX_BODY_LEN = omega (arith, a, b, le) in
    grind (arith, nat_tests)

-- and the MKDIR of a path that is no longer
pub mkdir_fits : (flags : OpenFlags) (path other : List ℕ) → length other ≤ length path
    → is_too_long (open_request flags path) ≡ false → is_too_long (mkdir_of other) ≡ false
mkdir_fits flags path other shorter e =
    let a = open_length flags path in
    let b = mkdir_length other in
    let le : length (request_body (open_request flags path) 0) ≤ MAX_BODY_LEN = grind (arith, nat_tests) in
    let less : length (request_body (mkdir_of other) 0) ≤ MAX_BODY_LEN = omega (arith, a, b, le, shorter) in
    grind (arith, nat_tests)
