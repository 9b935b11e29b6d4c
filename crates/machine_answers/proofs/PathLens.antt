-- How long a NAME with one path is.
use Rattle.std.proofs.Common.{◌≡◌, ◌+◌, ◌<◌, ◌≤◌, true, false, List, ℕ, [], ◌∷◌, ◌++◌, length, refl, arith}
use Rattle.std.specs.Prelude.{nat_lt}
use Rattle.std.proofs.lemmas.Bool.{lt-ltb, le-ltb}
use Rattle.std.proofs.lemmas.List.{length-append}
use Rattle.ssh_encoding.specs.Writing.{uint32, string}
use Rattle.sftp_model.specs.Numbers.{MAX_BODY_LEN}
use Rattle.sftp_model.specs.Frames.{no_attributes, attributes, reply_body}
use Rattle.machine_model.specs.Components.{Name, text_of_name}
use Rattle.machine_model.specs.NameRequests.{path_reply}

len_path : (name : Name) → length (reply_body (path_reply name) 0) ≡ 22 + length (text_of_name name)
unfolding reply_body attributes uint32 string
len_path name =
    let none : List ℕ = string [] in
    let bare : List ℕ = attributes no_attributes in
    let l1 = length-append (text_of_name name) none in
    let l2 = length-append (text_of_name name ++ none) bare in
    let l3 = length-append (text_of_name name ++ none ++ bare) [] in
    let n : length none ≡ 4 = refl in
    let b : length bare ≡ 4 = refl in
    omega (arith, l1, l2, l3, n, b)

pub path_over : (name : Name) → 1048554 < length (47 ∷ text_of_name name)
    → nat_lt MAX_BODY_LEN (length (reply_body (path_reply name) 0)) ≡ true
path_over name h = let l = len_path name in lt-ltb MAX_BODY_LEN (length (reply_body (path_reply name) 0))
    (omega (arith, l, h))

pub path_within : (name : Name) → length (47 ∷ text_of_name name) ≤ 1048554
    → nat_lt MAX_BODY_LEN (length (reply_body (path_reply name) 0)) ≡ false
path_within name h = let l = len_path name in le-ltb MAX_BODY_LEN (length (reply_body (path_reply name) 0))
    (omega (arith, l, h))
