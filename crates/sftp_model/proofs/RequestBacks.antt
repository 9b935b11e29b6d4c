-- Requests that were written are read back.
use Rattle.std.proofs.Common.{ℕ, ◌≡◌, false, List, [], ◌∷◌, ◌++◌, length, Option, Some, Result, Ok, refl, append_assoc, arith, ltb, lit≤}
use Rattle.std.proofs.lemmas.Bool.{le-ltb}
use Rattle.ssh_encoding.specs.Reading.{byte_at}
use Rattle.ssh_encoding.specs.Writing.{uint32, uint64, string}
use Rattle.sftp_model.specs.declared.file_attrs.FileAttrs.{FileAttrs}
use Rattle.sftp_model.specs.declared.frame_error.FrameError.{FrameError}
use Rattle.sftp_model.specs.declared.flags.OpenFlags.{OpenFlags}
use Rattle.sftp_model.specs.declared.request.Request.{Request}
use Rattle.sftp_model.specs.declared.request.Request.TheVariants as request
use Rattle.sftp_model.specs.Fits.{FitsNumber, FitsText, FitsHandle, FitsAttributes, FitsRequest, RequestReadsBack}
use Rattle.sftp_model.specs.Frames.{
  of_type,
  attributes,
  request_body,
  posix_rename_name,
  hardlink_name,
  fsync_name,
  expand_path_name,
  copy_data_name,
  limits_name,
}
use Rattle.sftp_model.specs.Readings.{with_id, with_short_handles, uint32_at}
use Rattle.sftp_model.specs.RequestReadings.{
  init_at,
  open_at,
  read_at,
  write_at,
  one_text_at,
  two_texts_at,
  text_and_attributes_at,
  copy_data_at,
  extension_fields_at,
  extended_request_at,
  request_fields_at,
  handles_of_request,
  request_at,
}
use Rattle.sftp_model.proofs.FieldBacks.{ReadsBack, whole_back, number_back, long_back, text_back, attributes_back}

-- the fields of a request after its type byte and id
with_id_back : (fields : List ℕ → Result (Request × List ℕ) FrameError) (kind id : ℕ) (text : List ℕ) (r : Request)
    → FitsNumber id
    → ((bytes : List ℕ) → request_fields_at kind bytes ≡ with_id fields bytes) → ReadsBack fields text r
    → with_short_handles (handles_of_request r) (let read : Option ℕ × Request = (Some id, r) in read) ≡ Ok (Some id, r)
    → request_at (of_type kind id text) ≡ Ok (Some id, r)
unfolding request_at byte_at
with_id_back fields kind id text r h is read short = rw (
  is (uint32 id ++ text),
  (number_back id h).back text,
  whole_back fields text r read,
) short

-- after the name of an extension
extended_back : (name : List ℕ) (fields : List ℕ → Result (Request × List ℕ) FrameError) (text : List ℕ) (r : Request)
    → FitsText name
    → ((bytes : List ℕ) → extension_fields_at name bytes ≡ fields bytes) → ReadsBack fields text r
    → ReadsBack extended_request_at (string name ++ text) r
unfolding extended_request_at
extended_back name fields text r h is read = record {
  back = λ rest.
      rw (
        append_assoc (string name) text rest,
        (text_back name h).back (text ++ rest),
        is (text ++ rest),
        read.back rest,
      ) refl;
}

one_back : (made : List ℕ → Request) (text : List ℕ) → FitsText text
    → ReadsBack (one_text_at made) (string text) (made text)
unfolding one_text_at
one_back made text h = record { back = λ rest. rw ((text_back text h).back rest) refl }

two_back : (made : List ℕ → List ℕ → Request) (first second : List ℕ) → FitsText first → FitsText second
    → ReadsBack (two_texts_at made) (string first ++ string second) (made first second)
unfolding two_texts_at
two_back made first second h k = record {
  back = λ rest.
      rw (
        append_assoc (string first) (string second) rest,
        (text_back first h).back (string second ++ rest),
        (text_back second k).back rest,
      ) refl;
}

attributed_back : (made : List ℕ → FileAttrs → Request) (text : List ℕ) (attrs : FileAttrs) → FitsText text
    → FitsAttributes attrs → ReadsBack (text_and_attributes_at made) (string text ++ attributes attrs) (made text attrs)
unfolding text_and_attributes_at
attributed_back made text attrs h k = record {
  back = λ rest.
      rw (
        append_assoc (string text) (attributes attrs) rest,
        (text_back text h).back (attributes attrs ++ rest),
        (attributes_back attrs k).back rest,
      ) refl;
}

-- a handle is short for a text
handle_text : (handle : List ℕ) → FitsHandle handle → FitsText handle
handle_text handle h = omega arith

open_back : (path : List ℕ) (flags : OpenFlags) (attrs : FileAttrs) → FitsRequest (request.OpenFile path flags attrs)
    → ReadsBack open_at (string path ++ uint32 flags.0 ++ attributes attrs) (request.OpenFile path flags attrs)
unfolding open_at
open_back path flags attrs h = record {
  back = λ rest.
      simp append_assoc (rw (
        (text_back path h.0).back (uint32 flags.0 ++ (attributes attrs ++ rest)),
        (number_back flags.0 (let known = h.1 in omega arith)).back (attributes attrs ++ rest),
        (attributes_back attrs h.2).back rest,
      ) refl);
}

read_back : (handle : List ℕ) (offset len : ℕ) → FitsRequest (request.Read handle offset len)
    → ReadsBack read_at (string handle ++ uint64 offset ++ uint32 len) (request.Read handle offset len)
unfolding read_at
read_back handle offset len h = record {
  back = λ rest.
      simp append_assoc (rw (
        (text_back handle (handle_text handle h.0)).back (uint64 offset ++ (uint32 len ++ rest)),
        (long_back offset h.1).back (uint32 len ++ rest),
        (number_back len h.2).back rest,
      ) refl);
}

write_back : (handle : List ℕ) (offset : ℕ) (content : List ℕ) → FitsRequest (request.Write handle offset content)
    → ReadsBack write_at (string handle ++ uint64 offset ++ string content) (request.Write handle offset content)
unfolding write_at
write_back handle offset content h = record {
  back = λ rest.
      simp append_assoc (rw (
        (text_back handle (handle_text handle h.0)).back
            (uint64 offset ++ (string content ++ rest)),
        (long_back offset h.1).back (string content ++ rest),
        (text_back content h.2).back rest,
      ) refl);
}

copy_back : (from : List ℕ) (from_offset len : ℕ) (to : List ℕ) (to_offset : ℕ)
    → FitsRequest (request.CopyData from from_offset len to to_offset)
    → ReadsBack copy_data_at (string from ++ uint64 from_offset ++ uint64 len ++ string to ++ uint64 to_offset)
    (request.CopyData from from_offset len to to_offset)
unfolding copy_data_at
copy_back from from_offset len to to_offset h = record {
  back = λ rest.
      let last : List ℕ = uint64 to_offset ++ rest in
      let third : List ℕ = string to ++ last in
      let second : List ℕ = uint64 len ++ third in
      let first : List ℕ = uint64 from_offset ++ second in
      simp append_assoc (rw (
        (text_back from (handle_text from h.0)).back first,
        (long_back from_offset h.1).back second,
        (long_back len h.2).back third,
        (text_back to (handle_text to h.3)).back last,
        (long_back to_offset h.4).back rest,
      ) refl);
}

limits_back : ReadsBack (λ bytes. Ok (request.LimitsQuery, bytes)) [] request.LimitsQuery
limits_back = record { back = λ rest. refl }

-- a handle of at most 256 bytes is not refused
one_short : {A : Type 0} (handle : List ℕ) (x : A) → FitsHandle handle → with_short_handles (handle ∷ []) x ≡ Ok x
one_short handle x h = let e : ltb 256 (length handle) ≡ false = le-ltb _ _ h in rw e refl

two_short : {A : Type 0} (first second : List ℕ) (x : A) → FitsHandle first → FitsHandle second
    → with_short_handles (first ∷ second ∷ []) x ≡ Ok x
two_short first second x h k =
    let e : ltb 256 (length first) ≡ false = le-ltb _ _ h in
    let d : ltb 256 (length second) ≡ false = le-ltb _ _ k in
    rw (e, d) refl

init_back : (version id : ℕ) → FitsNumber version → RequestReadsBack (request.Init version) id
unfolding request_at request_body byte_at request_fields_at init_at
init_back version id h = rw (whole_back uint32_at (uint32 version) version (number_back version h)) refl

pub request_back : (r : Request) (id : ℕ) → FitsRequest r → FitsNumber id → RequestReadsBack r id
unfolding request_body request_fields_at extension_fields_at
request_back (request.Init version) id h k = init_back version id h
request_back (request.OpenFile path flags attrs) id h k = with_id_back open_at 3 id _ _ k (λ bytes. refl)
    (open_back path flags attrs h) refl
request_back (request.Close handle) id h k = with_id_back (one_text_at request.Close) 4 id _ _ k (λ bytes. refl)
    (one_back request.Close handle (handle_text handle h)) (one_short handle _ h)
request_back (request.Read handle offset len) id h k = with_id_back read_at 5 id _ _ k (λ bytes. refl)
    (read_back handle offset len h) (one_short handle _ h.0)
request_back (request.Write handle offset content) id h k = with_id_back write_at 6 id _ _ k (λ bytes. refl)
    (write_back handle offset content h) (one_short handle _ h.0)
request_back (request.Lstat path) id h k = with_id_back (one_text_at request.Lstat) 7 id _ _ k (λ bytes. refl)
    (one_back request.Lstat path h) refl
request_back (request.Fstat handle) id h k = with_id_back (one_text_at request.Fstat) 8 id _ _ k (λ bytes. refl)
    (one_back request.Fstat handle (handle_text handle h)) (one_short handle _ h)
request_back (request.Setstat path attrs) id h k = with_id_back (text_and_attributes_at request.Setstat) 9 id _ _ k
    (λ bytes. refl) (attributed_back request.Setstat path attrs h.0 h.1) refl
request_back (request.Fsetstat handle attrs) id h k = with_id_back (text_and_attributes_at request.Fsetstat) 10 id _ _ k
    (λ bytes. refl) (attributed_back request.Fsetstat handle attrs (handle_text handle h.0) h.1)
    (one_short handle _ h.0)
request_back (request.Opendir path) id h k = with_id_back (one_text_at request.Opendir) 11 id _ _ k (λ bytes. refl)
    (one_back request.Opendir path h) refl
request_back (request.Readdir handle) id h k = with_id_back (one_text_at request.Readdir) 12 id _ _ k (λ bytes. refl)
    (one_back request.Readdir handle (handle_text handle h)) (one_short handle _ h)
request_back (request.Remove path) id h k = with_id_back (one_text_at request.Remove) 13 id _ _ k (λ bytes. refl)
    (one_back request.Remove path h) refl
request_back (request.Mkdir path attrs) id h k = with_id_back (text_and_attributes_at request.Mkdir) 14 id _ _ k
    (λ bytes. refl) (attributed_back request.Mkdir path attrs h.0 h.1) refl
request_back (request.Rmdir path) id h k = with_id_back (one_text_at request.Rmdir) 15 id _ _ k (λ bytes. refl)
    (one_back request.Rmdir path h) refl
request_back (request.Realpath path) id h k = with_id_back (one_text_at request.Realpath) 16 id _ _ k (λ bytes. refl)
    (one_back request.Realpath path h) refl
request_back (request.Stat path) id h k = with_id_back (one_text_at request.Stat) 17 id _ _ k (λ bytes. refl)
    (one_back request.Stat path h) refl
request_back (request.Rename old to) id h k = with_id_back (two_texts_at request.Rename) 18 id _ _ k (λ bytes. refl)
    (two_back request.Rename old to h.0 h.1) refl
request_back (request.Readlink path) id h k = with_id_back (one_text_at request.Readlink) 19 id _ _ k (λ bytes. refl)
    (one_back request.Readlink path h) refl
request_back (request.Symlink src dst) id h k = with_id_back (two_texts_at request.Symlink) 20 id _ _ k (λ bytes. refl)
    (two_back request.Symlink src dst h.0 h.1) refl
request_back (request.PosixRename old to) id h k =
    with_id_back extended_request_at 200 id _ _ k (λ bytes. refl)
    (extended_back posix_rename_name (two_texts_at request.PosixRename) _ _ (lit≤ tt) (λ bytes. refl)
    (two_back request.PosixRename old to h.0 h.1)) refl
request_back (request.Hardlink old to) id h k =
    with_id_back extended_request_at 200 id _ _ k (λ bytes. refl)
    (extended_back hardlink_name (two_texts_at request.Hardlink) _ _ (lit≤ tt) (λ bytes. refl)
    (two_back request.Hardlink old to h.0 h.1)) refl
request_back (request.Fsync handle) id h k =
    with_id_back extended_request_at 200 id _ _ k (λ bytes. refl)
    (extended_back fsync_name (one_text_at request.Fsync) _ _ (lit≤ tt) (λ bytes. refl)
    (one_back request.Fsync handle (handle_text handle h))) (one_short handle _ h)
request_back (request.ExpandPath path) id h k =
    with_id_back extended_request_at 200 id _ _ k (λ bytes. refl)
    (extended_back expand_path_name (one_text_at request.ExpandPath) _ _ (lit≤ tt) (λ bytes. refl)
    (one_back request.ExpandPath path h)) refl
request_back (request.CopyData from from_offset len to to_offset) id h k =
    with_id_back extended_request_at 200 id _ _ k (λ bytes. refl)
    (extended_back copy_data_name copy_data_at _ _ (lit≤ tt) (λ bytes. refl)
    (copy_back from from_offset len to to_offset h)) (two_short from to _ h.0 h.3)
request_back request.LimitsQuery id h k =
    with_id_back extended_request_at 200 id _ _ k (λ bytes. refl)
    (extended_back limits_name (λ bytes. Ok (request.LimitsQuery, bytes)) _ _ (lit≤ tt) (λ bytes. refl)
    (limits_back)) refl
