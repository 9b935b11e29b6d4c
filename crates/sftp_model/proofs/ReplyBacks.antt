-- Replies that were written are read back.
use Rattle.std.proofs.Common.{
  ℕ,
  suc,
  zero,
  ◌≡◌,
  ◌==◌,
  ◌<◌,
  ◌≤◌,
  ◌&&◌,
  ◌⊎◌,
  Bool,
  true,
  false,
  List,
  [],
  ◌∷◌,
  ◌++◌,
  length,
  All,
  Option,
  Some,
  Result,
  Ok,
  Err,
  refl,
  ap,
  append_assoc,
  arith,
  ltb,
  inl,
  inr,
}
use Rattle.std.specs.List.{flat_map}
use Rattle.std.proofs.lemmas.Bool.{le-ltb}
use Rattle.std.proofs.lemmas.Bool.Decides.{Decides-eqb}
use Rattle.ssh_encoding.specs.Reading.{byte_at, prefix_at}
use Rattle.ssh_encoding.specs.Writing.{uint32, uint64, string}
use Rattle.sftp_model.specs.declared.config.Limits.{Limits}
use Rattle.sftp_model.specs.declared.file_attrs.FileAttrs.{FileAttrs}
use Rattle.sftp_model.specs.declared.frame_error.FrameError.{FrameError}
use Rattle.sftp_model.specs.declared.reply.NameEntry.{NameEntry}
use Rattle.sftp_model.specs.declared.reply.Reply.{Reply}
use Rattle.sftp_model.specs.declared.reply.Reply.TheVariants as reply
use Rattle.sftp_model.specs.Fits.{FitsNumber, FitsAttributes, FitsEntry, FitsReply, ReplyReadsBack, FitsLimits, LimitsReadBack}
use Rattle.sftp_model.specs.Frames.{of_type, name_entry, extension_pairs, extension_table, attributes, reply_body, limits_content}
use Rattle.sftp_model.specs.Readings.{with_id, with_short_handles, extensions_at, uint64_at}
use Rattle.sftp_model.specs.ReplyReadings.{
  version_at,
  status_at,
  handle_at,
  content_at,
  entry_at,
  entries_at,
  names_at,
  attrs_at,
  extended_at,
  reply_fields_at,
  handles_of_reply,
  reply_at,
  limits_at,
}
use Rattle.sftp_model.proofs.FieldBacks.{ReadsBack, whole_back, number_back, long_back, text_back, attributes_back}

-- the fields of a reply after its type byte and id
with_id_back : (fields : List ℕ → Result (Reply × List ℕ) FrameError) (kind id : ℕ) (text : List ℕ) (r : Reply)
    → FitsNumber id
    → ((bytes : List ℕ) → reply_fields_at kind bytes ≡ with_id fields bytes) → fields text ≡ Ok (r, [])
    → with_short_handles (handles_of_reply r) (let read : Option ℕ × Reply = (Some id, r) in read) ≡ Ok (Some id, r)
    → reply_at (of_type kind id text) ≡ Ok (Some id, r)
unfolding reply_at byte_at
with_id_back fields kind id text r h is read short = rw (is (uint32 id ++ text), (number_back id h).back text, read)
    short

status_back : (code : ℕ) (message language : List ℕ) → FitsReply (reply.Status code message language)
    → ReadsBack status_at (uint32 code ++ string message ++ string language) (reply.Status code message language)
unfolding status_at
status_back code message language h = record {
  back = λ rest.
      simp append_assoc (rw (
        (number_back code h.0).back (string message ++ (string language ++ rest)),
        (text_back message h.1).back (string language ++ rest),
        (text_back language h.2).back rest,
      ) refl);
}

handle_back : (handle : List ℕ) → length handle ≤ 256 → ReadsBack handle_at (string handle) (reply.Handle handle)
unfolding handle_at
handle_back handle h = record { back = λ rest. rw ((text_back handle (omega arith)).back rest) refl }

content_back : (content : List ℕ) → FitsReply (reply.Content content)
    → ReadsBack content_at (string content) (reply.Content content)
unfolding content_at
content_back content h = record { back = λ rest. rw ((text_back content h).back rest) refl }

entry_back : (e : NameEntry) → FitsEntry e → ReadsBack entry_at (name_entry e) e
unfolding entry_at
entry_back e h = record {
  back = λ rest.
      simp append_assoc (rw (
        (text_back e.filename h.filename).back (string e.longname ++ (attributes e.attrs ++ rest)),
        (text_back e.longname h.longname).back (attributes e.attrs ++ rest),
        (attributes_back e.attrs h.attrs).back rest,
      ) refl);
}

entries_back : (names : List NameEntry) → All FitsEntry names
    → ReadsBack (entries_at (length names)) (flat_map name_entry names) names
entries_back [] h = record { back = λ rest. refl }
entries_back (e ∷ names) h = record {
  back = λ rest.
      rw (
        append_assoc (name_entry e) (flat_map name_entry names) rest,
        (entry_back e (h 0 e (omega arith))).back (flat_map name_entry names ++ rest),
        (entries_back names (λ k d below. h (suc k) d (omega arith))).back rest,
      ) refl;
}

names_back : (names : List NameEntry) → FitsReply (reply.Names names)
    → ReadsBack names_at (uint32 (length names) ++ flat_map name_entry names) (reply.Names names)
unfolding names_at
names_back names h = record {
  back = λ rest.
      rw (
        append_assoc (uint32 (length names)) (flat_map name_entry names) rest,
        (number_back (length names) h.0).back (flat_map name_entry names ++ rest),
        (entries_back names h.1).back rest,
      )
      refl;
}

-- ---- the pairs of VERSION, tried for each of the 64 sets

-- the pairs of a set read as it
abbrev is_read_back : ℕ → Result ℕ FrameError → Bool
is_read_back set (Ok read) = read == set
is_read_back set (Err e) = false

abbrev are_read_back : ℕ → Bool
are_read_back zero = true
are_read_back (suc n) = is_read_back n (extensions_at (extension_pairs n extension_table)) && are_read_back n

all_read_back : are_read_back 64 ≡ true
unfolding extensions_at prefix_at string uint32
all_read_back = refl

both_left : (a b : Bool) → (a && b) ≡ true → a ≡ true
both_left true b e = refl
both_left false b e = absurd cc

both_right : (a b : Bool) → (a && b) ≡ true → b ≡ true
both_right true b e = e
both_right false b e = absurd cc

lt_or_is : (n set : ℕ) → set < suc n → (set < n) ⊎ (set ≡ n)
lt_or_is n set h = grind arith

each_read_back : (n set : ℕ) → are_read_back n ≡ true → set < n
    → is_read_back set (extensions_at (extension_pairs set extension_table)) ≡ true
each_read_back zero set e h = absurd (omega arith)
each_read_back (suc n) set e h =
    elim (lt_or_is n set h) [
      | inl below ↦ each_read_back n set (both_right _ _ e) below
      | inr is ↦ rw is (both_left _ _ e)
    ]

is_ok_back : (set : ℕ) (r : Result ℕ FrameError) → is_read_back set r ≡ true → r ≡ Ok set
is_ok_back set (Ok read) e = ap (λ n. Ok n) ((Decides-eqb read set).0 e)
is_ok_back set (Err error) e = absurd cc

version_back : (version set id : ℕ) → FitsReply (reply.Version version (record { 0 = set }))
    → ReplyReadsBack (reply.Version version (record { 0 = set })) id
unfolding reply_at reply_body byte_at reply_fields_at version_at
version_back version set id h =
    rw (
      (number_back version h.0).back (extension_pairs set extension_table),
      is_ok_back set _ (each_read_back 64 set all_read_back h.1),
    ) refl

short : (handle : List ℕ) → length handle ≤ 256 → ltb 256 (length handle) ≡ false
short handle h = le-ltb _ _ h

attrs_back : (attrs : FileAttrs) → FitsAttributes attrs → ReadsBack attrs_at (attributes attrs) (reply.Attrs attrs)
unfolding attrs_at
attrs_back attrs h = record { back = λ rest. rw ((attributes_back attrs h).back rest) refl }

pub reply_back : (r : Reply) (id : ℕ) → FitsReply r → FitsNumber id → ReplyReadsBack r id
unfolding reply_body reply_fields_at extended_at
reply_back (reply.Version version extensions) id h k = version_back version extensions.0 id h
reply_back (reply.Status code message language) id h k = with_id_back status_at 101 id _ _ k (λ bytes. refl)
    (whole_back status_at _ _ (status_back code message language h)) refl
reply_back (reply.Handle handle) id h k = with_id_back handle_at 102 id _ _ k (λ bytes. refl)
    (whole_back handle_at _ _ (handle_back handle h)) (rw (short handle h) refl)
reply_back (reply.Content content) id h k = with_id_back content_at 103 id _ _ k (λ bytes. refl)
    (whole_back content_at _ _ (content_back content h)) refl
reply_back (reply.Names names) id h k = with_id_back names_at 104 id _ _ k (λ bytes. refl)
    (whole_back names_at _ _ (names_back names h)) refl
reply_back (reply.Attrs attrs) id h k = with_id_back attrs_at 105 id (attributes attrs) _ k (λ bytes. refl)
    (whole_back attrs_at _ _ (attrs_back attrs h)) refl
reply_back (reply.Extended content) id h k = with_id_back extended_at 201 id content _ k (λ bytes. refl) refl refl

pub limits_back : (limits : Limits) → FitsLimits limits → LimitsReadBack limits
unfolding limits_at limits_content
limits_back limits h =
    let last : List ℕ = uint64 limits.open_handles in
    let third : List ℕ = uint64 limits.write_len ++ last in
    let second : List ℕ = uint64 limits.read_len ++ third in
    simp append_assoc
    (rw (
      (long_back limits.packet_len h.packet_len).back second,
      (long_back limits.read_len h.read_len).back third,
      (long_back limits.write_len h.write_len).back last,
      whole_back uint64_at last limits.open_handles (long_back limits.open_handles h.open_handles),
    ) refl)
