-- Worked examples of frames, written out in hexadecimal.
use Rattle.std.specs.Prelude.{◌≡◌, [], ◌∷◌, ◌++◌, codes, Some, refl}
use Rattle.ssh_encoding.specs.Writing.{uint32, uint64, string}
use Rattle.sftp_model.specs.declared.file_attrs.FileAttrs.{FileAttrs}
use Rattle.sftp_model.specs.declared.request.Request.TheVariants as request
use Rattle.sftp_model.specs.declared.reply.Reply.TheVariants as reply
use Rattle.sftp_model.specs.Frames.{no_attributes, attributes, request_body, reply_body, request_frame, reply_frame}
use Rattle.sftp_model.specs.Hex.{hex}

abbrev pub all_attributes : FileAttrs
all_attributes = record { size = Some 5; id = Some (1, 2); permissions = Some 420; time = Some (3, 4) }

-- The hello has no id.
pub hello_frame : request_frame (request.Init 3) 7 ≡ hex (codes "000000050100000003")
unfolding request_body string uint32
hello_frame = refl

pub open_frame : request_frame (request.OpenFile (97 ∷ []) (record { 0 = 1 }) no_attributes) 0
    ≡ hex (codes "0000001203000000000000000161" ++ codes "0000000100000000")
unfolding request_body string uint32 attributes
open_frame = refl

pub close_frame : request_frame (request.Close (0 ∷ 0 ∷ 0 ∷ 0 ∷ [])) 1
    ≡ hex (codes "0000000d04000000010000000400000000")
unfolding request_body string uint32
close_frame = refl

pub read_frame : request_frame (request.Read (0 ∷ 0 ∷ 0 ∷ 0 ∷ []) 258 5) 1
    ≡ hex (codes "0000001905000000010000000400000000" ++ codes "000000000000010200000005")
unfolding request_body string uint32 uint64
read_frame = refl

pub write_frame : request_frame (request.Write (7 ∷ []) 258 (8 ∷ 9 ∷ [])) 1
    ≡ hex (codes "0000001806000000010000000107" ++ codes "0000000000000102000000020809")
unfolding request_body string uint32 uint64
write_frame = refl

-- The fields that are present, in the order size, owner and group, permissions, times.
pub setstat_frame : request_frame (request.Setstat (97 ∷ []) all_attributes) 2
    ≡ hex (codes "0000002a09000000020000000161" ++ codes "0000000f0000000000000005" ++ codes "0000000100000002"
    ++ codes "000001a4" ++ codes "0000000300000004")
unfolding request_body string uint32 uint64 attributes
setstat_frame = refl

-- The target of the link is sent first.
pub symlink_frame : request_frame (request.Symlink (97 ∷ []) (98 ∷ [])) 2
    ≡ hex (codes "0000000f140000000200000001610000000162")
unfolding request_body string uint32
symlink_frame = refl

pub limits_frame : request_frame request.LimitsQuery 0 ≡ hex (codes "0000001bc800000000" ++ codes "00000012")
    ++ codes "limits@openssh.com"
unfolding request_body string uint32
limits_frame = refl

pub copy_data_frame : request_frame (request.CopyData (1 ∷ []) 2 3 (4 ∷ []) 5) 6
    ≡ hex (codes "00000034c80000000600000009") ++ codes "copy-data"
    ++ hex (codes "0000000101" ++ codes "00000000000000020000000000000003" ++ codes "0000000104"
    ++ codes "0000000000000005")
unfolding request_body string uint32 uint64
copy_data_frame = refl

-- One pair for each extension of the set, in the order of the table.
pub version_frame : reply_frame (reply.Version 3 (record { 0 = 32 })) 9
    ≡ hex (codes "000000200200000003" ++ codes "00000012") ++ codes "limits@openssh.com" ++ hex (codes "0000000131")
unfolding reply_body string uint32
version_frame = refl

pub version_pairs : reply_frame (reply.Version 3 (record { 0 = 20 })) 9
    ≡ hex (codes "000000310200000003" ++ codes "00000011") ++ codes "fsync@openssh.com"
    ++ hex (codes "0000000131" ++ codes "00000009") ++ codes "copy-data" ++ hex (codes "0000000131")
unfolding reply_body string uint32
version_pairs = refl

pub status_frame : reply_frame (reply.Status 2 (109 ∷ []) []) 3
    ≡ hex (codes "000000126500000003000000020000000" ++ codes "16d00000000")
unfolding reply_body string uint32
status_frame = refl

pub content_frame : reply_frame (reply.Content (1 ∷ 2 ∷ [])) 3 ≡ hex (codes "0000000b6700000003000000020102")
unfolding reply_body string uint32
content_frame = refl

pub names_frame : reply_frame (reply.Names (record { filename = 120 ∷ []; longname = []; attrs = no_attributes } ∷ []))
    3 ≡ hex (codes "000000166800000003" ++ codes "0000000100000001780000000000000000")
unfolding reply_body string uint32 attributes
names_frame = refl

-- All bytes of the reply come after the id, without a length of their own.
pub extended_frame : reply_frame (reply.Extended (1 ∷ 2 ∷ [])) 3 ≡ hex (codes "00000007c9000000030102")
unfolding reply_body string uint32
extended_frame = refl
