-- Worked lines of calls, and near misses beside them.
use Rattle.std.specs.Prelude.{ℕ, pos, negsuc, ◌≡◌, ◌∷◌, ◌-◌, ◌^◌, List, [], codes, Some, None, Result, Ok, Err, refl}
use Rattle.std.specs.declared.io.traits.SeekFrom.TheVariants as position
use Rattle.plan_model.specs.declared.call.Call.{Call}
use Rattle.plan_model.specs.declared.call.Call.TheVariants as call
use Rattle.hex.specs.Hex.{decode_pairs}
use Rattle.script_words.specs.declared.reason.Reason.{Reason}
use Rattle.script_words.specs.declared.reason.Reason.TheVariants as reason
use Rattle.script_grammar.specs.declared.script.Script.{Script}
use Rattle.script_grammar.specs.Scripts.{empty_script, script_of}
use Rattle.session_model.specs.RowWords.{to_read}
use Rattle.script_grammar.specs.ScriptRows.{text}

-- A script of one lane with these lines.
abbrev in_lane : List (List ℕ) → Result Script (ℕ × Reason)
in_lane lines = script_of (text (codes "lane" ∷ lines))

-- The script of one lane, if each line is a call.
abbrev lane_of : List Call → Result Script (ℕ × Reason)
lane_of calls = Ok (record empty_script { lanes = record { calls = calls } ∷ [] })

pub calls_on_slots :
    in_lane (codes "open 0 r 61" ∷ codes "read 0 5" ∷ codes "read_all 1 4294967295" ∷ codes "write 2 0aFf" ∷ codes
    "write_all 15 -"
    ∷ codes "set_len 3 18446744073709551615" ∷ codes "set_perm 4 65535" ∷ codes "meta 5" ∷ codes "sync 6" ∷ codes
    "copy 7 8 0" ∷ codes "clone 9 10" ∷ codes "close 11" ∷ [])
    ≡ lane_of (call.OpenFile 0 to_read (codes "a") ∷ call.Read 0 5 ∷ call.ReadAll 1 4294967295 ∷ call.Write 2
    (10 ∷ 255 ∷ []) ∷ call.WriteAll 15 []
    ∷ call.SetLen 3 18446744073709551615 ∷ call.SetPerm 4 65535 ∷ call.Meta 5 ∷ call.Sync 6 ∷ call.Copy 7 8 0 ∷
    call.CloneFile 9 10 ∷ call.Close 11 ∷ [])
unfolding decode_pairs
calls_on_slots = refl

pub writes_of_parts :
    in_lane (codes "write_parts 0 61 6263" ∷ codes "write_parts 1 -" ∷ codes "write_parts 15 0a - fF" ∷ [])
    ≡ lane_of (call.WriteParts 0 (codes "a" ∷ codes "bc" ∷ []) ∷ call.WriteParts 1 ([] ∷ []) ∷ call.WriteParts 15
    ((10 ∷ []) ∷ [] ∷ (255 ∷ []) ∷ []) ∷ [])
unfolding decode_pairs
writes_of_parts = refl

pub seeks :
    in_lane (codes "seek 0 start 18446744073709551615" ∷ codes "seek 1 cur 7" ∷ codes "seek 2 cur -7" ∷ codes
    "seek 3 end -0" ∷ codes "seek 4 end -9223372036854775808" ∷ [])
    ≡ lane_of (call.Seek 0 (position.Start 18446744073709551615) ∷ call.Seek 1 (position.Current (pos 7)) ∷ call.Seek 2
    (position.Current (negsuc 6))
    ∷ call.Seek 3 (position.End (pos 0)) ∷ call.Seek 4 (position.End (negsuc (2 ^ 63 - 1))) ∷ [])
seeks = refl

pub calls_on_buffered_files :
    in_lane (codes "buffer 0 1" ∷ codes "buffer 15 1048576" ∷ codes "unbuffer 1" ∷ codes
    "buf_read 2 18446744073709551615" ∷ codes "buf_write 3 0aFf" ∷ codes "buf_write_all 4 -" ∷ codes "buf_flush 5" ∷
    codes "buf_seek 6 cur -7" ∷ [])
    ≡ lane_of (call.Buffer 0 1 ∷ call.Buffer 15 1048576 ∷ call.Unbuffer 1 ∷ call.BufRead 2 18446744073709551615 ∷
    call.BufWrite 3 (10 ∷ 255 ∷ []) ∷ call.BufWriteAll 4 [] ∷ call.BufFlush 5 ∷ call.BufSeek 6
    (position.Current (negsuc 6)) ∷ [])
unfolding decode_pairs
calls_on_buffered_files = refl

pub calls_on_paths :
    in_lane (codes "fs_read 61 4294967295" ∷ codes "fs_read - 1" ∷ codes "fs_write 61 62" ∷ codes "list - 1" ∷ codes
    "stat 61" ∷ codes "lstat 61" ∷ codes "set_stat 61 - -" ∷ codes "set_stat 61 0 65535" ∷ codes "remove 61" ∷ codes
    "mkdir 61" ∷ codes "rmdir 61"
    ∷ codes "rename 61 62" ∷ codes "hard_link 61 62" ∷ codes "symlink 61 62" ∷ codes "read_link 61" ∷ codes
    "canonicalize -" ∷ codes "cwd 2f" ∷ [])
    ≡ lane_of (call.FsRead (codes "a") 4294967295 ∷ call.FsRead [] 1 ∷ call.FsWrite (codes "a") (codes "b") ∷ call.List
    [] 1 ∷ call.Stat (codes "a") ∷ call.Lstat (codes "a") ∷ call.SetStat (codes "a") None None ∷ call.SetStat
    (codes "a") (Some 0) (Some 65535)
    ∷ call.Remove (codes "a") ∷ call.Mkdir (codes "a") ∷ call.Rmdir (codes "a") ∷ call.Rename (codes "a") (codes "b") ∷
    call.HardLink (codes "a") (codes "b") ∷ call.Symlink (codes "a") (codes "b")
    ∷ call.ReadLink (codes "a") ∷ call.Canonicalize [] ∷ call.Cwd (codes "/") ∷ [])
unfolding decode_pairs
calls_on_paths = refl

-- ---- Refused lines, and the reasons

pub before_a_lane : script_of (codes "stat 61") ≡ Err (1, reason.Lane)
before_a_lane = refl

pub no_call : in_lane (codes "readall 0 1" ∷ []) ≡ Err (2, reason.Word)
no_call = refl

pub too_many_words : in_lane (codes "stat 61 62" ∷ []) ≡ Err (2, reason.Count)
too_many_words = refl

pub write_of_no_part : in_lane (codes "write_parts 0" ∷ []) ≡ Err (2, reason.Count)
write_of_no_part = refl

pub no_slot_and_no_part : in_lane (codes "write_parts" ∷ []) ≡ Err (2, reason.Count)
no_slot_and_no_part = refl

pub second_part_misspelled : in_lane (codes "write_parts 0 61 6" ∷ []) ≡ Err (2, reason.Hex)
unfolding decode_pairs
second_part_misspelled = refl

pub parts_of_a_slot_first : in_lane (codes "write_parts 16 6" ∷ []) ≡ Err (2, reason.Range)
parts_of_a_slot_first = refl

pub no_parts_of_a_slot : in_lane (codes "write_parts 16" ∷ []) ≡ Err (2, reason.Count)
no_parts_of_a_slot = refl

pub seek_of_no_kind : in_lane (codes "seek 0 begin x" ∷ []) ≡ Err (2, reason.Mode)
seek_of_no_kind = refl

pub seek_of_a_slot_first : in_lane (codes "seek 16 begin 0" ∷ []) ≡ Err (2, reason.Range)
seek_of_a_slot_first = refl

pub start_below_nothing : in_lane (codes "seek 0 start -1" ∷ []) ≡ Err (2, reason.Number)
start_below_nothing = refl

pub sign_alone : in_lane (codes "seek 0 cur -" ∷ []) ≡ Err (2, reason.Number)
sign_alone = refl

pub too_far_on : in_lane (codes "seek 0 cur 9223372036854775808" ∷ []) ≡ Err (2, reason.Range)
too_far_on = refl

pub too_far_back : in_lane (codes "seek 0 cur -9223372036854775809" ∷ []) ≡ Err (2, reason.Range)
too_far_back = refl

pub whole_read_of_nothing : in_lane (codes "fs_read 61 0" ∷ []) ≡ Err (2, reason.Range)
unfolding decode_pairs
whole_read_of_nothing = refl

pub whole_read_of_too_many : in_lane (codes "fs_read 61 4294967296" ∷ []) ≡ Err (2, reason.Range)
unfolding decode_pairs
whole_read_of_too_many = refl

pub path_before_bound : in_lane (codes "fs_read 6 0" ∷ []) ≡ Err (2, reason.Hex)
path_before_bound = refl

pub whole_read_without_bound : in_lane (codes "fs_read 61" ∷ []) ≡ Err (2, reason.Count)
whole_read_without_bound = refl

pub list_of_nothing : in_lane (codes "list 61 0" ∷ []) ≡ Err (2, reason.Range)
unfolding decode_pairs
list_of_nothing = refl

pub buffer_of_nothing : in_lane (codes "buffer 0 0" ∷ []) ≡ Err (2, reason.Range)
buffer_of_nothing = refl

pub buffer_too_long : in_lane (codes "buffer 0 1048577" ∷ []) ≡ Err (2, reason.Range)
buffer_too_long = refl

pub mode_too_great : in_lane (codes "set_perm 0 65536" ∷ []) ≡ Err (2, reason.Range)
mode_too_great = refl

pub size_before_mode : in_lane (codes "set_stat 61 18446744073709551616 x" ∷ []) ≡ Err (2, reason.Range)
unfolding decode_pairs
size_before_mode = refl

pub no_size_and_no_mode : in_lane (codes "set_stat 61 - x" ∷ []) ≡ Err (2, reason.Number)
unfolding decode_pairs
no_size_and_no_mode = refl

pub second_path_misspelled : in_lane (codes "rename 61 6" ∷ []) ≡ Err (2, reason.Hex)
unfolding decode_pairs
second_path_misspelled = refl
