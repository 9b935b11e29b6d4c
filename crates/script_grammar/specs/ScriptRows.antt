-- Worked scripts, and near misses beside them.
use Rattle.std.specs.Prelude.{ℕ, ◌≡◌, ◌∷◌, ◌++◌, List, [], codes, Some, Result, Ok, Err, refl}
use Rattle.plan_model.specs.declared.call.Call.TheVariants as call
use Rattle.hex.specs.Hex.{decode_pairs}
use Rattle.script_words.specs.declared.reason.Reason.{Reason}
use Rattle.script_words.specs.declared.reason.Reason.TheVariants as reason
use Rattle.script_grammar.specs.declared.script.Script.{Script}
use Rattle.session_model.specs.declared.turn.Turn.TheVariants as turn
use Rattle.script_grammar.specs.Scripts.{script_of, empty_script}
use Rattle.machine_model.specs.Components.{components}
use Rattle.session_model.specs.RowWords.{to_read}

-- Lines joined, each ended by a line feed.
abbrev pub text : List (List ℕ) → List ℕ
text [] = []
text (line ∷ lines) = line ++ 10 ∷ text lines

-- ---- Scripts

pub nothing : script_of [] ≡ Ok empty_script
nothing = refl

pub passed_over : script_of (text (codes "# a" ∷ [] ∷ codes "   " ∷ [])) ≡ Ok empty_script
passed_over = refl

pub no_comment : script_of (codes " # a") ≡ Err (1, reason.Word)
no_comment = refl

pub open_read_close : script_of (text (codes "file 61 68656c6c6f" ∷ codes "lane" ∷ codes "open 0 r 61" ∷ codes
    "read 0 5" ∷ codes "close 0" ∷ []))
    ≡ Ok (record empty_script {
      files = (codes "a", codes "hello") ∷ [];
      lanes = record { calls = call.OpenFile 0 to_read (codes "a") ∷ call.Read 0 5 ∷ call.Close 0 ∷ [] } ∷ [];
    })
unfolding components decode_pairs
open_read_close = refl

pub lanes_and_turns : script_of (text (codes "lane" ∷ codes "lane" ∷ codes "close 15" ∷ codes "step 1" ∷ codes "flush" ∷
    codes "take" ∷ codes "cancel 7" ∷ []))
    ≡ Ok (record empty_script {
      lanes = record { calls = [] } ∷ record { calls = call.Close 15 ∷ [] } ∷ [];
      turns = turn.Step 1 ∷ turn.Flush ∷ turn.Take ∷ turn.Cancel 7 ∷ [];
    })
lanes_and_turns = refl

pub a_server : script_of (text (codes "server ext fsync" ∷ codes "server limits 1 2 3 4" ∷ codes "server cut 5" ∷ codes
    "choice 0 6" ∷ codes "choice 4 0" ∷ codes "pick 9" ∷ []))
    ≡ Ok (record empty_script {
      server = record {
        extensions = record { 0 = 4 };
        limits =
            Some (record { packet_len = 1; read_len = 2; write_len = 3; open_handles = 4 });
        cut = 5;
      };
      choices = record { refuse = 0; cap = 6 } ∷ record { refuse = 4; cap = 0 } ∷ [];
      picks = 9 ∷ [];
    })
a_server = refl

pub an_option : script_of (codes "option max_read_len 7") ≡ Ok
    (record empty_script { options = record empty_script.options { max_read_len = Some 7 } })
an_option = refl

pub greatest_window : script_of (codes "option read_window 64")
    ≡ Ok (record empty_script { options = record empty_script.options { read_window = 64 } })
greatest_window = refl

-- ---- The first line that is refused, and the reason

pub unknown_word : script_of (codes "foo") ≡ Err (1, reason.Word)
unknown_word = refl

pub no_lane : script_of (codes "read 0 1") ≡ Err (1, reason.Lane)
no_lane = refl

-- A missing lane is reported before a wrong number of words.
pub no_lane_first : script_of (codes "read") ≡ Err (1, reason.Lane)
no_lane_first = refl

abbrev in_lane : List ℕ → Result Script (ℕ × Reason)
in_lane line = script_of (text (codes "lane" ∷ line ∷ []))

pub too_few : in_lane (codes "open 0 r") ≡ Err (2, reason.Count)
too_few = refl

pub slot_too_great : in_lane (codes "open 16 r 61") ≡ Err (2, reason.Range)
slot_too_great = refl

pub half_a_byte : in_lane (codes "open 0 r 6") ≡ Err (2, reason.Hex)
half_a_byte = refl

pub unknown_mode : in_lane (codes "open 0 rr 61") ≡ Err (2, reason.Mode)
unknown_mode = refl

-- A field is checked whole before the next one.
pub fields_in_order : in_lane (codes "open 16 rr 6") ≡ Err (2, reason.Range)
fields_in_order = refl

pub read_too_much : in_lane (codes "read 0 4294967296") ≡ Err (2, reason.Range)
read_too_much = refl

pub not_a_number : script_of (codes "option max_read_len x") ≡ Err (1, reason.Number)
not_a_number = refl

pub unknown_option : script_of (codes "option no_such x") ≡ Err (1, reason.Mode)
unknown_option = refl

pub option_range : script_of (codes "option max_pending_requests 0") ≡ Err (1, reason.Range)
option_range = refl

pub window_of_nothing : script_of (codes "option read_window 0") ≡ Err (1, reason.Range)
window_of_nothing = refl

pub window_too_great : script_of (codes "option read_window 65") ≡ Err (1, reason.Range)
window_too_great = refl

pub window_twice : script_of (text (codes "option read_window 1" ∷ codes "option read_window 1" ∷ []))
    ≡ Err (2, reason.Repeat)
window_twice = refl

pub option_twice : script_of (text (codes "option flush_interval 0" ∷ codes "option flush_interval 0" ∷ []))
    ≡ Err (2, reason.Repeat)
option_twice = refl

-- ---- First files and directories

abbrev tree_lines : List (List ℕ) → Result Script (ℕ × Reason)
tree_lines lines = script_of (text lines)

pub files_and_directories : tree_lines (codes "file 612f62 01" ∷ codes "dir 61" ∷ codes "dir 2f612f63" ∷ codes
    "file 6162 -" ∷ [])
    ≡ Ok (record empty_script {
      files = (codes "a/b", 1 ∷ []) ∷ (codes "ab", []) ∷ [];
      dirs = codes "a" ∷ codes "/a/c" ∷ [];
    })
unfolding components decode_pairs
files_and_directories = refl

pub file_twice : tree_lines (codes "file 61 -" ∷ codes "file 2f61 -" ∷ []) ≡ Err (2, reason.Repeat)
unfolding components decode_pairs
file_twice = refl

-- Fields are checked before repetition is.
pub file_twice_misspelled : tree_lines (codes "file 61 -" ∷ codes "file 61 x" ∷ []) ≡ Err (2, reason.Hex)
unfolding components decode_pairs
file_twice_misspelled = refl

pub file_of_the_root : tree_lines (codes "file 2f2e x" ∷ []) ≡ Err (1, reason.Range)
unfolding components decode_pairs
file_of_the_root = refl

pub file_within_a_file : tree_lines (codes "file 61 -" ∷ codes "file 612f62 -" ∷ []) ≡ Err (2, reason.Repeat)
unfolding components decode_pairs
file_within_a_file = refl

-- Each parent is a directory.
pub file_of_a_parent : tree_lines (codes "file 612f62 -" ∷ codes "file 61 -" ∷ []) ≡ Err (2, reason.Repeat)
unfolding components decode_pairs
file_of_a_parent = refl

pub file_of_a_directory : tree_lines (codes "dir 612f62" ∷ codes "file 61 -" ∷ []) ≡ Err (2, reason.Repeat)
unfolding components decode_pairs
file_of_a_directory = refl

pub dir_twice : tree_lines (codes "dir 61" ∷ codes "dir 612f" ∷ []) ≡ Err (2, reason.Repeat)
unfolding components decode_pairs
dir_twice = refl

pub dir_of_a_file : tree_lines (codes "file 61 -" ∷ codes "dir 61" ∷ []) ≡ Err (2, reason.Repeat)
unfolding components decode_pairs
dir_of_a_file = refl

pub dir_within_a_file : tree_lines (codes "file 61 -" ∷ codes "dir 612f62" ∷ []) ≡ Err (2, reason.Repeat)
unfolding components decode_pairs
dir_within_a_file = refl

-- A parent that was not named yet may be named later.
pub dir_of_a_parent : tree_lines (codes "dir 612f62" ∷ codes "dir 61" ∷ [])
    ≡ Ok (record empty_script { dirs = codes "a/b" ∷ codes "a" ∷ [] })
unfolding components decode_pairs
dir_of_a_parent = refl

pub dir_of_the_root : tree_lines (codes "dir -" ∷ []) ≡ Err (1, reason.Range)
unfolding components decode_pairs
dir_of_the_root = refl

pub dir_of_two_words : tree_lines (codes "dir 61 -" ∷ []) ≡ Err (1, reason.Count)
dir_of_two_words = refl

-- ---- Repeated lines

pub ext_twice : script_of (text (codes "server ext fsync" ∷ codes "server ext fsync" ∷ [])) ≡ Err (2, reason.Repeat)
ext_twice = refl

pub cut_twice : script_of (text (codes "server cut 1" ∷ codes "server cut 2" ∷ [])) ≡ Err (2, reason.Repeat)
cut_twice = refl

pub limits_twice : script_of (text (codes "server limits 0 0 0 0" ∷ codes "server limits 0 0 0 0" ∷ []))
    ≡ Err (2, reason.Repeat)
limits_twice = refl

pub server_alone : script_of (codes "server") ≡ Err (1, reason.Count)
server_alone = refl

pub server_word : script_of (codes "server foo 1 2 3") ≡ Err (1, reason.Mode)
server_word = refl

pub limits_not_named : script_of (codes "server ext limits") ≡ Err (1, reason.Mode)
limits_not_named = refl

pub refused_by_one : script_of (codes "choice 1 0") ≡ Err (1, reason.Range)
refused_by_one = refl
