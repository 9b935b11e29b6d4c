-- believed
-- The lines on the first content of a server and on the options of a session.
use Rattle.std.specs.Prelude.{
  ℕ,
  ◌+◌,
  ◌==◌,
  Bool,
  true,
  false,
  not,
  ◌&&◌,
  ◌||◌,
  List,
  [],
  ◌∷◌,
  ◌++◌,
  length,
  map,
  codes,
  Option,
  Some,
  None,
  Result,
  Ok,
  Err,
  is_some,
  nat_le,
  if◌then◌else◌,
}
use Rattle.std.specs.Int.RustNames.{bit_or}
use Rattle.std.specs.List.{list_all, list_any, sum_by}
use Rattle.std.specs.Str.{bytes_eq}
use Rattle.ssh_encoding.specs.Reading.{◌>>=◌}
use Rattle.sftp_model.specs.declared.options.SftpOptions.{SftpOptions}
use Rattle.sftp_model.specs.declared.config.Limits.{Limits}
use Rattle.sftp_model.specs.Numbers.{COPY_DATA, EXPAND_PATH, FSYNC, HARDLINK, POSIX_RENAME}
use Rattle.sftp_model.specs.Readings.{has_bit}
use Rattle.machine_model.specs.Components.{Name, components, is_within, same_name}
use Rattle.machine_model.specs.FirstTree.{FirstFile, are_apart, may_be_named, name_of}
use Rattle.machine_model.specs.Limits.{MAX_FILE_LEN, MAX_TOTAL_LEN}
use Rattle.script_words.specs.declared.reason.Reason.{Reason}
use Rattle.script_words.specs.declared.reason.Reason.TheVariants as reason
use Rattle.script_grammar.specs.declared.script.Script.{Script}
use Rattle.script_words.specs.Lines.{number_in, bytes_in, one_word, two_words, four_words, greatest_u32, greatest_u64}

-- The part that was read so far: the script, and the options that it names, by the order of their table.
pub record Draft : Type 0 where
  pub script : Script
  pub named : List ℕ

-- A repeated line is refused.
abbrev pub unless_said : {A : Type 0} → Bool → A → Result A Reason
unless_said true x = Err reason.Repeat
unless_said false x = Ok x

-- ---- Options

-- The draft with other options, one of which is now named.
abbrev pub with_options : Draft → ℕ → SftpOptions → Draft
with_options d key options = record { script = record d.script { options = options }; named = key ∷ d.named }

-- An option of the table, with its range.
abbrev pub option_in : Draft → ℕ → ℕ → ℕ → List ℕ → (ℕ → SftpOptions) → Result Draft Reason
option_in d key least most word set = number_in least most word >>= λ n. unless_said (list_any (λ k. k == key) d.named)
    (with_options d key (set n))

-- A line that sets an option.
abbrev pub option_line : Draft → List ℕ → List ℕ → Result Draft Reason
option_line d name word =
    if bytes_eq name (codes "max_pending_requests") then option_in d 0 1 65535 word
    (λ n. record d.script.options { max_pending_requests = n })
    else if bytes_eq name (codes "requests_buffer_size") then option_in d 1 1 65536 word
    (λ n. record d.script.options { requests_buffer_size = n })
    else if bytes_eq name (codes "responses_buffer_size") then
    option_in d 2 1 65536 word (λ n. record d.script.options { responses_buffer_size = n })
    else if bytes_eq name (codes "tokio_compat_file_write_limit") then
    option_in d 3 1 16777216 word (λ n. record d.script.options { tokio_compat_file_write_limit = n })
    else if bytes_eq name (codes "max_read_len") then option_in d 4 1 greatest_u32 word
    (λ n. record d.script.options { max_read_len = Some n })
    else if bytes_eq name (codes "max_write_len") then option_in d 5 1 greatest_u32 word
    (λ n. record d.script.options { max_write_len = Some n })
    else if bytes_eq name (codes "flush_interval") then option_in d 6 0 1000000 word
    (λ n. record d.script.options { flush_interval = n })
    else if bytes_eq name (codes "read_window") then option_in d 7 1 64 word
    (λ n. record d.script.options { read_window = n })
    else Err reason.Mode

-- ---- The server

-- The bit of an extension that a script may name.
abbrev pub extension_in : List ℕ → Result ℕ Reason
extension_in name =
    if bytes_eq name (codes "posix-rename") then Ok POSIX_RENAME
    else if bytes_eq name (codes "hardlink") then Ok HARDLINK
    else if bytes_eq name (codes "fsync") then Ok FSYNC
    else if bytes_eq name (codes "expand-path") then Ok EXPAND_PATH
    else if bytes_eq name (codes "copy-data") then Ok COPY_DATA
    else Err reason.Mode

-- The draft whose server offers another extension.
abbrev pub with_extension : Draft → ℕ → Draft
with_extension d bit = record d {
  script = record d.script {
    server =
        record d.script.server { extensions = record { 0 = bit_or d.script.server.extensions.0 bit } };
  };
}

-- A line that names an extension.
abbrev pub ext_line : Draft → List ℕ → Result Draft Reason
ext_line d name = extension_in name >>= λ bit. unless_said (has_bit d.script.server.extensions.0 bit)
    (with_extension d bit)

-- The draft whose server reports these limits.
abbrev pub with_limits : Draft → Limits → Draft
with_limits d limits = record d {
  script = record d.script { server = record d.script.server { limits = Some limits } };
}

-- A line of the four limits.
abbrev pub limits_line : Draft → List ℕ → List ℕ → List ℕ → List ℕ → Result Draft Reason
limits_line d p r w h = do
  packet ← number_in 0 greatest_u64 p
  read ← number_in 0 greatest_u64 r
  write ← number_in 0 greatest_u64 w
  handles ← number_in 0 greatest_u64 h
  unless_said (is_some d.script.server.limits) (with_limits d
      (record { packet_len = packet; read_len = read; write_len = write; open_handles = handles }))

-- A line of a cut. A cut of 0 can't be given, so 0 means that none was.
abbrev pub cut_line : Draft → List ℕ → Result Draft Reason
cut_line d word = number_in 1 greatest_u32 word >>= λ n. unless_said (not (d.script.server.cut == 0))
    (record d { script = record d.script { server = record d.script.server { cut = n } } })

-- A line on the server, by its second word.
abbrev pub server_line : Draft → List (List ℕ) → Result Draft Reason
server_line d [] = Err reason.Count
server_line d (kind ∷ words) =
    if bytes_eq kind (codes "ext") then one_word (ext_line d) words
    else if bytes_eq kind (codes "limits") then four_words (limits_line d) words
    else if bytes_eq kind (codes "cut") then one_word (cut_line d) words
    else Err reason.Mode

-- ---- Files, directories, choices and picks

-- A path that denotes a permitted name.
abbrev pub path_in : List ℕ → Result (List ℕ) Reason
path_in word = bytes_in word >>= λ path. if may_be_named (components path) then Ok path else Err reason.Range

-- True if another file may have these bytes, beside these files.
abbrev pub may_add : List FirstFile → List ℕ → Bool
may_add files content = nat_le (length content) MAX_FILE_LEN
    && nat_le (sum_by (λ file. length file.1) files + length content) MAX_TOTAL_LEN

-- The bytes of another file.
abbrev pub content_in : List FirstFile → List ℕ → Result (List ℕ) Reason
content_in files word = bytes_in word >>= λ content. if may_add files content then Ok content else Err reason.Range

-- True if the name already belongs to a file or a directory, or lies within a file.
abbrev pub meets_file : Script → Name → Bool
meets_file script name = not (list_all (are_apart name) (map name_of script.files))
    || list_any (is_within name) (map components script.dirs)

-- True if the name was given to a directory, belongs to a file, or lies within a file.
abbrev pub meets_dir : Script → Name → Bool
meets_dir script name = list_any (same_name name) (map components script.dirs)
    || list_any (λ file. is_within (name_of file) name) script.files

-- A line of a first file. Its parents are directories too.
abbrev pub file_line : Draft → List ℕ → List ℕ → Result Draft Reason
file_line d a b = do
  path ← path_in a
  content ← content_in d.script.files b
  unless_said (meets_file d.script (components path)) (record d
      { script = record d.script { files = d.script.files ++ (path, content) ∷ [] } })

-- A line of a first directory. Its parents are directories too.
abbrev pub dir_line : Draft → List ℕ → Result Draft Reason
dir_line d a = path_in a >>= λ path. unless_said (meets_dir d.script (components path))
    (record d { script = record d.script { dirs = d.script.dirs ++ path ∷ [] } })

-- The code by which a request is refused, 2 or more; or 0 if it is not refused.
abbrev pub refusal_in : List ℕ → Result ℕ Reason
refusal_in word = number_in 0 greatest_u32 word >>= λ n. if n == 1 then Err reason.Range else Ok n

-- A line of a choice.
abbrev pub choice_line : Draft → List ℕ → List ℕ → Result Draft Reason
choice_line d a b = do
  refuse ← refusal_in a
  cap ← number_in 0 greatest_u32 b
  Ok (record d {
    script = record d.script { choices = d.script.choices ++ record { refuse = refuse; cap = cap } ∷ [] };
  })

-- A line of a pick.
abbrev pub pick_line : Draft → List ℕ → Result Draft Reason
pick_line d word = number_in 0 greatest_u32 word >>= λ n. Ok
    (record d { script = record d.script { picks = d.script.picks ++ n ∷ [] } })

-- ---- The lines of setup

-- A line on the first content of a server or on the options of a session, by its first word and the words after it. The
-- other lines of a program are its own.
abbrev pub setup_line : Draft → List ℕ → List (List ℕ) → Option (Result Draft Reason)
setup_line d word words =
    if bytes_eq word (codes "option") then Some (two_words (option_line d) words)
    else if bytes_eq word (codes "server") then Some (server_line d words)
    else if bytes_eq word (codes "file") then Some (two_words (file_line d) words)
    else if bytes_eq word (codes "dir") then Some (one_word (dir_line d) words)
    else if bytes_eq word (codes "choice") then Some (two_words (choice_line d) words)
    else if bytes_eq word (codes "pick") then Some (one_word (pick_line d) words)
    else None
