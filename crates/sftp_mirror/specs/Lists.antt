-- believed
-- The lines of a list of files to copy: the bytes that read as one; for other bytes, the first line that does not, and
-- the reason.
use Rattle.std.specs.Prelude.{
  ℕ,
  ◌^◌,
  ◌-◌,
  Bool,
  ◌||◌,
  List,
  [],
  ◌∷◌,
  ◌++◌,
  length,
  map,
  codes,
  Option,
  Some,
  None,
  Result,
  Ok,
  Err,
  nat_lt,
  if◌then◌else◌,
}
use Rattle.std.specs.List.{list_all, list_any}
use Rattle.std.specs.Str.{bytes_eq}
use Rattle.ssh_encoding.specs.Reading.{◌>>=◌}
use Rattle.machine_model.specs.Components.{Name, components, same_name}
use Rattle.machine_model.specs.FirstTree.{are_apart}
use Rattle.script_words.specs.declared.reason.Reason.{Reason}
use Rattle.script_words.specs.declared.reason.Reason.TheVariants as reason
use Rattle.script_words.specs.Lines.{bytes_in, greatest_u32, lines_of, number_in, or_read, read_by, two_words}
use Rattle.script_grammar.specs.Scripts.{MAX_SCRIPT_LEN, empty_script}
use Rattle.script_grammar.specs.Setup.{Draft, path_in, setup_line, unless_said}
use Rattle.mirror_jobs.specs.declared.job.Job.{Job}
use Rattle.mirror_jobs.specs.declared.job.Job.TheVariants as job
use Rattle.mirror_jobs.specs.Jobs.{name_of}
use Rattle.sftp_mirror.specs.declared.list.CopyList.{CopyList}

-- The part that was read so far: the lines of setup, and the files to copy.
pub record ListDraft : Type 0 where
  pub draft : Draft
  pub jobs : List Job

-- ---- Files

-- True if the two names are the same, or neither lies within the other.
abbrev pub may_stand_beside : Name → Name → Bool
may_stand_beside a b = same_name a b || are_apart a b

-- A path of a file with a permitted name. It lies within no earlier one, and no earlier one lies within it.
abbrev pub name_in : List Job → List ℕ → Result (List ℕ) Reason
name_in jobs word = path_in word >>= λ path.
    if list_all (may_stand_beside (components path)) (map name_of jobs) then Ok path else Err reason.Range

-- Bytes that are fewer than the greatest bound of a read.
abbrev pub content_in : List ℕ → Result (List ℕ) Reason
content_in word = bytes_in word >>= λ content. if nat_lt (length content) (2 ^ 32 - 1) then Ok content
    else Err reason.Range

-- The draft with another file, unless its name was given before.
abbrev pub with_job : ListDraft → Job → Result ListDraft Reason
with_job d j = unless_said (list_any (same_name (name_of j)) (map name_of d.jobs))
    (record d { jobs = d.jobs ++ j ∷ [] })

-- A line of an upload.
abbrev pub up_line : ListDraft → List ℕ → List ℕ → Result ListDraft Reason
up_line d a b = do
  path ← name_in d.jobs a
  content ← content_in b
  with_job d (job.Up path content)

-- A line of a download.
abbrev pub down_line : ListDraft → List ℕ → List ℕ → Result ListDraft Reason
down_line d a b = do
  path ← name_in d.jobs a
  bound ← number_in 1 greatest_u32 b
  with_job d (job.Down path bound)

-- ---- Lines

-- The draft after a line of setup.
abbrev pub with_setup : ListDraft → Option (Result Draft Reason) → Option (Result ListDraft Reason)
with_setup d None = None
with_setup d (Some (Ok draft)) = Some (Ok (record d { draft = draft }))
with_setup d (Some (Err why)) = Some (Err why)

-- A line that names a file to copy, by its first word and the words after it.
abbrev pub job_line : ListDraft → List ℕ → List (List ℕ) → Result ListDraft Reason
job_line d word words =
    if bytes_eq word (codes "up") then two_words (up_line d) words
    else if bytes_eq word (codes "down") then two_words (down_line d) words
    else Err reason.Word

-- A line by its first word and the words after it.
abbrev pub line_by : ListDraft → List ℕ → List (List ℕ) → Result ListDraft Reason
line_by d word words = or_read (with_setup d (setup_line d.draft word words)) (job_line d word words)

-- The draft before any line.
abbrev pub nothing_read : ListDraft
nothing_read = record { draft = record { script = empty_script; named = [] }; jobs = [] }

-- The list that was read, or the reason why it is refused.
abbrev pub list_in : Result ListDraft (ℕ × Reason) → Result CopyList (ℕ × Reason)
list_in (Err why) = Err why
list_in (Ok d) = Ok (record { script = d.draft.script; jobs = d.jobs })

-- The list that bytes read as; or the number of the first line that is refused, counted from 1, and the reason.
abbrev pub list_of : List ℕ → Result CopyList (ℕ × Reason)
list_of bytes = if nat_lt MAX_SCRIPT_LEN (length bytes) then Err (0, reason.Size) else
    list_in (read_by line_by 1 nothing_read (lines_of bytes))
