-- believed
-- The numbers of a run, and their text.
use Rattle.std.specs.Prelude.{ℕ, ◌-◌, ◌^◌, Bool, true, false, List, ◌++◌, codes, length, map, min, reverse}
use Rattle.std.specs.List.{count_by, sum_by}
use Rattle.sftp_model.specs.declared.outcome.Outcome.{Outcome}
use Rattle.sftp_model.specs.declared.outcome.Outcome.TheVariants as outcome
use Rattle.session_model.specs.declared.entry.Entry.TheVariants as entry
use Rattle.session_model.specs.declared.event.Event.{Event}
use Rattle.session_model.specs.declared.report.Report.{Report}
use Rattle.session_model.specs.Readings.{count_sent}
use Rattle.script_text.specs.Texts.{line, number_text}
use Rattle.sftp_cli.specs.declared.kind.Kind.{Kind}
use Rattle.sftp_cli.specs.declared.kind.Kind.TheVariants as kind
use Rattle.sftp_cli.specs.declared.summary.Summary.{Summary}

-- ---- The numbers

-- The number if it fits in 64 bits, otherwise the greatest of these.
abbrev pub capped_at_u64 : ℕ → ℕ
capped_at_u64 n = min n (2 ^ 64 - 1)

-- The number of requests that were sent in these events.
abbrev pub requests_in : List Event → ℕ
requests_in events = count_sent (reverse (map (λ e. entry.Event e) events))

-- True if the outcome is of this kind.
abbrev pub is_of : Kind → Outcome → Bool
is_of kind.Done outcome.Done = true
is_of kind.Read (outcome.Bytes bytes) = true
is_of kind.Meta (outcome.Meta attrs) = true
is_of kind.Refused (outcome.Refused why) = true
is_of k other = false

-- The number of outcomes of all lanes that are of this kind.
abbrev pub count_in : Kind → List (List Outcome) → ℕ
count_in k lanes = capped_at_u64 (sum_by (λ outcomes. count_by (is_of k) outcomes) lanes)

-- The summary of a report, and of this many files with this many bytes.
abbrev pub summary_of : Report → ℕ → ℕ → Summary
summary_of report files bytes = record {
  lanes = length report.outcomes;
  calls = capped_at_u64 (sum_by length report.outcomes);
  requests = requests_in report.trace;
  done = count_in kind.Done report.outcomes;
  read = count_in kind.Read report.outcomes;
  meta = count_in kind.Meta report.outcomes;
  refused = count_in kind.Refused report.outcomes;
  files = files;
  bytes = bytes;
}

-- ---- The text

-- The line of a number.
abbrev pub number_line : List ℕ → ℕ → List ℕ
number_line word n = line (word ++ codes " " ++ number_text n)

-- The lines on the requests.
abbrev pub asked_text : Summary → List ℕ
asked_text s = number_line (codes "lanes") s.lanes ++ number_line (codes "calls") s.calls
    ++ number_line (codes "requests") s.requests

-- The lines on the outcomes.
abbrev pub ended_text : Summary → List ℕ
ended_text s = number_line (codes "done") s.done ++ number_line (codes "read") s.read
    ++ number_line (codes "meta") s.meta ++ number_line (codes "refused") s.refused

-- The lines on the files that are left.
abbrev pub left_text : Summary → List ℕ
left_text s = number_line (codes "files") s.files ++ number_line (codes "bytes") s.bytes

-- A line for each number.
abbrev pub summary_text : Summary → List ℕ
summary_text s = asked_text s ++ ended_text s ++ left_text s
