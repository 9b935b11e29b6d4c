-- Worked lanes and outcomes: names that belong to one lane alone, the bytes written and read under one, and names that
-- belong to no lane alone.
use Rattle.std.specs.Prelude.{◌≡◌, ◌≢◌, ◌<◌, ℕ, zero, suc, true, false, List, Some, [], ◌∷◌, codes, length, refl}
use Rattle.std.proofs.Common.{arith, subst}
use Rattle.ssh_encoding.specs.Writing.{string, uint32}
use Rattle.sftp_model.specs.Frames.{attributes, no_attributes, request_body}
use Rattle.sftp_model.specs.declared.outcome.Outcome.{Outcome}
use Rattle.sftp_model.specs.declared.outcome.Outcome.TheVariants as outcome
use Rattle.machine_model.specs.Components.{components}
use Rattle.sftp_model.specs.OpenOptions.{nothing_chosen}
use Rattle.plan_model.specs.declared.call.Call.{Call}
use Rattle.plan_model.specs.declared.call.Call.TheVariants as call
use Rattle.plan_model.specs.declared.call.Lane.{Lane}
use Rattle.session_model.specs.Readings.{outcomes_below}
use Rattle.session_model.specs.RowWords.{to_read}
use Rattle.run_laws.specs.ReadBackRows.{name}
use Rattle.run_laws.specs.Steps.{HasBytes, RefuseNone}
use Rattle.run_laws.specs.Flushes.{FlushNumbers, FlushesLast, IsAloneBut, is_one_of_four}
use Rattle.run_laws.specs.NameCalls.{all_keep_off, may_own}
use Rattle.run_laws.specs.ReadsBack.{GotBytes, IsAlone, ReadsNamed, WritesLast, call_in, calls_in}
use Rattle.run_laws.specs.RoundTripRows.{left_there}
use Rattle.run_laws.specs.RoundTripRun.{no_such_file, writes_then_reads, written_then_read}

-- ---- The run in which a lane writes a and reads it, and another lane reads b

abbrev pub lanes : List Lane
lanes = writes_then_reads.lanes

-- The reported outcomes.
abbrev pub outcomes : List (List Outcome)
outcomes = (outcome.Done ∷ outcome.Bytes (codes "hi") ∷ []) ∷ (no_such_file ∷ []) ∷ []

pub reported : outcomes_below written_then_read (length lanes) ≡ outcomes
reported = refl

pub none_refused : RefuseNone []
none_refused = tt

pub alone : IsAlone lanes name 0
unfolding components
alone = record { own = refl; others = others }
  where
    others : (other : ℕ) → other ≢ 0 → all_keep_off name [] (calls_in lanes other) ≡ true
    others zero ne = absurd (ne refl)
    others (suc zero) ne = refl
    others (suc (suc other)) ne = refl

pub writes_last : WritesLast lanes outcomes name 0 0 1 (codes "hi")
unfolding components
writes_last = record { path = codes "a"; is = refl; denotes = refl; ends = refl; earlier = omega arith; last = refl }

pub reads : ReadsNamed lanes outcomes name 0 1 (outcome.Bytes (codes "hi"))
unfolding components request_body string uint32 attributes
reads = record {
  path = codes "a";
  bound = 4;
  is = refl;
  denotes = refl;
  short = refl;
  ends = refl;
  uncancelled =
      λ e. cc;
}

-- No later call writes the file, which keeps these bytes.
pub writes_to_end : WritesLast lanes outcomes name 0 0 (length (calls_in lanes 0)) (codes "hi")
unfolding components
writes_to_end = record { path = codes "a"; is = refl; denotes = refl; ends = refl; earlier = omega arith; last = refl }

pub is_left : HasBytes left_there name (codes "hi")
is_left = record { file = 0; is = refl; bytes_are = refl }

-- ---- Lanes of many calls

-- Between its write and its read the lane asks for the file's attributes and creates and removes other names. Another
-- lane opens, reads and closes b, moves c, and asks for the attributes of a. A third writes a in the directory d, and
-- asks for the attributes of a in the root.
abbrev pub many_calls : List Lane
many_calls =
    record {
      calls = call.FsWrite (codes "a") (codes "hi")
          ∷ call.Stat (codes "a")
          ∷ call.Mkdir (codes "d")
          ∷ call.Remove (codes "/d/../b")
          ∷ call.Lstat (codes "/a")
          ∷ call.FsRead (codes "a") 4
          ∷ [];
    }
    ∷ record {
      calls = call.OpenFile 0 to_read (codes "b")
          ∷ call.ReadAll 0 4
          ∷ call.Close 0
          ∷ call.Rename (codes "c") (codes "/d/a")
          ∷ call.Stat (codes "a")
          ∷ [];
    }
    ∷ record {
      calls = call.Cwd (codes "d") ∷ call.FsWrite (codes "a") (codes "no") ∷ call.Cwd (codes "/") ∷ call.Stat
          (codes "a") ∷ [];
    }
    ∷ []

pub many_alone : IsAlone many_calls name 0
unfolding components
many_alone = record { own = refl; others = others }
  where
    others : (other : ℕ) → other ≢ 0 → all_keep_off name [] (calls_in many_calls other) ≡ true
    others zero ne = absurd (ne refl)
    others (suc zero) ne = refl
    others (suc (suc zero)) ne = refl
    others (suc (suc (suc other))) ne = refl

-- ---- A lane that flushes

-- It opens a with create and truncate, buffers it, writes to it, asks for the file's attributes, flushes it and reads
-- it.
abbrev pub flushing : List Lane
flushing =
    record {
      calls = call.OpenFile 0 (record nothing_chosen { write = true; create = true; truncate = true }) (codes "a")
          ∷ call.Buffer 0 8
          ∷ call.BufWriteAll 0 (codes "hi")
          ∷ call.Stat (codes "a")
          ∷ call.BufFlush 0
          ∷ call.FsRead (codes "/a") 4
          ∷ [];
    }
    ∷ []

abbrev pub flushed_outcomes : List (List Outcome)
flushed_outcomes =
    (outcome.Opened
    ∷ outcome.Done
    ∷ outcome.Done
    ∷ outcome.Meta no_attributes
    ∷ outcome.Done
    ∷ outcome.Bytes (codes "hi")
    ∷ [])
    ∷ []

abbrev pub four : FlushNumbers
four = record { opener = 0; bufferer = 1; writer = 2; flusher = 4 }

pub flushing_alone : IsAloneBut flushing name 0 four
unfolding components
flushing_alone = record { own = own; others = others }
  where
    is_this : (d c : Call) → Some d ≡ Some c → may_own name d ≡ true → may_own name c ≡ true
    is_this d c same may = (let one : d ≡ c = cc in subst (λ (x : Call). may_own name x ≡ true) one may)

    own : (k : ℕ) (c : Call) → call_in flushing 0 k ≡ Some c → is_one_of_four four k ≡ false → may_own name c ≡ true
    own zero c is out = cc
    own (suc zero) c is out = cc
    own (suc (suc zero)) c is out = cc
    own (suc (suc (suc zero))) c is out = is_this (call.Stat (codes "a")) c is refl
    own (suc (suc (suc (suc zero)))) c is out = cc
    own (suc (suc (suc (suc (suc zero))))) c is out = is_this (call.FsRead (codes "/a") 4) c is refl
    own (suc (suc (suc (suc (suc (suc k)))))) c is out = cc

    others : (other : ℕ) → other ≢ 0 → all_keep_off name [] (calls_in flushing other) ≡ true
    others zero ne = absurd (ne refl)
    others (suc other) ne = refl

-- Before its read, and up to the end.
pub flushes_before : FlushesLast flushing flushed_outcomes name 0 four 5 (codes "hi")
unfolding components
flushes_before =
    record {
      slot = 0;
      len = 8;
      options = record nothing_chosen { write = true; create = true; truncate = true };
      path = codes "a";
      anew = refl;
      denotes = refl;
      opens = refl;
      buffers = refl;
      writes = refl;
      flushes = refl;
      opened = refl;
      buffered = refl;
      written = refl;
      flushed = refl;
      in_order = (omega arith, omega arith, omega arith);
      earlier = omega arith;
      last = refl;
    }

pub flushes_last : FlushesLast flushing flushed_outcomes name 0 four 6 (codes "hi")
unfolding components
flushes_last =
    record {
      slot = 0;
      len = 8;
      options = record nothing_chosen { write = true; create = true; truncate = true };
      path = codes "a";
      anew = refl;
      denotes = refl;
      opens = refl;
      buffers = refl;
      writes = refl;
      flushes = refl;
      opened = refl;
      buffered = refl;
      written = refl;
      flushed = refl;
      in_order = (omega arith, omega arith, omega arith);
      earlier = omega arith;
      last = refl;
    }

pub reads_flushed : GotBytes flushing flushed_outcomes name 0 5 (codes "hi")
unfolding components
reads_flushed = record { path = codes "/a"; bound = 4; is = refl; denotes = refl; ends = refl }

-- A read before the flush is not one after it.
pub read_before_is_none : FlushesLast flushing flushed_outcomes name 0 four 2 (codes "hi") → ⊥
read_before_is_none f = (let early : 4 < 2 = f.earlier in omega (arith, early))

-- Nor is it if a whole write comes between.
abbrev pub flushes_and_writes : List Lane
flushes_and_writes =
    record {
      calls = call.OpenFile 0 (record nothing_chosen { write = true; create = true; truncate = true }) (codes "a")
          ∷ call.Buffer 0 8
          ∷ call.BufWriteAll 0 (codes "hi")
          ∷ call.FsWrite (codes "/a") (codes "ho")
          ∷ call.BufFlush 0
          ∷ call.FsRead (codes "a") 4
          ∷ [];
    }
    ∷ []

pub written_since_is_none : (outcomes : List (List Outcome))
    → FlushesLast flushes_and_writes outcomes name 0 four 5 (codes "hi") → ⊥
unfolding components
written_since_is_none outcomes f = (let again = f.last in cc)

-- Nor does the name belong to the lane alone, except for the four calls, if the lane opens it again between.
abbrev pub opens_again : List Lane
opens_again =
    record {
      calls = call.OpenFile 0 (record nothing_chosen { write = true; create = true; truncate = true }) (codes "a")
          ∷ call.Buffer 0 8
          ∷ call.BufWriteAll 0 (codes "hi")
          ∷ call.OpenFile 1 (record nothing_chosen { write = true }) (codes "a")
          ∷ call.BufFlush 0
          ∷ [];
    }
    ∷ []

pub opened_again_is_none : IsAloneBut opens_again name 0 four → ⊥
unfolding components
opened_again_is_none alone =
    (let again = alone.own 3 (call.OpenFile 1 (record nothing_chosen { write = true }) (codes "a")) refl refl in cc)

-- ---- Cases to which the record does not apply

-- A lane of these calls beside one that writes a.
abbrev pub beside : List Call → List Lane
beside calls = record { calls = call.FsWrite (codes "a") (codes "hi") ∷ [] } ∷ record { calls = calls } ∷ []

-- Another lane also reads the file, removes it, moves a name that it lies within, or removes it from another directory.
pub shared_is_none : IsAlone (beside (call.FsRead (codes "/a") 4 ∷ [])) name 0 → ⊥
unfolding components
shared_is_none alone = (let shared = alone.others 1 (λ e. cc) in cc)

pub removed_is_none : IsAlone (beside (call.Remove (codes "a") ∷ [])) name 0 → ⊥
unfolding components
removed_is_none alone = (let shared = alone.others 1 (λ e. cc) in cc)

pub moved_is_none : IsAlone (beside (call.Rename (codes "a") (codes "b") ∷ [])) name 0 → ⊥
unfolding components
moved_is_none alone = (let shared = alone.others 1 (λ e. cc) in cc)

pub directory_is_none : IsAlone (beside (call.Cwd (codes "/") ∷ call.Remove (codes "a") ∷ [])) name 0 → ⊥
unfolding components
directory_is_none alone = (let shared = alone.others 1 (λ e. cc) in cc)

-- Between the two calls the lane writes the file again.
abbrev pub writes_again : List Lane
writes_again = record {
  calls = call.FsWrite (codes "a") (codes "hi") ∷ call.FsWrite (codes "/a") (codes "ho") ∷
      call.FsRead (codes "a") 4 ∷ [];
} ∷ []

pub again_is_none : (outcomes : List (List Outcome)) → WritesLast writes_again outcomes name 0 0 2 (codes "hi") → ⊥
unfolding components
again_is_none outcomes w = (let again = w.last in cc)
