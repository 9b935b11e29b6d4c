-- Worked examples of the bytes that a download has returned. Its READs ask for four bytes each.
use Rattle.std.specs.Prelude.{◌≡◌, ℕ, ◌==◌, List, [], ◌∷◌, codes, Some, None, if◌then◌else◌, refl}
use Rattle.sftp_model.specs.Answers.{status}
use Rattle.sftp_model.specs.declared.reply.Reply.{Reply}
use Rattle.sftp_model.specs.declared.reply.Reply.TheVariants as reply
use Rattle.sftp_streams.specs.Streams.{PiecesAt, data_of, unbroken_run}

-- The replies to the READs at these offsets.
abbrev answered : List (ℕ × Reply) → PiecesAt
answered [] offset = None
answered (r ∷ later) offset = if r.0 == offset then data_of (Some r.1) else answered later offset

abbrev handed : ℕ → List (ℕ × Reply) → List ℕ
handed first replies = unbroken_run 8 (answered replies) first

abbrev got : ℕ → List ℕ → ℕ × Reply
got offset bytes = (offset, reply.Content bytes)

abbrev ended : ℕ → ℕ × Reply
ended offset = (offset, status 1)

-- ---- In order

pub none : handed 0 [] ≡ []
none = refl

pub first : handed 0 (got 0 (codes "abcd") ∷ []) ≡ codes "abcd"
first = refl

pub in_order : handed 0 (got 0 (codes "abcd") ∷ got 4 (codes "efgh") ∷ ended 8 ∷ []) ≡ codes "abcdefgh"
in_order = refl

-- ---- Out of order: early bytes are not included until those before them came

pub early : handed 0 (got 4 (codes "efgh") ∷ got 8 (codes "ij") ∷ []) ≡ []
early = refl

pub gap : handed 0 (got 8 (codes "ij") ∷ got 0 (codes "abcd") ∷ []) ≡ codes "abcd"
gap = refl

pub gap_filled : handed 0 (got 8 (codes "ij") ∷ got 0 (codes "abcd") ∷ got 4 (codes "efgh") ∷ [])
    ≡ codes "abcdefghij"
gap_filled = refl

-- ---- A short reply: the bytes after it are not included until the rest came

pub short : handed 0 (got 0 (codes "ab") ∷ got 4 (codes "efgh") ∷ []) ≡ codes "ab"
short = refl

pub rest_came : handed 0 (got 0 (codes "ab") ∷ got 4 (codes "efgh") ∷ got 2 (codes "cd") ∷ []) ≡ codes "abcdefgh"
rest_came = refl

pub byte_by_byte : handed 0 (got 0 (codes "a") ∷ got 1 (codes "b") ∷ got 2 (codes "c") ∷ ended 3 ∷ []) ≡ codes "abc"
byte_by_byte = refl

-- ---- An end, or a refusal, before bytes that came: they are not included

pub early_end : handed 0 (ended 0 ∷ got 4 (codes "efgh") ∷ []) ≡ []
early_end = refl

pub end_between : handed 0 (got 0 (codes "abcd") ∷ ended 4 ∷ got 8 (codes "ij") ∷ []) ≡ codes "abcd"
end_between = refl

pub refusal : handed 0 (got 0 (codes "abcd") ∷ (4, status 4) ∷ got 8 (codes "ij") ∷ []) ≡ codes "abcd"
refusal = refl

-- ---- From an offset

pub from_offset : handed 4 (got 4 (codes "efgh") ∷ got 8 (codes "ij") ∷ []) ≡ codes "efghij"
from_offset = refl
