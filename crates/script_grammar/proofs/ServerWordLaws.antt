-- A session can be run by the script of words that were read.
use Rattle.std.proofs.Common.{◌≡◌, ◌<◌, length, map, ℕ, Bool, true, List, [], ◌∷◌, Result, Ok, Err, refl, subst, ap, ◌∙◌, arith}
use Rattle.std.specs.Prelude.{codes}
use Rattle.std.specs.Str.{bytes_eq}
use Rattle.ssh_encoding.specs.Reading.{◌>>=◌}
use Rattle.plan_model.specs.declared.call.Lane.{Lane}
use Rattle.plan_model.specs.Lanes.{are_ok}
use Rattle.script_words.specs.declared.reason.Reason.{Reason}
use Rattle.script_grammar.specs.declared.script.Script.{Script}
use Rattle.script_words.specs.Lines.{words_of}
use Rattle.script_grammar.specs.Setup.{Draft, dir_line, file_line}
use Rattle.script_grammar.specs.Scripts.{empty_script}
use Rattle.script_words.specs.declared.error.LineError.{LineError}
use Rattle.script_words.specs.declared.error.LineError.TheVariants as line
use Rattle.script_words.specs.Refusals.{RefusesLine}
use Rattle.script_grammar.specs.ServerWords.{first_line, first_line_by, offer_line, read_first, server_of}
use Rattle.script_grammar.specs.CanRun.{CanRun}
use Rattle.script_grammar.proofs.LineLaws.{Fact, Keeps, if_keeps, one_keeps, two_keeps}
use Rattle.script_grammar.proofs.SetupLaws.{Sound, dir_keeps, file_keeps, server_keeps}

-- what each of these lines keeps; none of them gives a lane
abbrev OfServer : Fact
OfServer = Sound (λ (lanes : List Lane). are_ok lanes ≡ true)

offer_keeps : (d : Draft) (words : List (List ℕ)) → OfServer d.script → Keeps OfServer (offer_line d words)
offer_keeps d [] k = record { is = tt }
offer_keeps d (kind ∷ words) k = if_keeps (bytes_eq kind (codes "cut")) _ _ (record { is = tt })
    (server_keeps _ d (kind ∷ words) k)

line_keeps : (d : Draft) (words : List (List ℕ)) → OfServer d.script → Keeps OfServer (first_line d words)
line_keeps d [] k = record { is = tt }
line_keeps d (word ∷ words) k =
    if_keeps (bytes_eq word (codes "server")) _ _ (offer_keeps d words k)
    (if_keeps (bytes_eq word (codes "file")) _ _ (two_keeps (file_line d) words (λ a b. file_keeps _ d a b k))
    (if_keeps (bytes_eq word (codes "dir")) _ _ (one_keeps (dir_line d) words (λ a. dir_keeps _ d a k))
    (record { is = tt })))

lines_keep : (d : Draft) (lines : List (List ℕ)) (script : Script) → OfServer d.script
    → (read_first d lines >>= λ x. Ok x.script) ≡ Ok script → OfServer script
lines_keep d [] script k e = let is : d.script ≡ script = cc e in subst (λ (s : Script). OfServer s) is k
lines_keep d (line ∷ lines) script k e = by_line (first_line d (words_of line)) (line_keeps d (words_of line) k)
    (λ next now is. lines_keep next lines script now is) e
  where
    by_line : (r : Result Draft Reason) → Keeps OfServer r → ((next : Draft) → OfServer next.script
        → (read_first next lines >>= λ x. Ok x.script) ≡ Ok script → OfServer script)
        → ((r >>= λ next. read_first next lines) >>= λ x. Ok x.script) ≡ Ok script → OfServer script
    by_line (Err why) kept more f = absurd cc
    by_line (Ok next) kept more f = more next kept.is f

pub server_can_run : (lines : List (List ℕ)) (script : Script) → server_of lines ≡ Ok script → CanRun script
server_can_run lines script e =
    let s = lines_keep (record { script = empty_script; named = [] }) lines script
    (refl, omega arith, omega arith, refl, refl) e in
    record { begins = s.0; known = s.1; writes = s.2; unfeigned = s.3; lanes = s.4 }

-- ---- one word more

abbrev pub before_words : Draft
before_words = record { script = empty_script; named = [] }

pub word_read : (d more : Draft) (word : List ℕ) (words : List (List ℕ)) → first_line d (words_of word) ≡ Ok more
    → read_first d (word ∷ words) ≡ read_first more words
word_read d more word words read = rw read refl

pub words_end : (d : Draft) (all words : List (List ℕ)) → words ≡ [] → read_first before_words all ≡ read_first d words
    → server_of all ≡ Ok d.script
words_end d all words none same = let e : read_first before_words all ≡ Ok d = same ∙ ap (read_first d) none in
    rw e refl

refused_so : (d : Draft) (why : Reason) (word : List ℕ) (words all : List (List ℕ)) → read_first before_words all
    ≡ read_first d (word ∷ words) → first_line d (words_of word) ≡ Err why → server_of all ≡ Err why
refused_so d why word words all same refused = rw (same) (rw refused refl)

pub word_refused : (d : Draft) (e : LineError) (word : List ℕ) (words all : List (List ℕ)) → read_first before_words all
    ≡ read_first d (word ∷ words) → RefusesLine (first_line d (words_of word)) e → RefusesLine (server_of all) e
word_refused d line.OutOfMemory word words all same refused = tt
word_refused d (line.Refused why) word words all same refused = refused_so d why word words all same refused

pub mapped_none : {A B : Type 0} (f : A → B) (xs : List A) → length xs < 1 → map f xs ≡ []
mapped_none f [] lt = refl
mapped_none f (x ∷ xs) lt = absurd (omega (arith, lt))
