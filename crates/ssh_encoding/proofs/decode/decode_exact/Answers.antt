use Rattle.std.proofs.Common.{ℕ, List, Result, Ok, Err}
use Rattle.std.specs.Prelude.{IfOk}
use Rattle.ssh_encoding.specs.Reading.{DecodesAs}
use Rattle.ssh_encoding.specs.Spelling.{IsExact, BeginsWithText}
use Rattle.ssh_encoding.proofs.decode.decode_exact.Goals as goal

found_from : {T S E : Type 0} (seen : T → S) (memory : E → Type 0) (spells : S → List ℕ → Type 0)
    (reading : List ℕ → Result (S × List ℕ) E) (bytes rest : List ℕ) (r : Result T E)
    → ((v : S) → IsExact spells reading bytes rest v) → DecodesAs seen memory rest r (reading bytes)
    → IfOk r (λ v. BeginsWithText (spells (seen v)) bytes rest)
found_from seen memory spells reading bytes rest (Ok v) exact h = (exact (seen v)).takes h
found_from seen memory spells reading bytes rest (Err e) exact h = tt

pub returns-clause-found : goal.returns-clause-found
returns-clause-found g c = found_from g.T.Decode.seen _ g.T.Decode.spells g.T.Decode.reading _ _ c.decode.result
    (λ v. g.met.T.Decode.exact _ _ v) c.decode.ensures.read

pub returns-clause-only : goal.returns-clause-only
returns-clause-only g c = λ v rest h. rw (← (g.met.T.Decode.exact _ rest v).again h) c.decode.ensures.read
