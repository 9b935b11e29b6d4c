-- Steps of several calls of a wire.
use Rattle.std.proofs.Common.{◌≡◌, ◌+◌, ◌-◌, ℕ, List, [], ◌∷◌, ◌++◌, length, refl, ap, sym, ◌∙◌, subst, append_assoc, arith, length-append, inl, inr}
use Rattle.std.proofs.lemmas.List.{append-nil}
use Rattle.link_duplex.specs.WireSteps.{WireStep, Put, Got, Waited, LogsSteps, MayWaitFor, FoundEnd, WaitsForBoth, bytes_got, bytes_put}
use Rattle.link_duplex.specs.declared.wire.Readiness.{Readiness}
use Rattle.link_duplex.specs.declared.wire.Readiness.TheVariants.{Readable, Writable, Either}

pub acted_none : (limit ahead owed : ℕ) (x : List WireStep) → LogsSteps limit ahead owed [] [] x x
acted_none limit ahead owed x = record { steps = []; all = refl; puts = refl; gots = refl; waits = tt }

pub acted_put : (limit ahead owed : ℕ) (p g piece : List ℕ) (x y z : List WireStep) → LogsSteps limit ahead owed p g x y
    → z ≡ Put piece ∷ y → LogsSteps limit ahead owed (p ++ piece) g x z
acted_put limit ahead owed p g piece x y z did e = record {
  steps = Put piece ∷ did.steps;
  all = e ∙ ap (λ (w : List WireStep). Put piece ∷ w) did.all;
  puts = ap (λ (w : List ℕ). w ++ piece) did.puts;
  gots = did.gots;
  waits = did.waits;
}

pub acted_got : (limit ahead owed : ℕ) (p g piece : List ℕ) (x y z : List WireStep) → LogsSteps limit ahead owed p g x y
    → z ≡ Got piece ∷ y → LogsSteps limit ahead owed p (g ++ piece) x z
acted_got limit ahead owed p g piece x y z did e = record {
  steps = Got piece ∷ did.steps;
  all = e ∙ ap (λ (w : List WireStep). Got piece ∷ w) did.all;
  puts = did.puts;
  gots = ap (λ (w : List ℕ). w ++ piece) did.gots;
  waits = did.waits;
}

pub acted_wait : (limit ahead owed : ℕ) (p g : List ℕ) (readiness : Readiness) (x y z : List WireStep)
    (did : LogsSteps limit ahead owed p g x y)
    → MayWaitFor limit ahead owed readiness did.steps → z ≡ Waited readiness ∷ y → LogsSteps limit ahead owed p g x z
acted_wait limit ahead owed p g readiness x y z did may e = record {
  steps = Waited readiness ∷ did.steps;
  all = e ∙ ap (λ (w : List WireStep). Waited readiness ∷ w) did.all;
  puts = did.puts;
  gots = did.gots;
  waits = (may, did.waits);
}

-- ---- Several calls

pub bytes_put_both : (later before : List WireStep) → bytes_put (later ++ before) ≡ bytes_put before ++ bytes_put later
bytes_put_both [] before = sym (append-nil (bytes_put before))
bytes_put_both (Put piece ∷ later) before =
    ap (λ (w : List ℕ). w ++ piece) (bytes_put_both later before)
    ∙ append_assoc (bytes_put before) (bytes_put later) piece
bytes_put_both (Got piece ∷ later) before = bytes_put_both later before
bytes_put_both (Waited readiness ∷ later) before = bytes_put_both later before

pub bytes_got_both : (later before : List WireStep) → bytes_got (later ++ before) ≡ bytes_got before ++ bytes_got later
bytes_got_both [] before = sym (append-nil (bytes_got before))
bytes_got_both (Put piece ∷ later) before = bytes_got_both later before
bytes_got_both (Got piece ∷ later) before =
    ap (λ (w : List ℕ). w ++ piece) (bytes_got_both later before)
    ∙ append_assoc (bytes_got before) (bytes_got later) piece
bytes_got_both (Waited readiness ∷ later) before = bytes_got_both later before

met_later : (later before : List WireStep) → FoundEnd later → FoundEnd (later ++ before)
met_later [] before h = absurd h
met_later (Put piece ∷ later) before h = met_later later before h
met_later (Got piece ∷ later) before (inl e) = inl e
met_later (Got piece ∷ later) before (inr h) = inr (met_later later before h)
met_later (Waited readiness ∷ later) before h = met_later later before h

may_later : (limit ahead owed : ℕ) (readiness : Readiness) (later before : List WireStep)
    → MayWaitFor limit (ahead + length (bytes_got before)) (owed - length (bytes_put before)) readiness later
    → MayWaitFor limit ahead owed readiness (later ++ before)
may_later limit ahead owed Either later before h = tt
may_later limit ahead owed Writable later before (inl le) =
    let both : length (bytes_got (later ++ before)) ≡ length (bytes_got before) + length (bytes_got later) =
    ap (λ (w : List ℕ). length w) (bytes_got_both later before) ∙ length-append (bytes_got before) (bytes_got later) in
    inl (omega (arith, le, both))
may_later limit ahead owed Writable later before (inr h) = inr (met_later later before h)
may_later limit ahead owed Readable later before h =
    let both : length (bytes_put (later ++ before)) ≡ length (bytes_put before) + length (bytes_put later) =
    ap (λ (w : List ℕ). length w) (bytes_put_both later before) ∙ length-append (bytes_put before) (bytes_put later) in
    omega (arith, h, both)

well_later : (limit ahead owed : ℕ) (later before : List WireStep)
    → WaitsForBoth limit (ahead + length (bytes_got before)) (owed - length (bytes_put before)) later
    → WaitsForBoth limit ahead owed before
    → WaitsForBoth limit ahead owed (later ++ before)
well_later limit ahead owed [] before h k = k
well_later limit ahead owed (Put piece ∷ later) before h k = well_later limit ahead owed later before h k
well_later limit ahead owed (Got piece ∷ later) before h k = well_later limit ahead owed later before h k
well_later limit ahead owed (Waited readiness ∷ later) before h k =
    (may_later limit ahead owed readiness later before h.0, well_later limit ahead owed later before h.1 k)

pub acted_on : (limit ahead owed more left : ℕ) (p g q h : List ℕ) (x y z : List WireStep)
    → LogsSteps limit ahead owed p g x y
    → more ≡ ahead + length g → left ≡ owed - length p → LogsSteps limit more left q h y z
    → LogsSteps limit ahead owed (p ++ q) (g ++ h) x z
acted_on limit ahead owed more left p g q h x y z first is_more is_left later =
    let at_more : more ≡ ahead + length (bytes_got first.steps) = is_more
    ∙ ap (λ (w : List ℕ). ahead + length w) (sym first.gots) in
    let at_left : left ≡ owed - length (bytes_put first.steps) = is_left
    ∙ ap (λ (w : List ℕ). owed - length w) (sym first.puts) in
    record {
      steps = later.steps ++ first.steps;
      all = later.all ∙ (ap (λ (w : List WireStep). later.steps ++ w) first.all
          ∙ sym (append_assoc later.steps first.steps x));
      puts = bytes_put_both later.steps first.steps ∙ (λ i. first.puts i ++ later.puts i);
      gots = bytes_got_both later.steps first.steps ∙ (λ i. first.gots i ++ later.gots i);
      waits = well_later limit ahead owed later.steps first.steps
          (subst (λ (k : ℕ). WaitsForBoth limit k (owed - length (bytes_put first.steps)) later.steps) at_more
          (subst (λ (k : ℕ). WaitsForBoth limit more k later.steps) at_left later.waits)) first.waits;
    }
