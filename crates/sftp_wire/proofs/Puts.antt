-- What is written after what was there.
use Rattle.std.proofs.Common.{◌≡◌, ◌<◌, ◌^◌, arith, ℕ, List, [], ◌++◌, length, take, refl, ap, sym, ◌∙◌, append_assoc, append-nil, Result, Ok, Err, Option}
use Rattle.std.specs.Prelude.{OnOk}
use Rattle.ssh_encoding.specs.declared.error.Error.{Error}
use Rattle.ssh_encoding.specs.Writing.{WritesValue, len_refusal}
use Rattle.ssh_encoding.proofs.Parts.{len_fits}
use Rattle.sftp_wire.specs.Body.{AppendsBytes}

pub written_ok : {T : Type 0} (old new list : List ℕ) (r : Result T Error) (refusal : Option Error)
    → WritesValue old new r list refusal → OnOk r (new ≡ old ++ list)
written_ok old new list (Ok v) refusal h = h.0
written_ok old new list (Err e) refusal h = tt

pub written_grows : {T : Type 0} (old new list : List ℕ) (r : Result T Error) (refusal : Option Error)
    → WritesValue old new r list refusal → AppendsBytes old new
written_grows old new list (Ok v) refusal h = record { more = list; is = h.0 }
written_grows old new list (Err e) refusal h = record { more = h.0.part; is = h.0.added }

pub grows_same : (old new : List ℕ) → new ≡ old → AppendsBytes old new
grows_same old new h = record { more = []; is = h ∙ sym (append-nil old) }

pub grows_trans : (old mid new : List ℕ) → AppendsBytes old mid → AppendsBytes mid new → AppendsBytes old new
grows_trans old mid new h k = record {
  more = h.more ++ k.more;
  is = k.is ∙ ap (λ (l : List ℕ). l ++ k.more) h.is
      ∙ append_assoc old h.more k.more;
}

-- a length that was written fits four bytes
pub written_small : {T : Type 0} (old new list : List ℕ) (r : Result T Error) (n : ℕ)
    → WritesValue old new r list (len_refusal n) → OnOk r (n < 2 ^ 32)
written_small old new list (Ok v) n h = omega (arith, len_fits n h.1)
written_small old new list (Err e) n h = tt

-- two lists, one after another
pub both_written : (old mid new a b : List ℕ) → mid ≡ old ++ a → new ≡ mid ++ b → new ≡ old ++ (a ++ b)
both_written old mid new a b h k = k ∙ ap (λ (l : List ℕ). l ++ b) h ∙ append_assoc old a b

-- the same, where the second may be refused
pub then_written : {T : Type 0} (old mid new a b : List ℕ) (r : Result T Error) → mid ≡ old ++ a
    → OnOk r (new ≡ mid ++ b) → OnOk r (new ≡ old ++ (a ++ b))
then_written old mid new a b (Ok v) h k = both_written old mid new a b h k
then_written old mid new a b (Err e) h k = tt

pub last_written : {T : Type 0} (old new a : List ℕ) (r : Result T Error) → OnOk r (new ≡ old ++ a)
    → OnOk r (new ≡ old ++ (a ++ []))
last_written old new a r h = rw append-nil h

pub ruleset puts = (written_ok, written_grows, written_small, grows_same, grows_trans, append_assoc, append-nil)
