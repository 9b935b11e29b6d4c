-- Which word is refused first.
use Rattle.std.proofs.Common.{◌≡◌, ◌<◌, ℕ, ◌+◌, ◌-◌, List, length, take, Err, ap, sym, ◌∙◌, subst, arith}
use Rattle.std.specs.Prelude.{IsOk, map}
use Rattle.std.proofs.lemmas.List.{length-map, take-map, take_all}
use Rattle.script_words.specs.declared.reason.Reason.{Reason}
use Rattle.script_grammar.specs.ServerWords.{server_of}
use Rattle.sftp_serve.specs.Words.{IsRefusedWord}

-- one word more is read
pub one_more : {A : Type 0} (bytes : A → List ℕ) (words : List A) (read : ℕ)
    → IsOk (server_of (map bytes (take (read + 1) words))) → IsOk (server_of (take (read + 1) (map bytes words)))
one_more bytes words read ok = subst (λ w. IsOk (server_of w)) (sym (take-map bytes (read + 1) words)) ok

-- it is refused
pub refused_next : {A : Type 0} (bytes : A → List ℕ) (words : List A) (read : ℕ) (why : Reason) → read < length words
    → IsOk (server_of (take read (map bytes words))) → server_of (map bytes (take (read + 1) words)) ≡ Err why
    → IsRefusedWord (map bytes words) (read + 1) why
refused_next bytes words read why lt before e =
    let len : length (map bytes words) ≡ length words = length-map words bytes in
    let less : read ≡ (read + 1) - 1 = omega arith in
    record {
      some = omega arith;
      within = omega (arith, lt, len);
      before = subst (λ (n : ℕ). IsOk (server_of (take n (map bytes words)))) less before;
      refused = ap server_of (take-map bytes (read + 1) words) ∙ e;
    }

-- all are read
pub all_read : {A : Type 0} (bytes : A → List ℕ) (words : List A)
    → IsOk (server_of (take (length words) (map bytes words)))
    → IsOk (server_of (map bytes words))
all_read bytes words read =
    let len : length (map bytes words) ≡ length words = length-map words bytes in
    subst (λ w. IsOk (server_of w)) (take_all (length words) (map bytes words) (omega (arith, len))) read
