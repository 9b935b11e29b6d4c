use Rattle.std.proofs.Common.{◌≡◌, ℕ, ◌-◌, List, ◌++◌, length, take, drop, ap, ◌∙◌, arith}
use Rattle.std.proofs.lemmas.List.{length-drop, take_all}
use Rattle.std.specs.Prelude.{codes, decimal, min}
use Rattle.std.specs.Option.{unwrap_or}
use Rattle.sftp_serve.specs.Details.{mode_text, spaces_before}
use Rattle.sftp_serve.proofs.details.long_name.Goals as goal

pub returns : goal.returns
returns c =
    let n : ℕ = unwrap_or c.args.attrs.size 0 in
    let mode : List ℕ = mode_text c.args.attrs.permissions in
    let owner : List ℕ = codes "    1 root     root     " in
    let date : List ℕ = codes " Jan  1  1970 " in
    let digits : c.as_bytes-digits.result.now ≡ decimal n =
    c.as_bytes-digits.ensures.value ∙ c.format.ensures.text ∙ ap decimal c.unwrap_or.ensures in
    let cut : c.min.result ≡ min (length (decimal n)) 8 =
    c.min.ensures ∙ ap (λ (l : List ℕ). min (length l) 8) digits in
    let blank : List ℕ = codes "        " in
    let rest : take (8 - c.min.result) (drop c.min.result blank) ≡ drop c.min.result blank =
    let l = length-drop c.min.result blank in take_all (8 - c.min.result) (drop c.min.result blank) (omega (arith, l)) in
    let begun : c.in_ok-text.text.items ≡ mode = c.in_ok-text.ensures.items ∙ c.mode_text.ensures in
    let owned : c.extend_from_slice.new.self.items ≡ mode ++ owner =
    c.in_ok-extend_from_slice.ensures.items ∙ ap (λ (l : List ℕ). l ++ owner) begun in
    let spaced : c.extend_from_slice-2.new.self.items ≡ mode ++ owner ++ spaces_before n =
    c.in_ok-extend_from_slice-2.ensures.items ∙ (λ i. owned i ++ (rest ∙ ap (λ (k : ℕ). drop k blank) cut) i) in
    let sized : c.extend_from_slice-3.new.self.items ≡ mode ++ owner ++ spaces_before n ++ decimal n =
    c.in_ok-extend_from_slice-3.ensures.items ∙ (λ i. spaced i ++ digits i) in
    let dated : c.extend_from_slice-4.new.self.items ≡ mode ++ owner ++ spaces_before n ++ decimal n ++ date =
    c.in_ok-extend_from_slice-4.ensures.items ∙ ap (λ (l : List ℕ). l ++ date) sized in
    c.in_ok-extend_from_slice-5.ensures.items ∙ ap (λ (l : List ℕ). l ++ c.args.name.now) dated
