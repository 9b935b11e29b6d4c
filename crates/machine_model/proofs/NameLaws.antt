-- Names and handles are told apart.
use Rattle.std.proofs.Common.{◌≡◌, ◌≢◌, true, false, refl, sym, ◌∙◌}
use Rattle.std.specs.Str.{bytes_eq}
use Rattle.std.proofs.lemmas.Slice.Eq.{bytes_eq-Decides, slice_eq-Decides}
use Rattle.machine_model.proofs.PairLaws.{Tells}
use Rattle.machine_model.specs.Components.{Name, same_name}

pub names_tell : Tells same_name
names_tell a b = slice_eq-Decides bytes_eq-Decides a b (same_name a b) refl

pub handles_tell : Tells bytes_eq
handles_tell a b = bytes_eq-Decides a b

pub differ_by : (a b : Name) → same_name a b ≡ false → a ≢ b
differ_by a b apart e = let same : same_name a b ≡ true = (names_tell a b).1 e in
    absurd (let both : true ≡ false = sym same ∙ apart in cc)
