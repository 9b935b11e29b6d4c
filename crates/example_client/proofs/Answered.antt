-- What holds of an answer that gives a value.
use Rattle.std.proofs.Common.{◌≡◌, refl}
use Rattle.std.specs.Prelude.{Result, Ok, Err, IfOk, OnOk}

pub where_value : {T E : Type 0} {P : T → Type 0} (result : Result T E) → ((value : T) → result ≡ Ok value → P value)
    → IfOk result P
where_value (Ok value) f = f value refl
where_value (Err e) f = tt

pub where_done : {T E P : Type 0} (result : Result T E) → ((value : T) → result ≡ Ok value → P) → OnOk result P
where_done (Ok value) f = f value refl
where_done (Err e) f = tt
