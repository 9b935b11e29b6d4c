-- A line of the four limits, by the limits.
use Rattle.std.proofs.Common.{◌≡◌, ℕ, List, refl}
use Rattle.std.specs.Prelude.{Result, Ok, Err, is_some}
use Rattle.ssh_encoding.specs.Reading.{◌>>=◌}
use Rattle.sftp_model.specs.declared.config.Limits.{Limits}
use Rattle.script_words.specs.declared.reason.Reason.{Reason}
use Rattle.script_words.specs.Lines.{number_in, greatest_u64}
use Rattle.script_grammar.specs.Setup.{Draft, limits_line, unless_said, with_limits}
use Rattle.script_grammar.specs.Parts.{limits_in_words}

read_four : (d : Draft) (p r w h : Result ℕ Reason)
    → (p >>= λ a. r >>= λ b. w >>= λ c. h >>= λ e. unless_said (is_some d.script.server.limits)
    (with_limits d (record { packet_len = a; read_len = b; write_len = c; open_handles = e })))
    ≡ ((p >>= λ a. r >>= λ b. w >>= λ c. h >>= λ e. Ok (record
    { packet_len = a; read_len = b; write_len = c; open_handles = e })) >>= λ limits. unless_said
    (is_some d.script.server.limits) (with_limits d limits))
read_four d (Err p) r w h = refl
read_four d (Ok p) (Err r) w h = refl
read_four d (Ok p) (Ok r) (Err w) h = refl
read_four d (Ok p) (Ok r) (Ok w) (Err h) = refl
read_four d (Ok p) (Ok r) (Ok w) (Ok h) = refl

by_limits : (d : Draft) (p r w h : List ℕ) → limits_line d p r w h
    ≡ (limits_in_words p r w h >>= λ limits. unless_said (is_some d.script.server.limits) (with_limits d limits))
by_limits d p r w h = read_four d (number_in 0 greatest_u64 p) (number_in 0 greatest_u64 r) (number_in 0 greatest_u64 w)
    (number_in 0 greatest_u64 h)

pub limits_read : (d : Draft) (p r w h : List ℕ) (limits : Limits) → limits_in_words p r w h ≡ Ok limits
    → limits_line d p r w h ≡ unless_said (is_some d.script.server.limits) (with_limits d limits)
limits_read d p r w h limits read = rw (by_limits d p r w h, read) refl

pub limits_refused : (d : Draft) (p r w h : List ℕ) (why : Reason) → limits_in_words p r w h ≡ Err why
    → limits_line d p r w h ≡ Err why
limits_refused d p r w h why read = rw (by_limits d p r w h, read) refl
