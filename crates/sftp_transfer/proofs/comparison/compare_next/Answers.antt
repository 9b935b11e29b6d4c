use Rattle.std.proofs.Common.{rules, ◌≡◌, length, subst, sym, ◌∙◌}
use Rattle.std.proofs.lemmas.List.{take_at}
use Rattle.std.specs.Io.KnownBytes.{Consumes}
use Rattle.sftp_transfer.proofs.comparison.compare_next.Goals as goal

pub returns-then-eq : goal.returns-then-eq
returns-then-eq g c =
    let is : c.as_slice.result.now ≡ c.args.bytes.now = search rules in
    let len : length c.read_exact.new.buf ≡ c.in-Ok.room.len = search rules in
    let got : c.as_slice.result.now ≡ c.read_exact.new.buf = c.as_slice.ensures.value ∙ take_at _ _ _ len in
    subst (λ bs. Consumes (g.F.Read.remaining c.args.file.now) (g.F.Read.remaining c.read_exact.new.self) bs)
    (sym got ∙ is) c.in-Ok-read_exact.ensures.bytes
