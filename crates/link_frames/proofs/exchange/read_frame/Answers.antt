use Rattle.std.proofs.Common.{arith, ◌≡◌, ◌-◌, ◌++◌, ℕ, List, ap, length, length-drop, length-take, subst, sym, ◌∙◌}
use Rattle.sftp_link.specs.Log.{GotOn}
use Rattle.sftp_link.proofs.Telling.{told_on}
use Rattle.sftp_wire.specs.FrameReader.{Received}
use Rattle.link_frames.specs.Reading.{BeginsFrame}
use Rattle.link_frames.proofs.Getting.{body_fails, filled_items, got_both, length_caused}
use Rattle.link_frames.proofs.Joining.{escaped}
use Rattle.link_frames.proofs.exchange.read_frame.Goals as goal

pub returns-in_err-frame-clause-caused : goal.returns-in_err-frame-clause-caused
returns-in_err-frame-clause-caused g c =
    rw (escaped c.from_residual-in_err-frame.result c.in_err-frame.field-0.0
    c.from_residual-in_err-frame.ensures.1)
    (length_caused _ _ _ c.in_err-frame.field-0.0 c.fill.new.room c.in_err-frame.ensures.refuses
    c.in_ok-fill.ensures.caused)

pub returns-in_err-fill-2-clause-stops : goal.returns-in_err-fill-2-clause-stops
returns-in_err-fill-2-clause-stops g c =
    let frame : List ℕ = c.deref_mut.result.now in
    let begun : BeginsFrame c.fill.new.room frame =
    subst (λ (w : List ℕ). BeginsFrame c.fill.new.room w) (sym c.deref_mut.ensures.value)
    c.in_ok-frame.ensures.begins in
    let fits : length c.fill-2.new.room ≡ length frame - 4 =
    omega (arith, begun.room, c.fill-2.auto.room, length-take {A = ℕ}, length-drop {A = ℕ}) in
    let four : length c.fill.new.room ≡ 4 = c.fill.auto.room in
    rw (escaped c.from_residual-in_err-fill-2.result c.in_err-fill-2.field-0.0
    c.from_residual-in_err-fill-2.ensures.1)
    (told_on _ _ _ (g.L.LinkState.state c.args.link.now).log (g.L.LinkState.state c.fill.new.link).log
    (g.L.LinkState.state c.fill-2.new.link).log c.in_ok-fill.ensures.log c.in_err-fill-2.ensures.log.1
    (λ x y z got less. body_fails c.in_err-fill-2.field-0.0 c.fill.new.room frame c.fill-2.new.room x y z four begun
    fits c.in_err-fill-2.ensures.log.0 got less))

pub returns-clause-log : goal.returns-clause-log
returns-clause-log g c =
    let frame : List ℕ = c.deref_mut.result.now in
    let begun : BeginsFrame c.fill.new.room frame =
    subst (λ (w : List ℕ). BeginsFrame c.fill.new.room w) (sym c.deref_mut.ensures.value)
    c.in_ok-frame.ensures.begins in
    let fits : length c.fill-2.new.room ≡ length frame - 4 =
    omega (arith, begun.room, c.fill-2.auto.room, length-take {A = ℕ}, length-drop {A = ℕ}) in
    let bytes : c.of_frame.result.bytes ≡ c.fill.new.room ++ c.fill-2.new.room =
    ap (λ (r : Received). r.bytes) c.of_frame.ensures
    ∙ filled_items c.fill.new.room frame c.fill-2.new.room _ c.in_ok-frame.frame.len c.fill.auto.room begun fits
    (omega (arith, c.deref_mut.ensures.len)) in
    told_on _ _ _ (g.L.LinkState.state c.args.link.now).log (g.L.LinkState.state c.fill.new.link).log
    (g.L.LinkState.state c.fill-2.new.link).log c.in_ok-fill.ensures.log c.in_ok-fill-2.ensures.log
    (λ x y z got more. subst (λ (w : List ℕ). GotOn x z w) (sym bytes)
    (got_both x y z c.fill.new.room c.fill-2.new.room got more))
