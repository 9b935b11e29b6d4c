use Rattle.std.proofs.Common.{rules, ◌≡◌, ◌≤◌, arith, length, subst, sym, Some, ℕ}
use Rattle.sftp_file.specs.Slices.{IsCutOff}
use Rattle.sftp_file.proofs.SliceLaws.{cut_off, left_next}
use Rattle.sftp_file.proofs.slices.take_io_slices.Goals as goal

pub returns-then-left-len : goal.returns-then-left-len
returns-then-left-len c =
    subst (λ (n : ℕ). IsCutOff c.args.bufs.now c.args.limit (Some (c.args.limit, n, c.in_ok-slice.field-0)))
    (sym c.loop-piece.invariant.0)
    (cut_off c.args.bufs.now c.loop-piece.piece-index c.piece-item.result c.in_ok-slice.field-0 c.loop-piece.left
    c.args.limit
    c.loop-piece-test.true c.piece-item.is c.loop-piece.invariant.1 (search rules) c.requires (search rules))

pub loop-piece-preserved : goal.loop-piece-preserved
loop-piece-preserved c =
    let fits : length c.piece-item.result ≤ c.loop-piece.left = search rules in
    let len : c.len-in-loop-piece.result ≡ length c.piece-item.result = search rules in (
      omega (arith, c.loop-piece.invariant.0),
      omega (
        arith,
        len,
        left_next c.args.bufs.now c.loop-piece.piece-index c.piece-item.result c.loop-piece.left
            c.args.limit c.loop-piece-test.true c.piece-item.is c.loop-piece.invariant.1 fits,
      ),
    )
