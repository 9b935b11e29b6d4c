use Rattle.std.proofs.Common.{take, true}
use Rattle.std.specs.Fmt.{HasWritten, IsPlainFormatter}
use Rattle.ssh_encoding.specs.Canonical.{hex_text}
use Rattle.ssh_encoding.proofs.mpint_text.MpintDisplay.fmt.Given as goal

abbrev pub invariant-loop-byte : goal.invariant-loop-byte
invariant-loop-byte g l =
    IsPlainFormatter l.initial.f → HasWritten g.W.Write.write_str_gives l.initial.f
    (hex_text true (take l.byte-index l.self)) l.f
