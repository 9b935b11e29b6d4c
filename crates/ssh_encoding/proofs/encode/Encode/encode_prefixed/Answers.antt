use Rattle.ssh_encoding.specs.Writing.{string}
use Rattle.ssh_encoding.proofs.Parts.{too_long, stops, goes, prefixed_stops, prefixed_goes}
use Rattle.ssh_encoding.proofs.encode.Encode.encode_prefixed.Goals as goal

pub returns-in_err-encoded_len-clause-writes : goal.returns-in_err-encoded_len-clause-writes
returns-in_err-encoded_len-clause-writes g c = too_long _ _ _ _ _ _ c.from_residual.ensures.1
    c.in_err-encoded_len.ensures

pub returns-in_err-encode-clause-writes : goal.returns-in_err-encode-clause-writes
unfolding string
returns-in_err-encode-clause-writes g c =
    let len = c.in_ok-encoded_len.ensures in
    stops _ _ _ _ _ _ _ _ c.from_residual-in_err-encode.ensures.1 (rw len.0 at c.in_err-encode.ensures.writes)
    (prefixed_stops _ _ _ len.1)

pub returns-clause-writes : goal.returns-clause-writes
unfolding string
returns-clause-writes g c =
    let len = c.in_ok-encoded_len.ensures in
    let first = rw len.0 at c.in_ok-encode.ensures.writes in
    goes _ _ _ _ _ _ _ first.0 (rw (prefixed_goes _ _ len.1 first.1) c.encode-2.ensures.writes)
