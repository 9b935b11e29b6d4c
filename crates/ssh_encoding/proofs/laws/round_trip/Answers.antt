use Rattle.std.proofs.Common.{refl}
use Rattle.ssh_encoding.proofs.laws.round_trip.Goals as goal

pub returns : goal.returns
returns g c = λ x rest h. (g.met.T.Decode.exact _ rest _).again record
    { text = g.T.Encode.written x; is = g.met.T.Codec.again x h; splits = refl }
