use Rattle.std.proofs.Common.{◌≡◌, ◌∙◌, ◌+◌, ℕ, List, [], ◌∷◌, ◌++◌, length, ap, append_assoc}
use Rattle.ssh_encoding.specs.Writing.{string, uint32}
use Rattle.ssh_channel.proofs.DataPacket.{data_packet}
use Rattle.ssh_channel.proofs.outgoing.data.Goals as goal

pub returns : goal.returns
returns c =
    let bytes : List ℕ = c.args.bytes.now in
    let size : List ℕ = uint32 (10 + length bytes) in
    let kind : List ℕ = 0 ∷ 94 ∷ [] in
    let number : List ℕ = uint32 c.args.channel in
    let parts : c.encode-3.new.writer.items ≡ ((size ++ kind) ++ number) ++ string bytes =
    c.in_ok-encode-3.ensures.writes.0
    ∙ ap (λ (w : List ℕ). w ++ string bytes) (c.in_ok-encode-2.ensures.writes.0
    ∙ ap (λ (w : List ℕ). w ++ number) (c.in_ok-extend_from_slice.ensures.items
    ∙ ap (λ (w : List ℕ). w ++ kind) (c.in_ok-encode.ensures.writes.0
    ∙ ap (λ (w : List ℕ). w ++ size) c.in_ok-packet.ensures.items))) in
    parts ∙ (append_assoc (size ++ kind) number (string bytes) ∙ (append_assoc size kind (number ++ string bytes)
    ∙ data_packet c.args.channel bytes))
