use Rattle.std.proofs.Common.{rules, ◌≡◌, [], ◌∷◌, ◌++◌}
use Rattle.sftp_link.specs.declared.piece.Piece.TheVariants.{Sent}
use Rattle.sftp_map_server.specs.Serving.{AbsorbsBytes, fresh_server, server_of}
use Rattle.sftp_map_server.proofs.Waiting.{sent_more}
use Rattle.sftp_map_server.proofs.map_server.MapServerLinkOut.send.Goals as goal

pub invariant_of-self-2 : goal.invariant_of-self-2
invariant_of-self-2 c =
    let s = c.self.inside in
    let more : c.add_piece.new.log.items ≡ s.log.items ++ Sent c.in_ok-front.front.items ∷ [] = search rules in
    let absorbs : AbsorbsBytes (server_of s.state s.input.items s.outbox) c.in_ok-front.front.items
    (server_of c.absorb.new.state c.absorb.new.input.items c.absorb.new.outbox) = search rules in
    sent_more (fresh_server s.first_state.value s.first_picks.value) (server_of s.state s.input.items s.outbox)
    (server_of c.absorb.new.state c.absorb.new.input.items c.absorb.new.outbox)
    s.log.items c.add_piece.new.log.items c.in_ok-front.front.items s.ended c.self.invariant more absorbs
