use Rattle.std.proofs.Common.{rules, ◌≡◌, [], ◌∷◌, ◌++◌, length, min, take, drop, reverse, subst, ap}
use Rattle.std.specs.Prelude.{nat_eq}
use Rattle.sftp_link.specs.Script.{length_cut_at}
use Rattle.sftp_link.specs.declared.piece.Piece.TheVariants.{Got}
use Rattle.machine_answers.specs.WaitingFrames.{with_next_picked}
use Rattle.sftp_map_server.specs.Serving.{HandsBytes, Server, fresh_server, server_of}
use Rattle.sftp_map_server.proofs.Waiting.{NoneEmpty, after_giving, served_some, came, gives_most, got_more}
use Rattle.sftp_map_server.proofs.map_server.MapServerLinkIn.recv.Goals as goal

pub invariant_of-self-2 : goal.invariant_of-self-2
invariant_of-self-2 c =
    let s = c.self.inside in
    let before = server_of s.state s.input.items s.outbox in
    let first = fresh_server s.first_state.value s.first_picks.value in
    let some : NoneEmpty s.outbox.waiting = served_some first before (reverse s.log.items) tt c.self.invariant.served in
    let after : c.give.new.self ≡ after_giving s.outbox c.min-n.result = search rules in
    let bytes : c.in_ok-piece.piece.items ≡ take c.min-n.result (with_next_picked s.outbox).ready = search rules in
    let most : c.min-n.result ≡ min (length_cut_at c.cut.result (length c.args.room.now))
    (length (with_next_picked s.outbox).ready) = search rules in
    let gives = gives_most s.state s.input.items c.in_ok-piece.piece.items s.outbox c.give.new.self c.cut.result
    (length c.args.room.now) c.min-n.result some after bytes most c.requires.some in
    let more : c.add_piece.new.log.items ≡ s.log.items ++ Got c.in_ok-piece.piece.items ∷ [] = search rules in
    got_more first before (server_of s.state s.input.items c.give.new.self) s.log.items c.add_piece.new.log.items
    c.in_ok-piece.piece.items s.ended (nat_eq c.min-n.result 0) c.self.invariant more gives (λ e. search rules)

pub returns-clause-gives : goal.returns-clause-gives
returns-clause-gives c =
    let s = c.self.inside in
    let before = server_of s.state s.input.items s.outbox in
    let some : NoneEmpty s.outbox.waiting = served_some (fresh_server s.first_state.value s.first_picks.value) before
    (reverse s.log.items) tt c.self.invariant.served in
    let after : c.give.new.self ≡ after_giving s.outbox c.min-n.result = search rules in
    let bytes : c.in_ok-piece.piece.items ≡ take c.min-n.result (with_next_picked s.outbox).ready = search rules in
    let most : c.min-n.result ≡ min (length_cut_at c.cut.result (length c.args.room.now))
    (length (with_next_picked s.outbox).ready) = search rules in
    let gives = gives_most s.state s.input.items c.in_ok-piece.piece.items s.outbox c.give.new.self c.cut.result
    (length c.args.room.now) c.min-n.result some after bytes most c.requires.some in
    let copied : c.copy_from_slice.new.self ≡ c.in_ok-piece.piece.items = search rules in
    let stands = came (with_next_picked s.outbox).ready c.in_ok-piece.piece.items c.copy_from_slice.new.self
    (drop c.min-n.result c.args.room.now) (length_cut_at c.cut.result (length c.args.room.now)) c.min-n.result bytes
    most
    copied in
    subst (λ (now : Server). HandsBytes now (take c.min-n.result (c.copy_from_slice.new.self
    ++ drop c.min-n.result c.args.room.now)) (server_of s.state s.input.items c.give.new.self))
    (ap (λ v. v.now) c.self.view_is)
    (subst (λ bytes. HandsBytes before bytes (server_of s.state s.input.items c.give.new.self)) stands gives)
