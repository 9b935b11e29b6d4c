use Rattle.std.proofs.Common.{rules, ◌≡◌, ◌<◌, ◌^◌, true, ◌∙◌}
use Rattle.sftp_map_server.specs.Serving.{gives_within}
use Rattle.sftp_map_server.proofs.Bounds.{served_within, within_of}
use Rattle.sftp_map_server.proofs.state.ServerState.serve.Goals as goal

pub frame_of-requires : goal.frame_of-requires
frame_of-requires c =
    let within : gives_within c.args.request.now c.choice-choice.result ≡ true = search rules in
    let code : c.choice-choice.result.refuse < 2 ^ 32 = search rules in
    rw (c.reply.ensures ∙ c.in_ok-answered.ensures.reply) (served_within c.self.inside.machine c.args.request.now
    c.choice-choice.result c.id_of.result c.self.invariant.1 code
    (within_of c.args.request.now c.choice-choice.result within))
