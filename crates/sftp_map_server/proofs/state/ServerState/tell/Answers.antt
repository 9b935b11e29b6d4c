use Rattle.std.proofs.Common.{rules, ◌≡◌, ◌∙◌}
use Rattle.machine_model.specs.TreeAnswers.{limits_reply}
use Rattle.sftp_map_server.proofs.Bounds.{limits_within, query_answered}
use Rattle.sftp_map_server.proofs.state.ServerState.tell.Goals as goal

pub frame_of-requires : goal.frame_of-requires
frame_of-requires c =
    let is : c.reply.result.now ≡ limits_reply c.self.inside.machine.config.limits = c.reply.ensures
    ∙ (c.in_ok-answered.ensures.reply ∙ query_answered c.self.inside.machine c.args.query.now c.requires) in
    rw is (limits_within c.self.inside.machine.config c.id_of.result)

pub returns-clause-said : goal.returns-clause-said
returns-clause-said c =
    let is : c.reply.result.now ≡ limits_reply c.self.inside.machine.config.limits = c.reply.ensures
    ∙ (c.in_ok-answered.ensures.reply ∙ query_answered c.self.inside.machine c.args.query.now c.requires) in
    search rules
