use Rattle.std.proofs.Common.{List, ap, sym, ◌∙◌}
use Rattle.std.proofs.lemmas.List.{drop-drop}
use Rattle.sftp_model.specs.declared.config.Choice.{Choice}
use Rattle.sftp_map_server.specs.Serving.{ServerState, after_choice}
use Rattle.sftp_map_server.proofs.state.ServerState.spend.Goals as goal

pub returns-then-self-as_slice : goal.returns-then-self-as_slice
returns-then-self-as_slice c =
    let d = c.self.inside in
    ap (λ (w : List Choice). let q : ServerState = record {
      machine = d.machine;
      choices = w;
      greeted = d.greeted;
      over =
          d.over;
    } in q) (sym (drop-drop 1 d.used d.choices))
    ∙ ap (λ (w : ServerState). after_choice w w.machine) c.self.view_is
