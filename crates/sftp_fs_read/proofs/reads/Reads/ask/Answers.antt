use Rattle.std.proofs.Common.{◌≡◌, ◌<◌, ◌^◌, sym, subst, None, rules}
use Rattle.sftp_model.specs.declared.request.Request.TheVariants as request
use Rattle.sftp_model.specs.declared.slot.Move.TheVariants.{Ask}
use Rattle.sftp_model.specs.declared.slot.Site.{Site}
use Rattle.plan_window.specs.Windows.{IsSound, asked_more, window_move}
use Rattle.sftp_fs_read.specs.Reads.{ReadsValue}
use Rattle.sftp_fs_read.proofs.ReadsLaws.{asked_read}
use Rattle.sftp_fs_read.proofs.reads.Reads.ask.Goals as goal

pub invariant_of-self-in-Ok-submit_read : goal.invariant_of-self-in-Ok-submit_read
invariant_of-self-in-Ok-submit_read c =
    let asks : (site : Site) → window_move c.self.inside.handle None c.self.inside.window site c.self.inside.facts
    ≡ Ask (request.Read c.self.inside.handle c.args.offset c.args.len) =
    subst (λ (s : ReadsValue). (site : Site) → window_move s.handle None s.window site s.facts
    ≡ Ask (request.Read s.handle c.args.offset c.args.len)) (sym c.self.view_is) c.requires.asks in
    let is : c.asked.new.self ≡ asked_more c.self.inside.window (record {
      place = c.self.inside.place;
      offset = c.args.offset;
      len = c.args.len;
    }) = search rules in
    let sound : IsSound c.asked.new.self = search rules in
    let few : c.self.inside.place < 2 ^ 43 = search rules in
    asked_read (record {
      facts = c.self.inside.facts;
      handle = c.self.inside.handle;
      place = c.self.inside.place;
      window = c.self.inside.window;
    })
    c.args.offset c.args.len c.asked.new.self c.self.invariant few asks is sound
