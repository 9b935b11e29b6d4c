use Rattle.std.proofs.Common.{◌≡◌, ◌≢◌, sym, subst, true, false, Some, None, rules}
use Rattle.sftp_model.specs.Answers.{allows_reply, is_end_of_file}
use Rattle.plan_model.specs.WindowPlans.{brings_content}
use Rattle.std.specs.Prelude.{◌||◌}
use Rattle.sftp_model.specs.declared.answers.Expected.TheVariants as expected
use Rattle.plan_window.specs.Windows.{first_of}
use Rattle.plan_window.specs.declared.window.ReadAt.{ReadAt}
use Rattle.sftp_fs_read.specs.Reads.{IsWhyOver, ReadsValue}
use Rattle.sftp_fs_read.proofs.ReadsLaws.{fits_read, refused_read, replied_read}
use Rattle.sftp_fs_read.proofs.reads.Reads.replied.Goals as goal

pub replied-requires-clause-fits : goal.replied-requires-clause-fits
replied-requires-clause-fits c = λ r first.
    fits_read r c.args.reply (subst (λ (s : ReadsValue). first_of s.window.waiting ≡ Some r
    → allows_reply (expected.Content r.len) c.args.reply ≡ true) (sym c.self.view_is) (c.requires.allowed r) first)

pub invariant_of-result : goal.invariant_of-result
invariant_of-result c =
    let some : first_of c.self.inside.window.waiting ≢ None =
    subst (λ (s : ReadsValue). first_of s.window.waiting ≢ None) (sym c.self.view_is) c.requires.some in
    let allowed : (r : ReadAt) → first_of c.self.inside.window.waiting ≡ Some r
    → allows_reply (expected.Content r.len) c.args.reply ≡ true =
    subst (λ (s : ReadsValue). (r : ReadAt) → first_of s.window.waiting ≡ Some r
    → allows_reply (expected.Content r.len) c.args.reply ≡ true)
    (sym c.self.view_is) c.requires.allowed in
    replied_read (record {
      facts = c.self.inside.facts;
      handle = c.self.inside.handle;
      place = c.self.inside.place;
      window = c.self.inside.window;
    })
    c.args.reply c.replied.new.self c.self.invariant some allowed c.replied.ensures.is c.replied.ensures.sound

pub returns-then-not-is_absorbed-clause-err : goal.returns-then-not-is_absorbed-clause-err
returns-then-not-is_absorbed-clause-err c =
    let bad : (brings_content c.args.reply || is_end_of_file c.args.reply) ≡ false = search rules in
    subst (λ (s : ReadsValue). IsWhyOver s c.args.reply c.refusal.result) c.self.view_is
    (refused_read (record {
      facts = c.self.inside.facts;
      handle = c.self.inside.handle;
      place = c.self.inside.place;
      window = c.self.inside.window;
    })
    c.args.reply c.refusal.result c.self.invariant bad c.refusal.ensures)
