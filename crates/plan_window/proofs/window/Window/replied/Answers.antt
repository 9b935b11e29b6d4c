use Rattle.std.proofs.Common.{arith, rules, ◌≡◌, subst, sym}
use Rattle.std.specs.Prelude.{vec_len}
use Rattle.plan_window.specs.Tallies.{HasRoom, IsTally}
use Rattle.plan_window.specs.Windows.{Window, answered_more}
use Rattle.plan_window.proofs.KeepLaws.{replied_sound}
use Rattle.plan_window.proofs.window.Window.replied.Goals as goal

pub invariant_of-self : goal.invariant_of-self
invariant_of-self c = (
  subst (IsTally c.answered.new.self) (sym c.push_reserved.ensures.items)
      (c.answered.ensures.tally c.self.inside.answered.items c.self.invariant.0),
  c.answered.ensures.room (vec_len c.remove-read.new.self)
      (subst (HasRoom c.self.inside.tally) (sym c.remove-read.ensures.len) c.self.invariant.1),
  omega (
    arith,
    c.remove-read.ensures.len,
    c.push_reserved.ensures.len,
    c.push_reserved.ensures.capacity,
    c.self.invariant.2,
  ),
)

pub returns-clause-sound : goal.returns-clause-sound
returns-clause-sound c =
    let made : Window = record { answered = c.push_reserved.new.self.items; waiting = c.remove-read.new.self.items } in
    let is : made ≡ answered_more c.args.self.now c.args.reply = search rules in
    replied_sound c.args.self.now made c.args.reply c.requires.sound c.requires.some c.requires.absorbed c.requires.fits
    is
