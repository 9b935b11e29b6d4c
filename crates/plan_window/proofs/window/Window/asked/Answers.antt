use Rattle.std.proofs.Common.{arith, rules, ◌≡◌, subst, sym}
use Rattle.std.specs.Prelude.{vec_len}
use Rattle.plan_window.specs.Tallies.{HasRoom, IsTally}
use Rattle.plan_window.specs.Windows.{Window, asked_more}
use Rattle.plan_window.proofs.KeepLaws.{asked_sound}
use Rattle.plan_window.proofs.TallyLaws.{tally_same}
use Rattle.plan_window.proofs.window.Window.asked.Goals as goal

pub invariant_of-self-in_err-reserve-3 : goal.invariant_of-self-in_err-reserve-3
invariant_of-self-in_err-reserve-3 c =
    let items : c.reserve-2.new.self.items ≡ c.self.inside.answered.items = search rules in
    let len : vec_len c.reserve.new.self ≡ vec_len c.self.inside.waiting = search rules in (
      subst (IsTally c.reserve-3.new.self) (sym items) (tally_same c.self.inside.tally c.reserve-3.new.self
          c.self.inside.answered.items c.reserve-3.ensures.same c.self.invariant.0),
      subst (HasRoom c.reserve-3.new.self) (sym len)
          (c.reserve-3.ensures.kept (vec_len c.self.inside.waiting) c.self.invariant.1),
      omega (arith, len, c.reserve-2.ensures.len, c.reserve-2.ensures.capacity, c.self.invariant.2),
    )

pub returns-clause-sound : goal.returns-clause-sound
returns-clause-sound c =
    let made : Window = record { answered = c.reserve-2.new.self.items; waiting = c.push_reserved.new.self.items } in
    let is : made ≡ asked_more c.args.self.now c.args.read = search rules in
    asked_sound c.args.self.now made c.args.read c.requires.sound c.requires.range is
