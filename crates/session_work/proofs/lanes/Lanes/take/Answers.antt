use Rattle.std.proofs.Common.{rules, ◌≡◌, ◌≤◌, Bool, true, false, refl, ap, sym, subst, ◌∙◌, [], ◌∷◌, ◌++◌, length}
use Rattle.std.specs.Prelude.{reverse}
use Rattle.sftp_core.specs.Take.{TakenFrom}
use Rattle.sftp_core.specs.declared.tokens.Taken.{Taken}
use Rattle.session_model.specs.declared.event.Event.TheVariants.{Take}
use Rattle.session_model.specs.declared.entry.Entry.TheVariants as entry
use Rattle.session_work.specs.declared.lanes.Lanes.{Lanes}
use Rattle.session_work.specs.Working.{TakesIn, contents_of}
use Rattle.session_work.proofs.Entries.{asked_within}
use Rattle.session_work.proofs.Exchanges.{counted_by, take_told}
use Rattle.session_work.proofs.FaultLaws.{refused_so_far}
use Rattle.session_work.proofs.Refusals.{first_is}
use Rattle.session_work.proofs.lanes.Lanes.take.Goals as goal
use Rattle.session_work.proofs.lanes.Lanes.take.Goals.{then-note_close, else-note_close}

pub returns-in-Err-clause-refused : goal.returns-in-Err-clause-refused
returns-in-Err-clause-refused c =
    let o = c.requires.opened in
    record {
      first = first_is o.0 (contents_of c.args.self.now) c.args.read c.in-Err.e
          c.take_frame.new.self.core
          o.1 c.in-Err.ensures.refused.error;
      stays = λ s k. refused_so_far s c.in-Err.e _ _ _ _ _ o.1.rest.between.tied.work.unfailed
          c.in-Err.ensures.refused.error
          c.in-Err.ensures.refused.noted k;
      noted = c.in-Err.ensures.refused.noted;
      calls = ap (λ (x : Lanes). x.calls) c.take_frame.ensures.rest;
    }

pub overflow_add-self : goal.overflow_add-self
overflow_add-self c =
    let few : c.args.self.now.asked ≤ length c.args.self.now.journal.items =
    asked_within c.args.self.now c.requires.opened in
    let same : c.take_frame.new.self.asked ≡ c.args.self.now.asked =
    ap (λ (x : Lanes). x.asked) c.take_frame.ensures.rest in
    search rules

pub returns-after-note_close-clause-takes : goal.returns-after-note_close-clause-takes
returns-after-note_close-clause-takes c = λ s w.
    let told = subst (λ (t : Taken). TakenFrom c.args.read t c.args.self.now.core
    c.take_frame.new.self.core) c.in-Ok-Answer.field-0-is c.in-Ok-Answer.ensures.takes.taken in
    let entered : c.add_entry.new.journal.items ≡ c.args.self.now.journal.items
    ++ entry.Event (Take c.in-Ok-Answer.id c.in-Ok-Answer.reply) ∷ [] =
    c.add_entry.ensures.items ∙ ap (λ xs. xs ++ entry.Event (Take c.in-Ok-Answer.id c.in-Ok-Answer.reply) ∷ [])
    c.in-Ok-Answer.ensures.takes.journal in
    let takes = take_told s (contents_of c.args.self.now) c.args.read c.in-Ok-Answer.id
    c.in-Ok-Answer.reply c.take_frame.new.self.core c.queued-before.result c.args.self.now.journal.items
    c.add_entry.new.journal.items c.note_close.new.journal.items
    c.note_close.result w told c.in-Ok-Answer.ensures.takes.only (sym c.queued-before.ensures) refl entered
    c.note_close.ensures.none c.note_close.ensures.close in
    let by : (b : Bool) → c.note_close.result ≡ b → TakesIn s c.args.read (contents_of c.args.self.now)
    (contents_of (record c.take_frame.new.self {
      journal = c.note_close.new.journal;
      asked =
          counted_by b c.take_frame.new.self.asked;
    })) =
    λ b is. subst (λ (x : Lanes). TakesIn s c.args.read (contents_of c.args.self.now)
    (contents_of (record x { journal = c.note_close.new.journal; asked = counted_by b x.asked })))
    (sym c.take_frame.ensures.rest)
    (subst (λ (n : Bool). TakesIn s c.args.read (contents_of c.args.self.now)
    (record (contents_of c.args.self.now) {
      core = c.take_frame.new.self.core;
      past =
          reverse c.note_close.new.journal.items;
      asked = counted_by n c.args.self.now.asked;
    })) is takes) in
    elim c.if-note_close.branch [
      | then-note_close x ↦ subst (λ (y : Lanes). TakesIn s c.args.read (contents_of c.args.self.now)
          (contents_of y)) (sym x.self-is) (by true x.if-note_close.true)
      | else-note_close x ↦ subst (λ (y : Lanes). TakesIn s c.args.read (contents_of c.args.self.now)
          (contents_of y)) (sym x.self-is) (by false x.if-note_close.false)
    ]
