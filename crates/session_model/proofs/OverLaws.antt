-- A whole run is a run so far, and behind it the session is over.
use Rattle.std.proofs.Common.{
  ◌≡◌,
  ◌≢◌,
  ◌<◌,
  ◌≤◌,
  ℕ,
  zero,
  suc,
  Bool,
  true,
  false,
  List,
  [],
  ◌∷◌,
  Option,
  Some,
  None,
  refl,
  ap,
  sym,
  ◌∙◌,
  subst,
  arith,
  if◌then◌else◌,
  inl,
  inr,
}
use Rattle.std.specs.Prelude.{◌&&◌, length}
use Rattle.std.proofs.lemmas.Bool.Decides.{eqb_tells}
use Rattle.std.proofs.lemmas.Bool.{eq-eqb}
use Rattle.sftp_model.specs.declared.request.Request.TheVariants as request
use Rattle.sftp_model.specs.declared.reply.Reply.{Reply}
use Rattle.sftp_model.specs.declared.reply.Reply.TheVariants as reply
use Rattle.sftp_model.specs.Answers.{is_handle}
use Rattle.session_model.specs.declared.turn.Turn.{Turn}
use Rattle.session_model.specs.declared.event.Owner.TheVariants as owner
use Rattle.session_model.specs.declared.event.Event.TheVariants.{Submit, Send, Take}
use Rattle.session_model.specs.declared.entry.Entry.{Entry}
use Rattle.session_model.specs.declared.entry.Entry.TheVariants as entry
use Rattle.session_model.specs.Readings.{count_submitted, asked_at, answer, bearer, is_at, was_let_go}
use Rattle.session_model.specs.Calls.{Setting, current}
use Rattle.session_model.specs.Grants.{is_granted, is_grant, is_due, closed_grants, IsSettled}
use Rattle.session_model.specs.Journals.{IsJournal, IsNext, MayTake, MayReply, IsFree, brings_limits, is_opened, IsOver}
use Rattle.session_model.specs.Turns.{RunProgress, is_full}
use Rattle.session_model.specs.Runs.{OpensSession, limits_query_sent, LetGoTo, LetsGoTo, at_first, IsRun}
use Rattle.session_model.proofs.CallLaws.{may_next}
use Rattle.session_model.proofs.GrantLaws.{none_below}
use Rattle.session_model.proofs.LetGoLaws.{let_go_settled}
use Rattle.session_model.proofs.RequestLaws.{answer_new}
use Rattle.session_model.proofs.RunLaws.{GoodStage, good_plain, closes_good, sends_good}
use Rattle.session_model.specs.Steady.{IsCancellableRun}
use Rattle.session_model.proofs.WholeRunLaws.{Keeps, Passes, closes_keep, sends_keep, turns_pass, ends_pass, drains_pass}

-- ---- the opening

no_handle : (r : Reply) → brings_limits r ≡ true → is_handle r ≡ false
no_handle (reply.Handle handle) e = absurd cc
no_handle (reply.Version version extensions) e = refl
no_handle (reply.Status code message language) e = refl
no_handle (reply.Content content) e = refl
no_handle (reply.Names names) e = refl
no_handle (reply.Attrs attrs) e = refl
no_handle (reply.Extended content) e = refl

brought_at : (id p : ℕ) (r : Reply) → p < 1 → MayReply (asked_at (limits_query_sent id) p) r → brings_limits r ≡ true
brought_at id zero r lt may = may.1
brought_at id (suc p) r lt may = absurd (omega arith)

brought : (id : ℕ) (r : Reply) → MayTake (limits_query_sent id) id r → brings_limits r ≡ true
brought id r may = brought_at id may.0 r may.1.0.1 may.1.1

none_granted : (b : Bool) (r : Reply) → is_handle r ≡ false → is_granted (if b then Some r else None) ≡ false
none_granted true r e = e
none_granted false r e = refl

not_next_due : (grant held gone : Bool) → grant ≡ false → (grant && held && gone) ≡ false
not_next_due true held gone e = absurd cc
not_next_due false held gone e = refl

-- the query, its sending and its reply
query_good : (s : Setting) (id : ℕ) (r : Reply) → s.limits ≡ true → IsFree [] id → MayTake (limits_query_sent id) id r
    → GoodStage s (at_first (entry.Event (Take id r) ∷ limits_query_sent id))
query_good s id r e free may =
    let submitted : List Entry = entry.Event (Submit owner.Setup id request.LimitsQuery) ∷ [] in
    let first : IsNext s [] (entry.Event (Submit owner.Setup id request.LimitsQuery)) = (e, refl, refl, free) in
    let second : IsNext s submitted (entry.Event Send) = may_next s submitted (entry.Event Send) refl refl (omega arith)
    in
    let third : IsNext s (limits_query_sent id) (entry.Event (Take id r)) =
    may_next s (limits_query_sent id) (entry.Event (Take id r)) refl refl (may, refl) in
    let borne : bearer (limits_query_sent id) id ≡ Some 0 = rw (eq-eqb id id refl) refl in
    let there : answer (entry.Event (Take id r) ∷ limits_query_sent id) 0 ≡ Some r =
    answer_new (limits_query_sent id) id 0 r borne in
    let past : List Entry = entry.Event (Take id r) ∷ limits_query_sent id in
    let none : (k : ℕ) → is_due s past (closed_grants s past) k ≡ false =
    λ k. not_next_due (is_grant past k) _ _ (none_granted (is_at (bearer (limits_query_sent id) id) k) r
    (no_handle r (brought id r may))) in
    let plain : IsSettled s past = none_below (is_due s past (closed_grants s past)) (count_submitted past)
    (λ k lt. none k) in
    record {
      good = record {
        run = (third, (second, (first, tt)));
        calm = refl;
        ready = ap (λ (b : Bool). is_opened b (answer past 0)) e ∙ ap (λ (a : Option Reply). is_opened true a) there;
        unkept = refl;
        cancels = λ lane h. absurd cc;
      };
      still = record { settled = plain; plain = plain };
    }

opens_by : (s : Setting) (b : Bool) (past : List Entry) → s.limits ≡ b → OpensSession b past
    → GoodStage s (at_first past)
    × ((lane : ℕ) → was_let_go past lane ≡ false)
opens_by s false past e is =
    subst (λ (p : List Entry). GoodStage s (at_first p) × ((lane : ℕ) → was_let_go p lane ≡ false)) (sym is) (
      record {
        good = record {
          run = tt;
          calm = refl;
          ready = ap (λ (b : Bool). is_opened b None) e;
          unkept = refl;
          cancels =
              λ lane h. absurd cc;
        };
        still = record { settled = refl; plain = refl };
      },
      λ lane. refl,
    )
opens_by s true past e to =
    subst (λ (p : List Entry). GoodStage s (at_first p) × ((lane : ℕ) → was_let_go p lane ≡ false)) (sym to.1.1.2)
    (query_good s to.0 to.1.0 e to.1.1.0 to.1.1.1, λ lane. refl)

pub opens_good : (s : Setting) (past : List Entry) → OpensSession s.limits past → GoodStage s (at_first past)
    × ((lane : ℕ) → was_let_go past lane ≡ false)
opens_good s past to = opens_by s s.limits past refl to

-- ---- the letting go

-- lanes without a call, of which the first n were let go
pub record Gone (s : Setting) (n : ℕ) (at : RunProgress) : Type 0 where
  pub good : GoodStage s at
  pub idle : (lane : ℕ) → lane < length s.lanes → current s at.past lane ≡ None
  pub let_go : (lane : ℕ) → lane < n → was_let_go at.past lane ≡ true
  pub kept : (lane : ℕ) → n ≤ lane → was_let_go at.past lane ≡ false

let_go_one : (s : Setting) (n : ℕ) (before now : RunProgress) → n < length s.lanes → Gone s n before
    → LetGoTo s n before now → Gone s (suc n) now
let_go_one s n before now lt g to =
    let first : List Entry = entry.LetGo n ∷ before.past in
    let next : IsNext s before.past (entry.LetGo n) = may_next s before.past (entry.LetGo n) g.good.good.calm
    g.good.still.settled (lt, g.idle n lt, g.kept n (omega arith)) in
    let good : IsCancellableRun s to.1.0 before.begun = closes_good s first to.1.0 before.begun
    (good_plain s before.past before.begun (entry.LetGo n) g.good.good next tt) to.1.1.0.0 in
    let plain : IsSettled s to.1.0 = let_go_settled s before.past to.1.0 n g.good.still.plain (g.idle n lt) to.1.1.0.0
    to.1.1.0.1 in
    let after = sends_good s to.1.0 now.past before.begun good (record { settled = to.1.1.0.1; plain = plain }) to.1.1.1
    in
    let closing : Keeps s first to.1.0 = closes_keep s first to.1.0 to.1.1.0.0 in
    let sending : Keeps s to.1.0 now.past = sends_keep s to.1.0 now.past (is_full s to.1.0) to.1.1.1 in
    let same : (lane : ℕ) → was_let_go now.past lane ≡ was_let_go first lane = λ lane. sending.unlet lane
    ∙ closing.unlet lane in
    record {
      good = record {
        good = subst (λ (begun : ℕ → Bool). IsCancellableRun s now.past begun) (sym to.0) after.0;
        still =
            after.1;
      };
      idle = λ lane small. sending.idle lane (closing.idle lane (g.idle lane small));
      let_go = λ lane small. same lane ∙ elim (eqb_tells n lane)
          [ inl t ↦ rw t.0 refl | inr t ↦ rw t.0 (g.let_go lane (let ne : n ≢ lane = t.1 in omega arith)) ];
      kept = λ lane le. same lane ∙ elim (eqb_tells n lane) [
        | inl t ↦ absurd (let is : n ≡ lane = t.1 in omega arith)
        | inr t ↦ rw t.0 (g.kept lane (omega arith))
      ];
    }

lets_go_good : (s : Setting) (n : ℕ) (before now : RunProgress) → n ≤ length s.lanes → Gone s 0 before
    → LetsGoTo s n before now → Gone s n now
lets_go_good s zero before now le g e = subst (Gone s 0) (sym e) g
lets_go_good s (suc n) before now le g to = let_go_one s n to.0 now (omega arith)
    (lets_go_good s n before to.0 (omega arith) g to.1.0) to.1.1

-- ---- the whole

over_by : (s : Setting) (turns : List Turn) (past : List Entry) (run : IsRun s turns past) → IsJournal s past
    × (IsOver s past × IsSettled s past)
over_by s turns past (at, (by, is)) =
    let first = opens_good s at.opened by.opens in
    let turned : Passes s (at_first at.opened) at.turned = turns_pass s turns (at_first at.opened) at.turned by.turns in
    let ended = ends_pass s (length s.lanes) at.turned at.ended by.ends in
    let gone : Gone s 0 at.ended = record {
      good = ended.0.good (turned.good first.0);
      idle = ended.1;
      let_go = λ lane lt. absurd (omega arith);
      kept = λ lane le. ended.0.keeps.unlet lane ∙ (turned.keeps.unlet lane ∙ first.1 lane);
    } in
    let let_go : Gone s (length s.lanes) at.let_go = lets_go_good s (length s.lanes) at.ended at.let_go (omega arith)
    gone by.lets_go in
    let drained : Passes s at.let_go at.drained = drains_pass s by.drains.0 at.let_go at.drained by.drains.1 in
    let good : GoodStage s at.drained = drained.good let_go.good in
    subst (λ (p : List Entry). IsJournal s p × (IsOver s p × IsSettled s p)) is (
      good.good.run,
      (
        ((λ lane lt. drained.keeps.unlet lane ∙ let_go.let_go lane lt), good.still.settled, by.answered),
        good.still.plain,
      ),
    )

pub runs_are_journals : (s : Setting) (turns : List Turn) (past : List Entry) → IsRun s turns past → IsJournal s past
runs_are_journals s turns past run = (over_by s turns past run).0

pub runs_are_over : (s : Setting) (turns : List Turn) (past : List Entry) → IsRun s turns past → IsOver s past
runs_are_over s turns past run = (over_by s turns past run).1.0

-- behind a whole run no grant at all is to be closed
pub runs_settle : (s : Setting) (turns : List Turn) (past : List Entry) → IsRun s turns past → IsSettled s past
runs_settle s turns past run = (over_by s turns past run).1.1
