-- A session submits no hello: the requests of its journal can be given to a machine.
use Rattle.std.proofs.Common.{◌≡◌, ℕ, false, List, [], ◌∷◌, ◌++◌, Option, Some, None, refl, ap, sym, subst}
use Rattle.std.specs.Prelude.{MatchOption}
use Rattle.sftp_model.specs.declared.request.Request.{Request}
use Rattle.sftp_model.specs.declared.request.Request.TheVariants as request
use Rattle.sftp_model.specs.declared.slot.Facts.{Facts}
use Rattle.sftp_model.specs.declared.slot.Move.TheVariants.{Ask}
use Rattle.sftp_model.specs.declared.slot.Site.{Site}
use Rattle.sftp_model.specs.Answers.{IsAfterHello}
use Rattle.plan_model.specs.CallPlans.{next}
use Rattle.plan_model.specs.GoodMoves.{ReadsWithin, WithinRange}
use Rattle.plan_model.specs.Moves.{Answers, Own, handle_of}
use Rattle.plan_model.specs.declared.call.Call.{Call}
use Rattle.plan_model.specs.declared.call.Call.TheVariants as call
use Rattle.plan_model.proofs.CallLaws.{asks_good}
use Rattle.session_model.specs.declared.event.Owner.{Owner}
use Rattle.session_model.specs.declared.event.Owner.TheVariants as owner
use Rattle.session_model.specs.declared.event.Event.{Event}
use Rattle.session_model.specs.declared.event.Event.TheVariants.{Submit, Send, Take, Cancel, End}
use Rattle.session_model.specs.declared.entry.Entry.{Entry}
use Rattle.session_model.specs.declared.entry.Entry.TheVariants as entry
use Rattle.session_model.specs.Calls.{Setting, current, move_at, site_of}
use Rattle.session_model.specs.Grants.{next_due}
use Rattle.session_model.specs.Journals.{IsJournal, MayCome, MustClose, cancelled_end}
use Rattle.session_model.specs.Readings.{answer, count_ended, last_cancel, own, trace_of}
use Rattle.sftp_share.specs.Replays.{NoHello, is_uncounted}
use Rattle.sftp_share.proofs.TraceReplies.{in_order, in_order_is}

-- events after others
pub none_more : (xs ys : List Event) → NoHello xs → NoHello ys → NoHello (xs ++ ys)
none_more [] ys p q = q
none_more (Submit by id r ∷ xs) ys p q = (p.0, none_more xs ys p.1 q)
none_more (Send ∷ xs) ys p q = none_more xs ys p q
none_more (_ ∷ xs) ys p q = none_more xs ys p q

-- requests within the range, if they are no READ
within : (c : Call) (site : Site) (facts : Facts) (requests : Own) (answers : Answers) (r : Request)
    → ReadsWithin facts (Ask r)
    → next c site facts requests answers ≡ Ask r → WithinRange c site facts requests answers
within (call.FsRead path bound) site facts requests answers r fits is = subst (ReadsWithin facts) (sym is) fits
within other site facts requests answers r fits is = tt

-- neither the hello nor the query for limits
abbrev IsPlain : Request → Type 0
IsPlain r = IsAfterHello r × (is_uncounted r ≡ false)

-- a call asks neither
asks_plain : (c : Option Call) (site : Site) (facts : Facts) (requests : Own) (answers : Answers) (r : Request)
    → move_at c site facts requests answers ≡ Some (Ask r) → IsPlain r
asks_plain None site facts requests answers r e = absurd cc
asks_plain (Some c) site facts requests answers (request.Init version) e =
    let is : next c site facts requests answers ≡ Ask (request.Init version) = cc e in
    absurd (asks_good c site facts requests answers (request.Init version)
    (within c site facts requests answers (request.Init version) tt is) is)
asks_plain (Some c) site facts requests answers request.LimitsQuery e =
    let is : next c site facts requests answers ≡ Ask request.LimitsQuery = cc e in
    absurd (asks_good c site facts requests answers request.LimitsQuery
    (within c site facts requests answers request.LimitsQuery tt is) is)
asks_plain (Some c) site facts requests answers r e = (tt, refl)

-- the opening asks only for limits, and nothing else does
abbrev pub Asks : Owner → Request → Type 0
Asks owner.Setup r = r ≡ request.LimitsQuery
Asks owner.Close r = is_uncounted r ≡ false
Asks (owner.Call lane call) r = is_uncounted r ≡ false

may_come : (s : Setting) (past : List Entry) (by : Owner) (id : ℕ) (r : Request)
    → MayCome s past (entry.Event (Submit by id r)) → IsAfterHello r × Asks by r
may_come s past (owner.Call lane call) id r may =
    asks_plain (current s past lane) (site_of s past lane) s.facts (own past lane (count_ended past lane)) (answer past)
    r may.1
may_come s past owner.Setup id r may = (subst IsAfterHello (sym may.2) tt, may.2)
may_come s past owner.Close id r may = absurd may

must_close : (past : List Entry) (grant id : ℕ) (by : Owner) (r : Request)
    → MustClose past grant (entry.Event (Submit by id r)) → IsAfterHello r × Asks by r
must_close past grant id by r must =
    let is : r ≡ request.Close (handle_of (answer past grant)) = cc (must.1.1) in
    let closes : by ≡ owner.Close = cc (must.1.1) in (
      subst IsAfterHello (sym is) tt,
      subst (λ (o : Owner). Asks o r) (sym closes) (ap is_uncounted is),
    )

comes_next : (s : Setting) (past : List Entry) (by : Owner) (id : ℕ) (r : Request) (c g : Option ℕ)
    → MatchOption c (MatchOption g (MayCome s past (entry.Event (Submit by id r)))
    (λ grant. MustClose past grant (entry.Event (Submit by id r))))
    (λ lane. entry.Event (Submit by id r) ≡ cancelled_end past lane) → IsAfterHello r × Asks by r
comes_next s past by id r (Some lane) g due = absurd cc
comes_next s past by id r None (Some grant) due = must_close past grant id by r due
comes_next s past by id r None None due = may_come s past by id r due

pub asks_next : (s : Setting) (past : List Entry) (by : Owner) (id : ℕ) (r : Request)
    → IsJournal s (entry.Event (Submit by id r) ∷ past)
    → IsAfterHello r × Asks by r
asks_next s past by id r j = comes_next s past by id r (last_cancel past) (next_due s past) j.0

in_order_none : (s : Setting) (past : List Entry) → IsJournal s past → NoHello (in_order past)
in_order_none s [] j = tt
in_order_none s (entry.Event (Submit by id r) ∷ past) j =
    none_more (in_order past) (Submit by id r ∷ []) (in_order_none s past j.1) ((asks_next s past by id r j).0, tt)
in_order_none s (entry.Event Send ∷ past) j = none_more (in_order past) (Send ∷ []) (in_order_none s past j.1) tt
in_order_none s (entry.Event (Take id r) ∷ past) j = none_more (in_order past) (Take id r ∷ [])
    (in_order_none s past j.1) tt
in_order_none s (entry.Event (Cancel lane) ∷ past) j = none_more (in_order past) (Cancel lane ∷ [])
    (in_order_none s past j.1) tt
in_order_none s (entry.Event (End lane call o) ∷ past) j = none_more (in_order past) (End lane call o ∷ [])
    (in_order_none s past j.1) tt
in_order_none s (entry.Added lane c ∷ past) j = in_order_none s past j.1
in_order_none s (entry.LetGo lane ∷ past) j = in_order_none s past j.1
in_order_none s (entry.Kept fault ∷ past) j = in_order_none s past j.1

-- the trace of a journal
pub no_hello : (s : Setting) (past : List Entry) → IsJournal s past → NoHello (trace_of past)
no_hello s past j = subst NoHello (sym (in_order_is past)) (in_order_none s past j)
