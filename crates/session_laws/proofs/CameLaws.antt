-- How each request of a run came to be made: no call asks for the limits, and each id is small.
use Rattle.std.proofs.Common.{◌≡◌, ◌<◌, ◌^◌, ℕ, Bool, true, false, List, [], ◌∷◌, Option, Some, None, refl, ap, sym, ◌∙◌, subst, inl, inr}
use Rattle.std.specs.Prelude.{MatchOption}
use Rattle.std.proofs.lemmas.Bool.{false_from_ne_true}
use Rattle.std.proofs.lemmas.Bool.Decides.{eqb_tells}
use Rattle.sftp_model.specs.declared.answers.Expected.{Expected}
use Rattle.sftp_model.specs.declared.answers.Expected.TheVariants as expected
use Rattle.sftp_model.specs.declared.reply.Reply.{Reply}
use Rattle.sftp_model.specs.declared.request.Request.{Request}
use Rattle.sftp_model.specs.declared.request.Request.TheVariants as request
use Rattle.sftp_model.specs.declared.slot.Facts.{Facts}
use Rattle.sftp_model.specs.declared.slot.Move.TheVariants.{Ask}
use Rattle.sftp_model.specs.declared.slot.Site.{Site}
use Rattle.sftp_model.specs.Answers.{expected_of}
use Rattle.plan_model.specs.declared.call.Call.TheVariants as call
use Rattle.plan_model.specs.GoodMoves.{IsGoodAsk, ReadsWithin, Situation, WithinRange, situation}
use Rattle.plan_model.specs.Moves.{Answers, Own}
use Rattle.plan_model.proofs.CallLaws.{asks_good}
use Rattle.plan_model.specs.declared.call.Call.{Call}
use Rattle.session_model.specs.declared.event.Owner.{Owner}
use Rattle.session_model.specs.declared.event.Owner.TheVariants as owner
use Rattle.session_model.specs.declared.event.Event.TheVariants.{Submit}
use Rattle.session_model.specs.declared.entry.Entry.{Entry}
use Rattle.session_model.specs.declared.entry.Entry.TheVariants as entry
use Rattle.session_model.specs.Readings.{AskedRequest, answer, count_submitted, asked_at, bearer, count_ended, last_cancel, own}
use Rattle.session_model.specs.Calls.{Setting, current, move_at, move_of, site_of}
use Rattle.session_model.specs.Grants.{next_due}
use Rattle.session_model.specs.Journals.{IsJournal, IsNext, MayCome, MustClose, cancelled_end, goes_on, is_opened, is_session_open}
use Rattle.session_model.proofs.CallLaws.{next_by, next_submit}
use Rattle.session_model.proofs.JournalLaws.{submit_free}
use Rattle.plan_model.specs.CallPlans.{next}

abbrev pub is_limits : Expected → Bool
is_limits expected.Limits = true
is_limits other = false

-- ---- no call asks for the limits

-- such a request is no READ
limits_within : (c : Call) (site : Site) (facts : Facts) (mine : Own) (answers : Answers) (r : Request)
    → is_limits (expected_of r) ≡ true → next c site facts mine answers ≡ Ask r → WithinRange c site facts mine answers
limits_within (call.FsRead path bound) site facts mine answers r e is = subst (ReadsWithin facts) (sym is) (no_read r e)
  where
    no_read : (q : Request) → is_limits (expected_of q) ≡ true → ReadsWithin facts (Ask q)
    no_read (request.Read handle offset len) e = absurd cc
    no_read other e = tt
limits_within other site facts mine answers r e is = tt

good_limits : (s : Situation) (r : Request) → is_limits (expected_of r) ≡ true → IsGoodAsk s r → ⊥
good_limits s request.LimitsQuery e good = good
good_limits s other e good = absurd cc

pub move_asks : (s : Setting) (past : List Entry) (lane : ℕ) (r : Request) → move_of s past lane ≡ Some (Ask r)
    → is_limits (expected_of r) ≡ false
move_asks s past lane r e = false_from_ne_true (is_limits (expected_of r))
    (λ limits. by_call limits (current s past lane) e)
  where
    mine : Own
    mine = own past lane (count_ended past lane)

    by_call : is_limits (expected_of r) ≡ true → (c : Option Call)
        → move_at c (site_of s past lane) s.facts mine (answer past) ≡ Some (Ask r) → ⊥
    by_call limits None is = absurd cc
    by_call limits (Some c) is =
        let asks : next c (site_of s past lane) s.facts mine (answer past) ≡ Ask r = cc is in
        good_limits (situation c (site_of s past lane) s.facts mine (answer past)) r limits
        (asks_good c (site_of s past lane) s.facts mine (answer past) r
        (limits_within c (site_of s past lane) s.facts mine (answer past) r limits asks) asks)

-- ---- each request

-- how the request at a place came to be made
abbrev pub CameBy : Setting → ℕ → Owner → Request → Type 0
CameBy s place (owner.Call lane c) r = is_limits (expected_of r) ≡ false
CameBy s place owner.Setup r = (place ≡ 0) × (s.limits ≡ true)
CameBy s place owner.Close r = is_limits (expected_of r) ≡ false

abbrev asked_in : Entry → Request
asked_in (entry.Event (Submit by id r)) = r
asked_in other = request.LimitsQuery

submit_came : (s : Setting) (past : List Entry) (by : Owner) (id : ℕ) (r : Request)
    → IsNext s past (entry.Event (Submit by id r)) → CameBy s (count_submitted past) by r
submit_came s past (owner.Call lane c) id r next = move_asks s past lane r (next_submit s past lane c id r next).1
submit_came s past owner.Setup id r next =
    let may = next_by (last_cancel past) (next_due s past) (MayCome s past (entry.Event (Submit owner.Setup id r)))
    (λ g. MustClose past g (entry.Event (Submit owner.Setup id r)))
    (λ k. entry.Event (Submit owner.Setup id r) ≡ cancelled_end past k) next (λ g m. cc (m.1.1)) (λ k e. cc e) in
    (may.1, may.0)
submit_came s past owner.Close id r next = by_what (last_cancel past) (next_due s past) next
  where
    by_what : (c g : Option ℕ) → MatchOption c (MatchOption g (MayCome s past (entry.Event (Submit owner.Close id r)))
        (λ grant. MustClose past grant (entry.Event (Submit owner.Close id r))))
        (λ lane. entry.Event (Submit owner.Close id r) ≡ cancelled_end past lane)
        → is_limits (expected_of r) ≡ false
    by_what None None h = absurd h
    by_what None (Some g) h = let is : entry.Event (Submit owner.Close id r) ≡ _ = h.1.1 in
        ap (λ x. is_limits (expected_of (asked_in x))) is
    by_what (Some lane) g h = absurd cc

pub came_by : (s : Setting) (past : List Entry) (p : ℕ) (a : AskedRequest) → IsJournal s past → asked_at past p ≡ Some a
    → CameBy s p a.by a.request
came_by s [] p a j e = absurd cc
came_by s (entry.Event (Submit by id r) ∷ past) p a j e =
    elim (eqb_tells p (count_submitted past)) [
      | inl t ↦ (let is : Some (record { by = by; id = id; request = r }) ≡ Some a = rw t.0 at e in
          let same : record { by = by; id = id; request = r } ≡ a = cc in
          subst (λ (x : AskedRequest). CameBy s p x.by x.request) same
          (subst (λ (k : ℕ). CameBy s k by r) (sym t.1) (submit_came s past by id r j.0)))
      | inr t ↦ came_by s past p a j.1 (rw t.0 at e)
    ]
came_by s (_ ∷ past) p a j e = came_by s past p a j.1 e

-- ---- replies

-- another reply than that to the query for limits goes on
pub limits_goes : (e : Expected) (r : Reply) → is_limits e ≡ false → goes_on e r ≡ true
limits_goes expected.Limits r h = absurd cc
limits_goes other r h = refl

-- the query for limits was answered, so it isn't awaited
pub no_limits : (s : Setting) (past : List Entry) (p : ℕ) (a : AskedRequest) → is_session_open s past ≡ true
    → answer past p ≡ None
    → (by : Owner) → CameBy s p by a.request → is_limits (expected_of a.request) ≡ false
no_limits s past p a ready none (owner.Call lane c) came = came
no_limits s past p a ready none owner.Close came = came
no_limits s past p a ready none owner.Setup came =
    absurd (let told : is_opened true (answer past 0) ≡ true = ap (λ l. is_opened l (answer past 0)) (sym came.1)
    ∙ ready in
    let at_zero : answer past 0 ≡ None = ap (answer past) (sym came.0) ∙ none in
    let nothing : is_opened true (answer past 0) ≡ false = ap (is_opened true) at_zero in cc)

-- ---- ids

-- an id that a request bears has at most 32 bits
pub borne_small : (s : Setting) (past : List Entry) (id p : ℕ) → IsJournal s past → bearer past id ≡ Some p
    → id < 2 ^ 32
borne_small s [] id p j e = absurd cc
borne_small s (entry.Event (Submit by i r) ∷ past) id p j e =
    elim (eqb_tells i id) [
      | inl t ↦ subst (λ (n : ℕ). n < 2 ^ 32) t.1 (submit_free s past by i r j.0).0
      | inr t ↦ borne_small s past id p j.1 (rw t.0 at e)
    ]
borne_small s (_ ∷ past) id p j e = borne_small s past id p j.1 e
