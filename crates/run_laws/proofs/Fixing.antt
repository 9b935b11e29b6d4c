-- What is taken next in a run is fixed by the picks and by the machine, which numbers its handles by its grants.
use Rattle.std.proofs.Common.{
  append_assoc,
  ◌≡◌,
  ◌<◌,
  ◌≤◌,
  ℕ,
  Bool,
  true,
  false,
  List,
  [],
  ◌∷◌,
  ◌++◌,
  Option,
  Some,
  None,
  is_none,
  refl,
  ap,
  sym,
  ◌∙◌,
  subst,
  arith,
  if◌then◌else◌,
  inl,
  inr,
}
use Rattle.std.specs.Prelude.{◌⊎◌, ◌&&◌, ◌+◌, length, MatchBool}
use Rattle.sftp_model.specs.declared.config.Choice.{Choice}
use Rattle.sftp_model.specs.declared.config.Limits.{Limits}
use Rattle.sftp_model.specs.declared.config.ServerConfig.{ServerConfig}
use Rattle.sftp_model.specs.declared.request.Request.{Request}
use Rattle.sftp_model.specs.declared.reply.Reply.{Reply}
use Rattle.machine_model.specs.FileTree.{FileTree}
use Rattle.machine_model.specs.TreeAnswers.{limits_reply}
use Rattle.session_model.specs.declared.event.Owner.{Owner}
use Rattle.session_model.specs.declared.event.Owner.TheVariants as owner
use Rattle.session_model.specs.declared.event.Event.TheVariants.{Take}
use Rattle.session_model.specs.declared.entry.Entry.{Entry}
use Rattle.session_model.specs.declared.entry.Entry.TheVariants as entry
use Rattle.session_model.specs.Readings.{AskedRequest, count_submitted, asked_at, answer, bearer, count_sent, count_below, count_unanswered}
use Rattle.session_model.specs.Calls.{Setting}
use Rattle.session_model.specs.Grants.{is_granted, is_grant}
use Rattle.session_model.specs.Journals.{IsJournal, MayTake, is_opened, is_session_open}
use Rattle.session_model.specs.Served.{requests_sent, is_query, bears_query, IsNumbered, IsPicked, IsReply, ServesJournal, TellsLimits, picked_place, reply_to_query}
use Rattle.session_model.proofs.CallLaws.{next_take}
use Rattle.session_model.proofs.CountLaws.{some_unanswered}
use Rattle.session_model.proofs.LimitsLaws.{unopened}
use Rattle.session_model.proofs.RequestLaws.{answer_new, sent_asked}
use Rattle.run_laws.proofs.Placed.{place_or, place_of, placed, placed_answers, placed_query, placed_picked, placed_requests_sent}
use Rattle.run_laws.proofs.Alike.{Follows}
use Rattle.run_laws.proofs.Told.{Has, IsTold, has_below, reply_at, reply_front, served_told}
use Rattle.run_laws.proofs.Parts.{answer_later, has_more, journal_part, picked_part, query_first, query_later, sent_counts, sent_has, sent_later}

-- the part began the whole
abbrev pub Began : List Entry → List Entry → Type 0
Began full part = (later : List Entry) × (full ≡ later ++ part)

pub began_back : (full : List Entry) (e : Entry) (past : List Entry) → Began full (e ∷ past) → Began full past
began_back full e past b = (b.0 ++ e ∷ [], b.1 ∙ sym (append_assoc b.0 (e ∷ []) past))

-- a journal whose replies were all taken, served by a machine in the order of the picks, with its handles numbered
pub record Whole (s : Setting) (config : ServerConfig) (choices : List Choice) (picks : List ℕ) (first : FileTree)
    (full : List Entry) (left : FileTree) : Type 0 where
  pub run : IsJournal s full
  pub served : ServesJournal config choices first full left
  pub is_picked : IsPicked picks full
  pub numbered : IsNumbered full
  pub answered : count_unanswered full ≡ 0

-- ---- the query

tells : (a : Option AskedRequest) (r : Option Reply) (said got : Reply) → is_query a ≡ true → r ≡ Some got
    → IsReply (reply_to_query a r) said → got ≡ said
tells None r said got q e is = absurd cc
tells (Some a) None said got q e is = absurd cc
tells (Some a) (Some r) said got q e is = by_owner a.by refl
  where
    by_owner : (by : Owner) → a.by ≡ by → got ≡ said
    by_owner owner.Setup o = (let same : r ≡ got = cc e in sym same ∙ rw o at is)
    by_owner owner.Close o = absurd (let no_way : false ≡ true = rw o at q in cc)
    by_owner (owner.Call lane call) o = absurd (let no_way : false ≡ true = rw o at q in cc)

-- the reply to the query is known
pub query_told : (config : ServerConfig) (full : List Entry) (got : Reply) → is_query (asked_at full 0) ≡ true
    → answer full 0 ≡ Some got → TellsLimits config full → got ≡ limits_reply config.limits
query_told config full got q e told = tells (asked_at full 0) (answer full 0) (limits_reply config.limits) got q e told

limits_no_grant : (limits : Option Limits) → is_granted (Some (limits_reply limits)) ≡ false
limits_no_grant None = refl
limits_no_grant (Some limits) = refl

query_no_grant : (config : ServerConfig) (full : List Entry) → is_query (asked_at full 0) ≡ true
    → TellsLimits config full → is_grant full 0 ≡ false
query_no_grant config full q told = by_reply (answer full 0) refl
  where
    by_reply : (r : Option Reply) → answer full 0 ≡ r → is_granted r ≡ false
    by_reply None e = refl
    by_reply (Some r) e = ap (λ (x : Reply). is_granted (Some x)) (query_told config full r q e told)
        ∙ limits_no_grant config.limits

-- ---- the machine

-- each reply but that to the query is what the machine tells, and so is the tree that is left
pub whole_told : (s : Setting) (config : ServerConfig) (choices : List Choice) (picks : List ℕ) (first : FileTree)
    (full : List Entry) (left : FileTree)
    → Whole s config choices picks first full left → IsTold config full first choices 0 (requests_sent full) left
whole_told s config choices picks first full left w =
    let counts = sent_counts s full w.run in
    let many : count_sent full ≡ counts.0 + length (requests_sent full) = counts.1.1 in
    served_told config full w.numbered first choices counts.0 0 (requests_sent full) left
    (λ p h none. let below = has_below counts.0 p (requests_sent full) counts.1.0 h in
    let le = sent_asked full in
    let some = some_unanswered full p (omega (arith, below, many, le)) none in
    let no_more : count_unanswered full ≡ 0 = w.answered in
    absurd (omega (arith, some, no_more)))
    counts.1.0 (none_before counts.0 counts.1.2) w.served.0
  where
    none_before : (k : ℕ) → (k ≡ 0) ⊎ ((k ≡ 1) × (is_query (asked_at full 0) ≡ true)) → 0
        ≡ count_below (is_grant full) k
    none_before k (inl e) = rw e refl
    none_before k (inr (e, q)) = rw e (rw (query_no_grant config full q w.served.1) refl)

-- ---- what is taken next

-- where the query is unanswered
abbrev asks_limits : List Entry → Bool
asks_limits past = is_query (asked_at past 0) && is_none (answer past 0)

-- the reply that is taken next, under the place of its request: that to the query, and else the one that is picked
abbrev pub next_taken : ServerConfig → List Choice → List ℕ → FileTree → List Entry → Entry
next_taken config choices picks first past =
    if asks_limits past then entry.Event (Take 0 (limits_reply config.limits))
    else entry.Event (Take (place_or (picked_place picks past) 0)
    (reply_at config first choices 0 (requests_sent past) (place_or (picked_place picks past) 0)))

next_placed : (config : ServerConfig) (choices : List Choice) (picks : List ℕ) (first : FileTree) (past : List Entry)
    → next_taken config choices picks first (placed past) ≡ next_taken config choices picks first past
next_placed config choices picks first past =
    λ i. if placed_query past 0 i && is_none (placed_answers past i 0) then
    entry.Event (Take 0 (limits_reply config.limits))
    else entry.Event (Take (place_or (placed_picked picks past i) 0)
    (reply_at config first choices 0 (placed_requests_sent past i) (place_or (placed_picked picks past i) 0)))

both_of : (a b : Bool) → (a && b) ≡ true → (a ≡ true) × (b ≡ true)
both_of true b e = (refl, e)
both_of false b e = absurd cc

first_of : (a b : Bool) → (a && b) ≡ false → a ≡ true → b ≡ false
first_of true b e t = e
first_of false b e t = absurd cc

none_is : (r : Option Reply) → is_none r ≡ true → r ≡ None
none_is None e = refl
none_is (Some r) e = absurd cc

-- while the query is unanswered there is no other request
alone : (s : Setting) (past : List Entry) → IsJournal s past → asks_limits past ≡ true → count_submitted past ≤ 1
alone s past j e =
    let both = both_of (is_query (asked_at past 0)) (is_none (answer past 0)) e in
    let offers : s.limits ≡ true = (query_first s past 0 j both.0).1 in
    let none : answer past 0 ≡ None = none_is (answer past 0) both.1 in
    let shut : is_session_open s past ≡ false = λ i. is_opened (offers i) (none i) in
    (unopened s past j shut).few

-- one that is taken is no query, where the query was answered
no_query : (s : Setting) (past : List Entry) (p : ℕ) → IsJournal s past → asks_limits past ≡ false → answer past p
    ≡ None → is_query (asked_at past p) ≡ false
no_query s past p j e none = by_test (is_query (asked_at past p)) refl
  where
    by_test : (b : Bool) → is_query (asked_at past p) ≡ b → b ≡ false
    by_test false q = refl
    by_test true q =
        let zero_is : p ≡ 0 = (query_first s past p j q).0 in
        let here : is_query (asked_at past 0) ≡ true = subst (λ (k : ℕ). is_query (asked_at past k) ≡ true) zero_is q in
        let silent : answer past 0 ≡ None = subst (λ (k : ℕ). answer past k ≡ None) zero_is none in
        absurd (let some : is_none (answer past 0) ≡ false = first_of (is_query (asked_at past 0))
        (is_none (answer past 0)) e here in let no_way : true ≡ false = ap is_none (sym silent) ∙ some in cc)

picked_is : (b : Bool) (P : Type 0) → b ≡ false → MatchBool b (Unit {0}) P → P
picked_is true P e h = absurd cc
picked_is false P e h = h

some_same : (a b : Reply) → Some a ≡ Some b → a ≡ b
some_same a b e = cc e

pub whole_follows : (s : Setting) (config : ServerConfig) (choices : List Choice) (picks : List ℕ) (first : FileTree)
    (full : List Entry) (left : FileTree)
    → Whole s config choices picks first full left → Follows (next_taken config choices picks first) full
whole_follows s config choices picks first full left w = part_follows full ([], refl)
  where
    takes : (past : List Entry) (id : ℕ) (r : Reply) → MayTake past id r → Began full (entry.Event (Take id r) ∷ past)
        → (t : Bool) → asks_limits past ≡ t
        → entry.Event (Take (place_of past id) r) ≡ next_taken config choices picks first past
    takes past id r may b true e =
        let part : List Entry = entry.Event (Take id r) ∷ past in
        let j : IsJournal s (b.0 ++ part) = subst (IsJournal s) b.1 w.run in
        let few = alone s past (journal_part s b.0 part j).1 e in
        let lt : may.0 < count_sent past = may.1.0.1 in
        let le = sent_asked past in
        let zero_is : may.0 ≡ 0 = omega (arith, few, lt, le) in
        let borne : bearer past id ≡ Some 0 = may.1.0.0 ∙ ap (λ (n : ℕ). Some n) zero_is in
        let got : answer full 0 ≡ Some r = ap (λ (l : List Entry). answer l 0) b.1
        ∙ answer_later s b.0 part 0 r j (answer_new past id 0 r borne) in
        let query : is_query (asked_at full 0) ≡ true =
        ap (λ (l : List Entry). is_query (asked_at l 0)) b.1 ∙ query_later b.0 part
        (both_of (is_query (asked_at past 0)) (is_none (answer past 0)) e).0 in
        let told : r ≡ limits_reply config.limits = query_told config full r query got w.served.1 in
        rw e (λ i. entry.Event (Take (place_or (borne i) (count_submitted past)) (told i)))
    takes past id r may b false e =
        let part : List Entry = entry.Event (Take id r) ∷ past in
        let j : IsJournal s (b.0 ++ part) = subst (IsJournal s) b.1 w.run in
        let p : ℕ = may.0 in
        let borne : bearer past id ≡ Some p = may.1.0.0 in
        let other : is_query (asked_at past p) ≡ false = no_query s past p (journal_part s b.0 part j).1 e may.1.0.2 in
        let chosen : IsPicked picks part = picked_part picks b.0 part (subst (IsPicked picks) b.1 w.is_picked) in
        let is : bearer past id ≡ picked_place picks past = picked_is (bears_query past (bearer past id)) _
        (ap (bears_query past) borne ∙ other) chosen.0 in
        let at : picked_place picks past ≡ Some p = sym is ∙ borne in
        let has : Has p (requests_sent past) = sent_has past p may.1.0.1 other in
        let got : answer full p ≡ Some r = ap (λ (l : List Entry). answer l p) b.1
        ∙ answer_later s b.0 part p r j (answer_new past id p r borne) in
        let front = sent_later b.0 part in
        let whole : requests_sent full ≡ requests_sent past ++ front.0 = ap requests_sent b.1 ∙ front.1 in
        let told : answer full p ≡ Some (reply_at config first choices 0 (requests_sent full) p) =
        (whole_told s config choices picks first full left w).1 p
        (subst (Has p) (sym whole) (has_more p (requests_sent past) front.0 has)) in
        let same : r ≡ reply_at config first choices 0 (requests_sent past) p =
        some_same r _ (sym got ∙ told) ∙ (ap (λ (l : List (ℕ × Request)). reply_at config first choices 0 l p) whole
        ∙ reply_front config first choices 0 p (requests_sent past) front.0 has) in
        rw (e, at) (λ i. entry.Event (Take (place_or (borne i) (count_submitted past)) (same i)))

    part_follows : (part : List Entry) → Began full part → Follows (next_taken config choices picks first) part
    part_follows [] b = tt
    part_follows (entry.Event (Take id r) ∷ past) b =
        let j : IsJournal s (b.0 ++ entry.Event (Take id r) ∷ past) = subst (IsJournal s) b.1 w.run in
        let may = (next_take s past id r (journal_part s b.0 (entry.Event (Take id r) ∷ past) j).0).0 in (
          takes past id r may b (asks_limits past) refl ∙ sym (next_placed config choices picks first past),
          part_follows past (began_back full (entry.Event (Take id r)) past b),
        )
    part_follows (e ∷ past) b = part_follows past (began_back full e past b)
