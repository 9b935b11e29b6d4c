-- What a lane's call may keep once it has asked or waits, by what it went on with.
use Rattle.std.proofs.Common.{◌≡◌, ◌<◌, ◌≤◌, ◌+◌, ℕ, Bool, true, false, List, [], ◌∷◌, ◌++◌, Option, Some, None, refl, ap, sym, ◌∙◌, subst, arith, inl, inr}
use Rattle.std.specs.Prelude.{◌⊎◌, length, min, is_some}
use Rattle.std.proofs.lemmas.List.{length-append}
use Rattle.sftp_model.specs.declared.reply.Reply.{Reply}
use Rattle.sftp_model.specs.declared.request.Request.{Request}
use Rattle.sftp_model.specs.declared.slot.Facts.{Facts}
use Rattle.sftp_model.specs.declared.slot.Site.{Site}
use Rattle.sftp_core.specs.Table.{handle_in_reply}
use Rattle.plan_model.specs.declared.call.Call.TheVariants as call
use Rattle.plan_model.specs.Moves.{Own}
use Rattle.plan_model.specs.RequestCounts.{work}
use Rattle.plan_runner.specs.declared.next.Asked.{Asked as Ask_of}
use Rattle.plan_runner.specs.declared.next.Next.{Next}
use Rattle.plan_runner.specs.declared.next.Next.TheVariants as step
use Rattle.plan_runner.specs.declared.next.Running.{Running}
use Rattle.plan_runner.specs.declared.next.Running.TheVariants as running
use Rattle.plan_runner.specs.Asking.{GoesOnBy, IsAmong, IsWindowed, LooksForReply, OwnOn, ReadsOn, is_window, opened_after, opened_by}
use Rattle.plan_runner.specs.Runners.{answered_by, awaited_place}
use Rattle.plan_runner.specs.Pending.{own_place, reads_under}
use Rattle.plan_window.specs.declared.window.ReadAt.{ReadAt}
use Rattle.plan_model.specs.declared.call.Call.{Call}
use Rattle.session_laws.specs.Budgets.{CallSpends, IsOwnOrWindow, ReadsFit, budget, in_hand, makes_many, stands_in}
use Rattle.session_laws.proofs.BudgetLaws.{hand_min}
use Rattle.session_work.proofs.Awaiting.{own_awaited}
use Rattle.session_work.proofs.OneByOne.{is_whole}
use Rattle.session_work.proofs.Spending.{
  answered_among,
  answered_length,
  few_work,
  hand_window,
  none_waits,
  opened_none,
  own_no_window,
  plain_opened,
  reads_grow,
  slot_opened,
  slots_few,
  two_at_least,
}

-- ---- three ways to go on

-- it awaits a request of its own, has READs of a window under way, or leaves replies to its slots
abbrev pub Way : Running → Type 0
Way r = ((p : ℕ) × (own_place (Some r) ≡ Some p)) ⊎ ((is_window r ≡ true)
    ⊎ ((own_place (Some r) ≡ None) × (is_window r ≡ false)))

pub way : (r : Running) → Way r
way r = by_own (own_place (Some r)) refl
  where
    by_window : (b : Bool) → own_place (Some r) ≡ None → is_window r ≡ b → Way r
    by_window true none is = inr (inl is)
    by_window false none is = inr (inr (none, is))

    by_own : (o : Option ℕ) → own_place (Some r) ≡ o → Way r
    by_own (Some p) is = inl (p, is)
    by_own None is = by_window (is_window r) is refl

-- a call of its own requests stays one, or begins to read by a window
own_by : (r : Running) (y : Option Reply) (place : ℕ) (facts : Facts) (n : Next) (p : ℕ) → own_place (Some r) ≡ Some p
    → GoesOnBy r y place facts n → OwnOn place n ⊎ (ReadsOn place [] facts n × (opened_by r ≡ None))
own_by (running.OpeningToRead grant bound) y place facts n p e g = inr (g, refl)
own_by (running.ReadingWhole grant bound window) y place facts n p e g = absurd cc
own_by (running.Flushing slot) y place facts n p e g = absurd cc
own_by (running.AwaitingRoom slot start) y place facts n p e g = absurd cc
own_by (running.Deferred slot count) y place facts n p e g = absurd cc
own_by (running.DeferringRest slot done) y place facts n p e g = absurd cc
own_by (running.FillingBuffer slot m offset mine) y place facts n p e g = absurd cc
own_by other y place facts n p e g = inl g

-- the READs under way once this reply came
abbrev pub waiting_after : Running → Option Reply → List ReadAt
waiting_after (running.ReadingWhole grant bound window) y = (answered_by window y).waiting
waiting_after other y = []

window_by : (r : Running) (y : Option Reply) (place : ℕ) (facts : Facts) (n : Next) → is_window r ≡ true
    → GoesOnBy r y place facts n → ReadsOn place (waiting_after r y) facts n
window_by (running.ReadingWhole grant bound window) y place facts n is g = g
window_by other y place facts n is g = absurd cc

waiting_length : (r : Running) (y : Reply) (p : ℕ) (site : Site) → is_window r ≡ true → awaited_place r site ≡ Some p
    → length (reads_under (Some r)) ≡ length (waiting_after r (Some y)) + 1
waiting_length (running.ReadingWhole grant bound window) y p site is at = answered_length window y grant bound p site at
waiting_length other y p site is at = absurd cc

waiting_among : (r : Running) (y : Reply) (x : ReadAt) → is_window r ≡ true → IsAmong x (waiting_after r (Some y))
    → IsAmong x (reads_under (Some r))
waiting_among (running.ReadingWhole grant bound window) y x is among = answered_among window y x among
waiting_among other y x is among = absurd cc

none_under : (r : Running) (site : Site) → is_window r ≡ true → awaited_place r site ≡ None
    → (waiting_after r None ≡ []) × (reads_under (Some r) ≡ [])
none_under (running.ReadingWhole grant bound window) site is at =
    (let none = none_waits window grant bound site at in (none, none))
none_under other site is at = absurd cc

-- a window without a READ awaits none
none_awaited : (r : Running) (site : Site) → is_window r ≡ true → reads_under (Some r) ≡ [] → awaited_place r site
    ≡ None
none_awaited (running.ReadingWhole grant bound window) site is none = rw none refl
none_awaited other site is none = absurd cc

neither : (r : Running) → own_place (Some r) ≡ None → is_window r ≡ false → IsOwnOrWindow r → ⊥
neither r none is either = elim either [
  | inl own ↦ (let clash : false ≡ true = sym (ap is_some none) ∙ own in cc)
  | inr window ↦ (let clash : false ≡ true = sym is ∙ window in cc)
]

-- ---- a call that asked

-- It goes on as it may, and may keep so many more.
pub record AskGrows (facts : Facts) (c : Call) (mine : Own) (old : Option Running) (asked : ℕ × Request) (r : Running)
    (d : ℕ) : Type 0 where
  pub kind : makes_many c ≡ true → IsOwnOrWindow r
  pub reads : is_window r ≡ true → ReadsFit facts c (mine ++ asked ∷ []) (reads_under (Some r))
  pub hand : in_hand (budget c facts) old (length mine) + d ≤ in_hand (budget c facts) (Some r) (length mine + 1)

no_reads : (facts : Facts) (c : Call) (own : Own) (r : Running) → is_window r ≡ false → is_window r ≡ true
    → ReadsFit facts c own (reads_under (Some r))
no_reads facts c own r none is = absurd (let clash : false ≡ true = sym none ∙ is in cc)

-- neither before nor then by a window
plain_pair : (facts : Facts) (c : Call) (mine : Own) (r0 : Running) (asked : ℕ × Request) (r : Running) (d : ℕ)
    → is_window r0 ≡ false → is_window r ≡ false → (makes_many c ≡ true → IsOwnOrWindow r)
    → min (length mine) (budget c facts) + d ≤ min (length mine + 1) (budget c facts)
    → AskGrows facts c mine (Some r0) asked r d
plain_pair facts c mine r0 asked r d none0 none kind le =
    let most : ℕ = budget c facts in
    let before = hand_min most (length mine) r0 none0 in
    let after = hand_min most (length mine + 1) r none in
    record {
      kind = kind;
      reads = no_reads facts c (mine ++ asked ∷ []) r none;
      hand =
          omega (arith, before, after, le);
    }

more_min : (n most : ℕ) → min n most + 0 ≤ min (n + 1) most
more_min n most = omega arith

one_min : (n most : ℕ) → n < most → min n most + 1 ≤ min (n + 1) most
one_min n most lt = omega (arith, lt)

-- by a window with one READ more
window_grows : (facts : Facts) (c : Call) (mine : Own) (old : Option Running) (place : ℕ) (q : Request) (a : Ask_of)
    (r : Running) (reads : List ReadAt) (d : ℕ) → ((x : ReadAt) → IsAmong x reads → stands_in mine x.place ≡ true)
    → 1 + length reads ≤ length mine → 2 + length reads ≤ budget c facts
    → in_hand (budget c facts) old (length mine) + d ≤ 2 + length reads → IsWindowed place reads facts a r
    → AskGrows facts c mine old (place, q) r d
window_grows facts c mine old place q a r reads d stood less fits le w =
    let most : ℕ = budget c facts in
    let more : length (reads_under (Some r)) ≡ length reads + 1 = ap length w.under ∙ length-append reads (w.read ∷ [])
    in
    let after = hand_window most (length mine + 1) r w.window in
    record {
      kind = λ many. inr w.window;
      reads = λ is. reads_grow facts c mine place q a r reads stood less fits w;
      hand = omega (arith, more, after, le);
    }

-- it begins
pub begins_grow : (facts : Facts) (c : Call) (mine : Own) (place : ℕ) (q : Request) (r : Running) → mine ≡ []
    → (makes_many c ≡ true → own_place (Some r) ≡ Some place) → is_window r ≡ false
    → AskGrows facts c mine None (place, q) r 1
begins_grow facts c mine place q r none own plain =
    let most : ℕ = budget c facts in
    let after = hand_min most (length mine + 1) r plain in
    let empty : length mine ≡ 0 = ap length none in
    let two = two_at_least c facts in
    record {
      kind = λ many. inl (ap is_some (own many));
      reads = no_reads facts c (mine ++ (place, q) ∷ []) r plain;
      hand = omega (arith, after, empty, two);
    }

-- behind a HANDLE, which comes to its first request
pub granted_grows : (facts : Facts) (c : Call) (mine : Own) (r0 : Running) (y : Reply) (place : ℕ) (q : Request)
    (a : Ask_of) (r : Running) (p : ℕ) → own_place (Some r0) ≡ Some p → length mine ≡ 1
    → GoesOnBy r0 (Some y) place facts (step.Ask a r) → AskGrows facts c mine (Some r0) (place, q) r 1
granted_grows facts c mine r0 y place q a r p own one by =
    let most : ℕ = budget c facts in
    let two = two_at_least c facts in
    let before = hand_min most (length mine) r0 (own_no_window r0 p own) in
    elim (own_by r0 (Some y) place facts (step.Ask a r) p own by) [
      | inl on ↦ plain_pair facts c mine r0 (place, q) r 1 (own_no_window r0 p own) (own_no_window r place on)
          (λ many. inl (ap is_some on)) (omega (arith, one, two))
      | inr on ↦ window_grows facts c mine (Some r0) place q a r [] 1 (λ x among. absurd among) (omega (arith, one))
          (omega (arith, two)) (omega (arith, before, one)) on.0
    ]

-- behind any other reply, whose id is free then
pub plain_grows : (facts : Facts) (c : Call) (mine : Own) (r0 : Running) (site : Site) (y : Reply) (place : ℕ)
    (q : Request) (a : Ask_of) (r : Running) (p : ℕ) → CallSpends facts c mine r0 → awaited_place r0 site ≡ Some p
    → handle_in_reply y
    ≡ None
    → ((g : ℕ) → opened_by r ≡ Some g → opened_after r0 (Some y) ≡ Some g)
    → GoesOnBy r0 (Some y) place facts (step.Ask a r) → AskGrows facts c mine (Some r0) (place, q) r 0
plain_grows facts c mine r0 site y place q a r p holds at plain keeps by =
    elim (way r0) [
      | inl own ↦ elim (own_by r0 (Some y) place facts (step.Ask a r) own.0 own.1 by) [
        | inl on ↦ plain_pair facts c mine r0 (place, q) r 0 (own_no_window r0 own.0 own.1) (own_no_window r place on)
            (λ many. inl (ap is_some on)) (more_min (length mine) most)
        | inr on ↦ absurd (let none = opened_none r (opened_after r0 (Some y)) keeps (plain_opened r0 y plain ∙ on.1) in
            let clash : false ≡ true = sym none ∙ on.0.window in cc)
      ]
      | inr other ↦ elim other [
        | inl window ↦ by_window window
        | inr slot ↦
            plain_pair facts c mine r0 (place, q) r 0 slot.1 (opened_none r (opened_after r0 (Some y)) keeps
            (plain_opened r0 y plain ∙ slot_opened r0 slot.0 slot.1))
            (λ many. absurd (neither r0 slot.0 slot.1 (holds.kind many))) (more_min (length mine) most)
      ]
    ]
  where
    most : ℕ
    most = budget c facts

    by_window : is_window r0 ≡ true → AskGrows facts c mine (Some r0) (place, q) r 0
    by_window is =
        (let fit = holds.reads is in
        let one = waiting_length r0 y p site is at in
        let before = hand_window most (length mine) r0 is in
        let less = fit.less in
        let fits = fit.fits in
        window_grows facts c mine (Some r0) place q a r (waiting_after r0 (Some y)) 0
        (λ x among. fit.mine x (waiting_among r0 y x is among)) (omega (arith, one, less))
        (omega (arith, one, fits)) (omega (arith, one, before))
        (window_by r0 (Some y) place facts (step.Ask a r) is by))

-- it awaited no reply
pub unreplied_grows : (facts : Facts) (c : Call) (mine : Own) (r0 : Running) (site : Site) (place : ℕ) (q : Request)
    (a : Ask_of) (r : Running) → CallSpends facts c mine r0 → length mine < work c facts → awaited_place r0 site ≡ None
    → ((g : ℕ) → opened_by r ≡ Some g → opened_by r0 ≡ Some g)
    → GoesOnBy r0 None place facts (step.Ask a r) → AskGrows facts c mine (Some r0) (place, q) r 1
unreplied_grows facts c mine r0 site place q a r holds few at keeps by =
    elim (way r0) [
      | inl own ↦ absurd (let clash : ◌≡◌ {A = Option ℕ} None (Some own.0) = sym at ∙ own_awaited r0 site own.0 own.1 in
          cc)
      | inr other ↦ elim other [
        | inl window ↦ by_window window
        | inr slot ↦
            plain_pair facts c mine r0 (place, q) r 1 slot.1 (opened_none r (opened_by r0) keeps
            (slot_opened r0 slot.0 slot.1)) (λ many. absurd (neither r0 slot.0 slot.1 (holds.kind many)))
            (one_min (length mine) most (slots_few c facts r0 (length mine) holds.kind (neither r0 slot.0 slot.1) few))
      ]
    ]
  where
    most : ℕ
    most = budget c facts

    by_window : is_window r0 ≡ true → AskGrows facts c mine (Some r0) (place, q) r 1
    by_window is =
        (let none = none_under r0 site is at in
        let fit = holds.reads is in
        let less = fit.less in
        let two = two_at_least c facts in
        let before = hand_window most (length mine) r0 is ∙ ap (λ (l : List ReadAt). 1 + length l) none.1 in
        window_grows facts c mine (Some r0) place q a r [] 1 (λ x among. absurd among) (omega (arith, less))
        (omega (arith, two)) (omega (arith, before))
        (subst (λ (l : List ReadAt). IsWindowed place l facts a r) none.0
        (window_by r0 None place facts (step.Ask a r) is by)))

-- the reply that it awaits is missing; a call that asks one by one asks nothing then
pub widened_grows : (facts : Facts) (c : Call) (mine : Own) (r0 : Running) (place : ℕ) (q : Request) (a : Ask_of)
    (r : Running) → CallSpends facts c mine r0 → length mine < work c facts → own_place (Some r0) ≡ None
    → ((g : ℕ) → opened_by r ≡ Some g → opened_by r0 ≡ Some g)
    → (is_window r0 ≡ true → ReadsOn place (reads_under (Some r0)) facts (step.Ask a r))
    → (is_window r0 ≡ true → makes_many c ≡ true → is_whole c ≡ false → ⊥)
    → AskGrows facts c mine (Some r0) (place, q) r 1
widened_grows facts c mine r0 place q a r holds few none keeps by alone =
    elim (way r0) [
      | inl own ↦ absurd (let clash : ◌≡◌ {A = Option ℕ} None (Some own.0) = sym none ∙ own.1 in cc)
      | inr other ↦ elim other [
        | inl window ↦ by_window window
        | inr slot ↦
            plain_pair facts c mine r0 (place, q) r 1 slot.1 (opened_none r (opened_by r0) keeps
            (slot_opened r0 slot.0 slot.1)) (λ many. absurd (neither r0 slot.0 slot.1 (holds.kind many)))
            (one_min (length mine) most (slots_few c facts r0 (length mine) holds.kind (neither r0 slot.0 slot.1) few))
      ]
    ]
  where
    most : ℕ
    most = budget c facts

    -- the call may keep one READ more
    wide : (reads : List ReadAt) → 1 + length reads ≤ length mine → length reads + 1 ≤ facts.read_window
        → (makes_many c ≡ true → is_whole c ≡ false → ⊥) → 2 + length reads ≤ budget c facts
    wide reads less free alone = by_call c alone (λ e. (let most_work = few_work c facts e in
        omega (arith, most_work, few)))
      where
        by_call : (d : Call) → (makes_many d ≡ true → is_whole d ≡ false → ⊥)
            → (makes_many d ≡ false → length mine < budget d facts) → 2 + length reads ≤ budget d facts
        by_call (call.FsRead path bound) only few = omega (arith, free)
        by_call (call.ReadAll slot n) only few = absurd (only refl refl)
        by_call (call.WriteAll slot bytes) only few = absurd (only refl refl)
        by_call (call.WriteParts slot parts) only few = absurd (only refl refl)
        by_call (call.FsWrite path bytes) only few = absurd (only refl refl)
        by_call (call.List path bound) only few = absurd (only refl refl)
        by_call other only few = (let lt = few refl in omega (arith, lt, less))

    by_window : is_window r0 ≡ true → AskGrows facts c mine (Some r0) (place, q) r 1
    by_window is =
        (let w = by is in
        let fit = holds.reads is in
        let less = fit.less in
        let more : length (reads_under (Some r)) ≡ length (reads_under (Some r0)) + 1 = ap length w.under
        ∙ length-append (reads_under (Some r0)) (w.read ∷ []) in
        let few_reads = w.few in
        let before = hand_window most (length mine) r0 is in
        window_grows facts c mine (Some r0) place q a r (reads_under (Some r0)) 1 fit.mine less
        (wide (reads_under (Some r0)) less (omega (arith, more, few_reads)) (alone is)) (omega (arith, before)) w)

-- ---- a call that waits

-- It goes on as it may, and may keep at most so many less.
pub record WaitGrows (facts : Facts) (c : Call) (mine : Own) (old : Option Running) (r : Running) (e : ℕ) : Type 0 where
  pub spends : CallSpends facts c mine r
  pub hand : in_hand (budget c facts) old (length mine) ≤ in_hand (budget c facts) (Some r) (length mine) + e

-- without READs of a window under way
pub slot_call : (facts : Facts) (c : Call) (mine : Own) (r : Running) → own_place (Some r) ≡ None → is_window r ≡ false
    → (makes_many c ≡ true → ⊥) → length mine ≤ work c facts → CallSpends facts c mine r
slot_call facts c mine r none plain few made =
    record {
      last = λ p is. absurd (let clash : ◌≡◌ {A = Option ℕ} None (Some p) = sym none ∙ is in cc);
      kind = λ many. absurd (few many);
      made = made;
      reads = no_reads facts c mine r plain;
    }

pub begins_wait : (facts : Facts) (c : Call) (mine : Own) (site : Site) (r : Running) → mine ≡ []
    → (makes_many c ≡ true → ⊥) → LooksForReply None [] site r → WaitGrows facts c mine None r 0
begins_wait facts c mine site r none few looks =
    let empty : length mine ≡ 0 = ap length none in
    record {
      spends = slot_call facts c mine r looks.deferred (opened_none r None looks.keeps refl) few
          (omega (arith, empty));
      hand = omega arith;
    }

-- after the reply that it awaited
pub plain_waits : (facts : Facts) (c : Call) (mine : Own) (r0 : Running) (old site : Site) (y : Reply) (place p : ℕ)
    (reads : List ReadAt) (r : Running) → CallSpends facts c mine r0 → awaited_place r0 old ≡ Some p → handle_in_reply y
    ≡ None
    ⊎ (is_window r0 ≡ false) → LooksForReply (opened_after r0 (Some y)) reads site r
    → GoesOnBy r0 (Some y) place facts (step.Wait r) → (WaitGrows facts c mine (Some r0) r 0)
    ⊎ ((handle_in_reply y ≡ None) × WaitGrows facts c mine (Some r0) r 1)
plain_waits facts c mine r0 old site y place p reads r holds at plain looks by =
    elim (way r0) [
      | inl own ↦ elim (own_by r0 (Some y) place facts (step.Wait r) own.0 own.1 by) [
        | inl on ↦ absurd on
        | inr on ↦ absurd (let none = none_awaited r site on.0.0 on.0.1 in let clash : false ≡ true =
            sym (ap is_some none) ∙ looks.some in cc)
      ]
      | inr other ↦ elim other [
        | inl window ↦ inr (by_window window)
        | inr slot ↦ inl (by_slot slot.0 slot.1)
      ]
    ]
  where
    most : ℕ
    most = budget c facts

    by_slot : own_place (Some r0) ≡ None → is_window r0 ≡ false → WaitGrows facts c mine (Some r0) r 0
    by_slot none plain0 =
        (let opened : opened_after r0 (Some y) ≡ None = slot_after r0 y none plain0 in
        let plain_r = opened_none r (opened_after r0 (Some y)) looks.keeps opened in
        let before = hand_min most (length mine) r0 plain0 in
        let after = hand_min most (length mine) r plain_r in
        record {
          spends = slot_call facts c mine r looks.deferred plain_r
              (λ many. neither r0 none plain0 (holds.kind many)) holds.made;
          hand = omega (arith, before, after);
        })
      where
        slot_after : (x : Running) (z : Reply) → own_place (Some x) ≡ None → is_window x ≡ false
            → opened_after x (Some z) ≡ None
        slot_after (running.OpeningToWrite place) z none e = absurd cc
        slot_after (running.OpeningToRead place bound) z none e = absurd cc
        slot_after (running.OpeningDirectory place bound) z none e = absurd cc
        slot_after x z none e = slot_opened x none e

    by_window : is_window r0 ≡ true → (handle_in_reply y ≡ None) × WaitGrows facts c mine (Some r0) r 1
    by_window is =
        (let on = window_by r0 (Some y) place facts (step.Wait r) is by in
        let fit = holds.reads is in
        let one = waiting_length r0 y p old is at in
        let same : length (reads_under (Some r)) ≡ length (waiting_after r0 (Some y)) = ap length on.1 in
        let before = hand_window most (length mine) r0 is in
        let after = hand_window most (length mine) r on.0 in
        let less = fit.less in
        let fits = fit.fits in
        let none : handle_in_reply y ≡ None = elim plain [
          | inl none ↦ none
          | inr other ↦
              absurd (let clash : false ≡ true = sym other ∙ is in cc)
        ] in (
          none,
          record {
            spends = record {
              last = λ q mine_is. absurd (let clash : ◌≡◌ {A = Option ℕ} None (Some q) = sym looks.deferred ∙ mine_is in
                  cc);
              kind = λ many. inr on.0;
              made = holds.made;
              reads = λ window. record {
                mine = λ x among. fit.mine x
                    (waiting_among r0 y x is (subst (λ (l : List ReadAt). IsAmong x l) on.1 among));
                less =
                    omega (arith, one, same, less);
                fits = omega (arith, one, same, fits);
              };
            };
            hand = omega (arith, one, same, before, after);
          },
        ))

-- where it awaited none
pub unreplied_waits : (facts : Facts) (c : Call) (mine : Own) (r0 : Running) (old site : Site) (place : ℕ)
    (reads : List ReadAt) (r : Running) → CallSpends facts c mine r0 → awaited_place r0 old ≡ None
    → LooksForReply (opened_by r0) reads site r → GoesOnBy r0 None place facts (step.Wait r)
    → WaitGrows facts c mine (Some r0) r 0
unreplied_waits facts c mine r0 old site place reads r holds at looks by =
    elim (way r0) [
      | inl own ↦ absurd (let clash : ◌≡◌ {A = Option ℕ} None (Some own.0) = sym at ∙ own_awaited r0 old own.0 own.1 in
          cc)
      | inr other ↦ elim other [
        | inl window ↦
            absurd (let on = window_by r0 None place facts (step.Wait r) window by in
            let none = none_awaited r site on.0 (on.1 ∙ (none_under r0 old window at).0) in
            let clash : false ≡ true = sym (ap is_some none) ∙ looks.some in cc)
        | inr slot ↦
            (let plain_r = opened_none r (opened_by r0) looks.keeps (slot_opened r0 slot.0 slot.1) in
            let before = hand_min (budget c facts) (length mine) r0 slot.1 in
            let after = hand_min (budget c facts) (length mine) r plain_r in
            record {
              spends = slot_call facts c mine r looks.deferred plain_r
                  (λ many. neither r0 slot.0 slot.1 (holds.kind many)) holds.made;
              hand = omega (arith, before, after);
            })
      ]
    ]
