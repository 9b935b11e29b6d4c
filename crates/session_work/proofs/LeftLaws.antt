-- What the lanes have left to do, and how a journal goes on by CLOSEs.
use Rattle.std.proofs.Common.{◌≡◌, ◌+◌, ◌∙◌, ◌∷◌, [], ℕ, suc, List, None, refl, ap, sym, subst, inl, inr, drop, length}
use Rattle.sftp_model.specs.declared.slot.Facts.{Facts}
use Rattle.plan_model.specs.declared.call.Lane.{Lane}
use Rattle.session_model.specs.declared.entry.Entry.{Entry}
use Rattle.session_model.specs.Calls.{Setting}
use Rattle.session_model.specs.Journals.{close_of}
use Rattle.session_model.specs.Readings.{count_ended, last_cancel, own}
use Rattle.session_model.specs.Turns.{ClosesTo}
use Rattle.session_model.proofs.CallLaws.{due_next}
use Rattle.session_driver.specs.Session.{IsLater}
use Rattle.session_work.specs.Working.{calls_left, lane_left, lanes_left}

-- ---- what is left

-- a lane of which no call ended or asked
pub lane_same : (facts : Facts) (now past : List Entry) (lane : Lane) (n : ℕ) → count_ended now n ≡ count_ended past n
    → ((c : ℕ) → own now n c ≡ own past n c) → lane_left facts now lane n ≡ lane_left facts past lane n
lane_same facts now past lane n ends asks =
    let mine : own now n (count_ended now n) ≡ own past n (count_ended past n) = asks (count_ended now n)
    ∙ ap (own past n) ends in
    (λ i. calls_left facts (drop (ends i) lane.calls) (length (mine i)))

-- and all lanes, of none of which a call ended or asked
pub lanes_same : (facts : Facts) (now past : List Entry) (lanes : List Lane) (n : ℕ)
    → ((m : ℕ) → count_ended now m ≡ count_ended past m) → ((m c : ℕ) → own now m c ≡ own past m c)
    → lanes_left facts now lanes n
    ≡ lanes_left facts past lanes n
lanes_same facts now past [] n ends asks = refl
lanes_same facts now past (lane ∷ lanes) n ends asks =
    let here = lane_same facts now past lane n (ends n) (asks n) in
    let rest = lanes_same facts now past lanes (suc n) ends asks in
    (λ i. here i + rest i)

-- ---- CLOSEs

-- behind CLOSEs no Cancel stands last where none did before
pub closes_calm : (s : Setting) (before now : List Entry) → ClosesTo s before now → last_cancel before ≡ None
    → last_cancel now ≡ None
closes_calm s before [] same calm = subst (λ (w : List Entry). last_cancel w ≡ None) same calm
closes_calm s before (e ∷ past) (inl same) calm = subst (λ (w : List Entry). last_cancel w ≡ None) same calm
closes_calm s before (e ∷ past) (inr c) calm = ap (λ (x : Entry). last_cancel (x ∷ past)) c.0.1.1.1.1

-- and each of them might come next
pub closes_later : (s : Setting) (before now : List Entry) → ClosesTo s before now → last_cancel before ≡ None
    → IsLater s before now
closes_later s before [] same calm = same
closes_later s before (e ∷ past) (inl same) calm = inl same
closes_later s before (e ∷ past) (inr c) calm = inr (
  due_next s past c.0.0 e (closes_calm s before past c.1 calm)
      c.0.1.0 c.0.1.1,
  closes_later s before past c.1 calm,
)

-- they are of no lane's call
pub closes_left : (s : Setting) (facts : Facts) (before now : List Entry) → ClosesTo s before now
    → (lanes : List Lane) (n : ℕ) → lanes_left facts now lanes n ≡ lanes_left facts before lanes n
closes_left s facts before [] same lanes n = ap (λ (w : List Entry). lanes_left facts w lanes n) (sym same)
closes_left s facts before (e ∷ past) (inl same) lanes n = ap (λ (w : List Entry). lanes_left facts w lanes n)
    (sym same)
closes_left s facts before (e ∷ past) (inr c) lanes n =
    ap (λ (x : Entry). lanes_left facts (x ∷ past) lanes n) c.0.1.1.1.1
    ∙ lanes_same facts (close_of past c.0.0 c.0.1.1.0 ∷ past) past lanes n (λ m. refl) (λ m k. refl)
    ∙ closes_left s facts before past c.1 lanes n
