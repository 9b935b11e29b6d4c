-- If one seat made all Sends of a journal, its bytes are those that the journal sends; the same for Takes.
use Rattle.std.proofs.Common.{
  ◌≡◌,
  ◌≢◌,
  ◌⊎◌,
  ◌<◌,
  ◌≤◌,
  ℕ,
  suc,
  ◌==◌,
  List,
  [],
  ◌∷◌,
  ◌++◌,
  length,
  Bool,
  true,
  false,
  refl,
  sym,
  ap,
  ◌∙◌,
  subst,
  inl,
  inr,
  ⊎_elim,
  arith,
  append-nil,
  eq-eqb,
}
use Rattle.std.specs.Prelude.{if◌then◌else◌}
use mathlib.Core.Logic.{dite}
use native.Mathlib.Decide.{ℕ_discrete}
use Rattle.session_model.specs.declared.entry.Entry.{Entry}
use Rattle.session_seats.specs.declared.view.Claim.{Claim}
use Rattle.session_seats.specs.declared.view.Receipt.{Receipt}
use Rattle.session_seats.specs.declared.view.SeatName.{SeatName}
use Rattle.session_seats.specs.declared.view.Sight.{Sight}
use Rattle.session_seats.specs.declared.view.Stamp.{Stamp}
use Rattle.session_seats.specs.Covers.{ClosesSeats, HasAllSeats, HasNumber, HasEach}
use Rattle.session_seats.specs.Rules.{AllTold}
use Rattle.session_seats.specs.Sights.{AllNamed, IsLawfulSight, AreSeatedInOrder, entries, seats_given_by, own, receipt}
use Rattle.session_seats.proofs.Lists.{name_there}
use Rattle.sftp_model.specs.declared.reply.Reply.{Reply}
use Rattle.sftp_tasks.specs.Sent.{sends, sent_by, sent_bytes, taken_by, taken_replies, takes}

-- ---- each seat is one of those that were taken in

abbrev IsIn : ℕ → List ℕ → Type 0
IsIn k [] = ⊥
IsIn k (x ∷ xs) = (x ≡ k) ⊎ IsIn k xs

in_front : (k : ℕ) (xs ys : List ℕ) → IsIn k xs → IsIn k (xs ++ ys)
in_front k [] ys is = absurd is
in_front k (x ∷ xs) ys is = ⊎_elim (λ (e : x ≡ k). inl e) (λ (i : IsIn k xs). inr (in_front k xs ys i)) is

in_last : (k : ℕ) (xs : List ℕ) → IsIn k (xs ++ k ∷ [])
in_last k [] = inl refl
in_last k (x ∷ xs) = inr (in_last k xs)

in_more : (b : Bool) (k j : ℕ) (ks : List ℕ) → IsIn k ks → IsIn k (if b then ks ++ j ∷ [] else ks)
in_more true k j ks is = in_front k ks (j ∷ []) is
in_more false k j ks is = is

each_has : (ks : List ℕ) (cs : List Claim) → HasEach ks cs → (k : ℕ) → IsIn k ks → HasNumber k cs
each_has [] cs h k is = absurd is
each_has (x ∷ xs) cs h k is = ⊎_elim (λ (e : x ≡ k). subst (λ (j : ℕ). HasNumber j cs) e h.0)
    (λ (i : IsIn k xs). each_has xs cs h.1 k i) is

closed_has : (now : Sight) (cs all : List Claim) → AllTold now cs → ClosesSeats cs all → (n : ℕ) → HasNumber n cs
    → (k : ℕ) → IsIn k (seats_given_by n now.seats) → HasNumber k all
closed_has now [] all told closed n has k is = absurd has
closed_has now (c ∷ cs) all told closed n has k is =
    ⊎_elim
    (λ (e : c.number ≡ n). each_has (seats_given_by c.number c.sight.seats) all closed.0 k
    (subst (IsIn k) told.0.given (subst (λ (j : ℕ). IsIn k (seats_given_by j now.seats)) (sym e) is)))
    (λ (h : HasNumber n cs). closed_has now cs all told.1 closed.1 n h k is)
    has

all_here : (seats : List SeatName) (cs : List Claim) → AreSeatedInOrder seats
    → ((n : ℕ) → HasNumber n cs → (k : ℕ) → IsIn k (seats_given_by n seats) → HasNumber k cs) → HasNumber 0 cs
    → (k : ℕ) → k < length seats → HasNumber k cs
all_here [] cs law closed home k less = absurd (omega arith)
all_here (g ∷ seats) cs law closed home k less =
    let before = all_here seats cs law.3 (λ n has j is. closed n has j
    (in_more (g.by == n) j (length seats) (seats_given_by n seats) is)) home in
    let is_in : IsIn (length seats) (seats_given_by g.by (g ∷ seats)) =
    subst (λ (b : Bool). IsIn (length seats) (if b then seats_given_by g.by seats ++ length seats ∷ [] else
    seats_given_by g.by seats))
    (sym (eq-eqb g.by g.by refl)) (in_last (length seats) (seats_given_by g.by seats)) in
    let last : HasNumber (length seats) cs = dite (ℕ_discrete (length seats) 0)
    (λ none. subst (λ (j : ℕ). HasNumber j cs) (sym none) home)
    (λ some. closed g.by (before g.by (law.0 (omega arith))) (length seats) is_in) in
    dite (ℕ_discrete (length seats) k) (λ same. subst (λ (j : ℕ). HasNumber j cs) same last)
    (λ apart. before k (omega arith))

-- ---- the entries that each made

-- all entries of these receipts are such
abbrev pub AllMade : (Entry → Type 0) → List Receipt → Type 0
AllMade P [] = Unit {0}
AllMade P (r ∷ rs) = P r.entry × AllMade P rs

made_front : (P : Entry → Type 0) (rs more : List Receipt) → AllMade P (rs ++ more) → AllMade P rs
made_front P [] more h = tt
made_front P (r ∷ rs) more h = (h.0, made_front P rs more h.1)

made_last : (P : Entry → Type 0) (rs : List Receipt) (r : Receipt) → AllMade P (rs ++ r ∷ []) → P r.entry
made_last P [] r h = h.0
made_last P (x ∷ rs) r h = made_last P rs r h.1

pub made_both : (P : Entry → Type 0) (rs more : List Receipt) → AllMade P rs → AllMade P more → AllMade P (rs ++ more)
made_both P [] more h g = g
made_both P (r ∷ rs) more h g = (h.0, made_both P rs more h.1 g)

made_before : (P : Entry → Type 0) (b : Bool) (rs : List Receipt) (r : Receipt)
    → AllMade P (if b then rs ++ r ∷ [] else rs) → AllMade P rs
made_before P true rs r h = made_front P rs (r ∷ []) h
made_before P false rs r h = h

-- the effect that an entry of the seat n may have, if one seat sends and one takes
pub record MovesAs (sender reader n : ℕ) (e : Entry) : Type 0 where
  pub sends : n ≢ sender → (past : List Entry) → sends e past ≡ []
  pub takes : n ≢ reader → takes e ≡ []

abbrev pub AllMove : ℕ → ℕ → List Stamp → Type 0
AllMove sender reader [] = Unit {0}
AllMove sender reader (s ∷ log) = MovesAs sender reader s.by s.entry × AllMove sender reader log

all_move : (sender reader : ℕ) (seats : List SeatName) (log : List Stamp)
    → ((n : ℕ) → n < length seats → AllMade (MovesAs sender reader n) (own n log)) → AllNamed seats log
    → AllMove sender reader log
all_move sender reader seats [] made named = tt
all_move sender reader seats (s ∷ log) made named =
    let less = name_there seats s.by named.0.0 named.0.1 in
    let its = receipt (length log) s.entry in
    let mine : AllMade (MovesAs sender reader s.by) (own s.by log ++ its ∷ []) =
    subst (λ (b : Bool). AllMade (MovesAs sender reader s.by) (if b then own s.by log ++ its ∷ [] else own s.by log))
    (eq-eqb s.by s.by refl) (made s.by less) in (
      made_last (MovesAs sender reader s.by) (own s.by log) its mine,
      all_move sender reader seats log
          (λ n lt. made_before (MovesAs sender reader n) (s.by == n) (own n log) its (made n lt)) named.1,
    )

-- each claim's seat made only such entries
abbrev pub AllClaimsMove : ℕ → ℕ → List Stamp → List Claim → Type 0
AllClaimsMove sender reader log [] = Unit {0}
AllClaimsMove sender reader log (c ∷ cs) = AllMade (MovesAs sender reader c.number) (own c.number log)
    × AllClaimsMove sender reader log cs

claim_moves : (sender reader : ℕ) (log : List Stamp) (cs : List Claim) (n : ℕ) → AllClaimsMove sender reader log cs
    → HasNumber n cs
    → AllMade (MovesAs sender reader n) (own n log)
claim_moves sender reader log [] n all has = absurd has
claim_moves sender reader log (c ∷ cs) n all has =
    ⊎_elim (λ (is : c.number ≡ n). subst (λ (k : ℕ). AllMade (MovesAs sender reader k) (own k log)) is all.0)
    (λ (h : HasNumber n cs). claim_moves sender reader log cs n all.1 h) has

-- if none of the seats is missing
pub moves_all : (now : Sight) (cs : List Claim) (sender reader : ℕ) → IsLawfulSight now → AllTold now cs
    → HasAllSeats cs
    → AllClaimsMove sender reader now.log cs → AllMove sender reader now.log
moves_all now cs sender reader lawful told complete all =
    let here = all_here now.seats cs lawful.seated (closed_has now cs cs told complete.1) complete.0 in
    all_move sender reader now.seats now.log (λ n less. claim_moves sender reader now.log cs n all (here n less))
    lawful.named

-- ---- all Sends and Takes

by_one : (b : Bool) (n sender : ℕ) → (n == sender) ≡ b → (b ≡ false → n ≢ sender)
by_one b n sender is none same = Rattle.std.proofs.Common.true≢false (sym (eq-eqb n sender same) ∙ is ∙ none)

pub sent_whole : (sender reader : ℕ) (log : List Stamp) → AllMove sender reader log → sent_by sender log
    ≡ sent_bytes (entries log)
sent_whole sender reader [] all = refl
sent_whole sender reader (s ∷ log) all =
    by_test (s.by == sender) refl
    ∙ ap (λ (l : List ℕ). l ++ sends s.entry (entries log)) (sent_whole sender reader log all.1)
  where
    by_test : (b : Bool) → (s.by == sender) ≡ b
        → (if b then sent_by sender log ++ sends s.entry (entries log) else sent_by sender log) ≡ sent_by sender log
        ++ sends s.entry (entries log)
    by_test true is = refl
    by_test false is =
        sym (append-nil (sent_by sender log))
        ∙ ap (λ (l : List ℕ). sent_by sender log ++ l) (sym (all.0.sends (by_one false s.by sender is refl)
        (entries log)))

pub taken_whole : (sender reader : ℕ) (log : List Stamp) → AllMove sender reader log → taken_by reader log
    ≡ taken_replies (entries log)
taken_whole sender reader [] all = refl
taken_whole sender reader (s ∷ log) all =
    by_test (s.by == reader) refl
    ∙ ap (λ (l : List (ℕ × Reply)). l ++ takes s.entry) (taken_whole sender reader log all.1)
  where
    by_test : (b : Bool) → (s.by == reader) ≡ b
        → (if b then taken_by reader log ++ takes s.entry else taken_by reader log) ≡ taken_by reader log
        ++ takes s.entry
    by_test true is = refl
    by_test false is =
        sym (append-nil (taken_by reader log))
        ∙ ap (λ (l : List (ℕ × Reply)). taken_by reader log ++ l) (sym (all.0.takes (by_one false s.by reader is refl)))
