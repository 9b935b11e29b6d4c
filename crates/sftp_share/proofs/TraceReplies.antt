-- The reply to a request in the events after its Submit is the journal's answer at its place.
use Rattle.std.proofs.Common.{
  ◌≡◌,
  ◌≢◌,
  ◌<◌,
  ℕ,
  ◌==◌,
  Bool,
  true,
  false,
  List,
  [],
  ◌∷◌,
  ◌++◌,
  Some,
  None,
  refl,
  ap,
  sym,
  ◌∙◌,
  subst,
  arith,
  if◌then◌else◌,
  inl,
  inr,
}
use Rattle.std.proofs.lemmas.Bool.{eq-eqb}
use Rattle.std.proofs.lemmas.Bool.Decides.{eqb_tells}
use Rattle.std.proofs.lemmas.List.{reverse-append}
use Rattle.sftp_model.specs.declared.reply.Reply.{Reply}
use Rattle.sftp_model.specs.declared.request.Request.{Request}
use Rattle.session_model.specs.declared.event.Owner.{Owner}
use Rattle.session_model.specs.declared.event.Event.{Event}
use Rattle.session_model.specs.declared.event.Event.TheVariants.{Submit, Send, Take, Cancel, End}
use Rattle.session_model.specs.declared.entry.Entry.{Entry}
use Rattle.session_model.specs.declared.entry.Entry.TheVariants as entry
use Rattle.session_model.specs.Calls.{Setting}
use Rattle.session_model.specs.Journals.{IsJournal}
use Rattle.session_model.specs.Readings.{answer, count_submitted, bearer, events_of, trace_of}
use Rattle.session_model.proofs.CallLaws.{next_take}
use Rattle.session_model.proofs.RequestLaws.{answer_beyond, answer_new, answer_other, bearer_below}
use Rattle.sftp_share.specs.Replays.{reply_in}

-- ---- events after a Submit

-- a further request has the id
abbrev pub bears : ℕ → List Event → Bool
bears id [] = false
bears id (Submit by i r ∷ later) = if i == id then true else bears id later
bears id (Send ∷ later) = bears id later
bears id (_ ∷ later) = bears id later

bears_more : (id : ℕ) (xs : List Event) (e : Event) → bears id (xs ++ e ∷ [])
    ≡ (if bears id xs then true else bears id (e ∷ []))
bears_more id [] e = refl
bears_more id (Submit by i r ∷ xs) e = elim (eqb_tells i id)
    [ inl t ↦ rw t.0 refl | inr t ↦ rw t.0 (bears_more id xs e) ]
bears_more id (Send ∷ xs) e = bears_more id xs e
bears_more id (_ ∷ xs) e = bears_more id xs e

either : (a b : Bool) → (if a then true else b) ≡ false → (a ≡ false) × (b ≡ false)
either true b e = absurd cc
either false b e = (refl, e)

-- it ends the search
stopped : (id : ℕ) (xs ys : List Event) → bears id xs ≡ true → reply_in id (xs ++ ys) ≡ reply_in id xs
stopped id [] ys e = absurd cc
stopped id (Submit by i r ∷ xs) ys e = elim (eqb_tells i id)
    [ inl t ↦ rw t.0 refl | inr t ↦ rw t.0 (stopped id xs ys (rw t.0 at e)) ]
stopped id (Take i r ∷ xs) ys e = elim (eqb_tells i id) [ inl t ↦ rw t.0 refl | inr t ↦ rw t.0 (stopped id xs ys e) ]
stopped id (_ ∷ xs) ys e = stopped id xs ys e

-- the first Take with the id is found
found : (id : ℕ) (xs : List Event) (x : Reply) → bears id xs ≡ false → reply_in id xs ≡ None
    → reply_in id (xs ++ Take id x ∷ []) ≡ Some x
found id [] x b n = rw (eq-eqb id id refl) refl
found id (Submit by i r ∷ xs) x b n = elim (eqb_tells i id) [
  | inl t ↦ (let no : true ≡ false = rw t.0 at b in absurd cc)
  | inr t ↦ rw t.0 (found id xs x (rw t.0 at b) (rw t.0 at n))
]
found id (Take i r ∷ xs) x b n = elim (eqb_tells i id) [
  | inl t ↦ (let no : Some r ≡ None = rw t.0 at n in absurd cc)
  | inr t ↦ rw t.0 (found id xs x b (rw t.0 at n))
]
found id (_ ∷ xs) x b n = found id xs x b n

-- an event that brings no reply to the id changes nothing
passed : (id : ℕ) (xs : List Event) (e : Event) → reply_in id (e ∷ []) ≡ None → reply_in id (xs ++ e ∷ [])
    ≡ reply_in id xs
passed id [] e n = n
passed id (Submit by i r ∷ xs) e n = elim (eqb_tells i id) [ inl t ↦ rw t.0 refl | inr t ↦ rw t.0 (passed id xs e n) ]
passed id (Take i r ∷ xs) e n = elim (eqb_tells i id) [ inl t ↦ rw t.0 refl | inr t ↦ rw t.0 (passed id xs e n) ]
passed id (_ ∷ xs) e n = passed id xs e n

submit_brings_none : (by : Owner) (i id : ℕ) (r : Request) → reply_in id (Submit by i r ∷ []) ≡ None
submit_brings_none by i id r = elim (eqb_tells i id) [ inl t ↦ rw t.0 refl | inr t ↦ rw t.0 refl ]

take_brings_none : (i id : ℕ) (x : Reply) → i ≢ id → reply_in id (Take i x ∷ []) ≡ None
take_brings_none i id x ne = elim (eqb_tells i id) [ inl t ↦ absurd (ne t.1) | inr t ↦ rw t.0 refl ]

-- ---- journals after a Submit

-- the events, the oldest first
abbrev pub in_order : List Entry → List Event
in_order [] = []
in_order (entry.Event e ∷ past) = in_order past ++ e ∷ []
in_order (entry.LetGo lane ∷ past) = in_order past
in_order (_ ∷ past) = in_order past

pub in_order_is : (past : List Entry) → trace_of past ≡ in_order past
in_order_is [] = refl
in_order_is (entry.Event e ∷ past) = reverse-append (e ∷ []) (events_of past)
    ∙ ap (λ (w : List Event). w ++ e ∷ []) (in_order_is past)
in_order_is (entry.LetGo lane ∷ past) = in_order_is past
in_order_is (entry.Added lane c ∷ past) = in_order_is past
in_order_is (entry.Kept fault ∷ past) = in_order_is past

module _ (by : Owner) (id : ℕ) (r : Request) (q : List Entry) where
  -- the journal that has these entries after the Submit of the request
  abbrev behind : List Entry → List Entry
  behind after = after ++ entry.Event (Submit by id r) ∷ q

  above : (after : List Entry) → count_submitted q < count_submitted (behind after)
  above [] = omega arith
  above (entry.Event (Submit b j x) ∷ after) = let old = above after in omega (arith, old)
  above (_ ∷ after) = above after

  -- an id whose bearer is at the request's place is its own, and no further request has it
  borne : (after : List Entry) (i : ℕ) → bearer (behind after) i ≡ Some (count_submitted q) → (i ≡ id)
      × (bears id (in_order after) ≡ false)
  borne [] i e = elim (eqb_tells id i) [
    | inl t ↦ (sym t.1, refl)
    | inr t ↦ (let lt = bearer_below q i (count_submitted q) (rw t.0 at e) in absurd (omega (arith, lt)))
  ]
  borne (entry.Event (Submit b j x) ∷ after) i e = elim (eqb_tells j i) [
    | inl t ↦ (let same : count_submitted (behind after) ≡ count_submitted q = cc (rw t.0 at e) in let lt = above after
        in absurd (omega (arith, same, lt)))
    | inr t ↦ (let old = borne after i (rw t.0 at e) in (
      old.0,
      bears_more id (in_order after) (Submit b j x) ∙ rw old.1 (elim (eqb_tells j id) [
        | inl u ↦ absurd (t.1 (u.1 ∙ sym old.0))
        | inr u ↦ rw u.0 refl
      ]),
    ))
  ]
  borne (entry.Event Send ∷ after) i e = let old = borne after i e in
      (old.0, bears_more id (in_order after) Send ∙ rw old.1 refl)
  borne (entry.Event (Take j x) ∷ after) i e = let old = borne after i e in
      (old.0, bears_more id (in_order after) (Take j x) ∙ rw old.1 refl)
  borne (entry.Event (Cancel lane) ∷ after) i e = let old = borne after i e in
      (old.0, bears_more id (in_order after) (Cancel lane) ∙ rw old.1 refl)
  borne (entry.Event (End lane call o) ∷ after) i e = let old = borne after i e in
      (old.0, bears_more id (in_order after) (End lane call o) ∙ rw old.1 refl)
  borne (entry.Added lane c ∷ after) i e = borne after i e
  borne (entry.LetGo lane ∷ after) i e = borne after i e
  borne (entry.Kept fault ∷ after) i e = borne after i e

  -- while no further request has the id, this one does
  bearing : (after : List Entry) → bears id (in_order after) ≡ false → bearer (behind after) id
      ≡ Some (count_submitted q)
  bearing [] f = rw (eq-eqb id id refl) refl
  bearing (entry.Event (Submit b j x) ∷ after) f =
      let parts = either (bears id (in_order after)) (bears id (Submit b j x ∷ []))
      (sym (bears_more id (in_order after) (Submit b j x)) ∙ f) in
      elim (eqb_tells j id) [
        | inl t ↦ (let no : true ≡ false = rw t.0 at parts.1 in absurd cc)
        | inr t ↦ rw t.0 (bearing after parts.0)
      ]
  bearing (entry.Event Send ∷ after) f = bearing after (either (bears id (in_order after)) false
      (sym (bears_more id (in_order after) Send) ∙ f)).0
  bearing (entry.Event (Take j x) ∷ after) f = bearing after (either (bears id (in_order after)) false
      (sym (bears_more id (in_order after) (Take j x)) ∙ f)).0
  bearing (entry.Event (Cancel lane) ∷ after) f = bearing after
      (either (bears id (in_order after)) false (sym (bears_more id (in_order after) (Cancel lane)) ∙ f)).0
  bearing (entry.Event (End lane call o) ∷ after) f = bearing after
      (either (bears id (in_order after)) false (sym (bears_more id (in_order after) (End lane call o)) ∙ f)).0
  bearing (entry.Added lane c ∷ after) f = bearing after f
  bearing (entry.LetGo lane ∷ after) f = bearing after f
  bearing (entry.Kept fault ∷ after) f = bearing after f

  -- a Take of another request's reply
  other_take : (after : List Entry) (i place : ℕ) (x : Reply) → bearer (behind after) i ≡ Some place
      → place ≢ count_submitted q
      → reply_in id (in_order after ++ Take i x ∷ []) ≡ reply_in id (in_order after)
  other_take after i place x is ne = elim (eqb_tells i id) [
    | inl t ↦ by_case (bears id (in_order after)) refl t.1
    | inr t ↦ passed id (in_order after) (Take i x) (take_brings_none i id x t.1)
  ]
    where
      by_case : (b : Bool) → bears id (in_order after) ≡ b → i ≡ id
          → reply_in id (in_order after ++ Take i x ∷ []) ≡ reply_in id (in_order after)
      by_case true e same = stopped id (in_order after) (Take i x ∷ []) e
      by_case false e same =
          let here : bearer (behind after) i ≡ Some (count_submitted q) =
          subst (λ (k : ℕ). bearer (behind after) k ≡ Some (count_submitted q)) (sym same) (bearing after e) in
          let at : Some place ≡ Some (count_submitted q) = sym is ∙ here in absurd (ne (cc at))

  pub answered : (s : Setting) (after : List Entry) → IsJournal s (behind after)
      → answer (behind after) (count_submitted q) ≡ reply_in id (in_order after)
  answered s [] j = answer_beyond q (count_submitted q) (omega arith)
  answered s (entry.Event (Take i x) ∷ after) j =
      let may = (next_take s (behind after) i x j.0).0 in
      let old = answered s after j.1 in
      elim (eqb_tells may.0 (count_submitted q)) [
        | inl t ↦ (let here : bearer (behind after) i ≡ Some (count_submitted q) = may.1.0.0
            ∙ ap (λ (k : ℕ). Some k) t.1 in
            let b = borne after i here in
            let none : answer (behind after) (count_submitted q) ≡ None =
            subst (λ (k : ℕ). answer (behind after) k ≡ None) t.1 may.1.0.2 in
            answer_new (behind after) i (count_submitted q) x here
            ∙ sym (subst (λ (k : ℕ). reply_in id (in_order after ++ Take k x ∷ []) ≡ Some x) (sym b.0)
            (found id (in_order after) x b.1 (sym old ∙ none))))
        | inr t ↦ answer_other (behind after) i may.0 (count_submitted q) x may.1.0.0 t.1
            ∙ (old ∙ sym (other_take after i may.0 x may.1.0.0 t.1))
      ]
  answered s (entry.Event (Submit b j x) ∷ after) js =
      answered s after js.1 ∙ sym (passed id (in_order after) (Submit b j x) (submit_brings_none b j id x))
  answered s (entry.Event Send ∷ after) js = answered s after js.1 ∙ sym (passed id (in_order after) Send refl)
  answered s (entry.Event (Cancel lane) ∷ after) js = answered s after js.1
      ∙ sym (passed id (in_order after) (Cancel lane) refl)
  answered s (entry.Event (End lane call o) ∷ after) js = answered s after js.1
      ∙ sym (passed id (in_order after) (End lane call o) refl)
  answered s (entry.Added lane c ∷ after) js = answered s after js.1
  answered s (entry.LetGo lane ∷ after) js = answered s after js.1
  answered s (entry.Kept fault ∷ after) js = answered s after js.1
