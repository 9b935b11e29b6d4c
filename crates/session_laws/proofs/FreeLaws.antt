-- An id under which a core has nothing bears no ticket and no grant, and that of a grant bears nothing else.
use Rattle.std.proofs.Common.{◌≡◌, ℕ, Bool, true, false, List, Option, Some, None, refl, ap, sym, ◌∙◌}
use Rattle.sftp_model.specs.Answers.{expected_of, is_handle}
use Rattle.sftp_model.specs.declared.answers.Expected.{Expected}
use Rattle.sftp_model.specs.declared.reply.Reply.{Reply}
use Rattle.sftp_core.specs.declared.id_record.IdRecord.{IdRecord}
use Rattle.session_model.specs.declared.entry.Entry.{Entry}
use Rattle.session_model.specs.Readings.{answer}
use Rattle.session_model.specs.Grants.{is_grant, is_granted}
use Rattle.session_model.specs.Ids.{ReadsId, IdState, Free, Pending, Replied, id_state}
use Rattle.session_model.proofs.IdLaws.{reads}
use Rattle.session_laws.specs.Changes.{IsBare}
use Rattle.session_laws.specs.Places.{is_in}
use Rattle.session_laws.specs.Lanes.{AllOf, among}
use Rattle.session_laws.specs.Tables.{TableMatches, place_of, record_of_reply, stand}
use Rattle.session_laws.proofs.HoldLaws.{of_in}
use Rattle.session_laws.proofs.PollLaws.{among_self}
use Rattle.sftp_model.specs.declared.reply.Reply.TheVariants as reply

unwanted : (b c : Bool) (e : Expected) (r : Reply) → record_of_reply b c e r ≡ None → b ≡ false
unwanted true c e r h = absurd cc
unwanted false c e r h = refl

-- nothing stands under the id: its place is not wanted
pub free_unwanted : (past : List Entry) (w g : ℕ → Bool) (table : ℕ → Option IdRecord) (id p : ℕ)
    → TableMatches past w g table
    → table id ≡ None → place_of (id_state past id) ≡ Some p → w p ≡ false
free_unwanted past w g table id p t none at = by_state (id_state past id) at (sym (t id) ∙ none)
  where
    by_state : (x : IdState) → place_of x ≡ Some p → stand w g x ≡ None → w p ≡ false
    by_state Free at h = absurd cc
    by_state (Pending q a was_sent) at h = absurd cc
    by_state (Replied q a r) at h = (let same : q ≡ p = cc in ap w (sym same) ∙ unwanted (w q) (g q) _ r h)

-- so no ticket of a lane bears it
pub free_bare : (past : List Entry) (tickets : ℕ → List ℕ) (g : ℕ → Bool) (table : ℕ → Option IdRecord) (id lane : ℕ)
    → TableMatches past (among past tickets) g table → table id ≡ None → AllOf past lane (tickets lane)
    → IsBare past id (tickets lane)
free_bare past tickets g table id lane t none all p at = by_test (is_in p (tickets lane)) refl
  where
    by_test : (b : Bool) → is_in p (tickets lane) ≡ b → b ≡ false
    by_test false e = refl
    by_test true e = absurd (let mine = of_in past lane (tickets lane) p all e in let clash : false ≡ true =
        sym (free_unwanted past (among past tickets) g table id p t none at)
        ∙ (among_self past tickets lane p mine.0 mine.1.0 mine.1.1 ∙ e) in cc)

granted_stands : (e : Expected) (r : Reply) → is_handle r ≡ true → record_of_reply false true e r ≡ None → ⊥
granted_stands e (reply.Handle handle) is none = absurd cc
granted_stands e other is none = absurd cc

-- nothing stands under the id: the grants of a lane don't bear it
pub free_bare_grants : (past : List Entry) (tickets grants : ℕ → List ℕ) (table : ℕ → Option IdRecord) (id lane : ℕ)
    → TableMatches past (among past tickets) (among past grants) table → table id ≡ None → AllOf past lane (grants lane)
    → ((g : ℕ) → is_in g (grants lane) ≡ true → is_grant past g ≡ true)
    → ((g : ℕ) → is_in g (grants lane) ≡ true → is_in g (tickets lane) ≡ false) → IsBare past id (grants lane)
free_bare_grants past tickets grants table id lane t none all granted apart p at = by_test (is_in p (grants lane)) refl
  where
    by_state : (x : IdState) → ReadsId past id x → place_of x ≡ Some p
        → stand (among past tickets) (among past grants) x
        ≡ None → among past tickets p ≡ false → among past grants p ≡ true → is_grant past p ≡ true → ⊥
    by_state Free r at h none_of some_of got = absurd cc
    by_state (Pending q a was_sent) r at h none_of some_of got = absurd cc
    by_state (Replied q a y) r at h none_of some_of got =
        let same : q ≡ p = cc in
        let brought : is_handle y ≡ true = ap is_granted (sym r.1 ∙ ap (answer past) same) ∙ got in
        let away : among past tickets q ≡ false = ap (among past tickets) same ∙ none_of in
        let here : among past grants q ≡ true = ap (among past grants) same ∙ some_of in
        granted_stands (expected_of a.request) y brought (sym (rw (away, here) refl) ∙ h)

    by_test : (b : Bool) → is_in p (grants lane) ≡ b → b ≡ false
    by_test false e = refl
    by_test true e = absurd
        (let mine = of_in past lane (grants lane) p all e in
        by_state (id_state past id) (reads past id) at (sym (t id) ∙ none)
        (among_self past tickets lane p mine.0 mine.1.0 mine.1.1 ∙ apart p e)
        (among_self past grants lane p mine.0 mine.1.0 mine.1.1 ∙ e) (granted p e))

some_is : (m n : ℕ) → (◌≡◌ {A = Option ℕ} (Some m) (Some n)) → m ≡ n
some_is m n e = cc

-- the id bears this place, which is none of these
pub borne_bare : (past : List Entry) (id g : ℕ) (ps : List ℕ) → place_of (id_state past id) ≡ Some g → is_in g ps
    ≡ false → IsBare past id ps
borne_bare past id g ps borne out p is = ap (λ (n : ℕ). is_in n ps) (sym (some_is g p (sym borne ∙ is))) ∙ out
