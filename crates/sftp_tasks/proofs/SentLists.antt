-- What a seat sent and took, in logs that grow.
use Rattle.std.proofs.Common.{◌≡◌, ◌≤◌, ℕ, ◌==◌, List, [], ◌∷◌, ◌++◌, map, length, Bool, true, false, refl, sym, ap, ◌∙◌, subst, arith, append_assoc, append-nil, length-append, eq-eqb, Some}
use Rattle.std.specs.List.{list_all}
use Rattle.std.specs.Prelude.{if◌then◌else◌}
use Rattle.atomic_table.specs.Table.{Me}
use Rattle.session_model.specs.declared.entry.Entry.{Entry}
use Rattle.session_model.specs.declared.entry.Entry.TheVariants as entry
use Rattle.session_model.specs.declared.event.Event.TheVariants.{Send, Take}
use Rattle.session_model.specs.Readings.{unsent_bytes}
use Rattle.session_seats.specs.declared.view.Receipt.{Receipt}
use Rattle.session_seats.specs.declared.view.Sight.{Sight}
use Rattle.session_seats.specs.declared.view.Stamp.{Stamp}
use Rattle.session_seats.specs.declared.view.View.{View}
use Rattle.session_seats.specs.Sights.{Shown, entries, own, receipt, stamp, StaysThere}
use Rattle.session_seats.specs.Holds.{Hold, number_of, sight_by}
use Rattle.session_seats.proofs.HoldLaws.{both_true, later_after, number_same}
use Rattle.sftp_model.specs.declared.reply.Reply.{Reply}
use Rattle.sftp_tasks.specs.Sent.{AreFramesOf, SeesVersion, sends, sent_by, taken_by, takes}

-- ---- entries of other seats

own_at : (b : Bool) (rs : List Receipt) (r : Receipt) → length rs ≤ length (if b then rs ++ r ∷ [] else rs)
own_at true rs r = omega (arith, length-append rs (r ∷ []))
own_at false rs r = omega arith

longer : (n : ℕ) (more log : List Stamp) → length (own n log) ≤ length (own n (more ++ log))
longer n [] log = omega arith
longer n (s ∷ more) log =
    let rest = longer n more log in
    let one = own_at (s.by == n) (own n (more ++ log)) (receipt (length (more ++ log)) s.entry) in
    omega (arith, rest, one)

not_longer : (b : Bool) (rs : List Receipt) (r : Receipt) (k : ℕ) → k ≤ length rs
    → length (if b then rs ++ r ∷ [] else rs) ≡ k → b ≡ false
not_longer true rs r k less same = absurd (omega (arith, length-append rs (r ∷ []), less, same))
not_longer false rs r k less same = refl

-- if a seat made none of the new entries, it did not make the newest
apart : (n : ℕ) (s : Stamp) (more log : List Stamp) → own n (s ∷ (more ++ log)) ≡ own n log → (s.by == n) ≡ false
apart n s more log same =
    not_longer (s.by == n) (own n (more ++ log)) (receipt (length (more ++ log)) s.entry) (length (own n log))
    (longer n more log)
    (ap (λ (l : List Receipt). length l) same)

apart_rest : (n : ℕ) (s : Stamp) (more log : List Stamp) → own n (s ∷ (more ++ log)) ≡ own n log → own n (more ++ log)
    ≡ own n log
apart_rest n s more log same =
    sym (ap (λ (b : Bool). if b then own n (more ++ log) ++ receipt (length (more ++ log)) s.entry ∷ [] else
    own n (more ++ log)) (apart n s more log same))
    ∙ same

pub sent_others : (n : ℕ) (more log : List Stamp) → own n (more ++ log) ≡ own n log → sent_by n (more ++ log)
    ≡ sent_by n log
sent_others n [] log same = refl
sent_others n (s ∷ more) log same =
    ap (λ (b : Bool). if b then sent_by n (more ++ log) ++ sends s.entry (entries (more ++ log)) else
    sent_by n (more ++ log)) (apart n s more log same)
    ∙ sent_others n more log (apart_rest n s more log same)

pub taken_others : (n : ℕ) (more log : List Stamp) → own n (more ++ log) ≡ own n log → taken_by n (more ++ log)
    ≡ taken_by n log
taken_others n [] log same = refl
taken_others n (s ∷ more) log same =
    ap (λ (b : Bool). if b then taken_by n (more ++ log) ++ takes s.entry else taken_by n (more ++ log))
    (apart n s more log same)
    ∙ taken_others n more log (apart_rest n s more log same)

-- ---- entries of the seat

sent_one : (n : ℕ) (e : Entry) (log : List Stamp) → sent_by n (stamp n e ∷ log) ≡ sent_by n log ++ sends e (entries log)
sent_one n e log = ap (λ (b : Bool). if b then sent_by n log ++ sends e (entries log) else sent_by n log)
    (eq-eqb n n refl)

taken_one : (n : ℕ) (e : Entry) (log : List Stamp) → taken_by n (stamp n e ∷ log) ≡ taken_by n log ++ takes e
taken_one n e log = ap (λ (b : Bool). if b then taken_by n log ++ takes e else taken_by n log) (eq-eqb n n refl)

-- entries that pass neither send nor take
pub record IsQuiet (test : Entry → Bool) : Type 0 where
  pub sends : (e : Entry) (past : List Entry) → test e ≡ true → sends e past ≡ []
  pub takes : (e : Entry) → test e ≡ true → takes e ≡ []

pub sent_quiet : (test : Entry → Bool) (n : ℕ) (es : List Entry) (log : List Stamp) → IsQuiet test → list_all test es
    ≡ true
    → sent_by n (map (stamp n) es ++ log) ≡ sent_by n log
sent_quiet test n [] log quiet all = refl
sent_quiet test n (e ∷ es) log quiet all =
    let b = both_true (test e) (list_all test es) all in
    let past = entries (map (stamp n) es ++ log) in
    sent_one n e (map (stamp n) es ++ log)
    ∙ ap (λ (l : List ℕ). sent_by n (map (stamp n) es ++ log) ++ l) (quiet.sends e past b.0)
    ∙ append-nil (sent_by n (map (stamp n) es ++ log))
    ∙ sent_quiet test n es log quiet b.1

pub taken_quiet : (test : Entry → Bool) (n : ℕ) (es : List Entry) (log : List Stamp) → IsQuiet test → list_all test es
    ≡ true
    → taken_by n (map (stamp n) es ++ log) ≡ taken_by n log
taken_quiet test n [] log quiet all = refl
taken_quiet test n (e ∷ es) log quiet all =
    let b = both_true (test e) (list_all test es) all in
    taken_one n e (map (stamp n) es ++ log)
    ∙ ap (λ (l : List (ℕ × Reply)). taken_by n (map (stamp n) es ++ log) ++ l) (quiet.takes e b.0)
    ∙ append-nil (taken_by n (map (stamp n) es ++ log))
    ∙ taken_quiet test n es log quiet b.1

stamped_last : (n : ℕ) (es : List Entry) (e : Entry) (log : List Stamp) → map (stamp n) (es ++ e ∷ []) ++ log
    ≡ map (stamp n) es ++ (stamp n e ∷ log)
stamped_last n [] e log = refl
stamped_last n (x ∷ es) e log = ap (λ (l : List Stamp). stamp n x ∷ l) (stamped_last n es e log)

-- ---- one hold

module _ {S : Type 0} (shown : S → Shown) {Did : S → S → List Entry → Type 0} (m n : Me S View) (h : Hold shown Did m n)
  where
    -- nothing that the seat sent or took came since it had seen
    same_made : own (number_of m) (h.took.later.log.0 ++ (sight_by m).log) ≡ own (number_of m) (sight_by m).log
    same_made = ap (λ (l : List Stamp). own (number_of m) l) (sym h.took.later.log.1) ∙ h.took.made

    sent_before : sent_by (number_of m) h.now.log ≡ sent_by (number_of m) (sight_by m).log
    sent_before =
        ap (λ (l : List Stamp). sent_by (number_of m) l) h.took.later.log.1
        ∙ sent_others (number_of m) h.took.later.log.0 (sight_by m).log same_made

    taken_before : taken_by (number_of m) h.now.log ≡ taken_by (number_of m) (sight_by m).log
    taken_before =
        ap (λ (l : List Stamp). taken_by (number_of m) l) h.took.later.log.1
        ∙ taken_others (number_of m) h.took.later.log.0 (sight_by m).log same_made

    sent_after : sent_by (number_of n) (sight_by n).log ≡ sent_by (number_of m)
        (map (stamp (number_of m)) h.more ++ h.now.log)
    sent_after = λ i. sent_by (number_same shown m n h i) (h.log i)

    taken_after : taken_by (number_of n) (sight_by n).log ≡ taken_by (number_of m)
        (map (stamp (number_of m)) h.more ++ h.now.log)
    taken_after = λ i. taken_by (number_same shown m n h i) (h.log i)

    pub hold_sent_none : (test : Entry → Bool) → IsQuiet test → list_all test h.more ≡ true
        → sent_by (number_of n) (sight_by n).log ≡ sent_by (number_of m) (sight_by m).log
    hold_sent_none test quiet all = sent_after ∙ sent_quiet test (number_of m) h.more h.now.log quiet all ∙ sent_before

    pub hold_took_none : (test : Entry → Bool) → IsQuiet test → list_all test h.more ≡ true
        → taken_by (number_of n) (sight_by n).log ≡ taken_by (number_of m) (sight_by m).log
    hold_took_none test quiet all = taken_after ∙ taken_quiet test (number_of m) h.more h.now.log quiet all
        ∙ taken_before

    -- a Send sends the frames that were unsent
    pub hold_sent : h.more ≡ entry.Event Send ∷ []
        → sent_by (number_of n) (sight_by n).log ≡ sent_by (number_of m) (sight_by m).log
        ++ unsent_bytes (shown h.before).past
    hold_sent is =
        sent_after
        ∙ ap (λ (es : List Entry). sent_by (number_of m) (map (stamp (number_of m)) es ++ h.now.log)) is
        ∙ sent_one (number_of m) (entry.Event Send) h.now.log
        ∙ (λ i. sent_before i ++ unsent_bytes (sym h.took.shows.past i))

    -- and a Take takes its reply
    pub hold_took : (test : Entry → Bool) → IsQuiet test → (es : List Entry) (id : ℕ) (r : Reply) → list_all test es
        ≡ true
        → h.more ≡ es ++ entry.Event (Take id r) ∷ []
        → taken_by (number_of n) (sight_by n).log ≡ taken_by (number_of m) (sight_by m).log ++ (id, r) ∷ []
    hold_took test quiet es id r all is =
        taken_after
        ∙ ap (λ (xs : List Entry). taken_by (number_of m) (map (stamp (number_of m)) xs ++ h.now.log)) is
        ∙ ap (λ (l : List Stamp). taken_by (number_of m) l) (stamped_last (number_of m) es (entry.Event (Take id r))
        h.now.log)
        ∙ taken_quiet test (number_of m) es (stamp (number_of m) (entry.Event (Take id r)) ∷ h.now.log) quiet all
        ∙ taken_one (number_of m) (entry.Event (Take id r)) h.now.log
        ∙ ap (λ (l : List (ℕ × Reply)). l ++ (id, r) ∷ []) taken_before

    -- VERSION that was seen stays
    pub version_before : (hello : Reply) → SeesVersion hello (sight_by m) → (shown h.before).version ≡ Some hello
    version_before hello sees =
        ap (λ (s : Sight). s.version) (sym h.took.shows.told) ∙ subst (λ o. StaysThere o h.now.version) sees
        h.took.later.version

    pub version_after : (hello : Reply) → SeesVersion hello (sight_by m) → SeesVersion hello (sight_by n)
    version_after hello sees = subst (λ o. StaysThere o (sight_by n).version) sees (later_after shown m n h).version

-- ---- frames

pub frames_both : (xs ys : List (ℕ × Reply)) (a b : List ℕ) → AreFramesOf xs a → AreFramesOf ys b
    → AreFramesOf (xs ++ ys) (a ++ b)
frames_both [] ys a b none more = subst (AreFramesOf ys) (sym (ap (λ (w : List ℕ). w ++ b) none)) more
frames_both (x ∷ xs) ys a b some more = (
  some.0,
  (
    some.1.0 ++ b,
    (
      ap (λ (w : List ℕ). w ++ b) some.1.1.0 ∙ append_assoc some.0 some.1.0 b,
      (some.1.1.1.0, frames_both xs ys some.1.0 b some.1.1.1.1 more),
    ),
  ),
)
