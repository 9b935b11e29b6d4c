-- How many records of each kind there are, after each change.
use Rattle.std.proofs.Common.{◌≡◌, ℕ, suc, ◌+◌, ◌-◌, ◌≤◌, Bool, true, false, cond, List, [], ◌∷◌, map, length, refl, sym, ap, ◌∙◌, arith, Some}
use Rattle.std.specs.Prelude.{sum_by}
use Rattle.std.specs.Ordering.{nat_cmp}
use Rattle.std.specs.Cmp.{nat_cmp_total}
use Rattle.std.specs.FinMap as fin
use Rattle.std.proofs.lemmas.List.Sums.{sum_by-cons, count_by-le-length}
use Rattle.sftp_core.specs.declared.id_record.IdRecord.{IdRecord}
use Rattle.sftp_core.specs.declared.id_record.IdRecord.TheVariants.{Waiting, Answered, Granted}
use Rattle.sftp_core.specs.Table.{IdRecords, count, tally, is_waiting, is_unsent, is_sent, is_owing, sent_record, all_sent}
use Rattle.sftp_core.proofs.Sent.{entries_sent, values_sent}

pub len_more : (t : IdRecords) (id : ℕ) (v : IdRecord) → fin.len (fin.insert t id v) ≤ fin.len t + 1
len_more t id v = rw (fin.len-insert nat_cmp_total t id v) (elim (fin.contains_key t id) as
    (λ b. cond b (fin.len t) (fin.len t + 1) ≤ fin.len t + 1) [ true ↦ omega arith | false ↦ omega arith ])

pub len_same : (t : IdRecords) (id : ℕ) (v w : IdRecord) → fin.get t id ≡ Some w → fin.len (fin.insert t id v)
    ≡ fin.len t
len_same t id v w some = rw (fin.len-insert nat_cmp_total t id v, some) refl

pub len_less : (t : IdRecords) (id : ℕ) → fin.len (fin.remove t id) ≤ fin.len t
len_less t id = rw (fin.len-remove nat_cmp_total t id) (elim (fin.contains_key t id) as
    (λ b. cond b (fin.len t - 1) (fin.len t) ≤ fin.len t) [ true ↦ omega arith | false ↦ omega arith ])

-- ---- what is handed out
length_sent : (es : List (ℕ × IdRecord)) → length {A = ℕ × IdRecord} (map (λ e. (e.0, sent_record e.1)) es) ≡ length es
length_sent [] = refl
length_sent (e ∷ es) = ap suc (length_sent es)

-- each record weighs, after, what it weighed by g before
sums_sent : (f g : IdRecord → ℕ) → ((x : IdRecord) → f (sent_record x) ≡ g x) → (xs : List IdRecord)
    → sum_by f (map sent_record xs) ≡ sum_by g xs
sums_sent f g h [] = refl
sums_sent f g h (x ∷ xs) = sum_by-cons f (sent_record x) (map sent_record xs) ∙ (λ i. h x i + sums_sent f g h xs i)
    ∙ sym (sum_by-cons g x xs)

sums_none : (xs : List IdRecord) → sum_by (λ x. 0) xs ≡ 0
sums_none [] = refl
sums_none (x ∷ xs) = let a = sum_by-cons (λ (y : IdRecord). 0) x xs in let b = sums_none xs in omega arith

sums_few : (xs : List IdRecord) → sum_by (tally is_unsent) xs ≤ sum_by (tally is_waiting) xs
sums_few [] = omega arith
sums_few (x ∷ xs) =
    let b = sum_by-cons (tally is_unsent) x xs in
    let c = sum_by-cons (tally is_waiting) x xs in
    let d = sums_few xs in
    let one = at_most x in omega arith
  where
    at_most : (x : IdRecord) → tally is_unsent x ≤ tally is_waiting x
    at_most (Waiting expected true wanted) = omega arith
    at_most (Waiting expected false wanted) = omega arith
    at_most (Answered expected r) = omega arith
    at_most (Granted handle users) = omega arith

sums_split : (xs : List IdRecord) → sum_by (tally is_waiting) xs
    ≡ sum_by (tally is_unsent) xs + sum_by (tally is_sent) xs
sums_split [] = refl
sums_split (x ∷ xs) =
    let a = sum_by-cons (tally is_sent) x xs in
    let b = sum_by-cons (tally is_unsent) x xs in
    let c = sum_by-cons (tally is_waiting) x xs in
    let d = sums_split xs in
    let one = either x in omega arith
  where
    either : (x : IdRecord) → tally is_waiting x ≡ tally is_unsent x + tally is_sent x
    either (Waiting expected true wanted) = refl
    either (Waiting expected false wanted) = refl
    either (Answered expected r) = refl
    either (Granted handle users) = refl

sums_len : (p : IdRecord → Bool) (xs : List IdRecord) → sum_by (tally p) xs ≤ length xs
sums_len p xs = count_by-le-length p xs

pub unsent_waiting : (t : IdRecords) → count is_unsent t ≤ count is_waiting t
unfolding count
unsent_waiting t = sums_few (fin.values t)

-- a request without its reply was handed out, or not
pub waiting_split : (t : IdRecords) → count is_waiting t ≡ count is_unsent t + count is_sent t
unfolding count
waiting_split t = sums_split (fin.values t)

length-values : (es : List (ℕ × IdRecord)) → length (map {A = ℕ × IdRecord} (λ e. e.1) es) ≡ length es
length-values [] = refl
length-values (e ∷ es) = ap suc (length-values es)

pub count_len : (p : IdRecord → Bool) (t : IdRecords) → count p t ≤ fin.len t
unfolding count
count_len p t = let few = sums_len p (fin.values t) in let l = fin.len-entries t in let m =
    length-values (fin.entries t) in omega arith

pub count_unsent_sent : (t : IdRecords) → count is_unsent (all_sent t) ≡ 0
unfolding count
count_unsent_sent t =
    ap (λ es. sum_by (tally is_unsent) (map {A = ℕ × IdRecord} (λ e. e.1) es)) (entries_sent t)
    ∙ ap (sum_by (tally is_unsent)) (values_sent (fin.entries t))
    ∙ sums_sent (tally is_unsent) (λ x. 0) none (fin.values t) ∙ sums_none (fin.values t)
  where
    none : (x : IdRecord) → tally is_unsent (sent_record x) ≡ 0
    none (Waiting expected sent wanted) = refl
    none (Answered expected r) = refl
    none (Granted handle users) = refl

pub count_waiting_sent : (t : IdRecords) → count is_waiting (all_sent t) ≡ count is_waiting t
unfolding count
count_waiting_sent t =
    ap (λ es. sum_by (tally is_waiting) (map {A = ℕ × IdRecord} (λ e. e.1) es)) (entries_sent t)
    ∙ ap (sum_by (tally is_waiting)) (values_sent (fin.entries t))
    ∙ sums_sent (tally is_waiting) (tally is_waiting) each (fin.values t)
  where
    each : (x : IdRecord) → tally is_waiting (sent_record x) ≡ tally is_waiting x
    each (Waiting expected sent wanted) = refl
    each (Answered expected r) = refl
    each (Granted handle users) = refl

pub count_owing_sent : (t : IdRecords) → count is_owing (all_sent t) ≡ count is_owing t
unfolding count
count_owing_sent t =
    ap (λ es. sum_by (tally is_owing) (map {A = ℕ × IdRecord} (λ e. e.1) es)) (entries_sent t)
    ∙ ap (sum_by (tally is_owing)) (values_sent (fin.entries t))
    ∙ sums_sent (tally is_owing) (tally is_owing) each (fin.values t)
  where
    each : (x : IdRecord) → tally is_owing (sent_record x) ≡ tally is_owing x
    each (Waiting expected sent wanted) = refl
    each (Answered expected r) = refl
    each (Granted handle users) = refl

pub len_sent : (t : IdRecords) → fin.len (all_sent t) ≡ fin.len t
len_sent t = fin.len-entries (all_sent t) ∙ ap length (entries_sent t) ∙ length_sent (fin.entries t)
    ∙ sym (fin.len-entries t)

pub count-empty : (p : IdRecord → Bool) → count p fin.empty ≡ 0
count-empty p = let few = count_len p fin.empty in let none = fin.len-empty nat_cmp IdRecord in omega (arith, few, none)
