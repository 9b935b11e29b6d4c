-- What a table is after its requests were handed out.
use Rattle.std.proofs.Common.{◌≡◌, ℕ, true, false, cond, List, [], ◌∷◌, map, refl, sym, ap, subst, ◌∙◌, Some}
use Rattle.std.specs.Prelude.{T, ◌&&◌}
use Rattle.std.specs.Option.{option_map}
use Rattle.std.specs.Ordering.{nat_cmp, eq_by_cmp, is_lt}
use Rattle.std.specs.FinMap as fin
use Rattle.std.specs.FinMap.{is_sorted}
use Rattle.std.specs.FinMap.Entries.{below_all, find}
use Rattle.sftp_core.specs.declared.id_record.IdRecord.{IdRecord}
use Rattle.sftp_core.specs.Table.{IdRecords, sent_record, all_sent}

below_sent : (k : ℕ) (es : List (ℕ × IdRecord)) → below_all nat_cmp k (map (λ e. (e.0, sent_record e.1)) es)
    ≡ below_all nat_cmp k es
below_sent k [] = refl
below_sent k (e ∷ es) = ap (λ b. is_lt (nat_cmp k e.0) && b) (below_sent k es)

sorted_sent : (es : List (ℕ × IdRecord)) → is_sorted nat_cmp (map (λ e. (e.0, sent_record e.1)) es)
    ≡ is_sorted nat_cmp es
sorted_sent [] = refl
sorted_sent (e ∷ es) = (λ i. below_sent e.0 es i && sorted_sent es i)

pub values_sent : (es : List (ℕ × IdRecord)) → map {A = ℕ × IdRecord} (λ e. e.1) (map (λ e. (e.0, sent_record e.1)) es)
    ≡ map sent_record (map {A = ℕ × IdRecord} (λ e. e.1) es)
values_sent [] = refl
values_sent (e ∷ es) = ap (λ rest. sent_record e.1 ∷ rest) (values_sent es)

pub entries_sent : (t : IdRecords) → fin.entries (all_sent t) ≡ map (λ e. (e.0, sent_record e.1)) (fin.entries t)
unfolding all_sent
entries_sent t = fin.entries-from_sorted nat_cmp _ (subst T (sym (sorted_sent (fin.entries t))) (fin.entries_sorted t))

find_sent : (id : ℕ) (es : List (ℕ × IdRecord)) → find nat_cmp id (map (λ e. (e.0, sent_record e.1)) es)
    ≡ option_map sent_record (find nat_cmp id es)
find_sent id [] = refl
find_sent id (e ∷ es) =
    elim (eq_by_cmp nat_cmp id e.0) as (λ b. cond b (Some (sent_record e.1))
    (find nat_cmp id (map (λ f. (f.0, sent_record f.1)) es)) ≡ option_map sent_record
    (cond b (Some e.1) (find nat_cmp id es))) [
      | true ↦ refl
      | false ↦ find_sent id es
    ]

-- under each id stands what stood there, handed out
pub get_sent : (t : IdRecords) (id : ℕ) → fin.get (all_sent t) id ≡ option_map sent_record (fin.get t id)
get_sent t id =
    fin.get-entries (all_sent t) id ∙ ap (find nat_cmp id) (entries_sent t) ∙ find_sent id (fin.entries t)
    ∙ ap (option_map sent_record) (sym (fin.get-entries t id))
