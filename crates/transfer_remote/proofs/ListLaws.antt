-- What listings add to a walk, one after another.
use Rattle.std.proofs.Common.{◌≡◌, ◌≤◌, ◌+◌, ℕ, zero, suc, Bool, true, false, List, [], ◌∷◌, ◌++◌, Some, if◌then◌else◌, refl, sym, ap, ◌∙◌, subst, arith}
use Rattle.std.specs.Prelude.{Result, Ok, Err, take}
use Rattle.std.specs.List.{flat_map, slice_get}
use Rattle.std.specs.Option.{option_and_then}
use Rattle.std.proofs.lemmas.List.{append_assoc, append-nil}
use Rattle.std.proofs.lemmas.Grind.{flat_map-append}
use Rattle.sftp_link.specs.Views.{LinkView}
use Rattle.sftp_client.specs.DirCalls.{ListsWhole}
use Rattle.sftp_client.specs.Sessions.{SftpValue}
use Rattle.sftp_model.specs.declared.reply.NameEntry.{NameEntry}
use Rattle.sftp_meta.specs.FileType.{type_of_mode}
use Rattle.transfer_plan.specs.Entries.{entry_found}
use Rattle.transfer_plan.specs.Walks.{MAX_ENTRIES, WalkValue, with_entry}
use Rattle.transfer_plan.specs.declared.found.Found.{Found}
use Rattle.transfer_remote.specs.Listed.{
  AddsEntries,
  CountsSelf,
  Gathered,
  Gathers,
  GrowsBy,
  HasGrown,
  HasListedInto,
  ListsInto,
  is_self,
  kind_of,
  listed_as,
  selves_in,
}

pub none_listed : (w : WalkValue) → HasListedInto [] w w
none_listed w = record { rest = refl; grown = λ folder e. sym (append-nil w.found) }

pub self_listed : (e : NameEntry) (w : WalkValue) → is_self e.filename ≡ true → HasListedInto (e ∷ []) w w
self_listed e w is = record {
  rest = refl;
  grown = λ folder g.
      let nothing : listed_as w.texts folder e ≡ [] = by_test folder (is_self e.filename) is in
      sym (append-nil w.found) ∙ ap (λ (l : List Found). w.found ++ l)
      (sym (append-nil []) ∙ ap (λ (l : List Found). l ++ []) (sym nothing));
}
  where
    by_test : (folder : Found) (t : Bool) → t ≡ true
        → (if t then [] else entry_found w.texts folder e.filename
        (kind_of (option_and_then type_of_mode e.attrs.permissions)) e.attrs ∷ []) ≡ []
    by_test folder true is = refl
    by_test folder false is = absurd cc

pub entry_listed : (e : NameEntry) (old new : WalkValue) → is_self e.filename ≡ false
    → (folder : Found) → slice_get old.found old.at ≡ Some folder
    → new ≡ with_entry old (entry_found old.texts folder e.filename
    (kind_of (option_and_then type_of_mode e.attrs.permissions)) e.attrs)
    → HasListedInto (e ∷ []) old new
entry_listed e old new other folder listed is = record {
  rest = subst (λ (w : WalkValue). w ≡ record old { found = w.found }) (sym is) refl;
  grown = λ same g.
      let both : Some folder ≡ Some same = sym listed ∙ g in
      let one : folder ≡ same = cc in
      let plain : listed_as old.texts same e ≡ found_as same ∷ [] = by_test same (is_self e.filename) other in
      ap (λ (w : WalkValue). w.found) is ∙ ap (λ (f : Found). old.found ++ found_as f ∷ []) one
      ∙ ap (λ (l : List Found). old.found ++ l) (sym (append-nil (found_as same ∷ []))
      ∙ ap (λ (l : List Found). l ++ []) (sym plain));
}
  where
    found_as : Found → Found
    found_as f = entry_found old.texts f e.filename (kind_of (option_and_then type_of_mode e.attrs.permissions)) e.attrs

    by_test : (f : Found) (t : Bool) → t ≡ false → (if t then [] else found_as f ∷ []) ≡ found_as f ∷ []
    by_test f true is = absurd cc
    by_test f false is = refl

got_front : {A : Type 0} (xs ys : List A) (place : ℕ) (x : A) → slice_get xs place ≡ Some x
    → slice_get (xs ++ ys) place ≡ Some x
got_front [] ys zero x e = absurd cc
got_front [] ys (suc n) x e = absurd cc
got_front (a ∷ xs) ys zero x e = e
got_front (a ∷ xs) ys (suc n) x e = got_front xs ys n x e

pub listed_then : (xs ys : List NameEntry) (a b c : WalkValue) → HasListedInto xs a b → HasListedInto ys b c
    → HasListedInto (xs ++ ys) a c
listed_then xs ys a b c first later = record {
  rest = later.rest ∙ ap (λ (w : WalkValue). let v : WalkValue = record w { found = c.found } in v) first.rest;
  grown = λ folder g.
      let at : b.at ≡ a.at = ap (λ (w : WalkValue). w.at) first.rest in
      let texts : b.texts ≡ a.texts = ap (λ (w : WalkValue). w.texts) first.rest in
      let front : b.found ≡ a.found ++ flat_map (listed_as a.texts folder) xs = first.grown folder g in
      let there : slice_get b.found b.at ≡ Some folder =
      ap (slice_get b.found) at ∙ ap (λ (l : List Found). slice_get l a.at) front
      ∙ got_front a.found (flat_map (listed_as a.texts folder) xs) a.at folder g in
      later.grown folder there
      ∙ ap (λ (t : Bool). b.found ++ flat_map (listed_as t folder) ys) texts
      ∙ ap (λ (l : List Found). l ++ flat_map (listed_as a.texts folder) ys) front
      ∙ append_assoc a.found (flat_map (listed_as a.texts folder) xs) (flat_map (listed_as a.texts folder) ys)
      ∙ ap (λ (l : List Found). a.found ++ l) (sym (flat_map-append (listed_as a.texts folder) xs ys));
}

-- ---- entries that are counted

selves_then : (xs ys : List NameEntry) → selves_in (xs ++ ys) ≡ selves_in xs + selves_in ys
selves_then [] ys = omega arith
selves_then (e ∷ xs) ys = by_test (is_self e.filename) (selves_then xs ys)
  where
    by_test : (t : Bool) → selves_in (xs ++ ys) ≡ selves_in xs + selves_in ys
        → (if t then selves_in (xs ++ ys) + 1 else selves_in (xs ++ ys))
        ≡ (if t then selves_in xs + 1 else selves_in xs) + selves_in ys
    by_test true more = omega (arith, more)
    by_test false more = more

pub none_gathered : (g : Gathered) → Gathers [] g g
none_gathered g = record { listed = none_listed g.walk; counted = omega arith; few = λ less. less }

pub self_gathered : (e : NameEntry) (w : WalkValue) (n m : ℕ) → is_self e.filename ≡ true
    → (m ≡ n + 1) × (m ≤ MAX_ENTRIES)
    → Gathers (e ∷ []) (record { walk = w; selves = n }) (record { walk = w; selves = m })
self_gathered e w n m is h = record {
  listed = self_listed e w is;
  counted = by_test (is_self e.filename) is;
  few = λ less. h.1;
}
  where
    by_test : (t : Bool) → t ≡ true → m ≡ n + (if t then 0 + 1 else 0)
    by_test true is = h.0
    by_test false is = absurd cc

pub self_counted : {E : Type 0} (e : NameEntry) (w : WalkValue) (n m : ℕ) (result : Result (Unit {0}) E)
    → is_self e.filename ≡ true → CountsSelf n m result
    → GrowsBy (e ∷ []) (record { walk = w; selves = n }) (record { walk = w; selves = m }) result
self_counted e w n m (Ok u) is h = self_gathered e w n m is h
self_counted e w n m (Err x) is h = refl

pub entry_gathered : (e : NameEntry) (w v : WalkValue) (n : ℕ) → is_self e.filename ≡ false
    → HasListedInto (e ∷ []) w v
    → Gathers (e ∷ []) (record { walk = w; selves = n }) (record { walk = v; selves = n })
entry_gathered e w v n other listed = record {
  listed = listed;
  counted = by_test (is_self e.filename) other;
  few = λ less. less;
}
  where
    by_test : (t : Bool) → t ≡ false → n ≡ n + (if t then 0 + 1 else 0)
    by_test true is = absurd cc
    by_test false is = omega arith

pub gathered_then : (xs ys : List NameEntry) (a b c : Gathered) → Gathers xs a b → Gathers ys b c
    → Gathers (xs ++ ys) a c
gathered_then xs ys a b c first later = record {
  listed = listed_then xs ys a.walk b.walk c.walk first.listed later.listed;
  counted =
      let one = first.counted in
      let two = later.counted in
      let all = selves_then xs ys in
      omega (arith, one, two, all);
  few = λ less. later.few (first.few less);
}

pub grown_none : (w : WalkValue) → HasGrown w w
grown_none w = ([], none_listed w, omega arith)

-- from the start of a listing on
grown_by : (entries : List NameEntry) (w : WalkValue) (u : Gathered)
    → Gathers entries (record { walk = w; selves = 0 }) u
    → HasListedInto entries w u.walk × (selves_in entries ≤ MAX_ENTRIES)
grown_by entries w u h =
    let few : u.selves ≤ MAX_ENTRIES = h.few (omega arith) in
    let counted : u.selves ≡ 0 + selves_in entries = h.counted in
    (h.listed, omega (arith, few, counted))

-- ---- entries of a slice

pub adds_first : (entries : List NameEntry) (w : WalkValue)
    → Gathers (take 0 entries) (record { walk = w; selves = 0 }) (record { walk = w; selves = 0 })
adds_first entries w = none_gathered (record { walk = w; selves = 0 })

pub adds_next : (entries : List NameEntry) (index : ℕ) (entry : NameEntry) (a b c : Gathered)
    → take (index + 1) entries ≡ take index entries ++ entry ∷ [] → Gathers (take index entries) a b
    → Gathers (entry ∷ []) b c → Gathers (take (index + 1) entries) a c
adds_next entries index entry a b c more first later =
    subst (λ (l : List NameEntry). Gathers l a c) (sym more)
    (gathered_then (take index entries) (entry ∷ []) a b c first later)

pub adds_all : (entries : List NameEntry) (w : WalkValue) (u : Gathered)
    → Gathers entries (record { walk = w; selves = 0 }) u → AddsEntries {E = Unit {0}} entries w u.walk (Ok tt)
adds_all entries w u h = grown_by entries w u h

pub adds_stopped : (entries : List NameEntry) (w v : WalkValue) (u : Gathered)
    → Gathers entries (record { walk = w; selves = 0 }) u → v ≡ u.walk → HasGrown w v
adds_stopped entries w v u h same =
    let all = grown_by entries w u h in
    (entries, subst (λ (x : WalkValue). HasListedInto entries w x) (sym same) all.0, all.1)

-- ---- entries of a directory

pub folder_listed : {L S E : Type 0} (state : L → LinkView S) (old new : SftpValue L) (folder : Found)
    (entries items : List NameEntry) (w v : WalkValue) (result : Result (Unit {0}) E)
    → slice_get w.found w.at ≡ Some folder → ListsWhole folder.source state old new entries → items ≡ entries
    → AddsEntries items w v result → ListsInto state old new w v result
folder_listed state old new folder entries items w v (Ok u) stands lists same adds =
    record {
      folder = folder;
      entries = items;
      stands = stands;
      lists = subst (λ (l : List NameEntry). ListsWhole folder.source state old new l) (sym same) lists;
      grown = adds.0;
      few = adds.1;
    }
folder_listed state old new folder entries items w v (Err e) stands lists same adds = adds
