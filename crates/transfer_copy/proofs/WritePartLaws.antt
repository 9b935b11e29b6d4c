-- The WRITEs of a copy to the server that are under way, and its parts.
use Rattle.std.proofs.Common.{
  ◌≡◌,
  ℕ,
  ◌+◌,
  Bool,
  true,
  false,
  List,
  [],
  ◌∷◌,
  ◌++◌,
  length,
  refl,
  sym,
  ap,
  ◌∙◌,
  subst,
  arith,
  if◌then◌else◌,
}
use Rattle.std.proofs.lemmas.List.{append_assoc}
use Rattle.transfer_copy.specs.Local.{Got, reads_of}
use Rattle.transfer_copy.specs.declared.holding.Part.{Part}
use Rattle.transfer_copy.specs.WholePuts.{AreWrittenFromTo, AskedWrite, GotOk, after_write, carried_by}
use Rattle.transfer_copy.proofs.LegLaws.{same_number}

-- each part is that of a WRITE; or none is under way any more, and the FSETSTAT is
abbrev pub AreWriteParts : List AskedWrite → List Part → Bool → Type 0
AreWriteParts [] [] at_end = Unit {0}
AreWriteParts [] (part ∷ later) at_end = (part.len ≡ 0) × (at_end ≡ true) × (later ≡ [])
AreWriteParts (write ∷ writes) [] at_end = ⊥
AreWriteParts (write ∷ writes) (part ∷ later) at_end = (part.ticket ≡ write.ticket) × (part.len ≡ length write.bytes)
    × AreWriteParts writes later at_end

pub false_true : false ≡ true → ⊥
false_true e = cc

pub parts_last : (writes : List AskedWrite) (parts : List Part) (write : AskedWrite) (part : Part)
    → AreWriteParts writes parts false
    → part.ticket ≡ write.ticket → part.len ≡ length write.bytes
    → AreWriteParts (writes ++ write ∷ []) (parts ++ part ∷ []) false
parts_last [] [] write part are under len = (under, len, tt)
parts_last [] (other ∷ later) write part (none, going, last) under len = absurd (false_true going)
parts_last (first ∷ writes) [] write part never under len = absurd never
parts_last (first ∷ writes) (other ∷ later) write part (t, l, are) under len =
    (t, l, parts_last writes later write part are under len)

pub parts_end : (writes : List AskedWrite) (parts : List Part) → AreWriteParts writes parts false
    → AreWriteParts writes parts true
parts_end [] [] are = tt
parts_end [] (other ∷ later) (none, going, last) = absurd (false_true going)
parts_end (first ∷ writes) [] never = absurd never
parts_end (first ∷ writes) (other ∷ later) (t, l, are) = (t, l, parts_end writes later are)

pub no_writes : (writes : List AskedWrite) (parts : List Part) (at_end : Bool) → AreWriteParts writes parts at_end
    → parts
    ≡ [] → writes ≡ []
no_writes [] parts at_end are none = refl
no_writes (first ∷ writes) [] at_end never none = absurd never
no_writes (first ∷ writes) (part ∷ later) at_end are none = absurd (let l = ap length none in omega (arith, l))

pub attrs_part : (writes : List AskedWrite) (parts : List Part) (at_end : Bool) (part : Part)
    → AreWriteParts writes parts at_end → parts ≡ []
    → at_end ≡ true → part.len ≡ 0 → AreWriteParts writes (parts ++ part ∷ []) at_end
attrs_part [] [] at_end part are none over len = (len, over, refl)
attrs_part [] (other ∷ later) at_end part are none over len = absurd (let l = ap length none in omega (arith, l))
attrs_part (first ∷ writes) [] at_end part never none over len = absurd never
attrs_part (first ∷ writes) (other ∷ later) at_end part are none over len =
    absurd (let l = ap length none in omega (arith, l))

pub written_last : (from to : ℕ) (writes : List AskedWrite) (write : AskedWrite) → AreWrittenFromTo from writes to
    → write.offset ≡ to
    → AreWrittenFromTo from (writes ++ write ∷ []) (to + length write.bytes)
written_last from to [] write are here = (here ∙ sym are, ap (λ n. n + length write.bytes) are)
written_last from to (first ∷ later) write (before, are) here =
    (before, written_last (from + length first.bytes) to later write are here)

pub reads_of_last : (writes : List AskedWrite) (write : AskedWrite) → reads_of (carried_by (writes ++ write ∷ []))
    ≡ reads_of (carried_by writes) ++ Got write.bytes ∷ []
reads_of_last [] write = refl
reads_of_last (first ∷ later) write = ap (λ l. Got first.bytes ∷ l) (reads_of_last later write)

-- what OK to the first part makes of the WRITEs
pub record IsAccepted (ticket from next new_offset : ℕ) (later : List Part) (at_end : Bool)
    (writes accepted : List AskedWrite) : Type 0
  where
    pub under_way : List AskedWrite
    pub all : List AskedWrite
    pub answered : after_write (GotOk ticket) (record { under_way = writes; accepted = accepted })
        ≡ record { under_way = under_way; accepted = all }
    pub parts : AreWriteParts under_way later at_end
    pub in_order : AreWrittenFromTo from all new_offset
    pub ahead : AreWrittenFromTo new_offset under_way next
    pub same : all ++ under_way ≡ accepted ++ writes

none_more : (new_offset offset len part_len : ℕ) → new_offset ≡ offset + len → len ≡ part_len → part_len ≡ 0
    → new_offset ≡ offset
none_more new_offset offset len part_len a b c = omega (arith, a, b, c)

pub accepts_first : (from next offset new_offset len : ℕ) (part : Part) (later : List Part) (at_end : Bool)
    (writes accepted : List AskedWrite)
    → AreWriteParts writes (part ∷ later) at_end → len ≡ part.len → new_offset ≡ offset + len
    → AreWrittenFromTo from accepted offset
    → AreWrittenFromTo offset writes next → IsAccepted part.ticket from next new_offset later at_end writes accepted
accepts_first from next offset new_offset len part later at_end [] accepted (zero, over, none) len_is new_is in_order
    ahead =
    let offset_is = none_more new_offset offset len part.len new_is len_is zero in
    record {
      under_way = [];
      all = accepted;
      answered = refl;
      parts = subst (λ (l : List Part). AreWriteParts [] l at_end) (sym none) tt;
      in_order = subst (λ n. AreWrittenFromTo from accepted n) (sym offset_is) in_order;
      ahead = offset_is ∙ ahead;
      same = refl;
    }
accepts_first from next offset new_offset len part later at_end (write ∷ writes) accepted (under, carried, are) len_is
    new_is in_order (here, ahead) =
    let offset_is : new_offset ≡ offset + length write.bytes = new_is ∙ ap (λ n. offset + n) (len_is ∙ carried) in
    record {
      under_way = writes;
      all = accepted ++ write ∷ [];
      answered = ap (λ (b : Bool). if b then record { under_way = writes; accepted = accepted ++ write ∷ [] }
          else record { under_way = write ∷ writes; accepted = accepted }) (same_number part.ticket write.ticket under);
      parts = are;
      in_order = subst (λ n. AreWrittenFromTo from (accepted ++ write ∷ []) n) (sym offset_is)
          (written_last from offset accepted write in_order here);
      ahead = subst (λ n. AreWrittenFromTo n writes next) (sym offset_is) ahead;
      same = append_assoc accepted (write ∷ []) writes;
    }
