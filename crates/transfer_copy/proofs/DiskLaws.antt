-- What a copy leaves on a disk.
use Rattle.std.proofs.Common.{◌≡◌, ◌≢◌, ℕ, Bool, true, false, List, [], ◌∷◌, ◌++◌, refl, sym, ap, ◌∙◌, Option, Some, None, if◌then◌else◌}
use Rattle.std.specs.Str.{bytes_eq}
use Rattle.std.specs.Option.{unwrap_or}
use Rattle.std.proofs.lemmas.List.{append_assoc, append-nil}
use Rattle.std.proofs.lemmas.Slice.Eq.{bytes_eq-Decides}
use Rattle.sftp_model.specs.Pieces.{joined_pieces}
use Rattle.transfer_copy.specs.Disks.{Disk, IsCopied, after_act, with_file}
use Rattle.transfer_copy.specs.Local.{Created, Renamed, Reopened, Wrote, all_done, naming_acts, writes_of}

pub here : (files : List ℕ → Option (List ℕ)) (name : List ℕ) (bytes : Option (List ℕ))
    → with_file files name bytes name
    ≡ bytes
here files name bytes = ap (λ (b : Bool). if b then bytes else files name) ((bytes_eq-Decides name name).1 refl)

pub elsewhere : (files : List ℕ → Option (List ℕ)) (name : List ℕ) (bytes : Option (List ℕ)) (other : List ℕ)
    → other ≢ name
    → with_file files name bytes other ≡ files other
elsewhere files name bytes other ne = ap (λ (b : Bool). if b then bytes else files other)
    (by_test (bytes_eq other name) refl)
  where
    by_test : (b : Bool) → bytes_eq other name ≡ b → bytes_eq other name ≡ false
    by_test true e = absurd (ne ((bytes_eq-Decides other name).0 e))
    by_test false e = e

-- pieces were written behind these bytes of the file that was made last, and to nothing else
record AreWritten (pieces : List (List ℕ)) (bytes : List ℕ) (d e : Disk) : Type 0 where
  made : e.made ≡ d.made
  whole : e.files d.made ≡ Some (bytes ++ joined_pieces pieces)
  others : (other : List ℕ) → other ≢ d.made → e.files other ≡ d.files other

written : (pieces : List (List ℕ)) (bytes : List ℕ) (d : Disk) → d.files d.made ≡ Some bytes
    → AreWritten pieces bytes d (all_done after_act (writes_of pieces) d)
written [] bytes d h = record {
  made = refl;
  whole = h ∙ ap (λ (x : List ℕ). Some x) (sym (append-nil bytes));
  others =
      λ other ne. refl;
}
written (piece ∷ pieces) bytes d h =
    let first : with_file d.files d.made (Some (unwrap_or (d.files d.made) [] ++ piece)) d.made
    ≡ Some (bytes ++ piece) =
    here d.files d.made (Some (unwrap_or (d.files d.made) [] ++ piece))
    ∙ ap (λ (x : Option (List ℕ)). Some (unwrap_or x [] ++ piece)) h in
    let below = written pieces (bytes ++ piece) (after_act (Wrote piece) d) first in
    record {
      made = below.made;
      whole = below.whole ∙ ap (λ (x : List ℕ). Some x) (append_assoc bytes piece (joined_pieces pieces));
      others = λ other ne. below.others other ne ∙ elsewhere d.files d.made
          (Some (unwrap_or (d.files d.made) [] ++ piece)) other ne;
    }

-- the part that has these bytes gets its name
named : (part name bytes : List ℕ) (d e : Disk) → part ≢ name → e.files part ≡ Some bytes
    → ((other : List ℕ) → other ≢ part → e.files other ≡ d.files other)
    → IsCopied part name bytes d (after_act (Renamed part name) e)
named part name bytes d e apart whole others = record {
  named = here (with_file e.files part None) name (e.files part) ∙ whole;
  gone = elsewhere (with_file e.files part None) name (e.files part) part apart ∙ here e.files part None;
  others = λ other not_name not_part.
      elsewhere (with_file e.files part None) name (e.files part) other not_name
      ∙ elsewhere e.files part None other not_part
      ∙ others other not_part;
}

-- what is written through changes no content
pub named_synced : (part name bytes : List ℕ) (sync : Bool) (d e : Disk)
    → IsCopied part name bytes d (after_act (Renamed part name) e)
    → IsCopied part name bytes d (all_done after_act (naming_acts sync part name) e)
named_synced part name bytes false d e copied = copied
named_synced part name bytes true d e copied = copied

pub one_name : (part name : List ℕ) (sync : Bool) (pieces : List (List ℕ)) (d written_disk : Disk) → part ≢ name
    → written_disk
    ≡ all_done after_act (Created part ∷ writes_of pieces) d
    → IsCopied part name (joined_pieces pieces) d (all_done after_act (naming_acts sync part name) written_disk)
one_name part name sync pieces d e apart is =
    let w = written pieces [] (after_act (Created part) d) (here d.files part (Some [])) in
    named_synced part name (joined_pieces pieces) sync d e
    (named part name (joined_pieces pieces) d e apart (ap (λ (x : Disk). x.files part) is ∙ w.whole)
    (λ other not_part. ap (λ (x : Disk). x.files other) is ∙ w.others other not_part
    ∙ elsewhere d.files part (Some []) other not_part))

pub one_name_behind : (part name had : List ℕ) (sync : Bool) (len : ℕ) (pieces : List (List ℕ))
    (d written_disk : Disk) → part ≢ name → d.files part ≡ Some had → written_disk ≡ all_done after_act (Reopened part
    len ∷ writes_of pieces) d
    → IsCopied part name (had ++ joined_pieces pieces) d
    (all_done after_act (naming_acts sync part name) written_disk)
one_name_behind part name had sync len pieces d e apart has is =
    let w = written pieces had (after_act (Reopened part len) d) has in
    named_synced part name (had ++ joined_pieces pieces) sync d e
    (named part name (had ++ joined_pieces pieces) d e apart (ap (λ (x : Disk). x.files part) is ∙ w.whole)
    (λ other not_part. ap (λ (x : Disk). x.files other) is ∙ w.others other not_part))
