-- The fsync of a copy to the server, among its WRITEs.
use Rattle.std.proofs.Common.{
  ◌≡◌,
  ◌⊎◌,
  inl,
  inr,
  ℕ,
  Bool,
  true,
  false,
  List,
  [],
  ◌∷◌,
  length,
  refl,
  sym,
  ap,
  ◌∙◌,
  arith,
  Option,
  Some,
  None,
  if◌then◌else◌,
}
use Rattle.sftp_model.specs.declared.file_attrs.FileAttrs.{FileAttrs}
use Rattle.transfer_copy.specs.declared.holding.Part.{Part}
use Rattle.transfer_copy.specs.declared.put.FilePut.{FilePut}
use Rattle.transfer_copy.specs.WholePuts.{AskNoSync, AsksSync, GotOk, IsSynced, WriteDeed, writes_after}
use Rattle.transfer_copy.proofs.WritePartLaws.{false_true}

-- its status is awaited, or was OK
abbrev pub IsSyncAnswered : ℕ → List WriteDeed → List WriteDeed → List Part → Type 0
IsSyncAnswered ticket earlier writing parts = ((writing ≡ AsksSync ticket ∷ earlier) × ((part : Part)
    × (part.ticket ≡ ticket)
    × (parts ≡ part ∷ [])))
    ⊎ ((writing ≡ GotOk ticket ∷ AsksSync ticket ∷ earlier) × (parts ≡ []))

-- it was asked behind OK to each WRITE, and nothing was asked behind it
pub record HasAskedSync (sync : Bool) (p : FilePut) (writing : List WriteDeed) : Type 0 where
  pub wanted : sync ≡ true
  pub over : p.at_end ≡ true
  pub given : p.attrs ≡ None
  pub off : p.sync ≡ false
  pub ticket : ℕ
  pub earlier : List WriteDeed
  pub answered : (writes_after earlier).under_way ≡ []
  pub stands : IsSyncAnswered ticket earlier writing p.holding.parts

-- it was not asked so far, or it was
abbrev pub HasSyncSoFar : Bool → FilePut → List WriteDeed → Type 0
HasSyncSoFar sync p writing = ((p.sync ≡ sync) × AskNoSync writing) ⊎ HasAskedSync sync p writing

no_part : (part : Part) (later : List Part) → part ∷ later ≡ [] → ⊥
no_part part later none = let l = ap length none in omega (arith, l)

-- before the end of the file it was not asked
pub unsynced_reading : (sync : Bool) (old new : FilePut) (writing : List WriteDeed) → HasSyncSoFar sync old writing
    → old.at_end ≡ false → new.sync ≡ old.sync → (new.sync ≡ sync) × AskNoSync writing
unsynced_reading sync old new writing (inl (is, none)) going same = (same ∙ is, none)
unsynced_reading sync old new writing (inr asked) going same = absurd (false_true (sym going ∙ asked.over))

none_some : (attrs : Option FileAttrs) (given : FileAttrs) → attrs ≡ None → attrs ≡ Some given → ⊥
none_some attrs given none some =
    let bad : (◌≡◌ {A = Option FileAttrs} None (Some given)) = sym none ∙ some in cc

-- nor before the attributes were given
pub unsynced_giving : (sync : Bool) (old new : FilePut) (writing : List WriteDeed) (attrs : FileAttrs)
    → HasSyncSoFar sync old writing
    → old.attrs ≡ Some attrs → new.sync ≡ old.sync → (new.sync ≡ sync) × AskNoSync writing
unsynced_giving sync old new writing attrs (inl (is, none)) due same = (same ∙ is, none)
unsynced_giving sync old new writing attrs (inr asked) due same =
    absurd (none_some old.attrs attrs asked.given due)

-- it is asked once
pub sync_asked : (sync : Bool) (old new : FilePut) (writing : List WriteDeed) (part : Part)
    → HasSyncSoFar sync old writing → old.sync ≡ true
    → old.at_end ≡ true → old.attrs ≡ None → (writes_after writing).under_way ≡ []
    → new.holding.parts ≡ part ∷ [] → new ≡ record old { holding = new.holding; sync = false }
    → HasAskedSync sync new (AsksSync part.ticket ∷ writing)
sync_asked sync old new writing part (inl (wanted, none)) due over given answered parts is = record {
  wanted = sym wanted ∙ due;
  over = ap (λ (p : FilePut). p.at_end) is ∙ over;
  given = ap (λ (p : FilePut). p.attrs) is ∙ given;
  off = ap (λ (p : FilePut). p.sync) is;
  ticket = part.ticket;
  earlier = writing;
  answered = answered;
  stands = inl (refl, (part, refl, parts));
}
sync_asked sync old new writing part (inr asked) due over given answered parts is =
    absurd (false_true (sym asked.off ∙ due))

abbrev ticket_of : ℕ → List Part → ℕ
ticket_of other [] = other
ticket_of other (part ∷ later) = part.ticket

abbrev later_of : List Part → List Part
later_of [] = []
later_of (part ∷ later) = later

answered_by : (ticket : ℕ) (earlier writing : List WriteDeed) (parts later new : List Part) (first : Part)
    → IsSyncAnswered ticket earlier writing parts → parts ≡ first ∷ later → new ≡ later
    → IsSyncAnswered ticket earlier (GotOk first.ticket ∷ writing) new
answered_by ticket earlier writing parts later new first (inl (last, (part, under, one))) is rest =
    let same : first ∷ later ≡ part ∷ [] = sym is ∙ one in
    let ticket_is : first.ticket ≡ ticket = ap (ticket_of 0) same ∙ under in
    inr ((λ i. GotOk (ticket_is i) ∷ last i), rest ∙ ap later_of same)
answered_by ticket earlier writing parts later new first (inr (last, none)) is rest =
    absurd (no_part first later (sym is ∙ none))

-- OK to the first part
pub sync_answered : (sync : Bool) (old new : FilePut) (writing : List WriteDeed) (first : Part) (later : List Part)
    → HasSyncSoFar sync old writing → old.holding.parts ≡ first ∷ later → new.holding.parts ≡ later
    → new.at_end ≡ old.at_end → new.attrs ≡ old.attrs → new.sync ≡ old.sync
    → HasSyncSoFar sync new (GotOk first.ticket ∷ writing)
sync_answered sync old new writing first later (inl (is, none)) parts rest end attrs same = inl (same ∙ is, none)
sync_answered sync old new writing first later (inr asked) parts rest end attrs same = inr (record {
  wanted = asked.wanted;
  over = end ∙ asked.over;
  given = attrs ∙ asked.given;
  off = same ∙ asked.off;
  ticket = asked.ticket;
  earlier = asked.earlier;
  answered = asked.answered;
  stands = answered_by asked.ticket asked.earlier writing old.holding.parts later new.holding.parts first asked.stands
      parts rest;
})

synced_by : (ticket : ℕ) (earlier writing : List WriteDeed) (parts : List Part)
    → (writes_after earlier).under_way ≡ [] → IsSyncAnswered ticket earlier writing parts → parts ≡ []
    → IsSynced writing
synced_by ticket earlier writing parts answered (inl (last, (part, under, one))) none =
    absurd (no_part part [] (sym one ∙ none))
synced_by ticket earlier writing parts answered (inr (last, empty)) none =
    record { ticket = ticket; earlier = earlier; last = last; answered = answered }

-- the file is closed: it was asked and had OK, if it was wanted and is offered
pub sync_done : (sync : Bool) (old : FilePut) (writing : List WriteDeed) (offered : Bool)
    → HasSyncSoFar sync old writing
    → old.holding.parts ≡ [] → (if old.sync then offered else false) ≡ false
    → sync ≡ true → offered ≡ true → IsSynced writing
sync_done sync old writing offered (inl (is, none)) empty undue wanted there =
    absurd (false_true (sym undue ∙ (ap (λ (b : Bool). if b then offered else false) (is ∙ wanted) ∙ there)))
sync_done sync old writing offered (inr asked) empty undue wanted there =
    synced_by asked.ticket asked.earlier writing old.holding.parts asked.answered asked.stands empty

-- it is not asked unless it is wanted
pub sync_unwanted : (sync : Bool) (old : FilePut) (writing : List WriteDeed) → HasSyncSoFar sync old writing
    → sync ≡ false → AskNoSync writing
sync_unwanted sync old writing (inl (is, none)) off = none
sync_unwanted sync old writing (inr asked) off = absurd (false_true (sym off ∙ asked.wanted))

-- it is due only if it is wanted
pub due_wanted : (b offered : Bool) → (if b then offered else false) ≡ true → b ≡ true
due_wanted true offered due = refl
due_wanted false offered due = absurd (false_true due)
