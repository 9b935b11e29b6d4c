-- Between its calls a lane's buffered files keep their limit, whatever its calls were.
use Rattle.std.proofs.Common.{◌≡◌, ℕ, zero, suc, List, ◌∷◌, [], Option, Some, None, refl, sym, ◌∙◌, subst, inl, inr}
use Rattle.std.specs.Prelude.{replicate, slice_index_or}
use Rattle.std.proofs.lemmas.Bool.Decides.{eqb_tells}
use Rattle.sftp_model.specs.declared.slot.Facts.{Facts}
use Rattle.sftp_model.specs.declared.slot.Move.{Move}
use Rattle.sftp_model.specs.declared.slot.Move.TheVariants.{Done}
use Rattle.sftp_model.specs.declared.slot.Site.{Site}
use Rattle.sftp_model.specs.declared.slot.Slot.TheVariants.{Empty}
use Rattle.sftp_model.specs.Slots.{fresh_site}
use Rattle.plan_model.specs.GoodMoves.{FitsFacts}
use Rattle.plan_model.specs.Moves.{Own}
use Rattle.plan_model.specs.RequestCounts.{BuffersWithin, LeavesWithin}
use Rattle.plan_model.proofs.LimitEnds.{cancelled_within, ended_within}
use Rattle.plan_model.specs.declared.call.Call.{Call}
use Rattle.session_model.specs.declared.event.Event.TheVariants.{End}
use Rattle.session_model.specs.declared.entry.Entry.{Entry}
use Rattle.session_model.specs.declared.entry.Entry.TheVariants as entry
use Rattle.session_model.specs.Readings.{answer, count_ended, last_cancel, own}
use Rattle.session_model.specs.Calls.{Setting, call_at, current, left_by, site_left, site_of}
use Rattle.session_model.specs.Journals.{IsJournal}
use Rattle.session_model.proofs.CallLaws.{site_end}
use Rattle.session_model.proofs.CallsSoFar.{calls_so_far}
use Rattle.session_model.proofs.HolderLaws.{ending}
use Rattle.plan_model.specs.CallPlans.{site_after_cancel, next}

empty_at : (n k : ℕ) → slice_index_or (replicate n Empty) k Empty ≡ Empty
empty_at zero k = refl
empty_at (suc n) zero = refl
empty_at (suc n) (suc k) = empty_at n k

-- slots that hold nothing have no buffer
fresh_within : (facts : Facts) (directory : List ℕ) → BuffersWithin facts
    (record { slots = fresh_site.slots; directory = directory })
fresh_within facts directory slot file buffer is = absurd (let none = sym (empty_at 16 slot) ∙ is in cc none)

-- nor does a move break the limit that leaves a site within it
moved_within : (facts : Facts) (site : Site) (m : Move) → BuffersWithin facts site → LeavesWithin facts m
    → BuffersWithin facts (left_by m site)
moved_within facts site (Done o after) was leaves = leaves
moved_within facts site other was leaves = was

-- the end of a lane's call leaves its buffers within the limit, where the call began so
left_within : (s : Setting) (past : List Entry) (lane : ℕ) → FitsFacts s.facts → IsJournal s past
    → BuffersWithin s.facts (site_of s past lane) → (c : Option Call) → current s past lane ≡ c → (cancel : Option ℕ)
    → BuffersWithin s.facts (site_left c cancel (site_of s past lane) s.facts (own past lane (count_ended past lane))
    (answer past))
left_within s past lane fit j was None is cancel = was
left_within s past lane fit j was (Some c) is None =
    let goes = calls_so_far s past lane c j is in
    subst (λ (o : Own). BuffersWithin s.facts (left_by (next c (site_of s past lane) s.facts o (answer past))
    (site_of s past lane))) goes.are
    (moved_within s.facts (site_of s past lane) _ was (ended_within c (site_of s past lane) s.facts goes.requests
    (answer past) fit was goes.so_far))
left_within s past lane fit j was (Some c) is (Some l) =
    let goes = calls_so_far s past lane c j is in
    subst (λ (o : Own). BuffersWithin s.facts (site_after_cancel c (site_of s past lane) s.facts o (answer past)))
    goes.are
    (cancelled_within c (site_of s past lane) s.facts goes.requests (answer past) fit was goes.so_far)

-- in a run so far each lane's buffers are within the limit
pub buffers_within : (s : Setting) (past : List Entry) (lane : ℕ) → FitsFacts s.facts → IsJournal s past
    → BuffersWithin s.facts (site_of s past lane)
buffers_within s [] lane fit j = fresh_within s.facts []
buffers_within s (entry.Event (End l n o) ∷ past) lane fit j =
    elim (eqb_tells l lane) [
      | inl t ↦ subst (λ (k : ℕ). BuffersWithin s.facts (site_of s (entry.Event (End l n o) ∷ past) k)) t.1
          (subst (BuffersWithin s.facts) (sym (site_end s past l n o))
          (subst (λ (m : ℕ). BuffersWithin s.facts (site_left (call_at s past l m) (last_cancel past) (site_of s past l)
          s.facts (own past l m) (answer past))) (sym (ending s past l n o j).at)
          (left_within s past l fit j.1 (buffers_within s past l fit j.1) (current s past l) refl (last_cancel past))))
      | inr t ↦ rw t.0 (buffers_within s past lane fit j.1)
    ]
buffers_within s (entry.LetGo l ∷ past) lane fit j = elim (eqb_tells l lane) [
  | inl t ↦ rw t.0 (fresh_within s.facts (site_of s past lane).directory)
  | inr t ↦
      rw t.0 (buffers_within s past lane fit j.1)
]
buffers_within s (_ ∷ past) lane fit j = buffers_within s past lane fit j.1
