-- Where the files of calls stand that a session ran.
use Rattle.std.proofs.Common.{◌≡◌, ℕ, zero, suc, refl, ap, sym, ◌∙◌, subst, inl, inr}
use Rattle.std.specs.Prelude.{Result}
use Rattle.sftp_model.specs.declared.error.Error.{Error}
use Rattle.sftp_model.specs.declared.slot.FileAt.{FileAt}
use Rattle.sftp_link.specs.Views.{LinkView}
use Rattle.plan_state.specs.Calls.{CallValue, CancelsAwaited}
use Rattle.plan_state.specs.Runners.{Meaning}
use Rattle.plan_state.specs.declared.poll.Poll.{Poll}
use Rattle.plan_state.specs.declared.poll.Poll.TheVariants as poll
use Rattle.sftp_file.specs.Files.{FileValue, IsMoved, file_at, file_in}
use Rattle.sftp_client.specs.Sessions.{SftpValue, with_core}
use Rattle.sftp_client.specs.Waits.{ArePollRounds, HasFinishedOn, HasWaited, HasWaitedOn, PolledIn, WaitEnds, WaitStops, WaitsIn}
use Rattle.sftp_client.proofs.Waiting.{finish_spares, given_up}

-- nothing but the offset of the file changes
abbrev pub MovesOnly : FileAt → FileAt → Type 0
MovesOnly before after = after ≡ record before { offset = after.offset }

moves_both : (a b c : FileAt) → MovesOnly a b → MovesOnly b c → MovesOnly a c
moves_both a b c x y = y ∙ (λ i. record (x i) { offset = c.offset })

-- what stays of a runner keeps its file but for the offset
abbrev pub KeepsFile : {W M V : Type 0} → Meaning W M V → (M → FileAt) → Type 0
KeepsFile {M = M} s at = (m next : M) → s.stays m next → MovesOnly (at m) (at next)

poll_moves : {W M V L : Type 0} (s : Meaning W M V) (at : M → FileAt) → KeepsFile s at
    → (old new : SftpValue L) (p q : CallValue M)
    (result : Poll (Result V Error)) → PolledIn s old new p q result → MovesOnly (at p.runner) (at q.runner)
poll_moves s at keeps old new p q result (inl h) = keeps p.runner q.runner h.0.stays
poll_moves s at keeps old new p q result (inr h) = subst (λ x. MovesOnly (at p.runner) (at x.runner)) (sym h.1.1.1) refl

rounds_move : {W M V L S : Type 0} (s : Meaning W M V) (at : M → FileAt) → KeepsFile s at
    → (state : L → LinkView S) (n : ℕ)
    (old new : SftpValue L) (p q : CallValue M) → ArePollRounds (WaitsIn s) state n old new p q
    → MovesOnly (at p.runner) (at q.runner)
rounds_move s at keeps state zero old new p q h = subst (λ x. MovesOnly (at p.runner) (at x.runner)) (sym h.1) refl
rounds_move s at keeps state (suc n) old new p q h =
    moves_both (at p.runner) (at h.1.0.runner) (at q.runner) (rounds_move s at keeps state n old h.0 p h.1.0 h.1.1.0)
    (poll_moves s at keeps h.0 h.1.1.1.mid h.1.0 q poll.Pending h.1.1.1.waits)

ends_move : {W M V L S : Type 0} (s : Meaning W M V) (at : M → FileAt) → KeepsFile s at → (state : L → LinkView S)
    (old new : SftpValue L) (p q : CallValue M) (result : Result V Error) → WaitEnds s state old new p q result
    → MovesOnly (at p.runner) (at q.runner)
ends_move s at keeps state old new p q result (inl h) = poll_moves s at keeps old new p q (poll.Ready result) h
ends_move s at keeps state old new p q result (inr h) = poll_moves s at keeps old h.0 p q poll.Pending h.1.1.0

stops_move : {W M V L S : Type 0} (s : Meaning W M V) (at : M → FileAt) → KeepsFile s at
    → (state : L → LinkView S) (count : ℕ)
    (old new : SftpValue L) (p q : CallValue M) (result : Result V Error) → WaitStops s state count old new p q result
    → MovesOnly (at p.runner) (at q.runner)
stops_move s at keeps state count old new p q result (inl h) = ends_move s at keeps state old new p q result h
stops_move s at keeps state count old new p q result (inr h) =
    subst (λ x. MovesOnly (at p.runner) (at x.runner)) (sym h.1.1.1) refl

-- where the file of a place stands after the call was run
pub moved_at : {W M V L S : Type 0} (s : Meaning W M V) (at : M → FileAt) → KeepsFile s at
    → (place : ℕ) (state : L → LinkView S)
    (old new : SftpValue L) (p q : CallValue M) (before after : FileValue) (result : Result V Error)
    → at p.runner ≡ file_in place before → after ≡ record before { offset = (at q.runner).offset }
    → HasWaited s state old new p q result → (at q.runner ≡ file_in place after)
    × (after ≡ record before { offset = after.offset })
moved_at s at keeps place state old new p q before after result stands is w =
    let only = moves_both (at p.runner) (at w.call.runner) (at q.runner)
    (rounds_move s at keeps state w.count old w.mid p w.call w.rounds)
    (stops_move s at keeps state w.count w.mid new w.call q result w.ends)
    in (
      only ∙ ((λ i. record (stands i) { offset = (at q.runner).offset }) ∙ sym (ap (file_in place) is)),
      is ∙ (λ i. record before { offset = (sym (ap (λ (f : FileValue). f.offset) is)) i }),
    )

pub moved_by : {W M V L S : Type 0} (s : Meaning W M V) (at : M → FileAt) → KeepsFile s at → (state : L → LinkView S)
    (old new : SftpValue L) (p q : CallValue M) (before after : FileValue) (result : Result V Error)
    → at p.runner ≡ file_at before → after ≡ record before { offset = (at q.runner).offset }
    → HasWaited s state old new p q result → IsMoved before after (at q.runner)
moved_by s at keeps state old new p q before after result stands is w =
    let moved = moved_at s at keeps 0 state old new p q before after result stands is w in
    record { stands = moved.0; rest = moved.1 }

-- where it stands once the call was given up, too
pub finished_on : {W M V L S : Type 0} (s : Meaning W M V) (at : M → FileAt) (state : L → LinkView S)
    (old mid inside new : SftpValue L) (p last : CallValue M) (before after : FileValue) (result : Result V Error)
    → HasWaitedOn s at state old mid p last before after result → inside ≡ mid
    → CancelsAwaited inside.core new.core last.stage → new ≡ with_core inside new.core
    → HasFinishedOn s at state old new p before after result
finished_on s at state old mid inside new p last before after result w same cancels left =
    let waited = subst (λ (x : SftpValue _). HasWaited s state old x p last result) (sym same) w.waited in
    let up = given_up s state old inside new.core p last result waited cancels in
    record {
      finished = record {
        mid = inside;
        last = last;
        waited = waited;
        given_up = cancels;
        left = left;
        holds = up.0;
        grants = up.1;
        others = λ ticket kind apart h. let on = waited.others ticket kind apart h in
            cancels.others ticket kind on.1 on.0;
        spares = finish_spares old.core inside.core new.core p.stage last.stage waited.spares cancels;
      };
      moved = w.moved;
    }
