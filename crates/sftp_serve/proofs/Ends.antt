-- What a server ended with, both ways.
use Rattle.std.proofs.Common.{◌≡◌, ◌<◌, ℕ, Bool, true, List, [], ◌++◌, Option, None, Some, refl, sym, subst, arith, inl, inr}
use Rattle.std.specs.Prelude.{◌≢◌, ◌⊎◌, IfOk, Result, Ok, Err}
use Rattle.sftp_link.specs.declared.piece.Piece.{Piece}
use Rattle.sftp_link.specs.Dialled.{IsEmptyLog}
use Rattle.sftp_link.specs.Told.{IfLogged}
use Rattle.sftp_link.specs.Views.{LinkView}
use Rattle.sftp_serve.specs.declared.stop.Stop.TheVariants as stop
use Rattle.sftp_serve.specs.Logs.{EndsExactly, EndsStream, MAX_FRAMES, MayServe, ServesStream, got_bytes, sent_bytes}
use Rattle.sftp_serve.specs.Serving.{ShowsStop, HaltsAll}
use Rattle.sftp_serve.specs.Stream.{IsBroken, IsStream, ServedState}
use Rattle.sftp_serve.proofs.Steps.{halted}
use Rattle.sftp_serve.proofs.Streams.{not_broken, one_split, part_nothing, served_none}

-- the statuses of frames that were served
abbrev pub IsStatus : ℕ → Type 0
IsStatus status = (status ≡ 0) ⊎ (status ≡ 1) ⊎ (status ≡ 3) ⊎ (status ≡ 5) ⊎ (status ≡ 7)

pub ends : (first : ServedState) (status : ℕ) (ended : Bool) (log : List Piece) → ShowsStop first status ended log
    → EndsStream first status ended log
ends first status ended log h = record {
  order = h.order;
  prefix = h.prefix;
  whole = λ z. (let w = h.whole z in (w.0, (w.1.0, w.1.2)));
  broken = h.broken;
  full = h.full;
}

-- a stream that is well didn't break
stream_well : (first : ServedState) (ended : Bool) (bytes a b : List ℕ) (n : ℕ) → IsStream first bytes n a
    → IsBroken first ended bytes b → ⊥
stream_well first ended bytes a b n s broken = not_broken first s.0 ended bytes a b [] n s.1 part_nothing (inr refl)
    broken

broken_is : (first : ServedState) (status : ℕ) (ended : Bool) (log : List Piece) (answers : List ℕ) → IsStatus status
    → ShowsStop first status ended log → IsBroken first ended (got_bytes log) answers → (status ≡ 1) ⊎ (status ≡ 5)
broken_is first status ended log answers (inl zero) h broken =
    let w = h.whole zero in absurd (stream_well first ended (got_bytes log) (sent_bytes log) answers w.1.0 w.1.2 broken)
broken_is first status ended log answers (inr (inl one)) h broken = inl one
broken_is first status ended log answers (inr (inr (inl three))) h broken =
    let c = h.cut three in absurd (not_broken first c.1.left ended (got_bytes log) (sent_bytes log ++ c.1.more) answers
    c.1.rest c.1.count c.1.served c.1.part (inl c.0) broken)
broken_is first status ended log answers (inr (inr (inr (inl five)))) h broken = inr five
broken_is first status ended log answers (inr (inr (inr (inr seven)))) h broken =
    absurd (stream_well first ended (got_bytes log) (sent_bytes log) answers MAX_FRAMES (h.full seven) broken)

full_is : (first : ServedState) (status : ℕ) (faultless : Type 0) (ended : Bool) (log : List Piece) (answers : List ℕ)
    → IsStatus status → (status ≡ 3 → faultless → ⊥) → ShowsStop first status ended log → faultless
    → IsStream first (got_bytes log) MAX_FRAMES answers → (status ≡ 7) ⊎ (status ≡ 5)
full_is first status faultless ended log answers (inl zero) rose h well s =
    let w = h.whole zero in
    let same = one_split first w.1.2.0 s.0 (got_bytes log) (sent_bytes log) answers [] [] w.1.0 MAX_FRAMES w.1.2.1
    part_nothing s.1 part_nothing in
    let lt = w.1.1 in
    absurd (omega (arith, lt, same.0))
full_is first status faultless ended log answers (inr (inl one)) rose h well s =
    absurd (stream_well first ended (got_bytes log) answers (sent_bytes log) MAX_FRAMES s (h.broken one))
full_is first status faultless ended log answers (inr (inr (inl three))) rose h well s = absurd (rose three well)
full_is first status faultless ended log answers (inr (inr (inr (inl five)))) rose h well s = inr five
full_is first status faultless ended log answers (inr (inr (inr (inr seven)))) rose h well s = inl seven

complete_is : (first : ServedState) (status : ℕ) (faultless : Type 0) (ended : Bool) (log : List Piece) (count : ℕ)
    (answers : List ℕ) → IsStatus status → (status ≡ 3 → faultless → ⊥) → ShowsStop first status ended log → faultless
    → IsStream first (got_bytes log) count answers
    → (status ≡ 0) ⊎ (status ≡ 5) ⊎ (status ≡ 7)
complete_is first status faultless ended log count answers (inl zero) rose h well s = inl zero
complete_is first status faultless ended log count answers (inr (inl one)) rose h well s =
    absurd (stream_well first ended (got_bytes log) answers (sent_bytes log) count s (h.broken one))
complete_is first status faultless ended log count answers (inr (inr (inl three))) rose h well s =
    absurd (rose three well)
complete_is first status faultless ended log count answers (inr (inr (inr (inl five)))) rose h well s = inr (inl five)
complete_is first status faultless ended log count answers (inr (inr (inr (inr seven)))) rose h well s = inr (inr seven)

pub exactly : (first : ServedState) (status : ℕ) (faultless : Type 0) (ended : Bool) (log : List Piece)
    → IsStatus status → (status ≡ 3 → faultless → ⊥) → ShowsStop first status ended log
    → EndsExactly first status faultless ended log
exactly first status faultless ended log is rose h = record {
  broken = λ answers broken. broken_is first status ended log answers is h broken;
  full = λ well answers s. full_is first status faultless ended log answers is rose h well s;
  complete = λ well count answers s. complete_is first status faultless ended log count answers is rose h well s;
}

-- ---- a link whose log was empty

told_ends : (first : ServedState) (status : ℕ) (ended : Bool) (a b : Option (List Piece)) → IsEmptyLog a
    → IfLogged (HaltsAll first status ended) a b → IfLogged (λ before now. EndsStream first status ended now) a b
told_ends first status ended None b empty t = tt
told_ends first status ended (Some x) None empty t = absurd t
told_ends first status ended (Some x) (Some y) empty t = ends first status ended y (t empty)

told_exactly : (first : ServedState) (status : ℕ) (faultless : Type 0) (ended : Bool) (a b : Option (List Piece))
    → IsStatus status → (status ≡ 3 → faultless → ⊥) → IsEmptyLog a → IfLogged (HaltsAll first status ended) a b
    → IfLogged (λ before now. EndsExactly first status faultless ended now) a b
told_exactly first status faultless ended None b is rose empty t = tt
told_exactly first status faultless ended (Some x) None is rose empty t = absurd t
told_exactly first status faultless ended (Some x) (Some y) is rose empty t =
    exactly first status faultless ended y is rose (t empty)

-- a fault that was counted is one more
rose_not : (a b : ℕ) → a < b → b ≡ a → ⊥
rose_not a b lt same = absurd (omega (arith, lt, same))

pub serves_stream : {Service : Type 0} (first : ServedState) (status : ℕ) (before now : LinkView Service)
    → IsStatus status → MayServe before → IfLogged (HaltsAll first status now.ended) before.log now.log
    → (status ≡ 0 → now.ended ≡ true) → (status ≡ 3 → before.faults < now.faults)
    → (status ≢ 3 → now.faults ≡ before.faults) → ServesStream first status before now
serves_stream first status before now is may halts ended fault unfailed = record {
  ends = told_ends first status now.ended before.log now.log may.unused halts;
  exactly = told_exactly first status (now.faults ≡ before.faults) now.ended before.log now.log is
      (λ three same. rose_not before.faults now.faults (fault three) same) may.unused halts;
  ended = ended;
  fault = fault;
  unfailed = unfailed;
}

-- Nothing was done, since an allocation failed.
starved : (first : ServedState) (ended : Bool) (log : List Piece) → log ≡ [] → ShowsStop first 5 ended log
starved first ended log e = subst (ShowsStop first 5 ended) (sym e)
    (halted stop.OutOfMemory first first 0 ended [] (omega arith)
    (tt, record { count = 0; more = []; left = first; rest = []; served = served_none first }))

told_starved : (first : ServedState) (ended : Bool) (a : Option (List Piece)) → IsEmptyLog a
    → IfLogged (HaltsAll first 5 ended) a a
told_starved first ended None empty = tt
told_starved first ended (Some x) empty = λ none. starved first ended x none

pub starved_serves : {Service : Type 0} (first : ServedState) (link : LinkView Service) → MayServe link
    → ServesStream first 5 link link
starved_serves first link may =
    serves_stream first 5 link link (inr (inr (inr (inl refl)))) may (told_starved first link.ended link.log may.unused)
    (λ zero. absurd cc) (λ three. absurd cc) (λ other. refl)

-- what holds of each value holds of the one that is there
pub any_ok : {T E : Type 0} (P : T → Type 0) (r : Result T E) → ((x : T) → P x) → IfOk r P
any_ok P (Ok x) h = h x
any_ok P (Err e) h = tt
