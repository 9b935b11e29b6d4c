-- How writes begin, and how they go on.
use Rattle.std.proofs.Common.{◌≡◌, ◌==◌, ◌∙◌, refl, sym, ap, subst, arith, ℕ, ◌≤◌, ◌<◌, true, false, List, [], length, take, drop, Result, Ok, Err, IfOk}
use Rattle.std.proofs.lemmas.Bool.Decides.{nat_tests}
use Rattle.std.proofs.lemmas.List.{length-take, take_min}
use Rattle.sftp_model.specs.Pieces.{joined_pieces}
use Rattle.sftp_model.specs.declared.error.Error.{Error}
use Rattle.sftp_model.specs.declared.error.Error.TheVariants as error
use Rattle.sftp_model.specs.declared.error.IoKind.{IoKind}
use Rattle.sftp_model.specs.declared.outcome.Outcome.TheVariants as outcome
use Rattle.sftp_model.specs.declared.request.Request.TheVariants as request
use Rattle.sftp_model.specs.declared.slot.Facts.{Facts}
use Rattle.sftp_model.specs.declared.slot.FileAt.{FileAt}
use Rattle.sftp_model.specs.declared.slot.Move.TheVariants.{Ask, Done}
use Rattle.sftp_model.specs.declared.slot.Site.{Site}
use Rattle.plan_model.specs.Moves.{Answers, ask_write, handle_of}
use Rattle.plan_model.specs.TransferPlans.{next_part, part_len, write_all_next, write_next}
use Rattle.sftp_core.specs.Core.{Core, queued_parts}
use Rattle.plan_state.specs.declared.submission.Asking.{Asking}
use Rattle.plan_state.specs.declared.submission.Asking.TheVariants.{Parts}
use Rattle.plan_state.specs.declared.stage.Stage.{Stage}
use Rattle.plan_state.specs.declared.stage.Stage.TheVariants.{Asked, Ready}
use Rattle.plan_state.specs.Asked.{queued_by}
use Rattle.plan_state.specs.Calls.{BeginsCall, CallValue}
use Rattle.plan_state.specs.Keeping.{KeepsHeld}
use Rattle.plan_state.specs.Runners.{GoesBehind}
use Rattle.sftp_file.specs.Files.{IsHandleOfFile, FileValue, StartsOnFile, alone, facts_of, file_at, one_slot}
use Rattle.sftp_file.specs.Outcomes.{checked_move}
use Rattle.sftp_file.specs.declared.whole_writes.Part.{Part}
use Rattle.sftp_file.specs.declared.whole_writes.Part.TheVariants as part
use Rattle.sftp_file.specs.Writes.{IsPart, WriteAllValue, WriteValue, WritesParts, first_part, rest_of, write_meaning, writing_all}
use Rattle.sftp_file.proofs.Starting.{StartsAny, starts_asking, starts_ready, starts_refused, starts_with}

-- ---- write

-- what is cut out is what one WRITE carries
pub cut_is_next : (facts : Facts) (bytes parts : List ℕ) (limit : ℕ) → limit ≡ facts.write_len → parts
    ≡ take limit (drop 0 bytes) → parts ≡ next_part facts bytes
cut_is_next facts bytes parts limit is cut =
    cut ∙ (ap (λ (n : ℕ). take n bytes) is ∙ (sym (take_min facts.write_len bytes)
    ∙ ap (λ (n : ℕ). take n bytes) (omega arith)))

next_len : (facts : Facts) (bytes : List ℕ) → length (next_part facts bytes) ≡ part_len facts bytes
next_len facts bytes = length-take (part_len facts bytes) bytes ∙ omega arith

-- no bytes are asked only where there are none
none_asked : (facts : Facts) (bytes parts : List ℕ) → 1 ≤ facts.write_len → parts ≡ next_part facts bytes → length parts
    ≡ 0 → (length bytes == 0) ≡ true
none_asked facts bytes parts one is none =
    let len : length parts ≡ part_len facts bytes = ap (λ (l : List ℕ). length l) is ∙ next_len facts bytes in
    let zero : length bytes ≡ 0 = omega (arith, len, none, one) in
    grind (arith, nat_tests)

some_asked : (facts : Facts) (bytes parts : List ℕ) → parts ≡ next_part facts bytes → 0 < length parts
    → (length bytes == 0) ≡ false
some_asked facts bytes parts is some =
    let len : length parts ≡ part_len facts bytes = ap (λ (l : List ℕ). length l) is ∙ next_len facts bytes in
    let more : 0 < length bytes = omega (arith, len, some) in
    grind (arith, nat_tests)

none_next : (f : FileValue) (bytes : List ℕ) (facts : Facts) (answers : Answers) → (length bytes == 0) ≡ true
    → write_next 0 bytes (alone f) facts [] answers ≡ Done (outcome.Count 0) (alone f)
none_next f bytes facts answers none = rw none refl

some_next : (f : FileValue) (bytes : List ℕ) (facts : Facts) (answers : Answers) → (length bytes == 0) ≡ false
    → write_next 0 bytes (alone f) facts [] answers ≡ ask_write (file_at f) (next_part facts bytes) (alone f) answers
some_next f bytes facts answers some = rw some refl

-- for no bytes nothing is asked
pub write_none : (f : FileValue) (file : FileAt) (parts : List (List ℕ)) (core : Core) (len : ℕ) → file ≡ file_at f
    → len ≡ length (joined_pieces parts) → len ≡ 0 → 1 ≤ (facts_of core).write_len
    → WritesParts f parts core core (Ok (record { stage = Ready; runner = record { file = file; len = 0 } }))
write_none f file parts core len at is zero one =
    record {
      starts = λ bytes joins. subst (λ (x : FileAt). StartsOnFile write_meaning tt (write_next 0 bytes) f core core
          (Ok (record { stage = Ready; runner = record { file = x; len = 0 } }))) (sym at)
          (starts_ready write_meaning tt (write_next 0 bytes) f (record { file = file_at f; len = 0 }) core
          (λ answers brought. none_next f bytes (facts_of core) answers
          (none_asked (facts_of core) bytes (joined_pieces parts) one joins (sym is ∙ zero))) tt);
      shared = λ ticket stage. absurd cc;
      file = at;
    }

-- a look that refuses
pub write_refused : (f : FileValue) (file : FileAt) (parts : List (List ℕ)) (core : Core) (len : ℕ)
    (look : Result (Unit {0}) IoKind) (why : IoKind) → file ≡ file_at f → len ≡ length (joined_pieces parts) → 0 < len
    → ((site : Site) (answers : Answers) (bytes : List ℕ) → length bytes ≡ len → ask_write file bytes site answers
    ≡ checked_move look site (Ask (request.Write (handle_of (answers file.grant)) file.offset bytes)))
    → look ≡ Err why → WritesParts f parts core core (Err (error.IOError why))
write_refused f file parts core len look why at is some looks bad =
    record {
      starts = λ bytes joins. starts_refused write_meaning tt (write_next 0 bytes) f core why
          (λ answers brought. some_next f bytes (facts_of core) answers
          (some_asked (facts_of core) bytes (joined_pieces parts) joins (subst (λ (n : ℕ). 0 < n) is some))
          ∙ (ap (λ (x : FileAt). ask_write x (next_part (facts_of core) bytes) (alone f) answers) (sym at)
          ∙ (looks (alone f) answers (next_part (facts_of core) bytes)
          (sym (ap (λ (l : List ℕ). length l) joins) ∙ sym is)
          ∙ ap (λ (r : Result (Unit {0}) IoKind). checked_move r (alone f)
          (Ask (request.Write (handle_of (answers file.grant)) file.offset (next_part (facts_of core) bytes))))
          bad)));
      shared = tt;
      file = tt;
    }

write_behind : (f : FileValue) (file : FileAt) (bytes : List ℕ) (parts : List (List ℕ)) (len : ℕ) (facts : Facts)
    (answers : Answers) (look : Result (Unit {0}) IoKind) (u : Unit {0}) → file ≡ file_at f → len
    ≡ length (joined_pieces parts) → 0 < len
    → joined_pieces parts ≡ next_part facts bytes → IsHandleOfFile f answers
    → ask_write file (joined_pieces parts) (alone f) answers ≡ checked_move look (alone f)
    (Ask (request.Write (handle_of (answers file.grant)) file.offset (joined_pieces parts))) → look ≡ Ok u
    → GoesBehind write_meaning tt (write_next 0 bytes (alone f) facts) answers (Parts f.grant.handle f.offset parts)
    (record { file = file; len = len })
write_behind f file bytes parts len facts answers look u at is some joins brought looks good =
    let seen : ask_write (file_at f) (joined_pieces parts) (alone f) answers
    ≡ checked_move look (alone f) (Ask (request.Write (handle_of (answers 0)) f.offset (joined_pieces parts))) =
    subst (λ (x : FileAt). ask_write x (joined_pieces parts) (alone f) answers
    ≡ checked_move look (alone f) (Ask (request.Write (handle_of (answers x.grant)) x.offset (joined_pieces parts)))) at
    looks in
    let long : len ≡ part_len facts bytes = is ∙ (ap (λ (l : List ℕ). length l) joins ∙ next_len facts bytes) in
    record {
      asks = some_next f bytes facts answers (some_asked facts bytes (joined_pieces parts) joins
          (subst (λ (n : ℕ). 0 < n) is some))
          ∙ (ap (λ (l : List ℕ). ask_write (file_at f) l (alone f) answers) (sym joins)
          ∙ (seen ∙ (ap (λ (r : Result (Unit {0}) IoKind). checked_move r (alone f)
          (Ask (request.Write (handle_of (answers 0)) f.offset (joined_pieces parts)))) good
          ∙ ap (λ (h : List ℕ). Ask (request.Write h f.offset (joined_pieces parts))) brought)));
      rest = λ later. rw (at, long) refl;
      knows = tt;
    }

file_by : (f : FileValue) (asking : Asking) (m : WriteValue) (old new : Core)
    (result : Result (CallValue WriteValue) Error) → m.file ≡ file_at f
    → IfOk result (BeginsCall write_meaning asking m old new)
    → IfOk result (λ (call : CallValue WriteValue). call.runner.file ≡ file_at f)
file_by f asking m old new (Ok call) at h = ap (λ (x : WriteValue). x.file) h.runner ∙ at
file_by f asking m old new (Err e) at h = tt

shared_by : (f : FileValue) (parts : List (List ℕ)) (asking : Asking) (m : WriteValue) (old new : Core)
    (result : Result (CallValue WriteValue) Error) → asking ≡ Parts f.grant.handle f.offset parts
    → IfOk result (BeginsCall write_meaning asking m old new)
    → IfOk result (λ (call : CallValue WriteValue). (ticket : ℕ) → call.stage ≡ Asked ticket → new
    ≡ queued_parts old ticket f.grant.handle f.offset parts)
shared_by f parts asking m old new (Ok call) is h = λ ticket stage.
    (let same : h.ticket ≡ ticket = same_ticket h.ticket ticket (sym h.awaits ∙ stage) in
    h.submitted.queued ∙ (λ i. queued_by old (same i) (is i)))
  where
    same_ticket : (a b : ℕ) → (◌≡◌ {A = Stage} (Asked a) (Asked b)) → a ≡ b
    same_ticket a b e = cc
shared_by f parts asking m old new (Err e) is h = tt

-- a WRITE of these parts is asked
pub write_asked : (f : FileValue) (file : FileAt) (parts : List (List ℕ)) (len : ℕ) (asking : Asking) (old new : Core)
    (look : Result (Unit {0}) IoKind) (u : Unit {0}) (result : Result (CallValue WriteValue) Error)
    → file ≡ file_at f → len ≡ length (joined_pieces parts) → 0 < len
    → ((site : Site) (answers : Answers) (bytes : List ℕ) → length bytes ≡ len → ask_write file bytes site answers
    ≡ checked_move look site (Ask (request.Write (handle_of (answers file.grant)) file.offset bytes)))
    → look ≡ Ok u → asking ≡ Parts f.grant.handle f.offset parts
    → StartsAny write_meaning asking (record { file = file; len = len }) old new result
    → IfOk result (BeginsCall write_meaning asking (record { file = file; len = len }) old new) → KeepsHeld old new
    → WritesParts f parts old new result
write_asked f file parts len asking old new look u result at is some looks good asked started begins keeps =
    let m : WriteValue = record { file = file; len = len } in
    record {
      starts = λ bytes joins. starts_with write_meaning tt (write_next 0 bytes) f asking
          (Parts f.grant.handle f.offset parts) m old new result asked
          (λ answers brought. write_behind f file bytes parts len (facts_of old) answers look u at is some joins brought
          (looks (alone f) answers (joined_pieces parts) (sym is)) good)
          started begins keeps;
      shared = shared_by f parts asking m old new result asked begins;
      file = file_by f asking m old new result at begins;
    }

-- ---- write_all

-- a whole write begins with its first part
pub write_all_starts : (f : FileValue) (file : FileAt) (handle : List ℕ) (shared pieces : List (List ℕ)) (facts : Facts)
    (asking : Asking) (len : ℕ) (p : Part) (m : WriteAllValue) (old new : Core)
    (result : Result (CallValue WriteAllValue) Error)
    → file ≡ file_at f → handle ≡ f.grant.handle → shared ≡ pieces → facts ≡ facts_of old → m
    ≡ first_part f facts pieces → p ≡ part.Ask asking len
    → ((answers : Answers) → handle_of (answers file.grant) ≡ handle
    → IsPart (one_slot file) (rest_of file (drop 0 (joined_pieces shared)) facts [] answers) p)
    → StartsAny writing_all asking m old new result → IfOk result (BeginsCall writing_all asking m old new)
    → KeepsHeld old new
    → StartsOnFile writing_all tt (write_all_next 0 (joined_pieces pieces)) f old new result
write_all_starts f file handle shared pieces facts asking len p m old new result at bears shares fixed is asks next
    started begins keeps =
    let first : WriteAllValue = first_part f (facts_of old) pieces in
    let same : m ≡ first = is ∙ ap (λ (x : Facts). first_part f x pieces) fixed in
    let behind : (answers : Answers) → IsHandleOfFile f answers → GoesBehind writing_all tt
    (write_all_next 0 (joined_pieces pieces) (alone f) (facts_of old)) answers asking first =
    λ answers brought.
    (let here : IsPart (alone f) (rest_of (file_at f) (drop 0 (joined_pieces shared)) facts [] answers) p =
    subst (λ (x : FileAt). handle_of (answers x.grant) ≡ handle
    → IsPart (one_slot x) (rest_of x (drop 0 (joined_pieces shared)) facts [] answers) p) at (next answers)
    (brought ∙ sym bears) in
    let there : IsPart (alone f) (rest_of (file_at f) (drop 0 (joined_pieces pieces)) (facts_of old) [] answers) p =
    subst (λ (x : Facts). IsPart (alone f) (rest_of (file_at f) (drop 0 (joined_pieces pieces)) x [] answers) p) fixed
    (subst (λ (x : List (List ℕ)). IsPart (alone f) (rest_of (file_at f) (drop 0 (joined_pieces x)) facts [] answers) p)
    shares here) in
    record {
      asks = subst (λ (x : Part). IsPart (alone f) (rest_of (file_at f) (drop 0 (joined_pieces pieces)) (facts_of old)
          [] answers) x) asks there;
      rest = λ later. refl;
      knows = brought;
    }) in
    starts_asking writing_all tt (write_all_next 0 (joined_pieces pieces)) f asking m old new result
    (λ answers brought. subst (λ (x : WriteAllValue). GoesBehind writing_all tt
    (write_all_next 0 (joined_pieces pieces) (alone f) (facts_of old)) answers asking x) (sym same)
    (behind answers brought))
    started begins keeps
