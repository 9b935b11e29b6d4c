-- What WRITEs leave that carry the parts of some bytes after one another, where nothing else changes the file between
-- them.
use Rattle.std.proofs.Common.{◌≡◌, ℕ, ◌+◌, ◌-◌, ◌<◌, List, [], ◌∷◌, ◌++◌, length, drop, Some, ap, sym, ◌∙◌, subst, arith, inl, inr}
use Rattle.std.specs.Prelude.{replicate}
use Rattle.std.specs.Str.{bytes_eq}
use Rattle.std.proofs.lemmas.List.{append-nil, append_assoc, drop-drop, drop_at, get_or-set_same, length-append, take_at}
use Rattle.sftp_model.specs.declared.config.ServerConfig.{ServerConfig}
use Rattle.sftp_model.specs.declared.reply.Reply.TheVariants as reply
use Rattle.machine_model.proofs.NameLaws.{handles_tell}
use Rattle.machine_model.proofs.PairLaws.{found_has}
use Rattle.machine_model.proofs.PutLaws.{length_resized}
use Rattle.machine_model.specs.Changes.{IsWellFormed}
use Rattle.machine_model.specs.FileTree.{FileTree, bytes_of, opened_at, written_at, resized_bytes}
use Rattle.machine_model.specs.HandleRequests.{Answer}
use Rattle.machine_model.specs.declared.opened.Held.{Held}
use Rattle.machine_model.specs.declared.opened.Opened.TheVariants as opened
use Rattle.sftp_model.specs.Numbers.{SSH_FX_OK}
use Rattle.sftp_model.specs.declared.request.Request.{Request}
use Rattle.sftp_model.specs.declared.request.Request.TheVariants as request
use Rattle.plan_model.specs.Moves.{Answers, Own}
use Rattle.run_laws.specs.CallsAmong.{ToWrite}
use Rattle.run_laws.specs.DeferredWrites.{AreWrites, AreWritten, StandAlone, carried_bytes, content_in, places}
use Rattle.run_laws.specs.Steps.{Step, answer_to, after, AreServed}
use Rattle.run_laws.proofs.HandleLaws.{file_stays}
use Rattle.run_laws.proofs.MoveWords.{code_of}
use Rattle.run_laws.proofs.StepLaws.{reply_is, unrefused_by, step_well_formed}
use Rattle.run_laws.proofs.WriteLaws.{step_puts}

-- ---- one piece written after another

-- what stands before the offset and is long enough
resized_front : (front rest : List ℕ) (size : ℕ) → length front ≡ size → resized_bytes size (front ++ rest) ≡ front
resized_front front rest size e =
    let more = length-append front rest in
    let none : size - length (front ++ rest) ≡ 0 = omega (arith, more, e) in
    ap (λ (w : List ℕ). w ++ replicate (size - length (front ++ rest)) 0) (take_at front rest size e)
    ∙ (ap (λ (k : ℕ). front ++ replicate k 0) none ∙ append-nil front)

put_more : (bytes : List ℕ) (offset : ℕ) (first second : List ℕ)
    → written_at (written_at bytes offset first) (offset + length first) second
    ≡ written_at bytes offset (first ++ second)
put_more bytes offset first second =
    let r : List ℕ = resized_bytes offset bytes in
    let later : List ℕ = drop (offset + length first) bytes in
    let at : length (r ++ first) ≡ offset + length first = let l = length-append r first in let size =
    length_resized offset bytes in omega (arith, l, size) in
    let left : drop (offset + length first + length second) (r ++ first ++ later) ≡ drop (length second) later =
    sym (drop-drop (length second) (offset + length first) (r ++ first ++ later))
    ∙ ap (drop (length second)) (drop_at (r ++ first) later (offset + length first) at)
    in
    let last : drop (length second) later ≡ drop (offset + length (first ++ second)) bytes =
    drop-drop (length second) (offset + length first) bytes ∙ ap (λ (k : ℕ). drop k bytes)
    (let l = length-append first second in omega (arith, l))
    in
    ap (λ (w : List ℕ). w ++ second ++ drop (offset + length first + length second) (r ++ first ++ later))
    (resized_front (r ++ first) later (offset + length first) at)
    ∙ (ap (λ (w : List ℕ). r ++ first ++ second ++ w) (left ∙ last)
    ∙ ap (λ (w : List ℕ). w ++ drop (offset + length (first ++ second)) bytes) (append_assoc r first second))

-- ---- one WRITE

record Puts (tree now : FileTree) (h : List ℕ) (held : Held) (offset : ℕ) (part : List ℕ) : Type 0 where
  bytes_are : bytes_of now held.file ≡ written_at (bytes_of tree held.file) offset part
  open_is : opened_at now h ≡ Some (opened.File held)

puts : (config : ServerConfig) (answers : Answers) (tree : FileTree) (h part : List ℕ) (offset : ℕ) (held : Held)
    (s : Step) (steps : List Step) (place : ℕ) (message language : List ℕ) → IsWellFormed tree
    → opened_at tree h ≡ Some (opened.File held) → ToWrite held → AreServed config answers tree (s ∷ steps) → s.place
    ≡ place → s.request ≡ request.Write h offset part
    → answers place ≡ Some (reply.Status SSH_FX_OK message language)
    → Puts tree (answer_to config tree s).1 h held offset part
puts config answers tree h part offset held s steps place message language well_formed open_is way served here asks said
    =
    let answer = reply_is (answers s.place) (reply.Status SSH_FX_OK message language) (answer_to config tree s).0
    (ap answers here ∙ said) served.1 in
    let unrefused : s.choice.refuse ≡ SSH_FX_OK = unrefused_by tree config s.request s.choice s.handle
    (reply.Status SSH_FX_OK message language) (λ code ne e. ne (sym (ap code_of e))) answer in
    let is = step_puts config tree h part offset held s open_is way asks unrefused (sym (ap code_of answer)) in
    let lt : held.file < length tree.files = well_formed.held h held
    (found_has bytes_eq handles_tell tree.handles h (opened.File held) open_is) in
    record {
      bytes_are = ap (λ (w : Answer). bytes_of w.1 held.file) is
          ∙ get_or-set_same tree.files held.file (written_at (bytes_of tree held.file) offset part) [] lt;
      open_is = ap (λ (w : Answer). opened_at w.1 h) is ∙ open_is;
    }

-- ---- all of them

-- after some that were written
puts_rest : (config : ServerConfig) (answers : Answers) (h : List ℕ) (held : Held) (bytes : List ℕ) (start : ℕ)
    (steps : List Step) (own : Own) (tree : FileTree) (before : List ℕ) → IsWellFormed tree
    → opened_at tree h ≡ Some (opened.File held) → ToWrite held → bytes_of tree held.file
    ≡ written_at bytes start before
    → AreServed config answers tree steps → StandAlone config held.file h own tree steps
    → AreWrites h (start + length before) own → AreWritten answers (places own)
    → bytes_of (after config tree steps) held.file ≡ written_at bytes start (before ++ carried_bytes own)
puts_rest config answers h held bytes start [] [] tree before well_formed open_is way is served stand asks said = is
    ∙ ap (written_at bytes start) (sym (append-nil before))
puts_rest config answers h held bytes start [] (asked ∷ later) tree before well_formed open_is way is served stand asks
    said = absurd stand
puts_rest config answers h held bytes start (s ∷ steps) [] tree before well_formed open_is way is served stand asks said
    = absurd stand
puts_rest config answers h held bytes start (s ∷ steps) (asked ∷ later) tree before well_formed open_is way is served
    stand asks said =
    elim stand [
      | inl own ↦
          (let part : List ℕ = content_in asked.1 in
          let p = puts config answers tree h part (start + length before) held s steps asked.0 said.0.0 said.0.1.0
          well_formed open_is way served own.0 (own.1 ∙ asks.0) said.0.1.1 in
          let now : bytes_of (answer_to config tree s).1 held.file ≡ written_at bytes start (before ++ part) =
          p.bytes_are ∙ (ap (λ (w : List ℕ). written_at w (start + length before) part) is
          ∙ put_more bytes start before part) in
          let further : start + length before + length part ≡ start + length (before ++ part) = let l =
          length-append before part in omega (arith, l) in
          puts_rest config answers h held bytes start steps later (answer_to config tree s).1 (before ++ part)
          (step_well_formed config tree s well_formed) p.open_is way now served.2 own.3
          (subst (λ (k : ℕ). AreWrites h k later) further asks.1) said.1
          ∙ ap (written_at bytes start) (append_assoc before part (carried_bytes later)))
      | inr other ↦
          puts_rest config answers h held bytes start steps (asked ∷ later) (answer_to config tree s).1 before
          (step_well_formed config tree s well_formed) (file_stays config tree s h held other.1 open_is) way
          (other.0 ∙ is) served.2
          other.2 asks said
    ]

-- The file holds after the last WRITE what it held before the first one, with what they carry at the offset of the
-- first; zeros fill a gap.
pub deferred_writes : (config : ServerConfig) (answers : Answers) (h : List ℕ) (held : Held) (offset : ℕ)
    (steps : List Step) (first : ℕ × Request) (later : Own) (tree : FileTree) → IsWellFormed tree
    → opened_at tree h ≡ Some (opened.File held) → ToWrite held → AreServed config answers tree steps
    → StandAlone config held.file h (first ∷ later) tree steps → AreWrites h offset (first ∷ later)
    → AreWritten answers (places (first ∷ later)) → bytes_of (after config tree steps) held.file
    ≡ written_at (bytes_of tree held.file) offset (carried_bytes (first ∷ later))
deferred_writes config answers h held offset [] first later tree well_formed open_is way served stand asks said =
    absurd stand
deferred_writes config answers h held offset (s ∷ steps) first later tree well_formed open_is way served stand asks said
    =
    elim stand [
      | inl own ↦
          (let part : List ℕ = content_in first.1 in
          let p = puts config answers tree h part offset held s steps first.0 said.0.0 said.0.1.0 well_formed open_is
          way served own.0 (own.1 ∙ asks.0) said.0.1.1 in
          puts_rest config answers h held (bytes_of tree held.file) offset steps later (answer_to config tree s).1 part
          (step_well_formed config tree s well_formed) p.open_is way p.bytes_are served.2 own.3 asks.1 said.1)
      | inr other ↦
          deferred_writes config answers h held offset steps first later (answer_to config tree s).1
          (step_well_formed config tree s well_formed) (file_stays config tree s h held other.1 open_is) way
          served.2 other.2 asks said
          ∙ ap (λ (w : List ℕ). written_at w offset (carried_bytes (first ∷ later))) other.0
    ]
