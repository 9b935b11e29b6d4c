-- What READs bring of a file that stays as it is.
use Rattle.std.proofs.Common.{
  ◌≡◌,
  ◌≢◌,
  ℕ,
  ◌<◌,
  ◌≤◌,
  ◌-◌,
  Bool,
  true,
  false,
  List,
  [],
  ◌∷◌,
  length,
  take,
  drop,
  Option,
  Some,
  None,
  if◌then◌else◌,
  refl,
  ap,
  sym,
  ◌∙◌,
  subst,
  arith,
  inl,
  inr,
}
use Rattle.std.specs.Prelude.{◌⊎◌, nat_le, min}
use Rattle.std.proofs.lemmas.Bool.{ne_eqb}
use Rattle.std.proofs.lemmas.Bool.Decides.{eqb_tells, nat_tests}
use Rattle.std.proofs.lemmas.List.{length-drop, length-take, take-append-drop}
use Rattle.sftp_model.specs.Numbers.{SSH_FX_EOF, SSH_FX_OK}
use Rattle.sftp_model.specs.declared.config.Choice.{Choice}
use Rattle.sftp_model.specs.declared.config.ServerConfig.{ServerConfig}
use Rattle.sftp_model.specs.declared.reply.Reply.{Reply}
use Rattle.sftp_model.specs.declared.reply.Reply.TheVariants as reply
use Rattle.sftp_model.specs.declared.request.Request.{Request}
use Rattle.sftp_model.specs.declared.request.Request.TheVariants as request
use Rattle.machine_model.specs.Changes.{IsWellFormed}
use Rattle.machine_model.specs.Components.{Name}
use Rattle.machine_model.specs.FileTree.{FileTree, bytes_of, opened_at, size_of}
use Rattle.machine_model.specs.HandleRequests.{Answer, after_read, capped_at, refusal_answer}
use Rattle.machine_model.specs.TreeAnswers.{tree_answer, apply}
use Rattle.machine_model.specs.declared.opened.Held.{Held}
use Rattle.machine_model.specs.declared.opened.Opened.TheVariants as opened
use Rattle.plan_model.specs.Moves.{Answers, Own}
use Rattle.plan_model.specs.WindowPlans.{begins}
use Rattle.session_model.specs.Served.{IsReply}
use Rattle.run_laws.specs.CallsAmong.{IsOpenTo, AreAmongSteps, ToRead}
use Rattle.run_laws.specs.Steps.{Step, answer_to, AreServed, ChooseOnly}
use Rattle.run_laws.proofs.PieceLaws.{IsPiece}
use Rattle.run_laws.proofs.StepLaws.{refused_as, step_well_formed}
use Rattle.run_laws.proofs.WriteLaws.{answers_as, step_open}

-- ---- each READ brings what stands at its offset, or says that nothing does

abbrev pub IsPart : List ℕ → ℕ → Reply → Type 0
IsPart bytes offset (reply.Content part) = IsPiece bytes (offset, part)
IsPart bytes offset (reply.Status code message language) = (code ≡ SSH_FX_EOF) × (length bytes ≤ offset)
IsPart bytes offset other = ⊥

-- so far as it was taken
abbrev pub IsTakenPart : List ℕ → ℕ → Option Reply → Type 0
IsTakenPart bytes offset None = Unit {0}
IsTakenPart bytes offset (Some r) = IsPart bytes offset r

-- one of these choices refused it
pub record IsRefusal (allowed : Choice → Type 0) (r : Reply) : Type 0 where
  pub choice : Choice
  pub is : allowed choice
  pub refuses : choice.refuse ≢ SSH_FX_OK
  pub said : r ≡ reply.Status choice.refuse [] []

abbrev pub IsPartOrRefused : (Choice → Type 0) → List ℕ → ℕ → Reply → Type 0
IsPartOrRefused allowed bytes offset r = IsPart bytes offset r ⊎ IsRefusal allowed r

abbrev pub IsTakenSo : (Choice → Type 0) → List ℕ → ℕ → Option Reply → Type 0
IsTakenSo allowed bytes offset None = Unit {0}
IsTakenSo allowed bytes offset (Some r) = IsPartOrRefused allowed bytes offset r

-- the request is a READ of some bytes by the handle
pub record IsRead (handle : List ℕ) (r : Request) : Type 0 where
  pub offset : ℕ
  pub len : ℕ
  pub is : r ≡ request.Read handle offset len
  pub some : 0 < len

abbrev pub AreReads : List ℕ → Own → Type 0
AreReads handle [] = Unit {0}
AreReads handle (asked ∷ later) = IsRead handle asked.1 × AreReads handle later

abbrev pub AreParts : List ℕ → Own → Answers → Type 0
AreParts bytes [] answers = Unit {0}
AreParts bytes (asked ∷ later) answers = IsTakenPart bytes (begins asked) (answers asked.0)
    × AreParts bytes later answers

abbrev pub AreTakenSo : (Choice → Type 0) → List ℕ → Own → Answers → Type 0
AreTakenSo allowed bytes [] answers = Unit {0}
AreTakenSo allowed bytes (asked ∷ later) answers = IsTakenSo allowed bytes (begins asked) (answers asked.0)
    × AreTakenSo allowed bytes later answers

-- ---- one READ

answers_read : (tree : FileTree) (config : ServerConfig) (h : List ℕ) (offset len cap : ℕ) (handle : List ℕ)
    (held : Held) → opened_at tree h ≡ Some (opened.File held)
    → tree_answer tree config (request.Read h offset len) cap handle ≡ after_read tree cap offset len (Some held)
answers_read tree config h offset len cap handle held e = rw e refl

-- what a READ answers and leaves
record Reads (tree : FileTree) (bytes : List ℕ) (offset : ℕ) (x : Answer) : Type 0 where
  part : IsPart bytes offset x.0
  leaves : x.1 ≡ tree

record ReadsSo (allowed : Choice → Type 0) (tree : FileTree) (bytes : List ℕ) (offset : ℕ) (x : Answer) : Type 0 where
  part : IsPartOrRefused allowed bytes offset x.0
  leaves : x.1 ≡ tree

some_let_through : (cap len : ℕ) → 0 < len → 1 ≤ capped_at cap len
some_let_through cap len some = grind (arith, nat_tests)

part_is : (bytes : List ℕ) (cap offset len : ℕ) → 0 < len → offset < length bytes
    → IsPiece bytes (offset, take (capped_at cap len) (drop offset bytes))
part_is bytes cap offset len some lt = (
  (let n = some_let_through cap len some in
      let a : length (take (capped_at cap len) (drop offset bytes))
      ≡ min (capped_at cap len) (length (drop offset bytes)) =
      length-take (capped_at cap len) (drop offset bytes) in
      let b : length (drop offset bytes) ≡ length bytes - offset = length-drop offset bytes in
      omega (arith, n, a, b, lt)),
  (drop (capped_at cap len) (drop offset bytes), sym (take-append-drop (capped_at cap len) (drop offset bytes))),
)

reads : (tree : FileTree) (cap offset len : ℕ) (held : Held) (bytes : List ℕ) → held.readable ≡ true → 0 < len
    → bytes_of tree held.file ≡ bytes → Reads tree bytes offset (after_read tree cap offset len (Some held))
reads tree cap offset len held bytes way some is =
    rw (way, ne_eqb len 0 (λ none. omega (arith, none, some))) (by_test (nat_le (size_of tree held.file) offset) refl)
  where
    size_is : length (bytes_of tree held.file) ≡ length bytes
    size_is = ap length is

    by_test : (b : Bool) → nat_le (size_of tree held.file) offset ≡ b
        → Reads tree bytes offset (if b then refusal_answer tree SSH_FX_EOF else
        (reply.Content (take (capped_at cap len) (drop offset (bytes_of tree held.file))), tree))
    by_test true e =
        record {
          part = (
            refl,
            let le : size_of tree held.file ≤ offset = grind (arith, nat_tests) in
                let same : size_of tree held.file ≡ length bytes = size_is in omega (arith, le, same),
          );
          leaves = refl;
        }
    by_test false e =
        record {
          part = subst (λ (w : List ℕ). IsPiece bytes (offset, take (capped_at cap len) (drop offset w))) (sym is)
              (part_is bytes cap offset len some
              (let lt : offset < size_of tree held.file = grind (arith, nat_tests) in let same : size_of tree held.file
              ≡ length bytes = size_is in omega (arith, lt, same)));
          leaves = refl;
        }

step_reads : (config : ServerConfig) (tree : FileTree) (name : Name) (h bytes : List ℕ) (offset len : ℕ) (s : Step)
    → IsOpenTo ToRead tree name h bytes → s.request ≡ request.Read h offset len → 0 < len
    → s.choice.refuse ≡ SSH_FX_OK → Reads tree bytes offset (answer_to config tree s)
step_reads config tree name h bytes offset len s has asks some unrefused =
    let is : answer_to config tree s ≡ after_read tree s.choice.cap offset len (Some has.held) =
    ap (λ (w : Request). apply tree config w s.choice s.handle) asks
    ∙ (answers_as tree config (request.Read h offset len) s.choice s.handle unrefused
    ∙ answers_read tree config h offset len s.choice.cap s.handle has.held has.opened_is)
    in
    subst (Reads tree bytes offset) (sym is) (reads tree s.choice.cap offset len has.held bytes has.open_so some
    (ap (bytes_of tree) has.same ∙ has.bytes_are))

-- and where one of these choices may have refused it
step_reads_so : (allowed : Choice → Type 0) (config : ServerConfig) (tree : FileTree) (name : Name) (h bytes : List ℕ)
    (offset len : ℕ) (s : Step) → IsOpenTo ToRead tree name h bytes → s.request ≡ request.Read h offset len → 0 < len
    → allowed s.choice → ReadsSo allowed tree bytes offset (answer_to config tree s)
step_reads_so allowed config tree name h bytes offset len s has asks some may =
    elim (eqb_tells s.choice.refuse SSH_FX_OK) [
      | inl t ↦ (let read = step_reads config tree name h bytes offset len s has asks some t.1 in
          record { part = inl read.part; leaves = read.leaves })
      | inr t ↦
          (let is : answer_to config tree s ≡ refusal_answer tree s.choice.refuse =
          refused_as tree config s.request s.choice s.handle t.0 in
          record {
            part = inr (record {
              choice = s.choice;
              is = may;
              refuses = t.1;
              said =
                  ap (λ (w : Answer). w.0) is;
            });
            leaves = ap (λ (w : Answer). w.1) is;
          })
    ]

taken_so : (allowed : Choice → Type 0) (bytes : List ℕ) (offset : ℕ) (o : Option Reply) (x : Reply) → IsReply o x
    → IsPartOrRefused allowed bytes offset x → IsTakenSo allowed bytes offset o
taken_so allowed bytes offset None x is part = tt
taken_so allowed bytes offset (Some r) x is part = subst (IsPartOrRefused allowed bytes offset) (sym is) part

-- ---- the READs of a call

-- They stand in a run of the machine in their order, whatever their offsets are, and all others spare the name: each
-- reply that was taken is a part of the file, or one of these choices refused its READ.
pub reads_parts : (allowed : Choice → Type 0) (config : ServerConfig) (answers : Answers) (name : Name)
    (h bytes : List ℕ) (steps : List Step) (own : Own) (tree : FileTree) → ChooseOnly allowed steps → IsWellFormed tree
    → IsOpenTo ToRead tree name h bytes
    → AreServed config answers tree steps → AreAmongSteps config name h own tree steps → AreReads h own
    → AreTakenSo allowed bytes own answers
reads_parts allowed config answers name h bytes steps [] tree chosen well_formed has served stand asks = tt
reads_parts allowed config answers name h bytes [] (asked ∷ later) tree chosen well_formed has served stand asks =
    absurd stand
reads_parts allowed config answers name h bytes (s ∷ steps) (asked ∷ later) tree chosen well_formed has served stand
    asks =
    elim stand [
      | inl own ↦
          (let is = asks.0.is in
          let read = step_reads_so allowed config tree name h bytes asks.0.offset asks.0.len s has (own.1 ∙ is)
          asks.0.some chosen.0 in
          let part : IsTakenSo allowed bytes asks.0.offset (answers asked.0) =
          subst (λ (w : ℕ). IsTakenSo allowed bytes asks.0.offset (answers w)) own.0
          (taken_so allowed bytes asks.0.offset (answers s.place) (answer_to config tree s).0 served.1 read.part) in
          let at : begins asked ≡ asks.0.offset = ap (λ (w : Request). begins (asked.0, w)) is in (
            subst (λ (w : ℕ). IsTakenSo allowed bytes w (answers asked.0)) (sym at) part,
            reads_parts allowed config answers name h bytes steps later (answer_to config tree s).1 chosen.1
                (step_well_formed config tree s well_formed)
                (subst (λ (w : FileTree). IsOpenTo ToRead w name h bytes) (sym read.leaves) has) served.2 own.2 asks.1,
          ))
      | inr other ↦
          reads_parts allowed config answers name h bytes steps (asked ∷ later) (answer_to config tree s).1 chosen.1
          (step_well_formed config tree s well_formed) (step_open ToRead config name h bytes tree s well_formed
          other.0 other.1 has) served.2
          other.2 asks
    ]
