-- What goes by a plan goes by any plan that is the same.
use Rattle.std.proofs.Common.{
  ◌≡◌,
  ◌+◌,
  ◌-◌,
  ◌++◌,
  ◌∙◌,
  ap,
  sym,
  refl,
  drop,
  length,
  ℕ,
  List,
  [],
  ◌∷◌,
  Option,
  Some,
  None,
  Bool,
  true,
  false,
  if◌then◌else◌,
  ◌==◌,
}
use Rattle.std.specs.Prelude.{IfOk, Result, Ok, Err}
use Rattle.std.proofs.lemmas.List.{drop-drop}
use Rattle.ssh_encoding.specs.declared.out_of_memory.OutOfMemory.{OutOfMemory}
use Rattle.sftp_model.specs.declared.outcome.Outcome.{Outcome}
use Rattle.sftp_model.specs.declared.reply.Reply.{Reply}
use Rattle.sftp_model.specs.declared.reply.Reply.TheVariants as reply
use Rattle.sftp_model.specs.declared.slot.Facts.{Facts}
use Rattle.sftp_model.specs.declared.slot.Site.{Site}
use Rattle.sftp_model.specs.declared.slot.Move.{Move}
use Rattle.sftp_model.specs.declared.slot.FileAt.{FileAt}
use Rattle.sftp_model.specs.declared.slot.Slot.{Slot}
use Rattle.sftp_model.specs.declared.slot.Slot.TheVariants.{File}
use Rattle.sftp_model.specs.Slots.{with_slot}
use Rattle.plan_model.specs.Moves.{Answers, Own, Plan, refusal_move, on_file, on_status, further, handle_of, on_handle, once_answered}
use Rattle.sftp_model.specs.declared.reply.NameEntry.{NameEntry}
use Rattle.plan_model.specs.WholePlans.{entries_next}
use Rattle.plan_model.specs.TransferPlans.{FileKeeper, missing_next, part_len, rest_next}
use Rattle.plan_runner.specs.declared.next.Next.{Next}
use Rattle.plan_runner.specs.declared.next.Next.TheVariants as step
use Rattle.plan_runner.specs.declared.next.Running.TheVariants as running
use Rattle.plan_runner.specs.Runners.{RunsByPlan, after, content_after, failure_of, request_with_handles, keep_in, refusal_of}

pub goes_as : (p q : Plan) (place : ℕ) (bytes : List ℕ) (site : Site) (facts : Facts) (n : Next)
    → ((own : Own) (answers : Answers) → q own answers ≡ p own answers) → RunsByPlan p place bytes site facts n
    → RunsByPlan q place bytes site facts n
goes_as p q place bytes site facts (step.Ask a r) same g = λ answers. (
  same [] answers ∙ (g answers).0,
  λ later. same ((place, request_with_handles a answers) ∷ later) answers
      ∙ (g answers).1 later,
)
goes_as p q place bytes site facts (step.Wait r) same g = λ answers later. same later answers ∙ g answers later
goes_as p q place bytes site facts (step.Done o) same g = λ answers. same [] answers ∙ g answers

pub goes_if_ok : (p q : Plan) (place : ℕ) (bytes : List ℕ) (site : Site) (facts : Facts) (n : Result Next OutOfMemory)
    → ((own : Own) (answers : Answers) → q own answers ≡ p own answers)
    → IfOk n (λ x. RunsByPlan p place bytes site facts x)
    → IfOk n (λ x. RunsByPlan q place bytes site facts x)
goes_if_ok p q place bytes site facts (Ok n) same g = goes_as p q place bytes site facts n same g
goes_if_ok p q place bytes site facts (Err e) same g = g

-- of a file in its slot
pub on_file_goes : (go : FileAt → Plan) (x : Slot) (file : FileAt) (old : Site) (place : ℕ) (bytes : List ℕ)
    (site : Site) (facts : Facts) (n : Next) → x ≡ File file → RunsByPlan (go file) place bytes site facts n
    → RunsByPlan (λ own answers. on_file x old (λ f. go f own answers)) place bytes site facts n
on_file_goes go x file old place bytes site facts n at g = goes_as (go file)
    (λ own answers. on_file x old (λ f. go f own answers)) place bytes site facts n
    (λ own answers. ap (λ y. on_file y old (λ f. go f own answers)) at) g

pub on_file_if_ok : (go : FileAt → Plan) (x : Slot) (file : FileAt) (old : Site) (place : ℕ) (bytes : List ℕ)
    (site : Site) (facts : Facts) (n : Result Next OutOfMemory) → x ≡ File file
    → IfOk n (λ y. RunsByPlan (go file) place bytes site facts y)
    → IfOk n (λ y. RunsByPlan (λ own answers. on_file x old (λ f. go f own answers)) place bytes site facts y)
on_file_if_ok go x file old place bytes site facts (Ok n) at g =
    on_file_goes go x file old place bytes site facts n at g
on_file_if_ok go x file old place bytes site facts (Err e) at g = g

-- a STATUS 0 lets a call go on
pub good_goes : (r : Reply) (site : Site) (go : Move) → failure_of r ≡ None → on_status r site go ≡ go
good_goes (reply.Status code message language) site go e = by_code (code == 0) e
  where
    by_code : (b : Bool) → (◌≡◌ {A = Option Outcome} (if b then None else
        Some (refusal_of (reply.Status code message language))) None)
        → (if b then go else refusal_move (reply.Status code message language) site) ≡ go
    by_code true e = refl
    by_code false e = absurd cc
good_goes r site go e = absurd cc

-- ---- the rest of what is written

rest_same : (keep : FileKeeper) (facts : Facts) (own : Own) (answers : Answers) (f g : FileAt) (b d : List ℕ)
    (x y : Site)
    → f ≡ g → b ≡ d → x ≡ y → rest_next keep f b x facts own answers ≡ rest_next keep g d y facts own answers
rest_same keep facts own answers f g b d x y ef eb ex = ap (λ z. rest_next keep z b x facts own answers) ef
    ∙ (ap (λ z. rest_next keep g z x facts own answers) eb ∙ ap (λ z. rest_next keep g d z facts own answers) ex)

pub part_goes : (awaited : ℕ) (slot : Option ℕ) (file : FileAt) (done n : ℕ) (r : Reply) (place : ℕ) (bytes : List ℕ)
    (old new : Site) (facts : Facts) (next : Next) → n ≡ part_len facts (drop done bytes)
    → new ≡ keep_in slot (further file n) old → failure_of r ≡ None
    → RunsByPlan (rest_next (keep_in slot) (further file n) (drop (done + n) bytes) new facts) place bytes new facts
    next
    → RunsByPlan (after (running.Writing awaited slot file done) bytes old facts (Some r)) place bytes new facts next
part_goes awaited slot file done n r place bytes old new facts next is at good g =
    let rest : List ℕ = drop done bytes in
    let len : ℕ = part_len facts rest in
    let left : Site = keep_in slot (further file len) old in
    let cut : drop (done + n) bytes ≡ drop len rest = ap (λ k. drop (done + k) bytes) is
    ∙ sym (drop-drop len done bytes) in
    goes_as (rest_next (keep_in slot) (further file n) (drop (done + n) bytes) new facts)
    (after (running.Writing awaited slot file done) bytes old facts (Some r)) place bytes new facts next
    (λ own answers. good_goes r old (rest_next (keep_in slot) (further file len) (drop len rest) left facts own answers)
    good
    ∙ rest_same (keep_in slot) facts own answers (further file len) (further file n) (drop len rest)
    (drop (done + n) bytes) left new (ap (λ k. further file k) (sym is)) (sym cut)
    (sym (at ∙ ap (λ k. keep_in slot (further file k) old) is))) g

-- ---- the rest of what is read

missing_same : (slot : ℕ) (facts : Facts) (own : Own) (answers : Answers) (file : FileAt) (f g : List ℕ) (a b : ℕ)
    (x y : Site) → f ≡ g → a ≡ b → x ≡ y → missing_next slot file f a x facts own answers
    ≡ missing_next slot file g b y facts own answers
missing_same slot facts own answers file f g a b x y ef ea ex =
    ap (λ z. missing_next slot file z a x facts own answers) ef
    ∙ (ap (λ z. missing_next slot file g z x facts own answers) ea
    ∙ ap (λ z. missing_next slot file g b z facts own answers) ex)

pub content_goes : (slot : ℕ) (file : FileAt) (got all content : List ℕ) (n left rest : ℕ) (place : ℕ) (bytes : List ℕ)
    (old new : Site) (facts : Facts) (next : Next) → n ≡ length content → all ≡ got ++ content → rest
    ≡ left - length content
    → new ≡ with_slot old slot (File (further file n)) → RunsByPlan
    (missing_next slot (further file n) all rest new facts) place bytes new facts next
    → RunsByPlan (content_after slot file got left content old facts) place bytes new facts next
content_goes slot file got all content n left rest place bytes old new facts next is joined less at g =
    goes_as (missing_next slot (further file n) all rest new facts) (content_after slot file got left content old facts)
    place bytes new facts next
    (λ own answers. ap (λ k. missing_next slot (further file k) (got ++ content) (left - length content)
    (with_slot old slot (File (further file k))) facts own answers) (sym is)
    ∙ missing_same slot facts own answers (further file n) (got ++ content) all (left - length content) rest
    (with_slot old slot (File (further file n))) new (sym joined) (sym less) (sym at)) g

-- ---- further entries

entries_same : (handle : List ℕ) (f g : List NameEntry) (a b : ℕ) (site : Site) (own : Own) (answers : Answers) → f ≡ g
    → a ≡ b → entries_next handle f a site own answers ≡ entries_next handle g b site own answers
entries_same handle f g a b site own answers ef ea = ap (λ z. entries_next handle z a site own answers) ef
    ∙ ap (λ z. entries_next handle g z site own answers) ea

pub names_goes : (awaited grant : ℕ) (got names all : List NameEntry) (bound less : ℕ) (place : ℕ) (bytes : List ℕ)
    (site : Site) (facts : Facts) (next : Next) → (length names == 0) ≡ false → all ≡ got ++ names → less ≡ bound - 1
    → RunsByPlan (λ own answers. entries_next (handle_of (answers grant)) all less site own answers) place bytes site
    facts next
    → RunsByPlan (after (running.Listing awaited grant got bound) bytes site facts (Some (reply.Names names))) place
    bytes site facts next
names_goes awaited grant got [] all bound less place bytes site facts next some joined is g = absurd cc
names_goes awaited grant got (entry ∷ entries) all bound less place bytes site facts next some joined is g =
    goes_as (λ own answers. entries_next (handle_of (answers grant)) all less site own answers)
    (after (running.Listing awaited grant got bound) bytes site facts (Some (reply.Names (entry ∷ entries)))) place
    bytes site facts next
    (λ own answers. entries_same (handle_of (answers grant)) (got ++ entry ∷ entries) all (bound - 1) less site own
    answers (sym joined) (sym is)) g

-- ---- a call that opens first

-- the handle that a HANDLE brought is the one that its grant names
pub opened_by_answer : (place : ℕ) (site : Site) (go : List ℕ → Move) (x : Option Reply)
    → once_answered place x (λ r. on_handle r site go) ≡ once_answered place x
    (λ r. on_handle r site (λ handle. go (handle_of x)))
opened_by_answer place site go None = refl
opened_by_answer place site go (Some (reply.Handle handle)) = refl
opened_by_answer place site go (Some other) = refl
