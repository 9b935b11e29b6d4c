-- Where each request bears the handle of a grant, and none bears it after the grant's CLOSE, the handle has what that
-- grant opened.
use Rattle.std.proofs.Common.{◌≡◌, ◌≢◌, ℕ, ◌==◌, true, List, [], ◌∷◌, Option, Some, None, if◌then◌else◌, refl, ap, sym, ◌∙◌, subst, inl, inr}
use Rattle.std.specs.Prelude.{◌⊎◌}
use Rattle.std.specs.Str.{bytes_eq}
use Rattle.std.proofs.lemmas.Bool.{eq-eqb, ne_eqb}
use Rattle.sftp_model.specs.Answers.{is_handle}
use Rattle.sftp_model.specs.declared.config.ServerConfig.{ServerConfig}
use Rattle.sftp_model.specs.declared.reply.Reply.TheVariants as reply
use Rattle.sftp_model.specs.declared.request.Request.{Request}
use Rattle.machine_model.proofs.ChangeLaws.{apply_leaves}
use Rattle.machine_model.proofs.NameLaws.{handles_tell}
use Rattle.machine_model.proofs.PairLaws.{found_push_here}
use Rattle.machine_model.specs.Changes.{Change, ClosesHandle, Created, Granted, MayLead, OpensAsked, Truncated, tree_after_change, is_grant}
use Rattle.machine_model.specs.FileTree.{FileTree, opened_at}
use Rattle.machine_model.specs.Pairs.{HasEntry}
use Rattle.machine_model.specs.declared.opened.Held.{Held}
use Rattle.machine_model.specs.declared.opened.Opened.{Opened}
use Rattle.plan_model.specs.Moves.{Answers, handle_of}
use Rattle.run_laws.specs.GrantUses.{IsUsed, UseGrants}
use Rattle.run_laws.specs.Steps.{Step, answer_to, AreDistinct, AreServed, HasPlace}
use Rattle.run_laws.proofs.HandleLaws.{kind_at, kind_stays}
use Rattle.run_laws.proofs.MoveWords.{handle_in}
use Rattle.run_laws.proofs.StepLaws.{reply_is}

-- what each grant opened, as its step leaves it
abbrev pub AreKinds : ServerConfig → Answers → (ℕ → Option Held) → FileTree → List Step → Type 0
AreKinds config answers kind tree [] = Unit {0}
AreKinds config answers kind tree (s ∷ steps) =
    ((h : List ℕ) → answers s.place ≡ Some (reply.Handle h) → kind_at (opened_at (answer_to config tree s).1 h)
    ≡ Some (kind s.place)) × AreKinds config answers kind (answer_to config tree s).1 steps

-- a request that bears a grant's handle finds by it what the grant opened
abbrev pub AreBorne : ServerConfig → Answers → (ℕ → Option ℕ) → (ℕ → Option Held) → FileTree → List Step → Type 0
AreBorne config answers grant_of kind tree [] = Unit {0}
AreBorne config answers grant_of kind tree (s ∷ steps) =
    ((g : ℕ) → grant_of s.place ≡ Some g → kind_at (opened_at tree (handle_of (answers g))) ≡ Some (kind g))
    × AreBorne config answers grant_of kind (answer_to config tree s).1 steps

-- of the grants that are still used: each has what it opened, and no two have one handle
record AreLive (answers : Answers) (grant_of : ℕ → Option ℕ) (kind : ℕ → Option Held) (tree : FileTree) (seen : List ℕ)
    (steps : List Step) : Type 0 where
  has : (g : ℕ) → HasEntry seen g → IsUsed grant_of g steps → kind_at (opened_at tree (handle_of (answers g)))
      ≡ Some (kind g)
  apart : (a b : ℕ) → HasEntry seen a → HasEntry seen b → IsUsed grant_of a steps → IsUsed grant_of b steps
      → handle_of (answers a) ≡ handle_of (answers b) → a ≡ b

-- a step doesn't close the handle of a grant that is used after it
keeps_open : (config : ServerConfig) (answers : Answers) (grant_of : ℕ → Option ℕ) (kind : ℕ → Option Held)
    (tree : FileTree) (seen : List ℕ) (s : Step) (steps : List Step)
    → AreLive answers grant_of kind tree seen (s ∷ steps)
    → UseGrants answers grant_of seen (s ∷ steps) → (g : ℕ) → HasEntry seen g → IsUsed grant_of g steps
    → ClosesHandle s.request (handle_of (answers g)) → ⊥
keeps_open config answers grant_of kind tree seen s steps live uses g there used closes =
    let closed = uses.1 (handle_of (answers g)) closes in
    let same : closed.0 ≡ g = live.apart closed.0 g (uses.0 closed.0 closed.1.0) there (inl closed.1.0) (inr used)
    closed.1.1.0 in
    closed.1.1.1 (subst (λ (w : ℕ). IsUsed grant_of w steps) (sym same) used)

-- the handle of a new grant was not open
pub new_handle : (config : ServerConfig) (answers : Answers) (tree : FileTree) (s : Step) (steps : List Step)
    → AreServed config answers tree (s ∷ steps) → (h : List ℕ) → answers s.place ≡ Some (reply.Handle h)
    → opened_at tree h ≡ None
new_handle config answers tree s steps served h e =
    let said : reply.Handle h ≡ (answer_to config tree s).0 = reply_is (answers s.place) (reply.Handle h)
    (answer_to config tree s).0 e served.1 in
    let l = apply_leaves tree config s.request s.choice s.handle in
    let same : h ≡ s.handle = ap handle_in (said ∙ l.named (sym (ap is_handle said))) in
    subst (λ (w : List ℕ). opened_at tree w ≡ None) (sym same) served.0.1

not_none : (tree : FileTree) (h : List ℕ) (k : Option Held) → opened_at tree h ≡ None → kind_at (opened_at tree h)
    ≡ Some k → ⊥
not_none tree h k e is = (let both : None ≡ Some k = sym (ap kind_at e) ∙ is in cc)

live_on : (config : ServerConfig) (answers : Answers) (grant_of : ℕ → Option ℕ) (kind : ℕ → Option Held)
    (tree : FileTree) (seen : List ℕ) (s : Step) (steps : List Step) → AreServed config answers tree (s ∷ steps)
    → UseGrants answers grant_of seen (s ∷ steps) → AreKinds config answers kind tree (s ∷ steps)
    → AreLive answers grant_of kind tree seen (s ∷ steps) → AreLive answers grant_of kind
    (answer_to config tree s).1 (s.place ∷ seen) steps
live_on config answers grant_of kind tree seen s steps served uses kinds live = record { has = has; apart = apart }
  where
    has : (g : ℕ) → (s.place ≡ g) ⊎ HasEntry seen g → IsUsed grant_of g steps
        → kind_at (opened_at (answer_to config tree s).1 (handle_of (answers g))) ≡ Some (kind g)
    has g (inl here) used =
        (let new = uses.2 (subst (λ (w : ℕ). IsUsed grant_of w steps) (sym here) used) in
        subst (λ (w : ℕ). kind_at (opened_at (answer_to config tree s).1 (handle_of (answers w))) ≡ Some (kind w)) here
        (subst (λ (w : List ℕ). kind_at (opened_at (answer_to config tree s).1 w) ≡ Some (kind s.place))
        (sym (ap handle_of new.1)) (kinds.0 new.0 new.1)))
    has g (inr there) used = kind_stays config tree s (handle_of (answers g)) (kind g)
        (keeps_open config answers grant_of kind tree seen s steps live uses g there used) (live.has g there (inr used))

    clash : (a b : ℕ) → s.place ≡ a → HasEntry seen b → IsUsed grant_of a steps → IsUsed grant_of b steps
        → handle_of (answers a) ≡ handle_of (answers b) → ⊥
    clash a b here there used used' same =
        (let new = uses.2 (subst (λ (w : ℕ). IsUsed grant_of w steps) (sym here) used) in
        let none : opened_at tree new.0 ≡ None = new_handle config answers tree s steps served new.0 new.1 in
        let is : new.0 ≡ handle_of (answers b) = sym (ap handle_of new.1)
        ∙ (ap (λ (w : ℕ). handle_of (answers w)) here ∙ same) in
        not_none tree (handle_of (answers b)) (kind b) (subst (λ (w : List ℕ). opened_at tree w ≡ None) is none)
        (live.has b there (inr used')))

    apart : (a b : ℕ) → (s.place ≡ a) ⊎ HasEntry seen a → (s.place ≡ b) ⊎ HasEntry seen b → IsUsed grant_of a steps
        → IsUsed grant_of b steps → handle_of (answers a) ≡ handle_of (answers b) → a ≡ b
    apart a b (inl here) (inl here') used used' same = sym here ∙ here'
    apart a b (inl here) (inr there) used used' same = absurd (clash a b here there used used' same)
    apart a b (inr there) (inl here) used used' same = absurd (clash b a here there used' used (sym same))
    apart a b (inr there) (inr there') used used' same = live.apart a b there there' (inr used) (inr used') same

borne_by : (config : ServerConfig) (answers : Answers) (grant_of : ℕ → Option ℕ) (kind : ℕ → Option Held)
    (tree : FileTree) (seen : List ℕ) (steps : List Step) → AreServed config answers tree steps
    → UseGrants answers grant_of seen steps → AreKinds config answers kind tree steps
    → AreLive answers grant_of kind tree seen steps → AreBorne config answers grant_of kind tree steps
borne_by config answers grant_of kind tree seen [] served uses kinds live = tt
borne_by config answers grant_of kind tree seen (s ∷ steps) served uses kinds live = (
  λ g e. live.has g (uses.0 g e) (inl e),
  borne_by config answers grant_of kind (answer_to config tree s).1 (s.place ∷ seen) steps served.2 uses.3 kinds.1
      (live_on config answers grant_of kind tree seen s steps served uses kinds live),
)

-- from a tree on which nothing that is used was granted
pub grants_are_borne : (config : ServerConfig) (answers : Answers) (grant_of : ℕ → Option ℕ) (kind : ℕ → Option Held)
    (tree : FileTree) (steps : List Step) → AreServed config answers tree steps
    → UseGrants answers grant_of [] steps → AreKinds config answers kind tree steps
    → AreBorne config answers grant_of kind tree steps
grants_are_borne config answers grant_of kind tree steps served uses kinds =
    borne_by config answers grant_of kind tree [] steps served uses kinds
    (record { has = λ g there used. absurd there; apart = λ a b there there' used used' same. absurd there })

-- a step closes no grant's handle that a later step bears, and bears it as that grant's alone
abbrev pub AreKept : Answers → (ℕ → Option ℕ) → List ℕ → List Step → Type 0
AreKept answers grant_of seen [] = Unit {0}
AreKept answers grant_of seen (s ∷ steps) =
    ((g : ℕ) → HasEntry seen g → IsUsed grant_of g steps
    → (ClosesHandle s.request (handle_of (answers g)) → ⊥) × ((other : ℕ) → grant_of s.place ≡ Some other
    → handle_of (answers other) ≡ handle_of (answers g) → other ≡ g))
    × AreKept answers grant_of (s.place ∷ seen) steps

kept_by : (config : ServerConfig) (answers : Answers) (grant_of : ℕ → Option ℕ) (kind : ℕ → Option Held)
    (tree : FileTree) (seen : List ℕ) (steps : List Step) → AreServed config answers tree steps
    → UseGrants answers grant_of seen steps → AreKinds config answers kind tree steps
    → AreLive answers grant_of kind tree seen steps → AreKept answers grant_of seen steps
kept_by config answers grant_of kind tree seen [] served uses kinds live = tt
kept_by config answers grant_of kind tree seen (s ∷ steps) served uses kinds live = (
  λ g there used. (
    keeps_open config answers grant_of kind tree seen s steps live uses g there used,
    λ other is same. live.apart other g (uses.0 other is) there (inl is) (inr used) same,
  ),
  kept_by config answers grant_of kind (answer_to config tree s).1 (s.place ∷ seen) steps served.2 uses.3 kinds.1
      (live_on config answers grant_of kind tree seen s steps served uses kinds live),
)

pub grants_are_kept : (config : ServerConfig) (answers : Answers) (grant_of : ℕ → Option ℕ) (kind : ℕ → Option Held)
    (tree : FileTree) (steps : List Step) → AreServed config answers tree steps
    → UseGrants answers grant_of [] steps → AreKinds config answers kind tree steps → AreKept answers grant_of [] steps
grants_are_kept config answers grant_of kind tree steps served uses kinds =
    kept_by config answers grant_of kind tree [] steps served uses kinds
    (record { has = λ g there used. absurd there; apart = λ a b there there' used used' same. absurd there })

-- ---- what each grant opened

abbrev pub inside : Option (Option Held) → Option Held
inside None = None
inside (Some k) = k

-- what the step at a place opened
abbrev pub kinds_of : ServerConfig → FileTree → List Step → ℕ → Option Held
kinds_of config tree [] place = None
kinds_of config tree (s ∷ steps) place = if s.place == place then
    inside (kind_at (opened_at (answer_to config tree s).1 s.handle)) else
    kinds_of config (answer_to config tree s).1 steps place

grant_opens : (tree : FileTree) (r : Request) (handle : List ℕ) (c : Change) → opened_at tree handle ≡ None → is_grant c
    ≡ true → MayLead tree r c → (o : Opened) × (opened_at (tree_after_change tree handle c) handle ≡ Some o)
    × OpensAsked r o
grant_opens tree r handle (Granted o) none e may =
    (o, found_push_here bytes_eq tree.handles handle o ((handles_tell handle handle).1 refl) none, may.1)
grant_opens tree r handle (Truncated file o) none e may =
    (o, found_push_here bytes_eq tree.handles handle o ((handles_tell handle handle).1 refl) none, may.3)
grant_opens tree r handle (Created name o) none e may =
    (o, found_push_here bytes_eq tree.handles handle o ((handles_tell handle handle).1 refl) none, may.3)
grant_opens tree r handle other none e may = absurd cc

-- what a step that is granted a handle opened, as its request asked
pub step_opened : (config : ServerConfig) (tree : FileTree) (s : Step) → opened_at tree s.handle ≡ None
    → is_handle (answer_to config tree s).0 ≡ true → (o : Opened)
    × (opened_at (answer_to config tree s).1 s.handle ≡ Some o) × OpensAsked s.request o
step_opened config tree s none e =
    let l = apply_leaves tree config s.request s.choice s.handle in
    let p = grant_opens tree s.request s.handle l.change none (sym l.said ∙ e) l.may in
    (p.0, ap (λ (w : FileTree). opened_at w s.handle) l.is ∙ p.1, p.2)

known : (x : Option Opened) (o : Opened) → x ≡ Some o → kind_at x ≡ Some (inside (kind_at x))
known x o e = ap kind_at e ∙ ap (λ (w : Option Opened). Some (inside (kind_at w))) (sym e)

pub kinds_as : (config : ServerConfig) (answers : Answers) (kind : ℕ → Option Held) (tree : FileTree)
    (steps : List Step) → ((place : ℕ) → HasPlace steps place → kind place ≡ kinds_of config tree steps place)
    → AreDistinct steps
    → AreServed config answers tree steps → AreKinds config answers kind tree steps
kinds_as config answers kind tree [] same distinct served = tt
kinds_as config answers kind tree (s ∷ steps) same distinct served = (
  λ h e.
      (let said = reply_is (answers s.place) (reply.Handle h) (answer_to config tree s).0 e served.1 in
      let l = apply_leaves tree config s.request s.choice s.handle in
      let here : h ≡ s.handle = ap handle_in (said ∙ l.named (sym (ap is_handle said))) in
      let o = step_opened config tree s served.0.1 (sym (ap is_handle said)) in
      let first : kind s.place ≡ inside (kind_at (opened_at (answer_to config tree s).1 s.handle)) =
      same s.place (inl refl) ∙ first_kind s.place in
      subst (λ (w : List ℕ). kind_at (opened_at (answer_to config tree s).1 w) ≡ Some (kind s.place)) (sym here)
      (known (opened_at (answer_to config tree s).1 s.handle) o.0 o.1
      ∙ ap (λ (w : Option Held). Some w) (sym first))),
  kinds_as config answers kind (answer_to config tree s).1 steps
      (λ place there. same place (inr there) ∙ later_kind place (distinct.0 place there)) distinct.1 served.2,
)
  where
    first_kind : (place : ℕ) → (if place == place then inside (kind_at (opened_at (answer_to config tree s).1 s.handle))
        else kinds_of config (answer_to config tree s).1 steps place)
        ≡ inside (kind_at (opened_at (answer_to config tree s).1 s.handle))
    first_kind place = rw (eq-eqb place place refl) refl

    later_kind : (place : ℕ) → s.place ≢ place
        → (if s.place == place then inside (kind_at (opened_at (answer_to config tree s).1 s.handle)) else
        kinds_of config (answer_to config tree s).1 steps place)
        ≡ kinds_of config (answer_to config tree s).1 steps place
    later_kind place ne = rw (ne_eqb s.place place ne) refl
