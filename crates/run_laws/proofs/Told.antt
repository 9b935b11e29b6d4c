-- What a machine tells that numbers its handles by its grants: the requests, the choices and the first tree fix it.
use Rattle.std.proofs.Common.{
  ◌≡◌,
  ◌<◌,
  ◌==◌,
  ℕ,
  suc,
  ◌+◌,
  Bool,
  true,
  false,
  List,
  [],
  ◌∷◌,
  ◌++◌,
  Option,
  Some,
  None,
  refl,
  ap,
  sym,
  ◌∙◌,
  subst,
  arith,
  if◌then◌else◌,
  inl,
  inr,
}
use Rattle.std.specs.Prelude.{◌⊎◌, ◌&&◌, not, length, drop}
use Rattle.std.proofs.lemmas.Bool.Decides.{eqb_tells}
use Rattle.ssh_encoding.specs.Writing.{uint32}
use Rattle.sftp_model.specs.declared.config.Choice.{Choice}
use Rattle.sftp_model.specs.declared.config.ServerConfig.{ServerConfig}
use Rattle.sftp_model.specs.declared.request.Request.{Request}
use Rattle.sftp_model.specs.declared.request.Request.TheVariants as request
use Rattle.sftp_model.specs.declared.reply.Reply.{Reply}
use Rattle.sftp_model.specs.declared.reply.Reply.TheVariants as reply
use Rattle.sftp_model.specs.Answers.{is_handle}
use Rattle.sftp_model.specs.Numbers.{SSH_FX_OK}
use Rattle.machine_model.specs.declared.node.Node.{Node}
use Rattle.machine_model.specs.declared.node.Node.TheVariants as node
use Rattle.machine_model.specs.Components.{Name, components, is_long_name, parent_of}
use Rattle.machine_model.specs.FileTree.{FileTree, is_directory, node_at}
use Rattle.machine_model.specs.HandleRequests.{Answer, after_open, creates, is_exclusive, truncates}
use Rattle.machine_model.specs.NameRequests.{after_opendir}
use Rattle.machine_model.specs.TreeAnswers.{tree_answer, apply, first_choice, limits_reply}
use Rattle.machine_model.proofs.ChangeLaws.{apply_leaves}
use Rattle.session_model.specs.declared.entry.Entry.{Entry}
use Rattle.session_model.specs.Readings.{answer, count_below}
use Rattle.session_model.specs.Grants.{is_granted, is_grant}
use Rattle.session_model.specs.Served.{IsNumbered, IsReply, ServesAll}

-- ---- what is granted nothing is answered alike, whatever handle it was to be granted

abbrev Agrees : Answer → Answer → Type 0
Agrees x y = (x ≡ y) ⊎ (is_handle x.0 ≡ true)

either : (b : Bool) (x y u v : Answer) → Agrees x y → Agrees u v → Agrees (if b then x else u) (if b then y else v)
either true x y u v h k = h
either false x y u v h k = k

open_agrees : (tree : FileTree) (h k : List ℕ) (flags : ℕ) (name : Name) (n : Option Node)
    → Agrees (after_open tree h flags name n) (after_open tree k flags name n)
open_agrees tree h k flags name (Some node.Directory) = inl refl
open_agrees tree h k flags name (Some (node.File file)) =
    either (creates flags && is_exclusive flags) _ _ _ _ (inl refl)
    (either (truncates flags) _ _ _ _ (inr refl) (inr refl))
open_agrees tree h k flags name None =
    either (not (creates flags)) _ _ _ _ (inl refl) (either (not (is_directory (node_at tree (parent_of name)))) _ _ _ _
    (inl refl) (either (is_long_name name) _ _ _ _ (inl refl) (inr refl)))

opendir_agrees : (tree : FileTree) (h k : List ℕ) (name : Name) (n : Option Node)
    → Agrees (after_opendir tree h name n) (after_opendir tree k name n)
opendir_agrees tree h k name None = inl refl
opendir_agrees tree h k name (Some (node.File file)) = inl refl
opendir_agrees tree h k name (Some node.Directory) = inr refl

answered_agrees : (tree : FileTree) (config : ServerConfig) (r : Request) (cap : ℕ) (h k : List ℕ)
    → Agrees (tree_answer tree config r cap h) (tree_answer tree config r cap k)
answered_agrees tree config (request.OpenFile path flags attrs) cap h k =
    open_agrees tree h k flags.0 (components path) (node_at tree (components path))
answered_agrees tree config (request.Opendir path) cap h k =
    opendir_agrees tree h k (components path) (node_at tree (components path))
answered_agrees tree config (_) cap h k = inl refl

apply_agrees : (tree : FileTree) (config : ServerConfig) (r : Request) (choice : Choice) (h k : List ℕ)
    → Agrees (apply tree config r choice h) (apply tree config r choice k)
apply_agrees tree config r choice h k = either (choice.refuse == SSH_FX_OK) _ _ _ _
    (answered_agrees tree config r choice.cap h k) (inl refl)

-- ---- the machine's answers, the handles numbered

-- the answer to a request behind so many grants
abbrev told : ServerConfig → FileTree → List Choice → ℕ → Request → Answer
told config tree choices granted r = apply tree config r (first_choice choices) (uint32 granted)

abbrev granted_by : Answer → ℕ → ℕ
granted_by answer granted = (if is_handle answer.0 then 1 else 0) + granted

-- the reply to the request at a place
abbrev pub reply_at : ServerConfig → FileTree → List Choice → ℕ → List (ℕ × Request) → ℕ → Reply
reply_at config tree choices granted [] place = limits_reply config.limits
reply_at config tree choices granted (r ∷ requests) place =
    if r.0 == place then (told config tree choices granted r.1).0
    else reply_at config (told config tree choices granted r.1).1 (drop 1 choices)
    (granted_by (told config tree choices granted r.1) granted) requests place

-- the tree behind these requests
abbrev pub tree_left : ServerConfig → FileTree → List Choice → ℕ → List (ℕ × Request) → FileTree
tree_left config tree choices granted [] = tree
tree_left config tree choices granted (r ∷ requests) =
    tree_left config (told config tree choices granted r.1).1 (drop 1 choices)
    (granted_by (told config tree choices granted r.1) granted) requests

-- one of the requests stands at the place
abbrev pub Has : ℕ → List (ℕ × Request) → Type 0
Has place [] = ⊥
Has place (r ∷ requests) = (r.0 ≡ place) ⊎ Has place requests

-- the requests stand one behind another from a place on
abbrev pub From : ℕ → List (ℕ × Request) → Type 0
From k [] = Unit {0}
From k (r ∷ requests) = (r.0 ≡ k) × From (suc k) requests

pub has_below : (k p : ℕ) (requests : List (ℕ × Request)) → From k requests → Has p requests → p < k + length requests
has_below k p [] f h = absurd h
has_below k p (r ∷ requests) f (inl e) = let at : r.0 ≡ k = f.0 in omega (arith, at, e)
has_below k p (r ∷ requests) f (inr h) = let more = has_below (suc k) p requests f.1 h in omega (arith, more)

-- the reply is fixed by the requests up to it
pub reply_front : (config : ServerConfig) (tree : FileTree) (choices : List Choice) (granted p : ℕ)
    (requests later : List (ℕ × Request)) → Has p requests
    → reply_at config tree choices granted (requests ++ later) p ≡ reply_at config tree choices granted requests p
reply_front config tree choices granted p [] later h = absurd h
reply_front config tree choices granted p (r ∷ requests) later h =
    elim (eqb_tells r.0 p) [
      | inl t ↦ rw t.0 refl
      | inr t ↦ rw t.0 (reply_front config (told config tree choices granted r.1).1 (drop 1 choices)
          (granted_by (told config tree choices granted r.1) granted) p requests later (other h t.1))
    ]
  where
    other : Has p (r ∷ requests) → (r.0 ≡ p → ⊥) → Has p requests
    other (inl e) ne = absurd (ne e)
    other (inr h) ne = h

-- ---- a journal that is served

is_reply : (taken : Option Reply) (r : Reply) → (taken ≡ None → ⊥) → IsReply taken r → taken ≡ Some r
is_reply None r some is = absurd (some refl)
is_reply (Some taken) r some is = ap (λ (x : Reply). Some x) is

-- the answer is that under the number of the grants
as_numbered : (config : ServerConfig) (full : List Entry) → IsNumbered full
    → (tree : FileTree) (choices : List Choice) (granted place : ℕ) (r : Request) (handle : List ℕ)
    → granted ≡ count_below (is_grant full) place → answer full place
    ≡ Some (apply tree config r (first_choice choices) handle).0
    → apply tree config r (first_choice choices) handle ≡ told config tree choices granted r
as_numbered config full numbered tree choices granted place r handle many got =
    elim (apply_agrees tree config r (first_choice choices) handle (uint32 granted)) [
      | inl same ↦ same
      | inr is ↦
          let named : (apply tree config r (first_choice choices) handle).0 ≡ reply.Handle handle =
          (apply_leaves tree config r (first_choice choices) handle).named is in
          let number : handle ≡ uint32 (count_below (is_grant full) place) =
          numbered place handle (got ∙ ap (λ (x : Reply). Some x) named) in
          ap (λ (h : List ℕ). apply tree config r (first_choice choices) h) (number ∙ ap uint32 (sym many))
    ]

abbrev pub IsTold : ServerConfig → List Entry → FileTree → List Choice → ℕ → List (ℕ × Request) → FileTree → Type 0
IsTold config full tree choices granted requests now =
    (now ≡ tree_left config tree choices granted requests)
    × ((p : ℕ) → Has p requests → answer full p ≡ Some (reply_at config tree choices granted requests p))

-- where all replies were taken, each is what the machine tells under the numbers of the grants
pub served_told : (config : ServerConfig) (full : List Entry) → IsNumbered full
    → (tree : FileTree) (choices : List Choice) (k granted : ℕ) (requests : List (ℕ × Request)) (now : FileTree)
    → ((p : ℕ) → Has p requests → answer full p ≡ None → ⊥) → From k requests → granted ≡ count_below (is_grant full) k
    → ServesAll config full tree choices requests now
    → IsTold config full tree choices granted requests now
served_told config full numbered tree choices k granted [] now all f many serves = (serves, λ p h. absurd h)
served_told config full numbered tree choices k granted (r ∷ requests) now all f many serves =
    let x : Answer = apply tree config r.1 (first_choice choices) serves.0 in
    let y : Answer = told config tree choices granted r.1 in
    let got : answer full r.0 ≡ Some x.0 = is_reply (answer full r.0) x.0 (all r.0 (inl refl)) serves.1.1 in
    let same : x ≡ y = as_numbered config full numbered tree choices granted r.0 r.1 serves.0
    (many ∙ ap (count_below (is_grant full)) (sym f.0)) got in
    let told_here : answer full r.0 ≡ Some y.0 = got ∙ ap (λ (a : Answer). Some a.0) same in
    let more : granted_by y granted ≡ count_below (is_grant full) (suc k) =
    λ i. (if is_granted ((sym told_here ∙ ap (answer full) f.0) i) then 1 else 0) + many i in
    let later = served_told config full numbered y.1 (drop 1 choices) (suc k) (granted_by y granted) requests now
    (λ p h. all p (inr h)) f.1 more
    (subst (λ (a : Answer). ServesAll config full a.1 (drop 1 choices) requests now) same serves.1.2) in (
      later.0,
      λ p h. elim (eqb_tells r.0 p) [
        | inl t ↦ rw t.0 (ap (answer full) (sym t.1) ∙ told_here)
        | inr t ↦ rw t.0 (later.1 p (other p h t.1))
      ],
    )
  where
    other : (p : ℕ) → Has p (r ∷ requests) → (r.0 ≡ p → ⊥) → Has p requests
    other p (inl e) ne = absurd (ne e)
    other p (inr h) ne = h
