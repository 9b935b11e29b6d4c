-- Runs whose requests have handles by grants, and the requests of one call among those of others, by requests alone.
-- The bytes of a handle may be granted again once it is closed.
use Rattle.std.specs.Prelude.{◌≡◌, ℕ, ◌⊎◌, Bool, true, false, List, [], ◌∷◌, Option, Some}
use Rattle.sftp_model.specs.declared.config.ServerConfig.{ServerConfig}
use Rattle.sftp_model.specs.declared.file_attrs.FileAttrs.{FileAttrs}
use Rattle.sftp_model.specs.declared.flags.OpenFlags.{OpenFlags}
use Rattle.sftp_model.specs.declared.reply.Reply.TheVariants as reply
use Rattle.sftp_model.specs.declared.request.Request.{Request}
use Rattle.sftp_model.specs.declared.request.Request.TheVariants as request
use Rattle.machine_model.specs.Changes.{AsksToOpen, ClosesHandle}
use Rattle.machine_model.specs.Components.{Name, components}
use Rattle.machine_model.specs.FileTree.{FileTree}
use Rattle.machine_model.specs.Pairs.{HasEntry}
use Rattle.plan_model.specs.Moves.{Answers, Own, handle_of}
use Rattle.run_laws.specs.Sparing.{AvoidsName}
use Rattle.run_laws.specs.Steps.{Step, AreDistinct, AreServed}

-- ---- Grants

-- Some of these steps has the handle of the grant.
abbrev pub IsUsed : (ℕ → Option ℕ) → ℕ → List Step → Type 0
IsUsed grant_of g [] = ⊥
IsUsed grant_of g (s ∷ steps) = (grant_of s.place ≡ Some g) ⊎ IsUsed grant_of g steps

-- `grant_of` names the grant of the handle that the request at a place has. A grant is the place of a request that a
-- HANDLE answered before. A CLOSE has a grant's handle, and no later step has it.
abbrev pub UseGrants : Answers → (ℕ → Option ℕ) → List ℕ → List Step → Type 0
UseGrants answers grant_of seen [] = Unit {0}
UseGrants answers grant_of seen (s ∷ steps) =
    ((g : ℕ) → grant_of s.place ≡ Some g → HasEntry seen g)
    × ((h : List ℕ) → ClosesHandle s.request h → (g : ℕ) × ((grant_of s.place ≡ Some g)
    × ((handle_of (answers g) ≡ h) × (IsUsed grant_of g steps → ⊥))))
    × (IsUsed grant_of s.place steps → (h : List ℕ) × (answers s.place ≡ Some (reply.Handle h)))
    × UseGrants answers grant_of (s.place ∷ seen) steps

-- ---- Requests that pass a name by

-- The request writes by the handle.
abbrev pub WritesBy : Request → List ℕ → Type 0
WritesBy (request.Write handle offset content) h = handle ≡ h
WritesBy (request.Fsetstat handle attrs) h = handle ≡ h
WritesBy (request.CopyData from from_offset len to to_offset) h = to ≡ h
WritesBy other h = ⊥

-- `elsewhere` is true for grants of other names. Each handle that the step writes by is that of such a grant.
abbrev pub WritesElsewhere : Answers → (ℕ → Option ℕ) → (ℕ → Bool) → Step → Type 0
WritesElsewhere answers grant_of elsewhere s =
    (h : List ℕ) → WritesBy s.request h → (g : ℕ) × ((grant_of s.place ≡ Some g)
    × ((answers g ≡ Some (reply.Handle h)) × (elsewhere g ≡ true)))

-- The step avoids the name, and writes only by handles of other names' grants.
abbrev pub PassesBy : Answers → (ℕ → Option ℕ) → (ℕ → Bool) → Name → Step → Type 0
PassesBy answers grant_of elsewhere name s = AvoidsName name s.request × WritesElsewhere answers grant_of elsewhere s

abbrev pub AllPassBy : Answers → (ℕ → Option ℕ) → (ℕ → Bool) → Name → List Step → Type 0
AllPassBy answers grant_of elsewhere name [] = Unit {0}
AllPassBy answers grant_of elsewhere name (s ∷ steps) = PassesBy answers grant_of elsewhere name s
    × AllPassBy answers grant_of elsewhere name steps

-- ---- Runs

-- The step avoids the name and does not open it; or it is an OPEN of the name, whose grant is no other name's.
abbrev pub IsOnName : Name → (ℕ → Bool) → Step → Type 0
IsOnName name elsewhere s =
    (AvoidsName name s.request × (AsksToOpen s.request name → ⊥))
    ⊎ ((path : List ℕ) × (flags : OpenFlags) × (attrs : FileAttrs) × (s.request ≡ request.OpenFile path flags attrs)
    × (components path ≡ name) × (elsewhere s.place ≡ false))

abbrev pub AreOnName : Name → (ℕ → Bool) → List Step → Type 0
AreOnName name elsewhere [] = Unit {0}
AreOnName name elsewhere (s ∷ steps) = IsOnName name elsewhere s × AreOnName name elsewhere steps

-- A run of the machine whose requests have handles by grants, and reach the name only by OPENs of it.
pub record IsRunOn (config : ServerConfig) (answers : Answers) (grant_of : ℕ → Option ℕ) (elsewhere : ℕ → Bool)
    (name : Name) (tree : FileTree) (steps : List Step) : Type 0 where
  pub served : AreServed config answers tree steps
  pub distinct : AreDistinct steps
  pub grants : UseGrants answers grant_of [] steps
  pub on_name : AreOnName name elsewhere steps

-- ---- One call

-- These requests are among the steps in their order, and have the handle of the grant. Each other step passes the name
-- by.
abbrev pub AreAmong : Answers → (ℕ → Option ℕ) → (ℕ → Bool) → Name → ℕ → Own → List Step → Type 0
AreAmong answers grant_of elsewhere name grant [] steps = AllPassBy answers grant_of elsewhere name steps
AreAmong answers grant_of elsewhere name grant (asked ∷ later) [] = ⊥
AreAmong answers grant_of elsewhere name grant (asked ∷ later) (s ∷ steps) =
    ((s.place ≡ asked.0) × (s.request ≡ asked.1) × (grant_of s.place ≡ Some grant)
    × AreAmong answers grant_of elsewhere name grant later steps)
    ⊎ (PassesBy answers grant_of elsewhere name s × AreAmong answers grant_of elsewhere name grant (asked ∷ later)
    steps)

-- A call opens the name by the first step, and its further requests, which have this grant, are among the steps after
-- it.
pub record IsCallOn (answers : Answers) (grant_of : ℕ → Option ℕ) (elsewhere : ℕ → Bool) (name : Name) (later : Own)
    (first : Step) (steps : List Step) : Type 0 where
  pub among : AreAmong answers grant_of elsewhere name first.place later steps
