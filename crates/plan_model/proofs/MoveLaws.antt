-- What holds of each move of a plan, whatever the call: one statement for all laws, and its cases.
use Rattle.plan_model.specs.GoodMoves.{Situation, IsGood}
use Rattle.std.proofs.Common.{◌≡◌, ◌==◌, ℕ, Bool, true, false, List, [], ◌∷◌, Option, Some, None, refl, inl, if◌then◌else◌}
use Rattle.sftp_model.specs.declared.outcome.Outcome.{Outcome}
use Rattle.sftp_model.specs.declared.outcome.Outcome.TheVariants as outcome
use Rattle.sftp_model.specs.declared.reply.Reply.{Reply}
use Rattle.sftp_model.specs.declared.reply.Reply.TheVariants as reply
use Rattle.sftp_model.specs.declared.slot.Move.{Move}
use Rattle.sftp_model.specs.declared.slot.Move.TheVariants.{Done}
use Rattle.sftp_model.specs.declared.slot.FileAt.{FileAt}
use Rattle.sftp_model.specs.declared.slot.Buffer.{Buffer}
use Rattle.sftp_model.specs.declared.slot.Slot.{Slot}
use Rattle.sftp_model.specs.declared.slot.Site.{Site}
use Rattle.sftp_model.specs.declared.slot.Slot.TheVariants.{Empty, File, Buffered}
use Rattle.plan_model.specs.Moves.{Own, once_answered, by_reply, refusal_move, on_status, on_content, on_file, on_buffered, told_by}

-- ---- cases, of any predicate on moves

pub either : (P : Move → Type 0) (b : Bool) (m n : Move) → (b ≡ true → P m) → (b ≡ false → P n) → P (if b then m else n)
either P true m n first second = first refl
either P false m n first second = second refl

pub answered : (s : Situation) (place : ℕ) (got : Option Reply) (go : Reply → Move) → s.answers place ≡ got
    → ((r : Reply) → s.answers place ≡ Some r → IsGood s (go r)) → IsGood s (once_answered place got go)
answered s place None go is goes = is
answered s place (Some r) go is goes = goes r is

pub replied : (s : Situation) (own : Own) (first : Move) (go : Reply → Move) → (own ≡ [] → IsGood s first)
    → ((r : Reply) → IsGood s (go r)) → IsGood s (by_reply first go own s.answers)
replied s [] first go asks goes = asks refl
replied s (asked ∷ later) first go asks goes = answered s asked.0 (s.answers asked.0) go refl (λ r is. goes r)

pub by_status : (P : Move → Type 0) (r : Reply) (site : Site) (go : Move) → ((o : Outcome) → P (Done o site)) → P go
    → P (on_status r site go)
by_status P (reply.Status code message language) site go ends goes =
    either P (code == 0) go (refusal_move (reply.Status code message language) site) (λ e. goes) (λ e. ends _)
by_status P r site go ends goes = ends _

pub by_refusal : (P : Move → Type 0) (r : Reply) (site : Site) → ((o : Outcome) → P (Done o site))
    → P (refusal_move r site)
by_refusal P (reply.Status code message language) site ends = ends _
by_refusal P r site ends = ends _

pub by_content : (P : Move → Type 0) (r : Reply) (site : Site) (ended : Move) (go : List ℕ → Move)
    → ((o : Outcome) → P (Done o site)) → P ended → ((bytes : List ℕ) → P (go bytes)) → P (on_content r site ended go)
by_content P (reply.Content bytes) site ended go ends e goes = goes bytes
by_content P (reply.Status code message language) site ended go ends e goes =
    either P (code == 1) ended (refusal_move (reply.Status code message language) site) (λ x. e) (λ x. ends _)
by_content P r site ended go ends e goes = ends _

pub by_attrs : (P : Move → Type 0) (r : Reply) (site : Site) → ((o : Outcome) → P (Done o site)) → P (told_by site r)
by_attrs P (reply.Attrs attrs) site ends = ends _
by_attrs P (reply.Status code message language) site ends = ends _
by_attrs P r site ends = ends _

-- what a slot holds
pub at_file : (P : Move → Type 0) (x : Slot) (site : Site) (go : FileAt → Move) → ((o : Outcome) → P (Done o site))
    → ((file : FileAt) → x ≡ File file → P (go file)) → P (on_file x site go)
at_file P Empty site go ends goes = ends outcome.NoFile
at_file P (File file) site go ends goes = goes file refl
at_file P (Buffered file buffer) site go ends goes = ends outcome.NoFile

pub at_buffered : (P : Move → Type 0) (x : Slot) (site : Site) (go : FileAt → Buffer → Move)
    → ((o : Outcome) → P (Done o site)) → ((file : FileAt) (buffer : Buffer) → x ≡ Buffered file buffer
    → P (go file buffer)) → P (on_buffered x site go)
at_buffered P Empty site go ends goes = ends outcome.NoFile
at_buffered P (File file) site go ends goes = ends outcome.NoFile
at_buffered P (Buffered file buffer) site go ends goes = goes file buffer refl

-- ---- ends

-- the site at the start may be left
pub as_begun : (s : Situation) (o : Outcome) → IsGood s (Done o s.site)
as_begun s o = λ g h. inl h
