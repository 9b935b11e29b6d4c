-- Worked examples of the trees and listings of a server in memory, each beside a case that nearly is one.
use Rattle.std.specs.Prelude.{ℕ, ◌≡◌, List, [], ◌∷◌, codes, Some, None, refl}
use Rattle.sftp_model.specs.declared.request.Request.TheVariants as request
use Rattle.sftp_model.specs.declared.reply.Reply.TheVariants as reply
use Rattle.sftp_model.specs.Numbers.{SSH_FX_FAILURE}
use Rattle.sftp_model.specs.Answers.{status}
use Rattle.machine_model.specs.Listing.{file_at, dir_at, in_name_order}
use Rattle.machine_model.specs.Components.{components}
use Rattle.machine_model.specs.FileTree.{FileTree}
use Rattle.machine_model.specs.RowWords.{config, choice}
use Rattle.machine_model.specs.declared.node.Node.TheVariants as node
use Rattle.machine_model.specs.FirstTree.{first_tree}
use Rattle.machine_answers.specs.MachineState.{MachineState, answer}
use Rattle.machine_answers.specs.WaitingFrames.{WaitingFrames, with_next_picked}

-- ---- Handles

-- The empty tree, after this many handles were granted.
abbrev after_grants : ℕ → MachineState
after_grants n = record { tree = first_tree [] []; config = config 0; grants = n }

pub grants_last : (answer (after_grants 4294967295) (request.Opendir []) (choice 0 0)).0
    ≡ reply.Handle (255 ∷ 255 ∷ 255 ∷ 255 ∷ [])
unfolding components
grants_last = refl

pub grants_none : answer (after_grants 4294967296) (request.Opendir []) (choice 0 0)
    ≡ (status SSH_FX_FAILURE, after_grants 4294967296)
unfolding components
grants_none = refl

-- A request that is granted no handle is processed as usual.
pub refuses_as_ever : (answer (after_grants 4294967296) (request.Rmdir (codes "a")) (choice 0 0)).1
    ≡ after_grants 4294967296
unfolding components
refuses_as_ever = refl

-- ---- Listings of the first tree

-- The directory `b` exists since a file lies in it.
abbrev example : FileTree
example = first_tree ((codes "b/c", codes "x") ∷ (codes "/a", codes "yz") ∷ []) (codes "a.d" ∷ [])

pub has_a_parent : example.names ≡ (codes "a.d" ∷ [], node.Directory) ∷ (codes "b" ∷ [], node.Directory) ∷
    (codes "b" ∷ codes "c" ∷ [], node.File 0) ∷ (codes "a" ∷ [], node.File 1) ∷ []
unfolding components
has_a_parent = refl

-- `a`, `a.d`, `b`, `b/c`.
pub names_in_order : in_name_order example.names ≡ (codes "a" ∷ [], node.File 1) ∷ (codes "a.d" ∷ [], node.Directory) ∷
    (codes "b" ∷ [], node.Directory) ∷ (codes "b" ∷ codes "c" ∷ [], node.File 0) ∷ []
unfolding components
names_in_order = refl

pub lists_first_file : file_at example 0 ≡ Some (codes "a", codes "yz")
unfolding components
lists_first_file = refl

pub lists_second_file : file_at example 1 ≡ Some (codes "b/c", codes "x")
unfolding components
lists_second_file = refl

pub lists_no_third_file : file_at example 2 ≡ None
unfolding components
lists_no_third_file = refl

pub lists_first_directory : dir_at example 0 ≡ Some (codes "a.d")
unfolding components
lists_first_directory = refl

pub lists_the_parent : dir_at example 1 ≡ Some (codes "b")
unfolding components
lists_the_parent = refl

pub lists_no_third_directory : dir_at example 2 ≡ None
unfolding components
lists_no_third_directory = refl

-- ---- Frames that wait

abbrev waiting : List ℕ → List (List ℕ) → List ℕ → WaitingFrames
waiting ready frames picks = record { ready = ready; waiting = frames; picks = picks }

-- A pick is taken modulo the count of frames.
pub picks_second : with_next_picked (waiting [] (codes "1" ∷ codes "2" ∷ []) (3 ∷ 0 ∷ []))
    ≡ waiting (codes "2") (codes "1" ∷ []) (0 ∷ [])
picks_second = refl

pub picks_first : with_next_picked (waiting [] (codes "1" ∷ codes "2" ∷ []) [])
    ≡ waiting (codes "1") (codes "2" ∷ []) []
picks_first = refl

-- No pick is used while a frame is being sent, nor if no frame waits.
pub picks_later : with_next_picked (waiting (codes "0") (codes "1" ∷ []) (3 ∷ []))
    ≡ waiting (codes "0") (codes "1" ∷ []) (3 ∷ [])
picks_later = refl

pub picks_nothing : with_next_picked (waiting [] [] (3 ∷ [])) ≡ waiting [] [] (3 ∷ [])
picks_nothing = refl
