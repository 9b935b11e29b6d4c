-- The effect of an example over a session, by its word.
use Rattle.std.specs.Prelude.{◌≡◌, ℕ, List, [], ◌∷◌, ◌++◌, Ok, flat_map}
use Rattle.sftp_model.specs.declared.reply.NameEntry.{NameEntry}
use Rattle.sftp_link.specs.Views.{LinkView}
use Rattle.sftp_client.specs.Sessions.{SftpValue}
use Rattle.example_client.specs.declared.tasks.Task.{Task}
use Rattle.example_client.specs.declared.tasks.Task.TheVariants.{CreateDirs, Get, ListDir, Put, RemoveDirs, Walk}
use Rattle.sftp_client.specs.CreatedDirs.{MakesPath}
use Rattle.sftp_client.specs.DirCalls.{ListsWhole}
use Rattle.sftp_client.specs.RemovedTrees.{RemovesPath}
use Rattle.sftp_client.specs.Walks.{WalksWhole}
use Rattle.sftp_client.specs.declared.walk_entry.WalkEntry.{WalkEntry}
use Rattle.example_client.specs.Files.{IsGot, IsPut}

-- The name of an entry, and a line feed.
abbrev pub line_of : NameEntry → List ℕ
line_of entry = entry.filename ++ 10 ∷ []

-- The path of an entry, and a line feed.
abbrev pub path_line : WalkEntry → List ℕ
path_line entry = entry.path ++ 10 ∷ []

-- The text that is printed: nothing for a file that was written or directories that were created or removed, the bytes
-- of a file that was read, or a line for each entry.
abbrev pub IsDone : {L S : Type 0} → Task → List ℕ → List ℕ → (L → LinkView S) → SftpValue L → SftpValue L → List ℕ
    → Type 0
IsDone Put path content state old new printed = IsPut path content state old new × (printed ≡ [])
IsDone Get path content state old new printed = IsGot path state old new printed
IsDone ListDir path content state old new printed = (entries : List NameEntry) × (ListsWhole path state old new entries
    × (printed ≡ flat_map line_of entries))
IsDone Walk path content state old new printed = (found : List WalkEntry) × (WalksWhole path state old new found
    × (printed ≡ flat_map path_line found))
IsDone CreateDirs path content state old new printed = MakesPath path state old new (Ok tt) × (printed ≡ [])
IsDone RemoveDirs path content state old new printed = RemovesPath path state old new (Ok tt) × (printed ≡ [])
