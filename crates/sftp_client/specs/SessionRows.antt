-- Worked rows of what a session keeps, by computation.
use Rattle.std.specs.Prelude.{◌≡◌, refl, ℕ, List, [], ◌∷◌, Option, None, Some}
use Rattle.sftp_model.specs.declared.error.Error.TheVariants as error
use Rattle.sftp_model.specs.declared.error.Fault.TheVariants as fault
use Rattle.sftp_client.specs.Incoming.{bytes_of, nothing_came}
use Rattle.sftp_client.specs.Outgoing.{unsent_from}
use Rattle.sftp_client.specs.Sessions.{fault_by}

-- A chunk of two pieces.
abbrev pub two : Option (List (List ℕ))
two = Some ((1 ∷ 2 ∷ 3 ∷ []) ∷ (4 ∷ 5 ∷ []) ∷ [])

-- Nothing of the chunk was sent; a part of its first piece; the whole first piece; all of it.
pub all_unsent : unsent_from two 0 0 ≡ 1 ∷ 2 ∷ 3 ∷ 4 ∷ 5 ∷ []
all_unsent = refl

pub part_sent : unsent_from two 0 2 ≡ 3 ∷ 4 ∷ 5 ∷ []
part_sent = refl

pub piece_sent : unsent_from two 1 0 ≡ 4 ∷ 5 ∷ []
piece_sent = refl

pub all_sent : unsent_from two 2 0 ≡ []
all_sent = refl

pub no_chunk : unsent_from None 0 0 ≡ []
no_chunk = refl

-- Bytes of a frame that came: a part of its length.
pub length_begun : bytes_of (record { whole = []; part = 0 ∷ 0 ∷ [] }) ≡ 0 ∷ 0 ∷ []
length_begun = refl

pub none_came : bytes_of nothing_came ≡ []
none_came = refl

-- A fault of the link is kept, and so is its end. Running out of memory is not, nor is the refusal of a frame.
pub link_kept : fault_by error.LinkFault ≡ Some fault.Link
link_kept = refl

pub end_kept : fault_by error.LinkEnded ≡ Some fault.Ended
end_kept = refl

pub memory_not_kept : fault_by error.OutOfMemory ≡ None
memory_not_kept = refl

pub id_not_kept : fault_by (error.InvalidResponseId 7) ≡ None
id_not_kept = refl
