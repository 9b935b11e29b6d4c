-- Worked examples of listings, each beside a near miss.
use Rattle.std.specs.Prelude.{◌≡◌, [], ◌∷◌, codes, Some, None, false, Ok, Err, refl}
use Rattle.sftp_model.specs.Answers.{status}
use Rattle.sftp_model.specs.Frames.{no_attributes}
use Rattle.sftp_model.specs.declared.error.Error.TheVariants as error
use Rattle.sftp_model.specs.declared.reply.NameEntry.{NameEntry}
use Rattle.sftp_model.specs.declared.reply.Reply.TheVariants as reply
use Rattle.sftp_core.specs.Grant.{GrantValue}
use Rattle.sftp_fs.specs.Listings.{ListingValue, at_listing_end, entry_told, left_by}

abbrev a : NameEntry
a = record { filename = codes "a"; longname = []; attrs = no_attributes }

abbrev b : NameEntry
b = record { filename = codes "b"; longname = []; attrs = no_attributes }

abbrev dir : GrantValue
dir = record { id = 3; handle = codes "h" }

-- The READDIR 4 of a listing is under way.
abbrev waiting : ListingValue
waiting = record { grant = dir; entries = []; asked = Some 4; ended = false }

-- Of two entries the first is returned, and the second is left.
pub gives_first : entry_told (reply.Names (a ∷ b ∷ [])) ≡ Some (Ok a)
gives_first = refl

pub leaves_second : left_by waiting (reply.Names (a ∷ b ∷ []))
    ≡ record { grant = dir; entries = b ∷ []; asked = None; ended = false }
leaves_second = refl

-- A NAME without entries ends a listing, and so does a STATUS of 1.
pub ends_by_none : entry_told (reply.Names []) ≡ None
ends_by_none = refl

pub ended_by_none : left_by waiting (reply.Names []) ≡ at_listing_end waiting
ended_by_none = refl

pub ends_by_status : entry_told (status 1) ≡ None
ends_by_status = refl

pub ended_by_status : left_by waiting (status 1) ≡ at_listing_end waiting
ended_by_status = refl

-- Any other STATUS is reported, and the next poll asks again.
pub refused : entry_told (status 4) ≡ Some (Err (error.SftpError 4 [] []))
refused = refl

pub asks_again : left_by waiting (status 4) ≡ record { grant = dir; entries = []; asked = None; ended = false }
asks_again = refl
