-- The relation between a listing and the plan of a lane's listing.
use Rattle.std.specs.Prelude.{◌≡◌, ◌⊎◌, ℕ, ◌-◌, List, [], ◌∷◌, ◌++◌, Option, Some, None, Ok, Err}
use Rattle.sftp_model.specs.declared.error.Error.TheVariants as error
use Rattle.sftp_model.specs.declared.outcome.Outcome.TheVariants as outcome
use Rattle.sftp_model.specs.declared.reply.NameEntry.{NameEntry}
use Rattle.sftp_model.specs.declared.request.Request.TheVariants as request
use Rattle.sftp_model.specs.declared.slot.Move.TheVariants.{Ask, Done, Wait}
use Rattle.sftp_model.specs.declared.slot.Site.{Site}
use Rattle.plan_model.specs.Moves.{Answers, Own, Plan, once_answered}
use Rattle.plan_model.specs.WholePlans.{entries_next, on_names}
use Rattle.sftp_core.specs.Core.{Core, record_at, reply_in}
use Rattle.plan_state.specs.Calls.{IsUnfinished}
use Rattle.plan_state.specs.declared.poll.Poll.TheVariants.{Pending, Ready}
use Rattle.sftp_fs.specs.Listings.{ListingAnswer, ListingValue}

-- The position of a run of the plan: the entries that were returned, the most READDIRs that may still come, and the
-- place of the one whose reply is awaited.
pub record ListingProgress : Type 0 where
  pub given : List NameEntry
  pub bound : ℕ
  pub place : ℕ

-- The entries that came so far.
abbrev pub got_by : ListingProgress → ListingValue → List NameEntry
got_by s p = s.given ++ p.entries

-- The plan that is left after these entries: before the next READDIR, or after the one whose reply is awaited.
abbrev pub left_behind : List NameEntry → ℕ → ℕ → List ℕ → Site → Option ℕ → Plan
left_behind got bound place handle site None later answers = entries_next handle got bound site later answers
left_behind got bound place handle site (Some ticket) later answers =
    once_answered place (answers place) (λ r. on_names r site (Done (outcome.Names got) site)
    (λ entries. entries_next handle (got ++ entries) (bound - 1) site later answers))

abbrev pub listing_left : ListingProgress → Site → ListingValue → Plan
listing_left s site p = left_behind (got_by s p) s.bound s.place p.grant.handle site p.asked

-- The position after this entry was returned.
abbrev pub after_entry : ListingProgress → NameEntry → ListingProgress
after_entry s entry = record s { given = s.given ++ entry ∷ [] }

-- The position after the reply to a READDIR was received.
abbrev pub progress_after_reply : ListingProgress → ListingProgress
progress_after_reply s = record s { bound = s.bound - 1 }

-- The plan continues as the listing that is left, after one answered READDIR or none.
abbrev pub GoesOnListing : ListingProgress → ListingProgress → Site → ListingValue → ListingValue → Answers → Type 0
GoesOnListing s next site p q answers = (later : Own) → listing_left s site p later answers
    ≡ listing_left next site q later answers

-- The reply to the awaited READDIR is the one that the core has.
abbrev pub TellsListing : ListingProgress → Core → Answers → Option ℕ → Type 0
TellsListing s core answers None = Unit {0}
TellsListing s core answers (Some ticket) = answers s.place ≡ reply_in (record_at core ticket)

-- The result of a poll of a listing that has not ended, according to the plan. It is the next entry, with which the
-- plan continues; the end, if all that came was returned; a refusal of the server; or pending, for the reply that is
-- awaited or was asked for.
abbrev pub IsPlanned : ListingProgress → Site → ListingValue → ListingValue → Answers → ListingAnswer → Type 0
IsPlanned s site p q answers (Ready None) = listing_left s site p [] answers ≡ Done (outcome.Names s.given) site
IsPlanned s site p q answers (Ready (Some (Ok entry))) = GoesOnListing s (after_entry s entry) site p q answers
    ⊎ GoesOnListing s (after_entry (progress_after_reply s) entry) site p q answers
IsPlanned s site p q answers (Ready (Some (Err error.OutOfMemory))) = q ≡ p
IsPlanned s site p q answers (Ready (Some (Err (error.BackgroundTaskFailure fault)))) =
    IsUnfinished (listing_left s site p [] answers)
IsPlanned s site p q answers (Ready (Some (Err e))) = listing_left s site p [] answers ≡ Done (outcome.Refused e) site
IsPlanned s site p q answers Pending = ((listing_left s site p [] answers ≡ Wait s.place) × (q ≡ p))
    ⊎ ((listing_left s site p [] answers ≡ Ask (request.Readdir p.grant.handle))
    × ((later : Own) → listing_left s site p ((s.place, request.Readdir p.grant.handle) ∷ later) answers
    ≡ listing_left s site q later answers))
