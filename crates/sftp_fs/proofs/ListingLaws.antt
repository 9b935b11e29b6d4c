-- A listing does what the plan of a lane's listing does.
use Rattle.std.proofs.Common.{
  ◌≡◌,
  ◌==◌,
  ◌-◌,
  ◌<◌,
  ◌∙◌,
  arith,
  refl,
  sym,
  ap,
  subst,
  ℕ,
  Bool,
  true,
  false,
  List,
  [],
  ◌∷◌,
  ◌++◌,
  Option,
  Some,
  None,
  Ok,
  Err,
  inl,
  inr,
  if◌then◌else◌,
}
use Rattle.std.proofs.lemmas.Bool.Decides.{nat_tests}
use Rattle.sftp_model.specs.Numbers.{SSH_FX_EOF}
use Rattle.sftp_model.specs.declared.error.Error.TheVariants as error
use Rattle.sftp_model.specs.declared.error.Fault.{Fault}
use Rattle.sftp_model.specs.declared.outcome.Outcome.TheVariants as outcome
use Rattle.sftp_model.specs.declared.reply.NameEntry.{NameEntry}
use Rattle.sftp_model.specs.declared.reply.Reply.{Reply}
use Rattle.sftp_model.specs.declared.reply.Reply.TheVariants as reply
use Rattle.sftp_model.specs.declared.request.Request.TheVariants as request
use Rattle.sftp_model.specs.declared.slot.Move.{Move}
use Rattle.sftp_model.specs.declared.slot.Move.TheVariants.{Ask, Done}
use Rattle.sftp_model.specs.declared.slot.Site.{Site}
use Rattle.plan_model.specs.Moves.{Answers}
use Rattle.plan_model.specs.WholePlans.{entries_next}
use Rattle.sftp_core.specs.Core.{Core, record_at, reply_in}
use Rattle.sftp_core.specs.Grant.{GrantValue}
use Rattle.plan_state.specs.Calls.{IsUnfinished}
use Rattle.plan_state.specs.declared.poll.Poll.TheVariants.{Pending, Ready}
use Rattle.sftp_fs.specs.ListingPlans.{IsPlanned, ListingProgress, TellsListing, left_behind}
use Rattle.sftp_fs.specs.Listings.{AsksMore, ListingAnswer, GivesEntries, GivesAt, HearsOf, ListingValue, at_listing_end, left_by, awaiting_none}
use Rattle.std.proofs.lemmas.List.{append-nil, append_assoc}

-- what was given, and an entry that came first
one_more : (given : List NameEntry) (entry : NameEntry) (entries : List NameEntry) → given ++ entry ∷ entries
    ≡ (given ++ entry ∷ []) ++ entries
one_more given entry entries = sym (append_assoc given (entry ∷ []) entries)

none_more : (given : List NameEntry) (entry : NameEntry) (entries : List NameEntry)
    → (given ++ []) ++ entry ∷ entries ≡ (given ++ entry ∷ []) ++ entries
none_more given entry entries = ap (λ (l : List NameEntry). l ++ entry ∷ entries) (append-nil given)
    ∙ one_more given entry entries

-- a listing that awaits a reply, with nothing left to give
abbrev awaiting : GrantValue → ℕ → ListingValue
awaiting g ticket = record { grant = g; entries = []; asked = Some ticket; ended = false }

-- the answer and the listing that is left are these
by_both : (s : ListingProgress) (site : Site) (p q next : ListingValue) (answers : Answers)
    (result given : ListingAnswer) → result ≡ given → q ≡ next
    → IsPlanned s site p next answers given → IsPlanned s site p q answers result
by_both s site p q next answers result given is left h =
    subst (λ (x : ListingAnswer). IsPlanned s site p q answers x) (sym is)
    (subst (λ (x : ListingValue). IsPlanned s site p x answers given) (sym left) h)

-- ---- an entry that is left

gives_left : (s : ListingProgress) (site : Site) (g : GrantValue) (entry : NameEntry) (entries : List NameEntry)
    (asked : Option ℕ) (answers : Answers)
    → IsPlanned s site (record { grant = g; entries = entry ∷ entries; asked = asked; ended = false })
    (record { grant = g; entries = entries; asked = asked; ended = false }) answers (Ready (Some (Ok entry)))
gives_left s site g entry entries asked answers =
    inl (λ later i. left_behind (one_more s.given entry entries i) s.bound s.place g.handle site asked later answers)

-- ---- more is asked for

asks : (got : List NameEntry) (bound : ℕ) (handle : List ℕ) (site : Site) (answers : Answers) → 0 < bound
    → entries_next handle got bound site [] answers ≡ Ask (request.Readdir handle)
asks got bound handle site answers some =
    let more : (bound == 0) ≡ false = grind (arith, nat_tests) in
    rw more refl

asks_more : (s : ListingProgress) (site : Site) (g : GrantValue) (q : ListingValue) (old new : Core) (answers : Answers)
    (result : ListingAnswer)
    → 0 < s.bound → AsksMore old new (record { grant = g; entries = []; asked = None; ended = false }) q result
    → IsPlanned s site (record { grant = g; entries = []; asked = None; ended = false }) q answers result
asks_more s site g q old new answers Pending some h =
    subst (λ (x : ListingValue). IsPlanned s site (record { grant = g; entries = []; asked = None; ended = false }) x
    answers Pending)
    (sym h.awaits) (inr (asks (s.given ++ []) s.bound g.handle site answers some, λ later. refl))
asks_more s site g q old new answers (Ready (Some (Err error.OutOfMemory))) some h = h.0
asks_more s site g q old new answers (Ready (Some (Err (error.BackgroundTaskFailure fault)))) some h =
    subst IsUnfinished (sym (asks (s.given ++ []) s.bound g.handle site answers some)) tt
asks_more s site g q old new answers (Ready None) some h = absurd h
asks_more s site g q old new answers (Ready (Some (Ok entry))) some h = absurd h
asks_more s site g q old new answers (Ready (Some (Err e))) some h = absurd h

-- ---- a reply is heard

names_given : (given : List NameEntry) (site : Site) → ◌≡◌ {A = Move} (Done (outcome.Names (given ++ [])) site)
    (Done (outcome.Names given) site)
names_given given site = ap (λ (l : List NameEntry). Done (outcome.Names l) site) (append-nil given)

status_heard : (b : Bool) (s : ListingProgress) (site : Site) (g : GrantValue) (q next : ListingValue)
    (answers : Answers)
    (ticket code : ℕ) (message language : List ℕ) (result : ListingAnswer)
    → answers s.place ≡ Some (reply.Status code message language) → (code == SSH_FX_EOF) ≡ b
    → result ≡ Ready (if b then None else Some (Err (error.SftpError code message language))) → q ≡ next
    → IsPlanned s site (awaiting g ticket) q answers result
status_heard true s site g q next answers ticket code message language result there is given left =
    subst (λ (x : ListingAnswer). IsPlanned s site (awaiting g ticket) q answers x) (sym given)
    (rw (there, is) (names_given s.given site))
status_heard false s site g q next answers ticket code message language result there is given left =
    subst (λ (x : ListingAnswer). IsPlanned s site (awaiting g ticket) q answers x) (sym given)
    (rw (there, is) refl)

hears : (s : ListingProgress) (site : Site) (g : GrantValue) (q : ListingValue) (old new : Core) (answers : Answers)
    (ticket : ℕ) (result : ListingAnswer) (there : Option Reply) (fault : Option Fault)
    → answers s.place ≡ there
    → HearsOf old new (awaiting g ticket) q result ticket there fault
    → IsPlanned s site (awaiting g ticket) q answers result
hears s site g q old new answers ticket result (Some (reply.Names [])) fault there h =
    by_both s site (awaiting g ticket) q (at_listing_end (awaiting g ticket)) answers result (Ready None) h.0 h.1
    (rw there (names_given s.given site))
hears s site g q old new answers ticket result (Some (reply.Names (entry ∷ entries))) fault there h =
    by_both s site (awaiting g ticket) q (left_by (awaiting g ticket) (reply.Names (entry ∷ entries))) answers result
    (Ready (Some (Ok entry))) h.0 h.1
    (inr (λ later. rw there
    (ap (λ (l : List NameEntry). entries_next g.handle l (s.bound - 1) site later answers)
    (none_more s.given entry entries))))
hears s site g q old new answers ticket result (Some (reply.Status code message language)) fault there h =
    status_heard (code == SSH_FX_EOF) s site g q (left_by (awaiting g ticket) (reply.Status code message language))
    answers ticket
    code message language result there refl h.0 h.1
hears s site g q old new answers ticket result (Some (reply.Version version extensions)) fault there h =
    by_both s site (awaiting g ticket) q (awaiting_none (awaiting g ticket)) answers result
    (Ready (Some (Err (error.InvalidResponse None)))) h.0 h.1 (rw there refl)
hears s site g q old new answers ticket result (Some (reply.Handle handle)) fault there h =
    by_both s site (awaiting g ticket) q (awaiting_none (awaiting g ticket)) answers result
    (Ready (Some (Err (error.InvalidResponse None)))) h.0 h.1 (rw there refl)
hears s site g q old new answers ticket result (Some (reply.Content bytes)) fault there h =
    by_both s site (awaiting g ticket) q (awaiting_none (awaiting g ticket)) answers result
    (Ready (Some (Err (error.InvalidResponse None)))) h.0 h.1 (rw there refl)
hears s site g q old new answers ticket result (Some (reply.Attrs attrs)) fault there h =
    by_both s site (awaiting g ticket) q (awaiting_none (awaiting g ticket)) answers result
    (Ready (Some (Err (error.InvalidResponse None)))) h.0 h.1 (rw there refl)
hears s site g q old new answers ticket result (Some (reply.Extended content)) fault there h =
    by_both s site (awaiting g ticket) q (awaiting_none (awaiting g ticket)) answers result
    (Ready (Some (Err (error.InvalidResponse None)))) h.0 h.1 (rw there refl)
hears s site g q old new answers ticket result None (Some fault) there h =
    by_both s site (awaiting g ticket) q (awaiting_none (awaiting g ticket)) answers result
    (Ready (Some (Err (error.BackgroundTaskFailure fault)))) h.0 h.1 (rw there tt)
hears s site g q old new answers ticket result None None there h =
    by_both s site (awaiting g ticket) q (awaiting g ticket) answers result Pending h.0 h.1 (inl (rw there refl, refl))

-- ---- any poll

planned_at : (s : ListingProgress) (site : Site) (g : GrantValue) (entries : List NameEntry) (asked : Option ℕ)
    (q : ListingValue)
    (old new : Core) (answers : Answers) (result : ListingAnswer)
    → 0 < s.bound → TellsListing s old answers asked
    → GivesAt old new (record { grant = g; entries = entries; asked = asked; ended = false }) q result false entries
    asked
    → IsPlanned s site (record { grant = g; entries = entries; asked = asked; ended = false }) q answers result
planned_at s site g (entry ∷ entries) asked q old new answers result some tells h =
    by_both s site (record { grant = g; entries = entry ∷ entries; asked = asked; ended = false }) q
    (record { grant = g; entries = entries; asked = asked; ended = false }) answers result (Ready (Some (Ok entry))) h.0
    h.1 (gives_left s site g entry entries asked answers)
planned_at s site g [] None q old new answers result some tells h = asks_more s site g q old new answers result some h
planned_at s site g [] (Some ticket) q old new answers result some tells h =
    hears s site g q old new answers ticket result (reply_in (record_at old ticket)) old.fault tells h

pub planned : (s : ListingProgress) (site : Site) (p q : ListingValue) (old new : Core) (answers : Answers)
    (result : ListingAnswer)
    → p.ended ≡ false → 0 < s.bound → TellsListing s old answers p.asked → GivesEntries old new p q result
    → IsPlanned s site p q answers result
planned s site p q old new answers result on some tells h =
    subst (λ (e : Bool). GivesAt old new (record p { ended = e }) q result e p.entries p.asked
    → IsPlanned s site (record p { ended = e }) q answers result) (sym on)
    (planned_at s site p.grant p.entries p.asked q old new answers result some tells) h
