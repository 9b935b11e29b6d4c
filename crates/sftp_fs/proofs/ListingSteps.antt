-- What a poll of a listing gives and leaves.
use Rattle.std.proofs.Common.{◌≡◌, ◌≢◌, ◌==◌, ◌∙◌, refl, sym, ap, subst, ℕ, Bool, true, false, [], ◌∷◌, Option, Some, None, Ok, Err, if◌then◌else◌}
use Rattle.sftp_model.specs.Numbers.{SSH_FX_EOF}
use Rattle.sftp_model.specs.declared.answers.Expected.TheVariants as expected
use Rattle.sftp_model.specs.declared.error.Error.TheVariants as error
use Rattle.sftp_model.specs.declared.error.Fault.{Fault}
use Rattle.sftp_model.specs.declared.reply.Reply.{Reply}
use Rattle.sftp_model.specs.declared.reply.Reply.TheVariants as reply
use Rattle.sftp_model.specs.declared.request.Request.TheVariants as request
use Rattle.sftp_core.specs.Core.{Core, IsGrant, after_poll, record_at, reply_in}
use Rattle.sftp_core.specs.Grant.{GrantValue}
use Rattle.plan_state.specs.declared.submission.Asking.TheVariants.{Whole}
use Rattle.plan_state.specs.declared.poll.Poll.TheVariants.{Pending, Ready}
use Rattle.plan_state.specs.Keeping.{KeepsGrants, SparesOthers}
use Rattle.plan_state.specs.declared.stage.Stage.TheVariants.{Asked}
use Rattle.plan_state.proofs.Sparing.{polled_spares, spares_as, spares_kept, submitted_spares}
use Rattle.plan_state.proofs.Keeping.{keeps_same, submitted_holds}
use Rattle.plan_state.proofs.OthersKept.{grant_kept, grants_kept, polled_keeps_grants, submitted_keeps}
use Rattle.sftp_fs.specs.Listings.{
  AsksMore,
  ListingAnswer,
  GivesEntries,
  TakesListingReply,
  HearsOf,
  IsAwaiting,
  IsListing,
  IsNoneAsked,
  ListingValue,
  PollsEntries,
  at_listing_end,
  left_by,
  awaiting_none,
}

-- a listing with nothing left to give
abbrev spent : GrantValue → Option ℕ → ListingValue
spent g asked = record { grant = g; entries = []; asked = asked; ended = false }

-- what a listing needs over a change that leaves each grant
listing_kept : (old new : Core) (g : GrantValue) (q : ListingValue) → KeepsGrants old new → q.grant ≡ g → IsGrant old g
    → IsAwaiting new q.asked → IsListing new q
listing_kept old new g q k same h awaits =
    record {
      granted = subst (λ (x : GrantValue). IsGrant new x) (sym same) (grant_kept old new g k h);
      awaits =
          awaits;
    }

-- what comes of a poll, but for what it gives
record Leaves (old new : Core) (before : Option ℕ) (q : ListingValue) : Type 0 where
  listing : IsListing new q
  grants : KeepsGrants old new
  spares : SparesOthers old new (IsNoneAsked before) (IsNoneAsked q.asked)

lists_by : (old new : Core) (p q : ListingValue) (result : ListingAnswer) → GivesEntries old new p q result
    → Leaves old new p.asked q
    → PollsEntries old new p q result
lists_by old new p q result gives h = record {
  gives = gives;
  listing = h.listing;
  grants = h.grants;
  spares =
      h.spares;
}

-- nothing changed
leaves_same : (old new : Core) (p q : ListingValue) → q ≡ p → new ≡ old → IsListing old p → Leaves old new p.asked q
leaves_same old new p q left same h =
    subst (λ (x : ListingValue). Leaves old new p.asked x) (sym left)
    (subst (λ (x : Core). Leaves old x p.asked p) (sym same)
    (record {
      listing = h;
      grants = grants_kept old old (keeps_same old);
      spares =
          spares_kept old old (IsNoneAsked p.asked) (keeps_same old);
    }))

-- ---- more is asked for

asks_leaves : (old new : Core) (g : GrantValue) (q : ListingValue) (result : ListingAnswer)
    → IsListing old (spent g None)
    → AsksMore old new (spent g None) q result → Leaves old new None q
asks_leaves old new g q Pending h more =
    let k : KeepsGrants old new = grants_kept old new (submitted_keeps old new (Whole (request.Readdir g.handle))
    more.ticket more.submitted) in
    subst (λ (x : ListingValue). Leaves old new None x) (sym more.awaits)
    (record {
      listing = listing_kept old new g (spent g (Some more.ticket)) k refl h.granted
          (submitted_holds old new (Whole (request.Readdir g.handle)) more.ticket expected.Names more.submitted refl);
      grants = k;
      spares = spares_as old new (λ id. Unit {0}) (λ id. Unit {0} × (id ≢ more.ticket)) (λ id. id ≢ more.ticket)
          (λ id both. both.1)
          (submitted_spares old new (Whole (request.Readdir g.handle)) more.ticket (λ id. Unit {0}) (Asked more.ticket)
          more.submitted refl);
    })
asks_leaves old new g q (Ready (Some (Err error.OutOfMemory))) h more =
    leaves_same old new (spent g None) q more.0 more.1 h
asks_leaves old new g q (Ready (Some (Err (error.BackgroundTaskFailure fault)))) h more =
    leaves_same old new (spent g None) q more.1 more.2 h
asks_leaves old new g q (Ready None) h more = absurd more
asks_leaves old new g q (Ready (Some (Ok entry))) h more = absurd more
asks_leaves old new g q (Ready (Some (Err e))) h more = absurd more

-- ---- a reply is heard

left_unasked : (g : GrantValue) (asked : Option ℕ) (r : Reply) → (left_by (spent g asked) r).asked ≡ None
left_unasked g asked (reply.Names []) = refl
left_unasked g asked (reply.Names (entry ∷ entries)) = refl
left_unasked g asked (reply.Status code message language) = unasked_if (code == SSH_FX_EOF)
  where
    unasked_if : (b : Bool) → (◌≡◌ {A = Option ℕ} (if b then at_listing_end (spent g asked) else
        awaiting_none (spent g asked)).asked None)
    unasked_if true = refl
    unasked_if false = refl
left_unasked g asked (reply.Version version extensions) = refl
left_unasked g asked (reply.Handle handle) = refl
left_unasked g asked (reply.Content bytes) = refl
left_unasked g asked (reply.Attrs attrs) = refl
left_unasked g asked (reply.Extended content) = refl

left_grant : (g : GrantValue) (asked : Option ℕ) (r : Reply) → (left_by (spent g asked) r).grant ≡ g
left_grant g asked (reply.Names []) = refl
left_grant g asked (reply.Names (entry ∷ entries)) = refl
left_grant g asked (reply.Status code message language) = grant_if (code == SSH_FX_EOF)
  where
    grant_if : (b : Bool) → (if b then at_listing_end (spent g asked) else awaiting_none (spent g asked)).grant ≡ g
    grant_if true = refl
    grant_if false = refl
left_grant g asked (reply.Version version extensions) = refl
left_grant g asked (reply.Handle handle) = refl
left_grant g asked (reply.Content bytes) = refl
left_grant g asked (reply.Attrs attrs) = refl
left_grant g asked (reply.Extended content) = refl

-- the ticket that was awaited makes no difference
left_alike : (g : GrantValue) (asked : Option ℕ) (r : Reply) → left_by (spent g None) r ≡ left_by (spent g asked) r
left_alike g asked (reply.Names []) = refl
left_alike g asked (reply.Names (entry ∷ entries)) = refl
left_alike g asked (reply.Status code message language) = refl
left_alike g asked (reply.Version version extensions) = refl
left_alike g asked (reply.Handle handle) = refl
left_alike g asked (reply.Content bytes) = refl
left_alike g asked (reply.Attrs attrs) = refl
left_alike g asked (reply.Extended content) = refl

hears_alike : (old new : Core) (g : GrantValue) (q : ListingValue) (ticket : ℕ) (result : ListingAnswer)
    (there : Option Reply) (fault : Option Fault)
    → HearsOf old new (spent g None) q result ticket there fault
    → HearsOf old new (spent g (Some ticket)) q result ticket there fault
hears_alike old new g q ticket result (Some r) fault h = (h.0, h.1 ∙ left_alike g (Some ticket) r, h.2)
hears_alike old new g q ticket result None (Some fault) h = h
hears_alike old new g q ticket result None None h = h

polled_leaves : (old new : Core) (g : GrantValue) (q : ListingValue) (ticket : ℕ)
    → IsListing old (spent g (Some ticket))
    → new ≡ after_poll old ticket → q.grant ≡ g → q.asked ≡ None → Leaves old new (Some ticket) q
polled_leaves old new g q ticket h after same none =
    let k : KeepsGrants old new = subst (λ (x : Core). KeepsGrants old x) (sym after)
    (polled_keeps_grants old ticket h.awaits.counted) in
    record {
      listing = listing_kept old new g q k same h.granted (subst (λ (x : Option ℕ). IsAwaiting new x) (sym none) tt);
      grants = k;
      spares = subst (λ (x : Option ℕ). SparesOthers old new (λ id. id ≢ ticket) (IsNoneAsked x)) (sym none)
          (subst (λ (x : Core). SparesOthers old x (λ id. id ≢ ticket) (λ id. Unit {0})) (sym after)
          (polled_spares old ticket h.awaits.counted));
    }

hears_leaves : (old new : Core) (g : GrantValue) (q : ListingValue) (ticket : ℕ) (result : ListingAnswer)
    (there : Option Reply) (fault : Option Fault)
    → IsListing old (spent g (Some ticket)) → HearsOf old new (spent g (Some ticket)) q result ticket there fault
    → Leaves old new (Some ticket) q
hears_leaves old new g q ticket result (Some r) fault h heard =
    polled_leaves old new g q ticket h heard.2
    (ap (λ (x : ListingValue). x.grant) heard.1 ∙ left_grant g (Some ticket) r)
    (ap (λ (x : ListingValue). x.asked) heard.1 ∙ left_unasked g (Some ticket) r)
hears_leaves old new g q ticket result None (Some fault) h heard =
    polled_leaves old new g q ticket h heard.2 (ap (λ (x : ListingValue). x.grant) heard.1)
    (ap (λ (x : ListingValue). x.asked) heard.1)
hears_leaves old new g q ticket result None None h heard = leaves_same old new (spent g (Some ticket)) q heard.1 heard.2
    h

-- ---- a poll of a listing with nothing left to give

pub lists_asked : (old new : Core) (p r q : ListingValue) (asked : Option ℕ) (result : ListingAnswer) → p.ended ≡ false
    → p.entries ≡ []
    → p.asked ≡ None → asked ≡ None → r ≡ record p { asked = asked } → IsListing old p → AsksMore old new r q result
    → PollsEntries old new p q result
lists_asked old new p r q asked result on none free unasked is h more =
    let now : spent p.grant None ≡ p = λ i. record {
      grant = p.grant;
      entries = sym none i;
      asked = sym free i;
      ended =
          sym on i;
    } in
    let same : r ≡ spent p.grant None = is ∙ (λ i. record {
      grant = p.grant;
      entries = none i;
      asked = unasked i;
      ended = on i;
    }) in
    let asks : AsksMore old new (spent p.grant None) q result =
    subst (λ (x : ListingValue). AsksMore old new x q result) same more in
    let held : IsListing old (spent p.grant None) = subst (λ (x : ListingValue). IsListing old x) (sym now) h in
    subst (λ (x : ListingValue). PollsEntries old new x q result) now
    (lists_by old new (spent p.grant None) q result asks (asks_leaves old new p.grant q result held asks))

pub lists_heard : (old new : Core) (p r q : ListingValue) (asked : Option ℕ) (ticket : ℕ) (result : ListingAnswer)
    → p.ended ≡ false
    → p.entries ≡ [] → p.asked ≡ Some ticket → asked ≡ None → r ≡ record p { asked = asked } → IsListing old p
    → TakesListingReply old new r q ticket result → PollsEntries old new p q result
lists_heard old new p r q asked ticket result on none out unasked is h heard =
    let now : spent p.grant (Some ticket) ≡ p = λ i. record {
      grant = p.grant;
      entries = sym none i;
      asked = sym out i;
      ended = sym on i;
    } in
    let same : r ≡ spent p.grant None = is ∙ (λ i. record {
      grant = p.grant;
      entries = none i;
      asked = unasked i;
      ended = on i;
    }) in
    let hears : HearsOf old new (spent p.grant (Some ticket)) q result ticket (reply_in (record_at old ticket))
    old.fault =
    hears_alike old new p.grant q ticket result (reply_in (record_at old ticket)) old.fault
    (subst (λ (x : ListingValue). TakesListingReply old new x q ticket result) same heard) in
    let held : IsListing old (spent p.grant (Some ticket)) = subst (λ (x : ListingValue). IsListing old x) (sym now) h
    in
    subst (λ (x : ListingValue). PollsEntries old new x q result) now
    (lists_by old new (spent p.grant (Some ticket)) q result hears
    (hears_leaves old new p.grant q ticket result (reply_in (record_at old ticket)) old.fault held hears))
