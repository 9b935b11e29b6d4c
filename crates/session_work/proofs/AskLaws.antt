-- What a lane asked of its core, and what a turn was whose reply came.
use Rattle.std.proofs.Common.{◌≡◌, ◌++◌, ◌∷◌, [], ℕ, true, false, List, Option, Some, None, Ok, Err, refl, ap, sym, ◌∙◌, subst, arith, inl, inr}
use Rattle.std.proofs.lemmas.Bool.Decides.{eqb_tells}
use Rattle.std.specs.Prelude.{IfOk, Result, slice_get}
use Rattle.ssh_encoding.specs.declared.out_of_memory.OutOfMemory.{OutOfMemory}
use Rattle.sftp_model.specs.declared.reply.Reply.{Reply}
use Rattle.sftp_model.specs.declared.request.Request.{Request}
use Rattle.sftp_model.specs.declared.slot.Facts.{Facts}
use Rattle.sftp_model.specs.declared.request.Request.TheVariants as request
use Rattle.sftp_model.specs.declared.reply.Reply.TheVariants as reply
use Rattle.sftp_model.specs.declared.slot.Site.{Site}
use Rattle.sftp_core.specs.Core.{Core, IsGrant, record_at, is_call, queued_last, release_gives, reply_in, users_of}
use Rattle.sftp_core.specs.Grant.{GrantValue}
use Rattle.sftp_core.specs.declared.id_record.IdRecord.TheVariants.{Granted}
use Rattle.plan_runner.specs.declared.next.Asked.{Asked}
use Rattle.plan_runner.specs.declared.next.Asked.TheVariants as ask
use Rattle.plan_runner.specs.declared.next.Next.{Next}
use Rattle.plan_runner.specs.declared.next.Next.TheVariants as step
use Rattle.plan_runner.specs.declared.next.Running.{Running}
use Rattle.plan_runner.specs.declared.next.Running.TheVariants as running
use Rattle.plan_runner.specs.Runners.{awaited_place}
use Rattle.plan_runner.specs.Asking.{
  BeginsAsking,
  GoesOnAsking,
  GoesOnBy,
  HasGrant,
  IsNoClose,
  IsPlain,
  NamesGrants,
  ReadsOn,
  WidensAsking,
  is_window,
  opened_after,
  opened_by,
}
use Rattle.plan_model.specs.declared.call.Call.{Call}
use Rattle.session_model.specs.Grants.{is_close}
use Rattle.session_laws.specs.Lanes.{Held, LaneValue, Ticketed, grant_places}
use Rattle.session_laws.specs.Places.{is_in}
use Rattle.session_laws.specs.Running.{grants_named}
use Rattle.session_laws.proofs.HoldLaws.{in_more, places_push}
use Rattle.session_laws.proofs.PlaceLaws.{push_self}
use Rattle.session_laws.specs.Rest.{opened_in}
use Rattle.session_work.specs.Tokens.{IsFilledBy, SpendsTicket, grants_with}
use Rattle.session_work.specs.Turning.{
  AsksOrCloses,
  ClosesNothing,
  HoldsNamed,
  IsActive,
  MayAsk,
  SettlesMove,
  SettlesMeanwhile,
  SubmitsRequest,
  TurnsLane,
  Replied,
  Unreplied,
  Waiting,
  Widening,
  AnswersUnreplied,
  WentOn,
}
use Rattle.plan_window.specs.declared.window.ReadAt.{ReadAt}
use Rattle.plan_runner.specs.Pending.{own_place, reads_under}
use Rattle.session_work.specs.declared.lane.Moved.{Moved}

-- ---- requests

pub no_close : (a : Asked) → ((g : ℕ) → a ≡ ask.Close g → ⊥) → IsNoClose a
no_close (ask.Close g) other = absurd (other g refl)
no_close a other = tt

plainly : (old new : Core) (tickets now : List Ticketed) (grants : List Held) (place id : ℕ) (a : Asked) (r : Request)
    → IsNoClose a → SubmitsRequest old new tickets now grants grants place a id r
    → AsksOrCloses old new tickets now grants grants place a id r
plainly old new tickets now grants place id (ask.Close g) r other x = absurd other
plainly old new tickets now grants place id a r other x = x

pub submits : (old new : Core) (tickets now : List Ticketed) (grants : List Held) (place t id : ℕ) (a : Asked)
    (r : Request) → IsNoClose a → IsFilledBy grants a r → is_close r ≡ false → id ≡ t → record_at old t ≡ None → new
    ≡ queued_last old t r true
    → now ≡ tickets ++ (record { place = place; ticket = t }) ∷ []
    → AsksOrCloses old new tickets now grants grants place a id r
submits old new tickets now grants place t id a r other filled plain same free core pushed =
    plainly old new tickets now grants place id a r other
    (record {
      filled = filled;
      plain = plain;
      free = ap (record_at old) same ∙ free;
      core = core ∙ ap (λ (n : ℕ). queued_last old n r true) (sym same);
      pushed = pushed ∙ ap (λ (n : ℕ). tickets ++ (record { place = place; ticket = n }) ∷ []) (sym same);
      kept = refl;
    })

-- ---- the CLOSE of a grant

one_user : (core : Core) (g : GrantValue) → record_at core g.id ≡ Some (Granted g.handle 1)
    → users_of (record_at core g.id) ≡ 1
one_user core g here = ap users_of here

pub grant_is : (core : Core) (g : GrantValue) → record_at core g.id ≡ Some (Granted g.handle 1) → IsGrant core g
grant_is core g here =
    (let one : users_of (record_at core g.id) ≡ 1 = one_user core g here in
    record { kept = here ∙ ap (λ (n : ℕ). Some (Granted g.handle n)) (sym one); used = omega (arith, one) })

pub last_gives : (core : Core) (g : GrantValue) → record_at core g.id ≡ Some (Granted g.handle 1)
    → release_gives g (users_of (record_at core g.id)) ≡ Some g.id
last_gives core g here = ap (release_gives g) (one_user core g here)

-- ---- a turn whose reply came

pub turned_replied : (c : Call) (facts : Facts) (place : ℕ) (core between new : Core) (v now : LaneValue) (r : Running)
    (p : ℕ) (y : Reply) (tickets : List Ticketed) (grants : List Held) (n : Next) (o : Result Moved OutOfMemory)
    → v.running ≡ Some r
    → awaited_place r v.site ≡ Some p → SpendsTicket core between v.tickets tickets v.grants grants p y
    → WentOn r (Some y) c facts place v.site now.site n → GoesOnAsking (opened_after r (Some y)) place
    (reads_under (Some r)) v.site now.site n → GoesOnBy r (Some y) place facts n → now.ended ≡ v.ended
    → IfOk o (λ m. SettlesMove between new tickets now.tickets grants now.grants now.running place n m)
    → IfOk o (λ m. TurnsLane c facts place core new v now m)
turned_replied c facts place core between new v now r p y tickets grants n (Err e) was looks spent ran asks by ended
    settles = settles
turned_replied c facts place core between new v now r p y tickets grants n (Ok m) was looks spent ran asks by ended
    settles =
    Replied (record {
      answer = n;
      ended = ended;
      asks = asks;
      by = by;
      running = r;
      awaits = p;
      reply = y;
      between = between;
      tickets = tickets;
      grants = grants;
      was = was;
      looks = looks;
      spent = spent;
      ran = ran;
      settles = settles;
    })

-- and one that awaited none
pub turned_unreplied : (c : Call) (facts : Facts) (place : ℕ) (core new : Core) (v now : LaneValue) (r : Running)
    (n : Next) (o : Result Moved OutOfMemory) → v.running ≡ Some r → awaited_place r v.site ≡ None
    → WentOn r None c facts place v.site now.site n
    → GoesOnAsking (opened_after r None) place (reads_under (Some r)) v.site now.site n → GoesOnBy r None place facts n
    → now.ended ≡ v.ended → IfOk o (λ m. SettlesMove core new v.tickets now.tickets v.grants now.grants now.running
    place n m) → IfOk o (λ m. TurnsLane c facts place core new v now m)
turned_unreplied c facts place core new v now r n (Err e) was looks ran asks by ended settles = settles
turned_unreplied c facts place core new v now r n (Ok m) was looks ran asks by ended settles =
    Unreplied (record {
      answer = n;
      ended = ended;
      running = r;
      was = was;
      looks = looks;
      asks = asks;
      by = by;
      ran =
          ran;
      settles = settles;
    })

-- ---- what a runner may ask

pub plain_call : (r : Request) → IsPlain r → (is_call r ≡ true) × (is_close r ≡ false)
plain_call (request.Init version) p = absurd p
plain_call request.LimitsQuery p = absurd p
plain_call (request.Close handle) p = absurd p
plain_call (request.Read handle offset len) p = absurd p
plain_call (request.Write handle offset content) p = absurd p
plain_call (request.Fstat handle) p = absurd p
plain_call (request.Fsetstat handle attrs) p = absurd p
plain_call (request.Readdir handle) p = absurd p
plain_call (request.Fsync handle) p = absurd p
plain_call (request.CopyData from from_offset len to to_offset) p = absurd p
plain_call r p = (refl, refl)

one : (Has : ℕ → Type 0) (h g : ℕ) → Has h → is_in g (h ∷ []) ≡ true → Has g
one Has h g n has = elim (eqb_tells h g) [
  | inl t ↦ subst Has t.1 n
  | inr t ↦
      absurd (let no : is_in g (h ∷ []) ≡ false = rw t.0 refl in cc)
]

two : (Has : ℕ → Type 0) (h k g : ℕ) → Has h × Has k → is_in g (h ∷ k ∷ []) ≡ true → Has g
two Has h k g n has = elim (eqb_tells h g) [
  | inl t ↦ subst Has t.1 n.0
  | inr t ↦ one Has k g n.1 (let rest : is_in g (h ∷ k ∷ []) ≡ is_in g (k ∷ []) = rw t.0 refl in sym rest ∙ has)
]

-- each grant that a request names is among those that it names by its fields
named_each : (Has : ℕ → Type 0) (a : Asked) (g : ℕ) → NamesGrants Has a → is_in g (grants_named a) ≡ true → Has g
named_each Has (ask.Plain r) g n has = absurd cc
named_each Has (ask.Close h) g n has = one Has h g n has
named_each Has (ask.Read h offset len) g n has = one Has h g n has
named_each Has (ask.Write h offset content) g n has = one Has h g n has
named_each Has (ask.Fstat h) g n has = one Has h g n has
named_each Has (ask.Fsetstat h attrs) g n has = one Has h g n has
named_each Has (ask.Readdir h) g n has = one Has h g n has
named_each Has (ask.Fsync h) g n has = one Has h g n has
named_each Has (ask.CopyData from x len to y) g n has = two Has from to g n has

-- the request of a call that may name what these grants are
pub may_ask : (opened : Option ℕ) (place : ℕ) (old new : Site) (grants : List Held) (n : Next)
    → BeginsAsking opened place old new n → ((g : ℕ) → HasGrant old opened g → is_in g (grant_places grants) ≡ true)
    → MayAsk grants n
may_ask opened place old new grants (step.Ask a r) x held = (
  λ g has. held g
      (named_each (HasGrant old opened) a g x.named has),
  x.call,
)
may_ask opened place old new grants (step.Wait r) x held = tt
may_ask opened place old new grants (step.Done o) x held = tt

pub may_ask_on : (opened : Option ℕ) (place : ℕ) (reads : List ReadAt) (old new : Site) (grants : List Held) (n : Next)
    → GoesOnAsking opened place reads old new n → ((g : ℕ) → HasGrant old opened g → is_in g (grant_places grants)
    ≡ true) → MayAsk grants n
may_ask_on opened place reads old new grants (step.Ask a r) x held =
    (λ g has. held g (named_each (HasGrant old opened) a g x.0.named has), x.0.call)
may_ask_on opened place reads old new grants (step.Wait r) x held = tt
may_ask_on opened place reads old new grants (step.Done o) x held = tt

pub may_ask_more : (running : Running) (place : ℕ) (site : Site) (grants : List Held) (n : Next)
    → WidensAsking running place site n → ((g : ℕ) → HasGrant site (opened_by running) g → is_in g (grant_places grants)
    ≡ true) → MayAsk grants n
may_ask_more running place site grants (step.Ask a r) x held =
    (λ g has. held g (named_each (HasGrant site (opened_by running)) a g x.1.named has), x.1.call)
may_ask_more running place site grants (step.Wait r) x held = tt
may_ask_more running place site grants (step.Done o) x held = tt

pub closes_nothing : (opened : Option ℕ) (place : ℕ) (reads : List ReadAt) (old new : Site) (n : Next)
    → GoesOnAsking opened place reads old new n → ClosesNothing n
closes_nothing opened place reads old new (step.Ask (ask.Close g) r) x = absurd x.1
closes_nothing opened place reads old new (step.Ask a r) x = tt
closes_nothing opened place reads old new (step.Wait r) x = tt
closes_nothing opened place reads old new (step.Done o) x = tt

-- what asks while a reply is missing goes on
pub widens_on : (running : Running) (place : ℕ) (site : Site) (n : Next) → IsActive n
    → WidensAsking running place site n → GoesOnAsking (opened_by running) place (reads_under (Some running)) site site
    n
widens_on running place site (step.Ask a r) active x = (x.1, x.2)
widens_on running place site (step.Wait r) active x = absurd active
widens_on running place site (step.Done o) active x = tt

-- and it awaits no reply to a request of its own
pub widens_others : (running : Running) (place : ℕ) (site : Site) (n : Next) → IsActive n
    → WidensAsking running place site n → own_place (Some running) ≡ None
widens_others running place site (step.Ask a r) active x = x.0
widens_others running place site (step.Wait r) active x = absurd active
widens_others running place site (step.Done o) active x = x

-- ---- a turn whose reply is missing

pub turned_meanwhile : (c : Call) (facts : Facts) (place : ℕ) (core new : Core) (v now : LaneValue) (r : Running)
    (k : ℕ) (t : Ticketed) (n : Next) (o : Result Moved OutOfMemory) → v.running ≡ Some r → awaited_place r v.site
    ≡ Some t.place → slice_get v.tickets k ≡ Some t → reply_in (record_at core t.ticket) ≡ None
    → AnswersUnreplied r c facts place v.site n → WidensAsking r place v.site n
    → (is_window r ≡ true → ReadsOn place (reads_under (Some r)) facts n) → now.site ≡ v.site → now.ended ≡ v.ended
    → IfOk o (λ m. SettlesMeanwhile core new v.tickets now.tickets v.grants now.grants now.running place n m)
    → IfOk o (λ m. TurnsLane c facts place core new v now m)
turned_meanwhile c facts place core new v now r k t n (Err e) was looks here missing ran asks reads site ended settles =
    settles
turned_meanwhile c facts place core new v now r k t (step.Wait then) (Ok m) was looks here missing ran asks reads site
    ended settles =
    Waiting (record {
      running = r;
      k = k;
      ticket = t;
      was = was;
      looks = looks;
      here = here;
      missing = missing;
      idles = ran.goes.1;
      is = settles.2;
      core = settles.0.core;
      same = λ i. record {
        running = (settles.1 ∙ ap (λ (x : Running). Some x) ran.goes.0 ∙ sym was) i;
        site = site i;
        tickets = settles.0.pushed i;
        grants = settles.0.kept i;
        ended = ended i;
      };
    })
turned_meanwhile c facts place core new v now r k t (step.Ask a then) (Ok m) was looks here missing ran asks reads site
    ended settles =
    Widening (record {
      answer = step.Ask a then;
      active = tt;
      ended = ended;
      running = r;
      k = k;
      ticket = t;
      was = was;
      looks = looks;
      here = here;
      missing = missing;
      site = site;
      asks = asks;
      reads = reads;
      ran = ran;
      settles =
          settles;
    })
turned_meanwhile c facts place core new v now r k t (step.Done o) (Ok m) was looks here missing ran asks reads site
    ended settles =
    Widening (record {
      answer = step.Done o;
      active = tt;
      ended = ended;
      running = r;
      k = k;
      ticket = t;
      was = was;
      looks = looks;
      here = here;
      missing = missing;
      site = site;
      asks = asks;
      reads = reads;
      ran = ran;
      settles =
          settles;
    })

-- ---- the grants that a call may name after a reply

pushed_has : (grants : List Held) (h : Held) (g : ℕ) → is_in g (grant_places grants) ≡ true
    → is_in g (grant_places (grants ++ h ∷ [])) ≡ true
pushed_has grants h g has = ap (is_in g) (places_push grants h) ∙ in_more (grant_places grants) h.place g has

pushed_here : (grants : List Held) (h : Held) → is_in h.place (grant_places (grants ++ h ∷ [])) ≡ true
pushed_here grants h = ap (is_in h.place) (places_push grants h) ∙ push_self (grant_places grants) h.place

more_grants : (grants : List Held) (place ticket g : ℕ) (y : Reply) → is_in g (grant_places grants) ≡ true
    → is_in g (grant_places (grants_with grants place ticket y)) ≡ true
more_grants grants place ticket g (reply.Handle h) has = pushed_has grants
    (record { place = place; grant = record { id = ticket; handle = h } }) g has
more_grants grants place ticket g y has = has

new_grant : (grants : List Held) (place ticket : ℕ) (h : List ℕ)
    → is_in place (grant_places (grants_with grants place ticket (reply.Handle h))) ≡ true
new_grant grants place ticket h = pushed_here grants (record
    { place = place; grant = record { id = ticket; handle = h } })

-- the grant that it opened is one that it had, or that this reply brought
opened_held : (v : LaneValue) (r : Running) (y : Reply) (p ticket g : ℕ) → v.running ≡ Some r → awaited_place r v.site
    ≡ Some p → HoldsNamed v → opened_after r (Some y) ≡ Some g
    → is_in g (grant_places (grants_with v.grants p ticket y)) ≡ true
opened_held v (running.OpeningToWrite place) (reply.Handle h) p ticket g was looks held e =
    (let same : p ≡ g = (let a : ◌≡◌ {A = Option ℕ} (Some p) (Some g) = sym looks ∙ e in cc) in
    subst (λ (q : ℕ). is_in q (grant_places (grants_with v.grants p ticket (reply.Handle h))) ≡ true) same
    (new_grant v.grants p ticket h))
opened_held v (running.OpeningDirectory place bound) (reply.Handle h) p ticket g was looks held e =
    (let same : p ≡ g = (let a : ◌≡◌ {A = Option ℕ} (Some p) (Some g) = sym looks ∙ e in cc) in
    subst (λ (q : ℕ). is_in q (grant_places (grants_with v.grants p ticket (reply.Handle h))) ≡ true) same
    (new_grant v.grants p ticket h))
opened_held v (running.OpeningToRead place bound) (reply.Handle h) p ticket g was looks held e =
    (let same : p ≡ g = (let a : ◌≡◌ {A = Option ℕ} (Some p) (Some g) = sym looks ∙ e in cc) in
    subst (λ (q : ℕ). is_in q (grant_places (grants_with v.grants p ticket (reply.Handle h))) ≡ true) same
    (new_grant v.grants p ticket h))
opened_held v r y p ticket g was looks held e = more_grants v.grants p ticket g y (held g (inr (ap opened_in was ∙ e)))

pub held_after : (v : LaneValue) (r : Running) (y : Reply) (p ticket : ℕ) → v.running ≡ Some r → awaited_place r v.site
    ≡ Some p → HoldsNamed v → (g : ℕ) → HasGrant v.site (opened_after r (Some y)) g
    → is_in g (grant_places (grants_with v.grants p ticket y)) ≡ true
held_after v r y p ticket was looks held g (inl has) = more_grants v.grants p ticket g y (held g (inl has))
held_after v r y p ticket was looks held g (inr e) = opened_held v r y p ticket g was looks held e

-- where no call runs it may name what the slots have
pub held_first : (v : LaneValue) → HoldsNamed v → (g : ℕ) → HasGrant v.site None g → is_in g (grant_places v.grants)
    ≡ true
held_first v held g (inl has) = held g (inl has)
held_first v held g (inr e) = absurd cc

-- where it goes on without a reply it may name what it might before
pub held_on : (v : LaneValue) (r : Running) → v.running ≡ Some r → HoldsNamed v → (g : ℕ)
    → HasGrant v.site (opened_after r None) g → is_in g (grant_places v.grants) ≡ true
held_on v r was held g (inl has) = held g (inl has)
held_on v r was held g (inr e) = held g (inr (ap opened_in was ∙ (sym (nothing_opens r) ∙ e)))
  where
    nothing_opens : (x : Running) → opened_after x None ≡ opened_in (Some x)
    nothing_opens (running.OpeningToWrite place) = refl
    nothing_opens (running.OpeningToRead place bound) = refl
    nothing_opens (running.OpeningDirectory place bound) = refl
    nothing_opens x = refl
