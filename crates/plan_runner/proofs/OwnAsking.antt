-- What asks by its own requests alone asks as what leaves replies to its slots does.
use Rattle.std.proofs.Common.{◌≡◌, ◌∙◌, ℕ, List, [], Option, Some, Ok, Err, inl, refl, sym, subst}
use Rattle.std.specs.Prelude.{IfOk, Result}
use Rattle.ssh_encoding.specs.declared.out_of_memory.OutOfMemory.{OutOfMemory}
use Rattle.sftp_model.specs.declared.slot.Site.{Site}
use Rattle.plan_window.specs.declared.window.ReadAt.{ReadAt}
use Rattle.plan_runner.specs.declared.next.Asked.{Asked}
use Rattle.plan_runner.specs.declared.next.Next.{Next}
use Rattle.plan_runner.specs.declared.next.Next.TheVariants as step
use Rattle.plan_runner.specs.declared.next.Running.{Running}
use Rattle.plan_runner.specs.declared.next.Running.TheVariants as running
use Rattle.plan_runner.specs.Runners.{awaited_place}
use Rattle.plan_runner.specs.Pending.{own_place, reads_under}
use Rattle.plan_runner.specs.Asking.{AwaitsAsked, AsksOn, AsksOrDefers, AsksOwn, AwaitsOrDefers, BeginsAsking, GoesOnAsking, IsAmong, OwnOn}

-- a call awaits the reply to its own request, where it has one
pub own_awaited : (r : Running) (site : Site) (p : ℕ) → own_place (Some r) ≡ Some p → awaited_place r site ≡ Some p
own_awaited (running.Ending place ends) site p e = e
own_awaited (running.Opening place slot flags) site p e = e
own_awaited (running.Reading place slot file len) site p e = e
own_awaited (running.Gathering place slot file got left len) site p e = e
own_awaited (running.Sending place slot file len) site p e = e
own_awaited (running.Writing place slot file done) site p e = e
own_awaited (running.OpeningToWrite place) site p e = e
own_awaited (running.OpeningToRead place bound) site p e = e
own_awaited (running.ReadingWhole grant bound window) site p e = absurd cc
own_awaited (running.OpeningDirectory place bound) site p e = e
own_awaited (running.Listing place grant got bound) site p e = e
own_awaited (running.Copying place from to source target len) site p e = e
own_awaited (running.Flushing slot) site p e = absurd cc
own_awaited (running.AwaitingRoom slot start) site p e = absurd cc
own_awaited (running.Deferred slot count) site p e = absurd cc
own_awaited (running.DeferringRest slot done) site p e = absurd cc
own_awaited (running.FillingBuffer slot n offset own) site p e = absurd cc

-- and has no READ of a whole read under way
own_reads : (r : Running) (p : ℕ) → own_place (Some r) ≡ Some p → reads_under (Some r) ≡ []
own_reads (running.ReadingWhole grant bound window) p e = absurd cc
own_reads other p e = refl

-- and one place alone
pub same_place : (o : Option ℕ) (p q : ℕ) → o ≡ Some q → o ≡ Some p → p ≡ q
same_place o p q one other = (let same : ◌≡◌ {A = Option ℕ} (Some p) (Some q) = sym other ∙ one in cc)

-- whatever the site is then
own_asks : (opened : Option ℕ) (place : ℕ) (reads : List ReadAt) (old new : Site) (a : Asked) (r : Running)
    → AsksOwn opened place old a r → AsksOrDefers opened place reads old new a r
own_asks opened place reads old new a r asks = record {
  call = asks.call;
  named = asks.named;
  awaits = subst (λ (o : Option ℕ). AwaitsOrDefers o place a) (sym asks.awaits) refl;
  looks = inl (record {
    looks = λ p e. same_place (awaited_place r new) p place (own_awaited r new place asks.awaits) e;
    fits = asks.fits;
  });
  keeps = asks.keeps;
  under = λ x among. absurd (subst (λ (l : List ReadAt). IsAmong x l) (own_reads r place asks.awaits) among);
}

-- ---- what begins a call

pub own_begins : (opened : Option ℕ) (place : ℕ) (old new : Site) (n : Next) → AwaitsAsked opened place old n
    → BeginsAsking opened place old new n
own_begins opened place old new (step.Ask a r) asks = own_asks opened place [] old new a r asks
own_begins opened place old new (step.Wait r) asks = absurd asks
own_begins opened place old new (step.Done o) asks = tt

-- of what is refused only for want of memory
pub own_begins_if_ok : (opened : Option ℕ) (place : ℕ) (old new : Site) (n : Result Next OutOfMemory)
    → IfOk n (AwaitsAsked opened place old) → IfOk n (BeginsAsking opened place old new)
own_begins_if_ok opened place old new (Ok n) asks = own_begins opened place old new n asks
own_begins_if_ok opened place old new (Err e) asks = asks

-- ---- how a call goes on

pub own_goes_on : (opened : Option ℕ) (place : ℕ) (reads : List ReadAt) (old new : Site) (n : Next)
    → AsksOn opened place old n → GoesOnAsking opened place reads old new n
own_goes_on opened place reads old new (step.Ask a r) asks = (own_asks opened place reads old new a r asks.0, asks.1)
own_goes_on opened place reads old new (step.Wait r) asks = absurd asks
own_goes_on opened place reads old new (step.Done o) asks = tt

pub own_goes_on_if_ok : (opened : Option ℕ) (place : ℕ) (reads : List ReadAt) (old new : Site)
    (n : Result Next OutOfMemory) → IfOk n (AsksOn opened place old) → IfOk n (GoesOnAsking opened place reads old new)
own_goes_on_if_ok opened place reads old new (Ok n) asks = own_goes_on opened place reads old new n asks
own_goes_on_if_ok opened place reads old new (Err e) asks = asks

-- and awaits just what it asks
pub own_on : (opened : Option ℕ) (place : ℕ) (site : Site) (n : Next) → AsksOn opened place site n → OwnOn place n
own_on opened place site (step.Ask a r) asks = asks.0.awaits
own_on opened place site (step.Wait r) asks = asks
own_on opened place site (step.Done o) asks = tt

pub own_on_if_ok : (opened : Option ℕ) (place : ℕ) (site : Site) (n : Result Next OutOfMemory)
    → IfOk n (AsksOn opened place site) → IfOk n (OwnOn place)
own_on_if_ok opened place site (Ok n) asks = own_on opened place site n asks
own_on_if_ok opened place site (Err e) asks = asks
