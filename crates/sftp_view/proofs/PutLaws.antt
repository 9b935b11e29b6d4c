-- Bytes that are written call by call.
use Rattle.std.proofs.Common.{◌≡◌, ℕ, List, ap, sym, subst}
use Rattle.std.specs.Prelude.{Result, Ok, Err}
use Rattle.sftp_model.specs.declared.error.Error.{Error}
use Rattle.plan_model.specs.declared.call.Call.{Call}
use Rattle.session_model.specs.declared.entry.Entry.{Entry}
use Rattle.session_driver.specs.Ongoing.{RunState}
use Rattle.view_model.specs.Viewed.{
  Doing,
  Found,
  close_file_call,
  makes,
  makes_and_writes,
  open_call,
  pure,
  put_at,
  put_of,
  seek_call,
  unless_refused,
  write_file_call,
  write_bytes,
  ◌>>=◌,
}
use Rattle.view_model.specs.declared.answer.Answer.{Answer}
use Rattle.view_model.specs.declared.answer.Answer.TheVariants as answer
use Rattle.sftp_view.specs.Doings.{MayDo, DoesBySession}
use Rattle.sftp_view.proofs.FewLaws.{may_first}
use Rattle.sftp_view.proofs.RunLaws.{bound, gives, may_on, stopped, then_on}

-- what follows once the bytes were written, once the file stands at the offset, and once it is open
abbrev pub after_write : Found → Doing Answer
after_write wrote = makes close_file_call >>= λ closed. pure (put_of wrote)

abbrev pub after_seek : List ℕ → Found → Doing Answer
after_seek content sought = makes (write_file_call content) >>= after_write

abbrev pub after_open : ℕ → List ℕ → Found → Doing Answer
after_open offset content opened = unless_refused opened (λ code. answer.Refused code) (put_at offset content)

may_make : (c call : Call) (k : Found → Doing Answer) (past : List Entry) → call ≡ c → MayDo (makes c >>= k) past
    → MayDo (makes call) past
may_make c call k past is may = subst (λ (x : Call). MayDo (makes x) past) (sym is) (may_first (makes c) k may)

pub may_seek : (offset : ℕ) (content : List ℕ) (call : Call) {past : List Entry} → call ≡ seek_call offset
    → MayDo (put_at offset content) past → MayDo (makes call) past
may_seek offset content call {past = past} is may = may_make (seek_call offset) call (after_seek content) past is may

pub may_open : (path : List ℕ) (offset : ℕ) (content : List ℕ) (call : Call) {past : List Entry} → call
    ≡ open_call makes_and_writes path
    → MayDo (write_bytes path offset content) past → MayDo (makes call) past
may_open path offset content call {past = past} is may = may_make (open_call makes_and_writes path) call
    (after_open offset content) past is may

module _ {S : Type 0} where
  made : (c call : Call) {a b : RunState S} {result : Result Found Error} → call ≡ c
      → DoesBySession (makes call) pure a b result → DoesBySession (makes c) pure a b result
  made c call {a = a} {b = b} {result = result} is run = subst (λ (x : Call). DoesBySession (makes x) pure a b result)
      is run

  pub sought : (offset : ℕ) (content : List ℕ) (call : Call) {a b : RunState S} {found : Found} → call
      ≡ seek_call offset → DoesBySession (makes call) pure a b (Ok found)
      → DoesBySession (put_at offset content) (after_seek content) a b (Ok found)
  sought offset content call is run = bound {k = after_seek content} (made (seek_call offset) call is run)

  pub may_write : (offset : ℕ) (content : List ℕ) (call : Call) {a b : RunState S} {found : Found} → call
      ≡ write_file_call content
      → MayDo (put_at offset content) a.seen.progress.past
      → DoesBySession (put_at offset content) (after_seek content) a b (Ok found)
      → MayDo (makes call) b.seen.progress.past
  may_write offset content call {b = b} is may run = may_make (write_file_call content) call after_write
      b.seen.progress.past is (may_on may run)

  pub sought_stopped : (offset : ℕ) (content : List ℕ) (call : Call) {a b c : RunState S} {found : Found} {e : Error}
      → DoesBySession (put_at offset content) (after_seek content) a b (Ok found)
      → DoesBySession (makes call) pure b c (Err e) → DoesBySession (put_at offset content) pure a c (Err e)
  sought_stopped offset content call run rest = then_on run (stopped rest)

  pub wrote_all : (offset : ℕ) (content : List ℕ) (call : Call) {a b c : RunState S} {found wrote : Found} → call
      ≡ write_file_call content
      → DoesBySession (put_at offset content) (after_seek content) a b (Ok found)
      → DoesBySession (makes call) pure b c (Ok wrote)
      → DoesBySession (put_at offset content) after_write a c (Ok wrote)
  wrote_all offset content call is run rest = then_on run (bound {k = after_write}
      (made (write_file_call content) call is rest))

  pub may_close : (offset : ℕ) (content : List ℕ) (call : Call) {a b : RunState S} {wrote : Found} → call
      ≡ close_file_call → MayDo (put_at offset content) a.seen.progress.past
      → DoesBySession (put_at offset content) after_write a b (Ok wrote) → MayDo (makes call) b.seen.progress.past
  may_close offset content call {b = b} {wrote = wrote} is may run =
      may_make close_file_call call (λ closed. pure (put_of wrote)) b.seen.progress.past is (may_on may run)

  pub wrote_stopped : (offset : ℕ) (content : List ℕ) (call : Call) {a b c : RunState S} {wrote : Found} {e : Error}
      → DoesBySession (put_at offset content) after_write a b (Ok wrote) → DoesBySession (makes call) pure b c (Err e)
      → DoesBySession (put_at offset content) pure a c (Err e)
  wrote_stopped offset content call run rest = then_on run (stopped rest)

  pub closed : (offset : ℕ) (content : List ℕ) (call : Call) {a b c : RunState S} {wrote any : Found} → (said : Answer)
      → call ≡ close_file_call → said ≡ put_of wrote
      → DoesBySession (put_at offset content) after_write a b (Ok wrote) → DoesBySession (makes call) pure b c (Ok any)
      → DoesBySession (put_at offset content) pure a c (Ok said)
  closed offset content call {wrote = wrote} said is same run rest =
      then_on run (gives said (bound {k = λ (c : Found). pure (put_of wrote)} (made close_file_call call is rest))
      (ap (λ (a : Answer). pure a) (sym same)))

  -- ---- the file is open, or that was refused

  pub open_refused : (path : List ℕ) (offset : ℕ) (content : List ℕ) (call : Call) {a b : RunState S} {found : Found}
      (code : ℕ) → call ≡ open_call makes_and_writes path
      → found ≡ Err code → DoesBySession (makes call) pure a b (Ok found)
      → DoesBySession (write_bytes path offset content) pure a b (Ok (answer.Refused code))
  open_refused path offset content call code is refused run =
      gives (answer.Refused code) (bound {k = after_open offset content}
      (made (open_call makes_and_writes path) call is run)) (ap (after_open offset content) refused)

  open_granted : (path : List ℕ) (offset : ℕ) (content bytes : List ℕ) (call : Call) {a b : RunState S} {found : Found}
      → call ≡ open_call makes_and_writes path
      → found ≡ Ok bytes → DoesBySession (makes call) pure a b (Ok found)
      → DoesBySession (write_bytes path offset content) (λ (u : Unit {0}). put_at offset content) a b (Ok tt)
  open_granted path offset content bytes call is granted run =
      gives tt (bound {k = after_open offset content} (made (open_call makes_and_writes path) call is run))
      (ap (after_open offset content) granted)

  pub may_put_at : (path : List ℕ) (offset : ℕ) (content bytes : List ℕ) (call : Call) {a b : RunState S}
      {found : Found} → call ≡ open_call makes_and_writes path
      → found ≡ Ok bytes → MayDo (write_bytes path offset content) a.seen.progress.past
      → DoesBySession (makes call) pure a b (Ok found)
      → MayDo (put_at offset content) b.seen.progress.past
  may_put_at path offset content bytes call is granted may run =
      may_on may (open_granted path offset content bytes call is granted run)

  pub open_put : (path : List ℕ) (offset : ℕ) (content bytes : List ℕ) (call : Call) {a b c : RunState S}
      {found : Found} {result : Result Answer Error}
      → call ≡ open_call makes_and_writes path → found ≡ Ok bytes → DoesBySession (makes call) pure a b (Ok found)
      → DoesBySession (put_at offset content) pure b c result
      → DoesBySession (write_bytes path offset content) pure a c result
  open_put path offset content bytes call is granted run rest =
      then_on (open_granted path offset content bytes call is granted run) rest
