-- Names that the requests of a call avoid, and pass by.
use Rattle.std.proofs.Common.{◌≡◌, ℕ, true, false, List, Some, ap, sym, ◌∙◌, subst, inl, inr}
use Rattle.std.proofs.lemmas.Bool.{both_ways, false_from_ne_true}
use Rattle.sftp_model.specs.declared.flags.OpenFlags.{OpenFlags}
use Rattle.sftp_model.specs.declared.request.Request.{Request}
use Rattle.sftp_model.specs.declared.request.Request.TheVariants as request
use Rattle.machine_model.proofs.NameLaws.{names_tell}
use Rattle.machine_model.specs.Components.{Name, components, same_name}
use Rattle.sftp_model.specs.OpenOptions.{flags_of}
use Rattle.plan_model.specs.FilePlans.{open_request}
use Rattle.plan_model.specs.WholePlans.{to_replace}
use Rattle.plan_model.specs.WindowPlans.{to_read}
use Rattle.plan_model.specs.declared.call.Call.{Call}
use Rattle.plan_model.specs.declared.call.Call.TheVariants as call
use Rattle.session_model.specs.declared.entry.Entry.{Entry}
use Rattle.session_model.specs.Calls.{Setting}
use Rattle.session_model.specs.Readings.{AskedRequest, asked_at}
use Rattle.run_laws.specs.Bearing.{grant_used_at}
use Rattle.run_laws.specs.GrantUses.{WritesBy}
use Rattle.run_laws.specs.InJournals.{PassesAt, is_open_of, opens_at}
use Rattle.run_laws.specs.Sparing.{AvoidsName}
use Rattle.run_laws.proofs.UsedLaws.{some_is}
use Rattle.run_laws.specs.NameCalls.{may_own}
use Rattle.run_laws.specs.RoundTrips.{WritesWhole}
use Rattle.run_laws.proofs.OffRequests.{handle_off}
use Rattle.run_laws.proofs.WholeMoves.{IsRead}
use Rattle.run_laws.proofs.CallRequests.{WritesAt, IsAskOf, IsAsked}

-- ---- names that requests avoid, and pass by

read_avoids : (name : Name) (r : Request) → IsRead r → AvoidsName name r
read_avoids name (request.Read handle offset len) x = record { denotes = λ d. d; moves = λ old to d. absurd d }
read_avoids name other x = absurd x

write_avoids : (s : Setting) (past : List Entry) (name : Name) (place : ℕ) (path : List ℕ) (r : Request)
    → WritesAt s past place path r → AvoidsName name r
write_avoids s past name place path (request.Write handle offset content) x =
    record { denotes = λ d. d; moves = λ old to d. absurd d }
write_avoids s past name place path other x = absurd x

open_avoids : (name : Name) (flags : OpenFlags) (path : List ℕ) (r : Request) → r ≡ open_request flags path
    → is_open_of name r ≡ false → AvoidsName name r
open_avoids name flags path r e plain =
    let apart : same_name (components path) name ≡ false = sym (ap (is_open_of name) e) ∙ plain in
    subst (AvoidsName name) (sym e) (record {
      denotes = λ d. both_ways (same_name (components path) name) apart
          ((names_tell (components path) name).1 d.1);
      moves = λ old to d. absurd d;
    })

-- a request that isn't an OPEN of the name avoids it
pub avoids_plain : (s : Setting) (past : List Entry) (name : Name) (place : ℕ) (c : Call) (r : Request)
    → IsAskOf name s past place c r → is_open_of name r ≡ false → AvoidsName name r
avoids_plain s past name place (call.FsRead path bound) r (inl e) plain = open_avoids name to_read path r e plain
avoids_plain s past name place (call.FsRead path bound) r (inr x) plain = read_avoids name r x
avoids_plain s past name place (call.FsWrite path bytes) r (inl e) plain = open_avoids name to_replace path r e plain
avoids_plain s past name place (call.FsWrite path bytes) r (inr x) plain = write_avoids s past name place path r x
avoids_plain s past name place (call.OpenFile slot options path) r x plain =
    open_avoids name (flags_of options) path r x plain
avoids_plain s past name place (call.BufWriteAll slot bytes) r x plain = (handle_off name r x).0
avoids_plain s past name place other r x plain = x.0.0

-- the call may make or empty the name's file by its path, or write to what it opened
abbrev pub MayWrite : Name → Call → Type 0
MayWrite name (call.FsWrite path bytes) = components path ≡ name
MayWrite name (call.OpenFile slot options path) = Unit {0}
MayWrite name (call.BufWriteAll slot bytes) = Unit {0}
MayWrite name other = ⊥

-- a call that the lane may make where it buffers nothing is none but a whole write
pub own_writes : (name : Name) (c : Call) → may_own name c ≡ true → MayWrite name c → WritesWhole name c
own_writes name (call.FsWrite path bytes) e w = w
own_writes name (call.OpenFile slot options path) e w = absurd cc
own_writes name (call.BufWriteAll slot bytes) e w = absurd cc
own_writes name other e w = w

-- what a call asks that doesn't write the name avoids it
avoids_so : (s : Setting) (past : List Entry) (name : Name) (place : ℕ) (c : Call) (r : Request)
    → IsAskOf name s past place c r → (MayWrite name c → ⊥) → AvoidsName name r
avoids_so s past name place (call.FsRead path bound) r (inl e) spares =
    subst (AvoidsName name) (sym e) (record {
      denotes = λ d. (let both : false ≡ true = d.0 in cc);
      moves =
          λ old to d. absurd d;
    })
avoids_so s past name place (call.FsRead path bound) r (inr x) spares = read_avoids name r x
avoids_so s past name place (call.FsWrite path bytes) r (inl e) spares =
    subst (AvoidsName name) (sym e) (record { denotes = λ d. spares d.1; moves = λ old to d. absurd d })
avoids_so s past name place (call.FsWrite path bytes) r (inr x) spares = write_avoids s past name place path r x
avoids_so s past name place (call.OpenFile slot options path) r x spares = absurd (spares tt)
avoids_so s past name place (call.BufWriteAll slot bytes) r x spares = absurd (spares tt)
avoids_so s past name place other r x spares = x.0.0

read_writes_none : (r : Request) (h : List ℕ) → IsRead r → WritesBy r h → ⊥
read_writes_none (request.Read handle offset len) h x w = w
read_writes_none other h x w = x

open_writes_none : (flags : OpenFlags) (path : List ℕ) (r : Request) (h : List ℕ) → r ≡ open_request flags path
    → WritesBy r h → ⊥
open_writes_none flags path r h e w = subst (λ (q : Request). WritesBy q h) e w

-- and writes by no handle that an OPEN of the name was granted
writes_so : (s : Setting) (past : List Entry) (name : Name) (place : ℕ) (c : Call) (r : Request) (h : List ℕ)
    (grant : ℕ) → IsAskOf name s past place c r → (MayWrite name c → ⊥) → WritesBy r h → grant_used_at s past place h
    ≡ Some grant
    → opens_at name (asked_at past grant) ≡ false
writes_so s past name place (call.FsRead path bound) r h grant (inl e) spares w uses =
    absurd (open_writes_none to_read path r h e w)
writes_so s past name place (call.FsRead path bound) r h grant (inr x) spares w uses = absurd (read_writes_none r h x w)
writes_so s past name place (call.FsWrite path bytes) r h grant (inl e) spares w uses =
    absurd (open_writes_none to_replace path r h e w)
writes_so s past name place (call.FsWrite path bytes) r h grant (inr x) spares w uses = by_request r x w
  where
    by_request : (q : Request) → WritesAt s past place path q → WritesBy q h → opens_at name (asked_at past grant)
        ≡ false
    by_request (request.Write handle offset content) at same =
        let both : Some at.0 ≡ Some grant = sym at.1.0 ∙ (ap (grant_used_at s past place) same ∙ uses) in
        let there : asked_at past grant ≡ Some at.1.1.0 = subst (λ (g : ℕ). asked_at past g ≡ Some at.1.1.0)
        (some_is at.0 grant both) at.1.1.1.0 in
        ap (opens_at name) there ∙ (ap (is_open_of name) at.1.1.1.1
        ∙ false_from_ne_true (same_name (components path) name)
        (λ t. spares ((names_tell (components path) name).0 t)))
    by_request other at same = absurd at
writes_so s past name place (call.OpenFile slot options path) r h grant x spares w uses = absurd (spares tt)
writes_so s past name place (call.BufWriteAll slot bytes) r h grant x spares w uses = absurd (spares tt)
writes_so s past name place other r h grant x spares w uses = absurd (x.1 h w)

-- what a call asks that doesn't write the name passes it by
pub passes_so : (s : Setting) (past : List Entry) (name : Name) (lane k place : ℕ) (a : AskedRequest)
    → asked_at past place
    ≡ Some a → (x : IsAsked name s past lane k place a.request) → (MayWrite name x.c → ⊥) → PassesAt s past name place
passes_so s past name lane k place a e x spares =
    record {
      avoids = λ b at. subst (λ (y : AskedRequest). AvoidsName name y.request) (same b at)
          (avoids_so s past name place x.c a.request x.asks spares);
      writes = λ b h grant at w uses. writes_so s past name place x.c a.request h grant x.asks spares
          (subst (λ (y : AskedRequest). WritesBy y.request h) (sym (same b at)) w) uses;
    }
  where
    same : (b : AskedRequest) → asked_at past place ≡ Some b → a ≡ b
    same b at = some_is a b (sym e ∙ at)
