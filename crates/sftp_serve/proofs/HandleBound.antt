-- At most 4096 handles are open after any frames.
use Rattle.std.proofs.Common.{
  ◌≡◌,
  ◌≤◌,
  ℕ,
  Bool,
  true,
  false,
  List,
  [],
  ◌∷◌,
  ◌++◌,
  length,
  Option,
  Some,
  None,
  if◌then◌else◌,
  refl,
  ap,
  sym,
  subst,
  arith,
}
use Rattle.std.specs.Prelude.{Result, Ok, Err}
use Rattle.std.specs.Option.{option_map}
use Rattle.sftp_model.specs.declared.frame_error.FrameError.{FrameError}
use Rattle.sftp_model.specs.declared.request.Request.{Request}
use Rattle.sftp_model.specs.declared.request.Request.TheVariants as request
use Rattle.sftp_model.specs.Answers.{IsAfterHello}
use Rattle.sftp_model.specs.RequestReadings.{request_at}
use Rattle.machine_answers.specs.MachineState.{MachineState}
use Rattle.sftp_map_server.specs.Serving.{is_hello}
use Rattle.sftp_serve.specs.HandleCounts.{BoundsHandles}
use Rattle.sftp_serve.specs.Stream.{
  MAX_OPEN_HANDLES,
  ServedState,
  answer_to_frame,
  answers,
  chosen_answer,
  is_welcome,
  machine_answer,
  to_read,
  unknown_id,
  unsupported_answer,
  version_answer,
}
use Rattle.sftp_serve.specs.Words.{script_state}
use Rattle.sftp_serve.proofs.HandleCounts.{counts_chosen}
use Rattle.sftp_serve.proofs.Streams.{and_then_Some}

abbrev IsWithin : ServedState → Type 0
IsWithin s = length s.machine.tree.handles ≤ MAX_OPEN_HANDLES

after_hello : (r : Request) → is_hello r ≡ false → IsAfterHello r
after_hello (request.Init version) e = absurd cc
after_hello other e = tt

machine_within : (machine : MachineState) (r : Request) → IsAfterHello r
    → length machine.tree.handles ≤ MAX_OPEN_HANDLES
    → length (chosen_answer machine r).1.tree.handles ≤ MAX_OPEN_HANDLES
machine_within machine r h le =
    let c = counts_chosen machine r (length machine.tree.handles) (record { same = refl; within = le }) h in
    subst (λ (k : ℕ). k ≤ MAX_OPEN_HANDLES) c.same c.within

out_within : (x out : List ℕ × ServedState) → IsWithin x.1 → Some x ≡ Some out → IsWithin out.1
out_within x out le e =
    let same : x ≡ out = cc e in
    subst (λ (y : List ℕ × ServedState). IsWithin y.1) same le

request_within : (s : ServedState) (id : Option ℕ) (r : Request) (out : List ℕ × ServedState)
    (greeted hello welcome : Bool) → IsWithin s → is_hello r ≡ hello
    → (if greeted then (if hello then None else Some (machine_answer s id r))
    else if welcome then Some (version_answer s) else None) ≡ Some out → IsWithin out.1
request_within s id r out true true welcome le is e = absurd cc
request_within s id r out true false welcome le is e =
    out_within (machine_answer s id r) out (machine_within s.machine r (after_hello r is) le) e
request_within s id r out false hello true le is e = out_within (version_answer s) out le e
request_within s id r out false hello false le is e = absurd cc

refused_within : (s : ServedState) (greeted : Bool) (id : Option ℕ) (out : List ℕ × ServedState) → IsWithin s
    → (if greeted then option_map (unsupported_answer s) id else None) ≡ Some out → IsWithin out.1
refused_within s true None out le e = absurd cc
refused_within s true (Some id) out le e = out_within (unsupported_answer s id) out le e
refused_within s false id out le e = absurd cc

read_within : (s : ServedState) (body : List ℕ) (read : Result (Option ℕ × Request) FrameError)
    (out : List ℕ × ServedState) → IsWithin s → to_read s body read ≡ Some out → IsWithin out.1
read_within s body (Ok asked) out le e =
    request_within s asked.0 asked.1 out s.greeted (is_hello asked.1) (is_welcome asked.1) le refl e
read_within s body (Err error) out le e = refused_within s s.greeted (unknown_id body error) out le e

frame_within : (s : ServedState) (body : List ℕ) (out : List ℕ × ServedState) → IsWithin s
    → answer_to_frame s body ≡ Some out → IsWithin out.1
unfolding answer_to_frame
frame_within s body out le e = read_within s body (request_at body) out le e

all_within : (bodies : List (List ℕ)) (s left : ServedState) (sent : List ℕ) → IsWithin s
    → answers s bodies ≡ Some (sent, left) → IsWithin left
all_within [] s left sent le e = out_within ([], s) (sent, left) le e
all_within (body ∷ more) s left sent le e =
    let p = and_then_Some (answer_to_frame s body) (λ t. answers t more) (sent, left) e in
    let whole : (let q : List ℕ × ServedState = (sent, left) in q) ≡ (p.0.0 ++ p.1.0, p.1.1) = p.4 in
    let same : left ≡ p.1.1 = ap (λ (q : List ℕ × ServedState). q.1) whole in
    subst IsWithin (sym same) (all_within more p.0.1 p.1.1 p.1.0 (frame_within s body p.0 le p.2) p.3)

pub bounds_handles : BoundsHandles
bounds_handles long script bodies sent left e = all_within bodies (script_state long script) left sent (omega arith) e
