-- What the machine's server replies to requests that fit, and what it has then.
use Rattle.std.proofs.Common.{
  ◌≡◌,
  ◌<◌,
  ◌≤◌,
  ◌^◌,
  ℕ,
  zero,
  suc,
  Bool,
  true,
  false,
  List,
  [],
  ◌∷◌,
  length,
  drop,
  Option,
  Some,
  None,
  Result,
  Ok,
  is_some,
  if◌then◌else◌,
  refl,
  ap,
  sym,
  ◌∙◌,
  subst,
  arith,
  inl,
  inr,
  lit<,
}
use Rattle.std.specs.Prelude.{nat_le, nat_lt, not, ◌&&◌, ◌⊎◌, IfSome}
use Rattle.std.specs.Int.RustNames.{bit_and, bit_or}
use Rattle.std.specs.Result.{result_ok}
use Rattle.std.proofs.lemmas.Bool.Decides.{nat_tests, eqb_tells}
use Rattle.sftp_model.specs.declared.config.Choice.{Choice}
use Rattle.sftp_model.specs.declared.config.Limits.{Limits}
use Rattle.sftp_model.specs.declared.config.ServerConfig.{ServerConfig}
use Rattle.sftp_model.specs.declared.frame_error.FrameError.{FrameError}
use Rattle.sftp_model.specs.declared.reply.Reply.{Reply}
use Rattle.sftp_model.specs.declared.reply.Reply.TheVariants as reply
use Rattle.sftp_model.specs.declared.request.Request.{Request}
use Rattle.sftp_model.specs.declared.request.Request.TheVariants as request
use Rattle.sftp_model.specs.Answers.{IsAfterHello, expected_of, may_answer, status}
use Rattle.sftp_model.specs.Fits.{FitsLimits}
use Rattle.sftp_model.specs.Numbers.{MAX_BODY_LEN, MAX_TRANSFER_LEN}
use Rattle.sftp_model.specs.declared.flags.Extensions.{Extensions}
use Rattle.sftp_model.specs.Frames.{request_body, request_id, reply_body, reply_id, reply_frame, limits_content}
use Rattle.sftp_model.specs.ReplyReadings.{reply_at}
use Rattle.sftp_model.specs.RequestReadings.{request_at}
use Rattle.sftp_model.proofs.ReplyBacks.{reply_back, limits_back}
use Rattle.sftp_model.proofs.RequestBacks.{request_back}
use Rattle.sftp_model.specs.Lengths.{offers_limits}
use Rattle.session_model.specs.declared.event.Owner.{Owner}
use Rattle.sftp_wire.proofs.Lengths.{lengths}
use Rattle.session_model.specs.Journals.{goes_on, is_read}
use Rattle.session_model.specs.Readings.{AskedRequest}
use Rattle.machine_model.specs.FitTrees.{GivesWithin, IsFit}
use Rattle.machine_model.specs.HandleRequests.{Answer, capped_at}
use Rattle.machine_model.specs.TreeAnswers.{apply, first_choice, limits_reply}
use Rattle.machine_tree.specs.Numbers.{numbered_handle}
use Rattle.machine_answers.specs.MachineState.{MachineState, answer, with_grant, with_tree}
use Rattle.machine_answers.proofs.ReplyLaws.{fit_left, reply_answers, reply_fits, reply_within}
use Rattle.sftp_map_server.specs.Serving.{
  ServerState,
  Replies,
  at_once,
  gives_within,
  served_frame,
  id_of,
  is_hello,
  is_query,
  later,
  nothing,
  over_at,
  respond,
  after_choice,
  step,
  told_bits,
  version_reply,
}
use Rattle.sftp_map_server.proofs.Bounds.{limits_within}
use Rattle.machine_laws.proofs.Asking.{FitsCall, body_len}
use Rattle.machine_laws.proofs.Sound.{FitsBy, by_owner}

-- the reply to a request
unfoldable pub reply_to : ServerState → Request → Reply
reply_to d r = if is_query r then limits_reply d.machine.config.limits else
    (answer d.machine r (first_choice d.choices)).0

-- it is given at once to the query for limits, and waits else
unfoldable pub said_to : ServerState → Request → ℕ → Replies
said_to d r id = if is_query r then at_once (reply_frame (reply_to d r) id) else later (reply_frame (reply_to d r) id)

-- and what the request leaves
unfoldable pub next_state : ServerState → Request → ServerState
next_state d r = if is_query r then d else after_choice d (answer d.machine r (first_choice d.choices)).1

-- each choice refuses by a code of four bytes
abbrev pub AllCodes : List Choice → Type 0
AllCodes [] = Unit {0}
AllCodes (c ∷ choices) = (c.refuse < 2 ^ 32) × AllCodes choices

-- a state that was greeted, with choices and limits that fit, and a tree within its bounds
pub record IsGood (d : ServerState) : Type 0 where
  pub greeted : d.greeted ≡ true
  pub still : d.over ≡ false
  pub codes : AllCodes d.choices
  pub limits : IfSome d.machine.config.limits FitsLimits
  pub fit : IsFit d.machine.tree

-- ---- requests

pub call_query : (r : Request) → FitsCall r → is_query r ≡ false
call_query request.LimitsQuery f = absurd f.ordinary
call_query other f = refl

call_id : (r : Request) (id : ℕ) → FitsCall r → request_id r id ≡ Some id
call_id (request.Init version) id f = absurd f.ordinary
call_id r id f = refl

capped_most : (cap n : ℕ) → n ≤ MAX_TRANSFER_LEN → capped_at cap n ≤ MAX_TRANSFER_LEN
capped_most cap n h = elim (eqb_tells cap 0) [ inl t ↦ rw t.0 h | inr t ↦ rw t.0 (omega (arith, h)) ]

call_gives : (r : Request) (cap : ℕ) → FitsCall r → GivesWithin cap r
call_gives (request.Read handle offset len) cap f = capped_most cap len f.within
call_gives r cap f = tt

capped_le : (cap n : ℕ) → n ≤ MAX_TRANSFER_LEN → nat_le (capped_at cap n) MAX_TRANSFER_LEN ≡ true
capped_le cap n h = elim (eqb_tells cap 0) [
  | inl t ↦ rw t.0 (grind (arith, nat_tests))
  | inr t ↦
      rw t.0 (grind (arith, nat_tests))
]

call_within : (r : Request) (choice : Choice) → FitsCall r → gives_within r choice ≡ true
call_within (request.Read handle offset len) choice f = capped_le choice.cap len f.within
call_within r choice f = refl

pub call_after : (r : Request) → FitsCall r → (is_hello r ≡ false) × IsAfterHello r
call_after (request.Init version) f = absurd f.ordinary
call_after r f = (refl, tt)

-- ---- the state

first_code : (choices : List Choice) → AllCodes choices → (first_choice choices).refuse < 2 ^ 32
first_code [] c = lit< tt
first_code (c ∷ choices) h = h.0

drop_codes : (choices : List Choice) → AllCodes choices → AllCodes (drop 1 choices)
drop_codes [] c = tt
drop_codes (c ∷ choices) h = h.1

-- what is left has the same offers
config_by : (a b : Bool) (state : MachineState) (x : Answer)
    → (let p : Reply × MachineState = if a then (if b then (status 4, state) else (x.0, with_grant state x.1)) else
    (x.0, with_tree state x.1) in p).1.config ≡ state.config
config_by true true state x = refl
config_by true false state x = refl
config_by false b state x = refl

-- what holds of a state, and of it where a choice more was taken, holds of what a request leaves
next_by : (P : ServerState → Type 0) (d : ServerState) (r : Request) → P d
    → P (after_choice d (answer d.machine r (first_choice d.choices)).1) → P (next_state d r)
unfolding next_state
next_by P d r h k = by_test (is_query r)
  where
    by_test : (b : Bool) → P (if b then d else after_choice d (answer d.machine r (first_choice d.choices)).1)
    by_test true = h
    by_test false = k

-- what a server offers stays
pub next_config : (d : ServerState) (r : Request) → (next_state d r).machine.config ≡ d.machine.config
next_config d r =
    next_by (λ n. n.machine.config ≡ d.machine.config) d r refl
    (config_by _ _ d.machine (apply d.machine.tree d.machine.config r (first_choice d.choices)
    (numbered_handle d.machine.grants)))

pub next_good : (d : ServerState) (r : Request) → IsGood d → IsGood (next_state d r)
next_good d r g =
    next_by IsGood d r g
    (record {
      greeted = g.greeted;
      still = g.still;
      codes = drop_codes d.choices g.codes;
      limits = subst (λ (c : ServerConfig). IfSome c.limits FitsLimits)
          (sym (config_by _ _ d.machine (apply d.machine.tree d.machine.config r (first_choice d.choices)
          (numbered_handle d.machine.grants)))) g.limits;
      fit = fit_left d.machine r (first_choice d.choices) g.fit;
    })

-- ---- steps

respond_call : (d : ServerState) (i : Option ℕ) (r : Request) → is_hello r ≡ false → d.greeted ≡ true → is_query r
    ≡ false
    → gives_within r (first_choice d.choices) ≡ true
    → respond d i r ≡ (
      later (reply_frame (answer d.machine r (first_choice d.choices)).0 (id_of i)),
      after_choice d (answer d.machine r (first_choice d.choices)).1,
    )
respond_call d i r a b c w = rw (a, b, c, w) refl

-- a body that is read while the link isn't over
step_on : (d : ServerState) (body : List ℕ) (i : Option ℕ) (r : Request) → d.over ≡ false → request_at body ≡ Ok (i, r)
    → step d body ≡ respond d i r
unfolding step
step_on d body i r still back =
    ap (λ (b : Bool). if b then (let p : Replies × ServerState = (nothing, d) in p) else
    served_frame d (result_ok (request_at body)))
    still ∙ ap (λ (w : Result (Option ℕ × Request) FrameError). served_frame d (result_ok w)) back

step_call : (d : ServerState) (id : ℕ) (r : Request) → IsGood d → id < 2 ^ 32 → FitsCall r → step d (request_body r id)
    ≡ (said_to d r id, next_state d r)
unfolding reply_to said_to next_state
step_call d id r g lt f =
    let query = call_query r f in
    let back : request_at (request_body r id) ≡ Ok (Some id, r) = request_back r id f.fits lt
    ∙ ap (λ (i : Option ℕ). Ok (i, r)) (call_id r id f) in
    let n = answer d.machine r (first_choice d.choices) in
    let is : (later (reply_frame n.0 id), after_choice d n.1) ≡ (said_to d r id, next_state d r) = rw query refl in
    step_on d (request_body r id) (Some id) r g.still back ∙ (respond_call d (Some id) r (call_after r f).0 g.greeted
    query (call_within r (first_choice d.choices) f) ∙ is)

step_query : (d : ServerState) (id : ℕ) → IsGood d → id < 2 ^ 32 → step d (request_body request.LimitsQuery id)
    ≡ (said_to d request.LimitsQuery id, next_state d request.LimitsQuery)
unfolding reply_to said_to next_state
step_query d id g lt =
    step_on d (request_body request.LimitsQuery id) (Some id) request.LimitsQuery g.still
    (request_back request.LimitsQuery id tt lt)
    ∙ ap (λ (b : Bool). if b then (let p : Replies × ServerState = (
      at_once
          (reply_frame (limits_reply d.machine.config.limits) id),
      d,
    ) in p) else (nothing, over_at d)) g.greeted

-- a request that fits is answered
pub step_fits : (d : ServerState) (tells : Bool) (by : Owner) (id : ℕ) (r : Request) → IsGood d → id < 2 ^ 32
    → FitsBy tells by r → step d (request_body r id) ≡ (said_to d r id, next_state d r)
step_fits d tells by id r g lt f =
    by_owner (λ w. step d (request_body w id) ≡ (said_to d w id, next_state d w)) tells by r f
    (λ c. step_call d id r g lt c) (λ t. step_query d id g lt)

body_there : (r : Request) (id : ℕ) → 0 < length (request_body r id)
unfolding request_body
body_there (request.Init version) id = omega arith
body_there r id = omega arith

call_short : (r : Request) (id : ℕ) → FitsCall r → (0 < length (request_body r id))
    × (length (request_body r id) ≤ MAX_BODY_LEN)
call_short r id f = (body_there r id, omega (arith, body_len r id f.ordinary, f.short))

query_short : (id : ℕ) → (0 < length (request_body request.LimitsQuery id))
    × (length (request_body request.LimitsQuery id) ≤ MAX_BODY_LEN)
unfolding request_body
query_short id = let l : length (request_body request.LimitsQuery id) ≡ 27 = simp lengths refl in
    (omega (arith, l), omega (arith, l))

pub request_short : (tells : Bool) (by : Owner) (r : Request) (id : ℕ) → FitsBy tells by r
    → (0 < length (request_body r id)) × (length (request_body r id) ≤ MAX_BODY_LEN)
request_short tells by r id f = by_owner (λ w. (0 < length (request_body w id))
    × (length (request_body w id) ≤ MAX_BODY_LEN)) tells by r f (λ c. call_short r id c) (λ t. query_short id)

-- ---- what is said

-- the reply is read as it, and nothing is wrong with it
pub record Says (a : AskedRequest) (r : Reply) : Type 0 where
  pub reads : reply_at (reply_body r a.id) ≡ Ok (Some a.id, r)
  pub some : 0 < length (reply_body r a.id)
  pub short : length (reply_body r a.id) ≤ MAX_BODY_LEN
  pub may : may_answer a.request r ≡ true
  pub goes : goes_on (expected_of a.request) r ≡ true

pub body_some : (r : Reply) (id : ℕ) → 0 < length (reply_body r id)
unfolding reply_body
body_some (reply.Version version extensions) id = omega arith
body_some (reply.Status code message language) id = omega arith
body_some (reply.Handle handle) id = omega arith
body_some (reply.Content content) id = omega arith
body_some (reply.Names names) id = omega arith
body_some (reply.Attrs attrs) id = omega arith
body_some (reply.Extended content) id = omega arith

no_version : (r : Request) (version : ℕ) (extensions : Extensions) → IsAfterHello r
    → may_answer r (reply.Version version extensions) ≡ true → ⊥
no_version (request.Init v) version extensions h may = absurd h
no_version r version extensions h may = absurd cc

-- a reply that may answer bears the id
answer_id : (r : Request) (x : Reply) (id : ℕ) → IsAfterHello r → may_answer r x ≡ true → reply_id x id ≡ Some id
answer_id r (reply.Version version extensions) id h may = absurd (no_version r version extensions h may)
answer_id r x id h may = refl

call_goes : (r : Request) (x : Reply) → FitsCall r → goes_on (expected_of r) x ≡ true
call_goes request.LimitsQuery x f = absurd f.ordinary
call_goes r x f = refl

says_call : (d : ServerState) (by : Owner) (id : ℕ) (r : Request) → IsGood d → id < 2 ^ 32 → FitsCall r
    → Says (record { by = by; id = id; request = r }) (reply_to d r)
unfolding reply_to
says_call d by id r g lt f =
    let c = first_choice d.choices in
    let within = call_gives r c.cap f in
    let code = first_code d.choices g.codes in
    let x : Reply = (answer d.machine r c).0 in
    let may : may_answer r x ≡ true = reply_answers d.machine r c (call_after r f).1 in
    rw (call_query r f) (record {
      reads = reply_back x id (reply_fits d.machine r c g.fit code within) lt
          ∙ ap (λ (i : Option ℕ). Ok (i, x)) (answer_id r x id (call_after r f).1 may);
      some = body_some x id;
      short = reply_within d.machine r c id g.fit code within;
      may = may;
      goes = call_goes r x f;
    })

limits_text : (limits : Limits) → length (limits_content limits) ≤ MAX_BODY_LEN
unfolding limits_content
limits_text limits = let l : length (limits_content limits) ≡ 32 = simp lengths refl in omega (arith, l)

says_limits : (limits : Option Limits) (by : Owner) (id : ℕ) → IfSome limits FitsLimits → is_some limits ≡ true
    → id < 2 ^ 32 → Says (record { by = by; id = id; request = request.LimitsQuery }) (limits_reply limits)
says_limits None by id h t lt = absurd cc
says_limits (Some limits) by id h t lt =
    let content = limits_content limits in
    record {
      reads = reply_back (reply.Extended content) id (limits_text limits) lt;
      some = body_some (reply.Extended content) id;
      short = limits_within (record { extensions = record { 0 = 0 }; limits = Some limits; cut = 0 }) id;
      may = refl;
      goes = ap is_read (limits_back limits h);
    }

says_query : (d : ServerState) (by : Owner) (id : ℕ) → IsGood d → is_some d.machine.config.limits ≡ true → id < 2 ^ 32
    → Says (record { by = by; id = id; request = request.LimitsQuery }) (reply_to d request.LimitsQuery)
unfolding reply_to
says_query d by id g t lt = says_limits d.machine.config.limits by id g.limits t lt

-- the reply to a request that fits
pub says : (d : ServerState) (tells : Bool) (by : Owner) (id : ℕ) (r : Request) → IsGood d
    → is_some d.machine.config.limits
    ≡ tells → id < 2 ^ 32 → FitsBy tells by r → Says (record { by = by; id = id; request = r }) (reply_to d r)
says d tells by id r g t lt f =
    by_owner (λ w. Says (record { by = by; id = id; request = w }) (reply_to d w)) tells by r f
    (λ c. says_call d by id r g lt c) (λ e. says_query d by id g (t ∙ e) lt)

-- ---- the hello

-- the state behind the hello
abbrev pub greeted_at : ServerState → ServerState
greeted_at d = record { machine = d.machine; choices = d.choices; greeted = true; over = d.over }

pub step_hello : (d : ServerState) → d.greeted ≡ false → d.over ≡ false → step d (request_body (request.Init 3) 0)
    ≡ (at_once (reply_frame (version_reply d.machine.config) 0), greeted_at d)
step_hello d fresh still =
    step_on d (request_body (request.Init 3) 0) None (request.Init 3) still
    (request_back (request.Init 3) 0 (lit< tt) (lit< tt))
    ∙ ap (λ (b : Bool). if b then (let p : Replies × ServerState = (nothing, over_at d) in p) else
    (at_once (reply_frame (version_reply d.machine.config) 0), greeted_at d)) fresh

pub hello_short : (0 < length (request_body (request.Init 3) 0))
    × (length (request_body (request.Init 3) 0) ≤ MAX_BODY_LEN)
unfolding request_body
hello_short = (
  let l : length (request_body (request.Init 3) 0) ≡ 5 = simp lengths refl in omega (arith, l),
  let l : length (request_body (request.Init 3) 0) ≡ 5 = simp lengths refl in omega (arith, l),
)

-- ---- what VERSION tells, tried for each of the 64 sets

-- the set has six known bits, and offers the limits exactly where there are some
abbrev tells_right : ℕ → Bool
tells_right set = nat_lt (bit_and set 31) 64 && not (offers_limits (record { 0 = bit_and set 31 }))
    && nat_lt (bit_or set 32) 64 && offers_limits (record { 0 = bit_or set 32 })

abbrev tell_right : ℕ → Bool
tell_right zero = true
tell_right (suc n) = tells_right n && tell_right n

all_right : tell_right 64 ≡ true
all_right = refl

pub lt_or_is : (n set : ℕ) → set < suc n → (set < n) ⊎ (set ≡ n)
lt_or_is n set h = grind arith

pub both_of : (a b : Bool) → (a && b) ≡ true → (a ≡ true) × (b ≡ true)
both_of true b e = (refl, e)
both_of false b e = absurd cc

each_right : (n set : ℕ) → tell_right n ≡ true → set < n → tells_right set ≡ true
each_right zero set e h = absurd (omega arith)
each_right (suc n) set e h =
    elim (lt_or_is n set h) [
      | inl below ↦ each_right n set (both_of (tells_right n) (tell_right n) e).1 below
      | inr is ↦ rw is (both_of (tells_right n) (tell_right n) e).0
    ]

pub is_less : (n m : ℕ) → nat_lt n m ≡ true → n < m
is_less n m e = grind (arith, nat_tests)

not_is : (b : Bool) → not b ≡ true → b ≡ false
not_is true e = absurd cc
not_is false e = refl

pub told_right : (set : ℕ) (limits : Option Limits) → set < 64 → (told_bits set limits < 64)
    × (offers_limits (record { 0 = told_bits set limits }) ≡ is_some limits)
told_right set limits h = by_limits limits (each_right 64 set all_right h)
  where
    by_limits : (limits : Option Limits) → tells_right set ≡ true → (told_bits set limits < 64)
        × (offers_limits (record { 0 = told_bits set limits }) ≡ is_some limits)
    by_limits None e =
        let a = both_of _ _ e in let b = both_of _ _ a.0 in let c = both_of _ _ b.0 in (is_less _ _ c.0, not_is _ c.1)
    by_limits (Some l) e = let a = both_of _ _ e in let b = both_of _ _ a.0 in (is_less _ _ b.1, a.1)

pub version_back : (config : ServerConfig) → config.extensions.0 < 64 → reply_at (reply_body (version_reply config) 0)
    ≡ Ok (None, version_reply config)
version_back config h = reply_back (version_reply config) 0 (
  lit< tt,
  (told_right config.extensions.0 config.limits h).0,
) (lit< tt)
