-- believed: Meaning, GoesBehind, MayAsk
-- The continuation of a runner, by the rest of its call's plan.
use Rattle.std.specs.Prelude.{◌≡◌, ℕ, Bool, true, false, [], ◌∷◌, Option, None, Result, Ok, Err}
use Rattle.sftp_model.specs.Answers.{expected_of}
use Rattle.sftp_model.specs.declared.answers.Expected.{Expected}
use Rattle.sftp_model.specs.declared.error.Error.{Error}
use Rattle.sftp_model.specs.declared.error.Error.TheVariants as error
use Rattle.sftp_model.specs.declared.slot.Move.{Move}
use Rattle.sftp_model.specs.declared.slot.Move.TheVariants.{Ask}
use Rattle.plan_model.specs.Moves.{Answers, Own, Plan}
use Rattle.sftp_model.specs.Frames.{is_too_long}
use Rattle.sftp_core.specs.Core.{is_call}
use Rattle.sftp_core.specs.Grant.{GrantValue}
use Rattle.plan_state.specs.declared.submission.Asking.{Asking}
use Rattle.plan_state.specs.declared.runner.Then.{Then}
use Rattle.plan_state.specs.declared.runner.Then.TheVariants as then
use Rattle.plan_state.specs.Asked.{request_of}
use Rattle.plan_state.specs.Told.{grant_in}
use Rattle.plan_state.specs.declared.told.Told.{Told}

-- The meaning of the runners of one kind, in a world of the things that they do not hold themselves.
pub record Meaning (W M V : Type 0) : Type 1 where
  -- The rest of the call's plan after the awaited request.
  pub left : W → M → Plan
  -- The place of that request.
  pub place : M → ℕ
  -- The replies that may answer it.
  pub expected : M → Expected
  -- The cut of its content into pieces.
  pub cut : M → Asking → Type 0
  -- The end of the plan if the call returns this value.
  pub ended : W → M → Result V Error → Move
  -- The facts known about the replies.
  pub known : M → Answers → Type 0
  -- The properties of a runner that stay as it continues.
  pub stays : M → M → Type 0
  -- The runner needs no reply, and the end of the plan in that case.
  pub ready : M → Type 0
  pub first : W → M → Move
  -- True if it may ask a further request. Only then may it run out of memory.
  pub again : Bool
  -- The grant that a value has.
  pub grant : V → Option GrantValue

-- A plan asks this request, and the runner continues with it after the reply.
pub record GoesBehind {W M V : Type 0} (s : Meaning W M V) (w : W) (plan : Plan) (answers : Answers) (asking : Asking)
    (m : M) : Type 0 where
  pub asks : plan [] answers ≡ Ask (request_of asking)
  pub rest : (later : Own) → plan ((s.place m, request_of asking) ∷ later) answers ≡ s.left w m later answers
  pub knows : s.known m answers

-- A runner may ask this request: it is a call's request, it fits a frame, and it is the one that the runner awaits.
pub record MayAsk {W M V : Type 0} (s : Meaning W M V) (asking : Asking) (m : M) : Type 0 where
  pub call : is_call (request_of asking) ≡ true
  pub short : is_too_long (request_of asking) ≡ false
  pub expects : s.expected m ≡ expected_of (request_of asking)
  pub cut : s.cut m asking

-- The plan returns this: neither out of memory nor a kept fault.
abbrev pub IsOwn : {V : Type 0} → Result V Error → Type 0
IsOwn (Err error.OutOfMemory) = ⊥
IsOwn (Err (error.BackgroundTaskFailure fault)) = ⊥
IsOwn other = Unit {0}

-- The step of a runner is the next move of the rest of its plan; it was the first runner, and is the second.
abbrev pub FollowsPlan : {W M V : Type 0} → Meaning W M V → W → M → M → Answers → Then V → Type 0
FollowsPlan s w m next answers (then.Done value) = s.left w m [] answers ≡ s.ended w next value
FollowsPlan s w m next answers (then.Ask asking) = GoesBehind s w (s.left w m) answers asking next
FollowsPlan s w m next answers (then.Short told) = Unit {0}

-- The step of a runner, for any replies.
abbrev pub IsStep : {W M V : Type 0} → Meaning W M V → M → M → Then V → Type 0
IsStep s m next (then.Done value) = s.stays m next × IsOwn value
IsStep s m next (then.Ask asking) = s.stays m next × MayAsk s asking next × (s.again ≡ true)
IsStep s m next (then.Short told) = (next ≡ m) × (s.again ≡ true)

-- A value that is returned has the grant that came. No other step follows a grant.
abbrev pub HandsGrantOn : {W M V : Type 0} → Meaning W M V → Told → Then V → Type 0
HandsGrantOn s t (then.Done (Ok value)) = s.grant value ≡ grant_in t
HandsGrantOn s t (then.Done (Err e)) = grant_in t ≡ None
HandsGrantOn s t (then.Ask asking) = grant_in t ≡ None
HandsGrantOn s t (then.Short told) = Unit {0}
