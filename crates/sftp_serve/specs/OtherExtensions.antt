-- Extensions that the protocol's profile doesn't have.
use Rattle.std.specs.Prelude.{◌≡◌, ℕ, true, List, ◌∷◌, Some, Ok, Err}
use Rattle.sftp_model.specs.declared.frame_error.FrameError.{FrameError}
use Rattle.sftp_model.specs.Frames.{extension_table}
use Rattle.sftp_model.specs.Numbers.{SSH_FXP_EXTENDED}
use Rattle.sftp_model.specs.Readings.{named_bit, text_at, uint32_at}
use Rattle.sftp_model.specs.RequestReadings.{request_at}
use Rattle.sftp_serve.specs.Stream.{ServedState, answer_to_frame, unknown_id, unsupported_answer}

-- An EXTENDED with a readable id and name, where the name is none of the six.
pub record IsOther (body : List ℕ) (id : ℕ) : Type 0 where
  pub fields : List ℕ
  pub behind : List ℕ
  pub name : List ℕ
  pub rest : List ℕ
  pub kind : body ≡ SSH_FXP_EXTENDED ∷ fields
  pub numbered : uint32_at fields ≡ Ok (id, behind)
  pub named : text_at behind ≡ Ok (name, rest)
  pub other : named_bit extension_table name ≡ 0

-- Such a frame is answered, after the hello.
abbrev pub AnswersOthers : Type 0
AnswersOthers = (s : ServedState) (body : List ℕ) (id : ℕ) → s.greeted ≡ true → IsOther body id → answer_to_frame s body
    ≡ Some (unsupported_answer s id)

-- Of the bodies that read as no request, no other is answered.
abbrev pub AnswersNoMore : Type 0
AnswersNoMore = (body : List ℕ) (e : FrameError) (id : ℕ) → request_at body ≡ Err e → unknown_id body e ≡ Some id
    → IsOther body id
