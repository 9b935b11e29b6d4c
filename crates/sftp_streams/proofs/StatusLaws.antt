-- What the status of the first WRITE gives.
use Rattle.std.proofs.Common.{
  ◌≡◌,
  ◌≤◌,
  ◌<◌,
  ◌==◌,
  ℕ,
  suc,
  ◌+◌,
  ◌^◌,
  Bool,
  true,
  false,
  List,
  [],
  ◌∷◌,
  length,
  refl,
  sym,
  ap,
  ◌∙◌,
  subst,
  arith,
  Option,
  Some,
  None,
  if◌then◌else◌,
}
use Rattle.std.specs.Prelude.{Result, Ok, Err}
use Rattle.std.proofs.lemmas.Bool.Decides.{nat_tests}
use Rattle.sftp_model.specs.Numbers.{SSH_FX_OK}
use Rattle.sftp_model.specs.declared.answers.Expected.TheVariants as expected
use Rattle.sftp_model.specs.declared.error.Error.{Error}
use Rattle.sftp_model.specs.declared.error.Error.TheVariants as error
use Rattle.sftp_model.specs.declared.error.Fault.{Fault}
use Rattle.sftp_model.specs.declared.reply.Reply.{Reply}
use Rattle.sftp_model.specs.declared.reply.Reply.TheVariants as reply
use Rattle.sftp_core.specs.Core.{Core, after_poll, record_at, reply_in}
use Rattle.plan_state.specs.declared.poll.Poll.TheVariants as poll
use Rattle.sftp_streams.specs.declared.parts.Part.{Part}
use Rattle.sftp_streams.specs.Parts.{AreAwaited, AwaitsPlain, PartCame, KeepsOthersHeld, after_first, parts_len}
use Rattle.sftp_streams.specs.Uploads.{GivesStatus, IsAccepted, IsOk, IsWriting, MayWrite, UploadValue, PollsUpload, first_len, first_status, later_parts, status_kind}
use Rattle.sftp_streams.proofs.PartLaws.{others_awaited, others_polled, others_same}

pub first_awaited : (core : Core) (u : UploadValue) (part : Part) (later : List Part) → IsWriting core u → u.parts
    ≡ part ∷ later → AreAwaited status_kind core (part ∷ later)
first_awaited core u part later held is = subst (λ x. AreAwaited status_kind core x) is held.parts

pub awaits_status : (core : Core) (u : UploadValue) (part : Part) (later : List Part) → MayWrite core u → u.parts
    ≡ part ∷ later → AwaitsPlain core part.ticket
awaits_status core u part later may is = record {
  kind = expected.Status;
  holds =
      (first_awaited core u part later may.held is).0;
  plain = refl;
}

-- the first part ends within the greatest offset
pub first_ends : (core : Core) (u : UploadValue) (part : Part) (later : List Part) → MayWrite core u → u.parts
    ≡ part ∷ later → u.offset + part.len < 2 ^ 64
first_ends core u part later may is =
    let next : u.offset + (part.len + parts_len later) ≡ u.next = ap (λ x. u.offset + parts_len x) (sym is)
    ∙ may.held.next in
    let small = may.held.small in
    omega (arith, next, small)

-- ---- a status that came

accepted : (core : Core) (u now new : UploadValue) (part : Part) (later : List Part) → MayWrite core u → u.parts
    ≡ part ∷ later → now ≡ record u { parts = later }
    → new ≡ record now { offset = now.offset + part.len } → IsWriting (after_poll core part.ticket) new
accepted core u now new part later may is now_is to =
    let held = may.held in
    let h = first_awaited core u part later held is in
    let few : suc (length later) ≤ u.window = subst (λ (x : List Part). length x ≤ u.window) is held.few in
    let next : u.offset + (part.len + parts_len later) ≡ u.next = ap (λ x. u.offset + parts_len x) (sym is) ∙ held.next
    in
    let all : new ≡ record u { parts = later; offset = u.offset + part.len } = to
    ∙ ap (λ (x : UploadValue). record x { offset = x.offset + part.len }) now_is in
    subst (λ (x : UploadValue). IsWriting (after_poll core part.ticket) x) (sym all) (record {
      parts = others_awaited status_kind core part.ticket later h.2 h.3;
      next = omega (arith, next);
      small = held.small;
      few = omega (arith, few);
      most = held.most;
    })

by_status : (core after : Core) (u now new : UploadValue) (part : Part) (later : List Part) (r : Reply)
    (result : Result (Option ℕ) Error)
    → MayWrite core u → u.parts ≡ part ∷ later → now ≡ record u { parts = later } → PartCame core part.ticket r → after
    ≡ after_poll core part.ticket → IsAccepted now part.len r new result
    → GivesStatus core after u new (poll.Ready result) × ((new.ended ≡ false
    → IsWriting (after_poll core part.ticket) new) × (new.parts ≡ later))
by_status core after u now new part later (reply.Status code message language) result may is now_is came to out =
    by_code (code == SSH_FX_OK) refl
  where
    here : first_status core u.parts ≡ Some (reply.Status code message language)
    here = ap (first_status core) is ∙ came.taken

    by_code : (b : Bool) → code == SSH_FX_OK ≡ b
        → GivesStatus core after u new (poll.Ready result) × ((new.ended ≡ false
        → IsWriting (after_poll core part.ticket) new) × (new.parts ≡ later))
    by_code true e =
        let gave : result ≡ Ok (Some part.len) = out.0 ∙ ap (λ (t : Bool). if t then Ok (Some part.len) else
        Err (error.SftpError code message language)) e in
        let moved : new ≡ record now { offset = now.offset + part.len } =
        out.1 ∙ ap (λ (t : Bool). if t then record now { offset = now.offset + part.len } else
        record now { ended = true }) e in
        let all : new ≡ record u { offset = u.offset + part.len; parts = later_parts u.parts } =
        moved ∙ ap (λ (x : UploadValue). record x { offset = x.offset + part.len }) now_is
        ∙ ap (λ x. record u { offset = u.offset + part.len; parts = later_parts x }) (sym is) in
        let code_is : code ≡ SSH_FX_OK = grind (arith, nat_tests, e) in (
          subst (λ (x : Result (Option ℕ) Error). GivesStatus core after u new (poll.Ready x)) (sym gave) (
            subst (λ (x : Option Reply). IsOk x) (sym here) code_is,
            ap first_len (sym is),
            all,
            to
                ∙ ap (after_first core) (sym is),
          ),
          (
            λ going. accepted core u now new part later may is now_is moved,
            ap (λ (x : UploadValue). x.parts) moved
                ∙ ap (λ (x : UploadValue). x.parts) now_is,
          ),
        )
    by_code false e =
        let gave : result ≡ Err (error.SftpError code message language) =
        out.0 ∙ ap (λ (t : Bool). if t then Ok (Some part.len) else Err (error.SftpError code message language)) e in
        let moved : new ≡ record now { ended = true } =
        out.1 ∙ ap (λ (t : Bool). if t then record now { offset = now.offset + part.len } else
        record now { ended = true }) e in
        let over : new.ended ≡ true = ap (λ (x : UploadValue). x.ended) moved in (
          subst (λ (x : Result (Option ℕ) Error). GivesStatus core after u new (poll.Ready x)) (sym gave) (
            here,
            ap (λ (x : UploadValue). x.offset) moved ∙ ap (λ (x : UploadValue). x.offset) now_is,
            over,
            to
                ∙ ap (after_first core) (sym is),
          ),
          (λ going. absurd cc, ap (λ (x : UploadValue). x.parts) moved ∙ ap (λ (x : UploadValue). x.parts) now_is),
        )
by_status core after u now new part later other result may is now_is came to never = absurd never

pub writes_status : (core after : Core) (u now new : UploadValue) (part : Part) (later : List Part) (r : Reply)
    (result : Result (Option ℕ) Error)
    → MayWrite core u → u.parts ≡ part ∷ later → now ≡ record u { parts = later } → PartCame core part.ticket r → after
    ≡ after_poll core part.ticket → IsAccepted now part.len r new result
    → PollsUpload core after u new (poll.Ready result)
writes_status core after u now new part later r result may is now_is came to out =
    let h = first_awaited core u part later may.held is in
    let all = by_status core after u now new part later r result may is now_is came to out in
    record {
      gives = all.0;
      held = λ going. subst (λ (x : Core). IsWriting x new) (sym to) (all.1.0 going);
      parts = subst (λ (x : Core). AreAwaited status_kind x new.parts) (sym to)
          (subst (λ x. AreAwaited status_kind (after_poll core part.ticket) x) (sym all.1.1)
          (others_awaited status_kind core part.ticket later h.2 h.3));
      others = subst (λ (x : Core). KeepsOthersHeld u.parts core x) (sym to)
          (subst (λ x. KeepsOthersHeld x core (after_poll core part.ticket)) (sym is)
          (others_polled status_kind core part later h));
    }

-- ---- no status came

pub writes_fault : (core after : Core) (u new : UploadValue) (part : Part) (later : List Part) (fault : Fault)
    → MayWrite core u → u.parts ≡ part ∷ later
    → new ≡ record u { parts = later; ended = true } → reply_in (record_at core part.ticket) ≡ None → core.fault
    ≡ Some fault → after ≡ after_poll core part.ticket
    → PollsUpload core after u new (poll.Ready (Err (error.BackgroundTaskFailure fault)))
writes_fault core after u new part later fault may is now missing kept to =
    let h = first_awaited core u part later may.held is in
    let over : new.ended ≡ true = ap (λ (x : UploadValue). x.ended) now in
    record {
      gives = (ap (first_status core) is ∙ missing, kept, ap (λ (x : UploadValue). x.offset) now, over);
      held = λ going. absurd cc;
      parts = subst (λ (x : Core). AreAwaited status_kind x new.parts) (sym to)
          (subst (λ x. AreAwaited status_kind (after_poll core part.ticket) x)
          (sym (ap (λ (x : UploadValue). x.parts) now)) (others_awaited status_kind core part.ticket later h.2
          h.3));
      others = subst (λ (x : Core). KeepsOthersHeld u.parts core x) (sym to)
          (subst (λ x. KeepsOthersHeld x core (after_poll core part.ticket)) (sym is)
          (others_polled status_kind core part later h));
    }

pub writes_pending : (core after : Core) (u new : UploadValue) (part : Part) (later : List Part) → MayWrite core u
    → u.parts ≡ part ∷ later → new ≡ u → reply_in (record_at core part.ticket) ≡ None
    → core.fault ≡ None → after ≡ core → PollsUpload core after u new poll.Pending
writes_pending core after u new part later may is same missing unfailed to = record {
  gives = (
    ap (first_status core) is ∙ missing,
    unfailed,
    subst (λ (x : List Part). 0 < length x) (sym is)
        (omega arith),
    same,
    to,
  );
  held = λ going. subst (λ (x : UploadValue). IsWriting after x) (sym same)
      (subst (λ (x : Core). IsWriting x u) (sym to) may.held);
  parts = subst (λ (x : UploadValue). AreAwaited status_kind after x.parts) (sym same)
      (subst (λ (x : Core). AreAwaited status_kind x u.parts) (sym to) may.held.parts);
  others = subst (λ (x : Core). KeepsOthersHeld u.parts core x) (sym to) (others_same u.parts core);
}

pub writes_none : (core after : Core) (u new : UploadValue) → MayWrite core u → u.parts ≡ [] → new ≡ u → after ≡ core
    → PollsUpload core after u new (poll.Ready (Ok None))
writes_none core after u new may is same to = record {
  gives = (is, same, to);
  held = λ going. subst (λ (x : UploadValue). IsWriting after x) (sym same)
      (subst (λ (x : Core). IsWriting x u) (sym to) may.held);
  parts = subst (λ (x : UploadValue). AreAwaited status_kind after x.parts) (sym same)
      (subst (λ (x : Core). AreAwaited status_kind x u.parts) (sym to) may.held.parts);
  others = subst (λ (x : Core). KeepsOthersHeld u.parts core x) (sym to) (others_same u.parts core);
}
