-- What the reply to the first READ gives.
use Rattle.std.proofs.Common.{◌≡◌, ◌≤◌, ◌<◌, inl, inr, ◌==◌, ℕ, zero, suc, ◌+◌, ◌-◌, ◌^◌, Bool, true, false, List, [], ◌∷◌, length, drop, refl, sym, ap, ◌∙◌, subst, arith, Option, Some, None, if◌then◌else◌}
use Rattle.std.specs.Prelude.{Result, Ok, Err}
use Rattle.std.proofs.lemmas.Bool.Decides.{nat_tests}
use Rattle.sftp_model.specs.Answers.{allows_reply}
use Rattle.sftp_model.specs.Numbers.{SSH_FX_EOF}
use Rattle.sftp_model.specs.declared.answers.Expected.TheVariants as expected
use Rattle.sftp_model.specs.declared.error.Error.{Error}
use Rattle.sftp_model.specs.declared.error.Error.TheVariants as error
use Rattle.sftp_model.specs.declared.error.Fault.{Fault}
use Rattle.sftp_model.specs.declared.error.IoKind.TheVariants.{OffsetOverflow}
use Rattle.sftp_model.specs.declared.reply.Reply.{Reply}
use Rattle.sftp_model.specs.declared.reply.Reply.TheVariants as reply
use Rattle.sftp_core.specs.Core.{Core, after_poll, record_at, reply_in}
use Rattle.plan_state.specs.declared.poll.Poll.TheVariants as poll
use Rattle.sftp_streams.specs.declared.parts.Part.{Part}
use Rattle.sftp_streams.specs.Parts.{AreAwaited, AwaitsPlain, PartCame, KeepsOthersHeld, after_first, parts_len}
use Rattle.sftp_streams.specs.Downloads.{
  DownloadValue,
  FillsWindow,
  GivesFirst,
  IsEnd,
  IsFilled,
  IsHandedOut,
  IsMissing,
  IsReading,
  IsSameStream,
  MayRead,
  PollsDownload,
  after_bytes,
  after_status,
  content_kind,
  first_len,
  first_reply,
}
use Rattle.sftp_streams.proofs.AskLaws.{others_filled, same_as, same_both, same_stream, stands, unfailed}
use Rattle.sftp_streams.proofs.PartLaws.{others_all, others_awaited, others_polled}

-- the core awaits the DATA of the first part
pub first_awaited : (core : Core) (d : DownloadValue) (part : Part) (later : List Part) → IsReading core d → d.parts
    ≡ part ∷ later → AreAwaited content_kind core (part ∷ later)
first_awaited core d part later held is = subst (λ x. AreAwaited content_kind core x) is held.parts

pub awaits_data : (core : Core) (d : DownloadValue) (part : Part) (later : List Part) → MayRead core d → d.parts
    ≡ part ∷ later → AwaitsPlain core part.ticket
awaits_data core d part later may is = record {
  kind = expected.Content part.len;
  holds =
      (first_awaited core d part later may.held is).0;
  plain = refl;
}

pub first_is : (core : Core) (d : DownloadValue) (part : Part) (later : List Part) → d.rest ≡ 0 → d.parts ≡ part ∷ later
    → first_reply core d ≡ reply_in (record_at core part.ticket)
first_is core d part later rest is = λ i. first_reply core (record d { rest = rest i; parts = is i })

pub none_under_way : (core : Core) (d : DownloadValue) → d.parts ≡ [] → first_reply core d ≡ None
none_under_way core d is = by_rest d.rest refl
  where
    by_rest : (rest : ℕ) → d.rest ≡ rest → first_reply core d ≡ None
    by_rest zero r = λ i. first_reply core (record d { rest = r i; parts = is i })
    by_rest (suc rest) r = λ i. first_reply core (record d { rest = r i; parts = is i })

pub rest_first : (core : Core) (d : DownloadValue) → 0 < d.rest → first_reply core d ≡ None
rest_first core d some = by_rest d.rest refl
  where
    by_rest : (rest : ℕ) → d.rest ≡ rest → first_reply core d ≡ None
    by_rest zero r = absurd (omega (arith, some, r))
    by_rest (suc rest) r = λ i. first_reply core (record d { rest = r i })

some_bytes : (len : ℕ) (bytes : List ℕ) → allows_reply (expected.Content len) (reply.Content bytes) ≡ true
    → 0 < length bytes
some_bytes len bytes e = grind (arith, nat_tests, e)

few_bytes : (len : ℕ) (bytes : List ℕ) → allows_reply (expected.Content len) (reply.Content bytes) ≡ true
    → length bytes ≤ len
few_bytes len bytes e = grind (arith, nat_tests, e)

-- the download after the first part's bytes, and after its status
bytes_left : (d now new : DownloadValue) (part : Part) (later : List Part) (bytes : List ℕ) → d.parts ≡ part ∷ later
    → now ≡ record d { parts = later }
    → new ≡ record now { offset = now.offset + length bytes; rest = part.len - length bytes } → new ≡ after_bytes d bytes
bytes_left d now new part later bytes is now_is to =
    to ∙ (ap (λ (x : DownloadValue). record x { offset = x.offset + length bytes; rest = part.len - length bytes })
    now_is ∙ (λ i. record d {
      offset = d.offset + length bytes;
      rest = first_len (sym is i) - length bytes;
      parts = drop 1 (sym is i);
    }))

status_left : (d now new : DownloadValue) (part : Part) (later : List Part) → d.parts ≡ part ∷ later
    → now ≡ record d { parts = later } → new ≡ record now { ended = true } → new ≡ after_status d
status_left d now new part later is now_is to =
    to ∙ (ap (λ (x : DownloadValue). record x { ended = true }) now_is
    ∙ (λ i. record d { parts = drop 1 (sym is i); ended = true }))

pub gives : (core after : Core) (d now new : DownloadValue) (part : Part) (later : List Part) (r : Reply)
    (result : Result (Option (List ℕ)) Error)
    → d.ended ≡ false → first_reply core d ≡ Some r → d.parts ≡ part ∷ later → after ≡ after_poll core part.ticket
    → allows_reply (expected.Content part.len) r ≡ true
    → now ≡ record d { parts = later } → IsHandedOut now part.len r new result
    → GivesFirst core after d new (poll.Ready result)
gives core after d now new part later (reply.Content bytes) result over told is core_is allowed now_is (gave, to) =
    subst (λ x. GivesFirst core after d new (poll.Ready x)) (sym gave) (
      told,
      some_bytes part.len bytes allowed,
      ap (λ (x : DownloadValue). x.offset) to ∙ ap (λ (x : DownloadValue). x.offset + length bytes) now_is,
      ap (λ (x : DownloadValue). x.ended) to ∙ ap (λ (x : DownloadValue). x.ended) now_is ∙ over,
      core_is ∙ ap (after_first core) (sym is),
      bytes_left d now new part later bytes is now_is to,
    )
gives core after d now new part later (reply.Status code message language) result over told is core_is allowed now_is
    (gave, to) =
    subst (λ x. GivesFirst core after d new (poll.Ready x)) (sym gave) (by_code (code == SSH_FX_EOF) refl)
  where
    by_code : (b : Bool) → code == SSH_FX_EOF ≡ b → GivesFirst core after d new
        (poll.Ready (if b then Ok None else Err (error.SftpError code message language)))
    by_code true e = (
      subst (λ x. IsEnd x) (sym told) e,
      ap (λ (x : DownloadValue). x.offset) to ∙ ap (λ (x : DownloadValue). x.offset) now_is,
      ap (λ (x : DownloadValue). x.ended) to,
      core_is ∙ ap (after_first core) (sym is),
      status_left d now new part later is now_is to,
    )
    by_code false e = (
      told,
      ap (λ (x : DownloadValue). x.offset) to ∙ ap (λ (x : DownloadValue). x.offset) now_is,
      ap (λ (x : DownloadValue). x.ended) to,
      core_is ∙ ap (after_first core) (sym is),
      status_left d now new part later is now_is to,
    )
gives core after d now new part later other result over told is core_is allowed now_is never = absurd never

-- ---- what is under way stays so

sum_is : (offset rest len n others next : ℕ) → n ≤ len → rest ≡ 0 → offset + rest + (len + others) ≡ next
    → offset + n + (len - n) + others ≡ next
sum_is offset rest len n others next fits none sum = omega (arith, fits, none, sum)

-- behind a DATA of the first part
goes_on : (core : Core) (d now new : DownloadValue) (part : Part) (later : List Part) (r : Reply)
    (result : Result (Option (List ℕ)) Error)
    → IsReading core d → d.rest ≡ 0 → d.parts ≡ part ∷ later → now ≡ record d { parts = later }
    → allows_reply (expected.Content part.len) r ≡ true → IsHandedOut now part.len r new result
    → new.ended ≡ false → IsReading (after_poll core part.ticket) new
goes_on core d now new part later (reply.Content bytes) result held rest is now_is allowed (gave, to) going =
    let h = first_awaited core d part later held is in
    let fits = few_bytes part.len bytes allowed in
    let few : suc (length later) ≤ d.window = subst (λ (x : List Part). length x ≤ d.window) is held.few in
    let all : new ≡ record d { parts = later; offset = d.offset + length bytes; rest = part.len - length bytes } =
    to ∙ ap (λ (x : DownloadValue). record x { offset = x.offset + length bytes; rest = part.len - length bytes })
    now_is in
    subst (λ (x : DownloadValue). IsReading (after_poll core part.ticket) x) (sym all) (record {
      parts = others_awaited content_kind core part.ticket later h.2 h.3;
      next = sum_is d.offset d.rest part.len (length bytes) (parts_len later) d.next fits rest
          (ap (λ (x : List Part). d.offset + d.rest + parts_len x) (sym is) ∙ held.next);
      small = held.small;
      few = omega (arith, few);
      less = λ some. omega (arith, few);
      some = held.some;
      wide = held.wide;
    })
goes_on core d now new part later (reply.Status code message language) result held rest is now_is allowed (gave, to)
    going =
    (let over : new.ended ≡ true = ap (λ (x : DownloadValue). x.ended) to in absurd cc)
goes_on core d now new part later other result held rest is now_is allowed never going = absurd never

left_parts : (core : Core) (now new : DownloadValue) (len : ℕ) (r : Reply) (result : Result (Option (List ℕ)) Error)
    → IsHandedOut now len r new result → new.parts ≡ now.parts
left_parts core now new len (reply.Content bytes) result (gave, to) = ap (λ (x : DownloadValue). x.parts) to
left_parts core now new len (reply.Status code message language) result (gave, to) =
    ap (λ (x : DownloadValue). x.parts) to
left_parts core now new len other result never = absurd never

same_handed : (d now new : DownloadValue) (later : List Part) (len : ℕ) (r : Reply)
    (result : Result (Option (List ℕ)) Error)
    → now ≡ record d { parts = later } → IsHandedOut now len r new result → IsSameStream d new
same_handed d now new later len (reply.Content bytes) result now_is (gave, to) =
    same_both d now new (same_as (record d { parts = later }) now now_is)
    (same_as (record now { offset = now.offset + length bytes; rest = len - length bytes }) new to)
same_handed d now new later len (reply.Status code message language) result now_is (gave, to) =
    same_both d now new (same_as (record d { parts = later }) now now_is) (same_as (record now { ended = true }) new to)
same_handed d now new later len other result now_is never = absurd never

-- ---- all that a poll of the first part did

pub reads_reply : (core after : Core) (d now new : DownloadValue) (part : Part) (later : List Part) (r : Reply)
    (result : Result (Option (List ℕ)) Error)
    → MayRead core d → d.rest ≡ 0 → d.parts ≡ part ∷ later → now ≡ record d { parts = later }
    → PartCame core part.ticket r → after ≡ after_poll core part.ticket
    → IsHandedOut now part.len r new result → PollsDownload core after d new (poll.Ready result)
reads_reply core after d now new part later r result may rest is now_is came to out =
    let h = first_awaited core d part later may.held is in
    let allowed : allows_reply (expected.Content part.len) r ≡ true =
    came.allowed (expected.Content part.len) h.0.expects in
    record {
      gives = gives core after d now new part later r result may.over (first_is core d part later rest is ∙ came.taken)
          is to allowed now_is out;
      held = λ going. subst (λ (x : Core). IsReading x new) (sym to)
          (goes_on core d now new part later r result may.held rest is now_is allowed out going);
      parts = subst (λ (x : Core). AreAwaited content_kind x new.parts) (sym to)
          (subst (λ x. AreAwaited content_kind (after_poll core part.ticket) x)
          (sym (left_parts core now new part.len r result out ∙ ap (λ (x : DownloadValue). x.parts) now_is))
          (others_awaited content_kind core part.ticket later h.2 h.3));
      others = subst (λ (x : Core). KeepsOthersHeld d.parts core x) (sym to)
          (subst (λ x. KeepsOthersHeld x core (after_poll core part.ticket)) (sym is)
          (others_polled content_kind core part later h));
      fixed = same_handed d now new later part.len r result now_is out;
    }

pub reads_fault : (core after : Core) (d new : DownloadValue) (part : Part) (later : List Part) (fault : Fault)
    → MayRead core d → d.rest ≡ 0 → d.parts ≡ part ∷ later → new ≡ record d { parts = later; ended = true }
    → reply_in (record_at core part.ticket) ≡ None → core.fault ≡ Some fault
    → after ≡ after_poll core part.ticket → PollsDownload core after d new
    (poll.Ready (Err (error.BackgroundTaskFailure fault)))
reads_fault core after d new part later fault may rest is now missing kept to =
    let h = first_awaited core d part later may.held is in
    let over : new.ended ≡ true = ap (λ (x : DownloadValue). x.ended) now in
    record {
      gives = (first_is core d part later rest is ∙ missing, kept, ap (λ (x : DownloadValue). x.offset) now, over);
      held = λ going. absurd cc;
      parts = subst (λ (x : Core). AreAwaited content_kind x new.parts) (sym to)
          (subst (λ x. AreAwaited content_kind (after_poll core part.ticket) x)
          (sym (ap (λ (x : DownloadValue). x.parts) now)) (others_awaited content_kind core part.ticket later h.2
          h.3));
      others = subst (λ (x : Core). KeepsOthersHeld d.parts core x) (sym to)
          (subst (λ x. KeepsOthersHeld x core (after_poll core part.ticket)) (sym is)
          (others_polled content_kind core part later h));
      fixed = same_as (record d { parts = later; ended = true }) new now;
    }

-- ---- where the first reply is missing

pub missed_rest : (core : Core) (d : DownloadValue) → 0 < d.rest → IsMissing core d
missed_rest core d some = record {
  reply = rest_first core d some;
  unfailed =
      λ none. absurd (omega (arith, some, none));
}

pub missed_none : (core : Core) (d : DownloadValue) → d.parts ≡ [] → IsMissing core d
missed_none core d is = record {
  reply = none_under_way core d is;
  unfailed =
      λ none some. absurd (let e = ap length is in omega (arith, some, e));
}

pub missed_first : (core : Core) (d : DownloadValue) (part : Part) (later : List Part) → d.rest ≡ 0 → d.parts
    ≡ part ∷ later → reply_in (record_at core part.ticket) ≡ None → core.fault ≡ None
    → IsMissing core d
missed_first core d part later rest is missing unfailed = record
    { reply = first_is core d part later rest is ∙ missing; unfailed = λ none some. unfailed }

pub reads_pending : (core after : Core) (d new : DownloadValue) → MayRead core d → IsMissing core d → MayRead after new
    → FillsWindow core d after new → IsFilled new → 0 < length new.parts → PollsDownload core after d new poll.Pending
reads_pending core after d new may missed left fills full some =
    let s = stands core after d new fills in
    record {
      gives = (
        missed.reply,
        unfailed core after d new fills full missed.unfailed some,
        s.0,
        s.1 ∙ may.over,
        fills,
        full,
        some,
      );
      held = λ going. left.held;
      parts = left.held.parts;
      others = others_all d.parts core after (others_filled core after d new fills);
      fixed = same_stream core after d new fills;
    }

pub reads_short : (core after : Core) (d new : DownloadValue) → MayRead core d → IsMissing core d → MayRead after new
    → FillsWindow core d after new → (IsFilled d → ⊥)
    → PollsDownload core after d new (poll.Ready (Err error.OutOfMemory))
reads_short core after d new may missed left fills more =
    let s = stands core after d new fills in
    record {
      gives = (missed.reply, s.0, s.1 ∙ may.over, fills, more);
      held = λ going. left.held;
      parts = left.held.parts;
      others = others_all d.parts core after (others_filled core after d new fills);
      fixed = same_stream core after d new fills;
    }

pub reads_failed : (core after : Core) (d mid new : DownloadValue) (fault : Fault) → IsMissing core d
    → MayRead after mid → FillsWindow core d after mid → new ≡ record mid { ended = true } → core.fault ≡ Some fault
    → PollsDownload core after d new (poll.Ready (Err (error.BackgroundTaskFailure fault)))
reads_failed core after d mid new fault missed left fills now kept =
    let s = stands core after d mid fills in
    let over : new.ended ≡ true = ap (λ (x : DownloadValue). x.ended) now in
    record {
      gives = (missed.reply, kept, ap (λ (x : DownloadValue). x.offset) now ∙ s.0, over);
      held = λ going. absurd cc;
      parts = subst (λ x. AreAwaited content_kind after x) (sym (ap (λ (x : DownloadValue). x.parts) now))
          left.held.parts;
      others = others_all d.parts core after (others_filled core after d mid fills);
      fixed = same_both d mid new (same_stream core after d mid fills) (same_as (record mid { ended = true }) new now);
    }

-- nothing is under way, and nothing can be asked for
pub reads_overflow : (core after : Core) (d mid new : DownloadValue) → IsMissing core d → MayRead after mid
    → FillsWindow core d after mid → IsFilled mid → mid.parts ≡ [] → new ≡ record mid { ended = true }
    → PollsDownload core after d new (poll.Ready (Err (error.IOError OffsetOverflow)))
reads_overflow core after d mid new missed left fills full none now =
    let s = stands core after d mid fills in
    let over : new.ended ≡ true = ap (λ (x : DownloadValue). x.ended) now in
    record {
      gives = (
        missed.reply,
        refl,
        sym s.0 ∙ greatest mid left.held full none,
        ap (λ (x : DownloadValue). x.offset) now
            ∙ s.0,
        over,
      );
      held = λ going. absurd cc;
      parts = subst (λ x. AreAwaited content_kind after x) (sym (ap (λ (x : DownloadValue). x.parts) now))
          left.held.parts;
      others = others_all d.parts core after (others_filled core after d mid fills);
      fixed = same_both d mid new (same_stream core after d mid fills) (same_as (record mid { ended = true }) new now);
    }
  where
    greatest : (m : DownloadValue) → IsReading after m → IsFilled m → m.parts ≡ [] → m.offset ≡ 2 ^ 64 - 1
    greatest m held (rest, inl full) none = (let e = ap length none in let wide = held.wide in
        absurd (omega (arith, full, e, wide)))
    greatest m held (rest, inr end) none =
        (let e : m.offset + m.rest + 0 ≡ m.next = ap (λ x. m.offset + m.rest + parts_len x) (sym none) ∙ held.next in
        omega (arith, e, rest, end))
