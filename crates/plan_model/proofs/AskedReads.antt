-- The READs of a whole read, as its plan asked them.
use Rattle.std.proofs.Common.{◌≡◌, ◌<◌, ◌≤◌, ◌+◌, ◌*◌, ◌^◌, ℕ, zero, suc, List, [], ◌∷◌, Option, Some, None, refl, sym, ap, subst, arith}
use Rattle.std.specs.Prelude.{◌++◌, IfSome, length}
use Rattle.std.proofs.Math.Nat.{suc-mul}
use Rattle.std.proofs.lemmas.List.{length-append}
use Rattle.sftp_model.specs.declared.error.IoKind.TheVariants as kind
use Rattle.sftp_model.specs.declared.outcome.Outcome.{Outcome}
use Rattle.sftp_model.specs.Numbers.{MAX_TRANSFER_LEN}
use Rattle.sftp_model.specs.declared.reply.Reply.{Reply}
use Rattle.sftp_model.specs.declared.reply.Reply.TheVariants as reply
use Rattle.sftp_model.specs.declared.request.Request.{Request}
use Rattle.sftp_model.specs.declared.request.Request.TheVariants as request
use Rattle.sftp_model.specs.declared.slot.Facts.{Facts}
use Rattle.sftp_model.specs.declared.slot.Move.{Move}
use Rattle.sftp_model.specs.declared.slot.Move.TheVariants.{Ask, Wait, Done}
use Rattle.sftp_model.specs.declared.slot.Site.{Site}
use Rattle.sftp_model.specs.Answers.{MayAnswer}
use Rattle.sftp_model.specs.Frames.{is_too_long}
use Rattle.plan_model.specs.Moves.{Answers, Own, once_answered, on_handle, refuse_locally}
use Rattle.plan_model.specs.PathPlans.{from_directory}
use Rattle.plan_model.specs.FilePlans.{open_request}
use Rattle.plan_model.specs.TransferPlans.{offset_asked}
use Rattle.plan_model.specs.WindowPlans.{len_asked, answered_prefix, outside, window_next, to_read, fs_read_next}
use Rattle.plan_model.specs.GoodMoves.{ReadsWithin}
use Rattle.plan_model.specs.OwnRequests.{ExtendsAnswers, oldest_first, AreAsked, MayBeAnswered}
use Rattle.plan_model.specs.RequestCounts.{AsksBelow}
use Rattle.plan_model.proofs.MoveLaws.{either}
use Rattle.plan_model.proofs.Tiles.{FitsIn}
use Rattle.plan_model.proofs.WindowAsks.{Asking, asking, ends_no_ask}
use Rattle.plan_model.proofs.WindowSteps.{Windowed, none_windowed, windowed_later, asked_fits}
use Rattle.plan_model.proofs.OpenSteps.{windowed_added, asked_below}

-- ---- replies that may answer

may_earlier : (past : Own) (before answers : Answers) → ExtendsAnswers before answers → MayBeAnswered past answers
    → MayBeAnswered past before
may_earlier [] before answers stays may = tt
may_earlier (a ∷ past) before answers stays may = (
  by_answer (before a.0) refl,
  may_earlier past before answers stays may.1,
)
  where
    by_answer : (o : Option Reply) → before a.0 ≡ o → IfSome o (MayAnswer a.1)
    by_answer None is = tt
    by_answer (Some r) is = subst (λ (o : Option Reply). IfSome o (MayAnswer a.1)) (stays a.0 r is) may.0

may_added : (a : ℕ × Request) (own : Own) (answers : Answers) → MayBeAnswered own answers
    → IfSome (answers a.0) (MayAnswer a.1) → MayBeAnswered (own ++ a ∷ []) answers
may_added a [] answers may new = (new, tt)
may_added a (b ∷ own) answers may new = (may.0, may_added a own answers may.1 new)

pub may_oldest : (past : Own) (answers : Answers) → MayBeAnswered past answers
    → MayBeAnswered (oldest_first past) answers
may_oldest [] answers may = tt
may_oldest (a ∷ past) answers may = may_added a (oldest_first past) answers (may_oldest past answers may.1) may.0

pub oldest_length : (own : Own) → length (oldest_first own) ≡ length own
oldest_length [] = refl
oldest_length (a ∷ own) = omega (arith, length-append (oldest_first own) (a ∷ []), oldest_length own)

-- ---- after the OPEN

-- the window asks on the handle that the OPEN brought
pub record WindowAsked (bound : Option ℕ) (reads : Own) (answers : Answers) (facts : Facts) (r : Request) : Type 0 where
  pub handle : List ℕ
  pub asks : Asking handle bound reads (answered_prefix reads answers) (outside reads answers) facts r

window_asked : (path : List ℕ) (bound : Option ℕ) (site : Site) (facts : Facts) (first : ℕ × Request) (reads : Own)
    (answers : Answers) (r : Request) → fs_read_next path bound site facts (first ∷ reads) answers ≡ Ask r
    → WindowAsked bound reads answers facts r
window_asked path bound site facts first reads answers r e = by_answer (answers first.0) e
  where
    go : List ℕ → Move
    go handle = window_next handle bound reads (answered_prefix reads answers) (outside reads answers) site facts

    by_answer : (o : Option Reply) → once_answered first.0 o (λ y. on_handle y site go) ≡ Ask r
        → WindowAsked bound reads answers facts r
    by_answer None e = absurd cc
    by_answer (Some (reply.Handle handle)) e = record {
      handle = handle;
      asks =
          asking handle bound reads (answered_prefix reads answers) (outside reads answers) site facts r e;
    }
    by_answer (Some (reply.Status code message language)) e = absurd
        (ends_no_ask (reply.Status code message language) site r e)
    by_answer (Some (reply.Content bytes)) e = absurd (ends_no_ask (reply.Content bytes) site r e)
    by_answer (Some (reply.Names names)) e = absurd (ends_no_ask (reply.Names names) site r e)
    by_answer (Some (reply.Attrs attrs)) e = absurd (ends_no_ask (reply.Attrs attrs) site r e)
    by_answer (Some (reply.Extended content)) e = absurd (ends_no_ask (reply.Extended content) site r e)
    by_answer (Some (reply.Version version extensions)) e = absurd
        (ends_no_ask (reply.Version version extensions) site r e)

-- the OPEN and the READs of a whole read that has asked
pub record AskedReads (facts : Facts) (past : Own) (answers : Answers) : Type 0 where
  pub first : ℕ × Request
  pub reads : Own
  pub are : oldest_first past ≡ first ∷ reads
  pub window : Windowed facts (length past * facts.read_len) reads answers

may_reads : (past : Own) (answers : Answers) (first : ℕ × Request) (reads : Own) → oldest_first past ≡ first ∷ reads
    → MayBeAnswered past answers → MayBeAnswered reads answers
may_reads past answers first reads are may = let both : MayBeAnswered (first ∷ reads) answers =
    subst (λ (l : Own). MayBeAnswered l answers) are (may_oldest past answers may) in both.1

asked_reads : (path : List ℕ) (bound : Option ℕ) (site : Site) (facts : Facts) (a : ℕ × Request) (past : Own)
    (answers : Answers) → 1 ≤ facts.read_len → AreAsked (fs_read_next path bound site facts) (a ∷ past) answers
    → MayBeAnswered (a ∷ past) answers → AskedReads facts (a ∷ past) answers
asked_reads path bound site facts a [] answers one asked may =
    record { first = a; reads = []; are = refl; window = none_windowed facts (1 * facts.read_len) answers }
asked_reads path bound site facts a (b ∷ past) answers one (before, earlier, is, none, stays) may =
    let old : MayBeAnswered (b ∷ past) before = may_earlier (b ∷ past) before answers stays may.1 in
    let m : AskedReads facts (b ∷ past) before = asked_reads path bound site facts b past before one earlier old in
    let are : oldest_first (a ∷ b ∷ past) ≡ m.first ∷ (m.reads ++ a ∷ []) = ap (λ (l : Own). l ++ a ∷ []) m.are in
    let w : WindowAsked bound m.reads before facts a.1 =
    window_asked path bound site facts m.first m.reads before a.1
    (subst (λ (l : Own). fs_read_next path bound site facts l before ≡ Ask a.1) m.are is) in
    let added : Windowed facts (length (b ∷ past) * facts.read_len + facts.read_len) (m.reads ++ a ∷ []) before =
    windowed_added w.handle bound facts (length (b ∷ past) * facts.read_len) a m.reads before none one
    (may_reads (b ∷ past) before m.first m.reads m.are old) m.window w.asks in
    record {
      first = m.first;
      reads = m.reads ++ a ∷ [];
      are = are;
      window = windowed_later facts (length (a ∷ b ∷ past) * facts.read_len) (m.reads ++ a ∷ []) before answers stays
          (may_reads (a ∷ b ∷ past) answers m.first (m.reads ++ a ∷ []) are may)
          (subst (λ (n : ℕ). Windowed facts n (m.reads ++ a ∷ []) before)
          (sym (suc-mul (length (b ∷ past)) facts.read_len)) added);
    }

-- ---- what a whole read asks

reads_within : (facts : Facts) (r : Request) → offset_asked 0 r + len_asked r < 2 ^ 64 → len_asked r ≤ facts.read_len
    → ReadsWithin facts (Ask r)
reads_within facts (request.Read handle offset len) below le = (below, le)
reads_within facts other below le = tt

-- a READ ends below a read length for each request, and comes where few were made
pub record AskedRead (bound : Option ℕ) (facts : Facts) (made : ℕ) (r : Request) : Type 0 where
  pub top : offset_asked 0 r + len_asked r ≤ made * facts.read_len + facts.read_len
  pub len : len_asked r ≤ facts.read_len
  pub few : (n : ℕ) → bound ≡ Some n → made < n + facts.read_window

read_asked : (path : List ℕ) (bound : Option ℕ) (site : Site) (facts : Facts) (a : ℕ × Request) (past : Own)
    (answers : Answers) (r : Request) → 1 ≤ facts.read_len → AreAsked (fs_read_next path bound site facts) (a ∷ past)
    answers
    → MayBeAnswered (a ∷ past) answers → fs_read_next path bound site facts (oldest_first (a ∷ past)) answers ≡ Ask r
    → AskedRead bound facts (suc (length past)) r
read_asked path bound site facts a past answers r one asked may is =
    let m : AskedReads facts (a ∷ past) answers = asked_reads path bound site facts a past answers one asked may in
    let w : WindowAsked bound m.reads answers facts r = window_asked path bound site facts m.first m.reads answers r
    (subst (λ (l : Own). fs_read_next path bound site facts l answers ≡ Ask r) m.are is) in
    let may_be : MayBeAnswered m.reads answers = may_reads (a ∷ past) answers m.first m.reads m.are may in
    let f : FitsIn facts.read_len (length (a ∷ past) * facts.read_len) m.reads answers (offset_asked 0 r) (len_asked r)
    =
    asked_fits w.handle bound facts (length (a ∷ past) * facts.read_len) m.reads answers r one may_be m.window w.asks in
    let all : length (oldest_first (a ∷ past)) ≡ suc (length m.reads) = ap length m.are in
    let same : length (oldest_first (a ∷ past)) ≡ suc (length past) = oldest_length (a ∷ past) in
    record {
      top = f.under;
      len = f.some.1;
      few = λ n e. (let below : suc (length m.reads) < n + facts.read_window =
          asked_below w.handle bound facts (length (a ∷ past) * facts.read_len) m.reads answers r m.window w.asks n e in
          omega (arith, below, all, same));
    }

grown : (n m r : ℕ) → n ≤ m → n * r ≤ m * r
grown zero m r le = omega arith
grown (suc n) zero r le = absurd (omega (arith, le))
grown (suc n) (suc m) r le = omega (arith, suc-mul n r, suc-mul m r, grown n m r (omega (arith, le)))

below_range : (n r top : ℕ) → top ≤ n * r + r → n < 2 ^ 43 → r ≤ MAX_TRANSFER_LEN → top < 2 ^ 64
below_range n r top le few short =
    let far : suc n * r ≤ 8796093022208 * r = grown (suc n) 8796093022208 r (omega (arith, few)) in
    omega (arith, le, far, suc-mul n r, short)

-- of a move that asks
by_ask : (P : Move → Type 0) (m : Move) → ((place : ℕ) → P (Wait place))
    → ((o : Outcome) (site : Site) → P (Done o site)) → ((r : Request) → m ≡ Ask r → P (Ask r)) → P m
by_ask P (Ask r) waits ends asks = asks r refl
by_ask P (Wait place) waits ends asks = waits place
by_ask P (Done o site) waits ends asks = ends o site

pub whole_range : (path : List ℕ) (bound : Option ℕ) (site : Site) (facts : Facts) (past : Own) (answers : Answers)
    → 1 ≤ facts.read_len → facts.read_len ≤ MAX_TRANSFER_LEN
    → ((made n : ℕ) → bound ≡ Some n → made < n + facts.read_window → made < 2 ^ 43)
    → (bound ≡ None → length past < 2 ^ 43) → AreAsked (fs_read_next path bound site facts) past answers
    → MayBeAnswered past answers
    → ReadsWithin facts (fs_read_next path bound site facts (oldest_first past) answers)
whole_range path bound site facts [] answers one short small free asked may =
    either (ReadsWithin facts) (is_too_long (open_request to_read (from_directory site path)))
    (refuse_locally kind.PathTooLong site) (Ask (open_request to_read (from_directory site path))) (λ e. tt) (λ e. tt)
whole_range path bound site facts (a ∷ past) answers one short small free asked may =
    by_ask (ReadsWithin facts) (fs_read_next path bound site facts (oldest_first (a ∷ past)) answers) (λ place. tt)
    (λ o x. tt)
    (λ r is. of_read r (read_asked path bound site facts a past answers r one asked may is))
  where
    by_bound : (o : Option ℕ) → bound ≡ o → ((n : ℕ) → bound ≡ Some n → suc (length past) < n + facts.read_window)
        → suc (length past) < 2 ^ 43
    by_bound None is few = free is
    by_bound (Some n) is few = small (suc (length past)) n is (few n is)

    of_read : (r : Request) → AskedRead bound facts (suc (length past)) r → ReadsWithin facts (Ask r)
    of_read r k = reads_within facts r (below_range (suc (length past)) facts.read_len (offset_asked 0 r + len_asked r)
        k.top (by_bound bound refl k.few) short) k.len

pub whole_work : (path : List ℕ) (bound : ℕ) (site : Site) (facts : Facts) (past : Own) (answers : Answers)
    → 1 ≤ facts.read_len → 1 ≤ facts.read_window → AreAsked (fs_read_next path (Some bound) site facts) past answers
    → MayBeAnswered past answers → AsksBelow (length past) (bound + facts.read_window)
    (fs_read_next path (Some bound) site facts (oldest_first past) answers)
whole_work path bound site facts [] answers one some asked may =
    either (AsksBelow 0 (bound + facts.read_window)) (is_too_long (open_request to_read (from_directory site path)))
    (refuse_locally kind.PathTooLong site) (Ask (open_request to_read (from_directory site path))) (λ e. tt)
    (λ e. omega (arith, some))
whole_work path bound site facts (a ∷ past) answers one some asked may =
    by_ask (AsksBelow (suc (length past)) (bound + facts.read_window))
    (fs_read_next path (Some bound) site facts (oldest_first (a ∷ past)) answers) (λ place. tt) (λ o x. tt)
    (λ r is. AskedRead.few (read_asked path (Some bound) site facts a past answers r one asked may is) bound refl)
