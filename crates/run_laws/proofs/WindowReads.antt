-- The OPEN and the READs of a whole read, as its plan asked them.
use Rattle.std.proofs.Common.{◌≡◌, ◌≤◌, ◌+◌, ◌*◌, ℕ, List, [], ◌∷◌, Option, Some, None, refl, sym, ap, subst, ◌∙◌, inl, inr, arith}
use Rattle.std.specs.Prelude.{◌++◌, ◌⊎◌, IfSome, length, map}
use Rattle.std.proofs.Math.Nat.{suc-mul}
use Rattle.sftp_model.specs.Answers.{MayAnswer}
use Rattle.sftp_model.specs.declared.reply.Reply.{Reply}
use Rattle.sftp_model.specs.declared.reply.Reply.TheVariants as reply
use Rattle.sftp_model.specs.declared.request.Request.{Request}
use Rattle.sftp_model.specs.declared.request.Request.TheVariants as request
use Rattle.sftp_model.specs.declared.slot.Facts.{Facts}
use Rattle.sftp_model.specs.declared.slot.Move.{Move}
use Rattle.sftp_model.specs.declared.slot.Move.TheVariants.{Ask}
use Rattle.sftp_model.specs.declared.slot.Site.{Site}
use Rattle.plan_model.specs.FilePlans.{open_request}
use Rattle.plan_model.specs.Moves.{Answers, Own, ask_path, handle_of, on_handle, once_answered}
use Rattle.plan_model.specs.OwnRequests.{AreAsked, ExtendsAnswers, MayBeAnswered, oldest_first}
use Rattle.plan_model.specs.PathPlans.{from_directory}
use Rattle.plan_model.specs.WindowPlans.{answered_prefix, begins, fs_read_next, len_asked, outside, to_read, window_next}
use Rattle.plan_model.proofs.Among.{Among, MadeOf, among_map, at_end, before_end, from_map, last_end}
use Rattle.plan_model.proofs.AskedReads.{may_oldest}
use Rattle.plan_model.proofs.OpenSteps.{windowed_added}
use Rattle.plan_model.proofs.WindowAsks.{AfterAll, Asking, AtGap, asking, ends_no_ask}
use Rattle.plan_model.proofs.WindowSteps.{Windowed, none_windowed, windowed_later}
use Rattle.run_laws.proofs.ReadLaws.{AreReads}

-- ---- replies that may answer

may_earlier : (past : Own) (before answers : Answers) → ExtendsAnswers before answers → MayBeAnswered past answers
    → MayBeAnswered past before
may_earlier [] before answers stays may = tt
may_earlier (a ∷ past) before answers stays may = (
  by_answer (before a.0) refl,
  may_earlier past before answers stays may.1,
)
  where
    by_answer : (o : Option Reply) → before a.0 ≡ o → IfSome o (MayAnswer a.1)
    by_answer None is = tt
    by_answer (Some r) is = subst (λ (o : Option Reply). IfSome o (MayAnswer a.1)) (stays a.0 r is) may.0

pub may_reads : (past : Own) (answers : Answers) (first : ℕ × Request) (reads : Own) → oldest_first past ≡ first ∷ reads
    → MayBeAnswered past answers → MayBeAnswered reads answers
may_reads past answers first reads are may = let both : MayBeAnswered (first ∷ reads) answers =
    subst (λ (l : Own). MayBeAnswered l answers) are (may_oldest past answers may) in both.1

-- ---- what the window asks

-- the window asks on the handle that the OPEN brought
pub record WindowAsked (bound : Option ℕ) (first : ℕ × Request) (reads : Own) (answers : Answers) (facts : Facts)
    (r : Request) : Type 0 where
  pub handle : List ℕ
  pub brought : answers first.0 ≡ Some (reply.Handle handle)
  pub asks : Asking handle bound reads (answered_prefix reads answers) (outside reads answers) facts r

pub window_asked : (path : List ℕ) (bound : Option ℕ) (site : Site) (facts : Facts) (first : ℕ × Request) (reads : Own)
    (answers : Answers) (r : Request) → fs_read_next path bound site facts (first ∷ reads) answers ≡ Ask r
    → WindowAsked bound first reads answers facts r
window_asked path bound site facts first reads answers r e = by_answer (answers first.0) refl e
  where
    go : List ℕ → Move
    go handle = window_next handle bound reads (answered_prefix reads answers) (outside reads answers) site facts

    by_answer : (o : Option Reply) → answers first.0 ≡ o → once_answered first.0 o (λ y. on_handle y site go) ≡ Ask r
        → WindowAsked bound first reads answers facts r
    by_answer None is e = absurd cc
    by_answer (Some (reply.Handle handle)) is e = record {
      handle = handle;
      brought = is;
      asks =
          asking handle bound reads (answered_prefix reads answers) (outside reads answers) site facts r e;
    }
    by_answer (Some (reply.Status code message language)) is e =
        absurd (ends_no_ask (reply.Status code message language) site r e)
    by_answer (Some (reply.Content bytes)) is e = absurd (ends_no_ask (reply.Content bytes) site r e)
    by_answer (Some (reply.Names names)) is e = absurd (ends_no_ask (reply.Names names) site r e)
    by_answer (Some (reply.Attrs attrs)) is e = absurd (ends_no_ask (reply.Attrs attrs) site r e)
    by_answer (Some (reply.Extended content)) is e = absurd (ends_no_ask (reply.Extended content) site r e)
    by_answer (Some (reply.Version version extensions)) is e =
        absurd (ends_no_ask (reply.Version version extensions) site r e)

-- a READ by the handle
pub record ByHandle (handle : List ℕ) (r : Request) : Type 0 where
  pub offset : ℕ
  pub len : ℕ
  pub is : r ≡ request.Read handle offset len

pub asks_read : (handle : List ℕ) (bound : Option ℕ) (reads : Own) (answers : Answers) (facts : Facts) (r : Request)
    → Asking handle bound reads (answered_prefix reads answers) (outside reads answers) facts r → ByHandle handle r
asks_read handle bound reads answers facts r k = by_case k.asked
  where
    by_case : AtGap handle reads (answered_prefix reads answers) (outside reads answers) r
        ⊎ AfterAll handle reads (answered_prefix reads answers) (outside reads answers) facts r → ByHandle handle r
    by_case (inl g) = record { offset = g.gap; len = _; is = g.asks }
    by_case (inr a) = record { offset = _; len = facts.read_len; is = a.asks }

-- the first READ begins at the start
first_at_start : (handle : List ℕ) (bound : Option ℕ) (answers : Answers) (facts : Facts) (a : ℕ × Request)
    → Asking handle bound [] (answered_prefix [] answers) (outside [] answers) facts a.1 → begins a ≡ 0
first_at_start handle bound answers facts a k = by_case k.asked
  where
    by_case : AtGap handle [] (answered_prefix [] answers) (outside [] answers) a.1
        ⊎ AfterAll handle [] (answered_prefix [] answers) (outside [] answers) facts a.1 → begins a ≡ 0
    by_case (inl g) = absurd (let is = g.is in cc)
    by_case (inr all) = ap (λ (w : Request). begins (a.0, w)) all.asks

-- ---- all that were asked

-- each READ is by the handle
abbrev pub AreByHandle : List ℕ → Own → Type 0
AreByHandle handle reads = (a : ℕ × Request) → Among a reads → ByHandle handle a.1

-- there is none, or one begins at the start
abbrev pub StartsAtStart : Own → Type 0
StartsAtStart reads = (reads ≡ []) ⊎ Among 0 (map begins reads)

-- the OPEN and the READs of a whole read that has asked
pub record ReadsAsked (path : List ℕ) (bound : Option ℕ) (site : Site) (facts : Facts) (past : Own) (answers : Answers)
    : Type 0 where
  pub first : ℕ × Request
  pub reads : Own
  pub are : oldest_first past ≡ first ∷ reads
  pub opens : ask_path (open_request to_read (from_directory site path)) site ≡ Ask first.1
  pub by_handle : AreByHandle (handle_of (answers first.0)) reads
  pub starts : StartsAtStart reads
  pub window : Windowed facts (length past * facts.read_len) reads answers

starts_more : (a : ℕ × Request) (reads : Own) → (reads ≡ [] → begins a ≡ 0) → StartsAtStart reads
    → StartsAtStart (reads ++ a ∷ [])
starts_more a reads first (inl none) = inr (subst (λ (n : ℕ). Among n (map begins (reads ++ a ∷ []))) (first none)
    (among_map begins a (reads ++ a ∷ []) (last_end a reads)))
starts_more a reads first (inr there) =
    let m : MadeOf begins reads 0 = from_map begins 0 reads there in
    inr (subst (λ (n : ℕ). Among n (map begins (reads ++ a ∷ []))) (sym m.gives)
    (among_map begins m.of (reads ++ a ∷ []) (before_end m.of a reads m.there)))

pub reads_asked : (path : List ℕ) (bound : Option ℕ) (site : Site) (facts : Facts) (a : ℕ × Request) (past : Own)
    (answers : Answers) → 1 ≤ facts.read_len → AreAsked (fs_read_next path bound site facts) (a ∷ past) answers
    → MayBeAnswered (a ∷ past) answers → ReadsAsked path bound site facts (a ∷ past) answers
reads_asked path bound site facts a [] answers one (before, earlier, is, none, stays) may =
    record {
      first = a;
      reads = [];
      are = refl;
      opens = is;
      by_handle = λ b h. absurd h;
      starts = inl refl;
      window =
          none_windowed facts (1 * facts.read_len) answers;
    }
reads_asked path bound site facts a (b ∷ past) answers one (before, earlier, is, none, stays) may =
    let old : MayBeAnswered (b ∷ past) before = may_earlier (b ∷ past) before answers stays may.1 in
    let m : ReadsAsked path bound site facts (b ∷ past) before =
    reads_asked path bound site facts b past before one earlier old in
    let are : oldest_first (a ∷ b ∷ past) ≡ m.first ∷ (m.reads ++ a ∷ []) = ap (λ (l : Own). l ++ a ∷ []) m.are in
    let w : WindowAsked bound m.first m.reads before facts a.1 =
    window_asked path bound site facts m.first m.reads before a.1
    (subst (λ (l : Own). fs_read_next path bound site facts l before ≡ Ask a.1) m.are is) in
    let added : Windowed facts (length (b ∷ past) * facts.read_len + facts.read_len) (m.reads ++ a ∷ []) before =
    windowed_added w.handle bound facts (length (b ∷ past) * facts.read_len) a m.reads before none one
    (may_reads (b ∷ past) before m.first m.reads m.are old) m.window w.asks in
    let now : handle_of (answers m.first.0) ≡ w.handle = ap handle_of
    (stays m.first.0 (reply.Handle w.handle) w.brought) in
    let then : handle_of (before m.first.0) ≡ w.handle = ap handle_of w.brought in
    record {
      first = m.first;
      reads = m.reads ++ a ∷ [];
      are = are;
      opens = m.opens;
      by_handle = λ c h. elim (at_end c a m.reads h) [
        | inl k ↦ subst (λ (v : List ℕ). ByHandle v c.1) (then ∙ sym now) (m.by_handle c k)
        | inr e ↦ subst (λ (v : List ℕ). ByHandle v c.1) (sym now)
            (subst (λ (v : ℕ × Request). ByHandle w.handle v.1) (sym e)
            (asks_read w.handle bound m.reads before facts a.1 w.asks))
      ];
      starts = starts_more a m.reads
          (λ none. first_at_start w.handle bound before facts a (subst
          (λ (l : Own). Asking w.handle bound l (answered_prefix l before) (outside l before) facts a.1) none
          w.asks)) m.starts;
      window = windowed_later facts (length (a ∷ b ∷ past) * facts.read_len) (m.reads ++ a ∷ []) before answers stays
          (may_reads (a ∷ b ∷ past) answers m.first (m.reads ++ a ∷ []) are may)
          (subst (λ (n : ℕ). Windowed facts n (m.reads ++ a ∷ []) before)
          (sym (suc-mul (length (b ∷ past)) facts.read_len)) added);
    }

-- they are READs of some bytes by the handle of the OPEN
are_reads : (handle : List ℕ) (reads : Own) → ((a : ℕ × Request) → Among a reads → ByHandle handle a.1
    × (1 ≤ len_asked a.1)) → AreReads handle reads
are_reads handle [] each = tt
are_reads handle (a ∷ reads) each =
    let k = each a (inl refl) in
    let by = k.0 in
    let is = by.is in
    let same : len_asked a.1 ≡ by.len = ap len_asked is in
    let some = k.1 in (
      record { offset = by.offset; len = by.len; is = is; some = omega (arith, same, some) },
      are_reads handle reads (λ b h. each b (inr h)),
    )

pub reads_by_handle : (path : List ℕ) (bound : Option ℕ) (site : Site) (facts : Facts) (past : Own) (answers : Answers)
    → (m : ReadsAsked path bound site facts past answers) → AreReads (handle_of (answers m.first.0)) m.reads
reads_by_handle path bound site facts past answers m = are_reads (handle_of (answers m.first.0)) m.reads
    (λ a h. (m.by_handle a h, (m.window.tiled.some a h).0))
