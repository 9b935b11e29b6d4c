-- The lanes that were handed in, their calls, and the outcomes that are reported.
use Rattle.std.proofs.Common.{
  ◌≡◌,
  ◌≢◌,
  ◌<◌,
  ◌≤◌,
  ◌+◌,
  ◌-◌,
  ℕ,
  zero,
  suc,
  Bool,
  true,
  false,
  List,
  [],
  ◌∷◌,
  ◌++◌,
  length,
  Option,
  Some,
  None,
  refl,
  ap,
  sym,
  ◌∙◌,
  subst,
  arith,
  inl,
  inr,
}
use Rattle.std.specs.Prelude.{◌⊎◌, not, take, drop, slice_get, slice_index_or}
use Rattle.std.specs.List.{list_all}
use Rattle.std.proofs.lemmas.Bool.Decides.{eqb_tells}
use Rattle.std.proofs.lemmas.List.{length-append}
use Rattle.sftp_model.specs.declared.options.SftpOptions.{SftpOptions}
use Rattle.sftp_model.specs.declared.flags.Extensions.{Extensions}
use Rattle.sftp_model.specs.declared.outcome.Outcome.{Outcome}
use Rattle.machine_model.specs.Components.{Name}
use Rattle.plan_model.specs.declared.call.Call.{Call}
use Rattle.plan_model.specs.declared.call.Call.TheVariants as call
use Rattle.plan_model.specs.declared.call.Lane.{Lane}
use Rattle.session_model.specs.declared.entry.Entry.{Entry}
use Rattle.session_model.specs.declared.turn.Turn.{Turn}
use Rattle.session_model.specs.Calls.{Setting, lane_calls}
use Rattle.session_model.specs.Readings.{outcomes_below, outcomes_of}
use Rattle.session_model.specs.Runs.{IsRun}
use Rattle.session_model.specs.Settings.{setting_of}
use Rattle.run_laws.proofs.PlainRuns.{plain_calls, run_plain}
use Rattle.run_laws.proofs.UsedLaws.{some_is}
use Rattle.run_laws.specs.Flushes.{FlushNumbers, FlushesLast, IsAloneBut, is_one_of_four}
use Rattle.run_laws.specs.NameCalls.{all_keep_off, may_own, none_writes, writes}
use Rattle.run_laws.specs.ReadsBack.{GotBytes, IsAlone, ReadsNamed, WritesLast, calls_in, outcome_in}
use Rattle.run_laws.specs.RoundTrips.{HasGot, HasRead, HasWritten, IsOneLanes, NoneWrites, WritesWhole, outcome_at}
use Rattle.run_laws.proofs.CallRequests.{may_hold, own_held}
use Rattle.run_laws.proofs.AvoidedNames.{MayWrite, own_writes}
use Rattle.run_laws.proofs.FlushedLaws.{FlushedCalls}
use Rattle.run_laws.proofs.LaneCalls.{each_is}
use Rattle.run_laws.proofs.OffRequests.{told_apart}
use Rattle.run_laws.specs.SlotCalls.{leaves_slot}
use Rattle.run_laws.proofs.RoundTripLaws as laws

-- ---- lists

got_index : {A : Type 0} (xs : List A) (x d : A) (i : ℕ) → (slice_index_or (xs ++ x ∷ []) i d ≡ slice_index_or xs i d)
    ⊎ ((length xs ≡ i) × (slice_index_or (xs ++ x ∷ []) i d ≡ x))
got_index [] x d zero = inr (refl, refl)
got_index [] x d (suc i) = inl refl
got_index (y ∷ xs) x d zero = inl refl
got_index (y ∷ xs) x d (suc i) = elim (got_index xs x d i) [ inl old ↦ inl old | inr new ↦ inr (ap suc new.0, new.1) ]

got_taken : {A : Type 0} (xs : List A) (n k : ℕ) (x : A) → k < n → slice_get xs k ≡ Some x → slice_get (take n xs) k
    ≡ Some x
got_taken [] n k x lt e = absurd cc
got_taken (y ∷ xs) zero k x lt e = absurd (omega (arith, lt))
got_taken (y ∷ xs) (suc n) zero x lt e = e
got_taken (y ∷ xs) (suc n) (suc k) x lt e = got_taken xs n k x (omega (arith, lt)) e

got_dropped : {A : Type 0} (xs : List A) (n k : ℕ) (x : A) → n ≤ k → slice_get xs k ≡ Some x
    → slice_get (drop n xs) (k - n) ≡ Some x
got_dropped xs zero k x le e = (let same : k ≡ k - 0 = omega arith in subst (λ (i : ℕ). slice_get xs i ≡ Some x) same e)
got_dropped [] (suc n) k x le e = absurd cc
got_dropped (y ∷ xs) (suc n) zero x le e = absurd (omega (arith, le))
got_dropped (y ∷ xs) (suc n) (suc k) x le e =
    let same : suc k - suc n ≡ k - n = omega arith in subst (λ (i : ℕ). slice_get (drop n xs) i ≡ Some x) (sym same)
    (got_dropped xs n k x (omega (arith, le)) e)

-- the calls between two numbers of those for which a test holds
pub test_between : (test : Call → Bool) (calls : List Call) (k m n : ℕ) (c : Call)
    → list_all test (drop (suc k) (take m calls)) ≡ true → k + 1 ≤ n → n < m → slice_get calls n ≡ Some c → test c
    ≡ true
test_between test calls k m n c all above below is =
    each_is test (drop (suc k) (take m calls)) (n - suc k) c all
    (got_dropped (take m calls) (suc k) n c (omega (arith, above)) (got_taken calls m n c below is))

-- ---- outcomes

lanes_counted : (past : List Entry) (n : ℕ) → length (outcomes_below past n) ≡ n
lanes_counted past zero = refl
lanes_counted past (suc n) = (let l = length-append (outcomes_below past n) (outcomes_of past n ∷ []) in let old =
    lanes_counted past n in omega (arith, l, old))

-- the outcomes that are reported of a lane are its own, where it is there
outcomes_are : (past : List Entry) (n lane : ℕ) → (slice_index_or (outcomes_below past n) lane []
    ≡ outcomes_of past lane) ⊎ (slice_index_or (outcomes_below past n) lane [] ≡ [])
outcomes_are past zero lane = inr refl
outcomes_are past (suc n) lane =
    elim (got_index (outcomes_below past n) (outcomes_of past n) [] lane) [
      | inl old ↦ elim (outcomes_are past n lane) [ inl own ↦ inl (old ∙ own) | inr none ↦ inr (old ∙ none) ]
      | inr new ↦ inl (new.1 ∙ ap (outcomes_of past) (sym (lanes_counted past n) ∙ new.0))
    ]

pub outcome_is : (past : List Entry) (n lane k : ℕ) (o : Outcome) → outcome_in (outcomes_below past n) lane k ≡ Some o
    → outcome_at past lane k ≡ Some o
outcome_is past n lane k o e =
    elim (outcomes_are past n lane) [
      | inl own ↦ ap (λ (xs : List Outcome). slice_get xs k) (sym own) ∙ e
      | inr none ↦ absurd (let nothing : None ≡ Some o = ap (λ (xs : List Outcome). slice_get xs k) (sym none) ∙ e in
          cc)
    ]

-- ---- calls

pub writes_none : (name : Name) (c : Call) → not (writes name c) ≡ true → WritesWhole name c → ⊥
writes_none name (call.FsWrite path bytes) e names = told_apart path name e names
writes_none name other e names = names

-- the calls of lanes are those that were handed in
abbrev pub AreHandedIn : List Lane → Setting → List Entry → Type 0
AreHandedIn lanes s past = (lane : ℕ) → lane_calls s past lane ≡ calls_in lanes lane

pub handed_in : (lanes : List Lane) (options : SftpOptions) (extensions : Extensions) (turns : List Turn)
    (past : List Entry) → IsRun (setting_of lanes options extensions past) turns past
    → AreHandedIn lanes (setting_of lanes options extensions past) past
handed_in lanes options extensions turns past run lane = plain_calls (setting_of lanes options extensions past) past
    lane (run_plain (setting_of lanes options extensions past) turns past run)

pub call_is : (lanes : List Lane) (s : Setting) (past : List Entry) (lane k : ℕ) (o : Option Call)
    → AreHandedIn lanes s past → slice_get (calls_in lanes lane) k ≡ o → slice_get (lane_calls s past lane) k ≡ o
call_is lanes s past lane k o are e = ap (λ (calls : List Call). slice_get calls k) (are lane) ∙ e

pub call_was : (lanes : List Lane) (s : Setting) (past : List Entry) (lane k : ℕ) (o : Option Call)
    → AreHandedIn lanes s past → slice_get (lane_calls s past lane) k ≡ o → slice_get (calls_in lanes lane) k ≡ o
call_was lanes s past lane k o are e = ap (λ (calls : List Call). slice_get calls k) (sym (are lane)) ∙ e

pub one_lanes : (lanes : List Lane) (s : Setting) (turns : List Turn) (past : List Entry) (name : Name) (lane : ℕ)
    → AreHandedIn lanes s past → IsRun s turns past → IsAlone lanes name lane → IsOneLanes s past name lane
one_lanes lanes s turns past name lane are run alone =
    record {
      own = subst (λ (calls : List Call). list_all (may_own name) calls ≡ true) (sym (are lane)) alone.own;
      others = λ other ne. laws.lane_keeps_off s turns past name other run
          (subst (λ (calls : List Call). all_keep_off name [] calls ≡ true) (sym (are other)) (alone.others other ne));
    }

pub has_read : (lanes : List Lane) (s : Setting) (past : List Entry) (name : Name) (lane reader : ℕ) (ended : Outcome)
    → AreHandedIn lanes s past → ReadsNamed lanes (outcomes_below past (length lanes)) name lane reader ended
    → HasRead s past name lane reader ended
has_read lanes s past name lane reader ended are r =
    record {
      path = r.path;
      bound = r.bound;
      is = call_is lanes s past lane reader _ are r.is;
      denotes = r.denotes;
      short = r.short;
      ends = outcome_is past (length lanes) lane reader ended r.ends;
      uncancelled = r.uncancelled;
    }

pub has_got : (lanes : List Lane) (s : Setting) (past : List Entry) (name : Name) (lane reader : ℕ) (got : List ℕ)
    → AreHandedIn lanes s past → GotBytes lanes (outcomes_below past (length lanes)) name lane reader got
    → HasGot s past name lane reader got
has_got lanes s past name lane reader got are r =
    record {
      path = r.path;
      bound = r.bound;
      is = call_is lanes s past lane reader _ are r.is;
      denotes = r.denotes;
      ends = outcome_is past (length lanes) lane reader _ r.ends;
    }

pub writes_before : (lanes : List Lane) (s : Setting) (past : List Entry) (name : Name) (lane reader : ℕ)
    → AreHandedIn lanes s past → none_writes name (take reader (calls_in lanes lane)) ≡ true
    → NoneWrites s past name lane reader
writes_before lanes s past name lane reader are before k c below is names =
    writes_none name c (each_is (λ (c : Call). not (writes name c)) (take reader (calls_in lanes lane)) k c before
    (got_taken (calls_in lanes lane) reader k c below (call_was lanes s past lane k (Some c) are is))) names

pub has_written : (lanes : List Lane) (s : Setting) (past : List Entry) (name : Name) (lane writer reader : ℕ)
    (bytes : List ℕ) → AreHandedIn lanes s past → WritesLast lanes (outcomes_below past (length lanes)) name lane writer
    reader bytes
    → HasWritten s past name lane writer reader bytes
has_written lanes s past name lane writer reader bytes are w =
    record {
      path = w.path;
      is = call_is lanes s past lane writer _ are w.is;
      denotes = w.denotes;
      ends = outcome_is past (length lanes) lane writer _ w.ends;
      earlier = w.earlier;
      last = λ k c above below is names. writes_none name c
          (each_is (λ (c : Call). not (writes name c)) (drop (suc writer) (take reader (calls_in lanes lane)))
          (k - suc writer) c w.last
          (got_dropped (take reader (calls_in lanes lane)) (suc writer) k c (omega (arith, above))
          (got_taken (calls_in lanes lane) reader k c below (call_was lanes s past lane k (Some c) are is)))) names;
    }

-- ---- calls that flush

all_indexed : (test : Call → Bool) (calls : List Call) → ((n : ℕ) (c : Call) → slice_get calls n ≡ Some c → test c
    ≡ true) → list_all test calls ≡ true
all_indexed test [] each = refl
all_indexed test (c ∷ calls) each = rw (each zero c refl, all_indexed test calls (λ n d e. each (suc n) d e)) refl

-- a call at a place is the one that was handed in there
handed_at : (P : Call → Type 0) (calls : List Call) (n m : ℕ) (c d : Call) → slice_get calls n ≡ Some c → n ≡ m
    → slice_get calls m ≡ Some d → P d → P c
handed_at P calls n m c d e same is p = let both : Some c ≡ Some d = sym e ∙ (ap (slice_get calls) same ∙ is) in
    subst P (sym (some_is c d both)) p

-- a call of these leaves each slot
own_leaves : (name : Name) (slot : ℕ) (c : Call) → may_own name c ≡ true → leaves_slot slot c ≡ true
own_leaves name slot (call.FsRead path bound) e = refl
own_leaves name slot (call.FsWrite path bytes) e = refl
own_leaves name slot (call.List path bound) e = refl
own_leaves name slot (call.Stat path) e = refl
own_leaves name slot (call.Lstat path) e = refl
own_leaves name slot (call.SetStat path size perm) e = refl
own_leaves name slot (call.Remove path) e = refl
own_leaves name slot (call.Mkdir path) e = refl
own_leaves name slot (call.Rmdir path) e = refl
own_leaves name slot (call.Rename old to) e = refl
own_leaves name slot (call.HardLink old to) e = refl
own_leaves name slot (call.Symlink src dst) e = refl
own_leaves name slot (call.ReadLink path) e = refl
own_leaves name slot (call.Canonicalize path) e = refl
own_leaves name slot other e = absurd cc

-- which of the four a call is, or that it is none of them
data Where (n : FlushNumbers) (k : ℕ) : Type 0 where
  First : k ≡ n.opener → Where n k
  Second : k ≡ n.bufferer → Where n k
  Third : k ≡ n.writer → Where n k
  Fourth : k ≡ n.flusher → Where n k
  Other : is_one_of_four n k ≡ false → Where n k

where_is : (n : FlushNumbers) (k : ℕ) → Where n k
where_is n k =
    elim (eqb_tells k n.opener) [
      | inl t ↦ First t.1
      | inr t ↦ elim (eqb_tells k n.bufferer) [
        | inl u ↦ Second u.1
        | inr u ↦ elim (eqb_tells k n.writer) [
          | inl v ↦ Third v.1
          | inr v ↦ elim (eqb_tells k n.flusher) [
            | inl w ↦ Fourth w.1
            | inr w ↦ Other (rw (t.0, u.0, v.0, w.0) refl)
          ]
        ]
      ]
    ]

none_of : (n : FlushNumbers) (k : ℕ) → k ≢ n.opener → k ≢ n.bufferer → k ≢ n.writer → k ≢ n.flusher → is_one_of_four n k
    ≡ false
none_of n k a b c d = by_place (where_is n k)
  where
    by_place : Where n k → is_one_of_four n k ≡ false
    by_place (First e) = absurd (a e)
    by_place (Second e) = absurd (b e)
    by_place (Third e) = absurd (c e)
    by_place (Fourth e) = absurd (d e)
    by_place (Other out) = out

pub may_hold_all : (lanes : List Lane) (outcomes : List (List Outcome)) (name : Name) (lane : ℕ) (n : FlushNumbers)
    (reader : ℕ) (bytes : List ℕ) → IsAloneBut lanes name lane n → FlushesLast lanes outcomes name lane n reader bytes
    → list_all (may_hold name) (calls_in lanes lane) ≡ true
may_hold_all lanes outcomes name lane n reader bytes alone f =
    all_indexed (may_hold name) (calls_in lanes lane) (λ k c e. by_place k c e (where_is n k))
  where
    by_place : (k : ℕ) (c : Call) → slice_get (calls_in lanes lane) k ≡ Some c → Where n k → may_hold name c ≡ true
    by_place k c e (First at) = handed_at (λ d. may_hold name d ≡ true) (calls_in lanes lane) k n.opener c
        (call.OpenFile f.slot f.options f.path) e at f.opens refl
    by_place k c e (Second at) = handed_at (λ d. may_hold name d ≡ true) (calls_in lanes lane) k n.bufferer c
        (call.Buffer f.slot f.len) e at f.buffers refl
    by_place k c e (Third at) = handed_at (λ d. may_hold name d ≡ true) (calls_in lanes lane) k n.writer c
        (call.BufWriteAll f.slot bytes) e at f.writes refl
    by_place k c e (Fourth at) = handed_at (λ d. may_hold name d ≡ true) (calls_in lanes lane) k n.flusher c
        (call.BufFlush f.slot) e at f.flushes refl
    by_place k c e (Other out) = own_held name c (alone.own k c e out)

-- no other call of the lane behind the first of them, and before the later one, may write the name
pub others_write_none : (lanes : List Lane) (outcomes : List (List Outcome)) (name : Name) (lane : ℕ) (n : FlushNumbers)
    (reader : ℕ) (bytes : List ℕ) → IsAloneBut lanes name lane n → FlushesLast lanes outcomes name lane n reader bytes
    → (k : ℕ) (c : Call) → n.opener < k → k < reader → k ≢ n.writer → slice_get (calls_in lanes lane) k ≡ Some c
    → MayWrite name c → ⊥
others_write_none lanes outcomes name lane n reader bytes alone f k c above below ne e = by_place (where_is n k)
  where
    by_place : Where n k → MayWrite name c → ⊥
    by_place (First at) = λ w. omega (arith, at, above)
    by_place (Second at) = handed_at (λ d. MayWrite name d → ⊥) (calls_in lanes lane) k n.bufferer c
        (call.Buffer f.slot f.len) e at f.buffers (λ w. w)
    by_place (Third at) = λ w. ne at
    by_place (Fourth at) = handed_at (λ d. MayWrite name d → ⊥) (calls_in lanes lane) k n.flusher c
        (call.BufFlush f.slot) e at f.flushes (λ w. w)
    by_place (Other out) =
        λ w. writes_none name c
        (test_between (λ (d : Call). not (writes name d)) (calls_in lanes lane) n.opener reader k c f.last
        (omega (arith, above)) below e)
        (own_writes name c (alone.own k c e out) w)

pub flushed_calls : (lanes : List Lane) (s : Setting) (past : List Entry) (name : Name) (lane : ℕ) (n : FlushNumbers)
    (reader : ℕ) (bytes : List ℕ) → s.lanes ≡ lanes → IsAloneBut lanes name lane n
    → FlushesLast lanes (outcomes_below past (length lanes)) name lane n reader bytes
    → FlushedCalls s past name lane n bytes
flushed_calls lanes s past name lane n reader bytes same alone f =
    record {
      slot = f.slot;
      len = f.len;
      options = f.options;
      path = f.path;
      anew = f.anew;
      denotes = f.denotes;
      opens = handed _ _ same f.opens;
      buffers = handed _ _ same f.buffers;
      writes = handed _ _ same f.writes;
      flushes = handed _ _ same f.flushes;
      opened = outcome_is past (length lanes) lane n.opener _ f.opened;
      buffered = outcome_is past (length lanes) lane n.bufferer _ f.buffered;
      written = outcome_is past (length lanes) lane n.writer _ f.written;
      flushed = outcome_is past (length lanes) lane n.flusher _ f.flushed;
      order = f.in_order;
      leave_open = λ i d above below is. leaves i d (handed_back i d same is)
          (let b : n.bufferer < n.writer = f.in_order.1 in let c : n.writer < n.flusher = f.in_order.2 in
          none_of n i (λ e. omega (arith, e, above)) (λ e. omega (arith, e, below)) (λ e. omega (arith, e, below, b))
          (λ e. omega (arith, e, below, b, c)));
      leave_buffer = λ i d above below is. leaves i d (handed_back i d same is)
          (let a : n.opener < n.bufferer = f.in_order.0 in let c : n.writer < n.flusher = f.in_order.2 in
          none_of n i (λ e. omega (arith, e, above, a)) (λ e. omega (arith, e, above)) (λ e. omega (arith, e, below))
          (λ e. omega (arith, e, below, c)));
      leave_written = λ i d above below is. leaves i d (handed_back i d same is)
          (let a : n.opener < n.bufferer = f.in_order.0 in let b : n.bufferer < n.writer = f.in_order.1 in
          none_of n i (λ e. omega (arith, e, above, a, b)) (λ e. omega (arith, e, above, b))
          (λ e. omega (arith, e, above)) (λ e. omega (arith, e, below)));
    }
  where
    handed : (n : ℕ) (c : Call) → s.lanes ≡ lanes → slice_get (calls_in lanes lane) n ≡ Some c
        → slice_get (calls_in s.lanes lane) n ≡ Some c
    handed n c same e = subst (λ (l : List Lane). slice_get (calls_in l lane) n ≡ Some c) (sym same) e

    handed_back : (n : ℕ) (c : Call) → s.lanes ≡ lanes → slice_get (calls_in s.lanes lane) n ≡ Some c
        → slice_get (calls_in lanes lane) n ≡ Some c
    handed_back n c same e = subst (λ (l : List Lane). slice_get (calls_in l lane) n ≡ Some c) same e

    leaves : (i : ℕ) (d : Call) → slice_get (calls_in lanes lane) i ≡ Some d → is_one_of_four n i ≡ false
        → leaves_slot f.slot d ≡ true
    leaves i d is out = own_leaves name f.slot d (alone.own i d is out)
