-- What each step of serving does to what the log shows.
use Rattle.std.proofs.Common.{
  ◌≡◌,
  ◌<◌,
  ◌≤◌,
  ◌+◌,
  ◌==◌,
  ℕ,
  Bool,
  true,
  false,
  List,
  [],
  ◌∷◌,
  ◌++◌,
  length,
  Option,
  None,
  Some,
  refl,
  ap,
  sym,
  ◌∙◌,
  subst,
  append_assoc,
  append-nil,
  length-append,
  arith,
  inl,
  inr,
}
use Rattle.std.specs.Prelude.{◌⊎◌, Ok, Err, MatchBool, if◌then◌else◌}
use Rattle.std.proofs.lemmas.Bool.Decides.{nat_tests}
use Rattle.ssh_encoding.specs.Writing.{string, uint32}
use Rattle.sftp_model.specs.Numbers.{MAX_BODY_LEN}
use Rattle.sftp_link.specs.declared.device_error.DeviceError.{DeviceError}
use Rattle.sftp_link.specs.declared.device_error.DeviceError.TheVariants as device
use Rattle.sftp_link.specs.declared.piece.Piece.{Piece}
use Rattle.sftp_link.specs.declared.piece.Piece.TheVariants.{Got}
use Rattle.sftp_link.specs.Log.{SentOn}
use Rattle.sftp_link.specs.Told.{SendsEnd, SentAll, SentLess, IfLogged}
use Rattle.sftp_model.specs.declared.frame_error.FormatKind.{FormatKind}
use Rattle.sftp_wire.specs.FrameReader.{Received, fault_of, need_of, need_where}
use Rattle.sftp_serve.specs.declared.stop.Stop.{Stop}
use Rattle.sftp_serve.specs.declared.stop.Stop.TheVariants as stop
use Rattle.sftp_serve.specs.Ended.{stop_status, stop_of}
use Rattle.sftp_serve.specs.Logs.{IsPrefix, MAX_FRAMES, got_bytes, sent_bytes}
use Rattle.sftp_serve.specs.Serving.{ShowsStop, StopsServing, HaltsAll, IsFrame, IsUnrefused, ServesOne, AnsweredSoFar, TakesFrame, TakesSome}
use Rattle.sftp_serve.specs.Stream.{IsUnfinished, IsAnswered, ServedState, answer_to_frame}
use Rattle.sftp_link.proofs.Telling.{told_as, told_on}
use Rattle.sftp_serve.proofs.Pieces.{got_stays, order_stays, sent_grows}
use Rattle.sftp_serve.proofs.Streams.{part_nothing, served_as, served_more, served_none, served_with}

-- ---- some bytes of a frame

-- a piece came after a part of a frame
stands_got : (first left : ServedState) (count : ℕ) (part bytes : List ℕ) (before now : List Piece)
    → AnsweredSoFar first count left part before → IsUnfinished part → now ≡ Got bytes ∷ before
    → AnsweredSoFar first count left (part ++ bytes) now
stands_got first left count part bytes before now s p e =
    subst (AnsweredSoFar first count left (part ++ bytes)) (sym e) (record {
      served = served_with first left (got_bytes before) (sent_bytes before) part bytes count s.served;
      order = (record { count = count; left = left; rest = part; served = s.served; part = p }, s.order);
    })

-- a reader of which bytes are missing has a part of a frame
pub part_of : (r : Received) (n : ℕ) → IsUnrefused r → n ≡ need_of r → 0 < n → IsUnfinished r.bytes
part_of r n g is some = record {
  good = g.good;
  short = subst (λ (k : ℕ). 0 < k)
      (is ∙ ap (λ (k : Option FormatKind). need_where k r.bytes) g.unrefused) some;
}

-- a reader has what came of a frame
abbrev pub PartCame : List ℕ → List Piece → List Piece → Type 0
PartCame bytes before now = (first : ServedState) (count : ℕ) (left : ServedState)
    → AnsweredSoFar first count left [] before → AnsweredSoFar first count left bytes now

pub goes_none : (log : List Piece) → PartCame [] log log
goes_none log first count left s = s

pub goes_more : (old new bytes : List ℕ) (before mid now : List Piece) → IsUnfinished old → PartCame old before mid
    → now ≡ Got bytes ∷ mid → new ≡ old ++ bytes → PartCame new before now
goes_more old new bytes before mid now p g e is first count left s =
    subst (λ (w : List ℕ). AnsweredSoFar first count left w now) (sym is)
    (stands_got first left count old bytes mid now (g first count left s) p e)

-- the end was met before a frame, or within one
pub ends_before : (old : List ℕ) (ended : Bool) (before mid now : List Piece) → old ≡ [] → ended ≡ true
    → PartCame old before mid → now ≡ Got [] ∷ mid → TakesFrame old ended (Err stop.Ended) before now
ends_before old ended before mid now none e g is first count left s =
    let at : AnsweredSoFar first count left [] mid = subst (λ (w : List ℕ). AnsweredSoFar first count left w mid) none
    (g first count left s) in
    (e, stands_got first left count [] [] mid now at part_nothing is)

pub ends_within : (old : List ℕ) (ended : Bool) (before mid now : List Piece) → IsUnfinished old → 0 < length old
    → ended ≡ true → PartCame old before mid → now ≡ Got [] ∷ mid → TakesFrame old ended (Err stop.Broken) before now
ends_within old ended before mid now p some e g is first count left s = (
  old,
  subst (λ (w : List ℕ). AnsweredSoFar first count left w now) (append-nil old)
      (stands_got first left count old [] mid now (g first count left s) p is),
  inl (e, some, p),
)

-- what was sent so far is a prefix of the answers
prefix_now : (first left : ServedState) (count : ℕ) (part : List ℕ) (log : List Piece)
    → AnsweredSoFar first count left part log → IsPrefix first log
prefix_now first left count part log s =
    record {
      count = count;
      more = [];
      left = left;
      rest = part;
      served =
          served_as first left (got_bytes log) (got_bytes log) (sent_bytes log) (sent_bytes log ++ []) part count refl
          (append-nil (sent_bytes log)) s.served;
    }

pub takes_stop : (e : Stop) (old new : Received) (ended : Bool) (before mid now : List Piece) → IsUnfinished old.bytes
    → PartCame old.bytes before mid → TakesSome old new ended (Err e) mid now
    → TakesFrame new.bytes ended (Err e) before now
unfolding prefix_now
takes_stop stop.Ended old new ended before mid now p g t = absurd t
takes_stop stop.Broken old new ended before mid now p g t = λ first count left s.
    (old.bytes ++ t.0, stands_got first left count old.bytes t.0 mid now (g first count left s) p t.1, inr (inr t.2))
takes_stop stop.Faulted old new ended before mid now p g t = λ first count left s.
    (let at = subst (AnsweredSoFar first count left old.bytes) (sym t.0) (g first count left s) in let front =
    prefix_now first left count old.bytes now at in (
      t.1,
      record {
        order = at.order;
        count = count;
        more = [];
        left = left;
        rest = old.bytes;
        served = front.served;
        part = p;
      },
    ))
takes_stop stop.OutOfMemory old new ended before mid now p g (inl same) = λ first count left s.
    (let at = subst (AnsweredSoFar first count left old.bytes) (sym same) (g first count left s) in
    (at.order, prefix_now first left count old.bytes now at))
takes_stop stop.OutOfMemory old new ended before mid now p g (inr t) = λ first count left s.
    (let at = stands_got first left count old.bytes t.0 mid now (g first count left s) p t.1 in
    (at.order, prefix_now first left count (old.bytes ++ t.0) now at))

-- ---- the same over logs that may be told

abbrev Log : Type 0
Log = Option (List Piece)

pub told_stops : (e : Stop) (old new : Received) (ended : Bool) (a b c : Log) → IsUnfinished old.bytes
    → IfLogged (PartCame old.bytes) a b → IfLogged (TakesSome old new ended (Err e)) b c
    → IfLogged (TakesFrame new.bytes ended (Err e)) a c
told_stops e old new ended a b c p g t = told_on _ _ _ a b c g t (λ x y z h k. takes_stop e old new ended x y z p h k)

pub told_grows : (old new : Received) (ended : Bool) (a b c : Log) → IsUnfinished old.bytes
    → IfLogged (PartCame old.bytes) a b → IfLogged (TakesSome old new ended (Ok true)) b c
    → IfLogged (PartCame new.bytes) a c
told_grows old new ended a b c p g t = told_on _ _ _ a b c g t
    (λ x y z h k. goes_more old.bytes new.bytes k.0 x y z p h k.1 k.2)

pub told_ended : (old new : Received) (ended : Bool) (a b c : Log) → old.bytes ≡ [] → new ≡ old → ended ≡ true
    → IfLogged (PartCame old.bytes) a b → IfLogged (TakesSome old new ended (Ok false)) b c
    → IfLogged (TakesFrame new.bytes ended (Err stop.Ended)) a c
told_ended old new ended a b c none same e g t = told_on _ _ _ a b c g t
    (λ x y z h k. ends_before old.bytes ended x y z none e h k)

pub told_broken : (old new : Received) (ended : Bool) (a b c : Log) → IsUnfinished old.bytes → 0 < length old.bytes
    → ended ≡ true → IfLogged (PartCame old.bytes) a b → IfLogged (TakesSome old new ended (Ok false)) b c
    → IfLogged (TakesFrame old.bytes ended (Err stop.Broken)) a c
told_broken old new ended a b c p some e g t = told_on _ _ _ a b c g t
    (λ x y z h k. ends_within old.bytes ended x y z p some e h k)

pub told_end : (begun : Bool) (e : Stop) (old new : Received) (ended : Bool) (a b c : Log) → e
    ≡ (if begun then stop.Broken else stop.Ended) → MatchBool begun (0 < length old.bytes) (old.bytes ≡ [])
    → IsUnfinished old.bytes → new ≡ old → ended ≡ true
    → IfLogged (PartCame old.bytes) a b → IfLogged (TakesSome old new ended (Ok false)) b c
    → IfLogged (TakesFrame new.bytes ended (Err e)) a c
told_end true e old new ended a b c is some p same up g t = subst
    (λ (w : Stop). IfLogged (TakesFrame new.bytes ended (Err w)) a c) (sym is) (
    subst (λ (w : Received). IfLogged (TakesFrame w.bytes ended (Err stop.Broken)) a c) (sym same)
    (told_broken old new ended a b c p some up g t))
told_end false e old new ended a b c is none p same up g t =
    subst (λ (w : Stop). IfLogged (TakesFrame new.bytes ended (Err w)) a c) (sym is)
    (told_ended old new ended a b c none same up g t)

-- ---- one frame

some_of : (body : List ℕ) → fault_of (string body) ≡ None → length body ≤ MAX_BODY_LEN → 0 < length body
unfolding string uint32
some_of [] good le = absurd cc
some_of (x ∷ body) good le = omega arith

-- no memory was left to answer it
pub frame_starves : (frame : Received) (now_ended : Bool) (before mid : List Piece) (old new : ServedState)
    → PartCame frame.bytes before mid → ServesOne old new now_ended (Err stop.OutOfMemory) before mid
frame_starves frame now_ended before mid old new t first count s =
    let at = t first count old s in (at.order, prefix_now first old count frame.bytes mid at)

-- it may not come
pub frame_unfit : (frame : Received) (body : List ℕ) (now_ended : Bool) (before mid : List Piece)
    (old new : ServedState) → IsFrame frame → frame.bytes ≡ string body → length body ≤ MAX_BODY_LEN
    → answer_to_frame old body
    ≡ None
    → PartCame frame.bytes before mid → ServesOne old new now_ended (Err stop.Broken) before mid
frame_unfit frame body now_ended before mid old new f is le unfit t first count s =
    let at = t first count old s in
    let some = some_of body (ap fault_of (sym is) ∙ f.good.good) le in
    (frame.bytes, at, inr (inl (record { body = body; some = some; short = le; framed = is; unfit = unfit })))

-- a frame and the state that it leaves, of which a prefix of the answer was sent
sent_some : (first old new : ServedState) (count : ℕ) (frame : Received) (body answer front more : List ℕ)
    (mid now : List Piece) → AnsweredSoFar first count old frame.bytes mid → IsFrame frame → frame.bytes ≡ string body
    → length body ≤ MAX_BODY_LEN
    → answer_to_frame old body ≡ Some (answer, new) → answer ≡ front ++ more → SentOn mid now front
    → IsAnswered first (got_bytes now) (count + 1) (sent_bytes now ++ more) new []
sent_some first old new count frame body answer front more mid now at f is le says cut went =
    let some = some_of body (ap fault_of (sym is) ∙ f.good.good) le in
    let one = served_more first old new (got_bytes mid) (sent_bytes mid) frame.bytes body answer count at.served is some
    le says in
    let out : sent_bytes now ++ more ≡ sent_bytes mid ++ answer =
    ap (λ (w : List ℕ). w ++ more) (sent_grows mid now front went)
    ∙ (append_assoc (sent_bytes mid) front more ∙ ap (λ (w : List ℕ). sent_bytes mid ++ w) (sym cut)) in
    served_as first new (got_bytes mid) (got_bytes now) (sent_bytes mid ++ answer) (sent_bytes now ++ more) []
    (count + 1) (got_stays mid now front went) out one

pub frame_answered : (frame : Received) (body answer : List ℕ) (now_ended : Bool) (before mid now : List Piece)
    (old new : ServedState) → IsFrame frame → frame.bytes ≡ string body → length body ≤ MAX_BODY_LEN
    → answer_to_frame old body
    ≡ Some (answer, new)
    → PartCame frame.bytes before mid → SentOn mid now answer → ServesOne old new now_ended (Ok tt) before now
frame_answered frame body answer now_ended before mid now old new f is le says t went first count s =
    let at = t first count old s in
    let all = sent_some first old new count frame body answer answer [] mid now at f is le says
    (sym (append-nil answer)) went in
    record {
      served = served_as first new (got_bytes now) (got_bytes now) (sent_bytes now ++ []) (sent_bytes now) []
          (count + 1) refl (sym (append-nil (sent_bytes now))) all;
      order = order_stays first mid now answer went at.order;
    }

pub frame_half : (e : Stop) (frame : Received) (body answer : List ℕ) (now_ended : Bool) (before mid now : List Piece)
    (old new : ServedState) → ((e ≡ stop.Faulted) × (now_ended ≡ false)) ⊎ (e ≡ stop.OutOfMemory) → IsFrame frame
    → frame.bytes ≡ string body → length body ≤ MAX_BODY_LEN
    → answer_to_frame old body ≡ Some (answer, new) → PartCame frame.bytes before mid → SentLess answer mid now
    → ServesOne old new now_ended (Err e) before now
frame_half e frame body answer now_ended before mid now old new why f is le says t went = by_why why
  where
    by_why : ((e ≡ stop.Faulted) × (now_ended ≡ false)) ⊎ (e ≡ stop.OutOfMemory)
        → ServesOne old new now_ended (Err e) before now
    by_why (inl fault) = subst (λ (w : Stop). ServesOne old new now_ended (Err w) before now) (sym fault.0)
        (λ first count s.
        (let at = t first count old s in
        let all =
        sent_some first old new count frame body answer went.0 went.1 mid now at f is le says went.2 went.4 in (
          fault.1,
          record {
            order = order_stays first mid now went.0 went.4 at.order;
            count = count + 1;
            more = went.1;
            left = new;
            rest = [];
            served = all;
            part = part_nothing;
          },
        )))
    by_why (inr starved) = subst (λ (w : Stop). ServesOne old new now_ended (Err w) before now) (sym starved)
        (λ first count s.
        (let at = t first count old s in
        let all =
        sent_some first old new count frame body answer went.0 went.1 mid now at f is le says went.2 went.4 in (
          order_stays first mid now went.0 went.4 at.order,
          record
              { count = count + 1; more = went.1; left = new; rest = []; served = all },
        )))

-- ---- the same over logs that may be told

pub told_starves : (frame : Received) (now_ended : Bool) (a b : Log) (old new : ServedState)
    → IfLogged (PartCame frame.bytes) a b → IfLogged (ServesOne old new now_ended (Err stop.OutOfMemory)) a b
told_starves frame now_ended a b old new t = told_as _ _ a b t (λ x y h. frame_starves frame now_ended x y old new h)

pub told_unfit : (frame : Received) (body : List ℕ) (now_ended : Bool) (a b : Log) (old new : ServedState)
    → IsFrame frame → frame.bytes ≡ string body → length body ≤ MAX_BODY_LEN → answer_to_frame old body ≡ None
    → IfLogged (PartCame frame.bytes) a b → IfLogged (ServesOne old new now_ended (Err stop.Broken)) a b
told_unfit frame body now_ended a b old new f is le unfit t =
    told_as _ _ a b t (λ x y h. frame_unfit frame body now_ended x y old new f is le unfit h)

pub told_answered : (frame : Received) (body answer : List ℕ) (now_ended : Bool) (a b c : Log) (old new : ServedState)
    → IsFrame frame → frame.bytes ≡ string body → length body ≤ MAX_BODY_LEN → answer_to_frame old body
    ≡ Some (answer, new)
    → IfLogged (PartCame frame.bytes) a b → IfLogged (SentAll answer) b c
    → IfLogged (ServesOne old new now_ended (Ok tt)) a c
told_answered frame body answer now_ended a b c old new f is le says t went =
    told_on _ _ _ a b c t went (λ x y z h k. frame_answered frame body answer now_ended x y z old new f is le says h k)

some_answer : (answer front more : List ℕ) → answer ≡ front ++ more → 0 < length more → (length answer == 0) ≡ false
some_answer answer front more e some =
    let n : length answer ≡ length front + length more = ap length e ∙ length-append front more in
    grind (arith, nat_tests)

half_why : (d : DeviceError) (answer front more : List ℕ) (mid_ended now_ended : Bool) → answer ≡ front ++ more
    → 0 < length more → SendsEnd answer mid_ended now_ended → ((stop_of d ≡ stop.Faulted) × (now_ended ≡ false))
    ⊎ (stop_of d ≡ stop.OutOfMemory)
half_why device.OutOfMemory answer front more mid_ended now_ended e some ends = inr refl
half_why device.Failed answer front more mid_ended now_ended e some ends =
    let no = some_answer answer front more e some in
    inl (refl, ends ∙ ap (λ (b : Bool). if b then mid_ended else false) no)

pub told_half : (d : DeviceError) (frame : Received) (body answer : List ℕ) (mid_ended now_ended : Bool) (a b c : Log)
    (old new : ServedState) → IsFrame frame → frame.bytes ≡ string body → length body ≤ MAX_BODY_LEN
    → answer_to_frame old body
    ≡ Some (answer, new)
    → SendsEnd answer mid_ended now_ended → IfLogged (PartCame frame.bytes) a b → IfLogged (SentLess answer) b c
    → IfLogged (ServesOne old new now_ended (Err (stop_of d))) a c
told_half d frame body answer mid_ended now_ended a b c old new f is le says ends t went =
    told_on _ _ _ a b c t went (λ x y z h k. frame_half (stop_of d) frame body answer now_ended x y z old new
    (half_why d answer k.0 k.1 mid_ended now_ended k.2 k.3 ends) f is le says h k)

-- ---- all frames

-- nothing came, and nothing is answered
pub stands_none : (first : ServedState) → AnsweredSoFar first 0 first [] []
stands_none first = record { served = served_none first; order = tt }

-- what a log shows of served frames where it was empty
abbrev pub Served : ServedState → ℕ → ServedState → List Piece → List Piece → Type 0
Served first count left before now = before ≡ [] → AnsweredSoFar first count left [] now

pub told_none : (first : ServedState) (a : Log) → IfLogged (Served first 0 first) a a
told_none first None = tt
told_none first (Some x) = λ none. subst (AnsweredSoFar first 0 first []) (sym none) (stands_none first)

pub told_one : (first old new : ServedState) (count : ℕ) (ended : Bool) (a b c : Log)
    → IfLogged (Served first count old) a b → IfLogged (ServesOne old new ended (Ok tt)) b c
    → IfLogged (Served first (count + 1) new) a c
told_one first old new count ended a b c s t = told_on _ _ _ a b c s t (λ x y z h k. λ none. k first count (h none))

pub halted : (e : Stop) (first left : ServedState) (count : ℕ) (ended : Bool) (log : List Piece) → count < MAX_FRAMES
    → StopsServing first count left ended e log → ShowsStop first (stop_status e) ended log
halted stop.Ended first left count ended log lt h = record {
  order = h.1.order;
  prefix = prefix_now first left count [] log h.1;
  whole = λ z. (h.0, (count, lt, (left, h.1.served)));
  broken = λ z. absurd cc;
  cut = λ z. absurd cc;
  full = λ z. absurd cc;
}
halted stop.Broken first left count ended log lt h = record {
  order = h.1.order;
  prefix = prefix_now first left count h.0 log h.1;
  whole = λ z. absurd cc;
  broken = λ z. record { count = count; left = left; rest = h.0; served = h.1.served; breaks = h.2 };
  cut = λ z. absurd cc;
  full = λ z. absurd cc;
}
halted stop.Faulted first left count ended log lt h = record {
  order = h.1.order;
  prefix = record { count = h.1.count; more = h.1.more; left = h.1.left; rest = h.1.rest; served = h.1.served };
  whole = λ z. absurd cc;
  broken = λ z. absurd cc;
  cut = λ z. h;
  full = λ z. absurd cc;
}
halted stop.OutOfMemory first left count ended log lt h = record {
  order = h.0;
  prefix = h.1;
  whole = λ z. absurd cc;
  broken = λ z. absurd cc;
  cut = λ z. absurd cc;
  full = λ z. absurd cc;
}

-- the most frames were served
pub halted_full : (first left : ServedState) (count : ℕ) (ended : Bool) (log : List Piece) → count ≡ MAX_FRAMES
    → AnsweredSoFar first count left [] log → ShowsStop first 7 ended log
halted_full first left count ended log is s = record {
  order = s.order;
  prefix = prefix_now first left count [] log s;
  whole = λ z. absurd cc;
  broken = λ z. absurd cc;
  cut = λ z. absurd cc;
  full = λ z. (left, subst (λ (n : ℕ). IsAnswered first (got_bytes log) n (sent_bytes log) left []) is s.served);
}

pub told_halted : (e : Stop) (first old new : ServedState) (count : ℕ) (ended : Bool) (a b c : Log) → count < MAX_FRAMES
    → IfLogged (Served first count old) a b → IfLogged (ServesOne old new ended (Err e)) b c
    → IfLogged (HaltsAll first (stop_status e) ended) a c
told_halted e first old new count ended a b c lt s t = told_on _ _ _ a b c s t
    (λ x y z h k. λ none. halted e first old count ended z lt (k first count (h none)))

pub told_full : (first left : ServedState) (count : ℕ) (ended : Bool) (a b : Log) → count ≡ MAX_FRAMES
    → IfLogged (Served first count left) a b → IfLogged (HaltsAll first 7 ended) a b
told_full first left count ended a b is s = told_as _ _ a b s
    (λ x y h. λ none. halted_full first left count ended y is (h none))
