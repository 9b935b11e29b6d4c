-- The replies that the rounds of the reading worker receive, once VERSION was reported.
use Rattle.std.proofs.Common.{◌≡◌, ◌≤◌, ◌+◌, ◌-◌, ℕ, List, [], ◌∷◌, ◌++◌, drop, length, Bool, true, false, refl, sym, ap, ◌∙◌, subst, inl, inr, append_assoc, append-nil, arith, Some, None, Ok, Err}
use Rattle.std.specs.Prelude.{Result, nat_lt}
use Rattle.std.proofs.lemmas.Bool.Decides.{nat_tests}
use Rattle.std.proofs.lemmas.List.{append_cancel_right}
use Rattle.link_frames.proofs.Getting.{got_both, got_nothing}
use Rattle.link_frames.specs.Reading.{IsFramePart, IsFramePrefix, IsOfOneFrame, ReadFails, TellsWhy}
use Rattle.session_model.specs.Shown.{IsFrameOf}
use Rattle.session_model.specs.declared.entry.Entry.TheVariants as entry
use Rattle.session_model.specs.declared.event.Event.TheVariants.{Take}
use Rattle.session_seats.specs.Holds.{number_of, sight_by}
use Rattle.session_seats.specs.Repeats.{IsChainOf, NotLast}
use Rattle.session_work.specs.Working.{past_of}
use Rattle.sftp_link.proofs.Telling.{told_as, told_on, told_self}
use Rattle.sftp_link.specs.declared.piece.Piece.{Piece}
use Rattle.sftp_link.specs.Log.{GotOn}
use Rattle.sftp_link.specs.Told.{GotAll, IfLogged}
use Rattle.sftp_link.specs.Views.{LinkView}
use Rattle.sftp_model.specs.declared.error.Error.{Error}
use Rattle.sftp_model.specs.declared.error.Error.TheVariants as error
use Rattle.sftp_model.specs.declared.reply.Reply.{Reply}
use Rattle.sftp_model.specs.ReplyReadings.{reply_at}
use Rattle.sftp_wire.specs.FrameReader.{missing_bytes, told_len}
use Rattle.sftp_tasks.specs.declared.locked.Locked.{Locked}
use Rattle.sftp_tasks.specs.declared.workers.Shift.{Shift}
use Rattle.sftp_tasks.specs.declared.workers.Shift.TheVariants.{Over}
use Rattle.sftp_tasks.specs.Entries.{by_closing, by_failing}
use Rattle.sftp_tasks.specs.LockedEvents.{SettlesEnd}
use Rattle.sftp_tasks.specs.Rounds.{ReadStops, ReadsOnce, ReadsRound, Token, StopsUnread, StopsUntaken}
use Rattle.sftp_tasks.specs.Sent.{GotTakes, GotUnless, SeesVersion, taken_by}
use Rattle.sftp_tasks.specs.Shows.{shown_of}
use Rattle.sftp_tasks.specs.Workers.{WorkerState, ReadNone, ReadShift, ReadWorks, is_over}
use Rattle.sftp_tasks.proofs.EntryLaws.{stops_extended}
use Rattle.sftp_tasks.proofs.SentEvents.{closing_quiet, takes_reply, whole_body}
use Rattle.sftp_tasks.proofs.SentLists.{frames_both, hold_took, version_after, version_before}
use Rattle.sftp_tasks.proofs.SentRounds.{SameSent, same_if, same_looked, same_on, same_refused, same_stopped, same_value}

-- ---- bytes of one frame

missing_long : (bytes : List ℕ) → 4 ≤ length bytes → missing_bytes bytes ≡ (4 + told_len bytes) - length bytes
missing_long bytes le = let f : nat_lt (length bytes) 4 ≡ false = grind (arith, nat_tests) in rw f refl

part_within : (bytes : List ℕ) → IsFramePart bytes → IsFramePrefix bytes
part_within bytes p = record {
  unfaulted = p.unfaulted;
  within = λ le. let m = missing_long bytes le in let some = p.short in omega (arith, m, some);
}

one_frame : (e : Error) (bytes : List ℕ) → TellsWhy e bytes → IsOfOneFrame bytes
one_frame error.OutOfMemory bytes why = why
one_frame error.LinkFault bytes why = inl (part_within bytes why)
one_frame error.LinkEnded bytes why = inl (part_within bytes why)
one_frame (error.FormatError kind) bytes why = inr why.1.1.four
one_frame other bytes why = inr why.1.1.four

no_byte : IsOfOneFrame []
no_byte = inl (record { unfaulted = refl; within = λ le. absurd (omega (arith, le)) })

-- ---- the frames that were received

-- the frames of the first replies, and then those of the others that came
got_then : {T U : Type 0} (t : T) (r : Result U Error) (xs ys : List (ℕ × Reply)) (a b c : List Piece)
    → GotUnless (Ok t) xs a b → GotUnless r ys b c
    → GotUnless r (xs ++ ys) a c
got_then t (Ok u) xs ys a b c s g = (
  s.0 ++ g.0,
  (
    frames_both xs ys s.0 g.0 s.1.0 g.1.0,
    got_both a b c s.0 g.0 s.1.1 g.1.1,
  ),
)
got_then t (Err e) xs ys a b c s g = (
  s.0 ++ g.0,
  (
    g.1.0,
    (
      frames_both xs ys s.0 g.0 s.1.0 g.1.1.0,
      (
        g.1.1.1.0,
        subst (GotOn a c) (sym (append_assoc s.0 g.0 g.1.0)) (got_both a b c s.0 (g.0 ++ g.1.0) s.1.1 g.1.1.1.1),
      ),
    ),
  ),
)

finish_same : (y z : Locked) (r : Result Bool Error) → SettlesEnd y z r → past_of z.session.work
    ≡ past_of y.session.work
finish_same y z (Ok all) h = ap (λ (x : Locked). past_of x.session.work) h.1
finish_same y z (Err e) h = ap (λ (x : Locked). past_of x.session.work) h.0

-- at most bytes of one frame were received
abbrev GotSome : List Piece → List Piece → Type 0
GotSome a b = (bytes : List ℕ) × (IsOfOneFrame bytes × GotOn a b bytes)

module _ {Service : Type 0} where
  got_none : (m : Token) (v : LinkView Service) → GotTakes {T = Unit {0}} (Ok tt) m m v v
  got_none m v = record {
    replies = [];
    made = sym (append-nil (taken_by (number_of m) (sight_by m).log));
    shown = told_self (GotUnless {T = Unit {0}} (Ok tt) []) v.log (λ x. ([], (refl, got_nothing x)));
  }

  got_idle : {T : Type 0} (t : T) (m n : Token) (v w : LinkView Service) → SameSent m n → w ≡ v
      → GotTakes (Ok t) m n v w
  got_idle t m n v w s is = record {
    replies = [];
    made = s.taken ∙ sym (append-nil (taken_by (number_of m) (sight_by m).log));
    shown = subst (λ (x : LinkView Service). IfLogged (GotUnless (Ok t) []) v.log x.log) (sym is)
        (told_self (GotUnless (Ok t) []) v.log (λ x. ([], (refl, got_nothing x))));
  }

  -- no further frame, only bytes of one
  got_bytes : {T : Type 0} (e : Error) (m n : Token) (v w : LinkView Service) → SameSent m n
      → IfLogged GotSome v.log w.log → GotTakes {T = T} (Err e) m n v w
  got_bytes e m n v w s some = record {
    replies = [];
    made = s.taken ∙ sym (append-nil (taken_by (number_of m) (sight_by m).log));
    shown = told_as GotSome (GotUnless {T = Unit {0}} (Err e) []) v.log w.log some
        (λ x y g. ([], (g.0, (refl, (g.1.0, g.1.1)))));
  }

  got_still : {T : Type 0} (e : Error) (m n : Token) (v w : LinkView Service) → SameSent m n → w ≡ v
      → GotTakes {T = T} (Err e) m n v w
  got_still e m n v w s is =
      got_bytes e m n v w s (subst (λ (x : LinkView Service). IfLogged GotSome v.log x.log) (sym is)
      (told_self GotSome v.log (λ x. ([], (no_byte, got_nothing x)))))

  got_ok : {T U : Type 0} (t : T) (u : U) (m n : Token) (v w : LinkView Service) → GotTakes (Ok t) m n v w
      → GotTakes (Ok u) m n v w
  got_ok t u m n v w p = record { replies = p.replies; made = p.made; shown = p.shown }

  got_err : {T U : Type 0} (e f : Error) (m n : Token) (v w : LinkView Service) → GotTakes {T = T} (Err e) m n v w
      → GotTakes {T = U} (Err f) m n v w
  got_err e f m n v w p = record { replies = p.replies; made = p.made; shown = p.shown }

  -- every reply that was taken was received, and then an error came
  got_part : {T U : Type 0} (t : T) (e : Error) (m n : Token) (v w : LinkView Service) → GotTakes (Ok t) m n v w
      → GotTakes {T = U} (Err e) m n v w
  got_part t e m n v w p = record {
    replies = p.replies;
    made = p.made;
    shown = told_as (GotUnless (Ok t) p.replies) (GotUnless {T = Unit {0}} (Err e) p.replies) v.log w.log p.shown
        (λ x y g. (g.0, ([], (g.1.0, (no_byte, subst (GotOn x y) (sym (append-nil g.0)) g.1.1)))));
  }

  got_on : {T U : Type 0} (t : T) (r : Result U Error) (m k n : Token) (v w x : LinkView Service)
      → GotTakes (Ok t) m k v w
      → GotTakes r k n w x → GotTakes r m n v x
  got_on t r m k n v w x p q = record {
    replies = p.replies ++ q.replies;
    made = q.made ∙ ap (λ (l : List (ℕ × Reply)). l ++ q.replies) p.made
        ∙ append_assoc (taken_by (number_of m) (sight_by m).log) p.replies q.replies;
    shown = told_on (GotUnless (Ok t) p.replies) (GotUnless r q.replies) (GotUnless r (p.replies ++ q.replies)) v.log
        w.log x.log p.shown q.shown
        (λ a b c s u. got_then t r p.replies q.replies a b c s u);
  }

  -- ---- rounds

  -- the state of a seat that had seen VERSION, after a round
  abbrev pub Got : {T : Type 0} → Reply → Result T Error → Token → Token → LinkView Service → LinkView Service → Type 0
  Got hello r m n v w = GotTakes r m n v w × SeesVersion hello (sight_by n)

  once_got : {T : Type 0} (t : T) (hello : Reply) (m n : Token) (v w : LinkView Service)
      → SeesVersion hello (sight_by m) → ReadsOnce m n v w → Got hello (Ok t) m n v w
  once_got t hello m n v w sees o =
      let h = o.takes in
      let looked = same_value m o.mid o.looks o.looks.did.0.0 in
      let body = drop 4 o.frame.bytes in
      let taken = h.did.0 body (whole_body o.frame o.whole) in
      let told = version_before shown_of o.mid n h hello (looked.version hello sees) in
      let r = takes_reply h.before.session.phase (reply_at body) h.before.session h.after.session hello told taken.1.0
      in
      let is : h.more ≡ r.closes ++ entry.Event (Take r.id r.reply) ∷ [] =
      append_cancel_right h.more (r.closes ++ entry.Event (Take r.id r.reply) ∷ []) (past_of h.before.session.work)
      (sym h.past ∙ r.past ∙ sym (append_assoc r.closes (entry.Event (Take r.id r.reply) ∷ [])
      (past_of h.before.session.work))) in
      let one : IsFrameOf (Some r.id) r.reply o.frame.bytes = record
      { body = body; framed = taken.0.0; short = taken.0.1; reads = r.reads } in (
        record {
          replies = (r.id, r.reply) ∷ [];
          made = hold_took shown_of o.mid n h by_closing closing_quiet r.closes r.id r.reply r.only is
              ∙ ap (λ (l : List (ℕ × Reply)). l ++ (r.id, r.reply) ∷ []) looked.taken;
          shown = told_as (GotAll o.frame.bytes) (GotUnless (Ok t) ((r.id, r.reply) ∷ [])) v.log w.log o.got
              (λ x y g. (o.frame.bytes, ((o.frame.bytes, ([], (sym (append-nil o.frame.bytes), (one, refl)))), g)));
        },
        version_after shown_of o.mid n h hello (looked.version hello sees),
      )

  same_idle : (m n : Token) (v w : LinkView Service) → ReadsRound false m n v w → SameSent m n
  same_idle m n v w h = same_value m n h.0 h.0.did.0.0

  round_got : {T : Type 0} (t : T) (did : Bool) (hello : Reply) (m n : Token) (v w : LinkView Service)
      → SeesVersion hello (sight_by m)
      → ReadsRound did m n v w → Got hello (Ok t) m n v w
  round_got t true hello m n v w sees h = once_got t hello m n v w sees h
  round_got t false hello m n v w sees h =
      let same = same_idle m n v w h in (got_idle t m n v w same h.1, same.version hello sees)

  pub unread_same : (e : Error) (m n : Token) (v w : LinkView Service) → StopsUnread e m n v w → SameSent m n
  unread_same e m n v w u = same_on m u.mid n (same_value m u.mid u.looks u.looks.did.0.0)
      (same_stopped u.why e u.mid n u.stops)

  pub untaken_same : (e : Error) (m n : Token) (v w : LinkView Service) → StopsUntaken e m n v w → SameSent m n
  untaken_same e m n v w u =
      let h = u.refuses in
      let body = drop 4 u.frame.bytes in
      let stops = h.did body (whole_body u.frame u.whole) in
      same_on m u.mid n (same_value m u.mid u.looks u.looks.did.0.0)
      (same_if u.mid n h (stops_extended (by_failing None) (λ f. refl) (reply_at body) e h.before.session
      h.after.session stops.1.0).past)

  stops_got : {T : Type 0} (e : Error) (hello : Reply) (m n : Token) (v w : LinkView Service)
      → SeesVersion hello (sight_by m)
      → ReadStops e m n v w → Got {T = T} hello (Err e) m n v w
  stops_got e hello m n v w sees (inl r) =
      let same = same_refused e m n r.0 in (got_still e m n v w same r.1, same.version hello sees)
  stops_got e hello m n v w sees (inr (inl u)) =
      let same = unread_same e m n v w u in (
        got_bytes e m n v w same
            (told_as (ReadFails u.why) GotSome v.log w.log u.fails
            (λ x y g. (g.0, (one_frame u.why g.0 g.1.0, g.1.1)))),
        same.version hello sees,
      )
  stops_got e hello m n v w sees (inr (inr (inl u))) =
      let same = untaken_same e m n v w u in (
        got_bytes e m n v w same
            (told_as (GotAll u.frame.bytes) GotSome v.log w.log u.got
            (λ x y g. (u.frame.bytes, (inl u.whole.prefix, g)))),
        same.version hello sees,
      )
  stops_got e hello m n v w sees (inr (inr (inr did))) =
      let p = round_got {T = Unit {0}} tt did.1.0 hello m n v w sees did.1.1 in
      (got_part {T = Unit {0}} tt e m n v w p.0, p.1)

  -- ---- shifts

  none_same : {r : Result Bool Error} (a b : WorkerState Service) → ReadNone r a b → SameSent a.0 b.0
  none_same {r = r} a b s =
      same_on a.0 s.mid b.0 (same_idle a.0 s.mid a.1 b.1 s.none)
      (same_looked SettlesEnd finish_same r s.mid b.0 s.looks)

  shift_got : (r : Result Shift Error) (hello : Reply) (a b : WorkerState Service) → SeesVersion hello (sight_by a.0)
      → ReadShift r a b
      → Got hello r a.0 b.0 a.1 b.1
  shift_got (Ok shift) hello a b sees (inl h) = once_got shift hello a.0 b.0 a.1 b.1 sees h.1
  shift_got (Ok shift) hello a b sees (inr h) =
      let same = none_same a b h.1.1 in (got_idle shift a.0 b.0 a.1 b.1 same h.1.1.none.1, same.version hello sees)
  shift_got (Err e) hello a b sees (inl h) = stops_got e hello a.0 b.0 a.1 b.1 sees h
  shift_got (Err e) hello a b sees (inr h) =
      let same = none_same a b h in (got_still e a.0 b.0 a.1 b.1 same h.none.1, same.version hello sees)

  -- ---- all rounds

  pub led_got : (hello : Reply) (first : WorkerState Service) (between : List (WorkerState Service))
      (last : WorkerState Service) → SeesVersion hello (sight_by first.0)
      → IsChainOf (NotLast is_over ReadShift) first between last
      → Got {T = Unit {0}} hello (Ok tt) first.0 last.0 first.1 last.1
  led_got hello first [] last sees led =
      subst (λ (x : WorkerState Service). Got {T = Unit {0}} hello (Ok tt) first.0 x.0 first.1 x.1) (sym led)
      (got_none first.0 first.1, sees)
  led_got hello first (x ∷ earlier) last sees led =
      let p = led_got hello first earlier x sees led.1 in
      let s = shift_got (Ok led.0.0) hello x last p.1 led.0.1.1 in (
        got_on {T = Unit {0}} {U = Unit {0}} tt (Ok tt) first.0 x.0 last.0 first.1 x.1 last.1 p.0
            (got_ok {U = Unit {0}} led.0.0 tt x.0 last.0 x.1 last.1 s.0),
        s.1,
      )

  -- The worker that reads received the frames of the Takes that it made.
  pub read_got : (r : Result (Unit {0}) Error) (hello : Reply) (a b : WorkerState Service)
      → SeesVersion hello (sight_by a.0) → ReadWorks r a b
      → GotTakes r a.0 b.0 a.1 b.1
  read_got (Ok u) hello a b sees works =
      let mid = works.0 in
      let p = led_got hello a works.1.0.0 mid sees works.1.0.1 in
      let s = shift_got (Ok Over) hello mid b p.1 works.1.1 in
      got_on {T = Unit {0}} tt (Ok u) a.0 mid.0 b.0 a.1 mid.1 b.1 p.0 (got_ok Over u mid.0 b.0 mid.1 b.1 s.0)
  read_got (Err e) hello a b sees works =
      let mid = works.0 in
      let p = led_got hello a works.1.0.0 mid sees works.1.0.1 in
      let s = shift_got (Err e) hello mid b p.1 works.1.1 in
      got_on {T = Unit {0}} {U = Unit {0}} tt (Err e) a.0 mid.0 b.0 a.1 mid.1 b.1 p.0
      (got_err {U = Unit {0}} e e mid.0 b.0 mid.1 b.1 s.0)
