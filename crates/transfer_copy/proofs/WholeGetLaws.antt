-- Whole copies from the server: READs and their DATA.
use Rattle.std.proofs.Common.{◌≡◌, inl, inr, ◌<◌, ◌⊎◌, ℕ, ◌+◌, ◌==◌, Bool, true, false, List, [], ◌∷◌, ◌++◌, length, map, refl, sym, ap, ◌∙◌, subst, arith, Some, if◌then◌else◌}
use Rattle.std.proofs.lemmas.Bool.Decides.{nat_tests}
use Rattle.std.proofs.lemmas.List.{map-append}
use Rattle.sftp_model.specs.Numbers.{SSH_FX_EOF}
use Rattle.sftp_model.specs.declared.answers.Expected.TheVariants as expected
use Rattle.sftp_model.specs.declared.reply.Reply.{Reply}
use Rattle.sftp_model.specs.declared.reply.Reply.TheVariants as reply
use Rattle.plan_model.specs.FilePlans.{open_request}
use Rattle.sftp_core.specs.Core.{Core, record_at, reply_in}
use Rattle.sftp_core.specs.Grant.{GrantValue}
use Rattle.transfer_copy.specs.Local.{HasDone, LocalAct, Wrote, naming_acts, part_opened, writes_of}
use Rattle.transfer_copy.specs.declared.get.FileGet.{FileGet}
use Rattle.transfer_copy.specs.declared.get.GetStage.TheVariants as stage
use Rattle.transfer_copy.specs.declared.holding.FileAnswer.TheVariants as file_answer
use Rattle.transfer_copy.specs.declared.holding.FileHold.{FileHold}
use Rattle.transfer_copy.specs.declared.holding.FileHold.TheVariants as hold
use Rattle.transfer_copy.specs.declared.holding.Part.{Part}
use Rattle.transfer_copy.specs.declared.holding.PartAnswer.TheVariants as part_answer
use Rattle.transfer_copy.specs.Gets.{GetFinishes, GetsMore, KeepsPiece, SaysClosed, read_flags}
use Rattle.transfer_copy.specs.Holdings.{AsksFile, DropsParts, HoldingValue, LetsFileGo, SettlesFile, TakesPart, nothing_held}
use Rattle.transfer_copy.specs.Legs.{AnswersFirst, AreDeeds, CopyStep}
use Rattle.transfer_copy.specs.WholeGets.{
  AreFromTo,
  AskedRead,
  AsksOpen,
  AsksRead,
  DidGet,
  GetDeed,
  GotData,
  GotWhole,
  MeetsEnd,
  Opens,
  ReadDeed,
  ReadPiece,
  Reading,
  Reads,
  after_read,
  bytes_of,
  reads_after,
  taken_by,
}
use Rattle.transfer_copy.proofs.ActLaws.{acts_join}
use Rattle.transfer_copy.proofs.LegLaws.{same_number}

-- ---- READs under way

abbrev pub read_part : AskedRead → Part
read_part read = record { ticket = read.ticket; kind = expected.Content read.len; len = read.len }

-- they ask for bytes without a gap
abbrev pub AreAskedFromTo : ℕ → List AskedRead → ℕ → Type 0
AreAskedFromTo from [] to = from ≡ to
AreAskedFromTo from (read ∷ later) to = (read.offset ≡ from) × AreAskedFromTo (from + read.len) later to

asked_last : (from to : ℕ) (reads : List AskedRead) (read : AskedRead) → AreAskedFromTo from reads to → read.offset ≡ to
    → AreAskedFromTo from (reads ++ read ∷ []) (to + read.len)
asked_last from to [] read are there = (there ∙ sym are, ap (λ n. n + read.len) are)
asked_last from to (first ∷ later) read (here, are) there = (
  here,
  asked_last (from + first.len) to later read are there,
)

pieces_last : (from to : ℕ) (pieces : List ReadPiece) (piece : ReadPiece) → AreFromTo from pieces to → piece.read.offset
    ≡ to
    → AreFromTo from (pieces ++ piece ∷ []) (to + length piece.bytes)
pieces_last from to [] piece are there = (there ∙ sym are, ap (λ n. n + length piece.bytes) are)
pieces_last from to (first ∷ later) piece (here, are) there =
    (here, pieces_last (from + length first.bytes) to later piece are there)

abbrev first_part : Part → List Part → Part
first_part other [] = other
first_part other (part ∷ later) = part

abbrev later_parts : List Part → List Part
later_parts [] = []
later_parts (part ∷ later) = later

-- the first part is that of the first READ
record IsFirstRead (reads : List AskedRead) (part : Part) (later : List Part) : Type 0 where
  pub read : AskedRead
  pub behind : List AskedRead
  pub is : reads ≡ read ∷ behind
  pub part_is : read_part read ≡ part
  pub later_is : later ≡ map read_part behind

first_of : (reads : List AskedRead) (part : Part) (later : List Part) → map read_part reads ≡ part ∷ later
    → IsFirstRead reads part later
first_of [] part later is = absurd (let l = ap length is in omega (arith, l))
first_of (read ∷ behind) part later is = record {
  read = read;
  behind = behind;
  is = refl;
  part_is = ap (first_part part) is;
  later_is = sym (ap later_parts is);
}

bytes_last : (pieces : List ReadPiece) (piece : ReadPiece) → writes_of (bytes_of (pieces ++ piece ∷ []))
    ≡ writes_of (bytes_of pieces) ++ Wrote piece.bytes ∷ []
bytes_last [] piece = refl
bytes_last (first ∷ later) piece = ap (λ l. Wrote first.bytes ∷ l) (bytes_last later piece)

-- ---- how far it has come

-- the deeds up to here
abbrev pub AreGetDeeds : {H : Type 0} → (LocalAct → H → H) → List ℕ → List ℕ → List ℕ → Bool → ℕ → GrantValue
    → List (CopyStep FileGet H) → List GetDeed → Type 0
AreGetDeeds done remote part name sync from grant legs deeds = AreDeeds (DidGet done remote part name sync from grant)
    legs deeds

abbrev pub read_deeds : List ReadDeed → List GetDeed
read_deeds reading = map Reading reading ++ Opens ∷ AsksOpen ∷ []

pub record IsReadSoFar {H : Type 0} (done : LocalAct → H → H) (remote part name : List ℕ) (sync : Bool) (from : ℕ)
    (legs : List (CopyStep FileGet H)) (g : FileGet) (first now : H) : Type 0 where
  pub grant : GrantValue
  pub reading : List ReadDeed
  pub asked : List AskedRead
  pub pieces : List ReadPiece
  pub deeds : AreGetDeeds done remote part name sync from grant legs (read_deeds reading)
  pub reads : reads_after reading ≡ record { under_way = asked; pieces = pieces }
  pub file : g.holding.file ≡ hold.Opened grant
  pub parts : g.holding.parts ≡ map read_part asked
  pub ahead : AreAskedFromTo g.offset asked g.next
  pub in_order : AreFromTo from pieces g.offset
  pub acts : HasDone done (part_opened part from ∷ writes_of (bytes_of pieces)) first now

pub record IsReadWhole {H : Type 0} (done : LocalAct → H → H) (remote part name : List ℕ) (sync : Bool) (from : ℕ)
    (legs : List (CopyStep FileGet H)) (g : FileGet) (first now : H) : Type 0 where
  pub grant : GrantValue
  pub reading : List ReadDeed
  pub last_read : AskedRead
  pub given_up : List AskedRead
  pub pieces : List ReadPiece
  pub deeds : AreGetDeeds done remote part name sync from grant legs (MeetsEnd last_read.ticket ∷ read_deeds reading)
  pub reads : reads_after reading ≡ record { under_way = last_read ∷ given_up; pieces = pieces }
  pub file : g.holding.file ≡ hold.Asked grant.id expected.Status
  pub in_order : AreFromTo from pieces g.offset
  pub at_end : last_read.offset ≡ g.offset
  pub acts : HasDone done (part_opened part from ∷ writes_of (bytes_of pieces)) first now

pub record IsOpenAsked {H : Type 0} (done : LocalAct → H → H) (remote part name : List ℕ) (sync : Bool) (from : ℕ)
    (legs : List (CopyStep FileGet H)) (g : FileGet) (first now : H) : Type 0 where
  pub ticket : ℕ
  pub deeds : (handle : List ℕ) → AreGetDeeds done remote part name sync from (record { id = ticket; handle = handle })
      legs
      (AsksOpen ∷ [])
  pub holds : g.holding ≡ record { file = hold.Asked ticket expected.Handle; parts = [] }
  pub offset : g.offset ≡ from
  pub next : g.next ≡ from
  pub acts : now ≡ first

pub record IsUnasked {H : Type 0} (done : LocalAct → H → H) (remote part name : List ℕ) (sync : Bool) (from : ℕ)
    (legs : List (CopyStep FileGet H)) (g : FileGet) (first now : H) : Type 0 where
  pub deeds : (grant : GrantValue) → AreGetDeeds done remote part name sync from grant legs []
  pub holds : g.holding ≡ nothing_held
  pub offset : g.offset ≡ from
  pub next : g.next ≡ from
  pub acts : now ≡ first

-- ---- the OPEN

pub start_so : {H : Type 0} (done : LocalAct → H → H) (remote part name : List ℕ) (sync : Bool) (from : ℕ)
    (legs : List (CopyStep FileGet H)) (leg : CopyStep FileGet H)
    (first : H) → IsUnasked done remote part name sync from legs leg.old first leg.before
    → AsksFile leg.core leg.old.holding (open_request read_flags remote) leg.after leg.new.holding
    → leg.new ≡ record leg.old { stage = stage.Opening; holding = leg.new.holding } → leg.now ≡ leg.before
    → IsOpenAsked done remote part name sync from (leg ∷ legs) leg.new first leg.now
start_so done remote part name sync from legs leg first so asks is same = record {
  ticket = asks.ticket;
  deeds = λ handle. inr (((asks, refl), same), so.deeds (record { id = asks.ticket; handle = handle }));
  holds = asks.now ∙ ap (λ (h : HoldingValue). record h { file = hold.Asked asks.ticket expected.Handle }) so.holds;
  offset = ap (λ (g : FileGet). g.offset) is ∙ so.offset;
  next = ap (λ (g : FileGet). g.next) is ∙ so.next;
  acts = same ∙ so.acts;
}

-- what the HANDLE makes of a file that was asked for
pub record IsHandle (core : Core) (ticket : ℕ) (new : HoldingValue) : Type 0 where
  pub handle : List ℕ
  pub came : reply_in (record_at core ticket) ≡ Some (reply.Handle handle)
  pub file : new.file ≡ hold.Opened (record { id = ticket; handle = handle })
  pub parts : new.parts ≡ []

pub handle_of : (core mid : Core) (ticket : ℕ) (old new : HoldingValue) → old
    ≡ record { file = hold.Asked ticket expected.Handle; parts = [] }
    → SettlesFile core old mid new file_answer.Granted → IsHandle core ticket new
handle_of core mid ticket old new holds granted =
    let at_asked = subst (λ (h : HoldingValue). SettlesFile core h mid new file_answer.Granted) holds granted in
    record { handle = at_asked.0; came = at_asked.1; file = at_asked.4; parts = at_asked.5 }

pub made_whole : {H : Type 0} (done : LocalAct → H → H) (remote part name : List ℕ) (sync : Bool) (from : ℕ)
    (legs : List (CopyStep FileGet H)) (leg : CopyStep FileGet H)
    (first : H) (mid : Core) (left : HoldingValue) → IsOpenAsked done remote part name sync from legs leg.old first
    leg.before
    → SettlesFile leg.core leg.old.holding mid left file_answer.Granted
    → leg.now ≡ done (part_opened part leg.old.offset) leg.before
    → leg.new ≡ record leg.old { stage = stage.Reading; holding = left }
    → IsReadSoFar done remote part name sync from (leg ∷ legs) leg.new first leg.now
made_whole done remote part name sync from legs leg first mid left so granted made is =
    let h = handle_of leg.core mid so.ticket leg.old.holding left so.holds granted in
    let opened = made ∙ ap (λ n. done (part_opened part n) leg.before) so.offset in
    let offset : leg.new.offset ≡ from = ap (λ (g : FileGet). g.offset) is ∙ so.offset in
    let next : leg.new.next ≡ from = ap (λ (g : FileGet). g.next) is ∙ so.next in
    record {
      grant = record { id = so.ticket; handle = h.handle };
      reading = [];
      asked = [];
      pieces = [];
      deeds = inr ((ap (λ (x : HoldingValue). x.file) so.holds, h.came, opened), so.deeds h.handle);
      reads = refl;
      file = ap (λ (g : FileGet). g.holding.file) is ∙ h.file;
      parts = ap (λ (g : FileGet). g.holding.parts) is ∙ h.parts;
      ahead = offset ∙ sym next;
      in_order = sym offset;
      acts = opened ∙ ap (done (part_opened part from)) so.acts;
    }

-- ---- READs

pub asks_so : {H : Type 0} (done : LocalAct → H → H) (remote part name : List ℕ) (sync : Bool) (from : ℕ)
    (legs : List (CopyStep FileGet H)) (leg : CopyStep FileGet H)
    (first : H) → IsReadSoFar done remote part name sync from legs leg.old first leg.before → leg.now ≡ leg.before
    → GetsMore leg.core leg.old leg.after leg.new → IsReadSoFar done remote part name sync from (leg ∷ legs) leg.new
    first
    leg.now
asks_so done remote part name sync from legs leg first so same more =
    let read : AskedRead = record { ticket = more.asks.ticket; offset = leg.old.next; len = more.len } in
    let offset : leg.new.offset ≡ leg.old.offset = ap (λ (g : FileGet). g.offset) more.now in
    let next : leg.new.next ≡ leg.old.next + more.len = ap (λ (g : FileGet). g.next) more.now in
    record {
      grant = so.grant;
      reading = AsksRead read ∷ so.reading;
      asked = so.asked ++ read ∷ [];
      pieces = so.pieces;
      deeds = inr ((so.file, (more.asks, refl), same), so.deeds);
      reads = ap (λ (s : Reads). after_read (AsksRead read) s) so.reads;
      file = ap (λ (h : HoldingValue). h.file) more.asks.now ∙ so.file;
      parts = ap (λ (h : HoldingValue). h.parts) more.asks.now
          ∙ (ap (λ (l : List Part). l ++ read_part read ∷ []) so.parts
          ∙ sym (map-append read_part so.asked (read ∷ [])));
      ahead = subst (λ n. AreAskedFromTo n (so.asked ++ read ∷ []) leg.new.next) (sym offset)
          (subst (λ n. AreAskedFromTo leg.old.offset (so.asked ++ read ∷ []) n) (sym next)
          (asked_last leg.old.offset leg.old.next so.asked read so.ahead refl));
      in_order = subst (λ n. AreFromTo from so.pieces n) (sym offset) so.in_order;
      acts = same ∙ so.acts;
    }

full_test : (got len asked : ℕ) → got ≡ len → len ≡ asked → (got == asked) ≡ true
full_test got len asked a b = same_number got asked (a ∙ b)

short_test : (got len asked : ℕ) → got < len → len ≡ asked → (got == asked) ≡ false
short_test got len asked a b = (let less : got < asked = omega (arith, a, b) in grind (arith, nat_tests, less))

-- what DATA to the first READ makes of the READs
taken_is : (ticket : ℕ) (bytes : List ℕ) (read : AskedRead) (behind asked : List AskedRead) (pieces : List ReadPiece)
    (full : Bool)
    → asked ≡ read ∷ behind → read.ticket ≡ ticket → (length bytes == read.len) ≡ full
    → after_read (GotData ticket bytes) (record { under_way = asked; pieces = pieces })
    ≡ record { under_way = if full then behind else []; pieces = pieces ++ record { read = read; bytes = bytes } ∷ [] }
taken_is ticket bytes read behind asked pieces full is under test =
    ap (λ (l : List AskedRead). taken_by ticket bytes (record { under_way = l; pieces = pieces }) l) is
    ∙ (ap (λ (b : Bool). if b then record {
      under_way = if length bytes == read.len then behind else [];
      pieces = pieces ++ record { read = read; bytes = bytes } ∷ [];
    } else record { under_way = read ∷ behind; pieces = pieces }) (same_number ticket read.ticket (sym under))
    ∙ ap (λ (b : Bool). record {
      under_way = if b then behind else [];
      pieces = pieces ++ record { read = read; bytes = bytes } ∷ [];
    }) test)

-- the part that was answered is that of the first READ
came_first : {H : Type 0} (done : LocalAct → H → H) (remote part name : List ℕ) (sync : Bool) (from : ℕ)
    (legs : List (CopyStep FileGet H)) (g : FileGet)
    (first now : H) (core mid : Core) (left : HoldingValue) (r : Reply) (len : ℕ)
    (so : IsReadSoFar done remote part name sync from legs g first now)
    (came : TakesPart core g.holding mid left (part_answer.Came r len)) → IsFirstRead so.asked came.part came.later
came_first done remote part name sync from legs g first now core mid left r len so came =
    first_of so.asked came.part came.later (sym so.parts ∙ came.first)

pub got_so : {H : Type 0} (done : LocalAct → H → H) (remote part name : List ℕ) (sync : Bool) (from : ℕ)
    (legs : List (CopyStep FileGet H)) (leg : CopyStep FileGet H)
    (first : H) (mid : Core) (left : HoldingValue) (bytes : List ℕ) (len : ℕ)
    → IsReadSoFar done remote part name sync from legs leg.old first leg.before
    → TakesPart leg.core leg.old.holding mid left (part_answer.Came (reply.Content bytes) len)
    → leg.now ≡ done (Wrote bytes) leg.before
    → KeepsPiece (length bytes) len mid (record leg.old { holding = left }) leg.after leg.new
    → IsReadSoFar done remote part name sync from (leg ∷ legs) leg.new first leg.now
got_so {H = H} done remote part name sync from legs leg first mid left bytes len so came wrote keeps = by_length
    keeps.goes
  where
    fr : IsFirstRead so.asked came.part came.later
    fr = came_first done remote part name sync from legs leg.old first leg.before leg.core mid left (reply.Content
        bytes) len
        so came

    piece : ReadPiece
    piece = record { read = fr.read; bytes = bytes }

    under : fr.read.ticket ≡ came.part.ticket
    under = ap (λ (p : Part). p.ticket) fr.part_is

    len_is : len ≡ fr.read.len
    len_is = came.known.len_is ∙ sym (ap (λ (p : Part). p.len) fr.part_is)

    ahead : AreAskedFromTo leg.old.offset (fr.read ∷ fr.behind) leg.old.next
    ahead = subst (λ (l : List AskedRead). AreAskedFromTo leg.old.offset l leg.old.next) fr.is so.ahead

    deed : DidGet done remote part name sync from so.grant (Reading (GotData came.part.ticket bytes)) leg
    deed = ((mid, left, record { len = len; came = came; under = refl }), wrote)

    file_is : left.file ≡ hold.Opened so.grant
    file_is = ap (λ (h : HoldingValue). h.file) came.now ∙ so.file

    in_order : AreFromTo from (so.pieces ++ piece ∷ []) leg.new.offset
    in_order = subst (λ n. AreFromTo from (so.pieces ++ piece ∷ []) n) (sym keeps.offset)
        (pieces_last from leg.old.offset so.pieces piece so.in_order ahead.0)

    acts : HasDone done (part_opened part from ∷ writes_of (bytes_of (so.pieces ++ piece ∷ []))) first leg.now
    acts = subst (λ acts. HasDone done (part_opened part from ∷ acts) first leg.now) (sym (bytes_last so.pieces piece))
        (acts_join done (part_opened part from ∷ writes_of (bytes_of so.pieces)) (Wrote bytes ∷ []) first leg.before
        leg.now so.acts wrote)

    reads : (full : Bool) → (length bytes == fr.read.len) ≡ full
        → reads_after (GotData came.part.ticket bytes ∷ so.reading)
        ≡ record { under_way = if full then fr.behind else []; pieces = so.pieces ++ piece ∷ [] }
    reads full test = ap (λ (s : Reads). after_read (GotData came.part.ticket bytes) s) so.reads
        ∙ taken_is came.part.ticket bytes fr.read fr.behind so.asked so.pieces full fr.is under test

    by_length : ((length bytes ≡ len) × (leg.after ≡ mid) × (leg.new.holding ≡ left) × (leg.new.next ≡ leg.old.next))
        ⊎ ((length bytes < len) × DropsParts mid left leg.after leg.new.holding × (leg.new.next ≡ leg.new.offset))
        → IsReadSoFar done remote part name sync from (leg ∷ legs) leg.new first leg.now
    by_length (inl (full, core_is, holds, next)) = record {
      grant = so.grant;
      reading = GotData came.part.ticket bytes ∷ so.reading;
      asked = fr.behind;
      pieces = so.pieces ++ piece ∷ [];
      deeds = inr (deed, so.deeds);
      reads = reads true (full_test (length bytes) len fr.read.len full len_is);
      file = ap (λ (h : HoldingValue). h.file) holds ∙ file_is;
      parts = ap (λ (h : HoldingValue). h.parts) holds ∙ (ap (λ (h : HoldingValue). h.parts) came.now ∙ fr.later_is);
      ahead = subst (λ n. AreAskedFromTo n fr.behind leg.new.next)
          (sym (keeps.offset ∙ ap (λ n. leg.old.offset + n) (full ∙ len_is)))
          (subst (λ n. AreAskedFromTo (leg.old.offset + fr.read.len) fr.behind n) (sym next) ahead.1);
      in_order = in_order;
      acts = acts;
    }
    by_length (inr (short, drops, next)) = record {
      grant = so.grant;
      reading = GotData came.part.ticket bytes ∷ so.reading;
      asked = [];
      pieces = so.pieces ++ piece ∷ [];
      deeds = inr (deed, so.deeds);
      reads = reads false (short_test (length bytes) len fr.read.len short len_is);
      file = ap (λ (h : HoldingValue). h.file) drops.now ∙ file_is;
      parts = ap (λ (h : HoldingValue). h.parts) drops.now;
      ahead = sym next;
      in_order = in_order;
      acts = acts;
    }

-- ---- the end

abbrev pub grant_id : FileHold → ℕ
grant_id (hold.Opened grant) = grant.id
grant_id other = 0

-- the CLOSE of the grant is awaited
pub closed_file : (core after : Core) (left new : HoldingValue) (grant : GrantValue) → left.file ≡ hold.Opened grant
    → LetsFileGo core left after new → new.file ≡ hold.Asked grant.id expected.Status
closed_file core after left new grant file goes =
    let alone : goes.alone.file ≡ hold.Opened grant = ap (λ (h : HoldingValue). h.file) goes.drops.now ∙ file in
    let id : goes.closes.grant.id ≡ grant.id = ap grant_id (sym goes.closes.opened ∙ alone) in
    ap (λ (h : HoldingValue). h.file) goes.closes.now ∙ ap (λ n. hold.Asked n expected.Status) id

pub ended_so : {H : Type 0} (done : LocalAct → H → H) (remote part name : List ℕ) (sync : Bool) (from : ℕ)
    (legs : List (CopyStep FileGet H)) (leg : CopyStep FileGet H)
    (first : H) (mid : Core) (left : HoldingValue) (code : ℕ) (message language : List ℕ) (len : ℕ)
    → IsReadSoFar done remote part name sync from legs leg.old first leg.before
    → TakesPart leg.core leg.old.holding mid left (part_answer.Came (reply.Status code message language) len)
    → leg.now ≡ leg.before → code ≡ SSH_FX_EOF → GetFinishes mid left (record leg.old { holding = left }) leg.after
    leg.new
    → IsReadWhole done remote part name sync from (leg ∷ legs) leg.new first leg.now
ended_so done remote part name sync from legs leg first mid left code message language len so came same eof ends =
    let fr = came_first done remote part name sync from legs leg.old first leg.before leg.core mid left
    (reply.Status code message language) len so came in
    let file_is : left.file ≡ hold.Opened so.grant = ap (λ (h : HoldingValue). h.file) came.now ∙ so.file in
    let under : came.part.ticket ≡ fr.read.ticket = sym (ap (λ (p : Part). p.ticket) fr.part_is) in
    let answers : AnswersFirst fr.read.ticket (reply.Status SSH_FX_EOF message language) leg.core leg.old.holding mid
    left =
    subst (λ c. AnswersFirst fr.read.ticket (reply.Status c message language) leg.core leg.old.holding mid left) eof
    (record { len = len; came = came; under = under }) in
    let ahead = subst (λ (l : List AskedRead). AreAskedFromTo leg.old.offset l leg.old.next) fr.is so.ahead in
    record {
      grant = so.grant;
      reading = so.reading;
      last_read = fr.read;
      given_up = fr.behind;
      pieces = so.pieces;
      deeds = inr ((so.file, (mid, left, message, language, answers, ends.goes), same), so.deeds);
      reads = so.reads ∙ ap (λ (l : List AskedRead). record { under_way = l; pieces = so.pieces }) fr.is;
      file = closed_file mid leg.after left leg.new.holding so.grant file_is ends.goes;
      in_order = subst (λ n. AreFromTo from so.pieces n) (sym ends.offset) so.in_order;
      at_end = ahead.0 ∙ sym ends.offset;
      acts = same ∙ so.acts;
    }

pub named_whole : {H : Type 0} (done : LocalAct → H → H) (remote part name : List ℕ) (sync : Bool) (from len : ℕ)
    (legs : List (CopyStep FileGet H)) (leg : CopyStep FileGet H)
    (first : H) → IsReadWhole done remote part name sync from legs leg.old first leg.before
    → SaysClosed leg.core leg.old leg.after leg.new
    → HasDone done (naming_acts sync part name) leg.before leg.now → len ≡ leg.old.offset
    → GotWhole done remote part name sync from len first leg.now (leg ∷ legs)
named_whole done remote part name sync from len legs leg first w closed renamed len_is = record {
  grant = w.grant;
  reading = w.reading;
  last_read = w.last_read;
  given_up = w.given_up;
  pieces = w.pieces;
  deeds = inr ((w.file, closed, renamed), w.deeds);
  reads = w.reads;
  in_order = subst (λ n. AreFromTo from w.pieces n) (sym len_is) w.in_order;
  at_end = w.at_end ∙ sym len_is;
  acts = acts_join done (part_opened part from ∷ writes_of (bytes_of w.pieces)) (naming_acts sync part name) first
      leg.before leg.now w.acts renamed;
}
