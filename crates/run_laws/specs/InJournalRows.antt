-- A worked journal in which a call creates a file and a later one opens it to read, beside requests that do not pass
-- the name by.
use Rattle.std.specs.Prelude.{
  ◌≡◌,
  ◌≢◌,
  ◌<◌,
  ℕ,
  zero,
  suc,
  ◌==◌,
  true,
  false,
  List,
  [],
  ◌∷◌,
  codes,
  Option,
  Some,
  None,
  refl,
}
use Rattle.std.proofs.Common.{sym, ◌∙◌, subst, arith}
use Rattle.std.proofs.lemmas.Bool.{and_parts, eqb-true}
use Rattle.ssh_encoding.specs.Writing.{string, uint32}
use Rattle.sftp_model.specs.Frames.{attributes, request_body}
use Rattle.sftp_model.specs.Slots.{fresh_site}
use Rattle.sftp_model.specs.declared.error.Error.TheVariants as error
use Rattle.sftp_model.specs.declared.outcome.Outcome.TheVariants as outcome
use Rattle.sftp_model.specs.declared.request.Request.{Request}
use Rattle.sftp_model.specs.declared.request.Request.TheVariants as request
use Rattle.machine_model.specs.Components.{components}
use Rattle.machine_model.specs.FileTree.{FileTree}
use Rattle.machine_model.specs.RowWords.{config}
use Rattle.machine_model.specs.TreeAnswers.{first_choice}
use Rattle.plan_model.specs.FilePlans.{open_request}
use Rattle.plan_model.specs.WholePlans.{to_replace}
use Rattle.plan_model.specs.declared.call.Call.TheVariants as call
use Rattle.session_model.specs.declared.entry.Entry.{Entry}
use Rattle.session_model.specs.declared.event.Owner.TheVariants as owner
use Rattle.session_model.specs.Calls.{Setting}
use Rattle.session_model.specs.Journals.{IsJournal}
use Rattle.session_model.specs.Readings.{AskedRequest, answer, asked_at}
use Rattle.session_model.proofs.RequestLaws.{asked_beyond}
use Rattle.session_model.specs.RowWords.{
  end,
  granted,
  handle,
  open_of,
  refusal,
  send,
  setting_with,
  submit,
  take,
  to_read,
}
use Rattle.session_model.specs.Served.{ServesJournal}
use Rattle.run_laws.specs.CallsAmong.{HasEnded}
use Rattle.run_laws.specs.GrantUses.{WritesBy}
use Rattle.run_laws.specs.InJournals.{
  AloneOn,
  ComeByOpens,
  InTurn,
  IsOfLane,
  KeepsOff,
  LaneFirst,
  LaneInTurn,
  PassesAt,
  is_of_call,
  is_open_of,
}
use Rattle.run_laws.specs.ReadBackRows.{apart, empty, empty_is_well_formed, name}
use Rattle.run_laws.specs.Sparing.{AvoidsName}
use Rattle.run_laws.specs.Steps.{Step, after}
use Rattle.run_laws.specs.WholeCalls.{IsWholeRead, IsWholeWrite, ServesUnrefused}

-- ---- The journal

abbrev pub makes_then_reads : Setting
makes_then_reads = setting_with (
    (call.OpenFile 0 (record to_read { read = false; write = true; create = true; truncate = true }) (codes "a") ∷
    call.OpenFile 1 to_read (codes "a") ∷ [])
    ∷ (call.OpenFile 0 to_read (codes "b") ∷ [])
    ∷ []
    )

abbrev makes : Request
makes = open_request to_replace (codes "a")

-- A lane creates /a and then opens it to read; another lane asks for /b, which does not exist.
abbrev pub made_then_read : List Entry
made_then_read =
    end 0 1 outcome.Opened
    ∷ take 0 (granted 8)
    ∷ send
    ∷ submit 0 1 0 (open_of (codes "a"))
    ∷ end 1 0 (outcome.Refused (error.SftpError 2 [] []))
    ∷ take 1 (refusal 2)
    ∷ end 0 0 outcome.Opened
    ∷ take 0 (granted 7)
    ∷ send
    ∷ submit 1 0 1 (open_of (codes "b"))
    ∷ submit 0 0 0 makes
    ∷ []

pub made_then_read_is : IsJournal makes_then_reads made_then_read
unfolding request_body attributes string uint32
made_then_read_is = (
  (refl, (_, refl), refl),
  (
    ((2, ((refl, omega arith, refl), (refl, refl))), refl),
    (
      omega arith,
      (
        (refl, refl, (omega arith, refl), refl, refl),
        (
          (refl, (_, refl), refl),
          (
            ((1, ((refl, omega arith, refl), (refl, refl))), refl),
            (
              (refl, (_, refl), refl),
              (
                ((0, ((refl, omega arith, refl), (refl, refl))), refl),
                (
                  omega arith,
                  ((refl, refl, (omega arith, refl), refl, refl), ((refl, refl, (omega arith, refl), refl, refl), tt)),
                ),
              ),
            ),
          ),
        ),
      ),
    ),
  ),
)

abbrev step : ℕ → Request → ℕ → Step
step place r n = record { place = place; request = r; choice = first_choice []; handle = handle n }

abbrev pub left_there : FileTree
left_there = after (config 0) empty (step 0 makes 7 ∷ step 1 (open_of (codes "b")) 8 ∷ step 2 (open_of (codes "a")) 8 ∷
    [])

pub made_then_read_is_served : ServesJournal (config 0) [] empty made_then_read left_there
unfolding components
made_then_read_is_served = (
  (
    handle 7,
    (
      (omega arith, refl),
      refl,
      (handle 8, ((omega arith, refl), refl, (handle 8, ((omega arith, refl), refl, refl)))),
    ),
  ),
  tt,
)

pub made_then_read_is_unrefused : ServesUnrefused (config 0) [] empty made_then_read left_there
made_then_read_is_unrefused = record {
  served = made_then_read_is_served;
  unrefused = tt;
  well_formed =
      empty_is_well_formed;
}

-- ---- The relation of its requests to the name

abbrev the_open : ℕ → ℕ → ℕ → Request → AskedRequest
the_open lane call id r = record { by = owner.Call lane call; id = id; request = r }

-- The request at a place is this one.
is_this : (P : Request → Type 0) (x a : AskedRequest) → (◌≡◌ {A = Option AskedRequest} (Some x) (Some a)) → P x.request
    → P a.request
is_this P x a e p = (let same : x ≡ a = cc in subst (λ (w : AskedRequest). P w.request) same p)

-- No request comes after the last one.
nothing_there : (place : ℕ) (a : AskedRequest) → asked_at made_then_read (suc (suc (suc place))) ≡ Some a → ⊥
nothing_there place a at = (let none : asked_at made_then_read (suc (suc (suc place))) ≡ None =
    asked_beyond made_then_read (suc (suc (suc place))) (omega arith) in cc)

other_avoids : AvoidsName name (open_of (codes "b"))
unfolding components
other_avoids = record { denotes = λ d. apart (codes "b" ∷ []) name refl refl d.1; moves = λ old to d. absurd d }

come_by_opens : ComeByOpens made_then_read name 3
unfolding components
come_by_opens zero a lt at plain =
    absurd (let it : is_open_of name a.request ≡ true = is_this (λ r. is_open_of name r ≡ true) (the_open 0 0 0 makes) a
    at refl in let both : true ≡ false = sym it ∙ plain in cc)
come_by_opens (suc zero) a lt at plain = is_this (AvoidsName name) (the_open 1 0 1 (open_of (codes "b"))) a at
    other_avoids
come_by_opens (suc (suc zero)) a lt at plain =
    absurd (let it : is_open_of name a.request ≡ true = is_this (λ r. is_open_of name r ≡ true)
    (the_open 0 1 0 (open_of (codes "a"))) a at refl in let both : true ≡ false = sym it ∙ plain in cc)
come_by_opens (suc (suc (suc place))) a lt at plain = absurd (omega (arith, lt))

pub other_passes : PassesAt makes_then_reads made_then_read name 1
other_passes =
    record {
      avoids = λ a at. is_this (AvoidsName name) (the_open 1 0 1 (open_of (codes "b"))) a at other_avoids;
      writes = λ a h grant at w uses. absurd (is_this (λ r. WritesBy r h → ⊥) (the_open 1 0 1 (open_of (codes "b"))) a
          at (λ x. x) w);
    }

pub calls_in_turn : InTurn makes_then_reads made_then_read name 3 (0, 0) (0, makes) [] (0, 1) (2, open_of (codes "a"))
    []
calls_in_turn =
    record {
      asks = refl;
      asks_then = refl;
      before = (omega arith, tt);
      until = (omega arith, tt);
      were_sent = omega arith;
      by_opens = come_by_opens;
      others_pass = others;
    }
  where
    others : (place : ℕ) → 0 < place → place < 3 → is_of_call made_then_read (0, 0) place ≡ false
        → is_of_call made_then_read (0, 1) place ≡ false → PassesAt makes_then_reads made_then_read name place
    others zero lt below out out' = absurd (omega (arith, lt))
    others (suc zero) lt below out out' = other_passes
    others (suc (suc zero)) lt below out out' = absurd (let both : true ≡ false = out' in cc)
    others (suc (suc (suc place))) lt below out out' = absurd (omega (arith, below))

-- The other lane keeps off the name, and the lane's two calls are in turn.
pub other_keeps_off : KeepsOff made_then_read name 1
unfolding components
other_keeps_off zero call a at mine = absurd (let both : false ≡ true = mine in cc)
other_keeps_off (suc zero) call a at mine = is_this (λ r. AvoidsName name r × (is_open_of name r ≡ false))
    (the_open 1 0 1 (open_of (codes "b"))) a at (other_avoids, refl)
other_keeps_off (suc (suc zero)) call a at mine = absurd (let both : false ≡ true = mine in cc)
other_keeps_off (suc (suc (suc place))) call a at mine = absurd (nothing_there place a at)

pub lane_keeps_not_off : KeepsOff made_then_read name 0 → ⊥
unfolding components
lane_keeps_not_off off = (let both : true ≡ false = (off 0 0 (the_open 0 0 0 makes) refl refl).1 in cc)

own_come_by_opens : (place call : ℕ) (a : AskedRequest) → asked_at made_then_read place ≡ Some a
    → is_of_call made_then_read (0, call) place ≡ true → is_open_of name a.request ≡ false → AvoidsName name a.request
own_come_by_opens zero call a at mine plain = come_by_opens 0 a (omega arith) at plain
own_come_by_opens (suc zero) call a at mine plain = come_by_opens 1 a (omega arith) at plain
own_come_by_opens (suc (suc zero)) call a at mine plain = come_by_opens 2 a (omega arith) at plain
own_come_by_opens (suc (suc (suc place))) call a at mine plain = absurd (nothing_there place a at)

others_keep_off : (other : ℕ) → other ≢ 0 → KeepsOff made_then_read name other
unfolding components
others_keep_off other ne zero call a at mine = absurd (ne (sym
    (eqb-true 0 other (and_parts (0 == other) (0 == call) mine).0)))
others_keep_off other ne (suc zero) call a at mine = is_this (λ r. AvoidsName name r × (is_open_of name r ≡ false))
    (the_open 1 0 1 (open_of (codes "b"))) a at (other_avoids, refl)
others_keep_off other ne (suc (suc zero)) call a at mine = absurd
    (ne (sym (eqb-true 0 other (and_parts (0 == other) (1 == call) mine).0)))
others_keep_off other ne (suc (suc (suc place))) call a at mine = absurd (nothing_there place a at)

pub lane_is_in_turn : LaneInTurn makes_then_reads made_then_read name 0 0 (0, makes) [] 1 (2, open_of (codes "a")) []
lane_is_in_turn =
    record {
      lanes = record { others = others_keep_off; by_opens = own_come_by_opens };
      asks = refl;
      asks_then = refl;
      in_turn = omega arith;
      between = λ place call low high mine. absurd (omega (arith, low, high));
    }

-- The name does not belong to the other lane.
pub not_the_others : IsOfLane made_then_read name 1 → ⊥
not_the_others t = lane_keeps_not_off (t.others 0 (λ e. absurd (omega (arith, e))))

-- Before the first call of the lane no request reaches the name; before the second the first call has created it.
pub lane_is_first : LaneFirst makes_then_reads made_then_read name 0 0 (0, makes) []
lane_is_first = record {
  lanes = record { others = others_keep_off; by_opens = own_come_by_opens };
  asks = refl;
  earlier = λ place call lt mine. absurd (omega (arith, lt));
}

making_is_no_passing : PassesAt makes_then_reads made_then_read name 0 → ⊥
unfolding components
making_is_no_passing p = (p.avoids (the_open 0 0 0 makes) refl).denotes (refl, refl)

pub lane_is_not_first : LaneFirst makes_then_reads made_then_read name 0 1 (2, open_of (codes "a")) [] → ⊥
lane_is_not_first t = making_is_no_passing (t.earlier 0 0 (omega arith) refl)

pub alone_at_first : AloneOn makes_then_reads made_then_read name 1 (0, 0) (0, makes) []
alone_at_first =
    record {
      asks = refl;
      until = (omega arith, tt);
      were_sent = omega arith;
      by_opens = λ place a lt at plain. come_by_opens place a (omega (arith, lt)) at plain;
      others_pass = others;
    }
  where
    others : (place : ℕ) → place < 1 → is_of_call made_then_read (0, 0) place ≡ false
        → PassesAt makes_then_reads made_then_read name place
    others zero lt out = absurd (let both : true ≡ false = out in cc)
    others (suc place) lt out = absurd (omega (arith, lt))

pub not_alone : AloneOn makes_then_reads made_then_read name 3 (0, 1) (2, open_of (codes "a")) [] → ⊥
not_alone t = making_is_no_passing (t.others_pass 0 (omega arith) refl)

-- A REMOVE does not reach the name by an OPEN.
pub not_by_opens : ComeByOpens (submit 1 1 1 (request.Remove (codes "a")) ∷ made_then_read) name 4 → ⊥
unfolding components
not_by_opens come = (come 3 (the_open 1 1 1 (request.Remove (codes "a"))) (omega arith) refl refl).denotes refl

-- The two OPENs are those of a whole write of no bytes and of a whole read that may receive none.
pub nothing_written : HasEnded (call.FsWrite (codes "a") []) fresh_site makes_then_reads.facts ((0, makes) ∷ [])
    (answer made_then_read) outcome.Done
unfolding request_body string uint32 attributes
nothing_written =
    record {
      by = answer made_then_read;
      stay = λ place r e. e;
      requests = (0, makes) ∷ [];
      are = refl;
      so_far = record { asked = (answer [], tt, refl, refl, λ place r e. absurd cc); answered = (refl, tt) };
      left = fresh_site;
      ends = refl;
    }

pub nothing_read : HasEnded (call.FsRead (codes "a") 0) fresh_site makes_then_reads.facts
    ((2, open_of (codes "a")) ∷ []) (answer made_then_read) outcome.GivenUp
unfolding request_body string uint32 attributes
nothing_read =
    record {
      by = answer made_then_read;
      stay = λ place r e. e;
      requests = (2, open_of (codes "a")) ∷ [];
      are = refl;
      so_far = record { asked = (answer [], tt, refl, refl, λ place r e. absurd cc); answered = (refl, tt) };
      left = fresh_site;
      ends = refl;
    }

-- ---- Requests that do not pass the name by

-- A REMOVE of it.
pub remove_is_no_passing : PassesAt makes_then_reads (submit 1 1 1 (request.Remove (codes "a")) ∷ made_then_read) name 3
    → ⊥
unfolding components
remove_is_no_passing p = (p.avoids (the_open 1 1 1 (request.Remove (codes "a"))) refl).denotes refl

-- A WRITE by the handle that its OPEN was granted.
abbrev write_of : Request
write_of = request.Write (handle 8) 0 (codes "z")

pub write_is_no_passing : PassesAt makes_then_reads (submit 0 2 0 write_of ∷ made_then_read) name 3 → ⊥
unfolding components
write_is_no_passing p = (let both : true ≡ false = p.writes (the_open 0 2 0 write_of) (handle 8) 2 refl refl refl in cc)

-- If it comes between two calls, they are not in turn.
pub not_in_turn : InTurn makes_then_reads (send ∷ submit 0 1 2 (open_of (codes "a")) ∷ submit 1 0 1
    (request.Remove (codes "a")) ∷ submit 0 0 0 makes ∷ []) name 3 (0, 0) (0, makes) [] (0, 1) (2, open_of (codes "a"))
    [] → ⊥
unfolding components
not_in_turn t = ((t.others_pass 1 (omega arith) (omega arith) refl refl).avoids
    (the_open 1 0 1 (request.Remove (codes "a"))) refl).denotes refl

-- ---- The two calls as whole ones

pub is_whole_write : IsWholeWrite made_then_read name ((0, makes) ∷ []) []
unfolding components
is_whole_write = record {
  path = codes "a";
  site = fresh_site;
  facts = makes_then_reads.facts;
  denotes = refl;
  ended_well = nothing_written;
}

pub is_whole_read : IsWholeRead made_then_read name ((2, open_of (codes "a")) ∷ []) outcome.GivenUp
unfolding components
is_whole_read = record {
  path = codes "a";
  bound = 0;
  site = fresh_site;
  facts = makes_then_reads.facts;
  denotes = refl;
  some = omega arith;
  ended_so = nothing_read;
}
