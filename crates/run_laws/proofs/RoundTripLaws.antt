-- A lane that alone has to do with a name reads what it wrote, and what was there, in a run over a file machine.
use Rattle.std.proofs.Common.{
  ◌≡◌,
  ◌<◌,
  ◌≤◌,
  ℕ,
  zero,
  suc,
  Bool,
  true,
  false,
  List,
  [],
  ◌∷◌,
  length,
  Option,
  Some,
  None,
  if◌then◌else◌,
  refl,
  ap,
  sym,
  ◌∙◌,
  subst,
  arith,
  inl,
  inr,
}
use Rattle.std.specs.Prelude.{◌⊎◌, slice_get}
use Rattle.std.specs.List.{list_all}
use Rattle.sftp_model.specs.declared.config.Choice.{Choice}
use Rattle.sftp_model.specs.declared.config.ServerConfig.{ServerConfig}
use Rattle.sftp_model.specs.declared.error.Error.TheVariants as error
use Rattle.sftp_model.specs.declared.error.IoKind.TheVariants as kind
use Rattle.sftp_model.specs.declared.outcome.Outcome.{Outcome}
use Rattle.sftp_model.specs.declared.outcome.Outcome.TheVariants as outcome
use Rattle.sftp_model.specs.declared.request.Request.{Request}
use Rattle.sftp_model.specs.declared.slot.Move.{Move}
use Rattle.sftp_model.specs.declared.slot.Move.TheVariants.{Ask, Done}
use Rattle.sftp_model.specs.declared.slot.Site.{Site}
use Rattle.machine_model.specs.Changes.{IsWellFormed}
use Rattle.machine_model.specs.Components.{Name, components}
use Rattle.machine_model.specs.FileTree.{FileTree, bytes_of, node_at}
use Rattle.machine_model.specs.declared.node.Node.{Node}
use Rattle.machine_model.specs.declared.node.Node.TheVariants as node
use Rattle.plan_model.specs.FilePlans.{open_request}
use Rattle.sftp_model.specs.Frames.{is_too_long}
use Rattle.plan_model.specs.Moves.{Own, ask_path, refuse_locally}
use Rattle.plan_model.specs.PathPlans.{from_directory}
use Rattle.plan_model.specs.WholePlans.{to_replace}
use Rattle.plan_model.specs.WindowPlans.{to_read}
use Rattle.plan_model.specs.declared.call.Call.{Call}
use Rattle.plan_model.specs.declared.call.Call.TheVariants as call
use Rattle.session_model.specs.declared.entry.Entry.{Entry}
use Rattle.session_model.specs.declared.turn.Turn.{Turn}
use Rattle.session_model.specs.Calls.{Setting, call_at, lane_calls, site_of}
use Rattle.session_model.specs.Journals.{IsJournal}
use Rattle.session_model.specs.Readings.{answer, own}
use Rattle.session_model.specs.Runs.{IsRun}
use Rattle.session_model.specs.Served.{ServesJournal}
use Rattle.session_model.proofs.OverLaws.{runs_are_journals}
use Rattle.run_laws.specs.CallsAmong.{GivesContent, GivesUnless, HasEnded, HasNoFile, IsRefusedBy, refusal_of}
use Rattle.run_laws.specs.FilesLeft.{IsUntouched, LaneLast}
use Rattle.run_laws.specs.InJournals.{IsOfLane, KeepsOff, LaneFirst, LaneInTurn, PassesAt, is_of_call}
use Rattle.run_laws.specs.Steps.{AreAllowed, FeignNoEnd, FeignsNoEnd, HasBytes, RefuseNone, RefusesNone}
use Rattle.run_laws.proofs.LeftLaws.{never_left, write_left}
use Rattle.run_laws.proofs.MoveWords.{is_all_done, is_done, outcome_of}
use Rattle.run_laws.proofs.RunBackLaws.{run_back_unless, run_reads_unless, run_refused_unless}
use Rattle.run_laws.proofs.BackLaws.{gives_all, unrefused_feigns}
use Rattle.run_laws.proofs.ServedSteps.{none_feigned, none_refused}
use Rattle.run_laws.specs.NameCalls.{all_keep_off, may_own}
use Rattle.run_laws.specs.RoundTrips.{HasGot, HasRead, HasWritten, IsOneLanes, NoneWrites, WritesWhole, passes_length}
use Rattle.run_laws.proofs.CallEnds.{EndedByPlan, call_ended}
use Rattle.run_laws.proofs.FlushedLaws.{held_passes}
use Rattle.run_laws.proofs.OffRequests.{is_still}
use Rattle.run_laws.proofs.CallRequests.{IsAsked, asked_own, may_hold, off_asked, own_held}
use Rattle.run_laws.proofs.AvoidedNames.{avoids_plain, own_writes}
use Rattle.run_laws.proofs.LaneCalls.{all_more, all_own_still, each_is, plain_path}

-- ---- a call that made no request

-- a whole write that is done made one
first_of_write : (path bytes : List ℕ) (site left : Site) → ask_path
    (open_request to_replace (from_directory site path)) site ≡ Done outcome.Done left → ⊥
first_of_write path bytes site left e = by_test (is_too_long (open_request to_replace (from_directory site path))) e
  where
    by_test : (b : Bool) → (if b then refuse_locally kind.PathTooLong site else
        Ask (open_request to_replace (from_directory site path))) ≡ Done outcome.Done left → ⊥
    by_test true e = (let both : false ≡ true = ap (λ (w : Move). is_all_done (outcome_of w)) e in cc)
    by_test false e = (let both : false ≡ true = ap is_done e in cc)

-- a whole read by a path that fits a frame made one
first_of_read : (path : List ℕ) (site left : Site) (o : Outcome)
    → is_too_long (open_request to_read (from_directory site path)) ≡ false
    → ask_path (open_request to_read (from_directory site path)) site ≡ Done o left → ⊥
first_of_read path site left o short e = by_test (is_too_long (open_request to_read (from_directory site path))) short e
  where
    by_test : (b : Bool) → b ≡ false → (if b then refuse_locally kind.PathTooLong site else
        Ask (open_request to_read (from_directory site path))) ≡ Done o left → ⊥
    by_test true t e = cc
    by_test false t e = (let both : false ≡ true = ap is_done e in cc)

-- ---- the calls in the journal

-- a call with its first request, as the laws of runs have it
pub record Did (c : Call) (s : Setting) (past : List Entry) (name : Name) (lane k : ℕ) (path : List ℕ) (ended : Outcome)
    : Type 0 where
  pub site : Site
  pub first : ℕ × Request
  pub later : Own
  pub asks : own past lane k ≡ first ∷ later
  pub denotes : components (from_directory site path) ≡ name
  pub did : HasEnded c site s.facts (first ∷ later) (answer past) ended

write_did : (s : Setting) (past : List Entry) (name : Name) (lane writer reader : ℕ) (bytes : List ℕ) → IsJournal s past
    → IsOneLanes s past name lane → (w : HasWritten s past name lane writer reader bytes)
    → Did (call.FsWrite w.path bytes) s past name lane writer w.path outcome.Done
write_did s past name lane writer reader bytes j one w = by_own (own past lane writer) refl e.did
  where
    e : EndedByPlan s past lane writer (call.FsWrite w.path bytes) outcome.Done
    e = call_ended s past lane writer (call.FsWrite w.path bytes) outcome.Done j w.is (λ same. cc) w.ends

    by_own : (o : Own) → own past lane writer ≡ o → HasEnded (call.FsWrite w.path bytes) (site_of s e.before lane)
        s.facts o (answer past) outcome.Done → Did (call.FsWrite w.path bytes) s past name lane writer w.path
        outcome.Done
    by_own [] is did = absurd (first_of_write w.path bytes (site_of s e.before lane) did.left did.ends)
    by_own (first ∷ later) is did =
        record {
          site = site_of s e.before lane;
          first = first;
          later = later;
          asks = is;
          denotes =
              ap components (plain_path s e.before lane w.path (e.still
              (all_own_still name (lane_calls s past lane) one.own))) ∙ w.denotes;
          did = did;
        }

pub read_did : (s : Setting) (past : List Entry) (name : Name) (lane reader : ℕ) (ended : Outcome) → IsJournal s past
    → list_all is_still (lane_calls s past lane) ≡ true → (r : HasRead s past name lane reader ended)
    → Did (call.FsRead r.path r.bound) s past name lane reader r.path ended
read_did s past name lane reader ended j still r = by_own (own past lane reader) refl e.did
  where
    e : EndedByPlan s past lane reader (call.FsRead r.path r.bound) ended
    e = call_ended s past lane reader (call.FsRead r.path r.bound) ended j r.is r.uncancelled r.ends

    plain : from_directory (site_of s e.before lane) r.path ≡ r.path
    plain = plain_path s e.before lane r.path (e.still still)

    by_own : (o : Own) → own past lane reader ≡ o → HasEnded (call.FsRead r.path r.bound) (site_of s e.before lane)
        s.facts o (answer past) ended → Did (call.FsRead r.path r.bound) s past name lane reader r.path ended
    by_own [] is did = absurd (first_of_read r.path (site_of s e.before lane) did.left ended
        (ap passes_length plain ∙ r.short) did.ends)
    by_own (first ∷ later) is did = record {
      site = site_of s e.before lane;
      first = first;
      later = later;
      asks = is;
      denotes = ap components plain ∙ r.denotes;
      did = did;
    }

-- a whole read that gave bytes made one
first_of_got : (path : List ℕ) (site left : Site) (got : List ℕ)
    → ask_path (open_request to_read (from_directory site path)) site ≡ Done (outcome.Bytes got) left → ⊥
first_of_got path site left got e = by_test (is_too_long (open_request to_read (from_directory site path))) e
  where
    by_test : (b : Bool) → (if b then refuse_locally kind.PathTooLong site else
        Ask (open_request to_read (from_directory site path))) ≡ Done (outcome.Bytes got) left → ⊥
    by_test true e = (let both : false ≡ true = ap (λ (w : Move). gave_bytes (outcome_of w)) e in cc)
      where
        gave_bytes : Outcome → Bool
        gave_bytes (outcome.Bytes bytes) = true
        gave_bytes other = false
    by_test false e = (let both : false ≡ true = ap is_done e in cc)

pub got_did : (s : Setting) (past : List Entry) (name : Name) (lane reader : ℕ) (got : List ℕ) → IsJournal s past
    → list_all is_still (lane_calls s past lane) ≡ true → (r : HasGot s past name lane reader got)
    → Did (call.FsRead r.path r.bound) s past name lane reader r.path (outcome.Bytes got)
got_did s past name lane reader got j still r = by_own (own past lane reader) refl e.did
  where
    e : EndedByPlan s past lane reader (call.FsRead r.path r.bound) (outcome.Bytes got)
    e = call_ended s past lane reader (call.FsRead r.path r.bound) (outcome.Bytes got) j r.is (λ same. cc) r.ends

    plain : from_directory (site_of s e.before lane) r.path ≡ r.path
    plain = plain_path s e.before lane r.path (e.still still)

    by_own : (o : Own) → own past lane reader ≡ o → HasEnded (call.FsRead r.path r.bound) (site_of s e.before lane)
        s.facts o (answer past) (outcome.Bytes got) → Did (call.FsRead r.path r.bound) s past name lane reader r.path
        (outcome.Bytes got)
    by_own [] is did = absurd (first_of_got r.path (site_of s e.before lane) did.left got did.ends)
    by_own (first ∷ later) is did = record {
      site = site_of s e.before lane;
      first = first;
      later = later;
      asks = is;
      denotes = ap components plain ∙ r.denotes;
      did = did;
    }

-- ---- what the lane's requests have to do with the name

held : (name : Name) (calls : List Call) → list_all (may_own name) calls ≡ true → list_all (may_hold name) calls ≡ true
held name calls own = all_more (may_own name) (may_hold name) calls (own_held name) own

of_lane : (s : Setting) (past : List Entry) (name : Name) (lane : ℕ) → IsJournal s past → IsOneLanes s past name lane
    → IsOfLane past name lane
of_lane s past name lane j one =
    record {
      others = one.others;
      by_opens = λ place k a is mine plain. (let x : IsAsked name s past lane k place a.request =
          asked_own name s past lane k place a j (held name (lane_calls s past lane) one.own) is mine in
          avoids_plain s past name place x.c a.request x.asks plain);
    }

-- a lane whose calls keep off the name keeps off it
pub lane_keeps_off : (s : Setting) (turns : List Turn) (past : List Entry) (name : Name) (lane : ℕ) → IsRun s turns past
    → all_keep_off name [] (lane_calls s past lane) ≡ true → KeepsOff past name lane
lane_keeps_off s turns past name lane run off place k a is mine =
    off_asked name s past lane k place a (runs_are_journals s turns past run) off is mine

-- what a call asks that doesn't write the name passes it by
call_passes : (s : Setting) (past : List Entry) (name : Name) (lane k place : ℕ) → IsJournal s past
    → IsOneLanes s past name lane → is_of_call past (lane, k) place ≡ true
    → ((c : Call) → call_at s past lane k ≡ Some c → WritesWhole name c → ⊥)
    → PassesAt s past name place
call_passes s past name lane k place j one mine spares =
    held_passes s past name lane k place j (held name (lane_calls s past lane) one.own) mine
    (λ c is w. spares c is (own_writes name c (each_is (may_own name) (lane_calls s past lane) k c one.own is) w))

-- ---- the laws

back_by : (allowed : Choice → Type 0) (s : Setting) (turns : List Turn) (past : List Entry) (config : ServerConfig)
    (choices : List Choice) (tree left : FileTree) (name : Name) (lane writer reader : ℕ) (path bytes : List ℕ)
    (bound : ℕ) (ended : Outcome)
    → ((c : Choice) → allowed c → FeignsNoEnd c) → IsRun s turns past → 1 ≤ s.facts.read_len → IsWellFormed tree
    → ServesJournal config choices tree past left → AreAllowed allowed choices → IsOneLanes s past name lane
    → HasWritten s past name lane writer reader bytes → Did (call.FsRead path bound) s past name lane reader path ended
    → GivesUnless allowed ended bytes
back_by allowed s turns past config choices tree left name lane writer reader path bytes bound ended honest run some
    well served among one w read =
    let j : IsJournal s past = runs_are_journals s turns past run in
    let wrote = write_did s past name lane writer reader bytes j one w in
    let in_turn : LaneInTurn s past name lane writer wrote.first wrote.later reader read.first read.later =
    record {
      lanes = of_lane s past name lane j one;
      asks = wrote.asks;
      asks_then = read.asks;
      in_turn = w.earlier;
      between = λ place k above below mine. call_passes s past name lane k place j one mine
          (λ c is. w.last k c above below is);
    }
    in
    run_back_unless allowed s config choices tree left turns past name lane writer reader wrote.first read.first
    wrote.later read.later w.path path bytes bound wrote.site read.site s.facts s.facts ended honest run served
    among well in_turn wrote.denotes
    wrote.did read.denotes some read.did

lane_reads_first : (c : Call) (s : Setting) (past : List Entry) (name : Name) (lane reader : ℕ) (path : List ℕ)
    (ended : Outcome) (j : IsJournal s past) (one : IsOneLanes s past name lane) → NoneWrites s past name lane reader
    → (d : Did c s past name lane reader path ended) → LaneFirst s past name lane reader d.first d.later
lane_reads_first c s past name lane reader path ended j one before d =
    record {
      lanes = of_lane s past name lane j one;
      asks = d.asks;
      earlier = λ place k below mine. call_passes s past name lane k place j one mine (λ c is. before k c below is);
    }

first_by : (allowed : Choice → Type 0) (s : Setting) (turns : List Turn) (past : List Entry) (config : ServerConfig)
    (choices : List Choice) (tree left : FileTree) (name : Name) (lane reader : ℕ) (path bytes : List ℕ) (bound : ℕ)
    (ended : Outcome)
    → ((c : Choice) → allowed c → FeignsNoEnd c) → IsRun s turns past → 1 ≤ s.facts.read_len → IsWellFormed tree
    → ServesJournal config choices tree past left → AreAllowed allowed choices → IsOneLanes s past name lane
    → NoneWrites s past name lane reader
    → HasBytes tree name bytes → Did (call.FsRead path bound) s past name lane reader path ended
    → GivesUnless allowed ended bytes
first_by allowed s turns past config choices tree left name lane reader path bytes bound ended honest run some well
    served among one before has read =
    let j : IsJournal s past = runs_are_journals s turns past run in
    run_reads_unless allowed s config choices tree left turns past name lane reader read.first read.later path bytes
    bound read.site s.facts ended honest run served among well has
    (lane_reads_first (call.FsRead path bound) s past name lane reader path ended j one before read) read.denotes some
    read.did

refused_by : (allowed : Choice → Type 0) (s : Setting) (turns : List Turn) (past : List Entry) (config : ServerConfig)
    (choices : List Choice) (tree left : FileTree) (name : Name) (lane reader : ℕ) (path : List ℕ) (bound : ℕ)
    (ended : Outcome)
    → IsRun s turns past → 1 ≤ s.facts.read_len → IsWellFormed tree → ServesJournal config choices tree past left
    → AreAllowed allowed choices → IsOneLanes s past name lane → NoneWrites s past name lane reader
    → HasNoFile (node_at tree name) → Did (call.FsRead path bound) s past name lane reader path ended
    → (ended ≡ outcome.Refused (error.SftpError (refusal_of (node_at tree name)) [] [])) ⊎ IsRefusedBy allowed ended
refused_by allowed s turns past config choices tree left name lane reader path bound ended run some well served among
    one before has read =
    let j : IsJournal s past = runs_are_journals s turns past run in
    run_refused_unless allowed s config choices tree left turns past name lane reader read.first read.later path bound
    read.site s.facts ended run served among well has
    (lane_reads_first (call.FsRead path bound) s past name lane reader path ended j one before read) read.denotes some
    read.did

-- ---- bytes that were read, whatever the choices refuse

abbrev bytes_in : Outcome → Option (List ℕ)
bytes_in (outcome.Bytes bytes) = Some bytes
bytes_in other = None

abbrev inside : List ℕ → Option (List ℕ) → List ℕ
inside other None = other
inside other (Some bytes) = bytes

pub no_other : (got bytes : List ℕ) → GivesUnless FeignsNoEnd (outcome.Bytes got) bytes → got ≡ bytes
no_other got bytes (inl (inl is)) = ap (λ (o : Outcome). inside bytes (bytes_in o)) is
no_other got bytes (inl (inr is)) = absurd (let both : Some got ≡ None = ap bytes_in is in cc)
no_other got bytes (inr by) = absurd (let both : Some got ≡ None = ap bytes_in by.ended_so in cc)

pub got_back : (s : Setting) (turns : List Turn) (past : List Entry) (config : ServerConfig) (choices : List Choice)
    (tree left : FileTree) (name : Name) (lane writer reader : ℕ) (bytes got : List ℕ)
    → IsRun s turns past → 1 ≤ s.facts.read_len → IsWellFormed tree → ServesJournal config choices tree past left
    → FeignNoEnd choices → IsOneLanes s past name lane
    → HasWritten s past name lane writer reader bytes → HasGot s past name lane reader got → got ≡ bytes
got_back s turns past config choices tree left name lane writer reader bytes got run some well served honest one w r =
    no_other got bytes
    (back_by FeignsNoEnd s turns past config choices tree left name lane writer reader r.path bytes r.bound
    (outcome.Bytes got) (λ c h. h) run some well served (none_feigned choices honest) one w
    (got_did s past name lane reader got (runs_are_journals s turns past run)
    (all_own_still name (lane_calls s past lane) one.own) r))

pub got_first : (s : Setting) (turns : List Turn) (past : List Entry) (config : ServerConfig) (choices : List Choice)
    (tree left : FileTree) (name : Name) (lane reader : ℕ) (got : List ℕ)
    → IsRun s turns past → 1 ≤ s.facts.read_len → IsWellFormed tree → ServesJournal config choices tree past left
    → FeignNoEnd choices → IsOneLanes s past name lane → NoneWrites s past name lane reader
    → HasGot s past name lane reader got → HasBytes tree name got
got_first s turns past config choices tree left name lane reader got run some well served honest one before r =
    by_node (node_at tree name) refl
  where
    read : Did (call.FsRead r.path r.bound) s past name lane reader r.path (outcome.Bytes got)
    read = got_did s past name lane reader got (runs_are_journals s turns past run)
        (all_own_still name (lane_calls s past lane) one.own) r

    none_there : HasNoFile (node_at tree name) → ⊥
    none_there none =
        elim (refused_by FeignsNoEnd s turns past config choices tree left name lane reader r.path r.bound
        (outcome.Bytes got) run some well served (none_feigned choices honest) one before none read) [
          | inl is ↦ (let both : Some got ≡ None = ap bytes_in is in cc)
          | inr by ↦ (let both : Some got ≡ None = ap bytes_in by.ended_so in cc)
        ]

    by_node : (n : Option Node) → node_at tree name ≡ n → HasBytes tree name got
    by_node None is = absurd (none_there (subst HasNoFile (sym is) tt))
    by_node (Some node.Directory) is = absurd (none_there (subst HasNoFile (sym is) tt))
    by_node (Some (node.File file)) is =
        record {
          file = file;
          is = is;
          bytes_are = sym
              (no_other got (bytes_of tree file)
              (first_by FeignsNoEnd s turns past config choices tree left name lane reader r.path (bytes_of tree file)
              r.bound (outcome.Bytes got) (λ c h. h) run some well served (none_feigned choices honest) one before
              (record { file = file; is = is; bytes_are = refl }) read));
        }

-- ---- where nothing is refused

pub reads_back : (s : Setting) (turns : List Turn) (past : List Entry) (config : ServerConfig) (choices : List Choice)
    (tree left : FileTree) (name : Name) (lane writer reader : ℕ) (bytes : List ℕ) (ended : Outcome)
    → IsRun s turns past → 1 ≤ s.facts.read_len → IsWellFormed tree → ServesJournal config choices tree past left
    → RefuseNone choices → IsOneLanes s past name lane
    → HasWritten s past name lane writer reader bytes → HasRead s past name lane reader ended → GivesContent ended bytes
reads_back s turns past config choices tree left name lane writer reader bytes ended run some well served none one w r =
    gives_all ended bytes
    (back_by RefusesNone s turns past config choices tree left name lane writer reader r.path bytes r.bound ended
    unrefused_feigns run some well served (none_refused choices none) one w
    (read_did s past name lane reader ended (runs_are_journals s turns past run)
    (all_own_still name (lane_calls s past lane) one.own) r))

pub reads_first : (s : Setting) (turns : List Turn) (past : List Entry) (config : ServerConfig) (choices : List Choice)
    (tree left : FileTree) (name : Name) (lane reader : ℕ) (bytes : List ℕ) (ended : Outcome)
    → IsRun s turns past → 1 ≤ s.facts.read_len → IsWellFormed tree → ServesJournal config choices tree past left
    → RefuseNone choices → IsOneLanes s past name lane → NoneWrites s past name lane reader
    → HasBytes tree name bytes → HasRead s past name lane reader ended → GivesContent ended bytes
reads_first s turns past config choices tree left name lane reader bytes ended run some well served none one before has
    r =
    gives_all ended bytes
    (first_by RefusesNone s turns past config choices tree left name lane reader r.path bytes r.bound ended
    unrefused_feigns run some well served (none_refused choices none) one before has
    (read_did s past name lane reader ended (runs_are_journals s turns past run)
    (all_own_still name (lane_calls s past lane) one.own) r))

pub refused_first : (s : Setting) (turns : List Turn) (past : List Entry) (config : ServerConfig)
    (choices : List Choice) (tree left : FileTree) (name : Name) (lane reader : ℕ) (ended : Outcome)
    → IsRun s turns past → 1 ≤ s.facts.read_len → IsWellFormed tree → ServesJournal config choices tree past left
    → RefuseNone choices → IsOneLanes s past name lane → NoneWrites s past name lane reader
    → HasNoFile (node_at tree name) → HasRead s past name lane reader ended → ended
    ≡ outcome.Refused (error.SftpError (refusal_of (node_at tree name)) [] [])
refused_first s turns past config choices tree left name lane reader ended run some well served none one before has r =
    elim
    (refused_by RefusesNone s turns past config choices tree left name lane reader r.path r.bound ended run some well
    served (none_refused choices none) one before has
    (read_did s past name lane reader ended (runs_are_journals s turns past run)
    (all_own_still name (lane_calls s past lane) one.own) r)) [
      | inl refused ↦ refused
      | inr by ↦ absurd (by.refuses by.is)
    ]

-- ---- what is left

pub got_below : {A : Type 0} (xs : List A) (k : ℕ) (x : A) → slice_get xs k ≡ Some x → k < length xs
got_below [] k x e = absurd cc
got_below (y ∷ xs) zero x e = omega arith
got_below (y ∷ xs) (suc k) x e = (let below = got_below xs k x e in omega (arith, below))

-- the bytes of the lane's last write are left
pub writes_left : (s : Setting) (turns : List Turn) (past : List Entry) (config : ServerConfig) (choices : List Choice)
    (tree left : FileTree) (name : Name) (lane writer : ℕ) (bytes : List ℕ)
    → IsRun s turns past → IsWellFormed tree → ServesJournal config choices tree past left → IsOneLanes s past name lane
    → HasWritten s past name lane writer (length (lane_calls s past lane)) bytes → HasBytes left name bytes
writes_left s turns past config choices tree left name lane writer bytes run well served one w =
    let j : IsJournal s past = runs_are_journals s turns past run in
    let wrote = write_did s past name lane writer (length (lane_calls s past lane)) bytes j one w in
    let last : LaneLast s past name lane writer wrote.first wrote.later =
    record {
      lanes = of_lane s past name lane j one;
      asks = wrote.asks;
      later = λ place k above mine. call_passes s past name lane k place j one mine
          (λ c is. w.last k c above (got_below (lane_calls s past lane) k c is) is);
    }
    in
    write_left s config choices tree left turns past name lane writer wrote.first wrote.later w.path bytes wrote.site
    s.facts run served well last wrote.denotes wrote.did

-- and where it wrote none, what was there
pub left_untouched : (s : Setting) (turns : List Turn) (past : List Entry) (config : ServerConfig)
    (choices : List Choice) (tree left : FileTree) (name : Name) (lane : ℕ)
    → IsRun s turns past → IsWellFormed tree → ServesJournal config choices tree past left → IsOneLanes s past name lane
    → NoneWrites s past name lane (length (lane_calls s past lane))
    → IsUntouched tree left name
left_untouched s turns past config choices tree left name lane run well served one before =
    let j : IsJournal s past = runs_are_journals s turns past run in
    never_left s config choices tree left turns past name lane run served well
    (record {
      lanes = of_lane s past name lane j one;
      passes =
          λ place k mine. call_passes s past name lane k place j one mine
          (λ c is. before k c (got_below (lane_calls s past lane) k c is) is);
    })
