-- What a whole write leaves is read back, in a journal that a file machine serves.
use Rattle.std.proofs.Common.{append_assoc, ◌≡◌, ◌<◌, ◌≤◌, ℕ, true, false, List, [], ◌∷◌, ◌++◌, Option, Some, None, refl, ap, sym, ◌∙◌, subst, arith, inl, inr}
use Rattle.std.proofs.lemmas.Bool.{false_from_ne_true}
use Rattle.std.proofs.lemmas.List.{append-nil}
use Rattle.sftp_model.specs.declared.config.Choice.{Choice}
use Rattle.sftp_model.specs.declared.config.ServerConfig.{ServerConfig}
use Rattle.sftp_model.specs.declared.outcome.Outcome.{Outcome}
use Rattle.sftp_model.specs.declared.outcome.Outcome.TheVariants as outcome
use Rattle.sftp_model.specs.declared.reply.Reply.{Reply}
use Rattle.sftp_model.specs.declared.reply.Reply.TheVariants as reply
use Rattle.sftp_model.specs.declared.request.Request.{Request}
use Rattle.sftp_model.specs.declared.slot.Facts.{Facts}
use Rattle.sftp_model.specs.declared.slot.Move.{Move}
use Rattle.sftp_model.specs.declared.slot.Move.TheVariants.{Ask}
use Rattle.sftp_model.specs.declared.slot.Site.{Site}
use Rattle.machine_model.specs.Changes.{IsWellFormed}
use Rattle.machine_model.specs.Components.{Name, components}
use Rattle.machine_model.specs.FileTree.{FileTree}
use Rattle.plan_model.specs.declared.call.Call.TheVariants as call
use Rattle.plan_model.specs.FilePlans.{opened_file}
use Rattle.plan_model.specs.Moves.{Answers, Own, on_handle, once_answered}
use Rattle.plan_model.specs.OwnRequests.{AreAsked, oldest_first}
use Rattle.plan_model.specs.PathPlans.{from_directory}
use Rattle.plan_model.specs.TransferPlans.{rest_next}
use Rattle.plan_model.specs.WholePlans.{nowhere, to_replace}
use Rattle.plan_model.specs.WindowPlans.{answered_prefix, outside, window_next}
use Rattle.session_model.specs.declared.entry.Entry.{Entry}
use Rattle.session_model.specs.Calls.{Setting}
use Rattle.session_model.specs.Grants.{is_asked_by}
use Rattle.session_model.specs.Journals.{IsJournal}
use Rattle.session_model.specs.Readings.{answer, count_submitted, asked_at, count_sent}
use Rattle.session_model.specs.Served.{ServesJournal}
use Rattle.session_model.proofs.RequestLaws.{sent_asked}
use Rattle.run_laws.specs.Bearing.{grant_at}
use Rattle.run_laws.specs.CallsAmong.{GivesContent, GivesUnless, HasEnded, asked_by}
use Rattle.run_laws.specs.GrantUses.{IsCallOn, IsRunOn, PassesBy}
use Rattle.run_laws.specs.InJournals.{InTurn, is_elsewhere}
use Rattle.run_laws.specs.Steps.{Step, AreAllowed, FeignsNoEnd, RefuseNone, RefusesNone, asked_in}
use Rattle.run_laws.proofs.AmongLaws.{Brings, call_on, low_known, not_begun, not_own, other_with, own_with, with_own, with_own_well}
use Rattle.run_laws.proofs.CutLaws.{chosen_parts, known_parts, rising_parts}
use Rattle.run_laws.proofs.GrantAtLaws.{used_well}
use Rattle.run_laws.proofs.LaidLaws.{IsFront, IsLaid, below_has, front, front_as, lay_call, lay_rest}
use Rattle.run_laws.proofs.MoveWords.{is_ask}
use Rattle.run_laws.proofs.NamedLaws.{passes_by, run_on}
use Rattle.run_laws.proofs.OwnLaws.{call_has}
use Rattle.run_laws.proofs.RunLaws.{reads_back}
use Rattle.run_laws.proofs.SentLaws.{AreAll, AreKnown, AreRising, IsAt}
use Rattle.run_laws.proofs.ServedSteps.{HasRequest, none_refused}
use Rattle.run_laws.proofs.UseLaws.{UseWell, above_has}
use Rattle.run_laws.proofs.UsedLaws.{front_of}
use Rattle.plan_model.specs.declared.call.Call.{Call}
use Rattle.plan_model.specs.CallPlans.{next}

-- ---- calls that open first

-- a HANDLE answered the first request before the plan went on to ask
pub opened_first : (place : ℕ) (o : Option Reply) (site : Site) (go : List ℕ → Move) (r : Request)
    → once_answered place o (λ x. on_handle x site go) ≡ Ask r → (h : List ℕ) × (o ≡ Some (reply.Handle h))
opened_first place None site go r e = absurd (let both : false ≡ true = ap is_ask e in cc)
opened_first place (Some (reply.Handle handle)) site go r e = (handle, refl)
opened_first place (Some (reply.Version version extensions)) site go r e =
    absurd (let both : false ≡ true = ap is_ask e in cc)
opened_first place (Some (reply.Status code message language)) site go r e =
    absurd (let both : false ≡ true = ap is_ask e in cc)
opened_first place (Some (reply.Content content)) site go r e = absurd (let both : false ≡ true = ap is_ask e in cc)
opened_first place (Some (reply.Names names)) site go r e = absurd (let both : false ≡ true = ap is_ask e in cc)
opened_first place (Some (reply.Attrs attrs)) site go r e = absurd (let both : false ≡ true = ap is_ask e in cc)
opened_first place (Some (reply.Extended content)) site go r e = absurd (let both : false ≡ true = ap is_ask e in cc)

-- the call asks further only once a HANDLE answered its first request
abbrev pub OpensFirst : Call → Site → Facts → ℕ × Request → Type 0
OpensFirst c site facts first = (l : Own) (answers : Answers) (r : Request) → next c site facts (first ∷ l) answers
    ≡ Ask r → (h : List ℕ) × (answers first.0 ≡ Some (reply.Handle h))

pub granted_by : (c : Call) (site : Site) (facts : Facts) (first : ℕ × Request) (later : Own) (answers : Answers)
    (ended : Outcome) → OpensFirst c site facts first → HasEnded c site facts (first ∷ later) answers ended
    → (place : ℕ) → HasRequest later place → (h : List ℕ) × (answers first.0 ≡ Some (reply.Handle h))
granted_by c site facts first later answers ended opens e place has = by_past e.requests e.are e.so_far.asked
  where
    by_past : (past : Own) → oldest_first past ≡ first ∷ later → AreAsked (next c site facts) past e.by → (h : List ℕ)
        × (answers first.0 ≡ Some (reply.Handle h))
    by_past [] are asked = absurd cc
    by_past (a ∷ past) are (before, earlier, asks, none, stays) =
        elim (front_of (oldest_first past) a first later are) [
          | inl new ↦ absurd (let one : a ∷ [] ≡ first ∷ later = ap (λ (l : Own). l ++ a ∷ []) (sym new.0) ∙ are in
              let nothing : [] ≡ later = cc in subst (λ (l : Own). HasRequest l place) (sym nothing) has)
          | inr old ↦ (let o = opens old.0 before a.1 (ap (λ (l : Own). next c site facts l before) (sym old.1) ∙ asks)
              in (o.0, e.stay first.0 (reply.Handle o.0) (stays first.0 (reply.Handle o.0) o.1)))
        ]

pub write_opens : (path bytes : List ℕ) (site : Site) (facts : Facts) (first : ℕ × Request)
    → OpensFirst (call.FsWrite path bytes) site facts first
write_opens path bytes site facts first l answers r e = opened_first first.0 (answers first.0) site
    (λ handle. rest_next nowhere (opened_file to_replace first.0) bytes site facts l answers) r e

pub read_opens : (path : List ℕ) (bound : ℕ) (site : Site) (facts : Facts) (first : ℕ × Request)
    → OpensFirst (call.FsRead path bound) site facts first
read_opens path bound site facts first l answers r e =
    opened_first first.0 (answers first.0) site (λ handle. window_next handle (Some bound) l (answered_prefix l answers)
    (outside l answers) site facts) r e

-- ---- a read after a write

pub back_unless : (allowed : Choice → Type 0) (s : Setting) (config : ServerConfig) (choices : List Choice)
    (first now : FileTree) (past : List Entry) (name : Name) (n : ℕ) (one other : ℕ × ℕ) (w r : ℕ × Request)
    (written read : Own)
    (write_path read_path bytes : List ℕ) (bound : ℕ) (write_site read_site : Site) (write_facts read_facts : Facts)
    (ended : Outcome)
    → ((c : Choice) → allowed c → FeignsNoEnd c) → IsJournal s past → ServesJournal config choices first past now
    → AreAllowed allowed choices → IsWellFormed first → InTurn s past name n one w written other r read
    → components (from_directory write_site write_path) ≡ name
    → HasEnded (call.FsWrite write_path bytes) write_site write_facts (w ∷ written) (answer past) outcome.Done
    → components (from_directory read_site read_path) ≡ name → 1 ≤ read_facts.read_len
    → HasEnded (call.FsRead read_path bound) read_site read_facts (r ∷ read) (answer past) ended
    → GivesUnless allowed ended bytes
back_unless allowed s config choices first now past name n one other w r written read write_path read_path bytes bound
    write_site read_site write_facts read_facts ended honest j serves among well_formed t denotes wrote denotes'
    one_at_least did =
    by_laid (front allowed config choices first past now n serves among t.were_sent)
  where
    apart : w.0 < r.0
    apart = t.before.0

    last : r.0 < n
    last = t.until.0

    writes : Brings past one.0 one.1 w written
    writes = record {
      own_is = t.asks;
      granted = granted_by (call.FsWrite write_path bytes) write_site write_facts w
          written (answer past) outcome.Done (write_opens write_path bytes write_site write_facts w) wrote;
    }

    reads : Brings past other.0 other.1 r read
    reads = record {
      own_is = t.asks_then;
      granted = granted_by (call.FsRead read_path bound) read_site read_facts r
          read (answer past) ended (read_opens read_path bound read_site read_facts r) did;
    }

    write_grants : ℕ → Option ℕ
    write_grants = with_own past one.0 one.1 w.0 (grant_at s past)

    grant_of : ℕ → Option ℕ
    grant_of = with_own past other.0 other.1 r.0 write_grants

    well : UseWell s past grant_of
    well = with_own_well s past other.0 other.1 r read write_grants j reads
        (with_own_well s past one.0 one.1 w written (grant_at s past) j writes (used_well s past j))

    -- the reader's requests stand from its first on, and the writer's below that
    not_read : (place : ℕ) → place < r.0 → is_asked_by (asked_at past place) other.0 other.1 ≡ false
    not_read place lt = not_begun past other.0 other.1 place r read t.asks_then lt

    not_written : (place : ℕ) → r.0 ≤ place → is_asked_by (asked_at past place) one.0 one.1 ≡ false
    not_written place le =
        false_from_ne_true (is_asked_by (asked_at past place) one.0 one.1)
        (λ mine. let lt : place < r.0 = below_has r.0 place (w ∷ written) t.before
        (call_has past one.0 one.1 place (w ∷ written) t.asks mine) in omega (arith, lt, le))

    passes : (x : Step) → IsAt past (asked_by x) → w.0 < x.place → x.place < n
        → is_asked_by (asked_at past x.place) one.0 one.1 ≡ false → is_asked_by (asked_at past x.place) other.0 other.1
        ≡ false
        → PassesBy (answer past) grant_of (is_elsewhere past name) name x
    passes x at above lt out out' =
        passes_by s past name grant_of x j at (other_with past other.0 other.1 x.place r.0 write_grants out'
        ∙ other_with past one.0 one.1 x.place w.0 (grant_at s past) out) (t.others_pass x.place above lt out out')

    -- the two calls in a run of these steps
    ends_so : (before between rest : List Step) (w_step r_step : Step)
        → IsFront allowed config past n first (before ++ ((w_step ∷ between) ++ r_step ∷ rest)) → asked_by w_step ≡ w
        → asked_by r_step ≡ r → GivesUnless allowed ended bytes
    ends_so before between rest w_step r_step f is_w is_r =
        let whole : List Step = before ++ ((w_step ∷ between) ++ r_step ∷ rest) in
        let r_at : r_step.place ≡ r.0 = ap (λ (p : ℕ × Request). p.0) is_r in
        let rising : AreRising (asked_in ((w_step ∷ between) ++ r_step ∷ rest)) =
        (rising_parts before ((w_step ∷ between) ++ r_step ∷ rest) f.all.rising).1 in
        let known : AreKnown past n (asked_in ((w_step ∷ between) ++ r_step ∷ rest)) =
        (known_parts past n before ((w_step ∷ between) ++ r_step ∷ rest) f.all.known).1 in
        let rising_r : AreRising (asked_in (r_step ∷ rest)) = (rising_parts (w_step ∷ between) (r_step ∷ rest) rising).1
        in
        let parts = known_parts past n (w_step ∷ between) (r_step ∷ rest) known in
        let low : AreKnown past r.0 (asked_in (w_step ∷ between)) =
        subst (λ (k : ℕ). AreKnown past k (asked_in (w_step ∷ between))) r_at
        (low_known past n (w_step ∷ between) rest r_step rising parts.0) in
        let chosen = (chosen_parts allowed (w_step ∷ between) (r_step ∷ rest)
        (chosen_parts allowed before ((w_step ∷ between) ++ r_step ∷ rest) f.chosen).1).1 in
        let run : IsRunOn config (answer past) grant_of (is_elsewhere past name) name first whole =
        run_on s config past name n grant_of first whole j (let le : count_sent past ≤ count_submitted past =
        sent_asked past in
        let was = t.were_sent in omega (arith, le, was)) well f.all f.served t.by_opens
        in
        let on_write : IsCallOn (answer past) grant_of (is_elsewhere past name) name written w_step between =
        call_on past n r.0 grant_of (is_elsewhere past name) name one.0 one.1 w written before between (r_step ∷ rest)
        w_step f.all t.asks is_w (omega (arith, last)) low.1
        (λ place h. below_has r.0 place written t.before.1 h)
        (λ place h. from_r r_step rest r_at rising_r place h)
        (λ place h. other_with past other.0 other.1 place r.0 write_grants
        (not_read place (below_has r.0 place written t.before.1 h))
        ∙ own_with past one.0 one.1 place w written (grant_at s past) t.asks h)
        (λ x at above lt out. passes x at above (omega (arith, lt, last))
        (not_own past one.0 one.1 x.place w written t.asks above out) (not_read x.place lt))
        in
        let again : whole ≡ (before ++ (w_step ∷ between)) ++ r_step ∷ (rest ++ []) =
        sym (append_assoc before (w_step ∷ between) (r_step ∷ rest))
        ∙ ap (λ (l : List Step). (before ++ (w_step ∷ between)) ++ r_step ∷ l) (sym (append-nil rest))
        in
        let on_read : IsCallOn (answer past) grant_of (is_elsewhere past name) name read r_step rest =
        call_on past n n grant_of (is_elsewhere past name) name other.0 other.1 r read (before ++ (w_step ∷ between))
        rest [] r_step (subst (λ (l : List Step). AreAll past n [] (asked_in l)) again f.all) t.asks_then is_r
        (omega arith) parts.1.1 (λ place h. below_has n place read t.until.1 h) (λ place h. absurd h)
        (λ place h. own_with past other.0 other.1 place r read write_grants t.asks_then h)
        (λ x at above lt out. passes x at (omega (arith, apart, above)) lt (not_written x.place (omega (arith, above)))
        (not_own past other.0 other.1 x.place r read t.asks_then above out))
        in
        reads_back allowed config (answer past) grant_of (is_elsewhere past name) name first before between rest w_step
        r_step write_path read_path bytes bound write_site read_site write_facts read_facts written read ended
        honest chosen well_formed run denotes on_write
        (subst (λ (p : ℕ × Request). HasEnded (call.FsWrite write_path bytes) write_site write_facts (p ∷ written)
        (answer past) outcome.Done) (sym is_w) wrote) denotes' one_at_least on_read
        (subst (λ (p : ℕ × Request). HasEnded (call.FsRead read_path bound) read_site read_facts (p ∷ read)
        (answer past) ended) (sym is_r) did)
      where
        from_r : (r_step : Step) (rest : List Step) → r_step.place ≡ r.0 → AreRising (asked_in (r_step ∷ rest))
            → (place : ℕ) → HasRequest (asked_in (r_step ∷ rest)) place → r.0 ≤ place
        from_r r_step rest at rising place (inl e) = (let here : r_step.place ≡ place = e in omega (arith, here, at))
        from_r r_step rest at rising place (inr h) = (let above : r_step.place < place =
            above_has r_step.place place (asked_in rest) rising.0 h in omega (arith, above, at))

    by_rest : (before tail : List Step) (w_step : Step) → IsFront allowed config past n first (before ++ w_step ∷ tail)
        → asked_by w_step ≡ w → IsLaid r tail → GivesUnless allowed ended bytes
    by_rest before tail w_step f is_w l =
        ends_so before l.before l.rest w_step l.step (front_as allowed config past n first (before ++ w_step ∷ tail)
        (before ++ ((w_step ∷ l.before) ++ l.step ∷ l.rest)) (ap (λ (x : List Step). before ++ w_step ∷ x) l.is) f)
        is_w l.asks

    by_laid : (steps : List Step) × IsFront allowed config past n first steps → GivesUnless allowed ended bytes
    by_laid (steps, f) =
        let l : IsLaid w steps = lay_call allowed config past n one.0 one.1 first w written steps f t.asks
        (omega (arith, apart, last)) in
        let g : IsFront allowed config past n first (l.before ++ l.step ∷ l.rest) =
        front_as allowed config past n first steps (l.before ++ l.step ∷ l.rest) l.is f in
        by_rest l.before l.rest l.step g l.asks (lay_rest allowed config past n other.0 other.1 first r read l.before
        l.rest l.step g t.asks_then last (let at : l.step.place ≡ w.0 = ap (λ (p : ℕ × Request). p.0) l.asks in
        omega (arith, at, apart)))

-- ---- where nothing is refused

pub unrefused_feigns : (c : Choice) → RefusesNone c → FeignsNoEnd c
unrefused_feigns c none e = (let both : 0 ≡ 1 = sym none ∙ e in omega (arith, both))

-- no choice refused a request then
pub gives_all : (ended : Outcome) (bytes : List ℕ) → GivesUnless RefusesNone ended bytes → GivesContent ended bytes
gives_all ended bytes (inl gives) = gives
gives_all ended bytes (inr by) = absurd (by.refuses by.is)

pub back : (s : Setting) (config : ServerConfig) (choices : List Choice) (first now : FileTree) (past : List Entry)
    (name : Name) (n : ℕ) (one other : ℕ × ℕ) (w r : ℕ × Request) (written read : Own)
    (write_path read_path bytes : List ℕ) (bound : ℕ) (write_site read_site : Site) (write_facts read_facts : Facts)
    (ended : Outcome)
    → IsJournal s past → ServesJournal config choices first past now → RefuseNone choices → IsWellFormed first
    → InTurn s past name n one w written other r read
    → components (from_directory write_site write_path) ≡ name
    → HasEnded (call.FsWrite write_path bytes) write_site write_facts (w ∷ written) (answer past) outcome.Done
    → components (from_directory read_site read_path) ≡ name → 1 ≤ read_facts.read_len
    → HasEnded (call.FsRead read_path bound) read_site read_facts (r ∷ read) (answer past) ended
    → GivesContent ended bytes
back s config choices first now past name n one other w r written read write_path read_path bytes bound write_site
    read_site write_facts read_facts ended j serves none well_formed t denotes wrote denotes' one_at_least did =
    gives_all ended bytes
    (back_unless RefusesNone s config choices first now past name n one other w r written read write_path read_path
    bytes bound write_site read_site write_facts read_facts ended unrefused_feigns j serves
    (none_refused choices none) well_formed t denotes
    wrote denotes' one_at_least did)
