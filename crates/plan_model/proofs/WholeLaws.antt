-- The law of moves for whole files and listings.
use Rattle.std.proofs.Common.{◌≡◌, ◌-◌, ◌==◌, ℕ, Bool, true, false, List, [], ◌∷◌, Option, Some, None, refl, ap, sym, subst, inl, inr, arith, if◌then◌else◌}
use Rattle.std.specs.Prelude.{◌++◌, length, nat_lt, is_some}
use Rattle.sftp_model.specs.declared.outcome.Outcome.TheVariants as outcome
use Rattle.sftp_model.specs.declared.reply.NameEntry.{NameEntry}
use Rattle.sftp_model.specs.declared.reply.Reply.{Reply}
use Rattle.sftp_model.specs.declared.reply.Reply.TheVariants as reply
use Rattle.sftp_model.specs.declared.request.Request.{Request}
use Rattle.sftp_model.specs.declared.request.Request.TheVariants as request
use Rattle.sftp_model.specs.declared.slot.Move.{Move}
use Rattle.sftp_model.specs.declared.slot.Move.TheVariants.{Ask, Done}
use Rattle.plan_model.specs.Moves.{Own, Plan, ask_path, refusal_move, handle_of, on_handle, once_answered}
use Rattle.plan_model.specs.PathPlans.{from_directory}
use Rattle.plan_model.specs.FilePlans.{open_request, opened_file}
use Rattle.plan_model.specs.WholePlans.{once_opened, to_replace, nowhere, fs_write_next, on_names, entries_next, list_next}
use Rattle.plan_model.specs.WindowPlans.{
  answered_prefix,
  outside,
  first_refusal,
  least,
  least_end,
  gaps,
  contents,
  await_first,
  ask_more,
  go_on,
  reaches,
  ends_or,
  unless_refused,
  window_next,
  to_read,
  fs_read_next,
}
use Rattle.plan_model.specs.GoodMoves.{Situation, IsHeldHandle, HoldsWithin, IsGood, IsBrought, ReadsWithin}
use Rattle.plan_model.proofs.MoveLaws.{either, answered, by_refusal, as_begun}
use Rattle.plan_model.proofs.PathLaws.{path_good}
use Rattle.plan_model.proofs.FileLaws.{rest_good}

-- a call that opens first: what it goes on with was brought, and its handle is that of the grant
opened_good : (s : Situation) (own : Own) (first : Move) (go : ℕ → List ℕ → Plan) → s.own ≡ own
    → ((g : ℕ) → IsBrought s.own s.answers g → s.brought g) → (s.own ≡ [] → IsGood s first)
    → ((place : ℕ) (handle : List ℕ) (later : Own) → s.brought place → handle ≡ handle_of (s.answers place)
    → IsGood s (go place handle later s.answers))
    → IsGood s (once_opened first s.site go own s.answers)
opened_good s [] first go is brings asks goes = asks is
opened_good s (asked ∷ later) first go is brings asks goes = answered s asked.0 (s.answers asked.0) _ refl by_reply
  where
    by_reply : (r : Reply) → s.answers asked.0 ≡ Some r → IsGood s
        (on_handle r s.site (λ handle. go asked.0 handle later s.answers))
    by_reply (reply.Handle handle) got =
        goes asked.0 handle later (brings asked.0 (record {
          asked = asked.1;
          later = later;
          handle = handle;
          first = is;
          came = got;
        })) (sym (ap handle_of got))
    by_reply (reply.Status code message language) got = as_begun s outcome.NoFile
    by_reply r got = as_begun s outcome.NoFile

-- ---- fs_write

pub fs_write_good : (s : Situation) (path bytes : List ℕ) → ((g : ℕ) → IsBrought s.own s.answers g → s.brought g)
    → IsGood s (fs_write_next path bytes s.site s.facts s.own s.answers)
fs_write_good s path bytes brings =
    opened_good s s.own (ask_path (open_request to_replace (from_directory s.site path)) s.site) _ refl brings
    (λ fresh. path_good s (open_request to_replace (from_directory s.site path)) (λ e. (fresh, omega arith, refl, e)))
    (λ place handle later held bears. rest_good s (λ x. x ≡ s.site) nowhere (opened_file to_replace place) bytes s.site
    later
    (λ x same. subst (HoldsWithin s) (sym same) (λ g h. inl h)) (λ x n same kept. kept) (inr held) refl)

-- ---- list

by_names : (s : Situation) (r : Reply) (ended : Move) (go : List NameEntry → Move) → IsGood s ended
    → ((entries : List NameEntry) → IsGood s (go entries)) → IsGood s (on_names r s.site ended go)
by_names s (reply.Names []) ended go e goes = e
by_names s (reply.Names (entry ∷ entries)) ended go e goes = goes (entry ∷ entries)
by_names s (reply.Status code message language) ended go e goes =
    either (IsGood s) (code == 1) ended (refusal_move (reply.Status code message language) s.site) (λ x. e)
    (λ x. as_begun s outcome.NoFile)
by_names s r ended go e goes = as_begun s outcome.NoFile

entries_good : (s : Situation) (handle : List ℕ) (got : List NameEntry) (bound : ℕ) (own : Own) → IsHeldHandle s handle
    → IsGood s (entries_next handle got bound s.site own s.answers)
entries_good s handle got bound [] held = either (IsGood s) (bound == 0) (Done outcome.GivenUp s.site)
    (Ask (request.Readdir handle)) (λ e. as_begun s outcome.GivenUp) (λ e. held)
entries_good s handle got bound (asked ∷ later) held =
    answered s asked.0 (s.answers asked.0) _ refl (λ r is. by_names s r (Done (outcome.Names got) s.site) _
    (as_begun s outcome.NoFile) (λ entries. entries_good s handle (got ++ entries) (bound - 1) later held))

pub list_good : (s : Situation) (path : List ℕ) (bound : ℕ) → ((g : ℕ) → IsBrought s.own s.answers g → s.brought g)
    → IsGood s (list_next path bound s.site s.facts s.own s.answers)
list_good s path bound brings =
    opened_good s s.own (ask_path (request.Opendir (from_directory s.site path)) s.site) _ refl brings
    (λ fresh. path_good s (request.Opendir (from_directory s.site path)) (λ e. (fresh, e)))
    (λ place handle later held bears. entries_good s handle [] bound later
    (record { grant = place; held = inr held; bears = bears }))

-- ---- fs_read: where its READs are within the range and the read length

outside_waits : (s : Situation) (reads : Own) → IsGood s (await_first (outside reads s.answers) s.site)
outside_waits s [] = as_begun s outcome.GivenUp
outside_waits s (asked ∷ later) = by_answer (s.answers asked.0) refl (outside_waits s later)
  where
    by_answer : (got : Option Reply) → s.answers asked.0 ≡ got → IsGood s (await_first (outside later s.answers) s.site)
        → IsGood s (await_first (if is_some got then outside later s.answers else asked ∷ later) s.site)
    by_answer None is rest = is
    by_answer (Some r) is rest = rest

more_good : (s : Situation) (handle : List ℕ) (reads : Own) (replies : List (ℕ × Reply)) (gap end : Option ℕ)
    → IsHeldHandle s handle
    → ReadsWithin s.facts (ask_more handle reads replies (outside reads s.answers) s.site s.facts gap end)
    → IsGood s (ask_more handle reads replies (outside reads s.answers) s.site s.facts gap end)
more_good s handle reads replies (Some p) end held within = (held, within.0, within.1)
more_good s handle reads replies None None held within = (held, within.0, within.1)
more_good s handle reads replies None (Some end) held within = outside_waits s reads

-- of two moves, the one that comes
either_within : (P : Move → Type 0) (Q : Move → Type 0) (b : Bool) (m n : Move) → (P m → Q m) → (P n → Q n)
    → P (if b then m else n) → Q (if b then m else n)
either_within P Q true m n first second p = first p
either_within P Q false m n first second p = second p

go_good : (s : Situation) (handle : List ℕ) (bound : Option ℕ) (reads : Own) (replies : List (ℕ × Reply))
    → IsHeldHandle s handle
    → ReadsWithin s.facts (go_on handle bound reads replies (outside reads s.answers) s.site s.facts)
    → IsGood s (go_on handle bound reads replies (outside reads s.answers) s.site s.facts)
go_good s handle bound reads replies held =
    either_within (ReadsWithin s.facts) (IsGood s) (reaches bound (length (contents replies)))
    (Done outcome.GivenUp s.site) _ (λ w. as_begun s outcome.GivenUp)
    (either_within (ReadsWithin s.facts) (IsGood s) (nat_lt (length (outside reads s.answers)) s.facts.read_window)
    (ask_more handle reads replies (outside reads s.answers) s.site s.facts
    (least (gaps reads replies (outside reads s.answers))) (least_end replies))
    (await_first (outside reads s.answers) s.site)
    (more_good s handle reads replies (least (gaps reads replies (outside reads s.answers))) (least_end replies) held)
    (λ w. outside_waits s reads))

ends_good : (s : Situation) (missing : List ℕ) (replies : List (ℕ × Reply)) (waiting : Own) (end : Option ℕ)
    (other : Move) → (ReadsWithin s.facts other → IsGood s other)
    → ReadsWithin s.facts (ends_or missing replies waiting s.site end other)
    → IsGood s (ends_or missing replies waiting s.site end other)
ends_good s [] replies [] (Some end) other goes w = as_begun s outcome.NoFile
ends_good s [] replies [] None other goes w = goes w
ends_good s [] replies (asked ∷ later) end other goes w = goes w
ends_good s (p ∷ ps) replies waiting end other goes w = goes w

unless_good : (s : Situation) (bad : Option (ℕ × Reply)) (go : Move) → (ReadsWithin s.facts go → IsGood s go)
    → ReadsWithin s.facts (unless_refused bad s.site go) → IsGood s (unless_refused bad s.site go)
unless_good s None go goes w = goes w
unless_good s (Some got) go goes w = by_refusal (IsGood s) got.1 s.site (as_begun s)

pub fs_read_good : (s : Situation) (path : List ℕ) (bound : Option ℕ)
    → ((g : ℕ) → IsBrought s.own s.answers g → s.brought g) → ReadsWithin s.facts
    (fs_read_next path bound s.site s.facts s.own s.answers)
    → IsGood s (fs_read_next path bound s.site s.facts s.own s.answers)
fs_read_good s path bound brings within = by_own s.own refl within
  where
    first : Move
    first = ask_path (open_request to_read (from_directory s.site path)) s.site

    go : ℕ → List ℕ → Plan
    go place handle reads answers = window_next handle bound reads (answered_prefix reads answers)
        (outside reads answers) s.site s.facts

    by_reply : (asked : ℕ × Request) (later : Own) (r : Option Reply) → s.own ≡ asked ∷ later → s.answers asked.0 ≡ r
        → ReadsWithin s.facts (once_answered asked.0 r (λ y. on_handle y s.site
        (λ handle. go asked.0 handle later s.answers))) → IsGood s
        (once_answered asked.0 r (λ y. on_handle y s.site (λ handle. go asked.0 handle later s.answers)))
    by_reply asked later None is got w = got
    by_reply asked later (Some (reply.Handle handle)) is got w =
        let held : IsHeldHandle s handle = record {
          grant = asked.0;
          held =
              inr (brings asked.0 (record { asked = asked.1; later = later; handle = handle; first = is; came = got }));
          bears = sym (ap handle_of got);
        } in
        unless_good s (first_refusal (answered_prefix later s.answers)) _
        (ends_good s (gaps later (answered_prefix later s.answers) (outside later s.answers))
        (answered_prefix later s.answers) (outside later s.answers) (least_end (answered_prefix later s.answers)) _
        (go_good s handle bound later (answered_prefix later s.answers) held)) w
    by_reply asked later (Some (reply.Status code message language)) is got w = as_begun s outcome.NoFile
    by_reply asked later (Some r) is got w = as_begun s outcome.NoFile

    by_own : (own : Own) → s.own ≡ own → ReadsWithin s.facts (once_opened first s.site go own s.answers)
        → IsGood s (once_opened first s.site go own s.answers)
    by_own [] is w = path_good s (open_request to_read (from_directory s.site path)) (λ e. (is, omega arith, refl, e))
    by_own (asked ∷ later) is w = by_reply asked later (s.answers asked.0) is refl w
