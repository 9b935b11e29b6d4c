-- What the window of a whole read asks and awaits next.
use Rattle.std.proofs.Common.{◌≡◌, ◌≢◌, ◌∙◌, ◌≤◌, refl, sym, subst, arith, ℕ, Bool, true, false, List, [], ◌∷◌, length, Option, Some, None, inl, inr, if◌then◌else◌}
use Rattle.std.specs.Prelude.{◌⊎◌, map, nat_lt, IsSome}
use Rattle.std.proofs.lemmas.Bool.Decides.{nat_tests}
use Rattle.std.proofs.lemmas.List.{length-map}
use Rattle.sftp_model.specs.declared.reply.Reply.{Reply}
use Rattle.sftp_model.specs.declared.request.Request.{Request}
use Rattle.sftp_model.specs.declared.slot.Facts.{Facts}
use Rattle.sftp_model.specs.declared.slot.Move.{Move}
use Rattle.sftp_model.specs.declared.slot.Move.TheVariants.{Done, Wait}
use Rattle.sftp_model.specs.declared.outcome.Outcome.{Outcome}
use Rattle.sftp_model.specs.declared.outcome.Outcome.TheVariants as outcome
use Rattle.sftp_model.specs.declared.slot.Site.{Site}
use Rattle.plan_model.specs.GoodMoves.{ReadsWithin}
use Rattle.plan_model.specs.Moves.{Own}
use Rattle.plan_model.specs.WindowPlans.{ask_more, await_first, contents, ends_or, first_refusal, gaps, go_on, least, least_end, reaches, unless_refused, whole_content}
use Rattle.plan_model.proofs.AskedReads.{whole_range}
use Rattle.plan_state.specs.Calls.{IsUnfinished}
use Rattle.plan_window.specs.Windows.{AsksInRange, Window, as_request, first_of, move_by, reads_of, replies_of, under_way, window_move}
use Rattle.plan_window.specs.declared.next_move.WindowMove.{WindowMove}
use Rattle.plan_window.specs.declared.next_move.WindowMove.TheVariants as step
use Rattle.plan_window.specs.declared.window.ReadAt.{ReadAt}
use Rattle.sftp_fs_read.specs.Reads.{AreRead, ReadsValue, anywhere, refusal_of, replies_of_window}
use Rattle.sftp_fs_read.proofs.ReadsLaws.{any_moves, refused_as}

-- ---- a bound that is not reached changes nothing

-- what a window does before it goes on
abbrev before_going : List ℕ → Window → Site → Move → Move
before_going handle w site go =
    unless_refused (first_refusal (replies_of w)) site
    (ends_or (gaps (reads_of handle w) (replies_of w) (under_way handle w)) (replies_of w) (under_way handle w) site
    (least_end (replies_of w)) go)

-- it goes on, or not
goes_or : (handle : List ℕ) (w : Window) (site : Site)
    → ((o : Outcome) × ((go : Move) → before_going handle w site go ≡ Done o site))
    ⊎ ((go : Move) → before_going handle w site go ≡ go)
goes_or handle w site =
    by_parts (first_refusal (replies_of w)) (gaps (reads_of handle w) (replies_of w) (under_way handle w))
    (under_way handle w) (least_end (replies_of w))
  where
    by_parts : (o : Option (ℕ × Reply)) (gs : List ℕ) (waiting : Own) (end : Option ℕ)
        → ((ended : Outcome) × ((go : Move) → unless_refused o site (ends_or gs (replies_of w) waiting site end go)
        ≡ Done ended site))
        ⊎ ((go : Move) → unless_refused o site (ends_or gs (replies_of w) waiting site end go) ≡ go)
    by_parts (Some got) gs waiting end = inl (outcome.Refused (refusal_of got.1), λ go. refused_as got.1 site)
    by_parts None [] [] (Some end) = inl (outcome.Bytes (whole_content end (replies_of w)), λ go. refl)
    by_parts None [] [] None = inr (λ go. refl)
    by_parts None [] (a ∷ rest) end = inr (λ go. refl)
    by_parts None (g ∷ gs) waiting end = inr (λ go. refl)

-- what a window goes on with: nothing more, where the bound was reached
abbrev going : List ℕ → Option ℕ → Window → Site → Facts → Move
going handle bound w site facts = go_on handle bound (reads_of handle w) (replies_of w) (under_way handle w) site facts

pub bounded_within : (handle : List ℕ) (n : ℕ) (w : Window) (site : Site) (facts : Facts)
    → ReadsWithin facts (window_move handle None w site facts)
    → ReadsWithin facts (window_move handle (Some n) w site facts)
bounded_within handle n w site facts h = by_part (goes_or handle w site)
  where
    by_test : (b : Bool) → ReadsWithin facts (going handle None w site facts)
        → ReadsWithin facts (if b then Done outcome.GivenUp site else going handle None w site facts)
    by_test true k = tt
    by_test false k = k

    by_part : (((o : Outcome) × ((go : Move) → before_going handle w site go ≡ Done o site))
        ⊎ ((go : Move) → before_going handle w site go ≡ go)) → ReadsWithin facts
        (window_move handle (Some n) w site facts)
    by_part (inl same) = subst (ReadsWithin facts) (sym (same.1 (going handle (Some n) w site facts))) tt
    by_part (inr goes) =
        let free : ReadsWithin facts (going handle None w site facts) =
        subst (ReadsWithin facts) (goes (going handle None w site facts)) h in
        subst (ReadsWithin facts) (sym (goes (going handle (Some n) w site facts)))
        (by_test (reaches (Some n) (length (contents (replies_of w)))) free)

-- the same move, unless it is given up
pub unbounded : (handle : List ℕ) (n : ℕ) (w : Window) (site : Site) (facts : Facts) (m : WindowMove) → m ≢ step.GivenUp
    → window_move handle (Some n) w site facts ≡ move_by handle site m → window_move handle None w site facts
    ≡ move_by handle site m
unbounded handle n w site facts m some is = by_part (goes_or handle w site)
  where
    not_given_up : (x : WindowMove) → x ≢ step.GivenUp → Done outcome.GivenUp site ≡ move_by handle site x → ⊥
    not_given_up (step.Ask offset len) some e = cc
    not_given_up (step.Wait place) some e = cc
    not_given_up (step.Whole bytes) some e = cc
    not_given_up step.GivenUp some e = some refl

    by_test : (b : Bool) → (if b then Done outcome.GivenUp site else going handle None w site facts)
        ≡ move_by handle site m
        → going handle None w site facts ≡ move_by handle site m
    by_test true e = absurd (not_given_up m some e)
    by_test false e = e

    by_part : (((o : Outcome) × ((go : Move) → before_going handle w site go ≡ Done o site))
        ⊎ ((go : Move) → before_going handle w site go ≡ go)) → window_move handle None w site facts
        ≡ move_by handle site m
    by_part (inl same) = same.1 (going handle None w site facts)
        ∙ (sym (same.1 (going handle (Some n) w site facts)) ∙ is)
    by_part (inr goes) = goes (going handle None w site facts)
        ∙ by_test (reaches (Some n) (length (contents (replies_of w))))
        (sym (goes (going handle (Some n) w site facts)) ∙ is)

-- ---- what is asked is within the range

pub reads_in_range : (s : ReadsValue) (n : ℕ) → AreRead s → AsksInRange n s.window s.facts
reads_in_range s n h =
    record {
      handle = s.handle;
      site = anywhere;
      within = bounded_within s.handle n s.window anywhere s.facts (subst (ReadsWithin s.facts) (any_moves s h)
          (whole_range [] None anywhere s.facts h.past (replies_of_window s.handle s.window) h.fits.read_len.0
          h.fits.read_len.1
          (λ made m is few. absurd (let clash : ◌≡◌ {A = Option ℕ} None (Some m) = is in cc))
          (λ is. let e = h.made in let f = h.few in omega (arith, e, f)) h.asked h.answered));
    }

-- ---- a window that awaits a reply

going_on : (handle : List ℕ) (reads : Own) (replies : List (ℕ × Reply)) (a : ℕ × Request) (waiting : Own) (site : Site)
    (facts : Facts)
    (gap end : Option ℕ) (room : Bool)
    → IsUnfinished (if room then ask_more handle reads replies (a ∷ waiting) site facts gap end else
    await_first (a ∷ waiting) site)
going_on handle reads replies a waiting site facts (Some p) end true = tt
going_on handle reads replies a waiting site facts None None true = tt
going_on handle reads replies a waiting site facts None (Some end) true = tt
going_on handle reads replies a waiting site facts gap end false = tt

-- asks or waits
pub still_going : (s : ReadsValue) → AreRead s → (site : Site) → first_of s.window.waiting ≢ None
    → IsUnfinished (window_move s.handle None s.window site s.facts)
still_going s h site some = by_waiting s.window.waiting refl some
  where
    by_gaps : (gs : List ℕ) (a : ℕ × Request) (waiting : Own) (end : Option ℕ) (go : Move) → IsUnfinished go
        → IsUnfinished (ends_or gs (replies_of s.window) (a ∷ waiting) site end go)
    by_gaps [] a waiting end go h = h
    by_gaps (g ∷ gs) a waiting end go h = h

    by_waiting : (waiting : List ReadAt) → s.window.waiting ≡ waiting → first_of waiting ≢ None
        → IsUnfinished (window_move s.handle None s.window site s.facts)
    by_waiting [] at some = absurd (some refl)
    by_waiting (r ∷ rest) at some =
        let w : Window = record { answered = s.window.answered; waiting = r ∷ rest } in
        let none : first_refusal (replies_of w) ≡ None = h.sound.unrefused in
        let a : ℕ × Request = as_request s.handle r in
        let rest_asked : Own = map (as_request s.handle) rest in
        let gap : Option ℕ = least (gaps (reads_of s.handle w) (replies_of w) (a ∷ rest_asked)) in
        let goes : IsUnfinished (going s.handle None w site s.facts) =
        going_on s.handle (reads_of s.handle w) (replies_of w) a rest_asked site s.facts gap (least_end (replies_of w))
        (nat_lt (length (a ∷ rest_asked)) s.facts.read_window) in
        let whole : IsUnfinished (window_move s.handle None w site s.facts) =
        subst (λ (o : Option (ℕ × Reply)). IsUnfinished (unless_refused o site
        (ends_or (gaps (reads_of s.handle w) (replies_of w) (a ∷ rest_asked)) (replies_of w) (a ∷ rest_asked) site
        (least_end (replies_of w)) (going s.handle None w site s.facts)))) (sym none)
        (by_gaps (gaps (reads_of s.handle w) (replies_of w) (a ∷ rest_asked)) a rest_asked (least_end (replies_of w))
        (going s.handle None w site s.facts) goes) in
        subst (λ (l : List ReadAt). IsUnfinished (window_move s.handle None
        (record { answered = s.window.answered; waiting = l }) site s.facts))
        (sym at) whole

-- and it waits only for one that is under way
pub waits_none : (handle : List ℕ) (w : Window) (site : Site) (facts : Facts) (place : ℕ) → w.waiting ≡ []
    → window_move handle None w site facts ≡ Wait place → ⊥
waits_none handle w site facts place none is =
    by_part (goes_or handle (record { answered = w.answered; waiting = [] }) site)
    (subst (λ (l : List ReadAt). window_move handle None (record { answered = w.answered; waiting = l }) site facts
    ≡ Wait place) none is)
  where
    v : Window
    v = record { answered = w.answered; waiting = [] }

    never : (gap end : Option ℕ) (room : Bool)
        → (if room then ask_more handle (reads_of handle v) (replies_of v) [] site facts gap end else
        await_first [] site) ≡ Wait place → ⊥
    never (Some p) end true e = cc
    never None None true e = cc
    never None (Some end) true e = cc
    never gap end false e = cc

    by_part : (((o : Outcome) × ((go : Move) → before_going handle v site go ≡ Done o site))
        ⊎ ((go : Move) → before_going handle v site go ≡ go)) → window_move handle None v site facts ≡ Wait place → ⊥
    by_part (inl same) e = (let clash : Done same.0 site ≡ Wait place = sym (same.1 (going handle None v site facts))
        ∙ e in cc)
    by_part (inr goes) e =
        never (least (gaps (reads_of handle v) (replies_of v) [])) (least_end (replies_of v))
        (nat_lt 0 facts.read_window)
        (sym (goes (going handle None v site facts)) ∙ e)

-- and only if no further READ may be asked
pub waits_full : (handle : List ℕ) (w : Window) (site : Site) (facts : Facts) (place : ℕ)
    → window_move handle None w site facts ≡ Wait place
    → (facts.read_window ≤ length w.waiting) ⊎ IsSome (least_end (replies_of w))
waits_full handle w site facts place is = by_part (goes_or handle w site)
  where
    long : length (under_way handle w) ≡ length w.waiting
    long = length-map w.waiting (as_request handle)

    full : (gap end : Option ℕ) (room : Bool) → nat_lt (length (under_way handle w)) facts.read_window ≡ room
        → least_end (replies_of w) ≡ end
        → (if room then ask_more handle (reads_of handle w) (replies_of w) (under_way handle w) site facts gap end else
        await_first (under_way handle w) site) ≡ Wait place
        → (facts.read_window ≤ length w.waiting) ⊎ IsSome (least_end (replies_of w))
    full (Some p) end true at known e = absurd cc
    full None None true at known e = absurd cc
    full None (Some end) true at known e = inr (subst IsSome (sym known) refl)
    full gap end false at known e = inl (grind (arith, nat_tests, at, long))

    by_part : (((o : Outcome) × ((go : Move) → before_going handle w site go ≡ Done o site))
        ⊎ ((go : Move) → before_going handle w site go ≡ go))
        → (facts.read_window ≤ length w.waiting) ⊎ IsSome (least_end (replies_of w))
    by_part (inl same) =
        (let clash : Done same.0 site ≡ Wait place = sym (same.1 (going handle None w site facts)) ∙ is in absurd cc)
    by_part (inr goes) =
        full (least (gaps (reads_of handle w) (replies_of w) (under_way handle w))) (least_end (replies_of w))
        (nat_lt (length (under_way handle w)) facts.read_window) refl refl
        (sym (goes (going handle None w site facts)) ∙ is)
