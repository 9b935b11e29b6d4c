-- Worked examples of whole files and listings, each beside a case that nearly is one.
use Rattle.std.specs.Prelude.{ℕ, ◌≡◌, List, [], ◌∷◌, codes, slice_get, refl}
use Rattle.ssh_encoding.specs.Writing.{uint32, string}
use Rattle.sftp_model.specs.declared.reply.Reply.{Reply}
use Rattle.sftp_model.specs.declared.reply.Reply.TheVariants as reply
use Rattle.sftp_model.specs.declared.request.Request.{Request}
use Rattle.sftp_model.specs.declared.request.Request.TheVariants as request
use Rattle.sftp_model.specs.declared.outcome.Outcome.TheVariants as outcome
use Rattle.sftp_model.specs.declared.slot.Move.TheVariants.{Ask, Done}
use Rattle.sftp_model.specs.Frames.{no_attributes, attributes, request_body}
use Rattle.sftp_model.specs.Slots.{fresh_site}
use Rattle.plan_model.specs.Moves.{Answers}
use Rattle.plan_model.specs.declared.call.Call.TheVariants as call
use Rattle.plan_model.specs.CallPlans.{site_after_cancel, next}
use Rattle.sftp_model.specs.Answers.{status}
use Rattle.plan_model.specs.PlanWords.{entry, handle, granted, at, write_at, bare, refused_with}

-- The replies to the call's first requests, in order; the OPEN is at place 0.
abbrev replies : List Reply → Answers
replies taken place = slice_get taken place

abbrev got : List ℕ → Reply
got bytes = reply.Content bytes

-- ---- Fs_write

abbrev made : ℕ × Request
made = (0, request.OpenFile (codes "a") (record { 0 = 26 }) no_attributes)

pub fs_write_opens : next (call.FsWrite (codes "a") (codes "xyz")) fresh_site bare [] (replies []) ≡ Ask made.1
unfolding request_body string uint32 attributes
fs_write_opens = refl

pub fs_write_joined : next (call.FsWrite (codes "a") (codes "xyz")) (record fresh_site { directory = codes "d" }) bare
    [] (replies []) ≡ Ask (request.OpenFile (codes "d/a") (record { 0 = 26 }) no_attributes)
unfolding request_body string uint32 attributes
fs_write_joined = refl

pub fs_write_refused : next (call.FsWrite (codes "a") (codes "xyz")) (at 5) bare (made ∷ []) (replies (status 3 ∷ []))
    ≡ Done (refused_with 3) (at 5)
fs_write_refused = refl

pub fs_write_asks : next (call.FsWrite (codes "a") (codes "xyz")) fresh_site bare (made ∷ []) (replies (granted ∷ []))
    ≡ Ask (request.Write handle 0 (codes "xy"))
fs_write_asks = refl

pub fs_write_asks_rest : next (call.FsWrite (codes "a") (codes "xyz")) fresh_site bare
    (made ∷ write_at 1 0 (codes "xy") ∷ []) (replies (granted ∷ status 0 ∷ []))
    ≡ Ask (request.Write handle 2 (codes "z"))
fs_write_asks_rest = refl

-- The slots are unchanged.
pub fs_write_done : next (call.FsWrite (codes "a") (codes "xyz")) (at 5) bare
    (made ∷ write_at 1 0 (codes "xy") ∷ write_at 2 2 (codes "z") ∷ []) (replies (granted ∷ status 0 ∷ status 0 ∷ []))
    ≡ Done outcome.Done (at 5)
fs_write_done = refl

-- An empty file is opened too.
pub fs_write_of_none : next (call.FsWrite (codes "a") []) fresh_site bare (made ∷ []) (replies (granted ∷ []))
    ≡ Done outcome.Done fresh_site
fs_write_of_none = refl

pub fs_write_part_refused : next (call.FsWrite (codes "a") (codes "xyz")) fresh_site bare
    (made ∷ write_at 1 0 (codes "xy") ∷ []) (replies (granted ∷ status 4 ∷ [])) ≡ Done (refused_with 4) fresh_site
fs_write_part_refused = refl

pub fs_write_cancelled : site_after_cancel (call.FsWrite (codes "a") (codes "xyz")) (at 5) bare
    (made ∷ write_at 1 0 (codes "xy") ∷ []) (replies (granted ∷ status 0 ∷ [])) ≡ at 5
fs_write_cancelled = refl

-- ---- List

abbrev opened : ℕ × Request
opened = (0, request.Opendir (codes "/"))

abbrev further : ℕ → ℕ × Request
further place = (place, request.Readdir handle)

abbrev x : Reply
x = reply.Names (entry (codes "x") ∷ [])

pub list_opens : next (call.List (codes "/") 3) fresh_site bare [] (replies []) ≡ Ask opened.1
unfolding request_body string uint32
list_opens = refl

pub list_asks : next (call.List (codes "/") 3) fresh_site bare (opened ∷ []) (replies (granted ∷ []))
    ≡ Ask (request.Readdir handle)
list_asks = refl

pub list_asks_again : next (call.List (codes "/") 3) fresh_site bare (opened ∷ further 1 ∷ [])
    (replies (granted ∷ x ∷ [])) ≡ Ask (request.Readdir handle)
list_asks_again = refl

pub list_done : next (call.List (codes "/") 3) fresh_site bare (opened ∷ further 1 ∷ further 2 ∷ [])
    (replies (granted ∷ x ∷ status 1 ∷ [])) ≡ Done (outcome.Names (entry (codes "x") ∷ [])) fresh_site
list_done = refl

pub list_ends_empty : next (call.List (codes "/") 3) fresh_site bare (opened ∷ further 1 ∷ further 2 ∷ [])
    (replies (granted ∷ x ∷ reply.Names [] ∷ [])) ≡ Done (outcome.Names (entry (codes "x") ∷ [])) fresh_site
list_ends_empty = refl

-- A bound of one asks once.
pub list_asks_once : next (call.List (codes "/") 1) fresh_site bare (opened ∷ []) (replies (granted ∷ []))
    ≡ Ask (request.Readdir handle)
list_asks_once = refl

-- The bound is on the requests that brought an entry. An end within it is seen; after the bound is reached it is not
-- asked for.
pub list_given_up : next (call.List (codes "/") 1) fresh_site bare (opened ∷ further 1 ∷ [])
    (replies (granted ∷ x ∷ [])) ≡ Done outcome.GivenUp fresh_site
list_given_up = refl

pub list_refused : next (call.List (codes "/") 3) fresh_site bare (opened ∷ further 1 ∷ [])
    (replies (granted ∷ status 3 ∷ [])) ≡ Done (refused_with 3) fresh_site
list_refused = refl

-- A STATUS 1 to the OPENDIR is a refusal.
pub list_not_opened : next (call.List (codes "/") 3) fresh_site bare (opened ∷ []) (replies (status 1 ∷ []))
    ≡ Done (refused_with 1) fresh_site
list_not_opened = refl

pub list_cancelled : site_after_cancel (call.List (codes "/") 3) (at 5) bare (opened ∷ further 1 ∷ [])
    (replies (granted ∷ x ∷ [])) ≡ at 5
list_cancelled = refl
