-- believed
-- The whole read of a file, with several READs in flight. Its READs are in the order of their places, each with its
-- offset and the length asked for.
use Rattle.std.specs.Prelude.{
  ℕ,
  ◌+◌,
  ◌-◌,
  ◌==◌,
  Bool,
  true,
  false,
  not,
  ◌&&◌,
  min,
  max,
  List,
  [],
  ◌∷◌,
  ◌++◌,
  length,
  map,
  filter,
  filter_map,
  flat_map,
  find,
  Option,
  Some,
  None,
  is_some,
  unwrap_or,
  nat_lt,
  nat_le,
  if◌then◌else◌,
}
use Rattle.std.specs.List.{list_any}
use Rattle.sftp_model.specs.Numbers.{SSH_FXF_READ}
use Rattle.sftp_model.specs.declared.flags.OpenFlags.{OpenFlags}
use Rattle.sftp_model.specs.declared.request.Request.{Request}
use Rattle.sftp_model.specs.declared.request.Request.TheVariants as request
use Rattle.sftp_model.specs.declared.reply.Reply.{Reply}
use Rattle.sftp_model.specs.declared.reply.Reply.TheVariants as reply
use Rattle.sftp_model.specs.declared.outcome.Outcome.TheVariants as outcome
use Rattle.sftp_model.specs.declared.slot.Facts.{Facts}
use Rattle.sftp_model.specs.declared.slot.Move.{Move}
use Rattle.sftp_model.specs.declared.slot.Move.TheVariants.{Ask, Wait, Done}
use Rattle.sftp_model.specs.Answers.{is_end_of_file}
use Rattle.sftp_model.specs.declared.slot.Site.{Site}
use Rattle.plan_model.specs.Moves.{Answers, Own, Plan, ask_path, refusal_move}
use Rattle.plan_model.specs.PathPlans.{from_directory}
use Rattle.plan_model.specs.FilePlans.{open_request}
use Rattle.plan_model.specs.TransferPlans.{offset_asked}
use Rattle.plan_model.specs.WholePlans.{once_opened}

-- ---- The READs and their replies

-- The offset of a READ, and the number of bytes that it asks for.
abbrev pub begins : ℕ × Request → ℕ
begins asked = offset_asked 0 asked.1

abbrev pub len_asked : Request → ℕ
len_asked (request.Read handle offset len) = len
len_asked other = 0

-- An answered READ comes before the rest of the prefix; one that is not answered ends it.
abbrev pub answered_then : ℕ → Option Reply → List (ℕ × Reply) → List (ℕ × Reply)
answered_then offset None rest = []
answered_then offset (Some r) rest = (offset, r) ∷ rest

-- The prefix: the longest prefix of the READs that are all answered, the offset of each with its reply.
abbrev pub answered_prefix : Own → Answers → List (ℕ × Reply)
answered_prefix [] answers = []
answered_prefix (asked ∷ later) answers = answered_then (begins asked) (answers asked.0) (answered_prefix later answers)

-- The READs outside the prefix.
abbrev pub outside : Own → Answers → Own
outside [] answers = []
outside (asked ∷ later) answers = if is_some (answers asked.0) then outside later answers else asked ∷ later

-- The bytes of a DATA, and their offset.
abbrev pub content_at : ℕ × Reply → Option (ℕ × List ℕ)
content_at got = of_reply got.1
  where
    of_reply : Reply → Option (ℕ × List ℕ)
    of_reply (reply.Content bytes) = Some (got.0, bytes)
    of_reply other = None

-- The DATA of the prefix, each with its offset.
abbrev pub contents : List (ℕ × Reply) → List (ℕ × List ℕ)
contents replies = filter_map content_at replies

abbrev pub brings_content : Reply → Bool
brings_content (reply.Content bytes) = true
brings_content other = false

-- The first READ of the prefix that was refused.
abbrev pub first_refusal : List (ℕ × Reply) → Option (ℕ × Reply)
first_refusal replies = find (λ got. not (brings_content got.1) && not (is_end_of_file got.1)) replies

-- ---- Numbers

abbrev pub lesser : ℕ → Option ℕ → Option ℕ
lesser n None = Some n
lesser n (Some m) = Some (min n m)

abbrev pub least : List ℕ → Option ℕ
least [] = None
least (n ∷ ns) = lesser n (least ns)

abbrev pub greatest : List ℕ → ℕ
greatest [] = 0
greatest (n ∷ ns) = max n (greatest ns)

-- ---- The end, the reach and the gaps

-- The least offset of a READ in the prefix that STATUS 1 answered.
abbrev pub least_end : List (ℕ × Reply) → Option ℕ
least_end replies = least (map (λ got. got.0) (filter (λ got. is_end_of_file got.1) replies))

-- The offset at which the bytes of a DATA end.
abbrev pub content_end : ℕ × List ℕ → ℕ
content_end got = got.0 + length got.1

-- The offset at which a READ in the prefix ends: after its bytes, or at its offset if it received none.
abbrev pub end_of_read : ℕ × Reply → ℕ
end_of_read got = unwrap_or (option_end (content_at got)) got.0
  where
    option_end : Option (ℕ × List ℕ) → Option ℕ
    option_end None = None
    option_end (Some content) = Some (content_end content)

-- The greatest sum of offset and extent: outside the prefix a READ extends as far as it asks.
abbrev pub reach : List (ℕ × Reply) → Own → ℕ
reach replies waiting = greatest (map end_of_read replies ++ map (λ asked. begins asked + len_asked asked.1) waiting)

-- True if the offset is below the end, if one is known, and otherwise below the reach.
abbrev pub is_inside : Option ℕ → ℕ → ℕ → Bool
is_inside None reach p = nat_lt p reach
is_inside (Some end) reach p = nat_lt p end

-- The ends of DATA at which no READ begins, below the end or the reach.
abbrev pub gaps : Own → List (ℕ × Reply) → Own → List ℕ
gaps reads replies waiting =
    filter (λ p. not (list_any (λ asked. begins asked == p) reads)
    && is_inside (least_end replies) (reach replies waiting) p) (map content_end (contents replies))

-- The bytes from a gap to the least offset above it at which a READ begins.
abbrev pub gap_len : Own → ℕ → ℕ
gap_len reads p = unwrap_or (least (filter (λ n. nat_lt p n) (map begins reads))) p - p

-- ---- The received bytes

-- The DATA in the order of their offsets.
abbrev pub put_in_order : ℕ × List ℕ → List (ℕ × List ℕ) → List (ℕ × List ℕ)
put_in_order got [] = got ∷ []
put_in_order got (first ∷ rest) = if nat_le got.0 first.0 then got ∷ first ∷ rest else first ∷ put_in_order got rest

abbrev pub in_order : List (ℕ × List ℕ) → List (ℕ × List ℕ)
in_order [] = []
in_order (got ∷ rest) = put_in_order got (in_order rest)

-- The DATA below the end, joined.
abbrev pub whole_content : ℕ → List (ℕ × Reply) → List ℕ
whole_content end replies = flat_map (λ got. got.1) (in_order (filter (λ got. nat_lt got.0 end) (contents replies)))

-- ---- The six moves: the first that applies

-- The first READ outside the prefix is awaited.
abbrev pub await_first : Own → Site → Move
await_first [] site = Done outcome.GivenUp site
await_first (asked ∷ later) site = Wait asked.0

-- A READ at the least gap, or otherwise one after all if no end is known.
abbrev pub ask_more : List ℕ → Own → List (ℕ × Reply) → Own → Site → Facts → Option ℕ → Option ℕ → Move
ask_more handle reads replies waiting site facts (Some p) end = Ask (request.Read handle p (gap_len reads p))
ask_more handle reads replies waiting site facts None None =
    Ask (request.Read handle (reach replies waiting) facts.read_len)
ask_more handle reads replies waiting site facts None (Some end) = await_first waiting site

-- True if the bound was reached; no bound is never reached.
abbrev pub reaches : Option ℕ → ℕ → Bool
reaches None n = false
reaches (Some bound) n = nat_le bound n

abbrev pub go_on : List ℕ → Option ℕ → Own → List (ℕ × Reply) → Own → Site → Facts → Move
go_on handle bound reads replies waiting site facts =
    if reaches bound (length (contents replies)) then Done outcome.GivenUp site
    else if nat_lt (length waiting) facts.read_window then ask_more handle reads replies waiting site facts
    (least (gaps reads replies waiting)) (least_end replies)
    else await_first waiting site

-- True if all READs are in the prefix, and there is an end and no gap.
abbrev pub ends_or : List ℕ → List (ℕ × Reply) → Own → Site → Option ℕ → Move → Move
ends_or [] replies [] site (Some end) other = Done (outcome.Bytes (whole_content end replies)) site
ends_or missing replies waiting site end other = other

abbrev pub unless_refused : Option (ℕ × Reply) → Site → Move → Move
unless_refused None site go = go
unless_refused (Some got) site go = refusal_move got.1 site

abbrev pub window_next : List ℕ → Option ℕ → Own → List (ℕ × Reply) → Own → Site → Facts → Move
window_next handle bound reads replies waiting site facts =
    unless_refused (first_refusal replies) site
    (ends_or (gaps reads replies waiting) replies waiting site (least_end replies)
    (go_on handle bound reads replies waiting site facts))

-- ---- fs_read: opened to read; the bound is on the READs that a DATA answered, and there may be none

abbrev pub to_read : OpenFlags
to_read = record { 0 = SSH_FXF_READ }

abbrev pub fs_read_next : List ℕ → Option ℕ → Site → Facts → Plan
fs_read_next path bound site facts =
    once_opened (ask_path (open_request to_read (from_directory site path)) site) site
    (λ place handle reads answers. window_next handle bound reads (answered_prefix reads answers)
    (outside reads answers) site facts)
