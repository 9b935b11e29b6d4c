-- Worked examples of journals that a server of files serves and that a log shows, each beside a near miss.
use Rattle.std.specs.Prelude.{ℕ, ◌≡◌, ◌∷◌, ◌++◌, List, [], codes, Some, None, refl}
use Rattle.std.proofs.Common.{arith, ap, sym}
use Rattle.ssh_encoding.specs.Reading.{byte_at, prefix_at}
use Rattle.ssh_encoding.specs.Writing.{uint32, uint64, string}
use Rattle.sftp_model.specs.declared.config.ServerConfig.{ServerConfig}
use Rattle.sftp_model.specs.declared.reply.Reply.{Reply}
use Rattle.sftp_model.specs.declared.reply.Reply.TheVariants as reply
use Rattle.sftp_model.specs.Frames.{request_body, reply_body, attributes, reply_frame, limits_content}
use Rattle.sftp_model.specs.Readings.{extensions_at}
use Rattle.sftp_model.specs.ReplyReadings.{reply_at, reply_fields_at, version_at, handle_at}
use Rattle.machine_model.specs.Components.{components}
use Rattle.machine_model.specs.FileTree.{FileTree}
use Rattle.machine_model.specs.declared.node.Node.TheVariants as node
use Rattle.sftp_link.specs.declared.piece.Piece.{Piece}
use Rattle.sftp_link.specs.declared.piece.Piece.TheVariants.{Sent, Got}
use Rattle.session_model.specs.Shown.{ShowsExchange, hello_frame}
use Rattle.session_model.specs.Served.{ServesJournal, requests_sent, IsPicked, count_taken}
use Rattle.session_model.specs.RowWords.{send, take, open_of, handle, granted}
use Rattle.session_model.specs.JournalRows.{over, asked_open}
use Rattle.session_model.specs.SlotRows.{out_of_order}
use Rattle.session_model.specs.EntryRows.{told_limits}

-- ---- Served

abbrev pub config : ServerConfig
config = record { extensions = record { 0 = 0 }; limits = None; cut = 0 }

abbrev pub hello_file : FileTree
hello_file = record { names = (codes "a" ∷ [], node.File 0) ∷ []; files = codes "hello" ∷ []; handles = [] }

pub over_is_served : ServesJournal config [] hello_file over hello_file
unfolding components
over_is_served = (
  (
    handle 7,
    (
      (omega arith, refl),
      refl,
      (
        handle 8,
        (
          (omega arith, refl),
          refl,
          (handle 8, ((omega arith, refl), refl, refl)),
        ),
      ),
    ),
  ),
  tt,
)

-- Under another choice, and with another file, the replies are different.
abbrev handle_in : Reply → List ℕ
handle_in (reply.Handle h) = h
handle_in other = []

pub not_capped : ServesJournal config (record { refuse = 0; cap = 0 } ∷ record { refuse = 0; cap = 4 } ∷ []) hello_file
    over
    hello_file → ⊥
unfolding components
not_capped h = let g : handle 7 ≡ h.0.0 = ap handle_in h.0.1.1 in let e : reply.Content (codes "hello")
    ≡ reply.Content (codes "hell") = rw (sym g) at h.0.1.2.1.1 in absurd (clear e)
  where
    clear : reply.Content (codes "hello") ≡ reply.Content (codes "hell") → ⊥
    clear e = absurd cc

pub not_refused : ServesJournal config (record { refuse = 4; cap = 0 } ∷ []) hello_file over hello_file → ⊥
unfolding components
not_refused h = let e = h.0.1.1 in absurd cc

-- A request that isn't sent is not answered.
pub nothing_sent : requests_sent asked_open ≡ []
nothing_sent = refl

pub one_sent : requests_sent (send ∷ asked_open) ≡ (0, open_of (codes "a")) ∷ []
one_sent = refl

-- The query for limits is none of the requests that the machine answers.
pub query_is_not_counted : requests_sent told_limits ≡ []
query_is_not_counted = refl

abbrev pub with_limits : ServerConfig
with_limits = record config { limits = Some (record { packet_len = 0; read_len = 0; write_len = 0; open_handles = 0 }) }

pub limits_are_served : ServesJournal with_limits [] hello_file told_limits hello_file
unfolding limits_content uint64
limits_are_served = (refl, refl)

-- ---- Picked

-- Two replies wait, and the second comes first.
pub second_is_picked : IsPicked (1 ∷ []) out_of_order
second_is_picked = (refl, (refl, tt))

pub third_is_the_second : IsPicked (3 ∷ []) out_of_order
third_is_the_second = (refl, (refl, tt))

pub first_is_not_picked : IsPicked [] out_of_order → ⊥
first_is_not_picked h = let e = h.1.0 in absurd cc

-- The reply to the query for limits uses no pick.
pub query_is_not_picked : IsPicked (5 ∷ []) told_limits
query_is_not_picked = (tt, tt)

pub none_was_taken : count_taken told_limits ≡ 0
none_was_taken = refl

-- ---- Shown

abbrev pub hello : Reply
hello = reply.Version 3 (record { 0 = 0 })

-- The hello in one piece, VERSION in two, the OPEN in two, and the HANDLE in one.
abbrev pub log_of_open : List Piece
log_of_open =
    Got (reply_frame (granted 7) 0)
    ∷ Sent (codes "a" ++ uint32 1 ++ uint32 0) ∷ Sent (uint32 18 ++ 3 ∷ uint32 0 ++ uint32 1)
    ∷ Got (uint32 3) ∷ Got (uint32 5 ++ 2 ∷ []) ∷ Sent hello_frame ∷ []

pub log_shows : ShowsExchange hello (take 0 (granted 7) ∷ send ∷ asked_open) [] log_of_open
unfolding reply_at reply_fields_at version_at handle_at extensions_at request_body reply_body attributes byte_at
    prefix_at string uint32
log_shows = (
  Sent (codes "a" ++ uint32 1 ++ uint32 0) ∷ Sent (uint32 18 ++ 3 ∷ uint32 0 ++ uint32 1) ∷ Got (uint32 3) ∷ Got
      (uint32 5 ++ 2 ∷ []) ∷ Sent hello_frame ∷ [],
  (
    (
      Got (uint32 3) ∷ Got (uint32 5 ++ 2 ∷ []) ∷ Sent hello_frame ∷ [],
      (
        (
          Sent hello_frame ∷ [],
          (
            (Sent hello_frame ∷ [], refl, ([], refl, refl)),
            (
              uint32 5 ++ 2 ∷ uint32 3,
              (
                record { body = 2 ∷ uint32 3; framed = refl; short = omega arith; reads = refl },
                (Got (uint32 3) ∷ Got (uint32 5 ++ 2 ∷ []) ∷ [], refl, (uint32 5 ++ 2 ∷ [], refl, ([], refl, refl))),
              ),
            ),
          ),
        ),
        (
          Sent (codes "a" ++ uint32 1 ++ uint32 0) ∷ Sent (uint32 18 ++ 3 ∷ uint32 0 ++ uint32 1) ∷ [],
          refl,
          (uint32 18 ++ 3 ∷ uint32 0 ++ uint32 1, refl, ([], refl, refl)),
        ),
      ),
    ),
    (
      reply_frame (granted 7) 0,
      (
        record { body = reply_body (granted 7) 0; framed = refl; short = omega arith; reads = refl },
        (Got (reply_frame (granted 7) 0) ∷ [], refl, ([], refl, refl)),
      ),
    ),
  ),
)
