-- The server in memory serves the lanes of a session.
use Rattle.std.proofs.Common.{◌≡◌, ◌<◌, ◌≤◌, ℕ, Bool, true, List, [], ◌∷◌, ◌++◌, length, Option, Some, None, refl, ap, sym, ◌∙◌, subst, arith, inl, inr}
use Rattle.sftp_model.specs.declared.flags.Extensions.{Extensions}
use Rattle.sftp_model.specs.Numbers.{MAX_TRANSFER_LEN}
use Rattle.sftp_model.specs.Lengths.{session_len, offers_limits}
use Rattle.sftp_model.specs.declared.options.SftpOptions.{SftpOptions}
use Rattle.sftp_link.specs.declared.piece.Piece.{Piece}
use Rattle.sftp_link.specs.Log.{GotOn}
use Rattle.session_driver.specs.Session.{SessionInputs}
use Rattle.machine_answers.specs.WaitingFrames.{WaitingFrames, with_next_picked}
use Rattle.plan_model.specs.declared.call.Lane.{Lane}
use Rattle.session_model.specs.declared.entry.Entry.{Entry}
use Rattle.session_model.specs.Journals.{IsJournal}
use Rattle.session_model.specs.Settings.{version_reply_of, setting_of}
use Rattle.session_model.specs.Shown.{ShowsExchange}
use Rattle.sftp_map_server.specs.Serving.{ServerState, IsServed, Server, fresh_server, told_bits}
use Rattle.session_driver.specs.ServingLinks.{GivesGood, IsAllowed, IsOne, IsVersion, Read, ServesLanes}
use Rattle.machine_laws.proofs.Feeding.{Given as GivenBy, got_front, still_turned}
use Rattle.plan_model.specs.Lanes.{are_ok}
use Rattle.machine_laws.proofs.Sound.{IsSound, shows_takes, sound}
use Rattle.machine_laws.proofs.Replying.{told_right}
use Rattle.machine_laws.proofs.Owing.{tells_of}
use Rattle.machine_laws.proofs.Picking.{Ready}
use Rattle.machine_laws.proofs.Showing.{IsFirst, hello_ready, ready, shows_version}

-- ---- the session's setting

len_within : (most : Option ℕ) (len : ℕ) → session_len most len ≤ MAX_TRANSFER_LEN
len_within None len = omega arith
len_within (Some most) len = omega arith

len_some : (most : Option ℕ) (len : ℕ) → 1 ≤ session_len most len
len_some None len = omega arith
len_some (Some most) len = omega arith

-- each request of a session that the server greeted fits
pub sound_at : (lanes : List Lane) (options : SftpOptions) (extensions : Extensions) (f : ServerState) (picks : List ℕ)
    (past : List Entry) (log : List Piece) (now : Server) → IsFirst f → are_ok lanes ≡ true
    → IsJournal (setting_of lanes options extensions past) past
    → ShowsExchange (version_reply_of extensions) past [] log
    → IsServed (fresh_server f picks) log now → IsSound (tells_of f) past
sound_at lanes options extensions f picks past log now first ok j shown served =
    let is = shows_version f picks (version_reply_of extensions) past log now first shown served in
    let same : extensions ≡ record { 0 = told_bits f.machine.config.extensions.0 f.machine.config.limits } = cc in
    let told = (told_right f.machine.config.extensions.0 f.machine.config.limits first.known).1 in
    sound (setting_of lanes options extensions past) (tells_of f) past
    (λ e. sym told ∙ (ap offers_limits (sym same) ∙ e)) ok (record {
      some = len_some options.max_read_len _;
      read_len = len_within options.max_read_len _;
      write_len =
          len_within options.max_write_len _;
      read_window = omega arith;
    }) j
    (shows_takes (version_reply_of extensions) past [] log shown)

-- ---- the server in memory

turned_none : (o : WaitingFrames) → (with_next_picked o).ready ≡ [] → o.ready ≡ []
turned_none o e = by_ready o.ready refl
  where
    by_ready : (ready : List ℕ) → o.ready ≡ ready → o.ready ≡ []
    by_ready [] is = is
    by_ready (b ∷ ready) is = sym (ap (λ (w : WaitingFrames). w.ready)
        (still_turned o (subst (λ (x : List ℕ). 0 < length x) (sym is) (omega arith)))) ∙ e

-- what was given is the front of what was to be given next
good_by : (good : Read → Type 0) (ended : Bool) (mid now : Server) (bytes : List ℕ)
    → (ended ≡ true → (with_next_picked now.output).ready ≡ []) → Ready good mid.output → GivenBy mid bytes now
    → GivesGood good bytes ended
good_by good ended mid now bytes none r (inl same) = record {
  body = r.whole.body;
  read = r.read;
  rest = r.whole.rest;
  tail = (with_next_picked mid.output).ready;
  framed = ap (λ (w : List ℕ). w ++ (with_next_picked mid.output).ready) same.0 ∙ r.whole.framed;
  some = r.whole.some;
  short = r.whole.short;
  reads = r.reads;
  is_good = r.is_good;
  whole = λ over. ap (λ (w : Server). (with_next_picked w.output).ready) (sym same.1) ∙ none over;
}
good_by good ended mid now bytes none r (inr p) = record {
  body = r.whole.body;
  read = r.read;
  rest = r.whole.rest;
  tail = now.output.ready;
  framed = sym p.ready ∙ r.whole.framed;
  some = r.whole.some;
  short = r.whole.short;
  reads = r.reads;
  is_good = r.is_good;
  whole = λ over. turned_none now.output (none over);
}

came : (f : ServerState) (picks : List ℕ) (good : Read → Type 0) (ended : Bool) (mid after : List Piece)
    (bytes : List ℕ)
    (now : Server) → ((m : Server) → IsServed (fresh_server f picks) mid m → Ready good m.output)
    → IsServed (fresh_server f picks) after now → (ended ≡ true → (with_next_picked now.output).ready ≡ [])
    → GotOn mid after bytes → IsOne bytes → GivesGood good bytes ended
came f picks good ended mid after bytes now can served none got one =
    let g = got_front (fresh_server f picks) now mid got.0 bytes got.2 one
    (subst (λ (w : List Piece). IsServed (fresh_server f picks) w now) got.1 served) in
    let r = can g.0 g.1.0 in
    good_by good ended g.0 now bytes none r (g.1.1 r.whole)

-- a server in memory serves
pub serves_lanes : (given : SessionInputs) (f : ServerState) (picks : List ℕ) (ended : Bool) (log : List Piece)
    (now : Server)
    → IsFirst f → are_ok given.lanes ≡ true → IsServed (fresh_server f picks) log now
    → (ended ≡ true → (with_next_picked now.output).ready ≡ []) → ServesLanes given log ended
serves_lanes given f picks ended log now first ok served none = record {
  greets = λ before bytes was_sent got one. came f picks IsVersion ended before log bytes now
      (λ m v. hello_ready f picks before m first was_sent v) served none got one;
  replies = λ extensions past before bytes j shown some got one.
      came f picks (IsAllowed past) ended before log bytes now
      (λ m v. ready (setting_of given.lanes given.options extensions past) f picks (version_reply_of extensions) past
      before m
      first j (sound_at given.lanes given.options extensions f picks past before m first ok j shown v) shown v some)
      served none got one;
}
