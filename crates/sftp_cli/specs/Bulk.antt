-- believed
-- The script that three numbers make: a start, the number of lanes, and the number of calls of each lane.
use Rattle.std.specs.Prelude.{
  ℕ,
  zero,
  suc,
  ◌+◌,
  ◌*◌,
  ◌/◌,
  ◌%◌,
  ◌^◌,
  ◌==◌,
  nat_lt,
  List,
  [],
  ◌∷◌,
  ◌++◌,
  Some,
  if◌then◌else◌,
}
use Rattle.ssh_encoding.specs.Writing.{uint32}
use Rattle.sftp_model.specs.Options.{default_options}
use Rattle.sftp_model.specs.declared.config.Choice.{Choice}
use Rattle.sftp_model.specs.declared.config.ServerConfig.{ServerConfig}
use Rattle.plan_model.specs.declared.call.Call.{Call}
use Rattle.plan_model.specs.declared.call.Call.TheVariants as call
use Rattle.plan_model.specs.declared.call.Lane.{Lane}
use Rattle.script_grammar.specs.declared.script.Script.{Script}
use Rattle.session_model.specs.declared.turn.Turn.{Turn}
use Rattle.session_model.specs.declared.turn.Turn.TheVariants as turn

-- ---- Draws

-- The number that a draw makes of the one before it.
unfoldable pub next_drawn_number : ℕ → ℕ
next_drawn_number x = (x * 6364136223846793005 + 1442695040888963407) % 2 ^ 64

-- The value of the draw that made this number.
unfoldable pub value_of : ℕ → ℕ
value_of x = x / 2 ^ 33

-- A drawn value after a number, and the number that is passed on.
abbrev pub RandomDraw : Type 0 → Type 0
RandomDraw A = ℕ → A × ℕ

-- The draw of one value.
abbrev pub draw : RandomDraw ℕ
draw x = (value_of (next_drawn_number x), next_drawn_number x)

-- A value without a draw.
abbrev pub give : {A : Type 0} → A → RandomDraw A
give a x = (a, x)

-- The first draw, and then the draw that depends on its value.
infixl 10 ◌>>=◌
abbrev pub ◌>>=◌ : {A B : Type 0} → RandomDraw A → (A → RandomDraw B) → RandomDraw B
first >>= next = λ x. next (first x).0 (first x).1

-- One draw for each of n numbers from k on, in their order.
unfoldable pub each : {A : Type 0} → (ℕ → RandomDraw A) → ℕ → ℕ → RandomDraw (List A)
each one k zero = give []
each one k (suc n) = do
  a ← one k
  later ← each one (k + 1) n
  give (a ∷ later)

-- n draws of one kind.
abbrev pub times : {A : Type 0} → ℕ → RandomDraw A → RandomDraw (List A)
times n one = each (λ k. one) 0 n

-- ---- Calls

-- The most READs of a whole read.
abbrev pub READ_BOUND : ℕ
READ_BOUND = 10000

-- Four bytes for the lane, and one for the third and fourth lowest bits of a value.
abbrev pub name_of : ℕ → ℕ → List ℕ
name_of lane v = uint32 lane ++ (v / 4) % 4 ∷ []

-- n bytes, which count up from a number.
unfoldable pub counting_bytes : ℕ → ℕ → List ℕ
counting_bytes w zero = []
counting_bytes w (suc n) = w % 256 ∷ counting_bytes (w + 1) n

-- The content that is written to a file.
abbrev pub content_of : ℕ → List ℕ
content_of w = counting_bytes w (w % 10000)

-- The call that a value chooses.
abbrev pub call_by : ℕ → ℕ → RandomDraw Call
call_by lane v =
    if nat_lt (v % 4) 2 then (draw >>= λ w. give (call.FsWrite (name_of lane v) (content_of w)))
    else if v % 4 == 2 then give (call.FsRead (name_of lane v) READ_BOUND)
    else give (call.Stat (name_of lane v))

-- A call of a lane.
abbrev pub call_of : ℕ → RandomDraw Call
call_of lane = draw >>= call_by lane

-- A lane by its number, with all of its calls.
abbrev pub lane_of : ℕ → ℕ → RandomDraw Lane
lane_of calls lane = times calls (call_of lane) >>= λ made. give (record { calls = made })

-- ---- Turns, choices and picks

-- The number of turns, of choices and of picks.
abbrev pub count_of : ℕ → ℕ → ℕ
count_of lanes calls = 4 * (lanes * calls)

-- The turn of a number: a step of a lane, a flush or a take.
abbrev pub turn_at : ℕ → ℕ → Turn
turn_at lanes t = if nat_lt t lanes then turn.Step t else if t == lanes then turn.Flush else turn.Take

-- A turn.
abbrev pub turn_of : ℕ → RandomDraw Turn
turn_of lanes = draw >>= λ v. give (turn_at lanes (v % (lanes + 2)))

-- A choice, which refuses nothing.
abbrev pub choice : RandomDraw Choice
choice = draw >>= λ v. give (record { refuse = 0; cap = v % 2000 })

-- ---- The whole script

-- The extensions and limits that the server reports.
abbrev pub bulk_server : ServerConfig
bulk_server = record {
  extensions = record { 0 = 0 };
  limits = Some (record { packet_len = 262144; read_len = 1000; write_len = 1000; open_handles = 0 });
  cut = 0;
}

-- A script over a server without files.
abbrev pub script_with : List Lane → List Turn → List Choice → List ℕ → Script
script_with lanes turns choices picks = record {
  options = default_options;
  server = bulk_server;
  files = [];
  dirs = [];
  choices = choices;
  picks = picks;
  lanes = lanes;
  turns = turns;
}

-- A script, drawn part by part.
abbrev pub script_of : ℕ → ℕ → RandomDraw Script
script_of lanes calls = do
  made ← each (lane_of calls) 0 lanes
  turns ← times (count_of lanes calls) (turn_of lanes)
  choices ← times (count_of lanes calls) choice
  picks ← times (count_of lanes calls) draw
  give (script_with made turns choices picks)

abbrev pub bulk_script : ℕ → ℕ → ℕ → Script
bulk_script start lanes calls = (script_of lanes calls start).0
