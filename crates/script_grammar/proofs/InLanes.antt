-- A line of a call where there is a lane, and where there is none.
use Rattle.std.proofs.Common.{◌≡◌, ◌≢◌, ◌∷◌, [], List, true, false, refl}
use Rattle.std.specs.Prelude.{Option, Some, None, Result, Ok, Err, is_some}
use Rattle.ssh_encoding.specs.Reading.{◌>>=◌}
use Rattle.plan_model.specs.declared.call.Call.{Call}
use Rattle.plan_model.specs.declared.call.Lane.{Lane}
use Rattle.script_words.specs.declared.reason.Reason.{Reason}
use Rattle.script_words.specs.declared.reason.Reason.TheVariants as reason
use Rattle.script_words.specs.declared.error.LineError.{LineError}
use Rattle.script_words.specs.declared.error.LineError.TheVariants as line
use Rattle.script_words.specs.Refusals.{RefusesLine, RefusesIn}
use Rattle.script_words.specs.Lines.{map_ok}
use Rattle.script_grammar.specs.Setup.{Draft}
use Rattle.ssh_encoding.specs.Writing.{or_else}
use Rattle.script_grammar.specs.Scripts.{call_line, in_lane, with_call}

-- fields that are refused refuse their call
pub fields_refuse : {A B : Type 0} (f : A → B) (read : Result A Reason) (e : LineError) → RefusesLine read e
    → RefusesLine (map_ok f read) e
fields_refuse f read line.OutOfMemory refused = tt
fields_refuse f read (line.Refused why) refused = rw refused refl

-- what is refused is a call
pub refused_call : (read : Option (Result Call Reason)) (e : LineError) → RefusesIn read e → is_some read ≡ true
refused_call None e refused = absurd refused
refused_call (Some read) e refused = refl

-- the one of two tables that refuses
pub first_refuses : (first second : Option (Result Call Reason)) (e : LineError) → RefusesIn first e
    → RefusesIn (or_else first second) e
first_refuses None second e refused = absurd refused
first_refuses (Some read) second e refused = refused

-- ---- without a lane

pub no_lane : (d : Draft) (read : Option (Result Call Reason)) → d.script.lanes ≡ [] → is_some read ≡ true
    → call_line d read ≡ Err reason.Lane
no_lane d None none is = absurd cc
no_lane d (Some read) none is = rw none refl

pub no_call : (d : Draft) (read : Option (Result Call Reason)) → is_some read ≡ false → call_line d read
    ≡ Err reason.Word
no_call d None is = refl
no_call d (Some read) is = absurd cc

-- ---- in a lane

in_some : (d : Draft) (lanes : List Lane) (read : Result Call Reason) → lanes ≢ [] → in_lane d lanes read
    ≡ (read >>= λ c. Ok (with_call d c))
in_some d [] read some = absurd (some refl)
in_some d (lane ∷ lanes) read some = refl

pub call_read : (d : Draft) (read : Option (Result Call Reason)) (c : Call) → d.script.lanes ≢ [] → read ≡ Some (Ok c)
    → call_line d read ≡ Ok (with_call d c)
call_read d read c some e = rw (e, in_some d d.script.lanes (Ok c) some) refl

pub call_refuses : (d : Draft) (read : Option (Result Call Reason)) (e : LineError) → d.script.lanes ≢ []
    → RefusesIn read e → RefusesLine (call_line d read) e
call_refuses d None e some refused = absurd refused
call_refuses d (Some read) line.OutOfMemory some refused = tt
call_refuses d (Some read) (line.Refused why) some refused = rw (in_some d d.script.lanes read some, refused) refl
