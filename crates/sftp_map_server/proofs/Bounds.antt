-- The bodies of replies are within the bound.
use Rattle.std.proofs.Common.{ℕ, ◌≡◌, ◌==◌, ◌^◌, ◌<◌, ◌≤◌, ◌+◌, Bool, true, false, List, [], ◌∷◌, ◌++◌, length, Option, Some, None, if◌then◌else◌, refl, sym, arith, lit<}
use Rattle.std.specs.Prelude.{codes}
use Rattle.std.specs.Int.RustNames.{bit_and}
use Rattle.std.proofs.lemmas.Bool.Decides.{nat_tests}
use Rattle.std.proofs.lemmas.List.{length-append}
use Rattle.ssh_encoding.specs.Writing.{uint32, string}
use Rattle.sftp_model.specs.declared.config.Choice.{Choice}
use Rattle.sftp_model.specs.declared.config.Limits.{Limits}
use Rattle.sftp_model.specs.declared.config.ServerConfig.{ServerConfig}
use Rattle.sftp_model.specs.declared.reply.Reply.{Reply}
use Rattle.sftp_model.specs.declared.request.Request.{Request}
use Rattle.sftp_model.specs.declared.request.Request.TheVariants as request
use Rattle.sftp_model.specs.Answers.{is_handle, status}
use Rattle.sftp_model.specs.Numbers.{MAX_BODY_LEN, SSH_FX_FAILURE}
use Rattle.sftp_model.specs.Frames.{extension_pair, extension_pairs, extension_table, reply_body}
use Rattle.machine_model.specs.FirstTree.{first_tree}
use Rattle.machine_model.specs.FitTrees.{GivesWithin, IsFit}
use Rattle.machine_model.specs.HandleRequests.{Answer}
use Rattle.machine_model.specs.TreeAnswers.{apply, limits_reply}
use Rattle.machine_model.proofs.FirstFits.{first_fits}
use Rattle.machine_model.proofs.ReplyFits.{body_within}
use Rattle.machine_model.proofs.ReplyLaws.{tree_replies}
use Rattle.machine_tree.specs.Numbers.{numbered_handle}
use Rattle.machine_answers.specs.MachineState.{MachineState, answer, with_grant, with_tree, MAX_HANDLES}
use Rattle.sftp_map_server.specs.Serving.{gives_within, is_query, told_bits, version_reply}

-- ---- what is served

-- a READ's length and cap are within the limit where the test says so
pub within_of : (r : Request) (choice : Choice) → gives_within r choice ≡ true → GivesWithin choice.cap r
within_of (request.Read handle offset len) choice e = grind (arith, nat_tests)
within_of other choice e = tt

of_within : (r : Request) (choice : Choice) → GivesWithin choice.cap r → gives_within r choice ≡ true
of_within (request.Read handle offset len) choice h = grind (arith, nat_tests)
of_within other choice h = refl

not_within : (r : Request) (choice : Choice) (b : Bool) → gives_within r choice ≡ b → (GivesWithin choice.cap r → ⊥)
    → false ≡ b
not_within r choice true e over = absurd (over (within_of r choice e))
not_within r choice false e over = refl

-- two tests of the same
pub same_test : (r : Request) (choice : Choice) (b : Bool) → (b ≡ true → GivesWithin choice.cap r)
    → (b ≡ false → GivesWithin choice.cap r → ⊥) → b ≡ gives_within r choice
same_test r choice true holds fails = sym (of_within r choice (holds refl))
same_test r choice false holds fails = not_within r choice (gives_within r choice) refl (fails refl)

by_flags : (state : MachineState) (x : Answer) (grant full : Bool) (id : ℕ)
    → length (reply_body (status SSH_FX_FAILURE) id) ≤ MAX_BODY_LEN → length (reply_body x.0 id) ≤ MAX_BODY_LEN
    → length (reply_body (if grant then (if full then (let p : Reply × MachineState = (status SSH_FX_FAILURE, state) in
    p) else (x.0, with_grant state x.1)) else (x.0, with_tree state x.1)).0 id) ≤ MAX_BODY_LEN
by_flags state x true true id refused said = refused
by_flags state x true false id refused said = said
by_flags state x false full id refused said = said

-- the body of a machine's reply is within the bound
pub served_within : (state : MachineState) (r : Request) (choice : Choice) (id : ℕ) → IsFit state.tree
    → choice.refuse < 2 ^ 32 → GivesWithin choice.cap r → length (reply_body (answer state r choice).0 id) ≤
    MAX_BODY_LEN
served_within state r choice id fit code within =
    let x : Answer = apply state.tree state.config r choice (numbered_handle state.grants) in
    let refused = body_within (status SSH_FX_FAILURE) id (lit< tt, refl, refl) in
    let said = body_within x.0 id (tree_replies state.tree state.config r choice (numbered_handle state.grants) fit
    (omega arith) code within).said in
    by_flags state x (is_handle x.0) (state.grants == MAX_HANDLES) id refused said

-- ---- limits

-- a choice that refuses nothing and caps nothing
abbrev open_choice : Choice
open_choice = record { refuse = 0; cap = 0 }

counted_limits : (state : MachineState) (limits : Option Limits)
    → (if is_handle (limits_reply limits) then (if state.grants == MAX_HANDLES then
    (let p : Reply × MachineState = (status SSH_FX_FAILURE, state) in p) else
    (limits_reply limits, with_grant state state.tree)) else (limits_reply limits, with_tree state state.tree)).0
    ≡ limits_reply limits
counted_limits state None = refl
counted_limits state (Some limits) = refl

-- the query is answered by the limits
pub query_answered : (state : MachineState) (r : Request) → is_query r ≡ true
    → (answer state r (record { refuse = 0; cap = 0 })).0 ≡ limits_reply state.config.limits
query_answered state request.LimitsQuery e = counted_limits state state.config.limits
query_answered state other e = absurd cc

-- their body is within the bound
pub limits_within : (config : ServerConfig) (id : ℕ) → length (reply_body (limits_reply config.limits) id) ≤
    MAX_BODY_LEN
limits_within config id = body_within (limits_reply config.limits) id
    (tree_replies (first_tree [] []) config request.LimitsQuery open_choice [] (first_fits [] [] refl) (omega arith)
    (lit< tt) tt).said

-- ---- VERSION

len_number : (n : ℕ) → length (uint32 n) ≡ 4
unfolding uint32
len_number n = refl

len_string : (s : List ℕ) → length (string s) ≡ 4 + length s
unfolding string
len_string s = let l = length-append (uint32 (length s)) s in let n = len_number (length s) in omega (arith, l, n)

pair_within : (b : Bool) (name : List ℕ) → length (if b then [] else string name ++ string (codes "1")) ≤ 9 + length
    name
pair_within true name = omega arith
pair_within false name = let a = length-append (string name) (string (codes "1")) in let l = len_string name in
    let m : length (string (codes "1")) ≡ 5 = len_string (codes "1") in omega (arith, a, l, m)

abbrev room : List (List ℕ × ℕ) → ℕ
room [] = 0
room (row ∷ table) = (9 + length row.0) + room table

pairs_within : (set : ℕ) (table : List (List ℕ × ℕ)) → length (extension_pairs set table) ≤ room table
pairs_within set [] = omega arith
pairs_within set (row ∷ table) =
    let a = length-append (extension_pair set row) (extension_pairs set table) in
    let p : length (extension_pair set row) ≤ 9 + length row.0 = pair_within (bit_and set row.1 == 0) row.0 in
    let i = pairs_within set table in
    omega (arith, a, p, i)

-- VERSION's body is within the bound
pub version_within : (config : ServerConfig) (id : ℕ) → length (reply_body (version_reply config) id) ≤ MAX_BODY_LEN
unfolding reply_body
version_within config id =
    let set = told_bits config.extensions.0 config.limits in
    let a = length-append (uint32 3) (extension_pairs set extension_table) in
    let n = len_number 3 in
    let p : length (extension_pairs set extension_table) ≤ 165 = pairs_within set extension_table in
    omega (arith, a, n, p)
