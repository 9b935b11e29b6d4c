-- The lines of a journal name no id.
use Rattle.std.proofs.Common.{◌≡◌, ℕ, List, [], ◌∷◌, ◌++◌, refl, ap, sym, ◌∙◌}
use Rattle.std.specs.Prelude.{codes}
use Rattle.std.specs.List.{flat_map}
use Rattle.std.proofs.lemmas.Grind.{flat_map-append}
use Rattle.std.proofs.lemmas.List.Concat.{flat_map-cons}
use Rattle.ssh_encoding.specs.Writing.{uint32}
use Rattle.sftp_model.specs.declared.request.Request.{Request}
use Rattle.sftp_model.specs.declared.request.Request.TheVariants as request
use Rattle.sftp_model.specs.Frames.{request_body}
use Rattle.session_model.specs.declared.event.Event.TheVariants.{Submit, Send, Take}
use Rattle.session_model.specs.declared.entry.Entry.{Entry}
use Rattle.session_model.specs.declared.entry.Entry.TheVariants as entry
use Rattle.session_model.specs.Readings.{count_submitted, unsent_requests}
use Rattle.script_text.specs.Texts.{line, request_word, hex_word, fields_of, request_line, reply_line, frame_lines}
use Rattle.run_laws.proofs.Placed.{placed}

body_same : (i j : ℕ) (r : Request) → fields_of (request_body r i) ≡ fields_of (request_body r j)
unfolding request_body uint32
body_same i j (request.Init version) = refl
body_same i j (_) = refl

line_same : (i j : ℕ) (r : Request) → request_line (i, r) ≡ request_line (j, r)
line_same i j r = ap (λ (fields : List ℕ). line (codes "> " ++ request_word r ++ codes " " ++ hex_word fields))
    (body_same i j r)

one_line : (i j : ℕ) (r : Request) → flat_map request_line ((i, r) ∷ []) ≡ flat_map request_line ((j, r) ∷ [])
one_line i j r =
    flat_map-cons request_line (i, r) [] ∙ (ap (λ (l : List ℕ). l ++ flat_map request_line []) (line_same i j r)
    ∙ sym (flat_map-cons request_line (j, r) []))

unsent_lines : (past : List Entry) → flat_map request_line (unsent_requests (placed past))
    ≡ flat_map request_line (unsent_requests past)
unsent_lines [] = refl
unsent_lines (entry.Event (Submit by id r) ∷ past) =
    flat_map-append request_line (unsent_requests (placed past)) ((count_submitted past, r) ∷ [])
    ∙ ((λ i. unsent_lines past i ++ one_line (count_submitted past) id r i)
    ∙ sym (flat_map-append request_line (unsent_requests past) ((id, r) ∷ [])))
unsent_lines (entry.Event Send ∷ past) = refl
unsent_lines (_ ∷ past) = unsent_lines past

pub placed_lines : (past : List Entry) → frame_lines (placed past) ≡ frame_lines past
placed_lines [] = refl
placed_lines (entry.Event Send ∷ past) = λ i. placed_lines past i ++ unsent_lines past i
placed_lines (entry.Event (Take id r) ∷ past) = λ i. placed_lines past i ++ reply_line r
placed_lines (_ ∷ past) = placed_lines past
