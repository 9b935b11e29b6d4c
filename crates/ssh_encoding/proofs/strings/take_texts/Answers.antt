use Rattle.std.proofs.Common.{rules, arith, sym, ◌∙◌, inl, inr, ◌-◌, ◌+◌}
use Rattle.std.proofs.lemmas.List.{map-append}
use Rattle.std.proofs.lemmas.Result.{err_from_is_err_and}
use Rattle.std.specs.String.{string_bytes}
use Rattle.ssh_encoding.specs.Reading.{texts_of}
use Rattle.ssh_encoding.proofs.Texts.{texts_more, texts_refused}
use Rattle.ssh_encoding.proofs.strings.take_texts.Goals as goal

pub loop-i-preserved : goal.loop-i-preserved
loop-i-preserved g c =
    let more = texts_more (texts_of c.loop-i.texts.items) (c.remaining_len-most.result - c.loop-i.i)
    (c.remaining_len-most.result - (c.loop-i.i + 1)) (g.R.Reader.left c.loop-i.reader)
    (string_bytes c.in_ok-text.text) (g.R.Reader.left c.decode.new.reader) (omega arith) (search rules)
    c.in_ok-text.ensures.read in
    rw (c.in_ok-push.ensures.items, map-append) (sym more ∙ c.loop-i.invariant)

pub returns-in_err-text : goal.returns-in_err-text
returns-in_err-text g c =
    let p = err_from_is_err_and c.from_residual.result c.from_residual.ensures.1 in
    rw (p.1, p.2) (elim c.in_err-text.ensures.read [
      | inl m ↦ inl m
      | inr r ↦ inr (rw (← c.remaining_len-most.ensures) (sym c.loop-i.invariant
          ∙ texts_refused (texts_of c.loop-i.texts.items) (c.remaining_len-most.result - c.loop-i.i)
          (c.remaining_len-most.result - (c.loop-i.i + 1)) (g.R.Reader.left c.loop-i.reader) c.in_err-text.field-0.0
          (grind arith) (search rules) r))
    ])
