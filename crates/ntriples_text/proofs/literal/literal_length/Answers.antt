-- `literal::literal_length` meets its contract. Assumes nothing.
use mathlib.Core.Path.{refl, sym, ap, ◌∙◌}
use native.Mathlib.Omega.{arith}
use Rattle.ntriples_text.specs.Promises.{text_size}
use Rattle.ntriples_text.proofs.Texts.{split, unsplit, literal_none, literal_few, literal_measured, literal_unmeasured}
use Rattle.ntriples_text.proofs.literal.literal_length.Goals as goal

pub returns-in_err-z : goal.returns-in_err-z
returns-in_err-z c =
    let pre = c.requires in
    c.from_residual.ensures ∙ ap text_size (sym (literal_none c.args.bytes.now pre.chars pre.decodes (unsplit c.in_err-z.ensures)))

pub returns-then-not-is_suffix : goal.returns-then-not-is_suffix
returns-then-not-is_suffix c =
    literal_unmeasured (split refl c.in_ok-z.ensures) c.requires.decodes c.is_suffix.ensures c.if-not-is_suffix.true

pub overflow_add-result : goal.overflow_add-result
overflow_add-result c =
    omega (arith, literal_few (split refl c.in_ok-z.ensures) c.escaped_length.ensures c.suffix_length.ensures, c.requires.short)

pub overflow_add-result-2 : goal.overflow_add-result-2
overflow_add-result-2 c =
    omega (arith, literal_few (split refl c.in_ok-z.ensures) c.escaped_length.ensures c.suffix_length.ensures, c.requires.short)

pub returns : goal.returns
returns c =
    literal_measured (split refl c.in_ok-z.ensures) c.escaped_length.ensures c.suffix_length.ensures c.requires.decodes
    c.is_suffix.ensures c.if-not-is_suffix.false
