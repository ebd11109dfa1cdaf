use Rattle.std.proofs.Common.{sym, ◌∙◌, arith}
use Rattle.console.proofs.Digits.{digits_bad, digits_on, digits_end, number_from_digits, ten_times_more}
use Rattle.console.proofs.number.read_number.Goals as goal

pub returns-in_err-n : goal.returns-in_err-n
returns-in_err-n c =
    c.from_residual.ensures
    ∙ sym (number_from_digits c.args.word.now (λ z. omega arith) (omega arith) ∙ sym c.loop-b.invariant.0
    ∙ digits_bad c.args.word.now c.loop-b.n c.loop-b.b-index c.loop-b-test.true c.in_err-n.ensures)

pub loop-b-preserved : goal.loop-b-preserved
loop-b-preserved c =
    let d = c.in_ok-n.ensures in (
      sym (digits_on c.args.word.now c.loop-b.n c.in_ok-n.field-0 c.loop-b.b-index c.loop-b-test.true d.0 d.1 d.2) ∙ c.loop-b.invariant.0,
      ten_times_more c.loop-b.n c.in_ok-n.field-0 c.loop-b.b-index c.loop-b.invariant.1 (omega (arith, d)),
    )

pub returns : goal.returns
returns c =
    sym (number_from_digits c.args.word.now (λ z. grind (arith, c.is_empty.ensures, c.if-is_empty.false)) (omega arith) ∙ sym c.loop-b.invariant.0
    ∙ digits_end c.args.word.now c.loop-b.n c.loop-b.b-index c.loop-b-test.false)
