use Rattle.std.proofs.Common.{◌+◌, ◌-◌, sym, ◌∙◌, arith, length-set, rules}
use Rattle.std.proofs.lemmas.List.{take_more_set}
use Rattle.console.proofs.NumbersOn.{numbers_end, numbers_too_many, numbers_bad, numbers_on}
use Rattle.console.proofs.numbers.Numbers.read.Goals as goal
use Rattle.console.specs.declared.numbers.TheConstants.{MAX_NUMBERS}

pub returns-then-count-eq-MAX_NUMBERS : goal.returns-then-count-eq-MAX_NUMBERS
returns-then-count-eq-MAX_NUMBERS c =
    sym c.loop-word.invariant.0 ∙ numbers_too_many (MAX_NUMBERS - c.loop-word.count) _ _ _ _ (omega arith) c.in-Some.ensures.0

pub returns-in_err-all : goal.returns-in_err-all
returns-in_err-all c =
    rw c.from_residual.ensures
    (sym c.loop-word.invariant.0 ∙ numbers_bad (MAX_NUMBERS - c.loop-word.count) (MAX_NUMBERS - (c.loop-word.count + 1)) _ _ _ _ (omega arith) c.in-Some.ensures.0
    c.in_err-all.ensures)

pub loop-word-preserved : goal.loop-word-preserved
loop-word-preserved c = (
  sym (numbers_on (MAX_NUMBERS - c.loop-word.count) (MAX_NUMBERS - (c.loop-word.count + 1)) c.in_ok-all.field-0 _ _ _ _ _ (omega arith)
      c.in-Some.ensures.0 c.in_ok-all.ensures
      (take_more_set c.loop-word.all c.loop-word.count c.in_ok-all.field-0 (omega arith))) ∙ c.loop-word.invariant.0,
  omega arith,
  search (rules, length-set),
)

pub returns : goal.returns
returns c = sym c.loop-word.invariant.0 ∙ numbers_end (MAX_NUMBERS - c.loop-word.count) _ _ c.in_default.ensures
