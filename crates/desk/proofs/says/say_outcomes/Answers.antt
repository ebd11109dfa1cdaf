use Rattle.std.proofs.Common.{ap, ◌∙◌, ◌++◌, take}
use Rattle.console.specs.declared.answer.Answer.TheVariants.{Take}
use Rattle.desk.specs.Said.{texts, outcome_line, line_of}
use Rattle.desk.proofs.Lines.{begun, gone_on, texts_none, texts_more}
use Rattle.desk.proofs.says.say_outcomes.Goals as goal

pub loop-outcome-init : goal.loop-outcome-init
loop-outcome-init g c = begun _ _ (texts_none outcome_line 0)

pub loop-outcome-preserved : goal.loop-outcome-preserved
loop-outcome-preserved g c =
    gone_on _ _ _ _ _ _ c.loop-outcome.invariant c.in_ok-say_taking.ensures
    (ap (λ t. texts outcome_line 0 (take c.loop-outcome.outcome-index c.args.outcomes.now) ++ line_of (Take t)) c.taking.ensures
    ∙ texts_more outcome_line c.args.outcomes.now c.loop-outcome.outcome-index _ _ c.loop-outcome-test.true c.outcome-item.is)
