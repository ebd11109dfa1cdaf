use Rattle.desk.proofs.Lines.{begun, gone_on, no_nights, nights_more}
use Rattle.desk.proofs.says.say_nights.Goals as goal

pub loop-night-init : goal.loop-night-init
loop-night-init g c = begun _ _ (no_nights _ _)

pub loop-night-preserved : goal.loop-night-preserved
loop-night-preserved g c = gone_on _ _ _ _ _ _ c.loop-night.invariant c.in_ok-say_night.ensures (nights_more _ _ _)
