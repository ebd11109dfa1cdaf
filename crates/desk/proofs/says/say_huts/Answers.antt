use Rattle.desk.proofs.Lines.{begun, gone_on, no_huts, huts_more}
use Rattle.desk.proofs.says.say_huts.Goals as goal

pub loop-hut-init : goal.loop-hut-init
loop-hut-init g c = begun _ _ (no_huts _)

pub loop-hut-preserved : goal.loop-hut-preserved
loop-hut-preserved g c = gone_on _ _ _ _ _ _ c.loop-hut.invariant c.in_ok-say_nights.ensures (huts_more _ _)
