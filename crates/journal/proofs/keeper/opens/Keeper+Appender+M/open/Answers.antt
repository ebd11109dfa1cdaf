use Rattle.std.proofs.Common.{length, refl, sym, ap, ◌∙◌, subst}
use Rattle.journal.specs.History.{history_of}
use Rattle.journal.specs.Records.{bytes_of, Stands}
use Rattle.journal.proofs.Crashing.{not_shut}
use Rattle.journal.proofs.Reopening.{reopened_keeps}
use Rattle.journal.proofs.keeper.opens.Keeper+Appender+M.open.Goals as goal

pub returns-clause-stopped : goal.returns-clause-stopped
returns-clause-stopped g c = λ k same ok found holds.
    reopened_keeps k c.args.found.now _ _ c.replay_all-whole.result _ (ap (λ s. s.hut) c.in_ok-replica.ensures.1 ∙ sym same)
    (subst (λ h. Stands h (history_of k)) (sym same) ok) found c.replay_all-whole.ensures
    (λ within. (not_shut _ c.in_ok-restart.ensures.open, c.in_ok-restart.ensures.holds _ _ refl within (subst (λ m. g.M.Medium.holds m c.args.found.now (length (bytes_of k.durable))) (sym c.new-journal.ensures.0) holds), λ _. refl))
