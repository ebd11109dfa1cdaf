use Rattle.std.proofs.Common.{rules, refl, inr, vec_items}
use Rattle.std.proofs.lemmas.Result.{err_from_is_err_and}
use Rattle.journal.specs.History.{synced}
use Rattle.network.proofs.Stages.{turned}
use Rattle.network.proofs.stage.Stage.write.Goals as goal

pub returns-in_err-letter-clause-kept : goal.returns-in_err-letter-clause-kept
returns-in_err-letter-clause-kept c =
    let p = err_from_is_err_and c.from_residual-in_err-letter.result c.from_residual-in_err-letter.ensures.1 in
    rw (p.1, p.2)
    (inr (turned (vec_items c.args.self.now.keepers) c.args.at c.index_mut.result.now c.letter_for.new.keeper (search rules) c.index_mut.ensures.value c.letter_for.ensures.room synced (λ k. refl) c.in_ok-letter_for.ensures.kept))

pub returns-clause-kept : goal.returns-clause-kept
returns-clause-kept c =
    turned (vec_items c.args.self.now.keepers) c.args.at c.index_mut.result.now c.letter_for.new.keeper (search rules) c.index_mut.ensures.value c.letter_for.ensures.room synced (λ k. refl) c.in_ok-letter_for.ensures.kept
