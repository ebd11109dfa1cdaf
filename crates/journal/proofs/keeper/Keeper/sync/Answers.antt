use Rattle.std.proofs.Common.{refl, rules}
use Rattle.std.proofs.lemmas.Result.{err_from_is_err_and}
use Rattle.journal.specs.History.{history_of}
use Rattle.journal.specs.Records.{bytes_of}
use Rattle.journal.proofs.keeper.Keeper.sync.Goals as goal

pub returns-in_err-sync : goal.returns-in_err-sync
returns-in_err-sync g c =
    let p = err_from_is_err_and c.from_residual.result c.from_residual.ensures.1 in
    rw p.1
    (record {
      kept = λ k in_step. c.in_err-sync.ensures.finds (bytes_of (history_of k)) _ refl in_step.bytes;
      clean = search rules;
      shut = search rules;
      room = search rules;
      sure = λ k in_step roomy. search rules;
      replica = search rules;
    })
