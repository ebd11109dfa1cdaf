use Rattle.std.proofs.Common.{map, length, MatchResult, sym, ap, ◌∙◌, subst, arith}
use Rattle.journal.specs.Keeping.{InStep, Moves, Fails}
use Rattle.letters.proofs.Few.{heard-few}
use Rattle.letters.specs.Items.{items_of}
use Rattle.letters.specs.Letters.{Heard}
use Rattle.network.specs.Items.{items_taken}
use Rattle.network.specs.Taking.{plain_outcome, told_out, outcomes_of}
use Rattle.network.proofs.takes.take.Goals as goal

pub take_all-requires : goal.take_all-requires
take_all-requires g c =
    record {
      empty = c.clear.ensures.len;
      capacity = omega (arith, heard-few c.args.bytes.now, ap (λ h. length (items_of h)) c.in-Ok.ensures, c.clear.ensures.capacity, c.args.report.now.room);
    }

pub returns-in_default-clause-kept : goal.returns-in_default-clause-kept
unfolding items_taken
returns-in_default-clause-kept g c =
    λ k in_step. subst (λ (h : Heard). InStep g.J.Journal.keeps c.args.keeper.now (items_taken (items_of h) k)) (sym c.in_default.ensures.1) in_step

pub returns-clause-kept : goal.returns-clause-kept
returns-clause-kept g c =
    let before = c.args.keeper.now in
    let after = c.take_all.new.keeper in
    subst
    (λ (h : Heard). MatchResult c.take_all.result (λ _. Moves g.J.Journal.keeps before after (items_taken (items_of h))) (λ _. Fails g.J.Journal.keeps g.J.Journal.finds before after (items_taken (items_of h))))
    (sym c.in-Ok.ensures) c.take_all.ensures.kept

pub returns-in_default-clause-answer : goal.returns-in_default-clause-answer
returns-in_default-clause-answer g c = λ k in_step.
    let none = sym c.in_default.ensures.1 in
    (ap told_out none, ap (map plain_outcome) c.clear.ensures.items ∙ ap (λ h. outcomes_of (items_of h) k) none)
