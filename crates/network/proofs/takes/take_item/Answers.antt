use Rattle.std.proofs.Common.{MatchResult, sym, ap, ◌∙◌, subst}
use Rattle.bookings.specs.Plain.{plain}
use Rattle.journal.specs.History.{Tentative, Committed, unless, wrote}
use Rattle.journal.specs.Keeping.{Moves, Fails, state_by}
use Rattle.letters.specs.Items.{plain_item}
use Rattle.letters.specs.declared.letter.Item.{Item}
use Rattle.network.specs.Items.{takes}
use Rattle.replica.specs.Model.{take_committed_refusal, take_tentative_refusal}
use Rattle.network.proofs.TakingOn.{moves_none, told_kept}
use Rattle.network.proofs.takes.take_item.Goals as goal

pub returns-in-Committed-clause-kept : goal.returns-in-Committed-clause-kept
returns-in-Committed-clause-kept g c =
    let e = plain c.in-Committed.entry in
    let was = state_by c.args.keeper.now in
    let before = c.args.keeper.now in
    let after = c.take_committed-taken.new.self in
    subst
    (λ (x : Item). MatchResult c.told.result (λ _. Moves g.J.Journal.keeps before after (takes (plain_item x))) (λ _. Fails g.J.Journal.keeps g.J.Journal.finds before after (takes (plain_item x))))
    (sym c.in-Committed.is)
    (told_kept _ _ _ _ _ _ _ _ c.take_committed-taken.result c.told.result c.told.ensures c.take_committed-taken.ensures.answer c.take_committed-taken.ensures.kept
    (λ w refused. moves_none g.J.Journal.keeps before after _
    (λ k in_step. ap (λ o. unless o k (wrote (Committed e) k)) (ap (take_committed_refusal c.in-Committed.place e.mark) (sym in_step.state) ∙ refused))))

pub returns-in-Tentative-clause-kept : goal.returns-in-Tentative-clause-kept
returns-in-Tentative-clause-kept g c =
    let e = plain c.in-Tentative.waiting.entry in
    let stood = c.in-Tentative.waiting.stood.stamps in
    let before = c.args.keeper.now in
    let after = c.take_tentative-taken.new.self in
    subst
    (λ (x : Item). MatchResult c.told-in-Tentative.result (λ _. Moves g.J.Journal.keeps before after (takes (plain_item x))) (λ _. Fails g.J.Journal.keeps g.J.Journal.finds before after (takes (plain_item x))))
    (sym c.in-Tentative.is)
    (told_kept _ _ _ _ _ _ _ _ c.take_tentative-taken.result c.told-in-Tentative.result c.told-in-Tentative.ensures c.take_tentative-taken.ensures.answer c.take_tentative-taken.ensures.kept
    (λ w refused. moves_none g.J.Journal.keeps before after _
    (λ k in_step. ap (λ o. unless o k (wrote (Tentative e) k)) (ap (take_tentative_refusal e stood) (sym in_step.state) ∙ refused))))
