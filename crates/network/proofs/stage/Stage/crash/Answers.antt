use Rattle.std.proofs.Common.{◌<◌, refl, rules, vec_items, vec_capacity, sym, ap, subst, ◌∙◌, arith}
use Rattle.std.proofs.lemmas.List.{get_or_default}
use Rattle.journal.specs.Keeping.{InStep, InMemory, Moves, most_bytes}
use Rattle.network.specs.Acts.{cut_of}
use Rattle.network.specs.Effects.{reopens}
use Rattle.network.specs.Stages.{Hut}
use Rattle.network.proofs.Crashes.{crash_is}
use Rattle.network.proofs.Stages.{turned}
use Rattle.network.proofs.stage.Stage.crash.Goals as goal

pub returns-clause-answer : goal.returns-clause-answer
returns-clause-answer c =
    (c.crash-cut.result, refl, λ q. c.crash-cut.ensures.cut ∙ ap (cut_of c.args.left) (c.index_mut.ensures.value ∙ get_or_default (vec_items c.args.self.now.keepers) c.args.at c.index_mut.result.now q (search rules)))

pub returns-clause-kept : goal.returns-clause-kept
returns-clause-kept c = λ kept follows.
    let qs = vec_items c.args.self.now.keepers in
    let q = c.index_mut.result.now in
    let p = c.crash-cut.new.self in
    let roomy = subst (λ (t : Hut). most_bytes < vec_capacity t.journal.medium.held) (sym c.index_mut.ensures.value) (follows.room c.args.at q (search rules)) in
    let moves : Moves InMemory q p (reopens c.args.left) = λ k was.
    let left = c.crash-cut.ensures.kept k was (omega (arith, roomy)) in
    subst (InStep InMemory p) (crash_is q p c.args.left left.0 k was left.1 c.crash-cut.ensures.state) left.1 in
    turned qs c.args.at q p (search rules) c.index_mut.ensures.value c.crash-cut.ensures.room (reopens c.args.left) (λ k. refl) moves kept follows
