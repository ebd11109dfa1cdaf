use Rattle.std.proofs.Common.{◌≡◌, ◌≢◌, ℕ, vec_items, rules, tests}
use Rattle.std.proofs.lemmas.Iterator.{YieldsList-from_slice, IsFirst-from_position}
use Rattle.std.specs.Global.{Vec}
use Rattle.network.proofs.Stages.{letter_told}
use Rattle.network.proofs.stage.Stage.find.Goals as goal

pub returns : goal.returns
returns c =
    letter_told c.args.bytes.now (vec_items c.args.self.now.letters) c.position.result
    (IsFirst-from_position _ _ _ (λ (l : Vec ℕ). vec_items l ≡ c.args.bytes.now) (λ (l : Vec ℕ). vec_items l ≢ c.args.bytes.now) c.position.ensures.ran (YieldsList-from_slice (vec_items c.args.self.now.letters) cc)
    (λ x q called. search (rules, tests)) (λ x q called. search (rules, tests)))
