use Rattle.std.proofs.Common.{◌∙◌, leb, rules, tests}
use Rattle.std.proofs.lemmas.Iterator.{YieldsList-from_slice, YieldsList-from_zip}
use Rattle.std.proofs.lemmas.Iterator.Search.{all_from_yields_List}
use Rattle.entry_log.proofs.Covering.{all_covered}
use Rattle.entry_log.proofs.vector.Vector.covers.Goals as goal

pub returns : goal.returns
returns c =
    let ours = c.args.self.now.stamps in
    let theirs = c.args.other.now.stamps in
    all_from_yields_List (λ p. leb p.1 p.0) c.all.new.self _ c.all.result c.all.ensures.ran (YieldsList-from_zip (YieldsList-from_slice ours (search rules)) (YieldsList-from_slice theirs (search rules))) (λ x b q called. search (rules, tests))
    ∙ all_covered ours theirs c.args.self.now.sixteen c.args.other.now.sixteen
