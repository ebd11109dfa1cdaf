use Rattle.std.proofs.Common.{◌≡◌, ℕ, List, [], rules, get_or, set, vec_items, subst}
use Rattle.letters.specs.Letters.{read_letter}
use Rattle.network.specs.Stages.{Turns, bytes_sent, hut_at, part_of}
use Rattle.network.specs.Taking.{Reports, take_bytes}
use Rattle.network.proofs.Stages.{came_of, heard_steady, turned, was}
use Rattle.network.proofs.stage.Stage.take.Goals as goal

-- what came is that part of the letter
came : (c : goal.In_ok-take) → c.part_of.result.now ≡ part_of c.args.part (get_or (bytes_sent c.args.self.now) c.args.letter [])
came c =
    came_of (vec_items c.args.self.now.letters) c.args.letter c.args.part c.index.result.now c.as_slice-bytes.result.now c.part_of.result.now (search rules) c.index.ensures
    c.as_slice-bytes.ensures.value c.part_of.ensures

pub returns-clause-kept : goal.returns-clause-kept
returns-clause-kept c =
    let qs = vec_items c.args.self.now.keepers in
    let bs = c.part_of.result.now in
    subst (λ (x : List ℕ). Turns qs (set qs c.args.at c.take.new.keeper) c.args.at (take_bytes x)) (came c)
    (turned qs c.args.at c.index_mut.result.now c.take.new.keeper (search rules) c.index_mut.ensures.value c.take.ensures.room (take_bytes bs) (heard_steady bs) c.in_ok-take.ensures.kept)

pub returns-clause-report : goal.returns-clause-report
returns-clause-report c = λ kept follows.
    let qs = vec_items c.args.self.now.keepers in
    subst (λ (bs : List ℕ). Reports c.take.new.report (read_letter bs) (kept (hut_at qs c.args.at))) (came c)
    (c.in_ok-take.ensures.answer (kept (hut_at qs c.args.at)) (was qs c.args.at c.index_mut.result.now c.take.new.keeper kept (search rules) c.index_mut.ensures.value follows))
