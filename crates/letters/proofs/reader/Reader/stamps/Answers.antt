use Rattle.std.proofs.Common.{ap, ◌∙◌, map-id}
use Rattle.std.proofs.lemmas.Result.{err_from_is_err_and}
use Rattle.letters.specs.Answers.{got}
use Rattle.letters.specs.Letters.{read_stamps}
use Rattle.letters.proofs.reader.Reader.stamps.Goals as goal

pub returns-in_err-fill : goal.returns-in_err-fill
unfolding read_stamps
returns-in_err-fill c = let p = err_from_is_err_and c.from_residual.result c.from_residual.ensures.1 in rw (p.1, p.2) c.in_err-fill.ensures

pub returns : goal.returns
unfolding read_stamps
returns c = c.in_ok-fill.ensures ∙ ap (λ xs. got xs c.fill.new.self.rest.now) (map-id c.fill.new.places)
