use Rattle.std.proofs.Common.{[], ◌∙◌, rules}
use Rattle.digest.specs.Sha256.{bytes4}
use Rattle.digest.proofs.WordBytes.{words_out}
use Rattle.digest.proofs.words.to_bytes.Goals as goal

pub returns : goal.returns
unfolding bytes4
returns c =
    c.copy_from_slice.ensures.after ∙ c.as_flattened.ensures.value
    ∙ words_out c.args.state c.map.result (search rules) (λ i h. let one = c.map.ensures.items.at i 0 [] (search rules) in let called = one.2 in search (rules, called))
