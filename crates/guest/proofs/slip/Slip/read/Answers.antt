use Rattle.std.proofs.Common.{◌*◌, ◌∙◌, ap, arith, drop, rules}
use Rattle.guest.specs.Slips.{slip_bytes}
use Rattle.guest.proofs.Stamps.{bytes_back, one_more}
use Rattle.letters.specs.Format.{number_of_four}
use Rattle.guest.proofs.slip.Slip.read.Goals as goal

pub loop-hut-preserved : goal.loop-hut-preserved
loop-hut-preserved c =
    let kept = c.loop-hut.invariant in (
      search (rules, kept.0),
      one_more (λ h. number_of_four (drop (4 * h) c.args.bytes.now)) _ _ _ (omega (arith, kept.0, c.loop-hut-test.true)) kept.1 c.stamp_at.ensures,
    )

pub returns : goal.returns
returns c =
    ap slip_bytes c.new.ensures
    ∙ bytes_back _ _ (search rules) (λ k. search rules) (λ h lt. c.loop-hut.invariant.1 h (omega (arith, lt, c.loop-hut.invariant.0, c.loop-hut-test.false)))
