use Rattle.std.proofs.Common.{length, ap, ◌∙◌, arith}
use Rattle.std.specs.Option.{option_map}
use Rattle.bookings.specs.Plain.{plain_choice}
use Rattle.letters.specs.Answers.{got}
use Rattle.letters.specs.Format.{read_choice}
use Rattle.letters.specs.RangeTests.{choice_in_range}
use Rattle.letters.proofs.Judged.{filled_in, filled_not}
use Rattle.letters.proofs.reader.Reader.choices_into.Goals.{in-Some, in-None}
use Rattle.letters.proofs.reader.Reader.choices_into.Goals as goal

pub loop-place-preserved : goal.loop-place-preserved
loop-place-preserved c =
    let n = length c.args.places.now in
    let bs = c.args.self.now.rest.now in
    let l = c.loop-place in
    let s = c.choice.new.self.rest.now in
    elim c.match-branch-2.branch [
      | in-Some w ↦
          rw (w.places-is, w.in_range-is)
          (filled_in read_choice choice_in_range plain_choice n bs l.place-index l.in_range l.places l.self.rest.now s w.in-Some.choice (omega (arith, c.loop-place-test.true, l.auto.places)) (omega (arith, l.auto.places)) l.invariant
          (c.in_ok-choice.ensures ∙ ap (λ o. got (option_map plain_choice o) s) w.in-Some.is))
      | in-None w ↦
          rw (w.places-is, w.in_range-is)
          (filled_not read_choice choice_in_range plain_choice n bs l.place-index l.in_range l.places l.self.rest.now s (omega (arith, c.loop-place-test.true, l.auto.places)) l.invariant
          (c.in_ok-choice.ensures ∙ ap (λ o. got (option_map plain_choice o) s) w.in-None.is))
    ]
