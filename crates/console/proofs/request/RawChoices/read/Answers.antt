use Rattle.std.proofs.Common.{◌≡◌, ◌/◌, ◌%◌, length, map, take, refl, sym, ap, ◌∙◌, ⊎_elim, inl, inr, arith, length-set}
use Rattle.std.proofs.lemmas.List.{take_all}
use Rattle.console.specs.Requests.{asked_choice}
use Rattle.console.proofs.FoursOn.{four_choice, fours_by_chunks, fours_on, choices_refused, choices_read}
use Rattle.console.proofs.request.RawChoices.read.Goals as goal

pub returns-then-not-is_empty : goal.returns-then-not-is_empty
returns-then-not-is_empty c =
    let cut = c.as_chunks.ensures in
    sym (choices_refused c.args.numbers.now
    (⊎_elim (λ odd. inl (λ even. grind (arith, odd, even, c.is_empty.ensures, cut.back_len)))
    (λ many. inr (grind (arith, many.0, c.is_empty.ensures, cut.back_len), omega (arith, many.1, cut.front_len))) c.then-not-is_empty.either))

pub loop-place-preserved : goal.loop-place-preserved
loop-place-preserved c =
    let inv = c.loop-place.invariant in (
      fours_on c.as_chunks.result.0.now c.loop-place.all c.loop-place.place c.from.result c.loop-place-test.true (omega (arith, inv.1)) inv.0 c.from.ensures,
      length-set c.loop-place.all c.loop-place.place c.from.result ∙ inv.1,
    )

pub returns : goal.returns
returns c =
    let ns = c.args.numbers.now in
    let cut = c.as_chunks.ensures in
    let inv = c.loop-place.invariant in
    let even : length ns % 4 ≡ 0 = grind (arith, c.if-not-is_empty.false, c.is_empty.ensures, cut.back_len) in
    let end : c.loop-place.place ≡ length c.as_chunks.result.0.now = omega (arith, c.loop-place.auto.place-end) in
    choices_read _ ns even (omega (arith, cut.front_len))
    (ap (λ n. map asked_choice (take n c.loop-place.all)) (sym end) ∙ inv.0
    ∙ ap (map four_choice) (take_all c.loop-place.place _ c.loop-place-test.false ∙ cut.front) ∙ fours_by_chunks (length ns / 4) ns refl)
