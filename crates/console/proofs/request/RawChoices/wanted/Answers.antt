use Rattle.std.proofs.Common.{take}
use Rattle.std.proofs.lemmas.Result.{err_from_is_err_and}
use Rattle.bookings.specs.Ranges.{ChoiceOk}
use Rattle.console.specs.Requests.{asked_choice}
use Rattle.console.proofs.InRange.{each_at, checked_on, raws_few, no_fifth, all_checked}
use Rattle.console.proofs.request.RawChoices.wanted.Goals as goal

pub returns-in_err-wanted : goal.returns-in_err-wanted
returns-in_err-wanted c =
    let raws = take c.args.self.now.count c.args.self.now.all in
    let p = err_from_is_err_and c.from_residual.result c.from_residual.ensures.1 in
    rw (p.1, p.2) (
      c.in_err-wanted.ensures.0,
      λ fine. c.in_err-wanted.ensures.1 (each_at ChoiceOk asked_choice raws c.loop-raw.raw-index _ c.loop-raw-test.true fine.1),
    )

pub returns-in_err-choices : goal.returns-in_err-choices
returns-in_err-choices c =
    let raws = take c.args.self.now.count c.args.self.now.all in
    absurd (no_fifth raws c.loop-raw.raw-index c.loop-raw.choices c.loop-raw-test.true (raws_few c.args.self.now.all c.args.self.now.count c.args.self.now.few)
    c.loop-raw.invariant.0 c.in_err-choices.ensures.1)

pub loop-raw-preserved : goal.loop-raw-preserved
loop-raw-preserved c =
    let raws = take c.args.self.now.count c.args.self.now.all in
    checked_on raws c.loop-raw.raw-index _ c.loop-raw.choices c.in_ok-choices.choices c.in_ok-wanted.field-0 c.loop-raw-test.true
    c.in_ok-choices.ensures c.in_ok-wanted.ensures.0 c.in_ok-wanted.ensures.1 c.loop-raw.invariant.0 c.loop-raw.invariant.1

pub returns : goal.returns
returns c =
    let raws = take c.args.self.now.count c.args.self.now.all in
    all_checked raws c.loop-raw.raw-index c.loop-raw.choices c.loop-raw-test.false (raws_few c.args.self.now.all c.args.self.now.count c.args.self.now.few)
    c.loop-raw.invariant.0 c.loop-raw.invariant.1
