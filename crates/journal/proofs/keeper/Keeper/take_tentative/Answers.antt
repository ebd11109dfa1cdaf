use Rattle.std.proofs.Common.{◌≡◌, ◌+◌, length, ◌<◌, sym, refl, ap, ◌∙◌, subst, arith}
use Rattle.std.proofs.lemmas.Bool.{false≢true}
use Rattle.bookings.specs.Plain.{plain}
use Rattle.replica.specs.Model.{State}
use Rattle.replica.specs.Views.{state_of}
use Rattle.replica.proofs.Taking.{log_few}
use Rattle.journal.specs.Finding.{FoundOf}
use Rattle.journal.specs.History.{PlainRecord, Kept, Tentative, takes_tentative, history_of, state_in, wrote}
use Rattle.journal.specs.Keeping.{Keeps, Follows, most_bytes}
use Rattle.journal.specs.Records.{bytes_of, encode_record}
use Rattle.journal.proofs.Failing.{failed}
use Rattle.journal.proofs.Keeping.{keeps_wrote, takes_tentative_is, record_fits}
use Rattle.journal.proofs.Standing.{taken-stands}
use Rattle.journal.proofs.keeper.Keeper.take_tentative.Given.{Over}
use Rattle.journal.proofs.keeper.Keeper.take_tentative.Goals as goal
use Rattle.journal.proofs.keeper.Keeper.take_tentative.Goals.{After-append}

module _ (g : Over) (c : After-append g) where
  abbrev was : State
  was = state_of c.args.self.now.replica

  abbrev taken : PlainRecord
  taken = Tentative (plain c.args.entry)

  next : Follows taken was (state_of c.append.new.self.replica)
  next = (taken-stands (plain c.args.entry) c.args.stood.now.stamps was c.in_ok-take_tentative.ensures.0, ap state_of c.append.ensures.replica ∙ c.in_ok-take_tentative.ensures.1)

  is_wrote : (k : Kept) → was ≡ state_in k → takes_tentative (plain c.args.entry) c.args.stood.now.stamps k ≡ wrote taken k
  is_wrote k same = takes_tentative_is was k same (plain c.args.entry) c.args.stood.now.stamps c.in_ok-take_tentative.ensures.0

  -- where there is room, the record fits
  fits : (k : Kept) → Keeps (g.J.Journal.keeps c.args.self.now.journal) was k → most_bytes < g.J.Journal.room c.args.self.now.journal
      → length (bytes_of (history_of k)) + length (encode_record taken) < g.J.Journal.room c.args.self.now.journal
  fits k in_step roomy =
      let few = record_fits _ (g.J.Journal.keeps c.args.self.now.journal) was _ k in_step taken c.append.ensures.fits next (log_few c.append.new.self.replica.log) in
      omega arith

pub returns-clause-kept : goal.returns-clause-kept
returns-clause-kept g c = λ k in_step.
    let at = (goal.at.returns-clause-kept g c).After-append in
    subst (λ (x : Kept). Keeps (g.J.Journal.keeps c.append.new.self.journal) (state_of c.append.new.self.replica) x) (sym (is_wrote g at k in_step.state))
    (keeps_wrote _ _ (was g at) _ k in_step (taken g at) c.append.ensures.fits (next g at)
    (c.in_ok-append.ensures.keeps (bytes_of (history_of k)) _ refl in_step.bytes))

pub returns-in_err-append-clause-kept : goal.returns-in_err-append-clause-kept
returns-in_err-append-clause-kept g c =
    let at = (goal.at.returns-in_err-append-clause-kept g c).After-append in
    failed c.from_residual-in_err-append.result c.in_err-append.field-0.0 _ _ c.from_residual-in_err-append.ensures.1
    (λ k in_step found stopped. subst (λ (x : Kept). FoundOf x found) (sym (is_wrote g at k in_step.state))
    (c.in_err-append.ensures.finds (bytes_of (history_of k)) _ refl in_step.bytes found stopped))

pub returns-in_err-append-clause-sure : goal.returns-in_err-append-clause-sure
returns-in_err-append-clause-sure g c = λ k in_step roomy.
    let at = (goal.at.returns-in_err-append-clause-sure g c).After-append in
    absurd (false≢true (c.in_err-append.ensures.sure (bytes_of (history_of k)) _ in_step.bytes (fits g at k in_step roomy)))
