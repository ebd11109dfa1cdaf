use Rattle.std.proofs.Common.{◌≡◌, ◌+◌, length, ◌<◌, sym, refl, ap, ◌∙◌, subst, arith}
use Rattle.std.proofs.lemmas.Bool.{false≢true}
use Rattle.bookings.specs.Plain.{plain_mark, plain_kind, plain}
use Rattle.replica.specs.Model.{State}
use Rattle.replica.specs.Views.{state_of}
use Rattle.replica.proofs.Taking.{log_few}
use Rattle.journal.specs.Finding.{FoundOf}
use Rattle.journal.specs.History.{PlainRecord, Kept, Tentative, history_of, state_in, synced, wrote, makes}
use Rattle.journal.specs.Keeping.{Keeps, Follows, most_bytes}
use Rattle.journal.specs.Records.{bytes_of, encode_record}
use Rattle.journal.proofs.Failing.{failed}
use Rattle.journal.proofs.Keeping.{keeps_wrote-synced, record_fits, made_follows, makes_is}
use Rattle.journal.proofs.keeper.Keeper.make.Given.{Over}
use Rattle.journal.proofs.keeper.Keeper.make.Goals as goal
use Rattle.journal.proofs.keeper.Keeper.make.Goals.{After-append_synced}

module _ (g : Over) (c : After-append_synced g) where
  abbrev was : State
  was = state_of c.args.self.now.replica

  abbrev made : PlainRecord
  made = Tentative (plain (record { mark = c.in_ok-mark.mark; kind = c.args.kind }))

  next : Follows made was (state_of c.append_synced.new.self.replica)
  next = made_follows (plain_kind c.args.kind) (plain_mark c.in_ok-mark.mark) was _ c.in_ok-mark.ensures.0 c.in_ok-mark.ensures.1 (ap state_of c.append_synced.ensures.replica ∙ c.in_ok-mark.ensures.2)

  is_wrote : (k : Kept) → was ≡ state_in k → makes (plain_kind c.args.kind) k ≡ wrote made k
  is_wrote k same = makes_is was k same (plain_kind c.args.kind) (plain_mark c.in_ok-mark.mark) c.in_ok-mark.ensures.0 c.in_ok-mark.ensures.1

  -- where there is room, the record fits
  fits : (k : Kept) → Keeps (g.J.Journal.keeps c.args.self.now.journal) was k → most_bytes < g.J.Journal.room c.args.self.now.journal
      → length (bytes_of (history_of k)) + length (encode_record made) < g.J.Journal.room c.args.self.now.journal
  fits k in_step roomy =
      let few = record_fits _ (g.J.Journal.keeps c.args.self.now.journal) was _ k in_step made c.append_synced.ensures.fits next (log_few c.append_synced.new.self.replica.log) in
      omega arith

pub returns-clause-kept : goal.returns-clause-kept
returns-clause-kept g c = λ k in_step.
    let at = (goal.at.returns-clause-kept g c).After-append_synced in
    subst (λ (x : Kept). Keeps (g.J.Journal.keeps c.append_synced.new.self.journal) (state_of c.append_synced.new.self.replica) (synced x)) (sym (is_wrote g at k in_step.state))
    (keeps_wrote-synced _ _ (was g at) _ k in_step (made g at) c.append_synced.ensures.fits (next g at)
    (c.in_ok-append_synced.ensures.keeps (bytes_of (history_of k)) _ refl in_step.bytes))

pub returns-in_err-append_synced-clause-kept : goal.returns-in_err-append_synced-clause-kept
returns-in_err-append_synced-clause-kept g c =
    let at = (goal.at.returns-in_err-append_synced-clause-kept g c).After-append_synced in
    failed c.from_residual-in_err-append_synced.result c.in_err-append_synced.field-0.0 _ _ c.from_residual-in_err-append_synced.ensures.1
    (λ k in_step found stopped. subst (λ (x : Kept). FoundOf x found) (sym (is_wrote g at k in_step.state))
    (c.in_err-append_synced.ensures.finds (bytes_of (history_of k)) _ refl in_step.bytes found stopped))

pub returns-in_err-append_synced-clause-sure : goal.returns-in_err-append_synced-clause-sure
returns-in_err-append_synced-clause-sure g c = λ k in_step roomy.
    let at = (goal.at.returns-in_err-append_synced-clause-sure g c).After-append_synced in
    absurd (false≢true (c.in_err-append_synced.ensures.sure (bytes_of (history_of k)) _ in_step.bytes (fits g at k in_step roomy)))
