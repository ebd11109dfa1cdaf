use Rattle.std.proofs.Common.{◌≡◌, ◌+◌, length, ℕ, ◌<◌, List, [], ◌∷◌, Some, sym, refl, ap, ◌∙◌, subst, arith}
use Rattle.std.proofs.lemmas.Bool.{false≢true}
use Rattle.bookings.specs.Plain.{PlainEntry, plain}
use Rattle.entry_log.specs.Logs.{PlainLog, first_entry, first_mark}
use Rattle.entry_log.proofs.Settling.{first_added}
use Rattle.replica.specs.Model.{State}
use Rattle.replica.specs.Views.{state_of}
use Rattle.replica.proofs.Taking.{log_few, log_once}
use Rattle.journal.specs.Finding.{FoundOf}
use Rattle.journal.specs.History.{PlainRecord, Kept, Committed, commits, synced, history_of, state_in, wrote}
use Rattle.journal.specs.Keeping.{Keeps, Follows, most_bytes}
use Rattle.journal.specs.Records.{bytes_of, encode_record}
use Rattle.journal.proofs.Failing.{failed}
use Rattle.journal.proofs.Keeping.{keeps_wrote-synced, commits_is, record_fits}
use Rattle.journal.proofs.Standing.{commit_stands}
use Rattle.journal.proofs.keeper.Keeper.commit.Given.{Over}
use Rattle.journal.proofs.keeper.Keeper.commit.Goals as goal
use Rattle.journal.proofs.keeper.Keeper.commit.Goals.{After-append_synced}

first_marked : (ts : List PlainEntry) (e : PlainEntry) → first_entry ts ≡ Some e → Some e.mark ≡ first_mark ts
first_marked [] e q = let z : ◌≡◌ {A = ℕ} 0 1 = cc in absurd (omega arith)
first_marked (t ∷ ts) e q = let same : t ≡ e = cc in ap (λ (x : PlainEntry). Some x.mark) (sym same)

module _ (g : Over) (c : After-append_synced g) where
  abbrev was : State
  was = state_of c.args.self.now.replica

  abbrev taken : PlainRecord
  taken = Committed (plain c.in-Some.entry)

  first : first_entry was.log.tentative ≡ Some (plain c.in-Some.entry)
  first = sym c.in-Some.ensures

  next : Follows taken was (state_of c.append_synced.new.self.replica)
  next = (
    commit_stands (plain c.in-Some.entry) was (log_once c.args.self.now.replica.log) first,
    ap state_of c.append_synced.ensures.replica ∙ c.in_ok-commit.ensures.2 ∙ ap (λ (l : PlainLog). record { hut = was.hut; log = l }) (first_added (plain c.in-Some.entry) was.log was.log.tentative first),
  )

  is_wrote : (k : Kept) → was ≡ state_in k → commits k ≡ wrote taken k
  is_wrote k same = commits_is was k same (Some (plain c.in-Some.entry)) c.in_ok-commit.ensures.0 first

  -- where there is room, the record fits
  fits : (k : Kept) → Keeps (g.J.Journal.keeps c.args.self.now.journal) was k → most_bytes < g.J.Journal.room c.args.self.now.journal
      → length (bytes_of (history_of k)) + length (encode_record taken) < g.J.Journal.room c.args.self.now.journal
  fits k in_step roomy =
      let few = record_fits _ (g.J.Journal.keeps c.args.self.now.journal) was _ k in_step taken c.append_synced.ensures.fits next (log_few c.append_synced.new.self.replica.log) in
      omega arith

pub returns-clause-kept : goal.returns-clause-kept
returns-clause-kept g c = λ k in_step.
    let at = (goal.at.returns-clause-kept g c).After-append_synced in
    subst (λ (x : Kept). Keeps (g.J.Journal.keeps c.append_synced.new.self.journal) (state_of c.append_synced.new.self.replica) (synced x)) (sym (is_wrote g at k in_step.state))
    (keeps_wrote-synced _ _ (was g at) _ k in_step (taken g at) c.append_synced.ensures.fits (next g at)
    (c.in_ok-append_synced.ensures.keeps (bytes_of (history_of k)) _ refl in_step.bytes))

pub returns-in_err-append_synced-clause-kept : goal.returns-in_err-append_synced-clause-kept
returns-in_err-append_synced-clause-kept g c =
    let at = (goal.at.returns-in_err-append_synced-clause-kept g c).After-append_synced in
    failed c.from_residual-in_err-append_synced.result c.in_err-append_synced.field-0.0 _ _ c.from_residual-in_err-append_synced.ensures.1
    (λ k in_step found stopped. subst (λ (x : Kept). FoundOf x found) (sym (is_wrote g at k in_step.state))
    (c.in_err-append_synced.ensures.finds (bytes_of (history_of k)) _ refl in_step.bytes found stopped))

pub returns-in_err-append_synced-clause-sure : goal.returns-in_err-append_synced-clause-sure
returns-in_err-append_synced-clause-sure g c = λ k in_step roomy.
    let at = (goal.at.returns-in_err-append_synced-clause-sure g c).After-append_synced in
    absurd (false≢true (c.in_err-append_synced.ensures.sure (bytes_of (history_of k)) _ in_step.bytes (fits g at k in_step roomy)))
