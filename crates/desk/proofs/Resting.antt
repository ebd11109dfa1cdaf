-- What is left by a call that is not done.
use Rattle.std.proofs.Common.{◌≡◌, ℕ, List, None, Some, Option, Ok, Err, Result, MatchResult, sym, subst}
use Rattle.std.specs.Result.{IsErrAnd}
use Rattle.desk.specs.Failures.{Undone}
use Rattle.desk.specs.Steps.{Rests}
use Rattle.bookings.specs.Plain.{PlainEntry}
use Rattle.journal.proofs.Finding.{found_before}
use Rattle.journal.specs.Finding.{FindsOf}
use Rattle.journal.specs.History.{Kept, commits}
use Rattle.network.specs.Effects.{commits_synced, first_of, synced_if}
use Rattle.network.specs.declared.unplayed.Unplayed.{Unplayed}
use Rattle.network.specs.declared.unplayed.Unplayed.TheVariants.{Memory, Refused, Failed}

-- what holds of an error that is passed on
pub passed_on : {A E : Type 0} (r : Result A E) (e : E) (N : A → Type 0) (P : E → Type 0) → IsErrAnd r (λ x. x ≡ e) → P e → MatchResult r N P
passed_on (Ok x) e N P is holds = absurd is
passed_on (Err x) e N P is holds = subst P (sym is) holds

-- a call that can only fail: where what a stop finds of it is found of something else too
pub only_fails :
    (keeps : Kept → Type 0) (was is : Kept) (shut F G : Type 0) (e : Unplayed) → Undone e (λ _. ⊥) shut → Rests keeps was F e → (F → G) → Rests keeps is G e
only_fails keeps was is shut F G Memory never left more = absurd never
only_fails keeps was is shut F G (Refused why) never left more = absurd never
only_fails keeps was is shut F G (Failed fault) never left more = more left

-- what a stop finds of a commit, synced or not, it may find of one that is not
pub found_committed : (finds : List ℕ → Type 0) (k : Kept) → FindsOf finds (commits_synced k) → FindsOf finds (commits k)
found_committed finds k = either (first_of k)
  where
    either : (first : Option PlainEntry) → FindsOf finds (synced_if first (commits k)) → FindsOf finds (commits k)
    either None f = f
    either (Some e) f = λ found at. found_before (commits k) found (f found at)
