-- An error of the journal, as a call passes it on.
use Rattle.std.proofs.Common.{◌≡◌, Ok, Err, Result, sym, subst, MatchResult}
use Rattle.std.specs.Result.{IsErrAnd}
use Rattle.journal.specs.declared.fault.Fault.{Fault}
use Rattle.journal.specs.declared.trouble.Trouble.{Trouble}
use Rattle.journal.specs.declared.trouble.Trouble.TheVariants.{Failed}

-- what holds where the journal failed holds of a result that says so
pub failed : {A : Type 0} (r : Result A Trouble) (f : Fault) (N : A → Type 0) (P : Trouble → Type 0) → IsErrAnd r (λ e. e ≡ Failed f) → P (Failed f) → MatchResult r N P
failed (Ok x) f N P is holds = absurd is
failed (Err e) f N P is holds = subst P (sym is) holds
