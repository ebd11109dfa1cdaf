-- What holds of each element of a list.
use denote.Struct.Props.{props}
use mathlib.Core.HLevel.{×_prop}
use Rattle.std.proofs.Common.{ℕ, zero, suc, List, [], ◌∷◌, ◌++◌, map, get_or, set}
use Rattle.bookings.specs.Ranges.{Each}

module _ {A : Type 0} (P : A → Type 0) where
  pub each_push : (xs : List A) (x : A) → Each P xs → P x → Each P (xs ++ x ∷ [])
  each_push [] x all here = (here, tt)
  each_push (y ∷ xs) x all here = (all.0, each_push xs x all.1 here)

  pub each_set : (xs : List A) (i : ℕ) (x : A) → Each P xs → P x → Each P (set xs i x)
  each_set [] i x all here = tt
  each_set (y ∷ xs) zero x all here = (here, all.1)
  each_set (y ∷ xs) (suc i) x all here = (all.0, each_set xs i x all.1 here)

  pub each_at : (xs : List A) (i : ℕ) (d : A) → Each P xs → P d → P (get_or xs i d)
  each_at [] i d all past = past
  each_at (y ∷ xs) zero d all past = all.0
  each_at (y ∷ xs) (suc i) d all past = each_at xs i d all.1 past

pub each_map : {A B : Type 0} (f : A → B) (P : B → Type 0) (xs : List A) → ((x : A) → P (f x)) → Each P (map f xs)
each_map f P [] all = tt
each_map f P (x ∷ xs) all = (all x, each_map f P xs all)

pub each_prop : {A : Type 0} (P : A → Type 0) → ((x : A) → IsProp (P x)) → (xs : List A) → IsProp (Each P xs)
each_prop P one [] = hlevel props
each_prop P one (x ∷ xs) = ×_prop (one x) (each_prop P one xs)
