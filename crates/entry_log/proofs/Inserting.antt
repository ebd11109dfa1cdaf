-- A log with a tentative entry more.
use Rattle.std.proofs.Common.{◌≡◌, ℕ, ◌+◌, ◌≤◌, false, List, ◌∷◌, ◌++◌, map, length, take, drop, sym, ap, ◌∙◌, ⊎_elim, arith}
use Rattle.std.proofs.lemmas.List.{take-append-le, drop-append-le, take-take, drop-take, drop-drop, take-map, drop-map, map-append, take-append-drop, length-take-le}
use Rattle.std.proofs.lemmas.Bool.{cases_Bool}
use Rattle.std.specs.List.{insert}
use Rattle.bookings.specs.Books.{same_mark}
use Rattle.bookings.proofs.Find.{same_is}
use Rattle.bookings.specs.Plain.{PlainEntry}
use Rattle.entry_log.specs.Logs.{has, spot, into}
use Rattle.entry_log.specs.Order.{times, Once}
use Rattle.entry_log.proofs.Putting.{into-spot, times-append, times-into, has_none, one_more, none_more}

pub map-inserted : {X Y : Type 0} (f : X → Y) (xs : List X) (p : ℕ) (x : X) → map f (insert xs p x) ≡ insert (map f xs) p (f x)
map-inserted f xs p x =
    map-append f (take p xs) (x ∷ drop p xs) ∙ ap (λ l. l ++ f x ∷ map f (drop p xs)) (sym (take-map f p xs)) ∙ ap (λ l. take p (map f xs) ++ f x ∷ l) (sym (drop-map f p xs))

module _ (xs : List PlainEntry) (c p : ℕ) (e : PlainEntry) (within : c ≤ length xs) (spotted : p ≡ c + spot e.mark (drop c xs)) (fits : p ≤ length xs) where
  front : c ≤ length (take p xs)
  front = omega (arith, length-take-le p xs fits)

  pub inserted-committed : take c (insert xs p e) ≡ take c xs
  inserted-committed = take-append-le c (take p xs) (e ∷ drop p xs) front ∙ take-take c p xs (omega arith)

  pub inserted-tentative : drop c (insert xs p e) ≡ into e (drop c xs)
  inserted-tentative =
      let s : ℕ = spot e.mark (drop c xs) in
      drop-append-le c (take p xs) (e ∷ drop p xs) front
      ∙ ap (λ n. drop c (take n xs) ++ e ∷ drop n xs) spotted
      ∙ ap (λ l. l ++ e ∷ drop (c + s) xs) (drop-take c s xs)
      ∙ ap (λ l. take s (drop c xs) ++ e ∷ l) (sym (drop-drop s c xs))
      ∙ sym (into-spot e (drop c xs))

  pub inserted_once : Once xs → has e.mark xs ≡ false → Once (insert xs p e)
  inserted_once once new m =
      let new-times = has_none e.mark xs new in
      let parts = ap (times m) (sym (take-append-drop c xs)) ∙ times-append m (take c xs) (drop c xs) in
      let parts-after = ap (times m) (sym (take-append-drop c (insert xs p e))) ∙ times-append m (take c (insert xs p e)) (drop c (insert xs p e)) in
      let same = ap (times m) inserted-committed in
      let more = ap (times m) inserted-tentative ∙ times-into m e (drop c xs) in
      ⊎_elim
      (λ same_mark_lem.
      let here = ap (λ n. times n xs) (same_is m e.mark same_mark_lem) in
      omega (arith, one_more m e.mark same_mark_lem))
      (λ other. omega (arith, once m, none_more m e.mark other))
      (cases_Bool (same_mark m e.mark))
