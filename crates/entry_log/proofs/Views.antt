-- Entries of the code at their places, as plain ones.
use Rattle.std.proofs.Common.{◌≡◌, ℕ, ◌+◌, ◌-◌, ◌<◌, ◌≤◌, List, [], ◌∷◌, map, length, get_or, take, drop, Some, None, Option, Bor, sym, ap, ◌∙◌, subst, arith, length-drop}
use lib.ListN.{length-map}
use Rattle.std.specs.Bool.{Decides}
use Rattle.std.specs.List.{HoldsAt}
use Rattle.std.specs.Option.{MatchOption, option_eq}
use Rattle.std.proofs.lemmas.List.{get_or-map, get_or-drop, take_rest, drop-map}
use Rattle.bookings.proofs.Same.{entry_decides}
use Rattle.bookings.specs.contracts.entry.EntryPartialEq.TheImpl as entry
use Rattle.bookings.specs.declared.entry.Entry.{Entry}
use Rattle.entry_log.specs.Logs.{first_entry}
use Rattle.bookings.specs.Plain.{PlainEntry, plain}

pub entry_there : (es : List Entry) (i : ℕ) (e : Entry) (d : PlainEntry) → i < length es → e ≡ get_or es i e → get_or (map plain es) i d ≡ plain e
entry_there es i e d h is = get_or-map plain es i e d h ∙ ap plain (sym is)

-- what holds of the entry at a place holds of the plain one there
pub at_entry :
    (P : PlainEntry → Type 0) (es : List Entry) (k : ℕ) (d : PlainEntry) → k < length es → ((e : Entry) → P (plain (get_or es k e))) → P (get_or (map plain es) k d)
at_entry P [] k d h each = absurd (omega arith)
at_entry P (e ∷ es) k d h each = subst P (sym (get_or-map plain (e ∷ es) k e d h)) (each e)

-- the end of the log, as it is lent
pub end_is : (lent es : List Entry) (c : ℕ) → lent ≡ es → map plain (take (length lent - c) (drop c lent)) ≡ drop c (map plain es)
end_is lent es c is = ap (map plain) (take_rest lent c) ∙ sym (drop-map plain c lent) ∙ ap (λ l. drop c (map plain l)) is

-- the first of the end stands where the end begins
pub first_there :
    (part : List Entry) (xs : List PlainEntry) (c : ℕ) (e : Entry) → map plain part ≡ drop c xs → 0 < length part → e ≡ get_or part 0 e
    → (c < length xs) × (plain e ≡ get_or xs c (plain e))
first_there part xs c e lent some is =
    let long = sym (length-map part plain) ∙ ap length lent ∙ length-drop c xs in
    let at : c + 0 ≡ c = omega arith in (
      omega arith,
      sym (entry_there part 0 e (plain e) some is) ∙ ap (λ l. get_or l 0 (plain e)) lent ∙ get_or-drop c xs 0 (plain e) ∙ ap (λ i. get_or xs i (plain e)) at,
    )

-- the first of a part is an entry just where they mean the same
pub first_decides :
    (part : List Entry) (r : Option (Bor Entry)) (e : Bor Entry) → MatchOption r (length part ≤ 0) (λ x. (0 < length part) × HoldsAt (λ y. x.now ≡ y) part 0)
    → Decides (option_eq (λ x y. (entry.ghosts).eq x.now y.now) r (Some e)) (first_entry (map plain part) ≡ Some (plain e.now))
first_decides [] None e first = (λ same. cc, λ is. cc)
first_decides (p ∷ ps) None e first = absurd (omega arith)
first_decides [] (Some x) e first = absurd (omega (arith, first.0))
first_decides (p ∷ ps) (Some x) e first =
    let here : x.now ≡ p = first.1 p in
    let decides = entry_decides x.now e.now in
    (λ same. ap (λ q. Some (plain q)) (sym here) ∙ ap Some (decides.0 same), λ is. decides.1 (ap plain here ∙ cc))
