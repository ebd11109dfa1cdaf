-- When numbers are choices, and which.
use Rattle.std.proofs.Common.{◌≡◌, ℕ, zero, suc, ◌+◌, ◌*◌, ◌/◌, ◌%◌, ◌<◌, ◌≤◌, ◌⊎◌, List, [], ◌∷◌, ◌++◌, map, length, get_or, take, set, Some, None, refl, sym, ap, ◌∙◌, inl, inr, arith, le-ltb, lt-ltb, eq-eqb, ne_eqb}
use Rattle.std.proofs.lemmas.List.{map_push, take_more, take_more_set}
use Rattle.std.specs.Simd.{first_chunks}
use Rattle.bookings.specs.Plain.{PlainChoice}
use Rattle.bookings.specs.declared.limits.TheConstants.{MAX_CHOICES}
use Rattle.console.specs.declared.request.RawChoice.{RawChoice}
use Rattle.console.specs.Requests.{asked_choice, choice_of, fours, choices_of}

-- the choice of four numbers
abbrev pub four_choice : List ℕ → PlainChoice
four_choice ns = choice_of (get_or ns 0 0) (get_or ns 1 0) (get_or ns 2 0) (get_or ns 3 0)

pub fours_by_chunks : (n : ℕ) (ns : List ℕ) → n ≡ length ns / 4 → map four_choice (first_chunks 4 n ns) ≡ fours ns
fours_by_chunks zero [] whole = refl
fours_by_chunks zero (h ∷ []) whole = refl
fours_by_chunks zero (h ∷ n ∷ []) whole = refl
fours_by_chunks zero (h ∷ n ∷ k ∷ []) whole = refl
fours_by_chunks zero (h ∷ n ∷ k ∷ b ∷ ns) whole = absurd (omega (arith, whole))
fours_by_chunks (suc m) [] whole = absurd (omega (arith, whole))
fours_by_chunks (suc m) (h ∷ []) whole = absurd (omega (arith, whole))
fours_by_chunks (suc m) (h ∷ n ∷ []) whole = absurd (omega (arith, whole))
fours_by_chunks (suc m) (h ∷ n ∷ k ∷ []) whole = absurd (omega (arith, whole))
fours_by_chunks (suc m) (h ∷ n ∷ k ∷ b ∷ ns) whole = ap (λ cs. choice_of h n k b ∷ cs) (fours_by_chunks m ns (omega (arith, whole)))

-- one more choice
pub fours_on :
    (chunks : List (List ℕ)) (raws : List RawChoice) (i : ℕ) (raw : RawChoice) → i < length chunks → i < length raws
    → map asked_choice (take i raws) ≡ map four_choice (take i chunks) → asked_choice raw ≡ four_choice (get_or chunks i [])
    → map asked_choice (take (i + 1) (set raws i raw)) ≡ map four_choice (take (i + 1) chunks)
fours_on chunks raws i raw within room same raw-is =
    ap (map asked_choice) (take_more_set raws i raw room) ∙ map_push asked_choice (take i raws) raw
    ∙ ap (λ cs. cs ++ asked_choice raw ∷ []) same ∙ ap (λ c. map four_choice (take i chunks) ++ c ∷ []) raw-is
    ∙ sym (ap (map four_choice) (take_more chunks i [] within) ∙ map_push four_choice (take i chunks) (get_or chunks i []))

pub choices_refused : (ns : List ℕ) → (length ns % 4 ≡ 0 → ⊥) ⊎ ((length ns % 4 ≡ 0) × (4 * MAX_CHOICES < length ns)) → choices_of ns ≡ None
unfolding choices_of
choices_refused ns (inl odd) = rw (ne_eqb (length ns % 4) 0 odd) refl
choices_refused ns (inr many) = rw (eq-eqb (length ns % 4) 0 many.0, lt-ltb (4 * MAX_CHOICES) (length ns) many.1) refl

pub choices_read : (cs : List PlainChoice) (ns : List ℕ) → length ns % 4 ≡ 0 → length ns ≤ 4 * MAX_CHOICES → cs ≡ fours ns → Some cs ≡ choices_of ns
unfolding choices_of
choices_read cs ns fourfold few cs-is = rw (eq-eqb (length ns % 4) 0 fourfold, le-ltb (4 * MAX_CHOICES) (length ns) few, cs-is) refl
