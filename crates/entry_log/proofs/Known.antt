-- Which marks a list has, and where.
use Rattle.std.proofs.Common.{◌≡◌, ℕ, suc, ◌+◌, Bool, true, false, cond, ltb, List, [], ◌∷◌, ◌++◌, map, length, is_some, Some, None, fold, sym, refl, ap, ◌∙◌, ⊎_elim, arith}
use Rattle.std.proofs.lemmas.List.{append-nil, append_assoc}
use Rattle.std.proofs.lemmas.Bool.{cases_Bool, lt-ltb, le-ltb}
use Rattle.bookings.proofs.Find.{place_low}
use Rattle.bookings.specs.Books.{PlainBook, empty_book, does, book_of, same_mark, place_from}
use Rattle.bookings.specs.Plain.{PlainMark, PlainEntry}
use Rattle.entry_log.specs.Logs.{has}

-- the marks of a book are those of the entries that made it
folded_marks : (es : List PlainEntry) (b : PlainBook) → (fold (λ c e. does e c) b es).marks ≡ b.marks ++ map (λ e. e.mark) es
folded_marks [] b = sym (append-nil b.marks)
folded_marks (e ∷ es) b = folded_marks es (does e b) ∙ append_assoc b.marks (e.mark ∷ []) (map (λ e. e.mark) es)

pub book-marks : (es : List PlainEntry) → (book_of es).marks ≡ map (λ e. e.mark) es
book-marks es = folded_marks es empty_book

-- a mark that stands is found
pub has_found : (m : PlainMark) (i : ℕ) (es : List PlainEntry) → is_some (place_from i m (map (λ e. e.mark) es)) ≡ has m es
has_found m i [] = refl
has_found m i (e ∷ es) =
    ⊎_elim (λ t. rw t refl) (λ t. rw t (has_found m (suc i) es)) (cases_Bool (same_mark m e.mark))

-- where a mark is found tells in which part it stands
pub found_front :
    (m : PlainMark) (i p : ℕ) (cs ts : List PlainEntry) → place_from i m (map (λ e. e.mark) (cs ++ ts)) ≡ Some p → has m cs ≡ ltb p (i + length cs)
found_front m i p [] ts is = sym (le-ltb p (i + 0) (omega (arith, place_low m i p (map (λ e. e.mark) ts) is)))
found_front m i p (e ∷ cs) ts is = by_test (same_mark m e.mark) refl is (found_front m (suc i) p cs ts)
  where
    by_test :
        (b : Bool) → same_mark m e.mark ≡ b → cond b (Some i) (place_from (suc i) m (map (λ e. e.mark) (cs ++ ts))) ≡ Some p
        → (place_from (suc i) m (map (λ e. e.mark) (cs ++ ts)) ≡ Some p → has m cs ≡ ltb p (suc i + length cs)) → has m (e ∷ cs) ≡ ltb p (i + suc (length cs))
    by_test true same found further = let at : i ≡ p = cc in rw same (sym (lt-ltb p (i + suc (length cs)) (omega arith)))
    by_test false other found further =
        let next : suc i + length cs ≡ i + suc (length cs) = omega arith in rw other (further found ∙ ap (ltb p) next)

-- a mark that is not found stands in neither part
pub found_none : (m : PlainMark) (i : ℕ) (es : List PlainEntry) → place_from i m (map (λ e. e.mark) es) ≡ None → has m es ≡ false
found_none m i es is = sym (has_found m i es) ∙ ap is_some is
