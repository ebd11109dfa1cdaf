-- Words that are written with single spaces are read back as those words, and decimal numbers as those numbers.
use Rattle.std.proofs.Common.{◌≡◌, ℕ, zero, suc, ◌≤◌, List, [], ◌∷◌, ◌++◌, map, length, Some, decimal, refl, ap, ◌∙◌, append_assoc, arith, ne_eqb}
use Rattle.std.proofs.lemmas.List.{append-nil}
use Rattle.bookings.specs.Ranges.{Each}
use Rattle.console.specs.Lines.{TenDigits}
use Rattle.console.specs.Numbers.{numbers_of}
use Rattle.console.specs.Words.{space, spaced, words_after, words}
use Rattle.console.proofs.DecimalWords.{Word, decimal_word, decimal-number}

-- a word, once it is begun, ends where the next begins
pub word_then :
    (c : ℕ) (v w : List ℕ) (ws : List (List ℕ)) → Each (λ b. b ≡ space → ⊥) w → words (spaced ws) ≡ ws
    → words_after (c ∷ v) (w ++ spaced ws) ≡ (c ∷ (v ++ w)) ∷ ws
word_then c v [] [] plain further = rw (append-nil v) refl
word_then c v [] (x ∷ xs) plain further = rw (append-nil v) (ap (λ t. (c ∷ v) ∷ t) further)
word_then c v (b ∷ w) ws plain further =
    rw (ne_eqb b space plain.0) (word_then c (v ++ b ∷ []) w ws plain.1 further ∙ ap (λ t. (c ∷ t) ∷ ws) (append_assoc v (b ∷ []) w))

first_then : (w : List ℕ) (ws : List (List ℕ)) → Word w → words (spaced ws) ≡ ws → words (w ++ spaced ws) ≡ w ∷ ws
first_then [] ws word further = absurd (omega arith)
first_then (b ∷ w) ws word further = rw (ne_eqb b space word.1.0) (word_then b [] w ws word.1.1 further)

pub words_of_spaced : (ws : List (List ℕ)) → Each Word ws → words (spaced ws) ≡ ws
words_of_spaced [] all = refl
words_of_spaced (w ∷ ws) all = first_then w ws all.0 (words_of_spaced ws all.1)

pub decimals_are_words : (ns : List ℕ) → Each TenDigits ns → Each Word (map decimal ns)
decimals_are_words [] all = tt
decimals_are_words (n ∷ ns) all = (decimal_word n all.0, decimals_are_words ns all.1)

pub numbers_of_decimals : (k : ℕ) (ns : List ℕ) → length ns ≤ k → Each TenDigits ns → numbers_of k (map decimal ns) ≡ Some ns
unfolding numbers_of
numbers_of_decimals zero [] few all = refl
numbers_of_decimals (suc k) [] few all = refl
numbers_of_decimals zero (n ∷ ns) few all = absurd (omega arith)
numbers_of_decimals (suc k) (n ∷ ns) few all = rw (decimal-number n all.0, numbers_of_decimals k ns (omega arith) all.1) refl
