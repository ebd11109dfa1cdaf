-- What a line of a language says, by its verb and its numbers.
use Rattle.std.proofs.Common.{◌≡◌, ℕ, ◌≤◌, List, [], ◌∷◌, ◌++◌, map, length, take, drop, Ok, Result, decimal, refl, ap, ◌∙◌}
use Rattle.bookings.specs.Ranges.{Each}
use Rattle.console.specs.Languages.{Language, with_numbers_in, in_form_in, written_by, SpacesDoNotMatterIn, CommentsSayNothingIn}
use Rattle.console.specs.Lines.{TenDigits}
use Rattle.console.specs.Numbers.{numbers_of}
use Rattle.console.specs.Words.{spaced, span, words}
use Rattle.console.proofs.SpacesMore.{double_space, last_space}
use Rattle.console.proofs.WordBounds.{begun_word}
use Rattle.console.proofs.WrittenWords.{words_of_spaced, decimals_are_words, numbers_of_decimals}
use Rattle.console.specs.declared.numbers.TheConstants.{MAX_NUMBERS}

module _ {V S E : Type 0} (l : Language V S E) where
  -- a verb and numbers say what they say in that form, to whoever reads words in this way
  pub written_says :
      (by : List (List ℕ) → Result S E) (name : List ℕ) (v : V) (ns : List ℕ) → ((ws : List (List ℕ)) → words (spaced ws) ≡ ws → words (name ++ spaced ws) ≡ name ∷ ws)
      → ((ws : List (List ℕ)) → by (name ∷ ws) ≡ in_form_in l v (with_numbers_in l v (numbers_of MAX_NUMBERS ws))) → length ns ≤ MAX_NUMBERS
      → Each TenDigits ns → by (words (written_by name ns)) ≡ in_form_in l v (l.said_by v ns)
  written_says by name v ns starts says few all =
      ap by (starts (map decimal ns) (words_of_spaced (map decimal ns) (decimals_are_words ns all))) ∙ says (map decimal ns)
      ∙ ap (λ o. in_form_in l v (with_numbers_in l v o)) (numbers_of_decimals MAX_NUMBERS ns few all)

pub spaces_do_not_matter_in : {R : Type 0} (by : List (List ℕ) → R) → SpacesDoNotMatterIn (λ line. by (words line))
spaces_do_not_matter_in by = (λ a b. ap by (double_space a b []), λ a. refl, λ a. ap by (last_space a []))

pub comments_say_nothing_in :
    {S E : Type 0} (by : List (List ℕ) → Result S E) (s : S) → ((w : List ℕ) (ws : List (List ℕ)) → by ((35 ∷ w) ∷ ws) ≡ Ok s)
    → CommentsSayNothingIn (λ line. by (words line)) s
comments_say_nothing_in by s nothing text = ap by (begun_word 35 [] text) ∙ nothing (take (span text) text) (words (drop (span text) text))
