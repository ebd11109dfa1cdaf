-- A language of lines: its verbs, each with numbers behind it, and what a line says in it.
use Rattle.std.specs.Prelude.{◌≡◌, ℕ, cond, List, [], ◌∷◌, ◌++◌, map, length, Some, None, Ok, Err, decimal, Option, Result, ◌==◌, slice_index}
use Rattle.std.specs.Str.{bytes_eq}
use Rattle.bookings.specs.declared.limits.TheConstants.{HUTS}
use Rattle.console.specs.Numbers.{numbers_of}
use Rattle.console.specs.Words.{space, spaced, words}
use Rattle.console.specs.declared.numbers.TheConstants.{MAX_NUMBERS}

-- of verbs V, in which lines say S or should have been E
pub record Language (V S E : Type 0) : Type 0 where
  -- a line that says nothing
  pub pass : S
  -- which word is which verb, and what numbers say behind it, if their count is right
  pub verb_of : List ℕ → Option V
  pub said_by : V → List ℕ → Option S
  -- what was expected, where no verb stands and where numbers do not have the verb's form
  pub no_verb : E
  pub no_form : V → E

-- what a line of that verb says, or which form it should have had
abbrev pub with_numbers_in : {V S E : Type 0} → Language V S E → V → Option (List ℕ) → Option S
with_numbers_in l v None = None
with_numbers_in l v (Some ns) = l.said_by v ns

abbrev pub in_form_in : {V S E : Type 0} → Language V S E → V → Option S → Result S E
in_form_in l v None = Err (l.no_form v)
in_form_in l v (Some s) = Ok s

abbrev pub by_verb_in : {V S E : Type 0} → Language V S E → Option V → List (List ℕ) → Result S E
by_verb_in l None ws = Err l.no_verb
by_verb_in l (Some v) ws = in_form_in l v (with_numbers_in l v (numbers_of MAX_NUMBERS ws))

-- a line without words says nothing, nor does one whose first word begins with '#'
abbrev pub by_words_in : {V S E : Type 0} → Language V S E → List (List ℕ) → Result S E
by_words_in l [] = Ok l.pass
by_words_in l (w ∷ ws) = cond (slice_index w 0 == 35) (Ok l.pass) (by_verb_in l (l.verb_of w) ws)

abbrev pub parsed_in : {V S E : Type 0} → Language V S E → List ℕ → Result S E
parsed_in l line = by_words_in l (words line)

-- what was read, without its layout
abbrev pub told_as : {C S E : Type 0} → (C → S) → Result C E → Result S E
told_as said (Ok c) = Ok (said c)
told_as said (Err e) = Err e

-- the verb of that name, or another
abbrev pub named_or : {V : Type 0} → (V → List ℕ) → V → List ℕ → Option V → Option V
named_or name v w o = cond (bytes_eq w (name v)) (Some v) o

-- what is said where no numbers stand, and where sixteen do
abbrev pub alone_in : {S : Type 0} → S → List ℕ → Option S
alone_in s ns = cond (length ns == 0) (Some s) None

abbrev pub sixteen_in : {S : Type 0} → (List ℕ → S) → List ℕ → Option S
sixteen_in s ns = cond (length ns == HUTS) (Some (s ns)) None

-- a verb's name and numbers, with single spaces between them
abbrev pub written_by : List ℕ → List ℕ → List ℕ
written_by name ns = name ++ spaced (map decimal ns)

-- one space more, between words, in front or behind, changes nothing
abbrev pub SpacesDoNotMatterIn : {R : Type 0} → (List ℕ → R) → Type 0
SpacesDoNotMatterIn reads =
    ((a b : List ℕ) → reads (a ++ space ∷ space ∷ b) ≡ reads (a ++ space ∷ b)) × ((a : List ℕ) → reads (space ∷ a) ≡ reads a)
    × ((a : List ℕ) → reads (a ++ space ∷ []) ≡ reads a)

-- 35 is '#'
abbrev pub CommentsSayNothingIn : {S E : Type 0} → (List ℕ → Result S E) → S → Type 0
CommentsSayNothingIn reads s = (text : List ℕ) → reads (35 ∷ text) ≡ Ok s
