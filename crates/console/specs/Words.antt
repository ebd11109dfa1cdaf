-- The words of a line: what stands between spaces. How many spaces stand between two words, before the first or behind the last, does not matter.
use Rattle.std.specs.Prelude.{ℕ, suc, cond, List, [], ◌∷◌, ◌++◌, ◌==◌}

abbrev pub space : ℕ
space = 32

-- the words after one that ends here; no bytes are no word
abbrev pub ended : List ℕ → List (List ℕ) → List (List ℕ)
ended [] ws = ws
ended (b ∷ bs) ws = (b ∷ bs) ∷ ws

-- words, each with a space before it
abbrev pub spaced : List (List ℕ) → List ℕ
spaced [] = []
spaced (w ∷ ws) = space ∷ (w ++ spaced ws)

-- the words of a text, where w stands before it and is a part of its first word
abbrev pub words_after : List ℕ → List ℕ → List (List ℕ)
words_after w [] = ended w []
words_after w (b ∷ bs) = cond (b == space) (ended w (words_after [] bs)) (words_after (w ++ b ∷ []) bs)

abbrev pub words : List ℕ → List (List ℕ)
words line = words_after [] line

-- how many spaces a text begins with
abbrev pub spaces : List ℕ → ℕ
spaces [] = 0
spaces (b ∷ bs) = cond (b == space) (suc (spaces bs)) 0

-- how many bytes stand before the first space
abbrev pub span : List ℕ → ℕ
span [] = 0
span (b ∷ bs) = cond (b == space) 0 (suc (span bs))
