-- What a vector is printed as: its stamps, with a space between two.
use Rattle.std.specs.Prelude.{ℕ, List, [], ◌∷◌, ◌++◌, decimal}

-- stamps, each with a space before it
unfoldable pub stamps_behind : List ℕ → List ℕ
stamps_behind [] = []
stamps_behind (n ∷ ns) = 32 ∷ (decimal n ++ stamps_behind ns)

abbrev pub vector_text : List ℕ → List ℕ
vector_text [] = []
vector_text (n ∷ ns) = decimal n ++ stamps_behind ns
