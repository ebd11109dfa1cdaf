-- Words written out as bytes.
use Rattle.std.proofs.Common.{◌≡◌, ℕ, suc, ◌<◌, List, [], ◌∷◌, length, get_or, refl, arith, suc-le-suc}
use Rattle.std.specs.List.{flat_map}
use Rattle.digest.specs.Sha256.{bytes4}

-- the bytes of each word, one behind the other
pub words_out :
    (words : List ℕ) (parts : List (List ℕ)) → length parts ≡ length words
    → ((i : ℕ) → i < length words → get_or parts i [] ≡ bytes4 (get_or words i 0))
    → flat_map (λ part. part) parts ≡ flat_map bytes4 words
words_out [] [] long each = refl
words_out [] (part ∷ parts) long each = absurd (omega arith)
words_out (word ∷ words) [] long each = absurd (omega arith)
words_out (word ∷ words) (part ∷ parts) long each =
    let first : part ≡ bytes4 word = each 0 (omega arith) in
    let rest : flat_map (λ part. part) parts ≡ flat_map bytes4 words = words_out words parts (omega arith) (λ i h. each (suc i) (suc-le-suc h)) in
    cc
