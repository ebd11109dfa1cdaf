-- Hexadecimal digits in pairs, each of which writes a byte.
use Rattle.std.proofs.Common.{◌≡◌, ℕ, zero, suc, ◌/◌, ◌%◌, ◌<◌, ◌+◌, Bool, true, false, cond, List, [], ◌∷◌, ◌++◌, map, length, get_or, take, refl, sym, ap, ◌∙◌, append_assoc, arith, ◌==◌}
use Rattle.std.proofs.lemmas.List.{map_push, take_more}
use Rattle.std.specs.Simd.{first_chunks}
use Rattle.console.specs.Hexes.{is_digit, all_digits, is_hex, byte_of, bytes_of}

abbrev pub pair_byte : List ℕ → ℕ
pair_byte p = byte_of (get_or p 0 0) (get_or p 1 0)

pub bytes_by_pairs : (n : ℕ) (w : List ℕ) → n ≡ length w / 2 → map pair_byte (first_chunks 2 n w) ≡ bytes_of w
bytes_by_pairs zero [] whole = refl
bytes_by_pairs zero (a ∷ []) whole = refl
bytes_by_pairs zero (a ∷ b ∷ w) whole = absurd (omega (arith, whole))
bytes_by_pairs (suc n) [] whole = absurd (omega (arith, whole))
bytes_by_pairs (suc n) (a ∷ []) whole = absurd (omega (arith, whole))
bytes_by_pairs (suc n) (a ∷ b ∷ w) whole = ap (λ bs. byte_of a b ∷ bs) (bytes_by_pairs n w (omega (arith, whole)))

both : (s t : Bool) → cond s t false ≡ true → (s ≡ true) × (t ≡ true)
both true t h = (refl, h)
both false t h = absurd (grind (arith, h))

pub hex_digits : (w : List ℕ) → is_hex w ≡ true → all_digits w ≡ true
hex_digits w hex = (both (length w % 2 == 0) (all_digits w) hex).1

pub pair_digits :
    (n : ℕ) (w : List ℕ) (i : ℕ) (d : List ℕ) → n ≡ length w / 2 → i < n → all_digits w ≡ true
    → (is_digit (get_or (get_or (first_chunks 2 n w) i d) 0 0) ≡ true) × (is_digit (get_or (get_or (first_chunks 2 n w) i d) 1 0) ≡ true)
pair_digits zero w i d whole within all = absurd (omega arith)
pair_digits (suc n) [] i d whole within all = absurd (omega (arith, whole))
pair_digits (suc n) (a ∷ []) i d whole within all = absurd (omega (arith, whole))
pair_digits (suc n) (a ∷ b ∷ w) zero d whole within all =
    let first = both (is_digit a) (all_digits (b ∷ w)) all in
    (first.0, (both (is_digit b) (all_digits w) first.1).0)
pair_digits (suc n) (a ∷ b ∷ w) (suc i) d whole within all =
    let first = both (is_digit a) (all_digits (b ∷ w)) all in
    pair_digits n w i d (omega (arith, whole)) (omega arith) (both (is_digit b) (all_digits w) first.1).1

-- one more byte
pub pairs_on :
    (ps : List (List ℕ)) (i b : ℕ) (start before now : List ℕ) → i < length ps → before ≡ start ++ map pair_byte (take i ps) → b ≡ pair_byte (get_or ps i [])
    → now ≡ before ++ b ∷ [] → now ≡ start ++ map pair_byte (take (i + 1) ps)
pairs_on ps i b start before now within before-is b-is now-is =
    now-is ∙ ap (λ t. before ++ t ∷ []) b-is ∙ ap (λ bs. bs ++ pair_byte (get_or ps i []) ∷ []) before-is
    ∙ append_assoc start (map pair_byte (take i ps)) (pair_byte (get_or ps i []) ∷ [])
    ∙ ap (λ bs. start ++ bs) (sym (ap (map pair_byte) (take_more ps i [] within) ∙ map_push pair_byte (take i ps) (get_or ps i [])))
