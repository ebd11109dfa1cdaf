-- Stamps and the bytes that they are kept as.
use Rattle.std.proofs.Common.{◌≡◌, ℕ, suc, ◌+◌, ◌*◌, ◌/◌, ◌%◌, ◌^◌, ◌<◌, List, [], ◌∷◌, ◌++◌, length, get_or, set, drop, ⊎_elim, refl, sym, ap, ◌∙◌, arith}
use Rattle.std.proofs.lemmas.Bool.{cases_lt}
use Rattle.std.proofs.lemmas.Grind.{get_or-set_at}
use Rattle.std.proofs.lemmas.List.{get_or-set_other}
use Rattle.std.specs.Prelude.{All}
use Rattle.letters.specs.Format.{four, number_of_four}
use Rattle.letters.proofs.Bytes.{four_back}
use Rattle.guest.specs.Slips.{slip_bytes}

pub four_bytes_each : (ss : List ℕ) → length (slip_bytes ss) ≡ 4 * length ss
four_bytes_each [] = refl
four_bytes_each (x ∷ xs) = omega (arith, four_bytes_each xs)

-- four bytes tell the number
one_number :
    (x y : ℕ) → x < 2 ^ 32 → y < 2 ^ 32 → x / 16777216 % 256 ≡ y / 16777216 % 256 → x / 65536 % 256 ≡ y / 65536 % 256
    → x / 256 % 256 ≡ y / 256 % 256 → x % 256 ≡ y % 256 → x ≡ y
one_number x y small-x small-y a b c d = omega arith

pub stamps_told :
    (s t : List ℕ) → length s ≡ length t → All (λ n. n < 2 ^ 32) s → All (λ n. n < 2 ^ 32) t → slip_bytes s ≡ slip_bytes t → s ≡ t
stamps_told [] [] long small-s small-t same = refl
stamps_told [] (y ∷ t) long small-s small-t same = absurd (omega arith)
stamps_told (x ∷ s) [] long small-s small-t same = absurd (omega arith)
stamps_told (x ∷ s) (y ∷ t) long small-s small-t same =
    let first =
    one_number x y (small-s 0 0 (omega arith)) (small-t 0 0 (omega arith)) (ap (λ bs. get_or bs 0 0) same) (ap (λ bs. get_or bs 1 0) same) (ap (λ bs. get_or bs 2 0) same)
    (ap (λ bs. get_or bs 3 0) same) in
    let rest =
    stamps_told s t (omega arith) (λ k d h. small-s (suc k) d (omega (arith, h))) (λ k d h. small-t (suc k) d (omega (arith, h)))
    (ap (λ bs. drop 4 bs) same) in
    ap (λ z. z ∷ s) first ∙ ap {B = List ℕ} (λ zs. y ∷ zs) rest

-- stamps that are the numbers of bytes, four by four, have these bytes
pub bytes_back :
    (ss bs : List ℕ) → length bs ≡ 4 * length ss → ((k : ℕ) → get_or bs k 0 < 256)
    → ((h : ℕ) → h < length ss → get_or ss h 0 ≡ number_of_four (drop (4 * h) bs)) → slip_bytes ss ≡ bs
bytes_back [] [] long small each = refl
bytes_back [] (a ∷ bs) long small each = absurd (omega arith)
bytes_back (s ∷ ss) [] long small each = absurd (omega arith)
bytes_back (s ∷ ss) (a ∷ []) long small each = absurd (omega arith)
bytes_back (s ∷ ss) (a ∷ b ∷ []) long small each = absurd (omega arith)
bytes_back (s ∷ ss) (a ∷ b ∷ c ∷ []) long small each = absurd (omega arith)
bytes_back (s ∷ ss) (a ∷ b ∷ c ∷ d ∷ bs) long small each =
    let first : s ≡ a * 16777216 + b * 65536 + c * 256 + d = each 0 (omega arith) in
    let front : four s ≡ a ∷ b ∷ c ∷ d ∷ [] = ap four first ∙ four_back a b c d (small 0) (small 1) (small 2) (small 3) in
    let rest =
    bytes_back ss bs (omega arith) (λ k. small (suc (suc (suc (suc k)))))
    (λ h lt. let on : 4 * suc h ≡ suc (suc (suc (suc (4 * h)))) = omega arith in each (suc h) (omega arith) ∙ rw on refl) in
    ap (λ xs. xs ++ slip_bytes ss) front ∙ ap {B = List ℕ} (λ xs. a ∷ b ∷ c ∷ d ∷ xs) rest

-- the stamps of the first i huts are right, and so is the next one
pub one_more :
    (F : ℕ → ℕ) (ss : List ℕ) (i s : ℕ) → i < length ss → ((h : ℕ) → h < i → get_or ss h 0 ≡ F h) → s ≡ F i
    → (h : ℕ) → h < i + 1 → get_or (set ss i s) h 0 ≡ F h
one_more F ss i s in-range each is h lt =
    ⊎_elim (λ before. get_or-set_other ss i h s 0 (λ same. omega (arith, before, same)) ∙ each h before)
    (λ after. let same : h ≡ i = omega (arith, lt, after) in get_or-set_at ss i h s 0 same in-range ∙ is ∙ ap F (sym same)) (cases_lt h i)
