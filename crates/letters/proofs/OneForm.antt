-- The bytes of what is read of an entry are the one encoding of it.
use Rattle.std.proofs.Common.{◌≡◌, ℕ, ◌^◌, ◌<◌, ◌≤◌, ltb, List, [], ◌∷◌, ◌++◌, length, get_or, drop, sym, ap, ◌∙◌, subst, arith}
use Rattle.std.specs.List.{flat_map}
use Rattle.bookings.specs.Plain.{PlainMark, PlainChoice}
use Rattle.bookings.specs.declared.limits.TheConstants.{MAX_CHOICES}
use Rattle.letters.specs.Answers.{got, read_times}
use Rattle.letters.specs.Format.{two, four, encode_mark, encode_choice, encode_choices, number_of_two, number_of_four, mark_at, choice_at, read_one, read_two, read_four, read_mark, read_choice, read_choices}
use Rattle.letters.specs.Laws.{Bytes}
use Rattle.letters.proofs.Bytes.{byte_at, bytes_drop, split_one, split-two, split-four, split_five, two_back, four_back}
use Rattle.letters.proofs.Exact.{Exact, having-got, exact_then, exact_unless, exact_times}

-- a block of n bytes, of which the value v is read
block :
    {A : Type 0} (n : ℕ) (bs : List ℕ) (v a : A) (r : List ℕ) (enc : A → List ℕ) (P : A → Type 0) → Bytes bs → got v (drop n bs) ≡ got a r
    → bs ≡ enc v ++ drop n bs → P v → (bs ≡ enc a ++ r) × (P a × Bytes r)
block n bs v a r enc P bytes h same ok =
    let v-is : v ≡ a = cc in
    let r-is : drop n bs ≡ r = cc in
    (same ∙ ap (λ x. enc x ++ drop n bs) v-is ∙ ap (λ xs. enc a ++ xs) r-is, (subst P v-is ok, subst Bytes r-is (bytes_drop n bs bytes)))

pub exact_one : Exact [] read_one (λ n. n ∷ []) (λ n. n < 256)
exact_one bs a r bytes h =
    let there = having-got 1 bs _ a r h in
    block 1 bs (get_or bs 0 0) a r (λ n. n ∷ []) (λ n. n < 256) bytes there.1 (split_one bs there.0) (byte_at bs 0 bytes)

pub exact_two : Exact [] read_two two (λ n. n < 65536)
exact_two bs a r bytes h =
    let there = having-got 2 bs _ a r h in
    let b0 = byte_at bs 0 bytes in
    let b1 = byte_at bs 1 bytes in
    block 2 bs (number_of_two bs) a r two (λ n. n < 65536) bytes there.1
    (split-two bs there.0 ∙ ap (λ xs. xs ++ drop 2 bs) (sym (two_back (get_or bs 0 0) (get_or bs 1 0) b0 b1)))
    (omega (arith, b0, b1))

four_bytes : (bs : List ℕ) → Bytes bs → four (number_of_four bs) ≡ get_or bs 0 0 ∷ get_or bs 1 0 ∷ get_or bs 2 0 ∷ get_or bs 3 0 ∷ []
four_bytes bs bytes =
    four_back (get_or bs 0 0) (get_or bs 1 0) (get_or bs 2 0) (get_or bs 3 0) (byte_at bs 0 bytes) (byte_at bs 1 bytes) (byte_at bs 2 bytes) (byte_at bs 3 bytes)

four_small : (bs : List ℕ) → Bytes bs → number_of_four bs < 2 ^ 32
four_small bs bytes =
    omega (arith, byte_at bs 0 bytes, byte_at bs 1 bytes, byte_at bs 2 bytes, byte_at bs 3 bytes)

pub exact_four : Exact [] read_four four (λ n. n < 2 ^ 32)
exact_four bs a r bytes h =
    let there = having-got 4 bs _ a r h in
    block 4 bs (number_of_four bs) a r four (λ n. n < 2 ^ 32) bytes there.1
    (split-four bs there.0 ∙ ap (λ xs. xs ++ drop 4 bs) (sym (four_bytes bs bytes)))
    (four_small bs bytes)

abbrev pub MarkFits : PlainMark → Type 0
MarkFits m = m.stamp < 2 ^ 32

pub exact_mark : Exact [] read_mark encode_mark MarkFits
exact_mark bs a r bytes h =
    let there = having-got 5 bs _ a r h in
    block 5 bs (mark_at bs) a r encode_mark MarkFits bytes there.1
    (split_five bs there.0 ∙ ap (λ xs. xs ++ (get_or bs 4 0 ∷ drop 5 bs)) (sym (four_bytes bs bytes)))
    (four_small bs bytes)

choice-bytes : (bs : List ℕ) → 5 ≤ length bs → Bytes bs → bs ≡ encode_choice (choice_at bs) ++ drop 5 bs
choice-bytes (a ∷ bs) long bytes =
    let b0 = byte_at bs 0 bytes.1 in
    let b1 = byte_at bs 1 bytes.1 in
    ap {B = List ℕ} (λ t. a ∷ t)
    (split-four bs (omega arith) ∙ ap (λ xs. xs ++ (get_or bs 2 0 ∷ get_or bs 3 0 ∷ drop 4 bs)) (sym (two_back (get_or bs 0 0) (get_or bs 1 0) b0 b1)))
choice-bytes [] long bytes = absurd (omega arith)

-- every choice of bytes is one
abbrev pub AnyChoice : PlainChoice → Type 0
AnyChoice c = Unit {0}

pub exact_choice : Exact [] read_choice encode_choice AnyChoice
exact_choice bs a r bytes h =
    let there = having-got 5 bs _ a r h in
    block 5 bs (choice_at bs) a r encode_choice AnyChoice bytes there.1 (choice-bytes bs there.0 bytes) tt

abbrev pub AnyChoices : List PlainChoice → Type 0
AnyChoices cs = Unit {0}

-- the count stands before the choices
pub exact_choices : Exact [] read_choices encode_choices AnyChoices
exact_choices =
    exact_then [] read_one (λ n. n ∷ []) (λ n. n < 256) _ encode_choices AnyChoices exact_one
    (λ n small. exact_unless (n ∷ []) (ltb MAX_CHOICES n) (read_times read_choice n) encode_choices AnyChoices (λ few. counted n))
  where
    counted : (n : ℕ) → Exact (n ∷ []) (read_times read_choice n) encode_choices AnyChoices
    counted n bs cs r bytes h =
        let these = exact_times read_choice encode_choice AnyChoice exact_choice n bs cs r bytes h in
        (ap {B = List ℕ} (λ t. n ∷ t) these.0 ∙ ap (λ k. k ∷ (flat_map encode_choice cs ++ r)) (sym these.1.0.0), (tt, these.1.1))
