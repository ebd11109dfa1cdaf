-- The schedule of a block: its length, its words, and how they are stored one by one.
use Rattle.std.proofs.Common.{◌≡◌, ℕ, zero, suc, ◌+◌, ◌-◌, ◌*◌, ◌<◌, ◌≤◌, List, [], ◌∷◌, ◌++◌, length, get_or, take, drop, set, replicate, sym, refl, ap, ◌∙◌, ⊎_elim, append_assoc, add-one, arith, take-append-drop, length-take-le, take_all, drop-drop, get_or-take, get_or-drop}
use lib.ListN.{get_or-append}
use lib.Seq.{take-append-le, set_at, get_or_at}
use Rattle.std.proofs.lemmas.List.{length_push}
use Rattle.std.proofs.lemmas.Bool.{cases_lt}
use native.Mathlib.Numerals.{unary_clauses}
use Rattle.std.specs.Simd.{first_chunks}
use Rattle.digest.specs.Sha256.{word_at, words, next_word, extended, schedule_of}
use Rattle.digest.specs.Laws.{ScheduleRecurs}

pub length-words : (n : ℕ) (block : List ℕ) → length (words n block) ≡ n
unfolding words
length-words zero block = refl
length-words (suc n) block = length_push (words n block) _ ∙ ap (λ k. k + 1) (length-words n block) ∙ add-one n

words_more : (n : ℕ) (block : List ℕ) → words (n + 1) block ≡ words n block ++ (word_at block (4 * n) ∷ [])
unfolding words
words_more n block = rw (add-one n)

words-at : (n : ℕ) (block : List ℕ) (t : ℕ) → t < n → get_or (words n block) t 0 ≡ word_at block (4 * t)
unfolding words
words-at zero block t h = absurd (omega arith)
words-at (suc n) block t h =
    let long = length-words n block in
    ⊎_elim
    (λ l. get_or-append (words n block) _ 0 t (omega arith) ∙ words-at n block t l)
    (λ l. let e : t ≡ n = omega arith in get_or_at (words n block) _ [] 0 t (omega arith) ∙ ap (λ k. word_at block (4 * k)) (sym e))
    (cases_lt t n)

-- a part of the block is taken from its own first byte on
chunk_at : (n k : ℕ) (xs : List ℕ) (t : ℕ) (d : List ℕ) → t < k → get_or (first_chunks n k xs) t d ≡ take n (drop (n * t) xs)
chunk_at n zero xs t d h = absurd (omega arith)
chunk_at n (suc k) xs zero d h = let front : n * 0 ≡ 0 = omega arith in rw front refl
chunk_at n (suc k) xs (suc t) d h =
    let more : n + n * t ≡ n * suc t = simp unary_clauses (omega arith) in
    chunk_at n k (drop n xs) t d (omega arith) ∙ ap (take n) (drop-drop (n * t) n xs) ∙ ap (λ i. take n (drop i xs)) more

byte_in : (block : List ℕ) (t i : ℕ) → i < 4 → get_or (take 4 (drop (4 * t) block)) i 0 ≡ get_or block (4 * t + i) 0
byte_in block t i h = get_or-take 4 (drop (4 * t) block) i 0 h ∙ get_or-drop (4 * t) block i 0

-- the number that the part t of a block is
abbrev pub number_of : List ℕ → ℕ
number_of four = get_or four 0 0 * 16777216 + get_or four 1 0 * 65536 + get_or four 2 0 * 256 + get_or four 3 0

pub chunk_word : (block : List ℕ) (k t : ℕ) (d : List ℕ) → t < k → number_of (get_or (first_chunks 4 k block) t d) ≡ word_at block (4 * t)
chunk_word block k t d h =
    let here : 4 * t + 0 ≡ 4 * t = omega arith in
    let first = byte_in block t 0 (omega arith) ∙ ap (λ i. get_or block i 0) here in
    let second = byte_in block t 1 (omega arith) in
    let third = byte_in block t 2 (omega arith) in
    let last = byte_in block t 3 (omega arith) in
    rw (chunk_at 4 k block t d h, first, second, third, last) refl

-- one more word of the block is stored, over a zero
pub word_stored : (block : List ℕ) (t v : ℕ) → t < 16 → v ≡ word_at block (4 * t)
    → set (words t block ++ replicate (64 - t) 0) t v ≡ words (t + 1) block ++ replicate (64 - (t + 1)) 0
word_stored block t v h e =
    let here : 64 - t ≡ suc (63 - t) = omega arith in
    let there : 64 - (t + 1) ≡ 63 - t = omega arith in
    let stored = set_at (words t block) 0 (replicate (63 - t) 0) v t (length-words t block) in
    let joins = append_assoc (words t block) (word_at block (4 * t) ∷ []) (replicate (63 - t) 0) in
    rw (here, there, stored, e, words_more t block) (sym joins)

pub length-extended : (n : ℕ) (ws : List ℕ) → length (extended n ws) ≡ length ws + n
unfolding extended
length-extended zero ws = omega arith
length-extended (suc n) ws = let long = length-extended n ws in length_push (extended n ws) _ ∙ omega arith

-- the first words stay
pub take-extended : (n : ℕ) (ws : List ℕ) (k : ℕ) → length ws ≡ k → take k (extended n ws) ≡ ws
unfolding extended
take-extended zero ws k h = take_all k ws (omega arith)
take-extended (suc n) ws k h =
    let long = length-extended n ws in
    take-append-le k (extended n ws) _ (omega arith) ∙ take-extended n ws k h

extended_front : (n : ℕ) (ws : List ℕ) (t : ℕ) → t < length ws → get_or (extended n ws) t 0 ≡ get_or ws t 0
extended_front n ws t h = sym (get_or-take (length ws) (extended n ws) t 0 h) ∙ ap (λ l. get_or l t 0) (take-extended n ws (length ws) refl)

-- the next word depends on those before it alone
pub next_front : (xs ys : List ℕ) (t : ℕ) → 16 ≤ t → t ≤ length xs → next_word (xs ++ ys) t ≡ next_word xs t
next_front xs ys t l h =
    let at2 = get_or-append xs ys 0 (t - 2) (omega arith) in
    let at7 = get_or-append xs ys 0 (t - 7) (omega arith) in
    let at15 = get_or-append xs ys 0 (t - 15) (omega arith) in
    let at16 = get_or-append xs ys 0 (t - 16) (omega arith) in
    simp (at2, at7, at15, at16)

pub next_take : (w : List ℕ) (t : ℕ) → 16 ≤ t → t ≤ length w → next_word (take t w) t ≡ next_word w t
next_take w t l h =
    let long : t ≤ length (take t w) = omega (arith, length-take-le t w h) in
    sym (next_front (take t w) (drop t w) t l long) ∙ ap (λ x. next_word x t) (take-append-drop t w)

extended-at : (n : ℕ) (ws : List ℕ) (t : ℕ) → 16 ≤ length ws → length ws ≤ t → t < length ws + n
    → get_or (extended n ws) t 0 ≡ next_word (extended n ws) t
unfolding extended
extended-at zero ws t g l h = absurd (omega arith)
extended-at (suc n) ws t g l h =
    let long = length-extended n ws in
    let keeps : t ≤ length (extended n ws) = omega arith in
    let next = next_front (extended n ws) (next_word (extended n ws) (length (extended n ws)) ∷ []) t (omega arith) keeps in
    ⊎_elim
    (λ lt. get_or-append (extended n ws) _ 0 t (omega arith) ∙ extended-at n ws t g l lt ∙ sym next)
    (λ ge. let e : length (extended n ws) ≡ t = omega arith in get_or_at (extended n ws) _ [] 0 t e ∙ ap (next_word (extended n ws)) e ∙ sym next)
    (cases_lt t (length ws + n))

pub schedule_recurs_lem : ScheduleRecurs
unfolding schedule_of
schedule_recurs_lem block =
    let sixteen = length-words 16 block in (
      length-extended 48 (words 16 block) ∙ omega arith,
      λ t h. extended_front 48 (words 16 block) t (omega arith) ∙ words-at 16 block t h,
      λ t l h. extended-at 48 (words 16 block) t (omega arith) (omega arith) (omega arith),
    )
