-- Where a text's words begin and end.
use Rattle.std.proofs.Common.{◌≡◌, cond, not, ltb, ltb-false, Option, None, Some, ℕ, suc, ◌<◌, ◌≤◌, Bool, true, false, eqb, List, [], ◌∷◌, ◌++◌, length, take, drop, sym, refl, ap, ◌∙◌, append_assoc, arith}
use Rattle.std.specs.List.{prefix_len, position_or_len}
use Rattle.std.specs.Option.{unwrap_or}
use Rattle.std.proofs.lemmas.List.{append-nil, nil_from_length}
use Rattle.console.specs.Words.{space, words_after, words, spaces, span}

-- the first place that passes a test, or the end
prefix_step : (p : ℕ → Bool) (x : ℕ) (xs : List ℕ) (t : Bool) → p x ≡ t → prefix_len p xs ≤ length xs → prefix_len p (x ∷ xs) ≤ length (x ∷ xs)
prefix_step p x xs true e within = simp e (omega (arith, within))
prefix_step p x xs false e within = simp e (omega arith)

prefix_within : (p : ℕ → Bool) (xs : List ℕ) → prefix_len p xs ≤ length xs
prefix_within p [] = omega arith
prefix_within p (x ∷ xs) = prefix_step p x xs (p x) refl (prefix_within p xs)

found_by : (n k : ℕ) (t : Bool) → ltb n k ≡ t → n ≤ k → unwrap_or (cond t (Some n) None) k ≡ n
found_by n k true e within = refl
found_by n k false e within = let past : k ≤ n = ltb-false n k e in omega arith

pub found_or_end :
    (test : ℕ → Bool) (xs : List ℕ) (r : Option ℕ) → r ≡ cond (ltb (position_or_len test xs) (length xs)) (Some (position_or_len test xs)) None
    → unwrap_or r (length xs) ≡ position_or_len test xs
found_or_end test xs r r-is =
    ap (λ t. unwrap_or t (length xs)) r-is ∙ found_by (position_or_len test xs) (length xs) _ refl (prefix_within (λ x. not (test x)) xs)

spaces_step : (b : ℕ) (bs : List ℕ) (t : Bool) → eqb b space ≡ t → position_or_len (λ x. not (eqb x space)) bs ≡ spaces bs → position_or_len (λ x. not (eqb x space)) (b ∷ bs) ≡ spaces (b ∷ bs)
spaces_step b bs true e further = simp e (omega (arith, further))
spaces_step b bs false e further = simp e

pub first_no_space : (bs : List ℕ) → position_or_len (λ x. not (eqb x space)) bs ≡ spaces bs
first_no_space [] = refl
first_no_space (b ∷ bs) = spaces_step b bs (eqb b space) refl (first_no_space bs)

span_step : (b : ℕ) (bs : List ℕ) (t : Bool) → eqb b space ≡ t → position_or_len (λ x. eqb x space) bs ≡ span bs → position_or_len (λ x. eqb x space) (b ∷ bs) ≡ span (b ∷ bs)
span_step b bs true e further = simp e
span_step b bs false e further = simp e (omega (arith, further))

pub first_space : (bs : List ℕ) → position_or_len (λ x. eqb x space) bs ≡ span bs
first_space [] = refl
first_space (b ∷ bs) = span_step b bs (eqb b space) refl (first_space bs)

-- spaces in front do not matter
past_head : (b : ℕ) (bs : List ℕ) (t : Bool) → eqb b space ≡ t → words (drop (spaces bs) bs) ≡ words bs → words (drop (spaces (b ∷ bs)) (b ∷ bs)) ≡ words (b ∷ bs)
past_head b bs true e further = simp e further
past_head b bs false e further = simp e

pub words_past_spaces : (bs : List ℕ) → words (drop (spaces bs) bs) ≡ words bs
words_past_spaces [] = refl
words_past_spaces (b ∷ bs) = past_head b bs (eqb b space) refl (words_past_spaces bs)

-- the first byte past the spaces is none
stopped : (b : ℕ) (bs : List ℕ) (t : Bool) → eqb b space ≡ t → spaces (drop (spaces bs) bs) ≡ 0 → spaces (drop (spaces (b ∷ bs)) (b ∷ bs)) ≡ 0
stopped b bs true e further = simp e further
stopped b bs false e further = simp e

pub no_space_past_spaces : (bs : List ℕ) → spaces (drop (spaces bs) bs) ≡ 0
no_space_past_spaces [] = refl
no_space_past_spaces (b ∷ bs) = stopped b bs (eqb b space) refl (no_space_past_spaces bs)

-- a word that is begun goes on up to the next space
begun_step :
    (c : ℕ) (w : List ℕ) (b : ℕ) (bs : List ℕ) (t : Bool) → eqb b space ≡ t
    → words_after (c ∷ (w ++ b ∷ [])) bs ≡ (c ∷ ((w ++ b ∷ []) ++ take (span bs) bs)) ∷ words (drop (span bs) bs)
    → words_after (c ∷ w) (b ∷ bs) ≡ (c ∷ (w ++ take (span (b ∷ bs)) (b ∷ bs))) ∷ words (drop (span (b ∷ bs)) (b ∷ bs))
begun_step c w b bs true e further = simp (e, append-nil)
begun_step c w b bs false e further = simp e (further ∙ ap (λ v. (c ∷ v) ∷ words (drop (span bs) bs)) (append_assoc w (b ∷ []) (take (span bs) bs)))

pub begun_word :
    (c : ℕ) (w bs : List ℕ) → words_after (c ∷ w) bs ≡ (c ∷ (w ++ take (span bs) bs)) ∷ words (drop (span bs) bs)
begun_word c w [] = rw (append-nil w) refl
begun_word c w (b ∷ bs) = begun_step c w b bs (eqb b space) refl (begun_word c (w ++ b ∷ []) bs)

-- a text that begins with no space begins with a word
first_step :
    (b : ℕ) (bs : List ℕ) (t : Bool) → eqb b space ≡ t → spaces (b ∷ bs) ≡ 0
    → (words (b ∷ bs) ≡ take (span (b ∷ bs)) (b ∷ bs) ∷ words (drop (span (b ∷ bs)) (b ∷ bs))) × (0 < span (b ∷ bs))
first_step b bs true e none = absurd (let z : suc (spaces bs) ≡ 0 = simp e at none in omega arith)
first_step b bs false e none = (simp e (begun_word b [] bs), simp e (omega arith))

pub word_first :
    (text : List ℕ) → spaces text ≡ 0 → 0 < length text
    → (words text ≡ take (span text) text ∷ words (drop (span text) text)) × (0 < span text)
word_first [] none some = absurd (omega arith)
word_first (b ∷ bs) none some = first_step b bs (eqb b space) refl none

-- at the terms of the code: `text` is what stands past the spaces, `end` where its first word ends
pub no_word : (line text : List ℕ) → text ≡ drop (spaces line) line → length text ≡ 0 → words line ≡ []
no_word line text text-is empty = sym (words_past_spaces line) ∙ sym (ap words text-is) ∙ ap words (nil_from_length text empty)

pub first_of_line :
    (line text : List ℕ) (end : ℕ) → text ≡ drop (spaces line) line → 0 < length text → end ≡ span text
    → (words line ≡ take end text ∷ words (drop end text)) × (0 < end)
first_of_line line text end text-is some end_is =
    let none : spaces text ≡ 0 = ap spaces text-is ∙ no_space_past_spaces line in
    let first = word_first text none some in
    let same : words line ≡ words text = sym (words_past_spaces line) ∙ sym (ap words text-is) in
    (rw (same, end_is) first.0, rw end_is first.1)
