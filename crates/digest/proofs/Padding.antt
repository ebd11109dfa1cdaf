-- The end of a message: its last blocks, and the padding in them.
use Rattle.std.proofs.Common.{◌≡◌, ℕ, suc, ◌+◌, ◌-◌, ◌*◌, ◌%◌, ◌^◌, ◌<◌, ◌≤◌, List, [], ◌∷◌, ◌++◌, length, take, drop, set, replicate, sym, refl, ap, ◌∙◌, append_assoc, append-nil, arith, length-append, length-drop, take_at}
use lib.ListN.{length-replicate, replicate-append-replicate}
use lib.Seq.{set_at}
use Rattle.std.proofs.lemmas.List.{drop-replicate, drop_all}
use borrow.Rule.Slice.PartMut.{put_mid}
use Rattle.std.specs.List.{flat_map}
use Rattle.digest.specs.Progress.{Cut}
use Rattle.digest.specs.Sha256.{bytes4, compress_of, absorbed, initial, padding, padded, zeros, bytes8, digest_of}
use Rattle.digest.specs.Laws.{PaddingFits}
use Rattle.digest.proofs.BlockByBlock.{absorbed_last, absorbed_front}

-- the padding depends on the length past the last whole block
padding_level : (n k bits : ℕ) → n % 64 ≡ k % 64 → padding n bits ≡ padding k bits
unfolding padding zeros
padding_level n k bits h = rw h

pub cut_digest : (m s rest : List ℕ) (bits : ℕ) → Cut initial m s rest → bits ≡ 8 * length m % 2 ^ 64
    → flat_map bytes4 (absorbed s (rest ++ padding (length rest) bits)) ≡ digest_of m
unfolding digest_of padded
cut_digest m s rest bits cut e =
    let pad = padding (length m) bits in
    let long : length m ≡ length cut.whole + length rest = ap length cut.split ∙ length-append cut.whole rest in
    let level = padding_level (length rest) (length m) bits (omega (arith, cut.blocks)) in
    let front = absorbed_front initial cut.whole (rest ++ pad) cut.blocks in
    let joins = append_assoc cut.whole rest pad in
    cc

-- the last part of a message, as far as the zeros go
abbrev pub end_marked : List ℕ → List ℕ
end_marked rest = rest ++ (128 ∷ replicate (63 - length rest) 0)

-- a front of k zeros from the byte that ends a message
split-zeros : (rest back : List ℕ) (j k : ℕ) → rest ++ (128 ∷ (replicate (j + k) 0 ++ back)) ≡ (rest ++ (128 ∷ replicate j 0)) ++ (replicate k 0 ++ back)
split-zeros rest back j k = rw (← replicate-append-replicate {A = ℕ} j k 0) (simp append_assoc)

length-bytes8 : (bits : ℕ) → 56 + length (bytes8 bits) ≡ 64
unfolding bytes8
length-bytes8 bits = refl

length-end_marked : (rest : List ℕ) (j n : ℕ) → length rest + 1 + j ≡ n → length (rest ++ (128 ∷ replicate j 0)) ≡ n
length-end_marked rest j n h = simp (length-append, length-replicate) (omega arith)

-- the block up to the length, where that fits
front_is : (rest : List ℕ) → length rest < 56 → take 56 (end_marked rest) ≡ rest ++ (128 ∷ replicate (55 - length rest) 0)
front_is rest h =
    let front : List ℕ = rest ++ (128 ∷ replicate (55 - length rest) 0) in
    let more : 63 - length rest ≡ 55 - length rest + 8 = omega arith in
    ap (λ j. take 56 (rest ++ (128 ∷ replicate j 0))) more
    ∙ ap (λ z. take 56 (rest ++ (128 ∷ z))) (sym (replicate-append-replicate (55 - length rest) 8 0))
    ∙ ap (take 56) (sym (append_assoc rest (128 ∷ replicate (55 - length rest) 0) (replicate 8 0)))
    ∙ take_at front (replicate 8 0) 56 (length-end_marked rest (55 - length rest) 56 (omega arith))

pub one_last_block : (s rest : List ℕ) (bits : ℕ) → length rest < 56
    → compress_of s (take 56 (end_marked rest) ++ bytes8 bits) ≡ absorbed s (rest ++ padding (length rest) bits)
unfolding padding zeros
one_last_block s rest bits h =
    let front : List ℕ = rest ++ (128 ∷ replicate (55 - length rest) 0) in
    let gap : (119 - length rest % 64) % 64 ≡ 55 - length rest = omega arith in
    let long : length front ≡ 56 = length-end_marked rest (55 - length rest) 56 (omega arith) in
    let full : length (front ++ bytes8 bits) ≡ 64 = rw (length-append front (bytes8 bits), long) (length-bytes8 bits) in
    let joins = append_assoc rest (128 ∷ replicate (55 - length rest) 0) (bytes8 bits) in
    rw (front_is rest h, gap, ← joins) (sym (absorbed_last s (front ++ bytes8 bits) full))

pub two_last_blocks : (s rest : List ℕ) (bits : ℕ) → 56 ≤ length rest → length rest < 64
    → compress_of (compress_of s (end_marked rest)) (replicate 56 0 ++ bytes8 bits) ≡ absorbed s (rest ++ padding (length rest) bits)
unfolding padding zeros bytes8
two_last_blocks s rest bits h l =
    let last = replicate 56 0 ++ bytes8 bits in
    let gap : (119 - length rest % 64) % 64 ≡ 63 - length rest + 56 = omega arith in
    let full : length (end_marked rest) ≡ 64 = length-end_marked rest (63 - length rest) 64 (omega arith) in
    let whole = ap (λ j. rest ++ (128 ∷ (replicate j 0 ++ bytes8 bits))) gap ∙ split-zeros rest (bytes8 bits) (63 - length rest) 56 in
    sym (
    ap (absorbed s) whole
    ∙ absorbed_front s (end_marked rest) last (omega (arith, full))
    ∙ ap (λ x. absorbed x last) (absorbed_last s (end_marked rest) full)
    ∙ absorbed_last (compress_of s (end_marked rest)) last refl
    )

-- the block that `end_marked` makes: ys is laid over zeros, and then the byte that ends a message
pub end_marked_is : (rest ys : List ℕ) → length rest < 64 → ys ≡ rest
    → set (ys ++ drop (length rest - 0) (replicate 64 0)) (length rest) 128 ≡ end_marked rest
end_marked_is rest ys h e =
    let n = length rest in
    let left : 64 - (n - 0) ≡ suc (63 - n) = omega arith in
    ap (λ l. set (l ++ drop (n - 0) (replicate 64 0)) n 128) e
    ∙ ap (λ l. set (rest ++ l) n 128) (drop-replicate (n - 0) 64 0 ∙ ap (λ j. replicate j 0) left)
    ∙ set_at rest 0 (replicate (63 - n) 0) 128 n refl

-- the block that `with_length` makes: ys is laid over the last eight bytes
pub with_length_is : (block ys last : List ℕ) → length block ≡ 64 → ys ≡ last → put_mid 56 8 block ys ≡ take 56 block ++ last
with_length_is block ys last h e =
    let none : drop 8 (drop 56 block) ≡ [] = drop_all 8 (drop 56 block) (simp length-drop (omega arith)) in
    rw (none, append-nil ys, e)

length-padding : (n bits : ℕ) → length (padding n bits) ≡ 9 + zeros n
unfolding padding bytes8
length-padding n bits = simp (length-append, length-replicate) (omega arith)

pub padding_fits_lem : PaddingFits
unfolding padded zeros
padding_fits_lem m =
    let pad = padding (length m) (8 * length m % 2 ^ 64) in
    let long = length-padding (length m) (8 * length m % 2 ^ 64) in
    (rw (length-append m pad) (omega arith), omega arith, λ k h. omega arith)
