-- Bytes taken in block by block.
use Rattle.std.proofs.Common.{◌≡◌, ℕ, zero, suc, ◌+◌, ◌*◌, ◌/◌, ◌%◌, ◌<◌, ◌≤◌, List, [], ◌∷◌, ◌++◌, length, take, drop, sym, refl, ap, ◌∙◌, append_assoc, add-one, arith, length-append, length-drop, take-append-drop, length-take-le, take_all}
use lib.Seq.{take-append-le, drop-append-le}
use Rattle.std.specs.List.{fold}
use Rattle.std.specs.Simd.{first_chunks}
use Rattle.digest.specs.Progress.{Cut}
use Rattle.digest.specs.Sha256.{compress_of, hashed, absorbed}

hashed_more : (n : ℕ) (s bytes : List ℕ) → hashed (n + 1) s bytes ≡ hashed n (compress_of s (take 64 bytes)) (drop 64 bytes)
unfolding hashed
hashed_more n s bytes = rw add-one

absorbed_more : (s bytes : List ℕ) → 64 ≤ length bytes → absorbed s bytes ≡ absorbed (compress_of s (take 64 bytes)) (drop 64 bytes)
unfolding absorbed
absorbed_more s bytes h =
    let count : length bytes / 64 ≡ length (drop 64 bytes) / 64 + 1 = simp length-drop (omega arith) in
    ap (λ n. hashed n s bytes) count ∙ hashed_more (length (drop 64 bytes) / 64) s bytes

pub absorbed_last : (s block : List ℕ) → length block ≡ 64 → absorbed s block ≡ compress_of s block
unfolding absorbed hashed
absorbed_last s block h = rw h (ap (compress_of s) (take_all 64 block (omega arith)))

absorbed_none : (s : List ℕ) → absorbed s [] ≡ s
unfolding absorbed hashed
absorbed_none s = refl

-- n whole blocks, and then the rest
absorbed-blocks : (n : ℕ) (s whole rest : List ℕ) → length whole ≡ 64 * n → absorbed s (whole ++ rest) ≡ absorbed (absorbed s whole) rest
absorbed-blocks zero s [] rest h = ap (λ x. absorbed x rest) (sym (absorbed_none s))
absorbed-blocks zero s (x ∷ whole) rest h = absurd (omega arith)
absorbed-blocks (suc n) s whole rest h =
    let le : 64 ≤ length whole = omega arith in
    let long : 64 ≤ length (whole ++ rest) = simp length-append (omega arith) in
    let left : length (drop 64 whole) ≡ 64 * n = simp length-drop (omega arith) in
    let all = absorbed_more s (whole ++ rest) long in
    let part = absorbed_more s whole le in
    let front = take-append-le 64 whole rest le in
    let back = drop-append-le 64 whole rest le in
    let on = absorbed-blocks n (compress_of s (take 64 whole)) (drop 64 whole) rest left in
    cc

pub absorbed_front : (s whole rest : List ℕ) → length whole % 64 ≡ 0 → absorbed s (whole ++ rest) ≡ absorbed (absorbed s whole) rest
absorbed_front s whole rest h = absorbed-blocks (length whole / 64) s whole rest (omega arith)

pub cut_none : (s bytes : List ℕ) → Cut s bytes s bytes
cut_none s bytes = record { whole = []; split = refl; blocks = refl; made = sym (absorbed_none s) }

-- more bytes come
pub cut-push : {s bytes state rest : List ℕ} (more : List ℕ) → Cut s bytes state rest → Cut s (bytes ++ more) state (rest ++ more)
cut-push {s} {bytes} {state} {rest} more cut = record {
  whole = cut.whole;
  split = rw cut.split (append_assoc cut.whole rest more);
  blocks = cut.blocks;
  made = cut.made;
}

-- the blocks of what was left
pub cut_join : {s bytes state rest state' rest' : List ℕ} → Cut s bytes state rest → Cut state rest state' rest' → Cut s bytes state' rest'
cut_join {s} {bytes} {state} {rest} {state'} {rest'} cut cut' = record {
  whole = cut.whole ++ cut'.whole;
  split = rw (cut.split, cut'.split) (sym (append_assoc cut.whole cut'.whole rest'));
  blocks = simp length-append (omega (arith, cut.blocks, cut'.blocks));
  made = rw (cut'.made, cut.made) (sym (absorbed_front s cut.whole cut'.whole cut.blocks));
}

-- one block
pub cut_block : (s block rest : List ℕ) → length block ≡ 64 → Cut s (block ++ rest) (compress_of s block) rest
cut_block s block rest h = record { whole = block; split = refl; blocks = omega arith; made = sym (absorbed_last s block h) }

-- the state after the blocks that some bytes are cut into, one after the other
pub hashed_folded : (n : ℕ) (s bytes : List ℕ) → fold compress_of s (first_chunks 64 n bytes) ≡ hashed n s bytes
unfolding hashed
hashed_folded zero s bytes = refl
hashed_folded (suc n) s bytes = hashed_folded n (compress_of s (take 64 bytes)) (drop 64 bytes)

absorbed_short : (s rest : List ℕ) → length rest < 64 → absorbed s rest ≡ s
unfolding absorbed hashed
absorbed_short s rest h = let none : length rest / 64 ≡ 0 = omega arith in ap (λ n. hashed n s rest) none

-- all the whole blocks
pub cut_all : (s bytes state rest : List ℕ) → state ≡ hashed (length bytes / 64) s bytes → rest ≡ drop (length bytes / 64 * 64) bytes → Cut s bytes state rest
unfolding absorbed
cut_all s bytes state rest state-is rest-is =
    let m = length bytes / 64 * 64 in
    let long : length (take m bytes) ≡ m = length-take-le m bytes (omega arith) in
    let whole : length (take m bytes) % 64 ≡ 0 = omega arith in
    let parts : take m bytes ++ drop m bytes ≡ bytes = take-append-drop m bytes in
    let short : length (drop m bytes) < 64 = simp length-drop (omega arith) in
    record {
      whole = take m bytes;
      split = sym (ap (λ r. take m bytes ++ r) rest-is ∙ parts);
      blocks = whole;
      made =
          state-is ∙ ap (absorbed s) (sym parts) ∙ absorbed_front s (take m bytes) (drop m bytes) whole
          ∙ absorbed_short (absorbed s (take m bytes)) (drop m bytes) short;
    }
