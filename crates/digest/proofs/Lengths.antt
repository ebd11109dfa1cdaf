-- How long states and digests are.
use Rattle.std.proofs.Common.{◌≡◌, ℕ, zero, suc, ◌*◌, ◌/◌, List, [], ◌∷◌, length, take, drop, refl, ap, ◌∙◌, arith}
use Rattle.std.specs.List.{flat_map}
use Rattle.digest.specs.Sha256.{bytes4, initial, schedule_of, rounds, sums, compress_of, hashed, absorbed, padded, digest_of}
use Rattle.digest.specs.Laws.{DigestLong}

length-sums : (xs ys : List ℕ) → length xs ≡ length ys → length (sums xs ys) ≡ length xs
unfolding sums
length-sums [] ys h = refl
length-sums (x ∷ xs) [] h = absurd (omega arith)
length-sums (x ∷ xs) (y ∷ ys) h = ap suc (length-sums xs ys (omega arith))

length-rounds : (n : ℕ) (s ws : List ℕ) → length s ≡ 8 → length (rounds n s ws) ≡ 8
unfolding rounds
length-rounds zero s ws h = h
length-rounds (suc n) s ws h = refl

length-hashed : (n : ℕ) (s bytes : List ℕ) → length s ≡ 8 → length (hashed n s bytes) ≡ 8
unfolding hashed
length-hashed zero s bytes h = h
length-hashed (suc n) s bytes h =
    let mixed = length-rounds 64 s (schedule_of (take 64 bytes)) h in
    length-hashed n (compress_of s (take 64 bytes)) (drop 64 bytes) (length-sums (rounds 64 s (schedule_of (take 64 bytes))) s (omega arith) ∙ mixed)

length_bytes : (xs : List ℕ) → length (flat_map bytes4 xs) ≡ 4 * length xs
unfolding bytes4
length_bytes [] = refl
length_bytes (x ∷ xs) = let more = length_bytes xs in omega arith

pub digest_long_lem : DigestLong
unfolding digest_of absorbed initial
digest_long_lem m =
    let eight = length-hashed (length (padded m) / 64) initial (padded m) refl in
    length_bytes (hashed (length (padded m) / 64) initial (padded m)) ∙ ap (λ n. 4 * n) eight
