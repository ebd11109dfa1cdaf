-- SHA-256 as FIPS 180-4 defines it, section by section. A word is a number below 2 ^ 32, and a byte one below 256.
use Rattle.std.specs.Prelude.{ℕ, zero, suc, ◌+◌, ◌-◌, ◌*◌, ◌/◌, ◌%◌, ◌^◌, List, [], ◌∷◌, ◌++◌, length, take, drop, replicate, bit_and, bit_or, bit_xor, slice_index}
use Rattle.std.specs.List.{flat_map}

-- 2.2.2 and 3.2: the operations on words

abbrev pub sum32 : ℕ → ℕ → ℕ
sum32 x y = (x + y) % 2 ^ 32

abbrev pub not32 : ℕ → ℕ
not32 x = 2 ^ 32 - 1 - x

abbrev pub shr : ℕ → ℕ → ℕ
shr n x = x / 2 ^ n

abbrev pub shl : ℕ → ℕ → ℕ
shl n x = (x * 2 ^ n) % 2 ^ 32

abbrev pub rotr : ℕ → ℕ → ℕ
rotr n x = bit_or (shr n x) (shl (32 - n) x)

-- 4.1.2: the six functions

abbrev pub ch_of : ℕ → ℕ → ℕ → ℕ
ch_of x y z = bit_xor (bit_and x y) (bit_and (not32 x) z)

abbrev pub maj_of : ℕ → ℕ → ℕ → ℕ
maj_of x y z = bit_xor (bit_xor (bit_and x y) (bit_and x z)) (bit_and y z)

abbrev pub big_sigma0 : ℕ → ℕ
big_sigma0 x = bit_xor (bit_xor (rotr 2 x) (rotr 13 x)) (rotr 22 x)

abbrev pub big_sigma1 : ℕ → ℕ
big_sigma1 x = bit_xor (bit_xor (rotr 6 x) (rotr 11 x)) (rotr 25 x)

abbrev pub small_sigma0 : ℕ → ℕ
small_sigma0 x = bit_xor (bit_xor (rotr 7 x) (rotr 18 x)) (shr 3 x)

abbrev pub small_sigma1 : ℕ → ℕ
small_sigma1 x = bit_xor (bit_xor (rotr 17 x) (rotr 19 x)) (shr 10 x)

-- 4.2.2: the round constants
unfoldable pub constants : List ℕ
constants =
    0x428a2f98 ∷ 0x71374491 ∷ 0xb5c0fbcf ∷ 0xe9b5dba5 ∷ 0x3956c25b ∷ 0x59f111f1 ∷ 0x923f82a4 ∷ 0xab1c5ed5
    ∷ 0xd807aa98 ∷ 0x12835b01 ∷ 0x243185be ∷ 0x550c7dc3 ∷ 0x72be5d74 ∷ 0x80deb1fe ∷ 0x9bdc06a7 ∷ 0xc19bf174
    ∷ 0xe49b69c1 ∷ 0xefbe4786 ∷ 0x0fc19dc6 ∷ 0x240ca1cc ∷ 0x2de92c6f ∷ 0x4a7484aa ∷ 0x5cb0a9dc ∷ 0x76f988da
    ∷ 0x983e5152 ∷ 0xa831c66d ∷ 0xb00327c8 ∷ 0xbf597fc7 ∷ 0xc6e00bf3 ∷ 0xd5a79147 ∷ 0x06ca6351 ∷ 0x14292967
    ∷ 0x27b70a85 ∷ 0x2e1b2138 ∷ 0x4d2c6dfc ∷ 0x53380d13 ∷ 0x650a7354 ∷ 0x766a0abb ∷ 0x81c2c92e ∷ 0x92722c85
    ∷ 0xa2bfe8a1 ∷ 0xa81a664b ∷ 0xc24b8b70 ∷ 0xc76c51a3 ∷ 0xd192e819 ∷ 0xd6990624 ∷ 0xf40e3585 ∷ 0x106aa070
    ∷ 0x19a4c116 ∷ 0x1e376c08 ∷ 0x2748774c ∷ 0x34b0bcb5 ∷ 0x391c0cb3 ∷ 0x4ed8aa4a ∷ 0x5b9cca4f ∷ 0x682e6ff3
    ∷ 0x748f82ee ∷ 0x78a5636f ∷ 0x84c87814 ∷ 0x8cc70208 ∷ 0x90befffa ∷ 0xa4506ceb ∷ 0xbef9a3f7 ∷ 0xc67178f2
    ∷ []

-- 3.1: words and a length as bytes, the most significant first

unfoldable pub bytes4 : ℕ → List ℕ
bytes4 x = (x / 2 ^ 24 % 256) ∷ (x / 2 ^ 16 % 256) ∷ (x / 2 ^ 8 % 256) ∷ (x % 256) ∷ []

unfoldable pub bytes8 : ℕ → List ℕ
bytes8 x =
    (x / 2 ^ 56 % 256) ∷ (x / 2 ^ 48 % 256) ∷ (x / 2 ^ 40 % 256) ∷ (x / 2 ^ 32 % 256)
    ∷ (x / 2 ^ 24 % 256) ∷ (x / 2 ^ 16 % 256) ∷ (x / 2 ^ 8 % 256) ∷ (x % 256) ∷ []

-- the word at the byte i
abbrev pub word_at : List ℕ → ℕ → ℕ
word_at bytes i = slice_index bytes i * 2 ^ 24 + slice_index bytes (i + 1) * 2 ^ 16 + slice_index bytes (i + 2) * 2 ^ 8 + slice_index bytes (i + 3)

-- 5.1.1: the padding

-- how many zero bytes follow the byte 0x80, so that they and the length fill a block
unfoldable pub zeros : ℕ → ℕ
zeros n = (119 - n % 64) % 64

-- what follows a message of n bytes
unfoldable pub padding : ℕ → ℕ → List ℕ
padding n bits = 0x80 ∷ (replicate (zeros n) 0 ++ bytes8 bits)

-- the length in bits is below 2 ^ 64 for every message that FIPS 180-4 allows
unfoldable pub padded : List ℕ → List ℕ
padded m = m ++ padding (length m) (8 * length m % 2 ^ 64)

-- 5.3.3: the initial hash value
unfoldable pub initial : List ℕ
initial = 0x6a09e667 ∷ 0xbb67ae85 ∷ 0x3c6ef372 ∷ 0xa54ff53a ∷ 0x510e527f ∷ 0x9b05688c ∷ 0x1f83d9ab ∷ 0x5be0cd19 ∷ []

-- 6.2.2, step 1: the message schedule

-- the first n words of a block
unfoldable pub words : ℕ → List ℕ → List ℕ
words zero block = []
words (suc n) block = words n block ++ (word_at block (4 * n) ∷ [])

-- the word t of the schedule, from those before it
abbrev pub next_word : List ℕ → ℕ → ℕ
next_word ws t =
    sum32 (sum32 (sum32 (small_sigma1 (slice_index ws (t - 2))) (slice_index ws (t - 7))) (small_sigma0 (slice_index ws (t - 15)))) (slice_index ws (t - 16))

-- n more words
unfoldable pub extended : ℕ → List ℕ → List ℕ
extended zero ws = ws
extended (suc n) ws = extended n ws ++ (next_word (extended n ws) (length (extended n ws)) ∷ [])

unfoldable pub schedule_of : List ℕ → List ℕ
schedule_of block = extended 48 (words 16 block)

-- 6.2.2, steps 2 and 3: the rounds, on the eight words a, b, c, d, e, f, g and h

abbrev pub first_sum : List ℕ → ℕ → ℕ → ℕ
first_sum s k w = sum32 (sum32 (sum32 (sum32 (slice_index s 7) (big_sigma1 (slice_index s 4))) (ch_of (slice_index s 4) (slice_index s 5) (slice_index s 6))) k) w

abbrev pub second_sum : List ℕ → ℕ
second_sum s = sum32 (big_sigma0 (slice_index s 0)) (maj_of (slice_index s 0) (slice_index s 1) (slice_index s 2))

abbrev pub round_of : List ℕ → ℕ → ℕ → List ℕ
round_of s k w =
    sum32 (first_sum s k w) (second_sum s) ∷ slice_index s 0 ∷ slice_index s 1 ∷ slice_index s 2
    ∷ sum32 (slice_index s 3) (first_sum s k w) ∷ slice_index s 4 ∷ slice_index s 5 ∷ slice_index s 6 ∷ []

-- the first n rounds
unfoldable pub rounds : ℕ → List ℕ → List ℕ → List ℕ
rounds zero s ws = s
rounds (suc n) s ws = round_of (rounds n s ws) (slice_index constants n) (slice_index ws n)

-- 6.2.2, step 4: the state after a block

unfoldable pub sums : List ℕ → List ℕ → List ℕ
sums [] ys = []
sums (x ∷ xs) [] = []
sums (x ∷ xs) (y ∷ ys) = sum32 x y ∷ sums xs ys

abbrev pub compress_of : List ℕ → List ℕ → List ℕ
compress_of s block = sums (rounds 64 s (schedule_of block)) s

-- 6.2.2: the blocks one after the other, and the digest

-- n blocks of 64 bytes
unfoldable pub hashed : ℕ → List ℕ → List ℕ → List ℕ
hashed zero s bytes = s
hashed (suc n) s bytes = hashed n (compress_of s (take 64 bytes)) (drop 64 bytes)

-- all the whole blocks
unfoldable pub absorbed : List ℕ → List ℕ → List ℕ
absorbed s bytes = hashed (length bytes / 64) s bytes

unfoldable pub digest_of : List ℕ → List ℕ
digest_of m = flat_map bytes4 (absorbed initial (padded m))
