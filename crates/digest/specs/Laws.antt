-- What the definition of SHA-256 comes to.
use Rattle.std.specs.Prelude.{◌≡◌, ℕ, ◌+◌, ◌*◌, ◌%◌, ◌<◌, ◌≤◌, List, [], ◌∷◌, length, codes, slice_index}
use Rattle.std.specs.List.{flat_map}
use Rattle.digest.specs.Sha256.{bytes4, zeros, padded, word_at, next_word, schedule_of, digest_of}
use Rattle.digest.specs.declared.TheConstants.{DIGEST_BYTES}

-- 5.1.1: a padded message is whole blocks, and its zeros are the fewest that leave eight bytes of the last block
abbrev pub PaddingFits : Type 0
PaddingFits =
    (m : List ℕ)
    → (length (padded m) % 64 ≡ 0) × ((length m + 1 + zeros (length m)) % 64 ≡ 56)
    × ((k : ℕ) → (length m + 1 + k) % 64 ≡ 56 → zeros (length m) ≤ k)

-- 6.2.2, step 1: the sixty-four words of a schedule, the first sixteen and then the others
abbrev pub ScheduleRecurs : Type 0
ScheduleRecurs =
    (block : List ℕ)
    → (length (schedule_of block) ≡ 64) × ((t : ℕ) → t < 16 → slice_index (schedule_of block) t ≡ word_at block (4 * t))
    × ((t : ℕ) → 16 ≤ t → t < 64 → slice_index (schedule_of block) t ≡ next_word (schedule_of block) t)

-- the published examples
abbrev pub Published : Type 0
Published =
    (digest_of []
    ≡ flat_map bytes4 (0xe3b0c442 ∷ 0x98fc1c14 ∷ 0x9afbf4c8 ∷ 0x996fb924 ∷ 0x27ae41e4 ∷ 0x649b934c ∷ 0xa495991b ∷ 0x7852b855 ∷ []))
    × (digest_of (codes "abc")
    ≡ flat_map bytes4 (0xba7816bf ∷ 0x8f01cfea ∷ 0x414140de ∷ 0x5dae2223 ∷ 0xb00361a3 ∷ 0x96177a9c ∷ 0xb410ff61 ∷ 0xf20015ad ∷ []))
    × (digest_of (codes "abcdbcdecdefdefgefghfghighijhijkijkljklmklmnlmnomnopnopq")
    ≡ flat_map bytes4 (0x248d6a61 ∷ 0xd20638b8 ∷ 0xe5c02693 ∷ 0x0c3e6039 ∷ 0xa33ce459 ∷ 0x64ff2167 ∷ 0xf6ecedd4 ∷ 0x19db06c1 ∷ []))
    × (digest_of (codes "abcdefghbcdefghicdefghijdefghijkefghijklfghijklmghijklmnhijklmnoijklmnopjklmnopqklmnopqrlmnopqrsmnopqrstnopqrstu")
    ≡ flat_map bytes4 (0xcf5b16a7 ∷ 0x78af8380 ∷ 0x036ce59e ∷ 0x7b049237 ∷ 0x0b249b11 ∷ 0xe8f07a51 ∷ 0xafac4503 ∷ 0x7afee9d1 ∷ []))

-- how long a digest is
abbrev pub DigestLong : Type 0
DigestLong = (m : List ℕ) → length (digest_of m) ≡ DIGEST_BYTES
