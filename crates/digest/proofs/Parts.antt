-- A message that comes in parts.
use Rattle.std.proofs.Common.{◌≡◌, ℕ, ◌+◌, ◌-◌, ◌%◌, ◌^◌, ◌<◌, ◌≤◌, List, ◌++◌, length, take, drop, sym, refl, subst, append_assoc, append-nil, arith, length-append, length-take-le, take_at}
use Rattle.std.proofs.lemmas.List.{drop_all}
use borrow.Rule.Slice.PartMut.{put_mid, Post-is}
use Rattle.digest.specs.Progress.{Cut}
use Rattle.digest.specs.Sha256.{compress_of, initial}
use Rattle.digest.proofs.BlockByBlock.{cut-push, cut_join, cut_block}

-- the block that `laid` makes
pub laid_is : (block ys part : List ℕ) (at : ℕ) → ys ≡ part
    → put_mid at (at + length part - at) block ys ≡ take at block ++ (part ++ drop (at + length part) block)
laid_is block ys part at e = rw (e, Post-is at (at + length part) block (omega arith))

-- a part is laid after what the block has, and does not fill it
pub kept : (block part out after : List ℕ) (at : ℕ) → at ≤ length block → out ≡ take at block ++ (part ++ after)
    → take (at + length part) out ≡ take at block ++ part
kept block part out after at h e =
    let long : length (take at block ++ part) ≡ at + length part = rw (length-append, length-take-le at block h) in
    rw (e, ← append_assoc) (take_at (take at block ++ part) after (at + length part) long)

-- a part is laid at the front
pub kept_front : (rest after out : List ℕ) → out ≡ rest ++ after → take (length rest) out ≡ rest
kept_front rest after out e = rw e (take_at rest after (length rest) refl)

-- the front of a part fills the block, which is taken in
pub filled_up : (m state block part front back full : List ℕ) (at : ℕ) → at < 64 → length block ≡ 64 → length front ≡ 64 - at → part ≡ front ++ back
    → full ≡ take at block ++ (front ++ drop (at + length front) block) → Cut initial m state (take at block)
    → Cut initial (m ++ part) (compress_of state full) back
filled_up m state block part front back full at h long room p f cut =
    let le : at ≤ length block = omega arith in
    let none = drop_all (at + length front) block (omega arith) in
    let whole : full ≡ take at block ++ front = rw (f, none, append-nil front) in
    let sixty-four : length full ≡ 64 = rw (whole, length-append (take at block) front, length-take-le at block le) (omega arith) in
    let joins : take at block ++ part ≡ full ++ back = rw (p, whole) (sym (append_assoc (take at block) front back)) in
    cut_join (subst (Cut initial (m ++ part) state) joins (cut-push part cut)) (cut_block state full back sixty-four)

pub counted_more : (m part : List ℕ) (count : ℕ) → count ≡ length m % 2 ^ 64 → (count + length part) % 2 ^ 64 ≡ length (m ++ part) % 2 ^ 64
counted_more m part count h = simp length-append (omega arith)
