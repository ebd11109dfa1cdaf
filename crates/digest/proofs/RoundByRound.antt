-- The rounds on a block, with the words that the early ones store.
use Rattle.std.proofs.Common.{◌≡◌, ℕ, suc, ◌+◌, ◌<◌, ◌≤◌, List, [], ◌∷◌, ◌++◌, length, get_or, take, set, replicate, sym, refl, ap, ◌∙◌, suc-le-suc, add-one, arith, take_all, get_or-take, take_at}
use Rattle.digest.specs.Sha256.{sum32, constants, words, next_word, schedule_of, round_of, rounds, sums}
use Rattle.std.proofs.lemmas.List.{take_more, take_more_set}
use Rattle.digest.specs.Progress.{Along}
use Rattle.digest.proofs.Schedules.{length-words, take-extended, next_take, schedule_recurs_lem}

rounds_more : (n : ℕ) (s ws : List ℕ) → rounds (n + 1) s ws ≡ round_of (rounds n s ws) (get_or constants n 0) (get_or ws n 0)
unfolding rounds
rounds_more n s ws = rw add-one

-- one more round
pub round_more : (s ws : List ℕ) (t n : ℕ) {before after : List ℕ} → n ≡ t + 1 → before ≡ rounds t s ws
    → after ≡ round_of before (get_or constants t 0) (get_or ws t 0) → after ≡ rounds n s ws
round_more s ws t n e b a = rw (a, b, e) (sym (rounds_more t s ws))

-- lists that agree below n agree at t
at_front : (xs ys : List ℕ) (n t : ℕ) → t < n → take n xs ≡ take n ys → get_or xs t 0 ≡ get_or ys t 0
at_front xs ys n t h e = sym (get_or-take n xs t 0 h) ∙ ap (λ l. get_or l t 0) e ∙ get_or-take n ys t 0 h

-- the word t of the schedule is stored over a list that has those before it
next_stored : (block w : List ℕ) (t : ℕ) → 16 ≤ t → t < 64 → length w ≡ 64 → take t w ≡ take t (schedule_of block)
    → take (t + 1) (set w t (next_word w t)) ≡ take (t + 1) (schedule_of block)
next_stored block w t l h long e =
    let ws = schedule_of block in
    let laws = schedule_recurs_lem block in
    let full = laws.0 in
    let in-w : t < length w = omega arith in
    let in-ws : t < length ws = omega arith in
    let to-w : t ≤ length w = omega arith in
    let to-ws : t ≤ length ws = omega arith in
    let front = next_take w t l to-w in
    let same = next_take ws t l to-ws in
    let next = laws.2 t l h in
    let stored = take_more_set w t (next_word w t) in-w in
    let more = take_more ws t 0 in-ws in
    cc

pub along_none : (block s w : List ℕ) → w ≡ words 16 block ++ replicate 48 0 → Along block s 0 s w
unfolding rounds schedule_of
along_none block s w e =
    let long = length-words 16 block in
    record {
      mixed = refl;
      stored = rw e (take_at (words 16 block) (replicate 48 0) 16 long) ∙ sym (take-extended 48 (words 16 block) 16 long);
    }

-- a round, and the word that it stores
pub along_more : (block s : List ℕ) (t n m : ℕ) (w v : List ℕ) {before after : List ℕ} → n ≡ t + 1 → m ≡ t + 16 → t < 48 → length w ≡ 64
    → after ≡ round_of before (get_or constants t 0) (get_or w t 0) → v ≡ set w m (next_word w m)
    → Along block s t before w → Along block s n after v
along_more block s t n m w v {before} e g h long a f along =
    let ws = schedule_of block in
    let read : get_or w t 0 ≡ get_or ws t 0 = at_front w ws (t + 16) t (omega arith) along.stored in
    let up : t + 16 + 1 ≡ n + 16 = omega arith in
    let l : 16 ≤ t + 16 = omega arith in
    let k : t + 16 < 64 = omega arith in
    record {
      mixed = round_more s ws t n e along.mixed (a ∙ ap (round_of before (get_or constants t 0)) read);
      stored = rw (f, g, ← up) (next_stored block w (t + 16) l k long along.stored);
    }

-- once forty-eight rounds are done, all words are stored
pub along_all : (block s state w : List ℕ) → length w ≡ 64 → Along block s 48 state w → (state ≡ rounds 48 s w) × (w ≡ schedule_of block)
along_all block s state w long along =
    let full = (schedule_recurs_lem block).0 in
    let same : w ≡ schedule_of block = sym (take_all 64 w (omega arith)) ∙ along.stored ∙ take_all 64 (schedule_of block) (omega arith) in
    (along.mixed ∙ ap (rounds 48 s) (sym same), same)

-- a list of sums, place by place
pub sums_is : (out xs ys : List ℕ) → length out ≡ length xs → length out ≡ length ys
    → ((k : ℕ) → k < length out → get_or out k 0 ≡ sum32 (get_or xs k 0) (get_or ys k 0)) → out ≡ sums xs ys
unfolding sums
sums_is [] [] ys p q h = refl
sums_is [] (x ∷ xs) ys p q h = absurd (omega arith)
sums_is (o ∷ out) [] ys p q h = absurd (omega arith)
sums_is (o ∷ out) (x ∷ xs) [] p q h = absurd (omega arith)
sums_is (o ∷ out) (x ∷ xs) (y ∷ ys) p q h =
    let first : o ≡ sum32 x y = h 0 (omega arith) in
    let rest : out ≡ sums xs ys = sums_is out xs ys (omega arith) (omega arith) (λ k l. h (suc k) (suc-le-suc l)) in
    cc
