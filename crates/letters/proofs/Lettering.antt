-- How long a letter is, and how it comes to be signed.
use Rattle.std.proofs.Common.{◌≡◌, ℕ, ◌+◌, ◌-◌, ◌<◌, ◌≤◌, List, ◌∷◌, ◌++◌, length, take, drop, vec_items, vec_len, vec_capacity, ap, ◌∙◌, arith, length-append, drop_at}
use Rattle.std.specs.List.{flat_map}
use Rattle.std.specs.Global.{Vec}
use Rattle.std.proofs.lemmas.List.{take_rest}
use Rattle.digest.specs.Sha256.{digest_of}
use Rattle.digest.proofs.Lengths.{digest_long_lem}
use Rattle.letters.specs.Buffers.{Room, Written}
use Rattle.letters.specs.Format.{encode, two}
use Rattle.letters.specs.Letters.{PlainLetter, encode_waiting, encode_body, encode_letter}
use Rattle.letters.proofs.Puts.{written_then, written_as, room_then}
use Rattle.letters.specs.declared.limits.TheConstants.{EMPTY_LETTER_BYTES}

pub body_long :
    (l : PlainLetter) → length (encode_body l) ≡ 8 + length (flat_map encode l.committed) + length (flat_map encode_waiting l.tentative)
body_long l =
    omega (arith, length-append (flat_map encode l.committed) (two (length l.tentative) ++ flat_map encode_waiting l.tentative))

pub letter_long :
    (l : PlainLetter) → length (encode_letter l) ≡ EMPTY_LETTER_BYTES + length (flat_map encode l.committed) + length (flat_map encode_waiting l.tentative)
letter_long l =
    omega (arith, length-append (66 ∷ encode_body l) (digest_of (66 ∷ encode_body l)), digest_long_lem (66 ∷ encode_body l), body_long l)

-- what was written behind the buffer's bytes, and then the digest of just that
pub written-signed :
    (a b c : Vec ℕ) (body sum : List ℕ) → length (vec_items b) ≡ vec_len b → Written a b body
    → sum ≡ digest_of (take (length (vec_items b) - vec_len a) (drop (vec_len a) (vec_items b))) → Written b c sum
    → Written a c (body ++ digest_of body)
written-signed a b c body sum b-long one sum_is_lem next =
    let a-long : length (vec_items a) ≡ vec_len a =
    omega (arith, one.len, b-long, ap length one.items, length-append (vec_items a) body) in
    let part : take (length (vec_items b) - vec_len a) (drop (vec_len a) (vec_items b)) ≡ body =
    take_rest (vec_items b) (vec_len a) ∙ ap (drop (vec_len a)) one.items ∙ drop_at (vec_items a) body (vec_len a) a-long in
    written_then a b c body (digest_of body) one (written_as b c sum (digest_of body) (sum_is_lem ∙ ap digest_of part) next)

-- whether a buffer has room, by its memory, its length and the letter's
pub has_room :
    (v : Vec ℕ) (l : PlainLetter) (n cap len : ℕ) → n ≡ length (encode_letter l) → n ≤ cap - len → cap ≡ vec_capacity v → len ≡ vec_len v
    → Room v (encode_letter l)
has_room v l n cap len n-is le cap-is len_is = omega (arith, n-is, le, cap-is, len_is, letter_long l)

pub no_room_lem :
    (v : Vec ℕ) (l : PlainLetter) (n cap len : ℕ) → n ≡ length (encode_letter l) → cap - len < n → cap ≡ vec_capacity v → len ≡ vec_len v
    → Room v (encode_letter l) → ⊥
no_room_lem v l n cap len n-is lt cap-is len_is room = omega (arith, n-is, lt, cap-is, len_is, room)

-- room for the digest, which every digest fits into
pub room_digest : (a b : Vec ℕ) (l : PlainLetter) (m : List ℕ) → Room a (encode_letter l) → Written a b (66 ∷ encode_body l) → Room b (digest_of m)
room_digest a b l m room one =
    let rest = room_then a b (66 ∷ encode_body l) (digest_of (66 ∷ encode_body l)) room one in
    omega (arith, rest, digest_long_lem m, digest_long_lem (66 ∷ encode_body l))
