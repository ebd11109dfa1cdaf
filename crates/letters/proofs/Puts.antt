-- One part put behind another, and room for the next.
use Rattle.std.proofs.Common.{◌≡◌, ℕ, zero, suc, ◌+◌, ◌<◌, ◌≤◌, List, [], ◌∷◌, ◌++◌, map, length, get_or, take, vec_items, ap, ◌∙◌, subst, append_assoc, arith, length-append}
use Rattle.std.specs.List.{flat_map}
use Rattle.std.specs.Global.{Vec}
use Rattle.bookings.specs.Ranges.{Each}
use Rattle.letters.specs.Buffers.{Room, Written}

pub written_then : (a b c : Vec ℕ) (ps qs : List ℕ) → Written a b ps → Written b c qs → Written a c (ps ++ qs)
written_then a b c ps qs one two =
    record {
      items = two.items ∙ ap (λ xs. xs ++ qs) one.items ∙ append_assoc (vec_items a) ps qs;
      len = omega (arith, one.len, two.len, length-append ps qs);
      capacity = two.capacity ∙ one.capacity;
    }

pub written_as : (a b : Vec ℕ) (ps qs : List ℕ) → ps ≡ qs → Written a b ps → Written a b qs
written_as a b ps qs same one = subst (Written a b) same one

pub room_first : (v : Vec ℕ) (ps qs : List ℕ) → Room v (ps ++ qs) → Room v ps
room_first v ps qs room = omega (arith, room, length-append ps qs)

pub room_then : (a b : Vec ℕ) (ps qs : List ℕ) → Room a (ps ++ qs) → Written a b ps → Room b qs
room_then a b ps qs room one = omega (arith, room, one.len, one.capacity, length-append ps qs)

-- the bytes of the first i and of the next are no more than those of all
joined_next :
    {A X : Type 0} (enc : A → List ℕ) (f : X → A) (all : List X) (i : ℕ) (d : X) → i < length all
    → length (flat_map enc (map f (take i all))) + length (enc (f (get_or all i d))) ≤ length (flat_map enc (map f all))
joined_next enc f [] i d h = absurd (omega arith)
joined_next enc f (x ∷ xs) zero d h = omega (arith, length-append (enc (f x)) (flat_map enc (map f xs)))
joined_next enc f (x ∷ xs) (suc i) d h =
    let rest = joined_next enc f xs i d (omega arith) in
    omega (arith, rest, length-append (enc (f x)) (flat_map enc (map f (take i xs))), length-append (enc (f x)) (flat_map enc (map f xs)))

-- a loop that writes what a list holds
module _ {A X : Type 0} (enc : A → List ℕ) (f : X → A) (a : Vec ℕ) (all : List X) where
  abbrev pub Writes : Vec ℕ → ℕ → Type 0
  Writes b i = Written a b (flat_map enc (map f (take i all)))

  pub room_next :
      (b : Vec ℕ) (i : ℕ) (d x : X) → i < length all → x ≡ get_or all i d → Room a (flat_map enc (map f all)) → Writes b i → Room b (enc (f x))
  room_next b i d x h x-is room one =
      let next = joined_next enc f all i d h in
      let same : length (enc (f x)) ≡ length (enc (f (get_or all i d))) = ap (λ y. length (enc (f y))) x-is in
      omega (arith, next, same, room, one.len, one.capacity)

-- a loop that finds something of all that a list holds
module _ {A X : Type 0} (P : A → Type 0) (f : X → A) (all : List X) where
  abbrev pub Holds : ℕ → Type 0
  Holds i = Each P (map f (take i all))
