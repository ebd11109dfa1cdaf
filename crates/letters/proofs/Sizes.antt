-- How many bytes the parts of an entry take.
use Rattle.std.proofs.Common.{◌≡◌, ℕ, ◌*◌, ◌≤◌, List, [], ◌∷◌, map, length, take, refl, arith}
use Rattle.std.specs.List.{flat_map}
use Rattle.bookings.specs.Plain.{PlainChoice, PlainKind, book, cancel, change, supply}
use Rattle.bookings.specs.Ranges.{KindOk}
use Rattle.letters.specs.Format.{encode_choice, encode_kind, four}
use Rattle.letters.specs.Laws.{EntrySmall}
use Rattle.letters.specs.declared.limits.TheConstants.{WAITING_ROOM}

pub length_choices : (cs : List PlainChoice) → length (flat_map encode_choice cs) ≡ 5 * length cs
length_choices [] = refl
length_choices (c ∷ cs) = let rest = length_choices cs in omega (arith, rest)

kind_small : (k : PlainKind) → KindOk k → length (encode_kind k) ≤ 27
kind_small (book guest cs) ok = omega (arith, ok.0, length_choices cs)
kind_small (cancel m) ok = omega arith
kind_small (change m cs) ok = omega (arith, ok.1.0, length_choices cs)
kind_small (supply c) ok = omega arith

pub entry_small_lem : EntrySmall
entry_small_lem e ok = let small = kind_small e.kind ok.1 in omega (arith, small)

pub length_stamps : (xs : List ℕ) → length (flat_map four xs) ≡ 4 * length xs
length_stamps [] = refl
length_stamps (x ∷ xs) = let rest = length_stamps xs in omega (arith, rest)

-- a loop that adds up the lengths of what a list holds, each of `WAITING_ROOM` bytes at most
module _ {A X : Type 0} (enc : A → List ℕ) (f : X → A) (all : List X) where
  pub record Sums (sum i : ℕ) : Type 0 where
    pub value : sum ≡ length (flat_map enc (map f (take i all)))
    pub small : sum ≤ WAITING_ROOM * i
