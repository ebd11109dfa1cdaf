-- What a line says by its verb and its numbers.
use Rattle.std.proofs.Common.{◌≡◌, ℕ, ◌+◌, ◌≤◌, List, ◌∷◌, length, get_or, drop, Some, Option, refl, arith, le-ltb, eq-eqb, ne_eqb}
use Rattle.bookings.specs.Plain.{PlainMark, PlainChoice}
use Rattle.bookings.specs.declared.limits.TheConstants.{HUTS}
use Rattle.console.specs.Commands.{letter, book_with, book_of, change_with, change_of, letter_of}
use Rattle.console.specs.Requests.{mark_of, choices_of}

pub book_says :
    (ns rest : List ℕ) (g : ℕ) (o : Option (List PlainChoice)) → ns ≡ g ∷ rest → o ≡ choices_of rest → book_with g o ≡ book_of ns
book_says ns rest g o ns-is o_is = rw (ns-is, ne_eqb (length (g ∷ rest)) 0 (omega arith), o_is) refl

pub change_says :
    (ns rest : List ℕ) (m : PlainMark) (o : Option (List PlainChoice)) → 2 ≤ length ns → m ≡ mark_of (get_or ns 0 0) (get_or ns 1 0)
    → rest ≡ drop 2 ns → o ≡ choices_of rest → change_with m o ≡ change_of ns
change_says ns rest m o some m-is rest-is o_is = rw (le-ltb (length ns) 2 some, m-is, o_is, rest-is) refl

pub letter_says :
    (ns rest stamps : List ℕ) (n : ℕ) → ns ≡ n ∷ rest → length rest ≡ HUTS → stamps ≡ rest → Some (letter n stamps) ≡ letter_of ns
letter_says ns rest stamps n ns-is sixteen stamps-is = rw (ns-is, eq-eqb (length (n ∷ rest)) (1 + HUTS) (omega (arith, sixteen)), stamps-is) refl
