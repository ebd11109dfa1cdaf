-- A call is refused by the lowest number whose condition holds.
use Rattle.std.proofs.Common.{◌≡◌, ℕ, zero, suc, ◌+◌, ◌<◌, ◌≤◌, Bool, true, false, not, T, leb, ◌⊎◌, List, length, get_or, Some, None, Option, sym, refl, ap, subst, inl, inr, arith, le→leb, leb→le}
use lib.Dec.{not_T}
use Rattle.std.proofs.lemmas.Bool.{cases_lt}
use Rattle.bookings.specs.Books.{named_by}
use Rattle.bookings.specs.Plain.{PlainEntry, PlainKind, PlainMark}
use Rattle.bookings.specs.declared.limits.TheConstants.{HUTS}
use Rattle.entry_log.proofs.Stamps.{vector_at}
use Rattle.entry_log.specs.Logs.{all_of, has}
use Rattle.entry_log.specs.Vectors.{covers, covers_from, highest, vector_of}
use Rattle.network.specs.Refusing.{ByLowest, HasMark, Lowest, NamesUnknown, NoRoom, SaysMore}
use Rattle.network.proofs.Marks.{has_one, one_has}
use Rattle.network.proofs.Numbers.{covers_at, highest_above, highest_one}
use Rattle.network.proofs.Tests.{cond_by, or_either, or_first, or_second}
use Rattle.replica.specs.Model.{State, capacity, is_full, last_stamp, names_unknown, no_room}

-- the lowest number is one
some_is : (a b : ℕ) → ◌≡◌ {A = Option ℕ} (Some a) (Some b) → a ≡ b
some_is a b q = cc

never-some : (a : ℕ) → ◌≡◌ {A = Option ℕ} None (Some a) → ⊥
never-some a q = let z : ◌≡◌ {A = ℕ} 0 1 = cc in omega arith

lowest_one : (Why : ℕ → Type 0) (a b : ℕ) → Lowest Why a → Lowest Why b → a ≡ b
lowest_one Why a b p q = elim (cases_lt a b) [
  | inl lt ↦ absurd (q.1 a lt p.0)
  | inr le ↦ elim (cases_lt b a) [ inl lt ↦ absurd (p.1 b lt q.0) | inr ge ↦ omega arith ]
]

pub refused-lowest : (Why : ℕ → Type 0) (n : ℕ) → Lowest Why n → ByLowest Why (Some n)
refused-lowest Why n low =
    record {
      refused = λ m. (
        λ q. subst (Lowest Why) (some_is n m q) low,
        λ other. ap Some
            (lowest_one Why n m low other),
      );
      allowed = (λ q. absurd (never-some n (sym q)), λ none. absurd (none n low.0));
    }

pub allowed-lowest : (Why : ℕ → Type 0) → ((n : ℕ) → Why n → ⊥) → ByLowest Why None
allowed-lowest Why none =
    record {
      refused = λ m. (λ q. absurd (never-some m q), λ low. absurd (none m low.0));
      allowed = (λ q. none, λ n. refl);
    }

-- the tests of the code say what the conditions say
pub has_mark : (m : PlainMark) (l : List PlainEntry) → T (has m l) → HasMark m l
has_mark m l t = has_one m l t

pub mark_has : (m : PlainMark) (l : List PlainEntry) → HasMark m l → T (has m l)
mark_has m l (k, d, q) = subst (λ (x : PlainMark). T (has x l)) q (one_has k l d)

pub full_says : (stamp : ℕ) (s : State) → T (no_room s stamp) → NoRoom stamp s
full_says stamp s t =
    or_either (is_full s) (leb last_stamp stamp) t
    (λ u. inl (leb→le capacity (length (all_of s.log)) u)) (λ u. inr (leb→le last_stamp stamp u))

pub says_full : (stamp : ℕ) (s : State) → NoRoom stamp s → T (no_room s stamp)
says_full stamp s (inl le) =
    or_first (is_full s) (leb last_stamp stamp) (le→leb capacity (length (all_of s.log)) le)
says_full stamp s (inr le) =
    or_second (is_full s) (leb last_stamp stamp) (le→leb last_stamp stamp le)

pub unknown_says : (k : PlainKind) (s : State) → T (names_unknown (named_by k) s) → NamesUnknown k s
unknown_says k s t = by (named_by k) refl t
  where
    by : (o : Option PlainMark) → named_by k ≡ o → T (names_unknown o s) → NamesUnknown k s
    by None q t = absurd t
    by (Some m) q t =
        (m, q, λ known. not_both (has m (all_of s.log)) t (mark_has m (all_of s.log) known))
      where
        not_both : (b : Bool) → T (not b) → T b → ⊥
        not_both true n t = n
        not_both false n t = t

pub says_unknown : (k : PlainKind) (s : State) → NamesUnknown k s → T (names_unknown (named_by k) s)
says_unknown k s (m, q, new) =
    subst (λ (o : Option PlainMark). T (names_unknown o s)) (sym q)
    (not_T (has m (all_of s.log)) (λ t. new (has_mark m (all_of s.log) t)))

-- one vector covers another, or lacks something of it
covers-or_lacks :
    (a b : List ℕ) (h n : ℕ) → (covers_from a b h n ≡ true)
    ⊎ ((k : ℕ) × (k < h + n) × (get_or a k 0 < get_or b k 0))
covers-or_lacks a b h zero = inl refl
covers-or_lacks a b h (suc n) =
    cond_by (λ (x : Bool). (x ≡ true)
    ⊎ ((k : ℕ) × (k < h + suc n)
    × (get_or a k 0 < get_or b k 0))) (leb (get_or b h 0) (get_or a h 0))
    (covers_from a b (suc h) n) false
    (λ _. elim (covers-or_lacks a b (suc h) n)
    [ inl q ↦ inl q | inr (k, low, lt) ↦ inr (k, omega arith, lt) ])
    (λ never. inr (h, omega arith, not_le never))
  where
    not_le : (T (leb (get_or b h 0) (get_or a h 0)) → ⊥) → get_or a h 0 < get_or b h 0
    not_le never =
        elim (cases_lt (get_or a h 0) (get_or b h 0))
        [ inl lt ↦ lt | inr le ↦ absurd (never (le→leb (get_or b h 0) (get_or a h 0) le)) ]

pub lacks_says :
    (v : List ℕ) (s : State) → T (not (covers (vector_of (all_of s.log)) v)) → SaysMore v s
unfolding covers
lacks_says v s t = elim (covers-or_lacks (vector_of (all_of s.log)) v 0 HUTS) [
  | inl q ↦ absurd (subst (λ (b : Bool). T (not b)) q t)
  | inr (h, low, lt) ↦
      let at = vector_at (all_of s.log) h (omega (arith, low)) in (
        h,
        omega (arith, low),
        omega (arith, lt),
        λ e d same. omega (
          arith,
          lt,
          at,
          subst (λ (x : ℕ). e.mark.stamp ≤ highest (all_of s.log) x) same
              (highest_above e (all_of s.log) d),
        ),
      )
]

pub says_lacks :
    (v : List ℕ) (s : State) → SaysMore v s → covers (vector_of (all_of s.log)) v ≡ true → ⊥
says_lacks v s (h, low, some, above) t =
    let at = vector_at (all_of s.log) h low in
    let k =
    highest_one (all_of s.log) h (get_or v h 0) some
    (omega (arith, at, covers_at (vector_of (all_of s.log)) v t h low)) in
    omega (arith, k.3, above k.0 k.1 k.2)
