-- What was shown to anybody as committed stands at its place ever after, and what comes of it.
use Rattle.std.proofs.Common.{◌≡◌, ℕ, suc, ◌+◌, ◌<◌, ◌≤◌, Bool, true, false, cond, ◌⊎◌, List, [], ◌∷◌, ◌++◌, map, length, get_or, take, Some, sym, ap, ◌∙◌, subst, inl, inr, arith}
use Rattle.std.proofs.lemmas.List.{get_or_default, map-append, take-append-le}
use lib.ListN.{length-map}
use Rattle.bookings.proofs.Find.{place_low}
use Rattle.bookings.specs.Books.{book_of, place_from, same_mark}
use Rattle.bookings.specs.Plain.{PlainEntry, PlainMark}
use Rattle.network.specs.Net.{Event, Syncs, after, huts, run, step}
use Rattle.network.specs.Promise.{Always, Prefix}
use Rattle.network.specs.Replicas.{committed_of, tentative_in}
use Rattle.network.specs.Shown.{CameOn, CommittedOutcome, FoundStays, ShownStays, came_at, committed_later, later_than, shown_by}
use Rattle.network.proofs.Holds.{histories}
use Rattle.network.proofs.Lists.{place_in_first}
use Rattle.network.proofs.Outcomes.{outcome_stays}
use Rattle.network.proofs.Parts.{committed_older, prefix_either, prefix_full, prefix_trans}
use Rattle.network.proofs.Safety.{after_holds, lasts, order_in}
use Rattle.network.proofs.Slipping.{sync_durable}
use Rattle.network.proofs.Steps.{run_becomes, step_becomes}

-- of what a hut showed as committed and what any has so later, one is the beginning of the other
shown_order :
    (es : List Event) (i : ℕ) → i < huts → (later : List Event) (j : ℕ)
    → Prefix (shown_by es i) (committed_later es i later j)
    ⊎ Prefix (committed_later es i later j) (shown_by es i)
shown_order es i low later j =
    let n = after es in
    let m = step (Syncs i) n in
    let I = (step_becomes (Syncs i) n (after_holds es)).holds in
    let was = shown_by es i in
    let is = committed_later es i later j in
    let all = committed_of (histories (run later m) i) in
    let stays = lasts m I later i (histories n i) (sync_durable n i low) in
    let kept = committed_older (histories n i) (histories (run later m) i) stays in
    elim (order_in (run later m) (run_becomes later m I).2.holds i j) [
      | inl p ↦ inl (prefix_trans was all is kept p)
      | inr p ↦ prefix_either was is all kept p
    ]

-- two lists of which one begins the other, up to where both reach
module _ (a b : List PlainEntry) (either : Prefix a b ⊎ Prefix b a) where
  same_place :
      (p : ℕ) (d e : PlainEntry) → p < length a → p < length b → get_or b p e ≡ get_or a p d
  same_place p d e in_a in_b = elim either [
    | inl q ↦ ap (λ (l : List PlainEntry). get_or l p e) q.1 ∙ place_in_first a q.0 p e in_a
        ∙ get_or_default a p e d in_a
    | inr q ↦ get_or_default b p e d in_b ∙ sym (place_in_first b q.0 p d in_b)
        ∙ sym (ap (λ (l : List PlainEntry). get_or l p d) q.1)
  ]

  same_front : (n : ℕ) → n ≤ length a → n ≤ length b → take n b ≡ take n a
  same_front n in_a in_b = elim either [
    | inl q ↦ ap (take n) q.1 ∙ take-append-le n a q.0 in_a
    | inr q ↦ sym (take-append-le n b q.0 in_b) ∙ sym (ap (take n) q.1)
  ]

  came_grown : (p : ℕ) → length a ≤ length b → p < length a → CameOn a b p
  came_grown p shorter low = elim either [
    | inl q ↦ subst (λ (l : List PlainEntry). CameOn a l p) (sym q.1) (outcome_stays a q.0 p low)
    | inr q ↦ λ d. inl (ap (λ (l : List PlainEntry). came_at l p) (sym (prefix_full b a q shorter)))
  ]

pub shown_stays : Always ShownStays
shown_stays es i place d low lt later j e in_j =
    same_place (shown_by es i) (committed_later es i later j) (shown_order es i low later j) place d e
    lt in_j

-- where a mark is found does not hang on what follows
more_found :
    (m : PlainMark) (i p : ℕ) (ms ns : List PlainMark) → place_from i m ms ≡ Some p
    → place_from i m (ms ++ ns) ≡ Some p
more_found m i p [] ns e = absurd (let z : ◌≡◌ {A = ℕ} 0 1 = cc in omega arith)
more_found m i p (x ∷ ms) ns e = by (same_mark m x) (more_found m (suc i) p ms ns) e
  where
    by :
        (b : Bool) → (place_from (suc i) m ms ≡ Some p → place_from (suc i) m (ms ++ ns) ≡ Some p)
        → cond b (Some i) (place_from (suc i) m ms) ≡ Some p
        → cond b (Some i) (place_from (suc i) m (ms ++ ns)) ≡ Some p
    by true further q = q
    by false further q = further q

less_found :
    (m : PlainMark) (i p : ℕ) (ms ns : List PlainMark) → place_from i m (ms ++ ns) ≡ Some p
    → p < i + length ms → place_from i m ms ≡ Some p
less_found m i p [] ns e low = absurd (let from = place_low m i p ns e in omega arith)
less_found m i p (x ∷ ms) ns e low =
    by (same_mark m x) (λ q. less_found m (suc i) p ms ns q (omega arith)) e
  where
    by :
        (b : Bool) → (place_from (suc i) m (ms ++ ns) ≡ Some p → place_from (suc i) m ms ≡ Some p)
        → cond b (Some i) (place_from (suc i) m (ms ++ ns)) ≡ Some p
        → cond b (Some i) (place_from (suc i) m ms) ≡ Some p
    by true further q = q
    by false further q = further q

abbrev marks : List PlainEntry → List PlainMark
marks l = map (λ e. e.mark) l

-- the same of lists of entries
found_more :
    (m : PlainMark) (p : ℕ) (a b : List PlainEntry) → place_from 0 m (marks a) ≡ Some p
    → place_from 0 m (marks (a ++ b)) ≡ Some p
found_more m p a b q =
    ap (place_from 0 m) (map-append (λ e. e.mark) a b) ∙ more_found m 0 p (marks a) (marks b) q

found_less :
    (m : PlainMark) (p : ℕ) (a b : List PlainEntry) → place_from 0 m (marks (a ++ b)) ≡ Some p
    → p < length a → place_from 0 m (marks a) ≡ Some p
found_less m p a b q low =
    less_found m 0 p (marks a) (marks b) (sym (ap (place_from 0 m) (map-append (λ e. e.mark) a b))
    ∙ q) (omega (arith, low, length-map a (λ (e : PlainEntry). e.mark)))

found_same :
    (m : PlainMark) (p : ℕ) (a b : List PlainEntry) → Prefix a b ⊎ Prefix b a
    → place_from 0 m (marks a) ≡ Some p → p < length b → place_from 0 m (marks b) ≡ Some p
found_same m p a b (inl q) at low =
    ap (λ (l : List PlainEntry). place_from 0 m (marks l)) q.1 ∙ found_more m p a q.0 at
found_same m p a b (inr q) at low =
    found_less m p b q.0 (sym (ap (λ (l : List PlainEntry). place_from 0 m (marks l)) q.1) ∙ at) low

pub found_stays : Always FoundStays
found_stays es i place m low at later j in_j =
    let cs = shown_by es i in
    let ds = committed_later es i later j in
    let there =
    found_same m place cs ds (shown_order es i low later j)
    (found_less m place cs (tentative_in ((after es).hut i)) at.0 at.1) in_j in
    (found_more m place ds (tentative_in ((later_than es i later).hut j)) there, in_j)

pub committed_outcome : Always CommittedOutcome
committed_outcome es i place low lt later j in_j =
    let cs = shown_by es i in
    let ds = committed_later es i later j in
    let either = shown_order es i low later j in (
      record {
        as_many = λ n in_cs in_ds. ap book_of (same_front cs ds either n in_cs in_ds);
        more = λ shorter. came_grown cs ds either place shorter lt;
        fewer = λ shorter. came_grown ds cs (turned either) place shorter in_j;
      },
      outcome_stays ds (tentative_in ((later_than es i later).hut j)) place in_j,
    )
  where
    turned : {A B : Type 0} → A ⊎ B → B ⊎ A
    turned (inl a) = inr a
    turned (inr b) = inl b
