-- The huts of a rehearsal, one after another.
use Rattle.std.proofs.Common.{◌≡◌, ◌≢◌, ℕ, ◌+◌, ◌<◌, ◌≤◌, List, [], ◌∷◌, ◌++◌, map, length, get_or, take, Option, Some, None, MatchOption, vec_items, vec_capacity, ⊎_elim, sym, ap, subst, ◌∙◌, arith}
use Rattle.std.specs.List.{AllWithin, HoldsAt}
use Rattle.std.proofs.lemmas.Bool.{cases_eq, cases_lt}
use Rattle.std.proofs.lemmas.List.{get_or-map, get_or-take, get_or_append_left, get_or_push, length-map, length-take-le, map_push, take_all, take_more}
use Rattle.bookings.specs.declared.limits.TheConstants.{HUTS}
use Rattle.journal.specs.History.{empty}
use Rattle.journal.specs.Keeping.{InStep, InMemory, most_bytes, state_by}
use Rattle.replica.specs.Model.{State, fresh}
use Rattle.bookings.specs.Refusals.{number_of}
use Rattle.journal.specs.declared.opened.NotOpened.{NotOpened}
use Rattle.journal.specs.declared.opened.NotOpened.TheVariants.{Memory, Refused, Failed}
use Rattle.network.specs.Casts.{Absent, CastOk}
use Rattle.network.specs.Net.{run}
use Rattle.network.specs.Stages.{Hut, bytes_sent, hut_at, huts_of}
use Rattle.network.specs.Stands.{Stands}
use Rattle.network.specs.declared.stage.Stage.{Stage}
use Rattle.network.proofs.Stages.{at_view}

-- the first replica of a hut is one of that hut, and where none is the first none is
pub hut_told :
    (hut : ℕ) (qs : List Hut) (r : Option ℕ)
    → MatchOption r (AllWithin (λ q. (state_by q).hut ≢ hut) qs 0 (length qs))
    (λ i. (i < length qs) × HoldsAt (λ q. (state_by q).hut ≡ hut) qs i × AllWithin (λ q. (state_by q).hut ≢ hut) qs 0 i)
    → MatchOption r (Absent hut qs) (λ i. (i < length qs) × (hut_at qs i ≡ hut))
hut_told hut qs None none = λ i within. at_view (λ q. state_by q) (fresh 0) (λ s. s.hut ≢ hut) qs i within (λ q. none i q (omega arith) within)
hut_told hut qs (Some i) found = (found.0, at_view (λ q. state_by q) (fresh 0) (λ s. s.hut ≡ hut) qs i found.0 found.1)

module _ (hs : List ℕ) (n : ℕ) (qs : List Hut) (are : map (λ q. state_by q) qs ≡ map fresh (take n hs)) (few : n ≤ length hs) where
  pub as_many : length qs ≡ n
  as_many = sym (length-map qs (λ (q : Hut). state_by q)) ∙ ap length are ∙ length-map (take n hs) fresh ∙ length-take-le n hs few

  -- each replica is of the hut at its place
  pub of_hut : (i : ℕ) → i < n → hut_at qs i ≡ get_or hs i 0
  of_hut i below =
      ap (λ (ss : List State). (get_or ss i (fresh 0)).hut) are
      ∙ ap (λ (s : State). s.hut) (get_or-map fresh (take n hs) i 0 (fresh 0) (omega (arith, length-take-le n hs few))) ∙ get_or-take n hs i 0 below

  -- each hut of a cast can join those before it
  pub can_join : CastOk hs → n < length hs → (get_or hs n 0 < HUTS) × Absent (get_or hs n 0) qs
  can_join fine below = (
    fine.2 n below,
    λ i within same. let before : i < n = omega (arith, within, as_many) in fine.3 i n before below (sym (of_hut i before) ∙ same),
  )

  -- one that joins is none of those before it
  pub joined_differs :
      Absent (get_or hs n 0) qs → ((i j : ℕ) → i < j → j < n → get_or hs i 0 ≡ get_or hs j 0 → ⊥) → (i j : ℕ) → i < j → j < n + 1 → get_or hs i 0 ≡ get_or hs j 0 → ⊥
  joined_differs absent differ i j before within same =
      ⊎_elim (λ last. absent i (omega (arith, as_many)) (of_hut i (omega arith) ∙ same ∙ ap (λ k. get_or hs k 0) last))
      (λ other. differ i j before (omega arith) same) (cases_eq j n)

  pub joined_states :
      (ps : List Hut) (p : Hut) → n < length hs → ps ≡ qs ++ p ∷ [] → state_by p ≡ fresh (get_or hs n 0)
      → map (λ q. state_by q) ps ≡ map fresh (take (n + 1) hs)
  joined_states ps p below is new =
      ap (map (λ (q : Hut). state_by q)) is ∙ map_push (λ (q : Hut). state_by q) qs p ∙ ap (λ ss. ss ++ state_by p ∷ []) are ∙ ap (λ s. map fresh (take n hs) ++ s ∷ []) new
      ∙ sym (ap (map fresh) (take_more hs n 0 below) ∙ map_push fresh (take n hs) (get_or hs n 0))

  -- what holds of each and of one that joins holds of each then
  pub joined_each :
      (P : Hut → Type 0) (ps : List Hut) (p : Hut) → ps ≡ qs ++ p ∷ [] → P p → ((i : ℕ) (q : Hut) → i < n → P (get_or qs i q)) → (i : ℕ) (q : Hut) → i < n + 1 → P (get_or ps i q)
  joined_each P ps p is new each i q within =
      rw is (⊎_elim (λ last. rw (get_or_push qs p q i (as_many ∙ sym last)) new)
      (λ other. rw (get_or_append_left qs (p ∷ []) q i (omega (arith, as_many))) (each i q (omega arith))) (cases_eq i n))

-- the replicas are those of the start
module _ (hs : List ℕ) (s : Stage) (are : map (λ q. state_by q) (huts_of s) ≡ map fresh (take (length hs) hs)) where
  abbrev qs : List Hut
  qs = huts_of s

  below : (i : ℕ) → i < length qs → i < length hs
  below i within = omega (arith, within, as_many hs (length hs) qs are (omega arith))

  at : (i : ℕ) → i < length qs → hut_at qs i ≡ get_or hs i 0
  at i within = of_hut hs (length hs) qs are (omega arith) i (below i within)

  starts :
      vec_items s.letters ≡ [] → ((i : ℕ) → i < length hs → get_or hs i 0 < HUTS)
      → ((i j : ℕ) → i < j → j < length hs → get_or hs i 0 ≡ get_or hs j 0 → ⊥)
      → ((i : ℕ) (q : Hut) → i < length hs → InStep InMemory (get_or qs i q) (empty (state_by (get_or qs i q)).hut))
      → ((i : ℕ) (q : Hut) → i < length hs → most_bytes < vec_capacity (get_or qs i q).journal.medium.held) → Stands s []
  unfolding run
  starts none small differ in_step room =
      record {
        follows =
            record {
              in_step = λ i q within. subst (λ (x : State). InStep InMemory (get_or qs i q) (empty x.hut)) (sym (get_or-map (λ (p : Hut). state_by p) qs i q (fresh 0) within)) (in_step i q (below i within));
              room = λ i q within. room i q (below i within);
              small = λ i within. rw (at i within) (small i (below i within));
              differ = λ i j within there same. one_place i j (below i within) (below j there) (sym (at i within) ∙ same ∙ at j there);
            };
        as_many = ap length letters;
        sent = λ i within. absurd (omega (arith, within, ap length letters));
      }
    where
      letters : bytes_sent s ≡ []
      letters = ap (map (λ l. vec_items l)) none

      one_place : (i j : ℕ) → i < length hs → j < length hs → get_or hs i 0 ≡ get_or hs j 0 → i ≡ j
      one_place i j within there same =
          ⊎_elim (λ before. absurd (differ i j before there same))
          (λ not_before. ⊎_elim (λ behind. absurd (differ j i behind within (sym same))) (λ not_behind. omega arith) (cases_lt j i)) (cases_lt i j)

-- so they are when all huts have joined
pub starts_at :
    (hs : List ℕ) (n : ℕ) (s : Stage) → length hs ≤ n → map (λ q. state_by q) (huts_of s) ≡ map fresh (take n hs) → vec_items s.letters ≡ []
    → ((i : ℕ) → i < n → get_or hs i 0 < HUTS) → ((i j : ℕ) → i < j → j < n → get_or hs i 0 ≡ get_or hs j 0 → ⊥)
    → ((i : ℕ) (q : Hut) → i < n → InStep InMemory (get_or (huts_of s) i q) (empty (state_by (get_or (huts_of s) i q)).hut))
    → ((i : ℕ) (q : Hut) → i < n → most_bytes < vec_capacity (get_or (huts_of s) i q).journal.medium.held) → Stands s []
starts_at hs n s all are none small differ in_step room =
    starts hs s (are ∙ ap (map fresh) (take_all n hs all ∙ sym (take_all (length hs) hs (omega arith)))) none (λ i within. small i (omega arith))
    (λ i j before within same. differ i j before (omega arith) same) (λ i q within. in_step i q (omega arith)) (λ i q within. room i q (omega arith))

-- why a hut cannot join is why a cast cannot be made
pub still_unopened :
    (e : NotOpened) (P Q : Type 0) → (Q → P) → elim e as (λ _. Type 0) [ Memory ↦ Unit {0} | Refused w ↦ (number_of w ≡ 2) × (P → ⊥) | Failed f ↦ ⊥ ]
    → elim e as (λ _. Type 0) [ Memory ↦ Unit {0} | Refused w ↦ (number_of w ≡ 2) × (Q → ⊥) | Failed f ↦ ⊥ ]
still_unopened Memory P Q so told = tt
still_unopened (Refused w) P Q so told = (told.0, λ q. told.1 (so q))
still_unopened (Failed f) P Q so told = told
