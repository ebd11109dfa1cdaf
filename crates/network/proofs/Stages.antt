-- One replica of a stage goes on, and the others stay in step with what is kept of their huts.
use Rattle.std.proofs.Common.{◌≡◌, ◌≢◌, ℕ, zero, suc, ◌<◌, ◌≤◌, List, [], ◌∷◌, map, length, get_or, set, vec_items, cond, Option, Some, None, Result, MatchOption, MatchResult, vec_capacity, sym, refl, ap, subst, ◌∙◌, ◌⊎◌, inl, inr, arith}
use Rattle.std.proofs.lemmas.Bool.{cases_eq, eq-eqb, ne_eqb}
use Rattle.std.proofs.lemmas.Grind.{get_or-set_at}
use Rattle.std.proofs.lemmas.Result.{err_from_is_err_and}
use Rattle.std.specs.Global.{Vec}
use Rattle.std.specs.List.{AllWithin, HoldsAt}
use Rattle.std.specs.Result.{IsErrAnd}
use Rattle.std.proofs.lemmas.List.{get_or-map, get_or-set_other, map-set, length-map, length-set}
use Rattle.bookings.specs.Plain.{PlainEntry, PlainKind}
use Rattle.entry_log.specs.Logs.{first_entry}
use Rattle.journal.specs.History.{Kept, Tentative, commits, commits_entry, makes, state_in, synced, wrote}
use Rattle.journal.specs.Keeping.{InStep, InMemory, Moves, state_by, most_bytes}
use Rattle.journal.specs.declared.trouble.Trouble.{Trouble}
use Rattle.journal.specs.declared.trouble.Trouble.TheVariants.{Refused, Failed}
use Rattle.replica.specs.Model.{State, entry_made, fresh, is_primary, make_refusal}
use Rattle.network.specs.Net.{put}
use Rattle.letters.specs.Items.{items_of}
use Rattle.letters.specs.Letters.{read_letter}
use Rattle.network.specs.Taking.{take_bytes}
use Rattle.network.specs.Items.{Letter, items_taken, takes}
use Rattle.network.specs.Stages.{Hut, Follows, SameHuts, Turns, Unmoved, Never, state_at, hut_at, part_of, Unwritten}
use Rattle.network.specs.declared.unplayed.Unplayed.{Unplayed}
use Rattle.network.specs.declared.unplayed.Unplayed.TheVariants as unplayed
use Rattle.network.proofs.Refusals.{unless_by}
use Rattle.network.proofs.Taken.{takes_by}
use Rattle.network.proofs.Tests.{cond_by}

-- what holds of the view of whatever may stand at a place holds of the view there
pub at_view :
    {A B : Type 0} (view : A → B) (d : B) (P : B → Type 0) (xs : List A) (i : ℕ) → i < length xs → ((x : A) → P (view (get_or xs i x))) → P (get_or (map view xs) i d)
at_view view d P [] i within holds = absurd (omega arith)
at_view view d P (x ∷ xs) zero within holds = holds x
at_view view d P (x ∷ xs) (suc i) within holds = at_view view d P xs i (omega arith) holds

pub put_here : {A : Type 0} (i j : ℕ) (x : A) (f : ℕ → A) → j ≡ i → put i x f j ≡ x
put_here i j x f same = ap (λ b. cond b x (f j)) (eq-eqb j i same)

pub put_elsewhere : {A : Type 0} (i j : ℕ) (x : A) (f : ℕ → A) → j ≢ i → put i x f j ≡ f j
put_elsewhere i j x f other = ap (λ b. cond b x (f j)) (ne_eqb j i other)

pub put_same : {A : Type 0} (i : ℕ) (f : ℕ → A) (j : ℕ) → f j ≡ put i (f i) f j
put_same i f j = elim (cases_eq j i) [ inl same ↦ ap f same ∙ sym (put_here i j (f i) f same) | inr other ↦ sym (put_elsewhere i j (f i) f other) ]

-- there is a replica at a place
pub some_hut : (qs : List Hut) (i : ℕ) → i < length qs → Hut
some_hut [] i within = absurd (omega (arith, within))
some_hut (q ∷ qs) i within = q

-- the state of a replica that is read at its place
pub state_here : (qs : List Hut) (i : ℕ) (q : Hut) → i < length qs → q ≡ get_or qs i q → state_at qs i ≡ state_by q
state_here qs i q within is = get_or-map (λ p. state_by p) qs i q (fresh 0) within ∙ ap (λ p. state_by p) (sym is)

-- each place has a replica of the hut that it had
pub same_huts :
    (qs : List Hut) (i : ℕ) (q : Hut) → i < length qs → (state_by q).hut ≡ hut_at qs i → (j : ℕ) → hut_at (set qs i q) j ≡ hut_at qs j
same_huts qs i q within same j =
    ap (λ (ss : List State). (get_or ss j (fresh 0)).hut) (map-set (λ p. state_by p) qs i q) ∙ elim (cases_eq j i) [
      | inl here ↦ ap (λ (s : State). s.hut) (get_or-set_at (map (λ p. state_by p) qs) i j (state_by q) (fresh 0) here (omega (arith, length-map qs (λ (p : Hut). state_by p)))) ∙ same ∙ ap (hut_at qs) (sym here)
      | inr other ↦ ap (λ (s : State). s.hut) (get_or-set_other (map (λ p. state_by p) qs) i j (state_by q) (fresh 0) other)
    ]

module _ (qs : List Hut) (i : ℕ) (q p : Hut) (kept : ℕ → Kept) (within : i < length qs) (is : q ≡ get_or qs i q) (follows : Follows qs kept) where
  pub was : InStep InMemory q (kept (hut_at qs i))
  was = subst (λ r. InStep InMemory r (kept (hut_at qs i))) (sym is) (follows.in_step i q within)

  -- one replica is in step with what is kept of its hut now, and so are the others with what was kept of theirs
  pub followed :
      (k : Kept) → k.hut ≡ (kept (hut_at qs i)).hut → vec_capacity q.journal.medium.held ≤ vec_capacity p.journal.medium.held → InStep InMemory p k
      → Follows (set qs i p) (put (hut_at qs i) k kept) × SameHuts qs (set qs i p)
  followed k own room step = (
    record {
      in_step = λ j r inside. rw (names j) (elim (cases_eq j i) [
        | inl here ↦ rw (get_or-set_at qs i j p r here within, put_here (hut_at qs i) (hut_at qs j) k kept (ap (hut_at qs) here)) step
        | inr other ↦ rw (get_or-set_other qs i j p r other, put_elsewhere (hut_at qs i) (hut_at qs j) k kept (λ e. other (follows.differ j i (low j inside) within e))) (follows.in_step j r (low j inside))
      ]);
      room = λ j r inside. elim (cases_eq j i) [
        | inl here ↦ rw (get_or-set_at qs i j p r here within) (let had = subst (λ (t : Hut). most_bytes < vec_capacity t.journal.medium.held) (sym is) (follows.room i q within) in omega (arith, room, had))
        | inr other ↦ rw (get_or-set_other qs i j p r other) (follows.room j r (low j inside))
      ];
      small = λ j inside. rw (names j) (follows.small j (low j inside));
      differ = λ j l inside there e. follows.differ j l (low j inside) (low l there) (sym (names j) ∙ e ∙ names l);
    },
    names,
  )
    where
      low : (j : ℕ) → j < length (set qs i p) → j < length qs
      low j inside = omega (arith, inside, length-set qs i p)

      same : (state_by p).hut ≡ hut_at qs i
      same =
          ap (λ (s : State). s.hut) step.state ∙ own ∙ sym (ap (λ (s : State). s.hut) was.state)
          ∙ sym (ap (λ (s : State). s.hut) (state_here qs i q within is))

      names : (j : ℕ) → hut_at (set qs i p) j ≡ hut_at qs j
      names = same_huts qs i p within same

-- a step that goes on with the same hut
abbrev pub Steady : (Kept → Kept) → Type 0
Steady step = (k : Kept) → (step k).hut ≡ k.hut

pub makes_steady : (kind : PlainKind) → Steady (makes kind)
makes_steady kind k = unless_by (λ x. x.hut ≡ k.hut) (make_refusal kind (state_in k)) k (wrote (Tentative (entry_made kind (state_in k))) k) (λ _. refl) refl

pub commits_steady : Steady commits
commits_steady k =
    cond_by (λ x. x.hut ≡ k.hut) (is_primary (state_in k)) (commits_entry (first_entry (state_in k).log.tentative) k) k (λ _. first (first_entry (state_in k).log.tentative)) (λ _. refl)
  where
    first : (e : Option PlainEntry) → (commits_entry e k).hut ≡ k.hut
    first None = refl
    first (Some e) = refl

taken_steady : (l : Letter) → Steady (items_taken l)
unfolding items_taken
taken_steady [] k = refl
taken_steady (w ∷ ws) k = taken_steady ws (takes w k) ∙ takes_by (λ x. x.hut ≡ k.hut) w k refl refl

pub heard_steady : (bs : List ℕ) → Steady (take_bytes bs)
heard_steady bs = taken_steady (items_of (read_letter bs))

-- one replica becomes another
module _ (qs : List Hut) (i : ℕ) (q p : Hut) (within : i < length qs) (is : q ≡ get_or qs i q) (room : vec_capacity q.journal.medium.held ≤ vec_capacity p.journal.medium.held) where
  pub turned : (step : Kept → Kept) → Steady step → Moves InMemory q p step → Turns qs (set qs i p) i step
  turned step steady moves kept follows =
      let k = kept (hut_at qs i) in
      followed qs i q p kept within is follows (step k) (steady k) room (moves k (was qs i q p kept within is follows))

  -- where it was refused nothing has changed, and no journal fails that has room
  pub turned_back :
      (L : Type 0) (why : Trouble) → elim why as (λ _. Type 0) [ Refused w ↦ Moves InMemory q p (λ k. k) | Failed f ↦ L ]
      → ((k : Kept) → InStep InMemory q k → most_bytes < vec_capacity q.journal.medium.held → elim why as (λ _. Type 0) [ Refused w ↦ Unit {0} | Failed f ↦ ⊥ ])
      → elim why as (λ _. Type 0) [ Refused w ↦ Turns qs (set qs i p) i (λ k. k) | Failed f ↦ Never qs ]
  turned_back L (Refused w) moves sure = turned (λ k. k) (λ k. refl) moves
  turned_back L (Failed f) moves sure = λ kept follows.
      sure (kept (hut_at qs i)) (was qs i q p kept within is follows) (subst (λ (t : Hut). most_bytes < vec_capacity t.journal.medium.held) (sym is) (follows.room i q within))

-- the error of a call, handed on
pub handed_on :
    {X : Type 0} (P : X → Type 0) (qs ps : List Hut) (i : ℕ) (r : Result X Unplayed) (why : Trouble)
    → IsErrAnd r (λ e. elim why as (λ _. Type 0) [ Refused w ↦ e ≡ unplayed.Refused w | Failed f ↦ e ≡ unplayed.Failed f ])
    → elim why as (λ _. Type 0) [ Refused w ↦ Turns qs ps i (λ k. k) | Failed f ↦ Never qs ] → MatchResult r P (Unmoved qs ps i (λ k. k))
handed_on P qs ps i r (Refused w) is holds = let p = err_from_is_err_and r is in rw (p.1, p.2) holds
handed_on P qs ps i r (Failed f) is holds = let p = err_from_is_err_and r is in rw (p.1, p.2) holds

-- the first letter with some bytes has them, and where none is the first none has
pub letter_told :
    (bs : List ℕ) (ls : List (Vec ℕ)) (r : Option ℕ)
    → MatchOption r (AllWithin (λ l. vec_items l ≢ bs) ls 0 (length ls))
    (λ i. (i < length ls) × HoldsAt (λ l. vec_items l ≡ bs) ls i × AllWithin (λ l. vec_items l ≢ bs) ls 0 i)
    → MatchOption r (Unwritten (map (λ l. vec_items l) ls) bs)
    (λ i. (i < length (map (λ l. vec_items l) ls)) × (get_or (map (λ l. vec_items l) ls) i [] ≡ bs))
letter_told bs ls None none = λ i within.
    let there : i < length ls = omega (arith, within, length-map ls (λ (l : Vec ℕ). vec_items l)) in
    at_view (λ l. vec_items l) [] (λ x. x ≢ bs) ls i there (λ l. none i l (omega arith) there)
letter_told bs ls (Some i) found = (
  omega (arith, found.0, length-map ls (λ (l : Vec ℕ). vec_items l)),
  at_view (λ l. vec_items l) [] (λ x. x ≡ bs) ls i found.0 found.1,
)

-- a part of the letter at a place
pub came_of :
    (ls : List (Vec ℕ)) (i : ℕ) (part : Option ℕ) (v : Vec ℕ) (bs came : List ℕ) → i < length ls → v ≡ get_or ls i v → bs ≡ vec_items v → came ≡ part_of part bs
    → came ≡ part_of part (get_or (map (λ l. vec_items l) ls) i [])
came_of ls i part v bs came within is value part-is =
    part-is ∙ ap (part_of part) (value ∙ ap (λ l. vec_items l) is ∙ sym (get_or-map (λ l. vec_items l) ls i v [] within))
