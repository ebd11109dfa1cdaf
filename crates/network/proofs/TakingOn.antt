-- A letter is taken item by item: what is still to be taken comes to what all of it comes to.
use Rattle.std.proofs.Common.{◌≡◌, ℕ, List, [], ◌∷◌, ◌++◌, Some, None, Option, Ok, Err, Result, MatchResult, sym, refl, ap, ◌∙◌, subst, append_assoc, append-nil}
use Rattle.journal.proofs.Finding.{found_wrote}
use Rattle.bookings.specs.declared.entry.Mark.{Mark}
use Rattle.bookings.specs.declared.refusal.Refusal.{Refusal}
use Rattle.journal.specs.declared.fault.Fault.{Fault}
use Rattle.journal.specs.declared.keeper.Keeper.{Keeper}
use Rattle.journal.specs.declared.trouble.Trouble.{Trouble}
use Rattle.journal.specs.declared.trouble.Trouble.TheVariants.{Refused, Failed}
use Rattle.journal.specs.Keeping.{InStep, Moves}
use Rattle.network.specs.declared.outcome.Outcome.{Outcome}
use Rattle.network.specs.declared.outcome.Outcome.TheVariants.{Skipped}
use Rattle.journal.specs.Finding.{FoundOf}
use Rattle.journal.specs.History.{PlainRecord, Kept, wrote, unless, state_in}
use Rattle.letters.specs.Items.{PlainItem, settled, waiting}
use Rattle.network.specs.Items.{refusal_of, record_of, takes, items_taken}
use Rattle.network.specs.Taking.{PlainOutcome, outcome_of, outcomes_of}

-- what a replica keeps while it takes a letter: `done` came of what it took, and the rest goes on from there
pub record Midway (P : Kept → Type 0) (all rest : List PlainItem) (done : List PlainOutcome) (k : Kept) : Type 0 where
  pub now_kept : Kept
  pub in_step : P now_kept
  pub taken : items_taken rest now_kept ≡ items_taken all k
  pub told : done ++ outcomes_of rest now_kept ≡ outcomes_of all k

pub midway_none : (P : Kept → Type 0) (all : List PlainItem) (done : List PlainOutcome) (k : Kept) → done ≡ [] → P k → Midway P all all done k
midway_none P all done k none p = record { now_kept = k; in_step = p; taken = refl; told = ap (λ os. os ++ outcomes_of all k) none }

-- what is told of an item: it was taken, or skipped since it is refused, and then all is as it was; or the journal failed
pub told_kept :
    (N P S A : Type 0) (R : Refusal → Type 0) (F : Fault → Type 0) (o : Outcome) (m : Mark) (r : Result (Unit {0}) Trouble) (t : Result Outcome Fault)
    → MatchResult r (λ _. t ≡ Ok o) (λ e. elim e [ Refused w ↦ t ≡ Ok (Skipped w m) | Failed f ↦ t ≡ Err f ])
    → MatchResult r (λ _. A) (λ e. elim e [ Refused w ↦ R w | Failed f ↦ F f ]) → MatchResult r (λ _. N) (λ e. elim e [ Refused w ↦ S | Failed f ↦ P ])
    → ((w : Refusal) → R w → S → N) → MatchResult t (λ _. N) (λ _. P)
told_kept N P S A R F o m (Ok x) t is answer kept still = subst (λ (y : Result Outcome Fault). MatchResult y (λ _. N) (λ _. P)) (sym is) kept
told_kept N P S A R F o m (Err (Refused w)) t is answer kept still = subst (λ (y : Result Outcome Fault). MatchResult y (λ _. N) (λ _. P)) (sym is) (still w answer kept)
told_kept N P S A R F o m (Err (Failed f)) t is answer kept still = subst (λ (y : Result Outcome Fault). MatchResult y (λ _. N) (λ _. P)) (sym is) kept

-- a step that comes to nothing
pub moves_none :
    {J : Type 0} (keeps : J → List ℕ → ℕ → Type 0) (before after : Keeper J) (step : Kept → Kept) → ((k : Kept) → InStep keeps before k → step k ≡ k)
    → Moves keeps before after (λ k. k) → Moves keeps before after step
moves_none keeps before after step same moves k in_step = subst (InStep keeps after) (sym (same k in_step)) (moves k in_step)

-- what a stop may leave before an item is taken, it may leave after it, and after more of them
found_takes : (w : PlainItem) (k : Kept) (found : List ℕ) → FoundOf k found → FoundOf (takes w k) found
found_takes w k found f = by_item w
  where
    by_refusal : (r : PlainRecord) (o : Option ℕ) → FoundOf (unless o k (wrote r k)) found
    by_refusal r None = found_wrote r k found f
    by_refusal r (Some n) = f

    by_item : (w : PlainItem) → FoundOf (takes w k) found
    by_item (settled place e) = by_refusal (record_of (settled place e)) (refusal_of (settled place e) (state_in k))
    by_item (waiting x) = by_refusal (record_of (waiting x)) (refusal_of (waiting x) (state_in k))

found_items : (ws : List PlainItem) (k : Kept) (found : List ℕ) → FoundOf k found → FoundOf (items_taken ws k) found
unfolding items_taken
found_items [] k found f = f
found_items (w ∷ ws) k found f = found_items ws (takes w k) found (found_takes w k found f)

module _ (P Q : Kept → Type 0) (all rest left : List PlainItem) (done more : List PlainOutcome) (w : PlainItem) (k : Kept) where
  pub midway_more :
      Midway P all rest done k → rest ≡ w ∷ left → ((m : Kept) → P m → Q (takes w m)) → ((m : Kept) → P m → more ≡ done ++ outcome_of w (refusal_of w (state_in m)) ∷ [])
      → Midway Q all left more k
  unfolding items_taken
  midway_more was is moves notes =
      let m = was.now_kept in
      record {
        now_kept = takes w m;
        in_step = moves m was.in_step;
        taken = ap (λ ws. items_taken ws m) (sym is) ∙ was.taken;
        told =
            ap (λ os. os ++ outcomes_of left (takes w m)) (notes m was.in_step)
            ∙ append_assoc done (outcome_of w (refusal_of w (state_in m)) ∷ []) (outcomes_of left (takes w m))
            ∙ ap (λ ws. done ++ outcomes_of ws m) (sym is)
            ∙ was.told;
      }

-- the next item is not taken, since the journal fails
module _ (P : Kept → Type 0) (all rest left : List PlainItem) (done : List PlainOutcome) (w : PlainItem) (k : Kept) (found : List ℕ) where
  pub midway_fails : Midway P all rest done k → rest ≡ w ∷ left → ((m : Kept) → P m → FoundOf (takes w m) found) → FoundOf (items_taken all k) found
  unfolding items_taken
  midway_fails was is fails =
      let m = was.now_kept in
      subst (λ (x : Kept). FoundOf x found) (ap (λ ws. items_taken ws m) (sym is) ∙ was.taken) (found_items left (takes w m) found (fails m was.in_step))

-- nothing is left: all was taken, and all is told
module _ (P : Kept → Type 0) (all rest : List PlainItem) (done : List PlainOutcome) (k : Kept) (was : Midway P all rest done k) (none : rest ≡ []) where
  pub midway_taken : P (items_taken all k)
  unfolding items_taken
  midway_taken = subst P (ap (λ ws. items_taken ws was.now_kept) (sym none) ∙ was.taken) was.in_step

  pub midway_told : done ≡ outcomes_of all k
  midway_told = sym (append-nil done) ∙ ap (λ ws. done ++ outcomes_of ws was.now_kept) (sym none) ∙ was.told
