-- A letter for what a replica has is taken whole, and what is then lacking is what it had no room for.
use Rattle.std.proofs.Common.{◌≡◌, ℕ, ◌-◌, ◌<◌, eqb, List, [], ◌∷◌, ◌++◌, length, take, drop, None, sym, refl, ap, ◌∙◌, subst, inl, inr, arith, take-append-drop}
use Rattle.entry_log.specs.declared.waiting.TheConstants.{MAX_LETTER_ENTRIES}
use mathlib.Core.List.{Memᴰ}
use lib.Dec.{eqb_refl}
use Rattle.bookings.specs.Plain.{PlainEntry}
use Rattle.journal.specs.History.{Kept, state_in, synced}
use Rattle.replica.specs.Model.{capacity}
use Rattle.letters.specs.Items.{PlainItem, settled, waiting}
use Rattle.network.specs.Items.{Letter, refusal_of, items_taken, takes}
use Rattle.network.specs.Net.{Event, Net, after, with_hut}
use Rattle.network.specs.Promise.{AllTaken, Always, LettersBring, TakenWhole, lacking, letter_to, makings}
use Rattle.network.specs.Replicas.{committed_in, vector_in}
use Rattle.network.proofs.Alone.{sync_step}
use Rattle.network.proofs.Holds.{Becomes, Holds, Said, durables, same_step}
use Rattle.network.proofs.Lacking.{Ahead, Following, lacking_in}
use Rattle.network.proofs.Letters.{Written, all_item, letter-first, written_known}
use Rattle.network.proofs.Lists.{front_not_nil, stands}
use Rattle.network.proofs.Marks.{◌∈◌}
use Rattle.network.proofs.Next.{next}
use Rattle.network.proofs.Refusals.{committed_allowed, tentative_allowed}
use Rattle.network.proofs.Safety.{after_holds, made-few, entries_made}
use Rattle.network.proofs.Sending.{after_sync, item_said}
use Rattle.network.proofs.Taking.{takes_on}
use Rattle.network.proofs.Tests.{Apart, apart_turned, by_same, cond_no, cond_yes}

-- the replica of a hut that was changed, and of another
pub hut_self : (j : ℕ) (x : Kept) (n : Net) → (with_hut j x n).hut j ≡ x
hut_self j x n = cond_yes (eqb j j) x (n.hut j) (eqb_refl j)

pub hut_other : (i j : ℕ) (x : Kept) (n : Net) → Apart i j → (with_hut j x n).hut i ≡ n.hut i
hut_other i j x n apart = cond_no (eqb i j) x (n.hut i) apart

next_at : {every : List PlainEntry} (n : Net) → Holds every n → length every < capacity → (i j : ℕ) (a b : Kept) → n.hut i ≡ a → n.hut j ≡ b → Ahead a b
next_at n I few i j a b p q = subst (λ (x : Kept). Ahead x b) p (subst (λ (y : Kept). Ahead (n.hut i) y) q (next n I few i j))

module _ {every : List PlainEntry} (n : Net) (I : Holds every n) (few : length every < capacity) (i j : ℕ) (apart : Apart i j) where
  -- hut i has synced, and hut j has taken some items
  abbrev with_reader : Kept → Net
  with_reader x = with_hut j x (after_sync n I i)

  -- one item more
  whole-step :
      (w : PlainItem) (ws rest : Letter) (x : Kept) → Becomes every (after_sync n I i) (with_reader x) → lacking_in (n.hut i) x ≡ w ∷ (ws ++ rest)
      → (refusal_of w (state_in x) ≡ None) × Becomes every (after_sync n I i) (with_reader (takes w x)) × (lacking_in (n.hut i) (takes w x) ≡ ws ++ rest)
  whole-step w ws rest x b q =
      elim (next_at (with_reader x) b.holds few i j (synced (n.hut i)) x (hut_other i j x (after_sync n I i) apart ∙ hut_self i (synced (n.hut i)) n) (hut_self j x (after_sync n I i))) [
        | inl p ↦ absurd (let a = p.0 in let z : ◌≡◌ {A = ℕ} 0 1 = cc in omega arith)
        | inr f ↦ go f
      ]
    where
      true-item : Said (durables (after_sync n I i)) w
      true-item = item_said n I i w (all_item (length (committed_in x)) (vector_in x) (n.hut i) w (subst (Memᴰ w) (sym q) (Memᴰ.head refl)))

      go :
          Following (synced (n.hut i)) x
          → (refusal_of w (state_in x) ≡ None) × Becomes every (after_sync n I i) (with_reader (takes w x)) × (lacking_in (n.hut i) (takes w x) ≡ ws ++ rest)
      go f =
          let a = f.is in
          let same : f.w ≡ w = cc in
          let tail : f.ws ≡ ws ++ rest = cc in (
            subst (λ (y : PlainItem). refusal_of y (state_in x) ≡ None) same f.taken,
            takes_on (after_sync n I i) j x b w true-item,
            subst (λ (y : PlainItem). lacking_in (n.hut i) (takes y x) ≡ ws ++ rest) same (f.left ∙ tail),
          )

  whole :
      (ws rest : Letter) (x : Kept) → Becomes every (after_sync n I i) (with_reader x) → lacking_in (n.hut i) x ≡ ws ++ rest
      → AllTaken ws x × (lacking_in (n.hut i) (items_taken ws x) ≡ rest)
  unfolding items_taken
  whole [] rest x b q = (tt, q)
  whole (w ∷ ws) rest x b q =
      let s = whole-step w ws rest x b q in
      let r = whole ws rest (takes w x) s.1 s.2 in
      ((s.0, r.0), r.1)

  -- nobody has taken anything yet
  untouched : Becomes every (after_sync n I i) (with_reader (n.hut j))
  untouched =
      subst (λ (x : Kept). Becomes every (after_sync n I i) (with_reader x)) (hut_other j i (synced (n.hut i)) n (apart_turned i j apart))
      (same_step (after_sync n I i) (sync_step n I i).holds j)

  pub letter-whole : AllTaken (letter_to n i j) (n.hut j) × (lacking_in (n.hut i) (items_taken (letter_to n i j) (n.hut j)) ≡ drop MAX_LETTER_ENTRIES (lacking n i j))
  letter-whole =
      subst (λ (l : Letter). AllTaken l (n.hut j) × (lacking_in (n.hut i) (items_taken l (n.hut j)) ≡ drop MAX_LETTER_ENTRIES (lacking n i j)))
      (sym (letter-first (length (committed_in (n.hut j))) (vector_in (n.hut j)) (n.hut i)))
      (whole (take MAX_LETTER_ENTRIES (lacking n i j)) (drop MAX_LETTER_ENTRIES (lacking n i j)) (n.hut j) untouched (sym (take-append-drop MAX_LETTER_ENTRIES (lacking n i j))))

-- what a replica can write it does not take
taken_new : (k : Kept) (w : PlainItem) → Written k w → refusal_of w (state_in k) ≡ None → ⊥
taken_new k (settled p e) t q = (committed_allowed p e.mark (state_in k) q).0 e (subst (λ (l : List PlainEntry). e ∈ l) (sym t.2) (stands e t.0 t.1)) refl
taken_new k (waiting w) t q = (tentative_allowed w.entry w.stood (state_in k) q).0 w.entry (written_known k (waiting w) t) refl

-- a replica lacks nothing of itself
pub lacks_none : {every : List PlainEntry} (n : Net) → Holds every n → length every < capacity → (i : ℕ) → lacking n i i ≡ []
lacks_none n I few i = elim (next n I few i i) [
  | inl p ↦ p.0
  | inr f ↦ absurd (taken_new (n.hut i) f.w (all_item (length (committed_in (n.hut i))) (vector_in (n.hut i)) (n.hut i) f.w (subst (Memᴰ f.w) (sym f.is) (Memᴰ.head refl))) f.taken)
]

all_taken : {every : List PlainEntry} (n : Net) → Holds every n → length every < capacity → (i j : ℕ) → AllTaken (letter_to n i j) (n.hut j)
all_taken n I few i j =
    by_same i j
    (λ p.
    subst (λ (h : ℕ). AllTaken (letter_to n h j) (n.hut j)) (sym p)
    (subst (λ (l : Letter). AllTaken l (n.hut j)) (sym (letter-first (length (committed_in (n.hut j))) (vector_in (n.hut j)) (n.hut j) ∙ ap (take MAX_LETTER_ENTRIES) (lacks_none n I few j))) tt))
    (λ apart. (letter-whole n I few i j apart).0)

-- fewer entries were ever made than there is room for
pub made_fewer : (es : List Event) → makings es < capacity → length (entries_made es) < capacity
made_fewer es few = omega (arith, made-few es)

pub taken-whole : Always TakenWhole
taken-whole es few i j = all_taken (after es) (after_holds es) (made_fewer es few) i j

pub letters_bring : Always LettersBring
letters_bring es few i j = (
  λ q. elim (next (after es) (after_holds es) (made_fewer es few) i j) [
    | inl p ↦ p.1
    | inr f ↦ absurd (nothing f q)
  ],
  λ w ws q. (subst (λ (l : Letter). AllTaken l ((after es).hut j)) q (taken-whole es few i j)).0,
)
  where
    nothing : Following ((after es).hut i) ((after es).hut j) → letter_to (after es) i j ≡ [] → ⊥
    nothing f q =
        front_not_nil f.w [] (take (MAX_LETTER_ENTRIES - 1) f.ws)
        (sym q ∙ letter-first (length (committed_in ((after es).hut j))) (vector_in ((after es).hut j)) ((after es).hut i) ∙ ap (take MAX_LETTER_ENTRIES) f.is)
