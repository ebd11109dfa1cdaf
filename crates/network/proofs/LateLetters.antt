-- A letter that comes late brings all that is in it, item for item.
use Rattle.std.proofs.Common.{ℕ, zero, suc, ◌+◌, ◌<◌, ◌≤◌, leb, List, [], ◌∷◌, ◌++◌, map, length, get_or, take, sym, refl, subst, arith, leb→le}
use mathlib.Core.List.{Memᴰ}
use Rattle.bookings.specs.Plain.{PlainEntry}
use Rattle.journal.specs.History.{Kept}
use Rattle.entry_log.specs.Vectors.{vector_of}
use Rattle.entry_log.specs.Waits.{PlainWaiting}
use Rattle.replica.specs.Model.{capacity}
use Rattle.replica.specs.Parcels.{missing}
use Rattle.letters.specs.Items.{PlainItem, placed_from, settled, waiting}
use Rattle.network.specs.Items.{Letter, items_taken, takes}
use Rattle.network.specs.Late.{HasItem}
use Rattle.network.specs.Net.{Net, with_hut}
use Rattle.network.specs.Replicas.{committed_in, entries_in}
use Rattle.network.proofs.Holds.{Becomes, Said, durables}
use Rattle.network.proofs.Late.{item_had_at, on_by, on_has, takes_older}
use Rattle.network.proofs.Lists.{by_cons, by_last, none_in}
use Rattle.network.proofs.Marks.{◌∈◌, ◌⊆◌}
use Rattle.network.proofs.Numbers.{covers_known}
use Rattle.network.proofs.Taken.{take_all_older}
use Rattle.network.proofs.Taking.{take_all-step, takes_on}
use Rattle.network.proofs.Tests.{cond_by}

-- what a letter says is there once it was taken
abbrev pub Brought : Letter → Kept → Type 0
Brought l x = (w : PlainItem) → Memᴰ w l → HasItem (items_taken l x) w

-- hut j may come to have this
abbrev pub At : List PlainEntry → Net → ℕ → Kept → Type 0
At every n j x = Becomes every n (with_hut j x n)

-- each item of a letter is true
abbrev pub AllSaid : Net → Letter → Type 0
AllSaid n l = (w : PlainItem) → Memᴰ w l → Said (durables n) w

module _ {every : List PlainEntry} (n : Net) (few : length every < capacity) (j : ℕ) where
  -- one item, and then the others
  brought_cons : (w : PlainItem) (ws : Letter) (x : Kept) → At every n j x → AllSaid n (w ∷ ws)
      → HasItem (takes w x) w → Brought ws (takes w x) → Brought (w ∷ ws) x
  unfolding items_taken
  brought_cons w ws x b s first rest v m =
      let y = takes w x in
      let next = takes_on n j x b w (s w (Memᴰ.head refl)) in
      let on =
      on_by n j y (items_taken ws y) (take_all-step n j ws y (λ u d. s u (Memᴰ.tail d)) next)
      (take_all_older ws y) in
      by_cons m (λ q. subst (HasItem (items_taken ws y)) (sym q)
      (on_has y (items_taken ws y) w on first)) (rest v)

  -- committed entries, the first of which comes no later than next
  pub brings_settled : (l : List PlainEntry) (p : ℕ) (x : Kept) → At every n j x
      → AllSaid n (placed_from p l) → p ≤ length (committed_in x)
      → Brought (placed_from p l) x × (p + length l ≤ length
      (committed_in (items_taken (placed_from p l) x)))
  unfolding items_taken
  brings_settled [] p x b s le = (λ w m. none_in m, omega arith)
  brings_settled (e ∷ l) p x b s le =
      let w = settled p e in
      let true-item = s w (Memᴰ.head refl) in
      let first = item_had_at n few j x b w true-item le in
      let rest =
      brings_settled l (suc p) (takes w x) (takes_on n j x b w true-item) (λ u d. s u (Memᴰ.tail d))
      (omega (arith, first.0)) in
      (brought_cons w (placed_from (suc p) l) x b s first rest.0, omega (arith, rest.1))

  -- tentative entries, where all that stands before the first is known, and all that is left out
  pub brings_waiting :
      (has : List ℕ) (ts : List PlainEntry) (r : ℕ) (ahead : List PlainEntry) (x : Kept)
      → At every n j x → AllSaid n (map waiting (take r (missing has ahead ts)))
      → ahead ⊆ entries_in x → ((k : PlainEntry) → k ∈ ts → k.mark.stamp ≤ get_or has k.mark.hut 0
      → k ∈ entries_in x)
      → Brought (map waiting (take r (missing has ahead ts))) x
  brings_waiting has ts zero ahead x b s known had = λ w m. none_in m
  brings_waiting has [] (suc r) ahead x b s known had = λ w m. none_in m
  brings_waiting has (e ∷ ts) (suc r) ahead x b s known had =
      cond_by (λ (ws : List PlainWaiting). AllSaid n (map waiting (take (suc r) ws))
      → Brought (map waiting (take (suc r) ws)) x)
      (leb e.mark.stamp (get_or has e.mark.hut 0)) (missing has (ahead ++ e ∷ []) ts)
      (record { entry = e; stood = vector_of ahead } ∷ missing has (ahead ++ e ∷ []) ts)
      (λ t said. brings_waiting has ts (suc r) (ahead ++ e ∷ []) x b said
      (λ k d. by_last ahead d (known k)
      (λ q. subst (λ (y : PlainEntry). y ∈ entries_in x) (sym q)
      (had e (Memᴰ.head refl) (leb→le e.mark.stamp (get_or has e.mark.hut 0) t))))
      (λ k d. had k (Memᴰ.tail d)))
      (λ _ said.
      let w = waiting (record { entry = e; stood = vector_of ahead }) in
      let y = takes w x in
      let true-item = said w (Memᴰ.head refl) in
      let next = takes_on n j x b w true-item in
      let first = item_had_at n few j x b w true-item (covers_known (entries_in x) ahead known) in
      let on = on_by n j x y next (takes_older w x) in
      brought_cons w (map waiting (take r (missing has (ahead ++ e ∷ []) ts))) x b said first
      (brings_waiting has ts r (ahead ++ e ∷ []) y next (λ u d. said u (Memᴰ.tail d))
      (λ k d. by_last ahead d (λ u. on.1 k (known k u))
      (λ q. subst (λ (z : PlainEntry). z ∈ entries_in y) (sym q) first))
      (λ k d le. on.1 k (had k (Memᴰ.tail d) le)))) s
