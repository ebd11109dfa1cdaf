-- A hut takes a letter, item for item: each is true, whatever came before it.
use Rattle.std.proofs.Common.{◌≡◌, ℕ, zero, suc, List, [], ◌∷◌, ◌++◌, length, refl, ap, ◌∙◌, subst, append_assoc}
use mathlib.Core.List.{Memᴰ}
use Rattle.bookings.specs.Plain.{PlainEntry}
use Rattle.journal.specs.History.{Committed, Kept, Tentative, state_in, wrote}
use Rattle.replica.specs.Model.{take_committed_refusal, take_tentative_refusal}
use Rattle.letters.specs.Items.{PlainItem, settled, waiting}
use Rattle.network.specs.Items.{Leaves, Letter, items_but, items_taken, takes}
use Rattle.network.specs.Net.{Net, take_nth, take_nth_but, with_hut}
use Rattle.network.specs.Replicas.{committed_of}
use Rattle.replica.specs.Model.{leader}
use Rattle.network.proofs.Holds.{Becomes, Holds, Said, becomes_trans, durables, durably, histories, hut-again, huts_of, led_same, said_grows, same_step, so_far, write_step}
use Rattle.network.proofs.Leading.{AtPlace, front_is, led_takes}
use Rattle.network.proofs.Refusals.{committed_allowed, tentative_allowed, unless_by}
use Rattle.network.proofs.Tests.{cond_by}
use Rattle.network.proofs.Writing.{settled_fits, waiting_fits}

module _ {every : List PlainEntry} (n : Net) (I : Holds every n) (i : ℕ) where
  -- a hut takes a true item, or leaves it
  pub takes_step : (w : PlainItem) → Said (durables n) w → Becomes every n (with_hut i (takes w (n.hut i)) n)
  takes_step (waiting w) s =
      unless_by (λ x. Becomes every n (with_hut i x n)) (take_tentative_refusal w.entry w.stood (state_in (n.hut i))) (n.hut i) (wrote (Tentative w.entry) (n.hut i))
      (λ q.
      let a = tentative_allowed w.entry w.stood (state_in (n.hut i)) q in
      write_step n I i (Tentative w.entry) (waiting_fits (huts_of n I) i w.entry w.stood s.0 s.1 s.2 a.0 a.1) I.all (led_same n I i))
      (same_step n I i)
  takes_step (settled p e) s =
      unless_by (λ x. Becomes every n (with_hut i x n)) (take_committed_refusal p e.mark (state_in (n.hut i))) (n.hut i) (wrote (Committed e) (n.hut i))
      (λ q. written (committed_allowed p e.mark (state_in (n.hut i)) q).1) (same_step n I i)
    where
      here : List PlainEntry
      here = committed_of (histories n i)

      -- it stands at its place in all that is durable
      stands : p ≡ length here → AtPlace I.all (length here) e
      stands q =
          let c = I.led.short s.0 in
          (s.1.0, s.1.1 ++ c.0, c.1 ∙ ap (λ (l : List PlainEntry). l ++ c.0) s.1.2 ∙ append_assoc s.1.0 (e ∷ s.1.1) c.0, s.1.3 ∙ q)

      -- the hut has just what comes before it
      just-before : p ≡ length here → here ≡ s.1.0
      just-before q = front_is leader (durably n) (so_far n) I.all I.led i e (stands q)

      written : p ≡ length here → Becomes every n (with_hut i (wrote (Committed e) (n.hut i)) n)
      written q =
          write_step n I i (Committed e) (settled_fits (huts_of n I) i s.0 e s.1.0 s.1.1 s.1.2 (just-before q)) I.all
          (led_takes leader (durably n) (so_far n) I.all I.led i e (stands q))

-- one more item, by a hut that has taken some
pub takes_on :
    {every : List PlainEntry} (n : Net) (i : ℕ) (r : Kept) → Becomes every n (with_hut i r n) → (w : PlainItem) → Said (durables n) w
    → Becomes every n (with_hut i (takes w r) n)
takes_on {every} n i r b w s =
    let m = with_hut i r n in
    let is = hut-again (takes w) i r n in
    becomes_trans n m (with_hut i (takes w r) n) b (subst (Becomes every m) is (takes_step m b.holds i w (said_grows (durables n) (durables m) b.grows w s)))

-- all the items of a letter
pub take_all-step :
    {every : List PlainEntry} (n : Net) (i : ℕ) (l : Letter) (r : Kept) → ((w : PlainItem) → Memᴰ w l → Said (durables n) w) → Becomes every n (with_hut i r n)
    → Becomes every n (with_hut i (items_taken l r) n)
unfolding items_taken
take_all-step n i [] r s b = b
take_all-step n i (w ∷ ws) r s b = take_all-step n i ws (takes w r) (λ x m. s x (Memᴰ.tail m)) (takes_on n i r b w (s w (Memᴰ.head refl)))

-- the letter at a place is one of those written
pub take_nth_all : (P : Kept → Type 0) (k : ℕ) (ls : List Letter) (r : Kept) → P r → ((l : Letter) → Memᴰ l ls → P (items_taken l r)) → P (take_nth k ls r)
unfolding take_nth
take_nth_all P k [] r p all = p
take_nth_all P zero (l ∷ ls) r p all = all l (Memᴰ.head refl)
take_nth_all P (suc k) (l ∷ ls) r p all = take_nth_all P k ls r p (λ x m. all x (Memᴰ.tail m))

-- any letter ever written, however late
pub take_nth-step : {every : List PlainEntry} (n : Net) → Holds every n → (j k : ℕ) → Becomes every n (with_hut j (take_nth k n.sent (n.hut j)) n)
take_nth-step {every} n I j k =
    let b = same_step n I j in
    take_nth_all (λ x. Becomes every n (with_hut j x n)) k n.sent (n.hut j) b (λ l m. take_all-step n j l (n.hut j) (I.said l m) b)

-- the same, where a hut leaves some of it, for whatever reason
take_some-step :
    {every : List PlainEntry} (leaves : Leaves) (n : Net) (i : ℕ) (l : Letter) (r : Kept) → ((w : PlainItem) → Memᴰ w l → Said (durables n) w) → Becomes every n (with_hut i r n)
    → Becomes every n (with_hut i (items_but leaves l r) n)
unfolding items_but
take_some-step leaves n i [] r s b = b
take_some-step {every} leaves n i (w ∷ ws) r s b =
    cond_by (λ (x : Kept). Becomes every n (with_hut i (items_but leaves ws x) n)) (leaves w (state_in r)) r (takes w r)
    (λ _. take_some-step leaves n i ws r (λ x m. s x (Memᴰ.tail m)) b)
    (λ _. take_some-step leaves n i ws (takes w r) (λ x m. s x (Memᴰ.tail m)) (takes_on n i r b w (s w (Memᴰ.head refl))))

pub take_nth_some :
    (P : Kept → Type 0) (leaves : Leaves) (k : ℕ) (ls : List Letter) (r : Kept) → P r → ((l : Letter) → Memᴰ l ls → P (items_but leaves l r)) → P (take_nth_but leaves k ls r)
unfolding take_nth_but
take_nth_some P leaves k [] r p all = p
take_nth_some P leaves zero (l ∷ ls) r p all = all l (Memᴰ.head refl)
take_nth_some P leaves (suc k) (l ∷ ls) r p all = take_nth_some P leaves k ls r p (λ x m. all x (Memᴰ.tail m))

pub takes_some-step : {every : List PlainEntry} (leaves : Leaves) (n : Net) → Holds every n → (j k : ℕ) → Becomes every n (with_hut j (take_nth_but leaves k n.sent (n.hut j)) n)
takes_some-step {every} leaves n I j k =
    let b = same_step n I j in
    take_nth_some (λ x. Becomes every n (with_hut j x n)) leaves k n.sent (n.hut j) b (λ l m. take_some-step leaves n j l (n.hut j) (I.said l m) b)
