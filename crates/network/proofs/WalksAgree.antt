-- Enough walks to the primary, commits there, and walks from it bring all huts to one log.
use Rattle.std.proofs.Common.{◌≡◌, ◌≢◌, ℕ, ◌*◌, ◌<◌, ◌≤◌, T, eqb, List, [], ◌∷◌, ◌++◌, length, sym, refl, ◌∙◌, subst, arith}
use mathlib.Core.List.Memᴰ
use lib.Dec.{eqb_refl}
use Rattle.bookings.specs.Plain.{PlainEntry}
use Rattle.entry_log.specs.declared.waiting.TheConstants.{MAX_LETTER_ENTRIES}
use Rattle.replica.specs.Model.{capacity}
use Rattle.network.specs.Lasting.{Somewhere}
use Rattle.network.specs.Net.{Net, after, huts}
use Rattle.network.specs.Promise.{Always}
use Rattle.network.specs.Replicas.{committed_of, entries_of, tentative_of}
use Rattle.network.specs.Walks.{AnyWalksAgree, KeepsLead, Move, move, moved, tries, walks}
use Rattle.network.proofs.Histories.{committed_once}
use Rattle.network.proofs.Holds.{Holds, durables, histories}
use Rattle.network.proofs.Lasting.{lasting_known}
use Rattle.network.proofs.Marks.{◌∈◌}
use Rattle.network.proofs.Moves.{moved_becomes, moved_older, moved_only}
use Rattle.network.proofs.Safety.{after_holds, made-few}
use Rattle.network.proofs.Sorting.{no_more}
use Rattle.network.proofs.Tests.{Apart, by_same}
use Rattle.network.proofs.WalksBring.{got_older, walks-got}
use Rattle.network.proofs.WalksSettle.{Full, Settled, leads_moved, many, maker_has, moves-settle, settled_agree, settled_has, settled_moved}
use Rattle.network.proofs.Whole.{made_fewer}

-- one list of moves after another
pub moved_append : (a b : List Move) (n : Net) → moved (a ++ b) n ≡ moved b (moved a n)
unfolding moved
moved_append [] b n = refl
moved_append (m ∷ a) b n = moved_append a b (move m n)

-- all agree with hut c, which has all that was known
abbrev pub Gathered : Net → Net → ℕ → Type 0
Gathered was n c =
    ((i : ℕ) → i < huts → (tentative_of (histories n i) ≡ [])
    × (committed_of (histories n i) ≡ committed_of (histories n c)))
    × ((k : PlainEntry) → Somewhere was k → k ∈ committed_of (histories n c))

pub other : (i c : ℕ) → Apart i c → i ≢ c
other i c apart p = apart (subst (λ (x : ℕ). T (eqb i x)) p (eqb_refl i))

module _
    {every : List PlainEntry} (few : length every < capacity) (count : ℕ)
    (much : 2 * length every < count * MAX_LETTER_ENTRIES) (c : ℕ) (low : c < huts) where
  -- enough walks to the primary: it knows all
  gathered :
      (first : List Move) → ((i : ℕ) → i < huts → i ≢ c → count ≤ walks i c first) → (n : Net)
      → Holds every n → (k : PlainEntry) → Somewhere n k
      → k ∈ entries_of (histories (moved first n) c)
  gathered first enough n I k s =
      let m = maker_has n I k s in
      (walks-got few count much k.mark.hut c m.0 low first
      (λ a. enough k.mark.hut m.0 (other k.mark.hut c a)) n I).1 k m.1

  -- enough walks from it: all agree
  handed-out :
      (third : List Move) → ((i : ℕ) → i < huts → i ≢ c → count ≤ walks c i third) → (n : Net)
      → Holds every n → Settled n c
      → (i : ℕ) → i < huts → (tentative_of (histories (moved third n) i) ≡ [])
      × (committed_of (histories (moved third n) i) ≡ committed_of (histories (moved third n) c))
  handed-out third enough n I s i lt =
      by_same i c (λ p. subst (λ (x : ℕ). (tentative_of (histories m x) ≡ [])
      × (committed_of (histories m x) ≡ committed_of (histories m c))) (sym p)
      (then-settled.1, refl))
      (λ a.
      let got = walks-got few count much c i low lt third (λ _. enough i lt (other i c a)) n I in
      settled_agree c m all then-settled i (omega (arith, got.0, no-more)))
    where
      m : Net
      m = moved third n

      all : Holds every (moved third n)
      all = (moved_becomes third n I).holds

      then-settled : Settled (moved third n) c
      then-settled = settled_moved c third n I s

      no-more : many (moved third n) c ≤ many n c
      no-more =
          no_more (committed_of (histories m c)) (committed_of (histories n c))
          (committed_once every (durables m) c (histories m c) (all.valid c))
          (λ k d. settled_has c n s k (moved_only third n I k
          (c, Memᴰ.append_left (tentative_of (histories m c)) d)))

  pub agree_by :
      (n : Net) → Holds every n → KeepsLead n c → (first second third : List Move)
      → ((i : ℕ) → i < huts → i ≢ c → count ≤ walks i c first)
      → length (tentative_of (histories (moved first n) c)) ≤ tries c second
      → ((i : ℕ) → i < huts → i ≢ c → count ≤ walks c i third)
      → Gathered n (moved (first ++ (second ++ third)) n) c
  agree_by n I lead first second third f s t =
      subst (λ (m : Net). Gathered n m c)
      (sym (moved_append first (second ++ third) n ∙ moved_append second third n1))
      (handed-out third t n2 I2 settled, known)
    where
      n1 : Net
      n1 = moved first n

      I1 : Holds every (moved first n)
      I1 = (moved_becomes first n I).holds

      n2 : Net
      n2 = moved second n1

      I2 : Holds every (moved second (moved first n))
      I2 = (moved_becomes second n1 I1).holds

      n3 : Net
      n3 = moved third n2

      I3 : Holds every (moved third (moved second (moved first n)))
      I3 = (moved_becomes third n2 I2).holds

      full : Full (moved first n) c
      full k there = gathered first f n I k (moved_only first n I k there)

      settled : Settled (moved second (moved first n)) c
      settled = moves-settle c low second n1 I1 (leads_moved c first n I lead) full s

      known : (k : PlainEntry) → Somewhere n k
          → k ∈ committed_of (histories (moved third (moved second (moved first n))) c)
      known k there =
          let later =
          (got_older n2 I2 c (histories n1 c) (moved_older second n1 c)).1 k
          (gathered first f n I k there) in
          let end = (got_older n3 I3 c (histories n2 c) (moved_older third n2 c)).1 k later in
          settled_has c n3 (settled_moved c third n2 I2 settled) k (c, end)

pub any_walks_agree : Always AnyWalksAgree
any_walks_agree es few count much c low lead first second third f s t =
    let g =
    agree_by (made_fewer es few) count (omega (arith, much, made-few es)) c low (after es)
    (after_holds es) lead first second third f s t in
    (g.0, λ k l. g.1 k (lasting_known es k l))
