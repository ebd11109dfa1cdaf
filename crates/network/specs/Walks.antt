-- Walks from hut to hut in any order, while nobody makes anything and nothing crashes.
use Rattle.std.specs.Prelude.{◌≡◌, ◌≢◌, ℕ, suc, ◌+◌, ◌*◌, ◌<◌, ◌≤◌, cond, ◌&&◌, List, [], ◌∷◌, ◌++◌, length, ◌==◌}
use mathlib.Core.List.{Memᴰ}
use Rattle.bookings.specs.Plain.{PlainEntry}
use Rattle.entry_log.specs.declared.waiting.TheConstants.{MAX_LETTER_ENTRIES}
use Rattle.replica.specs.Model.{capacity, leader}
use Rattle.network.specs.Fairness.{segment}
use Rattle.network.specs.Lasting.{Lasting, Somewhere}
use Rattle.network.specs.Net.{Net, Event, Commits, after, huts, step}
use Rattle.network.specs.Promise.{Prefix, exchange, makings}
use Rattle.network.specs.Replicas.{committed_in, entries_in, tentative_in}

-- `Walk i j`: hut i writes a letter for what hut j has, and hut j takes it.
-- `Commit i`: hut i tries to commit.
pub data Move : Type 0 where
  Walk : (from to : ℕ) → Move
  Commit : (i : ℕ) → Move

abbrev pub move : Move → Net → Net
move (Walk i j) n = exchange n i j
move (Commit i) n = step (Commits i) n

unfoldable pub moved : List Move → Net → Net
moved [] n = n
moved (m ∷ ms) n = moved ms (move m n)

-- how many of them are walks from one hut to another, and tries of a hut to commit
unfoldable pub walks : (from to : ℕ) → List Move → ℕ
walks i j [] = 0
walks i j (Walk a b ∷ ms) = cond (a == i && b == j) (suc (walks i j ms)) (walks i j ms)
walks i j (Commit a ∷ ms) = walks i j ms

unfoldable pub tries : (hut : ℕ) → List Move → ℕ
tries i [] = 0
tries i (Walk a b ∷ ms) = tries i ms
tries i (Commit a ∷ ms) = cond (a == i) (suc (tries i ms)) (tries i ms)

-- so many letters hold more than twice as many items as entries were ever made: 128 always do
abbrev pub Enough : List Event → ℕ → Type 0
Enough es count = 2 * makings es < count * MAX_LETTER_ENTRIES

-- hut j of one net knows all that hut i of another knows, and has as many committed
abbrev pub Brings : Net → ℕ → Net → ℕ → Type 0
Brings n i m j =
    (length (committed_in (n.hut i)) ≤ length (committed_in (m.hut j)))
    × ((k : PlainEntry) → Memᴰ k (entries_in (n.hut i)) → Memᴰ k (entries_in (m.hut j)))

-- LAW: among any walks and commits, enough walks from one hut to another bring it all that the
-- first knew when they began.
abbrev pub WalksBring : List Event → Type 0
WalksBring es =
    makings es < capacity → (count : ℕ) → Enough es count → (i j : ℕ) → i < huts → j < huts
    → (ms : List Move) → count ≤ walks i j ms → Brings (after es) i (moved ms (after es)) j

-- a hut may commit, and still may when any of what is known is committed
abbrev pub KeepsLead : Net → ℕ → Type 0
KeepsLead n c =
    (l : List PlainEntry) → Prefix (committed_in (n.hut c)) l
    → ((k : PlainEntry) → Memᴰ k l → Somewhere n k) → leader l ≡ c

-- LAW: hut 0 is such a hut.
abbrev pub ZeroKeepsLead : List Event → Type 0
ZeroKeepsLead es = KeepsLead (after es) 0

-- all huts have what hut c has, all of it committed, with all that lasted before
abbrev pub AllAgree : List Event → Net → ℕ → Type 0
AllAgree es n c =
    ((i : ℕ) → i < huts → (tentative_in (n.hut i) ≡ [])
    × (committed_in (n.hut i) ≡ committed_in (n.hut c)))
    × ((k : PlainEntry) → Lasting es k → Memᴰ k (committed_in (n.hut c)))

-- LAW: enough walks from each hut to the primary, then as many commits as it has tentative entries,
-- then enough walks from it to each hut, with any other walks and commits between them: all huts
-- have one log, all of it committed, with every entry that any had, or that was ever synced, handed
-- on, or shown to a guest.
abbrev pub AnyWalksAgree : List Event → Type 0
AnyWalksAgree es =
    makings es < capacity → (count : ℕ) → Enough es count → (c : ℕ) → c < huts
    → KeepsLead (after es) c
    → (first second third : List Move)
    → ((i : ℕ) → i < huts → i ≢ c → count ≤ walks i c first)
    → length (tentative_in ((moved first (after es)).hut c)) ≤ tries c second
    → ((i : ℕ) → i < huts → i ≢ c → count ≤ walks c i third)
    → AllAgree es (moved (first ++ (second ++ third)) (after es)) c

-- moves without end: every walk to the primary and from it, and its tries, come again and again
pub record Fair (c : ℕ) (s : ℕ → Move) : Type 0 where
  pub in_walks : (i t : ℕ) → i < huts → i ≢ c → (u : ℕ) × (s (t + u) ≡ Walk i c)
  pub out_walks : (i t : ℕ) → i < huts → i ≢ c → (u : ℕ) × (s (t + u) ≡ Walk c i)
  pub commits : (t : ℕ) → (u : ℕ) × (s (t + u) ≡ Commit c)

-- LAW: under every fair schedule all huts come to one log, all of it committed, with every entry
-- that any had, or that was ever synced, handed on, or shown to a guest, and stay so.
abbrev pub FairAgree : List Event → Type 0
FairAgree es =
    makings es < capacity → (c : ℕ) → c < huts → KeepsLead (after es) c → (s : ℕ → Move) → Fair c s
    → (enough : ℕ) × ((later : ℕ) → AllAgree es (moved (segment s 0 (enough + later)) (after es)) c)
