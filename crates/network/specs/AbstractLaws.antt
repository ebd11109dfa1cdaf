-- The laws of a page, each of the steps alone.
use Rattle.std.specs.Prelude.{◌≡◌, ℕ, ◌<◌, ◌≤◌, ◌⊎◌, List, ◌∷◌, ◌++◌, length}
use mathlib.Core.List.{Memᴰ}
use Rattle.bookings.specs.Plain.{PlainEntry}
use Rattle.entry_log.specs.Logs.{all_of}
use Rattle.network.specs.Abstract.{Closed, Page, Part, Reached, SamePart, Steps, Within, list, log}
use Rattle.network.specs.Promise.{Prefix}

-- parts are closed, also those for good, which are no more than what is there now; an entry of
-- the list stands behind all that its maker knew, and has a higher stamp; a mark is of one entry;
-- of two entries of one replica, the maker of the second knew the first
pub record Sound (a : Page) : Type 0 where
  pub closed : (i : ℕ) → Closed a (a.now i)
  pub lasting : (i : ℕ) → Closed a (a.synced i)
  pub kept : (i : ℕ) → Within (a.synced i).set (a.now i).set
  pub firm : (i : ℕ) → (a.synced i).count ≤ length a.committed
  pub behind : (front back : List PlainEntry) (e : PlainEntry) → list a ≡ front ++ e ∷ back → Within (a.knew e.mark) front
  pub lower : (i : ℕ) (e k : PlainEntry) → Memᴰ e (a.now i).set → Memᴰ k (a.knew e.mark) → k.mark.stamp < e.mark.stamp
  pub once : (i j : ℕ) (e f : PlainEntry) → Memᴰ e (a.now i).set → Memᴰ f (a.now j).set → e.mark ≡ f.mark → e ≡ f
  pub own :
      (i j : ℕ) (e f : PlainEntry) → Memᴰ e (a.now i).set → Memᴰ f (a.now j).set → e.mark.hut ≡ f.mark.hut → e.mark.stamp < f.mark.stamp
      → Memᴰ e (a.knew f.mark)

-- LAW: whatever the steps, all this holds.
abbrev pub AbstractSound : Type 0
AbstractSound = (a : Page) → Reached a → Sound a

-- LAW: of what two replicas have as committed, one is the beginning of the other, since both are
-- the first so many of one list. It gives `OneOrder`.
abbrev pub AbstractPrefix : Type 0
AbstractPrefix =
    (l : List PlainEntry) (p q : Part) → Prefix (log l p).committed (log l q).committed ⊎ Prefix (log l q).committed (log l p).committed

-- LAW: an entry stands, in every log that has it, behind all that its maker knew. It gives
-- `BehindKnown`.
abbrev pub AbstractCausal : Type 0
AbstractCausal =
    (a : Page) → Reached a → (i : ℕ) (front back : List PlainEntry) (e : PlainEntry) → all_of (log (list a) (a.now i)) ≡ front ++ e ∷ back
    → Within (a.knew e.mark) front

-- LAW: replicas with the same set and as many committed have the same log, since it is a function
-- of both. It gives `SameLog`.
abbrev pub AbstractSame : Type 0
AbstractSame = (a : Page) → Reached a → (i j : ℕ) → SamePart (a.now i) (a.now j) → log (list a) (a.now i) ≡ log (list a) (a.now j)

-- LAW: who knows an entry knows all that its hut made before it. It gives `NoGaps`.
abbrev pub AbstractGaps : Type 0
AbstractGaps =
    (a : Page) → Reached a → (i j : ℕ) (e f : PlainEntry) → Memᴰ e (a.now j).set → Memᴰ f (a.now i).set → e.mark.hut ≡ f.mark.hut
    → e.mark.stamp < f.mark.stamp → Memᴰ e (a.now i).set

-- nothing that is for good is lost
pub record Lasts (a b : Page) : Type 0 where
  pub committed : Prefix a.committed b.committed
  pub count : (i : ℕ) → (a.synced i).count ≤ (b.synced i).count
  pub set : (i : ℕ) → Within (a.synced i).set (b.synced i).set

-- LAW: whatever the steps, what is committed for good changes at its end alone, and a replica
-- loses nothing that it has for good. It gives `Final` and `KnownStays`.
abbrev pub AbstractFinal : Type 0
AbstractFinal = (a b : Page) → Reached a → Steps a b → Lasts a b
