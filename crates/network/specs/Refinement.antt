-- What a page shows of the network, and that the network does no more than the page allows.
use Rattle.std.specs.Prelude.{◌≡◌, ℕ, ◌<◌, ◌⊎◌, List, [], ◌∷◌, ◌++◌, length}
use mathlib.Core.List.{Memᴰ}
use Rattle.bookings.specs.Books.{book_of}
use Rattle.bookings.specs.Plain.{PlainEntry, PlainMark}
use Rattle.journal.specs.History.{PlainRecord, history_of, log_of, state_in}
use Rattle.entry_log.specs.Logs.{has}
use Rattle.network.specs.Abstract.{SameSet, Part, Page, Reached, Steps, Within, log, list}
use Rattle.network.specs.Net.{Net, Event, after, run}
use Rattle.network.specs.Promise.{Prefix, MadeAfter}
use Rattle.network.specs.Replicas.{committed_of, entries_of, committed_in, entries_in}

-- a part shows some records: what they have as committed, what they have in all, and their log
pub record Draws (a : Page) (rs : List PlainRecord) (p : Part) : Type 0 where
  pub count : p.count ≡ length (committed_of rs)
  pub set : SameSet p.set (entries_of rs)
  pub log : log_of rs ≡ log (list a) p

-- the longest of some lists, each of which is a beginning of it
pub record Longest (lists : ℕ → List PlainEntry) (l : List PlainEntry) : Type 0 where
  pub each : (i : ℕ) → Prefix (lists i) l
  pub one : (l ≡ []) ⊎ ((i : ℕ) × (lists i ≡ l))

-- a page shows a net: of each replica what it has and what it has for good; the longest committed
-- list, and the longest that is durable; what makers knew
pub record Shows (n : Net) (a : Page) : Type 0 where
  pub now : (i : ℕ) → Draws a (history_of (n.hut i)) (a.now i)
  pub synced : (i : ℕ) → Draws a (n.hut i).durable (a.synced i)
  pub list : Longest (λ i. committed_in (n.hut i)) (list a)
  pub committed : Longest (λ i. committed_of (n.hut i).durable) a.committed
  pub knew : (e : PlainEntry) (older : List PlainRecord) → MadeAfter n e older → SameSet (a.knew e.mark) (entries_of older)

-- LAW: every run of the network is a run of the page.
abbrev pub Refines : List Event → Type 0
Refines es = (a : Page) × Reached a × Shows (after es) a

-- LAW: from whichever page shows the network, whatever comes is some steps, to a page that shows
-- the network then; so each event is some steps.
abbrev pub RunsAreSteps : List Event → Type 0
RunsAreSteps es = (later : List Event) (a : Page) → Shows (after es) a → (b : Page) × Steps a b × Shows (run later (after es)) b

-- what a page says of a net that it shows, in the words of the laws of the network: `OneOrder`,
-- `BehindKnown`, `NoGaps` and `SameLog`
pub record Ordered (n : Net) : Type 0 where
  pub one_order : (i j : ℕ) → Prefix (committed_in (n.hut i)) (committed_in (n.hut j)) ⊎ Prefix (committed_in (n.hut j)) (committed_in (n.hut i))
  pub behind_known :
      (i : ℕ) (front back : List PlainEntry) (e : PlainEntry) → entries_in (n.hut i) ≡ front ++ e ∷ back
      → (older : List PlainRecord) → MadeAfter n e older → (k : PlainEntry) → Memᴰ k (entries_of older) → Memᴰ k front
  pub no_gaps :
      (i j : ℕ) (e f : PlainEntry) → Memᴰ e (entries_in (n.hut j)) → Memᴰ f (entries_in (n.hut i)) → e.mark.hut ≡ f.mark.hut
      → e.mark.stamp < f.mark.stamp → Memᴰ e (entries_in (n.hut i))
  pub same_log :
      (i j : ℕ) → ((m : PlainMark) → has m (entries_in (n.hut i)) ≡ has m (entries_in (n.hut j)))
      → length (committed_in (n.hut i)) ≡ length (committed_in (n.hut j))
      → ((state_in (n.hut i)).log ≡ (state_in (n.hut j)).log) × (book_of (entries_in (n.hut i)) ≡ book_of (entries_in (n.hut j)))

-- LAW: whatever a net is, if a page that is reached shows it, the laws on order, causes, gaps and
-- agreement hold of it.
abbrev pub PageGives : Type 0
PageGives = (n : Net) (a : Page) → Reached a → Shows n a → Ordered n

-- LAW: and whatever nets are, if steps lead from a page that shows the one to a page that shows
-- the other, nothing durable is lost: what is committed changes at its end alone, and what is
-- known is known: `Final` and `KnownStays`.
abbrev pub PageKeeps : Type 0
PageKeeps =
    (n m : Net) (a b : Page) → Reached a → Shows n a → Steps a b → Shows m b
    → (i : ℕ) → Prefix (committed_of (n.hut i).durable) (committed_of (m.hut i).durable) × Within (entries_of (n.hut i).durable) (entries_in (m.hut i))
