-- The network on one page: one list that grows at its end, and sets of entries that are closed
-- under what the makers of entries knew. A replica is a number, how much of the list it has, and
-- a set, what it knows. Its log is a function of both: the first so many of the list, and then
-- the rest of the set in the order of marks. No letters, no vectors, no journals: what these do
-- is some of the five steps below.
use Rattle.std.specs.Prelude.{◌≡◌, ◌≢◌, ℕ, suc, max, ◌<◌, ◌≤◌, ◌||◌, cond, ◌⊎◌, List, [], ◌∷◌, ◌++◌, length, take}
use mathlib.Core.List.{Memᴰ}
use Rattle.bookings.specs.Plain.{PlainMark, PlainEntry}
use Rattle.entry_log.specs.Logs.{PlainLog, into, has}
use Rattle.network.specs.Promise.{Prefix}

-- a set is a list whose order and repeats mean nothing
abbrev pub Within : List PlainEntry → List PlainEntry → Type 0
Within s t = (k : PlainEntry) → Memᴰ k s → Memᴰ k t

abbrev pub SameSet : List PlainEntry → List PlainEntry → Type 0
SameSet s t = Within s t × Within t s

-- what a replica has: the first so many of the one list, and a set
pub record Part : Type 0 where
  pub count : ℕ
  pub set : List PlainEntry

abbrev pub SamePart : Part → Part → Type 0
SamePart p q = (p.count ≡ q.count) × SameSet p.set q.set

-- the entries of a set that are not among those of a list, each mark once, in the order of marks
abbrev pub rest : List PlainEntry → List PlainEntry → List PlainEntry
rest cs [] = []
rest cs (e ∷ es) = cond (has e.mark cs || has e.mark es) (rest cs es) (into e (rest cs es))

abbrev pub log : List PlainEntry → Part → PlainLog
log l p = record { committed = take p.count l; tentative = rest (take p.count l) p.set }

-- `committed` is so for good; `draft` is what the primary has committed behind it and has not
-- synced; `knew m` is what the maker of the entry with mark m knew when making it; each replica
-- has one part now, and has for good the part that it had when it last synced
pub record Page : Type 0 where
  pub committed : List PlainEntry
  pub draft : List PlainEntry
  pub knew : PlainMark → List PlainEntry
  pub now : ℕ → Part
  pub synced : ℕ → Part

-- the one list
abbrev pub list : Page → List PlainEntry
list a = a.committed ++ a.draft

abbrev pub nothing : Part
nothing = record { count = 0; set = [] }

abbrev pub blank : Page
blank = record { committed = []; draft = []; knew = λ m. []; now = λ i. nothing; synced = λ i. nothing }

-- a part is closed: with an entry it has all that its maker knew, and it has the first so many of
-- the list
abbrev pub Closed : Page → Part → Type 0
Closed a p = ((e : PlainEntry) → Memᴰ e p.set → Within (a.knew e.mark) p.set) × Within (take p.count (list a)) p.set

-- somebody has all of the list, unless all of it is for good
abbrev pub Had : Page → Type 0
Had a = (a.draft ≡ []) ⊎ ((j : ℕ) × ((a.now j).count ≡ length (list a)))

-- replica i alone has another part, and what makers knew stays, of each entry that somebody knows
-- before and after
pub record Alone (i : ℕ) (a b : Page) : Type 0 where
  pub now : (j : ℕ) → j ≢ i → SamePart (b.now j) (a.now j)
  pub synced : (j : ℕ) → j ≢ i → SamePart (b.synced j) (a.synced j)
  pub knew : (h j : ℕ) (e : PlainEntry) → Memᴰ e (a.now h).set → Memᴰ e (b.now j).set → SameSet (b.knew e.mark) (a.knew e.mark)

-- and nothing that is for good changes
pub record Unsynced (i : ℕ) (a b : Page) : Type 0 where
  pub alone : Alone i a b
  pub synced : SamePart (b.synced i) (a.synced i)
  pub committed : b.committed ≡ a.committed

-- make: an entry of its own, with a stamp above all that it knows, and it knew just that
pub record Making (i : ℕ) (e : PlainEntry) (a b : Page) : Type 0 where
  pub unsynced : Unsynced i a b
  pub mine : e.mark.hut ≡ i
  pub above : (k : PlainEntry) → Memᴰ k (a.now i).set → k.mark.stamp < e.mark.stamp
  pub knew : SameSet (b.knew e.mark) (a.now i).set
  pub count : (b.now i).count ≡ (a.now i).count
  pub set : SameSet (b.now i).set (e ∷ (a.now i).set)
  pub draft : b.draft ≡ a.draft

-- commit: who has all of the list adds the first of its rest to its end
pub record Committing (i : ℕ) (e : PlainEntry) (a b : Page) : Type 0 where
  pub unsynced : Unsynced i a b
  pub last : (a.now i).count ≡ length (list a)
  pub first : (es : List PlainEntry) × ((log (list a) (a.now i)).tentative ≡ e ∷ es)
  pub count : (b.now i).count ≡ suc (a.now i).count
  pub set : SameSet (b.now i).set (a.now i).set
  pub draft : b.draft ≡ a.draft ++ e ∷ []

-- learn: of what others have for good, so that its part stays closed; and no more of the list
-- than another has for good
pub record Learning (i : ℕ) (a b : Page) : Type 0 where
  pub unsynced : Unsynced i a b
  pub more : Within (a.now i).set (b.now i).set
  pub from : (k : PlainEntry) → Memᴰ k (b.now i).set → Memᴰ k (a.now i).set ⊎ ((h : ℕ) × Memᴰ k (a.synced h).set)
  pub closed : Closed b (b.now i)
  pub longer : (a.now i).count ≤ (b.now i).count
  pub far : ((b.now i).count ≡ (a.now i).count) ⊎ ((h : ℕ) × ((b.now i).count ≤ (a.synced h).count))
  pub draft : b.draft ≡ a.draft

-- sync: it has for good what it has now; the list is committed for good as far as it has it, and
-- stays
pub record Syncing (i : ℕ) (a b : Page) : Type 0 where
  pub alone : Alone i a b
  pub now : SamePart (b.now i) (a.now i)
  pub synced : SamePart (b.synced i) (a.now i)
  pub committed : Prefix a.committed b.committed
  pub as_far : length b.committed ≡ max (length a.committed) (a.now i).count
  pub whole : list b ≡ list a

-- forget, in a crash: back to a closed part between what it has for good and what it had; what
-- nobody has of the draft then is gone
pub record Forgetting (i : ℕ) (a b : Page) : Type 0 where
  pub unsynced : Unsynced i a b
  pub kept : Within (a.synced i).set (b.now i).set
  pub less : Within (b.now i).set (a.now i).set
  pub closed : Closed b (b.now i)
  pub at_least : (a.synced i).count ≤ (b.now i).count
  pub at_most : (b.now i).count ≤ (a.now i).count
  pub draft : Prefix b.draft a.draft
  pub within : (j : ℕ) → (b.now j).count ≤ length (list b)
  pub had : Had b

pub data Step (a b : Page) : Type 0 where
  make : (i : ℕ) (e : PlainEntry) → Making i e a b → Step a b
  commit : (i : ℕ) (e : PlainEntry) → Committing i e a b → Step a b
  learn : (i : ℕ) → Learning i a b → Step a b
  sync : (i : ℕ) → Syncing i a b → Step a b
  forget : (i : ℕ) → Forgetting i a b → Step a b

pub data Steps (a : Page) : Page → Type 0 where
  none : Steps a a
  then : {b c : Page} → Steps a b → Step b c → Steps a c

abbrev pub Reached : Page → Type 0
Reached a = Steps blank a
