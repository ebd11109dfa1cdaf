-- A history is valid: each record could be written when it was, given the durable histories of all huts.
use Rattle.std.proofs.Common.{◌≡◌, ℕ, ◌<◌, T, ◌⊎◌, List, [], ◌∷◌, ◌++◌, Some, sym, ap, subst, inl, inr, arith}
use Rattle.bookings.specs.Books.{named_by}
use Rattle.bookings.specs.Plain.{PlainEntry, PlainMark}
use Rattle.journal.specs.History.{Committed, PlainRecord, Tentative}
use Rattle.entry_log.specs.Logs.{has}
use Rattle.replica.specs.Model.{last_stamp}
use Rattle.network.specs.Net.{huts}
use Rattle.network.specs.Replicas.{committed_of, entries_of}
use Rattle.network.proofs.Logs.{log-committed, log_old}
use Rattle.network.proofs.Marks.{Fresh, ◌∈◌, ◌⊆◌}
use Rattle.network.proofs.Parts.{Older}

-- the records of its hut show that an entry was made, after the records `older`
abbrev pub Made : (ℕ → List PlainRecord) → PlainEntry → List PlainRecord → Type 0
Made d e older = Older (Tentative e ∷ older) (d e.mark.hut)

-- an entry that the hut makes itself: one of those ever made, with a stamp above all that the hut knows, naming a mark that it knows, if any
pub record Own (every : List PlainEntry) (j : ℕ) (e : PlainEntry) (rs : List PlainRecord) : Type 0 where
  pub mine : e.mark.hut ≡ j
  pub hut : j < huts
  pub some : 0 < e.mark.stamp
  pub listed : e ∈ every
  pub low : e.mark.stamp < last_stamp
  pub named : (m : PlainMark) → named_by e.kind ≡ Some m → T (has m (entries_of rs))
  pub above : (k : PlainEntry) → k ∈ entries_of rs → k.mark.stamp < e.mark.stamp

-- another hut's entry that it is told: new to it, durable where it was made, and all that its maker knew is known
pub record Told (durable : ℕ → List PlainRecord) (j : ℕ) (e : PlainEntry) (rs : List PlainRecord) : Type 0 where
  pub other : e.mark.hut ≡ j → ⊥
  pub fresh : Fresh e.mark (entries_of rs)
  pub older : List PlainRecord
  pub made : Made durable e older
  pub known : entries_of older ⊆ entries_of rs

-- an entry was made, as is durable in its hut or as the records of the hut itself show
abbrev pub MadeBy : (ℕ → List PlainRecord) → ℕ → List PlainRecord → PlainEntry → List PlainRecord → Type 0
MadeBy durable j rs e older = Made durable e older ⊎ ((e.mark.hut ≡ j) × Older (Tentative e ∷ older) rs)

-- an entry that becomes committed: not yet so, made, and all that its maker knew is committed
pub record Settles (durable : ℕ → List PlainRecord) (j : ℕ) (e : PlainEntry) (rs : List PlainRecord) : Type 0 where
  pub fresh : Fresh e.mark (committed_of rs)
  pub same : (k : PlainEntry) → k ∈ entries_of rs → k.mark ≡ e.mark → k ≡ e
  pub older : List PlainRecord
  pub made : MadeBy durable j rs e older
  pub known : entries_of older ⊆ committed_of rs

-- a record may be written behind others
abbrev pub Fits : List PlainEntry → (ℕ → List PlainRecord) → ℕ → PlainRecord → List PlainRecord → Type 0
Fits every d j (Tentative e) rs = Own every j e rs ⊎ Told d j e rs
Fits every d j (Committed e) rs = Settles d j e rs

-- each record could be written when it was
abbrev pub Valid : List PlainEntry → (ℕ → List PlainRecord) → ℕ → List PlainRecord → Type 0
Valid every d j [] = Unit
Valid every d j (r ∷ rs) = Fits every d j r rs × Valid every d j rs

module _ (every : List PlainEntry) (d : ℕ → List PlainRecord) (j : ℕ) where
  -- nothing that is known is lost by one more record
  pub log_keeps : (r : PlainRecord) (rs : List PlainRecord) → Fits every d j r rs → entries_of rs ⊆ entries_of (r ∷ rs)
  log_keeps (Tentative e) rs f k m = log_old e rs k m
  log_keeps (Committed e) rs f k m = log-committed e rs f.same k m

  pub valid_older : (old all : List PlainRecord) → Older old all → Valid every d j all → Valid every d j old
  valid_older old all p v = go p.0 (subst (Valid every d j) p.1 v)
    where
      go : (newer : List PlainRecord) → Valid every d j (newer ++ old) → Valid every d j old
      go [] v = v
      go (r ∷ newer) v = go newer v.1

  -- what was known earlier is known
  pub log_older : (old all : List PlainRecord) → Older old all → Valid every d j all → entries_of old ⊆ entries_of all
  log_older old all p v k m = subst (λ (l : List PlainRecord). k ∈ entries_of l) (sym p.1) (go p.0 (subst (Valid every d j) p.1 v))
    where
      go : (newer : List PlainRecord) → Valid every d j (newer ++ old) → k ∈ entries_of (newer ++ old)
      go [] v = m
      go (r ∷ newer) v = log_keeps r (newer ++ old) v.0 k (go newer v.1)

  -- a new tentative entry has a new mark
  pub new_fresh : (e : PlainEntry) (rs : List PlainRecord) → Fits every d j (Tentative e) rs → Fresh e.mark (entries_of rs)
  new_fresh e rs (inl f) k m q = let p = f.above k m in let s = ap (λ (x : PlainMark). x.stamp) q in omega arith
  new_fresh e rs (inr f) k m q = f.fresh k m q
