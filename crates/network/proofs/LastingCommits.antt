-- What a hut has committed for good.
use Rattle.std.proofs.Common.{ℕ, ◌≤◌, ◌⊎◌, List, length, sym, ap, subst, inl, inr, arith, length-append}
use mathlib.Core.List.Memᴰ
use Rattle.bookings.specs.Plain.{PlainEntry}
use Rattle.journal.specs.History.{PlainRecord}
use Rattle.network.specs.Net.{Net}
use Rattle.network.specs.Promise.{Prefix}
use Rattle.network.specs.Replicas.{committed_of}
use Rattle.network.proofs.Holds.{Holds, durables, histories, huts_of, so_far}
use Rattle.network.proofs.LateWhole.{prefix_short}
use Rattle.network.proofs.Marks.{◌∈◌, ◌⊆◌}
use Rattle.network.proofs.Parts.{Older, committed_older, prefix_trans}
use Rattle.network.proofs.Safety.{order_in}
use Rattle.network.proofs.WalksSettle.{many}

-- how many a hut has committed for good
abbrev pub lasting : Net → ℕ → ℕ
lasting n c = length (committed_of (durables n c))

pub lasting_more : (n m : Net) (c : ℕ) → Older (durables n c) (durables m c)
    → lasting n c ≤ lasting m c
lasting_more n m c o =
    let p = committed_older (durables n c) (durables m c) o in
    omega (arith, ap length p.1, length-append (committed_of (durables n c)) p.0)

pub lasting_here : {every : List PlainEntry} (n : Net) → Holds every n → (c : ℕ)
    → lasting n c ≤ many n c
lasting_here n I c =
    let p = committed_older (durables n c) (histories n c) ((huts_of n I).part c) in
    omega (arith, ap length p.1, length-append (committed_of (durables n c)) p.0)

pub committed_on : (n m : Net) (c : ℕ) (k : PlainEntry) → Older (durables n c) (durables m c)
    → k ∈ committed_of (durables n c) → k ∈ committed_of (durables m c)
committed_on n m c k o d =
    let p = committed_older (durables n c) (durables m c) o in
    subst (λ (l : List PlainEntry). k ∈ l) (sym p.1) (Memᴰ.append_left p.0 d)

-- what one hut has committed for good, and another has as many: it has the same
pub as_many-committed :
    {every : List PlainEntry} (n : Net) → Holds every n → (c j : ℕ) (rs : List PlainRecord)
    → Older rs (durables n c) → length (committed_of rs) ≤ lasting n j
    → committed_of rs ⊆ committed_of (durables n j)
as_many-committed n I c j rs o le k d =
    let p =
    go (order_in n I j c) in subst (λ (l : List PlainEntry). k ∈ l) (sym p.1)
    (Memᴰ.append_left p.0 d)
  where
    a : Prefix (committed_of rs) (so_far n c)
    a =
        prefix_trans (committed_of rs) (committed_of (durables n c)) (so_far n c)
        (committed_older rs (durables n c) o)
        (committed_older (durables n c) (histories n c) ((huts_of n I).part c))

    b : Prefix (committed_of (durables n j)) (so_far n j)
    b = committed_older (durables n j) (histories n j) ((huts_of n I).part j)

    go : Prefix (so_far n j) (so_far n c) ⊎ Prefix (so_far n c) (so_far n j)
        → Prefix (committed_of rs) (committed_of (durables n j))
    go (inl p) =
        prefix_short (committed_of rs) (committed_of (durables n j)) (so_far n c) a
        (inl (prefix_trans (committed_of (durables n j)) (so_far n j) (so_far n c) b p)) le
    go (inr p) =
        prefix_short (committed_of rs) (committed_of (durables n j)) (so_far n j)
        (prefix_trans (committed_of rs) (so_far n c) (so_far n j) a p) (inl b) le
