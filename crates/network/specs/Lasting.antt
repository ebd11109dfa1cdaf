-- What lasts: what some hut has, and all that was ever synced, handed on, or shown to a guest.
use Rattle.std.specs.Prelude.{◌≡◌, ℕ, List, ◌++◌}
use mathlib.Core.List.{Memᴰ}
use Rattle.bookings.specs.Plain.{PlainEntry}
use Rattle.letters.specs.Items.{PlainItem}
use Rattle.network.specs.Items.{Letter, entry_in}
use Rattle.network.specs.Net.{Net, Event, after, held}
use Rattle.network.specs.Replicas.{entries_in, entries_of}

-- some hut knows an entry
abbrev pub Somewhere : Net → PlainEntry → Type 0
Somewhere n k = (h : ℕ) × Memᴰ k (entries_in (n.hut h))

-- an entry that a hut has now; that was synced at a hut at some time; that stands in a letter; or
-- that a guest was shown, or had made
pub data Lasting (es : List Event) (k : PlainEntry) : Type 0 where
  known_now : Somewhere (after es) k → Lasting es k
  synced_once : (before since : List Event) (i : ℕ) → es ≡ before ++ since
      → Memᴰ k (entries_of ((after before).hut i).durable) → Lasting es k
  handed_on : (l : Letter) (w : PlainItem) → Memᴰ l (after es).sent → Memᴰ w l → entry_in w ≡ k
      → Lasting es k
  seen_by : (g : ℕ) → Memᴰ k (held ((after es).guest g)) → Lasting es k

-- LAW: all of that is known to some hut.
abbrev pub LastingKnown : List Event → Type 0
LastingKnown es = (k : PlainEntry) → Lasting es k → Somewhere (after es) k
