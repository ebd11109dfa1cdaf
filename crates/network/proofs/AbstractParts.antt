-- Sets with the same entries, and parts that show the same records.
use Rattle.std.proofs.Common.{◌≡◌, List, length, sym, ap, ◌∙◌, subst}
use Rattle.bookings.specs.Plain.{PlainEntry}
use Rattle.journal.specs.History.{PlainRecord}
use Rattle.network.specs.Abstract.{Page, Part, SamePart, SameSet}
use Rattle.network.specs.Refinement.{Draws}
use Rattle.network.specs.Replicas.{committed_of, entries_of}
use Rattle.network.proofs.Marks.{◌∈◌}

same_set : (s t : List PlainEntry) → s ≡ t → SameSet s t
same_set s t q = (λ k m. subst (λ (l : List PlainEntry). k ∈ l) q m, λ k m. subst (λ (l : List PlainEntry). k ∈ l) (sym q) m)

pub set_trans : (s t u : List PlainEntry) → SameSet s t → SameSet t u → SameSet s u
set_trans s t u p q = (λ k m. q.0 k (p.0 k m), λ k m. p.1 k (q.1 k m))

pub set_turned : (s t : List PlainEntry) → SameSet s t → SameSet t s
set_turned s t p = (p.1, p.0)

-- parts that show the same records are the same
pub part_same : (a b : Page) (p q : Part) (rs ss : List PlainRecord) → Draws a rs p → Draws b ss q → ss ≡ rs → SamePart q p
part_same a b p q rs ss d e is = (
  e.count ∙ ap (λ r. length (committed_of r)) is ∙ sym d.count,
  set_trans q.set (entries_of ss) p.set e.set (set_trans (entries_of ss) (entries_of rs) p.set (same_set (entries_of ss) (entries_of rs) (ap entries_of is)) (set_turned p.set (entries_of rs) d.set)),
)
