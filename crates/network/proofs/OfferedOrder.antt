-- What a letter offers is in the log's order, and each entry of it once.
use Rattle.std.proofs.Common.{◌≡◌, ℕ, zero, suc, ◌≤◌, leb, List, [], ◌∷◌, ◌++◌, map, get_or, drop, refl, ap, arith}
use Rattle.bookings.specs.Plain.{PlainEntry, PlainMark}
use Rattle.entry_log.specs.Order.{times}
use Rattle.entry_log.specs.Vectors.{vector_of}
use Rattle.entry_log.specs.Waits.{PlainWaiting}
use Rattle.letters.specs.Items.{placed_from, waiting}
use Rattle.replica.specs.Parcels.{missing}
use Rattle.network.specs.Items.{entry_in}
use Rattle.network.specs.Offering.{PartOf}
use Rattle.network.proofs.Tests.{cond_by}

part_all : (es : List PlainEntry) → PartOf es es
part_all [] = PartOf.none
part_all (e ∷ es) = PartOf.kept (part_all es)

pub part_drop : (n : ℕ) (es : List PlainEntry) → PartOf (drop n es) es
part_drop zero es = part_all es
part_drop (suc n) [] = PartOf.none
part_drop (suc n) (e ∷ es) = PartOf.left (part_drop n es)

pub part_append : {a b c d : List PlainEntry} → PartOf a b → PartOf c d → PartOf (a ++ c) (b ++ d)
part_append PartOf.none q = q
part_append (PartOf.kept p) q = PartOf.kept (part_append p q)
part_append (PartOf.left p) q = PartOf.left (part_append p q)

pub placed_entries : (p : ℕ) (es : List PlainEntry) → map entry_in (placed_from p es) ≡ es
placed_entries p [] = refl
placed_entries p (e ∷ es) = ap (λ (y : List PlainEntry). e ∷ y) (placed_entries (suc p) es)

pub missing_part :
    (has : List ℕ) (ahead l : List PlainEntry)
    → PartOf (map entry_in (map waiting (missing has ahead l))) l
missing_part has ahead [] = PartOf.none
missing_part has ahead (x ∷ l) =
    cond_by (λ (ws : List PlainWaiting). PartOf (map entry_in (map waiting ws)) (x ∷ l))
    (leb x.mark.stamp (get_or has x.mark.hut 0)) (missing has (ahead ++ x ∷ []) l)
    (record { entry = x; stood = vector_of ahead } ∷ missing has (ahead ++ x ∷ []) l)
    (λ _. PartOf.left (missing_part has (ahead ++ x ∷ []) l))
    (λ _. PartOf.kept (missing_part has (ahead ++ x ∷ []) l))

-- no mark stands more often in a part
pub part_times : {es fs : List PlainEntry} → PartOf es fs → (m : PlainMark) → times m es ≤ times m fs
part_times PartOf.none m = omega arith
part_times (PartOf.kept p) m = let r = part_times p m in omega arith
part_times (PartOf.left p) m = let r = part_times p m in omega arith
