-- A history stays valid as more becomes durable, and as more is made.
use Rattle.std.proofs.Common.{ℕ, List, [], ◌∷◌, sym, subst, inl, inr}
use Rattle.bookings.specs.Plain.{PlainEntry}
use Rattle.journal.specs.History.{Committed, PlainRecord, Tentative}
use Rattle.network.proofs.Marks.{◌⊆◌}
use Rattle.network.proofs.Parts.{Older, older_trans}
use Rattle.network.proofs.Valid.{Fits, Made, MadeBy, Valid}

-- records are added in every hut
abbrev pub Grows : (ℕ → List PlainRecord) → (ℕ → List PlainRecord) → Type 0
Grows d d' = (h : ℕ) → Older (d h) (d' h)

pub made_grows : (d d' : ℕ → List PlainRecord) → Grows d d' → (e : PlainEntry) (older : List PlainRecord) → Made d e older → Made d' e older
made_grows d d' g e older m = older_trans (Tentative e ∷ older) (d e.mark.hut) (d' e.mark.hut) m (g e.mark.hut)

-- what a hut knew to be made is shown by more records that have those that it went by
pub made_in :
    (d d' : ℕ → List PlainRecord) → Grows d d' → (j : ℕ) (rs : List PlainRecord) → Older rs (d' j) → (e : PlainEntry) (older : List PlainRecord)
    → MadeBy d j rs e older → Made d' e older
made_in d d' g j rs at e older (inl p) = made_grows d d' g e older p
made_in d d' g j rs at e older (inr p) = subst (λ (i : ℕ). Older (Tentative e ∷ older) (d' i)) (sym p.0) (older_trans (Tentative e ∷ older) rs (d' j) p.1 at)

-- the records stay valid as more becomes durable, and more is made
pub valid_grows :
    (every every' : List PlainEntry) → every ⊆ every' → (d d' : ℕ → List PlainRecord) → Grows d d' → (j : ℕ) (rs : List PlainRecord) → Valid every d j rs
    → Valid every' d' j rs
valid_grows every every' sub d d' g j [] v = tt
valid_grows every every' sub d d' g j (r ∷ rs) v = (fits r v.0, valid_grows every every' sub d d' g j rs v.1)
  where
    made : (e : PlainEntry) (older : List PlainRecord) → MadeBy d j rs e older → MadeBy d' j rs e older
    made e older (inl p) = inl (made_grows d d' g e older p)
    made e older (inr p) = inr p

    fits : (r : PlainRecord) → Fits every d j r rs → Fits every' d' j r rs
    fits (Tentative e) (inl f) = inl (record { mine = f.mine; hut = f.hut; some = f.some; listed = sub e f.listed; low = f.low; named = f.named; above = f.above })
    fits (Tentative e) (inr f) =
        inr (record {
          other = f.other;
          fresh = f.fresh;
          older = f.older;
          made = made_grows d d' g e f.older f.made;
          known = f.known;
        })
    fits (Committed e) f = record { fresh = f.fresh; same = f.same; older = f.older; made = made e f.older f.made; known = f.known }
