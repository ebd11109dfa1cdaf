-- Each way to write a record keeps the histories valid.
use Rattle.std.proofs.Common.{◌≡◌, ℕ, ◌<◌, ◌≤◌, true, T, List, ◌∷◌, ◌++◌, get_or, Some, sym, refl, ap, subst, inl, inr, arith}
use mathlib.Core.List.Memᴰ
use Rattle.bookings.specs.Books.{named_by}
use Rattle.bookings.specs.Plain.{PlainEntry, PlainMark}
use Rattle.journal.specs.History.{Committed, PlainRecord, Tentative}
use Rattle.entry_log.specs.Logs.{has, top}
use Rattle.entry_log.specs.Vectors.{covers, vector_of}
use Rattle.replica.specs.Model.{last_stamp}
use Rattle.network.specs.Net.{huts}
use Rattle.network.specs.Replicas.{committed_of, entries_of, tentative_of}
use Rattle.network.proofs.Growth.{made_grows, made_in}
use Rattle.network.proofs.Histories.{apart, committed_behind, committed_once, known_made}
use Rattle.network.proofs.Knowing.{Huts, behind, known_covered, known_here, known_then, made_once, maker_knows}
use Rattle.network.proofs.Marks.{Fresh, ◌∈◌, ◌⊆◌}
use Rattle.network.proofs.Numbers.{top_above}
use Rattle.network.proofs.Parts.{Older, older_one, older_self, older_trans}
use Rattle.network.proofs.Sorting.{Once, once_split}
use Rattle.network.proofs.Valid.{Fits, Made, MadeBy, Valid, valid_older}

module _ (H : Huts) where
  open H use {hist, dur, every, valid, part}

  -- a hut makes an entry
  pub make_fits :
      (j : ℕ) (e : PlainEntry) → e.mark.hut ≡ j → j < huts → top (entries_of (hist j)) < e.mark.stamp → e ∈ every → e.mark.stamp < last_stamp
      → ((m : PlainMark) → named_by e.kind ≡ Some m → T (has m (entries_of (hist j)))) → Fits every dur j (Tentative e) (hist j)
  make_fits j e mine small above listed low named =
      inl (record { mine = mine; hut = small; some = omega arith; listed = listed; low = low; named = named; above = λ k m. let t = top_above k (entries_of (hist j)) m in omega arith })

  -- a hut takes a tentative entry, with a vector that covers all that its maker knew
  pub waiting_fits :
      (j : ℕ) (e : PlainEntry) (v : List ℕ) (older : List PlainRecord) → Made dur e older
      → ((k : PlainEntry) → k ∈ entries_of older → k.mark.stamp ≤ get_or v k.mark.hut 0) → Fresh e.mark (entries_of (hist j))
      → covers (vector_of (entries_of (hist j))) v ≡ true → Fits every dur j (Tentative e) (hist j)
  waiting_fits j e v older durable low fresh t =
      inr (record {
        other = λ q. fresh e (subst (λ (i : ℕ). e ∈ entries_of (hist i)) q (maker_knows H e older made)) refl;
        fresh = fresh;
        older = older;
        made = durable;
        known = λ k m. let w = known_then H e.mark.hut older earlier k m in known_covered H j v t k w.0 w.1 (low k m);
      })
    where
      made : Made hist e older
      made = made_grows dur hist part e older durable

      earlier : Older older (hist e.mark.hut)
      earlier = older_trans older (Tentative e ∷ older) (hist e.mark.hut) (older_one (Tentative e) older) made

  -- what a hut knows with the mark of an entry that was made is that entry
  pub same_mark_lem : (j : ℕ) (e : PlainEntry) (older : List PlainRecord) → Made hist e older → (k : PlainEntry) → k ∈ entries_of (hist j) → k.mark ≡ e.mark → k ≡ e
  same_mark_lem j e older made k m q = let w = known_here H j k m in (made_once H k e w.0 older w.1 made q).0

  -- the first tentative entry becomes committed
  pub commit_fits : (j : ℕ) (e : PlainEntry) (es : List PlainEntry) → tentative_of (hist j) ≡ e ∷ es → Fits every dur j (Committed e) (hist j)
  commit_fits j e es q =
      record {
        fresh = λ k m. apart every dur j (hist j) (valid j) k e m first;
        same = same_mark_lem j e w.0 made;
        older = w.0;
        made = w.1;
        known = behind H j e (committed_of (hist j)) es w.0 (ap (λ (l : List PlainEntry). committed_of (hist j) ++ l) q) made;
      }
    where
      first : e ∈ tentative_of (hist j)
      first = subst (λ (l : List PlainEntry). e ∈ l) (sym q) (Memᴰ.head refl)

      w : (older : List PlainRecord) × MadeBy dur j (hist j) e older × (entries_of older ⊆ entries_of (hist j))
      w = known_made every dur j (hist j) (valid j) e (Memᴰ.append_right (committed_of (hist j)) first)

      made : Made hist e w.0
      made = made_in dur hist part j (hist j) (older_self (hist j)) e w.0 w.1

  -- a hut takes the entry that comes next in what another has committed
  pub settled_fits :
      (j i : ℕ) (e : PlainEntry) (front back : List PlainEntry) → committed_of (dur i) ≡ front ++ (e ∷ back) → committed_of (hist j) ≡ front
      → Fits every dur j (Committed e) (hist j)
  settled_fits j i e front back q c =
      record {
        fresh = rw c (once_split e front back (subst Once q (committed_once every dur i (dur i) valid-there))).0;
        same = same_mark_lem j e w.0 (made_grows dur hist part e w.0 durable);
        older = w.0;
        made = inl durable;
        known = rw c w.2;
      }
    where
      valid-there : Valid every dur i (dur i)
      valid-there = valid_older every dur i (dur i) (hist i) (part i) (valid i)

      w : (older : List PlainRecord) × MadeBy dur i (dur i) e older × (entries_of older ⊆ front)
      w = committed_behind every dur i (dur i) valid-there e front back q

      durable : Made dur e w.0
      durable = made_in dur dur (λ h. older_self (dur h)) i (dur i) (older_self (dur i)) e w.0 w.1
