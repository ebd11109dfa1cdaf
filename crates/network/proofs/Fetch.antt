-- Letter after letter a replica comes to know all that another knows, and to have as many committed.
use Rattle.std.proofs.Common.{◌≡◌, ℕ, zero, suc, ◌<◌, ◌≤◌, ◌⊎◌, List, [], ◌∷◌, ◌++◌, length, drop, sym, refl, ap, ◌∙◌, subst, inl, inr, arith, length-append, length-drop}
use Rattle.entry_log.specs.declared.waiting.TheConstants.{MAX_LETTER_ENTRIES}
use mathlib.Core.List.{Memᴰ}
use Rattle.bookings.specs.Plain.{PlainEntry}
use Rattle.journal.specs.History.{PlainRecord, history_of}
use Rattle.letters.specs.Items.{PlainItem, settled}
use Rattle.network.specs.Items.{items_taken}
use Rattle.network.specs.Net.{Event, Net, Takes, Writes, after, huts}
use Rattle.network.specs.Promise.{Caught, all_hand_on, exchange, lacking, letter_to}
use Rattle.network.specs.Replicas.{committed_in, committed_of, entries_of, vector_in}
use Rattle.network.proofs.Exchange.{exchange-left, exchange_others, exchange_reader}
use Rattle.network.proofs.Letters.{in_item, letter_item, written_known}
use Rattle.network.proofs.Marks.{◌⊆◌}
use Rattle.network.proofs.Next.{next}
use Rattle.network.proofs.Parts.{Older, committed_older}
use Rattle.network.proofs.Safety.{All, after_holds, dur, hist, entries_made}
use Rattle.network.proofs.Taken.{take_all_all, take_all_older, take_all_short}
use Rattle.network.proofs.Tests.{Apart, apart_turned}
use Rattle.network.proofs.Valid.{log_older}
use Rattle.network.proofs.Walk.{InLog, Only, Roomy, WalkTo, after_two, stay, then_on, walk-map}
use Rattle.network.proofs.Whole.{made_fewer}

-- only hut j has written anything, it has lost nothing, and what it has is its own or hut i's
pub record Fetched (es on : List Event) (i j : ℕ) : Type 0 where
  pub only : Only j es on
  pub kept : entries_of (hist es j) ⊆ entries_of (hist on j)
  pub from : (k : PlainEntry) → InLog k (hist on j) → InLog k (hist es j) ⊎ InLog k (hist es i)
  pub grown : length (committed_of (hist es j)) ≤ length (committed_of (hist on j))
  pub short : (most : ℕ) → length (committed_of (hist es j)) ≤ most → length (committed_of (hist es i)) ≤ most → length (committed_of (hist on j)) ≤ most

fetched_none : (es : List Event) (i j : ℕ) → Fetched es es i j
fetched_none es i j = record { only = λ x a. refl; kept = λ k d. d; from = λ k d. inl d; grown = omega arith; short = λ most a b. a }

-- one after another
fetched_on : (es on end : List Event) (i j : ℕ) → Apart i j → Fetched es on i j → Fetched on end i j → Fetched es end i j
fetched_on es on end i j apart h g =
    record {
      only = λ x a. g.only x a ∙ h.only x a;
      kept = λ k d. g.kept k (h.kept k d);
      from = λ k d. elim (g.from k d) [ inl a ↦ h.from k a | inr b ↦ inr (subst (InLog k) (h.only i apart) b) ];
      grown = omega (arith, h.grown, g.grown);
      short = λ most a b. g.short most (h.short most a b) (subst (λ (rs : List PlainRecord). length (committed_of rs) ≤ most) (sym (h.only i apart)) b);
    }

-- what is so after one letter
fetched_one : (es on : List Event) (i j : ℕ) → hist on j ≡ history_of (items_taken (letter_to (after es) i j) ((after es).hut j)) → Only j es on → Fetched es on i j
fetched_one es on i j q only =
    record {
      only = only;
      kept = log_older (entries_made on) (dur on) j (hist es j) (hist on j) older ((All on).valid j);
      grown = let p = committed_older (hist es j) (hist on j) older in omega (arith, ap length p.1, length-append (committed_of (hist es j)) p.0);
      short = λ most a b.
          subst (λ (rs : List PlainRecord). length (committed_of rs) ≤ most) (sym q)
          (take_all_short most (letter_to (after es) i j) ((after es).hut j)
          (λ p e m. let w = letter_item (length (committed_in ((after es).hut j))) (vector_in ((after es).hut j)) ((after es).hut i) (settled p e) m in
          omega (arith, b, ap length w.2, w.3, length-append w.0 (e ∷ w.1))) a);
      from = λ k d. take_all_all (λ x. InLog x (hist es j) ⊎ InLog x (hist es i)) (letter_to (after es) i j) ((after es).hut j) said (λ x m. inl m) k (subst (InLog k) q d);
    }
  where
    older : Older (hist es j) (hist on j)
    older = subst (Older (hist es j)) (sym q) (take_all_older (letter_to (after es) i j) ((after es).hut j))

    said : (w : PlainItem) → Memᴰ w (letter_to (after es) i j) → InLog (in_item w) (hist es j) ⊎ InLog (in_item w) (hist es i)
    said w m = inr (written_known ((after es).hut i) w (letter_item (length (committed_in ((after es).hut j))) (vector_in ((after es).hut j)) ((after es).hut i) w m))

module _ (i j : ℕ) (low : i < huts) (lt : j < huts) (apart : Apart i j) where
  -- one letter
  bring : (es : List Event) → Roomy es → WalkTo es (λ on. Fetched es on i j × (lacking (after on) i j ≡ drop MAX_LETTER_ENTRIES (lacking (after es) i j)))
  unfolding all_hand_on
  bring es few =
      record {
        later = a ∷ b ∷ [];
        walk = tt;
        there = (
          fetched_one es on i j (ap (λ (n : Net). history_of (n.hut j)) is ∙ ap history_of (exchange_reader (after es) i j low lt (apart_turned i j apart)))
              (λ x other. ap (λ (n : Net). history_of (n.hut x)) is ∙ exchange_others (after es) i j low lt x other),
          ap (λ (n : Net). lacking n i j) is ∙ exchange-left i j low lt (after es) (after_holds es) (made_fewer es few) apart,
        );
      }
    where
      a : Event
      a = Writes i (length (committed_in ((after es).hut j))) (vector_in ((after es).hut j))

      b : Event
      b = Takes j (length (after es).sent)

      on : List Event
      on = es ++ (a ∷ b ∷ [])

      is : after (es ++ (a ∷ b ∷ [])) ≡ exchange (after es) i j
      is = after_two es a b

  -- letters until nothing is lacking
  fetch_for : (fuel : ℕ) (es : List Event) → Roomy es → length (lacking (after es) i j) ≤ fuel → WalkTo es (λ on. Fetched es on i j × Caught (after on) i j)
  fetch_for zero es few enough = elim (next (after es) (after_holds es) (made_fewer es few) i j) [
    | inl p ↦ stay (fetched_none es i j, p.1)
    | inr f ↦ absurd (omega (arith, ap length f.is))
  ]
  fetch_for (suc fuel) es few enough =
      then_on few (bring es few)
      (λ on more h. walk-map (fetch_for fuel on more (omega (arith, ap length h.1, length-drop MAX_LETTER_ENTRIES (lacking (after es) i j)))) (λ end g. (fetched_on es on end i j apart h.0 g.0, g.1)))

  pub fetch : (es : List Event) → Roomy es → WalkTo es (λ on. Fetched es on i j × Caught (after on) i j)
  fetch es few = fetch_for (length (lacking (after es) i j)) es few (omega arith)
