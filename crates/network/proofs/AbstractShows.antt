-- Of every net that events lead to there is a page that shows it.
use Rattle.std.proofs.Common.{◌≡◌, ℕ, cond, List, [], ◌∷◌, ◌++◌, length, sym, refl, ap, ◌∙◌, subst, inl, inr}
use mathlib.Core.List.Memᴰ
use Rattle.bookings.specs.Books.{same_mark}
use Rattle.bookings.specs.Plain.{PlainEntry, PlainMark}
use Rattle.journal.specs.History.{Committed, PlainRecord, Tentative}
use Rattle.entry_log.proofs.Putting.{same_self}
use Rattle.entry_log.specs.Logs.{PlainLog}
use Rattle.replica.specs.Model.{leader}
use Rattle.network.specs.Abstract.{Closed, Page, Part, SameSet, list}
use Rattle.network.specs.Net.{Net}
use Rattle.network.specs.Refinement.{Draws, Longest, Shows}
use Rattle.network.specs.Replicas.{committed_of, entries_of, tentative_of}
use Rattle.network.proofs.AbstractLists.{longest_durable, longest_so_far}
use Rattle.network.proofs.AbstractLogs.{log_is}
use Rattle.network.proofs.Histories.{apart, sorted}
use Rattle.network.proofs.Holds.{Holds, durables, durably, histories, huts_of, so_far}
use Rattle.network.proofs.Knowing.{Huts, known_here, made_once}
use Rattle.network.proofs.Logs.{log_new}
use Rattle.network.proofs.Marks.{◌∈◌, ◌⊆◌, by_mark}
use Rattle.network.proofs.Parts.{Older, committed_older, older_self, prefix_trans}
use Rattle.network.proofs.Valid.{Valid, log_older, new_fresh, valid_older}

-- what the maker of the entry with a mark knew, by its records
abbrev pub knew_in : List PlainRecord → PlainMark → List PlainEntry
knew_in [] m = []
knew_in (Tentative e ∷ rs) m = cond (same_mark m e.mark) (entries_of rs) (knew_in rs m)
knew_in (Committed e ∷ rs) m = knew_in rs m

knew_is :
    (every : List PlainEntry) (d : ℕ → List PlainRecord) (j : ℕ) (e : PlainEntry) (older newer : List PlainRecord)
    → Valid every d j (newer ++ Tentative e ∷ older) → knew_in (newer ++ Tentative e ∷ older) e.mark ≡ entries_of older
knew_is every d j e older [] v = rw (same_self e.mark) refl
knew_is every d j e older (Committed x ∷ newer) v = knew_is every d j e older newer v.1
knew_is every d j e older (Tentative x ∷ newer) v = elim (by_mark e.mark x.mark) [
  | inl p ↦
      let rs = newer ++ Tentative e ∷ older in
      absurd (new_fresh every d j x rs v.0 e (log_older every d j (Tentative e ∷ older) rs (newer, refl) v.1 e (log_new (Tentative e) older)) p.0)
  | inr p ↦ rw p.1 (knew_is every d j e older newer v.1)
]

-- entries with one mark are one entry, in whichever logs
pub one_mark : (H : Huts) (i j : ℕ) (e f : PlainEntry) → e ∈ entries_of (H.hist i) → f ∈ entries_of (H.hist j) → e.mark ≡ f.mark → e ≡ f
one_mark H i j e f m n p = let a = known_here H i e m in let b = known_here H j f n in (made_once H e f a.0 b.0 a.1 b.1 p).0

abbrev pub part_of : List PlainRecord → Part
part_of rs = record { count = length (committed_of rs); set = entries_of rs }

module _ {every : List PlainEntry} (n : Net) (I : Holds every n) where
  draft_of : (draft : List PlainEntry) × Longest (so_far n) (I.all ++ draft)
  draft_of = longest_so_far leader (durably n) (so_far n) I.all I.led

  pub page_of : Page
  page_of =
      record {
        committed = I.all;
        draft = draft_of.0;
        knew = λ m. knew_in (histories n m.hut) m;
        now = λ i. part_of (histories n i);
        synced = λ i. part_of (durables n i);
      }

  -- the log of a part of a hut's history
  draws : (i : ℕ) (rs : List PlainRecord) → Older rs (histories n i) → Draws page_of rs (part_of rs)
  unfolding page_of
  draws i rs o =
      record {
        count = refl;
        set = (λ k m. m, λ k m. m);
        log =
            log_is (committed_of rs) (tentative_of rs) (list page_of) (part_of rs)
            (prefix_trans (committed_of rs) (so_far n i) (list page_of) (committed_older rs (histories n i) o) (draft_of.1.each i)) refl
            (sorted every (durables n) i rs valid) (apart every (durables n) i rs valid)
            (λ k m e u q. one_mark (huts_of n I) i i e k (here e u) (here k m) q) (λ k m. m, λ k m. m);
      }
    where
      valid : Valid every (durables n) i rs
      valid = valid_older every (durables n) i rs (histories n i) o (I.valid i)

      here : entries_of rs ⊆ entries_of (histories n i)
      here = log_older every (durables n) i rs (histories n i) o (I.valid i)

  pub shows : Shows n page_of
  unfolding page_of
  shows =
      record {
        now = λ i. draws i (histories n i) (older_self (histories n i));
        synced = λ i. draws i (durables n i) ((huts_of n I).part i);
        list = draft_of.1;
        committed = longest_durable leader (durably n) (so_far n) I.all I.led;
        knew = λ e older made. same (sym (knew_is every (durables n) e.mark.hut e older made.0 (subst (Valid every (durables n) e.mark.hut) made.1 (I.valid e.mark.hut))) ∙ ap (λ rs. knew_in rs e.mark) (sym made.1));
      }
    where
      same : {s t : List PlainEntry} → t ≡ s → SameSet s t
      same q = (λ k m. subst (λ l. k ∈ l) (sym q) m, λ k m. subst (λ l. k ∈ l) q m)

  -- what a hut knows is closed, in every page that shows the net
  pub closed_now : (a : Page) → Shows n a → (i : ℕ) → Closed a (a.now i)
  closed_now a S i = (
    λ e m k u. let w = known_here (huts_of n I) i e ((S.now i).set.0 e m) in (S.now i).set.1 k (w.2 k ((S.knew e w.0 w.1).0 k u)),
    λ k m.
        (S.now i).set.1 k
        (Memᴰ.append_left (tentative_of (histories n i)) (subst (λ l. k ∈ l) (sym (ap (λ (l : PlainLog). l.committed) (S.now i).log)) m)),
  )
