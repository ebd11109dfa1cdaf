-- An item of a letter is there once it was taken, if what stood before it was known.
use Rattle.std.proofs.Common.{◌≡◌, ℕ, ◌<◌, ◌≤◌, true, T, List, [], ◌∷◌, ◌++◌, length, get_or, None, sym, ap, ◌∙◌, subst, inl, inr, append_assoc, arith, length-append}
use mathlib.Core.List.Memᴰ
use Rattle.std.proofs.lemmas.Bool.{cases_lt}
use Rattle.bookings.specs.Plain.{PlainEntry}
use Rattle.journal.specs.History.{Kept, PlainRecord, Tentative, history_of, state_in}
use Rattle.entry_log.specs.Logs.{has}
use Rattle.entry_log.specs.Vectors.{covers}
use Rattle.entry_log.specs.Waits.{PlainWaiting}
use Rattle.replica.specs.Model.{capacity}
use Rattle.letters.specs.Items.{PlainItem, settled, waiting}
use Rattle.network.specs.Items.{record_of, refusal_of, takes}
use Rattle.network.specs.Late.{HasItem}
use Rattle.network.specs.Net.{Net, with_hut}
use Rattle.network.specs.Promise.{Prefix}
use Rattle.network.specs.Replicas.{committed_in, committed_of, entries_in, entries_of, tentative_of, vector_in}
use Rattle.network.proofs.Growth.{made_grows}
use Rattle.network.proofs.Handed.{stands-said}
use Rattle.network.proofs.Holds.{Becomes, Holds, Said, durables, histories, huts_of, said_grows, so_far}
use Rattle.network.proofs.Knowing.{maker_knows}
use Rattle.network.proofs.Leading.{AtPlace, place_more}
use Rattle.network.proofs.Lists.{by_append, place_in_first, place_of, stands}
use Rattle.network.proofs.Logs.{log_new}
use Rattle.network.proofs.Marks.{Fresh, ◌∈◌, ◌⊆◌, has-fresh, has_one}
use Rattle.network.proofs.Parts.{Older, committed_older, older_one, older_self, prefix-length}
use Rattle.network.proofs.Refusals.{committed_allows, tentative_allows}
use Rattle.network.proofs.Room.{once_log, room}
use Rattle.network.proofs.Safety.{order_in}
use Rattle.network.proofs.Sorting.{Once, once_split}
use Rattle.network.proofs.Taken.{takes-taken, takes_by}
use Rattle.network.proofs.Taking.{takes_step}
use Rattle.network.proofs.Tests.{by_test}
use Rattle.network.proofs.Valid.{Made, Valid, log_older}
use Rattle.network.proofs.Whole.{hut_self}
use Rattle.network.proofs.Writing.{same_mark_lem}

-- what stood before an item is known
abbrev pub Ready : Kept → PlainItem → Type 0
Ready k (settled p e) = p ≤ length (committed_in k)
Ready k (waiting w) = covers (vector_in k) w.stood ≡ true

-- a replica comes to have more, and loses nothing
abbrev pub On : Kept → Kept → Type 0
On x y = Prefix (committed_in x) (committed_in y) × (entries_in x ⊆ entries_in y)

pub on_has : (x y : Kept) (w : PlainItem) → On x y → HasItem x w → HasItem y w
on_has x y (settled p e) o h = (
  omega (arith, h.0, ap length o.0.1, length-append (committed_in x) o.0.0),
  λ d. ap (λ (l : List PlainEntry). get_or l p d) o.0.1
      ∙ place_in_first (committed_in x) o.0.0 p d h.0 ∙ h.1 d,
)
on_has x y (waiting w) o h = o.1 w.entry h

pub takes_older : (w : PlainItem) (k : Kept) → Older (history_of k) (history_of (takes w k))
takes_older w k =
    takes_by (λ x. Older (history_of k) (history_of x)) w k (older_one (record_of w) (history_of k))
    (older_self (history_of k))

pub on_by : {every : List PlainEntry} (n : Net) (j : ℕ) (x y : Kept)
    → Becomes every n (with_hut j y n) → Older (history_of x) (history_of y) → On x y
on_by {every} n j x y b older =
    let m = with_hut j y n in (
      committed_older (history_of x) (history_of y) older,
      log_older every (durables m) j (history_of x) (history_of y) older
          (subst (λ (k : Kept). Valid every (durables m) j (history_of k)) (hut_self j y n)
          (b.holds.valid j)),
    )

module _
    {every : List PlainEntry} (n : Net) (I : Holds every n) (few : length every < capacity)
    (j : ℕ) where
  abbrev mine : List PlainEntry
  mine = committed_in (n.hut j)

  -- its maker knows what is durable there
  made-known : (e : PlainEntry) (older : List PlainRecord) → Made (durables n) e older
      → Made (histories n) e older × (e ∈ entries_of (histories n e.mark.hut))
  made-known e older m =
      let made = made_grows (durables n) (histories n) (huts_of n I).part e older m in
      (made, maker_knows (huts_of n I) e older made)

  -- a tentative item, where its mark is known already, and where it is new
  waiting-there : (w : PlainWaiting) → Said (durables n) (waiting w)
      → T (has w.entry.mark (entries_in (n.hut j))) → w.entry ∈ entries_in (n.hut j)
  waiting-there w s t =
      let k = has_one w.entry.mark (entries_in (n.hut j)) t in
      Memᴰ.cast (sym (same_mark_lem (huts_of n I) j w.entry s.0 (made-known w.entry s.0 s.1).0 k.0
      k.1 k.2)) k.1

  waiting-new :
      (w : PlainWaiting) → Said (durables n) (waiting w)
      → covers (vector_in (n.hut j)) w.stood ≡ true → Fresh w.entry.mark (entries_in (n.hut j))
      → refusal_of (waiting w) (state_in (n.hut j)) ≡ None
  waiting-new w s c new =
      tentative_allows w.entry w.stood (state_in (n.hut j)) new c
      (room n I few w.entry.mark.hut j w.entry (made-known w.entry s.0 s.1).1 new)

  -- a committed item that comes next
  module _
      (p : ℕ) (e : PlainEntry) (s : Said (durables n) (settled p e))
      (q : p ≡ length (committed_in (n.hut j))) where
    there : AtPlace (so_far n s.0) p e
    there =
        place_more (committed_of (durables n s.0)) (so_far n s.0) p e
        (committed_older (durables n s.0) (histories n s.0) ((huts_of n I).part s.0)) s.1

    log : entries_of (histories n s.0) ≡ there.0
        ++ (e ∷ (there.1 ++ tentative_of (histories n s.0)))
    log =
        ap (λ (l : List PlainEntry). l ++ tentative_of (histories n s.0)) there.2
        ∙ append_assoc there.0 (e ∷ there.1) (tentative_of (histories n s.0))

    -- hut j has just what stands before it
    just-before : mine ≡ there.0
    just-before = elim (order_in n I j s.0) [
      | inl c ↦
          prefix-length mine there.0 c.0 (e ∷ there.1) (sym c.1 ∙ there.2) (sym q ∙ sym there.3)
      | inr c ↦
          absurd (omega (
            arith,
            q,
            ap length c.1,
            length-append (so_far n s.0) c.0,
            ap length there.2,
            there.3,
            length-append there.0 (e ∷ there.1),
          ))
    ]

    new : Fresh e.mark mine
    new =
        subst (Fresh e.mark) (sym just-before)
        (once_split e there.0 (there.1 ++ tentative_of (histories n s.0))
        (subst Once log (once_log n I s.0))).0

    settled-new : refusal_of (settled p e) (state_in (n.hut j)) ≡ None
    settled-new =
        committed_allows p e.mark (state_in (n.hut j)) new q
        (λ fresh. room n I few s.0 j e (subst (λ (l : List PlainEntry). e ∈ l) (sym log)
        (stands e there.0 (there.1 ++ tentative_of (histories n s.0))))
        (λ k d. by_append mine d (new k) (fresh k)))

  -- what it has of a letter it keeps, whatever item comes
  on_item : (w : PlainItem) → Becomes every n (with_hut j (takes w (n.hut j)) n)
      → On (n.hut j) (takes w (n.hut j))
  on_item w b = on_by n j (n.hut j) (takes w (n.hut j)) b (takes_older w (n.hut j))

  item_had : (w : PlainItem) → Said (durables n) w → Ready (n.hut j) w
      → Becomes every n (with_hut j (takes w (n.hut j)) n) → HasItem (takes w (n.hut j)) w
  item_had (waiting w) s r b =
      by_test (has w.entry.mark (entries_in (n.hut j)))
      (λ t. on_has (n.hut j) (takes (waiting w) (n.hut j)) (waiting w) (on_item (waiting w) b)
      (waiting-there w s t))
      (λ f.
      subst (λ (k : Kept). w.entry ∈ entries_in k)
      (sym (takes-taken (waiting w) (n.hut j)
      (waiting-new w s r (has-fresh w.entry.mark (entries_in (n.hut j)) f))))
      (log_new (Tentative w.entry) (histories n j)))
  item_had (settled p e) s r b =
      elim (cases_lt p (length mine)) [
        | inl lt ↦
            on_has (n.hut j) (takes (settled p e) (n.hut j)) (settled p e) (on_item (settled p e) b)
            (lt, λ d. stands-said n I p e s j d lt)
        | inr le ↦
            let q : p ≡ length mine = omega arith in
            subst (λ (k : Kept). HasItem k (settled p e))
            (sym (takes-taken (settled p e) (n.hut j) (settled-new p e s q))) (
              omega (arith, q, length-append mine (e ∷ [])),
              λ d. ap (λ (x : ℕ). get_or (mine ++ (e ∷ [])) x d) q ∙ place_of mine [] e d,
            )
      ]

-- the same, of a replica that hut j has come to
pub item_had_at :
    {every : List PlainEntry} (n : Net) → length every < capacity → (j : ℕ) (x : Kept)
    → Becomes every n (with_hut j x n) → (w : PlainItem) → Said (durables n) w
    → Ready x w → HasItem (takes w x) w
item_had_at {every} n few j x b w s r =
    let m = with_hut j x n in
    let said = said_grows (durables n) (durables m) b.grows w s in
    let next = takes_step m b.holds j w said in
    subst (λ (k : Kept). Ready k w → HasItem (takes w k) w) (hut_self j x n)
    (λ t. item_had m b.holds few j w said t next) r
