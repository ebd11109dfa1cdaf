-- What a hut gives out once all of its records are durable lasts, so each item of a letter is true.
use Rattle.std.proofs.Common.{◌≡◌, ℕ, ◌≤◌, List, ◌∷◌, ◌++◌, get_or, sym, refl, subst}
use mathlib.Core.List.Memᴰ
use mathlib.Core.List.{Memᴰ}
use Rattle.std.proofs.lemmas.Bool.{eq-eqb}
use Rattle.bookings.specs.Plain.{PlainEntry}
use Rattle.journal.specs.History.{PlainRecord, synced}
use Rattle.entry_log.specs.Vectors.{vector_of}
use Rattle.letters.specs.Items.{PlainItem, settled, waiting}
use Rattle.network.specs.Items.{Letter, words_for}
use Rattle.network.specs.Net.{Net, send, with_hut}
use Rattle.network.specs.Promise.{Prefix}
use Rattle.network.specs.Replicas.{committed_of, entries_in, entries_of}
use Rattle.network.proofs.Alone.{sync_step}
use Rattle.network.proofs.Growth.{made_in}
use Rattle.network.proofs.Histories.{known_made}
use Rattle.network.proofs.Holds.{Becomes, Holds, Said, becomes_trans, durables, histories, huts_of, said_settled}
use Rattle.network.proofs.Knowing.{behind, known_here, made-own}
use Rattle.network.proofs.Letters.{Written, letter_item, written_known}
use Rattle.network.proofs.Lists.{by_last}
use Rattle.network.proofs.Marks.{◌∈◌}
use Rattle.network.proofs.Numbers.{vector_above}
use Rattle.network.proofs.Parts.{Older, committed_older, older_self}
use Rattle.network.proofs.Valid.{Made}

-- a letter of true items is written
send-step : {every : List PlainEntry} (n : Net) → Holds every n → (l : Letter) → ((w : PlainItem) → Memᴰ w l → Said (durables n) w) → Becomes every n (send l n)
send-step n I l s =
    record {
      holds =
          record {
            own = I.own;
            valid = I.valid;
            all = I.all;
            led = I.led;
            said = λ x m. by_last n.sent m (I.said x) (λ q. subst (λ (y : Letter). (w : PlainItem) → Memᴰ w y → Said (durables n) w) (sym q) s);
            guests = I.guests;
          };
      grows = λ h. older_self (durables n h);
    }

-- after a hut has made all of its records durable
module _ {every : List PlainEntry} (n : Net) (I : Holds every n) (i : ℕ) where
  abbrev pub after_sync : Net
  after_sync = with_hut i (synced (n.hut i)) n

  all_durable : Older (histories n i) (durables after_sync i)
  all_durable = rw (eq-eqb i i refl, durables) (older_self (histories n i))

  -- what it knows lasts
  pub known_lasts : (e : PlainEntry) → e ∈ entries_in (n.hut i) → (older : List PlainRecord) × Made (histories n) e older × Made (durables after_sync) e older
  known_lasts e m =
      let w = known_made every (durables n) i (histories n i) (I.valid i) e m in (
        w.0,
        made_in (durables n) (histories n) (huts_of n I).part i (histories n i) (older_self (histories n i)) e w.0 w.1,
        made_in (durables n) (durables after_sync) (sync_step n I i).grows i (histories n i) all_durable e w.0 w.1,
      )

  -- what it has as committed, it has for good
  pub committed_lasts : Prefix (committed_of (histories n i)) (committed_of (durables after_sync i))
  committed_lasts = committed_older (histories n i) (durables after_sync i) all_durable

  -- the vector of what stands before an entry covers all that its maker knew
  vector_covers :
      (e : PlainEntry) (front back : List PlainEntry) (older : List PlainRecord) → entries_in (n.hut i) ≡ front ++ (e ∷ back) → Made (histories n) e older
      → (k : PlainEntry) → k ∈ entries_of older → k.mark.stamp ≤ get_or (vector_of front) k.mark.hut 0
  vector_covers e front back older q made k u =
      let first = behind (huts_of n I) i e front back older q made k u in
      let w = known_here (huts_of n I) i k (subst (λ (l : List PlainEntry). k ∈ l) (sym q) (Memᴰ.append_left (e ∷ back) first)) in
      vector_above k front first (made-own (huts_of n I) k w.0 w.1).hut

  -- each item that it can write is true
  pub item_said : (w : PlainItem) → Written (n.hut i) w → Said (durables after_sync) w
  item_said (settled p e) t = said_settled (durables after_sync) i (committed_of (histories n i)) e p committed_lasts t
  item_said (waiting w) t =
      let l = known_lasts w.entry (written_known (n.hut i) (waiting w) t) in
      (l.0, l.2, λ k x. subst (λ (v : List ℕ). k.mark.stamp ≤ get_or v k.mark.hut 0) (sym t.3) (vector_covers w.entry t.0 t.1 l.0 t.2 l.1 k x))

  -- so a letter is, whatever was said to be there
  pub writes_step : (count : ℕ) (has : List ℕ) → Becomes every n (send (words_for count has (n.hut i)) after_sync)
  writes_step count has =
      let b = sync_step n I i in
      let l = words_for count has (n.hut i) in
      becomes_trans n after_sync (send l after_sync) b (send-step after_sync b.holds l (λ w m. item_said w (letter_item count has (n.hut i) w m)))
