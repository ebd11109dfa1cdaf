-- What holds of a net after every list of events, and what keeps it.
use Rattle.std.proofs.Common.{◌≡◌, ℕ, ◌<◌, ◌≤◌, true, false, cond, eqb, List, ◌∷◌, length, get_or, sym, refl, ap, ◌∙◌, subst}
use mathlib.Core.List.{Memᴰ}
use lib.Dec.{eqb_refl}
use Rattle.bookings.specs.Plain.{PlainEntry}
use Rattle.journal.specs.History.{Kept, PlainRecord, history_of, wrote}
use Rattle.entry_log.specs.Vectors.{highest}
use Rattle.replica.specs.Model.{leader}
use Rattle.letters.specs.Items.{PlainItem, settled, waiting}
use Rattle.network.specs.Items.{Letter}
use Rattle.network.specs.Net.{Guest, Net, held, huts, put, with_hut}
use Rattle.network.specs.Promise.{Prefix}
use Rattle.network.specs.Replicas.{committed_of, entries_of}
use Rattle.network.proofs.Growth.{Grows, made_grows, valid_grows}
use Rattle.network.proofs.Knowing.{Huts}
use Rattle.network.proofs.Leading.{AtPlace, Leads, place_more, put_all, put_map, put_same, same_lists}
use Rattle.network.proofs.Marks.{◌∈◌}
use Rattle.network.proofs.Parts.{Older, committed_older, older_self, older_trans}
use Rattle.network.proofs.Tests.{cond_yes}
use Rattle.network.proofs.Valid.{Fits, Made, Valid}

abbrev pub histories : Net → ℕ → List PlainRecord
histories n h = history_of (n.hut h)

abbrev pub durables : Net → ℕ → List PlainRecord
durables n h = (n.hut h).durable

-- what each hut has as committed: durably, and so far
abbrev pub durably : Net → ℕ → List PlainEntry
durably n h = committed_of (durables n h)

abbrev pub so_far : Net → ℕ → List PlainEntry
so_far n h = committed_of (histories n h)

-- an entry is durable where it was made
abbrev pub Lasts : (ℕ → List PlainRecord) → PlainEntry → Type 0
Lasts d e = (older : List PlainRecord) × Made d e older

-- an item of a letter is true: the place among what some hut has committed, or a vector that covers all that the maker knew
abbrev pub Said : (ℕ → List PlainRecord) → PlainItem → Type 0
Said d (settled p e) = (h : ℕ) × AtPlace (committed_of (d h)) p e
Said d (waiting w) = (older : List PlainRecord) × Made d w.entry older × ((k : PlainEntry) → k ∈ entries_of older → k.mark.stamp ≤ get_or w.stood k.mark.hut 0)

-- what a guest was shown or had made lasts, and its slip says so, and no more
pub record Faithful (d : ℕ → List PlainRecord) (g : Guest) : Type 0 where
  pub lasts : (k : PlainEntry) → k ∈ held g → Lasts d k
  pub low : (k : PlainEntry) → k ∈ held g → k.mark.hut < huts
  pub long : length g.slip ≡ huts
  pub noted : (k : PlainEntry) → k ∈ held g → k.mark.stamp ≤ get_or g.slip k.mark.hut 0
  pub only : (h : ℕ) → h < huts → get_or g.slip h 0 ≤ highest (held g) h

-- what holds of a net after every list of events
pub record Holds (every : List PlainEntry) (n : Net) : Type 0 where
  pub own : (h : ℕ) → (n.hut h).hut ≡ h
  pub valid : (h : ℕ) → Valid every (durables n) h (histories n h)
  pub all : List PlainEntry
  pub led : Leads leader (durably n) (so_far n) all
  pub said : (l : Letter) → Memᴰ l n.sent → (w : PlainItem) → Memᴰ w l → Said (durables n) w
  pub guests : (g : ℕ) → Faithful (durables n) (n.guest g)

-- the histories of the huts of such a net
abbrev pub huts_of : {every : List PlainEntry} (n : Net) → Holds every n → Huts
huts_of {every} n I = record { hist = histories n; dur = durables n; every = every; valid = I.valid; part = λ h. ((n.hut h).pending, refl) }

-- a net becomes another: that holds of it too, and what is durable grows
pub record Becomes (every : List PlainEntry) (n n' : Net) : Type 0 where
  pub holds : Holds every n'
  pub grows : Grows (durables n) (durables n')

pub stays : {every : List PlainEntry} (n : Net) → Holds every n → Becomes every n n
stays n I = record { holds = I; grows = λ h. older_self (durables n h) }

pub becomes_trans : {every : List PlainEntry} (a b c : Net) → Becomes every a b → Becomes every b c → Becomes every a c
becomes_trans a b c p q = record { holds = q.holds; grows = λ h. older_trans (durables a h) (durables b h) (durables c h) (p.grows h) (q.grows h) }

lasts_grows : (d d' : ℕ → List PlainRecord) → Grows d d' → (e : PlainEntry) → Lasts d e → Lasts d' e
lasts_grows d d' g e p = (p.0, made_grows d d' g e p.0 p.1)

-- a place among what begins the list of a hut is a place in it
pub said_settled :
    (d : ℕ → List PlainRecord) (h : ℕ) (l : List PlainEntry) (e : PlainEntry) (p : ℕ) → Prefix l (committed_of (d h)) → AtPlace l p e → Said d (settled p e)
said_settled d h l e p c s = (h, place_more l (committed_of (d h)) p e c s)

-- a true item stays true
pub said_grows : (d d' : ℕ → List PlainRecord) → Grows d d' → (w : PlainItem) → Said d w → Said d' w
said_grows d d' g (settled p e) s = said_settled d' s.0 (committed_of (d s.0)) e p (committed_older (d s.0) (d' s.0) (g s.0)) s.1
said_grows d d' g (waiting w) s = (s.0, made_grows d d' g w.entry s.0 s.1, s.2)

-- what a guest holds stays so as more becomes durable
kept_grows : (d d' : ℕ → List PlainRecord) → Grows d d' → (g : Guest) → Faithful d g → Faithful d' g
kept_grows d d' grows g s = record { lasts = λ k m. lasts_grows d d' grows k (s.lasts k m); low = s.low; long = s.long; noted = s.noted; only = s.only }

-- one hut has another replica: valid, with all that was durable, and what all have as committed is led
pub with_hut_lem :
    {every : List PlainEntry} (n : Net) → Holds every n → (i : ℕ) (r : Kept) → r.hut ≡ i → Older (durables n i) r.durable
    → Valid every (durables n) i (history_of r) → (all : List PlainEntry)
    → Leads leader (put i (committed_of r.durable) (durably n)) (put i (committed_of (history_of r)) (so_far n)) all → Becomes every n (with_hut i r n)
with_hut_lem {every} n I i r own old v all l =
    record {
      holds =
          record {
            own = put_all (λ j x. x.hut ≡ j) i r n.hut own I.own;
            valid =
                put_all (λ j x. Valid every d' j (history_of x)) i r n.hut (valid_grows every every (λ k m. m) (durables n) d' grows i (history_of r) v)
                (λ j. valid_grows every every (λ k m. m) (durables n) d' grows j (histories n j) (I.valid j));
            all = all;
            led =
                same_lists leader (put i (committed_of r.durable) (durably n)) (durably (with_hut i r n)) (put i (committed_of (history_of r)) (so_far n)) (so_far (with_hut i r n)) all
                (λ j. sym (put_map (λ (x : Kept). committed_of x.durable) i r n.hut j)) (λ j. sym (put_map (λ (x : Kept). committed_of (history_of x)) i r n.hut j)) l;
            said = λ l m w d. said_grows (durables n) d' grows w (I.said l m w d);
            guests = λ g. kept_grows (durables n) d' grows (n.guest g) (I.guests g);
          };
      grows = grows;
    }
  where
    d' : ℕ → List PlainRecord
    d' = durables (with_hut i r n)

    grows : Grows (durables n) (durables (with_hut i r n))
    grows = put_all (λ j x. Older (durables n j) x.durable) i r n.hut old (λ j. older_self (durables n j))

-- nothing durable changes
pub behind_lem :
    {every : List PlainEntry} (n : Net) → Holds every n → (i : ℕ) (r : Kept) → r.hut ≡ i → r.durable ≡ durables n i → Valid every (durables n) i (history_of r)
    → (all : List PlainEntry) → Leads leader (durably n) (put i (committed_of (history_of r)) (so_far n)) all → Becomes every n (with_hut i r n)
behind_lem n I i r own same v all l =
    with_hut_lem n I i r own (subst (λ (l : List PlainRecord). Older (durables n i) l) (sym same) (older_self (durables n i))) v all
    (same_lists leader (durably n) (put i (committed_of r.durable) (durably n)) (put i (committed_of (history_of r)) (so_far n)) (put i (committed_of (history_of r)) (so_far n)) all
    (λ j. sym (ap (λ (l : List PlainRecord). put i (committed_of l) (durably n) j) same ∙ put_same i (durably n) j)) (λ j. refl) l)

-- what a hut has as committed stays
pub led_same : {every : List PlainEntry} (n : Net) (I : Holds every n) (i : ℕ) → Leads leader (durably n) (put i (so_far n i) (so_far n)) I.all
led_same n I i = same_lists leader (durably n) (durably n) (so_far n) (put i (so_far n i) (so_far n)) I.all (λ j. refl) (λ j. sym (put_same i (so_far n) j)) I.led

-- a record is written at a hut
pub write_step :
    {every : List PlainEntry} (n : Net) → Holds every n → (i : ℕ) (r : PlainRecord) → Fits every (durables n) i r (histories n i) → (all : List PlainEntry)
    → Leads leader (durably n) (put i (committed_of (r ∷ histories n i)) (so_far n)) all → Becomes every n (with_hut i (wrote r (n.hut i)) n)
write_step n I i r f all l = behind_lem n I i (wrote r (n.hut i)) (I.own i) refl (f, I.valid i) all l

-- nothing is written
pub same_step : {every : List PlainEntry} (n : Net) → Holds every n → (i : ℕ) → Becomes every n (with_hut i (n.hut i) n)
same_step n I i = behind_lem n I i (n.hut i) (I.own i) refl (I.valid i) I.all (led_same n I i)

-- a hut changed twice is as it was changed last
put-put : (i : ℕ) (x y : Kept) (f : ℕ → Kept) (j : ℕ) → put i x (put i y f) j ≡ put i x f j
put-put i x y f j = elim (eqb j i) as (λ b. cond b x (cond b y (f j)) ≡ cond b x (f j)) [ true ↦ refl | false ↦ refl ]

hut-hut : (i : ℕ) (x y : Kept) (n : Net) → with_hut i x (with_hut i y n) ≡ with_hut i x n
hut-hut i x y n = λ t. record { hut = λ j. put-put i x y n.hut j t; sent = n.sent; guest = n.guest }

-- what is done to a hut that was changed is done to what it was changed to
pub hut-again : (f : Kept → Kept) (i : ℕ) (r : Kept) (n : Net) → with_hut i (f ((with_hut i r n).hut i)) (with_hut i r n) ≡ with_hut i (f r) n
hut-again f i r n =
    ap (λ (x : Kept). with_hut i (f x) (with_hut i r n)) (cond_yes (eqb i i) r (n.hut i) (eqb_refl i)) ∙ hut-hut i (f r) r n
