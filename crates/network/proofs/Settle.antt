-- All that a hut knows is committed, one entry after another, by whoever leads then.
use Rattle.std.proofs.Common.{◌≡◌, ℕ, ◌<◌, T, eqb, ltb, List, [], ◌∷◌, ◌++◌, length, sym, ap, ◌∙◌, subst, append_assoc, arith, length-append, lt→ltb}
use mathlib.Core.List.{Memᴰ}
use lib.Dec.{eqb_refl}
use Rattle.bookings.specs.Plain.{PlainEntry}
use Rattle.journal.specs.History.{Committed, PlainRecord, commits, commits_entry, history_of, state_in, wrote}
use Rattle.entry_log.proofs.Putting.{same_self, without_none}
use Rattle.entry_log.specs.Logs.{first_entry, without}
use Rattle.replica.specs.Model.{is_primary, leader}
use Rattle.network.specs.Net.{Commits, Event, Net, after, huts, with_hut}
use Rattle.network.specs.Promise.{all_hand_on}
use Rattle.network.specs.Replicas.{committed_in, committed_of, entries_of, tentative_in, tentative_of}
use Rattle.network.proofs.Gather.{Front, led_kept}
use Rattle.network.proofs.Handing.{hand_over, leader_low}
use Rattle.network.proofs.Marks.{Fresh, fresh_none}
use Rattle.network.proofs.Room.{once_log}
use Rattle.network.proofs.Safety.{after_holds, hist}
use Rattle.network.proofs.Sorting.{Once, once_split}
use Rattle.network.proofs.Tests.{cond_yes}
use Rattle.network.proofs.Walk.{InLog, Only, Roomy, WalkTo, after_one, stay, then_on, walk-map}
use Rattle.network.proofs.Whole.{hut_other, hut_self}

-- the first tentative entry becomes the last committed one: the log stays as it was
log-settled :
    (rs : List PlainRecord) (e : PlainEntry) (ts : List PlainEntry) → tentative_of rs ≡ e ∷ ts → Fresh e.mark ts
    → (tentative_of (Committed e ∷ rs) ≡ ts) × (entries_of (Committed e ∷ rs) ≡ entries_of rs)
log-settled rs e ts p new =
    let first : without e.mark (e ∷ ts) ≡ ts = rw (same_self e.mark) (without_none e.mark ts (fresh_none e.mark ts new)) in
    let gone : without e.mark (tentative_of rs) ≡ ts = ap (without e.mark) p ∙ first in
    (gone, ap (λ (l : List PlainEntry). (committed_of rs ++ (e ∷ [])) ++ l) gone ∙ append_assoc (committed_of rs) (e ∷ []) ts ∙ ap (λ (l : List PlainEntry). committed_of rs ++ l) (sym p))

-- only hut c has written anything, its log is as it was, one more is committed, and of it ts is tentative
abbrev Left : ℕ → List Event → PlainEntry → List PlainEntry → List Event → Type 0
Left c es e ts on =
    Only c es on × (entries_of (hist on c) ≡ entries_of (hist es c)) × (tentative_of (hist on c) ≡ ts) × (committed_of (hist on c) ≡ committed_of (hist es c) ++ (e ∷ []))

-- the primary commits its first tentative entry
pub commits-first :
    (n : Net) (c : ℕ) → (n.hut c).hut ≡ c → leader (committed_in (n.hut c)) ≡ c → (e : PlainEntry) (ts : List PlainEntry) → tentative_in (n.hut c) ≡ e ∷ ts
    → commits (n.hut c) ≡ wrote (Committed e) (n.hut c)
commits-first n c own leads e ts p =
    cond_yes (is_primary (state_in (n.hut c))) (commits_entry (first_entry (tentative_in (n.hut c))) (n.hut c)) (n.hut c)
    (subst (λ (h : ℕ). T (eqb (n.hut c).hut h)) (own ∙ sym leads) (eqb_refl (n.hut c).hut))
    ∙ ap (λ (l : List PlainEntry). commits_entry (first_entry l) (n.hut c)) p

commit_one :
    (c : ℕ) → c < huts → (es : List Event) (e : PlainEntry) (ts : List PlainEntry) → leader (committed_of (hist es c)) ≡ c → tentative_of (hist es c) ≡ e ∷ ts
    → WalkTo es (Left c es e ts)
unfolding all_hand_on
commit_one c low es e ts leads p =
    let n = after es in
    let new = (once_split e (committed_of (hist es c)) ts (subst Once (ap (λ (l : List PlainEntry). committed_of (hist es c) ++ l) p) (once_log (after es) (after_holds es) c))).1 in
    let is : after (es ++ (Commits c ∷ [])) ≡ with_hut c (commits (n.hut c)) n =
    after_one es (Commits c) ∙ cond_yes (ltb c huts) (with_hut c (commits (n.hut c)) n) n (lt→ltb c huts low) in
    let written : hist (es ++ (Commits c ∷ [])) c ≡ Committed e ∷ hist es c =
    ap (λ (m : Net). history_of (m.hut c)) is ∙ ap history_of (hut_self c (commits (n.hut c)) n) ∙ ap history_of (commits-first n c ((after_holds es).own c) leads e ts p) in
    let s = log-settled (hist es c) e ts p new in
    record {
      later = Commits c ∷ [];
      walk = tt;
      there = (
        λ x a. ap (λ (m : Net). history_of (m.hut x)) is ∙ ap history_of (hut_other x c (commits (n.hut c)) n a),
        ap entries_of written ∙ s.1,
        ap tentative_of written ∙ s.0,
        ap committed_of written,
      );
    }

-- a hut that is in front is so when it has committed one more
front_left : (c : ℕ) (es on : List Event) (e : PlainEntry) (ts : List PlainEntry) → Front c es → Left c es e ts on → Front c on
front_left c es on e ts f l = (
  f.0,
  λ i lt.
      led_kept c es on (l.0, λ k d. subst (Memᴰ k) (sym l.1) d, omega (arith, ap length l.3, length-append (committed_of (hist es c)) (e ∷ []))) i (f.1 i lt),
)

-- all that hut c knew is committed somewhere, in a hut that is in front
abbrev pub Settled : ℕ → List Event → List Event → Type 0
Settled c es on = (p : ℕ) × Front p on × (tentative_of (hist on p) ≡ []) × ((k : PlainEntry) → InLog k (hist es c) → InLog k (hist on p))

pub settle : (ts : List PlainEntry) (c : ℕ) (es : List Event) → Roomy es → Front c es → tentative_of (hist es c) ≡ ts → WalkTo es (Settled c es)
settle [] c es few f q = stay (c, f, q, λ k d. d)
settle (e ∷ ts) c es few f q =
    then_on few (hand_over c (leader (committed_of (hist es c))) es few f (leader_low (committed_of (hist es c))))
    (λ on more h.
    then_on more (commit_one (leader (committed_of (hist es c))) h.0.0 on e ts (ap leader h.1) (h.2 ∙ q))
    (λ next still g.
    walk-map (settle ts (leader (committed_of (hist es c))) next still (front_left (leader (committed_of (hist es c))) on next e ts h.0 g) g.2)
    (λ end s. (s.0, s.1, s.2, λ k d. s.3 k (subst (Memᴰ k) (sym g.1) (h.3 k d))))))
