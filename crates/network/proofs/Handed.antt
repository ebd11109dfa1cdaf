-- What was handed on as committed at a place stands there in every replica that has that many committed.
use Rattle.std.proofs.Common.{inl, inr, ◌≡◌, ℕ, ◌<◌, true, ltb, List, ◌∷◌, ◌++◌, length, get_or, sym, ap, ◌∙◌, subst, lt→ltb}
use Rattle.bookings.specs.Plain.{PlainEntry}
use Rattle.letters.specs.Items.{settled}
use Rattle.network.specs.Net.{Event, Net, Visits, after, huts, run, served, shown, step, visit, with_guest}
use Rattle.network.specs.Promise.{Always, HandedOnStays, StandsAt}
use Rattle.network.specs.Replicas.{committed_in}
use Rattle.network.proofs.Holds.{Holds, Said, durables, durably, histories, huts_of, said_grows, said_settled, so_far}
use Rattle.network.proofs.Leading.{AtPlace, place_more}
use Rattle.network.proofs.Lists.{place_in_first, place_of, place_splits}
use Rattle.network.proofs.Parts.{committed_older}
use Rattle.network.proofs.Safety.{after_holds, order_in}
use Rattle.network.proofs.Sending.{after_sync, committed_lasts}
use Rattle.network.proofs.Steps.{run_becomes, step_becomes}
use Rattle.network.proofs.Tests.{cond_yes, true_T}

-- an entry that a replica has at a place for good stands there
pub stands-said : {every : List PlainEntry} (n : Net) → Holds every n → (place : ℕ) (e : PlainEntry) → Said (durables n) (settled place e) → StandsAt n place e
stands-said n I place e s j d lt = elim (order_in n I j s.0) [
  | inl p ↦
      sym (place_in_first mine p.0 place d lt) ∙ ap (λ (l : List PlainEntry). get_or l place d) (sym p.1 ∙ there.2)
      ∙ ap (λ (q : ℕ). get_or (there.0 ++ (e ∷ there.1)) q d) (sym there.3) ∙ place_of there.0 there.1 e d
  | inr p ↦
      let more = place_more (so_far n s.0) mine place e p there in
      ap (λ (l : List PlainEntry). get_or l place d) more.2 ∙ ap (λ (q : ℕ). get_or (more.0 ++ (e ∷ more.1)) q d) (sym more.3) ∙ place_of more.0 more.1 e d
]
  where
    mine : List PlainEntry
    mine = so_far n j

    there : AtPlace (so_far n s.0) place e
    there = place_more (durably n s.0) (so_far n s.0) place e (committed_older (durables n s.0) (histories n s.0) ((huts_of n I).part s.0)) s.1

-- and so it does later
stands_later :
    {every : List PlainEntry} (n : Net) → Holds every n → (later : List Event) (place : ℕ) (e : PlainEntry) → Said (durables n) (settled place e)
    → StandsAt (run later n) place e
stands_later n I later place e s =
    let b = (run_becomes later n I).2 in
    stands-said (run later n) b.holds place e (said_grows (durables n) (durables (run later n)) b.grows (settled place e) s)

-- what a guest is shown as committed the replica has for good
shown-said :
    (es : List Event) (g i place : ℕ) (d : PlainEntry) → i < huts → served ((after es).guest g) ((after es).hut i) ≡ true
    → place < length (committed_in ((after es).hut i)) → Said (durables (step (Visits g i) (after es))) (settled place (get_or (committed_in ((after es).hut i)) place d))
shown-said es g i place d low t lt =
    let n = after es in
    let shownTo : Net = with_guest g (shown (n.guest g) (n.hut i)) (after_sync n (after_holds es) i) in
    let at = place_splits (committed_in (n.hut i)) place d lt in
    subst (λ (m : Net). Said (durables m) (settled place (get_or (committed_in (n.hut i)) place d)))
    (sym (cond_yes (ltb i huts) (visit g i n) n (lt→ltb i huts low) ∙ cond_yes (served (n.guest g) (n.hut i)) shownTo n (true_T (served (n.guest g) (n.hut i)) t)))
    (said_settled (durables shownTo) i (committed_in (n.hut i)) (get_or (committed_in (n.hut i)) place d) place (committed_lasts n (after_holds es) i) at)

pub handed_on_stays : Always HandedOnStays
handed_on_stays es later = (
  λ l place e m d. stands_later (after es) (after_holds es) later place e ((after_holds es).said l m (settled place e) d),
  λ g i place d low t lt.
      stands_later (step (Visits g i) (after es)) (step_becomes (Visits g i) (after es) (after_holds es)).holds later place (get_or (committed_in ((after es).hut i)) place d)
      (shown-said es g i place d low t lt),
)
