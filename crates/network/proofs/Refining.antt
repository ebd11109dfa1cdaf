-- Each event is some steps of the page that shows the network; so every run of the network is a run of the page.
use Rattle.std.proofs.Common.{◌≡◌, ◌≢◌, ℕ, ◌<◌, ltb, List, [], ◌∷◌, ◌++◌, Some, None, Option, take, drop, sym, refl, ap, ◌∙◌, subst, append_assoc, arith, eqb→eq, ltb→lt, take-append-drop, inl}
use Rattle.std.proofs.lemmas.Bool.{eq-eqb, ne_eqb}
use mathlib.Core.List.Memᴰ
use Rattle.bookings.specs.Plain.{PlainEntry, PlainKind}
use Rattle.journal.specs.History.{Committed, Kept, PlainRecord, Tentative, commits, commits_entry, crashed, history_of, makes, state_in, synced, wrote}
use Rattle.entry_log.specs.Logs.{first_entry}
use Rattle.replica.specs.Model.{entry_made, is_primary, leader, make_refusal}
use Rattle.network.specs.Abstract.{Page, Step, Steps, blank, commit, forget, learn, make, none, sync, then}
use Rattle.network.specs.Net.{Commits, Crashes, Damaged, Event, Makes, MakesFor, Net, Syncs, Takes, TakesBut, Visits, Writes, after, among, gives, huts, makes_for, put, run, served, shown, start, step, take_nth, take_nth_but, unless_refused, visit, with_guest, with_hut}
use Rattle.network.specs.Promise.{Always}
use Rattle.network.specs.Refinement.{Refines, RunsAreSteps, Shows}
use Rattle.network.specs.Replicas.{entries_of, tentative_in}
use Rattle.network.proofs.AbstractReached.{steps_trans}
use Rattle.network.proofs.AbstractShows.{page_of, shows}
use Rattle.network.proofs.AbstractSteps as pages
use Rattle.network.proofs.Alone.{commit_step, crash_step, make-step, sync_step}
use Rattle.network.proofs.Holds.{Holds, durables, durably, histories, hut-again, so_far}
use Rattle.network.proofs.Leading.{leader_has, put_same}
use Rattle.network.proofs.Learned.{Far, Learned, letter_learned, part_learned}
use Rattle.network.proofs.Lists.{front_not_nil}
use Rattle.network.proofs.Marks.{◌∈◌}
use Rattle.network.proofs.Numbers.{top_above}
use Rattle.network.proofs.Parts.{Older, prefix_self}
use Rattle.network.proofs.Refusals.{unless_by}
use Rattle.network.proofs.Safety.{after_holds}
use Rattle.network.proofs.Steps.{more_listed, start-holds, step_becomes}
use Rattle.network.proofs.Taking.{take_nth-step, takes_some-step}
use Rattle.network.proofs.Tests.{cond_by}

put_here : {A : Type 0} (i : ℕ) (x : A) (f : ℕ → A) → put i x f i ≡ x
put_here i x f = rw (eq-eqb i i refl) refl

put_there : {A : Type 0} (i : ℕ) (x : A) (f : ℕ → A) (j : ℕ) → j ≢ i → put i x f j ≡ f j
put_there i x f j q = rw (ne_eqb j i q) refl

-- a page goes by some steps to one that shows a net
abbrev Goes : Page → Net → Type 0
Goes a n = (b : Page) × Steps a b × Shows n b

-- nets with the same huts are shown by the same pages
shows_as : (n m : Net) (a : Page) → ((j : ℕ) → n.hut j ≡ m.hut j) → Shows n a → Shows m a
shows_as n m a same S =
    subst (λ (h : ℕ → Kept). Shows (record { hut = h; sent = m.sent; guest = m.guest }) a) (λ t. λ j. same j t)
    (record { now = S.now; synced = S.synced; list = S.list; committed = S.committed; knew = S.knew })

goes_as : (n m : Net) (a : Page) → ((j : ℕ) → n.hut j ≡ m.hut j) → Goes a n → Goes a m
goes_as n m a same g = (g.0, g.1, shows_as n m g.0 same g.2)

by_step : {every : List PlainEntry} (n : Net) → Holds every n → (a : Page) → ((b : Page) → Shows n b → Step a b) → Goes a n
by_step n I a f = (page_of n I, then none (f (page_of n I) (shows n I)), shows n I)

module _ {every : List PlainEntry} (n : Net) (I : Holds every n) (a : Page) (S : Shows n a) where
  same_hut : (i : ℕ) → Goes a (with_hut i (n.hut i) n)
  same_hut i = (a, none, shows_as n (with_hut i (n.hut i) n) a (λ j. sym (put_same i n.hut j)) S)

  module _ (i : ℕ) where
    -- a hut makes an entry, or is refused
    making : (kind : PlainKind) → i < huts → Goes a (with_hut i (makes kind (n.hut i)) n)
    making kind low =
        unless_by (λ x. Holds (e ∷ every) (with_hut i x n) → Goes a (with_hut i x n)) (make_refusal kind (state_in (n.hut i))) (n.hut i) (wrote (Tentative e) (n.hut i))
        (λ _ J.
        let m = with_hut i (wrote (Tentative e) (n.hut i)) n in
        let here = put_here i (wrote (Tentative e) (n.hut i)) n.hut in
        by_step m J a
        (λ b T.
        make i e
        (pages.makes n m I J a b S T i (put_there i (wrote (Tentative e) (n.hut i)) n.hut) (ap (λ (k : Kept). k.durable) here) e (I.own i) (ap history_of here)
        (λ k u. let t = top_above k (entries_of (histories n i)) u in omega arith))))
        (λ _. same_hut i) (make-step n (more_listed e n I) i kind low (Memᴰ.head refl)).holds
      where
        e : PlainEntry
        e = entry_made kind (state_in (n.hut i))

    -- the primary commits its first tentative entry
    committing : Goes a (with_hut i (commits (n.hut i)) n)
    committing =
        cond_by (λ x. Holds every (with_hut i x n) → Goes a (with_hut i x n)) (is_primary (state_in (n.hut i))) (commits_entry (first_entry (tentative_in (n.hut i))) (n.hut i)) (n.hut i)
        (λ t. go (tentative_in (n.hut i)) refl (sym (eqb→eq (n.hut i).hut (leader (so_far n i)) t) ∙ I.own i)) (λ _ _. same_hut i) (commit_step n I i).holds
      where
        go :
            (l : List PlainEntry) → tentative_in (n.hut i) ≡ l → leader (so_far n i) ≡ i → Holds every (with_hut i (commits_entry (first_entry l) (n.hut i)) n)
            → Goes a (with_hut i (commits_entry (first_entry l) (n.hut i)) n)
        go [] q p J = same_hut i
        go (e ∷ es) q p J =
            let m = with_hut i (wrote (Committed e) (n.hut i)) n in
            let here = put_here i (wrote (Committed e) (n.hut i)) n.hut in
            by_step m J a
            (λ b T.
            commit i e
            (pages.commits n m I J a b S T i (put_there i (wrote (Committed e) (n.hut i)) n.hut) (ap (λ (k : Kept). k.durable) here) e es (ap history_of here) q
            (λ j. leader_has leader (durably n) (so_far n) I.all I.led i j p)))

    -- a hut makes all durable
    syncing : Goes a (with_hut i (synced (n.hut i)) n)
    syncing =
        let m = with_hut i (synced (n.hut i)) n in
        let here = put_here i (synced (n.hut i)) n.hut in
        let J = (sync_step n I i).holds in
        by_step m J a
        (λ b T. sync i (pages.syncs n m I J a b S T i (put_there i (synced (n.hut i)) n.hut) (ap history_of here) (ap (λ (k : Kept). k.durable) here)))

    -- a hut takes a letter, or some of it
    learning : (r : Kept) → Learned n i r → Holds every (with_hut i r n) → Goes a (with_hut i r n)
    learning r L J =
        let m = with_hut i r n in
        let here = sym (put_here i r n.hut) in
        by_step m J a
        (λ b T.
        learn i
        (pages.learns n m I J a b S T i (put_there i r n.hut) (subst (λ (k : Kept). k.durable ≡ durables n i) here L.kept)
        (subst (λ (k : Kept). Older (histories n i) (history_of k)) here L.old)
        (λ k u. L.from k (subst (λ (x : Kept). k ∈ entries_of (history_of x)) (sym here) u)) (subst (λ (k : Kept). Far n i k) here L.far)))

    -- a hut loses some of what is not durable
    crashing : (lost : ℕ) → Goes a (with_hut i (crashed lost (n.hut i)) n)
    crashing lost =
        let r = crashed lost (n.hut i) in
        let m = with_hut i r n in
        let here = put_here i r n.hut in
        let J = (crash_step n I i lost).holds in
        let p = (n.hut i).pending in
        let less : Older (history_of r) (histories n i) =
        (take lost p, ap (λ (l : List PlainRecord). l ++ durables n i) (sym (take-append-drop lost p)) ∙ append_assoc (take lost p) (drop lost p) (durables n i)) in
        by_step m J a
        (λ b T.
        forget i
        (pages.forgets n m I J a b S T i (put_there i r n.hut) (ap (λ (k : Kept). k.durable) here) (subst (λ (k : Kept). Older (history_of k) (histories n i)) (sym here) less)))

    -- a guest is shown the log, or has an entry made, where it is served
    visiting : (g : ℕ) → Goes a (visit g i n)
    visiting g =
        cond_by (Goes a) (served (n.guest g) (n.hut i)) (with_guest g (shown (n.guest g) (n.hut i)) (with_hut i (synced (n.hut i)) n)) n
        (λ _. goes_as (with_hut i (synced (n.hut i)) n) _ a (λ j. refl) syncing) (λ _. (a, none, S))

making_for :
    {every : List PlainEntry} (n : Net) → Holds every n → (a : Page) → Shows n a → (i g : ℕ) (kind : PlainKind) → i < huts → Goes a (makes_for g i kind n)
making_for {every} n I a S i g kind low =
    cond_by (Goes a) (served (n.guest g) (n.hut i)) (unless_refused (make_refusal kind (state_in (n.hut i))) n m) n
    (λ _. unless_not (make_refusal kind (state_in (n.hut i)))) (λ _. (a, none, S))
  where
    r : Kept
    r = makes kind (n.hut i)

    m : Net
    m = with_guest g (gives (n.guest g) (entry_made kind (state_in (n.hut i)))) (with_hut i (synced (makes kind (n.hut i))) n)

    unless_not : (o : Option ℕ) → Goes a (unless_refused o n m)
    unless_not None =
        let f = making n I a S i kind low in
        let J = (make-step n (more_listed (entry_made kind (state_in (n.hut i))) n I) i kind low (Memᴰ.head refl)).holds in
        let g = syncing (with_hut i r n) J f.0 f.2 i in
        let is = hut-again synced i r n in
        (g.0, steps_trans a f.0 g.0 f.1 g.1, shows_as (with_hut i (synced ((with_hut i r n).hut i)) (with_hut i r n)) m g.0 (λ j. ap (λ (x : Net). x.hut j) is) g.2)
    unless_not (Some number) = (a, none, S)

low-goes : (i : ℕ) (m n : Net) (a : Page) → Shows n a → (i < huts → Goes a m) → Goes a (among i m n)
low-goes i m n a S f = cond_by (Goes a) (ltb i huts) m n (λ t. f (ltb→lt i huts t)) (λ _. (a, none, S))

-- every event
goes : {every : List PlainEntry} (e : Event) (n : Net) → Holds every n → (a : Page) → Shows n a → Goes a (step e n)
goes (Makes i kind) n I a S = low-goes i _ n a S (λ low. making n I a S i kind low)
goes (Commits i) n I a S = low-goes i _ n a S (λ low. committing n I a S i)
goes (Syncs i) n I a S = low-goes i _ n a S (λ low. syncing n I a S i)
goes (Writes i count has) n I a S = low-goes i _ n a S (λ low. goes_as (with_hut i (synced (n.hut i)) n) _ a (λ j. refl) (syncing n I a S i))
goes (Takes j nth) n I a S = low-goes j _ n a S (λ low. learning n I a S j (take_nth nth n.sent (n.hut j)) (letter_learned n I j nth) (take_nth-step n I j nth).holds)
goes (TakesBut leaves j nth) n I a S =
    low-goes j _ n a S
    (λ low. learning n I a S j (take_nth_but leaves nth n.sent (n.hut j)) (part_learned n I j leaves nth) (takes_some-step leaves n I j nth).holds)
goes (Damaged j) n I a S = (a, none, S)
goes (Crashes i lost) n I a S = low-goes i _ n a S (λ low. crashing n I a S i lost)
goes (Visits g i) n I a S = low-goes i _ n a S (λ low. visiting n I a S i g)
goes (MakesFor g i kind) n I a S = low-goes i _ n a S (λ low. making_for n I a S i g kind low)

-- every list of events
run_goes : (es : List Event) {every : List PlainEntry} (n : Net) → Holds every n → (a : Page) → Shows n a → Goes a (run es n)
unfolding run
run_goes [] n I a S = (a, none, S)
run_goes (e ∷ es) n I a S =
    let g = goes e n I a S in
    let r = run_goes es (step e n) (step_becomes e n I).holds g.0 g.2 in
    (r.0, steps_trans a g.0 r.0 g.1 r.1, r.2)

start_shows : Shows start blank
start_shows =
    record {
      now = λ i. record { count = refl; set = (λ k m. m, λ k m. m); log = refl };
      synced = λ i. record { count = refl; set = (λ k m. m, λ k m. m); log = refl };
      list = record { each = λ i. prefix_self []; one = inl refl };
      committed = record { each = λ i. prefix_self []; one = inl refl };
      knew = λ e older made. absurd (front_not_nil (Tentative e) made.0 older made.1);
    }

pub runs_are_steps : Always RunsAreSteps
runs_are_steps es later a S = run_goes later (after es) (after_holds es) a S

pub refines : Always Refines
refines es = run_goes es start start-holds blank start_shows
