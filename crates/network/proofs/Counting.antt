-- Rounds and commits are counted in one list of events after another.
use Rattle.std.proofs.Common.{◌≡◌, ℕ, zero, suc, true, List, [], ◌∷◌, ◌++◌, sym, ap, ◌∙◌, subst, append_assoc}
use Rattle.replica.specs.Model.{is_primary}
use Rattle.journal.specs.History.{state_in}
use Rattle.network.specs.Net.{Commits, Event, Net, Syncs, run}
use Rattle.network.specs.Rounds.{Rounds, SyncedCommits, round}
use Rattle.network.proofs.Walk.{run-append}

module _ (i j : ℕ) where
  -- rounds are rounds with other events before them, and behind
  rounds_behind : (count : ℕ) (n : Net) (a b : List Event) → Rounds count i j (run a n) b
      → Rounds count i j n (a ++ b)
  rounds_behind zero n a b r = tt
  rounds_behind (suc count) n a b (before, between, later, rest, q, more) =
      let at =
      subst (λ (m : Net). (a ++ b ≡ (a ++ before) ++ (round m between later i j ++ rest))
      × Rounds count i j (run (round m between later i j) m) rest)
      (sym (run-append a before n)) (
        ap (λ (l : List Event). a ++ l) q
            ∙ sym (append_assoc a before (round (run before (run a n)) between later i j ++ rest)),
        more,
      ) in
      (a ++ before, between, later, rest, at.0, at.1)

  pub rounds-then : (count : ℕ) (n : Net) (a b : List Event) → Rounds count i j n a
      → Rounds count i j n (a ++ b)
  rounds-then zero n a b r = tt
  rounds-then (suc count) n a b (before, between, later, rest, q, more) =
      let m = run before n in (
        before,
        between,
        later,
        rest ++ b,
        ap (λ (l : List Event). l ++ b) q
            ∙ append_assoc before (round m between later i j ++ rest) b
            ∙ ap (λ (l : List Event). before ++ l)
            (append_assoc (round m between later i j) rest b),
        rounds-then count (run (round m between later i j) m) rest b more,
      )

  -- one round, and then others
  pub rounds_more : (count : ℕ) (n : Net) (a b : List Event) → Rounds 1 i j n a
      → Rounds count i j (run a n) b → Rounds (suc count) i j n (a ++ b)
  rounds_more count n a b (before, between, later, rest, q, none) others =
      let m = run before n in
      let end = run (round m between later i j) m in
      let is : run a n ≡ run rest end =
      ap (λ (l : List Event). run l n) q ∙ run-append before (round m between later i j ++ rest) n
      ∙ run-append (round m between later i j) rest m in (
        before,
        between,
        later,
        rest ++ b,
        ap (λ (l : List Event). l ++ b) q
            ∙ append_assoc before (round m between later i j ++ rest) b
            ∙ ap (λ (l : List Event). before ++ l)
            (append_assoc (round m between later i j) rest b),
        rounds_behind count end rest b (subst (λ (x : Net). Rounds count i j x b) is others),
      )

module _ (c : ℕ) where
  abbrev once : List Event
  once = Commits c ∷ Syncs c ∷ []

  commits_behind : (count : ℕ) (n : Net) (a b : List Event) → SyncedCommits count c (run a n) b
      → SyncedCommits count c n (a ++ b)
  commits_behind zero n a b r = tt
  commits_behind (suc count) n a b (before, rest, q, primary, more) =
      let at =
      subst (λ (m : Net). (is_primary (state_in (m.hut c)) ≡ true)
      × SyncedCommits count c (run once m) rest) (sym (run-append a before n)) (primary, more) in (
        a ++ before,
        rest,
        ap (λ (l : List Event). a ++ l) q
            ∙ sym (append_assoc a before (once ++ rest)),
        at.0,
        at.1,
      )

  -- one commit, and then others
  pub commits_more : (count : ℕ) (n : Net) (a b : List Event) → SyncedCommits 1 c n a
      → SyncedCommits count c (run a n) b → SyncedCommits (suc count) c n (a ++ b)
  commits_more count n a b (before, rest, q, primary, none) others =
      let m = run before n in
      let is : run a n ≡ run rest (run once m) =
      ap (λ (l : List Event). run l n) q ∙ run-append before (once ++ rest) n
      ∙ run-append once rest m in (
        before,
        rest ++ b,
        ap (λ (l : List Event). l ++ b) q ∙ append_assoc before (once ++ rest) b,
        primary,
        commits_behind count (run once m) rest b
            (subst (λ (x : Net). SyncedCommits count c x b) is others),
      )
