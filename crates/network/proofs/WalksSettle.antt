-- A hut that knows all commits it, whatever walks there are; who has as many committed agrees with it.
use Rattle.std.proofs.Common.{◌≡◌, ℕ, suc, ◌+◌, ◌<◌, ◌≤◌, ◌⊎◌, Bool, true, false, cond, eqb, eqb→eq, ltb, List, [], ◌∷◌, ◌++◌, length, sym, refl, ap, ◌∙◌, subst, inl, inr, append-nil, arith, length-append, lt→ltb}
use mathlib.Core.List.Memᴰ
use mathlib.Core.List.{Memᴰ}
use Rattle.bookings.specs.Plain.{PlainEntry}
use Rattle.journal.specs.History.{Committed, PlainRecord, commits, history_of}
use Rattle.replica.specs.Model.{leader}
use Rattle.network.specs.Lasting.{Somewhere}
use Rattle.network.specs.Net.{Commits, Net, huts, step, with_hut}
use Rattle.network.specs.Replicas.{committed_in, committed_of, entries_of, tentative_of}
use Rattle.network.specs.Walks.{Commit, KeepsLead, Move, Walk, move, moved, tries}
use Rattle.network.proofs.Histories.{apart, committed_once}
use Rattle.network.proofs.Holds.{Holds, durables, histories, huts_of}
use Rattle.network.proofs.Knowing.{known_here, made-own, maker_knows}
use Rattle.network.proofs.Marks.{◌∈◌, ◌⊆◌}
use Rattle.network.proofs.Moves.{move_becomes, move_older, moved_becomes, moved_older, moved_only}
use Rattle.network.proofs.Parts.{committed_older, prefix_full, prefix_self, prefix_trans}
use Rattle.network.proofs.Room.{once_log}
use Rattle.network.proofs.Safety.{order_in}
use Rattle.network.proofs.Settle.{commits-first}
use Rattle.network.proofs.Sorting.{no_more}
use Rattle.network.proofs.Tests.{cond_by, cond_yes}
use Rattle.network.proofs.WalksBring.{got_older}
use Rattle.network.proofs.Whole.{hut_self}

pub none_long : (l : List PlainEntry) → length l ≤ 0 → l ≡ []
none_long [] le = refl
none_long (e ∷ l) le = absurd (omega arith)

none_there : (l : List PlainEntry) → ((k : PlainEntry) → k ∈ l → ⊥) → l ≡ []
none_there [] never = refl
none_there (e ∷ l) never = absurd (never e (Memᴰ.head refl))

pub all_committed : (rs : List PlainRecord) → tentative_of rs ≡ [] → entries_of rs ≡ committed_of rs
all_committed rs q =
    ap (λ (l : List PlainEntry). committed_of rs ++ l) q ∙ append-nil (committed_of rs)

-- how many a hut has committed
abbrev pub many : Net → ℕ → ℕ
many n i = length (committed_of (histories n i))

-- a hut knows all that is known somewhere
abbrev pub Full : Net → ℕ → Type 0
Full n c = (k : PlainEntry) → Somewhere n k → k ∈ entries_of (histories n c)

-- and all of it is committed there
abbrev pub Settled : Net → ℕ → Type 0
Settled n c = Full n c × (tentative_of (histories n c) ≡ [])

-- what is known somewhere is known to its maker, one of the sixteen
pub maker_has : {every : List PlainEntry} (n : Net) → Holds every n → (k : PlainEntry)
    → Somewhere n k → (k.mark.hut < huts) × (k ∈ entries_of (histories n k.mark.hut))
maker_has n I k (h, d) =
    let w = known_here (huts_of n I) h k d in
    ((made-own (huts_of n I) k w.0 w.1).hut, maker_knows (huts_of n I) k w.0 w.1)

-- who has committed all that is known has as committed all that any has
pub settled_has : (c : ℕ) (n : Net) → Settled n c → (k : PlainEntry) → Somewhere n k
    → k ∈ committed_of (histories n c)
settled_has c n s k there =
    subst (λ (l : List PlainEntry). k ∈ l) (all_committed (histories n c) s.1) (s.0 k there)

-- tries are counted one by one
pub tries_one : (c : ℕ) (m : Move) (ms : List Move)
    → tries c (m ∷ ms) ≡ tries c (m ∷ []) + tries c ms
unfolding tries
tries_one c (Walk a b) ms = omega arith
tries_one c (Commit a) ms = both (eqb a c) (tries c ms)
  where
    both : (t : Bool) (x : ℕ) → cond t (suc x) x ≡ cond t 1 0 + x
    both true x = omega arith
    both false x = omega arith

module _ {every : List PlainEntry} (c : ℕ) where
  -- moves leave it so
  pub full_moved : (ms : List Move) (n : Net) → Holds every n → Full n c → Full (moved ms n) c
  full_moved ms n I full k s =
      (got_older (moved ms n) (moved_becomes ms n I).holds c (histories n c) (moved_older ms n c)).1
      k (full k (moved_only ms n I k s))

  pub leads_moved : (ms : List Move) (n : Net) → Holds every n → KeepsLead n c
      → KeepsLead (moved ms n) c
  leads_moved ms n I lead l p known =
      lead l (prefix_trans (committed_in (n.hut c)) (committed_in ((moved ms n).hut c)) l
      (committed_older (histories n c) (histories (moved ms n) c) (moved_older ms n c)) p)
      (λ k d. moved_only ms n I k (known k d))

  pub settled_moved : (ms : List Move) (n : Net) → Holds every n → Settled n c
      → Settled (moved ms n) c
  settled_moved ms n I s = (full_moved ms n I s.0, none_there (tentative_of (histories m c)) twice)
    where
      m : Net
      m = moved ms n

      twice : (k : PlainEntry) → k ∈ tentative_of (histories (moved ms n) c) → ⊥
      twice k d =
          let first = committed_older (histories n c) (histories m c) (moved_older ms n c) in
          let known =
          settled_has c n s k (moved_only ms n I k
          (c, Memᴰ.append_right (committed_of (histories m c)) d)) in
          apart every (durables m) c (histories m c) ((moved_becomes ms n I).holds.valid c) k k
          (subst (λ (l : List PlainEntry). k ∈ l) (sym first.1) (Memᴰ.append_left first.0 known)) d
          refl

  -- who has as many committed has the same log
  pub settled_agree :
      (n : Net) → Holds every n → Settled n c → (i : ℕ) → many n c ≤ many n i
      → (tentative_of (histories n i) ≡ [])
      × (committed_of (histories n i) ≡ committed_of (histories n c))
  settled_agree n I s i le = (none_there (tentative_of (histories n i)) twice, same)
    where
      within : committed_of (histories n i) ⊆ committed_of (histories n c)
      within k d = settled_has c n s k (i, Memᴰ.append_left (tentative_of (histories n i)) d)

      same : committed_of (histories n i) ≡ committed_of (histories n c)
      same =
          let short =
          no_more (committed_of (histories n i)) (committed_of (histories n c))
          (committed_once every (durables n) i (histories n i) (I.valid i)) within in
          elim (order_in n I i c) [
            | inl p ↦
                sym (prefix_full (committed_of (histories n i)) (committed_of (histories n c)) p le)
            | inr p ↦
                prefix_full (committed_of (histories n c)) (committed_of (histories n i)) p short
          ]

      twice : (k : PlainEntry) → k ∈ tentative_of (histories n i) → ⊥
      twice k d =
          let known = settled_has c n s k (i, Memᴰ.append_right (committed_of (histories n i)) d) in
          apart every (durables n) i (histories n i) (I.valid i) k k
          (subst (λ (l : List PlainEntry). k ∈ l) (sym same) known) d refl

  module _ (low : c < huts) where
    -- the primary commits one more, if anything is tentative
    pub commit-more :
        (n : Net) → Holds every n → leader (committed_in (n.hut c)) ≡ c
        → (e : PlainEntry) (ts : List PlainEntry) → tentative_of (histories n c) ≡ e ∷ ts
        → many (step (Commits c) n) c ≡ suc (many n c)
    commit-more n I leads e ts q =
        let is : histories (step (Commits c) n) c ≡ Committed e ∷ histories n c =
        ap (λ (m : Net). histories m c)
        (cond_yes (ltb c huts) (with_hut c (commits (n.hut c)) n) n (lt→ltb c huts low))
        ∙ ap history_of (hut_self c (commits (n.hut c)) n
        ∙ commits-first n c (I.own c) leads e ts q) in
        omega (
          arith,
          ap (λ (rs : List PlainRecord). length (committed_of rs)) is,
          length-append (committed_of (histories n c)) (e ∷ []),
        )

    move-commits : (m : Move) (n : Net) → Holds every n → KeepsLead n c
        → (tentative_of (histories n c) ≡ []) ⊎ (many n c + tries c (m ∷ []) ≤ many (move m n) c)
    unfolding tries
    move-commits (Walk a b) n I lead =
        inr (omega (
          arith,
          (got_older (move (Walk a b) n) (move_becomes (Walk a b) n I).holds c
              (histories n c) (move_older (Walk a b) n c)).0,
        ))
    move-commits (Commit a) n I lead =
        cond_by (λ (x : ℕ). (tentative_of (histories n c) ≡ [])
        ⊎ (many n c + x ≤ many (step (Commits a) n) c)) (eqb a c) 1 0
        (λ t. subst (λ (x : ℕ). (tentative_of (histories n c) ≡ [])
        ⊎ (many n c + 1 ≤ many (step (Commits x) n) c)) (sym (eqb→eq a c t))
        (here (tentative_of (histories n c)) refl))
        (λ _. inr (omega (
          arith,
          (got_older (move (Commit a) n) (move_becomes (Commit a) n I).holds
              c (histories n c) (move_older (Commit a) n c)).0,
        )))
      where
        leads : leader (committed_in (n.hut c)) ≡ c
        leads =
            lead (committed_in (n.hut c)) (prefix_self (committed_in (n.hut c)))
            (λ k d. (c, Memᴰ.append_left (tentative_of (histories n c)) d))

        here : (ts : List PlainEntry) → tentative_of (histories n c) ≡ ts
            → (tentative_of (histories n c) ≡ []) ⊎ (many n c + 1 ≤ many (step (Commits c) n) c)
        here [] q = inl q
        here (e ∷ ts) q = inr (omega (arith, commit-more n I leads e ts q))

    -- so many tries commit so many, or all
    moves-commit :
        (ms : List Move) (n : Net) → Holds every n → KeepsLead n c → Full n c
        → (tentative_of (histories (moved ms n) c) ≡ [])
        ⊎ (many n c + tries c ms ≤ many (moved ms n) c)
    unfolding moved tries
    moves-commit [] n I lead full = inr (omega arith)
    moves-commit (m ∷ ms) n I lead full =
        elim (move-commits m n I lead) [
          | inl q ↦ inl (settled_moved (m ∷ ms) n I (full, q)).1
          | inr l ↦ elim (moves-commit ms (move m n) (move_becomes m n I).holds
              (leads_moved (m ∷ []) n I lead) (full_moved (m ∷ []) n I full)) [
                | inl q ↦ inl q
                | inr r ↦ inr (omega (arith, l, r, tries_one c m ms))
              ]
        ]

    pub moves-settle :
        (ms : List Move) (n : Net) → Holds every n → KeepsLead n c → Full n c
        → length (tentative_of (histories n c)) ≤ tries c ms → Settled (moved ms n) c
    moves-settle ms n I lead full enough = (
      full_moved ms n I full,
      elim (moves-commit ms n I lead full)
          [ inl q ↦ q | inr l ↦ none_long (tentative_of (histories m c)) (counted l) ],
    )
      where
        m : Net
        m = moved ms n

        fits : length (entries_of (histories m c)) ≤ length (entries_of (histories n c))
        fits =
            no_more (entries_of (histories m c)) (entries_of (histories n c))
            (once_log m (moved_becomes ms n I).holds c)
            (λ k d. full k (moved_only ms n I k (c, d)))

        counted : many n c + tries c ms ≤ many m c → length (tentative_of (histories m c)) ≤ 0
        counted l =
            omega (
              arith,
              l,
              enough,
              fits,
              length-append (committed_of (histories n c))
                  (tentative_of (histories n c)),
              length-append (committed_of (histories m c)) (tentative_of (histories m c)),
            )
