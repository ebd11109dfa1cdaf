-- Under every fair schedule there are enough walks and commits, one phase after the other.
use Rattle.std.proofs.Common.{◌≡◌, ◌≢◌, ℕ, zero, suc, ◌+◌, ◌<◌, ◌≤◌, List, [], ◌∷◌, ◌++◌, length, sym, refl, ap, ◌∙◌, subst, arith}
use Rattle.std.proofs.lemmas.Bool.{eq-eqb}
use Rattle.replica.specs.Model.{leader}
use Rattle.network.specs.Fairness.{segment}
use Rattle.network.specs.Net.{after, huts}
use Rattle.network.specs.Promise.{Always}
use Rattle.network.specs.Replicas.{tentative_of}
use Rattle.network.specs.Walks.{AllAgree, Commit, FairAgree, Move, Walk, ZeroKeepsLead, moved, tries, walks}
use Rattle.network.proofs.Holds.{histories}
use Rattle.network.proofs.Lasting.{lasting_known}
use Rattle.network.proofs.Safety.{after_holds, made-few}
use Rattle.network.proofs.Segments.{segment_append}
use Rattle.network.proofs.Tests.{below, by_same}
use Rattle.network.proofs.WalksAgree.{agree_by, other}
use Rattle.network.proofs.WalksBring.{walks_one}
use Rattle.network.proofs.WalksSettle.{tries_one}
use Rattle.network.proofs.Whole.{made_fewer}

-- walks and tries are counted in one list after another
walks_append : (i j : ℕ) (a b : List Move) → walks i j (a ++ b) ≡ walks i j a + walks i j b
unfolding walks
walks_append i j [] b = omega arith
walks_append i j (m ∷ a) b =
    omega (arith, walks_one i j m (a ++ b), walks_one i j m a, walks_append i j a b)

tries_append : (c : ℕ) (a b : List Move) → tries c (a ++ b) ≡ tries c a + tries c b
unfolding tries
tries_append c [] b = omega arith
tries_append c (m ∷ a) b =
    omega (arith, tries_one c m (a ++ b), tries_one c m a, tries_append c a b)

walks_self : (i j : ℕ) → walks i j (Walk i j ∷ []) ≡ 1
unfolding walks
walks_self i j = rw (eq-eqb i i refl, eq-eqb j j refl) refl

tries_self : (c : ℕ) → tries c (Commit c ∷ []) ≡ 1
unfolding tries
tries_self c = rw (eq-eqb c c refl) refl

module _
    (s : ℕ → Move) (f : List Move → ℕ) (adds : (a b : List Move) → f (a ++ b) ≡ f a + f b) where
  counted : (a b t : ℕ) → f (segment s t (a + b)) ≡ f (segment s t a) + f (segment s (t + a) b)
  counted a b t = ap f (segment_append s a b t) ∙ adds (segment s t a) (segment s (t + a) b)

  -- what comes again and again comes as often as one likes
  often :
      (m : Move) → f (m ∷ []) ≡ 1 → ((t : ℕ) → (u : ℕ) × (s (t + u) ≡ m)) → (count t : ℕ) → (u : ℕ)
      × (count ≤ f (segment s t u))
  often m one again zero t = (0, omega arith)
  often m one again (suc count) t =
      let r = often m one again count t in
      let a = again (t + r.0) in
      let last : f (segment s ((t + r.0) + a.0) 1) ≡ 1 = ap (λ (x : Move). f (x ∷ [])) a.1 ∙ one in
      (r.0 + (a.0 + 1), omega (arith, r.1, last, counted r.0 (a.0 + 1) t, counted a.0 1 (t + r.0)))

-- and so does each of many
each_often :
    (s : ℕ → Move) (c : ℕ) (f : ℕ → List Move → ℕ)
    → ((i : ℕ) (a b : List Move) → f i (a ++ b) ≡ f i a + f i b) → (m : ℕ → Move)
    → ((i : ℕ) → f i (m i ∷ []) ≡ 1)
    → ((i t : ℕ) → i < huts → i ≢ c → (u : ℕ) × (s (t + u) ≡ m i)) → (count n t : ℕ) → n ≤ huts
    → (u : ℕ) × ((i : ℕ) → i < n → i ≢ c → count ≤ f i (segment s t u))
each_often s c f adds m one again count zero t le = (0, λ i lt ne. absurd (omega arith))
each_often s c f adds m one again count (suc n) t le =
    let r = each_often s c f adds m one again count n t (omega arith) in
    by_same n c
    (λ p. (r.0, λ i lt ne. r.1 i (let other-hut : i ≡ n → ⊥ = λ q. ne (q ∙ p) in omega arith) ne))
    (λ apart.
    let a =
    often s (f n) (adds n) (m n) (one n) (λ x. again n x (omega arith) (other n c apart)) count
    (t + r.0) in (
      r.0 + a.0,
      λ i lt ne. by_same i n
          (λ q. subst (λ (x : ℕ). count ≤ f x (segment s t (r.0 + a.0))) (sym q)
          (omega (arith, a.1, counted s (f n) (adds n) r.0 a.0 t)))
          (λ other-hut. omega (
            arith,
            r.1 i (below i n lt other-hut) ne,
            counted s (f i) (adds i) r.0 a.0 t,
          )),
    ))

pub fair_agree : Always FairAgree
fair_agree es few c low lead s fair = (a.0 + (b.0 + d.0), agrees)
  where
    a : (u : ℕ) × ((i : ℕ) → i < huts → i ≢ c → 128 ≤ walks i c (segment s 0 u))
    a =
        each_often s c (λ i. walks i c) (λ i. walks_append i c) (λ i. Walk i c)
        (λ i. walks_self i c) fair.in_walks 128 huts 0 (omega arith)

    waiting : ℕ
    waiting = length (tentative_of (histories (moved (segment s 0 a.0) (after es)) c))

    b : (u : ℕ) × (waiting ≤ tries c (segment s (0 + a.0) u))
    b = often s (tries c) (tries_append c) (Commit c) (tries_self c) fair.commits waiting (0 + a.0)

    d : (u : ℕ) × ((i : ℕ) → i < huts → i ≢ c → 128 ≤ walks c i (segment s ((0 + a.0) + b.0) u))
    d =
        each_often s c (λ i. walks c i) (λ i. walks_append c i) (λ i. Walk c i)
        (λ i. walks_self c i) fair.out_walks 128 huts ((0 + a.0) + b.0) (omega arith)

    agrees : (later : ℕ)
        → AllAgree es (moved (segment s 0 ((a.0 + (b.0 + d.0)) + later)) (after es)) c
    agrees later =
        let third = segment s ((0 + a.0) + b.0) (d.0 + later) in
        let time : (a.0 + (b.0 + d.0)) + later ≡ a.0 + (b.0 + (d.0 + later)) = omega arith in
        let parts =
        ap (segment s 0) time ∙ segment_append s a.0 (b.0 + (d.0 + later)) 0
        ∙ ap (λ (l : List Move). segment s 0 a.0 ++ l)
        (segment_append s b.0 (d.0 + later) (0 + a.0)) in
        let g =
        agree_by (made_fewer es few) 128 (omega (arith, few, made-few es)) c low (after es)
        (after_holds es) lead (segment s 0 a.0) (segment s (0 + a.0) b.0) third a.1 b.1
        (λ i lt ne. omega (
          arith,
          d.1 i lt ne,
          counted s (walks c i) (walks_append c i) d.0 later ((0 + a.0) + b.0),
        )) in
        subst (λ (l : List Move). AllAgree es (moved l (after es)) c) (sym parts)
        (g.0, λ k l. g.1 k (lasting_known es k l))

pub zero_keeps_lead : Always ZeroKeepsLead
unfolding leader
zero_keeps_lead es l p known = refl
