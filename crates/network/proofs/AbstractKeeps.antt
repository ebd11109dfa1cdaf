-- What holds of every page that the steps lead to, and that each step keeps it.
use Rattle.std.proofs.Common.{◌≡◌, ◌≢◌, ℕ, ◌<◌, ◌≤◌, ◌⊎◌, List, ◌∷◌, ◌++◌, length, take, sym, refl, ap, ◌∙◌, subst, inl, inr, arith}
use Rattle.std.proofs.lemmas.Bool.{cases_eq}
use Rattle.std.proofs.lemmas.List.{take-append-le, take_all}
use Rattle.bookings.specs.Plain.{PlainEntry, PlainMark}
use Rattle.network.specs.Abstract.{Alone, Closed, Had, Page, Part, SamePart, SameSet, Within, list}
use Rattle.network.specs.AbstractLaws.{Lasts, Sound}
use Rattle.network.specs.Promise.{Prefix}
use Rattle.network.proofs.Lists.{by_append, none_in, stands}
use Rattle.network.proofs.Marks.{◌∈◌}
use Rattle.network.proofs.Parts.{prefix_trans}

-- what holds of a page: also that what others know of a hut it has for good, and that somebody has for good what is in committed
pub record Invariant (a : Page) : Type 0 where
  pub sound : Sound a
  pub home : (j : ℕ) (e : PlainEntry) → e ∈ (a.now j).set → (e.mark.hut ≡ j) ⊎ (e ∈ (a.synced e.mark.hut).set)
  pub lasting : (j : ℕ) (e : PlainEntry) → e ∈ (a.synced j).set → e ∈ (a.synced e.mark.hut).set
  pub least : (j : ℕ) → (a.synced j).count ≤ (a.now j).count
  pub within : (j : ℕ) → (a.now j).count ≤ length (list a)
  pub had : Had a
  pub inked : (e : PlainEntry) → e ∈ a.committed → (j : ℕ) × (e ∈ (a.synced j).set)

-- an entry that a step makes
pub record New (i : ℕ) (a b : Page) (e : PlainEntry) : Type 0 where
  pub mine : e.mark.hut ≡ i
  pub above : (k : PlainEntry) → k ∈ (a.now i).set → k.mark.stamp < e.mark.stamp
  pub knew : SameSet (b.knew e.mark) (a.now i).set

-- what every step is: of one replica, with new entries or none
pub record Moves (New? : PlainEntry → Type 0) (i : ℕ) (a b : Page) : Type 0 where
  pub alone : Alone i a b
  pub new : (e : PlainEntry) → New? e → New i a b e
  pub alike : (e f : PlainEntry) → New? e → New? f → e ≡ f
  pub from : (k : PlainEntry) → k ∈ (b.now i).set → (k ∈ (a.now i).set) ⊎ (((h : ℕ) × (k ∈ (a.synced h).set)) ⊎ New? k)
  pub synced : SamePart (b.synced i) (a.synced i) ⊎ (SamePart (b.synced i) (b.now i) × SamePart (b.now i) (a.now i))
  pub part : Within (b.synced i).set (b.now i).set
  pub least : (b.synced i).count ≤ (b.now i).count
  pub closed : Closed b (b.now i)
  pub committed : Prefix a.committed b.committed
  pub lines : Prefix (list a) (list b) ⊎ Prefix (list b) (list a)
  pub within : (j : ℕ) → (b.now j).count ≤ length (list b)
  pub firm : (j : ℕ) → (b.synced j).count ≤ length b.committed
  pub had : Had b
  pub inked : (e : PlainEntry) → e ∈ b.committed → (j : ℕ) × (e ∈ (b.synced j).set)
  pub behind :
      (front back : List PlainEntry) (e : PlainEntry) → list b ≡ front ++ e ∷ back
      → ((more : List PlainEntry) × (list a ≡ front ++ e ∷ more)) ⊎ ((e ∈ (a.now i).set) × Within (a.knew e.mark) front)

pub take_same : (n : ℕ) (l m : List PlainEntry) → Prefix l m → n ≤ length l → take n m ≡ take n l
take_same n l m p le = ap (take n) p.1 ∙ take-append-le n l p.0 le

-- somebody knows what is in the list
known_line :
    (a : Page) → ((j : ℕ) → Closed a (a.now j)) → ((j : ℕ) → Within (a.synced j).set (a.now j).set) → Had a
    → ((e : PlainEntry) → e ∈ a.committed → (j : ℕ) × (e ∈ (a.synced j).set)) → (e : PlainEntry) → e ∈ list a → (j : ℕ) × (e ∈ (a.now j).set)
known_line a closed part had inked e m =
    by_append a.committed m (λ u. let w = inked e u in (w.0, part w.0 e w.1))
    (λ u. elim had [
      | inl q ↦ none_in (subst (λ (l : List PlainEntry). e ∈ l) q u)
      | inr w ↦ (w.0, (closed w.0).1 e (subst (λ (l : List PlainEntry). e ∈ l) (sym (take_all (a.now w.0).count (list a) (omega (arith, w.1)))) m))
    ])

-- a part that stays is closed as it was
pub closed_same :
    (a b : Page) (p q : Part) → SamePart q p → Closed a p → take p.count (list b) ≡ take p.count (list a)
    → ((e : PlainEntry) → e ∈ p.set → e ∈ q.set → SameSet (b.knew e.mark) (a.knew e.mark)) → Closed b q
closed_same a b p q same c agree knew = (
  λ e m k u. same.1.1 k (c.0 e (same.1.0 e m) k ((knew e (same.1.0 e m) m).0 k u)),
  λ k m. same.1.1 k (c.1 k (subst (λ (l : List PlainEntry). k ∈ l) (ap (λ n. take n (list b)) same.0 ∙ agree) m)),
)

pub each : (i : ℕ) (P : ℕ → Type 0) → P i → ((j : ℕ) → j ≢ i → P j) → (j : ℕ) → P j
each i P here there j = elim (cases_eq j i) [ inl q ↦ subst P (sym q) here | inr q ↦ there j q ]

module _ {New? : PlainEntry → Type 0} (i : ℕ) (a b : Page) (A : Invariant a) (M : Moves New? i a b) where
  grows : (j : ℕ) → Within (a.synced j).set (b.synced j).set
  grows =
      each i (λ j. Within (a.synced j).set (b.synced j).set)
      (elim M.synced [ inl p ↦ p.1.1 | inr r ↦ λ k m. r.0.1.1 k (r.1.1.1 k (A.sound.kept i k m)) ]) (λ j q. (M.alone.synced j q).1.1)

  part : (j : ℕ) → Within (b.synced j).set (b.now j).set
  part = each i (λ j. Within (b.synced j).set (b.now j).set) M.part (λ j q k m. (M.alone.now j q).1.1 k (A.sound.kept j k ((M.alone.synced j q).1.0 k m)))

  closed : (j : ℕ) → Closed b (b.now j)
  closed = each i (λ j. Closed b (b.now j)) M.closed (λ j q. closed_same a b (a.now j) (b.now j) (M.alone.now j q) (A.sound.closed j) (agree j q) (M.alone.knew j j))
    where
      agree : (j : ℕ) → j ≢ i → take (a.now j).count (list b) ≡ take (a.now j).count (list a)
      agree j q =
          let n = (a.now j).count in
          let m : n ≤ length (list b) = omega (arith, M.within j, (M.alone.now j q).0) in
          elim M.lines [ inl p ↦ take_same n (list a) (list b) p (A.within j) | inr p ↦ sym (take_same n (list b) (list a) p m) ]

  closed_synced : (j : ℕ) → Closed b (b.synced j)
  closed_synced = each i (λ j. Closed b (b.synced j)) (elim M.synced [ inl p ↦ still i p | inr r ↦ closed_same b b (b.now i) (b.synced i) r.0 M.closed refl (λ e m m'. (λ k u. u, λ k u. u)) ])
      (λ j q. still j (M.alone.synced j q))
    where
      agree : (j : ℕ) → take (a.synced j).count (list b) ≡ take (a.synced j).count (list a)
      agree j =
          let n = (a.synced j).count in
          take_same n a.committed (list b) (prefix_trans a.committed b.committed (list b) M.committed (b.draft, refl)) (A.sound.firm j) ∙ sym (take_same n a.committed (list a) (a.draft, refl) (A.sound.firm j))

      still : (j : ℕ) → SamePart (b.synced j) (a.synced j) → Closed b (b.synced j)
      still j p = closed_same a b (a.synced j) (b.synced j) p (A.sound.lasting j) (agree j) (λ e m m'. M.alone.knew j j e (A.sound.kept j e m) (part j e m'))

  -- what is known after a step was known to somebody, or is new
  origin : (j : ℕ) (k : PlainEntry) → k ∈ (b.now j).set → ((h : ℕ) × (k ∈ (a.now h).set)) ⊎ New? k
  origin =
      each i (λ j. (k : PlainEntry) → k ∈ (b.now j).set → ((h : ℕ) × (k ∈ (a.now h).set)) ⊎ New? k)
      (λ k m. elim (M.from k m) [ inl u ↦ inl (i, u) | inr (inl w) ↦ inl (w.0, A.sound.kept w.0 k w.1) | inr (inr n) ↦ inr n ])
      (λ j q k m. inl (j, (M.alone.now j q).1.0 k m))

  -- a hut knows all that is known of its own
  at_home : (h : ℕ) (e : PlainEntry) → e ∈ (a.now h).set → e.mark.hut ≡ i → e ∈ (a.now i).set
  at_home h e m q = elim (A.home h e m) [
    | inl p ↦ subst (λ j. e ∈ (a.now j).set) (sym p ∙ q) m
    | inr s ↦ subst (λ j. e ∈ (a.now j).set) q (A.sound.kept e.mark.hut e s)
  ]

  newer : (h : ℕ) (e f : PlainEntry) → e ∈ (a.now h).set → New? f → e.mark.hut ≡ f.mark.hut → e.mark.stamp < f.mark.stamp
  newer h e f m n q = (M.new f n).above e (at_home h e m (q ∙ (M.new f n).mine))

  once : (j h : ℕ) (e f : PlainEntry) → e ∈ (b.now j).set → f ∈ (b.now h).set → e.mark ≡ f.mark → e ≡ f
  once j h e f m n q =
      let hut : e.mark.hut ≡ f.mark.hut = ap (λ (x : PlainMark). x.hut) q in
      let stamp : e.mark.stamp ≡ f.mark.stamp = ap (λ (x : PlainMark). x.stamp) q in
      elim (origin j e m) [
        | inl w ↦ elim (origin h f n) [ inl v ↦ A.sound.once w.0 v.0 e f w.1 v.1 q | inr v ↦ absurd (omega (arith, newer w.0 e f w.1 v hut, stamp)) ]
        | inr w ↦ elim (origin h f n) [ inl v ↦ absurd (omega (arith, newer v.0 f e v.1 w (sym hut), stamp)) | inr v ↦ M.alike e f w v ]
      ]

  own : (j h : ℕ) (e f : PlainEntry) → e ∈ (b.now j).set → f ∈ (b.now h).set → e.mark.hut ≡ f.mark.hut → e.mark.stamp < f.mark.stamp → e ∈ b.knew f.mark
  own j h e f m n q l =
      elim (origin j e m) [
        | inl w ↦ elim (origin h f n) [
          | inl v ↦ (M.alone.knew v.0 h f v.1 n).1 e (A.sound.own w.0 v.0 e f w.1 v.1 q l)
          | inr v ↦ (M.new f v).knew.1 e (at_home w.0 e w.1 (q ∙ (M.new f v).mine))
        ]
        | inr w ↦ elim (origin h f n) [
          | inl v ↦ absurd (omega (arith, newer v.0 f e v.1 w (sym q), l))
          | inr v ↦ absurd (omega (arith, ap (λ (x : PlainEntry). x.mark.stamp) (M.alike e f w v), l))
        ]
      ]

  behind : (front back : List PlainEntry) (e : PlainEntry) → list b ≡ front ++ e ∷ back → Within (b.knew e.mark) front
  behind front back e q k u =
      let y = known_line b closed part M.had M.inked e (subst (λ (l : List PlainEntry). e ∈ l) (sym q) (stands e front back)) in
      elim (M.behind front back e q) [
        | inl w ↦
            let x = known_line a A.sound.closed A.sound.kept A.had A.inked e (subst (λ (l : List PlainEntry). e ∈ l) (sym w.1) (stands e front w.0)) in
            A.sound.behind front w.0 e w.1 k ((M.alone.knew x.0 y.0 e x.1 y.1).0 k u)
        | inr r ↦ r.1 k ((M.alone.knew i y.0 e r.0 y.1).0 k u)
      ]

  home : (j : ℕ) (e : PlainEntry) → e ∈ (b.now j).set → (e.mark.hut ≡ j) ⊎ (e ∈ (b.synced e.mark.hut).set)
  home =
      each i (λ j. (e : PlainEntry) → e ∈ (b.now j).set → (e.mark.hut ≡ j) ⊎ (e ∈ (b.synced e.mark.hut).set))
      (λ e m. elim (M.from e m) [
        | inl u ↦ on i e (A.home i e u)
        | inr (inl w) ↦ inr (grows e.mark.hut e (A.lasting w.0 e w.1))
        | inr (inr n) ↦ inl (M.new e n).mine
      ])
      (λ j q e m. on j e (A.home j e ((M.alone.now j q).1.0 e m)))
    where
      on : (j : ℕ) (e : PlainEntry) → (e.mark.hut ≡ j) ⊎ (e ∈ (a.synced e.mark.hut).set) → (e.mark.hut ≡ j) ⊎ (e ∈ (b.synced e.mark.hut).set)
      on j e (inl q) = inl q
      on j e (inr u) = inr (grows e.mark.hut e u)

  lasting : (j : ℕ) (e : PlainEntry) → e ∈ (b.synced j).set → e ∈ (b.synced e.mark.hut).set
  lasting =
      each i (λ j. (e : PlainEntry) → e ∈ (b.synced j).set → e ∈ (b.synced e.mark.hut).set)
      (λ e m. elim M.synced [
        | inl p ↦ grows e.mark.hut e (A.lasting i e (p.1.0 e m))
        | inr r ↦ elim (A.home i e (r.1.1.0 e (r.0.1.0 e m))) [ inl p ↦ subst (λ j. e ∈ (b.synced j).set) (sym p) m | inr s ↦ grows e.mark.hut e s ]
      ])
      (λ j q e m. grows e.mark.hut e (A.lasting j e ((M.alone.synced j q).1.0 e m)))

  lower : (j : ℕ) (e k : PlainEntry) → e ∈ (b.now j).set → k ∈ b.knew e.mark → k.mark.stamp < e.mark.stamp
  lower j e k m u = elim (origin j e m) [
    | inl w ↦ A.sound.lower w.0 e k w.1 ((M.alone.knew w.0 j e w.1 m).0 k u)
    | inr n ↦ (M.new e n).above k ((M.new e n).knew.0 k u)
  ]

  more : (j : ℕ) → (a.synced j).count ≤ (b.synced j).count
  more =
      each i (λ j. (a.synced j).count ≤ (b.synced j).count)
      (elim M.synced [ inl p ↦ omega (arith, p.0) | inr r ↦ omega (arith, r.0.0, r.1.0, A.least i) ]) (λ j q. omega (arith, (M.alone.synced j q).0))

  pub keeps : Invariant b × Lasts a b
  keeps = (
    record {
      sound =
          record { closed = closed; lasting = closed_synced; kept = part; firm = M.firm; behind = behind; lower = lower; once = once; own = own };
      home = home;
      lasting = lasting;
      least = each i (λ j. (b.synced j).count ≤ (b.now j).count) M.least (λ j q. omega (arith, (M.alone.now j q).0, (M.alone.synced j q).0, A.least j));
      within = M.within;
      had = M.had;
      inked = M.inked;
    },
    record { committed = M.committed; count = more; set = grows },
  )
