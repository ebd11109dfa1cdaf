-- What holds of what is committed in all huts, and what keeps it, whoever leads by what is committed.
--
-- `all` is the longest list that is durable in some hut. Each entry of it is durable in the hut that led before it, which committed it.
-- What a hut has as committed is a beginning of `all`; or it is all of it and some more, which that hut committed itself.
use Rattle.std.proofs.Common.{◌≡◌, ℕ, cond, ◌⊎◌, List, [], ◌∷◌, ◌++◌, length, sym, refl, ap, ◌∙◌, subst, inl, inr, append_assoc, append-nil, arith, length-append, eqb, true, false}
use Rattle.std.proofs.lemmas.Bool.{cases_eq, eq-eqb, ne_eqb}
use Rattle.bookings.specs.Plain.{PlainEntry}
use Rattle.network.specs.Net.{put}
use Rattle.network.specs.Promise.{Prefix}
use Rattle.network.proofs.Lists.{front_not_nil, only_one, split-two}
use Rattle.network.proofs.Parts.{prefix_self, prefix_trans, prefix_either, prefix-length}

abbrev pub Leader : Type 0
Leader = List PlainEntry → ℕ

prefix_more : (a b : List PlainEntry) → Prefix a (a ++ b)
prefix_more a b = (b, refl)

same_rest : (a b c : List PlainEntry) → a ++ b ≡ a ++ c → b ≡ c
same_rest [] b c e = e
same_rest (x ∷ a) b c e = same_rest a b c (cc)

not_longer : (a : List PlainEntry) (x : PlainEntry) → Prefix (a ++ x ∷ []) a → ⊥
not_longer a x p = let l = ap length p.1 in omega (arith, l, length-append (a ++ x ∷ []) p.0, length-append a (x ∷ []))

-- what a hut committed itself behind a list
abbrev pub ByItself : Leader → ℕ → List PlainEntry → List PlainEntry → Type 0
ByItself leads h all more = (front back : List PlainEntry) (e : PlainEntry) → more ≡ front ++ (e ∷ back) → leads (all ++ front) ≡ h

-- a hut has a beginning of it, or all of it and what it committed itself
abbrev pub Within : Leader → ℕ → List PlainEntry → List PlainEntry → Type 0
Within leads h all c = Prefix c all ⊎ ((more : List PlainEntry) × (c ≡ all ++ more) × ByItself leads h all more)

pub record Leads (leads : Leader) (dur hist : ℕ → List PlainEntry) (all : List PlainEntry) : Type 0 where
  pub part : (h : ℕ) → Prefix (dur h) (hist h)
  pub short : (h : ℕ) → Prefix (dur h) all
  pub inked : (front back : List PlainEntry) (e : PlainEntry) → all ≡ front ++ (e ∷ back) → Prefix (front ++ (e ∷ [])) (dur (leads front))
  pub within : (h : ℕ) → Within leads h all (hist h)

-- an entry stands at a place of a list
abbrev pub AtPlace : List PlainEntry → ℕ → PlainEntry → Type 0
AtPlace all place e = (front : List PlainEntry) × (back : List PlainEntry) × (all ≡ front ++ (e ∷ back)) × (length front ≡ place)

pub place_more : (a b : List PlainEntry) (place : ℕ) (e : PlainEntry) → Prefix a b → AtPlace a place e → AtPlace b place e
place_more a b place e p s = (s.0, s.1 ++ p.0, p.1 ∙ ap (λ (l : List PlainEntry). l ++ p.0) s.2 ∙ append_assoc s.0 (e ∷ s.1) p.0, s.3)

-- what holds at each place holds with one place changed, if it holds of the new thing
pub put_all : {A : Type 0} (P : ℕ → A → Type 0) (i : ℕ) (x : A) (f : ℕ → A) → P i x → ((j : ℕ) → P j (f j)) → (j : ℕ) → P j (put i x f j)
put_all P i x f p all j = elim (cases_eq j i) [
  | inl q ↦ rw (eq-eqb j i q) (subst (λ (a : ℕ). P a x) (sym q) p)
  | inr q ↦ rw (ne_eqb j i q) (all j)
]

pub put_map : {A B : Type 0} (f : A → B) (i : ℕ) (x : A) (g : ℕ → A) (j : ℕ) → f (put i x g j) ≡ put i (f x) (λ h. f (g h)) j
put_map f i x g j = elim (eqb j i) as (λ b. f (cond b x (g j)) ≡ cond b (f x) (f (g j))) [ true ↦ refl | false ↦ refl ]

pub put_same : {A : Type 0} (i : ℕ) (f : ℕ → A) (j : ℕ) → put i (f i) f j ≡ f j
put_same i f j = elim (cases_eq j i) [ inl q ↦ rw (eq-eqb j i q) (ap f (sym q)) | inr q ↦ rw (ne_eqb j i q) refl ]

-- the lists of all huts are what they are
pub same_lists :
    (leads : Leader) (d d' h h' : ℕ → List PlainEntry) (all : List PlainEntry) → ((i : ℕ) → d i ≡ d' i) → ((i : ℕ) → h i ≡ h' i) → Leads leads d h all
    → Leads leads d' h' all
same_lists leads d d' h h' all p q H = subst (λ (f : ℕ → List PlainEntry). Leads leads d' f all) (λ t. λ i. q i t) (subst (λ (f : ℕ → List PlainEntry). Leads leads f h all) (λ t. λ i. p i t) H)

module _ (leads : Leader) (dur hist : ℕ → List PlainEntry) (all : List PlainEntry) (H : Leads leads dur hist all) where
  open H use {part, short, inked, within}

  -- who leads by what it has has all, and leads by all
  pub has_all : (i : ℕ) → leads (hist i) ≡ i → (more : List PlainEntry) × (hist i ≡ all ++ more) × ByItself leads i all more × (leads all ≡ i)
  has_all i l = elim (within i) [
    | inl p ↦ ended p.0 p.1
    | inr p ↦ (p.0, p.1, p.2, beyond p.0 p.1 p.2)
  ]
    where
      ended : (c : List PlainEntry) → all ≡ hist i ++ c → (more : List PlainEntry) × (hist i ≡ all ++ more) × ByItself leads i all more × (leads all ≡ i)
      ended [] q =
          let same : all ≡ hist i = q ∙ append-nil (hist i) in
          ([], sym same ∙ sym (append-nil all), λ front back e n. absurd (none front back e n), ap leads same ∙ l)
        where
          none : (front back : List PlainEntry) (e : PlainEntry) → [] ≡ front ++ (e ∷ back) → ⊥
          none [] back e n = let z : ◌≡◌ {A = ℕ} 0 1 = cc in omega arith
          none (x ∷ front) back e n = let z : ◌≡◌ {A = ℕ} 0 1 = cc in omega arith
      ended (y ∷ back) q =
          let own = subst (λ (h : ℕ). Prefix (hist i ++ (y ∷ [])) (dur h)) l (inked (hist i) back y q) in
          absurd (not_longer (hist i) y (prefix_trans (hist i ++ (y ∷ [])) (dur i) (hist i) own (part i)))

      beyond : (more : List PlainEntry) → hist i ≡ all ++ more → ByItself leads i all more → leads all ≡ i
      beyond [] q own = ap leads (sym (q ∙ append-nil all)) ∙ l
      beyond (x ∷ more) q own = ap leads (sym (append-nil all)) ∙ own [] more x refl

  -- at most one hut leads by what it has
  pub one_leads : (i j : ℕ) → leads (hist i) ≡ i → leads (hist j) ≡ j → i ≡ j
  one_leads i j p q = sym (has_all i p).3 ∙ (has_all j q).3

  -- one of two huts has all that the other has
  pub order : (i j : ℕ) → Prefix (hist i) (hist j) ⊎ Prefix (hist j) (hist i)
  order i j = elim (within i) [
    | inl p ↦ elim (within j) [
      | inl q ↦ prefix_either (hist i) (hist j) all p q
      | inr q ↦ inl (prefix_trans (hist i) all (hist j) p (q.0, q.1))
    ]
    | inr p ↦ elim (within j) [
      | inl q ↦ inr (prefix_trans (hist j) all (hist i) q (p.0, p.1))
      | inr q ↦ both p.0 p.1 p.2 q.0 q.1 q.2
    ]
  ]
    where
      both :
          (a : List PlainEntry) → hist i ≡ all ++ a → ByItself leads i all a → (b : List PlainEntry) → hist j ≡ all ++ b → ByItself leads j all b
          → Prefix (hist i) (hist j) ⊎ Prefix (hist j) (hist i)
      both [] p x b q y = inl (b, q ∙ ap (λ (l : List PlainEntry). l ++ b) (sym (p ∙ append-nil all)))
      both (c ∷ a) p x [] q y = inr (c ∷ a, p ∙ ap (λ (l : List PlainEntry). l ++ (c ∷ a)) (sym (q ∙ append-nil all)))
      both (c ∷ a) p x (d ∷ b) q y =
          let same : i ≡ j = sym (x [] a c refl) ∙ y [] b d refl in
          inl (subst (λ (h : ℕ). Prefix (hist i) (hist h)) same (prefix_self (hist i)))

  -- who leads has all that any has
  pub leader_has : (i j : ℕ) → leads (hist i) ≡ i → Prefix (hist j) (hist i)
  leader_has i j l =
      let a = has_all i l in
      elim (within j) [
        | inl q ↦ prefix_trans (hist j) all (hist i) q (a.0, a.1)
        | inr q ↦ other a.0 a.1 a.2 q.0 q.1 q.2 a.3
      ]
    where
      other :
          (a : List PlainEntry) → hist i ≡ all ++ a → ByItself leads i all a → (b : List PlainEntry) → hist j ≡ all ++ b → ByItself leads j all b → leads all ≡ i
          → Prefix (hist j) (hist i)
      other a p x [] q y m = (a, p ∙ ap (λ (l : List PlainEntry). l ++ a) (sym (q ∙ append-nil all)))
      other a p x (d ∷ b) q y m =
          let same : j ≡ i = sym (y [] b d refl) ∙ ap leads (append-nil all) ∙ m in
          subst (λ (h : ℕ). Prefix (hist j) (hist h)) same (prefix_self (hist j))

  -- who leads commits one more
  pub led_commits : (i : ℕ) (e : PlainEntry) → leads (hist i) ≡ i → Leads leads dur (put i (hist i ++ (e ∷ [])) hist) all
  led_commits i e l =
      record {
        part = put_all (λ h c. Prefix (dur h) c) i (hist i ++ (e ∷ [])) hist (prefix_trans (dur i) (hist i) (hist i ++ (e ∷ [])) (part i) (prefix_more (hist i) (e ∷ []))) part;
        short = short;
        inked = inked;
        within = put_all (λ h c. Within leads h all c) i (hist i ++ (e ∷ [])) hist (inr (a.0 ++ (e ∷ []), ap (λ (c : List PlainEntry). c ++ (e ∷ [])) a.1 ∙ append_assoc all a.0 (e ∷ []), more)) within;
      }
    where
      a : (more : List PlainEntry) × (hist i ≡ all ++ more) × ByItself leads i all more × (leads all ≡ i)
      a = has_all i l

      more : ByItself leads i all (a.0 ++ (e ∷ []))
      more front back x q = elim (split-two a.0 (e ∷ []) front back x q) [
        | inl s ↦ a.2 front s.0 x s.1
        | inr s ↦
            let none = only_one e x s.0 back s.2 in
            ap leads (ap (λ (c : List PlainEntry). all ++ c) (s.1 ∙ ap (λ (c : List PlainEntry). a.0 ++ c) none.0 ∙ append-nil a.0) ∙ sym a.1) ∙ l
      ]

  -- what a hut has that takes what stands next
  pub front_is : (i : ℕ) (e : PlainEntry) (s : AtPlace all (length (hist i)) e) → hist i ≡ s.0
  front_is i e s = elim (within i) [
    | inl p ↦ prefix-length (hist i) s.0 p.0 (e ∷ s.1) (sym p.1 ∙ s.2) (sym s.3)
    | inr p ↦
        let a = ap length p.1 in
        let b = ap length s.2 in
        absurd (omega (arith, a, b, s.3, length-append all p.0, length-append s.0 (e ∷ s.1)))
  ]

  -- a hut takes what stands next
  pub led_takes : (i : ℕ) (e : PlainEntry) → AtPlace all (length (hist i)) e → Leads leads dur (put i (hist i ++ (e ∷ [])) hist) all
  led_takes i e s =
      record {
        part = put_all (λ h c. Prefix (dur h) c) i (hist i ++ (e ∷ [])) hist (prefix_trans (dur i) (hist i) (hist i ++ (e ∷ [])) (part i) (prefix_more (hist i) (e ∷ []))) part;
        short = short;
        inked = inked;
        within = put_all (λ h c. Within leads h all c) i (hist i ++ (e ∷ [])) hist (inl next) within;
      }
    where
      front : hist i ≡ s.0
      front = front_is i e s

      next : Prefix (hist i ++ (e ∷ [])) all
      next = (s.1, s.2 ∙ ap (λ (c : List PlainEntry). c ++ (e ∷ s.1)) (sym front) ∙ sym (append_assoc (hist i) (e ∷ []) s.1))

  -- a hut loses some of what is not durable
  pub led_crashes : (i : ℕ) (c : List PlainEntry) → Prefix (dur i) c → Prefix c (hist i) → Leads leads dur (put i c hist) all
  led_crashes i c keeps p =
      record {
        part = put_all (λ h c. Prefix (dur h) c) i c hist keeps part;
        short = short;
        inked = inked;
        within = put_all (λ h c. Within leads h all c) i c hist less within;
      }
    where
      less : Within leads i all c
      less = elim (within i) [
        | inl q ↦ inl (prefix_trans c (hist i) all p q)
        | inr q ↦ elim (prefix_either c all (hist i) p (q.0, q.1)) [
          | inl r ↦ inl r
          | inr r ↦
              let rest : q.0 ≡ r.0 ++ p.0 = same_rest all q.0 (r.0 ++ p.0) (sym q.1 ∙ p.1 ∙ ap (λ (l : List PlainEntry). l ++ p.0) r.1 ∙ append_assoc all r.0 p.0) in
              inr (r.0, r.1, λ front back e s. q.2 front (back ++ p.0) e (rest ∙ ap (λ (l : List PlainEntry). l ++ p.0) s ∙ append_assoc front (e ∷ back) p.0))
        ]
      ]

  -- a hut makes all durable that it has
  pub led_syncs : (i : ℕ) → (now : List PlainEntry) × Prefix all now × Prefix (hist i) now × Leads leads (put i (hist i) dur) hist now
  led_syncs i = elim (within i) [
    | inl p ↦ same p
    | inr p ↦ longer p.0 p.1 p.2
  ]
    where
      grows : (h : ℕ) → Prefix (dur h) (put i (hist i) dur h)
      grows = put_all (λ h c. Prefix (dur h) c) i (hist i) dur (part i) (λ h. prefix_self (dur h))

      part-now : (h : ℕ) → Prefix (put i (hist i) dur h) (hist h)
      part-now = put_all (λ h c. Prefix c (hist h)) i (hist i) dur (prefix_self (hist i)) part

      same : Prefix (hist i) all → (now : List PlainEntry) × Prefix all now × Prefix (hist i) now × Leads leads (put i (hist i) dur) hist now
      same p = (
        all,
        prefix_self all,
        p,
        record {
          part = part-now;
          short = put_all (λ h c. Prefix c all) i (hist i) dur p short;
          inked = λ front back e q. prefix_trans (front ++ (e ∷ [])) (dur (leads front)) (put i (hist i) dur (leads front)) (inked front back e q) (grows (leads front));
          within = within;
        },
      )

      longer :
          (more : List PlainEntry) → hist i ≡ all ++ more → ByItself leads i all more
          → (now : List PlainEntry) × Prefix all now × Prefix (hist i) now × Leads leads (put i (hist i) dur) hist now
      longer [] q own = same ([], sym (append-nil all) ∙ sym q ∙ sym (append-nil (hist i)))
      longer (x ∷ xs) q own = (
        hist i,
        (x ∷ xs, q),
        prefix_self (hist i),
        record {
          part = part-now;
          short = put_all (λ h c. Prefix c (hist i)) i (hist i) dur (prefix_self (hist i)) (λ h. prefix_trans (dur h) all (hist i) (short h) (x ∷ xs, q));
          inked = λ front back e s. inked-now front back e s (split-two all (x ∷ xs) front back e (sym q ∙ s));
          within = λ h. others h (within h);
        },
      )
        where
          first : leads all ≡ i
          first = ap leads (sym (append-nil all)) ∙ own [] xs x refl

          inked-now :
              (front back : List PlainEntry) (e : PlainEntry) → hist i ≡ front ++ (e ∷ back)
              → ((c : List PlainEntry) × (all ≡ front ++ (e ∷ c))) ⊎ ((c : List PlainEntry) × (front ≡ all ++ c) × (x ∷ xs ≡ c ++ (e ∷ back)))
              → Prefix (front ++ (e ∷ [])) (put i (hist i) dur (leads front))
          inked-now front back e s (inl u) =
              prefix_trans (front ++ (e ∷ [])) (dur (leads front)) (put i (hist i) dur (leads front)) (inked front u.0 e u.1) (grows (leads front))
          inked-now front back e s (inr u) =
              let mine : leads front ≡ i = ap leads u.1 ∙ own u.0 back e u.2 in
              let here : put i (hist i) dur (leads front) ≡ hist i = rw (eq-eqb (leads front) i mine) refl in
              subst (λ (l : List PlainEntry). Prefix (front ++ (e ∷ [])) l) (sym here) (back, s ∙ sym (append_assoc front (e ∷ []) back))

          others : (h : ℕ) → Within leads h all (hist h) → Within leads h (hist i) (hist h)
          others h (inl p) = inl (prefix_trans (hist h) all (hist i) p (x ∷ xs, q))
          others h (inr p) = beyond p.0 p.1 p.2
            where
              beyond : (b : List PlainEntry) → hist h ≡ all ++ b → ByItself leads h all b → Within leads h (hist i) (hist h)
              beyond [] r own-h = inl (x ∷ xs, q ∙ ap (λ (l : List PlainEntry). l ++ (x ∷ xs)) (sym (r ∙ append-nil all)))
              beyond (y ∷ ys) r own-h =
                  let is : i ≡ h = sym first ∙ ap leads (sym (append-nil all)) ∙ own-h [] ys y refl in
                  inl (subst (λ (j : ℕ). Prefix (hist j) (hist i)) is (prefix_self (hist i)))

-- at the start nobody has anything
pub start_led : (leads : Leader) → Leads leads (λ h. []) (λ h. []) []
start_led leads =
    record { part = λ h. prefix_self []; short = λ h. prefix_self []; inked = λ front back e q. absurd (front_not_nil e front back q); within = λ h. inl (prefix_self []) }
