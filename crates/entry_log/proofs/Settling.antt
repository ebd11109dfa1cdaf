-- A log with a committed entry more.
use Rattle.std.proofs.Common.{◌≡◌, ℕ, suc, ◌+◌, ◌-◌, ◌<◌, ◌≤◌, true, false, List, [], ◌∷◌, ◌++◌, map, length, get_or, take, drop, Some, sym, ap, ◌∙◌, subst, ⊎_elim, arith, length-drop}
use Rattle.std.proofs.lemmas.List.{append_assoc, length_push, take_at, drop_at, take-append-drop, drop-drop, take-map, drop-map, map-append, length-take-le, get_or-drop, drop_more, take_more}
use Rattle.std.proofs.lemmas.Bool.{cases_Bool, and_parts}
use Rattle.std.specs.List.{insert, remove}
use Rattle.bookings.proofs.Find.{same_is}
use Rattle.bookings.specs.Books.{same_mark}
use Rattle.bookings.specs.Plain.{PlainEntry}
use Rattle.entry_log.specs.Logs.{PlainLog, has, without, add_committed, first_entry, commit_first_of, commit_first}
use Rattle.entry_log.specs.Order.{all_behind, ascends, times, Once}
use Rattle.entry_log.specs.Room.{moved_to}
use Rattle.entry_log.proofs.Putting.{times-append, times-without, times_gone, has_none, one_more, none_more, without_removed, without_none, none_has, same_self}

-- a list cut behind one of its elements
pub cut_front : {X : Type 0} (us bs : List X) (x : X) (n : ℕ) → length us ≡ n → take (n + 1) (us ++ x ∷ bs) ≡ us ++ x ∷ []
cut_front us bs x n long = ap (take (n + 1)) (sym (append_assoc us (x ∷ []) bs)) ∙ take_at (us ++ x ∷ []) bs (n + 1) (length_push us x ∙ ap (λ k. k + 1) long)

pub cut_back : {X : Type 0} (us bs : List X) (x : X) (n : ℕ) → length us ≡ n → drop (n + 1) (us ++ x ∷ bs) ≡ bs
cut_back us bs x n long = ap (drop (n + 1)) (sym (append_assoc us (x ∷ []) bs)) ∙ drop_at (us ++ x ∷ []) bs (n + 1) (length_push us x ∙ ap (λ k. k + 1) long)

pub map_moved : {X Y : Type 0} (f : X → Y) (xs : List X) (c p : ℕ) (x : X) → map f (moved_to xs c p x) ≡ moved_to (map f xs) c p (f x)
map_moved f xs c p x =
    map-append f (take c xs) (x ∷ (take (p - c) (drop c xs) ++ drop (suc p) xs))
    ∙ ap (λ l. l ++ f x ∷ map f (take (p - c) (drop c xs) ++ drop (suc p) xs)) (sym (take-map f c xs))
    ∙ ap (λ l. take c (map f xs) ++ f x ∷ l)
    (map-append f (take (p - c) (drop c xs)) (drop (suc p) xs)
    ∙ ap (λ l. l ++ map f (drop (suc p) xs)) (sym (take-map f (p - c) (drop c xs)) ∙ ap (take (p - c)) (sym (drop-map f c xs)))
    ∙ ap (λ l. take (p - c) (drop c (map f xs)) ++ l) (sym (drop-map f (suc p) xs)))

-- what stood between the two places is the list's end without its element at the second
pub moved_rest : {X : Type 0} (xs : List X) (c p : ℕ) → c ≤ p → take (p - c) (drop c xs) ++ drop (suc p) xs ≡ remove (drop c xs) (p - c)
moved_rest xs c p order =
    let at : c + suc (p - c) ≡ suc p = omega arith in
    ap (λ l. take (p - c) (drop c xs) ++ l) (ap (λ n. drop n xs) (sym at) ∙ sym (drop-drop (suc (p - c)) c xs))

pub settled_once : (cs ts : List PlainEntry) (e : PlainEntry) → Once (cs ++ ts) → has e.mark cs ≡ false → Once ((cs ++ e ∷ []) ++ without e.mark ts)
settled_once cs ts e once new n =
    let whole = times-append n cs ts in
    let front = times-append n cs (e ∷ []) in
    let all = times-append n (cs ++ e ∷ []) (without e.mark ts) in
    let fewer = times-without n e.mark ts in
    ⊎_elim
    (λ same.
    let is = same_is n e.mark same in
    let gone = ap (λ m. times m (without e.mark ts)) is ∙ times_gone e.mark ts in
    let none = ap (λ m. times m cs) is ∙ has_none e.mark cs new in
    omega (arith, one_more n e.mark same))
    (λ other. omega (arith, once n, none_more n e.mark other))
    (cases_Bool (same_mark n e.mark))

-- the log's two parts after the entry was moved, or put in
module _ (xs : List PlainEntry) (c : ℕ) (e : PlainEntry) (within : c ≤ length xs) where
  pub moved_committed : (p : ℕ) → take (c + 1) (moved_to xs c p e) ≡ take c xs ++ e ∷ []
  moved_committed p = cut_front (take c xs) _ e c (length-take-le c xs within)

  pub moved_tentative :
      (p : ℕ) → c ≤ p → p < length xs → Once xs → ((d : PlainEntry) → same_mark e.mark (get_or xs p d).mark ≡ true)
      → drop (c + 1) (moved_to xs c p e) ≡ without e.mark (drop c xs)
  moved_tentative p order there once same =
      let few : times e.mark (drop c xs) ≤ 1 = omega (arith, once e.mark, ap (times e.mark) (take-append-drop c xs), times-append e.mark (take c xs) (drop c xs)) in
      let at : c + (p - c) ≡ p = omega arith in
      let found : same_mark e.mark (get_or (drop c xs) (p - c) e).mark ≡ true =
      ap (λ (x : PlainEntry). same_mark e.mark x.mark) (get_or-drop c xs (p - c) e ∙ ap (λ n. get_or xs n e) at) ∙ same e in
      cut_back (take c xs) _ e c (length-take-le c xs within) ∙ moved_rest xs c p order
      ∙ sym (without_removed e.mark (drop c xs) (p - c) e few (simp length-drop (omega arith)) found)

  pub placed_committed : take (c + 1) (insert xs c e) ≡ take c xs ++ e ∷ []
  placed_committed = cut_front (take c xs) (drop c xs) e c (length-take-le c xs within)

  pub placed_tentative : has e.mark (drop c xs) ≡ false → drop (c + 1) (insert xs c e) ≡ without e.mark (drop c xs)
  placed_tentative new = cut_back (take c xs) (drop c xs) e c (length-take-le c xs within) ∙ sym (without_none e.mark (drop c xs) new)

  -- each mark once, from the two parts
  pub parts_once :
      (ys : List PlainEntry) → take (c + 1) ys ≡ take c xs ++ e ∷ [] → drop (c + 1) ys ≡ without e.mark (drop c xs) → Once xs → has e.mark (take c xs) ≡ false → Once ys
  parts_once ys front back once new =
      subst Once (ap (λ l. l ++ without e.mark (drop c xs)) (sym front) ∙ ap (λ l. take (c + 1) ys ++ l) (sym back) ∙ take-append-drop (c + 1) ys)
      (settled_once (take c xs) (drop c xs) e (subst Once (sym (take-append-drop c xs)) once) new)

-- the first tentative entry becomes committed where it stands
abbrev pub cut_at : ℕ → List PlainEntry → PlainLog
cut_at c xs = record { committed = take c xs; tentative = drop c xs }

module _ (xs : List PlainEntry) (c : ℕ) (e : PlainEntry) (there : c < length xs) (is : e ≡ get_or xs c e) where
  next_is : drop c xs ≡ e ∷ drop (c + 1) xs
  next_is = drop_more xs c e there ∙ ap (λ x. x ∷ drop (c + 1) xs) (sym is)

  pub next_ascends : ascends (drop c xs) ≡ true → ascends (drop (c + 1) xs) ≡ true
  next_ascends sorted = (and_parts (all_behind e.mark (drop (c + 1) xs)) (ascends (drop (c + 1) xs)) (ap ascends (sym next_is) ∙ sorted)).1

  pub next_committed_lem : Once xs → cut_at (c + 1) xs ≡ commit_first (cut_at c xs)
  next_committed_lem once =
      let few : times e.mark (drop (c + 1) xs) ≡ 0 =
      omega (arith, once e.mark, ap (times e.mark) (take-append-drop c xs), times-append e.mark (take c xs) (drop c xs), ap (times e.mark) next_is, one_more e.mark e.mark (same_self e.mark)) in
      let gone : without e.mark (e ∷ drop (c + 1) xs) ≡ drop (c + 1) xs = rw (same_self e.mark) (without_none e.mark (drop (c + 1) xs) (none_has e.mark (drop (c + 1) xs) few)) in
      let front : take (c + 1) xs ≡ take c xs ++ e ∷ [] = take_more xs c e there ∙ ap (λ x. take c xs ++ x ∷ []) (sym is) in
      ap (λ l. record { committed = l; tentative = drop (c + 1) xs }) front
      ∙ ap (λ l. record { committed = take c xs ++ e ∷ []; tentative = l }) (sym gone)
      ∙ ap (λ l. add_committed e (record { committed = take c xs; tentative = l })) (sym next_is)
      ∙ sym (ap (λ l. commit_first_of l (cut_at c xs)) next_is)

-- to commit the first tentative entry is to add it as committed
pub first_added : (e : PlainEntry) (l : PlainLog) (ts : List PlainEntry) → first_entry ts ≡ Some e → commit_first_of ts l ≡ add_committed e l
first_added e l [] is = absurd (let z : ◌≡◌ {A = ℕ} 0 1 = cc in omega arith)
first_added e l (f ∷ fs) is = let same : f ≡ e = cc in ap (λ x. add_committed x l) same
