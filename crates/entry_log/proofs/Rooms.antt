-- What moving entries up leaves.
use Rattle.std.proofs.Common.{◌≡◌, ℕ, suc, ◌+◌, ◌-◌, ◌<◌, ◌≤◌, List, [], ◌∷◌, ◌++◌, length, get_or, take, drop, set, refl, ap, ◌∙◌, arith, length-drop, length-take}
use borrow.Rule.Slice.PartMut.{put_mid}
use Rattle.std.proofs.lemmas.List.{take-take, drop-drop, take-append-le, drop-append-le, drop_more, drop_all, append-nil, take_all, length_push}
use Rattle.std.specs.List.{insert}
use Rattle.entry_log.specs.Room.{shifted, moved_to}

-- the last goes round to the front, and is written over
pub rotated_first :
    {X : Type 0} (xs ys : List X) (x : X) → 0 < length xs → ys ≡ drop (length xs - 1) xs ++ take (length xs - 1) xs → set ys 0 x ≡ shifted xs x
rotated_first xs ys x some is =
    let last : drop (length xs - 1) xs ≡ get_or xs (length xs - 1) x ∷ [] =
    drop_more xs (length xs - 1) x (omega arith) ∙ ap (λ l. get_or xs (length xs - 1) x ∷ l) (drop_all (length xs - 1 + 1) xs (omega arith)) in
    rw (is, last) refl

pub moved_is :
    {X : Type 0} (xs ys : List X) (place last : ℕ) (x : X) → place ≤ last → last < length xs → ys ≡ shifted (take ((last + 1) - place) (drop place xs)) x
    → put_mid place ((last + 1) - place) xs ys ≡ moved_to xs place last x
moved_is xs ys place last x order within is =
    let count : length (take ((last + 1) - place) (drop place xs)) - 1 ≡ last - place = simp (length-take, length-drop) (omega arith) in
    let shorter : last - place ≤ (last + 1) - place = omega arith in
    let past : place + ((last + 1) - place) ≡ suc last = omega arith in
    let middle : ys ≡ x ∷ take (last - place) (drop place xs) =
    is ∙ ap (λ n. x ∷ take n (take ((last + 1) - place) (drop place xs))) count ∙ ap (λ l. x ∷ l) (take-take (last - place) ((last + 1) - place) (drop place xs) shorter) in
    let end : drop ((last + 1) - place) (drop place xs) ≡ drop (suc last) xs = drop-drop ((last + 1) - place) place xs ∙ ap (λ n. drop n xs) past in
    ap (λ l. take place xs ++ (l ++ drop ((last + 1) - place) (drop place xs))) middle
    ∙ ap (λ l. take place xs ++ (x ∷ (take (last - place) (drop place xs) ++ l))) end

pub moved_last : {X : Type 0} (xs : List X) (place : ℕ) (x : X) → place ≤ length xs → moved_to (xs ++ x ∷ []) place (length xs) x ≡ insert xs place x
moved_last xs place x within =
    let few : length xs - place ≤ length (drop place xs) = simp length-drop (omega arith) in
    let many : length (drop place xs) ≤ length xs - place = simp length-drop (omega arith) in
    let end : length (xs ++ x ∷ []) ≤ suc (length xs) = omega (arith, length_push xs x) in
    ap (λ l. l ++ x ∷ (take (length xs - place) (drop place (xs ++ x ∷ [])) ++ drop (suc (length xs)) (xs ++ x ∷ []))) (take-append-le place xs (x ∷ []) within)
    ∙ ap (λ l. take place xs ++ x ∷ (take (length xs - place) l ++ drop (suc (length xs)) (xs ++ x ∷ []))) (drop-append-le place xs (x ∷ []) within)
    ∙ ap (λ l. take place xs ++ x ∷ (l ++ drop (suc (length xs)) (xs ++ x ∷ []))) (take-append-le (length xs - place) (drop place xs) (x ∷ []) few ∙ take_all (length xs - place) (drop place xs) many)
    ∙ ap (λ l. take place xs ++ x ∷ (drop place xs ++ l)) (drop_all (suc (length xs)) (xs ++ x ∷ []) end)
    ∙ ap (λ l. take place xs ++ x ∷ l) (append-nil (drop place xs))
