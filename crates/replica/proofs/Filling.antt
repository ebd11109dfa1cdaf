-- How a parcel fills, entry by entry.
use Rattle.std.proofs.Common.{◌≡◌, ℕ, suc, ◌+◌, ◌-◌, ◌<◌, ◌≤◌, min, leb, List, [], ◌∷◌, ◌++◌, length, get_or, take, drop, sym, refl, ap, ◌∙◌, ⊎_elim, arith, length-drop}
use Rattle.std.proofs.lemmas.List.{append_assoc, append-nil, length_push, take_all, drop_all, take_more, drop_more}
use Rattle.std.proofs.lemmas.Bool.{cases_Bool, cases_lt, le-leb, lt-leb}
use Rattle.bookings.specs.Plain.{PlainEntry}
use Rattle.entry_log.specs.Vectors.{vector_of}
use Rattle.entry_log.specs.Waits.{PlainWaiting}
use Rattle.entry_log.specs.declared.waiting.TheConstants.{MAX_LETTER_ENTRIES}
use Rattle.replica.specs.Parcels.{missing, offered}

-- what is there, with what is left of the missing ones
pub offered_more :
    (has : List ℕ) (room : ℕ) (before : List PlainEntry) (e : PlainEntry) (es : List PlainEntry) (ws : List PlainWaiting)
    → offered has room e (vector_of before) ws ++ take (room - length (offered has room e (vector_of before) ws)) (missing has (before ++ e ∷ []) es)
    ≡ ws ++ take (room - length ws) (missing has before (e ∷ es))
offered_more has room before e es ws =
    ⊎_elim
    (λ some.
    let w : PlainWaiting = record { entry = e; stood = vector_of before } in
    let next : room - length ws ≡ suc (room - (length ws + 1)) = omega arith in
    let left : room - length (ws ++ w ∷ []) ≡ room - (length ws + 1) = ap (λ n. room - n) (length_push ws w) in
    rw (lt-leb room (length ws) some)
    (⊎_elim (λ reached. rw reached refl)
    (λ missed.
    rw missed
    (ap (λ n. (ws ++ w ∷ []) ++ take n (missing has (before ++ e ∷ []) es)) left ∙ append_assoc ws (w ∷ []) (take (room - (length ws + 1)) (missing has (before ++ e ∷ []) es))
    ∙ sym (ap (λ n. ws ++ take n (w ∷ missing has (before ++ e ∷ []) es)) next)))
    (cases_Bool (leb e.mark.stamp (get_or has e.mark.hut 0)))))
    (λ full.
    let none : room - length ws ≡ 0 = omega arith in
    rw (le-leb room (length ws) full)
    (ap (λ n. ws ++ take n (missing has (before ++ e ∷ []) es)) none ∙ sym (ap (λ n. ws ++ take n (missing has before (e ∷ es))) none)))
    (cases_lt (length ws) room)

-- as many of a list as there are at most
take_few : {X : Type 0} (ys : List X) (n k : ℕ) → k ≡ min n (length ys) → take k ys ≡ take n ys
take_few ys n k is =
    ⊎_elim (λ short. take_all k ys (omega arith) ∙ sym (take_all n ys (omega arith))) (λ long. let same : k ≡ n = omega arith in ap (λ m. take m ys) same) (cases_lt (length ys) n)

pub part_is :
    {X : Type 0} (xs : List X) (from start count : ℕ) → start ≡ min from (length xs) → count ≡ min MAX_LETTER_ENTRIES (length xs - start)
    → take ((start + count) - start) (drop start xs) ≡ take MAX_LETTER_ENTRIES (drop from xs)
part_is xs from start count start_is count_is =
    let same : drop start xs ≡ drop from xs =
    ⊎_elim (λ past. drop_all start xs (omega arith) ∙ sym (drop_all from xs (omega arith))) (λ within. let at : start ≡ from = omega arith in ap (λ n. drop n xs) at) (cases_lt (length xs) from) in
    take_few (drop start xs) MAX_LETTER_ENTRIES ((start + count) - start) (omega (arith, length-drop start xs)) ∙ ap (take MAX_LETTER_ENTRIES) same

-- the loop over the entries: its step and its end
module _ (has : List ℕ) (room : ℕ) (before xs : List PlainEntry) (i : ℕ) where
  pub front_more : (e : PlainEntry) → i < length xs → e ≡ get_or xs i e → before ++ take (i + 1) xs ≡ (before ++ take i xs) ++ e ∷ []
  front_more e there is = ap (λ l. before ++ l) (take_more xs i e there ∙ ap (λ x. take i xs ++ x ∷ []) (sym is)) ∙ sym (append_assoc before (take i xs) (e ∷ []))

  pub gather_step :
      (e : PlainEntry) (stood : List ℕ) (ws more all : List PlainWaiting) → i < length xs → e ≡ get_or xs i e → stood ≡ vector_of (before ++ take i xs) → more ≡ offered has room e stood ws
      → ws ++ take (room - length ws) (missing has (before ++ take i xs) (drop i xs)) ≡ all
      → more ++ take (room - length more) (missing has (before ++ take (i + 1) xs) (drop (i + 1) xs)) ≡ all
  gather_step e stood ws more all there is stood-is more-is so_far =
      let front : List PlainEntry = before ++ take i xs in
      let next : drop i xs ≡ e ∷ drop (i + 1) xs = drop_more xs i e there ∙ ap (λ x. x ∷ drop (i + 1) xs) (sym is) in
      let given : more ≡ offered has room e (vector_of front) ws = more-is ∙ ap (λ v. offered has room e v ws) stood-is in
      ap (λ l. more ++ take (room - length more) (missing has l (drop (i + 1) xs))) (front_more e there is)
      ∙ ap (λ w. w ++ take (room - length w) (missing has (front ++ e ∷ []) (drop (i + 1) xs))) given
      ∙ offered_more has room front e (drop (i + 1) xs) ws
      ∙ sym (ap (λ l. ws ++ take (room - length ws) (missing has front l)) next) ∙ so_far

  pub gather_end : (ws all : List PlainWaiting) → length xs ≤ i → ws ++ take (room - length ws) (missing has (before ++ take i xs) (drop i xs)) ≡ all → ws ≡ all
  gather_end ws all past so_far =
      let none : take (room - length ws) (missing has (before ++ take i xs) (drop i xs)) ≡ [] =
      ap (λ l. take (room - length ws) (missing has (before ++ take i xs) l)) (drop_all i xs past) ∙ take_all (room - length ws) [] (omega arith) in
      sym (append-nil ws) ∙ ap (λ l. ws ++ l) (sym none) ∙ so_far
