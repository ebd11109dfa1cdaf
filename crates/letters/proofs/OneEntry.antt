-- The kinds of entry, and an entry, from the parts that have one form.
use Rattle.std.proofs.Common.{◌≡◌, ℕ, ◌^◌, ◌<◌, eqb, List, [], ◌∷◌, ◌++◌, sym, refl, subst}
use Rattle.std.proofs.lemmas.Bool.{eqb-true}
use Rattle.bookings.specs.Plain.{PlainKind, book, cancel, change, supply, PlainEntry}
use Rattle.letters.specs.Answers.{Answer}
use Rattle.letters.specs.Format.{four, encode_mark, encode_choice, encode_choices, encode_kind, encode, read_one, read_four, read_mark, read_choice, read_choices, read_book, read_cancel, read_change, read_beds, read_kind, read_numbers, reads}
use Rattle.letters.specs.RangeTests.{in_range}
use Rattle.letters.specs.Laws.{KindFits, EntryOk, EntryOneForm}
use Rattle.letters.proofs.Exact.{Exact, exact_got, exact_then, exact_cond, exact_out, exact_judged}
use Rattle.letters.proofs.OneForm.{MarkFits, AnyChoice, AnyChoices, exact_one, exact_four, exact_mark, exact_choice, exact_choices}
use Rattle.letters.proofs.RangeTests.{entry_decided}

exact_book : Exact (1 ∷ []) read_book encode_kind KindFits
exact_book =
    exact_then (1 ∷ []) read_four four (λ n. n < 2 ^ 32) _ encode_kind KindFits exact_four
    (λ guest fits.
    exact_then (1 ∷ four guest) read_choices encode_choices AnyChoices _ encode_kind KindFits exact_choices
    (λ cs ok. exact_got (1 ∷ (four guest ++ encode_choices cs)) (book guest cs) encode_kind KindFits refl fits))

exact_cancel : Exact (2 ∷ []) read_cancel encode_kind KindFits
exact_cancel =
    exact_then (2 ∷ []) read_mark encode_mark MarkFits _ encode_kind KindFits exact_mark
    (λ m ok. exact_got (2 ∷ encode_mark m) (cancel m) encode_kind KindFits refl ok)

exact_change : Exact (3 ∷ []) read_change encode_kind KindFits
exact_change =
    exact_then (3 ∷ []) read_mark encode_mark MarkFits _ encode_kind KindFits exact_mark
    (λ m m-ok.
    exact_then (3 ∷ encode_mark m) read_choices encode_choices AnyChoices _ encode_kind KindFits exact_choices
    (λ cs ok. exact_got (3 ∷ (encode_mark m ++ encode_choices cs)) (change m cs) encode_kind KindFits refl m-ok))

exact_beds : Exact (4 ∷ []) read_beds encode_kind KindFits
exact_beds =
    exact_then (4 ∷ []) read_choice encode_choice AnyChoice _ encode_kind KindFits exact_choice
    (λ c ok. exact_got (4 ∷ encode_choice c) (supply c) encode_kind KindFits refl tt)

-- the kind's number decides
exact_kind : Exact [] read_kind encode_kind KindFits
exact_kind =
    exact_then [] read_one (λ n. n ∷ []) (λ n. n < 256) _ encode_kind KindFits exact_one
    (λ n small.
    exact_cond (n ∷ []) (eqb n 1) read_book _ encode_kind KindFits (λ is. at n 1 read_book (eqb-true n 1 is) exact_book)
    (λ _. exact_cond (n ∷ []) (eqb n 2) read_cancel _ encode_kind KindFits (λ is. at n 2 read_cancel (eqb-true n 2 is) exact_cancel)
    (λ _. exact_cond (n ∷ []) (eqb n 3) read_change _ encode_kind KindFits (λ is. at n 3 read_change (eqb-true n 3 is) exact_change)
    (λ _. exact_cond (n ∷ []) (eqb n 4) read_beds _ encode_kind KindFits (λ is. at n 4 read_beds (eqb-true n 4 is) exact_beds)
    (λ _. exact_out (n ∷ []) encode_kind KindFits)))))
  where
    at : (n k : ℕ) (read : List ℕ → Answer PlainKind) → n ≡ k → Exact (k ∷ []) read encode_kind KindFits → Exact (n ∷ []) read encode_kind KindFits
    at n k read is one = subst (λ j. Exact (j ∷ []) read encode_kind KindFits) (sym is) one

abbrev Fits : PlainEntry → Type 0
Fits e = (e.mark.stamp < 2 ^ 32) × KindFits e.kind

exact_numbers : Exact [] read_numbers encode Fits
exact_numbers =
    exact_then [] read_mark encode_mark MarkFits _ encode Fits exact_mark
    (λ m m-ok.
    exact_then (encode_mark m) read_kind encode_kind KindFits _ encode Fits exact_kind
    (λ k k-ok. exact_got (encode_mark m ++ encode_kind k) (record { mark = m; kind = k }) encode Fits refl (m-ok, k-ok)))

pub exact_entry : Exact [] reads encode EntryOk
exact_entry bs e rest bytes h =
    let one = exact_judged read_numbers in_range encode Fits exact_numbers bs e rest bytes h in
    (one.0, (record { ranged = (entry_decided e).0 one.1.0.1; stamp_fits = one.1.0.0.0; kind_fits = one.1.0.0.1 }, one.1.1))

pub entry_one_form_lem : EntryOneForm
entry_one_form_lem bs e rest bytes h = let one = exact_entry bs e rest bytes h in (one.1.0, one.0)
