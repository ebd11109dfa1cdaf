-- A value has bytes of its own: blocks, one after another, many; entries, and tentative ones.
use Rattle.std.proofs.Common.{Result, Ok, Err, MatchResult, IfOk, ◌≡◌, ℕ, zero, suc, ◌≤◌, Bool, true, false, cond, eqb, ltb, List, [], ◌∷◌, ◌++◌, length, get_or, take, drop, sym, refl, ap, ◌∙◌, append_assoc, arith, length-append, length-take-le, le-ltb, drop_at}
use Rattle.std.proofs.lemmas.List.{take-append-drop}
use Rattle.bookings.specs.Plain.{book, cancel, change, supply}
use Rattle.bookings.specs.declared.limits.TheConstants.{HUTS, MAX_CHOICES}
use Rattle.letters.specs.Answers.{Answer, got, out, after, read_times, OwnPart}
use Rattle.letters.specs.Format.{having, mark_at, choice_at, number_of_four, read_one, read_four, read_mark, read_choice, read_choices, read_book, read_cancel, read_change, read_beds, read_kind, read_numbers, reads}
use Rattle.letters.specs.Letters.{read_stamps, read_waiting}
use Rattle.letters.specs.RangeTests.{in_range}
use Rattle.letters.proofs.Exact.{after-got, having-got}

abbrev pub ReadsOwnPart : {A : Type 0} → (List ℕ → Answer A) → Type 0
ReadsOwnPart {A} read = (bs : List ℕ) (a : A) (rest : List ℕ) → read bs ≡ got a rest → OwnPart read a bs rest

own_got : {A : Type 0} (v : A) → ReadsOwnPart (λ bs. got v bs)
own_got v bs a rest h =
    let v-is : v ≡ a = cc in
    let rest-is : bs ≡ rest = cc in
    ([], (rest-is, λ more. ap (λ x. got x more) v-is))

own_out : {A : Type 0} → ReadsOwnPart {A = A} (λ bs. out)
own_out bs a rest h = let z : ◌≡◌ {A = ℕ} 0 1 = cc in absurd (omega arith)

own_then :
    {A B : Type 0} (first : List ℕ → Answer A) (next : A → List ℕ → Answer B)
    → ReadsOwnPart first → ((a : A) → ReadsOwnPart (next a)) → ReadsOwnPart (λ bs. after (first bs) next)
own_then first next one more bs b s h =
    let found = after-got (first bs) next b s h in
    let here = one bs found.0 found.1.0 found.1.1.0 in
    let there = more found.0 found.1.0 b s found.1.1.1 in (
      here.0 ++ there.0,
      (
        here.1.0 ∙ ap (λ t. here.0 ++ t) there.1.0 ∙ sym (append_assoc here.0 there.0 s),
        λ t. ap (λ x. after (first x) next) (append_assoc here.0 there.0 t) ∙ ap (λ x. after x next) (here.1.1 (there.0 ++ t)) ∙ there.1.1 t,
      ),
    )

own_cond : {A : Type 0} (t : Bool) (x y : List ℕ → Answer A) → ReadsOwnPart x → ReadsOwnPart y → ReadsOwnPart (λ bs. cond t (x bs) (y bs))
own_cond true x y p q = p
own_cond false x y p q = q

-- a block of n bytes, and what these alone are
own_block :
    {A : Type 0} (n : ℕ) (f : List ℕ → A) → ((bs more : List ℕ) → n ≤ length bs → f (take n bs ++ more) ≡ f bs)
    → ReadsOwnPart (λ bs. having n bs (got (f bs) (drop n bs)))
own_block n f alone bs a rest h =
    let there = having-got n bs _ a rest h in
    let a-is : f bs ≡ a = cc in
    let rest-is : drop n bs ≡ rest = cc in
    let long : length (take n bs) ≡ n = length-take-le n bs there.0 in (
      take n bs,
      (
        sym (take-append-drop n bs) ∙ ap (λ t. take n bs ++ t) rest-is,
        λ more.
            rw (le-ltb (length (take n bs ++ more)) n (omega (arith, long, length-append (take n bs) more)))
            (ap (λ x. got x (drop n (take n bs ++ more))) (alone bs more there.0 ∙ a-is) ∙ ap (got a) (drop_at (take n bs) more n long)),
      ),
    )

own_times : {A : Type 0} (read : List ℕ → Answer A) (n : ℕ) → ReadsOwnPart read → ReadsOwnPart (read_times read n)
own_times read zero one = own_got []
own_times read (suc n) one =
    own_then read _ one (λ x. own_then (read_times read n) _ (own_times read n one) (λ xs. own_got (x ∷ xs)))

own_one : ReadsOwnPart read_one
own_one = own_block 1 _ alone
  where
    alone : (bs more : List ℕ) → 1 ≤ length bs → get_or (take 1 bs ++ more) 0 0 ≡ get_or bs 0 0
    alone (a ∷ bs) more long = refl
    alone [] more long = absurd (omega arith)

pub own_four : ReadsOwnPart read_four
own_four = own_block 4 number_of_four alone
  where
    alone : (bs more : List ℕ) → 4 ≤ length bs → number_of_four (take 4 bs ++ more) ≡ number_of_four bs
    alone (a ∷ b ∷ c ∷ d ∷ bs) more long = refl
    alone [] more long = absurd (omega arith)
    alone (a ∷ []) more long = absurd (omega arith)
    alone (a ∷ b ∷ []) more long = absurd (omega arith)
    alone (a ∷ b ∷ c ∷ []) more long = absurd (omega arith)

-- what is made of five bytes
own_five :
    {A : Type 0} (f : List ℕ → A) → ((a b c d e : ℕ) (bs more : List ℕ) → f (a ∷ b ∷ c ∷ d ∷ e ∷ more) ≡ f (a ∷ b ∷ c ∷ d ∷ e ∷ bs))
    → ReadsOwnPart (λ bs. having 5 bs (got (f bs) (drop 5 bs)))
own_five f five = own_block 5 f alone
  where
    alone : (bs more : List ℕ) → 5 ≤ length bs → f (take 5 bs ++ more) ≡ f bs
    alone (a ∷ b ∷ c ∷ d ∷ e ∷ bs) more long = five a b c d e bs more
    alone [] more long = absurd (omega arith)
    alone (a ∷ []) more long = absurd (omega arith)
    alone (a ∷ b ∷ []) more long = absurd (omega arith)
    alone (a ∷ b ∷ c ∷ []) more long = absurd (omega arith)
    alone (a ∷ b ∷ c ∷ d ∷ []) more long = absurd (omega arith)

own_mark : ReadsOwnPart read_mark
own_mark = own_five mark_at (λ a b c d e bs more. refl)

own_choice : ReadsOwnPart read_choice
own_choice = own_five choice_at (λ a b c d e bs more. refl)

own_choices : ReadsOwnPart read_choices
own_choices =
    own_then read_one _ own_one (λ n. own_cond (ltb MAX_CHOICES n) (λ bs. out) (read_times read_choice n) own_out (own_times read_choice n own_choice))

own_book : ReadsOwnPart read_book
own_book = own_then read_four _ own_four (λ guest. own_then read_choices _ own_choices (λ cs. own_got (book guest cs)))

own_cancel : ReadsOwnPart read_cancel
own_cancel = own_then read_mark _ own_mark (λ m. own_got (cancel m))

own_change : ReadsOwnPart read_change
own_change = own_then read_mark _ own_mark (λ m. own_then read_choices _ own_choices (λ cs. own_got (change m cs)))

own_beds : ReadsOwnPart read_beds
own_beds = own_then read_choice _ own_choice (λ c. own_got (supply c))

own_kind : ReadsOwnPart read_kind
own_kind =
    own_then read_one _ own_one
    (λ n.
    own_cond (eqb n 1) read_book _ own_book
    (own_cond (eqb n 2) read_cancel _ own_cancel
    (own_cond (eqb n 3) read_change _ own_change (own_cond (eqb n 4) read_beds _ own_beds own_out))))

pub own_entry : ReadsOwnPart reads
own_entry =
    own_then read_numbers _
    (own_then read_mark _ own_mark (λ m. own_then read_kind _ own_kind (λ k. own_got (record { mark = m; kind = k }))))
    (λ e. own_cond (in_range e) (λ r. got e r) (λ r. out) (own_got e) own_out)

own_stamps : ReadsOwnPart read_stamps
unfolding read_stamps
own_stamps = own_times read_four HUTS own_four

pub own_waiting : ReadsOwnPart read_waiting
own_waiting = own_then reads _ own_entry (λ e. own_then read_stamps _ own_stamps (λ s. own_got (record { entry = e; stood = s })))

-- so too of a value of the code
pub own_part :
    {A X E : Type 0} (read : List ℕ → Answer A) (plain : X → A) (bs rest : List ℕ) (P : E → Type 0) (result : Result X E) → ReadsOwnPart read
    → MatchResult result (λ v. read bs ≡ got (plain v) rest) P → IfOk result (λ v. OwnPart read (plain v) bs rest)
own_part read plain bs rest P (Ok v) own h = own bs (plain v) rest h
own_part read plain bs rest P (Err e) own h = tt
