-- Choices that are checked one by one.
use Rattle.std.proofs.Common.{◌≡◌, ℕ, zero, suc, ◌+◌, ◌<◌, ◌≤◌, List, [], ◌∷◌, ◌++◌, map, length, get_or, take, ap, ◌∙◌, subst, arith, length-take}
use Rattle.std.proofs.lemmas.List.{take_all, take_more, map-append, length-map}
use Rattle.bookings.specs.declared.entry.Choice.{Choice}
use Rattle.bookings.specs.declared.entry.Choices.{Choices}
use Rattle.bookings.specs.Plain.{PlainChoice, listed, plain_choice, plain_choices}
use Rattle.bookings.specs.Ranges.{Each, ChoiceOk, ChoicesOk}
use Rattle.bookings.specs.declared.limits.TheConstants.{MAX_CHOICES}
use Rattle.console.specs.declared.request.RawChoice.{RawChoice}
use Rattle.console.specs.Requests.{asked_choice}

each_push : {A : Type 0} (P : A → Type 0) (xs : List A) (x : A) → Each P xs → P x → Each P (xs ++ x ∷ [])
each_push P [] x all here = (here, tt)
each_push P (y ∷ ys) x all here = (all.0, each_push P ys x all.1 here)

-- what holds of each holds of the one at i
pub each_at : {A B : Type 0} (P : B → Type 0) (f : A → B) (xs : List A) (i : ℕ) (d : A) → i < length xs → Each P (map f xs) → P (f (get_or xs i d))
each_at P f [] i d within all = absurd (omega arith)
each_at P f (y ∷ ys) zero d within all = all.0
each_at P f (y ∷ ys) (suc i) d within all = each_at P f ys i d (omega arith) all.1

-- one more choice is checked
pub checked_on :
    (all : List RawChoice) (i : ℕ) (d : RawChoice) (before after : Choices) (choice : Choice) → i < length all
    → listed after ≡ listed before ++ choice ∷ [] → ChoiceOk (asked_choice (get_or all i d)) → plain_choice choice ≡ asked_choice (get_or all i d)
    → plain_choices before ≡ map asked_choice (take i all) → Each ChoiceOk (map asked_choice (take i all))
    → (plain_choices after ≡ map asked_choice (take (i + 1) all)) × Each ChoiceOk (map asked_choice (take (i + 1) all))
checked_on all i d before after choice within after_is fine choice-is same each =
    let more : map asked_choice (take (i + 1) all) ≡ map asked_choice (take i all) ++ asked_choice (get_or all i d) ∷ [] =
    rw (take_more all i d within) (map-append asked_choice (take i all) (get_or all i d ∷ []))
    in
    let one : plain_choices after ≡ plain_choices before ++ plain_choice choice ∷ [] =
    ap (map plain_choice) after_is ∙ map-append plain_choice (listed before) (choice ∷ [])
    in
    (cc, rw more (each_push ChoiceOk (map asked_choice (take i all)) (asked_choice (get_or all i d)) each fine))

pub raws_few : (all : List RawChoice) (n : ℕ) → n ≤ MAX_CHOICES → length (take n all) ≤ MAX_CHOICES
raws_few all n few = simp length-take (omega arith)

-- a fifth choice is never asked for
pub no_fifth :
    (raws : List RawChoice) (i : ℕ) (checked : Choices) → i < length raws → length raws ≤ MAX_CHOICES → plain_choices checked ≡ map asked_choice (take i raws)
    → length (listed checked) ≡ MAX_CHOICES → ⊥
no_fifth raws i checked within few same full =
    let long : length (plain_choices checked) ≡ length (listed checked) = length-map (listed checked) plain_choice in
    let short : length (map asked_choice (take i raws)) ≡ i = length-map (take i raws) asked_choice ∙ simp length-take (omega arith) in
    omega (arith, ap length same)

-- all of them are checked
pub all_checked :
    (raws : List RawChoice) (i : ℕ) (checked : Choices) → length raws ≤ i → length raws ≤ MAX_CHOICES → plain_choices checked ≡ map asked_choice (take i raws)
    → Each ChoiceOk (map asked_choice (take i raws)) → ChoicesOk (map asked_choice raws) × (plain_choices checked ≡ map asked_choice raws)
all_checked raws i checked end few same each =
    let whole : map asked_choice (take i raws) ≡ map asked_choice raws = ap (map asked_choice) (take_all i raws end) in
    ((omega (arith, length-map raws asked_choice), subst (λ (cs : List PlainChoice). Each ChoiceOk cs) whole each), same ∙ whole)
