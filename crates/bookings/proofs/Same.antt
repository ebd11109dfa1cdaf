-- Two entries are equal by `==` just where they mean the same.
use Rattle.std.proofs.Common.{◌≡◌, Bool, ◌&&◌, eqb, sym, ap, ◌∙◌}
use lib.Pointwise.{pointwise_decides}
use Rattle.std.proofs.lemmas.Bool.{and_parts, and_from}
use Rattle.std.proofs.lemmas.Bool.Decides.{Decides-eqb}
use Rattle.std.specs.Bool.{Decides}
use Rattle.std.specs.Cmp.Derive.Mapped.{pointwise-map}
use Rattle.bookings.specs.Books.{same_mark}
use Rattle.bookings.specs.Plain.{PlainMark, PlainStay, PlainChoice, PlainEntry, cancel, supply, plain_mark, plain_choice, plain_choices, plain_supply, plain_kind, plain, listed}
use Rattle.bookings.specs.contracts.entry.EntryPartialEq.TheImpl as entry
use Rattle.bookings.specs.contracts.entry.KindPartialEq.TheImpl as kind
use Rattle.bookings.specs.contracts.entry.same.ChoicesPartialEq.TheImpl as choices
use Rattle.bookings.specs.declared.entry.Choices.{Choices}
use Rattle.bookings.specs.declared.entry.Entry.{Entry}
use Rattle.bookings.specs.declared.entry.Kind.TheVariants.{Book, Cancel, Change, Beds}
use Rattle.bookings.specs.declared.entry.Kind.{Kind}

-- two tests decide what two facts make
both : {P Q R : Type 0} (x y : Bool) → Decides x P → Decides y Q → (P → Q → R) → (R → P) → (R → Q) → Decides (x && y) R
both x y here there join left right =
    (λ yes. join (here.0 (and_parts x y yes).0) (there.0 (and_parts x y yes).1), λ r. and_from x y (here.1 (left r)) (there.1 (right r)))

mark_decides : (p q : PlainMark) → Decides (same_mark p q) (p ≡ q)
mark_decides p q =
    both _ _ (Decides-eqb p.stamp q.stamp) (Decides-eqb p.hut q.hut) (λ stamps huts. ap (λ s. record { stamp = s; hut = p.hut }) stamps ∙ ap (λ h. record { stamp = q.stamp; hut = h }) huts) (ap (λ (x : PlainMark). x.stamp)) (ap (λ (x : PlainMark). x.hut))

abbrev same_stay : PlainStay → PlainStay → Bool
same_stay p q = eqb p.hut q.hut && (eqb p.night q.night && eqb p.nights q.nights)

stay_decides : (p q : PlainStay) → Decides (same_stay p q) (p ≡ q)
stay_decides p q =
    both _ _ (Decides-eqb p.hut q.hut)
    (both {R = (p.night ≡ q.night) × (p.nights ≡ q.nights)} _ _ (Decides-eqb p.night q.night) (Decides-eqb p.nights q.nights) (λ night nights. (night, nights)) (λ r. r.0) (λ r. r.1))
    (λ huts rest. ap (λ h. record { hut = h; night = p.night; nights = p.nights }) huts ∙ ap (λ n. record { hut = q.hut; night = n; nights = p.nights }) rest.0 ∙ ap (λ n. record { hut = q.hut; night = q.night; nights = n }) rest.1) (ap (λ (x : PlainStay). x.hut)) (λ is. (ap (λ (x : PlainStay). x.night) is, ap (λ (x : PlainStay). x.nights) is))

abbrev same_choice : PlainChoice → PlainChoice → Bool
same_choice p q = same_stay p.stay q.stay && eqb p.beds q.beds

choice_decides : (p q : PlainChoice) → Decides (same_choice p q) (p ≡ q)
choice_decides p q =
    both _ _ (stay_decides p.stay q.stay) (Decides-eqb p.beds q.beds) (λ stays beds. ap (λ s. record { stay = s; beds = p.beds }) stays ∙ ap (λ n. record { stay = q.stay; beds = n }) beds) (ap (λ (x : PlainChoice). x.stay)) (ap (λ (x : PlainChoice). x.beds))

choices_decides : (a b : Choices) → Decides ((choices.ghosts).eq a b) (plain_choices a ≡ plain_choices b)
choices_decides a b =
    let same = pointwise-map plain_choice same_choice (listed a) (listed b) in
    let all = pointwise_decides choice_decides (plain_choices a) (plain_choices b) in
    (λ yes. all.0 (same ∙ yes), λ is. sym same ∙ all.1 is)

kind_decides : (a b : Kind) → Decides ((kind.ghosts).eq a b) (plain_kind a ≡ plain_kind b)
kind_decides (Book g cs) (Book h ds) = both _ _ (Decides-eqb g h) (choices_decides cs ds) (λ guest listed. cc) (λ is. cc) (λ is. cc)
kind_decides (Book g cs) (Cancel n) = (λ same. cc, λ is. cc)
kind_decides (Book g cs) (Change n ds) = (λ same. cc, λ is. cc)
kind_decides (Book g cs) (Beds t) = (λ same. cc, λ is. cc)
kind_decides (Cancel m) (Book h ds) = (λ same. cc, λ is. cc)
kind_decides (Cancel m) (Cancel n) = let decides = mark_decides (plain_mark m) (plain_mark n) in (λ same. ap cancel (decides.0 same), λ is. decides.1 cc)
kind_decides (Cancel m) (Change n ds) = (λ same. cc, λ is. cc)
kind_decides (Cancel m) (Beds t) = (λ same. cc, λ is. cc)
kind_decides (Change m cs) (Book h ds) = (λ same. cc, λ is. cc)
kind_decides (Change m cs) (Cancel n) = (λ same. cc, λ is. cc)
kind_decides (Change m cs) (Change n ds) = both _ _ (mark_decides (plain_mark m) (plain_mark n)) (choices_decides cs ds) (λ mark listed. cc) (λ is. cc) (λ is. cc)
kind_decides (Change m cs) (Beds t) = (λ same. cc, λ is. cc)
kind_decides (Beds s) (Book h ds) = (λ same. cc, λ is. cc)
kind_decides (Beds s) (Cancel n) = (λ same. cc, λ is. cc)
kind_decides (Beds s) (Change n ds) = (λ same. cc, λ is. cc)
kind_decides (Beds s) (Beds t) = let decides = choice_decides (plain_supply s) (plain_supply t) in (λ same. ap supply (decides.0 same), λ is. decides.1 cc)

pub entry_decides : (a b : Entry) → Decides ((entry.ghosts).eq a b) (plain a ≡ plain b)
entry_decides a b =
    both _ _ (mark_decides (plain_mark a.mark) (plain_mark b.mark)) (kind_decides a.kind b.kind) (λ marks kinds. cc) (ap (λ (x : PlainEntry). x.mark)) (ap (λ (x : PlainEntry). x.kind))
