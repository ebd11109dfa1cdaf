-- What is skipped or kept out changes nothing, and all that a letter holds is told of.
use Rattle.std.proofs.Common.{◌≡◌, ℕ, ◌+◌, List, [], ◌∷◌, ◌++◌, map, length, None, Some, Option, sym, refl, ap, ◌∙◌, subst, arith, length-append}
use lib.ListN.{length-map}
use Rattle.journal.specs.History.{Kept, state_in, unless, wrote}
use Rattle.letters.proofs.Counting.{counts_add_up}
use Rattle.letters.proofs.Lawful.{letter_round_trip_lem}
use Rattle.letters.specs.Counting.{heard_letter}
use Rattle.letters.specs.Items.{PlainItem, items_of, placed_from, settled, waiting}
use Rattle.letters.specs.Letters.{Heard, read_letter}
use Rattle.network.specs.Items.{items_taken, record_of, refusal_of, takes}
use Rattle.network.specs.KeptOut.{KeptOutChangesNothing, OutcomesAddUp, SkippedChangesNothing, only_taken, unless_skipped}
use Rattle.network.specs.Promise.{AllTaken}
use Rattle.network.specs.Taking.{kept_out, outcomes_of}
use Rattle.network.proofs.Letters.{placed_length}

-- an item is written down where it is not refused
takes_is :
    (w : PlainItem) (k : Kept) → takes w k
    ≡ unless (refusal_of w (state_in k)) k (wrote (record_of w) k)
takes_is (settled place e) k = refl
takes_is (waiting w) k = refl

takes_refused :
    (w : PlainItem) (k : Kept) (number : ℕ) → refusal_of w (state_in k) ≡ Some number → takes w k
    ≡ k
takes_refused w k number q =
    takes_is w k ∙ ap (λ (o : Option ℕ). unless o k (wrote (record_of w) k)) q

-- what is skipped changes nothing
pub skipped-changes-nothing : SkippedChangesNothing
unfolding only_taken items_taken
skipped-changes-nothing [] k = (refl, tt)
skipped-changes-nothing (w ∷ ws) k =
    by (refusal_of w (state_in k)) refl (skipped-changes-nothing ws (takes w k))
  where
    by :
        (o : Option ℕ) → refusal_of w (state_in k) ≡ o
        → (items_taken (only_taken ws (takes w k)) (takes w k) ≡ items_taken ws (takes w k))
        × AllTaken (only_taken ws (takes w k)) (takes w k)
        → (items_taken (unless_skipped w o (only_taken ws (takes w k))) k
        ≡ items_taken ws (takes w k)) × AllTaken (unless_skipped w o (only_taken ws (takes w k))) k
    by None q further = (further.0, (q, further.1))
    by (Some number) q further =
        let same = takes_refused w k number q in (
          ap (items_taken (only_taken ws (takes w k))) (sym same)
              ∙ further.0,
          subst (AllTaken (only_taken ws (takes w k))) same further.1,
        )

pub kept_out-changes-nothing : KeptOutChangesNothing
unfolding items_taken
kept_out-changes-nothing bs k = (
  sym (skipped-changes-nothing (items_of (read_letter bs)) k).0,
  λ none. ap (λ (h : Heard). items_taken (items_of h) k) none,
  λ place cs ws out bytes is.
      let ok = (counts_add_up bs place cs ws out bytes is).0 in
      let l = heard_letter place cs ws in (
        ok,
        ap (λ (h : Heard). items_taken (items_of h) k) is
            ∙ sym (ap (λ (h : Heard). items_taken (items_of h) k) (letter_round_trip_lem l ok)),
      ),
)

-- each item has its outcome
outcomes_many : (ws : List PlainItem) (k : Kept) → length (outcomes_of ws k) ≡ length ws
outcomes_many [] k = refl
outcomes_many (w ∷ ws) k = omega (arith, outcomes_many ws (takes w k))

pub outcomes_add_up : OutcomesAddUp
outcomes_add_up bs k place cs ws out bytes is =
    let all = (counts_add_up bs place cs ws out bytes is).1 in
    let items = placed_from place cs ++ map waiting ws in
    let many = outcomes_many items k in
    let told = ap (λ (h : Heard). length (outcomes_of (items_of h) k) + kept_out h) is in (
      all.0,
      all.1,
      told ∙ omega (
        arith,
        all.2,
        many,
        length-append (placed_from place cs) (map waiting ws),
        placed_length place
            cs,
        length-map ws waiting,
      ),
    )
