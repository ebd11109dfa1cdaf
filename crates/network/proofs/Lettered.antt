-- The letter that is written is the one that the replica's parcel makes.
use Rattle.std.proofs.Common.{◌≡◌, ℕ, ◌^◌, ◌<◌, ◌≤◌, cond, eqb, List, map, length, sym, ap, ◌∙◌, inl, inr, arith, length-drop, length-take}
use Rattle.bookings.specs.declared.book.TheConstants.{CAPACITY}
use lib.ListN.{length-map}
use Rattle.std.proofs.lemmas.Bool.{cases_lt, eq-eqb, cond-true}
use Rattle.bookings.specs.Plain.{PlainEntry, plain}
use Rattle.bookings.specs.declared.entry.Entry.{Entry}
use Rattle.entry_log.specs.Waits.{plain_waiting}
use Rattle.entry_log.specs.declared.waiting.Waiting.{Waiting}
use Rattle.letters.specs.Sent.{letter_of}
use Rattle.replica.specs.Model.{State}
use Rattle.replica.specs.Parcels.{parcel_of, parcel_for}
use Rattle.network.specs.Taking.{letter_for}

-- behind the last committed entry there is none
none_behind : (count : ℕ) (has : List ℕ) (cs ts : List PlainEntry) → length cs ≤ count → length (parcel_of count has cs ts).committed ≡ 0
unfolding parcel_of
none_behind count has cs ts beyond = simp (length-take, length-drop) (omega arith)

module _ (count : ℕ) (has : List ℕ) (s : State) (es : List Entry) (ws : List Waiting) (place : ℕ) where
  pub letter_is :
      length s.log.committed ≤ CAPACITY → (count < 2 ^ 32 → place ≡ count) → map plain es ≡ (parcel_for count has s).committed → map plain_waiting ws ≡ (parcel_for count has s).tentative
      → letter_of place es ws ≡ letter_for count has s
  letter_is few placed es-is ws-is =
      ap (λ p. record { place = p; committed = map plain es; tentative = map plain_waiting ws }) place_is
      ∙ ap (λ cs. record { place = cond (eqb (length (parcel_for count has s).committed) 0) 0 count; committed = cs; tentative = map plain_waiting ws }) es-is
      ∙ ap (λ ts. record { place = cond (eqb (length (parcel_for count has s).committed) 0) 0 count; committed = (parcel_for count has s).committed; tentative = ts }) ws-is
    where
      many : length es ≡ length (parcel_for count has s).committed
      many = sym (length-map es plain) ∙ ap length es-is

      place_is : cond (eqb (length es) 0) 0 place ≡ cond (eqb (length (parcel_for count has s).committed) 0) 0 count
      place_is =
          ap (λ n. cond (eqb n 0) 0 place) many
          ∙ elim (cases_lt count (2 ^ 32)) [
            | inl lt ↦ ap (λ p. cond (eqb (length (parcel_for count has s).committed) 0) 0 p) (placed lt)
            | inr ge ↦
                let none = none_behind count has s.log.committed s.log.tentative (omega arith) in
                let yes = eq-eqb (length (parcel_for count has s).committed) 0 none in
                cond-true _ 0 place yes ∙ sym (cond-true _ 0 count yes)
          ]
