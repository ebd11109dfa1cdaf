-- What a replica makes of bytes that are to be a letter.
use Rattle.std.specs.Prelude.{◌≡◌, ℕ, Bool, true, false, cond, List, [], ◌∷◌, map, length, Some, None, vec_items, Option, ◌==◌}
use Rattle.bookings.specs.Plain.{PlainMark, plain_mark}
use Rattle.bookings.specs.Refusals.{number_of}
use Rattle.journal.specs.History.{Kept, state_in}
use Rattle.letters.specs.Items.{PlainItem, settled, waiting, items_of}
use Rattle.letters.specs.Letters.{PlainLetter, Heard, damaged, heard, read_letter}
use Rattle.replica.specs.Model.{State}
use Rattle.replica.specs.Parcels.{parcel_for}
use Rattle.network.specs.Items.{refusal_of, takes, items_taken}
use Rattle.network.specs.declared.report.Report.{Report}
use Rattle.network.specs.declared.outcome.Outcome.{Outcome}
use Rattle.network.specs.declared.outcome.Outcome.TheVariants.{Committed, Tentative, Skipped}

-- taken as committed at its place, or as tentative; or skipped by a number
pub data PlainOutcome : Type 0 where
  committed : (place : ℕ) → PlainMark → PlainOutcome
  tentative : PlainMark → PlainOutcome
  skipped : (number : ℕ) → PlainMark → PlainOutcome

abbrev pub plain_outcome : Outcome → PlainOutcome
plain_outcome (Committed place m) = committed place (plain_mark m)
plain_outcome (Tentative m) = tentative (plain_mark m)
plain_outcome (Skipped why m) = skipped (number_of why) (plain_mark m)

-- what comes of an item that is refused by a number, or not
abbrev pub outcome_of : PlainItem → Option ℕ → PlainOutcome
outcome_of (settled place e) None = committed place e.mark
outcome_of (settled place e) (Some number) = skipped number e.mark
outcome_of (waiting w) None = tentative w.entry.mark
outcome_of (waiting w) (Some number) = skipped number w.entry.mark

-- and of one after another
abbrev pub outcomes_of : List PlainItem → Kept → List PlainOutcome
outcomes_of [] k = []
outcomes_of (w ∷ ws) k = outcome_of w (refusal_of w (state_in k)) ∷ outcomes_of ws (takes w k)

-- whatever the bytes are: those that are no letter change nothing
abbrev pub take_bytes : List ℕ → Kept → Kept
take_bytes bs k = items_taken (items_of (read_letter bs)) k

-- what is told of a letter: whether it was kept out whole, how many entries were kept out, and what came of the others
abbrev pub is_damaged : Heard → Bool
is_damaged damaged = true
is_damaged (heard place cs ws out) = false

abbrev pub kept_out : Heard → ℕ
kept_out damaged = 0
kept_out (heard place cs ws out) = out

-- how many were kept out, or that all was
abbrev pub told_out : Heard → Option ℕ
told_out h = cond (is_damaged h) None (Some (kept_out h))

abbrev pub Reports : Report → Heard → Kept → Type 0
Reports p h k = (p.rejected ≡ told_out h) × (map plain_outcome (vec_items p.outcomes) ≡ outcomes_of (items_of h) k)

-- the letter that a replica writes for one who says to have so many committed entries and these stamps
abbrev pub letter_for : ℕ → List ℕ → State → PlainLetter
letter_for count has s =
    record {
      place = cond (length (parcel_for count has s).committed == 0) 0 count;
      committed = (parcel_for count has s).committed;
      tentative = (parcel_for count has s).tentative;
    }
