-- The entries of a letter, one after another.
use Rattle.std.specs.Prelude.{ℕ, suc, List, [], ◌∷◌, ◌++◌, map}
use Rattle.bookings.specs.Plain.{PlainEntry, plain}
use Rattle.entry_log.specs.Waits.{PlainWaiting, plain_waiting}
use Rattle.letters.specs.Answers.{Answer}
use Rattle.letters.specs.Format.{read_two, reads}
use Rattle.letters.specs.Letters.{Heard, damaged, heard, number, read_tentative, read_waiting}
use Rattle.letters.specs.Rows.{front}
use Rattle.letters.specs.declared.letter.Item.{Item}
use Rattle.letters.specs.declared.letter.Item.TheVariants.{Committed, Tentative}
use Rattle.letters.specs.declared.letter.Letter.{Letter}
use Rattle.letters.specs.declared.letter.Unread.{Unread}

-- a committed entry with its place, from 0; or a tentative one with the vector of what stood before it
pub data PlainItem : Type 0 where
  settled : (place : ℕ) → PlainEntry → PlainItem
  waiting : PlainWaiting → PlainItem

abbrev pub plain_item : Item → PlainItem
plain_item (Committed place e) = settled place (plain e)
plain_item (Tentative w) = waiting (plain_waiting w)

-- committed entries at their places, which count on
abbrev pub placed_from : ℕ → List PlainEntry → List PlainItem
placed_from p [] = []
placed_from p (e ∷ es) = settled p e ∷ placed_from (suc p) es

abbrev pub items_of : Heard → List PlainItem
items_of damaged = []
items_of (heard place cs ws out) = placed_from place cs ++ map waiting ws

-- the values that are not given out yet
abbrev pub unread : {A : Type 0} → (List ℕ → Answer A) → Unread → List A
unread read u = front read u.count u.reader.rest.now

-- what a letter that was opened still has
abbrev pub heard_of : Letter → Heard
heard_of l = heard l.place (unread reads l.committed) (unread read_waiting l.tentative) l.out

-- what a letter comes to, of which no entry is given out yet, and whose tentative entries are still to be looked through
abbrev pub heard_on : Letter → List ℕ → Heard
heard_on l bs = number (read_two bs) (read_tentative l.committed.count l.place (unread reads l.committed))

abbrev pub committed_left : Letter → List PlainItem
committed_left l = placed_from l.place (unread reads l.committed)

abbrev pub tentative_left : Letter → List PlainItem
tentative_left l = map waiting (unread read_waiting l.tentative)

abbrev pub left : Letter → List PlainItem
left l = items_of (heard_of l)
