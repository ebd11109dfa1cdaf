-- The letter that values of the code make.
use Rattle.std.specs.Prelude.{ℕ, ◌+◌, cond, List, map, length, ◌==◌}
use Rattle.bookings.specs.declared.entry.Entry.{Entry}
use Rattle.bookings.specs.Plain.{plain}
use Rattle.entry_log.specs.declared.waiting.Waiting.{Waiting}
use Rattle.entry_log.specs.Waits.{plain_waiting}
use Rattle.letters.specs.Letters.{PlainLetter}

-- how many entries
abbrev pub many : List Entry → List Waiting → ℕ
many es ws = length es + length ws

abbrev pub plain_letter : ℕ → List Entry → List Waiting → PlainLetter
plain_letter place es ws = record { place = place; committed = map plain es; tentative = map plain_waiting ws }

-- the place is 0 where no entry is committed
abbrev pub letter_of : ℕ → List Entry → List Waiting → PlainLetter
letter_of place es ws = plain_letter (cond (length es == 0) 0 place) es ws
