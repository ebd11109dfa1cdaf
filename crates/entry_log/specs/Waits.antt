-- Tentative entries on their way, as plain numbers and lists.
use Rattle.std.specs.Prelude.{ℕ, List}
use Rattle.bookings.specs.Plain.{PlainEntry, plain}
use Rattle.entry_log.specs.declared.waiting.Waiting.{Waiting}

-- a tentative entry, with the vector of what stood before it
pub record PlainWaiting : Type 0 where
  pub entry : PlainEntry
  pub stood : List ℕ

abbrev pub plain_waiting : Waiting → PlainWaiting
plain_waiting w = record { entry = plain w.entry; stood = w.stood.stamps }
