-- When a request is in range, and what comes of it.
use Rattle.std.specs.Prelude.{◌≡◌, ℕ, ◌^◌, ◌<◌, List, length, Ok, Err, Result, slice_index}
use Rattle.bookings.specs.declared.entry.Kind.{Kind}
use Rattle.bookings.specs.declared.refusal.Refusal.{Refusal}
use Rattle.bookings.specs.Plain.{PlainKind, book, cancel, change, supply, plain_kind}
use Rattle.bookings.specs.Ranges.{KindOk}
use Rattle.bookings.specs.Refusals.{number_of}

-- guests and stamps have 32 bits
abbrev pub Fits32 : ℕ → Type 0
Fits32 n = n < 2 ^ 32

abbrev pub StampsFit : List ℕ → Type 0
StampsFit ns = (i : ℕ) → i < length ns → Fits32 (slice_index ns i)

abbrev pub NumbersFit : PlainKind → Type 0
NumbersFit (book g cs) = Fits32 g
NumbersFit (cancel m) = Fits32 m.stamp
NumbersFit (change m cs) = Fits32 m.stamp
NumbersFit (supply c) = Unit {0}

abbrev pub RequestOk : PlainKind → Type 0
RequestOk k = KindOk k × NumbersFit k

-- refused by 2, just where it is out of range
abbrev pub OutOfRange : Refusal → Type 0 → Type 0
OutOfRange e Ok? = (number_of e ≡ 2) × (Ok? → ⊥)

abbrev pub Checked : Result Kind Refusal → PlainKind → Type 0
Checked (Ok k) asked = RequestOk asked × (plain_kind k ≡ asked)
Checked (Err e) asked = OutOfRange e (RequestOk asked)
