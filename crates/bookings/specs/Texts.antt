-- What a mark and a refusal are printed as.
use Rattle.std.specs.Prelude.{ℕ, List, ◌++◌, codes, decimal}
use Rattle.bookings.specs.declared.entry.Mark.{Mark}
use Rattle.bookings.specs.declared.refusal.Refusal.{Refusal}
use Rattle.bookings.specs.declared.refusal.Refusal.TheVariants.{Damaged, OutOfRange, Known, NotNext, Gap, NotPrimary, SlipAhead, Full, Unknown}

-- the stamp and the hut
abbrev pub mark_text : Mark → List ℕ
mark_text m = decimal m.stamp ++ (codes " " ++ decimal m.hut)

abbrev pub reason_text : Refusal → List ℕ
reason_text Damaged = codes "the letter is damaged"
reason_text OutOfRange = codes "out of range"
reason_text Known = codes "known already"
reason_text NotNext = codes "not the next place in ink"
reason_text Gap = codes "what stood before it is not known"
reason_text NotPrimary = codes "this hut does not ink"
reason_text SlipAhead = codes "the slip knows more than this hut"
reason_text Full = codes "no room for more"
reason_text Unknown = codes "no such entry is known"
