use Rattle.std.proofs.Common.{◌≡◌, ◌-◌, map, length, take, drop, vec_items, vec_len, sym, refl, ap, ◌∙◌, arith, length-take}
use Rattle.entry_log.specs.declared.waiting.TheConstants.{MAX_LETTER_ENTRIES}
use lib.ListN.{length-map}
use Rattle.std.proofs.lemmas.List.{take-map, drop-map}
use Rattle.bookings.specs.Plain.{plain}
use Rattle.entry_log.specs.Waits.{plain_waiting}
use Rattle.replica.specs.Parcels.{missing, parcel_of}
use Rattle.replica.proofs.parcel.Parcel.fill.Goals as goal

pub overflow_sub-room : goal.overflow_sub-room
overflow_sub-room c =
    omega (arith, c.len-room.ensures, c.gather_committed.new.out.ok.0, ap length c.gather_committed.ensures.items, length-take MAX_LETTER_ENTRIES (drop c.args.from c.args.committed.now))

pub returns : goal.returns
unfolding parcel_of
returns c =
    let cs = map plain c.args.committed.now in
    let front : map plain (take MAX_LETTER_ENTRIES (drop c.args.from c.args.committed.now)) ≡ take MAX_LETTER_ENTRIES (drop c.args.from cs) =
    sym (take-map plain MAX_LETTER_ENTRIES (drop c.args.from c.args.committed.now)) ∙ ap (take MAX_LETTER_ENTRIES) (sym (drop-map plain c.args.from c.args.committed.now)) in
    let settled = ap (map plain) c.gather_committed.ensures.items ∙ front in
    let count : vec_len c.gather_committed.new.out ≡ length (take MAX_LETTER_ENTRIES (drop c.args.from cs)) =
    c.gather_committed.new.out.ok.0 ∙ ap length c.gather_committed.ensures.items ∙ sym (length-map (take MAX_LETTER_ENTRIES (drop c.args.from c.args.committed.now)) plain) ∙ ap length front in
    let rest : map plain_waiting (vec_items c.gather_tentative.new.out) ≡ take (MAX_LETTER_ENTRIES - length (take MAX_LETTER_ENTRIES (drop c.args.from cs))) (missing c.args.has.now.stamps cs (map plain c.args.tentative.now)) = cc in
    rw (settled, rest) refl
