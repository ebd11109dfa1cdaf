use Rattle.std.proofs.Common.{◌-◌, ◌<◌, ◌≤◌, [], ◌++◌, map, length, take, vec_items, sym, refl, ap, ◌∙◌, arith}
use lib.ListN.{length-map}
use Rattle.std.proofs.lemmas.List.{append-nil}
use Rattle.bookings.specs.Plain.{plain}
use Rattle.entry_log.proofs.Views.{entry_there}
use Rattle.entry_log.specs.Vectors.{vector_of}
use Rattle.replica.proofs.Filling.{front_more, gather_step, gather_end}
use Rattle.replica.proofs.Making.{vector_push}
use Rattle.replica.specs.Parcels.{missing}
use Rattle.entry_log.specs.Waits.{plain_waiting}
use Rattle.replica.proofs.parcel.fills.gather_tentative.Goals as goal

pub loop-entry-init : goal.loop-entry-init
loop-entry-init c =
    let before = map plain c.args.before.now in
    let none = ap (map plain_waiting) c.requires.empty in (
      ap (λ ws. ws ++ take (c.args.room - length ws) (missing c.args.has.now.stamps (before ++ []) (map plain c.args.entries.now))) none
          ∙ ap (λ n. take n (missing c.args.has.now.stamps (before ++ []) (map plain c.args.entries.now))) (omega arith)
          ∙ ap (λ l. take c.args.room (missing c.args.has.now.stamps l (map plain c.args.entries.now))) (append-nil before),
      c.vector_of-stood.ensures ∙ ap vector_of (sym (append-nil before)),
      refl,
    )

pub offer-requires : goal.offer-requires
offer-requires c = omega (arith, c.requires.room, c.loop-entry.invariant.2)

pub loop-entry-preserved : goal.loop-entry-preserved
loop-entry-preserved c =
    let before = map plain c.args.before.now in
    let xs = map plain c.args.entries.now in
    let i = c.loop-entry.entry-index in
    let e = c.entry-item.result in
    let there : i < length c.args.entries.now = omega arith in
    let within : i < length xs = simp length-map there in
    let is = sym (entry_there c.args.entries.now i e (plain e) there c.entry-item.is) in
    let has = c.args.has.now.stamps in
    let grown = ap vector_of (front_more has c.args.room before xs i (plain e) within is) ∙ vector_push (before ++ take i xs) (plain e) e.mark.hut_ok in (
      gather_step has c.args.room before xs i (plain e) _ (map plain_waiting (vec_items c.loop-entry.out)) _ _ within is c.loop-entry.invariant.1 c.offer.ensures.items c.loop-entry.invariant.0,
      cc,
      c.offer.ensures.capacity ∙ c.loop-entry.invariant.2,
    )

pub returns : goal.returns
returns c =
    let xs = map plain c.args.entries.now in
    let past : length xs ≤ c.loop-entry.entry-index = simp length-map (omega arith) in
    record {
      items = gather_end c.args.has.now.stamps c.args.room (map plain c.args.before.now) xs c.loop-entry.entry-index (map plain_waiting (vec_items c.loop-entry.out)) _ past c.loop-entry.invariant.0;
      capacity = c.loop-entry.invariant.2;
    }
