use Rattle.std.proofs.Common.{[], ◌∷◌, ◌++◌, map, take, sym, ap, ◌∙◌, arith}
use Rattle.std.proofs.lemmas.List.{map_more, take_all}
use Rattle.bookings.specs.Plain.{plain, plain_mark}
use Rattle.entry_log.proofs.Stamps.{vector_none}
use Rattle.entry_log.specs.Vectors.{vector_of, noted}
use Rattle.replica.proofs.Making.{vector_push}
use Rattle.replica.proofs.parcel.fills.vector_of.Goals as goal

pub loop-entry-init : goal.loop-entry-init
loop-entry-init c = c.zero-vector.ensures ∙ vector_none

pub loop-entry-preserved : goal.loop-entry-preserved
loop-entry-preserved c =
    let es = c.args.entries.now in
    let i = c.loop-entry.entry-index in
    let e = c.entry-item.result in
    c.note.ensures ∙ ap (noted (plain_mark e.mark)) c.loop-entry.invariant ∙ sym (vector_push (map plain (take i es)) (plain e) e.mark.hut_ok)
    ∙ ap vector_of (sym (map_more plain es i e (omega arith) ∙ ap (λ x. map plain (take i es) ++ plain x ∷ []) (sym c.entry-item.is)))

pub returns : goal.returns
returns c = c.loop-entry.invariant ∙ ap (λ l. vector_of (map plain l)) (take_all c.loop-entry.entry-index c.args.entries.now (omega arith))
