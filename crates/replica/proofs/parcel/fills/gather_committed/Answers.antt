use Rattle.std.proofs.Common.{◌≡◌, ◌+◌, ◌-◌, true, ◌++◌, length, take, drop, is_ok, ap, ◌∙◌, arith, length-take}
use Rattle.std.proofs.lemmas.Bool.{cond-true}
use Rattle.replica.proofs.Filling.{part_is}
use Rattle.replica.proofs.parcel.fills.gather_committed.Goals as goal

pub returns : goal.returns
returns c =
    let start = c.min-start.result in
    let part = take ((start + c.min.result) - start) (drop start c.args.entries.now) in
    let short = length-take ((start + c.min.result) - start) (drop start c.args.entries.now) in
    let none = c.args.out.now.ok.0 ∙ ap length c.requires.empty in
    let fits : is_ok c.extend_from_slice.result ≡ true = c.extend_from_slice.ensures.succeeds (omega (arith, c.min.ensures, c.requires.room)) in
    record {
      items =
          c.extend_from_slice.ensures.items ∙ cond-true (is_ok c.extend_from_slice.result) _ _ fits ∙ ap (λ l. l ++ part) c.requires.empty
          ∙ part_is c.args.entries.now c.args.from start c.min.result c.min-start.ensures c.min.ensures;
      capacity = c.extend_from_slice.ensures.capacity;
    }
