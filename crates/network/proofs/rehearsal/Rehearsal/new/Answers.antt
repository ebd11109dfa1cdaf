use Rattle.std.proofs.Common.{◌<◌, ◌≤◌, get_or, length, map, vec_capacity, vec_items, refl, sym, ap, subst, ◌∙◌, arith, rules, below_more}
use Rattle.std.proofs.lemmas.List.{take_all}
use Rattle.std.proofs.lemmas.Result.{err_from_is_err_and}
use Rattle.journal.specs.History.{empty}
use Rattle.journal.specs.Keeping.{InStep, InMemory, most_bytes, state_by}
use Rattle.replica.specs.Model.{State, fresh}
use Rattle.network.specs.Casts.{Absent}
use Rattle.network.specs.Stages.{Hut}
use Rattle.network.specs.declared.stage.Stage.{Stage}
use Rattle.network.proofs.Huts.{can_join, joined_states, joined_differs, joined_each, starts_at, still_unopened}
use Rattle.network.proofs.Reached.{begun_followed, begun_reached}
use Rattle.network.proofs.rehearsal.Rehearsal.new.Goals as goal

pub returns-in_err-keeper : goal.returns-in_err-keeper
returns-in_err-keeper c =
    let p = err_from_is_err_and c.from_residual-in_err-keeper.result c.from_residual-in_err-keeper.ensures.1 in
    rw (p.1, p.2)
    (still_unopened c.in_err-keeper.field-0.0 _ _
    (λ fine. can_join c.args.huts.now c.loop-hut.hut-index c.as_slice.result.now (ap (map (λ (q : Hut). state_by q)) c.as_slice.ensures.value ∙ c.loop-hut.invariant.0) (omega (arith, c.loop-hut-test.true)) fine c.loop-hut-test.true)
    c.in_err-keeper.ensures)

pub loop-hut-preserved : goal.loop-hut-preserved
loop-hut-preserved c =
    let hs = c.args.huts.now in
    let n = c.loop-hut.hut-index in
    let qs = vec_items c.loop-hut.keepers in
    let p = c.in_ok-keeper.keeper in
    let inv = c.loop-hut.invariant in
    let few : n ≤ length hs = omega (arith, c.loop-hut-test.true) in
    let joined = c.in_ok-keeper.ensures in
    let absent = subst (Absent (get_or hs n 0)) c.as_slice.ensures.value joined.1 in (
      joined_states hs n qs inv.0 few _ p c.loop-hut-test.true c.push_reserved.ensures.items joined.2.state,
      omega (arith, c.push_reserved.ensures.len, inv.1),
      omega (arith, c.push_reserved.ensures.capacity, inv.2),
      below_more _ _ inv.3 joined.0,
      joined_differs hs n qs inv.0 few absent inv.4,
      joined_each hs n qs inv.0 few (λ q. InStep InMemory q (empty (state_by q).hut)) _ p c.push_reserved.ensures.items
          (subst (λ (x : State). InStep InMemory p (empty x.hut)) (sym joined.2.state) joined.2) inv.5,
      joined_each hs n qs inv.0 few (λ q. most_bytes < vec_capacity q.journal.medium.held) _ p c.push_reserved.ensures.items joined.3 inv.6,
    )

pub returns : goal.returns
returns c =
    let hs = c.args.huts.now in
    let n = c.loop-hut.hut-index in
    let inv = c.loop-hut.invariant in
    let end : length hs ≤ n = c.loop-hut-test.false in (
      (
        search rules,
        search rules,
        λ i within. inv.3 i (omega arith),
        λ i j before within same. inv.4 i j before (omega arith) same,
      ),
      inv.0 ∙ ap (map fresh) (take_all n hs end),
      starts_at hs n _ end inv.0 c.new-3.ensures.items inv.3 inv.4 inv.5 inv.6,
      refl,
    )

pub invariant_of-result-2 : goal.invariant_of-result-2
invariant_of-result-2 c =
    let inv = c.loop-hut.invariant in
    let s : Stage = record { keepers = c.loop-hut.keepers; letters = c.new-3.result; page = c.in_ok-page.page; parcel = c.in_ok-parcel.parcel; report = c.in_ok-report.report; room = _ } in
    let stands = starts_at c.args.huts.now c.loop-hut.hut-index s c.loop-hut-test.false inv.0 c.new-3.ensures.items inv.3 inv.4 inv.5 inv.6 in
    record { followed = begun_followed s stands; reached = λ honest. begun_reached s stands }
