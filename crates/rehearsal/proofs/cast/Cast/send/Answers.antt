use Rattle.std.proofs.Common.{◌≡◌, ◌++◌, ◌∷◌, ◌∙◌, ◌⊎◌, [], ℕ, List, length, ap, refl, rules, subst}
use Rattle.std.proofs.lemmas.Option.{MatchOption-at_some}
use Rattle.std.proofs.lemmas.Result.{err_from_is_err_and}
use Rattle.entry_log.specs.Logs.{all_of}
use Rattle.entry_log.specs.Vectors.{vector_of}
use Rattle.network.proofs.Reached.{reached_promises}
use Rattle.network.specs.Net.{Event, Syncs, Writes}
use Rattle.network.specs.Stages.{huts_of, hut_at}
use Rattle.network.specs.Stands.{Stands}
use Rattle.replica.specs.Model.{State}
use Rattle.rehearsal.specs.Carrying.{PlacedAt}
use Rattle.rehearsal.proofs.Sending.{not_sent, sent_for, shows_synced, unsent}
use Rattle.rehearsal.proofs.cast.Cast.send.Goals as goal

pub returns-in_err-sender-clause-promised : goal.returns-in_err-sender-clause-promised
returns-in_err-sender-clause-promised c = λ honest. reached_promises c.args.self.now.rehearsal.stage (c.args.self.now.rehearsal.reached honest)

pub returns-in_err-receiver-clause-promised : goal.returns-in_err-receiver-clause-promised
returns-in_err-receiver-clause-promised c = λ honest. reached_promises c.args.self.now.rehearsal.stage (c.args.self.now.rehearsal.reached honest)

pub returns-in_err-reserve-clause-promised : goal.returns-in_err-reserve-clause-promised
returns-in_err-reserve-clause-promised c = λ honest. reached_promises c.args.self.now.rehearsal.stage (c.args.self.now.rehearsal.reached honest)

pub returns-in_err-replica-clause-answer : goal.returns-in_err-replica-clause-answer
returns-in_err-replica-clause-answer c =
    let synced = c.in_ok-play.ensures.clean refl in
    search (rules, shows_synced, synced)

pub returns-in_err-letter-clause-unsent : goal.returns-in_err-letter-clause-unsent
returns-in_err-letter-clause-unsent c = λ es stands.
    let t = c.play.new.self.stage in
    let first = c.in_ok-play.ensures.steps es (search rules) stands in
    let second = c.in_err-letter.ensures.steps (es ++ first.0) (search rules) first.1 in
    let synced = first.2 ∙ ap (λ (h : ℕ). Syncs h ∷ []) c.in_ok-receiver.ensures.1 in
    let sender : hut_at (huts_of t) c.in_ok-sender.sender ≡ c.args.from = c.in_ok-play.ensures.places c.in_ok-sender.sender ∙ c.in_ok-sender.ensures.1 in
    let left = subst (λ (h : ℕ). (second.0 ≡ []) ⊎ (second.0 ≡ Syncs h ∷ [])) sender (not_sent (hut_at (huts_of t) c.in_ok-sender.sender) c.summary-has.result _ second.0 second.2) in
    let stays = unsent c.play-2.new.self.stage es first.0 second.0 c.args.from c.args.to synced left second.1 in
    rw (err_from_is_err_and c.from_residual-in_err-letter.result c.from_residual-in_err-letter.ensures.1).1 stays

pub returns-in-Written-clause-steps : goal.returns-in-Written-clause-steps
returns-in-Written-clause-steps c = λ es stands.
    let s = c.play.new.self.stage in
    let t = c.play-2.new.self.stage in
    let first = c.in_ok-play.ensures.steps es (search rules) stands in
    let synced = first.2 ∙ ap (λ (h : ℕ). Syncs h ∷ []) c.in_ok-receiver.ensures.1 in
    let begun = es ++ Syncs c.args.to ∷ [] in
    let on = subst (λ (more : List Event). Stands s (es ++ more)) synced first.1 in
    let second = c.in_ok-letter.ensures.steps begun (search rules) on in
    let sender : hut_at (huts_of s) c.in_ok-sender.sender ≡ c.args.from = c.in_ok-play.ensures.places c.in_ok-sender.sender ∙ c.in_ok-sender.ensures.1 in
    let has = c.summary-has.result in
    let wrote = second.2 ∙ ap (λ (h : ℕ). Writes h has.committed has.vector.stamps ∷ []) sender in
    let there : PlacedAt (huts_of s) c.args.to c.in_ok-receiver.receiver = (search rules, c.in_ok-play.ensures.places c.in_ok-receiver.receiver ∙ c.in_ok-receiver.ensures.1) in
    let shown = MatchOption-at_some _ _ _ c.in_ok-replica.ensures.ok_part c.shown.ensures in
    sent_for s t es c.args.from c.args.to c.in_ok-receiver.receiver has on there
    (c.summary-has.ensures.committed ∙ ap (λ (x : State). length x.log.committed) shown.0)
    (c.summary-has.ensures.vector ∙ ap (λ (x : State). vector_of (all_of x.log)) shown.0)
    (subst (λ (more : List Event). Stands t (begun ++ more)) wrote second.1)
