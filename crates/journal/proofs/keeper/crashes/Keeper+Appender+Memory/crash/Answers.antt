use Rattle.std.proofs.Common.{◌≡◌, ◌-◌, ◌<◌, true, length, is_ok, Ok, Err, vec_capacity, Result, sym, ap, ◌∙◌, subst, arith, MatchResult}
use Rattle.std.proofs.lemmas.Bool.{false≢true}
use Rattle.replica.specs.Model.{State}
use Rattle.replica.specs.Views.{state_of}
use Rattle.journal.specs.Keeping.{left_by}
use Rattle.journal.specs.History.{state_with}
use Rattle.journal.specs.Records.{bytes_of, history_in, Replayed}
use Rattle.journal.proofs.Crashing.{lost_by, synced-within, crash_keeps}
use Rattle.journal.proofs.keeper.crashes.Keeper+Appender+Memory.crash.Goals as goal
use Rattle.journal.proofs.keeper.crashes.Keeper+Appender+Memory.crash.Goals.{After-restart}

succeeds : {T E A : Type 0} (B : Type 0) (r : Result T E) → is_ok r ≡ true → MatchResult r (λ _. A) (λ _. B) → A
succeeds B (Ok x) ok h = h
succeeds B (Err e) ok h = absurd (false≢true ok)

module _ (c : After-restart) where
  is : c.bytes-found.result.now ≡ left_by c.args.kept c.args.self.now.journal.medium
  is = c.bytes-found.ensures ∙ c.crash.ensures.held

  replayed : Replayed c.args.self.now.replica.head.hut c.bytes-found.result.now c.replay_all-whole.result (state_of c.replay_all-whole.new.replica)
  replayed =
      subst (λ h. Replayed h c.bytes-found.result.now c.replay_all-whole.result (state_of c.replay_all-whole.new.replica)) (ap (λ (x : State). x.hut) c.forget.ensures)
      c.replay_all-whole.ensures

  opens : 0 < vec_capacity c.args.self.now.journal.medium.held → is_ok c.restart.result ≡ true
  opens room = c.restart.ensures.sure (omega (arith, room, c.crash.ensures.room))

pub returns : goal.returns
returns c =
    let at = (goal.at.returns c).After-restart in
    let j = c.args.self.now.journal in
    let s = state_of c.args.self.now.replica in
    record {
      kept = λ k in_step room.
          let within = synced-within j s k c.args.kept in_step c.bytes-found.result.now c.replay_all-whole.result _ (replayed at) (is at) in
          let held = c.restart.ensures.holds c.bytes-found.result.now j.medium.settled (opens at room) within (sym c.bytes-found.ensures, c.crash.ensures.settled) in (
            lost_by j s k c.args.kept in_step,
            crash_keeps j s k c.args.kept in_step c.bytes-found.result.now c.replay_all-whole.result _ (replayed at) (is at) c.restart.new.self
                (succeeds _ c.restart.result (opens at room) c.restart.ensures.open) held.0 held.1,
          );
      state = (replayed at).state ∙ ap (λ bs. state_with s.hut (history_in s.hut bs)) (is at);
      cut = ap (λ n. length c.bytes-found.result.now - n) (replayed at).len ∙ ap (λ bs. length bs - length (bytes_of (history_in s.hut bs))) (is at);
      room = omega (arith, c.crash.ensures.room, c.restart.ensures.room);
    }
