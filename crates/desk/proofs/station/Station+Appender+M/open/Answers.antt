use Rattle.std.proofs.Common.{◌≡◌, ◌≤◌, true, false, length, sym, subst}
use Rattle.journal.proofs.Finding.{durable_found}
use Rattle.journal.specs.History.{opened}
use Rattle.journal.specs.Keeping.{Keeps, state_by}
use Rattle.journal.specs.Phases.{is_shut, is_synced}
use Rattle.journal.specs.Records.{bytes_of, history_in}
use Rattle.network.proofs.Mailed.{all_stand}
use Rattle.desk.proofs.Composing.{reopens}
use Rattle.desk.proofs.station.Station+Appender+M.open.Goals as goal

pub returns-clause-network : goal.returns-clause-network
returns-clause-network g c = λ m runs found holds.
    let i = c.args.hut in
    let bytes = c.args.found.now in
    let own = all_stand m runs i in
    let keeper = c.in_ok-station.station.keeper in
    let journal = keeper.journal in
    let least = subst (λ h. length (bytes_of (m.hut i).durable) ≤ length (bytes_of (history_in h bytes))) own.0 (durable_found (m.hut i) bytes own.1 found) in
    let keeps = c.in_ok-opened.ensures.kept in
    reopens
    (λ k. Keeps (λ bs n. (is_shut journal.phase ≡ false) × g.M.Medium.holds journal.medium bs n × (is_synced journal.phase ≡ true → n ≡ length bs)) (state_by keeper) k) m i bytes keeps.0 own.0 found
    (subst
    (λ q. Keeps (λ bs n. (is_shut q.journal.phase ≡ false) × g.M.Medium.holds q.journal.medium bs n × (is_synced q.journal.phase ≡ true → n ≡ length bs)) (state_by q) (opened i (history_in i bytes)))
    (sym c.in_ok-station.ensures.0) (keeps.2 (length (bytes_of (m.hut i).durable)) least holds))
