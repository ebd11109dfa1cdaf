use Rattle.console.proofs.answer.letters.shows.TakingDisplay.fmt.Goals as goal

pub returns-in-Counts-clause-writes : goal.returns-in-Counts-clause-writes
returns-in-Counts-clause-writes g c = rw c.in-Counts.is c.write-in-Counts.ensures.writes
