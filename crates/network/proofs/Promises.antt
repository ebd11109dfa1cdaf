-- All laws at once, from each.
use Rattle.network.specs.Promise.{Always}
use Rattle.network.specs.Promised.{Promised}
use Rattle.network.proofs.Agree.{can_agree}
use Rattle.network.proofs.Exchange.{letters_needed}
use Rattle.network.proofs.Fair.{fair_agree, zero_keeps_lead}
use Rattle.network.proofs.FairRuns.{fair_run_settles}
use Rattle.network.proofs.Handed.{handed_on_stays}
use Rattle.network.proofs.Refining.{refines, runs_are_steps}
use Rattle.network.proofs.Lasting.{lasting_known}
use Rattle.network.proofs.LateRuns.{late_letter_brings}
use Rattle.network.proofs.Rounds.{rounds_bring}
use Rattle.network.proofs.Safety.{behind_known, cancelled-holds-nothing, final, guests_keep, known_stays, known_when_written, named_before, no_gaps, once_each, one_order, one_primary, primary_leads, slips_say, stood_says, vectors_say}
use Rattle.network.proofs.Same.{same_log}
use Rattle.network.proofs.Settling.{synced_settles}
use Rattle.network.proofs.Sessions.{monotonic_reads, monotonic_writes, read_your_writes, writes_follow_reads}
use Rattle.network.proofs.Shown.{committed_outcome, found_stays, shown_stays}
use Rattle.network.proofs.Slipping.{behind_covered, covered_stays, served_stays, serves_again}
use Rattle.network.proofs.WalksAgree.{any_walks_agree}
use Rattle.network.proofs.WalksBring.{walks_bring}
use Rattle.network.proofs.Whole.{letters_bring, taken-whole}

pub promised : Always Promised
promised es =
    record {
      one_order = one_order es;
      one_primary = one_primary es;
      primary_leads = primary_leads es;
      final = final es;
      handed_on_stays = handed_on_stays es;
      same_log = same_log es;
      once_each = once_each es;
      behind_known = behind_known es;
      named_before = named_before es;
      cancelled-holds-nothing = cancelled-holds-nothing es;
      no_gaps = no_gaps es;
      vectors_say = vectors_say es;
      known_stays = known_stays es;
      known_when_written = known_when_written es;
      stood_says = stood_says es;
      guests_keep = guests_keep es;
      slips_say = slips_say es;
      covered_stays = covered_stays es;
      served_stays = served_stays es;
      serves_again = serves_again es;
      behind_covered = behind_covered es;
      letters_bring = letters_bring es;
      taken-whole = taken-whole es;
      letters_needed = letters_needed es;
      can_agree = can_agree es;
      refines = refines es;
      runs_are_steps = runs_are_steps es;
      lasting_known = lasting_known es;
      late_letter_brings = late_letter_brings es;
      walks_bring = walks_bring es;
      any_walks_agree = any_walks_agree es;
      fair_agree = fair_agree es;
      zero_keeps_lead = zero_keeps_lead es;
      rounds_bring = rounds_bring es;
      synced_settles = synced_settles es;
      fair_run_settles = fair_run_settles es;
      shown_stays = shown_stays es;
      found_stays = found_stays es;
      committed_outcome = committed_outcome es;
      read_your_writes = read_your_writes es;
      monotonic_reads = monotonic_reads es;
      writes_follow_reads = writes_follow_reads es;
      monotonic_writes = monotonic_writes es;
    }
