-- All laws of the network at once.
use Rattle.std.specs.Prelude.{List}
use Rattle.network.specs.Fairness.{FairRunSettles}
use Rattle.network.specs.Lasting.{LastingKnown}
use Rattle.network.specs.Late.{LateLetterBrings}
use Rattle.network.specs.Net.{Event}
use Rattle.network.specs.Promise.{OneOrder, OnePrimary, PrimaryLeads, Final, HandedOnStays, SameLog, OnceEach, BehindKnown, NamedBefore, CancelledHoldsNothing, NoGaps, VectorsSay, KnownStays, KnownWhenWritten, StoodSays, GuestsKeep, SlipsSay, LettersBring, TakenWhole, LettersNeeded, CanAgree}
use Rattle.network.specs.Refinement.{Refines, RunsAreSteps}
use Rattle.network.specs.Rounds.{RoundsBring, SyncedSettles}
use Rattle.network.specs.Sessions.{MonotonicReads, MonotonicWrites, ReadYourWrites, WritesFollowReads}
use Rattle.network.specs.Shown.{CommittedOutcome, FoundStays, ShownStays}
use Rattle.network.specs.Slips.{CoveredStays, ServedStays, BehindCovered, ServesAgain}
use Rattle.network.specs.Walks.{AnyWalksAgree, FairAgree, WalksBring, ZeroKeepsLead}

pub record Promised (es : List Event) : Type 0 where
  pub one_order : OneOrder es
  pub one_primary : OnePrimary es
  pub primary_leads : PrimaryLeads es
  pub final : Final es
  pub handed_on_stays : HandedOnStays es
  pub same_log : SameLog es
  pub once_each : OnceEach es
  pub behind_known : BehindKnown es
  pub named_before : NamedBefore es
  pub cancelled-holds-nothing : CancelledHoldsNothing es
  pub no_gaps : NoGaps es
  pub vectors_say : VectorsSay es
  pub known_stays : KnownStays es
  pub known_when_written : KnownWhenWritten es
  pub stood_says : StoodSays es
  pub guests_keep : GuestsKeep es
  pub slips_say : SlipsSay es
  pub covered_stays : CoveredStays es
  pub served_stays : ServedStays es
  pub serves_again : ServesAgain es
  pub behind_covered : BehindCovered es
  pub letters_bring : LettersBring es
  pub taken-whole : TakenWhole es
  pub letters_needed : LettersNeeded es
  pub can_agree : CanAgree es
  pub refines : Refines es
  pub runs_are_steps : RunsAreSteps es
  pub lasting_known : LastingKnown es
  pub late_letter_brings : LateLetterBrings es
  pub walks_bring : WalksBring es
  pub any_walks_agree : AnyWalksAgree es
  pub fair_agree : FairAgree es
  pub zero_keeps_lead : ZeroKeepsLead es
  pub rounds_bring : RoundsBring es
  pub synced_settles : SyncedSettles es
  pub fair_run_settles : FairRunSettles es
  pub shown_stays : ShownStays es
  pub found_stays : FoundStays es
  pub committed_outcome : CommittedOutcome es
  pub read_your_writes : ReadYourWrites es
  pub monotonic_reads : MonotonicReads es
  pub writes_follow_reads : WritesFollowReads es
  pub monotonic_writes : MonotonicWrites es
