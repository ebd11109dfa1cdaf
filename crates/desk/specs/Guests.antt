-- What a line is for a guest of the network's model, which keeps more than its slip.
use Rattle.std.specs.Prelude.{◌≡◌, true, false, MatchResult}
use Rattle.std.specs.declared.result.Result.{Result}
use Rattle.console.specs.Checks.{StampsFit}
use Rattle.console.specs.declared.answer.Answer.TheVariants as answers
use Rattle.console.specs.declared.command.Command.{Command}
use Rattle.console.specs.declared.command.Command.TheVariants as commands
use Rattle.entry_log.specs.declared.vector.Vector.{Vector}
use Rattle.journal.specs.History.{Kept}
use Rattle.network.specs.Net.{Guest, served, shown}
use Rattle.network.specs.declared.unplayed.Unplayed.{Unplayed}
use Rattle.network.specs.declared.unplayed.Unplayed.TheVariants.{Memory, Refused, Failed}
use Rattle.desk.specs.declared.reply.Reply.{Reply}
use Rattle.desk.specs.declared.reply.Reply.TheVariants as replies

-- the slip that is told is the one that the guest carries once it has been shown what is kept
abbrev pub Carries : Reply → Guest → Kept → Type 0
Carries r g k = (v : Vector) × (r ≡ replies.Line (answers.Served v)) × (v.stamps ≡ (shown g k).slip)

-- a guest whose slip is in range is served just where the model serves it
abbrev pub LineServes : Command → Result Reply Unplayed → Guest → Kept → Type 0
LineServes (commands.Serve slip) r g k =
    g.slip ≡ slip.all
    → MatchResult r (λ d. (served g k ≡ true) × Carries d g k) (λ e. elim e [ Memory ↦ ⊥ | Refused w ↦ StampsFit slip.all → served g k ≡ false | Failed f ↦ Unit ])
LineServes _ r g k = Unit
