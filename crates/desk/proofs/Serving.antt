-- A guest is served as the model serves it.
use Rattle.std.proofs.Common.{◌≡◌, Ok, sym, ap, ◌∙◌}
use Rattle.console.specs.declared.command.Command.{Command}
use Rattle.console.specs.declared.command.Command.TheVariants as commands
use Rattle.journal.specs.History.{Kept, state_in}
use Rattle.network.specs.Net.{Guest}
use Rattle.replica.specs.Model.{State, serves, slip_after}
use Rattle.desk.specs.Guests.{LineServes}
use Rattle.desk.specs.Replies.{Shown}
use Rattle.desk.specs.declared.reply.Reply.{Reply}
use Rattle.desk.specs.declared.reply.Reply.TheVariants as replies

pub serves_done : (s : State) (k : Kept) (g : Guest) (c : Command) (d : Reply) → s ≡ state_in k → Shown s c d → LineServes c (Ok d) g k
serves_done s k g (commands.Serve slip) d is (a, line, (fit, does, (v, answer, stamps))) = λ same. (
  ap (λ x. serves x (state_in k)) same ∙ ap (serves slip.all) (sym is) ∙ does,
  (v, line ∙ ap replies.Line answer, stamps ∙ ap (slip_after slip.all) is ∙ ap (λ x. slip_after x (state_in k)) (sym same)),
)
serves_done s k g _ d is shown = tt
