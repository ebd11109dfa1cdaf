-- What a call leaves that is not done, and what a line leaves that is done.
use Rattle.std.specs.Prelude.{◌≡◌, ℕ, ◌≤◌, ◌⊎◌, cond, List, map, length, nat_lt, Option}
use Rattle.console.specs.Checks.{RequestOk}
use Rattle.console.specs.Requests.{asked}
use Rattle.console.specs.declared.command.Command.{Command}
use Rattle.console.specs.declared.command.Command.TheVariants as commands
use Rattle.journal.specs.Finding.{FindsOf}
use Rattle.journal.specs.History.{Kept, synced, makes, commits}
use Rattle.journal.specs.Keeping.{Moves, Fails}
use Rattle.journal.specs.declared.keeper.Keeper.{Keeper}
use Rattle.letters.specs.Items.{items_of}
use Rattle.letters.specs.Letters.{encode_letter, read_letter}
use Rattle.letters.specs.declared.limits.TheConstants.{LETTER_ROOM}
use Rattle.network.specs.Effects.{commits_synced}
use Rattle.network.specs.Taking.{letter_for, outcomes_of, plain_outcome, take_bytes, told_out}
use Rattle.network.specs.declared.outcome.Outcome.{Outcome}
use Rattle.network.specs.declared.unplayed.Unplayed.{Unplayed}
use Rattle.network.specs.declared.unplayed.Unplayed.TheVariants.{Memory, Refused, Failed}
use Rattle.replica.specs.Model.{State}

-- what is refused changes nothing; where the journal fails, a stop finds what it may find of this; memory is never wanted
abbrev pub Leaves : {J : Type 0} → (J → List ℕ → ℕ → Type 0) → (J → List ℕ → Type 0) → Keeper J → Keeper J → (Kept → Kept) → Unplayed → Type 0
Leaves keeps finds before after step Memory = ⊥
Leaves keeps finds before after step (Refused why) = Moves keeps before after (λ k. k)
Leaves keeps finds before after step (Failed fault) = Fails keeps finds before after step

-- of what was kept: a refusal makes this of it; for want of memory all is as it was, or synced; and where the journal fails, that holds
abbrev pub RestsAs : (Kept → Type 0) → Kept → (refused : Kept) → (failed : Type 0) → Unplayed → Type 0
RestsAs keeps k refused failed Memory = keeps k ⊎ keeps (synced k)
RestsAs keeps k refused failed (Refused why) = keeps refused
RestsAs keeps k refused failed (Failed fault) = failed

-- what is refused leaves all as it was
abbrev pub Rests : (Kept → Type 0) → Kept → (failed : Type 0) → Unplayed → Type 0
Rests keeps k = RestsAs keeps k k

-- where the journal fails, a stop finds what it may find of what the line was to keep
abbrev pub LineFinds : (List ℕ → Type 0) → Command → (letter : List ℕ) → Kept → Type 0
LineFinds finds (commands.Make q) bs k = RequestOk (asked q) × FindsOf finds (makes (asked q) k)
LineFinds finds commands.Ink bs k = FindsOf finds (commits k)
LineFinds finds commands.Take bs k = FindsOf finds (take_bytes bs k)
LineFinds finds _ bs k = FindsOf finds k

-- a letter that is typed; one with more bytes than any letter may have is not read
abbrev pub takes_typed : List ℕ → Kept → Kept
takes_typed bs k = cond (nat_lt LETTER_ROOM (length bs)) k (take_bytes bs k)

-- what is shown is synced first, also where nothing is shown then but a refusal
abbrev pub shows : Command → Kept → Kept
shows commands.Pass k = k
shows _ k = synced k

-- what a line makes of what was kept, where it is done, and where it is refused
abbrev pub line_makes : Command → (letter : List ℕ) → Kept → Kept
line_makes (commands.Make q) bs k = synced (makes (asked q) k)
line_makes commands.Ink bs k = commits_synced k
line_makes (commands.Letter c v) bs k = synced k
line_makes commands.Take bs k = takes_typed bs k
line_makes commands.Help bs k = k
line_makes c bs k = shows c k

abbrev pub line_refused : Command → Kept → Kept
line_refused (commands.Make q) k = k
line_refused commands.Ink k = k
line_refused (commands.Letter c v) k = k
line_refused commands.Take k = k
line_refused commands.Help k = k
line_refused c k = shows c k

-- what stands on the page: the letter that a line asks for
abbrev pub LineWrites : List ℕ → Command → State → Type 0
LineWrites page (commands.Letter c v) s = page ≡ encode_letter (letter_for c v.all s)
LineWrites page _ s = Unit

-- how many entries of a letter that came were kept out, and what came of the others
abbrev pub LineBrings : Option ℕ → List Outcome → Command → (letter : List ℕ) → Kept → Type 0
LineBrings kept_out came commands.Take bs k =
    length bs ≤ LETTER_ROOM → (kept_out ≡ told_out (read_letter bs)) × (map plain_outcome came ≡ outcomes_of (items_of (read_letter bs)) k)
LineBrings kept_out came _ bs k = Unit
