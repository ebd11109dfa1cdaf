-- A hut among the huts of a network: what a line at it comes to there.
use Rattle.std.specs.Prelude.{◌≡◌, ◌≢◌, ℕ, ◌<◌, true, ◌⊎◌, List, [], length, get_or, MatchResult}
use Rattle.std.specs.declared.result.Result.{Result}
use Rattle.console.specs.Requests.{asked}
use Rattle.console.specs.declared.request.Request.{Request}
use Rattle.console.specs.declared.vector.RawVector.{RawVector}
use Rattle.console.specs.declared.answer.Answer.TheVariants as answers
use Rattle.console.specs.declared.command.Command.{Command}
use Rattle.console.specs.declared.command.Command.TheVariants as commands
use Rattle.entry_log.specs.declared.vector.Vector.{Vector}
use Rattle.journal.specs.Finding.{FindsOf, FoundOf}
use Rattle.journal.specs.History.{Kept, synced, makes, commits}
use Rattle.letters.specs.Letters.{damaged, read_letter}
use Rattle.letters.specs.declared.limits.TheConstants.{LETTER_ROOM}
use Rattle.network.specs.Effects.{commits_synced}
use Rattle.network.specs.Mail.{Mail, Agrees, Calls, Runs, keeping, posting, visited, made_for, no_mail}
use Rattle.network.specs.Net.{Event, Guest, huts, put, served}
use Rattle.network.specs.Promised.{Promised}
use Rattle.network.specs.Taking.{take_bytes}
use Rattle.network.specs.declared.unplayed.Unplayed.{Unplayed}
use Rattle.network.specs.declared.unplayed.Unplayed.TheVariants.{Memory, Refused, Failed}
use Rattle.desk.specs.declared.reply.Reply.{Reply}
use Rattle.desk.specs.declared.reply.Reply.TheVariants as replies

-- a letter that is typed is none, or one that some hut wrote; else nothing is promised of the network
abbrev pub Honest : Mail → Command → (letter : List ℕ) → Type 0
Honest m commands.Take bs = (read_letter bs ≡ damaged) ⊎ ((nth : ℕ) × (nth < length m.sent) × (bs ≡ get_or m.sent nth []))
Honest m _ bs = Unit

-- what a line that is done at hut i makes of the network, where the page has such bytes then
abbrev pub LineDone : (i : ℕ) → Command → (letter page : List ℕ) → Mail → Mail → Type 0
LineDone i (commands.Make q) bs page m n = n ≡ keeping i (synced (makes (asked q) (m.hut i))) m
LineDone i commands.Ink bs page m n = n ≡ keeping i (commits_synced (m.hut i)) m
LineDone i (commands.Letter c v) bs page m n = n ≡ posting i (synced (m.hut i)) page m
LineDone i commands.Take bs page m n = (n ≡ keeping i (take_bytes bs (m.hut i)) m) ⊎ ((LETTER_ROOM < length bs) × (n ≡ m))
LineDone i commands.Pass bs page m n = n ≡ m
LineDone i commands.Help bs page m n = n ≡ m
LineDone i _ bs page m n = n ≡ keeping i (synced (m.hut i)) m

-- what one makes of it whose journal failed
abbrev pub LineFailed : (i : ℕ) → Command → (letter : List ℕ) → Mail → Mail → Type 0
LineFailed i (commands.Make q) bs m n = n ≡ keeping i (makes (asked q) (m.hut i)) m
LineFailed i commands.Ink bs m n = n ≡ keeping i (commits (m.hut i)) m
LineFailed i commands.Take bs m n = n ≡ keeping i (take_bytes bs (m.hut i)) m
LineFailed i _ bs m n = n ≡ m

-- one that found no memory: nothing, or a sync
abbrev pub LineUnwritten : (i : ℕ) → Mail → Mail → Type 0
LineUnwritten i m n = (n ≡ m) ⊎ (n ≡ keeping i (synced (m.hut i)) m)

-- and one that was refused: what asks to be shown something is synced first
abbrev pub LineRefused : (i : ℕ) → Command → Mail → Mail → Type 0
LineRefused i (commands.Make q) m n = n ≡ m
LineRefused i commands.Ink m n = n ≡ m
LineRefused i (commands.Letter c v) m n = n ≡ m
LineRefused i commands.Take m n = n ≡ m
LineRefused i commands.Help m n = n ≡ m
LineRefused i commands.Pass m n = n ≡ m
LineRefused i _ m n = n ≡ keeping i (synced (m.hut i)) m

-- calls at hut i alone lead there from a network, and that holds of what it keeps then
abbrev pub LedOn : (Kept → Type 0) → (i : ℕ) → Mail → (Mail → Type 0) → Type 0
LedOn holds i m which = (n : Mail) × Calls m n × ((j : ℕ) → j ≢ i → n.hut j ≡ m.hut j) × which n × holds (n.hut i)

-- THEOREM: whatever the network is before a line at hut i, calls lead to what the line makes of it, and the hut is in step with that; or, where its journal
-- failed, a stop finds what it may find of that
abbrev pub LineComposes : (keeps : Kept → Type 0) → (finds : List ℕ → Type 0) → (i : ℕ) → Command → (letter page : List ℕ) → Mail → Result Reply Unplayed → Type 0
LineComposes keeps finds i c bs page m r =
    MatchResult r (λ _. LedOn keeps i m (LineDone i c bs page m))
    (λ e. elim e [
      | Memory ↦ LedOn keeps i m (LineUnwritten i m)
      | Refused why ↦ LedOn keeps i m (LineRefused i c m)
      | Failed fault ↦ LedOn (FindsOf finds) i m (LineFailed i c bs m)
    ])

-- THE PROGRAMS OF ALL HUTS

-- one that has not begun yet, that goes on, or that has ended, since it was stopped or its journal failed
pub data Program (D : Type 0) : Type 0 where
  not_begun : Program D
  goes : D → Program D
  ended : D → Program D

-- what it says of what is kept at its hut: no bytes are found of that; it is in step with that; or a stop finds what it may find of that
abbrev pub says : {D : Type 0} → (D → Kept → Type 0) → (D → List ℕ → Type 0) → Program D → Kept → Type 0
says keeps finds not_begun k = FoundOf k []
says keeps finds (goes d) k = keeps d k
says keeps finds (ended d) k = FindsOf (finds d) k

-- a network that calls led to from empty replicas on, and the programs of its huts
abbrev pub Together : {D : Type 0} → (D → Kept → Type 0) → (D → List ℕ → Type 0) → (ℕ → Program D) → Mail → Type 0
Together keeps finds programs m = Runs m × ((i : ℕ) → i < huts → says keeps finds (programs i) (m.hut i))

-- LAW: before any program has begun, they are together with the network in which nothing was done.
abbrev pub BeginTogether : {D : Type 0} → (D → Kept → Type 0) → (D → List ℕ → Type 0) → Type 0
BeginTogether keeps finds = Together keeps finds (λ _. not_begun) no_mail

-- LAW: programs that are together stay together when calls at one hut lead on and its program says so, and all laws of the network hold then.
abbrev pub StayTogether : {D : Type 0} → (D → Kept → Type 0) → (D → List ℕ → Type 0) → Type 0
StayTogether {D} keeps finds =
    (programs : ℕ → Program D) (m : Mail) → Together keeps finds programs m
    → (i : ℕ) (now : Program D) (n : Mail) → Calls m n → ((j : ℕ) → j ≢ i → n.hut j ≡ m.hut j) → says keeps finds now (n.hut i)
    → Together keeps finds (put i now programs) n × ((es : List Event) × Agrees n es × Promised es)

-- GUESTS

-- a line is for a guest: its slip is shown, or an entry is to be made where the guest is served
pub data ForGuest (g i : ℕ) (m : Mail) : Command → Type 0 where
  shown : (slip : RawVector) → (m.guest g).slip ≡ slip.all → ForGuest g i m (commands.Serve slip)
  booked : (q : Request) → served (m.guest g) (m.hut i) ≡ true → ForGuest g i m (commands.Make q)

-- what it makes of the network
abbrev pub guest_line : (g i : ℕ) → Command → Mail → Mail
guest_line g i (commands.Serve slip) m = visited g i m
guest_line g i (commands.Make q) m = made_for g i (asked q) m
guest_line g i _ m = m

-- a guest that is served is told its slip
abbrev pub SlipTold : Command → Reply → Guest → Type 0
SlipTold (commands.Serve slip) r x = (v : Vector) × (r ≡ replies.Line (answers.Served v)) × (v.stamps ≡ x.slip)
SlipTold _ r x = Unit

-- THEOREM: a line that is done for a guest is a call of the guest
abbrev pub GuestComposes : (keeps : Kept → Type 0) → (g i : ℕ) → Command → Mail → Result Reply Unplayed → Type 0
GuestComposes keeps g i c m r =
    MatchResult r (λ reply. LedOn keeps i m (λ n. (n ≡ guest_line g i c m) × SlipTold c reply (n.guest g))) (λ _. Unit)
