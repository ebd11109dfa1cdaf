-- Whatever comes between: what a hut says, the letter that is written for it, and its coming.
use Rattle.std.proofs.Common.{◌≡◌, ℕ, ◌+◌, ◌<◌, ◌≤◌, ltb, eqb, List, [], ◌∷◌, ◌++◌, length, Some, None, Option, sym, refl, ap, ◌∙◌, subst, append_assoc, append-nil, arith, lt→ltb}
use mathlib.Core.List.{Memᴰ}
use lib.Dec.{eqb_refl}
use Rattle.std.proofs.Math.Seq.{get_or-append_seam}
use Rattle.bookings.specs.Plain.{PlainEntry}
use Rattle.journal.specs.History.{Kept, PlainRecord, history_of, state_in, synced}
use Rattle.letters.specs.Items.{PlainItem}
use Rattle.replica.specs.Model.{capacity, make_refusal}
use Rattle.network.specs.Items.{Letter, items_taken, words_for}
use Rattle.network.specs.Late.{HasItem, LateLetterBrings, before_letter, late_letter, letter_taken, letter_written, said_by}
use Rattle.network.specs.Net.{Commits, Crashes, Damaged, Event, Makes, MakesFor, Net, Syncs, Takes, TakesBut, Visits, Writes, after, among, huts, run, send, served, step, take_nth, unless_refused, with_hut}
use Rattle.network.specs.Promise.{Always, makings}
use Rattle.network.specs.Replicas.{committed_in, vector_in}
use Rattle.network.proofs.Holds.{Becomes, Holds, Said, durables, histories}
use Rattle.network.proofs.LateWhole.{letter-brought}
use Rattle.network.proofs.Lists.{stands}
use Rattle.network.proofs.Parts.{Older, older_self, older_trans}
use Rattle.network.proofs.Safety.{after_holds, made-few}
use Rattle.network.proofs.Stands.{take_nth_at}
use Rattle.network.proofs.Steps.{run_becomes, step_becomes}
use Rattle.network.proofs.Tests.{cond_by, cond_yes}
use Rattle.network.proofs.Walk.{makings-append}
use Rattle.network.proofs.Whole.{hut_self}

-- letters are only added
abbrev MoreSent : Net → Net → Type 0
MoreSent n m = (more : List Letter) × (m.sent ≡ n.sent ++ more)

none_sent : (n : Net) → MoreSent n n
none_sent n = ([], sym (append-nil n.sent))

among_sent : (n : Net) (i : ℕ) (m : Net) → MoreSent n m → MoreSent n (among i m n)
among_sent n i m s = cond_by (MoreSent n) (ltb i huts) m n (λ _. s) (λ _. none_sent n)

unless_sent : (n : Net) (refusal : Option ℕ) (m : Net) → MoreSent n m
    → MoreSent n (unless_refused refusal n m)
unless_sent n None m s = s
unless_sent n (Some number) m s = none_sent n

step_sent : (e : Event) (n : Net) → MoreSent n (step e n)
step_sent (Makes i kind) n = among_sent n i _ (none_sent n)
step_sent (Commits i) n = among_sent n i _ (none_sent n)
step_sent (Syncs i) n = among_sent n i _ (none_sent n)
step_sent (Writes i count has) n = among_sent n i _ (words_for count has (n.hut i) ∷ [], refl)
step_sent (Takes j nth) n = among_sent n j _ (none_sent n)
step_sent (TakesBut leaves j nth) n = among_sent n j _ (none_sent n)
step_sent (Damaged j) n = none_sent n
step_sent (Crashes i lost) n = among_sent n i _ (none_sent n)
step_sent (Visits g i) n =
    among_sent n i _ (cond_by (MoreSent n) (served (n.guest g) (n.hut i)) _ n (λ _. none_sent n)
    (λ _. none_sent n))
step_sent (MakesFor g i kind) n =
    among_sent n i _ (cond_by (MoreSent n) (served (n.guest g) (n.hut i)) _ n
    (λ _. unless_sent n (make_refusal kind (state_in (n.hut i))) _ (none_sent n))
    (λ _. none_sent n))

run_sent : (es : List Event) (n : Net) → MoreSent n (run es n)
unfolding run
run_sent [] n = none_sent n
run_sent (e ∷ es) n =
    let a = step_sent e n in
    let b = run_sent es (step e n) in
    (a.0 ++ b.0, b.1 ∙ ap (λ (l : List Letter). l ++ b.0) a.1 ∙ append_assoc n.sent a.0 b.0)

-- a letter can be taken at its place
take_nth_there : (ls more : List Letter) (l : Letter) (k : Kept)
    → take_nth (length ls) (ls ++ (l ∷ more)) k ≡ items_taken l k
take_nth_there ls more l k =
    take_nth_at (length ls) (ls ++ (l ∷ more)) k
    ∙ ap (λ (x : Letter). items_taken x k) (get_or-append_seam ls l more [])

-- what a hut has is durable when it has synced
pub durable_said : (n : Net) (j : ℕ) → j < huts
    → Older (histories (step (Syncs j) n) j) (durables (step (Syncs j) n) j)
durable_said n j lt =
    let is : (step (Syncs j) n).hut j ≡ synced (n.hut j) =
    ap (λ (m : Net). m.hut j) (cond_yes (ltb j huts) (with_hut j (synced (n.hut j)) n) n
    (lt→ltb j huts lt)) ∙ hut_self j (synced (n.hut j)) n in
    subst (λ (k : Kept). Older (history_of k) k.durable) (sym is)
    (older_self (history_of (n.hut j)))

-- the letter is written, and all that its writer has is durable
module _ (n : Net) (i count : ℕ) (has : List ℕ) (low : i < huts) where
  written_is : step (Writes i count has) n ≡ send (words_for count has (n.hut i))
      (with_hut i (synced (n.hut i)) n)
  written_is =
      cond_yes (ltb i huts) (send (words_for count has (n.hut i)) (with_hut i (synced (n.hut i)) n))
      n (lt→ltb i huts low)

  durable_written : Older (histories n i) (durables (step (Writes i count has) n) i)
  durable_written =
      subst (λ (rs : List PlainRecord). Older (histories n i) rs)
      (sym (ap (λ (m : Net). (m.hut i).durable) written_is
      ∙ ap (λ (k : Kept). k.durable) (cond_yes (eqb i i) (synced (n.hut i)) (n.hut i)
      (eqb_refl i))))
      (older_self (histories n i))

module _
    {every : List PlainEntry} (n : Net) (I : Holds every n) (between later : List Event) (i j : ℕ)
    (low : i < huts) (lt : j < huts) where
  abbrev pub letter : Letter
  letter = late_letter n between i j

  abbrev pub sent_before : List Letter
  sent_before = (before_letter n between j).sent

  abbrev pub coming : Net
  coming = run later (letter_written n between i j)

  abbrev pub said-holds : Becomes every n (step (Syncs j) n)
  said-holds = step_becomes (Syncs j) n I

  pub first : (made : List PlainEntry) × (length made ≤ length every + makings between)
      × Becomes made (step (Syncs j) n) (before_letter n between j)
  first = run_becomes between (step (Syncs j) n) said-holds.holds

  pub written-holds : Becomes first.0 (before_letter n between j) (letter_written n between i j)
  written-holds =
      step_becomes (Writes i (length (committed_in (said_by n j))) (vector_in (said_by n j)))
      (before_letter n between j) first.2.holds

  pub second : (made : List PlainEntry) × (length made ≤ length first.0 + makings later)
      × Becomes made (letter_written n between i j) coming
  second = run_becomes later (letter_written n between i j) written-holds.holds

  sent-there : (more : List Letter) × (coming.sent ≡ sent_before ++ (letter ∷ more))
  sent-there =
      let a = run_sent later (letter_written n between i j) in
      let is =
      ap (λ (m : Net). m.sent) (written_is (before_letter n between j) i
      (length (committed_in (said_by n j))) (vector_in (said_by n j)) low) in (
        a.0,
        a.1 ∙ ap (λ (l : List Letter). l ++ a.0) is
            ∙ append_assoc sent_before (letter ∷ []) a.0,
      )

  -- what its writer had lasts, and so does what hut j said to have
  pub theirs-last : Older (histories (before_letter n between j) i) (durables coming i)
  theirs-last =
      older_trans (histories (before_letter n between j) i)
      (durables (letter_written n between i j) i) (durables coming i)
      (durable_written (before_letter n between j) i (length (committed_in (said_by n j)))
      (vector_in (said_by n j)) low) (second.2.grows i)

  pub mine-last : Older (history_of (said_by n j)) (durables coming j)
  mine-last =
      older_trans (history_of (said_by n j)) (durables (step (Syncs j) n) j) (durables coming j)
      (durable_said n j lt)
      (older_trans (durables (step (Syncs j) n) j) (durables (before_letter n between j) j)
      (durables coming j) (first.2.grows j)
      (older_trans (durables (before_letter n between j) j)
      (durables (letter_written n between i j) j) (durables coming j) (written-holds.grows j)
      (second.2.grows j)))

  pub letter-said : (w : PlainItem) → Memᴰ w letter → Said (durables coming) w
  letter-said =
      second.2.holds.said letter (subst (λ (ls : List Letter). Memᴰ letter ls) (sym sent-there.1)
      (stands letter sent_before sent-there.0))

  pub few-made : length every + (makings between + makings later) < capacity
      → length second.0 < capacity
  few-made few = omega (arith, few, second.1, first.1)

  -- the letter is taken
  pub taken_is : (letter_taken n between later i j).hut j ≡ items_taken letter (coming.hut j)
  taken_is =
      let x = take_nth (length sent_before) coming.sent (coming.hut j) in
      ap (λ (m : Net). m.hut j) (cond_yes (ltb j huts) (with_hut j x coming) coming
      (lt→ltb j huts lt)) ∙ hut_self j x coming
      ∙ ap (λ (ls : List Letter). take_nth (length sent_before) ls (coming.hut j)) sent-there.1
      ∙ take_nth_there sent_before sent-there.0 letter (coming.hut j)

  late-brings :
      length every + (makings between + makings later) < capacity → (w : PlainItem) → Memᴰ w letter
      → HasItem ((letter_taken n between later i j).hut j) w
  late-brings few w m =
      subst (λ (k : Kept). HasItem k w) (sym taken_is)
      (letter-brought coming second.2.holds (few-made few) i j ((before_letter n between j).hut i)
      theirs-last (history_of (said_by n j)) mine-last letter-said w m)

pub late_letter_brings : Always LateLetterBrings
late_letter_brings es between later few i j low lt w m =
    late-brings (after es) (after_holds es) between later i j low lt
    (omega (
      arith,
      few,
      made-few es,
      makings-append es (between ++ later),
      makings-append between later,
    )) w m
