-- What a line does at a hut is calls of the network.
use Rattle.std.proofs.Common.{◌≡◌, ℕ, ◌<◌, true, nat_lt, ◌⊎◌, ⊎_elim, None, Some, Option, Ok, Err, Result, MatchResult, OnOk, List, length, sym, refl, ap, ◌∙◌, subst, inl, inr}
use Rattle.std.proofs.lemmas.Bool.{ltb-true}
use Rattle.bookings.specs.Plain.{PlainEntry, PlainKind, book, cancel, change, supply}
use Rattle.console.specs.Checks.{RequestOk}
use Rattle.console.specs.Requests.{asked}
use Rattle.console.specs.declared.request.Request.{Request}
use Rattle.console.specs.declared.vector.RawVector.{RawVector}
use Rattle.console.specs.declared.command.Command.{Command}
use Rattle.console.specs.declared.command.Command.TheVariants as commands
use Rattle.journal.specs.Finding.{FindsOf, FoundOf}
use Rattle.journal.specs.History.{Kept, commits, makes, opened, state_in, synced}
use Rattle.journal.specs.Records.{history_in}
use Rattle.letters.specs.Letters.{encode_letter}
use Rattle.letters.specs.declared.limits.TheConstants.{LETTER_ROOM}
use Rattle.network.proofs.Stages.{put_elsewhere, put_here}
use Rattle.network.proofs.Tests.{T_true, cond_by}
use Rattle.network.specs.Effects.{commits_synced, first_of, synced_if}
use Rattle.network.specs.Mail.{Mail, Call, KindRanged, keeping, posting, reopened, visited, made_for, make, make_unsynced, commit, commit_unsynced, sync, write, hear_nothing, hear_letter, stop, visit, make_for, none, then}
use Rattle.network.specs.Net.{huts, put, served, shown as shown_to}
use Rattle.network.specs.Taking.{letter_for, take_bytes}
use Rattle.network.specs.declared.unplayed.Unplayed.{Unplayed}
use Rattle.network.specs.declared.unplayed.Unplayed.TheVariants.{Memory, Refused, Failed}
use Rattle.replica.specs.Model.{State, make_refusal, serves, slip_after}
use Rattle.desk.specs.Composed.{ForGuest, shown, booked, GuestComposes, SlipTold, Honest, LedOn, LineComposes, LineDone, LineFailed, LineRefused, LineUnwritten}
use Rattle.desk.specs.Replies.{Told, Untold}
use Rattle.desk.specs.Steps.{LineFinds, LineWrites, RestsAs, line_makes, line_refused, takes_typed}
use Rattle.desk.specs.declared.reply.Reply.{Reply}
use Rattle.desk.specs.declared.reply.Reply.TheVariants.{Line}

-- what a line may ask for is in range
ranged : (kind : PlainKind) → RequestOk kind → KindRanged kind
ranged (book g cs) ok = ok
ranged (cancel m) ok = ok
ranged (change m cs) ok = ok
ranged (supply c) ok = ok

module _ (holds : Kept → Type 0) (m : Mail) (i : ℕ) where
  -- one call, and then that holds of what the hut keeps
  led : (k : Kept) (which : Mail → Type 0) → Call m (keeping i k m) → which (keeping i k m) → holds k → LedOn holds i m which
  led k which call is h = (keeping i k m, then none call, λ j. put_elsewhere i j k m.hut, is, subst holds (sym (put_here i i k m.hut refl)) h)

  stays : (which : Mail → Type 0) → which m → holds (m.hut i) → LedOn holds i m which
  stays which is h = (m, none, λ _ _. refl, is, h)

module _ (m : Mail) (i : ℕ) (low : i < huts) where
  -- bytes that come
  hear : (bs : List ℕ) → Honest m commands.Take bs → Call m (keeping i (take_bytes bs (m.hut i)) m)
  hear bs honest =
      ⊎_elim (hear_nothing i bs)
      (λ sent. subst (λ x. Call m (keeping i (take_bytes x (m.hut i)) m)) (sym sent.2) (hear_letter i sent.0 low sent.1)) honest

  module _ (keeps : Kept → Type 0) where
    unwritten : keeps (m.hut i) ⊎ keeps (synced (m.hut i)) → LedOn keeps i m (LineUnwritten i m)
    unwritten = ⊎_elim (stays keeps m i (LineUnwritten i m) (inl refl)) (led keeps m i (synced (m.hut i)) (LineUnwritten i m) (sync i low) (inr refl))

    still : keeps (m.hut i) → LedOn keeps i m (λ n. n ≡ m)
    still = stays keeps m i _ refl

    shows : keeps (synced (m.hut i)) → LedOn keeps i m (λ n. n ≡ keeping i (synced (m.hut i)) m)
    shows = led keeps m i (synced (m.hut i)) _ (sync i low) refl

    -- a line that is refused
    refused : (c : Command) → keeps (line_refused c (m.hut i)) → LedOn keeps i m (LineRefused i c m)
    refused (commands.Make q) = still
    refused commands.Ink = still
    refused (commands.Letter count v) = still
    refused commands.Take = still
    refused commands.Help = still
    refused commands.Pass = still
    refused (commands.Huts hs) = shows
    refused (commands.At h) = shows
    refused commands.Have = shows
    refused (commands.ShowNight h n) = shows
    refused commands.Show = shows
    refused commands.Line = shows
    refused (commands.Got x) = shows
    refused (commands.Serve slip) = shows
    refused (commands.Walk from to) = shows
    refused (commands.Lose from to) = shows
    refused (commands.Again letter to) = shows
    refused (commands.Cut letter to count) = shows
    refused (commands.Stop h count) = shows

    -- what is committed is synced, if there is anything to commit
    commits-call : Call m (keeping i (commits_synced (m.hut i)) m)
    commits-call = either (first_of (m.hut i))
      where
        either : (first : Option PlainEntry) → Call m (keeping i (synced_if first (commits (m.hut i))) m)
        either None = commit_unsynced i low
        either (Some e) = commit i low

    -- a letter that is written
    posts : (count : ℕ) (has page : List ℕ) (s : State) → s ≡ state_in (m.hut i) → page ≡ encode_letter (letter_for count has s) → keeps (synced (m.hut i))
        → LedOn keeps i m (λ n. n ≡ posting i (synced (m.hut i)) page m)
    posts count has page s same is kept =
        let written : page ≡ encode_letter (letter_for count has (state_in (m.hut i))) = is ∙ ap (λ x. encode_letter (letter_for count has x)) same in (
          posting i (synced (m.hut i)) page m,
          then none (subst (λ x. Call m (posting i (synced (m.hut i)) x m)) (sym written) (write i count has low)),
          λ j. put_elsewhere i j (synced (m.hut i)) m.hut,
          refl,
          subst keeps (sym (put_here i i (synced (m.hut i)) m.hut refl)) kept,
        )

    takes : (bs : List ℕ) → Honest m commands.Take bs → keeps (takes_typed bs (m.hut i))
        → LedOn keeps i m (λ n. (n ≡ keeping i (take_bytes bs (m.hut i)) m) ⊎ ((LETTER_ROOM < length bs) × (n ≡ m)))
    takes bs honest =
        cond_by
        (λ (x : Kept). keeps x → LedOn keeps i m (λ n. (n ≡ keeping i (take_bytes bs (m.hut i)) m) ⊎ ((LETTER_ROOM < length bs) × (n ≡ m))))
        (nat_lt LETTER_ROOM (length bs)) (m.hut i) (take_bytes bs (m.hut i))
        (λ t. stays keeps m i _ (inr (ltb-true LETTER_ROOM (length bs) (T_true _ t), refl)))
        (λ _. led keeps m i _ _ (hear bs honest) (inl refl))

    -- a line that is done
    done : (c : Command) (bs page : List ℕ) (s t : State) (r : Reply) → s ≡ state_in (m.hut i) → Honest m c bs → keeps (line_makes c bs (m.hut i)) → Told s t c r → LineWrites page c s
        → LedOn keeps i m (LineDone i c bs page m)
    done (commands.Make q) bs page s t r same honest left told written = led keeps m i _ _ (make i (asked q) low (ranged (asked q) told.0)) refl left
    done commands.Ink bs page s t r same honest left told written = led keeps m i _ _ commits-call refl left
    done (commands.Letter count v) bs page s t r same honest left told written = posts count v.all page s same written left
    done commands.Take bs page s t r same honest left told written = takes bs honest left
    done commands.Pass bs page s t r same honest left told written = stays keeps m i _ refl left
    done commands.Help bs page s t r same honest left told written = stays keeps m i _ refl left
    done (commands.Huts hs) bs page s t r same honest left told written = shows left
    done (commands.At h) bs page s t r same honest left told written = shows left
    done commands.Have bs page s t r same honest left told written = shows left
    done (commands.ShowNight h n) bs page s t r same honest left told written = shows left
    done commands.Show bs page s t r same honest left told written = shows left
    done commands.Line bs page s t r same honest left told written = shows left
    done (commands.Got x) bs page s t r same honest left told written = shows left
    done (commands.Serve slip) bs page s t r same honest left told written = shows left
    done (commands.Walk from to) bs page s t r same honest left told written = shows left
    done (commands.Lose from to) bs page s t r same honest left told written = shows left
    done (commands.Again letter to) bs page s t r same honest left told written = shows left
    done (commands.Cut letter to count) bs page s t r same honest left told written = shows left
    done (commands.Stop h count) bs page s t r same honest left told written = shows left

  -- a line whose journal failed
  module _ (finds : List ℕ → Type 0) where
    idle : (bs : List ℕ) → FindsOf finds (m.hut i) → LedOn (FindsOf finds) i m (λ n. n ≡ m)
    idle bs = stays (FindsOf finds) m i (λ n. n ≡ m) refl

    failed : (c : Command) (bs : List ℕ) → Honest m c bs → LineFinds finds c bs (m.hut i) → LedOn (FindsOf finds) i m (LineFailed i c bs m)
    failed (commands.Make q) bs honest f = led (FindsOf finds) m i _ _ (make_unsynced i (asked q) low (ranged (asked q) f.0)) refl f.1
    failed commands.Ink bs honest f = led (FindsOf finds) m i (commits (m.hut i)) _ (commit_unsynced i low) refl f
    failed commands.Take bs honest f = led (FindsOf finds) m i (take_bytes bs (m.hut i)) _ (hear bs honest) refl f
    failed (commands.Letter count v) bs honest f = idle bs f
    failed commands.Pass bs honest f = idle bs f
    failed commands.Help bs honest f = idle bs f
    failed (commands.Huts hs) bs honest f = idle bs f
    failed (commands.At h) bs honest f = idle bs f
    failed commands.Have bs honest f = idle bs f
    failed (commands.ShowNight h n) bs honest f = idle bs f
    failed commands.Show bs honest f = idle bs f
    failed commands.Line bs honest f = idle bs f
    failed (commands.Got x) bs honest f = idle bs f
    failed (commands.Serve slip) bs honest f = idle bs f
    failed (commands.Walk from to) bs honest f = idle bs f
    failed (commands.Lose from to) bs honest f = idle bs f
    failed (commands.Again letter to) bs honest f = idle bs f
    failed (commands.Cut letter to count) bs honest f = idle bs f
    failed (commands.Stop h count) bs honest f = idle bs f

pub any_ok : {A E : Type 0} (r : Result A E) (P : Type 0) → P → OnOk r P
any_ok (Ok x) P p = p
any_ok (Err e) P p = tt

pub line_composes :
    (keeps : Kept → Type 0) (finds : List ℕ → Type 0) (shut : Type 0) (m : Mail) (i : ℕ) (c : Command) (bs page : List ℕ) (s t : State) (r : Result Reply Unplayed)
    → i < huts → s ≡ state_in (m.hut i) → Honest m c bs → MatchResult r (λ _. keeps (line_makes c bs (m.hut i))) (RestsAs keeps (m.hut i) (line_refused c (m.hut i)) (LineFinds finds c bs (m.hut i)))
    → MatchResult r (Told s t c) (Untold s t shut c) → OnOk r (LineWrites page c s) → LineComposes keeps finds i c bs page m r
line_composes keeps finds shut m i c bs page s t (Ok reply) low same honest left told written = done m i low keeps c bs page s t reply same honest left told written
line_composes keeps finds shut m i c bs page s t (Err Memory) low same honest left told written = unwritten m i low keeps left
line_composes keeps finds shut m i c bs page s t (Err (Refused why)) low same honest left told written = refused m i low keeps c left
line_composes keeps finds shut m i c bs page s t (Err (Failed fault)) low same honest left told written = failed m i low finds c bs honest left

-- a program that is opened again, over what was found
pub reopens :
    (keeps : Kept → Type 0) (m : Mail) (i : ℕ) (found : List ℕ) → i < huts → (m.hut i).hut ≡ i → FoundOf (m.hut i) found → keeps (opened i (history_in i found))
    → LedOn keeps i m (λ n. n ≡ keeping i (reopened found (m.hut i)) m)
reopens keeps m i found low own f kept =
    led keeps m i (reopened found (m.hut i)) _ (stop i found low f) refl (subst (λ h. keeps (opened h (history_in h found))) (sym own) kept)

-- a guest whose slip is shown, and one for whom an entry is made
module _ (keeps : Kept → Type 0) (m : Mail) (g i : ℕ) (low : i < huts) (s t : State) (same : s ≡ state_in (m.hut i)) where
  visits :
      (slip : RawVector) (reply : Reply) → ((k : Kept) → keeps k → t ≡ state_in k) → (m.guest g).slip ≡ slip.all → keeps (synced (m.hut i)) → Told s t (commands.Serve slip) reply
      → LedOn keeps i m (λ n. (n ≡ visited g i m) × SlipTold (commands.Serve slip) reply (n.guest g))
  visits slip reply tell its left (a, is, (fit, serves-it, (v, served-is, noted))) =
      let now : t ≡ state_in (m.hut i) = tell (synced (m.hut i)) left in
      let known : served (m.guest g) (m.hut i) ≡ true = ap (λ x. serves x (state_in (m.hut i))) its ∙ ap (serves slip.all) (sym now) ∙ serves-it in
      let slip-is : slip_after slip.all t ≡ (put g (shown_to (m.guest g) (m.hut i)) m.guest g).slip =
      ap (slip_after slip.all) now ∙ ap (λ x. slip_after x (state_in (m.hut i))) (sym its) ∙ sym (ap (λ x. x.slip) (put_here g g (shown_to (m.guest g) (m.hut i)) m.guest refl)) in (
        visited g i m,
        then none (visit g i low known),
        λ j. put_elsewhere i j (synced (m.hut i)) m.hut,
        (refl, (v, is ∙ ap Line served-is, noted ∙ slip-is)),
        subst keeps (sym (put_here i i (synced (m.hut i)) m.hut refl)) left,
      )

  books :
      (q : Request) (reply : Reply) → served (m.guest g) (m.hut i) ≡ true → keeps (synced (makes (asked q) (m.hut i))) → Told s t (commands.Make q) reply
      → LedOn keeps i m (λ n. (n ≡ made_for g i (asked q) m) × Unit)
  books q reply known left told = (
    made_for g i (asked q) m,
    then none (make_for g i (asked q) low (ranged (asked q) told.0) known (ap (make_refusal (asked q)) (sym same) ∙ told.1)),
    λ j. put_elsewhere i j (synced (makes (asked q) (m.hut i))) m.hut,
    (refl, tt),
    subst keeps (sym (put_here i i (synced (makes (asked q) (m.hut i))) m.hut refl)) left,
  )

pub guest_composes :
    (keeps : Kept → Type 0) (finds : List ℕ → Type 0) (shut : Type 0) (m : Mail) (g i : ℕ) (c : Command) (bs : List ℕ) (s t : State) (r : Result Reply Unplayed)
    → i < huts → s ≡ state_in (m.hut i) → ((k : Kept) → keeps k → t ≡ state_in k) → ForGuest g i m c
    → MatchResult r (λ _. keeps (line_makes c bs (m.hut i))) (RestsAs keeps (m.hut i) (line_refused c (m.hut i)) (LineFinds finds c bs (m.hut i))) → MatchResult r (Told s t c) (Untold s t shut c) → GuestComposes keeps g i c m r
guest_composes keeps finds shut m g i c bs s t (Ok reply) low same tell (shown slip its) left told = visits keeps m g i low s t same slip reply tell its left told
guest_composes keeps finds shut m g i c bs s t (Ok reply) low same tell (booked q known) left told = books keeps m g i low s t same q reply known left told
guest_composes keeps finds shut m g i c bs s t (Err e) low same tell for left told = tt
