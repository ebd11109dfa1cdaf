-- What the programs of all huts do, each over its own journal, is a run of the network.
use Rattle.std.proofs.Common.{◌≡◌, ℕ, ◌<◌, ◌==◌, true, cond, List, [], ◌∷◌, ◌++◌, length, get_or, None, length-append, append_assoc, append-nil, sym, refl, ap, subst, ◌∙◌, inl, inr, arith}
use Rattle.std.proofs.lemmas.Bool.{cases_lt}
use Rattle.std.proofs.lemmas.List.{get_or_append_left, get_or_push}
use Rattle.bookings.specs.Plain.{PlainKind}
use Rattle.journal.specs.History.{Kept, synced, makes, commits, crashed, opened, state_in}
use Rattle.journal.proofs.Finding.{opens_after_stop_lem}
use Rattle.journal.specs.Finding.{FoundOf}
use Rattle.journal.specs.Records.{Stands}
use Rattle.letters.specs.Items.{items_of}
use Rattle.letters.specs.Laws.{LetterOk}
use Rattle.letters.specs.Letters.{damaged, encode_letter, read_letter}
use Rattle.replica.specs.Model.{entry_made, make_refusal}
use Rattle.network.specs.Items.{Letter, items_taken, words_for}
use Rattle.network.specs.Mail.{Mail, no_mail, keeping, posting, meeting, visited, made_for, reopened, Call, make, make_unsynced, commit, commit_unsynced, sync, write, hear_nothing, hear_letter, stop, visit, make_for, Calls, none, then, Runs, Agrees, AllStand, KindRanged, Mailed, Standing}
use Rattle.network.specs.Net.{Event, Syncs, Writes, Takes, Crashes, Visits, MakesFor, Guest, Net, after, gives, huts, makes_for, put, run, served, shown, unless_refused, with_guest, with_hut}
use Rattle.network.specs.Stands.{Means}
use Rattle.network.specs.Taking.{letter_for, take_bytes}
use Rattle.network.proofs.Lawful.{hands_on_letters}
use Rattle.network.proofs.Leading.{put_all}
use Rattle.network.proofs.Promises.{promised}
use Rattle.network.proofs.Safety.{after_holds}
use Rattle.network.proofs.Stages.{put_same}
use Rattle.network.proofs.Standing.{commits_stand, crash_stands, letter_stands, makes_stand}
use Rattle.network.proofs.Stands.{after_make, after_made, after_commit, after_committed, after_sync, after_write, after_take, after_crash, among_yes, means_take, take_nth_at, words_are}
use Rattle.network.proofs.Tests.{cond_yes, true_T}
use Rattle.network.proofs.Walk.{after_one}

-- a guest is shown what a hut knows, or has an entry made there
after_visit :
    (es : List Event) (g i : ℕ) → i < huts → served ((after es).guest g) ((after es).hut i) ≡ true
    → after (es ++ Visits g i ∷ []) ≡ with_guest g (shown ((after es).guest g) ((after es).hut i)) (with_hut i (synced ((after es).hut i)) (after es))
after_visit es g i low t = after_one es (Visits g i) ∙ among_yes i _ _ low ∙ cond_yes (served ((after es).guest g) ((after es).hut i)) _ _ (true_T _ t)

after_gift :
    (es : List Event) (g i : ℕ) (kind : PlainKind) → i < huts → served ((after es).guest g) ((after es).hut i) ≡ true
    → make_refusal kind (state_in ((after es).hut i)) ≡ None
    → after (es ++ MakesFor g i kind ∷ [])
    ≡ with_guest g (gives ((after es).guest g) (entry_made kind (state_in ((after es).hut i)))) (with_hut i (synced (makes kind ((after es).hut i))) (after es))
after_gift es g i kind low t free =
    after_one es (MakesFor g i kind)
    ∙ among_yes i (makes_for g i kind n) n low
    ∙ cond_yes (served (n.guest g) (n.hut i)) (unless_refused (make_refusal kind (state_in (n.hut i))) n there) n (true_T (served (n.guest g) (n.hut i)) t)
    ∙ ap (λ o. unless_refused o n there) free
  where
    n : Net
    n = after es

    there : Net
    there = with_guest g (gives (n.guest g) (entry_made kind (state_in (n.hut i)))) (with_hut i (synced (makes kind (n.hut i))) n)

module _ (m : Mail) (es : List Event) (agrees : Agrees m es) where
  same_put : (i : ℕ) (step : Kept → Kept) (h : ℕ) → put i (step (m.hut i)) m.hut h ≡ put i (step ((after es).hut i)) (after es).hut h
  same_put i step h = ap (λ k. cond (h == i) (step k) (m.hut h)) (agrees.kept i) ∙ ap (cond (h == i) (step ((after es).hut i))) (agrees.kept h)

  -- one hut goes on by a step, and no letter is written
  on : (i : ℕ) (more : List Event) (step : Kept → Kept) → after (es ++ more) ≡ with_hut i (step ((after es).hut i)) (after es) → Agrees (keeping i (step (m.hut i)) m) (es ++ more)
  on i more step is =
      record {
        kept = λ h. same_put i step h ∙ ap (λ (n : Net). n.hut h) (sym is);
        as_many = rw is agrees.as_many;
        letters = λ n within. rw is (agrees.letters n within);
        guests = λ g. agrees.guests g ∙ ap (λ (n : Net). n.guest g) (sym is);
      }

  -- and a guest with it
  meets :
      (g i : ℕ) (x y : Guest) (more : List Event) (step : Kept → Kept) → x ≡ y → after (es ++ more) ≡ with_guest g y (with_hut i (step ((after es).hut i)) (after es))
      → Agrees (meeting g x i (step (m.hut i)) m) (es ++ more)
  meets g i x y more step same is =
      record {
        kept = λ h. same_put i step h ∙ ap (λ (n : Net). n.hut h) (sym is);
        as_many = rw is agrees.as_many;
        letters = λ n within. rw is (agrees.letters n within);
        guests = λ a. ap (λ z. cond (a == g) z (m.guest a)) same ∙ ap (cond (a == g) y) (agrees.guests a) ∙ ap (λ (n : Net). n.guest a) (sym is);
      }

  -- what a hut says to a guest, the hut of the network says
  module _ {A : Type 0} (f : Guest → Kept → A) (g i : ℕ) where
    alike : f (m.guest g) (m.hut i) ≡ f ((after es).guest g) ((after es).hut i)
    alike = ap (λ x. f x (m.hut i)) (agrees.guests g) ∙ ap (f ((after es).guest g)) (agrees.kept i)

  pub visits : (g i : ℕ) → i < huts → served (m.guest g) (m.hut i) ≡ true → Agrees (visited g i m) (es ++ Visits g i ∷ [])
  visits g i low t = meets g i _ _ (Visits g i ∷ []) synced (alike shown g i) (after_visit es g i low (sym (alike served g i) ∙ t))

  makes-for :
      (g i : ℕ) (kind : PlainKind) → i < huts → served (m.guest g) (m.hut i) ≡ true → make_refusal kind (state_in (m.hut i)) ≡ None
      → Agrees (made_for g i kind m) (es ++ MakesFor g i kind ∷ [])
  makes-for g i kind low t free =
      meets g i _ _ (MakesFor g i kind ∷ []) (λ k. synced (makes kind k)) (alike (λ x k. gives x (entry_made kind (state_in k))) g i)
      (after_gift es g i kind low (sym (alike served g i) ∙ t) (ap (λ k. make_refusal kind (state_in k)) (sym (agrees.kept i)) ∙ free))

  still : (i : ℕ) (k : Kept) → k ≡ m.hut i → Agrees (keeping i k m) (es ++ [])
  still i k same =
      subst (Agrees (keeping i k m)) (sym (append-nil es))
      (record {
        kept = λ h. ap (λ x. cond (h == i) x (m.hut h)) same ∙ sym (put_same i m.hut h) ∙ agrees.kept h;
        as_many = agrees.as_many;
        letters = agrees.letters;
        guests = agrees.guests;
      })

  module _ (i count : ℕ) (has : List ℕ) (low : i < huts) (ok : LetterOk (letter_for count has (state_in (m.hut i)))) where
    abbrev page : List ℕ
    page = encode_letter (letter_for count has (state_in (m.hut i)))

    abbrev words : Letter
    words = words_for count has ((after es).hut i)

    means : Means page words
    means = subst (λ (k : Kept). Means page (words_for count has k)) (agrees.kept i) (letter_for count has (state_in (m.hut i)), ok, refl, words_are count has (m.hut i))

    last : (j : ℕ) → j < length (m.sent ++ page ∷ []) → Means (get_or (m.sent ++ page ∷ []) j []) (get_or ((after es).sent ++ words ∷ []) j [])
    last j inside = elim (cases_lt j (length m.sent)) [
      | inl before ↦ rw (get_or_append_left m.sent (page ∷ []) [] j before, get_or_append_left (after es).sent (words ∷ []) [] j (omega (arith, before, agrees.as_many))) (agrees.letters j before)
      | inr behind ↦
          let end : length m.sent ≡ j = omega (arith, behind, inside, length-append m.sent (page ∷ [])) in
          rw (get_or_push m.sent page [] j end, get_or_push (after es).sent words [] j (sym agrees.as_many ∙ end)) means
    ]

    posted : Agrees (posting i (synced (m.hut i)) page m) (es ++ Writes i count has ∷ [])
    posted =
        let is = after_write es i low count has in
        record {
          kept = λ h. same_put i synced h ∙ ap (λ (n : Net). n.hut h) (sym is);
          as_many = rw is (omega (arith, agrees.as_many, length-append m.sent (page ∷ []), length-append (after es).sent (words ∷ [])));
          letters = rw is last;
          guests = λ g. agrees.guests g ∙ ap (λ (n : Net). n.guest g) (sym is);
        }

  heard_nothing : (j : ℕ) (bs : List ℕ) → read_letter bs ≡ damaged → Agrees (keeping j (take_bytes bs (m.hut j)) m) (es ++ [])
  unfolding items_taken
  heard_nothing j bs nothing = still j (take_bytes bs (m.hut j)) (ap (λ h. items_taken (items_of h) (m.hut j)) nothing)

  heard : (j nth : ℕ) → j < huts → nth < length m.sent → Agrees (keeping j (take_bytes (get_or m.sent nth []) (m.hut j)) m) (es ++ Takes j nth ∷ [])
  heard j nth low within =
      on j (Takes j nth ∷ []) (take_bytes (get_or m.sent nth []))
      (after_take es j low nth
      ∙ ap (λ k. with_hut j k (after es)) (take_nth_at nth (after es).sent ((after es).hut j) ∙ sym (means_take (get_or m.sent nth []) (get_or (after es).sent nth []) (agrees.letters nth within) ((after es).hut j))))

  stopped :
      (i : ℕ) (found : List ℕ) → i < huts → Standing (m.hut i) → FoundOf (m.hut i) found
      → (more : List Event) × Agrees (keeping i (reopened found (m.hut i)) m) (es ++ more) × Standing (reopened found (m.hut i))
  stopped i found low ok f =
      let o = opens_after_stop_lem (m.hut i) found ok f in (
        Crashes i o.0 ∷ Syncs i ∷ [],
        subst (λ (k : Kept). Agrees (keeping i k m) (es ++ Crashes i o.0 ∷ Syncs i ∷ [])) (sym (ap (opened (m.hut i).hut) o.1))
            (on i (Crashes i o.0 ∷ Syncs i ∷ []) (λ k. synced (crashed o.0 k)) (after_crash es i low o.0)),
        subst (Stands (m.hut i).hut) (sym o.1) (crash_stands o.0 (m.hut i) ok),
      )

-- some events come to what the programs did, and each record can stand where it stands
pub record Agreed (m : Mail) (es : List Event) : Type 0 where
  pub agrees : Agrees m es
  pub standing : (h : ℕ) → Standing (m.hut h)

module _ (m : Mail) (es : List Event) (a : Agreed m es) where
  -- one hut has another history now
  put_standing : (i : ℕ) (k : Kept) → Standing k → (h : ℕ) → Standing (put i k m.hut h)
  put_standing i k ok = put_all (λ h x. Standing x) i k m.hut ok a.standing

  pub visits_stand : (g i h : ℕ) → Standing ((visited g i m).hut h)
  visits_stand g i = put_standing i (synced (m.hut i)) (a.standing i)

  goes : (i : ℕ) (k : Kept) (more : List Event) → Standing k → Agrees (keeping i k m) (es ++ more) → (now : List Event) × Agreed (keeping i k m) (es ++ now)
  goes i k more ok agrees = (more, record { agrees = agrees; standing = put_standing i k ok })

  low_own : (i : ℕ) → i < huts → (m.hut i).hut < huts
  low_own i low = omega (arith, low, ap (λ (k : Kept). k.hut) (a.agrees.kept i), (after_holds es).own i)

  makes_ok : (i : ℕ) (kind : PlainKind) → i < huts → KindRanged kind → Standing (makes kind (m.hut i))
  makes_ok i kind low ranged = makes_stand kind (m.hut i) (low_own i low) ranged (a.standing i)

  heard_ok : (j nth : ℕ) → nth < length m.sent → Standing (take_bytes (get_or m.sent nth []) (m.hut j))
  heard_ok j nth within =
      let means = a.agrees.letters nth within in
      subst Standing (sym (means_take (get_or m.sent nth []) _ means (m.hut j) ∙ ap (λ l. items_taken l (m.hut j)) means.3)) (letter_stands means.0 (m.hut j) means.1 (a.standing j))

  nothing_ok : (j : ℕ) (bs : List ℕ) → read_letter bs ≡ damaged → Standing (take_bytes bs (m.hut j))
  unfolding items_taken
  nothing_ok j bs nothing = subst Standing (sym (ap (λ h. items_taken (items_of h) (m.hut j)) nothing)) (a.standing j)

-- each call is some events of the network
called : (m n : Mail) → Call m n → (es : List Event) → Agreed m es → (more : List Event) × Agreed n (es ++ more)
called m n (make i kind low ranged) es a =
    goes m es a i _ _ (makes_ok m es a i kind low ranged) (on m es a.agrees i _ (λ k. synced (makes kind k)) (after_make es i low kind))
called m n (make_unsynced i kind low ranged) es a = goes m es a i _ _ (makes_ok m es a i kind low ranged) (on m es a.agrees i _ (makes kind) (after_made es i low kind))
called m n (commit i low) es a = goes m es a i _ _ (commits_stand (m.hut i) (a.standing i)) (on m es a.agrees i _ (λ k. synced (commits k)) (after_committed es i low))
called m n (commit_unsynced i low) es a = goes m es a i _ _ (commits_stand (m.hut i) (a.standing i)) (on m es a.agrees i _ commits (after_commit es i low))
called m n (sync i low) es a = goes m es a i _ _ (a.standing i) (on m es a.agrees i _ synced (after_sync es i low))
called m n (write i count has low) es a = (
  _,
  record {
    agrees = posted m es a.agrees i count has low (hands_on_letters (m.hut i) (a.standing i) count has);
    standing = put_standing m es a i (synced (m.hut i)) (a.standing i);
  },
)
called m n (hear_nothing j bs nothing) es a = goes m es a j _ _ (nothing_ok m es a j bs nothing) (heard_nothing m es a.agrees j bs nothing)
called m n (hear_letter j nth low within) es a = goes m es a j _ _ (heard_ok m es a j nth within) (heard m es a.agrees j nth low within)
called m n (stop i found low f) es a = let s = stopped m es a.agrees i found low (a.standing i) f in goes m es a i _ s.0 s.2 s.1
called m n (visit g i low t) es a = (_, record { agrees = visits m es a.agrees g i low t; standing = visits_stand m es a g i })
called m n (make_for g i kind low ranged t free) es a = (
  _,
  record {
    agrees = makes-for m es a.agrees g i kind low t free;
    standing = put_standing m es a i (synced (makes kind (m.hut i))) (makes_ok m es a i kind low ranged);
  },
)

-- and so are calls one after another
pub calls_on : (m n : Mail) → Calls m n → (es : List Event) → Agreed m es → (more : List Event) × Agreed n (es ++ more)
calls_on m n none es a = ([], subst (Agreed m) (sym (append-nil es)) a)
calls_on m n (then cs c) es a =
    let w = calls_on m _ cs es a in
    let v = called _ n c (es ++ w.0) w.1 in
    (w.0 ++ v.0, subst (Agreed n) (append_assoc es w.0 v.0) v.1)

pub calls_after : {m n o : Mail} → Calls m n → Calls n o → Calls m o
calls_after before none = before
calls_after before (then cs c) = then (calls_after before cs) c

begins : Agreed no_mail []
unfolding run
begins =
    record {
      agrees = record { kept = λ h. refl; as_many = refl; letters = λ n within. absurd (omega (arith, within)); guests = λ g. refl };
      standing = λ h. tt;
    }

pub run_of : (m : Mail) → Runs m → (es : List Event) × Agreed m es
run_of m r = calls_on no_mail m r [] begins

pub mailed : Mailed
mailed m r = let w = run_of m r in (w.0, w.1.agrees, promised w.0)

pub all_stand : AllStand
all_stand m r i =
    let w = run_of m r in
    (ap (λ (k : Kept). k.hut) (w.1.agrees.kept i) ∙ (after_holds w.0).own i, w.1.standing i)
