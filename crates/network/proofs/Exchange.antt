-- Letters one after another: each brings the next items of all that is lacking.
use Rattle.std.proofs.Common.{◌≡◌, ℕ, zero, suc, ◌+◌, ◌*◌, ◌<◌, eqb, ltb, List, [], ◌∷◌, ◌++◌, length, drop, sym, refl, ap, ◌∙◌, subst, inl, inr, arith, eqb→eq, lt→ltb}
use Rattle.std.proofs.lemmas.List.{drop_all, drop-drop}
use Rattle.bookings.specs.Plain.{PlainEntry}
use Rattle.entry_log.specs.declared.waiting.TheConstants.{MAX_LETTER_ENTRIES}
use Rattle.journal.specs.History.{Kept, history_of, synced}
use Rattle.replica.specs.Model.{capacity}
use Rattle.network.specs.Items.{Letter, items_taken}
use Rattle.network.specs.Net.{Net, Takes, Writes, after, huts, send, step, take_nth, with_hut}
use Rattle.network.specs.Promise.{Always, Caught, LettersNeeded, exchange, exchanges, lacking, letter_to}
use Rattle.network.specs.Replicas.{committed_in, vector_in}
use Rattle.network.proofs.Holds.{Becomes, Holds, becomes_trans}
use Rattle.network.proofs.Lacking.{lacking_by}
use Rattle.network.proofs.Lists.{front_not_nil}
use Rattle.network.proofs.Next.{next}
use Rattle.network.proofs.Safety.{after_holds, entries_made}
use Rattle.network.proofs.Steps.{step_becomes}
use Rattle.network.proofs.Tests.{Apart, apart_turned, by_same, cond_by, cond_yes}
use Rattle.network.proofs.Whole.{hut_other, hut_self, lacks_none, letter-whole, made_fewer}

-- the last letter can be taken
take_nth_last : (ls : List Letter) (l : Letter) (k : Kept) → take_nth (length ls) (ls ++ (l ∷ [])) k ≡ items_taken l k
unfolding take_nth
take_nth_last [] l k = refl
take_nth_last (x ∷ ls) l k = take_nth_last ls l k

module _ (n : Net) (i j : ℕ) (low : i < huts) (lt : j < huts) where
  -- the letter is written
  abbrev posted : Net
  posted = send (letter_to n i j) (with_hut i (synced (n.hut i)) n)

  exchange_is : exchange n i j ≡ with_hut j (items_taken (letter_to n i j) (posted.hut j)) posted
  exchange_is =
      ap (step (Takes j (length n.sent))) (cond_yes (ltb i huts) posted n (lt→ltb i huts low))
      ∙ cond_yes (ltb j huts) (with_hut j (take_nth (length n.sent) posted.sent (posted.hut j)) posted) posted (lt→ltb j huts lt)
      ∙ ap (λ (k : Kept). with_hut j k posted) (take_nth_last n.sent (letter_to n i j) (posted.hut j))

  -- who reads has taken the letter, and nobody else has written a record
  pub exchange_reader : Apart j i → (exchange n i j).hut j ≡ items_taken (letter_to n i j) (n.hut j)
  exchange_reader apart =
      ap (λ (m : Net). m.hut j) exchange_is ∙ hut_self j (items_taken (letter_to n i j) (posted.hut j)) posted ∙ ap (items_taken (letter_to n i j)) (hut_other j i (synced (n.hut i)) n apart)

  pub exchange_others : (x : ℕ) → Apart x j → history_of ((exchange n i j).hut x) ≡ history_of (n.hut x)
  exchange_others x other =
      ap (λ (m : Net). history_of (m.hut x)) exchange_is ∙ ap history_of (hut_other x j (items_taken (letter_to n i j) (posted.hut j)) posted other) ∙ synced-same
    where
      synced-same : history_of ((with_hut i (synced (n.hut i)) n).hut x) ≡ history_of (n.hut x)
      synced-same =
          cond_by (λ (k : Kept). history_of k ≡ history_of (n.hut x)) (eqb x i) (synced (n.hut i)) (n.hut x) (λ t. ap (λ (y : ℕ). history_of (n.hut y)) (sym (eqb→eq x i t))) (λ _. refl)

pub exchange_becomes : {every : List PlainEntry} (n : Net) → Holds every n → (i j : ℕ) → Becomes every n (exchange n i j)
exchange_becomes n I i j =
    let e = Writes i (length (committed_in (n.hut j))) (vector_in (n.hut j)) in
    let a = step_becomes e n I in
    becomes_trans n (step e n) (exchange n i j) a (step_becomes (Takes j (length n.sent)) (step e n) a.holds)

module _ (i j : ℕ) (low : i < huts) (lt : j < huts) where
  -- one letter
  pub exchange-left :
      {every : List PlainEntry} (n : Net) → Holds every n → length every < capacity → Apart i j → lacking (exchange n i j) i j ≡ drop MAX_LETTER_ENTRIES (lacking n i j)
  exchange-left n I few apart =
      lacking_by ((exchange n i j).hut i) (n.hut i) ((exchange n i j).hut j) (items_taken (letter_to n i j) (n.hut j)) (exchange_others n i j low lt i apart)
      (ap history_of (exchange_reader n i j low lt (apart_turned i j apart)))
      ∙ (letter-whole n I few i j apart).1

  -- so many letters
  exchanges_hold : {every : List PlainEntry} (count : ℕ) (n : Net) → Holds every n → Holds every (exchanges count n i j)
  exchanges_hold zero n I = I
  exchanges_hold (suc count) n I = exchanges_hold count (exchange n i j) (exchange_becomes n I i j).holds

  exchanges-left :
      {every : List PlainEntry} (count : ℕ) (n : Net) → Holds every n → length every < capacity → Apart i j
      → lacking (exchanges count n i j) i j ≡ drop (count * MAX_LETTER_ENTRIES) (lacking n i j)
  exchanges-left zero n I few apart = refl
  exchanges-left (suc count) n I few apart =
      let sum : MAX_LETTER_ENTRIES + count * MAX_LETTER_ENTRIES ≡ suc count * MAX_LETTER_ENTRIES = omega arith in
      exchanges-left count (exchange n i j) (exchange_becomes n I i j).holds few apart ∙ ap (drop (count * MAX_LETTER_ENTRIES)) (exchange-left n I few apart)
      ∙ drop-drop (count * MAX_LETTER_ENTRIES) MAX_LETTER_ENTRIES (lacking n i j) ∙ ap (λ (m : ℕ). drop m (lacking n i j)) sum

drop_none : {A : Type 0} (n : ℕ) → drop {A = A} n [] ≡ []
drop_none zero = refl
drop_none (suc n) = refl

pub letters_needed : Always LettersNeeded
letters_needed es few i j low lt count = (left, λ enough. caught (left ∙ drop_all (count * MAX_LETTER_ENTRIES) (lacking (after es) i j) enough))
  where
    rest : Net
    rest = exchanges count (after es) i j

    holds : Holds (entries_made es) (exchanges count (after es) i j)
    holds = exchanges_hold i j low lt count (after es) (after_holds es)

    self : lacking (exchanges count (after es) j j) j j ≡ drop (count * MAX_LETTER_ENTRIES) (lacking (after es) j j)
    self =
        lacks_none (exchanges count (after es) j j) (exchanges_hold j j lt lt count (after es) (after_holds es)) (made_fewer es few) j ∙ sym (drop_none (count * MAX_LETTER_ENTRIES))
        ∙ ap (drop (count * MAX_LETTER_ENTRIES)) (sym (lacks_none (after es) (after_holds es) (made_fewer es few) j))

    left : lacking (exchanges count (after es) i j) i j ≡ drop (count * MAX_LETTER_ENTRIES) (lacking (after es) i j)
    left =
        by_same i j
        (λ p. subst (λ (h : ℕ). lacking (exchanges count (after es) h j) h j ≡ drop (count * MAX_LETTER_ENTRIES) (lacking (after es) h j)) (sym p) self)
        (λ apart. exchanges-left i j low lt count (after es) (after_holds es) (made_fewer es few) apart)

    caught : lacking (exchanges count (after es) i j) i j ≡ [] → Caught (exchanges count (after es) i j) i j
    caught q = elim (next rest holds (made_fewer es few) i j) [ inl p ↦ p.1 | inr f ↦ absurd (front_not_nil f.w [] f.ws (sym q ∙ f.is)) ]
