-- A line is refused by the lowest number whose condition holds; the counts of a letter add up; what
-- was printed of a committed entry stays.
use Rattle.std.proofs.Common.{◌≡◌, ℕ, ◌+◌, ◌-◌, ◌<◌, Bool, true, false, not, T, List, length, is_some, Some, None, Option, sym, refl, ap, ◌∙◌, subst, inl, inr, arith}
use lib.ListN.{length-map}
use Rattle.std.proofs.lemmas.Bool.{eq-eqb, eqb-true, false≢true, lt-ltb}
use Rattle.std.proofs.lemmas.List.Filters.{length-filter_both}
use Rattle.std.proofs.lemmas.List.Sums.{length-filter}
use Rattle.bookings.specs.Books.{place_from}
use Rattle.bookings.specs.Plain.{PlainEntry, PlainMark}
use Rattle.console.specs.Answers.{got_of, standing_of}
use Rattle.console.specs.Requests.{asked, asked_mark, raw_mark}
use Rattle.console.specs.declared.answer.Answer.{Answer}
use Rattle.console.specs.declared.answer.Answer.TheVariants as answers
use Rattle.console.specs.declared.answer.letters.Taking.TheVariants as takings
use Rattle.console.specs.declared.request.Request.{Request}
use Rattle.console.specs.declared.command.Command.{Command}
use Rattle.console.specs.declared.command.Command.TheVariants as commands
use Rattle.entry_log.proofs.Known.{found_none, has_found}
use Rattle.entry_log.specs.Logs.{all_of, has}
use Rattle.journal.specs.History.{state_in}
use Rattle.network.proofs.KeptOut.{outcomes_add_up}
use Rattle.network.proofs.Lists.{place_in_first}
use Rattle.network.proofs.LowestRefusals.{lowest_refusal}
use Rattle.network.proofs.Refusing.{has_mark, lacks_says, mark_has, says_lacks}
use Rattle.network.proofs.Shown.{found_stays, shown_stays}
use Rattle.network.proofs.Tests.{true_T}
use Rattle.network.specs.Net.{after}
use Rattle.network.specs.Promise.{Always}
use Rattle.network.specs.Refusing.{HasMark, Lowest, MakeWhy}
use Rattle.network.specs.Replicas.{entries_in, tentative_in}
use Rattle.network.specs.Shown.{came_at, committed_later, later_than, shown_by}
use Rattle.network.specs.Taking.{kept_out, plain_outcome}
use Rattle.network.specs.declared.outcome.Outcome.{Outcome}
use Rattle.replica.specs.Model.{State, leader, marks_of}
use Rattle.desk.proofs.Gotten.{got_is}
use Rattle.desk.specs.Answers.{got_at, got_in}
use Rattle.desk.specs.Laws.{LineByLowest, LineWhy, PrintedCountsAddUp, PrintedStays, skipped_of, taken_of}
use Rattle.desk.specs.Replies.{Denied, Told}
use Rattle.desk.specs.Said.{is_skipped, line_of, logged_line, name_of}
use Rattle.desk.specs.declared.reply.Reply.{Reply}

-- REFUSALS

-- what is made is refused by 8 or 9, never lower
make-high : (q : Request) (s : State) (m : ℕ) → MakeWhy (asked q) s m → 7 < m
make-high q s m (inl w) = omega (arith, w.0)
make-high q s m (inr w) = omega (arith, w.0)

-- who is not told what an entry has got does not know it
unknown_mark : (s : State) (m : PlainMark) → got_in s m ≡ None → HasMark m (all_of s.log) → ⊥
unknown_mark s m q known =
    false≢true (sym (found_none m 0 (all_of s.log) (nothing (place_from 0 m (marks_of s)) q))
    ∙ is_true (has m (all_of s.log)) (mark_has m (all_of s.log) known))
  where
    nothing : (o : Option ℕ) → got_at s m o ≡ None → o ≡ None
    nothing None q = refl
    nothing (Some p) q = absurd (let z : ◌≡◌ {A = ℕ} 0 1 = cc in omega arith)

    is_true : (b : Bool) → T b → b ≡ true
    is_true true t = refl
    is_true false t = absurd t

known_mark :
    (s : State) (m : PlainMark) (a : Answer) → got_in s m ≡ Some a → HasMark m (all_of s.log)
known_mark s m a q =
    has_mark m (all_of s.log)
    (true_T (has m (all_of s.log))
    (sym (has_found m 0 (all_of s.log)) ∙ something (place_from 0 m (marks_of s)) q))
  where
    something : (o : Option ℕ) → got_at s m o ≡ Some a → is_some o ≡ true
    something None q = absurd (let z : ◌≡◌ {A = ℕ} 0 1 = cc in omega arith)
    something (Some p) q = refl

denied-lowest :
    (was is : State) (c : Command) (n : ℕ) → Denied was is c n → Lowest (LineWhy was is c) n
denied-lowest was is (commands.Make q) n (inl d) = (
  inl d,
  λ m lt w. elim w
      [ inl e ↦ omega (arith, lt, e.0, d.0) | inr e ↦ omega (arith, lt, d.0, make-high q was m e) ],
)
denied-lowest was is (commands.Make q) n (inr (ok, refused)) =
    let low = ((lowest_refusal.make (asked q) was).refused n).0 refused in
    (inr low.0, λ m lt w. elim w [ inl e ↦ e.1 ok | inr e ↦ low.1 m lt e ])
denied-lowest was is commands.Ink n d = (
  (d.1, λ same. false≢true (sym d.0 ∙ eq-eqb was.hut (leader was.log.committed) same)),
  λ m lt
      w. omega (arith, lt, w.0, d.1),
)
denied-lowest was is (commands.Letter c v) n d = (d, λ m lt w. omega (arith, lt, w.0, d.0))
denied-lowest was is (commands.ShowNight hut night) n d = (d, λ m lt w. omega (arith, lt, w.0, d.0))
denied-lowest was is (commands.Got g) n (inl d) = (
  inl d,
  λ m lt w. elim w
      [ inl e ↦ omega (arith, lt, e.0, d.0) | inr e ↦ omega (arith, lt, e.0, d.0) ],
)
denied-lowest was is (commands.Got g) n (inr (ok, nine, none)) = (
  inr (nine, unknown_mark is (asked_mark g) none),
  λ m lt w. elim w
      [ inl e ↦ e.1 ok | inr e ↦ omega (arith, lt, e.0, nine) ],
)
denied-lowest was is (commands.Serve slip) n (inl d) = (
  inl d,
  λ m lt w. elim w
      [ inl e ↦ omega (arith, lt, e.0, d.0) | inr e ↦ omega (arith, lt, e.0, d.0) ],
)
denied-lowest was is (commands.Serve slip) n (inr (ok, seven, ahead)) = (
  inr (seven, lacks_says slip.all is (subst (λ (b : Bool). T (not b)) (sym ahead) tt)),
  λ m lt
      w. elim w [ inl e ↦ e.1 ok | inr e ↦ omega (arith, lt, e.0, seven) ],
)
denied-lowest was is c n d = absurd d

told-none :
    (was is : State) (c : Command) (r : Reply) → Told was is c r → (n : ℕ) → LineWhy was is c n → ⊥
told-none was is (commands.Make q) r t n (inl w) = w.1 t.0
told-none was is (commands.Make q) r t n (inr w) =
    (lowest_refusal.make (asked q) was).allowed.0 t.1 n w
told-none was is commands.Ink r t n w = w.1 (eqb-true was.hut (leader was.log.committed) t.0)
told-none was is (commands.Letter c v) r t n w = w.1 (t.0, t.1)
told-none was is (commands.ShowNight hut night) r t n w = w.1 (t.0, t.1)
told-none was is (commands.Got m) r t n (inl w) = w.1 t.0
told-none was is (commands.Got m) r t n (inr w) = w.1 (known_mark is (asked_mark m) t.1.0 t.1.2)
told-none was is (commands.Serve slip) r t n (inl w) = w.1 t.2.0
told-none was is (commands.Serve slip) r t n (inr w) = says_lacks slip.all is w.1 t.2.1
told-none was is c r t n w = absurd w

pub line_by_lowest : LineByLowest
line_by_lowest was is c = (denied-lowest was is c, told-none was is c)

-- COUNTS

-- what is not skipped is taken
two_counts : (os : List Outcome) → taken_of os + skipped_of os ≡ length os
two_counts os =
    omega (
      arith,
      length-filter_both (λ o. not (is_skipped o)) is_skipped (λ o. twice (is_skipped o)) os,
      length-filter (λ o. not (is_skipped o)) os,
      length-filter is_skipped os,
    )
  where
    twice : (b : Bool) → b ≡ not (not b)
    twice true = refl
    twice false = refl

pub printed_counts_add_up : PrintedCountsAddUp
printed_counts_add_up bs k os place cs ws out bytes is came =
    let sum = outcomes_add_up bs k place cs ws out bytes is in
    let two = two_counts os in
    let many = sym (length-map os plain_outcome) ∙ ap length came in
    let rest : length os - skipped_of os ≡ taken_of os = omega (arith, two) in (
      ap (λ n. takings.Counts n (skipped_of os) out) rest,
      (sum.0, sum.1, omega (arith, two, many, sum.2, ap kept_out is)),
    )

-- WHAT WAS PRINTED

logged_same :
    (a b place : ℕ) (e f : PlainEntry)
    → place < a → place < b → e ≡ f → logged_line a place e ≡ logged_line b place f
logged_same a b place e f in_a in_b same =
    ap (with_standing e) (lt-ltb place a in_a ∙ sym (lt-ltb place b in_b))
    ∙ ap (logged_line b place) same
  where
    with_standing : PlainEntry → Bool → List ℕ
    with_standing x t =
        line_of (answers.Logged place (raw_mark x.mark) (standing_of t) (name_of x.kind))

pub printed_stays : Always PrintedStays
printed_stays es i place low lt later j in_j =
    let was = shown_by es i in
    let is = committed_later es i later j in
    let k = (later_than es i later).hut j in
    let outcome = got_of (came_at (entries_in k) place) in (
      λ d.
          logged_same (length is) (length was) place _ _ in_j lt
          (place_in_first is (tentative_in k) place d in_j
          ∙ shown_stays es i place d low lt later j d in_j
          ∙ sym (place_in_first was (tentative_in ((after es).hut i)) place d lt)),
      λ m at.
          let found = found_stays es i place m low at later j in_j in
          got_is (state_in k) m _ _ _ _ place found.0 refl refl refl refl
          ∙ ap (λ (t : Bool). Some (answers.Got (raw_mark m) (standing_of t) outcome))
          (lt-ltb place (length is) in_j),
    )
