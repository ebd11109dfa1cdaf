-- What a stage does is what the events of the model do, so that it still stands.
use Rattle.std.proofs.Common.{◌≡◌, ℕ, zero, suc, ◌<◌, ◌==◌, ◌⊎◌, cond, take, Option, Some, None, Result, Ok, Err, MatchResult, List, [], ◌∷◌, ◌++◌, map, length, get_or, vec_items, vec_len, ltb, ⊎_elim, append-nil, length-append, lt→ltb, sym, refl, ap, subst, ◌∙◌, inl, inr, arith}
use Rattle.std.specs.Global.{Vec}
use Rattle.std.proofs.lemmas.Bool.{cases_lt, le-ltb, ne_eqb}
use Rattle.std.proofs.lemmas.List.{length-map, get_or-map, get_or_append_left, get_or_push, take_all}
use Rattle.bookings.specs.Plain.{PlainEntry, PlainKind, plain_kind}
use Rattle.bookings.specs.declared.entry.Kind.{Kind}
use Rattle.entry_log.specs.declared.vector.Vector.{Vector}
use Rattle.journal.specs.History.{Kept, commits, crashed, makes, state_in, synced}
use Rattle.journal.specs.Keeping.{InStep, InMemory, state_by}
use Rattle.letters.proofs.Lawful.{cut-damaged, letter_round_trip_lem}
use Rattle.letters.specs.Items.{items_of, placed_from, waiting}
use Rattle.letters.specs.Laws.{LetterOk}
use Rattle.letters.specs.Letters.{Heard, damaged, encode_letter, read_letter}
use Rattle.replica.specs.Model.{State, fresh}
use Rattle.replica.specs.declared.summary.Summary.{Summary}
use Rattle.replica.specs.Parcels.{parcel_for}
use Rattle.network.specs.Items.{Letter, items_taken, words_for}
use Rattle.network.specs.Net.{Event, Makes, Commits, Syncs, Writes, Takes, Damaged, Crashes, Net, after, among, huts, put, send, step, take_nth, with_hut}
use Rattle.network.specs.Effects.{commits_synced, first_of, refused_of, reopens, synced_if}
use Rattle.network.specs.Stages.{Follows, Hut, Turns, Unmoved, state_at, hut_at, huts_of, bytes_for, bytes_sent}
use Rattle.network.specs.Stands.{Comes, Means, Stands, Stays, Went, commit_comes, cut_comes, refusal_comes}
use Rattle.network.specs.Taking.{letter_for, take_bytes}
use Rattle.network.specs.declared.act.Act.{Act}
use Rattle.network.specs.declared.act.Act.TheVariants as acts
use Rattle.network.specs.declared.act.Done.{Done}
use Rattle.network.specs.declared.act.Done.TheVariants as dones
use Rattle.network.specs.declared.unplayed.Unplayed.{Unplayed}
use Rattle.network.specs.declared.unplayed.Unplayed.TheVariants as unplayed
use Rattle.network.specs.declared.stage.Stage.{Stage}
use Rattle.network.proofs.Crashes.{reopened}
use Rattle.network.proofs.Holds.{hut-again}
use Rattle.network.proofs.Stages.{put_same, some_hut}
use Rattle.network.proofs.Tests.{cond_yes}
use Rattle.network.proofs.Walk.{after_one, after_two}

pub among_yes : (h : ℕ) (m n : Net) → h < huts → among h m n ≡ m
among_yes h m n low = cond_yes (ltb h huts) m n (lt→ltb h huts low)

module _ (es : List Event) (h : ℕ) (low : h < huts) where
  abbrev n : Net
  n = after es

  -- a hut that is synced after another step
  then_synced : (e : Event) (k : Kept) → after (es ++ e ∷ []) ≡ with_hut h k n → after (es ++ e ∷ Syncs h ∷ []) ≡ with_hut h (synced k) n
  then_synced e k is =
      after_two es e (Syncs h) ∙ among_yes h _ _ low ∙ ap (λ m. with_hut h (synced (m.hut h)) m) (sym (after_one es e) ∙ is) ∙ hut-again synced h k n

  pub after_sync : after (es ++ Syncs h ∷ []) ≡ with_hut h (synced (n.hut h)) n
  after_sync = after_one es (Syncs h) ∙ among_yes h _ _ low

  pub after_made : (kind : PlainKind) → after (es ++ Makes h kind ∷ []) ≡ with_hut h (makes kind (n.hut h)) n
  after_made kind = after_one es (Makes h kind) ∙ among_yes h _ _ low

  pub after_make : (kind : PlainKind) → after (es ++ Makes h kind ∷ Syncs h ∷ []) ≡ with_hut h (synced (makes kind (n.hut h))) n
  after_make kind = then_synced (Makes h kind) (makes kind (n.hut h)) (after_made kind)

  pub after_commit : after (es ++ Commits h ∷ []) ≡ with_hut h (commits (n.hut h)) n
  after_commit = after_one es (Commits h) ∙ among_yes h _ _ low

  pub after_committed : after (es ++ Commits h ∷ Syncs h ∷ []) ≡ with_hut h (synced (commits (n.hut h))) n
  after_committed = then_synced (Commits h) (commits (n.hut h)) after_commit

  pub after_first : (first : Option PlainEntry) → after (es ++ commit_comes h first) ≡ with_hut h (synced_if first (commits (n.hut h))) n
  after_first None = after_commit
  after_first (Some e) = after_committed

  pub after_crash : (lost : ℕ) → after (es ++ Crashes h lost ∷ Syncs h ∷ []) ≡ with_hut h (synced (crashed lost (n.hut h))) n
  after_crash lost = then_synced (Crashes h lost) (crashed lost (n.hut h)) (after_one es (Crashes h lost) ∙ among_yes h _ _ low)

  pub after_take : (nth : ℕ) → after (es ++ Takes h nth ∷ []) ≡ with_hut h (take_nth nth n.sent (n.hut h)) n
  after_take nth = after_one es (Takes h nth) ∙ among_yes h _ _ low

  pub after_write : (count : ℕ) (has : List ℕ) → after (es ++ Writes h count has ∷ []) ≡ send (words_for count has (n.hut h)) (with_hut h (synced (n.hut h)) n)
  after_write count has = after_one es (Writes h count has) ∙ among_yes h _ _ low

-- what is followed is told by what each hut keeps
pub follows_same : (qs : List Hut) (kept now : ℕ → Kept) → ((h : ℕ) → now h ≡ kept h) → Follows qs kept → Follows qs now
follows_same qs kept now same follows =
    record {
      in_step = λ i q within. subst (λ (k : Kept). InStep InMemory (get_or qs i q) k) (sym (same (hut_at qs i))) (follows.in_step i q within);
      room = follows.room;
      small = follows.small;
      differ = follows.differ;
    }

-- where the events have changed one hut alone, and no letter was written
pub stands_on :
    (s t : Stage) (es more : List Event) (h : ℕ) (k : Kept) → after (es ++ more) ≡ with_hut h k (after es) → Follows (huts_of t) (put h k (after es).hut)
    → bytes_sent t ≡ bytes_sent s → Stands s es → Stands t (es ++ more)
stands_on s t es more h k is follows letters stands =
    record {
      follows = subst (λ (n : Net). Follows (huts_of t) n.hut) (sym is) follows;
      as_many = rw (letters, is) stands.as_many;
      sent = λ i within. rw (letters, is) (stands.sent i (subst (λ (bs : List (List ℕ)). i < length bs) letters within));
    }

stands_as : (t : Stage) (es now : List Event) → after now ≡ after es → Stands t es → Stands t now
stands_as t es now is stands =
    record {
      follows = subst (λ (n : Net). Follows (huts_of t) n.hut) (sym is) stands.follows;
      as_many = rw is stands.as_many;
      sent = λ i within. rw is (stands.sent i within);
    }

-- where nothing has changed
pub stands_still :
    (s t : Stage) (es : List Event) (h : ℕ) → Follows (huts_of t) (put h ((after es).hut h) (after es).hut) → bytes_sent t ≡ bytes_sent s → Stands s es → Stands t es
stands_still s t es h follows letters stands =
    record {
      follows = follows_same (huts_of t) _ (after es).hut (put_same h (after es).hut) follows;
      as_many = rw letters stands.as_many;
      sent = λ i within. rw letters (stands.sent i (subst (λ (bs : List (List ℕ)). i < length bs) letters within));
    }

pub same_letters : (s t : Stage) → t.letters ≡ s.letters → bytes_sent t ≡ bytes_sent s
same_letters s t same = ap (λ v. map (λ l. vec_items l) (vec_items v)) same

pub letter_there :
    {E : Type 0} (P : Done → Type 0) (Q : E → Type 0) (s : Stage) (letter : ℕ) (r : Result Done E)
    → MatchResult r (λ d. P d × (letter < vec_len s.letters)) Q → MatchResult r (λ _. letter < length (bytes_sent s)) (λ _. Unit {0})
letter_there P Q s letter (Ok d) told = omega (arith, told.1, s.letters.ok.0, length-map (vec_items s.letters) (λ (l : Vec ℕ). vec_items l))
letter_there P Q s letter (Err e) told = tt

-- what the bytes of a letter do is what its items do
pub means_take : (bs : List ℕ) (l : Letter) → Means bs l → (k : Kept) → take_bytes bs k ≡ items_taken l k
means_take bs l (p, ok, is, items) k =
    ap (λ h. items_taken (items_of h) k) (ap read_letter is ∙ letter_round_trip_lem p ok) ∙ ap (λ x. items_taken x k) (sym items)

-- and its first bytes do nothing, where they are not all
pub means_cut : (bs : List ℕ) (l : Letter) → Means bs l → (n : ℕ) → n < length bs → (k : Kept) → take_bytes (take n bs) k ≡ k
unfolding items_taken
means_cut bs l (p, ok, is, items) n short k =
    ap (λ x. items_taken (items_of (read_letter (take n x))) k) is
    ∙ ap (λ h. items_taken (items_of h) k) (cut-damaged p n ok (subst (λ (x : List ℕ). n < length x) is short))

pub take_nth_at : (i : ℕ) (ls : List Letter) (k : Kept) → take_nth i ls k ≡ items_taken (get_or ls i []) k
unfolding take_nth items_taken
take_nth_at i [] k = refl
take_nth_at zero (l ∷ ls) k = refl
take_nth_at (suc i) (l ∷ ls) k = take_nth_at i ls k

-- the letter that is written has the items that the model sends
pub words_are :
    (count : ℕ) (has : List ℕ) (k : Kept)
    → words_for count has k
    ≡ placed_from (letter_for count has (state_in k)).place (letter_for count has (state_in k)).committed ++ map waiting (letter_for count has (state_in k)).tentative
words_are count has k = go (parcel_for count has (state_in k)).committed
  where
    go : (cs : List PlainEntry) → placed_from count cs ++ map waiting (parcel_for count has (state_in k)).tentative ≡ placed_from (cond (length cs == 0) 0 count) cs ++ map waiting (parcel_for count has (state_in k)).tentative
    go [] = refl
    go (c ∷ cs) = ap (λ b. placed_from (cond b 0 count) (c ∷ cs) ++ map waiting (parcel_for count has (state_in k)).tentative) (sym (ne_eqb (length (c ∷ cs)) 0 (omega arith)))

module _ (s t : Stage) (i : ℕ) (within : i < length (huts_of s)) (es : List Event) (stands : Stands s es) where
  abbrev h : ℕ
  h = hut_at (huts_of s) i

  abbrev kept : ℕ → Kept
  kept = (after es).hut

  low : h < huts
  low = stands.follows.small i within

  -- one replica goes on, and the model with it
  pub on :
      (more : List Event) (step : Kept → Kept) → after (es ++ more) ≡ with_hut h (step (kept h)) (after es) → bytes_sent t ≡ bytes_sent s → Turns (huts_of s) (huts_of t) i step
      → Stands t (es ++ more)
  on more step is letters turns = stands_on s t es more h (step (kept h)) is (turns kept stands.follows).0 letters stands

  -- nothing has changed
  still : bytes_sent t ≡ bytes_sent s → Turns (huts_of s) (huts_of t) i (λ k. k) → Stands t (es ++ [])
  still letters turns = subst (Stands t) (sym (append-nil es)) (stands_still s t es h (turns kept stands.follows).0 letters stands)

  synced_now : bytes_sent t ≡ bytes_sent s → Turns (huts_of s) (huts_of t) i synced → Stands t (es ++ Syncs h ∷ [])
  synced_now letters turns = on (Syncs h ∷ []) synced (after_sync es h low) letters turns

  -- what is refused
  refused : (act : Act) → bytes_sent t ≡ bytes_sent s → Turns (huts_of s) (huts_of t) i (refused_of act) → Stands t (es ++ refusal_comes h act)
  refused (acts.Make kind) letters turns = still letters turns
  refused acts.Commit letters turns = still letters turns
  refused acts.Sync letters turns = still letters turns
  refused (acts.Write has) letters turns = still letters turns
  refused (acts.Take letter) letters turns = still letters turns
  refused (acts.Cut letter len) letters turns = still letters turns
  refused (acts.Crash left) letters turns = still letters turns
  refused (acts.Visit slip) letters turns = synced_now letters turns

  unmoved :
      (act : Act) (e : Unplayed) → bytes_sent t ≡ bytes_sent s → Unmoved (huts_of s) (huts_of t) i (refused_of act) e
      → (more : List Event) × Stands t (es ++ more) × Stays h act e more
  unmoved act unplayed.Memory letters (inl turns) = (_, still letters turns, inl refl)
  unmoved act unplayed.Memory letters (inr turns) = (_, synced_now letters turns, inr refl)
  unmoved act (unplayed.Refused w) letters turns = (_, refused act letters turns, refl)
  unmoved act (unplayed.Failed f) letters never = absurd (never kept stands.follows)

  -- an act that is done or not
  went :
      (act : Act) (D : Done → Type 0) (r : Result Done Unplayed) → bytes_sent t ≡ bytes_sent s
      → ((d : Done) → D d → (more : List Event) × Stands t (es ++ more) × Comes (bytes_sent s) h (kept h) act more)
      → MatchResult r D (Unmoved (huts_of s) (huts_of t) i (refused_of act)) → Went s t i act r es
  went act D (Ok d) letters done holds = done d holds
  went act D (Err e) letters done holds = unmoved act e letters holds

  -- what is done by one step of the replica
  pub stepped :
      (more : List Event) (step : Kept → Kept) (C : List Event → Type 0) → after (es ++ more) ≡ with_hut h (step (kept h)) (after es) → C more
      → bytes_sent t ≡ bytes_sent s → Turns (huts_of s) (huts_of t) i step → (x : List Event) × Stands t (es ++ x) × C x
  stepped more step C is comes letters turns = (more, on more step is letters turns, comes)

  pub went_make :
      (kind : Kind) (r : Result Done Unplayed) → bytes_sent t ≡ bytes_sent s
      → MatchResult r (λ _. Turns (huts_of s) (huts_of t) i (λ k. synced (makes (plain_kind kind) k))) (Unmoved (huts_of s) (huts_of t) i (λ k. k)) → Went s t i (acts.Make kind) r es
  went_make kind r letters =
      went (acts.Make kind) _ r letters
      (λ _. stepped _ (λ k. synced (makes (plain_kind kind) k)) (Comes (bytes_sent s) h (kept h) (acts.Make kind)) (after_make es h low (plain_kind kind)) refl letters)

  pub went_commit :
      (r : Result Done Unplayed) → bytes_sent t ≡ bytes_sent s → MatchResult r (λ _. Turns (huts_of s) (huts_of t) i commits_synced) (Unmoved (huts_of s) (huts_of t) i (λ k. k))
      → Went s t i acts.Commit r es
  went_commit r letters =
      went acts.Commit _ r letters
      (λ _. stepped _ commits_synced (Comes (bytes_sent s) h (kept h) acts.Commit) (after_first es h low (first_of (kept h))) refl letters)

  pub went_sync :
      (r : Result Done Unplayed) → bytes_sent t ≡ bytes_sent s
      → MatchResult r (λ _. Turns (huts_of s) (huts_of t) i synced) (Unmoved (huts_of s) (huts_of t) i (λ k. k)) → Went s t i acts.Sync r es
  went_sync r letters = went acts.Sync _ r letters (λ _. stepped _ synced (Comes (bytes_sent s) h (kept h) acts.Sync) (after_sync es h low) refl letters)

  -- a guest is shown what is synced, and told after a sync that it is not served
  pub went_visit :
      (slip : Vector) (r : Result Done Unplayed) → bytes_sent t ≡ bytes_sent s
      → MatchResult r (λ _. Turns (huts_of s) (huts_of t) i synced) (Unmoved (huts_of s) (huts_of t) i synced) → Went s t i (acts.Visit slip) r es
  went_visit slip r letters =
      went (acts.Visit slip) _ r letters (λ _. stepped _ synced (Comes (bytes_sent s) h (kept h) (acts.Visit slip)) (after_sync es h low) refl letters)

  pub went_crash : (left : ℕ) (d : Done) → bytes_sent t ≡ bytes_sent s → Turns (huts_of s) (huts_of t) i (reopens left) → Went s t i (acts.Crash left) (Ok d) es
  went_crash left d letters turns =
      let found = reopened left (kept h) (stands.follows.in_step i (some_hut (huts_of s) i within) within).stands in
      let is = after_crash es h low found.0 ∙ ap (λ (k : Kept). with_hut h k (after es)) found.1 in
      (_, on _ (reopens left) is letters turns, (found.0, refl, found.1))

  module _ (letter : ℕ) (letters : bytes_sent t ≡ bytes_sent s) (there : letter < length (bytes_sent s)) where
    abbrev bytes : List ℕ
    bytes = get_or (bytes_sent s) letter []

    -- a letter that was sent
    pub took : Turns (huts_of s) (huts_of t) i (take_bytes bytes) → Stands t (es ++ Takes h letter ∷ [])
    took turns =
        stands_on s t es (Takes h letter ∷ []) h (take_nth letter (after es).sent (kept h)) (after_take es h low letter)
        (subst (λ (k : Kept). Follows (huts_of t) (put h k kept)) (means_take bytes _ (stands.sent letter there) (kept h) ∙ sym (take_nth_at letter (after es).sent (kept h)))
        (turns kept stands.follows).0)
        letters stands

    -- its first bytes, which are no letter where they are not all
    pub took_part : (len : ℕ) → len < length bytes → Turns (huts_of s) (huts_of t) i (take_bytes (take len bytes)) → Stands t (es ++ Damaged h ∷ [])
    took_part len short turns =
        stands_as t es (es ++ Damaged h ∷ []) (after_one es (Damaged h))
        (stands_still s t es h (subst (λ (k : Kept). Follows (huts_of t) (put h k kept)) (means_cut bytes _ (stands.sent letter there) len short (kept h)) (turns kept stands.follows).0) letters stands)

    took_first : (len : ℕ) → Turns (huts_of s) (huts_of t) i (take_bytes (take len bytes)) → Stands t (es ++ cut_comes h letter len bytes)
    took_first len turns =
        ⊎_elim
        (λ short. subst (λ (more : List Event). Stands t (es ++ more)) (sym (cond_yes (ltb len (length bytes)) _ _ (lt→ltb len (length bytes) short))) (took_part len short turns))
        (λ all. subst (λ (more : List Event). Stands t (es ++ more)) (sym (ap (λ b. cond b (Damaged h ∷ []) (Takes h letter ∷ [])) (le-ltb len (length bytes) all)))
        (took (subst (λ (x : List ℕ). Turns (huts_of s) (huts_of t) i (take_bytes x)) (take_all len bytes all) turns)))
        (cases_lt len (length bytes))

  -- bytes that are no letter
  pub heard_nothing : (bs : List ℕ) → bytes_sent t ≡ bytes_sent s → read_letter bs ≡ damaged → Turns (huts_of s) (huts_of t) i (take_bytes bs) → Stands t es
  unfolding items_taken
  heard_nothing bs letters none turns =
      stands_still s t es h (subst (λ (x : Heard). Follows (huts_of t) (put h (items_taken (items_of x) (kept h)) kept)) none (turns kept stands.follows).0) letters stands

  pub went_take :
      (letter : ℕ) (r : Result Done Unplayed) → bytes_sent t ≡ bytes_sent s
      → MatchResult r (λ _. Turns (huts_of s) (huts_of t) i (take_bytes (get_or (bytes_sent s) letter []))) (Unmoved (huts_of s) (huts_of t) i (λ k. k))
      → MatchResult r (λ _. letter < length (bytes_sent s)) (λ _. Unit {0}) → Went s t i (acts.Take letter) r es
  went_take letter (Ok d) letters turns there = (_, took letter letters there turns, refl)
  went_take letter (Err e) letters left there = unmoved (acts.Take letter) e letters left

  pub went_cut :
      (letter len : ℕ) (r : Result Done Unplayed) → bytes_sent t ≡ bytes_sent s
      → MatchResult r (λ _. Turns (huts_of s) (huts_of t) i (take_bytes (take len (get_or (bytes_sent s) letter [])))) (Unmoved (huts_of s) (huts_of t) i (λ k. k))
      → MatchResult r (λ _. letter < length (bytes_sent s)) (λ _. Unit {0}) → Went s t i (acts.Cut letter len) r es
  went_cut letter len (Ok d) letters turns there = (_, took_first letter letters there len turns, refl)
  went_cut letter len (Err e) letters left there = unmoved (acts.Cut letter len) e letters left

  -- the state of the replica is what its hut has kept
  pub state_kept : state_at (huts_of s) i ≡ state_in (kept h)
  state_kept =
      let q = some_hut (huts_of s) i within in get_or-map (λ p. state_by p) (huts_of s) i q (fresh 0) within ∙ (stands.follows.in_step i q within).state

  -- a letter that is written is the one that is sent
  module _ (count : ℕ) (stamps : List ℕ) where
    abbrev page : List ℕ
    page = bytes_for s i count stamps

    abbrev words : Letter
    words = words_for count stamps (kept h)

    written : LetterOk (letter_for count stamps (state_at (huts_of s) i)) → Means page words
    written =
        subst (λ (x : State). LetterOk (letter_for count stamps x) → Means (encode_letter (letter_for count stamps x)) words) (sym state_kept)
        (λ ok. (letter_for count stamps (state_in (kept h)), ok, refl, words_are count stamps (kept h)))

    longer : length (bytes_sent s ++ page ∷ []) ≡ length ((after es).sent ++ words ∷ [])
    longer = omega (arith, stands.as_many, length-append (bytes_sent s) (page ∷ []), length-append (after es).sent (words ∷ []))

    last :
        Means page words → (j : ℕ) → j < length (bytes_sent s ++ page ∷ []) → Means (get_or (bytes_sent s ++ page ∷ []) j []) (get_or ((after es).sent ++ words ∷ []) j [])
    last new j inside = elim (cases_lt j (length (bytes_sent s))) [
      | inl before ↦ rw (get_or_append_left (bytes_sent s) (page ∷ []) [] j before, get_or_append_left (after es).sent (words ∷ []) [] j (omega (arith, before, stands.as_many))) (stands.sent j before)
      | inr behind ↦
          let end : length (bytes_sent s) ≡ j = omega (arith, behind, inside, length-append (bytes_sent s) (page ∷ [])) in
          rw (get_or_push (bytes_sent s) page [] j end, get_or_push (after es).sent words [] j (sym stands.as_many ∙ end)) new
    ]

    pub wrote_letter :
        LetterOk (letter_for count stamps (state_at (huts_of s) i)) → bytes_sent t ≡ bytes_sent s ++ page ∷ [] → Turns (huts_of s) (huts_of t) i synced
        → Stands t (es ++ Writes h count stamps ∷ [])
    wrote_letter ok letters turns =
        let is = after_write es h low count stamps in
        record {
          follows = subst (λ (m : Net). Follows (huts_of t) m.hut) (sym is) (turns kept stands.follows).0;
          as_many = rw (letters, is) longer;
          sent = rw (letters, is) (last (written ok));
        }

  pub went_write :
      (has : Summary) (n : ℕ) (r : Result Done Unplayed)
      → MatchResult r
      (λ d. (d ≡ dones.Written n) × (bytes_sent t ≡ bytes_sent s ++ bytes_for s i has.committed has.vector.stamps ∷ [])
      × LetterOk (letter_for has.committed has.vector.stamps (state_at (huts_of s) i)))
      (λ _. bytes_sent t ≡ bytes_sent s)
      → MatchResult r (λ _. Turns (huts_of s) (huts_of t) i synced) (Unmoved (huts_of s) (huts_of t) i (λ k. k)) → Went s t i (acts.Write has) r es
  went_write has n (Ok d) letters turns = (_, wrote_letter has.committed has.vector.stamps letters.2 letters.1 turns, refl)
  went_write has n (Err e) letters left = unmoved (acts.Write has) e letters left
