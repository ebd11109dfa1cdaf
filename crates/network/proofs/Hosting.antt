-- A run that leads to a stage is read again with guests.
use Rattle.std.proofs.Common.{◌≡◌, ℕ, ◌<◌, Bool, true, false, cond, None, Result, Ok, Err, MatchResult, List, [], ◌∷◌, ◌++◌, length, sym, refl, ap, subst, ◌∙◌, append-nil}
use Rattle.std.proofs.lemmas.Bool.{false≢true}
use Rattle.bookings.specs.Plain.{PlainKind, plain_kind}
use Rattle.bookings.specs.declared.entry.Kind.{Kind}
use Rattle.entry_log.specs.declared.vector.Vector.{Vector}
use Rattle.journal.specs.History.{makes, state_in, synced}
use Rattle.network.specs.Acts.{Denied, Told, writes}
use Rattle.network.specs.Hosting.{ForGuest, Visited}
use Rattle.network.specs.Net.{Event, Guest, MakesFor, Makes, Net, Syncs, Visits, after, gives, huts, makes_for, served, shown, unless_refused, visit, with_guest, with_hut}
use Rattle.network.specs.Stages.{hut_at, huts_of, state_at}
use Rattle.network.specs.Stands.{Stands, Went}
use Rattle.network.specs.declared.act.Act.{Act}
use Rattle.network.specs.declared.act.Act.TheVariants as acts
use Rattle.network.specs.declared.act.Done.{Done}
use Rattle.network.specs.declared.stage.Stage.{Stage}
use Rattle.network.specs.declared.unplayed.Unplayed.{Unplayed}
use Rattle.network.specs.declared.unplayed.Unplayed.TheVariants.{Memory, Refused, Failed}
use Rattle.network.proofs.Stages.{put_here}
use Rattle.network.proofs.Stands.{after_make, after_sync, among_yes, state_kept}
use Rattle.network.proofs.Walk.{after_one}
use Rattle.replica.specs.Model.{entry_made, make_refusal, serves, slip_after}

-- guests are no part of what a stage is
stands_again : (t : Stage) (es now : List Event) → (after now).hut ≡ (after es).hut → (after now).sent ≡ (after es).sent → Stands t es → Stands t now
stands_again t es now hut sent stands = record { follows = rw hut stands.follows; as_many = rw sent stands.as_many; sent = λ i within. rw sent (stands.sent i within) }

-- what an act answers, as a call says it
abbrev Answered : Stage → ℕ → ℕ → Act → Result Done Unplayed → Type 0
Answered s i n act r =
    MatchResult r (Told (huts_of s) i n act) (λ e. elim e [ Memory ↦ writes act ≡ true | Refused w ↦ Denied (huts_of s) i n act w | Failed f ↦ ⊥ ])

module _ (s t : Stage) (i : ℕ) (within : i < length (huts_of s)) (es : List Event) (stands : Stands s es) (g n : ℕ) where
  abbrev h : ℕ
  h = hut_at (huts_of s) i

  abbrev net : Net
  net = after es

  abbrev guest : Guest
  guest = net.guest g

  known : state_at (huts_of s) i ≡ state_in (net.hut h)
  known = state_kept s t i within es stands

  is_served : (slip : List ℕ) (b : Bool) → guest.slip ≡ slip → serves slip (state_at (huts_of s) i) ≡ b → served guest (net.hut h) ≡ b
  is_served slip b same told = ap (λ x. serves x (state_in (net.hut h))) same ∙ ap (serves slip) (sym known) ∙ told

  after_visit : served guest (net.hut h) ≡ true → after (es ++ Visits g h ∷ []) ≡ with_guest g (shown guest (net.hut h)) (with_hut h (synced (net.hut h)) net)
  after_visit granted =
      after_one es (Visits g h) ∙ among_yes h (visit g h net) net (stands.follows.small i within)
      ∙ ap (λ b. cond b (with_guest g (shown guest (net.hut h)) (with_hut h (synced (net.hut h)) net)) net) granted

  -- what it carries then
  carried : served guest (net.hut h) ≡ true → ((after (es ++ Visits g h ∷ [])).guest g).slip ≡ slip_after guest.slip (state_in (net.hut h))
  carried granted = ap (λ (m : Net). (m.guest g).slip) (after_visit granted) ∙ ap (λ (x : Guest). x.slip) (put_here g g (shown guest (net.hut h)) net.guest refl)

  as_synced : Stands t (es ++ Syncs h ∷ []) → served guest (net.hut h) ≡ true → Stands t (es ++ Visits g h ∷ [])
  as_synced on granted =
      let is = after_visit granted in
      let synced-is = after_sync es h (stands.follows.small i within) in
      stands_again t (es ++ Syncs h ∷ []) (es ++ Visits g h ∷ []) (ap (λ (m : Net). m.hut) is ∙ sym (ap (λ (m : Net). m.hut) synced-is))
      (ap (λ (m : Net). m.sent) is ∙ sym (ap (λ (m : Net). m.sent) synced-is)) on

  visited : (slip : Vector) (r : Result Done Unplayed) → guest.slip ≡ slip.stamps → Answered s i n (acts.Visit slip) r → Went s t i (acts.Visit slip) r es → Visited t h r es g
  visited slip (Ok d) same told went =
      let granted = is_served slip.stamps true same told.2 in
      let slip-is = told.3 ∙ ap (slip_after slip.stamps) known ∙ ap (λ x. slip_after x (state_in (net.hut h))) (sym same) ∙ sym (carried granted) in
      (granted, as_synced (subst (λ (more : List Event). Stands t (es ++ more)) went.2 went.1) granted, (told.0, told.1, slip-is))
  visited slip (Err Memory) same told went = absurd (false≢true told)
  visited slip (Err (Refused w)) same told went =
      (is_served slip.stamps false same told.0, subst (λ (more : List Event). Stands t (es ++ more)) went.2 went.1)
  visited slip (Err (Failed f)) same told went = absurd told

  after_made :
      (kind : PlainKind) → served guest (net.hut h) ≡ true → make_refusal kind (state_in (net.hut h)) ≡ None
      → after (es ++ MakesFor g h kind ∷ []) ≡ with_guest g (gives guest (entry_made kind (state_in (net.hut h)))) (with_hut h (synced (makes kind (net.hut h))) net)
  after_made kind granted fine =
      after_one es (MakesFor g h kind) ∙ among_yes h (makes_for g h kind net) net (stands.follows.small i within)
      ∙ ap (λ b. cond b (unless_refused (make_refusal kind (state_in (net.hut h))) net made) net) granted ∙ ap (λ o. unless_refused o net made) fine
    where
      made : Net
      made = with_guest g (gives guest (entry_made kind (state_in (net.hut h)))) (with_hut h (synced (makes kind (net.hut h))) net)

  made_for :
      (kind : Kind) (r : Result Done Unplayed) → served guest (net.hut h) ≡ true → Answered s i n (acts.Make kind) r → Went s t i (acts.Make kind) r es
      → MatchResult r (λ _. Stands t (es ++ MakesFor g h (plain_kind kind) ∷ [])) (λ _. Stands t es)
  made_for kind (Ok d) granted told went =
      let is = after_made (plain_kind kind) granted (ap (make_refusal (plain_kind kind)) (sym known) ∙ told.2) in
      let made-is = after_make es h (stands.follows.small i within) (plain_kind kind) in
      stands_again t _ _ (ap (λ (m : Net). m.hut) is ∙ sym (ap (λ (m : Net). m.hut) made-is)) (ap (λ (m : Net). m.sent) is ∙ sym (ap (λ (m : Net). m.sent) made-is))
      (subst (λ (more : List Event). Stands t (es ++ more)) went.2 went.1)
  made_for kind (Err Memory) granted told went = absurd (false≢true told)
  made_for kind (Err (Refused w)) granted told went =
      subst (Stands t) (append-nil es) (subst (λ (more : List Event). Stands t (es ++ more)) went.2 went.1)
  made_for kind (Err (Failed f)) granted told went = absurd told

  -- THEOREM: what is shown to a guest, and made for it, is so in the model
  pub for_guest : (act : Act) (r : Result Done Unplayed) → Answered s i n act r → Went s t i act r es → ForGuest s t i act r es g
  for_guest (acts.Visit slip) r told went = λ same. visited slip r same told went
  for_guest (acts.Make kind) r told went = λ granted. made_for kind r granted told went
  for_guest acts.Commit r told went = tt
  for_guest acts.Sync r told went = tt
  for_guest (acts.Write has) r told went = tt
  for_guest (acts.Take letter) r told went = tt
  for_guest (acts.Cut letter len) r told went = tt
  for_guest (acts.Crash left) r told went = tt
