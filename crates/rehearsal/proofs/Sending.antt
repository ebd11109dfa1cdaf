-- A letter is written for what another hut has.
use Rattle.std.proofs.Common.{◌≡◌, ◌<◌, ◌≤◌, ◌⊎◌, ℕ, true, List, [], ◌∷◌, ◌++◌, Option, None, Some, MatchOption, Result, Ok, Err, MatchResult, OnOk, get_or, length, vec_items, vec_len, ⊎_elim, inl, inr, refl, sym, ap, subst, ◌∙◌, append-nil, append_assoc, arith}
use Rattle.std.specs.Global.{Vec}
use Rattle.std.proofs.lemmas.Bool.{true≢false}
use Rattle.std.proofs.lemmas.List.{get_or_default, length-map}
use Rattle.entry_log.specs.Logs.{all_of}
use Rattle.entry_log.specs.Vectors.{vector_of}
use Rattle.journal.specs.History.{Kept, state_in, synced}
use Rattle.network.proofs.Stages.{put_here, some_hut, state_here}
use Rattle.network.proofs.Stands.{after_sync}
use Rattle.network.specs.Net.{Event, Net, Syncs, Writes, after, huts}
use Rattle.network.specs.Stages.{Hut, Synced, Turns, Unsynced, hut_at, huts_of, state_at}
use Rattle.network.specs.Stands.{Stands, Stays}
use Rattle.network.specs.declared.act.Act.TheVariants as acts
use Rattle.network.specs.declared.unplayed.Unplayed.{Unplayed}
use Rattle.network.specs.declared.unplayed.Unplayed.TheVariants.{Memory, Refused, Failed}
use Rattle.network.specs.declared.stage.Stage.{Stage}
use Rattle.replica.specs.Model.{State}
use Rattle.replica.specs.declared.summary.Summary.{Summary}
use Rattle.rehearsal.specs.Carrying.{KeptAt, PlacedAt, sends}

-- a replica that is synced does not wait to be
not_unsynced :
    (qs : List Hut) (p : ℕ) → p < length qs → Synced qs p → Unsynced qs p → ⊥
not_unsynced qs p within synced-is unsynced =
    let q = some_hut qs p within in true≢false (sym (synced-is q) ∙ unsynced q)

pub once_synced :
    {X E : Type 0} (qs : List Hut) (p : ℕ) (r : Result X E) → p < length qs
    → MatchResult r (λ _. Synced qs p) (λ _. Unit {0}) → OnOk r (Unsynced qs p → ⊥)
once_synced qs p (Ok x) within said = not_unsynced qs p within said
once_synced qs p (Err e) within said = tt

-- it is lent just where nothing of it waits
pub lent : {X : Type 0} (qs : List Hut) (p : ℕ) (r : Option X) (S : X → Type 0) → p < length qs
    → MatchOption r (Unsynced qs p) (λ x. S x × Synced qs p) → MatchOption r (Unsynced qs p) (λ x. S x × (Unsynced qs p → ⊥))
lent qs p None S within unsynced = unsynced
lent qs p (Some x) S within shown = (shown.0, not_unsynced qs p within shown.1)

low : (s : Stage) (es : List Event) (hut p : ℕ) → Stands s es → PlacedAt (huts_of s) hut p → hut < huts
low s es hut p stands there = subst (λ (h : ℕ). h < huts) there.1 (stands.follows.small p there.0)

-- the replica at a place is what is kept of it, also once it is synced
pub state_known : (qs : List Hut) (i : ℕ) (k : Kept) → i < length qs → KeptAt qs i k → state_at qs i ≡ state_in k
state_known qs i k within (kept, follows, is) =
    let q = some_hut qs i within in
    state_here qs i (get_or qs i q) within (get_or_default qs i q (get_or qs i q) within) ∙ (follows.in_step i q within).state ∙ ap state_in is

-- the replica of a hut is the one that the hut has kept
state_kept : (s : Stage) (es : List Event) (hut p : ℕ) → Stands s es → PlacedAt (huts_of s) hut p → state_at (huts_of s) p ≡ state_in ((after es).hut hut)
state_kept s es hut p stands there = state_known (huts_of s) p _ there.0 (_, stands.follows, ap (after es).hut there.1)

-- a sync changes neither what a hut has nor the letters
sync_keeps : (es : List Event) (hut : ℕ) → hut < huts → state_in ((after (es ++ Syncs hut ∷ [])).hut hut) ≡ state_in ((after es).hut hut)
sync_keeps es hut low =
    ap (λ (n : Net). state_in (n.hut hut)) (after_sync es hut low) ∙ ap state_in (put_here hut hut (synced ((after es).hut hut)) (after es).hut refl)

-- once the receiver is synced, the stage has as many letters as were sent before
pub next_letter :
    (s : Stage) (es : List Event) (hut p : ℕ) → Stands s (es ++ Syncs hut ∷ []) → PlacedAt (huts_of s) hut p → vec_len s.letters ≡ length (after es).sent
next_letter s es hut p stands there =
    s.letters.ok.0 ∙ sym (length-map (vec_items s.letters) (λ (l : Vec ℕ). vec_items l)) ∙ stands.as_many
    ∙ ap (λ (n : Net). length n.sent) (after_sync es hut (low s (es ++ Syncs hut ∷ []) hut p stands there))

-- and what it is asked for is what it had
pub sent_for :
    (s t : Stage) (es : List Event) (from to p : ℕ) (has : Summary) → Stands s (es ++ Syncs to ∷ []) → PlacedAt (huts_of s) to p
    → has.committed ≡ length (state_at (huts_of s) p).log.committed → has.vector.stamps ≡ vector_of (all_of (state_at (huts_of s) p).log)
    → Stands t ((es ++ Syncs to ∷ []) ++ Writes from has.committed has.vector.stamps ∷ []) → Stands t (es ++ sends from to ((after es).hut to))
sent_for s t es from to p has stands there count stamps on =
    let same = state_kept s (es ++ Syncs to ∷ []) to p stands there ∙ sync_keeps es to (low s (es ++ Syncs to ∷ []) to p stands there) in
    let count-is = count ∙ ap (λ (x : State). length x.log.committed) same in
    let stamps-is = stamps ∙ ap (λ (x : State). vector_of (all_of x.log)) same in
    subst (λ (now : List Event). Stands t now)
    (append_assoc es (Syncs to ∷ []) (Writes from has.committed has.vector.stamps ∷ [])
    ∙ ap (λ (x : ℕ). es ++ Syncs to ∷ Writes from x has.vector.stamps ∷ []) count-is ∙ ap (λ (v : List ℕ). es ++ Syncs to ∷ Writes from (length (state_in ((after es).hut to)).log.committed) v ∷ []) stamps-is) on

-- a replica that is synced is shown
pub shows_synced :
    {X : Type 0} (s : Stage) (p : ℕ) (r : Option X) (P : X → Type 0) → p < length (huts_of s)
    → Synced (huts_of s) p → r ≡ None → MatchOption r ((length (huts_of s) ≤ p) ⊎ Unsynced (huts_of s) p) P → ⊥
shows_synced s p r P within synced none told =
    ⊎_elim (λ behind. omega (arith, within, behind)) (not_unsynced (huts_of s) p within synced)
    (subst (λ x. MatchOption x ((length (huts_of s) ≤ p) ⊎ Unsynced (huts_of s) p) P) none told)

-- where no letter is written the sender is as it was, or synced
pub not_sent : (h : ℕ) (has : Summary) (e : Unplayed) (more : List Event) → Stays h (acts.Write has) e more → (more ≡ []) ⊎ (more ≡ Syncs h ∷ [])
not_sent h has Memory more stays = stays
not_sent h has (Refused w) more stays = inl stays
not_sent h has (Failed f) more stays = absurd stays

pub unsent :
    (t : Stage) (es more later : List Event) (from to : ℕ) → more ≡ Syncs to ∷ [] → (later ≡ []) ⊎ (later ≡ Syncs from ∷ []) → Stands t ((es ++ more) ++ later)
    → Stands t es ⊎ Stands t (es ++ Syncs to ∷ []) ⊎ Stands t (es ++ Syncs to ∷ Syncs from ∷ [])
unsent t es more later from to synced left on =
    let begun = es ++ Syncs to ∷ [] in
    let receiver = ap (λ (x : List Event). (es ++ x) ++ later) synced in
    ⊎_elim (λ none. inr (inl (subst (Stands t) (receiver ∙ ap (λ (x : List Event). begun ++ x) none ∙ append-nil begun) on)))
    (λ sender. inr (inr (subst (Stands t) (receiver ∙ ap (λ (x : List Event). begun ++ x) sender ∙ append_assoc es (Syncs to ∷ []) (Syncs from ∷ [])) on))) left
